use Rattle.std.proofs.Common.{◌≡◌, ◌+◌, ◌<◌, ◌++◌, length, refl, ap, ◌∙◌, subst, arith, length-append}
use Rattle.std.proofs.lemmas.Result.{err_from_is_err_and}
use Rattle.lists.specs.Items.{items, room}
use Rattle.values.proofs.Parts.{each_of_length}
use Rattle.headers.specs.Headers.{rows_in}
use Rattle.blocks.specs.Layouts.{Holds, placed}
use Rattle.blocks.proofs.LayoutFacts.{placed-length}
use Rattle.blocks.proofs.RowFacts.{room_left, one_read, one_more_of, one_wrong}
use Rattle.blocks.proofs.rows.read_rows.Goals as goal

pub returns-in_err-read : goal.returns-in_err-read
returns-in_err-read g c =
    let f = g.F.Family in
    let less : c.loop-row.row < rows_in c.args.spans = omega arith in
    let p = err_from_is_err_and c.from_residual.result c.from_residual.ensures.1 in
    rw (p.1, p.2) (record { faults = one_wrong f.FAMILY f.layout c.args.spans c.loop-row.row (rows_in c.args.spans) less c.loop-row.invariant.2 _ c.in_err-read.ensures.faults; stays = refl })

pub stage-requires-clause-room : goal.stage-requires-clause-room
stage-requires-clause-room g c =
    let f = g.F.Family in
    let inv = c.loop-row.invariant in
    let less : c.loop-row.row < rows_in c.args.spans = omega arith in
    let left = room_left (length (items c.args.list.now)) (rows_in c.args.spans) c.loop-row.row (length f.layout.carried) (room c.args.list.now) c.requires.room less in
    omega (arith, left, inv.0, inv.1)

pub loop-row-preserved : goal.loop-row-preserved
loop-row-preserved g c =
    let f = g.F.Family in
    let row = c.in_ok-read.read in
    let inv = c.loop-row.invariant in
    let t = c.in_ok-read.ensures in
    let k = c.loop-row.row in
    let base = c.first_cell.result in
    let met = g.met.F.Family.lawful in
    let a = c.loop-row.ahead in
    let ok = met.written.ok a.octets.now a.at row c.parse.new.reader.at t.means in
    let many : length (f.layout.values row) ≡ length f.layout.carried = each_of_length (Holds f.FAMILY) f.layout.carried (f.layout.values row) (met.held row ok) in
    let w = placed base f.layout.carried (f.layout.values row) in
    let n : length (items c.stage.new.list) ≡ length (items c.loop-row.list) + length w = ap length c.stage.ensures.pushed ∙ length-append (items c.loop-row.list) w in
    let p = subst (λ b. items c.stage.new.list ≡ items c.loop-row.list ++ placed b f.layout.carried (f.layout.values row)) c.first_cell.ensures.cell c.stage.ensures.pushed in (
      c.stage.ensures.room ∙ inv.0,
      omega (arith, n, placed-length base f.layout.carried (f.layout.values row) many, inv.1, one_more_of k (length f.layout.carried)),
      one_read f.FAMILY f.layout c.args.spans k inv.2 t p,
    )
