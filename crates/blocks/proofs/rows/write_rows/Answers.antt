use Rattle.std.proofs.Common.{◌≡◌, ◌+◌, ◌<◌, ◌++◌, length, sym, ap, ◌∙◌, subst, arith}
use Rattle.replies.specs.Replies.{Grew}
use Rattle.replies.proofs.ReplyFacts.{grew_more}
use Rattle.replies.proofs.ReplyFacts.{grew_room}
use Rattle.headers.specs.Headers.{rows_in}
use Rattle.blocks.specs.Layouts.{cells_at}
use Rattle.blocks.specs.Rows.{row_in, rows_octets, rows_shown}
use Rattle.blocks.proofs.LayoutFacts.{cells_held}
use Rattle.blocks.proofs.RowFacts.{row_stands, room_left, octets_more, one_more_of}
use Rattle.blocks.proofs.rows.write_rows.Goals as goal

pub emit-requires : goal.emit-requires
emit-requires g c =
    let f = g.F.Family in
    let inv = c.loop-row.invariant in
    let k = c.loop-row.row in
    let sp = c.args.spans in
    let cells = g.M.ParameterMemory.cells c.args.memory.now in
    let less : k < rows_in sp = omega arith in
    let left = room_left c.args.reply.now.position.now.length (rows_in sp) k f.layout.most (length c.args.reply.now.octets.now) c.requires.room less in
    let shown : c.load-shown.result ≡ row_in cells f.FAMILY f.layout sp k =
    c.load-shown.ensures.loaded ∙ (λ j. f.layout.row_of (cells_at (inv.2 j) (c.first_cell.ensures.cell j) f.layout.carried)) in
    let met = g.met.F.Family.lawful in
    record {
      fits = subst f.layout.fits (sym shown) (met.loaded _ (cells_held f.FAMILY _ _ (row_stands f.FAMILY sp k c.requires.table less) cells c.requires.bounded f.layout.carried met.stand));
      room = grew_room f.layout.most inv.0 (omega (arith, left, inv.1, inv.0.wrote.len));
    }

pub loop-row-preserved : goal.loop-row-preserved
loop-row-preserved g c =
    let f = g.F.Family in
    let inv = c.loop-row.invariant in
    let k = c.loop-row.row in
    let sp = c.args.spans in
    let cells = g.M.ParameterMemory.cells c.args.memory.now in
    let shown : c.load-shown.result ≡ row_in cells f.FAMILY f.layout sp k =
    c.load-shown.ensures.loaded ∙ (λ j. f.layout.row_of (cells_at (inv.2 j) (c.first_cell.ensures.cell j) f.layout.carried)) in
    let less : k < rows_in sp = omega arith in
    let met = g.met.F.Family.lawful in
    let fit = subst f.layout.fits (sym shown) (met.loaded _ (cells_held f.FAMILY _ _ (row_stands f.FAMILY sp k c.requires.table less) cells c.requires.bounded f.layout.carried met.stand)) in
    let few = met.short c.load-shown.result fit in
    let e : rows_octets f.layout.octets k (rows_shown cells f.FAMILY f.layout sp k) ++ f.layout.octets c.load-shown.result ≡ rows_octets f.layout.octets (k + 1) (rows_shown cells f.FAMILY f.layout sp (k + 1)) =
    ap (λ r. rows_octets f.layout.octets k (rows_shown cells f.FAMILY f.layout sp k) ++ f.layout.octets r) shown ∙ sym (octets_more f.layout.octets (row_in cells f.FAMILY f.layout sp) k) in (
      subst (Grew c.args.reply.now c.emit.new.reply) e (grew_more inv.0 c.emit.ensures),
      omega (arith, inv.1, c.emit.ensures.wrote.len, one_more_of k f.layout.most, few),
      c.load-shown.ensures.read.same ∙ inv.2,
      c.load-shown.ensures.read.kept ∙ inv.3,
      c.load-shown.ensures.read.sound,
    )
