use Rattle.std.proofs.Common.{◌<◌, length, ap, ◌∙◌, arith}
use Rattle.std.proofs.lemmas.List.{length_push}
use Rattle.std.proofs.lemmas.Slice.Zip.{zip_turn}
use Rattle.lists.specs.Items.{items, room}
use Rattle.blocks.proofs.CellFacts.{taken, number_staged}
use Rattle.blocks.proofs.cells.stage_numbers.Goals as goal

pub loop-column-preserved : goal.loop-column-preserved
loop-column-preserved c =
    let cs = c.args.columns.now in
    let vs = c.args.numbers.now in
    let inv = c.loop-column.invariant in
    let n = length c.loop-column.yielded in
    let t = zip_turn cs vs c.loop-column.yielded c.into_iter-column-iterator.result c.loop-column.column-iterator c.next.new.self c.next.result (cc) (cc) c.loop-column.yielded_by _ c.in-Some.is c.next.ensures.steps in
    let free : length (items c.loop-column.list) < room c.loop-column.list = omega (arith, c.requires.room, inv.0, inv.1, t.1) in
    let took = taken c.push.result _ _ _ _ c.push.ensures.items c.push.ensures.refused free in
    rw length_push (
      c.push.ensures.room ∙ inv.0,
      ap length took ∙ length_push (items c.loop-column.list) _ ∙ omega (arith, inv.1),
      number_staged c.args.base cs vs n _ _ _ t.0 t.1 inv.2 (rw (t.2 0, t.3 0) at took),
    )
