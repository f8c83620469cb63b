use Rattle.std.proofs.Common.{◌≡◌, ◌+◌, ◌<◌, length, ap, ◌∙◌, arith, rules}
use Rattle.std.proofs.lemmas.List.{length_push}
use Rattle.lists.specs.Items.{items, room}
use Rattle.blocks.proofs.CellFacts.{taken, octet_staged}
use Rattle.blocks.proofs.cells.stage_list.Goals as goal

pub loop-i-preserved : goal.loop-i-preserved
loop-i-preserved c =
    let inv = c.loop-i.invariant in
    let n : 16 ≡ length c.args.phases.now.phases = search rules in
    let begun : length (items c.args.list.now) < room c.args.list.now = omega (arith, c.requires.room) in
    let first = taken c.push.result _ _ _ _ c.push.ensures.items c.push.ensures.refused begun in
    let one : length (items c.push.new.self) ≡ length (items c.args.list.now) + 1 = ap length first ∙ length_push (items c.args.list.now) _ in
    let free : length (items c.loop-i.list) < room c.loop-i.list = omega (arith, c.requires.room, c.push.ensures.room, inv.0, inv.1) in
    let t = taken c.push-in-loop-i.result _ _ _ _ c.push-in-loop-i.ensures.items c.push-in-loop-i.ensures.refused free in (
      c.push-in-loop-i.ensures.room ∙ inv.0,
      ap length t ∙ length_push (items c.loop-i.list) _ ∙ omega (arith, inv.1),
      octet_staged c.args.base c.args.column c.args.phases.now.phases c.loop-i.i _ _ _ (omega arith) inv.2 t,
    )
