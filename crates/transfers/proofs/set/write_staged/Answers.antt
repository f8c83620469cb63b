use Rattle.std.proofs.Common.{◌+◌, ◌<◌, length, take, sym, ap, ◌∙◌, subst, arith}
use Rattle.std.proofs.lemmas.List.{take_all, length-set}
use Rattle.memory.specs.Cells.{written}
use Rattle.memory.proofs.Facts.{written_yes}
use Rattle.transfers.specs.Sets.{Taken, cell_at, value_at, no_write}
use Rattle.transfers.proofs.SetFacts.{taken_next}
use Rattle.transfers.proofs.set.write_staged.Goals as goal

pub loop-write-preserved : goal.loop-write-preserved
loop-write-preserved g c =
    let inv = c.loop-write.invariant in
    let at = c.loop-write.write-index in
    let ws = c.args.writes.now in
    let cells = g.D.ParameterMemory.cells c.loop-write.draft in
    let fit = c.requires.fit at c.loop-write-test.true in
    let h : cell_at ws at < length cells = omega (arith, fit.0, inv.1) in
    let e = c.write.ensures.after ∙ (ap (λ n. written cells n (value_at ws at)) c.from.ensures ∙ written_yes cells (cell_at ws at) (value_at ws at) h fit.1) in (
      subst (Taken (g.D.ParameterMemory.cells c.args.draft.now) (take (at + 1) ws)) (sym e) (taken_next _ cells ws at no_write c.loop-write-test.true h inv.0),
      ap length e ∙ (length-set cells (cell_at ws at) (value_at ws at) ∙ inv.1),
      c.write.ensures.kept ∙ inv.2,
      c.write.ensures.sound,
    )

pub returns-clause-taken : goal.returns-clause-taken
returns-clause-taken g c =
    let inv = c.loop-write.invariant in
    subst (λ ws. Taken (g.D.ParameterMemory.cells c.args.draft.now) ws (g.D.ParameterMemory.cells c.loop-write.draft)) (take_all c.loop-write.write-index c.args.writes.now (omega arith)) inv.0
