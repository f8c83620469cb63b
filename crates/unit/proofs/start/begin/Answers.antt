use Rattle.std.proofs.Common.{◌+◌, length, take, sym, ap, ◌∙◌, arith}
use Rattle.memory.specs.Cells.{written}
use Rattle.unit.proofs.StartFacts.{factory_step, factory_end}
use Rattle.unit.proofs.start.begin.Goals as goal

pub loop-cell-preserved : goal.loop-cell-preserved
loop-cell-preserved g c =
    let inv = c.loop-cell.invariant in
    let cells = g.R.ParameterMemory.cells c.loop-cell.running in
    let s = factory_step cells c.loop-cell.cell (omega arith) inv.1 inv.0 in
    let w = c.write.ensures.after ∙ ap (written cells c.loop-cell.cell) c.factory_value.ensures in (
      ap (take (c.loop-cell.cell + 1)) w ∙ s.0,
      ap length w ∙ s.1,
      c.write.ensures.kept ∙ inv.2,
      c.write.ensures.sound,
    )

pub returns-clause-started : goal.returns-clause-started
returns-clause-started g c =
    let inv = c.loop-cell.invariant in
    record {
      count = sym c.count.ensures.value ∙ omega arith;
      cells = factory_end _ c.loop-cell.cell (omega arith) inv.1 inv.0;
      mode = c.new.result.is;
    }
