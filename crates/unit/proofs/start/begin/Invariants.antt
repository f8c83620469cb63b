use Rattle.std.proofs.Common.{◌≡◌, length, take}
use Rattle.memory.specs.Top.{cell_count}
use Rattle.tables.specs.Factory.{factory}
use Rattle.unit.proofs.start.begin.Given as goal

-- the cells so far are the factory table's
abbrev pub invariant-loop-cell : goal.invariant-loop-cell
invariant-loop-cell g l =
    (take l.cell (g.R.ParameterMemory.cells l.running) ≡ take l.cell factory)
    × (length (g.R.ParameterMemory.cells l.running) ≡ cell_count)
    × (g.R.ParameterMemory.kept l.running ≡ g.R.ParameterMemory.kept l.initial.running)
    × g.R.ParameterMemory.sound l.running
