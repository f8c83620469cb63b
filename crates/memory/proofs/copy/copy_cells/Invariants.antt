use Rattle.std.proofs.Common.{◌≡◌, length, take}
use Rattle.memory.proofs.copy.copy_cells.Given as goal

abbrev pub invariant-loop-at : goal.invariant-loop-at
invariant-loop-at g l =
    (take l.at (g.B.ParameterMemory.cells l.to) ≡ take l.at (g.A.ParameterMemory.cells l.initial.from))
    × (length (g.B.ParameterMemory.cells l.to) ≡ length (g.A.ParameterMemory.cells l.initial.from))
    × (g.A.ParameterMemory.cells l.from ≡ g.A.ParameterMemory.cells l.initial.from)
    × (g.A.ParameterMemory.kept l.from ≡ g.A.ParameterMemory.kept l.initial.from)
    × (g.B.ParameterMemory.kept l.to ≡ g.B.ParameterMemory.kept l.initial.to)
    × g.A.ParameterMemory.sound l.from
    × g.B.ParameterMemory.sound l.to
