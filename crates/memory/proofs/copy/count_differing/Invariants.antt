use Rattle.std.proofs.Common.{◌≡◌, ◌+◌, ◌≤◌, drop}
use Rattle.memory.specs.Cells.{differing}
use Rattle.memory.proofs.copy.count_differing.Given as goal

abbrev pub invariant-loop-at : goal.invariant-loop-at
invariant-loop-at g l =
    (l.found + differing (drop l.at (g.A.ParameterMemory.cells l.initial.a)) (drop l.at (g.B.ParameterMemory.cells l.initial.b))
    ≡ differing (g.A.ParameterMemory.cells l.initial.a) (g.B.ParameterMemory.cells l.initial.b))
    × (l.found ≤ l.at)
    × (g.A.ParameterMemory.cells l.a ≡ g.A.ParameterMemory.cells l.initial.a)
    × (g.B.ParameterMemory.cells l.b ≡ g.B.ParameterMemory.cells l.initial.b)
    × (g.A.ParameterMemory.kept l.a ≡ g.A.ParameterMemory.kept l.initial.a)
    × (g.B.ParameterMemory.kept l.b ≡ g.B.ParameterMemory.kept l.initial.b)
    × g.A.ParameterMemory.sound l.a
    × g.B.ParameterMemory.sound l.b
