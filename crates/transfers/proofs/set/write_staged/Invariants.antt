use Rattle.std.proofs.Common.{◌≡◌, length, take}
use Rattle.memory.specs.Top.{cell_count}
use Rattle.transfers.specs.Sets.{Taken}
use Rattle.transfers.proofs.set.write_staged.Given as goal

-- the draft has taken the writes so far
abbrev pub invariant-loop-write : goal.invariant-loop-write
invariant-loop-write g l =
    Taken (g.D.ParameterMemory.cells l.initial.draft) (take l.write-index l.writes) (g.D.ParameterMemory.cells l.draft)
    × (length (g.D.ParameterMemory.cells l.draft) ≡ cell_count)
    × (g.D.ParameterMemory.kept l.draft ≡ g.D.ParameterMemory.kept l.initial.draft)
    × g.D.ParameterMemory.sound l.draft
