use Rattle.std.proofs.Common.{◌≡◌, take}
use Rattle.blocks.specs.Layouts.{cells_at, number_slots}
use Rattle.blocks.proofs.cells.load_numbers.Given as goal

-- the numbers so far are loaded
abbrev pub invariant-loop-i : goal.invariant-loop-i
invariant-loop-i g l =
    (take l.i l.out ≡ cells_at (g.M.ParameterMemory.cells l.initial.memory) l.base (number_slots (take l.i l.columns)))
    × (g.M.ParameterMemory.cells l.memory ≡ g.M.ParameterMemory.cells l.initial.memory)
    × (g.M.ParameterMemory.kept l.memory ≡ g.M.ParameterMemory.kept l.initial.memory)
    × g.M.ParameterMemory.sound l.memory
