use Rattle.std.proofs.Common.{◌≡◌, ℕ, ◌+◌, ◌<◌, get_or}
use Rattle.blocks.proofs.cells.load_octets.Given as goal

-- the octets so far are loaded
abbrev pub invariant-loop-i : goal.invariant-loop-i
invariant-loop-i g l =
    ((k : ℕ) → k < l.i → get_or l.out k 0 ≡ get_or (g.M.ParameterMemory.cells l.initial.memory) (l.from + k) 0)
    × (g.M.ParameterMemory.cells l.memory ≡ g.M.ParameterMemory.cells l.initial.memory)
    × (g.M.ParameterMemory.kept l.memory ≡ g.M.ParameterMemory.kept l.initial.memory)
    × g.M.ParameterMemory.sound l.memory
