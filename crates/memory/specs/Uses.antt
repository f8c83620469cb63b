-- What is left of a parameter memory that was used.
use Rattle.std.specs.Prelude.{◌≡◌}
use Rattle.memory.specs.declared.ParameterMemory.{Ghosts}

-- the memory was read, and nothing of it changed
pub record OnlyRead {M : Type 0} (m : Ghosts M) (before after : M) : Type 0 where
  pub sound : m.sound after
  pub same : m.cells after ≡ m.cells before
  pub kept : m.kept after ≡ m.kept before

-- at most cells of the memory changed
pub record CellsAlone {M : Type 0} (m : Ghosts M) (before after : M) : Type 0 where
  pub sound : m.sound after
  pub kept : m.kept after ≡ m.kept before
