-- The unit in a call, and what a call leaves of its memories.
use Rattle.std.specs.Prelude.{◌≡◌}
use Rattle.memory.specs.declared.ParameterMemory.{Ghosts}
use Rattle.unit.specs.declared.call.UnitCall.{UnitCall}
use Rattle.unit.specs.Steps.{Moment, moment}

-- the cells of both memories, and the mode
abbrev pub here : {R D : Type 0} (r : Ghosts R) (d : Ghosts D) → UnitCall R D r d → Moment
here r d u = moment (r.cells u.running.now) (d.cells u.draft.now) u.mode

-- both memories are sound
abbrev pub Sound : {R D : Type 0} (r : Ghosts R) (d : Ghosts D) → UnitCall R D r d → Type 0
Sound r d u = r.sound u.running.now × d.sound u.draft.now

-- the memories are those that were lent, with all that they hold besides their cells
pub record Kept {R D : Type 0} (r : Ghosts R) (d : Ghosts D) (before after : UnitCall R D r d) : Type 0 where
  pub running : after.running.ghost_name ≡ before.running.ghost_name
  pub draft : after.draft.ghost_name ≡ before.draft.ghost_name
  pub running_rest : r.kept after.running.now ≡ r.kept before.running.now
  pub draft_rest : d.kept after.draft.now ≡ d.kept before.draft.now
