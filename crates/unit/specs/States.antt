-- What the typed calls do.
use Rattle.std.specs.Prelude.{◌≡◌, ℕ, ◌<◌, ◌≤◌, List, [], ◌∷◌, length, Ok, Err, Result, ◌≢◌}
use Rattle.memory.specs.Top.{cell_count}
use Rattle.tables.specs.Factory.{factory}
use Rattle.transfers.specs.declared.refusal.Refusal.{Refusal}
use Rattle.transfers.specs.declared.refusal.Refusal.TheVariants.{MemoryCount, Room}
use Rattle.transfers.specs.Gets.{Outcome, accepted, refused}
use Rattle.unit.specs.declared.states.State.{State}
use Rattle.unit.specs.declared.states.Unopened.{Unopened}

-- the running memory has become the factory table, and no edit is open
pub record Started (before after : List ℕ) (q : State 0) : Type 0 where
  pub count : length before ≡ cell_count
  pub cells : after ≡ factory
  pub mode : q.mode ≡ 0

-- the count is wrong, and nothing changed
pub record NotStarted (before after : List ℕ) (e : Refusal) : Type 0 where
  pub count : length before ≡ cell_count → ⊥
  pub cells : after ≡ before
  pub refusal : e ≡ MemoryCount

-- both memories have the table's cells
pub record BothCounts (r d : List ℕ) : Type 0 where
  pub running : length r ≡ cell_count
  pub draft : length d ≡ cell_count

-- the draft has become the running table
pub record Opened (running before after : List ℕ) (e : State 1) : Type 0 where
  pub counts : BothCounts running before
  pub draft : after ≡ running
  pub mode : e.mode ≡ 1

-- a count is wrong, and nothing changed
pub record NotOpened (q : State 0) (running before after : List ℕ) (u : Unopened) : Type 0 where
  pub counts : BothCounts running before → ⊥
  pub draft : after ≡ before
  pub state : u.state ≡ q
  pub refusal : u.refusal ≡ MemoryCount

-- an edit of a draft of any count, with room for any number of writes
pub data SetHere (SetTo : Outcome → Type 0) (before : List ℕ) (room : ℕ) (r : Result (Unit {0}) Refusal) (after : List ℕ) : Type 0 where
  wrong_count : (length before ≢ cell_count) → r ≡ Err MemoryCount → after ≡ before → SetHere SetTo before room r after
  no_room : length before ≡ cell_count → room < 1024 → r ≡ Err Room → after ≡ before → SetHere SetTo before room r after
  turned_away : (e : Refusal) → length before ≡ cell_count → 1024 ≤ room → r ≡ Err e → SetTo (refused e) → SetHere SetTo before room r after
  done : length before ≡ cell_count → 1024 ≤ room → r ≡ Ok tt → SetTo (accepted (0 ∷ [])) → SetHere SetTo before room r after
