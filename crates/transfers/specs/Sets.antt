-- Set: n addresses and n values in; the draft takes all of them, in order, or none.
use Rattle.std.specs.Prelude.{◌≡◌, ℕ, ◌<◌, List, [], ◌∷◌, length, ◌≢◌, slice_index, slice_index_or}
use Rattle.tables.specs.declared.place.Place.{Place}
use Rattle.tables.specs.declared.work.StagedWrite.{StagedWrite}
use Rattle.tables.specs.Places.{Names}
use Rattle.tables.specs.Allowed.{Stores, Forbids}
use Rattle.transfers.specs.declared.refusal.Refusal.{Refusal}
use Rattle.transfers.specs.declared.refusal.Refusal.TheVariants.{NoNumber, NotAllowed}
use Rattle.transfers.specs.Items.{Whole, Miscounted, count_in, address_at, address_place, sent_at, value_place}
use Rattle.transfers.specs.Gets.{Outcome, accepted, refused}

-- what stands past the last write
abbrev pub no_write : StagedWrite
no_write = record { cell = 0; value = 0 }

-- the cell and the value of the k-th write
abbrev pub cell_at : List StagedWrite → ℕ → ℕ
cell_at ws k = (slice_index_or ws k no_write).cell

abbrev pub value_at : List StagedWrite → ℕ → ℕ
value_at ws k = (slice_index_or ws k no_write).value

-- these are the writes that the first m items ask for
pub record Writes (body : List ℕ) (m : ℕ) (ws : List StagedWrite) : Type 0 where
  pub count : length ws ≡ m
  pub each : (k : ℕ) → k < m → Stores (address_at body k) (sent_at body (count_in body) k) (cell_at ws k) (value_at ws k)

-- item k is at fault: its address names no number, or else its value is not allowed there
pub data ItemFault (body : List ℕ) (k : ℕ) (e : Refusal) : Type 0 where
  nameless : ((p : Place) → Names (address_at body k) p → ⊥) → e ≡ NoNumber (address_place k) → ItemFault body k e
  not_allowed : Forbids (address_at body k) (sent_at body (count_in body) k) → e ≡ NotAllowed (value_place (count_in body) k) → ItemFault body k e

-- item k is the first at fault
pub record FirstFault (body : List ℕ) (k : ℕ) (e : Refusal) : Type 0 where
  pub within : k < count_in body
  pub here : ItemFault body k e
  pub before : (j : ℕ) → j < k → (n : ℕ) × (v : ℕ) × Stores (address_at body j) (sent_at body (count_in body) j) n v

-- the table after the writes: a cell that is written has the value of the last write to it, any other is as before
pub record Taken (before : List ℕ) (ws : List StagedWrite) (after : List ℕ) : Type 0 where
  pub count : length after ≡ length before
  pub last : (k : ℕ) → k < length ws → ((j : ℕ) → k < j → j < length ws → cell_at ws j ≢ cell_at ws k) → slice_index after (cell_at ws k) ≡ value_at ws k
  pub others : (c : ℕ) → ((k : ℕ) → k < length ws → cell_at ws k ≢ c) → slice_index after c ≡ slice_index before c

-- what a set comes to on a draft; the body is what follows the operation's octet
pub data SetTo (before body : List ℕ) (o : Outcome) (after : List ℕ) : Type 0 where
  miscounted : (e : Refusal) → Miscounted 6 body e → o ≡ refused e → after ≡ before → SetTo before body o after
  faulty : (k : ℕ) (e : Refusal) → Whole 6 body → FirstFault body k e → o ≡ refused e → after ≡ before → SetTo before body o after
  taken : (ws : List StagedWrite) → Whole 6 body → Writes body (count_in body) ws → o ≡ accepted (0 ∷ []) → Taken before ws after → SetTo before body o after
