-- Get: n addresses in, n values out.
use Rattle.std.specs.Prelude.{◌≡◌, ℕ, ◌/◌, ◌%◌, ◌<◌, List, [], ◌∷◌, length, slice_index}
use Rattle.tables.specs.declared.address.Address.{Address}
use Rattle.tables.specs.Places.{NamesCell}
use Rattle.transfers.specs.declared.refusal.Refusal.{Refusal}
use Rattle.transfers.specs.declared.refusal.Refusal.TheVariants.{NoNumber}
use Rattle.transfers.specs.Items.{Whole, Miscounted, count_in, address_at, address_place}

-- what a request comes to: a reply of these octets, or a refusal
pub data Outcome : Type 0 where
  accepted : List ℕ → Outcome
  refused : Refusal → Outcome

-- numbers as two octets each, the high one first
abbrev pub two_octets : List ℕ → List ℕ
two_octets [] = []
two_octets (v ∷ vs) = v / 256 ∷ v % 256 ∷ two_octets vs

-- the address names a number, and this is its value in the table
abbrev pub Value : List ℕ → Address → ℕ → Type 0
Value cells a v = (n : ℕ) × NamesCell a n × (v ≡ slice_index cells n)

-- the address names no number
abbrev pub Nameless : Address → Type 0
Nameless a = (n : ℕ) → NamesCell a n → ⊥

-- these are the values of the first n addresses
pub record Values (cells body : List ℕ) (n : ℕ) (vs : List ℕ) : Type 0 where
  pub count : length vs ≡ n
  pub each : (k : ℕ) → k < n → Value cells (address_at body k) (slice_index vs k)

-- address k is the first of n that names no number
pub record FirstNameless (body : List ℕ) (n k : ℕ) : Type 0 where
  pub within : k < n
  pub here : Nameless (address_at body k)
  pub before : (j : ℕ) → j < k → (c : ℕ) × NamesCell (address_at body j) c

-- what a get comes to on a table; the body is what follows the operation's octet
pub data Got (cells body : List ℕ) (o : Outcome) : Type 0 where
  miscounted : (e : Refusal) → Miscounted 4 body e → o ≡ refused e → Got cells body o
  nameless : (k : ℕ) → Whole 4 body → FirstNameless body (count_in body) k → o ≡ refused (NoNumber (address_place k)) → Got cells body o
  values : (vs : List ℕ) → Whole 4 body → Values cells body (count_in body) vs → o ≡ accepted (0 ∷ count_in body ∷ two_octets vs) → Got cells body o
