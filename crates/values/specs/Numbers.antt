-- A number of one octet or two, the high one first, as its column has it.
use Rattle.std.specs.Prelude.{◌≡◌, ℕ, ◌+◌, ◌*◌, ◌/◌, ◌%◌, ◌<◌, ◌≤◌, true, cond, List, [], ◌∷◌, length, Some, None, ◌==◌, slice_index}
use Rattle.tables.specs.declared.columns.Column.{Column}
use Rattle.tables.specs.Allowed.{allows, stored}
use Rattle.values.specs.declared.Fault.{Fault}
use Rattle.values.specs.declared.Fault.TheVariants.{NotAllowed, Missing}
use Rattle.values.specs.Reading.{Reading, each, total}

-- how many octets a number of the column takes
abbrev pub size : Column → ℕ
size c = cond (c.width == 2) 2 1

-- the number that stands at an offset
abbrev pub sent : Column → List ℕ → ℕ → ℕ
sent c s i = cond (c.width == 2) (slice_index s i * 256 + slice_index s (i + 1)) (slice_index s i)

-- the octets are there, and this value is stored for the number that they are
pub record NumberMeans (c : Column) (s : List ℕ) (i v j : ℕ) : Type 0 where
  pub there : i + size c ≤ length s
  pub is : stored c (sent c s i) ≡ Some v
  pub takes : j ≡ i + size c

-- a number is judged when all its octets are there, and named by its first
pub data NumberFaults (c : Column) (s : List ℕ) (i : ℕ) (w : Fault) : Type 0 where
  bad : i + size c ≤ length s → stored c (sent c s i) ≡ None → w ≡ NotAllowed i → NumberFaults c s i w
  gone : length s < i + size c → w ≡ Missing → NumberFaults c s i w

abbrev pub number : Column → Reading ℕ
number c = record { Means = NumberMeans c; Faults = NumberFaults c }

-- a number for each column
abbrev pub numbers : List Column → Reading (List ℕ)
numbers = each number

-- the values that a column may have, and those that its octets can show
abbrev pub Allowed : Column → ℕ → Type 0
Allowed c v = allows c v ≡ true

abbrev pub Fits : Column → ℕ → Type 0
Fits c v = v ≤ cond (c.width == 2) 65535 255

-- what a value is written as
abbrev pub octets : Column → ℕ → List ℕ
octets c v = cond (c.width == 2) (v / 256 ∷ v % 256 ∷ []) (v ∷ [])

-- how many octets a number of each column takes, together
abbrev pub sizes : List Column → ℕ
sizes = total size
