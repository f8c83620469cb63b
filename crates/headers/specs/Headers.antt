-- A block's header: data type, data ID, the rows by first index and quantity (and second where the family has two), and their count.
use Rattle.std.specs.Prelude.{◌≡◌, ℕ, zero, suc, ◌+◌, ◌-◌, ◌*◌, ◌/◌, ◌%◌, ◌≤◌, min, cond, List, [], ◌∷◌, nat_lt}
use Rattle.tables.specs.declared.family.FamilyId.{FamilyId}
use Rattle.tables.specs.declared.place.Place.{Place}
use Rattle.tables.specs.Families.{shape_of}
use Rattle.values.specs.declared.Fault.TheVariants.{NotInTable, CountDiffers}
use Rattle.values.specs.Reading.{Reading, item, then, each, seen, held}
use Rattle.headers.specs.declared.Span.{Span}
use Rattle.headers.specs.declared.Spans.{Spans}

-- the data type is 0, a standard block
abbrev pub Standard : Unit {0} → ℕ → Type 0
Standard u x = x ≡ 0

-- the data ID is the family's
abbrev pub Identifies : FamilyId → ℕ → Type 0
Identifies f x = (shape_of f).id ≡ x

-- the first two octets: which family the block is of
abbrev pub family_named : Reading FamilyId
family_named = seen (λ f. (tt, f)) (then (item Standard NotInTable) (λ u. item Identifies NotInTable))

-- a number from 1 to the last
abbrev pub UpTo : ℕ → ℕ → ℕ → Type 0
UpTo last v x = (v ≡ x) × (1 ≤ v) × (v ≤ last)

-- an index, and a quantity that does not run past the last
abbrev pub span_in : ℕ → Reading Span
span_in last = seen (λ s. (s.start, s.quantity)) (then (item (UpTo last) NotInTable) (λ i. item (UpTo (last + 1 - i)) NotInTable))

-- what a family with one index has for the second
abbrev pub no_second : Span
no_second = record { start = 0; quantity = 1 }

-- one span or two, by the last rows of the family; the last of a second index that is not there is 0
abbrev pub spans_in : ℕ → ℕ → Reading Spans
spans_in last zero = held (λ s. s.first) (λ s. s.second ≡ no_second) (span_in last)
spans_in last (suc n) = seen (λ s. (s.first, s.second)) (then (span_in last) (λ u. span_in (suc n)))

abbrev pub spans_of : FamilyId → Reading Spans
spans_of f = spans_in (shape_of f).last_first (shape_of f).last_second

-- how many rows these are
abbrev pub rows_in : Spans → ℕ
rows_in sp = sp.first.quantity * sp.second.quantity

-- all of them are rows of the family's table
pub record InTable (f : FamilyId) (sp : Spans) : Type 0 where
  pub first_least : 1 ≤ sp.first.start
  pub first_some : 1 ≤ sp.first.quantity
  pub first_last : sp.first.start + sp.first.quantity ≤ (shape_of f).last_first + 1
  pub second_least : min 1 (shape_of f).last_second ≤ sp.second.start
  pub second_some : 1 ≤ sp.second.quantity
  pub second_last : sp.second.start + sp.second.quantity ≤ (shape_of f).last_second + 1

-- where a row's first cell stands
abbrev pub row_at : FamilyId → ℕ → ℕ → Place
row_at f x y = record { family = f; first = x; second = y; column = 1; octet = 0 }

-- where the k-th row stands, counted from 0: the first index is innermost
abbrev pub row_place : FamilyId → Spans → ℕ → Place
row_place f sp k = row_at f (sp.first.start + k % sp.first.quantity) (sp.second.start + k / sp.first.quantity)

-- a count is 01 and one octet, or from 256 on 02 and two, the high one first
abbrev pub count_octets : ℕ → List ℕ
count_octets n = cond (nat_lt n 256) (1 ∷ n ∷ []) (2 ∷ n / 256 ∷ n % 256 ∷ [])

-- just these octets
abbrev pub exactly : List ℕ → Reading (List (Unit {0}))
exactly = each (λ o. item (λ (u : Unit {0}) x. x ≡ o) CountDiffers)

abbrev pub count : ℕ → Reading (List (Unit {0}))
count n = exactly (count_octets n)

-- what the spans are written as
abbrev pub spans_octets : ℕ → Spans → List ℕ
spans_octets zero sp = sp.first.start ∷ sp.first.quantity ∷ []
spans_octets (suc n) sp = sp.first.start ∷ sp.first.quantity ∷ sp.second.start ∷ sp.second.quantity ∷ []

-- what a header is written as
abbrev pub header_octets : FamilyId → Spans → List ℕ
header_octets f sp = 0 ∷ (shape_of f).id ∷ spans_octets (shape_of f).last_second sp
