-- The factory table, place by place.
use Rattle.std.proofs.Common.{◌≡◌, ℕ, ◌+◌, ◌-◌, ◌%◌, ◌<◌, ◌≤◌, Bool, true, false, cond, T, eqb, leb, get_or, sym, refl, ap, ◌∙◌, inl, inr, arith}
use Rattle.std.proofs.lemmas.Nat.{mod-mul-add}
use Rattle.std.proofs.lemmas.Bool.{lt-ltb, le-ltb, eq-eqb, ne_eqb, eqb-true, cases_eq, le-leb, lt-leb}
use Rattle.memory.proofs.Facts.{get_or-list_by}
use Rattle.tables.specs.declared.columns.Column.{Column}
use Rattle.tables.specs.declared.family.FamilyId.{FamilyId}
use Rattle.tables.specs.declared.family.FamilyId.TheVariants.{Phase, VehicleDetector, PedestrianDetector, Pattern, Split, Action, Sequence}
use Rattle.tables.specs.declared.place.Place.{Place}
use Rattle.tables.specs.Columns.{columns, none}
use Rattle.tables.specs.Families.{shape_of, column_of, is_list}
use Rattle.tables.specs.Places.{Stands, cell_of, rows_before}
use Rattle.tables.specs.Allowed.{allows, length_place, AllowedAt}
use Rattle.tables.specs.Factory.{factory_in, factory_cell, factory}
use Rattle.tables.proofs.Each.{each}
use Rattle.tables.proofs.PlaceFacts.{cell_is, cell_least, cell_last, cell_below, in_row, same_test, column_at, column_within, place}

low : (n : ℕ) → n < 608 → factory_cell n ≡ cond (eqb (n % 38) 18) 1 0
low n h = simp (lt-ltb n 608 h)

mid : (n : ℕ) → 608 ≤ n → n < 1408 → factory_cell n ≡ 0
mid n l h = simp (le-ltb n 608 l, lt-ltb n 1408 h)

splits : (n : ℕ) → 1408 ≤ n → n < 2176 → factory_cell n ≡ cond (eqb ((n - 1408) % 3) 1) 2 0
splits n l h = simp (le-ltb n 608 (omega arith), le-ltb n 1408 l, lt-ltb n 2176 h)

high : (n : ℕ) → 2176 ≤ n → factory_cell n ≡ 0
high n l = simp (le-ltb n 608 (omega arith), le-ltb n 1408 (omega arith), le-ltb n 2176 l)

by_family : (f : FamilyId) (x y c o : ℕ) → Stands (place f x y c o) → factory_cell (cell_of (place f x y c o)) ≡ factory_in f c
by_family Phase x y c o s =
    let p = place Phase x y c o in
    let m : cell_of p % 38 ≡ (c - 1) + o = ap (λ n. n % 38) (cell_is p ∙ omega arith) ∙ mod-mul-add (rows_before p) 38 ((c - 1) + o) (in_row p s) in
    low (cell_of p) (cell_last p s) ∙ (ap (λ n. cond (eqb n 18) 1 0) m ∙ ap (λ b. cond b 1 0) (column_at p s 19 (omega arith) (omega arith)))
by_family VehicleDetector x y c o s = mid (cell_of (place VehicleDetector x y c o)) (cell_least (place VehicleDetector x y c o)) (omega (arith, cell_last (place VehicleDetector x y c o) s))
by_family PedestrianDetector x y c o s = mid (cell_of (place PedestrianDetector x y c o)) (omega (arith, cell_least (place PedestrianDetector x y c o))) (omega (arith, cell_last (place PedestrianDetector x y c o) s))
by_family Pattern x y c o s = mid (cell_of (place Pattern x y c o)) (omega (arith, cell_least (place Pattern x y c o))) (cell_last (place Pattern x y c o) s)
by_family Split x y c o s =
    let p = place Split x y c o in
    let m : (cell_of p - 1408) % 3 ≡ (c - 1) + o = ap (λ n. n % 3) (omega (arith, cell_is p)) ∙ mod-mul-add (rows_before p) 3 ((c - 1) + o) (in_row p s) in
    splits (cell_of p) (cell_least p) (cell_last p s) ∙ (ap (λ n. cond (eqb n 1) 2 0) m ∙ ap (λ b. cond b 2 0) (column_at p s 2 (omega arith) (omega arith)))
by_family Action x y c o s = high (cell_of (place Action x y c o)) (cell_least (place Action x y c o))
by_family Sequence x y c o s = high (cell_of (place Sequence x y c o)) (omega (arith, cell_least (place Sequence x y c o)))

pub factory_at : (p : Place) → Stands p → get_or factory (cell_of p) 0 ≡ factory_in p.family p.column
unfolding factory
factory_at p s =
    get_or-list_by factory_cell 2544 (cell_of p) (cell_below p s) ∙ by_family p.family p.first p.second p.column p.octet s

-- the factory value by the column's place among all columns
by_index : ℕ → ℕ
by_index i = cond (eqb i 18) 1 (cond (eqb i 41) 2 0)

in_index : (f : FamilyId) (c : ℕ) → 1 ≤ c → c ≤ (shape_of f).columns → factory_in f c ≡ by_index ((shape_of f).columns_before + (c - 1))
unfolding by_index
in_index Phase c l h =
    ap (λ b. cond b 1 0) (same_test c 19 (0 + (c - 1)) 18 (λ e. omega arith) (λ e. omega arith))
    ∙ sym (ap (λ b. cond (eqb (0 + (c - 1)) 18) 1 (cond b 2 0)) (ne_eqb (0 + (c - 1)) 41 (λ e. omega arith)))
in_index VehicleDetector c l h = simp (ne_eqb (22 + (c - 1)) 18 (λ e. omega arith), ne_eqb (22 + (c - 1)) 41 (λ e. omega arith))
in_index PedestrianDetector c l h = simp (ne_eqb (32 + (c - 1)) 18 (λ e. omega arith), ne_eqb (32 + (c - 1)) 41 (λ e. omega arith))
in_index Pattern c l h = simp (ne_eqb (36 + (c - 1)) 18 (λ e. omega arith), ne_eqb (36 + (c - 1)) 41 (λ e. omega arith))
in_index Split c l h =
    ap (λ b. cond b 2 0) (same_test c 2 (40 + (c - 1)) 41 (λ e. omega arith) (λ e. omega arith))
    ∙ sym (ap (λ b. cond b 1 (cond (eqb (40 + (c - 1)) 41) 2 0)) (ne_eqb (40 + (c - 1)) 18 (λ e. omega arith)))
in_index Action c l h = simp (ne_eqb (43 + (c - 1)) 18 (λ e. omega arith), ne_eqb (43 + (c - 1)) 41 (λ e. omega arith))
in_index Sequence c l h = simp (ne_eqb (46 + (c - 1)) 18 (λ e. omega arith), ne_eqb (46 + (c - 1)) 41 (λ e. omega arith))

-- at each column the factory value is allowed, and a list's is 0
abbrev fits : ℕ → Column → Bool
fits i c = cond (is_list c.kind) (eqb (cond (eqb i 18) 1 (cond (eqb i 41) 2 0)) 0) (allows c (cond (eqb i 18) 1 (cond (eqb i 41) 2 0)))

from_T : (b : Bool) → T b → b ≡ true
from_T true t = refl
from_T false t = absurd t

column_fits : (f : FamilyId) (c : ℕ) → 1 ≤ c → c ≤ (shape_of f).columns → cond (is_list (column_of f c).kind) (eqb (factory_in f c) 0) (allows (column_of f c) (factory_in f c)) ≡ true
unfolding by_index
column_fits f c l h =
    let i = (shape_of f).columns_before + (c - 1) in
    rw (in_index f c l h) (from_T (fits i (get_or columns i none)) (each fits columns none tt i (column_within f c l h)))

-- a list's factory cells are all 0
held : (f : FamilyId) (c o v : ℕ) (b : Bool) (a : Bool) → cond b (eqb v 0) a ≡ true → cond b (cond (eqb o 0) (leb v 16) (cond (leb o v) a (eqb v 0))) a ≡ true
held f c o v true a e =
    let z : v ≡ 0 = eqb-true v 0 e in
    elim (cases_eq o 0) [
      | inl h ↦ simp (eq-eqb o 0 h, le-leb v 16 (omega arith))
      | inr h ↦ simp (ne_eqb o 0 h, lt-leb o v (omega arith), e)
    ]
held f c o v false a e = e

length_stands : (p : Place) → Stands p → Stands (length_place p)
length_stands p s =
    record {
      first_least = s.first_least;
      first_last = s.first_last;
      second_least = s.second_least;
      second_last = s.second_last;
      column_least = s.column_least;
      column_last = s.column_last;
      octet_within = omega (arith, s.octet_within);
    }

pub factory_allowed : (p : Place) → Stands p → AllowedAt factory p
factory_allowed p s =
    let f = p.family in
    let c = p.column in
    rw (factory_at p s, factory_at (length_place p) (length_stands p s))
    (held f c p.octet (factory_in f c) (is_list (column_of f c).kind) (allows (column_of f c) (factory_in f c)) (column_fits f c s.column_least s.column_last))
