-- A cell of a two-octet column is wide, and no other.
use Rattle.std.proofs.Common.{◌≡◌, ℕ, ◌+◌, ◌-◌, ◌%◌, ◌<◌, ◌≤◌, Bool, true, false, cond, ◌||◌, T, eqb, leb, get_or, Some, None, sym, refl, ap, ◌∙◌, subst, inl, inr, arith, lit≤, leb→le}
use Rattle.std.proofs.lemmas.Nat.{mod-mul-add}
use Rattle.std.proofs.lemmas.Bool.{lt-ltb, le-ltb, ne_eqb, or_from, or_cases, and_parts, leb-true, eqb-true, cases_Bool, cond-true, cond-false}
use Rattle.memory.specs.Top.{wide, top_of, cell_count}
use Rattle.tables.specs.declared.columns.Column.{Column}
use Rattle.tables.specs.declared.columns.Kind.{Kind}
use Rattle.tables.specs.declared.columns.Kind.TheVariants.{Number, DetectorOptions, ActionPattern, PhaseList}
use Rattle.tables.specs.declared.address.Address.{Address}
use Rattle.tables.specs.Allowed.{Stores, allows, kind_allows, kind_means, in_range, stored}
use Rattle.tables.specs.declared.family.FamilyId.{FamilyId}
use Rattle.tables.specs.declared.family.FamilyId.TheVariants.{Phase, VehicleDetector, PedestrianDetector, Pattern, Split, Action, Sequence}
use Rattle.tables.specs.declared.place.Place.{Place}
use Rattle.tables.specs.Columns.{columns, none}
use Rattle.tables.specs.Families.{shape_of, column_of}
use Rattle.tables.specs.Places.{Stands, cell_of, rows_before}
use Rattle.tables.proofs.Each.{each}
use Rattle.tables.proofs.PlaceFacts.{cell_is, cell_least, cell_last, cell_below, in_row, same_test, column_at, column_within, place}

low : (n : ℕ) → n < 608 → wide n ≡ eqb (n % 38) 19
unfolding wide
low n h = simp (lt-ltb n 608 h)

mid : (n : ℕ) → 608 ≤ n → n < 1248 → wide n ≡ eqb ((n - 608) % 10) 3
unfolding wide
mid n l h = simp (le-ltb n 608 l, lt-ltb n 1248 h)

high : (n : ℕ) → 1248 ≤ n → wide n ≡ false
unfolding wide
high n l = simp (le-ltb n 608 (omega arith), le-ltb n 1248 l)

same : Bool → Bool → Bool
same true b = b
same false true = false
same false false = true

same_is : (a b : Bool) → T (same a b) → a ≡ b
unfolding same
same_is true true t = refl
same_is true false t = absurd t
same_is false true t = absurd t
same_is false false t = refl

told : ℕ → Column → Bool
told i c = same (eqb c.width 2) (eqb i 19 || eqb i 25)

-- the two-octet columns among all: a phase's options and a detector's delay
wide_columns : (f : FamilyId) (c : ℕ) → 1 ≤ c → c ≤ (shape_of f).columns → eqb (column_of f c).width 2 ≡ (eqb ((shape_of f).columns_before + (c - 1)) 19 || eqb ((shape_of f).columns_before + (c - 1)) 25)
unfolding told same
wide_columns f c l h =
    let i = (shape_of f).columns_before + (c - 1) in
    same_is (eqb (get_or columns i none).width 2) (eqb i 19 || eqb i 25) (each told columns none tt i (column_within f c l h))

or_right_false : (b : Bool) → (b || false) ≡ b
or_right_false true = refl
or_right_false false = refl

neither : (i : ℕ) → 26 ≤ i → (eqb i 19 || eqb i 25) ≡ false
neither i h = or_from (eqb i 19) (eqb i 25) (ne_eqb i 19 (λ e. omega arith)) (ne_eqb i 25 (λ e. omega arith))

by_family : (f : FamilyId) (x y c o : ℕ) → Stands (place f x y c o) → wide (cell_of (place f x y c o)) ≡ eqb (column_of f c).width 2
by_family Phase x y c o s =
    let p = place Phase x y c o in
    let m : cell_of p % 38 ≡ (c - 1) + o = ap (λ n. n % 38) (cell_is p ∙ omega arith) ∙ mod-mul-add (rows_before p) 38 ((c - 1) + o) (in_row p s) in
    let i : eqb (0 + (c - 1)) 25 ≡ false = ne_eqb (0 + (c - 1)) 25 (λ e. omega (arith, s.column_last)) in
    low (cell_of p) (cell_last p s)
    ∙ (ap (λ n. eqb n 19) m
    ∙ (column_at p s 20 (omega arith) (omega arith)
    ∙ sym (wide_columns Phase c s.column_least s.column_last ∙ (ap (λ b. eqb (0 + (c - 1)) 19 || b) i ∙ (or_right_false (eqb (0 + (c - 1)) 19) ∙ same_test (0 + (c - 1)) 19 c 20 (λ e. omega (arith, s.column_least)) (λ e. omega arith))))))
by_family VehicleDetector x y c o s =
    let p = place VehicleDetector x y c o in
    let m : (cell_of p - 608) % 10 ≡ (c - 1) + o = ap (λ n. n % 10) (omega (arith, cell_is p)) ∙ mod-mul-add (rows_before p) 10 ((c - 1) + o) (in_row p s) in
    let i : eqb (22 + (c - 1)) 19 ≡ false = ne_eqb (22 + (c - 1)) 19 (λ e. omega arith) in
    mid (cell_of p) (cell_least p) (cell_last p s)
    ∙ (ap (λ n. eqb n 3) m
    ∙ (column_at p s 4 (omega arith) (omega arith)
    ∙ sym (wide_columns VehicleDetector c s.column_least s.column_last ∙ (ap (λ b. b || eqb (22 + (c - 1)) 25) i ∙ same_test (22 + (c - 1)) 25 c 4 (λ e. omega (arith, s.column_least)) (λ e. omega arith)))))
by_family PedestrianDetector x y c o s = high (cell_of (place PedestrianDetector x y c o)) (cell_least (place PedestrianDetector x y c o)) ∙ sym (wide_columns PedestrianDetector c s.column_least s.column_last ∙ neither (32 + (c - 1)) (omega arith))
by_family Pattern x y c o s = high (cell_of (place Pattern x y c o)) (omega (arith, cell_least (place Pattern x y c o))) ∙ sym (wide_columns Pattern c s.column_least s.column_last ∙ neither (36 + (c - 1)) (omega arith))
by_family Split x y c o s = high (cell_of (place Split x y c o)) (omega (arith, cell_least (place Split x y c o))) ∙ sym (wide_columns Split c s.column_least s.column_last ∙ neither (40 + (c - 1)) (omega arith))
by_family Action x y c o s = high (cell_of (place Action x y c o)) (omega (arith, cell_least (place Action x y c o))) ∙ sym (wide_columns Action c s.column_least s.column_last ∙ neither (43 + (c - 1)) (omega arith))
by_family Sequence x y c o s = high (cell_of (place Sequence x y c o)) (omega (arith, cell_least (place Sequence x y c o))) ∙ sym (wide_columns Sequence c s.column_least s.column_last ∙ neither (46 + (c - 1)) (omega arith))

pub tops_by_width : (p : Place) → Stands p → top_of (cell_of p) ≡ cond (eqb (column_of p.family p.column).width 2) 65535 255
unfolding top_of
tops_by_width p s = ap (λ b. cond b 65535 255) (by_family p.family p.first p.second p.column p.octet s)

-- a number column's greatest value fits its width
bounded : Column → Bool
bounded c = leb c.greatest (cond (eqb c.width 2) 65535 255)

bounded_at : ℕ → Column → Bool
bounded_at i c = bounded c

pub greatest_fits : (f : FamilyId) (c : ℕ) → 1 ≤ c → c ≤ (shape_of f).columns → (column_of f c).greatest ≤ cond (eqb (column_of f c).width 2) 65535 255
unfolding bounded bounded_at
greatest_fits f c l h =
    let i = (shape_of f).columns_before + (c - 1) in
    leb→le (get_or columns i none).greatest (cond (eqb (get_or columns i none).width 2) 65535 255) (each bounded_at columns none tt i (column_within f c l h))

small_top : (b : Bool) → 255 ≤ cond b 65535 255
small_top true = lit≤ tt
small_top false = lit≤ tt

pub allowed_bound : (k : Kind) (c : Column) (v : ℕ) → c.greatest ≤ cond (eqb c.width 2) 65535 255 → kind_allows k c v ≡ true → v ≤ cond (eqb c.width 2) 65535 255
allowed_bound Number c v h e = omega (arith, h, leb-true v c.greatest (and_parts _ _ e).1)
allowed_bound DetectorOptions c v h e = omega (arith, h, leb-true v c.greatest (and_parts _ _ (and_parts _ _ e).0).1)
allowed_bound ActionPattern c v h e =
    elim (or_cases (in_range c v) (eqb v 254 || eqb v 255) e) [
      | inl r ↦ omega (arith, h, leb-true v c.greatest (and_parts _ _ r).1)
      | inr r ↦
          elim (or_cases (eqb v 254) (eqb v 255) r) [
            | inl q ↦ omega (arith, eqb-true v 254 q, small_top (eqb c.width 2))
            | inr q ↦ omega (arith, eqb-true v 255 q, small_top (eqb c.width 2))
          ]
    ]
allowed_bound PhaseList c v h e = omega (arith, h, leb-true v c.greatest (and_parts _ _ e).1)

pub stored_allowed : (c : Column) (sent v : ℕ) → stored c sent ≡ Some v → allows c v ≡ true
stored_allowed c sent v e =
    elim (cases_Bool (allows c (kind_means c.kind sent))) [
      | inl t ↦
          let s : stored c sent ≡ Some (kind_means c.kind sent) = cond-true _ _ _ t in
          let w : kind_means c.kind sent ≡ v = cc in
          subst (λ x. allows c x ≡ true) w t
      | inr t ↦
          let s : stored c sent ≡ None = cond-false _ _ _ t in
          let z : ◌≡◌ {A = ℕ} 0 1 = cc in
          absurd (omega arith)
    ]

pub stored_fits : (a : Address) (sent n v : ℕ) → Stores a sent n v → (n < cell_count) × (v ≤ top_of n)
stored_fits a sent n v s =
    let p = s.at in
    let stands = s.named.stands in
    let c = column_of p.family p.column in
    let b : v ≤ cond (eqb c.width 2) 65535 255 =
    allowed_bound c.kind c v (greatest_fits p.family p.column stands.column_least stands.column_last) (stored_allowed c sent v s.value) in (
      omega (arith, cell_below p stands, s.cell),
      subst (λ m. v ≤ top_of m) s.cell (omega (arith, b, tops_by_width p stands)),
    )
