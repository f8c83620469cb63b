-- In a table whose cells are all allowed, every row is an allowed row.
use Rattle.std.proofs.Common.{◌≡◌, ℕ, zero, suc, ◌+◌, ◌-◌, ◌≤◌, min, Bool, true, false, not, ◌&&◌, T, eqb, leb, List, [], ◌∷◌, ◌++◌, map, length, get_or, take, drop, replicate, sym, refl, ap, ◌∙◌, subst, arith}
use Rattle.std.proofs.lemmas.List.{length-append, length-map, length-replicate, length-take-le, map-append, take_at, drop_at}
use Rattle.std.proofs.lemmas.Bool.{and_from, le-leb, ne_eqb, cond-true, cond-false}
use Rattle.std.specs.List.{range_with_len}
use Rattle.tables.specs.declared.columns.Column.{Column}
use Rattle.tables.specs.declared.family.FamilyId.{FamilyId}
use Rattle.tables.specs.Allowed.{AllAllowed, holds}
use Rattle.tables.specs.Families.{column_of, is_list}
use Rattle.tables.specs.Places.{Stands, cell_of}
use Rattle.tables.proofs.PlaceFacts.{place}
use Rattle.values.specs.Reading.{EachOf}
use Rattle.values.specs.Numbers.{Allowed}
use Rattle.values.specs.Lists.{ListAllowed}
use Rattle.headers.specs.Headers.{row_at}
use Rattle.blocks.specs.Layouts.{Slot, slot, offset, has_slot, has_slots, Layout, cells_at, columns_of, number_slots, numbers_layout, list_slots, first_octets, list_in, list_layout, both_layout}
use Rattle.blocks.proofs.LayoutFacts.{both, slot_stands, slot_cell}

-- a row that stands in such a table is allowed
abbrev pub Tells : {R : Type 0} → FamilyId → Layout R → Type 0
Tells f l =
    (cells : List ℕ) (x y : ℕ) → AllAllowed cells → Stands (row_at f x y)
    → l.allowed (l.row_of (cells_at cells (cell_of (row_at f x y)) l.carried))

-- none of the columns is a list
abbrev pub no_lists : FamilyId → List ℕ → Bool
no_lists f [] = true
no_lists f (n ∷ ns) = not (is_list (column_of f n).kind) && no_lists f ns

is_not : (b : Bool) → T (not b) → b ≡ false
is_not true t = absurd t
is_not false t = refl

-- a list that is made of so many allowed octets, and zeros
firsts_allowed : (k : Column) (n : ℕ) (vs : List ℕ) → n ≤ 16 → n ≤ length vs → EachOf Allowed (replicate n k) (take n vs) → ListAllowed k (record { len = n; phases = first_octets n vs })
firsts_allowed k n vs few enough h =
    let zeros : List ℕ = replicate (16 - n) 0 in
    let long : length (take n vs) ≡ n = length-take-le n vs enough in (
      (
        and_from (leb 0 n) (leb n 16) (le-leb 0 n (omega arith)) (le-leb n 16 few),
        subst (λ xs. EachOf Allowed (replicate n k) xs) (sym (take_at (take n vs) zeros n long)) h,
      ),
      (omega (arith, length-append (take n vs) zeros, length-replicate {A = ℕ} (16 - n) 0), drop_at (take n vs) zeros n long),
    )

-- The cells of a row that stands in the table.
module _ (f : FamilyId) (cells : List ℕ) (x y : ℕ) (all : AllAllowed cells) (stands : Stands (row_at f x y)) where
  abbrev value : Slot → ℕ
  value s = get_or cells (cell_of (row_at f x y) + offset s) 0

  slot-holds : (s : Slot) → T (has_slot f s) → holds (place f x y s.column s.octet) (value s) (value (slot s.column 0)) ≡ true
  slot-holds s t =
      let p = place f x y s.column s.octet in
      let first = slot s.column 0 in
      subst (λ n. holds p (get_or cells n 0) (value first) ≡ true) (slot_cell f x y stands s)
      (subst (λ n. holds p (get_or cells (cell_of p) 0) (get_or cells n 0) ≡ true) (slot_cell f x y stands first) (all p (slot_stands f x y stands s t)))

  number_allowed : (n : ℕ) → T (has_slot f (slot n 0)) → is_list (column_of f n).kind ≡ false → Allowed (column_of f n) (value (slot n 0))
  number_allowed n t e = sym (cond-false (is_list (column_of f n).kind) _ _ e) ∙ slot-holds (slot n 0) t

  numbers_allowed : (ns : List ℕ) → T (has_slots f (number_slots ns)) → T (no_lists f ns) → EachOf Allowed (columns_of f ns) (map value (number_slots ns))
  numbers_allowed [] t u = tt
  numbers_allowed (n ∷ ns) t u =
      let h = both (has_slot f (slot n 0)) (has_slots f (number_slots ns)) t in
      let k = both (not (is_list (column_of f n).kind)) (no_lists f ns) u in
      (number_allowed n h.0 (is_not (is_list (column_of f n).kind) k.0), numbers_allowed ns h.1 k.1)

  module _ (c : ℕ) (list : is_list (column_of f c).kind ≡ true) where
    octet-allowed : (o : ℕ) → T (has_slot f (slot c o)) → 1 ≤ o → o ≤ value (slot c 0) → Allowed (column_of f c) (value (slot c o))
    octet-allowed o t some within =
        sym
        (cond-true (is_list (column_of f c).kind) _ _ list
        ∙ cond-false (eqb o 0) _ _ (ne_eqb o 0 (λ e. omega arith))
        ∙ cond-true (leb o (value (slot c 0))) _ _ (le-leb o (value (slot c 0)) within))
        ∙ slot-holds (slot c o) t

    -- so many octets, from one on
    octets-allowed : (a n m : ℕ) → 1 ≤ a → m ≤ n → a + m ≤ value (slot c 0) + 1 → T (has_slots f (map (slot c) (range_with_len a n))) → EachOf Allowed (replicate m (column_of f c)) (take m (map value (map (slot c) (range_with_len a n))))
    octets-allowed a n zero some less within t = tt
    octets-allowed a zero (suc m) some less within t = absurd (omega arith)
    octets-allowed a (suc n) (suc m) some less within t =
        let h = both (has_slot f (slot c a)) (has_slots f (map (slot c) (range_with_len (a + 1) n))) t in
        (octet-allowed a h.0 some (omega arith), octets-allowed (a + 1) n m (omega arith) (omega arith) (omega arith) h.1)

    list-allowed : T (has_slots f (list_slots c)) → ListAllowed (column_of f c) (list_in (map value (list_slots c)))
    list-allowed t =
        let n : ℕ = min 16 (value (slot c 0)) in
        let vs : List ℕ = map value (map (slot c) (range_with_len 1 16)) in
        firsts_allowed (column_of f c) n vs (omega arith) (omega arith)
        (octets-allowed 1 16 n (omega arith) (omega arith) (omega arith) (both (has_slot f (slot c 0)) (has_slots f (map (slot c) (range_with_len 1 16))) t).1)

pub numbers_tell : (f : FamilyId) (ns : List ℕ) → T (has_slots f (number_slots ns)) → T (no_lists f ns) → Tells f (numbers_layout f ns)
numbers_tell f ns t u cells x y all stands = numbers_allowed f cells x y all stands ns t u

pub list_tells : (f : FamilyId) (c : ℕ) → T (has_slots f (list_slots c)) → is_list (column_of f c).kind ≡ true → Tells f (list_layout f c)
list_tells f c t list cells x y all stands = list-allowed f cells x y all stands c list t

-- One part of a row, and then another.
module _ (cells : List ℕ) (base : ℕ) (xs ys : List Slot) where
  first_cells : take (length xs) (cells_at cells base (xs ++ ys)) ≡ cells_at cells base xs
  first_cells = ap (take (length xs)) (map-append _ xs ys) ∙ take_at (cells_at cells base xs) (cells_at cells base ys) (length xs) (length-map xs _)

  later_cells : drop (length xs) (cells_at cells base (xs ++ ys)) ≡ cells_at cells base ys
  later_cells = ap (drop (length xs)) (map-append _ xs ys) ∙ drop_at (cells_at cells base xs) (cells_at cells base ys) (length xs) (length-map xs _)

pub both_tell : {A B : Type 0} (f : FamilyId) (a : Layout A) (b : Layout B) → Tells f a → Tells f b → Tells f (both_layout a b)
both_tell f a b u v cells x y all stands =
    let base = cell_of (row_at f x y) in (
      subst (λ vs. a.allowed (a.row_of vs)) (sym (first_cells cells base a.carried b.carried)) (u cells x y all stands),
      subst (λ vs. b.allowed (b.row_of vs)) (sym (later_cells cells base a.carried b.carried)) (v cells x y all stands),
    )
