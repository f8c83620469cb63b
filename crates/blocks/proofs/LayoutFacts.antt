-- The layouts of rows are lawful, and a row's cells hold what they carry.
use Rattle.std.proofs.Common.{◌≡◌, ℕ, zero, suc, ◌+◌, ◌-◌, ◌<◌, ◌≤◌, min, Bool, true, false, cond, ◌&&◌, T, eqb, ltb, leb, List, [], ◌∷◌, ◌++◌, map, length, get_or, take, drop, replicate, sym, refl, ap, ◌∙◌, subst, arith, ltb→lt, leb→le}
use native.Mathlib.Nat.{min-eq_right}
use Rattle.std.proofs.lemmas.List.{length-append, length-replicate, length-take-le, take_at, drop_at, take-append-drop, replicate-append-replicate}
use Rattle.std.proofs.lemmas.Bool.{and_parts, leb-true, cond_both}
use Rattle.std.specs.List.{range_with_len}
use Rattle.memory.specs.Top.{cell_count, top_of}
use Rattle.memory.specs.Cells.{Bounded}
use Rattle.tables.specs.declared.columns.Column.{Column}
use Rattle.tables.specs.declared.family.FamilyId.{FamilyId}
use Rattle.tables.specs.declared.work.StagedWrite.{StagedWrite}
use Rattle.tables.specs.Families.{shape_of, column_of, cells_of}
use Rattle.tables.specs.Places.{Stands, cell_of}
use Rattle.tables.proofs.PlaceFacts.{place, cell_below, in_row}
use Rattle.tables.proofs.WidthFacts.{tops_by_width, greatest_fits, allowed_bound}
use Rattle.values.specs.declared.phases.PhaseList.{PhaseList}
use Rattle.values.specs.Reading.{EachOf}
use Rattle.values.specs.Numbers.{Allowed, Fits, size}
use Rattle.values.specs.Lists.{ListAllowed, ListFits}
use Rattle.values.proofs.Parts.{then_decided, then-written, then_near, seen_decided, seen-written, seen_near, each_of_length, each_of_append, each_of_parts}
use Rattle.values.proofs.Table.{numbers_decided, numbers-written, numbers_near, numbers_short}
use Rattle.values.proofs.PhaseLists.{phases_decided, phases-written, phases_near, list_short}
use Rattle.blocks.specs.Layouts.{Slot, slot, offset, has_slot, has_slots, Holds, Layout, Lawful, cells_at, placed, columns_of, number_slots, numbers_layout, list_slots, first_octets, list_in, list_layout, both_layout, as_row}

pub both : (a b : Bool) → T (a && b) → T a × T b
both true b t = (tt, t)
both false b t = absurd t

together : (a b : Bool) → T a → T b → T (a && b)
together true b t u = u
together false b t u = t

-- what holds of values by one name of their places holds of them by another
each_of_other : {B C D R : Type 0} (P : C → R → Type 0) (Q : D → R → Type 0) (g : B → C) (h : B → D) → ((b : B) (x : R) → P (g b) x → Q (h b) x) → (bs : List B) (xs : List R) → EachOf P (map g bs) xs → EachOf Q (map h bs) xs
each_of_other P Q g h so [] [] e = tt
each_of_other P Q g h so [] (x ∷ xs) e = absurd e
each_of_other P Q g h so (b ∷ bs) [] e = absurd e
each_of_other P Q g h so (b ∷ bs) (x ∷ xs) e = (so b x e.0, each_of_other P Q g h so bs xs e.1)

-- what the test of a cell tells
module _ (f : FamilyId) (x : Slot) (t : T (has_slot f x)) where
  least : 1 ≤ x.column
  least = leb→le 1 x.column (both (leb 1 x.column) _ t).0

  rest : T (leb x.column (shape_of f).columns) × T (ltb x.octet (cells_of (column_of f x.column)))
  rest = both (leb x.column (shape_of f).columns) _ (both (leb 1 x.column) _ t).1

  last : x.column ≤ (shape_of f).columns
  last = leb→le x.column (shape_of f).columns rest.0

  within : x.octet < cells_of (column_of f x.column)
  within = ltb→lt x.octet (cells_of (column_of f x.column)) rest.1

  -- an allowed value fits
  allowed_fits : (v : ℕ) → Allowed (column_of f x.column) v → Fits (column_of f x.column) v
  allowed_fits v a = allowed_bound (column_of f x.column).kind (column_of f x.column) v (greatest_fits f x.column least last) a

-- the cells of two lists, one after the other
has_append : (f : FamilyId) (xs ys : List Slot) → T (has_slots f xs) → T (has_slots f ys) → T (has_slots f (xs ++ ys))
has_append f [] ys t u = u
has_append f (x ∷ xs) ys t u = let h = both (has_slot f x) (has_slots f xs) t in together (has_slot f x) (has_slots f (xs ++ ys)) h.0 (has_append f xs ys h.1 u)

-- Numbers.
numbers-held : (f : FamilyId) (ns xs : List ℕ) → T (has_slots f (number_slots ns)) → EachOf Allowed (columns_of f ns) xs → EachOf (Holds f) (number_slots ns) xs
numbers-held f [] [] t h = tt
numbers-held f [] (x ∷ xs) t h = absurd h
numbers-held f (n ∷ ns) [] t h = absurd h
numbers-held f (n ∷ ns) (x ∷ xs) t h =
    let u = both (has_slot f (slot n 0)) (has_slots f (number_slots ns)) t in
    (allowed_fits f (slot n 0) u.0 x h.0, numbers-held f ns xs u.1 h.1)

-- numbers that stand in the family's rows are numbers of its columns
pub numbers_stand : (f : FamilyId) (ns : List ℕ) → T (has_slots f (number_slots ns)) → (i : ℕ) → i < length ns → (1 ≤ get_or ns i 0) × (get_or ns i 0 ≤ (shape_of f).columns)
numbers_stand f [] t i l = absurd (omega arith)
numbers_stand f (n ∷ ns) t zero l = let h = both (has_slot f (slot n 0)) (has_slots f (number_slots ns)) t in (least f (slot n 0) h.0, last f (slot n 0) h.0)
numbers_stand f (n ∷ ns) t (suc i) l = numbers_stand f ns (both (has_slot f (slot n 0)) (has_slots f (number_slots ns)) t).1 i (omega arith)

pub numbers_lawful : (f : FamilyId) (ns : List ℕ) → T (has_slots f (number_slots ns)) → Lawful f (numbers_layout f ns)
numbers_lawful f ns t = record {
  decided = numbers_decided (columns_of f ns);
  written = numbers-written (columns_of f ns);
  near = numbers_near (columns_of f ns);
  short = λ xs h. numbers_short (columns_of f ns) xs;
  stand = t;
  held = λ xs h. numbers-held f ns xs t h;
  back = λ xs h. refl;
  loaded = each_of_other (Holds f) Fits (λ n. slot n 0) (column_of f) (λ n v h. h) ns;
}

-- A list: its length and its octets are values of one column.
small_fits : (c : Column) (v : ℕ) → v ≤ 16 → Fits c v
small_fits c v h = cond_both (eqb c.width 2) 65535 255 (λ t. v ≤ t) (λ e. omega arith) (λ e. omega arith)

zeros_fit : (c : Column) (n : ℕ) → EachOf Fits (replicate n c) (replicate n 0)
zeros_fit c zero = tt
zeros_fit c (suc n) = (small_fits c 0 (omega arith), zeros_fit c n)

each_fits : (f : FamilyId) (x : Slot) → T (has_slot f x) → (n : ℕ) (vs : List ℕ)
    → EachOf Allowed (replicate n (column_of f x.column)) vs → EachOf Fits (replicate n (column_of f x.column)) vs
each_fits f x t zero [] h = tt
each_fits f x t zero (v ∷ vs) h = absurd h
each_fits f x t (suc n) [] h = absurd h
each_fits f x t (suc n) (v ∷ vs) h = (allowed_fits f x t v h.0, each_fits f x t n vs h.1)

-- sixteen octets, the first of them and the rest
columns_split : (c : Column) (n : ℕ) → n ≤ 16 → replicate n c ++ replicate (16 - n) c ≡ replicate 16 c
columns_split c n few = replicate-append-replicate n (16 - n) c ∙ let e : n + (16 - n) ≡ 16 = omega arith in ap (λ m. replicate m c) e

module _ (f : FamilyId) (c : ℕ) where
  len_few : (l : PhaseList) → ListAllowed (column_of f c) l → l.len ≤ 16
  len_few l a = leb-true l.len 16 (and_parts _ _ a.0.0).1

  -- an allowed list is its first octets, and zeros
  padded : (l : PhaseList) → ListAllowed (column_of f c) l → first_octets l.len l.phases ≡ l.phases
  padded l a = ap (λ z. take l.len l.phases ++ z) (sym a.1.1) ∙ take-append-drop l.len l.phases

  list_held : T (has_slots f (list_slots c)) → (l : PhaseList) → ListAllowed (column_of f c) l → EachOf (Holds f) (list_slots c) (l.len ∷ l.phases)
  list_held t l a =
      let k = column_of f c in
      let n = l.len in
      let has = (both (has_slot f (slot c 0)) _ t).0 in
      let all = each_of_append Fits (replicate n k) (replicate (16 - n) k) (take n l.phases) (replicate (16 - n) 0) (each_fits f (slot c 0) has n (take n l.phases) a.0.1) (zeros_fit k (16 - n)) in
      each_of_other Fits (Holds f) (λ o. k) (slot c) (λ o v h. h) (range_with_len 0 17) (l.len ∷ l.phases)
      (small_fits k n (len_few l a), subst (λ xs. EachOf Fits (replicate 16 k) xs) (padded l a) (subst (λ cs. EachOf Fits cs (first_octets n l.phases)) (columns_split k n (len_few l a)) all))

  list_back : (l : PhaseList) → ListAllowed (column_of f c) l → list_in (l.len ∷ l.phases) ≡ l
  list_back l a =
      let e : min 16 l.len ≡ l.len = min-eq_right (len_few l a) in
      let h : first_octets (min 16 l.len) l.phases ≡ l.phases = ap (λ n. first_octets n l.phases) e ∙ padded l a in
      (λ j. record { len = e j; phases = h j })

  list_loaded : (vs : List ℕ) → EachOf (Holds f) (list_slots c) vs → ListFits (column_of f c) (list_in vs)
  list_loaded [] h = absurd h
  list_loaded (v ∷ vs) h =
      let k = column_of f c in
      let n = min 16 v in
      let few : n ≤ 16 = omega arith in
      let all = (each_of_other (Holds f) Fits (slot c) (λ o. k) (λ o v h. h) (range_with_len 0 17) (v ∷ vs) h).1 in
      let first = (each_of_parts Fits (replicate n k) (replicate (16 - n) k) vs (subst (λ cs. EachOf Fits cs vs) (sym (columns_split k n few)) all)).0 in
      let long : length (take n vs) ≡ n = length-take-le n vs (omega (arith, each_of_length Fits (replicate 16 k) vs all)) in
      let e : take (length (replicate n k)) vs ≡ take n (first_octets n vs) = ap (λ m. take m vs) (length-replicate n k) ∙ sym (take_at (take n vs) (replicate (16 - n) 0) n long) in
      (few, subst (λ xs. EachOf Fits (replicate n k) xs) e first)

  pub list_lawful : T (has_slots f (list_slots c)) → size (column_of f c) ≡ 1 → Lawful f (list_layout f c)
  list_lawful t one = record {
    decided = phases_decided (column_of f c);
    written = phases-written (column_of f c);
    near = phases_near (column_of f c) one;
    short = list_short (column_of f c) one;
    stand = t;
    held = list_held t;
    back = list_back;
    loaded = list_loaded;
  }

-- One part of a row, and then another.
pub both_lawful : {A B : Type 0} {f : FamilyId} {a : Layout A} {b : Layout B} → Lawful f a → Lawful f b → Lawful f (both_layout a b)
both_lawful {f = f} {a = a} {b = b} u v = record {
  decided = then_decided u.decided (λ x. v.decided);
  written = then-written u.written (λ x. v.written);
  near = then_near u.near (λ s i x mid h. v.near);
  short = λ p h. omega (arith, length-append (a.octets p.0) (b.octets p.1), u.short p.0 h.0, v.short p.1 h.1);
  stand = has_append f a.carried b.carried u.stand v.stand;
  held = λ p h. each_of_append (Holds f) a.carried b.carried (a.values p.0) (b.values p.1) (u.held p.0 h.0) (v.held p.1 h.1);
  back = λ p h.
      let n = each_of_length (Holds f) a.carried (a.values p.0) (u.held p.0 h.0) in
      let x = ap a.row_of (take_at (a.values p.0) (b.values p.1) (length a.carried) n) ∙ u.back p.0 h.0 in
      let y = ap b.row_of (drop_at (a.values p.0) (b.values p.1) (length a.carried) n) ∙ v.back p.1 h.1 in
      (λ j. (x j, y j));
  loaded = λ vs h.
      let g = each_of_parts (Holds f) a.carried b.carried vs h in
      (u.loaded (take (length a.carried) vs) g.0, v.loaded (drop (length a.carried) vs) g.1);
}

-- The same, as a row of a family's own kind.
pub row_lawful : {Q R : Type 0} {f : FamilyId} {l : Layout R} (of : Q → R) (made : R → Q) → ((r : R) → of (made r) ≡ r) → ((q : Q) → made (of q) ≡ q) → Lawful f l → Lawful f (as_row of made l)
row_lawful {l = l} of made there back u = record {
  decided = seen_decided of u.decided made there back;
  written = seen-written of u.written;
  near = seen_near of u.near;
  short = λ q. u.short (of q);
  stand = u.stand;
  held = λ q. u.held (of q);
  back = λ q h. ap made (u.back (of q) h) ∙ back q;
  loaded = λ vs h. subst l.fits (sym (there (l.row_of vs))) (u.loaded vs h);
}

-- A value for each cell is a write for each.
pub placed-length : (base : ℕ) (xs : List Slot) (vs : List ℕ) → length vs ≡ length xs → length (placed base xs vs) ≡ length xs
placed-length base [] vs e = refl
placed-length base (x ∷ xs) [] e = absurd (omega arith)
placed-length base (x ∷ xs) (v ∷ vs) e = ap suc (placed-length base xs vs (omega arith))

abbrev no_write : StagedWrite
no_write = record { cell = 0; value = 0 }

-- a cell of a row is within the row and the table, and its top is told by its column
abbrev pub SlotFits : FamilyId → ℕ → Slot → Type 0
SlotFits f base s =
    (offset s < (shape_of f).row_cells)
    × (base + offset s < cell_count)
    × (top_of (base + offset s) ≡ cond (eqb (column_of f s.column).width 2) 65535 255)

-- the table has the cell, and the cell takes the value
abbrev pub WriteFits : StagedWrite → Type 0
WriteFits w = (w.cell < cell_count) × (w.value ≤ top_of w.cell)

-- The cells of a row that stands in the table.
module _ (f : FamilyId) (x y : ℕ) (stands : Stands (place f x y 1 0)) where
  abbrev base : ℕ
  base = cell_of (place f x y 1 0)

  pub slot_stands : (s : Slot) → T (has_slot f s) → Stands (place f x y s.column s.octet)
  slot_stands s t = record {
    first_least = stands.first_least;
    first_last = stands.first_last;
    second_least = stands.second_least;
    second_last = stands.second_last;
    column_least = least f s t;
    column_last = last f s t;
    octet_within = within f s t;
  }

  pub slot_cell : (s : Slot) → cell_of (place f x y s.column s.octet) ≡ base + offset s
  unfolding cell_of
  slot_cell s = omega arith

  slot_fits : (s : Slot) → T (has_slot f s) → SlotFits f base s
  slot_fits s t =
      let p = place f x y s.column s.octet in
      let h = slot_stands s t in (
        in_row p h,
        omega (arith, cell_below p h, slot_cell s),
        ap top_of (sym (slot_cell s)) ∙ tops_by_width p h,
      )

  pub slots_fit : (slots : List Slot) → T (has_slots f slots) → (k : ℕ) → k < length slots → SlotFits f base (get_or slots k (slot 0 0))
  slots_fit [] t k l = absurd (omega arith)
  slots_fit (s ∷ slots) t zero l = slot_fits s (both (has_slot f s) (has_slots f slots) t).0
  slots_fit (s ∷ slots) t (suc k) l = slots_fit slots (both (has_slot f s) (has_slots f slots) t).1 k (omega arith)

  pub cells_held : (cells : List ℕ) → Bounded cells → (slots : List Slot) → T (has_slots f slots) → EachOf (Holds f) slots (cells_at cells base slots)
  cells_held cells low [] t = tt
  cells_held cells low (s ∷ slots) t =
      let h = both (has_slot f s) (has_slots f slots) t in
      (omega (arith, low (base + offset s), (slot_fits s h.0).2), cells_held cells low slots h.1)

  pub writes_fit : (slots : List Slot) (vs : List ℕ) → T (has_slots f slots) → EachOf (Holds f) slots vs → (k : ℕ) → k < length (placed base slots vs) → WriteFits (get_or (placed base slots vs) k no_write)
  writes_fit [] vs t h k l = absurd (omega arith)
  writes_fit (s ∷ slots) [] t h k l = absurd h
  writes_fit (s ∷ slots) (v ∷ vs) t h zero l =
      let g = slot_fits s (both (has_slot f s) (has_slots f slots) t).0 in
      (g.1, omega (arith, h.0, g.2))
  writes_fit (s ∷ slots) (v ∷ vs) t h (suc k) l = writes_fit slots vs (both (has_slot f s) (has_slots f slots) t).1 h.1 k (omega arith)
