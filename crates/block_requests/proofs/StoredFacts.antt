-- After the writes of a block's rows the table has those rows.
use Rattle.std.proofs.Common.{◌≡◌, ℕ, zero, suc, ◌+◌, ◌-◌, ◌*◌, ◌/◌, ◌%◌, ◌<◌, T, ltb, List, [], ◌∷◌, ◌++◌, length, get_or, replicate, sym, refl, ap, ◌∙◌, inl, inr, suc-mul, mul_comm, zero-add, zero-mul, arith, ltb→lt, length-append}
use Rattle.std.proofs.lemmas.Nat.{div-add-mod', mod-mul-add, div_below, mod_below, mul-add-lt}
use Rattle.std.proofs.lemmas.List.{ext_get_or, get_or-map, length-map, get_or_append_left, get_or-append_right, length-replicate}
use Rattle.std.proofs.lemmas.Bool.{cases_order}
use Rattle.tables.specs.declared.family.FamilyId.{FamilyId}
use Rattle.tables.specs.declared.place.Place.{Place}
use Rattle.tables.specs.declared.work.StagedWrite.{StagedWrite}
use Rattle.tables.specs.Families.{shape_of}
use Rattle.tables.specs.Places.{cell_of, rows_before}
use Rattle.tables.proofs.PlaceFacts.{one_place, cell_is}
use Rattle.values.specs.Reading.{EachOf}
use Rattle.values.proofs.Parts.{each_of_length, each_of_at}
use Rattle.headers.specs.declared.Spans.{Spans}
use Rattle.headers.specs.Headers.{InTable, rows_in, row_place}
use Rattle.blocks.specs.Layouts.{Slot, slot, offset, ascending, Holds, Layout, Lawful, cells_at, placed}
use Rattle.blocks.specs.Rows.{row_in, writes_from}
use Rattle.blocks.proofs.LayoutFacts.{both, placed-length, slots_fit}
use Rattle.blocks.proofs.RowFacts.{row_stands}
use Rattle.transfers.specs.Sets.{Taken, cell_at, no_write}

-- the j-th cell of a row
abbrev slot_at : List Slot → ℕ → Slot
slot_at xs j = get_or xs j (slot 0 0)

-- a cell stands before all that follow it
behind_first : (x : Slot) (xs : List Slot) → T (ascending (x ∷ xs)) → (j : ℕ) → j < length xs → offset x < offset (slot_at xs j)
behind_first x [] t j l = absurd (omega arith)
behind_first x (y ∷ ys) t zero l = ltb→lt (offset x) (offset y) (both (ltb (offset x) (offset y)) (ascending (y ∷ ys)) t).0
behind_first x (y ∷ ys) t (suc j) l =
    let h = both (ltb (offset x) (offset y)) (ascending (y ∷ ys)) t in
    omega (arith, ltb→lt (offset x) (offset y) h.0, behind_first y ys h.1 j (omega arith))

ascending_rest : (x : Slot) (xs : List Slot) → T (ascending (x ∷ xs)) → T (ascending xs)
ascending_rest x [] t = tt
ascending_rest x (y ∷ ys) t = (both (ltb (offset x) (offset y)) (ascending (y ∷ ys)) t).1

in_order : (xs : List Slot) → T (ascending xs) → (i j : ℕ) → i < j → j < length xs → offset (slot_at xs i) < offset (slot_at xs j)
in_order [] t i j h l = absurd (omega arith)
in_order (x ∷ xs) t i zero h l = absurd (omega arith)
in_order (x ∷ xs) t zero (suc j) h l = behind_first x xs t j (omega arith)
in_order (x ∷ xs) t (suc i) (suc j) h l = in_order xs (ascending_rest x xs t) i j (omega arith) (omega arith)

same_slot : (xs : List Slot) → T (ascending xs) → (i j : ℕ) → i < length xs → j < length xs → offset (slot_at xs i) ≡ offset (slot_at xs j) → i ≡ j
same_slot xs t i j h l e =
    elim (cases_order i j) [
      | inl same ↦ same
      | inr (inl less) ↦ absurd (omega (arith, in_order xs t i j less l))
      | inr (inr more) ↦ absurd (omega (arith, in_order xs t j i more h))
    ]

-- the j-th write of a row
placed_at : (base : ℕ) (xs : List Slot) (vs : List ℕ) (j : ℕ) → length vs ≡ length xs → j < length xs → get_or (placed base xs vs) j no_write ≡ record { cell = base + offset (slot_at xs j); value = get_or vs j 0 }
placed_at base [] vs j e l = absurd (omega arith)
placed_at base (x ∷ xs) [] j e l = absurd (omega arith)
placed_at base (x ∷ xs) (v ∷ vs) zero e l = refl
placed_at base (x ∷ xs) (v ∷ vs) (suc j) e l = placed_at base xs vs j (omega arith) (omega arith)

module _ {R : Type 0} (f : FamilyId) (l : Layout R) (lawful : Lawful f l) (sp : Spans) where
  abbrev width : ℕ
  width = length l.carried

  abbrev base : ℕ → ℕ
  base k = cell_of (row_place f sp k)

  abbrev RowsAllowed : ℕ → List R → Type 0
  RowsAllowed q = EachOf (λ (u : ℕ). l.allowed) (replicate q 0)

  many_values : (r : R) → l.allowed r → length (l.values r) ≡ width
  many_values r ok = each_of_length (Holds f) l.carried (l.values r) (lawful.held r ok)

  many_placed : (k : ℕ) (r : R) → l.allowed r → length (placed (base k) l.carried (l.values r)) ≡ width
  many_placed k r ok = placed-length (base k) l.carried (l.values r) (many_values r ok)

  -- a write for each cell of each row
  many_writes : (q i : ℕ) (rs : List R) → RowsAllowed q rs → length (writes_from f l sp i rs) ≡ q * width
  many_writes zero i [] ok = sym (zero-mul width)
  many_writes zero i (r ∷ rs) ok = absurd ok
  many_writes (suc q) i [] ok = absurd ok
  many_writes (suc q) i (r ∷ rs) ok =
      omega (arith, length-append (placed (base i) l.carried (l.values r)) (writes_from f l sp (i + 1) rs), many_placed i r ok.0, many_writes q (i + 1) rs ok.1, suc-mul q width)

  -- the j-th write of the k-th row
  write_at : (q i : ℕ) (rs : List R) (k j n : ℕ) (d : R) → RowsAllowed q rs → k < q → j < width → i + k ≡ n
      → get_or (writes_from f l sp i rs) (k * width + j) no_write ≡ record { cell = base n + offset (slot_at l.carried j); value = get_or (l.values (get_or rs k d)) j 0 }
  write_at zero i rs k j n d ok less h e = absurd (omega arith)
  write_at (suc q) i [] k j n d ok less h e = absurd ok
  write_at (suc q) i (r ∷ rs) zero j n d ok less h e =
      let first = placed (base i) l.carried (l.values r) in
      let here : zero * width + j ≡ j = omega (arith, zero-mul width) in
      let same : i ≡ n = omega arith in
      ap (λ m. get_or (first ++ writes_from f l sp (i + 1) rs) m no_write) here
      ∙ (get_or_append_left first (writes_from f l sp (i + 1) rs) no_write j (omega (arith, many_placed i r ok.0))
      ∙ (placed_at (base i) l.carried (l.values r) j (many_values r ok.0) h
      ∙ ap (λ m. record { cell = base m + offset (slot_at l.carried j); value = get_or (l.values r) j 0 }) same))
  write_at (suc q) i (r ∷ rs) (suc k) j n d ok less h e =
      let first = placed (base i) l.carried (l.values r) in
      let rest = writes_from f l sp (i + 1) rs in
      let there : suc k * width + j - width ≡ k * width + j = omega (arith, suc-mul k width) in
      get_or-append_right first rest width (suc k * width + j) no_write (many_placed i r ok.0) (omega (arith, suc-mul k width))
      ∙ (ap (λ m. get_or rest m no_write) there
      ∙ write_at q (i + 1) rs k j n d ok.1 (omega arith) h (omega arith))

  module _ (t : InTable f sp) (up : T (ascending l.carried)) where
    -- rows at one cell are one row
    same_row : (k a : ℕ) → k < rows_in sp → a < rows_in sp → base k ≡ base a → k ≡ a
    same_row k a h g e =
        let q = sp.first.quantity in
        let p = one_place (row_place f sp k) (row_place f sp a) (row_stands f sp k t h) (row_stands f sp a t g) e in
        let first = ap (λ (x : Place). x.first) p in
        let second = ap (λ (x : Place). x.second) p in
        let high : k / q ≡ a / q = omega (arith, second) in
        omega (arith, first, ap (λ x. x * q) high, div-add-mod' k q, div-add-mod' a q)

    -- one cell is written once
    same_write : (k a i j : ℕ) → k < rows_in sp → a < rows_in sp → i < width → j < width → base k + offset (slot_at l.carried i) ≡ base a + offset (slot_at l.carried j) → (k ≡ a) × (i ≡ j)
    same_write k a i j h g ih jh e =
        let w = (shape_of f).row_cells in
        let p = row_place f sp k in
        let q = row_place f sp a in
        let x = offset (slot_at l.carried i) in
        let y = offset (slot_at l.carried j) in
        let xw : x < w = (slots_fit f p.first p.second (row_stands f sp k t h) l.carried lawful.stand i ih).0 in
        let yw : y < w = (slots_fit f q.first q.second (row_stands f sp a t g) l.carried lawful.stand j jh).0 in
        let sum : rows_before p * w + x ≡ rows_before q * w + y = omega (arith, cell_is p, cell_is q) in
        let o : x ≡ y = sym (mod-mul-add (rows_before p) w x xw) ∙ (ap (λ n. n % w) sum ∙ mod-mul-add (rows_before q) w y yw) in
        (same_row k a h g (omega arith), same_slot l.carried up i j ih jh o)

    module _ (rs : List R) (before after : List ℕ) (ok : RowsAllowed (rows_in sp) rs) (taken : Taken before (writes_from f l sp 0 rs) after) where
      abbrev ws : List StagedWrite
      ws = writes_from f l sp 0 rs

      write-is : (k j : ℕ) (d : R) → k < rows_in sp → j < width → get_or ws (k * width + j) no_write ≡ record { cell = base k + offset (slot_at l.carried j); value = get_or (l.values (get_or rs k d)) j 0 }
      write-is k j d h jh = write_at (rows_in sp) 0 rs k j k d ok h jh (zero-add k)

      -- no later write is at the same cell
      apart : (k j n : ℕ) (d : R) → k < rows_in sp → j < width → k * width + j < n → n < length ws → cell_at ws n ≡ cell_at ws (k * width + j) → ⊥
      apart k j n d h jh later less e =
          let a = n / width in
          let i = n % width in
          let all = many_writes (rows_in sp) 0 rs ok in
          let ah : a < rows_in sp = div_below n width (rows_in sp) (omega arith) (omega arith) in
          let ih : i < width = mod_below n width (omega arith) in
          let whole : a * width + i ≡ n = div-add-mod' n width in
          let there : cell_at ws n ≡ base a + offset (slot_at l.carried i) = ap (cell_at ws) (sym whole) ∙ ap (λ (x : StagedWrite). x.cell) (write-is a i d ah ih) in
          let here : cell_at ws (k * width + j) ≡ base k + offset (slot_at l.carried j) = ap (λ (x : StagedWrite). x.cell) (write-is k j d h jh) in
          let same = same_write a k i j ah h ih jh (sym there ∙ (e ∙ here)) in
          omega (arith, ap (λ x. x * width) same.0, same.1)

      cell-stored : (k j : ℕ) (d : R) → k < rows_in sp → j < width → get_or after (base k + offset (slot_at l.carried j)) 0 ≡ get_or (l.values (get_or rs k d)) j 0
      cell-stored k j d h jh =
          let n = k * width + j in
          let is = write-is k j d h jh in
          let less : n < length ws = omega (arith, many_writes (rows_in sp) 0 rs ok, mul-add-lt k width j (rows_in sp) h jh, mul_comm width (rows_in sp)) in
          ap (λ c. get_or after c 0) (sym (ap (λ (x : StagedWrite). x.cell) is))
          ∙ (taken.last n less (λ m later within e. apart k j m d h jh later within e)
          ∙ ap (λ (x : StagedWrite). x.value) is)

      row-stored : (k : ℕ) (d : R) → k < rows_in sp → row_in after f l sp k ≡ get_or rs k d
      row-stored k d h =
          let r = get_or rs k d in
          let allowed : l.allowed r = each_of_at (λ (u : ℕ). l.allowed) (replicate (rows_in sp) 0) rs 0 d k ok (omega (arith, length-replicate {A = ℕ} (rows_in sp) 0)) in
          let long : length (cells_at after (base k) l.carried) ≡ width = length-map l.carried (λ x. get_or after (base k + offset x) 0) in
          let cells : cells_at after (base k) l.carried ≡ l.values r =
          ext_get_or 0 (cells_at after (base k) l.carried) (l.values r) (long ∙ sym (many_values r allowed))
          (λ j less. let jh : j < width = omega arith in get_or-map (λ x. get_or after (base k + offset x) 0) l.carried j (slot 0 0) 0 jh ∙ cell-stored k j d h jh) in
          ap l.row_of cells ∙ lawful.back r allowed

pub rows-stored : {R : Type 0} (f : FamilyId) (l : Layout R) → Lawful f l → T (ascending l.carried) → (sp : Spans) (rs : List R) (before after : List ℕ) → InTable f sp
    → EachOf (λ (u : ℕ). l.allowed) (replicate (rows_in sp) 0) rs
    → Taken before (writes_from f l sp 0 rs) after
    → (k : ℕ) (d : R) → k < rows_in sp → row_in after f l sp k ≡ get_or rs k d
rows-stored f l lawful up sp rs before after t ok taken = row-stored f l lawful sp t up rs before after ok taken
