-- Rows of a block, one after the other.
use Rattle.std.proofs.Common.{◌≡◌, ℕ, suc, ◌+◌, ◌-◌, ◌*◌, ◌/◌, ◌<◌, ◌≤◌, max, List, [], ◌∷◌, ◌++◌, map, length, replicate, sym, refl, ap, ◌∙◌, subst, inl, inr, append_assoc, append-nil, add-zero, mul-le-mul_right, mul_comm, add-mul, mul-le-mul, one-mul, arith}
use lib.ListN.{length-replicate, replicate-append-replicate}
use Rattle.std.specs.List.{range_with_len}
use Rattle.std.proofs.lemmas.Nat.{div_below, mod_below}
use Rattle.std.proofs.lemmas.List.{replicate_more}
use Rattle.std.proofs.lemmas.List.FromFn.{length-map-range_with_len, map-range_with_len_more}
use Rattle.memory.specs.Top.{cell_count}
use Rattle.tables.specs.declared.family.FamilyId.{FamilyId}
use Rattle.tables.specs.declared.work.StagedWrite.{StagedWrite}
use Rattle.tables.specs.Families.{shape_of, rows_of, cells_of, column_of}
use Rattle.tables.specs.Places.{Stands, cell_of, rows_before}
use Rattle.tables.proofs.PlaceFacts.{cell_is, row_of, sizes, last_list}
use Rattle.values.specs.declared.Fault.{Fault}
use Rattle.values.specs.declared.reader.Reader.{Reader}
use Rattle.values.specs.Reading.{Reading, Took, Decided, Written, Near, EachMeans, EachFaults, EachOf, each_octets}
use Rattle.values.proofs.Readers.{took_on, fault_on}
use Rattle.values.proofs.Parts.{each_append, each_after, each-length, each_decided, each-written, octets_append, each_near, near_more, total_same}
use Rattle.headers.specs.declared.Spans.{Spans}
use Rattle.headers.specs.Headers.{InTable, rows_in, row_at, row_place}
use Rattle.blocks.specs.Layouts.{Layout, placed}
use Rattle.blocks.specs.Rows.{rows, rows_octets, writes_from, Staged, StagedBy}

-- the second index of a row is in the table
pub second_within : (f : FamilyId) (sp : Spans) (k : ℕ) → InTable f sp → k < rows_in sp → k / sp.first.quantity < sp.second.quantity
second_within f sp k t l = div_below k sp.first.quantity sp.second.quantity (omega (arith, t.first_some)) (omega (arith, l, mul_comm sp.first.quantity sp.second.quantity))

one_cell : (f : FamilyId) → 0 < cells_of (column_of f 1)
one_cell f = elim (last_list f 1 (omega arith) (sizes f).columns_least) [ inl e ↦ omega (arith, e) | inr e ↦ omega (arith, e.2) ]

-- every row of a block that lies in the table stands there
pub row_stands : (f : FamilyId) (sp : Spans) (k : ℕ) → InTable f sp → k < rows_in sp → Stands (row_place f sp k)
row_stands f sp k t l =
    let m = mod_below k sp.first.quantity (omega (arith, t.first_some)) in
    let d = second_within f sp k t l in
    record {
      first_least = omega (arith, t.first_least);
      first_last = omega (arith, t.first_last, m);
      second_least = omega (arith, t.second_least);
      second_last = omega (arith, t.second_last, d);
      column_least = omega arith;
      column_last = (sizes f).columns_least;
      octet_within = one_cell f;
    }

-- a row's cells are all in the table
pub row_within : (f : FamilyId) (x y : ℕ) → Stands (row_at f x y) → cell_of (row_at f x y) + (shape_of f).row_cells ≤ cell_count
row_within f x y s =
    let p = row_at f x y in
    let w = (shape_of f).row_cells in
    let k = mul-le-mul_right {m = rows_before p + 1} {n = rows_of f} w (omega (arith, row_of p s)) in
    omega (arith, cell_is p, k, add-mul (rows_before p) 1 w, one-mul w, (sizes f).ends)

pub few_rows : (f : FamilyId) (sp : Spans) → InTable f sp → rows_in sp ≤ rows_of f
few_rows f sp t =
    let firsts : sp.first.quantity ≤ (shape_of f).last_first = omega (arith, t.first_least, t.first_last) in
    let seconds : sp.second.quantity ≤ max 1 (shape_of f).last_second = omega (arith, t.second_least, t.second_last) in
    mul-le-mul firsts seconds

-- room for one row more
pub room_left : (a q i w r : ℕ) → a + q * w ≤ r → i < q → a + i * w + w ≤ r
room_left a q i w r h l = let k = mul-le-mul_right {m = i + 1} {n = q} w (omega arith) in omega (arith, k, add-mul i 1 w, one-mul w)

pub one_more_of : (i w : ℕ) → (i + 1) * w ≡ i * w + w
one_more_of i w = add-mul i 1 w ∙ ap (λ n. i * w + n) (one-mul w)

module _ {R : Type 0} (f : FamilyId) (l : Layout R) (sp : Spans) where
  abbrev writes_at : ℕ → R → List StagedWrite
  writes_at k r = placed (cell_of (row_place f sp k)) l.carried (l.values r)

  writes_more : (k : ℕ) (rs : List R) (r : R) → writes_from f l sp k (rs ++ r ∷ []) ≡ writes_from f l sp k rs ++ writes_at (k + length rs) r
  writes_more k [] r = append-nil (writes_at k r) ∙ ap (λ n. writes_at n r) (sym (add-zero k))
  writes_more k (q ∷ rs) r =
      let e : k + 1 + length rs ≡ k + length (q ∷ rs) = omega arith in
      ap (λ ws. writes_at k q ++ ws) (writes_more (k + 1) rs r ∙ ap (λ n. writes_from f l sp (k + 1) rs ++ writes_at n r) e)
      ∙ sym (append_assoc (writes_at k q) (writes_from f l sp (k + 1) rs) (writes_at (k + length (q ∷ rs)) r))

  pub one_more : (k : ℕ) (s : List ℕ) (from : ℕ) (before mid after : List StagedWrite) (row : R) (pos end : ℕ) → Staged f l sp k s from before mid pos → l.reading.Means s pos row end
      → after ≡ mid ++ writes_at k row → Staged f l sp (k + 1) s from before after end
  one_more k s from before mid after row pos end h m e =
      let rd = l.reading in
      let many : length h.meant ≡ k = each-length (λ (u : ℕ). rd) (replicate k 0) s from h.meant pos h.means ∙ length-replicate k 0 in
      let at : k ≡ 0 + length h.meant = omega arith in
      record {
        meant = h.meant ++ row ∷ [];
        means = subst (λ us. EachMeans (λ (u : ℕ). rd) us s from (h.meant ++ row ∷ []) end) (replicate_more k 0) (each_append (λ (u : ℕ). rd) (replicate k 0) (0 ∷ []) s from h.meant (row ∷ []) pos end h.means (end, m, refl));
        added = e ∙ (λ j. h.added j ++ writes_at (at j) row) ∙ append_assoc before (writes_from f l sp 0 h.meant) (writes_at (0 + length h.meant) row)
            ∙ ap (λ ws. before ++ ws) (sym (writes_more 0 h.meant row));
      }

  pub faulty : (k q : ℕ) (s : List ℕ) (from : ℕ) (before mid : List StagedWrite) (pos : ℕ) (w : Fault) → k < q → Staged f l sp k s from before mid pos → l.reading.Faults s pos w → (rows l.reading q).Faults s from w
  faulty k q s from before mid pos w less h e =
      let all : replicate {A = ℕ} k 0 ++ replicate (suc (q - k - 1)) 0 ≡ replicate q 0 = replicate-append-replicate k (suc (q - k - 1)) 0 ∙ ap (λ n. replicate n 0) (omega arith) in
      subst (λ us. EachFaults (λ (u : ℕ). l.reading) us s from w) all (each_after (λ (u : ℕ). l.reading) (replicate k 0) (replicate (suc (q - k - 1)) 0) s from h.meant pos w h.means (inl e))

  -- the same by a reader
  pub one_read : (k : ℕ) {b a z : Reader} {was mid is : List StagedWrite} {row : R} → StagedBy f l sp k b a was mid → Took l.reading a z row → is ≡ mid ++ writes_at k row → StagedBy f l sp (k + 1) b z was is
  one_read k {b = b} {a = a} {z = z} {was = was} {mid = mid} {is = is} {row = row} h t e =
      let u = took_on b h.same t in
      record { same = u.same; staged = one_more k b.octets.now b.at was mid is row a.at z.at h.staged u.means e }

  pub one_wrong : (k q : ℕ) {b a : Reader} {was mid : List StagedWrite} → k < q → StagedBy f l sp k b a was mid → (w : Fault) → l.reading.Faults a.octets.now a.at w → (rows l.reading q).Faults b.octets.now b.at w
  one_wrong k q {b = b} {a = a} {was = was} {mid = mid} less h w e = faulty k q b.octets.now b.at was mid a.at w less h.staged (fault_on l.reading b a h.same w e)

-- rows shown and written, one more
module _ {R : Type 0} (octets : R → List ℕ) (row : ℕ → R) where
  pub shown_more : (k : ℕ) → map row (range_with_len 0 (k + 1)) ≡ map row (range_with_len 0 k) ++ row k ∷ []
  shown_more k = map-range_with_len_more row 0 k k (omega arith)

  pub octets_more : (k : ℕ) → rows_octets octets (k + 1) (map row (range_with_len 0 (k + 1))) ≡ rows_octets octets k (map row (range_with_len 0 k)) ++ octets (row k)
  octets_more k =
      ap (rows_octets octets (k + 1)) (shown_more k)
      ∙ (ap (λ us. each_octets (λ (u : ℕ). octets) us (map row (range_with_len 0 k) ++ row k ∷ [])) (sym (replicate_more k 0))
      ∙ (octets_append (λ (u : ℕ). octets) (replicate k 0) (0 ∷ []) (map row (range_with_len 0 k)) (row k ∷ []) (length-map-range_with_len row 0 k ∙ sym (length-replicate k 0))
      ∙ ap (λ t. rows_octets octets k (map row (range_with_len 0 k)) ++ t) (append-nil (octets (row k)))))

pub rows_decided : {R : Type 0} {rd : Reading R} → Decided rd → (q : ℕ) → Decided (rows rd q)
rows_decided d q = each_decided (λ u. d) (replicate q 0)

pub rows_written : {R : Type 0} {rd : Reading R} {allowed : R → Type 0} {octets : R → List ℕ} → Written rd allowed octets → (q : ℕ)
    → Written (rows rd q) (EachOf (λ (u : ℕ). allowed) (replicate q 0)) (rows_octets octets q)
rows_written w q = each-written (λ u. w) (replicate q 0)

pub rows_near : {R : Type 0} {rd : Reading R} {m : ℕ} → Near rd m → (q : ℕ) → Near (rows rd q) (q * m)
rows_near {m = m} h q = near_more (omega (arith, total_same m q)) (each_near {most = λ (u : ℕ). m} (λ u. h) (replicate q 0))
