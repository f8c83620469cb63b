-- A block, part by part.
use Rattle.std.proofs.Common.{◌≡◌, ℕ, zero, suc, ◌+◌, ◌*◌, ◌<◌, ◌≤◌, List, [], ◌∷◌, ◌++◌, length, get_or, replicate, sym, refl, subst, mul-le-mul_right, arith}
use denote.Ref.{Bor}
use Rattle.tables.specs.declared.family.FamilyId.{FamilyId}
use Rattle.tables.specs.declared.work.StagedWrite.{StagedWrite}
use Rattle.tables.specs.Families.{shape_of, rows_of}
use Rattle.tables.specs.Places.{cell_of}
use Rattle.values.specs.declared.Fault.{Fault}
use Rattle.values.specs.declared.Fault.TheVariants.{Over}
use Rattle.values.specs.declared.reader.Reader.{Reader}
use Rattle.values.specs.Reading.{Took, at_first, at_second, in_part, over, Decided, Near, EachOf}
use Rattle.values.proofs.Readers.{TookOn, took_on, fault_on}
use Rattle.values.proofs.Parts.{then_decided, then_near, whole_decided, whole_near, near_more}
use Rattle.headers.specs.declared.Spans.{Spans}
use Rattle.headers.specs.Headers.{InTable, rows_in, row_place, spans_of, count, count_octets}
use Rattle.headers.proofs.HeaderFacts.{spans_in_table, spans_decided, spans_near, exactly_decided, count_near}
use Rattle.blocks.specs.Layouts.{Layout, Lawful, Small, placed}
use Rattle.blocks.specs.Rows.{rows, writes_from, Staged, StagedBy}
use Rattle.blocks.specs.Blocks.{contents, BlockMeans}
use Rattle.blocks.proofs.LayoutFacts.{WriteFits, writes_fit}
use Rattle.blocks.proofs.RowFacts.{few_rows, row_stands, rows_decided, rows_written, rows_near}

-- rows of the table fit, however many
pub fits_rows : (f : FamilyId) (sp : Spans) (w most : ℕ) → InTable f sp → rows_of f * w ≤ most → rows_in sp * w ≤ most
fits_rows f sp w most t h = omega (arith, h, mul-le-mul_right {m = rows_in sp} {n = rows_of f} w (few_rows f sp t))

-- what follows the spans of a block
module _ {R : Type 0} (f : FamilyId) (l : Layout R) {b m : Reader} {sp : Spans} (t : Took (spans_of f) b m sp) {n : ℕ} (rows_are : n ≡ rows_in sp) where
  pub count-missed : (w : Fault) → (count n).Faults m.octets.now m.at w → (contents f l).Faults b.octets.now b.at w
  count-missed w e = at_second sp m.at t.means (at_first (fault_on (count (rows_in sp)) b m t.same w (subst (λ k. (count k).Faults m.octets.now m.at w) rows_are e)))

  module _ {a : Reader} {marks : List (Unit {0})} (k : Took (count n) m a marks) where
    counted : TookOn (count (rows_in sp)) b m a marks
    counted = took_on b t.same (subst (λ k. Took (count k) m a marks) rows_are k)

    pub rows-missed : (w : Fault) → (rows l.reading (rows_in sp)).Faults a.octets.now a.at w → (contents f l).Faults b.octets.now b.at w
    rows-missed w e = at_second sp m.at t.means (at_second marks a.at counted.means (in_part (fault_on (rows l.reading (rows_in sp)) b a counted.same w e)))

    module _ {z : Reader} {was is : List StagedWrite} (g : StagedBy f l sp (rows_in sp) a z was is) where
      staged_on : Staged f l sp (rows_in sp) b.octets.now a.at was is z.at
      staged_on = subst (λ (o : Bor (List ℕ)). Staged f l sp (rows_in sp) o.now a.at was is z.at) counted.same g.staged

      pub rows-over : z.at < length b.octets.now → (contents f l).Faults b.octets.now b.at (Over z.at)
      rows-over less = at_second sp m.at t.means (at_second marks a.at counted.means (over staged_on.meant z.at staged_on.means less refl))

module _ {R : Type 0} (f : FamilyId) (l : Layout R) (lawful : Lawful f l) where
  pub contents_decided : Decided (contents f l)
  contents_decided =
      then_decided (spans_decided (shape_of f).last_first (shape_of f).last_second)
      (λ sp. then_decided (exactly_decided (count_octets (rows_in sp))) (λ u. whole_decided (rows_decided lawful.decided (rows_in sp))))

  -- a block and its faults lie within 1,023 octets
  pub contents_near : Small f l → Near (contents f l) 1021
  contents_near small =
      then_near {m = 4} {n = 1017} (spans_near (shape_of f).last_first (shape_of f).last_second)
      (λ s i sp mid h. then_near {m = 3} {n = 1014} (count_near (rows_in sp))
      (λ t j u from k. whole_near (near_more (fits_rows f sp l.most 1014 (spans_in_table f s i sp mid h) small.reply) (rows_near lawful.near (rows_in sp)))))

-- every write of the list fits
abbrev AllFit : List StagedWrite → Type 0
AllFit ws = (k : ℕ) → k < length ws → WriteFits (get_or ws k (record { cell = 0; value = 0 }))

fit_append : (xs ys : List StagedWrite) → AllFit xs → AllFit ys → AllFit (xs ++ ys)
fit_append [] ys a b k l = b k l
fit_append (x ∷ xs) ys a b zero l = a 0 (omega arith)
fit_append (x ∷ xs) ys a b (suc k) l = fit_append xs ys (λ n h. a (suc n) (omega arith)) b k (omega arith)

module _ {R : Type 0} (f : FamilyId) (l : Layout R) (lawful : Lawful f l) where
  rows_fit : (sp : Spans) → InTable f sp → (q i : ℕ) (rs : List R) → i + q ≤ rows_in sp → EachOf (λ (u : ℕ). l.allowed) (replicate q 0) rs → AllFit (writes_from f l sp i rs)
  rows_fit sp t q i [] few ok k less = absurd (omega arith)
  rows_fit sp t zero i (r ∷ rs) few ok k less = absurd ok
  rows_fit sp t (suc q) i (r ∷ rs) few ok k less =
      let p = row_place f sp i in
      fit_append (placed (cell_of p) l.carried (l.values r)) (writes_from f l sp (i + 1) rs)
      (writes_fit f p.first p.second (row_stands f sp i t (omega arith)) l.carried (l.values r) lawful.stand (lawful.held r ok.0))
      (rows_fit sp t q (i + 1) rs (omega arith) ok.1) k less

  -- the table has the cells of a block's writes, and they take the values
  pub block_fits : (s : List ℕ) (ws : List StagedWrite) → BlockMeans f l s ws → (k : ℕ) → k < length ws → WriteFits (get_or ws k (record { cell = 0; value = 0 }))
  block_fits s ws h =
      let sp = h.spans in
      let m = h.means in
      let ok = (rows_written lawful.written (rows_in sp)).ok s m.two.mid h.sent (length s) m.two.two.0 in
      subst AllFit (sym h.writes) (rows_fit sp (spans_in_table f s 2 sp m.mid m.one) (rows_in sp) 0 h.sent (omega arith) ok)
