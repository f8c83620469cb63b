-- Staged writes, and the table after them.
use Rattle.std.proofs.Common.{◌≡◌, ℕ, ◌+◌, ◌*◌, ◌<◌, ◌≤◌, ◌≢◌, List, [], ◌∷◌, ◌++◌, length, get_or, take, drop, set, sym, refl, ap, ◌∙◌, subst, inl, inr, arith}
use Rattle.std.proofs.lemmas.List.{length_push, get_or_push, get_or_append_left, length-drop, length-set, get_or-set_same, get_or-set_other, take_more}
use Rattle.std.proofs.lemmas.Bool.{cases_lt}
use Rattle.tables.specs.declared.work.StagedWrite.{StagedWrite}
use Rattle.tables.specs.Allowed.{Stores}
use Rattle.tables.proofs.WidthFacts.{stored_fits}
use Rattle.memory.specs.Top.{cell_count, top_of}
use Rattle.transfers.specs.declared.refusal.Refusal.{Refusal}
use Rattle.transfers.specs.Items.{address_at, sent_at, count_in, Whole}
use Rattle.transfers.specs.Sets.{Writes, ItemFault, FirstFault, Taken, cell_at, value_at, no_write}

-- the items' octets are six to an item
pub item_count : (body items : List ℕ) → Whole 6 body → items ≡ drop 1 body → length items ≡ count_in body * 6
item_count body items w e = omega (arith, ap length e, length-drop 1 body, w.octets)

pub writes_none : (body : List ℕ) → Writes body 0 []
writes_none body = record { count = refl; each = λ k h. absurd (omega arith) }

before_last : (ws : List StagedWrite) (w : StagedWrite) (k : ℕ) → k < length ws → get_or (ws ++ w ∷ []) k no_write ≡ get_or ws k no_write
before_last ws w k h = get_or_append_left ws (w ∷ []) no_write k h

at_last : (ws : List StagedWrite) (w : StagedWrite) (k : ℕ) → k ≡ length ws → get_or (ws ++ w ∷ []) k no_write ≡ w
at_last ws w k e = get_or_push ws w no_write k (sym e)

pub writes_more :
    (body : List ℕ) (ws : List StagedWrite) (n : ℕ) (w : StagedWrite)
    → Writes body n ws → Stores (address_at body n) (sent_at body (count_in body) n) w.cell w.value
    → Writes body (n + 1) (ws ++ w ∷ [])
writes_more body ws n w x s =
    let One : ℕ → StagedWrite → Type 0 = λ k v. Stores (address_at body k) (sent_at body (count_in body) k) v.cell v.value in
    record {
      count = length_push ws w ∙ ap (λ m. m + 1) x.count;
      each = λ k h.
          elim (cases_lt k n) [
            | inl l ↦ subst (One k) (sym (before_last ws w k (omega (arith, x.count)))) (x.each k l)
            | inr l ↦
                let e : n ≡ k = omega arith in
                subst (λ m. One m (get_or (ws ++ w ∷ []) m no_write)) e (subst (One n) (sym (at_last ws w n (sym x.count))) s)
          ];
    }

pub first_fault :
    (body : List ℕ) (ws : List StagedWrite) (k : ℕ) (e : Refusal) → k < count_in body → Writes body k ws → ItemFault body k e → FirstFault body k e
first_fault body ws k e h x f =
    record { within = h; here = f; before = λ j l. (cell_at ws j, value_at ws j, x.each j l) }

pub taken_none : (cells : List ℕ) → Taken cells [] cells
taken_none cells = record { count = refl; last = λ k h n. absurd (omega arith); others = λ c n. refl }

pub taken_more :
    (b a : List ℕ) (ws : List StagedWrite) (w : StagedWrite)
    → w.cell < length a → Taken b ws a → Taken b (ws ++ w ∷ []) (set a w.cell w.value)
taken_more b a ws w h t =
    let size : length (ws ++ w ∷ []) ≡ length ws + 1 = length_push ws w in
    record {
      count = length-set a w.cell w.value ∙ t.count;
      last = λ k l later.
          elim (cases_lt k (length ws)) [
            | inl k< ↦
                let same : get_or (ws ++ w ∷ []) k no_write ≡ get_or ws k no_write = before_last ws w k k< in
                let cell : cell_at (ws ++ w ∷ []) k ≡ cell_at ws k = ap (λ (x : StagedWrite). x.cell) same in
                let value : value_at (ws ++ w ∷ []) k ≡ value_at ws k = ap (λ (x : StagedWrite). x.value) same in
                let end : cell_at (ws ++ w ∷ []) (length ws) ≡ w.cell = ap (λ (x : StagedWrite). x.cell) (at_last ws w (length ws) refl) in
                let apart : cell_at ws k ≢ w.cell = λ e. later (length ws) k< (omega arith) (end ∙ (sym e ∙ sym cell)) in
                ap (λ c. get_or (set a w.cell w.value) c 0) cell
                ∙ (get_or-set_other a w.cell (cell_at ws k) w.value 0 apart
                ∙ (t.last k k<
                (λ j kj j< e.
                later j kj (omega arith) (ap (λ (x : StagedWrite). x.cell) (before_last ws w j j<) ∙ (e ∙ sym cell)))
                ∙ sym value))
            | inr k≥ ↦
                let end : get_or (ws ++ w ∷ []) k no_write ≡ w = at_last ws w k (omega arith) in
                ap (λ (x : StagedWrite). get_or (set a w.cell w.value) x.cell 0) end
                ∙ (get_or-set_same a w.cell w.value 0 h ∙ sym (ap (λ (x : StagedWrite). x.value) end))
          ];
      others = λ c none.
          let end : cell_at (ws ++ w ∷ []) (length ws) ≡ w.cell = ap (λ (x : StagedWrite). x.cell) (at_last ws w (length ws) refl) in
          let apart : c ≢ w.cell = λ e. none (length ws) (omega arith) (end ∙ sym e) in
          get_or-set_other a w.cell c w.value 0 apart
          ∙ t.others c (λ k k< e. none k (omega arith) (ap (λ (x : StagedWrite). x.cell) (before_last ws w k k<) ∙ e));
    }

pub taken_next :
    (b a : List ℕ) (ws : List StagedWrite) (i : ℕ) (d : StagedWrite)
    → i < length ws → (get_or ws i d).cell < length a → Taken b (take i ws) a
    → Taken b (take (i + 1) ws) (set a (get_or ws i d).cell (get_or ws i d).value)
taken_next b a ws i d h c t =
    subst (λ us. Taken b us (set a (get_or ws i d).cell (get_or ws i d).value)) (sym (take_more ws i d h)) (taken_more b a (take i ws) (get_or ws i d) c t)

-- the writes that items ask for fit their cells
pub writes_fit :
    (body : List ℕ) (m : ℕ) (ws : List StagedWrite) → Writes body m ws
    → (k : ℕ) → k < length ws → (cell_at ws k < cell_count) × (value_at ws k ≤ top_of (cell_at ws k))
writes_fit body m ws x k h = stored_fits (address_at body k) (sent_at body (count_in body) k) (cell_at ws k) (value_at ws k) (x.each k (omega (arith, x.count)))
