-- The cells of a row, one after another.
use Rattle.std.proofs.Common.{◌≡◌, ℕ, ◌+◌, ◌-◌, ◌<◌, ◌≤◌, min, List, [], ◌∷◌, ◌++◌, map, length, get_or, take, drop, set, replicate, Ok, Err, Result, Option, Some, None, MatchOption, IsSome, sym, refl, ap, ◌∙◌, append_assoc, arith, MatchResult}
use Rattle.std.specs.List.{range_with_len}
use Rattle.std.proofs.lemmas.List.FromFn.{length-map-range_with_len, get_or-map-range_with_len, map-range_with_len_more}
use Rattle.std.proofs.lemmas.List.{ext_get_or, length-map, length-take-le, get_or-take, take_all, take_more, take_more_set, map_more, map_push, drop-replicate}
use Rattle.tables.specs.declared.work.StagedWrite.{StagedWrite}
use Rattle.values.specs.declared.phases.PhaseList.{PhaseList}
use Rattle.blocks.specs.Layouts.{Slot, slot, offset, placed, number_slots, list_slots, cells_at, list_in}

-- what was pushed into a list that had room was taken
pub taken : {X T E : Type 0} (r : Result T E) (before after : List X) (x : X) (room : ℕ)
    → MatchResult r (λ _. after ≡ before ++ x ∷ []) (λ _. after ≡ before)
    → MatchResult r (λ _. length before < room) (λ _. length before ≡ room)
    → length before < room → after ≡ before ++ x ∷ []
taken (Ok _) before after x room h e l = h
taken (Err _) before after x room h e l = absurd (omega arith)

-- there is a value where there cannot be none
pub is_there : {A : Type 0} (o : Option A) (P : Type 0) (Q : A → Type 0) → MatchOption o P Q → (P → ⊥) → IsSome o
is_there (Some x) P Q h not = refl
is_there None P Q h not = absurd (not h)

abbrev write : ℕ → ℕ → StagedWrite
write cell v = record { cell = cell; value = v }

placed_push : (base : ℕ) (xs : List Slot) (vs : List ℕ) (x : Slot) (v : ℕ) → length xs ≡ length vs
    → placed base (xs ++ x ∷ []) (vs ++ v ∷ []) ≡ placed base xs vs ++ write (base + offset x) v ∷ []
placed_push base [] [] x v e = refl
placed_push base [] (w ∷ vs) x v e = absurd (omega arith)
placed_push base (y ∷ xs) [] x v e = absurd (omega arith)
placed_push base (y ∷ xs) (w ∷ vs) x v e = ap (λ t. write (base + offset y) w ∷ t) (placed_push base xs vs x v (omega arith))

-- one more write
staged_next : (base : ℕ) (xs : List Slot) (vs : List ℕ) (x : Slot) (v cell : ℕ) (before mid after : List StagedWrite)
    → length xs ≡ length vs → cell ≡ base + offset x → mid ≡ before ++ placed base xs vs → after ≡ mid ++ write cell v ∷ []
    → after ≡ before ++ placed base (xs ++ x ∷ []) (vs ++ v ∷ [])
staged_next base xs vs x v cell before mid after n e h t =
    t
    ∙ (λ j. h j ++ write (e j) v ∷ [])
    ∙ append_assoc before (placed base xs vs) (write (base + offset x) v ∷ [])
    ∙ ap (λ t. before ++ t) (sym (placed_push base xs vs x v n))

module _ (base : ℕ) (columns vs : List ℕ) (i : ℕ) (before : List StagedWrite) where
  pub number_staged : (mid after : List StagedWrite) → i < length columns → i < length vs
      → mid ≡ before ++ placed base (number_slots (take i columns)) (take i vs)
      → after ≡ mid ++ write (base + (get_or columns i 0 - 1)) (get_or vs i 0) ∷ []
      → after ≡ before ++ placed base (number_slots (take (i + 1) columns)) (take (i + 1) vs)
  number_staged mid after l m h t =
      let n : length (number_slots (take i columns)) ≡ length (take i vs) =
      length-map (take i columns) (λ n. slot n 0) ∙ length-take-le i columns (omega arith) ∙ sym (length-take-le i vs (omega arith)) in
      staged_next base (number_slots (take i columns)) (take i vs) (slot (get_or columns i 0) 0) (get_or vs i 0) _ before mid after n (omega arith) h t
      ∙ sym (λ j. before ++ placed base (map_more (λ n. slot n 0) columns i 0 l j) (take_more vs i 0 m j))

  pub numbers_staged : (after : List StagedWrite) → length columns ≤ i → length columns ≡ length vs
      → after ≡ before ++ placed base (number_slots (take i columns)) (take i vs) → after ≡ before ++ placed base (number_slots columns) vs
  numbers_staged after l e h = h ∙ (λ j. before ++ placed base (number_slots (take_all i columns l j)) (take_all i vs (omega arith) j))

-- the octets of a list, after its length
abbrev pub octet_slots : ℕ → ℕ → List Slot
octet_slots column n = map (slot column) (range_with_len 1 n)

module _ (base column : ℕ) (vs : List ℕ) (i : ℕ) (before : List StagedWrite) where
  pub octet_staged : (mid after : List StagedWrite) → i < length vs → mid ≡ before ++ placed base (octet_slots column i) (take i vs)
      → after ≡ mid ++ write (base + (column - 1) + (i + 1)) (get_or vs i 0) ∷ []
      → after ≡ before ++ placed base (octet_slots column (i + 1)) (take (i + 1) vs)
  octet_staged mid after l h t =
      let n : length (octet_slots column i) ≡ length (take i vs) = length-map-range_with_len (slot column) 1 i ∙ sym (length-take-le i vs (omega arith)) in
      staged_next base (octet_slots column i) (take i vs) (slot column (1 + i)) (get_or vs i 0) _ before mid after n (omega arith) h t
      ∙ sym (λ j. before ++ placed base (map-range_with_len_more (slot column) 1 i (1 + i) refl j) (take_more vs i 0 l j))

module _ (cells : List ℕ) (base : ℕ) (columns out : List ℕ) (i : ℕ) where
  pub number_loaded : (v : ℕ) → i < length columns → i < length out → take i out ≡ cells_at cells base (number_slots (take i columns))
      → v ≡ get_or cells (base + (get_or columns i 0 - 1)) 0 → take (i + 1) (set out i v) ≡ cells_at cells base (number_slots (take (i + 1) columns))
  number_loaded v l m h e =
      let c : get_or columns i 0 - 1 ≡ offset (slot (get_or columns i 0) 0) = omega arith in
      take_more_set out i v m
      ∙ (λ j. h j ++ (e ∙ ap (λ n. get_or cells (base + n) 0) c) j ∷ [])
      ∙ sym (map_push _ (number_slots (take i columns)) (slot (get_or columns i 0) 0))
      ∙ ap (cells_at cells base) (sym (map_more (λ n. slot n 0) columns i 0 l))

  pub numbers_loaded : length columns ≤ i → length columns ≡ length out → take i out ≡ cells_at cells base (number_slots (take i columns))
      → out ≡ cells_at cells base (number_slots columns)
  numbers_loaded l e h = sym (take_all i out (omega arith)) ∙ h ∙ ap (λ ns. cells_at cells base (number_slots ns)) (take_all i columns l)

-- the first so many octets of a list of zeros are loaded
pub list_loaded : (cells : List ℕ) (base column len : ℕ) (out : List ℕ)
    → len ≡ min 16 (get_or cells (base + (column - 1)) 0) → length out ≡ len
    → ((i : ℕ) → i < length out → get_or out i 0 ≡ get_or cells (base + (column - 1) + 1 + i) 0)
    → ◌≡◌ {A = PhaseList} (record { len = len; phases = out ++ drop len (replicate 16 0) }) (list_in (cells_at cells base (list_slots column)))
list_loaded cells base column len out e n h =
    let value : ℕ → ℕ = λ k. get_or cells (base + offset (slot column k)) 0 in
    let first : base + (column - 1) ≡ base + offset (slot column 0) = omega arith in
    let len_is : len ≡ min 16 (value 0) = e ∙ ap (λ k. min 16 (get_or cells k 0)) first in
    let few : len ≤ 16 = omega arith in
    let front : out ≡ take len (map value (range_with_len 1 16)) =
    ext_get_or 0 out (take len (map value (range_with_len 1 16)))
    (n ∙ sym (length-take-le len (map value (range_with_len 1 16)) few))
    (λ i l.
    let at : base + (column - 1) + 1 + i ≡ base + offset (slot column (1 + i)) = omega arith in
    let within : i < len = omega arith in
    h i l ∙ ap (λ k. get_or cells k 0) at ∙ sym (get_or-take len (map value (range_with_len 1 16)) i 0 within ∙ get_or-map-range_with_len value 1 16 i (1 + i) 0 (omega arith) refl)) in
    let back : drop len (replicate {A = ℕ} 16 0) ≡ replicate (16 - len) 0 = drop-replicate len 16 0 in
    let row : ℕ → PhaseList = λ m. record { len = m; phases = take m (map value (range_with_len 1 16)) ++ replicate (16 - m) 0 } in
    (λ j. record { len = len; phases = front j ++ back j }) ∙ ap row len_is
