use Rattle.std.proofs.Common.{◌≡◌, ℕ, ◌+◌, ◌*◌, ◌/◌, ◌%◌, ◌<◌, ◌≤◌, true, false, cond, ◌≢◌, ◌⊎◌, List, length, get_or, set, Some, None, sym, refl, ap, ◌∙◌, subst, inl, inr, mod-lt, arith}
use native.Mathlib.Nat.{div-add-mod}
use Rattle.std.specs.Int.{w16, to_be_bytes}
use Rattle.std.proofs.lemmas.List.{ext_get_or, length-set, get_or-set_same, get_or-set_other, get_or_past}
use Rattle.std.proofs.lemmas.List.FromFn.{length-map-range_with_len, get_or-map-range_with_len}
use Rattle.std.proofs.lemmas.Bool.{cases_eq, cases_lt, cond-true, cond-false, lt-ltb, le-ltb, le-leb, lt-leb, and_from, and_left, and_right}
use Rattle.memory.specs.Cells.{read_of, takes, written}
use Rattle.memory.specs.Top.{wide, top_of}
use Rattle.memory.specs.Held.{list_by, word_cell, word_cells, word_highs, WordsDetermined}

-- the two octets of a number below 65536
pub high_octet : (os : List ℕ) (v : ℕ) → v < 65536 → os ≡ to_be_bytes w16 v → get_or os 0 0 ≡ v / 256
high_octet os v h e = ap (λ xs. get_or xs 0 0) e ∙ omega arith

pub low_octet : (os : List ℕ) (v : ℕ) → os ≡ to_be_bytes w16 v → get_or os 1 0 ≡ v % 256
low_octet os v e = ap (λ xs. get_or xs 1 0) e

pub length-list_by : (f : ℕ → ℕ) (n : ℕ) → length (list_by f n) ≡ n
unfolding list_by
length-list_by f n = length-map-range_with_len f 0 n

pub get_or-list_by : (f : ℕ → ℕ) (n i : ℕ) → i < n → get_or (list_by f n) i 0 ≡ f i
unfolding list_by
get_or-list_by f n i h = get_or-map-range_with_len f 0 n i i 0 h (omega arith)

pub list_by_ext : (f g : ℕ → ℕ) (n : ℕ) → ((k : ℕ) → k < n → f k ≡ g k) → list_by f n ≡ list_by g n
list_by_ext f g n same =
    ext_get_or 0 _ _
    (length-list_by f n ∙ sym (length-list_by g n))
    (λ k l.
    let k< : k < n = omega (arith, length-list_by f n) in
    get_or-list_by f n k k< ∙ (same k k< ∙ sym (get_or-list_by g n k k<)))

pub bounded_list_by : (f : ℕ → ℕ) (n : ℕ) → ((i : ℕ) → f i ≤ top_of i) → (i : ℕ) → get_or (list_by f n) i 0 ≤ top_of i
bounded_list_by f n b i =
    elim (cases_lt i n) [
      | inl h ↦ omega (arith, get_or-list_by f n i h, b i)
      | inr h ↦ omega (arith, get_or_past (list_by f n) i 0 (omega (arith, length-list_by f n)))
    ]

pub list_by-set :
    (f g : ℕ → ℕ) (n i v : ℕ)
    → i < n → g i ≡ v → ((k : ℕ) → k < n → k ≢ i → g k ≡ f k) → list_by g n ≡ set (list_by f n) i v
list_by-set f g n i v h here others =
    ext_get_or 0 _ _
    (length-list_by g n ∙ sym (length-set (list_by f n) i v ∙ length-list_by f n))
    (λ k l.
    let k< : k < n = omega (arith, length-list_by g n) in
    elim (cases_eq k i) [
      | inl e ↦
          get_or-list_by g n k k<
          ∙ (ap g e ∙ (here ∙ sym (subst (λ j. get_or (set (list_by f n) i v) j 0 ≡ v) (sym e) (get_or-set_same (list_by f n) i v 0 (omega (arith, length-list_by f n))))))
      | inr ne ↦
          get_or-list_by g n k k<
          ∙ (others k k< ne ∙ sym (get_or-set_other (list_by f n) i k v 0 ne ∙ get_or-list_by f n k k<))
    ])

pub top_wide : (n : ℕ) → wide n ≡ true → top_of n ≡ 65535
unfolding top_of
top_wide n e = ap (λ b. cond b 65535 255) e

pub top_narrow : (n : ℕ) → wide n ≡ false → top_of n ≡ 255
unfolding top_of
top_narrow n e = ap (λ b. cond b 65535 255) e

pub length-word_cells : (ws : List ℕ) → length (word_cells ws) ≡ length ws
unfolding word_cells
length-word_cells ws = length-list_by (word_cell ws) (length ws)

pub bounded_word_cells : (ws : List ℕ) (n : ℕ) → get_or (word_cells ws) n 0 ≤ top_of n
unfolding word_cells word_cell
bounded_word_cells ws =
    bounded_list_by (word_cell ws) (length ws)
    (λ i. let m : get_or ws i 0 % (top_of i + 1) < top_of i + 1 = mod-lt (get_or ws i 0) (omega arith) in omega arith)

pub get_or-word_cells : (ws : List ℕ) (n : ℕ) → n < length ws → get_or (word_cells ws) n 0 ≡ get_or ws n 0 % (top_of n + 1)
unfolding word_cells word_cell
get_or-word_cells ws n h = get_or-list_by (word_cell ws) (length ws) n h

pub word_cells-set :
    (ws : List ℕ) (n w v : ℕ) → n < length ws → w % (top_of n + 1) ≡ v → word_cells (set ws n w) ≡ set (word_cells ws) n v
unfolding word_cells word_cell
word_cells-set ws n w v h e =
    ap (list_by (word_cell (set ws n w))) (length-set ws n w)
    ∙ list_by-set (word_cell ws) (word_cell (set ws n w)) (length ws) n v h
    (ap (λ x. x % (top_of n + 1)) (get_or-set_same ws n w 0 h) ∙ e)
    (λ k l ne. ap (λ x. x % (top_of k + 1)) (get_or-set_other ws n k w 0 ne))

pub get_or-word_highs : (ws : List ℕ) (n : ℕ) → n < length ws → get_or (word_highs ws) n 0 ≡ get_or ws n 0 / (top_of n + 1)
unfolding word_highs
get_or-word_highs ws n h = get_or-list_by (λ k. get_or ws k 0 / (top_of k + 1)) (length ws) n h

-- a write to a word that keeps what is above its cell
pub word_highs-set :
    (ws : List ℕ) (n w : ℕ) → n < length ws → w / (top_of n + 1) ≡ get_or ws n 0 / (top_of n + 1) → word_highs (set ws n w) ≡ word_highs ws
unfolding word_highs
word_highs-set ws n w h e =
    ap (list_by _) (length-set ws n w)
    ∙ list_by_ext _ _ (length ws)
    (λ k l.
    elim (cases_eq k n) [
      | inl same ↦ subst (λ j. get_or (set ws n w) j 0 / (top_of j + 1) ≡ get_or ws j 0 / (top_of j + 1)) (sym same) (ap (λ x. x / (top_of n + 1)) (get_or-set_same ws n w 0 h) ∙ e)
      | inr ne ↦ ap (λ x. x / (top_of k + 1)) (get_or-set_other ws n k w 0 ne)
    ])

-- a word is what is above its cell, and its cell
pub words_determined : WordsDetermined
words_determined ws vs cells highs =
    let l : length ws ≡ length vs = sym (length-word_cells ws) ∙ (ap length cells ∙ length-word_cells vs) in
    ext_get_or 0 ws vs l
    (λ k h.
    let low : get_or ws k 0 % (top_of k + 1) ≡ get_or vs k 0 % (top_of k + 1) =
    sym (get_or-word_cells ws k h) ∙ (ap (λ cs. get_or cs k 0) cells ∙ get_or-word_cells vs k (omega arith)) in
    let high : get_or ws k 0 / (top_of k + 1) ≡ get_or vs k 0 / (top_of k + 1) =
    sym (get_or-word_highs ws k h) ∙ (ap (λ cs. get_or cs k 0) highs ∙ get_or-word_highs vs k (omega arith)) in
    sym (div-add-mod (get_or ws k 0) (top_of k + 1))
    ∙ (ap (λ q. (top_of k + 1) * q + get_or ws k 0 % (top_of k + 1)) high
    ∙ (ap (λ m. (top_of k + 1) * (get_or vs k 0 / (top_of k + 1)) + m) low
    ∙ div-add-mod (get_or vs k 0) (top_of k + 1))))

pub read_some : (cs : List ℕ) (n v : ℕ) → n < length cs → get_or cs n 0 ≡ v → Some v ≡ read_of cs n
read_some cs n v h e = simp (lt-ltb n (length cs) h) (ap Some (sym e))

pub read_none : (cs : List ℕ) (n : ℕ) → length cs ≤ n → None ≡ read_of cs n
read_none cs n h = simp (le-ltb n (length cs) h)

pub takes_yes : (cs : List ℕ) (n v : ℕ) → n < length cs → v ≤ top_of n → takes cs n v ≡ true
takes_yes cs n v h k = and_from _ _ (lt-ltb n (length cs) h) (le-leb v (top_of n) k)

pub takes_no : (cs : List ℕ) (n v : ℕ) → (length cs ≤ n) ⊎ (top_of n < v) → takes cs n v ≡ false
takes_no cs n v (inl h) = and_left _ _ (le-ltb n (length cs) h)
takes_no cs n v (inr h) = and_right _ _ (lt-leb v (top_of n) h)

pub written_yes : (cs : List ℕ) (n v : ℕ) → n < length cs → v ≤ top_of n → written cs n v ≡ set cs n v
written_yes cs n v h k = cond-true (takes cs n v) (set cs n v) cs (takes_yes cs n v h k)

pub written_no : (cs : List ℕ) (n v : ℕ) → (length cs ≤ n) ⊎ (top_of n < v) → written cs n v ≡ cs
written_no cs n v h = cond-false (takes cs n v) (set cs n v) cs (takes_no cs n v h)

pub mod_wide : (n w : ℕ) → wide n ≡ true → w < 65536 → w % (top_of n + 1) ≡ w
mod_wide n w e h = rw (top_wide n e) (omega arith)

pub mod_narrow : (n w : ℕ) → wide n ≡ false → w % (top_of n + 1) ≡ w % 256
mod_narrow n w e = rw (top_narrow n e)

pub div_wide : (n w v : ℕ) → wide n ≡ true → w < 65536 → v < 65536 → w / (top_of n + 1) ≡ v / (top_of n + 1)
div_wide n w v e h k = rw (top_wide n e) (omega arith)

pub div_narrow : (n w v : ℕ) → wide n ≡ false → w / 256 ≡ v / 256 → w / (top_of n + 1) ≡ v / (top_of n + 1)
div_narrow n w v e h = rw (top_narrow n e) h

pub read_is : (cs : List ℕ) (n v : ℕ) → n < length cs → Some v ≡ read_of cs n → v ≡ get_or cs n 0
read_is cs n v h e = let s : Some (get_or cs n 0) ≡ read_of cs n = read_some cs n _ h refl in cc

pub read_never : (cs : List ℕ) (n : ℕ) → n < length cs → None ≡ read_of cs n → ⊥
read_never cs n h e =
    let s : Some (get_or cs n 0) ≡ read_of cs n = read_some cs n _ h refl in
    let z : ◌≡◌ {A = ℕ} 0 1 = cc in
    omega arith

-- what the functions over words need
pub ruleset word_facts = (length-word_cells, bounded_word_cells, get_or-word_cells, mod_wide, mod_narrow, read_some, read_none, takes_yes, takes_no, written_yes, written_no, low_octet)
