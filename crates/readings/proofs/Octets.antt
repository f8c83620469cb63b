-- The octets of a reply, taken apart.
use Rattle.std.proofs.Common.{◌≡◌, ℕ, zero, suc, ◌+◌, ◌-◌, ◌*◌, ◌/◌, ◌%◌, ◌<◌, ◌≤◌, List, [], ◌∷◌, length, get_or, map, take, drop, sym, refl, ap, ◌∙◌, arith}
use Rattle.std.specs.Int.{w16, from_be_bytes}
use Rattle.std.specs.Simd.{first_chunks}
use Rattle.std.proofs.lemmas.List.{take_rest}
use Rattle.transfers.specs.Gets.{two_octets}
use Rattle.transfers.proofs.GetFacts.{length-octets}
use Rattle.readings.specs.Replies.{numbers_reply, block_reply, Says}
use Rattle.readings.specs.declared.Reading.TheVariants.{Unclear}

-- two octets and as many more as the second one says
pub as_numbers : (xs vs : List ℕ) → 2 ≤ length xs → get_or xs 0 0 ≡ 0 → length xs ≡ 2 + 2 * get_or xs 1 0 → two_octets vs ≡ take (length xs - 2) (drop 2 xs) → xs ≡ numbers_reply vs
as_numbers [] vs h z l t = absurd (omega arith)
as_numbers (a ∷ []) vs h z l t = absurd (omega arith)
as_numbers (a ∷ b ∷ xs) vs h z l t =
    let rest : xs ≡ two_octets vs = sym (take_rest (a ∷ b ∷ xs) 2) ∙ sym t in
    let n : b ≡ length vs = omega (arith, length-octets vs, ap length rest) in
    cc

-- three octets at least, and the first two are 0
pub as_block : (xs : List ℕ) (id : ℕ) → 3 ≤ length xs → get_or xs 0 0 ≡ 0 → get_or xs 1 0 ≡ 0 → get_or xs 2 0 ≡ id → (rest : List ℕ) × (xs ≡ block_reply id rest)
as_block [] id h a b i = absurd (omega arith)
as_block (x ∷ []) id h a b i = absurd (omega arith)
as_block (x ∷ y ∷ []) id h a b i = absurd (omega arith)
as_block (x ∷ y ∷ z ∷ xs) id h a b i = (xs, cc)

-- what is none of the four
pub unclear :
    (xs : List ℕ) → (length xs ≡ 1 → get_or xs 0 0 ≡ 0 → ⊥) → (2 ≤ length xs → get_or xs 0 0 ≡ 0 → length xs ≡ 2 + 2 * get_or xs 1 0 → ⊥)
    → (3 ≤ length xs → get_or xs 0 0 ≡ 0 → get_or xs 1 0 ≡ 0 → ⊥)
    → (length xs ≡ 4 → 0 < get_or xs 0 0 → ⊥) → Says xs Unclear
unclear xs done numbers block refused = (
  λ e. done (ap length e) (ap (λ ys. get_or ys 0 0) e),
  λ vs e. numbers (omega (arith, ap length e)) (ap (λ ys. get_or ys 0 0) e) (omega (arith, length-octets vs, ap length e, ap (λ ys. get_or ys 1 0) e)),
  λ id rest e. block (omega (arith, ap length e)) (ap (λ ys. get_or ys 0 0) e) (ap (λ ys. get_or ys 1 0) e),
  λ f h e. refused (ap length e) (omega (arith, ap (λ ys. get_or ys 0 0) e)),
)

-- the pairs of octets, each read as a number
pub from_pairs : (n : ℕ) (xs : List ℕ) → length xs ≡ 2 * n → ((i : ℕ) → get_or xs i 0 < 256) → two_octets (map (from_be_bytes w16) (first_chunks 2 n xs)) ≡ xs
from_pairs zero [] h s = refl
from_pairs zero (a ∷ xs) h s = absurd (omega arith)
from_pairs (suc n) [] h s = absurd (omega arith)
from_pairs (suc n) (a ∷ []) h s = absurd (omega arith)
from_pairs (suc n) (a ∷ b ∷ xs) h s =
    let v = from_be_bytes w16 (a ∷ b ∷ []) in
    let low : b < 256 = s 1 in
    let high_is : v / 256 ≡ a = omega arith in
    let low_is : v % 256 ≡ b = omega arith in
    let rest : two_octets (map (from_be_bytes w16) (first_chunks 2 n xs)) ≡ xs = from_pairs n xs (omega arith) (λ i. s (suc (suc i))) in
    cc

-- numbers, and their count before them
pub numbers_reply_lem :
    (xs values vs : List ℕ) (n : ℕ) → xs ≡ 0 ∷ n ∷ values → length values ≡ 2 * n → two_octets vs ≡ values → xs ≡ numbers_reply vs
numbers_reply_lem xs values vs n e l t =
    let m : n ≡ length vs = omega (arith, length-octets vs, ap length t, l) in
    e ∙ (ap (λ x. 0 ∷ x ∷ values) m ∙ ap (λ ys. 0 ∷ length vs ∷ ys) (sym t))
