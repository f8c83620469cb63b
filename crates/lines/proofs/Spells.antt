-- One octet more in a spelling. Assumes nothing.
use Rattle.std.proofs.Common.{◌≡◌, ℕ, ◌+◌, ◌/◌, ◌%◌, ◌<◌, ◌≤◌, List, [], ◌∷◌, ◌++◌, length, get_or, take, sym, refl, ap, ◌∙◌, append_assoc, arith}
use Rattle.std.proofs.lemmas.List.{take_more, length-take-le}
use Rattle.lines.specs.Spelling.{digit_of, spelled}

abbrev pair : ℕ → List ℕ
pair x = digit_of (x / 16) ∷ digit_of (x % 16) ∷ []

spelled_push : (xs : List ℕ) (y : ℕ) → 0 < length xs → spelled (xs ++ y ∷ []) ≡ spelled xs ++ 32 ∷ pair y
spelled_push [] y h = absurd (omega arith)
spelled_push (x ∷ []) y h = refl
spelled_push (x ∷ z ∷ xs) y h = ap (λ l. digit_of (x / 16) ∷ digit_of (x % 16) ∷ 32 ∷ l) (spelled_push (z ∷ xs) y (omega arith))

pub spelled_first : (xs : List ℕ) (i : ℕ) (s u : List ℕ) → i < length xs → i ≤ 0 → s ≡ spelled (take i xs) → u ≡ s ++ pair (get_or xs i 0) → u ≡ spelled (take (i + 1) xs)
spelled_first xs i s u h z p q =
    let e : i ≡ 0 = omega arith in
    let f : s ≡ [] = p ∙ ap (λ k. spelled (take k xs)) e in
    let g : take (i + 1) xs ≡ get_or xs i 0 ∷ [] = take_more xs i 0 h ∙ ap (λ k. take k xs ++ get_or xs i 0 ∷ []) e in
    q ∙ ap (λ l. l ++ pair (get_or xs i 0)) f ∙ sym (ap spelled g)

pub spelled_more : (xs : List ℕ) (i : ℕ) (s t u : List ℕ) → i < length xs → 0 < i → s ≡ spelled (take i xs) → t ≡ s ++ 32 ∷ [] → u ≡ t ++ pair (get_or xs i 0) → u ≡ spelled (take (i + 1) xs)
spelled_more xs i s t u h z p q w =
    let k : 0 < length (take i xs) = let e : length (take i xs) ≡ i = length-take-le i xs (omega arith) in omega arith in
    w ∙ ap (λ l. l ++ pair (get_or xs i 0)) q ∙ append_assoc s (32 ∷ []) (pair (get_or xs i 0)) ∙ ap (λ l. l ++ 32 ∷ pair (get_or xs i 0)) p
    ∙ sym (ap spelled (take_more xs i 0 h) ∙ spelled_push (take i xs) (get_or xs i 0) k)
