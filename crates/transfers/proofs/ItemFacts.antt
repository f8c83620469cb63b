-- Items as they stand in a request: addresses of four octets, and values of two.
use Rattle.std.proofs.Common.{◌≡◌, ℕ, zero, suc, ◌+◌, ◌*◌, ◌<◌, List, [], get_or, drop, ap, ◌∙◌, arith}
use Rattle.std.proofs.lemmas.List.{get_or-take, get_or-drop}
use Rattle.std.specs.Simd.{first_chunks}

-- an octet of a chunk stands in the list
pub chunk_octet : (n k m j : ℕ) (xs : List ℕ) → k < m → j < n → get_or (get_or (first_chunks n m xs) k []) j 0 ≡ get_or xs (n * k + j) 0
chunk_octet n k zero j xs h l = absurd (omega arith)
chunk_octet n zero (suc m) j xs h l = get_or-take n xs j 0 l ∙ ap (λ i. get_or xs i 0) (omega arith)
chunk_octet n (suc k) (suc m) j xs h l =
    chunk_octet n k m j (drop n xs) (omega arith) l ∙ (get_or-drop n xs (n * k + j) 0 ∙ ap (λ i. get_or xs i 0) (omega arith))
