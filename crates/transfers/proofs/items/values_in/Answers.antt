use Rattle.std.proofs.Common.{◌≡◌, ℕ, ◌+◌, ◌-◌, ◌*◌, ◌/◌, ◌<◌, [], length, get_or, take, drop, ap, ◌∙◌, arith}
use Rattle.std.proofs.lemmas.List.{get_or-drop, get_or-take, length-drop, length-take-le}
use Rattle.std.proofs.lemmas.Grind.{get_or_after_one}
use Rattle.transfers.proofs.ItemFacts.{chunk_octet}
use Rattle.transfers.proofs.items.values_in.Goals as goal

pub returns-clause-each : goal.returns-clause-each
returns-clause-each c body k e h =
    let n = c.args.count in
    let xs = c.args.items.now in
    let some = take (length xs - 4 * n) (drop (4 * n) xs) in
    let len : length some ≡ length xs - 4 * n = length-take-le (length xs - 4 * n) (drop (4 * n) xs) (omega (arith, length-drop (4 * n) xs)) in
    let m : k < length some / 2 = omega arith in
    let octet : (j i : ℕ) → j < 2 → 1 + (4 * n + (2 * k + j)) ≡ i → get_or (get_or c.as_chunks.result.0.now k []) j 0 ≡ get_or body i 0 =
    λ j i l s.
    ap (λ cs. get_or (get_or cs k []) j 0) c.as_chunks.ensures.front
    ∙ (chunk_octet 2 k (length some / 2) j some m l
    ∙ (get_or-take (length xs - 4 * n) (drop (4 * n) xs) (2 * k + j) 0 (omega arith)
    ∙ (get_or-drop (4 * n) xs (2 * k + j) 0
    ∙ (ap (λ os. get_or os (4 * n + (2 * k + j)) 0) e ∙ (get_or_after_one body (4 * n + (2 * k + j)) 0 ∙ ap (λ i. get_or body i 0) s))))) in
    λ i. octet 0 (1 + 4 * n + 2 * k) (omega arith) (omega arith) i * 256 + octet 1 (1 + 4 * n + 2 * k + 1) (omega arith) (omega arith) i
