use Rattle.std.proofs.Common.{◌≡◌, ℕ, ◌+◌, ◌*◌, ◌/◌, ◌<◌, [], length, get_or, take, ap, ◌∙◌, arith}
use Rattle.std.proofs.lemmas.List.{get_or-take, length-take-le}
use Rattle.std.proofs.lemmas.Grind.{get_or_after_one}
use Rattle.transfers.proofs.ItemFacts.{chunk_octet}
use Rattle.transfers.proofs.items.addresses_in.Goals as goal

pub returns-clause-each : goal.returns-clause-each
returns-clause-each c body k e h =
    let n = c.args.count in
    let xs = c.args.items.now in
    let front = take (4 * n) xs in
    let len : length front ≡ 4 * n = length-take-le (4 * n) xs c.requires in
    let m : k < length front / 4 = omega arith in
    let octet : (j i : ℕ) → j < 4 → 1 + (4 * k + j) ≡ i → get_or (get_or c.as_chunks.result.0.now k []) j 0 ≡ get_or body i 0 =
    λ j i l s.
    ap (λ cs. get_or (get_or cs k []) j 0) c.as_chunks.ensures.front
    ∙ (chunk_octet 4 k (length front / 4) j front m l
    ∙ (get_or-take (4 * n) xs (4 * k + j) 0 (omega arith)
    ∙ (ap (λ os. get_or os (4 * k + j) 0) e ∙ (get_or_after_one body (4 * k + j) 0 ∙ ap (λ i. get_or body i 0) s)))) in
    λ i.
    record {
      id = octet 0 (1 + 4 * k) (omega arith) (omega arith) i;
      column = octet 1 (1 + 4 * k + 1) (omega arith) (omega arith) i;
      first = octet 2 (1 + 4 * k + 2) (omega arith) (omega arith) i;
      second = octet 3 (1 + 4 * k + 3) (omega arith) (omega arith) i;
    }
