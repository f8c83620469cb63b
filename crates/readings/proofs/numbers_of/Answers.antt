use Rattle.std.proofs.Common.{◌≡◌, ◌∙◌, ◌/◌, length, map, vec_items, IfOk, ap, arith, rules}
use Rattle.std.proofs.lemmas.Iterator.{YieldsList-from_slice, YieldsList-from_map, items_from_collect}
use Rattle.std.proofs.lemmas.Iterator.Consumers.{YieldsList-at}
use Rattle.std.proofs.lemmas.Result.{IfOk-weaker}
use Rattle.std.specs.Int.{w16, from_be_bytes}
use Rattle.std.specs.Simd.{first_chunks}
use Rattle.transfers.specs.Gets.{two_octets}
use Rattle.readings.proofs.Octets.{from_pairs}
use Rattle.readings.proofs.numbers_of.Goals as goal

pub returns : goal.returns
returns c =
    let xs = c.args.octets.now in
    let ns = map (from_be_bytes w16) (first_chunks 2 (length xs / 2) xs) in
    let same : two_octets ns ≡ xs = from_pairs (length xs / 2) xs (omega (arith, c.requires)) (search rules) in
    let items : IfOk c.collect.result (λ v. vec_items v ≡ ns) =
    items_from_collect _ c.collect.ensures.ran (YieldsList-from_map _ (from_be_bytes w16) (YieldsList-at c.map.ensures.source (YieldsList-from_slice _ (c.iter.ensures.rest ∙ c.as_chunks.ensures.front))) c.map.ensures.closure (λ x r q k. search rules)) in
    IfOk-weaker c.collect.result (λ v. vec_items v ≡ ns) (λ v. two_octets (vec_items v) ≡ xs) (λ v e. ap two_octets e ∙ same) items
