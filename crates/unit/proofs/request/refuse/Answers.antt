use Rattle.std.proofs.Common.{◌≡◌, ◌/◌, ◌%◌, [], ◌∷◌, ap, ◌∙◌, arith, rules}
use Rattle.replies.specs.declared.Position.{Position}
use Rattle.replies.specs.Replies.{padded}
use Rattle.replies.proofs.ReplyFacts.{grew_more, padded_from}
use Rattle.transfers.specs.Refusals.{refusal_octets, number_of, layer_of}
use Rattle.unit.proofs.request.refuse.Goals as goal

pub returns-clause-memory : goal.returns-clause-memory
returns-clause-memory c =
    let w = grew_more (grew_more c.put.ensures c.put-2.ensures) c.put_number.ensures in
    let octets : (c.number.result ∷ c.layer.result ∷ c.place.result / 256 ∷ c.place.result % 256 ∷ []) ≡ refusal_octets c.args.refusal =
    ap (λ n. n ∷ c.layer.result ∷ c.place.result / 256 ∷ c.place.result % 256 ∷ []) c.number.ensures
    ∙ (ap (λ n. number_of c.args.refusal ∷ n ∷ c.place.result / 256 ∷ c.place.result % 256 ∷ []) c.layer.ensures
    ∙ ap (λ n. number_of c.args.refusal ∷ layer_of c.args.refusal ∷ n / 256 ∷ n % 256 ∷ []) c.place.ensures) in
    let zero = ap (λ (p : Position). p.length) c.begin-reply.ensures.position.1 in
    let done : c.finish.new.self.0 ≡ padded (refusal_octets c.args.refusal) c.args.memory.now =
    padded_from _ _ _ _ zero w (omega (arith, w.wrote.len, zero)) (c.finish.ensures.octets ∙ c.pad.ensures.octets)
    ∙ (ap (λ os. padded os c.begin-reply.result.octets.now) octets ∙ ap (padded (refusal_octets c.args.refusal)) c.begin-reply.ensures.octets.1) in
    let same = c.pad.ensures.same.memory ∙ w.same.memory in
    search rules ∙ done
