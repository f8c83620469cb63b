use Rattle.std.proofs.Common.{◌≡◌, length, drop, ap, ◌∙◌, arith, rules}
use Rattle.std.proofs.lemmas.Result.{err_from_is_err_and}
use Rattle.replies.specs.declared.Position.{Position}
use Rattle.replies.specs.Replies.{padded, reply_room}
use Rattle.replies.proofs.ReplyFacts.{padded_from}
use Rattle.unit.proofs.request.reply_to.Goals as goal

pub returns-in_err-answer-clause-outcome : goal.returns-in_err-answer-clause-outcome
returns-in_err-answer-clause-outcome g c =
    let p = err_from_is_err_and c.from_residual.result c.from_residual.ensures.1 in
    let o = c.in_err-answer.ensures.outcome in
    let past = c.in_err-answer.ensures.past in
    let same = past.same.memory in
    let later : drop reply_room c.answer.new.reply.octets.now ≡ drop reply_room c.args.memory.now = past.later ∙ ap (drop reply_room) c.begin-reply.ensures.octets.1 in
    rw (p.1, p.2) (o.0, o.1, search rules)

pub returns-clause-outcome : goal.returns-clause-outcome
returns-clause-outcome g c =
    let o = c.in_ok-answer.ensures.outcome in
    let zero = ap (λ (p : Position). p.length) c.begin-reply.ensures.position.1 in
    let len : c.answer.new.reply.position.now.length ≡ length o.0 = omega (arith, o.2.wrote.len, zero) in
    let done : c.finish.new.self.0 ≡ padded o.0 c.args.memory.now =
    padded_from _ _ _ _ zero o.2 (omega (arith, len, o.3)) (c.finish.ensures.octets ∙ c.pad.ensures.octets) ∙ ap (padded o.0) c.begin-reply.ensures.octets.1 in
    let end : c.finish.new.self.1.0.length ≡ length o.0 = ap (λ (p : Position). p.length) (c.finish.ensures.position ∙ c.pad.ensures.position) ∙ len in
    let same = c.pad.ensures.same.memory ∙ o.2.same.memory in
    let record_of = c.pad.ensures.same.position ∙ o.2.same.position in
    (o.0, o.1, search rules ∙ done, search rules ∙ end)
