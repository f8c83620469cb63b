use Rattle.std.proofs.Common.{◌≡◌, ◌≤◌, true, length, sym, refl, ap, ◌∙◌, rules}
use Rattle.std.proofs.lemmas.Result.{err_from_is_err_and}
use Rattle.unit.specs.declared.operation.Operation.TheVariants.{Get, Set, GetBlock, SetBlock, Open, Abandon}
use Rattle.unit.specs.Operations.{takes_mode}
use Rattle.unit.specs.Steps.Answered.{unknown, not_taken}
use Rattle.unit.proofs.RequestFacts.{first_and_rest, coded, did}
use Rattle.unit.proofs.call.UnitCall.answer.Goals as goal

pub returns-in_err-operation-clause-outcome : goal.returns-in_err-operation-clause-outcome
returns-in_err-operation-clause-outcome g c =
    let p = err_from_is_err_and c.from_residual.result c.from_residual.ensures.1 in
    let some : 1 ≤ length c.args.octets.now = search rules in
    let e = c.in_err-operation.ensures in
    rw (p.1, p.2, e.0) (unknown _ _ (first_and_rest c.args.octets.now some) e.1 refl (record { running = refl; draft = refl; mode = refl }), refl)

pub returns-then-not-takes_mode-clause-outcome : goal.returns-then-not-takes_mode-clause-outcome
returns-then-not-takes_mode-clause-outcome g c =
    let some : 1 ≤ length c.args.octets.now = search rules in
    let p = c.in_ok-operation.operation in (
      not_taken p _ (coded c.args.octets.now p p some c.in_ok-operation.ensures refl) (sym c.if-not-takes_mode.ensures) refl (record { running = refl; draft = refl; mode = refl }),
      refl,
    )

pub returns-in-Get-clause-outcome : goal.returns-in-Get-clause-outcome
returns-in-Get-clause-outcome g c =
    let some : 1 ≤ length c.args.octets.now = search rules in
    let octets = coded c.args.octets.now c.in_ok-operation.operation Get some c.in_ok-operation.ensures c.in-Get.is in
    let mode : takes_mode Get c.args.self.now.mode ≡ true = ap (λ p. takes_mode p c.args.self.now.mode) (sym c.in-Get.is) ∙ sym c.if-not-takes_mode.ensures in
    did Get _ _ _ _ c.get.result c.args.reply.now c.get.new.reply octets mode c.get.ensures.outcome

pub returns-in-Set-clause-outcome : goal.returns-in-Set-clause-outcome
returns-in-Set-clause-outcome g c =
    let some : 1 ≤ length c.args.octets.now = search rules in
    let octets = coded c.args.octets.now c.in_ok-operation.operation Set some c.in_ok-operation.ensures c.in-Set.is in
    let mode : takes_mode Set c.args.self.now.mode ≡ true = ap (λ p. takes_mode p c.args.self.now.mode) (sym c.in-Set.is) ∙ sym c.if-not-takes_mode.ensures in
    did Set _ _ _ _ c.set.result c.args.reply.now c.set.new.reply octets mode c.set.ensures.outcome

pub returns-in-GetBlock-clause-outcome : goal.returns-in-GetBlock-clause-outcome
returns-in-GetBlock-clause-outcome g c =
    let some : 1 ≤ length c.args.octets.now = search rules in
    let octets = coded c.args.octets.now c.in_ok-operation.operation GetBlock some c.in_ok-operation.ensures c.in-GetBlock.is in
    let mode : takes_mode GetBlock c.args.self.now.mode ≡ true = ap (λ p. takes_mode p c.args.self.now.mode) (sym c.in-GetBlock.is) ∙ sym c.if-not-takes_mode.ensures in
    did GetBlock _ _ _ _ c.get_block.result c.args.reply.now c.get_block.new.reply octets mode c.get_block.ensures.outcome

pub returns-in-SetBlock-clause-outcome : goal.returns-in-SetBlock-clause-outcome
returns-in-SetBlock-clause-outcome g c =
    let some : 1 ≤ length c.args.octets.now = search rules in
    let octets = coded c.args.octets.now c.in_ok-operation.operation SetBlock some c.in_ok-operation.ensures c.in-SetBlock.is in
    let mode : takes_mode SetBlock c.args.self.now.mode ≡ true = ap (λ p. takes_mode p c.args.self.now.mode) (sym c.in-SetBlock.is) ∙ sym c.if-not-takes_mode.ensures in
    did SetBlock _ _ _ _ c.set_block.result c.args.reply.now c.set_block.new.reply octets mode c.set_block.ensures.outcome

pub returns-in-Open-clause-outcome : goal.returns-in-Open-clause-outcome
returns-in-Open-clause-outcome g c =
    let some : 1 ≤ length c.args.octets.now = search rules in
    let octets = coded c.args.octets.now c.in_ok-operation.operation Open some c.in_ok-operation.ensures c.in-Open.is in
    let mode : takes_mode Open c.args.self.now.mode ≡ true = ap (λ p. takes_mode p c.args.self.now.mode) (sym c.in-Open.is) ∙ sym c.if-not-takes_mode.ensures in
    did Open _ _ _ _ c.open.result c.args.reply.now c.open.new.reply octets mode c.open.ensures.outcome

pub returns-in-Abandon-clause-outcome : goal.returns-in-Abandon-clause-outcome
returns-in-Abandon-clause-outcome g c =
    let some : 1 ≤ length c.args.octets.now = search rules in
    let octets = coded c.args.octets.now c.in_ok-operation.operation Abandon some c.in_ok-operation.ensures c.in-Abandon.is in
    let mode : takes_mode Abandon c.args.self.now.mode ≡ true = ap (λ p. takes_mode p c.args.self.now.mode) (sym c.in-Abandon.is) ∙ sym c.if-not-takes_mode.ensures in
    did Abandon _ _ _ _ c.abandon.result c.args.reply.now c.abandon.new.reply octets mode c.abandon.ensures.outcome
