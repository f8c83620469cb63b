use Rattle.std.proofs.Common.{◌≡◌, [], ◌∷◌, ◌++◌, length, sym, refl, ap, ◌∙◌, subst, arith}
use Rattle.replies.specs.Replies.{Grew}
use Rattle.replies.proofs.ReplyFacts.{grew_more, grew_none, grew_length, grew_past}
use Rattle.transfers.specs.declared.refusal.Refusal.TheVariants.{NoNumber}
use Rattle.transfers.specs.Gets.{Value, Nameless}
use Rattle.transfers.proofs.GetFacts.{values_none, values_more, octets_more, first_nameless}
use Rattle.transfers.proofs.get.put_values.Goals as goal

pub returns-in_default-clause-outcome : goal.returns-in_default-clause-outcome
returns-in_default-clause-outcome g c body these =
    let inv = c.loop-item.invariant in
    let item = c.loop-item.item in
    let a = c.from.ensures ∙ these item c.loop-item-test.true in (
      item,
      first_nameless _ body _ _ item c.loop-item-test.true (inv.0.1 body these) (subst Nameless a c.in_default.ensures.value),
      ap NoNumber (omega arith),
    )

pub returns-in_default-clause-past : goal.returns-in_default-clause-past
returns-in_default-clause-past g c =
    let inv = c.loop-item.invariant in
    grew_past (omega (arith, inv.1, c.requires.front, c.loop-item-test.true)) c.requires.room inv.0.2

pub put_number-requires : goal.put_number-requires
put_number-requires g c =
    let inv = c.loop-item.invariant in
    omega (arith, inv.1, inv.2, c.requires.front, c.requires.room, c.loop-item-test.true)

pub loop-item-init : goal.loop-item-init
loop-item-init g c = (([], (λ body these. values_none _ body), grew_none _), omega arith, refl, refl, refl, c.requires.sound)

pub loop-item-preserved : goal.loop-item-preserved
loop-item-preserved g c =
    let inv = c.loop-item.invariant in
    let item = c.loop-item.item in
    let cells = g.R.ParameterMemory.cells c.args.running.now in
    let v = c.in-Some.value in
    let here : Value cells c.from.result v = subst (λ x. Value x c.from.result v) inv.3 c.in-Some.ensures.value in
    let len = c.put_number.ensures.wrote.len in
    let grown = grew_length (omega (arith, len, inv.1, inv.2, c.requires.front, c.requires.room, c.loop-item-test.true)) c.put_number.ensures in (
      (
        inv.0.0 ++ v ∷ [],
        (λ body these.
            values_more cells body inv.0.0 item v (inv.0.1 body these)
            (subst (λ x. Value cells x v) (c.from.ensures ∙ these item c.loop-item-test.true) here)),
        subst (Grew c.args.reply.now c.put_number.new.self) (sym (octets_more inv.0.0 v)) (grew_more inv.0.2 c.put_number.ensures),
      ),
      omega (arith, len, inv.1),
      grown ∙ inv.2,
      c.value_at.ensures.read.same ∙ inv.3,
      c.value_at.ensures.read.kept ∙ inv.4,
      c.value_at.ensures.read.sound,
    )

pub returns-clause-outcome : goal.returns-clause-outcome
returns-clause-outcome g c body these =
    let inv = c.loop-item.invariant in
    let e : c.loop-item.item ≡ length c.args.addresses.now = omega arith in
    (inv.0.0, rw e at inv.0.1 body these, inv.0.2)

pub returns-clause-past : goal.returns-clause-past
returns-clause-past g c =
    let inv = c.loop-item.invariant in
    grew_past (omega (arith, inv.1, c.requires.front)) c.requires.room inv.0.2
