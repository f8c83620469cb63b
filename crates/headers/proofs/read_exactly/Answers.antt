use Rattle.std.proofs.Common.{[], ◌∷◌, ◌++◌, refl, sym, ◌∙◌, arith}
use Rattle.values.specs.Reading.{bad, gone}
use Rattle.values.proofs.Readers.{each_read, each_wrong}
use Rattle.headers.proofs.HeaderFacts.{marked, mark_taken, left_first, left_length}
use Rattle.headers.proofs.read_exactly.Goals as goal

pub returns-in_default : goal.returns-in_default
returns-in_default c =
    let a = c.loop-octet.ahead in
    let n = left_length a.0.now c.rest.result.now a.1.0 c.rest.ensures in
    record { faults = each_wrong marked c.args.octets.now 0 c.loop-octet.octet-index c.loop-octet.invariant.2 _ c.loop-octet-test.true (gone (omega arith) refl); stays = refl }

pub returns-then-sent-octet : goal.returns-then-sent-octet
returns-then-sent-octet c =
    let a = c.loop-octet.ahead in
    let n = left_length a.0.now c.rest.result.now a.1.0 c.rest.ensures in
    let x = left_first a.0.now c.rest.result.now a.1.0 c.rest.ensures in
    record { faults = each_wrong marked c.args.octets.now 0 c.loop-octet.octet-index c.loop-octet.invariant.2 _ c.loop-octet-test.true (bad (omega arith) (λ u e. c.if-sent-octet.true (x ∙ e)) refl); stays = refl }

pub loop-octet-preserved : goal.loop-octet-preserved
loop-octet-preserved c =
    let a = c.loop-octet.ahead in
    let n = left_length a.0.now c.rest.result.now a.1.0 c.rest.ensures in
    let x = left_first a.0.now c.rest.result.now a.1.0 c.rest.ensures in
    let inv = c.loop-octet.invariant in
    (omega arith, inv.1 ++ tt ∷ [], each_read marked c.args.octets.now 0 c.loop-octet.octet-index inv.2 c.loop-octet-test.true (mark_taken _ (omega arith) (sym x ∙ c.if-sent-octet.false) refl refl))
