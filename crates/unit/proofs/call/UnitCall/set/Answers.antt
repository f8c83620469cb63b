use Rattle.std.proofs.Common.{[], ◌∷◌, sym, refl, ◌∙◌, arith}
use Rattle.std.proofs.lemmas.Result.{err_from_is_err_and}
use Rattle.unit.proofs.RequestFacts.{one_past, set_refused, set_accepted, refused_set}
use Rattle.unit.proofs.call.UnitCall.set.Goals as goal

pub returns-in_err-set-clause-outcome : goal.returns-in_err-set-clause-outcome
returns-in_err-set-clause-outcome g c =
    let p = err_from_is_err_and c.from_residual.result c.from_residual.ensures.1 in
    let s = set_refused _ _ _ _ c.in_err-set.field-0.0 c.args.self.now.counts.draft c.requires.room c.set-set.ensures.outcome c.in_err-set.was in
    let mode = c.into_mode-self.ensures.mode ∙ sym c.in-Some.ensures in
    rw (p.1, p.2) (record { draft = s; running = refl; mode = mode }, refused_set _ _ _ _ s)

pub returns-clause-past : goal.returns-clause-past
returns-clause-past g c = one_past c.requires.fresh c.put.ensures

pub returns-clause-outcome : goal.returns-clause-outcome
returns-clause-outcome g c =
    let s = set_accepted _ _ _ _ c.in_ok-set.field-0 c.args.self.now.counts.draft c.requires.room c.set-set.ensures.outcome c.in_ok-set.was in
    (0 ∷ [], record { draft = s; running = refl; mode = c.into_mode-self.ensures.mode ∙ sym c.in-Some.ensures }, c.put.ensures, omega arith)
