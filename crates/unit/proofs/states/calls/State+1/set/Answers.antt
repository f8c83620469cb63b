use Rattle.std.proofs.Common.{refl}
use Rattle.std.proofs.lemmas.Result.{err_from_is_err_and}
use Rattle.unit.proofs.RequestFacts.{set_here, not_here}
use Rattle.unit.proofs.states.calls.State+1.set.Goals as goal

pub returns-in_err-ready-clause-outcome : goal.returns-in_err-ready-clause-outcome
returns-in_err-ready-clause-outcome g c =
    let p = err_from_is_err_and c.from_residual.result c.from_residual.ensures.1 in
    rw (p.1, p.2) (not_here _ _ _ _ c.in_err-ready.ensures refl)

pub returns-clause-outcome : goal.returns-clause-outcome
returns-clause-outcome g c = set_here _ _ _ _ c.in_ok-ready.ensures.0 c.in_ok-ready.ensures.1 c.set_items.ensures.outcome
