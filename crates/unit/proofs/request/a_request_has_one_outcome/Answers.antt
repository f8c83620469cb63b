use Rattle.unit.proofs.OneOutcome.{one_outcome}
use Rattle.unit.proofs.request.a_request_has_one_outcome.Goals as goal

pub returns : goal.returns
returns c = one_outcome
