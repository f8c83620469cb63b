use Rattle.std.proofs.Common.{refl}
use Rattle.std.proofs.lemmas.Result.{MatchResult-weaker}
use Rattle.unit.proofs.RequestFacts.{refused_get, accepted_get}
use Rattle.unit.proofs.call.UnitCall.get.Goals as goal

pub returns-clause-outcome : goal.returns-clause-outcome
returns-clause-outcome g c =
    MatchResult-weaker c.get.result c.get.ensures.outcome
    (λ u x. (x.0, record { got = x.1; same = record { running = c.get.ensures.read.same; draft = refl; mode = refl } }, x.2, accepted_get _ _ x.0 x.1))
    (λ e x. (record { got = x.0; same = record { running = c.get.ensures.read.same; draft = refl; mode = refl } }, refused_get _ _ _ x.0))
