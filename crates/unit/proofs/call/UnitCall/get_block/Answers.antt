use Rattle.std.proofs.Common.{refl}
use Rattle.std.proofs.lemmas.Result.{MatchResult-weaker}
use Rattle.unit.proofs.RequestFacts.{refused_get_block}
use Rattle.unit.proofs.call.UnitCall.get_block.Goals as goal

pub returns-clause-outcome : goal.returns-clause-outcome
returns-clause-outcome g c =
    MatchResult-weaker c.get_block.result c.get_block.ensures.outcome
    (λ u x. (x.0, record { got = x.1; same = record { running = c.get_block.ensures.read.same; draft = refl; mode = refl } }, x.2, x.3))
    (λ e x. (record { got = x.0; same = record { running = c.get_block.ensures.read.same; draft = refl; mode = refl } }, refused_get_block _ _ _ x.0))
