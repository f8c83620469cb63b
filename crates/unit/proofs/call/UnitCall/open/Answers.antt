use Rattle.unit.proofs.RequestFacts.{one_past}
use Rattle.unit.proofs.call.UnitCall.open.Goals as goal

pub returns-clause-past : goal.returns-clause-past
returns-clause-past g c = one_past c.requires.fresh c.put.ensures
