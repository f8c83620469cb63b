use Rattle.tables.proofs.WidthFacts.{stored_fits}
use Rattle.tables.proofs.address.stored_values_fit.Goals as goal

pub returns : goal.returns
returns c = stored_fits
