use Rattle.tables.proofs.PlaceFacts.{one_place}
use Rattle.tables.proofs.place.each_cell_has_one_place.Goals as goal

pub returns : goal.returns
returns c = one_place
