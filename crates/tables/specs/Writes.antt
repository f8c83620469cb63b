-- Why nothing is stored for a sent value.
use Rattle.std.specs.Prelude.{ℕ}
use Rattle.tables.specs.declared.address.Address.{Address}
use Rattle.tables.specs.declared.address.Unstored.{Unstored}
use Rattle.tables.specs.declared.address.Unstored.TheVariants.{NoNumber, NotAllowed}
use Rattle.tables.specs.declared.place.Place.{Place}
use Rattle.tables.specs.Places.{Names}
use Rattle.tables.specs.Allowed.{Forbids}

abbrev pub Unstores : Address → ℕ → Unstored → Type 0
Unstores a sent NoNumber = (p : Place) → Names a p → ⊥
Unstores a sent NotAllowed = Forbids a sent
