-- The factory table: startup is 1, split mode 2, and the rest 0.
use Rattle.std.specs.Prelude.{◌≡◌, ℕ, ◌-◌, ◌%◌, cond, List, ◌==◌, nat_lt, slice_index}
use Rattle.memory.specs.Top.{cell_count}
use Rattle.memory.specs.Held.{list_by}
use Rattle.tables.specs.declared.family.FamilyId.{FamilyId}
use Rattle.tables.specs.declared.family.FamilyId.TheVariants.{Phase, VehicleDetector, PedestrianDetector, Pattern, Split, Action, Sequence}
use Rattle.tables.specs.declared.place.Place.{Place}
use Rattle.tables.specs.Places.{Stands, cell_of}
use Rattle.tables.specs.Allowed.{AllAllowed}

-- by family and column
abbrev pub factory_in : FamilyId → ℕ → ℕ
factory_in Phase c = cond (c == 19) 1 0
factory_in VehicleDetector c = 0
factory_in PedestrianDetector c = 0
factory_in Pattern c = 0
factory_in Split c = cond (c == 2) 2 0
factory_in Action c = 0
factory_in Sequence c = 0

-- by cell number
abbrev pub factory_cell : ℕ → ℕ
factory_cell n =
    cond (nat_lt n 608) (cond (n % 38 == 18) 1 0)
    (cond (nat_lt n 1408) 0
    (cond (nat_lt n 2176) (cond ((n - 1408) % 3 == 1) 2 0) 0))

unfoldable pub factory : List ℕ
factory = list_by factory_cell cell_count

-- each place of the factory table has its column's factory value
abbrev pub FactoryByPlace : Type 0
FactoryByPlace = (p : Place) → Stands p → slice_index factory (cell_of p) ≡ factory_in p.family p.column

abbrev pub FactoryAllowed : Type 0
FactoryAllowed = AllAllowed factory
