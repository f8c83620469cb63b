-- Each family's layout is lawful, all its rows fit one reply and one list of staged writes, and allowed cells are allowed rows.
use Rattle.std.specs.Prelude.{T, refl}
use Rattle.std.proofs.Common.{lit≤}
use Rattle.tables.specs.declared.family.FamilyId.{FamilyId}
use Rattle.tables.specs.declared.family.FamilyId.TheVariants.{Phase, VehicleDetector, PedestrianDetector, Pattern, Split, Action, Sequence}
use Rattle.blocks.specs.Layouts.{Lawful, Small, ascending, numbers_layout, list_layout}
use Rattle.blocks.proofs.LayoutFacts.{numbers_lawful, list_lawful, both_lawful, row_lawful}
use Rattle.blocks.proofs.AllowedFacts.{Tells, numbers_tell, list_tells, both_tell}
use Rattle.families.specs.Families.{numbers_in, layout_of}

pub layout_lawful : (f : FamilyId) → Lawful f (layout_of f)
layout_lawful Phase = row_lawful _ _ (λ p. refl) (λ r. refl) (both_lawful (numbers_lawful Phase (numbers_in Phase) tt) (list_lawful Phase 22 tt refl))
layout_lawful VehicleDetector = row_lawful _ _ (λ xs. refl) (λ r. refl) (numbers_lawful VehicleDetector (numbers_in VehicleDetector) tt)
layout_lawful PedestrianDetector = row_lawful _ _ (λ xs. refl) (λ r. refl) (numbers_lawful PedestrianDetector (numbers_in PedestrianDetector) tt)
layout_lawful Pattern = row_lawful _ _ (λ xs. refl) (λ r. refl) (numbers_lawful Pattern (numbers_in Pattern) tt)
layout_lawful Split = row_lawful _ _ (λ xs. refl) (λ r. refl) (numbers_lawful Split (numbers_in Split) tt)
layout_lawful Action = row_lawful _ _ (λ xs. refl) (λ r. refl) (numbers_lawful Action (numbers_in Action) tt)
layout_lawful Sequence = row_lawful _ _ (λ l. refl) (λ r. refl) (list_lawful Sequence 1 tt refl)

pub layout_small : (f : FamilyId) → Small f (layout_of f)
layout_small Phase = record { reply = lit≤ tt; writes = lit≤ tt }
layout_small VehicleDetector = record { reply = lit≤ tt; writes = lit≤ tt }
layout_small PedestrianDetector = record { reply = lit≤ tt; writes = lit≤ tt }
layout_small Pattern = record { reply = lit≤ tt; writes = lit≤ tt }
layout_small Split = record { reply = lit≤ tt; writes = lit≤ tt }
layout_small Action = record { reply = lit≤ tt; writes = lit≤ tt }
layout_small Sequence = record { reply = lit≤ tt; writes = lit≤ tt }

pub layout_ascending : (f : FamilyId) → T (ascending (layout_of f).carried)
layout_ascending Phase = tt
layout_ascending VehicleDetector = tt
layout_ascending PedestrianDetector = tt
layout_ascending Pattern = tt
layout_ascending Split = tt
layout_ascending Action = tt
layout_ascending Sequence = tt

-- in a table whose cells are all allowed, every row is an allowed row
pub layout_tells : (f : FamilyId) → Tells f (layout_of f)
layout_tells Phase = both_tell Phase (numbers_layout Phase (numbers_in Phase)) (list_layout Phase 22) (numbers_tell Phase (numbers_in Phase) tt tt) (list_tells Phase 22 tt refl)
layout_tells VehicleDetector = numbers_tell VehicleDetector (numbers_in VehicleDetector) tt tt
layout_tells PedestrianDetector = numbers_tell PedestrianDetector (numbers_in PedestrianDetector) tt tt
layout_tells Pattern = numbers_tell Pattern (numbers_in Pattern) tt tt
layout_tells Split = numbers_tell Split (numbers_in Split) tt tt
layout_tells Action = numbers_tell Action (numbers_in Action) tt tt
layout_tells Sequence = list_tells Sequence 1 tt refl
