-- What the rows of each family are in a block and in a table.
use Rattle.std.specs.Prelude.{◌≡◌, ℕ, ◌<◌, T, List, [], ◌∷◌, length}
use Rattle.tables.specs.declared.family.FamilyId.{FamilyId}
use Rattle.tables.specs.declared.family.FamilyId.TheVariants.{Phase, VehicleDetector, PedestrianDetector, Pattern, Split, Action, Sequence}
use Rattle.blocks.specs.Layouts.{Layout, Lawful, Small, ascending, has_slots, number_slots, numbers_layout, list_layout, both_layout, as_row}
use Rattle.families.specs.declared.numbers.NumberRow.{NumberRow}
use Rattle.families.specs.declared.phase.PhaseRow.{PhaseRow}
use Rattle.families.specs.declared.sequence.SequenceRow.{SequenceRow}

-- the numbers that a block of the family carries, by column; the split number of a pattern is not among them
abbrev pub numbers_in : FamilyId → List ℕ
numbers_in Phase = 1 ∷ 2 ∷ 3 ∷ 4 ∷ 5 ∷ 6 ∷ 7 ∷ 8 ∷ 9 ∷ 10 ∷ 11 ∷ 12 ∷ 13 ∷ 14 ∷ 15 ∷ 16 ∷ 17 ∷ 18 ∷ 19 ∷ 20 ∷ 21 ∷ []
numbers_in VehicleDetector = 1 ∷ 2 ∷ 3 ∷ 4 ∷ 5 ∷ 6 ∷ 7 ∷ 8 ∷ 9 ∷ 10 ∷ []
numbers_in PedestrianDetector = 1 ∷ 2 ∷ 3 ∷ 4 ∷ []
numbers_in Pattern = 1 ∷ 2 ∷ 4 ∷ []
numbers_in Split = 1 ∷ 2 ∷ 3 ∷ []
numbers_in Action = 1 ∷ 2 ∷ 3 ∷ []
numbers_in Sequence = []

-- so many columns, each a number of the family's table
pub record Columns (n : ℕ) (f : FamilyId) (ns : List ℕ) : Type 0 where
  pub few : n < 256
  pub size : length ns ≡ n
  pub stand : T (has_slots f (number_slots ns))

-- a row of numbers alone
abbrev pub numbers_row : (n : ℕ) → FamilyId → List ℕ → Layout (NumberRow n)
numbers_row n f ns = as_row (λ r. r.numbers) (λ xs. record { numbers = xs }) (numbers_layout f ns)

abbrev pub phase_layout : Layout PhaseRow
phase_layout =
    as_row (λ r. (r.numbers, r.list)) (λ p. record { numbers = p.0; list = p.1 })
    (both_layout (numbers_layout Phase (numbers_in Phase)) (list_layout Phase 22))

abbrev pub sequence_layout : Layout SequenceRow
sequence_layout = as_row (λ r. r.list) (λ l. record { list = l }) (list_layout Sequence 1)

abbrev pub RowOf : FamilyId → Type 0
RowOf Phase = PhaseRow
RowOf VehicleDetector = NumberRow 10
RowOf PedestrianDetector = NumberRow 4
RowOf Pattern = NumberRow 3
RowOf Split = NumberRow 3
RowOf Action = NumberRow 3
RowOf Sequence = SequenceRow

abbrev pub layout_of : (f : FamilyId) → Layout (RowOf f)
layout_of Phase = phase_layout
layout_of VehicleDetector = numbers_row 10 VehicleDetector (numbers_in VehicleDetector)
layout_of PedestrianDetector = numbers_row 4 PedestrianDetector (numbers_in PedestrianDetector)
layout_of Pattern = numbers_row 3 Pattern (numbers_in Pattern)
layout_of Split = numbers_row 3 Split (numbers_in Split)
layout_of Action = numbers_row 3 Action (numbers_in Action)
layout_of Sequence = sequence_layout

-- each family's layout is lawful, all its rows fit one reply and one list of staged writes, and a row's cells ascend
abbrev pub EveryFamilyLawful : Type 0
EveryFamilyLawful = (f : FamilyId) → Lawful f (layout_of f) × Small f (layout_of f) × T (ascending (layout_of f).carried)
