-- The seven families: data ID, last first and second index, columns and cells.
use Rattle.std.specs.Prelude.{ℕ, ◌+◌, ◌-◌, ◌*◌, max, Bool, true, false, cond, slice_index_or}
use Rattle.tables.specs.declared.columns.Column.{Column}
use Rattle.tables.specs.declared.columns.Kind.{Kind}
use Rattle.tables.specs.declared.columns.Kind.TheVariants.{Number, DetectorOptions, ActionPattern, PhaseList}
use Rattle.tables.specs.declared.family.FamilyId.{FamilyId}
use Rattle.tables.specs.declared.family.FamilyId.TheVariants.{Phase, VehicleDetector, PedestrianDetector, Pattern, Split, Action, Sequence}
use Rattle.tables.specs.declared.family.Shape.{Shape}
use Rattle.tables.specs.Columns.{columns, none}

-- ID, last first index, last second index (0: none), columns before, columns, cells before, cells of a row
abbrev pub shape : ℕ → ℕ → ℕ → ℕ → ℕ → ℕ → ℕ → Shape
shape i f s cb c nb n =
    record {
      id = i;
      last_first = f;
      last_second = s;
      columns_before = cb;
      columns = c;
      cells_before = nb;
      row_cells = n;
    }

abbrev pub shape_of : FamilyId → Shape
shape_of Phase = shape 0 16 0 0 22 0 38
shape_of VehicleDetector = shape 1 64 0 22 10 608 10
shape_of PedestrianDetector = shape 2 8 0 32 4 1248 4
shape_of Pattern = shape 3 32 0 36 4 1280 4
shape_of Split = shape 4 16 16 40 3 1408 3
shape_of Action = shape 5 32 0 43 3 2176 3
shape_of Sequence = shape 7 4 4 46 1 2272 17

-- a family's column, numbered from 1
abbrev pub column_of : FamilyId → ℕ → Column
column_of f c = slice_index_or columns ((shape_of f).columns_before + (c - 1)) none

abbrev pub is_list : Kind → Bool
is_list Number = false
is_list DetectorOptions = false
is_list ActionPattern = false
is_list PhaseList = true

-- a number takes one cell, a list its length and 16 octets
abbrev pub cells_of : Column → ℕ
cells_of c = cond (is_list c.kind) 17 1

-- how many rows a family has
abbrev pub rows_of : FamilyId → ℕ
rows_of f = (shape_of f).last_first * max 1 (shape_of f).last_second

-- the number of cells up to the family's last
abbrev pub cells_end : FamilyId → ℕ
cells_end f = (shape_of f).cells_before + rows_of f * (shape_of f).row_cells
