-- Where a value stands, and the number of its cell.
use Rattle.std.specs.Prelude.{◌≡◌, ℕ, ◌+◌, ◌-◌, ◌*◌, ◌<◌, ◌≤◌, min, false, cond, List, ◌==◌, slice_index}
use Rattle.memory.specs.Top.{top_of}
use Rattle.tables.specs.declared.place.Place.{Place}
use Rattle.tables.specs.declared.address.Address.{Address}
use Rattle.tables.specs.Families.{shape_of, column_of, cells_of, is_list}

-- the table has this place: a family with one index has 0 for the second
pub record Stands (p : Place) : Type 0 where
  pub first_least : 1 ≤ p.first
  pub first_last : p.first ≤ (shape_of p.family).last_first
  pub second_least : min 1 (shape_of p.family).last_second ≤ p.second
  pub second_last : p.second ≤ (shape_of p.family).last_second
  pub column_least : 1 ≤ p.column
  pub column_last : p.column ≤ (shape_of p.family).columns
  pub octet_within : p.octet < cells_of (column_of p.family p.column)

-- how many rows of the family come before, the second index outermost
abbrev pub rows_before : Place → ℕ
rows_before p = (p.second - 1) * (shape_of p.family).last_first + (p.first - 1)

-- the number of a place's cell: by family, then row, then column (a list is the last column of its row), then octet
unfoldable pub cell_of : Place → ℕ
cell_of p = (shape_of p.family).cells_before + rows_before p * (shape_of p.family).row_cells + (p.column - 1) + p.octet

-- each cell of the table has one place
abbrev pub OnePlace : Type 0
OnePlace = (p q : Place) → Stands p → Stands q → cell_of p ≡ cell_of q → p ≡ q

-- the address that four octets are
abbrev pub address_from : List ℕ → Address
address_from os = record { id = slice_index os 0; column = slice_index os 1; first = slice_index os 2; second = slice_index os 3 }

-- the address names the number column that stands at this place
pub record Names (a : Address) (p : Place) : Type 0 where
  pub stands : Stands p
  pub id : (shape_of p.family).id ≡ a.id
  pub column : p.column ≡ a.column
  pub first : p.first ≡ a.first
  pub second : p.second ≡ a.second
  pub octet : p.octet ≡ 0
  pub number : is_list (column_of p.family p.column).kind ≡ false

-- the address names a number, and this is the number's cell
abbrev pub NamesCell : Address → ℕ → Type 0
NamesCell a n = (p : Place) × Names a p × (cell_of p ≡ n)

-- an address names at most one cell
abbrev pub OneCell : Type 0
OneCell = (a : Address) (n m : ℕ) → NamesCell a n → NamesCell a m → n ≡ m

-- every number of the table has an address
abbrev pub EveryNumberNamed : Type 0
EveryNumberNamed = (p : Place) → Stands p → is_list (column_of p.family p.column).kind ≡ false → (a : Address) × NamesCell a (cell_of p)

-- a cell of a two-octet column is wide, and no other
abbrev pub TopsFollowWidths : Type 0
TopsFollowWidths = (p : Place) → Stands p → top_of (cell_of p) ≡ cond ((column_of p.family p.column).width == 2) 65535 255
