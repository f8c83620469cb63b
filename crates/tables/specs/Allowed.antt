-- Which values a column, and a cell of a table, may hold.
use Rattle.std.specs.Prelude.{◌≡◌, ℕ, ◌-◌, ◌/◌, ◌%◌, ◌<◌, ◌≤◌, Bool, true, cond, not, ◌&&◌, ◌||◌, List, Some, None, Option, ◌==◌, nat_le, slice_index}
use Rattle.tables.specs.declared.columns.Column.{Column}
use Rattle.tables.specs.declared.columns.Kind.{Kind}
use Rattle.tables.specs.declared.columns.Kind.TheVariants.{Number, DetectorOptions, ActionPattern, PhaseList}
use Rattle.tables.specs.declared.place.Place.{Place}
use Rattle.tables.specs.Families.{column_of, is_list}
use Rattle.tables.specs.declared.address.Address.{Address}
use Rattle.tables.specs.Places.{Stands, Names, cell_of}
use Rattle.memory.specs.Top.{cell_count, top_of}

-- bits 2 and 3 are both set
abbrev pub both_set : ℕ → Bool
both_set v = v / 4 % 4 == 3

abbrev pub in_range : Column → ℕ → Bool
in_range c v = nat_le c.least v && nat_le v c.greatest

abbrev pub kind_allows : Kind → Column → ℕ → Bool
kind_allows Number c v = in_range c v
kind_allows DetectorOptions c v = in_range c v && not (both_set v)
kind_allows ActionPattern c v = in_range c v || (v == 254 || v == 255)
kind_allows PhaseList c v = in_range c v

-- the column may hold the value; for a list, one of its octets may be the value
abbrev pub allows : Column → ℕ → Bool
allows c v = kind_allows c.kind c v

-- what a sent value means: detector options with bits 2 and 3 both set are read with bit 3 clear
abbrev pub kind_means : Kind → ℕ → ℕ
kind_means Number v = v
kind_means DetectorOptions v = cond (both_set v) (v - 8) v
kind_means ActionPattern v = v
kind_means PhaseList v = v

-- the value that is stored for a sent one, or none where it is not allowed
abbrev pub stored : Column → ℕ → Option ℕ
stored c v = cond (allows c (kind_means c.kind v)) (Some (kind_means c.kind v)) None

-- a cell may hold the value, in a list of this length: the length is at most 16, an octet past it is 0
abbrev pub holds : Place → ℕ → ℕ → Bool
holds p v size =
    cond (is_list (column_of p.family p.column).kind)
    (cond (p.octet == 0) (nat_le v 16) (cond (nat_le p.octet size) (allows (column_of p.family p.column) v) (v == 0)))
    (allows (column_of p.family p.column) v)

-- where a list's length stands; a number's own place
abbrev pub length_place : Place → Place
length_place p = record { family = p.family; first = p.first; second = p.second; column = p.column; octet = 0 }

-- the cell at this place is allowed in the table
abbrev pub AllowedAt : List ℕ → Place → Type 0
AllowedAt cells p = holds p (slice_index cells (cell_of p)) (slice_index cells (cell_of (length_place p))) ≡ true

abbrev pub AllAllowed : List ℕ → Type 0
AllAllowed cells = (p : Place) → Stands p → AllowedAt cells p

-- the address names a number, this is its cell, and this value is stored for the sent one
pub record Stores (a : Address) (sent : ℕ) (n v : ℕ) : Type 0 where
  pub at : Place
  pub named : Names a at
  pub cell : cell_of at ≡ n
  pub value : stored (column_of at.family at.column) sent ≡ Some v

-- the address names a number, and the sent value is not allowed there
pub record Forbids (a : Address) (sent : ℕ) : Type 0 where
  pub at : Place
  pub named : Names a at
  pub value : stored (column_of at.family at.column) sent ≡ None

-- what is stored fits the cell
abbrev pub StoredFits : Type 0
StoredFits = (a : Address) (sent n v : ℕ) → Stores a sent n v → (n < cell_count) × (v ≤ top_of n)
