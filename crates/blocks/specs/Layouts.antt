-- What a family's rows are in a block and in a table.
use Rattle.std.specs.Prelude.{◌≡◌, ℕ, ◌+◌, ◌-◌, ◌*◌, ◌≤◌, min, Bool, true, cond, ◌&&◌, T, List, [], ◌∷◌, ◌++◌, map, length, take, drop, replicate, ◌==◌, nat_le, nat_lt, slice_index}
use Rattle.std.specs.List.{range_with_len}
use Rattle.tables.specs.declared.columns.Column.{Column}
use Rattle.tables.specs.declared.family.FamilyId.{FamilyId}
use Rattle.tables.specs.declared.work.StagedWrite.{StagedWrite}
use Rattle.tables.specs.Families.{shape_of, column_of, cells_of, rows_of}
use Rattle.values.specs.declared.phases.PhaseList.{PhaseList}
use Rattle.values.specs.Reading.{Reading, Decided, Written, Near, EachOf, each_octets, seen, then}
use Rattle.values.specs.Numbers.{numbers, Allowed, Fits, octets as numberOctets, sizes}
use Rattle.values.specs.Lists.{phases, ListAllowed, ListFits, list_octets}

-- a cell of a row, by its column and the octet of a list (0 for a number and for a list's length)
pub record Slot : Type 0 where
  pub column : ℕ
  pub octet : ℕ

abbrev pub slot : ℕ → ℕ → Slot
slot c o = record { column = c; octet = o }

-- how far the cell stands from the row's first
abbrev pub offset : Slot → ℕ
offset x = x.column - 1 + x.octet

-- the family's rows have this cell
abbrev pub has_slot : FamilyId → Slot → Bool
has_slot f x = nat_le 1 x.column && (nat_le x.column (shape_of f).columns && nat_lt x.octet (cells_of (column_of f x.column)))

abbrev pub has_slots : FamilyId → List Slot → Bool
has_slots f [] = true
has_slots f (x ∷ xs) = has_slot f x && has_slots f xs

-- each cell stands behind the one before
abbrev pub ascending : List Slot → Bool
ascending [] = true
ascending (x ∷ []) = true
ascending (x ∷ (y ∷ ys)) = nat_lt (offset x) (offset y) && ascending (y ∷ ys)

-- a value that the cell can hold
abbrev pub Holds : FamilyId → Slot → ℕ → Type 0
Holds f x v = v ≤ cond ((column_of f x.column).width == 2) 65535 255

-- What octets mean a row and which octets it is written as; which of the row's cells a block carries, in the block's order,
-- their values, and the row that such values are. A row whose values fit its octets is written in at most so many.
pub record Layout (R : Type 0) : Type 1 where
  pub reading : Reading R
  pub allowed : R → Type 0
  pub octets : R → List ℕ
  pub fits : R → Type 0
  pub most : ℕ
  pub carried : List Slot
  pub values : R → List ℕ
  pub row_of : List ℕ → R

-- What a family must show of its layout.
pub record Lawful {R : Type 0} (f : FamilyId) (l : Layout R) : Type 0 where
  -- octets mean one row or have one fault
  pub decided : Decided l.reading
  -- the octets of an allowed row are read back as that row, and only allowed rows are read
  pub written : Written l.reading l.allowed l.octets
  -- how far a row and its fault reach
  pub near : Near l.reading l.most
  pub short : (r : R) → l.fits r → length (l.octets r) ≤ l.most
  -- the cells are the family's, and an allowed row fits them
  pub stand : T (has_slots f l.carried)
  pub held : (r : R) → l.allowed r → EachOf (Holds f) l.carried (l.values r)
  -- a row that was stored is loaded again, and what is loaded can be written
  pub back : (r : R) → l.allowed r → l.row_of (l.values r) ≡ r
  pub loaded : (vs : List ℕ) → EachOf (Holds f) l.carried vs → l.fits (l.row_of vs)

-- A family's constants are the table's, and its kind of index tells all its rows: the data ID, the last row's indices, and the last second index
-- that such an index can tell.
pub record Constants (f : FamilyId) (data_id first second seconds : ℕ) : Type 0 where
  pub id : data_id ≡ (shape_of f).id
  pub last_first : first ≡ (shape_of f).last_first
  pub last_second : second ≡ (shape_of f).last_second
  pub indexed : (shape_of f).last_second ≤ seconds

-- All rows of a family fit one reply, behind a header, and one list of staged writes.
pub record Small {R : Type 0} (f : FamilyId) (l : Layout R) : Type 0 where
  pub reply : rows_of f * l.most ≤ 1014
  pub writes : rows_of f * length l.carried ≤ 1024

-- the values of these cells, from a row's first on
abbrev pub cells_at : List ℕ → ℕ → List Slot → List ℕ
cells_at cells base xs = map (λ x. slice_index cells (base + offset x)) xs

-- the writes of values into these cells
abbrev pub placed : ℕ → List Slot → List ℕ → List StagedWrite
placed base [] vs = []
placed base (x ∷ xs) [] = []
placed base (x ∷ xs) (v ∷ vs) = (record { cell = base + offset x; value = v }) ∷ placed base xs vs

-- Numbers of these columns.
abbrev pub columns_of : FamilyId → List ℕ → List Column
columns_of f = map (column_of f)

abbrev pub number_slots : List ℕ → List Slot
number_slots = map (λ n. slot n 0)

abbrev pub numbers_layout : FamilyId → List ℕ → Layout (List ℕ)
numbers_layout f ns =
    record {
      reading = numbers (columns_of f ns);
      allowed = EachOf Allowed (columns_of f ns);
      octets = each_octets numberOctets (columns_of f ns);
      fits = EachOf Fits (columns_of f ns);
      most = sizes (columns_of f ns);
      carried = number_slots ns;
      values = λ xs. xs;
      row_of = λ vs. vs;
    }

-- A list of this column: its length and its sixteen octets. A length above 16 counts as 16.
abbrev pub list_slots : ℕ → List Slot
list_slots c = map (slot c) (range_with_len 0 17)

abbrev pub first_octets : ℕ → List ℕ → List ℕ
first_octets n xs = take n xs ++ replicate (16 - n) 0

abbrev pub list_in : List ℕ → PhaseList
list_in vs = record { len = min 16 (slice_index vs 0); phases = first_octets (min 16 (slice_index vs 0)) (drop 1 vs) }

abbrev pub list_layout : FamilyId → ℕ → Layout PhaseList
list_layout f c =
    record {
      reading = phases (column_of f c);
      allowed = ListAllowed (column_of f c);
      octets = list_octets (column_of f c);
      fits = ListFits (column_of f c);
      most = 17;
      carried = list_slots c;
      values = λ l. l.len ∷ l.phases;
      row_of = list_in;
    }

-- One part of a row, and then another.
abbrev pub both_layout : {A B : Type 0} → Layout A → Layout B → Layout (A × B)
both_layout a b =
    record {
      reading = then a.reading (λ u. b.reading);
      allowed = λ p. a.allowed p.0 × b.allowed p.1;
      octets = λ p. a.octets p.0 ++ b.octets p.1;
      fits = λ p. a.fits p.0 × b.fits p.1;
      most = a.most + b.most;
      carried = a.carried ++ b.carried;
      values = λ p. a.values p.0 ++ b.values p.1;
      row_of = λ vs. (a.row_of (take (length a.carried) vs), b.row_of (drop (length a.carried) vs));
    }

-- The same, as a row of a family's own kind.
abbrev pub as_row : {Q R : Type 0} → (Q → R) → (R → Q) → Layout R → Layout Q
as_row of made l =
    record {
      reading = seen of l.reading;
      allowed = λ q. l.allowed (of q);
      octets = λ q. l.octets (of q);
      fits = λ q. l.fits (of q);
      most = l.most;
      carried = l.carried;
      values = λ q. l.values (of q);
      row_of = λ vs. made (l.row_of vs);
    }
