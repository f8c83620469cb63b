-- Rows one after the other: in octets, and in a table.
use Rattle.std.specs.Prelude.{◌≡◌, ℕ, ◌+◌, List, [], ◌∷◌, ◌++◌, map, replicate}
use Rattle.std.specs.List.{range_with_len}
use Rattle.tables.specs.declared.family.FamilyId.{FamilyId}
use Rattle.tables.specs.declared.work.StagedWrite.{StagedWrite}
use Rattle.tables.specs.Places.{cell_of}
use Rattle.values.specs.declared.reader.Reader.{Reader}
use Rattle.values.specs.Reading.{Reading, each, each_octets}
use Rattle.headers.specs.declared.Spans.{Spans}
use Rattle.headers.specs.Headers.{row_place}
use Rattle.blocks.specs.Layouts.{Layout, cells_at, placed}

-- so many rows, one after the other
abbrev pub rows : {R : Type 0} → Reading R → ℕ → Reading (List R)
rows rd q = each (λ (u : ℕ). rd) (replicate q 0)

abbrev pub rows_octets : {R : Type 0} → (R → List ℕ) → ℕ → List R → List ℕ
rows_octets octets q = each_octets (λ (u : ℕ). octets) (replicate q 0)

-- the k-th row that a table has
abbrev pub row_in : {R : Type 0} → List ℕ → FamilyId → Layout R → Spans → ℕ → R
row_in cells f l sp k = l.row_of (cells_at cells (cell_of (row_place f sp k)) l.carried)

-- all of them
abbrev pub rows_shown : {R : Type 0} → List ℕ → FamilyId → Layout R → Spans → ℕ → List R
rows_shown cells f l sp q = map (row_in cells f l sp) (range_with_len 0 q)

-- the writes of rows that stand from the k-th on
abbrev pub writes_from : {R : Type 0} → FamilyId → Layout R → Spans → ℕ → List R → List StagedWrite
writes_from f l sp k [] = []
writes_from f l sp k (r ∷ rs) = placed (cell_of (row_place f sp k)) l.carried (l.values r) ++ writes_from f l sp (k + 1) rs

-- the octets of s from an offset up to another mean so many rows, and their writes, in order, were added to the list
pub record Staged {R : Type 0} (f : FamilyId) (l : Layout R) (sp : Spans) (q : ℕ) (s : List ℕ) (from : ℕ) (before after : List StagedWrite) (end : ℕ) : Type 0 where
  pub meant : List R
  pub means : (rows l.reading q).Means s from meant end
  pub added : after ≡ before ++ writes_from f l sp 0 meant

-- the same by a reader, over the octets that it reads
pub record StagedBy {R : Type 0} (f : FamilyId) (l : Layout R) (sp : Spans) (q : ℕ) (before after : Reader) (was is : List StagedWrite) : Type 0 where
  pub same : after.octets ≡ before.octets
  pub staged : Staged f l sp q before.octets.now before.at was is after.at
