-- A whole block.
use Rattle.std.specs.Prelude.{◌≡◌, ℕ, List, ◌++◌, length}
use Rattle.tables.specs.declared.family.FamilyId.{FamilyId}
use Rattle.tables.specs.declared.work.StagedWrite.{StagedWrite}
use Rattle.values.specs.Reading.{Reading, then, whole}
use Rattle.headers.specs.declared.Spans.{Spans}
use Rattle.headers.specs.Headers.{spans_of, rows_in, count, count_octets, header_octets}
use Rattle.blocks.specs.Layouts.{Layout}
use Rattle.blocks.specs.Rows.{rows, rows_octets, rows_shown, writes_from}

-- what follows data type and ID: the spans, their count, the rows, and nothing after them
abbrev pub contents : {R : Type 0} → FamilyId → Layout R → Reading (Spans × (List (Unit {0}) × List R))
contents f l = then (spans_of f) (λ sp. then (count (rows_in sp)) (λ u. whole (rows l.reading (rows_in sp))))

-- the octets of the block of these rows
abbrev pub block_octets : {R : Type 0} → FamilyId → Layout R → Spans → List R → List ℕ
block_octets f l sp rs = header_octets f sp ++ (count_octets (rows_in sp) ++ rows_octets l.octets (rows_in sp) rs)

-- the octets are a block of the family, and these are the writes of its rows
pub record BlockMeans {R : Type 0} (f : FamilyId) (l : Layout R) (s : List ℕ) (ws : List StagedWrite) : Type 0 where
  pub spans : Spans
  pub sent : List R
  pub marks : List (Unit {0})
  pub means : (contents f l).Means s 2 (spans, (marks, sent)) (length s)
  pub writes : ws ≡ writes_from f l spans 0 sent

-- the octets are a header without count, and this is the block of the rows that the table has there
pub record BlockOf {R : Type 0} (f : FamilyId) (l : Layout R) (cells s os : List ℕ) : Type 0 where
  pub spans : Spans
  pub means : (whole (spans_of f)).Means s 2 spans (length s)
  pub octets : os ≡ block_octets f l spans (rows_shown cells f l spans (rows_in spans))
