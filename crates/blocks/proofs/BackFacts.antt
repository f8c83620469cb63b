-- The octets written for rows are read back as those rows, with none over.
use Rattle.std.proofs.Common.{ℕ, List, [], ◌∷◌, ◌++◌, map, length, replicate, subst, append-nil, arith}
use Rattle.tables.specs.declared.family.FamilyId.{FamilyId}
use Rattle.tables.specs.Families.{shape_of}
use Rattle.values.specs.Reading.{Reading, then, Written, EachOf}
use Rattle.values.proofs.Parts.{then-written}
use Rattle.headers.specs.declared.Spans.{Spans}
use Rattle.headers.specs.Headers.{InTable, rows_in, family_named, spans_of, count, count_octets, spans_octets}
use Rattle.headers.proofs.HeaderFacts.{family_written, SpansAllowed, spans_written, in_table_allowed, Marked, all_marked, exactly-written}
use Rattle.blocks.specs.Layouts.{Layout, Lawful}
use Rattle.blocks.specs.Rows.{rows, rows_octets}
use Rattle.blocks.specs.Blocks.{contents, block_octets}
use Rattle.blocks.proofs.RowFacts.{rows_written}

module _ {R : Type 0} (f : FamilyId) (l : Layout R) (lawful : Lawful f l) where
  -- a block, whatever follows it
  abbrev unended : Reading (Spans × (List (Unit {0}) × List R))
  unended = then (spans_of f) (λ sp. then (count (rows_in sp)) (λ u. rows l.reading (rows_in sp)))

  abbrev RowsAllowed : Spans → List R → Type 0
  RowsAllowed sp = EachOf (λ (u : ℕ). l.allowed) (replicate (rows_in sp) 0)

  abbrev octets : Spans → List R → List ℕ
  octets sp rs = spans_octets (shape_of f).last_second sp ++ (count_octets (rows_in sp) ++ rows_octets l.octets (rows_in sp) rs)

  unended_written : Written unended (λ p. SpansAllowed (shape_of f).last_first (shape_of f).last_second p.0 × (Marked (count_octets (rows_in p.0)) p.1.0 × RowsAllowed p.0 p.1.1)) (λ p. octets p.0 p.1.1)
  unended_written =
      then-written (spans_written (shape_of f).last_first (shape_of f).last_second)
      (λ sp. then-written (exactly-written (count_octets (rows_in sp))) (λ u. rows_written lawful.written (rows_in sp)))

  pub block_back : (sp : Spans) (rs : List R) → InTable f sp → EachOf (λ (u : ℕ). l.allowed) (replicate (rows_in sp) 0) rs
      → let os = block_octets f l sp rs in (family_named.Means os 0 f 2) × ((marks : List (Unit {0})) × (contents f l).Means os 2 (sp, (marks, rs)) (length os))
  block_back sp rs t ok =
      let os = block_octets f l sp rs in
      let marks = map (λ (o : ℕ). tt) (count_octets (rows_in sp)) in
      let head : List ℕ = 0 ∷ (shape_of f).id ∷ [] in
      let h : unended.Means os 2 (sp, (marks, rs)) (length os) =
      subst (λ t. unended.Means (head ++ t) 2 (sp, (marks, rs)) (length os)) (append-nil (octets sp rs))
      (unended_written.back (sp, (marks, rs)) (in_table_allowed f sp t, (all_marked (count_octets (rows_in sp)), ok)) head []) in (
        family_written.back f (tt, tt) [] (octets sp rs),
        (marks, record { mid = h.mid; one = h.one; two = record { mid = h.two.mid; one = h.two.one; two = (h.two.two, omega arith) } }),
      )
