use Rattle.std.proofs.Common.{◌≡◌, sym, ap, ◌∙◌, subst, arith, rules}
use Rattle.tables.specs.Places.{Stands, cell_of}
use Rattle.tables.proofs.PlaceFacts.{sizes}
use Rattle.headers.specs.Headers.{row_at, row_place}
use Rattle.blocks.proofs.CellFacts.{is_there}
use Rattle.blocks.proofs.RowFacts.{second_within, row_stands, row_within}
use Rattle.blocks.proofs.rows.first_cell.Goals as goal

pub overflow_add-second : goal.overflow_add-second
overflow_add-second g c =
    let d = second_within g.F.Family.FAMILY c.args.spans c.args.row c.requires.table c.requires.row in
    let t = c.requires.table.second_last in
    let few = (sizes g.F.Family.FAMILY).few_seconds in search rules

pub unwrap-requires : goal.unwrap-requires
unwrap-requires g c =
    let f = g.F.Family.FAMILY in
    let at : c.place.result ≡ row_place f c.args.spans c.args.row = c.place.ensures ∙ (λ j. row_at f (c.at.ensures.first j) (c.at.ensures.second j)) in
    is_there c.cell.result _ _ c.cell.ensures (λ no. no (subst Stands (sym at) (row_stands f c.args.spans c.args.row c.requires.table c.requires.row)))

pub returns-clause-within : goal.returns-clause-within
returns-clause-within g c =
    let f = g.F.Family.FAMILY in
    let cell = rw c.unwrap.ensures at c.cell.ensures in
    let at : c.place.result ≡ row_place f c.args.spans c.args.row = c.place.ensures ∙ (λ j. row_at f (c.at.ensures.first j) (c.at.ensures.second j)) in
    omega (arith, cell.1, ap cell_of at, row_within f _ _ (row_stands f c.args.spans c.args.row c.requires.table c.requires.row))
