use Rattle.std.proofs.Common.{T, sym, subst}
use Rattle.blocks.specs.Layouts.{has_slots, number_slots}
use Rattle.blocks.proofs.LayoutFacts.{numbers_stand}
use Rattle.families.proofs.numbers.NumberFamilyFamily.stage.Goals as goal

pub stage_numbers-requires-clause-columns : goal.stage_numbers-requires-clause-columns
stage_numbers-requires-clause-columns g c =
    let k = g.K.NumberColumns in
    let t = subst (λ ns. T (has_slots k.FAMILY (number_slots ns))) (sym c.NUMBERS.ensures) k.columns.stand in
    λ i l. (numbers_stand k.FAMILY c.NUMBERS.result t i l).0
