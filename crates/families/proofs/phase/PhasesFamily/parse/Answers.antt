use Rattle.std.proofs.Common.{refl, subst}
use Rattle.std.proofs.lemmas.Result.{err_from_is_err_and}
use Rattle.tables.specs.declared.family.FamilyId.TheVariants.{Phase}
use Rattle.tables.specs.Families.{column_of}
use Rattle.values.specs.Reading.{Took, at_first, at_second}
use Rattle.values.specs.Numbers.{numbers}
use Rattle.values.specs.Lists.{phases}
use Rattle.values.proofs.Readers.{fault_on}
use Rattle.families.proofs.phase.PhasesFamily.parse.Goals as goal

pub returns-in_err-numbers : goal.returns-in_err-numbers
returns-in_err-numbers c =
    let b = c.args.reader.now in
    let p = err_from_is_err_and c.from_residual.result c.from_residual.ensures.1 in
    rw (p.1, p.2) (record { faults = at_first (subst (λ cs. (numbers cs).Faults b.octets.now b.at c.in_err-numbers.field-0.0) c.columns_of.ensures c.in_err-numbers.ensures.faults); stays = refl })

pub returns-in_err-list : goal.returns-in_err-list
returns-in_err-list c =
    let b = c.args.reader.now in
    let m = c.numbers.new.self in
    let t = subst (λ cs. Took (numbers cs) b m c.in_ok-numbers.numbers) c.columns_of.ensures c.in_ok-numbers.ensures in
    let column = (rw c.unwrap.ensures at c.column.ensures).2 in
    let w = c.in_err-list.field-0.0 in
    let p = err_from_is_err_and c.from_residual-in_err-list.result c.from_residual-in_err-list.ensures.1 in
    rw (p.1, p.2)
    (record {
      faults = at_second c.in_ok-numbers.numbers m.at t.means
          (fault_on (phases (column_of Phase 22)) b m t.same w (subst (λ k. (phases k).Faults m.octets.now m.at w) column c.in_err-list.ensures.faults));
      stays = refl;
    })
