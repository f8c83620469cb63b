use Rattle.std.proofs.Common.{subst}
use Rattle.std.proofs.lemmas.Result.{err_from_is_err_and}
use Rattle.values.specs.Lists.{phases}
use Rattle.families.proofs.sequence.SequencesFamily.parse.Goals as goal

pub returns-in_err-list : goal.returns-in_err-list
returns-in_err-list c =
    let b = c.args.reader.now in
    let column = (rw c.unwrap.ensures at c.column.ensures).2 in
    let p = err_from_is_err_and c.from_residual.result c.from_residual.ensures.1 in
    rw (p.1, p.2)
    (record {
      faults = subst (λ k. (phases k).Faults b.octets.now b.at c.in_err-list.field-0.0) column c.in_err-list.ensures.faults;
      stays = c.in_err-list.ensures.stays;
    })
