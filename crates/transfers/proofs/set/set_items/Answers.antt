use Rattle.std.proofs.Common.{refl}
use Rattle.std.proofs.lemmas.Result.{err_from_is_err_and}
use Rattle.transfers.specs.Sets.SetTo.{miscounted, faulty, taken}
use Rattle.transfers.proofs.SetFacts.{writes_fit}
use Rattle.transfers.proofs.set.set_items.Goals as goal

pub returns-in_err-items-clause-outcome : goal.returns-in_err-items-clause-outcome
returns-in_err-items-clause-outcome g c =
    let p = err_from_is_err_and c.from_residual.result c.from_residual.ensures.1 in
    rw (p.1, p.2) (miscounted _ c.in_err-items.ensures refl refl)

pub returns-in_err-stage_items-clause-outcome : goal.returns-in_err-stage_items-clause-outcome
returns-in_err-stage_items-clause-outcome g c =
    let p = err_from_is_err_and c.from_residual-in_err-stage_items.result c.from_residual-in_err-stage_items.ensures.1 in
    let o = c.in_err-stage_items.ensures in
    rw (p.1, p.2) (faulty o.0 _ c.in_ok-items.ensures.0 o.1 refl refl)

pub write_staged-requires : goal.write_staged-requires
write_staged-requires g c =
    record {
      sound = c.requires.sound;
      count = c.requires.count;
      fit = rw c.as_slice.ensures (writes_fit c.args.body.now _ _ c.in_ok-stage_items.ensures);
    }

pub returns-clause-outcome : goal.returns-clause-outcome
returns-clause-outcome g c =
    taken _ c.in_ok-items.ensures.0 c.in_ok-stage_items.ensures refl (rw (← c.as_slice.ensures) c.write_staged.ensures.taken)
