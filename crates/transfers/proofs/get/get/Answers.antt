use Rattle.std.proofs.Common.{◌/◌, length, refl, arith}
use Rattle.std.specs.Prelude.{Ok, Err}
use Rattle.std.proofs.lemmas.Result.{err_from_is_err_and}
use Rattle.replies.proofs.ReplyFacts.{grew_more, grew_past, past_past}
use Rattle.transfers.specs.Gets.Got.{miscounted}
use Rattle.transfers.proofs.GetFacts.{got_values, item_count}
use Rattle.transfers.proofs.get.get.Goals as goal

pub returns-in_err-items-clause-outcome : goal.returns-in_err-items-clause-outcome
returns-in_err-items-clause-outcome g c =
    let p = err_from_is_err_and c.from_residual.result c.from_residual.ensures.1 in
    rw (p.1, p.2) (miscounted _ c.in_err-items.ensures refl, c.requires.fresh.empty)

pub returns-in-Err-clause-outcome : goal.returns-in-Err-clause-outcome
returns-in-Err-clause-outcome g c =
    let body = c.args.body.now in
    let items = c.in_ok-items.items.now in
    let whole = c.in_ok-items.ensures.0 in
    let n = item_count body items whole c.in_ok-items.ensures.1 in (
      got_values c.put_values.new.reply _ body (length items / 4) _ (Err c.in-Err.refusal) whole (omega arith) c.addresses_in.ensures.count (grew_more c.put.ensures c.put-2.ensures)
          (c.in-Err.ensures.outcome body (λ k h. c.addresses_in.ensures.each body k c.in_ok-items.ensures.1 (omega (arith, c.addresses_in.ensures.count, h)))),
      refl,
    )

pub returns-in-Err-clause-past : goal.returns-in-Err-clause-past
returns-in-Err-clause-past g c =
    let w = grew_more c.put.ensures c.put-2.ensures in
    let p = past_past (grew_past (omega (arith, w.wrote.len, c.requires.fresh.empty)) c.requires.fresh.room w) c.in-Err.ensures.past in
    record { same = record { memory = p.same.memory; position = p.same.position; mark = p.same.mark }; size = p.size; later = p.later }

pub returns-clause-outcome : goal.returns-clause-outcome
returns-clause-outcome g c =
    let body = c.args.body.now in
    let items = c.in_ok-items.items.now in
    let whole = c.in_ok-items.ensures.0 in
    let n = item_count body items whole c.in_ok-items.ensures.1 in
    got_values _ _ body (length items / 4) _ (Ok c.in_default.field-0) whole (omega arith) c.addresses_in.ensures.count (grew_more c.put.ensures c.put-2.ensures)
    (c.in_default.ensures.outcome body (λ k h. c.addresses_in.ensures.each body k c.in_ok-items.ensures.1 (omega (arith, c.addresses_in.ensures.count, h))))

pub returns-clause-past : goal.returns-clause-past
returns-clause-past g c =
    let w = grew_more c.put.ensures c.put-2.ensures in
    past_past (grew_past (omega (arith, w.wrote.len, c.requires.fresh.empty)) c.requires.fresh.room w) c.put_values.ensures.past
