use Rattle.std.proofs.Common.{[], length, sym, refl, ap, ◌∙◌, arith, rules}
use Rattle.replies.specs.Replies.{padded}
use Rattle.replies.proofs.ReplyFacts.{padded_same}
use Rattle.transfers.specs.Refusals.{unanswered, refusal_octets}
use Rattle.transfers.specs.declared.refusal.Refusal.TheVariants.{MemoryCount, Room}
use Rattle.std.proofs.lemmas.Bool.{cond-false}
use Rattle.transfers.specs.Gets.{accepted, refused}
use Rattle.unit.proofs.RequestFacts.{moved}
use Rattle.unit.specs.Steps.{Answered, Counts, Roomy, moment, lent}
use Rattle.unit.specs.Steps.Step.{wrong_count, no_room, answered}
use Rattle.unit.proofs.request.request.Goals as goal
use Rattle.unit.proofs.request.request.Goals.{then-count-ne-CELLS-via-then-count-ne-CELLS, then-count-ne-CELLS-via-else-count-ne-CELLS+then-count-ne-CELLS-2}

pub returns-then-count-ne-CELLS-clause-requested : goal.returns-then-count-ne-CELLS-clause-requested
returns-then-count-ne-CELLS-clause-requested g c =
    let miscount : Counts (moment (g.R.ParameterMemory.cells c.args.running.now) (g.D.ParameterMemory.cells c.args.draft.now) c.args.mode) → ⊥ =
    λ n.
    elim c.then-count-ne-CELLS.branch [
      | then-count-ne-CELLS-via-then-count-ne-CELLS w ↦ omega (arith, n.running, c.count.ensures.value, w.if-count-ne-CELLS.true)
      | then-count-ne-CELLS-via-else-count-ne-CELLS+then-count-ne-CELLS-2 w ↦ omega (arith, n.draft, w.count-else-count-ne-CELLS.ensures.value, w.if-count-ne-CELLS-2.true)
    ] in
    rw c.unreplied.ensures (
    record {
      outcome = refused MemoryCount;
      step = wrong_count miscount refl (record { running = refl; draft = refl; mode = refl });
      number = refl;
      length = refl;
      memory = refl;
      mode = refl;
    }
    )

pub returns-then-reply-lt-REPLY_OCTETS-clause-requested : goal.returns-then-reply-lt-REPLY_OCTETS-clause-requested
returns-then-reply-lt-REPLY_OCTETS-clause-requested g c =
    let cramped : Roomy (lent (length c.args.reply.now) (length c.args.writes.now) (length c.args.findings.now)) → ⊥ =
    λ r. omega (arith, r.reply, r.writes, r.findings, c.then-reply-lt-REPLY_OCTETS.either) in
    rw c.unreplied-then-reply-lt-REPLY_OCTETS.ensures (
    record {
      outcome = refused Room;
      step = no_room (record { running = sym c.count.ensures.value ∙ omega arith; draft = sym c.count-else-count-ne-CELLS.ensures.value ∙ omega arith }) cramped refl (record { running = refl; draft = refl; mode = refl });
      number = refl;
      length = refl;
      memory = refl;
      mode = refl;
    }
    )

pub returns-in-Ok-clause-requested : goal.returns-in-Ok-clause-requested
returns-in-Ok-clause-requested g c =
    let o = c.in-Ok.ensures.outcome in
    record {
      outcome = accepted o.0;
      step =
          answered
          (record { running = sym c.count.ensures.value ∙ omega arith; draft = sym c.count-else-count-ne-CELLS.ensures.value ∙ omega arith })
          (record { reply = omega arith; writes = omega arith; findings = omega arith })
          (moved (Answered (moment (g.R.ParameterMemory.cells c.args.running.now) (g.D.ParameterMemory.cells c.args.draft.now) c.args.mode) c.args.octets.now (accepted o.0)) g.R.ParameterMemory.cells g.D.ParameterMemory.cells _ c.reply_to.new.unit.running.now _ c.reply_to.new.unit.draft.now _ (search rules) (search rules) o.1);
      number = refl;
      length = o.3;
      memory = o.2;
      mode = refl;
    }

pub returns-in-Err-clause-requested : goal.returns-in-Err-clause-requested
returns-in-Err-clause-requested g c =
    let o = c.in-Err.ensures.outcome in
    let e = c.in-Err.refusal in
    record {
      outcome = refused e;
      step =
          answered
          (record { running = sym c.count.ensures.value ∙ omega arith; draft = sym c.count-else-count-ne-CELLS.ensures.value ∙ omega arith })
          (record { reply = omega arith; writes = omega arith; findings = omega arith })
          (moved (Answered (moment (g.R.ParameterMemory.cells c.args.running.now) (g.D.ParameterMemory.cells c.args.draft.now) c.args.mode) c.args.octets.now (refused e)) g.R.ParameterMemory.cells g.D.ParameterMemory.cells _ c.reply_to.new.unit.running.now _ c.reply_to.new.unit.draft.now _ (search rules) (search rules) o.0);
      number = c.number.ensures;
      length = c.refuse.ensures.length ∙ sym (ap length (cond-false (unanswered e) [] (refusal_octets e) o.1));
      memory =
          padded_same (refusal_octets e) c.args.reply.now c.reply_to.new.memory _ c.refuse.ensures.memory o.2
          ∙ sym (cond-false (unanswered e) c.args.reply.now (padded (refusal_octets e) c.args.reply.now) o.1);
      mode = refl;
    }
