-- What follows from memories of the right count and room enough.
use Rattle.std.proofs.Common.{◌≡◌, ℕ, ◌-◌, ◌≤◌, Bool, true, false, cond, List, [], ◌++◌, length, take, drop, replicate, refl, ap, ◌∙◌, arith}
use Rattle.std.proofs.lemmas.List.{length-append, take_at}
use Rattle.memory.specs.Top.{cell_count}
use Rattle.memory.specs.Held.{word_cells}
use Rattle.memory.proofs.Facts.{length-word_cells}
use Rattle.tables.specs.Factory.{factory}
use Rattle.replies.specs.Replies.{reply_room, padded}
use Rattle.transfers.specs.Refusals.{unanswered, refusal_octets}
use Rattle.transfers.specs.Gets.{Outcome, accepted, refused}
use Rattle.unit.specs.declared.answer.Answer.{Answer}
use Rattle.unit.specs.Steps.{FactoryStarted, Moment, Lent, Counts, Roomy, Answered, Step, Requested, reply_of, memory_after}
use Rattle.unit.specs.Steps.FactoryStarted.{wrong_count as miscounted, begun}
use Rattle.unit.specs.Steps.Step.{wrong_count, no_room, answered}
use Rattle.bench_unit.specs.Asks.{Asked}

padded_front : (os before after : List ℕ) → after ≡ padded os before → take (length os) after ≡ os
padded_front os before after e =
    ap (take (length os)) e ∙ take_at os (replicate (reply_room - length os) 0 ++ drop reply_room before) (length os) refl

refused_front :
    (v : Bool) (os before after : List ℕ) → after ≡ cond v before (padded os before) → take (length (cond v [] os)) after ≡ cond v [] os
refused_front true os before after e = refl
refused_front false os before after e = padded_front os before after e

-- the front of reply memory is the reply
front : (o : Outcome) (before after : List ℕ) → after ≡ memory_after o before → take (length (reply_of o)) after ≡ reply_of o
front (accepted os) before after e = padded_front os before after e
front (refused r) before after e = refused_front (unanswered r) (refusal_octets r) before after e

-- and fits it
front_room : (o : Outcome) (before after : List ℕ) → after ≡ memory_after o before → length after ≡ 1024 → length (reply_of o) ≤ 1024
front_room (accepted os) before after e h =
    omega (arith, ap length e, length-append os (replicate (reply_room - length os) 0 ++ drop reply_room before), h)
front_room (refused r) before after e h =
    elim (unanswered r) as (λ v. length (cond v [] (refusal_octets r)) ≤ 1024) [ true ↦ omega arith | false ↦ omega arith ]

step_answered :
    (s t : Moment) (l : Lent) (octets : List ℕ) (o : Outcome) → Counts s → Roomy l → Step s l octets o t → Answered s octets o t
step_answered s t l octets o n r (wrong_count m _ _) = absurd (m n)
step_answered s t l octets o n r (no_room _ m _ _) = absurd (m r)
step_answered s t l octets o n r (answered _ _ a) = a

pub asked :
    {s t : Moment} {l : Lent} {octets before after : List ℕ} {a : Answer}
    → Counts s → Roomy l → Requested s l octets before a after t → Asked s octets a (take a.length after) t
asked {s = s} {t = t} {l = l} {octets = octets} {before = before} {after = after} n r q =
    record {
      outcome = q.outcome;
      answered = step_answered s t l octets q.outcome n r q.step;
      number = q.number;
      length = q.length;
      told = ap (λ k. take k after) q.length ∙ front q.outcome before after q.memory;
      mode = q.mode;
    }

pub asked_room :
    {s t : Moment} {l : Lent} {octets before after : List ℕ} {a : Answer}
    → Requested s l octets before a after t → length after ≡ 1024 → a.length ≤ 1024
asked_room {before = before} {after = after} q h = omega (arith, q.length, front_room q.outcome before after q.memory h)

pub started :
    (words after : List ℕ) (a : Answer) → length words ≡ cell_count → FactoryStarted (word_cells words) a after
    → (after ≡ factory) × (a.mode ≡ 0)
started words after a h (miscounted n _ _ _ _) = absurd (n (length-word_cells words ∙ h))
started words after a h (begun _ _ _ m e) = (e, m)
