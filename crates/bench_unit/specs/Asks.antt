-- What a unit with memories of its own does with one request.
use Rattle.std.specs.Prelude.{◌≡◌, ℕ, List, length}
use Rattle.transfers.specs.Gets.{Outcome}
use Rattle.unit.specs.declared.answer.Answer.{Answer}
use Rattle.unit.specs.Steps.{Moment, Answered, outcome_number, reply_of}

-- The memories have the right count and what is lent suffices, so the outcome is that of the octets, from the moment s
-- to the moment t; it is what the call returns, and the reply is the outcome's.
pub record Asked (s : Moment) (octets : List ℕ) (a : Answer) (reply : List ℕ) (t : Moment) : Type 0 where
  pub outcome : Outcome
  pub answered : Answered s octets outcome t
  pub number : a.number ≡ outcome_number outcome
  pub length : a.length ≡ length (reply_of outcome)
  pub told : reply ≡ reply_of outcome
  pub mode : a.mode ≡ t.mode
