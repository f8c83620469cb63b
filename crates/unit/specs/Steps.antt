-- The unit between calls, its starts, and what one request does.
use Rattle.std.specs.Prelude.{◌≡◌, ℕ, ◌≤◌, true, false, cond, List, [], ◌∷◌, length, Result, MatchResult, ◌≢◌}
use Rattle.memory.specs.Top.{cell_count}
use Rattle.tables.specs.Factory.{factory}
use Rattle.replies.specs.declared.Reply.{Reply}
use Rattle.replies.specs.Replies.{Grew, reply_room, padded}
use Rattle.transfers.specs.declared.refusal.Refusal.{Refusal}
use Rattle.transfers.specs.declared.refusal.Refusal.TheVariants.{MemoryCount, Room, EmptyRequest, UnknownOperation, Mode, Over}
use Rattle.transfers.specs.Refusals.{number_of, unanswered, refusal_octets}
use Rattle.transfers.specs.Gets.{Outcome, accepted, refused, Got}
use Rattle.transfers.specs.Sets.{SetTo}
use Rattle.block_requests.specs.Transfers.{GotBlock, SetBlockTo}
use Rattle.unit.specs.declared.answer.Answer.{Answer}
use Rattle.unit.specs.declared.operation.Operation.{Operation}
use Rattle.unit.specs.declared.operation.Operation.TheVariants.{Get, Set, GetBlock, SetBlock, Open, Abandon}
use Rattle.unit.specs.Operations.{code_of, takes_mode}

-- a factory start writes the factory table, or is refused for the count and changes no cell
pub data FactoryStarted (before : List ℕ) (a : Answer) (after : List ℕ) : Type 0 where
  wrong_count : (length before ≢ cell_count) → a.number ≡ number_of MemoryCount → a.length ≡ 0 → a.mode ≡ 0 → after ≡ before → FactoryStarted before a after
  begun : length before ≡ cell_count → a.number ≡ 0 → a.length ≡ 0 → a.mode ≡ 0 → after ≡ factory → FactoryStarted before a after

-- the unit between two calls: the cells of both memories, and the mode
pub record Moment : Type 0 where
  pub running : List ℕ
  pub draft : List ℕ
  pub mode : ℕ

abbrev pub moment : List ℕ → List ℕ → ℕ → Moment
moment r d m = record { running = r; draft = d; mode = m }

-- how long the memory is that is lent for one request
pub record Lent : Type 0 where
  pub reply : ℕ
  pub writes : ℕ
  pub findings : ℕ

abbrev pub lent : ℕ → ℕ → ℕ → Lent
lent r w f = record { reply = r; writes = w; findings = f }

-- both memories have the table's cells
pub record Counts (s : Moment) : Type 0 where
  pub running : length s.running ≡ cell_count
  pub draft : length s.draft ≡ cell_count

-- what is lent suffices for every request
pub record Roomy (l : Lent) : Type 0 where
  pub reply : reply_room ≤ l.reply
  pub writes : 1024 ≤ l.writes
  pub findings : 64 ≤ l.findings

-- no cell changes, and the mode stays
pub record Same (s t : Moment) : Type 0 where
  pub running : t.running ≡ s.running
  pub draft : t.draft ≡ s.draft
  pub mode : t.mode ≡ s.mode

-- a request that answers from the running table changes nothing
pub record Reads (Got : List ℕ → List ℕ → Outcome → Type 0) (s : Moment) (body : List ℕ) (o : Outcome) (t : Moment) : Type 0 where
  pub got : Got s.running body o
  pub same : Same s t

-- a request that edits changes the draft alone
pub record Edits (SetTo : List ℕ → List ℕ → Outcome → List ℕ → Type 0) (s : Moment) (body : List ℕ) (o : Outcome) (t : Moment) : Type 0 where
  pub draft : SetTo s.draft body o t.draft
  pub running : t.running ≡ s.running
  pub mode : t.mode ≡ s.mode

-- an operation that stands alone: octets behind it are over
abbrev pub AllAlone : List ℕ → Outcome → Type 0
AllAlone body o = (body ≡ []) × (o ≡ accepted (0 ∷ []))

abbrev pub Followed : Moment → List ℕ → Outcome → Moment → Type 0
Followed s body o t = (body ≢ []) × (o ≡ refused (Over 1)) × Same s t

-- an opening makes the draft's cells those of the running table, and the mode editing
pub data Opens (s : Moment) (body : List ℕ) (o : Outcome) (t : Moment) : Type 0 where
  over : Followed s body o t → Opens s body o t
  opened : AllAlone body o → t.running ≡ s.running → t.draft ≡ s.running → t.mode ≡ 1 → Opens s body o t

-- an abandonment changes no cell, and the mode becomes quiet
pub data Abandons (s : Moment) (body : List ℕ) (o : Outcome) (t : Moment) : Type 0 where
  over : Followed s body o t → Abandons s body o t
  abandoned : AllAlone body o → t.running ≡ s.running → t.draft ≡ s.draft → t.mode ≡ 0 → Abandons s body o t

-- what a call that answers a request hands back: its outcome, and an accepted one's octets in the reply
abbrev pub Replied : (Outcome → Type 0) → Result (Unit {0}) Refusal → Reply → Reply → Type 0
Replied Is r before after =
    MatchResult r
    (λ _. (os : List ℕ) × Is (accepted os) × Grew before after os × (length os ≤ reply_room))
    (λ e. Is (refused e) × (unanswered e ≡ false))

-- what each operation does; the body is what follows its octet
abbrev pub Does : Operation → Moment → List ℕ → Outcome → Moment → Type 0
Does Get = Reads Got
Does Set = Edits SetTo
Does GetBlock = Reads GotBlock
Does SetBlock = Edits SetBlockTo
Does Open = Opens
Does Abandon = Abandons

-- what the octets of a request come to, on memories of the right count and with room enough
pub data Answered (s : Moment) (octets : List ℕ) (o : Outcome) (t : Moment) : Type 0 where
  empty : octets ≡ [] → o ≡ refused EmptyRequest → Same s t → Answered s octets o t
  unknown : (code : ℕ) (body : List ℕ) → octets ≡ code ∷ body → ((p : Operation) → code_of p ≢ code) → o ≡ refused UnknownOperation → Same s t → Answered s octets o t
  not_taken : (p : Operation) (body : List ℕ) → octets ≡ code_of p ∷ body → takes_mode p s.mode ≡ false → o ≡ refused Mode → Same s t → Answered s octets o t
  done : (p : Operation) (body : List ℕ) → octets ≡ code_of p ∷ body → takes_mode p s.mode ≡ true → Does p s body o t → Answered s octets o t

-- one request, from the moment s to the moment t: the counts are tested first, then the room, then the octets
pub data Step (s : Moment) (l : Lent) (octets : List ℕ) (o : Outcome) (t : Moment) : Type 0 where
  wrong_count : (Counts s → ⊥) → o ≡ refused MemoryCount → Same s t → Step s l octets o t
  no_room : Counts s → (Roomy l → ⊥) → o ≡ refused Room → Same s t → Step s l octets o t
  answered : Counts s → Roomy l → Answered s octets o t → Step s l octets o t

-- what an outcome returns and leaves in reply memory
abbrev pub outcome_number : Outcome → ℕ
outcome_number (accepted os) = 0
outcome_number (refused r) = number_of r

abbrev pub reply_of : Outcome → List ℕ
reply_of (accepted os) = os
reply_of (refused r) = cond (unanswered r) [] (refusal_octets r)

abbrev pub memory_after : Outcome → List ℕ → List ℕ
memory_after (accepted os) before = padded os before
memory_after (refused r) before = cond (unanswered r) before (padded (refusal_octets r) before)

-- a whole request: the outcome is that of the step, and it is what the call returns and leaves in reply memory
pub record Requested (s : Moment) (l : Lent) (octets before : List ℕ) (a : Answer) (after : List ℕ) (t : Moment) : Type 0 where
  pub outcome : Outcome
  pub step : Step s l octets outcome t
  pub number : a.number ≡ outcome_number outcome
  pub length : a.length ≡ length (reply_of outcome)
  pub memory : after ≡ memory_after outcome before
  pub mode : a.mode ≡ t.mode

-- what a request returns, and what it leaves in reply memory and in the unit, is told by what it is handed alone
abbrev pub OneOutcome : Type 0
OneOutcome =
    (s : Moment) (l : Lent) (octets before : List ℕ) (a b : Answer) (x y : List ℕ) (t u : Moment)
    → Requested s l octets before a x t → Requested s l octets before b y u → (a ≡ b) × (x ≡ y) × (t ≡ u)
