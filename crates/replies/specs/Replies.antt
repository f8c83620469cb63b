-- Reply memory: what a reply in the making has written, and what stands there in the end.
use Rattle.std.specs.Prelude.{◌≡◌, ℕ, ◌+◌, ◌-◌, ◌≤◌, List, ◌++◌, length, take, drop, replicate}
use Rattle.replies.specs.declared.Reply.{Reply}

-- the octets of reply memory that a call needs and sets
abbrev pub reply_room : ℕ
reply_room = 1024

-- the reply was made longer by exactly `more`; what stood before and after it is kept
pub record Wrote (before : List ℕ) (was : ℕ) (after : List ℕ) (is : ℕ) (more : List ℕ) : Type 0 where
  pub len : is ≡ was + length more
  pub octets : take is after ≡ take was before ++ more
  pub later : drop is after ≡ drop is before

-- the same reply in the same lent memory
pub record Same (before after : Reply) : Type 0 where
  pub memory : after.octets.ghost_name ≡ before.octets.ghost_name
  pub position : after.position.ghost_name ≡ before.position.ghost_name
  pub mark : after.mark ≡ before.mark

-- the same reply, made longer by exactly `more`
pub record Grew (before after : Reply) (more : List ℕ) : Type 0 where
  pub same : Same before after
  pub wrote : Wrote before.octets.now before.position.now.length after.octets.now after.position.now.length more

-- nothing is written yet, and the memory has the room that a call needs
pub record Fresh (reply : Reply) : Type 0 where
  pub empty : reply.position.now.length ≡ 0
  pub room : reply_room ≤ length reply.octets.now

-- the same reply in memory of the same length, and the same octets past the room
pub record SamePastRoom (before after : Reply) : Type 0 where
  pub same : Same before after
  pub size : length after.octets.now ≡ length before.octets.now
  pub later : drop reply_room after.octets.now ≡ drop reply_room before.octets.now

-- the reply was taken back to where it was; octets past it and below the room may hold anything
pub record TakenBack (before : List ℕ) (was : ℕ) (after : List ℕ) (is : ℕ) : Type 0 where
  pub len : is ≡ was
  pub kept : take was after ≡ take was before
  pub later : drop reply_room after ≡ drop reply_room before

-- the reply, zeros up to the room, and the rest untouched
abbrev pub padded : List ℕ → List ℕ → List ℕ
padded os before = os ++ (replicate (reply_room - length os) 0 ++ drop reply_room before)
