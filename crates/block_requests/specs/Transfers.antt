-- What get block and set block come to; the body is what follows the operation's octet.
use Rattle.std.specs.Prelude.{◌≡◌, ℕ, List, [], ◌∷◌, length}
use Rattle.tables.specs.declared.family.FamilyId.{FamilyId}
use Rattle.tables.specs.declared.work.StagedWrite.{StagedWrite}
use Rattle.values.specs.declared.Fault.{Fault}
use Rattle.headers.specs.Headers.{family_named}
use Rattle.blocks.specs.Blocks.{BlockMeans, BlockOf}
use Rattle.families.specs.Families.{layout_of}
use Rattle.transfers.specs.Gets.{Outcome, accepted, refused}
use Rattle.transfers.specs.Sets.{Taken}
use Rattle.block_requests.specs.Faults.{HeaderFaults, BlockFaults, refusal_of}

-- get block on a table: the block of the rows that the header names, or the header's one fault
pub data GotBlock (cells body : List ℕ) (o : Outcome) : Type 0 where
  faulty : (w : Fault) → HeaderFaults body w → o ≡ refused (refusal_of (length body) w) → GotBlock cells body o
  block : (f : FamilyId) (os : List ℕ) → family_named.Means body 0 f 2 → BlockOf f (layout_of f) cells body os → o ≡ accepted (0 ∷ os) → GotBlock cells body o

-- set block on a draft: it takes all rows that the block means, or none where the block has a fault
pub data SetBlockTo (before body : List ℕ) (o : Outcome) (after : List ℕ) : Type 0 where
  faulty : (w : Fault) → BlockFaults body w → o ≡ refused (refusal_of (length body) w) → after ≡ before → SetBlockTo before body o after
  taken : (f : FamilyId) (ws : List StagedWrite) → family_named.Means body 0 f 2 → BlockMeans f (layout_of f) body ws → o ≡ accepted (0 ∷ []) → Taken before ws after → SetBlockTo before body o after
