-- Octets are a block or have a fault: never both, never neither, and one of either.
use Rattle.std.specs.Prelude.{◌≡◌, ℕ, ◌⊎◌, List}
use Rattle.tables.specs.declared.family.FamilyId.{FamilyId}
use Rattle.tables.specs.declared.work.StagedWrite.{StagedWrite}
use Rattle.values.specs.declared.Fault.{Fault}
use Rattle.headers.specs.Headers.{family_named}
use Rattle.blocks.specs.Blocks.{BlockMeans}
use Rattle.families.specs.Families.{layout_of}
use Rattle.transfers.specs.Gets.{Outcome}
use Rattle.block_requests.specs.Faults.{BlockFaults}
use Rattle.block_requests.specs.Transfers.{GotBlock}

-- the octets are a block, of which these are the writes
abbrev pub IsBlock : List ℕ → List StagedWrite → Type 0
IsBlock s ws = (f : FamilyId) × (family_named.Means s 0 f 2) × BlockMeans f (layout_of f) s ws

pub record BlocksJudged : Type 0 where
  pub judged : (s : List ℕ) → ((ws : List StagedWrite) × IsBlock s ws) ⊎ ((w : Fault) × BlockFaults s w)
  pub one_block : (s : List ℕ) (vs ws : List StagedWrite) → IsBlock s vs → IsBlock s ws → vs ≡ ws
  pub one_fault : (s : List ℕ) (v w : Fault) → BlockFaults s v → BlockFaults s w → v ≡ w
  pub not_both : (s : List ℕ) (ws : List StagedWrite) (w : Fault) → IsBlock s ws → BlockFaults s w → ⊥

-- what a get block comes to is told by the table and the request alone
abbrev pub OneBlockReply : Type 0
OneBlockReply = (cells body : List ℕ) (o p : Outcome) → GotBlock cells body o → GotBlock cells body p → o ≡ p
