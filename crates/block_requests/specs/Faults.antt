-- What is wrong with a block, or with a header without count, and the refusal that it gets.
use Rattle.std.specs.Prelude.{ℕ, ◌+◌, List}
use Rattle.tables.specs.declared.family.FamilyId.{FamilyId}
use Rattle.values.specs.declared.Fault.{Fault}
use Rattle.values.specs.declared.Fault.TheVariants.{NotInTable, CountDiffers, NotAllowed, Over, Missing}
use Rattle.values.specs.Reading.{whole}
use Rattle.headers.specs.Headers.{family_named, spans_of}
use Rattle.blocks.specs.Blocks.{contents}
use Rattle.families.specs.Families.{layout_of}
use Rattle.transfers.specs.declared.refusal.Refusal.{Refusal}
use Rattle.transfers.specs.declared.refusal.Refusal.TheVariants.{NotInTable as RefuseNotInTable, CountDiffers as RefuseCount, NotAllowed as RefuseValue, Over as RefuseOver, Missing as RefuseMissing}

-- a header without count: the family named, its spans, and nothing after them
pub data HeaderFaults (s : List ℕ) (w : Fault) : Type 0 where
  in_front : family_named.Faults s 0 w → HeaderFaults s w
  in_spans : (f : FamilyId) → family_named.Means s 0 f 2 → (whole (spans_of f)).Faults s 2 w → HeaderFaults s w

-- a whole block
pub data BlockFaults (s : List ℕ) (w : Fault) : Type 0 where
  in_front : family_named.Faults s 0 w → BlockFaults s w
  in_contents : (f : FamilyId) → family_named.Means s 0 f 2 → (contents f (layout_of f)).Faults s 2 w → BlockFaults s w

-- the refusal of a fault in so many octets, which stand behind the operation's
abbrev pub refusal_of : ℕ → Fault → Refusal
refusal_of n (NotInTable k) = RefuseNotInTable (k + 1)
refusal_of n (CountDiffers k) = RefuseCount (k + 1)
refusal_of n (NotAllowed k) = RefuseValue (k + 1)
refusal_of n (Over k) = RefuseOver (k + 1)
refusal_of n Missing = RefuseMissing (n + 1)
