use Rattle.std.proofs.Common.{◌≡◌, length, take}
use Rattle.blocks.specs.Layouts.{columns_of}
use Rattle.families.proofs.columns_of.Given as goal

-- the columns so far are the family's
abbrev pub invariant-loop-i : goal.invariant-loop-i
invariant-loop-i g l = (take l.i l.columns ≡ columns_of l.family (take l.i l.numbers)) × (length l.columns ≡ g.row.N)
