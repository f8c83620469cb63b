use Rattle.std.proofs.Common.{◌≡◌}
use Rattle.lists.specs.Items.{items as listed, room}
use Rattle.transfers.specs.Sets.{Writes}
use Rattle.transfers.proofs.set.stage_items.Given as goal

-- the writes of the items so far are staged
abbrev pub invariant-loop-item : goal.invariant-loop-item
invariant-loop-item l = Writes l.body l.item (listed l.staged) × (room l.staged ≡ room l.initial.staged)
