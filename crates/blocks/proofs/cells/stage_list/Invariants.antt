use Rattle.std.proofs.Common.{◌≡◌, ◌+◌, ◌++◌, length, take}
use Rattle.lists.specs.Items.{items, room}
use Rattle.blocks.specs.Layouts.{placed}
use Rattle.blocks.proofs.CellFacts.{octet_slots}
use Rattle.blocks.proofs.cells.stage_list.Given as goal

-- the octets so far are staged
abbrev pub invariant-loop-i : goal.invariant-loop-i
invariant-loop-i l =
    (room l.list ≡ room l.initial.list)
    × (length (items l.list) ≡ length (items l.initial.list) + l.i)
    × (items l.list ≡ items l.initial.list ++ placed l.base (octet_slots l.column l.i) (take l.i l.phases.phases))
