use Rattle.std.proofs.Common.{◌≡◌, ◌+◌, ◌++◌, length, take}
use Rattle.lists.specs.Items.{items, room}
use Rattle.blocks.specs.Layouts.{placed, number_slots}
use Rattle.blocks.proofs.cells.stage_numbers.Given as goal

-- the numbers so far are staged
abbrev pub invariant-loop-column : goal.invariant-loop-column
invariant-loop-column l =
    (room l.list ≡ room l.initial.list)
    × (length (items l.list) ≡ length (items l.initial.list) + (length l.yielded))
    × (items l.list ≡ items l.initial.list ++ placed l.base (number_slots (take (length l.yielded) l.columns)) (take (length l.yielded) l.numbers))
