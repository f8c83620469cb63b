use Rattle.std.proofs.Common.{◌≡◌, ◌+◌, ◌*◌, length}
use Rattle.lists.specs.Items.{items, room}
use Rattle.blocks.specs.Rows.{StagedBy}
use Rattle.blocks.proofs.rows.read_rows.Given as goal

-- the rows so far are read, and their writes staged
abbrev pub invariant-loop-row : goal.invariant-loop-row
invariant-loop-row g l =
    let f = g.F.Family in
    (room l.list ≡ room l.initial.list) × (length (items l.list) ≡ length (items l.initial.list) + l.row * length f.layout.carried)
    × StagedBy f.FAMILY f.layout l.spans l.row l.initial.ahead l.ahead (items l.initial.list) (items l.list)
