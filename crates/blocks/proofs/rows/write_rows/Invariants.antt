use Rattle.std.proofs.Common.{◌≡◌, ◌+◌, ◌*◌, ◌≤◌}
use Rattle.replies.specs.Replies.{Grew}
use Rattle.blocks.specs.Rows.{rows_octets, rows_shown}
use Rattle.blocks.proofs.rows.write_rows.Given as goal

-- the rows so far are written
abbrev pub invariant-loop-row : goal.invariant-loop-row
invariant-loop-row g l =
    let f = g.F.Family in
    let m = g.M.ParameterMemory in
    Grew l.initial.reply l.reply (rows_octets f.layout.octets l.row (rows_shown (m.cells l.initial.memory) f.FAMILY f.layout l.spans l.row))
    × (l.reply.position.now.length ≤ l.initial.reply.position.now.length + l.row * f.layout.most)
    × (m.cells l.memory ≡ m.cells l.initial.memory)
    × (m.kept l.memory ≡ m.kept l.initial.memory)
    × m.sound l.memory
