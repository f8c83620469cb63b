use Rattle.std.proofs.Common.{◌≡◌, length, take, arith, ap, sym, rules, ◌∙◌}
use Rattle.std.proofs.lemmas.List.{take_more_set, length-take-le}
use Rattle.lines.proofs.Held.{held_more, held_full}
use Rattle.lines.proofs.buffer.LineBuffer.push.Goals as goal

pub returns-then-self-lt-LINE_ROOM : goal.returns-then-self-lt-LINE_ROOM
returns-then-self-lt-LINE_ROOM c line h =
    let f = c.self.inside in
    let e : length (take f.len f.bytes) ≡ f.len = length-take-le f.len f.bytes (search rules) in
    take_more_set f.bytes f.len c.args.byte (search rules) ∙ held_more _ line _ (omega arith) (c.self.view_is ∙ h)

pub returns-else-self-lt-LINE_ROOM : goal.returns-else-self-lt-LINE_ROOM
returns-else-self-lt-LINE_ROOM c line h =
    let f = c.self.inside in
    let e : length (take f.len f.bytes) ≡ f.len = length-take-le f.len f.bytes (search rules) in
    held_full _ line _ (ap length (sym c.self.view_is) ∙ omega arith) h
