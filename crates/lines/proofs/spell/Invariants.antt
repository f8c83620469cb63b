use Rattle.std.proofs.Common.{◌≡◌, take, string_bytes}
use Rattle.lines.specs.Spelling.{spelled}
use Rattle.lines.proofs.spell.Given as goal

abbrev pub invariant-loop-i : goal.invariant-loop-i
invariant-loop-i l = string_bytes l.text ≡ spelled (take l.i l.octets)
