use Rattle.std.proofs.Common.{◌≡◌}
use Rattle.arrayvec.specs.ArrayVec.{array_vec_len}
use Rattle.lines.proofs.Reading.{Reading}
use Rattle.lines.proofs.octets_of_line.Given as goal

abbrev pub invariant-loop : goal.invariant-loop
invariant-loop l = Reading l.line l.octets.items l.rest × (array_vec_len l.octets ≡ l.counter)
