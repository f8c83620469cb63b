use Rattle.std.proofs.Common.{◌≤◌, List, length, take}
use Rattle.values.specs.Reading.{Took}
use Rattle.headers.specs.Headers.{exactly}
use Rattle.headers.proofs.read_exactly.Given as goal

-- the octets so far are there; `ahead` is given by its parts, octets and place
abbrev pub invariant-loop-octet : goal.invariant-loop-octet
invariant-loop-octet l =
    (within : l.ahead.1.0 ≤ length l.ahead.0.now) × (marks : List (Unit {0}))
    × Took (exactly (take l.octet-index l.octets)) l.fn.reader (record { octets = l.ahead.0; at = l.ahead.1.0; within = within }) marks
