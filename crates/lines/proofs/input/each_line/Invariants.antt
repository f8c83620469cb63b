use Rattle.std.proofs.Common.{◌≡◌, ℕ, List, Some}
use Rattle.std.specs.Io.Iter.{bytes_remaining}
use Rattle.lines.proofs.Ahead.{Ahead}
use Rattle.lines.proofs.input.each_line.Given as goal

abbrev pub invariant-loop-byte : goal.invariant-loop-byte
invariant-loop-byte g l =
    goal.F-IsAlwaysCallable g l.f
    × ((bytes : List ℕ) → g.R.Read.remaining l.fn.input ≡ Some bytes → Ahead g.F.FnMut bytes l.fn.f (bytes_remaining g.R.Read.remaining l.byte-iterator) l.line l.f)
