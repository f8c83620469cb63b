use Rattle.std.proofs.Common.{length, take}
use Rattle.replies.specs.Replies.{Grew}
use Rattle.values.specs.Reading.{each_octets}
use Rattle.values.specs.Numbers.{octets}
use Rattle.values.proofs.numbers.put_values.Given as goal

-- the numbers so far are written
abbrev pub invariant-loop-column : goal.invariant-loop-column
invariant-loop-column l = Grew l.initial.reply l.reply (each_octets octets (take (length l.yielded) l.columns) (take (length l.yielded) l.values))
