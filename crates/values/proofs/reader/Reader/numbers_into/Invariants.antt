use Rattle.std.proofs.Common.{take}
use Rattle.values.specs.Reading.{Took}
use Rattle.values.specs.Numbers.{numbers}
use Rattle.values.proofs.reader.Reader.numbers_into.Given as goal

-- the numbers so far are read
abbrev pub invariant-loop-i : goal.invariant-loop-i
invariant-loop-i l = Took (numbers (take l.i l.columns)) l.initial.reader l.reader (take l.i l.out)
