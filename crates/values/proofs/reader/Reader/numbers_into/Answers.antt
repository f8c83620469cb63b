use Rattle.std.proofs.Common.{◌+◌, ◌<◌, length, take, sym, refl, subst, arith}
use Rattle.std.proofs.lemmas.List.{take_more_set}
use Rattle.std.proofs.lemmas.Result.{err_from_is_err_and}
use Rattle.tables.specs.Columns.{none}
use Rattle.values.specs.Reading.{Took}
use Rattle.values.specs.Numbers.{number, numbers}
use Rattle.values.proofs.Readers.{each_read, each_wrong}
use Rattle.values.proofs.reader.Reader.numbers_into.Goals as goal

pub returns-in_err-out : goal.returns-in_err-out
returns-in_err-out c =
    let p = err_from_is_err_and c.from_residual.result c.from_residual.ensures.1 in
    rw (p.1, p.2) (record { faults = each_wrong number c.args.columns.now none c.loop-i.i c.loop-i.invariant _ c.loop-i-test.true c.in_err-out.ensures.faults; stays = refl })

pub loop-i-preserved : goal.loop-i-preserved
loop-i-preserved c =
    let cs = c.args.columns.now in
    let l : c.loop-i.i < length c.loop-i.out = omega arith in
    subst (Took (numbers (take (c.loop-i.i + 1) cs)) c.args.self.now c.number.new.self) (sym (take_more_set c.loop-i.out c.loop-i.i c.in_ok-out.field-0 l))
    (each_read number cs none c.loop-i.i c.loop-i.invariant c.loop-i-test.true c.in_ok-out.ensures)
