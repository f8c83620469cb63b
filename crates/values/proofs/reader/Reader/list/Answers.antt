use Rattle.std.proofs.Common.{refl}
use Rattle.std.proofs.lemmas.Result.{err_from_is_err_and}
use Rattle.values.proofs.PhaseLists.{list_read, list-faulty}
use Rattle.values.proofs.reader.Reader.list.Goals as goal

pub returns-in_err-numbers_into : goal.returns-in_err-numbers_into
returns-in_err-numbers_into c =
    let p = err_from_is_err_and c.from_residual-in_err-numbers_into.result c.from_residual-in_err-numbers_into.ensures.1 in
    rw (p.1, p.2) (record { faults = list-faulty c.args.column c.args.self.now c.number.new.self c.in_ok-len.len c.in_ok-len.ensures _ c.in_err-numbers_into.ensures.faults; stays = refl })

pub returns : goal.returns
returns c = list_read c.args.column c.args.self.now c.number.new.self c.in_ok-len.len c.in_ok-len.ensures c.numbers_into.new.out c.numbers_into.new.self c.in_ok-numbers_into.ensures
