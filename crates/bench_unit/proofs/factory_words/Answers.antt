use Rattle.std.proofs.Common.{◌≡◌, length, rules}
use Rattle.bench_unit.proofs.Room.{started}
use Rattle.bench_unit.proofs.factory_words.Goals as goal

pub returns : goal.returns
returns c =
    let count : length c.args.words.now ≡ 2544 = search rules in
    let s = started c.args.words.now _ c.factory_start.result count c.factory_start.ensures.started in
    record { cells = s.0; mode = s.1 }
