use Rattle.std.proofs.Common.{◌≡◌, length, min, take, ap, ◌∙◌, arith, rules}
use Rattle.std.proofs.lemmas.List.{take_min}
use Rattle.bench_unit.proofs.LentMemory.reply.Goals as goal

pub returns : goal.returns
returns c =
    let reply = c.args.self.now.reply in
    let room : length reply ≡ 1024 = search rules in
    let all : c.min.result ≡ min c.args.length (length reply) = omega (arith, c.min.ensures) in
    ap (λ n. take n reply) all ∙ take_min c.args.length reply
