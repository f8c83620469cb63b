use Rattle.std.proofs.Common.{◌≡◌, length, ◌∙◌, arith, rules}
use Rattle.memory.proofs.Facts.{length-word_cells}
use Rattle.bench_unit.proofs.Room.{asked, asked_room}
use Rattle.bench_unit.proofs.LentMemory.ask.Goals as goal

pub returns-clause-asked : goal.returns-clause-asked
returns-clause-asked c =
    let running : length c.args.running.now ≡ 2544 = search rules in
    let draft : length c.args.draft.now ≡ 2544 = search rules in
    let reply : length c.args.self.now.reply ≡ 1024 = search rules in
    let writes : length c.args.self.now.writes ≡ 1024 = search rules in
    let findings : length c.args.self.now.findings ≡ 64 = search rules in
    asked
    (record { running = length-word_cells _ ∙ running; draft = length-word_cells _ ∙ draft })
    (record { reply = omega (arith, reply); writes = omega (arith, writes); findings = omega (arith, findings) })
    c.request.ensures.requested

pub returns-clause-bound : goal.returns-clause-bound
returns-clause-bound c =
    let after : length c.request.new.reply ≡ 1024 = search rules in
    asked_room c.request.ensures.requested after
