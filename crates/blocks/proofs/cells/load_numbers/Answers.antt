use Rattle.std.proofs.Common.{◌+◌, ◌-◌, ◌<◌, length, get_or, sym, ap, ◌∙◌, arith}
use Rattle.memory.proofs.Facts.{read_is}
use Rattle.blocks.proofs.CellFacts.{number_loaded, numbers_loaded}
use Rattle.blocks.proofs.cells.load_numbers.Goals as goal

pub loop-i-preserved : goal.loop-i-preserved
loop-i-preserved g c =
    let inv = c.loop-i.invariant in
    let i = c.loop-i.i in
    let columns = c.args.columns.now in
    let cells = g.M.ParameterMemory.cells c.loop-i.memory in
    let first = g.M.ParameterMemory.cells c.args.memory.now in
    let at = c.args.base + (get_or columns i 0 - 1) in
    let l : at < length cells = omega (arith, (c.requires.columns i c.loop-i-test.true).1, ap length inv.1) in
    let value = read_is cells at c.unwrap.result l (sym c.unwrap.ensures ∙ c.read.ensures.value) ∙ ap (λ cs. get_or cs at 0) inv.1 in (
      number_loaded first c.args.base columns c.loop-i.out i _ c.loop-i-test.true (omega (arith, c.requires.same, c.loop-i-test.true)) inv.0 value,
      c.read.ensures.same ∙ inv.1,
      c.read.ensures.kept ∙ inv.2,
      c.read.ensures.sound,
    )

pub returns-clause-loaded : goal.returns-clause-loaded
returns-clause-loaded g c =
    numbers_loaded (g.M.ParameterMemory.cells c.args.memory.now) c.args.base c.args.columns.now c.loop-i.out c.loop-i.i c.loop-i-test.false (omega (arith, c.requires.same)) c.loop-i.invariant.0
