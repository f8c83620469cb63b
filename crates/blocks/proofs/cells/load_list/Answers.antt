use Rattle.std.proofs.Common.{◌≡◌, ◌+◌, ◌-◌, ◌<◌, min, length, get_or, sym, ap, ◌∙◌, arith, rules}
use Rattle.memory.proofs.Facts.{read_is}
use Rattle.blocks.proofs.CellFacts.{list_loaded}
use Rattle.blocks.proofs.cells.load_list.Goals as goal

pub returns-clause-loaded : goal.returns-clause-loaded
returns-clause-loaded g c =
    let n : length c.load_octets.new.out ≡ c.min-len.result = search rules in
    let cells = g.M.ParameterMemory.cells c.args.memory.now in
    let at = c.args.base + (c.args.column - 1) in
    let l : at < length cells = omega (arith, c.requires.within) in
    let len : c.min-len.result ≡ min 16 (get_or cells at 0) = omega (arith, c.min-len.ensures, read_is cells at c.unwrap.result l (sym c.unwrap.ensures ∙ c.read.ensures.value)) in
    list_loaded cells c.args.base c.args.column c.min-len.result c.load_octets.new.out len n
    (λ i l. c.load_octets.ensures.loaded i l ∙ ap (λ cs. get_or cs (at + 1 + i) 0) c.read.ensures.same)
