use Rattle.std.proofs.Common.{length, arith}
use Rattle.std.proofs.lemmas.Result.{err_from_is_err_and}
use Rattle.headers.proofs.HeaderFacts.{spans_in_table}
use Rattle.blocks.proofs.BlockFacts.{count-missed, rows-missed, rows-over, fits_rows}
use Rattle.blocks.proofs.rows.read_block.Goals as goal

pub returns-in_err-read_count : goal.returns-in_err-read_count
returns-in_err-read_count g c =
    let f = g.F.Family in
    let p = err_from_is_err_and c.from_residual-in_err-read_count.result c.from_residual-in_err-read_count.ensures.1 in
    rw (p.1, p.2) (count-missed f.FAMILY f.layout c.in_ok-spans.ensures c.rows.ensures _ c.in_err-read_count.ensures.faults)

pub read_rows-requires : goal.read_rows-requires
read_rows-requires g c =
    let f = g.F.Family in
    let sp = c.in_ok-spans.spans in
    let t = spans_in_table f.FAMILY c.args.block.now 2 sp c.read_spans_of.new.reader.at c.in_ok-spans.ensures.means in
    record { table = t; room = omega (arith, c.requires.room, fits_rows f.FAMILY sp (length f.layout.carried) 1024 t g.met.F.Family.small.writes) }

pub returns-in_err-read_rows : goal.returns-in_err-read_rows
returns-in_err-read_rows g c =
    let f = g.F.Family in
    let p = err_from_is_err_and c.from_residual-in_err-read_rows.result c.from_residual-in_err-read_rows.ensures.1 in
    rw (p.1, p.2) (rows-missed f.FAMILY f.layout c.in_ok-spans.ensures c.rows.ensures c.in_ok-read_count.ensures.1 _ c.in_err-read_rows.ensures.faults)

pub returns-then-reader-block : goal.returns-then-reader-block
returns-then-reader-block g c =
    let f = g.F.Family in
    rows-over f.FAMILY f.layout c.in_ok-spans.ensures c.rows.ensures c.in_ok-read_count.ensures.1 c.in_ok-read_rows.ensures c.if-reader-block.true
