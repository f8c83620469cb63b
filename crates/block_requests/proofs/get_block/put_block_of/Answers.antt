use Rattle.std.proofs.Common.{refl, arith, length}
use Rattle.std.proofs.lemmas.Result.{err_from_is_err_and}
use Rattle.replies.proofs.ReplyFacts.{grew_more, grew_room}
use Rattle.headers.specs.Headers.{rows_in}
use Rattle.headers.proofs.HeaderFacts.{spans_in_table}
use Rattle.blocks.specs.Rows.{rows_shown}
use Rattle.blocks.specs.Blocks.{block_octets}
use Rattle.block_requests.proofs.get_block.put_block_of.Goals as goal

pub returns-in_err-spans-clause-outcome : goal.returns-in_err-spans-clause-outcome
returns-in_err-spans-clause-outcome g c =
    let p = err_from_is_err_and c.from_residual.result c.from_residual.ensures.1 in
    rw (p.1, p.2) (c.in_err-spans.ensures, refl)

pub write_block-requires-clause-table : goal.write_block-requires-clause-table
write_block-requires-clause-table g c =
    spans_in_table g.F.Family.FAMILY c.args.header.now 2 c.in_ok-spans.spans (length c.args.header.now) c.in_ok-spans.ensures.0

pub write_block-requires-clause-room : goal.write_block-requires-clause-room
write_block-requires-clause-room g c = grew_room 1023 c.put.ensures (omega (arith, c.requires.fresh.empty, c.requires.fresh.room))

pub returns-clause-outcome : goal.returns-clause-outcome
returns-clause-outcome g c =
    let f = g.F.Family in
    let sp = c.in_ok-spans.spans in
    let os = block_octets f.FAMILY f.layout sp (rows_shown (g.R.ParameterMemory.cells c.args.running.now) f.FAMILY f.layout sp (rows_in sp)) in (
      os,
      record { spans = sp; means = c.in_ok-spans.ensures; octets = refl },
      grew_more {q = os} c.put.ensures c.write_block.ensures.written,
      omega (arith, c.write_block.ensures.size, c.put.ensures.wrote.len, c.requires.fresh.empty),
    )
