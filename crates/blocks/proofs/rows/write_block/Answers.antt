use Rattle.std.proofs.Common.{◌≡◌, ◌∷◌, ◌++◌, ap, ◌∙◌, subst, arith}
use Rattle.tables.specs.Families.{shape_of}
use Rattle.replies.specs.Replies.{Grew}
use Rattle.replies.proofs.ReplyFacts.{grew_more}
use Rattle.replies.proofs.ReplyFacts.{grew_room}
use Rattle.headers.specs.Headers.{rows_in, spans_octets, count_octets}
use Rattle.headers.proofs.HeaderFacts.{count_short, spans_short}
use Rattle.blocks.specs.Rows.{rows_octets, rows_shown}
use Rattle.blocks.proofs.BlockFacts.{fits_rows}
use Rattle.blocks.proofs.rows.write_block.Goals as goal

pub put_spans-requires : goal.put_spans-requires
put_spans-requires g c = grew_room 4 (grew_more c.put.ensures c.put-2.ensures) (omega (arith, c.requires.room))

pub put_count-requires-clause-room : goal.put_count-requires-clause-room
put_count-requires-clause-room g c =
    grew_room 3 (grew_more (grew_more c.put.ensures c.put-2.ensures) c.put_spans.ensures) (omega (arith, c.requires.room, spans_short c.second.result c.args.spans))

pub write_rows-requires-clause-room : goal.write_rows-requires-clause-room
write_rows-requires-clause-room g c =
    let f = g.F.Family in
    let front = grew_more (grew_more c.put.ensures c.put-2.ensures) (grew_more c.put_spans.ensures c.put_count.ensures) in
    grew_room _ front
    (omega (arith, c.requires.room, c.put.ensures.wrote.len, c.put-2.ensures.wrote.len, c.put_spans.ensures.wrote.len, c.put_count.ensures.wrote.len, front.wrote.len, spans_short c.second.result c.args.spans, count_short c.rows.result, fits_rows f.FAMILY c.args.spans f.layout.most 1014 c.requires.table g.met.F.Family.small.reply))

pub returns : goal.returns
returns g c =
    let f = g.F.Family in
    let m = g.met.F.Family in
    let sp = c.args.spans in
    let shown = rows_octets f.layout.octets (rows_in sp) (rows_shown (g.M.ParameterMemory.cells c.args.memory.now) f.FAMILY f.layout sp (rows_in sp)) in
    let id : c.ID.result ≡ (shape_of f.FAMILY).id = c.ID.ensures ∙ m.constants.id in
    let second : c.second.result ≡ (shape_of f.FAMILY).last_second = c.second.ensures ∙ ap g.F.Index.RowIndex.second_of c.LAST.ensures ∙ m.constants.last_second in
    let front = grew_more c.put.ensures c.put-2.ensures in
    let w = grew_more front (grew_more c.put_spans.ensures (grew_more c.put_count.ensures c.write_rows.ensures.written)) in
    record {
      read = c.write_rows.ensures.read;
      written = subst (Grew c.args.reply.now c.write_rows.new.reply) (λ j. 0 ∷ id j ∷ (spans_octets (second j) sp ++ (count_octets (c.rows.ensures j) ++ shown))) w;
      size = omega (arith, c.write_rows.ensures.size, c.put.ensures.wrote.len, c.put-2.ensures.wrote.len, c.put_spans.ensures.wrote.len, spans_short c.second.result sp, c.put_count.ensures.wrote.len, count_short c.rows.result, fits_rows f.FAMILY sp f.layout.most 1014 c.requires.table m.small.reply);
    }
