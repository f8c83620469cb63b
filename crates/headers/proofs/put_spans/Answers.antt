use Rattle.std.proofs.Common.{sym, subst}
use Rattle.replies.specs.Replies.{Grew}
use Rattle.replies.proofs.ReplyFacts.{grew_more}
use Rattle.replies.proofs.ReplyFacts.{grew_room}
use Rattle.headers.proofs.HeaderFacts.{octets_of_two}
use Rattle.headers.proofs.put_spans.Goals as goal

pub put_span-requires-then-last_second-ne0 : goal.put_span-requires-then-last_second-ne0
put_span-requires-then-last_second-ne0 c = grew_room 2 c.put_span.ensures c.requires

pub returns-then-last_second-ne0 : goal.returns-then-last_second-ne0
returns-then-last_second-ne0 c =
    subst (Grew c.args.reply.now c.put_span-then-last_second-ne0.new.reply) (sym (octets_of_two c.args.last_second c.args.spans c.if-last_second-ne0.true))
    (grew_more c.put_span.ensures c.put_span-then-last_second-ne0.ensures)
