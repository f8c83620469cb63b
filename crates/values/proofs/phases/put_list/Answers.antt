use Rattle.std.proofs.Common.{◌++◌, take, sym, subst, arith}
use Rattle.replies.specs.Replies.{Grew}
use Rattle.replies.proofs.ReplyFacts.{grew_more}
use Rattle.values.specs.Reading.{EachOf, each_octets}
use Rattle.values.specs.Numbers.{Fits, octets}
use Rattle.values.specs.Lists.{length_column}
use Rattle.replies.proofs.ReplyFacts.{grew_room}
use Rattle.values.proofs.PhaseLists.{columns_are, room_for}
use Rattle.values.proofs.phases.put_list.Goals as goal

pub put_values-requires : goal.put_values-requires
put_values-requires c =
    let n = c.args.list.now.len in
    let few = c.requires.fits.0 in
    record {
      room = grew_room _ c.put_value.ensures (omega (arith, c.requires.room, room_for c.args.column n few c.requires.narrow));
      fits = subst (λ ds. EachOf Fits ds (take n c.args.list.now.phases)) (sym (columns_are c.args.column n few)) c.requires.fits.1;
    }

pub returns : goal.returns
returns c =
    let n = c.args.list.now.len in
    subst (λ cs. Grew c.args.reply.now c.put_values.new.reply (octets length_column n ++ each_octets octets cs (take n c.args.list.now.phases))) (columns_are c.args.column n c.requires.fits.0)
    (grew_more c.put_value.ensures c.put_values.ensures)
