use Rattle.std.proofs.Common.{◌≡◌, ◌+◌, length, take, arith, take_all}
use Rattle.std.proofs.lemmas.Slice.Zip.{zip_turn, zip_end}
use Rattle.std.proofs.lemmas.List.{length_push}
use Rattle.tables.specs.Columns.{none}
use Rattle.values.specs.Numbers.{Fits}
use Rattle.values.proofs.Parts.{each_of_length, each_of_at}
use Rattle.replies.proofs.ReplyFacts.{grew_room}
use Rattle.values.proofs.Table.{put_more, room_more, room_within, numbers_short}
use Rattle.values.proofs.numbers.put_values.Goals as goal

pub put_value-requires : goal.put_value-requires
put_value-requires c =
    let cs = c.args.columns.now in
    let n = length c.loop-column.yielded in
    let t = zip_turn cs c.args.values.now c.loop-column.yielded c.into_iter-column-iterator.result c.loop-column.column-iterator c.next.new.self c.next.result (cc) (cc) c.loop-column.yielded_by _ c.in-Some.is c.next.ensures.steps in
    let size = room_more cs n t.0 in
    let all = room_within cs (n + 1) in
    let written = numbers_short (take n cs) (take n c.args.values.now) in
    let inv = c.loop-column.invariant in
    rw (t.2 none, t.3 0) (record {
      room = grew_room _ inv (omega (arith, c.requires.room));
      fits = each_of_at Fits cs c.args.values.now none 0 n c.requires.fits t.0;
    })

pub loop-column-preserved : goal.loop-column-preserved
loop-column-preserved c =
    let cs = c.args.columns.now in
    let xs = c.args.values.now in
    let t = zip_turn cs xs c.loop-column.yielded c.into_iter-column-iterator.result c.loop-column.column-iterator c.next.new.self c.next.result (cc) (cc) c.loop-column.yielded_by _ c.in-Some.is c.next.ensures.steps in
    rw length_push
    (put_more cs xs (length c.loop-column.yielded) t.0 (each_of_length Fits cs xs c.requires.fits) c.loop-column.invariant (rw (t.2 none, t.3 0) at c.put_value.ensures))

pub returns : goal.returns
returns c =
    let cs = c.args.columns.now in
    let xs = c.args.values.now in
    let same : length xs ≡ length cs = each_of_length Fits cs xs c.requires.fits in
    let n = zip_end cs xs c.loop-column.yielded c.into_iter-column-iterator.result c.loop-column.column-iterator c.next.new.self c.next.result (cc) (cc) c.loop-column.yielded_by c.in-None.is c.next.ensures.steps in
    rw (take_all (length c.loop-column.yielded) cs (omega (arith, n, same)), take_all (length c.loop-column.yielded) xs (omega (arith, n, same))) at c.loop-column.invariant
