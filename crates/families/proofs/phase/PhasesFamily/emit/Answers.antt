use Rattle.std.proofs.Common.{◌≤◌, ◌++◌, length, sym, subst, arith}
use Rattle.tables.specs.declared.family.FamilyId.TheVariants.{Phase}
use Rattle.replies.specs.Replies.{Grew}
use Rattle.replies.proofs.ReplyFacts.{grew_more}
use Rattle.values.specs.Reading.{each_octets}
use Rattle.values.specs.Numbers.{octets}
use Rattle.values.specs.Lists.{list_octets}
use Rattle.replies.proofs.ReplyFacts.{grew_room}
use Rattle.values.proofs.Table.{numbers_short}
use Rattle.blocks.specs.Layouts.{columns_of}
use Rattle.families.specs.Families.{numbers_in}
use Rattle.families.proofs.phase.PhasesFamily.emit.Goals as goal

pub put_list-requires-clause-room : goal.put_list-requires-clause-room
put_list-requires-clause-room c =
    let numbers = c.args.row.now.numbers in
    let short = subst (λ cs. length (each_octets octets cs numbers) ≤ 22) (sym c.columns_of.ensures) (numbers_short (columns_of Phase (numbers_in Phase)) numbers) in
    grew_room 17 c.put_values.ensures (omega (arith, short, c.requires.room))

pub returns : goal.returns
returns c =
    let row = c.args.row.now in
    let column = (rw c.unwrap.ensures at c.column.ensures).2 in
    subst (Grew c.args.reply.now c.put_list.new.reply) (λ j. each_octets octets (c.columns_of.ensures j) row.numbers ++ list_octets (column j) row.list)
    (grew_more c.put_values.ensures c.put_list.ensures)
