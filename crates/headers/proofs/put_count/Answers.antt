use Rattle.std.proofs.Common.{◌/◌, ◌%◌, cond, [], ◌∷◌, sym, subst, arith}
use Rattle.std.proofs.lemmas.Bool.{le-ltb}
use Rattle.replies.specs.Replies.{Grew}
use Rattle.replies.proofs.ReplyFacts.{grew_more}
use Rattle.replies.proofs.ReplyFacts.{grew_room}
use Rattle.headers.proofs.put_count.Goals as goal

pub put_number-requires : goal.put_number-requires
put_number-requires c = grew_room 2 c.put-in_default.ensures c.requires.room

pub returns-in_default : goal.returns-in_default
returns-in_default c =
    let n = c.args.rows in
    let many = c.in_default.ensures in
    subst (λ b. Grew c.args.reply.now c.put_number.new.self (cond b (1 ∷ n ∷ []) (2 ∷ n / 256 ∷ n % 256 ∷ []))) (sym (le-ltb n 256 (omega (arith, many))))
    (grew_more c.put-in_default.ensures c.put_number.ensures)
