use Rattle.std.proofs.Common.{◌≤◌, ◌++◌, length, string_bytes, ap, ◌∙◌, lit<, rules}
use Rattle.std.proofs.lemmas.List.{take_all}
use Rattle.lines.specs.Spelling.{spelled}
use Rattle.lines.proofs.Spells.{spelled_first, spelled_more}
use Rattle.lines.proofs.spell.Goals as goal
use Rattle.lines.proofs.spell.Goals.{then-i-gt0+in_ok-push, else-i-gt0}

pub loop-i-preserved : goal.loop-i-preserved
loop-i-preserved c = elim c.if-i-gt0.branch [
  | then-i-gt0+in_ok-push w ↦
      spelled_more c.args.octets.now c.loop-i.i (string_bytes c.loop-i.text) (string_bytes c.if-i-gt0.text) _ (search rules) w.if-i-gt0.true c.loop-i.invariant (ap string_bytes w.text-is ∙ w.in_ok-push.ensures.bytes ∙ ap (λ e. string_bytes c.loop-i.text ++ e) (w.push.ensures.ascii (lit< tt))) c.in_ok-push_pair.ensures
  | else-i-gt0 w ↦
      spelled_first c.args.octets.now c.loop-i.i (string_bytes c.if-i-gt0.text) _ (search rules) w.if-i-gt0.false (ap string_bytes w.text-is ∙ c.loop-i.invariant) c.in_ok-push_pair.ensures
]

pub returns : goal.returns
returns c = let h : length c.args.octets.now ≤ c.loop-i.i = search rules in c.loop-i.invariant ∙ ap spelled (take_all _ _ h)
