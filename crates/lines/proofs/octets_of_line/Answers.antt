use Rattle.std.proofs.Common.{◌≡◌, ◌-◌, length, take, drop, sym, ap, ◌∙◌, rules}
use Rattle.std.proofs.lemmas.List.{take_rest}
use Rattle.lines.specs.Spelling.{spelled}
use Rattle.lines.proofs.Reading.{begun, ended, parted, apart}
use Rattle.lines.proofs.octets_of_line.Goals as goal

pub loop-init : goal.loop-init
loop-init c = (rw c.new-octets.ensures (begun _ (search rules)), search rules)

pub returns-in-empty-clause-cases : goal.returns-in-empty-clause-cases
returns-in-empty-clause-cases c =
    let e : length c.loop.rest.now ≡ 2 = search rules in
    let v = c.in_ok-pair_value.ensures in
    ended _ _ _ _ c.loop.invariant.0 e v.0 v.1 ∙ ap spelled (sym c.push.ensures.items)

pub returns-in_default-after-clause-cases : goal.returns-in_default-after-clause-cases
returns-in_default-after-clause-cases c = apart _ _ _ _ c.loop.invariant.0 (take_rest c.loop.rest.now 2) (search rules) (search rules)

pub loop-preserved : goal.loop-preserved
loop-preserved c =
    let v = c.in_ok-pair_value.ensures in
    let r = c.loop.rest.now in
    (parted _ _ _ _ _ _ _ c.loop.invariant.0 c.push.ensures.items (take_rest r 2) (search rules) v.0 v.1 (search rules) (take_rest (take (length r - 2) (drop 2 r)) 1), search rules)
