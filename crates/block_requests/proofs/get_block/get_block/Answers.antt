use Rattle.std.proofs.Common.{rules, ◌≤◌, ◌∷◌, length, refl, ap, arith}
use Rattle.std.proofs.iter.Serving.{serving}
use Rattle.values.specs.Reading.{place_in}
use Rattle.transfers.specs.Gets.{refused}
use Rattle.block_requests.specs.Transfers.GotBlock.{faulty, block}
use Rattle.block_requests.proofs.OneTransfer.{header_place}
use Rattle.block_requests.proofs.Mapped.{mapped}
use Rattle.block_requests.proofs.Named.{put_past}
use Rattle.block_requests.proofs.get_block.get_block.Goals as goal

pub map_err-requires : goal.map_err-requires
map_err-requires g c e is =
    let o = rw is at c.put_block.ensures.outcome in
    let near : place_in (length c.args.body.now) e ≤ 1023 = header_place c.args.body.now e o.0 in
    grind serving

pub returns-clause-outcome : goal.returns-clause-outcome
returns-clause-outcome g c =
    mapped _ c.map_err.result _ _ _ _ _ c.map_err.ensures.cases c.put_block.ensures.outcome
    (λ u o. (0 ∷ o.1, block o.0 o.1 o.2 o.3 refl, o.4, omega (arith, o.5, o.4.wrote.len)))
    (λ w e o by. (faulty w o.0 (ap refused (search rules)), o.1))

pub returns-clause-past : goal.returns-clause-past
returns-clause-past g c = put_past _ _ _ _ _ c.put_block.ensures.outcome c.requires.fresh
