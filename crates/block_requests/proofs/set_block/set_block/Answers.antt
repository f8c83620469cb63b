use Rattle.std.proofs.Common.{rules, ◌≤◌, length, refl, ap}
use Rattle.std.proofs.iter.Serving.{serving}
use Rattle.std.proofs.lemmas.Result.{err_from_is_err_and}
use Rattle.values.specs.Reading.{place_in}
use Rattle.transfers.specs.Gets.{refused}
use Rattle.blocks.proofs.BlockFacts.{block_fits}
use Rattle.families.specs.Families.{layout_of}
use Rattle.families.specs.FamilyFacts.{layout_lawful}
use Rattle.lists.specs.Items.{items}
use Rattle.block_requests.specs.Faults.{BlockFaults}
use Rattle.block_requests.specs.Judged.{IsBlock}
use Rattle.block_requests.specs.Transfers.SetBlockTo.{faulty, taken}
use Rattle.block_requests.proofs.OneTransfer.{block_place}
use Rattle.block_requests.proofs.Mapped.{kept, turned}
use Rattle.block_requests.proofs.set_block.set_block.Goals as goal

pub map_err-requires : goal.map_err-requires
map_err-requires g c e is =
    let near : place_in (length c.args.body.now) e ≤ 1023 = block_place c.args.body.now e (rw is at c.stage_block.ensures) in
    grind serving

pub returns-in_err-map_err-clause-outcome : goal.returns-in_err-map_err-clause-outcome
returns-in_err-map_err-clause-outcome g c =
    let p = err_from_is_err_and c.from_residual.result c.from_residual.ensures.1 in
    let o = turned _ _ _ (λ u. IsBlock c.args.body.now (items c.stage_block.new.list)) (BlockFaults c.args.body.now) _ c.map_err.ensures.cases c.stage_block.ensures c.in_err-map_err.was in
    rw (p.1, p.2) (faulty o.0 o.1 (ap refused (search rules)) refl)

pub write_staged-requires-clause-fit : goal.write_staged-requires-clause-fit
write_staged-requires-clause-fit g c =
    let o = (kept _ _ _ (λ u. IsBlock c.args.body.now (items c.stage_block.new.list)) (BlockFaults c.args.body.now) _ c.map_err.ensures.cases c.stage_block.ensures c.in_ok-map_err.was).1 in
    rw c.as_slice.ensures (block_fits o.0 (layout_of o.0) (layout_lawful o.0) c.args.body.now _ o.2)

pub returns-clause-outcome : goal.returns-clause-outcome
returns-clause-outcome g c =
    let o = (kept _ _ _ (λ u. IsBlock c.args.body.now (items c.stage_block.new.list)) (BlockFaults c.args.body.now) _ c.map_err.ensures.cases c.stage_block.ensures c.in_ok-map_err.was).1 in
    taken o.0 _ o.1 o.2 refl (rw (← c.as_slice.ensures) c.write_staged.ensures.taken)
