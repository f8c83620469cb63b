use Rattle.std.proofs.lemmas.Result.{err_from_is_err_and}
use Rattle.tables.specs.declared.family.FamilyId.TheVariants.{Phase, VehicleDetector, PedestrianDetector, Pattern, Split, Action, Sequence}
use Rattle.block_requests.specs.Faults.BlockFaults.{in_front}
use Rattle.block_requests.proofs.Named.{staged_named}
use Rattle.block_requests.proofs.set_block.stage_block.Goals as goal

pub returns-in_err-family_named : goal.returns-in_err-family_named
returns-in_err-family_named c =
    let p = err_from_is_err_and c.from_residual.result c.from_residual.ensures.1 in
    rw (p.1, p.2) (in_front c.in_err-family_named.ensures)

pub returns-in-Phase : goal.returns-in-Phase
returns-in-Phase c = staged_named Phase c.args.block.now c.in_ok-family_named.ensures c.in-Phase.is _ c.read_block.result c.read_block.ensures

pub returns-in-VehicleDetector : goal.returns-in-VehicleDetector
returns-in-VehicleDetector c = staged_named VehicleDetector c.args.block.now c.in_ok-family_named.ensures c.in-VehicleDetector.is _ c.read_block-in-VehicleDetector.result c.read_block-in-VehicleDetector.ensures

pub returns-in-PedestrianDetector : goal.returns-in-PedestrianDetector
returns-in-PedestrianDetector c = staged_named PedestrianDetector c.args.block.now c.in_ok-family_named.ensures c.in-PedestrianDetector.is _ c.read_block-in-PedestrianDetector.result c.read_block-in-PedestrianDetector.ensures

pub returns-in-Pattern : goal.returns-in-Pattern
returns-in-Pattern c = staged_named Pattern c.args.block.now c.in_ok-family_named.ensures c.in-Pattern.is _ c.read_block-in-Pattern.result c.read_block-in-Pattern.ensures

pub returns-in-Split : goal.returns-in-Split
returns-in-Split c = staged_named Split c.args.block.now c.in_ok-family_named.ensures c.in-Split.is _ c.read_block-in-Split.result c.read_block-in-Split.ensures

pub returns-in-Action : goal.returns-in-Action
returns-in-Action c = staged_named Action c.args.block.now c.in_ok-family_named.ensures c.in-Action.is _ c.read_block-in-Action.result c.read_block-in-Action.ensures

pub returns-in-Sequence : goal.returns-in-Sequence
returns-in-Sequence c = staged_named Sequence c.args.block.now c.in_ok-family_named.ensures c.in-Sequence.is _ c.read_block-in-Sequence.result c.read_block-in-Sequence.ensures
