use Rattle.std.proofs.Common.{refl}
use Rattle.std.proofs.lemmas.Result.{err_from_is_err_and}
use Rattle.tables.specs.declared.family.FamilyId.TheVariants.{Phase, VehicleDetector, PedestrianDetector, Pattern, Split, Action, Sequence}
use Rattle.block_requests.specs.Faults.HeaderFaults.{in_front}
use Rattle.block_requests.proofs.Named.{put_named}
use Rattle.block_requests.proofs.get_block.put_block.Goals as goal

pub returns-in_err-family_named-clause-outcome : goal.returns-in_err-family_named-clause-outcome
returns-in_err-family_named-clause-outcome g c =
    let p = err_from_is_err_and c.from_residual.result c.from_residual.ensures.1 in
    rw (p.1, p.2) (in_front c.in_err-family_named.ensures, refl)

pub returns-in-Phase-clause-outcome : goal.returns-in-Phase-clause-outcome
returns-in-Phase-clause-outcome g c = put_named Phase c.args.header.now c.in_ok-family_named.ensures c.in-Phase.is _ _ _ c.put_block_of.result c.put_block_of.ensures.outcome

pub returns-in-VehicleDetector-clause-outcome : goal.returns-in-VehicleDetector-clause-outcome
returns-in-VehicleDetector-clause-outcome g c = put_named VehicleDetector c.args.header.now c.in_ok-family_named.ensures c.in-VehicleDetector.is _ _ _ c.put_block_of-in-VehicleDetector.result c.put_block_of-in-VehicleDetector.ensures.outcome

pub returns-in-PedestrianDetector-clause-outcome : goal.returns-in-PedestrianDetector-clause-outcome
returns-in-PedestrianDetector-clause-outcome g c = put_named PedestrianDetector c.args.header.now c.in_ok-family_named.ensures c.in-PedestrianDetector.is _ _ _ c.put_block_of-in-PedestrianDetector.result c.put_block_of-in-PedestrianDetector.ensures.outcome

pub returns-in-Pattern-clause-outcome : goal.returns-in-Pattern-clause-outcome
returns-in-Pattern-clause-outcome g c = put_named Pattern c.args.header.now c.in_ok-family_named.ensures c.in-Pattern.is _ _ _ c.put_block_of-in-Pattern.result c.put_block_of-in-Pattern.ensures.outcome

pub returns-in-Split-clause-outcome : goal.returns-in-Split-clause-outcome
returns-in-Split-clause-outcome g c = put_named Split c.args.header.now c.in_ok-family_named.ensures c.in-Split.is _ _ _ c.put_block_of-in-Split.result c.put_block_of-in-Split.ensures.outcome

pub returns-in-Action-clause-outcome : goal.returns-in-Action-clause-outcome
returns-in-Action-clause-outcome g c = put_named Action c.args.header.now c.in_ok-family_named.ensures c.in-Action.is _ _ _ c.put_block_of-in-Action.result c.put_block_of-in-Action.ensures.outcome

pub returns-in-Sequence-clause-outcome : goal.returns-in-Sequence-clause-outcome
returns-in-Sequence-clause-outcome g c = put_named Sequence c.args.header.now c.in_ok-family_named.ensures c.in-Sequence.is _ _ _ c.put_block_of-in-Sequence.result c.put_block_of-in-Sequence.ensures.outcome
