use Rattle.block_requests.proofs.OneTransfer.{blocks_judged}
use Rattle.block_requests.proofs.every_block_is_judged.Goals as goal

pub returns : goal.returns
returns c = blocks_judged
