use Rattle.block_requests.proofs.GoOver.{blocks_go_over}
use Rattle.block_requests.proofs.blocks_go_over.Goals as goal

pub returns : goal.returns
returns c = blocks_go_over
