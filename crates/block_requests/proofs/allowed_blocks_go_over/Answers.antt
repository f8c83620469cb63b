use Rattle.block_requests.proofs.GoOver.{allowed_blocks_go_over}
use Rattle.block_requests.proofs.allowed_blocks_go_over.Goals as goal

pub returns : goal.returns
returns c = allowed_blocks_go_over
