use Rattle.block_requests.proofs.OneTransfer.{one_got_block}
use Rattle.block_requests.proofs.a_get_block_has_one_reply.Goals as goal

pub returns : goal.returns
returns c = one_got_block
