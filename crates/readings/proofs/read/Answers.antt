use Rattle.std.proofs.Common.{arith, rules}
use Rattle.std.proofs.lemmas.Grind.{common_steps}
use Rattle.readings.proofs.Octets.{as_numbers, unclear}
use Rattle.readings.proofs.read.Goals as goal

pub returns-in_ok-numbers_of-in-0-2 : goal.returns-in_ok-numbers_of-in-0-2
returns-in_ok-numbers_of-in-0-2 c = as_numbers c.args.reply.now _ (search rules) (search rules) (search rules) c.in_ok-numbers_of-in-0-2.ensures

pub returns-in_default : goal.returns-in_default
returns-in_default c =
    unclear _ (λ l z. grind (arith, common_steps)) (λ h z l. grind (arith, common_steps)) (λ h z b. grind (arith, common_steps)) (λ l z. grind (arith, common_steps))
