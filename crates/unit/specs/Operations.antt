-- The operations: their octets, and the modes that each is taken in (0 quiet, 1 editing, 2 checked).
use Rattle.std.specs.Prelude.{◌≡◌, ℕ, Bool, ◌||◌, Result, MatchResult, ◌≢◌, ◌==◌, nat_le}
use Rattle.transfers.specs.declared.refusal.Refusal.{Refusal}
use Rattle.transfers.specs.declared.refusal.Refusal.TheVariants.{UnknownOperation}
use Rattle.unit.specs.declared.operation.Operation.{Operation}
use Rattle.unit.specs.declared.operation.Operation.TheVariants.{Get, Set, GetBlock, SetBlock, Open, Abandon}

abbrev pub code_of : Operation → ℕ
code_of Get = 1
code_of Set = 2
code_of GetBlock = 3
code_of SetBlock = 4
code_of Open = 5
code_of Abandon = 9

abbrev pub takes_mode : Operation → ℕ → Bool
takes_mode Get m = nat_le m 2
takes_mode Set m = m == 1
takes_mode GetBlock m = nat_le m 2
takes_mode SetBlock m = m == 1
takes_mode Open m = m == 0
takes_mode Abandon m = m == 1 || m == 2

-- the operation with this octet; an octet of no operation is an unknown one
abbrev pub Decodes : ℕ → Result Operation Refusal → Type 0
Decodes octet r = MatchResult r (λ o. code_of o ≡ octet) (λ e. (e ≡ UnknownOperation) × ((o : Operation) → code_of o ≢ octet))
