use Rattle.std.proofs.Common.{◌≡◌, ℕ, ◌+◌, ◌*◌, List, length}
use Rattle.replies.specs.Replies.{Grew}
use Rattle.transfers.specs.Items.{Addresses}
use Rattle.transfers.specs.Gets.{Values, two_octets}
use Rattle.transfers.proofs.get.put_values.Given as goal

-- the values so far are those of the addresses so far, and they have been put
abbrev pub invariant-loop-item : goal.invariant-loop-item
invariant-loop-item g l =
    ((vs : List ℕ)
    × ((body : List ℕ) → Addresses body l.addresses → Values (g.R.ParameterMemory.cells l.initial.running) body l.item vs)
    × Grew l.initial.reply l.reply (two_octets vs))
    × (l.reply.position.now.length ≡ l.initial.reply.position.now.length + 2 * l.item)
    × (length l.reply.octets.now ≡ length l.initial.reply.octets.now)
    × (g.R.ParameterMemory.cells l.running ≡ g.R.ParameterMemory.cells l.initial.running)
    × (g.R.ParameterMemory.kept l.running ≡ g.R.ParameterMemory.kept l.initial.running)
    × g.R.ParameterMemory.sound l.running
