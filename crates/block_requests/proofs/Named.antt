-- What a function that takes the family comes to, by the family that the octets name.
use Rattle.std.proofs.Common.{◌≡◌, ℕ, ◌≤◌, List, ◌∷◌, Ok, Err, Result, refl, subst, MatchResult}
use Rattle.replies.specs.declared.Reply.{Reply}
use Rattle.replies.specs.Replies.{Fresh, Grew, SamePastRoom, reply_room}
use Rattle.replies.proofs.ReplyFacts.{grew_past, same_self}
use Rattle.tables.specs.declared.family.FamilyId.{FamilyId}
use Rattle.tables.specs.declared.work.StagedWrite.{StagedWrite}
use Rattle.values.specs.declared.Fault.{Fault}
use Rattle.values.specs.Reading.{whole}
use Rattle.headers.specs.Headers.{family_named, spans_of}
use Rattle.blocks.specs.Blocks.{BlockOf, BlockMeans, contents}
use Rattle.families.specs.Families.{layout_of}
use Rattle.block_requests.specs.Faults.{HeaderFaults, BlockFaults}
use Rattle.block_requests.specs.Faults.HeaderFaults.{in_spans}
use Rattle.block_requests.specs.Faults.BlockFaults.{in_contents}

module _ {named : FamilyId} (f : FamilyId) (s : List ℕ) (n : family_named.Means s 0 named 2) (is : named ≡ f) where
  here : family_named.Means s 0 f 2
  here = subst (λ g. family_named.Means s 0 g 2) is n

  pub put_named :
      (cells : List ℕ) (b a : Reply) (r : Result (Unit {0}) Fault)
      → MatchResult r
      (λ _. (os : List ℕ) × BlockOf f (layout_of f) cells s os × Grew b a (0 ∷ os) × (a.position.now.length ≤ reply_room))
      (λ w. (whole (spans_of f)).Faults s 2 w × (a ≡ b))
      → MatchResult r
      (λ _. (g : FamilyId) × (os : List ℕ) × family_named.Means s 0 g 2 × BlockOf g (layout_of g) cells s os × Grew b a (0 ∷ os) × (a.position.now.length ≤ reply_room))
      (λ w. HeaderFaults s w × (a ≡ b))
  put_named cells b a (Ok u) x = (f, x.0, here, x.1, x.2, x.3)
  put_named cells b a (Err w) x = (in_spans f here x.0, x.1)

  pub staged_named :
      (ws : List StagedWrite) (r : Result (Unit {0}) Fault)
      → MatchResult r (λ _. BlockMeans f (layout_of f) s ws) (λ w. (contents f (layout_of f)).Faults s 2 w)
      → MatchResult r (λ _. (g : FamilyId) × family_named.Means s 0 g 2 × BlockMeans g (layout_of g) s ws) (λ w. BlockFaults s w)
  staged_named ws (Ok u) x = (f, here, x)
  staged_named ws (Err w) x = in_contents f here x

-- either way, what stands past the room is kept
pub put_past :
    (cells s : List ℕ) (b a : Reply) (r : Result (Unit {0}) Fault)
    → MatchResult r
    (λ _. (g : FamilyId) × (os : List ℕ) × family_named.Means s 0 g 2 × BlockOf g (layout_of g) cells s os × Grew b a (0 ∷ os) × (a.position.now.length ≤ reply_room))
    (λ w. HeaderFaults s w × (a ≡ b))
    → Fresh b → SamePastRoom b a
put_past cells s b a (Ok u) x f = grew_past x.5 f.room x.4
put_past cells s b a (Err w) x f = rw x.1 (record { same = same_self _; size = refl; later = refl })
