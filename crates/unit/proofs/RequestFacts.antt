-- A request's octets taken apart, and its outcome laid into reply memory.
use Rattle.std.proofs.Common.{◌≡◌, ℕ, ◌-◌, ◌<◌, ◌≤◌, true, false, ◌⊎◌, List, [], ◌∷◌, length, get_or, take, drop, Ok, Err, Result, sym, refl, ap, ◌∙◌, subst, inl, inr, ⊎_elim, arith, MatchResult, ◌≢◌}
use Rattle.std.proofs.lemmas.List.{take_rest, nil_from_length}
use Rattle.transfers.specs.declared.refusal.Refusal.{Refusal}
use Rattle.transfers.specs.declared.refusal.Refusal.TheVariants.{MemoryCount, Room, EmptyRequest, UnknownOperation, Mode, ItemCount, Missing, Over, NoNumber, NotAllowed, NotInTable, CountDiffers}
use Rattle.transfers.specs.Refusals.{number_of, unanswered}
use Rattle.transfers.specs.Items.{Miscounted, count_in, address_place}
use Rattle.transfers.specs.Items.Miscounted.{no_count, out_of_range, missing, over}
use Rattle.replies.specs.declared.Reply.{Reply}
use Rattle.replies.specs.Replies.{Fresh, Grew, SamePastRoom}
use Rattle.replies.proofs.ReplyFacts.{grew_past}
use Rattle.transfers.specs.Gets.{Outcome, accepted, refused, Got, two_octets}
use Rattle.transfers.specs.Gets.Got.{miscounted, nameless, values}
use Rattle.transfers.specs.Sets.{ItemFault, SetTo}
use Rattle.transfers.specs.Sets.ItemFault.{nameless as item-nameless, not_allowed}
use Rattle.transfers.specs.Sets.SetTo.{miscounted as set-miscounted, faulty, taken}
use Rattle.transfers.proofs.GetFacts.{length-octets}
use Rattle.values.specs.declared.Fault.{Fault}
use Rattle.values.specs.declared.Fault.TheVariants.{NotInTable as BadHeader, CountDiffers as BadCount, NotAllowed as BadValue, Over as TooMany, Missing as TooFew}
use Rattle.block_requests.specs.Faults.{refusal_of}
use Rattle.block_requests.specs.Transfers.{GotBlock, SetBlockTo}
use Rattle.block_requests.specs.Transfers.GotBlock.{faulty as block-faulty, block}
use Rattle.block_requests.specs.Transfers.SetBlockTo.{faulty as rows-faulty, taken as rows_taken}
use Rattle.unit.specs.declared.operation.Operation.{Operation}
use Rattle.unit.specs.Operations.{code_of, takes_mode}
use Rattle.memory.specs.Top.{cell_count}
use Rattle.unit.specs.Steps.{Moment, moment, Answered, Does, Replied}
use Rattle.unit.specs.Steps.Answered.{done}
use Rattle.unit.specs.States.{SetHere}
use Rattle.unit.specs.States.SetHere.{wrong_count, no_room, turned_away, done as set-done}

pub first_and_rest : (xs : List ℕ) → 1 ≤ length xs → xs ≡ get_or xs 0 0 ∷ take (length xs - 1) (drop 1 xs)
first_and_rest [] h = absurd (omega arith)
first_and_rest (x ∷ xs) h = ap (λ ys. x ∷ ys) (sym (take_rest (x ∷ xs) 1))

pub none_left : (xs : List ℕ) → length xs < 1 → xs ≡ []
none_left xs h = nil_from_length xs (omega arith)

-- a refused get has a reply
miscounted_answered : (size : ℕ) (body : List ℕ) (e : Refusal) → Miscounted size body e → unanswered e ≡ false
miscounted_answered size body e (no_count a r) = ap unanswered r
miscounted_answered size body e (out_of_range a b r) = ap unanswered r
miscounted_answered size body e (missing a b r) = ap unanswered r
miscounted_answered size body e (over a b r) = ap unanswered r

pub refused_get : (cells body : List ℕ) (e : Refusal) → Got cells body (refused e) → unanswered e ≡ false
refused_get cells body e (miscounted d m r) = let s : e ≡ d = cc in ap unanswered s ∙ miscounted_answered 4 body d m
refused_get cells body e (nameless k w f r) = let s : e ≡ NoNumber (address_place k) = cc in ap unanswered s
refused_get cells body e (values vs w v r) = let z : ◌≡◌ {A = ℕ} 0 1 = cc in absurd (omega arith)

-- and an accepted one a reply of at most 66 octets
pub accepted_get : (cells body : List ℕ) (os : List ℕ) → Got cells body (accepted os) → length os ≤ 1024
accepted_get cells body os (miscounted d m r) = let z : ◌≡◌ {A = ℕ} 0 1 = cc in absurd (omega arith)
accepted_get cells body os (nameless k w f r) = let z : ◌≡◌ {A = ℕ} 0 1 = cc in absurd (omega arith)
accepted_get cells body os (values vs w v r) =
    let s : os ≡ 0 ∷ count_in body ∷ two_octets vs = cc in
    omega (arith, ap length s, length-octets vs, v.count, w.counted.most)

-- the octets of a request with this operation
pub coded : (octets : List ℕ) (p q : Operation) → 1 ≤ length octets → code_of p ≡ get_or octets 0 0 → p ≡ q → octets ≡ code_of q ∷ take (length octets - 1) (drop 1 octets)
coded octets p q h c e = first_and_rest octets h ∙ ap (λ x. x ∷ take (length octets - 1) (drop 1 octets)) (sym c ∙ ap code_of e)

-- a refused set has a reply
fault_answered : (body : List ℕ) (k : ℕ) (e : Refusal) → ItemFault body k e → unanswered e ≡ false
fault_answered body k e (item-nameless n r) = ap unanswered r
fault_answered body k e (not_allowed f r) = ap unanswered r

pub refused_set : (before body after : List ℕ) (e : Refusal) → SetTo before body (refused e) after → unanswered e ≡ false
refused_set before body after e (set-miscounted d m r a) = let s : e ≡ d = cc in ap unanswered s ∙ miscounted_answered 6 body d m
refused_set before body after e (faulty k d w f r a) = let s : e ≡ d = cc in ap unanswered s ∙ fault_answered body k d f.here
refused_set before body after e (taken ws w x r t) = let z : ◌≡◌ {A = ℕ} 0 1 = cc in absurd (omega arith)

-- an edit of a draft of the right count, with room enough
module _ {SetTo : Outcome → Type 0} where
  pub set_here :
      (before : List ℕ) (room : ℕ) (r : Result (Unit {0}) Refusal) (after : List ℕ)
      → length before ≡ cell_count → 1024 ≤ room
      → MatchResult r (λ _. SetTo (accepted (0 ∷ []))) (λ e. SetTo (refused e))
      → SetHere SetTo before room r after
  set_here before room (Ok u) after n h s = set-done n h refl s
  set_here before room (Err e) after n h s = turned_away e n h refl s

  -- and one that was not ready
  pub not_here :
      (before : List ℕ) (room : ℕ) (r : Result (Unit {0}) Refusal) (e : Refusal)
      → ((length before ≢ cell_count) × (e ≡ MemoryCount)) ⊎ ((length before ≡ cell_count) × (room < 1024) × (e ≡ Room))
      → r ≡ Err e → SetHere SetTo before room r before
  not_here before room r e (inl x) q = wrong_count x.0 (q ∙ ap Err x.1) refl
  not_here before room r e (inr x) q = no_room x.0 x.1 (q ∙ ap Err x.2) refl

  pub set_refused :
      (before after : List ℕ) (room : ℕ) (r : Result (Unit {0}) Refusal) (e : Refusal)
      → length before ≡ cell_count → 1024 ≤ room → SetHere SetTo before room r after → r ≡ Err e → SetTo (refused e)
  set_refused before after room r e n h (wrong_count m q a) x = absurd (m n)
  set_refused before after room r e n h (no_room m l q a) x = absurd (omega arith)
  set_refused before after room r e n h (turned_away d m l q s) x = let w : d ≡ e = cc in subst (λ y. SetTo (refused y)) w s
  set_refused before after room r e n h (set-done m l q s) x = let z : ◌≡◌ {A = ℕ} 0 1 = cc in absurd (omega arith)

  pub set_accepted :
      (before after : List ℕ) (room : ℕ) (r : Result (Unit {0}) Refusal) (u : Unit {0})
      → length before ≡ cell_count → 1024 ≤ room → SetHere SetTo before room r after → r ≡ Ok u → SetTo (accepted (0 ∷ []))
  set_accepted before after room r u n h (wrong_count m q a) x = absurd (m n)
  set_accepted before after room r u n h (no_room m l q a) x = absurd (omega arith)
  set_accepted before after room r u n h (turned_away d m l q s) x = let z : ◌≡◌ {A = ℕ} 0 1 = cc in absurd (omega arith)
  set_accepted before after room r u n h (set-done m l q s) x = s

-- a refused block has a reply
block_answered : (n : ℕ) (w : Fault) → unanswered (refusal_of n w) ≡ false
block_answered n (BadHeader k) = refl
block_answered n (BadCount k) = refl
block_answered n (BadValue k) = refl
block_answered n (TooMany k) = refl
block_answered n TooFew = refl

pub refused_get_block : (cells body : List ℕ) (e : Refusal) → GotBlock cells body (refused e) → unanswered e ≡ false
refused_get_block cells body e (block-faulty w f r) = let s : e ≡ refusal_of (length body) w = cc in ap unanswered s ∙ block_answered (length body) w
refused_get_block cells body e (block f os n b r) = let z : ◌≡◌ {A = ℕ} 0 1 = cc in absurd (omega arith)

pub refused_set_block : (before body after : List ℕ) (e : Refusal) → SetBlockTo before body (refused e) after → unanswered e ≡ false
refused_set_block before body after e (rows-faulty w f r a) = let s : e ≡ refusal_of (length body) w = cc in ap unanswered s ∙ block_answered (length body) w
refused_set_block before body after e (rows_taken f ws n b r t) = let z : ◌≡◌ {A = ℕ} 0 1 = cc in absurd (omega arith)

-- a refusal that has a reply is none of the two that have none
pub answered_number : (e : Refusal) → unanswered e ≡ false → (number_of e ≡ 9) ⊎ (number_of e ≡ 1) → ⊥
answered_number MemoryCount a n = let z : ◌≡◌ {A = ℕ} 0 1 = cc in omega arith
answered_number Room a n = let z : ◌≡◌ {A = ℕ} 0 1 = cc in omega arith
answered_number EmptyRequest a n = ⊎_elim (λ x. omega arith) (λ x. omega arith) n
answered_number UnknownOperation a n = ⊎_elim (λ x. omega arith) (λ x. omega arith) n
answered_number Mode a n = ⊎_elim (λ x. omega arith) (λ x. omega arith) n
answered_number ItemCount a n = ⊎_elim (λ x. omega arith) (λ x. omega arith) n
answered_number (Missing k) a n = ⊎_elim (λ x. omega arith) (λ x. omega arith) n
answered_number (Over k) a n = ⊎_elim (λ x. omega arith) (λ x. omega arith) n
answered_number (NoNumber k) a n = ⊎_elim (λ x. omega arith) (λ x. omega arith) n
answered_number (NotAllowed k) a n = ⊎_elim (λ x. omega arith) (λ x. omega arith) n
answered_number (NotInTable k) a n = ⊎_elim (λ x. omega arith) (λ x. omega arith) n
answered_number (CountDiffers k) a n = ⊎_elim (λ x. omega arith) (λ x. omega arith) n

-- a reply of one octet leaves what stands past the room
pub one_past : {b a : Reply} {x : ℕ} → Fresh b → Grew b a (x ∷ []) → SamePastRoom b a
one_past f g = grew_past (omega (arith, g.wrote.len, f.empty)) f.room g

-- what an operation that the octets name, in a mode that it takes, comes to
pub did :
    (p : Operation) (s t : Moment) (octets body : List ℕ) (r : Result (Unit {0}) Refusal) (b a : Reply)
    → octets ≡ code_of p ∷ body → takes_mode p s.mode ≡ true
    → Replied (λ o. Does p s body o t) r b a → Replied (λ o. Answered s octets o t) r b a
did p s t octets body (Ok u) b a e m x = (x.0, done p body e m x.1, x.2, x.3)
did p s t octets body (Err f) b a e m x = (done p body e m x.0, x.1)

-- what is said of a moment holds where its cells are told otherwise
pub moved :
    {R D : Type 0} (P : Moment → Type 0) (rc : R → List ℕ) (dc : D → List ℕ) (x u : R) (y v : D) (m : ℕ)
    → x ≡ u → y ≡ v → P (moment (rc u) (dc v) m) → P (moment (rc x) (dc y) m)
moved P rc dc x u y v m e f p = subst (λ z. P (moment (rc z) (dc y) m)) (sym e) (subst (λ z. P (moment (rc u) (dc z) m)) (sym f) p)
