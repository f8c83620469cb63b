-- The values of a get, one address after another.
use Rattle.std.proofs.Common.{◌≡◌, ℕ, ◌+◌, ◌*◌, ◌/◌, ◌%◌, ◌<◌, List, [], ◌∷◌, ◌++◌, length, get_or, drop, sym, refl, ap, ◌∙◌, subst, inl, inr, arith}
use Rattle.std.proofs.lemmas.List.{length_push, get_or_push, get_or_append_left, length-drop}
use Rattle.std.proofs.lemmas.Bool.{cases_lt}
use Rattle.std.specs.Prelude.{Result, Ok, Err, MatchResult}
use Rattle.replies.specs.declared.Reply.{Reply}
use Rattle.replies.specs.Replies.{Grew}
use Rattle.replies.proofs.ReplyFacts.{grew_more}
use Rattle.transfers.specs.declared.refusal.Refusal.{Refusal}
use Rattle.transfers.specs.declared.refusal.Refusal.TheVariants.{NoNumber}
use Rattle.transfers.specs.Items.{address_at, address_place, count_in, Whole}
use Rattle.transfers.specs.Gets.{Value, Nameless, Values, FirstNameless, Got, accepted, refused, two_octets}
use Rattle.transfers.specs.Gets.Got.{nameless, values}

pub values_none : (cells body : List ℕ) → Values cells body 0 []
values_none cells body = record { count = refl; each = λ k h. absurd (omega arith) }

pub values_more :
    (cells body vs : List ℕ) (n v : ℕ) → Values cells body n vs → Value cells (address_at body n) v → Values cells body (n + 1) (vs ++ v ∷ [])
values_more cells body vs n v w x =
    record {
      count = length_push vs v ∙ ap (λ m. m + 1) w.count;
      each = λ k h.
          elim (cases_lt k n) [
            | inl l ↦ subst (Value cells (address_at body k)) (sym (get_or_append_left vs (v ∷ []) 0 k (omega (arith, w.count)))) (w.each k l)
            | inr l ↦
                let e : n ≡ k = omega arith in
                subst (λ m. Value cells (address_at body m) (get_or (vs ++ v ∷ []) m 0)) e
                (subst (Value cells (address_at body n)) (sym (get_or_push vs v 0 n w.count)) x)
          ];
    }

pub octets_more : (vs : List ℕ) (v : ℕ) → two_octets (vs ++ v ∷ []) ≡ two_octets vs ++ (v / 256 ∷ v % 256 ∷ [])
octets_more [] v = refl
octets_more (x ∷ vs) v = ap (λ xs. x / 256 ∷ x % 256 ∷ xs) (octets_more vs v)

pub length-octets : (vs : List ℕ) → length (two_octets vs) ≡ 2 * length vs
length-octets [] = refl
length-octets (x ∷ vs) = omega (arith, length-octets vs)

pub first_nameless :
    (cells body vs : List ℕ) (n k : ℕ) → k < n → Values cells body k vs → Nameless (address_at body k) → FirstNameless body n k
first_nameless cells body vs n k h w x =
    record { within = h; here = x; before = λ j l. let v = w.each j l in (v.0, v.1) }

-- the items' octets are four to an item
pub item_count : (body items : List ℕ) → Whole 4 body → items ≡ drop 1 body → length items ≡ count_in body * 4
item_count body items w e = omega (arith, ap length e, length-drop 1 body, w.octets)

-- a get that begins with a 0 and the count comes to what its values come to
pub got_values :
    {b a : Reply} (z : Reply) (cells body : List ℕ) (n m : ℕ) (r : Result (Unit {0}) Refusal)
    → Whole 4 body → count_in body ≡ n → m ≡ n → Grew b a (0 ∷ n ∷ [])
    → MatchResult r (λ _. (vs : List ℕ) × Values cells body m vs × Grew a z (two_octets vs)) (λ e. (k : ℕ) × FirstNameless body m k × (e ≡ NoNumber (address_place k)))
    → MatchResult r (λ _. (os : List ℕ) × Got cells body (accepted os) × Grew b z os) (λ e. Got cells body (refused e))
got_values z cells body n m (Ok u) whole count same begun (vs, each, put) = (
  0 ∷ n ∷ two_octets vs,
  values vs whole (subst (λ k. Values cells body k vs) (same ∙ sym count) each) (ap (λ k. accepted (0 ∷ k ∷ two_octets vs)) (sym count)),
  grew_more begun put,
)
got_values z cells body n m (Err e) whole count same begun (k, first, is) =
    nameless k whole (subst (λ j. FirstNameless body j k) (same ∙ sym count) first) (ap refused is)
