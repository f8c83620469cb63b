-- A line read up to some place: the octets so far, and what is left of the line. Assumes nothing.
use Rattle.std.proofs.Common.{◌≡◌, ℕ, ◌+◌, ◌/◌, ◌%◌, ◌<◌, List, [], ◌∷◌, ◌++◌, length, get_or, drop, sym, ap, ◌∙◌, append_assoc, arith, refl}
use Rattle.std.proofs.lemmas.List.{length_push}
use Rattle.lines.specs.Spelling.{digit_of, spelled, Octets, Legible}

-- octets that spell what is left of a line that spells `os`, after the first `n` of them
pub record Left (n : ℕ) (rest : List ℕ) (os : List ℕ) : Type 0 where
  pub first : ℕ
  pub others : List ℕ
  pub small : Octets (first ∷ others)
  pub count : length os ≡ n + length (first ∷ others)
  pub written : rest ≡ spelled (first ∷ others)

-- what spells the rest makes the line whole, and a line that spells octets leaves a rest that does
pub record Reading (line held rest : List ℕ) : Type 0 where
  pub back : (x : ℕ) (os : List ℕ) → rest ≡ spelled (x ∷ os) → line ≡ spelled (held ++ x ∷ os)
  pub ahead : (os : List ℕ) → Octets os → line ≡ spelled os → Left (length held) rest os

begun_ahead : (line : List ℕ) → 0 < length line → (os : List ℕ) → Octets os → line ≡ spelled os → Left 0 line os
begun_ahead line h [] o e = let z : length line ≡ 0 = ap length e in absurd (omega arith)
begun_ahead line h (x ∷ os) o e =
    record { first = x; others = os; small = o; count = omega arith; written = e }

pub begun : (line : List ℕ) → 0 < length line → Reading line [] line
begun line h = record { back = λ x os e. e; ahead = begun_ahead line h }

-- a pair at the end of the line
two : (r : List ℕ) → length r ≡ 2 → r ≡ get_or r 0 0 ∷ get_or r 1 0 ∷ []
two [] h = absurd (omega arith)
two (a ∷ []) h = absurd (omega arith)
two (a ∷ b ∷ []) h = refl
two (a ∷ b ∷ c ∷ r) h = absurd (omega arith)

pub ended : (line held : List ℕ) (v : ℕ) (r : List ℕ) → Reading line held r → length r ≡ 2 → get_or r 0 0 ≡ digit_of (v / 16) → get_or r 1 0 ≡ digit_of (v % 16) → line ≡ spelled (held ++ v ∷ [])
ended line held v r s k p q =
    s.back v [] (two r k ∙ ap (λ x. x ∷ get_or r 1 0 ∷ []) p ∙ ap (λ y. digit_of (v / 16) ∷ y ∷ []) q)

-- a pair and more, of which `after` is what follows the pair
three : (r : List ℕ) → 0 < length (drop 2 r) → r ≡ get_or r 0 0 ∷ get_or r 1 0 ∷ get_or (drop 2 r) 0 0 ∷ drop 1 (drop 2 r)
three [] h = absurd (omega arith)
three (a ∷ []) h = absurd (omega arith)
three (a ∷ b ∷ []) h = absurd (omega arith)
three (a ∷ b ∷ c ∷ r) h = refl

parted_at : (n : ℕ) (r more os : List ℕ) (a b : ℕ) → r ≡ a ∷ b ∷ 32 ∷ more → (x : ℕ) (xs : List ℕ) → Octets (x ∷ xs) → length os ≡ n + length (x ∷ xs) → r ≡ spelled (x ∷ xs) → Left (n + 1) more os
parted_at n r more os a b s x [] o k e =
    let z : length (a ∷ b ∷ 32 ∷ more) ≡ 2 = ap length (sym s ∙ e) in absurd (omega arith)
parted_at n r more os a b s x (y ∷ ys) o k e =
    record { first = y; others = ys; small = o.1; count = omega arith; written = cc }

pub parted : (line held longer : List ℕ) (v : ℕ) (r after more : List ℕ) → Reading line held r → longer ≡ held ++ v ∷ [] → after ≡ drop 2 r → 0 < length after → get_or r 0 0 ≡ digit_of (v / 16) → get_or r 1 0 ≡ digit_of (v % 16) → get_or after 0 0 ≡ 32 → more ≡ drop 1 after → Reading line longer more
parted line held longer v r after more s l d k p q w m =
    let k2 : 0 < length (drop 2 r) = rw d at k in
    let e : r ≡ digit_of (v / 16) ∷ digit_of (v % 16) ∷ 32 ∷ more = let t = three r k2 in cc in
    rw l (record {
      back = λ x os f. s.back v (x ∷ os) (e ∙ ap (λ l. digit_of (v / 16) ∷ digit_of (v % 16) ∷ 32 ∷ l) f) ∙ ap spelled (sym (append_assoc held (v ∷ []) (x ∷ os)));
      ahead = λ os o f. let a = s.ahead os o f in rw (length_push held v) (parted_at (length held) r more os _ _ e a.first a.others a.small a.count a.written);
    })

-- no octets spell a line that goes on after a pair with another byte
apart_at : (r : List ℕ) → 0 < length (drop 2 r) → (get_or (drop 2 r) 0 0 ≡ 32 → ⊥) → (x : ℕ) (xs : List ℕ) → r ≡ spelled (x ∷ xs) → ⊥
apart_at r k w x [] e = let z : length (drop 2 r) ≡ 0 = ap (λ l. length (drop 2 l)) e in omega arith
apart_at r k w x (y ∷ ys) e = w (ap (λ l. get_or (drop 2 l) 0 0) e)

pub apart : (line held r after : List ℕ) → Reading line held r → after ≡ drop 2 r → 0 < length after → (get_or after 0 0 ≡ 32 → ⊥) → Legible line → ⊥
apart line held r after s d k w l =
    let f = s.ahead l.octets l.small l.written in
    let k2 : 0 < length (drop 2 r) = rw d at k in
    apart_at r k2 (λ e. w (ap (λ l. get_or l 0 0) d ∙ e)) f.first f.others f.written
