-- A line in a buffer that may hold only its front. Assumes nothing.
use Rattle.std.proofs.Common.{◌≡◌, ℕ, ◌-◌, ◌*◌, ◌<◌, ◌≤◌, min, List, [], ◌∷◌, ◌++◌, length, IfSome, Some, None, Option, sym, refl, ap, ◌∙◌, arith, MatchOption}
use Rattle.std.proofs.lemmas.List.{take_all, take-append-le, length-take, length_push}
use Rattle.arrayvec.specs.ArrayVec.{ArrayVec, array_vec_len}
use Rattle.lines.specs.Spelling.{spelled, line_room, longest_line, Legible, Holds}

pub held_more : (front line : List ℕ) (b : ℕ) → length front < line_room → Holds front line → Holds (front ++ b ∷ []) (line ++ b ∷ [])
held_more front line b h e =
    let k : length front ≡ min line_room (length line) = ap length e ∙ length-take line_room line in
    let w : length (line ++ b ∷ []) ≤ line_room = omega (arith, length_push line b) in
    ap (λ l. l ++ b ∷ []) (e ∙ take_all line_room line (omega arith)) ∙ sym (take_all line_room (line ++ b ∷ []) w)

pub held_full : (front line : List ℕ) (b : ℕ) → length front ≡ line_room → Holds front line → Holds front (line ++ b ∷ [])
held_full front line b h e =
    let k : length front ≡ min line_room (length line) = ap length e ∙ length-take line_room line in
    e ∙ sym (take-append-le line_room line (b ∷ []) (omega arith))

length-spelled : (os : List ℕ) → length (spelled os) ≡ 3 * length os - 1
length-spelled [] = refl
length-spelled (x ∷ []) = refl
length-spelled (x ∷ y ∷ os) = let h : length (spelled (y ∷ os)) ≡ 3 * length (y ∷ os) - 1 = length-spelled (y ∷ os) in omega arith

-- a line that is too long and its front are both illegible
pub held_cases : (front line : List ℕ) → Holds front line → (r : Option (ArrayVec ℕ)) → MatchOption r (Legible front → ⊥) (λ os. front ≡ spelled os.items) → IfSome r (λ os. array_vec_len os ≤ longest_line) → MatchOption r (Legible line → ⊥) (λ os. line ≡ spelled os.items)
held_cases front line e None h b = λ l.
    let k : length line ≡ 3 * length l.octets - 1 = ap length l.written ∙ length-spelled l.octets in
    let f : length l.octets ≤ longest_line = l.few in
    h record { octets = l.octets; small = l.small; few = l.few; written = e ∙ take_all line_room line (omega arith) ∙ l.written }
held_cases front line e (Some os) h b =
    let k : length front ≡ 3 * length os.items - 1 = ap length h ∙ length-spelled os.items in
    let u : length front ≡ min line_room (length line) = ap length e ∙ length-take line_room line in
    sym (take_all line_room line (omega arith)) ∙ sym e ∙ h
