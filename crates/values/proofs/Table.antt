-- Numbers by a table of columns.
use Rattle.std.proofs.Common.{◌≡◌, ℕ, ◌+◌, ◌<◌, ◌≤◌, List, [], ◌∷◌, ◌++◌, length, get_or, take, drop, sym, ap, ◌∙◌, subst, arith}
use Rattle.std.proofs.lemmas.List.{take_more, take-append-drop, length-take-le, append-nil}
use Rattle.tables.specs.declared.columns.Column.{Column}
use Rattle.tables.specs.Columns.{none}
use Rattle.values.specs.Reading.{Decided, Written, Near, EachOf, each_octets}
use Rattle.replies.specs.declared.Reply.{Reply}
use Rattle.replies.specs.Replies.{Grew}
use Rattle.replies.proofs.ReplyFacts.{grew_more}
use Rattle.values.specs.Numbers.{numbers, Allowed, octets, size, sizes}
use Rattle.values.proofs.Parts.{each_decided, each-written, each_near, octets_append, octets-length, total_append}
use Rattle.values.proofs.Number.{number_decided, number-written, number_near, octets-size}

pub numbers_decided : (cs : List Column) → Decided (numbers cs)
numbers_decided = each_decided number_decided

pub numbers-written : (cs : List Column) → Written (numbers cs) (EachOf Allowed cs) (each_octets octets cs)
numbers-written = each-written number-written

pub numbers_near : (cs : List Column) → Near (numbers cs) (sizes cs)
numbers_near = each_near number_near

pub numbers_short : (cs : List Column) (xs : List ℕ) → length (each_octets octets cs xs) ≤ sizes cs
numbers_short = octets-length octets size (λ c x. omega (arith, octets-size c x))

-- one number more is written
pub put_more : (cs : List Column) (xs : List ℕ) (i : ℕ) {b a z : Reply} → i < length cs → length xs ≡ length cs
    → Grew b a (each_octets octets (take i cs) (take i xs)) → Grew a z (octets (get_or cs i none) (get_or xs i 0))
    → Grew b z (each_octets octets (take (i + 1) cs) (take (i + 1) xs))
put_more cs xs i {b = b} {z = z} l e v w =
    let c = get_or cs i none in
    let x = get_or xs i 0 in
    let n : length (take i xs) ≡ length (take i cs) = length-take-le i xs (omega arith) ∙ sym (length-take-le i cs (omega arith)) in
    subst (Grew b z)
    (sym ((λ k. each_octets octets (take_more cs i none l k) (take_more xs i 0 (omega arith) k))
    ∙ (octets_append octets (take i cs) (c ∷ []) (take i xs) (x ∷ []) n
    ∙ ap (λ t. each_octets octets (take i cs) (take i xs) ++ t) (append-nil (octets c x)))))
    (grew_more v w)

-- room for one number more
pub room_more : (cs : List Column) (i : ℕ) → i < length cs → sizes (take (i + 1) cs) ≡ sizes (take i cs) + size (get_or cs i none)
room_more cs i l = ap sizes (take_more cs i none l) ∙ (total_append size (take i cs) (get_or cs i none ∷ []) ∙ omega arith)

pub room_within : (cs : List Column) (i : ℕ) → sizes (take i cs) ≤ sizes cs
room_within cs i = omega (arith, ap sizes (take-append-drop i cs), total_append size (take i cs) (drop i cs))
