-- Replies in the making, step by step.
use Rattle.std.proofs.Common.{◌≡◌, ℕ, ◌+◌, ◌-◌, ◌≤◌, List, [], ◌++◌, length, take, drop, replicate, sym, refl, ap, ◌∙◌, arith}
use Rattle.std.proofs.lemmas.List.{append_assoc, append-nil, length-append, drop-drop, length-take-le, length-take, length-drop}
use Rattle.replies.specs.declared.Reply.{Reply}
use Rattle.replies.specs.Replies.{Wrote, Same, Grew, SamePastRoom, reply_room, padded}

drop_on : (a b : List ℕ) (i j : ℕ) → i ≤ j → drop i a ≡ drop i b → drop j a ≡ drop j b
drop_on a b i j h e =
    let s : i + (j - i) ≡ j = omega arith in
    ap (λ n. drop n a) (sym s) ∙ (sym (drop-drop (j - i) i a) ∙ (ap (drop (j - i)) e ∙ (drop-drop (j - i) i b ∙ ap (λ n. drop n b) s)))

pub wrote_more : {b a z : List ℕ} {was is j : ℕ} {p q : List ℕ} → Wrote b was a is p → Wrote a is z j q → Wrote b was z j (p ++ q)
wrote_more {b = b} {a = a} {j = j} {p = p} {q = q} v w =
    record {
      len = omega (arith, v.len, w.len, length-append p q);
      octets = w.octets ∙ (ap (λ xs. xs ++ q) v.octets ∙ append_assoc _ p q);
      later = w.later ∙ drop_on a b _ j (omega (arith, w.len)) v.later;
    }

pub wrote_none : (b : List ℕ) (was : ℕ) → Wrote b was b was []
wrote_none b was = record { len = omega arith; octets = sym (append-nil (take was b)); later = refl }

pub same_same : {b a z : Reply} → Same b a → Same a z → Same b z
same_same v w = record { memory = w.memory ∙ v.memory; position = w.position ∙ v.position; mark = w.mark ∙ v.mark }

pub same_self : (b : Reply) → Same b b
same_self b = record { memory = refl; position = refl; mark = refl }

pub grew_more : {b a z : Reply} {p q : List ℕ} → Grew b a p → Grew a z q → Grew b z (p ++ q)
grew_more v w = record { same = same_same v.same w.same; wrote = wrote_more v.wrote w.wrote }

pub grew_none : (b : Reply) → Grew b b []
grew_none b = record { same = same_self b; wrote = wrote_none b.octets.now b.position.now.length }

-- memory keeps its length while a reply grows within it
pub grew_length : {b a : Reply} {more : List ℕ} → a.position.now.length ≤ length b.octets.now → Grew b a more → length a.octets.now ≡ length b.octets.now
grew_length {b = b} {a = a} {more = more} h g =
    let w = g.wrote in
    let front : length (take a.position.now.length a.octets.now) ≡ a.position.now.length =
    ap length w.octets ∙ (length-append (take b.position.now.length b.octets.now) more ∙ omega (arith, length-take-le b.position.now.length b.octets.now (omega (arith, w.len)), w.len)) in
    omega (arith, front, length-take a.position.now.length a.octets.now, ap length w.later, length-drop a.position.now.length a.octets.now, length-drop a.position.now.length b.octets.now)

-- room for so many octets more
pub grew_room :
    {b a : Reply} {more : List ℕ} (n : ℕ)
    → Grew b a more → b.position.now.length + (length more + n) ≤ length b.octets.now → a.position.now.length + n ≤ length a.octets.now
grew_room n g l = let w = g.wrote in omega (arith, w.len, grew_length (omega (arith, w.len)) g)

-- a reply that grew within the room leaves what stands past it
pub grew_past : {b a : Reply} {more : List ℕ} → a.position.now.length ≤ reply_room → reply_room ≤ length b.octets.now → Grew b a more → SamePastRoom b a
grew_past {b = b} {a = a} h r g = record { same = g.same; size = grew_length (omega arith) g; later = drop_on a.octets.now b.octets.now a.position.now.length reply_room h g.wrote.later }

pub past_past : {b a z : Reply} → SamePastRoom b a → SamePastRoom a z → SamePastRoom b z
past_past v w = record { same = same_same v.same w.same; size = w.size ∙ v.size; later = w.later ∙ v.later }

-- a reply that has been padded
pub padded_from :
    (b a : Reply) (z os : List ℕ) → b.position.now.length ≡ 0 → Grew b a os → a.position.now.length ≤ reply_room
    → z ≡ take a.position.now.length a.octets.now ++ (replicate (reply_room - a.position.now.length) 0 ++ drop reply_room a.octets.now)
    → z ≡ padded os b.octets.now
padded_from b a z os f g h e =
    let w = g.wrote in
    let l : a.position.now.length ≡ length os = omega (arith, w.len, f) in
    let none : take b.position.now.length b.octets.now ≡ [] = ap (λ n. take n b.octets.now) f in
    e
    ∙ (ap (λ x. x ++ (replicate (reply_room - a.position.now.length) 0 ++ drop reply_room a.octets.now)) (w.octets ∙ ap (λ x. x ++ os) none)
    ∙ (ap (λ x. os ++ (replicate (reply_room - x) 0 ++ drop reply_room a.octets.now)) l
    ∙ ap (λ x. os ++ (replicate (reply_room - length os) 0 ++ x)) (drop_on a.octets.now b.octets.now a.position.now.length reply_room h w.later)))

-- padding looks at what follows the room alone
pub padded_same : (os b r z : List ℕ) → z ≡ padded os r → drop reply_room r ≡ drop reply_room b → z ≡ padded os b
padded_same os b r z e d = e ∙ ap (λ x. os ++ (replicate (reply_room - length os) 0 ++ x)) d
