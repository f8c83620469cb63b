-- Headers, octet by octet.
use Rattle.std.proofs.Common.{◌≡◌, ℕ, zero, suc, ◌+◌, ◌-◌, ◌/◌, ◌%◌, ◌<◌, ◌≤◌, min, Bool, true, false, cond, ltb, ◌⊎◌, List, [], ◌∷◌, ◌++◌, map, length, get_or, take, drop, sym, refl, ap, ◌∙◌, subst, inl, inr, ⊎_elim, add-zero, arith, length-append}
use Rattle.std.proofs.lemmas.List.{take_rest, get_or-drop, length-drop, get_or_at}
use Rattle.std.proofs.lemmas.Bool.{cases_eq, cases_lt}
use Rattle.tables.specs.declared.family.FamilyId.{FamilyId}
use Rattle.tables.specs.declared.family.FamilyId.TheVariants.{Phase, VehicleDetector, PedestrianDetector, Pattern, Split, Action, Sequence}
use Rattle.tables.specs.Families.{shape_of}
use Rattle.values.specs.declared.Fault.{Fault}
use Rattle.values.specs.declared.Fault.TheVariants.{NotInTable, CountDiffers}
use Rattle.values.specs.declared.reader.Reader.{Reader}
use Rattle.values.specs.Reading.{Reading, Took, item, at_first, at_second, Decided, Written, Near, EachOf, each_octets, total}
use Rattle.values.proofs.Parts.{item_decided, item_near, then_decided, then-written, then_near, seen_decided, seen-written, seen_near, held_decided, held-written, held_near, each_decided, each-written, each_near, near_more}
use Rattle.headers.specs.declared.Span.{Span}
use Rattle.headers.specs.declared.Spans.{Spans}
use Rattle.headers.specs.Headers.{Identifies, family_named, UpTo, span_in, spans_in, spans_of, no_second, exactly, count_octets, count, InTable, spans_octets}

-- what follows an offset
pub part_at : (s : List ℕ) (from i : ℕ) → get_or (take (length s - from) (drop from s)) i 0 ≡ get_or s (from + i) 0
part_at s from i = ap (λ l. get_or l i 0) (take_rest s from) ∙ get_or-drop from s i 0

pub part_length : (s : List ℕ) (from : ℕ) → length (take (length s - from) (drop from s)) ≡ length s - from
part_length s from = ap length (take_rest s from) ∙ length-drop from s

-- the octets that a reader has left: the first, the next, and how many
module _ (s l : List ℕ) (at : ℕ) (e : l ≡ drop at s) where
  pub left_first : get_or l 0 0 ≡ get_or s at 0
  left_first = ap (λ t. get_or t 0 0) e ∙ get_or-drop at s 0 0 ∙ ap (λ n. get_or s n 0) (add-zero at)

  pub left_next : get_or (take (length l - 1) (drop 1 l)) 0 0 ≡ get_or s (at + 1) 0
  left_next = part_at l 1 0 ∙ ap (λ t. get_or t 1 0) e ∙ get_or-drop at s 1 0

  pub left_length : length l ≡ length s - at
  left_length = ap length e ∙ length-drop at s

-- the families have IDs of their own, and whether one has an ID can be told
with_id : (x : ℕ) (f : FamilyId) → ((shape_of f).id ≡ x) ⊎ ((shape_of f).id ≡ x → ⊥)
with_id x f = cases_eq (shape_of f).id x

none_with : (x : ℕ) → (0 ≡ x → ⊥) → (1 ≡ x → ⊥) → (2 ≡ x → ⊥) → (3 ≡ x → ⊥) → (4 ≡ x → ⊥) → (5 ≡ x → ⊥) → (7 ≡ x → ⊥) → (f : FamilyId) → (shape_of f).id ≡ x → ⊥
none_with x a b c d e g h Phase = a
none_with x a b c d e g h VehicleDetector = b
none_with x a b c d e g h PedestrianDetector = c
none_with x a b c d e g h Pattern = d
none_with x a b c d e g h Split = e
none_with x a b c d e g h Action = g
none_with x a b c d e g h Sequence = h

find_id : (x : ℕ) → ((f : FamilyId) × Identifies f x) ⊎ ((f : FamilyId) → Identifies f x → ⊥)
find_id x =
    ⊎_elim (λ y. inl (Phase, y)) (λ a.
    ⊎_elim (λ y. inl (VehicleDetector, y)) (λ b.
    ⊎_elim (λ y. inl (PedestrianDetector, y)) (λ c.
    ⊎_elim (λ y. inl (Pattern, y)) (λ d.
    ⊎_elim (λ y. inl (Split, y)) (λ e.
    ⊎_elim (λ y. inl (Action, y)) (λ g.
    ⊎_elim (λ y. inl (Sequence, y)) (λ h. inr (none_with x a b c d e g h))
    (with_id x Sequence)) (with_id x Action)) (with_id x Split)) (with_id x Pattern)) (with_id x PedestrianDetector)) (with_id x VehicleDetector)) (with_id x Phase)

-- the family with an ID, where there is one
abbrev by_id : ℕ → FamilyId
by_id zero = Phase
by_id (suc zero) = VehicleDetector
by_id (suc (suc zero)) = PedestrianDetector
by_id (suc (suc (suc zero))) = Pattern
by_id (suc (suc (suc (suc zero)))) = Split
by_id (suc (suc (suc (suc (suc zero))))) = Action
by_id (suc (suc (suc (suc (suc (suc n)))))) = Sequence

by_id_lem : (f : FamilyId) → by_id (shape_of f).id ≡ f
by_id_lem Phase = refl
by_id_lem VehicleDetector = refl
by_id_lem PedestrianDetector = refl
by_id_lem Pattern = refl
by_id_lem Split = refl
by_id_lem Action = refl
by_id_lem Sequence = refl

one_id : (f g : FamilyId) (x : ℕ) → Identifies f x → Identifies g x → f ≡ g
one_id f g x h k = sym (by_id_lem f) ∙ (ap by_id (h ∙ sym k) ∙ by_id_lem g)

pub family_decided : Decided family_named
family_decided =
    seen_decided (λ f. (tt, f))
    (then_decided (item_decided (λ x. ⊎_elim (λ e. inl (tt, e)) (λ n. inr (λ u. n)) (cases_eq x 0)) (λ a b x h k. refl)) (λ u. item_decided find_id one_id))
    (λ p. p.1) (λ p. refl) (λ f. refl)

pub family_near : Near family_named 2
family_near = seen_near (λ f. (tt, f)) (then_near {m = 1} {n = 1} (item_near (λ n k. refl)) (λ s i a mid h. item_near (λ n k. refl)))

find_upto : (last x : ℕ) → ((v : ℕ) × UpTo last v x) ⊎ ((v : ℕ) → UpTo last v x → ⊥)
find_upto last x =
    ⊎_elim (λ l. inr (λ v h. omega (arith, h.0, h.1, l)))
    (λ l. ⊎_elim (λ m. inr (λ v h. omega (arith, h.0, h.2, m))) (λ m. inl (x, (refl, l, m))) (cases_lt last x))
    (cases_lt x 1)

upto_decided : (last : ℕ) → Decided (item (UpTo last) NotInTable)
upto_decided last = item_decided (find_upto last) (λ v w x h k. h.0 ∙ sym k.0)

pub span_decided : (last : ℕ) → Decided (span_in last)
span_decided last = seen_decided (λ (s : Span). (s.start, s.quantity)) (then_decided (upto_decided last) (λ i. upto_decided (last + 1 - i))) (λ p. record { start = p.0; quantity = p.1 }) (λ p. refl) (λ s. refl)

pub span_near : (last : ℕ) → Near (span_in last) 2
span_near last = seen_near (λ (s : Span). (s.start, s.quantity)) (then_near {m = 1} {n = 1} (item_near (λ n k. refl)) (λ s i a mid h. item_near (λ n k. refl)))

single : (s t : Spans) → s.first ≡ t.first → s.second ≡ no_second → t.second ≡ no_second → s ≡ t
single s t e a b = let c = a ∙ sym b in (λ j. record { first = e j; second = c j })

pub spans_decided : (last second : ℕ) → Decided (spans_in last second)
spans_decided last zero = held_decided (λ (s : Spans). s.first) (λ s. s.second ≡ no_second) (span_decided last) (λ a. record { first = a; second = no_second }) (λ s i a j h. (refl, refl)) single
spans_decided last (suc n) = seen_decided (λ (s : Spans). (s.first, s.second)) (then_decided (span_decided last) (λ a. span_decided (suc n))) (λ p. record { first = p.0; second = p.1 }) (λ p. refl) (λ s. refl)

pub spans_near : (last second : ℕ) → Near (spans_in last second) 4
spans_near last zero = held_near (λ (s : Spans). s.first) (λ s. s.second ≡ no_second) (near_more (omega arith) (span_near last))
spans_near last (suc n) = seen_near (λ (s : Spans). (s.first, s.second)) (then_near {m = 2} {n = 2} (span_near last) (λ s i a mid h. span_near (suc n)))

-- a span that was read lies in the table
pub record SpanWithin (last : ℕ) (s : Span) : Type 0 where
  pub least : 1 ≤ s.start
  pub some : 1 ≤ s.quantity
  pub most : s.start + s.quantity ≤ last + 1

span_within : (last : ℕ) (s : List ℕ) (i : ℕ) (a : Span) (j : ℕ) → (span_in last).Means s i a j → SpanWithin last a
span_within last s i a j h =
    let start = h.one.is in
    let quantity = h.two.is in
    record { least = start.1; some = quantity.1; most = omega (arith, start.2, quantity.2) }

spans_within : (last second : ℕ) (s : List ℕ) (i : ℕ) (a : Spans) (j : ℕ) → (spans_in last second).Means s i a j
    → SpanWithin last a.first × (min 1 second ≤ a.second.start) × (1 ≤ a.second.quantity) × (a.second.start + a.second.quantity ≤ second + 1)
spans_within last zero s i a j h =
    let start : a.second.start ≡ 0 = ap (λ (x : Span). x.start) h.1 in
    let quantity : a.second.quantity ≡ 1 = ap (λ (x : Span). x.quantity) h.1 in
    (span_within last s i a.first j h.0, omega (arith, start), omega (arith, quantity), omega (arith, start, quantity))
spans_within last (suc n) s i a j h =
    let w = span_within (suc n) s h.mid a.second j h.two in
    (span_within last s i a.first h.mid h.one, omega (arith, w.least), w.some, w.most)

pub spans_in_table : (f : FamilyId) (s : List ℕ) (i : ℕ) (a : Spans) (j : ℕ) → (spans_of f).Means s i a j → InTable f a
spans_in_table f s i a j h =
    let w = spans_within (shape_of f).last_first (shape_of f).last_second s i a j h in
    record {
      first_least = w.0.least;
      first_some = w.0.some;
      first_last = w.0.most;
      second_least = w.1;
      second_some = w.2;
      second_last = w.3;
    }

pub exactly_decided : (os : List ℕ) → Decided (exactly os)
exactly_decided = each_decided (λ o. item_decided (λ x. ⊎_elim (λ e. inl (tt, e)) (λ n. inr (λ u. n)) (cases_eq x o)) (λ a b x h k. refl))

count-length : (b : Bool) (n : ℕ) → length (cond b (1 ∷ n ∷ []) (2 ∷ n / 256 ∷ n % 256 ∷ [])) ≤ 3
count-length true n = omega arith
count-length false n = omega arith

pub count_short : (n : ℕ) → length (count_octets n) ≤ 3
count_short n = count-length (ltb n 256) n

total_ones : (os : List ℕ) → total (λ (o : ℕ). 1) os ≡ length os
total_ones [] = refl
total_ones (o ∷ os) = omega (arith, total_ones os)

pub count_near : (n : ℕ) → Near (count n) 3
count_near n = near_more (omega (arith, total_ones (count_octets n), count_short n)) (each_near {most = λ (o : ℕ). 1} (λ o. item_near (λ m k. refl)) (count_octets n))

-- one span or two
module _ (last : ℕ) (s : List ℕ) (i : ℕ) where
  pub first_faulty : (n : ℕ) (w : Fault) → (span_in last).Faults s i w → (spans_in last n).Faults s i w
  first_faulty zero w f = f
  first_faulty (suc n) w f = at_first f

  pub second_faulty : (n : ℕ) (a : Span) (mid : ℕ) (w : Fault) → (n ≡ 0 → ⊥) → (span_in last).Means s i a mid → (span_in n).Faults s mid w → (spans_in last n).Faults s i w
  second_faulty zero a mid w e h f = absurd (e refl)
  second_faulty (suc n) a mid w e h f = at_second a mid h f

pub octets_of_two : (n : ℕ) (sp : Spans) → (n ≡ 0 → ⊥) → spans_octets n sp ≡ sp.first.start ∷ sp.first.quantity ∷ sp.second.start ∷ sp.second.quantity ∷ []
octets_of_two zero sp e = absurd (e refl)
octets_of_two (suc n) sp e = refl

-- what a reader must find to read just these octets
abbrev pub marked : ℕ → Reading (Unit {0})
marked o = item (λ u x. x ≡ o) CountDiffers

pub mark_taken : (o : ℕ) {a z : Reader} → a.at < length a.octets.now → get_or a.octets.now a.at 0 ≡ o → z.octets ≡ a.octets → z.at ≡ a.at + 1 → Took (marked o) a z tt
mark_taken o l e same at = record { same = same; means = record { there = l; is = e; takes = at } }

pub spans_short : (n : ℕ) (sp : Spans) → length (spans_octets n sp) ≤ 4
spans_short zero sp = omega arith
spans_short (suc n) sp = omega arith

-- What is written is read back.
item-written : {A : Type 0} {Is : A → ℕ → Type 0} {fault : ℕ → Fault} (allowed : A → Type 0) (octet : A → ℕ)
    → ((a : A) (x : ℕ) → Is a x → allowed a) → ((a : A) → allowed a → Is a (octet a)) → Written (item Is fault) allowed (λ a. octet a ∷ [])
item-written {Is = Is} allowed octet only so = record {
  ok = λ s i a j h. only a (get_or s i 0) h.is;
  back = λ a ok before after. record {
    there = omega (arith, length-append before (octet a ∷ after));
    is = subst (Is a) (sym (get_or_at before (octet a) after 0 (length before) refl)) (so a ok);
    takes = length-append before (octet a ∷ []);
  };
}

pub family_written : Written family_named (λ f. Unit {0} × Unit {0}) (λ f. 0 ∷ (shape_of f).id ∷ [])
family_written =
    seen-written (λ f. (tt, f))
    (then-written
    (item-written (λ u. Unit {0}) (λ u. 0) (λ u x h. tt) (λ u h. refl))
    (λ u. item-written (λ f. Unit {0}) (λ f. (shape_of f).id) (λ f x h. tt) (λ f h. refl)))

upto_written : (last : ℕ) → Written (item (UpTo last) NotInTable) (λ v. (1 ≤ v) × (v ≤ last)) (λ v. v ∷ [])
upto_written last = item-written (λ v. (1 ≤ v) × (v ≤ last)) (λ v. v) (λ v x h. (h.1, h.2)) (λ v h. (refl, h.0, h.1))

-- an index and a quantity that are in the table
abbrev SpanAllowed : ℕ → Span → Type 0
SpanAllowed last s = ((1 ≤ s.start) × (s.start ≤ last)) × ((1 ≤ s.quantity) × (s.quantity ≤ last + 1 - s.start))

span_written : (last : ℕ) → Written (span_in last) (SpanAllowed last) (λ s. s.start ∷ s.quantity ∷ [])
span_written last = seen-written (λ (s : Span). (s.start, s.quantity)) (then-written (upto_written last) (λ i. upto_written (last + 1 - i)))

abbrev pub SpansAllowed : ℕ → ℕ → Spans → Type 0
SpansAllowed last zero sp = SpanAllowed last sp.first × (sp.second ≡ no_second)
SpansAllowed last (suc n) sp = SpanAllowed last sp.first × SpanAllowed (suc n) sp.second

pub spans_written : (last second : ℕ) → Written (spans_in last second) (SpansAllowed last second) (spans_octets second)
spans_written last zero = held-written (λ (s : Spans). s.first) (λ s. s.second ≡ no_second) (span_written last)
spans_written last (suc n) = seen-written (λ (s : Spans). (s.first, s.second)) (then-written (span_written last) (λ u. span_written (suc n)))

span_allowed : (last : ℕ) (s : Span) → 1 ≤ s.start → 1 ≤ s.quantity → s.start + s.quantity ≤ last + 1 → SpanAllowed last s
span_allowed last s a b c = ((a, omega arith), (b, omega arith))

spans_allowed : (last second : ℕ) (sp : Spans) → SpanAllowed last sp.first → min 1 second ≤ sp.second.start → 1 ≤ sp.second.quantity → sp.second.start + sp.second.quantity ≤ second + 1
    → SpansAllowed last second sp
spans_allowed last zero sp a b c d =
    let start : sp.second.start ≡ 0 = omega arith in
    let quantity : sp.second.quantity ≡ 1 = omega arith in
    (a, (λ j. record { start = start j; quantity = quantity j }))
spans_allowed last (suc n) sp a b c d = (a, span_allowed (suc n) sp.second (omega arith) c d)

-- rows of the table can be written
pub in_table_allowed : (f : FamilyId) (sp : Spans) → InTable f sp → SpansAllowed (shape_of f).last_first (shape_of f).last_second sp
in_table_allowed f sp t =
    spans_allowed (shape_of f).last_first (shape_of f).last_second sp
    (span_allowed (shape_of f).last_first sp.first t.first_least t.first_some t.first_last)
    t.second_least t.second_some t.second_last

-- as many marks as octets
abbrev pub Marked : List ℕ → List (Unit {0}) → Type 0
Marked = EachOf (λ o u. Unit {0})

pub all_marked : (os : List ℕ) → Marked os (map (λ o. tt) os)
all_marked [] = tt
all_marked (o ∷ os) = (tt, all_marked os)

marked_octets : (os : List ℕ) (marks : List (Unit {0})) → Marked os marks → each_octets (λ o u. o ∷ []) os marks ≡ os
marked_octets [] marks h = refl
marked_octets (o ∷ os) [] h = absurd h
marked_octets (o ∷ os) (m ∷ marks) h = ap (λ t. o ∷ t) (marked_octets os marks h.1)

pub exactly-written : (os : List ℕ) → Written (exactly os) (Marked os) (λ marks. os)
exactly-written os =
    let w : Written (exactly os) (Marked os) (each_octets (λ o u. o ∷ []) os) = each-written (λ o. item-written (λ u. Unit {0}) (λ u. o) (λ u x h. tt) (λ u h. refl)) os in
    record {
      ok = w.ok;
      back = λ marks h before after. subst (λ t. (exactly os).Means (before ++ (t ++ after)) (length before) marks (length (before ++ t))) (marked_octets os marks h) (w.back marks h before after);
    }
