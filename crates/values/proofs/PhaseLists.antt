-- A list of phases: what its octets come to.
use Rattle.std.proofs.Common.{◌≡◌, ℕ, zero, suc, ◌-◌, ◌≤◌, List, ◌++◌, length, take, drop, replicate, sym, refl, ap, ◌∙◌, subst, arith, length-append, take_at, drop_at}
use lib.ListN.{length-replicate}
use Rattle.std.proofs.lemmas.Bool.{leb-true, and_parts}
use Rattle.tables.proofs.WidthFacts.{stored_allowed}
use Rattle.std.proofs.lemmas.List.{take-replicate, drop-replicate, take-append-drop}
use Rattle.tables.specs.declared.columns.Column.{Column}
use Rattle.values.specs.declared.phases.PhaseList.{PhaseList}
use Rattle.values.specs.declared.Fault.{Fault}
use Rattle.values.specs.declared.reader.Reader.{Reader}
use Rattle.values.specs.Reading.{Took, at_second, Decided, Written, Near, each_octets}
use Rattle.values.specs.Numbers.{number, numbers, octets, size, sizes, sent}
use Rattle.values.specs.Lists.{length_column, listing, listed, Padded, phases, ListAllowed, ListFits, list_octets}
use Rattle.values.proofs.Parts.{then_decided, then-written, then_near, each-length, each-written, held_decided, held-written, held_near, near_more}
use Rattle.values.proofs.Readers.{took_on, fault_on}
use Rattle.values.proofs.Number.{number_decided, number-written, number_near, octets-size}
use Rattle.values.proofs.Table.{numbers_decided, numbers_near, numbers_short}

abbrev made : ℕ × List ℕ → PhaseList
made p = record { len = p.0; phases = p.1 ++ replicate (16 - p.0) 0 }

made_fits : (n : ℕ) (xs : List ℕ) → length xs ≡ n → n ≤ 16 → (listed (made (n, xs)) ≡ (n, xs)) × Padded (made (n, xs))
made_fits n xs e few =
    (ap (λ t. (n, t)) (take_at xs (replicate (16 - n) 0) n e), (length-append xs (replicate (16 - n) 0) ∙ omega (arith, length-replicate {A = ℕ} (16 - n) 0), drop_at xs (replicate (16 - n) 0) n e))

same : (l m : PhaseList) → listed l ≡ listed m → Padded l → Padded m → l ≡ m
same l m e p q =
    let len : l.len ≡ m.len = ap (λ t. t.0) e in
    let front : take l.len l.phases ≡ take m.len m.phases = ap (λ t. t.1) e in
    let back : drop l.len l.phases ≡ drop m.len m.phases = p.1 ∙ ap (λ n. replicate (16 - n) 0) len ∙ sym q.1 in
    let all : l.phases ≡ m.phases = sym (take-append-drop l.len l.phases) ∙ (λ j. front j ++ back j) ∙ take-append-drop m.len m.phases in
    (λ j. record { len = len j; phases = all j })

-- a length that was read is at most 16
pub length_few : (s : List ℕ) (i n j : ℕ) → (number length_column).Means s i n j → n ≤ 16
length_few s i n j h = omega (arith, leb-true n 16 (and_parts _ _ (stored_allowed length_column (sent length_column s i) n h.is)).1)

module _ (c : Column) where
  fits : (s : List ℕ) (i : ℕ) (p : ℕ × List ℕ) (j : ℕ) → (listing c).Means s i p j → (listed (made p) ≡ p) × Padded (made p)
  fits s i p j h =
      made_fits p.0 p.1 (each-length number (replicate p.0 c) s h.mid p.1 j h.two ∙ length-replicate p.0 c) (length_few s i p.0 h.mid h.one)

  pub phases_decided : Decided (phases c)
  phases_decided = held_decided listed Padded (then_decided (number_decided length_column) (λ n. numbers_decided (replicate n c))) made fits same

  pub phases-written : Written (phases c) (ListAllowed c) (list_octets c)
  phases-written = held-written listed Padded (then-written (number-written length_column) (λ n. each-written number-written (replicate n c)))

  sizes_same : (n : ℕ) → size c ≡ 1 → sizes (replicate n c) ≡ n
  sizes_same zero e = refl
  sizes_same (suc n) e = omega (arith, e, sizes_same n e)

  pub phases_near : size c ≡ 1 → Near (phases c) 17
  phases_near e =
      held_near listed Padded
      (then_near {m = 1} {n = 16} (number_near length_column)
      (λ s i n mid h. near_more (omega (arith, sizes_same n e, length_few s i n mid h)) (numbers_near (replicate n c))))

  pub list_short : size c ≡ 1 → (l : PhaseList) → ListFits c l → length (list_octets c l) ≤ 17
  list_short e l f =
      omega (arith, length-append (octets length_column l.len) (each_octets octets (replicate l.len c) (take l.len l.phases)), octets-size length_column l.len, numbers_short (replicate l.len c) (take l.len l.phases), sizes_same l.len e, f.0)

  -- the first octets' columns
  pub columns_are : (n : ℕ) → n ≤ 16 → take n (replicate 16 c) ≡ replicate n c
  columns_are n few = take-replicate n 16 c few

  pub room_for : (n : ℕ) → n ≤ 16 → size c ≡ 1 → sizes (take n (replicate 16 c)) ≤ 16
  room_for n few e = omega (arith, ap sizes (columns_are n few), sizes_same n e)

  module _ (b a : Reader) (len : ℕ) (h : Took (number length_column) b a len) where
    pub list_read : (xs : List ℕ) (z : Reader) → Took (numbers (take len (replicate 16 c))) a z xs
        → Took (phases c) b z (record { len = len; phases = xs ++ drop len (replicate 16 0) })
    list_read xs z t =
        let s = b.octets.now in
        let few = length_few s b.at len a.at h.means in
        let two = took_on b h.same (subst (λ cs. Took (numbers cs) a z xs) (columns_are len few) t) in
        let f = made_fits len xs (each-length number (replicate len c) s a.at xs z.at two.means ∙ length-replicate len c) few in
        record {
          same = two.same;
          means =
              subst (λ z'. (phases c).Means s b.at (record { len = len; phases = xs ++ z' }) z.at) (sym (drop-replicate len 16 0))
              (subst (λ p. (listing c).Means s b.at p z.at) (sym f.0) (record { mid = a.at; one = h.means; two = two.means }), f.1);
        }

    pub list-faulty : (w : Fault) → (numbers (take len (replicate 16 c))).Faults a.octets.now a.at w → (phases c).Faults b.octets.now b.at w
    list-faulty w f =
        at_second len a.at h.means
        (fault_on (numbers (replicate len c)) b a h.same w (subst (λ cs. (numbers cs).Faults a.octets.now a.at w) (columns_are len (length_few b.octets.now b.at len a.at h.means)) f))
