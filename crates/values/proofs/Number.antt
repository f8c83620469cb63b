-- A number: what its octets come to.
use Rattle.std.proofs.Common.{◌≡◌, ℕ, ◌+◌, ◌-◌, ◌*◌, ◌/◌, ◌%◌, ◌≤◌, Bool, true, false, cond, eqb, ◌⊎◌, List, [], ◌∷◌, ◌++◌, length, get_or, Some, None, Option, sym, refl, ap, ◌∙◌, subst, inl, inr, ⊎_elim, append_assoc, arith, length-append}
use Rattle.std.proofs.lemmas.List.{get_or_at}
use Rattle.std.proofs.lemmas.Bool.{cond-true, cond-false, and_parts, not-true, cases_lt}
use Rattle.tables.specs.declared.columns.Column.{Column}
use Rattle.tables.specs.declared.columns.Kind.{Kind}
use Rattle.tables.specs.declared.columns.Kind.TheVariants.{Number, DetectorOptions, ActionPattern, PhaseList}
use Rattle.tables.specs.Allowed.{allows, stored, kind_means, kind_allows, both_set}
use Rattle.tables.proofs.WidthFacts.{stored_allowed}
use Rattle.values.specs.declared.Fault.{Fault}
use Rattle.values.specs.declared.Fault.TheVariants.{NotAllowed, Missing}
use Rattle.values.specs.Reading.{Decided, Written, Near, place_in}
use Rattle.values.specs.Numbers.{size, sent, NumberMeans, NumberFaults, bad, gone, number, Allowed, octets}

some_or_none : (o : Option ℕ) → ((v : ℕ) × (o ≡ Some v)) ⊎ (o ≡ None)
some_or_none (Some v) = inl (v, refl)
some_or_none None = inr refl

judged : (c : Column) (s : List ℕ) (i : ℕ) → ((v : ℕ) × (j : ℕ) × NumberMeans c s i v j) ⊎ ((w : Fault) × NumberFaults c s i w)
judged c s i =
    ⊎_elim (λ h. inr (Missing, gone h refl))
    (λ h. ⊎_elim
    (λ ok. inl (ok.0, i + size c, record { there = h; is = ok.1; takes = refl }))
    (λ no. inr (NotAllowed i, bad h no refl))
    (some_or_none (stored c (sent c s i))))
    (cases_lt (length s) (i + size c))

one_fault : (c : Column) (s : List ℕ) (i : ℕ) (v w : Fault) → NumberFaults c s i v → NumberFaults c s i w → v ≡ w
one_fault c s i v w (bad l f e) (bad m g h) = e ∙ sym h
one_fault c s i v w (bad l f e) (gone m h) = absurd (omega arith)
one_fault c s i v w (gone l e) (bad m g h) = absurd (omega arith)
one_fault c s i v w (gone l e) (gone m h) = e ∙ sym h

not_both : (c : Column) (s : List ℕ) (i r n : ℕ) (w : Fault) → NumberMeans c s i r n → NumberFaults c s i w → ⊥
not_both c s i r n w h (bad l f e) = let x : stored c (sent c s i) ≡ Some r = h.is in let z : ◌≡◌ {A = ℕ} 0 1 = cc in omega arith
not_both c s i r n w h (gone l e) = omega (arith, h.there)

same_value : (c : Column) (s : List ℕ) (i r q j k : ℕ) → NumberMeans c s i r j → NumberMeans c s i q k → r ≡ q
same_value c s i r q j k h g = let x : stored c (sent c s i) ≡ Some r = h.is in let y : stored c (sent c s i) ≡ Some q = g.is in cc

pub number_decided : (c : Column) → Decided (number c)
number_decided c = record {
  judged = judged c;
  one_row = λ s i r q j k h g. (same_value c s i r q j k h g, h.takes ∙ sym g.takes);
  one_fault = one_fault c;
  not_both = not_both c;
  within = λ s i r j l h. omega (arith, h.takes, h.there);
}

fault_near : (c : Column) (s : List ℕ) (i : ℕ) (w : Fault) → NumberFaults c s i w → place_in (length s) w ≤ i + size c
fault_near c s i w (bad l f e) = omega (arith, ap (place_in (length s)) e)
fault_near c s i w (gone l e) = omega (arith, ap (place_in (length s)) e)

pub number_near : (c : Column) → Near (number c) (size c)
number_near c = record { reach = λ s i r j h. omega (arith, h.takes); fault = fault_near c }

-- an allowed value means itself
means_itself : (k : Kind) (c : Column) (v : ℕ) → kind_allows k c v ≡ true → kind_means k v ≡ v
means_itself Number c v h = refl
means_itself DetectorOptions c v h = cond-false (both_set v) (v - 8) v (not-true (both_set v) (and_parts _ _ h).1)
means_itself ActionPattern c v h = refl
means_itself PhaseList c v h = refl

pub allowed_stored : (c : Column) (v : ℕ) → allows c v ≡ true → stored c v ≡ Some v
allowed_stored c v h =
    let e = means_itself c.kind c v h in
    cond-true _ _ _ (ap (allows c) e ∙ h) ∙ ap Some e

at_end : (before : List ℕ) (x : ℕ) (after : List ℕ) → get_or (before ++ x ∷ after) (length before) 0 ≡ x
at_end before x after = get_or_at before x after 0 (length before) refl

after_end : (before : List ℕ) (x y : ℕ) (after : List ℕ) → get_or (before ++ x ∷ y ∷ after) (length before + 1) 0 ≡ y
after_end before x y after =
    ap (λ n. get_or (before ++ x ∷ y ∷ after) n 0) (sym (length-append before (x ∷ []))) ∙ ap (λ l. get_or l (length (before ++ x ∷ [])) 0) (sym (append_assoc before (x ∷ []) (y ∷ after))) ∙ at_end (before ++ x ∷ []) y after

number_back : (c : Column) (wide : Bool) (v : ℕ) (before after : List ℕ) → eqb c.width 2 ≡ wide → Allowed c v → NumberMeans c (before ++ (octets c v ++ after)) (length before) v (length (before ++ octets c v))
number_back c true v before after e ok =
    let two : octets c v ≡ v / 256 ∷ v % 256 ∷ [] = ap (λ b. cond b (v / 256 ∷ v % 256 ∷ []) (v ∷ [])) e in
    let n : size c ≡ 2 = ap (λ b. cond b 2 1) e in
    let s = before ++ (v / 256 ∷ v % 256 ∷ after) in
    let is : sent c s (length before) ≡ v =
    ap (λ b. cond b (get_or s (length before) 0 * 256 + get_or s (length before + 1) 0) (get_or s (length before) 0)) e
    ∙ omega (arith, at_end before (v / 256) (v % 256 ∷ after), after_end before (v / 256) (v % 256) after) in
    subst (λ os. NumberMeans c (before ++ (os ++ after)) (length before) v (length (before ++ os))) (sym two)
    (record {
      there = omega (arith, length-append before (v / 256 ∷ v % 256 ∷ after), n);
      is = ap (stored c) is ∙ allowed_stored c v ok;
      takes = length-append before (v / 256 ∷ v % 256 ∷ []) ∙ omega (arith, n);
    })
number_back c false v before after e ok =
    let one : octets c v ≡ v ∷ [] = ap (λ b. cond b (v / 256 ∷ v % 256 ∷ []) (v ∷ [])) e in
    let n : size c ≡ 1 = ap (λ b. cond b 2 1) e in
    let s = before ++ (v ∷ after) in
    let is : sent c s (length before) ≡ v =
    ap (λ b. cond b (get_or s (length before) 0 * 256 + get_or s (length before + 1) 0) (get_or s (length before) 0)) e ∙ at_end before v after in
    subst (λ os. NumberMeans c (before ++ (os ++ after)) (length before) v (length (before ++ os))) (sym one)
    (record {
      there = omega (arith, length-append before (v ∷ after), n);
      is = ap (stored c) is ∙ allowed_stored c v ok;
      takes = length-append before (v ∷ []) ∙ omega (arith, n);
    })

pub number-written : (c : Column) → Written (number c) (Allowed c) (octets c)
number-written c = record {
  ok = λ s i v j h. stored_allowed c (sent c s i) v h.is;
  back = λ v ok before after. number_back c (eqb c.width 2) v before after refl ok;
}

octets_by : (b : Bool) (v : ℕ) → length (cond b (v / 256 ∷ v % 256 ∷ []) (v ∷ [])) ≡ cond b 2 1
octets_by true v = refl
octets_by false v = refl

pub octets-size : (c : Column) (v : ℕ) → length (octets c v) ≡ size c
octets-size c v = octets_by (eqb c.width 2) v
