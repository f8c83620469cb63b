-- Parts one after the other: each combinator keeps what holds of its parts.
use Rattle.std.proofs.Common.{◌≡◌, ℕ, zero, suc, ◌+◌, ◌*◌, ◌<◌, ◌≤◌, ◌⊎◌, List, [], ◌∷◌, ◌++◌, length, get_or, take, drop, replicate, sym, refl, ap, ◌∙◌, subst, inl, inr, ⊎_elim, append_assoc, append-nil, suc-mul, arith, length-append}
use Rattle.std.proofs.lemmas.Bool.{cases_lt}
use Rattle.values.specs.declared.Fault.{Fault}
use Rattle.values.specs.declared.Fault.TheVariants.{Over, Missing}
use Rattle.values.specs.Reading.{Reading, ThenMeans, ThenFaults, at_first, at_second, then, EachMeans, EachFaults, each, held, seen, whole, WholeFaults, in_part, over, Decided, Written, Near, EachOf, each_octets, total, item, ItemMeans, ItemFaults, bad, gone, place_in}

module _ {A B : Type 0} {first : Reading A} {second : A → Reading B} (one : Decided first) (two : (a : A) → Decided (second a)) where
  then_judged : (s : List ℕ) (i : ℕ) → ((p : A × B) × (j : ℕ) × ThenMeans first second s i p j) ⊎ ((w : Fault) × ThenFaults first second s i w)
  then_judged s i =
      ⊎_elim
      (λ h. ⊎_elim
      (λ k. inl ((h.0, k.0), k.1, record { mid = h.1; one = h.2; two = k.2 }))
      (λ f. inr (f.0, at_second h.0 h.1 h.2 f.1))
      ((two h.0).judged s h.1))
      (λ f. inr (f.0, at_first f.1))
      (one.judged s i)

  then_one_row : (s : List ℕ) (i : ℕ) (p q : A × B) (j l : ℕ) → ThenMeans first second s i p j → ThenMeans first second s i q l → (p ≡ q) × (j ≡ l)
  then_one_row s i p q j l h k =
      let e = one.one_row s i p.0 q.0 h.mid k.mid h.one k.one in
      let f = (two q.0).one_row s k.mid p.1 q.1 j l (subst (λ a. (second a).Means s k.mid p.1 j) e.0 (subst (λ m. (second p.0).Means s m p.1 j) e.1 h.two)) k.two in
      ((λ x. (e.0 x, f.0 x)), f.1)

  then_not_both : (s : List ℕ) (i : ℕ) (p : A × B) (j : ℕ) (w : Fault) → ThenMeans first second s i p j → ThenFaults first second s i w → ⊥
  then_not_both s i p j w h (at_first f) = one.not_both s i p.0 h.mid w h.one f
  then_not_both s i p j w h (at_second a m k f) =
      let e = one.one_row s i p.0 a h.mid m h.one k in
      (two a).not_both s m p.1 j w (subst (λ x. (second x).Means s m p.1 j) e.0 (subst (λ l. (second p.0).Means s l p.1 j) e.1 h.two)) f

  then_one_fault : (s : List ℕ) (i : ℕ) (v w : Fault) → ThenFaults first second s i v → ThenFaults first second s i w → v ≡ w
  then_one_fault s i v w (at_first f) (at_first g) = one.one_fault s i v w f g
  then_one_fault s i v w (at_first f) (at_second a m k g) = absurd (one.not_both s i a m v k f)
  then_one_fault s i v w (at_second a m k g) (at_first f) = absurd (one.not_both s i a m w k f)
  then_one_fault s i v w (at_second a m h f) (at_second b n k g) =
      let e = one.one_row s i a b m n h k in
      (two b).one_fault s n v w (subst (λ l. (second b).Faults s l v) e.1 (subst (λ c. (second c).Faults s m v) e.0 f)) g

  pub then_decided : Decided (then first second)
  then_decided = record {
    judged = then_judged;
    one_row = then_one_row;
    one_fault = then_one_fault;
    not_both = then_not_both;
    within = λ s i p j l h. (two p.0).within s h.mid p.1 j (one.within s i p.0 h.mid l h.one) h.two;
  }

module _ {A B : Type 0} {first : Reading A} {second : A → Reading B} {okA : A → Type 0} {okB : A → B → Type 0} {octA : A → List ℕ} {octB : A → B → List ℕ} (one : Written first okA octA) (two : (a : A) → Written (second a) (okB a) (octB a)) where
  pub then-written : Written (then first second) (λ p. okA p.0 × okB p.0 p.1) (λ p. octA p.0 ++ octB p.0 p.1)
  then-written = record {
    ok = λ s i p j h. (one.ok s i p.0 h.mid h.one, (two p.0).ok s h.mid p.1 j h.two);
    back = λ p ok before after.
        let a = octA p.0 in
        let b = octB p.0 p.1 in
        let e : before ++ (a ++ (b ++ after)) ≡ before ++ ((a ++ b) ++ after) = ap (λ t. before ++ t) (sym (append_assoc a b after)) in
        record {
          mid = length (before ++ a);
          one = subst (λ t. first.Means t (length before) p.0 (length (before ++ a))) e (one.back p.0 ok.0 before (b ++ after));
          two = subst (λ t. (second p.0).Means t (length (before ++ a)) p.1 (length (before ++ (a ++ b)))) (append_assoc before a (b ++ after) ∙ e)
              (subst (λ t. (second p.0).Means ((before ++ a) ++ (b ++ after)) (length (before ++ a)) p.1 (length t)) (append_assoc before a b) ((two p.0).back p.1 ok.1 (before ++ a) after));
        };
  }

module _ {C R : Type 0} {part : C → Reading R} (all : (c : C) → Decided (part c)) where
  each_judged : (cs : List C) (s : List ℕ) (i : ℕ) → ((xs : List R) × (j : ℕ) × EachMeans part cs s i xs j) ⊎ ((w : Fault) × EachFaults part cs s i w)
  each_judged [] s i = inl ([], i, refl)
  each_judged (c ∷ cs) s i =
      ⊎_elim
      (λ h. ⊎_elim (λ k. inl (h.0 ∷ k.0, k.1, (h.1, h.2, k.2))) (λ f. inr (f.0, inr (h.0, h.1, h.2, f.1))) (each_judged cs s h.1))
      (λ f. inr (f.0, inl f.1))
      ((all c).judged s i)

  each_one_row : (cs : List C) (s : List ℕ) (i : ℕ) (xs ys : List R) (j l : ℕ) → EachMeans part cs s i xs j → EachMeans part cs s i ys l → (xs ≡ ys) × (j ≡ l)
  each_one_row [] s i [] [] j l h k = (refl, h ∙ sym k)
  each_one_row [] s i [] (y ∷ ys) j l h k = absurd k
  each_one_row [] s i (x ∷ xs) ys j l h k = absurd h
  each_one_row (c ∷ cs) s i [] ys j l h k = absurd h
  each_one_row (c ∷ cs) s i (x ∷ xs) [] j l h k = absurd k
  each_one_row (c ∷ cs) s i (x ∷ xs) (y ∷ ys) j l h k =
      let e = (all c).one_row s i x y h.0 k.0 h.1 k.1 in
      let f = each_one_row cs s k.0 xs ys j l (subst (λ m. EachMeans part cs s m xs j) e.1 h.2) k.2 in
      ((λ t. e.0 t ∷ f.0 t), f.1)

  each_not_both : (cs : List C) (s : List ℕ) (i : ℕ) (xs : List R) (j : ℕ) (w : Fault) → EachMeans part cs s i xs j → EachFaults part cs s i w → ⊥
  each_not_both [] s i xs j w h f = f
  each_not_both (c ∷ cs) s i [] j w h f = h
  each_not_both (c ∷ cs) s i (x ∷ xs) j w h (inl f) = (all c).not_both s i x h.0 w h.1 f
  each_not_both (c ∷ cs) s i (x ∷ xs) j w h (inr f) =
      let e = (all c).one_row s i x f.0 h.0 f.1 h.1 f.2 in
      each_not_both cs s f.1 xs j w (subst (λ m. EachMeans part cs s m xs j) e.1 h.2) f.3

  each_one_fault : (cs : List C) (s : List ℕ) (i : ℕ) (v w : Fault) → EachFaults part cs s i v → EachFaults part cs s i w → v ≡ w
  each_one_fault [] s i v w f g = absurd f
  each_one_fault (c ∷ cs) s i v w (inl f) (inl g) = (all c).one_fault s i v w f g
  each_one_fault (c ∷ cs) s i v w (inl f) (inr g) = absurd ((all c).not_both s i g.0 g.1 v g.2 f)
  each_one_fault (c ∷ cs) s i v w (inr f) (inl g) = absurd ((all c).not_both s i f.0 f.1 w f.2 g)
  each_one_fault (c ∷ cs) s i v w (inr f) (inr g) =
      let e = (all c).one_row s i f.0 g.0 f.1 g.1 f.2 g.2 in
      each_one_fault cs s g.1 v w (subst (λ m. EachFaults part cs s m v) e.1 f.3) g.3

  each_within : (cs : List C) (s : List ℕ) (i : ℕ) (xs : List R) (j : ℕ) → i ≤ length s → EachMeans part cs s i xs j → j ≤ length s
  each_within [] s i [] j l h = omega arith
  each_within [] s i (x ∷ xs) j l h = absurd h
  each_within (c ∷ cs) s i [] j l h = absurd h
  each_within (c ∷ cs) s i (x ∷ xs) j l h = each_within cs s h.0 xs j ((all c).within s i x h.0 l h.1) h.2

  pub each_decided : (cs : List C) → Decided (each part cs)
  each_decided cs = record {
    judged = each_judged cs;
    one_row = each_one_row cs;
    one_fault = each_one_fault cs;
    not_both = each_not_both cs;
    within = each_within cs;
  }

module _ {C R : Type 0} (part : C → Reading R) where
  -- what is meant by the first columns and what is meant by the rest
  pub each_append : (cs ds : List C) (s : List ℕ) (i : ℕ) (xs ys : List R) (j k : ℕ) → EachMeans part cs s i xs j → EachMeans part ds s j ys k → EachMeans part (cs ++ ds) s i (xs ++ ys) k
  each_append [] ds s i [] ys j k h g = subst (λ m. EachMeans part ds s m ys k) h g
  each_append [] ds s i (x ∷ xs) ys j k h g = absurd h
  each_append (c ∷ cs) ds s i [] ys j k h g = absurd h
  each_append (c ∷ cs) ds s i (x ∷ xs) ys j k h g = (h.0, h.1, each_append cs ds s h.0 xs ys j k h.2 g)

  -- what is wrong after the first columns
  pub each_after : (cs ds : List C) (s : List ℕ) (i : ℕ) (xs : List R) (j : ℕ) (w : Fault) → EachMeans part cs s i xs j → EachFaults part ds s j w → EachFaults part (cs ++ ds) s i w
  each_after [] ds s i [] j w h f = subst (λ m. EachFaults part ds s m w) h f
  each_after [] ds s i (x ∷ xs) j w h f = absurd h
  each_after (c ∷ cs) ds s i [] j w h f = absurd h
  each_after (c ∷ cs) ds s i (x ∷ xs) j w h f = inr (x, h.0, h.1, each_after cs ds s h.0 xs j w h.2 f)

  pub each-length : (cs : List C) (s : List ℕ) (i : ℕ) (xs : List R) (j : ℕ) → EachMeans part cs s i xs j → length xs ≡ length cs
  each-length [] s i [] j h = refl
  each-length [] s i (x ∷ xs) j h = absurd h
  each-length (c ∷ cs) s i [] j h = absurd h
  each-length (c ∷ cs) s i (x ∷ xs) j h = ap suc (each-length cs s h.0 xs j h.2)

module _ {C R : Type 0} {part : C → Reading R} {allowed : C → R → Type 0} {octets : C → R → List ℕ} (all : (c : C) → Written (part c) (allowed c) (octets c)) where
  each_ok : (cs : List C) (s : List ℕ) (i : ℕ) (xs : List R) (j : ℕ) → EachMeans part cs s i xs j → EachOf allowed cs xs
  each_ok [] s i [] j h = tt
  each_ok [] s i (x ∷ xs) j h = h
  each_ok (c ∷ cs) s i [] j h = h
  each_ok (c ∷ cs) s i (x ∷ xs) j h = ((all c).ok s i x h.0 h.1, each_ok cs s h.0 xs j h.2)

  each_back : (cs : List C) (xs : List R) → EachOf allowed cs xs → (before after : List ℕ) → EachMeans part cs (before ++ (each_octets octets cs xs ++ after)) (length before) xs (length (before ++ each_octets octets cs xs))
  each_back [] [] ok before after = ap length (append-nil before)
  each_back [] (x ∷ xs) ok before after = ok
  each_back (c ∷ cs) [] ok before after = ok
  each_back (c ∷ cs) (x ∷ xs) ok before after =
      let a = octets c x in
      let b = each_octets octets cs xs in
      let e : before ++ (a ++ (b ++ after)) ≡ before ++ ((a ++ b) ++ after) = ap (λ t. before ++ t) (sym (append_assoc a b after)) in (
        length (before ++ a),
        subst (λ t. (part c).Means t (length before) x (length (before ++ a))) e ((all c).back x ok.0 before (b ++ after)),
        subst (λ t. EachMeans part cs t (length (before ++ a)) xs (length (before ++ (a ++ b)))) (append_assoc before a (b ++ after) ∙ e)
            (subst (λ t. EachMeans part cs ((before ++ a) ++ (b ++ after)) (length (before ++ a)) xs (length t)) (append_assoc before a b) (each_back cs xs ok.1 (before ++ a) after)),
      )

  pub each-written : (cs : List C) → Written (each part cs) (EachOf allowed cs) (each_octets octets cs)
  each-written cs = record { ok = each_ok cs; back = each_back cs }

module _ {Q R : Type 0} {rd : Reading R} (of : Q → R) (Held : Q → Type 0) where
  pub held_decided : Decided rd → (made : R → Q) → ((s : List ℕ) (i : ℕ) (r : R) (j : ℕ) → rd.Means s i r j → (of (made r) ≡ r) × Held (made r))
      → ((q p : Q) → of q ≡ of p → Held q → Held p → q ≡ p) → Decided (held of Held rd)
  held_decided d made fits same = record {
    judged = λ s i. ⊎_elim
        (λ h. let f = fits s i h.0 h.1 h.2 in inl (made h.0, h.1, (subst (λ r. rd.Means s i r h.1) (sym f.0) h.2, f.1)))
        inr (d.judged s i);
    one_row = λ s i q p j l h k. let e = d.one_row s i (of q) (of p) j l h.0 k.0 in (same q p e.0 h.1 k.1, e.1);
    one_fault = d.one_fault;
    not_both = λ s i q j w h f. d.not_both s i (of q) j w h.0 f;
    within = λ s i q j l h. d.within s i (of q) j l h.0;
  }

  pub held-written : {allowed : R → Type 0} {octets : R → List ℕ} → Written rd allowed octets → Written (held of Held rd) (λ q. allowed (of q) × Held q) (λ q. octets (of q))
  held-written w = record {
    ok = λ s i q j h. (w.ok s i (of q) j h.0, h.1);
    back = λ q ok before after. (w.back (of q) ok.0 before after, ok.1);
  }

module _ {Q R : Type 0} {rd : Reading R} (of : Q → R) where
  pub seen_decided : Decided rd → (made : R → Q) → ((r : R) → of (made r) ≡ r) → ((q : Q) → made (of q) ≡ q) → Decided (seen of rd)
  seen_decided d made there back = record {
    judged = λ s i. ⊎_elim (λ h. inl (made h.0, h.1, subst (λ r. rd.Means s i r h.1) (sym (there h.0)) h.2)) inr (d.judged s i);
    one_row = λ s i q p j l h k. let e = d.one_row s i (of q) (of p) j l h k in (sym (back q) ∙ ap made e.0 ∙ back p, e.1);
    one_fault = d.one_fault;
    not_both = λ s i q. d.not_both s i (of q);
    within = λ s i q. d.within s i (of q);
  }

  pub seen-written : {allowed : R → Type 0} {octets : R → List ℕ} → Written rd allowed octets → Written (seen of rd) (λ q. allowed (of q)) (λ q. octets (of q))
  seen-written w = record { ok = λ s i q. w.ok s i (of q); back = λ q. w.back (of q) }

module _ {R : Type 0} {rd : Reading R} (d : Decided rd) where
  whole_judged : (s : List ℕ) (i : ℕ) → ((r : R) × (j : ℕ) × (whole rd).Means s i r j) ⊎ ((w : Fault) × WholeFaults rd s i w)
  whole_judged s i =
      ⊎_elim
      (λ h. ⊎_elim (λ l. inr (Over h.1, over h.0 h.1 h.2 l refl)) (λ l. inl (h.0, h.1, (h.2, l))) (cases_lt h.1 (length s)))
      (λ f. inr (f.0, in_part f.1))
      (d.judged s i)

  whole_one_fault : (s : List ℕ) (i : ℕ) (v w : Fault) → WholeFaults rd s i v → WholeFaults rd s i w → v ≡ w
  whole_one_fault s i v w (in_part f) (in_part g) = d.one_fault s i v w f g
  whole_one_fault s i v w (in_part f) (over r j h l e) = absurd (d.not_both s i r j v h f)
  whole_one_fault s i v w (over r j h l e) (in_part f) = absurd (d.not_both s i r j w h f)
  whole_one_fault s i v w (over r j h l e) (over q m k n g) = e ∙ ap Over (d.one_row s i r q j m h k).1 ∙ sym g

  whole_not_both : (s : List ℕ) (i : ℕ) (r : R) (j : ℕ) (w : Fault) → (whole rd).Means s i r j → WholeFaults rd s i w → ⊥
  whole_not_both s i r j w h (in_part f) = d.not_both s i r j w h.0 f
  whole_not_both s i r j w h (over q m k l e) = omega (arith, h.1, l, (d.one_row s i r q j m h.0 k).1)

  pub whole_decided : Decided (whole rd)
  whole_decided = record {
    judged = whole_judged;
    one_row = λ s i r q j m h k. d.one_row s i r q j m h.0 k.0;
    one_fault = whole_one_fault;
    not_both = whole_not_both;
    within = λ s i r j l h. d.within s i r j l h.0;
  }

-- an octet that stands for one of A: decided where it can be told whether it does, and for one only
module _ {A : Type 0} {Is : A → ℕ → Type 0} {fault : ℕ → Fault} where
  item_judged : ((x : ℕ) → ((a : A) × Is a x) ⊎ ((a : A) → Is a x → ⊥)) → (s : List ℕ) (i : ℕ) → ((a : A) × (j : ℕ) × ItemMeans Is s i a j) ⊎ ((w : Fault) × ItemFaults Is fault s i w)
  item_judged find s i =
      ⊎_elim
      (λ l. ⊎_elim (λ f. inl (f.0, i + 1, record { there = l; is = f.1; takes = refl })) (λ f. inr (fault i, bad l f refl)) (find (get_or s i 0)))
      (λ l. inr (Missing, gone l refl))
      (cases_lt i (length s))

  item_one_fault : (s : List ℕ) (i : ℕ) (v w : Fault) → ItemFaults Is fault s i v → ItemFaults Is fault s i w → v ≡ w
  item_one_fault s i v w (bad l f e) (bad m g h) = e ∙ sym h
  item_one_fault s i v w (bad l f e) (gone m h) = absurd (omega arith)
  item_one_fault s i v w (gone l e) (bad m g h) = absurd (omega arith)
  item_one_fault s i v w (gone l e) (gone m h) = e ∙ sym h

  item_not_both : (s : List ℕ) (i : ℕ) (a : A) (j : ℕ) (w : Fault) → ItemMeans Is s i a j → ItemFaults Is fault s i w → ⊥
  item_not_both s i a j w h (bad l f e) = f a h.is
  item_not_both s i a j w h (gone l e) = omega (arith, h.there)

  pub item_decided : ((x : ℕ) → ((a : A) × Is a x) ⊎ ((a : A) → Is a x → ⊥)) → ((a b : A) (x : ℕ) → Is a x → Is b x → a ≡ b) → Decided (item Is fault)
  item_decided find one = record {
    judged = item_judged find;
    one_row = λ s i a b j k h g. (one a b (get_or s i 0) h.is g.is, h.takes ∙ sym g.takes);
    one_fault = item_one_fault;
    not_both = item_not_both;
    within = λ s i a j l h. omega (arith, h.takes, h.there);
  }

  item_fault_near : ((n k : ℕ) → place_in n (fault k) ≡ k) → (s : List ℕ) (i : ℕ) (w : Fault) → ItemFaults Is fault s i w → place_in (length s) w ≤ i + 1
  item_fault_near at s i w (bad l f e) = omega (arith, ap (place_in (length s)) e, at (length s) i)
  item_fault_near at s i w (gone l e) = omega (arith, ap (place_in (length s)) e)

  pub item_near : ((n k : ℕ) → place_in n (fault k) ≡ k) → Near (item Is fault) 1
  item_near at = record { reach = λ s i a j h. omega (arith, h.takes); fault = item_fault_near at }

module _ {A B : Type 0} {first : Reading A} {second : A → Reading B} {m n : ℕ} (one : Near first m) (two : (s : List ℕ) (i : ℕ) (a : A) (mid : ℕ) → first.Means s i a mid → Near (second a) n) where
  then_fault_near : (s : List ℕ) (i : ℕ) (w : Fault) → ThenFaults first second s i w → place_in (length s) w ≤ i + (m + n)
  then_fault_near s i w (at_first f) = omega (arith, one.fault s i w f)
  then_fault_near s i w (at_second a mid h f) = omega (arith, one.reach s i a mid h, (two s i a mid h).fault s mid w f)

  pub then_near : Near (then first second) (m + n)
  then_near = record {
    reach = λ s i p j h. omega (arith, one.reach s i p.0 h.mid h.one, (two s i p.0 h.mid h.one).reach s h.mid p.1 j h.two);
    fault = then_fault_near;
  }

module _ {C R : Type 0} {part : C → Reading R} {most : C → ℕ} (all : (c : C) → Near (part c) (most c)) where
  each_reach : (cs : List C) (s : List ℕ) (i : ℕ) (xs : List R) (j : ℕ) → EachMeans part cs s i xs j → j ≤ i + total most cs
  each_reach [] s i [] j h = omega arith
  each_reach [] s i (x ∷ xs) j h = absurd h
  each_reach (c ∷ cs) s i [] j h = absurd h
  each_reach (c ∷ cs) s i (x ∷ xs) j h = omega (arith, (all c).reach s i x h.0 h.1, each_reach cs s h.0 xs j h.2)

  each_fault_near : (cs : List C) (s : List ℕ) (i : ℕ) (w : Fault) → EachFaults part cs s i w → place_in (length s) w ≤ i + total most cs
  each_fault_near [] s i w f = absurd f
  each_fault_near (c ∷ cs) s i w (inl f) = omega (arith, (all c).fault s i w f)
  each_fault_near (c ∷ cs) s i w (inr f) = omega (arith, (all c).reach s i f.0 f.1 f.2, each_fault_near cs s f.1 w f.3)

  pub each_near : (cs : List C) → Near (each part cs) (total most cs)
  each_near cs = record { reach = each_reach cs; fault = each_fault_near cs }

pub near_more : {R : Type 0} {rd : Reading R} {m n : ℕ} → m ≤ n → Near rd m → Near rd n
near_more l h = record { reach = λ s i r j k. omega (arith, h.reach s i r j k); fault = λ s i w k. omega (arith, h.fault s i w k) }

pub seen_near : {Q R : Type 0} {rd : Reading R} {m : ℕ} (of : Q → R) → Near rd m → Near (seen of rd) m
seen_near of h = record { reach = λ s i q j k. h.reach s i (of q) j k; fault = h.fault }

pub held_near : {Q R : Type 0} {rd : Reading R} {m : ℕ} (of : Q → R) (Held : Q → Type 0) → Near rd m → Near (held of Held rd) m
held_near of Held h = record { reach = λ s i q j k. h.reach s i (of q) j k.0; fault = h.fault }

whole_fault_near : {R : Type 0} {rd : Reading R} {m : ℕ} → Near rd m → (s : List ℕ) (i : ℕ) (w : Fault) → WholeFaults rd s i w → place_in (length s) w ≤ i + m
whole_fault_near h s i w (in_part f) = h.fault s i w f
whole_fault_near h s i w (over r j k l e) = omega (arith, ap (place_in (length s)) e, h.reach s i r j k)

pub whole_near : {R : Type 0} {rd : Reading R} {m : ℕ} → Near rd m → Near (whole rd) m
whole_near h = record { reach = λ s i r j k. h.reach s i r j k.0; fault = whole_fault_near h }

pub total_same : (m q : ℕ) → total (λ (u : ℕ). m) (replicate q 0) ≡ q * m
total_same m zero = omega arith
total_same m (suc q) = omega (arith, total_same m q, suc-mul q m)

-- what holds of each value and its column holds of two lists one after the other, and of their parts
module _ {C R : Type 0} (P : C → R → Type 0) where
  pub each_of_length : (cs : List C) (xs : List R) → EachOf P cs xs → length xs ≡ length cs
  each_of_length [] [] h = refl
  each_of_length [] (x ∷ xs) h = absurd h
  each_of_length (c ∷ cs) [] h = absurd h
  each_of_length (c ∷ cs) (x ∷ xs) h = ap suc (each_of_length cs xs h.1)

  pub each_of_append : (cs ds : List C) (xs ys : List R) → EachOf P cs xs → EachOf P ds ys → EachOf P (cs ++ ds) (xs ++ ys)
  each_of_append [] ds [] ys h g = g
  each_of_append [] ds (x ∷ xs) ys h g = absurd h
  each_of_append (c ∷ cs) ds [] ys h g = absurd h
  each_of_append (c ∷ cs) ds (x ∷ xs) ys h g = (h.0, each_of_append cs ds xs ys h.1 g)

  pub each_of_parts : (cs ds : List C) (zs : List R) → EachOf P (cs ++ ds) zs → EachOf P cs (take (length cs) zs) × EachOf P ds (drop (length cs) zs)
  each_of_parts [] ds zs h = (tt, h)
  each_of_parts (c ∷ cs) ds [] h = absurd h
  each_of_parts (c ∷ cs) ds (z ∷ zs) h = let k = each_of_parts cs ds zs h.1 in ((h.0, k.0), k.1)

  pub each_of_at : (cs : List C) (xs : List R) (c : C) (x : R) (k : ℕ) → EachOf P cs xs → k < length cs → P (get_or cs k c) (get_or xs k x)
  each_of_at [] xs c x k h l = absurd (omega arith)
  each_of_at (d ∷ cs) [] c x k h l = absurd h
  each_of_at (d ∷ cs) (y ∷ xs) c x zero h l = h.0
  each_of_at (d ∷ cs) (y ∷ xs) c x (suc k) h l = each_of_at cs xs c x k h.1 (omega arith)

pub each_of_map : {C R : Type 0} (P Q : C → R → Type 0) → ((c : C) (x : R) → P c x → Q c x) → (cs : List C) (xs : List R) → EachOf P cs xs → EachOf Q cs xs
each_of_map P Q f [] [] h = tt
each_of_map P Q f [] (x ∷ xs) h = absurd h
each_of_map P Q f (c ∷ cs) [] h = absurd h
each_of_map P Q f (c ∷ cs) (x ∷ xs) h = (f c x h.0, each_of_map P Q f cs xs h.1)

-- octets of values one list after the other
pub octets_append : {C R : Type 0} (octets : C → R → List ℕ) (cs ds : List C) (xs ys : List R) → length xs ≡ length cs → each_octets octets (cs ++ ds) (xs ++ ys) ≡ each_octets octets cs xs ++ each_octets octets ds ys
octets_append octets [] ds [] ys e = refl
octets_append octets [] ds (x ∷ xs) ys e = absurd (omega arith)
octets_append octets (c ∷ cs) ds [] ys e = absurd (omega arith)
octets_append octets (c ∷ cs) ds (x ∷ xs) ys e = ap (λ l. octets c x ++ l) (octets_append octets cs ds xs ys (omega arith)) ∙ sym (append_assoc (octets c x) (each_octets octets cs xs) (each_octets octets ds ys))

pub octets-length : {C R : Type 0} (octets : C → R → List ℕ) (most : C → ℕ) → ((c : C) (x : R) → length (octets c x) ≤ most c) → (cs : List C) (xs : List R) → length (each_octets octets cs xs) ≤ total most cs
octets-length octets most few [] xs = omega arith
octets-length octets most few (c ∷ cs) [] = omega arith
octets-length octets most few (c ∷ cs) (x ∷ xs) = omega (arith, few c x, octets-length octets most few cs xs, length-append (octets c x) (each_octets octets cs xs))

pub total_append : {C : Type 0} (most : C → ℕ) (cs ds : List C) → total most (cs ++ ds) ≡ total most cs + total most ds
total_append most [] ds = omega arith
total_append most (c ∷ cs) ds = omega (arith, total_append most cs ds)
