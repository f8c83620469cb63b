-- A get and a set have one outcome: the definitions leave no choice.
use Rattle.std.proofs.Common.{◌≡◌, ℕ, zero, suc, ◌+◌, ◌*◌, ◌<◌, cond, eqb, ltb, ◌⊎◌, List, [], ◌∷◌, length, get_or, Some, None, sym, refl, ap, ◌∙◌, subst, inl, inr, ⊎_elim, arith}
use Rattle.std.proofs.lemmas.List.{ext_get_or}
use Rattle.std.proofs.lemmas.Bool.{lt-ltb, le-ltb, cases_eq, cases_lt, cases_order, both_ways}
use Rattle.tables.specs.Places.{cell_of}
use Rattle.tables.specs.declared.address.Address.{Address}
use Rattle.tables.specs.declared.place.Place.{Place}
use Rattle.tables.specs.declared.work.StagedWrite.{StagedWrite}
use Rattle.tables.specs.Allowed.{Stores, Forbids, stored}
use Rattle.tables.specs.Families.{column_of}
use Rattle.tables.proofs.PlaceFacts.{one_cell_named, one_place_named}
use Rattle.transfers.specs.declared.refusal.Refusal.{Refusal}
use Rattle.transfers.specs.declared.refusal.Refusal.TheVariants.{ItemCount, Missing, Over, NoNumber}
use Rattle.transfers.specs.Items.{Whole, Miscounted, count_in, address_at, address_place, sent_at}
use Rattle.transfers.specs.Items.Miscounted.{no_count, out_of_range, missing, over}
use Rattle.transfers.specs.Gets.{Outcome, accepted, refused, Got, Value, Values, FirstNameless, two_octets}
use Rattle.transfers.specs.Gets.Got.{miscounted, nameless, values}
use Rattle.transfers.specs.Sets.{Writes, ItemFault, FirstFault, Taken, SetTo, cell_at, value_at, no_write}
use Rattle.transfers.specs.Sets.ItemFault.{nameless as item-nameless, not_allowed}
use Rattle.transfers.specs.Sets.SetTo.{miscounted as set-miscounted, faulty, taken}

-- the fault of a count
fault : ℕ → List ℕ → Refusal
fault size body =
    cond (ltb (length body) 1) (Missing 1)
    (cond (ltb (count_in body) 1) ItemCount
    (cond (ltb 32 (count_in body)) ItemCount
    (cond (ltb (length body) (1 + count_in body * size)) (Missing (1 + length body)) (Over (2 + count_in body * size)))))

is_fault : (size : ℕ) (body : List ℕ) (e : Refusal) → Miscounted size body e → e ≡ fault size body
unfolding fault
is_fault size body e (no_count h r) = r ∙ simp (lt-ltb (length body) 1 (omega arith))
is_fault size body e (out_of_range h (inl n) r) = r ∙ simp (le-ltb (length body) 1 h, lt-ltb (count_in body) 1 n)
is_fault size body e (out_of_range h (inr n) r) = r ∙ simp (le-ltb (length body) 1 h, le-ltb (count_in body) 1 (omega arith), lt-ltb 32 (count_in body) n)
is_fault size body e (missing c h r) =
    r ∙ simp (le-ltb (length body) 1 c.some, le-ltb (count_in body) 1 c.least, le-ltb 32 (count_in body) c.most, lt-ltb (length body) (1 + count_in body * size) h)
is_fault size body e (over c h r) =
    r ∙ simp (le-ltb (length body) 1 c.some, le-ltb (count_in body) 1 c.least, le-ltb 32 (count_in body) c.most, le-ltb (length body) (1 + count_in body * size) (omega arith))

not_whole : (size : ℕ) (body : List ℕ) (e : Refusal) → Miscounted size body e → Whole size body → ⊥
not_whole size body e (no_count h r) w = omega (arith, w.counted.some)
not_whole size body e (out_of_range h n r) w = ⊎_elim (λ x. omega (arith, w.counted.least)) (λ x. omega (arith, w.counted.most)) n
not_whole size body e (missing c h r) w = omega (arith, w.octets)
not_whole size body e (over c h r) w = omega (arith, w.octets)

one_value : (cells : List ℕ) (a : Address) (v w : ℕ) → Value cells a v → Value cells a w → v ≡ w
one_value cells a v w x y = x.2 ∙ (ap (λ n. get_or cells n 0) (one_cell_named a x.0 y.0 x.1 y.1) ∙ sym y.2)

same_values : (cells body vs ws : List ℕ) (n : ℕ) → Values cells body n vs → Values cells body n ws → vs ≡ ws
same_values cells body vs ws n x y =
    ext_get_or 0 vs ws (x.count ∙ sym y.count)
    (λ k h. let l : k < n = omega (arith, x.count) in one_value cells (address_at body k) (get_or vs k 0) (get_or ws k 0) (x.each k l) (y.each k l))

same_first : (body : List ℕ) (n j k : ℕ) → FirstNameless body n j → FirstNameless body n k → j ≡ k
same_first body n j k x y =
    elim (cases_order j k) [
      | inl e ↦ e
      | inr o ↦
          elim o [
            | inl h ↦ let c = y.before j h in absurd (x.here c.0 c.1)
            | inr h ↦ let c = x.before k h in absurd (y.here c.0 c.1)
          ]
    ]

not_both : (cells body vs : List ℕ) (n k : ℕ) → FirstNameless body n k → Values cells body n vs → ⊥
not_both cells body vs n k x y = let v = y.each k x.within in x.here v.0 v.1

pub one_got : (cells body : List ℕ) (o p : Outcome) → Got cells body o → Got cells body p → o ≡ p
one_got cells body o p (miscounted d x r) (miscounted e y q) = r ∙ (ap refused (is_fault 4 body d x ∙ sym (is_fault 4 body e y)) ∙ sym q)
one_got cells body o p (miscounted d x r) (nameless k w f q) = absurd (not_whole 4 body d x w)
one_got cells body o p (miscounted d x r) (values vs w v q) = absurd (not_whole 4 body d x w)
one_got cells body o p (nameless k w f r) (miscounted e y q) = absurd (not_whole 4 body e y w)
one_got cells body o p (nameless k w f r) (nameless j u g q) = r ∙ (ap (λ n. refused (NoNumber (address_place n))) (same_first body (count_in body) k j f g) ∙ sym q)
one_got cells body o p (nameless k w f r) (values vs u v q) = absurd (not_both cells body vs (count_in body) k f v)
one_got cells body o p (values vs w v r) (miscounted e y q) = absurd (not_whole 4 body e y w)
one_got cells body o p (values vs w v r) (nameless k u f q) = absurd (not_both cells body vs (count_in body) k f v)
one_got cells body o p (values vs w v r) (values ws u x q) = r ∙ (ap (λ zs. accepted (0 ∷ count_in body ∷ two_octets zs)) (same_values cells body vs ws (count_in body) v x) ∙ sym q)

-- Sets

one_stored : (a : Address) (sent n v m w : ℕ) → Stores a sent n v → Stores a sent m w → (n ≡ m) × (v ≡ w)
one_stored a sent n v m w x y =
    let e : x.at ≡ y.at = one_place_named a x.at y.at x.named y.named in
    let s : stored (column_of x.at.family x.at.column) sent ≡ Some w = ap (λ (p : Place). stored (column_of p.family p.column) sent) e ∙ y.value in
    let u = x.value in
    (sym x.cell ∙ (ap cell_of e ∙ y.cell), cc)

stored_not_forbidden : (a : Address) (sent n v : ℕ) → Stores a sent n v → Forbids a sent → ⊥
stored_not_forbidden a sent n v x y =
    let e : x.at ≡ y.at = one_place_named a x.at y.at x.named y.named in
    let s : stored (column_of x.at.family x.at.column) sent ≡ None = ap (λ (p : Place). stored (column_of p.family p.column) sent) e ∙ y.value in
    let u = x.value in
    let z : ◌≡◌ {A = ℕ} 0 1 = cc in
    omega arith

not_stored : (body : List ℕ) (k n v : ℕ) (e : Refusal) → ItemFault body k e → Stores (address_at body k) (sent_at body (count_in body) k) n v → ⊥
not_stored body k n v e (item-nameless f r) s = f s.at s.named
not_stored body k n v e (not_allowed f r) s = stored_not_forbidden _ _ n v s f

one_item_fault : (body : List ℕ) (k : ℕ) (d e : Refusal) → ItemFault body k d → ItemFault body k e → d ≡ e
one_item_fault body k d e (item-nameless f r) (item-nameless g q) = r ∙ sym q
one_item_fault body k d e (item-nameless f r) (not_allowed g q) = absurd (f g.at g.named)
one_item_fault body k d e (not_allowed f r) (item-nameless g q) = absurd (g f.at f.named)
one_item_fault body k d e (not_allowed f r) (not_allowed g q) = r ∙ sym q

one_fault : (body : List ℕ) (j k : ℕ) (d e : Refusal) → FirstFault body j d → FirstFault body k e → d ≡ e
one_fault body j k d e x y =
    elim (cases_order j k) [
      | inl s ↦ one_item_fault body k d e (subst (λ i. ItemFault body i d) s x.here) y.here
      | inr o ↦
          elim o [
            | inl h ↦ let s = y.before j h in absurd (not_stored body j s.0 s.1 d x.here s.2)
            | inr h ↦ let s = x.before k h in absurd (not_stored body k s.0 s.1 e y.here s.2)
          ]
    ]

fault_not_writes : (body : List ℕ) (k : ℕ) (e : Refusal) (ws : List StagedWrite) → FirstFault body k e → Writes body (count_in body) ws → ⊥
fault_not_writes body k e ws x y = not_stored body k (cell_at ws k) (value_at ws k) e x.here (y.each k x.within)

same_write : (v w : StagedWrite) → v.cell ≡ w.cell → v.value ≡ w.value → v ≡ w
same_write v w a b =
    let mk : ℕ → ℕ → StagedWrite = λ c x. record { cell = c; value = x } in
    ap (λ c. mk c v.value) a ∙ ap (λ x. mk w.cell x) b

same_writes : (body : List ℕ) (n : ℕ) (vs ws : List StagedWrite) → Writes body n vs → Writes body n ws → vs ≡ ws
same_writes body n vs ws x y =
    ext_get_or no_write vs ws (x.count ∙ sym y.count)
    (λ k h.
    let l : k < n = omega (arith, x.count) in
    let s = one_stored _ _ _ _ _ _ (x.each k l) (y.each k l) in
    same_write (get_or vs k no_write) (get_or ws k no_write) s.0 s.1)

-- the last of the first m writes to a cell, if there is one
pub record LastOf (ws : List StagedWrite) (c m k : ℕ) : Type 0 where
  pub within : k < m
  pub cell : cell_at ws k ≡ c
  pub later : (j : ℕ) → k < j → j < m → cell_at ws j ≡ c → ⊥

last_of : (ws : List StagedWrite) (c m : ℕ) → ((k : ℕ) → k < m → cell_at ws k ≡ c → ⊥) ⊎ ((k : ℕ) × LastOf ws c m k)
last_of ws c zero = inl (λ k h e. omega arith)
last_of ws c (suc m) =
    elim (cases_eq (cell_at ws m) c) [
      | inl e ↦ inr (m, record { within = omega arith; cell = e; later = λ j a b f. omega arith })
      | inr ne ↦
          elim (last_of ws c m) [
            | inl none ↦
                inl (λ k h e.
                elim (cases_lt k m) [
                  | inl l ↦ none k l e
                  | inr l ↦ let s : k ≡ m = omega arith in ne (subst (λ i. cell_at ws i ≡ c) s e)
                ])
            | inr some ↦
                inr (
                  some.0,
                  record {
                    within = omega (arith, some.1.within);
                    cell = some.1.cell;
                    later = λ j a b f.
                        elim (cases_lt j m) [
                          | inl l ↦ some.1.later j a l f
                          | inr l ↦ let s : j ≡ m = omega arith in ne (subst (λ i. cell_at ws i ≡ c) s f)
                        ];
                  },
                )
          ]
    ]

pub one_taken : (before a b : List ℕ) (ws : List StagedWrite) → Taken before ws a → Taken before ws b → a ≡ b
one_taken before a b ws x y =
    ext_get_or 0 a b (x.count ∙ sym y.count)
    (λ c h.
    elim (last_of ws c (length ws)) [
      | inl none ↦ x.others c none ∙ sym (y.others c none)
      | inr some ↦
          let k = some.0 in
          let f = some.1 in
          let g : (j : ℕ) → k < j → j < length ws → cell_at ws j ≡ cell_at ws k → ⊥ = λ j p q e. f.later j p q (e ∙ f.cell) in
          let p : get_or a c 0 ≡ value_at ws k = subst (λ i. get_or a i 0 ≡ value_at ws k) f.cell (x.last k f.within g) in
          let q : get_or b c 0 ≡ value_at ws k = subst (λ i. get_or b i 0 ≡ value_at ws k) f.cell (y.last k f.within g) in
          p ∙ sym q
    ])

pub one_set : (before body : List ℕ) (o p : Outcome) (a b : List ℕ) → SetTo before body o a → SetTo before body p b → (o ≡ p) × (a ≡ b)
one_set before body o p a b (set-miscounted d x r m) (set-miscounted e y q n) =
    (r ∙ (ap refused (is_fault 6 body d x ∙ sym (is_fault 6 body e y)) ∙ sym q), m ∙ sym n)
one_set before body o p a b (set-miscounted d x r m) (faulty k e w f q n) = absurd (not_whole 6 body d x w)
one_set before body o p a b (set-miscounted d x r m) (taken ws w f q n) = absurd (not_whole 6 body d x w)
one_set before body o p a b (faulty k e w f r m) (set-miscounted d y q n) = absurd (not_whole 6 body d y w)
one_set before body o p a b (faulty k e w f r m) (faulty j d u g q n) = (r ∙ (ap refused (one_fault body k j e d f g) ∙ sym q), m ∙ sym n)
one_set before body o p a b (faulty k e w f r m) (taken ws u g q n) = absurd (fault_not_writes body k e ws f g)
one_set before body o p a b (taken ws w f r m) (set-miscounted d y q n) = absurd (not_whole 6 body d y w)
one_set before body o p a b (taken ws w f r m) (faulty k e u g q n) = absurd (fault_not_writes body k e ws g f)
one_set before body o p a b (taken ws w f r m) (taken us u g q n) =
    (r ∙ sym q, one_taken before a b ws m (subst (λ x. Taken before x b) (same_writes body (count_in body) us ws g f) n))
