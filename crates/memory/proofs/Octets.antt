use Rattle.std.proofs.Common.{◌≡◌, ℕ, zero, suc, ◌+◌, ◌-◌, ◌*◌, ◌/◌, ◌%◌, ◌<◌, ◌≤◌, true, false, cond, eqb, ◌⊎◌, List, [], length, get_or, set, sym, refl, ap, ◌∙◌, subst, inl, inr, ⊎_elim, arith}
use Rattle.std.proofs.lemmas.List.{length-set, ext_get_or, get_or-set_same, get_or-set_other}
use Rattle.std.proofs.lemmas.Bool.{cases_eq, cases_lt, cases_Bool, lt-ltb, le-ltb, eq-eqb, ne_eqb}
use Rattle.memory.specs.Top.{cell_count, packed_length, wide, top_of, wides_below, octet_of, width_of}
use Rattle.memory.specs.Held.{list_by, packed_cell, packed_cells, packed_spare, OctetsDetermined}
use Rattle.memory.proofs.Facts.{read_some, read_none, takes_yes, takes_no, written_yes, written_no, length-list_by, get_or-list_by, bounded_list_by, list_by-set, top_wide, top_narrow}

below_low : (n : ℕ) → n < 608 → wides_below n ≡ (n + 18) / 38
unfolding wides_below
below_low n h = simp (lt-ltb n 608 h)

below_mid : (n : ℕ) → 608 ≤ n → n < 1248 → wides_below n ≡ 16 + (n - 608 + 6) / 10
unfolding wides_below
below_mid n h k = simp (le-ltb n 608 h, lt-ltb n 1248 k)

below_high : (n : ℕ) → 1248 ≤ n → wides_below n ≡ 80
unfolding wides_below
below_high n h = simp (le-ltb n 608 (omega arith), le-ltb n 1248 h)

wide_low : (n : ℕ) → n < 608 → wide n ≡ eqb (n % 38) 19
unfolding wide
wide_low n h = simp (lt-ltb n 608 h)

wide_mid : (n : ℕ) → 608 ≤ n → n < 1248 → wide n ≡ eqb ((n - 608) % 10) 3
unfolding wide
wide_mid n h k = simp (le-ltb n 608 h, lt-ltb n 1248 k)

wide_high : (n : ℕ) → 1248 ≤ n → wide n ≡ false
unfolding wide
wide_high n h = simp (le-ltb n 608 (omega arith), le-ltb n 1248 h)

pub width_wide : (n : ℕ) → wide n ≡ true → width_of n ≡ 2
unfolding width_of
width_wide n e = ap (λ b. cond b 2 1) e

pub width_narrow : (n : ℕ) → wide n ≡ false → width_of n ≡ 1
unfolding width_of
width_narrow n e = ap (λ b. cond b 2 1) e

pub width_some : (n : ℕ) → 1 ≤ width_of n
unfolding width_of
width_some n = elim (cases_Bool (wide n)) [ inl e ↦ omega (arith, width_wide n e) | inr e ↦ omega (arith, width_narrow n e) ]

pub octet_is : (n : ℕ) → octet_of n ≡ n + wides_below n
unfolding octet_of
octet_is n = refl

pub octet_low : (n : ℕ) → n < 608 → octet_of n ≡ n + (n + 18) / 38
octet_low n h = octet_is n ∙ ap (λ x. n + x) (below_low n h)

pub octet_mid : (n : ℕ) → 608 ≤ n → n < 1248 → octet_of n ≡ n + (16 + (n - 608 + 6) / 10)
octet_mid n h k = octet_is n ∙ ap (λ x. n + x) (below_mid n h k)

pub octet_high : (n : ℕ) → 1248 ≤ n → octet_of n ≡ n + 80
octet_high n h = octet_is n ∙ ap (λ x. n + x) (below_high n h)

step_low : (n : ℕ) → n + 1 < 608 → octet_of (n + 1) ≡ octet_of n + width_of n
step_low n h =
    elim (cases_eq (n % 38) 19) [
      | inl e ↦ omega (arith, octet_low n (omega arith), octet_low (n + 1) h, width_wide n (wide_low n (omega arith) ∙ eq-eqb _ _ e))
      | inr e ↦ omega (arith, octet_low n (omega arith), octet_low (n + 1) h, width_narrow n (wide_low n (omega arith) ∙ ne_eqb _ _ e))
    ]

step_mid : (n : ℕ) → 608 ≤ n → n + 1 < 1248 → octet_of (n + 1) ≡ octet_of n + width_of n
step_mid n l h =
    elim (cases_eq ((n - 608) % 10) 3) [
      | inl e ↦ omega (arith, octet_mid n l (omega arith), octet_mid (n + 1) (omega arith) h, width_wide n (wide_mid n l (omega arith) ∙ eq-eqb _ _ e))
      | inr e ↦ omega (arith, octet_mid n l (omega arith), octet_mid (n + 1) (omega arith) h, width_narrow n (wide_mid n l (omega arith) ∙ ne_eqb _ _ e))
    ]

step_high : (n : ℕ) → 1248 ≤ n → octet_of (n + 1) ≡ octet_of n + width_of n
step_high n l = omega (arith, octet_high n l, octet_high (n + 1) (omega arith), width_narrow n (wide_high n l))

step_at : (n m : ℕ) → m ≡ n → octet_of (m + 1) ≡ octet_of m + width_of m → octet_of (n + 1) ≡ octet_of n + width_of n
step_at n m e h = subst (λ x. octet_of (x + 1) ≡ octet_of x + width_of x) e h

step_607 : octet_of (607 + 1) ≡ octet_of 607 + width_of 607
unfolding octet_of wides_below width_of wide
step_607 = refl

step_1247 : octet_of (1247 + 1) ≡ octet_of 1247 + width_of 1247
unfolding octet_of wides_below width_of wide
step_1247 = refl

pub octet_step : (n : ℕ) → octet_of (n + 1) ≡ octet_of n + width_of n
octet_step n =
    elim (cases_lt (n + 1) 608) [
      | inl h ↦ step_low n h
      | inr h ↦
          elim (cases_eq 607 n) [
            | inl e ↦ step_at n 607 e step_607
            | inr ne ↦
                elim (cases_lt (n + 1) 1248) [
                  | inl k ↦ step_mid n (omega arith) k
                  | inr k ↦
                      elim (cases_eq 1247 n) [
                        | inl e ↦ step_at n 1247 e step_1247
                        | inr me ↦ step_high n (omega arith)
                      ]
                ]
          ]
    ]

octet_on : (i d : ℕ) → octet_of i + width_of i ≤ octet_of ((i + d) + 1)
octet_on i zero = let e : i + 0 ≡ i = omega arith in rw e (omega (arith, octet_step i))
octet_on i (suc d) =
    let e : i + suc d ≡ (i + d) + 1 = omega arith in
    rw e (omega (arith, octet_on i d, octet_step ((i + d) + 1)))

-- a cell's octets end before a later cell's begin
pub octet_far : (i j : ℕ) → i < j → octet_of i + width_of i ≤ octet_of j
octet_far i j h =
    let e : (i + (j - i - 1)) + 1 ≡ j = omega arith in
    subst (λ x. octet_of i + width_of i ≤ octet_of x) e (octet_on i (j - i - 1))

octet_whole : octet_of cell_count ≡ packed_length
unfolding octet_of wides_below
octet_whole = refl

pub octet_end : (n : ℕ) → n < cell_count → octet_of n + width_of n ≤ packed_length
octet_end n h = omega (arith, octet_far n cell_count h, octet_whole)

cell_wide : (os : List ℕ) (n : ℕ) → wide n ≡ true → packed_cell os n ≡ get_or os (octet_of n) 0 % 256 * 256 + get_or os (octet_of n + 1) 0 % 256
unfolding packed_cell
cell_wide os n e = simp e

cell_narrow : (os : List ℕ) (n : ℕ) → wide n ≡ false → packed_cell os n ≡ get_or os (octet_of n) 0 % 256
unfolding packed_cell
cell_narrow os n e = simp e

cell_bounded : (os : List ℕ) (n : ℕ) → packed_cell os n ≤ top_of n
cell_bounded os n =
    elim (cases_Bool (wide n)) [
      | inl e ↦ omega (arith, cell_wide os n e, top_wide n e)
      | inr e ↦ omega (arith, cell_narrow os n e, top_narrow n e)
    ]

-- a cell is its octets'
cell_same :
    (os ps : List ℕ) (n : ℕ)
    → ((j : ℕ) → octet_of n ≤ j → j < octet_of n + width_of n → get_or ps j 0 ≡ get_or os j 0)
    → packed_cell ps n ≡ packed_cell os n
cell_same os ps n same =
    elim (cases_Bool (wide n)) [
      | inl e ↦
          let a = same (octet_of n) (omega arith) (omega (arith, width_wide n e)) in
          let b = same (octet_of n + 1) (omega arith) (omega (arith, width_wide n e)) in
          cell_wide ps n e ∙ (ap (λ x. x % 256 * 256 + get_or ps (octet_of n + 1) 0 % 256) a ∙ (ap (λ x. get_or os (octet_of n) 0 % 256 * 256 + x % 256) b ∙ sym (cell_wide os n e)))
      | inr e ↦
          let a = same (octet_of n) (omega arith) (omega (arith, width_narrow n e)) in
          cell_narrow ps n e ∙ (ap (λ x. x % 256) a ∙ sym (cell_narrow os n e))
    ]

size-whole : (os : List ℕ) → length os ≡ packed_length → ◌≡◌ {A = ℕ} (cond (eqb (length os) packed_length) cell_count 0) cell_count
size-whole os e = simp (eq-eqb (length os) packed_length e)

pub packed_is : (os : List ℕ) → length os ≡ packed_length → packed_cells os ≡ list_by (packed_cell os) cell_count
unfolding packed_cells
packed_is os e = ap (list_by (packed_cell os)) (size-whole os e)

pub length_packed : (os : List ℕ) → length os ≡ packed_length → length (packed_cells os) ≡ cell_count
length_packed os e = ap length (packed_is os e) ∙ length-list_by (packed_cell os) cell_count

pub length_packed_none : (os : List ℕ) → (length os ≡ packed_length → ⊥) → length (packed_cells os) ≡ 0
unfolding packed_cells
length_packed_none os e = length-list_by _ _ ∙ simp (ne_eqb (length os) packed_length e)

-- a cell within the count: the octets have the right length
pub count_packed : (os : List ℕ) (n : ℕ) → n < length (packed_cells os) → (length os ≡ packed_length) × (n < cell_count)
count_packed os n h =
    elim (cases_eq (length os) packed_length) [
      | inl e ↦ (e, omega (arith, length_packed os e))
      | inr ne ↦ absurd (omega (arith, length_packed_none os ne))
    ]

pub bounded_packed : (os : List ℕ) (n : ℕ) → get_or (packed_cells os) n 0 ≤ top_of n
unfolding packed_cells
bounded_packed os = bounded_list_by (packed_cell os) _ (cell_bounded os)

pub get_or_packed : (os : List ℕ) (n : ℕ) → length os ≡ packed_length → n < cell_count → get_or (packed_cells os) n 0 ≡ packed_cell os n
get_or_packed os n e h = ap (λ cs. get_or cs n 0) (packed_is os e) ∙ get_or-list_by (packed_cell os) cell_count n h

pub get_or_packed_wide :
    (os : List ℕ) (n : ℕ) → length os ≡ packed_length → n < cell_count → wide n ≡ true
    → get_or os (octet_of n) 0 < 256 → get_or os (octet_of n + 1) 0 < 256
    → get_or (packed_cells os) n 0 ≡ get_or os (octet_of n) 0 * 256 + get_or os (octet_of n + 1) 0
get_or_packed_wide os n e h w a b = get_or_packed os n e h ∙ (cell_wide os n w ∙ omega arith)

pub get_or_packed_narrow :
    (os : List ℕ) (n : ℕ) → length os ≡ packed_length → n < cell_count → wide n ≡ false
    → get_or os (octet_of n) 0 < 256
    → get_or (packed_cells os) n 0 ≡ get_or os (octet_of n) 0
get_or_packed_narrow os n e h w a = get_or_packed os n e h ∙ (cell_narrow os n w ∙ omega arith)

-- a change of octets that is one of the cell n's alone
pub packed_changed :
    (os ps : List ℕ) (n v : ℕ) → length os ≡ packed_length → length ps ≡ packed_length → n < cell_count
    → packed_cell ps n ≡ v
    → ((j : ℕ) → (j < octet_of n) ⊎ (octet_of n + width_of n ≤ j) → get_or ps j 0 ≡ get_or os j 0)
    → packed_cells ps ≡ set (packed_cells os) n v
packed_changed os ps n v e d h here others =
    packed_is ps d
    ∙ (list_by-set (packed_cell os) (packed_cell ps) cell_count n v h here
    (λ k l ne.
    cell_same os ps k
    (λ j a b.
    others j
    (elim (cases_lt k n) [
      | inl lt ↦ inl (omega (arith, octet_far k n lt))
      | inr ge ↦ inr (omega (arith, octet_far n k (omega arith)))
    ])))
    ∙ ap (λ cs. set cs n v) (sym (packed_is os e)))

pub packed_set_narrow :
    (os : List ℕ) (n v : ℕ) → length os ≡ packed_length → n < cell_count → wide n ≡ false → v < 256
    → packed_cells (set os (octet_of n) v) ≡ set (packed_cells os) n v
packed_set_narrow os n v e h w b =
    let o< : octet_of n < length os = omega (arith, octet_end n h, width_narrow n w) in
    packed_changed os (set os (octet_of n) v) n v e (length-set os (octet_of n) v ∙ e) h
    (cell_narrow (set os (octet_of n) v) n w ∙ omega (arith, get_or-set_same os (octet_of n) v 0 o<))
    (λ j out. get_or-set_other os (octet_of n) j v 0 (λ same. ⊎_elim (λ l. omega arith) (λ g. omega (arith, width_narrow n w)) out))

pub packed_set_wide :
    (os : List ℕ) (n a b v : ℕ) → length os ≡ packed_length → n < cell_count → wide n ≡ true → a < 256 → b < 256 → a * 256 + b ≡ v
    → packed_cells (set (set os (octet_of n) a) (octet_of n + 1) b) ≡ set (packed_cells os) n v
packed_set_wide os n a b v e h w a< b< is =
    let ps = set os (octet_of n) a in
    let qs = set ps (octet_of n + 1) b in
    let lp : length ps ≡ length os = length-set os (octet_of n) a in
    let o< : octet_of n < length os = omega (arith, octet_end n h, width_wide n w) in
    let p< : octet_of n + 1 < length ps = omega (arith, octet_end n h, width_wide n w) in
    let second : get_or qs (octet_of n + 1) 0 ≡ b = get_or-set_same ps (octet_of n + 1) b 0 p< in
    let first : get_or qs (octet_of n) 0 ≡ a = get_or-set_other ps (octet_of n + 1) (octet_of n) b 0 (λ same. omega arith) ∙ get_or-set_same os (octet_of n) a 0 o< in
    packed_changed os qs n v e (length-set ps (octet_of n + 1) b ∙ (lp ∙ e)) h
    (cell_wide qs n w ∙ omega arith)
    (λ j out.
    get_or-set_other ps (octet_of n + 1) j b 0 (λ same. ⊎_elim (λ l. omega arith) (λ g. omega (arith, width_wide n w)) out)
    ∙ get_or-set_other os (octet_of n) j a 0 (λ same. ⊎_elim (λ l. omega arith) (λ g. omega (arith, width_wide n w)) out))

-- the same, where the code has the octet o

pub read_wide_at :
    (os : List ℕ) (n o : ℕ) → o ≡ octet_of n → length os ≡ packed_length → n < cell_count → wide n ≡ true
    → get_or os o 0 < 256 → get_or os (o + 1) 0 < 256
    → get_or (packed_cells os) n 0 ≡ get_or os o 0 * 256 + get_or os (o + 1) 0
read_wide_at os n o is e h w =
    subst (λ x. get_or os x 0 < 256 → get_or os (x + 1) 0 < 256 → get_or (packed_cells os) n 0 ≡ get_or os x 0 * 256 + get_or os (x + 1) 0) (sym is) (get_or_packed_wide os n e h w)

pub read_narrow_at :
    (os : List ℕ) (n o : ℕ) → o ≡ octet_of n → length os ≡ packed_length → n < cell_count → wide n ≡ false
    → get_or os o 0 < 256 → get_or (packed_cells os) n 0 ≡ get_or os o 0
read_narrow_at os n o is e h w =
    subst (λ x. get_or os x 0 < 256 → get_or (packed_cells os) n 0 ≡ get_or os x 0) (sym is) (get_or_packed_narrow os n e h w)

pub set_wide_at :
    (os : List ℕ) (n o a b v : ℕ) → o ≡ octet_of n → length os ≡ packed_length → n < cell_count → wide n ≡ true → a < 256 → b < 256 → a * 256 + b ≡ v
    → packed_cells (set (set os o a) (o + 1) b) ≡ set (packed_cells os) n v
set_wide_at os n o a b v is e h w a< b< s =
    subst (λ x. packed_cells (set (set os x a) (x + 1) b) ≡ set (packed_cells os) n v) (sym is) (packed_set_wide os n a b v e h w a< b< s)

pub set_narrow_at :
    (os : List ℕ) (n o v : ℕ) → o ≡ octet_of n → length os ≡ packed_length → n < cell_count → wide n ≡ false → v < 256
    → packed_cells (set os o v) ≡ set (packed_cells os) n v
set_narrow_at os n o v is e h w b =
    subst (λ x. packed_cells (set os x v) ≡ set (packed_cells os) n v) (sym is) (packed_set_narrow os n v e h w b)

spare_whole : (os : List ℕ) → length os ≡ packed_length → packed_spare os ≡ []
unfolding packed_spare
spare_whole os e = simp (eq-eqb (length os) packed_length e)

spare_other : (os : List ℕ) → (length os ≡ packed_length → ⊥) → packed_spare os ≡ os
unfolding packed_spare
spare_other os e = simp (ne_eqb (length os) packed_length e)

-- octets of the right length are all cells'
pub spare_same : (os ps : List ℕ) → length os ≡ packed_length → length ps ≡ length os → packed_spare ps ≡ packed_spare os
spare_same os ps e d = spare_whole ps (d ∙ e) ∙ sym (spare_whole os e)

-- the cell that an octet belongs to
cell_at : (m j : ℕ) → j < octet_of m → (n : ℕ) × ((n < m) × (octet_of n ≤ j) × (j < octet_of n + width_of n))
cell_at zero j h = absurd (omega (arith, octet_low 0 (omega arith)))
cell_at (suc m) j h =
    elim (cases_lt j (octet_of m)) [
      | inl l ↦ let c = cell_at m j l in (c.0, (omega arith, c.1.1, c.1.2))
      | inr g ↦
          let e : octet_of (suc m) ≡ octet_of m + width_of m = ap octet_of (omega arith) ∙ octet_step m in
          (m, (omega arith, g, omega arith))
    ]

-- octets with equal cells are equal at each octet of a cell
cell_octets :
    (os ps : List ℕ) (n j : ℕ)
    → ((k : ℕ) → get_or os k 0 < 256) → ((k : ℕ) → get_or ps k 0 < 256)
    → packed_cell os n ≡ packed_cell ps n
    → octet_of n ≤ j → j < octet_of n + width_of n → get_or os j 0 ≡ get_or ps j 0
cell_octets os ps n j o< p< same from to =
    let first : (get_or os (octet_of n) 0 ≡ get_or ps (octet_of n) 0) → j ≡ octet_of n → get_or os j 0 ≡ get_or ps j 0 =
    λ e at. subst (λ i. get_or os i 0 ≡ get_or ps i 0) (sym at) e in
    let a = o< (octet_of n) in
    let b = p< (octet_of n) in
    elim (cases_Bool (wide n)) [
      | inl w ↦
          let c = o< (octet_of n + 1) in
          let d = p< (octet_of n + 1) in
          let s = cell_wide os n w in
          let t = cell_wide ps n w in
          elim (cases_eq j (octet_of n)) [
            | inl at ↦ first (omega arith) at
            | inr ne ↦
                let at : j ≡ octet_of n + 1 = omega (arith, width_wide n w) in
                let e : get_or os (octet_of n + 1) 0 ≡ get_or ps (octet_of n + 1) 0 = omega arith in
                subst (λ i. get_or os i 0 ≡ get_or ps i 0) (sym at) e
          ]
      | inr w ↦ first (omega (arith, cell_narrow os n w, cell_narrow ps n w)) (omega (arith, width_narrow n w))
    ]

whole_determined :
    (os ps : List ℕ) → length os ≡ packed_length → length ps ≡ packed_length
    → ((k : ℕ) → get_or os k 0 < 256) → ((k : ℕ) → get_or ps k 0 < 256)
    → packed_cells os ≡ packed_cells ps → os ≡ ps
whole_determined os ps e d o< p< cells =
    ext_get_or 0 os ps (e ∙ sym d)
    (λ j h.
    let c = cell_at cell_count j (omega (arith, octet_whole)) in
    cell_octets os ps c.0 j o< p<
    (sym (get_or_packed os c.0 e c.1.0) ∙ (ap (λ cs. get_or cs c.0 0) cells ∙ get_or_packed ps c.0 d c.1.0))
    c.1.1 c.1.2)

pub octets_determined : OctetsDetermined
octets_determined os ps o< p< cells spare =
    elim (cases_eq (length os) packed_length) [
      | inl e ↦
          elim (cases_eq (length ps) packed_length) [
            | inl d ↦ whole_determined os ps e d o< p< cells
            | inr d ↦ absurd (omega (arith, length_packed os e, length_packed_none ps d, ap length cells))
          ]
      | inr e ↦
          elim (cases_eq (length ps) packed_length) [
            | inl d ↦ absurd (omega (arith, length_packed_none os e, length_packed ps d, ap length cells))
            | inr d ↦ sym (spare_other os e) ∙ (spare ∙ spare_other ps d)
          ]
    ]

pub ruleset octet_cases = (octet_low, octet_mid, octet_high)

-- what the functions over octets need
pub ruleset packed_facts = (length_packed, length_packed_none, bounded_packed, count_packed, octet_end, width_some, width_wide, width_narrow, read_some, read_none, takes_yes, takes_no, written_yes, written_no)
