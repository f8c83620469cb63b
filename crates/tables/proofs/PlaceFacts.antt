-- The cells of a family lie together, row by row, and each has one place.
use Rattle.std.proofs.Common.{◌≡◌, ℕ, ◌+◌, ◌-◌, ◌*◌, ◌/◌, ◌%◌, ◌<◌, ◌≤◌, min, max, Bool, true, false, cond, ◌||◌, T, eqb, ltb, ◌⊎◌, get_or, sym, refl, ap, ◌∙◌, subst, inl, inr, ⊎_elim, mul_comm, arith, eqb→eq}
use Rattle.tables.specs.declared.columns.Column.{Column}
use Rattle.tables.specs.declared.family.FamilyId.{FamilyId}
use Rattle.tables.specs.declared.family.FamilyId.TheVariants.{Phase, VehicleDetector, PedestrianDetector, Pattern, Split, Action, Sequence}
use Rattle.tables.specs.declared.place.Place.{Place}
use Rattle.tables.specs.declared.family.Shape.{Shape}
use Rattle.tables.specs.Columns.{columns, none}
use Rattle.tables.specs.Families.{shape_of, column_of, cells_of, is_list, rows_of, cells_end}
use Rattle.tables.specs.declared.address.Address.{Address}
use Rattle.tables.specs.Places.{Stands, cell_of, rows_before, Names, NamesCell}
use Rattle.std.proofs.lemmas.Nat.{mul-add-lt, div-mul-add, mod-mul-add, div_below, mod_below, div-add-mod'}
use Rattle.std.proofs.lemmas.Bool.{lt-ltb, le-ltb, eq-eqb, ne_eqb, cases_eq}
use Rattle.tables.proofs.Each.{each}

or_T : (a b : Bool) → T (a || b) → T a ⊎ T b
or_T true b t = inl tt
or_T false b t = inr t

one_cell : Column → Bool
one_cell c = eqb (cells_of c) 1

list_place : ℕ → Bool
list_place i = eqb i 21 || eqb i 46

plain : ℕ → Column → Bool
plain i c = one_cell c || (list_place i)

-- a column takes one cell, but for the last of the phases and that of the sequences
one_or_list : (i : ℕ) → i < 47 → (cells_of (get_or columns i none) ≡ 1) ⊎ ((i ≡ 21) ⊎ (i ≡ 46))
unfolding plain one_cell list_place
one_or_list i h =
    ⊎_elim (λ t. inl (eqb→eq (cells_of (get_or columns i none)) 1 t))
    (λ t. inr (⊎_elim (λ u. inl (eqb→eq i 21 u)) (λ u. inr (eqb→eq i 46 u)) (or_T (eqb i 21) (eqb i 46) t)))
    (or_T (one_cell (get_or columns i none)) (list_place i) (each plain columns none tt i h))

-- a column takes one cell, or is the last of its row and takes the row's last seventeen
abbrev LastList : FamilyId → ℕ → Type 0
LastList f c = (cells_of (column_of f c) ≡ 1) ⊎ ((c ≡ (shape_of f).columns) × (c + 16 ≡ (shape_of f).row_cells) × (cells_of (column_of f c) ≡ 17))

pub last_list : (f : FamilyId) (c : ℕ) → 1 ≤ c → c ≤ (shape_of f).columns → LastList f c
last_list Phase c l h =
    ⊎_elim inl
    (λ e. inr (omega (arith, e), omega (arith, e), let k : 22 ≡ c = omega (arith, e) in subst (λ x. cells_of (column_of Phase x) ≡ 17) k refl))
    (one_or_list (0 + (c - 1)) (omega arith))
last_list VehicleDetector c l h = ⊎_elim inl (λ e. absurd (omega (arith, e))) (one_or_list (22 + (c - 1)) (omega arith))
last_list PedestrianDetector c l h = ⊎_elim inl (λ e. absurd (omega (arith, e))) (one_or_list (32 + (c - 1)) (omega arith))
last_list Pattern c l h = ⊎_elim inl (λ e. absurd (omega (arith, e))) (one_or_list (36 + (c - 1)) (omega arith))
last_list Split c l h = ⊎_elim inl (λ e. absurd (omega (arith, e))) (one_or_list (40 + (c - 1)) (omega arith))
last_list Action c l h = ⊎_elim inl (λ e. absurd (omega (arith, e))) (one_or_list (43 + (c - 1)) (omega arith))
last_list Sequence c l h = inr (omega arith, omega arith, let k : 1 ≡ c = omega arith in subst (λ x. cells_of (column_of Sequence x) ≡ 17) k refl)

-- the sizes of a family, as far as the laws below need them
pub record Sizes (f : FamilyId) : Type 0 where
  pub firsts : 1 ≤ (shape_of f).last_first
  pub few_firsts : (shape_of f).last_first ≤ 64
  pub few_seconds : (shape_of f).last_second ≤ 16
  pub columns_least : 1 ≤ (shape_of f).columns
  pub columns_last : (shape_of f).columns ≤ (shape_of f).row_cells
  pub few_columns : (shape_of f).columns ≤ 22
  pub few_cells : (shape_of f).row_cells ≤ 38
  pub ends : cells_end f ≤ 2544

pub sizes : (f : FamilyId) → Sizes f
sizes Phase = record { firsts = omega arith; few_firsts = omega arith; few_seconds = omega arith; columns_least = omega arith; columns_last = omega arith; few_columns = omega arith; few_cells = omega arith; ends = omega arith }
sizes VehicleDetector = record { firsts = omega arith; few_firsts = omega arith; few_seconds = omega arith; columns_least = omega arith; columns_last = omega arith; few_columns = omega arith; few_cells = omega arith; ends = omega arith }
sizes PedestrianDetector = record { firsts = omega arith; few_firsts = omega arith; few_seconds = omega arith; columns_least = omega arith; columns_last = omega arith; few_columns = omega arith; few_cells = omega arith; ends = omega arith }
sizes Pattern = record { firsts = omega arith; few_firsts = omega arith; few_seconds = omega arith; columns_least = omega arith; columns_last = omega arith; few_columns = omega arith; few_cells = omega arith; ends = omega arith }
sizes Split = record { firsts = omega arith; few_firsts = omega arith; few_seconds = omega arith; columns_least = omega arith; columns_last = omega arith; few_columns = omega arith; few_cells = omega arith; ends = omega arith }
sizes Action = record { firsts = omega arith; few_firsts = omega arith; few_seconds = omega arith; columns_least = omega arith; columns_last = omega arith; few_columns = omega arith; few_cells = omega arith; ends = omega arith }
sizes Sequence = record { firsts = omega arith; few_firsts = omega arith; few_seconds = omega arith; columns_least = omega arith; columns_last = omega arith; few_columns = omega arith; few_cells = omega arith; ends = omega arith }

-- a place's cell is within its row
pub in_row : (p : Place) → Stands p → (p.column - 1) + p.octet < (shape_of p.family).row_cells
in_row p s =
    let z = sizes p.family in
    ⊎_elim (λ e. omega (arith, e)) (λ e. omega (arith, e.0, e.1, e.2))
    (last_list p.family p.column s.column_least s.column_last)

-- and its row one of the family's
row_within :
    (f : FamilyId) (first second : ℕ)
    → 1 ≤ first → first ≤ (shape_of f).last_first → second ≤ (shape_of f).last_second
    → (second - 1) * (shape_of f).last_first + (first - 1) < rows_of f
row_within f first second a b c =
    let m : second - 1 < max 1 (shape_of f).last_second = omega arith in
    mul-add-lt (second - 1) (shape_of f).last_first (first - 1) (max 1 (shape_of f).last_second) m (omega arith)

pub row_of : (p : Place) → Stands p → rows_before p < rows_of p.family
row_of p s = row_within p.family p.first p.second s.first_least s.first_last s.second_last

pub cell_is : (p : Place) → cell_of p ≡ (shape_of p.family).cells_before + (rows_before p * (shape_of p.family).row_cells + ((p.column - 1) + p.octet))
unfolding cell_of
cell_is p = omega arith

pub cell_least : (p : Place) → (shape_of p.family).cells_before ≤ cell_of p
cell_least p = omega (arith, cell_is p)

pub cell_last : (p : Place) → Stands p → cell_of p < cells_end p.family
cell_last p s =
    omega (arith, cell_is p, mul-add-lt (rows_before p) (shape_of p.family).row_cells ((p.column - 1) + p.octet) (rows_of p.family) (row_of p s) (in_row p s), mul_comm (rows_of p.family) (shape_of p.family).row_cells)

pub cell_below : (p : Place) → Stands p → cell_of p < 2544
cell_below p s = omega (arith, cell_last p s, (sizes p.family).ends)

-- the cell's number as the code adds it up
pub cell_sum :
    (p : Place) (s : Shape) (before last first : ℕ)
    → s ≡ shape_of p.family → before ≡ p.second - 1 → last ≡ s.last_first → first ≡ p.first - 1
    → s.cells_before + (before * last + first) * s.row_cells + (p.column - 1) + p.octet ≡ cell_of p
unfolding cell_of
cell_sum p s before last first e b l f = rw (b, l, f, e) refl

-- which family a cell number belongs to
family_at : ℕ → FamilyId
family_at n =
    cond (ltb n 608) Phase
    (cond (ltb n 1248) VehicleDetector
    (cond (ltb n 1280) PedestrianDetector
    (cond (ltb n 1408) Pattern
    (cond (ltb n 2176) Split
    (cond (ltb n 2272) Action Sequence)))))

family_at_lem : (f : FamilyId) (n : ℕ) → (shape_of f).cells_before ≤ n → n < cells_end f → family_at n ≡ f
unfolding family_at
family_at_lem Phase n l h = simp (lt-ltb n 608 h)
family_at_lem VehicleDetector n l h = simp (le-ltb n 608 l, lt-ltb n 1248 h)
family_at_lem PedestrianDetector n l h = simp (le-ltb n 608 (omega arith), le-ltb n 1248 l, lt-ltb n 1280 h)
family_at_lem Pattern n l h = simp (le-ltb n 608 (omega arith), le-ltb n 1248 (omega arith), le-ltb n 1280 l, lt-ltb n 1408 h)
family_at_lem Split n l h = simp (le-ltb n 608 (omega arith), le-ltb n 1248 (omega arith), le-ltb n 1280 (omega arith), le-ltb n 1408 l, lt-ltb n 2176 h)
family_at_lem Action n l h = simp (le-ltb n 608 (omega arith), le-ltb n 1248 (omega arith), le-ltb n 1280 (omega arith), le-ltb n 1408 (omega arith), le-ltb n 2176 l, lt-ltb n 2272 h)
family_at_lem Sequence n l h = simp (le-ltb n 608 (omega arith), le-ltb n 1248 (omega arith), le-ltb n 1280 (omega arith), le-ltb n 1408 (omega arith), le-ltb n 2176 (omega arith), le-ltb n 2272 l)

pub same_family : (p q : Place) → Stands p → Stands q → cell_of p ≡ cell_of q → p.family ≡ q.family
same_family p q s t e =
    sym (family_at_lem p.family (cell_of p) (cell_least p) (cell_last p s)) ∙ (ap family_at e ∙ family_at_lem q.family (cell_of q) (cell_least q) (cell_last q t))

-- a row and a place in it are told by their number
digits : (a b c d w : ℕ) → b < w → d < w → a * w + b ≡ c * w + d → (a ≡ c) × (b ≡ d)
digits a b c d w h k e = (
  sym (div-mul-add a w b h) ∙ (ap (λ x. x / w) e ∙ div-mul-add c w d k),
  sym (mod-mul-add a w b h) ∙ (ap (λ x. x % w) e ∙ mod-mul-add c w d k),
)

-- a column and an octet are told by their sum
in_row_same :
    (f : FamilyId) (c o d u : ℕ)
    → 1 ≤ c → c ≤ (shape_of f).columns → o < cells_of (column_of f c)
    → 1 ≤ d → d ≤ (shape_of f).columns → u < cells_of (column_of f d)
    → (c - 1) + o ≡ (d - 1) + u → (c ≡ d) × (o ≡ u)
in_row_same f c o d u c1 c2 oh d1 d2 uh e =
    let a : c ≡ d =
    ⊎_elim
    (λ x. ⊎_elim (λ y. omega (arith, x, y)) (λ y. omega (arith, x, y.0)) (last_list f d d1 d2))
    (λ x. ⊎_elim (λ y. omega (arith, x.0, y)) (λ y. omega (arith, x.0, y.0)) (last_list f d d1 d2))
    (last_list f c c1 c2) in
    (a, omega arith)

place_same : (p q : Place) → p.family ≡ q.family → p.first ≡ q.first → p.second ≡ q.second → p.column ≡ q.column → p.octet ≡ q.octet → p ≡ q
place_same p q a b c d e =
    let mk : FamilyId → ℕ → ℕ → ℕ → ℕ → Place = λ f x y z w. record { family = f; first = x; second = y; column = z; octet = w } in
    ap (λ f. mk f p.first p.second p.column p.octet) a
    ∙ (ap (λ x. mk q.family x p.second p.column p.octet) b
    ∙ (ap (λ x. mk q.family q.first x p.column p.octet) c
    ∙ (ap (λ x. mk q.family q.first q.second x p.octet) d
    ∙ ap (λ x. mk q.family q.first q.second q.column x) e)))

same_in :
    (f : FamilyId) (p q : Place) → p.family ≡ f → q.family ≡ f → Stands p → Stands q → cell_of p ≡ cell_of q → p ≡ q
same_in f p q pf qf s t e =
    let w = (shape_of f).row_cells in
    let l = (shape_of f).last_first in
    let pr : rows_before p ≡ (p.second - 1) * l + (p.first - 1) = ap (λ g. (p.second - 1) * (shape_of g).last_first + (p.first - 1)) pf in
    let qr : rows_before q ≡ (q.second - 1) * l + (q.first - 1) = ap (λ g. (q.second - 1) * (shape_of g).last_first + (q.first - 1)) qf in
    let pi : (p.column - 1) + p.octet < w = subst (λ g. (p.column - 1) + p.octet < (shape_of g).row_cells) pf (in_row p s) in
    let qi : (q.column - 1) + q.octet < w = subst (λ g. (q.column - 1) + q.octet < (shape_of g).row_cells) qf (in_row q t) in
    let pc : cell_of p ≡ (shape_of f).cells_before + (rows_before p * w + ((p.column - 1) + p.octet)) =
    cell_is p ∙ ap (λ g. (shape_of g).cells_before + (rows_before p * (shape_of g).row_cells + ((p.column - 1) + p.octet))) pf in
    let qc : cell_of q ≡ (shape_of f).cells_before + (rows_before q * w + ((q.column - 1) + q.octet)) =
    cell_is q ∙ ap (λ g. (shape_of g).cells_before + (rows_before q * (shape_of g).row_cells + ((q.column - 1) + q.octet))) qf in
    let rc = digits (rows_before p) ((p.column - 1) + p.octet) (rows_before q) ((q.column - 1) + q.octet) w pi qi (omega arith) in
    let p1 : p.first ≤ l = subst (λ g. p.first ≤ (shape_of g).last_first) pf s.first_last in
    let q1 : q.first ≤ l = subst (λ g. q.first ≤ (shape_of g).last_first) qf t.first_last in
    let ix = digits (p.second - 1) (p.first - 1) (q.second - 1) (q.first - 1) l (omega (arith, s.first_least)) (omega (arith, t.first_least)) (sym pr ∙ (rc.0 ∙ qr)) in
    let pl : min 1 (shape_of f).last_second ≤ p.second = subst (λ g. min 1 (shape_of g).last_second ≤ p.second) pf s.second_least in
    let ql : min 1 (shape_of f).last_second ≤ q.second = subst (λ g. min 1 (shape_of g).last_second ≤ q.second) qf t.second_least in
    let ph : p.second ≤ (shape_of f).last_second = subst (λ g. p.second ≤ (shape_of g).last_second) pf s.second_last in
    let qh : q.second ≤ (shape_of f).last_second = subst (λ g. q.second ≤ (shape_of g).last_second) qf t.second_last in
    let co = in_row_same f p.column p.octet q.column q.octet
    s.column_least (subst (λ g. p.column ≤ (shape_of g).columns) pf s.column_last) (subst (λ g. p.octet < cells_of (column_of g p.column)) pf s.octet_within)
    t.column_least (subst (λ g. q.column ≤ (shape_of g).columns) qf t.column_last) (subst (λ g. q.octet < cells_of (column_of g q.column)) qf t.octet_within)
    rc.1 in
    place_same p q (pf ∙ sym qf)
    (omega (arith, ix.1, s.first_least, t.first_least))
    (omega (arith, ix.0))
    co.0 co.1

pub one_place : (p q : Place) → Stands p → Stands q → cell_of p ≡ cell_of q → p ≡ q
one_place p q s t e = same_in q.family p q (same_family p q s t e) refl s t e

-- a cell of a family has a row of it, and a place in the row
pub row_below : (f : FamilyId) (s : Shape) (n : ℕ) → s ≡ shape_of f → (shape_of f).cells_before ≤ n → n < cells_end f → (n - s.cells_before) / s.row_cells < rows_of f
row_below f s n e l h = rw e (div_below (n - (shape_of f).cells_before) (shape_of f).row_cells (rows_of f) (omega (arith, (sizes f).columns_least, (sizes f).columns_last)) (omega arith))

pub at_below : (f : FamilyId) (s : Shape) (n : ℕ) → s ≡ shape_of f → n % s.row_cells < (shape_of f).row_cells
at_below f s n e = rw e (mod_below n (shape_of f).row_cells (omega (arith, (sizes f).columns_least, (sizes f).columns_last)))

-- a place made of a row's indices and of a column and octet has that cell
pub cell_made :
    (p : Place) (s : Shape) (n : ℕ) → s ≡ shape_of p.family → (shape_of p.family).cells_before ≤ n
    → rows_before p ≡ (n - s.cells_before) / s.row_cells
    → (p.column - 1) + p.octet ≡ (n - s.cells_before) % s.row_cells
    → cell_of p ≡ n
cell_made p s n e l r a =
    let w = (shape_of p.family).row_cells in
    let b = (shape_of p.family).cells_before in
    let r2 : rows_before p ≡ (n - b) / w = r ∙ ap (λ (x : Shape). (n - x.cells_before) / x.row_cells) e in
    let a2 : (p.column - 1) + p.octet ≡ (n - b) % w = a ∙ ap (λ (x : Shape). (n - x.cells_before) % x.row_cells) e in
    let m : rows_before p * w ≡ (n - b) / w * w = ap (λ x. x * w) r2 in
    omega (arith, cell_is p, div-add-mod' (n - b) w)

-- a family is known by its data ID
by_id : ℕ → FamilyId
by_id n =
    cond (eqb n 0) Phase
    (cond (eqb n 1) VehicleDetector
    (cond (eqb n 2) PedestrianDetector
    (cond (eqb n 3) Pattern
    (cond (eqb n 4) Split
    (cond (eqb n 5) Action Sequence)))))

by_id_lem : (f : FamilyId) → by_id (shape_of f).id ≡ f
unfolding by_id
by_id_lem Phase = refl
by_id_lem VehicleDetector = refl
by_id_lem PedestrianDetector = refl
by_id_lem Pattern = refl
by_id_lem Split = refl
by_id_lem Action = refl
by_id_lem Sequence = refl

pub one_place_named : (a : Address) (p q : Place) → Names a p → Names a q → p ≡ q
one_place_named a p q x y =
    place_same p q
    (sym (by_id_lem p.family) ∙ (ap by_id (x.id ∙ sym y.id) ∙ by_id_lem q.family))
    (x.first ∙ sym y.first)
    (x.second ∙ sym y.second)
    (x.column ∙ sym y.column)
    (x.octet ∙ sym y.octet)

pub one_cell_named : (a : Address) (n m : ℕ) → NamesCell a n → NamesCell a m → n ≡ m
one_cell_named a n m x y = sym x.2 ∙ (ap cell_of (one_place_named a x.0 y.0 x.1 y.1) ∙ y.2)

pub number_named : (p : Place) → Stands p → is_list (column_of p.family p.column).kind ≡ false → (a : Address) × NamesCell a (cell_of p)
number_named p s n =
    let one : cells_of (column_of p.family p.column) ≡ 1 = ap (λ b. cond b 17 1) n in (
      record { id = (shape_of p.family).id; column = p.column; first = p.first; second = p.second },
      (p, record { stands = s; id = refl; column = refl; first = refl; second = refl; octet = omega (arith, s.octet_within); number = n }, refl),
    )

-- two tests that go together
pub same_test : (a b c d : ℕ) → (a ≡ b → c ≡ d) → (c ≡ d → a ≡ b) → eqb a b ≡ eqb c d
same_test a b c d there back =
    elim (cases_eq a b) [
      | inl e ↦ eq-eqb a b e ∙ sym (eq-eqb c d (there e))
      | inr n ↦ ne_eqb a b n ∙ sym (ne_eqb c d (λ e. n (back e)))
    ]

-- in a row, a column before the last is told by its place
pub column_at : (p : Place) → Stands p → (c : ℕ) → 1 ≤ c → c < (shape_of p.family).columns → eqb ((p.column - 1) + p.octet) (c - 1) ≡ eqb p.column c
column_at p s c l h =
    let least = s.column_least in
    let within = s.octet_within in
    elim (last_list p.family p.column s.column_least s.column_last) [
      | inl one ↦ same_test _ _ _ _ (λ e. omega (arith, one)) (λ e. omega (arith, one))
      | inr last ↦ same_test _ _ _ _ (λ e. omega (arith, last.0)) (λ e. omega (arith, last.0))
    ]

-- a place by its parts
abbrev pub place : FamilyId → ℕ → ℕ → ℕ → ℕ → Place
place f x y c o = record { family = f; first = x; second = y; column = c; octet = o }

-- a family's columns are among all
pub column_within : (f : FamilyId) (c : ℕ) → 1 ≤ c → c ≤ (shape_of f).columns → (shape_of f).columns_before + (c - 1) < 47
column_within Phase c l h = omega arith
column_within VehicleDetector c l h = omega arith
column_within PedestrianDetector c l h = omega arith
column_within Pattern c l h = omega arith
column_within Split c l h = omega arith
column_within Action c l h = omega arith
column_within Sequence c l h = omega arith

-- what the ways from a place to its cell and back need
pub ruleset cell_facts = (cell_sum, cell_below, row_below, at_below, cell_made)
