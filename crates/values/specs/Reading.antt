-- What octets mean, item by item, and what is wrong with them.
use Rattle.std.specs.Prelude.{◌≡◌, ℕ, ◌+◌, ◌<◌, ◌≤◌, ◌⊎◌, List, [], ◌∷◌, ◌++◌, length, Ok, Err, Result, slice_index}
use Rattle.values.specs.declared.reader.Reader.{Reader}
use Rattle.values.specs.declared.Fault.{Fault}
use Rattle.values.specs.declared.Fault.TheVariants.{NotInTable, CountDiffers, NotAllowed, Over, Missing}

-- Means s i row j: the octets of s from offset i up to j mean this row. Faults s i w: this is what is wrong with s from i on.
pub record Reading (R : Type 0) : Type 1 where
  pub Means : List ℕ → ℕ → R → ℕ → Type 0
  pub Faults : List ℕ → ℕ → Fault → Type 0

-- the offset that names a fault in so many octets
abbrev pub place_in : ℕ → Fault → ℕ
place_in n (NotInTable k) = k
place_in n (CountDiffers k) = k
place_in n (NotAllowed k) = k
place_in n (Over k) = k
place_in n Missing = n

-- the octets from one reader's place up to the other's mean this row
pub record Took {R : Type 0} (rd : Reading R) (before after : Reader) (r : R) : Type 0 where
  pub same : after.octets ≡ before.octets
  pub means : rd.Means before.octets.now before.at r after.at

-- the octets from the reader's place on have this fault, and the reader stays as it was
pub record Failed {R : Type 0} (rd : Reading R) (before after : Reader) (w : Fault) : Type 0 where
  pub faults : rd.Faults before.octets.now before.at w
  pub stays : after ≡ before

-- what a function that reads answers: the row, and the reader behind its octets, or the fault, and the reader as it was
abbrev pub Read : {R : Type 0} → Reading R → Reader → Reader → Result R Fault → Type 0
Read rd before after (Ok r) = Took rd before after r
Read rd before after (Err w) = Failed rd before after w

-- one octet that stands for one of A; any other is at fault
pub record ItemMeans {A : Type 0} (Is : A → ℕ → Type 0) (s : List ℕ) (i : ℕ) (a : A) (j : ℕ) : Type 0 where
  pub there : i < length s
  pub is : Is a (slice_index s i)
  pub takes : j ≡ i + 1

pub data ItemFaults {A : Type 0} (Is : A → ℕ → Type 0) (fault : ℕ → Fault) (s : List ℕ) (i : ℕ) (w : Fault) : Type 0 where
  bad : i < length s → ((a : A) → Is a (slice_index s i) → ⊥) → w ≡ fault i → ItemFaults Is fault s i w
  gone : length s ≤ i → w ≡ Missing → ItemFaults Is fault s i w

abbrev pub item : {A : Type 0} → (A → ℕ → Type 0) → (ℕ → Fault) → Reading A
item Is fault = record { Means = ItemMeans Is; Faults = ItemFaults Is fault }

-- one part, and then another that may depend on what the first one meant
pub record ThenMeans {A B : Type 0} (first : Reading A) (second : A → Reading B) (s : List ℕ) (i : ℕ) (p : A × B) (j : ℕ) : Type 0 where
  pub mid : ℕ
  pub one : first.Means s i p.0 mid
  pub two : (second p.0).Means s mid p.1 j

pub data ThenFaults {A B : Type 0} (first : Reading A) (second : A → Reading B) (s : List ℕ) (i : ℕ) (w : Fault) : Type 0 where
  at_first : first.Faults s i w → ThenFaults first second s i w
  at_second : (a : A) (mid : ℕ) → first.Means s i a mid → (second a).Faults s mid w → ThenFaults first second s i w

abbrev pub then : {A B : Type 0} → Reading A → (A → Reading B) → Reading (A × B)
then first second = record { Means = ThenMeans first second; Faults = ThenFaults first second }

-- one part for each of a list, in its order
abbrev pub EachMeans : {C R : Type 0} → (C → Reading R) → List C → List ℕ → ℕ → List R → ℕ → Type 0
EachMeans part [] s i [] j = j ≡ i
EachMeans part [] s i (x ∷ xs) j = ⊥
EachMeans part (c ∷ cs) s i [] j = ⊥
EachMeans part (c ∷ cs) s i (x ∷ xs) j = (mid : ℕ) × (part c).Means s i x mid × EachMeans part cs s mid xs j

abbrev pub EachFaults : {C R : Type 0} → (C → Reading R) → List C → List ℕ → ℕ → Fault → Type 0
EachFaults part [] s i w = ⊥
EachFaults {C} {R} part (c ∷ cs) s i w = (part c).Faults s i w ⊎ ((x : R) × (mid : ℕ) × (part c).Means s i x mid × EachFaults part cs s mid w)

abbrev pub each : {C R : Type 0} → (C → Reading R) → List C → Reading (List R)
each part cs = record { Means = EachMeans part cs; Faults = EachFaults part cs }

-- the same, held by a value of another type
abbrev pub held : {Q R : Type 0} → (Q → R) → (Q → Type 0) → Reading R → Reading Q
held of Held rd = record { Means = λ s i q j. rd.Means s i (of q) j × Held q; Faults = rd.Faults }

-- the same, seen as a row
abbrev pub seen : {Q R : Type 0} → (Q → R) → Reading R → Reading Q
seen of rd = record { Means = λ s i q j. rd.Means s i (of q) j; Faults = rd.Faults }

-- all of the octets: the first one too many is at fault
pub data WholeFaults {R : Type 0} (rd : Reading R) (s : List ℕ) (i : ℕ) (w : Fault) : Type 0 where
  in_part : rd.Faults s i w → WholeFaults rd s i w
  over : (r : R) (j : ℕ) → rd.Means s i r j → j < length s → w ≡ Over j → WholeFaults rd s i w

abbrev pub whole : {R : Type 0} → Reading R → Reading R
whole rd = record { Means = λ s i r j. rd.Means s i r j × (length s ≤ j); Faults = WholeFaults rd }

-- octets mean one row or have one fault: never two of either, never both, never neither
pub record Decided {R : Type 0} (rd : Reading R) : Type 0 where
  pub judged : (s : List ℕ) (i : ℕ) → ((r : R) × (j : ℕ) × rd.Means s i r j) ⊎ ((w : Fault) × rd.Faults s i w)
  pub one_row : (s : List ℕ) (i : ℕ) (r q : R) (j k : ℕ) → rd.Means s i r j → rd.Means s i q k → (r ≡ q) × (j ≡ k)
  pub one_fault : (s : List ℕ) (i : ℕ) (v w : Fault) → rd.Faults s i v → rd.Faults s i w → v ≡ w
  pub not_both : (s : List ℕ) (i : ℕ) (r : R) (j : ℕ) (w : Fault) → rd.Means s i r j → rd.Faults s i w → ⊥
  pub within : (s : List ℕ) (i : ℕ) (r : R) (j : ℕ) → i ≤ length s → rd.Means s i r j → j ≤ length s

-- what is meant is allowed, and the octets of what is allowed mean it, whatever stands before and after them
pub record Written {R : Type 0} (rd : Reading R) (allowed : R → Type 0) (octets : R → List ℕ) : Type 0 where
  pub ok : (s : List ℕ) (i : ℕ) (r : R) (j : ℕ) → rd.Means s i r j → allowed r
  pub back : (r : R) → allowed r → (before after : List ℕ) → rd.Means (before ++ (octets r ++ after)) (length before) r (length (before ++ octets r))

-- a row takes at most so many octets, and a fault lies no farther on
pub record Near {R : Type 0} (rd : Reading R) (most : ℕ) : Type 0 where
  pub reach : (s : List ℕ) (i : ℕ) (r : R) (j : ℕ) → rd.Means s i r j → j ≤ i + most
  pub fault : (s : List ℕ) (i : ℕ) (w : Fault) → rd.Faults s i w → place_in (length s) w ≤ i + most

-- a value for each column, such as the column has, and their octets one after the other
abbrev pub EachOf : {C R : Type 0} → (C → R → Type 0) → List C → List R → Type 0
EachOf allowed [] [] = Unit {0}
EachOf allowed [] (x ∷ xs) = ⊥
EachOf allowed (c ∷ cs) [] = ⊥
EachOf allowed (c ∷ cs) (x ∷ xs) = allowed c x × EachOf allowed cs xs

abbrev pub each_octets : {C R : Type 0} → (C → R → List ℕ) → List C → List R → List ℕ
each_octets octets [] xs = []
each_octets octets (c ∷ cs) [] = []
each_octets octets (c ∷ cs) (x ∷ xs) = octets c x ++ each_octets octets cs xs

-- what each column takes, together
abbrev pub total : {C : Type 0} → (C → ℕ) → List C → ℕ
total most [] = 0
total most (c ∷ cs) = most c + total most cs
