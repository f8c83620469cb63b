use Rattle.std.specs.Prelude.{ℕ, ◌+◌, ◌≤◌, Bool, cond, ◌&&◌, List, [], ◌∷◌, length, Some, None, Option, ◌==◌, nat_le, nat_lt, slice_index, slice_set}
use Rattle.memory.specs.Top.{top_of}

-- What a read of the cell n answers: its value, or nothing from the count on.
abbrev pub read_of : List ℕ → ℕ → Option ℕ
read_of cs n = cond (nat_lt n (length cs)) (Some (slice_index cs n)) None

-- Whether a write of v to the cell n is taken: where there is such a cell and v is not above its top.
abbrev pub takes : List ℕ → ℕ → ℕ → Bool
takes cs n v = nat_lt n (length cs) && nat_le v (top_of n)

-- The cells after a write of v to the cell n: as before where it is not taken.
abbrev pub written : List ℕ → ℕ → ℕ → List ℕ
written cs n v = cond (takes cs n v) (slice_set cs n v) cs

-- No cell is above its top.
abbrev pub Bounded : List ℕ → Type 0
Bounded cs = (n : ℕ) → slice_index cs n ≤ top_of n

-- At how many places two lists of cells differ.
abbrev pub differing : List ℕ → List ℕ → ℕ
differing [] ds = 0
differing (c ∷ cs) [] = 0
differing (c ∷ cs) (d ∷ ds) = cond (c == d) 0 1 + differing cs ds
