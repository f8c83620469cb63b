-- How a line stands on the page.
use Rattle.std.specs.Prelude.{◌≡◌, ℕ, ◌-◌, ◌/◌, ◌%◌, ◌<◌, ◌≤◌, List, [], ◌∷◌, length, slice_index, slice_index_or}
use Rattle.lines.specs.Spelling.{digit_of}

-- a byte that is printed as it is
abbrev pub Printed : ℕ → Type 0
Printed x = (32 ≤ x) × (x ≤ 126)

-- a line of such bytes that ends in no space
pub record Plain (line : List ℕ) : Type 0 where
  pub printed : (k : ℕ) → k < length line → Printed (slice_index line k)
  pub close : slice_index_or line (length line - 1) 0 ≡ 32 → ⊥

-- any other byte: its pair in angle brackets
abbrev pub bracketed : ℕ → List ℕ
bracketed x = 60 ∷ digit_of (x / 16) ∷ digit_of (x % 16) ∷ 62 ∷ []
