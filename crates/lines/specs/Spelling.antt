-- Octets written as capital hexadecimal pairs parted by one space. Assumes nothing.
use Rattle.std.specs.Prelude.{◌≡◌, ℕ, ◌+◌, ◌/◌, ◌%◌, ◌<◌, ◌≤◌, cond, List, [], ◌∷◌, length, take, nat_lt}

-- the code of a capital hexadecimal digit
abbrev pub digit_of : ℕ → ℕ
digit_of d = cond (nat_lt d 10) (48 + d) (55 + d)

-- two digits for each octet, and a space between two octets
abbrev pub spelled : List ℕ → List ℕ
spelled [] = []
spelled (x ∷ []) = digit_of (x / 16) ∷ digit_of (x % 16) ∷ []
spelled (x ∷ y ∷ rest) = digit_of (x / 16) ∷ digit_of (x % 16) ∷ 32 ∷ spelled (y ∷ rest)

abbrev pub Octets : List ℕ → Type 0
Octets [] = Unit {0}
Octets (x ∷ xs) = (x < 256) × Octets xs

-- the most octets that a line may spell
abbrev pub longest_line : ℕ
longest_line = 1024

-- a line that spells octets, and not too many
pub record Legible (line : List ℕ) : Type 0 where
  pub octets : List ℕ
  pub small : Octets octets
  pub few : length octets ≤ longest_line
  pub written : line ≡ spelled octets

-- one byte more than the longest such line has
abbrev pub line_room : ℕ
line_room = 3072

-- the front of a line in a buffer, all of it unless the line is too long to be legible
abbrev pub Holds : List ℕ → List ℕ → Type 0
Holds front line = front ≡ take line_room line
