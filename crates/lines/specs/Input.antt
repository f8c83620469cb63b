-- The lines of an input, and what is done with each. Assumes nothing.
use Rattle.std.specs.Prelude.{ℕ, Bool, ◌==◌, List, [], ◌∷◌, length, take, if◌then◌else◌, Ok}
use Rattle.std.specs.Fn.{CalledAt, Mut}
use denote.Ref.{Bor}
use Rattle.std.specs.List.{slice_split}
use Rattle.std.specs.declared.result.Result.{Result}
use Rattle.lines.specs.Spelling.{line_room}

abbrev pub is_newline : ℕ → Bool
is_newline byte = byte == 10

-- what follows the last newline is a line only if it has a byte
abbrev pub without_empty_end : List (List ℕ) → List (List ℕ)
without_empty_end [] = []
without_empty_end (line ∷ []) = if length line == 0 then [] else line ∷ []
without_empty_end (line ∷ next ∷ more) = line ∷ without_empty_end (next ∷ more)

-- the lines of the input, each without its newline
abbrev pub lines_in : List ℕ → List (List ℕ)
lines_in bytes = without_empty_end (slice_split is_newline bytes)

-- f took the line and had nothing against it; of a line that is too long it saw the front
abbrev pub TakesLine : {F E : Type 0} → Mut F (Bor (List ℕ) × Unit {0}) (Result (Unit {0}) E) → F → List ℕ → F → Type 0
TakesLine g f line f' = CalledAt g f (take line_room line) (Ok tt) f'
