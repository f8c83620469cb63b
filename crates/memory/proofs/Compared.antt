-- A memory copied into another, cell by cell.
use Rattle.std.proofs.Common.{◌≡◌, ℕ, ◌+◌, ◌<◌, ◌≤◌, List, [], ◌∷◌, ◌++◌, length, get_or, take, set, Some, sym, ap, ◌∙◌, arith}
use Rattle.std.proofs.lemmas.List.{take_more, take_more_set, length-set}
use Rattle.memory.specs.Top.{top_of}
use Rattle.memory.specs.Cells.{read_of, written}
use Rattle.memory.proofs.Facts.{read_is, written_yes}

-- the copy of one more cell: fs are the cells to copy, gs the same as the turn finds them, us those copied to after it
pub copy_step :
    (ts fs gs us : List ℕ) (i v : ℕ)
    → gs ≡ fs → i < length fs → length ts ≡ length fs → take i ts ≡ take i fs → Some v ≡ read_of gs i → get_or fs i 0 ≤ top_of i
    → us ≡ written ts i v
    → (take (i + 1) us ≡ take (i + 1) fs) × (length us ≡ length fs)
copy_step ts fs gs us i v same h l t read b after =
    let e : v ≡ get_or fs i 0 = read_is fs i v h (read ∙ ap (λ cs. read_of cs i) same) in
    let h2 : i < length ts = omega arith in
    let w : us ≡ set ts i v = after ∙ written_yes ts i v h2 (omega arith) in (
      ap (take (i + 1)) w ∙ (take_more_set ts i v h2 ∙ (ap (λ x. x ++ v ∷ []) t ∙ (ap (λ y. take i fs ++ y ∷ []) e ∙ sym (take_more fs i 0 h)))),
      ap length w ∙ (length-set ts i v ∙ l),
    )
