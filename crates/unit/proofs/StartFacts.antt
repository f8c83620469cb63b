-- The factory table, written cell by cell.
use Rattle.std.proofs.Common.{◌≡◌, ℕ, ◌+◌, ◌<◌, ◌≤◌, List, [], ◌∷◌, ◌++◌, length, take, set, sym, ap, ◌∙◌, inl, inr, arith}
use Rattle.std.proofs.lemmas.List.{take_more, take_more_set, take_all, length-set}
use Rattle.std.proofs.lemmas.Bool.{cases_Bool}
use Rattle.std.proofs.lemmas.Bool.Decides.{nat_tests}
use Rattle.memory.specs.Top.{wide, top_of, cell_count}
use Rattle.memory.specs.Cells.{written}
use Rattle.memory.proofs.Facts.{length-list_by, get_or-list_by, top_wide, top_narrow, written_yes}
use Rattle.tables.specs.Factory.{factory, factory_cell}

top_least : (n : ℕ) → 255 ≤ top_of n
top_least n =
    elim (cases_Bool (wide n)) [
      | inl e ↦ omega (arith, top_wide n e)
      | inr e ↦ omega (arith, top_narrow n e)
    ]

factory_small : (n : ℕ) → factory_cell n ≤ 2
factory_small n = grind (arith, nat_tests)

pub length-factory : length factory ≡ cell_count
unfolding factory
length-factory = length-list_by factory_cell cell_count

pub factory_step :
    (cells : List ℕ) (i : ℕ) → i < cell_count → length cells ≡ cell_count → take i cells ≡ take i factory
    → (take (i + 1) (written cells i (factory_cell i)) ≡ take (i + 1) factory) × (length (written cells i (factory_cell i)) ≡ cell_count)
unfolding factory
factory_step cells i h l t =
    let h2 : i < length cells = omega arith in
    let w : written cells i (factory_cell i) ≡ set cells i (factory_cell i) = written_yes cells i (factory_cell i) h2 (omega (arith, factory_small i, top_least i)) in (
      ap (take (i + 1)) w
          ∙ (take_more_set cells i (factory_cell i) h2
          ∙ (ap (λ x. x ++ factory_cell i ∷ []) t
          ∙ (ap (λ y. take i factory ++ y ∷ []) (sym (get_or-list_by factory_cell cell_count i h))
          ∙ sym (take_more factory i 0 (omega (arith, length-factory)))))),
      ap length w ∙ (length-set cells i (factory_cell i) ∙ l),
    )

pub factory_end : (cells : List ℕ) (n : ℕ) → cell_count ≤ n → length cells ≡ cell_count → take n cells ≡ take n factory → cells ≡ factory
factory_end cells n h l t = sym (take_all n cells (omega arith)) ∙ (t ∙ take_all n factory (omega (arith, length-factory)))
