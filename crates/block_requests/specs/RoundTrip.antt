-- A block taken from one table and set into another.
use Rattle.std.specs.Prelude.{◌≡◌, ℕ, ◌<◌, List, [], ◌∷◌}
use Rattle.tables.specs.declared.family.FamilyId.{FamilyId}
use Rattle.tables.specs.Allowed.{AllAllowed}
use Rattle.headers.specs.Headers.{family_named, rows_in}
use Rattle.blocks.specs.Rows.{row_in}
use Rattle.blocks.specs.Blocks.{BlockOf}
use Rattle.families.specs.Families.{layout_of}
use Rattle.transfers.specs.Gets.{Outcome, accepted}
use Rattle.block_requests.specs.Transfers.{SetBlockTo}

-- A block that was got from a table with allowed rows is taken by any draft, and the draft then has those rows.
abbrev pub BlocksGoOver : Type 0
BlocksGoOver =
    (f : FamilyId) (cells body os before : List ℕ) (o : Outcome) (after : List ℕ)
    → family_named.Means body 0 f 2
    → (b : BlockOf f (layout_of f) cells body os)
    → ((k : ℕ) → k < rows_in b.spans → (layout_of f).allowed (row_in cells f (layout_of f) b.spans k))
    → SetBlockTo before os o after
    → (o ≡ accepted (0 ∷ [])) × ((k : ℕ) → k < rows_in b.spans → row_in after f (layout_of f) b.spans k ≡ row_in cells f (layout_of f) b.spans k)

-- A block that was got from a table whose cells are all allowed is taken by any draft, and the draft then has those rows.
abbrev pub AllowedBlocksGoOver : Type 0
AllowedBlocksGoOver =
    (f : FamilyId) (cells body os before : List ℕ) (o : Outcome) (after : List ℕ)
    → AllAllowed cells
    → family_named.Means body 0 f 2
    → (b : BlockOf f (layout_of f) cells body os)
    → SetBlockTo before os o after
    → (o ≡ accepted (0 ∷ [])) × ((k : ℕ) → k < rows_in b.spans → row_in after f (layout_of f) b.spans k ≡ row_in cells f (layout_of f) b.spans k)
