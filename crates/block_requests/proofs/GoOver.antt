-- A block taken from one table and set into another gives the same rows there.
use Rattle.std.proofs.Common.{◌≡◌, ℕ, zero, suc, ◌+◌, ◌<◌, ◌≤◌, List, [], ◌∷◌, map, length, replicate, sym, refl, ◌∙◌, subst, arith}
use Rattle.std.specs.List.{range_with_len}
use Rattle.std.proofs.lemmas.List.FromFn.{get_or-map-range_with_len}
use Rattle.tables.specs.declared.family.FamilyId.{FamilyId}
use Rattle.values.specs.Reading.{EachOf}
use Rattle.headers.specs.Headers.{family_named, rows_in, InTable}
use Rattle.headers.proofs.HeaderFacts.{spans_in_table}
use Rattle.blocks.specs.Rows.{row_in, rows_shown, writes_from}
use Rattle.blocks.specs.Blocks.{BlockOf, BlockMeans}
use Rattle.blocks.proofs.RowFacts.{row_stands}
use Rattle.blocks.proofs.BackFacts.{block_back}
use Rattle.families.specs.Families.{RowOf, layout_of}
use Rattle.families.specs.FamilyFacts.{layout_lawful, layout_ascending, layout_tells}
use Rattle.transfers.specs.Gets.{Outcome, accepted}
use Rattle.transfers.specs.Sets.{Taken}
use Rattle.block_requests.specs.Transfers.{SetBlockTo}
use Rattle.block_requests.specs.Transfers.SetBlockTo.{faulty, taken}
use Rattle.block_requests.specs.RoundTrip.{BlocksGoOver, AllowedBlocksGoOver}
use Rattle.block_requests.proofs.OneTransfer.{block_not_both, same_block, one_family}
use Rattle.block_requests.proofs.StoredFacts.{rows-stored}

-- each of the rows counted from i on is allowed
all_allowed : {R : Type 0} (P : R → Type 0) (row : ℕ → R) (i n : ℕ) → ((k : ℕ) → i ≤ k → k < i + n → P (row k)) → EachOf (λ (u : ℕ). P) (replicate n 0) (map row (range_with_len i n))
all_allowed P row i zero h = tt
all_allowed P row i (suc n) h = (h i (omega arith) (omega arith), all_allowed P row (i + 1) n (λ k a b. h k (omega arith) (omega arith)))

module _ (f : FamilyId) (cells body os before : List ℕ) (b : BlockOf f (layout_of f) cells body os)
    (ok : (k : ℕ) → k < rows_in b.spans → (layout_of f).allowed (row_in cells f (layout_of f) b.spans k)) where
  abbrev shown : List (RowOf f)
  shown = rows_shown cells f (layout_of f) b.spans (rows_in b.spans)

  in_table : InTable f b.spans
  in_table = spans_in_table f body 2 b.spans (length body) b.means.0

  allowed_rows : EachOf (λ (u : ℕ). (layout_of f).allowed) (replicate (rows_in b.spans) 0) shown
  allowed_rows = all_allowed (layout_of f).allowed (row_in cells f (layout_of f) b.spans) 0 (rows_in b.spans) (λ k a l. ok k (omega arith))

  read_back : (family_named.Means os 0 f 2) × BlockMeans f (layout_of f) os (writes_from f (layout_of f) b.spans 0 shown)
  read_back =
      let k = block_back f (layout_of f) (layout_lawful f) b.spans shown in_table allowed_rows in
      subst (λ s. (family_named.Means s 0 f 2) × BlockMeans f (layout_of f) s (writes_from f (layout_of f) b.spans 0 shown)) (sym b.octets)
      (k.0, record { spans = b.spans; sent = shown; marks = k.1.0; means = k.1.1; writes = refl })

  pub gone_over : (o : Outcome) (after : List ℕ) → SetBlockTo before os o after
      → (o ≡ accepted (0 ∷ [])) × ((k : ℕ) → k < rows_in b.spans → row_in after f (layout_of f) b.spans k ≡ row_in cells f (layout_of f) b.spans k)
  gone_over o after (faulty w e r a) = absurd (block_not_both os _ w f e read_back.0 read_back.1)
  gone_over o after (taken g ws n m r t) =
      let same : ws ≡ writes_from f (layout_of f) b.spans 0 shown = same_block f os ws _ (subst (λ h. BlockMeans h (layout_of h) os ws) (one_family os g f n read_back.0) m) read_back.1 in (
        r,
        λ k l. rows-stored f (layout_of f) (layout_lawful f) (layout_ascending f) b.spans shown before after in_table allowed_rows (subst (λ us. Taken before us after) same t) k (row_in cells f (layout_of f) b.spans k) l
            ∙ get_or-map-range_with_len (row_in cells f (layout_of f) b.spans) 0 (rows_in b.spans) k k (row_in cells f (layout_of f) b.spans k) l (omega arith),
      )

pub blocks_go_over : BlocksGoOver
blocks_go_over f cells body os before o after n b ok s = gone_over f cells body os before b ok o after s

-- the rows of a table whose cells are all allowed are allowed
pub allowed_blocks_go_over : AllowedBlocksGoOver
allowed_blocks_go_over f cells body os before o after all n b s =
    blocks_go_over f cells body os before o after n b
    (λ k l. layout_tells f cells _ _ all (row_stands f b.spans k (spans_in_table f body 2 b.spans (length body) b.means.0) l)) s
