-- A get block and a set block have one outcome: the definitions leave no choice.
use Rattle.std.proofs.Common.{◌≡◌, ℕ, ◌≤◌, ◌⊎◌, List, ◌∷◌, length, sym, refl, ap, ◌∙◌, subst, inl, inr, ⊎_elim, arith}
use Rattle.tables.specs.declared.family.FamilyId.{FamilyId}
use Rattle.tables.specs.declared.work.StagedWrite.{StagedWrite}
use Rattle.tables.specs.Families.{shape_of}
use Rattle.values.specs.declared.Fault.{Fault}
use Rattle.values.specs.Reading.{whole, Decided, place_in}
use Rattle.values.proofs.Parts.{whole_decided, whole_near}
use Rattle.headers.specs.Headers.{family_named, spans_of, rows_in}
use Rattle.headers.proofs.HeaderFacts.{family_decided, family_near, spans_decided, spans_near}
use Rattle.blocks.specs.Blocks.{contents, BlockMeans, BlockOf, block_octets}
use Rattle.blocks.specs.Rows.{rows_shown, writes_from}
use Rattle.blocks.proofs.BlockFacts.{contents_decided, contents_near}
use Rattle.families.specs.Families.{layout_of}
use Rattle.families.specs.FamilyFacts.{layout_lawful, layout_small}
use Rattle.transfers.specs.Gets.{Outcome, accepted, refused}
use Rattle.transfers.specs.Sets.{Taken}
use Rattle.transfers.proofs.OneTransfer.{one_taken}
use Rattle.block_requests.specs.Faults.{HeaderFaults, BlockFaults, refusal_of}
use Rattle.block_requests.specs.Faults.HeaderFaults.{in_front as header-front, in_spans}
use Rattle.block_requests.specs.Faults.BlockFaults.{in_front as block-front, in_contents}
use Rattle.block_requests.specs.Judged.{IsBlock, BlocksJudged}
use Rattle.block_requests.specs.Transfers.{GotBlock, SetBlockTo}
use Rattle.block_requests.specs.Transfers.GotBlock.{faulty as got-faulty, block}
use Rattle.block_requests.specs.Transfers.SetBlockTo.{faulty as set-faulty, taken}

-- octets name one family
pub one_family : (s : List ℕ) (f g : FamilyId) → family_named.Means s 0 f 2 → family_named.Means s 0 g 2 → f ≡ g
one_family s f g h k = (family_decided.one_row s 0 f g 2 2 h k).0

-- and it is named by two octets
named_end : (s : List ℕ) (f : FamilyId) (j : ℕ) → family_named.Means s 0 f j → j ≡ 2
named_end s f j h = omega (arith, h.one.takes, h.two.takes)

named_within : (s : List ℕ) (f : FamilyId) → family_named.Means s 0 f 2 → 2 ≤ length s
named_within s f h = family_decided.within s 0 f 2 (omega arith) h

header_decided : (f : FamilyId) → Decided (whole (spans_of f))
header_decided f = whole_decided (spans_decided (shape_of f).last_first (shape_of f).last_second)

block_decided : (f : FamilyId) → Decided (contents f (layout_of f))
block_decided f = contents_decided f (layout_of f) (layout_lawful f)

-- a header, or a block, has one fault
one_header_fault : (s : List ℕ) (v w : Fault) → HeaderFaults s v → HeaderFaults s w → v ≡ w
one_header_fault s v w (header-front e) (header-front d) = family_decided.one_fault s 0 v w e d
one_header_fault s v w (header-front e) (in_spans f n d) = absurd (family_decided.not_both s 0 f 2 v n e)
one_header_fault s v w (in_spans f n d) (header-front e) = absurd (family_decided.not_both s 0 f 2 w n e)
one_header_fault s v w (in_spans f n d) (in_spans g m e) =
    (header_decided f).one_fault s 2 v w d (subst (λ h. (whole (spans_of h)).Faults s 2 w) (one_family s g f m n) e)

one_block_fault : (s : List ℕ) (v w : Fault) → BlockFaults s v → BlockFaults s w → v ≡ w
one_block_fault s v w (block-front e) (block-front d) = family_decided.one_fault s 0 v w e d
one_block_fault s v w (block-front e) (in_contents f n d) = absurd (family_decided.not_both s 0 f 2 v n e)
one_block_fault s v w (in_contents f n d) (block-front e) = absurd (family_decided.not_both s 0 f 2 w n e)
one_block_fault s v w (in_contents f n d) (in_contents g m e) =
    (block_decided f).one_fault s 2 v w d (subst (λ h. (contents h (layout_of h)).Faults s 2 w) (one_family s g f m n) e)

-- never both a fault and a block
header_not_both : (cells s os : List ℕ) (w : Fault) (f : FamilyId) → HeaderFaults s w → family_named.Means s 0 f 2 → BlockOf f (layout_of f) cells s os → ⊥
header_not_both cells s os w f (header-front e) n b = family_decided.not_both s 0 f 2 w n e
header_not_both cells s os w f (in_spans g m e) n b =
    (header_decided f).not_both s 2 b.spans (length s) w b.means (subst (λ h. (whole (spans_of h)).Faults s 2 w) (one_family s g f m n) e)

pub block_not_both : (s : List ℕ) (ws : List StagedWrite) (w : Fault) (f : FamilyId) → BlockFaults s w → family_named.Means s 0 f 2 → BlockMeans f (layout_of f) s ws → ⊥
block_not_both s ws w f (block-front e) n b = family_decided.not_both s 0 f 2 w n e
block_not_both s ws w f (in_contents g m e) n b =
    (block_decided f).not_both s 2 (b.spans, (b.marks, b.sent)) (length s) w b.means (subst (λ h. (contents h (layout_of h)).Faults s 2 w) (one_family s g f m n) e)

-- a header has one block, and a block one list of writes
one_block : (f : FamilyId) (cells s os ps : List ℕ) → BlockOf f (layout_of f) cells s os → BlockOf f (layout_of f) cells s ps → os ≡ ps
one_block f cells s os ps b c =
    let e : b.spans ≡ c.spans = ((header_decided f).one_row s 2 b.spans c.spans (length s) (length s) b.means c.means).0 in
    b.octets ∙ (ap (λ sp. block_octets f (layout_of f) sp (rows_shown cells f (layout_of f) sp (rows_in sp))) e ∙ sym c.octets)

pub same_block : (f : FamilyId) (s : List ℕ) (vs ws : List StagedWrite) → BlockMeans f (layout_of f) s vs → BlockMeans f (layout_of f) s ws → vs ≡ ws
same_block f s vs ws b c =
    let e = ((block_decided f).one_row s 2 (b.spans, (b.marks, b.sent)) (c.spans, (c.marks, c.sent)) (length s) (length s) b.means c.means).0 in
    b.writes ∙ (ap (λ p. writes_from f (layout_of f) p.0 0 p.1.1) e ∙ sym c.writes)

pub one_got_block : (cells body : List ℕ) (o p : Outcome) → GotBlock cells body o → GotBlock cells body p → o ≡ p
one_got_block cells body o p (got-faulty v e r) (got-faulty w d q) = r ∙ (ap (λ x. refused (refusal_of (length body) x)) (one_header_fault body v w e d) ∙ sym q)
one_got_block cells body o p (got-faulty v e r) (block f os n b q) = absurd (header_not_both cells body os v f e n b)
one_got_block cells body o p (block f os n b r) (got-faulty w d q) = absurd (header_not_both cells body os w f d n b)
one_got_block cells body o p (block f os n b r) (block g ps m c q) =
    r ∙ (ap (λ x. accepted (0 ∷ x)) (one_block f cells body os ps b (subst (λ h. BlockOf h (layout_of h) cells body ps) (one_family body g f m n) c)) ∙ sym q)

pub one_set_block : (before body : List ℕ) (o p : Outcome) (a b : List ℕ) → SetBlockTo before body o a → SetBlockTo before body p b → (o ≡ p) × (a ≡ b)
one_set_block before body o p a b (set-faulty v e r x) (set-faulty w d q y) = (r ∙ (ap (λ z. refused (refusal_of (length body) z)) (one_block_fault body v w e d) ∙ sym q), x ∙ sym y)
one_set_block before body o p a b (set-faulty v e r x) (taken f ws n c q y) = absurd (block_not_both body ws v f e n c)
one_set_block before body o p a b (taken f ws n c r x) (set-faulty w d q y) = absurd (block_not_both body ws w f d n c)
one_set_block before body o p a b (taken f vs n c r x) (taken g ws m d q y) =
    let same : ws ≡ vs = same_block f body ws vs (subst (λ h. BlockMeans h (layout_of h) body ws) (one_family body g f m n) d) c in
    (r ∙ sym q, one_taken before a b vs x (subst (λ us. Taken before us b) same y))

-- a fault's place fits two octets
pub header_place : (s : List ℕ) (w : Fault) → HeaderFaults s w → place_in (length s) w ≤ 1023
header_place s w (header-front e) = omega (arith, family_near.fault s 0 w e)
header_place s w (in_spans f n e) = omega (arith, (whole_near (spans_near (shape_of f).last_first (shape_of f).last_second)).fault s 2 w e)

pub block_place : (s : List ℕ) (w : Fault) → BlockFaults s w → place_in (length s) w ≤ 1023
block_place s w (block-front e) = omega (arith, family_near.fault s 0 w e)
block_place s w (in_contents f n e) = omega (arith, (contents_near f (layout_of f) (layout_lawful f) (layout_small f)).fault s 2 w e)

block_judged : (s : List ℕ) → ((ws : List StagedWrite) × IsBlock s ws) ⊎ ((w : Fault) × BlockFaults s w)
block_judged s =
    ⊎_elim
    (λ n.
    let f = n.0 in
    let named : family_named.Means s 0 f 2 = subst (λ j. family_named.Means s 0 f j) (named_end s f n.1 n.2) n.2 in
    ⊎_elim
    (λ m.
    let sp = m.0.0 in
    let w = m.2.two.two in
    let e : m.1 ≡ length s = omega (arith, w.1, (block_decided f).within s 2 m.0 m.1 (named_within s f named) m.2) in
    inl (
      writes_from f (layout_of f) sp 0 m.0.1.1,
      (f, named, record { spans = sp; sent = m.0.1.1; marks = m.0.1.0; means = subst (λ j. (contents f (layout_of f)).Means s 2 m.0 j) e m.2; writes = refl }),
    ))
    (λ w. inr (w.0, in_contents f named w.1))
    ((block_decided f).judged s 2))
    (λ w. inr (w.0, block-front w.1))
    (family_decided.judged s 0)

pub blocks_judged : BlocksJudged
blocks_judged =
    record {
      judged = block_judged;
      one_block = λ s vs ws b c. same_block b.0 s vs ws b.2 (subst (λ h. BlockMeans h (layout_of h) s ws) (one_family s c.0 b.0 c.1 b.1) c.2);
      one_fault = one_block_fault;
      not_both = λ s ws w b e. block_not_both s ws w b.0 e b.1 b.2;
    }
