-- The bits 2 and 3 of a detector's options.
use Rattle.std.proofs.Common.{◌≡◌, ℕ, ◌+◌, ◌-◌, ◌*◌, ◌/◌, ◌%◌, ◌^◌, ◌<◌, true, T, eqb, sym, ap, ◌∙◌, subst, inl, inr, arith, bit_and, eqb→eq, add-zero, mod-lt}
use Rattle.std.specs.Int.Bits.{and_zero_r}
use Rattle.std.proofs.lemmas.Nat.{and_block, and_mask, and_comm, and-not, div-add-mod'}
use Rattle.std.proofs.lemmas.Bool.{eq-eqb, ne_eqb, cases_eq}
use Rattle.tables.specs.Allowed.{both_set}

-- the bits of a mask that begins at bit k
masked : (v k m : ℕ) → 0 < 2 ^ k → bit_and v (m * 2 ^ k) ≡ bit_and (v / 2 ^ k) m * 2 ^ k
masked v k m h =
    let parts : bit_and v (m * 2 ^ k) ≡ bit_and (v / 2 ^ k * 2 ^ k + v % 2 ^ k) (m * 2 ^ k + 0) =
    ap (λ x. bit_and x (m * 2 ^ k)) (sym (div-add-mod' v (2 ^ k)))
    ∙ ap (λ x. bit_and (v / 2 ^ k * 2 ^ k + v % 2 ^ k) x) (sym (add-zero (m * 2 ^ k))) in
    omega (arith, parts, and_block k (v / 2 ^ k) m (v % 2 ^ k) 0 (mod-lt v h) h, and_zero_r (v % 2 ^ k))

two_bits : (v : ℕ) → bit_and v 12 ≡ v / 4 % 4 * 4
two_bits v = masked v 2 3 (omega arith) ∙ ap (λ x. x * 4) (and_mask (v / 4) 2)

bit_3 : (v : ℕ) → bit_and v 8 ≡ v / 8 % 2 * 8
bit_3 v = masked v 3 1 (omega arith) ∙ ap (λ x. x * 8) (and_mask (v / 8) 1)

pub both_bits : (v : ℕ) → eqb (bit_and v 12) 12 ≡ both_set v
both_bits v =
    elim (cases_eq (v / 4 % 4) 3) [
      | inl e ↦ eq-eqb _ _ (omega (arith, two_bits v)) ∙ sym (eq-eqb _ _ e)
      | inr ne ↦ ne_eqb _ _ (λ e. ne (omega (arith, two_bits v))) ∙ sym (ne_eqb _ _ ne)
    ]

pub bit_3_off : (v : ℕ) → v < 65536 → both_set v ≡ true → bit_and v 65527 ≡ v - 8
bit_3_off v h e =
    let b : v / 4 % 4 ≡ 3 = eqb→eq _ _ (subst T (sym e) tt) in
    omega (arith, and-not 16 8 v (omega arith) h, and_comm v 65527, and_comm v 8, bit_3 v)
