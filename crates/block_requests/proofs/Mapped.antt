-- A result whose error was turned into another.
use Rattle.std.proofs.Common.{◌≡◌, ℕ, Ok, Err, Result, sym, subst, arith, MatchResult}
use Rattle.std.specs.Result.{IsErrAnd}

pub mapped :
    {A E F : Type 0} (r : Result A E) (q : Result A F) (G : E → F → Type 0) (P P2 : A → Type 0) (Q : E → Type 0) (Q2 : F → Type 0)
    → MatchResult r (λ x. q ≡ Ok x) (λ e. IsErrAnd q (G e)) → MatchResult r P Q
    → ((x : A) → P x → P2 x) → ((e : E) (w : F) → Q e → G e w → Q2 w) → MatchResult q P2 Q2
mapped (Ok x) q G P P2 Q Q2 m t at_ok at_err = subst (λ z. MatchResult z P2 Q2) (sym m) (at_ok x t)
mapped (Err e) (Ok x) G P P2 Q Q2 m t at_ok at_err = absurd m
mapped (Err e) (Err w) G P P2 Q Q2 m t at_ok at_err = at_err e w t m

module _ {A E F : Type 0} (r : Result A E) (q : Result A F) (G : E → F → Type 0) (P : A → Type 0) (Q : E → Type 0) where
  -- an acceptance was one before
  pub kept : (y : A) → MatchResult r (λ x. q ≡ Ok x) (λ e. IsErrAnd q (G e)) → MatchResult r P Q → q ≡ Ok y → (x : A) × P x
  kept y m t e =
      elim r as (λ s. MatchResult s (λ x. q ≡ Ok x) (λ d. IsErrAnd q (G d)) → MatchResult s P Q → (x : A) × P x) [
        | Ok x ↦ λ n p. (x, p)
        | Err d ↦ λ n p. absurd (subst (λ z. IsErrAnd z (G d)) e n)
      ] m t

  -- and an error was turned from another
  pub turned : (w : F) → MatchResult r (λ x. q ≡ Ok x) (λ e. IsErrAnd q (G e)) → MatchResult r P Q → q ≡ Err w → (d : E) × Q d × G d w
  turned w m t e =
      elim r as (λ s. MatchResult s (λ x. q ≡ Ok x) (λ d. IsErrAnd q (G d)) → MatchResult s P Q → (d : E) × Q d × G d w) [
        | Ok x ↦ λ n p. let z : ◌≡◌ {A = ℕ} 0 1 = cc in absurd (omega arith)
        | Err d ↦ λ n p. (d, p, subst (λ z. IsErrAnd z (G d)) e n)
      ] m t
