use Rattle.std.proofs.Common.{◌<◌, length, sym, refl, ◌∙◌, rules, ◌≡◌, subst, Ok, Err}
use Rattle.std.specs.Result.{MatchResult, IsErrAnd}
use Rattle.std.specs.Prelude.{Result}
use Rattle.values.specs.Reading.{ItemMeans, bad, gone, at_second}
use Rattle.headers.specs.Headers.{Standard}
use Rattle.headers.proofs.HeaderFacts.{part_at, part_length}
use Rattle.headers.proofs.family_named.Goals as goal

pub returns-in_default-rest : goal.returns-in_default-rest
returns-in_default-rest c =
    let s = c.args.block.now in
    let n = part_length s 1 in
    let some : 0 < length s = search rules in
    let one : ItemMeans Standard s 0 tt 1 = record { there = some; is = c.if-data_type-ne-STANDARD.false; takes = refl } in
    at_second tt 1 one (gone (search rules) refl)

-- an error that was turned into another
mapped :
    {A E F : Type 0} (r : Result A E) (q : Result A F) (G : E → F → Type 0) (P P2 : A → Type 0) (Q : E → Type 0) (Q2 : F → Type 0)
    → MatchResult r (λ x. q ≡ Ok x) (λ e. IsErrAnd q (G e)) → MatchResult r P Q
    → ((x : A) → P x → P2 x) → ((e : E) (w : F) → Q e → G e w → Q2 w) → MatchResult q P2 Q2
mapped (Ok x) q G P P2 Q Q2 m t at_ok at_err = subst (λ z. MatchResult z P2 Q2) (sym m) (at_ok x t)
mapped (Err e) (Ok x) G P P2 Q Q2 m t at_ok at_err = absurd m
mapped (Err e) (Err w) G P P2 Q Q2 m t at_ok at_err = at_err e w t m

pub returns : goal.returns
returns c =
    let s = c.args.block.now in
    let n = part_length s 1 in
    mapped _ c.map_err.result _ _ _ _ _ c.map_err.ensures.cases c.try_from.ensures
    (λ f e. record {
      mid = 1;
      one = record { there = search rules; is = c.if-data_type-ne-STANDARD.false; takes = refl };
      two = record { there = search rules; is = e ∙ part_at s 1 0; takes = refl };
    })
    (λ e w not by.
    let some : 0 < length s = search rules in
    let one : ItemMeans Standard s 0 tt 1 = record { there = some; is = c.if-data_type-ne-STANDARD.false; takes = refl } in
    at_second tt 1 one (bad (search rules) (λ f e. not f (e ∙ sym (part_at s 1 0))) (search rules)))
