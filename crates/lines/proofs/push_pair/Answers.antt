use Rattle.std.proofs.Common.{◌≡◌, ℕ, List, [], ◌∷◌, ◌++◌, ◌∙◌, append_assoc, rules}
use Rattle.lines.proofs.push_pair.Goals as goal

two_more : (s t u e f : List ℕ) (a b x y : ℕ) → t ≡ s ++ e → u ≡ t ++ f → e ≡ a ∷ [] → f ≡ b ∷ [] → a ≡ x → b ≡ y → u ≡ s ++ (x ∷ y ∷ [])
two_more s t u e f a b x y p q v w m n =
    let j : u ≡ (s ++ x ∷ []) ++ y ∷ [] = cc in j ∙ append_assoc s (x ∷ []) (y ∷ [])

pub returns : goal.returns
returns c = two_more _ _ _ _ _ _ _ _ _ c.in_ok-push.ensures.bytes c.in_ok-push-2.ensures.bytes (c.push.ensures.ascii (search rules)) (c.push-2.ensures.ascii (search rules)) c.digit_of.ensures c.digit_of-2.ensures
