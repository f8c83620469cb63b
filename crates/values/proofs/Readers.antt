-- Readers one after the other, over the same octets.
use Rattle.std.proofs.Common.{◌≡◌, ℕ, ◌+◌, ◌<◌, ◌≤◌, List, [], ◌∷◌, ◌++◌, length, get_or, take, drop, sym, refl, ap, ◌∙◌, subst, inl, take_all}
use Rattle.std.proofs.lemmas.List.{take_more, drop_more, take-append-drop}
use denote.Ref.{Bor}
use Rattle.values.specs.declared.reader.Reader.{Reader}
use Rattle.values.specs.declared.Fault.{Fault}
use Rattle.values.specs.Reading.{Reading, Took, each}
use Rattle.values.proofs.Parts.{each_append, each_after}

-- what a reader reads that stands behind octets already read
pub record TookOn {R : Type 0} (rd : Reading R) (before mid after : Reader) (r : R) : Type 0 where
  pub same : after.octets ≡ before.octets
  pub means : rd.Means before.octets.now mid.at r after.at

pub took_on : {R : Type 0} {rd : Reading R} (b : Reader) {a z : Reader} {r : R} → a.octets ≡ b.octets → Took rd a z r → TookOn rd b a z r
took_on {rd = rd} b {a = a} {z = z} {r = r} e t = record { same = t.same ∙ e; means = subst (λ (o : Bor (List ℕ)). rd.Means o.now a.at r z.at) e t.means }

pub fault_on : {R : Type 0} (rd : Reading R) (b a : Reader) → a.octets ≡ b.octets → (w : Fault) → rd.Faults a.octets.now a.at w → rd.Faults b.octets.now a.at w
fault_on rd b a e w f = subst (λ (o : Bor (List ℕ)). rd.Faults o.now a.at w) e f

-- one part more of a list of parts
module _ {C R : Type 0} (part : C → Reading R) (cs : List C) (d : C) (i : ℕ) {b a : Reader} {xs : List R} (h : Took (each part (take i cs)) b a xs) where
  pub each_read : {x : R} {z : Reader} → i < length cs → Took (part (get_or cs i d)) a z x → Took (each part (take (i + 1) cs)) b z (xs ++ x ∷ [])
  each_read {x = x} {z = z} l t =
      let u = took_on b h.same t in
      subst (λ ds. Took (each part ds) b z (xs ++ x ∷ [])) (sym (take_more cs i d l))
      (record { same = u.same; means = each_append part (take i cs) (get_or cs i d ∷ []) b.octets.now b.at xs (x ∷ []) a.at z.at h.means (z.at, u.means, refl) })

  pub each_wrong : (w : Fault) → i < length cs → (part (get_or cs i d)).Faults a.octets.now a.at w → (each part cs).Faults b.octets.now b.at w
  each_wrong w l f =
      let whole : take i cs ++ get_or cs i d ∷ drop (i + 1) cs ≡ cs = ap (λ t. take i cs ++ t) (sym (drop_more cs i d l)) ∙ take-append-drop i cs in
      subst (λ ds. (each part ds).Faults b.octets.now b.at w) whole
      (each_after part (take i cs) (get_or cs i d ∷ drop (i + 1) cs) b.octets.now b.at xs a.at w h.means (inl (fault_on (part (get_or cs i d)) b a h.same w f)))

  pub each_done : length cs ≤ i → Took (each part cs) b a xs
  each_done l = subst (λ ds. Took (each part ds) b a xs) (take_all i cs l) h
