-- The lines of an input that are still to come. Assumes nothing.
use Rattle.std.proofs.Common.{◌≡◌, ℕ, ◌<◌, ◌==◌, false, List, [], ◌∷◌, ◌++◌, length, Option, Some, None, Ok, Err, IfSome, OnOk, if◌then◌else◌, sym, refl, ap, subst, ◌∙◌, arith, append_assoc, append-nil}
use Rattle.std.proofs.lemmas.List.Splits.{slice_split_none, slice_split_at, length-slice_split}
use Rattle.std.proofs.lemmas.List.Elements.{All-push}
use Rattle.std.specs.Fn.{Mut, CalledAt}
use Rattle.std.specs.Io.KnownBytes.{Consumes, IsAtEnd}
use Rattle.std.specs.List.{All, FoldsTo, slice_split}
use Rattle.std.specs.declared.result.Result.{Result}
use denote.Ref.{Bor}
use Rattle.lines.specs.Input.{is_newline, without_empty_end, lines_in, TakesLine}
use Rattle.lines.specs.Spelling.{Holds}

pub if_known : (known : Option (List ℕ)) (P : List ℕ → Type 0) → ((bytes : List ℕ) → known ≡ Some bytes → P bytes) → IfSome known P
if_known None P h = tt
if_known (Some bytes) P h = h bytes refl

pub if_taken : {E : Type 0} (r : Result (Unit {0}) E) (P : Type 0) → (r ≡ Ok tt → P) → OnOk r P
if_taken (Ok _) P h = h refl
if_taken (Err e) P h = tt

-- all before the last newline was taken, `line` came after it, and what takes the lines from here on takes all
pub record Ahead {F E : Type 0} (g : Mut F (Bor (List ℕ) × Unit {0}) (Result (Unit {0}) E)) (bytes : List ℕ) (f : F) (known : Option (List ℕ)) (front : List ℕ) (f' : F) : Type 0 where
  pub line : List ℕ
  pub rest : List ℕ
  pub held : Holds front line
  pub unbroken : All (λ b. is_newline b ≡ false) line
  pub left : known ≡ Some rest
  pub goes_on : (last : F) → FoldsTo (TakesLine g) f' (lines_in (line ++ rest)) last → FoldsTo (TakesLine g) f (lines_in bytes) last

kept : (line : List ℕ) (parts : List (List ℕ)) → 0 < length parts → without_empty_end (line ∷ parts) ≡ line ∷ without_empty_end parts
kept line [] h = absurd (omega arith)
kept line (next ∷ more) h = refl

lines-newline : (line rest : List ℕ) → All (λ b. is_newline b ≡ false) line → lines_in (line ++ 10 ∷ rest) ≡ line ∷ lines_in rest
lines-newline line rest u =
    ap without_empty_end (slice_split_at is_newline line 10 rest u refl)
    ∙ kept line (slice_split is_newline rest) (omega (arith, length-slice_split is_newline rest))

lines-end : (line : List ℕ) → All (λ b. is_newline b ≡ false) line → lines_in (line ++ []) ≡ without_empty_end (line ∷ [])
lines-end line u = ap lines_in (append-nil line) ∙ ap without_empty_end (slice_split_none is_newline line u)

consumed : (known next : Option (List ℕ)) (rest : List ℕ) (b : ℕ) → known ≡ Some rest → Consumes known next (b ∷ []) → (ys : List ℕ) × (next ≡ Some ys) × (rest ≡ b ∷ ys)
consumed None next rest b e h = absurd (let z : ⊥ = cc in z)
consumed (Some xs) None rest b e h = absurd h
consumed (Some xs) (Some ys) rest b e h = (ys, refl, cc)

at_end : (known : Option (List ℕ)) (rest : List ℕ) → known ≡ Some rest → IsAtEnd known → rest ≡ []
at_end None rest e h = absurd (let z : ⊥ = cc in z)
at_end (Some xs) rest e h = cc

module _ {F E : Type 0} (g : Mut F (Bor (List ℕ) × Unit {0}) (Result (Unit {0}) E)) (bytes : List ℕ) (f : F) where
  pub ahead_begun : (known : Option (List ℕ)) (front : List ℕ) → known ≡ Some bytes → Holds front [] → Ahead g bytes f known front f
  ahead_begun known front e h = record { line = []; rest = bytes; held = h; unbroken = λ k d l. absurd (omega arith); left = e; goes_on = λ last s. s }

  pub ahead_byte :
      (known next : Option (List ℕ)) (front longer : List ℕ) (f' : F) (b : ℕ) → Ahead g bytes f known front f' → Consumes known next (b ∷ []) → is_newline b ≡ false
      → ((line : List ℕ) → Holds front line → Holds longer (line ++ b ∷ [])) → Ahead g bytes f next longer f'
  ahead_byte known next front longer f' b a h n p =
      let k = consumed known next a.rest b a.left h in
      let e : a.line ++ a.rest ≡ (a.line ++ b ∷ []) ++ k.0 = ap (λ r. a.line ++ r) k.2 ∙ sym (append_assoc a.line (b ∷ []) k.0) in
      record {
        line = a.line ++ b ∷ [];
        rest = k.0;
        held = p a.line a.held;
        unbroken = All-push (λ x. is_newline x ≡ false) a.line b a.unbroken n;
        left = k.1;
        goes_on = λ last s. a.goes_on last (subst (λ bs. FoldsTo (TakesLine g) f' (lines_in bs) last) (sym e) s);
      }

  taken : (line front : List ℕ) (p q : F) → Holds front line → CalledAt g p front (Ok tt) q → TakesLine g p line q
  taken line front p q h c = subst (λ bs. CalledAt g p bs (Ok tt) q) h c

  pub ahead_line :
      (known next : Option (List ℕ)) (front empty : List ℕ) (f' f'' : F) → Ahead g bytes f known front f' → Consumes known next (10 ∷ [])
      → CalledAt g f' front (Ok tt) f'' → Holds empty [] → Ahead g bytes f next empty f''
  ahead_line known next front empty f' f'' a h c o =
      let k = consumed known next a.rest 10 a.left h in
      let e : lines_in (a.line ++ a.rest) ≡ a.line ∷ lines_in k.0 = ap (λ r. lines_in (a.line ++ r)) k.2 ∙ lines-newline a.line k.0 a.unbroken in
      record {
        line = [];
        rest = k.0;
        held = o;
        unbroken = λ k d l. absurd (omega arith);
        left = k.1;
        goes_on = λ last s. a.goes_on last (subst (λ ls. FoldsTo (TakesLine g) f' ls last) (sym e) (f'', taken a.line front f' f'' a.held c, s));
      }

  -- at the end: no line is left, or one
  pub ahead_none : (known : Option (List ℕ)) (front : List ℕ) (f' : F) → Ahead g bytes f known front f' → IsAtEnd known
      → ((line : List ℕ) → Holds front line → length line ≡ 0) → (last : F) × FoldsTo (TakesLine g) f (lines_in bytes) last
  ahead_none known front f' a h z =
      let e : lines_in (a.line ++ a.rest) ≡ [] = ap (λ r. lines_in (a.line ++ r)) (at_end known a.rest a.left h) ∙ lines-end a.line a.unbroken ∙ ap (λ n. if n == 0 then [] else a.line ∷ []) (z a.line a.held) in
      (f', a.goes_on f' (subst (λ ls. FoldsTo (TakesLine g) f' ls f') (sym e) refl))

  pub ahead_last : (known : Option (List ℕ)) (front : List ℕ) (f' f'' : F) → Ahead g bytes f known front f' → IsAtEnd known
      → ((line : List ℕ) → Holds front line → (length line == 0) ≡ false) → CalledAt g f' front (Ok tt) f'' → (last : F) × FoldsTo (TakesLine g) f (lines_in bytes) last
  ahead_last known front f' f'' a h z c =
      let e : lines_in (a.line ++ a.rest) ≡ a.line ∷ [] = ap (λ r. lines_in (a.line ++ r)) (at_end known a.rest a.left h) ∙ lines-end a.line a.unbroken ∙ ap (λ t. if t then [] else a.line ∷ []) (z a.line a.held) in
      (f'', a.goes_on f'' (subst (λ ls. FoldsTo (TakesLine g) f' ls f'') (sym e) (f'', taken a.line front f' f'' a.held c, refl)))
