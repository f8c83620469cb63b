-- A request has one outcome: the definitions leave no choice.
use Rattle.std.proofs.Common.{◌≡◌, ℕ, cond, eqb, List, [], ◌∷◌, length, sym, refl, ap, ◌∙◌, subst, arith}
use Rattle.std.proofs.lemmas.Bool.{both_ways}
use Rattle.transfers.specs.Gets.{Outcome}
use Rattle.transfers.proofs.OneTransfer.{one_got, one_set}
use Rattle.block_requests.proofs.OneTransfer.{one_got_block, one_set_block}
use Rattle.unit.specs.declared.answer.Answer.{Answer}
use Rattle.unit.specs.declared.operation.Operation.{Operation}
use Rattle.unit.specs.declared.operation.Operation.TheVariants.{Get, Set, GetBlock, SetBlock, Open, Abandon}
use Rattle.unit.specs.Operations.{code_of, takes_mode}
use Rattle.unit.specs.Steps.{Moment, Lent, Same, Does, Followed, AllAlone, Answered, Step, OneOutcome, outcome_number, reply_of, memory_after}
use Rattle.unit.specs.Steps.Opens.{over as open-over, opened}
use Rattle.unit.specs.Steps.Abandons.{over as abandon-over, abandoned}
use Rattle.unit.specs.Steps.Answered.{empty, unknown, not_taken, done}
use Rattle.unit.specs.Steps.Step.{wrong_count, no_room, answered}

same_moment : (t u : Moment) → t.running ≡ u.running → t.draft ≡ u.draft → t.mode ≡ u.mode → t ≡ u
same_moment t u a b c =
    let mk : List ℕ → List ℕ → ℕ → Moment = λ r d m. record { running = r; draft = d; mode = m } in
    ap (λ x. mk x t.draft t.mode) a ∙ (ap (λ x. mk u.running x t.mode) b ∙ ap (λ x. mk u.running u.draft x) c)

nothing_first : (x : ℕ) (xs ys : List ℕ) → ys ≡ [] → ys ≡ x ∷ xs → ⊥
nothing_first x xs ys e f = let z : ◌≡◌ {A = ℕ} 0 1 = cc in omega arith

-- the first octet and the rest of a request
same_code : (x y : ℕ) (xs ys zs : List ℕ) → zs ≡ x ∷ xs → zs ≡ y ∷ ys → x ≡ y
same_code x y xs ys zs e f = cc

same_body : (x y : ℕ) (xs ys zs : List ℕ) → zs ≡ x ∷ xs → zs ≡ y ∷ ys → xs ≡ ys
same_body x y xs ys zs e f = cc

same_same : (s t u : Moment) → Same s t → Same s u → t ≡ u
same_same s t u p q = same_moment t u (p.running ∙ sym q.running) (p.draft ∙ sym q.draft) (p.mode ∙ sym q.mode)

-- an operation that stands alone, or is followed by octets
followed_or_alone : (s : Moment) (body : List ℕ) (o p : Outcome) (t : Moment) → Followed s body o t → AllAlone body p → ⊥
followed_or_alone s body o p t f a = f.0 a.0

one_done : (op : Operation) (s : Moment) (body : List ℕ) (o p : Outcome) (t u : Moment) → Does op s body o t → Does op s body p u → (o ≡ p) × (t ≡ u)
one_done Get s body o p t u x y = (one_got s.running body o p x.got y.got, same_same s t u x.same y.same)
one_done Set s body o p t u x y =
    let r = one_set s.draft body o p t.draft u.draft x.draft y.draft in
    (r.0, same_moment t u (x.running ∙ sym y.running) r.1 (x.mode ∙ sym y.mode))
one_done GetBlock s body o p t u x y = (one_got_block s.running body o p x.got y.got, same_same s t u x.same y.same)
one_done SetBlock s body o p t u x y =
    let r = one_set_block s.draft body o p t.draft u.draft x.draft y.draft in
    (r.0, same_moment t u (x.running ∙ sym y.running) r.1 (x.mode ∙ sym y.mode))
one_done Open s body o p t u (open-over f) (open-over g) = (f.1 ∙ sym g.1, same_same s t u f.2 g.2)
one_done Open s body o p t u (open-over f) (opened a r d m) = absurd (followed_or_alone s body o p t f a)
one_done Open s body o p t u (opened a r d m) (open-over f) = absurd (followed_or_alone s body p o u f a)
one_done Open s body o p t u (opened a r d m) (opened b q e n) = (a.1 ∙ sym b.1, same_moment t u (r ∙ sym q) (d ∙ sym e) (m ∙ sym n))
one_done Abandon s body o p t u (abandon-over f) (abandon-over g) = (f.1 ∙ sym g.1, same_same s t u f.2 g.2)
one_done Abandon s body o p t u (abandon-over f) (abandoned a r d m) = absurd (followed_or_alone s body o p t f a)
one_done Abandon s body o p t u (abandoned a r d m) (abandon-over f) = absurd (followed_or_alone s body p o u f a)
one_done Abandon s body o p t u (abandoned a r d m) (abandoned b q e n) = (a.1 ∙ sym b.1, same_moment t u (r ∙ sym q) (d ∙ sym e) (m ∙ sym n))

-- an operation is known by its octet
by_code : ℕ → Operation
by_code n = cond (eqb n 1) Get (cond (eqb n 2) Set (cond (eqb n 3) GetBlock (cond (eqb n 4) SetBlock (cond (eqb n 5) Open Abandon))))

by_code_lem : (p : Operation) → by_code (code_of p) ≡ p
unfolding by_code
by_code_lem Get = refl
by_code_lem Set = refl
by_code_lem GetBlock = refl
by_code_lem SetBlock = refl
by_code_lem Open = refl
by_code_lem Abandon = refl

same_operation : (p q : Operation) (xs ys zs : List ℕ) → zs ≡ code_of p ∷ xs → zs ≡ code_of q ∷ ys → p ≡ q
same_operation p q xs ys zs e f = sym (by_code_lem p) ∙ (ap by_code (same_code (code_of p) (code_of q) xs ys zs e f) ∙ by_code_lem q)

one_answer : (s : Moment) (octets : List ℕ) (o p : Outcome) (t u : Moment) → Answered s octets o t → Answered s octets p u → (o ≡ p) × (t ≡ u)
one_answer s octets o p t u (empty e r m) (empty f q n) = (r ∙ sym q, same_same s t u m n)
one_answer s octets o p t u (empty e r m) (unknown c b f k q n) = absurd (nothing_first c b octets e f)
one_answer s octets o p t u (empty e r m) (not_taken c b f k q n) = absurd (nothing_first (code_of c) b octets e f)
one_answer s octets o p t u (empty e r m) (done c b f k d) = absurd (nothing_first (code_of c) b octets e f)
one_answer s octets o p t u (unknown c b e k r m) (empty f q n) = absurd (nothing_first c b octets f e)
one_answer s octets o p t u (unknown c b e k r m) (unknown d a f j q n) = (r ∙ sym q, same_same s t u m n)
one_answer s octets o p t u (unknown c b e k r m) (not_taken d a f j q n) = absurd (k d (same_code (code_of d) c a b octets f e))
one_answer s octets o p t u (unknown c b e k r m) (done d a f j x) = absurd (k d (same_code (code_of d) c a b octets f e))
one_answer s octets o p t u (not_taken c b e k r m) (empty f q n) = absurd (nothing_first (code_of c) b octets f e)
one_answer s octets o p t u (not_taken c b e k r m) (unknown d a f j q n) = absurd (j c (same_code (code_of c) d b a octets e f))
one_answer s octets o p t u (not_taken c b e k r m) (not_taken d a f j q n) = (r ∙ sym q, same_same s t u m n)
one_answer s octets o p t u (not_taken c b e k r m) (done d a f j x) =
    absurd (both_ways (takes_mode d s.mode) (ap (λ z. takes_mode z s.mode) (same_operation d c a b octets f e) ∙ k) j)
one_answer s octets o p t u (done c b e k x) (empty f q n) = absurd (nothing_first (code_of c) b octets f e)
one_answer s octets o p t u (done c b e k x) (unknown d a f j q n) = absurd (j c (same_code (code_of c) d b a octets e f))
one_answer s octets o p t u (done c b e k x) (not_taken d a f j q n) =
    absurd (both_ways (takes_mode c s.mode) (ap (λ z. takes_mode z s.mode) (same_operation c d b a octets e f) ∙ j) k)
one_answer s octets o p t u (done c b e k x) (done d a f j y) =
    one_done c s b o p t u x
    (subst (λ z. Does z s b p u) (same_operation d c a b octets f e) (subst (λ z. Does d s z p u) (same_body (code_of d) (code_of c) a b octets f e) y))

one_step : (s : Moment) (l : Lent) (octets : List ℕ) (o p : Outcome) (t u : Moment) → Step s l octets o t → Step s l octets p u → (o ≡ p) × (t ≡ u)
one_step s l octets o p t u (wrong_count c r m) (wrong_count d q n) = (r ∙ sym q, same_same s t u m n)
one_step s l octets o p t u (wrong_count c r m) (no_room d k q n) = absurd (c d)
one_step s l octets o p t u (wrong_count c r m) (answered d k a) = absurd (c d)
one_step s l octets o p t u (no_room c j r m) (wrong_count d q n) = absurd (d c)
one_step s l octets o p t u (no_room c j r m) (no_room d k q n) = (r ∙ sym q, same_same s t u m n)
one_step s l octets o p t u (no_room c j r m) (answered d k a) = absurd (j k)
one_step s l octets o p t u (answered c j a) (wrong_count d q n) = absurd (d c)
one_step s l octets o p t u (answered c j a) (no_room d k q n) = absurd (k j)
one_step s l octets o p t u (answered c j a) (answered d k b) = one_answer s octets o p t u a b

same_answer : (a b : Answer) → a.number ≡ b.number → a.mode ≡ b.mode → a.length ≡ b.length → a ≡ b
same_answer a b x y z =
    let mk : ℕ → ℕ → ℕ → Answer = λ n m l. record { number = n; mode = m; length = l } in
    ap (λ n. mk n a.mode a.length) x ∙ (ap (λ n. mk b.number n a.length) y ∙ ap (λ n. mk b.number b.mode n) z)

pub one_outcome : OneOutcome
one_outcome s l octets before a b x y t u v w =
    let r = one_step s l octets v.outcome w.outcome t u v.step w.step in
    let o : v.outcome ≡ w.outcome = r.0 in
    let moment : t ≡ u = r.1 in (
      same_answer a b
          (v.number ∙ (ap outcome_number o ∙ sym w.number))
          (v.mode ∙ (ap (λ (m : Moment). m.mode) moment ∙ sym w.mode))
          (v.length ∙ (ap (λ z. length (reply_of z)) o ∙ sym w.length)),
      v.memory ∙ (ap (λ z. memory_after z before) o ∙ sym w.memory),
      moment,
    )
