use Rattle.std.proofs.Common.{◌≡◌, ◌+◌, ◌-◌, length, take, drop, replicate, arith, ap, ◌∙◌, refl}
use Rattle.std.proofs.lemmas.List.{drop-drop, length-take-le, length-drop}
use Rattle.replies.proofs.Reply.pad.Goals as goal

pub returns-clause-octets : goal.returns-clause-octets
returns-clause-octets c =
    let n = c.args.self.now.position.now.length in
    let xs = c.args.self.now.octets.now in
    let len : length (take (1024 - n) (drop n xs)) ≡ 1024 - n = length-take-le (1024 - n) (drop n xs) (omega (arith, length-drop n xs)) in
    let zeros : c.fill.new.self ≡ replicate (1024 - n) 0 = c.fill.ensures.after (λ y h. h) ∙ ap (λ k. replicate k 0) len in
    let room : n + (1024 - n) ≡ 1024 = omega arith in
    let rest : drop (1024 - n) (drop n xs) ≡ drop 1024 xs = drop-drop (1024 - n) n xs ∙ ap (λ k. drop k xs) room in
    rw (zeros, rest) refl
