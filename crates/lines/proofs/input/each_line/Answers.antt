use Rattle.std.proofs.Common.{◌≡◌, ℕ, ◌==◌, false, List, length, Ok, of_calls, rules, arith}
use Rattle.std.proofs.lemmas.Bool.Decides.{nat_tests}
use Rattle.std.specs.Fn.{CalledAt}
use Rattle.std.specs.Io.Iter.{bytes_remaining}
use Rattle.std.specs.Io.KnownBytes.{IsAtEnd}
use Rattle.lines.specs.Input.{is_newline}
use Rattle.lines.specs.Spelling.{Holds}
use Rattle.lines.proofs.Ahead.{if_known, if_taken, ahead_byte, ahead_line, ahead_none, ahead_last}
use Rattle.lines.proofs.input.each_line.Goals as goal

pub loop-byte-preserved : goal.loop-byte-preserved
loop-byte-preserved g c =
    let taken = rw c.in_ok-other.was at c.in-Some.ensures.steps in
    let other : is_newline c.in_ok-other.other ≡ false = grind (arith, nat_tests) in
    (search of_calls, λ bytes e. ahead_byte g.F.FnMut bytes c.args.f _ _ _ _ c.loop-byte.f c.in_ok-other.other (c.loop-byte.invariant.1 bytes e) taken other c.push.ensures)

pub loop-byte-preserved-in-10 : goal.loop-byte-preserved-in-10
loop-byte-preserved-in-10 g c =
    let taken = rw (c.in_ok-other.was, c.in-10.is) at c.in-Some.ensures.steps in
    let called : CalledAt g.F.FnMut c.loop-byte.f c.loop-byte.line (Ok tt) c.f.new.self = search rules in
    (search of_calls, λ bytes e. ahead_line g.F.FnMut bytes c.args.f _ _ _ _ c.loop-byte.f c.f.new.self (c.loop-byte.invariant.1 bytes e) taken called c.clear.ensures)

pub returns-then-is_empty : goal.returns-then-is_empty
returns-then-is_empty g c =
    let end : IsAtEnd (bytes_remaining g.R.Read.remaining c.loop-byte.byte-iterator) = search rules in
    let none : (line : List ℕ) → Holds c.loop-byte.line line → length line ≡ 0 = λ line h. let t = c.is_empty.ensures line h in grind (arith, nat_tests) in
    if_known _ _ (λ bytes e. ahead_none g.F.FnMut bytes c.args.f _ _ c.loop-byte.f (c.loop-byte.invariant.1 bytes e) end none)

pub returns : goal.returns
returns g c =
    let end : IsAtEnd (bytes_remaining g.R.Read.remaining c.loop-byte.byte-iterator) = search rules in
    let some : (line : List ℕ) → Holds c.loop-byte.line line → (length line == 0) ≡ false = λ line h. let t = c.is_empty.ensures line h in search rules in
    if_taken c.f-2.result _ (λ ok.
    let called : CalledAt g.F.FnMut c.loop-byte.f c.loop-byte.line (Ok tt) c.f-2.new.self = search rules in
    if_known _ _ (λ bytes e. ahead_last g.F.FnMut bytes c.args.f _ _ c.loop-byte.f c.f-2.new.self (c.loop-byte.invariant.1 bytes e) end some called))
