use Rattle.std.proofs.Common.{◌≡◌, ◌<◌, length, take, string_bytes}
use Rattle.account.specs.Pages.{Plain}
use Rattle.account.proofs.layout.laid_out.Given as goal

abbrev pub invariant-loop-i : goal.invariant-loop-i
invariant-loop-i l = length l.line < 96 → Plain l.line → string_bytes l.text ≡ take l.i l.line
