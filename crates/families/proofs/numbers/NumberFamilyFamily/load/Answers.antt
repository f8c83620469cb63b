use Rattle.std.proofs.Common.{◌≡◌, ◌<◌, T, length, sym, ap, ◌∙◌, subst, arith}
use Rattle.tables.proofs.PlaceFacts.{sizes}
use Rattle.blocks.specs.Layouts.{has_slots, number_slots}
use Rattle.blocks.proofs.LayoutFacts.{numbers_stand}
use Rattle.families.proofs.numbers.NumberFamilyFamily.load.Goals as goal

pub load_row-requires : goal.load_row-requires
load_row-requires g c =
    let k = g.K.NumberColumns in
    let n : length c.NUMBERS.result ≡ g.row.N = ap length c.NUMBERS.ensures ∙ k.columns.size in
    let t = subst (λ ns. T (has_slots k.FAMILY (number_slots ns))) (sym c.NUMBERS.ensures) k.columns.stand in
    let at = numbers_stand k.FAMILY c.NUMBERS.result t in
    let last = (sizes k.FAMILY).columns_last in (
      omega (arith, k.columns.few),
      (
        omega (arith, k.columns.few),
        (
          c.requires.sound,
          (
            c.requires.base,
            (λ i l.
                let l' : i < length c.NUMBERS.result = omega (arith, n) in
                ((at i l').0, omega (arith, at i l', last, c.requires.within))),
          ),
        ),
      ),
    )
