use Rattle.std.proofs.Common.{◌<◌, inl, inr, length, arith}
use Rattle.blocks.proofs.CellFacts.{is_there}
use Rattle.blocks.proofs.LayoutFacts.{numbers_stand}
use Rattle.families.proofs.columns_of.Goals as goal

pub unwrap-requires : goal.unwrap-requires
unwrap-requires g c =
    let l : c.loop-i.i < length c.args.numbers.now = omega (arith, c.told-numbers) in
    let s = numbers_stand c.args.family c.args.numbers.now c.requires c.loop-i.i l in
    is_there c.column.result _ _ c.column.ensures (elim [ inl e ↦ omega (arith, e, s.0) | inr e ↦ omega (arith, e, s.1) ])
