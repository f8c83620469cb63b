use Rattle.std.proofs.Common.{◌≡◌, ◌∷◌, get_or, set, sym, ap, ◌∙◌, arith, length-set}
use Rattle.memory.specs.Held.{packed_cells}
use Rattle.memory.proofs.Facts.{high_octet, low_octet, top_narrow, written_yes}
use Rattle.memory.proofs.Octets.{count_packed, set_wide_at, set_narrow_at, spare_same, octet_end, width_wide}
use Rattle.memory.proofs.packed.PackedMemoryParameterMemory.write.Goals as goal

pub bounds-self-from-then-is_wide : goal.bounds-self-from-then-is_wide
bounds-self-from-then-is_wide c =
    let k = count_packed c.args.self.now.octets.now c.args.at (omega arith) in
    simp length-set (omega (arith, octet_end c.args.at k.1, width_wide c.args.at (sym c.if-is_wide.ensures), k))

pub returns-then-is_wide-clause-after : goal.returns-then-is_wide-clause-after
returns-then-is_wide-clause-after c =
    let k = count_packed c.args.self.now.octets.now c.args.at (omega arith) in
    let high = high_octet c.to_be_bytes.result c.args.value (omega arith) c.to_be_bytes.ensures in
    let low = low_octet c.to_be_bytes.result c.args.value c.to_be_bytes.ensures in
    set_wide_at _ _ _ _ _ c.args.value c.octet_of-from.ensures k.0 k.1 (sym c.if-is_wide.ensures) (omega (arith, high)) (omega (arith, low)) (omega (arith, high, low))
    ∙ sym (written_yes _ _ _ (omega arith) (omega arith))

pub returns-then-is_wide-clause-kept : goal.returns-then-is_wide-clause-kept
returns-then-is_wide-clause-kept c =
    let k = count_packed c.args.self.now.octets.now c.args.at (omega arith) in
    ap (λ os. c.args.self.now.octets.ghost_name ∷ os) (spare_same _ _ k.0 (length-set _ _ _ ∙ length-set _ _ _))

pub returns-else-is_wide-clause-after : goal.returns-else-is_wide-clause-after
returns-else-is_wide-clause-after c =
    let k = count_packed c.args.self.now.octets.now c.args.at (omega arith) in
    let low : get_or c.to_be_bytes.result 1 0 ≡ c.args.value = low_octet _ _ c.to_be_bytes.ensures ∙ omega (arith, top_narrow c.args.at (sym c.if-is_wide.ensures)) in
    ap (λ o. packed_cells (set c.args.self.now.octets.now c.octet_of-from.result o)) low
    ∙ set_narrow_at _ _ _ _ c.octet_of-from.ensures k.0 k.1 (sym c.if-is_wide.ensures) (omega (arith, top_narrow c.args.at (sym c.if-is_wide.ensures)))
    ∙ sym (written_yes _ _ _ (omega arith) (omega arith))

pub returns-else-is_wide-clause-kept : goal.returns-else-is_wide-clause-kept
returns-else-is_wide-clause-kept c =
    let k = count_packed c.args.self.now.octets.now c.args.at (omega arith) in
    ap (λ os. c.args.self.now.octets.ghost_name ∷ os) (spare_same _ _ k.0 (length-set _ _ _))
