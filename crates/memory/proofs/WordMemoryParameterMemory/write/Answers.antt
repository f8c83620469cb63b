use Rattle.std.proofs.Common.{◌∷◌, get_or, sym, ap, ◌∙◌, arith}
use Rattle.memory.proofs.Facts.{high_octet, length-word_cells, word_cells-set, word_highs-set, mod_wide, mod_narrow, div_wide, div_narrow, top_narrow, written_yes}
use Rattle.memory.proofs.WordMemoryParameterMemory.write.Goals as goal

pub returns-then-is_wide-clause-after : goal.returns-then-is_wide-clause-after
returns-then-is_wide-clause-after c =
    word_cells-set _ _ _ _ (omega arith) (mod_wide _ _ (sym c.if-is_wide.ensures) (omega arith))
    ∙ sym (written_yes _ _ _ (omega (arith, length-word_cells c.args.self.now.words.now)) (omega arith))

pub returns-then-is_wide-clause-kept : goal.returns-then-is_wide-clause-kept
returns-then-is_wide-clause-kept c =
    ap (λ hs. c.args.self.now.words.ghost_name ∷ hs) (word_highs-set _ _ _ (omega arith) (div_wide _ _ _ (sym c.if-is_wide.ensures) (omega arith) (omega arith)))

pub overflow_add-self : goal.overflow_add-self
overflow_add-self c =
    let high = high_octet c.to_be_bytes.result (get_or c.args.self.now.words.now c.args.at 0) (omega arith) c.to_be_bytes.ensures in
    omega (arith, high, top_narrow c.args.at (sym c.if-is_wide.ensures))

pub returns-else-is_wide-clause-after : goal.returns-else-is_wide-clause-after
returns-else-is_wide-clause-after c =
    word_cells-set _ _ _ _ (omega arith)
    (mod_narrow _ _ (sym c.if-is_wide.ensures) ∙ omega (arith, top_narrow c.args.at (sym c.if-is_wide.ensures)))
    ∙ sym (written_yes _ _ _ (omega (arith, length-word_cells c.args.self.now.words.now)) (omega arith))

pub returns-else-is_wide-clause-kept : goal.returns-else-is_wide-clause-kept
returns-else-is_wide-clause-kept c =
    let high = high_octet c.to_be_bytes.result (get_or c.args.self.now.words.now c.args.at 0) (omega arith) c.to_be_bytes.ensures in
    ap (λ hs. c.args.self.now.words.ghost_name ∷ hs) (word_highs-set _ _ _ (omega arith) (div_narrow _ _ _ (sym c.if-is_wide.ensures) (omega (arith, high, top_narrow c.args.at (sym c.if-is_wide.ensures)))))
