use Rattle.std.proofs.Common.{sym, ◌∙◌, arith}
use Rattle.memory.proofs.Facts.{read_some}
use Rattle.memory.proofs.Octets.{count_packed, read_wide_at, read_narrow_at}
use Rattle.memory.proofs.packed.PackedMemoryParameterMemory.read.Goals as goal

pub returns-then-is_wide-clause-value : goal.returns-then-is_wide-clause-value
returns-then-is_wide-clause-value c =
    let k = count_packed c.args.self.now.octets.now c.args.at (omega arith) in
    read_some _ _ _ (omega arith)
    (read_wide_at _ _ _ c.octet_of-from.ensures k.0 k.1 (sym c.if-is_wide.ensures) (omega arith) (omega arith) ∙ sym c.from_be_bytes.ensures)

pub returns-else-is_wide-clause-value : goal.returns-else-is_wide-clause-value
returns-else-is_wide-clause-value c =
    let k = count_packed c.args.self.now.octets.now c.args.at (omega arith) in
    read_some _ _ _ (omega arith)
    (read_narrow_at _ _ _ c.octet_of-from.ensures k.0 k.1 (sym c.if-is_wide.ensures) (omega arith) ∙ sym c.from.ensures)
