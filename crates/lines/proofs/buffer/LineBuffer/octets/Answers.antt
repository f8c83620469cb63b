use Rattle.lines.proofs.Held.{held_cases}
use Rattle.lines.proofs.buffer.LineBuffer.octets.Goals as goal

pub returns-clause-cases : goal.returns-clause-cases
returns-clause-cases c line h =
    held_cases c.text.result.now line (c.text.ensures line h) _ c.octets_of_line.ensures.cases c.octets_of_line.ensures.bound
