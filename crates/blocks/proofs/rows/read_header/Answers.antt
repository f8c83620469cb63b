use Rattle.std.proofs.Common.{refl}
use Rattle.values.specs.Reading.{over}
use Rattle.blocks.proofs.rows.read_header.Goals as goal

pub returns-then-reader-header : goal.returns-then-reader-header
returns-then-reader-header g c = over c.in_ok-spans.spans c.read_spans_of.new.reader.at c.in_ok-spans.ensures.means c.if-reader-header.true refl
