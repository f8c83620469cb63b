use Rattle.std.proofs.Common.{refl}
use Rattle.std.proofs.lemmas.Result.{err_from_is_err_and}
use Rattle.values.proofs.Readers.{fault_on}
use Rattle.headers.specs.Headers.{span_in}
use Rattle.headers.proofs.HeaderFacts.{first_faulty, second_faulty}
use Rattle.headers.proofs.read_spans.Goals as goal

pub returns-in_err-first : goal.returns-in_err-first
returns-in_err-first c =
    let b = c.args.reader.now in
    let p = err_from_is_err_and c.from_residual.result c.from_residual.ensures.1 in
    rw (p.1, p.2) (record { faults = first_faulty c.args.last_first b.octets.now b.at c.args.last_second _ c.in_err-first.ensures.faults; stays = refl })

pub returns-in_err-second : goal.returns-in_err-second
returns-in_err-second c =
    let b = c.args.reader.now in
    let a = c.read_span.new.reader in
    let t = c.in_ok-first.ensures in
    let p = err_from_is_err_and c.from_residual-in_err-second.result c.from_residual-in_err-second.ensures.1 in
    rw (p.1, p.2)
    (record {
      faults = second_faulty c.args.last_first b.octets.now b.at c.args.last_second c.in_ok-first.first a.at _ c.if-last_second-eq0.false t.means
          (fault_on (span_in c.args.last_second) b a t.same _ c.in_err-second.ensures.faults);
      stays = refl;
    })
