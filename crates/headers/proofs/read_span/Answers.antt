use Rattle.std.proofs.Common.{◌+◌, get_or, refl, arith}
use Rattle.values.specs.Reading.{ItemMeans, bad, gone, at_second}
use Rattle.headers.specs.Headers.{UpTo}
use Rattle.headers.proofs.HeaderFacts.{part_length, left_first, left_next, left_length}
use Rattle.headers.proofs.read_span.Goals as goal
use Rattle.headers.proofs.read_span.Goals.{then-quantity-lt1-via-then-quantity-lt1, then-quantity-lt1-via-else-quantity-lt1+then-last-start-2}

pub returns-in_default-rest : goal.returns-in_default-rest
returns-in_default-rest c =
    let s = c.args.reader.now.octets.now in
    let from = c.args.reader.now.at in
    let l = c.rest.result.now in
    let at = left_first s l from c.rest.ensures in
    let n = left_length s l from c.rest.ensures in
    let m = part_length l 1 in
    let one : ItemMeans (UpTo c.args.last) s from (get_or s from 0) (from + 1) = record { there = omega arith; is = (refl, omega arith, omega arith); takes = refl } in
    record { faults = at_second (get_or s from 0) (from + 1) one (gone (omega arith) refl); stays = refl }

pub returns-then-quantity-lt1 : goal.returns-then-quantity-lt1
returns-then-quantity-lt1 c =
    let s = c.args.reader.now.octets.now in
    let from = c.args.reader.now.at in
    let l = c.rest.result.now in
    let at = left_first s l from c.rest.ensures in
    let n = left_length s l from c.rest.ensures in
    let m = part_length l 1 in
    let q = left_next s l from c.rest.ensures in
    let one : ItemMeans (UpTo c.args.last) s from (get_or s from 0) (from + 1) = record { there = omega arith; is = (refl, omega arith, omega arith); takes = refl } in
    record {
      faults = at_second (get_or s from 0) (from + 1) one
          (bad (omega arith) (λ v h. elim c.then-quantity-lt1.branch [ then-quantity-lt1-via-then-quantity-lt1 x ↦ omega (arith, x.if-quantity-lt1.true, h.0, h.1, q) | then-quantity-lt1-via-else-quantity-lt1+then-last-start-2 x ↦ omega (arith, h.0, h.2, q, at, x.if-quantity-lt1.false, x.if-last-start-2.true) ]) refl);
      stays = refl;
    }
