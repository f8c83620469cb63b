use Rattle.std.proofs.Common.{◌≡◌, ◌+◌, ◌<◌, ◌/◌, [], ◌∷◌, ◌++◌, length, ◌∙◌, subst, sym, arith, rules}
use Rattle.std.proofs.lemmas.Result.{err_from_is_err_and}
use Rattle.lists.specs.Items.{items as listed}
use Rattle.tables.specs.Allowed.{Stores}
use Rattle.transfers.specs.Items.{count_in, address_at, sent_at}
use Rattle.transfers.specs.Sets.{Writes}
use Rattle.transfers.proofs.SetFacts.{item_count, first_fault, writes_more}
use Rattle.transfers.proofs.set.stage_items.Goals as goal

pub returns-in_err-write : goal.returns-in_err-write
returns-in_err-write c =
    let p = err_from_is_err_and c.from_residual.result c.from_residual.ensures.1 in
    let body = c.args.body.now in
    let item = c.loop-item.item in
    let n = item_count body c.args.items.now c.requires.whole c.requires.items in
    let count : count_in body ≡ length c.args.items.now / 6 = omega arith in
    let h : item < length c.args.items.now / 6 = omega arith in
    let a = c.addresses_in-address-items.ensures.each body item c.requires.items h in
    let v = c.values_in-values.ensures.each body item c.requires.items (omega (arith, n, h)) in
    rw (p.1, p.2) (item, first_fault body (listed c.loop-item.staged) item _ (omega arith) c.loop-item.invariant.0 (c.in_err-write.ensures body a v count))

pub loop-item-preserved : goal.loop-item-preserved
loop-item-preserved c =
    let body = c.args.body.now in
    let item = c.loop-item.item in
    let n = item_count body c.args.items.now c.requires.whole c.requires.items in
    let count : count_in body ≡ length c.args.items.now / 6 = omega arith in
    let h : item < length c.args.items.now / 6 = omega arith in
    let a = c.addresses_in-address-items.ensures.each body item c.requires.items h in
    let v = c.values_in-values.ensures.each body item c.requires.items (omega (arith, n, h)) in
    let w = c.in_ok-write.write in
    let s : Stores (address_at body item) (sent_at body (count_in body) item) w.cell w.value =
    subst (λ m. Stores (address_at body item) (sent_at body m item) w.cell w.value) (sym count) (c.in_ok-write.ensures body a v count) in
    let e : listed c.push.new.self ≡ listed c.loop-item.staged ++ w ∷ [] = search rules in (
      subst (Writes body (item + 1)) (sym e) (writes_more body (listed c.loop-item.staged) item w c.loop-item.invariant.0 s),
      c.push.ensures.room ∙ c.loop-item.invariant.1,
    )
