use Rattle.std.proofs.Common.{◌≡◌, get_or, ap, sym, ◌∙◌}
use Rattle.std.specs.declared.cmp.Ordering.TheVariants.{Equal}
use Rattle.coco_types.specs.RowKey.{key_cmp}
use Rattle.coco_types.specs.declared.call.Write.{Write}
use Rattle.coco_eval.proofs.SlotLemmas.{put_write-found}
use Rattle.coco_eval.proofs.keys.place_among.Goals as goal

pub returns-in-Equal : goal.returns-in-Equal
returns-in-Equal c =
    let r = c.index-writes-i.result in
    let e : key_cmp c.args.key (get_or c.args.writes.now c.loop-i.i r).key ≡ Equal = ap (λ (w : Write). key_cmp c.args.key w.key) (sym c.index-writes-i.is) ∙ sym c.compare.ensures ∙ c.in-Equal.is in
    (c.loop-i-test.true, λ d. put_write-found c.args.key d c.args.writes.now c.loop-i.i r c.loop-i-test.true e (c.loop-i.invariant d))
