use Rattle.std.proofs.Common.{◌≡◌, suc, ◌+◌, drop, max, ap, sym, ◌∙◌, arith, add-one, drop-cons, ◌∷◌}
use Rattle.std.proofs.lemmas.List.{drop_all}
use Rattle.coco_types.specs.RowKey.{RowKey}
use Rattle.coco_shard.specs.Kept.{most_rts}
use Rattle.coco_shard.proofs.values.greatest.Goals as goal

pub loop-key-init : goal.loop-key-init
loop-key-init c = omega arith

pub loop-key-preserved : goal.loop-key-preserved
loop-key-preserved c =
    let es = c.args.rows.now.entries in
    let parts : drop c.loop-key.key-index c.args.touched.now ≡ c.key-item.result ∷ drop (c.loop-key.key-index + 1) c.args.touched.now =
    rw add-one (drop-cons c.args.touched.now c.loop-key.key-index c.key-item.result c.loop-key-test.true ∙ ap (λ (k : RowKey). k ∷ drop (suc c.loop-key.key-index) c.args.touched.now) (sym c.key-item.is)) in
    let more : most_rts es (drop c.loop-key.key-index c.args.touched.now) ≡ max c.read_time.result (most_rts es (drop (c.loop-key.key-index + 1) c.args.touched.now)) =
    ap (most_rts es) parts ∙ ap (λ n. max n (most_rts es (drop (c.loop-key.key-index + 1) c.args.touched.now))) (sym c.read_time.ensures) in
    omega (arith, c.loop-key.invariant, c.max-most.ensures, more)

pub returns : goal.returns
returns c =
    let none : most_rts c.args.rows.now.entries (drop c.loop-key.key-index c.args.touched.now) ≡ 0 = ap (most_rts c.args.rows.now.entries) (drop_all c.loop-key.key-index c.args.touched.now c.loop-key-test.false) in
    omega (arith, c.loop-key.invariant, none)
