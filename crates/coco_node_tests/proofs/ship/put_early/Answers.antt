use Rattle.std.proofs.Common.{◌≡◌, ◌<◌, ◌∙◌, ◌∷◌, [], ap, length, rules, subst, sym}
use Rattle.std.specs.List.{Contains}
use Rattle.coco_types.specs.declared.call.Write.{Write}
use Rattle.coco_copy.specs.declared.ops.CopyAsk.TheVariants.{Put}
use Rattle.coco_copy.specs.Puts.{after_ask}
use Rattle.coco_ship.specs.Taking.{Puts}
use Rattle.coco_ship.proofs.ExampleLemmas.{written_put}
use Rattle.coco_ship.proofs.PutLemmas.{one_put, puts_wider}
use Rattle.coco_ship.proofs.WholeLemmas.{only_one}
use Rattle.coco_node_tests.proofs.ship.put_early.Goals as goal

pub loop-write-preserved : goal.loop-write-preserved
loop-write-preserved c =
    let x = c.args.piece.now in
    let i = c.loop-write.write-index in
    let w = c.write-item.result in
    let s = c.loop-write.table in
    let t = c.put.new.self in
    let ws = c.as_slice-write-items.result.now in
    let within : i < length ws = search rules in
    let has_write : Contains x.writes w = subst (λ vs. Contains vs w) c.as_slice-write-items.ensures (i, within, sym c.write-item.is) in
    let put = one_put s 1 x.time w c.loop-write.invariant.epoch in
    let state : t ≡ after_ask s (Put 1 x.time w) =
    c.in_ok-put.ensures.state ∙ ap (λ (v : Write). after_ask s (Put 1 x.time v)) c.in_ok-try_clone.ensures in
    let one : Puts x.time (w ∷ []) s t = subst (Puts x.time (w ∷ []) s) (sym state) put.0 in
    let puts : Puts x.time x.writes s t = puts_wider x.time (w ∷ []) x.writes s t (λ v has. subst (Contains x.writes) (only_one w v has) has_write) one in
    record {
      epoch = puts.epoch_stays ∙ c.loop-write.invariant.epoch;
      written = λ pieces has before. written_put pieces c.args.partition x s t (record { among = has; partition = c.if-piece-partition.false }) puts (c.loop-write.invariant.written pieces has before);
    }
