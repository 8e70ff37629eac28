use Rattle.std.proofs.Common.{◌≡◌, ◌<◌, ◌∙◌, ◌∷◌, [], ap, length, rules, subst, sym, true}
use Rattle.std.specs.FinMap.{get}
use Rattle.coco_types.specs.declared.call.Write.{Write}
use Rattle.coco_copy.specs.CopyState.{CopyState}
use Rattle.coco_copy.specs.declared.ops.CopyAsk.TheVariants.{Put}
use Rattle.coco_copy.specs.Puts.{after_ask}
use Rattle.coco_ship.specs.Pieces.{covers_at}
use Rattle.coco_ship.specs.Taking.{Puts}
use Rattle.coco_ship.proofs.PutLemmas.{covers_more, one_put, puts_more}
use Rattle.coco_ship.proofs.take.put_all.Goals as goal

pub loop-write-preserved : goal.loop-write-preserved
loop-write-preserved c =
    let ws = c.args.writes.now in
    let i = c.loop-write.write-index in
    let w = c.write-item.result in
    let s = c.loop-write.table in
    let t = c.put.new.self in
    let within : i < length ws = search rules in
    let put = one_put s c.args.epoch c.args.time w (c.loop-write.invariant.puts.epoch_stays ∙ c.requires) in
    let state : t ≡ after_ask s (Put c.args.epoch c.args.time w) =
    c.in_ok-put.ensures.state ∙ ap (λ (v : Write). after_ask s (Put c.args.epoch c.args.time v)) c.in_ok-try_clone.ensures in
    let puts : Puts c.args.time (w ∷ []) s t = subst (Puts c.args.time (w ∷ []) s) (sym state) put.0 in
    let here : covers_at (get t.pending w.key) c.args.time ≡ true = ap (λ (z : CopyState). covers_at (get z.pending w.key) c.args.time) state ∙ put.1 in
    record {
      puts = puts_more ws i c.args.time w c.args.table.now s t within c.write-item.is c.loop-write.invariant.puts puts;
      pend = covers_more ws i c.args.time w s t within c.write-item.is c.loop-write.invariant.pend puts.grows here;
    }
