use Rattle.std.proofs.Common.{◌∙◌, inl, inr, sym, ⊎_elim}
use Rattle.coco_asks.specs.Sorting.{dones_with}
use Rattle.coco_asks.proofs.SortLemmas.{dones_end}
use Rattle.coco_asks.proofs.texts.dones_of.Goals as goal

pub returns : goal.returns
returns c =
    let a = c.loop-request.request-iterator.a.rest in
    let b = c.loop-request.request-iterator.b.rest in
    dones_end c.args.epoch (dones_with c.args.epoch c.args.requests.items c.args.replies.items) c.loop-request.dones.items a.items b.items
    (⊎_elim (λ u. inl (sym a.ok.0 ∙ u.1.0)) (λ u. inr (sym b.ok.0 ∙ u.1.0)) c.in-None.ensures.steps) c.loop-request.invariant
