use Rattle.std.proofs.Common.{◌∷◌, ◌++◌, [], List, Option, sym, ap, ◌∙◌}
use Rattle.std.specs.List.{filter_map}
use Rattle.std.proofs.lemmas.List.Elements.{filter_map-append}
use Rattle.coco_types.specs.declared.call.Request.{Request}
use Rattle.coco_lost.proofs.RequestLemmas.{one_more}
use Rattle.coco_lost.proofs.requests.filled.Goals as goal

pub loop-slot-preserved : goal.loop-slot-preserved
loop-slot-preserved c = (
  c.loop-slot.invariant.0 ++ c.in-Some.slot ∷ [],
  one_more c.args.slots.items c.loop-slot.invariant.0 c.loop-slot.slot-iterator.rest.items c.in-Some.slot c.next.new.self.rest.items c.loop-slot.invariant.1 c.in-Some.ensures.steps.0,
  c.in_ok-add.ensures ∙ ap (λ (rs : List Request). rs ++ filter_map (λ (slot : Option Request). slot) (c.in-Some.slot ∷ [])) c.loop-slot.invariant.2
      ∙ sym (filter_map-append (λ (slot : Option Request). slot) c.loop-slot.invariant.0 (c.in-Some.slot ∷ [])),
)
