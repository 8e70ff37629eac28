use Rattle.std.proofs.Common.{rules, ◌≡◌, ◌≤◌, List, ℕ, length, nat_eq, sym, ap, subst, ◌∙◌, arith}
use Rattle.std.specs.List.{position_or_len}
use Rattle.std.proofs.lemmas.List.{with_items_is}
use Rattle.coco_host.specs.Files.{put}
use Rattle.coco_host.specs.Record.{Write, Event, content, stored}
use Rattle.coco_host.specs.Record.Event.{Wrote}
use Rattle.coco_host.specs.Recorded.{bytes_in, Takes, IsRecorded}
use Rattle.coco_host.specs.declared.held.MemoryFile.{MemoryFile}
use Rattle.coco_host.proofs.Keeping.{keeps_wrote}
use Rattle.coco_host.proofs.recorded.Recorded.write.Goals as goal

pub invariant_of-self-2 : goal.invariant_of-self-2
invariant_of-self-2 c =
    let same : c.in_ok-copy.copy.items ≡ c.args.bytes.now = search rules in
    let w : Write = record { file = c.args.file; at = c.args.at; count = c.args.count; bytes = c.args.bytes.now } in
    let there = c.place_for.new.files in
    let now = c.take.new.files in
    let items = with_items_is there now (c.take.auto.files ∙ c.deref_mut.ensures.len) in
    let place = c.in_ok-place.ensures.place ∙ ap (position_or_len (λ f. nat_eq f.number c.args.file)) (sym c.deref_mut.ensures.value) in
    let takes = subst (λ (fs : List MemoryFile). Takes c.args.file (put c.args.at c.args.bytes.now (bytes_in c.args.file fs)) fs now) c.deref_mut.ensures.value (c.in_ok-take.ensures.ok c.args.file place) in
    subst (λ (fs : List MemoryFile). IsRecorded c.push.new.self fs c.self.inside.said.items) (sym items)
    (keeps_wrote c.self.inside.happened c.reserve.new.self c.push.new.self c.self.inside.files.items there.items now c.self.inside.said.items w _ _ _
    (subst (λ (es : List Event). c.args.at ≤ length (content (stored es c.args.file))) (sym c.self.view_is) c.requires) c.self.invariant c.place_for.ensures.same c.reserve.ensures.items c.reserve.ensures.capacity c.in_ok-reserve.ensures.ok (omega (arith, c.len.ensures, there.ok.0))
    takes c.push.ensures.items c.push.ensures.capacity (c.push.ensures.succeeds (omega (arith, c.in_ok-reserve.ensures.ok)))
    (ap (λ (b : List ℕ). Wrote (record { file = c.args.file; at = c.args.at; count = c.args.count; bytes = b })) same))
