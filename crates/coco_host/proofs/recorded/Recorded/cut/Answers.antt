use Rattle.std.proofs.Common.{ℕ, List, [], length, map, take, sym, subst, ap, ◌∙◌, arith}
use Rattle.std.specs.Vec.{with_items}
use Rattle.std.proofs.lemmas.List.{with_items_is}
use Rattle.coco_host.specs.Record.{Event, Stored, content, stored, said_of}
use Rattle.coco_host.specs.Recorded.{event_of, cut_event, Shortens, IsRecorded}
use Rattle.coco_host.specs.declared.recorded.Happening.{Happening}
use Rattle.coco_host.specs.declared.held.MemoryFile.{MemoryFile}
use Rattle.coco_host.proofs.Cutting.{cut_content, cut_stored, cut_said}
use Rattle.coco_host.proofs.Events.{synced_here, synced_elsewhere, synced_said}
use Rattle.coco_host.proofs.Keeping.{events, recorded_cut}
use Rattle.coco_host.proofs.recorded.Recorded.cut.Goals as goal

pub invariant_of-self : goal.invariant_of-self
invariant_of-self c =
    let old = c.self.inside.happened in
    let new = with_items old c.cut_all.new.happened in
    let items = with_items_is old c.cut_all.new.happened (c.cut_all.auto.happened ∙ c.deref_mut.ensures.len) in
    let files = with_items_is c.self.inside.files c.shorten.new.files (c.shorten.auto.files ∙ c.deref_mut-2.ensures.len) in
    let is = ap (λ (xs : List Happening). map event_of xs) items ∙ c.cut_all.ensures ∙ ap (λ (xs : List Happening). map (cut_event c.args.file c.args.len) (map event_of xs)) c.deref_mut.ensures.value in
    subst (λ (fs : List MemoryFile). IsRecorded new fs c.self.inside.said.items) (sym files)
    (recorded_cut old new c.self.inside.files.items c.shorten.new.files c.self.inside.said.items c.args.file c.args.len c.self.invariant is
    (subst (λ (fs : List MemoryFile). Shortens c.args.file c.args.len fs c.shorten.new.files) c.deref_mut-2.ensures.value c.shorten.ensures)
    (ap length items ∙ c.cut_all.auto.happened ∙ ap length c.deref_mut.ensures.value) (omega arith))

pub returns-clause-cut : goal.returns-clause-cut
returns-clause-cut c =
    let old = c.self.inside.happened in
    let items = with_items_is old c.cut_all.new.happened (c.cut_all.auto.happened ∙ c.deref_mut.ensures.len) in
    let is = ap (λ (xs : List Happening). map event_of xs) items ∙ c.cut_all.ensures ∙ ap (λ (xs : List Happening). map (cut_event c.args.file c.args.len) (map event_of xs)) c.deref_mut.ensures.value in
    synced_here (events (with_items old c.cut_all.new.happened)) c.sync.new.self c.args.file c.sync.ensures
    ∙ ap (λ (l : List ℕ). (let s : Stored = record { synced = l; unsynced = [] } in s))
    (ap (λ (es : List Event). content (stored es c.args.file)) is ∙ cut_content c.args.file c.args.len (events old) (c.self.invariant.placed c.args.file)
    ∙ ap (λ (es : List Event). take c.args.len (content (stored es c.args.file))) c.self.view_is)

pub returns-clause-elsewhere : goal.returns-clause-elsewhere
returns-clause-elsewhere c =
    let old = c.self.inside.happened in
    let items = with_items_is old c.cut_all.new.happened (c.cut_all.auto.happened ∙ c.deref_mut.ensures.len) in
    let is = ap (λ (xs : List Happening). map event_of xs) items ∙ c.cut_all.ensures ∙ ap (λ (xs : List Happening). map (cut_event c.args.file c.args.len) (map event_of xs)) c.deref_mut.ensures.value in
    λ n far. synced_elsewhere (events (with_items old c.cut_all.new.happened)) c.sync.new.self c.args.file c.sync.ensures n far
    ∙ ap (λ (es : List Event). stored es n) is ∙ cut_stored c.args.file c.args.len (events old) n far ∙ ap (λ (es : List Event). stored es n) c.self.view_is

pub returns-clause-said : goal.returns-clause-said
returns-clause-said c =
    let old = c.self.inside.happened in
    let items = with_items_is old c.cut_all.new.happened (c.cut_all.auto.happened ∙ c.deref_mut.ensures.len) in
    let is = ap (λ (xs : List Happening). map event_of xs) items ∙ c.cut_all.ensures ∙ ap (λ (xs : List Happening). map (cut_event c.args.file c.args.len) (map event_of xs)) c.deref_mut.ensures.value in
    synced_said (events (with_items old c.cut_all.new.happened)) c.sync.new.self c.args.file c.sync.ensures
    ∙ ap said_of is ∙ cut_said c.args.file c.args.len (events old) ∙ ap said_of c.self.view_is
