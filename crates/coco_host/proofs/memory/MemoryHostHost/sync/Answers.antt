use Rattle.std.proofs.Common.{◌≡◌, ◌⊎◌, List, [], ◌∷◌, ◌++◌, Some, ap, subst, ◌∙◌}
use Rattle.coco_host.specs.Record.{Event, stored}
use Rattle.coco_host.specs.Record.Event.{Synced}
use Rattle.coco_host.specs.HostState.{HostState}
use Rattle.coco_host.proofs.Events.{synced_files, synced_said, synced_no_more, synced_elapses, synced_durable}
use Rattle.coco_host.proofs.memory.MemoryHostHost.sync.Goals as goal

pub returns-clause-durable : goal.returns-clause-durable
returns-clause-durable c =
    let e = ap (λ (h : HostState). h.events) c.self.view_is ∙ c.disk_call_fails.ensures.events in
    let done = subst (λ (es : List Event). (c.sync.new.self ≡ es ++ Synced c.args.file ∷ []) ⊎ ((c.sync.new.self ≡ es) × ((stored es c.args.file).unsynced ≡ []))) e c.sync.ensures in
    synced_durable c.args.self.now.events c.sync.new.self c.args.file done

pub returns-clause-same : goal.returns-clause-same
returns-clause-same c =
    let e = ap (λ (h : HostState). h.events) c.self.view_is ∙ c.disk_call_fails.ensures.events in
    let done = subst (λ (es : List Event). (c.sync.new.self ≡ es ++ Synced c.args.file ∷ []) ⊎ ((c.sync.new.self ≡ es) × ((stored es c.args.file).unsynced ≡ []))) e c.sync.ensures in
    ap Some (synced_files c.args.self.now.events c.sync.new.self c.args.file done)

pub returns-clause-said : goal.returns-clause-said
returns-clause-said c =
    let e = ap (λ (h : HostState). h.events) c.self.view_is ∙ c.disk_call_fails.ensures.events in
    let done = subst (λ (es : List Event). (c.sync.new.self ≡ es ++ Synced c.args.file ∷ []) ⊎ ((c.sync.new.self ≡ es) × ((stored es c.args.file).unsynced ≡ []))) e c.sync.ensures in
    ap Some (synced_said c.args.self.now.events c.sync.new.self c.args.file done)

pub returns-clause-crash : goal.returns-clause-crash
returns-clause-crash c =
    let e = ap (λ (h : HostState). h.events) c.self.view_is ∙ c.disk_call_fails.ensures.events in
    let done = subst (λ (es : List Event). (c.sync.new.self ≡ es ++ Synced c.args.file ∷ []) ⊎ ((c.sync.new.self ≡ es) × ((stored es c.args.file).unsynced ≡ []))) e c.sync.ensures in
    synced_no_more c.args.self.now.events c.sync.new.self c.args.file done

pub returns-clause-time : goal.returns-clause-time
returns-clause-time c =
    let e = ap (λ (h : HostState). h.events) c.self.view_is ∙ c.disk_call_fails.ensures.events in
    let done = subst (λ (es : List Event). (c.sync.new.self ≡ es ++ Synced c.args.file ∷ []) ⊎ ((c.sync.new.self ≡ es) × ((stored es c.args.file).unsynced ≡ []))) e c.sync.ensures in
    synced_elapses c.args.self.now.events c.sync.new.self c.args.file done
