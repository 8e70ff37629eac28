use Rattle.std.proofs.Common.{◌≡◌, ◌⊎◌, List, [], ◌∷◌, ◌++◌, length, Some, ap, subst, ◌∙◌, arith}
use Rattle.coco_host.specs.Record.{Write, Event}
use Rattle.coco_host.specs.Record.Event.{Wrote}
use Rattle.coco_host.specs.HostState.{HostState}
use Rattle.coco_host.proofs.Events.{wrote_files, wrote_said, wrote_follows, tore_files, tore_said, tore_follows, tore_elapses, elapses_to}
use Rattle.coco_host.proofs.memory.MemoryHostHost.write_at.Goals as goal

pub returns-then-disk_call_fails-clause-refused : goal.returns-then-disk_call_fails-clause-refused
returns-then-disk_call_fails-clause-refused c =
    let e = ap (λ (h : HostState). h.events) c.self.view_is ∙ c.disk_call_fails.ensures.events in
    let w : Write = record { file = c.args.file; at = c.args.at; count = length c.args.from.now; bytes = [] } in
    let done = subst (λ (es : List Event). (c.tear.new.self ≡ es ++ Wrote w ∷ []) ⊎ (c.tear.new.self ≡ es)) e c.tear.ensures in
    tore_files c.args.self.now.events c.tear.new.self w c.requires (omega arith) done

pub returns-then-disk_call_fails-clause-said : goal.returns-then-disk_call_fails-clause-said
returns-then-disk_call_fails-clause-said c =
    let e = ap (λ (h : HostState). h.events) c.self.view_is ∙ c.disk_call_fails.ensures.events in
    let w : Write = record { file = c.args.file; at = c.args.at; count = length c.args.from.now; bytes = [] } in
    let done = subst (λ (es : List Event). (c.tear.new.self ≡ es ++ Wrote w ∷ []) ⊎ (c.tear.new.self ≡ es)) e c.tear.ensures in
    ap Some (tore_said c.args.self.now.events c.tear.new.self w c.requires (omega arith) done)

pub returns-then-disk_call_fails-clause-crash : goal.returns-then-disk_call_fails-clause-crash
returns-then-disk_call_fails-clause-crash c =
    let e = ap (λ (h : HostState). h.events) c.self.view_is ∙ c.disk_call_fails.ensures.events in
    let w : Write = record { file = c.args.file; at = c.args.at; count = length c.args.from.now; bytes = [] } in
    let done = subst (λ (es : List Event). (c.tear.new.self ≡ es ++ Wrote w ∷ []) ⊎ (c.tear.new.self ≡ es)) e c.tear.ensures in
    tore_follows c.args.self.now.events c.tear.new.self w c.requires (omega arith) done

pub returns-then-disk_call_fails-clause-time : goal.returns-then-disk_call_fails-clause-time
returns-then-disk_call_fails-clause-time c =
    let e = ap (λ (h : HostState). h.events) c.self.view_is ∙ c.disk_call_fails.ensures.events in
    let w : Write = record { file = c.args.file; at = c.args.at; count = length c.args.from.now; bytes = [] } in
    let done = subst (λ (es : List Event). (c.tear.new.self ≡ es ++ Wrote w ∷ []) ⊎ (c.tear.new.self ≡ es)) e c.tear.ensures in
    tore_elapses c.args.self.now.events c.tear.new.self w c.requires (omega arith) done

pub returns-clause-written : goal.returns-clause-written
returns-clause-written c =
    let e = ap (λ (h : HostState). h.events) c.self.view_is ∙ c.disk_call_fails.ensures.events in
    let w : Write = record { file = c.args.file; at = c.args.at; count = length c.args.from.now; bytes = c.args.from.now } in
    let is = subst (λ (es : List Event). c.write.new.self ≡ es ++ Wrote w ∷ []) e c.in-Ok.ensures.ok in
    wrote_files c.args.self.now.events c.write.new.self w c.requires (omega arith) is

pub returns-clause-said : goal.returns-clause-said
returns-clause-said c =
    let e = ap (λ (h : HostState). h.events) c.self.view_is ∙ c.disk_call_fails.ensures.events in
    let w : Write = record { file = c.args.file; at = c.args.at; count = length c.args.from.now; bytes = c.args.from.now } in
    let is = subst (λ (es : List Event). c.write.new.self ≡ es ++ Wrote w ∷ []) e c.in-Ok.ensures.ok in
    ap Some (wrote_said c.args.self.now.events c.write.new.self w c.requires (omega arith) is)

pub returns-clause-crash : goal.returns-clause-crash
returns-clause-crash c =
    let e = ap (λ (h : HostState). h.events) c.self.view_is ∙ c.disk_call_fails.ensures.events in
    let w : Write = record { file = c.args.file; at = c.args.at; count = length c.args.from.now; bytes = c.args.from.now } in
    let is = subst (λ (es : List Event). c.write.new.self ≡ es ++ Wrote w ∷ []) e c.in-Ok.ensures.ok in
    wrote_follows c.args.self.now.events c.write.new.self w c.requires (omega arith) is

pub returns-clause-time : goal.returns-clause-time
returns-clause-time c =
    let e = ap (λ (h : HostState). h.events) c.self.view_is ∙ c.disk_call_fails.ensures.events in
    let w : Write = record { file = c.args.file; at = c.args.at; count = length c.args.from.now; bytes = c.args.from.now } in
    let is = subst (λ (es : List Event). c.write.new.self ≡ es ++ Wrote w ∷ []) e c.in-Ok.ensures.ok in
    elapses_to c.args.self.now.events c.write.new.self (Wrote w) is
