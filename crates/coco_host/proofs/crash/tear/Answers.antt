use Rattle.std.proofs.Common.{◌≡◌, ◌≤◌, length, Result, Ok, Err, OnOk, sym, ap, subst, arith}
use Rattle.coco_host.specs.Record.{Write, Event}
use Rattle.coco_host.specs.Recorded.{event_of}
use Rattle.coco_host.specs.Crash.{IsTornBy}
use Rattle.coco_host.proofs.Crashing.{torn_here}
use Rattle.coco_host.proofs.crash.tear.Goals as goal

on_ok : {T E P Q : Type 0} (r : Result T E) → (P → Q) → OnOk r P → OnOk r Q
on_ok (Ok x) f p = f p
on_ok (Err e) f p = tt

pub returns-in_ok-torn-in-Wrote : goal.returns-in_ok-torn-in-Wrote
returns-in_ok-torn-in-Wrote c =
    let w : Write = record { file = c.in-Wrote.number; at = c.in-Wrote.at; count = c.in-Wrote.count; bytes = c.in-Wrote.written.items } in
    let old = c.args.bytes.now.items in
    let new = c.put_bytes.new.file.items in
    let part = c.deref-in-Wrote-2.result.now in
    let here : c.args.file ≡ w.file = omega arith in
    let within : w.at ≤ length old = omega (arith, c.len.ensures, c.args.bytes.now.ok.0, c.if-at-len.false) in
    let short : length part ≤ w.count = omega (arith, c.in_ok-torn-in-Wrote.ensures, ap length c.deref-in-Wrote-2.ensures.value) in
    on_ok c.put_bytes.result (λ is. subst (λ (e : Event). IsTornBy c.args.file e old new) (sym (ap event_of c.in-Wrote.is)) (torn_here c.args.file w part old new here within short is)) c.put_bytes.ensures.ok
