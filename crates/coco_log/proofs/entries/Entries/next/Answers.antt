use Rattle.std.proofs.Common.{◌≡◌, inr, ℕ, ◌+◌, ◌-◌, ◌≤◌, [], ◌∷◌, ◌++◌, take, drop, Option, Some, Ok, sym, ◌∙◌, ap, subst, arith}
use Rattle.coco_log.specs.Gates.{IsPart, IsStep}
use Rattle.coco_log.specs.Reading.{Reading, IsReading}
use Rattle.coco_log.proofs.Readings.{body_shown, next_read}
use Rattle.coco_log.proofs.entries.Entries.next.Goals as goal

pub returns-clause-next : goal.returns-clause-next
returns-clause-next g c files bodies told reading =
    let x = c.self.inside in
    let w = c.reach.new.self in
    let first : Reading = record { file = x.window.file; kind = x.kind; places = x.places.items; at = x.at; end = x.end; from = x.window.from; count = x.window.count; bytes = x.window.bytes.items; body = take x.length (drop x.start x.window.bytes.items) } in
    let new : Reading = record { file = w.file; kind = x.kind; places = c.push.new.self.items; at = c.in-Some.next; end = x.end; from = w.from; count = w.count; bytes = w.bytes.items; body = take (c.in-Some.next - x.at - 5) (drop (c.in_ok-skip.skip + 5) w.bytes.items) } in
    let was : IsReading first bodies (files x.window.file) = subst (λ (r : Reading). IsReading r bodies (files r.file)) (sym c.self.view_is) reading in
    let told_then = c.next_gate.ensures.read.same ∙ told in
    let same = c.next_gate.ensures.file in
    let step : IsStep (files x.window.file) x.at (Ok (Some c.in-Some.next)) = subst (λ (o : Option ℕ). IsStep (files x.window.file) x.at (Ok o)) c.in-Some.is (c.in_ok-next.ensures.step files told was.end was.part) in
    let parted = subst (λ (n : ℕ). IsPart c.next_gate.new.window.from c.next_gate.new.window.count c.next_gate.new.window.bytes.items (files n)) (sym same) (c.next_gate.ensures.part files told was.part) in
    let part : IsPart w.from w.count w.bytes.items (files x.window.file) = subst (λ (n : ℕ). IsPart w.from w.count w.bytes.items (files n)) same (c.reach.ensures.part files told_then parted) in
    let far : c.in-Some.next - x.at ≡ step.0 = omega (arith, step.1) in
    let room : c.in_ok-skip.skip + step.0 ≤ w.count = omega (arith, far, c.if-self-skip.false, c.in_ok-skip.ensures.within) in
    let body : new.body ≡ step.2.body =
    ap (λ (n : ℕ). take (n - 5) (drop (c.in_ok-skip.skip + 5) w.bytes.items)) far
    ∙ body_shown w.from w.count c.in_ok-skip.skip x.at step.0 w.bytes.items (files x.window.file) part c.in_ok-skip.ensures.place room step.2 in
    let now : IsReading new (bodies ++ new.body ∷ []) (files x.window.file) = record {
      walked = next_read x.kind (files x.window.file) x.places.items c.push.new.self.items x.at c.in-Some.next step.0 bodies new.body was.walked step.2 c.in_ok-push.ensures.items step.1 body;
      end = was.end;
      gate = inr (c.in_ok-next.ensures.on c.in-Some.next (ap Ok c.in-Some.is)).2;
      part = part;
    } in
    subst (λ (r : Reading). IsReading new (bodies ++ new.body ∷ []) (files r.file)) c.self.view_is now
