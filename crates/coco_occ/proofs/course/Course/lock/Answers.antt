use Rattle.std.proofs.Common.{◌≡◌, inl, inr, Some, ap, ◌∙◌, arith}
use Rattle.coco_occ.proofs.CourseLemmas.{shown_at, lock_taken, lock_differs}
use Rattle.coco_occ.proofs.course.Course.lock.Goals as goal

pub returns-in-None-clause-stands : goal.returns-in-None-clause-stands
returns-in-None-clause-stands c r m before s at =
    lock_taken r m before c.args.self.now c.pass.new.self c.args.key c.args.wts c.args.rts c.max-self.result c.flatten-read.result s at (shown_at c.args.self.now.expected.items c.deref.result.now c.args.self.now.place c.get.result c.copied.result c.flatten-read.result c.deref.ensures.value c.get.ensures.lookup.3 c.copied.ensures c.flatten-read.ensures) (inl c.in-None.is) c.pass.ensures c.max-self.ensures

pub returns-else-read-found-clause-stands : goal.returns-else-read-found-clause-stands
returns-else-read-found-clause-stands c r m before s at =
    let differs = c.if-read-found.false in
    let same : c.in-Some.read ≡ c.args.wts = omega (arith, differs) in
    lock_taken r m before c.args.self.now c.pass.new.self c.args.key c.args.wts c.args.rts c.max-self.result c.flatten-read.result s at (shown_at c.args.self.now.expected.items c.deref.result.now c.args.self.now.place c.get.result c.copied.result c.flatten-read.result c.deref.ensures.value c.get.ensures.lookup.3 c.copied.ensures c.flatten-read.ensures) (inr (c.in-Some.is ∙ ap (λ n. Some n) same)) c.pass.ensures c.max-self.ensures

pub returns-then-read-found-clause-stands : goal.returns-then-read-found-clause-stands
returns-then-read-found-clause-stands c r m before s at =
    lock_differs r m before c.args.self.now c.pass.new.self c.give_up.new.self c.args.key c.args.wts c.args.rts c.max-self.result c.in-Some.read c.flatten-read.result s (shown_at c.args.self.now.expected.items c.deref.result.now c.args.self.now.place c.get.result c.copied.result c.flatten-read.result c.deref.ensures.value c.get.ensures.lookup.3 c.copied.ensures c.flatten-read.ensures) c.in-Some.is c.if-read-found.true c.pass.ensures c.max-self.ensures c.give_up.ensures
