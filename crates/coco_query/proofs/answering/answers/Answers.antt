use Rattle.std.proofs.Common.{ℕ, refl, sym, ◌∙◌, subst, arith}
use Rattle.coco_desks.specs.Desks.{AreDealt}
use Rattle.coco_desks.proofs.DeskLemmas.{as_many_started}
use Rattle.coco_query.specs.Answers.{HaveRead}
use Rattle.coco_query.specs.declared.answering.Answered.{Answered}
use Rattle.coco_query.proofs.PlacingLemmas.{have_read}
use Rattle.coco_query.proofs.answering.answers.Goals as goal

pub run_crew-ran-requires-clause-some : goal.run_crew-ran-requires-clause-some
run_crew-ran-requires-clause-some g c κs within =
    let dealt = c.in-Ok-open.ensures.open.dealt in
    let many = (as_many_started c.from-readers.result c.args.tables.items c.in-Ok-open.opened.0.locks.items dealt.trays dealt.started).0 in
    let some = c.requires.some in
    omega (arith, many, some)

pub returns-in-Ok-in_order-clause-read : goal.returns-in-Ok-in_order-clause-read
returns-in-Ok-in_order-clause-read g c =
    let a : Answered = record { tables = c.run_crew-ran.result.0.tables; journals = c.run_crew-ran.result.0.journals; transcripts = c.run_crew-ran.result.0.transcripts; replies = c.in-Ok-in_order.replies } in
    let seats : ℕ = c.in-Ok.crew.claims.seats in
    let count = c.in-Ok.ensures.count in
    let dealt = subst (λ (n : ℕ). AreDealt n c.args.tables.items c.in-Ok-open.opened.0.locks.items c.in-Ok-open.opened.1.items) (sym count) c.in-Ok-open.ensures.open.dealt in
    subst (λ (n : ℕ). HaveRead c.args.procs.now c.args.requests.now (g.G.Gate.named c.args.gate.now) n c.args.tables.items a) (count ∙ c.from-readers.ensures)
    (have_read c.args.procs.now c.args.requests.now (g.G.Gate.named c.args.gate.now) seats c.args.tables.items c.run_crew-ran.result.0 (c.run_crew-ran.ensures.ran c.args.tables.items dealt c.if-not-done.false)
    a refl refl refl c.in-Ok-in_order.ensures (c.run_crew-ran.ensures.back c.args.tables.items dealt))
