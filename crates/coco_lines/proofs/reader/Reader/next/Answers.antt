use Rattle.std.proofs.Common.{◌+◌, ◌≤◌, ◌∙◌, length, ap, sym, subst, arith}
use Rattle.std.specs.Prelude.{IfErr}
use Rattle.std.proofs.lemmas.Result.{err_from_is_err_and}
use Rattle.coco_lines.specs.Gathering.{Halts}
use Rattle.coco_lines.specs.ReaderState.{ReaderState}
use Rattle.coco_lines.specs.Reads.{Reads, SourceMoment, Stops, source_moment}
use Rattle.coco_lines.specs.declared.reader.Line.{Line}
use Rattle.coco_lines.proofs.ReadsLemmas.{Reads-feed, Reads-last, Reads-fault, Stops-halts, counts-feed, counts-last, some_bytes}
use Rattle.coco_lines.proofs.reader.Reader.next.Goals as goal
use Rattle.coco_lines.proofs.reader.Reader.next.Goals.{else-not-fed-via-then-not-fed+else-is_empty, else-not-fed-via-else-not-fed}

pub returns-in_err-body-clause-reads : goal.returns-in_err-body-clause-reads
returns-in_err-body-clause-reads g c =
    let told : SourceMoment = source_moment g.S.Source c.args.source.now in
    let left : SourceMoment = source_moment g.S.Source c.gather.new.source in
    let p = err_from_is_err_and c.from_residual.result c.from_residual.ensures.1 in
    subst (λ r. Reads c.args.self.now c.gather.new.self told left r) (sym p.1) (Reads-fault c.args.self.now c.gather.new.self told left c.in_err-body.ensures.err.0 p.0 c.in_err-body.ensures.err.1)

pub returns-in_err-body-clause-stops : goal.returns-in_err-body-clause-stops
returns-in_err-body-clause-stops g c =
    let told : SourceMoment = source_moment g.S.Source c.args.source.now in
    let left : SourceMoment = source_moment g.S.Source c.gather.new.source in
    let p = err_from_is_err_and c.from_residual.result c.from_residual.ensures.1 in
    subst (λ r. IfErr r (λ e. Stops e c.args.self.now c.gather.new.self)) (sym p.1)
    (Stops-halts c.args.self.now c.gather.new.self told left c.in_err-body.ensures.err.0 p.0 c.in_err-body.ensures.err.1
    (subst (λ e. Halts e c.gather.new.self) (sym p.2) c.in_err-body.ensures.stops))

pub invariant_of-self : goal.invariant_of-self
invariant_of-self g c =
    let told : SourceMoment = source_moment g.S.Source c.args.source.now in
    let left : SourceMoment = source_moment g.S.Source c.gather.new.source in
    let old = c.args.self.now in
    let new = c.gather.new.self in
    let was = c.gather.ensures.is_state.0 in
    let body = c.in_ok-body.body in
    let room : new.given + 1 + length new.pending ≤ new.taken =
    elim c.else-not-fed.branch [
      | else-not-fed-via-then-not-fed+else-is_empty w ↦
          let end = c.in_ok-body.ensures.end w.if-not-fed.true in
          counts-last old new told left body was end.0 end.1 (some_bytes (length end.0.line) (sym w.if-is_empty.false ∙ w.is_empty.ensures end.0.line end.0.body_is))
      | else-not-fed-via-else-not-fed w ↦ counts-feed old new told left body was (c.in_ok-body.ensures.fed w.if-not-fed.false)
    ] in
    record {
      counts = omega (arith, room, ap (λ s. s.given) c.self.view_is, ap (λ s. length s.pending) c.self.view_is, ap (λ s. s.taken) c.self.view_is);
      within = c.self.invariant.within;
      none_behind = c.self.invariant.none_behind;
    }

pub returns-clause-reads : goal.returns-clause-reads
returns-clause-reads g c =
    let told : SourceMoment = source_moment g.S.Source c.args.source.now in
    let left : SourceMoment = source_moment g.S.Source c.gather.new.source in
    let old = c.args.self.now in
    let new = c.gather.new.self in
    let body = c.in_ok-body.body in
    let line : Line = record { number = c.self.inside.given + 1; body = body } in
    let now : ReaderState = record { pending = c.self.inside.held; ended = c.self.inside.ended; taken = c.self.inside.taken; given = c.self.inside.given + 1 } in
    let pending = ap (λ s. s.pending) c.self.view_is in
    let ended = ap (λ s. s.ended) c.self.view_is in
    let taken = ap (λ s. s.taken) c.self.view_is in
    elim c.else-not-fed.branch [
      | else-not-fed-via-then-not-fed+else-is_empty w ↦
          let end = c.in_ok-body.ensures.end w.if-not-fed.true in
          let some = some_bytes (length end.0.line) (sym w.if-is_empty.false ∙ w.is_empty.ensures end.0.line end.0.body_is) in
          let numbered = ap (λ n. record { number = n + 1; body = body }) (ap (λ s. s.given) c.self.view_is ∙ end.0.given) in
          Reads-last old new told left body line end.0 now (pending ∙ end.1) (ended ∙ end.2) taken some numbered
      | else-not-fed-via-else-not-fed w ↦
          let gathered = c.in_ok-body.ensures.fed w.if-not-fed.false in
          let numbered = ap (λ n. record { number = n + 1; body = body }) (ap (λ s. s.given) c.self.view_is ∙ gathered.given) in
          Reads-feed old new told left body line gathered now pending ended taken numbered
    ]
