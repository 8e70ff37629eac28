use Rattle.std.proofs.Common.{◌∙◌, sym, ap, subst}
use Rattle.coco_lines.specs.Gathering.{Gathering}
use Rattle.coco_lines.specs.Reads.{SourceMoment, source_moment}
use Rattle.coco_lines.proofs.GatheringLemmas.{Gathering-feed, Gathering-all, Gathering-fill, on_err}
use Rattle.coco_lines.proofs.reader.Reader.gather.Goals as goal

pub returns-then-fed-clause-fed : goal.returns-then-fed-clause-fed
returns-then-fed-clause-fed g c = λ yes.
    Gathering-feed c.args.self.now c.loop-longer.self c.cut.new.self (source_moment g.S.Source c.args.source.now) (source_moment g.S.Source c.loop-longer.source) c.loop-longer.body
    c.in_ok-longer.longer c.in_ok-longer.fed yes c.loop-longer.invariant.gathering c.in_ok-longer.ensures.ok
    (ap (λ s. s.taken) c.cut.ensures.same) (ap (λ s. s.ended) c.cut.ensures.same) (ap (λ s. s.given) c.cut.ensures.same)

pub loop-longer-preserved : goal.loop-longer-preserved
loop-longer-preserved g c =
    let all =
    Gathering-all c.args.self.now c.loop-longer.self c.cut.new.self (source_moment g.S.Source c.args.source.now) (source_moment g.S.Source c.loop-longer.source) c.loop-longer.body
    c.in_ok-longer.longer c.in_ok-longer.fed c.if-fed.false c.loop-longer.invariant.gathering c.in_ok-longer.ensures.ok
    (ap (λ s. s.taken) c.cut.ensures.same) (ap (λ s. s.ended) c.cut.ensures.same) (ap (λ s. s.given) c.cut.ensures.same) in
    let unmet = sym (ap (λ s. s.ended) c.self-in-loop-longer.view_is) ∙ c.if-self.false in
    let filled = c.in_ok-fill.ensures in
    record {
      gathering =
          Gathering-fill c.args.self.now c.cut.new.self c.fill.new.self (source_moment g.S.Source c.args.source.now) (source_moment g.S.Source c.loop-longer.source) (source_moment g.S.Source c.fill.new.source) c.in_ok-longer.longer all.0 all.1 unmet filled.gives filled.taken filled.given filled.end;
      faults = filled.counts ∙ c.loop-longer.invariant.faults;
      was_state = c.loop-longer.invariant.was_state;
      is_state = filled.state;
    }

pub returns-in_err-fill-clause-err : goal.returns-in_err-fill-clause-err
returns-in_err-fill-clause-err g c =
    let told : SourceMoment = source_moment g.S.Source c.args.source.now in
    let met : SourceMoment = source_moment g.S.Source c.loop-longer.source in
    let now : SourceMoment = source_moment g.S.Source c.fill.new.source in
    let all =
    Gathering-all c.args.self.now c.loop-longer.self c.cut.new.self told met c.loop-longer.body
    c.in_ok-longer.longer c.in_ok-longer.fed c.if-fed.false c.loop-longer.invariant.gathering c.in_ok-longer.ensures.ok
    (λ i. (c.cut.ensures.same i).taken) (λ i. (c.cut.ensures.same i).ended) (λ i. (c.cut.ensures.same i).given) in
    let same_source =
    subst (λ o. Gathering c.args.self.now c.cut.new.self told o c.in_ok-longer.longer c.cut.new.self.pending) {x = met} {y = now} (sym c.in_err-fill.ensures.same) all.0 in
    on_err c.from_residual-in_err-fill.result
    (c.in_ok-longer.longer, subst (λ s. Gathering c.args.self.now s told now c.in_ok-longer.longer s.pending) (sym c.in_err-fill.ensures.err) same_source)
