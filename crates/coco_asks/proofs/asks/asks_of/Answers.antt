use Rattle.std.proofs.Common.{◌++◌, ◌∷◌, [], List, append-nil, append_assoc, ap, sym, subst, ◌∙◌}
use Rattle.std.specs.List.{AllByRecursion}
use Rattle.std.proofs.lemmas.List.{nil_from_length}
use Rattle.coco_types.specs.declared.call.Request.{Request}
use Rattle.coco_ast.specs.Fitting.{Fits}
use Rattle.coco_lines.specs.declared.reader.Line.{Line as Given}
use Rattle.coco_asks.specs.Sorting.{AreSorted}
use Rattle.coco_asks.proofs.asks.asks_of.Goals as goal

pub loop-line-init : goal.loop-line-init
loop-line-init c = record {
  sorted = ([], c.into_iter-line-iterator.ensures.into_iter_gives.0, (c.new-asks.ensures.refusals, c.new-asks.ensures.requests));
  fit = subst (AllByRecursion (λ (r : Request). Fits c.args.procs.now r.call)) (sym c.new-asks.ensures.requests) tt;
}

pub take-requires : goal.take-requires
take-requires c = c.loop-line.invariant.fit

pub loop-line-preserved : goal.loop-line-preserved
loop-line-preserved c =
    let s = c.loop-line.invariant.sorted in
    record {
      sorted = (
        s.0 ++ c.in-Some.line ∷ [],
        append_assoc s.0 (c.in-Some.line ∷ []) c.next.new.self.rest.items ∙ ap (λ (rest : List Given). s.0 ++ rest) (sym c.in-Some.ensures.steps.0) ∙ s.1,
        c.in_ok-take.ensures.sorted s.0 s.2,
      );
      fit = c.in_ok-take.ensures.fit;
    }

pub returns-clause-sorted : goal.returns-clause-sorted
returns-clause-sorted c =
    let s = c.loop-line.invariant.sorted in
    let none = nil_from_length c.loop-line.line-iterator.rest.items (sym c.loop-line.line-iterator.rest.ok.0 ∙ c.in-None.ensures.steps.0) in
    subst (λ (ls : List Given). AreSorted c.args.procs.now ls c.loop-line.asks.refusals.items c.loop-line.asks.requests.items) (sym (append-nil s.0) ∙ ap (λ (rest : List Given). s.0 ++ rest) (sym none) ∙ s.1) s.2
