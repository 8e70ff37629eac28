use Rattle.std.proofs.Common.{◌++◌, ◌∷◌, [], List, take, slice_index_or, sym, ap, ◌∙◌, arith}
use Rattle.std.proofs.lemmas.List.{get_or_default}
use Rattle.coco_occ.specs.declared.outcome.Ended.{Ended}
use Rattle.coco_occ.specs.declared.outcome.Tried.{Tried}
use Rattle.coco_worker.specs.Trying.{ends_of}
use Rattle.coco_parallel.specs.Ends.{ends_at}
use Rattle.coco_parallel.proofs.EndsLemmas.{take_one}
use Rattle.coco_parallel.proofs.ToldLemmas.{end_added, end_past}
use Rattle.coco_parallel.proofs.tail.add_ends.Goals as goal
use Rattle.coco_parallel.proofs.tail.add_ends.Goals.{then-place-ends+in_ok-add_end, else-place-ends}

pub loop-script-preserved : goal.loop-script-preserved
loop-script-preserved c = λ place lt.
    let t : Tried = c.script-item.result in
    let first = c.args.ends.now in
    let old = c.loop-script.ends in
    let same = c.loop-script.auto.ends in
    let seen : List Tried = take c.loop-script.script-index c.args.tried.now in
    let more = take_one c.args.tried.now c.loop-script.script-index t c.loop-script-test.true c.script-item.is in
    let whole = ap (λ (ts : List Tried). slice_index_or first place [] ++ ends_at place ts) (sym more) in
    elim c.if-place-ends.branch [
      | then-place-ends+in_ok-add_end w ↦
          let here = w.if-place-ends.true in
          let was = get_or_default old t.place w.index-ends-place.result [] (omega (arith, here)) in
          ap (λ (es : List (List Ended)). slice_index_or es place []) w.ends-is
          ∙ end_added first old seen t (omega (arith, same)) c.loop-script.invariant w.add_end.new.ends (omega (arith, here, same)) (w.in_ok-add_end.ensures ∙ ap (λ (es : List Ended). es ++ ends_of (t ∷ [])) was) place lt ∙ whole
      | else-place-ends w ↦
          let past = w.if-place-ends.false in
          ap (λ (es : List (List Ended)). slice_index_or es place []) w.ends-is ∙ end_past first old seen t (omega (arith, same)) c.loop-script.invariant (omega (arith, past, same)) place lt ∙ whole
    ]
