use Rattle.std.proofs.Common.{◌≡◌, ◌∙◌, ◌+◌, ◌++◌, ◌∷◌, [], ℕ, List, Option, None, Some, take, sym, ap, arith, slice_index_or, slice_set}
use Rattle.std.specs.Option.{option_or}
use Rattle.std.proofs.lemmas.List.{take_more}
use Rattle.coco_occ.specs.Course.{wts_in}
use Rattle.coco_occ.specs.declared.course.SeenKey.{SeenKey}
use Rattle.coco_occ.proofs.Searches.{times, times_same, times_more, time_at}
use Rattle.coco_occ.proofs.course.note_times.Goals as goal
use Rattle.coco_occ.proofs.course.note_times.Goals.{in-Some, in_default}

pub loop-read-preserved : goal.loop-read-preserved
loop-read-preserved c =
    let ws = c.args.writes.now in
    let s = c.read-item.result in
    let done = take c.loop-read.read-index c.args.seen.now in
    let taken : take (c.loop-read.read-index + 1) c.args.seen.now ≡ done ++ s ∷ [] =
    take_more c.args.seen.now c.loop-read.read-index s (omega arith) ∙ ap (λ (x : SeenKey). done ++ x ∷ []) (sym c.read-item.is) in
    elim c.match-place_of.branch [
      | in-Some w ↦ record {
        len = c.match-place_of.auto.times ∙ c.loop-read.invariant.len;
        noted = λ rises.
            let place = w.in-Some.place in
            let now = c.loop-read.invariant.noted rises in
            let found = w.in-Some.ensures.found in
            let time : w.or-time.result ≡ option_or (wts_in done s.key) (Some s.wts) =
            w.or-time.ensures ∙ ap (λ o. option_or o (Some s.wts)) (ap (λ (ts : List (Option ℕ)). slice_index_or ts place None) now ∙ time_at done s.key ws place None found.0 found.1) in
            w.times-is ∙ ap (λ (ts : List (Option ℕ)). slice_set ts place w.or-time.result) now ∙ ap (slice_set (times done ws) place) time
            ∙ times_more done s ws place rises found.0 found.1 ∙ ap (λ (l : List SeenKey). times l ws) (sym taken);
      }
      | in_default w ↦ record {
        len = c.match-place_of.auto.times ∙ c.loop-read.invariant.len;
        noted = λ rises. w.times-is ∙ c.loop-read.invariant.noted rises ∙ times_same done s ws (w.in_default.ensures.none rises) ∙ ap (λ (l : List SeenKey). times l ws) (sym taken);
      }
    ]
