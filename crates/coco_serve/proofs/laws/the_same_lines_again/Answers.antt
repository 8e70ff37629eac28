use Rattle.std.proofs.Common.{sym, ap, ◌∙◌, append-nil, []}
use Rattle.coco_lines.specs.Batches.{joined}
use Rattle.coco_lines.specs.Classes.{new_of}
use Rattle.coco_serve.proofs.AgainLemmas.{answered_again, as_without_break, none_new_again, nothing_behind}
use Rattle.coco_serve.proofs.OnceLemmas.{all_new, stays}
use Rattle.coco_serve.proofs.SpentLemmas.{stays_again}
use Rattle.coco_serve.proofs.laws.the_same_lines_again.Goals as goal

pub returns : goal.returns
returns c = record {
  once = λ procs g batches ds k grows. all_new procs g batches ds k grows;
  answered = λ procs before batches repeated cs ds g k others all lines first second. answered_again procs before batches repeated cs ds g k others all lines first second;
  stays = λ procs before batches repeated cs ds g k all lines first second.
      let a = answered_again procs before batches repeated cs ds g k [] all (lines ∙ sym (append-nil (joined batches))) first second in
      stays procs g repeated ds k second (ap new_of (nothing_behind procs (joined cs) (joined ds) g k a) ∙ none_new_again (joined cs));
  forgotten = λ procs before batches repeated cs ds g k fit lines first second. stays_again procs before batches repeated cs ds g k fit lines first second;
  unbroken = λ procs before batches repeated whole cs ds es g k w others all lines first second same undisturbed.
      as_without_break procs before batches whole cs es g w k others (joined ds) all first (same ∙ lines) undisturbed (answered_again procs before batches repeated cs ds g k others all lines first second);
}
