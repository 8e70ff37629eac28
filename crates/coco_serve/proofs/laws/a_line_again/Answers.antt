use Rattle.coco_serve.proofs.RepeatLemmas.{each_again}
use Rattle.coco_serve.proofs.ReturnLemmas.{comes_again}
use Rattle.coco_serve.proofs.laws.a_line_again.Goals as goal

pub returns : goal.returns
returns c = record {
  any = λ procs before g m k batches earlier later own cs es fs ds i j line first second ordered grew then_ last one two.
      comes_again procs before g m k batches earlier later own cs es fs ds i j line first second ordered grew then_ last one two;
  each = λ procs before g k batches repeated cs ds others i line first second ordered fit lines grew grows was now.
      each_again procs before g k batches repeated cs ds others i line first second ordered fit lines grew grows was now;
}
