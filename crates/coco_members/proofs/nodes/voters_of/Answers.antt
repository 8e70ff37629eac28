use Rattle.std.proofs.Common.{◌≡◌, ℕ, ◌+◌, ◌<◌, List, ◌∷◌, length, drop, get_or, Some, ap, sym, ◌∙◌, arith}
use Rattle.std.specs.List.{remove, slice_get}
use Rattle.std.proofs.lemmas.List.{drop_more}
use Rattle.std.proofs.lemmas.Option.{slice_get-get_or}
use Rattle.coco_log.specs.LogState.{LogState}
use Rattle.coco_members.specs.Opened.{IsFirstOf}
use Rattle.coco_members.proofs.PlaceLemmas.{each_more, length_more}
use Rattle.coco_members.proofs.nodes.voters_of.Goals as goal

pub loop-node-preserved : goal.loop-node-preserved
loop-node-preserved c =
    let logs = c.args.logs.items in
    let log = c.remove-log.result in
    let n : ℕ = c.loop-node.node in
    let was = c.loop-node.invariant in
    let made = c.in_ok-add_voter.ensures in
    let within : n < length logs = omega (arith, c.loop-node-test.true, c.requires) in
    let first : c.loop-node.logs.items ≡ get_or logs n log ∷ drop (n + 1) logs = was.rest ∙ drop_more logs n log within in
    let is : log ≡ get_or logs n log = c.remove-log.ensures.value ∙ ap (λ (l : List LogState). get_or l 0 log) first in
    let here : slice_get logs n ≡ Some log = slice_get-get_or logs n log within ∙ ap Some (sym is) in
    record {
      count = length_more c.loop-node.voters.items made.0 c.add_voter.new.voters.items n made.2 was.count;
      rest = c.remove-log.ensures.items ∙ ap (λ (l : List LogState). remove l 0) first;
      each = each_more (IsFirstOf c.args.layout.now logs) c.loop-node.voters.items made.0 c.add_voter.new.voters.items n made.2 was.count was.each (log, here, made.1);
    }
