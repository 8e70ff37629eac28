use Rattle.std.proofs.Common.{◌≡◌, ◌∙◌, ap, drop, take}
use Rattle.coco_net.specs.Rounds.{script_loses, still_loses}
use Rattle.coco_net.proofs.ChoiceLemmas.{loses_below}
use Rattle.coco_net.proofs.script.script_round.Goals as goal

pub give-requires-clause-room : goal.give-requires-clause-room
give-requires-clause-room c = λ loses.
    let s = c.args.post.now in
    let before = take s.since s.sent in
    let fresh = drop s.since s.sent in
    let seen : script_loses c.still_loses-lose.result (take c.since.result c.sent.result.now) (drop c.since.result c.sent.result.now) ≡ script_loses c.still_loses-lose.result before fresh =
    ap (λ n. script_loses c.still_loses-lose.result (take n c.sent.result.now) (drop n c.sent.result.now)) c.since.ensures.since ∙ ap (λ ps. script_loses c.still_loses-lose.result (take s.since ps) (drop s.since ps)) c.sent.ensures in
    loses_below c.args.lose c.still_loses-lose.result s.faults c.in_ok-numbers.loses before fresh (c.still_loses-lose.ensures ∙ ap (still_loses c.args.lose) c.faults.ensures) (c.in_ok-numbers.ensures.loses ∙ seen) loses
