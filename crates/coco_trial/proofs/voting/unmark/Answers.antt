use Rattle.std.proofs.Common.{◌≡◌, ◌+◌, ◌++◌, map, take, drop, subst, arith}
use Rattle.std.specs.Prelude.{slice_set}
use Rattle.std.proofs.lemmas.List.Edits.{map_over_more}
use Rattle.coco_letters.specs.declared.voter.Voter.{Voter}
use Rattle.coco_trial.specs.Voting.{unmarked}
use Rattle.coco_trial.proofs.voting.unmark.Goals as goal

pub loop-place-preserved : goal.loop-place-preserved
loop-place-preserved c =
    let old = c.args.voters.now in
    let now = c.loop-place.voters in
    let i = c.loop-place.place in
    subst (λ (v : Voter). slice_set now i (unmarked v) ≡ map unmarked (take (i + 1) old) ++ drop (i + 1) old) c.index-voters-place.is
    (map_over_more unmarked old now i c.index-voters-place.result (omega (arith, c.loop-place-test.true)) c.loop-place.invariant c.index-voters-place.is)
