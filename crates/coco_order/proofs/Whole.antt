-- Each step stands in the journal of its key's shard, so that what holds on each key holds of whole journals.
use Rattle.std.proofs.Common.{◌≡◌, ◌⊎◌, inl, inr, ℕ, ◌<◌, ◌≤◌, ◌%◌, Bool, true, false, eqb, List, [], ◌∷◌, map, refl, sym, ap, ◌∙◌, subst, arith}
use Rattle.std.proofs.lemmas.Bool.{eqb-true}
use Rattle.std.specs.List.{filter}
use Rattle.coco_types.proofs.Keys.{is_key, key_itself}
use Rattle.coco_types.specs.RowKey.{RowKey}
use Rattle.coco_ast.specs.Keyed.{value_at}
use Rattle.coco_shard.specs.Table.{key_of}
use Rattle.coco_shard.specs.Law.{Entry}
use Rattle.coco_occ.specs.declared.script.Step.{Step}
use Rattle.coco_occ.specs.declared.outcome.Tried.{Tried}
use Rattle.coco_order.specs.OneKey.{Among, own, on, IsMine}
use Rattle.coco_occ.specs.Steps.{at_shard, taken}
use Rattle.coco_order.specs.Execution.{Beginning, Execution, IsTried, IsExecution, journal_of, transcript_of, steps_of}
use Rattle.coco_order.specs.Laws.{StepsAreMine}
use Rattle.coco_order.proofs.OneKey.{marks_own}
use Rattle.coco_order.proofs.Passes.{IsSent, AreSent, own_steps, no_steps, script_of, script_cases, all_among}
use Rattle.coco_order.proofs.Orderly.{sent, orderly}
use Rattle.coco_order.proofs.CommitReads.{own_among, map_among, among_filter, filter_among}

in_shard : (b : Beginning) (x : Execution) → IsExecution b x → (shard : ℕ) → shard < b.partitions → (e : Entry) → Among (steps_of (journal_of x shard)) e → shard ≡ (key_of e.ask.op).row % b.partitions
in_shard b x is shard lt e among = from (cases e.ask.by.worker b.workers) (own_among (steps_of (journal_of x shard)) e among)
  where
    cases : (m n : ℕ) → (m < n) ⊎ (n ≤ m)
    cases m n = grind arith

    of_script : (t : Tried) → AreSent b.partitions t → Among (at_shard shard t.script) e → shard ≡ (key_of e.ask.op).row % b.partitions
    of_script t all h =
        let found = map_among taken (filter (λ (s : Step). eqb s.shard shard) t.script) e h in
        let kept = among_filter (λ (s : Step). eqb s.shard shard) t.script found.0 found.1 in
        let to : IsSent b.partitions t.by found.0 = all_among (IsSent b.partitions t.by) t.script found.0 all kept.0 in
        sym (eqb-true found.0.shard shard kept.1) ∙ to.to_shard ∙ ap (λ (d : Entry). (key_of d.ask.op).row % b.partitions) found.2

    from : ((e.ask.by.worker < b.workers) ⊎ (b.workers ≤ e.ask.by.worker)) → Among (own e.ask.by (steps_of (journal_of x shard))) e → shard ≡ (key_of e.ask.op).row % b.partitions
    from (inr le) h = absurd (subst (λ (es : List Entry). Among es e) (no_steps b x is (sent b x is) shard lt e.ask.by le) h)
    from (inl below) h =
        let steps : Among (at_shard shard (script_of e.ask.by (transcript_of x e.ask.by.worker))) e = subst (λ (es : List Entry). Among es e) (own_steps b x is (sent b x is) shard lt e.ask.by below) h in
        elim (script_cases e.ask.by (transcript_of x e.ask.by.worker)) [
          | inl none ↦ absurd (subst (λ (s : List Step). Among (at_shard shard s) e) none steps)
          | inr some ↦ of_script some.0 (all_among (AreSent b.partitions) (transcript_of x e.ask.by.worker) some.0 (sent b x is e.ask.by.worker below) some.1) (subst (λ (s : List Step). Among (at_shard shard s) e) some.3 steps)
        ]

pub steps_are_mine : (b : Beginning) (x : Execution) → IsExecution b x → StepsAreMine b x
steps_are_mine b x is shard lt e among =
    let k : RowKey = key_of e.ask.op in
    let here : Among (steps_of (journal_of x (k.row % b.partitions))) e = subst (λ (n : ℕ). Among (steps_of (journal_of x n)) e) (in_shard b x is shard lt e among) among in
    (marks_own (value_at b.opening) k (steps_of (journal_of x (k.row % b.partitions))) (orderly b x is k)).mine e (filter_among (λ d. is_key k (key_of d.ask.op)) (steps_of (journal_of x (k.row % b.partitions))) e here (key_itself k))
