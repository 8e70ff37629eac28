use Rattle.std.proofs.Common.{◌≡◌, ◌∙◌, ◌+◌, ◌++◌, ◌∷◌, ℕ, List, [], sym, ap, subst, arith, take, slice_index_or, slice_set}
use Rattle.std.specs.Vec.{vec_len, vec_capacity}
use Rattle.std.proofs.lemmas.List.{append-nil, take_all}
use Rattle.coco_occ.specs.Interleaving.{IsInterleaving, MayPlay, moves_of}
use Rattle.coco_occ.specs.declared.outcome.Move.{Move}
use Rattle.coco_occ.proofs.Interleavings.{SoFar, no_turn, mover_may, moved, not_moved, so_far_more, stops_first, stops_later}
use Rattle.coco_occ.proofs.OneTurn.{on_err_any}
use Rattle.coco_occ.proofs.turns.run_steps.Goals as goal
use Rattle.coco_occ.proofs.turns.run_steps.Goals.{in-Some, in_default}

pub returns-in_err-moves-clause-err : goal.returns-in_err-moves-clause-err
returns-in_err-moves-clause-err c = on_err_any c.from_residual.result (stops_first c.args.order.now c.args.shards.now c.args.attempts.now)

pub loop-who-init : goal.loop-who-init
loop-who-init c = record {
  so_far = record { turns = []; moves_are = c.in_ok-moves.ensures.items; interleaving = no_turn c.args.shards.now c.args.attempts.now };
  few = omega (arith, c.in_ok-moves.ensures.len);
  room = c.in_ok-moves.ensures.exact;
}

pub take_turn-requires : goal.take_turn-requires
take_turn-requires c =
    subst (λ (n : ℕ). MayPlay c.args.procs.now n (slice_index_or c.loop-who.attempts (slice_index_or c.args.order.now c.loop-who.who-index 0) c.index-attempts-who.result)) (sym c.loop-who.auto.shards)
    (mover_may c.args.procs.now _ _ c.loop-who.moves.items c.args.shards.now c.loop-who.shards c.args.attempts.now c.loop-who.attempts _ c.index-attempts-who.result c.loop-who.invariant.so_far c.requires.attempts (c.requires.numbers c.loop-who.who-index 0 c.loop-who-test.true))

pub returns-in_err-made-clause-err : goal.returns-in_err-made-clause-err
returns-in_err-made-clause-err c =
    on_err_any c.from_residual-in_err-made.result
    (stops_later c.args.order.now c.loop-who.who-index c.loop-who.moves.items c.args.shards.now c.loop-who.shards c.take_turn.new.shards c.args.attempts.now c.loop-who.attempts c.index-attempts-who.result c.take_turn.new.attempt
    (c.requires.numbers c.loop-who.who-index 0 c.loop-who-test.true) c.loop-who.invariant.so_far c.in_err-made.ensures.err)

pub push_reserved-requires : goal.push_reserved-requires
push_reserved-requires c = omega arith

pub loop-who-preserved : goal.loop-who-preserved
loop-who-preserved c =
    let i = c.loop-who.who-index in
    let who = slice_index_or c.args.order.now i 0 in
    let below = c.requires.numbers i 0 c.loop-who-test.true in
    let o = c.in_ok-made.ensures.ok in
    let more : (items : List (ℕ × Move)) → items ≡ c.loop-who.moves.items ++ moves_of (record { who = who; act = o.0 } ∷ []) → SoFar (take (i + 1) c.args.order.now) items c.args.shards.now c.take_turn.new.shards c.args.attempts.now (slice_set c.loop-who.attempts who c.take_turn.new.attempt) =
    λ items is. so_far_more c.args.order.now i c.loop-who.moves.items items c.args.shards.now c.loop-who.shards c.take_turn.new.shards c.args.attempts.now c.loop-who.attempts c.index-attempts-who.result c.take_turn.new.attempt o.0 c.loop-who-test.true below c.loop-who.invariant.so_far o.2 is in
    elim c.match-branch-3.branch [
      | in-Some w ↦ record {
        so_far = more c.match-branch-3.moves.items (ap (λ v. v.items) w.moves-is ∙ w.push_reserved.ensures.items ∙ ap (λ (x : List (ℕ × Move)). c.loop-who.moves.items ++ x) (moved who o.0 w.in-Some.made (sym w.in-Some.is ∙ o.1)));
        few = (let e : vec_len c.match-branch-3.moves ≡ vec_len w.push_reserved.new.self = ap vec_len w.moves-is in omega (arith, w.push_reserved.ensures.len));
        room = ap vec_capacity w.moves-is ∙ w.push_reserved.ensures.capacity ∙ c.loop-who.invariant.room;
      }
      | in_default w ↦ record {
        so_far = more c.match-branch-3.moves.items (ap (λ v. v.items) w.moves-is ∙ sym (append-nil c.loop-who.moves.items) ∙ ap (λ (x : List (ℕ × Move)). c.loop-who.moves.items ++ x) (not_moved who o.0 (sym w.in_default.is ∙ o.1)));
        few = (let e : vec_len c.match-branch-3.moves ≡ vec_len c.loop-who.moves = ap vec_len w.moves-is in omega arith);
        room = ap vec_capacity w.moves-is ∙ c.loop-who.invariant.room;
      }
    ]

pub returns-clause-ok : goal.returns-clause-ok
returns-clause-ok c =
    let s = c.loop-who.invariant.so_far in
    (s.turns, s.moves_are, subst (λ (x : List ℕ). IsInterleaving x s.turns c.args.shards.now c.loop-who.shards c.args.attempts.now c.loop-who.attempts) (take_all c.loop-who.who-index c.args.order.now (omega (arith, c.loop-who-test.false))) s.interleaving)
