use Rattle.std.proofs.Common.{◌≡◌, ℕ, ◌<◌, List, [], ◌∷◌, ◌++◌, length, map, None, refl, sym, ap, subst, ◌∙◌, arith, rules}
use Rattle.std.specs.VecDeque.Iter.{deque_iter_rest}
use Rattle.coco_types.specs.declared.call.Done.{Done}
use Rattle.coco_append.proofs.GainLemmas.{on_ok}
use Rattle.coco_bytes.specs.Lists.{FitInTurn}
use Rattle.coco_entry.specs.Bases.{DoneRises}
use Rattle.coco_entry.specs.declared.base.TheConstants.{MOST_ITEMS}
use Rattle.coco_log.specs.Changes.{ChangesOnly}
use Rattle.coco_log.specs.Drafts.{Drafts}
use Rattle.coco_log.specs.Faults.{CountsFault}
use Rattle.coco_log.proofs.Changing.{changes_none, changes_then}
use Rattle.coco_store.specs.Entries.{Dones}
use Rattle.coco_ckpt.specs.Writing.{HasPut}
use Rattle.coco_ckpt.proofs.Putting.{dones_rise, no_items, put_last, put_none, put_waits}
use Rattle.coco_ckpt.proofs.dones.write_dones.Goals as goal

pub loop-done-init : goal.loop-done-init
loop-done-init g c =
    let R = g.H.Host.reads in
    let draft = c.args.draft.now in
    let host = c.args.host.now in
    let all : deque_iter_rest c.into_iter-done-iterator.result ≡ c.args.kept.now.dones = search rules in
    let none : c.new-batch.result.items ≡ [] = c.new-batch.ensures.items in
    record {
      few = subst (λ (l : List Done). length l < MOST_ITEMS) (sym none) (omega arith);
      file = refl;
      kind = refl;
      put = λ bodies drafts. subst (λ (l : List Done). HasPut Dones c.args.kept.now.dones (l ++ deque_iter_rest c.into_iter-done-iterator.result) bodies draft (R host)) (sym none)
          (subst (λ (l : List Done). HasPut Dones c.args.kept.now.dones l bodies draft (R host)) (sym all) (put_none Dones c.args.kept.now.dones bodies draft (R host) drafts));
      changes = changes_none g.H.Host g.met.H.Host.only_now (draft.file ∷ []) host;
      counts = refl;
    }

pub put_done-requires-clause-rise : goal.put_done-requires-clause-rise
put_done-requires-clause-rise g c =
    let R = g.H.Host.reads in
    let x = c.in-Some.done.now in
    let batch = c.loop-done.batch.items in
    let step : deque_iter_rest c.loop-done.done-iterator ≡ x ∷ deque_iter_rest c.next.new.self = c.in-Some.ensures.steps in
    let was = c.loop-done.invariant.put c.requires.drafts.0 c.requires.drafts.1 in
    let here = subst (λ (l : List Done). HasPut Dones c.args.kept.now.dones (batch ++ l) c.requires.drafts.0 c.loop-done.draft (R c.loop-done.host)) step was in
    dones_rise c.args.kept.now.dones (batch ++ x ∷ []) (deque_iter_rest c.next.new.self) c.requires.drafts.0 c.loop-done.draft (R c.loop-done.host) c.requires.rising (put_waits Dones c.args.kept.now.dones c.requires.drafts.0 c.loop-done.draft (R c.loop-done.host) batch (deque_iter_rest c.next.new.self) x here)

pub put_done-requires-clause-drafts : goal.put_done-requires-clause-drafts
put_done-requires-clause-drafts g c = let was = c.loop-done.invariant.put c.requires.drafts.0 c.requires.drafts.1 in (_, was.drafts)

pub loop-done-preserved : goal.loop-done-preserved
loop-done-preserved g c =
    let R = g.H.Host.reads in
    let first = c.args.host.now in
    let file = c.args.draft.now.file in
    let inv = c.loop-done.invariant in
    let put = c.in_ok-put_done.ensures in
    let x = c.in-Some.done.now in
    let batch = c.loop-done.batch.items in
    let step : deque_iter_rest c.loop-done.done-iterator ≡ x ∷ deque_iter_rest c.next.new.self = c.in-Some.ensures.steps in
    record {
      few = put.few;
      file = put.of.0 ∙ inv.file;
      kind = put.of.1 ∙ inv.kind;
      put = λ bodies drafts. put.put c.args.kept.now.dones (deque_iter_rest c.next.new.self) bodies
          (subst (λ (l : List Done). HasPut Dones c.args.kept.now.dones (batch ++ l) bodies c.loop-done.draft (R c.loop-done.host)) step (inv.put bodies drafts));
      changes = changes_then g.H.Host (file ∷ []) first c.loop-done.host c.put_done.new.host inv.changes
          (subst (λ (f : ℕ). ChangesOnly g.H.Host (f ∷ []) c.loop-done.host c.put_done.new.host) inv.file c.put_done.ensures.changes);
      counts = put.counts ∙ inv.counts;
    }

pub returns-in_err-put_done-clause-changes : goal.returns-in_err-put_done-clause-changes
returns-in_err-put_done-clause-changes g c =
    let inv = c.loop-done.invariant in
    changes_then g.H.Host (c.args.draft.now.file ∷ []) c.args.host.now c.loop-done.host c.put_done.new.host inv.changes
    (subst (λ (f : ℕ). ChangesOnly g.H.Host (f ∷ []) c.loop-done.host c.put_done.new.host) inv.file c.put_done.ensures.changes)

pub end_dones-requires-clause-few : goal.end_dones-requires-clause-few
end_dones-requires-clause-few g c = subst (λ (l : List Done). length l < MOST_ITEMS) (sym c.as_slice.ensures.value) c.loop-done.invariant.few

pub end_dones-requires-clause-rise : goal.end_dones-requires-clause-rise
end_dones-requires-clause-rise g c =
    let R = g.H.Host.reads in
    let batch = c.loop-done.batch.items in
    subst (λ (l : List Done). FitInTurn DoneRises None l) (sym c.as_slice.ensures.value)
    (dones_rise c.args.kept.now.dones batch (deque_iter_rest c.loop-done.done-iterator) c.requires.drafts.0 c.loop-done.draft (R c.loop-done.host) c.requires.rising (c.loop-done.invariant.put c.requires.drafts.0 c.requires.drafts.1))

pub end_dones-requires-clause-drafts : goal.end_dones-requires-clause-drafts
end_dones-requires-clause-drafts g c = let was = c.loop-done.invariant.put c.requires.drafts.0 c.requires.drafts.1 in (_, was.drafts)

pub returns-clause-dones : goal.returns-clause-dones
returns-clause-dones g c =
    let R = g.H.Host.reads in
    let none : deque_iter_rest c.loop-done.done-iterator ≡ [] = no_items (deque_iter_rest c.loop-done.done-iterator) c.in-None.ensures.steps.0 in
    on_ok c.end_dones.result _ _ (λ added bodies drafts.
    added c.args.kept.now.dones bodies (put_last Dones c.args.kept.now.dones bodies c.loop-done.draft (R c.loop-done.host) c.loop-done.batch.items (deque_iter_rest c.loop-done.done-iterator) c.as_slice.result.now none c.as_slice.ensures.value (c.loop-done.invariant.put bodies drafts)))
    c.end_dones.ensures.added

pub returns-clause-of : goal.returns-clause-of
returns-clause-of g c = on_ok c.end_dones.result _ _ (λ of. (of.0 ∙ c.loop-done.invariant.file, of.1 ∙ c.loop-done.invariant.kind)) c.end_dones.ensures.of

pub returns-clause-changes : goal.returns-clause-changes
returns-clause-changes g c =
    let inv = c.loop-done.invariant in
    changes_then g.H.Host (c.args.draft.now.file ∷ []) c.args.host.now c.loop-done.host c.end_dones.new.host inv.changes
    (subst (λ (f : ℕ). ChangesOnly g.H.Host (f ∷ []) c.loop-done.host c.end_dones.new.host) inv.file c.end_dones.ensures.changes)

pub returns-clause-counts : goal.returns-clause-counts
returns-clause-counts g c = subst (λ (n : ℕ). CountsFault c.end_dones.result n (g.H.Host.disk_faults c.end_dones.new.host)) c.loop-done.invariant.counts c.end_dones.ensures.counts
