use Rattle.std.proofs.Common.{◌≡◌, ℕ, ◌<◌, List, [], ◌∷◌, ◌++◌, length, map, None, refl, sym, ap, subst, ◌∙◌, arith, rules}
use Rattle.std.specs.FinMap.{entries}
use Rattle.std.specs.List.Sorted.{IsStrictlySortedBy}
use Rattle.std.specs.Map.{keys_of}
use Rattle.coco_types.specs.RowKey.{RowKey, key_cmp}
use Rattle.coco_types.specs.declared.value.Value.{Value}
use Rattle.coco_load.specs.RowMaps.{lent_map}
use Rattle.coco_load.proofs.LentMaps.{lent_entries}
use Rattle.coco_append.proofs.GainLemmas.{on_ok}
use Rattle.coco_bytes.specs.Lists.{FitInTurn}
use Rattle.coco_entry.specs.Bases.{BaseRowRises}
use Rattle.coco_entry.specs.declared.base.TheConstants.{MOST_ITEMS}
use Rattle.coco_log.specs.Changes.{ChangesOnly}
use Rattle.coco_log.specs.Drafts.{Drafts}
use Rattle.coco_log.specs.Faults.{CountsFault}
use Rattle.coco_log.proofs.Changing.{changes_none, changes_then}
use Rattle.coco_store.specs.Entries.{Values}
use Rattle.coco_ckpt.specs.Writing.{HasPut}
use Rattle.coco_ckpt.proofs.Lent.{shown}
use Rattle.coco_ckpt.proofs.Putting.{rows_rise, no_items, put_last, put_none, put_waits}
use Rattle.coco_ckpt.proofs.rows.write_rows.Goals as goal

pub loop-key-init : goal.loop-key-init
loop-key-init g c =
    let R = g.H.Host.reads in
    let draft = c.args.draft.now in
    let host = c.args.host.now in
    let rising : IsStrictlySortedBy key_cmp (keys_of c.args.rows.now.entries) = search rules in
    let same : c.into_iter-key-iterator.result ≡ c.args.rows.now.entries = search rules in
    let all : map (λ e. (e.0, e.1.now)) c.into_iter-key-iterator.result ≡ entries (lent_map c.args.rows.now) = ap shown same ∙ lent_entries c.args.rows.now rising in
    let none : c.new-batch.result.items ≡ [] = c.new-batch.ensures.items in
    record {
      few = subst (λ (l : List (RowKey × Value)). length l < MOST_ITEMS) (sym none) (omega arith);
      file = refl;
      kind = refl;
      put = λ bodies drafts. subst (λ (l : List (RowKey × Value)). HasPut Values (entries (lent_map c.args.rows.now)) (l ++ map (λ e. (e.0, e.1.now)) c.into_iter-key-iterator.result) bodies draft (R host)) (sym none)
          (subst (λ (l : List (RowKey × Value)). HasPut Values (entries (lent_map c.args.rows.now)) l bodies draft (R host)) (sym all) (put_none Values (entries (lent_map c.args.rows.now)) bodies draft (R host) drafts));
      changes = changes_none g.H.Host g.met.H.Host.only_now (draft.file ∷ []) host;
      counts = refl;
    }

pub put_row-requires-clause-rise : goal.put_row-requires-clause-rise
put_row-requires-clause-rise g c =
    let R = g.H.Host.reads in
    let x : RowKey × Value = (c.in-Some.key.now, c.in-Some.value.now.now) in
    let batch = c.loop-key.batch.items in
    let step : map (λ e. (e.0, e.1.now)) c.loop-key.key-iterator ≡ x ∷ map (λ e. (e.0, e.1.now)) c.next.new.self = ap shown c.in-Some.ensures.steps in
    let was = c.loop-key.invariant.put c.requires.drafts.0 c.requires.drafts.1 in
    let here = subst (λ (l : List (RowKey × Value)). HasPut Values (entries (lent_map c.args.rows.now)) (batch ++ l) c.requires.drafts.0 c.loop-key.draft (R c.loop-key.host)) step was in
    rows_rise (lent_map c.args.rows.now) (batch ++ x ∷ []) (map (λ e. (e.0, e.1.now)) c.next.new.self) c.requires.drafts.0 c.loop-key.draft (R c.loop-key.host) (put_waits Values (entries (lent_map c.args.rows.now)) c.requires.drafts.0 c.loop-key.draft (R c.loop-key.host) batch (map (λ e. (e.0, e.1.now)) c.next.new.self) x here)

pub put_row-requires-clause-drafts : goal.put_row-requires-clause-drafts
put_row-requires-clause-drafts g c = let was = c.loop-key.invariant.put c.requires.drafts.0 c.requires.drafts.1 in (_, was.drafts)

pub loop-key-preserved : goal.loop-key-preserved
loop-key-preserved g c =
    let R = g.H.Host.reads in
    let first = c.args.host.now in
    let file = c.args.draft.now.file in
    let inv = c.loop-key.invariant in
    let put = c.in_ok-put_row.ensures in
    let x : RowKey × Value = (c.in-Some.key.now, c.in-Some.value.now.now) in
    let batch = c.loop-key.batch.items in
    let step : map (λ e. (e.0, e.1.now)) c.loop-key.key-iterator ≡ x ∷ map (λ e. (e.0, e.1.now)) c.next.new.self = ap shown c.in-Some.ensures.steps in
    record {
      few = put.few;
      file = put.of.0 ∙ inv.file;
      kind = put.of.1 ∙ inv.kind;
      put = λ bodies drafts. put.put (entries (lent_map c.args.rows.now)) (map (λ e. (e.0, e.1.now)) c.next.new.self) bodies
          (subst (λ (l : List (RowKey × Value)). HasPut Values (entries (lent_map c.args.rows.now)) (batch ++ l) bodies c.loop-key.draft (R c.loop-key.host)) step (inv.put bodies drafts));
      changes = changes_then g.H.Host (file ∷ []) first c.loop-key.host c.put_row.new.host inv.changes
          (subst (λ (f : ℕ). ChangesOnly g.H.Host (f ∷ []) c.loop-key.host c.put_row.new.host) inv.file c.put_row.ensures.changes);
      counts = put.counts ∙ inv.counts;
    }

pub returns-in_err-put_row-clause-changes : goal.returns-in_err-put_row-clause-changes
returns-in_err-put_row-clause-changes g c =
    let inv = c.loop-key.invariant in
    changes_then g.H.Host (c.args.draft.now.file ∷ []) c.args.host.now c.loop-key.host c.put_row.new.host inv.changes
    (subst (λ (f : ℕ). ChangesOnly g.H.Host (f ∷ []) c.loop-key.host c.put_row.new.host) inv.file c.put_row.ensures.changes)

pub end_rows-requires-clause-few : goal.end_rows-requires-clause-few
end_rows-requires-clause-few g c = subst (λ (l : List (RowKey × Value)). length l < MOST_ITEMS) (sym c.as_slice.ensures.value) c.loop-key.invariant.few

pub end_rows-requires-clause-rise : goal.end_rows-requires-clause-rise
end_rows-requires-clause-rise g c =
    let R = g.H.Host.reads in
    let batch = c.loop-key.batch.items in
    subst (λ (l : List (RowKey × Value)). FitInTurn BaseRowRises None l) (sym c.as_slice.ensures.value)
    (rows_rise (lent_map c.args.rows.now) batch (map (λ e. (e.0, e.1.now)) c.loop-key.key-iterator) c.requires.drafts.0 c.loop-key.draft (R c.loop-key.host) (c.loop-key.invariant.put c.requires.drafts.0 c.requires.drafts.1))

pub end_rows-requires-clause-drafts : goal.end_rows-requires-clause-drafts
end_rows-requires-clause-drafts g c = let was = c.loop-key.invariant.put c.requires.drafts.0 c.requires.drafts.1 in (_, was.drafts)

pub returns-clause-rows : goal.returns-clause-rows
returns-clause-rows g c =
    let R = g.H.Host.reads in
    let none : map (λ e. (e.0, e.1.now)) c.loop-key.key-iterator ≡ [] = ap (map (λ e. (e.0, e.1.now))) c.in-None.ensures.steps.0 in
    on_ok c.end_rows.result _ _ (λ added bodies drafts.
    added (entries (lent_map c.args.rows.now)) bodies (put_last Values (entries (lent_map c.args.rows.now)) bodies c.loop-key.draft (R c.loop-key.host) c.loop-key.batch.items (map (λ e. (e.0, e.1.now)) c.loop-key.key-iterator) c.as_slice.result.now none c.as_slice.ensures.value (c.loop-key.invariant.put bodies drafts)))
    c.end_rows.ensures.added

pub returns-clause-of : goal.returns-clause-of
returns-clause-of g c = on_ok c.end_rows.result _ _ (λ of. (of.0 ∙ c.loop-key.invariant.file, of.1 ∙ c.loop-key.invariant.kind)) c.end_rows.ensures.of

pub returns-clause-changes : goal.returns-clause-changes
returns-clause-changes g c =
    let inv = c.loop-key.invariant in
    changes_then g.H.Host (c.args.draft.now.file ∷ []) c.args.host.now c.loop-key.host c.end_rows.new.host inv.changes
    (subst (λ (f : ℕ). ChangesOnly g.H.Host (f ∷ []) c.loop-key.host c.end_rows.new.host) inv.file c.end_rows.ensures.changes)

pub returns-clause-counts : goal.returns-clause-counts
returns-clause-counts g c = subst (λ (n : ℕ). CountsFault c.end_rows.result n (g.H.Host.disk_faults c.end_rows.new.host)) c.loop-key.invariant.counts c.end_rows.ensures.counts
