use Rattle.std.proofs.Common.{◌≡◌, ℕ, ◌<◌, ◌≤◌, List, [], ◌∷◌, ◌++◌, length, None, refl, sym, ap, subst, ◌∙◌, arith, length-append}
use Rattle.coco_types.specs.RowKey.{RowKey}
use Rattle.coco_types.specs.declared.value.Value.{Value}
use Rattle.coco_bytes.specs.Lists.{FitInTurn}
use Rattle.coco_entry.specs.Bases.{BaseRowRises}
use Rattle.coco_entry.specs.declared.base.TheConstants.{MOST_ITEMS}
use Rattle.coco_log.proofs.Changing.{changes_none}
use Rattle.coco_store.specs.Entries.{Values}
use Rattle.coco_ckpt.specs.Writing.{HasPut}
use Rattle.coco_ckpt.proofs.Putting.{put_full, put_waits}
use Rattle.coco_ckpt.proofs.rows.put_row.Goals as goal

pub returns-in_err-push-clause-changes : goal.returns-in_err-push-clause-changes
returns-in_err-push-clause-changes g c = changes_none g.H.Host g.met.H.Host.only_now (c.args.draft.now.file ∷ []) c.args.host.now

pub returns-then-len-lt-MOST-clause-changes : goal.returns-then-len-lt-MOST-clause-changes
returns-then-len-lt-MOST-clause-changes g c = changes_none g.H.Host g.met.H.Host.only_now (c.args.draft.now.file ∷ []) c.args.host.now

pub returns-then-len-lt-MOST-clause-put : goal.returns-then-len-lt-MOST-clause-put
returns-then-len-lt-MOST-clause-put g c items rest bodies put =
    let batch = c.args.batch.now.items in
    let x = c.args.row in
    let is : c.push.new.self.items ≡ batch ++ x ∷ [] = c.in_ok-push.ensures.items in
    subst (λ (l : List (RowKey × Value)). HasPut Values items (l ++ rest) bodies c.args.draft.now (g.H.Host.reads c.args.host.now)) (sym is)
    (put_waits Values items bodies c.args.draft.now (g.H.Host.reads c.args.host.now) batch rest x put)

pub add_rows-requires-clause-count : goal.add_rows-requires-clause-count
add_rows-requires-clause-count g c =
    let batch = c.args.batch.now.items in
    let is : c.push.new.self.items ≡ batch ++ c.args.row ∷ [] = c.in_ok-push.ensures.items in
    let few = c.requires.few in
    let slice = c.as_slice.ensures.value in
    (omega (arith, ap length slice, ap length is, length-append batch (c.args.row ∷ [])), omega (arith, few, ap length slice, ap length is, length-append batch (c.args.row ∷ [])))

pub add_rows-requires-clause-rise : goal.add_rows-requires-clause-rise
add_rows-requires-clause-rise g c =
    let is : c.push.new.self.items ≡ c.args.batch.now.items ++ c.args.row ∷ [] = c.in_ok-push.ensures.items in
    subst (λ (l : List (RowKey × Value)). FitInTurn BaseRowRises None l) (sym (c.as_slice.ensures.value ∙ is)) c.requires.rise

pub returns-clause-put : goal.returns-clause-put
returns-clause-put g c items rest bodies put =
    let batch = c.args.batch.now.items in
    let x = c.args.row in
    let is : c.push.new.self.items ≡ batch ++ x ∷ [] = c.in_ok-push.ensures.items in
    let slice : c.as_slice.result.now ≡ batch ++ x ∷ [] = c.as_slice.ensures.value ∙ is in
    let reads = g.H.Host.reads in
    let few = c.requires.few in
    let much = c.if-len-lt-MOST.false in
    let long : length c.as_slice.result.now ≡ MOST_ITEMS = omega (arith, few, much, c.len.ensures, c.push.new.self.ok.0, ap length slice, ap length is, length-append batch (x ∷ [])) in
    let waits = put_waits Values items bodies c.args.draft.now (reads c.args.host.now) batch rest x put in
    let full = subst (λ (l : List (RowKey × Value)). HasPut Values items (l ++ rest) bodies c.args.draft.now (reads c.args.host.now)) (sym slice) waits in
    subst (λ (l : List (RowKey × Value)). HasPut Values items (l ++ rest) bodies c.add_rows.new.draft (reads c.add_rows.new.host)) (sym c.clear.ensures.items)
    (put_full Values items bodies c.args.draft.now c.add_rows.new.draft (reads c.args.host.now) (reads c.add_rows.new.host) c.as_slice.result.now rest long c.in_ok-add_rows.ensures.is c.in_ok-add_rows.ensures.drafts full)
