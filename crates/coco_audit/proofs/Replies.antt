-- Replies that are those of their runs, and the first that isn't.
use Rattle.std.proofs.Common.{◌≡◌, ◌≢◌, ℕ, ◌+◌, ◌-◌, ◌≤◌, List, [], ◌∷◌, ◌++◌, drop, Some, sym, ap, subst, ◌∙◌}
use Rattle.std.specs.List.{slice_get}
use Rattle.coco_types.specs.declared.call.Done.{Done}
use Rattle.coco_types.specs.declared.call.Reply.{Reply}
use Rattle.coco_ast.specs.Keyed.{Rows}
use Rattle.coco_ast.specs.Meaning.{run}
use Rattle.coco_ast.specs.Tree.{Procedures}
use Rattle.coco_ast.specs.History.{RepliesAreRuns, rows_after}
use Rattle.coco_ast.proofs.GrowthLemmas.{rows_after-append}
use Rattle.coco_audit.specs.declared.verify.NotSerial.{NotSerial}
use Rattle.coco_audit.specs.Differing.{IsFirstUnlike}
use Rattle.coco_audit.proofs.Between.{between, between-start, between-more, between-whole, length-between}

module _ (ps : Procedures) (m : Rows) where
  pub rows_more : (ds : List Done) (d : Done) (k : Rows) → k ≡ rows_after ps m ds → rows_after ps m (ds ++ d ∷ []) ≡ (run ps d.call k).rows
  rows_more ds d k is = rows_after-append ps m ds (d ∷ []) ∙ ap (λ (n : Rows). (run ps d.call n).rows) (sym is)

  pub replies_more : (ds : List Done) (d : Done) (k : Rows) → k ≡ rows_after ps m ds → RepliesAreRuns ps m ds → d.reply ≡ (run ps d.call k).reply → RepliesAreRuns ps m (ds ++ d ∷ [])
  replies_more ds d k is all one = replies_behind m ds d all (one ∙ ap (λ (n : Rows). (run ps d.call n).reply) is)
    where
      replies_behind : (n : Rows) (es : List Done) (e : Done) → RepliesAreRuns ps n es → e.reply ≡ (run ps e.call (rows_after ps n es)).reply → RepliesAreRuns ps n (es ++ e ∷ [])
      replies_behind n [] e all one = (one, tt)
      replies_behind n (x ∷ es) e all one = (all.0, replies_behind (run ps x.call n).rows es e all.1 one)

  -- of the Dones from a place on, those up to another place ran as they were kept, and left these rows
  pub record RanTo (ds : List Done) (first place : ℕ) (rows : Rows) : Type 0 where
    pub left : rows ≡ rows_after ps m (between first place ds)
    pub runs : RepliesAreRuns ps m (between first place ds)

  pub ran_none : (ds : List Done) (first : ℕ) (rows : Rows) → rows ≡ m → RanTo ds first first rows
  ran_none ds first rows is = record {
    left = is ∙ ap (rows_after ps m) (sym (between-start ds first));
    runs = subst (RepliesAreRuns ps m) (sym (between-start ds first)) tt;
  }

  pub ran_one_more : (ds : List Done) (first place : ℕ) (d : Done) (old new : Rows) (computed : Reply) → first ≤ place → slice_get ds place ≡ Some d → RanTo ds first place old
      → computed ≡ (run ps d.call old).reply → new ≡ (run ps d.call old).rows → d.reply ≡ computed → RanTo ds first (place + 1) new
  ran_one_more ds first place d old new computed after at ran says left same =
      let more = between-more ds first place d after at in
      record {
        left = left ∙ sym (rows_more (between first place ds) d old ran.left) ∙ ap (rows_after ps m) (sym more);
        runs = subst (RepliesAreRuns ps m) (sym more) (replies_more (between first place ds) d old ran.left ran.runs (same ∙ says));
      }

  pub first_unlike : (ds : List Done) (first place : ℕ) (d : Done) (old : Rows) (found : NotSerial) → first ≤ place → slice_get ds place ≡ Some d → RanTo ds first place old
      → found.place ≡ place - first + 1 → found.id ≡ d.id → found.kept ≡ d.reply → found.computed ≡ (run ps d.call old).reply → found.kept ≢ found.computed
      → IsFirstUnlike ps m (drop first ds) found
  first_unlike ds first place d old found after at ran place_is id kept computed differ = record {
    before = between first place ds;
    done = d;
    behind = drop (place - first + 1) (drop first ds);
    whole = between-whole ds first place d after at;
    runs = ran.runs;
    place = place_is ∙ ap (λ n. n + 1) (sym (length-between ds first place d after at));
    id = id;
    kept = kept;
    computed = computed ∙ ap (λ (n : Rows). (run ps d.call n).reply) ran.left;
    differ = differ;
  }
