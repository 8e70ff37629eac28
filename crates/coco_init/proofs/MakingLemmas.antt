-- A making of a store, behind what was only read before it.
use Rattle.std.proofs.Common.{◌≡◌, ◌⊎◌, ℕ, List, [], inl, inr, ⊎_elim, Option, Some, Result, Ok, Err, sym, subst, ◌∙◌, is_err, false, true≢false}
use Rattle.std.specs.Prelude.{IfSome, OnOk}
use Rattle.coco_host.specs.Files.{Files, IsDurable}
use Rattle.coco_host.specs.Moments.{Observation}
use Rattle.coco_host.specs.declared.host.Host.{Ghosts as HostGhosts}
use Rattle.coco_ast.specs.Tree.{Procedures}
use Rattle.coco_entry.specs.Layouts.{named_by}
use Rattle.coco_entry.specs.declared.layout.Layout.{Layout}
use Rattle.coco_lines.specs.Reads.{IsSpent, SourceMoment}
use Rattle.coco_log.proofs.OnlyRead.{read_then}
use Rattle.coco_store.specs.Texts.{IsAcceptedText}
use Rattle.coco_append.specs.Gaining.{RestsOn}
use Rattle.coco_log.specs.Changes.{ChangesOnly}
use Rattle.coco_make.specs.Making.{LeavesEmpty, LeavesOnlyLogs, ShowsNewOnly}
use Rattle.coco_make.specs.NewStore.{new_contents}
use Rattle.coco_ending.specs.declared.ending.Ending.{Ending}
use Rattle.coco_ending.specs.declared.ending.Ending.TheVariants as ending
use Rattle.coco_init.specs.Initiating.{Initiates, IsMade, Makes, MakesStore, MayMake, OnlyReads}

pub not_err : {T E : Type 0} (result : Result T E) (P : Type 0) → is_err result ≡ false → OnOk result P → P
not_err (Ok x) P ok h = h
not_err (Err e) P ok h = absurd (true≢false ok)

module _ {H : Type 0} (frame : HostGhosts H) where
  -- behind a sync of file 0 that has no byte a crash leaves none there
  pub left_empty : (old mid : H) → OnlyReads frame old mid → IfSome (frame.reads old) (λ files. files 0 ≡ []) → IsDurable 0 (frame.reads old) (frame.may_leave mid)
      → (files : Files) → frame.reads mid ≡ Some files → LeavesEmpty 0 (frame.may_leave mid)
  left_empty old mid read none durable files told image left =
      let was = sym read.same ∙ told in
      durable files was image left ∙ subst (λ (o : Option Files). IfSome o (λ fs. fs 0 ≡ [])) was none

  -- what a making of the store promises, behind reads
  pub made_shows : (layout made : Layout) → made ≡ layout → (tree : Procedures) (old mid new : H) → OnlyReads frame old mid
      → ((files : Files) → frame.reads mid ≡ Some files → LeavesEmpty 0 (frame.may_leave mid)) → IsAcceptedText layout.text tree
      → ((files : Files) (t : Procedures) → frame.reads mid ≡ Some files → LeavesEmpty 0 (frame.may_leave mid) → IsAcceptedText made.text t
      → ShowsNewOnly frame made t mid new)
      → ChangesOnly frame (named_by made) mid new → Makes frame layout tree old new
  made_shows layout made same tree old mid new read empty accepted moments changes =
      let text = subst (λ (l : Layout). IsAcceptedText l.text tree) (sym same) accepted in
      subst (λ (l : Layout). Makes frame l tree old new) same (record {
        mid = mid;
        read = read;
        empty = empty;
        changes = changes;
        shows = λ files told. moments files tree told (empty files told) text;
      })

  pub made_store : (layout made : Layout) → made ≡ layout → (tree : Procedures) (old mid new : H) → OnlyReads frame old mid → IsAcceptedText layout.text tree
      → ((files : Files) (t : Procedures) → frame.reads mid ≡ Some files → IsAcceptedText made.text t → RestsOn (new_contents made t) (frame.reads new) (frame.may_leave new))
      → LeavesOnlyLogs made (frame.reads mid) (frame.reads new) → IsMade layout tree (frame.reads old) (frame.reads new) (frame.may_leave new)
  made_store layout made same tree old mid new read accepted store bytes =
      let text = subst (λ (l : Layout). IsAcceptedText l.text tree) (sym same) accepted in
      subst (λ (l : Layout). IsMade l tree (frame.reads old) (frame.reads new) (frame.may_leave new)) same (record {
        store = λ files told. store files tree (read.same ∙ told) text;
        bytes = λ before after was. bytes before after (read.same ∙ was);
      })

  -- the same behind more reads
  makes_behind : (only_now : (host : H) (seen : Observation) → frame.observed host (frame.moment host) seen → frame.may_leave host seen.image × (frame.said host ≡ Some seen.said))
      → (layout : Layout) (tree : Procedures) (first old new : H) → OnlyReads frame first old → Makes frame layout tree old new
      → Makes frame layout tree first new
  makes_behind only_now layout tree first old new read makes = record {
    mid = makes.mid;
    read = read_then frame only_now first old makes.mid read makes.read;
    empty = makes.empty;
    changes = makes.changes;
    shows = makes.shows;
  }

  made_behind : (layout : Layout) (tree : Procedures) (first old new : H) → OnlyReads frame first old → IsMade layout tree (frame.reads old) (frame.reads new) (frame.may_leave new)
      → IsMade layout tree (frame.reads first) (frame.reads new) (frame.may_leave new)
  made_behind layout tree first old new read made = record {
    store = λ files told. made.store files (read.same ∙ told);
    bytes = λ before after was. made.bytes before after (read.same ∙ was);
  }

  module _ (only_now : (host : H) (seen : Observation) → frame.observed host (frame.moment host) seen → frame.may_leave host seen.image × (frame.said host ≡ Some seen.said)) where
    may_make : (layout : Layout) (text : List ℕ) (tree : Procedures) (first old new : H) → IsAcceptedText text tree → OnlyReads frame first old
        → OnlyReads frame old new ⊎ Makes frame layout tree old new → MayMake frame layout text first new
    may_make layout text tree first old new accepted read either = ⊎_elim
        (λ only. inl (read_then frame only_now first old new read only))
        (λ makes. inr (tree, accepted, makes_behind only_now layout tree first old new read makes)) either

    -- with the whole text read and accepted, the making of the store is that of the call
    pub initiates : (result : Result (Unit {0}) Ending) (layout : Layout) (text : List ℕ) (after : SourceMoment) (tree : Procedures) (first old new : H) → IsSpent after → IsAcceptedText text tree
        → OnlyReads frame first old → MakesStore frame result layout tree old new
        → Initiates frame result layout text after first new
    initiates (Ok u) layout text after tree first old new spent accepted read does =
        (spent, (tree, accepted, makes_behind only_now layout tree first old new read does.0, made_behind layout tree first old new read does.1))
    initiates (Err ending.DiskFault) layout text after tree first old new spent accepted read does = may_make layout text tree first old new accepted read does
    initiates (Err ending.NoMemory) layout text after tree first old new spent accepted read does = may_make layout text tree first old new accepted read does
    initiates (Err ending.Finished) layout text after tree first old new spent accepted read does = absurd does
    initiates (Err ending.BadCommandLine) layout text after tree first old new spent accepted read does = absurd does
    initiates (Err ending.ReadFault) layout text after tree first old new spent accepted read does = absurd does
    initiates (Err ending.SayFault) layout text after tree first old new spent accepted read does = absurd does
    initiates (Err ending.Unreachable) layout text after tree first old new spent accepted read does = absurd does
    initiates (Err (ending.NotAStore file at)) layout text after tree first old new spent accepted read does = absurd does
    initiates (Err ending.EpochsUsedUp) layout text after tree first old new spent accepted read does = absurd does
    initiates (Err (ending.Refused e)) layout text after tree first old new spent accepted read does = absurd does
    initiates (Err (ending.AlreadyThere bytes)) layout text after tree first old new spent accepted read does = absurd does
    initiates (Err (ending.NotSerial place)) layout text after tree first old new spent accepted read does = absurd does
    initiates (Err (ending.NoHolder partition)) layout text after tree first old new spent accepted read does = absurd does
    initiates (Err (ending.NoNode node nodes)) layout text after tree first old new spent accepted read does = absurd does
    initiates (Err (ending.NotWithin epoch least greatest)) layout text after tree first old new spent accepted read does = absurd does
