use Rattle.std.proofs.Common.{◌≡◌, List, [], ◌∷◌, ◌++◌, ◌∙◌, ap, refl}
use Rattle.std.specs.List.{flat_map}
use Rattle.std.proofs.lemmas.Result.{on_ok_weaker}
use Rattle.coco_types.specs.RowKey.{RowKey}
use Rattle.coco_types.specs.declared.value.Value.{Value}
use Rattle.coco_ast.specs.Keyed.{put_over}
use Rattle.coco_load.specs.Reading.{puts}
use Rattle.coco_load.specs.Tables.{HoldMap}
use Rattle.coco_load.proofs.Adding.{base_dones_follow}
use Rattle.coco_store.specs.Entries.{Dones}
use Rattle.coco_store.specs.Rules.{base_of, floor_in}
use Rattle.coco_recover.specs.Bases.{entries_of}
use Rattle.coco_recover.specs.Layouts.{setting_of}
use Rattle.coco_recover.specs.declared.base.BasePart.TheVariants as part
use Rattle.coco_recover.proofs.Basing.{dones_kept, head_floor, is_gathered, is_gathered_so, more_rows, rows_kept}
use Rattle.coco_recover.proofs.base.Gathered.gather.Goals as goal

pub keep_dones-requires : goal.keep_dones-requires
keep_dones-requires c =
    let s = setting_of c.args.last.now in
    let before = entries_of c.args.self.now.entries.items in
    let next = rw c.in-Dones.is at c.requires.next in
    (base_dones_follow s c.args.self.now.kept (floor_in before) before (Dones c.in-Dones.dones) c.requires.each next c.requires.gathered.replies).0

pub returns-in-Head-clause-gathered : goal.returns-in-Head-clause-gathered
returns-in-Head-clause-gathered c =
    let s = setting_of c.args.last.now in
    let old = c.args.self.now in
    let before = entries_of old.entries.items in
    let next = rw c.in-Head.is at c.requires.next in
    is_gathered_so s old _ c.args.part (cc (c.add.ensures, c.from_ref.ensures.value)) (rw c.in-Head.is refl) c.requires.gathered refl refl refl c.new.ensures.keep
    (rw c.in-Head.is (head_floor c.new.result s.entry.layout.base_epoch before c.in-Head.head next.order c.new.ensures.kept))

pub returns-in-Dones-clause-gathered : goal.returns-in-Dones-clause-gathered
returns-in-Dones-clause-gathered c =
    let s = setting_of c.args.last.now in
    let old = c.args.self.now in
    let before = entries_of old.entries.items in
    let dones = c.in-Dones.dones in
    let next = rw c.in-Dones.is at c.requires.next in
    let follows = base_dones_follow s old.kept (floor_in before) before (Dones dones) c.requires.each next c.requires.gathered.replies in
    on_ok_weaker c.keep_dones.result (λ kept.
    is_gathered_so s old _ c.args.part (cc (c.add.ensures, c.from_ref.ensures.value)) (rw c.in-Dones.is refl) c.requires.gathered refl refl refl
    (c.keep_dones.ensures.keep ∙ c.requires.gathered.its_keep)
    (rw c.in-Dones.is (dones_kept old.kept c.keep_dones.new.kept s.entry.layout.base_epoch before dones next.order kept follows.1 c.requires.gathered.replies))) c.keep_dones.ensures.kept

pub returns-in_ok-push-in-Rows-clause-gathered : goal.returns-in_ok-push-in-Rows-clause-gathered
returns-in_ok-push-in-Rows-clause-gathered c =
    let s = setting_of c.args.last.now in
    let old = c.args.self.now in
    let before = entries_of old.entries.items in
    let rows = c.in-Rows.rows in
    let is : c.args.part ≡ part.Rows rows = c.in-Rows.is in
    let next = rw is at c.requires.next in
    let packed = c.in_ok-packed-in-Rows.ensures in
    let maps : HoldMap s.entry.layout (put_over (base_of s before).rows (puts c.as_slice.result.now)) c.load_base.new.self.shards.items c.load_base.new.self.copies.items =
    c.in_ok-load_base-in-Rows.ensures.ok (base_of s before).rows c.requires.gathered.maps in
    is_gathered s old _ c.args.part (cc (c.add.ensures, c.from_ref.ensures.value)) c.requires.gathered.positive c.requires.gathered.its_keep
    (rw is (rows_kept old.kept s.entry.layout.base_epoch before rows next.order c.requires.gathered.replies))
    (rw is (rw (c.as_slice.ensures ∙ packed) at maps))
    (rw is (ap (flat_map (λ (xs : List (RowKey × Value)). xs)) (c.in_ok-push-in-Rows.ensures.items ∙ ap (λ (added : List (RowKey × Value)). old.rows.items ++ added ∷ []) packed) ∙ more_rows old.rows.items rows ∙ ap (λ (l : List (RowKey × Value)). l ++ rows) c.requires.gathered.values))
