-- The tables of a good store's last epoch, and of an earlier one, hold its history's map up to there.
use Rattle.std.proofs.Common.{◌≡◌, ℕ, ◌<◌, List, length, None, refl, sym, ap, ◌∙◌, subst}
use Rattle.std.specs.FinMap.{empty}
use Rattle.std.specs.List.{flat_map}
use Rattle.coco_types.specs.RowKey.{RowKey}
use Rattle.coco_types.specs.declared.value.Value.{Value}
use Rattle.coco_ast.specs.History.{History, map_of, rows_after, up_to}
use Rattle.coco_ast.specs.Keyed.{Rows, on_partition, put_over}
use Rattle.coco_entry.specs.declared.layout.Layout.{Layout}
use Rattle.coco_entry.specs.declared.layout.LayoutEntry.{LayoutEntry}
use Rattle.coco_host.specs.Files.{Files}
use Rattle.coco_load.specs.Reading.{puts}
use Rattle.coco_load.specs.Tables.{HoldMap}
use Rattle.coco_recover.specs.Opening.{Has}
use Rattle.coco_recover.specs.declared.opening.Opened.{Opened}
use Rattle.coco_store.specs.Contents.{Contents, IsGoodStore, history_of, map_in}
use Rattle.coco_query.specs.Frozen.{HoldsFrozen, table_at}
use Rattle.coco_query.specs.Replaying.{newest_at}
use Rattle.coco_query.specs.Tables.{between, last_in}
use Rattle.coco_query.specs.declared.frozen.Frozen.{Frozen}
use Rattle.coco_query.proofs.EpochLemmas.{map_is, ranges, whole}
use Rattle.coco_query.proofs.FrozenLemmas.{newest_hold}

module _ (files : Files) (c : Contents) (good : IsGoodStore files c) (store : Opened) (has : Has None c store) (epoch : ℕ) (tables : List Frozen) where
  pub newest_map : epoch ≡ last_in store → length tables ≡ store.layout.partitions → ((p : ℕ) → p < store.layout.partitions → table_at tables p ≡ newest_at store.layout store.shards.items store.copies.items p)
      → HoldsFrozen (map_of c.setting.tree (up_to epoch (history_of c))) tables
  newest_map last count each =
      let held : HoldMap store.layout (map_in c) store.shards.items store.copies.items =
      subst (λ (l : Layout). HoldMap l (map_in c) store.shards.items store.copies.items) (sym (ap (λ (e : LayoutEntry). e.layout) has.layout)) (has.map good.rows) in
      let same : up_to epoch (history_of c) ≡ history_of c = ap (λ (n : ℕ). up_to n (history_of c)) (last ∙ (ranges None c store has).1) ∙ whole (history_of c) good.ordered in
      subst (λ (h : History). HoldsFrozen (map_of c.setting.tree h) tables) (sym same)
      (newest_hold store.layout (λ p j. on_partition store.layout.partitions p (map_in c)) store.shards.items store.copies.items held tables count each (map_in c) (λ p j. refl))

  pub earlier_map : HoldsFrozen (rows_after store.procs (put_over empty (puts (flat_map (λ (list : List (RowKey × Value)). list) store.base.items))) (between store.layout.base_epoch epoch store.kept.dones)) tables
      → HoldsFrozen (map_of c.setting.tree (up_to epoch (history_of c))) tables
  earlier_map hold = subst (λ (m : Rows). HoldsFrozen m tables) (map_is files c good store has epoch _ refl) hold
