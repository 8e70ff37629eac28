-- What the tables on a node hold that were read from its file.
use Rattle.std.proofs.Common.{◌≡◌, ℕ, ◌<◌, ◌≤◌, Bool, false, cond, List, [], sym, ap, subst, ◌∙◌, arith}
use Rattle.std.proofs.lemmas.Bool.{eq-eqb}
use Rattle.coco_ast.specs.Keyed.{Rows}
use Rattle.coco_copy.specs.CopyState.{CopyState, begun}
use Rattle.coco_entry.specs.Rows.{IsPrepared, prepared_bytes}
use Rattle.coco_entry.specs.declared.layout.Layout.{Layout}
use Rattle.coco_entry.specs.declared.prepared.Prepared.{Prepared}
use Rattle.coco_host.specs.Files.{Files}
use Rattle.coco_load.specs.Reading.{HoldRead, maps_read}
use Rattle.coco_load.specs.RowMaps.{joined, map_with}
use Rattle.coco_load.specs.Tables.{HoldMap, IsCopyOf, IsShardOf, copy_at, shard_at}
use Rattle.coco_load.proofs.Following.{reading_begins}
use Rattle.coco_shard.specs.RowState.{ShardState}
use Rattle.coco_standing.specs.Places.{node_of}
use Rattle.coco_standing.specs.Standing.{NodeStands}
use Rattle.coco_store.specs.Contents.{Contents, HoldsNode, IsGoodStore, file_of, map_in, on}
use Rattle.coco_store.specs.Entries.{prepared_kind}
use Rattle.coco_store.specs.Rules.{base_of, commit_epochs}
use Rattle.coco_store.proofs.Logs.{one_entries}
use Rattle.coco_store.proofs.OneStore.{one_prepared}
use Rattle.coco_recover.specs.Lost.{AreKnown}
use Rattle.coco_recover.specs.Nodes.{Loads, with_entries}

-- a file has the entries of one node
pub one_node : (files : Files) (c : Contents) (n : ℕ) (entries : List Prepared) → IsGoodStore files c → n < c.setting.entry.layout.nodes → HoldsNode c.setting c.commits n entries (files (file_of c.setting n))
    → entries ≡ c.prepared n
one_node files c n entries good within held = one_entries prepared_kind prepared_bytes IsPrepared one_prepared entries (c.prepared n) (files (file_of c.setting n)) held.are (good.holds.nodes n within).are

-- of the node that was read these are the entries
read_there : (n : ℕ) (entries : List Prepared) (m : ℕ) → m ≡ n → with_entries n entries (λ _. []) m ≡ entries
read_there n entries m is = ap (λ (b : Bool). cond b entries []) (eq-eqb m n is)

loaded_copy : (m : Rows) (s : CopyState) → s ≡ begun 0 m → s ≡ begun s.epoch m
loaded_copy m s is = is ∙ ap (λ (e : ℕ). begun e m) (sym (ap (λ (t : CopyState). t.epoch) is))

module _ (files : Files) (c : Contents) (n : ℕ) (entries : List Prepared) (good : IsGoodStore files c) (within : n < c.setting.entry.layout.nodes)
    (file : HoldsNode c.setting c.commits n entries (files (file_of c.setting n))) where
  abbrev ring : Layout
  ring = c.setting.entry.layout

  abbrev first : Rows
  first = (base_of c.setting c.base).rows

  abbrev numbers : List ℕ
  numbers = commit_epochs c.commits

  -- a table on the node has its partition of the history's map
  table_read : (p j : ℕ) → p < ring.partitions → j ≤ ring.copies → node_of ring p j ≡ n → maps_read c.setting first numbers (with_entries n entries (λ _. [])) p j ≡ on c.setting p (map_in c)
  table_read p j below to here =
      ap (λ (es : List Prepared). maps_read c.setting first numbers (λ _. es) p j) (read_there n entries (node_of ring p j) here ∙ one_node files c n entries good within file)
      ∙ good.rows n p within below (j, to, sym here)

  pub node_read : (shards : List ShardState) (copies : List CopyState) → HoldRead c.setting first numbers (with_entries n entries (λ _. [])) shards copies → NodeStands ring (map_in c) n false shards copies
  node_read shards copies held = record {
    primaries = λ p below here. subst (λ (m : Rows). IsShardOf ring.partitions p m (shard_at shards p)) (table_read p 0 below (omega arith) here) (held.primaries p below);
    others = λ p j below some to here.
        loaded_copy (on c.setting p (map_in c)) (copy_at ring copies p j)
        (subst (λ (m : Rows). IsCopyOf ring.partitions p m (copy_at ring copies p j)) (table_read p j below to here) (held.others p j below some to)).holds;
  }

-- over tables that hold the rows of the base
pub node_stands : (files : Files) (c : Contents) (n : ℕ) (entries : List Prepared) (layout : Layout) (epochs : List ℕ) (held : List ShardState × List CopyState) (read : List ShardState × List CopyState) (rows : Rows)
    → IsGoodStore files c → n < c.setting.entry.layout.nodes → HoldsNode c.setting c.commits n entries (files (file_of c.setting n)) → c.setting.entry.layout ≡ layout → commit_epochs c.commits ≡ epochs
    → (base_of c.setting c.base).rows ≡ rows → HoldMap layout rows held.0 held.1 → Loads c.setting epochs n entries held.0 held.1 read.0 read.1 → NodeStands layout (map_in c) n false read.0 read.1
node_stands files c n entries layout epochs held read rows good within file same known base map loads =
    let s = c.setting in
    let begun : HoldRead s (base_of s c.base).rows epochs (λ _. []) held.0 held.1 =
    reading_begins s (base_of s c.base).rows epochs held.0 held.1 (subst (λ (l : Layout). HoldMap l (base_of s c.base).rows held.0 held.1) (sym same) (subst (λ (m : Rows). HoldMap layout m held.0 held.1) (sym base) map)) in
    subst (λ (l : Layout). NodeStands l (map_in c) n false read.0 read.1) same
    (node_read files c n entries good within file read.0 read.1
    (subst (λ (es : List ℕ). HoldRead s (base_of s c.base).rows es (with_entries n entries (λ _. [])) read.0 read.1) (sym known) (loads (base_of s c.base).rows (λ _. []) begun)))

-- the base's rows are those that are known
pub base_known : (c : Contents) (layout : Layout) (tree : _) (epochs : List ℕ) (lists : _) → AreKnown c layout tree epochs lists → (base_of c.setting c.base).rows ≡ map_with (joined lists)
base_known c layout tree epochs lists known = ap map_with known.base
