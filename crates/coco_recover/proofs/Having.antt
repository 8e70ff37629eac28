-- What is had of a store whose files were read.
use Rattle.std.proofs.Common.{◌≡◌, ℕ, zero, suc, ◌+◌, ◌%◌, ◌<◌, List, [], ◌∷◌, ◌++◌, length, map, get_or, Bool, Option, Global, refl, sym, ap, subst, ◌∙◌, arith}
use Rattle.std.specs.List.{flat_map, range_with_len}
use Rattle.std.specs.declared.vec.Vec.{Vec}
use Rattle.std.proofs.lemmas.List.Folds.{flat_map-map}
use Rattle.std.proofs.lemmas.Simd.{map-map}
use Rattle.coco_host.specs.Files.{Files}
use Rattle.coco_ast.specs.History.{History, floor, kept, with_keep}
use Rattle.coco_copy.specs.CopyState.{CopyState}
use Rattle.coco_entry.specs.declared.commit.Commit.{Commit}
use Rattle.coco_entry.specs.declared.layout.LayoutEntry.{LayoutEntry}
use Rattle.coco_entry.specs.declared.prepared.Prepared.{Prepared}
use Rattle.coco_load.specs.Epochs.{IsNextTo, epochs_in}
use Rattle.coco_load.specs.Reading.{maps_of}
use Rattle.coco_load.specs.Tables.{HoldMap, HoldMaps}
use Rattle.coco_load.proofs.Adding.{kept_are_the_history}
use Rattle.coco_load.proofs.Following.{all_is_read, tables_hold_the_map}
use Rattle.coco_load.proofs.TableLemmas.{same_maps}
use Rattle.coco_log.specs.LogState.{LogState}
use Rattle.coco_shard.specs.RowState.{ShardState}
use Rattle.coco_store.specs.Contents.{Contents, Holds, map_in, on, rows_of}
use Rattle.coco_store.specs.Laws.{AreSame}
use Rattle.coco_store.specs.Rules.{Setting, base_values, commit_epochs, prepared_epochs}
use Rattle.coco_store.proofs.OneStore.{one_store}
use Rattle.coco_recover.specs.History.{IsHistoryRead, kept_by}
use Rattle.coco_recover.specs.Layouts.{place_behind}
use Rattle.coco_recover.specs.Nodes.{entries_at, greatest_prepared, nodes_of}
use Rattle.coco_recover.specs.Opening.{Has, IsOpening, ShardsHold}
use Rattle.coco_recover.specs.Steps.{AreRead, HoldsLast}
use Rattle.coco_recover.specs.declared.history.StoreHistory.{StoreHistory}
use Rattle.coco_recover.specs.declared.nodes.Loaded.{Loaded}
use Rattle.coco_recover.specs.declared.opening.Opened.{Opened}
use Rattle.coco_recover.proofs.Held.{contents_of}
use Rattle.coco_recover.proofs.Shards.{shards_hold}

-- ---- the entries of nodes, one list for each

listed_from : {A : Type 0} (of : ℕ → A) (other : A) (from : ℕ) (xs : List A) → ((i : ℕ) → i < length xs → get_or xs i other ≡ of (from + i)) → xs ≡ map of (range_with_len from (length xs))
listed_from of other from [] are = refl
listed_from of other from (x ∷ xs) are =
    let first : x ≡ of from = are 0 (omega arith) ∙ ap of (omega arith) in
    let others : xs ≡ map of (range_with_len (from + 1) (length xs)) = listed_from of other (from + 1) xs (λ i less. are (suc i) (omega arith) ∙ ap of (omega arith)) in
    ap (λ (l : _). x ∷ l) others ∙ ap (λ (y : _). y ∷ map of (range_with_len (from + 1) (length xs))) first

module _ (nodes : List (List Prepared)) (count : ℕ) (long : length nodes ≡ count) where
  nodes_listed : nodes ≡ map (entries_at nodes) (range_with_len 0 count)
  nodes_listed = listed_from (entries_at nodes) [] 0 nodes (λ i less. ap (entries_at nodes) (omega arith)) ∙ ap (λ (n : ℕ). map (entries_at nodes) (range_with_len 0 n)) long

  epochs_listed : flat_map prepared_epochs nodes ≡ flat_map (λ n. prepared_epochs (entries_at nodes n)) (range_with_len 0 count)
  epochs_listed = ap (flat_map prepared_epochs) nodes_listed ∙ flat_map-map prepared_epochs (entries_at nodes) (range_with_len 0 count)

  pub greatest_listed : map greatest_prepared nodes ≡ map (λ n. greatest_prepared (entries_at nodes n)) (range_with_len 0 count)
  greatest_listed = ap (map greatest_prepared) nodes_listed ∙ map-map greatest_prepared (entries_at nodes) (range_with_len 0 count)

same_listed : {A : Type 0} (f g : ℕ → A) (from count : ℕ) → ((n : ℕ) → n < from + count → f n ≡ g n) → map f (range_with_len from count) ≡ map g (range_with_len from count)
same_listed f g from zero same = refl
same_listed f g from (suc count) same =
    ap (λ (l : _). f from ∷ l) (same_listed f g (from + 1) count (λ n less. same n (omega arith))) ∙ ap (λ (x : _). x ∷ map g (range_with_len (from + 1) count)) (same from (omega arith))

-- ---- two contents of the same files

module _ (c d : Contents) (same : AreSame c d) where
  abbrev nodes : List ℕ
  nodes = range_with_len 0 c.setting.entry.layout.nodes

  same_entries : map c.prepared nodes ≡ map d.prepared nodes
  same_entries = same_listed c.prepared d.prepared 0 c.setting.entry.layout.nodes (λ n less. same.prepared n (omega (arith, less)))

  same_epochs : epochs_in c ≡ epochs_in d
  same_epochs =
      let behind : flat_map (λ n. prepared_epochs (c.prepared n)) nodes ≡ flat_map (λ n. prepared_epochs (d.prepared n)) nodes =
      sym (flat_map-map prepared_epochs c.prepared nodes) ∙ ap (flat_map prepared_epochs) same_entries ∙ flat_map-map prepared_epochs d.prepared nodes in
      ap (λ (l : List ℕ). c.setting.entry.layout.base_epoch ∷ commit_epochs c.commits ++ l) behind
      ∙ ap (λ (commits : List Commit). c.setting.entry.layout.base_epoch ∷ commit_epochs commits ++ flat_map (λ n. prepared_epochs (d.prepared n)) nodes) same.commits
      ∙ ap (λ (s : Setting). s.entry.layout.base_epoch ∷ commit_epochs d.commits ++ flat_map (λ n. prepared_epochs (d.prepared n)) (range_with_len 0 s.entry.layout.nodes)) same.setting

  same_prepared : map (λ n. greatest_prepared (c.prepared n)) nodes ≡ map (λ n. greatest_prepared (d.prepared n)) (range_with_len 0 d.setting.entry.layout.nodes)
  same_prepared =
      sym (map-map greatest_prepared c.prepared nodes) ∙ ap (map greatest_prepared) same_entries ∙ map-map greatest_prepared d.prepared nodes
      ∙ ap (λ (s : Setting). map (λ n. greatest_prepared (d.prepared n)) (range_with_len 0 s.entry.layout.nodes)) same.setting

left_within : (x count least : ℕ) → least < count → x % count < count
left_within x count least some = omega arith

same_tables : (c d : Contents) (shards : List ShardState) (copies : List CopyState) → AreSame c d → HoldMaps c.setting.entry.layout (maps_of c) shards copies
    → HoldMaps d.setting.entry.layout (maps_of d) shards copies
same_tables c d shards copies same held =
    subst (λ (s : Setting). HoldMaps s.entry.layout (λ p j. rows_of d ((p + j) % s.entry.layout.nodes) p) shards copies) same.setting
    (same_maps c.setting.entry.layout (maps_of c) (λ p j. rows_of d ((p + j) % c.setting.entry.layout.nodes) p) shards copies
    (λ p j below to. same.rows ((p + j) % c.setting.entry.layout.nodes) p (left_within (p + j) c.setting.entry.layout.nodes c.setting.entry.layout.copies held.tables.ring.around)) held)

one_map_held : (c : Contents) (shards : List ShardState) (copies : List CopyState) → HoldMap c.setting.entry.layout (map_in c) shards copies → ShardsHold (map_in c) shards
one_map_held c shards copies held = shards_hold c.setting.entry.layout (λ p j. on c.setting p (map_in c)) shards copies held (map_in c) (λ p below. refl)

same_had : (keep : Option ℕ) (c d : Contents) (store : Opened) → AreSame c d → Has keep c store → Has keep d store
same_had keep c d store same has =
    let tables = same_tables c d store.shards.items store.copies.items same has.tables in
    record {
      layout = has.layout ∙ ap (λ (s : Setting). s.entry) same.setting;
      procs = has.procs ∙ ap (λ (s : Setting). s.tree) same.setting;
      dones = has.dones ∙ ap (λ (h : History). kept (with_keep keep h)) same.history;
      floor = has.floor ∙ ap (λ (h : History). floor (with_keep keep h)) same.history;
      prepared = has.prepared ∙ same_prepared c d same;
      tables = tables;
      map = λ rows. tables_hold_the_map d store.shards.items store.copies.items rows tables;
      primaries = λ rows. one_map_held d store.shards.items store.copies.items (tables_hold_the_map d store.shards.items store.copies.items rows tables);
      next = subst (λ (l : List ℕ). IsNextTo l store.next_epoch) (same_epochs c d same) has.next;
      epochs = has.epochs ∙ ap commit_epochs same.commits;
      base = has.base ∙ ap base_values same.base;
      place = has.place ∙ ap place_behind same.earlier;
    }

-- ---- what was read

abbrev pub opened_of : StoreHistory → Loaded → Vec LogState Global → Vec ℕ Global → Opened
opened_of h loaded nodes prepared = record {
  layout = h.last.entry.layout;
  procs = h.last.procs;
  kept = h.committed.kept;
  shards = loaded.tables.shards;
  copies = loaded.tables.copies;
  logs = record { root = h.root; chief = h.chief; nodes = nodes };
  next_epoch = loaded.next;
  epochs = h.committed.epochs;
  prepared = prepared;
  keep = h.last.entry.keep;
  base = h.rows;
  base_file = h.last.entry.base_file;
  layout_place = h.last.place;
}

module _ (h : StoreHistory) (loaded : Loaded) (nodes : Vec LogState Global) (prepared : Vec ℕ Global) (had : IsHistoryRead h) (read : AreRead h.last h.committed loaded nodes.items h.last.entry.layout.nodes)
    (greatest : prepared.items ≡ map greatest_prepared (nodes_of loaded)) where
  has_contents : (keep : Option ℕ) (earlier : List LayoutEntry) → h.committed.kept.keep ≡ keep → h.last.place ≡ place_behind earlier
      → Has keep (contents_of earlier h.last h.committed (nodes_of loaded)) (opened_of h loaded nodes prepared)
  has_contents keep earlier keeps place =
      let c = contents_of earlier h.last h.committed (nodes_of loaded) in
      let kept_ones = kept_are_the_history c h.committed.kept keep keeps had.committed.remembered.kept in
      let shards = loaded.tables.shards.items in
      let copies = loaded.tables.copies.items in
      let held = all_is_read c shards copies read.are.tables in
      let behind = h.last.entry.layout.base_epoch ∷ commit_epochs h.committed.commits.items in
      record {
        layout = refl;
        procs = refl;
        dones = kept_ones.0;
        floor = kept_ones.1;
        prepared = greatest ∙ greatest_listed (nodes_of loaded) h.last.entry.layout.nodes read.nodes;
        tables = held;
        map = λ have. tables_hold_the_map c shards copies have held;
        primaries = λ have. one_map_held c shards copies (tables_hold_the_map c shards copies have held);
        next = subst (λ (l : List ℕ). IsNextTo (behind ++ l) loaded.next) (epochs_listed (nodes_of loaded) h.last.entry.layout.nodes read.nodes) read.are.next;
        epochs = had.committed.remembered.epochs;
        base = had.values;
        place = place;
      }

  pub is_opening : (whole : Bool) (files : Files) → h.committed.kept.keep ≡ kept_by whole h.last.entry → (held : HoldsLast files h.last) → Holds files (contents_of held.earlier h.last h.committed (nodes_of loaded))
      → IsOpening (λ c. kept_by whole c.setting.entry) files (opened_of h loaded nodes prepared)
  is_opening whole files keeps held holds =
      let c = contents_of held.earlier h.last h.committed (nodes_of loaded) in
      let store = opened_of h loaded nodes prepared in
      let keep = kept_by whole h.last.entry in
      record {
        contents = c;
        holds = holds;
        has = λ d holds_d.
            let same = one_store files c d holds holds_d in
            subst (λ (s : Setting). Has (kept_by whole s.entry) d store) same.setting (same_had keep c d store same (has_contents keep held.earlier keeps held.place));
      }
