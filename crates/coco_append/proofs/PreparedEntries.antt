-- The last writes of an epoch that was run on a store's map keep the rules of a prepared entry, and leave the map of the Dones.
use Rattle.std.proofs.Common.{◌≡◌, ℕ, zero, suc, ◌<◌, ◌≤◌, ◌%◌, Bool, true, false, cond, if◌then◌else◌, nat_eq, List, [], ◌∷◌, ◌++◌, length, map, filter, Option, None, Some, refl, sym, ap, ◌∙◌, subst, arith}
use Rattle.std.specs.List.{AllByRecursion}
use Rattle.std.specs.Option.{option_map, option_or}
use Rattle.std.proofs.lemmas.Bool.{eqb-true}
use Rattle.coco_types.specs.RowKey.{RowKey, partition_of}
use Rattle.coco_types.specs.declared.call.Done.{Done}
use Rattle.coco_types.specs.declared.call.Piece.{Piece}
use Rattle.coco_types.specs.declared.call.Request.{Request}
use Rattle.coco_types.specs.declared.call.Write.{Write}
use Rattle.coco_types.proofs.Keys.{is_key, key_itself, one_key}
use Rattle.coco_types.proofs.KeyMaps.{same_keyed}
use Rattle.coco_ast.specs.History.{History, followed_by, map_of}
use Rattle.coco_ast.specs.Keyed.{Rows, on_partition, put_over, value_at, write_at}
use Rattle.coco_ast.specs.Meaning.{Datum, run}
use Rattle.coco_ast.specs.Tree.{Procedures}
use Rattle.coco_ast.proofs.GrowthLemmas.{rows_behind}
use Rattle.coco_ast.proofs.KeyedLemmas.{value_on_partition}
use Rattle.coco_ast.proofs.Lists.{all_append, all_from_map}
use Rattle.coco_ast.proofs.Writing.{value_written}
use Rattle.coco_entry.specs.declared.commit.Commit.{Commit}
use Rattle.coco_entry.specs.declared.prepared.Row.{Row}
use Rattle.coco_host.specs.Files.{Files}
use Rattle.coco_store.specs.Contents.{Contents, IsGoodStore, epoch_of, history_of, map_in, on, writes_on as entry_writes}
use Rattle.coco_store.specs.Entries.{BaseEntry}
use Rattle.coco_store.specs.Placement.{IsHeldBy}
use Rattle.coco_store.specs.Rules.{IsNodeRow, Setting, base_of}
use Rattle.coco_store.specs.Texts.{IsAcceptedText}
use Rattle.coco_append.specs.EpochEntries.{HasRunReady, HeldBy, MayPrepareRun, MayRun, pieces_in}
use Rattle.coco_append.specs.LastWrites.{AreLastWrites, LeaveTheMap, Stamp, held_pieces, holds, last_stamp, last_value, row_stamp, writes_of}
use Rattle.coco_tail.specs.Pieces.{pieces_of, place_of}
use Rattle.coco_pieces.specs.Pieces.{piece_of, pieces_from, request_pieces, writes_on}
use Rattle.coco_append.proofs.DeclaredTables.{run_stays_in_tables}

-- ---- whose last write there is

-- what holds of each write's key holds of one that is written
value_from : (P : RowKey → Type 0) (k : RowKey) (ws : List Write) (v : Datum) → AllByRecursion (λ (w : Write). P w.key) ws → last_value k ws ≡ Some v → P k
value_from P k [] v all is = cc
value_from P k (w ∷ ws) v all is = elim (last_value k ws) as (λ o. last_value k ws ≡ o → option_or o (if is_key k w.key then Some w.value else None) ≡ Some v → P k) [
  | Some x ↦ λ e _. value_from P k ws x all.1 e
  | None ↦ λ _ e. here e
] refl is
  where
    here : (if is_key k w.key then Some w.value else None) ≡ Some v → P k
    here e = elim (is_key k w.key) as (λ b. is_key k w.key ≡ b → (if b then Some w.value else None) ≡ Some v → P k) [
      | true ↦ λ t _. subst P (sym (one_key k w.key t)) all.0
      | false ↦ λ _ f. cc
    ] refl e

stamped_some : (time : ℕ) (o : Option Datum) (st : Stamp) → option_map (λ (v : Datum). (time, v)) o ≡ Some st → (v : Datum) × (o ≡ Some v)
stamped_some time None st is = cc
stamped_some time (Some v) st is = (v, refl)

-- a key with a last write in pieces that are held is written in one of these
stamp_from : (Q : RowKey → ℕ → Type 0) (held : List Bool) (k : RowKey) (ps : List Piece) (st : Stamp) → AllByRecursion (λ (p : Piece). AllByRecursion (λ (w : Write). Q w.key p.partition) p.writes) ps
    → last_stamp k (held_pieces held ps) ≡ Some st → (q : ℕ) × (holds held q ≡ true) × Q k q
stamp_from Q held k [] st all is = cc
stamp_from Q held k (p ∷ ps) st all is = elim (holds held p.partition) as (λ b. holds held p.partition ≡ b → last_stamp k (cond b (p ∷ held_pieces held ps) (held_pieces held ps)) ≡ Some st → (q : ℕ) × (holds held q ≡ true) × Q k q) [
  | true ↦ λ h e. either h (λ x f. stamp_from Q held k ps x all.1 f) e
  | false ↦ λ _ e. stamp_from Q held k ps st all.1 e
] refl is
  where
    here : holds held p.partition ≡ true → option_map (λ (v : Datum). (p.time, v)) (last_value k p.writes) ≡ Some st → (q : ℕ) × (holds held q ≡ true) × Q k q
    here h e = (let wrote = stamped_some p.time (last_value k p.writes) st e in (p.partition, h, value_from (λ j. Q j p.partition) k p.writes wrote.0 all.0 wrote.1))

    either : holds held p.partition ≡ true → ((x : Stamp) → last_stamp k (held_pieces held ps) ≡ Some x → (q : ℕ) × (holds held q ≡ true) × Q k q) → option_or (last_stamp k (held_pieces held ps)) (option_map (λ (v : Datum). (p.time, v)) (last_value k p.writes)) ≡ Some st → (q : ℕ) × (holds held q ≡ true) × Q k q
    either h rest e = elim (last_stamp k (held_pieces held ps)) as (λ o. last_stamp k (held_pieces held ps) ≡ o → option_or o (option_map (λ (v : Datum). (p.time, v)) (last_value k p.writes)) ≡ Some st → (q : ℕ) × (holds held q ≡ true) × Q k q) [
      | Some x ↦ λ f _. rest x f
      | None ↦ λ _ f. here h f
    ] refl e

-- ---- the writes of pieces

module _ (count : ℕ) (R : RowKey → Type 0) where
  abbrev InPlace : RowKey → ℕ → Type 0
  InPlace k p = (k.row % count ≡ p) × R k

  abbrev ArePlaced : List Piece → Type 0
  ArePlaced = AllByRecursion (λ (p : Piece). AllByRecursion (λ (w : Write). InPlace w.key p.partition) p.writes)

  on_part : (p : ℕ) (ws : List Write) → AllByRecursion (λ (w : Write). R w.key) ws → AllByRecursion (λ (w : Write). InPlace w.key p) (writes_on count p ws)
  on_part p [] all = tt
  on_part p (w ∷ ws) all = elim (nat_eq (w.key.row % count) p) as (λ b. nat_eq (w.key.row % count) p ≡ b → AllByRecursion (λ (x : Write). InPlace x.key p) (cond b (w ∷ writes_on count p ws) (writes_on count p ws))) [
    | true ↦ λ t. ((eqb-true (w.key.row % count) p t, all.0), on_part p ws all.1)
    | false ↦ λ _. on_part p ws all.1
  ] refl

  one_placed : (place time p : ℕ) (ws : List Write) → AllByRecursion (λ (w : Write). InPlace w.key p) ws → ArePlaced (piece_of place time p ws)
  one_placed place time p [] all = tt
  one_placed place time p (w ∷ ws) all = (all, tt)

  from_placed : (place time : ℕ) (ws : List Write) (p n : ℕ) → AllByRecursion (λ (w : Write). R w.key) ws → ArePlaced (pieces_from count place time ws p n)
  from_placed place time ws p zero all = tt
  from_placed place time ws p (suc n) all =
      all_append _ (piece_of place time p (writes_on count p ws)) (pieces_from count place time ws (suc p) n) (one_placed place time p (writes_on count p ws) (on_part p ws all))
      (from_placed place time ws (suc p) n all)

  all_placed : (ps : Procedures) (requests : List Request) → ((d : Done) (m : Rows) → AllByRecursion (λ (w : Write). R w.key) (run ps d.call m).writes)
      → (m : Rows) (ds : List Done) → ArePlaced (pieces_of ps count requests m ds)
  all_placed ps requests wrote m [] = tt
  all_placed ps requests wrote m (d ∷ ds) =
      all_append _ (request_pieces count (place_of requests d.id) d.time (run ps d.call m).writes) (pieces_of ps count requests (run ps d.call m).rows ds)
      (from_placed (place_of requests d.id) d.time (run ps d.call m).writes 0 count (wrote d m)) (all_placed ps requests wrote (run ps d.call m).rows ds)

-- ---- rows

all_by : {A : Type 0} (P : A → Type 0) (xs : List A) → ((ahead : List A) (x : A) (behind : List A) → xs ≡ ahead ++ x ∷ behind → P x) → AllByRecursion P xs
all_by P [] each = tt
all_by P (x ∷ xs) each = (each [] x xs refl, all_by P xs (λ ahead y behind is. each (x ∷ ahead) y behind (ap (λ l. x ∷ l) is)))

there_too : (o p : Option Stamp) (st : Stamp) → o ≡ Some st → option_or o p ≡ Some st
there_too o p st is = ap (λ q. option_or q p) is

row_there : (ahead : List Row) (r : Row) (behind : List Row) → (st : Stamp) × (row_stamp r.key (ahead ++ r ∷ behind) ≡ Some st)
row_there [] r behind = elim (row_stamp r.key behind) as (λ o. (st : Stamp) × (option_or o (if is_key r.key r.key then Some (r.time, r.value) else None) ≡ Some st)) [
  | Some x ↦ (x, refl)
  | None ↦ ((r.time, r.value), ap (λ b. if b then Some (r.time, r.value) else None) (key_itself r.key))
]
row_there (x ∷ ahead) r behind =
    let rest = row_there ahead r behind in
    (rest.0, there_too (row_stamp r.key (ahead ++ r ∷ behind)) (if is_key r.key x.key then Some (x.time, x.value) else None) rest.0 rest.1)

-- ---- one partition

module _ (count p : ℕ) where
  -- a write of the partition stays a write of its part
  write_here : (m : Rows) (w : Write) → nat_eq (w.key.row % count) p ≡ true → write_at (on_partition count p m) w.key w.value ≡ on_partition count p (write_at m w.key w.value)
  write_here m w is = same_keyed _ _ (λ k.
      value_written (on_partition count p m) w.key w.value k ∙ ap (cond (is_key k w.key) w.value) (value_on_partition count p m k)
      ∙ elim (is_key k w.key) as (λ b. is_key k w.key ≡ b → cond b w.value (cond (nat_eq (k.row % count) p) (value_at m k) None) ≡ cond (nat_eq (k.row % count) p) (cond b w.value (value_at m k)) None) [
        | true ↦ λ t. sym (ap (λ c. cond c w.value None) (ap (λ (j : RowKey). nat_eq (j.row % count) p) (one_key k w.key t) ∙ is))
        | false ↦ λ _. refl
      ] refl
      ∙ sym (value_on_partition count p (write_at m w.key w.value) k ∙ ap (λ v. cond (nat_eq (k.row % count) p) v None) (value_written m w.key w.value k)))

  -- one of another partition changes nothing of it
  write_elsewhere : (m : Rows) (w : Write) → nat_eq (w.key.row % count) p ≡ false → on_partition count p (write_at m w.key w.value) ≡ on_partition count p m
  write_elsewhere m w is = same_keyed _ _ (λ k.
      value_on_partition count p (write_at m w.key w.value) k ∙ ap (λ v. cond (nat_eq (k.row % count) p) v None) (value_written m w.key w.value k)
      ∙ elim (is_key k w.key) as (λ b. is_key k w.key ≡ b → cond (nat_eq (k.row % count) p) (cond b w.value (value_at m k)) None ≡ cond (nat_eq (k.row % count) p) (value_at m k) None) [
        | true ↦ λ t. (let away : nat_eq (k.row % count) p ≡ false = ap (λ (j : RowKey). nat_eq (j.row % count) p) (one_key k w.key t) ∙ is in ap (λ c. cond c w.value None) away ∙ sym (ap (λ c. cond c (value_at m k) None) away))
        | false ↦ λ _. refl
      ] refl
      ∙ sym (value_on_partition count p m k))

abbrev as_write : Row → Write
as_write r = record { key = r.key; value = r.value }

-- the rows of a partition, put over its part, are its part of all of them put over the map
put_here : (s : Setting) (p : ℕ) (m : Rows) (rows : List Row)
    → put_over (on_partition s.entry.layout.partitions p m) (entry_writes s p rows) ≡ on_partition s.entry.layout.partitions p (put_over m (writes_of rows))
put_here s p m [] = refl
put_here s p m (r ∷ rows) =
    let count : ℕ = s.entry.layout.partitions in
    elim (nat_eq (r.key.row % count) p) as (λ b. nat_eq (r.key.row % count) p ≡ b
    → put_over (on_partition count p m) (map as_write (cond b (r ∷ filter (λ (x : Row). nat_eq (x.key.row % count) p) rows) (filter (λ (x : Row). nat_eq (x.key.row % count) p) rows)))
    ≡ on_partition count p (put_over (write_at m r.key r.value) (writes_of rows))) [
      | true ↦ λ t. ap (λ n. put_over n (entry_writes s p rows)) (write_here count p m (as_write r) t) ∙ put_here s p (write_at m r.key r.value) rows
      | false ↦ λ f. ap (λ n. put_over n (entry_writes s p rows)) (sym (write_elsewhere count p m (as_write r) f)) ∙ put_here s p (write_at m r.key r.value) rows
    ] refl

-- ---- the entry

tables_of_text : (text : List ℕ) (tree : Procedures) → IsAcceptedText text tree → (d : Done) (m : Rows) → AllByRecursion (λ (w : Write). w.key.table < length tree.tables) (run tree d.call m).writes
tables_of_text text tree is d m =
    subst (λ (t : Procedures). AllByRecursion (λ (w : Write). w.key.table < length t.tables) (run t d.call m).writes) (sym is.whole) (run_stays_in_tables is.own is.sound d.call m)

module _ (files : Files) (c : Contents) (good : IsGoodStore files c) (requests : List Request) (epoch : ℕ) (may : MayRun c requests epoch) (dones : List Done) where
  abbrev s : Setting
  s = c.setting

  abbrev count : ℕ
  count = s.entry.layout.partitions

  placed : ArePlaced count (λ k. k.table < length s.tree.tables) (pieces_in c requests dones)
  placed = all_placed count (λ k. k.table < length s.tree.tables) s.tree requests (tables_of_text s.entry.layout.text s.tree good.holds.history.layouts.tree) (map_in c) dones

  row_is : (n : ℕ) (held : List Bool) → HeldBy s.entry.layout n held → (rows : List Row) → AreLastWrites held (pieces_in c requests dones) rows
      → (ahead : List Row) (r : Row) (behind : List Row) → rows ≡ ahead ++ r ∷ behind → IsNodeRow s n r
  row_is n held by rows are ahead r behind is =
      let there = row_there ahead r behind in
      let found = stamp_from (InPlace count (λ k. k.table < length s.tree.tables)) held r.key (pieces_in c requests dones) there.0 placed
      (sym (are.each r.key) ∙ ap (row_stamp r.key) is ∙ there.1) in
      let some : 1 ≤ count = good.holds.history.layouts.limits.partitions.0 in
      record {
        held = by.are (partition_of s.entry.layout.partitions r.key) (omega arith) (ap (holds held) found.2.0 ∙ found.1);
        table = found.2.1;
      }

  pub may_prepare : MayPrepareRun c requests epoch dones
  may_prepare n node next held by rows are is = record {
    node = node;
    is = is;
    next = record { epoch = next; rows = all_by (IsNodeRow s n) rows (row_is n held by rows are) };
    above = all_from_map (λ (x : Commit). x.epoch) (λ e. e < epoch) c.commits may.next.rises;
  }

  module _ (leaves : LeaveTheMap s.tree count requests (map_in c) dones) where
    abbrev commit : Commit
    commit = record { epoch = epoch; dones = dones }

    abbrev history_in : Setting → List BaseEntry → List Commit → History
    history_in t base commits = record { base = base_of t base; epochs = map epoch_of commits; keep = t.entry.keep }

    -- the rows give the new map of the old one
    abbrev Gives : ℕ → List Row → Setting → List BaseEntry → List Commit → Type 0
    Gives n rows t base commits = (p : ℕ) → p < t.entry.layout.partitions → IsHeldBy t.entry.layout p n
        → put_over (on t p (map_of t.tree (history_in t base commits))) (entry_writes t p rows) ≡ on t p (map_of t.tree (followed_by (history_in t base commits) (epoch_of commit)))

    gives : (n : ℕ) (held : List Bool) → HeldBy s.entry.layout n held → (rows : List Row) → AreLastWrites held (pieces_in c requests dones) rows → Gives n rows s c.base c.commits
    gives n held by rows are p less holder =
        put_here s p (map_in c) rows ∙ leaves held rows are p less (by.all p less holder) ∙ sym (ap (on_partition count p) (rows_behind s.tree (history_of c) (epoch_of commit)))

    pub has_ready : HasRunReady c requests epoch dones
    has_ready n node held by rows are d setting base commits before behind there = record {
      before = before;
      entry = record { epoch = epoch; rows = rows };
      behind = behind;
      there = there;
      epoch = refl;
      rows =
          subst (λ (t : Setting). Gives n rows t d.base d.commits) (sym setting)
          (subst (λ (b : List BaseEntry). Gives n rows s b d.commits) (sym base)
          (subst (λ (x : List Commit). Gives n rows s c.base x) (sym commits) (gives n held by rows are)));
    }
