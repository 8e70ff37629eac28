-- What is loaded while the entries of nodes are read.
use Rattle.std.proofs.Common.{◌≡◌, ◌≢◌, ℕ, zero, suc, ◌+◌, ◌<◌, Bool, true, false, not, cond, nat_eq, List, [], ◌∷◌, ◌++◌, length, map, max, refl, sym, ap, subst, ◌∙◌, append_assoc, append-nil, arith}
use Rattle.std.specs.Prelude.{IsTrue, ◌↔◌}
use Rattle.std.specs.List.{AllByRecursion, flat_map}
use Rattle.std.specs.Set.{is_member}
use Rattle.std.proofs.lemmas.Bool.{eq-eqb, eqb-false, eqb-true, ne_eqb}
use Rattle.std.proofs.lemmas.List.{get_or_at, map-append}
use Rattle.std.proofs.lemmas.List.Concat.{flat_map-append}
use Rattle.coco_types.specs.Limits.{epochs_end}
use Rattle.coco_ast.specs.Keyed.{Rows}
use Rattle.coco_ast.proofs.Lists.{all_map}
use Rattle.coco_copy.specs.CopyState.{CopyState}
use Rattle.coco_entry.specs.declared.commit.Commit.{Commit}
use Rattle.coco_entry.specs.declared.layout.Layout.{Layout}
use Rattle.coco_entry.specs.declared.prepared.Prepared.{Prepared}
use Rattle.coco_entry.specs.declared.prepared.Row.{Row}
use Rattle.coco_load.specs.Epochs.{IsNextTo}
use Rattle.coco_load.specs.Reading.{HoldRead, maps_read, with_entry, with_rows}
use Rattle.coco_load.specs.Tables.{AreTables, HoldMaps, Maps}
use Rattle.coco_load.specs.declared.tables.Tables.{Tables}
use Rattle.coco_load.proofs.Adding.{next_more}
use Rattle.coco_load.proofs.Following.{committed_is_read, nodes_decide}
use Rattle.coco_rules.specs.Readying.{AreAmong, IsBehindPrepared}
use Rattle.coco_rules.specs.declared.prepared.NodeRules.{NodeRules}
use Rattle.coco_rules.proofs.JudgedLemmas.{each_more}
use Rattle.coco_shard.specs.RowState.{ShardState}
use Rattle.coco_store.specs.Rules.{EachBehind, IsNextPrepared, Setting, base_of, commit_epochs, prepared_epochs}
use Rattle.coco_recover.specs.Bases.{Basis, entries_of}
use Rattle.coco_recover.specs.Commits.{AreCommitted}
use Rattle.coco_recover.specs.Nodes.{AreTaken, HoldsNodes, IsLoaded, Loads, NodeBasis, entries_at, greatest_of, greatest_prepared, setting_with, with_entries}
use Rattle.coco_recover.specs.declared.commits.Committed.{Committed}
use Rattle.coco_recover.specs.declared.nodes.Loaded.{Loaded}
use Rattle.coco_recover.proofs.Keeping.{each_all}

-- ---- one entry

-- the rows that were loaded are those of an entry of a committed epoch
pub entry_is_read : (layout : Layout) (node : ℕ) (e : Prepared) (rows : List Row) (shards new_shards : List ShardState) (copies new_copies : List CopyState) → rows ≡ e.rows
    → ((s : Setting) (maps : Maps) → s.entry.layout ≡ layout → HoldMaps layout maps shards copies → HoldMaps layout (with_rows s node rows maps) new_shards new_copies)
    → (s : Setting) (base : Rows) (epochs : List ℕ) (entries : ℕ → List Prepared) → s.entry.layout ≡ layout → is_member nat_eq epochs e.epoch ≡ true
    → HoldRead s base epochs entries shards copies → HoldRead s base epochs (with_entry node e entries) new_shards new_copies
entry_is_read layout node e rows shards new_shards copies new_copies are load s base epochs entries is committed held =
    let maps = maps_read s base epochs entries in
    let there : HoldMaps layout maps shards copies = subst (λ (l : Layout). HoldMaps l maps shards copies) is held in
    let loaded : HoldMaps layout (with_rows s node rows maps) new_shards new_copies = load s maps is there in
    committed_is_read s base epochs entries node e new_shards new_copies committed
    (subst (λ (l : Layout). HoldMaps l (with_rows s node e.rows maps) new_shards new_copies) (sym is)
    (subst (λ (rs : List Row). HoldMaps layout (with_rows s node rs maps) new_shards new_copies) are loaded))

-- ---- the entries of nodes

other_at : (nodes : List (List Prepared)) (x y : List Prepared) (m : ℕ) → m ≢ length nodes → entries_at (nodes ++ x ∷ []) m ≡ entries_at (nodes ++ y ∷ []) m
other_at [] x y zero ne = absurd (ne refl)
other_at [] x y (suc m) ne = refl
other_at (z ∷ nodes) x y zero ne = refl
other_at (z ∷ nodes) x y (suc m) ne = other_at nodes x y m (λ e. ne (ap suc e))

none_at : (nodes : List (List Prepared)) (m : ℕ) → entries_at nodes m ≡ entries_at (nodes ++ [] ∷ []) m
none_at [] zero = refl
none_at [] (suc m) = refl
none_at (x ∷ nodes) zero = refl
none_at (x ∷ nodes) (suc m) = none_at nodes m

past_end : (nodes : List (List Prepared)) → entries_at nodes (length nodes) ≡ []
past_end [] = refl
past_end (x ∷ nodes) = past_end nodes

-- the entries of the next node stand behind those of the nodes before it
next_at : (nodes : List (List Prepared)) (entries : List Prepared) (n m : ℕ) → length nodes ≡ n → with_entries n entries (entries_at nodes) m ≡ entries_at (nodes ++ entries ∷ []) m
next_at nodes entries n m is = either (nat_eq m n) refl
  where
    either : (b : Bool) → nat_eq m n ≡ b → cond b (entries_at nodes m ++ entries) (entries_at nodes m) ≡ entries_at (nodes ++ entries ∷ []) m
    either true same =
        let here : length nodes ≡ m = is ∙ sym (eqb-true m n same) in
        ap (λ (es : List Prepared). es ++ entries) (ap (entries_at nodes) (sym here) ∙ past_end nodes) ∙ sym (get_or_at nodes entries [] [] m here)
    either false other = none_at nodes m ∙ other_at nodes [] entries m (λ here. eqb-false m n other (here ∙ is))

more_epochs : (nodes : List (List Prepared)) (entries : List Prepared) → flat_map prepared_epochs (nodes ++ entries ∷ []) ≡ flat_map prepared_epochs nodes ++ prepared_epochs entries
more_epochs nodes entries = flat_map-append prepared_epochs nodes (entries ∷ []) ∙ ap (λ (l : List ℕ). flat_map prepared_epochs nodes ++ l) (append-nil (prepared_epochs entries))

-- before the first entry of the next node
pub node_begins : (b : Basis) (commits : List Commit) (nodes : List (List Prepared)) (loaded : Loaded) → HoldsNodes b commits nodes loaded → HoldsNodes b commits (nodes ++ [] ∷ []) loaded
node_begins b commits nodes loaded held =
    let behind = b.setting.entry.layout.base_epoch ∷ commit_epochs commits in
    let same : flat_map prepared_epochs (nodes ++ [] ∷ []) ≡ flat_map prepared_epochs nodes = flat_map-append prepared_epochs nodes ([] ∷ []) ∙ append-nil (flat_map prepared_epochs nodes) in
    record {
      tables = nodes_decide b.setting (base_of b.setting b.base).rows (commit_epochs commits) (entries_at nodes) (entries_at (nodes ++ [] ∷ [])) loaded.tables.shards.items loaded.tables.copies.items (λ m _. none_at nodes m) held.tables;
      next = subst (λ (l : List ℕ). IsNextTo (behind ++ l) loaded.next) (sym same) held.next;
    }

-- before the first node
pub none_loaded : (s : Setting) (committed : Committed) (loaded : Loaded) → loaded.nodes.items ≡ [] → loaded.next ≡ committed.next → AreCommitted s committed
    → HoldRead s (base_of s (entries_of committed.base.items)).rows (commit_epochs committed.commits.items) (λ n. []) loaded.tables.shards.items loaded.tables.copies.items
    → IsLoaded s committed loaded
none_loaded s committed loaded none same are held =
    let behind = s.entry.layout.base_epoch ∷ commit_epochs committed.commits.items in
    rw none (record { tables = held; next = rw (same, append-nil behind) are.remembered.next })

-- ---- one node

none_more : (n : ℕ) (read : ℕ → List Prepared) (m : ℕ) → read m ≡ with_entries n [] read m
none_more n read m = elim (nat_eq m n) as (λ b. read m ≡ cond b (read m ++ []) (read m)) [
  | true ↦ sym (append-nil (read m))
  | false ↦ refl
]

one_more : (n : ℕ) (taken : List Prepared) (e : Prepared) (read : ℕ → List Prepared) (m : ℕ) → with_entry n e (with_entries n taken read) m ≡ with_entries n (taken ++ e ∷ []) read m
one_more n taken e read m = elim (nat_eq m n) as (λ b. cond b (cond b (read m ++ taken) (read m) ++ e ∷ []) (cond b (read m ++ taken) (read m)) ≡ cond b (read m ++ (taken ++ e ∷ [])) (read m)) [
  | true ↦ append_assoc (read m) taken (e ∷ [])
  | false ↦ refl
]

module _ (s : Setting) (epochs : List ℕ) (n : ℕ) where
  -- before its first entry
  pub loads_none : (shards : List ShardState) (copies : List CopyState) → Loads s epochs n [] shards copies shards copies
  loads_none shards copies base read held = nodes_decide s base epochs read (with_entries n [] read) shards copies (λ m _. none_more n read m) held

  -- with one entry more
  pub loads_more : (taken more : List Prepared) (e : Prepared) (shards old_shards new_shards : List ShardState) (copies old_copies new_copies : List CopyState)
      → Loads s epochs n taken shards copies old_shards old_copies → more ≡ taken ++ e ∷ []
      → ((base : Rows) (read : ℕ → List Prepared) → HoldRead s base epochs read old_shards old_copies → HoldRead s base epochs (with_entry n e read) new_shards new_copies)
      → Loads s epochs n more shards copies new_shards new_copies
  loads_more taken more e shards old_shards new_shards copies old_copies new_copies was longer load base read held =
      subst (λ (es : List Prepared). HoldRead s base epochs (with_entries n es read) new_shards new_copies) (sym longer)
      (nodes_decide s base epochs (with_entry n e (with_entries n taken read)) (with_entries n (taken ++ e ∷ []) read) new_shards new_copies (λ m _. one_more n taken e read m)
      (load base (with_entries n taken read) (was base read held)))

-- ---- the greatest epoch that a node prepared

greatest_push : (n : ℕ) (xs : List ℕ) (x : ℕ) → greatest_of n (xs ++ x ∷ []) ≡ max (greatest_of n xs) x
greatest_push n [] x = refl
greatest_push n (y ∷ xs) x = greatest_push (max n y) xs x

-- with one entry more
pub greatest_goes_on : (taken more : List Prepared) (e : Prepared) (old new : ℕ) → old ≡ greatest_prepared taken → more ≡ taken ++ e ∷ [] → new ≡ max old e.epoch → new ≡ greatest_prepared more
greatest_goes_on taken more e old new was longer is =
    is ∙ ap (λ n. max n e.epoch) was ∙ sym (ap greatest_prepared longer ∙ ap (greatest_of 0) (map-append (λ (p : Prepared). p.epoch) taken (e ∷ [])) ∙ greatest_push 0 (prepared_epochs taken) e.epoch)

-- it is below what they are all below
below_either : (m x n : ℕ) → m < n → x < n → max m x < n
below_either m x n first second = omega arith

pub greatest_below : (n m : ℕ) (xs : List ℕ) → m < n → AllByRecursion (λ x. x < n) xs → greatest_of m xs < n
greatest_below n m [] first all = first
greatest_below n m (x ∷ xs) first all = greatest_below n (max m x) xs (below_either m x n first all.0) all.1

pub greatest_early : (s : Setting) (n : ℕ) (entries : List Prepared) (greatest : ℕ) → EachBehind (IsNextPrepared s n) [] entries → greatest ≡ greatest_prepared entries → greatest < epochs_end
greatest_early s n entries greatest each is =
    subst (λ (g : ℕ). g < epochs_end) (sym is)
    (greatest_below epochs_end 0 (prepared_epochs entries) (omega arith)
    (all_map (λ (e : Prepared). e.epoch) (λ (e : ℕ). e < epochs_end) entries
    (each_all (IsNextPrepared s n) (λ (e : Prepared). e.epoch < epochs_end) (λ before e next. next.epoch.below_end) [] entries each)))

-- ---- the number that comes next

-- the number that comes next behind these too
abbrev number_behind : ℕ → List ℕ → ℕ
number_behind n [] = n
number_behind n (x ∷ xs) = number_behind (max n (x + 1)) xs

next_all : (epochs : List ℕ) (n : ℕ) (xs : List ℕ) → IsNextTo epochs n → IsNextTo (epochs ++ xs) (number_behind n xs)
next_all epochs n [] so = subst (λ (l : List ℕ). IsNextTo l n) (sym (append-nil epochs)) so
next_all epochs n (x ∷ xs) so =
    subst (λ (l : List ℕ). IsNextTo l (number_behind (max n (x + 1)) xs)) (append_assoc epochs (x ∷ []) xs)
    (next_all (epochs ++ x ∷ []) (max n (x + 1)) xs (next_more epochs n x (max n (x + 1)) refl so))

of_two : (n g x : ℕ) → max (max n (g + 1)) (x + 1) ≡ max n (max g x + 1)
of_two n g x = omega arith

by_greatest : (n g : ℕ) (xs : List ℕ) → number_behind (max n (g + 1)) xs ≡ max n (greatest_of g xs + 1)
by_greatest n g [] = refl
by_greatest n g (x ∷ xs) = ap (λ (m : ℕ). number_behind m xs) (of_two n g x) ∙ by_greatest n (max g x) xs

-- it goes by the greatest epoch that the node prepared
pub next_behind : (epochs : List ℕ) (old greatest new : ℕ) (entries : List Prepared) → IsNextTo epochs old → greatest ≡ greatest_prepared entries → new ≡ max old (greatest + 1)
    → IsNextTo (epochs ++ prepared_epochs entries) new
next_behind epochs old greatest new entries so is are =
    let some : max old (0 + 1) ≡ old = omega (arith, so.next) in
    subst (IsNextTo (epochs ++ prepared_epochs entries))
    (ap (λ (m : ℕ). number_behind m (prepared_epochs entries)) (sym some) ∙ by_greatest old 0 (prepared_epochs entries) ∙ ap (λ (g : ℕ). max old (g + 1)) (sym is) ∙ sym are)
    (next_all epochs old (prepared_epochs entries) so)

-- ---- while a node is read

pub taken_goes_on : (b : NodeBasis) (taken more : List Prepared) (e : Prepared) (rules after : NodeRules) (old new : Tables) (greatest most : ℕ) → AreTaken b taken rules old greatest
    → more ≡ taken ++ e ∷ [] → after.node ≡ rules.node → IsNextPrepared (setting_with b.layout b.tree) b.node taken e → IsBehindPrepared (setting_with b.layout b.tree) b.epochs (taken ++ e ∷ []) after
    → AreTables b.layout new.shards.items new.copies.items
    → ((base : Rows) (read : ℕ → List Prepared) → HoldRead (setting_with b.layout b.tree) base b.epochs read old.shards.items old.copies.items
    → HoldRead (setting_with b.layout b.tree) base b.epochs (with_entry b.node e read) new.shards.items new.copies.items)
    → most ≡ max greatest e.epoch → AreTaken b more after new most
taken_goes_on b taken more e rules after old new greatest most was longer same next behind tables load is =
    let s = setting_with b.layout b.tree in
    record {
      each = subst (EachBehind (IsNextPrepared s b.node) []) (sym longer) (each_more (IsNextPrepared s b.node) [] taken e was.each next);
      behind = subst (λ (es : List Prepared). IsBehindPrepared s b.epochs es after) (sym longer) behind;
      is_node = same ∙ was.is_node;
      tables = tables;
      loads = loads_more s b.epochs b.node taken more e b.shards old.shards.items new.shards.items b.copies old.copies.items new.copies.items was.loads longer load;
      greatest = greatest_goes_on taken more e greatest most was.greatest longer is;
    }

-- ---- the next node

-- its tables and its number, behind those of the nodes before it
pub node_added : (b : Basis) (commits : List Commit) (nodes : List (List Prepared)) (entries : List Prepared) (n greatest : ℕ) (old new : Loaded) → length nodes ≡ n
    → HoldsNodes b commits nodes old
    → Loads b.setting (commit_epochs commits) n entries old.tables.shards.items old.tables.copies.items new.tables.shards.items new.tables.copies.items
    → greatest ≡ greatest_prepared entries → new.next ≡ max old.next (greatest + 1) → HoldsNodes b commits (nodes ++ entries ∷ []) new
node_added b commits nodes entries n greatest old new long was loads is next =
    let base = (base_of b.setting b.base).rows in
    let behind = b.setting.entry.layout.base_epoch ∷ commit_epochs commits in
    let before = flat_map prepared_epochs nodes in
    record {
      tables = nodes_decide b.setting base (commit_epochs commits) (with_entries n entries (entries_at nodes)) (entries_at (nodes ++ entries ∷ [])) new.tables.shards.items new.tables.copies.items
          (λ m _. next_at nodes entries n m long) (loads base (entries_at nodes) was.tables);
      next = subst (λ (l : List ℕ). IsNextTo l new.next) (append_assoc behind before (prepared_epochs entries) ∙ ap (λ (l : List ℕ). behind ++ l) (sym (more_epochs nodes entries)))
          (next_behind (behind ++ before) old.next greatest new.next entries was.next is next);
    }

-- with one node more
pub node_prepared : (nodes more : List (List Prepared)) (entries : List Prepared) (old new : List ℕ) (n : ℕ) → old ≡ map greatest_prepared nodes → more ≡ nodes ++ entries ∷ [] → n ≡ greatest_prepared entries
    → new ≡ old ++ n ∷ [] → new ≡ map greatest_prepared more
node_prepared nodes more entries old new n was longer greatest is =
    is ∙ ap (λ l. l ++ n ∷ []) was ∙ ap (λ m. map greatest_prepared nodes ++ m ∷ []) greatest ∙ sym (ap (map greatest_prepared) longer ∙ map-append greatest_prepared nodes (entries ∷ []))

-- ---- what lacks

-- where nothing was taken, an entry lacks as soon as there is a committed epoch
pub none_prepared : (epochs : List ℕ) (count : ℕ) → count ≡ length epochs → IsTrue (not (nat_eq count 0)) ↔ (¬ (AreAmong [] epochs))
none_prepared [] count is =
    let some : nat_eq count 0 ≡ true = eq-eqb count 0 is in
    (λ told. absurd (let no : false ≡ true = rw some at told in cc), λ lack. absurd (lack tt))
none_prepared (epoch ∷ epochs) count is =
    let none : nat_eq count 0 ≡ false = ne_eqb count 0 (λ e. omega (arith, is, e)) in
    (λ told all. let no : false ≡ true = all.0 in cc, λ lack. rw none refl)

pub not_told : (told : Bool) (P : Type 0) → (IsTrue told ↔ P) → IsTrue (not told) ↔ (¬ P)
not_told true P is = (λ no. absurd (let two : false ≡ true = no in cc), λ lack. absurd (lack (is.0 refl)))
not_told false P is = (λ _ p. let no : false ≡ true = is.1 p in cc, λ _. refl)
