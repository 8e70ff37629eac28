-- What holds of an opened store on every host.
use Rattle.std.proofs.Common.{◌≡◌, inl, inr, ℕ, zero, suc, ◌+◌, ◌<◌, ◌≤◌, Bool, true, false, ◌||◌, nat_eq, List, [], ◌∷◌, ◌++◌, length, map, Global, refl, sym, ap, subst, ◌∙◌, arith}
use Rattle.std.specs.List.{AllByRecursion, flat_map, range_with_len}
use Rattle.std.specs.Set.{is_member}
use Rattle.std.specs.declared.vec.Vec.{Vec}
use Rattle.std.proofs.lemmas.Bool.{cases_lt, eqb-true}
use Rattle.std.proofs.lemmas.List.{length-map}
use Rattle.coco_types.specs.Limits.{epochs_end}
use Rattle.coco_ast.proofs.Lists.{all_append, all_left, all_map, all_right}
use Rattle.coco_entry.specs.declared.commit.Commit.{Commit}
use Rattle.coco_entry.specs.declared.layout.LayoutEntry.{LayoutEntry}
use Rattle.coco_entry.specs.declared.prepared.Prepared.{Prepared}
use Rattle.coco_load.specs.Epochs.{IsNextTo}
use Rattle.coco_load.specs.Reading.{maps_read}
use Rattle.coco_log.specs.LogState.{LogState}
use Rattle.coco_rules.specs.Readying.{AreAmong}
use Rattle.coco_store.specs.Entries.{BaseEntry}
use Rattle.coco_store.specs.Rules.{EachBehind, IsNextCommit, IsNextPrepared, Setting, base_of, commit_epochs, prepared_epochs}
use Rattle.coco_store.proofs.Naming.{names_apart}
use Rattle.coco_recover.specs.Bases.{entries_of}
use Rattle.coco_recover.specs.Commits.{AreCommitted}
use Rattle.coco_recover.specs.History.{IsHistoryRead}
use Rattle.coco_recover.specs.Layouts.{IsGoodLast, setting_of}
use Rattle.coco_recover.specs.Nodes.{entries_at, greatest_prepared, nodes_of}
use Rattle.coco_recover.specs.Opening.{AreLogs, EntriesAreReadied, IsSoundStore, IsTabled}
use Rattle.coco_recover.specs.Steps.{AreRead}
use Rattle.coco_recover.specs.declared.commits.Committed.{Committed}
use Rattle.coco_recover.specs.declared.history.StoreHistory.{StoreHistory}
use Rattle.coco_recover.specs.declared.layouts.LastLayout.{LastLayout}
use Rattle.coco_recover.specs.declared.nodes.Loaded.{Loaded}
use Rattle.coco_recover.proofs.Having.{greatest_listed, opened_of}
use Rattle.coco_recover.proofs.Keeping.{each_all, keeps_below}
use Rattle.coco_recover.proofs.Loading.{greatest_below}
use Rattle.coco_recover.proofs.OneMap.{one_map, one_map-on}
use Rattle.coco_recover.proofs.Shards.{shards_hold}
use Rattle.coco_recover.proofs.Tabled.{rows_tabled, values_tabled}

-- ---- the next epoch's number

or_either : (a b : Bool) (P : Type 0) → (a ≡ true → P) → (b ≡ true → P) → a || b ≡ true → P
or_either true b P here there is = here refl
or_either false b P here there is = there is

member_of : (P : ℕ → Type 0) (xs : List ℕ) (x : ℕ) → AllByRecursion P xs → is_member nat_eq xs x ≡ true → P x
member_of P [] x all is = let two : false ≡ true = is in cc
member_of P (y ∷ xs) x all is = or_either (nat_eq x y) (is_member nat_eq xs x) (P x) (λ t. subst P (sym (eqb-true x y t)) all.0) (member_of P xs x all.1) is

module _ (P : ℕ → Type 0) where
  nodes_all : (nodes : List (List Prepared)) → ((n : ℕ) → n < length nodes → AllByRecursion P (prepared_epochs (entries_at nodes n))) → AllByRecursion P (flat_map prepared_epochs nodes)
  nodes_all [] each = tt
  nodes_all (entries ∷ nodes) each =
      all_append P (prepared_epochs entries) (flat_map prepared_epochs nodes) (each 0 (omega arith)) (nodes_all nodes (λ n less. each (suc n) (omega arith)))

abbrev IsBelowEnd : ℕ → Type 0
IsBelowEnd e = e < epochs_end

pub commits_below : (s : Setting) (base : List BaseEntry) (commits : List Commit) → EachBehind (IsNextCommit s base) [] commits → AllByRecursion (λ e. e < epochs_end) (commit_epochs commits)
commits_below s base commits each =
    all_map (λ (c : Commit). c.epoch) IsBelowEnd commits (each_all (IsNextCommit s base) (λ (c : Commit). IsBelowEnd c.epoch)
    (λ before c next. next.epoch.below_end) [] commits each)

epochs_below : (last : LastLayout) (committed : Committed) (loaded : Loaded) (count : ℕ) → IsGoodLast last → AreCommitted (setting_of last) committed → length (nodes_of loaded) ≡ count
    → ((n : ℕ) → n < count → EachBehind (IsNextPrepared (setting_of last) n) [] (entries_at (nodes_of loaded) n))
    → AllByRecursion IsBelowEnd (last.entry.layout.base_epoch ∷ commit_epochs committed.commits.items ++ flat_map prepared_epochs (nodes_of loaded))
epochs_below last committed loaded count good are all each =
    let s = setting_of last in
    let commits = committed.commits.items in
    all_append IsBelowEnd (last.entry.layout.base_epoch ∷ commit_epochs commits) (flat_map prepared_epochs (nodes_of loaded)) (
      good.limits.base_epoch,
      commits_below s (entries_of committed.base.items) commits are.remembered.each,
    )
    (nodes_all IsBelowEnd (nodes_of loaded) (λ n less.
    all_map (λ (e : Prepared). e.epoch) IsBelowEnd (entries_at (nodes_of loaded) n) (each_all (IsNextPrepared s n) (λ (e : Prepared). IsBelowEnd e.epoch)
    (λ before e next. next.epoch.below_end) [] (entries_at (nodes_of loaded) n) (each n (omega (arith, less, all))))))

next_below : (epochs : List ℕ) (next : ℕ) → IsNextTo epochs next → AllByRecursion IsBelowEnd epochs → next ≤ epochs_end
next_below epochs next is all = let below : is.greatest < epochs_end = member_of IsBelowEnd epochs is.greatest all is.one in omega (arith, is.next, below)

-- ---- what each node prepared

nodes_below : (n : ℕ) (nodes : List (List Prepared)) → 0 < n → AllByRecursion (λ e. e < n) (flat_map prepared_epochs nodes) → AllByRecursion (λ e. e < n) (map greatest_prepared nodes)
nodes_below n [] some all = tt
nodes_below n (entries ∷ nodes) some all = (
  greatest_below n 0 (prepared_epochs entries) some (all_left (λ e. e < n) (prepared_epochs entries) (flat_map prepared_epochs nodes) all),
  nodes_below n nodes some (all_right (λ e. e < n) (prepared_epochs entries) (flat_map prepared_epochs nodes) all),
)

-- those of one node
node_below : (P : ℕ → Type 0) (nodes : List (List Prepared)) (n : ℕ) → AllByRecursion P (flat_map prepared_epochs nodes) → AllByRecursion P (prepared_epochs (entries_at nodes n))
node_below P [] zero all = tt
node_below P [] (suc n) all = tt
node_below P (entries ∷ nodes) zero all = all_left P (prepared_epochs entries) (flat_map prepared_epochs nodes) all
node_below P (entries ∷ nodes) (suc n) all = node_below P nodes n (all_right P (prepared_epochs entries) (flat_map prepared_epochs nodes) all)

-- those of one node of many
node_at : (P : ℕ → Type 0) (f : ℕ → List ℕ) (from count n : ℕ) → AllByRecursion P (flat_map f (range_with_len from count)) → from ≤ n → n < from + count → AllByRecursion P (f n)
node_at P f from zero n all low high = absurd (omega (arith, low, high))
node_at P f from (suc count) n all low high =
    let others = flat_map f (range_with_len (from + 1) count) in
    elim (cases_lt from n) [
      | inl more ↦ node_at P f (from + 1) count n (all_right P (f from) others all) (omega (arith, more)) (omega (arith, high))
      | inr most ↦ (let same : from ≡ n = omega (arith, low, most) in subst (λ (m : ℕ). AllByRecursion P (f m)) same (all_left P (f from) others all))
    ]

pub entries_are_readied : EntriesAreReadied
entries_are_readied keep files c store holds has =
    let count = c.setting.entry.layout.nodes in
    let below = λ (e : ℕ). e < store.next_epoch in
    let epochs = λ (n : ℕ). prepared_epochs (c.prepared n) in
    let nodes : store.layout.nodes ≡ count = ap (λ (e : LayoutEntry). e.layout.nodes) has.layout in
    record {
      greatest = has.prepared ∙ ap (λ (k : ℕ). map (λ n. greatest_prepared (c.prepared n)) (range_with_len 0 k)) (sym nodes);
      committed = λ n less.
          subst (AreAmong (epochs n)) (sym has.epochs)
          (all_map (λ (x : Commit). x.epoch) (λ (e : ℕ). is_member nat_eq (epochs n) e ≡ true) c.commits (holds.nodes n (omega (arith, less, nodes))).committed);
      below = λ n less.
          node_at below epochs 0 count n (all_right below (c.setting.entry.layout.base_epoch ∷ commit_epochs c.commits) (flat_map epochs (range_with_len 0 count)) has.next.above) (omega arith)
          (omega (arith, less, nodes));
    }

-- ---- the store

module _ (h : StoreHistory) (loaded : Loaded) (nodes : Vec LogState Global) (prepared : Vec ℕ Global) (had : IsHistoryRead h) (read : AreRead h.last h.committed loaded nodes.items h.last.entry.layout.nodes)
    (greatest : prepared.items ≡ map greatest_prepared (nodes_of loaded)) where
  are_logs : AreLogs h.last.entry.layout (record { root = h.root; chief = h.chief; nodes = nodes })
  are_logs = record {
    root = had.root;
    chief = had.chief;
    count = read.as_many;
    nodes = read.fresh h.root;
    apart = λ n less same. (names_apart h.last.entry had.good.is).node-chief n less (sym had.chief.in_file ∙ same ∙ (read.fresh h.root n less).in_file);
  }

  pub is_sound : IsSoundStore (opened_of h loaded nodes prepared)
  is_sound =
      let s = setting_of h.last in
      let good = had.good in
      let remembered = had.committed.remembered in
      let base = (base_of s (entries_of h.committed.base.items)).rows in
      let epochs = commit_epochs h.committed.commits.items in
      let entries = entries_at (nodes_of loaded) in
      let next = read.are.next in
      let above = all_left (λ (e : ℕ). e < loaded.next) (s.entry.layout.base_epoch ∷ epochs) (flat_map prepared_epochs (nodes_of loaded)) next.above in
      let behind = all_right (λ (e : ℕ). e < loaded.next) (s.entry.layout.base_epoch ∷ epochs) (flat_map prepared_epochs (nodes_of loaded)) next.above in
      let first : 0 < loaded.next = omega (arith, next.next) in
      record {
        is = good.is;
        limits = good.limits;
        procs = good.tree;
        maps = maps_read s base epochs entries;
        tables = read.are.tables;
        map = one_map s base epochs entries;
        primaries = shards_hold s.entry.layout (maps_read s base epochs entries) loaded.tables.shards.items loaded.tables.copies.items read.are.tables (one_map s base epochs entries)
            (λ p below. sym (one_map-on s base epochs entries p below));
        tabled = rows_tabled s (entries_of h.committed.base.items) epochs entries remembered.base good.limits.nodes.0
            (λ n less. read.each n less);
        base_tabled = subst (AllByRecursion (λ r. IsTabled s.tree r.0)) (sym had.values) (values_tabled s (entries_of h.committed.base.items) remembered.base);
        rises = had.committed.rises;
        below = subst (AllByRecursion (λ (e : ℕ). e < loaded.next)) (sym remembered.epochs) above.1;
        keeps = keeps_below s h.committed remembered loaded.next above.0 above.1;
        each_node = ap (length {A = ℕ}) greatest ∙ length-map (nodes_of loaded) greatest_prepared ∙ read.nodes;
        prepared_below = subst (AllByRecursion (λ (e : ℕ). e < loaded.next)) (sym greatest) (nodes_below loaded.next (nodes_of loaded) first behind);
        entries = λ n. prepared_epochs (entries n);
        readied = record {
          greatest = greatest ∙ greatest_listed (nodes_of loaded) s.entry.layout.nodes read.nodes;
          committed = read.whole;
          below = λ n less. node_below (λ (e : ℕ). e < loaded.next) (nodes_of loaded) n behind;
        };
        first = first;
        above_base = above.0;
        end = next_below (s.entry.layout.base_epoch ∷ epochs ++ flat_map prepared_epochs (nodes_of loaded)) loaded.next next
            (epochs_below h.last h.committed loaded s.entry.layout.nodes good had.committed read.nodes read.each);
        early = good.early;
        logs = are_logs;
      }
