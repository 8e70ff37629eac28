-- A store with a node's file made again is contents to switch to.
use Rattle.std.proofs.Common.{◌≡◌, ◌≢◌, ℕ, ◌<◌, ◌==◌, Bool, true, false, cond, nat_eq, List, [], ◌∷◌, ◌++◌, length, map, filter, refl, sym, ap, subst, ◌∙◌, arith}
use Rattle.std.specs.List.{AllByRecursion, flat_map}
use Rattle.std.specs.Set.{is_member}
use Rattle.std.proofs.lemmas.Bool.{eq-eqb, eqb-false, eqb-true, or_left, or_right}
use Rattle.std.proofs.lemmas.List.{get_or-set_other, get_or-set_same, map-append}
use Rattle.std.proofs.lemmas.List.Elements.{filter-append}
use Rattle.coco_types.specs.RowKey.{partition_of}
use Rattle.coco_types.specs.declared.call.Write.{Write}
use Rattle.coco_host.specs.Files.{Files}
use Rattle.coco_append.proofs.PastLemmas.{logs_besides}
use Rattle.coco_ast.specs.History.{RisesAbove}
use Rattle.coco_ast.specs.Keyed.{put_over}
use Rattle.coco_ast.proofs.Lists.{all_right, all_weaker}
use Rattle.coco_entry.specs.declared.commit.Commit.{Commit}
use Rattle.coco_entry.specs.declared.layout.Layout.{Layout}
use Rattle.coco_entry.specs.declared.prepared.Prepared.{Prepared}
use Rattle.coco_entry.specs.declared.prepared.Row.{Row}
use Rattle.coco_entry.specs.Layouts.{IsLayout}
use Rattle.coco_log.specs.Changes.{SameBesides}
use Rattle.coco_recover.specs.Without.{IsGoodBut}
use Rattle.coco_recover.proofs.Committing.{commits_rise}
use Rattle.coco_recover.proofs.LeftOut.{behind_gates_but}
use Rattle.coco_store.specs.Contents.{Contents, HoldsNode, chief_of, committed_writes, file_of, map_in, on, rows_of, writes_on}
use Rattle.coco_store.specs.Entries.{ArePrepared, files_of}
use Rattle.coco_store.specs.Laws.{KeepLogs}
use Rattle.coco_store.specs.Placement.{IsHeldBy}
use Rattle.coco_store.specs.Rules.{EachBehind, IsNextCommit, IsNextEpoch, IsNextPrepared, IsWithinLimits, Setting, base_of, commit_epochs, prepared_epochs}
use Rattle.coco_store.specs.Switching.{Allows, IsReadyFor, KeepRules, Switches}
use Rattle.coco_store.proofs.Switching.{where_allowed}
use Rattle.coco_rebuild.specs.Laws.{RebuiltIsGood}
use Rattle.coco_rebuild.specs.Rebuilding.{AreRebuilt, IsHeldAlone, IsRebuilt, holder_behind, new_file, on_rows, rebuilt_with, rows_at}
use Rattle.coco_rebuild.proofs.Grouping.{same_as}
use Rattle.coco_rebuild.proofs.NewNode.{is_layout, none_of_old, within_limits}
use Rattle.coco_rebuild.proofs.Holders.{is_node, next_holder}

-- ---- the epochs of a node's entries rise

epochs_rise : (s : Setting) (n m : ℕ) (before xs : List Prepared) → EachBehind (IsNextPrepared s n) before xs
    → ((epoch : ℕ) → IsNextEpoch s.entry.layout.base_epoch (prepared_epochs before) epoch → m < epoch) → RisesAbove m (prepared_epochs xs)
epochs_rise s n m before [] each low = tt
epochs_rise s n m before (x ∷ xs) each low = (
  low x.epoch each.0.epoch,
  epochs_rise s n x.epoch (before ++ x ∷ []) xs each.1 (λ epoch next.
      (all_right (λ (e : ℕ). e < epoch) (prepared_epochs before) (x.epoch ∷ []) (subst (λ (l : List ℕ). AllByRecursion (λ e. e < epoch) l) (map-append (λ (e : Prepared). e.epoch) before (x ∷ [])) next.rises)).0),
)

pub prepared_rise : (s : Setting) (n : ℕ) (xs : List Prepared) → EachBehind (IsNextPrepared s n) [] xs → RisesAbove s.entry.layout.base_epoch (prepared_epochs xs)
prepared_rise s n xs each = epochs_rise s n s.entry.layout.base_epoch [] xs each (λ epoch next. next.above_base)

-- ---- what entries write

module _ (s : Setting) (p : ℕ) where
  abbrev write_of : Row → Write
  write_of r = record { key = r.key; value = r.value }

  abbrev is_on : Row → Bool
  is_on r = nat_eq (partition_of s.entry.layout.partitions r.key) p

  writes_together : (xs : List Prepared) → flat_map (λ e. writes_on s p e.rows) xs ≡ writes_on s p (flat_map (λ e. e.rows) xs)
  writes_together [] = refl
  writes_together (x ∷ xs) =
      let all : List Row = flat_map (λ e. e.rows) xs in
      ap (λ (l : List Write). writes_on s p x.rows ++ l) (writes_together xs)
      ∙ sym (map-append write_of (filter is_on x.rows) (filter is_on all))
      ∙ ap (map write_of) (sym (filter-append is_on x.rows all))

  same_writes : (n : ℕ) (entries source : List Prepared) (epochs : List ℕ) → prepared_epochs entries ≡ epochs → RisesAbove n (prepared_epochs source) → RisesAbove n epochs
      → AllByRecursion (λ e. on_rows s.entry.layout p e.rows ≡ on_rows s.entry.layout p (rows_at e.epoch source)) entries
      → committed_writes s p epochs entries ≡ committed_writes s p epochs source
  same_writes n entries source epochs are rising rises each =
      same_as (λ (e : Prepared). e.epoch) (λ (e : Prepared). writes_on s p e.rows) n n entries source epochs are rising rises
      (all_weaker (λ (e : Prepared). on_rows s.entry.layout p e.rows ≡ on_rows s.entry.layout p (rows_at e.epoch source))
      (λ (e : Prepared). flat_map (λ (x : Prepared). writes_on s p x.rows) (filter (λ (x : Prepared). nat_eq x.epoch e.epoch) source) ≡ writes_on s p e.rows)
      (λ e same. writes_together (filter (λ (x : Prepared). nat_eq x.epoch e.epoch) source) ∙ ap (map write_of) (sym same)) entries each)

-- ---- the node's entries keep their rules

have_all : (commits : List Commit) (all : List ℕ) → ((k : ℕ) → is_member nat_eq (commit_epochs commits) k ≡ true → is_member nat_eq all k ≡ true) → AllByRecursion (λ c. is_member nat_eq all c.epoch ≡ true) commits
have_all [] all sub = tt
have_all (x ∷ xs) all sub = (
  sub x.epoch (or_left (nat_eq x.epoch x.epoch) (is_member nat_eq (commit_epochs xs) x.epoch) (eq-eqb x.epoch x.epoch refl)),
  have_all xs all (λ k is. sub k (or_right (nat_eq k x.epoch) (is_member nat_eq (commit_epochs xs) k) is)),
)

same_push : (x : Prepared) (y : Commit) (xs : List Prepared) (ys : List Commit) → prepared_epochs xs ≡ commit_epochs ys → x.epoch ≡ y.epoch → prepared_epochs (xs ++ x ∷ []) ≡ commit_epochs (ys ++ y ∷ [])
same_push x y xs ys same one =
    map-append (λ (e : Prepared). e.epoch) xs (x ∷ []) ∙ ap (λ (l : List ℕ). l ++ x.epoch ∷ []) same ∙ ap (λ (n : ℕ). commit_epochs ys ++ n ∷ []) one ∙ sym (map-append (λ (c : Commit). c.epoch) ys (y ∷ []))

each_next : (node : ℕ) (c : Contents) (before xs : List Prepared) (done commits : List Commit) → prepared_epochs before ≡ commit_epochs done → prepared_epochs xs ≡ commit_epochs commits
    → EachBehind (IsNextCommit c.setting c.base) done commits → AllByRecursion (IsRebuilt node c) xs → EachBehind (IsNextPrepared c.setting node) before xs
each_next node c before [] done commits same are each all = tt
each_next node c before (x ∷ xs) done [] same are each all = absurd (omega (arith, ap length are))
each_next node c before (x ∷ xs) done (y ∷ ys) same are each all =
    let both : ◌≡◌ {A = List ℕ} (x.epoch ∷ prepared_epochs xs) (y.epoch ∷ commit_epochs ys) = are in
    let one : x.epoch ≡ y.epoch = cc in
    let rest : prepared_epochs xs ≡ commit_epochs ys = cc in
    let base : ℕ = c.setting.entry.layout.base_epoch in (
      record {
        epoch = subst (λ (n : ℕ). IsNextEpoch base (prepared_epochs before) n) (sym one) (subst (λ (l : List ℕ). IsNextEpoch base l y.epoch) (sym same) each.0.epoch);
        rows = all.0.rows;
      },
      each_next node c (before ++ x ∷ []) xs (done ++ y ∷ []) ys (same_push x y before done same one) rest each.1 all.1,
    )

-- ---- the contents

module _ (node : ℕ) (old new : Files) (c : Contents) (entries : List Prepared) (good : IsGoodBut node old c) (less : node < c.setting.entry.layout.nodes)
    (others : (p : ℕ) → ¬ (IsHeldAlone c.setting.entry.layout node p)) (are : AreRebuilt node c entries)
    (same : SameBesides (new_file c.setting.entry ∷ []) old new) (log : ArePrepared entries (new (new_file c.setting.entry))) where
  abbrev s : Setting
  s = c.setting

  abbrev layout : Layout
  layout = c.setting.entry.layout

  abbrev file : ℕ
  file = new_file c.setting.entry

  abbrev d : Contents
  d = rebuilt_with node entries c

  is : IsLayout c.setting.entry
  is = (all_right IsLayout c.earlier (c.setting.entry ∷ []) good.holds.history.layouts.are.are).0

  limits : IsWithinLimits c.setting.entry
  limits = good.holds.history.layouts.limits

  keeps : KeepLogs c.setting.entry old new
  keeps = logs_besides (file ∷ []) (files_of c.setting.entry) old new (none_of_old node c.setting.entry is limits) same

  still : IsGoodBut node new c
  still = behind_gates_but node old new c keeps good

  allows : Allows s d.setting
  allows = record { tree = refl; nodes = refl; partitions = refl; copies = refl; base_epoch = refl; room = λ before room. room }

  rules : KeepRules s d.setting
  rules = where_allowed s d.setting allows

  -- the node has the history's rows
  node_has : (p : ℕ) → p < layout.partitions → IsHeldBy layout p node
      → put_over (on s p (base_of s c.base).rows) (committed_writes s p (commit_epochs c.commits) entries) ≡ on s p (map_in c)
  node_has p within held =
      let j : ℕ = held.0 in
      let n : ℕ = holder_behind layout p j in
      let next = next_holder layout node p j limits.copies others within held.1 held.2 in
      let some = limits.nodes.0 in
      let of_n : n < layout.nodes = is_node layout p n (omega (arith, some)) next.held in
      let source : List Prepared = c.prepared n in
      let rising : RisesAbove layout.base_epoch (prepared_epochs source) = prepared_rise s n source (good.holds.nodes n of_n next.other).each in
      let rises : RisesAbove layout.base_epoch (commit_epochs c.commits) = commits_rise s c.base c.commits good.holds.history.commits.each in
      ap (put_over (on s p (base_of s c.base).rows))
      (same_writes s p layout.base_epoch entries source (commit_epochs c.commits) are.epochs rising rises
      (all_weaker (IsRebuilt node c) (λ (e : Prepared). on_rows layout p e.rows ≡ on_rows layout p (rows_at e.epoch source)) (λ e rebuilt. rebuilt.same p j within held.1 held.2) entries are.each))
      ∙ good.rows n p of_n next.other within next.held

  have_rows : (n p : ℕ) → n < layout.nodes → p < layout.partitions → IsHeldBy layout p n → rows_of d n p ≡ on d.setting p (map_in d)
  have_rows n p of_n within held =
      elim (n == node) as (λ b. (n == node) ≡ b → put_over (on s p (base_of s c.base).rows) (committed_writes s p (commit_epochs c.commits) (cond b entries (c.prepared n))) ≡ on s p (map_in c)) [
        | true ↦ λ t. node_has p within (subst (IsHeldBy layout p) (eqb-true n node t) held)
        | false ↦ λ f. good.rows n p of_n (eqb-false n node f) within held
      ] refl

  pub switches : Switches c d
  switches = record {
    earlier = refl;
    text = refl;
    tree = refl;
    is = is_layout node c.setting.entry is limits;
    limits = within_limits node c.setting.entry is limits;
    ordered = good.ordered;
    serial = good.serial;
    rows = have_rows;
  }

  -- the node's file, and those of the others
  own : HoldsNode s c.commits node entries (new file)
  own = record {
    are = log;
    each = each_next node c [] entries [] c.commits refl are.epochs good.holds.history.commits.each are.each;
    committed = have_all c.commits (prepared_epochs entries) (λ k there. ap (λ (l : List ℕ). is_member nat_eq l k) are.epochs ∙ there);
  }

  own_file : file_of d.setting node ≡ file
  own_file = get_or-set_same layout.node_files node file 0 (let count = is.fields.count in omega (arith, less, count))

  node_stands : (n : ℕ) → n < layout.nodes → HoldsNode d.setting d.commits n (d.prepared n) (new (file_of d.setting n))
  node_stands n of_n =
      elim (n == node) as (λ b. (n == node) ≡ b → HoldsNode d.setting c.commits n (cond b entries (c.prepared n)) (new (file_of d.setting n))) [
        | true ↦ λ t.
            subst (λ (k : ℕ). HoldsNode d.setting c.commits k entries (new (file_of d.setting k))) (sym (eqb-true n node t))
            (subst (λ (f : ℕ). HoldsNode d.setting c.commits node entries (new f)) (sym own_file) (rules.node c.commits node entries (new file) own))
        | false ↦ λ f. (let other : n ≢ node = eqb-false n node f in
            subst (λ (g : ℕ). HoldsNode d.setting c.commits n (c.prepared n) (new g)) (sym (get_or-set_other layout.node_files node n file 0 other))
            (rules.node c.commits n (c.prepared n) (new (file_of s n)) (still.holds.nodes n of_n other)))
      ] refl

  pub ready : IsReadyFor c d new
  ready = record {
    layouts = still.holds.history.layouts;
    stands = record {
      base = rules.base new c.base c.setting.entry.base_file still.holds.history.base;
      commits = rules.commits c.base c.commits (new (chief_of s)) still.holds.history.commits;
      nodes = node_stands;
    };
  }

pub rebuilt_good : RebuiltIsGood
rebuilt_good node old new c entries good less others are same log = record {
  switches = switches node old new c entries good less others are same log;
  ready = ready node old new c entries good less others are same log;
}
