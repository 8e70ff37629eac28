-- Which of an opened store's Dones are those of the epochs up to one, and what map they leave.
use Rattle.std.proofs.Common.{◌≡◌, ℕ, ◌<◌, ◌≤◌, ◌&&◌, Bool, true, false, cond, nat_le, nat_lt, List, [], ◌∷◌, ◌++◌, filter, map, Option, None, Some, refl, sym, ap, ◌∙◌, subst, arith}
use Rattle.std.specs.FinMap.{empty}
use Rattle.std.specs.List.{AllByRecursion, flat_map}
use Rattle.std.proofs.lemmas.Bool.{le-leb, lt-ltb}
use Rattle.std.proofs.lemmas.Bool.Decides.{nat_tests}
use Rattle.std.proofs.lemmas.List.Elements.{filter-append}
use Rattle.coco_types.specs.RowKey.{RowKey}
use Rattle.coco_types.specs.declared.call.Done.{Done}
use Rattle.coco_types.specs.declared.value.Value.{Value}
use Rattle.coco_ast.specs.History.{Epoch, HaveTheirNumbers, History, IsOrdered, RisesAbove, all_dones, dones_in, epoch_dones, last_epoch, last_number, map_of, rows_after, up_to, with_keep}
use Rattle.coco_ast.specs.Keyed.{Rows, put_over}
use Rattle.coco_ast.specs.Tree.{Procedures}
use Rattle.coco_ast.proofs.Lists.{all_weaker}
use Rattle.coco_entry.specs.declared.commit.Commit.{Commit}
use Rattle.coco_entry.specs.declared.layout.LayoutEntry.{LayoutEntry}
use Rattle.coco_host.specs.Files.{Files}
use Rattle.coco_kept.proofs.KeepLemmas.{kept_all}
use Rattle.coco_load.specs.Reading.{puts}
use Rattle.coco_recover.specs.Opening.{Has}
use Rattle.coco_recover.specs.declared.opening.Opened.{Opened}
use Rattle.coco_recover.proofs.Keeping.{each_all, flat_all}
use Rattle.coco_store.specs.Contents.{Contents, HoldsBase, IsGoodStore, epoch_of, history_of}
use Rattle.coco_store.specs.Entries.{BaseEntry}
use Rattle.coco_store.specs.Rules.{IsKeptDone, IsNextBase, Setting, commit_epochs, dones_of, kept_dones}
use Rattle.coco_query.specs.Tables.{RangesAreHistories, between, last_of}

-- ---- lists

module _ {X : Type 0} (p : X → Bool) where
  filter_by : (b : Bool) (xs : List X) → AllByRecursion (λ x. p x ≡ b) xs → filter p xs ≡ cond b xs []
  filter_by true [] all = refl
  filter_by false [] all = refl
  filter_by true (x ∷ xs) all = ap (λ (b : Bool). cond b (x ∷ filter p xs) (filter p xs)) all.0 ∙ ap (λ (ys : List X). x ∷ ys) (filter_by true xs all.1)
  filter_by false (x ∷ xs) all = ap (λ (b : Bool). cond b (x ∷ filter p xs) (filter p xs)) all.0 ∙ filter_by false xs all.1

-- ---- epochs

above : (n : ℕ) (es : List Epoch) → RisesAbove n (map (λ (e : Epoch). e.number) es) → AllByRecursion (λ (e : Epoch). n < e.number) es
above n [] rises = tt
above n (e ∷ es) rises = (rises.0, all_weaker (λ (x : Epoch). e.number < x.number) (λ (x : Epoch). n < x.number) (λ x less. omega (arith, less, rises.0)) es (above e.number es rises.1))

last_least : (n : ℕ) (es : List Epoch) → RisesAbove n (map (λ (e : Epoch). e.number) es) → n ≤ last_number n es
last_least n [] rises = omega arith
last_least n (e ∷ es) rises = let rest = last_least e.number es rises.1 in omega (arith, rises.0, rest)

up_to_last : (n : ℕ) (es : List Epoch) → RisesAbove n (map (λ (e : Epoch). e.number) es) → AllByRecursion (λ (e : Epoch). nat_le e.number (last_number n es) ≡ true) es
up_to_last n [] rises = tt
up_to_last n (e ∷ es) rises = (le-leb e.number (last_number e.number es) (last_least e.number es rises.1), up_to_last e.number es rises.1)

-- up to its last epoch it is the whole history
pub whole : (h : History) → IsOrdered h → up_to (last_epoch h) h ≡ h
whole h ordered = ap (λ (es : List Epoch). record h { epochs = es }) (filter_by (λ (e : Epoch). nat_le e.number (last_epoch h)) true h.epochs (up_to_last h.base.epoch h.epochs ordered.epochs_rise))

last_committed : (n : ℕ) (commits : List Commit) → last_of n (commit_epochs commits) ≡ last_number n (map epoch_of commits)
last_committed n [] = refl
last_committed n (c ∷ commits) = last_committed c.epoch commits

pub ranges : RangesAreHistories
ranges keep c store has =
    let base : store.layout.base_epoch ≡ c.setting.entry.layout.base_epoch = ap (λ (e : LayoutEntry). e.layout.base_epoch) has.layout in (
      base,
      ap (λ (n : ℕ). last_of n store.epochs.items) base ∙ ap (last_of c.setting.entry.layout.base_epoch) has.epochs ∙ last_committed c.setting.entry.layout.base_epoch c.commits,
    )

-- ---- their Dones

module _ (n last : ℕ) where
  abbrev pub is_between : Done → Bool
  is_between d = nat_lt n d.epoch && nat_le d.epoch last

  of_one : (e : Epoch) → n < e.number → (d : Done) → d.epoch ≡ e.number → is_between d ≡ nat_le e.number last
  of_one e less d same = ap (λ (k : ℕ). nat_lt n k && nat_le k last) same ∙ ap (λ (b : Bool). b && nat_le e.number last) (lt-ltb n e.number less)

  joined : (b : Bool) (e : Epoch) (es : List Epoch) → cond b e.dones [] ++ dones_in es ≡ dones_in (cond b (e ∷ es) es)
  joined true e es = refl
  joined false e es = refl

  of_epochs : (es : List Epoch) → AllByRecursion (λ (e : Epoch). n < e.number) es → HaveTheirNumbers es → between n last (dones_in es) ≡ dones_in (filter (λ (e : Epoch). nat_le e.number last) es)
  of_epochs [] less numbered = refl
  of_epochs (e ∷ es) less numbered =
      filter-append is_between e.dones (dones_in es)
      ∙ ap (λ (ds : List Done). ds ++ between n last (dones_in es))
      (filter_by is_between (nat_le e.number last) e.dones (all_weaker (λ (d : Done). d.epoch ≡ e.number) (λ (d : Done). is_between d ≡ nat_le e.number last) (of_one e less.0) e.dones numbered.0))
      ∙ ap (λ (ds : List Done). cond (nat_le e.number last) e.dones [] ++ ds) (of_epochs es less.1 numbered.1)
      ∙ joined (nat_le e.number last) e (filter (λ (x : Epoch). nat_le x.number last) es)

  not_early : (d : Done) → d.epoch ≤ n → is_between d ≡ false
  not_early d early = ap (λ (b : Bool). b && nat_le d.epoch last) (not_above d.epoch early)
    where
      not_above : (k : ℕ) → k ≤ n → nat_lt n k ≡ false
      not_above k le = grind (arith, nat_tests)

-- ---- a good store's

module _ (s : Setting) where
  abbrev Early : Done → Type 0
  Early d = d.epoch ≤ s.entry.layout.base_epoch

  early : (files : Files) (entries : List BaseEntry) (file : Option ℕ) → HoldsBase files s entries file → AllByRecursion Early (kept_dones entries)
  early files entries None is = subst (λ (es : List BaseEntry). AllByRecursion Early (kept_dones es)) (sym is) tt
  early files entries (Some file) is =
      flat_all Early dones_of entries (each_all (IsNextBase s) (λ (e : BaseEntry). AllByRecursion Early (dones_of e))
      (λ before e next. each_all (IsKeptDone s) Early (λ _ d is. is.epoch.1) (kept_dones before) (dones_of e) next.dones) [] entries is.1.each)

module _ (files : Files) (c : Contents) (good : IsGoodStore files c) (store : Opened) (has : Has None c store) where
  abbrev base : ℕ
  base = c.setting.entry.layout.base_epoch

  abbrev history : History
  history = history_of c

  layout_is : store.layout.base_epoch ≡ base
  layout_is = ap (λ (e : LayoutEntry). e.layout.base_epoch) has.layout

  dones_are : (epoch : ℕ) → between store.layout.base_epoch epoch store.kept.dones ≡ epoch_dones (up_to epoch history)
  dones_are epoch =
      ap (λ (n : ℕ). between n epoch store.kept.dones) layout_is
      ∙ ap (between base epoch) (has.dones ∙ kept_all (all_dones (with_keep None history)))
      ∙ filter-append (is_between base epoch) (kept_dones c.base) (epoch_dones history)
      ∙ ap (λ (ds : List Done). ds ++ between base epoch (epoch_dones history))
      (filter_by (is_between base epoch) false (kept_dones c.base)
      (all_weaker (Early c.setting) (λ (d : Done). is_between base epoch d ≡ false) (not_early base epoch) (kept_dones c.base) (early c.setting files c.base c.setting.entry.base_file good.holds.history.base)))
      ∙ of_epochs base epoch history.epochs (above base history.epochs good.ordered.epochs_rise) good.ordered.numbered

  -- the calls of the epochs up to one, run on the base's rows, leave the map of the history up to it
  pub map_is : (epoch : ℕ) (rows : Rows) → rows ≡ rows_after store.procs (put_over empty (puts (flat_map (λ (list : List (RowKey × Value)). list) store.base.items))) (between store.layout.base_epoch epoch store.kept.dones)
      → rows ≡ map_of c.setting.tree (up_to epoch history)
  map_is epoch rows is =
      is ∙ ap (λ (ps : Procedures). rows_after ps (put_over empty (puts (flat_map (λ list. list) store.base.items))) (between store.layout.base_epoch epoch store.kept.dones)) has.procs
      ∙ ap (λ (values : List (RowKey × Value)). rows_after c.setting.tree (put_over empty (puts values)) (between store.layout.base_epoch epoch store.kept.dones)) has.base
      ∙ ap (rows_after c.setting.tree history.base.rows) (dones_are epoch)
