-- Items that are put into the entries of a draft, so many to each.
use Rattle.std.proofs.Common.{◌≡◌, ℕ, ◌<◌, ◌≤◌, T, List, [], ◌∷◌, ◌++◌, length, map, Option, None, Some, refl, sym, ap, subst, ◌∙◌, append-nil, append_assoc, arith}
use Rattle.std.specs.Prelude.{⊤, ◌==◌, true, false}
use Rattle.std.specs.List.{AllByRecursion, flat_map}
use Rattle.std.proofs.lemmas.Bool.Decides.{nat_tests}
use Rattle.std.specs.FinMap.{entries, entries_sorted, is_sorted}
use Rattle.std.specs.FinMap.Entries.{below_all}
use Rattle.std.specs.declared.cmp.Ordering.TheVariants.{Less}
use Rattle.std.proofs.lemmas.List.{map-append}
use Rattle.std.proofs.lemmas.List.Concat.{flat_map-append}
use Rattle.coco_types.specs.RowKey.{RowKey, key_cmp}
use Rattle.coco_types.specs.declared.call.Done.{Done}
use Rattle.coco_types.specs.declared.value.Value.{Value}
use Rattle.coco_host.specs.Files.{Files}
use Rattle.coco_ast.specs.History.{IsBefore, IsRising}
use Rattle.coco_ast.specs.Keyed.{Rows}
use Rattle.coco_ast.proofs.Lists.{all_append}
use Rattle.coco_bytes.specs.Lists.{FitInTurn}
use Rattle.coco_entry.specs.Bases.{BaseRowRises, DoneRises}
use Rattle.coco_entry.specs.declared.base.BaseHead.{BaseHead}
use Rattle.coco_entry.specs.declared.base.TheConstants.{MOST_ITEMS}
use Rattle.coco_log.specs.Drafts.{Drafted, Drafts}
use Rattle.coco_store.specs.Entries.{BaseEntry, Dones, Head, IsBaseEntry, Values, base_bytes}
use Rattle.coco_ckpt.specs.Compacting.{AreCut, AreFullButLast}
use Rattle.coco_ckpt.specs.Writing.{DraftsBase, HasAdded, HasItems, HasPut}
use Rattle.coco_ckpt.proofs.Sorted.{below_each, left_of, right_of}

abbrev joined : {A : Type 0} → List (List A) → List A
joined = flat_map (λ xs. xs)

-- ---- lists

module _ {A : Type 0} where
  pub no_items : (xs : List A) → length xs ≡ 0 → xs ≡ []
  no_items [] none = refl
  no_items (x ∷ xs) none = absurd (omega (arith, none))

  pub none_there : (xs : List A) → (length xs == 0) ≡ true → xs ≡ []
  none_there xs none = let e : length xs ≡ 0 = grind (arith, nat_tests) in no_items xs e

  pub some_there : (xs : List A) → (length xs == 0) ≡ false → 1 ≤ length xs
  some_there xs some = grind (arith, nat_tests)

  joined_push : (lists : List (List A)) (xs : List A) → joined (lists ++ xs ∷ []) ≡ joined lists ++ xs
  joined_push lists xs = flat_map-append (λ ys. ys) lists (xs ∷ []) ∙ ap (λ (l : List A). joined lists ++ l) (append-nil xs)

  full_cut : (n : ℕ) (lists : List (List A)) → 1 ≤ n → AllByRecursion (λ xs. length xs ≡ n) lists → AreFullButLast n lists
  full_cut n [] one full = tt
  full_cut n (xs ∷ []) one full = (omega (arith, one, full.0), omega (arith, full.0))
  full_cut n (xs ∷ ys ∷ lists) one full = (full.0, full_cut n (ys ∷ lists) one full.1)

  cut_push : (n : ℕ) (lists : List (List A)) (xs : List A) → AllByRecursion (λ ys. length ys ≡ n) lists → 1 ≤ length xs → length xs ≤ n → AreFullButLast n (lists ++ xs ∷ [])
  cut_push n [] xs full some few = (some, few)
  cut_push n (ys ∷ []) xs full some few = (full.0, (some, few))
  cut_push n (ys ∷ zs ∷ lists) xs full some few = (full.0, cut_push n (zs ∷ lists) xs full.1 some few)

-- ---- entries

module _ {A : Type 0} (entry_of : List A → BaseEntry) (items : List A) (bodies : List (List ℕ)) where
  more_bodies : (lists : List (List A)) (xs : List A) → (bodies ++ map base_bytes (map entry_of lists)) ++ base_bytes (entry_of xs) ∷ [] ≡ bodies ++ map base_bytes (map entry_of (lists ++ xs ∷ []))
  more_bodies lists xs =
      append_assoc bodies (map base_bytes (map entry_of lists)) (base_bytes (entry_of xs) ∷ [])
      ∙ ap (λ (l : List (List ℕ)). bodies ++ l) (sym (ap (map base_bytes) (map-append entry_of lists (xs ∷ [])) ∙ map-append base_bytes (map entry_of lists) (entry_of xs ∷ [])))

  more_entries : (lists : List (List A)) (xs : List A) → AllByRecursion IsBaseEntry (map entry_of lists) → IsBaseEntry (entry_of xs) → AllByRecursion IsBaseEntry (map entry_of (lists ++ xs ∷ []))
  more_entries lists xs are is = subst (AllByRecursion IsBaseEntry) (sym (map-append entry_of lists (xs ∷ []))) (all_append IsBaseEntry (map entry_of lists) (entry_of xs ∷ []) are (is, tt))

  -- nothing was put yet
  pub put_none : (draft : Drafted) (reads : Option Files) → Drafts draft bodies reads → HasPut entry_of items items bodies draft reads
  put_none draft reads drafts = record { lists = []; full = tt; joined = refl; are = tt; drafts = subst (λ (l : List (List ℕ)). Drafts draft l reads) (sym (append-nil bodies)) drafts }

  -- those that wait are all that is left
  pub put_last : (draft : Drafted) (reads : Option Files) (batch rest all : List A) → rest ≡ [] → all ≡ batch → HasPut entry_of items (batch ++ rest) bodies draft reads → HasPut entry_of items all bodies draft reads
  put_last draft reads batch rest all none same put =
      subst (λ (l : List A). HasPut entry_of items l bodies draft reads) (ap (λ (l : List A). batch ++ l) none ∙ append-nil batch ∙ sym same) put

  -- one more item waits
  pub put_waits : (draft : Drafted) (reads : Option Files) (batch rest : List A) (x : A) → HasPut entry_of items (batch ++ x ∷ rest) bodies draft reads → HasPut entry_of items ((batch ++ x ∷ []) ++ rest) bodies draft reads
  put_waits draft reads batch rest x put = subst (λ (l : List A). HasPut entry_of items l bodies draft reads) (sym (append_assoc batch (x ∷ []) rest)) put

  module _ (old new : Drafted) (before after : Option Files) where
    -- a full entry more
    pub put_full : (batch rest : List A) → length batch ≡ MOST_ITEMS → IsBaseEntry (entry_of batch) → ((bs : List (List ℕ)) → Drafts old bs before → Drafts new (bs ++ base_bytes (entry_of batch) ∷ []) after)
        → HasPut entry_of items (batch ++ rest) bodies old before → HasPut entry_of items rest bodies new after
    put_full batch rest long is adds put = record {
      lists = put.lists ++ batch ∷ [];
      full = all_append (λ (xs : List A). length xs ≡ MOST_ITEMS) put.lists (batch ∷ []) put.full (long, tt);
      joined = ap (λ (l : List A). l ++ rest) (joined_push put.lists batch) ∙ append_assoc (joined put.lists) batch rest ∙ put.joined;
      are = more_entries put.lists batch put.are is;
      drafts = subst (λ (l : List (List ℕ)). Drafts new l after) (more_bodies put.lists batch) (adds (bodies ++ map base_bytes (map entry_of put.lists)) put.drafts);
    }

    -- a last entry that isn't full
    pub added_last : (batch : List A) → 1 ≤ length batch → length batch ≤ MOST_ITEMS → IsBaseEntry (entry_of batch) → ((bs : List (List ℕ)) → Drafts old bs before → Drafts new (bs ++ base_bytes (entry_of batch) ∷ []) after)
        → HasPut entry_of items batch bodies old before → HasAdded entry_of items bodies new after
    added_last batch some few is adds put = record {
      lists = put.lists ++ batch ∷ [];
      cut = record { joined = joined_push put.lists batch ∙ put.joined; full = cut_push MOST_ITEMS put.lists batch put.full some few };
      are = more_entries put.lists batch put.are is;
      drafts = subst (λ (l : List (List ℕ)). Drafts new l after) (more_bodies put.lists batch) (adds (bodies ++ map base_bytes (map entry_of put.lists)) put.drafts);
    }

  -- nothing was left to be added
  pub added_all : (draft : Drafted) (reads : Option Files) (rest : List A) → rest ≡ [] → HasPut entry_of items rest bodies draft reads → HasAdded entry_of items bodies draft reads
  added_all draft reads rest none put = record {
    lists = put.lists;
    cut = record { joined = sym (append-nil (joined put.lists)) ∙ ap (λ (l : List A). joined put.lists ++ l) (sym none) ∙ put.joined; full = full_cut MOST_ITEMS put.lists (omega arith) put.full };
    are = put.are;
    drafts = put.drafts;
  }

-- ---- a base

-- entries of Dones, and then of rows
pub both_added : (dones : List Done) (rows : List (RowKey × Value)) (bodies : List (List ℕ)) (mid new : Drafted) (before after : Option Files) (added : HasAdded Dones dones bodies mid before)
    → HasAdded Values rows (bodies ++ map base_bytes (map Dones added.lists)) new after → HasItems dones rows bodies new after
both_added dones rows bodies mid new before after added more = record {
  dones_lists = added.lists;
  dones_cut = added.cut;
  rows_lists = more.lists;
  rows_cut = more.cut;
  are = all_append IsBaseEntry (map Dones added.lists) (map Values more.lists) added.are more.are;
  drafts = subst (λ (l : List (List ℕ)). Drafts new l after)
      (append_assoc bodies (map base_bytes (map Dones added.lists)) (map base_bytes (map Values more.lists))
      ∙ ap (λ (l : List (List ℕ)). bodies ++ l) (sym (map-append base_bytes (map Dones added.lists) (map Values more.lists)))) more.drafts;
}

-- a head, and then these
pub base_drafted : (head : BaseHead) (dones : List Done) (rows : List (RowKey × Value)) (draft : Drafted) (reads : Option Files) → head.dones ≡ length dones → head.rows ≡ length rows
    → HasItems dones rows (base_bytes (Head head) ∷ []) draft reads → IsBaseEntry (Head head) → DraftsBase head.epoch head.floor dones rows draft reads
base_drafted head dones rows draft reads dones_count rows_count has is = record {
  entries = Head head ∷ map Dones has.dones_lists ++ map Values has.rows_lists;
  is = record { dones_lists = has.dones_lists; dones_cut = has.dones_cut; rows_lists = has.rows_lists; rows_cut = has.rows_cut; are = ap (λ (h : BaseHead). Head h ∷ map Dones has.dones_lists ++ map Values has.rows_lists) (same_head head (length dones) (length rows) dones_count rows_count) };
  are = (is, has.are);
  drafts = has.drafts;
}
  where
    same_head : (h : BaseHead) (n m : ℕ) → h.dones ≡ n → h.rows ≡ m → h ≡ record { epoch = h.epoch; floor = h.floor; dones = n; rows = m }
    same_head h n m p q =
        ap (λ (k : ℕ). let c : BaseHead = record { epoch = h.epoch; floor = h.floor; dones = k; rows = h.rows } in c) p ∙ ap (λ (k : ℕ). let c : BaseHead = record { epoch = h.epoch; floor = h.floor; dones = n; rows = k } in c) q

-- ---- items that rise

module _ {A : Type 0} (Before : A → A → Type 0) (Rises : Option A → A → Type 0) (first : (x : A) → Rises None x) (next : (x y : A) → Before x y → Rises (Some x) y) where
  abbrev pub AreRising : List A → Type 0
  AreRising [] = ⊤
  AreRising (x ∷ xs) = AllByRecursion (Before x) xs × AreRising xs

  rising_behind : (xs ys : List A) → AreRising (xs ++ ys) → AreRising ys
  rising_behind [] ys rising = rising
  rising_behind (x ∷ xs) ys rising = rising_behind xs ys rising.1

  first_ones : (P : A → Type 0) (xs ys : List A) → AllByRecursion P (xs ++ ys) → AllByRecursion P xs
  first_ones P [] ys all = tt
  first_ones P (x ∷ xs) ys all = (all.0, first_ones P xs ys all.1)

  rising_front : (xs ys : List A) → AreRising (xs ++ ys) → AreRising xs
  rising_front [] ys rising = tt
  rising_front (x ∷ xs) ys rising = (first_ones (Before x) xs ys rising.0, rising_front xs ys rising.1)

  in_turn : (x : A) (xs : List A) → AllByRecursion (Before x) xs → AreRising xs → FitInTurn Rises (Some x) xs
  in_turn x [] above rising = tt
  in_turn x (y ∷ ys) above rising = (next x y above.0, in_turn y ys rising.0 rising.1)

  fits : (xs : List A) → AreRising xs → FitInTurn Rises None xs
  fits [] rising = tt
  fits (x ∷ xs) rising = (first x, in_turn x xs rising.0 rising.1)

  -- those of the next entry rise
  next_rise : (lists : List (List A)) (batch rest items : List A) → joined lists ++ (batch ++ rest) ≡ items → AreRising items → FitInTurn Rises None batch
  next_rise lists batch rest items is rising = fits batch (rising_front batch rest (rising_behind (joined lists) (batch ++ rest) (subst AreRising (sym is) rising)))

  pub batch_rises : (entry_of : List A → BaseEntry) (items batch rest : List A) (bodies : List (List ℕ)) (draft : Drafted) (reads : Option Files) → AreRising items
      → HasPut entry_of items (batch ++ rest) bodies draft reads → FitInTurn Rises None batch
  batch_rises entry_of items batch rest bodies draft reads rising put = next_rise put.lists batch rest items put.joined rising

-- Dones by epoch, time and id
abbrev pub RisingDones : List Done → Type 0
RisingDones = AreRising IsBefore DoneRises (λ x. tt) (λ x y before. before)

pub rising_dones : (ds : List Done) → IsRising ds → RisingDones ds
rising_dones [] rising = tt
rising_dones (d ∷ ds) rising = (rising.0, rising_dones ds rising.1)

pub dones_rise : (items batch rest : List Done) (bodies : List (List ℕ)) (draft : Drafted) (reads : Option Files) → IsRising items → HasPut Dones items (batch ++ rest) bodies draft reads → FitInTurn DoneRises None batch
dones_rise items batch rest bodies draft reads rising put =
    batch_rises IsBefore DoneRises (λ x. tt) (λ x y before. before) Dones items batch rest bodies draft reads (rising_dones items rising) put

-- rows by key
abbrev Row : Type 0
Row = RowKey × Value

abbrev pub IsBelow : Row → Row → Type 0
IsBelow x y = key_cmp x.0 y.0 ≡ Less

abbrev pub RisingRows : List Row → Type 0
RisingRows = AreRising IsBelow BaseRowRises (λ x. tt) (λ x y below. below)

pub rising_rows : (es : List Row) → T (is_sorted key_cmp es) → RisingRows es
rising_rows [] sorted = tt
rising_rows (e ∷ es) sorted = (
  below_each e.0 es (left_of (below_all key_cmp e.0 es) (is_sorted key_cmp es) sorted),
  rising_rows es (right_of (below_all key_cmp e.0 es) (is_sorted key_cmp es) sorted),
)

pub rows_rise : (m : Rows) (batch rest : List Row) (bodies : List (List ℕ)) (draft : Drafted) (reads : Option Files) → HasPut Values (entries m) (batch ++ rest) bodies draft reads → FitInTurn BaseRowRises None batch
rows_rise m batch rest bodies draft reads put =
    batch_rises IsBelow BaseRowRises (λ x. tt) (λ x y below. below) Values (entries m) batch rest bodies draft reads (rising_rows (entries m) (entries_sorted m)) put
