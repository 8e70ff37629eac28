-- What is remembered of a base file's entries decides which may come next.
use Rattle.std.proofs.Common.{◌≡◌, ℕ, ◌+◌, ◌-◌, ◌≤◌, Bool, true, false, leb, if◌then◌else◌, List, [], ◌∷◌, ◌++◌, length, take, Option, None, Some, refl, sym, ap, subst, ◌∙◌, arith, append-nil, length-append}
use Rattle.std.specs.Prelude.{◌↔◌, ◌&&◌, IsTrue, is_some}
use Rattle.std.specs.List.{AllByRecursion, flat_map, sum_by}
use Rattle.std.specs.Option.{option_map}
use Rattle.std.specs.Ordering.{is_lt}
use Rattle.std.specs.declared.cmp.Ordering.{Ordering}
use Rattle.std.specs.declared.cmp.Ordering.TheVariants.{Less, Equal, Greater}
use Rattle.std.proofs.lemmas.Bool.{eqb-true, eq-eqb, leb-true, le-leb, and_from}
use Rattle.std.proofs.lemmas.Bool.Decides.{nat_tests}
use Rattle.std.proofs.lemmas.List.Concat.{flat_map-append}
use Rattle.coco_types.specs.RowKey.{RowKey, key_cmp}
use Rattle.coco_types.specs.declared.call.Done.{Done}
use Rattle.coco_types.specs.declared.value.Value.{Value}
use Rattle.coco_types.proofs.Keys.{keys_total}
use Rattle.coco_ast.proofs.Lists.{all_append, all_weaker}
use Rattle.coco_bytes.specs.Lists.{last_item}
use Rattle.coco_bytes.proofs.ListLemmas.{last_item-push}
use Rattle.coco_entry.specs.Bases.{base_done_bytes, base_row_bytes}
use Rattle.coco_entry.specs.Rows.{key_rises}
use Rattle.coco_entry.specs.declared.base.BaseHead.{BaseHead}
use Rattle.coco_entry.specs.declared.base.TheConstants.{MOST_ITEMS}
use Rattle.coco_entry.proofs.GrammarLemmas.{both_true}
use Rattle.coco_store.specs.Entries.{BaseEntry, Head, Dones, Values, base_bytes}
use Rattle.coco_store.specs.Refusals.{BaseBreaks, IsFirst, ItemBreaks, bad_order, bad_kept_done, bad_value, order_place}
use Rattle.coco_store.specs.Rules.{IsKeptDone, IsNextValue, IsWhole, MayFollow, Setting, base_values, dones_of, floor_in, kept_dones, values_of}
use Rattle.coco_rules.specs.Basing.{EndsAtKey, IsBehindBase, IsToldBy, last_of, less_by, may_be_dones, may_be_rows}
use Rattle.coco_rules.specs.Behind.{IsBehind}
use Rattle.coco_rules.specs.Judged.{IsFirstBroken}
use Rattle.coco_rules.specs.Noting.{AreNoted}
use Rattle.coco_rules.specs.declared.base.BaseRules.{BaseRules}
use Rattle.coco_rules.specs.declared.base.LastEntry.{LastEntry}
use Rattle.coco_rules.specs.declared.commits.HistoryRules.{HistoryRules}
use Rattle.coco_rules.proofs.JudgedLemmas.{first_place, len_ahead, len_front}

-- ---- the order of entries

pub dones_may : (epoch : ℕ) (o : Option BaseEntry) (dones : List Done) → may_be_dones (option_map last_of o) ≡ true → MayFollow epoch o (Dones dones)
dones_may epoch None dones e = let w : false ≡ true = e in cc
dones_may epoch (Some (Head head)) dones e = tt
dones_may epoch (Some (Dones before)) dones e = eqb-true (length before) MOST_ITEMS e
dones_may epoch (Some (Values before)) dones e = let w : false ≡ true = e in cc

pub no_dones : (epoch : ℕ) (o : Option BaseEntry) (dones : List Done) → may_be_dones (option_map last_of o) ≡ false → ¬ (MayFollow epoch o (Dones dones))
no_dones epoch None dones e may = may
no_dones epoch (Some (Head head)) dones e may = let w : true ≡ false = e in cc
no_dones epoch (Some (Dones before)) dones e may = let w : true ≡ false = sym (eq-eqb (length before) MOST_ITEMS may) ∙ e in cc
no_dones epoch (Some (Values before)) dones e may = may

pub rows_may : (epoch : ℕ) (o : Option BaseEntry) (rows : List (RowKey × Value)) → may_be_rows (option_map last_of o) ≡ true → MayFollow epoch o (Values rows)
rows_may epoch None rows e = let w : false ≡ true = e in cc
rows_may epoch (Some (Head head)) rows e = tt
rows_may epoch (Some (Dones before)) rows e = tt
rows_may epoch (Some (Values before)) rows e = eqb-true (length before) MOST_ITEMS e

pub no_rows : (epoch : ℕ) (o : Option BaseEntry) (rows : List (RowKey × Value)) → may_be_rows (option_map last_of o) ≡ false → ¬ (MayFollow epoch o (Values rows))
no_rows epoch None rows e may = may
no_rows epoch (Some (Head head)) rows e may = let w : true ≡ false = e in cc
no_rows epoch (Some (Dones before)) rows e may = let w : true ≡ false = e in cc
no_rows epoch (Some (Values before)) rows e may = let w : true ≡ false = sym (eq-eqb (length before) MOST_ITEMS may) ∙ e in cc

-- ---- the place of the first broken rule

order_small : (o : Option BaseEntry) (e : BaseEntry) → order_place o e ≤ 1
order_small None (Head head) = omega arith
order_small None (Dones dones) = omega arith
order_small None (Values rows) = omega arith
order_small (Some before) e = omega arith

pub order_dones : (o : Option BaseEntry) (dones : List Done) → order_place o (Dones dones) ≡ 0
order_dones None dones = refl
order_dones (Some before) dones = refl

pub order_rows : (o : Option BaseEntry) (rows : List (RowKey × Value)) → order_place o (Values rows) ≡ 0
order_rows None rows = refl
order_rows (Some before) rows = refl

pub first_order : (s : Setting) (before : List BaseEntry) (e : BaseEntry) (at : ℕ) → order_place (last_item before) e ≡ at → ¬ (MayFollow s.entry.layout.base_epoch (last_item before) e) → IsFirst (BaseBreaks s before e) at
first_order s before e at is broken = record { refused = subst (BaseBreaks s before e) is (bad_order broken); least = least }
  where
    least : (b : ℕ) → BaseBreaks s before e b → at ≤ b
    least b (bad_order _) = omega (arith, is)
    least b (bad_kept_done _) = omega (arith, is, order_small (last_item before) e)
    least b (bad_value _) = omega (arith, is, order_small (last_item before) e)

no_item : {A : Type 0} (xs ys : List A) (x : A) → ◌≡◌ {A = List A} [] (xs ++ x ∷ ys) → ⊥
no_item xs ys x e = omega (arith, ap length e, length-append xs (x ∷ ys))

pub first_kept : (s : Setting) (before : List BaseEntry) (dones : List Done) (i n : ℕ) → n ≡ sum_by (λ d. length (base_done_bytes d)) (take i dones)
    → MayFollow s.entry.layout.base_epoch (last_item before) (Dones dones) → IsFirstBroken (IsKeptDone s) (kept_dones before) dones i → IsFirst (BaseBreaks s before (Dones dones)) (5 + n)
first_kept s before dones i n is may b =
    subst (λ m. IsFirst (BaseBreaks s before (Dones dones)) (5 + m)) (len_ahead (IsKeptDone s) base_done_bytes (kept_dones before) dones i b ∙ sym is) (record { refused = bad_kept_done place.refused; least = least })
  where
    place : IsFirst (ItemBreaks (IsKeptDone s) base_done_bytes (kept_dones before) dones) (length (flat_map base_done_bytes b.ahead))
    place = first_place (IsKeptDone s) base_done_bytes (kept_dones before) dones i b

    least : (c : ℕ) → BaseBreaks s before (Dones dones) c → 5 + length (flat_map base_done_bytes b.ahead) ≤ c
    least c (bad_order broken) = absurd (broken may)
    least c (bad_kept_done {at = at} item) = omega (arith, place.least at item)
    least c (bad_value item) = absurd (no_item item.ahead item.behind item.item item.is)

pub first_value : (s : Setting) (before : List BaseEntry) (rows : List (RowKey × Value)) (i n : ℕ) → n ≡ sum_by (λ r. length (base_row_bytes r)) (take i rows)
    → MayFollow s.entry.layout.base_epoch (last_item before) (Values rows) → IsFirstBroken (IsNextValue s) (base_values before) rows i → IsFirst (BaseBreaks s before (Values rows)) (5 + n)
first_value s before rows i n is may b =
    subst (λ m. IsFirst (BaseBreaks s before (Values rows)) (5 + m)) (len_ahead (IsNextValue s) base_row_bytes (base_values before) rows i b ∙ sym is) (record { refused = bad_value place.refused; least = least })
  where
    place : IsFirst (ItemBreaks (IsNextValue s) base_row_bytes (base_values before) rows) (length (flat_map base_row_bytes b.ahead))
    place = first_place (IsNextValue s) base_row_bytes (base_values before) rows i b

    least : (c : ℕ) → BaseBreaks s before (Values rows) c → 5 + length (flat_map base_row_bytes b.ahead) ≤ c
    least c (bad_order broken) = absurd (broken may)
    least c (bad_kept_done item) = absurd (no_item item.ahead item.behind item.item item.is)
    least c (bad_value {at = at} item) = omega (arith, place.least at item)

pub kept_within : (dones : List Done) (i : ℕ) → 5 + sum_by (λ d. length (base_done_bytes d)) (take i dones) ≤ length (base_bytes (Dones dones))
kept_within dones i = omega (arith, len_front base_done_bytes dones i)

pub values_within : (rows : List (RowKey × Value)) (i : ℕ) → 5 + sum_by (λ r. length (base_row_bytes r)) (take i rows) ≤ length (base_bytes (Values rows))
values_within rows i = omega (arith, len_front base_row_bytes rows i)

-- ---- what is left of what the head says

less_none : (o : Option ℕ) → less_by o 0 ≡ o
less_none None = refl
less_none (Some n) = ap (λ (b : Bool). if b then Some (n - 0) else None) (le-leb 0 n (omega arith)) ∙ ap Some (omega arith)

less_twice : (o : Option ℕ) (a b : ℕ) → less_by (less_by o a) b ≡ less_by o (a + b)
less_twice None a b = refl
less_twice (Some left) a b = go (leb a left) refl (leb (a + b) left) refl
  where
    go : (t : Bool) → leb a left ≡ t → (u : Bool) → leb (a + b) left ≡ u → less_by (if t then Some (left - a) else None) b ≡ (if u then Some (left - (a + b)) else None)
    go true e true f =
        let g : leb b (left - a) ≡ true = le-leb b (left - a) (omega (arith, leb-true a left e, leb-true (a + b) left f)) in
        ap (λ (c : Bool). if c then Some ((left - a) - b) else None) g ∙ ap Some (omega arith)
    go true e false f =
        let g : leb b (left - a) ≡ false = grind (arith, nat_tests) in
        ap (λ (c : Bool). if c then Some ((left - a) - b) else None) g
    go false e true f = let w : leb a left ≡ true = le-leb a left (omega (arith, leb-true (a + b) left f)) in let v : true ≡ false = sym w ∙ e in cc
    go false e false f = refl

zero_left : (n m : ℕ) → less_by (Some n) m ≡ Some 0 → n ≡ m
zero_left n m = go (leb m n) refl
  where
    go : (t : Bool) → leb m n ≡ t → (if t then Some (n - m) else None) ≡ Some 0 → n ≡ m
    go true e is = let at : n - m ≡ 0 = cc in omega (arith, at, leb-true m n e)
    go false e is = let w : ◌≡◌ {A = Option ℕ} None (Some 0) = is in cc

left_zero : (n m : ℕ) → n ≡ m → less_by (Some n) m ≡ Some 0
left_zero n m is = ap (λ (b : Bool). if b then Some (n - m) else None) (le-leb m n (omega (arith, is))) ∙ ap Some (omega (arith, is))

len_more : {A : Type 0} (of : BaseEntry → List A) (entries : List BaseEntry) (e : BaseEntry) → length (flat_map of entries) + length (of e) ≡ length (flat_map of (entries ++ e ∷ []))
len_more {A} of entries e =
    sym (ap length (flat_map-append of entries (e ∷ []) ∙ ap (λ (l : List A). flat_map of entries ++ l) (append-nil (of e))) ∙ length-append (flat_map of entries) (of e))

told_more : (before : List BaseEntry) (e : BaseEntry) (old new : BaseRules) → IsToldBy before old → ¬ (last_item before ≡ None) → new.floor ≡ old.floor → new.dones_left ≡ less_by old.dones_left (length (dones_of e))
    → new.rows_left ≡ less_by old.rows_left (length (values_of e)) → IsToldBy (before ++ e ∷ []) new
told_more [] e old new told some floor dones rows = absurd (some refl)
told_more (Head head ∷ entries) e old new told some floor dones rows = record {
  floor = floor ∙ told.floor;
  dones = dones ∙ ap (λ (o : Option ℕ). less_by o (length (dones_of e))) told.dones ∙ less_twice (Some head.dones) (length (kept_dones entries)) (length (dones_of e)) ∙ ap (less_by (Some head.dones)) (len_more dones_of entries e);
  rows = rows ∙ ap (λ (o : Option ℕ). less_by o (length (values_of e))) told.rows ∙ less_twice (Some head.rows) (length (base_values entries)) (length (values_of e)) ∙ ap (less_by (Some head.rows)) (len_more values_of entries e);
}
told_more (Dones _ ∷ entries) e old new told some floor dones rows = absurd told
told_more (Values _ ∷ entries) e old new told some floor dones rows = absurd told

more_of : {A : Type 0} (of : BaseEntry → List A) (before : List BaseEntry) (e : BaseEntry) → flat_map of before ++ of e ≡ flat_map of (before ++ e ∷ [])
more_of {A} of before e = sym (flat_map-append of before (e ∷ []) ∙ ap (λ (l : List A). flat_map of before ++ l) (append-nil (of e)))

-- ---- what is remembered then

pub behind_head : (s : Setting) (before : List BaseEntry) (head : BaseHead) (old new : BaseRules) → IsBehindBase s before old → old.last ≡ None → new.dones ≡ old.dones → new.base_epoch ≡ old.base_epoch
    → new.floor ≡ head.floor → new.last ≡ Some (last_of (Head head)) → new.dones_left ≡ Some head.dones → new.rows_left ≡ Some head.rows → new.last_key ≡ old.last_key → IsBehindBase s (before ++ Head head ∷ []) new
behind_head s [] head old new was none noted epoch floor last dones rows key = record {
  noted = subst (AreNoted s.entry.keep []) (sym noted) was.noted;
  base_epoch = epoch ∙ was.base_epoch;
  last = last;
  told = record { floor = floor; dones = dones ∙ sym (less_none (Some head.dones)); rows = rows ∙ sym (less_none (Some head.rows)) };
  key = subst (EndsAtKey []) (sym key) was.key;
}
behind_head s (e ∷ before) head old new was none noted epoch floor last dones rows key = absurd (some_last e before (sym was.last ∙ none))
  where
    some_last : (e : BaseEntry) (es : List BaseEntry) → ¬ (option_map last_of (last_item (e ∷ es)) ≡ None)
    some_last e [] is = cc
    some_last e (f ∷ es) is = some_last f es is

pub head_first : (before : List BaseEntry) → option_map last_of (last_item before) ≡ None → last_item before ≡ None
head_first before = go (last_item before)
  where
    go : (o : Option BaseEntry) → option_map last_of o ≡ None → o ≡ None
    go None is = refl
    go (Some e) is = cc

no_last : (o : Option LastEntry) → is_some o ≡ false → o ≡ None
no_last None e = refl
no_last (Some last) e = let w : true ≡ false = e in cc

pub not_begun : (s : Setting) (before : List BaseEntry) (rules : BaseRules) → IsBehindBase s before rules → is_some rules.last ≡ false → (last_item before ≡ None) × (rules.last ≡ None)
not_begun s before rules behind e =
    let none = no_last rules.last e in
    (head_first before (sym behind.last ∙ none), none)

pub no_head : (epoch : ℕ) (o : Option BaseEntry) (head : BaseHead) → ¬ (option_map last_of o ≡ None) → (¬ (MayFollow epoch o (Head head))) × (order_place o (Head head) ≡ 0)
no_head epoch None head some = absurd (some refl)
no_head epoch (Some e) head some = (λ may. may, refl)

pub behind_dones : (s : Setting) (before : List BaseEntry) (dones : List Done) (old new : BaseRules) → IsBehindBase s before old → MayFollow s.entry.layout.base_epoch (last_item before) (Dones dones)
    → AreNoted s.entry.keep (kept_dones before ++ dones) new.dones → new.base_epoch ≡ old.base_epoch → new.floor ≡ old.floor → new.last ≡ Some (last_of (Dones dones)) → new.dones_left ≡ less_by old.dones_left (length dones)
    → new.rows_left ≡ old.rows_left → new.last_key ≡ old.last_key → IsBehindBase s (before ++ Dones dones ∷ []) new
behind_dones s before dones old new was may noted epoch floor last left rows key = record {
  noted = subst (λ (l : List Done). AreNoted s.entry.keep l new.dones) (more_of dones_of before (Dones dones)) noted;
  base_epoch = epoch ∙ was.base_epoch;
  last = last ∙ ap (option_map last_of) (sym (last_item-push before (Dones dones)));
  told = told_more before (Dones dones) old new was.told (λ none. subst (λ o. MayFollow s.entry.layout.base_epoch o (Dones dones)) none may) floor left (rows ∙ sym (less_none old.rows_left));
  key = subst (λ (l : List (RowKey × Value)). EndsAtKey l new.last_key) (sym (append-nil (base_values before)) ∙ more_of values_of before (Dones dones)) (subst (EndsAtKey (base_values before)) (sym key) was.key);
}

pub behind_rows : (s : Setting) (before : List BaseEntry) (rows : List (RowKey × Value)) (old new : BaseRules) → IsBehindBase s before old → MayFollow s.entry.layout.base_epoch (last_item before) (Values rows)
    → EndsAtKey (base_values before ++ rows) new.last_key → new.dones ≡ old.dones → new.base_epoch ≡ old.base_epoch → new.floor ≡ old.floor → new.last ≡ Some (last_of (Values rows)) → new.dones_left ≡ old.dones_left
    → new.rows_left ≡ less_by old.rows_left (length rows) → IsBehindBase s (before ++ Values rows ∷ []) new
behind_rows s before rows old new was may key noted epoch floor last dones left = record {
  noted =
      subst (λ (l : List Done). AreNoted s.entry.keep l new.dones) (sym (append-nil (kept_dones before)) ∙ more_of dones_of before (Values rows)) (subst (AreNoted s.entry.keep (kept_dones before)) (sym noted) was.noted);
  base_epoch = epoch ∙ was.base_epoch;
  last = last ∙ ap (option_map last_of) (sym (last_item-push before (Values rows)));
  told = told_more before (Values rows) old new was.told (λ none. subst (λ o. MayFollow s.entry.layout.base_epoch o (Values rows)) none may) floor (dones ∙ sym (less_none old.dones_left)) left;
  key = subst (λ (l : List (RowKey × Value)). EndsAtKey l new.last_key) (more_of values_of before (Values rows)) key;
}

-- ---- the whole base

pub whole_base : (before : List BaseEntry) (rules : BaseRules) → IsToldBy before rules
    → (rules.dones_left ≡ Some 0 → rules.rows_left ≡ Some 0 → IsWhole before) × (IsWhole before → (rules.dones_left ≡ Some 0) × (rules.rows_left ≡ Some 0))
whole_base [] rules told = (λ d r. let w : ◌≡◌ {A = Option ℕ} None (Some 0) = sym told.dones ∙ d in cc, λ whole. absurd whole)
whole_base (Head head ∷ entries) rules told = (
  λ d r. (zero_left head.dones (length (kept_dones entries)) (sym told.dones ∙ d), zero_left head.rows (length (base_values entries)) (sym told.rows ∙ r)),
  λ whole. (told.dones ∙ left_zero head.dones (length (kept_dones entries)) whole.0, told.rows ∙ left_zero head.rows (length (base_values entries)) whole.1),
)
whole_base (Dones _ ∷ entries) rules told = absurd told
whole_base (Values _ ∷ entries) rules told = absurd told

floor_is : (before : List BaseEntry) (rules : BaseRules) → IsToldBy before rules → rules.floor ≡ floor_in before
floor_is [] rules told = told.floor
floor_is (Head head ∷ entries) rules told = told.floor
floor_is (Dones _ ∷ entries) rules told = absurd told
floor_is (Values _ ∷ entries) rules told = absurd told

pub history_behind : (s : Setting) (base : List BaseEntry) (rules : BaseRules) (history : HistoryRules) → IsBehindBase s base rules → history.dones ≡ rules.dones → history.floor ≡ rules.floor → history.last_epoch ≡ rules.base_epoch
    → IsBehind s base [] history
history_behind s base rules history was dones floor epoch = record {
  dones = record {
    noted = subst (λ (l : List Done). AreNoted s.entry.keep l history.dones) (sym (append-nil (kept_dones base))) (subst (AreNoted s.entry.keep (kept_dones base)) (sym dones) was.noted);
    floor = floor ∙ floor_is base rules was.told;
  };
  last_epoch = epoch ∙ was.base_epoch;
}

pub whole_so : (before : List BaseEntry) (rules : BaseRules) (dones rows both : Bool) → IsToldBy before rules → (IsTrue dones ↔ (rules.dones_left ≡ Some 0)) → (IsTrue rows ↔ (rules.rows_left ≡ Some 0)) → both ≡ (dones && rows)
    → IsTrue both ↔ IsWhole before
whole_so before rules dones rows both told d r is = (
  λ e. let two = both_true dones rows (sym is ∙ e) in (whole_base before rules told).0 (d.0 two.0) (r.0 two.1),
  λ whole. let two = (whole_base before rules told).1 whole in is ∙ and_from dones rows (d.1 two.0) (r.1 two.1),
)

-- ---- rows

less_is : (o : Ordering) → is_lt o ≡ true → o ≡ Less
less_is Less e = refl
less_is Equal e = cc
less_is Greater e = cc

pub row_rises : (before : List (RowKey × Value)) (last : Option RowKey) (key : RowKey) → EndsAtKey before last → key_rises last key ≡ true → AllByRecursion (λ r. key_cmp r.0 key ≡ Less) before
row_rises before None key ends e = subst (AllByRecursion (λ r. key_cmp r.0 key ≡ Less)) (sym ends) tt
row_rises before (Some last) key (front, row, is, at, all) e =
    let next : key_cmp last key ≡ Less = less_is (key_cmp last key) e in
    subst (AllByRecursion (λ r. key_cmp r.0 key ≡ Less)) (sym is)
    (all_append (λ r. key_cmp r.0 key ≡ Less) front (row ∷ []) (all_weaker (λ r. key_cmp r.0 last ≡ Less) (λ r. key_cmp r.0 key ≡ Less) (λ r h. keys_total.trans r.0 last key h next) front all) (ap (λ k. key_cmp k key) at ∙ next, tt))

pub ends_more : (before : List (RowKey × Value)) (row : RowKey × Value) → AllByRecursion (λ r. key_cmp r.0 row.0 ≡ Less) before → EndsAtKey (before ++ row ∷ []) (Some row.0)
ends_more before row all = (before, row, refl, refl, all)
