-- A node's prepared epochs beside the committed ones, and its rows.
use Rattle.std.proofs.Common.{◌≡◌, ℕ, zero, suc, ◌+◌, ◌<◌, ◌≤◌, Bool, true, false, ◌&&◌, ◌||◌, nat_eq, nat_lt, eqb, List, [], ◌∷◌, ◌++◌, length, take, drop, get_or, refl, sym, ap, subst, ◌∙◌, arith, append_assoc, append-nil, length-drop, take-append-drop}
use Rattle.std.specs.Prelude.{◌↔◌, IsTrue}
use Rattle.std.specs.Bool.{MatchBool, OnFalse, OnTrue}
use Rattle.std.specs.List.{AllByRecursion, flat_map, sum_by}
use Rattle.std.specs.Set.{is_member}
use Rattle.std.proofs.lemmas.Bool.{eq-eqb, lt-ltb}
use Rattle.std.proofs.lemmas.Bool.Decides.{nat_tests}
use Rattle.std.proofs.lemmas.List.{drop_more, length-take-le, map-append}
use Rattle.std.proofs.lemmas.List.Folds.{list_any-append}
use Rattle.coco_types.specs.RowKey.{partition_of}
use Rattle.coco_ast.specs.History.{RisesAbove}
use Rattle.coco_ast.proofs.Lists.{all_append, all_left, all_right, all_weaker}
use Rattle.coco_entry.specs.Rows.{prepared_bytes, row_bytes}
use Rattle.coco_entry.specs.declared.prepared.Prepared.{Prepared}
use Rattle.coco_entry.specs.declared.prepared.Row.{Row}
use Rattle.coco_store.specs.Placement.{IsHeldBy}
use Rattle.coco_store.specs.Refusals.{IsFirst, ItemBreaks, PreparedBreaks, bad_prepared_epoch, bad_row}
use Rattle.coco_store.specs.Rules.{EachBehind, HasTable, IsNextEpoch, IsNodeRow, Setting, prepared_epochs}
use Rattle.coco_rules.specs.Behind.{greatest}
use Rattle.coco_rules.specs.Judged.{IsFirstBroken}
use Rattle.coco_rules.specs.Readying.{AreAmong, IsBehindPrepared}
use Rattle.coco_rules.specs.declared.prepared.NodeRules.{NodeRules}
use Rattle.coco_rules.proofs.EpochLemmas.{all_below, greatest_more}
use Rattle.coco_rules.proofs.JudgedLemmas.{first_place, len_ahead, len_front}

-- ---- numbers among others

apart : (xs : List ℕ) (x : ℕ) → AllByRecursion (λ y. nat_eq x y ≡ false) xs → is_member nat_eq xs x ≡ false
apart [] x all = refl
apart (y ∷ xs) x all = neither (nat_eq x y) (is_member nat_eq xs x) all.0 (apart xs x all.1)
  where
    neither : (a b : Bool) → a ≡ false → b ≡ false → a || b ≡ false
    neither true b e f = e
    neither false b e f = f

over : (x y : ℕ) → y < x → nat_eq x y ≡ false
over x y less = grind (arith, nat_tests)

under : (x y : ℕ) → x < y → nat_eq x y ≡ false
under x y less = grind (arith, nat_tests)

in_left : (xs ys : List ℕ) (x : ℕ) → is_member nat_eq xs x ≡ true → is_member nat_eq (xs ++ ys) x ≡ true
in_left xs ys x h = list_any-append (nat_eq x) xs ys ∙ on_left (is_member nat_eq xs x) (is_member nat_eq ys x) h
  where
    on_left : (a b : Bool) → a ≡ true → a || b ≡ true
    on_left true b e = refl
    on_left false b e = let no : false ≡ true = e in cc

in_right : (xs ys : List ℕ) (x : ℕ) → is_member nat_eq ys x ≡ true → is_member nat_eq (xs ++ ys) x ≡ true
in_right xs ys x h = list_any-append (nat_eq x) xs ys ∙ on_right (is_member nat_eq xs x) (is_member nat_eq ys x) h
  where
    on_right : (a b : Bool) → b ≡ true → a || b ≡ true
    on_right true b e = refl
    on_right false b e = e

only_left : (xs ys : List ℕ) (x : ℕ) → is_member nat_eq ys x ≡ false → is_member nat_eq (xs ++ ys) x ≡ true → is_member nat_eq xs x ≡ true
only_left xs ys x absent h = left (is_member nat_eq xs x) (is_member nat_eq ys x) absent (sym (list_any-append (nat_eq x) xs ys) ∙ h)
  where
    left : (a b : Bool) → b ≡ false → a || b ≡ true → a ≡ true
    left true b f e = refl
    left false b f e = sym f ∙ e

here : (x : ℕ) → is_member nat_eq (x ∷ []) x ≡ true
here x = first (nat_eq x x) (eq-eqb x x refl)
  where
    first : (a : Bool) → a ≡ true → a || false ≡ true
    first true e = refl
    first false e = e

-- ---- numbers that rise

all_above : (n : ℕ) (xs : List ℕ) → RisesAbove n xs → AllByRecursion (λ x. n < x) xs
all_above n [] rises = tt
all_above n (x ∷ xs) rises =
    let first : n < x = rises.0 in
    (first, all_weaker (λ y. x < y) (λ y. n < y) (λ y h. omega (arith, first, h)) xs (all_above x xs rises.1))

lower : (n m : ℕ) (xs : List ℕ) → n ≤ m → RisesAbove m xs → RisesAbove n xs
lower n m [] le rises = tt
lower n m (x ∷ xs) le rises = let first : m < x = rises.0 in (omega (arith, le, first), rises.1)

rises_right : (n : ℕ) (xs ys : List ℕ) → RisesAbove n (xs ++ ys) → RisesAbove n ys
rises_right n [] ys rises = rises
rises_right n (x ∷ xs) ys rises = let first : n < x = rises.0 in lower n x ys (omega (arith, first)) (rises_right x xs ys rises.1)

at_most_greatest : (n : ℕ) (xs : List ℕ) → AllByRecursion (λ x. x ≤ greatest n xs) xs
at_most_greatest n xs = all_weaker (λ x. x < greatest n xs + 1) (λ x. x ≤ greatest n xs) (λ x h. omega (arith, h)) xs (all_below n xs (greatest n xs + 1) (omega arith)).1

-- ---- which of the committed epochs lack an entry

-- an entry more: those between it and the one before lack theirs
lacking_more : (epochs gone lows more : List ℕ) (last epoch : ℕ) (old new : Bool) → AllByRecursion (λ x. x ≤ last) epochs → AllByRecursion (λ x. x ≤ last) gone → last < epoch
    → AllByRecursion (λ x. last < x) lows → AllByRecursion (λ x. x < epoch) lows → AreAmong (epochs ++ epoch ∷ []) more → new ≡ (old || nat_lt 0 (length lows)) → (old ≡ false) ↔ AreAmong epochs gone
    → (new ≡ false) ↔ AreAmong (epochs ++ epoch ∷ []) (gone ++ (lows ++ more))
lacking_more epochs gone lows more last epoch old new some few less up down among is was = (λ e. forth lows e is, λ all. back lows up down is all)
  where
    grown : AreAmong epochs gone → AreAmong (epochs ++ epoch ∷ []) gone
    grown all = all_weaker (λ x. is_member nat_eq epochs x ≡ true) (λ x. is_member nat_eq (epochs ++ epoch ∷ []) x ≡ true) (λ x h. in_left epochs (epoch ∷ []) x h) gone all

    shrunk : (xs : List ℕ) → AllByRecursion (λ x. x ≤ last) xs → AreAmong (epochs ++ epoch ∷ []) xs → AreAmong epochs xs
    shrunk [] few all = tt
    shrunk (x ∷ xs) few all =
        let low : x ≤ last = few.0 in
        (only_left epochs (epoch ∷ []) x (apart (epoch ∷ []) x (under x epoch (omega (arith, low, less)), tt)) all.0, shrunk xs few.1 all.1)

    or_nothing : (a b : Bool) → new ≡ (a || b) → b ≡ false → new ≡ a
    or_nothing true b e f = e
    or_nothing false b e f = e ∙ f

    or_some : (a b : Bool) → new ≡ (a || b) → b ≡ true → new ≡ true
    or_some true b e f = e
    or_some false b e f = e ∙ f

    forth : (ls : List ℕ) → new ≡ false → new ≡ (old || nat_lt 0 (length ls)) → AreAmong (epochs ++ epoch ∷ []) (gone ++ (ls ++ more))
    forth [] e is = all_append (λ x. is_member nat_eq (epochs ++ epoch ∷ []) x ≡ true) gone more (grown (was.0 (sym (or_nothing old (nat_lt 0 0) is refl) ∙ e))) among
    forth (x ∷ ls) e is =
        let no : true ≡ false = sym (or_some old (nat_lt 0 (length (x ∷ ls))) is (lt-ltb 0 (length (x ∷ ls)) (omega arith))) ∙ e in
        cc

    back : (ls : List ℕ) → AllByRecursion (λ x. last < x) ls → AllByRecursion (λ x. x < epoch) ls → new ≡ (old || nat_lt 0 (length ls)) → AreAmong (epochs ++ epoch ∷ []) (gone ++ (ls ++ more)) → new ≡ false
    back [] up down is all =
        or_nothing old (nat_lt 0 0) is refl ∙ was.1 (shrunk gone few (all_left (λ x. is_member nat_eq (epochs ++ epoch ∷ []) x ≡ true) gone more all))
    back (x ∷ ls) up down is all =
        let high : last < x = up.0 in
        let low : x < epoch = down.0 in
        let rest = all_right (λ y. is_member nat_eq (epochs ++ epoch ∷ []) y ≡ true) gone ((x ∷ ls) ++ more) all in
        let not_in : is_member nat_eq epochs x ≡ false = apart epochs x (all_weaker (λ y. y ≤ last) (λ y. nat_eq x y ≡ false) (λ y h. over x y (omega (arith, h, high))) epochs some) in
        let is_in : is_member nat_eq epochs x ≡ true = only_left epochs (epoch ∷ []) x (apart (epoch ∷ []) x (under x epoch low, tt)) rest.0 in
        let no : true ≡ false = sym is_in ∙ not_in in
        cc

-- ---- an entry more

epochs_more : (before : List Prepared) (entry : Prepared) → prepared_epochs (before ++ entry ∷ []) ≡ prepared_epochs before ++ entry.epoch ∷ []
epochs_more before entry = map-append (λ (e : Prepared). e.epoch) before (entry ∷ [])

module _ (s : Setting) (committed : List ℕ) (before : List Prepared) (entry : Prepared) (old new : NodeRules) (was : IsBehindPrepared s committed before old) (less : old.last_epoch < entry.epoch)
    (lows : List ℕ) (down : AllByRecursion (λ x. x < entry.epoch) lows) (lacks : new.is_lacking ≡ (old.is_lacking || nat_lt 0 (length lows))) (last : new.last_epoch ≡ entry.epoch) where
  some : AllByRecursion (λ x. x ≤ old.last_epoch) (prepared_epochs before)
  some = subst (λ n. AllByRecursion (λ x. x ≤ n) (prepared_epochs before)) (sym was.last_epoch) (at_most_greatest s.entry.layout.base_epoch (prepared_epochs before))

  newest_is : new.last_epoch ≡ greatest s.entry.layout.base_epoch (prepared_epochs (before ++ entry ∷ []))
  newest_is =
      last
      ∙ sym (ap (greatest s.entry.layout.base_epoch) (epochs_more before entry) ∙ greatest_more s.entry.layout.base_epoch (prepared_epochs before) entry.epoch (subst (λ n. n < entry.epoch) was.last_epoch less))

  low_all : AllByRecursion (λ x. x ≤ new.last_epoch) (was.gone ++ lows)
  low_all =
      all_append (λ x. x ≤ new.last_epoch) was.gone lows (all_weaker (λ x. x ≤ old.last_epoch) (λ x. x ≤ new.last_epoch) (λ x h. omega (arith, h, less, last)) was.gone was.passed)
      (all_weaker (λ x. x < entry.epoch) (λ x. x ≤ new.last_epoch) (λ x h. omega (arith, h, last)) lows down)

  apart_front : AllByRecursion (λ y. nat_eq entry.epoch y ≡ false) (was.gone ++ lows)
  apart_front =
      all_append (λ y. nat_eq entry.epoch y ≡ false) was.gone lows
      (all_weaker (λ x. x ≤ old.last_epoch) (λ y. nat_eq entry.epoch y ≡ false) (λ y h. over entry.epoch y (omega (arith, h, less))) was.gone was.passed)
      (all_weaker (λ x. x < entry.epoch) (λ y. nat_eq entry.epoch y ≡ false) (λ y h. over entry.epoch y h) lows down)

  -- the entry's epoch is the next of the committed ones
  pub with_committed : (tail : List ℕ) → old.coming.now ≡ lows ++ entry.epoch ∷ tail → new.coming.now ≡ tail → IsBehindPrepared s committed (before ++ entry ∷ []) new × (true ≡ is_member nat_eq committed entry.epoch)
  with_committed tail cut rest = (
    record {
      last_epoch = newest_is;
      gone = was.gone ++ (lows ++ entry.epoch ∷ []);
      cut = whole ∙ ap (λ (l : List ℕ). (was.gone ++ (lows ++ entry.epoch ∷ [])) ++ l) (sym rest);
      passed = subst (AllByRecursion (λ x. x ≤ new.last_epoch)) (append_assoc was.gone lows (entry.epoch ∷ [])) (all_append (λ x. x ≤ new.last_epoch) (was.gone ++ lows) (entry.epoch ∷ []) low_all (omega (arith, last), tt));
      rises = subst (λ n. RisesAbove n new.coming.now) (sym last) (subst (RisesAbove entry.epoch) (sym rest) onward.1);
      lacking =
          subst (λ (l : List ℕ). (new.is_lacking ≡ false) ↔ AreAmong l (was.gone ++ (lows ++ entry.epoch ∷ []))) (sym (epochs_more before entry))
          (lacking_more (prepared_epochs before) was.gone lows (entry.epoch ∷ []) old.last_epoch entry.epoch old.is_lacking new.is_lacking some was.passed less up down
          (in_right (prepared_epochs before) (entry.epoch ∷ []) entry.epoch (here entry.epoch), tt) lacks was.lacking);
    },
    sym (ap (λ (l : List ℕ). is_member nat_eq l entry.epoch) whole ∙ in_left (was.gone ++ (lows ++ entry.epoch ∷ [])) tail entry.epoch (in_right was.gone (lows ++ entry.epoch ∷ []) entry.epoch (in_right lows (entry.epoch ∷ []) entry.epoch (here entry.epoch)))),
  )
    where
      whole : committed ≡ (was.gone ++ (lows ++ entry.epoch ∷ [])) ++ tail
      whole =
          was.cut ∙ ap (λ (l : List ℕ). was.gone ++ l) (cut ∙ sym (append_assoc lows (entry.epoch ∷ []) tail))
          ∙ sym (append_assoc was.gone (lows ++ entry.epoch ∷ []) tail)

      rising : RisesAbove old.last_epoch (lows ++ entry.epoch ∷ tail)
      rising = subst (RisesAbove old.last_epoch) cut was.rises

      up : AllByRecursion (λ x. old.last_epoch < x) lows
      up = all_left (λ x. old.last_epoch < x) lows (entry.epoch ∷ tail) (all_above old.last_epoch (lows ++ entry.epoch ∷ tail) rising)

      onward : RisesAbove old.last_epoch (entry.epoch ∷ tail)
      onward = rises_right old.last_epoch lows (entry.epoch ∷ tail) rising

  -- it is none of the committed ones
  pub without_committed : (rest : List ℕ) → old.coming.now ≡ lows ++ rest → new.coming.now ≡ rest → RisesAbove entry.epoch rest
      → IsBehindPrepared s committed (before ++ entry ∷ []) new × (false ≡ is_member nat_eq committed entry.epoch)
  without_committed rest cut is onward = (
    record {
      last_epoch = newest_is;
      gone = was.gone ++ lows;
      cut = whole ∙ ap (λ (l : List ℕ). (was.gone ++ lows) ++ l) (sym is);
      passed = low_all;
      rises = subst (λ n. RisesAbove n new.coming.now) (sym last) (subst (RisesAbove entry.epoch) (sym is) onward);
      lacking =
          subst (λ (l : List ℕ). (new.is_lacking ≡ false) ↔ AreAmong l (was.gone ++ lows)) (sym (epochs_more before entry))
          (subst (λ (l : List ℕ). (new.is_lacking ≡ false) ↔ AreAmong (prepared_epochs before ++ entry.epoch ∷ []) (was.gone ++ l)) (append-nil lows)
          (lacking_more (prepared_epochs before) was.gone lows [] old.last_epoch entry.epoch old.is_lacking new.is_lacking some was.passed less up down tt lacks was.lacking));
    },
    sym (ap (λ (l : List ℕ). is_member nat_eq l entry.epoch) whole
        ∙ apart ((was.gone ++ lows) ++ rest) entry.epoch
        (all_append (λ y. nat_eq entry.epoch y ≡ false) (was.gone ++ lows) rest apart_front (all_weaker (λ y. entry.epoch < y) (λ y. nat_eq entry.epoch y ≡ false) (λ y h. under entry.epoch y h) rest (all_above entry.epoch rest onward)))),
  )
    where
      whole : committed ≡ (was.gone ++ lows) ++ rest
      whole = was.cut ∙ ap (λ (l : List ℕ). was.gone ++ l) cut ∙ sym (append_assoc was.gone lows rest)

      up : AllByRecursion (λ x. old.last_epoch < x) lows
      up = all_left (λ x. old.last_epoch < x) lows rest (all_above old.last_epoch (lows ++ rest) (subst (RisesAbove old.last_epoch) cut was.rises))

-- ---- at which place the coming epochs are cut

pub all_take : (xs : List ℕ) (n e : ℕ) → n ≤ length xs → ((k : ℕ) → k < n → get_or xs k 0 < e) → AllByRecursion (λ x. x < e) (take n xs)
all_take [] zero e le below = tt
all_take [] (suc n) e le below = absurd (omega (arith, le))
all_take (x ∷ xs) zero e le below = tt
all_take (x ∷ xs) (suc n) e le below = (below 0 (omega arith), all_take xs n e (omega (arith, le)) (λ k lt. below (suc k) (omega (arith, lt))))

-- numbers that rise from an epoch on, and don't begin with it
onward : (last e : ℕ) (rest : List ℕ) → RisesAbove last rest → (0 < length rest → e ≤ get_or rest 0 0) → (0 < length rest → eqb (get_or rest 0 0) e ≡ false) → RisesAbove e rest
onward last e [] rises up other = tt
onward last e (x ∷ rest) rises up other =
    let most : e ≤ x = up (omega arith) in
    let apart_from : eqb x e ≡ false = other (omega arith) in
    let less : e < x = grind (arith, nat_tests) in
    (less, rises.1)

pub goes_on_to : (s : Setting) (committed : List ℕ) (before : List Prepared) (entry : Prepared) (old new : NodeRules) (n : ℕ) (rest : List ℕ) (is_next : Bool) → IsBehindPrepared s committed before old → old.last_epoch < entry.epoch
    → n ≤ length old.coming.now → ((k : ℕ) → k < n → get_or old.coming.now k 0 < entry.epoch) → (n < length old.coming.now → entry.epoch ≤ get_or old.coming.now n 0) → rest ≡ drop n old.coming.now
    → OnTrue is_next (rest ≡ entry.epoch ∷ new.coming.now) → OnFalse is_next (new.coming.now ≡ rest) → OnFalse is_next (0 < length rest → eqb (get_or rest 0 0) entry.epoch ≡ false)
    → new.is_lacking ≡ (old.is_lacking || nat_lt 0 n) → new.last_epoch ≡ entry.epoch → IsBehindPrepared s committed (before ++ entry ∷ []) new × (is_next ≡ is_member nat_eq committed entry.epoch)
goes_on_to s committed before entry old new n rest is_next was less within below next is there same other lacks last = go is_next there same other
  where
    down : AllByRecursion (λ x. x < entry.epoch) (take n old.coming.now)
    down = all_take old.coming.now n entry.epoch within below

    lacks_more : new.is_lacking ≡ (old.is_lacking || nat_lt 0 (length (take n old.coming.now)))
    lacks_more = lacks ∙ ap (λ m. old.is_lacking || nat_lt 0 m) (sym (length-take-le n old.coming.now within))

    cut : old.coming.now ≡ take n old.coming.now ++ rest
    cut = sym (take-append-drop n old.coming.now) ∙ ap (λ (l : List ℕ). take n old.coming.now ++ l) (sym is)

    rising : RisesAbove old.last_epoch rest
    rising = rises_right old.last_epoch (take n old.coming.now) rest (subst (RisesAbove old.last_epoch) cut was.rises)

    up : 0 < length rest → entry.epoch ≤ get_or rest 0 0
    up some =
        let few : n < length old.coming.now = omega (arith, some, ap length is, length-drop n old.coming.now) in
        let at : get_or rest 0 0 ≡ get_or old.coming.now n 0 = ap (λ (l : List ℕ). get_or l 0 0) (is ∙ drop_more old.coming.now n 0 few) in
        omega (arith, next few, at)

    go : (b : Bool) → OnTrue b (rest ≡ entry.epoch ∷ new.coming.now) → OnFalse b (new.coming.now ≡ rest) → OnFalse b (0 < length rest → eqb (get_or rest 0 0) entry.epoch ≡ false)
        → IsBehindPrepared s committed (before ++ entry ∷ []) new × (b ≡ is_member nat_eq committed entry.epoch)
    go true t f o =
        with_committed s committed before entry old new was less (take n old.coming.now) down lacks_more last new.coming.now (cut ∙ ap (λ (l : List ℕ). take n old.coming.now ++ l) t) refl
    go false t f o = without_committed s committed before entry old new was less (take n old.coming.now) down lacks_more last rest cut f (onward old.last_epoch entry.epoch rest rising up o)

-- ---- at the end

pub prepared_all : (s : Setting) (before : List Prepared) (committed : List ℕ) (node : NodeRules) → IsBehindPrepared s committed before node
    → (node.is_lacking ≡ false → length node.coming.now ≡ 0 → AreAmong (prepared_epochs before) committed) × (AreAmong (prepared_epochs before) committed → (node.is_lacking ≡ false) × (length node.coming.now ≡ 0))
prepared_all s before committed node behind = (λ full none. forth node.coming.now behind.cut full none, λ have. back node.coming.now behind.cut behind.rises have)
  where
    forth : (coming : List ℕ) → committed ≡ behind.gone ++ coming → node.is_lacking ≡ false → length coming ≡ 0 → AreAmong (prepared_epochs before) committed
    forth [] cut full none = subst (AreAmong (prepared_epochs before)) (sym (cut ∙ append-nil behind.gone)) (behind.lacking.0 full)
    forth (x ∷ coming) cut full none = absurd (omega (arith, none))

    back : (coming : List ℕ) → committed ≡ behind.gone ++ coming → RisesAbove node.last_epoch coming → AreAmong (prepared_epochs before) committed → (node.is_lacking ≡ false) × (length coming ≡ 0)
    back [] cut rises have = (behind.lacking.1 (subst (AreAmong (prepared_epochs before)) (cut ∙ append-nil behind.gone) have), refl)
    back (x ∷ coming) cut rises have =
        let all : AreAmong (prepared_epochs before) (behind.gone ++ x ∷ coming) = subst (AreAmong (prepared_epochs before)) cut have in
        let rest = all_right (λ y. is_member nat_eq (prepared_epochs before) y ≡ true) behind.gone (x ∷ coming) all in
        let high : node.last_epoch < x = rises.0 in
        let low = subst (λ n. AllByRecursion (λ y. y ≤ n) (prepared_epochs before)) (sym behind.last_epoch) (at_most_greatest s.entry.layout.base_epoch (prepared_epochs before)) in
        let not_in : is_member nat_eq (prepared_epochs before) x ≡ false =
        apart (prepared_epochs before) x (all_weaker (λ y. y ≤ node.last_epoch) (λ y. nat_eq x y ≡ false) (λ y h. over x y (omega (arith, h, high))) (prepared_epochs before) low) in
        let no : true ≡ false = sym rest.0 ∙ not_in in
        cc

-- ---- rows

pub node_row : (s : Setting) (n : ℕ) (row : Row) (held table : Bool) → (IsTrue held ↔ IsHeldBy s.entry.layout (partition_of s.entry.layout.partitions row.key) n) → (IsTrue table ↔ HasTable s row.key)
    → MatchBool (held && table) (IsNodeRow s n row) (¬ (IsNodeRow s n row))
node_row s n row true true h t = record { held = h.0 refl; table = t.0 refl }
node_row s n row true false h t = λ is. let no : false ≡ true = t.1 is.table in cc
node_row s n row false table h t = λ is. let no : false ≡ true = h.1 is.held in cc

pub each_row : (s : Setting) (n : ℕ) (before rows : List Row) → EachBehind (λ _. IsNodeRow s n) before rows → AllByRecursion (IsNodeRow s n) rows
each_row s n before [] each = tt
each_row s n before (row ∷ rows) each = (each.0, each_row s n (before ++ row ∷ []) rows each.1)

-- ---- the entry

pub first_prepared_epoch : (s : Setting) (n : ℕ) (before : List Prepared) (entry : Prepared) → ¬ (IsNextEpoch s.entry.layout.base_epoch (prepared_epochs before) entry.epoch) → IsFirst (PreparedBreaks s n before entry) 1
first_prepared_epoch s n before entry broken = record { refused = bad_prepared_epoch broken; least = least }
  where
    least : (b : ℕ) → PreparedBreaks s n before entry b → 1 ≤ b
    least b (bad_prepared_epoch _) = omega arith
    least b (bad_row _) = omega arith

pub rows_within : (entry : Prepared) (rows : List Row) (i : ℕ) → rows ≡ entry.rows → 13 + sum_by (λ r. length (row_bytes r)) (take i rows) ≤ length (prepared_bytes entry)
rows_within entry rows i is =
    let front : sum_by (λ r. length (row_bytes r)) (take i rows) ≤ length (flat_map row_bytes entry.rows) = subst (λ (l : List Row). sum_by (λ r. length (row_bytes r)) (take i rows) ≤ length (flat_map row_bytes l)) is (len_front row_bytes rows i) in
    omega (arith, front)

pub first_row : (s : Setting) (n : ℕ) (before : List Prepared) (entry : Prepared) (rows : List Row) (i len : ℕ) → rows ≡ entry.rows → len ≡ sum_by (λ r. length (row_bytes r)) (take i rows)
    → IsNextEpoch s.entry.layout.base_epoch (prepared_epochs before) entry.epoch → IsFirstBroken (λ _. IsNodeRow s n) [] rows i → IsFirst (PreparedBreaks s n before entry) (13 + len)
first_row s n before entry rows i len are is next b =
    subst (λ m. IsFirst (PreparedBreaks s n before entry) (13 + m)) (len_ahead (λ _. IsNodeRow s n) row_bytes [] rows i b ∙ sym is)
    (record { refused = bad_row (subst (λ (l : List Row). ItemBreaks (λ _. IsNodeRow s n) row_bytes [] l (length (flat_map row_bytes b.ahead))) are place.refused); least = least })
  where
    place : IsFirst (ItemBreaks (λ _. IsNodeRow s n) row_bytes [] rows) (length (flat_map row_bytes b.ahead))
    place = first_place (λ _. IsNodeRow s n) row_bytes [] rows i b

    least : (c : ℕ) → PreparedBreaks s n before entry c → 13 + length (flat_map row_bytes b.ahead) ≤ c
    least c (bad_prepared_epoch broken) = absurd (broken next)
    least c (bad_row {at = at} item) = omega (arith, place.least at (subst (λ (l : List Row). ItemBreaks (λ _. IsNodeRow s n) row_bytes [] l at) (sym are) item))
