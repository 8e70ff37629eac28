-- What the two sources are: other nodes' files that have each committed epoch, and what is got of them.
use Rattle.std.proofs.Common.{◌≡◌, ◌≢◌, ◌⊎◌, inl, inr, ⊎_elim, ℕ, ◌<◌, ◌==◌, ◌&&◌, Bool, true, false, cond, nat_eq, List, [], ◌∷◌, filter, Option, Some, None, IfSome, is_some, refl, sym, subst, ◌∙◌, arith}
use Rattle.std.specs.Prelude.{IsSome, nat_le}
use Rattle.std.specs.List.{AllByRecursion}
use Rattle.std.specs.Set.{is_member}
use Rattle.std.proofs.lemmas.Bool.{eqb-true}
use Rattle.coco_types.specs.RowKey.{RowKey, partition_of}
use Rattle.coco_types.proofs.Keys.{keys_total}
use Rattle.coco_bytes.specs.Lists.{FitInTurn}
use Rattle.coco_host.specs.Files.{Files}
use Rattle.coco_entry.specs.declared.commit.Commit.{Commit}
use Rattle.coco_entry.specs.declared.layout.Layout.{Layout}
use Rattle.coco_entry.specs.declared.prepared.Prepared.{Prepared}
use Rattle.coco_entry.specs.declared.prepared.Row.{Row}
use Rattle.coco_entry.specs.Rows.{IsRow, RowRises}
use Rattle.coco_log.specs.Reading.{IsOf, IsReading, Reading}
use Rattle.coco_store.specs.Contents.{Contents}
use Rattle.coco_store.specs.Entries.{ArePrepared, prepared_kind}
use Rattle.coco_store.specs.Rules.{HavePrepared, commit_epochs, prepared_epochs}
use Rattle.coco_rebuild.specs.Rebuilding.{holder_behind, rows_at}
use Rattle.coco_rebuild.specs.Sources.{AreGot, AreOthers, HasEpoch, HaveOtherKeys, IsAfterSource, IsFirstSource, IsReadUpTo, file_at, gets, node_after, node_first, nodes_behind}
use Rattle.coco_rebuild.proofs.Goodness.{prepared_rise}
use Rattle.coco_rebuild.proofs.Grouping.{or_either}
use Rattle.coco_rebuild.proofs.Rebuilt.{after_other, first_other}

-- ---- other nodes' files

committed_there : (commits : List Commit) (xs : List Prepared) (k : ℕ) → HavePrepared xs commits → is_member nat_eq (commit_epochs commits) k ≡ true → is_member nat_eq (prepared_epochs xs) k ≡ true
committed_there [] xs k have is = let no : false ≡ true = is in cc
committed_there (c ∷ cs) xs k have is =
    or_either (nat_eq k c.epoch) (is_member nat_eq (commit_epochs cs) k) (is_member nat_eq (prepared_epochs xs) k ≡ true)
    (λ t. subst (λ (e : ℕ). is_member nat_eq (prepared_epochs xs) e ≡ true) (sym (eqb-true k c.epoch t)) have.0)
    (committed_there cs xs k have.1) is

module _ (layout : Layout) (node : ℕ) (epochs : List ℕ) (files : Files) (c : Contents) (others : AreOthers layout node epochs files c) (n : ℕ) (within : n < layout.nodes) (other : n ≢ node) where
  pub are_there : ArePrepared (c.prepared n) (files (file_at layout n))
  are_there =
      subst (λ (l : Layout). n < l.nodes → ArePrepared (c.prepared n) (files (file_at l n))) others.layout_is (λ less. (others.nodes n less other).are) within

  pub has_epoch : (epoch : ℕ) → is_member nat_eq epochs epoch ≡ true → HasEpoch (c.prepared n) epoch (files (file_at layout n))
  has_epoch epoch is =
      subst (λ (l : Layout). n < l.nodes → HasEpoch (c.prepared n) epoch (files (file_at l n))) others.layout_is
      (λ less. (let holds = others.nodes n less other in
      record {
        are = holds.are;
        base = c.setting.entry.layout.base_epoch;
        rise = prepared_rise c.setting n (c.prepared n) holds.each;
        there = committed_there c.commits (c.prepared n) epoch holds.committed (subst (λ (l : List ℕ). is_member nat_eq l epoch ≡ true) (sym others.epochs_are) is);
      })) within

pub not_none : (n : ℕ) → n ≢ 0 → 0 < n
not_none n other = omega (arith, other)

module _ (layout : Layout) (node : ℕ) (less : node < layout.nodes) (around : layout.copies < layout.nodes) (some : 0 < layout.copies) where
  pub after_is_other : node_after layout node ≢ node
  after_is_other = after_other layout.nodes node (omega (arith, some, around)) less

  pub first_is_other : node_first layout node ≢ node
  first_is_other = first_other layout.nodes layout.copies node some around less

-- nothing was read but the header
pub begun_at : (r : Reading) (all : List Prepared) (base : ℕ) (file : List ℕ) → IsReading r [] file → IsReadUpTo r all base file
begun_at r all base file reading = record { done = []; rest = all; are = refl; past = tt; reading = reading }

-- ---- a source that may be none

module _ (layout : Layout) (node : ℕ) where
  pub after_of : (s : Option Reading) → IsAfterSource layout node s → IfSome s (IsOf (file_at layout (node_after layout node)) prepared_kind)
  after_of None is = tt
  after_of (Some r) is = is.1

  pub first_of : (s : Option Reading) → IsFirstSource layout node s → IfSome s (IsOf (file_at layout (node_first layout node)) prepared_kind)
  first_of None is = tt
  first_of (Some r) is = is.2

  pub after_still : (s t : Option Reading) → IsAfterSource layout node s → is_some t ≡ is_some s → IfSome t (IsOf (file_at layout (node_after layout node)) prepared_kind) → IsAfterSource layout node t
  after_still None None is same of = is
  after_still None (Some r) is same of = let no : true ≡ false = same in cc
  after_still (Some r) None is same of = let no : false ≡ true = same in cc
  after_still (Some r) (Some q) is same of = (is.0, of)

  pub first_still : (s t : Option Reading) → IsFirstSource layout node s → is_some t ≡ is_some s → IfSome t (IsOf (file_at layout (node_first layout node)) prepared_kind) → IsFirstSource layout node t
  first_still None None is same of = is
  first_still None (Some r) is same of = let no : true ≡ false = same in cc
  first_still (Some r) None is same of = let no : false ≡ true = same in cc
  first_still (Some r) (Some q) is same of = (is.0, is.1, of)

  pub after_some : (s : Option Reading) → IsAfterSource layout node s → IsSome s → 0 < layout.copies
  after_some None is some = let no : false ≡ true = some in cc
  after_some (Some r) is some = is.0

  pub first_some : (s : Option Reading) → IsFirstSource layout node s → IsSome s → 0 < layout.copies
  first_some None is some = let no : false ≡ true = some in cc
  first_some (Some r) is some = is.0

  pub two : (s : Option Reading) → IsFirstSource layout node s → IsSome s → node_after layout node ≢ node_first layout node
  two None is some = let no : false ≡ true = some in cc
  two (Some r) is some = is.1

  some_after : (s : Option Reading) → IsAfterSource layout node s → 0 < layout.copies → IsSome s
  some_after None is some = let none : layout.copies ≡ 0 = is in absurd (omega (arith, none, some))
  some_after (Some r) is some = refl

  some_first : (s : Option Reading) → IsFirstSource layout node s → 0 < layout.copies → node_after layout node ≢ node_first layout node → IsSome s
  some_first None is some apart = ⊎_elim (λ (none : layout.copies ≡ 0). absurd (omega (arith, none, some))) (λ (one : node_after layout node ≡ node_first layout node). absurd (apart one)) is
  some_first (Some r) is some apart = refl

  -- the two lists
  pub are_got : (c : Contents) (epoch : ℕ) (after first : Option Reading) (xs ys : List Row) → IsAfterSource layout node after → IsFirstSource layout node first → (after ≡ None → xs ≡ []) → (first ≡ None → ys ≡ [])
      → (IsSome after → xs ≡ filter (λ r. gets layout node (node_after layout node) r.key) (rows_at epoch (c.prepared (node_after layout node))))
      → (IsSome first → ys ≡ filter (λ r. gets layout node (node_first layout node) r.key) (rows_at epoch (c.prepared (node_first layout node)))) → AreGot layout node c epoch xs ys
  are_got c epoch after first xs ys is_after is_first no_xs no_ys some_xs some_ys = record {
    after = λ some. some_xs (some_after after is_after some);
    first = λ some apart. some_ys (some_first first is_first some apart);
    none = λ none. (no_xs (none_after after is_after none), no_ys (none_first first is_first (inl none)));
    one = λ one. no_ys (none_first first is_first (inr one));
  }
    where
      none_after : (s : Option Reading) → IsAfterSource layout node s → layout.copies ≡ 0 → s ≡ None
      none_after None is none = refl
      none_after (Some r) is none = let some : 0 < layout.copies = is.0 in absurd (omega (arith, none, some))

      none_first : (s : Option Reading) → IsFirstSource layout node s → (layout.copies ≡ 0) ⊎ (node_after layout node ≡ node_first layout node) → s ≡ None
      none_first None is why = refl
      none_first (Some r) is why =
          let some : 0 < layout.copies = is.0 in
          ⊎_elim (λ (none : layout.copies ≡ 0). absurd (omega (arith, none, some))) (λ (one : node_after layout node ≡ node_first layout node). absurd (is.1 one)) why

  -- ---- keys

  and_right : (a b : Bool) → a && b ≡ true → b ≡ true
  and_right true b e = e
  and_right false b e = let no : false ≡ true = e in cc

  -- a partition is got from one node
  one_giver : (a b : ℕ) (key : RowKey) → gets layout node a key ≡ true → gets layout node b key ≡ true → a ≡ b
  one_giver a b key got also =
      let p : ℕ = partition_of layout.partitions key in
      let j : ℕ = nodes_behind layout p node in
      let h : ℕ = holder_behind layout p j in
      sym (eqb-true h a (and_right (nat_le j layout.copies) (h == a) got)) ∙ eqb-true h b (and_right (nat_le j layout.copies) (h == b) also)

  each_other : (a b : ℕ) (x : Row) (ys : List Row) → a ≢ b → gets layout node a x.key ≡ true → AllByRecursion (λ y. gets layout node b y.key ≡ true) ys → AllByRecursion (λ y. x.key ≢ y.key) ys
  each_other a b x [] apart got all = tt
  each_other a b x (y ∷ ys) apart got all =
      ((λ same. apart (one_giver a b y.key (subst (λ (k : RowKey). gets layout node a k ≡ true) same got) all.0)), each_other a b x ys apart got all.1)

  other_keys : (a b : ℕ) (xs ys : List Row) → a ≢ b → AllByRecursion (λ x. gets layout node a x.key ≡ true) xs → AllByRecursion (λ y. gets layout node b y.key ≡ true) ys → HaveOtherKeys xs ys
  other_keys a b [] ys apart all also = tt
  other_keys a b (x ∷ xs) ys apart all also = (each_other a b x ys apart all.0 also, other_keys a b xs ys apart all.1 also)

  no_keys : (xs : List Row) → HaveOtherKeys xs []
  no_keys [] = tt
  no_keys (x ∷ xs) = (tt, no_keys xs)

  pub got_apart : (first : Option Reading) (xs ys : List Row) → IsFirstSource layout node first → (first ≡ None → ys ≡ []) → AllByRecursion (λ x. gets layout node (node_after layout node) x.key ≡ true) xs
      → AllByRecursion (λ y. gets layout node (node_first layout node) y.key ≡ true) ys → HaveOtherKeys xs ys
  got_apart None xs ys is none all also = subst (HaveOtherKeys xs) (sym (none refl)) (no_keys xs)
  got_apart (Some r) xs ys is none all also = other_keys (node_after layout node) (node_first layout node) xs ys is.1 all also

-- ---- of rows that rise some are taken

pub got_each : (test : Row → Bool) (rows : List Row) → AllByRecursion (λ r. test r ≡ true) (filter test rows)
got_each test [] = tt
got_each test (r ∷ rs) =
    elim (test r) as (λ b. test r ≡ b → AllByRecursion (λ x. test x ≡ true) (cond b (r ∷ filter test rs) (filter test rs))) [
      | true ↦ λ t. (t, got_each test rs)
      | false ↦ λ f. got_each test rs
    ] refl

pub rises_in : (before : Option Row) (rows : List Row) → FitInTurn (λ b r. RowRises b r × IsRow r) before rows → FitInTurn RowRises before rows
rises_in before [] rise = tt
rises_in before (r ∷ rs) rise = (rise.0.0, rises_in (Some r) rs rise.1)

above_both : (before : Option Row) (r q : Row) → RowRises before r → RowRises (Some r) q → RowRises before q
above_both None r q low high = tt
above_both (Some b) r q low high = keys_total.trans b.key r.key q.key low high

without_one : (before : Option Row) (r : Row) (rs : List Row) → RowRises before r → FitInTurn RowRises (Some r) rs → FitInTurn RowRises before rs
without_one before r [] low rise = tt
without_one before r (q ∷ qs) low rise = (above_both before r q low rise.0, rise.1)

pub rises_got : (test : Row → Bool) (before : Option Row) (rows : List Row) → FitInTurn RowRises before rows → FitInTurn RowRises before (filter test rows)
rises_got test before [] rise = tt
rises_got test before (r ∷ rs) rise =
    elim (test r) as (λ b. FitInTurn RowRises before (cond b (r ∷ filter test rs) (filter test rs))) [
      | true ↦ (rise.0, rises_got test (Some r) rs rise.1)
      | false ↦ rises_got test before rs (without_one before r rs rise.0 rise.1)
    ]
