-- One entry more at the end of a file.
use Rattle.std.proofs.Common.{◌≡◌, ◌⊎◌, inl, inr, ℕ, ◌<◌, Bool, true, false, cond, ◌||◌, nat_eq, eqb, List, [], ◌∷◌, ◌++◌, filter, refl, sym, ap, subst, ◌∙◌, append-nil, append_assoc, arith}
use Rattle.std.specs.List.{AllByRecursion, flat_map}
use Rattle.std.specs.Set.{is_member}
use Rattle.std.proofs.lemmas.Bool.{eqb-true, eq-eqb}
use Rattle.std.proofs.lemmas.Bool.Decides.{nat_tests}
use Rattle.std.proofs.lemmas.List.{map-append}
use Rattle.std.proofs.lemmas.List.Concat.{flat_map-append}
use Rattle.std.proofs.lemmas.List.Elements.{filter-append}
use Rattle.std.proofs.lemmas.List.Folds.{list_any-append}
use Rattle.coco_types.specs.declared.call.Write.{Write}
use Rattle.coco_host.specs.Files.{Files}
use Rattle.coco_ast.specs.History.{Epoch, History, IsOrdered, IsSerial, followed_by, map_of}
use Rattle.coco_ast.specs.Keyed.{Rows, put_over, write_at}
use Rattle.coco_ast.proofs.Lists.{all_append, all_from_map, all_weaker}
use Rattle.coco_entry.specs.declared.commit.Commit.{Commit}
use Rattle.coco_entry.specs.declared.prepared.Prepared.{Prepared}
use Rattle.coco_entry.specs.Commits.{commit_bytes, IsCommit}
use Rattle.coco_entry.specs.Rows.{prepared_bytes, IsPrepared}
use Rattle.coco_log.specs.Grammar.{IsLog}
use Rattle.coco_store.specs.Placement.{IsHeldBy}
use Rattle.coco_store.specs.Contents.{Contents, Holds, HoldsNode, IsGoodStore, chief_of, committed_writes, epoch_of, file_of, history_of, map_in, on, rows_of, writes_on}
use Rattle.coco_store.specs.Entries.{commits_kind, prepared_kind}
use Rattle.coco_store.specs.Laws.{AfterCommit, AfterPrepared, GainsOne, KeepsLog, MayCommit, MayPrepare, MayGainOne, WhileCommitted, WhilePrepared, with_commit, with_prepared}
use Rattle.coco_store.specs.Rules.{EachBehind, HavePrepared, IsNextCommit, IsNextPrepared, Setting, base_of, commit_epochs, prepared_epochs}
use Rattle.coco_store.proofs.Keeping.{base_kept, commits_kept, layouts_kept, names, node_kept, store_kept}
use Rattle.coco_store.proofs.Logs.{log_gains, same_log}

-- ---- lists

module _ {A : Type 0} (Rule : List A → A → Type 0) where
  pub each_more : (before xs : List A) (x : A) → EachBehind Rule before xs → Rule (before ++ xs) x → EachBehind Rule before (xs ++ x ∷ [])
  each_more before [] x each next = (subst (λ (l : List A). Rule l x) (append-nil before) next, tt)
  each_more before (y ∷ xs) x each next = (each.0, each_more (before ++ y ∷ []) xs x each.1 (subst (λ (l : List A). Rule l x) (sym (append_assoc before (y ∷ []) xs)) next))

  pub each_at : (before xs : List A) (x : A) (ys : List A) → EachBehind Rule before (xs ++ x ∷ ys) → Rule (before ++ xs) x × EachBehind Rule ((before ++ xs) ++ x ∷ []) ys
  each_at before [] x ys each = subst (λ (l : List A). Rule l x × EachBehind Rule (l ++ x ∷ []) ys) (sym (append-nil before)) (each.0, each.1)
  each_at before (y ∷ xs) x ys each =
      subst (λ (l : List A). Rule l x × EachBehind Rule (l ++ x ∷ []) ys) (append_assoc before (y ∷ []) xs) (each_at (before ++ y ∷ []) xs x ys each.1)

-- ---- members

or_left : (a b : Bool) → a ≡ true → a || b ≡ true
or_left true b e = refl
or_left false b e = let no : false ≡ true = e in cc

or_right : (a b : Bool) → b ≡ true → a || b ≡ true
or_right true b e = refl
or_right false b e = e

neither : (a b : Bool) → a ≡ false → b ≡ false → a || b ≡ false
neither true b e f = e
neither false b e f = f

same_number : (x : ℕ) → nat_eq x x ≡ true
same_number x = grind (arith, nat_tests)

below_apart : (x y : ℕ) → x < y → nat_eq x y ≡ false
below_apart x y less = grind (arith, nat_tests)

above_apart : (x y : ℕ) → y < x → nat_eq x y ≡ false
above_apart x y less = grind (arith, nat_tests)

is_number : (x y : ℕ) → nat_eq x y ≡ true → x ≡ y
is_number x y e = grind (arith, nat_tests)

member_left : (xs ys : List ℕ) (x : ℕ) → is_member nat_eq xs x ≡ true → is_member nat_eq (xs ++ ys) x ≡ true
member_left xs ys x h = list_any-append (nat_eq x) xs ys ∙ or_left (is_member nat_eq xs x) (is_member nat_eq ys x) h

member_right : (xs ys : List ℕ) (x : ℕ) → is_member nat_eq ys x ≡ true → is_member nat_eq (xs ++ ys) x ≡ true
member_right xs ys x h = list_any-append (nat_eq x) xs ys ∙ or_right (is_member nat_eq xs x) (is_member nat_eq ys x) h

-- what is above all isn't among them
no_member : (xs : List ℕ) (x : ℕ) → AllByRecursion (λ y. y < x) xs → is_member nat_eq xs x ≡ false
no_member [] x all = refl
no_member (y ∷ xs) x all = neither (nat_eq x y) (is_member nat_eq xs x) (above_apart x y all.0) (no_member xs x all.1)

-- one that is among them is below what is above all
member_below : (xs : List ℕ) (x y : ℕ) → AllByRecursion (λ z. z < y) xs → is_member nat_eq xs x ≡ true → x < y
member_below [] x y all is = let no : false ≡ true = is in cc
member_below (z ∷ xs) x y all is =
    elim (nat_eq x z) as (λ b. nat_eq x z ≡ b → b || is_member nat_eq xs x ≡ true → x < y) [
      | true ↦ λ e h. (let same : x ≡ z = is_number x z e in omega (arith, same, all.0))
      | false ↦ λ e h. member_below xs x y all.1 h
    ] refl is

-- ---- writes

put_over-append : (m : Rows) (xs ys : List Write) → put_over m (xs ++ ys) ≡ put_over (put_over m xs) ys
put_over-append m [] ys = refl
put_over-append m (x ∷ xs) ys = put_over-append (write_at m x.key x.value) xs ys

-- ---- which entries are committed

abbrev is_of : List ℕ → Prepared → Bool
is_of epochs e = is_member nat_eq epochs e.epoch

-- a further epoch above those that the entries have
same_below : (epochs : List ℕ) (epoch : ℕ) (es : List Prepared) → AllByRecursion (λ e. e.epoch < epoch) es → filter (is_of (epochs ++ epoch ∷ [])) es ≡ filter (is_of epochs) es
same_below epochs epoch [] all = refl
same_below epochs epoch (e ∷ es) all =
    let same : is_of (epochs ++ epoch ∷ []) e ≡ is_of epochs e =
    list_any-append (nat_eq e.epoch) epochs (epoch ∷ []) ∙ or_no (is_of epochs e) (nat_eq e.epoch epoch || false) (neither (nat_eq e.epoch epoch) false (below_apart e.epoch epoch all.0) refl) in
    let rest = same_below epochs epoch es all.1 in
    ap (λ (b : Bool). cond b (e ∷ filter (is_of (epochs ++ epoch ∷ [])) es) (filter (is_of (epochs ++ epoch ∷ [])) es)) same
    ∙ ap (λ (l : List Prepared). cond (is_of epochs e) (e ∷ l) l) rest
  where
    or_no : (a b : Bool) → b ≡ false → a || b ≡ a
    or_no true b e = refl
    or_no false b e = e

-- entries above all epochs are of none of them
none_above : (epochs : List ℕ) (es : List Prepared) → AllByRecursion (λ e. AllByRecursion (λ x. x < e.epoch) epochs) es → filter (is_of epochs) es ≡ []
none_above epochs [] all = refl
none_above epochs (e ∷ es) all =
    ap (λ (b : Bool). cond b (e ∷ filter (is_of epochs) es) (filter (is_of epochs) es)) (no_member epochs e.epoch all.0) ∙ none_above epochs es all.1

-- of entries that rise, those of the epochs and a greater one are those of the epochs, and then that one's
one_more : (s : Setting) (n : ℕ) (epochs : List ℕ) (before : List Prepared) (e : Prepared) (behind : List Prepared) → AllByRecursion (λ x. x < e.epoch) epochs
    → EachBehind (IsNextPrepared s n) [] (before ++ e ∷ behind)
    → filter (is_of (epochs ++ e.epoch ∷ [])) (before ++ e ∷ behind) ≡ filter (is_of epochs) (before ++ e ∷ behind) ++ e ∷ []
one_more s n epochs before e behind below each =
    let here = each_at (IsNextPrepared s n) [] before e behind each in
    let low : AllByRecursion (λ x. x.epoch < e.epoch) before = all_from_map (λ x. x.epoch) (λ x. x < e.epoch) before here.0.epoch.rises in
    let high : AllByRecursion (λ x. e.epoch < x.epoch) behind = above_all (before ++ e ∷ []) behind (last_in before) here.1 in
    let more : List ℕ = epochs ++ e.epoch ∷ [] in
    let is : is_of more e ≡ true = member_right epochs (e.epoch ∷ []) e.epoch (or_left (nat_eq e.epoch e.epoch) false (same_number e.epoch)) in
    let no : is_of epochs e ≡ false = no_member epochs e.epoch below in
    let none_of : filter (is_of more) behind ≡ [] =
    none_above more behind (all_weaker (λ x. e.epoch < x.epoch) (λ x. AllByRecursion (λ y. y < x.epoch) more) (λ x up. all_append (λ y. y < x.epoch) epochs (e.epoch ∷ []) (up_from x up) (up, tt)) behind high) in
    let none_before : filter (is_of epochs) behind ≡ [] =
    none_above epochs behind (all_weaker (λ x. e.epoch < x.epoch) (λ x. AllByRecursion (λ y. y < x.epoch) epochs) up_from behind high) in
    let left : filter (is_of more) (e ∷ behind) ≡ e ∷ [] = ap (λ (b : Bool). cond b (e ∷ filter (is_of more) behind) (filter (is_of more) behind)) is ∙ ap (λ (l : List Prepared). e ∷ l) none_of in
    let right : filter (is_of epochs) (e ∷ behind) ≡ [] = ap (λ (b : Bool). cond b (e ∷ filter (is_of epochs) behind) (filter (is_of epochs) behind)) no ∙ none_before in
    filter-append (is_of more) before (e ∷ behind)
    ∙ ap (λ (l : List Prepared). filter (is_of more) before ++ l) left
    ∙ ap (λ (l : List Prepared). l ++ e ∷ []) (same_below epochs e.epoch before low)
    ∙ ap (λ (l : List Prepared). l ++ e ∷ []) (sym (filter-append (is_of epochs) before (e ∷ behind) ∙ ap (λ (l : List Prepared). filter (is_of epochs) before ++ l) right ∙ append-nil (filter (is_of epochs) before)))
  where
    up_from : (x : Prepared) → e.epoch < x.epoch → AllByRecursion (λ y. y < x.epoch) epochs
    up_from x up = all_weaker (λ y. y < e.epoch) (λ y. y < x.epoch) (λ y less. omega (arith, less, up)) epochs below

    last_in : (xs : List Prepared) → is_member nat_eq (prepared_epochs (xs ++ e ∷ [])) e.epoch ≡ true
    last_in [] = or_left (nat_eq e.epoch e.epoch) false (same_number e.epoch)
    last_in (x ∷ xs) = or_right (nat_eq e.epoch x.epoch) _ (last_in xs)

    -- those behind an entry of this epoch are above it
    above_all : (front ys : List Prepared) → is_member nat_eq (prepared_epochs front) e.epoch ≡ true → EachBehind (IsNextPrepared s n) front ys → AllByRecursion (λ x. e.epoch < x.epoch) ys
    above_all front [] is each = tt
    above_all front (y ∷ ys) is each = (
      member_below (prepared_epochs front) e.epoch y.epoch each.0.epoch.rises is,
      above_all (front ++ y ∷ []) ys
          (subst (λ (l : List ℕ). is_member nat_eq l e.epoch ≡ true) (sym (map-append (λ x. x.epoch) front (y ∷ []))) (member_left (prepared_epochs front) (y.epoch ∷ []) e.epoch is)) each.1,
    )

-- ---- a prepared entry

-- an entry of an epoch that isn't committed writes nothing
uncommitted : (s : Setting) (p : ℕ) (epochs : List ℕ) (es : List Prepared) (e : Prepared) → is_of epochs e ≡ false → committed_writes s p epochs (es ++ e ∷ []) ≡ committed_writes s p epochs es
uncommitted s p epochs es e lacks =
    ap (λ (l : List Prepared). flat_map (λ x. writes_on s p x.rows) l)
    (filter-append (is_of epochs) es (e ∷ []) ∙ ap (λ (b : Bool). filter (is_of epochs) es ++ cond b (e ∷ []) []) lacks ∙ append-nil (filter (is_of epochs) es))

have_more : (es : List Prepared) (e : Prepared) (commits : List Commit) → HavePrepared es commits → HavePrepared (es ++ e ∷ []) commits
have_more es e commits have =
    all_weaker (λ c. is_member nat_eq (prepared_epochs es) c.epoch ≡ true) (λ c. is_member nat_eq (prepared_epochs (es ++ e ∷ [])) c.epoch ≡ true)
    (λ c is. subst (λ (l : List ℕ). is_member nat_eq l c.epoch ≡ true) (sym (map-append (λ x. x.epoch) es (e ∷ []))) (member_left (prepared_epochs es) (e.epoch ∷ []) c.epoch is)) commits have

not_committed : (commits : List Commit) (epoch : ℕ) → AllByRecursion (λ c. c.epoch < epoch) commits → is_member nat_eq (commit_epochs commits) epoch ≡ false
not_committed [] epoch all = refl
not_committed (c ∷ commits) epoch all = neither (nat_eq epoch c.epoch) (is_member nat_eq (commit_epochs commits) epoch) (above_apart epoch c.epoch all.0) (not_committed commits epoch all.1)

module _ (old new : Files) (c : Contents) (n : ℕ) (entry : Prepared) (good : IsGoodStore old c) (may : MayPrepare c n entry)
    (gains : GainsOne c.setting.entry (file_of c.setting n) prepared_kind (prepared_bytes entry) old new) where
  abbrev grown : ℕ → List Prepared
  grown m = c.prepared m ++ entry ∷ []

  node_gained : HoldsNode c.setting c.commits n (grown n) (new (file_of c.setting n))
  node_gained =
      let h = good.holds.nodes n may.node in
      record {
        are = log_gains prepared_kind prepared_bytes IsPrepared (c.prepared n) entry gains.bodies (old (file_of c.setting n)) (new (file_of c.setting n)) h.are may.is gains.was gains.is;
        each = each_more (IsNextPrepared c.setting n) [] (c.prepared n) entry h.each may.next;
        committed = have_more (c.prepared n) entry c.commits h.committed;
      }

  node_there : (m : ℕ) → m < c.setting.entry.layout.nodes → HoldsNode c.setting c.commits m ((with_prepared n entry c).prepared m) (new (file_of c.setting m))
  node_there m less =
      elim (eqb m n) as (λ b. eqb m n ≡ b → HoldsNode c.setting c.commits m (cond b (grown m) (c.prepared m)) (new (file_of c.setting m))) [
        | true ↦ λ e. subst (λ (k : ℕ). HoldsNode c.setting c.commits k (grown k) (new (file_of c.setting k))) (sym (eqb-true m n e)) node_gained
        | false ↦ λ e. node_kept c.setting c.commits m (c.prepared m) (old (file_of c.setting m)) (new (file_of c.setting m))
            (gains.others (file_of c.setting m) ((names old c good.holds).node m less) ((names old c good.holds).node-node m n less may.node (λ same. apart m n e same))) (good.holds.nodes m less)
      ] refl
    where
      apart : (m n : ℕ) → eqb m n ≡ false → m ≡ n → ⊥
      apart m n differ same = let h : true ≡ false = sym (eq-eqb m n same) ∙ differ in cc

  prepared_holds : Holds new (with_prepared n entry c)
  prepared_holds =
      let apart = names old c good.holds in
      let was = good.holds.history in
      record {
        history = record {
          layouts = layouts_kept c.earlier c.setting (old 0) (new 0) (gains.others 0 apart.own (apart.node-own n may.node)) was.layouts;
          base = base_kept old new c.setting c.base c.setting.entry.base_file (λ b e. gains.others b (apart.base b e) (λ same. apart.base-node b n e may.node (sym same))) was.base;
          commits = commits_kept c.setting c.base c.commits (old (chief_of c.setting)) (new (chief_of c.setting))
              (gains.others (chief_of c.setting) apart.chief (apart.node-chief n may.node)) was.commits;
        };
        nodes = node_there;
      }

  same_rows : (m p : ℕ) → rows_of (with_prepared n entry c) m p ≡ rows_of c m p
  same_rows m p =
      let no = not_committed c.commits entry.epoch may.above in
      ap (λ (l : List Write). put_over (on c.setting p (base_of c.setting c.base).rows) l)
      (elim (eqb m n) as (λ b. committed_writes c.setting p (commit_epochs c.commits) (cond b (grown m) (c.prepared m)) ≡ committed_writes c.setting p (commit_epochs c.commits) (c.prepared m)) [
        | true ↦ uncommitted c.setting p (commit_epochs c.commits) (c.prepared m) entry no
        | false ↦ refl
      ])

  prepared_store : IsGoodStore new (with_prepared n entry c)
  prepared_store = record {
    holds = prepared_holds;
    ordered = good.ordered;
    serial = good.serial;
    rows = λ m p node partition held. same_rows m p ∙ good.rows m p node partition held;
  }

pub after_prepared : AfterPrepared
after_prepared old new c n entry good may gains = (prepared_store old new c n entry good may gains, refl)

-- ---- a commit entry

history_grows : (c : Contents) (commit : Commit) → history_of (with_commit commit c) ≡ followed_by (history_of c) (epoch_of commit)
history_grows c commit =
    ap (λ (es : List Epoch). record { base = base_of c.setting c.base; epochs = es; keep = c.setting.entry.keep }) (map-append epoch_of c.commits (commit ∷ []))

module _ (old new : Files) (c : Contents) (commit : Commit) (good : IsGoodStore old c) (may : MayCommit c commit)
    (gains : GainsOne c.setting.entry (chief_of c.setting) commits_kind (commit_bytes commit) old new) where
  -- the node has an entry of the new epoch
  has_ready : (n : ℕ) → n < c.setting.entry.layout.nodes → is_member nat_eq (prepared_epochs (c.prepared n)) commit.epoch ≡ true
  has_ready n less =
      let r = may.ready n less in
      subst (λ (l : List Prepared). is_member nat_eq (prepared_epochs l) commit.epoch ≡ true) (sym r.there)
      (subst (λ (l : List ℕ). is_member nat_eq l commit.epoch ≡ true) (sym (map-append (λ x. x.epoch) r.before (r.entry ∷ r.behind)))
      (member_right (prepared_epochs r.before) (prepared_epochs (r.entry ∷ r.behind)) commit.epoch
      (or_left (nat_eq commit.epoch r.entry.epoch) (is_member nat_eq (prepared_epochs r.behind) commit.epoch) (ap (nat_eq commit.epoch) r.epoch ∙ same_number commit.epoch))))

  node_committed : (n : ℕ) → n < c.setting.entry.layout.nodes → HoldsNode c.setting (c.commits ++ commit ∷ []) n (c.prepared n) (new (file_of c.setting n))
  node_committed n less =
      let apart = names old c good.holds in
      let h = node_kept c.setting c.commits n (c.prepared n) (old (file_of c.setting n)) (new (file_of c.setting n))
      (gains.others (file_of c.setting n) (apart.node n less) (λ same. apart.node-chief n less (sym same))) (good.holds.nodes n less) in
      record {
        are = h.are;
        each = h.each;
        committed = all_append (λ x. is_member nat_eq (prepared_epochs (c.prepared n)) x.epoch ≡ true) c.commits (commit ∷ []) h.committed (has_ready n less, tt);
      }

  commit_holds : Holds new (with_commit commit c)
  commit_holds =
      let apart = names old c good.holds in
      let was = good.holds.history in
      record {
        history = record {
          layouts = layouts_kept c.earlier c.setting (old 0) (new 0) (gains.others 0 apart.own apart.chief-own) was.layouts;
          base = base_kept old new c.setting c.base c.setting.entry.base_file (λ b e. gains.others b (apart.base b e) (λ same. apart.base-chief b e (sym same))) was.base;
          commits = record {
            are = log_gains commits_kind commit_bytes IsCommit c.commits commit gains.bodies (old (chief_of c.setting)) (new (chief_of c.setting)) was.commits.are may.is gains.was gains.is;
            each = each_more (IsNextCommit c.setting c.base) [] c.commits commit was.commits.each may.next;
          };
        };
        nodes = node_committed;
      }

  -- what the node has written for the new epoch comes behind what it had written
  writes_grow : (n p : ℕ) → (less : n < c.setting.entry.layout.nodes)
      → committed_writes c.setting p (commit_epochs (c.commits ++ commit ∷ [])) (c.prepared n)
      ≡ committed_writes c.setting p (commit_epochs c.commits) (c.prepared n) ++ writes_on c.setting p (may.ready n less).entry.rows
  writes_grow n p less =
      let r = may.ready n less in
      let s = c.setting in
      let epochs : List ℕ = commit_epochs c.commits in
      let low : AllByRecursion (λ x. x < r.entry.epoch) epochs = subst (λ (k : ℕ). AllByRecursion (λ x. x < k) epochs) (sym r.epoch) may.next.epoch.rises in
      let each = subst (λ (l : List Prepared). EachBehind (IsNextPrepared s n) [] l) r.there (good.holds.nodes n less).each in
      let numbers : commit_epochs (c.commits ++ commit ∷ []) ≡ epochs ++ r.entry.epoch ∷ [] =
      map-append (λ x. x.epoch) c.commits (commit ∷ []) ∙ ap (λ (k : ℕ). epochs ++ k ∷ []) (sym r.epoch) in
      let of_entries : filter (is_of (epochs ++ r.entry.epoch ∷ [])) (c.prepared n) ≡ filter (is_of epochs) (c.prepared n) ++ r.entry ∷ [] =
      subst (λ (l : List Prepared). filter (is_of (epochs ++ r.entry.epoch ∷ [])) l ≡ filter (is_of epochs) l ++ r.entry ∷ []) (sym r.there) (one_more s n epochs r.before r.entry r.behind low each) in
      ap (λ (l : List ℕ). committed_writes s p l (c.prepared n)) numbers
      ∙ ap (λ (l : List Prepared). flat_map (λ x. writes_on s p x.rows) l) of_entries
      ∙ flat_map-append (λ x. writes_on s p x.rows) (filter (is_of epochs) (c.prepared n)) (r.entry ∷ [])
      ∙ ap (λ (l : List Write). committed_writes s p epochs (c.prepared n) ++ l) (append-nil (writes_on s p r.entry.rows))

  commit_rows : (n p : ℕ) → n < c.setting.entry.layout.nodes → p < c.setting.entry.layout.partitions → IsHeldBy c.setting.entry.layout p n
      → rows_of (with_commit commit c) n p ≡ on c.setting p (map_in (with_commit commit c))
  commit_rows n p less partition held =
      let s = c.setting in
      let r = may.ready n less in
      let start : Rows = on s p (base_of s c.base).rows in
      let old_writes : List Write = committed_writes s p (commit_epochs c.commits) (c.prepared n) in
      let new_writes : List Write = writes_on s p r.entry.rows in
      ap (put_over start) (writes_grow n p less)
      ∙ put_over-append start old_writes new_writes
      ∙ ap (λ (m : Rows). put_over m new_writes) (good.rows n p less partition held)
      ∙ r.rows p partition held
      ∙ ap (λ (h : History). on s p (map_of s.tree h)) (sym (history_grows c commit))

  commit_store : IsGoodStore new (with_commit commit c)
  commit_store = record {
    holds = commit_holds;
    ordered = subst IsOrdered (sym (history_grows c commit)) may.ordered;
    serial = subst (IsSerial c.setting.tree) (sym (history_grows c commit)) may.serial;
    rows = commit_rows;
  }

pub after_commit : AfterCommit
after_commit old new c commit good may gains = (commit_store old new c commit good may gains, history_grows c commit)

-- ---- at each moment of an append

-- where the entry isn't there yet, all logs are as they were
not_yet : (old new : Files) (c : Contents) (file kind : ℕ) (body : List ℕ) → IsGoodStore old c → (m : MayGainOne c.setting.entry file kind body old new)
    → IsLog kind m.bodies (new file) → IsGoodStore new c
not_yet old new c file kind body good m log =
    store_kept old new c (λ k named. elim (eqb k file) as (λ b. eqb k file ≡ b → KeepsLog (old k) (new k)) [
      | true ↦ λ e. subst (λ (j : ℕ). KeepsLog (old j) (new j)) (sym (eqb-true k file e)) (same_log kind m.bodies (old file) (new file) m.was log)
      | false ↦ λ e. m.others k named (λ same. other k file e same)
    ] refl) good
  where
    other : (m n : ℕ) → eqb m n ≡ false → m ≡ n → ⊥
    other m n differ same = let h : true ≡ false = sym (eq-eqb m n same) ∙ differ in cc

pub while_prepared : WhilePrepared
while_prepared old new c n entry good may m =
    elim (m.is) as (λ _. IsGoodStore new c ⊎ IsGoodStore new (with_prepared n entry c)) [
      | inl before ↦ inl (not_yet old new c (file_of c.setting n) prepared_kind (prepared_bytes entry) good m before)
      | inr after ↦ inr (after_prepared old new c n entry good may (record { bodies = m.bodies; was = m.was; is = after; others = m.others })).0
    ]

pub while_committed : WhileCommitted
while_committed old new c commit good may m =
    elim (m.is) as (λ _. IsGoodStore new c ⊎ IsGoodStore new (with_commit commit c)) [
      | inl before ↦ inl (not_yet old new c (chief_of c.setting) commits_kind (commit_bytes commit) good m before)
      | inr after ↦ inr (after_commit old new c commit good may (record { bodies = m.bodies; was = m.was; is = after; others = m.others })).0
    ]
