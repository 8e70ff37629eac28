-- Files that are a store but for one node's: what is refused in them is none, what is had of them, and what a crash leaves of them.
use Rattle.std.proofs.Common.{◌≡◌, ◌≢◌, ℕ, ◌+◌, ◌<◌, List, [], ◌∷◌, ◌++◌, length, Option, None, Some, refl, sym, ap, subst, ◌∙◌, arith, ⊎_elim}
use Rattle.std.specs.Prelude.{IfSome, MatchOption}
use Rattle.std.specs.List.{AllByRecursion}
use Rattle.std.proofs.lemmas.Bool.{cases_lt}
use Rattle.std.proofs.Math.Nat.{eq-or-lt_of_le}
use Rattle.coco_ast.proofs.Lists.{all_append, all_right}
use Rattle.coco_entry.specs.declared.commit.Commit.{Commit}
use Rattle.coco_entry.specs.declared.layout.LayoutEntry.{LayoutEntry}
use Rattle.coco_entry.specs.Rows.{IsPrepared, prepared_bytes, prepared_in}
use Rattle.coco_entry.specs.declared.prepared.Prepared.{Prepared}
use Rattle.coco_entry.specs.Layouts.{IsLayout}
use Rattle.coco_host.specs.Files.{Files, NoMore}
use Rattle.coco_append.specs.Gaining.{Stands}
use Rattle.coco_log.specs.LogState.{IsFresh, IsOpened, LogState}
use Rattle.coco_read.specs.EntryRules.{EntryRules, IsFile, IsFirstIn}
use Rattle.coco_read.proofs.Steps.{not_refused}
use Rattle.coco_store.specs.Contents.{Contents, HoldsBase, HoldsCommits, HoldsHistory, HoldsLayouts, HoldsNode, IsGoodLayout, chief_of, file_of}
use Rattle.coco_store.specs.Entries.{AreBase, BaseEntry, base_kind, commits_kind, layouts_kind, prepared_kind}
use Rattle.coco_store.specs.Refusals.{BaseBreaks, CommitBreaks, IsFirst, IsFirstRefusal, IsNodeRefused, LayoutBreaks, PreparedBreaks, in_base, in_commits, in_layouts}
use Rattle.coco_store.specs.Rules.{EachBehind, HavePrepared, IsBase, IsNextBase, IsNextCommit, IsNextPrepared, Setting, commit_epochs}
use Rattle.coco_store.proofs.Keeping.{base_kept, commits_kept, layouts_kept, node_kept}
use Rattle.coco_store.proofs.Naming.{NamesApart, names_apart}
use Rattle.coco_store.proofs.OneStore.{behind, one_base_file, one_chief_file, one_layouts}
use Rattle.coco_store.proofs.Refusing.{one_refusal}
use Rattle.coco_recover.specs.Bases.{base_rules}
use Rattle.coco_recover.specs.Commits.{commit_rules}
use Rattle.coco_recover.specs.History.{IsHistoryHeld, IsHistoryRead}
use Rattle.coco_recover.specs.Layouts.{layout_rules, setting_of}
use Rattle.coco_recover.specs.Nodes.{IsLoaded, nodes_of}
use Rattle.coco_recover.specs.Readings.{base_stands, commit_reads, layout_reads, prepared_reads}
use Rattle.coco_recover.specs.Steps.{HoldsEntries, IsLeft, IsRead}
use Rattle.coco_recover.specs.Without.{AreOthersHeld, AreOthersRead, ArePartsOf, BehindGatesButForANode, GoodStoresAreButForANode, HasParts, HoldsBut, IsGoodBut, IsHistoryRefusal, IsLogBut, OneRefusalButForANode, RefusedButForANodeIsNone, RestsBut, StoresAreButForANode, base_refused, before_nodes, commits_refused, in_other, layouts_refused}
use Rattle.coco_recover.specs.declared.commits.Committed.{Committed}
use Rattle.coco_recover.specs.declared.history.StoreHistory.{StoreHistory}
use Rattle.coco_recover.specs.declared.layouts.LastLayout.{LastLayout}
use Rattle.coco_recover.specs.declared.nodes.Loaded.{Loaded}
use Rattle.coco_recover.specs.declared.without.Parts.{Parts}
use Rattle.coco_recover.proofs.Places.{base_keeps, commit_keeps, layout_keeps, prepared_keeps}
use Rattle.coco_recover.proofs.Reading.{one_longer, one_more, still_opened}
use Rattle.coco_recover.proofs.Resting.{left_opened, stands_so}

-- ---- what holds isn't refused

each_kept : {E : Type 0} (Rule : List E → E → Type 0) (Breaks : List E → E → ℕ → Type 0) → ((before : List E) (e : E) → Rule before e → (at : ℕ) → ¬ (Breaks before e at)) → (before xs : List E)
    → EachBehind Rule before xs → EachBehind (λ b e. (at : ℕ) → ¬ (Breaks b e at)) before xs
each_kept Rule Breaks keeps before [] each = tt
each_kept Rule Breaks keeps before (x ∷ xs) each = (keeps before x each.0, each_kept Rule Breaks keeps (before ++ x ∷ []) xs each.1)

each_of_all : {A : Type 0} (P : A → Type 0) (before xs : List A) → AllByRecursion P xs → EachBehind (λ _. P) before xs
each_of_all P before [] all = tt
each_of_all P before (x ∷ xs) all = (all.0, each_of_all P (before ++ x ∷ []) xs all.1)

no_layouts : (earlier : List LayoutEntry) (s : Setting) (file : List ℕ) (at : ℕ) → HoldsLayouts earlier s file → IsFirstIn layout_rules 0 file at → ⊥
no_layouts earlier s file at h first =
    let last : IsGoodLayout s.entry = record { limits = h.limits; tree = s.tree; accepted = h.tree } in
    let all = earlier ++ s.entry ∷ [] in
    let is : IsFile layout_rules layouts_kind all file = record {
      log = h.are;
      keep = each_kept (λ _. IsGoodLayout) (λ _ e. LayoutBreaks e) (λ before e good. layout_keeps e good.tree good.limits good.accepted) [] all
          (each_of_all IsGoodLayout [] all (all_append IsGoodLayout earlier (s.entry ∷ []) h.each (last, tt)));
      whole = behind s.entry earlier s.entry;
    } in
    not_refused layout_rules (λ _. layout_reads) 0 all file at is first

no_base : (s : Setting) (entries : List BaseEntry) (file : List ℕ) (at : ℕ) → AreBase entries file → IsBase s entries → IsFirstIn (base_rules s) 3 file at → ⊥
no_base s entries file at are h first =
    let is : IsFile (base_rules s) base_kind entries file = record {
      log = are;
      keep = each_kept (IsNextBase s) (BaseBreaks s) (base_keeps s) [] entries h.each;
      whole = λ broken. broken h.whole;
    } in
    not_refused (base_rules s) base_stands 3 entries file at is first

no_commits : (s : Setting) (base : List BaseEntry) (commits : List Commit) (file : List ℕ) (at : ℕ) → HoldsCommits s base commits file
    → IsFirstIn (commit_rules (record { setting = s; base = base; keep = None })) 1 file at → ⊥
no_commits s base commits file at h first =
    let is : IsFile (commit_rules (record { setting = s; base = base; keep = None })) commits_kind commits file = record {
      log = h.are;
      keep = each_kept (IsNextCommit s base) (CommitBreaks s base) (commit_keeps s base) [] commits h.each;
      whole = λ never. never;
    } in
    not_refused (commit_rules (record { setting = s; base = base; keep = None })) (λ _. commit_reads) 1 commits file at is first

no_node : (s : Setting) (commits : List Commit) (n : ℕ) (entries : List Prepared) (file : List ℕ) (at : ℕ) → HoldsNode s commits n entries file → IsFirst (IsNodeRefused s commits n file) at → ⊥
no_node s commits n entries file at h first =
    let rules : EntryRules Prepared = record { bytes_of = prepared_bytes; Is = IsPrepared; read = λ before. prepared_in; Breaks = PreparedBreaks s n; Lacks = λ entries. ¬ (HavePrepared entries commits) } in
    let is : IsFile rules prepared_kind entries file = record {
      log = h.are;
      keep = each_kept (IsNextPrepared s n) (PreparedBreaks s n) (prepared_keeps s n) [] entries h.each;
      whole = λ broken. broken h.committed;
    } in
    not_refused rules (λ _. prepared_reads) 2 entries file at is first

history_held_or_refused : (files : Files) (f a : ℕ) (c : Contents) → IsHistoryRefusal files f a → HoldsHistory files c → ⊥
history_held_or_refused files f a c (layouts_refused first) h = no_layouts c.earlier c.setting (files 0) a h.layouts first
history_held_or_refused files f a c (base_refused {earlier = earlier} {s = s} held is first) h =
    let one : s ≡ c.setting = (one_layouts earlier c.earlier s c.setting (files 0) held h.layouts).setting in
    let here : HoldsBase files s c.base s.entry.base_file = subst (λ (t : Setting). HoldsBase files t c.base t.entry.base_file) (sym one) h.base in
    let there : HoldsBase files s c.base (Some f) = subst (HoldsBase files s c.base) is here in
    no_base s c.base (files f) a there.0 there.1 first
history_held_or_refused files f a c (commits_refused {earlier = earlier} {s = s} {base = base} held based first) h =
    let one : s ≡ c.setting = (one_layouts earlier c.earlier s c.setting (files 0) held h.layouts).setting in
    let same : base ≡ c.base = one_base_file files s c.setting base c.base one based h.base in
    let here : HoldsCommits s c.base c.commits (files (chief_of s)) = subst (λ (t : Setting). HoldsCommits t c.base c.commits (files (chief_of t))) (sym one) h.commits in
    no_commits s base c.commits (files (chief_of s)) a (subst (λ (bs : List BaseEntry). HoldsCommits s bs c.commits (files (chief_of s))) (sym same) here) first

-- two readings of the same files
module _ (files : Files) (c d : Contents) (h : HoldsHistory files c) (k : HoldsHistory files d) where
  one_setting : c.setting ≡ d.setting
  one_setting = (one_layouts c.earlier d.earlier c.setting d.setting (files 0) h.layouts k.layouts).setting

  one_history : c.commits ≡ d.commits
  one_history = one_chief_file files c.setting d.setting c.base d.base c.commits d.commits one_setting h.commits k.commits

  no_other : (n at : ℕ) → HoldsNode d.setting d.commits n (d.prepared n) (files (file_of d.setting n)) → IsFirst (IsNodeRefused c.setting c.commits n (files (file_of c.setting n))) at → ⊥
  no_other n at there first =
      let here : HoldsNode c.setting d.commits n (d.prepared n) (files (file_of c.setting n)) =
      subst (λ (s : Setting). HoldsNode s d.commits n (d.prepared n) (files (file_of s n))) (sym one_setting) there in
      no_node c.setting c.commits n (d.prepared n) (files (file_of c.setting n)) at
      (subst (λ (cs : List Commit). HoldsNode c.setting cs n (d.prepared n) (files (file_of c.setting n))) (sym one_history) here) first

pub held_or_refused : RefusedButForANodeIsNone
held_or_refused node files f a (before_nodes refused) c held = history_held_or_refused files f a c refused held.history
held_or_refused node files f a (in_other {c = d} {n = n} h less other before first) c held =
    no_other files d c h held.history n a (held.nodes n (subst (λ (s : Setting). n < s.entry.layout.nodes) (one_setting files d c h held.history) less) other) first

-- ---- the definitions agree with those of stores

pub history_first : (files : Files) (f a : ℕ) → IsHistoryRefusal files f a → IsFirstRefusal files f a
history_first files f a (layouts_refused first) = in_layouts first
history_first files f a (base_refused {s = s} held is first) = in_base {s = s} held is first
history_first files f a (commits_refused {s = s} held based first) = in_commits {s = s} held based first

pub stores_but : StoresAreButForANode
stores_but node files c = (
  λ held. record { history = held.history; nodes = λ n less other. held.nodes n less },
  λ none held. record { history = held.history; nodes = λ n less. held.nodes n less (λ same. omega (arith, none, less, same)) },
)

pub good_stores_but : GoodStoresAreButForANode
good_stores_but node files c = (
  λ good. record {
    holds = (stores_but node files c).0 good.holds;
    ordered = good.ordered;
    serial = good.serial;
    rows = λ n p less other. good.rows n p less;
  },
  λ none good. record {
    holds = (stores_but node files c).1 none good.holds;
    ordered = good.ordered;
    serial = good.serial;
    rows = λ n p less. good.rows n p less (λ same. omega (arith, none, less, same));
  },
)

pub behind_gates_but : BehindGatesButForANode
behind_gates_but node old new c keep good =
    let s : Setting = c.setting in
    let was = good.holds.history in
    let apart : NamesApart s.entry = names_apart s.entry (all_right IsLayout c.earlier (s.entry ∷ []) was.layouts.are.are).0 in
    record {
      holds = record {
        history = record {
          layouts = layouts_kept c.earlier s (old 0) (new 0) (keep 0 apart.own) was.layouts;
          base = base_kept old new s c.base s.entry.base_file (λ b e. keep b (apart.base b e)) was.base;
          commits = commits_kept s c.base c.commits (old (chief_of s)) (new (chief_of s)) (keep (chief_of s) apart.chief) was.commits;
        };
        nodes = λ n less other. node_kept s c.commits n (c.prepared n) (old (file_of s n)) (new (file_of s n)) (keep (file_of s n) (apart.node n less)) (good.holds.nodes n less other);
      };
      ordered = good.ordered;
      serial = good.serial;
      rows = good.rows;
    }

-- ---- one place is refused first

one_place : (R : ℕ → Type 0) (a b : ℕ) → IsFirst R a → IsFirst R b → a ≡ b
one_place R a b first second = let low = first.least b second.refused in let high = second.least a first.refused in omega (arith, low, high)

one_other : (files : Files) (c d : Contents) (n m a b : ℕ) → m ≡ n → d.setting ≡ c.setting → d.commits ≡ c.commits → IsFirst (IsNodeRefused c.setting c.commits n (files (file_of c.setting n))) a
    → IsFirst (IsNodeRefused d.setting d.commits m (files (file_of d.setting m))) b → (file_of c.setting n ≡ file_of d.setting m) × (a ≡ b)
one_other files c d n m a b here one commits first second = (
  ap (λ (s : Setting). file_of s n) (sym one) ∙ ap (file_of d.setting) (sym here),
  one_place (IsNodeRefused c.setting c.commits n (files (file_of c.setting n))) a b first
      (subst (λ (i : ℕ). IsFirst (IsNodeRefused c.setting c.commits i (files (file_of c.setting i))) b) here
      (subst (λ (s : Setting). IsFirst (IsNodeRefused s c.commits m (files (file_of s m))) b) one
      (subst (λ (cs : List Commit). IsFirst (IsNodeRefused d.setting cs m (files (file_of d.setting m))) b) commits second))),
)

pub one_refusal_but : OneRefusalButForANode
one_refusal_but node files f g a b (before_nodes first) (before_nodes second) = one_refusal files f g a b (history_first files f a first) (history_first files g b second)
one_refusal_but node files f g a b (before_nodes first) (in_other {c = d} k within apart behind second) = absurd (history_held_or_refused files f a d first k)
one_refusal_but node files f g a b (in_other {c = c} h less other before first) (before_nodes second) = absurd (history_held_or_refused files g b c second h)
one_refusal_but node files f g a b (in_other {c = c} {n = n} h less other before first) (in_other {c = d} {n = m} k within apart behind second) =
    ⊎_elim (λ low. absurd (no_other files c d h k n a (behind n low other) first))
    (λ le. ⊎_elim
    (λ (here : m ≡ n). one_other files c d n m a b here (one_setting files d c k h) (one_history files d c k h) first second)
    (λ high. absurd (no_other files d c k h m b (before m high apart) second))
    (eq-or-lt_of_le le)) (cases_lt n m)

-- ---- files that read the same, but for the node's

base_still : (files image : Files) (s : Setting) (entries : List BaseEntry) (o : Option ℕ) → IfSome o (λ f. image f ≡ files f) → HoldsBase files s entries o → HoldsBase image s entries o
base_still files image s entries None same held = held
base_still files image s entries (Some file) same held = (subst (AreBase entries) (sym same) held.0, held.1)

module _ (node : ℕ) (files image : Files) (c : Contents) (root : image 0 ≡ files 0) (base : IfSome c.setting.entry.base_file (λ f. image f ≡ files f))
    (chief : image (chief_of c.setting) ≡ files (chief_of c.setting)) (others : (n : ℕ) → n < c.setting.entry.layout.nodes → n ≢ node → image (file_of c.setting n) ≡ files (file_of c.setting n)) where
  holds_still : HoldsBut node files c → HoldsBut node image c
  holds_still held = record {
    history = record {
      layouts = subst (HoldsLayouts c.earlier c.setting) (sym root) held.history.layouts;
      base = base_still files image c.setting c.base c.setting.entry.base_file base held.history.base;
      commits = subst (HoldsCommits c.setting c.base c.commits) (sym chief) held.history.commits;
    };
    nodes = λ n less other. subst (HoldsNode c.setting c.commits n (c.prepared n)) (sym (others n less other)) (held.nodes n less other);
  }

  pub good_still : IsGoodBut node files c → IsGoodBut node image c
  good_still good = record { holds = holds_still good.holds; ordered = good.ordered; serial = good.serial; rows = good.rows }

-- ---- from node to node

some_still : (files : Files) (may_old may_new : Files → Type 0) (o : Option LogState) → NoMore may_old may_new → IfSome o (λ log. IsOpened log files may_old) → IfSome o (λ log. IsOpened log files may_new)
some_still files may_old may_new None fewer opened = tt
some_still files may_old may_new (Some log) fewer opened = still_opened files may_old may_new log fewer opened

module _ (last : LastLayout) (committed : Committed) (node : ℕ) where
  pub no_others : (loaded : Loaded) → IsLoaded (setting_of last) committed loaded → nodes_of loaded ≡ [] → AreOthersRead last committed node loaded [] 0
  no_others loaded are none = record {
    are = are;
    nodes = ap length none;
    as_many = refl;
    each = λ n less. absurd (omega (arith, less));
  }

  pub other_read : (old new : Loaded) (entries : List Prepared) (logs more : List (Option LogState)) (log : Option LogState) (n : ℕ) → AreOthersRead last committed node old logs n
      → IsRead last committed n old new entries → IsLogBut node n (file_of (setting_of last) n) log → more ≡ logs ++ log ∷ [] → AreOthersRead last committed node new more (n + 1)
  other_read old new entries logs more log n was read is are = record {
    are = read.loaded;
    nodes = one_longer (nodes_of old) (nodes_of new) entries n read.more was.nodes;
    as_many = one_longer logs more log n are was.as_many;
    each = rw are (one_more (λ m l. IsLogBut node m (file_of (setting_of last) m) l) logs log None n was.as_many was.each is);
  }

  pub no_others_held : (files : Files) (may_leave : Files → Type 0) (nodes : List (List Prepared)) (logs : List (Option LogState)) → AreOthersHeld files may_leave last committed node nodes logs 0
  no_others_held files may_leave nodes logs = record { each = λ n less. absurd (omega (arith, less)); opened = λ n less. absurd (omega (arith, less)) }

  pub other_held : (files : Files) (may_old may_new : Files → Type 0) (nodes all : List (List Prepared)) (entries : List Prepared) (logs more : List (Option LogState)) (log : Option LogState) (n : ℕ)
      → AreOthersHeld files may_old last committed node nodes logs n → NoMore may_old may_new → length nodes ≡ n → length logs ≡ n → (n ≢ node → HoldsEntries files last committed n entries)
      → IfSome log (λ l. IsOpened l files may_new) → all ≡ nodes ++ entries ∷ [] → more ≡ logs ++ log ∷ [] → AreOthersHeld files may_new last committed node all more (n + 1)
  other_held files may_old may_new nodes all entries logs more log n was fewer long as_many holds opened are longer = record {
    each = rw are (one_more (λ m es. m ≢ node → HoldsEntries files last committed m es) nodes entries [] n long was.each holds);
    opened = rw longer (one_more (λ m l. IfSome l (λ x. IsOpened x files may_new)) logs log None n as_many (λ m less. some_still files may_old may_new _ fewer (was.opened m less)) opened);
  }

-- ---- what is had

pub are_parts : (node : ℕ) (files : Files) (c : Contents) (parts : Parts) → HoldsBut node files c → HasParts c parts → ArePartsOf node files parts
are_parts node files c parts held has = record {
  contents = c;
  holds = held;
  has = λ d again.
      let one : c.setting ≡ d.setting = (one_layouts c.earlier d.earlier c.setting d.setting (files 0) held.history.layouts again.history.layouts).setting in
      let commits : c.commits ≡ d.commits = one_chief_file files c.setting d.setting c.base d.base c.commits d.commits one held.history.commits again.history.commits in
      record { layout = has.layout ∙ ap (λ (s : Setting). s.entry) one; epochs = has.epochs ∙ ap commit_epochs commits };
}

pub some_stands : (o : Option LogState) (reads : Option Files) (may_leave : Files → Type 0) → ((files : Files) → reads ≡ Some files → IfSome o (λ log. IsOpened log files may_leave))
    → IfSome o (λ log. Stands log reads may_leave)
some_stands None reads may_leave opened = tt
some_stands (Some log) reads may_leave opened = stands_so log reads may_leave opened

pub left_other : (o : Option LogState) (files : Files) (may_leave : Files → Type 0) (file : ℕ) → MatchOption o ⊥ (λ l. IsFresh l file prepared_kind) → IfSome o (λ l. IsOpened l files may_leave)
    → (image : Files) → may_leave image → image file ≡ files file
left_other None files may_leave file there opened image left = absurd there
left_other (Some log) files may_leave file there opened image left = left_opened log files may_leave file prepared_kind there opened image left

some_left : (o : Option ℕ) (files image : Files) (may_leave : Files → Type 0) → may_leave image → IsLeft o files may_leave → IfSome o (λ f. image f ≡ files f)
some_left None files image may_leave left base = tt
some_left (Some file) files image may_leave left base = base image left

pub rests_but : (node : ℕ) (files : Files) (h : StoreHistory) (c : Contents) (reads : Option Files) (may_leave : Files → Type 0) → IsHistoryRead h → IsHistoryHeld files may_leave h → reads ≡ Some files → IsGoodBut node files c
    → ((n : ℕ) → n < h.last.entry.layout.nodes → n ≢ node → (image : Files) → may_leave image → image (file_of (setting_of h.last) n) ≡ files (file_of (setting_of h.last) n))
    → RestsBut node c reads may_leave
rests_but node files h c reads may_leave had held told good others =
    let one : setting_of h.last ≡ c.setting = sym (one_layouts c.earlier held.last.earlier c.setting (setting_of h.last) (files 0) good.holds.history.layouts held.last.holds).setting in
    record {
      files = files;
      are = told;
      good = good;
      left = λ image left.
          good_still node files image c (left_opened h.root files may_leave 0 0 had.root held.root image left)
          (subst (λ (s : Setting). IfSome s.entry.base_file (λ f. image f ≡ files f)) one (some_left h.last.entry.base_file files image may_leave left held.base_left))
          (subst (λ (s : Setting). image (chief_of s) ≡ files (chief_of s)) one (left_opened h.chief files may_leave h.last.entry.layout.chief_file 1 had.chief held.chief image left))
          (subst (λ (s : Setting). (n : ℕ) → n < s.entry.layout.nodes → n ≢ node → image (file_of s n) ≡ files (file_of s n)) one (λ n less other. others n less other image left))
          good;
    }
