-- Where a file is refused, no store is in the files.
use Rattle.std.proofs.Common.{◌≡◌, ◌≢◌, ℕ, ◌<◌, List, [], ◌∷◌, ◌++◌, map, Option, Some, refl, sym, ◌∙◌, ap, subst, arith, append_assoc, ⊎_elim}
use Rattle.std.specs.Prelude.{Result, Ok, Err, slice_index}
use Rattle.std.specs.List.{All, AllByRecursion, flat_map}
use Rattle.std.proofs.lemmas.List.Elements.{All-head, All-tail}
use Rattle.std.proofs.lemmas.Bool.{cases_lt}
use Rattle.std.proofs.Math.Nat.{eq-or-lt_of_le}
use Rattle.coco_host.specs.Files.{Files}
use Rattle.coco_ast.proofs.Lists.{all_append, all_right}
use Rattle.coco_bytes.specs.declared.fault.FieldFault.{FieldFault}
use Rattle.coco_bytes.specs.Lists.{last_item}
use Rattle.coco_entry.specs.declared.commit.Commit.{Commit}
use Rattle.coco_entry.specs.declared.layout.LayoutEntry.{LayoutEntry}
use Rattle.coco_entry.specs.declared.prepared.Prepared.{Prepared}
use Rattle.coco_entry.specs.declared.prepared.Row.{Row}
use Rattle.coco_entry.specs.Bases.{AreBaseDones, AreBaseRows, IsHead, base_done_bytes, base_dones_at, base_dones_bytes, base_row_bytes, base_rows_at, base_rows_bytes, head_at, head_bytes}
use Rattle.coco_entry.specs.Calls.{done_bytes}
use Rattle.coco_entry.specs.Commits.{IsCommit, commit_at, commit_bytes, commit_in}
use Rattle.coco_entry.specs.Layouts.{IsLayout, layout_at, layout_bytes, layout_in}
use Rattle.coco_entry.specs.Rows.{IsPrepared, prepared_at, prepared_bytes, prepared_in}
use Rattle.coco_entry.proofs.BaseLemmas.{base_dones_agree, base_rows_agree, head_agrees}
use Rattle.coco_entry.proofs.EntryLemmas.{commit_agrees, prepared_agrees}
use Rattle.coco_entry.proofs.GrammarLemmas.{entry_again}
use Rattle.coco_entry.proofs.LayoutLemmas.{layout_agrees}
use Rattle.coco_log.specs.Grammar.{entry, header, IsShort}
use Rattle.coco_log.proofs.OneLog.{behind_header, fits_or_not, front_gate, peel}
use Rattle.coco_store.specs.Contents.{Contents, HoldsBase, HoldsCommits, HoldsHistory, HoldsLayouts, HoldsNode, IsGoodLayout, chief_of, file_of}
use Rattle.coco_store.specs.Entries.{AreBase, BaseEntry, Dones, Head, IsBaseEntry, IsLogOf, Values, base_bytes, base_kind, commits_kind, layouts_kind, prepared_kind}
use Rattle.coco_store.specs.Refusals.{AreCommitsRefused, AreLayoutsRefused, BaseBreaks, CommitBreaks, GoesOnWith, IsBaseRefused, IsFirst, IsFirstRefusal, IsNodeRefused, IsRefusedAt, ItemBreaks, LayoutBreaks, PreparedBreaks, OneRefusal, RefusedIsNone, at_tag, base_behind, base_in, mapped, may_stand, no_log, no_entry, breaks, lacks, bad_nodes, bad_partitions, bad_copies, bad_base_epoch, bad_text, bad_keep, bad_order, bad_kept_done, bad_value, bad_commit_epoch, bad_done, bad_prepared_epoch, bad_row, in_layouts, in_base, in_commits, in_node}
use Rattle.coco_store.specs.Rules.{EachBehind, HavePrepared, IsBase, IsCommittedDone, IsKeptDone, IsNextBase, IsNextCommit, IsNextPrepared, IsNextValue, IsNodeRow, IsWhole, Setting, base_values, dones_in, dones_of, kept_dones, values_of}
use Rattle.coco_store.proofs.Growing.{each_at}
use Rattle.coco_store.proofs.OneStore.{behind, one_base, one_base_file, one_chief_file, one_commit, one_layout, one_layouts, one_prepared}
use Rattle.coco_store.proofs.Logs.{headed, one_entries}

-- ---- what a log begins with are its first entries

record IsFollowed (ys zs : List (List ℕ)) : Type 0 where
  more : List (List ℕ)
  is : ys ≡ zs ++ more

followed : (y z : List ℕ) (ys zs : List (List ℕ)) → y ≡ z → IsFollowed ys zs → IsFollowed (y ∷ ys) (z ∷ zs)
followed y z ys zs same rest = record { more = rest.more; is = ap (λ (x : List ℕ). x ∷ ys) same ∙ ap (λ (l : List (List ℕ)). z ∷ l) rest.is }

first_bodies : (ys zs : List (List ℕ)) (h g : ℕ) (s r : List ℕ) → All IsShort ys → All IsShort zs → h ≢ 1 → flat_map entry ys ++ h ∷ s ≡ flat_map entry zs ++ g ∷ r → IsFollowed ys zs
first_bodies ys [] h g s r short also shut e = record { more = ys; is = refl }
first_bodies [] (z ∷ zs) h g s r short also shut e = absurd (shut (front_gate (h ∷ s) (flat_map entry (z ∷ zs) ++ g ∷ r) e))
first_bodies (y ∷ ys) (z ∷ zs) h g s r short also shut e =
    let two = peel y z (flat_map entry ys ++ h ∷ s) (flat_map entry zs ++ g ∷ r) (All-head IsShort y ys short) (All-head IsShort z zs also)
    (sym (append_assoc (entry y) (flat_map entry ys) (h ∷ s)) ∙ e ∙ append_assoc (entry z) (flat_map entry zs) (g ∷ r)) in
    followed y z ys zs two.first (first_bodies ys zs h g s r (All-tail IsShort y ys short) (All-tail IsShort z zs also) shut two.behind)

module _ {E : Type 0} (kind : ℕ) (bytes_of : E → List ℕ) (Is : E → Type 0) (one : (x y : E) → Is x → Is y → bytes_of x ≡ bytes_of y → x ≡ y) where
  -- the entry of a body, and those behind it
  record HasNext (xs entries : List E) (body : List ℕ) : Type 0 where
    next : E
    is-next : Is next
    bytes : body ≡ bytes_of next
    more : List E
    is : xs ≡ entries ++ next ∷ more

  next_behind : (x y : E) (xs entries : List E) (body : List ℕ) → x ≡ y → HasNext xs entries body → HasNext (x ∷ xs) (y ∷ entries) body
  next_behind x y xs entries body same rest = record {
    next = rest.next;
    is-next = rest.is-next;
    bytes = rest.bytes;
    more = rest.more;
    is = ap (λ (z : E). z ∷ xs) same ∙ ap (λ (l : List E). y ∷ l) rest.is;
  }

  next_of : (xs entries : List E) (body : List ℕ) (more : List (List ℕ)) → AllByRecursion Is xs → AllByRecursion Is entries → map bytes_of xs ≡ (map bytes_of entries ++ body ∷ []) ++ more
      → HasNext xs entries body
  next_of [] [] body more are also e = let none : ◌≡◌ {A = List (List ℕ)} [] (body ∷ more) = e in cc
  next_of [] (y ∷ entries) body more are also e = let none : ◌≡◌ {A = List (List ℕ)} [] (bytes_of y ∷ ((map bytes_of entries ++ body ∷ []) ++ more)) = e in cc
  next_of (x ∷ xs) [] body more are also e = let same : bytes_of x ≡ body = cc in record { next = x; is-next = are.0; bytes = sym same; more = xs; is = refl }
  next_of (x ∷ xs) (y ∷ entries) body more are also e =
      let here : bytes_of x ≡ bytes_of y = cc in
      let there : map bytes_of xs ≡ (map bytes_of entries ++ body ∷ []) ++ more = cc in
      next_behind x y xs entries body (one x y are.0 also.0 here) (next_of xs entries body more are.1 also.1 there)

  goes_on : (xs entries : List E) (body file : List ℕ) → IsLogOf kind bytes_of Is xs file → GoesOnWith kind bytes_of Is entries body file → HasNext xs entries body
  goes_on xs entries body file log next =
      let bodies : List (List ℕ) = map bytes_of entries ++ body ∷ [] in
      let first = first_bodies (map bytes_of xs) bodies log.log.gate next.gate log.log.behind next.behind log.log.short next.short log.log.shut
      (behind_header kind (flat_map entry (map bytes_of xs) ++ log.log.gate ∷ log.log.behind) (flat_map entry bodies ++ next.gate ∷ next.behind)
      (sym (headed kind (map bytes_of xs) file log.log) ∙ next.is ∙ append_assoc (header kind) (flat_map entry bodies) (next.gate ∷ next.behind))) in
      next_of xs entries body first.more log.are next.are first.is

  -- a file that holds entries which keep their rules isn't refused
  pub unrefused : (read : List E → List ℕ → Result E FieldFault) (Rule : List E → E → Type 0) (Breaks : List E → E → ℕ → Type 0) (Lacks : List E → Type 0)
      → ((before : List E) (e : E) → Is e → read before (bytes_of e) ≡ Ok e)
      → ((before : List E) (e : E) (at : ℕ) → Rule before e → Breaks before e at → ⊥)
      → (xs : List E) (file : List ℕ) → IsLogOf kind bytes_of Is xs file → EachBehind Rule [] xs → (Lacks xs → ⊥)
      → (at : ℕ) → IsRefusedAt kind bytes_of Is read Breaks Lacks file at → ⊥
  unrefused read Rule Breaks Lacks reads keeps xs file log each whole at (no_log fits) = fits_or_not kind file (map bytes_of xs) at log.log fits
  unrefused read Rule Breaks Lacks reads keeps xs file log each whole at (no_entry {entries = entries} {body = body} next fault) =
      let n = goes_on xs entries body file log next in
      let is : read entries body ≡ Ok n.next = ap (read entries) n.bytes ∙ reads entries n.next n.is-next in
      let two : ◌≡◌ {A = Result E FieldFault} (Ok n.next) (Err fault.0) = sym is ∙ fault.1 in
      cc
  unrefused read Rule Breaks Lacks reads keeps xs file log each whole at (breaks {entries = entries} {e = e} {at = place} next is broken) =
      let n = goes_on xs entries (bytes_of e) file log next in
      let same : n.next ≡ e = one n.next e n.is-next is (sym n.bytes) in
      let rule : Rule entries n.next = (each_at Rule [] entries n.next n.more (subst (λ (l : List E). EachBehind Rule [] l) n.is each)).0 in
      keeps entries e place (subst (λ (x : E). Rule entries x) same rule) broken
  unrefused read Rule Breaks Lacks reads keeps xs file log each whole at (lacks {entries = entries} also lack) =
      whole (subst Lacks (one_entries kind bytes_of Is one entries xs file also log) lack)

-- an item of a list that keeps its rule doesn't break it
pub kept_item : {A : Type 0} (Rule : List A → A → Type 0) (bytes_of : A → List ℕ) (before items : List A) (at : ℕ) → EachBehind Rule before items → ItemBreaks Rule bytes_of before items at → ⊥
kept_item {A} Rule bytes_of before items at each b =
    b.broken (each_at Rule before b.ahead b.item b.behind (subst (λ (l : List A). EachBehind Rule before l) b.is each)).0

-- ---- each kind of file

each_of_all : {A : Type 0} (P : A → Type 0) (before xs : List A) → AllByRecursion P xs → EachBehind (λ _. P) before xs
each_of_all P before [] all = tt
each_of_all P before (x ∷ xs) all = (all.0, each_of_all P (before ++ x ∷ []) xs all.1)

layout_reads : (e : LayoutEntry) → IsLayout e → layout_in (layout_bytes e) ≡ Ok e
layout_reads e is = entry_again 1 layout_at _ IsLayout layout_agrees (layout_bytes e) e (omega arith) is refl

layout_keeps : (e : LayoutEntry) (at : ℕ) → IsGoodLayout e → LayoutBreaks e at → ⊥
layout_keeps e at good (bad_nodes broken) = broken good.limits.nodes
layout_keeps e at good (bad_partitions broken) = broken good.limits.partitions
layout_keeps e at good (bad_copies broken) = broken good.limits.copies
layout_keeps e at good (bad_base_epoch broken) = broken good.limits.base_epoch
layout_keeps e at good (bad_text broken) = broken good.tree good.accepted
layout_keeps e at good (bad_keep broken) = broken good.limits.keep

layouts_unrefused : (earlier : List LayoutEntry) (s : Setting) (file : List ℕ) → HoldsLayouts earlier s file → (at : ℕ) → AreLayoutsRefused file at → ⊥
layouts_unrefused earlier s file h =
    let last : IsGoodLayout s.entry = record { limits = h.limits; tree = s.tree; accepted = h.tree } in
    unrefused layouts_kind layout_bytes IsLayout one_layout (λ _. layout_in) (λ _. IsGoodLayout) (λ _ e. LayoutBreaks e) (λ entries. entries ≡ []) (λ _. layout_reads) (λ _ e at. layout_keeps e at)
    (earlier ++ s.entry ∷ []) file h.are (each_of_all IsGoodLayout [] (earlier ++ s.entry ∷ []) (all_append IsGoodLayout earlier (s.entry ∷ []) h.each (last, tt))) (behind s.entry earlier s.entry)

base_reads : (e : BaseEntry) → IsBaseEntry e → base_in (base_bytes e) ≡ Ok e
base_reads (Head head) is = ap (mapped Head) (entry_again 4 head_at _ IsHead head_agrees (head_bytes head) head (omega arith) is refl)
base_reads (Dones dones) is = ap (mapped Dones) (entry_again 5 base_dones_at _ AreBaseDones base_dones_agree (base_dones_bytes dones) dones (omega arith) is refl)
base_reads (Values rows) is = ap (mapped Values) (entry_again 6 base_rows_at _ AreBaseRows base_rows_agree (base_rows_bytes rows) rows (omega arith) is refl)

base_stands : (before : List BaseEntry) (e : BaseEntry) → IsBaseEntry e → base_behind before (base_bytes e) ≡ Ok e
base_stands before e is = ap (λ (r : Result BaseEntry FieldFault). at_tag r (may_stand (last_item before) (slice_index (base_bytes e) 0))) (base_reads e is)

base_keeps : (s : Setting) (before : List BaseEntry) (e : BaseEntry) (at : ℕ) → IsNextBase s before e → BaseBreaks s before e at → ⊥
base_keeps s before e at next (bad_order broken) = broken next.order
base_keeps s before e at next (bad_kept_done {at = place} item) = kept_item (IsKeptDone s) base_done_bytes (kept_dones before) (dones_of e) place next.dones item
base_keeps s before e at next (bad_value {at = place} item) = kept_item (IsNextValue s) base_row_bytes (base_values before) (values_of e) place next.values item

base_unrefused : (s : Setting) (entries : List BaseEntry) (file : List ℕ) → AreBase entries file → IsBase s entries → (at : ℕ) → IsBaseRefused s file at → ⊥
base_unrefused s entries file are h =
    unrefused base_kind base_bytes IsBaseEntry one_base base_behind (IsNextBase s) (BaseBreaks s) (λ es. ¬ (IsWhole es)) base_stands (base_keeps s) entries file are h.each (λ broken. broken h.whole)

commit_reads : (e : Commit) → IsCommit e → commit_in (commit_bytes e) ≡ Ok e
commit_reads e is = entry_again 2 commit_at _ IsCommit commit_agrees (commit_bytes e) e (omega arith) is refl

commit_keeps : (s : Setting) (base : List BaseEntry) (before : List Commit) (e : Commit) (at : ℕ) → IsNextCommit s base before e → CommitBreaks s base before e at → ⊥
commit_keeps s base before e at next (bad_commit_epoch broken) = broken next.epoch
commit_keeps s base before e at next (bad_done {at = place} item) = kept_item (IsCommittedDone s base) done_bytes (kept_dones base ++ dones_in before) e.dones place next.dones item

commits_unrefused : (s : Setting) (base : List BaseEntry) (commits : List Commit) (file : List ℕ) → HoldsCommits s base commits file → (at : ℕ) → AreCommitsRefused s base file at → ⊥
commits_unrefused s base commits file h =
    unrefused commits_kind commit_bytes IsCommit one_commit (λ _. commit_in) (IsNextCommit s base) (CommitBreaks s base) (λ _. ⊥) (λ _. commit_reads) (commit_keeps s base) commits file h.are h.each (λ never. never)

prepared_reads : (e : Prepared) → IsPrepared e → prepared_in (prepared_bytes e) ≡ Ok e
prepared_reads e is = entry_again 3 prepared_at _ IsPrepared prepared_agrees (prepared_bytes e) e (omega arith) is refl

prepared_keeps : (s : Setting) (n : ℕ) (before : List Prepared) (e : Prepared) (at : ℕ) → IsNextPrepared s n before e → PreparedBreaks s n before e at → ⊥
prepared_keeps s n before e at next (bad_prepared_epoch broken) = broken next.epoch
prepared_keeps s n before e at next (bad_row item) =
    item.broken (all_right (IsNodeRow s n) item.ahead (item.item ∷ item.behind) (subst (λ (l : List Row). AllByRecursion (IsNodeRow s n) l) item.is next.rows)).0

node_unrefused : (s : Setting) (commits : List Commit) (n : ℕ) (entries : List Prepared) (file : List ℕ) → HoldsNode s commits n entries file → (at : ℕ) → IsNodeRefused s commits n file at → ⊥
node_unrefused s commits n entries file h =
    unrefused prepared_kind prepared_bytes IsPrepared one_prepared (λ _. prepared_in) (IsNextPrepared s n) (PreparedBreaks s n) (λ es. ¬ (HavePrepared es commits)) (λ _. prepared_reads) (prepared_keeps s n)
    entries file h.are h.each (λ broken. broken h.committed)

-- ---- what holds of a file isn't refused in it

no_layouts : (files : Files) (earlier : List LayoutEntry) (s : Setting) (at : ℕ) → IsFirst (AreLayoutsRefused (files 0)) at → HoldsLayouts earlier s (files 0) → ⊥
no_layouts files earlier s at first h = layouts_unrefused earlier s (files 0) h at first.refused

no_base : (files : Files) (s t : Setting) (base : List BaseEntry) (file at : ℕ) → s ≡ t → s.entry.base_file ≡ Some file → IsFirst (IsBaseRefused s (files file)) at
    → HoldsBase files t base t.entry.base_file → ⊥
no_base files s t base file at same is first h =
    let there : t.entry.base_file ≡ Some file = ap (λ (u : Setting). u.entry.base_file) (sym same) ∙ is in
    let b : HoldsBase files t base (Some file) = subst (HoldsBase files t base) there h in
    base_unrefused t base (files file) b.0 b.1 at (subst (λ (u : Setting). IsBaseRefused u (files file) at) same first.refused)

no_commits : (files : Files) (s t : Setting) (bs ds : List BaseEntry) (commits : List Commit) (at : ℕ) → s ≡ t → bs ≡ ds → IsFirst (AreCommitsRefused s bs (files (chief_of s))) at
    → HoldsCommits t ds commits (files (chief_of t)) → ⊥
no_commits files s t bs ds commits at same based first h =
    commits_unrefused t ds commits (files (chief_of t)) h at
    (subst (λ (u : Setting). AreCommitsRefused u ds (files (chief_of u)) at) same (subst (λ (l : List BaseEntry). AreCommitsRefused s l (files (chief_of s)) at) based first.refused))

no_node : (files : Files) (s t : Setting) (xs ys : List Commit) (n : ℕ) (entries : List Prepared) (at : ℕ) → s ≡ t → xs ≡ ys → IsFirst (IsNodeRefused s xs n (files (file_of s n))) at
    → HoldsNode t ys n entries (files (file_of t n)) → ⊥
no_node files s t xs ys n entries at same lists first h =
    node_unrefused t ys n entries (files (file_of t n)) h at
    (subst (λ (u : Setting). IsNodeRefused u ys n (files (file_of u n)) at) same (subst (λ (l : List Commit). IsNodeRefused s l n (files (file_of s n)) at) lists first.refused))

-- ---- two readings of the same files

same_setting : (files : Files) (xs ys : List LayoutEntry) (s t : Setting) → HoldsLayouts xs s (files 0) → HoldsLayouts ys t (files 0) → s ≡ t
same_setting files xs ys s t h k = (one_layouts xs ys s t (files 0) h k).setting

record AreAlike (c d : Contents) : Type 0 where
  setting : c.setting ≡ d.setting
  base : c.base ≡ d.base
  commits : c.commits ≡ d.commits

alike : (files : Files) (c d : Contents) → HoldsHistory files c → HoldsHistory files d → AreAlike c d
alike files c d h k =
    let same = same_setting files c.earlier d.earlier c.setting d.setting h.layouts k.layouts in
    record {
      setting = same;
      base = one_base_file files c.setting d.setting c.base d.base same h.base k.base;
      commits = one_chief_file files c.setting d.setting c.base d.base c.commits d.commits same h.commits k.commits;
    }

-- ---- the files

pub refused_is_none : RefusedIsNone
refused_is_none files file at (in_layouts first) c holds = no_layouts files c.earlier c.setting at first holds.history.layouts
refused_is_none files file at (in_base {earlier = earlier} {s = s} h is first) c holds =
    no_base files s c.setting c.base file at (same_setting files earlier c.earlier s c.setting h holds.history.layouts) is first holds.history.base
refused_is_none files file at (in_commits {earlier = earlier} {s = s} {base = base} h b first) c holds =
    let same = same_setting files earlier c.earlier s c.setting h holds.history.layouts in
    no_commits files s c.setting base c.base c.commits at same (one_base_file files s c.setting base c.base same b holds.history.base) first holds.history.commits
refused_is_none files file at (in_node {c = d} {n = n} h less before first) c holds =
    let same = alike files d c h holds.history in
    no_node files d.setting c.setting d.commits c.commits n (c.prepared n) at same.setting same.commits first
    (holds.nodes n (subst (λ (u : Setting). n < u.entry.layout.nodes) same.setting less))

-- the least of the same places
one_place : (R : ℕ → Type 0) (a b : ℕ) → IsFirst R a → IsFirst R b → a ≡ b
one_place R a b first second = let low = first.least b second.refused in let high = second.least a first.refused in omega (arith, low, high)

layouts_with : (files : Files) (a g b : ℕ) → IsFirst (AreLayoutsRefused (files 0)) a → IsFirstRefusal files g b → (0 ≡ g) × (a ≡ b)
layouts_with files a g b first (in_layouts second) = (refl, one_place (AreLayoutsRefused (files 0)) a b first second)
layouts_with files a g b first (in_base {earlier = earlier} {s = s} h is second) = absurd (no_layouts files earlier s a first h)
layouts_with files a g b first (in_commits {earlier = earlier} {s = s} h base second) = absurd (no_layouts files earlier s a first h)
layouts_with files a g b first (in_node {c = d} h less before second) = absurd (no_layouts files d.earlier d.setting a first h.layouts)

base_with : (files : Files) (earlier : List LayoutEntry) (s : Setting) (f a g b : ℕ) → HoldsLayouts earlier s (files 0) → s.entry.base_file ≡ Some f → IsFirst (IsBaseRefused s (files f)) a
    → IsFirstRefusal files g b → (f ≡ g) × (a ≡ b)
base_with files earlier s f a g b h is first (in_layouts second) = absurd (no_layouts files earlier s b second h)
base_with files earlier s f a g b h is first (in_base {earlier = others} {s = t} k also second) =
    let same = same_setting files others earlier t s k h in
    let two : ◌≡◌ {A = Option ℕ} (Some f) (Some g) = sym is ∙ ap (λ (u : Setting). u.entry.base_file) (sym same) ∙ also in
    let file : f ≡ g = cc in (
      file,
      one_place (IsBaseRefused s (files f)) a b first
          (subst (λ (k : ℕ). IsFirst (IsBaseRefused s (files k)) b) (sym file) (subst (λ (u : Setting). IsFirst (IsBaseRefused u (files g)) b) same second)),
    )
base_with files earlier s f a g b h is first (in_commits {earlier = others} {s = t} {base = base} k held second) =
    absurd (no_base files s t base f a (same_setting files earlier others s t h k) is first held)
base_with files earlier s f a g b h is first (in_node {c = d} k less before second) =
    absurd (no_base files s d.setting d.base f a (same_setting files earlier d.earlier s d.setting h k.layouts) is first k.base)

commits_with : (files : Files) (earlier : List LayoutEntry) (s : Setting) (base : List BaseEntry) (a g b : ℕ) → HoldsLayouts earlier s (files 0) → HoldsBase files s base s.entry.base_file
    → IsFirst (AreCommitsRefused s base (files (chief_of s))) a → IsFirstRefusal files g b → (chief_of s ≡ g) × (a ≡ b)
commits_with files earlier s base a g b h held first (in_layouts second) = absurd (no_layouts files earlier s b second h)
commits_with files earlier s base a g b h held first (in_base {earlier = others} {s = t} k is second) =
    absurd (no_base files t s base g b (same_setting files others earlier t s k h) is second held)
commits_with files earlier s base a g b h held first (in_commits {earlier = others} {s = t} {base = ds} k also second) =
    let same = same_setting files others earlier t s k h in
    let based = one_base_file files t s ds base same also held in (
      ap chief_of (sym same),
      one_place (AreCommitsRefused s base (files (chief_of s))) a b first
          (subst (λ (u : Setting). IsFirst (AreCommitsRefused u base (files (chief_of u))) b) same
          (subst (λ (l : List BaseEntry). IsFirst (AreCommitsRefused t l (files (chief_of t))) b) based second)),
    )
commits_with files earlier s base a g b h held first (in_node {c = d} k less before second) =
    let same = same_setting files earlier d.earlier s d.setting h k.layouts in
    absurd (no_commits files s d.setting base d.base d.commits a same (one_base_file files s d.setting base d.base same held k.base) first k.commits)

abbrev AreBefore : Files → Contents → ℕ → Type 0
AreBefore files c n = (m : ℕ) → m < n → HoldsNode c.setting c.commits m (c.prepared m) (files (file_of c.setting m))

node_with : (files : Files) (c : Contents) (n a g b : ℕ) → HoldsHistory files c → AreBefore files c n → IsFirst (IsNodeRefused c.setting c.commits n (files (file_of c.setting n))) a
    → IsFirstRefusal files g b → (file_of c.setting n ≡ g) × (a ≡ b)
node_with files c n a g b h before first (in_layouts second) = absurd (no_layouts files c.earlier c.setting b second h.layouts)
node_with files c n a g b h before first (in_base {earlier = others} {s = t} k is second) =
    absurd (no_base files t c.setting c.base g b (same_setting files others c.earlier t c.setting k h.layouts) is second h.base)
node_with files c n a g b h before first (in_commits {earlier = others} {s = t} {base = ds} k also second) =
    let same = same_setting files others c.earlier t c.setting k h.layouts in
    absurd (no_commits files t c.setting ds c.base c.commits b same (one_base_file files t c.setting ds c.base same also h.base) second h.commits)
node_with files c n a g b h before first (in_node {c = d} {n = m} k less behind second) =
    let same = alike files d c k h in
    let there = alike files c d h k in
    ⊎_elim (λ low. absurd (no_node files c.setting d.setting c.commits d.commits n (d.prepared n) a there.setting there.commits first (behind n low)))
    (λ le. ⊎_elim
    (λ (e : m ≡ n). at_one m e d same.setting same.commits second)
    (λ high. absurd (no_node files d.setting c.setting d.commits c.commits m (c.prepared m) b same.setting same.commits second (before m high)))
    (eq-or-lt_of_le le)) (cases_lt n m)
  where
    at_one : (m : ℕ) → m ≡ n → (d : Contents) → d.setting ≡ c.setting → d.commits ≡ c.commits → IsFirst (IsNodeRefused d.setting d.commits m (files (file_of d.setting m))) b
        → (file_of c.setting n ≡ file_of d.setting m) × (a ≡ b)
    at_one m e d same lists second = (
      ap (λ (u : Setting). file_of u n) (sym same) ∙ ap (file_of d.setting) (sym e),
      one_place (IsNodeRefused c.setting c.commits n (files (file_of c.setting n))) a b first
          (subst (λ (k : ℕ). IsFirst (IsNodeRefused c.setting c.commits k (files (file_of c.setting k))) b) e
          (subst (λ (u : Setting). IsFirst (IsNodeRefused u c.commits m (files (file_of u m))) b) same
          (subst (λ (l : List Commit). IsFirst (IsNodeRefused d.setting l m (files (file_of d.setting m))) b) lists second))),
    )

pub one_refusal : OneRefusal
one_refusal files f g a b (in_layouts first) other = layouts_with files a g b first other
one_refusal files f g a b (in_base {earlier = earlier} {s = s} h is first) other = base_with files earlier s f a g b h is first other
one_refusal files f g a b (in_commits {earlier = earlier} {s = s} {base = base} h held first) other = commits_with files earlier s base a g b h held first other
one_refusal files f g a b (in_node {c = c} {n = n} h less before first) other = node_with files c n a g b h before first other
