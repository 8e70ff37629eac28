-- Files hold one store at most.
use Rattle.std.proofs.Common.{◌≡◌, ◌≢◌, ℕ, ◌<◌, ◌^◌, List, [], ◌∷◌, ◌++◌, get_or, map, Option, Some, None, refl, sym, ap, subst, ◌∙◌, arith}
use Rattle.std.specs.Prelude.{Result, Ok}
use Rattle.coco_types.specs.RowKey.{RowKey}
use Rattle.coco_types.specs.declared.call.Done.{Done}
use Rattle.coco_types.specs.declared.value.Value.{Value}
use Rattle.coco_host.specs.Files.{Files}
use Rattle.coco_ast.specs.Checks.{behind_builtins}
use Rattle.coco_ast.specs.Keyed.{put_over}
use Rattle.coco_ast.specs.Tree.{Procedures}
use Rattle.coco_bytes.specs.declared.fault.FieldFault.{FieldFault}
use Rattle.coco_bytes.specs.Reads.{Agree}
use Rattle.coco_entry.specs.declared.base.BaseHead.{BaseHead}
use Rattle.coco_entry.specs.declared.commit.Commit.{Commit}
use Rattle.coco_entry.specs.declared.layout.LayoutEntry.{LayoutEntry}
use Rattle.coco_entry.specs.declared.prepared.Prepared.{Prepared}
use Rattle.coco_entry.specs.Bases.{base_dones_at, base_rows_at, head_at, head_bytes, base_dones_bytes, base_rows_bytes, AreBaseDones, AreBaseRows, IsHead}
use Rattle.coco_entry.specs.Commits.{IsCommit, commit_at, commit_bytes}
use Rattle.coco_entry.specs.Grammar.{Reader}
use Rattle.coco_entry.specs.Layouts.{IsLayout, layout_at, layout_bytes}
use Rattle.coco_entry.specs.Rows.{IsPrepared, prepared_at, prepared_bytes}
use Rattle.coco_entry.proofs.BaseLemmas.{base_dones_agree, base_rows_agree, head_agrees}
use Rattle.coco_entry.proofs.EntryLemmas.{commit_agrees, prepared_agrees}
use Rattle.coco_entry.proofs.GrammarLemmas.{entry_again}
use Rattle.coco_entry.proofs.LayoutLemmas.{layout_agrees}
use Rattle.coco_lex.specs.declared.error.LexError.{LexError}
use Rattle.coco_lex.specs.declared.token.Token.{Token}
use Rattle.coco_lex.proofs.Readings.{one_reading}
use Rattle.coco_parse.specs.declared.error.ParseError.{ParseError}
use Rattle.coco_parse.specs.Refusal.{IsTreeOf}
use Rattle.coco_parse.specs.Wording.{words_of}
use Rattle.coco_parse.proofs.Verdicts.{one-reading}
use Rattle.coco_store.specs.Contents.{HoldsBase, HoldsCommits, HoldsLayouts, chief_of, committed_writes, epoch_of, file_of, on}
use Rattle.coco_store.specs.Entries.{BaseEntry, Dones, Head, IsBaseEntry, Values, base_bytes, base_kind, commits_kind, layouts_kind, prepared_kind, AreCommits, ArePrepared}
use Rattle.coco_store.specs.Laws.{OneContents}
use Rattle.coco_store.specs.Rules.{Setting, base_of, commit_epochs}
use Rattle.coco_store.specs.Texts.{IsAcceptedText}
use Rattle.coco_store.proofs.Logs.{one_entries}

-- ---- an entry has bytes of its own

one_ok : {A : Type 0} (x y : A) → ◌≡◌ {A = Result A FieldFault} (Ok x) (Ok y) → x ≡ y
one_ok x y e = cc

one_entry : {A : Type 0} (tag : ℕ) (fields : Reader A) (bytes : A → List ℕ) (Fits : A → Type 0) → Agree fields bytes Fits → tag < 2 ^ 8
    → (x y : A) → Fits x → Fits y → tag ∷ bytes x ≡ tag ∷ bytes y → x ≡ y
one_entry tag fields bytes Fits agrees small x y is also e =
    one_ok x y (sym (entry_again tag fields bytes Fits agrees (tag ∷ bytes x) x small is refl) ∙ entry_again tag fields bytes Fits agrees (tag ∷ bytes x) y small also e)

pub one_layout : (x y : LayoutEntry) → IsLayout x → IsLayout y → layout_bytes x ≡ layout_bytes y → x ≡ y
one_layout = one_entry 1 layout_at _ IsLayout layout_agrees (omega arith)

pub one_commit : (x y : Commit) → IsCommit x → IsCommit y → commit_bytes x ≡ commit_bytes y → x ≡ y
one_commit = one_entry 2 commit_at _ IsCommit commit_agrees (omega arith)

pub one_prepared : (x y : Prepared) → IsPrepared x → IsPrepared y → prepared_bytes x ≡ prepared_bytes y → x ≡ y
one_prepared = one_entry 3 prepared_at _ IsPrepared prepared_agrees (omega arith)

one_head : (x y : BaseHead) → IsHead x → IsHead y → head_bytes x ≡ head_bytes y → x ≡ y
one_head = one_entry 4 head_at _ IsHead head_agrees (omega arith)

one_dones : (x y : List Done) → AreBaseDones x → AreBaseDones y → base_dones_bytes x ≡ base_dones_bytes y → x ≡ y
one_dones = one_entry 5 base_dones_at _ AreBaseDones base_dones_agree (omega arith)

one_values : (x y : List (RowKey × Value)) → AreBaseRows x → AreBaseRows y → base_rows_bytes x ≡ base_rows_bytes y → x ≡ y
one_values = one_entry 6 base_rows_at _ AreBaseRows base_rows_agree (omega arith)

-- two tags
tags : {G : Type 0} (s t : ℕ) (x y : List ℕ) → s ≢ t → s ∷ x ≡ t ∷ y → G
tags s t x y differ e = absurd (differ (ap (λ (l : List ℕ). get_or l 0 0) e))

pub one_base : (x y : BaseEntry) → IsBaseEntry x → IsBaseEntry y → base_bytes x ≡ base_bytes y → x ≡ y
one_base (Head x) (Head y) is also e = ap Head (one_head x y is also e)
one_base (Head x) (Dones y) is also e = tags 4 5 _ _ (omega arith) e
one_base (Head x) (Values y) is also e = tags 4 6 _ _ (omega arith) e
one_base (Dones x) (Head y) is also e = tags 5 4 _ _ (omega arith) e
one_base (Dones x) (Dones y) is also e = ap Dones (one_dones x y is also e)
one_base (Dones x) (Values y) is also e = tags 5 6 _ _ (omega arith) e
one_base (Values x) (Head y) is also e = tags 6 4 _ _ (omega arith) e
one_base (Values x) (Dones y) is also e = tags 6 5 _ _ (omega arith) e
one_base (Values x) (Values y) is also e = ap Values (one_values x y is also e)

-- ---- a text has one tree

same_tokens : (ts us : List Token) → ◌≡◌ {A = Result (List Token) LexError} (Ok ts) (Ok us) → ts ≡ us
same_tokens ts us e = cc

same_tree : (t u : Procedures) → ◌≡◌ {A = Result Procedures ParseError} (Ok t) (Ok u) → t ≡ u
same_tree t u e = cc

one_tree : (text : List ℕ) (t u : Procedures) → IsAcceptedText text t → IsAcceptedText text u → t ≡ u
one_tree text t u a b =
    let tokens : a.tokens ≡ b.tokens = same_tokens a.tokens b.tokens (one_reading text (Ok a.tokens) (Ok b.tokens) a.lexed b.lexed) in
    let parsed : IsTreeOf (words_of text b.tokens) a.own = subst (λ (ts : List Token). IsTreeOf (words_of text ts) a.own) tokens a.parsed in
    let own : a.own ≡ b.own = same_tree a.own b.own (one-reading text b.tokens (Ok a.own) (Ok b.own) parsed b.parsed) in
    a.whole ∙ ap behind_builtins own ∙ sym b.whole

-- ---- the last of a list

record AreBoth {A : Type 0} (xs ys : List A) (x y : A) : Type 0 where
  front : xs ≡ ys
  last : x ≡ y

pub behind : {A : Type 0} (x : A) (xs : List A) (y : A) → xs ++ y ∷ [] ≡ [] → ⊥
behind x [] y e = let no : y ∷ [] ≡ [] = e in cc
behind x (z ∷ xs) y e = let no : z ∷ (xs ++ y ∷ []) ≡ [] = e in cc

one_last : {A : Type 0} (xs ys : List A) (x y : A) → xs ++ x ∷ [] ≡ ys ++ y ∷ [] → AreBoth xs ys x y
one_last [] [] x y e = record { front = refl; last = cc }
one_last [] (z ∷ ys) x y e = let rest : [] ≡ ys ++ y ∷ [] = cc in absurd (behind z ys y (sym rest))
one_last (z ∷ xs) [] x y e = let rest : xs ++ x ∷ [] ≡ [] = cc in absurd (behind z xs x rest)
one_last (z ∷ xs) (w ∷ ys) x y e =
    let first : z ≡ w = cc in
    let rest : xs ++ x ∷ [] ≡ ys ++ y ∷ [] = cc in
    let both = one_last xs ys x y rest in
    let front : xs ≡ ys = both.front in
    record { front = cc; last = both.last }

-- ---- file by file

pub record AreOne (xs ys : List LayoutEntry) (s t : Setting) : Type 0 where
  pub earlier : xs ≡ ys
  pub setting : s ≡ t

pub one_layouts : (xs ys : List LayoutEntry) (s t : Setting) (file : List ℕ) → HoldsLayouts xs s file → HoldsLayouts ys t file → AreOne xs ys s t
one_layouts xs ys s t file a b =
    let both = one_last xs ys s.entry t.entry (one_entries layouts_kind layout_bytes IsLayout one_layout (xs ++ s.entry ∷ []) (ys ++ t.entry ∷ []) file a.are b.are) in
    let tree : s.tree ≡ t.tree = one_tree s.entry.layout.text s.tree t.tree a.tree (subst (λ (e : LayoutEntry). IsAcceptedText e.layout.text t.tree) (sym both.last) b.tree) in
    record { earlier = both.front; setting = λ i. record { entry = both.last i; tree = tree i } }

base_one : (files : Files) (s t : Setting) (xs ys : List BaseEntry) (o : Option ℕ) → HoldsBase files s xs o → HoldsBase files t ys o → xs ≡ ys
base_one files s t xs ys None a b = a ∙ sym b
base_one files s t xs ys (Some file) a b = one_entries base_kind base_bytes IsBaseEntry one_base xs ys (files file) a.0 b.0

pub one_base_file : (files : Files) (s t : Setting) (xs ys : List BaseEntry) → s ≡ t → HoldsBase files s xs s.entry.base_file → HoldsBase files t ys t.entry.base_file → xs ≡ ys
one_base_file files s t xs ys same a b =
    base_one files s t xs ys s.entry.base_file a (subst (λ (u : Setting). HoldsBase files t ys u.entry.base_file) (sym same) b)

pub one_chief_file : (files : Files) (s t : Setting) (bs ds : List BaseEntry) (xs ys : List Commit) → s ≡ t
    → HoldsCommits s bs xs (files (chief_of s)) → HoldsCommits t ds ys (files (chief_of t)) → xs ≡ ys
one_chief_file files s t bs ds xs ys same a b =
    one_entries commits_kind commit_bytes IsCommit one_commit xs ys (files (chief_of s)) a.are (subst (λ (u : Setting). AreCommits ys (files (chief_of u))) (sym same) b.are)

-- ---- stores

pub one_store : OneContents
one_store files c d a b =
    let both = one_layouts c.earlier d.earlier c.setting d.setting (files 0) a.history.layouts b.history.layouts in
    let setting : c.setting ≡ d.setting = both.setting in
    let base : c.base ≡ d.base = one_base_file files c.setting d.setting c.base d.base setting a.history.base b.history.base in
    let commits : c.commits ≡ d.commits = one_chief_file files c.setting d.setting c.base d.base c.commits d.commits setting a.history.commits b.history.commits in
    let prepared : (n : ℕ) → n < c.setting.entry.layout.nodes → c.prepared n ≡ d.prepared n = λ n less.
    one_entries prepared_kind prepared_bytes IsPrepared one_prepared (c.prepared n) (d.prepared n) (files (file_of c.setting n)) (a.nodes n less).are
    (subst (λ (u : Setting). ArePrepared (d.prepared n) (files (file_of u n))) (sym setting)
    (b.nodes n (subst (λ (u : Setting). n < u.entry.layout.nodes) setting less)).are) in
    record {
      earlier = both.earlier;
      setting = setting;
      base = base;
      commits = commits;
      prepared = prepared;
      history = λ i. record { base = base_of (setting i) (base i); epochs = map epoch_of (commits i); keep = (setting i).entry.keep };
      rows = λ n p less i. put_over (on (setting i) p (base_of (setting i) (base i)).rows) (committed_writes (setting i) p (commit_epochs (commits i)) (prepared n less i));
    }
