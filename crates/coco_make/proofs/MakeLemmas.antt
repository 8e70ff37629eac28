-- What the steps of a making come to.
use Rattle.std.proofs.Common.{◌≡◌, ◌≢◌, ◌⊎◌, inl, inr, ℕ, zero, suc, ◌+◌, ◌<◌, ◌≤◌, ◌==◌, ◌||◌, Bool, true, false, List, [], ◌∷◌, ◌++◌, length, drop, Option, Some, refl, sym, ap, subst, ◌∙◌, arith, append_assoc, length-append}
use Rattle.std.specs.Prelude.{slice_index}
use Rattle.std.proofs.lemmas.Bool.Decides.{nat_tests}
use Rattle.std.proofs.lemmas.List.{append-nil, drop_all}
use Rattle.coco_host.specs.Files.{Files, Follows, put}
use Rattle.coco_host.specs.Moments.{Observation, SeesOnly}
use Rattle.coco_host.specs.Record.{known}
use Rattle.coco_host.specs.declared.host.Host.{Ghosts as HostGhosts}
use Rattle.coco_ast.specs.Tree.{Procedures}
use Rattle.coco_entry.specs.declared.layout.Layout.{Layout}
use Rattle.coco_entry.specs.Layouts.{HasFields, is_named, layout_bytes}
use Rattle.coco_log.specs.Grammar.{entry, header, IsLog}
use Rattle.coco_log.specs.LogState.{ChangesOne}
use Rattle.coco_log.proofs.OnlyRead.{sees_then, sees_weaker}
use Rattle.coco_append.specs.Gaining.{RestsOn}
use Rattle.coco_store.specs.Contents.{IsGoodStore}
use Rattle.coco_store.specs.Entries.{commits_kind, layouts_kind, prepared_kind}
use Rattle.coco_store.specs.Rules.{IsWithinLimits}
use Rattle.coco_store.specs.Texts.{IsAcceptedText}
use Rattle.coco_store.proofs.Naming.{NamesApart, names_apart, unnamed_new}
use Rattle.coco_log.specs.Changes.{ChangesNamed, ChangesOnly, SameBesides}
use Rattle.coco_make.specs.Making.{IsNewOnceOpen, LeavesEmpty, LeavesOnlyLogs, ShowsNewOnly}
use Rattle.coco_make.specs.NewStore.{AreEmptyLogs, AreOnlyNewLogs, IsNewLayout, entry_of, log_bytes, new_contents}
use Rattle.coco_make.specs.Steps.{HasLayout, HaveEmptyLogs, HaveLogs, MayHave, with_log}
use Rattle.coco_make.proofs.LayoutLemmas.{no_entry}
use Rattle.coco_log.proofs.Changing.{changes_wider}
use Rattle.coco_make.proofs.StoreLemmas.{new_logs_are_a_store}

-- ---- the files of a layout

other_file : (file n : ℕ) → file ≢ n → is_named (file ∷ []) n ≡ false
other_file file n other = let off : (file == n) ≡ false = grind (arith, nat_tests) in ap (λ (b : Bool). b || false) off

neither : (a b : Bool) → a || b ≡ false → (a ≡ false) × (b ≡ false)
neither true b e = let no : true ≡ false = e in cc
neither false b e = (refl, e)

chief_named : (chief : ℕ) → is_named (0 ∷ chief ∷ []) chief ≡ true
chief_named chief = let on : (chief == chief) ≡ true = grind (arith, nat_tests) in either (0 == chief) _ (ap (λ (b : Bool). b || false) on)
  where
    either : (a b : Bool) → b ≡ true → a || b ≡ true
    either true b e = refl
    either false b e = e

module _ (layout : Layout) (fields : HasFields layout) where
  distinct : NamesApart (entry_of layout)
  distinct = names_apart (entry_of layout) (record { fields = fields; later = tt })

  -- the coordinator's file is no node's
  chief_apart : is_named layout.node_files layout.chief_file ≡ false
  chief_apart = unnamed_new (0 ∷ layout.chief_file ∷ []) layout.node_files layout.chief_file fields.files (chief_named layout.chief_file)

  node_apart : (n : ℕ) → n < layout.nodes → is_named (layout.chief_file ∷ []) (slice_index layout.node_files n) ≡ false
  node_apart n less = other_file layout.chief_file (slice_index layout.node_files n) (distinct.node-chief n less)

  -- file 0 is neither's
  pub own_apart : is_named (layout.chief_file ∷ layout.node_files) 0 ≡ false
  own_apart =
      let off : (layout.chief_file == 0) ≡ false = (let other = distinct.chief-own in grind (arith, nat_tests)) in
      ap (λ (b : Bool). b || is_named layout.node_files 0) off ∙ unnamed_new (0 ∷ layout.chief_file ∷ []) layout.node_files 0 fields.files refl

  chief_own : is_named (0 ∷ []) layout.chief_file ≡ false
  chief_own = other_file 0 layout.chief_file distinct.chief-own

  node_own : (n : ℕ) → n < layout.nodes → is_named (0 ∷ []) (slice_index layout.node_files n) ≡ false
  node_own n less = other_file 0 (slice_index layout.node_files n) (distinct.node-own n less)

  -- ---- the logs without entries

  empty_kept : (before after : Files) → SameBesides (0 ∷ []) before after → AreEmptyLogs layout before → AreEmptyLogs layout after
  empty_kept before after same logs = record {
    commits = subst (λ (l : List ℕ). IsLog commits_kind [] l) (sym (same layout.chief_file chief_own)) logs.commits;
    prepared = λ n less. subst (λ (l : List ℕ). IsLog prepared_kind [] l) (sym (same (slice_index layout.node_files n) (node_own n less))) (logs.prepared n less);
  }

  pub empty_made : (before : Files) (told reads : Option Files) (left leaves : Files → Type 0) (nodes : HaveLogs prepared_kind layout.node_files (length layout.node_files) before told left)
      → HaveLogs commits_kind (layout.chief_file ∷ []) 1 nodes.files reads leaves → Follows (SameBesides (layout.chief_file ∷ [])) left leaves → HaveEmptyLogs layout before reads leaves
  empty_made before told reads left leaves nodes chief crash = record {
    files = chief.files;
    are = chief.are;
    commits = chief.bytes 0 (omega arith) ∙ ap (λ (l : List ℕ). with_log commits_kind l) (nodes.others layout.chief_file chief_apart);
    prepared = λ n less. chief.others (slice_index layout.node_files n) (node_apart n less) ∙ nodes.bytes n (omega (arith, less, fields.count));
    others = λ n out.
        let two = neither (layout.chief_file == n) (is_named layout.node_files n) out in
        chief.others n (ap (λ (b : Bool). b || false) two.0) ∙ nodes.others n two.1;
    left = λ image leave. record {
      commits = chief.left image leave 0 (omega arith);
      prepared = λ n less.
          let from = crash image leave in
          subst (λ (l : List ℕ). IsLog prepared_kind [] l) (sym (from.2 (slice_index layout.node_files n) (node_apart n less))) (nodes.left from.0 from.1 n (omega (arith, less, fields.count)));
    };
  }

  -- ---- bytes

  -- a log without entries in a file without bytes
  fresh_log : (kind : ℕ) (file : List ℕ) → file ≡ [] → with_log kind file ≡ log_bytes kind []
  fresh_log kind file none = ap (λ (l : List ℕ). with_log kind l) none

  entry_behind : (kind : ℕ) (body : List ℕ) → put 8 (entry body ++ 0 ∷ []) (log_bytes kind []) ≡ log_bytes kind (body ∷ [])
  entry_behind kind body =
      let none : drop (8 + length (entry body ++ 0 ∷ [])) (log_bytes kind []) ≡ [] = drop_all (8 + length (entry body ++ 0 ∷ [])) (log_bytes kind []) (omega (arith, length-append (entry body) (0 ∷ []))) in
      ap (λ (l : List ℕ). header kind ++ ((entry body ++ 0 ∷ []) ++ l)) none ∙ ap (λ (l : List ℕ). header kind ++ l) (append-nil (entry body ++ 0 ∷ []))
      ∙ ap (λ (l : List ℕ). header kind ++ (l ++ 0 ∷ [])) (sym (append-nil (entry body))) ∙ sym (append_assoc (header kind) (entry body ++ []) (0 ∷ []))

  pub only_logs : (body : List ℕ) → body ≡ layout_bytes (entry_of layout) → (first told reads : Option Files) (left leaves : Files → Type 0)
      → ((before : Files) → first ≡ Some before → (empty : HaveEmptyLogs layout before told left) × HasLayout body empty.files reads leaves) → LeavesOnlyLogs layout first reads
  only_logs body is_body first told reads left leaves both before after were are none =
      let made = both before were in
      let empty = made.0 in
      let last = made.1 in
      let same : last.files ≡ after = ap (λ (o : Option Files). known after o) (sym last.are ∙ are) in
      let own : empty.files 0 ≡ [] = empty.others 0 own_apart ∙ none 0 in
      subst (λ (files : Files). AreOnlyNewLogs layout files) same (record {
        layouts = last.bytes ∙ ap (λ (l : List ℕ). put 8 (entry body ++ 0 ∷ []) l) (fresh_log layouts_kind (empty.files 0) own) ∙ entry_behind layouts_kind body ∙ ap (λ (b : List ℕ). log_bytes layouts_kind (b ∷ [])) is_body;
        commits = last.others layout.chief_file chief_own ∙ empty.commits ∙ fresh_log commits_kind (before layout.chief_file) (none layout.chief_file);
        prepared = λ n less. last.others (slice_index layout.node_files n) (node_own n less) ∙ empty.prepared n less ∙ fresh_log prepared_kind (before (slice_index layout.node_files n)) (none (slice_index layout.node_files n));
        others = λ n out.
            let two = neither (0 == n) (is_named (layout.chief_file ∷ layout.node_files) n) out in
            last.others n (ap (λ (b : Bool). b || false) two.0) ∙ empty.others n two.1 ∙ none n;
      })

  -- ---- the store

  module _ (is : IsNewLayout layout) (limits : IsWithinLimits (entry_of layout)) (tree : Procedures) (text : IsAcceptedText layout.text tree) (body : List ℕ) (is_body : body ≡ layout_bytes (entry_of layout)) where
    good_files : (before after : Files) → AreEmptyLogs layout before → SameBesides (0 ∷ []) before after → IsLog layouts_kind (body ∷ []) (after 0) → IsGoodStore after (new_contents layout tree)
    good_files before after empty same log =
        (new_logs_are_a_store layout tree after is limits text (record {
          layouts = subst (λ (b : List ℕ). IsLog layouts_kind (b ∷ []) (after 0)) is_body log;
          empty = empty_kept before after same empty;
        })).0

    pub store_rests : (before : Files) (told reads : Option Files) (left leaves : Files → Type 0) (empty : HaveEmptyLogs layout before told left) → HasLayout body empty.files reads leaves
        → Follows (SameBesides (0 ∷ [])) left leaves → ((files : Files) → reads ≡ Some files → leaves files) → RestsOn (new_contents layout tree) reads leaves
    store_rests before told reads left leaves empty last crash reads_left =
        let good : (image : Files) → leaves image → IsGoodStore image (new_contents layout tree) = λ image leave.
        let from = crash image leave in
        good_files from.0 image (empty.left from.0 from.1) from.2 (last.left image leave) in
        record { files = last.files; are = last.are; good = good last.files (reads_left last.files last.are); left = good }

    module _ {H : Type 0} (frame : HostGhosts H)
        (seen_now : (host : H) (t : ℕ) (seen : Observation) → t ≤ frame.moment host → frame.may_leave host seen.image → frame.said host ≡ Some seen.said → frame.observed host t seen) where
      abbrev Once : Observation → Type 0
      Once seen = IsNewOnceOpen layout tree seen.image

      -- what is seen is what a crash may leave behind the call too
      pub shows : (old new : H) → frame.said new ≡ frame.said old → SeesOnly frame.moment frame.observed old new Once → ShowsNewOnly frame layout tree old new
      shows old new quiet sees = record {
        moments = sees;
        left = λ bytes spoke image leave. let seen : Observation = record { image = image; said = bytes } in
            sees.each seen (seen_now new (frame.moment old) seen sees.later leave (quiet ∙ spoke));
      }

      -- while other files change, there is no layout
      pub none_open : (named : List ℕ) (old new : H) → is_named named 0 ≡ false → LeavesEmpty 0 (frame.may_leave old) → SeesOnly frame.moment frame.observed old new (ChangesNamed named (frame.may_leave old) (frame.said old))
          → SeesOnly frame.moment frame.observed old new Once
      none_open named old new out none sees =
          sees_weaker frame.moment frame.observed old new (ChangesNamed named (frame.may_leave old) (frame.said old)) Once
          (λ seen changed b bs log. absurd (no_entry b bs (seen.image 0) (changed.others 0 out ∙ none changed.before changed.was_left) log)) sees

      pub then_open : (old mid new : H) (before : Files) (told : Option Files) → HaveEmptyLogs layout before told (frame.may_leave mid) → SeesOnly frame.moment frame.observed old mid Once
          → SeesOnly frame.moment frame.observed mid new (ChangesOne 0 (MayHave body) (frame.may_leave mid) (frame.said mid)) → SeesOnly frame.moment frame.observed old new Once
      then_open old mid new before told empty one two =
          sees_then frame.moment frame.observed old mid new Once (ChangesOne 0 (MayHave body) (frame.may_leave mid) (frame.said mid)) one two
          (λ seen changed b bs log. opened changed.before seen.image (empty.left changed.before changed.was_left) (λ n out. changed.others n (λ e. named_not n out e)) b bs log (changed.such (b ∷ bs) log))
        where
          named_not : (n : ℕ) → is_named (0 ∷ []) n ≡ false → n ≢ 0
          named_not n out e = let no : true ≡ false = subst (λ (k : ℕ). is_named (0 ∷ []) k ≡ false) e out in cc

          opened : (from image : Files) → AreEmptyLogs layout from → SameBesides (0 ∷ []) from image → (b : List ℕ) (bs : List (List ℕ)) → IsLog layouts_kind (b ∷ bs) (image 0)
              → (◌≡◌ {A = List (List ℕ)} (b ∷ bs) []) ⊎ (b ∷ bs ≡ body ∷ []) → IsGoodStore image (new_contents layout tree)
          opened from image logs same b bs log (inl e) = absurd cc
          opened from image logs same b bs log (inr e) = good_files from image logs same (subst (λ (l : List (List ℕ)). IsLog layouts_kind l (image 0)) e log)

-- ---- what changes

module _ {H : Type 0} (frame : HostGhosts H) where
  -- one file, and those named behind it
  pub first_changes : (file : ℕ) (named : List ℕ) (old new : H) → ChangesOnly frame (file ∷ []) old new → ChangesOnly frame (file ∷ named) old new
  first_changes file named old new =
      changes_wider frame (file ∷ []) (file ∷ named) old new (λ n out. ap (λ (b : Bool). b || false) (neither (file == n) (is_named named n) out).0)

  pub rest_changes : (file : ℕ) (named : List ℕ) (old new : H) → ChangesOnly frame named old new → ChangesOnly frame (file ∷ named) old new
  rest_changes file named old new = changes_wider frame named (file ∷ named) old new (λ n out. (neither (file == n) (is_named named n) out).1)
