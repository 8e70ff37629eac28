-- The new file, written from entry to entry, while no other node's file changes.
use Rattle.std.proofs.Common.{◌≡◌, ◌≢◌, ℕ, ◌+◌, ◌<◌, ◌==◌, ◌||◌, true, false, nat_eq, List, [], ◌∷◌, ◌++◌, length, map, drop, Option, Some, None, Result, Ok, Err, refl, sym, ap, subst, ◌∙◌, arith, append_assoc, append-nil}
use Rattle.std.specs.Prelude.{OnOk}
use Rattle.std.specs.List.{AllByRecursion}
use Rattle.std.specs.Set.{is_member}
use Rattle.std.proofs.lemmas.Bool.{eq-eqb, eqb-true, or_left, or_right}
use Rattle.std.proofs.lemmas.List.{map-append}
use Rattle.coco_host.specs.Files.{Become, Files}
use Rattle.coco_host.specs.Moments.{Observation}
use Rattle.coco_host.specs.declared.host.Host.{Ghosts as HostGhosts}
use Rattle.coco_ast.specs.History.{RisesAbove}
use Rattle.coco_ast.proofs.Lists.{all_append}
use Rattle.coco_entry.specs.declared.layout.Layout.{Layout}
use Rattle.coco_entry.specs.declared.prepared.Prepared.{Prepared}
use Rattle.coco_entry.specs.Layouts.{is_named}
use Rattle.coco_entry.specs.Rows.{prepared_bytes}
use Rattle.coco_log.specs.Changes.{ChangesNamed, ChangesOnly, SameBesides}
use Rattle.coco_log.specs.Drafts.{Drafted, Drafts, HasLog}
use Rattle.coco_log.specs.LogState.{IsAsBefore, IsOnlyRead}
use Rattle.coco_log.specs.Reading.{Reading}
use Rattle.coco_log.specs.declared.fault.LogFault.{LogFault}
use Rattle.coco_log.specs.declared.fault.LogFault.TheVariants.{Disk, NoMemory, NotALog, TooLong}
use Rattle.coco_log.proofs.Changing.{apart}
use Rattle.coco_log.proofs.OnlyRead.{sees_weaker}
use Rattle.coco_store.specs.Contents.{Contents, HoldsNode}
use Rattle.coco_store.specs.Entries.{prepared_kind}
use Rattle.coco_store.proofs.Naming.{named_at}
use Rattle.coco_store.specs.Rules.{prepared_epochs}
use Rattle.coco_rebuild.specs.Answers.{answer_to}
use Rattle.coco_rebuild.specs.Rebuilding.{IsRebuilt}
use Rattle.coco_rebuild.specs.Sources.{AreOthers, AreReadUpTo, HasAdded, HasNode, IsReadIn, file_at, node_after, node_first}
use Rattle.coco_rebuild.specs.declared.sources.Sources.{Sources}

-- ---- calls

-- a call that writes a log answers for the store
pub answered : (written : Result (Unit {0}) LogFault) (P : Type 0) → OnOk written P → OnOk (answer_to written) P
answered (Ok u) P is = is
answered (Err Disk) P is = tt
answered (Err NoMemory) P is = tt
answered (Err (NotALog at)) P is = tt
answered (Err TooLong) P is = tt

-- what is only read changes nothing
module _ {H : Type 0} (frame : HostGhosts H) where
  pub changes_read : (named : List ℕ) (old new : H) → IsOnlyRead frame old new → ChangesOnly frame named old new
  changes_read named old new read = record {
    moments = λ files told. sees_weaker frame.moment frame.observed old new (IsAsBefore (frame.may_leave old) (frame.said old)) (ChangesNamed named (frame.may_leave old) (frame.said old))
        (λ seen shows. record { before = seen.image; was_left = shows.image; others = λ n out. refl; said = shows.said }) read.moments;
    files = subst (λ (o : Option Files). Become (SameBesides named) (frame.reads old) o) (sym read.same) (same_besides (frame.reads old));
    crash = λ left may. (left, read.crash left may, λ n out. refl);
    quiet = read.quiet;
  }
    where
      same_besides : (a : Option Files) → Become (SameBesides named) a a
      same_besides None = refl
      same_besides (Some files) = (files, refl, λ n out. refl)

-- ---- other nodes' files stay

module _ (layout : Layout) (node : ℕ) (count : length layout.node_files ≡ layout.nodes) (file : ℕ) (off : is_named layout.node_files file ≡ false) (old new : Files) (same : SameBesides (file ∷ []) old new) where
  pub stays : (n : ℕ) → n < layout.nodes → new (file_at layout n) ≡ old (file_at layout n)
  stays n less =
      same (file_at layout n) (lone file (file_at layout n) (λ is. apart layout.node_files (file_at layout n) file (named_at layout.node_files n (omega (arith, less, count))) off (sym is)))
    where
      lone : (f g : ℕ) → f ≢ g → (f == g) || false ≡ false
      lone f g other = elim (f == g) as (λ b. (f == g) ≡ b → b || false ≡ false) [
        | true ↦ λ t. absurd (other (eqb-true f g t))
        | false ↦ λ t. refl
      ] refl

  pub others_stay : (epochs : List ℕ) (c : Contents) → AreOthers layout node epochs old c → AreOthers layout node epochs new c
  others_stay epochs c others = record {
    nodes = λ n less other.
        subst (HoldsNode c.setting c.commits n (c.prepared n))
        (sym (subst (λ (l : Layout). n < l.nodes → new (file_at l n) ≡ old (file_at l n)) (sym others.layout_is) (stays n) less)) (others.nodes n less other);
    layout_is = others.layout_is;
    epochs_are = others.epochs_are;
    held = others.held;
  }

  read_stays : (s : Option Reading) (all : List Prepared) (last : ℕ) (n : ℕ) → n < layout.nodes → IsReadIn s all last (old (file_at layout n)) → IsReadIn s all last (new (file_at layout n))
  read_stays s all last n less read = subst (IsReadIn s all last) (sym (stays n less)) read

  pub reads_stay : (c : Contents) (s : Sources) (last : ℕ) → node_after layout node < layout.nodes → node_first layout node < layout.nodes → AreReadUpTo layout node c s last old → AreReadUpTo layout node c s last new
  reads_stay c s last after first read = record {
    after = read_stays s.after (c.prepared (node_after layout node)) last (node_after layout node) after read.after;
    first = read_stays s.first (c.prepared (node_first layout node)) last (node_first layout node) first read.first;
  }

-- ---- epoch by epoch

-- so many epochs have their entry in the draft, and the sources were read so far
pub record AreWritten (layout : Layout) (node : ℕ) (epochs : List ℕ) (c : Contents) (done : ℕ) (draft : Drafted) (sources : Sources) (reads : Option Files) : Type 0 where
  pub entries : List Prepared
  pub epochs_are : prepared_epochs entries ++ drop done epochs ≡ epochs
  pub each : AllByRecursion (IsRebuilt node c) entries
  pub drafts : Drafts draft (map prepared_bytes entries) reads
  pub files : Files
  pub are : reads ≡ Some files
  pub others : AreOthers layout node epochs files c
  pub last : ℕ
  pub read : AreReadUpTo layout node c sources last files
  pub rise : RisesAbove last (drop done epochs)

-- before the first
pub written_none : (layout : Layout) (node : ℕ) (epochs : List ℕ) (c : Contents) (draft : Drafted) (sources : Sources) (reads : Option Files) (files : Files) → reads ≡ Some files → AreOthers layout node epochs files c
    → (base : ℕ) → AreReadUpTo layout node c sources base files → RisesAbove base epochs → Drafts draft [] reads → AreWritten layout node epochs c 0 draft sources reads
written_none layout node epochs c draft sources reads files told others base read rise drafts = record {
  entries = [];
  epochs_are = refl;
  each = tt;
  drafts = drafts;
  files = files;
  are = told;
  others = others;
  last = base;
  read = read;
  rise = rise;
}

member_there : (xs ys : List ℕ) (k : ℕ) → is_member nat_eq (xs ++ k ∷ ys) k ≡ true
member_there [] ys k = or_left (nat_eq k k) (is_member nat_eq ys k) (eq-eqb k k refl)
member_there (x ∷ xs) ys k = or_right (nat_eq k x) (is_member nat_eq (xs ++ k ∷ ys) k) (member_there xs ys k)

module _ (layout : Layout) (node : ℕ) (epochs : List ℕ) (c : Contents) (done epoch : ℕ) (draft : Drafted) (sources : Sources) (reads : Option Files)
    (was : AreWritten layout node epochs c done draft sources reads) (here : drop done epochs ≡ epoch ∷ drop (done + 1) epochs) where
  rises : RisesAbove was.last (epoch ∷ drop (done + 1) epochs)
  rises = subst (RisesAbove was.last) here was.rise

  pub above_last : was.last < epoch
  above_last = rises.0

  pub is_there : is_member nat_eq epochs epoch ≡ true
  is_there =
      subst (λ (l : List ℕ). is_member nat_eq l epoch ≡ true) (ap (λ (l : List ℕ). prepared_epochs was.entries ++ l) (sym here) ∙ was.epochs_are)
      (member_there (prepared_epochs was.entries) (drop (done + 1) epochs) epoch)

  -- an epoch more
  pub written_more : (new_draft : Drafted) (new_sources : Sources) (after : Option Files) (files : Files) → after ≡ Some files → SameBesides (draft.file ∷ []) was.files files
      → length layout.node_files ≡ layout.nodes → is_named layout.node_files draft.file ≡ false → node_after layout node < layout.nodes → node_first layout node < layout.nodes
      → HasAdded layout node epoch (map prepared_bytes was.entries) new_draft after (λ entry. (last : ℕ) (ks : List ℕ) (fs : Files) (d : Contents) → reads ≡ Some fs
      → AreOthers layout node ks fs d → AreReadUpTo layout node d sources last fs → last < epoch → is_member nat_eq ks epoch ≡ true → IsRebuilt node d entry × AreReadUpTo layout node d new_sources epoch fs)
      → AreWritten layout node epochs c (done + 1) new_draft new_sources after
  written_more new_draft new_sources after files told same count off one two added =
      let made = added.told was.last epochs was.files c was.are was.others was.read above_last is_there in
      let entry : Prepared = added.entry in
      record {
        entries = was.entries ++ entry ∷ [];
        epochs_are =
            ap (λ (l : List ℕ). l ++ drop (done + 1) epochs) (map-append (λ (e : Prepared). e.epoch) was.entries (entry ∷ []))
            ∙ append_assoc (prepared_epochs was.entries) (entry.epoch ∷ []) (drop (done + 1) epochs)
            ∙ ap (λ (k : ℕ). prepared_epochs was.entries ++ k ∷ drop (done + 1) epochs) added.epoch_is
            ∙ ap (λ (l : List ℕ). prepared_epochs was.entries ++ l) (sym here)
            ∙ was.epochs_are;
        each = all_append (IsRebuilt node c) was.entries (entry ∷ []) was.each (made.0, tt);
        drafts = subst (λ (l : List (List ℕ)). Drafts new_draft l after) (sym (map-append prepared_bytes was.entries (entry ∷ []))) added.drafts;
        files = files;
        are = told;
        others = others_stay layout node count draft.file off was.files files same epochs c was.others;
        last = epoch;
        read = reads_stay layout node count draft.file off was.files files same c new_sources epoch one two made.1;
        rise = rises.1;
      }

-- all of them
pub written_all : (layout : Layout) (node : ℕ) (epochs : List ℕ) (c : Contents) (done : ℕ) (draft : Drafted) (sources : Sources) (reads after : Option Files) (leaves : Files → Type 0) (file : ℕ)
    → (was : AreWritten layout node epochs c done draft sources reads) → drop done epochs ≡ [] → draft.file ≡ file → draft.kind ≡ prepared_kind
    → ((bodies : List (List ℕ)) → Drafts draft bodies reads → HasLog draft.kind bodies draft.file after leaves) → HasNode node c file after leaves
written_all layout node epochs c done draft sources reads after leaves file was none in_file of_kind log = record {
  entries = was.entries;
  are = record {
    epochs = sym (append-nil (prepared_epochs was.entries)) ∙ ap (λ (l : List ℕ). prepared_epochs was.entries ++ l) (sym none) ∙ was.epochs_are ∙ sym was.others.epochs_are;
    each = was.each;
  };
  log = subst (λ (f : ℕ). HasLog prepared_kind (map prepared_bytes was.entries) f after leaves) in_file
      (subst (λ (k : ℕ). HasLog k (map prepared_bytes was.entries) draft.file after leaves) of_kind (log (map prepared_bytes was.entries) was.drafts));
}
