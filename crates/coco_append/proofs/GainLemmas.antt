-- What one append makes of a good store, and of the logs in hand.
use Rattle.std.proofs.Common.{◌≡◌, ◌≢◌, inl, ℕ, ◌≤◌, List, [], ◌∷◌, ◌++◌, Option, Some, None, IfSome, Result, Ok, Err, refl, sym, subst, ◌∙◌}
use Rattle.std.specs.Prelude.{OnOk, OnErr}
use Rattle.coco_entry.specs.declared.commit.Commit.{Commit}
use Rattle.coco_entry.specs.declared.prepared.Prepared.{Prepared}
use Rattle.coco_entry.specs.Commits.{commit_bytes}
use Rattle.coco_entry.specs.Rows.{prepared_bytes}
use Rattle.coco_host.specs.Files.{Files, Become, Follows}
use Rattle.coco_host.specs.Moments.{Observation, SeesOnly}
use Rattle.coco_host.proofs.Sees.{started}
use Rattle.coco_host.specs.declared.host.Host.{Ghosts as HostGhosts}
use Rattle.coco_log.specs.Grammar.{IsLog}
use Rattle.coco_log.specs.LogState.{LogState, ChangesOne, IsAppended, IsAtRest, IsBeforeOrAfter, IsMade, IsOpened, SameBut, with_entry}
use Rattle.coco_log.proofs.OnlyRead.{sees_weaker}
use Rattle.coco_log.proofs.Rests.{rests_on}
use Rattle.coco_store.specs.Contents.{Contents, chief_of, file_of}
use Rattle.coco_store.specs.Entries.{commits_kind, prepared_kind}
use Rattle.coco_store.specs.Laws.{IsAppend, KeepsLog, MayCommit, MayPrepare, WithOne, with_commit, with_prepared}
use Rattle.coco_store.proofs.Growing.{after_commit, after_prepared, while_committed, while_prepared}
use Rattle.coco_append.specs.Gaining.{GainsAs, Grows, GrowsAs, IsChiefLog, IsNodeLog, RestsAs, ShowsAs, Stands}

-- ---- answers

pub on_ok : {T E : Type 0} (r : Result T E) (P Q : Type 0) → (P → Q) → OnOk r P → OnOk r Q
on_ok (Ok x) P Q f p = f p
on_ok (Err e) P Q f p = tt

pub on_both : {T E : Type 0} (r : Result T E) (P Q R : Type 0) → (P → Q → R) → OnOk r P → OnOk r Q → OnOk r R
on_both (Ok x) P Q R f p q = f p q
on_both (Err e) P Q R f p q = tt

pub on_err : {T E : Type 0} (r : Result T E) (P Q : Type 0) → (P → Q) → OnErr r P → OnErr r Q
on_err (Ok x) P Q f p = tt
on_err (Err e) P Q f p = f p

pub at_err : {T E : Type 0} (r : Result T E) (P : Type 0) → P → OnErr r P
at_err (Ok x) P p = tt
at_err (Err e) P p = p

-- ---- logs in hand

-- a file that is as another has its log
same_file : (old new : List ℕ) → new ≡ old → KeepsLog old new
same_file old new same kind bodies log = subst (λ (l : List ℕ). IsLog kind bodies l) (sym same) log

told : (reads : Option Files) (files : Files) (P : Files → Type 0) → reads ≡ Some files → IfSome reads P → P files
told reads files P are h = subst (λ (o : Option Files). IfSome o P) are h

-- a log in a file that a call doesn't change
pub stands_on : (log : LogState) (file : ℕ) (before after : Option Files) (left leaves : Files → Type 0) → log.file ≢ file → Become (SameBut file) before after → Follows (SameBut file) left leaves
    → Stands log before left → Stands log after leaves
stands_on log file None after left leaves other become follows stands = subst (λ (o : Option Files). Stands log o leaves) (sym become) tt
stands_on log file (Some fs) after left leaves other become follows stands =
    subst (λ (o : Option Files). Stands log o leaves) (sym become.1)
    (record { bodies = stands.bodies; rest = rests_on log stands.bodies file fs become.0 left leaves other become.2 follows stands.rest })

-- a log that was made
pub made_stands : (log : LogState) (file kind : ℕ) (before after : Option Files) (leaves : Files → Type 0) → Become (SameBut file) before after
    → ((files : Files) → before ≡ Some files → IsMade log file kind files after leaves) → Stands log after leaves
made_stands log file kind None after leaves become made = subst (λ (o : Option Files). Stands log o leaves) (sym become) tt
made_stands log file kind (Some fs) after leaves become made =
    let is = made fs refl in
    subst (λ (o : Option Files). Stands log o leaves) (sym is.are) (record { bodies = []; rest = is.rest })

pub same_files : (file : ℕ) (files : Option Files) → Become (SameBut file) files files
same_files file None = refl
same_files file (Some fs) = (fs, refl, λ n other. refl)

pub same_left : (file : ℕ) (left : Files → Type 0) → Follows (SameBut file) left left
same_left file left c is_left = (c, is_left, λ n other. refl)

-- what `append` asks of it
pub at_rest : (log : LogState) (reads : Option Files) (left : Files → Type 0) → Stands log reads left → IfSome reads (λ files. (bodies : List (List ℕ)) × IsAtRest log bodies files left)
at_rest log None left stands = tt
at_rest log (Some fs) left stands = (stands.bodies, stands.rest)

-- the log itself, after it was appended to
pub stands_grown : {T E : Type 0} (r : Result T E) (old new : LogState) (body : List ℕ) (before after : Option Files) (left leaves : Files → Type 0) → Become (SameBut old.file) before after → Stands old before left
    → OnOk r ((files : Files) (bodies : List (List ℕ)) → before ≡ Some files → IsAtRest old bodies files left → IsAppended old new bodies body files after leaves)
    → OnOk r (Stands new after leaves)
stands_grown r old new body None after left leaves become stands ok = on_ok r _ _ (λ _. subst (λ (o : Option Files). Stands new o leaves) (sym become) tt) ok
stands_grown r old new body (Some fs) after left leaves become stands ok =
    on_ok r _ _ (λ goes. let is = goes fs stands.bodies refl stands.rest in
    subst (λ (o : Option Files). Stands new o leaves) (sym is.are) (record { bodies = stands.bodies ++ body ∷ []; rest = is.rest })) ok

-- ---- moments

module _ {T E H : Type 0} (frame : HostGhosts H)
    (result : Result T E) (Was Now : Files → Type 0) where
  -- a call that changed nothing
  pub nothing_gained : ((host : H) (seen : Observation) → frame.observed host (frame.moment host) seen → frame.may_leave host seen.image × (frame.said host ≡ Some seen.said))
      → (host : H) (fault : E) → result ≡ Err fault → RestsAs Was (frame.reads host) (frame.may_leave host) → GainsAs frame result Was Now host host
  nothing_gained only_now host fault is rests = record {
    ok = subst (λ (r : Result T E). OnOk r (RestsAs Now (frame.reads host) (frame.may_leave host))) (sym is) tt;
    moments = started frame.moment frame.observed host (ShowsAs Was Now (frame.said host)) (λ seen since. let now = only_now host seen since in record { store = inl (rests.left seen.image now.0); said = now.1 });
    left = λ bytes spoke image leaves. inl (rests.left image leaves);
  }

  module _ (old new : H) (log grown : LogState) (body : List ℕ) (rests : RestsAs Was (frame.reads old) (frame.may_leave old)) (stands : Stands log (frame.reads old) (frame.may_leave old))
      (grows : GrowsAs Was Now log.file log.kind body) where
    opened : IsOpened log rests.files (frame.may_leave old)
    opened = told (frame.reads old) rests.files (λ fs. IsOpened log fs (frame.may_leave old)) rests.are stands

    was_log : (before : Files) → frame.may_leave old before → IsLog log.kind opened.bodies (before log.file)
    was_log before left = subst (λ (l : List ℕ). IsLog log.kind opened.bodies l) (sym (opened.rest.durable before left)) opened.rest.holds.is_log

    -- what is seen within the append
    meanwhile : (seen : Observation) → ChangesOne log.file (IsBeforeOrAfter log.kind opened.bodies body) (frame.may_leave old) (frame.said old) seen → ShowsAs Was Now (frame.said old) seen
    meanwhile seen changes = record {
      store = grows.meanwhile changes.before seen.image (rests.left changes.before changes.was_left) (record {
        bodies = opened.bodies;
        was = was_log changes.before changes.was_left;
        is = changes.such;
        others = λ n any other. same_file (changes.before n) (seen.image n) (changes.others n other);
      });
      said = changes.said;
    }

    -- files that gained the entry
    grown_files : (before after : Files) → Was before → IsLog log.kind opened.bodies (before log.file) → IsLog log.kind (opened.bodies ++ body ∷ []) (after log.file)
        → SameBut log.file before after → Now after
    grown_files before after good was is same =
        grows.grown before after good (record { bodies = opened.bodies; was = was; is = is; others = λ n any other. same_file (before n) (after n) (same n other) })

    rests_grown : IsAppended log (with_entry log body) opened.bodies body rests.files (frame.reads new) (frame.may_leave new) → Follows (SameBut log.file) (frame.may_leave old) (frame.may_leave new) → RestsAs Now (frame.reads new) (frame.may_leave new)
    rests_grown is follows = record {
      files = is.files;
      are = is.are;
      good = grown_files rests.files is.files rests.good opened.rest.holds.is_log is.rest.holds.is_log is.others;
      left = λ image leaves. let from = follows image leaves in
          grown_files from.0 image (rests.left from.0 from.1) (was_log from.0 from.1)
          (subst (λ (l : List ℕ). IsLog log.kind (opened.bodies ++ body ∷ []) l) (sym (is.rest.durable image leaves)) is.rest.holds.is_log) from.2;
    }

    pub gained : ((host : H) (t : ℕ) (seen : Observation) → t ≤ frame.moment host → frame.may_leave host seen.image → frame.said host ≡ Some seen.said → frame.observed host t seen)
        → ((files : Files) (bodies : List (List ℕ)) → frame.reads old ≡ Some files → IsAtRest log bodies files (frame.may_leave old)
        → SeesOnly frame.moment frame.observed old new (ChangesOne log.file (IsBeforeOrAfter log.kind bodies body) (frame.may_leave old) (frame.said old)))
        → OnOk result ((files : Files) (bodies : List (List ℕ)) → frame.reads old ≡ Some files → IsAtRest log bodies files (frame.may_leave old) → IsAppended log grown bodies body files (frame.reads new) (frame.may_leave new))
        → OnOk result (grown ≡ with_entry log body) → Follows (SameBut log.file) (frame.may_leave old) (frame.may_leave new) → frame.said new ≡ frame.said old
        → GainsAs frame result Was Now old new
    gained seen_now moments ok is follows same =
        let sees : SeesOnly frame.moment frame.observed old new (ShowsAs Was Now (frame.said old)) =
        sees_weaker frame.moment frame.observed old new (ChangesOne log.file (IsBeforeOrAfter log.kind opened.bodies body) (frame.may_leave old) (frame.said old)) (ShowsAs Was Now (frame.said old)) meanwhile
        (moments rests.files opened.bodies rests.are opened.rest) in
        record {
          ok = on_both result _ _ _ (λ goes grew. rests_grown
              (subst (λ (l : LogState). IsAppended log l opened.bodies body rests.files (frame.reads new) (frame.may_leave new)) grew (goes rests.files opened.bodies rests.are opened.rest)) follows) ok is;
          moments = sees;
          left = λ bytes spoke image leaves.
              let seen : Observation = record { image = image; said = bytes } in
              (sees.each seen (seen_now new (frame.moment old) seen sees.later leaves (same ∙ spoke))).store;
        }

-- ---- which entries a store may gain

-- where all other files keep their logs, those that a layout names do
pub named_keep : (Becomes : ℕ → List (List ℕ) → List ℕ → List ℕ → Type 0) (Kept : ℕ → Type 0) (file kind : ℕ) (body : List ℕ) (old new : Files)
    → IsAppend Becomes (λ n. Unit {0}) file kind body old new → IsAppend Becomes Kept file kind body old new
named_keep Becomes Kept file kind body old new a = record { bodies = a.bodies; was = a.was; is = a.is; others = λ n kept other. a.others n tt other }

pub prepared_grows : (c : Contents) (n : ℕ) (entry : Prepared) (log : LogState) (body : List ℕ) → IsNodeLog c n log → MayPrepare c n entry → body ≡ prepared_bytes entry
    → Grows c (with_prepared n entry c) log.file log.kind body
prepared_grows c n entry log body of may is =
    subst (λ (f : ℕ). Grows c (with_prepared n entry c) f log.kind body) (sym of.file)
    (subst (λ (k : ℕ). Grows c (with_prepared n entry c) (file_of c.setting n) k body) (sym of.kind)
    (subst (λ (b : List ℕ). Grows c (with_prepared n entry c) (file_of c.setting n) prepared_kind b) (sym is) (record {
      meanwhile = λ old new good gains. while_prepared old new c n entry good may (named_keep IsBeforeOrAfter _ (file_of c.setting n) prepared_kind (prepared_bytes entry) old new gains);
      grown = λ old new good gains. (after_prepared old new c n entry good may (named_keep WithOne _ (file_of c.setting n) prepared_kind (prepared_bytes entry) old new gains)).0;
    })))

pub commit_grows : (c : Contents) (commit : Commit) (log : LogState) (body : List ℕ) → IsChiefLog c log → MayCommit c commit → body ≡ commit_bytes commit
    → Grows c (with_commit commit c) log.file log.kind body
commit_grows c commit log body of may is =
    subst (λ (f : ℕ). Grows c (with_commit commit c) f log.kind body) (sym of.file)
    (subst (λ (k : ℕ). Grows c (with_commit commit c) (chief_of c.setting) k body) (sym of.kind)
    (subst (λ (b : List ℕ). Grows c (with_commit commit c) (chief_of c.setting) commits_kind b) (sym is) (record {
      meanwhile = λ old new good gains. while_committed old new c commit good may (named_keep IsBeforeOrAfter _ (chief_of c.setting) commits_kind (commit_bytes commit) old new gains);
      grown = λ old new good gains. (after_commit old new c commit good may (named_keep WithOne _ (chief_of c.setting) commits_kind (commit_bytes commit) old new gains)).0;
    })))
