-- What is seen of the store in an attempt at an epoch.
use Rattle.std.specs.Global.{Vec}
use Rattle.std.proofs.Common.{◌≡◌, ◌⊎◌, inl, inr, ⊎_elim, ℕ, ◌+◌, List, Option, Some, None, Result, Ok, Err, refl, sym, ap, ◌∙◌, subst}
use Rattle.std.specs.Option.{option_map}
use Rattle.coco_append.specs.Gaining.{RestsOn, ShowsEither}
use Rattle.coco_ast.specs.Growth.{GrowsBy}
use Rattle.coco_ast.specs.History.{followed_by}
use Rattle.coco_host.specs.Files.{Files}
use Rattle.coco_host.specs.Moments.{Observation, SeesOnly}
use Rattle.coco_host.specs.declared.host.Host.{Ghosts as HostGhosts}
use Rattle.coco_log.proofs.OnlyRead.{sees_then, sees_weaker}
use Rattle.coco_log.specs.LogState.{IsAsBefore, IsOnlyRead}
use Rattle.coco_finish.specs.declared.tables.NodeTables.{NodeTables}
use Rattle.coco_parallel.specs.Traces.{Traced, traced}
use Rattle.coco_store.specs.Contents.{Contents, IsGoodStore, history_of}
use Rattle.coco_store.specs.Laws.{with_commit}
use Rattle.coco_types.specs.declared.call.Done.{Done}
use Rattle.coco_types.specs.declared.call.Request.{Request}
use Rattle.coco_cluster.specs.Attempts.{CommitsOn, KeepsOn, StandsOn}
use Rattle.coco_cluster.specs.Ending.{Commits, HasOneOf}
use Rattle.coco_cluster.specs.Faults.{CountsAttempt, CountsPart}
use Rattle.coco_cluster.specs.Standing.{IsBehindAll, StandsAt}
use Rattle.coco_cluster.specs.Trying.{commit_of, Keeps, MayCommitOn}
use Rattle.coco_cluster.specs.Turning.{AddsOnlyPrepared, Grown, IsStoreOf, ShowsHistory, ShowsStore}
use Rattle.coco_cluster.specs.Writing.{WritesLogs}
use Rattle.coco_cluster.specs.declared.cluster.Cluster.{Cluster}
use Rattle.coco_cluster.specs.declared.stop.Stop.{Stop}
use Rattle.coco_cluster.specs.declared.stop.Stop.TheVariants as stop
use Rattle.coco_cluster.proofs.AttemptLemmas.{history_grows}
use Rattle.coco_cluster.proofs.BehindLemmas.{behind_commit}
use Rattle.coco_cluster.proofs.SeeingLemmas.{keeps_as, keeps_read, keeps_then, rests_read, same_history}
use Rattle.coco_cluster.proofs.WriteLemmas.{writes_none, writes_then}

-- ---- faults

part_wider : (f : Stop) (disk disk_new : ℕ) → CountsPart {T = Unit {0}} (Err f) disk disk_new → CountsAttempt {T = Unit {0}} (Err f) disk disk_new
part_wider stop.Read disk disk_new counts = counts
part_wider stop.Say disk disk_new counts = counts
part_wider stop.Disk disk disk_new counts = counts
part_wider (stop.NotAStore file at) disk disk_new counts = absurd counts
part_wider stop.NoMemory disk disk_new counts = counts
part_wider stop.Unreachable disk disk_new counts = counts
part_wider stop.EpochsUsedUp disk disk_new counts = counts

-- behind calls that succeeded
pub counts_later : {T : Type 0} (result : Result T Stop) (f : Stop) (first disk disk_new : ℕ) → result ≡ Err f → disk ≡ first → CountsAttempt {T = Unit {0}} (Err f) disk disk_new → CountsAttempt result first disk_new
counts_later {T} result f first disk disk_new failed same counts = subst (λ (r : Result T Stop). CountsAttempt r first disk_new) (sym failed) (subst (λ n. CountsAttempt {T = Unit {0}} (Err f) n disk_new) same counts)

pub counts_wider : {T : Type 0} (result : Result T Stop) (f : Stop) (first disk disk_new : ℕ) → result ≡ Err f → disk ≡ first → CountsPart {T = Unit {0}} (Err f) disk disk_new → CountsAttempt result first disk_new
counts_wider result f first disk disk_new failed same counts = counts_later result f first disk disk_new failed same (part_wider f disk disk_new counts)

-- of one that failed no answer is told
pub failed_none : {X : Type 0} (result : Result (Option (Vec Request)) Stop) (f : Stop) → result ≡ Err f → (x : Option (Vec Request)) → result ≡ Ok x → X
failed_none result f failed x is = (let never_so : Err f ≡ Ok x = sym failed ∙ is in absurd (cc))

module _ {H : Type 0} (frame : HostGhosts H) where
  abbrev KeepsIt : Contents → ℕ → H → H → Type 0
  KeepsIt c end old new = Keeps frame c end old new

  abbrev KeepsAttempt : Result (Option (Vec Request)) Stop → Contents → Cluster → Cluster → H → H → Type 0
  KeepsAttempt result c old new first last = KeepsOn frame result c old new first last

  -- an attempt that failed before the commit entry
  pub keeps_failed : (result : Result (Option (Vec Request)) Stop) (f : Stop) (c : Contents) (old new : Cluster) (first last : H) → result ≡ Err f → KeepsIt c (old.next_epoch + 1) first last → KeepsAttempt result c old new first last
  keeps_failed result f c old new first last failed keeps = record { keeps = keeps; again = λ x is. failed_none result f failed x is }

  -- one that was given up
  pub keeps_given : (result : Result (Option (Vec Request)) Stop) (rs : Vec Request) (c : Contents) (old new : Cluster) (first last : H) → result ≡ Ok (Some rs) → KeepsIt c (old.next_epoch + 1) first last → StandsOn c new (frame.reads last) (frame.may_leave last)
      → KeepsAttempt result c old new first last
  keeps_given result rs c old new first last given keeps stands = record {
    keeps = keeps;
    again = λ x is. (let same : Ok (Some rs) ≡ Ok x = sym given ∙ is in ((rs, (let here : x ≡ Some rs = cc in here)), stands));
  }

  -- an epoch that was given up, and then nodes were read anew
  pub keeps_reading : (c d : Contents) (end : ℕ) (first mid last : H) → AddsOnlyPrepared c d → IsBehindAll d end → RestsOn d (frame.reads mid) (frame.may_leave mid) → KeepsIt c end first mid
      → IsOnlyRead frame mid last → KeepsIt c end first last
  keeps_reading c d end first mid last only behind rests keeps read =
      keeps_then frame c end first mid last keeps
      (keeps_as frame c d end mid last only.setting (same_history c d only) (keeps_read frame d end mid last rests behind read))

  -- ---- an epoch that was committed

  module _ (c : Contents) (requests : List Request) (workers attempts epoch : ℕ) (dones : List Done) (trace : Traced) (tables : NodeTables) (first mid : H) (keeps : KeepsIt c (epoch + 1) first mid)
      (may : MayCommitOn c requests workers attempts epoch dones trace tables (frame.reads mid) (frame.may_leave mid)) where
    abbrev pub after : Contents
    after = with_commit (commit_of epoch dones) may.d

    after_history : history_of after ≡ followed_by (history_of c) (record { number = epoch; dones = dones })
    after_history = history_grows may.d (commit_of epoch dones) ∙ ap (λ h. followed_by h (record { number = epoch; dones = dones })) (same_history c may.d may.only)

    pub grown : Grown requests workers attempts epoch trace c after
    grown = record {
      setting = may.only.setting;
      base = may.only.base;
      e = record { number = epoch; dones = dones };
      number = refl;
      traced = may.traced;
      history = after_history;
      grows = subst (GrowsBy (history_of c) requests) (sym after_history) may.grows;
      below = behind_commit may.d (commit_of epoch dones) may.below;
    }

    abbrev Shows : Option (List ℕ) → Observation → Type 0
    Shows bytes seen = ShowsStore c.setting (history_of c) (history_of after) (epoch + 1) bytes seen

    was_store : (files : Files) → IsGoodStore files may.d → IsStoreOf c.setting (history_of c) (epoch + 1) files
    was_store files good = record { contents = may.d; setting = may.only.setting; good = good; history = same_history c may.d may.only; below = may.below }

    now_store : (files : Files) → IsGoodStore files after → IsStoreOf c.setting (history_of after) (epoch + 1) files
    now_store files good = record { contents = after; setting = may.only.setting; good = good; history = refl; below = grown.below }

    one_of : (files : Files) → HasOneOf may.d (commit_of epoch dones) files → IsStoreOf c.setting (history_of c) (epoch + 1) files ⊎ IsStoreOf c.setting (history_of after) (epoch + 1) files
    one_of files one = ⊎_elim (λ was. inl (was_store files was)) (λ now. inr (now_store files now)) one

    pub moments_first : SeesOnly frame.moment frame.observed first mid (Shows (frame.said first))
    moments_first = sees_weaker frame.moment frame.observed first mid (ShowsHistory c.setting (history_of c) (epoch + 1) (frame.said first)) (Shows (frame.said first)) (λ seen shows. record { store = inl shows.0; said = shows.1 }) keeps.moments

    module _ {T E : Type 0} (stored : Result T E) (late : H) (commits : Commits frame stored may.d (commit_of epoch dones) mid late) where
      moments_late : SeesOnly frame.moment frame.observed first late (Shows (frame.said first))
      moments_late = sees_then frame.moment frame.observed first mid late (Shows (frame.said first)) (ShowsEither may.d after (frame.said mid)) moments_first commits.moments
          (λ seen shows. record { store = one_of seen.image shows.store; said = sym keeps.quiet ∙ shows.said })

      writes_late : WritesLogs c.setting (frame.reads first) (frame.reads late) (frame.may_leave first) (frame.may_leave late)
      writes_late = writes_then c.setting (frame.reads first) (frame.reads mid) (frame.reads late) (frame.may_leave first) (frame.may_leave mid) (frame.may_leave late) keeps.others
          (subst (λ s. WritesLogs s (frame.reads mid) (frame.reads late) (frame.may_leave mid) (frame.may_leave late)) may.only.setting commits.others)

      -- where the entry may not be there
      pub commit_failed : (result : Result (Option (Vec Request)) Stop) (f : Stop) (old new : Cluster) → result ≡ Err f → old.next_epoch ≡ epoch
          → CommitsOn frame result requests workers attempts c old new first late
      commit_failed result f old new failed next = record {
        d = after;
        trace = trace;
        grown = subst (λ n. Grown requests workers attempts n trace c after) (sym next) grown;
        ok = λ x is. failed_none result f failed x is;
        moments = subst (λ n. SeesOnly frame.moment frame.observed first late (ShowsStore c.setting (history_of c) (history_of after) (n + 1) (frame.said first))) (sym next) moments_late;
        left = λ bytes spoke image leaves. subst (λ n. IsStoreOf c.setting (history_of c) (n + 1) image ⊎ IsStoreOf c.setting (history_of after) (n + 1) image) (sym next) (one_of image (commits.left bytes (keeps.quiet ∙ spoke) image leaves));
        others = writes_late;
      }

      -- where it is there, and then nodes were read anew
      module _ (rests : RestsOn after (frame.reads late) (frame.may_leave late)) (quiet : frame.said late ≡ frame.said mid) (last : H) (read : IsOnlyRead frame late last) where
        pub committed_then : (result : Result (Option (Vec Request)) Stop) (old new : Cluster) → old.next_epoch ≡ epoch
            → ((x : Option (Vec Request)) → result ≡ Ok x → (x ≡ None) × StandsAt after new × (option_map traced new.trace ≡ Some trace) × (new.next_epoch ≡ epoch + 1))
            → CommitsOn frame result requests workers attempts c old new first last
        committed_then result old new next ok = record {
          d = after;
          trace = trace;
          grown = subst (λ n. Grown requests workers attempts n trace c after) (sym next) grown;
          ok = λ x is. (let o = ok x is in (o.0, rests_read frame after late last read rests, o.1, o.2, o.3 ∙ ap (λ n. n + 1) (sym next)));
          moments = subst (λ n. SeesOnly frame.moment frame.observed first last (ShowsStore c.setting (history_of c) (history_of after) (n + 1) (frame.said first))) (sym next)
              (sees_then frame.moment frame.observed first late last (Shows (frame.said first)) (IsAsBefore (frame.may_leave late) (frame.said late)) moments_late read.moments
              (λ seen before. record { store = inr (now_store seen.image (rests.left seen.image before.image)); said = sym (quiet ∙ keeps.quiet) ∙ before.said }));
          left = λ bytes spoke image leaves. inr (subst (λ n. IsStoreOf c.setting (history_of after) (n + 1) image) (sym next) (now_store image (rests.left image (read.crash image leaves))));
          others = writes_then c.setting (frame.reads first) (frame.reads late) (frame.reads last) (frame.may_leave first) (frame.may_leave late) (frame.may_leave last) writes_late
              (writes_none c.setting (frame.reads late) (frame.reads last) (frame.may_leave late) (frame.may_leave last) read.same read.crash);
        }
