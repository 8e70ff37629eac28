-- Requests that are worked off are told of, or they aren't: how that ends.
use Rattle.std.proofs.Common.{◌≡◌, ℕ, ◌+◌, inl, inr, List, take, Result, Ok, Err, refl, sym, ap, subst, ◌∙◌, arith}
use Rattle.std.specs.Io.KnownBytes.{append_known}
use Rattle.coco_types.specs.declared.call.Request.{Request}
use Rattle.coco_types.specs.declared.error.OutFault.{OutFault}
use Rattle.coco_types.specs.declared.error.OutFault.TheVariants as out
use Rattle.coco_append.specs.Gaining.{RestsOn}
use Rattle.coco_ast.specs.History.{map_of}
use Rattle.coco_ast.specs.Keyed.{Rows}
use Rattle.coco_cluster.specs.Around.{Around}
use Rattle.coco_cluster.specs.declared.cluster.Cluster.{Cluster}
use Rattle.coco_cluster.specs.Standing.{IsBehindAll}
use Rattle.coco_cluster.proofs.BehindLemmas.{behind_later}
use Rattle.coco_cluster.proofs.WriteLemmas.{writes_none, writes_then}
use Rattle.coco_host.specs.Files.{NoMore}
use Rattle.coco_host.specs.Moments.{IsNew, IsSaidBetween, Observation, SeesOnly}
use Rattle.coco_host.specs.declared.host.Host.{Ghosts as HostGhosts}
use Rattle.coco_io.specs.Counts.{CountsWrite}
use Rattle.coco_log.proofs.OnlyRead.{sees_then, sees_weaker}
use Rattle.coco_store.specs.Contents.{Contents, history_of, map_in}
use Rattle.coco_finish.specs.Finishing.{HaveMap}
use Rattle.coco_load.specs.RowMaps.{joined, map_with}
use Rattle.coco_types.specs.RowKey.{RowKey}
use Rattle.coco_types.specs.declared.value.Value.{Value}
use Rattle.coco_cluster.specs.Faults.{stop_of_saying}
use Rattle.coco_serve.specs.Faults.{Counts}
use Rattle.coco_serve.specs.Growth.{manner_of}
use Rattle.coco_serve.specs.OneBatch.{SaysPart}
use Rattle.coco_serve.specs.Serving.{RestsAt}
use Rattle.coco_serve.specs.declared.bounds.RunBounds.{RunBounds}
use Rattle.coco_cluster.specs.declared.stop.Stop.{Stop}
use Rattle.coco_cluster.specs.declared.stop.Stop.TheVariants as stop
use Rattle.coco_serve.proofs.BatchLemmas.{said_between}
use Rattle.coco_serve.proofs.RunLemmas.{SeenNow, left_by}
use Rattle.coco_try.specs.Report.{report_text, sum_in}
use Rattle.coco_try.specs.Trying.{HasCause, IsSeen, IsToldInPart, LeavesLast, ShowsParts, Tries, TryEnds, report_of}
use Rattle.coco_try.specs.Working.{StandsWith, Unsaid, WorkEnds, Works}
use Rattle.coco_try.specs.declared.one_part.Tally.{Tally}
use Rattle.coco_try.proofs.GrowthLemmas.{all_shown, with_theirs}

-- ---- causes

-- where all is worked off and its telling broke off so
pub told_cause : (next requests : ℕ) (was now : Around) (before mid after : Counts) (result : Result (Unit {0}) OutFault) → mid ≡ before → after.disk ≡ mid.disk → CountsWrite result mid.say after.say
    → (f : OutFault) → result ≡ Err f → HasCause next requests was now before after (Err (stop_of_saying f))
told_cause next requests was now before mid after result same disks counts out.Failed is =
    subst (λ (c : Counts). CountsWrite {T = Unit {0}} (Err out.Failed) c.say after.say) same (subst (λ r. CountsWrite r mid.say after.say) is counts)
told_cause next requests was now before mid after result same disks counts out.NoMemory is = tt

pub done_cause : (next requests : ℕ) (was now : Around) (before mid after : Counts) → mid ≡ before → after.disk ≡ mid.disk → after.say ≡ mid.say → HasCause next requests was now before after (Ok tt)
done_cause next requests was now before mid after same disks says = (λ i. record { say = says i; disk = disks i }) ∙ same

-- ---- what is left

module _ {H : Type 0} (frame : HostGhosts H) where
  -- working off broke off, and nothing is said
  module _ (seen_now : SeenNow frame) (c : Contents) (next spare : ℕ) (bounds : RunBounds) (requests : List Request) (result : Result Tally Stop) (k : Cluster) (first host : H)
      (w : Works frame c next spare bounds requests result k first host) (quiet : frame.said host ≡ frame.said first) where
    abbrev Seen : Observation → Type 0
    Seen = IsSeen c.setting bounds (history_of c) next spare requests w.progress (frame.said first)

    abbrev Shows : Observation → Type 0
    Shows = Unsaid (ShowsParts c.setting bounds (history_of c) next spare requests w.progress.count w.progress.classes w.progress.history) (frame.said first)

    pub unsaid_moments : SeesOnly frame.moment frame.observed first host Seen
    unsaid_moments = sees_weaker frame.moment frame.observed first host Shows Seen (λ seen u. record { shows = u.0; says = inl u.1 }) w.moments

    leaves_now : LeavesLast c.setting bounds (history_of c) next spare requests w.progress (frame.said first) (frame.may_leave host) → LeavesLast c.setting bounds (history_of c) next spare requests w.progress (frame.said host) (frame.may_leave host)
    leaves_now l = subst (λ o. LeavesLast c.setting bounds (history_of c) next spare requests w.progress o (frame.may_leave host)) (sym quiet) l

    by_fault : (f : Stop) → WorkEnds c next spare bounds requests w.progress k (frame.said first) (frame.reads host) (frame.may_leave host) (Err f)
        → TryEnds c next spare bounds requests w.progress (frame.said first) (frame.said host) (frame.reads host) (frame.may_leave host) (Err f)
    by_fault stop.Read ends = absurd ends
    by_fault stop.Say ends = absurd ends
    by_fault stop.Disk ends = (leaves_now ends, quiet)
    by_fault (stop.NotAStore file at) ends = ends
    by_fault stop.Unreachable ends = (ends.0, quiet, ends.1)
    by_fault stop.EpochsUsedUp ends = (ends.0, quiet, ends.1)
    by_fault stop.NoMemory ends = inl (leaves_now ends, quiet)

    pub ends_unsaid : (tried : Result (Unit {0}) Stop) → TryEnds c next spare bounds requests w.progress (frame.said first) (frame.said host) (frame.reads host) (frame.may_leave host) tried
        → Tries frame c next spare bounds requests tried first host
    ends_unsaid tried ends = record {
      progress = w.progress;
      moments = unsaid_moments;
      left = left_by frame seen_now first host Seen unsaid_moments;
      others = w.others;
      ends = ends;
    }

    pub tries_failed : (f : Stop) (tried : Result (Unit {0}) Stop) → result ≡ Err f → tried ≡ Err f → Tries frame c next spare bounds requests tried first host
    tries_failed f tried was is =
        ends_unsaid tried (subst (TryEnds c next spare bounds requests w.progress (frame.said first) (frame.said host) (frame.reads host) (frame.may_leave host)) (sym is)
        (by_fault f (subst (WorkEnds c next spare bounds requests w.progress k (frame.said first) (frame.reads host) (frame.may_leave host)) was w.ends)))

    -- all is worked off
    module _ (worked : Tally) (done : result ≡ Ok worked) where
      ends_so : WorkEnds c next spare bounds requests w.progress k (frame.said first) (frame.reads host) (frame.may_leave host) (Ok worked)
      ends_so = subst (WorkEnds c next spare bounds requests w.progress k (frame.said first) (frame.reads host) (frame.may_leave host)) done w.ends

      stand : StandsWith c.setting w.progress.history k (frame.reads host) (frame.may_leave host)
      stand = ends_so.1

      below : IsBehindAll stand.d w.progress.end
      below = subst (IsBehindAll stand.d) (sym ends_so.2) stand.stands.next

      pub text_is : (text : List ℕ) (lists : List (List (RowKey × Value))) → text ≡ report_text worked.answered worked.epochs (sum_in (map_with (joined lists)))
          → ((m : Rows) → HaveMap m k.members.tables → map_with (joined lists) ≡ m) → text ≡ report_of w.progress
      text_is text lists is rows =
          let settings = stand.setting in
          let histories = stand.history in
          let answered = ends_so.3 in
          let epochs = ends_so.4 in
          is ∙ ap (λ (m : Rows). report_text worked.answered worked.epochs (sum_in m)) (rows (map_in stand.d) stand.stands.map) ∙ (λ i. report_text (answered i) (epochs i) (sum_in (map_of (settings i).tree (histories i))))

      -- out of memory before anything is said
      pub tries_untold : (tried : Result (Unit {0}) Stop) → tried ≡ Err stop.NoMemory → Tries frame c next spare bounds requests tried first host
      tries_untold tried is = ends_unsaid tried (subst (TryEnds c next spare bounds requests w.progress (frame.said first) (frame.said host) (frame.reads host) (frame.may_leave host)) (sym is) (inl (
        record {
          count = w.progress.count;
          last = inl refl;
          history = w.progress.history;
          grown = with_theirs (manner_of c.setting bounds) (history_of c) bounds.size w.progress.count requests w.progress.classes w.progress.history w.progress.grown;
          number = w.progress.end;
          numbers = w.progress.numbers;
          left = λ bytes spoke image leaves. inl (record {
            contents = stand.d;
            setting = stand.setting;
            good = stand.rests.left image leaves;
            history = stand.history;
            below = behind_later stand.d w.progress.end (w.progress.end + 1) (omega arith) below;
          });
        },
        quiet,
      )))

      -- a text is said of it
      module _ (new : H) (text : List ℕ) (are : text ≡ report_of w.progress) (unread : frame.reads new ≡ frame.reads host) (crash : NoMore (frame.may_leave host) (frame.may_leave new))
          (sees : SeesOnly frame.moment frame.observed host new (IsNew (frame.may_leave host) (frame.said host) (frame.said new))) (part : SaysPart text (frame.said host) (frame.said new)) where
        part_so : SaysPart (report_of w.progress) (frame.said first) (frame.said new)
        part_so = (part.0, part.1 ∙ ap (λ o. append_known o (take part.0 text)) quiet ∙ ap (λ l. append_known (frame.said first) (take part.0 l)) are)

        telling_shows : (seen : Observation) → IsNew (frame.may_leave host) (frame.said host) (frame.said new) seen → Seen seen
        telling_shows seen is_new =
            let between : IsSaidBetween (frame.said first) (frame.said new) seen.said = subst (λ o. IsSaidBetween o (frame.said new) seen.said) quiet is_new.said in
            record {
              shows = all_shown c.setting bounds (history_of c) next spare requests w.progress.count w.progress.classes w.progress.history w.progress.grown w.progress.end w.progress.numbers seen (record {
                contents = stand.d;
                setting = stand.setting;
                good = stand.rests.left seen.image is_new.image;
                history = stand.history;
                below = behind_later stand.d w.progress.end (w.progress.end + 1) (omega arith) below;
              });
              says = inr (ends_so.0, refl, said_between (frame.said first) (frame.said new) (report_of w.progress) seen.said part_so.0 part_so.1 between);
            }

        moments_told : SeesOnly frame.moment frame.observed first new Seen
        moments_told = sees_then frame.moment frame.observed first host new Seen (IsNew (frame.may_leave host) (frame.said host) (frame.said new)) unsaid_moments sees telling_shows

        rests_still : RestsOn stand.d (frame.reads new) (frame.may_leave new)
        rests_still = record {
          files = stand.rests.files;
          are = unread ∙ stand.rests.are;
          good = stand.rests.good;
          left = λ image leaves. stand.rests.left image (crash image leaves);
        }

        rests_at : RestsAt c.setting w.progress.history w.progress.end (frame.reads new) (frame.may_leave new)
        rests_at = (stand.d, stand.setting, stand.history, below, rests_still)

        told : (tried : Result (Unit {0}) Stop) → TryEnds c next spare bounds requests w.progress (frame.said first) (frame.said new) (frame.reads new) (frame.may_leave new) tried
            → Tries frame c next spare bounds requests tried first new
        told tried ends = record {
          progress = w.progress;
          moments = moments_told;
          left = left_by frame seen_now first new Seen moments_told;
          others = writes_then c.setting (frame.reads first) (frame.reads host) (frame.reads new) (frame.may_leave first) (frame.may_leave host) (frame.may_leave new) w.others
              (writes_none c.setting (frame.reads host) (frame.reads new) (frame.may_leave host) (frame.may_leave new) unread crash);
          ends = ends;
        }

        -- it is said whole
        pub tries_told : frame.said new ≡ append_known (frame.said host) text → Tries frame c next spare bounds requests (Ok tt) first new
        tries_told whole = told (Ok tt) (ends_so.0, rests_at, whole ∙ ap (λ o. append_known o text) quiet ∙ ap (append_known (frame.said first)) are)

        in_part : IsToldInPart c.setting bounds (history_of c) next spare requests w.progress (frame.said first) (frame.said new) (frame.reads new) (frame.may_leave new)
        in_part = (ends_so.0, rests_at, part_so)

        by_saying : (f : OutFault) → TryEnds c next spare bounds requests w.progress (frame.said first) (frame.said new) (frame.reads new) (frame.may_leave new) (Err (stop_of_saying f))
        by_saying out.Failed = in_part
        by_saying out.NoMemory = inr in_part

        -- the saying broke off
        pub tries_cut : (f : OutFault) (tried : Result (Unit {0}) Stop) → tried ≡ Err (stop_of_saying f) → Tries frame c next spare bounds requests tried first new
        tries_cut f tried is = told tried (subst (TryEnds c next spare bounds requests w.progress (frame.said first) (frame.said new) (frame.reads new) (frame.may_leave new)) (sym is) (by_saying f))
