-- Requests worked off batch by batch, of each store that the cluster may stand at, and how that ends.
use Rattle.std.proofs.Common.{◌≡◌, ℕ, ◌+◌, ◌*◌, ◌≤◌, inl, inr, ⊎_elim, List, [], ◌∷◌, ◌++◌, drop, length, take, Result, Ok, Err, refl, sym, ap, subst, ◌∙◌, arith, length-append}
use Rattle.std.specs.Prelude.{⊤, OnOk}
use Rattle.coco_cluster.proofs.SeeingLemmas.{same_history}
use Rattle.coco_types.specs.Limits.{epochs_end}
use Rattle.coco_types.specs.declared.call.Request.{Request}
use Rattle.coco_append.specs.Gaining.{RestsOn}
use Rattle.coco_ast.specs.GrowthLaws.{Keeps}
use Rattle.coco_ast.specs.History.{Epoch, History}
use Rattle.coco_ast.proofs.GrowthLemmas.{growth_keeps}
use Rattle.coco_batches.specs.Asking.{known_of}
use Rattle.coco_cluster.specs.Around.{Around, IsLater, SkipsFew, spare}
use Rattle.coco_cluster.proofs.AroundLemmas.{spare_then}
use Rattle.coco_cluster.specs.Standing.{StandsAt}
use Rattle.coco_cluster.specs.declared.cluster.Cluster.{Cluster}
use Rattle.coco_cluster.specs.Turning.{RestsWithout, ShowsHistory, ShowsStore, epochs_of}
use Rattle.coco_cluster.specs.Writing.{WritesLogs}
use Rattle.coco_cluster.proofs.BehindLemmas.{behind_later}
use Rattle.coco_cluster.proofs.WriteLemmas.{writes_none, writes_then}
use Rattle.coco_host.specs.Moments.{Observation, SeesOnly}
use Rattle.coco_host.proofs.Sees.{started}
use Rattle.coco_host.specs.declared.host.Host.{Ghosts as HostGhosts}
use Rattle.coco_io.specs.Counts.{Rose}
use Rattle.coco_lines.specs.Batches.{joined}
use Rattle.coco_lines.specs.Classes.{Known, known_in, new_of}
use Rattle.coco_lines.specs.declared.class.Class.{Class}
use Rattle.coco_log.proofs.OnlyRead.{sees_then, sees_weaker}
use Rattle.coco_store.specs.Contents.{Contents, history_of}
use Rattle.coco_serve.specs.Faults.{Counts}
use Rattle.coco_serve.specs.Growth.{AddsWithin, AreNumberedWithin, GrowsByExecution, Manner, manner_of}
use Rattle.coco_serve.specs.OneBatch.{IsRefused, RefusedEnds}
use Rattle.coco_serve.specs.Seen.{LeavesEither}
use Rattle.coco_serve.specs.Serving.{RestsAt}
use Rattle.coco_serve.specs.declared.bounds.RunBounds.{RunBounds}
use Rattle.coco_cluster.specs.declared.stop.Stop.{Stop}
use Rattle.coco_cluster.specs.declared.stop.Stop.TheVariants as stop
use Rattle.coco_serve.proofs.BatchLemmas.{refused_early}
use Rattle.coco_serve.proofs.NumberLemmas.{added_by, adds_more, adds_none}
use Rattle.coco_serve.proofs.RunLemmas.{OnlyNow, known_at, moved}
use Rattle.coco_try.specs.Growth.{AreClassesOf, GrowsByParts, part_at, parts_of}
use Rattle.coco_try.specs.Report.{answered_in}
use Rattle.coco_try.specs.Trying.{HasCause, LeavesLast, TriedSoFar, ShowsParts}
use Rattle.coco_try.specs.Work.{ComesOfPart, CountsPart, HasNew, IsCountOf, PartEnds, WorksOffPart, done_of}
use Rattle.coco_try.specs.Working.{Unsaid, WorkEnds, Works}
use Rattle.coco_try.specs.declared.one_part.Tally.{Tally}
use Rattle.coco_try.proofs.GrowthLemmas.{all_parts, all_shown, answered_more, grows_more, later_shown, more_shown, paired, rest_more, with_others, with_theirs}

-- why a batch broke off, where no store says it
abbrev pub HasReason : ℕ → ℕ → Known → List Request → Stop → Type 0
HasReason next spare k part stop.Read = ⊤
HasReason next spare k part stop.Say = ⊤
HasReason next spare k part stop.Disk = ⊤
HasReason next spare k part (stop.NotAStore file at) = ⊤
HasReason next spare k part stop.Unreachable = HasNew k part
HasReason next spare k part stop.EpochsUsedUp = SkipsFew next epochs_end 0 spare × HasNew k part
HasReason next spare k part stop.NoMemory = ⊤

pub reason_of : (f : Stop) (k : Known) (part : List Request) (next : ℕ) (was now : Around) (before after : Counts) → CountsPart (Err f) k part next was now before after → HasReason next (spare was now) k part f
reason_of stop.Read k part next was now before after counts = tt
reason_of stop.Say k part next was now before after counts = tt
reason_of stop.Disk k part next was now before after counts = tt
reason_of (stop.NotAStore file at) k part next was now before after counts = tt
reason_of stop.Unreachable k part next was now before after counts = counts.1
reason_of stop.EpochsUsedUp k part next was now before after counts = counts
reason_of stop.NoMemory k part next was now before after counts = tt

-- the cause of a batch's fault is that of all of them, since no count of faults moved before
pub cause_of : (f : Stop) (k : Known) (part : List Request) (next at epochs requests : ℕ) (start was now : Around) (first before after : Counts) → before ≡ first → SkipsFew next at epochs (spare start was) → epochs ≤ requests
    → IsLater start was → IsLater was now → CountsPart (Err f) k part at was now before after → HasCause next requests start now first after (Err f)
cause_of stop.Read k part next at epochs requests start was now first before after same low few later then_ counts = absurd counts
cause_of stop.Say k part next at epochs requests start was now first before after same low few later then_ counts = absurd counts
cause_of stop.Disk k part next at epochs requests start was now first before after same low few later then_ counts = subst (λ (c : Counts). Rose c.disk after.disk) same counts
cause_of (stop.NotAStore file at_byte) k part next at epochs requests start was now first before after same low few later then_ counts = counts ∙ same
cause_of stop.Unreachable k part next at epochs requests start was now first before after same low few later then_ counts = (was, later, counts.0)
cause_of stop.EpochsUsedUp k part next at epochs requests start was now first before after same low few later then_ counts =
    (let used = counts.0 in let adds = spare_then start was now later then_ in subst (SkipsFew next epochs_end requests) (sym adds) (omega (arith, used, low, few)))
cause_of stop.NoMemory k part next at epochs requests start was now first before after same low few later then_ counts = tt

module _ {H : Type 0} (frame : HostGhosts H) where
  -- the requests before these others are whole batches, and a host rests on the store that they make
  pub record AreWorkedOff (c : Contents) (next spare : ℕ) (bounds : RunBounds) (requests rest : List Request) (worked : Tally) (k : Cluster) (first host : H) : Type 0 where
    pub count : ℕ
    pub classes : List (List Class)
    pub d : Contents
    pub setting : d.setting ≡ c.setting
    pub rest_is : rest ≡ drop (count * bounds.size) requests
    pub grown : GrowsByParts (manner_of c.setting bounds) (history_of c) (parts_of bounds.size requests count) classes (history_of d)
    pub numbers : AddsWithin next k.next_epoch spare (history_of c) (history_of d)
    pub answered : worked.answered ≡ answered_in (joined classes)
    pub epochs : worked.epochs ≡ length numbers.added
    pub rests : RestsOn d (frame.reads host) (frame.may_leave host)
    pub stands : StandsAt d k
    pub moments : SeesOnly frame.moment frame.observed first host (Unsaid (ShowsParts c.setting bounds (history_of c) next spare requests count classes (history_of d)) (frame.said first))
    pub others : WritesLogs c.setting (frame.reads first) (frame.reads host) (frame.may_leave first) (frame.may_leave host)

  pub worked_new : OnlyNow frame → (c : Contents) (spare : ℕ) (bounds : RunBounds) (requests : List Request) (worked : Tally) (k : Cluster) (host : H) → worked.answered ≡ 0 → worked.epochs ≡ 0
      → RestsOn c (frame.reads host) (frame.may_leave host) → StandsAt c k → AreWorkedOff c k.next_epoch spare bounds requests requests worked k host host
  worked_new only_now c spare bounds requests worked k host answered epochs rests stands = record {
    count = 0;
    classes = [];
    d = c;
    setting = refl;
    rest_is = (let e : 0 ≡ 0 * bounds.size = grind arith in ap (λ n. drop n requests) e);
    grown = (refl, refl);
    numbers = adds_none k.next_epoch k.next_epoch spare (history_of c) (record { low = omega arith; few = omega arith });
    answered = answered;
    epochs = epochs;
    rests = rests;
    stands = stands;
    moments = started frame.moment frame.observed host (Unsaid (ShowsParts c.setting bounds (history_of c) k.next_epoch spare requests 0 [] (history_of c)) (frame.said host)) (λ seen since.
        let now = only_now host seen since in (
          all_shown c.setting bounds (history_of c) k.next_epoch spare requests 0 [] (history_of c) (refl, refl) k.next_epoch
              (adds_none k.next_epoch k.next_epoch spare (history_of c) (record { low = omega arith; few = omega arith })) seen
              (record { contents = c; setting = refl; good = rests.left seen.image now.0; history = refl; below = behind_later c k.next_epoch (k.next_epoch + 1) (omega arith) stands.next }),
          now.1,
        ));
    others = writes_none c.setting (frame.reads host) (frame.reads host) (frame.may_leave host) (frame.may_leave host) refl (λ image left. left);
  }

  -- all are worked off
  pub works_done : (c : Contents) (next spare : ℕ) (bounds : RunBounds) (requests rest : List Request) (worked : Tally) (k : Cluster) (first host : H)
      → AreWorkedOff c next spare bounds requests rest worked k first host → rest ≡ [] → Works frame c next spare bounds requests (Ok worked) k first host
  works_done c next spare bounds requests rest worked k first host a none = record {
    progress = record { count = a.count; classes = a.classes; history = history_of a.d; grown = a.grown; end = k.next_epoch; numbers = a.numbers };
    moments = a.moments;
    others = a.others;
    ends = (
      all_parts bounds.size a.count requests rest a.rest_is none,
      record { d = a.d; setting = a.setting; history = refl; rests = a.rests; stands = a.stands },
      refl,
      a.answered,
      a.epochs,
    );
  }

  module _ (c : Contents) (next spare more_spare : ℕ) (bounds : RunBounds) (requests rest : List Request) (worked : Tally) (k : Cluster) (first mid host : H) (part : List Request)
      (a : AreWorkedOff c next spare bounds requests rest worked k first mid) (quiet : frame.said mid ≡ frame.said first) (part_is : part ≡ take bounds.size rest) where
    abbrev manner : Manner
    manner = manner_of c.setting bounds

    abbrev opening : History
    opening = history_of c

    abbrev h : History
    h = history_of a.d

    abbrev all : ℕ
    all = spare + more_spare

    part_so : part ≡ part_at bounds.size requests a.count
    part_so = part_is ∙ ap (take bounds.size) a.rest_is

    as_many : length a.classes ≡ a.count
    as_many = paired manner opening bounds.size a.count requests a.classes h a.grown

    abbrev Was : Observation → Type 0
    Was = Unsaid (ShowsParts c.setting bounds opening next spare requests a.count a.classes h) (frame.said first)

    -- ---- nothing of the next batch is committed

    module _ (result : Result (Unit {0}) Stop) (x : IsRefused frame result a.d k.next_epoch more_spare mid host) where
      abbrev numbers_still : AddsWithin next x.number all opening h
      numbers_still = adds_more next k.next_epoch x.number spare more_spare opening h h a.numbers (adds_none k.next_epoch x.number more_spare h x.taken)

      abbrev still : TriedSoFar manner opening next all bounds.size requests
      still = record { count = a.count; classes = a.classes; history = h; grown = a.grown; end = x.number; numbers = numbers_still }

      abbrev Still : Observation → Type 0
      Still = Unsaid (ShowsParts c.setting bounds opening next all requests a.count a.classes h) (frame.said first)

      still_shows : (seen : Observation) → ShowsHistory a.d.setting h (x.number + 1) (frame.said mid) seen → Still seen
      still_shows seen shows = (
        all_shown c.setting bounds opening next all requests a.count a.classes h a.grown x.number numbers_still seen (moved a.d.setting c.setting h (x.number + 1) (x.number + 1) seen.image a.setting (omega arith) shows.0),
        sym quiet ∙ shows.1,
      )

      moments_still : SeesOnly frame.moment frame.observed first host Still
      moments_still = sees_then frame.moment frame.observed first mid host Still (ShowsHistory a.d.setting h (x.number + 1) (frame.said mid))
          (sees_weaker frame.moment frame.observed first mid Was Still (λ seen s. (later_shown c.setting bounds opening next spare requests a.count a.classes h all (omega arith) seen s.0, s.1)) a.moments) x.moments still_shows

      others_still : WritesLogs c.setting (frame.reads first) (frame.reads host) (frame.may_leave first) (frame.may_leave host)
      others_still = writes_then c.setting (frame.reads first) (frame.reads mid) (frame.reads host) (frame.may_leave first) (frame.may_leave mid) (frame.may_leave host) a.others
          (subst (λ s. WritesLogs s (frame.reads mid) (frame.reads host) (frame.may_leave mid) (frame.may_leave host)) a.setting x.others)

      leaves_still : LeavesLast c.setting bounds opening next all requests still (frame.said first) (frame.may_leave host)
      leaves_still = record {
        count = a.count;
        last = inl refl;
        history = h;
        grown = with_theirs manner opening bounds.size a.count requests a.classes h a.grown;
        number = x.number;
        numbers = numbers_still;
        left = λ bytes spoke image left. inl (moved a.d.setting c.setting h (x.number + 1) (x.number + 1) image a.setting (omega arith) (x.left bytes (quiet ∙ spoke) image left));
      }

      rests_still : RestsWithout a.d x.number (frame.reads host) (frame.may_leave host) → RestsAt c.setting h x.number (frame.reads host) (frame.may_leave host)
      rests_still w = (w.0, w.1.setting ∙ a.setting, same_history a.d w.0 w.1, w.2, w.3)

      next_new : HasNew (known_of k.kept []) part → HasNew (known_in h) (part_at bounds.size requests a.count)
      next_new new = subst (λ p. HasNew (known_in h) p) part_so (subst (λ kn. HasNew kn part) (known_at a.d k a.stands) new)

      by_still : (f : Stop) → HasReason k.next_epoch more_spare (known_of k.kept []) part f → RefusedEnds a.d x.number (frame.reads host) (frame.may_leave host) (Err f)
          → WorkEnds c next all bounds requests still k (frame.said first) (frame.reads host) (frame.may_leave host) (Err f)
      by_still stop.Read reason ends = absurd ends
      by_still stop.Say reason ends = absurd ends
      by_still stop.Disk reason ends = leaves_still
      by_still (stop.NotAStore file at) reason ends = absurd ends
      by_still stop.Unreachable reason ends = (rests_still ends, next_new reason)
      by_still stop.EpochsUsedUp reason ends =
          let few = a.numbers.few in
          let end = reason.0 in
          let no_more = length-append a.numbers.added [] in
          (rests_still ends, record { end = omega (arith, few, end, no_more); has_next = next_new reason.1 })
      by_still stop.NoMemory reason ends = leaves_still

      pub works_refused : (f : Stop) (after : Cluster) → result ≡ Err f → HasReason k.next_epoch more_spare (known_of k.kept []) part f
          → Works frame c next all bounds requests (Err f) after first host
      works_refused f after is reason = record {
        progress = still;
        moments = moments_still;
        others = others_still;
        ends = ended f (by_still f reason (subst (RefusedEnds a.d x.number (frame.reads host) (frame.may_leave host)) is x.ends));
      }
        where
          -- how it ended says nothing of the cluster
          ended : (f : Stop) → WorkEnds c next all bounds requests still k (frame.said first) (frame.reads host) (frame.may_leave host) (Err f) → WorkEnds c next all bounds requests still after (frame.said first) (frame.reads host) (frame.may_leave host) (Err f)
          ended stop.Read ends = ends
          ended stop.Say ends = ends
          ended stop.Disk ends = ends
          ended (stop.NotAStore file at) ends = ends
          ended stop.Unreachable ends = ends
          ended stop.EpochsUsedUp ends = ends
          ended stop.NoMemory ends = ends

    -- ---- the next batch may be committed

    module _ (result : Result Tally Stop) (k' : Cluster) (x : WorksOffPart frame result part bounds a.d k.next_epoch more_spare k' mid host) where
      abbrev g : History
      g = history_of x.d

      abbrev classes' : List (List Class)
      classes' = a.classes ++ x.classes ∷ []

      abbrev end' : ℕ
      end' = x.number + epochs_of (new_of x.classes)

      grows : GrowsByExecution manner h (new_of x.classes) g
      grows = subst (λ s. GrowsByExecution (manner_of s bounds) h (new_of x.classes) g) a.setting x.grows

      grown' : GrowsByParts manner opening (parts_of bounds.size requests (a.count + 1)) classes' g
      grown' = grows_more manner opening bounds.size a.count requests a.classes h x.classes g a.grown (subst (λ p. AreClassesOf (known_in h) p x.classes) part_so x.are) grows

      abbrev numbers' : AddsWithin next end' all opening g
      numbers' = adds_more next k.next_epoch end' spare more_spare opening h g a.numbers x.numbers

      -- the number of its epoch is tried, and the history has yet to grow
      abbrev numbers_before : AddsWithin next x.number all opening h
      numbers_before = adds_more next k.next_epoch x.number spare more_spare opening h h a.numbers (adds_none k.next_epoch x.number more_spare h x.taken)

      keeps : Keeps h (new_of x.classes) g
      keeps = growth_keeps h (new_of x.classes) g grows.0

      abbrev Shows : Observation → Type 0
      Shows = Unsaid (ShowsParts c.setting bounds opening next all requests (a.count + 1) classes' g) (frame.said first)

      part_shows : (seen : Observation) → ShowsStore a.d.setting h g (x.number + 1) (frame.said mid) seen → Shows seen
      part_shows seen shows = (
        ⊎_elim
            (λ was. more_shown c.setting bounds opening next all requests a.count a.classes h as_many x.classes g keeps.prefix seen
            (all_shown c.setting bounds opening next all requests a.count a.classes h a.grown x.number numbers_before seen
            (moved a.d.setting c.setting h (x.number + 1) (x.number + 1) seen.image a.setting (omega arith) was)))
            (λ grew. all_shown c.setting bounds opening next all requests (a.count + 1) classes' g grown' end' numbers' seen
            (moved a.d.setting c.setting g (x.number + 1) (end' + 1) seen.image a.setting (omega arith) grew)) shows.store,
        sym quiet ∙ shows.said,
      )

      moments' : SeesOnly frame.moment frame.observed first host Shows
      moments' = sees_then frame.moment frame.observed first mid host Shows (ShowsStore a.d.setting h g (x.number + 1) (frame.said mid))
          (sees_weaker frame.moment frame.observed first mid Was Shows
          (λ seen s. (
            more_shown c.setting bounds opening next all requests a.count a.classes h as_many x.classes g keeps.prefix seen
                (later_shown c.setting bounds opening next spare requests a.count a.classes h all (omega arith) seen s.0),
            s.1,
          )) a.moments) x.moments part_shows

      others' : WritesLogs c.setting (frame.reads first) (frame.reads host) (frame.may_leave first) (frame.may_leave host)
      others' = writes_then c.setting (frame.reads first) (frame.reads mid) (frame.reads host) (frame.may_leave first) (frame.may_leave mid) (frame.may_leave host) a.others
          (subst (λ s. WritesLogs s (frame.reads mid) (frame.reads host) (frame.may_leave mid) (frame.may_leave host)) a.setting x.others)

      -- it was committed
      pub worked_more : (more worked' : Tally) (rest' : List Request) → result ≡ Ok more → worked'.answered ≡ worked.answered + more.answered → worked'.epochs ≡ worked.epochs + more.epochs → rest' ≡ drop bounds.size rest
          → AreWorkedOff c next all bounds requests rest' worked' k' first host
      worked_more more worked' rest' is answered epochs rest_so = record {
        count = a.count + 1;
        classes = classes';
        d = x.d;
        setting = x.setting ∙ a.setting;
        rest_is = rest_more bounds.size a.count requests rest rest' a.rest_is rest_so;
        grown = grown';
        numbers = record {
          added = a.numbers.added ++ x.numbers.added;
          epochs = numbers'.epochs;
          numbered = subst (λ e. AreNumberedWithin next e (a.numbers.added ++ x.numbers.added)) (sym next_is) numbers'.numbered;
          few = subst (λ e. SkipsFew next e (length (a.numbers.added ++ x.numbers.added)) all) (sym next_is) numbers'.few;
        };
        answered = (
            let before = a.answered in
            let one = done.2.answered in
            let both = answered_more a.classes x.classes in
            omega (arith, answered, before, one, both));
        epochs = (
            let before = a.epochs in
            let one = done.2.epochs in
            let both = length-append a.numbers.added x.numbers.added in
            omega (arith, epochs, before, one, both, made));
        rests = done.0;
        stands = done.1;
        moments = moments';
        others = others';
      }
        where
          done : RestsOn x.d (frame.reads host) (frame.may_leave host) × StandsAt x.d k' × IsCountOf x.classes more
          done = subst (PartEnds a.d x.d (x.number + 1) k' x.classes (frame.said mid) (frame.reads host) (frame.may_leave host)) is x.ends

          next_is : k'.next_epoch ≡ end'
          next_is = subst (λ (r : Result _ _). OnOk r (k'.next_epoch ≡ end')) is x.next_is

          -- as many epochs as it makes
          made : length x.numbers.added ≡ epochs_of (new_of x.classes)
          made =
              let by = added_by h (new_of x.classes) g grows.0 in
              let counted = ap (length {A = Epoch}) (sym x.numbers.epochs ∙ by.1) in
              omega (arith, counted, by.2, length-append h.epochs x.numbers.added, length-append h.epochs by.0)

      -- its turn failed
      abbrev progress' : TriedSoFar manner opening next all bounds.size requests
      progress' = record { count = a.count + 1; classes = classes'; history = g; grown = grown'; end = end'; numbers = numbers' }

      leaves' : LeavesEither a.d.setting h g (x.number + 1) (frame.said mid) (frame.may_leave host) → LeavesLast c.setting bounds opening next all requests progress' (frame.said first) (frame.may_leave host)
      leaves' left = record {
        count = a.count;
        last = inr refl;
        history = h;
        grown = with_others manner opening bounds.size a.count requests a.classes x.classes h a.grown;
        number = x.number;
        numbers = numbers_before;
        left = λ bytes spoke image leaves. ⊎_elim
            (λ was. inl (moved a.d.setting c.setting h (x.number + 1) (x.number + 1) image a.setting (omega arith) was))
            (λ grew. inr (moved a.d.setting c.setting g (x.number + 1) (x.number + 1) image a.setting (omega arith) grew)) (left bytes (quiet ∙ spoke) image leaves);
      }

      by_part : (f : Stop) → PartEnds a.d x.d (x.number + 1) k' x.classes (frame.said mid) (frame.reads host) (frame.may_leave host) (Err f) → WorkEnds c next all bounds requests progress' k' (frame.said first) (frame.reads host) (frame.may_leave host) (Err f)
      by_part stop.Read ends = ends
      by_part stop.Say ends = ends
      by_part stop.Disk ends = leaves' ends
      by_part (stop.NotAStore file at) ends = ends
      by_part stop.Unreachable ends = absurd ends
      by_part stop.EpochsUsedUp ends = absurd ends
      by_part stop.NoMemory ends = leaves' ends

      pub works_failed : (f : Stop) → result ≡ Err f → Works frame c next all bounds requests (Err f) k' first host
      works_failed f is = record {
        progress = progress';
        moments = moments';
        others = others';
        ends = by_part f (subst (PartEnds a.d x.d (x.number + 1) k' x.classes (frame.said mid) (frame.reads host) (frame.may_leave host)) is x.ends);
      }

  -- ---- one batch, as it ends

  -- what is known of a batch that came off the front, and of its answer
  module _ (c : Contents) (next spare more_spare total : ℕ) (bounds : RunBounds) (requests rest : List Request) (worked : Tally) (k k' : Cluster) (first mid host : H) (part : List Request) (result : Result Tally Stop)
      (sums : total ≡ spare + more_spare) (a : AreWorkedOff c next spare bounds requests rest worked k first mid) (quiet : frame.said mid ≡ frame.said first) (part_is : part ≡ take bounds.size rest)
      (comes : ComesOfPart frame result part bounds a.d k.next_epoch more_spare k' mid host) where
    -- it was committed, if it has an epoch
    pub worked_on : (more worked' : Tally) (rest' : List Request) → result ≡ Ok more → worked'.answered ≡ worked.answered + more.answered → worked'.epochs ≡ worked.epochs + more.epochs → rest' ≡ drop bounds.size rest
        → AreWorkedOff c next total bounds requests rest' worked' k' first host
    worked_on more worked' rest' is answered epochs rest_so = subst (λ n. AreWorkedOff c next n bounds requests rest' worked' k' first host) (sym sums) (⊎_elim
        (λ x. absurd (subst (λ r. RefusedEnds a.d x.number (frame.reads host) (frame.may_leave host) (done_of r)) is x.ends))
        (λ x. worked_more c next spare more_spare bounds requests rest worked k first mid host part a quiet part_is result k' x more worked' rest' is answered epochs rest_so) comes)

    -- it broke off
    pub worked_off : (f : Stop) → result ≡ Err f → HasReason k.next_epoch more_spare (known_of k.kept []) part f → Works frame c next total bounds requests (Err f) k' first host
    worked_off f is reason = subst (λ n. Works frame c next n bounds requests (Err f) k' first host) (sym sums) (⊎_elim
        (λ x. works_refused c next spare more_spare bounds requests rest worked k first mid host part a quiet part_is (done_of result) x f k' (ap done_of is) reason)
        (λ x. works_failed c next spare more_spare bounds requests rest worked k first mid host part a quiet part_is result k' x f is) comes)

  -- nothing is worked off, since memory ran out before
  pub works_none : OnlyNow frame → (c : Contents) (spare : ℕ) (bounds : RunBounds) (requests : List Request) (k : Cluster) (host : H) → RestsOn c (frame.reads host) (frame.may_leave host) → StandsAt c k
      → Works frame c k.next_epoch spare bounds requests (Err stop.NoMemory) k host host
  works_none only_now c spare bounds requests k host rests stands =
      let worked : Tally = record { answered = 0; epochs = 0 } in
      let a = worked_new only_now c 0 bounds requests worked k host refl refl rests stands in
      worked_off c k.next_epoch 0 spare spare bounds requests requests worked k k host host host (take bounds.size requests) (Err stop.NoMemory) (omega arith) a refl refl
      (inl (refused_early frame only_now (Err stop.NoMemory) a.d k spare host refl a.rests a.stands)) stop.NoMemory refl tt
