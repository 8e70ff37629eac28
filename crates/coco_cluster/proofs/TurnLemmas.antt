-- A turn, attempt by attempt.
use Rattle.std.specs.Global.{Vec}
use Rattle.std.proofs.Common.{◌≡◌, ◌≢◌, ◌⊎◌, inl, inr, ⊎_elim, ℕ, suc, ◌+◌, ◌*◌, ◌<◌, ◌≤◌, ◌==◌, true, false, List, [], ◌∷◌, ◌++◌, length, map, Option, Some, None, Result, Ok, Err, refl, sym, ap, ◌∙◌, subst, arith}
use Rattle.std.specs.Prelude.{OnOk}
use Rattle.std.specs.List.{AllByRecursion}
use Rattle.std.specs.Option.{option_map}
use Rattle.std.proofs.lemmas.Bool.Decides.{nat_tests}
use Rattle.coco_append.specs.Gaining.{RestsOn, IsChiefLog}
use Rattle.coco_ast.specs.Growth.{GrowsBy}
use Rattle.coco_ast.specs.Fitting.{Fits}
use Rattle.coco_ast.specs.History.{AreAbove, History, all_dones, done_of, followed_by, kept_of}
use Rattle.coco_ast.specs.Keyed.{Rows}
use Rattle.coco_append.specs.EpochEntries.{HasRoomFor}
use Rattle.coco_entry.specs.declared.layout.Layout.{Layout}
use Rattle.coco_host.specs.Files.{Files}
use Rattle.coco_host.specs.declared.host.Host.{Ghosts as HostGhosts}
use Rattle.coco_letters.specs.Around.{Around, IsLater, IsTaken, SkipsFew, spare}
use Rattle.coco_letters.specs.GivingUp.{AreGivenUp}
use Rattle.coco_log.proofs.OnlyRead.{sees_then, sees_weaker}
use Rattle.coco_net.specs.declared.letter.Posted.{Posted}
use Rattle.coco_parallel.specs.Traces.{IsTraceOf, Traced, traced}
use Rattle.coco_store.specs.Contents.{Contents, history_of, map_in}
use Rattle.coco_types.specs.declared.call.Request.{Request}
use Rattle.coco_cluster.specs.Attempts.{AttemptsOn, CommitsOn, KeepsOn, StandsOn}
use Rattle.coco_cluster.specs.Faults.{CountsAttempt, CountsTurn, MayHaveCommitted}
use Rattle.coco_cluster.specs.Standing.{IsBehindAll, IsSound, MayStop, StandsAt, KeepsBelow}
use Rattle.coco_cluster.specs.Trying.{GivesUp, Keeps}
use Rattle.coco_cluster.specs.Turning.{AddsOnlyPrepared, EndsWithout, Grown, HasRoom, HasTurned, IsStoreOf, KeepsHistory, MayTurn, RestsWithout, ShowsHistory, ShowsStore, Turns, beginning_on, epochs_of}
use Rattle.coco_cluster.specs.Writing.{WritesLogs}
use Rattle.coco_cluster.specs.declared.cluster.Cluster.{Cluster}
use Rattle.coco_cluster.specs.declared.stop.Stop.{Stop}
use Rattle.coco_cluster.specs.declared.stop.Stop.TheVariants as stop
use Rattle.coco_cluster.proofs.AroundLemmas.{gives_later, gives_spare, one_more, spare_then}
use Rattle.coco_cluster.proofs.BehindLemmas.{behind_later}
use Rattle.coco_cluster.proofs.SeeingLemmas.{OnlyNow, adds_none, adds_then, as_before, keeps_as, keeps_later, keeps_same, keeps_then, same_history, same_map}
use Rattle.coco_cluster.proofs.WriteLemmas.{writes_then}
use Rattle.coco_chief.specs.Shown.{chief_of}
use Rattle.coco_finish.specs.Finishing.{HaveMap}
use Rattle.coco_load.specs.RowMaps.{joined}
use Rattle.coco_lost.specs.Reading.{KnowsCommitted}
use Rattle.coco_members.specs.AtRest.{AreAtRest, NoneLost}
use Rattle.coco_members.specs.Opened.{HoldTheirs}
use Rattle.coco_types.specs.Limits.{epochs_end, most_partitions}
use Rattle.coco_vote.specs.Taking.{HaveLogs}
use Rattle.coco_store.specs.Rules.{Setting}
use Rattle.coco_types.specs.RowKey.{RowKey}
use Rattle.coco_types.specs.declared.value.Value.{Value}
use Rattle.coco_kept.specs.Keeping.{Keeping}
use Rattle.coco_members.specs.declared.members.Members.{Members}

-- ---- clusters that differ in room and trace alone

-- what belongs to the store is the same in both
pub record SameStore (old new : Cluster) : Type 0 where
  pub procs : new.procs ≡ old.procs
  pub kept : new.kept ≡ old.kept
  pub members : new.members ≡ old.members
  pub base : new.base ≡ old.base
  pub next : new.next_epoch ≡ old.next_epoch

pub same_stands : (c : Contents) (old new : Cluster) → SameStore old new → StandsAt c old → StandsAt c new
same_stands c old new same stands = record {
  belongs = record {
    procs = same.procs ∙ stands.belongs.procs;
    dones = ap (λ (k : Keeping). k.dones) same.kept ∙ stands.belongs.dones;
    floor = ap (λ (k : Keeping). k.floor) same.kept ∙ stands.belongs.floor;
    keep = ap (λ (k : Keeping). k.keep) same.kept ∙ stands.belongs.keep;
    layout = ap (λ (m : Members). m.tables.layout) same.members ∙ stands.belongs.layout;
    base = stands.belongs.base ∙ ap (λ (b : Vec (List (RowKey × Value))). joined b.items) (sym same.base);
    chief = subst (λ (m : Members). IsChiefLog c m.log) (sym same.members) stands.belongs.chief;
    logs = subst (λ (m : Members). HaveLogs c m.voters.items) (sym same.members) stands.belongs.logs;
    held = subst (λ (m : Members). HoldTheirs c.setting.entry.layout m.voters.items) (sym same.members) stands.belongs.held;
    commits = subst (λ (m : Members). KnowsCommitted c (chief_of m.chief)) (sym same.members) stands.belongs.commits;
  };
  map = subst (λ (m : Members). HaveMap (map_in c) m.tables) (sym same.members) stands.map;
  next = subst (IsBehindAll c) (sym same.next) stands.next;
}

pub same_sound : (sent : List Posted) (old new : Cluster) → SameStore old new → IsSound old sent → IsSound new sent
same_sound sent old new same sound = record {
  rests = record {
    keeps = subst (λ k. KeepsBelow k new.next_epoch) (sym same.kept) (subst (KeepsBelow old.kept) (sym same.next) sound.rests.keeps);
    first = subst (λ n. 0 < n) (sym same.next) sound.rests.first;
    end = subst (λ n. n ≤ epochs_end) (sym same.next) sound.rests.end;
    base = subst (λ n. new.members.tables.layout.base_epoch < n) (sym same.next) (subst (λ (m : Members). m.tables.layout.base_epoch < old.next_epoch) (sym same.members) sound.rests.base);
    partitions = subst (λ (m : Members). m.tables.layout.partitions ≤ most_partitions) (sym same.members) sound.rests.partitions;
    rest = subst (λ n. AreAtRest n sent new.members) (sym same.next) (subst (λ (m : Members). AreAtRest old.next_epoch sent m) (sym same.members) sound.rests.rest);
    unspent = ap (λ (m : Members). m.log.spent) same.members ∙ sound.rests.unspent;
    stops = subst MayStop (sym same.members) sound.rests.stops;
  };
  whole = subst (λ (m : Members). NoneLost m.voters.items) (sym same.members) sound.whole;
}

-- ---- numbers

some_of : (n : ℕ) → (n == 0) ≡ false → 0 < n
some_of n not_none = grind (arith, nat_tests)

pub none_of : (rs : List Request) (n : ℕ) → (n == 0) ≡ true → n ≡ length rs → rs ≡ []
none_of [] n test len = refl
none_of (r ∷ rs) n test len = (let none : n ≡ 0 = grind (arith, nat_tests) in absurd (omega (arith, none, len)))

pub some_left : (rs : List Request) (n : ℕ) → (n == 0) ≡ false → n ≡ length rs → 0 < length rs
some_left rs n test len = (let some = some_of n test in omega (arith, some, len))

pub none_left : (rs : List Request) → 0 < length rs → rs ≡ [] → ⊥
none_left rs some none = (let never_so : length rs ≡ 0 = ap (length {A = Request}) none in omega (arith, some, never_so))

one_epoch : (rs : List Request) → 0 < length rs → epochs_of rs ≡ 1
one_epoch [] some = absurd (omega (arith, some))
one_epoch (r ∷ rs) some = refl

-- an attempt more, that was given up
pub more_given : (n : ℕ) (a b c : Around) → AreGivenUp n a b → GivesUp b c → AreGivenUp (n + 1) a c
more_given n a b c given more = subst (λ (m : ℕ). AreGivenUp m a c) (let next : suc n ≡ n + 1 = omega arith in next) (one_more n a b c given more)

-- what was left of numbers goes on being enough
pub few_until : (number next : ℕ) (a b c : Around) → 16 * number ≤ 16 * next + spare a b → IsLater a b → IsLater b c → 16 * number ≤ 16 * next + spare a c
few_until number next a b c few first second = (let adds = spare_then a b c first second in omega (arith, few, adds))

pub few_more : (number later next : ℕ) (a b c : Around) → 16 * number ≤ 16 * next + spare a b → IsLater a b → GivesUp b c → later ≤ number + 1 → 16 * later ≤ 16 * next + spare a c
few_more number later next a b c few first gives up = (
    let adds = spare_then a b c first (gives_later b c gives) in
    let more = gives_spare b c gives in
    omega (arith, few, adds, more, up))

pub skips_few : (rs : List Request) (number later next : ℕ) (a c : Around) → 0 < length rs → 16 * number ≤ 16 * next + spare a c → later ≡ number + 1 → SkipsFew next later (epochs_of rs) (spare a c)
skips_few rs number later next a c some few up = (let one = one_epoch rs some in omega (arith, few, up, one))

-- ---- faults

-- an attempt that failed may have committed its epoch
may_have : (f : Stop) (disk disk_new : ℕ) → CountsAttempt {T = Unit {0}} (Err f) disk disk_new → MayHaveCommitted {T = Unit {0}} (Err f)
may_have stop.Read disk disk_new counts = absurd counts
may_have stop.Say disk disk_new counts = absurd counts
may_have stop.Disk disk disk_new counts = tt
may_have (stop.NotAStore file at) disk disk_new counts = tt
may_have stop.NoMemory disk disk_new counts = tt
may_have stop.Unreachable disk disk_new counts = absurd counts
may_have stop.EpochsUsedUp disk disk_new counts = absurd counts

ends_nothing : (f : Stop) (disk disk_new : ℕ) (c : Contents) (end : ℕ) (reads : Option Files) (may_leave : Files → Type 0) → CountsAttempt {T = Unit {0}} (Err f) disk disk_new → EndsWithout c end reads may_leave (Err f)
ends_nothing stop.Read disk disk_new c end reads may_leave counts = absurd counts
ends_nothing stop.Say disk disk_new c end reads may_leave counts = absurd counts
ends_nothing stop.Disk disk disk_new c end reads may_leave counts = tt
ends_nothing (stop.NotAStore file at) disk disk_new c end reads may_leave counts = tt
ends_nothing stop.NoMemory disk disk_new c end reads may_leave counts = tt
ends_nothing stop.Unreachable disk disk_new c end reads may_leave counts = absurd counts
ends_nothing stop.EpochsUsedUp disk disk_new c end reads may_leave counts = absurd counts

counts_one : (f : Stop) (next : ℕ) (a b : Around) (disk disk_new : ℕ) → CountsAttempt {T = Unit {0}} (Err f) disk disk_new → CountsTurn {T = Unit {0}} (Err f) next a b disk disk_new
counts_one stop.Read next a b disk disk_new counts = absurd counts
counts_one stop.Say next a b disk disk_new counts = absurd counts
counts_one stop.Disk next a b disk disk_new counts = counts
counts_one (stop.NotAStore file at) next a b disk disk_new counts = counts
counts_one stop.NoMemory next a b disk disk_new counts = counts
counts_one stop.Unreachable next a b disk disk_new counts = absurd counts
counts_one stop.EpochsUsedUp next a b disk disk_new counts = absurd counts

pub counts_failed : (turned : Result (Unit {0}) Stop) (f : Stop) (next : ℕ) (a b : Around) (first disk disk_new : ℕ) → turned ≡ Err f → disk ≡ first → CountsAttempt {T = Unit {0}} (Err f) disk disk_new → CountsTurn turned next a b first disk_new
counts_failed turned f next a b first disk disk_new failed same counts = subst (λ (r : Result (Unit {0}) Stop). CountsTurn r next a b first disk_new) (sym failed)
    (counts_one f next a b first disk_new (subst (λ n. CountsAttempt {T = Unit {0}} (Err f) n disk_new) same counts))

-- ---- a turn's requests on a cluster that goes on

pub may_still : (old k : Cluster) (requests left : List Request) → left ≡ requests → k.procs ≡ old.procs → k.kept ≡ record old.kept { room = k.kept.room } → MayTurn old requests → MayTurn k left
may_still old k requests left same procs kept may = subst (MayTurn k) (sym same) (record {
  fit = subst (λ ps. AllByRecursion (λ (r : Request). Fits ps r.call) requests) (sym procs) may.fit;
  distinct = may.distinct;
  unkept = subst (λ (n : Keeping). AllByRecursion (λ (r : Request). done_of r.id n.dones ≡ None) requests) (sym kept) may.unkept;
  above = subst (λ (n : Keeping). AreAbove n.floor (map (λ (r : Request). r.id) requests)) (sym kept) may.above;
  few = may.few;
})

pub room_as : (c d : Contents) (requests left : List Request) → AddsOnlyPrepared c d → left ≡ requests → HasRoom c requests → HasRoom d left
room_as c d requests left only same room = subst (HasRoom d) (sym same)
    (subst (λ (s : Setting). HasRoomFor s.entry.keep (length (all_dones (history_of d)) + length requests)) (sym only.setting)
    (subst (λ (h : History). HasRoomFor c.setting.entry.keep (length (all_dones h) + length requests)) (sym (same_history c d only)) room))

-- what was committed on it was committed on the one that the turn began with
pub turned_first : (first k after : Cluster) (requests left : List Request) (workers attempts : ℕ) (m : Rows) → left ≡ requests → k.procs ≡ first.procs → k.members.tables.layout ≡ first.members.tables.layout → k.kept ≡ record first.kept { room = k.kept.room }
    → HasTurned left workers attempts m k after → HasTurned requests workers attempts m first after
turned_first first k after requests left workers attempts m same procs layout kept turned = record {
  dones = turned.dones;
  trace = turned.trace;
  number = turned.number;
  next = turned.next;
  trace_is = turned.trace_is;
  traced = subst (λ b. IsTraceOf b turned.number turned.dones turned.trace)
      (ap (λ ps. record { procs = ps; opening = m; requests = left; partitions = k.members.tables.layout.partitions; workers = workers; attempts = attempts }) procs
      ∙ ap (λ rs. record { procs = first.procs; opening = m; requests = rs; partitions = k.members.tables.layout.partitions; workers = workers; attempts = attempts }) same
      ∙ ap (λ (l : Layout). record { procs = first.procs; opening = m; requests = requests; partitions = l.partitions; workers = workers; attempts = attempts }) layout) turned.traced;
  kept = turned.kept ∙ ap (λ (n : Keeping). kept_of n.keep (n.dones ++ turned.dones)) kept;
}

-- ---- what is told of the store

module _ {H : Type 0} (frame : HostGhosts H) where
  -- so far all attempts were given up: the cluster stands at contents with prepared entries more
  pub record GoesOn (c : Contents) (k : Cluster) (first now : H) : Type 0 where
    pub on : StandsOn c k (frame.reads now) (frame.may_leave now)
    pub keeps : Keeps frame c (k.next_epoch + 1) first now

  pub goes_first : OnlyNow frame → (c : Contents) (old k : Cluster) (host : H) → SameStore old k → RestsOn c (frame.reads host) (frame.may_leave host) → StandsAt c old → GoesOn c k host host
  goes_first only_now c old k host same rests stands =
      let now = same_stands c old k same stands in
      record {
        on = record { d = c; only = adds_none c; rests = rests; stands = now };
        keeps = keeps_same frame only_now c (k.next_epoch + 1) host rests (behind_later c k.next_epoch (k.next_epoch + 1) (omega arith) now.next);
      }

  -- what is told of contents with prepared entries more is told of those before
  begins_as : (c d : Contents) (requests : List Request) (workers attempts : ℕ) → AddsOnlyPrepared c d → beginning_on d requests workers attempts ≡ beginning_on c requests workers attempts
  begins_as c d requests workers attempts only =
      ap (λ (s : Setting). record { procs = s.tree; opening = map_in d; requests = requests; partitions = s.entry.layout.partitions; workers = workers; attempts = attempts }) only.setting
      ∙ ap (λ m. record { procs = c.setting.tree; opening = m; requests = requests; partitions = c.setting.entry.layout.partitions; workers = workers; attempts = attempts }) (same_map c d only)

  grown_as : (c d e : Contents) (requests : List Request) (workers attempts number : ℕ) (trace : Traced) → AddsOnlyPrepared c d → Grown requests workers attempts number trace d e → Grown requests workers attempts number trace c e
  grown_as c d e requests workers attempts number trace only grown = record {
    setting = grown.setting ∙ only.setting;
    base = grown.base ∙ only.base;
    e = grown.e;
    number = grown.number;
    traced = subst (λ b. IsTraceOf b number grown.e.dones trace) (begins_as c d requests workers attempts only) grown.traced;
    history = grown.history ∙ ap (λ h. followed_by h grown.e) (same_history c d only);
    grows = subst (λ h. GrowsBy h requests (history_of e)) (same_history c d only) grown.grows;
    below = grown.below;
  }

  store_as : (c d : Contents) (h : History) (end : ℕ) (files : Files) → d.setting ≡ c.setting → IsStoreOf d.setting h end files → IsStoreOf c.setting h end files
  store_as c d h end files same store = record { contents = store.contents; setting = store.setting ∙ same; good = store.good; history = store.history; below = store.below }

  module _ (c : Contents) (k after : Cluster) (first mid last : H) (goes : GoesOn c k first mid) (requests : List Request) (workers attempts : ℕ) (result : Result (Option (Vec Request)) Stop) where
    abbrev d : Contents
    d = goes.on.d

    same : history_of d ≡ history_of c
    same = same_history c d goes.on.only

    keeps_more : KeepsOn frame result d k after mid last → Keeps frame c (k.next_epoch + 1) first last
    keeps_more keeps = keeps_then frame c (k.next_epoch + 1) first mid last goes.keeps
        (keeps_as frame c d (k.next_epoch + 1) mid last goes.on.only.setting same keeps.keeps)

    -- one more was given up
    pub goes_more : (rs : Vec Request) → result ≡ Ok (Some rs) → k.next_epoch ≤ after.next_epoch → AttemptsOn frame result requests workers attempts d k after mid last → GoesOn c after first last
    goes_more rs is low attempts_on = ⊎_elim
        (λ keeps.
        let more = (keeps.again (Some rs) is).1 in
        record {
          on = record { d = more.d; only = adds_then c d more.d goes.on.only more.only; rests = more.rests; stands = more.stands };
          keeps = keeps_later frame c (k.next_epoch + 1) (after.next_epoch + 1) first last (omega (arith, low)) (keeps_more keeps);
        })
        (λ commits. let never_so : Some rs ≡ None = (commits.ok (Some rs) is).0 in absurd (cc)) attempts_on

    -- ---- the turn ends

    module _ (old : Cluster) (spare : ℕ) (low : old.next_epoch ≤ k.next_epoch) (few : 16 * k.next_epoch ≤ 16 * old.next_epoch + spare) where
      taken : IsTaken old.next_epoch k.next_epoch spare
      taken = record { low = low; few = omega (arith, few) }

      kept_history : (turned : Result (Unit {0}) Stop) → ((x : Unit {0}) → turned ≡ Ok x → ⊥) → EndsWithout c k.next_epoch (frame.reads last) (frame.may_leave last) turned → Keeps frame c (k.next_epoch + 1) first last
          → KeepsHistory frame turned requests old.next_epoch spare c first last
      kept_history turned failed ends keeps = record {
        number = k.next_epoch;
        taken = taken;
        ok = never turned failed;
        moments = keeps.moments;
        left = keeps.left;
        others = keeps.others;
        ends = ends;
      }
        where
          never : (r : Result (Unit {0}) Stop) → ((x : Unit {0}) → r ≡ Ok x → ⊥) → OnOk r (requests ≡ [])
          never (Ok x) fails = absurd (fails x refl)
          never (Err e) fails = tt

      turns_so : (turned : Result (Unit {0}) Stop) → MayHaveCommitted turned → (commits : CommitsOn frame result requests workers attempts d k after mid last)
          → OnOk turned (RestsOn commits.d (frame.reads last) (frame.may_leave last) × StandsAt commits.d after × (option_map traced after.trace ≡ Some commits.trace) × (after.next_epoch ≡ k.next_epoch + 1))
          → Turns frame turned requests workers attempts spare c old after first last
      turns_so turned may commits ok = record {
        may = may;
        d = commits.d;
        trace = commits.trace;
        number = k.next_epoch;
        taken = taken;
        grown = grown_as c d commits.d requests workers attempts k.next_epoch commits.trace goes.on.only commits.grown;
        ok = ok;
        moments = sees_then frame.moment frame.observed first mid last (ShowsStore c.setting (history_of c) (history_of commits.d) (k.next_epoch + 1) (frame.said first)) (ShowsStore d.setting (history_of d) (history_of commits.d) (k.next_epoch + 1) (frame.said mid))
            (sees_weaker frame.moment frame.observed first mid (ShowsHistory c.setting (history_of c) (k.next_epoch + 1) (frame.said first)) (ShowsStore c.setting (history_of c) (history_of commits.d) (k.next_epoch + 1) (frame.said first))
            (λ seen shows. record { store = inl shows.0; said = shows.1 }) goes.keeps.moments)
            commits.moments
            (λ seen shows. record { store = one_of seen.image shows.store; said = sym goes.keeps.quiet ∙ shows.said });
        left = λ bytes spoke image leaves. one_of image (commits.left bytes (goes.keeps.quiet ∙ spoke) image leaves);
        others = writes_then c.setting (frame.reads first) (frame.reads mid) (frame.reads last) (frame.may_leave first) (frame.may_leave mid) (frame.may_leave last) goes.keeps.others
            (subst (λ s. WritesLogs s (frame.reads mid) (frame.reads last) (frame.may_leave mid) (frame.may_leave last)) goes.on.only.setting commits.others);
      }
        where
          one_of : (files : Files) → IsStoreOf d.setting (history_of d) (k.next_epoch + 1) files ⊎ IsStoreOf d.setting (history_of commits.d) (k.next_epoch + 1) files
              → IsStoreOf c.setting (history_of c) (k.next_epoch + 1) files ⊎ IsStoreOf c.setting (history_of commits.d) (k.next_epoch + 1) files
          one_of files one = ⊎_elim (λ was. inl (as_before c d (k.next_epoch + 1) files goes.on.only.setting same was)) (λ now. inr (store_as c d (history_of commits.d) (k.next_epoch + 1) files goes.on.only.setting now)) one

      -- since the epoch was committed
      pub ends_committed : result ≡ Ok None → AttemptsOn frame result requests workers attempts d k after mid last
          → KeepsHistory frame (Ok tt) requests old.next_epoch spare c first last ⊎ Turns frame (Ok tt) requests workers attempts spare c old after first last
      ends_committed is attempts_on = ⊎_elim
          (λ keeps. let some = (keeps.again None is).0 in let never_so : None ≡ Some some.0 = some.1 in absurd (cc))
          (λ commits. let o = commits.ok None is in inr (turns_so (Ok tt) tt commits (o.1, o.2, o.3, o.4))) attempts_on

      -- since an attempt failed
      pub ends_failed : (turned : Result (Unit {0}) Stop) (f : Stop) (disk disk_new : ℕ) → turned ≡ Err f → CountsAttempt {T = Unit {0}} (Err f) disk disk_new → AttemptsOn frame result requests workers attempts d k after mid last
          → KeepsHistory frame turned requests old.next_epoch spare c first last ⊎ Turns frame turned requests workers attempts spare c old after first last
      ends_failed turned f disk disk_new failed counts attempts_on =
          subst (λ (r : Result (Unit {0}) Stop). KeepsHistory frame r requests old.next_epoch spare c first last ⊎ Turns frame r requests workers attempts spare c old after first last) (sym failed)
          (⊎_elim
          (λ keeps. inl (kept_history (Err f) (λ x is. let never_so : Err f ≡ Ok x = is in absurd (cc)) (ends_nothing f disk disk_new c k.next_epoch (frame.reads last) (frame.may_leave last) counts) (keeps_more keeps)))
          (λ commits. inr (turns_so (Err f) (may_have f disk disk_new counts) commits tt)) attempts_on)

  -- since there was nothing to do, the nodes are unreachable, or no number is left
  pub ends_without : (c : Contents) (k old : Cluster) (first now : H) (spare : ℕ) (requests : List Request) → GoesOn c k first now → old.next_epoch ≤ k.next_epoch → 16 * k.next_epoch ≤ 16 * old.next_epoch + spare
      → (turned : Result (Unit {0}) Stop) → OnOk turned (requests ≡ []) → (RestsWithout c k.next_epoch (frame.reads now) (frame.may_leave now) → EndsWithout c k.next_epoch (frame.reads now) (frame.may_leave now) turned)
      → KeepsHistory frame turned requests old.next_epoch spare c first now
  ends_without c k old first now spare requests goes low few turned nothing ends = record {
    number = k.next_epoch;
    taken = record { low = low; few = omega (arith, few) };
    ok = nothing;
    moments = goes.keeps.moments;
    left = goes.keeps.left;
    others = goes.keeps.others;
    ends = ends (goes.on.d, goes.on.only, goes.on.stands.next, goes.on.rests);
  }
