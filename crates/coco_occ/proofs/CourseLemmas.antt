-- How an attempt goes on behind its reads: what it asks next, and what each answer leads to.
use Rattle.std.proofs.Common.{◌≡◌, ◌⊎◌, inl, inr, ℕ, zero, suc, ◌+◌, ◌-◌, ◌^◌, ◌<◌, ◌≤◌, max, min, Bool, true, false, cond, nat_le, List, [], ◌∷◌, ◌++◌, length, map, filter, Option, None, Some, refl, sym, ap, ◌∙◌, subst, arith, add-one, eq-eqb, Bor}
use Rattle.std.specs.List.{filter_map, find, slice_get, HoldsAt}
use Rattle.std.specs.Option.{option_map, option_flatten, option_copied, MatchOption}
use Rattle.std.proofs.lemmas.List.{map-append, append_assoc, append-nil, length-append, length-map}
use Rattle.std.proofs.lemmas.List.Elements.{filter-append, filter_map-append}
use Rattle.std.proofs.lemmas.Bool.{le-leb, lt-leb, ne_eqb}
use Rattle.std.proofs.lemmas.Option.{slice_get_past, slice_get-get_or}
use Rattle.coco_types.specs.Limits.{most_keys, most_time}
use Rattle.coco_types.specs.RowKey.{RowKey}
use Rattle.coco_types.specs.declared.call.AttemptId.{AttemptId}
use Rattle.coco_types.specs.declared.call.Reply.{Reply}
use Rattle.coco_types.specs.declared.call.Write.{Write}
use Rattle.coco_ast.specs.Keyed.{Rows}
use Rattle.coco_ast.specs.Meaning.{Run, is_key}
use Rattle.coco_ast.proofs.Lists.{all_append}
use Rattle.coco_shard.specs.Law.{greatest}
use Rattle.coco_shard.specs.Table.{is_mark_of, unless_marked}
use Rattle.coco_shard.specs.declared.ops.Op.{Op}
use Rattle.coco_shard.specs.declared.ops.Op.TheVariants.{Lock, Extend, Release}
use Rattle.coco_shard.specs.declared.ops.Answer.{Answer}
use Rattle.coco_shard.specs.declared.ops.Answer.TheVariants.{Locked, Marked, Changed, Extended}
use Rattle.coco_occ.specs.Exchange.{Exchange, Found, ops_of, read, read_of, changed_since, conflict_of, shown_by, locked_by, MayAnswer}
use Rattle.coco_occ.specs.Script.{AskedTo, time_of, needs_extension, extension, ends_of}
use Rattle.coco_occ.specs.Course.{seen_of, wts_in, needs_seen, lock, install, release, keys, exchange, entered, outcome_by, HasLocked, IsLocking, IsExtending, IsEnding, IsInstalling, IsReleasing, Stands, StandsIn}
use Rattle.coco_occ.specs.declared.course.Course.{Course}
use Rattle.coco_occ.specs.declared.course.SeenKey.{SeenKey}
use Rattle.coco_occ.specs.declared.course.Stage.{Stage}
use Rattle.coco_occ.specs.declared.course.Stage.TheVariants as stage
use Rattle.coco_occ.specs.declared.outcome.Why.{Why}
use Rattle.coco_occ.specs.declared.outcome.Why.TheVariants as why
use Rattle.coco_occ.specs.declared.outcome.Outcome.{Outcome}
use Rattle.coco_occ.specs.declared.outcome.Outcome.TheVariants.{Committed, Conflict, OverTime}
use Rattle.coco_occ.proofs.Begun.{ops_append, due_in_time, committed_in_time}

-- ---- lists in two parts

pub first_of : {X : Type 0} → List X → Option X
first_of [] = None
first_of (x ∷ xs) = Some x

get_behind : {X : Type 0} (done left : List X) → slice_get (done ++ left) (length done) ≡ first_of left
unfolding first_of
get_behind [] [] = refl
get_behind [] (x ∷ left) = refl
get_behind (y ∷ done) left = get_behind done left

-- one part is behind the other, and a place is its start
pub get_at : {X : Type 0} (xs done left : List X) (place : ℕ) (o : Option X) → xs ≡ done ++ left → place ≡ length done → slice_get xs place ≡ o → first_of left ≡ o
get_at xs done left place o split is get = sym (get_behind done left) ∙ ap (slice_get (done ++ left)) (sym is) ∙ ap (λ l. slice_get l place) (sym split) ∙ get

first_cons : {X : Type 0} (x : X) (xs : List X) → first_of (x ∷ xs) ≡ Some x
unfolding first_of
first_cons x xs = refl

get_mapped : {X Y : Type 0} (f : X → Y) (xs : List X) (place : ℕ) (x : X) → slice_get xs place ≡ Some x → slice_get (map f xs) place ≡ Some (f x)
get_mapped f [] place x is = absurd (let e : None ≡ Some x = is in cc)
get_mapped f (y ∷ xs) zero x is = ap (option_map f) is
get_mapped f (y ∷ xs) (suc place) x is = get_mapped f xs place x is

pub none_left : {X : Type 0} (left : List X) → first_of left ≡ None → left ≡ []
unfolding first_of
none_left [] is = refl
none_left (x ∷ left) is = absurd (let e : Some x ≡ None = is in cc)

pub some_left : {X : Type 0} (left : List X) (x : X) → first_of left ≡ Some x → (more : List X) × (left ≡ x ∷ more)
unfolding first_of
some_left [] x is = absurd (let e : None ≡ Some x = is in cc)
some_left (y ∷ left) x is = (left, (let e : Some y ≡ Some x = is in cc))

pub moved : {X : Type 0} (done : List X) (x : X) (more : List X) → done ++ x ∷ more ≡ done ++ x ∷ [] ++ more
moved done x more = sym (append_assoc done (x ∷ []) more)

length_more : {X : Type 0} (done : List X) (x : X) → length (done ++ x ∷ []) ≡ length done + 1
length_more done x = length-append done (x ∷ [])

first_mapped : (left : List Found) (x : SeenKey) → first_of (map seen_of left) ≡ Some x → (f : Found) × (more : List Found) × (left ≡ f ∷ more) × (seen_of f ≡ x)
unfolding first_of
first_mapped [] x is = absurd (let e : None ≡ Some x = is in cc)
first_mapped (f ∷ left) x is = (f, left, refl, (let e : Some (seen_of f) ≡ Some x = is in cc))

-- what a look-up by `get` found
pub got_at : {X : Type 0} (xs : List X) (n : ℕ) (r : Option (Bor X)) → MatchOption r (length xs ≤ n) (λ x. (n < length xs) × HoldsAt (λ y. x.now ≡ y) xs n) → slice_get xs n ≡ option_copied r
got_at xs n None past = slice_get_past xs n past
got_at xs n (Some x) found = slice_get-get_or xs n x.now found.0 ∙ ap (λ y. Some y) (sym (found.1 x.now))

-- what a look-up of a time found
pub shown_at : (items slice : List (Option ℕ)) (n : ℕ) (r : Option (Bor (Option ℕ))) (copied : Option (Option ℕ)) (flat : Option ℕ) → slice ≡ items →
    MatchOption r (length slice ≤ n) (λ x. (n < length slice) × HoldsAt (λ y. x.now ≡ y) slice n) → copied ≡ option_copied r → flat ≡ option_flatten copied → option_flatten (slice_get items n) ≡ flat
shown_at items slice n r copied flat is found copies flattens = ap option_flatten (ap (λ (l : List (Option ℕ)). slice_get l n) (sym is) ∙ got_at slice n r found ∙ sym copies) ∙ sym flattens

-- ---- the greatest time

pub greatest-push : (n t : ℕ) (ts : List ℕ) → greatest n (ts ++ t ∷ []) ≡ max (greatest n ts) t
greatest-push n t [] = omega arith
greatest-push n t (u ∷ ts) = let h : greatest n (ts ++ t ∷ []) ≡ max (greatest n ts) t = greatest-push n t ts in ap (max u) h ∙ (omega arith)

-- ---- what is asked next

all_locked : (r : Run) (m : Rows) (asked : List Exchange) (c : Course) (s : IsLocking r m asked c None) → slice_get r.writes c.place ≡ None → r.writes ≡ s.done
all_locked r m asked c s get = s.split ∙ ap (λ l. s.done ++ l) (none_left s.left (get_at r.writes s.done s.left c.place None s.split s.place get)) ∙ append-nil s.done

locked_now : (reads : List Found) (locks : List Exchange) (done writes : List Write) (c : Course) → writes ≡ done → HasLocked reads locks done c → HasLocked reads locks writes c
locked_now reads locks done writes c is h = subst (λ (ws : List Write). HasLocked reads locks ws c) (sym is) h

pub time_chosen : (r : Run) (m : Rows) (asked : List Exchange) (c : Course) → IsLocking r m asked c None → slice_get r.writes c.place ≡ None → c.greatest < most_time →
    IsExtending r m asked (entered stage.Extending (record c { time = Some (c.greatest + 1) })) None
time_chosen r m asked c s get below =
    let now = locked_now s.reads s.locks s.done r.writes c (all_locked r m asked c s get) s.has_locked in
    let is : c.greatest + 1 ≡ time_of s.reads s.locks = add-one c.greatest ∙ ap suc now.greatest_is in
    record {
      reads = s.reads;
      locks = s.locks;
      extensions = [];
      done = [];
      left = s.reads;
      parts = s.parts ∙ sym (append-nil (map read s.reads ++ s.locks));
      has_read = record { reading = s.has_read.reading; seen = s.has_read.seen; expected = s.has_read.expected; few_reads = s.has_read.few_reads; few_writes = s.has_read.few_writes; rising = s.has_read.rising };
      has_locked = record { asked = now.asked; held = now.held; locked = now.locked; greatest_is = now.greatest_is; no_conflict = now.no_conflict };
      time_is = ap (λ t. Some t) is;
      fits = subst (λ (t : ℕ). nat_le t most_time ≡ true) is (le-leb (c.greatest + 1) most_time (omega (arith, below)));
      split = refl;
      place = refl;
      extended = record { all = refl; clear = tt };
      is_due = tt;
    }

release_keys : (ws : List Write) → map release ws ≡ map (λ k. Release k) (keys ws)
release_keys [] = refl
release_keys (w ∷ ws) = ap (λ l. Release w.key ∷ l) (release_keys ws)

-- what is released, where these keys are held
released : (ws : List Write) (locks : List Exchange) → filter_map locked_by locks ≡ keys ws → map release ws ≡ map (λ k. Release k) (filter_map locked_by locks)
released ws locks held = release_keys ws ∙ ap (map (λ k. Release k)) (sym held)

over : (c : Course) (reply : Reply) → c.conflict ≡ None → c.time ≡ None → outcome_by c.conflict c.time reply ≡ OverTime
over c reply conflict time = ap (λ w. outcome_by w c.time reply) conflict ∙ ap (λ t. outcome_by None t reply) time

pub over_time : (r : Run) (m : Rows) (asked : List Exchange) (c : Course) → IsLocking r m asked c None → slice_get r.writes c.place ≡ None → most_time ≤ c.greatest →
    IsReleasing r m asked (entered stage.Releasing c) None
over_time r m asked c s get above =
    let now = locked_now s.reads s.locks s.done r.writes c (all_locked r m asked c s get) s.has_locked in
    let late : nat_le (time_of s.reads s.locks) most_time ≡ false = ap (λ n. nat_le (suc n) most_time) (sym now.greatest_is) ∙ lt-leb (suc c.greatest) most_time (omega (arith, above)) in
    let outcome = over c r.reply now.no_conflict s.no_time in
    record {
      done = [];
      left = r.writes;
      unlocked = [];
      few = s.has_read.few_writes;
      split = sym (append-nil r.writes);
      place = refl;
      locked = now.locked;
      is_due = tt;
      ending = record {
        reads = s.reads;
        locks = s.locks;
        locking_conflict = None;
        extensions = [];
        extending_conflict = None;
        ends = [];
        parts = s.parts ∙ sym (append-nil (map read s.reads ++ s.locks)) ∙ sym (append-nil (map read s.reads ++ s.locks ++ []));
        reading = s.has_read.reading;
        locking = now.asked;
        extending = record { all = sym (ap (λ b. cond b (map (extension (time_of s.reads s.locks)) (filter (needs_extension (time_of s.reads s.locks) r.writes) s.reads)) []) late); clear = tt };
        ending = released r.writes s.locks now.held ∙ ap (λ o. ends_of o r.writes s.locks) (sym outcome);
        outcome_is = outcome ∙ sym (ap (λ b. cond b (Committed (time_of s.reads s.locks) r.reply) OverTime) late);
      };
    }

-- ---- extensions

-- the next key that was read, as it was kept
found_next : (r : Run) (m : Rows) (asked : List Exchange) (c : Course) (s : IsExtending r m asked c None) (k : RowKey) (wts rts : ℕ) → slice_get c.seen.items c.place ≡ Some (record { key = k; wts = wts; rts = rts }) →
    (f : Found) × (more : List Found) × (s.left ≡ f ∷ more) × (seen_of f ≡ record { key = k; wts = wts; rts = rts })
found_next r m asked c s k wts rts get =
    let split : map seen_of s.reads ≡ map seen_of s.done ++ map seen_of s.left = ap (map seen_of) s.split ∙ map-append seen_of s.done s.left in
    let place : c.place ≡ length (map seen_of s.done) = s.place ∙ sym (length-map s.done seen_of) in
    let first = get_at (map seen_of s.reads) (map seen_of s.done) (map seen_of s.left) c.place (Some (record { key = k; wts = wts; rts = rts })) split place (ap (λ l. slice_get l c.place) s.has_read.seen ∙ get) in
    first_mapped s.left (record { key = k; wts = wts; rts = rts }) first

pub extension_due : (r : Run) (m : Rows) (asked : List Exchange) (c : Course) (k : RowKey) (wts rts t : ℕ) → IsExtending r m asked c None → slice_get c.seen.items c.place ≡ Some (record { key = k; wts = wts; rts = rts }) →
    c.time ≡ Some t → needs_seen t r.writes (record { key = k; wts = wts; rts = rts }) ≡ true → IsExtending r m asked c (Some (Extend k wts t))
extension_due r m asked c k wts rts t s get timed needed =
    let next = found_next r m asked c s k wts rts get in
    let f = next.0 in
    let time : time_of s.reads s.locks ≡ t = (let e : Some (time_of s.reads s.locks) ≡ Some t = sym s.time_is ∙ timed in cc) in
    record {
      reads = s.reads;
      locks = s.locks;
      extensions = s.extensions;
      done = s.done;
      left = s.left;
      parts = s.parts;
      has_read = s.has_read;
      has_locked = s.has_locked;
      time_is = s.time_is;
      fits = s.fits;
      split = s.split;
      place = s.place;
      extended = s.extended;
      is_due = (
        f,
        next.1,
        next.2,
        ap (λ n. needs_extension n r.writes f) time ∙ ap (needs_seen t r.writes) next.3 ∙ needed,
        sym (ap (λ n. extension n f) time ∙ ap (λ (x : SeenKey). Extend x.key x.wts t) next.3),
      );
    }

filter_one : (p : Found → Bool) (f : Found) → p f ≡ false → filter p (f ∷ []) ≡ []
filter_one p f fails = ap (λ b. cond b (f ∷ []) []) fails

pub extension_passed : (r : Run) (m : Rows) (asked : List Exchange) (c : Course) (k : RowKey) (wts rts t : ℕ) → IsExtending r m asked c None → slice_get c.seen.items c.place ≡ Some (record { key = k; wts = wts; rts = rts }) →
    c.time ≡ Some t → needs_seen t r.writes (record { key = k; wts = wts; rts = rts }) ≡ false → IsExtending r m asked (record c { place = c.place + 1 }) None
extension_passed r m asked c k wts rts t s get timed unneeded =
    let next = found_next r m asked c s k wts rts get in
    let f = next.0 in
    let time : time_of s.reads s.locks ≡ t = (let e : Some (time_of s.reads s.locks) ≡ Some t = sym s.time_is ∙ timed in cc) in
    let p = needs_extension (time_of s.reads s.locks) r.writes in
    let fails : p f ≡ false = ap (λ n. needs_extension n r.writes f) time ∙ ap (needs_seen t r.writes) next.3 ∙ unneeded in
    record {
      reads = s.reads;
      locks = s.locks;
      extensions = s.extensions;
      done = s.done ++ f ∷ [];
      left = next.1;
      parts = s.parts;
      has_read = record { reading = s.has_read.reading; seen = s.has_read.seen; expected = s.has_read.expected; few_reads = s.has_read.few_reads; few_writes = s.has_read.few_writes; rising = s.has_read.rising };
      has_locked = record { asked = s.has_locked.asked; held = s.has_locked.held; locked = s.has_locked.locked; greatest_is = s.has_locked.greatest_is; no_conflict = s.has_locked.no_conflict };
      time_is = s.time_is;
      fits = s.fits;
      split = s.split ∙ ap (λ l. s.done ++ l) next.2 ∙ moved s.done f next.1;
      place = ap (λ n. n + 1) s.place ∙ sym (length_more s.done f);
      extended = record {
        all = s.extended.all ∙ ap (map (extension (time_of s.reads s.locks))) (sym (filter-append p s.done (f ∷ []) ∙ ap (λ l. filter p s.done ++ l) (filter_one p f fails) ∙ append-nil (filter p s.done)));
        clear = s.extended.clear;
      };
      is_due = tt;
    }

no_more : {X : Type 0} (left : List X) → length left ≡ 0 → left ≡ []
no_more [] is = refl
no_more (x ∷ left) is = absurd (omega arith)

pub all_extended : (r : Run) (m : Rows) (asked : List Exchange) (c : Course) → IsExtending r m asked c None → length c.seen.items ≤ c.place → IsInstalling r m asked (entered stage.Installing c) None
all_extended r m asked c s end =
    let time = time_of s.reads s.locks in
    let lengths : length s.done + length s.left ≡ length c.seen.items = sym (length-append s.done s.left) ∙ ap length (sym s.split) ∙ sym (length-map s.reads seen_of) ∙ ap length s.has_read.seen in
    let none : length s.left ≡ 0 = omega (arith, lengths, end, s.place) in
    let read_all : s.done ≡ s.reads = sym (append-nil s.done) ∙ ap (λ l. s.done ++ l) (sym (no_more s.left none)) ∙ sym s.split in
    record {
      time = time;
      done = [];
      left = r.writes;
      no_conflict = s.has_locked.no_conflict;
      time_is = s.time_is;
      few = s.has_read.few_writes;
      split = refl;
      place = refl;
      is_due = tt;
      ending = record {
        reads = s.reads;
        locks = s.locks;
        locking_conflict = None;
        extensions = s.extensions;
        extending_conflict = None;
        ends = [];
        parts = s.parts ∙ sym (append-nil (map read s.reads ++ s.locks ++ s.extensions));
        reading = s.has_read.reading;
        locking = s.has_locked.asked;
        extending = record {
          all = s.extended.all ∙ ap (λ l. map (extension time) (filter (needs_extension time r.writes) l)) read_all ∙ sym (due_in_time time r.writes s.reads s.fits);
          clear = s.extended.clear;
        };
        ending = refl;
        outcome_is = sym (committed_in_time time r.reply s.fits);
      };
    }

-- ---- installs and releases

-- ---- answers to locks

-- the write whose lock is due
first_lock : (left : List Write) (key : RowKey) (more : List Op) → map lock left ≡ Lock key ∷ more → (w : Write) × (rest : List Write) × (left ≡ w ∷ rest) × (w.key ≡ key)
first_lock [] key more is = absurd (let e : [] ≡ Lock key ∷ more = is in cc)
first_lock (w ∷ rest) key more is = (w, rest, refl, (let e : Lock w.key ∷ map lock rest ≡ Lock key ∷ more = is in cc))

wts-read : (reads : List Found) (key : RowKey) → wts_in (map seen_of reads) key ≡ option_map (λ f. f.wts) (read_of reads key)
wts-read [] key = refl
wts-read (f ∷ reads) key =
    elim (is_key key f.key) as (λ b. option_map (λ (s : SeenKey). s.wts) (cond b (Some (seen_of f)) (find (λ (s : SeenKey). is_key key s.key) (map seen_of reads))) ≡ option_map (λ (g : Found). g.wts) (cond b (Some f) (read_of reads key))) [
      | true ↦ refl
      | false ↦ wts-read reads key
    ]

-- what the read of the key that is locked next showed
expected_next : (r : Run) (m : Rows) (asked : List Exchange) (c : Course) (key : RowKey) (s : IsLocking r m asked c (Some (Lock key))) → slice_get c.expected.items c.place ≡ Some (option_map (λ f. f.wts) (read_of s.reads key))
expected_next r m asked c key s =
    let next = first_lock s.left key s.is_due.0 s.is_due.1 in
    let there : slice_get r.writes c.place ≡ Some next.0 = ap (λ l. slice_get l c.place) s.split ∙ ap (slice_get (s.done ++ s.left)) s.place ∙ get_behind s.done s.left ∙ ap first_of next.2 ∙ first_cons next.0 next.1 in
    ap (λ l. slice_get l c.place) s.has_read.expected ∙ get_mapped (λ w. wts_in c.seen.items w.key) r.writes c.place next.0 there
    ∙ ap (λ k. Some (wts_in c.seen.items k)) next.3 ∙ ap (λ l. Some (wts_in l key)) (sym s.has_read.seen) ∙ ap (λ o. Some o) (wts-read s.reads key)

-- a key that is as it was read, or wasn't read
unchanged_lock : (f : Option Found) (key : RowKey) (wts : ℕ) → (option_map (λ f. f.wts) f ≡ None) ⊎ (option_map (λ f. f.wts) f ≡ Some wts) → changed_since f key wts ≡ None
unchanged_lock None key wts is = refl
unchanged_lock (Some f) key wts (inl is) = absurd (let e : Some f.wts ≡ None = is in cc)
unchanged_lock (Some f) key wts (inr is) = ap (λ b. cond b None (Some (why.Changed key f.wts wts))) (eq-eqb wts f.wts (let e : Some f.wts ≡ Some wts = is in cc))

changed_lock : (f : Option Found) (key : RowKey) (read wts : ℕ) → option_map (λ f. f.wts) f ≡ Some read → (read ≡ wts → ⊥) → changed_since f key wts ≡ Some (why.Changed key read wts)
changed_lock None key read wts is apart = absurd (let e : None ≡ Some read = is in cc)
changed_lock (Some f) key read wts is apart =
    let same : f.wts ≡ read = (let e : Some f.wts ≡ Some read = is in cc) in
    ap (λ b. cond b None (Some (why.Changed key f.wts wts))) (ne_eqb wts f.wts (λ e. apart (sym same ∙ sym e))) ∙ ap (λ n. Some (why.Changed key n wts)) same

ops_one_more : (asked : List Exchange) (op : Op) (answer : Answer) → ops_of (asked ++ exchange op answer ∷ []) ≡ ops_of asked ++ op ∷ []
ops_one_more asked op answer = ops_append asked (exchange op answer ∷ [])

locks_more : (done : List Write) (w : Write) → map lock (done ++ w ∷ []) ≡ map lock done ++ lock w ∷ []
locks_more done w = map-append lock done (w ∷ [])

keys_more : (done : List Write) (w : Write) → keys (done ++ w ∷ []) ≡ keys done ++ w.key ∷ []
keys_more done w = map-append (λ w. w.key) done (w ∷ [])

-- the course behind a lock
abbrev pub locked_on : ℕ → Course → Course
locked_on rts c = record c { place = c.place + 1; locked = c.place + 1; greatest = max c.greatest rts }

-- the lock is one more
held_more : (r : Run) (m : Rows) (before : List Exchange) (c : Course) (key : RowKey) (wts rts : ℕ) (s : IsLocking r m before c (Some (Lock key))) (w : Write) → w.key ≡ key →
    filter_map locked_by (s.locks ++ exchange (Lock key) (Locked wts rts) ∷ []) ≡ keys (s.done ++ w ∷ [])
held_more r m before c key wts rts s w is =
    filter_map-append locked_by s.locks (exchange (Lock key) (Locked wts rts) ∷ []) ∙ ap (λ l. l ++ key ∷ []) s.has_locked.held ∙ ap (λ k. keys s.done ++ k ∷ []) (sym is) ∙ sym (keys_more s.done w)

asked_more : (r : Run) (m : Rows) (before : List Exchange) (c : Course) (key : RowKey) (s : IsLocking r m before c (Some (Lock key))) (w : Write) (answer : Answer) → w.key ≡ key →
    ops_of (s.locks ++ exchange (Lock key) answer ∷ []) ≡ map lock (s.done ++ w ∷ [])
asked_more r m before c key s w answer is =
    ops_one_more s.locks (Lock key) answer ∙ ap (λ l. l ++ Lock key ∷ []) s.has_locked.asked.all ∙ ap (λ k. map lock s.done ++ Lock k ∷ []) (sym is) ∙ sym (locks_more s.done w)

pub lock_kept : (r : Run) (m : Rows) (before : List Exchange) (c : Course) (key : RowKey) (wts rts : ℕ) → IsLocking r m before c (Some (Lock key)) →
    (option_flatten (slice_get c.expected.items c.place) ≡ None) ⊎ (option_flatten (slice_get c.expected.items c.place) ≡ Some wts) →
    IsLocking r m (before ++ exchange (Lock key) (Locked wts rts) ∷ []) (locked_on rts c) None
lock_kept r m before c key wts rts s why_not =
    let next = first_lock s.left key s.is_due.0 s.is_due.1 in
    let w = next.0 in
    let e = exchange (Lock key) (Locked wts rts) in
    let expected = ap option_flatten (expected_next r m before c key s) in
    let same : (option_map (λ (f : Found). f.wts) (read_of s.reads key) ≡ None) ⊎ (option_map (λ (f : Found). f.wts) (read_of s.reads key) ≡ Some wts) = elim why_not [ inl h ↦ inl (sym expected ∙ h) | inr h ↦ inr (sym expected ∙ h) ] in
    record {
      reads = s.reads;
      locks = s.locks ++ e ∷ [];
      done = s.done ++ w ∷ [];
      left = next.1;
      parts = ap (λ l. l ++ e ∷ []) s.parts ∙ append_assoc (map read s.reads) s.locks (e ∷ []);
      has_read = record { reading = s.has_read.reading; seen = s.has_read.seen; expected = s.has_read.expected; few_reads = s.has_read.few_reads; few_writes = s.has_read.few_writes; rising = s.has_read.rising };
      has_locked = record {
        asked = record {
          all = asked_more r m before c key s w (Locked wts rts) next.3;
          clear = all_append (λ x. conflict_of s.reads x ≡ None) s.locks (e ∷ []) s.has_locked.asked.clear (unchanged_lock (read_of s.reads key) key wts same, tt);
        };
        held = held_more r m before c key wts rts s w next.3;
        locked = ap (λ n. n + 1) s.place ∙ sym (length_more s.done w);
        greatest_is = ap (λ n. max n rts) s.has_locked.greatest_is ∙ sym (greatest-push (greatest 0 (map (λ f. f.wts) s.reads)) rts (filter_map shown_by s.locks))
            ∙ ap (greatest (greatest 0 (map (λ f. f.wts) s.reads))) (sym (filter_map-append shown_by s.locks (e ∷ [])));
        no_conflict = s.has_locked.no_conflict;
      };
      split = s.split ∙ ap (λ l. s.done ++ l) next.2 ∙ moved s.done w next.1;
      place = ap (λ n. n + 1) s.place ∙ sym (length_more s.done w);
      no_time = s.no_time;
      is_due = tt;
    }

-- a lock that conflicts is the last one
stopped : (r : Run) (m : Rows) (before : List Exchange) (c : Course) (key : RowKey) (s : IsLocking r m before c (Some (Lock key))) (answer : Answer) (because : Why) →
    conflict_of s.reads (exchange (Lock key) answer) ≡ Some because → AskedTo (conflict_of s.reads) (map lock r.writes) (s.locks ++ exchange (Lock key) answer ∷ []) because
stopped r m before c key s answer because conflicts =
    let next = first_lock s.left key s.is_due.0 s.is_due.1 in
    record {
      before = s.locks;
      last = exchange (Lock key) answer;
      unasked = map lock next.1;
      asked_is = refl;
      first = ap (map lock) (s.split ∙ ap (λ l. s.done ++ l) next.2 ∙ moved s.done next.0 next.1) ∙ map-append lock (s.done ++ next.0 ∷ []) next.1 ∙ ap (λ l. l ++ map lock next.1) (sym (asked_more r m before c key s next.0 answer next.3));
      clear = s.has_locked.asked.clear;
      conflicts = conflicts;
    }

-- what is left of the attempt then, where these keys are held
stopped_ending : (r : Run) (m : Rows) (before : List Exchange) (c : Course) (key : RowKey) (s : IsLocking r m before c (Some (Lock key))) (answer : Answer) (because : Why) (held : List Write) →
    conflict_of s.reads (exchange (Lock key) answer) ≡ Some because → filter_map locked_by (s.locks ++ exchange (Lock key) answer ∷ []) ≡ keys held →
    IsEnding r m (before ++ exchange (Lock key) answer ∷ []) (Conflict because) (map release held)
stopped_ending r m before c key s answer because held conflicts is =
    let e = exchange (Lock key) answer in
    record {
      reads = s.reads;
      locks = s.locks ++ e ∷ [];
      locking_conflict = Some because;
      extensions = [];
      extending_conflict = None;
      ends = [];
      parts = ap (λ l. l ++ e ∷ []) s.parts ∙ append_assoc (map read s.reads) s.locks (e ∷ []) ∙ sym (append-nil (map read s.reads ++ (s.locks ++ e ∷ []))) ∙ sym (append-nil (map read s.reads ++ (s.locks ++ e ∷ []) ++ []));
      reading = s.has_read.reading;
      locking = stopped r m before c key s answer because conflicts;
      extending = record { all = refl; clear = tt };
      ending = released held (s.locks ++ e ∷ []) is;
      outcome_is = refl;
    }

pub lock_changed : (r : Run) (m : Rows) (before : List Exchange) (c : Course) (key : RowKey) (wts rts read : ℕ) → IsLocking r m before c (Some (Lock key)) →
    option_flatten (slice_get c.expected.items c.place) ≡ Some read → (read ≡ wts → ⊥) →
    IsReleasing r m (before ++ exchange (Lock key) (Locked wts rts) ∷ []) (entered stage.Releasing (record (locked_on rts c) { conflict = Some (why.Changed key read wts) })) None
lock_changed r m before c key wts rts read s is apart =
    let next = first_lock s.left key s.is_due.0 s.is_due.1 in
    let w = next.0 in
    let shown : option_map (λ (f : Found). f.wts) (read_of s.reads key) ≡ Some read = sym (ap option_flatten (expected_next r m before c key s)) ∙ is in
    record {
      done = [];
      left = s.done ++ w ∷ [];
      unlocked = next.1;
      few = s.has_read.few_writes;
      split = s.split ∙ ap (λ l. s.done ++ l) next.2 ∙ moved s.done w next.1;
      place = refl;
      locked = ap (λ n. n + 1) s.place ∙ sym (length_more s.done w);
      is_due = tt;
      ending = stopped_ending r m before c key s (Locked wts rts) (why.Changed key read wts) (s.done ++ w ∷ []) (changed_lock (read_of s.reads key) key read wts shown apart) (held_more r m before c key wts rts s w next.3);
    }

pub lock_marked : (r : Run) (m : Rows) (before : List Exchange) (c : Course) (key : RowKey) (holder : AttemptId) → IsLocking r m before c (Some (Lock key)) →
    IsReleasing r m (before ++ exchange (Lock key) (Marked holder) ∷ []) (entered stage.Releasing (record c { conflict = Some (why.Marked key holder) })) None
lock_marked r m before c key holder s =
    let next = first_lock s.left key s.is_due.0 s.is_due.1 in
    record {
      done = [];
      left = s.done;
      unlocked = s.left;
      few = s.has_read.few_writes;
      split = s.split;
      place = refl;
      locked = s.has_locked.locked;
      is_due = tt;
      ending = stopped_ending r m before c key s (Marked holder) (why.Marked key holder) s.done refl
          (filter_map-append locked_by s.locks (exchange (Lock key) (Marked holder) ∷ []) ∙ append-nil (filter_map locked_by s.locks) ∙ s.has_locked.held);
    }

-- ---- answers to extensions

-- the extension is one more
extended_more : (r : Run) (m : Rows) (before : List Exchange) (c : Course) (op : Op) (s : IsExtending r m before c (Some op)) (answer : Answer) →
    ops_of (s.extensions ++ exchange op answer ∷ []) ≡ map (extension (time_of s.reads s.locks)) (filter (needs_extension (time_of s.reads s.locks) r.writes) (s.done ++ s.is_due.0 ∷ []))
extended_more r m before c op s answer =
    let f = s.is_due.0 in
    let t = time_of s.reads s.locks in
    let p = needs_extension t r.writes in
    ops_one_more s.extensions op answer ∙ ap (λ l. l ++ op ∷ []) s.extended.all ∙ ap (λ o. map (extension t) (filter p s.done) ++ o ∷ []) s.is_due.4
    ∙ sym (map-append (extension t) (filter p s.done) (f ∷ [])) ∙ ap (λ l. map (extension t) (filter p s.done ++ l)) (sym (ap (λ b. cond b (f ∷ []) []) s.is_due.3))
    ∙ ap (map (extension t)) (sym (filter-append p s.done (f ∷ [])))

pub extension_kept : (r : Run) (m : Rows) (before : List Exchange) (c : Course) (op : Op) → IsExtending r m before c (Some op) → IsExtending r m (before ++ exchange op Extended ∷ []) (record c { place = c.place + 1 }) None
extension_kept r m before c op s =
    let f = s.is_due.0 in
    let more = s.is_due.1 in
    let p = needs_extension (time_of s.reads s.locks) r.writes in
    let e = exchange op Extended in
    record {
      reads = s.reads;
      locks = s.locks;
      extensions = s.extensions ++ e ∷ [];
      done = s.done ++ f ∷ [];
      left = more;
      parts = ap (λ l. l ++ e ∷ []) s.parts ∙ append_assoc (map read s.reads ++ s.locks) s.extensions (e ∷ []);
      has_read = record { reading = s.has_read.reading; seen = s.has_read.seen; expected = s.has_read.expected; few_reads = s.has_read.few_reads; few_writes = s.has_read.few_writes; rising = s.has_read.rising };
      has_locked = record { asked = s.has_locked.asked; held = s.has_locked.held; locked = s.has_locked.locked; greatest_is = s.has_locked.greatest_is; no_conflict = s.has_locked.no_conflict };
      time_is = s.time_is;
      fits = s.fits;
      split = s.split ∙ ap (λ l. s.done ++ l) s.is_due.2 ∙ moved s.done f more;
      place = ap (λ n. n + 1) s.place ∙ sym (length_more s.done f);
      extended = record {
        all = extended_more r m before c op s Extended;
        clear = all_append (λ x. conflict_of s.reads x ≡ None) s.extensions (e ∷ []) s.extended.clear
            (subst (λ (o : Op). conflict_of s.reads (exchange o Extended) ≡ None) (sym s.is_due.4) refl, tt);
      };
      is_due = tt;
    }

pub extension_stopped : (r : Run) (m : Rows) (before : List Exchange) (c : Course) (op : Op) (answer : Answer) (because : Why) → (s : IsExtending r m before c (Some op)) → conflict_of s.reads (exchange op answer) ≡ Some because →
    IsReleasing r m (before ++ exchange op answer ∷ []) (entered stage.Releasing (record c { conflict = Some because })) None
extension_stopped r m before c op answer because s conflicts =
    let f = s.is_due.0 in
    let more = s.is_due.1 in
    let t = time_of s.reads s.locks in
    let p = needs_extension t r.writes in
    let e = exchange op answer in
    record {
      done = [];
      left = r.writes;
      unlocked = [];
      few = s.has_read.few_writes;
      split = sym (append-nil r.writes);
      place = refl;
      locked = s.has_locked.locked;
      is_due = tt;
      ending = record {
        reads = s.reads;
        locks = s.locks;
        locking_conflict = None;
        extensions = s.extensions ++ e ∷ [];
        extending_conflict = Some because;
        ends = [];
        parts = ap (λ l. l ++ e ∷ []) s.parts ∙ append_assoc (map read s.reads ++ s.locks) s.extensions (e ∷ []) ∙ sym (append-nil (map read s.reads ++ s.locks ++ (s.extensions ++ e ∷ [])));
        reading = s.has_read.reading;
        locking = s.has_locked.asked;
        extending = record {
          before = s.extensions;
          last = e;
          unasked = map (extension t) (filter p more);
          asked_is = refl;
          first = due_in_time t r.writes s.reads s.fits ∙ ap (λ l. map (extension t) (filter p l)) (s.split ∙ ap (λ l. s.done ++ l) s.is_due.2 ∙ moved s.done f more)
              ∙ ap (map (extension t)) (filter-append p (s.done ++ f ∷ []) more) ∙ map-append (extension t) (filter p (s.done ++ f ∷ [])) (filter p more)
              ∙ ap (λ l. l ++ map (extension t) (filter p more)) (sym (extended_more r m before c op s answer));
          clear = s.extended.clear;
          conflicts = conflicts;
        };
        ending = released r.writes s.locks s.has_locked.held;
        outcome_is = refl;
      };
    }

-- ---- answers to installs and releases

ending_more : (r : Run) (m : Rows) (before : List Exchange) (o : Outcome) (op : Op) (answer : Answer) (left more : List Op) → left ≡ op ∷ more → IsEnding r m before o left → IsEnding r m (before ++ exchange op answer ∷ []) o more
ending_more r m before o op answer left more is s =
    let e = exchange op answer in
    record {
      reads = s.reads;
      locks = s.locks;
      locking_conflict = s.locking_conflict;
      extensions = s.extensions;
      extending_conflict = s.extending_conflict;
      ends = s.ends ++ e ∷ [];
      parts = ap (λ l. l ++ e ∷ []) s.parts ∙ append_assoc (map read s.reads ++ s.locks ++ s.extensions) s.ends (e ∷ []);
      reading = s.reading;
      locking = s.locking;
      extending = s.extending;
      ending = ap (λ l. l ++ more) (ops_one_more s.ends op answer) ∙ sym (moved (ops_of s.ends) op more) ∙ ap (λ l. ops_of s.ends ++ l) (sym is) ∙ s.ending;
      outcome_is = s.outcome_is;
    }

pub first_write : (f : Write → Op) (left : List Write) (op : Op) (more : List Op) → map f left ≡ op ∷ more → (w : Write) × (rest : List Write) × (left ≡ w ∷ rest) × (f w ≡ op) × (map f rest ≡ more)
first_write f [] op more is = absurd (let e : [] ≡ op ∷ more = is in cc)
first_write f (w ∷ rest) op more is = (w, rest, refl, (let e : f w ∷ map f rest ≡ op ∷ more = is in cc), (let e : f w ∷ map f rest ≡ op ∷ more = is in cc))

pub installed_kept : (r : Run) (m : Rows) (before : List Exchange) (c : Course) (op : Op) (answer : Answer) → IsInstalling r m before c (Some op) → IsInstalling r m (before ++ exchange op answer ∷ []) (record c { place = c.place + 1 }) None
installed_kept r m before c op answer s =
    let next = first_write (install s.time) s.left op s.is_due.0 s.is_due.1 in
    record {
      time = s.time;
      done = s.done ++ next.0 ∷ [];
      left = next.1;
      no_conflict = s.no_conflict;
      time_is = s.time_is;
      few = s.few;
      split = s.split ∙ ap (λ l. s.done ++ l) next.2 ∙ moved s.done next.0 next.1;
      place = ap (λ n. n + 1) s.place ∙ sym (length_more s.done next.0);
      is_due = tt;
      ending = subst (IsEnding r m (before ++ exchange op answer ∷ []) (Committed s.time r.reply)) (sym next.4) (ending_more r m before (Committed s.time r.reply) op answer (map (install s.time) s.left) s.is_due.0 s.is_due.1 s.ending);
    }

pub released_kept : (r : Run) (m : Rows) (before : List Exchange) (c : Course) (op : Op) (answer : Answer) → IsReleasing r m before c (Some op) → IsReleasing r m (before ++ exchange op answer ∷ []) (record c { place = c.place + 1 }) None
released_kept r m before c op answer s =
    let next = first_write release s.left op s.is_due.0 s.is_due.1 in
    record {
      done = s.done ++ next.0 ∷ [];
      left = next.1;
      unlocked = s.unlocked;
      few = s.few;
      split = s.split ∙ ap (λ l. l ++ s.unlocked) (ap (λ l. s.done ++ l) next.2 ∙ moved s.done next.0 next.1);
      place = ap (λ n. n + 1) s.place ∙ sym (length_more s.done next.0);
      locked = s.locked ∙ ap length (ap (λ l. s.done ++ l) next.2 ∙ moved s.done next.0 next.1);
      is_due = tt;
      ending = subst (IsEnding r m (before ++ exchange op answer ∷ []) (outcome_by c.conflict c.time r.reply)) (sym next.4) (ending_more r m before (outcome_by c.conflict c.time r.reply) op answer (map release s.left) s.is_due.0 s.is_due.1 s.ending);
    }

-- behind all extensions
pub extended_whole : (r : Run) (m : Rows) (asked : List Exchange) (c : Course) → IsExtending r m asked c None → (c.time ≡ None) ⊎ (length c.seen.items ≤ c.place) → IsInstalling r m asked (entered stage.Installing c) None
extended_whole r m asked c s why =
    elim why [
      | inl none ↦ absurd (let e : Some (time_of s.reads s.locks) ≡ None = sym s.time_is ∙ none in cc)
      | inr end ↦ all_extended r m asked c s end
    ]

pub place_few : (r : Run) (m : Rows) (before : List Exchange) (c : Course) (due : Option Op) → IsLocking r m before c due → c.place ≤ most_keys
place_few r m before c due s = omega (arith, s.place, ap length s.split, length-append s.done s.left, s.has_read.few_writes)

-- ---- which stage an operation is of

pub lock_stage : (at : Stage) (r : Run) (m : Rows) (before : List Exchange) (c : Course) (key : RowKey) → StandsIn at r m before c (Some (Lock key)) → (at ≡ stage.Locking) × IsLocking r m before c (Some (Lock key))
lock_stage stage.Reading r m before c key s = absurd s
lock_stage stage.Locking r m before c key s = (refl, s)
lock_stage stage.Extending r m before c key s = absurd (let e : Lock key ≡ extension (time_of s.reads s.locks) s.is_due.0 = s.is_due.4 in cc)
lock_stage stage.Installing r m before c key s = absurd (let w = first_write (install s.time) s.left (Lock key) s.is_due.0 s.is_due.1 in let e : install s.time w.0 ≡ Lock key = w.3 in cc)
lock_stage stage.Releasing r m before c key s = absurd (let w = first_write release s.left (Lock key) s.is_due.0 s.is_due.1 in let e : release w.0 ≡ Lock key = w.3 in cc)
lock_stage stage.Ended r m before c key s = absurd (let e : Some (Lock key) ≡ None = s.nothing in cc)

pub extension_stage : (at : Stage) (r : Run) (m : Rows) (before : List Exchange) (c : Course) (key : RowKey) (wts time : ℕ) → StandsIn at r m before c (Some (Extend key wts time)) →
    (at ≡ stage.Extending) × IsExtending r m before c (Some (Extend key wts time))
extension_stage stage.Reading r m before c key wts time s = absurd s
extension_stage stage.Locking r m before c key wts time s = absurd (let w = first_write lock s.left (Extend key wts time) s.is_due.0 s.is_due.1 in let e : lock w.0 ≡ Extend key wts time = w.3 in cc)
extension_stage stage.Extending r m before c key wts time s = (refl, s)
extension_stage stage.Installing r m before c key wts time s = absurd (let w = first_write (install s.time) s.left (Extend key wts time) s.is_due.0 s.is_due.1 in let e : install s.time w.0 ≡ Extend key wts time = w.3 in cc)
extension_stage stage.Releasing r m before c key wts time s = absurd (let w = first_write release s.left (Extend key wts time) s.is_due.0 s.is_due.1 in let e : release w.0 ≡ Extend key wts time = w.3 in cc)
extension_stage stage.Ended r m before c key wts time s = absurd (let e : Some (Extend key wts time) ≡ None = s.nothing in cc)

-- an operation that is neither a lock nor an extension
pub end_kept : (at : Stage) (r : Run) (m : Rows) (before : List Exchange) (c : Course) (op : Op) (answer : Answer) → ((key : RowKey) → op ≡ Lock key → ⊥) → ((key : RowKey) (wts time : ℕ) → op ≡ Extend key wts time → ⊥) →
    StandsIn at r m before c (Some op) → (c.place ≤ most_keys) × StandsIn at r m (before ++ exchange op answer ∷ []) (record c { place = c.place + 1 }) None
end_kept stage.Reading r m before c op answer no_lock no_extension s = absurd s
end_kept stage.Locking r m before c op answer no_lock no_extension s = absurd (let w = first_write lock s.left op s.is_due.0 s.is_due.1 in no_lock w.0.key (sym w.3))
end_kept stage.Extending r m before c op answer no_lock no_extension s = absurd (no_extension s.is_due.0.key s.is_due.0.wts (time_of s.reads s.locks) s.is_due.4)
end_kept stage.Installing r m before c op answer no_lock no_extension s = (omega (arith, s.place, ap length s.split, length-append s.done s.left, s.few), installed_kept r m before c op answer s)
end_kept stage.Releasing r m before c op answer no_lock no_extension s =
    (omega (arith, s.place, ap length s.split, length-append (s.done ++ s.left) s.unlocked, length-append s.done s.left, s.few), released_kept r m before c op answer s)
end_kept stage.Ended r m before c op answer no_lock no_extension s = absurd (let e : Some op ≡ None = s.nothing in cc)

-- ---- which answers an operation may have

pub lock_answers : (by : AttemptId) (key : RowKey) (a : Answer) → MayAnswer (record { by = by; op = Lock key }) a → ((wts : ℕ) × (rts : ℕ) × (a ≡ Locked wts rts)) ⊎ ((holder : AttemptId) × (a ≡ Marked holder))
lock_answers by key a may = from may.0.mark may.1 where
  from : (mark : Option AttemptId) → a ≡ unless_marked mark by (Locked may.0.wts may.0.rts) → ((wts : ℕ) × (rts : ℕ) × (a ≡ Locked wts rts)) ⊎ ((holder : AttemptId) × (a ≡ Marked holder))
  from None is = inl (may.0.wts, may.0.rts, is)
  from (Some holder) is =
      elim (is_mark_of by (Some holder)) as (λ b. a ≡ cond b (Locked may.0.wts may.0.rts) (Marked holder) → ((wts : ℕ) × (rts : ℕ) × (a ≡ Locked wts rts)) ⊎ ((holder : AttemptId) × (a ≡ Marked holder))) [
        | true ↦ λ h. inl (may.0.wts, may.0.rts, h)
        | false ↦ λ h. inr (holder, h)
      ] is

-- ---- what the code leaves

next_place : (n : ℕ) → n ≤ most_keys → min (n + 1) (2 ^ 64 - 1) ≡ n + 1
next_place n few = omega arith

pub passed_on : (c d : Course) → c.place ≤ most_keys → d ≡ record c { place = min (c.place + 1) (2 ^ 64 - 1) } → d ≡ record c { place = c.place + 1 }
passed_on c d few is = is ∙ ap (λ (n : ℕ). record c { place = n }) (next_place c.place few)

extending_few : (r : Run) (m : Rows) (before : List Exchange) (c : Course) (due : Option Op) → IsExtending r m before c due → c.place ≤ most_keys
extending_few r m before c due s = omega (arith, s.place, ap length s.split, length-append s.done s.left, s.has_read.few_reads)

pub extension_taken : (r : Run) (m : Rows) (before : List Exchange) (c d : Course) (op : Op) (answer : Answer) → IsExtending r m before c (Some op) → c.stage ≡ stage.Extending → answer ≡ Extended →
    d ≡ record c { place = min (c.place + 1) (2 ^ 64 - 1) } → Stands r m (before ++ exchange op answer ∷ []) d None
extension_taken r m before c d op answer s at is moved_to =
    subst (λ (a : Answer). Stands r m (before ++ exchange op a ∷ []) d None) (sym is)
    (subst (λ (x : Course). Stands r m (before ++ exchange op Extended ∷ []) x None) (sym (passed_on c d (extending_few r m before c (Some op) s) moved_to))
    (subst (λ (a : Stage). StandsIn a r m (before ++ exchange op Extended ∷ []) (record c { place = c.place + 1 }) None) (sym at) (extension_kept r m before c op s)))

pub extension_refused : (r : Run) (m : Rows) (before : List Exchange) (c d : Course) (key : RowKey) (wts time : ℕ) (answer : Answer) (because : Why) → IsExtending r m before c (Some (Extend key wts time)) →
    ((holder : AttemptId) × (answer ≡ Marked holder) × (because ≡ why.Marked key holder)) ⊎ ((found : ℕ) × (answer ≡ Changed found) × (because ≡ why.Changed key wts found)) →
    d ≡ entered stage.Releasing (record c { conflict = Some because }) → Stands r m (before ++ exchange (Extend key wts time) answer ∷ []) d None
extension_refused r m before c d key wts time answer because s how is =
    subst (λ (x : Course). Stands r m (before ++ exchange (Extend key wts time) answer ∷ []) x None) (sym is)
    (extension_stopped r m before c (Extend key wts time) answer because s (conflict how))
  where
    conflict : ((holder : AttemptId) × (answer ≡ Marked holder) × (because ≡ why.Marked key holder)) ⊎ ((found : ℕ) × (answer ≡ Changed found) × (because ≡ why.Changed key wts found)) →
        conflict_of s.reads (exchange (Extend key wts time) answer) ≡ Some because
    conflict (inl h) = ap (λ (a : Answer). conflict_of s.reads (exchange (Extend key wts time) a)) h.1 ∙ ap (λ (w : Why). Some w) (sym h.2)
    conflict (inr h) = ap (λ (a : Answer). conflict_of s.reads (exchange (Extend key wts time) a)) h.1 ∙ ap (λ (w : Why). Some w) (sym h.2)

pub lock_refused : (r : Run) (m : Rows) (before : List Exchange) (c d : Course) (key : RowKey) (holder : AttemptId) (answer : Answer) → IsLocking r m before c (Some (Lock key)) → answer ≡ Marked holder →
    d ≡ entered stage.Releasing (record c { conflict = Some (why.Marked key holder) }) → Stands r m (before ++ exchange (Lock key) answer ∷ []) d None
lock_refused r m before c d key holder answer s is d_is =
    subst (λ (a : Answer). Stands r m (before ++ exchange (Lock key) a ∷ []) d None) (sym is)
    (subst (λ (x : Course). Stands r m (before ++ exchange (Lock key) (Marked holder) ∷ []) x None) (sym d_is) (lock_marked r m before c key holder s))

-- the course behind a lock, as the code makes it
abbrev pub locked_from : Course → ℕ → Course
locked_from p g = record p { locked = p.place; greatest = g }

locked_from_is : (c p : Course) (g rts : ℕ) → c.place ≤ most_keys → p ≡ record c { place = min (c.place + 1) (2 ^ 64 - 1) } → g ≡ max p.greatest rts → locked_from p g ≡ locked_on rts c
locked_from_is c p g rts few is most =
    ap (locked_from p) most ∙ ap (λ (x : Course). locked_from x (max x.greatest rts)) (passed_on c p few is)

pub lock_taken : (r : Run) (m : Rows) (before : List Exchange) (c p : Course) (key : RowKey) (wts rts g : ℕ) (shown : Option ℕ) → IsLocking r m before c (Some (Lock key)) → c.stage ≡ stage.Locking →
    option_flatten (slice_get c.expected.items c.place) ≡ shown → (shown ≡ None) ⊎ (shown ≡ Some wts) → p ≡ record c { place = min (c.place + 1) (2 ^ 64 - 1) } → g ≡ max p.greatest rts →
    Stands r m (before ++ exchange (Lock key) (Locked wts rts) ∷ []) (locked_from p g) None
lock_taken r m before c p key wts rts g shown s at is how placed most =
    subst (λ (x : Course). Stands r m (before ++ exchange (Lock key) (Locked wts rts) ∷ []) x None) (sym (locked_from_is c p g rts (place_few r m before c (Some (Lock key)) s) placed most))
    (subst (λ (a : Stage). StandsIn a r m (before ++ exchange (Lock key) (Locked wts rts) ∷ []) (locked_on rts c) None) (sym at)
    (lock_kept r m before c key wts rts s (elim how [ inl h ↦ inl (is ∙ h) | inr h ↦ inr (is ∙ h) ])))

pub lock_differs : (r : Run) (m : Rows) (before : List Exchange) (c p d : Course) (key : RowKey) (wts rts g read : ℕ) (shown : Option ℕ) → IsLocking r m before c (Some (Lock key)) →
    option_flatten (slice_get c.expected.items c.place) ≡ shown → shown ≡ Some read → (read ≡ wts → ⊥) → p ≡ record c { place = min (c.place + 1) (2 ^ 64 - 1) } → g ≡ max p.greatest rts →
    d ≡ entered stage.Releasing (record (locked_from p g) { conflict = Some (why.Changed key read wts) }) → Stands r m (before ++ exchange (Lock key) (Locked wts rts) ∷ []) d None
lock_differs r m before c p d key wts rts g read shown s is showed apart placed most d_is =
    subst (λ (x : Course). Stands r m (before ++ exchange (Lock key) (Locked wts rts) ∷ []) x None)
    (sym (d_is ∙ ap (λ (x : Course). entered stage.Releasing (record x { conflict = Some (why.Changed key read wts) })) (locked_from_is c p g rts (place_few r m before c (Some (Lock key)) s) placed most)))
    (lock_changed r m before c key wts rts read s (is ∙ showed) apart)
