-- How an attempt reads, and what its steps so far say of its script.
use Rattle.std.proofs.Common.{◌≡◌, ℕ, ◌+◌, ◌≤◌, max, Bool, true, false, List, [], ◌∷◌, ◌++◌, length, map, None, Some, refl, sym, ap, ◌∙◌, subst, arith, vec_capacity}
use Rattle.std.specs.List.{AllByRecursion}
use Rattle.std.proofs.lemmas.List.{map-append, append_assoc, append-nil, length-map}
use Rattle.coco_types.specs.Limits.{most_keys}
use Rattle.coco_types.specs.RowKey.{RowKey}
use Rattle.coco_types.specs.declared.call.Call.{Call}
use Rattle.coco_types.specs.declared.call.Reply.{Reply}
use Rattle.coco_types.specs.declared.call.Write.{Write}
use Rattle.coco_ast.specs.Keyed.{Rows, value_at, write_at}
use Rattle.coco_ast.specs.Meaning.{Run, Datum, run, is_key}
use Rattle.coco_ast.specs.Tree.{Procedures}
use Rattle.coco_eval.specs.Standing as eval
use Rattle.coco_eval.specs.declared.machine.Given.{Given}
use Rattle.coco_shard.specs.Law.{greatest}
use Rattle.coco_shard.specs.declared.ops.Op.{Op}
use Rattle.coco_shard.specs.declared.ops.Op.TheVariants.{Read, Past}
use Rattle.coco_shard.specs.declared.ops.Answer.TheVariants.{Got, Stood}
use Rattle.std.specs.FinMap.{empty}
use Rattle.coco_occ.specs.Course.{IsFresh, Rise, lock, install, release, StandsIn, seen_of, wts_in, exchange, IsLocking}
use Rattle.coco_occ.specs.Exchange.{Exchange, Found, read}
use Rattle.coco_occ.specs.Keeping.{given_of, reading, HasReads, HasAsked, IsReading, IsBehind, GoesIn}
use Rattle.coco_occ.specs.Script.{time_of, extension, past}
use Rattle.coco_occ.specs.declared.course.Course.{Course}
use Rattle.coco_occ.specs.declared.course.Stage.{Stage}
use Rattle.coco_occ.specs.declared.course.Stage.TheVariants as stage
use Rattle.coco_occ.proofs.CourseLemmas.{greatest-push, first_write}
use Rattle.coco_occ.proofs.Searches.{rise}
use Rattle.coco_occ.proofs.NeedLemmas.{AreApart, run_apart, run_ascends, apart_before, others_stay, has_given_more}

-- ---- a key that is asked for

abbrev pub asks : eval.Evaluation → RowKey → eval.Evaluation
asks e key = record e { standing = eval.Asks key }

pub read_due : (snapshot : Bool) (e : eval.Evaluation) (asked : List Exchange) (c : Course) (key : RowKey) → IsReading snapshot e asked c None → eval.IsSound (asks e key) → length e.given + 1 ≤ most_keys →
    IsReading snapshot (asks e key) asked c (Some (reading snapshot key))
read_due snapshot e asked c key s sound few = record {
  rows = s.rows;
  more = s.more;
  has = s.has;
  needs = s.needs;
  kept = s.kept;
  waits = (key, refl, refl, sound, few);
  seen_room = s.seen_room;
  expected_room = s.expected_room;
  no_conflict = s.no_conflict;
  no_time = s.no_time;
  no_lock = s.no_lock;
}

-- ---- a value that is given

abbrev pub given_more : eval.Evaluation → RowKey → Datum → List Given
given_more e key value = e.given ++ record { key = key; value = value } ∷ []

abbrev pub gave : eval.Evaluation → RowKey → Datum → eval.Evaluation
gave e key value = record e { given = given_more e key value; standing = eval.Ready }

-- there is a map with it, on which the run needs these keys first
record HasMap (e : eval.Evaluation) (given : List Given) : Type 0 where
  rows : Rows
  more : List RowKey
  has : eval.HasGiven given rows
  needs : (run e.procs e.call rows).needs ≡ eval.keys_of given ++ more

pub asked_for : (e : eval.Evaluation) (key : RowKey) → e.standing ≡ eval.Asks key → eval.IsSound e → (m : Rows) → eval.HasGiven e.given m → (more : List RowKey) × ((run e.procs e.call m).needs ≡ eval.keys_of e.given ++ key ∷ more)
asked_for e key is sound m has = subst (λ s. eval.Says e s m) is (sound m has)

map_given : (e : eval.Evaluation) (key : RowKey) (value : Datum) (m : Rows) → e.standing ≡ eval.Asks key → eval.IsSound e → eval.HasGiven e.given m → HasMap e (given_more e key value)
map_given e key value m is sound has =
    let first = asked_for e key is sound m has in
    let apart : AllByRecursion (λ q. is_key key q ≡ false) (eval.keys_of e.given) = apart_before (eval.keys_of e.given) key first.0 (subst AreApart first.1 (run_apart e.procs e.call m)) in
    let rows = write_at m key value in
    let next = asked_for e key is sound rows (others_stay e.given m key value apart has) in
    record {
      rows = rows;
      more = next.0;
      has = has_given_more e.given m key value apart has;
      needs = next.1 ∙ sym (append_assoc (eval.keys_of e.given) (key ∷ []) next.0) ∙ ap (λ l. l ++ next.0) (sym (map-append (λ (g : Given). g.key) e.given (record { key = key; value = value } ∷ [])));
    }

found : RowKey → ℕ → ℕ → Datum → Found
found key wts rts value = record { key = key; wts = wts; rts = rts; value = value }

-- the same attempt, with what is kept of the read
pub record TakesRead (c d : Course) (key : RowKey) (wts rts : ℕ) : Type 0 where
  pub seen : d.seen.items ≡ c.seen.items ++ record { key = key; wts = wts; rts = rts } ∷ []
  pub room : vec_capacity d.seen ≡ vec_capacity c.seen
  pub others : d ≡ record c { seen = d.seen; greatest = max c.greatest wts }

reads_more : (given : List Given) (asked : List Exchange) (c d : Course) (key : RowKey) (wts rts : ℕ) (value : Datum) → HasReads given asked c → TakesRead c d key wts rts →
    HasReads (given ++ record { key = key; value = value } ∷ []) (asked ++ exchange (Read key) (Got wts rts value) ∷ []) d
unfolding found
reads_more given asked c d key wts rts value h t =
    let f = found key wts rts value in
    record {
      reads = h.reads ++ f ∷ [];
      parts = ap (λ l. l ++ exchange (Read key) (Got wts rts value) ∷ []) h.parts ∙ sym (map-append read h.reads (f ∷ []));
      given_is = map-append given_of h.reads (f ∷ []) ∙ ap (λ l. l ++ given_of f ∷ []) h.given_is;
      seen = map-append seen_of h.reads (f ∷ []) ∙ ap (λ l. l ++ seen_of f ∷ []) h.seen ∙ sym t.seen;
      greatest_is = ap (λ (x : Course). x.greatest) t.others ∙ ap (λ n. max n wts) h.greatest_is ∙ sym (greatest-push 0 wts (map (λ f. f.wts) h.reads)) ∙ ap (greatest 0) (sym (map-append (λ f. f.wts) h.reads (f ∷ [])));
    }

pub got_read : (e : eval.Evaluation) (asked : List Exchange) (c d : Course) (op : Op) (key : RowKey) (wts rts : ℕ) (value : Datum) → IsReading false e asked c (Some op) → op ≡ Read key → TakesRead c d key wts rts →
    IsReading false (gave e key value) (asked ++ exchange op (Got wts rts value) ∷ []) d None
got_read e asked c d op key wts rts value s is t =
    let w = s.waits in
    let same : w.0 ≡ key = (let g : Read w.0 ≡ Read key = sym w.2 ∙ is in cc) in
    let m = map_given e key value s.rows (w.1 ∙ ap eval.Asks same) w.3 s.has in
    record {
      rows = m.rows;
      more = m.more;
      has = m.has;
      needs = m.needs;
      kept = subst (λ (o : Op). HasReads (given_more e key value) (asked ++ exchange o (Got wts rts value) ∷ []) d) (sym is) (reads_more e.given asked c d key wts rts value s.kept t);
      waits = refl;
      seen_room = subst (λ (n : ℕ). most_keys ≤ n) (sym t.room) s.seen_room;
      expected_room = subst (λ (x : Course). most_keys ≤ vec_capacity x.expected) (sym t.others) s.expected_room;
      no_conflict = ap (λ (x : Course). x.conflict) t.others ∙ s.no_conflict;
      no_time = ap (λ (x : Course). x.time) t.others ∙ s.no_time;
      no_lock = ap (λ (x : Course). x.locked) t.others ∙ s.no_lock;
    }

pub stood_read : (e : eval.Evaluation) (asked : List Exchange) (c : Course) (op : Op) (key : RowKey) (value : Datum) → IsReading true e asked c (Some op) → op ≡ Past key →
    IsReading true (gave e key value) (asked ++ exchange op (Stood value) ∷ []) c None
stood_read e asked c op key value s is =
    let w = s.waits in
    let same : w.0 ≡ key = (let g : Past w.0 ≡ Past key = sym w.2 ∙ is in cc) in
    let m = map_given e key value s.rows (w.1 ∙ ap eval.Asks same) w.3 s.has in
    record {
      rows = m.rows;
      more = m.more;
      has = m.has;
      needs = m.needs;
      kept = ap (λ (o : Op). asked ++ exchange o (Stood value) ∷ []) is ∙ ap (λ l. l ++ past (record { key = key; value = value }) ∷ []) s.kept ∙ sym (map-append past e.given (record { key = key; value = value } ∷ []));
      waits = refl;
      seen_room = s.seen_room;
      expected_room = s.expected_room;
      no_conflict = s.no_conflict;
      no_time = s.no_time;
      no_lock = s.no_lock;
    }

-- ---- the end of the reads

abbrev pub ended : eval.Evaluation → Reply → List Write → eval.Evaluation
ended e reply writes = record e { standing = eval.Ended reply writes }

-- the run, on a map with what was given
pub run_is : (e : eval.Evaluation) (reply : Reply) (writes : List Write) (m : Rows) → eval.IsSound (ended e reply writes) → eval.HasGiven e.given m → (rows : Rows) × (run e.procs e.call m ≡ record { reply = reply; rows = rows; needs = eval.keys_of e.given; writes = writes })
run_is e reply writes m sound has = (_, sound m has)

pub found_keys : (reads : List Found) → map (λ f. f.key) reads ≡ eval.keys_of (map given_of reads)
found_keys [] = refl
found_keys (f ∷ reads) = ap (λ l. f.key ∷ l) (found_keys reads)

pub found_values : (reads : List Found) (m : Rows) → eval.HasGiven (map given_of reads) m → AllByRecursion (λ f. value_at m f.key ≡ f.value) reads
found_values [] m has = tt
found_values (f ∷ reads) m has = (has.0, found_values reads m has.1)

-- the course at the first lock
pub record Settles (c d : Course) (writes : List Write) : Type 0 where
  pub expected : Rise writes → d.expected.items ≡ map (λ w. wts_in c.seen.items w.key) writes
  pub others : d ≡ record c { stage = stage.Locking; place = 0; expected = d.expected }

pub reads_end : (e : eval.Evaluation) (asked : List Exchange) (c d : Course) (reply : Reply) (writes : List Write) → IsReading false e asked c None → eval.IsSound (ended e reply writes) → length e.given + length writes ≤ most_keys → Settles c d writes →
    (m : Rows) × (eval.HasGiven e.given m) × (IsLocking (run e.procs e.call m) m asked d None)
reads_end e asked c d reply writes s sound few t =
    let h = s.kept in
    let is = run_is e reply writes s.rows sound s.has in
    let r = run e.procs e.call s.rows in
    let writes_are : r.writes ≡ writes = ap (λ (x : Run). x.writes) is.1 in
    let rising : Rise r.writes = rise r.writes (run_ascends e.procs e.call s.rows) in
    let needs_are : r.needs ≡ eval.keys_of e.given = ap (λ (x : Run). x.needs) is.1 in
    let reads_few : length h.reads ≡ length e.given = sym (length-map h.reads given_of) ∙ ap length h.given_is in (
      s.rows,
      s.has,
      record {
        reads = h.reads;
        locks = [];
        done = [];
        left = r.writes;
        parts = h.parts ∙ sym (append-nil (map read h.reads));
        has_read = record {
          reading = record {
            keys = found_keys h.reads ∙ ap eval.keys_of h.given_is ∙ sym needs_are;
            values = found_values h.reads s.rows (subst (λ (l : List Given). eval.HasGiven l s.rows) (sym h.given_is) s.has);
          };
          seen = h.seen ∙ sym (ap (λ (x : Course). x.seen.items) t.others);
          expected = t.expected (subst Rise writes_are rising) ∙ ap (λ l. map (λ w. wts_in c.seen.items w.key) l) (sym writes_are) ∙ ap (λ (x : Course). map (λ w. wts_in x.seen.items w.key) r.writes) (sym t.others);
          few_reads = omega (arith, reads_few, few);
          few_writes = omega (arith, ap length writes_are, few);
          rising = rising;
        };
        has_locked = record {
          asked = record { all = refl; clear = tt };
          held = refl;
          locked = ap (λ (x : Course). x.locked) t.others ∙ s.no_lock;
          greatest_is = ap (λ (x : Course). x.greatest) t.others ∙ h.greatest_is;
          no_conflict = ap (λ (x : Course). x.conflict) t.others ∙ s.no_conflict;
        };
        split = refl;
        place = ap (λ (x : Course). x.place) t.others;
        no_time = ap (λ (x : Course). x.time) t.others ∙ s.no_time;
        is_due = tt;
      },
    )

-- ---- a snapshot call ends

pub snapshot_ends : (e : eval.Evaluation) (asked : List Exchange) (c : Course) (reply : Reply) (writes : List Write) → IsReading true e asked c None → eval.IsSound (ended e reply writes) →
    IsBehind true (ended e reply writes) asked (record c { stage = stage.Ended; time = Some 0 }) reply None
snapshot_ends e asked c reply writes s sound =
    let is = run_is e reply writes s.rows sound s.has in
    record {
      rows = s.rows;
      standing = ap (λ (ws : List Write). eval.Ended reply ws) (sym (ap (λ (x : Run). x.writes) is.1));
      reply_is = ap (λ (x : Run). x.reply) is.1;
      stands = record {
        whole = record {
          given = e.given;
          parts = s.kept;
          keys = sym (ap (λ (x : Run). x.needs) is.1);
          values = s.has;
          outcome_is = refl;
        };
        ended = refl;
        no_conflict = s.no_conflict;
        time = refl;
        nothing = refl;
      };
    }

-- ---- the start

abbrev started : Procedures → Call → eval.Evaluation
started ps call = record { procs = ps; call = call; given = []; standing = eval.Ready }

nothing_asked : (snapshot : Bool) (c : Course) → IsFresh c → HasAsked snapshot [] [] c
nothing_asked true c f = refl
nothing_asked false c f = record { reads = []; parts = refl; given_is = refl; seen = sym f.seen; greatest_is = f.greatest_is }

pub starts_reading : (snapshot : Bool) (ps : Procedures) (call : Call) (c : Course) → IsFresh c → IsReading snapshot (started ps call) [] c None
starts_reading snapshot ps call c f = record {
  rows = empty;
  more = (run ps call empty).needs;
  has = tt;
  needs = refl;
  kept = nothing_asked snapshot c f;
  waits = refl;
  seen_room = f.seen_room;
  expected_room = f.expected_room;
  no_conflict = f.no_conflict;
  no_time = f.no_time;
  no_lock = f.no_lock;
}

-- ---- which operation reads

not_read : (at : Stage) (r : Run) (m : Rows) (before : List Exchange) (c : Course) (op : Op) → StandsIn at r m before c (Some op) → ((key : RowKey) → op ≡ Read key → ⊥) × ((key : RowKey) → op ≡ Past key → ⊥)
not_read stage.Reading r m before c op s = absurd s
not_read stage.Locking r m before c op s =
    let w = first_write lock s.left op s.is_due.0 s.is_due.1 in
    ((λ key is. let e : lock w.0 ≡ Read key = w.3 ∙ is in cc), (λ key is. let e : lock w.0 ≡ Past key = w.3 ∙ is in cc))
not_read stage.Extending r m before c op s =
    ((λ key is. let e : extension (time_of s.reads s.locks) s.is_due.0 ≡ Read key = sym s.is_due.4 ∙ is in cc), (λ key is. let e : extension (time_of s.reads s.locks) s.is_due.0 ≡ Past key = sym s.is_due.4 ∙ is in cc))
not_read stage.Installing r m before c op s =
    let w = first_write (install s.time) s.left op s.is_due.0 s.is_due.1 in
    ((λ key is. let e : install s.time w.0 ≡ Read key = w.3 ∙ is in cc), (λ key is. let e : install s.time w.0 ≡ Past key = w.3 ∙ is in cc))
not_read stage.Releasing r m before c op s =
    let w = first_write release s.left op s.is_due.0 s.is_due.1 in
    ((λ key is. let e : release w.0 ≡ Read key = w.3 ∙ is in cc), (λ key is. let e : release w.0 ≡ Past key = w.3 ∙ is in cc))
not_read stage.Ended r m before c op s = absurd (let e : Some op ≡ None = s.nothing in cc)

behind_not_read : (snapshot : Bool) (e : eval.Evaluation) (before : List Exchange) (c : Course) (reply : Reply) (op : Op) → IsBehind snapshot e before c reply (Some op) → ((key : RowKey) → op ≡ Read key → ⊥) × ((key : RowKey) → op ≡ Past key → ⊥)
behind_not_read true e before c reply op s = absurd (let e : Some op ≡ None = s.stands.nothing in cc)
behind_not_read false e before c reply op s = not_read c.stage (run e.procs e.call s.rows) s.rows before c op s.stands

-- a read is asked while it reads, in a call that isn't a snapshot call
pub record AsksRead (kind snapshot : Bool) (at : Stage) (e : eval.Evaluation) (before : List Exchange) (c : Course) (op : Op) : Type 0 where
  pub stage_is : at ≡ stage.Reading
  pub snapshot_is : snapshot ≡ kind
  pub reads : IsReading kind e before c (Some op)

reading_read : (snapshot : Bool) (e : eval.Evaluation) (before : List Exchange) (c : Course) (key : RowKey) → IsReading snapshot e before c (Some (Read key)) → AsksRead false snapshot stage.Reading e before c (Read key)
reading_read true e before c key s = absurd (let g : Read key ≡ Past s.waits.0 = s.waits.2 in cc)
reading_read false e before c key s = record { stage_is = refl; snapshot_is = refl; reads = s }

reading_past : (snapshot : Bool) (e : eval.Evaluation) (before : List Exchange) (c : Course) (key : RowKey) → IsReading snapshot e before c (Some (Past key)) → AsksRead true snapshot stage.Reading e before c (Past key)
reading_past true e before c key s = record { stage_is = refl; snapshot_is = refl; reads = s }
reading_past false e before c key s = absurd (let g : Past key ≡ Read s.waits.0 = s.waits.2 in cc)

pub asks_read : (at : Stage) (snapshot : Bool) (e : eval.Evaluation) (before : List Exchange) (c : Course) (reply : Reply) (key : RowKey) → GoesIn at snapshot e before c reply (Some (Read key)) → AsksRead false snapshot at e before c (Read key)
asks_read stage.Reading snapshot e before c reply key s = reading_read snapshot e before c key s
asks_read stage.Locking snapshot e before c reply key s = absurd ((behind_not_read snapshot e before c reply (Read key) s).0 key refl)
asks_read stage.Extending snapshot e before c reply key s = absurd ((behind_not_read snapshot e before c reply (Read key) s).0 key refl)
asks_read stage.Installing snapshot e before c reply key s = absurd ((behind_not_read snapshot e before c reply (Read key) s).0 key refl)
asks_read stage.Releasing snapshot e before c reply key s = absurd ((behind_not_read snapshot e before c reply (Read key) s).0 key refl)
asks_read stage.Ended snapshot e before c reply key s = absurd ((behind_not_read snapshot e before c reply (Read key) s).0 key refl)

pub asks_past : (at : Stage) (snapshot : Bool) (e : eval.Evaluation) (before : List Exchange) (c : Course) (reply : Reply) (key : RowKey) → GoesIn at snapshot e before c reply (Some (Past key)) → AsksRead true snapshot at e before c (Past key)
asks_past stage.Reading snapshot e before c reply key s = reading_past snapshot e before c key s
asks_past stage.Locking snapshot e before c reply key s = absurd ((behind_not_read snapshot e before c reply (Past key) s).1 key refl)
asks_past stage.Extending snapshot e before c reply key s = absurd ((behind_not_read snapshot e before c reply (Past key) s).1 key refl)
asks_past stage.Installing snapshot e before c reply key s = absurd ((behind_not_read snapshot e before c reply (Past key) s).1 key refl)
asks_past stage.Releasing snapshot e before c reply key s = absurd ((behind_not_read snapshot e before c reply (Past key) s).1 key refl)
asks_past stage.Ended snapshot e before c reply key s = absurd ((behind_not_read snapshot e before c reply (Past key) s).1 key refl)
