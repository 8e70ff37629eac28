-- What an attempt has asked behind its reads, by its stage.
use Rattle.std.specs.Prelude.{◌≡◌, ⊤, ℕ, ◌≤◌, Bool, true, false, not, ◌&&◌, nat_le, nat_lt, List, [], ◌∷◌, ◌++◌, length, map, filter, Option, None, Some, vec_capacity}
use Rattle.std.specs.List.{find, list_any, filter_map, AllByRecursion}
use Rattle.std.specs.declared.cmp.Ordering.TheVariants.{Less}
use Rattle.std.specs.Option.{option_map, option_or}
use Rattle.coco_types.specs.Limits.{most_keys, most_time}
use Rattle.coco_types.specs.RowKey.{RowKey, key_cmp}
use Rattle.coco_types.specs.declared.call.Reply.{Reply}
use Rattle.coco_types.specs.declared.call.Write.{Write}
use Rattle.coco_ast.specs.Keyed.{Rows}
use Rattle.coco_ast.specs.Meaning.{Run, is_key}
use Rattle.coco_shard.specs.Law.{greatest}
use Rattle.coco_shard.specs.declared.ops.Op.{Op}
use Rattle.coco_shard.specs.declared.ops.Op.TheVariants.{Lock, Extend, Install, Release}
use Rattle.coco_shard.specs.declared.ops.Answer.{Answer}
use Rattle.coco_occ.specs.Exchange.{Exchange, Found, ops_of, read, conflict_of, shown_by, locked_by}
use Rattle.coco_occ.specs.Script.{AskedAll, Reads, Locks, Extends, time_of, needs_extension, extension, outcome_of, ends_of}
use Rattle.coco_occ.specs.declared.course.Course.{Course}
use Rattle.coco_occ.specs.declared.course.SeenKey.{SeenKey}
use Rattle.coco_occ.specs.declared.course.Stage.{Stage}
use Rattle.coco_occ.specs.declared.course.Stage.TheVariants as stage
use Rattle.coco_occ.specs.declared.outcome.Why.{Why}
use Rattle.coco_occ.specs.declared.outcome.Outcome.{Outcome}
use Rattle.coco_occ.specs.declared.outcome.Outcome.TheVariants.{Committed, Conflict, OverTime}

abbrev pub seen_of : Found → SeenKey
seen_of f = record { key = f.key; wts = f.wts; rts = f.rts }

-- the write time that the read of a key showed
abbrev pub wts_in : List SeenKey → RowKey → Option ℕ
wts_in seen key = option_map (λ s. s.wts) (find (λ s. is_key key s.key) seen)

-- whether a key that was read so needs an extension
abbrev pub needs_seen : ℕ → List Write → SeenKey → Bool
needs_seen time writes s = not (list_any (λ w. is_key s.key w.key) writes) && nat_lt s.rts time

abbrev pub lock : Write → Op
lock w = Lock w.key

abbrev pub install : ℕ → Write → Op
install time w = Install w.key time w.value

abbrev pub release : Write → Op
release w = Release w.key

abbrev pub keys : List Write → List RowKey
keys ws = map (λ w. w.key) ws

-- each key is below those behind it
abbrev pub Rise : List Write → Type 0
Rise [] = ⊤
Rise (w ∷ ws) = AllByRecursion (λ k. key_cmp w.key k ≡ Less) (keys ws) × Rise ws

abbrev pub exchange : Op → Answer → Exchange
exchange op answer = record { op = op; answer = answer }

-- at the first key of a stage
abbrev pub entered : Stage → Course → Course
entered s c = record c { stage = s; place = 0 }

-- the operation that is asked, where one is
abbrev pub due_of : Bool → Op → Option Op
due_of true op = Some op
due_of false op = None

-- makes the version that was read valid until the time
abbrev pub extension_of : SeenKey × ℕ → Op
extension_of p = Extend p.0.key p.0.wts p.1

-- the operation that an answer is awaited for, if there is one, is the first of those left
abbrev pub IsDue : Option Op → List Op → Type 0
IsDue None left = ⊤
IsDue (Some op) left = (more : List Op) × (left ≡ op ∷ more)

abbrev pub is_ended : Stage → Bool
is_ended stage.Reading = false
is_ended stage.Locking = false
is_ended stage.Extending = false
is_ended stage.Installing = false
is_ended stage.Releasing = false
is_ended stage.Ended = true

-- how an attempt ends that has a conflict or a time
abbrev pub outcome_by : Option Why → Option ℕ → Reply → Outcome
outcome_by (Some why) time reply = Conflict why
outcome_by None (Some time) reply = Committed time reply
outcome_by None None reply = OverTime

-- nothing was read, and there is room for what a call may read and write
pub record HasRoom (c : Course) : Type 0 where
  pub seen : c.seen.items ≡ []
  pub seen_room : most_keys ≤ vec_capacity c.seen
  pub expected_room : most_keys ≤ vec_capacity c.expected

-- at the start of an attempt
pub record IsFresh (c : Course) : Type 0 where
  pub stage_is : c.stage ≡ stage.Reading
  pub seen : c.seen.items ≡ []
  pub seen_room : most_keys ≤ vec_capacity c.seen
  pub expected_room : most_keys ≤ vec_capacity c.expected
  pub greatest_is : c.greatest ≡ 0
  pub no_lock : c.locked ≡ 0
  pub no_time : c.time ≡ None
  pub no_conflict : c.conflict ≡ None

-- what was read, with what it says of the writes
pub record HasRead (r : Run) (m : Rows) (reads : List Found) (c : Course) : Type 0 where
  pub reading : Reads r m reads
  pub seen : map seen_of reads ≡ c.seen.items
  pub expected : c.expected.items ≡ map (λ w. wts_in c.seen.items w.key) r.writes
  pub few_reads : length reads ≤ most_keys
  pub few_writes : length r.writes ≤ most_keys
  pub rising : Rise r.writes

-- the keys of these writes are locked, and none conflicted
pub record HasLocked (reads : List Found) (locks : List Exchange) (writes : List Write) (c : Course) : Type 0 where
  pub asked : AskedAll (conflict_of reads) (map lock writes) locks
  pub held : filter_map locked_by locks ≡ keys writes
  pub locked : c.locked ≡ length writes
  pub greatest_is : c.greatest ≡ greatest (greatest 0 (map (λ f. f.wts) reads)) (filter_map shown_by locks)
  pub no_conflict : c.conflict ≡ None

pub record IsLocking (r : Run) (m : Rows) (asked : List Exchange) (c : Course) (due : Option Op) : Type 0 where
  pub reads : List Found
  pub locks : List Exchange
  pub done : List Write
  pub left : List Write
  pub parts : asked ≡ map read reads ++ locks
  pub has_read : HasRead r m reads c
  pub has_locked : HasLocked reads locks done c
  pub split : r.writes ≡ done ++ left
  pub place : c.place ≡ length done
  pub no_time : c.time ≡ None
  pub is_due : IsDue due (map lock left)

-- the next key is one that needs it
abbrev pub IsDueFor : ℕ → List Write → Option Op → List Found → Type 0
IsDueFor time writes None left = ⊤
IsDueFor time writes (Some op) left = (f : Found) × (more : List Found) × (left ≡ f ∷ more) × (needs_extension time writes f ≡ true) × (op ≡ extension time f)

pub record IsExtending (r : Run) (m : Rows) (asked : List Exchange) (c : Course) (due : Option Op) : Type 0 where
  pub reads : List Found
  pub locks : List Exchange
  pub extensions : List Exchange
  pub done : List Found
  pub left : List Found
  pub parts : asked ≡ map read reads ++ locks ++ extensions
  pub has_read : HasRead r m reads c
  pub has_locked : HasLocked reads locks r.writes c
  pub time_is : c.time ≡ Some (time_of reads locks)
  pub fits : nat_le (time_of reads locks) most_time ≡ true
  pub split : reads ≡ done ++ left
  pub place : c.place ≡ length done
  pub extended : AskedAll (conflict_of reads) (map (extension (time_of reads locks)) (filter (needs_extension (time_of reads locks) r.writes) done)) extensions
  pub is_due : IsDueFor (time_of reads locks) r.writes due left

-- all that is asked is known but for what is left of the installs or releases
pub record IsEnding (r : Run) (m : Rows) (asked : List Exchange) (outcome : Outcome) (left : List Op) : Type 0 where
  pub reads : List Found
  pub locks : List Exchange
  pub locking_conflict : Option Why
  pub extensions : List Exchange
  pub extending_conflict : Option Why
  pub ends : List Exchange
  pub parts : asked ≡ map read reads ++ locks ++ extensions ++ ends
  pub reading : Reads r m reads
  pub locking : Locks reads r.writes locks locking_conflict
  pub extending : Extends reads r.writes locking_conflict (time_of reads locks) extensions extending_conflict
  pub ending : ops_of ends ++ left ≡ ends_of outcome r.writes locks
  pub outcome_is : outcome ≡ outcome_of (option_or locking_conflict extending_conflict) (time_of reads locks) r.reply

pub record IsInstalling (r : Run) (m : Rows) (asked : List Exchange) (c : Course) (due : Option Op) : Type 0 where
  pub time : ℕ
  pub done : List Write
  pub left : List Write
  pub no_conflict : c.conflict ≡ None
  pub time_is : c.time ≡ Some time
  pub few : length r.writes ≤ most_keys
  pub split : r.writes ≡ done ++ left
  pub place : c.place ≡ length done
  pub is_due : IsDue due (map (install time) left)
  pub ending : IsEnding r m asked (Committed time r.reply) (map (install time) left)

pub record IsReleasing (r : Run) (m : Rows) (asked : List Exchange) (c : Course) (due : Option Op) : Type 0 where
  pub done : List Write
  pub left : List Write
  pub unlocked : List Write
  pub few : length r.writes ≤ most_keys
  pub split : r.writes ≡ done ++ left ++ unlocked
  pub place : c.place ≡ length done
  pub locked : c.locked ≡ length (done ++ left)
  pub is_due : IsDue due (map release left)
  pub ending : IsEnding r m asked (outcome_by c.conflict c.time r.reply) (map release left)

pub record HasEnded (r : Run) (m : Rows) (asked : List Exchange) (c : Course) (due : Option Op) : Type 0 where
  pub nothing : due ≡ None
  pub ending : IsEnding r m asked (outcome_by c.conflict c.time r.reply) []

-- in one of the last stages
abbrev pub Closes : Stage → Run → Rows → List Exchange → Course → Option Op → Type 0
Closes stage.Reading r m asked c due = ⊥
Closes stage.Locking r m asked c due = ⊥
Closes stage.Extending r m asked c due = ⊥
Closes stage.Installing r m asked c due = IsInstalling r m asked c due
Closes stage.Releasing r m asked c due = IsReleasing r m asked c due
Closes stage.Ended r m asked c due = HasEnded r m asked c due

-- where it stands, with the operation that an answer is awaited for
abbrev pub StandsIn : Stage → Run → Rows → List Exchange → Course → Option Op → Type 0
StandsIn stage.Reading r m asked c due = ⊥
StandsIn stage.Locking r m asked c due = IsLocking r m asked c due
StandsIn stage.Extending r m asked c due = IsExtending r m asked c due
StandsIn stage.Installing r m asked c due = IsInstalling r m asked c due
StandsIn stage.Releasing r m asked c due = IsReleasing r m asked c due
StandsIn stage.Ended r m asked c due = HasEnded r m asked c due

abbrev pub Stands : Run → Rows → List Exchange → Course → Option Op → Type 0
Stands r m asked c due = StandsIn c.stage r m asked c due
