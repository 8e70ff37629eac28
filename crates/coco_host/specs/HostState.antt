-- What contracts see of a host in memory.
use Rattle.std.specs.Prelude.{◌≡◌, ◌≢◌, ℕ, ◌-◌, ◌^◌, min, List, true, false, MatchBool, Bool, Result, Ok, Err, Some, [], take}
use Rattle.coco_types.specs.declared.error.OutFault.{OutFault}
use Rattle.coco_types.specs.declared.error.OutFault.TheVariants.{Failed, NoMemory}
use Rattle.coco_io.specs.Counts.{Rose}
use Rattle.coco_io.specs.Plan.{Plan, next_fails, after_call}
use Rattle.coco_host.specs.Files.{IsDurable}
use Rattle.coco_host.specs.Record.{Event, content, stored, files_of, said_of, MayLeave}

-- a host in memory: what happened, how many bytes a say says at most, its calls, and how many of them failed
pub record HostState : Type 0 where
  pub events : List Event
  pub most : ℕ
  pub plan : Plan
  pub disk_faults : ℕ
  pub say_faults : ℕ

-- a call on files is counted, and fails where the plan says so; nothing else happens
pub record CountsDiskCall (fails : Bool) (old new : HostState) : Type 0 where
  pub answer : fails ≡ next_fails old.plan
  pub plan : new.plan ≡ after_call old.plan
  pub faults : MatchBool fails (Rose old.disk_faults new.disk_faults) (new.disk_faults ≡ old.disk_faults)
  pub events : new.events ≡ old.events
  pub most : new.most ≡ old.most
  pub say_faults : new.say_faults ≡ old.say_faults

-- a say says as much of a piece of this length as it may, fails where the plan says so, or lacks memory
abbrev pub SaysByPlan : Result ℕ OutFault → ℕ → HostState → HostState → Type 0
SaysByPlan (Ok k) len old new = (k ≡ min len old.most) × (next_fails old.plan ≡ false) × (new.most ≡ old.most) × (new.plan ≡ after_call old.plan)
SaysByPlan (Err Failed) len old new = (next_fails old.plan ≡ true) × (new.most ≡ old.most) × (new.plan ≡ after_call old.plan)
SaysByPlan (Err NoMemory) len old new = (next_fails old.plan ≡ false) × (new.most ≡ old.most) × (new.plan ≡ after_call old.plan)

-- a host after a crash: its files are an image that the crash might leave and are durable; it has said nothing, and no call of it fails by plan
pub record IsAfterCrash (old new : HostState) : Type 0 where
  pub image : MayLeave old.events (files_of new.events)
  pub durable : (n : ℕ) → IsDurable n (Some (files_of new.events)) (MayLeave new.events)
  pub silent : said_of new.events ≡ []
  pub most : new.most ≡ 2 ^ 64 - 1
  pub plan : new.plan ≡ record { fails = []; calls = 0; faults = 0 }
  pub disk_faults : new.disk_faults ≡ 0
  pub say_faults : new.say_faults ≡ 0

-- one file has no more than this many of its bytes, and they are synced; all else is as before
pub record CutsFile (file len : ℕ) (old new : HostState) : Type 0 where
  pub cut : stored new.events file ≡ (record { synced = take len (content (stored old.events file)); unsynced = [] })
  pub elsewhere : (n : ℕ) → n ≢ file → stored new.events n ≡ stored old.events n
  pub said : said_of new.events ≡ said_of old.events
  pub rest : new ≡ record old { events = new.events }
