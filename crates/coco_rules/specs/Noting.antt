-- What is remembered of Dones that came one behind another, and what it says of the next one.
use Rattle.std.specs.Prelude.{◌≡◌, ℕ, ◌-◌, Bool, true, false, nat_eq, nat_le, nat_lt, ◌==◌, ◌&&◌, if◌then◌else◌, List, [], ◌∷◌, ◌++◌, length, Option, None, Some}
use Rattle.std.specs.List.{AllByRecursion, filter}
use Rattle.std.specs.Set.{is_member}
use Rattle.coco_types.specs.Limits.{most_batch_lines, most_kept, most_time}
use Rattle.coco_types.specs.declared.call.Done.{Done}
use Rattle.coco_ast.specs.Fitting.{is_taken}
use Rattle.coco_ast.specs.History.{IsBefore, ids_of}
use Rattle.coco_ast.specs.Meaning.{procedure_at}
use Rattle.coco_ast.specs.Tree.{Procedures}
use Rattle.coco_entry.specs.Bases.{stamp_of, stamp_rises}
use Rattle.coco_entry.specs.declared.base.Stamp.{Stamp}
use Rattle.coco_rules.specs.declared.dones.Noted.{Noted}

-- how many of the Dones are of an epoch, where so many are of the last one's
abbrev pub count_of : Option Stamp → ℕ → ℕ → ℕ
count_of None count epoch = 0
count_of (Some last) count epoch = if last.epoch == epoch then count else 0

-- ---- the next Done

abbrev pub has_time : Bool → ℕ → Bool
has_time true time = time == 0
has_time false time = nat_le 1 time && nat_le time most_time

abbrev pub has_room : Option ℕ → Bool
has_room None = true
has_room (Some room) = nat_lt 0 room

-- it keeps all rules but that its id is new
abbrev pub is_allowed : Procedures → Noted → Done → Bool
is_allowed tree noted done =
    is_taken (procedure_at tree.procs done.call.proc_no) done.call
    && (has_time done.call.snapshot done.time
    && (stamp_rises noted.last (stamp_of done) && (nat_lt (count_of noted.last noted.of_epoch done.epoch) most_batch_lines && has_room noted.room)))

-- ---- the Dones so far

-- the last one is this, and all others are before it
abbrev pub EndsAt : List Done → Option Stamp → Type 0
EndsAt dones None = dones ≡ []
EndsAt dones (Some last) = (front : List Done) × (done : Done) × (dones ≡ front ++ done ∷ []) × (stamp_of done ≡ last) × AllByRecursion (λ d. IsBefore d done) front

-- without a keep number there is an end to them
abbrev pub room_behind : Option ℕ → List Done → Option ℕ
room_behind None dones = Some (most_kept - length dones)
room_behind (Some keep) dones = None

pub record AreNoted (keep : Option ℕ) (dones : List Done) (noted : Noted) : Type 0 where
  pub ids : (id : ℕ) → is_member nat_eq noted.ids.keys id ≡ is_member nat_eq (ids_of dones) id
  pub last : EndsAt dones noted.last
  pub of_epoch : (last : Stamp) → noted.last ≡ Some last → noted.of_epoch ≡ length (filter (λ d. nat_eq d.epoch last.epoch) dones)
  pub room : noted.room ≡ room_behind keep dones
