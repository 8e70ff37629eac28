-- Reading a message from left to right: the message, or the first field that can't stand.
use Rattle.std.specs.Prelude.{◌≡◌, ℕ, Bool, true, List, length, Option, Some, None, Result, Ok, Err, nat_lt, ◌==◌, if◌then◌else◌}
use Rattle.coco_types.specs.declared.call.Write.{Write}
use Rattle.coco_bytes.specs.declared.fault.FieldFault.{FieldFault}
use Rattle.coco_bytes.specs.declared.fault.FieldFault.TheVariants.{Bad}
use Rattle.coco_bytes.specs.Reads.{◌>>=◌, Read, u8_at, flag_at, u32_at, u64_at, fault_place}
use Rattle.coco_bytes.specs.Lists.{counted_at}
use Rattle.coco_bytes.specs.Values.{key_at, value_at}
use Rattle.coco_msg.specs.declared.fault.MessageFault.{MessageFault}
use Rattle.coco_msg.specs.declared.fault.MessageFault.TheVariants as faults
use Rattle.coco_msg.specs.declared.message.Message.{Message}
use Rattle.coco_msg.specs.declared.message.Message.TheVariants.{Ship, Total, Missing, All, Prepare, Vote, Commit, Finished, Abort, Query, Tell}

unfoldable pub write_at : List ℕ → ℕ → Read Write
write_at from at = do
  key ← key_at from at
  value ← value_at from key.1
  Ok (record { key = key.0; value = value.0 }, value.1)

-- a place that isn't above the one before it is bad
abbrev pub rises : Option ℕ → ℕ → Bool
rises None place = true
rises (Some before) place = nat_lt before place

unfoldable pub place_at : Option ℕ → List ℕ → ℕ → Read ℕ
place_at before from at = do
  place ← u32_at from at
  if rises before place.0 then Ok place else Err (Bad at)

unfoldable pub ship_at : List ℕ → ℕ → Read Message
ship_at from at = do
  epoch ← u64_at from at
  partition ← u8_at from epoch.1
  place ← u32_at from partition.1
  time ← u64_at from place.1
  writes ← counted_at (λ _. write_at) from time.1
  Ok (Ship epoch.0 partition.0 place.0 time.0 writes.0, writes.1)

unfoldable pub listed_at : List ℕ → ℕ → Read (ℕ × ℕ × List ℕ)
listed_at from at = do
  epoch ← u64_at from at
  partition ← u8_at from epoch.1
  places ← counted_at place_at from partition.1
  Ok ((epoch.0, partition.0, places.0), places.1)

unfoldable pub total_at : List ℕ → ℕ → Read Message
total_at from at = do
  l ← listed_at from at
  Ok (Total l.0.0 l.0.1 l.0.2, l.1)

unfoldable pub missing_at : List ℕ → ℕ → Read Message
missing_at from at = do
  l ← listed_at from at
  Ok (Missing l.0.0 l.0.1 l.0.2, l.1)

unfoldable pub all_at : List ℕ → ℕ → Read Message
all_at from at = do
  epoch ← u64_at from at
  partition ← u8_at from epoch.1
  Ok (All epoch.0 partition.0, partition.1)

-- what follows the epoch, for the tags from 5 to 11
unfoldable pub decision_of : ℕ → ℕ → List ℕ → ℕ → Read Message
decision_of tag epoch from at =
    if tag == 5 then Ok (Prepare epoch, at) else
    (if tag == 6 then (flag_at from at >>= λ flag. Ok (Vote epoch flag.0, flag.1)) else
    (if tag == 7 then Ok (Commit epoch, at) else
    (if tag == 8 then Ok (Finished epoch, at) else
    (if tag == 9 then Ok (Abort epoch, at) else
    (if tag == 10 then Ok (Query epoch, at) else (flag_at from at >>= λ flag. Ok (Tell epoch flag.0, flag.1)))))))

unfoldable pub decision_at : ℕ → List ℕ → ℕ → Read Message
decision_at tag from at = do
  epoch ← u64_at from at
  decision_of tag epoch.0 from epoch.1

-- the fields behind each tag; another tag can't stand at the front
unfoldable pub fields_at : ℕ → List ℕ → ℕ → Read Message
fields_at tag from at =
    if tag == 0 then Err (Bad 0) else
    (if nat_lt 11 tag then Err (Bad 0) else
    (if tag == 1 then ship_at from at else
    (if tag == 2 then total_at from at else
    (if tag == 3 then missing_at from at else
    (if tag == 4 then all_at from at else decision_at tag from at)))))

unfoldable pub message_in : List ℕ → Result Message FieldFault
message_in from = do
  tag ← u8_at from 0
  message ← fields_at tag.0 from tag.1
  if length from == message.1 then Ok message.0 else Err (Bad message.1)

-- the reading fails at this place
abbrev pub IsFaultAt : {A : Type 0} → ℕ → Result A FieldFault → Type 0
IsFaultAt at read = (fault : FieldFault) × (read ≡ Err fault) × (at ≡ fault_place fault)

-- what a call answered is what reading gives, unless memory ran out
abbrev pub Answers : {A : Type 0} → Result A MessageFault → Result A FieldFault → Type 0
Answers (Ok x) read = read ≡ Ok x
Answers (Err faults.NoMemory) read = Unit {0}
Answers (Err (faults.Bad at)) read = IsFaultAt at read
