-- The bytes of each message: a tag, the epoch and the fields, and nothing more.
use Rattle.std.specs.Prelude.{ℕ, ◌<◌, ◌^◌, List, ◌∷◌, ◌++◌, length, Option, Some, None}
use Rattle.coco_types.specs.declared.call.Write.{Write}
use Rattle.coco_bytes.specs.Fields.{u8_bytes, flag_bytes, u32_bytes, u64_bytes}
use Rattle.coco_bytes.specs.Lists.{counted, FitInTurn}
use Rattle.coco_bytes.specs.Values.{key_bytes, IsKey, value_bytes, IsValue}
use Rattle.coco_msg.specs.declared.message.Message.{Message}
use Rattle.coco_msg.specs.declared.message.Message.TheVariants.{Ship, Total, Missing, All, Prepare, Vote, Commit, Finished, Abort, Query, Tell}

abbrev pub write_bytes : Write → List ℕ
write_bytes w = key_bytes w.key ++ value_bytes w.value

abbrev pub listed_bytes : ℕ → ℕ → List ℕ → List ℕ
listed_bytes epoch partition places = u64_bytes epoch ++ (u8_bytes partition ++ counted u32_bytes places)

abbrev pub piece_bytes : ℕ → ℕ → ℕ → List Write → List ℕ
piece_bytes partition place time writes = u8_bytes partition ++ (u32_bytes place ++ (u64_bytes time ++ counted write_bytes writes))

abbrev pub ship_bytes : ℕ → ℕ → ℕ → ℕ → List Write → List ℕ
ship_bytes epoch partition place time writes = u64_bytes epoch ++ piece_bytes partition place time writes

abbrev pub bytes_of : Message → List ℕ
bytes_of (Ship epoch partition place time writes) = 1 ∷ ship_bytes epoch partition place time writes
bytes_of (Total epoch partition places) = 2 ∷ listed_bytes epoch partition places
bytes_of (Missing epoch partition places) = 3 ∷ listed_bytes epoch partition places
bytes_of (All epoch partition) = 4 ∷ (u64_bytes epoch ++ u8_bytes partition)
bytes_of (Prepare epoch) = 5 ∷ u64_bytes epoch
bytes_of (Vote epoch vote) = 6 ∷ (u64_bytes epoch ++ flag_bytes vote)
bytes_of (Commit epoch) = 7 ∷ u64_bytes epoch
bytes_of (Finished epoch) = 8 ∷ u64_bytes epoch
bytes_of (Abort epoch) = 9 ∷ u64_bytes epoch
bytes_of (Query epoch) = 10 ∷ u64_bytes epoch
bytes_of (Tell epoch committed) = 11 ∷ (u64_bytes epoch ++ flag_bytes committed)

-- a place is above the one before it
abbrev pub RisesFrom : Option ℕ → ℕ → Type 0
RisesFrom None place = Unit {0}
RisesFrom (Some before) place = before < place

-- what a message must be so that it has bytes: places rise, and a count fits four bytes
abbrev pub AreListable : List ℕ → Type 0
AreListable places = (length places < 2 ^ 32) × FitInTurn RisesFrom None places

abbrev pub HasBytes : Message → Type 0
HasBytes (Ship epoch partition place time writes) = length writes < 2 ^ 32
HasBytes (Total epoch partition places) = AreListable places
HasBytes (Missing epoch partition places) = AreListable places
HasBytes _ = Unit {0}

-- a message whose numbers are those of its types too
abbrev pub IsPlace : Option ℕ → ℕ → Type 0
IsPlace before place = (place < 2 ^ 32) × RisesFrom before place

pub record IsWrite (w : Write) : Type 0 where
  pub key : IsKey w.key
  pub value : IsValue w.value

abbrev pub ArePlaces : List ℕ → Type 0
ArePlaces places = (length places < 2 ^ 32) × FitInTurn IsPlace None places

abbrev pub AreWrites : List Write → Type 0
AreWrites writes = (length writes < 2 ^ 32) × FitInTurn (λ _. IsWrite) None writes

abbrev pub IsMessage : Message → Type 0
IsMessage (Ship epoch partition place time writes) = (epoch < 2 ^ 64) × (partition < 2 ^ 8) × (place < 2 ^ 32) × (time < 2 ^ 64) × AreWrites writes
IsMessage (Total epoch partition places) = (epoch < 2 ^ 64) × (partition < 2 ^ 8) × ArePlaces places
IsMessage (Missing epoch partition places) = (epoch < 2 ^ 64) × (partition < 2 ^ 8) × ArePlaces places
IsMessage (All epoch partition) = (epoch < 2 ^ 64) × (partition < 2 ^ 8)
IsMessage (Prepare epoch) = epoch < 2 ^ 64
IsMessage (Vote epoch vote) = epoch < 2 ^ 64
IsMessage (Commit epoch) = epoch < 2 ^ 64
IsMessage (Finished epoch) = epoch < 2 ^ 64
IsMessage (Abort epoch) = epoch < 2 ^ 64
IsMessage (Query epoch) = epoch < 2 ^ 64
IsMessage (Tell epoch committed) = epoch < 2 ^ 64

abbrev pub epoch_of : Message → ℕ
epoch_of (Ship epoch partition place time writes) = epoch
epoch_of (Total epoch partition places) = epoch
epoch_of (Missing epoch partition places) = epoch
epoch_of (All epoch partition) = epoch
epoch_of (Prepare epoch) = epoch
epoch_of (Vote epoch vote) = epoch
epoch_of (Commit epoch) = epoch
epoch_of (Finished epoch) = epoch
epoch_of (Abort epoch) = epoch
epoch_of (Query epoch) = epoch
epoch_of (Tell epoch committed) = epoch
