-- Attempts that take turns at shards, read off the finished list of their turns.
use Rattle.std.specs.Prelude.{◌≡◌, ⊤, ℕ, ◌≤◌, ◌⊎◌, Bool, true, false, nat_eq, List, [], ◌∷◌, ◌++◌, map, slice_get, slice_set, Option, None, Some}
use Rattle.std.specs.List.{filter, filter_map}
use Rattle.coco_types.specs.declared.call.Write.{Write}
use Rattle.coco_ast.specs.Tree.{Procedures}
use Rattle.coco_shard.specs.Law.{Entry, IsAnswered, IsLawful, after_asks, asks_of}
use Rattle.coco_shard.specs.RowState.{ShardState, IsSettled, stable_at}
use Rattle.coco_shard.specs.Table.{after_ask, answer_in}
use Rattle.coco_shard.specs.declared.ops.Ask.{Ask}
use Rattle.coco_shard.specs.declared.ops.Answer.{Answer}
use Rattle.coco_occ.specs.Steps.{at_shard}
use Rattle.coco_occ.specs.Trying.{Standing, Ready, Waits, Ended, Trying, IsSound, answered, has_ended}
use Rattle.coco_occ.specs.declared.script.Step.{Step}
use Rattle.coco_occ.specs.declared.outcome.Move.{Move}
use Rattle.coco_occ.specs.declared.outcome.Move.TheVariants as move
use Rattle.coco_occ.specs.declared.outcome.Outcome.{Outcome}
use Rattle.coco_occ.specs.declared.outcome.Outcome.TheVariants.{Committed, Conflict, OverTime}

-- ---- turns

-- in its turn an attempt makes a step, or ends, or rests since it has ended
pub data Act : Type 0 where
  Steps : Step → Act
  Ends : Outcome → List Write → Act
  Rests : Act

-- the place of an attempt, and what it does
pub record Turn : Type 0 where
  pub who : ℕ
  pub act : Act

-- what one attempt does in its turns, and what all of them do
abbrev pub acts_of : ℕ → List Turn → List Act
acts_of who turns = map (λ t. t.act) (filter (λ t. nat_eq t.who who) turns)

abbrev pub acts : List Turn → List Act
acts turns = map (λ t. t.act) turns

-- ---- moves

abbrev pub end_move : Outcome → Move
end_move (Committed time reply) = move.Committed time reply
end_move (Conflict why) = move.Conflict why
end_move OverTime = move.OverTime

abbrev pub move_in : Act → Option Move
move_in (Steps s) = Some (move.Ask s.shard s.ask)
move_in (Ends outcome writes) = Some (end_move outcome)
move_in Rests = None

abbrev pub told : ℕ → Option Move → Option (ℕ × Move)
told who None = None
told who (Some m) = Some (who, m)

-- the moves of these turns, each with whose it is
abbrev pub moves_of : List Turn → List (ℕ × Move)
moves_of turns = filter_map (λ t. told t.who (move_in t.act)) turns

-- ---- what becomes of an attempt

abbrev pub step_in : Act → Option Step
step_in (Steps s) = Some s
step_in (Ends outcome writes) = None
step_in Rests = None

abbrev pub steps_in : List Act → List Step
steps_in acts = filter_map step_in acts

abbrev pub standing_behind : Standing → Act → Standing
standing_behind s (Steps step) = Ready
standing_behind s (Ends outcome writes) = Ended outcome writes
standing_behind s Rests = s

abbrev pub standing_after : Standing → List Act → Standing
standing_after s [] = s
standing_after s (a ∷ more) = standing_after (standing_behind s a) more

abbrev pub rests : Act → Bool
rests (Steps s) = false
rests (Ends outcome writes) = false
rests Rests = true

-- it rests exactly where it has ended
abbrev pub RestOnceEnded : Standing → List Act → Type 0
RestOnceEnded s [] = ⊤
RestOnceEnded s (a ∷ more) = (rests a ≡ has_ended s) × RestOnceEnded (standing_behind s a) more

-- Its steps stand behind its script; and where it was sound it still is.
pub record Plays (before after : Trying) (acts : List Act) : Type 0 where
  pub turns : RestOnceEnded before.standing acts
  pub left : after ≡ record before { script = before.script ++ steps_in acts; standing = standing_after before.standing acts }
  pub sound : IsSound before → IsSound after

-- ---- what becomes of a shard

-- the steps at a shard, of all attempts
abbrev pub journal_at : ℕ → List Turn → List Entry
journal_at shard turns = at_shard shard (steps_in (acts turns))

-- It answered these, one after another. From rest on they are a lawful journal.
pub record Serves (before after : ShardState) (journal : List Entry) : Type 0 where
  pub answered : IsAnswered before journal
  pub left : after ≡ after_asks before (asks_of journal)
  pub lawful : IsSettled before → IsLawful (stable_at before) journal

-- ---- one turn

-- the asked shard answers and changes by the table, and no other does
abbrev pub IsServed : List ShardState → List ShardState → Act → Type 0
IsServed shards served (Steps step) = (s : ShardState) × (slice_get shards step.shard ≡ Some s) × (step.answer ≡ answer_in s step.ask) × (served ≡ slice_set shards step.shard (after_ask s step.ask))
IsServed shards served (Ends outcome writes) = served ≡ shards
IsServed shards served Rests = served ≡ shards

-- the attempt has the shard's answer
pub record IsBrought (shards served : List ShardState) (before after : Trying) (shard : ℕ) (ask : Ask) : Type 0 where
  pub answer : Answer
  pub took : after ≡ record before { script = answered before shard ask answer; standing = Ready }
  pub sound : IsSound after
  pub is_served : IsServed shards served (Steps (record { shard = shard; ask = ask; answer = answer }))

pub record TakesTurn (shards served : List ShardState) (before after : Trying) (act : Act) : Type 0 where
  pub plays : Plays before after (act ∷ [])
  pub is_served : IsServed shards served act

-- ---- all of them

pub record IsInterleaving (order : List ℕ) (turns : List Turn) (shards served : List ShardState) (attempts played : List Trying) : Type 0 where
  pub numbers : map (λ t. t.who) turns ≡ order
  pub serves : (shard : ℕ) (s : ShardState) → slice_get shards shard ≡ Some s → (t : ShardState) × (slice_get served shard ≡ Some t) × Serves s t (journal_at shard turns)
  pub plays : (who : ℕ) (a : Trying) → slice_get attempts who ≡ Some a → (b : Trying) × (slice_get played who ≡ Some b) × Plays a b (acts_of who turns)

-- ---- which attempts may take turns

abbrev pub WaitsForNone : Standing → Type 0
WaitsForNone Ready = ⊤
WaitsForNone (Waits shard ask) = ⊥
WaitsForNone (Ended outcome writes) = ⊤

-- an attempt at a call of these procedures on so many shards, that waits for no answer
pub record MayPlay (procs : Procedures) (shards : ℕ) (a : Trying) : Type 0 where
  pub some_shards : 1 ≤ shards
  pub procs_are : a.procs ≡ procs
  pub partitions_are : a.partitions ≡ shards
  pub free : WaitsForNone a.standing

-- ---- out of memory

-- the shard may have answered
abbrev pub MayBeAsked : List ShardState → List ShardState → ℕ → Ask → Type 0
MayBeAsked shards served shard ask = (served ≡ shards) ⊎ ((s : ShardState) × (slice_get shards shard ≡ Some s) × (served ≡ slice_set shards shard (after_ask s ask)))

-- it asked what the rules ask next, and takes no answer
pub record BreaksOff (shards served : List ShardState) (before after : Trying) : Type 0 where
  pub shard : ℕ
  pub ask : Ask
  pub asks : after ≡ record before { standing = Waits shard ask }
  pub sound : IsSound after
  pub may_be_asked : MayBeAsked shards served shard ask

-- nothing more, or a turn that breaks off
abbrev pub MayBreakOff : List ShardState → List ShardState → List Trying → List Trying → Type 0
MayBreakOff shards served attempts played =
    ((served ≡ shards) × (played ≡ attempts))
    ⊎ ((who : ℕ) × (a b : Trying) × (slice_get attempts who ≡ Some a) × (played ≡ slice_set attempts who b) × BreaksOff shards served a b)

-- the turns of the first numbers
pub record StopsShort (order : List ℕ) (shards served : List ShardState) (attempts played : List Trying) : Type 0 where
  pub turns : List Turn
  pub first : List ℕ
  pub unmoved : List ℕ
  pub split : order ≡ first ++ unmoved
  pub shards_then : List ShardState
  pub attempts_then : List Trying
  pub so_far : IsInterleaving first turns shards shards_then attempts attempts_then
  pub rest : MayBreakOff shards_then served attempts_then played
