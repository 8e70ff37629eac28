-- What the steps on one key say, and the three lemmas on one key.
use Rattle.std.specs.Prelude.{◌≡◌, ◌⊎◌, ℕ, ◌<◌, ◌≤◌, Bool, ◌==◌, ◌&&◌, if◌then◌else◌, List, [], ◌∷◌, ◌++◌, Option, None, Some}
use Rattle.std.specs.Option.{unwrap_or}
use Rattle.std.specs.List.{filter}
use Rattle.coco_types.specs.RowKey.{RowKey}
use Rattle.coco_types.specs.declared.value.Value.{Value}
use Rattle.coco_types.specs.declared.call.AttemptId.{AttemptId}
use Rattle.coco_shard.specs.declared.ops.Op.{Op}
use Rattle.coco_shard.specs.declared.ops.Op.TheVariants.{Read, Lock, Extend, Install, Release, Past}
use Rattle.coco_shard.specs.declared.ops.Answer.{Answer}
use Rattle.coco_shard.specs.declared.ops.Answer.TheVariants.{Got, Locked, Marked, Changed, Extended, Installed, Released, NotMine, Stood}
use Rattle.coco_shard.specs.RowState.{RowState}
use Rattle.std.specs.BTreeMap.{is_at}
use Rattle.coco_types.specs.RowKey.{key_cmp}
use Rattle.coco_shard.specs.Table.{key_of, answer_at, left_by}
use Rattle.coco_shard.specs.Law.{Entry, IsLawful, law_row, read_time, standing_mark}

-- one of the items of a list
abbrev pub Among : {X : Type 0} → List X → X → Type 0
Among [] x = ⊥
Among (y ∷ ys) x = (y ≡ x) ⊎ Among ys x

abbrev pub is_attempt : AttemptId → AttemptId → Bool
is_attempt a b = (a.worker == b.worker) && (a.number == b.number)

-- the steps of one attempt
abbrev pub own : AttemptId → List Entry → List Entry
own a = filter (λ e. is_attempt e.ask.by a)

-- the steps on one key
abbrev pub on : RowKey → List Entry → List Entry
on k = filter (λ e. is_at (key_cmp k) (key_of e.ask.op))

-- ---- the row along the steps on its key

abbrev pub left : Entry → RowState → RowState
left e row = unwrap_or (left_by e.answer e.ask.by e.ask.op row) row

abbrev pub walk : RowState → List Entry → RowState
walk row [] = row
walk row (e ∷ es) = walk (left e row) es

-- each answer is the table's, at the row that the steps before it left
abbrev pub AreTold : RowState → List Entry → Type 0
AreTold row [] = Unit {0}
AreTold row (e ∷ es) = (e.answer ≡ answer_at row e.ask.by e.ask.op) × AreTold (left e row) es

-- ---- an attempt along its own steps on a key

-- what a lock showed, while its mark stands: the row's write time and read time
abbrev pub Shown : Type 0
Shown = Option (ℕ × ℕ)

abbrev pub holds_after : Shown → Op → Answer → Shown
holds_after h (Lock key) (Locked wts rts) = Some (wts, rts)
holds_after h (Install key time value) answer = None
holds_after h (Release key) answer = None
holds_after h op answer = h

-- it locks once, extends a key that it hasn't locked, installs and releases what it locked, and installs at a time above the shown read time
abbrev pub May : Shown → Op → Answer → Type 0
May h (Lock key) (Locked wts rts) = h ≡ None
May h (Extend key wts time) answer = h ≡ None
May h (Install key time value) answer = (shown : ℕ × ℕ) × (h ≡ Some shown) × (shown.1 < time)
May h (Release key) answer = (shown : ℕ × ℕ) × (h ≡ Some shown)
May h op answer = Unit {0}

abbrev pub holds_at : Shown → List Entry → Shown
holds_at h [] = h
holds_at h (e ∷ es) = holds_at (holds_after h e.ask.op e.answer) es

abbrev pub MayAll : Shown → List Entry → Type 0
MayAll h [] = Unit {0}
MayAll h (e ∷ es) = May h e.ask.op e.answer × MayAll (holds_after h e.ask.op e.answer) es

-- and at its end it holds nothing
pub record IsTidy (es : List Entry) : Type 0 where
  pub steps : MayAll None es
  pub ends : holds_at None es ≡ None

-- ---- what was installed

-- the entry installed this value at this time
abbrev pub Installs : Entry → ℕ → Option Value → Type 0
Installs e time value = (key : RowKey) × (e.ask.op ≡ Install key time value) × (e.answer ≡ Installed)

-- the value is that of the last install below the time, or the opening one where there is none
abbrev pub IsLastBelow : Option Value → List Entry → ℕ → Option Value → Type 0
IsLastBelow opening es time value =
    ((value ≡ opening) × ((e : Entry) (t : ℕ) (v : Option Value) → Among es e → Installs e t v → t < time → ⊥))
    ⊎ ((last : Entry) × (at : ℕ) × Among es last × Installs last at value × (at < time) × ((e : Entry) (t : ℕ) (v : Option Value) → Among es e → Installs e t v → t < time → t ≤ at))

-- ---- the lemmas

-- a journal from an opening map, in which every attempt's steps on the key are tidy
pub record IsOrderly (opening : RowKey → Option Value) (k : RowKey) (journal : List Entry) : Type 0 where
  pub lawful : IsLawful opening journal
  pub tidy : (a : AttemptId) → IsTidy (own a (on k journal))

-- an install and a release are answered as such
abbrev pub IsMine : Op → Answer → Type 0
IsMine (Install key time value) answer = answer ≡ Installed
IsMine (Release key) answer = answer ≡ Released
IsMine op answer = Unit {0}

-- a mark belongs to the attempt that locked, and none stands at the end
pub record MarksAreOwn (k : RowKey) (journal : List Entry) : Type 0 where
  pub mine : (e : Entry) → Among (on k journal) e → IsMine e.ask.op e.answer
  pub none_stands : standing_mark k journal ≡ None

-- each install is at a time above the read time that stood before it
abbrev pub WriteTimesRise : RowKey → List Entry → Type 0
WriteTimesRise k journal = (before after : List Entry) (e : Entry) (time : ℕ) (value : Option Value) → journal ≡ before ++ e ∷ after → Among (on k (e ∷ [])) e → Installs e time value → read_time k before < time

abbrev pub step : AttemptId → Op → Answer → Entry
step by op answer = record { ask = record { by = by; op = op }; answer = answer }

-- how an attempt with this time has read a key: the read time reached it, or it extended the version, or it locked and installed over it
abbrev pub Validates : AttemptId → ℕ → Option Value → List Entry → Type 0
Validates a time value steps =
    ((key : RowKey) × (wts : ℕ) × (rts : ℕ) × (wts < time) × (time ≤ rts) × (steps ≡ step a (Read key) (Got wts rts value) ∷ []))
    ⊎ (((key : RowKey) × (wts : ℕ) × (rts : ℕ) × (wts < time) × (steps ≡ step a (Read key) (Got wts rts value) ∷ step a (Extend key wts time) Extended ∷ []))
    ⊎ ((key : RowKey) × (wts : ℕ) × (rts : ℕ) × (shown : ℕ) × (new : Option Value) × (answer : Answer) × (wts < time) × (steps ≡ step a (Read key) (Got wts rts value) ∷ step a (Lock key) (Locked wts shown) ∷ step a (Install key time new) answer ∷ [])))

-- a validated read finds the last install below its time, and no other attempt installs at that time
pub record ReadsTheLast (opening : Option Value) (a : AttemptId) (time : ℕ) (value : Option Value) (steps : List Entry) : Type 0 where
  pub last : IsLastBelow opening steps time value
  pub alone : (e : Entry) (v : Option Value) → Among steps e → Installs e time v → e.ask.by ≡ a

abbrev pub ValidatedReadsAreLast : (RowKey → Option Value) → RowKey → List Entry → Type 0
ValidatedReadsAreLast opening k journal = (a : AttemptId) (time : ℕ) (value : Option Value) → Validates a time value (own a (on k journal)) → ReadsTheLast (opening k) a time value (on k journal)

-- of every lawful journal in which the attempts are tidy on the key
abbrev pub OnEachKey : ((RowKey → Option Value) → RowKey → List Entry → Type 0) → Type 0
OnEachKey P = (opening : RowKey → Option Value) (k : RowKey) (journal : List Entry) → IsOrderly opening k journal → P opening k journal
