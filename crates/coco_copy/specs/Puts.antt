-- What a put is answered, and what it makes of the table.
use Rattle.std.specs.Prelude.{◌≡◌, ℕ, ◌==◌, nat_le, List, [], ◌∷◌, Option, None, Some, if◌then◌else◌, ◌⊎◌}
use Rattle.std.specs.FinMap.{get, insert}
use Rattle.coco_types.specs.RowKey.{RowKey}
use Rattle.coco_types.specs.Packing.{IsText}
use Rattle.coco_types.specs.declared.value.Value.{Value}
use Rattle.coco_copy.specs.declared.ops.CopyAsk.{CopyAsk}
use Rattle.coco_copy.specs.declared.ops.CopyAsk.TheVariants.{Put}
use Rattle.coco_copy.specs.declared.ops.CopyAnswer.{CopyAnswer}
use Rattle.coco_copy.specs.declared.ops.CopyAnswer.TheVariants.{Applied, Older, OtherEpoch}
use Rattle.coco_copy.specs.CopyState.{CopyState}

-- the put of this value under this key
abbrev pub put_at : ℕ → ℕ → RowKey → Option Value → CopyAsk
put_at epoch time key value = Put epoch time (record { key = key; value = value })

abbrev pub key_of : CopyAsk → RowKey
key_of (Put epoch time write) = write.key

abbrev pub value_of : CopyAsk → Option Value
value_of (Put epoch time write) = write.value

abbrev pub epoch_of : CopyAsk → ℕ
epoch_of (Put epoch time write) = epoch

-- by the time: an equal or greater one that pends keeps its place
abbrev pub by_time : Option (ℕ × Option Value) → ℕ → CopyAnswer
by_time None time = Applied
by_time (Some p) time = if nat_le time p.0 then Older p.0 else Applied

-- the answer, by the current epoch and by what pends for the key
abbrev pub answer_by : ℕ → Option (ℕ × Option Value) → CopyAsk → CopyAnswer
answer_by current pending (Put epoch time write) = if epoch == current then by_time pending time else OtherEpoch current

abbrev pub answer_in : CopyState → CopyAsk → CopyAnswer
answer_in s ask = answer_by s.epoch (get s.pending (key_of ask)) ask

-- a put that was applied pends for its key; any other changes nothing
abbrev pub left_by : CopyAnswer → CopyAsk → CopyState → CopyState
left_by Applied (Put epoch time write) s = record s { pending = insert s.pending write.key (time, write.value) }
left_by (Older time) ask s = s
left_by (OtherEpoch current) ask s = s

abbrev pub after_ask : CopyState → CopyAsk → CopyState
after_ask s ask = left_by (answer_in s ask) ask s

abbrev pub after_asks : CopyState → List CopyAsk → CopyState
after_asks s [] = s
after_asks s (ask ∷ asks) = after_asks (after_ask s ask) asks

-- the key has no value, and nothing pends for it
abbrev pub HasNothing : CopyState → RowKey → Type 0
HasNothing s k = (get s.stable k ≡ None) × (get s.pending k ≡ None)

-- what takes memory to keep under a key: any value where the key has nothing, and elsewhere a text
abbrev pub TakesMemory : CopyState → RowKey → Option Value → Type 0
TakesMemory s k value = HasNothing s k ⊎ IsText value
