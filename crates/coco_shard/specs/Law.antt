-- The law of a shard's journal: a look back through a finished list, from an opening map.
use Rattle.std.specs.Prelude.{◌≡◌, ℕ, if◌then◌else◌, max, List, [], ◌∷◌, ◌++◌, map, take, Option, None, Some}
use Rattle.std.specs.Option.{option_or, option_map, option_flatten, option_to_list, unwrap_or, is_some}
use Rattle.std.specs.List.{slice_get}
use Rattle.std.specs.BTreeMap.{is_at}
use Rattle.coco_types.specs.RowKey.{RowKey, key_cmp}
use Rattle.coco_types.specs.declared.value.Value.{Value}
use Rattle.coco_types.specs.declared.call.AttemptId.{AttemptId}
use Rattle.coco_shard.specs.declared.ops.Op.{Op}
use Rattle.coco_shard.specs.declared.ops.Op.TheVariants.{Extend, Install}
use Rattle.coco_shard.specs.declared.ops.Ask.{Ask}
use Rattle.coco_shard.specs.declared.ops.Answer.{Answer}
use Rattle.coco_shard.specs.declared.ops.Answer.TheVariants.{Locked, Extended, Installed, Released}
use Rattle.coco_shard.specs.RowState.{RowState, ShardState}
use Rattle.coco_shard.specs.Table.{key_of, answer_at, answer_in, after_ask}

-- a step: what was asked, and what was answered
pub record Entry : Type 0 where
  pub ask : Ask
  pub answer : Answer

-- ---- what an entry says of a key

abbrev pub where_on : {X : Type 0} → RowKey → Op → Option X → Option X
where_on k op found = if is_at (key_cmp k) (key_of op) then found else None

-- the time and the value that was installed
abbrev pub install_of : Op → Answer → Option (ℕ × Option Value)
install_of (Install key time value) Installed = Some (time, value)
install_of op answer = None

-- the time that a version was extended to
abbrev pub extension_of : Op → Answer → Option ℕ
extension_of (Extend key wts time) Extended = Some time
extension_of op answer = None

-- the mark that stands after an answer of one of the three kinds that set or clear it
abbrev pub mark_of : AttemptId → Answer → Option (Option AttemptId)
mark_of by (Locked wts rts) = Some (Some by)
mark_of by Installed = Some None
mark_of by Released = Some None
mark_of by answer = None

abbrev pub installed_by : RowKey → Entry → Option (ℕ × Option Value)
installed_by k e = where_on k e.ask.op (install_of e.ask.op e.answer)

abbrev pub extended_by : RowKey → Entry → Option ℕ
extended_by k e = where_on k e.ask.op (extension_of e.ask.op e.answer)

abbrev pub marked_by : RowKey → Entry → Option (Option AttemptId)
marked_by k e = where_on k e.ask.op (mark_of e.ask.by e.answer)

-- ---- what the entries say of a key

-- what the last entry says of which f finds something
abbrev pub last_found : {X : Type 0} → (Entry → Option X) → List Entry → Option X
last_found f [] = None
last_found f (e ∷ es) = option_or (last_found f es) (f e)

-- the times of the extensions of the key that no install on it follows
abbrev pub extensions_since : RowKey → List Entry → List ℕ
extensions_since k [] = []
extensions_since k (e ∷ es) = if is_some (last_found (installed_by k) es) then extensions_since k es else option_to_list (extended_by k e) ++ extensions_since k es

-- the greatest of n and the numbers
abbrev pub greatest : ℕ → List ℕ → ℕ
greatest n [] = n
greatest n (t ∷ ts) = max t (greatest n ts)

-- the time of the last install
abbrev pub write_time : RowKey → List Entry → ℕ
write_time k es = unwrap_or (option_map (λ p. p.0) (last_found (installed_by k) es)) 0

-- the greatest of the write time and the extensions since
abbrev pub read_time : RowKey → List Entry → ℕ
read_time k es = greatest (write_time k es) (extensions_since k es)

-- what the last install wrote, and before that what the opening map has
abbrev pub newest_value : (RowKey → Option Value) → RowKey → List Entry → Option Value
newest_value opening k es = unwrap_or (option_map (λ p. p.1) (last_found (installed_by k) es)) (opening k)

-- the asker of the last lock, unless an install or a release followed
abbrev pub standing_mark : RowKey → List Entry → Option AttemptId
standing_mark k es = option_flatten (last_found (marked_by k) es)

abbrev pub law_row : (RowKey → Option Value) → RowKey → List Entry → RowState
law_row opening k es = record {
  newest = newest_value opening k es;
  wts = write_time k es;
  rts = read_time k es;
  mark = standing_mark k es;
  stable = opening k;
}

-- each answer is the table's, by what the entries before it say
abbrev pub IsLawful : (RowKey → Option Value) → List Entry → Type 0
IsLawful opening journal = (place : ℕ) (e : Entry) → slice_get journal place ≡ Some e → e.answer ≡ answer_at (law_row opening (key_of e.ask.op) (take place journal)) e.ask.by e.ask.op

-- ---- runs of a shard

-- the state after these asks
abbrev pub after_asks : ShardState → List Ask → ShardState
after_asks s [] = s
after_asks s (a ∷ asks) = after_asks (after_ask s a) asks

abbrev pub asks_of : List Entry → List Ask
asks_of journal = map (λ (e : Entry). e.ask) journal

-- each answer is the shard's, in the state that the asks before it leave
abbrev pub IsAnswered : ShardState → List Entry → Type 0
IsAnswered s journal = (place : ℕ) (e : Entry) → slice_get journal place ≡ Some e → e.answer ≡ answer_in (after_asks s (asks_of (take place journal))) e.ask
