-- The table of the six operations: what each answers at a row, and what it makes of the row.
use Rattle.std.specs.Prelude.{ℕ, Bool, true, false, ◌==◌, ◌&&◌, max, Option, None, Some, if◌then◌else◌}
use Rattle.coco_types.specs.RowKey.{RowKey}
use Rattle.coco_types.specs.declared.value.Value.{Value}
use Rattle.coco_types.specs.declared.call.AttemptId.{AttemptId}
use Rattle.coco_shard.specs.declared.ops.Op.{Op}
use Rattle.coco_shard.specs.declared.ops.Op.TheVariants.{Read, Lock, Extend, Install, Release, Past}
use Rattle.coco_shard.specs.declared.ops.Ask.{Ask}
use Rattle.coco_shard.specs.declared.ops.Answer.{Answer}
use Rattle.coco_shard.specs.declared.ops.Answer.TheVariants.{Got, Locked, Marked, Changed, Extended, Installed, Released, NotMine, Stood}
use Rattle.coco_shard.specs.RowState.{RowState, ShardState, row_at, with_row}

-- the key that an operation is on
abbrev pub key_of : Op → RowKey
key_of (Read key) = key
key_of (Lock key) = key
key_of (Extend key wts time) = key
key_of (Install key time value) = key
key_of (Release key) = key
key_of (Past key) = key

-- whether the mark is this attempt's
abbrev pub is_mark_of : AttemptId → Option AttemptId → Bool
is_mark_of by None = false
is_mark_of by (Some holder) = (holder.worker == by.worker) && (holder.number == by.number)

-- the answer, unless another attempt's mark stands
abbrev pub unless_marked : Option AttemptId → AttemptId → Answer → Answer
unless_marked None by answer = answer
unless_marked (Some holder) by answer = if is_mark_of by (Some holder) then answer else Marked holder

-- the answer, where the mark is the asker's
abbrev pub where_mine : Option AttemptId → AttemptId → Answer → Answer
where_mine mark by answer = if is_mark_of by mark then answer else NotMine mark

abbrev pub answer_at : RowState → AttemptId → Op → Answer
answer_at row by (Read key) = Got row.wts row.rts row.newest
answer_at row by (Lock key) = unless_marked row.mark by (Locked row.wts row.rts)
answer_at row by (Extend key wts time) = if row.wts == wts then unless_marked row.mark by Extended else Changed row.wts
answer_at row by (Install key time value) = where_mine row.mark by Installed
answer_at row by (Release key) = where_mine row.mark by Released
answer_at row by (Past key) = Stood row.stable

abbrev pub extended : ℕ → RowState → RowState
extended time row = record row { rts = max row.rts time }

abbrev pub installed : ℕ → Option Value → RowState → RowState
installed time value row = record { newest = value; wts = time; rts = time; mark = None; stable = row.stable }

-- the row that an answer leaves, which is made where there was none; none where no row is touched
abbrev pub left_by : Answer → AttemptId → Op → RowState → Option RowState
left_by (Got wts rts value) by op row = Some row
left_by (Locked wts rts) by op row = Some (record row { mark = Some by })
left_by Extended by (Extend key wts time) row = Some (extended time row)
left_by Installed by (Install key time value) row = Some (installed time value row)
left_by Released by op row = Some (record row { mark = None })
left_by answer by op row = None

abbrev pub answer_in : ShardState → Ask → Answer
answer_in s ask = answer_at (row_at s (key_of ask.op)) ask.by ask.op

abbrev pub after_ask : ShardState → Ask → ShardState
after_ask s ask =
    let row = row_at s (key_of ask.op) in
    with_row s (key_of ask.op) (left_by (answer_at row ask.by ask.op) ask.by ask.op row)

-- whether the operation makes a row where there is none
abbrev pub may_make_row : Op → Bool
may_make_row (Read key) = true
may_make_row (Lock key) = true
may_make_row (Extend key wts time) = true
may_make_row (Install key time value) = false
may_make_row (Release key) = false
may_make_row (Past key) = false

-- whether an answer leaves a row under the key
abbrev pub leaves_row : Answer → Bool
leaves_row (Got wts rts value) = true
leaves_row (Locked wts rts) = true
leaves_row Extended = true
leaves_row Installed = true
leaves_row Released = true
leaves_row (Marked holder) = false
leaves_row (Changed wts) = false
leaves_row (NotMine mark) = false
leaves_row (Stood value) = false
