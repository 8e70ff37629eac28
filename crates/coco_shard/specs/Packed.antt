-- What is kept packed, as contracts see it.
use Rattle.std.specs.Prelude.{Some, None}
use Rattle.coco_types.specs.declared.value.Value.TheVariants.{Int, Text}
use Rattle.coco_shard.specs.declared.ops.Ask.{Ask}
use Rattle.coco_shard.specs.declared.ops.Op.{Op}
use Rattle.coco_shard.specs.declared.ops.Op.TheVariants.{Read, Lock, Extend, Install, Release, Past}
use Rattle.coco_shard.specs.declared.ops.Answer.{Answer}
use Rattle.coco_shard.specs.declared.ops.Answer.TheVariants.{Got, Locked, Marked, Changed, Extended, Installed, Released, NotMine, Stood}
use Rattle.coco_shard.specs.declared.packed.PackedOp.{PackedOp}
use Rattle.coco_shard.specs.declared.packed.PackedOp.TheVariants as op
use Rattle.coco_shard.specs.declared.packed.PackedAsk.{PackedAsk}
use Rattle.coco_shard.specs.declared.packed.PackedAnswer.{PackedAnswer}
use Rattle.coco_shard.specs.declared.packed.PackedAnswer.TheVariants as answer

abbrev pub op_of : PackedOp → Op
op_of (op.Read key) = Read key
op_of (op.Lock key) = Lock key
op_of (op.Extend key wts time) = Extend key wts time
op_of (op.InstallNone key time) = Install key time None
op_of (op.InstallInt key time number) = Install key time (Some (Int number))
op_of (op.InstallText key time text) = Install key time (Some (Text text.value))
op_of (op.Release key) = Release key
op_of (op.Past key) = Past key

abbrev pub ask_of : PackedAsk → Ask
ask_of a = record { by = a.by; op = op_of a.op }

abbrev pub answer_of : PackedAnswer → Answer
answer_of (answer.GotNone wts rts) = Got wts rts None
answer_of (answer.GotInt wts rts number) = Got wts rts (Some (Int number))
answer_of (answer.GotText wts rts text) = Got wts rts (Some (Text text.value))
answer_of (answer.Locked wts rts) = Locked wts rts
answer_of (answer.Marked holder) = Marked holder
answer_of (answer.Changed wts) = Changed wts
answer_of answer.Extended = Extended
answer_of answer.Installed = Installed
answer_of answer.Released = Released
answer_of (answer.NotMine mark) = NotMine mark
answer_of answer.StoodNone = Stood None
answer_of (answer.StoodInt number) = Stood (Some (Int number))
answer_of (answer.StoodText text) = Stood (Some (Text text.value))
