-- What a kept reply is, as contracts see it.
use Rattle.coco_types.specs.declared.kept_reply.Kind.{Kind}
use Rattle.coco_types.specs.declared.kept_reply.Kind.TheVariants as kept
use Rattle.coco_types.specs.declared.call.Reply.{Reply}
use Rattle.coco_types.specs.declared.call.Reply.TheVariants as reply

-- the reply that is kept so
abbrev pub reply_of : Kind → Reply
reply_of (kept.Ok value) = reply.Ok value
reply_of (kept.Refused cause) = reply.Refused cause
