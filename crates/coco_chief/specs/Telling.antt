-- The message that a word is.
use Rattle.std.specs.Prelude.{ℕ}
use Rattle.coco_msg.specs.declared.message.Message.{Message}
use Rattle.coco_msg.specs.declared.message.Message.TheVariants as messages
use Rattle.coco_chief.specs.declared.telling.Word.{Word}
use Rattle.coco_chief.specs.declared.telling.Word.TheVariants.{Prepare, Commit, Abort}

abbrev pub said : Word → ℕ → Message
said Prepare e = messages.Prepare e
said Commit e = messages.Commit e
said Abort e = messages.Abort e
