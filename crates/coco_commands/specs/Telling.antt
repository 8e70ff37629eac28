-- What the commands `dump` and `verify` say of a store. They only read its files.
use Rattle.std.specs.Prelude.{◌≡◌, ◌⊎◌, ⊤, ℕ, ◌≤◌, List, length, take, Option, Some}
use Rattle.std.specs.Io.KnownBytes.{append_known}
use Rattle.coco_host.specs.Files.{Files, NoMore}
use Rattle.coco_host.specs.Moments.{IsNew, Observation, SeesOnly}
use Rattle.coco_host.specs.declared.host.Host.{Ghosts as HostGhosts}
use Rattle.coco_io.specs.Counts.{Rose}
use Rattle.coco_ast.specs.History.{IsSerial, all_dones, epoch_dones}
use Rattle.coco_audit.specs.Differing.{IsFirstUnlike}
use Rattle.coco_audit.specs.Texts.{dump_text, not_serial_text, serial_text}
use Rattle.coco_audit.specs.declared.verify.NotSerial.{NotSerial}
use Rattle.coco_ending.specs.declared.ending.Ending.{Ending}
use Rattle.coco_ending.specs.declared.ending.Ending.TheVariants as ending
use Rattle.coco_log.specs.LogState.{IsOnlyRead}
use Rattle.coco_recover.specs.Opening.{HaveRows}
use Rattle.coco_commands.specs.Opening.{FailsToOpen}
use Rattle.coco_serve.specs.Faults.{Counts}
use Rattle.coco_store.specs.Contents.{Contents, Holds, history_of, map_in}

-- ---- what a store's contents say

-- their Dones in order of commit, and then their rows
abbrev pub dump_in : Contents → List ℕ
dump_in c = dump_text c.setting.tree (all_dones (history_of c)) (map_in c)

-- the line of a verdict, and the ending that goes with it: all replies are those of a serial run, or this Done's isn't, the first
abbrev pub IsVerdict : Contents → List ℕ → Ending → Type 0
IsVerdict c text ending.Finished = IsSerial c.setting.tree (history_of c) × (text ≡ serial_text (length (epoch_dones (history_of c))))
IsVerdict c text (ending.NotSerial place) = (found : NotSerial) × IsFirstUnlike c.setting.tree (history_of c).base.rows (epoch_dones (history_of c)) found
    × (place ≡ found.place) × (text ≡ not_serial_text found)
IsVerdict c text _ = ⊥

-- ---- how it is said

-- the whole text is said where the ending is its own; a front of it where the stream fails
abbrev pub SaysText : List ℕ → Ending → Ending → Option (List ℕ) → Option (List ℕ) → Counts → Counts → Type 0
SaysText text own ending.SayFault before now old new = Rose old.say new.say × ((k : ℕ) × (k ≤ length text) × (now ≡ append_known before (take k text)))
SaysText text own ending.NoMemory before now old new = (k : ℕ) × (k ≤ length text) × (now ≡ append_known before (take k text))
SaysText text own result before now old new = (new ≡ old) × (result ≡ own) × (now ≡ append_known before text)

abbrev pub IsDump : Contents → List ℕ → Ending → Type 0
IsDump c text own = text ≡ dump_in c

-- the endings of a call whose text is said whole
abbrev pub EndsDump : Ending → Type 0
EndsDump own = own ≡ ending.Finished

abbrev pub EndsVerdict : Ending → Type 0
EndsVerdict ending.Finished = ⊤
EndsVerdict (ending.NotSerial place) = ⊤
EndsVerdict _ = ⊥

module _ {H : Type 0} (frame : HostGhosts H) where
  -- a text is said whole, or its front, and no file changes
  pub record Says (text : List ℕ) (own ending : Ending) (before after : Counts) (old new : H) : Type 0 where
    pub says : SaysText text own ending (frame.said old) (frame.said new) before after
    pub same : frame.reads new ≡ frame.reads old
    pub crash : NoMore (frame.may_leave old) (frame.may_leave new)
    pub sees : SeesOnly frame.moment frame.observed old new (IsNew (frame.may_leave old) (frame.said old) (frame.said new))
    pub disk : after.disk ≡ before.disk

  -- the store isn't opened: nothing is said and no file changes
  pub record IsUntold (ending : Ending) (before after : Counts) (old new : H) : Type 0 where
    pub read : IsOnlyRead frame old new
    pub stream : after.say ≡ before.say
    pub cause : FailsToOpen ending (frame.reads old) before.disk after.disk

  -- the store is opened, and then this text is said of it. Only files that are a store are opened, and such files are never refused
  -- (`a_refused_store_is_none`): so `NotAStore` comes exactly where the files are none, at the first place, and neither a fault of the disk nor want of
  -- memory ended the opening. No file changes, and what is seen is what a crash might have left at entry, with a front of the text said
  pub record Tells (May : Contents → Type 0) (IsText : Contents → List ℕ → Ending → Type 0) (MayEnd : Ending → Type 0) (ending : Ending) (before after : Counts) (old new : H) : Type 0 where
    pub opened : H
    pub opening : IsOnlyRead frame old opened
    pub holds : (files : Files) → frame.reads old ≡ Some files → (c : Contents) × Holds files c
    pub same : frame.reads new ≡ frame.reads old
    pub crash : NoMore (frame.may_leave opened) (frame.may_leave new)
    pub sees : SeesOnly frame.moment frame.observed opened new (IsNew (frame.may_leave opened) (frame.said opened) (frame.said new))
    pub disk : after.disk ≡ before.disk
    pub text : List ℕ
    pub own : Ending
    pub ends : MayEnd own
    pub says : SaysText text own ending (frame.said old) (frame.said new) before after
    pub of_store : (files : Files) (c : Contents) → frame.reads old ≡ Some files → Holds files c → May c → IsText c text own

  -- `dump`, of a store whose nodes have the history's rows
  abbrev pub Dumps : Ending → Counts → Counts → H → H → Type 0
  Dumps ending before after old new = IsUntold ending before after old new ⊎ Tells HaveRows IsDump EndsDump ending before after old new

  -- `verify`, of any store
  abbrev pub Verifies : Ending → Counts → Counts → H → H → Type 0
  Verifies ending before after old new = IsUntold ending before after old new ⊎ Tells (λ c. ⊤) IsVerdict EndsVerdict ending before after old new
