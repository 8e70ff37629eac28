-- What the command `query` does with the store in a host's files and with the bytes that its source gives, and what is seen of it.
use Rattle.std.specs.Prelude.{◌≡◌, ◌⊎◌, ⊤, ℕ, ◌≤◌, List, Option, Some}
use Rattle.coco_asks.specs.Answering.{HasCause, SaysAnswers, Streams}
use Rattle.coco_asks.specs.Asking.{Past, answers_from}
use Rattle.coco_asks.specs.declared.ending.Asked.{Asked}
use Rattle.coco_asks.specs.declared.ending.Asked.TheVariants as asked
use Rattle.coco_ast.specs.History.{History, last_epoch, map_of, up_to}
use Rattle.coco_host.specs.Files.{Files, NoMore}
use Rattle.coco_host.specs.Moments.{IsNew, Observation, SeesOnly}
use Rattle.coco_host.specs.declared.host.Host.{Ghosts as HostGhosts}
use Rattle.coco_ending.specs.declared.ending.Ending.{Ending}
use Rattle.coco_ending.specs.declared.ending.Ending.TheVariants as ending
use Rattle.coco_lines.specs.Reads.{Gives}
use Rattle.coco_log.specs.LogState.{IsOnlyRead}
use Rattle.coco_query.specs.declared.tables.TablesFault.{TablesFault}
use Rattle.coco_query.specs.declared.tables.TablesFault.TheVariants as fault
use Rattle.coco_serve.specs.Serving.{Outside}
use Rattle.coco_store.specs.Contents.{Contents, Holds, IsGoodStore, history_of}
use Rattle.coco_commands.specs.Opening.{IsUnopened}

-- how a call ends whose lines were answered up to this ending
abbrev pub ending_of_asking : Asked → Ending
ending_of_asking asked.Finished = ending.Finished
ending_of_asking asked.ReadFault = ending.ReadFault
ending_of_asking asked.SayFault = ending.SayFault
ending_of_asking asked.NoMemory = ending.NoMemory

-- how a call ends that finds no tables of this epoch
abbrev pub ending_of_tables : ℕ → TablesFault → Ending
ending_of_tables epoch (fault.NotIn first last) = ending.NotWithin epoch first last
ending_of_tables epoch fault.NoMemory = ending.NoMemory

-- what answering sees and changes of it
abbrev pub streams_of : Outside → Streams
streams_of o = record { source = o.source; source_faults = o.source_faults; say_faults = o.say_faults }

-- an epoch that a history may be asked of: its base's, its last one, or a number between them, committed or not
abbrev pub MayBeAsked : History → ℕ → Type 0
MayBeAsked h epoch = (h.base.epoch ≤ epoch) × (epoch ≤ last_epoch h)

-- a store as it was at the end of that epoch: the rows that the epochs up to it leave
abbrev pub past_at : Contents → ℕ → Past
past_at c epoch = record { procs = c.setting.tree; rows = map_of c.setting.tree (up_to epoch (history_of c)); epoch = epoch }

-- why an opened store isn't asked: the epoch is before the first or behind the last one, which are those that its contents say; or memory ran out
abbrev pub IsNotAsked : ℕ → Ending → Option Files → Type 0
IsNotAsked epoch (ending.NotWithin e first last) reads = (e ≡ epoch) × ¬ ((first ≤ epoch) × (epoch ≤ last))
    × ((files : Files) (c : Contents) → reads ≡ Some files → Holds files c → (first ≡ (history_of c).base.epoch) × (last ≡ last_epoch (history_of c)))
IsNotAsked epoch ending.NoMemory reads = ⊤
IsNotAsked epoch _ reads = ⊥

module _ {H : Type 0} (frame : HostGhosts H) where
  -- the store is opened and not asked: nothing is said, nothing is taken of the input, and no count of faults moves
  pub record LeavesUnasked (epoch : ℕ) (how : Ending) (before after : Outside) (old new : H) : Type 0 where
    pub read : IsOnlyRead frame old new
    pub holds : (files : Files) → frame.reads old ≡ Some files → (c : Contents) × Holds files c
    pub source : after.source ≡ before.source
    pub reading : after.source_faults ≡ before.source_faults
    pub stream : after.say_faults ≡ before.say_faults
    pub disk : after.disk_faults ≡ before.disk_faults
    pub around : after.around ≡ before.around
    pub cause : IsNotAsked epoch how (frame.reads old)

  -- the store is opened, and lines are answered. Only files that are a store are opened, and such files are never refused. Of a good store the answers are
  -- those by its rows at the end of the epoch. No file changes, and what is seen is what a crash might have left at entry, with a front of what is said
  pub record Asks (epoch : ℕ) (how : Ending) (before after : Outside) (old new : H) : Type 0 where
    pub opened : H
    pub opening : IsOnlyRead frame old opened
    pub holds : (files : Files) → frame.reads old ≡ Some files → (c : Contents) × Holds files c
    pub may : (files : Files) (c : Contents) → frame.reads old ≡ Some files → Holds files c → MayBeAsked (history_of c) epoch
    pub bytes : List ℕ
    pub gives : Gives before.source after.source bytes
    pub asked : Asked
    pub ends : how ≡ ending_of_asking asked
    pub cause : HasCause bytes (streams_of before) (streams_of after) asked
    pub disk : after.disk_faults ≡ before.disk_faults
    pub around : after.around ≡ before.around
    pub same : frame.reads new ≡ frame.reads old
    pub crash : NoMore (frame.may_leave opened) (frame.may_leave new)
    pub sees : SeesOnly frame.moment frame.observed opened new (IsNew (frame.may_leave opened) (frame.said opened) (frame.said new))
    pub says : (files : Files) (c : Contents) → frame.reads old ≡ Some files → IsGoodStore files c → SaysAnswers (answers_from (past_at c epoch) 1) bytes (frame.said old) (frame.said new) asked

  -- the store isn't opened, or it isn't asked, or it is
  abbrev pub Queries : ℕ → Ending → Outside → Outside → H → H → Type 0
  Queries epoch how before after old new =
      IsUnopened frame how before after old new ⊎ (LeavesUnasked epoch how before after old new ⊎ Asks epoch how before after old new)
