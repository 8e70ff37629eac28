-- What is told of a store behind its opening.
use Rattle.std.proofs.Common.{◌≡◌, ℕ, List, Option, Some, subst, ◌∙◌}
use Rattle.coco_host.specs.Files.{Files, NoMore}
use Rattle.coco_host.specs.Moments.{IsNew, Observation, SeesOnly}
use Rattle.coco_host.specs.declared.host.Host.{Ghosts as HostGhosts}
use Rattle.coco_log.specs.LogState.{IsOnlyRead}
use Rattle.coco_ending.specs.declared.ending.Ending.{Ending}
use Rattle.coco_serve.specs.Faults.{Counts}
use Rattle.coco_store.specs.Contents.{Contents, Holds}
use Rattle.coco_commands.specs.Telling.{SaysText, Tells}

-- what is said since a moment at which no more was said, and no count had moved, is said since the moment before
says_since : (text : List ℕ) (own how : Ending) (before mid now : Option (List ℕ)) (say disk mid_say mid_disk : ℕ) (new : Counts) → mid ≡ before → mid_say ≡ say → mid_disk ≡ disk
    → SaysText text own how mid now (record { say = mid_say; disk = mid_disk }) new → SaysText text own how before now (record { say = say; disk = disk }) new
says_since text own how before mid now say disk mid_say mid_disk new quiet same_say same_disk says =
    subst (λ (o : Option (List ℕ)). SaysText text own how o now (record { say = say; disk = disk }) new) quiet
    (subst (λ (n : ℕ). SaysText text own how mid now (record { say = n; disk = disk }) new) same_say
    (subst (λ (n : ℕ). SaysText text own how mid now (record { say = mid_say; disk = n }) new) same_disk says))

module _ {H : Type 0} (frame : HostGhosts H)
    (say_faults disk_faults : H → ℕ) (May : Contents → Type 0) (IsText : Contents → List ℕ → Ending → Type 0) (MayEnd : Ending → Type 0) where
  abbrev counts : H → Counts
  counts host = record { say = say_faults host; disk = disk_faults host }

  module _ (old opened : H) (opening : IsOnlyRead frame old opened) (stream : say_faults opened ≡ say_faults old) (disk : disk_faults opened ≡ disk_faults old)
      (holds : (files : Files) → frame.reads old ≡ Some files → (c : Contents) × Holds files c) (text : List ℕ) (own : Ending) (ends : MayEnd own) (of_store : (files : Files) (c : Contents) → frame.reads old ≡ Some files → Holds files c → May c → IsText c text own) where
    -- a text of the opened store is said
    pub tells : (how : Ending) (new : H) → SaysText text own how (frame.said opened) (frame.said new) (counts opened) (counts new) → frame.reads new ≡ frame.reads opened → NoMore (frame.may_leave opened) (frame.may_leave new)
        → SeesOnly frame.moment frame.observed opened new (IsNew (frame.may_leave opened) (frame.said opened) (frame.said new)) → disk_faults new ≡ disk_faults opened
        → Tells frame May IsText MayEnd how (counts old) (counts new) old new
    tells how new says same crash sees still = record {
      opened = opened;
      opening = opening;
      holds = holds;
      same = same ∙ opening.same;
      crash = crash;
      sees = sees;
      disk = still ∙ disk;
      text = text;
      own = own;
      ends = ends;
      says = says_since text own how (frame.said old) (frame.said opened) (frame.said new) (say_faults old) (disk_faults old) (say_faults opened) (disk_faults opened) (counts new) opening.quiet stream disk says;
      of_store = of_store;
    }
