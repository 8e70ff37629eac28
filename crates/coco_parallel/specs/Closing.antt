-- Desks whose rows of passes are back.
use Rattle.std.specs.Prelude.{◌≡◌, ℕ, ◌<◌, List, length, slice_index_or, vec_len}
use Rattle.std.specs.Global.{Vec}
use Rattle.coco_desks.specs.Desks.{AreDealt, AreEmpty, HasRoom}
use Rattle.coco_desks.specs.Gains.{AreSame}
use Rattle.coco_journaled.specs.declared.entry.Entry.{Entry}
use Rattle.coco_journaled.specs.Passes.{Passing}
use Rattle.coco_seen.specs.Notes.{Lock}

module _ {M Q A : Type 0} where
  -- as many rows, with the same passes, whatever these did
  pub record AreStill (before after : List (Vec (Passing M Q A))) : Type 0 where
    pub count : length after ≡ length before
    pub same : (n : ℕ) (d : Vec (Passing M Q A)) → n < length before → AreSame (slice_index_or before n d).items (slice_index_or after n d).items

  -- the rows that were dealt are back, and there is room for what the locks of these machines leave
  pub record HasAllBack (locks : Vec Lock) (trays back : Vec (Vec (Passing M Q A))) (last : Vec M) (journals : Vec (List (Entry Q A))) : Type 0 where
    pub workers : ℕ
    pub machines : List M
    pub rows : List (Vec (Passing M Q A))
    pub dealt : AreDealt workers machines locks.items rows
    pub still : AreStill rows back.items
    pub empty : AreEmpty workers trays.items
    pub trays_are : vec_len trays ≡ length machines
    pub last_room : HasRoom (length machines) last
    pub journals_room : HasRoom (length machines) journals
