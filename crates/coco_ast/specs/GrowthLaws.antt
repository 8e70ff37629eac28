-- What a history has of the one that it grew from.
use Rattle.std.specs.Prelude.{◌≡◌, ℕ, ◌<◌, List, ◌++◌, None, Some}
use Rattle.std.specs.List.{AllByRecursion}
use Rattle.coco_types.specs.declared.call.Done.{Done}
use Rattle.coco_types.specs.declared.call.Request.{Request}
use Rattle.coco_ast.specs.Growth.{AreNew, GrowsByAll, IsEpochOf}
use Rattle.coco_ast.specs.History.{History, Epoch, AreTimed, IsOrdered, IsPrefixOf, IsSerial, RepliesAreRuns, all_dones, done_of, epoch_dones, floor, floor_of, followed_by, kept, kept_of, last_epoch, map_of, no_base, rows_after}
use Rattle.coco_ast.specs.Tree.{Procedures}

-- the request has its Done
abbrev pub IsAnswered : List Done → Request → Type 0
IsAnswered ds r = (d : Done) × (done_of r.id ds ≡ Some d) × (d.call ≡ r.call)

-- of a history and what it grew to by requests
pub record Keeps (h : History) (requests : List Request) (g : History) : Type 0 where
  pub prefix : IsPrefixOf h g
  -- the Done of an id stays
  pub stays : (id : ℕ) (d : Done) → done_of id (all_dones h) ≡ Some d → done_of id (all_dones g) ≡ Some d
  pub ordered : IsOrdered h → AreNew h requests → IsOrdered g
  pub answered : IsOrdered g → AllByRecursion (IsAnswered (all_dones g)) requests

-- of a history and what it grew to by one list of requests after another
pub record KeepsOn (h g : History) : Type 0 where
  pub prefix : IsPrefixOf h g
  pub stays : (id : ℕ) (d : Done) → done_of id (all_dones h) ≡ Some d → done_of id (all_dones g) ≡ Some d

-- to grow by some lists and then by others is to grow by all of them
abbrev pub GrowsThrough : History → List (List Request) → List (List Request) → History → Type 0
GrowsThrough h first more g = (between : History) × GrowsByAll h first between × GrowsByAll between more g

-- of a history and one more epoch
pub record Follows (ps : Procedures) (h : History) (e : Epoch) : Type 0 where
  pub dones : all_dones (followed_by h e) ≡ all_dones h ++ e.dones
  pub last : last_epoch (followed_by h e) ≡ e.number
  -- what is kept and forgotten follows from what was, and not from what was forgotten
  pub held : kept (followed_by h e) ≡ kept_of h.keep (kept h ++ e.dones)
  pub forgotten : floor (followed_by h e) ≡ floor_of h.keep (floor h) (kept h ++ e.dones)
  pub rows : map_of ps (followed_by h e) ≡ rows_after ps (map_of ps h) e.dones
  -- it stays serial exactly where the new replies are runs, at times of their own kind
  pub serial : IsSerial ps h → RepliesAreRuns ps (map_of ps h) e.dones → AreTimed e.dones → IsSerial ps (followed_by h e)

-- what is new to a history has no Done in it, kept or forgotten
abbrev pub NewHaveNoDone : History → List Request → Type 0
NewHaveNoDone h requests = AreNew h requests → AllByRecursion (λ r. done_of r.id (all_dones h) ≡ None) requests

-- the kept Done of an id is its Done
abbrev pub KeptAreDones : History → Type 0
KeptAreDones h = IsOrdered h → (id : ℕ) (d : Done) → done_of id (kept h) ≡ Some d → done_of id (all_dones h) ≡ Some d

-- without a keep number all Dones are kept, and nothing but what the base has forgotten is old
pub record KeepsAll (h : History) : Type 0 where
  pub held : kept h ≡ all_dones h
  pub forgotten : floor h ≡ h.base.floor
  pub held_from_nothing : h.base ≡ no_base → kept h ≡ epoch_dones h
  pub forgotten_from_nothing : h.base ≡ no_base → floor h ≡ None

-- the next epoch on the schedule, with its number in each Done, is one that the history grows by, and its times are of their calls' kinds
pub record IsGrowth (h : History) (requests : List Request) (e : Epoch) : Type 0 where
  pub greater : last_epoch h < e.number
  pub epoch : IsEpochOf requests e
  pub times : AreTimed e.dones
