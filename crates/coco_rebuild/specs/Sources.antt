-- The files that a lost one is made again from, read on from epoch to epoch, and what is taken of them.
use Rattle.std.specs.Prelude.{◌≡◌, ◌≢◌, ◌⊎◌, ℕ, ◌+◌, ◌-◌, ◌%◌, ◌<◌, ◌≤◌, Bool, true, nat_eq, nat_le, nat_lt, List, [], ◌∷◌, ◌++◌, map, Option, None, Some, Result, Ok, Err, slice_index, MatchOption, ◌==◌, ◌&&◌, if◌then◌else◌}
use Rattle.std.specs.List.{AllByRecursion, filter}
use Rattle.std.specs.Set.{is_member}
use Rattle.std.specs.declared.cmp.Ordering.TheVariants.{Less}
use Rattle.coco_types.specs.RowKey.{RowKey, key_cmp, partition_of}
use Rattle.coco_bytes.specs.Lists.{last_item}
use Rattle.coco_host.specs.Files.{Files}
use Rattle.coco_ast.specs.History.{RisesAbove}
use Rattle.coco_entry.specs.declared.layout.Layout.{Layout}
use Rattle.coco_entry.specs.declared.prepared.Prepared.{Prepared}
use Rattle.coco_entry.specs.declared.prepared.Row.{Row}
use Rattle.coco_entry.specs.Rows.{IsPrepared, prepared_bytes}
use Rattle.coco_log.specs.Drafts.{Drafted, Drafts, HasLog}
use Rattle.coco_log.specs.Reading.{IsOf, IsReading, Reading}
use Rattle.coco_read.specs.declared.fault.OpenFault.{OpenFault}
use Rattle.coco_read.specs.declared.fault.OpenFault.TheVariants as fault
use Rattle.coco_store.specs.Contents.{Contents, HoldsNode, file_of}
use Rattle.coco_store.specs.Entries.{ArePrepared, prepared_kind}
use Rattle.coco_store.specs.Rules.{commit_epochs, prepared_epochs}
use Rattle.coco_rebuild.specs.Rebuilding.{AreRebuilt, IsHeldAlone, holder_behind, rows_at}
use Rattle.coco_rebuild.specs.declared.sources.Sources.{Sources}

-- ---- which nodes

-- how many nodes behind a partition's primary a node is, round the ring
abbrev pub nodes_behind : Layout → ℕ → ℕ → ℕ
nodes_behind layout p n = if nat_lt n (p % layout.nodes) then n + layout.nodes - p % layout.nodes else n - p % layout.nodes

-- a node gets the partition of a key from another: it is a holder, and that one is the next
abbrev pub gets : Layout → ℕ → ℕ → RowKey → Bool
gets layout node from key =
    let p : ℕ = partition_of layout.partitions key in
    let j : ℕ = nodes_behind layout p node in
    nat_le j layout.copies && (holder_behind layout p j == from)

-- the node after it is the next holder of each of its partitions but those of which it is the last one
abbrev pub node_after : Layout → ℕ → ℕ
node_after layout node = (node + 1) % layout.nodes

-- and this one is the primary of those
abbrev pub node_first : Layout → ℕ → ℕ
node_first layout node = (node + layout.nodes - layout.copies) % layout.nodes

-- ---- one source

-- of a node's file the entries were read up to those of an epoch
pub record IsReadUpTo (r : Reading) (all : List Prepared) (last : ℕ) (file : List ℕ) : Type 0 where
  pub done : List Prepared
  pub rest : List Prepared
  pub are : all ≡ done ++ rest
  pub past : AllByRecursion (λ e. e.epoch ≤ last) done
  pub reading : IsReading r (map prepared_bytes done) file

-- after a call for the next entry: it is the next one, or there is none, or the call failed
abbrev pub GoesOnTo : Result Prepared OpenFault → Reading → List Prepared → List Prepared → List ℕ → Type 0
GoesOnTo (Ok e) r done rest file = (behind : List Prepared) × (rest ≡ e ∷ behind) × IsReading r (map prepared_bytes (done ++ e ∷ [])) file
GoesOnTo (Err (fault.NotAStore f at)) r done rest file = rest ≡ []
GoesOnTo (Err fault.Disk) r done rest file = Unit {0}
GoesOnTo (Err fault.NoMemory) r done rest file = Unit {0}

-- after a call for the entry of an epoch: it has what all entries have for it, and they were read up to it, or the call failed
abbrev pub IsFoundAt : Result Prepared OpenFault → Reading → List Prepared → ℕ → List ℕ → Type 0
IsFoundAt (Ok e) r all epoch file = (e.epoch ≡ epoch) × (e.rows ≡ rows_at epoch all) × IsReadUpTo r all epoch file
IsFoundAt (Err (fault.NotAStore f at)) r all epoch file = ⊥
IsFoundAt (Err fault.Disk) r all epoch file = Unit {0}
IsFoundAt (Err fault.NoMemory) r all epoch file = Unit {0}

-- a file is the log of entries whose epochs rise, and this one is among them
pub record HasEpoch (all : List Prepared) (epoch : ℕ) (file : List ℕ) : Type 0 where
  pub are : ArePrepared all file
  pub base : ℕ
  pub rise : RisesAbove base (prepared_epochs all)
  pub there : is_member nat_eq (prepared_epochs all) epoch ≡ true

-- ---- both

abbrev pub file_at : Layout → ℕ → ℕ
file_at layout n = slice_index layout.node_files n

-- the file of the node after it is read where there are copies
abbrev pub IsAfterSource : Layout → ℕ → Option Reading → Type 0
IsAfterSource layout node source = MatchOption source (layout.copies ≡ 0) (λ r. (0 < layout.copies) × IsOf (file_at layout (node_after layout node)) prepared_kind r)

-- and that of the first one where it is another
abbrev pub IsFirstSource : Layout → ℕ → Option Reading → Type 0
IsFirstSource layout node source =
    MatchOption source ((layout.copies ≡ 0) ⊎ (node_after layout node ≡ node_first layout node))
    (λ r. (0 < layout.copies) × (node_after layout node ≢ node_first layout node) × IsOf (file_at layout (node_first layout node)) prepared_kind r)

pub record AreSources (layout : Layout) (node : ℕ) (s : Sources) : Type 0 where
  pub after : IsAfterSource layout node s.after
  pub first : IsFirstSource layout node s.first

abbrev pub IsReadIn : Option Reading → List Prepared → ℕ → List ℕ → Type 0
IsReadIn None all last file = Unit {0}
IsReadIn (Some r) all last file = IsReadUpTo r all last file

-- both were read up to an epoch
pub record AreReadUpTo (layout : Layout) (node : ℕ) (c : Contents) (s : Sources) (last : ℕ) (files : Files) : Type 0 where
  pub after : IsReadIn s.after (c.prepared (node_after layout node)) last (files (file_at layout (node_after layout node)))
  pub first : IsReadIn s.first (c.prepared (node_first layout node)) last (files (file_at layout (node_first layout node)))

-- the files of the other nodes hold contents of this layout and of these committed epochs, and no partition is held by the node alone
pub record AreOthers (layout : Layout) (node : ℕ) (epochs : List ℕ) (files : Files) (c : Contents) : Type 0 where
  pub nodes : (n : ℕ) → n < c.setting.entry.layout.nodes → n ≢ node → HoldsNode c.setting c.commits n (c.prepared n) (files (file_of c.setting n))
  pub layout_is : c.setting.entry.layout ≡ layout
  pub epochs_are : commit_epochs c.commits ≡ epochs
  pub held : (p : ℕ) → ¬ (IsHeldAlone layout node p)

-- the rows of an epoch that the node gets from the two
pub record AreGot (layout : Layout) (node : ℕ) (c : Contents) (epoch : ℕ) (rows others : List Row) : Type 0 where
  pub after : 0 < layout.copies → rows ≡ filter (λ r. gets layout node (node_after layout node) r.key) (rows_at epoch (c.prepared (node_after layout node)))
  pub first : 0 < layout.copies → node_after layout node ≢ node_first layout node
      → others ≡ filter (λ r. gets layout node (node_first layout node) r.key) (rows_at epoch (c.prepared (node_first layout node)))
  -- where there are no copies there is nothing to get, and where the two are one there are no others
  pub none : layout.copies ≡ 0 → (rows ≡ []) × (others ≡ [])
  pub one : node_after layout node ≡ node_first layout node → others ≡ []

-- ---- two lists of rows

-- a list has the items of two, each in its order
pub data Interleaves {A : Type 0} : List A → List A → List A → Type 0 where
  no_items : Interleaves [] [] []
  of_first : {xs ys zs : List A} {x : A} → Interleaves xs ys zs → Interleaves (x ∷ xs) ys (x ∷ zs)
  of_second : {xs ys zs : List A} {y : A} → Interleaves xs ys zs → Interleaves xs (y ∷ ys) (y ∷ zs)

-- the last one of some rows, if there is one, has a key below that of this row
abbrev pub EndsBelow : List Row → Row → Type 0
EndsBelow rows row = MatchOption (last_item rows) (Unit {0}) (λ last. key_cmp last.key row.key ≡ Less)

-- no key stands in both
abbrev pub HaveOtherKeys : List Row → List Row → Type 0
HaveOtherKeys xs ys = AllByRecursion (λ x. AllByRecursion (λ y. x.key ≢ y.key) ys) xs

-- ---- the new file

-- an entry more of a draft, which is the node's of this epoch where the files are told
pub record HasAdded (layout : Layout) (node epoch : ℕ) (bodies : List (List ℕ)) (draft : Drafted) (reads : Option Files) (Told : Prepared → Type 0) : Type 0 where
  pub entry : Prepared
  pub epoch_is : entry.epoch ≡ epoch
  pub is : IsPrepared entry
  pub drafts : Drafts draft (bodies ++ prepared_bytes entry ∷ []) reads
  pub told : Told entry

-- the file is the log of such entries, and a crash leaves it so
pub record HasNode (node : ℕ) (c : Contents) (file : ℕ) (reads : Option Files) (may_leave : Files → Type 0) : Type 0 where
  pub entries : List Prepared
  pub are : AreRebuilt node c entries
  pub log : HasLog prepared_kind (map prepared_bytes entries) file reads may_leave
