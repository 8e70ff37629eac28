-- Which of a store's files is refused first, and at which of its bytes.
use Rattle.std.specs.Prelude.{◌≡◌, ℕ, ◌+◌, ◌*◌, ◌<◌, ◌≤◌, Bool, ◌||◌, ◌&&◌, List, [], ◌∷◌, ◌++◌, length, map, Option, Some, None, Result, Ok, Err, slice_index, ◌==◌, if◌then◌else◌}
use Rattle.std.specs.List.{All, AllByRecursion, flat_map}
use Rattle.coco_types.specs.Limits.{epochs_end, most_nodes, most_partitions}
use Rattle.coco_host.specs.Files.{Files}
use Rattle.coco_ast.specs.Tree.{Procedures}
use Rattle.coco_bytes.specs.declared.fault.FieldFault.{FieldFault}
use Rattle.coco_bytes.specs.declared.fault.FieldFault.TheVariants.{Bad}
use Rattle.coco_bytes.specs.Lists.{last_item}
use Rattle.coco_entry.specs.declared.base.TheConstants.{MOST_ITEMS}
use Rattle.coco_entry.specs.declared.commit.Commit.{Commit}
use Rattle.coco_entry.specs.declared.layout.LayoutEntry.{LayoutEntry}
use Rattle.coco_entry.specs.declared.prepared.Prepared.{Prepared}
use Rattle.coco_entry.specs.Bases.{base_done_bytes, base_dones_in, base_row_bytes, base_rows_in, head_in}
use Rattle.coco_entry.specs.Calls.{done_bytes}
use Rattle.coco_entry.specs.Commits.{IsCommit, commit_bytes, commit_in}
use Rattle.coco_entry.specs.Grammar.{IsFaultAt}
use Rattle.coco_entry.specs.Layouts.{IsLayout, layout_bytes, layout_in}
use Rattle.coco_entry.specs.Rows.{IsPrepared, prepared_bytes, prepared_in, row_bytes}
use Rattle.coco_log.specs.Grammar.{IsShort, front, FitsNoLog}
use Rattle.coco_store.specs.Contents.{Contents, Holds, HoldsBase, HoldsHistory, HoldsLayouts, HoldsNode, chief_of, file_of}
use Rattle.coco_store.specs.Entries.{BaseEntry, Dones, Head, IsBaseEntry, IsLogOf, Values, base_bytes, base_kind, commits_kind, layouts_kind, prepared_kind}
use Rattle.coco_store.specs.Rules.{HavePrepared, IsCommittedDone, IsKeep, IsKeptDone, IsNextEpoch, IsNextValue, IsNodeRow, IsWhole, MayFollow, Setting, base_values, commit_epochs, dones_in, dones_of, kept_dones, prepared_epochs, values_of}
use Rattle.coco_store.specs.Texts.{IsAcceptedText}

-- ---- one file

-- behind the log of these entries the file goes on with an open gate, this body and a next gate
pub record GoesOnWith {E : Type 0} (kind : ℕ) (bytes_of : E → List ℕ) (Is : E → Type 0) (entries : List E) (body file : List ℕ) : Type 0 where
  pub gate : ℕ
  pub behind : List ℕ
  pub short : All IsShort (map bytes_of entries ++ body ∷ [])
  pub are : AllByRecursion Is entries
  pub is : file ≡ front kind (map bytes_of entries ++ body ∷ []) ++ gate ∷ behind

-- the place of the gate behind these entries
abbrev pub gate_behind : {E : Type 0} → ℕ → (E → List ℕ) → List E → ℕ
gate_behind kind bytes_of entries = length (front kind (map bytes_of entries))

-- a file is refused at a place: it is no log, a body is no entry, an entry breaks a rule at a place of its body, or at the last gate something lacks
pub data IsRefusedAt {E : Type 0} (kind : ℕ) (bytes_of : E → List ℕ) (Is : E → Type 0) (read : List E → List ℕ → Result E FieldFault) (Breaks : List E → E → ℕ → Type 0) (Lacks : List E → Type 0) (file : List ℕ) : ℕ → Type 0 where
  no_log : {at : ℕ} → FitsNoLog kind file at → IsRefusedAt kind bytes_of Is read Breaks Lacks file at
  no_entry : {entries : List E} {body : List ℕ} {at : ℕ} → GoesOnWith kind bytes_of Is entries body file → IsFaultAt at (read entries body)
      → IsRefusedAt kind bytes_of Is read Breaks Lacks file (gate_behind kind bytes_of entries + (5 + at))
  breaks : {entries : List E} {e : E} {at : ℕ} → GoesOnWith kind bytes_of Is entries (bytes_of e) file → Is e → Breaks entries e at
      → IsRefusedAt kind bytes_of Is read Breaks Lacks file (gate_behind kind bytes_of entries + (5 + at))
  lacks : {entries : List E} → IsLogOf kind bytes_of Is entries file → Lacks entries → IsRefusedAt kind bytes_of Is read Breaks Lacks file (gate_behind kind bytes_of entries)

-- ---- which rules, at which places of a body

-- an item of a list in a body breaks a rule behind those before it: at its first byte
pub record ItemBreaks {A : Type 0} (Rule : List A → A → Type 0) (bytes_of : A → List ℕ) (before items : List A) (at : ℕ) : Type 0 where
  pub ahead : List A
  pub item : A
  pub behind : List A
  pub is : items ≡ ahead ++ item ∷ behind
  pub broken : ¬ (Rule (before ++ ahead) item)
  pub here : at ≡ length (flat_map bytes_of ahead)

-- a number of a layout is out of its limits, or its text isn't accepted: at that field
pub data LayoutBreaks (e : LayoutEntry) : ℕ → Type 0 where
  bad_nodes : ¬ ((1 ≤ e.layout.nodes) × (e.layout.nodes ≤ most_nodes)) → LayoutBreaks e 2
  bad_partitions : ¬ ((1 ≤ e.layout.partitions) × (e.layout.partitions ≤ most_partitions)) → LayoutBreaks e 3
  bad_copies : ¬ (e.layout.copies < e.layout.nodes) → LayoutBreaks e 4
  bad_base_epoch : ¬ (e.layout.base_epoch < epochs_end) → LayoutBreaks e (9 + 4 * e.layout.nodes)
  bad_text : ((tree : Procedures) → ¬ (IsAcceptedText e.layout.text tree)) → LayoutBreaks e (17 + 4 * e.layout.nodes)
  bad_keep : ¬ (IsKeep e.keep) → LayoutBreaks e (21 + (4 * e.layout.nodes + length e.layout.text))

-- a head of another epoch is bad at its epoch, an entry that may not stand there at its tag
abbrev pub order_place : Option BaseEntry → BaseEntry → ℕ
order_place None (Head head) = 1
order_place None (Dones dones) = 0
order_place None (Values rows) = 0
order_place (Some before) entry = 0

pub data BaseBreaks (s : Setting) (before : List BaseEntry) (e : BaseEntry) : ℕ → Type 0 where
  bad_order : ¬ (MayFollow s.entry.layout.base_epoch (last_item before) e) → BaseBreaks s before e (order_place (last_item before) e)
  bad_kept_done : {at : ℕ} → ItemBreaks (IsKeptDone s) base_done_bytes (kept_dones before) (dones_of e) at → BaseBreaks s before e (5 + at)
  bad_value : {at : ℕ} → ItemBreaks (IsNextValue s) base_row_bytes (base_values before) (values_of e) at → BaseBreaks s before e (5 + at)

pub data CommitBreaks (s : Setting) (base : List BaseEntry) (before : List Commit) (e : Commit) : ℕ → Type 0 where
  bad_commit_epoch : ¬ (IsNextEpoch s.entry.layout.base_epoch (commit_epochs before) e.epoch) → CommitBreaks s base before e 1
  bad_done : {at : ℕ} → ItemBreaks (IsCommittedDone s base) done_bytes (kept_dones base ++ dones_in before) e.dones at → CommitBreaks s base before e (13 + at)

pub data PreparedBreaks (s : Setting) (n : ℕ) (before : List Prepared) (e : Prepared) : ℕ → Type 0 where
  bad_prepared_epoch : ¬ (IsNextEpoch s.entry.layout.base_epoch (prepared_epochs before) e.epoch) → PreparedBreaks s n before e 1
  bad_row : {at : ℕ} → ItemBreaks (λ _. IsNodeRow s n) row_bytes [] e.rows at → PreparedBreaks s n before e (13 + at)

-- ---- the files

-- a body of a base file by its tag; any other one is no head
abbrev pub mapped : {A B : Type 0} → (A → B) → Result A FieldFault → Result B FieldFault
mapped f (Ok x) = Ok (f x)
mapped f (Err fault) = Err fault

abbrev pub base_in : List ℕ → Result BaseEntry FieldFault
base_in body = if slice_index body 0 == 5 then mapped Dones (base_dones_in body) else (if slice_index body 0 == 6 then mapped Values (base_rows_in body) else mapped Head (head_in body))

-- whether an entry of this tag may stand behind this one: the head comes first and once, then Dones, then rows, and each list but the last of its sort is full
abbrev pub may_stand : Option BaseEntry → ℕ → Bool
may_stand None tag = tag == 4
may_stand (Some (Head head)) tag = tag == 5 || tag == 6
may_stand (Some (Dones dones)) tag = tag == 6 || (tag == 5 && length dones == MOST_ITEMS)
may_stand (Some (Values rows)) tag = tag == 6 && length rows == MOST_ITEMS

-- a body that is no entry is bad at its tag where its tag may not stand there
abbrev pub at_tag : Result BaseEntry FieldFault → Bool → Result BaseEntry FieldFault
at_tag (Ok e) may = Ok e
at_tag (Err fault) may = if may then Err fault else Err (Bad 0)

-- a body of a base file behind these entries
abbrev pub base_behind : List BaseEntry → List ℕ → Result BaseEntry FieldFault
base_behind before body = at_tag (base_in body) (may_stand (last_item before) (slice_index body 0))

abbrev pub AreLayoutsRefused : List ℕ → ℕ → Type 0
AreLayoutsRefused = IsRefusedAt layouts_kind layout_bytes IsLayout (λ before. layout_in) (λ before e. LayoutBreaks e) (λ entries. entries ≡ [])

abbrev pub IsBaseRefused : Setting → List ℕ → ℕ → Type 0
IsBaseRefused s = IsRefusedAt base_kind base_bytes IsBaseEntry base_behind (BaseBreaks s) (λ entries. ¬ (IsWhole entries))

abbrev pub AreCommitsRefused : Setting → List BaseEntry → List ℕ → ℕ → Type 0
AreCommitsRefused s base = IsRefusedAt commits_kind commit_bytes IsCommit (λ before. commit_in) (CommitBreaks s base) (λ entries. ⊥)

abbrev pub IsNodeRefused : Setting → List Commit → ℕ → List ℕ → ℕ → Type 0
IsNodeRefused s commits n = IsRefusedAt prepared_kind prepared_bytes IsPrepared (λ before. prepared_in) (PreparedBreaks s n) (λ entries. ¬ (HavePrepared entries commits))

-- the least of these places
pub record IsFirst (Refused : ℕ → Type 0) (at : ℕ) : Type 0 where
  pub refused : Refused at
  pub least : (b : ℕ) → Refused b → at ≤ b

-- the first refusal: the files are tried in this order, and those before it hold what they are to hold
pub data IsFirstRefusal (files : Files) : ℕ → ℕ → Type 0 where
  in_layouts : {at : ℕ} → IsFirst (AreLayoutsRefused (files 0)) at → IsFirstRefusal files 0 at
  in_base : {earlier : List LayoutEntry} {s : Setting} {file at : ℕ} → HoldsLayouts earlier s (files 0) → s.entry.base_file ≡ Some file → IsFirst (IsBaseRefused s (files file)) at → IsFirstRefusal files file at
  in_commits : {earlier : List LayoutEntry} {s : Setting} {base : List BaseEntry} {at : ℕ} → HoldsLayouts earlier s (files 0) → HoldsBase files s base s.entry.base_file
      → IsFirst (AreCommitsRefused s base (files (chief_of s))) at → IsFirstRefusal files (chief_of s) at
  in_node : {c : Contents} {n at : ℕ} → HoldsHistory files c → n < c.setting.entry.layout.nodes
      → ((m : ℕ) → m < n → HoldsNode c.setting c.commits m (c.prepared m) (files (file_of c.setting m)))
      → IsFirst (IsNodeRefused c.setting c.commits n (files (file_of c.setting n))) at → IsFirstRefusal files (file_of c.setting n) at

-- files that are refused hold no store
abbrev pub RefusedIsNone : Type 0
RefusedIsNone = (files : Files) (file at : ℕ) → IsFirstRefusal files file at → (c : Contents) → ¬ (Holds files c)

-- one place is refused first
abbrev pub OneRefusal : Type 0
OneRefusal = (files : Files) (f g a b : ℕ) → IsFirstRefusal files f a → IsFirstRefusal files g b → (f ≡ g) × (a ≡ b)
