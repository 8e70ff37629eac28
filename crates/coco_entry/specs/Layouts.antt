-- The entry of a layout: how many nodes, partitions and copies, which files, from which epoch on, and the text of procedures; its later versions have a keep number, and a base file.
use Rattle.std.specs.Prelude.{◌≡◌, ℕ, zero, suc, ◌<◌, ◌^◌, Bool, false, not, List, [], ◌∷◌, ◌++◌, length, Option, Some, None, Result, Ok, Err, nat_le, ◌==◌, ◌&&◌}
use Rattle.std.specs.List.{flat_map, list_any}
use Rattle.coco_bytes.specs.declared.fault.FieldFault.{FieldFault}
use Rattle.coco_bytes.specs.declared.fault.FieldFault.TheVariants.{Bad}
use Rattle.coco_bytes.specs.Fields.{u8_bytes, u16_bytes, u32_bytes, u64_bytes}
use Rattle.coco_bytes.specs.Reads.{◌>>=◌, u8_at, u16_at, u32_at, u64_at}
use Rattle.coco_entry.specs.declared.layout.Layout.{Layout}
use Rattle.coco_entry.specs.declared.layout.LayoutEntry.{LayoutEntry}
use Rattle.coco_entry.specs.declared.layout.Sizes.{Sizes}
use Rattle.coco_entry.specs.Grammar.{Reader, then_by, ◌▸◌, made, tested, tagged, bytes32, bytes32_at}

-- ---- files, each named once; 0 is the layout's own

abbrev pub is_named : List ℕ → ℕ → Bool
is_named named file = list_any (λ n. n == file) named

abbrev pub IsNew : List ℕ → ℕ → Type 0
IsNew named file = (file < 2 ^ 32) × (is_named named file ≡ false)

-- each is new behind those and the ones before it
abbrev pub AreNew : List ℕ → List ℕ → Type 0
AreNew named [] = Unit {0}
AreNew named (file ∷ files) = IsNew named file × AreNew (named ++ file ∷ []) files

unfoldable pub file_at : List ℕ → Reader ℕ
file_at named = tested (λ file. not (is_named named file)) u32_at

unfoldable pub files_at : List ℕ → ℕ → Reader (List ℕ)
files_at named zero from at = Ok ([], at)
files_at named (suc n) from at = do
  file ← file_at named from at
  files ← files_at (named ++ file.0 ∷ []) n from file.1
  Ok (file.0 ∷ files.0, files.1)

-- the files that a layout names, its own first
abbrev pub named_by : Layout → List ℕ
named_by layout = 0 ∷ layout.chief_file ∷ layout.node_files

-- ---- the fields of every version

abbrev pub sizes_bytes : ℕ → ℕ → ℕ → ℕ → List ℕ
sizes_bytes nodes partitions copies chief = u8_bytes nodes ++ (u8_bytes partitions ++ (u8_bytes copies ++ u32_bytes chief))

abbrev pub fields_bytes : Layout → List ℕ
fields_bytes layout =
    sizes_bytes layout.nodes layout.partitions layout.copies layout.chief_file
    ++ (flat_map u32_bytes layout.node_files ++ (u64_bytes layout.base_epoch ++ bytes32 layout.text))

-- there is a file for each node
pub record HasFields (layout : Layout) : Type 0 where
  pub nodes : layout.nodes < 2 ^ 8
  pub partitions : layout.partitions < 2 ^ 8
  pub copies : layout.copies < 2 ^ 8
  pub chief : IsNew (0 ∷ []) layout.chief_file
  pub count : length layout.node_files ≡ layout.nodes
  pub files : AreNew (0 ∷ layout.chief_file ∷ []) layout.node_files
  pub base_epoch : layout.base_epoch < 2 ^ 64
  pub text : length layout.text < 2 ^ 32

unfoldable pub sizes_at : Reader Sizes
sizes_at = made (λ s. record { nodes = s.0; partitions = s.1.0; copies = s.1.1.0; chief_file = s.1.1.1 }) (u8_at ▸ u8_at ▸ u8_at ▸ file_at (0 ∷ []))

abbrev pub fields_of : Sizes × (List ℕ × (ℕ × List ℕ)) → Layout
fields_of p =
    record { nodes = p.0.nodes; partitions = p.0.partitions; copies = p.0.copies; chief_file = p.0.chief_file; node_files = p.1.0; base_epoch = p.1.1.0; text = p.1.1.1 }

unfoldable pub layout_fields_at : Reader Layout
layout_fields_at = made fields_of (then_by sizes_at (λ s. files_at (0 ∷ s.chief_file ∷ []) s.nodes ▸ u64_at ▸ bytes32_at))

-- ---- keep number and base file

abbrev pub version_of : Option ℕ → Option ℕ → ℕ
version_of keep (Some file) = 3
version_of (Some keep) None = 2
version_of None None = 1

-- beside a base file 0 stands for no keep number
abbrev pub keep_number : Option ℕ → ℕ
keep_number None = 0
keep_number (Some keep) = keep

abbrev pub keep_of : ℕ → Option ℕ
keep_of zero = None
keep_of (suc n) = Some (suc n)

abbrev pub later_bytes : Option ℕ → Option ℕ → List ℕ
later_bytes keep (Some file) = u16_bytes (keep_number keep) ++ u32_bytes file
later_bytes (Some keep) None = u16_bytes keep
later_bytes None None = []

-- a keep number fits two bytes, and beside a base file it isn't 0; the base file is one more file
abbrev pub HasLater : List ℕ → Option ℕ → Option ℕ → Type 0
HasLater named keep (Some file) = (keep_number keep < 2 ^ 16) × (keep_of (keep_number keep) ≡ keep) × IsNew named file
HasLater named (Some keep) None = keep < 2 ^ 16
HasLater named None None = Unit {0}

-- what a version has behind the fields of every version
unfoldable pub later_at : List ℕ → ℕ → Reader (Option ℕ × Option ℕ)
later_at named zero from at = Err (Bad at)
later_at named (suc zero) from at = Ok ((None, None), at)
later_at named (suc (suc zero)) from at = made (λ keep. (Some keep, None)) u16_at from at
later_at named (suc (suc (suc version))) from at = made (λ l. (keep_of l.0, Some l.1)) (u16_at ▸ file_at named) from at

-- ---- the entry

abbrev pub layout_bytes : LayoutEntry → List ℕ
layout_bytes entry = 1 ∷ (u8_bytes (version_of entry.keep entry.base_file) ++ (fields_bytes entry.layout ++ later_bytes entry.keep entry.base_file))

pub record IsLayout (entry : LayoutEntry) : Type 0 where
  pub fields : HasFields entry.layout
  pub later : HasLater (named_by entry.layout) entry.keep entry.base_file

unfoldable pub version_at : Reader ℕ
version_at = tested (λ version. nat_le 1 version && nat_le version 3) u8_at

unfoldable pub layout_at : Reader LayoutEntry
layout_at =
    made (λ e. record { layout = e.1.0; keep = e.1.1.0; base_file = e.1.1.1 })
    (then_by version_at (λ version. then_by layout_fields_at (λ layout. later_at (named_by layout) version)))

abbrev pub layout_in : List ℕ → Result LayoutEntry FieldFault
layout_in = tagged 1 layout_at
