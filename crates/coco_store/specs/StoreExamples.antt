-- Small stores, byte by byte, and what they hold.
use Rattle.std.specs.Prelude.{◌≡◌, ℕ, List, [], ◌∷◌, ◌++◌, length, map, pos, None, Some, ◌==◌, if◌then◌else◌}
use Rattle.std.specs.FinMap.{empty}
use Rattle.coco_host.specs.Files.{Files}
use Rattle.coco_types.specs.declared.value.Value.TheVariants.{Int}
use Rattle.coco_ast.specs.Builtins.{builtins}
use Rattle.coco_ast.specs.History.{followed_by, no_history}
use Rattle.coco_ast.specs.History.{compacted as compacted_into}
use Rattle.coco_ast.specs.HistoryExamples.{epoch_of, first_done, five_is_70, get_done, two_epochs}
use Rattle.coco_entry.specs.declared.commit.Commit.{Commit}
use Rattle.coco_entry.specs.declared.layout.Layout.{Layout}
use Rattle.coco_entry.specs.declared.layout.LayoutEntry.{LayoutEntry}
use Rattle.coco_entry.specs.declared.prepared.Prepared.{Prepared}
use Rattle.coco_store.specs.Contents.{Contents, Holds, IsGoodStore, history_of, rows_of}
use Rattle.coco_store.specs.Entries.{BaseEntry, Dones, Head, Values}
use Rattle.coco_store.specs.Placement.{IsHeldBy}
use Rattle.coco_store.specs.Rules.{Setting}

-- the files 0, 1 and 2 of a store; the others are empty
abbrev pub three_files : List ℕ → List ℕ → List ℕ → Files
three_files layouts commits prepared = λ n. if n == 0 then layouts else (if n == 1 then commits else (if n == 2 then prepared else []))

-- the letters COCOLOG
abbrev pub letters : List ℕ
letters = 67 ∷ 79 ∷ 67 ∷ 79 ∷ 76 ∷ 79 ∷ 71 ∷ []

-- the layout of one node, one partition and no copies, whose text is empty
abbrev pub layout_file : List ℕ
layout_file =
    letters ++ 0 ∷ 1 ∷ 0 ∷ 0 ∷ 0 ∷ 25 ∷ 1 ∷ 1 ∷ 1 ∷ 1 ∷ 0 ∷ 0 ∷ 0 ∷ 0 ∷ 1 ∷ 0 ∷ 0 ∷ 0 ∷ 2
    ∷ 0 ∷ 0 ∷ 0 ∷ 0 ∷ 0 ∷ 0 ∷ 0 ∷ 0 ∷ 0 ∷ 0 ∷ 0 ∷ 0 ∷ 0 ∷ []

-- put(5, 70) as id 1 in epoch 1 at time 1
abbrev pub commit_file : List ℕ
commit_file =
    letters ++ 1 ∷ 1 ∷ 0 ∷ 0 ∷ 0 ∷ 61 ∷ 2 ∷ 0 ∷ 0 ∷ 0 ∷ 0 ∷ 0 ∷ 0 ∷ 0 ∷ 1 ∷ 0 ∷ 0 ∷ 0 ∷ 1
    ∷ 0 ∷ 0 ∷ 0 ∷ 0 ∷ 0 ∷ 0 ∷ 0 ∷ 1 ∷ 0 ∷ 1 ∷ 0 ∷ 2 ∷ 1 ∷ 0 ∷ 0 ∷ 0 ∷ 0 ∷ 0 ∷ 0 ∷ 0 ∷ 5 ∷ 1 ∷ 0 ∷ 0 ∷ 0 ∷ 0 ∷ 0 ∷ 0 ∷ 0 ∷ 70
    ∷ 0 ∷ 0 ∷ 0 ∷ 0 ∷ 0 ∷ 0 ∷ 0 ∷ 1 ∷ 0 ∷ 1 ∷ 0 ∷ 0 ∷ 0 ∷ 0 ∷ 0 ∷ 0 ∷ 0 ∷ 70 ∷ 0 ∷ []

abbrev pub prepared_file : List ℕ
prepared_file =
    letters ++ 2 ∷ 1 ∷ 0 ∷ 0 ∷ 0 ∷ 40 ∷ 3 ∷ 0 ∷ 0 ∷ 0 ∷ 0 ∷ 0 ∷ 0 ∷ 0 ∷ 1 ∷ 0 ∷ 0 ∷ 0 ∷ 1
    ∷ 0 ∷ 0 ∷ 0 ∷ 0 ∷ 0 ∷ 0 ∷ 0 ∷ 0 ∷ 0 ∷ 5 ∷ 0 ∷ 0 ∷ 0 ∷ 0 ∷ 0 ∷ 0 ∷ 0 ∷ 1 ∷ 1 ∷ 0 ∷ 0 ∷ 0 ∷ 0 ∷ 0 ∷ 0 ∷ 0 ∷ 70 ∷ 0 ∷ []

-- a log of this kind without entries
abbrev pub no_entries : ℕ → List ℕ
no_entries kind = letters ++ kind ∷ 0 ∷ []

abbrev pub new_files : Files
new_files = three_files layout_file (no_entries 1) (no_entries 2)

abbrev pub prepared_files : Files
prepared_files = three_files layout_file (no_entries 1) prepared_file

-- what was cut off behind the last gate may still stand there
abbrev pub put_files : Files
put_files = three_files layout_file commit_file (prepared_file ++ 3 ∷ 0 ∷ [])

abbrev pub unprepared_files : Files
unprepared_files = three_files layout_file commit_file (no_entries 2)

-- two layouts, of which the second has a base file
abbrev pub compacted_layouts : List ℕ
compacted_layouts =
    letters ++ 0 ∷ 1 ∷ 0 ∷ 0 ∷ 0 ∷ 25 ∷ 1 ∷ 1 ∷ 1 ∷ 1 ∷ 0 ∷ 0 ∷ 0 ∷ 0 ∷ 1 ∷ 0 ∷ 0 ∷ 0 ∷ 2 ∷ 0 ∷ 0 ∷ 0 ∷ 0 ∷ 0 ∷ 0 ∷ 0 ∷ 0 ∷ 0 ∷ 0 ∷ 0 ∷ 0 ∷ 1
    ∷ 0 ∷ 0 ∷ 0 ∷ 31 ∷ 1 ∷ 3 ∷ 1 ∷ 1 ∷ 0 ∷ 0 ∷ 0 ∷ 0 ∷ 4 ∷ 0 ∷ 0 ∷ 0 ∷ 5 ∷ 0 ∷ 0 ∷ 0 ∷ 0 ∷ 0 ∷ 0 ∷ 0 ∷ 2 ∷ 0 ∷ 0 ∷ 0 ∷ 0 ∷ 0 ∷ 0 ∷ 0
    ∷ 0 ∷ 0 ∷ 3 ∷ 0 ∷ []

-- a head, two Dones and a row
abbrev pub base_entries : List ℕ
base_entries =
    letters ++ 3 ∷ 1 ∷ 0 ∷ 0 ∷ 0 ∷ 34 ∷ 4 ∷ 0 ∷ 0 ∷ 0 ∷ 0 ∷ 0 ∷ 0 ∷ 0 ∷ 2 ∷ 0 ∷ 0 ∷ 0 ∷ 0 ∷ 0 ∷ 0 ∷ 0 ∷ 0 ∷ 0 ∷ 0 ∷ 0 ∷ 0 ∷ 0 ∷ 0 ∷ 0 ∷ 0 ∷ 2
    ∷ 0 ∷ 0 ∷ 0 ∷ 0 ∷ 0 ∷ 0 ∷ 0 ∷ 1 ∷ 1 ∷ 0 ∷ 0 ∷ 0 ∷ 108 ∷ 5 ∷ 0 ∷ 0 ∷ 0 ∷ 2 ∷ 0 ∷ 0 ∷ 0 ∷ 0 ∷ 0 ∷ 0 ∷ 0 ∷ 1 ∷ 0 ∷ 0 ∷ 0 ∷ 0 ∷ 0 ∷ 0
    ∷ 0 ∷ 1 ∷ 0 ∷ 1 ∷ 0 ∷ 2 ∷ 1 ∷ 0 ∷ 0 ∷ 0 ∷ 0 ∷ 0 ∷ 0 ∷ 0 ∷ 5 ∷ 1 ∷ 0 ∷ 0 ∷ 0 ∷ 0 ∷ 0 ∷ 0 ∷ 0 ∷ 70 ∷ 0 ∷ 0 ∷ 0 ∷ 0 ∷ 0 ∷ 0 ∷ 0 ∷ 1
    ∷ 0 ∷ 1 ∷ 0 ∷ 0 ∷ 0 ∷ 0 ∷ 0 ∷ 0 ∷ 0 ∷ 70 ∷ 0 ∷ 0 ∷ 0 ∷ 0 ∷ 0 ∷ 0 ∷ 0 ∷ 2 ∷ 0 ∷ 0 ∷ 0 ∷ 0 ∷ 0 ∷ 0 ∷ 0 ∷ 2 ∷ 0 ∷ 0 ∷ 0 ∷ 1 ∷ 1 ∷ 0
    ∷ 0 ∷ 0 ∷ 0 ∷ 0 ∷ 0 ∷ 0 ∷ 5 ∷ 0 ∷ 0 ∷ 0 ∷ 0 ∷ 0 ∷ 0 ∷ 0 ∷ 1 ∷ 0 ∷ 1 ∷ 0 ∷ 0 ∷ 0 ∷ 0 ∷ 0 ∷ 0 ∷ 0 ∷ 70 ∷ 1 ∷ 0 ∷ 0 ∷ 0 ∷ 24 ∷ 6 ∷ 0
    ∷ 0 ∷ 0 ∷ 1 ∷ 0 ∷ 0 ∷ 0 ∷ 0 ∷ 0 ∷ 0 ∷ 0 ∷ 0 ∷ 0 ∷ 5 ∷ 1 ∷ 0 ∷ 0 ∷ 0 ∷ 0 ∷ 0 ∷ 0 ∷ 0 ∷ 70 ∷ 0 ∷ []

-- the files 0, 3, 4 and 5; what the others were stays
abbrev pub compacted_files : Files
compacted_files = λ n. if n == 0 then compacted_layouts else (if n == 3 then base_entries else (if n == 4 then no_entries 1 else (if n == 5 then no_entries 2 else put_files n)))

abbrev pub one_layout : LayoutEntry
one_layout = record {
  layout = record { nodes = 1; partitions = 1; copies = 0; chief_file = 1; node_files = 2 ∷ []; base_epoch = 0; text = [] };
  keep = None;
  base_file = None;
}

abbrev pub first_commit : Commit
first_commit = record { epoch = 1; dones = first_done ∷ [] }

abbrev pub first_prepared : Prepared
first_prepared = record { epoch = 1; rows = record { key = record { table = 0; row = 5 }; time = 1; value = Some (Int (pos 70)) } ∷ [] }

abbrev pub one_setting : Setting
one_setting = record { entry = one_layout; tree = builtins }

abbrev pub of_one_node : List Commit → List Prepared → Contents
of_one_node commits prepared = record {
  earlier = [];
  setting = one_setting;
  base = [];
  commits = commits;
  prepared = λ n. prepared;
}

abbrev pub new_store : Contents
new_store = of_one_node [] []

abbrev pub prepared_store : Contents
prepared_store = of_one_node [] (first_prepared ∷ [])

abbrev pub put_store : Contents
put_store = of_one_node (first_commit ∷ []) (first_prepared ∷ [])

abbrev pub unprepared_store : Contents
unprepared_store = of_one_node (first_commit ∷ []) []

abbrev pub compacted_layout : LayoutEntry
compacted_layout = record {
  layout = record { nodes = 1; partitions = 1; copies = 0; chief_file = 4; node_files = 5 ∷ []; base_epoch = 2; text = [] };
  keep = None;
  base_file = Some 3;
}

abbrev pub compacted_base : List BaseEntry
compacted_base =
    Head (record { epoch = 2; floor = None; dones = 2; rows = 1 }) ∷ Dones (first_done ∷ get_done 2 2 ∷ [])
    ∷ Values ((record { table = 0; row = 5 }, Int (pos 70)) ∷ []) ∷ []

abbrev pub compacted_setting : Setting
compacted_setting = record { entry = compacted_layout; tree = builtins }

abbrev pub compacted_store : Contents
compacted_store = record { earlier = one_layout ∷ []; setting = compacted_setting; base = compacted_base; commits = []; prepared = λ n. [] }

-- another epoch with the same request
abbrev pub reused_store : Contents
reused_store = of_one_node (first_commit ∷ record { epoch = 2; dones = record first_done { epoch = 2 } ∷ [] } ∷ []) (first_prepared ∷ record { epoch = 2; rows = [] } ∷ [])

-- three nodes, four partitions, one copy of each
abbrev pub ring : Layout
ring = record { nodes = 3; partitions = 4; copies = 1; chief_file = 1; node_files = 2 ∷ 3 ∷ 4 ∷ []; base_epoch = 0; text = [] }

pub record StoreExamples : Type 0 where
  pub lengths : map length (layout_file ∷ no_entries 1 ∷ no_entries 2 ∷ commit_file ∷ prepared_file ∷ compacted_layouts ∷ base_entries ∷ []) ≡ 39 ∷ 9 ∷ 9 ∷ 75 ∷ 54 ∷ 75 ∷ 190 ∷ []
  -- as it was made
  pub new : IsGoodStore new_files new_store
  pub new_history : history_of new_store ≡ no_history
  pub new_rows : rows_of new_store 0 0 ≡ empty
  -- with an epoch
  pub put : IsGoodStore put_files put_store
  pub put_history : history_of put_store ≡ followed_by no_history (epoch_of 1 first_done)
  pub put_rows : rows_of put_store 0 0 ≡ five_is_70
  -- a prepared entry without its commit entry is in neither history nor rows
  pub prepared : IsGoodStore prepared_files prepared_store
  pub prepared_history : history_of prepared_store ≡ no_history
  pub prepared_rows : rows_of prepared_store 0 0 ≡ empty
  -- two epochs as a base, with no epoch behind it
  pub compacted : IsGoodStore compacted_files compacted_store
  pub compacted_history : history_of compacted_store ≡ compacted_into builtins 2 two_epochs
  pub compacted_rows : rows_of compacted_store 0 0 ≡ five_is_70
  -- a committed epoch that the node hasn't prepared is refused
  pub unprepared : Holds unprepared_files unprepared_store → ⊥
  -- so is an id that stands twice, whatever the files are
  pub reused : (files : Files) → Holds files reused_store → ⊥
  -- partition 3 is held by node 0, its copy by node 1
  pub primary : IsHeldBy ring 3 0
  pub copy : IsHeldBy ring 3 1
  pub elsewhere : IsHeldBy ring 3 2 → ⊥
