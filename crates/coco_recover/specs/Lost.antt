-- A node whose tables are read anew from its file.
use Rattle.std.specs.Prelude.{◌≡◌, ℕ, List}
use Rattle.coco_types.specs.RowKey.{RowKey}
use Rattle.coco_types.specs.declared.value.Value.{Value}
use Rattle.coco_ast.specs.Tree.{Procedures}
use Rattle.coco_entry.specs.declared.layout.Layout.{Layout}
use Rattle.coco_load.specs.RowMaps.{joined}
use Rattle.coco_store.specs.Contents.{Contents}
use Rattle.coco_store.specs.Rules.{base_values, commit_epochs}

-- what is known of contents without their files: these are their layout and its tree, their committed epochs, and the rows of their base, list by list
pub record AreKnown (c : Contents) (of_layout : Layout) (of_text : Procedures) (numbers : List ℕ) (lists : List (List (RowKey × Value))) : Type 0 where
  pub layout : c.setting.entry.layout ≡ of_layout
  pub tree : c.setting.tree ≡ of_text
  pub epochs : commit_epochs c.commits ≡ numbers
  pub base : base_values c.base ≡ joined lists
