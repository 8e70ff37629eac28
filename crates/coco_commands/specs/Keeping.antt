-- A store with another keep number: its layout once more, with that number.
use Rattle.std.specs.Prelude.{◌≡◌, ◌⊎◌, ℕ, [], ◌∷◌, ◌++◌, Some}
use Rattle.coco_host.specs.Files.{Files}
use Rattle.coco_ast.specs.History.{with_keep}
use Rattle.coco_entry.specs.declared.layout.LayoutEntry.{LayoutEntry}
use Rattle.coco_store.specs.Contents.{Contents, IsGoodStore, history_of}
use Rattle.coco_store.specs.Rules.{IsKeep}
use Rattle.coco_store.specs.Switching.{GainsLayout, MayGainLayout}

-- a layout with this keep number and its other fields
abbrev pub entry_keeping : ℕ → LayoutEntry → LayoutEntry
entry_keeping keep entry = record { layout = entry.layout; keep = Some keep; base_file = entry.base_file }

-- the layout that held is followed by itself with this keep number, and nothing else is other
abbrev pub contents_keeping : ℕ → Contents → Contents
contents_keeping keep c = record c {
  earlier = c.earlier ++ c.setting.entry ∷ [];
  setting = record { entry = entry_keeping keep c.setting.entry; tree = c.setting.tree };
}

-- an entry of that layout keeps a good store, and gives its history the keep number
abbrev pub AfterKeep : Type 0
AfterKeep = (old new : Files) (c : Contents) (keep : ℕ) → IsGoodStore old c → IsKeep (Some keep)
    → GainsLayout (entry_keeping keep c.setting.entry) old new
    → IsGoodStore new (contents_keeping keep c) × (history_of (contents_keeping keep c) ≡ with_keep (Some keep) (history_of c))

-- at each moment of an append of one there is the old keep number or the new one
abbrev pub WhileKeep : Type 0
WhileKeep = (old new : Files) (c : Contents) (keep : ℕ) → IsGoodStore old c → IsKeep (Some keep)
    → MayGainLayout (entry_keeping keep c.setting.entry) old new
    → IsGoodStore new c ⊎ IsGoodStore new (contents_keeping keep c)
