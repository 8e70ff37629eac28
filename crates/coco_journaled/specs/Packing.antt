-- Packed entries as contracts see them.
use Rattle.std.specs.Prelude.{List, map}
use Rattle.coco_journaled.specs.declared.entry.Entry.{Entry}
use Rattle.coco_journaled.specs.declared.journal.KeptEntry.{KeptEntry}

module _ {Q A P B : Type 0} (ask_of : P → Q) (answer_of : B → A) where
  -- the entry that is kept so
  abbrev pub unpacked_entry : KeptEntry P B → Entry Q A
  unpacked_entry k = record { pass = k.pass; ask = ask_of k.ask; answer = answer_of k.answer }

  -- the entries that are kept so
  abbrev pub unpacked : List (KeptEntry P B) → List (Entry Q A)
  unpacked items = map unpacked_entry items
