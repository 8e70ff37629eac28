-- How the reason is printed why words are no command.
use Rattle.std.specs.Prelude.{ℕ, List, codes}
use Rattle.coco_words.specs.declared.WordsFault.{WordsFault}
use Rattle.coco_words.specs.declared.WordsFault.TheVariants.{Usage, NoMemory}

abbrev pub fault_text : WordsFault → List ℕ
fault_text Usage = codes "bad command line"
fault_text NoMemory = codes "out of memory"
