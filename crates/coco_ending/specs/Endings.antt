-- How a call ends: the program's status, and its line on the error stream.
use Rattle.std.specs.Prelude.{ℕ, List, [], ◌∷◌, ◌++◌, codes, decimal}
use Rattle.coco_ending.specs.Messages.{error_text}
use Rattle.coco_ending.specs.declared.ending.Ending.{Ending}
use Rattle.coco_ending.specs.declared.ending.Ending.TheVariants.{Finished, BadCommandLine, ReadFault, SayFault, DiskFault, Unreachable, NoMemory, NotAStore, EpochsUsedUp, Refused, AlreadyThere, NotSerial, NoHolder, NoNode, NotWithin}

abbrev pub status_of : Ending → ℕ
status_of Finished = 0
status_of BadCommandLine = 1
status_of ReadFault = 2
status_of SayFault = 3
status_of DiskFault = 4
status_of Unreachable = 5
status_of NoMemory = 6
status_of (NotAStore file at) = 7
status_of EpochsUsedUp = 8
status_of (Refused e) = 9
status_of (AlreadyThere bytes) = 10
status_of (NotSerial place) = 11
status_of (NoHolder partition) = 12
status_of (NoNode node nodes) = 13
status_of (NotWithin epoch first last) = 14

-- what ends a line
abbrev feed : List ℕ
feed = 10 ∷ []

abbrev pub line_of : Ending → List ℕ
line_of Finished = []
line_of BadCommandLine = codes "coco: bad command line" ++ feed
line_of ReadFault = codes "coco: read fault" ++ feed
line_of SayFault = codes "coco: reply stream fault" ++ feed
line_of DiskFault = codes "coco: disk fault" ++ feed
line_of Unreachable = codes "coco: nodes unreachable after four epochs" ++ feed
line_of NoMemory = codes "coco: out of memory" ++ feed
line_of (NotAStore file at) = codes "coco: not a store: file " ++ (decimal file ++ (codes " at byte " ++ (decimal at ++ feed)))
line_of EpochsUsedUp = codes "coco: epochs used up" ++ feed
line_of (Refused e) = codes "coco: procedures refused: " ++ (error_text e ++ feed)
line_of (AlreadyThere bytes) = codes "coco: already there: file 0 has " ++ (decimal bytes ++ (codes " bytes" ++ feed))
line_of (NotSerial place) = codes "coco: not serial at " ++ (decimal place ++ feed)
line_of (NoHolder partition) = codes "coco: partition " ++ (decimal partition ++ (codes " has no other holder" ++ feed))
line_of (NoNode node nodes) = codes "coco: no node " ++ (decimal node ++ (codes " of " ++ (decimal nodes ++ feed)))
line_of (NotWithin epoch first last) = codes "coco: epoch " ++ (decimal epoch ++ (codes " is not in " ++ (decimal first ++ (codes " to " ++ (decimal last ++ feed)))))
