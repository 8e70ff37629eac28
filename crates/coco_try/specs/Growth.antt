-- How a history grows by batches of requests that are there at once.
use Rattle.std.specs.Prelude.{◌≡◌, ℕ, ◌*◌, ◌≤◌, List, [], ◌∷◌, length, drop, map, take, Some}
use Rattle.std.specs.List.{range_with_len}
use Rattle.coco_types.specs.declared.call.Request.{Request}
use Rattle.coco_ast.specs.History.{History}
use Rattle.coco_lines.specs.Classes.{Known, and_known, known_in, new_in, new_of, request_tests}
use Rattle.coco_lines.specs.Reading.{first_that_fits}
use Rattle.coco_lines.specs.declared.class.Class.{Class}
use Rattle.coco_serve.specs.Growth.{GrowsByExecution, Manner}

-- ---- batches

-- the batch at this place, counted from 0: of so many requests; the last may be shorter
abbrev pub part_at : ℕ → List Request → ℕ → List Request
part_at size requests place = take size (drop (place * size) requests)

-- the first so many batches
abbrev pub parts_of : ℕ → List Request → ℕ → List (List Request)
parts_of size requests count = map (part_at size requests) (range_with_len 0 count)

-- they are all
abbrev pub AreAllParts : ℕ → List Request → ℕ → Type 0
AreAllParts size requests count = length requests ≤ count * size

-- ---- classes

-- the class of a request is that of a line that was read as this request: the first that fits of same, reused, old, full and new
abbrev pub IsClassOf : Known → Request → Class → Type 0
IsClassOf k r c = first_that_fits (request_tests k (Some r)) ≡ Some c

-- the classes of the requests of a batch: what is new in one is known to the next
abbrev pub AreClassesOf : Known → List Request → List Class → Type 0
AreClassesOf k [] cs = cs ≡ []
AreClassesOf k (r ∷ rs) [] = ⊥
AreClassesOf k (r ∷ rs) (c ∷ cs) = IsClassOf k r c × AreClassesOf (and_known k (new_in c)) rs cs

-- ---- growth

-- by one batch after another: by one epoch for each that has a request of class new, as an execution has its Dones
abbrev pub GrowsByParts : Manner → History → List (List Request) → List (List Class) → History → Type 0
GrowsByParts m before [] classes after = (classes ≡ []) × (after ≡ before)
GrowsByParts m before (part ∷ parts) [] after = ⊥
GrowsByParts m before (part ∷ parts) (cs ∷ classes) after =
    (between : History) × AreClassesOf (known_in before) part cs × GrowsByExecution m before (new_of cs) between × GrowsByParts m between parts classes after
