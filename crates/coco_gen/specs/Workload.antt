-- The requests that a seed makes.
use Rattle.std.specs.Prelude.{ℕ, zero, suc, ◌+◌, ◌*◌, ◌/◌, ◌%◌, ◌==◌, ℤ, pos, neg_ℤ, false, List, [], ◌∷◌, map, Some, if◌then◌else◌}
use Rattle.std.specs.List.{range_with_len}
use Rattle.rand_core.specs.Pcg32Seed.{pcg32_seed}
use Rattle.rand_pcg.specs.Lcg.{Lcg}
use Rattle.rand_pcg.specs.Pcg.{pcg32, pcg32_of_seed}
use Rattle.coco_types.specs.declared.call.Request.{Request}
use Rattle.coco_types.specs.declared.value.Value.TheVariants.{Int}

-- ---- the words

abbrev pub generator_of : ℕ → Lcg
generator_of seed = pcg32_of_seed (pcg32_seed 16 seed)

-- the generator behind so many words
unfoldable pub words_from : ℕ → Lcg → Lcg
words_from zero g = g
words_from (suc n) g = (pcg32 (words_from n g)).1

-- the word at this place, counted from 0
unfoldable pub word_at : ℕ → ℕ → ℕ
word_at seed n = (pcg32 (words_from n (generator_of seed))).0

-- ---- the requests

-- the built-in `add`, of an amount to a row of table `main`
abbrev pub request_of : ℕ → ℕ → ℤ → Request
request_of id row amount = record { id = id; call = record { proc_no = 2; snapshot = false; args = Some (Int (pos row)) ∷ Some (Int amount) ∷ [] } }

-- the request at this place, counted from 0. Three words make two requests: the first adds to a row, and the second takes as
-- much from another
abbrev pub request_at : ℕ → ℕ → Request
request_at seed place =
    let first = 3 * (place / 2) in
    let id = seed * 1048576 + place + 1 in
    let amount = pos (word_at seed (first + 1) % 1000 + 1) in
    if place % 2 == 0 then request_of id (word_at seed first % 1000) amount else request_of id (word_at seed (first + 2) % 1000) (neg_ℤ amount)

abbrev pub workload_of : ℕ → ℕ → List Request
workload_of calls seed = map (request_at seed) (range_with_len 0 calls)
