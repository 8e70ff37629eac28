-- What the rounds of the nets in memory give.
use Rattle.std.specs.Prelude.{ℕ, zero, suc, ◌+◌, ◌-◌, ◌^◌, ◌%◌, ◌==◌, ◌&&◌, ◌||◌, not, Bool, true, false, List, [], ◌∷◌, ◌++◌, map, take, length, replicate, nat_eq, nat_lt, Option, None, Some, if◌then◌else◌}
use Rattle.std.specs.Cmp.Lexicographic.{pointwise}
use Rattle.std.specs.List.{list_any}
use Rattle.rand_pcg.specs.Lcg.{Lcg}
use Rattle.rand_pcg.specs.Pcg.{pcg32}
use Rattle.coco_net.specs.declared.letter.Posted.{Posted}
use Rattle.coco_net.specs.declared.script.Lose.{Lose}
use Rattle.coco_net.specs.declared.script.Lose.TheVariants.{Nothing, All, To, FirstSend}
use Rattle.coco_net.specs.Mail.{MailState, fresh, given_more}

-- ---- a quiet round, and a flood

-- every letter sent since the last round, once
abbrev pub after_quiet : MailState → MailState
after_quiet s = given_more s (fresh s) [] false

-- every letter that was ever sent
abbrev pub after_flood : MailState → MailState
after_flood s = given_more s s.sent [] false

-- ---- a script

-- the same bytes, from the same place to the same place
abbrev pub is_same : Posted → Posted → Bool
is_same a b = (a.to == b.to) && (a.letter.from == b.letter.from) && pointwise nat_eq a.letter.bytes b.letter.bytes

-- whether the letter is lost, where these were sent before it
abbrev pub is_lost : Lose → List Posted → Posted → Bool
is_lost Nothing before p = false
is_lost All before p = true
is_lost (To n) before p = p.to == n
is_lost FirstSend before p = not (list_any (λ b. is_same b p) before)

-- the letters that aren't lost, each so often
abbrev pub script_gives : Lose → ℕ → List Posted → List Posted → List Posted
script_gives lose times before [] = []
script_gives lose times before (p ∷ ps) = (if is_lost lose before p then [] else replicate times p) ++ script_gives lose times (before ++ p ∷ []) ps

abbrev pub script_loses : Lose → List Posted → List Posted → Bool
script_loses lose before [] = false
script_loses lose before (p ∷ ps) = is_lost lose before p || script_loses lose (before ++ p ∷ []) ps

-- a count of faults at its end loses no more
abbrev pub still_loses : Lose → ℕ → Lose
still_loses lose faults = if nat_lt faults (2 ^ 64 - 1) then lose else Nothing

abbrev pub after_script : Lose → Bool → ℕ → MailState → MailState
after_script lose reverse times s =
    let lose = still_loses lose s.faults in
    let before = take s.since s.sent in
    given_more s (script_gives lose times before (fresh s)) (replicate 9 reverse) (script_loses lose before (fresh s))

-- whether a script carries an early delivery to a node
abbrev pub script_carries : Lose → ℕ → Bool
script_carries Nothing to = true
script_carries All to = false
script_carries (To n) to = not (to == n)
script_carries FirstSend to = false

-- ---- a seeded round

-- the next words of a generator, and the generator after so many
abbrev pub words : ℕ → Lcg → List ℕ
words zero g = []
words (suc n) g = (pcg32 g).0 ∷ words n (pcg32 g).1

abbrev pub after_words : ℕ → Lcg → Lcg
after_words zero g = g
after_words (suc n) g = after_words n (pcg32 g).1

-- a word for each of the nine places, and the generator after them
unfoldable pub place_words : Lcg → List ℕ
place_words g = words 9 g

unfoldable pub after_places : Lcg → Lcg
after_places g = after_words 9 g

abbrev pub loses_by : ℕ → Bool
loses_by word = word % 8 == 0

-- how often a letter is given, by its word; a count of faults at its end loses no more
abbrev pub times_by : Bool → ℕ → ℕ
times_by may_lose word = if loses_by word && may_lose then 0 else if word % 8 == 1 then 2 else 1

-- each letter as often as its word says
abbrev pub by_words : Bool → List ℕ → List Posted → List Posted
by_words may_lose [] ps = []
by_words may_lose (w ∷ ws) [] = []
by_words may_lose (w ∷ ws) (p ∷ ps) = replicate (times_by may_lose w) p ++ by_words may_lose ws ps

-- a word for each letter, and then one for each place
unfoldable pub after_seeded : Lcg → MailState → MailState
after_seeded g s =
    let may_lose = nat_lt s.faults (2 ^ 64 - 1) in
    let n = length (fresh s) in
    given_more s (by_words may_lose (words n g) (fresh s)) (map (λ w. w % 2 == 1) (place_words (after_words n g))) (may_lose && list_any loses_by (words n g))

-- the generator after such a round
unfoldable pub next_generator : Lcg → MailState → Lcg
next_generator g s = after_places (after_words (length (fresh s)) g)

-- whether a seeded net carries an early delivery
abbrev pub seed_carries : Option ℕ → ℕ → ℕ → ℕ → ℕ → Bool
seed_carries None epoch worker place to = true
seed_carries (Some seed) epoch worker place to = not ((seed + epoch + worker + place + to) % 2 ^ 64 % 8 == 0)
