-- The numbers that a round chooses, one letter after another.
use Rattle.std.proofs.Common.{add_assoc, ◌≡◌, ℕ, zero, suc, ◌+◌, ◌-◌, ◌^◌, ◌<◌, ◌&&◌, nat_lt, ◌||◌, Bool, true, false, cond, List, [], ◌∷◌, ◌++◌, ◌==◌, ◌%◌, map, length, drop, take, replicate, get_or, refl, sym, ap, ◌∙◌, subst, arith, append_assoc}
use Rattle.std.specs.List.{All, list_any}
use Rattle.std.proofs.lemmas.Bool.{ltb-true}
use Rattle.std.proofs.lemmas.List.{drop_more, take_more}
use Rattle.rand_pcg.specs.Lcg.{Lcg}
use Rattle.rand_pcg.specs.Pcg.{pcg32}
use Rattle.coco_net.specs.declared.letter.Posted.{Posted}
use Rattle.coco_net.specs.declared.script.Lose.{Lose}
use Rattle.coco_net.specs.declared.script.Lose.TheVariants.{Nothing}
use Rattle.std.proofs.Math.Nat.{mod-add-mod}
use Rattle.coco_net.specs.Mail.{MailState, fresh, given_more, picked}
use Rattle.coco_net.specs.Rounds.{after_places, after_seeded, after_words, by_words, is_lost, loses_by, next_generator, place_words, script_gives, script_loses, still_loses, times_by, words}
use Rattle.coco_net.proofs.MailLemmas.{all_pushed, any_posted, picked-append, picked_one}

-- a number so often is its letter so often
picked_copies : (sent : List Posted) (n t : ℕ) → n < length sent → picked sent (replicate t n) ≡ replicate t (get_or sent n any_posted)
picked_copies sent n zero h = refl
picked_copies sent n (suc t) h = picked-append sent (n ∷ []) (replicate t n) ∙ ap (λ ps. ps ++ picked sent (replicate t n)) (picked_one sent n any_posted h) ∙ ap (λ ps. get_or sent n any_posted ∷ ps) (picked_copies sent n t h)

pub picked_more : (sent : List Posted) (numbers new : List ℕ) (n t : ℕ) → n < length sent → new ≡ numbers ++ replicate t n → picked sent new ≡ picked sent numbers ++ replicate t (get_or sent n any_posted)
picked_more sent numbers new n t h is = ap (picked sent) is ∙ picked-append sent numbers (replicate t n) ∙ ap (λ ps. picked sent numbers ++ ps) (picked_copies sent n t h)

pub within_more : (count : ℕ) (numbers new : List ℕ) (n t : ℕ) → n < count → new ≡ numbers ++ replicate t n → All (λ m. m < count) numbers → All (λ m. m < count) new
within_more count numbers new n t h is all = subst (All (λ m. m < count)) (sym is) (copies t)
  where
    one : (t : ℕ) → numbers ++ replicate (suc t) n ≡ (numbers ++ n ∷ []) ++ replicate t n
    one t = sym (append_assoc numbers (n ∷ []) (replicate t n))

    pushed : (t : ℕ) (ms : List ℕ) → All (λ m. m < count) ms → All (λ m. m < count) (ms ++ replicate t n)
    pushed zero ms all = subst (All (λ m. m < count)) (sym (nothing ms)) all
      where
        nothing : (ms : List ℕ) → ms ++ [] ≡ ms
        nothing [] = refl
        nothing (m ∷ ms) = ap (λ z. m ∷ z) (nothing ms)
    pushed (suc t) ms all = subst (All (λ m. m < count)) (append_assoc ms (n ∷ []) (replicate t n)) (pushed t (ms ++ n ∷ []) (all_pushed (λ m. m < count) ms (ms ++ n ∷ []) n refl all h))

    copies : (t : ℕ) → All (λ m. m < count) (numbers ++ replicate t n)
    copies t = pushed t numbers all

no_times : (lost : Bool) (times : ℕ) (p : Posted) → replicate (cond lost 0 times) p ≡ cond lost [] (replicate times p)
no_times true times p = refl
no_times false times p = refl

-- ---- a script

pub script_step : (sent : List Posted) (lose : Lose) (times n t : ℕ) (numbers new : List ℕ) (lost : Bool) → n < length sent
    → lost ≡ is_lost lose (take n sent) (get_or sent n any_posted) → t ≡ cond lost 0 times → new ≡ numbers ++ replicate t n
    → picked sent new ++ script_gives lose times (take (n + 1) sent) (drop (n + 1) sent) ≡ picked sent numbers ++ script_gives lose times (take n sent) (drop n sent)
script_step sent lose times n t numbers new lost h told often is =
    let p : Posted = get_or sent n any_posted in
    let rest : List Posted = script_gives lose times (take n sent ++ p ∷ []) (drop (n + 1) sent) in
    ap (λ ps. ps ++ script_gives lose times (take (n + 1) sent) (drop (n + 1) sent)) (picked_more sent numbers new n t h is)
    ∙ append_assoc (picked sent numbers) (replicate t p) (script_gives lose times (take (n + 1) sent) (drop (n + 1) sent))
    ∙ ap (λ before. picked sent numbers ++ (replicate t p ++ script_gives lose times before (drop (n + 1) sent))) (take_more sent n any_posted h)
    ∙ ap (λ ps. picked sent numbers ++ (ps ++ rest)) (ap (λ t. replicate t p) often ∙ no_times lost times p ∙ ap (λ b. cond b [] (replicate times p)) told)
    ∙ ap (λ ps. picked sent numbers ++ script_gives lose times (take n sent) ps) (sym (drop_more sent n any_posted h))

or_assoc : (a b c : Bool) → ((a || b) || c) ≡ (a || (b || c))
or_assoc true b c = refl
or_assoc false b c = refl

pub script_loss : (sent : List Posted) (lose : Lose) (n : ℕ) (loses lost both : Bool) → n < length sent
    → lost ≡ is_lost lose (take n sent) (get_or sent n any_posted) → both ≡ (loses || lost)
    → (both || script_loses lose (take (n + 1) sent) (drop (n + 1) sent)) ≡ (loses || script_loses lose (take n sent) (drop n sent))
script_loss sent lose n loses lost both h told is =
    let p : Posted = get_or sent n any_posted in
    ap (λ b. b || script_loses lose (take (n + 1) sent) (drop (n + 1) sent)) is ∙ or_assoc loses lost (script_loses lose (take (n + 1) sent) (drop (n + 1) sent))
    ∙ ap (λ before. loses || (lost || script_loses lose before (drop (n + 1) sent))) (take_more sent n any_posted h)
    ∙ ap (λ b. loses || (b || script_loses lose (take n sent ++ p ∷ []) (drop (n + 1) sent))) told
    ∙ ap (λ ps. loses || script_loses lose (take n sent) ps) (sym (drop_more sent n any_posted h))

nothing_lost : (before ps : List Posted) → script_loses Nothing before ps ≡ false
nothing_lost before [] = refl
nothing_lost before (p ∷ ps) = nothing_lost (before ++ p ∷ []) ps

-- a letter is lost only where the count of faults isn't at its end
pub loses_below : (lose told : Lose) (faults : ℕ) (loses : Bool) (before ps : List Posted) → told ≡ still_loses lose faults → loses ≡ script_loses told before ps → loses ≡ true → faults < 2 ^ 64 - 1
loses_below lose told faults loses before ps by is lost = below (nat_lt faults (2 ^ 64 - 1)) refl (sym (ap (λ l. script_loses l before ps) by) ∙ sym is ∙ lost)
  where
    below : (b : Bool) → nat_lt faults (2 ^ 64 - 1) ≡ b → script_loses (cond b lose Nothing) before ps ≡ true → faults < 2 ^ 64 - 1
    below true less lost = ltb-true faults (2 ^ 64 - 1) less
    below false more lost = absurd (apart (sym (nothing_lost before ps) ∙ lost))
      where
        apart : false ≡ true → ⊥
        apart e = cc

-- ---- words

pub words_step : (sent : List Posted) (may : Bool) (n t : ℕ) (numbers new : List ℕ) (g : Lcg) → n < length sent → t ≡ times_by may (pcg32 g).0 → new ≡ numbers ++ replicate t n
    → picked sent new ++ by_words may (words (length (drop (n + 1) sent)) (pcg32 g).1) (drop (n + 1) sent) ≡ picked sent numbers ++ by_words may (words (length (drop n sent)) g) (drop n sent)
words_step sent may n t numbers new g h often is =
    let p : Posted = get_or sent n any_posted in
    let rest : List Posted = by_words may (words (length (drop (n + 1) sent)) (pcg32 g).1) (drop (n + 1) sent) in
    ap (λ ps. ps ++ rest) (picked_more sent numbers new n t h is) ∙ append_assoc (picked sent numbers) (replicate t p) rest
    ∙ ap (λ t. picked sent numbers ++ (replicate t p ++ rest)) often
    ∙ ap (λ ps. picked sent numbers ++ by_words may (words (length ps) g) ps) (sym (drop_more sent n any_posted h))

and_or : (may a b : Bool) → ((may && a) || (may && b)) ≡ (may && (a || b))
and_or true a b = refl
and_or false a b = refl

pub words_loss : (sent : List Posted) (may : Bool) (n : ℕ) (loses both : Bool) (g : Lcg) → n < length sent → both ≡ (loses || (may && loses_by (pcg32 g).0))
    → (both || (may && list_any loses_by (words (length (drop (n + 1) sent)) (pcg32 g).1))) ≡ (loses || (may && list_any loses_by (words (length (drop n sent)) g)))
words_loss sent may n loses both g h is =
    let rest : Bool = list_any loses_by (words (length (drop (n + 1) sent)) (pcg32 g).1) in
    ap (λ b. b || (may && rest)) is ∙ or_assoc loses (may && loses_by (pcg32 g).0) (may && rest) ∙ ap (λ b. loses || b) (and_or may (loses_by (pcg32 g).0) rest)
    ∙ ap (λ (ps : List Posted). loses || (may && list_any loses_by (words (length ps) g))) (sym (drop_more sent n any_posted h))

pub words_after : (sent : List Posted) (n : ℕ) (g : Lcg) → n < length sent → after_words (length (drop (n + 1) sent)) (pcg32 g).1 ≡ after_words (length (drop n sent)) g
words_after sent n g h = ap (λ (ps : List Posted). after_words (length ps) g) (sym (drop_more sent n any_posted h))

-- one place more
pub turns_more : (old new : List Bool) (g h : Lcg) (word m n : ℕ) → m ≡ suc n → (word, h) ≡ pcg32 g → new ≡ old ++ (word % 2 == 1) ∷ []
    → new ++ map (λ w. w % 2 == 1) (words n h) ≡ old ++ map (λ w. w % 2 == 1) (words m g)
turns_more old new g h word m n left drawn is =
    ap (λ ts. ts ++ map (λ w. w % 2 == 1) (words n h)) is ∙ append_assoc old ((word % 2 == 1) ∷ []) (map (λ w. w % 2 == 1) (words n h))
    ∙ ap (λ (p : ℕ × Lcg). old ++ ((p.0 % 2 == 1) ∷ map (λ w. w % 2 == 1) (words n p.1))) drawn
    ∙ ap (λ m. old ++ map (λ w. w % 2 == 1) (words m g)) (sym left)

pub words_less : (g h : Lcg) (word m n : ℕ) → m ≡ suc n → (word, h) ≡ pcg32 g → after_words n h ≡ after_words m g
words_less g h word m n left drawn = ap (λ (p : ℕ × Lcg). after_words n p.1) drawn ∙ ap (λ m. after_words m g) (sym left)

-- a letter is lost only where the count of faults isn't at its end
pub lost_below : (faults : ℕ) (may loses some : Bool) → may ≡ nat_lt faults (2 ^ 64 - 1) → loses ≡ (may && some) → loses ≡ true → faults < 2 ^ 64 - 1
lost_below faults may loses some by is lost = ltb-true faults (2 ^ 64 - 1) (sym by ∙ first may some (sym is ∙ lost))
  where
    first : (a b : Bool) → (a && b) ≡ true → a ≡ true
    first true b h = refl
    first false b h = h

no_end : {X : Type 0} (xs : List X) → xs ++ [] ≡ xs
no_end [] = refl
no_end (x ∷ xs) = ap (λ ys. x ∷ ys) (no_end xs)

pub all_turned : (ts : List Bool) (n : ℕ) (g : Lcg) → n ≡ 0 → ts ≡ ts ++ map (λ w. w % 2 == 1) (words n g)
all_turned ts n g none = sym (ap (λ n. ts ++ map (λ w. w % 2 == 1) (words n g)) none ∙ no_end ts)

pub no_more_words : (n : ℕ) (g : Lcg) → n ≡ 0 → g ≡ after_words n g
no_more_words n g none = sym (ap (λ n. after_words n g) none)

-- a sum that wraps at each step
pub wrapped_sum : (m s a b c d : ℕ) → ((((s + a) % m + b) % m + c) % m + d) % m ≡ (s + a + b + c + d) % m
wrapped_sum m s a b c d =
    mod-add-mod (((s + a) % m + b) % m + c) m d
    ∙ ap (λ n. n % m) (add_assoc (((s + a) % m + b) % m) c d) ∙ mod-add-mod ((s + a) % m + b) m (c + d)
    ∙ ap (λ n. n % m) (add_assoc ((s + a) % m) b (c + d)) ∙ mod-add-mod (s + a) m (b + (c + d))
    ∙ ap (λ n. n % m) (regrouped s a b c d)
  where
    regrouped : (s a b c d : ℕ) → s + a + (b + (c + d)) ≡ s + a + b + c + d
    regrouped s a b c d = omega arith

-- a seeded round, by what was chosen
pub seeded_is : (s t : MailState) (g h : Lcg) (may loses : Bool) (these : List Posted) (turns : List Bool)
    → t ≡ given_more s these turns loses → h ≡ g → may ≡ nat_lt s.faults (2 ^ 64 - 1)
    → these ≡ by_words may (words (length (fresh s)) h) (fresh s)
    → loses ≡ (may && list_any loses_by (words (length (fresh s)) h))
    → turns ≡ map (λ w. w % 2 == 1) (place_words (after_words (length (fresh s)) h)) → t ≡ after_seeded g s
unfolding after_seeded
seeded_is s t g h may loses these turns is same by given lost turned =
    is ∙ ap (λ ps. given_more s ps turns loses) given ∙ ap (λ ts. given_more s (by_words may (words (length (fresh s)) h) (fresh s)) ts loses) turned
    ∙ ap (λ b. given_more s (by_words may (words (length (fresh s)) h) (fresh s)) (map (λ w. w % 2 == 1) (place_words (after_words (length (fresh s)) h))) b) lost
    ∙ ap (λ may. given_more s (by_words may (words (length (fresh s)) h) (fresh s)) (map (λ w. w % 2 == 1) (place_words (after_words (length (fresh s)) h))) (may && list_any loses_by (words (length (fresh s)) h))) by
    ∙ ap (λ g. given_more s (by_words (nat_lt s.faults (2 ^ 64 - 1)) (words (length (fresh s)) g) (fresh s)) (map (λ w. w % 2 == 1) (place_words (after_words (length (fresh s)) g))) (nat_lt s.faults (2 ^ 64 - 1) && list_any loses_by (words (length (fresh s)) g))) same

pub next_is : (s : MailState) (g h m n : Lcg) → h ≡ g → m ≡ after_words (length (fresh s)) h → n ≡ after_places m → n ≡ next_generator g s
unfolding next_generator
next_is s g h m n same drawn placed = placed ∙ ap after_places (drawn ∙ ap (after_words (length (fresh s))) same)

pub begin_turns : (ts : List Bool) (n : ℕ) (g : Lcg) → ts ≡ [] → n ≡ 9 → ts ++ map (λ w. w % 2 == 1) (words n g) ≡ map (λ w. w % 2 == 1) (place_words g)
unfolding place_words
begin_turns ts n g none nine = ap (λ ts. ts ++ map (λ w. w % 2 == 1) (words n g)) none ∙ ap (λ n. map (λ w. w % 2 == 1) (words n g)) nine

pub begin_after : (n : ℕ) (g : Lcg) → n ≡ 9 → after_words n g ≡ after_places g
unfolding after_places
begin_after n g nine = ap (λ n. after_words n g) nine
