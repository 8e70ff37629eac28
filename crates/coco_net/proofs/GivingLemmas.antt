-- What is given by the nets in memory was sent, and has what is new unless a letter is lost.
use Rattle.std.proofs.Common.{◌≡◌, ℕ, zero, suc, ◌+◌, ◌-◌, ◌^◌, ◌<◌, ◌≤◌, nat_lt, Result, Ok, Err, OnErr, ◌==◌, ◌&&◌, ◌||◌, Bool, true, false, cond, List, [], ◌∷◌, ◌++◌, map, length, drop, replicate, get_or, refl, sym, ap, ◌∙◌, subst, arith, inl, inr, ◌⊎◌, ◌%◌, length-drop}
use Rattle.std.specs.List.{All, AllByRecursion, Contains, list_any}
use Rattle.std.specs.List.Sorted.{IsPermutation}
use Rattle.std.proofs.lemmas.List.{drop_all, get_or-drop}
use Rattle.std.proofs.lemmas.List.Elements.{All-contains_itself, All-from_recursion, recursion_from_All, Contains-append_left, Contains-append_right}
use Rattle.std.proofs.lemmas.List.Sorted.{IsPermutation-refl, IsPermutation-reverse}
use Rattle.rand_pcg.specs.Lcg.{Lcg}
use Rattle.rand_pcg.specs.Pcg.{pcg32}
use Rattle.coco_net.specs.declared.letter.Posted.{Posted}
use Rattle.coco_net.specs.declared.script.Lose.{Lose}
use Rattle.coco_net.specs.Mail.{MailState, fresh, given_more, letters_to, turned, waiting_at}
use Rattle.coco_net.specs.Giving.{GivesMore}
use Rattle.coco_net.specs.Rounds.{after_seeded, after_words, by_words, is_lost, loses_by, place_words, script_gives, script_loses, times_by, words}
use Rattle.coco_net.proofs.MailLemmas.{at_place}
use Rattle.std.proofs.lemmas.Bool.{or_parts}

permuted : {X : Type 0} (b : Bool) (xs : List X) → IsPermutation xs (turned b xs)
permuted true xs = IsPermutation-reverse xs
permuted false xs = IsPermutation-refl xs

two_sides : true ≡ false → ⊥
two_sides h = cc

no_loss : (loses : Bool) (n : ℕ) → cond loses (n + 1) n ≡ n → loses ≡ false
no_loss true n h = absurd (omega arith)
no_loss false n h = refl

-- a round in memory gives what a net may give
pub gives : (s t : MailState) (these : List Posted) (turns : List Bool) (loses : Bool) → t ≡ given_more s these turns loses
    → All (Contains s.sent) these → (loses ≡ false → All (Contains these) (fresh s))
    → GivesMore s.sent (drop s.since s.sent) s.faults t.faults (waiting_at t) s.given t.given
gives s t these turns loses is sent new =
    subst (λ (t : MailState). GivesMore s.sent (drop s.since s.sent) s.faults t.faults (waiting_at t) s.given t.given) (sym is) (
      these,
      refl,
      record {
        were_sent = sent;
        new_ones = λ h. new (no_loss loses s.faults h);
        wait = λ place le. subst (IsPermutation (letters_to place these)) (sym (at_place turns these place (omega arith))) (permuted (get_or turns place false) (letters_to place these));
      },
    )

-- after a round nothing is new
pub none_fresh : (s t : MailState) (these : List Posted) (turns : List Bool) (loses : Bool) → t ≡ given_more s these turns loses → fresh t ≡ []
none_fresh s t these turns loses is = ap (λ (t : MailState). fresh t) is ∙ drop_all (length s.sent) s.sent (omega arith)

pub faults_more : (s t : MailState) (these : List Posted) (turns : List Bool) (loses : Bool) → t ≡ given_more s these turns loses → (t.faults ≡ s.faults) ⊎ (t.faults ≡ s.faults + 1)
faults_more s t these turns loses is = subst (λ (t : MailState). (t.faults ≡ s.faults) ⊎ (t.faults ≡ s.faults + 1)) (sym is) (by_loss loses)
  where
    by_loss : (b : Bool) → (cond b (s.faults + 1) s.faults ≡ s.faults) ⊎ (cond b (s.faults + 1) s.faults ≡ s.faults + 1)
    by_loss true = inr refl
    by_loss false = inl refl

dropped : {X : Type 0} (P : X → Type 0) (n : ℕ) (xs : List X) → All P xs → All P (drop n xs)
dropped P n xs all k d h = subst P (sym (get_or-drop n xs k d)) (all (n + k) d (within n xs k h))
  where
    within : {X : Type 0} (n : ℕ) (xs : List X) (k : ℕ) → k < length (drop n xs) → n + k < length xs
    within n xs k h = omega (arith, length-drop n xs)

-- what is new was sent
pub fresh_sent : (s : MailState) → All (Contains s.sent) (fresh s)
fresh_sent s = dropped (Contains s.sent) s.since s.sent (All-contains_itself s.sent)

-- ---- a script

all_more : {X : Type 0} (P : X → Type 0) (xs ys : List X) → AllByRecursion P xs → AllByRecursion P ys → AllByRecursion P (xs ++ ys)
all_more P [] ys a b = b
all_more P (x ∷ xs) ys a b = (a.0, all_more P xs ys a.1 b)

all_copies : {X : Type 0} (P : X → Type 0) (n : ℕ) (x : X) → P x → AllByRecursion P (replicate n x)
all_copies P zero x h = tt
all_copies P (suc n) x h = (h, all_copies P n x h)

unless : {X : Type 0} (P : List X → Type 0) (b : Bool) (xs : List X) → P [] → P xs → P (cond b [] xs)
unless P true xs none some = none
unless P false xs none some = some

script_sent : (P : Posted → Type 0) (lose : Lose) (times : ℕ) (before ps : List Posted) → AllByRecursion P ps → AllByRecursion P (script_gives lose times before ps)
script_sent P lose times before [] all = tt
script_sent P lose times before (p ∷ ps) all =
    all_more P (cond (is_lost lose before p) [] (replicate times p)) (script_gives lose times (before ++ p ∷ []) ps)
    (unless (AllByRecursion P) (is_lost lose before p) (replicate times p) tt (all_copies P times p all.0))
    (script_sent P lose times (before ++ p ∷ []) ps all.1)

has_copy : {X : Type 0} (n : ℕ) (x : X) → 1 ≤ n → Contains (replicate n x) x
has_copy zero x h = absurd (omega arith)
has_copy (suc n) x h = Contains-append_left (x ∷ []) (replicate n x) x (0, omega arith, refl)

all_wider : {X : Type 0} (xs ys zs : List X) → AllByRecursion (Contains ys) zs → AllByRecursion (Contains (xs ++ ys)) zs
all_wider xs ys [] all = tt
all_wider xs ys (z ∷ zs) all = (Contains-append_right xs ys z all.0, all_wider xs ys zs all.1)

script_new : (lose : Lose) (times : ℕ) (before ps : List Posted) → 1 ≤ times → script_loses lose before ps ≡ false → AllByRecursion (Contains (script_gives lose times before ps)) ps
script_new lose times before [] one h = tt
script_new lose times before (p ∷ ps) one h =
    let kept = or_parts (is_lost lose before p) (script_loses lose (before ++ p ∷ []) ps) h in
    let rest = script_gives lose times (before ++ p ∷ []) ps in
    subst (λ b. AllByRecursion (Contains (cond b [] (replicate times p) ++ rest)) (p ∷ ps)) (sym kept.0)
    (Contains-append_left (replicate times p) rest p (has_copy times p one), all_wider (replicate times p) rest ps (script_new lose times (before ++ p ∷ []) ps one kept.1))

pub script_sent_all : (s : MailState) (lose : Lose) (times : ℕ) (before : List Posted) → All (Contains s.sent) (script_gives lose times before (fresh s))
script_sent_all s lose times before =
    All-from_recursion (Contains s.sent) (script_gives lose times before (fresh s)) (script_sent (Contains s.sent) lose times before (fresh s) (recursion_from_All (Contains s.sent) (fresh s) (fresh_sent s)))

pub script_new_all : (s : MailState) (lose : Lose) (times : ℕ) (before : List Posted) → 1 ≤ times → script_loses lose before (fresh s) ≡ false → All (Contains (script_gives lose times before (fresh s))) (fresh s)
script_new_all s lose times before one h =
    All-from_recursion (Contains (script_gives lose times before (fresh s))) (fresh s) (script_new lose times before (fresh s) one h)

-- ---- words

words_sent : (P : Posted → Type 0) (may : Bool) (ws : List ℕ) (ps : List Posted) → AllByRecursion P ps → AllByRecursion P (by_words may ws ps)
words_sent P may [] ps all = tt
words_sent P may (w ∷ ws) [] all = tt
words_sent P may (w ∷ ws) (p ∷ ps) all = all_more P (replicate (times_by may w) p) (by_words may ws ps) (all_copies P (times_by may w) p all.0) (words_sent P may ws ps all.1)

given_once : (may lost two : Bool) → (may && lost) ≡ false → 1 ≤ cond (lost && may) 0 (cond two 2 1)
given_once true true two h = absurd (two_sides h)
given_once true false true h = omega arith
given_once true false false h = omega arith
given_once false true true h = omega arith
given_once false true false h = omega arith
given_once false false true h = omega arith
given_once false false false h = omega arith

apart_loss : (may a b : Bool) → (may && (a || b)) ≡ false → ((may && a) ≡ false) × ((may && b) ≡ false)
apart_loss true a b h = or_parts a b h
apart_loss false a b h = (refl, refl)

words_new : (may : Bool) (ws : List ℕ) (ps : List Posted) → length ws ≡ length ps → (may && list_any loses_by ws) ≡ false → AllByRecursion (Contains (by_words may ws ps)) ps
words_new may ws [] len h = tt
words_new may [] (p ∷ ps) len h = absurd (omega arith)
words_new may (w ∷ ws) (p ∷ ps) len h =
    let kept = apart_loss may (loses_by w) (list_any loses_by ws) h in
    let rest = by_words may ws ps in (
      Contains-append_left (replicate (times_by may w) p) rest p (has_copy (times_by may w) p (given_once may (loses_by w) (w % 8 == 1) kept.0)),
      all_wider (replicate (times_by may w) p) rest ps (words_new may ws ps (omega arith) kept.1),
    )

length-words : (n : ℕ) (g : Lcg) → length (words n g) ≡ n
length-words zero g = refl
length-words (suc n) g = ap suc (length-words n (pcg32 g).1)

pub words_sent_all : (s : MailState) (may : Bool) (ws : List ℕ) → All (Contains s.sent) (by_words may ws (fresh s))
words_sent_all s may ws =
    All-from_recursion (Contains s.sent) (by_words may ws (fresh s)) (words_sent (Contains s.sent) may ws (fresh s) (recursion_from_All (Contains s.sent) (fresh s) (fresh_sent s)))

pub words_new_all : (s : MailState) (may : Bool) (g : Lcg) → (may && list_any loses_by (words (length (fresh s)) g)) ≡ false → All (Contains (by_words may (words (length (fresh s)) g) (fresh s))) (fresh s)
words_new_all s may g h =
    All-from_recursion (Contains (by_words may (words (length (fresh s)) g) (fresh s))) (fresh s) (words_new may (words (length (fresh s)) g) (fresh s) (length-words (length (fresh s)) g) h)

pub seeded_gives : (s t : MailState) (g : Lcg) → t ≡ after_seeded g s → GivesMore s.sent (drop s.since s.sent) s.faults t.faults (waiting_at t) s.given t.given
unfolding after_seeded
seeded_gives s t g is =
    let may : Bool = nat_lt s.faults (2 ^ 64 - 1) in
    let n : ℕ = length (fresh s) in
    gives s t (by_words may (words n g) (fresh s)) (map (λ w. w % 2 == 1) (place_words (after_words n g))) (may && list_any loses_by (words n g)) is (words_sent_all s may (words n g)) (words_new_all s may g)

pub seeded_faults : (s t : MailState) (g : Lcg) → t ≡ after_seeded g s → (t.faults ≡ s.faults) ⊎ (t.faults ≡ s.faults + 1)
unfolding after_seeded
seeded_faults s t g is =
    let may : Bool = nat_lt s.faults (2 ^ 64 - 1) in
    let n : ℕ = length (fresh s) in
    faults_more s t (by_words may (words n g) (fresh s)) (map (λ w. w % 2 == 1) (place_words (after_words n g))) (may && list_any loses_by (words n g)) is

pub always_err : {A E : Type 0} {P : Type 0} (r : Result A E) → P → OnErr r P
always_err (Ok x) p = tt
always_err (Err e) p = p

pub seeded_keeps : (s t : MailState) (g : Lcg) → t ≡ after_seeded g s → (fresh t ≡ []) × (t.sent ≡ s.sent) × (t.seed ≡ s.seed)
unfolding after_seeded
seeded_keeps s t g is = (ap (λ (u : MailState). fresh u) is ∙ drop_all (length s.sent) s.sent (omega arith), ap (λ (u : MailState). u.sent) is, ap (λ (u : MailState). u.seed) is)
