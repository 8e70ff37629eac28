-- Letters picked by their numbers, and the boxes of the places.
use Rattle.std.proofs.Common.{◌≡◌, ℕ, zero, suc, ◌+◌, ◌^◌, ◌<◌, ◌==◌, Bool, true, false, cond, List, [], ◌∷◌, ◌++◌, map, length, drop, take, append_assoc, get_or, Option, None, Some, refl, sym, ap, ◌∙◌, subst, arith, inl, inr}
use Rattle.std.proofs.Math.ListN.{set}
use Rattle.std.specs.List.{All, AllByRecursion, cons_option, slice_get}
use Rattle.std.specs.Option.{MatchOption, option_to_list}
use Rattle.std.proofs.Math.Seq.{drop-append_seam}
use Rattle.std.proofs.lemmas.List.{append-nil, drop_more, length-reverse, get_or-map, get_or-set_same, get_or-set_other, get_or_push, length_push, map-set, nil_from_length, take_more}
use Rattle.std.proofs.lemmas.List.Elements.{All-from_recursion, All-set, recursion_from_All}
use Rattle.std.proofs.lemmas.Bool.{cases_lt}
use Rattle.std.proofs.lemmas.Option.{slice_get-get_or}
use Rattle.coco_net.specs.declared.letter.Letter.{Letter}
use Rattle.coco_net.specs.declared.letter.Posted.{Posted}
use Rattle.coco_net.specs.Mail.{MailState, below, boxed, given_more, IsFew, letters_to, picked, turned}

-- ---- picked letters

cons_more : {X : Type 0} (o : Option X) (xs ys : List X) → cons_option o (xs ++ ys) ≡ cons_option o xs ++ ys
cons_more None xs ys = refl
cons_more (Some x) xs ys = refl

pub picked-append : (sent : List Posted) (ns ms : List ℕ) → picked sent (ns ++ ms) ≡ picked sent ns ++ picked sent ms
picked-append sent [] ms = refl
picked-append sent (n ∷ ns) ms = ap (cons_option (slice_get sent n)) (picked-append sent ns ms) ∙ cons_more (slice_get sent n) (picked sent ns) (picked sent ms)

pub picked_one : (sent : List Posted) (n : ℕ) (d : Posted) → n < length sent → picked sent (n ∷ []) ≡ get_or sent n d ∷ []
picked_one sent n d h = ap (λ o. cons_option o []) (slice_get-get_or sent n d h)

-- ---- letters to a place

pub letters_to-append : (place : ℕ) (ps qs : List Posted) → letters_to place (ps ++ qs) ≡ letters_to place ps ++ letters_to place qs
letters_to-append place [] qs = refl
letters_to-append place (p ∷ ps) qs =
    elim (p.to == place) as (λ b. cond b (p.letter ∷ letters_to place (ps ++ qs)) (letters_to place (ps ++ qs)) ≡ cond b (p.letter ∷ letters_to place ps) (letters_to place ps) ++ letters_to place qs) [
      | true ↦ ap (λ ls. p.letter ∷ ls) (letters_to-append place ps qs)
      | false ↦ letters_to-append place ps qs
    ]

-- one number more
pub letters_more : (place : ℕ) (sent : List Posted) (ns : List ℕ) (n : ℕ) (d : Posted) → n < length sent
    → letters_to place (picked sent (ns ++ n ∷ [])) ≡ letters_to place (picked sent ns) ++ letters_to place (get_or sent n d ∷ [])
letters_more place sent ns n d h =
    ap (letters_to place) (picked-append sent ns (n ∷ []) ∙ ap (λ ps. picked sent ns ++ ps) (picked_one sent n d h)) ∙ letters_to-append place (picked sent ns) (get_or sent n d ∷ [])

-- ---- the nine boxes

pub length-below : (n : ℕ) → length (below n) ≡ n
length-below zero = refl
length-below (suc n) = let e : length (below n) ≡ n = length-below n in length_push (below n) n ∙ omega arith

map-push : {X Y : Type 0} (f : X → Y) (xs : List X) (x : X) → map f (xs ++ x ∷ []) ≡ map f xs ++ f x ∷ []
map-push f [] x = refl
map-push f (y ∷ xs) x = ap (λ ys. f y ∷ ys) (map-push f xs x)

pub map_below_more : {Y : Type 0} (f : ℕ → Y) (n : ℕ) → map f (below (n + 1)) ≡ map f (below n) ++ f n ∷ []
map_below_more f n = ap (λ m. map f (below m)) (one_more n) ∙ map-push f (below n) n
  where
    one_more : (n : ℕ) → n + 1 ≡ suc n
    one_more n = omega arith

read_below : (n p d : ℕ) → p < n → get_or (below n) p d ≡ p
read_below zero p d h = absurd (omega arith)
read_below (suc n) p d h = elim (cases_lt p n) [
  | inl less ↦ left (below n) n p d (let e : length (below n) ≡ n = length-below n in omega arith) ∙ read_below n p d less
  | inr more ↦ let same : p ≡ n = omega arith in ap (λ q. get_or (below n ++ n ∷ []) q d) same ∙ get_or_push (below n) n d n (length-below n) ∙ sym same
]
  where
    left : (xs : List ℕ) (x p d : ℕ) → p < length xs → get_or (xs ++ x ∷ []) p d ≡ get_or xs p d
    left [] x p d h = absurd (omega arith)
    left (y ∷ xs) x zero d h = refl
    left (y ∷ xs) x (suc p) d h = left xs x p d (omega arith)

-- what lies at a place
pub at_place : (turns : List Bool) (these : List Posted) (place : ℕ) → place < 9 → get_or (boxed turns these) place [] ≡ turned (get_or turns place false) (letters_to place these)
at_place turns these place h =
    let box : ℕ → List Letter = λ p. turned (get_or turns p false) (letters_to p these) in
    get_or-map box (below 9) place 0 [] (let e : length (below 9) ≡ 9 = length-below 9 in omega arith) ∙ ap box (read_below 9 place 0 h)

-- ---- one box of many

module _ {B : Type 0} (f : B → List Letter) where
  pub few_set : (bs : List B) (i : ℕ) (b : B) → IsFew (map f bs) → length (f b) < 2 ^ 32 → IsFew (map f (set bs i b))
  few_set bs i b few h = subst IsFew (sym (map-set f bs i b)) (All-set (λ l. length l < 2 ^ 32) (map f bs) i (f b) h few)

  length-map : (bs : List B) → length (map f bs) ≡ length bs
  length-map [] = refl
  length-map (b ∷ bs) = ap suc (length-map bs)

  pub box_same : (bs : List B) (i : ℕ) (b : B) → i < length bs → get_or (map f (set bs i b)) i [] ≡ f b
  box_same bs i b h = ap (λ ls. get_or ls i []) (map-set f bs i b) ∙ get_or-set_same (map f bs) i (f b) [] (let e : length (map f bs) ≡ length bs = length-map bs in omega arith)

  pub box_other : (bs : List B) (i p : ℕ) (b : B) → (p ≡ i → ⊥) → get_or (map f (set bs i b)) p [] ≡ get_or (map f bs) p []
  box_other bs i p b h = ap (λ ls. get_or ls p []) (map-set f bs i b) ∙ get_or-set_other (map f bs) i p (f b) [] h

  pub box_at : (bs : List B) (i : ℕ) (b : B) → b ≡ get_or bs i b → i < length bs → get_or (map f bs) i [] ≡ f b
  box_at bs i b is h = get_or-map f bs i b [] h ∙ ap f (sym is)

  pub few_at : (bs : List B) (i : ℕ) (b : B) → IsFew (map f bs) → b ≡ get_or bs i b → i < length bs → length (f b) < 2 ^ 32
  few_at bs i b few is h = subst (λ l. length l < 2 ^ 32) (box_at bs i b is h) (few i [] (let e : length (map f bs) ≡ length bs = length-map bs in omega arith))

-- the first letter is taken
pub taken : {X : Type 0} (r : Option X) (old new : List X) → old ≡ option_to_list r ++ new → (r ≡ None → length old ≡ 0) → MatchOption r ((old ≡ []) × (new ≡ [])) (λ x. old ≡ x ∷ new)
taken (Some x) old new is none = is
taken None old new is none = let nil : old ≡ [] = nil_from_length old (none refl) in (nil, sym is ∙ nil)

pub any_posted : Posted
any_posted = record { to = 0; letter = record { from = 0; bytes = [] } }

match_both : {X : Type 0} (r : Option X) (a b a' b' : List X) → a' ≡ a → b' ≡ b → MatchOption r ((a ≡ []) × (b ≡ [])) (λ x. a ≡ x ∷ b) → MatchOption r ((a' ≡ []) × (b' ≡ [])) (λ x. a' ≡ x ∷ b')
match_both None a b a' b' p q h = (p ∙ h.0, q ∙ h.1)
match_both (Some x) a b a' b' p q h = p ∙ h ∙ ap (λ z. x ∷ z) (sym q)

pub taken_boxes : {B : Type 0} (f : B → List Letter) (bs : List B) (i : ℕ) (old new : B) (r : Option Letter) → i < length bs → old ≡ get_or bs i old → MatchOption r ((f old ≡ []) × (f new ≡ [])) (λ x. f old ≡ x ∷ f new)
    → MatchOption r ((get_or (map f bs) i [] ≡ []) × (get_or (map f (set bs i new)) i [] ≡ [])) (λ x. get_or (map f bs) i [] ≡ x ∷ get_or (map f (set bs i new)) i [])
taken_boxes f bs i old new r within is h = match_both r (f old) (f new) _ _ (box_at f bs i old is within) (box_same f bs i new within) h

pub same_state : (a b : MailState) → a.sent ≡ b.sent → a.given ≡ b.given → a.since ≡ b.since → a.waiting ≡ b.waiting → a.seed ≡ b.seed → a.faults ≡ b.faults → a ≡ b
same_state a b sent given since waiting seed faults i = record { sent = sent i; given = given i; since = since i; waiting = waiting i; seed = seed i; faults = faults i }

pub one_picked_more : (sent : List Posted) (ns new : List ℕ) (n from : ℕ) → n < length sent → new ≡ ns ++ n ∷ [] → picked sent ns ++ drop n sent ≡ drop from sent → picked sent new ++ drop (n + 1) sent ≡ drop from sent
one_picked_more sent ns new n from h is before =
    ap (λ ms. picked sent ms ++ drop (n + 1) sent) is ∙ ap (λ ps. ps ++ drop (n + 1) sent) (picked-append sent ns (n ∷ []) ∙ ap (λ ps. picked sent ns ++ ps) (picked_one sent n any_posted h))
    ∙ append_assoc (picked sent ns) (get_or sent n any_posted ∷ []) (drop (n + 1) sent) ∙ ap (λ ps. picked sent ns ++ ps) (sym (drop_more sent n any_posted h)) ∙ before

pushed : {X : Type 0} (P : X → Type 0) (x : X) → P x → (ys : List X) → AllByRecursion P ys → AllByRecursion P (ys ++ x ∷ [])
pushed P x h [] all = (h, tt)
pushed P x h (y ∷ ys) all = (all.0, pushed P x h ys all.1)

pub all_pushed : {X : Type 0} (P : X → Type 0) (xs new : List X) (x : X) → new ≡ xs ++ x ∷ [] → All P xs → P x → All P new
all_pushed P xs new x is all h = subst (All P) (sym is) (All-from_recursion P (xs ++ x ∷ []) (pushed P x h xs (recursion_from_All P xs all)))

pub one_letter_more : (place : ℕ) (sent : List Posted) (chosen : List ℕ) (i : ℕ) (p : Posted) (old new : List Letter) → i < length chosen → get_or chosen i 0 < length sent → p ≡ get_or sent (get_or chosen i 0) p
    → old ≡ letters_to place (picked sent (take i chosen)) → new ≡ old ++ letters_to place (p ∷ []) → new ≡ letters_to place (picked sent (take (i + 1) chosen))
one_letter_more place sent chosen i p old new h within is before now =
    now ∙ ap (λ ls. ls ++ letters_to place (p ∷ [])) before ∙ ap (λ q. letters_to place (picked sent (take i chosen)) ++ letters_to place (q ∷ [])) is
    ∙ sym (letters_more place sent (take i chosen) (get_or chosen i 0) p within) ∙ ap (λ ns. letters_to place (picked sent ns)) (sym (take_more chosen i 0 h))

pub one_box_more : {B : Type 0} (f : B → List Letter) (box : ℕ → List Letter) (n : ℕ) (old new : List B) (b : B) → new ≡ old ++ b ∷ [] → f b ≡ box n → map f old ≡ map box (below n) → map f new ≡ map box (below (n + 1))
one_box_more f box n old new b is here before = ap (map f) is ∙ map-push f old b ∙ ap (λ ls. ls ++ f b ∷ []) before ∙ ap (λ l. map box (below n) ++ l ∷ []) here ∙ sym (map_below_more box n)

length-turned : {X : Type 0} (b : Bool) (xs : List X) → length (turned b xs) ≡ length xs
length-turned true xs = length-reverse xs
length-turned false xs = refl

pub few_more : {B : Type 0} (f : B → List Letter) (old new : List B) (b : B) (turns : Bool) (ls : List Letter) → new ≡ old ++ b ∷ [] → f b ≡ turned turns ls → length ls < 2 ^ 32 → IsFew (map f old) → IsFew (map f new)
few_more f old new b turns ls is here h few =
    let len : length (f b) ≡ length ls = ap length here ∙ length-turned turns ls in
    all_pushed (λ l. length l < 2 ^ 32) (map f old) (map f new) (f b) (ap (map f) is ∙ map-push f old b) few (omega (arith, len, h))

-- one letter given more
pub given_next : (sent : List Posted) (chosen : List ℕ) (i : ℕ) (p : Posted) (first old new : List Posted) → i < length chosen → get_or chosen i 0 < length sent → p ≡ get_or sent (get_or chosen i 0) p
    → old ≡ first ++ picked sent (take i chosen) → new ≡ old ++ p ∷ [] → new ≡ first ++ picked sent (take (i + 1) chosen)
given_next sent chosen i p first old new h within is before now =
    now ∙ ap (λ ps. ps ++ p ∷ []) before ∙ append_assoc first (picked sent (take i chosen)) (p ∷ [])
    ∙ ap (λ q. first ++ (picked sent (take i chosen) ++ q ∷ [])) is
    ∙ ap (λ ps. first ++ (picked sent (take i chosen) ++ ps)) (sym (picked_one sent (get_or chosen i 0) p within))
    ∙ ap (λ ps. first ++ ps) (sym (picked-append sent (take i chosen) (get_or chosen i 0 ∷ [])))
    ∙ ap (λ ns. first ++ picked sent ns) (sym (take_more chosen i 0 h))

-- behind a round all letters were sent before it
pub given_apart : (before fresh given before_new fresh_new given_new : List Posted) (boxes waiting : List (List Letter)) (chosen : List ℕ) (turns : List Bool) (seed : Option ℕ) (faults faults_new : ℕ) (loses : Bool)
    → before_new ≡ before ++ fresh → fresh_new ≡ [] → given_new ≡ given ++ picked fresh chosen → boxes ≡ boxed turns (picked fresh chosen) → faults_new ≡ cond loses (faults + 1) faults
    → ◌≡◌ {A = MailState} (record { sent = before_new ++ fresh_new; given = given_new; since = length before_new; waiting = boxes; seed = seed; faults = faults_new })
    (given_more (record { sent = before ++ fresh; given = given; since = length before; waiting = waiting; seed = seed; faults = faults }) (picked (drop (length before) (before ++ fresh)) chosen) turns loses)
given_apart before fresh given before_new fresh_new given_new boxes waiting chosen turns seed faults faults_new loses is none more wait count =
    let apart : drop (length before) (before ++ fresh) ≡ fresh = drop-append_seam before fresh in
    same_state _ _ (ap (λ ps. ps ++ fresh_new) is ∙ ap (λ ps. (before ++ fresh) ++ ps) none ∙ append-nil (before ++ fresh))
    (more ∙ ap (λ ps. given ++ picked ps chosen) (sym apart)) (ap length is) (wait ∙ ap (λ ps. boxed turns (picked ps chosen)) (sym apart)) refl count
