-- The scripts are at most the allowed attempts for each request.
use Rattle.std.proofs.Common.{◌≡◌, inl, ℕ, zero, suc, ◌+◌, ◌*◌, ◌<◌, ◌≤◌, Bool, true, false, cond, eqb, List, [], ◌∷◌, ◌++◌, map, length, refl, sym, ap, ◌∙◌, subst, arith, append_assoc, length-append}
use Rattle.std.proofs.Math.Nat.{mul-le-mul_left, mul-suc}
use Rattle.std.proofs.lemmas.Bool.{eq-eqb}
use Rattle.std.proofs.lemmas.Option.{slice_get_within}
use Rattle.std.specs.List.{filter, AllByRecursion}
use Rattle.coco_order.specs.OneKey.{Among}
use Rattle.coco_occ.specs.declared.outcome.Tried.{Tried}
use Rattle.coco_order.specs.Execution.{Beginning, IsTried, Tries, AreTries, all_tries, concat_tries, concat, how_many_at, InEachExecution}
use Rattle.coco_order.specs.Laws.{ScriptsAreFew}
use Rattle.coco_order.proofs.Attempts.{by_bool, not_both, Among-left, Among-right}
use Rattle.coco_order.proofs.Passes.{all_append, all_among}
use Rattle.coco_order.proofs.Acts.{all_tried}

-- ---- tries in one list

tries_append : (rs qs : List Tries) → concat_tries (rs ++ qs) ≡ concat_tries rs ++ concat_tries qs
tries_append [] qs = refl
tries_append (r ∷ rs) qs = ap (λ (ts : List Tried). all_tries r ++ ts) (tries_append rs qs) ∙ sym (append_assoc (all_tries r) (concat_tries rs) (concat_tries qs))

pub tries_joined : (rss : List (List Tries)) → concat (map concat_tries rss) ≡ concat_tries (concat rss)
tries_joined [] = refl
tries_joined (rs ∷ rss) = ap (λ (ts : List Tried). concat_tries rs ++ ts) (tries_joined rss) ∙ sym (tries_append rs (concat rss))

pub all_joined : (P : Tries → Type 0) (rss : List (List Tries)) → AllByRecursion (AllByRecursion P) rss → AllByRecursion P (concat rss)
all_joined P [] all = tt
all_joined P (rs ∷ rss) all = all_append P rs (concat rss) all.0 (all_joined P rss all.1)

-- ---- scripts by tries

allowed : (attempts : ℕ) (rs : List Tries) → AllByRecursion (AreTries attempts) rs → length (concat_tries rs) ≤ attempts * length rs
allowed attempts [] all = omega arith
allowed attempts (r ∷ rs) all = omega (arith, length-append (all_tries r) (concat_tries rs), all.0.allowed, allowed attempts rs all.1, mul-suc attempts (length rs))

pub placed : (b : Beginning) (rs : List Tries) → AllByRecursion (AreTries b.attempts) rs → ((t : Tried) → Among (concat_tries rs) t → IsTried b t) → AllByRecursion (λ r. r.place < length b.requests) rs
placed b [] all tried = tt
placed b (r ∷ rs) all tried = (
  subst (λ (place : ℕ). place < length b.requests) (all_among (λ (t : Tried). t.place ≡ r.place) (all_tries r) r.last all.0.placed last) (slice_get_within b.requests r.last.place script.request script.placed),
  placed b rs all.1 (λ t among. tried t (Among-right (all_tries r) (concat_tries rs) t among)),
)
  where
    last : Among (all_tries r) r.last
    last = Among-right r.conflicts (r.last ∷ []) r.last (inl refl)

    script : IsTried b r.last
    script = tried r.last (Among-left (all_tries r) (concat_tries rs) r.last last)

-- ---- tries by places

-- how many of the tries are of the places below n
abbrev how_many_below : ℕ → List Tries → ℕ
how_many_below zero rs = 0
how_many_below (suc n) rs = how_many_at n rs + how_many_below n rs

one_each : (n : ℕ) (rs : List Tries) → ((place : ℕ) → place < n → how_many_at place rs ≡ 1) → how_many_below n rs ≡ n
one_each zero rs once = refl
one_each (suc n) rs once = omega (arith, once n (omega arith), one_each n rs (λ place lt. once place (omega arith)))

abbrev counted : Tries → ℕ → ℕ
counted r place = cond (eqb r.place place) 1 0

one_more : (place : ℕ) (r : Tries) (rs : List Tries) → how_many_at place (r ∷ rs) ≡ counted r place + how_many_at place rs
one_more place r rs = by_bool (λ z. length (cond z (r ∷ filter (λ (q : Tries). eqb q.place place) rs) (filter (λ (q : Tries). eqb q.place place) rs)) ≡ cond z 1 0 + how_many_at place rs) (eqb r.place place) (λ _. omega arith) (λ _. omega arith)

more_below : (n : ℕ) (r : Tries) (rs : List Tries) → how_many_below n rs ≤ how_many_below n (r ∷ rs)
more_below zero r rs = omega arith
more_below (suc n) r rs = omega (arith, one_more n r rs, more_below n r rs)

one_below : (n : ℕ) (r : Tries) (rs : List Tries) → r.place < n → how_many_below n rs < how_many_below n (r ∷ rs)
one_below zero r rs lt = absurd (omega arith)
one_below (suc n) r rs lt = from (eqb r.place n) refl (one_below n r rs)
  where
    below : (r.place ≡ n → ⊥) → r.place < n
    below apart = grind arith

    from : (z : Bool) → eqb r.place n ≡ z → (r.place < n → how_many_below n rs < how_many_below n (r ∷ rs)) → how_many_below (suc n) rs < how_many_below (suc n) (r ∷ rs)
    from true here rest = omega (arith, one_more n r rs, ap {B = ℕ} (λ z. cond z 1 0) here, more_below n r rs)
    from false other rest = omega (arith, one_more n r rs, rest (below (λ same. not_both (eqb r.place n) (eq-eqb r.place n same) other)))

all_below : (n : ℕ) (rs : List Tries) → AllByRecursion (λ r. r.place < n) rs → length rs ≤ how_many_below n rs
all_below n [] all = omega arith
all_below n (r ∷ rs) all = omega (arith, all_below n rs all.1, one_below n r rs all.0)

-- ---- of an execution

pub scripts_are_few : InEachExecution ScriptsAreFew
scripts_are_few b x is =
    let rs : List Tries = concat is.worked_off.tries in
    let flat : concat x.transcripts ≡ concat_tries rs = ap concat is.worked_off.transcripts_are ∙ tries_joined is.worked_off.tries in
    let each : AllByRecursion (AreTries b.attempts) rs = all_joined (AreTries b.attempts) is.worked_off.tries is.worked_off.each in
    let tried : AllByRecursion (IsTried b) (concat_tries rs) = subst (AllByRecursion (IsTried b)) flat (all_tried b x is) in
    let below : AllByRecursion (λ r. r.place < length b.requests) rs = placed b rs each (λ t among. all_among (IsTried b) (concat_tries rs) t tried among) in
    let few : length rs ≤ length b.requests = omega (arith, all_below (length b.requests) rs below, one_each (length b.requests) rs is.worked_off.once) in
    omega (arith, ap length flat, allowed b.attempts rs each, mul-le-mul_left b.attempts few)
