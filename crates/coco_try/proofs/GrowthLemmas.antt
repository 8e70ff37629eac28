-- Histories that grow by one batch of requests after another.
use Rattle.std.proofs.Common.{◌≡◌, ℕ, suc, ◌+◌, ◌*◌, ◌≤◌, min, ⊎_elim, List, [], ◌∷◌, ◌++◌, drop, length, take, refl, sym, ap, subst, ◌∙◌, arith, append-nil, length-append}
use Rattle.std.proofs.lemmas.Bool.{cases_lt}
use Rattle.std.proofs.Math.Seq.{drop-append_seam, take-append_seam, take-length}
use Rattle.std.proofs.lemmas.List.{drop-drop, drop_all, length-drop, take-append-le, take_all}
use Rattle.std.proofs.lemmas.List.FromFn.{length-map-range_with_len, map-range_with_len_more}
use Rattle.coco_types.specs.declared.call.Request.{Request}
use Rattle.coco_ast.specs.History.{History, IsPrefixOf}
use Rattle.coco_ast.proofs.Growths.{prefix_trans}
use Rattle.coco_host.specs.Moments.{Observation}
use Rattle.coco_cluster.specs.Turning.{IsStoreOf}
use Rattle.coco_lines.specs.Batches.{joined}
use Rattle.coco_lines.specs.Classes.{known_in, new_of}
use Rattle.coco_lines.specs.declared.class.Class.{Class}
use Rattle.coco_store.specs.Rules.{Setting}
use Rattle.coco_serve.specs.Growth.{AddsWithin, GrowsByExecution, Manner, manner_of}
use Rattle.coco_serve.specs.declared.bounds.RunBounds.{RunBounds}
use Rattle.coco_serve.proofs.NumberLemmas.{adds_later}
use Rattle.coco_serve.proofs.RunLemmas.{joined-more}
use Rattle.coco_try.specs.Growth.{AreAllParts, AreClassesOf, GrowsByParts, part_at, parts_of}
use Rattle.coco_try.specs.Report.{answered_in}
use Rattle.coco_try.specs.Trying.{ShowsParts}
use Rattle.coco_try.proofs.PartLemmas.{answered-append}

-- ---- batches

pub parts_more : (size : ℕ) (requests : List Request) (count : ℕ) → parts_of size requests (count + 1) ≡ parts_of size requests count ++ part_at size requests count ∷ []
parts_more size requests count = map-range_with_len_more (part_at size requests) 0 count count (omega arith)

pub parts-length : (size : ℕ) (requests : List Request) (count : ℕ) → length (parts_of size requests count) ≡ count
parts-length size requests count = length-map-range_with_len (part_at size requests) 0 count

-- what comes off the front is the next batch
pub part_taken : (size : ℕ) (rest more part : List Request) → rest ≡ part ++ more → length part ≡ min size (length rest) → (part ≡ take size rest) × (more ≡ drop size rest)
part_taken size rest more part is count = ⊎_elim
    (λ short.
    let whole : length part ≡ length rest = omega (arith, count, short) in
    let none : more ≡ [] = no_items more (omega (arith, whole, ap (length {A = Request}) is, length-append part more)) in
    let all : rest ≡ part = is ∙ ap (λ l. part ++ l) none ∙ append-nil part in
    (sym all ∙ sym (take_all size rest (omega (arith, short))), none ∙ sym (drop_all size rest (omega (arith, short)))))
    (λ enough.
    let full : length part ≡ size = omega (arith, count, enough) in (
      sym (take-append_seam part more) ∙ ap (λ n. take n (part ++ more)) full ∙ ap (take size) (sym is),
      sym (drop-append_seam part more) ∙ ap (λ n. drop n (part ++ more)) full ∙ ap (drop size) (sym is),
    )) (cases_lt (length rest) size)
  where
    no_items : (l : List Request) → length l ≡ 0 → l ≡ []
    no_items [] e = refl
    no_items (x ∷ l) e = absurd (omega (arith, e))

-- the requests behind one batch more
pub rest_more : (size count : ℕ) (requests rest more : List Request) → rest ≡ drop (count * size) requests → more ≡ drop size rest → more ≡ drop ((count + 1) * size) requests
rest_more size count requests rest more is then_ =
    let e : count * size + size ≡ (count + 1) * size = grind arith in
    then_ ∙ ap (drop size) is ∙ drop-drop size (count * size) requests ∙ ap (λ n. drop n requests) e

-- where none are left, they are all
pub all_parts : (size count : ℕ) (requests rest : List Request) → rest ≡ drop (count * size) requests → rest ≡ [] → AreAllParts size requests count
all_parts size count requests rest is none =
    let left = length-drop (count * size) requests in
    let no_more = ap (length {A = Request}) (sym is ∙ none) in
    omega (arith, left, no_more)

-- ---- growth

grows_behind : (m : Manner) (h : History) (parts : List (List Request)) (classes : List (List Class)) (g : History) (part : List Request) (cs : List Class) (k : History) → GrowsByParts m h parts classes g
    → AreClassesOf (known_in g) part cs → GrowsByExecution m g (new_of cs) k → GrowsByParts m h (parts ++ part ∷ []) (classes ++ cs ∷ []) k
grows_behind m h [] classes g part cs k all are one =
    subst (λ l. GrowsByParts m h (part ∷ []) (l ++ cs ∷ []) k) (sym all.0)
    (k, subst (λ x. AreClassesOf (known_in x) part cs) all.1 are, subst (λ x. GrowsByExecution m x (new_of cs) k) all.1 one, (refl, refl))
grows_behind m h (p ∷ parts) [] g part cs k all are one = absurd all
grows_behind m h (p ∷ parts) (ds ∷ classes) g part cs k all are one = (all.0, all.1, all.2, grows_behind m all.0 parts classes g part cs k all.3 are one)

pub grows_more : (m : Manner) (h : History) (size count : ℕ) (requests : List Request) (classes : List (List Class)) (g : History) (cs : List Class) (k : History) → GrowsByParts m h (parts_of size requests count) classes g
    → AreClassesOf (known_in g) (part_at size requests count) cs → GrowsByExecution m g (new_of cs) k → GrowsByParts m h (parts_of size requests (count + 1)) (classes ++ cs ∷ []) k
grows_more m h size count requests classes g cs k all are one =
    subst (λ ps. GrowsByParts m h ps (classes ++ cs ∷ []) k) (sym (parts_more size requests count))
    (grows_behind m h (parts_of size requests count) classes g (part_at size requests count) cs k all are one)

paired_with : (m : Manner) (h : History) (parts : List (List Request)) (classes : List (List Class)) (g : History) → GrowsByParts m h parts classes g → length classes ≡ length parts
paired_with m h [] classes g all = ap (length {A = List Class}) all.0
paired_with m h (p ∷ parts) [] g all = absurd all
paired_with m h (p ∷ parts) (cs ∷ classes) g all = ap suc (paired_with m all.0 parts classes g all.3)

pub paired : (m : Manner) (h : History) (size count : ℕ) (requests : List Request) (classes : List (List Class)) (g : History) → GrowsByParts m h (parts_of size requests count) classes g → length classes ≡ count
paired m h size count requests classes g all = paired_with m h (parts_of size requests count) classes g all ∙ parts-length size requests count

-- with just the classes of these batches
pub with_theirs : (m : Manner) (h : History) (size count : ℕ) (requests : List Request) (classes : List (List Class)) (g : History) → GrowsByParts m h (parts_of size requests count) classes g
    → GrowsByParts m h (parts_of size requests count) (take count classes) g
with_theirs m h size count requests classes g all =
    subst (λ l. GrowsByParts m h (parts_of size requests count) l g) (sym (ap (λ n. take n classes) (sym (paired m h size count requests classes g all)) ∙ take-length classes)) all

-- and with those of others behind them
pub with_others : (m : Manner) (h : History) (size count : ℕ) (requests : List Request) (classes : List (List Class)) (cs : List Class) (g : History) → GrowsByParts m h (parts_of size requests count) classes g
    → GrowsByParts m h (parts_of size requests count) (take count (classes ++ cs ∷ [])) g
with_others m h size count requests classes cs g all =
    let front : take count (classes ++ cs ∷ []) ≡ classes = ap (λ n. take n (classes ++ cs ∷ [])) (sym (paired m h size count requests classes g all)) ∙ take-append_seam classes (cs ∷ []) in
    subst (λ l. GrowsByParts m h (parts_of size requests count) l g) (sym front) all

pub answered_more : (classes : List (List Class)) (cs : List Class) → answered_in (joined (classes ++ cs ∷ [])) ≡ answered_in (joined classes) + answered_in cs
answered_more classes cs = ap answered_in (joined-more classes cs) ∙ answered-append (joined classes) cs

-- ---- what is seen

pub begins_itself : (h : History) → IsPrefixOf h h
begins_itself h = (refl, refl, ([], sym (append-nil h.epochs)))

module _ (s : Setting) (bounds : RunBounds) (opening : History) (next spare : ℕ) (requests : List Request) (count : ℕ) (classes : List (List Class)) (whole : History) where
  -- the whole history
  abbrev pub all_shown : GrowsByParts (manner_of s bounds) opening (parts_of bounds.size requests count) classes whole → (number : ℕ) → AddsWithin next number spare opening whole → (seen : Observation)
      → IsStoreOf s whole (number + 1) seen.image → ShowsParts s bounds opening next spare requests count classes whole seen
  all_shown grown number numbers seen store = record {
    parts = count;
    within = omega arith;
    history = whole;
    number = number;
    numbers = numbers;
    store = store;
    grown = with_theirs (manner_of s bounds) opening bounds.size count requests classes whole grown;
    begins = begins_itself whole;
  }

  -- where more may be skipped
  pub later_shown : (more : ℕ) → spare ≤ more → (seen : Observation) → ShowsParts s bounds opening next spare requests count classes whole seen → ShowsParts s bounds opening next more requests count classes whole seen
  later_shown more le seen x = record {
    parts = x.parts;
    within = x.within;
    history = x.history;
    number = x.number;
    numbers = adds_later next x.number spare more opening x.history le x.numbers;
    store = x.store;
    grown = x.grown;
    begins = x.begins;
  }

  -- with a batch more
  pub more_shown : length classes ≡ count → (cs : List Class) (g : History) → IsPrefixOf whole g → (seen : Observation) → ShowsParts s bounds opening next spare requests count classes whole seen
      → ShowsParts s bounds opening next spare requests (count + 1) (classes ++ cs ∷ []) g seen
  more_shown as_many cs g begins seen x =
      let same : take x.parts classes ≡ take x.parts (classes ++ cs ∷ []) = (let w = x.within in sym (take-append-le x.parts classes (cs ∷ []) (omega (arith, w, as_many)))) in
      record {
        parts = x.parts;
        within = (let w = x.within in omega (arith, w));
        history = x.history;
        number = x.number;
        numbers = x.numbers;
        store = x.store;
        grown = subst (λ l. GrowsByParts (manner_of s bounds) opening (parts_of bounds.size requests x.parts) l x.history) same x.grown;
        begins = prefix_trans x.history whole g x.begins begins;
      }
