-- Files that are logs of entries.
use Rattle.std.proofs.Common.{◌≡◌, ℕ, List, [], ◌∷◌, ◌++◌, map, refl, sym, ◌∙◌, ap, subst, append_assoc}
use Rattle.std.proofs.lemmas.List.{map-append}
use Rattle.std.specs.List.{AllByRecursion, flat_map}
use Rattle.coco_ast.proofs.Lists.{all_append}
use Rattle.coco_log.specs.Grammar.{header, entry, IsLog}
use Rattle.coco_log.proofs.OneLog.{one_log}
use Rattle.coco_store.specs.Entries.{IsLogOf}
use Rattle.coco_store.specs.Laws.{KeepsLog}

-- a log's bytes, the header by itself
pub headed : (kind : ℕ) (xs : List (List ℕ)) (file : List ℕ) (log : IsLog kind xs file) → file ≡ header kind ++ (flat_map entry xs ++ log.gate ∷ log.behind)
headed kind xs file log = log.is ∙ append_assoc (header kind) (flat_map entry xs) (log.gate ∷ log.behind)

pub same_log : (kind : ℕ) (bodies : List (List ℕ)) (old new : List ℕ) → IsLog kind bodies old → IsLog kind bodies new → KeepsLog old new
same_log kind bodies old new was is k xs log =
    let one = one_log kind k old bodies xs was log in
    subst (λ (l : List (List ℕ)). IsLog k l new) one.1 (subst (λ (j : ℕ). IsLog j bodies new) one.0 is)

-- ---- logs of entries

-- entries are those of their bytes, where each has bytes of its own
pub same_entries : {E : Type 0} (bytes_of : E → List ℕ) (Is : E → Type 0) → ((x y : E) → Is x → Is y → bytes_of x ≡ bytes_of y → x ≡ y)
    → (xs ys : List E) → AllByRecursion Is xs → AllByRecursion Is ys → map bytes_of xs ≡ map bytes_of ys → xs ≡ ys
same_entries bytes_of Is one [] [] are also e = refl
same_entries bytes_of Is one [] (y ∷ ys) are also e = let none : ◌≡◌ {A = List (List ℕ)} [] (bytes_of y ∷ map bytes_of ys) = e in cc
same_entries bytes_of Is one (x ∷ xs) [] are also e = let none : ◌≡◌ {A = List (List ℕ)} (bytes_of x ∷ map bytes_of xs) [] = e in cc
same_entries bytes_of Is one (x ∷ xs) (y ∷ ys) are also e =
    let here : bytes_of x ≡ bytes_of y = cc in
    let there : map bytes_of xs ≡ map bytes_of ys = cc in
    let first : x ≡ y = one x y are.0 also.0 here in
    let rest : xs ≡ ys = same_entries bytes_of Is one xs ys are.1 also.1 there in
    cc

module _ {E : Type 0} (kind : ℕ) (bytes_of : E → List ℕ) (Is : E → Type 0) where
  pub log_kept : (es : List E) (old new : List ℕ) → KeepsLog old new → IsLogOf kind bytes_of Is es old → IsLogOf kind bytes_of Is es new
  log_kept es old new keeps h = record { log = keeps kind (map bytes_of es) h.log; are = h.are }

  -- with one entry more
  pub log_gains : (es : List E) (e : E) (bodies : List (List ℕ)) (old new : List ℕ) → IsLogOf kind bytes_of Is es old → Is e → IsLog kind bodies old
      → IsLog kind (bodies ++ bytes_of e ∷ []) new → IsLogOf kind bytes_of Is (es ++ e ∷ []) new
  log_gains es e bodies old new h is was log =
      let one = one_log kind kind old bodies (map bytes_of es) was h.log in
      record {
        log = subst (λ (l : List (List ℕ)). IsLog kind l new) (ap (λ (l : List (List ℕ)). l ++ bytes_of e ∷ []) one.1 ∙ sym (map-append bytes_of es (e ∷ []))) log;
        are = all_append Is es (e ∷ []) h.are (is, tt);
      }

  -- a file is the log of one list of entries, where each has bytes of its own
  pub one_entries : ((x y : E) → Is x → Is y → bytes_of x ≡ bytes_of y → x ≡ y) → (xs ys : List E) (file : List ℕ)
      → IsLogOf kind bytes_of Is xs file → IsLogOf kind bytes_of Is ys file → xs ≡ ys
  one_entries one xs ys file a b = same_entries bytes_of Is one xs ys a.are b.are (one_log kind kind file (map bytes_of xs) (map bytes_of ys) a.log b.log).1
