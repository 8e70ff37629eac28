-- A set of names in order has the names of the list that it was made of.
use Rattle.std.proofs.Common.{◌≡◌, ℕ, zero, suc, ◌+◌, ◌<◌, if◌then◌else◌, Bool, true, false, not, ◌&&◌, ◌||◌, nat_eq, List, [], ◌∷◌, ◌++◌, take, None, Some, slice_get, Result, Ok, Err, refl, sym, ap, ◌∙◌, subst, arith, append_assoc, append-nil}
use Rattle.std.specs.declared.cmp.Ordering.{Ordering}
use Rattle.std.specs.declared.cmp.Ordering.TheVariants.{Less, Equal, Greater}
use Rattle.std.specs.Ordering.{nat_cmp, is_eq, match_ordering}
use Rattle.std.specs.Cmp.Lexicographic.{slice_cmp, pointwise, bytes_decides, texts_ties}
use Rattle.std.proofs.lemmas.List.Folds.{list_any-append}
use Rattle.coco_ast.specs.Checks.{is_among, has_unknown}
use Rattle.coco_ast.specs.Planning.{HasOwnNames}
use Rattle.coco_check.specs.Search.{Names, has, has_all, with_name, with_names, adding}

abbrev same_text : List ℕ → List ℕ → Bool
same_text a b = pointwise nat_eq a b

or_swap : (a b c : Bool) → a || (b || c) ≡ b || (a || c)
or_swap true true c = refl
or_swap true false c = refl
or_swap false b c = refl

or_same : (a c : Bool) → a || c ≡ a || (a || c)
or_same true c = refl
or_same false c = refl

or_turned : (a b : Bool) → a || b ≡ b || (a || false)
or_turned true true = refl
or_turned true false = refl
or_turned false true = refl
or_turned false false = refl

same_by_order : (a b : List ℕ) → slice_cmp nat_cmp a b ≡ Equal → a ≡ b
same_by_order a b e = (bytes_decides a b).0 (texts_ties a b ∙ ap is_eq e)

inserted : (k x q : List ℕ) (ks more : Names) (o : Ordering) → slice_cmp nat_cmp x k ≡ o → has more q ≡ (same_text q x || has ks q)
    → has (match_ordering o (x ∷ k ∷ ks) (k ∷ ks) (k ∷ more)) q ≡ (same_text q x || has (k ∷ ks) q)
inserted k x q ks more Less e rest = ap (λ b. b || has (k ∷ ks) q) (sym (texts_ties q x))
inserted k x q ks more Equal e rest =
    ap (λ b. b || has ks q) (sym (texts_ties q k))
    ∙ or_same (same_text q k) (has ks q)
    ∙ ap (λ b. same_text q k || (b || has ks q)) (texts_ties q k)
    ∙ ap (λ (y : List ℕ). same_text q y || has (k ∷ ks) q) (sym (same_by_order x k e))
inserted k x q ks more Greater e rest =
    ap (λ b. is_eq (slice_cmp nat_cmp q k) || b) rest ∙ or_swap (is_eq (slice_cmp nat_cmp q k)) (same_text q x) (has ks q)

has-with_name : (ks : Names) (x q : List ℕ) → has (with_name ks x) q ≡ (same_text q x || has ks q)
has-with_name [] x q = ap (λ b. b || false) (sym (texts_ties q x))
has-with_name (k ∷ ks) x q = inserted k x q ks (with_name ks x) (slice_cmp nat_cmp x k) refl (has-with_name ks x q)

-- the set has just these names
abbrev pub Same : Names → Names → Type 0
Same set names = (q : List ℕ) → has set q ≡ is_among names q

pub same_none : Same [] []
same_none q = refl

pub same_with_name : (set names : Names) (x : List ℕ) → Same set names → Same (with_name set x) (names ++ x ∷ [])
same_with_name set names x same q =
    has-with_name set x q ∙ ap (λ b. same_text q x || b) (same q) ∙ or_turned (same_text q x) (is_among names q)
    ∙ sym (list_any-append (same_text q) names (x ∷ []))

pub same_with_names : (set names xs : Names) → Same set names → Same (with_names set xs) (names ++ xs)
same_with_names set names [] same q = same q ∙ ap (λ (l : Names). is_among l q) (sym (append-nil names))
same_with_names set names (x ∷ xs) same q =
    same_with_names (with_name set x) (names ++ x ∷ []) xs (same_with_name set names x same) q
    ∙ ap (λ (l : Names). is_among l q) (append_assoc names (x ∷ []) xs)

-- ---- names that are there, all of them or not

all_or_unknown : (a b c d : Bool) → a ≡ b → c ≡ not d → (a && c) ≡ not (not b || d)
all_or_unknown true true c d e f = f
all_or_unknown false false c d e f = refl
all_or_unknown true false c d e f = cc
all_or_unknown false true c d e f = cc

pub has_all-unknown : (set names : Names) → Same set names → (xs : Names) → has_all set xs ≡ not (has_unknown names xs)
has_all-unknown set names same [] = refl
has_all-unknown set names same (x ∷ xs) = all_or_unknown (has set x) (is_among names x) (has_all set xs) (has_unknown names xs) (same x) (has_all-unknown set names same xs)

-- ---- adding names up to one that is there before

-- the name at this place of the list is among those before it and these
abbrev pub IsThere : Names → Names → ℕ → Type 0
IsThere before xs j = (name : List ℕ) × (slice_get xs j ≡ Some name) × (is_among (before ++ take j xs) name ≡ true)

abbrev pub Adds : Names → Names → ℕ → Result Names ℕ → Type 0
Adds before xs i (Ok set) = Same set (before ++ xs) × ((j : ℕ) → IsThere before xs j → ⊥)
Adds before xs i (Err m) = (j : ℕ) × (m ≡ i + j) × IsThere before xs j × ((l : ℕ) → l < j → IsThere before xs l → ⊥)

there_first : (before xs : Names) (x : List ℕ) → is_among before x ≡ true → IsThere before (x ∷ xs) zero
there_first before xs x h = (x, refl, ap (λ (l : Names). is_among l x) (append-nil before) ∙ h)

there_later : (before xs : Names) (x : List ℕ) (j : ℕ) → IsThere (before ++ x ∷ []) xs j → IsThere before (x ∷ xs) (suc j)
there_later before xs x j h = (h.0, h.1, ap (λ (l : Names). is_among l h.0) (sym (append_assoc before (x ∷ []) (take j xs))) ∙ h.2)

there_before : (before xs : Names) (x : List ℕ) (j : ℕ) → IsThere before (x ∷ xs) (suc j) → IsThere (before ++ x ∷ []) xs j
there_before before xs x j h = (h.0, h.1, ap (λ (l : Names). is_among l h.0) (append_assoc before (x ∷ []) (take j xs)) ∙ h.2)

not_first : (before xs : Names) (x : List ℕ) → is_among before x ≡ false → IsThere before (x ∷ xs) zero → ⊥
not_first before xs x new h =
    let one : x ≡ h.0 = (let e : Some x ≡ Some h.0 = h.1 in cc) in
    let e : true ≡ false = sym h.2 ∙ ap (λ (l : Names). is_among l h.0) (append-nil before) ∙ ap (is_among before) (sym one) ∙ new in
    cc

none_before : (before xs : Names) (x : List ℕ) → is_among before x ≡ false → ((j : ℕ) → IsThere (before ++ x ∷ []) xs j → ⊥) → (j : ℕ) → IsThere before (x ∷ xs) j → ⊥
none_before before xs x new none zero h = not_first before xs x new h
none_before before xs x new none (suc j) h = none j (there_before before xs x j h)

none_up_to : (before xs : Names) (x : List ℕ) → is_among before x ≡ false → (m : ℕ) → ((l : ℕ) → l < m → IsThere (before ++ x ∷ []) xs l → ⊥) → (l : ℕ) → l < suc m → IsThere before (x ∷ xs) l → ⊥
none_up_to before xs x new m none zero below h = not_first before xs x new h
none_up_to before xs x new m none (suc l) below h = none l (omega arith) (there_before before xs x l h)

adds_first : (before xs : Names) (x : List ℕ) (i : ℕ) → is_among before x ≡ true → Adds before (x ∷ xs) i (Err i)
adds_first before xs x i h = (zero, omega arith, there_first before xs x h, λ l below _. omega arith)

adds_later : (before xs : Names) (x : List ℕ) (i : ℕ) (r : Result Names ℕ) → is_among before x ≡ false → Adds (before ++ x ∷ []) xs (i + 1) r → Adds before (x ∷ xs) i r
adds_later before xs x i (Ok set) new h = (λ q. h.0 q ∙ ap (λ (l : Names). is_among l q) (append_assoc before (x ∷ []) xs), λ j. none_before before xs x new h.1 j)
adds_later before xs x i (Err m) new h =
    (suc h.0, omega (arith, h.1), there_later before xs x h.0 h.2, λ l. none_up_to before xs x new h.0 h.3 l)

adds_by : (before xs : Names) (x : List ℕ) (set : Names) (i : ℕ) (b : Bool) → is_among before x ≡ b → Adds (before ++ x ∷ []) xs (i + 1) (adding (with_name set x) (i + 1) xs)
    → Adds before (x ∷ xs) i (if b then Err i else adding (with_name set x) (i + 1) xs)
adds_by before xs x set i true e rest = adds_first before xs x i e
adds_by before xs x set i false e rest = adds_later before xs x i _ e rest

pub adding_adds : (set before xs : Names) (i : ℕ) → Same set before → Adds before xs i (adding set i xs)
adding_adds set before [] i same = (λ q. same q ∙ ap (λ (l : Names). is_among l q) (sym (append-nil before)), λ j h. let e : None ≡ Some h.0 = h.1 in cc)
adding_adds set before (x ∷ xs) i same =
    adds_by before xs x set i (has set x) (sym (same x)) (adding_adds (with_name set x) (before ++ x ∷ []) xs (i + 1) (same_with_name set before x same))

-- no name of a list that makes a set stands twice in it
pub own_names : (xs set : Names) → adding [] 0 xs ≡ Ok set → HasOwnNames xs
own_names xs set is = λ i twice. (subst (Adds [] xs 0) is (adding_adds [] [] xs 0 same_none)).1 i twice
