-- Words are read in one way.
use Rattle.std.proofs.Common.{◌≡◌, ℕ, suc, ◌<◌, ◌⊎◌, inl, inr, ⊎_elim, List, [], ◌∷◌, ◌++◌, length, take, Some, Bool, IsTrue, refl, sym, ap, subst, ◌∙◌, arith}
use Rattle.std.proofs.lemmas.Bool.{cases_lt}
use Rattle.coco_ast.specs.Tree.{Procedures}
use Rattle.coco_lex.specs.declared.token.Token.{Token}
use Rattle.coco_parse.specs.Grammar.{IsText}
use Rattle.coco_parse.specs.Limits.{is_name, opens, is_operator, EndsIn, Passes}
use Rattle.coco_parse.specs.Refusal.{IsTreeOf, IsUnexpected, IsTooMuch, IsFault, IsRefusedAt, IsRefused, place_of}
use Rattle.coco_parse.specs.Wording.{words_of}
use Rattle.coco_parse.specs.Machine.{Items, after, start}
use Rattle.coco_parse.specs.declared.error.ParseError.{ParseError}
use Rattle.coco_parse.specs.declared.error.ParseKind.{ParseKind}
use Rattle.coco_parse.specs.declared.error.ParseKind.TheVariants.{Unexpected, TooDeep, TooMany, Range}
use Rattle.coco_parse.specs.declared.word.Word.{Word}
use Rattle.coco_parse.specs.declared.word.Word.TheVariants as word
use Rattle.coco_parse.specs.declared.word.Word.TheVariants.{Refuse, Not, Name, Number, Two, OpenParen, OpenBrace}
use Rattle.coco_parse.proofs.Completing.{items-complete}
use Rattle.coco_parse.proofs.Fronts.{front-earlier, text-front}

-- ---- the last word tells which limit it may pass

abbrev final : Word → List Word → Word
final d [] = d
final d (w ∷ ws) = final w ws

final-one : (d : Word) (front : List Word) (w : Word) → final d (front ++ w ∷ []) ≡ w
final-one d [] w = refl
final-one d (v ∷ front) w = final-one v front w

final-two : (d : Word) (front : List Word) (v w : Word) → final d (front ++ v ∷ w ∷ []) ≡ w
final-two d [] v w = refl
final-two d (u ∷ front) v w = final-two u front v w

abbrev limit_of : Word → ParseKind
limit_of OpenParen = TooDeep
limit_of OpenBrace = TooDeep
limit_of Not = TooMany
limit_of (Two op) = TooMany
limit_of (Name name) = TooMany
limit_of (Number n) = Range
limit_of _ = Unexpected

opens-limit : (w : Word) → IsTrue (opens w) → limit_of w ≡ TooDeep
opens-limit OpenParen h = refl
opens-limit OpenBrace h = refl
opens-limit _ h = absurd (cc h)

operator-limit : (w : Word) → IsTrue (is_operator w) → limit_of w ≡ TooMany
operator-limit Not h = refl
operator-limit (Two op) h = refl
operator-limit _ h = absurd (cc h)

name-limit : (w : Word) → IsTrue (is_name w) → limit_of w ≡ TooMany
name-limit (Name name) h = refl
name-limit _ h = absurd (cc h)

ends-limit : (is : Word → Bool) (k : ParseKind) (ws : List Word) → ((w : Word) → IsTrue (is w) → limit_of w ≡ k) → EndsIn is ws → limit_of (final word.None ws) ≡ k
ends-limit is k ws each h = ap (λ us. limit_of (final word.None us)) h.2 ∙ ap limit_of (final-one word.None h.0 h.1) ∙ each h.1 h.3

passed-limit : (k : ParseKind) (ws : List Word) → Passes k ws → limit_of (final word.None ws) ≡ k
passed-limit Unexpected ws h = absurd h
passed-limit TooDeep ws h = ends-limit opens TooDeep ws opens-limit h.0
passed-limit TooMany ws h = ⊎_elim (λ o. ends-limit is_operator TooMany ws operator-limit o.0) (λ n. ends-limit is_name TooMany ws name-limit n.0) h
passed-limit Range ws h = ap (λ us. limit_of (final word.None us)) h.2 ∙ ap limit_of (final-two word.None h.0 Refuse (Number h.1))

-- ---- one refusal

fault-cases : (ws : List Word) (n : ℕ) (k : ParseKind) → IsFault ws n k → (IsUnexpected ws n × (k ≡ Unexpected)) ⊎ IsTooMuch ws n k
fault-cases ws n Unexpected f = inl (f, refl)
fault-cases ws n TooDeep f = inr f
fault-cases ws n TooMany f = inr f
fault-cases ws n Range f = inr f

pub too-much-fault : (ws : List Word) (n : ℕ) (k : ParseKind) → Passes k (take (suc n) ws) → IsTooMuch ws n k → IsFault ws n k
too-much-fault ws n Unexpected p f = absurd p
too-much-fault ws n TooDeep p f = f
too-much-fault ws n TooMany p f = f
too-much-fault ws n Range p f = f

same-kind : (ws : List Word) (n : ℕ) (j k : ParseKind) → IsFault ws n j → IsFault ws n k → j ≡ k
same-kind ws n j k f g =
    ⊎_elim
    (λ u. ⊎_elim (λ v. u.1 ∙ sym v.1) (λ m. absurd (u.0.at_word m.within m.allowed)) (fault-cases ws n k g))
    (λ m. ⊎_elim (λ u. absurd (u.0.at_word m.within m.allowed)) (λ o. sym (passed-limit j (take (suc n) ws) m.passes) ∙ passed-limit k (take (suc n) ws) o.passes) (fault-cases ws n k g))
    (fault-cases ws n j f)

not-earlier : (ws : List Word) (m n : ℕ) (j k : ParseKind) → m < n → IsRefusedAt ws m j → IsRefusedAt ws n k → ⊥
not-earlier ws m n j k less f g =
    ⊎_elim
    (λ u. u.0.at_word (omega (arith, g.within)) (front-earlier (suc m) n ws less g.front))
    (λ o. g.limits m less j o.passes)
    (fault-cases ws m j f.fault)

same-count : (ws : List Word) (m n : ℕ) (j k : ParseKind) → IsRefusedAt ws m j → IsRefusedAt ws n k → m ≡ n
same-count ws m n j k f g =
    ⊎_elim
    (λ less. absurd (not-earlier ws m n j k less f g))
    (λ above. ⊎_elim (λ less. absurd (not-earlier ws n m k j less g f)) (λ below. omega arith) (cases_lt n m))
    (cases_lt m n)

pub same-refusal : (text : List ℕ) (ts : List Token) (e f : ParseError) → IsRefused text ts e → IsRefused text ts f → e ≡ f
same-refusal text ts e f p q =
    let ws = words_of text ts in
    let counts : p.count ≡ q.count = same-count ws p.count q.count e.kind f.kind p.refused q.refused in
    let places : e.at ≡ f.at = p.place ∙ ap (place_of text ts) counts ∙ sym q.place in
    let kinds : e.kind ≡ f.kind = same-kind ws q.count e.kind f.kind (subst (λ n. IsFault ws n e.kind) counts p.refused.fault) q.refused.fault in
    λ i. record { at = places i; kind = kinds i }

-- ---- one tree, or a refusal

pub same-tree : (ws : List Word) (t u : Procedures) → IsText ws t → IsText ws u → t ≡ u
same-tree ws t u h g =
    let first : after start ws ≡ Some (Items t.tables t.procs) = items-complete h [] [] in
    let second : after start ws ≡ Some (Items u.tables u.procs) = items-complete g [] [] in
    let tables : t.tables ≡ u.tables = cc in
    let procs : t.procs ≡ u.procs = cc in
    λ i. record { tables = tables i; procs = procs i }

pub tree-or-refusal : (ws : List Word) (t : Procedures) (n : ℕ) (k : ParseKind) → IsTreeOf ws t → IsRefusedAt ws n k → ⊥
tree-or-refusal ws t n k h r =
    ⊎_elim
    (λ u.
    ⊎_elim
    (λ less. u.0.at_word less (text-front (suc n) ws t h.text))
    (λ above. u.0.at_end (omega (arith, r.within)) t h.text)
    (cases_lt n (length ws)))
    (λ m. h.limits n m.within k m.passes)
    (fault-cases ws n k r.fault)
