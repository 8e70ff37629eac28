-- What is parsed soundly is parsed wholly, unless memory runs out.
use Rattle.std.proofs.Common.{◌≡◌, ℕ, ◌⊎◌, inl, inr, List, Result, Ok, Err, IfOk, IfErr, IsErrAnd, MatchResult, refl, ap, subst}
use Rattle.coco_ast.specs.Tree.{Procedures}
use Rattle.coco_lex.specs.declared.token.Token.{Token}
use Rattle.coco_parse.specs.Refusal.{IsTreeOf, IsRefused, OnRefused}
use Rattle.coco_parse.specs.Wording.{words_of}
use Rattle.coco_parse.specs.declared.error.ParseError.{ParseError}
use Rattle.coco_parse.specs.declared.error.ParseFault.{ParseFault}
use Rattle.coco_parse.specs.declared.error.ParseFault.TheVariants.{Refused, NoMemory}
use Rattle.coco_parse.proofs.Verdicts.{one-reading}

same_tree : (text : List ℕ) (ts : List Token) (a b : Procedures) → IsTreeOf (words_of text ts) a → IsTreeOf (words_of text ts) b → a ≡ b
same_tree text ts a b g h = let e = one-reading text ts (Ok a) (Ok b) g h in cc e

same_refusal : (text : List ℕ) (ts : List Token) (a b : ParseError) → IsRefused text ts a → IsRefused text ts b → a ≡ b
same_refusal text ts a b g h = let e = one-reading text ts (Err a) (Err b) g h in cc e

tree_or_refusal : (text : List ℕ) (ts : List Token) (t : Procedures) (e : ParseError) → IsTreeOf (words_of text ts) t → IsRefused text ts e → ⊥
tree_or_refusal text ts t e g h = let both = one-reading text ts (Ok t) (Err e) g h in cc both

fault_tree : (text : List ℕ) (ts : List Token) (fault : ParseFault) → OnRefused fault (IsRefused text ts) → (t : Procedures) → IsTreeOf (words_of text ts) t → fault ≡ NoMemory
fault_tree text ts (Refused e) refused t h = absurd (tree_or_refusal text ts t e h refused)
fault_tree text ts NoMemory refused t h = refl

fault_refusal : (text : List ℕ) (ts : List Token) (fault : ParseFault) → OnRefused fault (IsRefused text ts) → (e : ParseError) → IsRefused text ts e → (fault ≡ Refused e) ⊎ (fault ≡ NoMemory)
fault_refusal text ts (Refused f) refused e h = inl (ap Refused (same_refusal text ts f e refused h))
fault_refusal text ts NoMemory refused e h = inr refl

pub only_tree : {V : Type 0} (text : List ℕ) (ts : List Token) (view : V → Procedures) (r : Result V ParseFault) → MatchResult r (λ v. IsTreeOf (words_of text ts) (view v)) (λ fault. OnRefused fault (IsRefused text ts))
    → (t : Procedures) → IsTreeOf (words_of text ts) t → MatchResult r (λ v. view v ≡ t) (λ fault. fault ≡ NoMemory)
only_tree text ts view (Ok v) h t tree = same_tree text ts (view v) t h tree
only_tree text ts view (Err fault) h t tree = fault_tree text ts fault h t tree

pub only_refusal : {V : Type 0} (text : List ℕ) (ts : List Token) (view : V → Procedures) (r : Result V ParseFault) → MatchResult r (λ v. IsTreeOf (words_of text ts) (view v)) (λ fault. OnRefused fault (IsRefused text ts))
    → (e : ParseError) → IsRefused text ts e → IsErrAnd r (λ fault. (fault ≡ Refused e) ⊎ (fault ≡ NoMemory))
only_refusal text ts view (Ok v) h e refused = absurd (tree_or_refusal text ts (view v) e h refused)
only_refusal text ts view (Err fault) h e refused = fault_refusal text ts fault h e refused

-- what a parser of this text and these tokens answers
pub of_parser : {V : Type 0} (text s : List ℕ) (ts us : List Token) (view : V → Procedures) (r : Result V ParseFault) → s ≡ text → us ≡ ts
    → MatchResult r (λ v. IsTreeOf (words_of s us) (view v)) (λ fault. OnRefused fault (IsRefused s us)) → MatchResult r (λ v. IsTreeOf (words_of text ts) (view v)) (λ fault. OnRefused fault (IsRefused text ts))
of_parser text s ts us view r e f h =
    let first = subst (λ x. MatchResult r (λ v. IsTreeOf (words_of x us) (view v)) (λ fault. OnRefused fault (IsRefused x us))) e h in
    subst (λ xs. MatchResult r (λ v. IsTreeOf (words_of text xs) (view v)) (λ fault. OnRefused fault (IsRefused text xs))) f first

pub if_ok : {V : Type 0} (r : Result V ParseFault) (P : V → Type 0) (Q : ParseFault → Type 0) → MatchResult r P Q → IfOk r P
if_ok (Ok v) P Q h = h
if_ok (Err e) P Q h = tt

pub if_err : {V : Type 0} (r : Result V ParseFault) (P : V → Type 0) (Q : ParseFault → Type 0) → MatchResult r P Q → IfErr r Q
if_err (Ok v) P Q h = tt
if_err (Err e) P Q h = h

-- what holds of each tree of the tokens holds of the one that is answered
pub of_tree : {V : Type 0} (text : List ℕ) (ts : List Token) (view : V → Procedures) (P : Procedures → Type 0) → ((t : Procedures) → IsTreeOf (words_of text ts) t → P t)
    → (r : Result V ParseFault) → MatchResult r (λ v. IsTreeOf (words_of text ts) (view v)) (λ fault. OnRefused fault (IsRefused text ts)) → IfOk r (λ v. P (view v))
of_tree text ts view P holds (Ok v) h = holds (view v) h
of_tree text ts view P holds (Err e) h = tt
