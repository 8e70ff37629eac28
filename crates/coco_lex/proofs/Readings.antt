-- A text is read in one way.
use Rattle.std.proofs.Common.{◌≡◌, ℕ, ◌+◌, ◌-◌, ◌⊎◌, inl, inr, ⊎_elim, List, [], ◌∷◌, ◌++◌, length, take, drop, IsUtf8, Result, Ok, Err, IfOk, IfErr, IsErrAnd, MatchResult, sym, refl, ap, ◌∙◌, subst, arith, length-drop, take_all}
use Rattle.std.specs.Str.{IsValidUpTo}
use Rattle.std.proofs.lemmas.Str.{utf8_valid_len-IsValidUpTo}
use Rattle.std.proofs.lemmas.List.{take_rest}
use Rattle.coco_lex.specs.Gap.{IsGap}
use Rattle.coco_lex.specs.Tokens.{IsToken, IsFront, Follow, AreTokens}
use Rattle.coco_lex.specs.Refusal.{IsFaultAt, IsFirstFault, IsFirstBadByte, IsRefused, ReadsAs, OnRefused}
use Rattle.coco_lex.specs.declared.token.Token.{Token}
use Rattle.coco_lex.specs.declared.token.TokenKind.{TokenKind}
use Rattle.coco_lex.specs.declared.error.LexError.{LexError}
use Rattle.coco_lex.specs.declared.error.LexFault.{LexFault}
use Rattle.coco_lex.specs.declared.error.LexFault.TheVariants.{Refused, NoMemory}
use Rattle.coco_lex.specs.declared.error.LexKind.TheVariants.{Utf8}
use Rattle.coco_lex.proofs.Gaps.{one_gap}
use Rattle.coco_lex.proofs.Faults.{front_positive, front_only, front_no_fault, fault_only}

-- tokens end at the text's end, or before a fault
abbrev Stop : List ℕ → ℕ → Type 0
Stop text p = (p ≡ length text) ⊎ ((e : LexError) × IsFaultAt text p e)

no_token_there : (text : List ℕ) (t : Token) → IsToken text t → Stop text t.start → ⊥
no_token_there text t token stop =
    ⊎_elim
    (λ end. omega (arith, token.ordered, token.front.longest.within, length-drop t.start text))
    (λ faulty. front_no_fault (drop t.start text) t.kind (t.end - t.start) faulty.0.kind faulty.1.offset token.front faulty.1.fault)
    stop

same_token : (text : List ℕ) (t u : Token) → IsToken text t → IsToken text u → t.start ≡ u.start → t ≡ u
same_token text t u p q starts =
    let front : IsFront (drop u.start text) t.kind (t.end - t.start) = subst (λ s. IsFront (drop s text) t.kind (t.end - t.start)) starts p.front in
    let same = front_only (drop u.start text) t.kind u.kind (t.end - t.start) (u.end - u.start) front q.front in
    let ends : t.end ≡ u.end = omega (arith, same.1, p.ordered, q.ordered) in
    λ i. record { start = starts i; end = ends i; kind = same.0 i }

same_follow : (text : List ℕ) (from : ℕ) (ts us : List Token) (a b : ℕ) → Follow text from ts a → Follow text from us b → Stop text a → Stop text b → (ts ≡ us) × (a ≡ b)
same_follow text from [] [] a b f g s r = (refl, one_gap text from a b f g)
same_follow text from [] (u ∷ us) a b f g s r = absurd (no_token_there text u g.1 (subst (Stop text) (one_gap text from a u.start f g.0) s))
same_follow text from (t ∷ ts) [] a b f g s r = absurd (no_token_there text t f.1 (subst (Stop text) (one_gap text from b t.start g f.0) r))
same_follow text from (t ∷ ts) (u ∷ us) a b f g s r =
    let same = same_token text t u f.1 g.1 (one_gap text from t.start u.start f.0 g.0) in
    let rest = same_follow text t.end ts us a b f.2 (subst (λ v. Follow text v us b) (sym (ap (λ (w : Token). w.end) same)) g.2) s r in
    ((λ i. same i ∷ rest.0 i), rest.1)

same_fault : (text : List ℕ) (p : ℕ) (e f : LexError) → IsFaultAt text p e → IsFaultAt text p f → e ≡ f
same_fault text p e f g h =
    let same = fault_only (drop p text) e.kind f.kind g.offset h.offset g.fault h.fault in
    let places : e.at ≡ f.at = g.place ∙ ap (λ k. p + k) same.1 ∙ sym h.place in
    λ i. record { at = places i; kind = same.0 i }

not_utf8 : (text : List ℕ) (n : ℕ) → IsValidUpTo text n → IsUtf8 text → ⊥
not_utf8 text n v u = v.longest (length text) v.short (subst IsUtf8 (sym (take_all (length text) text (omega arith))) u)

same_bad_byte : (text : List ℕ) (e f : LexError) → IsFirstBadByte text e → IsFirstBadByte text f → e ≡ f
same_bad_byte text e f g h =
    let places : e.at ≡ f.at = sym (utf8_valid_len-IsValidUpTo text e.at g.place) ∙ utf8_valid_len-IsValidUpTo text f.at h.place in
    let kinds : e.kind ≡ f.kind = g.kind ∙ sym h.kind in
    λ i. record { at = places i; kind = kinds i }

same_first_fault : (text : List ℕ) (e f : LexError) → IsFirstFault text e → IsFirstFault text f → e ≡ f
same_first_fault text e f g h =
    let same = same_follow text 0 g.tokens h.tokens g.from h.from g.follow h.follow (inr (e, g.fault)) (inr (f, h.fault)) in
    same_fault text h.from e f (subst (λ p. IsFaultAt text p e) same.1 g.fault) h.fault

pub same_refusal : (text : List ℕ) (e f : LexError) → IsRefused text e → IsRefused text f → e ≡ f
same_refusal text e f g h =
    ⊎_elim
    (λ b. ⊎_elim (λ c. same_bad_byte text e f b c) (λ c. absurd (not_utf8 text e.at b.place c.utf8)) h)
    (λ b. ⊎_elim (λ c. absurd (not_utf8 text f.at c.place b.utf8)) (λ c. same_first_fault text e f b c) h)
    g

pub same_tokens : (text : List ℕ) (ts us : List Token) → AreTokens text ts → AreTokens text us → ts ≡ us
same_tokens text ts us g h = (same_follow text 0 ts us (length text) (length text) g.follow h.follow (inl refl) (inl refl)).0

pub tokens_or_refusal : (text : List ℕ) (ts : List Token) (e : LexError) → AreTokens text ts → IsRefused text e → ⊥
tokens_or_refusal text ts e g h =
    ⊎_elim
    (λ b. not_utf8 text e.at b.place g.utf8)
    (λ b.
    let same = same_follow text 0 ts b.tokens (length text) b.from g.follow b.follow (inl refl) (inr (e, b.fault)) in
    omega (arith, same.1, b.fault.within))
    h

pub one_reading : (text : List ℕ) (a b : Result (List Token) LexError) → ReadsAs text a → ReadsAs text b → a ≡ b
one_reading text (Ok ts) (Ok us) g h = ap Ok (same_tokens text ts us g h)
one_reading text (Ok ts) (Err e) g h = absurd (tokens_or_refusal text ts e g h)
one_reading text (Err e) (Ok ts) g h = absurd (tokens_or_refusal text ts e h g)
one_reading text (Err e) (Err f) g h = ap Err (same_refusal text e f g h)

-- one more token, and the gap behind it
pub follow_more : (text : List ℕ) (from : ℕ) (ts : List Token) (p : ℕ) (t : Token) (q : ℕ) → Follow text from ts p → t.start ≡ p → IsToken text t → IsGap text t.end q → Follow text from (ts ++ t ∷ []) q
follow_more text from [] p t q f start token gap = (subst (IsGap text from) (sym start) f, token, gap)
follow_more text from (u ∷ us) p t q f start token gap = (f.0, f.1, follow_more text u.end us p t q f.2 start token gap)

pub front_token : (text : List ℕ) (place len : ℕ) (k : TokenKind) → IsFront (take (length text - place) (drop place text)) k len → IsToken text (record { start = place; end = place + len; kind = k })
front_token text place len k front =
    let whole = subst (λ l. IsFront l k len) (take_rest text place) front in
    let same : place + len - place ≡ len = omega arith in
    record {
      ordered = omega (arith, front_positive (drop place text) len whole.longest);
      front = subst (IsFront (drop place text) k) (sym same) whole;
    }

fault_tokens : (text : List ℕ) (fault : LexFault) → OnRefused fault (IsRefused text) → (ts : List Token) → AreTokens text ts → fault ≡ NoMemory
fault_tokens text (Refused e) refused ts h = absurd (tokens_or_refusal text ts e h refused)
fault_tokens text NoMemory refused ts h = refl

fault_refusal : (text : List ℕ) (fault : LexFault) → OnRefused fault (IsRefused text) → (e : LexError) → IsRefused text e → (fault ≡ Refused e) ⊎ (fault ≡ NoMemory)
fault_refusal text (Refused f) refused e h = inl (ap Refused (same_refusal text f e refused h))
fault_refusal text NoMemory refused e h = inr refl

-- what is read soundly is read wholly, unless memory runs out
pub only_tokens : {V : Type 0} (text : List ℕ) (items : V → List Token) (r : Result V LexFault) → IfOk r (λ v. AreTokens text (items v)) → IfErr r (λ fault. OnRefused fault (IsRefused text)) → (ts : List Token) → AreTokens text ts → MatchResult r (λ v. items v ≡ ts) (λ fault. fault ≡ NoMemory)
only_tokens text items (Ok v) tokens refused ts h = same_tokens text (items v) ts tokens h
only_tokens text items (Err fault) tokens refused ts h = fault_tokens text fault refused ts h

pub only_refusal : {V : Type 0} (text : List ℕ) (items : V → List Token) (r : Result V LexFault) → IfOk r (λ v. AreTokens text (items v)) → IfErr r (λ fault. OnRefused fault (IsRefused text)) → (e : LexError) → IsRefused text e → IsErrAnd r (λ fault. (fault ≡ Refused e) ⊎ (fault ≡ NoMemory))
only_refusal text items (Ok v) tokens refused e h = absurd (tokens_or_refusal text (items v) e tokens h)
only_refusal text items (Err fault) tokens refused e h = fault_refusal text fault refused e h

-- where UTF-8 ends is the first refusal
pub bad_byte_first : (text : List ℕ) (n : ℕ) → IsValidUpTo text n → (e : LexError) → IsRefused text e → Refused (record { at = n; kind = Utf8 }) ≡ Refused e
bad_byte_first text n v e h = ap Refused (same_refusal text (record { at = n; kind = Utf8 }) e (inl (record { kind = refl; place = v })) h)
