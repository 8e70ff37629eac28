-- A text of procedures has one answer.
use Rattle.std.proofs.Common.{◌≡◌, ℕ, List, Result, Ok, Err, refl, sym, ap, subst, ◌∙◌, arith}
use Rattle.coco_ast.specs.Checks.{IsError, IsFirstError, behind_builtins}
use Rattle.coco_ast.specs.Tree.{Procedures}
use Rattle.coco_check.proofs.Answering.{one_first}
use Rattle.coco_lex.specs.Refusal.{IsRefused as HasNoTokens, ReadsAs}
use Rattle.coco_lex.specs.Tokens.{AreTokens}
use Rattle.coco_lex.specs.declared.error.LexError.{LexError}
use Rattle.coco_lex.specs.declared.token.Token.{Token}
use Rattle.coco_parse.specs.Refusal.{IsRefused as HaveNoTree, IsTreeOf, ParsesAs}
use Rattle.coco_parse.specs.Wording.{words_of}
use Rattle.coco_parse.specs.declared.error.ParseError.{ParseError}
use Rattle.coco_ending.specs.declared.error.TextError.TheVariants.{Long, Lex, Parse, Check}
use Rattle.coco_init.specs.Texts.{HasOneAnswer}

module _ (text : List ℕ) (lexes : (a b : Result (List Token) LexError) → ReadsAs text a → ReadsAs text b → a ≡ b)
    (parses : (ts : List Token) (a b : Result Procedures ParseError) → ParsesAs text ts a → ParsesAs text ts b → a ≡ b) where
  same_tokens : (ts us : List Token) → AreTokens text ts → AreTokens text us → ts ≡ us
  same_tokens ts us p q = let same = lexes (Ok ts) (Ok us) p q in cc

  no_tokens : (ts : List Token) (e : LexError) → AreTokens text ts → HasNoTokens text e → ⊥
  no_tokens ts e p q = let same = lexes (Ok ts) (Err e) p q in cc

  same_refusal : (e f : LexError) → HasNoTokens text e → HasNoTokens text f → e ≡ f
  same_refusal e f p q = let same = lexes (Err e) (Err f) p q in cc

  same_tree : (ts us : List Token) (s t : Procedures) → AreTokens text ts → AreTokens text us → IsTreeOf (words_of text ts) s → IsTreeOf (words_of text us) t → s ≡ t
  same_tree ts us s t p q one two =
      let same = parses us (Ok s) (Ok t) (subst (λ (l : List Token). IsTreeOf (words_of text l) s) (same_tokens ts us p q) one) two in
      cc

  no_tree : (ts us : List Token) (s : Procedures) (e : ParseError) → AreTokens text ts → AreTokens text us → IsTreeOf (words_of text ts) s → HaveNoTree text us e → ⊥
  no_tree ts us s e p q one two =
      let same = parses us (Ok s) (Err e) (subst (λ (l : List Token). IsTreeOf (words_of text l) s) (same_tokens ts us p q) one) two in
      cc

  same_place : (ts us : List Token) (e f : ParseError) → AreTokens text ts → AreTokens text us → HaveNoTree text ts e → HaveNoTree text us f → e ≡ f
  same_place ts us e f p q one two =
      let same = parses us (Err e) (Err f) (subst (λ (l : List Token). HaveNoTree text l e) (same_tokens ts us p q) one) two in
      cc

  pub one_answer : HasOneAnswer text
  one_answer (Ok s) (Ok t) p q =
      let own = same_tree p.tokens q.tokens p.own q.own p.lexed q.lexed p.parsed q.parsed in
      ap Ok (p.whole ∙ ap behind_builtins own ∙ sym q.whole)
  one_answer (Ok s) (Err Long) p q = let short = p.short in absurd (omega arith)
  one_answer (Ok s) (Err (Lex e)) p q = absurd (no_tokens p.tokens e p.lexed q.1)
  one_answer (Ok s) (Err (Parse e)) p q = absurd (no_tree p.tokens q.1.tokens p.own e p.lexed q.1.lexed p.parsed q.1.refused)
  one_answer (Ok s) (Err (Check e)) p q =
      let own = same_tree p.tokens q.1.tokens p.own q.1.tree p.lexed q.1.lexed p.parsed q.1.parsed in
      absurd (p.sound e (subst (λ (t : Procedures). IsError t e) (sym own) q.1.first.holds))
  one_answer (Err Long) (Ok t) p q = let short = q.short in absurd (omega arith)
  one_answer (Err Long) (Err Long) p q = refl
  one_answer (Err Long) (Err (Lex f)) p q = let short = q.0 in absurd (omega arith)
  one_answer (Err Long) (Err (Parse f)) p q = let short = q.0 in absurd (omega arith)
  one_answer (Err Long) (Err (Check f)) p q = let short = q.0 in absurd (omega arith)
  one_answer (Err (Lex e)) (Ok t) p q = absurd (no_tokens q.tokens e q.lexed p.1)
  one_answer (Err (Lex e)) (Err Long) p q = let short = p.0 in absurd (omega arith)
  one_answer (Err (Lex e)) (Err (Lex f)) p q = ap (λ x. Err (Lex x)) (same_refusal e f p.1 q.1)
  one_answer (Err (Lex e)) (Err (Parse f)) p q = absurd (no_tokens q.1.tokens e q.1.lexed p.1)
  one_answer (Err (Lex e)) (Err (Check f)) p q = absurd (no_tokens q.1.tokens e q.1.lexed p.1)
  one_answer (Err (Parse e)) (Ok t) p q = absurd (no_tree q.tokens p.1.tokens q.own e q.lexed p.1.lexed q.parsed p.1.refused)
  one_answer (Err (Parse e)) (Err Long) p q = let short = p.0 in absurd (omega arith)
  one_answer (Err (Parse e)) (Err (Lex f)) p q = absurd (no_tokens p.1.tokens f p.1.lexed q.1)
  one_answer (Err (Parse e)) (Err (Parse f)) p q = ap (λ x. Err (Parse x)) (same_place p.1.tokens q.1.tokens e f p.1.lexed q.1.lexed p.1.refused q.1.refused)
  one_answer (Err (Parse e)) (Err (Check f)) p q = absurd (no_tree q.1.tokens p.1.tokens q.1.tree e q.1.lexed p.1.lexed q.1.parsed p.1.refused)
  one_answer (Err (Check e)) (Ok t) p q =
      let own = same_tree q.tokens p.1.tokens q.own p.1.tree q.lexed p.1.lexed q.parsed p.1.parsed in
      absurd (q.sound e (subst (λ (t : Procedures). IsError t e) (sym own) p.1.first.holds))
  one_answer (Err (Check e)) (Err Long) p q = let short = p.0 in absurd (omega arith)
  one_answer (Err (Check e)) (Err (Lex f)) p q = absurd (no_tokens p.1.tokens f p.1.lexed q.1)
  one_answer (Err (Check e)) (Err (Parse f)) p q = absurd (no_tree p.1.tokens q.1.tokens p.1.tree f p.1.lexed q.1.lexed p.1.parsed q.1.refused)
  one_answer (Err (Check e)) (Err (Check f)) p q =
      let own = same_tree p.1.tokens q.1.tokens p.1.tree q.1.tree p.1.lexed q.1.lexed p.1.parsed q.1.parsed in
      ap (λ x. Err (Check x)) (one_first q.1.tree e f (subst (λ (t : Procedures). IsFirstError t e) own p.1.first) q.1.first)
