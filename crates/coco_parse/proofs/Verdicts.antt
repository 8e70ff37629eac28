-- What the machine's run says of words: their tree, or their first refusal.
use Rattle.std.proofs.Common.{◌≡◌, ℕ, suc, ◌<◌, List, [], length, take, None, Some, Result, Ok, Err, sym, ap, subst, ◌∙◌, arith, take_all}
use Rattle.coco_ast.specs.Tree.{Procedure, Procedures}
use Rattle.coco_lex.specs.declared.token.Token.{Token}
use Rattle.coco_parse.specs.Grammar.{IsFile, IsFront}
use Rattle.coco_parse.specs.Limits.{Passes}
use Rattle.coco_parse.specs.Refusal.{KeepLimits, IsTreeOf, IsRefusedAt, ParsesAs}
use Rattle.coco_parse.specs.Wording.{words_of}
use Rattle.coco_parse.specs.Machine.{Goal, Items, after, start}
use Rattle.coco_parse.specs.Steps.{IsItems}
use Rattle.coco_parse.specs.declared.error.ParseError.{ParseError}
use Rattle.coco_parse.specs.declared.error.ParseKind.{ParseKind}
use Rattle.coco_parse.specs.declared.error.ParseKind.TheVariants.{Unexpected}
use Rattle.coco_parse.specs.declared.word.Word.{Word}
use Rattle.coco_parse.proofs.Completing.{items-complete}
use Rattle.coco_parse.proofs.Fronts.{front-earlier, no-front}
use Rattle.coco_parse.proofs.Readings.{too-much-fault, same-refusal, same-tree, tree-or-refusal}
use Rattle.coco_parse.proofs.Sounding.{file-sound, reached-front}

same_goal : (g h : Goal) → Some g ≡ Some h → g ≡ h
same_goal g h e = cc

pub file-complete : {ws : List Word} {ts : List (List ℕ)} {ps : List Procedure} → IsFile ws ts ps → after start ws ≡ Some (Items ts ps)
file-complete h = items-complete h [] []

pub tree-of : (ws : List Word) (ts : List (List ℕ)) (ps : List Procedure) → after start ws ≡ Some (Items ts ps) → KeepLimits ws (length ws) → IsTreeOf ws (record { tables = ts; procs = ps })
tree-of ws ts ps h limits = record { text = file-sound ws ts ps h; limits = limits }

pub unexpected-word : (ws : List Word) (n : ℕ) (g : Goal) → n < length ws → KeepLimits ws n → after start (take n ws) ≡ Some g → after start (take (suc n) ws) ≡ None → IsRefusedAt ws n Unexpected
unexpected-word ws n g within limits reached fails = record {
  within = omega arith;
  front = reached-front (take n ws) g reached;
  limits = limits;
  fault = record { at_word = λ _. no-front (take (suc n) ws) fails; at_end = λ end t h. absurd (omega arith) };
}

pub unexpected-end : (ws : List Word) (g : Goal) → KeepLimits ws (length ws) → after start ws ≡ Some g → ¬ (IsItems g) → IsRefusedAt ws (length ws) Unexpected
unexpected-end ws g limits reached unfinished = record {
  within = omega arith;
  front = subst IsFront (sym (take_all (length ws) ws (omega arith))) (reached-front ws g reached);
  limits = limits;
  fault = record {
    at_word = λ less. absurd (omega arith);
    at_end = λ _ t h. unfinished (t.tables, t.procs, same_goal g (Items t.tables t.procs) (sym reached ∙ file-complete h));
  };
}

pub too-much : (ws : List Word) (n : ℕ) (k : ParseKind) (g : Goal) → n < length ws → KeepLimits ws n → after start (take (suc n) ws) ≡ Some g → Passes k (take (suc n) ws) → IsRefusedAt ws n k
too-much ws n k g within limits reached passes =
    let allowed = reached-front (take (suc n) ws) g reached in
    record {
      within = omega arith;
      front = front-earlier n (suc n) ws (omega arith) allowed;
      limits = limits;
      fault = too-much-fault ws n k passes (record { within = within; allowed = allowed; passes = passes });
    }

pub one-reading : (text : List ℕ) (ts : List Token) (a b : Result Procedures ParseError) → ParsesAs text ts a → ParsesAs text ts b → a ≡ b
one-reading text ts (Ok t) (Ok u) p q = ap Ok (same-tree (words_of text ts) t u p.text q.text)
one-reading text ts (Ok t) (Err e) p q = absurd (tree-or-refusal (words_of text ts) t q.count e.kind p q.refused)
one-reading text ts (Err e) (Ok t) p q = absurd (tree-or-refusal (words_of text ts) t p.count e.kind q p.refused)
one-reading text ts (Err e) (Err f) p q = ap Err (same-refusal text ts e f p q)
