-- Words that a file may begin with.
use Rattle.std.proofs.Common.{◌≡◌, ℕ, zero, suc, ◌≤◌, List, [], ◌∷◌, ◌++◌, take, drop, None, Some, option_and_then, refl, sym, ap, subst, ◌∙◌, arith, append_assoc}
use Rattle.std.proofs.lemmas.List.{take-append-drop}
use Rattle.coco_ast.specs.Tree.{Procedures}
use Rattle.coco_parse.specs.Grammar.{IsText, IsFront}
use Rattle.coco_parse.specs.Machine.{Items, after, start}
use Rattle.coco_parse.specs.declared.word.Word.{Word}
use Rattle.coco_parse.proofs.Completing.{items-complete}
use Rattle.coco_parse.proofs.Following.{after-append}

front-shorter : (us vs : List Word) → IsFront (us ++ vs) → IsFront us
front-shorter us vs f = (vs ++ f.0, f.1, subst (λ ws. IsText ws f.1) (append_assoc us vs f.0) f.2)

take-more : (m n : ℕ) (ws : List Word) → m ≤ n → (vs : List Word) × (take n ws ≡ take m ws ++ vs)
take-more zero n ws h = (take n ws, refl)
take-more (suc m) zero ws h = absurd (omega arith)
take-more (suc m) (suc n) [] h = ([], refl)
take-more (suc m) (suc n) (w ∷ ws) h = let more = take-more m n ws (omega arith) in (more.0, ap (λ us. w ∷ us) more.1)

pub front-earlier : (m n : ℕ) (ws : List Word) → m ≤ n → IsFront (take n ws) → IsFront (take m ws)
front-earlier m n ws h f = let more = take-more m n ws h in front-shorter (take m ws) more.0 (subst IsFront more.1 f)

pub text-front : (n : ℕ) (ws : List Word) (t : Procedures) → IsText ws t → IsFront (take n ws)
text-front n ws t h = (drop n ws, t, subst (λ us. IsText us t) (sym (take-append-drop n ws)) h)

-- the machine goes on as long as a file does
pub no-front : (us : List Word) → after start us ≡ None → IsFront us → ⊥
no-front us h f =
    let whole : after start (us ++ f.0) ≡ Some (Items f.1.tables f.1.procs) = items-complete f.2 [] [] in
    let stopped : after start (us ++ f.0) ≡ None = after-append start us f.0 ∙ ap (option_and_then (λ g. after g f.0)) h in
    cc
