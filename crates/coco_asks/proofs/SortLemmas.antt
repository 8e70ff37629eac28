-- Lines sorted by what they ask, one by one, and the texts of their answers.
use Rattle.std.proofs.Common.{◌≡◌, ◌∙◌, refl, sym, ap, subst, ℕ, ◌+◌, ◌≤◌, arith, List, [], ◌∷◌, ◌++◌, length, map, Option, None, Some, Result, Ok, Err, OnOk, append-nil, ◌⊎◌, inl, inr}
use Rattle.std.proofs.lemmas.Result.{on_ok_weaker}
use Rattle.coco_types.specs.declared.call.Done.{Done}
use Rattle.coco_types.specs.declared.call.Reply.{Reply}
use Rattle.coco_types.specs.declared.call.Request.{Request}
use Rattle.coco_ast.specs.Meaning.{run}
use Rattle.coco_ast.specs.Tree.{Procedures}
use Rattle.coco_batches.specs.BatchReading.{numbered}
use Rattle.coco_lines.specs.Lines.{Line}
use Rattle.coco_lines.specs.Reading.{request_on}
use Rattle.coco_lines.specs.Texts.{done_text, error_text}
use Rattle.coco_lines.specs.declared.error.LineError.{LineError}
use Rattle.coco_lines.specs.declared.reader.Line.{Line as Given}
use Rattle.coco_asks.specs.Asking.{Past, answer_at, answer_by, answers_from, done_in}
use Rattle.coco_asks.specs.Sorting.{AreSorted, HasError, IsAsked, dones_with, texts_of}
use Rattle.coco_asks.specs.declared.asks.Refusal.{Refusal}

module _ (procs : Procedures) where
  pub sorted_error : (before : List Given) (rs : List (Option Refusal)) (qs : List Request) (line : Given) (r : Refusal) → HasError procs line.body r.error → r.number ≡ line.number
      → AreSorted procs before rs qs → AreSorted procs (before ++ line ∷ []) (rs ++ Some r ∷ []) qs
  sorted_error [] rs qs line r has numbers s =
      subst (λ (xs : List (Option Refusal)). AreSorted procs (line ∷ []) (xs ++ Some r ∷ []) qs) (sym s.0) (has, numbers, (refl, s.1))
  sorted_error (g ∷ gs) [] qs line r has numbers s = absurd s
  sorted_error (g ∷ gs) (Some x ∷ rs) qs line r has numbers s = (s.0, s.1, sorted_error gs rs qs line r has numbers s.2)
  sorted_error (g ∷ gs) (None ∷ rs) [] line r has numbers s = absurd s
  sorted_error (g ∷ gs) (None ∷ rs) (q ∷ qs) line r has numbers s = (s.0, sorted_error gs rs qs line r has numbers s.1)

  pub sorted_asked : (before : List Given) (rs : List (Option Refusal)) (qs : List Request) (line : Given) (q : Request) → IsAsked procs line.body q → AreSorted procs before rs qs
      → AreSorted procs (before ++ line ∷ []) (rs ++ None ∷ []) (qs ++ q ∷ [])
  sorted_asked [] rs qs line q is s =
      subst (λ (xs : List (Option Refusal)). AreSorted procs (line ∷ []) (xs ++ None ∷ []) (qs ++ q ∷ [])) (sym s.0)
      (subst (λ (ys : List Request). AreSorted procs (line ∷ []) (None ∷ []) (ys ++ q ∷ [])) (sym s.1) (is, (refl, refl)))
  sorted_asked (g ∷ gs) [] qs line q is s = absurd s
  sorted_asked (g ∷ gs) (Some x ∷ rs) qs line q is s = (s.0, s.1, sorted_asked gs rs qs line q is s.2)
  sorted_asked (g ∷ gs) (None ∷ rs) [] line q is s = absurd s
  sorted_asked (g ∷ gs) (None ∷ rs) (p ∷ qs) line q is s = (s.0, sorted_asked gs rs qs line q is s.1)

  -- there are no more requests than lines
  pub sorted_few : (lines : List Given) (rs : List (Option Refusal)) (qs : List Request) → AreSorted procs lines rs qs → length qs ≤ length lines
  sorted_few [] rs qs s = omega (arith, ap (length {A = Request}) s.1)
  sorted_few (g ∷ gs) [] qs s = absurd s
  sorted_few (g ∷ gs) (Some x ∷ rs) qs s = (let rest = sorted_few gs rs qs s.2 in omega (arith, rest))
  sorted_few (g ∷ gs) (None ∷ rs) [] s = absurd s
  sorted_few (g ∷ gs) (None ∷ rs) (q ∷ qs) s = (let rest = sorted_few gs rs qs s.1 in omega (arith, rest))

module _ (past : Past) where
  -- the answers of lines so sorted
  pub texts_are : (n : ℕ) (lines : List Line) (rs : List (Option Refusal)) (qs : List Request) → AreSorted past.procs (numbered n lines) rs qs
      → texts_of rs (map (done_in past) qs) ≡ answers_from past n lines
  texts_are n [] rs qs s = ap (λ (xs : List (Option Refusal)). texts_of xs (map (done_in past) qs)) s.0
  texts_are n (l ∷ ls) [] qs s = absurd s
  texts_are n (l ∷ ls) (Some r ∷ rs) qs s =
      let is : error_text r.error r.number ≡ answer_at past n l =
      ap (error_text r.error) s.1 ∙ sym (ap (λ (o : Option LineError). answer_by past n o (request_on past.procs l)) (s.0 l refl)) in
      ap (λ text. text ++ texts_of rs (map (done_in past) qs)) is ∙ ap (λ others. answer_at past n l ++ others) (texts_are (n + 1) ls rs qs s.2)
  texts_are n (l ∷ ls) (None ∷ rs) [] s = absurd s
  texts_are n (l ∷ ls) (None ∷ rs) (q ∷ qs) s =
      let asked = s.0 l refl in
      let is : done_text (done_in past q) ≡ answer_at past n l =
      sym (ap (λ (o : Option LineError). answer_by past n o (request_on past.procs l)) asked.0 ∙ ap (answer_by past n None) asked.1) in
      ap (λ text. text ++ texts_of rs (map (done_in past) qs)) is ∙ ap (λ others. answer_at past n l ++ others) (texts_are (n + 1) ls rs qs s.1)

  -- the Dones of requests whose replies are those of their runs
  pub dones_are : (qs : List Request) → dones_with past.epoch qs (map (λ (q : Request). (run past.procs q.call past.rows).reply) qs) ≡ map (done_in past) qs
  dones_are [] = refl
  dones_are (q ∷ qs) = ap (λ others. done_in past q ∷ others) (dones_are qs)

  -- what is said of lines so sorted, by the replies of their runs
  pub told_are : (n : ℕ) (lines : List Line) (rs : List (Option Refusal)) (qs : List Request) (replies : List Reply) (text : List ℕ) (xs : List (Option Refusal)) (made ds : List Done)
      → AreSorted past.procs (numbered n lines) rs qs → replies ≡ map (λ (q : Request). (run past.procs q.call past.rows).reply) qs → made ≡ dones_with past.epoch qs replies → xs ≡ rs → ds ≡ made
      → text ≡ texts_of xs ds → text ≡ answers_from past n lines
  told_are n lines rs qs replies text xs made ds sorted are dones refusals all says =
      says ∙ (λ i. texts_of (refusals i) (all i)) ∙ ap (texts_of rs) (dones ∙ ap (dones_with past.epoch qs) are ∙ dones_are qs) ∙ texts_are n lines rs qs sorted

-- ---- one by one

-- none is left
pub dones_end : (epoch : ℕ) (all ds : List Done) (qs : List Request) (rs : List Reply) → (length qs ≡ 0) ⊎ (length rs ≡ 0) → ds ++ dones_with epoch qs rs ≡ all → ds ≡ all
dones_end epoch all ds [] rs none so_far = sym (append-nil ds) ∙ so_far
dones_end epoch all ds (q ∷ qs) [] none so_far = sym (append-nil ds) ∙ so_far
dones_end epoch all ds (q ∷ qs) (r ∷ rs) (inl none) so_far = absurd (omega (arith, none))
dones_end epoch all ds (q ∷ qs) (r ∷ rs) (inr none) so_far = absurd (omega (arith, none))

-- ---- what a line taken in gives

module _ {E : Type 0} (procs : Procedures) (before : List Given) (line : Given) (rs rs' : List (Option Refusal)) (qs qs' : List Request) (result : Result (Unit {0}) E) where
  pub took_request : (q : Request) → IsAsked procs line.body q → OnOk result (rs' ≡ rs ++ None ∷ []) → OnOk result (qs' ≡ qs ++ q ∷ []) → AreSorted procs before rs qs
      → OnOk result (AreSorted procs (before ++ line ∷ []) rs' qs')
  took_request q is refusals requests sorted = both result refusals requests
    where
      both : (r : Result (Unit {0}) E) → OnOk r (rs' ≡ rs ++ None ∷ []) → OnOk r (qs' ≡ qs ++ q ∷ []) → OnOk r (AreSorted procs (before ++ line ∷ []) rs' qs')
      both (Ok u) a b = subst (λ (xs : List (Option Refusal)). AreSorted procs (before ++ line ∷ []) xs qs') (sym a)
          (subst (λ (ys : List Request). AreSorted procs (before ++ line ∷ []) (rs ++ None ∷ []) ys) (sym b) (sorted_asked procs before rs qs line q is sorted))
      both (Err e) a b = tt

  pub took_error : (r : Refusal) → HasError procs line.body r.error → r.number ≡ line.number → OnOk result (rs' ≡ rs ++ Some r ∷ []) → qs' ≡ qs → AreSorted procs before rs qs
      → OnOk result (AreSorted procs (before ++ line ∷ []) rs' qs')
  took_error r has numbers refusals requests sorted = on_ok_weaker result (λ a. subst (λ (xs : List (Option Refusal)). AreSorted procs (before ++ line ∷ []) xs qs') (sym a)
      (subst (λ (ys : List Request). AreSorted procs (before ++ line ∷ []) (rs ++ Some r ∷ []) ys) (sym requests) (sorted_error procs before rs qs line r has numbers sorted))) refusals
