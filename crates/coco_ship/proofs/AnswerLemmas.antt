-- What copies answer, one copy or partition more at a time.
use Rattle.std.proofs.Common.{◌≡◌, ◌≢◌, ℕ, ◌+◌, ◌*◌, ◌<◌, ◌≤◌, ◌&&◌, Bool, true, false, is_some, List, [], ◌∷◌, ◌++◌, length, Some, refl, sym, ap, ◌∙◌, subst, arith, inl, inr}
use Rattle.std.proofs.Math.ListN.{set}
use Rattle.std.specs.List.{slice_get, Contains}
use Rattle.std.specs.Option.{option_map}
use Rattle.std.proofs.lemmas.Bool.{cases_lt}
use Rattle.coco_msg.specs.declared.message.Message.{Message}
use Rattle.coco_net.specs.declared.letter.Posted.{Posted}
use Rattle.coco_ship.specs.declared.line.Line.{Line}
use Rattle.coco_ship.specs.declared.ring.Ring.{Ring}
use Rattle.coco_ship.specs.Placing.{table_of, IsCopy}
use Rattle.coco_ship.specs.Lines.{answered, AreAnswered}
use Rattle.coco_ship.specs.Sending.{reply_of, Answers, AnswersOf, AreAnswers, GivesAnswer, IsAnswer}
use Rattle.coco_ship.proofs.SendLemmas.{adds_none, adds_push, adds_wider, pushed_stays, pushed_there}
use Rattle.coco_ship.proofs.Tables.{below_all, one_read, set_other, set_same, tables_apart}

-- an answer in its letter
pub posted_answer : (ring : Ring) (epoch p j : ℕ) (line : Line) (m : Message) → GivesAnswer epoch p line m → IsAnswer ring epoch p j line (reply_of ring p j m)
posted_answer ring epoch p j line m gives = record { total = gives.total; missing = gives.missing; has_total = gives.has_total; misses = gives.misses; readable = gives.readable; is = ap (reply_of ring p j) gives.is }

-- ---- the copies of one partition

abbrev IsOfOne : Ring → ℕ → ℕ → List Line → ℕ → Posted → Type 0
IsOfOne ring epoch p lines n s = (j : ℕ) × (j < n) × ((line : Line) × (slice_get lines (table_of ring p j) ≡ Some line) × IsAnswer ring epoch p j line s)

pub answers_none : (ring : Ring) (epoch p : ℕ) (lines : List Line) (old : List Posted) → AnswersOf ring epoch p lines 0 old old
answers_none ring epoch p lines old = record { added = adds_none old (IsOfOne ring epoch p lines 0); sent = λ j less. absurd (omega (arith, less)) }

one_wider : (ring : Ring) (epoch p : ℕ) (lines : List Line) (n : ℕ) (s : Posted) → IsOfOne ring epoch p lines n s → IsOfOne ring epoch p lines (n + 1) s
one_wider ring epoch p lines n s h = let less : h.0 < n = h.1 in (h.0, omega (arith, less), h.2)

pub answers_more : (ring : Ring) (epoch p : ℕ) (lines : List Line) (n : ℕ) (old mid new : List Posted) (line : Line) (s : Posted) → slice_get lines (table_of ring p n) ≡ Some line → IsAnswer ring epoch p n line s
    → new ≡ mid ++ s ∷ [] → AnswersOf ring epoch p lines n old mid → AnswersOf ring epoch p lines (n + 1) old new
answers_more ring epoch p lines n old mid new line s here answer is before = record {
  added = adds_push old mid new s (IsOfOne ring epoch p lines (n + 1)) is (n, omega arith, (line, here, answer))
      (adds_wider old mid (IsOfOne ring epoch p lines n) (IsOfOne ring epoch p lines (n + 1)) (one_wider ring epoch p lines n) before.added);
  sent = λ j less other other_is told asked. elim (cases_lt j n) [
    | inl early ↦ let by = before.sent j early other other_is told asked in (by.0, pushed_stays mid new s by.0 is by.1, by.2)
    | inr last ↦
        let same : n ≡ j = omega (arith, less, last) in
        let one : line ≡ other = one_read (slice_get lines (table_of ring p n)) line other here (ap (λ j. slice_get lines (table_of ring p j)) same ∙ other_is) in
        (s, pushed_there mid new s is, subst (λ j. IsAnswer ring epoch p j other s) same (subst (λ z. IsAnswer ring epoch p n z s) one answer))
  ];
}

-- or one has nothing to answer
pub answers_same : (ring : Ring) (epoch p : ℕ) (lines : List Line) (n : ℕ) (old mid : List Posted) (line : Line) → slice_get lines (table_of ring p n) ≡ Some line
    → ((is_some line.total ≡ true) → (line.is_asked ≡ true) → ⊥) → AnswersOf ring epoch p lines n old mid → AnswersOf ring epoch p lines (n + 1) old mid
answers_same ring epoch p lines n old mid line here needless before = record {
  added = adds_wider old mid (IsOfOne ring epoch p lines n) (IsOfOne ring epoch p lines (n + 1)) (one_wider ring epoch p lines n) before.added;
  sent = λ j less other other_is told asked. elim (cases_lt j n) [
    | inl early ↦ before.sent j early other other_is told asked
    | inr last ↦
        let same : n ≡ j = omega (arith, less, last) in
        let one : line ≡ other = one_read (slice_get lines (table_of ring p n)) line other here (ap (λ j. slice_get lines (table_of ring p j)) same ∙ other_is) in
        absurd (needless (ap (λ (z : Line). is_some z.total) one ∙ told) (ap (λ (z : Line). z.is_asked) one ∙ asked))
  ];
}

-- The lines of the first copies of a partition are answered, the others are as before.
pub record AreAnsweredTo (ring : Ring) (p n : ℕ) (old new : List Line) : Type 0 where
  pub here : (j : ℕ) → j < n → IsCopy ring p j → slice_get new (table_of ring p j) ≡ option_map answered (slice_get old (table_of ring p j))
  pub later : (j : ℕ) → n ≤ j → IsCopy ring p j → slice_get new (table_of ring p j) ≡ slice_get old (table_of ring p j)
  pub others : (q j : ℕ) → IsCopy ring q j → q ≢ p → slice_get new (table_of ring q j) ≡ slice_get old (table_of ring q j)

pub answered_none : (ring : Ring) (p : ℕ) (lines : List Line) → AreAnsweredTo ring p 0 lines lines
answered_none ring p lines = record {
  here = λ j less. absurd (omega (arith, less));
  later = λ j more copy. refl;
  others = λ q j copy apart. refl;
}

pub answered_more : (ring : Ring) (p n : ℕ) (old mid : List Line) (line : Line) → IsCopy ring p n → length mid ≡ ring.partitions * ring.copies → slice_get mid (table_of ring p n) ≡ Some line
    → AreAnsweredTo ring p n old mid → AreAnsweredTo ring p (n + 1) old (set mid (table_of ring p n) (answered line))
answered_more ring p n old mid line at count line_is before =
    let inside : table_of ring p n < ring.partitions * ring.copies = below_all ring.partitions ring.copies p n at.partition at.copy in
    let now : slice_get (set mid (table_of ring p n) (answered line)) (table_of ring p n) ≡ Some (answered line) = set_same mid (table_of ring p n) (answered line) (omega (arith, inside, count)) in
    let was : slice_get old (table_of ring p n) ≡ Some line = sym (before.later n (omega arith) at) ∙ line_is in
    record {
      here = λ j less copy. elim (cases_lt j n) [
        | inl early ↦ set_other mid (table_of ring p n) (table_of ring p j) (answered line) (λ e. past j n early (tables_apart ring.copies p j p n copy.copy at.copy e).1) ∙ before.here j early copy
        | inr last ↦
            let same : n ≡ j = omega (arith, less, last) in
            subst (λ j. slice_get (set mid (table_of ring p n) (answered line)) (table_of ring p j) ≡ option_map answered (slice_get old (table_of ring p j))) same (now ∙ sym (ap (option_map answered) was))
      ];
      later = λ j more copy. set_other mid (table_of ring p n) (table_of ring p j) (answered line) (λ e. past n j (omega (arith, more)) (sym (tables_apart ring.copies p j p n copy.copy at.copy e).1)) ∙ before.later j (omega (arith, more)) copy;
      others = λ q j copy apart. set_other mid (table_of ring p n) (table_of ring q j) (answered line) (λ e. apart (tables_apart ring.copies q j p n copy.copy at.copy e).0) ∙ before.others q j copy apart;
    }
  where
    past : (a b : ℕ) → a < b → a ≡ b → ⊥
    past a b less same = omega arith

pub answered_all : (ring : Ring) (p : ℕ) (old new : List Line) → AreAnsweredTo ring p ring.copies old new → (q j : ℕ) → IsCopy ring q j → AreAnswered q p (slice_get old (table_of ring q j)) (slice_get new (table_of ring q j))
answered_all ring p old new answered_to q j copy = record {
  here = λ same. subst (λ q. IsCopy ring q j → slice_get new (table_of ring q j) ≡ option_map answered (slice_get old (table_of ring q j))) (sym same) (λ at. answered_to.here j at.copy at) copy;
  others = λ apart. answered_to.others q j copy apart;
}

-- ---- all partitions

-- The copies of the first partitions answered; the lines of the others are as before.
pub record AreAnswersTo (ring : Ring) (epoch : ℕ) (old : List Line) (count : ℕ) (new : List Line) (letters : List Posted) : Type 0 where
  pub only : (s : Posted) → Contains letters s → (p : ℕ) × (j : ℕ) × IsCopy ring p j × ((line : Line) × (slice_get old (table_of ring p j) ≡ Some line) × IsAnswer ring epoch p j line s)
  pub sent : (p j : ℕ) → p < count → IsCopy ring p j → (line : Line) → slice_get old (table_of ring p j) ≡ Some line → is_some line.total ≡ true → line.is_asked ≡ true
      → (s : Posted) × Contains letters s × IsAnswer ring epoch p j line s
  pub lines : (p j : ℕ) → p < count → IsCopy ring p j → slice_get new (table_of ring p j) ≡ option_map answered (slice_get old (table_of ring p j))
  pub later : (p j : ℕ) → count ≤ p → IsCopy ring p j → slice_get new (table_of ring p j) ≡ slice_get old (table_of ring p j)

pub answers_nothing : (ring : Ring) (epoch : ℕ) (lines : List Line) → AreAnswersTo ring epoch lines 0 lines []
answers_nothing ring epoch lines = record {
  only = λ s h. absurd (omega (arith, h.1));
  sent = λ p j less. absurd (omega (arith, less));
  lines = λ p j less. absurd (omega (arith, less));
  later = λ p j more copy. refl;
}

pub answers_next : (ring : Ring) (epoch q : ℕ) (old mid new : List Line) (before after : List Posted) → q < ring.partitions → AnswersOf ring epoch q mid ring.copies before after
    → ((p j : ℕ) → IsCopy ring p j → AreAnswered p q (slice_get mid (table_of ring p j)) (slice_get new (table_of ring p j)))
    → AreAnswersTo ring epoch old q mid before → AreAnswersTo ring epoch old (q + 1) new after
answers_next ring epoch q old mid new before after within one answered_one so_far = record {
  only = λ s h. elim (one.added.only s h) [
    | inl had ↦ so_far.only s had
    | inr by ↦
        let copy : IsCopy ring q by.0 = record { partition = within; copy = by.1 } in
        (q, by.0, copy, (by.2.0, sym (so_far.later q by.0 (omega arith) copy) ∙ by.2.1, by.2.2))
  ];
  sent = λ p j less copy line line_is told asked. elim (cases_lt p q) [
    | inl early ↦ let by = so_far.sent p j early copy line line_is told asked in (by.0, one.added.stay by.0 by.1, by.2)
    | inr last ↦
        let same : q ≡ p = omega (arith, less, last) in
        subst (λ p. IsCopy ring p j → slice_get old (table_of ring p j) ≡ Some line → (s : Posted) × Contains after s × IsAnswer ring epoch p j line s) same
        (λ at at_is. one.sent j at.copy line (so_far.later q j (omega arith) at ∙ at_is) told asked) copy line_is
  ];
  lines = λ p j less copy. elim (cases_lt p q) [
    | inl early ↦ (answered_one p j copy).others (unlike p q early) ∙ so_far.lines p j early copy
    | inr last ↦
        let same : p ≡ q = omega (arith, less, last) in
        (answered_one p j copy).here same ∙ ap (option_map answered) (so_far.later p j last copy)
  ];
  later = λ p j more copy. (answered_one p j copy).others (beyond p q more) ∙ so_far.later p j (omega (arith, more)) copy;
}
  where
    unlike : (p q : ℕ) → p < q → p ≡ q → ⊥
    unlike p q less same = omega arith

    beyond : (p q : ℕ) → q + 1 ≤ p → p ≡ q → ⊥
    beyond p q more same = omega arith

pub answers_all : (ring : Ring) (epoch : ℕ) (old new : List Line) (letters : List Posted) → AreAnswersTo ring epoch old ring.partitions new letters → AreAnswers ring epoch old letters
answers_all ring epoch old new letters all = record { only = all.only; sent = λ p j copy. all.sent p j copy.partition copy }

-- ---- one copy, whether or not it has an answer

pub answers_step : (ring : Ring) (epoch p : ℕ) (lines : List Line) (n : ℕ) (old mid new : List Posted) (line : Line) → slice_get lines (table_of ring p n) ≡ Some line → Answers ring epoch p n line mid new
    → AnswersOf ring epoch p lines n old mid → AnswersOf ring epoch p lines (n + 1) old new
answers_step ring epoch p lines n old mid new line here answer before = by (is_some line.total) line.is_asked refl refl
  where
    two_sides : true ≡ false → ⊥
    two_sides h = cc

    nothing : ((is_some line.total ≡ true) → (line.is_asked ≡ true) → ⊥) → AnswersOf ring epoch p lines (n + 1) old new
    nothing needless = subst (AnswersOf ring epoch p lines (n + 1) old) (sym (answer.none needless)) (answers_same ring epoch p lines n old mid line here needless before)

    by : (a b : Bool) → is_some line.total ≡ a → line.is_asked ≡ b → AnswersOf ring epoch p lines (n + 1) old new
    by true true told asked = let one = answer.sent told asked in answers_more ring epoch p lines n old mid new line one.0 here one.1 one.2 before
    by true false told asked = nothing (λ t a. two_sides (sym a ∙ asked))
    by false b told asked = nothing (λ t a. two_sides (sym t ∙ told))

both_true : (a b : Bool) → true ≡ (a && b) → (a ≡ true) × (b ≡ true)
both_true true b h = (refl, sym h)
both_true false b h = cc

not_both : (a b : Bool) → false ≡ (a && b) → a ≡ true → b ≡ true → ⊥
not_both true true h t u = cc
not_both true false h t u = cc
not_both false b h t u = cc

-- what one copy has to answer is sent
pub answer_sent : (ring : Ring) (epoch p j : ℕ) (line : Line) (m : Message) (old new : List Posted) → GivesAnswer epoch p line m → true ≡ (is_some line.total && line.is_asked) → new ≡ old ++ reply_of ring p j m ∷ [] → Answers ring epoch p j line old new
answer_sent ring epoch p j line m old new gives has is = record {
  sent = λ told asked. (reply_of ring p j m, posted_answer ring epoch p j line m gives, is);
  none = λ needless. let both = both_true (is_some line.total) line.is_asked has in absurd (needless both.0 both.1);
}

pub answer_none : (ring : Ring) (epoch p j : ℕ) (line : Line) (old new : List Posted) → false ≡ (is_some line.total && line.is_asked) → new ≡ old → Answers ring epoch p j line old new
answer_none ring epoch p j line old new has same = record {
  sent = λ told asked. absurd (not_both (is_some line.total) line.is_asked has told asked);
  none = λ needless. same;
}
