-- How a gap grows by blanks and comments, and that a place begins one gap alone.
use Rattle.std.proofs.Common.{◌≡◌, ℕ, ◌+◌, ◌-◌, ◌<◌, ◌≤◌, inl, inr, ⊎_elim, List, length, drop, get_or, IsTrue, sym, ap, ◌∙◌, subst, arith, add-zero, length-drop, get_or-drop}
use Rattle.std.proofs.lemmas.Bool.{cases_lt, cases_order}
use Rattle.coco_lex.specs.Bytes.{is_blank, number_sign, line_feed}
use Rattle.coco_lex.specs.Gap.{Separates, IsGap}
use Rattle.coco_lex.specs.Steps.{IsComment, IsSeparator}

-- separators from one place up to another, and the second isn't in a comment unless the text ends
pub record GapTo (text : List ℕ) (from at' : ℕ) : Type 0 where
  pub ordered : from ≤ at'
  pub within : at' ≤ length text
  pub separates : (i : ℕ) → from ≤ i → i < at' → Separates text from i
  pub clear : at' < length text → (j : ℕ) → from ≤ j → j < at' → get_or text j 0 ≡ number_sign → ((k : ℕ) → j ≤ k → k < at' → get_or text k 0 ≡ line_feed → ⊥) → ⊥

pub gap_begins : (text : List ℕ) (from : ℕ) → from ≤ length text → GapTo text from from
gap_begins text from w = record {
  ordered = omega arith;
  within = w;
  separates = λ i low high. absurd (omega arith);
  clear = λ inside j low high is none. absurd (omega arith);
}

rest_at : (text : List ℕ) (place k : ℕ) → get_or (drop place text) k 0 ≡ get_or text (place + k) 0
rest_at text place k = get_or-drop place text k 0

rest_first : (text : List ℕ) (place : ℕ) → get_or (drop place text) 0 0 ≡ get_or text place 0
rest_first text place = get_or-drop place text 0 0 ∙ ap (λ i. get_or text i 0) (add-zero place)

blank_is_no_sign : (b : ℕ) → IsTrue (is_blank b) → b ≡ number_sign → ⊥
blank_is_no_sign b h e = cc (subst (λ x. IsTrue (is_blank x)) e h)

blank_more : (text : List ℕ) (from place : ℕ) → GapTo text from place → place < length text → IsTrue (is_blank (get_or text place 0)) → GapTo text from (place + 1)
blank_more text from place gap w blank = record {
  ordered = omega (arith, gap.ordered);
  within = omega arith;
  separates = λ i low high. ⊎_elim
      (λ before. gap.separates i low before)
      (λ here. let same : place ≡ i = omega arith in inl (subst (λ j. IsTrue (is_blank (get_or text j 0))) same blank))
      (cases_lt i place);
  clear = λ inside j low high is none. ⊎_elim
      (λ before. gap.clear w j low before is (λ k b a. none k b (omega arith)))
      (λ here. let same : j ≡ place = omega arith in blank_is_no_sign (get_or text place 0) blank (sym (ap (λ x. get_or text x 0) same) ∙ is))
      (cases_lt j place);
}

comment_more : (text : List ℕ) (from place n : ℕ) → GapTo text from place → place < length text → get_or text place 0 ≡ number_sign → IsComment (drop place text) n → GapTo text from (place + n)
comment_more text from place n gap w sign comment =
    let len = length-drop place text in
    record {
      ordered = omega (arith, gap.ordered);
      within = omega (arith, comment.within);
      separates = λ i low high. ⊎_elim
          (λ before. gap.separates i low before)
          (λ behind. inr (
            place,
            gap.ordered,
            behind,
            sign,
            λ k b a feed.
                let same : place + (k - place) ≡ k = omega arith in
                comment.inside (k - place) (omega arith) (rest_at text place (k - place) ∙ ap (λ x. get_or text x 0) same ∙ feed),
          ))
          (cases_lt i place);
      clear = λ inside j low high is none.
          let last : place + (n - 1) ≡ place + n - 1 = omega (arith, comment.positive) in
          none (place + n - 1) (omega arith) (omega (arith, comment.positive)) (sym (rest_at text place (n - 1) ∙ ap (λ x. get_or text x 0) last) ∙ comment.ended (omega arith));
    }

pub gap_more : (text : List ℕ) (from place n : ℕ) → GapTo text from place → place < length text → 0 < n → IsSeparator (drop place text) n → GapTo text from (place + n)
gap_more text from place n gap w p s =
    ⊎_elim
    (λ blank. subst (λ k. GapTo text from (place + k)) (sym blank.0) (blank_more text from place gap w (subst (λ b. IsTrue (is_blank b)) (rest_first text place) blank.1)))
    (λ comment. comment_more text from place n gap w (sym (rest_first text place) ∙ comment.0) comment.1)
    (s.some p)

pub gap_stops : (text : List ℕ) (from place n : ℕ) → GapTo text from place → n ≡ 0 → IsSeparator (drop place text) n → IsGap text from place
gap_stops text from place n gap zero_long s =
    let none = s.none zero_long in
    record {
      ordered = gap.ordered;
      within = gap.within;
      separates = gap.separates;
      ends = λ inside separates. ⊎_elim
          (λ blank. none.0 (subst (λ b. IsTrue (is_blank b)) (sym (rest_first text place)) blank))
          (λ commented. ⊎_elim
          (λ before. gap.clear inside commented.0 commented.1 before commented.3 commented.4)
          (λ here. let same : commented.0 ≡ place = omega (arith, commented.2) in none.1 (rest_first text place ∙ sym (ap (λ x. get_or text x 0) same) ∙ commented.3))
          (cases_lt commented.0 place))
          separates;
    }

pub gap_ends : (text : List ℕ) (from place : ℕ) → GapTo text from place → length text ≤ place → IsGap text from place
gap_ends text from place gap all = record {
  ordered = gap.ordered;
  within = gap.within;
  separates = gap.separates;
  ends = λ inside. absurd (omega arith);
}

gap_not_before : (text : List ℕ) (from a b : ℕ) → IsGap text from a → IsGap text from b → a < b → ⊥
gap_not_before text from a b p q less = p.ends (omega (arith, q.within)) (q.separates a p.ordered less)

-- one gap begins at a place
pub one_gap : (text : List ℕ) (from a b : ℕ) → IsGap text from a → IsGap text from b → a ≡ b
one_gap text from a b p q = ⊎_elim (λ same. same) (λ other. ⊎_elim (λ less. absurd (gap_not_before text from a b p q less)) (λ more. absurd (gap_not_before text from b a q p more)) other) (cases_order a b)
