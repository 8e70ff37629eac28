-- Logs that are made one after another.
use Rattle.std.proofs.Common.{◌≡◌, inl, inr, ⊎_elim, ℕ, ◌+◌, true, List, [], Option, Some, refl, sym, ap, subst, ◌∙◌, arith, below_more}
use Rattle.std.specs.Prelude.{slice_index}
use Rattle.std.proofs.lemmas.Bool.{cases_eq}
use Rattle.coco_host.specs.Files.{Files, Follows}
use Rattle.coco_entry.specs.Layouts.{is_named}
use Rattle.coco_log.specs.Grammar.{IsLog}
use Rattle.coco_log.specs.LogState.{IsMade, LogState, SameBut, without_entries}
use Rattle.coco_log.proofs.Changing.{besides_one}
use Rattle.coco_make.specs.Steps.{HaveLogs, with_log}

-- a log without entries, as it was made
pub made_log : (log : LogState) (file kind : ℕ) (before : Files) (reads : Option Files) (may_leave : Files → Type 0) → log ≡ without_entries file kind → IsMade log file kind before reads may_leave
    → (image : Files) → may_leave image → IsLog kind [] (image file)
made_log log file kind before reads may_leave is made image left =
    let here : IsMade (without_entries file kind) file kind before reads may_leave = subst (λ (l : LogState). IsMade l file kind before reads may_leave) is made in
    subst (λ (bytes : List ℕ). IsLog kind [] bytes) (sym (here.rest.durable image left)) here.rest.holds.is_log

-- one log more
module _ (log : LogState) (kind : ℕ) (named : List ℕ) (count : ℕ) (first : Files) (was now : Option Files) (left leaves : Files → Type 0) where
  pub one_more : is_named named (slice_index named count) ≡ true → HaveLogs kind named count first was left → log ≡ without_entries (slice_index named count) kind
      → ((files : Files) → was ≡ Some files → IsMade log (slice_index named count) kind files now leaves) → Follows (SameBut (slice_index named count)) left leaves
      → HaveLogs kind named (count + 1) first now leaves
  one_more named_here have is ok follows =
      let file : ℕ = slice_index named count in
      let made : IsMade log file kind have.files now leaves = ok have.files have.are in
      let over : made.files file ≡ with_log kind (first file) = made.bytes ∙ ⊎_elim (λ same. ap (λ (l : List ℕ). with_log kind l) same) (λ same. ap (λ (l : List ℕ). with_log kind l) same) (have.each file) in
      record {
        files = made.files;
        are = made.are;
        bytes = below_more (λ k. made.files (slice_index named k) ≡ with_log kind (first (slice_index named k))) count
            (λ k less. ⊎_elim (λ same. ap made.files same ∙ over ∙ ap (λ (n : ℕ). with_log kind (first n)) (sym same)) (λ other. made.others (slice_index named k) other ∙ have.bytes k less) (cases_eq (slice_index named k) file))
            over;
        each = λ n. ⊎_elim (λ same. inr (ap made.files same ∙ over ∙ ap (λ (k : ℕ). with_log kind (first k)) (sym same)))
            (λ other. ⊎_elim (λ e. inl (made.others n other ∙ e)) (λ e. inr (made.others n other ∙ e)) (have.each n)) (cases_eq n file);
        others = λ n out. besides_one named file named_here have.files made.files made.others n out ∙ have.others n out;
        left = λ image leave. below_more (λ k. IsLog kind [] (image (slice_index named k))) count
            (λ k less. ⊎_elim (λ same. subst (λ (n : ℕ). IsLog kind [] (image n)) (sym same) (made_log log file kind have.files now leaves is made image leave))
            (λ other. let from = follows image leave in subst (λ (bytes : List ℕ). IsLog kind [] bytes) (sym (from.2 (slice_index named k) other)) (have.left from.0 from.1 k less)) (cases_eq (slice_index named k) file))
            (made_log log file kind have.files now leaves is made image leave);
      }

pub no_logs : (kind : ℕ) (named : List ℕ) (first : Files) (reads : Option Files) (may_leave : Files → Type 0) → reads ≡ Some first → HaveLogs kind named 0 first reads may_leave
no_logs kind named first reads may_leave are = record {
  files = first;
  are = are;
  bytes = λ k less. absurd (omega (arith, less));
  each = λ n. inl refl;
  others = λ n out. refl;
  left = λ image leave k less. absurd (omega (arith, less));
}
