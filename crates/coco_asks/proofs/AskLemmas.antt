-- The first error of a line, by what reading it came to.
use Rattle.std.proofs.Common.{◌≡◌, ◌∙◌, refl, sym, ap, ℕ, Bool, true, false, if◌then◌else◌, ◌&&◌, nat_le, nat_lt, arith, List, [], ◌∷◌, ◌++◌, length, Option, None, Some}
use Rattle.std.proofs.lemmas.Bool.Decides.{nat_tests}
use Rattle.std.specs.Option.{is_none, option_map, unwrap_or}
use Rattle.std.proofs.lemmas.Bool.{and_right}
use Rattle.coco_types.specs.declared.limits.TheConstants.{MOST_LINE_BYTES}
use Rattle.coco_types.specs.declared.call.Request.{Request}
use Rattle.coco_ast.specs.Fitting.{Fits, any_writes}
use Rattle.coco_ast.specs.Meaning.{procedure_at}
use Rattle.coco_ast.specs.Tree.{Procedure, Procedures}
use Rattle.coco_lines.specs.Lines.{Line}
use Rattle.coco_lines.specs.Reading.{asked_in, asking_error, asking_tests, first_that_fits, has_writes, is_forbidden, json_of, named_in, request_in, request_on}
use Rattle.coco_lines.specs.Reads.{body_of}
use Rattle.coco_lines.specs.declared.reader.Body.{Body}
use Rattle.coco_lines.specs.declared.reader.Body.TheVariants.{Long, Whole}
use Rattle.coco_lines.specs.declared.error.LineError.{LineError}
use Rattle.coco_lines.specs.declared.error.LineError.TheVariants as error
use Rattle.coco_lines.proofs.FitLemmas.{line_fits}
use Rattle.coco_lines.proofs.ReadingLemmas.{asking_first, first_of_both, first_of_second, reading_forbidden, reading_none}
use Rattle.coco_asks.specs.Asking.{LinesAreAnswered, ask_error, ask_tests, is_writing}

-- ---- what is read of a line

lengths : (line : Line) (b : Bool) → nat_le (length line) MOST_LINE_BYTES ≡ b → (body : Body) → body ≡ (if b then Whole line else Long) → (body ≡ Long → nat_lt MOST_LINE_BYTES (length line) ≡ true)
    × ((bytes : List ℕ) → body ≡ Whole bytes → nat_lt MOST_LINE_BYTES (length line) ≡ false)
lengths line true fits body is = (λ long. absurd (differ (sym is ∙ long)), λ bytes whole. grind (arith, nat_tests))
  where
    differ : ◌≡◌ {A = Body} (Whole line) Long → ⊥
    differ h = cc
lengths line false fits body is = (λ long. grind (arith, nat_tests), λ bytes whole. absurd (differ (sym is ∙ whole)))
  where
    differ : {bytes : List ℕ} → ◌≡◌ {A = Body} Long (Whole bytes) → ⊥
    differ h = cc

-- ---- whether it writes

pub writes_are : (o : Option Procedure) → unwrap_or (option_map (λ (p : Procedure). any_writes p.body) o) false ≡ has_writes o
writes_are None = refl
writes_are (Some p) = refl

pub reads_fit : (procs : Procedures) (line : Line) (r : Request) → request_on procs line ≡ Some r → has_writes (procedure_at procs.procs r.call.proc_no) ≡ false → Fits procs r.call
reads_fit procs line r is reads = line_fits procs line r is (and_right r.call.snapshot (has_writes (procedure_at procs.procs r.call.proc_no)) reads)

-- where a line that is a request has an error as a request, it is that of a snapshot call
snapshot_alone : (procs : Procedures) (line : Line) (r : Request) → request_on procs line ≡ Some r → (e : LineError) → asking_error procs line ≡ Some e → e ≡ error.Snapshot
snapshot_alone procs line r asks e some = by (is_forbidden procs (Some r)) refl
  where
    by : (b : Bool) → is_forbidden procs (Some r) ≡ b → e ≡ error.Snapshot
    by true not = (let f : ◌≡◌ {A = Option LineError} (Some e) (Some error.Snapshot) = sym (asking_first procs line e some) ∙ reading_forbidden procs line r asks not in cc)
    by false may = (let f : ◌≡◌ {A = Option LineError} (Some e) None = sym (asking_first procs line e some) ∙ reading_none procs line r asks may in absurd (cc))

-- ---- the first error

module _ (procs : Procedures) (line : Line) (body : Body) (is : body ≡ body_of line) where
  pub long_error : body ≡ Long → ask_error procs line ≡ Some error.Long
  unfolding ask_tests
  long_error long = (let test = (lengths line (nat_le (length line) MOST_LINE_BYTES) refl body is).0 long in rw test)

  module _ (bytes : List ℕ) (whole : body ≡ Whole bytes) where
    after_long : (o : Option LineError) → first_that_fits (asking_tests procs (json_of line) ++ (is_writing procs (request_in procs (json_of line)), error.Snapshot) ∷ []) ≡ o → ask_error procs line ≡ o
    unfolding ask_tests
    after_long o first = (let test = (lengths line (nat_le (length line) MOST_LINE_BYTES) refl body is).1 bytes whole in rw test first)

    pub reading_error_is : (e : LineError) → asking_error procs line ≡ Some e → ask_error procs line ≡ Some e
    unfolding asking_error
    reading_error_is e h = after_long (Some e) (first_of_both (asking_tests procs (json_of line)) ((is_writing procs (request_in procs (json_of line)), error.Snapshot) ∷ []) e h)

    last_is : asking_error procs line ≡ None → (r : Request) → request_on procs line ≡ Some r → (o : Option LineError) → first_that_fits ((is_writing procs (Some r), error.Snapshot) ∷ []) ≡ o → ask_error procs line ≡ o
    unfolding asking_error request_on
    last_is none r asks o last =
        after_long o (first_of_second (asking_tests procs (json_of line)) ((is_writing procs (request_in procs (json_of line)), error.Snapshot) ∷ []) none
        ∙ ap (λ q. first_that_fits ((is_writing procs q, error.Snapshot) ∷ [])) asks ∙ last)

    pub writing_error : (r : Request) → request_on procs line ≡ Some r → has_writes (procedure_at procs.procs r.call.proc_no) ≡ true → ask_error procs line ≡ Some error.Snapshot
    writing_error r asks writes = by (asking_error procs line) refl
      where
        by : (o : Option LineError) → asking_error procs line ≡ o → ask_error procs line ≡ Some error.Snapshot
        by None none = last_is none r asks (Some error.Snapshot) (rw writes)
        by (Some e) some = reading_error_is e some ∙ ap Some (snapshot_alone procs line r asks e some)

    pub no_error : (r : Request) → request_on procs line ≡ Some r → has_writes (procedure_at procs.procs r.call.proc_no) ≡ false → ask_error procs line ≡ None
    no_error r asks reads = by (asking_error procs line) refl
      where
        by : (o : Option LineError) → asking_error procs line ≡ o → ask_error procs line ≡ None
        by None none = last_is none r asks None (rw reads)
        by (Some e) some =
            let e : ◌≡◌ {A = Option LineError} (Some e) None = sym (asking_first procs line e some) ∙ reading_none procs line r asks (and_right r.call.snapshot (has_writes (procedure_at procs.procs r.call.proc_no)) reads) in
            absurd (cc)

-- ---- a line without an error

-- a list whose fifth test holds has one that fits
five : {A : Type 0} (a b c d : Bool) (v w x y z : A) (others : List (Bool × A)) → first_that_fits ((a, v) ∷ (b, w) ∷ (c, x) ∷ (d, y) ∷ (true, z) ∷ others) ≡ None → ⊥
five {A} true b c d v w x y z others h = let e : ◌≡◌ {A = Option A} (Some v) None = h in cc
five {A} false true c d v w x y z others h = let e : ◌≡◌ {A = Option A} (Some w) None = h in cc
five {A} false false true d v w x y z others h = let e : ◌≡◌ {A = Option A} (Some x) None = h in cc
five {A} false false false true v w x y z others h = let e : ◌≡◌ {A = Option A} (Some y) None = h in cc
five {A} false false false false v w x y z others h = let e : ◌≡◌ {A = Option A} (Some z) None = h in cc

answered : (long json shape name : Bool) (procs : Procedures) (o : Option Request)
    → first_that_fits ((long, error.Long) ∷ (json, error.Json) ∷ (shape, error.Shape) ∷ (name, error.Name) ∷ (is_none o, error.Args) ∷ (is_writing procs o, error.Snapshot) ∷ []) ≡ None
    → (r : Request) × (o ≡ Some r)
answered long json shape name procs None h = absurd (five long json shape name error.Long error.Json error.Shape error.Name error.Args ((false, error.Snapshot) ∷ []) h)
answered long json shape name procs (Some r) h = (r, refl)

pub all_answered : LinesAreAnswered
unfolding ask_tests request_on
all_answered procs line none =
    let value = json_of line in
    answered (nat_lt MOST_LINE_BYTES (length line)) (is_none value) (is_none (asked_in value)) (is_none (named_in procs value)) procs (request_in procs value) none
