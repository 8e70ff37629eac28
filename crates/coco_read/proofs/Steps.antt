-- From entry to entry of a file that is read by its rules.
use Rattle.std.proofs.Common.{◌≡◌, inl, inr, ℕ, ◌+◌, ◌<◌, ◌≤◌, List, [], ◌∷◌, ◌++◌, length, get_or, drop, map, sym, ◌∙◌, ap, subst, arith, length-drop}
use Rattle.std.specs.Prelude.{Bool, true, Option, None, Some, Result, Ok, Err}
use Rattle.std.specs.List.{AllByRecursion}
use Rattle.std.proofs.lemmas.List.{drop_more, map-append}
use Rattle.coco_ast.proofs.Lists.{all_append}
use Rattle.coco_log.specs.Grammar.{FitsNoLog, IsNoHeader, front}
use Rattle.coco_log.specs.LogState.{LogState, Holds}
use Rattle.coco_log.specs.Reading.{Reading, IsNext, IsOf, IsReading, log_of}
use Rattle.coco_log.specs.declared.fault.LogFault.{LogFault}
use Rattle.coco_log.specs.declared.fault.LogFault.TheVariants.{Disk, NoMemory as OutOfMemory, NotALog, TooLong}
use Rattle.coco_host.specs.Files.{Files}
use Rattle.coco_types.specs.declared.error.NoMemory.{NoMemory}
use Rattle.coco_read.specs.declared.fault.OpenFault.{OpenFault}
use Rattle.coco_read.specs.declared.fault.OpenFault.TheVariants.{NotAStore}
use Rattle.coco_read.specs.Faults.{fault_of}
use Rattle.coco_store.specs.Entries.{IsLogOf}
use Rattle.coco_store.specs.Refusals.{GoesOnWith, gate_behind}
use Rattle.coco_store.proofs.Firsts.{BeginsWith, first_bad, first_broken, first_cut, first_lack, first_off, front_long, front_longer, one_entry}
use Rattle.coco_store.proofs.Growing.{each_more}
use Rattle.coco_store.proofs.Refusing.{unrefused}
use Rattle.coco_read.specs.EntryRules.{EntryRules, AreKept, IsFile, IsFirstIn, IsReadLog, IsRefusedBody, IsStep, IsTaken, IsUnderWay, Takes}

module _ {E : Type 0} (rules : EntryRules E) (reads : (before : List E) (e : E) → rules.Is e → rules.read before (rules.bytes_of e) ≡ Ok e) where
  -- nothing was read but the header
  pub way_first : (r : Reading) (es : List E) (file : List ℕ) → es ≡ [] → IsReading r [] file → IsUnderWay rules r es file
  way_first r es file none reading = subst (λ (l : List E). IsUnderWay rules r l file) (sym none) (record { reading = reading; are = tt; keep = tt })

  begins_with : (r : Reading) (es : List E) (file : List ℕ) → IsUnderWay rules r es file → BeginsWith r.kind rules.bytes_of rules.Is rules.Breaks es file
  begins_with r es file way = record {
    rest = drop r.at file;
    short = way.reading.walked.short;
    are = way.are;
    keep = way.keep;
    is = way.reading.walked.is;
    gate = elim way.reading.gate [
      | inl first ↦ inl (omega (arith, first, way.reading.walked.here))
      | inr within ↦ inr (omega (arith, within, way.reading.end, length-drop r.at file))
    ];
  }

  -- the header is another
  pub refused_off : (kind : ℕ) (file : List ℕ) (at : ℕ) → IsNoHeader kind file at → IsFirstIn rules kind file at
  refused_off kind file at off = first_off kind rules.bytes_of rules.Is rules.read rules.Breaks rules.Lacks reads file at off

  -- the file is no log from the next gate on
  pub refused_cut : (r : Reading) (es : List E) (file : List ℕ) (at : ℕ) → IsUnderWay rules r es file → at ≡ r.at → FitsNoLog r.kind file at → IsFirstIn rules r.kind file at
  refused_cut r es file at way here fits =
      let gate : at ≡ gate_behind r.kind rules.bytes_of es = here ∙ way.reading.walked.here in
      subst (IsFirstIn rules r.kind file) (sym gate)
      (first_cut r.kind rules.bytes_of rules.Is rules.read rules.Breaks rules.Lacks reads es file (begins_with r es file way) (subst (FitsNoLog r.kind file) gate fits))

  -- a body was read
  module _ (r : Reading) (es : List E) (body file : List ℕ) (reading : IsReading r (map rules.bytes_of es ++ body ∷ []) file) (are : AllByRecursion rules.Is es) (keep : AreKept rules es) where
    there : r.at ≡ gate_behind r.kind rules.bytes_of es + (5 + length body)
    there = reading.walked.here ∙ front_long r.kind (map rules.bytes_of es) body

    goes_on : GoesOnWith r.kind rules.bytes_of rules.Is es body file
    goes_on =
        let some : 0 < length (drop r.at file) = elim reading.gate [
          | inl first ↦ absurd (omega (arith, first, there, front_longer r.kind (map rules.bytes_of es)))
          | inr within ↦ omega (arith, within, reading.end, length-drop r.at file)
        ] in
        record {
          gate = get_or (drop r.at file) 0 0;
          behind = drop 1 (drop r.at file);
          short = reading.walked.short;
          are = are;
          is = reading.walked.is ∙ ap (λ (l : List ℕ). front r.kind (map rules.bytes_of es ++ body ∷ []) ++ l) (drop_more (drop r.at file) 0 0 some);
        }

    -- it was taken
    pub way_more : (after : List E) → IsTaken rules es body after → IsUnderWay rules r after file
    way_more after taken =
        let same : map rules.bytes_of es ++ body ∷ [] ≡ map rules.bytes_of (es ++ taken.entry ∷ []) =
        ap (λ (b : List ℕ). map rules.bytes_of es ++ b ∷ []) taken.bytes ∙ sym (map-append rules.bytes_of es (taken.entry ∷ [])) in
        subst (λ (l : List E). IsUnderWay rules r l file) (sym taken.last) (record {
          reading = subst (λ (l : List (List ℕ)). IsReading r l file) same reading;
          are = all_append rules.Is es (taken.entry ∷ []) are (taken.is, tt);
          keep = each_more (λ before e. (at : ℕ) → ¬ (rules.Breaks before e at)) [] es taken.entry keep taken.keeps;
        })

    -- it was refused
    pub refused_body : (place at : ℕ) → place + length body ≡ r.at + at → IsRefusedBody rules es body at → IsFirstIn rules r.kind file place
    refused_body place at stands refused =
        let here : place ≡ gate_behind r.kind rules.bytes_of es + (5 + at) = omega (arith, stands, there) in
        subst (IsFirstIn rules r.kind file) (sym here) (elim refused.why [
          | inl bad ↦
              first_bad r.kind rules.bytes_of rules.Is rules.read rules.Breaks rules.Lacks reads es body file goes_on keep at bad refused.within
          | inr b ↦
              first_broken r.kind rules.bytes_of rules.Is rules.read rules.Breaks rules.Lacks reads es b.entry file
              (subst (λ (l : List ℕ). GoesOnWith r.kind rules.bytes_of rules.Is es l file) b.bytes goes_on) keep b.is at b.first
              (subst (λ (l : List ℕ). at ≤ length l) b.bytes refused.within)
        ])

  -- ---- a call for the next entry, and what the rules say to it

  module _ (old new : Reading) (es : List E) (number : ℕ) (files : Files) (result : Result Bool LogFault) (same : number ≡ old.file) (of : IsOf old.file old.kind new)
      (way : IsUnderWay rules old es (files number))
      (next : (bodies : List (List ℕ)) → IsReading old bodies (files old.file) → IsNext result old new bodies (files old.file)) where
    after_next : IsNext result old new (map rules.bytes_of es) (files number)
    after_next =
        subst (λ (n : ℕ). IsNext result old new (map rules.bytes_of es) (files n)) (sym same)
        (next (map rules.bytes_of es) (subst (λ (n : ℕ). IsReading old (map rules.bytes_of es) (files n)) same way.reading))

    body_read : result ≡ Ok true → IsReading new (map rules.bytes_of es ++ new.body ∷ []) (files number)
    body_read is = subst (λ (r : Result Bool LogFault). IsNext r old new (map rules.bytes_of es) (files number)) is after_next

    pub step_taken : (after : List E) (took : Result (Option ℕ) NoMemory) (body : List ℕ) → result ≡ Ok true → body ≡ new.body → Takes rules es body took after → took ≡ Ok None
        → IsUnderWay rules new after (files number)
    step_taken after took body is shown takes none =
        let taken : IsTaken rules es body after = subst (λ (t : Result (Option ℕ) NoMemory). Takes rules es body t after) none takes in
        way_more new es new.body (files number) (body_read is) way.are way.keep after (subst (λ (b : List ℕ). IsTaken rules es b after) shown taken)

    pub step_refused : (after : List E) (took : Result (Option ℕ) NoMemory) (body : List ℕ) (place at : ℕ) → result ≡ Ok true → body ≡ new.body → Takes rules es body took after → took ≡ Ok (Some at)
        → place + length new.body ≡ new.at + at → IsFirstIn rules new.kind (files number) place
    step_refused after took body place at is shown takes some stands =
        let refused : IsRefusedBody rules es body at = subst (λ (t : Result (Option ℕ) NoMemory). Takes rules es body t after) some takes in
        refused_body new es new.body (files number) (body_read is) way.are way.keep place at stands (subst (λ (b : List ℕ). IsRefusedBody rules es b at) shown refused)

    fault_step : (after : List E) (fault : LogFault) → IsNext (Err fault) old new (map rules.bytes_of es) (files number) → IsStep rules (Err (fault_of number fault)) new after (files number)
    fault_step after Disk is = tt
    fault_step after OutOfMemory is = tt
    fault_step after (NotALog at) is =
        subst (λ (k : ℕ). IsFirstIn rules k (files number) at) (sym of.of_kind) (refused_cut old es (files number) at way is.1 is.2)
    fault_step after TooLong is = absurd is

    pub step_fault : (after : List E) (fault : LogFault) (answer : OpenFault) → result ≡ Err fault → answer ≡ fault_of number fault → IsStep rules (Err answer) new after (files number)
    step_fault after fault answer is told =
        subst (λ (f : OpenFault). IsStep rules (Err f) new after (files number)) (sym told)
        (fault_step after fault (subst (λ (r : Result Bool LogFault). IsNext r old new (map rules.bytes_of es) (files number)) is after_next))

  -- ---- the end

  -- there is no entry more
  log_there : (r : Reading) (es : List E) (file : List ℕ) → IsUnderWay rules r es file → Holds (log_of r) (map rules.bytes_of es) file → IsLogOf r.kind rules.bytes_of rules.Is es file
  log_there r es file way holds = record { log = holds.is_log; are = way.are }

  pub whole_file : (r : Reading) (es : List E) (file : List ℕ) → IsUnderWay rules r es file → Holds (log_of r) (map rules.bytes_of es) file → ¬ (rules.Lacks es) → IsFile rules r.kind es file
  whole_file r es file way holds whole = record { log = log_there r es file way holds; keep = way.keep; whole = whole }

  pub refused_lack : (r : Reading) (es : List E) (file : List ℕ) → IsUnderWay rules r es file → Holds (log_of r) (map rules.bytes_of es) file → rules.Lacks es → IsFirstIn rules r.kind file r.at
  refused_lack r es file way holds lack =
      subst (IsFirstIn rules r.kind file) (sym way.reading.walked.here)
      (first_lack r.kind rules.bytes_of rules.Is rules.read rules.Breaks rules.Lacks reads es file (log_there r es file way holds) way.keep lack)

  -- a file that keeps its rules is refused nowhere
  pub not_refused : (kind : ℕ) (es : List E) (file : List ℕ) (at : ℕ) → IsFile rules kind es file → IsFirstIn rules kind file at → ⊥
  not_refused kind es file at is first =
      unrefused kind rules.bytes_of rules.Is (one_entry kind rules.bytes_of rules.Is rules.read rules.Breaks rules.Lacks reads) rules.read (λ before e. (at : ℕ) → ¬ (rules.Breaks before e at)) rules.Breaks rules.Lacks reads
      (λ before e at kept broken. kept at broken) es file is.log is.keep is.whole at first.refused

  -- the log behind the last entry
  pub read_log : (r : Reading) (es : List E) (number kind : ℕ) (files : Files) (may_leave : Files → Type 0) (log : LogState) → log ≡ log_of r → IsOf number kind r → IsUnderWay rules r es (files number)
      → Holds (log_of r) (map rules.bytes_of es) (files number) → ¬ (rules.Lacks es) → ((c : Files) → may_leave c → c number ≡ files number) → IsReadLog rules es log files may_leave
  read_log r es number kind files may_leave log same of way holds whole durable =
      subst (λ (l : LogState). IsReadLog rules es l files may_leave) (sym same) (record {
        is = subst (λ (n : ℕ). IsFile rules r.kind es (files n)) (sym of.in_file) (whole_file r es (files number) way holds whole);
        rest = record {
          holds = subst (λ (n : ℕ). Holds (log_of r) (map rules.bytes_of es) (files n)) (sym of.in_file) holds;
          durable = λ c left. subst (λ (n : ℕ). c n ≡ files n) (sym of.in_file) (durable c left);
        };
      })

-- a step under one setting, read under an equal one
pub step_under : {E S : Type 0} (rules_of : S → EntryRules E) (now first : S) → now ≡ first → (result : Result Bool OpenFault) (old new : Reading) (es after : List E) (file : List ℕ)
    → (IsUnderWay (rules_of now) old es file → IsStep (rules_of now) result new after file) → IsUnderWay (rules_of first) old es file → IsStep (rules_of first) result new after file
step_under rules_of now first same result old new es after file step way =
    subst (λ s. IsStep (rules_of s) result new after file) same
    (step (subst (λ s. IsUnderWay (rules_of s) old es file) (sym same) way))

-- a log's fault is a refusal where the file is no log
pub no_log_of : (file : ℕ) (fault : LogFault) (other at : ℕ) → fault_of file fault ≡ NotAStore other at → fault ≡ NotALog at
no_log_of file Disk other at is = cc
no_log_of file OutOfMemory other at is = cc
no_log_of file (NotALog place) other at is = cc
no_log_of file TooLong other at is = cc
