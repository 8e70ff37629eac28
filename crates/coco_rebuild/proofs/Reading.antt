-- A node's file read on from entry to entry, up to that of an epoch.
use Rattle.std.proofs.Common.{◌≡◌, ◌≢◌, ◌⊎◌, ⊎_elim, inl, inr, ℕ, ◌<◌, ◌≤◌, Bool, true, false, cond, nat_eq, List, [], ◌∷◌, ◌++◌, map, filter, get_or, drop, Result, Ok, Err, refl, sym, ap, subst, ◌∙◌, arith, append_assoc, append-nil}
use Rattle.std.specs.List.{AllByRecursion, flat_map}
use Rattle.std.specs.Set.{is_member}
use Rattle.std.proofs.lemmas.Bool.{eqb-true, ne_eqb, eq-eqb}
use Rattle.std.proofs.lemmas.List.{append_cancel_left, map-append}
use Rattle.std.proofs.lemmas.List.Elements.{filter-append}
use Rattle.coco_ast.specs.History.{RisesAbove}
use Rattle.coco_ast.proofs.Lists.{all_append, all_right, all_weaker}
use Rattle.coco_entry.specs.declared.prepared.Prepared.{Prepared}
use Rattle.coco_entry.specs.Rows.{IsPrepared, prepared_bytes}
use Rattle.coco_host.specs.Files.{Files}
use Rattle.coco_log.specs.declared.fault.LogFault.{LogFault}
use Rattle.coco_log.specs.declared.fault.LogFault.TheVariants as fault
use Rattle.coco_log.specs.Grammar.{FitsNoLog, IsLog, IsNoHeader, entry, header}
use Rattle.coco_log.specs.LogState.{Holds}
use Rattle.coco_log.specs.Reading.{IsNext, IsReading, IsWalked, Reading, log_of}
use Rattle.coco_log.proofs.OneLog.{behind_header, fits_or_not, has_header, one_log}
use Rattle.coco_read.specs.Faults.{fault_of}
use Rattle.coco_read.specs.declared.fault.OpenFault.{OpenFault}
use Rattle.coco_read.specs.declared.fault.OpenFault.TheVariants.{Disk, NoMemory, NotAStore}
use Rattle.coco_store.specs.Entries.{ArePrepared, prepared_kind}
use Rattle.coco_store.specs.Rules.{prepared_epochs}
use Rattle.coco_store.proofs.Firsts.{compare}
use Rattle.coco_store.proofs.Logs.{headed}
use Rattle.coco_store.proofs.OneStore.{one_prepared}
use Rattle.coco_rebuild.specs.Sources.{GoesOnTo, HasEpoch, IsFoundAt, IsReadUpTo}
use Rattle.coco_rebuild.proofs.Grouping.{or_either}

abbrev bytes : List Prepared → List (List ℕ)
bytes = map prepared_bytes

-- ---- the next entry

-- of a list that isn't empty
pub record Begins (rest : List Prepared) (body : List ℕ) : Type 0 where
  pub first : Prepared
  pub behind : List Prepared
  pub are : rest ≡ first ∷ behind
  pub body_is : body ≡ prepared_bytes first
  pub is : IsPrepared first

begins : (rest : List Prepared) (body : List ℕ) (bodies : List (List ℕ)) → bytes rest ≡ body ∷ bodies → AllByRecursion IsPrepared rest → Begins rest body
begins [] body bodies same all = let no : ◌≡◌ {A = List (List ℕ)} [] (body ∷ bodies) = same in cc
begins (e ∷ es) body bodies same all =
    let both : ◌≡◌ {A = List (List ℕ)} (prepared_bytes e ∷ bytes es) (body ∷ bodies) = same in
    let one : prepared_bytes e ≡ body = cc in
    record { first = e; behind = es; are = refl; body_is = sym one; is = all.0 }

-- where the file ends within, it goes on with this body still
within : (rest : List Prepared) (more : List (List ℕ)) (body behind tail : List ℕ) (gate : ℕ) → gate ≢ 1 → body ∷ [] ≡ bytes rest ++ more → gate ∷ behind ≡ flat_map entry more ++ tail
    → (bodies : List (List ℕ)) × (bytes rest ≡ body ∷ bodies)
within [] more body behind tail gate shut same goes =
    let on : gate ∷ behind ≡ flat_map entry (body ∷ []) ++ tail = goes ∙ ap (λ (l : List (List ℕ)). flat_map entry l ++ tail) (sym same) in
    absurd (shut (ap (λ (l : List ℕ). get_or l 0 0) on))
within (e ∷ es) more body behind tail gate shut same goes =
    let both : ◌≡◌ {A = List (List ℕ)} (body ∷ []) (prepared_bytes e ∷ (bytes es ++ more)) = same in
    let one : body ≡ prepared_bytes e = cc in
    (bytes es, ap (λ (l : List ℕ). l ∷ bytes es) (sym one))

module _ (all done rest : List Prepared) (file : List ℕ) (are : ArePrepared all file) (is : all ≡ done ++ rest) where
  all_bytes : bytes all ≡ bytes done ++ bytes rest
  all_bytes = ap bytes is ∙ map-append prepared_bytes done rest

  each_rest : AllByRecursion IsPrepared rest
  each_rest = all_right IsPrepared done rest (subst (λ (l : List Prepared). AllByRecursion IsPrepared l) is are.are)

  -- the body that was read is that of the first of the rest
  pub next_begins : (r : Reading) (body : List ℕ) → r.kind ≡ prepared_kind → IsReading r (bytes done ++ body ∷ []) file → Begins rest body
  next_begins r body kind reading =
      let bodies : List (List ℕ) = bytes done ++ body ∷ [] in
      let walked : IsWalked prepared_kind file r.places r.at bodies = subst (λ (k : ℕ). IsWalked k file r.places r.at bodies) kind reading.walked in
      let log : IsLog prepared_kind (bytes all) file = are.log in
      let same : flat_map entry bodies ++ drop r.at file ≡ flat_map entry (bytes all) ++ log.gate ∷ log.behind =
      behind_header prepared_kind (flat_map entry bodies ++ drop r.at file) (flat_map entry (bytes all) ++ log.gate ∷ log.behind)
      (sym (append_assoc (header prepared_kind) (flat_map entry bodies) (drop r.at file)) ∙ sym walked.is ∙ headed prepared_kind (bytes all) file log) in
      elim (compare bodies (bytes all) (drop r.at file) (log.gate ∷ log.behind) walked.short log.short same) [
        | inl f ↦
            begins rest body f.more (append_cancel_left (bytes done) (bytes rest) (body ∷ f.more) (sym all_bytes ∙ f.is ∙ append_assoc (bytes done) (body ∷ []) f.more)) each_rest
        | inr f ↦ (let cut : body ∷ [] ≡ bytes rest ++ f.more =
            append_cancel_left (bytes done) (body ∷ []) (bytes rest ++ f.more) (f.is ∙ ap (λ (l : List (List ℕ)). l ++ f.more) all_bytes ∙ append_assoc (bytes done) (bytes rest) f.more) in
            let has = within rest f.more body log.behind (drop r.at file) log.gate log.shut cut f.bytes in
            begins rest body has.0 has.1 each_rest)
      ]

  -- so it is the next entry
  pub goes_on : (r : Reading) (body : List ℕ) (e : Prepared) → r.kind ≡ prepared_kind → IsReading r (bytes done ++ body ∷ []) file → IsPrepared e → prepared_bytes e ≡ body → GoesOnTo (Ok e) r done rest file
  goes_on r body e kind reading prepared same =
      let next = next_begins r body kind reading in
      let one : e ≡ next.first = one_prepared e next.first prepared next.is (same ∙ next.body_is) in
      let longer : bytes done ++ body ∷ [] ≡ bytes (done ++ e ∷ []) = ap (λ (b : List ℕ). bytes done ++ b ∷ []) (sym same) ∙ sym (map-append prepared_bytes done (e ∷ [])) in
      (next.behind, next.are ∙ ap (λ (x : Prepared). x ∷ next.behind) (sym one), subst (λ (l : List (List ℕ)). IsReading r l file) longer reading)

  -- what is read of that body is the next entry, or memory ran out
  pub goes_on_to : (r : Reading) (result : Result Prepared OpenFault) → r.kind ≡ prepared_kind → IsReading r (bytes done ++ r.body ∷ []) file
      → ((e : Prepared) → IsPrepared e → prepared_bytes e ≡ r.body → (result ≡ Ok e) ⊎ (result ≡ Err NoMemory)) → GoesOnTo result r done rest file
  goes_on_to r result kind reading reads =
      let next = next_begins r r.body kind reading in
      ⊎_elim (λ (is : result ≡ Ok next.first). subst (λ (x : Result Prepared OpenFault). GoesOnTo x r done rest file) (sym is) (goes_on r r.body next.first kind reading next.is (sym next.body_is)))
      (λ (none : result ≡ Err NoMemory). subst (λ (x : Result Prepared OpenFault). GoesOnTo x r done rest file) (sym none) tt)
      (reads next.first next.is (sym next.body_is))

  -- a file that ends has no entry more
  pub none_left : (r : Reading) → r.kind ≡ prepared_kind → Holds (log_of r) (bytes done) file → rest ≡ []
  none_left r kind holds =
      let log : IsLog prepared_kind (bytes done) file = subst (λ (k : ℕ). IsLog k (bytes done) file) kind holds.is_log in
      let same : bytes all ≡ bytes done = (one_log prepared_kind prepared_kind file (bytes all) (bytes done) are.log log).1 in
      let none : bytes rest ≡ [] = append_cancel_left (bytes done) (bytes rest) [] (sym all_bytes ∙ same ∙ sym (append-nil (bytes done))) in
      empty rest none
    where
      empty : (xs : List Prepared) → bytes xs ≡ [] → xs ≡ []
      empty [] e = refl
      empty (x ∷ xs) e = let no : ◌≡◌ {A = List (List ℕ)} (prepared_bytes x ∷ bytes xs) [] = e in cc

  -- and it is a log
  pub is_log : (kind at : ℕ) → kind ≡ prepared_kind → FitsNoLog kind file at → ⊥
  is_log kind at same fits = fits_or_not prepared_kind file (bytes all) at are.log (subst (λ (k : ℕ). FitsNoLog k file at) same fits)

  -- a call that failed
  pub fails : (old new : Reading) (number : ℕ) (failed : LogFault) → old.kind ≡ prepared_kind → IsNext (Err failed) old new (bytes done) file → GoesOnTo (Err (fault_of number failed)) new done rest file
  fails old new number fault.Disk kind next = tt
  fails old new number fault.NoMemory kind next = tt
  fails old new number (fault.NotALog at) kind next = absurd (is_log old.kind at kind next.2)
  fails old new number fault.TooLong kind next = absurd next

pub after_next : (old new : Reading) (number : ℕ) (files : Files) (bodies : List (List ℕ)) (result : Result Bool LogFault) → old.file ≡ number → IsReading old bodies (files number)
    → (IsReading old bodies (files old.file) → IsNext result old new bodies (files old.file)) → IsNext result old new bodies (files number)
after_next old new number files bodies result same reading next =
    subst (λ (n : ℕ). IsNext result old new bodies (files n)) same (next (subst (λ (n : ℕ). IsReading old bodies (files n)) (sym same) reading))

pub has_its_header : (all : List Prepared) (file : List ℕ) (at : ℕ) → ArePrepared all file → IsNoHeader prepared_kind file at → ⊥
has_its_header all file at are differs = has_header prepared_kind file (flat_map entry (bytes all) ++ are.log.gate ∷ are.log.behind) at (headed prepared_kind (bytes all) file are.log) differs

-- ---- up to an epoch

-- the entry that was read last, and all before it are of earlier epochs
pub record IsAt (r : Reading) (all : List Prepared) (e : Prepared) (epoch : ℕ) (file : List ℕ) : Type 0 where
  pub done : List Prepared
  pub rest : List Prepared
  pub are : all ≡ done ++ e ∷ rest
  pub below : AllByRecursion (λ x. x.epoch < epoch) done
  pub reading : IsReading r (bytes (done ++ e ∷ [])) file

member_of : (P : ℕ → Type 0) (xs : List Prepared) (k : ℕ) → AllByRecursion (λ e. P e.epoch) xs → is_member nat_eq (prepared_epochs xs) k ≡ true → P k
member_of P [] k each there = let no : false ≡ true = there in cc
member_of P (x ∷ xs) k each there =
    or_either (nat_eq k x.epoch) (is_member nat_eq (prepared_epochs xs) k) (P k) (λ t. subst P (sym (eqb-true k x.epoch t)) each.0) (member_of P xs k each.1) there

rises_behind : (n : ℕ) (xs ys : List Prepared) (e : Prepared) → RisesAbove n (prepared_epochs (xs ++ e ∷ ys)) → RisesAbove e.epoch (prepared_epochs ys)
rises_behind n [] ys e rise = rise.1
rises_behind n (x ∷ xs) ys e rise = rises_behind x.epoch xs ys e rise.1

above : (k n : ℕ) (xs : List Prepared) → k ≤ n → RisesAbove n (prepared_epochs xs) → AllByRecursion (λ x. k < x.epoch) xs
above k n [] le rise = tt
above k n (x ∷ xs) le rise = let more : n < x.epoch = rise.0 in (omega (arith, le, more), above k x.epoch xs (omega (arith, le, more)) rise.1)

none_of : (epoch : ℕ) (xs : List Prepared) → AllByRecursion (λ x. nat_eq x.epoch epoch ≡ false) xs → filter (λ x. nat_eq x.epoch epoch) xs ≡ []
none_of epoch [] each = refl
none_of epoch (x ∷ xs) each =
    ap (λ (b : Bool). cond b (x ∷ filter (λ (y : Prepared). nat_eq y.epoch epoch) xs) (filter (λ (y : Prepared). nat_eq y.epoch epoch) xs)) each.0 ∙ none_of epoch xs each.1

module _ (all : List Prepared) (epoch : ℕ) (file : List ℕ) (has : HasEpoch all epoch file) where
  -- the first entry that is read, and the next one
  pub at_first : (old r : Reading) (last : ℕ) (e : Prepared) → last < epoch → (upto : IsReadUpTo old all last file) → GoesOnTo (Ok e) r upto.done upto.rest file → IsAt r all e epoch file
  at_first old r last e less upto next = record {
    done = upto.done;
    rest = next.0;
    are = upto.are ∙ ap (λ (l : List Prepared). upto.done ++ l) next.1;
    below = all_weaker (λ (x : Prepared). x.epoch ≤ last) (λ (x : Prepared). x.epoch < epoch) (λ x le. omega (arith, le, less)) upto.done upto.past;
    reading = next.2;
  }

  pub at_next : (old r : Reading) (was e : Prepared) → was.epoch < epoch → (at : IsAt old all was epoch file) → GoesOnTo (Ok e) r (at.done ++ was ∷ []) at.rest file → IsAt r all e epoch file
  at_next old r was e less at next = record {
    done = at.done ++ was ∷ [];
    rest = next.0;
    are = at.are ∙ sym (append_assoc at.done (was ∷ []) at.rest) ∙ ap (λ (l : List Prepared). (at.done ++ was ∷ []) ++ l) next.1;
    below = all_append (λ (x : Prepared). x.epoch < epoch) at.done (was ∷ []) at.below (less, tt);
    reading = next.2;
  }

  -- one of them is there
  pub not_past : (done rest : List Prepared) → all ≡ done ++ rest → AllByRecursion (λ x. x.epoch < epoch) done → rest ≡ [] → ⊥
  not_past done rest is below none =
      let whole : all ≡ done = is ∙ ap (λ (l : List Prepared). done ++ l) none ∙ append-nil done in
      let less : epoch < epoch = member_of (λ k. k < epoch) done epoch below (subst (λ (l : List Prepared). is_member nat_eq (prepared_epochs l) epoch ≡ true) whole has.there) in
      omega (arith, less)

  -- where there is no next entry, the calls failed
  pub first_failed : (failed : OpenFault) (old r : Reading) (last : ℕ) → last < epoch → (upto : IsReadUpTo old all last file) → GoesOnTo (Err failed) r upto.done upto.rest file → IsFoundAt (Err failed) r all epoch file
  first_failed Disk old r last less upto next = tt
  first_failed NoMemory old r last less upto next = tt
  first_failed (NotAStore f at) old r last less upto next =
      not_past upto.done upto.rest upto.are (all_weaker (λ (x : Prepared). x.epoch ≤ last) (λ (x : Prepared). x.epoch < epoch) (λ x le. omega (arith, le, less)) upto.done upto.past) next

  pub next_failed : (failed : OpenFault) (old r : Reading) (was : Prepared) → was.epoch < epoch → (at : IsAt old all was epoch file) → GoesOnTo (Err failed) r (at.done ++ was ∷ []) at.rest file
      → IsFoundAt (Err failed) r all epoch file
  next_failed Disk old r was less at next = tt
  next_failed NoMemory old r was less at next = tt
  next_failed (NotAStore f place) old r was less at next =
      not_past (at.done ++ was ∷ []) at.rest (at.are ∙ sym (append_assoc at.done (was ∷ []) at.rest))
      (all_append (λ (x : Prepared). x.epoch < epoch) at.done (was ∷ []) at.below (less, tt)) next

  module _ (r : Reading) (e : Prepared) (at : IsAt r all e epoch file) where
    later : AllByRecursion (λ x. e.epoch < x.epoch) at.rest
    later = above e.epoch e.epoch at.rest (omega arith) (rises_behind has.base at.done at.rest e (subst (λ (l : List Prepared). RisesAbove has.base (prepared_epochs l)) at.are has.rise))

    pub not_above : epoch < e.epoch → ⊥
    not_above less =
        let each : AllByRecursion (λ x. x.epoch ≢ epoch) (at.done ++ e ∷ at.rest) =
        all_append (λ (x : Prepared). x.epoch ≢ epoch) at.done (e ∷ at.rest) (all_weaker (λ (x : Prepared). x.epoch < epoch) (λ (x : Prepared). x.epoch ≢ epoch) (λ x below same. omega (arith, below, same)) at.done at.below)
        ((λ same. omega (arith, less, same)), all_weaker (λ (x : Prepared). e.epoch < x.epoch) (λ (x : Prepared). x.epoch ≢ epoch) (λ x more same. omega (arith, less, more, same)) at.rest later) in
        member_of (λ k. k ≢ epoch) (at.done ++ e ∷ at.rest) epoch each (subst (λ (l : List Prepared). is_member nat_eq (prepared_epochs l) epoch ≡ true) at.are has.there) refl

    pub found : e.epoch ≡ epoch → IsFoundAt (Ok e) r all epoch file
    found same =
        let test : Prepared → Bool = λ x. nat_eq x.epoch epoch in
        let before : filter test at.done ≡ [] =
        none_of epoch at.done (all_weaker (λ (x : Prepared). x.epoch < epoch) (λ (x : Prepared). nat_eq x.epoch epoch ≡ false) (λ x below. ne_eqb x.epoch epoch (λ is. omega (arith, below, is))) at.done at.below) in
        let behind : filter test at.rest ≡ [] =
        none_of epoch at.rest (all_weaker (λ (x : Prepared). e.epoch < x.epoch) (λ (x : Prepared). nat_eq x.epoch epoch ≡ false) (λ x more. ne_eqb x.epoch epoch (λ is. omega (arith, more, is, same))) at.rest later) in
        let here : nat_eq e.epoch epoch ≡ true = eq-eqb e.epoch epoch same in
        let one : filter test all ≡ e ∷ [] =
        ap (filter test) at.are ∙ filter-append test at.done (e ∷ at.rest) ∙ ap (λ (l : List Prepared). l ++ filter test (e ∷ at.rest)) before
        ∙ ap (λ (b : Bool). cond b (e ∷ filter test at.rest) (filter test at.rest)) here ∙ ap (λ (l : List Prepared). e ∷ l) behind in (
          same,
          sym (ap (flat_map (λ (x : Prepared). x.rows)) one ∙ append-nil e.rows),
          record {
            done = at.done ++ e ∷ [];
            rest = at.rest;
            are = at.are ∙ sym (append_assoc at.done (e ∷ []) at.rest);
            past = all_append (λ (x : Prepared). x.epoch ≤ epoch) at.done (e ∷ []) (all_weaker (λ (x : Prepared). x.epoch < epoch) (λ (x : Prepared). x.epoch ≤ epoch) (λ x below. omega (arith, below)) at.done at.below) (omega (arith, same), tt);
            reading = at.reading;
          },
        )
