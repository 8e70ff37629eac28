-- The scripts of a place are the tries of its request; where none committed, all that are allowed conflicted.
use Rattle.std.proofs.Common.{◌≡◌, inl, inr, ℕ, ◌+◌, ◌<◌, ◌≤◌, Bool, true, false, ◌&&◌, ◌||◌, cond, eqb, List, [], ◌∷◌, ◌++◌, length, Some, refl, sym, ap, ◌∙◌, subst, arith}
use Rattle.std.proofs.lemmas.List.{append-nil}
use Rattle.std.proofs.lemmas.Bool.{eq-eqb, eqb-true}
use Rattle.std.specs.List.{filter, list_any, slice_get, AllByRecursion}
use Rattle.coco_types.specs.Limits.{most_time}
use Rattle.coco_types.specs.declared.call.Request.{Request}
use Rattle.coco_occ.specs.declared.outcome.Outcome.{Outcome}
use Rattle.coco_occ.specs.declared.outcome.Outcome.TheVariants.{Committed, Conflict, OverTime}
use Rattle.coco_occ.specs.declared.outcome.Tried.{Tried}
use Rattle.coco_order.specs.OneKey.{Among}
use Rattle.coco_order.specs.Execution.{Beginning, Execution, IsTried, IsExecution, Tries, AreTries, all_tries, concat_tries, concat, how_many_at, is_conflict, InEachExecution}
use Rattle.coco_order.specs.Outcome.{is_commit, is_committed, tail_requests}
use Rattle.coco_order.specs.Conflicts.{ShowsConflict, HasConflicted, TailsConflicted, TriesAreScripts, tried_at}
use Rattle.coco_order.proofs.Attempts.{by_bool, not_both, Among-append, Among-right}
use Rattle.coco_order.proofs.Acts.{all_tried}
use Rattle.coco_order.proofs.CommitReads.{among_filter}
use Rattle.coco_order.proofs.Commits.{all_from}
use Rattle.coco_order.proofs.Epochs.{no_commit}
use Rattle.coco_order.proofs.Passes.{all_among}
use Rattle.coco_order.proofs.ScriptCounts.{all_joined, placed, tries_joined}
use Rattle.coco_order.proofs.Shapes.{filter_append}
use Rattle.coco_order.proofs.Shown.{conflict_shown}
use Rattle.coco_order.proofs.Tail.{committed_at, get_short}
use Rattle.coco_order.proofs.Times.{times_are_few}
use Rattle.coco_order.proofs.WritesThere.{uncommitted_at}

module _ (place : ℕ) where
  abbrev at : List Tried → List Tried
  at ts = filter (λ (t : Tried). eqb t.place place) ts

  all_at : (q : ℕ) (ts : List Tried) → AllByRecursion (λ t. t.place ≡ q) ts → at ts ≡ cond (eqb q place) ts []
  all_at q [] all = by_bool (λ z. ◌≡◌ {A = List Tried} [] (cond z [] [])) (eqb q place) (λ _. refl) (λ _. refl)
  all_at q (t ∷ ts) all =
      ap (λ (n : ℕ). cond (eqb n place) (t ∷ at ts) (at ts)) all.0 ∙ ap (λ (us : List Tried). cond (eqb q place) (t ∷ us) us) (all_at q ts all.1)
      ∙ by_bool (λ z. cond z (t ∷ cond z ts []) (cond z ts []) ≡ cond z (t ∷ ts) []) (eqb q place) (λ _. refl) (λ _. refl)

  first_at : (attempts : ℕ) (r : Tries) (rs : List Tries) → AreTries attempts r → at (concat_tries (r ∷ rs)) ≡ cond (eqb r.place place) (all_tries r) [] ++ at (concat_tries rs)
  first_at attempts r rs are = filter_append (λ (t : Tried). eqb t.place place) (all_tries r) (concat_tries rs) ∙ ap (λ (ts : List Tried). ts ++ at (concat_tries rs)) (all_at r.place (all_tries r) are.placed)

  none_at : (attempts : ℕ) (rs : List Tries) → AllByRecursion (AreTries attempts) rs → how_many_at place rs ≡ 0 → at (concat_tries rs) ≡ []
  none_at attempts [] all none = refl
  none_at attempts (r ∷ rs) all none =
      first_at attempts r rs all.0
      ∙ by_bool (λ z. length (cond z (r ∷ filter (λ (q : Tries). eqb q.place place) rs) (filter (λ (q : Tries). eqb q.place place) rs)) ≡ 0 → cond z (all_tries r) [] ++ at (concat_tries rs) ≡ []) (eqb r.place place)
      (λ _ h. absurd (omega (arith, h)))
      (λ _ h. none_at attempts rs all.1 h) none

  -- the tries of a place are its scripts
  pub record OfPlace (attempts : ℕ) (rs : List Tries) : Type 0 where
    pub tries : Tries
    pub are : AreTries attempts tries
    pub scripts : at (concat_tries rs) ≡ all_tries tries

  pub one_at : (attempts : ℕ) (rs : List Tries) → AllByRecursion (AreTries attempts) rs → how_many_at place rs ≡ 1 → OfPlace attempts rs
  one_at attempts [] all one = absurd (omega (arith, one))
  one_at attempts (r ∷ rs) all one =
      by_bool (λ z. eqb r.place place ≡ z → length (cond z (r ∷ filter (λ (q : Tries). eqb q.place place) rs) (filter (λ (q : Tries). eqb q.place place) rs)) ≡ 1 → OfPlace attempts (r ∷ rs)) (eqb r.place place)
      (λ _ here h. record {
        tries = r;
        are = all.0;
        scripts =
            first_at attempts r rs all.0 ∙ ap (λ (z : Bool). cond z (all_tries r) [] ++ at (concat_tries rs)) here
            ∙ ap (λ (ts : List Tried). all_tries r ++ ts) (none_at attempts rs all.1 (omega (arith, h))) ∙ append-nil (all_tries r);
      })
      (λ _ other h. (
      let rest : OfPlace attempts rs = one_at attempts rs all.1 h in
      record { tries = rest.tries; are = rest.are; scripts = first_at attempts r rs all.0 ∙ ap (λ (z : Bool). cond z (all_tries r) [] ++ at (concat_tries rs)) other ∙ rest.scripts }))
      refl one

  there_once : (rs : List Tries) (r : Tries) → Among rs r → r.place ≡ place → 1 ≤ how_many_at place rs
  there_once [] r h same = absurd h
  there_once (q ∷ rs) r (inl it) same =
      let here : eqb q.place place ≡ true = eq-eqb q.place place (ap (λ (p : Tries). p.place) it ∙ same) in
      subst (λ (z : Bool). 1 ≤ length (cond z (q ∷ filter (λ (p : Tries). eqb p.place place) rs) (filter (λ (p : Tries). eqb p.place place) rs))) (sym here) (omega arith)
  there_once (q ∷ rs) r (inr more) same =
      let rest : 1 ≤ how_many_at place rs = there_once rs r more same in
      by_bool (λ z. 1 ≤ length (cond z (q ∷ filter (λ (p : Tries). eqb p.place place) rs) (filter (λ (p : Tries). eqb p.place place) rs))) (eqb q.place place) (λ _. omega arith) (λ _. rest)

  -- tries of the place are its only ones
  only_at : (attempts : ℕ) (rs : List Tries) → AllByRecursion (AreTries attempts) rs → how_many_at place rs ≡ 1 → (r : Tries) → Among rs r → r.place ≡ place → at (concat_tries rs) ≡ all_tries r
  only_at attempts [] all one r h same = absurd h
  only_at attempts (q ∷ rs) all one r h same =
      by_bool (λ z. eqb q.place place ≡ z → length (cond z (q ∷ filter (λ (p : Tries). eqb p.place place) rs) (filter (λ (p : Tries). eqb p.place place) rs)) ≡ 1 → at (concat_tries (q ∷ rs)) ≡ all_tries r) (eqb q.place place)
      (λ _ here g. elim h [
        | inl it ↦
            first_at attempts q rs all.0 ∙ ap (λ (z : Bool). cond z (all_tries q) [] ++ at (concat_tries rs)) here
            ∙ ap (λ (ts : List Tried). all_tries q ++ ts) (none_at attempts rs all.1 (omega (arith, g))) ∙ append-nil (all_tries q) ∙ ap all_tries it
        | inr more ↦ absurd (omega (arith, g, there_once rs r more same))
      ])
      (λ _ other g. elim h [
        | inl it ↦ absurd (not_both (eqb q.place place) (eq-eqb q.place place (ap (λ (p : Tries). p.place) it ∙ same)) other)
        | inr more ↦ first_at attempts q rs all.0 ∙ ap (λ (z : Bool). cond z (all_tries q) [] ++ at (concat_tries rs)) other ∙ only_at attempts rs all.1 g r more same
      ])
      refl one

  any_at : (ts : List Tried) → list_any (λ t. eqb t.place place && is_commit t.outcome) ts ≡ list_any (λ t. is_commit t.outcome) (at ts)
  any_at [] = refl
  any_at (t ∷ ts) =
      by_bool (λ z. ((z && is_commit t.outcome) || list_any (λ u. eqb u.place place && is_commit u.outcome) ts) ≡ list_any (λ u. is_commit u.outcome) (cond z (t ∷ at ts) (at ts))) (eqb t.place place)
      (λ _. ap (λ z. is_commit t.outcome || z) (any_at ts)) (λ _. any_at ts)

last_commits : (conflicts : List Tried) (last : Tried) → AllByRecursion (λ t. is_conflict t.outcome ≡ true) conflicts → list_any (λ t. is_commit t.outcome) (conflicts ++ last ∷ []) ≡ is_commit last.outcome
last_commits [] last all = by_bool (λ z. (z || false) ≡ z) (is_commit last.outcome) (λ _. refl) (λ _. refl)
last_commits (t ∷ ts) last all = ap (λ z. z || list_any (λ u. is_commit u.outcome) (ts ++ last ∷ [])) (no_commit t.outcome all.0) ∙ last_commits ts last all.1

module _ (b : Beginning) (x : Execution) (is : IsExecution b x) (few : length (concat x.transcripts) ≤ most_time) where
  at_place : (place : ℕ) → place < length b.requests → is_committed x place ≡ false → HasConflicted b x place
  at_place place within none =
      let rs : List Tries = concat is.worked_off.tries in
      let flat : concat x.transcripts ≡ concat_tries rs = ap concat is.worked_off.transcripts_are ∙ tries_joined is.worked_off.tries in
      let one : OfPlace place b.attempts rs = one_at place b.attempts rs (all_joined (AreTries b.attempts) is.worked_off.tries is.worked_off.each) (is.worked_off.once place within) in
      let scripts : tried_at x place ≡ all_tries one.tries = ap (filter (λ (t : Tried). eqb t.place place)) flat ∙ one.scripts in
      let last : is_conflict one.tries.last.outcome ≡ true = ended one.tries scripts in
      record {
        used_up = ap length scripts ∙ one.are.used_up last;
        each = all_from (ShowsConflict b x) (tried_at x place) (λ t among. shown t among (conflicted one.tries one.are last t (subst (λ (ts : List Tried). Among ts t) scripts among)));
      }
    where
      in_all : (t : Tried) → Among (tried_at x place) t → Among (concat x.transcripts) t × (eqb t.place place ≡ true)
      in_all t among = among_filter (λ (u : Tried). eqb u.place place) (concat x.transcripts) t among

      by_outcome : (t : Tried) → Among (tried_at x place) t → (o : Outcome) → t.outcome ≡ o → is_conflict o ≡ true
      by_outcome t among (Conflict why) at = refl
      by_outcome t among (Committed time reply) at =
          let there = in_all t among in
          absurd (not_both (is_committed x place) (committed_at place (concat x.transcripts) t there.0 (eqb-true t.place place there.1) (ap is_commit at)) none)
      by_outcome t among OverTime at = absurd (let lt : most_time < length (concat x.transcripts) = (times_are_few b x is).over t (in_all t among).0 at in omega (arith, lt, few))

      ended : (r : Tries) → tried_at x place ≡ all_tries r → is_conflict r.last.outcome ≡ true
      ended r scripts = by_outcome r.last (subst (λ (ts : List Tried). Among ts r.last) (sym scripts) (Among-right r.conflicts (r.last ∷ []) r.last (inl refl))) r.last.outcome refl

      conflicted : (r : Tries) → AreTries b.attempts r → is_conflict r.last.outcome ≡ true → (t : Tried) → Among (all_tries r) t → is_conflict t.outcome ≡ true
      conflicted r are last t among = elim (Among-append r.conflicts (r.last ∷ []) t among) [
        | inl early ↦ all_among (λ (u : Tried). is_conflict u.outcome ≡ true) r.conflicts t are.conflicts early
        | inr (inl same) ↦ subst (λ (u : Tried). is_conflict u.outcome ≡ true) same last
        | inr (inr more) ↦ absurd more
      ]

      shown : (t : Tried) → Among (tried_at x place) t → is_conflict t.outcome ≡ true → ShowsConflict b x t
      shown t among conflict =
          let there = (in_all t among).0 in
          conflict_shown b x is t (all_among (IsTried b) (concat x.transcripts) t (all_tried b x is) there) there conflict

pub tails_conflicted : InEachExecution TailsConflicted
tails_conflicted b x is few = record { places = at_place b x is few; requests = of_tail }
  where
    of_tail : (r : Request) → Among (tail_requests b x) r → (place : ℕ) × (slice_get b.requests place ≡ Some r) × (is_committed x place ≡ false) × HasConflicted b x place
    of_tail r among =
        let found = uncommitted_at x 0 b.requests r among in
        let from_zero : found.0 + 0 ≡ found.0 = omega arith in
        let none : is_committed x found.0 ≡ false = sym (ap (is_committed x) from_zero) ∙ found.2 in
        (found.0, found.1, none, at_place b x is few found.0 (get_short b.requests found.0 r found.1) none)

pub tries_are_scripts : InEachExecution TriesAreScripts
tries_are_scripts b x is worked r among =
    let rs : List Tries = concat worked.tries in
    let flat : concat x.transcripts ≡ concat_tries rs = ap concat worked.transcripts_are ∙ tries_joined worked.tries in
    let all : AllByRecursion (AreTries b.attempts) rs = all_joined (AreTries b.attempts) worked.tries worked.each in
    let tried : AllByRecursion (IsTried b) (concat_tries rs) = subst (AllByRecursion (IsTried b)) flat (all_tried b x is) in
    let within : r.place < length b.requests = all_among (λ (q : Tries). q.place < length b.requests) rs r (placed b rs all (λ t in_it. all_among (IsTried b) (concat_tries rs) t tried in_it)) among in
    let scripts : tried_at x r.place ≡ all_tries r = ap (filter (λ (t : Tried). eqb t.place r.place)) flat ∙ only_at r.place b.attempts rs all (worked.once r.place within) r among refl in
    record {
      within = within;
      scripts = scripts;
      committed =
          any_at r.place (concat x.transcripts) ∙ ap (list_any (λ (t : Tried). is_commit t.outcome)) scripts
          ∙ last_commits r.conflicts r.last (all_among (AreTries b.attempts) rs r all among).conflicts;
    }
