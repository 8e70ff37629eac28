-- What is seen while the log of layouts is made, and what is there after it.
use Rattle.std.proofs.Common.{◌≡◌, inl, inr, ℕ, ◌≤◌, List, [], ◌∷◌, ◌++◌, length, Option, Some, refl, sym, ap, subst, ◌∙◌, arith, length-append}
use Rattle.std.specs.List.{flat_map}
use Rattle.coco_host.specs.Files.{Files, Become, Follows, put, Torn}
use Rattle.coco_host.specs.Moments.{Observation, SeesOnly}
use Rattle.coco_host.specs.declared.host.Host.{Ghosts as HostGhosts}
use Rattle.coco_log.specs.Grammar.{entry, front, header, IsLog}
use Rattle.coco_log.specs.LogState.{ChangesOne, IsAppended, IsBeforeOrAfter, IsMade, LogState, SameBut, with_entry, without_entries}
use Rattle.coco_log.specs.Making.{MakesLog, made_count}
use Rattle.coco_log.proofs.OneLog.{one_log}
use Rattle.coco_log.proofs.OnlyRead.{sees_then, sees_weaker}
use Rattle.coco_store.specs.Entries.{layouts_kind}
use Rattle.coco_log.specs.Changes.{ChangesNamed, ChangesOnly}
use Rattle.coco_make.specs.Making.{LeavesEmpty}
use Rattle.coco_make.specs.Steps.{HasLayout, MayHave}
use Rattle.coco_log.proofs.Changing.{become_wider, besides_one, changes_on}

-- ---- what the file may be

-- an entry takes more bytes than the header and a gate
too_short : (kind : ℕ) (bodies : List (List ℕ)) (file : List ℕ) → length file ≤ made_count → IsLog kind bodies file → bodies ≡ []
too_short kind [] file le log = refl
too_short kind (body ∷ bodies) file le log =
    absurd (omega (arith, le, ap length log.is, length-append (front kind (body ∷ bodies)) (log.gate ∷ log.behind), length-append (header kind) (flat_map entry (body ∷ bodies)), length-append (entry body) (flat_map entry bodies)))

pub no_entry : (body : List ℕ) (bodies : List (List ℕ)) (file : List ℕ) → file ≡ [] → IsLog layouts_kind (body ∷ bodies) file → ⊥
no_entry body bodies file none log = let no : ◌≡◌ {A = List (List ℕ)} (body ∷ bodies) [] = too_short layouts_kind (body ∷ bodies) file (omega (arith, ap length none)) log in cc

torn_none : (body file : List ℕ) → Torn 0 made_count [] file → MayHave body file
torn_none body file torn bodies log = inl (too_short layouts_kind bodies file (omega (arith, torn.no_longer)) log)

either_one : (body file : List ℕ) → IsBeforeOrAfter layouts_kind [] body file → MayHave body file
either_one body file (inl none) bodies log = inl ((one_log layouts_kind layouts_kind file bodies [] log none).1)
either_one body file (inr one) bodies log = inr ((one_log layouts_kind layouts_kind file bodies (body ∷ []) log one).1)

-- ---- moments

module _ {H : Type 0} (frame : HostGhosts H)
    (body : List ℕ) (first mid : H) where
  abbrev pub Shows : Observation → Type 0
  Shows = ChangesOne 0 (MayHave body) (frame.may_leave first) (frame.said first)

  -- while the log is made
  pub sees_made : LeavesEmpty 0 (frame.may_leave first) → SeesOnly frame.moment frame.observed first mid (MakesLog 0 (frame.may_leave first) (frame.said first)) → SeesOnly frame.moment frame.observed first mid Shows
  sees_made none sees =
      sees_weaker frame.moment frame.observed first mid (MakesLog 0 (frame.may_leave first) (frame.said first)) Shows
      (λ seen shows. record {
        such = torn_none body (seen.image 0) (subst (λ (b : List ℕ). Torn 0 made_count b (seen.image 0)) (none shows.before shows.was_left) shows.torn.inside);
        before = shows.before;
        was_left = shows.was_left;
        others = shows.torn.elsewhere;
        said = shows.said;
      }) sees

  module _ (log : LogState) (is : log ≡ without_entries 0 layouts_kind) (quiet : frame.said mid ≡ frame.said first) (crash : Follows (SameBut 0) (frame.may_leave first) (frame.may_leave mid)) (new : H) where
    abbrev Appends : Observation → Type 0
    Appends = ChangesOne log.file (IsBeforeOrAfter log.kind [] body) (frame.may_leave mid) (frame.said mid)

    here : (seen : Observation) → Appends seen → ChangesOne 0 (IsBeforeOrAfter layouts_kind [] body) (frame.may_leave mid) (frame.said mid) seen
    here seen shows = subst (λ (l : LogState). ChangesOne l.file (IsBeforeOrAfter l.kind [] body) (frame.may_leave mid) (frame.said mid) seen) is shows

    -- and while the layout is appended
    pub sees_appended : SeesOnly frame.moment frame.observed first mid Shows → SeesOnly frame.moment frame.observed mid new Appends → SeesOnly frame.moment frame.observed first new Shows
    sees_appended one two = sees_then frame.moment frame.observed first mid new Shows Appends one two (λ seen shows.
        let on : ChangesOne 0 (IsBeforeOrAfter layouts_kind [] body) (frame.may_leave mid) (frame.said mid) seen = here seen shows in
        let from = crash on.before on.was_left in
        record {
          such = either_one body (seen.image 0) on.such;
          before = from.0;
          was_left = from.1;
          others = λ n other. on.others n other ∙ from.2 n other;
          said = sym quiet ∙ on.said;
        })

    pub changes_appended : ChangesOnly frame (0 ∷ []) first mid
        → ((files : Files) → frame.reads first ≡ Some files → SeesOnly frame.moment frame.observed mid new Appends)
        → Become (SameBut log.file) (frame.reads mid) (frame.reads new) → Follows (SameBut log.file) (frame.may_leave mid) (frame.may_leave new) → frame.said new ≡ frame.said mid
        → ChangesOnly frame (0 ∷ []) first new
    changes_appended one two files follows still =
        let of_file : log.file ≡ 0 = ap (λ (l : LogState). l.file) is in
        let become : Become (SameBut 0) (frame.reads mid) (frame.reads new) = subst (λ (f : ℕ). Become (SameBut f) (frame.reads mid) (frame.reads new)) of_file files in
        let left : Follows (SameBut 0) (frame.may_leave mid) (frame.may_leave new) = subst (λ (f : ℕ). Follows (SameBut f) (frame.may_leave mid) (frame.may_leave new)) of_file follows in
        changes_on frame (0 ∷ []) first mid new one
        (λ fs told. sees_weaker frame.moment frame.observed mid new Appends (ChangesNamed (0 ∷ []) (frame.may_leave mid) (frame.said mid))
        (λ seen shows.
        let on : ChangesOne 0 (IsBeforeOrAfter layouts_kind [] body) (frame.may_leave mid) (frame.said mid) seen = here seen shows in
        record { before = on.before; was_left = on.was_left; others = besides_one (0 ∷ []) 0 refl on.before seen.image on.others; said = on.said }) (two fs told))
        (become_wider (SameBut 0) (0 ∷ []) (frame.reads mid) (frame.reads new) (besides_one (0 ∷ []) 0 refl) become)
        (λ c leaves. let from = left c leaves in (from.0, from.1, besides_one (0 ∷ []) 0 refl from.0 c from.2))
        still

-- ---- after it

grown_layout : (body : List ℕ) (before : Files) (told reads : Option Files) (left leaves : Files → Type 0) (made : IsMade (without_entries 0 layouts_kind) 0 layouts_kind before told left)
    → IsAppended (without_entries 0 layouts_kind) (with_entry (without_entries 0 layouts_kind) body) [] body made.files reads leaves → HasLayout body before reads leaves
grown_layout body before told reads left leaves made is = record {
  files = is.files;
  are = is.are;
  bytes = is.bytes ∙ ap (λ (file : List ℕ). put 8 (entry body ++ 0 ∷ []) file) made.bytes;
  others = besides_one (0 ∷ []) 0 refl before is.files (λ n other. is.others n other ∙ made.others n other);
  left = λ image leave. subst (λ (bytes : List ℕ). IsLog layouts_kind (body ∷ []) bytes) (sym (is.rest.durable image leave)) is.rest.holds.is_log;
}

pub has_layout : (body : List ℕ) (before : Files) (told reads : Option Files) (left leaves : Files → Type 0) (log grown : LogState) → log ≡ without_entries 0 layouts_kind → grown ≡ with_entry log body
    → (made : IsMade log 0 layouts_kind before told left) → IsAppended log grown [] body made.files reads leaves → HasLayout body before reads leaves
has_layout body before told reads left leaves log grown is more =
    subst (λ (l : LogState). (made : IsMade l 0 layouts_kind before told left) → IsAppended l grown [] body made.files reads leaves → HasLayout body before reads leaves) (sym is)
    (λ made appended. grown_layout body before told reads left leaves made
    (subst (λ (g : LogState). IsAppended (without_entries 0 layouts_kind) g [] body made.files reads leaves) (more ∙ ap (λ (l : LogState). with_entry l body) is) appended))
