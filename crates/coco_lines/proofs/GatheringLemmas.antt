-- Gathering one line: its start, and each step.
use Rattle.std.proofs.Common.{◌≡◌, ℕ, ◌+◌, ◌<◌, List, [], ◌∷◌, ◌++◌, length, Bool, true, false, Option, None, Some, Result, Ok, Err, refl, sym, ap, ◌∙◌, subst, inl, inr, arith, append_assoc, append-nil, length-append, add-zero, true≢false}
use Rattle.std.proofs.lemmas.List.Elements.{All-nil, All-append}
use Rattle.std.specs.Prelude.{◌==◌, OnErr}
use Rattle.std.specs.Io.KnownBytes.{prepend_known}
use Rattle.coco_types.specs.Limits.{most_input_bytes}
use Rattle.coco_lines.specs.ReaderState.{ReaderState}
use Rattle.coco_lines.specs.Reads.{Gives, HasNoFeed, IsSpent, SourceMoment, body_of}
use Rattle.coco_lines.specs.Gathering.{Cuts, Gathering}
use Rattle.coco_lines.specs.declared.reader.Body.{Body}

none_before : (told : Option (List ℕ)) → told ≡ prepend_known [] told
none_before None = refl
none_before (Some xs) = refl

pub gives_none : (s : SourceMoment) → Gives s s []
gives_none s = record { given = sym (append-nil s.given); left = none_before s.left }

left_joined : (told mid left : Option (List ℕ)) (xs ys : List ℕ) → told ≡ prepend_known xs mid → mid ≡ prepend_known ys left → told ≡ prepend_known (xs ++ ys) left
left_joined told mid None xs ys first then = first ∙ ap (prepend_known xs) then
left_joined told mid (Some zs) xs ys first then = first ∙ ap (prepend_known xs) then ∙ ap Some (sym (append_assoc xs ys zs))

-- what a source gave, and then gave
pub gives_both : (a b c : SourceMoment) (xs ys : List ℕ) → Gives a b xs → Gives b c ys → Gives a c (xs ++ ys)
gives_both a b c xs ys first then = record {
  given = then.given ∙ ap (λ l. l ++ ys) first.given ∙ append_assoc a.given xs ys;
  left = left_joined a.left b.left c.left xs ys first.left then.left;
}

both_no_feed : (xs ys : List ℕ) → HasNoFeed xs → HasNoFeed ys → HasNoFeed (xs ++ ys)
both_no_feed xs ys p q = All-append (λ b. (b == 10) ≡ false) xs ys p q

-- nothing is gathered yet
pub Gathering-start : (s : ReaderState) (told : SourceMoment) → Gathering s s told told (body_of []) s.pending
Gathering-start s told = record {
  gave = [];
  line = [];
  gives = gives_none told;
  text = append-nil s.pending;
  body_is = refl;
  no_feed = All-nil (λ b. (b == 10) ≡ false);
  taken = sym (add-zero s.taken);
  given = refl;
  none_behind = λ is. (refl, is, refl);
  at_end = λ is. inl is;
}

-- all that was pending has gone to the line
pub Gathering-all : (old mid new : ReaderState) (told left : SourceMoment) (body longer : Body) (fed : Bool) → fed ≡ false → Gathering old mid told left body mid.pending
    → Cuts mid.pending new.pending body longer fed → new.taken ≡ mid.taken → new.ended ≡ mid.ended → new.given ≡ mid.given → Gathering old new told left longer new.pending × (new.pending ≡ [])
Gathering-all old mid new told left body longer true isnt g cut taken ended given = absurd (true≢false isnt)
Gathering-all old mid new told left body longer false isnt g cut taken ended given = (
  record {
    gave = g.gave;
    line = g.line ++ mid.pending;
    gives = g.gives;
    text = g.text ∙ sym (append-nil (g.line ++ mid.pending)) ∙ ap (λ xs. (g.line ++ mid.pending) ++ xs) (sym cut.0);
    body_is = cut.2 g.line g.body_is;
    no_feed = both_no_feed g.line mid.pending g.no_feed cut.1;
    taken = taken ∙ g.taken;
    given = given ∙ g.given;
    none_behind = λ is. ((g.none_behind is).0, ended ∙ (g.none_behind is).1, (g.none_behind is).2);
    at_end = λ is. elim (g.at_end (sym ended ∙ is)) [ inl was ↦ inl was | inr met ↦ inr (met.0, subst (λ n. n < most_input_bytes) (sym taken) met.1) ];
  },
  cut.0,
)

-- a line feed was met behind the line
pub Gathering-feed : (old mid new : ReaderState) (told left : SourceMoment) (body longer : Body) (fed : Bool) → fed ≡ true → Gathering old mid told left body mid.pending
    → Cuts mid.pending new.pending body longer fed → new.taken ≡ mid.taken → new.ended ≡ mid.ended → new.given ≡ mid.given → Gathering old new told left longer (10 ∷ new.pending)
Gathering-feed old mid new told left body longer false is g cut taken ended given = absurd (true≢false (sym is))
Gathering-feed old mid new told left body longer true is g cut taken ended given = record {
  gave = g.gave;
  line = g.line ++ cut.0;
  gives = g.gives;
  text = g.text ∙ ap (λ xs. g.line ++ xs) cut.1 ∙ sym (append_assoc g.line cut.0 (10 ∷ new.pending));
  body_is = cut.3 g.line g.body_is;
  no_feed = both_no_feed g.line cut.0 g.no_feed cut.2;
  taken = taken ∙ g.taken;
  given = given ∙ g.given;
  none_behind = λ is. ((g.none_behind is).0, ended ∙ (g.none_behind is).1, (g.none_behind is).2);
  at_end = λ is. elim (g.at_end (sym ended ∙ is)) [ inl was ↦ inl was | inr met ↦ inr (met.0, subst (λ n. n < most_input_bytes) (sym taken) met.1) ];
}

-- more bytes were taken where none were pending
pub Gathering-fill : (old mid new : ReaderState) (told left later : SourceMoment) (body : Body) → Gathering old mid told left body mid.pending → mid.pending ≡ [] → mid.ended ≡ false
    → Gives left later new.pending → new.taken ≡ mid.taken + length new.pending → new.given ≡ mid.given → (new.ended ≡ true → IsSpent later × (new.taken < most_input_bytes))
    → Gathering old new told later body new.pending
Gathering-fill old mid new told left later body g none unmet bytes taken given end = record {
  gave = g.gave ++ new.pending;
  line = g.line;
  gives = gives_both told left later g.gave new.pending g.gives bytes;
  text = sym (append_assoc old.pending g.gave new.pending) ∙ ap (λ xs. xs ++ new.pending) (g.text ∙ ap (λ xs. g.line ++ xs) none ∙ append-nil g.line);
  body_is = g.body_is;
  no_feed = g.no_feed;
  taken = omega (arith, taken, g.taken, length-append g.gave new.pending);
  given = given ∙ g.given;
  none_behind = λ is. absurd (true≢false (sym (g.none_behind is).1 ∙ unmet));
  at_end = λ is. inr (end is);
}

pub on_err : {A E P : Type 0} (r : Result A E) → P → OnErr r P
on_err (Ok a) p = tt
on_err (Err e) p = p
