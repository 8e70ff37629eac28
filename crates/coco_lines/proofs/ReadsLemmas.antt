-- What was gathered, as the next line.
use Rattle.std.proofs.Common.{◌≡◌, ℕ, ◌+◌, ◌<◌, ◌≤◌, List, [], ◌∷◌, ◌++◌, length, Bool, true, false, None, Some, Ok, Err, refl, sym, ap, ◌∙◌, subst, arith, append-nil, length-append, true≢false}
use Rattle.std.specs.Prelude.{◌==◌}
use Rattle.std.proofs.Math.Seq.{take-append_seam}
use Rattle.std.proofs.lemmas.Bool.Decides.{nat_tests}
use Rattle.std.proofs.lemmas.List.Elements.{All-take}
use Rattle.coco_lines.specs.ReaderState.{ReaderState, IsReaderState}
use Rattle.coco_lines.specs.Reads.{HasNoFeed, IsFirstLine, Fed, Last, MustRead, Reads, SourceMoment, Stops}
use Rattle.coco_lines.specs.Gathering.{Gathering, Halts}
use Rattle.coco_lines.specs.declared.reader.Body.{Body}
use Rattle.coco_lines.specs.declared.reader.Line.{Line}
use Rattle.coco_lines.specs.declared.error.LineFault.{LineFault}
use Rattle.coco_lines.specs.declared.error.LineFault.TheVariants as fault

-- a line with its line feed
pub Reads-feed : (old new : ReaderState) (told left : SourceMoment) (body : Body) (line : Line) → (g : Gathering old new told left body (10 ∷ new.pending)) (r : ReaderState) → r.pending ≡ new.pending
    → r.ended ≡ new.ended → r.taken ≡ new.taken → line ≡ record { number = old.given + 1; body = body } → Reads old r told left (Ok (Some line))
Reads-feed old new told left body line g r pending ended taken numbered = record {
  bytes = g.gave;
  gives = g.gives;
  taken = taken ∙ g.taken;
  none_behind = λ was. ((g.none_behind was).0, ended ∙ (g.none_behind was).1);
  next = (
    g.line,
    subst (λ p. IsFirstLine g.line (old.pending ++ g.gave) p r.ended) (sym pending) (Fed g.no_feed g.text),
    numbered ∙ ap (λ b. record { number = old.given + 1; body = b }) g.body_is,
  );
}

-- the last line, and nothing behind it
pub Reads-last : (old new : ReaderState) (told left : SourceMoment) (body : Body) (line : Line) → (g : Gathering old new told left body []) (r : ReaderState) → r.pending ≡ []
    → r.ended ≡ true → r.taken ≡ new.taken → 0 < length g.line → line ≡ record { number = old.given + 1; body = body } → Reads old r told left (Ok (Some line))
Reads-last old new told left body line g r pending ended taken some numbered = record {
  bytes = g.gave;
  gives = g.gives;
  taken = taken ∙ g.taken;
  none_behind = λ was. ((g.none_behind was).0, ended);
  next = (
    g.line,
    Last g.no_feed some (g.text ∙ append-nil g.line) pending ended,
    numbered ∙ ap (λ b. record { number = old.given + 1; body = b }) g.body_is,
  );
}

pub Reads-none : (old new : ReaderState) (told left : SourceMoment) (body : Body) (g : Gathering old new told left body []) → new.pending ≡ [] → new.ended ≡ true → g.line ≡ [] → Reads old new told left (Ok None)
Reads-none old new told left body g none met empty = record {
  bytes = g.gave;
  gives = g.gives;
  taken = g.taken;
  none_behind = λ was. ((g.none_behind was).0, met);
  next = (g.text ∙ append-nil g.line ∙ empty, none, met);
}

pub Reads-fault : (old new : ReaderState) (told left : SourceMoment) (body : Body) (e : LineFault) → Gathering old new told left body new.pending → Reads old new told left (Err e)
Reads-fault old new told left body e g = record { bytes = g.gave; gives = g.gives; taken = g.taken; none_behind = λ was. ((g.none_behind was).0, (g.none_behind was).1); next = (g.line, g.no_feed, g.text) }

not_ended : (old new : ReaderState) (told left : SourceMoment) (body : Body) (rest : List ℕ) (ended : Bool) → old.ended ≡ ended → Gathering old new told left body rest → new.ended ≡ false → old.ended ≡ false
not_ended old new told left body rest true is g unmet = absurd (true≢false (sym (g.none_behind is).1 ∙ unmet))
not_ended old new told left body rest false is g unmet = is

-- what a fault says of the bytes pending before
must_read : (old new : ReaderState) (told left : SourceMoment) (body : Body) → Gathering old new told left body new.pending → new.pending ≡ [] → new.ended ≡ false → MustRead old
must_read old new told left body g none unmet =
    let whole : g.line ≡ old.pending ++ g.gave = sym (g.text ∙ ap (λ xs. g.line ++ xs) none ∙ append-nil g.line) in
    let front = All-take (λ b. (b == 10) ≡ false) (length old.pending) (old.pending ++ g.gave) (subst HasNoFeed whole g.no_feed) in
    (subst HasNoFeed (take-append_seam old.pending g.gave) front, not_ended old new told left body new.pending old.ended refl g unmet)

-- the line feed counts
pub counts-feed : (old new : ReaderState) (told left : SourceMoment) (body : Body) → IsReaderState old → Gathering old new told left body (10 ∷ new.pending)
    → new.given + 1 + length new.pending ≤ new.taken
counts-feed old new told left body was g =
    let lengths = ap length g.text in
    let parts : length old.pending + length g.gave ≡ length g.line + length (10 ∷ new.pending) = sym (length-append old.pending g.gave) ∙ lengths ∙ length-append g.line (10 ∷ new.pending) in
    omega (arith, was.counts, g.taken, g.given, parts)

pub counts-last : (old new : ReaderState) (told left : SourceMoment) (body : Body) → IsReaderState old → (g : Gathering old new told left body []) → new.pending ≡ []
    → 0 < length g.line → new.given + 1 + length new.pending ≤ new.taken
counts-last old new told left body was g none some =
    let lengths = ap length (g.text ∙ append-nil g.line) in
    let parts : length old.pending + length g.gave ≡ length g.line = sym (length-append old.pending g.gave) ∙ lengths in
    let nothing : length new.pending ≡ 0 = ap length none in
    omega (arith, was.counts, g.taken, g.given, parts, nothing, some)

pub some_bytes : (n : ℕ) → false ≡ (n == 0) → 0 < n
some_bytes n h = grind (arith, nat_tests)

pub Stops-halts : (old new : ReaderState) (told left : SourceMoment) (body : Body) (e : LineFault) → Gathering old new told left body new.pending → Halts e new → Stops e old new
Stops-halts old new told left body fault.Failed g h = (must_read old new told left body g h.0 h.1, h.0, h.1, h.2)
Stops-halts old new told left body fault.TooMuch g h = (must_read old new told left body g h.0 h.1, h.0, h.1, h.2)
Stops-halts old new told left body fault.NoMemory g h = tt
