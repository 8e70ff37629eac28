-- Lines given one by one, with their numbers.
use Rattle.std.proofs.Common.{◌≡◌, ℕ, ◌+◌, List, [], ◌∷◌, ◌++◌, length, true, Option, None, Some, Ok, refl, ap, ◌∙◌, sym, arith}
use Rattle.coco_lines.specs.Lines.{Line}
use Rattle.coco_lines.specs.ReaderState.{ReaderState}
use Rattle.coco_lines.specs.Reads.{Reads, SourceMoment, body_of}
use Rattle.coco_lines.specs.declared.reader.Line.{Line as Given}
use Rattle.coco_batches.specs.BatchReading.{AreGiven, numbered}
use Rattle.coco_batches.proofs.BatchLemmas.{takes_both, takes_line, takes_none, takes_then_ends}

pub numbered-length : (n : ℕ) (lines : List Line) → length (numbered n lines) ≡ length lines
numbered-length n [] = refl
numbered-length n (line ∷ lines) = omega (arith, numbered-length (n + 1) lines)

numbered-more : (n : ℕ) (lines : List Line) (line : Line) → numbered n (lines ++ line ∷ []) ≡ numbered n lines ++ record { number = n + length lines; body = body_of line } ∷ []
numbered-more n [] line = let e : n ≡ n + 0 = omega arith in ap (λ k. record { number = k; body = body_of line } ∷ []) e
numbered-more n (first ∷ lines) line =
    let e : n + 1 + length lines ≡ n + length (first ∷ lines) = omega arith in
    ap (λ others. record { number = n; body = body_of first } ∷ others) (numbered-more (n + 1) lines line ∙ ap (λ k. numbered (n + 1) lines ++ record { number = k; body = body_of line } ∷ []) e)

pub given_start : (s : ReaderState) (m : SourceMoment) (given : List Given) → given ≡ [] → AreGiven s s m m given
given_start s m given none = record { lines = []; takes = takes_none s m; are = none }

pub given_more : (old mid new : ReaderState) (a b c : SourceMoment) (given : List Given) (line : Given) (found : Option Given) → found ≡ Some line → mid.given ≡ old.given + length given
    → Reads mid new b c (Ok found) → AreGiven old mid a b given → AreGiven old new a c (given ++ line ∷ [])
given_more old mid new a b c given line found is place reads g =
    let read = takes_line mid new b c line found is reads in
    let many : length given ≡ length g.lines = ap (length {A = Given}) g.are ∙ numbered-length (old.given + 1) g.lines in
    let number : mid.given + 1 ≡ old.given + 1 + length g.lines = omega (arith, place, many) in
    record {
      lines = g.lines ++ read.0 ∷ [];
      takes = takes_both old mid new a b c g.lines (read.0 ∷ []) new.pending g.takes read.1;
      are = ap (λ (others : List Given). others ++ line ∷ []) g.are ∙ ap (λ (l : Given). numbered (old.given + 1) g.lines ++ l ∷ []) read.2
          ∙ ap (λ k. numbered (old.given + 1) g.lines ++ record { number = k; body = body_of read.0 } ∷ []) number ∙ sym (numbered-more (old.given + 1) g.lines read.0);
    }

pub given_ends : (old mid new : ReaderState) (a b c : SourceMoment) (given : List Given) (found : Option Given) → found ≡ None → Reads mid new b c (Ok found) → AreGiven old mid a b given
    → AreGiven old new a c given × (new.ended ≡ true) × (new.pending ≡ [])
given_ends old mid new a b c given found is reads g =
    let end = takes_then_ends old mid new a b c g.lines found is reads g.takes in
    (record { lines = g.lines; takes = end.0; are = g.are }, end.1, end.2)
