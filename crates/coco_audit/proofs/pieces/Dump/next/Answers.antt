use Rattle.std.proofs.Common.{◌≡◌, ◌<◌, inr, List, ℕ, [], ◌∷◌, ◌++◌, true, length, refl, sym, ◌∙◌, ap, arith, append_assoc}
use Rattle.std.proofs.lemmas.List.{append-nil}
use Rattle.std.proofs.lemmas.List.Concat.{flat_map-append}
use Rattle.coco_audit.specs.Dumping.{PutsLine, piece_bytes, text_of}
use Rattle.coco_audit.proofs.pieces.Dump.next.Goals as goal

pub loop-self-preserved : goal.loop-self-preserved
loop-self-preserved c =
    let was = c.loop-self.invariant in
    let piece : List ℕ = c.loop-self.piece.items in
    let rest : List (List ℕ) = c.put_line.new.self in
    let puts : PutsLine true c.loop-self.self rest piece c.put_line.new.piece.items = rw c.if-not-branch.false at c.in_ok-put_line.ensures in
    let lines : List (List ℕ) = was.lines.0 in
    let line : List ℕ = puts.0 in
    let one_more : text_of (lines ++ line ∷ []) ≡ text_of lines ++ line =
    flat_map-append (λ (l : List ℕ). l) lines (line ∷ []) ∙ ap (λ (l : List ℕ). text_of lines ++ l) (append-nil line) in
    let size = ap length was.lines.2 in
    let few : length (text_of lines) < piece_bytes = omega (arith, size, c.loop-self-test.true, c.len.ensures, c.loop-self.piece.ok.0) in
    record {
      given = was.given ∙ ap (λ (ls : List (List ℕ)). piece ++ text_of ls) puts.1 ∙ sym (append_assoc piece line (text_of rest)) ∙ ap (λ (l : List ℕ). l ++ text_of rest) (sym puts.2);
      lines = (
        lines ++ line ∷ [],
        was.lines.1 ∙ ap (λ (ls : List (List ℕ)). lines ++ ls) puts.1 ∙ sym (append_assoc lines (line ∷ []) rest),
        puts.2 ∙ ap (λ (l : List ℕ). l ++ line) was.lines.2 ∙ sym one_more,
        inr (lines, line, refl, few),
      );
    }
