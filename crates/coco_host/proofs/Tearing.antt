-- A write is one of the things that a crash may make of it.
use Rattle.std.proofs.Common.{◌≡◌, ℕ, ◌+◌, ◌-◌, ◌≤◌, max, List, ◌++◌, length, take, drop, sym, ◌∙◌, ap, arith, append_assoc, length-append, length-drop}
use Rattle.std.proofs.lemmas.List.{take_at, drop_at, drop-drop, length-take-le}
use Rattle.coco_host.specs.Files.{put, Torn}

pub length-put : (at : ℕ) (bytes file : List ℕ) → at ≤ length file → length (put at bytes file) ≡ max (length file) (at + length bytes)
length-put at bytes file within =
    omega (arith, length-append (take at file) (bytes ++ drop (at + length bytes) file), length-append bytes (drop (at + length bytes) file), length-take-le at file within, length-drop (at + length bytes) file)

pub take-put : (at : ℕ) (bytes file : List ℕ) → at ≤ length file → take at (put at bytes file) ≡ take at file
take-put at bytes file within = take_at (take at file) (bytes ++ drop (at + length bytes) file) at (length-take-le at file within)

pub drop-put : (at : ℕ) (bytes file : List ℕ) → at ≤ length file → drop (at + length bytes) (put at bytes file) ≡ drop (at + length bytes) file
drop-put at bytes file within =
    ap (λ (l : List ℕ). drop (at + length bytes) l) (sym (append_assoc (take at file) bytes (drop (at + length bytes) file)))
    ∙ drop_at (take at file ++ bytes) (drop (at + length bytes) file) (at + length bytes) (omega (arith, length-append (take at file) bytes, length-take-le at file within))

pub put_torn : (at count : ℕ) (bytes file : List ℕ) → at ≤ length file → length bytes ≤ count → Torn at count file (put at bytes file)
put_torn at count bytes file within short = record {
  before = take-put at bytes file within;
  after = behind (put at bytes file) ∙ ap (λ (l : List ℕ). drop (count - length bytes) l) (drop-put at bytes file within) ∙ sym (behind file);
  no_shorter = omega (arith, length-put at bytes file within);
  no_longer = omega (arith, short, length-put at bytes file within);
}
  where
    behind : (l : List ℕ) → drop (at + count) l ≡ drop (count - length bytes) (drop (at + length bytes) l)
    behind l = ap (λ (n : ℕ). drop n l) (omega (arith, short)) ∙ sym (drop-drop (count - length bytes) (at + length bytes) l)
