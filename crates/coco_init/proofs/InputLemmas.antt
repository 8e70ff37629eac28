-- Bytes that are read into a buffer, one read behind another.
use Rattle.std.proofs.Common.{◌≡◌, ℕ, ◌+◌, ◌≤◌, List, ◌++◌, length, take, sym, ap, subst, ◌∙◌, arith}
use Rattle.std.proofs.Math.Seq.{take-append-add, take-append_seam}
use Rattle.std.proofs.lemmas.Grind.{common_steps}
use Rattle.std.proofs.lemmas.List.{take-append-le}
use borrow.Rule.Slice.PartMut.{post_of, put_mid}
use Rattle.coco_lines.specs.Reads.{Gives, SourceMoment}
use Rattle.coco_lines.proofs.GatheringLemmas.{gives_both}

front_longer : (a k m : ℕ) (xs ys : List ℕ) → a ≤ length xs → m ≤ length ys → take (a + m) (put_mid a k xs ys) ≡ take a xs ++ take m ys
front_longer a k m xs ys within fits =
    let count : length (take a xs) ≡ a = grind (arith, common_steps) in
    ap (λ n. take (n + m) (put_mid a k xs ys)) (sym count) ∙ take-append-add (take a xs) (ys ++ post_of a k xs) m
    ∙ ap (λ l. take a xs ++ l) (take-append-le m ys (post_of a k xs) fits)

-- what stands in front of the count was given, and so was what the next read put behind it
pub gives_front : (before mid after : SourceMoment) (a k m : ℕ) (xs ys : List ℕ) → a ≤ length xs → m ≤ length ys → Gives before mid (take a xs) → Gives mid after (take m ys)
    → Gives before after (take (a + m) (put_mid a k xs ys))
gives_front before mid after a k m xs ys within fits first then =
    subst (Gives before after) (sym (front_longer a k m xs ys within fits)) (gives_both before mid after (take a xs) (take m ys) first then)

pub front_of : (count len : ℕ) (xs ys : List ℕ) → length xs ≡ len → take count (take len (xs ++ ys)) ≡ take count xs
front_of count len xs ys full = ap (λ l. take count l) (ap (λ n. take n (xs ++ ys)) (sym full) ∙ take-append_seam xs ys)

pub front_short : (count most : ℕ) (xs : List ℕ) → count ≤ most → length (take count xs) ≤ most
front_short count most xs few = grind (arith, common_steps)

pub gives_same : {before after : SourceMoment} (xs ys : List ℕ) → ys ≡ xs → Gives before after xs → Gives before after ys
gives_same {before} {after} xs ys same gives = subst (Gives before after) (sym same) gives
