use Rattle.std.proofs.Common.{◌≡◌, ℕ, ◌+◌, ◌-◌, List, [], ◌++◌, length, take, drop, Some, None, is_some, Option, refl, sym, ap, ◌∙◌, arith, length-drop, append-nil, append_assoc}
use Rattle.std.proofs.Math.Seq.{drop-append_seam, take-append_seam, take-add, take-length}
use Rattle.std.specs.Io.KnownBytes.{prepend_known, append_known, Keeps, Appends, Consumes}

-- known bytes, after bs was taken from their front
pub known-after : (old new : Option (List ℕ)) (bs xs : List ℕ) → old ≡ prepend_known bs new → old ≡ Some xs → new ≡ Some (drop (length bs) xs)
known-after None new bs xs taken is = grind arith
known-after (Some ys) None bs xs taken is = grind arith
known-after (Some ys) (Some zs) bs xs taken is = grind (arith, drop-append_seam bs zs)

-- what was taken from the front of known bytes
pub known-taken : (old new : Option (List ℕ)) (bs xs : List ℕ) → old ≡ prepend_known bs new → old ≡ Some xs → bs ≡ take (length bs) xs
known-taken None new bs xs taken is = grind arith
known-taken (Some ys) None bs xs taken is = grind arith
known-taken (Some ys) (Some zs) bs xs taken is = grind (arith, take-append_seam bs zs)

-- what is known at both moments or at neither stays
pub Keeps-known : (old new : Option (List ℕ)) → is_some old ≡ is_some new → Keeps old new → new ≡ old
Keeps-known None None both keeps = refl
Keeps-known None (Some ys) both keeps = cc
Keeps-known (Some xs) None both keeps = absurd keeps
Keeps-known (Some xs) (Some ys) both keeps = ap Some keeps

-- what is known at both moments or at neither loses the bytes at its front
pub Consumes-known : (old new : Option (List ℕ)) (bs : List ℕ) → is_some old ≡ is_some new → Consumes old new bs → old ≡ prepend_known bs new
Consumes-known None None bs both taken = refl
Consumes-known None (Some ys) bs both taken = cc
Consumes-known (Some xs) None bs both taken = absurd taken
Consumes-known (Some xs) (Some ys) bs both taken = ap Some taken

-- what is known at both moments or at neither grows by the bytes
pub Appends-known : (old new : Option (List ℕ)) (bs : List ℕ) → is_some old ≡ is_some new → Appends old new bs → new ≡ append_known old bs
Appends-known None None bs both added = refl
Appends-known None (Some ys) bs both added = cc
Appends-known (Some xs) None bs both added = absurd added
Appends-known (Some xs) (Some ys) bs both added = ap Some added

-- taking nothing
pub prepend_known-nil : (known : Option (List ℕ)) → prepend_known [] known ≡ known
prepend_known-nil None = refl
prepend_known-nil (Some xs) = refl

-- adding nothing
pub append_known-nil : (known : Option (List ℕ)) → append_known known [] ≡ known
append_known-nil None = refl
append_known-nil (Some xs) = ap Some (append-nil xs)

-- adding twice
pub append_known-append : (known : Option (List ℕ)) (bs cs : List ℕ) → append_known (append_known known bs) cs ≡ append_known known (bs ++ cs)
append_known-append None bs cs = refl
append_known-append (Some xs) bs cs = ap Some (append_assoc xs bs cs)

-- the range of a list that begins at a place is all that follows it
pub range_from : (xs : List ℕ) (at : ℕ) → take (length xs - at) (drop at xs) ≡ drop at xs
range_from xs at = ap (λ n. take n (drop at xs)) (sym (length-drop at xs)) ∙ take-length (drop at xs)

-- adding more of a piece, from the range that begins where the earlier part ends
pub append_known-more : (first old new : Option (List ℕ)) (piece : List ℕ) (done k : ℕ) → old ≡ append_known first (take done piece)
    → new ≡ append_known old (take k (take (length piece - done) (drop done piece))) → new ≡ append_known first (take (done + k) piece)
append_known-more first old new piece done k so_far more =
    more ∙ ap (λ rest. append_known old (take k rest)) (range_from piece done) ∙ ap (λ known. append_known known (take k (drop done piece))) so_far
    ∙ append_known-append first (take done piece) (take k (drop done piece)) ∙ ap (append_known first) (sym (take-add done k piece))
