-- Fields that stand one behind another, and steps of a reading.
use Rattle.std.proofs.Common.{◌≡◌, inl, inr, ℕ, ◌+◌, ◌-◌, ◌≤◌, Bool, true, false, cond, List, [], ◌++◌, length, take, drop, Result, Ok, Err, refl, sym, ap, subst, ◌∙◌, append_assoc, length-append, length-drop, arith}
use Rattle.std.proofs.lemmas.List.{drop-drop, drop_at, drop_all, append-nil, get_or-drop, get_or-take, get_or_past, length-take}
use Rattle.std.proofs.lemmas.Bool.{cases_lt}
use Rattle.coco_bytes.specs.Fields.{Stands, AreBytes}
use Rattle.coco_bytes.specs.Reads.{◌>>=◌, Read, Agree}

-- a step that did not fail, and what came of its value
pub bind_then : {A B E G : Type 0} (r : Result A E) (f : A → Result B E) (y : B) → (r >>= f) ≡ Ok y → ((x : A) → r ≡ Ok x → f x ≡ Ok y → G) → G
bind_then (Ok x) f y e go = go x refl e
bind_then (Err d) f y e go = absurd cc

-- a test that was passed on the way to a value
pub else_then : {A E G : Type 0} (b : Bool) (d : E) (r : Result A E) (y : A) → cond b (Err d) r ≡ Ok y → (b ≡ false → r ≡ Ok y → G) → G
else_then true d r y e go = absurd cc
else_then false d r y e go = go refl e

-- which way a test went
pub pick : {X G : Type 0} (b : Bool) (x y z : X) → cond b x y ≡ z → (b ≡ true → x ≡ z → G) → (b ≡ false → y ≡ z → G) → G
pick true x y z e on_true on_false = on_true refl e
pick false x y z e on_true on_false = on_false refl e

pub if_then : {A E G : Type 0} (b : Bool) (d : E) (r : Result A E) (y : A) → cond b r (Err d) ≡ Ok y → (b ≡ true → r ≡ Ok y → G) → G
if_then true d r y e go = go refl e
if_then false d r y e go = absurd cc

abbrev done : {A : Type 0} (E : Type 0) → A → Result A E
done E x = Ok x

-- what holds of a value holds of the one that was answered
pub ok_then : {A : Type 0} (E : Type 0) (P : A → Type 0) (x y : A) → done E x ≡ done E y → P x → P y
ok_then E P x y e p = let same : x ≡ y = cc in subst P same p

-- a field that was written behind some bytes and in front of others stands there
pub Stands-append : (before field after : List ℕ) → Stands (before ++ (field ++ after)) (length before) field (length before + length field)
Stands-append before field after =
    let whole : drop (length before) (before ++ (field ++ after)) ≡ field ++ after = drop_at before (field ++ after) (length before) refl in
    let rest : drop (length before + length field) (before ++ (field ++ after)) ≡ after = rw (← drop-drop (length field) (length before) (before ++ (field ++ after)), whole) (drop_at field after (length field) refl) in
    record { here = rw (whole, rest) refl; ends = refl }

-- nothing stands everywhere
pub Stands-nil : (from : List ℕ) (at : ℕ) → Stands from at [] at
Stands-nil from at = record { here = refl; ends = omega arith }

-- what agrees is read behind any bytes and in front of any others
pub Agree-append : {A : Type 0} {read : List ℕ → ℕ → Read A} {bytes_of : A → List ℕ} {Fits : A → Type 0} → Agree read bytes_of Fits → (before : List ℕ) (x : A) (after : List ℕ) → Fits x
    → read (before ++ (bytes_of x ++ after)) (length before) ≡ Ok (x, length before + length (bytes_of x))
Agree-append {bytes_of = bytes_of} agrees before x after fits = agrees.again (before ++ (bytes_of x ++ after)) (length before) x (length before + length (bytes_of x)) fits (Stands-append before (bytes_of x) after)

-- two fields in a row are one
pub Stands-then : (from : List ℕ) (at : ℕ) (a : List ℕ) (mid : ℕ) (b : List ℕ) (end : ℕ) → Stands from at a mid → Stands from mid b end → Stands from at (a ++ b) end
Stands-then from at a mid b end p q = record {
  here = p.here ∙ ap (λ (x : List ℕ). a ++ x) q.here ∙ sym (append_assoc a b (drop end from));
  ends = omega (arith, p.ends, q.ends, length-append a b);
}

-- the first of two fields in a row
pub Stands-first : (from : List ℕ) (at : ℕ) (a b : List ℕ) (end : ℕ) → Stands from at (a ++ b) end → Stands from at a (at + length a)
Stands-first from at a b end p =
    let whole : drop at from ≡ a ++ (b ++ drop end from) = p.here ∙ append_assoc a b (drop end from) in
    let rest : drop (at + length a) from ≡ b ++ drop end from = rw (← drop-drop (length a) at from, whole) (drop_at a (b ++ drop end from) (length a) refl) in
    record { here = rw (whole, rest) refl; ends = refl }

-- the second of two fields in a row
pub Stands-second : (from : List ℕ) (at : ℕ) (a b : List ℕ) (end : ℕ) → Stands from at (a ++ b) end → Stands from (at + length a) b end
Stands-second from at a b end p =
    let whole : drop at from ≡ a ++ (b ++ drop end from) = p.here ∙ append_assoc a b (drop end from) in
    record {
      here = rw (← drop-drop (length a) at from, whole) (drop_at a (b ++ drop end from) (length a) refl);
      ends = omega (arith, p.ends, length-append a b);
    }

-- where a field stands there are as many bytes
pub Stands-fits : (from : List ℕ) (at : ℕ) (field : List ℕ) (end : ℕ) → Stands from at field end → length field ≤ length from - at
Stands-fits from at field end p = omega (arith, ap length p.here, length-append field (drop end from), length-drop at from)

-- all of the bytes
pub Stands-all : (from field : List ℕ) → from ≡ field → Stands from 0 field (length from)
Stands-all from field same = record {
  here = same ∙ sym (append-nil field) ∙ ap (λ (x : List ℕ). field ++ x) (sym (drop_all (length from) from (omega arith)));
  ends = omega (arith, ap length same);
}

pub Stands-whole : (from field : List ℕ) → Stands from 0 field (length from) → from ≡ field
Stands-whole from field p = p.here ∙ ap (λ (x : List ℕ). field ++ x) (drop_all (length from) from (omega arith)) ∙ append-nil field

pub AreBytes-drop : (n : ℕ) (from : List ℕ) → AreBytes from → AreBytes (drop n from)
AreBytes-drop n from h i = rw get_or-drop (h (n + i))

pub AreBytes-take : (n : ℕ) (from : List ℕ) → AreBytes from → AreBytes (take n from)
AreBytes-take n from h i =
    elim (cases_lt i n) [
      | inl lt ↦ rw (get_or-take n from i 0 lt) (h i)
      | inr le ↦ rw (get_or_past (take n from) i 0 (omega (arith, length-take n from))) (omega arith)
    ]
