-- Numbers, flags and counted bytes read back.
use Rattle.std.proofs.Common.{◌≡◌, ℕ, ℤ, zero, suc, ◌+◌, ◌-◌, ◌^◌, ◌<◌, ◌≤◌, Bool, true, false, cond, ltb, eqb, List, ◌++◌, length, get_or, take, drop, Ok, Err, refl, sym, ap, subst, ◌∙◌, length-drop, arith}
use Rattle.std.specs.Prelude.{slice_range}
use Rattle.std.specs.Int.RustNames.{FitsSigned}
use Rattle.std.proofs.lemmas.Int.{to_z-of_z, of_z-to_z}
use mir.Facts.{sfits_to_z, Fits-of_z, Fits-of_lt, Fits-lt-pow}
use Rattle.std.specs.Int.{Width, w16, w32, w64, byte_len, from_be_bytes, to_be_bytes, cast_signed, cast_unsigned}
use Rattle.std.proofs.lemmas.Bool.{ltb-false, ltb-true, le-ltb, lt-ltb}
use Rattle.std.proofs.lemmas.List.{drop_more, take_at, drop-drop, take-append-drop, length-take-le, get_or-drop, get_or-take}
use Rattle.std.proofs.lemmas.Nat.{be_bytes_2, be_bytes_4, be_bytes_8, from_be_bytes-to_be_bytes_2, from_be_bytes-to_be_bytes_4, from_be_bytes-to_be_bytes_8}
use Rattle.coco_bytes.specs.declared.fault.FieldFault.{FieldFault}
use Rattle.coco_bytes.specs.declared.fault.FieldFault.TheVariants.{Short, Bad}
use Rattle.coco_bytes.specs.Fields.{Stands, AreBytes, u8_bytes, flag_bytes, u16_bytes, u32_bytes, u64_bytes, i64_bytes, bytes16}
use Rattle.coco_bytes.specs.Reads.{Agree, u8_at, flag_at, number_at, u16_at, u32_at, u64_at, i64_at, bytes16_at, text16_at}
use Rattle.coco_bytes.proofs.FieldLemmas.{bind_then, else_then, if_then, ok_then, Stands-then, Stands-first, Stands-second, Stands-fits, AreBytes-drop, AreBytes-take}

-- what is known of the bytes of a number of this width
record IsWide (w : Width) (limit : ℕ) : Type 0 where
  pub some : 0 < byte_len w
  pub len : (n : ℕ) → length (to_be_bytes w n) ≡ byte_len w
  pub front : (from : List ℕ) → byte_len w ≤ length from → AreBytes from → to_be_bytes w (from_be_bytes w from) ≡ take (byte_len w) from
  pub again : (n : ℕ) (rest : List ℕ) → n < limit → from_be_bytes w (to_be_bytes w n ++ rest) ≡ n
  pub below : (from : List ℕ) → AreBytes from → from_be_bytes w from < limit

wide16 : IsWide w16 (2 ^ 16)
wide16 = record {
  some = omega arith;
  len = λ n. refl;
  front = λ from long fits. be_bytes_2 (take 2 from) (from_be_bytes w16 from) (length-take-le 2 from long) (AreBytes-take 2 from fits) (rw (get_or-take 2 from 0 0 (omega arith), get_or-take 2 from 1 0 (omega arith)) refl);
  again = λ n rest lt. from_be_bytes-to_be_bytes_2 n lt;
  below = λ from fits. omega (arith, fits 0, fits 1);
}

wide32 : IsWide w32 (2 ^ 32)
wide32 = record {
  some = omega arith;
  len = λ n. refl;
  front = λ from long fits. be_bytes_4 (take 4 from) (from_be_bytes w32 from) (length-take-le 4 from long) (AreBytes-take 4 from fits) (rw (get_or-take 4 from 0 0 (omega arith), get_or-take 4 from 1 0 (omega arith), get_or-take 4 from 2 0 (omega arith), get_or-take 4 from 3 0 (omega arith)) refl);
  again = λ n rest lt. from_be_bytes-to_be_bytes_4 n lt;
  below = λ from fits. omega (arith, fits 0, fits 1, fits 2, fits 3);
}

wide64 : IsWide w64 (2 ^ 64)
wide64 = record {
  some = omega arith;
  len = λ n. refl;
  front = λ from long fits. be_bytes_8 (take 8 from) (from_be_bytes w64 from) (length-take-le 8 from long) (AreBytes-take 8 from fits) (rw (get_or-take 8 from 0 0 (omega arith), get_or-take 8 from 1 0 (omega arith), get_or-take 8 from 2 0 (omega arith), get_or-take 8 from 3 0 (omega arith), get_or-take 8 from 4 0 (omega arith), get_or-take 8 from 5 0 (omega arith), get_or-take 8 from 6 0 (omega arith), get_or-take 8 from 7 0 (omega arith)) refl);
  again = λ n rest lt. from_be_bytes-to_be_bytes_8 n lt;
  below = λ from fits. omega (arith, fits 0, fits 1, fits 2, fits 3, fits 4, fits 5, fits 6, fits 7);
}

number_found : (w : Width) (limit : ℕ) → IsWide w limit → (from : List ℕ) (at n end : ℕ) → AreBytes from → number_at w from at ≡ Ok (n, end) → (n < limit) × Stands from at (to_be_bytes w n) end
unfolding number_at
number_found w limit wide from at n end fits e =
    else_then (ltb (length from) (at + byte_len w)) (Short at) (Ok (from_be_bytes w (drop at from), at + byte_len w)) (n, end) e (λ short ok.
    let long : at + byte_len w ≤ length from = ltb-false _ _ short in
    let m : ℕ = from_be_bytes w (drop at from) in
    let front : to_be_bytes w m ≡ take (byte_len w) (drop at from) = wide.front (drop at from) (omega (arith, length-drop at from)) (AreBytes-drop at from fits) in
    let whole : drop at from ≡ to_be_bytes w m ++ drop (at + byte_len w) from = rw (front, ← drop-drop (byte_len w) at from) (sym (take-append-drop (byte_len w) (drop at from))) in
    ok_then FieldFault (λ (p : ℕ × ℕ). (p.0 < limit) × Stands from at (to_be_bytes w p.0) p.1) (m, at + byte_len w) (n, end) ok
    (wide.below (drop at from) (AreBytes-drop at from fits), record { here = whole; ends = omega (arith, wide.len m) }))

number_again : (w : Width) (limit : ℕ) → IsWide w limit → (from : List ℕ) (at n end : ℕ) → n < limit → Stands from at (to_be_bytes w n) end → number_at w from at ≡ Ok (n, end)
unfolding number_at
number_again w limit wide from at n end lt p =
    let long : ltb (length from) (at + byte_len w) ≡ false = le-ltb _ _ (omega (arith, wide.some, wide.len n, Stands-fits from at (to_be_bytes w n) end p)) in
    let end-is : at + byte_len w ≡ end = omega (arith, p.ends, wide.len n) in
    rw (long, p.here, wide.again n (drop end from) lt, end-is) refl

number_agrees : (w : Width) (limit : ℕ) → IsWide w limit → Agree (number_at w) (to_be_bytes w) (λ n. n < limit)
number_agrees w limit wide = record { found = number_found w limit wide; again = number_again w limit wide }

pub u16_agrees : Agree u16_at u16_bytes (λ n. n < 2 ^ 16)
u16_agrees = number_agrees w16 (2 ^ 16) wide16

pub u32_agrees : Agree u32_at u32_bytes (λ n. n < 2 ^ 32)
u32_agrees = number_agrees w32 (2 ^ 32) wide32

pub u64_agrees : Agree u64_at u64_bytes (λ n. n < 2 ^ 64)
u64_agrees = number_agrees w64 (2 ^ 64) wide64

u8_found : (from : List ℕ) (at n end : ℕ) → AreBytes from → u8_at from at ≡ Ok (n, end) → (n < 2 ^ 8) × Stands from at (u8_bytes n) end
unfolding u8_at
u8_found from at n end fits e =
    if_then (ltb at (length from)) (Short at) (Ok (get_or from at 0, at + 1)) (n, end) e (λ here ok.
    ok_then FieldFault (λ (p : ℕ × ℕ). (p.0 < 2 ^ 8) × Stands from at (u8_bytes p.0) p.1) (get_or from at 0, at + 1) (n, end) ok
    (fits at, record { here = drop_more from at 0 (ltb-true _ _ here); ends = omega arith }))

u8_again : (from : List ℕ) (at n end : ℕ) → n < 2 ^ 8 → Stands from at (u8_bytes n) end → u8_at from at ≡ Ok (n, end)
unfolding u8_at
u8_again from at n end lt p =
    let here : ltb at (length from) ≡ true = lt-ltb _ _ (omega (arith, Stands-fits from at (u8_bytes n) end p)) in
    let n-is : get_or from at 0 ≡ n = ap (λ (i : ℕ). get_or from i 0) (omega arith) ∙ sym (get_or-drop at from 0 0) ∙ ap (λ (xs : List ℕ). get_or xs 0 0) p.here in
    let end-is : at + 1 ≡ end = omega (arith, p.ends) in
    rw (here, n-is, end-is) refl

pub u8_agrees : Agree u8_at u8_bytes (λ n. n < 2 ^ 8)
u8_agrees = record { found = u8_found; again = u8_again }

one_of_two : (n : ℕ) → n < 2 → n ≡ cond (eqb n 1) 1 0
one_of_two zero h = refl
one_of_two (suc zero) h = refl
one_of_two (suc (suc n)) h = absurd (omega arith)

flag_found : (from : List ℕ) (at : ℕ) (flag : Bool) (end : ℕ) → AreBytes from → flag_at from at ≡ Ok (flag, end) → Unit {0} × Stands from at (flag_bytes flag) end
unfolding flag_at
flag_found from at flag end fits e =
    bind_then (u8_at from at) (λ (f : ℕ × ℕ). cond (ltb f.0 2) (Ok (eqb f.0 1, f.1)) (Err (Bad at))) (flag, end) e (λ f read test.
    if_then (ltb f.0 2) (Bad at) (Ok (eqb f.0 1, f.1)) (flag, end) test (λ small ok.
    let a = u8_agrees.found from at f.0 f.1 fits read in
    ok_then FieldFault (λ (q : Bool × ℕ). Unit {0} × Stands from at (flag_bytes q.0) q.1) (eqb f.0 1, f.1) (flag, end) ok
    (tt, subst (λ (n : ℕ). Stands from at (u8_bytes n) f.1) (one_of_two f.0 (ltb-true _ _ small)) a.1)))

flag_again : (from : List ℕ) (at : ℕ) (flag : Bool) (end : ℕ) → Unit {0} → Stands from at (flag_bytes flag) end → flag_at from at ≡ Ok (flag, end)
unfolding flag_at
flag_again from at true end fits p = rw (u8_agrees.again from at 1 end (omega arith) p) refl
flag_again from at false end fits p = rw (u8_agrees.again from at 0 end (omega arith) p) refl

pub flag_agrees : Agree flag_at flag_bytes (λ _. Unit {0})
flag_agrees = record { found = flag_found; again = flag_again }

i64_found : (from : List ℕ) (at : ℕ) (n : ℤ) (end : ℕ) → AreBytes from → i64_at from at ≡ Ok (n, end) → FitsSigned w64 n × Stands from at (i64_bytes n) end
unfolding i64_at
i64_found from at n end fits e =
    bind_then (u64_at from at) (λ (m : ℕ × ℕ). Ok (cast_signed w64 m.0, m.1)) (n, end) e (λ m read ok.
    let found = u64_agrees.found from at m.0 m.1 fits read in
    ok_then FieldFault (λ (p : ℤ × ℕ). FitsSigned w64 p.0 × Stands from at (i64_bytes p.0) p.1) (cast_signed w64 m.0, m.1) (n, end) ok
    (sfits_to_z (Fits-of_lt found.0), subst (λ (k : ℕ). Stands from at (to_be_bytes w64 k) m.1) (sym (of_z-to_z w64 m.0 found.0)) found.1))

i64_again : (from : List ℕ) (at : ℕ) (n : ℤ) (end : ℕ) → FitsSigned w64 n → Stands from at (i64_bytes n) end → i64_at from at ≡ Ok (n, end)
unfolding i64_at
i64_again from at n end fits p =
    rw (u64_agrees.again from at (cast_unsigned w64 n) end (Fits-lt-pow (Fits-of_z fits)) p, to_z-of_z w64 n fits) refl

pub i64_agrees : Agree i64_at i64_bytes (λ n. FitsSigned w64 n)
i64_agrees = record { found = i64_found; again = i64_again }

-- the next so many bytes stand there
pub taken : (from : List ℕ) (at n : ℕ) → n ≤ length from - at → Stands from at (take n (drop at from)) (at + n)
taken from at n long = record {
  here = rw (← drop-drop n at from) (sym (take-append-drop n (drop at from)));
  ends = omega (arith, length-take-le n (drop at from) (omega (arith, length-drop at from)));
}

-- a field that stands there is the slice
pub sliced : (from : List ℕ) (at : ℕ) (field : List ℕ) (end : ℕ) → Stands from at field end → slice_range from at end ≡ field
sliced from at field end p =
    let len : end - at ≡ length field = omega (arith, p.ends) in
    rw (len, p.here) (take_at field (drop end from) (length field) refl)

text16_found : (most : ℕ) → most < 2 ^ 16 → (from : List ℕ) (at : ℕ) (xs : List ℕ) (end : ℕ) → AreBytes from → text16_at most from at ≡ Ok (xs, end) → (length xs ≤ most) × Stands from at (bytes16 xs) end
unfolding text16_at bytes16_at
text16_found most small from at xs end fits e =
    bind_then (bytes16_at most from at) (λ (r : ℕ × ℕ). Ok (slice_range from r.0 r.1, r.1)) (xs, end) e (λ r read ok.
    bind_then (u16_at from at) (λ (n : ℕ × ℕ). cond (ltb most n.0) (Err (Bad at)) (cond (ltb (length from - n.1) n.0) (Err (Short at)) (Ok (n.1, n.1 + n.0)))) r read (λ n counted next.
    else_then (ltb most n.0) (Bad at) (cond (ltb (length from - n.1) n.0) (Err (Short at)) (Ok (n.1, n.1 + n.0))) r next (λ allowed inner.
    else_then (ltb (length from - n.1) n.0) (Short at) (Ok (n.1, n.1 + n.0)) r inner (λ long last.
    let first = u16_agrees.found from at n.0 n.1 fits counted in
    let second = taken from n.1 n.0 (ltb-false _ _ long) in
    let text = take n.0 (drop n.1 from) in
    let len : length text ≡ n.0 = omega (arith, second.ends) in
    let both : Stands from at (bytes16 text) (n.1 + n.0) = subst (λ (k : ℕ). Stands from at (u16_bytes k ++ text) (n.1 + n.0)) (sym len) (Stands-then from at (u16_bytes n.0) n.1 text (n.1 + n.0) first.1 second) in
    let sliced-is : slice_range from n.1 (n.1 + n.0) ≡ text = sliced from n.1 text (n.1 + n.0) second in
    let most-is : length text ≤ most = omega (arith, ltb-false most n.0 allowed) in
    let Q : ℕ × ℕ → Type 0 = λ p. (length (slice_range from p.0 p.1) ≤ most) × Stands from at (bytes16 (slice_range from p.0 p.1)) p.1 in
    let q : Q r = ok_then FieldFault Q (n.1, n.1 + n.0) r last (subst (λ (t : List ℕ). (length t ≤ most) × Stands from at (bytes16 t) (n.1 + n.0)) (sym sliced-is) (most-is, both)) in
    ok_then FieldFault (λ (p : List ℕ × ℕ). (length p.0 ≤ most) × Stands from at (bytes16 p.0) p.1) (slice_range from r.0 r.1, r.1) (xs, end) ok q))))

text16_again : (most : ℕ) → most < 2 ^ 16 → (from : List ℕ) (at : ℕ) (xs : List ℕ) (end : ℕ) → length xs ≤ most → Stands from at (bytes16 xs) end → text16_at most from at ≡ Ok (xs, end)
unfolding text16_at bytes16_at
text16_again most small from at xs end le p =
    let first = Stands-first from at (u16_bytes (length xs)) xs end p in
    let second = Stands-second from at (u16_bytes (length xs)) xs end p in
    let allowed : ltb most (length xs) ≡ false = le-ltb _ _ le in
    let long : ltb (length from - (at + 2)) (length xs) ≡ false = le-ltb _ _ (omega (arith, Stands-fits from (at + 2) xs end second)) in
    let end-is : (at + 2) + length xs ≡ end = omega (arith, second.ends) in
    let here : slice_range from (at + 2) end ≡ xs = sliced from (at + 2) xs end second in
    rw (u16_agrees.again from at (length xs) (at + 2) (omega arith) first, allowed, long, end-is, here) refl

pub text16_agrees : (most : ℕ) → most < 2 ^ 16 → Agree (text16_at most) bytes16 (λ xs. length xs ≤ most)
text16_agrees most small = record { found = text16_found most small; again = text16_again most small }
