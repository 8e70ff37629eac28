-- What is made of fields that read back reads back.
use Rattle.std.proofs.Common.{◌≡◌, ℕ, zero, suc, ◌+◌, ◌-◌, ◌^◌, ◌<◌, Bool, true, false, cond, ltb, eqb, ◌&&◌, List, [], ◌∷◌, ◌++◌, length, take, drop, Option, Some, None, Result, Ok, Err, refl, sym, ap, subst, arith}
use Rattle.std.specs.Prelude.{slice_range, IfOk}
use Rattle.std.specs.List.{flat_map}
use Rattle.std.proofs.lemmas.Bool.{ltb-false, le-ltb, eqb-true, eq-eqb}
use Rattle.std.proofs.lemmas.List.Concat.{flat_map-cons}
use Rattle.coco_bytes.specs.declared.fault.FieldFault.{FieldFault}
use Rattle.coco_bytes.specs.declared.fault.FieldFault.TheVariants.{Short, Bad}
use Rattle.coco_bytes.specs.Fields.{Stands, AreBytes, u8_bytes, u32_bytes}
use Rattle.coco_bytes.specs.Reads.{◌>>=◌, Agree, u8_at, u32_at}
use Rattle.coco_bytes.specs.Lists.{items_at, FitInTurn}
use Rattle.coco_bytes.proofs.FieldLemmas.{bind_then, else_then, if_then, ok_then, Stands-nil, Stands-all, Stands-then, Stands-first, Stands-second, Stands-whole, Stands-fits}
use Rattle.coco_bytes.proofs.NumberLemmas.{u8_agrees, u32_agrees, taken, sliced}
use Rattle.coco_entry.specs.declared.fault.EntryFault.{EntryFault}
use Rattle.coco_entry.specs.Grammar.{Answers, ReadsExactly, Reader, then_by, ◌▸◌, made, tested, listed, bytes32, bytes32_at, tag_at, whole, tagged}

-- the same reader, for bytes and fitting values that are said in other words
pub agree_so : {A : Type 0} {read : Reader A} {bytes other : A → List ℕ} {Fits Others : A → Type 0} → Agree read bytes Fits
    → ((x : A) → bytes x ≡ other x) → ((x : A) → Fits x → Others x) → ((x : A) → Others x → Fits x) → Agree read other Others
agree_so {A} {read} {bytes} {other} {Fits} {Others} agrees same to from_it = record {
  found = λ from at x end fits e. let a = agrees.found from at x end fits e in (to x a.0, subst (λ (b : List ℕ). Stands from at b end) (same x) a.1);
  again = λ from at x end fits p. agrees.again from at x end (from_it x fits) (subst (λ (b : List ℕ). Stands from at b end) (sym (same x)) p);
}

pub both_true : (a b : Bool) → (a && b) ≡ true → (a ≡ true) × (b ≡ true)
both_true true b e = (refl, e)
both_true false b e = absurd cc

-- ---- one behind another

both_found : {A B : Type 0} (first : Reader A) (second : A → Reader B) (a_bytes : A → List ℕ) (b_bytes : A → B → List ℕ) (FitsA : A → Type 0) (FitsB : A → B → Type 0)
    → Agree first a_bytes FitsA → ((a : A) → FitsA a → Agree (second a) (b_bytes a) (FitsB a))
    → (from : List ℕ) (at : ℕ) (x : A × B) (end : ℕ) → AreBytes from → then_by first second from at ≡ Ok (x, end) → (FitsA x.0 × FitsB x.0 x.1) × Stands from at (a_bytes x.0 ++ b_bytes x.0 x.1) end
both_found {A} {B} first second a_bytes b_bytes FitsA FitsB one two from at x end fits e =
    bind_then (first from at) (λ (a : A × ℕ). second a.0 from a.1 >>= λ (b : B × ℕ). Ok ((a.0, b.0), b.1)) (x, end) e (λ a r1 next.
    bind_then (second a.0 from a.1) (λ (b : B × ℕ). Ok ((a.0, b.0), b.1)) (x, end) next (λ b r2 ok.
    let p = one.found from at a.0 a.1 fits r1 in
    let q = (two a.0 p.0).found from a.1 b.0 b.1 fits r2 in
    ok_then FieldFault (λ (y : (A × B) × ℕ). (FitsA y.0.0 × FitsB y.0.0 y.0.1) × Stands from at (a_bytes y.0.0 ++ b_bytes y.0.0 y.0.1) y.1) ((a.0, b.0), b.1) (x, end) ok
    ((p.0, q.0), Stands-then from at (a_bytes a.0) a.1 (b_bytes a.0 b.0) b.1 p.1 q.1)))

both_again : {A B : Type 0} (first : Reader A) (second : A → Reader B) (a_bytes : A → List ℕ) (b_bytes : A → B → List ℕ) (FitsA : A → Type 0) (FitsB : A → B → Type 0)
    → Agree first a_bytes FitsA → ((a : A) → FitsA a → Agree (second a) (b_bytes a) (FitsB a))
    → (from : List ℕ) (at : ℕ) (x : A × B) (end : ℕ) → FitsA x.0 × FitsB x.0 x.1 → Stands from at (a_bytes x.0 ++ b_bytes x.0 x.1) end → then_by first second from at ≡ Ok (x, end)
both_again first second a_bytes b_bytes FitsA FitsB one two from at x end fits p =
    let mid = at + length (a_bytes x.0) in
    let r1 = one.again from at x.0 mid fits.0 (Stands-first from at (a_bytes x.0) (b_bytes x.0 x.1) end p) in
    let r2 = (two x.0 fits.0).again from mid x.1 end fits.1 (Stands-second from at (a_bytes x.0) (b_bytes x.0 x.1) end p) in
    rw (r1, r2) refl

-- a field, and one that may depend on it
pub then_agrees : {A B : Type 0} (first : Reader A) (second : A → Reader B) (a_bytes : A → List ℕ) (b_bytes : A → B → List ℕ) (FitsA : A → Type 0) (FitsB : A → B → Type 0)
    → Agree first a_bytes FitsA → ((a : A) → FitsA a → Agree (second a) (b_bytes a) (FitsB a))
    → Agree (then_by first second) (λ x. a_bytes x.0 ++ b_bytes x.0 x.1) (λ x. FitsA x.0 × FitsB x.0 x.1)
then_agrees first second a_bytes b_bytes FitsA FitsB one two = record {
  found = both_found first second a_bytes b_bytes FitsA FitsB one two;
  again = both_again first second a_bytes b_bytes FitsA FitsB one two;
}

-- two fields
pub pair_agrees : {A B : Type 0} {first : Reader A} {second : Reader B} {a_bytes : A → List ℕ} {b_bytes : B → List ℕ} {FitsA : A → Type 0} {FitsB : B → Type 0}
    → Agree first a_bytes FitsA → Agree second b_bytes FitsB → Agree (first ▸ second) (λ x. a_bytes x.0 ++ b_bytes x.1) (λ x. FitsA x.0 × FitsB x.1)
pair_agrees {A} {B} {first} {second} {a_bytes} {b_bytes} {FitsA} {FitsB} one two =
    then_agrees first (λ _. second) a_bytes (λ _. b_bytes) FitsA (λ _. FitsB) one (λ _ _. two)

-- what is made of a field, and gives it back
pub made_agrees : {A B : Type 0} (make : A → B) (parts : B → A) (read : Reader A) (bytes : A → List ℕ) (Fits : A → Type 0) → Agree read bytes Fits
    → ((b : B) → Fits (parts b) → make (parts b) ≡ b) → ((a : A) → Fits a → parts (make a) ≡ a)
    → Agree (made make read) (λ b. bytes (parts b)) (λ b. Fits (parts b))
made_agrees {A} {B} make parts read bytes Fits agrees there back = record {
  found = λ from at b end fits e.
      bind_then (read from at) (λ (a : A × ℕ). Ok (make a.0, a.1)) (b, end) e (λ a r ok.
      let p = agrees.found from at a.0 a.1 fits r in
      ok_then FieldFault (λ (y : B × ℕ). Fits (parts y.0) × Stands from at (bytes (parts y.0)) y.1) (make a.0, a.1) (b, end) ok
      (subst (λ (z : A). Fits z × Stands from at (bytes z) a.1) (sym (back a.0 p.0)) p));
  again = λ from at b end fits p. rw (agrees.again from at (parts b) end fits p, there b fits) refl;
}

-- a field that passes a test
pub tested_agrees : {A : Type 0} (passes : A → Bool) (Passes : A → Type 0) (read : Reader A) (bytes : A → List ℕ) (Fits : A → Type 0) → Agree read bytes Fits
    → ((a : A) → passes a ≡ true → Passes a) → ((a : A) → Passes a → passes a ≡ true)
    → Agree (tested passes read) bytes (λ a. Fits a × Passes a)
tested_agrees {A} passes Passes read bytes Fits agrees it_passes passes_it = record {
  found = λ from at x end fits e.
      bind_then (read from at) (λ (a : A × ℕ). cond (passes a.0) (Ok a) (Err (Bad at))) (x, end) e (λ a r test.
      if_then (passes a.0) (Bad at) (Ok a) (x, end) test (λ good ok.
      let p = agrees.found from at a.0 a.1 fits r in
      ok_then FieldFault (λ (y : A × ℕ). (Fits y.0 × Passes y.0) × Stands from at (bytes y.0) y.1) a (x, end) ok ((p.0, it_passes a.0 good), p.1)));
  again = λ from at x end fits p. rw (agrees.again from at x end fits.0 p, passes_it x fits.1) refl;
}

-- ---- lists

abbrev AreItemsOf : {A : Type 0} → (Option A → A → Type 0) → Option A → ℕ → List A → Type 0
AreItemsOf Fits before n xs = (length xs ≡ n) × FitInTurn Fits before xs

items_found : {A : Type 0} (item : Option A → Reader A) (bytes : A → List ℕ) (Fits : Option A → A → Type 0) → ((before : Option A) → Agree (item before) bytes (Fits before))
    → (before : Option A) (n : ℕ) (from : List ℕ) (at : ℕ) (x : List A × ℕ) → AreBytes from → items_at item before n from at ≡ Ok x → AreItemsOf Fits before n x.0 × Stands from at (flat_map bytes x.0) x.1
unfolding items_at
items_found item bytes Fits agrees before zero from at x fits e =
    ok_then FieldFault (λ (y : List _ × ℕ). AreItemsOf Fits before 0 y.0 × Stands from at (flat_map bytes y.0) y.1) ([], at) x e ((refl, tt), Stands-nil from at)
items_found {A} item bytes Fits agrees before (suc n) from at x fits e =
    bind_then (item before from at) (λ (first : A × ℕ). items_at item (Some first.0) n from first.1 >>= λ (others : List A × ℕ). Ok (first.0 ∷ others.0, others.1)) x e (λ first one next.
    bind_then (items_at item (Some first.0) n from first.1) (λ (others : List A × ℕ). Ok (first.0 ∷ others.0, others.1)) x next (λ others more ok.
    let a = (agrees before).found from at first.0 first.1 fits one in
    let b = items_found item bytes Fits agrees (Some first.0) n from first.1 others fits more in
    ok_then FieldFault (λ (y : List A × ℕ). AreItemsOf Fits before (suc n) y.0 × Stands from at (flat_map bytes y.0) y.1) (first.0 ∷ others.0, others.1) x ok
    ((ap suc b.0.0, (a.0, b.0.1)), rw flat_map-cons (Stands-then from at (bytes first.0) first.1 (flat_map bytes others.0) others.1 a.1 b.1))))

items_again : {A : Type 0} (item : Option A → Reader A) (bytes : A → List ℕ) (Fits : Option A → A → Type 0) → ((before : Option A) → Agree (item before) bytes (Fits before))
    → (before : Option A) (from : List ℕ) (at : ℕ) (xs : List A) (end : ℕ) → FitInTurn Fits before xs → Stands from at (flat_map bytes xs) end → items_at item before (length xs) from at ≡ Ok (xs, end)
unfolding items_at
items_again item bytes Fits agrees before from at [] end fits p = let here : at ≡ end = omega (arith, p.ends) in rw here refl
items_again item bytes Fits agrees before from at (x ∷ xs) end fits p =
    let q : Stands from at (bytes x ++ flat_map bytes xs) end = rw flat_map-cons at p in
    let one = (agrees before).again from at x (at + length (bytes x)) fits.0 (Stands-first from at (bytes x) (flat_map bytes xs) end q) in
    let more = items_again item bytes Fits agrees (Some x) from (at + length (bytes x)) xs end fits.1 (Stands-second from at (bytes x) (flat_map bytes xs) end q) in
    rw (one, more) refl

items_agree : {A : Type 0} (item : Option A → Reader A) (bytes : A → List ℕ) (Fits : Option A → A → Type 0) → ((before : Option A) → Agree (item before) bytes (Fits before))
    → (n : ℕ) → Agree (items_at item None n) (flat_map bytes) (AreItemsOf Fits None n)
items_agree item bytes Fits agrees n = record {
  found = λ from at x end fits e. items_found item bytes Fits agrees None n from at (x, end) fits e;
  again = λ from at x end fits p. subst (λ (k : ℕ). items_at item None k from at ≡ Ok (x, end)) fits.0 (items_again item bytes Fits agrees None from at x end fits.1 p);
}

-- items behind their number
pub listed_agrees : {A : Type 0} (count : Reader ℕ) (count_bytes : ℕ → List ℕ) (IsCount : ℕ → Type 0) (item : Option A → Reader A) (bytes : A → List ℕ) (Fits : Option A → A → Type 0)
    → Agree count count_bytes IsCount → ((before : Option A) → Agree (item before) bytes (Fits before))
    → Agree (listed count item) (λ xs. count_bytes (length xs) ++ flat_map bytes xs) (λ xs. IsCount (length xs) × FitInTurn Fits None xs)
listed_agrees {A} count count_bytes IsCount item bytes Fits counts agrees = record {
  found = λ from at xs end fits e.
      bind_then (count from at) (λ (n : ℕ × ℕ). items_at item None n.0 from n.1) (xs, end) e (λ n r next.
      let a = counts.found from at n.0 n.1 fits r in
      let b = (items_agree item bytes Fits agrees n.0).found from n.1 xs end fits next in
      let first : IsCount (length xs) × Stands from at (count_bytes (length xs)) n.1 = subst (λ (k : ℕ). IsCount k × Stands from at (count_bytes k) n.1) (sym b.0.0) a in
      ((first.0, b.0.1), Stands-then from at (count_bytes (length xs)) n.1 (flat_map bytes xs) end first.1 b.1));
  again = λ from at xs end fits p.
      let mid = at + length (count_bytes (length xs)) in
      let one = counts.again from at (length xs) mid fits.0 (Stands-first from at (count_bytes (length xs)) (flat_map bytes xs) end p) in
      let more = (items_agree item bytes Fits agrees (length xs)).again from mid xs end (refl, fits.1) (Stands-second from at (count_bytes (length xs)) (flat_map bytes xs) end p) in
      rw (one, more) refl;
}

-- ---- bytes behind their length

bytes32_found : (from : List ℕ) (at : ℕ) (xs : List ℕ) (end : ℕ) → AreBytes from → bytes32_at from at ≡ Ok (xs, end) → (length xs < 2 ^ 32) × Stands from at (bytes32 xs) end
unfolding bytes32_at
bytes32_found from at xs end fits e =
    let made : ℕ × ℕ → List ℕ × ℕ = λ n. (slice_range from n.1 (n.1 + n.0), n.1 + n.0) in
    bind_then (u32_at from at) (λ (n : ℕ × ℕ). cond (ltb (length from - n.1) n.0) (Err (Short at)) (Ok (made n))) (xs, end) e (λ n counted test.
    else_then (ltb (length from - n.1) n.0) (Short at) (Ok (made n)) (xs, end) test (λ long ok.
    let first = u32_agrees.found from at n.0 n.1 fits counted in
    let second = taken from n.1 n.0 (ltb-false _ _ long) in
    let text = take n.0 (drop n.1 from) in
    let len : length text ≡ n.0 = omega (arith, second.ends) in
    let both : Stands from at (bytes32 text) (n.1 + n.0) = subst (λ (k : ℕ). Stands from at (u32_bytes k ++ text) (n.1 + n.0)) (sym len) (Stands-then from at (u32_bytes n.0) n.1 text (n.1 + n.0) first.1 second) in
    let is : slice_range from n.1 (n.1 + n.0) ≡ text = sliced from n.1 text (n.1 + n.0) second in
    let below : length text < 2 ^ 32 = omega (arith, first.0) in
    ok_then FieldFault (λ (p : List ℕ × ℕ). (length p.0 < 2 ^ 32) × Stands from at (bytes32 p.0) p.1) (made n) (xs, end) ok
    (subst (λ (t : List ℕ). (length t < 2 ^ 32) × Stands from at (bytes32 t) (n.1 + n.0)) (sym is) (below, both))))

bytes32_again : (from : List ℕ) (at : ℕ) (xs : List ℕ) (end : ℕ) → length xs < 2 ^ 32 → Stands from at (bytes32 xs) end → bytes32_at from at ≡ Ok (xs, end)
unfolding bytes32_at
bytes32_again from at xs end below p =
    let first = Stands-first from at (u32_bytes (length xs)) xs end p in
    let second = Stands-second from at (u32_bytes (length xs)) xs end p in
    let long : ltb (length from - (at + 4)) (length xs) ≡ false = le-ltb _ _ (omega (arith, Stands-fits from (at + 4) xs end second)) in
    let end-is : (at + 4) + length xs ≡ end = omega (arith, second.ends) in
    let here : slice_range from (at + 4) end ≡ xs = sliced from (at + 4) xs end second in
    rw (u32_agrees.again from at (length xs) (at + 4) below first, long, end-is, here) refl

pub bytes32_agrees : Agree bytes32_at bytes32 (λ xs. length xs < 2 ^ 32)
bytes32_agrees = record { found = bytes32_found; again = bytes32_again }

-- ---- whole entries

tag_agrees : (tag : ℕ) → Agree (tag_at tag) u8_bytes (λ t. (t < 2 ^ 8) × (t ≡ tag))
unfolding tag_at
tag_agrees tag = tested_agrees (λ t. eqb t tag) (λ t. t ≡ tag) u8_at u8_bytes (λ t. t < 2 ^ 8) u8_agrees (λ t e. eqb-true t tag e) (λ t e. eq-eqb t tag e)

-- what is read is an entry, and the bytes are its tag and its fields
pub entry_found : {A : Type 0} (tag : ℕ) (fields : Reader A) (bytes : A → List ℕ) (Fits : A → Type 0) → Agree fields bytes Fits
    → (from : List ℕ) (x : A) → AreBytes from → tagged tag fields from ≡ Ok x → Fits x × (from ≡ tag ∷ bytes x)
unfolding tagged whole
entry_found {A} tag fields bytes Fits agrees from x fits e =
    bind_then (tag_at tag from 0) (λ (t : ℕ × ℕ). fields from t.1 >>= λ (p : A × ℕ). cond (eqb (length from) p.1) (Ok p.0) (Err (Bad p.1))) x e (λ t read next.
    bind_then (fields from t.1) (λ (p : A × ℕ). cond (eqb (length from) p.1) (Ok p.0) (Err (Bad p.1))) x next (λ p more test.
    if_then (eqb (length from) p.1) (Bad p.1) (Ok p.0) x test (λ all ok.
    let a = (tag_agrees tag).found from 0 t.0 t.1 fits read in
    let b = agrees.found from t.1 p.0 p.1 fits more in
    let front : Stands from 0 (u8_bytes tag) t.1 = subst (λ (k : ℕ). Stands from 0 (u8_bytes k) t.1) a.0.1 a.1 in
    let total = Stands-then from 0 (u8_bytes tag) t.1 (bytes p.0) p.1 front b.1 in
    let to_end : Stands from 0 (tag ∷ bytes p.0) (length from) = subst (λ (k : ℕ). Stands from 0 (tag ∷ bytes p.0) k) (sym (eqb-true (length from) p.1 all)) total in
    ok_then FieldFault (λ (y : A). Fits y × (from ≡ tag ∷ bytes y)) p.0 x ok (b.0, Stands-whole from (tag ∷ bytes p.0) to_end))))

-- the tag and the fields of an entry are read
pub entry_again : {A : Type 0} (tag : ℕ) (fields : Reader A) (bytes : A → List ℕ) (Fits : A → Type 0) → Agree fields bytes Fits
    → (from : List ℕ) (x : A) → tag < 2 ^ 8 → Fits x → from ≡ tag ∷ bytes x → tagged tag fields from ≡ Ok x
unfolding tagged whole
entry_again tag fields bytes Fits agrees from x small fits same =
    let all = Stands-all from (u8_bytes tag ++ bytes x) same in
    let e1 = (tag_agrees tag).again from 0 tag 1 (small, refl) (Stands-first from 0 (u8_bytes tag) (bytes x) (length from) all) in
    let e2 = agrees.again from 1 x (length from) fits (Stands-second from 0 (u8_bytes tag) (bytes x) (length from) all) in
    rw (e1, e2, eq-eqb (length from) (length from) refl) refl

-- a body that is read from its tag to its end is read exactly
pub reads_exactly : {A : Type 0} (tag : ℕ) {fields : Reader A} {bytes : A → List ℕ} {Fits : A → Type 0} → Agree fields bytes Fits → tag < 2 ^ 8
    → (body : List ℕ) (result : Result A EntryFault) → AreBytes body → Answers result (tagged tag fields body) → ReadsExactly body result (tagged tag fields body) (λ x. tag ∷ bytes x) Fits
reads_exactly {A} tag {fields} {bytes} {Fits} agrees small body result fits given = record {
  found = is_found result given;
  only = λ x is same. let back = entry_again tag fields bytes Fits agrees body x small is same in subst (λ (r : Result A FieldFault). Answers result r) back given;
  read = given;
}
  where
    is_found : (r : Result A EntryFault) → Answers r (tagged tag fields body) → IfOk r (λ x. Fits x × (body ≡ tag ∷ bytes x))
    is_found (Ok x) h = entry_found tag fields bytes Fits agrees body x fits h
    is_found (Err e) h = tt
