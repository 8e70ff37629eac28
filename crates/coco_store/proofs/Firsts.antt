-- Where a file that goes on behind entries which keep their rules is refused first.
use Rattle.std.proofs.Common.{◌≡◌, ◌≢◌, ◌⊎◌, inl, inr, ℕ, ◌+◌, ◌<◌, ◌≤◌, List, [], ◌∷◌, ◌++◌, length, get_or, drop, map, refl, sym, ◌∙◌, ap, subst, arith, append_assoc, append-nil, length-append}
use Rattle.std.specs.Prelude.{Result, Ok, Err}
use Rattle.std.specs.List.{All, AllByRecursion, flat_map}
use Rattle.std.proofs.lemmas.List.{drop_more}
use Rattle.std.proofs.lemmas.List.Concat.{flat_map-append}
use Rattle.std.proofs.lemmas.List.Elements.{All-cons, All-head, All-nil, All-tail}
use Rattle.coco_bytes.specs.declared.fault.FieldFault.{FieldFault}
use Rattle.coco_bytes.specs.Fields.{u32_bytes}
use Rattle.coco_bytes.specs.Reads.{fault_place}
use Rattle.coco_entry.specs.Grammar.{IsFaultAt}
use Rattle.coco_log.specs.Grammar.{counted, entry, front, header, IsShort, IsNoHeader, FitsNoLog}
use Rattle.coco_log.proofs.OneLog.{behind_header, front_gate, has_header, one_place, peel}
use Rattle.coco_store.specs.Entries.{IsLogOf}
use Rattle.coco_store.specs.Refusals.{GoesOnWith, IsFirst, IsRefusedAt, no_log, no_entry, breaks, lacks, gate_behind}
use Rattle.coco_store.specs.Rules.{EachBehind}
use Rattle.coco_store.proofs.Growing.{each_at}
use Rattle.coco_store.proofs.Logs.{same_entries}

-- ---- two fronts of one file

-- one list goes on from the other, with what its bytes go on with
pub record GoesFurther (xs ys : List (List ℕ)) (r s : List ℕ) : Type 0 where
  pub more : List (List ℕ)
  pub is : ys ≡ xs ++ more
  pub bytes : r ≡ flat_map entry more ++ s

pub compare : (xs ys : List (List ℕ)) (r s : List ℕ) → All IsShort xs → All IsShort ys → flat_map entry xs ++ r ≡ flat_map entry ys ++ s → GoesFurther xs ys r s ⊎ GoesFurther ys xs s r
compare [] ys r s short also e = inl (record { more = ys; is = refl; bytes = e })
compare (x ∷ xs) [] r s short also e = inr (record { more = x ∷ xs; is = refl; bytes = sym e })
compare (x ∷ xs) (y ∷ ys) r s short also e =
    let two = peel x y (flat_map entry xs ++ r) (flat_map entry ys ++ s) (All-head IsShort x xs short) (All-head IsShort y ys also)
    (sym (append_assoc (entry x) (flat_map entry xs) r) ∙ e ∙ append_assoc (entry y) (flat_map entry ys) s) in
    elim (compare xs ys r s (All-tail IsShort x xs short) (All-tail IsShort y ys also) two.behind) [
      | inl f ↦ inl (record { more = f.more; is = ap (λ (z : List ℕ). z ∷ ys) (sym two.first) ∙ ap (λ (l : List (List ℕ)). x ∷ l) f.is; bytes = f.bytes })
      | inr f ↦ inr (record { more = f.more; is = ap (λ (z : List ℕ). z ∷ xs) two.first ∙ ap (λ (l : List (List ℕ)). y ∷ l) f.is; bytes = f.bytes })
    ]

split_all : (xs ys : List (List ℕ)) → All IsShort (xs ++ ys) → All IsShort xs × All IsShort ys
split_all [] ys all = (All-nil IsShort, all)
split_all (x ∷ xs) ys all =
    let rest = split_all xs ys (All-tail IsShort x (xs ++ ys) all) in
    (All-cons IsShort x xs (All-head IsShort x (xs ++ ys) all) rest.0, rest.1)

-- the first front ends within the second one, where an entry of the second begins
pub record EndsWithin (zs xs : List (List ℕ)) (t r : List ℕ) : Type 0 where
  pub next : List ℕ
  pub others : List (List ℕ)
  pub is : xs ≡ zs ++ next ∷ others
  pub short : IsShort next
  pub bytes : t ≡ entry next ++ (flat_map entry others ++ r)

-- how long the fronts are
longer : (kind : ℕ) (xs more : List (List ℕ)) → length (front kind xs) ≤ length (front kind (xs ++ more))
longer kind xs more =
    omega (arith, length-append (header kind) (flat_map entry xs), length-append (header kind) (flat_map entry (xs ++ more)), ap length (flat_map-append entry xs more), length-append (flat_map entry xs) (flat_map entry more))

pub front_longer : (kind : ℕ) (bodies : List (List ℕ)) → 8 ≤ length (front kind bodies)
front_longer kind bodies = omega (arith, length-append (header kind) (flat_map entry bodies))

pub front_long : (kind : ℕ) (bodies : List (List ℕ)) (body : List ℕ) → length (front kind (bodies ++ body ∷ [])) ≡ length (front kind bodies) + (5 + length body)
front_long kind bodies body =
    omega (
      arith,
      length-append (header kind) (flat_map entry (bodies ++ body ∷ [])),
      ap length (flat_map-append entry bodies (body ∷ [])),
      length-append (flat_map entry bodies) (flat_map entry (body ∷ [])),
      ap length (append-nil (entry body)),
      counted_long body,
      length-append (header kind) (flat_map entry bodies),
    )
  where
    counted_long : (body : List ℕ) → length (counted body) ≡ 4 + length body
    counted_long body = length-append (u32_bytes (length body)) body

-- the second front ends no later than the first, or the first within the second
pub later_or_within : (kind : ℕ) (file : List ℕ) (zs xs : List (List ℕ)) (t r : List ℕ) → All IsShort zs → All IsShort xs → file ≡ front kind zs ++ t → file ≡ front kind xs ++ r
    → (length (front kind xs) ≤ length (front kind zs)) ⊎ EndsWithin zs xs t r
later_or_within kind file zs xs t r short also one two =
    elim (compare zs xs t r short also (behind_header kind (flat_map entry zs ++ t) (flat_map entry xs ++ r)
    (sym (append_assoc (header kind) (flat_map entry zs) t) ∙ sym one ∙ two ∙ append_assoc (header kind) (flat_map entry xs) r))) [
      | inl f ↦ within f.more f.is f.bytes
      | inr f ↦ inl (subst (λ (l : List (List ℕ)). length (front kind xs) ≤ length (front kind l)) (sym f.is) (longer kind xs f.more))
    ]
  where
    within : (more : List (List ℕ)) → xs ≡ zs ++ more → t ≡ flat_map entry more ++ r → (length (front kind xs) ≤ length (front kind zs)) ⊎ EndsWithin zs xs t r
    within [] is bytes =
        let same : xs ≡ zs = is ∙ append-nil zs in
        let long : length (front kind xs) ≡ length (front kind zs) = ap (λ (l : List (List ℕ)). length (front kind l)) same in
        inl (omega (arith, long))
    within (m ∷ more) is bytes = inr (record {
      next = m;
      others = more;
      is = is;
      short = All-head IsShort m more (split_all zs (m ∷ more) (subst (λ (l : List (List ℕ)). All IsShort l) is also)).1;
      bytes = bytes ∙ append_assoc (entry m) (flat_map entry more) r;
    })

-- ---- lists

-- a last item stands behind the others, or is one of them
record IsAmong {A : Type 0} (xs ys : List A) (y : A) : Type 0 where
  others : List A
  is : xs ≡ ys ++ y ∷ others

record IsLast {A : Type 0} (xs ys : List A) (x y : A) : Type 0 where
  front : xs ≡ ys
  last : x ≡ y

module _ {A : Type 0} where
  not_empty : (ys : List A) (y : A) (zs : List A) → [] ≡ ys ++ y ∷ zs → ⊥
  not_empty [] y zs e = let no : [] ≡ y ∷ zs = e in cc
  not_empty (w ∷ ys) y zs e = let no : [] ≡ w ∷ (ys ++ y ∷ zs) = e in cc

  last_or_among : (xs ys zs : List A) (x y : A) → xs ++ x ∷ [] ≡ ys ++ y ∷ zs → IsLast xs ys x y ⊎ IsAmong xs ys y
  last_or_among [] [] zs x y e = let two : x ∷ [] ≡ y ∷ zs = e in let first : x ≡ y = cc in inl (record { front = refl; last = first })
  last_or_among [] (w ∷ ys) zs x y e =
      let two : x ∷ [] ≡ w ∷ (ys ++ y ∷ zs) = e in
      let rest : [] ≡ ys ++ y ∷ zs = cc in
      absurd (not_empty ys y zs rest)
  last_or_among (v ∷ xs) [] zs x y e =
      let two : v ∷ (xs ++ x ∷ []) ≡ y ∷ zs = e in
      let first : v ≡ y = cc in
      inr (record { others = xs; is = ap (λ (z : A). z ∷ xs) first })
  last_or_among (v ∷ xs) (w ∷ ys) zs x y e =
      let two : v ∷ (xs ++ x ∷ []) ≡ w ∷ (ys ++ y ∷ zs) = e in
      let first : v ≡ w = cc in
      let rest : xs ++ x ∷ [] ≡ ys ++ y ∷ zs = cc in
      elim (last_or_among xs ys zs x y rest) [
        | inl l ↦ inl (record { front = ap (λ (z : A). z ∷ xs) first ∙ ap (λ (k : List A). w ∷ k) l.front; last = l.last })
        | inr m ↦ inr (record { others = m.others; is = ap (λ (z : A). z ∷ xs) first ∙ ap (λ (k : List A). w ∷ k) m.is })
      ]

-- ---- refusals

-- the file goes on behind these entries, of which each keeps its rules
pub record BeginsWith {E : Type 0} (kind : ℕ) (bytes_of : E → List ℕ) (Is : E → Type 0) (Breaks : List E → E → ℕ → Type 0) (entries : List E) (file : List ℕ) : Type 0 where
  pub rest : List ℕ
  pub short : All IsShort (map bytes_of entries)
  pub are : AllByRecursion Is entries
  pub keep : EachBehind (λ before e. (at : ℕ) → Breaks before e at → ⊥) [] entries
  pub is : file ≡ front kind (map bytes_of entries) ++ rest
  pub gate : (gate_behind kind bytes_of entries ≡ 8) ⊎ (0 < length rest)

module _ {E : Type 0} (kind : ℕ) (bytes_of : E → List ℕ) (Is : E → Type 0) (read : List E → List ℕ → Result E FieldFault) (Breaks : List E → E → ℕ → Type 0) (Lacks : List E → Type 0)
    (reads : (before : List E) (e : E) → Is e → read before (bytes_of e) ≡ Ok e) where
  abbrev Keep : List E → Type 0
  Keep es = EachBehind (λ before e. (at : ℕ) → Breaks before e at → ⊥) [] es

  abbrev pub IsRefused : List ℕ → ℕ → Type 0
  IsRefused = IsRefusedAt kind bytes_of Is read Breaks Lacks

  pub one_entry : (x y : E) → Is x → Is y → bytes_of x ≡ bytes_of y → x ≡ y
  one_entry x y is also e =
      let same : ◌≡◌ {A = Result E FieldFault} (Ok x) (Ok y) = sym (reads [] x is) ∙ ap (read []) e ∙ reads [] y also in
      cc

  -- the entry of a body among others
  record HasEntry (es before : List E) (body : List ℕ) : Type 0 where
    one : E
    is-one : Is one
    bytes : body ≡ bytes_of one
    others : List E
    is : es ≡ before ++ one ∷ others

  entry_there : (es before : List E) (body : List ℕ) (others : List (List ℕ)) → AllByRecursion Is es → AllByRecursion Is before → map bytes_of es ≡ map bytes_of before ++ body ∷ others
      → HasEntry es before body
  entry_there [] before body others are also e = absurd (not_empty (map bytes_of before) body others e)
  entry_there (x ∷ es) [] body others are also e =
      let two : bytes_of x ∷ map bytes_of es ≡ body ∷ others = e in
      let first : bytes_of x ≡ body = cc in
      record { one = x; is-one = are.0; bytes = sym first; others = es; is = refl }
  entry_there (x ∷ es) (y ∷ before) body others are also e =
      let two : bytes_of x ∷ map bytes_of es ≡ bytes_of y ∷ (map bytes_of before ++ body ∷ others) = e in
      let first : bytes_of x ≡ bytes_of y = cc in
      let there : map bytes_of es ≡ map bytes_of before ++ body ∷ others = cc in
      let rest = entry_there es before body others are.1 also.1 there in
      record {
        one = rest.one;
        is-one = rest.is-one;
        bytes = rest.bytes;
        others = rest.others;
        is = ap (λ (z : E). z ∷ es) (one_entry x y are.0 also.0 first) ∙ ap (λ (l : List E). y ∷ l) rest.is;
      }

  -- such an entry is one, and keeps its rules
  not_bad : (before : List E) (body : List ℕ) (at : ℕ) (one : E) → Is one → body ≡ bytes_of one → IsFaultAt at (read before body) → ⊥
  not_bad before body at one is bytes fault =
      let two : ◌≡◌ {A = Result E FieldFault} (Ok one) (Err fault.0) = sym (reads before one is) ∙ ap (read before) (sym bytes) ∙ fault.1 in
      cc

  not_broken : (es before : List E) (e : E) (at : ℕ) → Keep es → Is e → HasEntry es before (bytes_of e) → Breaks before e at → ⊥
  not_broken es before e at keep is there broken =
      let same : there.one ≡ e = one_entry there.one e there.is-one is (sym there.bytes) in
      let kept : Keep (before ++ there.one ∷ there.others) = subst Keep there.is keep in
      (each_at (λ before e. (at : ℕ) → Breaks before e at → ⊥) [] before there.one there.others kept).0 at (subst (λ (x : E). Breaks before x at) (sym same) broken)

  some_gate : (l : List ℕ) → 0 < length l → l ≡ get_or l 0 0 ∷ drop 1 l
  some_gate l some = drop_more l 0 0 some

  -- an entry that is cut short doesn't end within others
  not_cut : (zs xs : List (List ℕ)) (behind r : List ℕ) → ((body rest : List ℕ) (gate : ℕ) → IsShort body → behind ≢ counted body ++ gate ∷ rest) → 0 < length r → EndsWithin zs xs (1 ∷ behind) r → ⊥
  not_cut zs xs behind r broken some w =
      let all : List ℕ = flat_map entry w.others ++ r in
      let long : 0 < length all = omega (arith, length-append (flat_map entry w.others) r) in
      broken w.next (drop 1 all) (get_or all 0 0) w.short (ap (λ (l : List ℕ). drop 1 l) w.bytes ∙ ap (λ (l : List ℕ). counted w.next ++ l) (some_gate all long))

  -- a gate that isn't open doesn't either
  not_shut : (zs xs : List (List ℕ)) (gate : ℕ) (behind r : List ℕ) → gate ≢ 1 → EndsWithin zs xs (gate ∷ behind) r → ⊥
  not_shut zs xs gate behind r shut w = shut (front_gate (gate ∷ behind) (entry w.next ++ (flat_map entry w.others ++ r)) w.bytes)

  -- an entry that does is one of them
  is_next : (zs xs : List (List ℕ)) (body : List ℕ) (gate : ℕ) (behind r : List ℕ) → IsShort body → EndsWithin zs xs (entry body ++ gate ∷ behind) r → (others : List (List ℕ)) × (xs ≡ zs ++ body ∷ others)
  is_next zs xs body gate behind r short w =
      let two = peel body w.next (gate ∷ behind) (flat_map entry w.others ++ r) short w.short w.bytes in
      (w.others, w.is ∙ ap (λ (b : List ℕ). zs ++ b ∷ w.others) (sym two.first))

  -- an entry's bytes behind a front
  behind_front : (bodies : List (List ℕ)) (body : List ℕ) (gate : ℕ) (behind file : List ℕ) → file ≡ front kind (bodies ++ body ∷ []) ++ gate ∷ behind → file ≡ front kind bodies ++ (entry body ++ gate ∷ behind)
  behind_front bodies body gate behind file is =
      is
      ∙ ap (λ (l : List ℕ). (header kind ++ l) ++ gate ∷ behind) (flat_map-append entry bodies (body ∷ []) ∙ ap (λ (l : List ℕ). flat_map entry bodies ++ l) (append-nil (entry body)))
      ∙ append_assoc (header kind) (flat_map entry bodies ++ entry body) (gate ∷ behind)
      ∙ ap (λ (l : List ℕ). header kind ++ l) (append_assoc (flat_map entry bodies) (entry body) (gate ∷ behind))
      ∙ sym (append_assoc (header kind) (flat_map entry bodies) (entry body ++ gate ∷ behind))

  short_front : (bodies : List (List ℕ)) (body : List ℕ) → All IsShort (bodies ++ body ∷ []) → All IsShort bodies × IsShort body
  short_front bodies body all = let two = split_all bodies (body ∷ []) all in (two.0, All-head IsShort body [] two.1)

  header_there : (bodies : List (List ℕ)) (rest file : List ℕ) (at : ℕ) → file ≡ front kind bodies ++ rest → IsNoHeader kind file at → ⊥
  header_there bodies rest file at is off = has_header kind file (flat_map entry bodies ++ rest) at (is ∙ append_assoc (header kind) (flat_map entry bodies) rest) off

  front_more : (zs xs : List (List ℕ)) (t r : List ℕ) → EndsWithin zs xs t r → 8 < length (front kind xs)
  front_more zs xs t r w =
      omega (
        arith,
        ap (λ (l : List (List ℕ)). length (front kind l)) w.is,
        length-append (header kind) (flat_map entry (zs ++ w.next ∷ w.others)),
        ap length (flat_map-append entry zs (w.next ∷ w.others)),
        length-append (flat_map entry zs) (flat_map entry (w.next ∷ w.others)),
        length-append (entry w.next) (flat_map entry w.others),
      )

  -- no refusal stands before the gate behind entries that keep their rules
  pub refused_later : (es : List E) (file : List ℕ) → BeginsWith kind bytes_of Is Breaks es file → (b : ℕ) → IsRefused file b → gate_behind kind bytes_of es ≤ b
  refused_later es file begins b (no_log (inl off)) = absurd (header_there (map bytes_of es) begins.rest file b begins.is off)
  refused_later es file begins b (no_log (inr (inl ends))) =
      omega (arith, ends.0, ap length ends.1, ap length begins.is, length-append (front kind (map bytes_of es)) begins.rest)
  refused_later es file begins b (no_log (inr (inr cut))) =
      elim (later_or_within kind file cut.bodies (map bytes_of es) (1 ∷ cut.behind) begins.rest cut.short begins.short cut.is begins.is) [
        | inl le ↦ omega (arith, le, cut.here)
        | inr w ↦ elim begins.gate [
          | inl eight ↦ absurd (omega (arith, eight, front_more cut.bodies (map bytes_of es) (1 ∷ cut.behind) begins.rest w))
          | inr some ↦ absurd (not_cut cut.bodies (map bytes_of es) cut.behind begins.rest cut.broken some w)
        ]
      ]
  refused_later es file begins b (no_entry {entries = before} {body = body} {at = at} next fault) =
      let two = short_front (map bytes_of before) body next.short in
      elim (later_or_within kind file (map bytes_of before) (map bytes_of es) (entry body ++ next.gate ∷ next.behind) begins.rest two.0 begins.short
      (behind_front (map bytes_of before) body next.gate next.behind file next.is) begins.is) [
        | inl le ↦ omega (arith, le)
        | inr w ↦
            let there = is_next (map bytes_of before) (map bytes_of es) body next.gate next.behind begins.rest two.1 w in
            let found = entry_there es before body there.0 begins.are next.are there.1 in
            absurd (not_bad before body at found.one found.is-one found.bytes fault)
      ]
  refused_later es file begins b (breaks {entries = before} {e = e} {at = at} next is broken) =
      let two = short_front (map bytes_of before) (bytes_of e) next.short in
      elim (later_or_within kind file (map bytes_of before) (map bytes_of es) (entry (bytes_of e) ++ next.gate ∷ next.behind) begins.rest two.0 begins.short
      (behind_front (map bytes_of before) (bytes_of e) next.gate next.behind file next.is) begins.is) [
        | inl le ↦ omega (arith, le)
        | inr w ↦
            let there = is_next (map bytes_of before) (map bytes_of es) (bytes_of e) next.gate next.behind begins.rest two.1 w in
            absurd (not_broken es before e at begins.keep is (entry_there es before (bytes_of e) there.0 begins.are next.are there.1) broken)
      ]
  refused_later es file begins b (lacks {entries = before} log lack) =
      elim (later_or_within kind file (map bytes_of before) (map bytes_of es) (log.log.gate ∷ log.log.behind) begins.rest log.log.short begins.short log.log.is begins.is) [
        | inl le ↦ le
        | inr w ↦ absurd (not_shut (map bytes_of before) (map bytes_of es) log.log.gate log.log.behind begins.rest log.log.shut w)
      ]

  -- where a body goes on behind them: it is refused at this place of it, or what is refused stands behind it
  pub data IsRefusedIn (es : List E) (body : List ℕ) (b : ℕ) : Type 0 where
    bad : {at : ℕ} → b ≡ gate_behind kind bytes_of es + (5 + at) → IsFaultAt at (read es body) → IsRefusedIn es body b
    broken_by : {at : ℕ} {e : E} → b ≡ gate_behind kind bytes_of es + (5 + at) → body ≡ bytes_of e → Is e → Breaks es e at → IsRefusedIn es body b
    later : gate_behind kind bytes_of es + (5 + length body) ≤ b → IsRefusedIn es body b

  module _ (es : List E) (body file : List ℕ) (next : GoesOnWith kind bytes_of Is es body file) (keep : Keep es) where
    abbrev All-of : List (List ℕ)
    All-of = map bytes_of es ++ body ∷ []

    far : (b : ℕ) → length (front kind All-of) ≤ b → IsRefusedIn es body b
    far b le = later (omega (arith, le, front_long kind (map bytes_of es) body))

    refused_in : (b : ℕ) → IsRefused file b → IsRefusedIn es body b
    refused_in b (no_log (inl off)) = absurd (header_there All-of (next.gate ∷ next.behind) file b next.is off)
    refused_in b (no_log (inr (inl ends))) =
        absurd (omega (arith, ap length ends.1, ap length next.is, length-append (front kind All-of) (next.gate ∷ next.behind), front_longer kind All-of))
    refused_in b (no_log (inr (inr cut))) =
        elim (later_or_within kind file cut.bodies All-of (1 ∷ cut.behind) (next.gate ∷ next.behind) cut.short next.short cut.is next.is) [
          | inl le ↦ far b (omega (arith, le, cut.here))
          | inr w ↦ absurd (not_cut cut.bodies All-of cut.behind (next.gate ∷ next.behind) cut.broken (omega arith) w)
        ]
    refused_in b (no_entry {entries = before} {body = other} {at = at} goes fault) =
        let two = short_front (map bytes_of before) other goes.short in
        elim (later_or_within kind file (map bytes_of before) All-of (entry other ++ goes.gate ∷ goes.behind) (next.gate ∷ next.behind) two.0 next.short
        (behind_front (map bytes_of before) other goes.gate goes.behind file goes.is) next.is) [
          | inl le ↦ far (gate_behind kind bytes_of before + (5 + at)) (omega (arith, le))
          | inr w ↦
              let there = is_next (map bytes_of before) All-of other goes.gate goes.behind (next.gate ∷ next.behind) two.1 w in
              elim (last_or_among (map bytes_of es) (map bytes_of before) there.0 body other there.1) [
                | inl l ↦
                    let same : es ≡ before = same_entries bytes_of Is one_entry es before next.are goes.are l.front in
                    bad {at = at} (ap (λ (k : List E). gate_behind kind bytes_of k + (5 + at)) (sym same)) (subst (λ (k : List ℕ). IsFaultAt at (read es k)) (sym l.last) (subst (λ (k : List E). IsFaultAt at (read k other)) (sym same) fault))
                | inr m ↦
                    let found = entry_there es before other m.others next.are goes.are m.is in
                    absurd (not_bad before other at found.one found.is-one found.bytes fault)
              ]
        ]
    refused_in b (breaks {entries = before} {e = e} {at = at} goes is broken) =
        let two = short_front (map bytes_of before) (bytes_of e) goes.short in
        elim (later_or_within kind file (map bytes_of before) All-of (entry (bytes_of e) ++ goes.gate ∷ goes.behind) (next.gate ∷ next.behind) two.0 next.short
        (behind_front (map bytes_of before) (bytes_of e) goes.gate goes.behind file goes.is) next.is) [
          | inl le ↦ far (gate_behind kind bytes_of before + (5 + at)) (omega (arith, le))
          | inr w ↦
              let there = is_next (map bytes_of before) All-of (bytes_of e) goes.gate goes.behind (next.gate ∷ next.behind) two.1 w in
              elim (last_or_among (map bytes_of es) (map bytes_of before) there.0 body (bytes_of e) there.1) [
                | inl l ↦
                    let same : es ≡ before = same_entries bytes_of Is one_entry es before next.are goes.are l.front in
                    broken_by {at = at} {e = e} (ap (λ (k : List E). gate_behind kind bytes_of k + (5 + at)) (sym same)) l.last is (subst (λ (k : List E). Breaks k e at) (sym same) broken)
                | inr m ↦ absurd (not_broken es before e at keep is (entry_there es before (bytes_of e) m.others next.are goes.are m.is) broken)
              ]
        ]
    refused_in b (lacks {entries = before} log lack) =
        elim (later_or_within kind file (map bytes_of before) All-of (log.log.gate ∷ log.log.behind) (next.gate ∷ next.behind) log.log.short next.short log.log.is next.is) [
          | inl le ↦ far (gate_behind kind bytes_of before) le
          | inr w ↦ absurd (not_shut (map bytes_of before) All-of log.log.gate log.log.behind (next.gate ∷ next.behind) log.log.shut w)
        ]

    -- a body that is no entry
    least_bad : (at b : ℕ) → IsFaultAt at (read es body) → at ≤ length body → IsRefusedIn es body b → gate_behind kind bytes_of es + (5 + at) ≤ b
    least_bad at b fault le (bad {at = other} is also) =
        let two : ◌≡◌ {A = Result E FieldFault} (Err fault.0) (Err also.0) = sym fault.1 ∙ also.1 in
        let same : fault.0 ≡ also.0 = cc in
        omega (arith, is, fault.2, also.2, ap fault_place same)
    least_bad at b fault le (broken_by {at = other} {e = e} is bytes one broken) = absurd (not_bad es body at e one bytes fault)
    least_bad at b fault le (later far) = omega (arith, far, le)

    pub first_bad : (at : ℕ) → IsFaultAt at (read es body) → at ≤ length body → IsFirst (IsRefused file) (gate_behind kind bytes_of es + (5 + at))
    first_bad at fault le = record { refused = no_entry {entries = es} {body = body} {at = at} next fault; least = λ b refused. least_bad at b fault le (refused_in b refused) }

  -- an entry that breaks a rule
  least_broken : (es : List E) (e : E) (at b : ℕ) → Is e → ((other : ℕ) → Breaks es e other → at ≤ other) → at ≤ length (bytes_of e) → IsRefusedIn es (bytes_of e) b → gate_behind kind bytes_of es + (5 + at) ≤ b
  least_broken es e at b is least le (bad {at = other} place fault) = absurd (not_bad es (bytes_of e) other e is refl fault)
  least_broken es e at b is least le (broken_by {at = other} {e = f} place bytes one broken) =
      let same : f ≡ e = one_entry f e one is (sym bytes) in
      let low : at ≤ other = least other (subst (λ (x : E). Breaks es x other) same broken) in
      omega (arith, place, low)
  least_broken es e at b is least le (later far) = omega (arith, far, le)

  pub first_broken : (es : List E) (e : E) (file : List ℕ) → GoesOnWith kind bytes_of Is es (bytes_of e) file → Keep es → Is e → (at : ℕ) → IsFirst (Breaks es e) at → at ≤ length (bytes_of e)
      → IsFirst (IsRefused file) (gate_behind kind bytes_of es + (5 + at))
  first_broken es e file next keep is at first le = record {
    refused = breaks {entries = es} {e = e} {at = at} next is first.refused;
    least = λ b refused. least_broken es e at b is first.least le (refused_in es (bytes_of e) file next keep b refused);
  }

  -- the gate behind them, where no entry goes on
  pub first_cut : (es : List E) (file : List ℕ) → BeginsWith kind bytes_of Is Breaks es file → FitsNoLog kind file (gate_behind kind bytes_of es) → IsFirst (IsRefused file) (gate_behind kind bytes_of es)
  first_cut es file begins fits = record { refused = no_log fits; least = refused_later es file begins }

  -- the last gate
  pub first_lack : (es : List E) (file : List ℕ) → IsLogOf kind bytes_of Is es file → Keep es → Lacks es → IsFirst (IsRefused file) (gate_behind kind bytes_of es)
  first_lack es file log keep lack = record {
    refused = lacks {entries = es} log lack;
    least = refused_later es file (record { rest = log.log.gate ∷ log.log.behind; short = log.log.short; are = log.are; keep = keep; is = log.log.is; gate = inr (omega arith) });
  }

  -- the header
  pub first_off : (file : List ℕ) (at : ℕ) → IsNoHeader kind file at → IsFirst (IsRefused file) at
  first_off file at off = record { refused = no_log (inl off); least = least_off }
    where
      least_off : (b : ℕ) → IsRefused file b → at ≤ b
      least_off b (no_log fits) = omega (arith, one_place kind file at b (inl off) fits)
      least_off b (no_entry {entries = before} {body = body} next fault) = absurd (header_there (map bytes_of before ++ body ∷ []) (next.gate ∷ next.behind) file at next.is off)
      least_off b (breaks {entries = before} {e = e} next is broken) = absurd (header_there (map bytes_of before ++ bytes_of e ∷ []) (next.gate ∷ next.behind) file at next.is off)
      least_off b (lacks {entries = before} log lack) = absurd (header_there (map bytes_of before) (log.log.gate ∷ log.log.behind) file at log.log.is off)
