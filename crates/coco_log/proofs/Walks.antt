-- What a piece of a log's file says of the file, and how its entries follow one another.
use Rattle.std.proofs.Common.{◌≡◌, ◌≢◌, ◌⊎◌, inl, inr, ℕ, zero, suc, ◌+◌, ◌-◌, ◌<◌, ◌≤◌, ◌^◌, min, ltb, List, [], ◌∷◌, ◌++◌, length, get_or, take, drop, Ok, Err, refl, sym, ◌∙◌, ap, subst, arith, append_assoc, length-append, length-drop, length-take-le, take-append-drop, take-take}
use Rattle.std.specs.Prelude.{slice_range}
use Rattle.std.proofs.lemmas.Bool.{cases_lt, ltb-true}
use Rattle.std.proofs.lemmas.List.{length-take, take_all, drop_at, drop_more, drop-take, drop-drop, nil_from_length}
use Rattle.std.proofs.lemmas.List.Elements.{All-nil, All-push}
use Rattle.std.specs.List.{flat_map}
use Rattle.coco_bytes.specs.declared.fault.FieldFault.{FieldFault}
use Rattle.coco_bytes.specs.declared.fault.FieldFault.TheVariants.{Short as TooShort}
use Rattle.coco_bytes.specs.Fields.{u32_bytes, AreBytes}
use Rattle.coco_bytes.specs.Reads.{u32_at, number_at}
use Rattle.coco_bytes.proofs.FieldLemmas.{ok_then, pick, Stands-append}
use Rattle.coco_bytes.proofs.NumberLemmas.{u32_agrees}
use Rattle.std.specs.Prelude.{Result}
use Rattle.coco_log.specs.declared.fault.LogFault.{LogFault}
use Rattle.coco_log.specs.declared.fault.LogFault.TheVariants.{Disk, NoMemory, NotALog, TooLong}
use Rattle.coco_log.specs.declared.gates.Head.{Head}
use Rattle.coco_log.specs.declared.gates.Head.TheVariants.{End, Closed, Short, Open}
use Rattle.coco_log.specs.Grammar.{most_entry_bytes, header, counted, entry, front, IsShort, IsNoHeader, IsLog, FitsNoLog}
use Rattle.coco_log.specs.Gates.{IsPart, IsShut, IsHead, IsEntry, IsBroken}
use Rattle.coco_log.specs.LogState.{places_from}
use Rattle.coco_log.specs.Reading.{IsWalked}
use Rattle.coco_log.proofs.Steps.{front-push}
use Rattle.coco_log.proofs.Appends.{places_more}

-- what was read, from a place within it on
pub part_from : (from count skip : ℕ) (bytes file : List ℕ) → IsPart from count bytes file → skip ≤ count → slice_range bytes skip count ≡ take (count - skip) (drop (from + skip) file)
part_from from count skip bytes file part le =
    let more : skip + (count - skip) ≡ count = omega (arith, le) in
    sym (drop-take skip (count - skip) bytes)
    ∙ ap (λ (n : ℕ). drop skip (take n bytes)) more
    ∙ ap (λ (l : List ℕ). drop skip l) part
    ∙ ap (λ (n : ℕ). drop skip (take n (drop from file))) (sym more)
    ∙ drop-take skip (count - skip) (drop from file)
    ∙ ap (λ (l : List ℕ). take (count - skip) l) (drop-drop skip from file)

-- what a front with a gate and a length, or all that there is, shows
pub head_of_all : (whole : List ℕ) (k : ℕ) (head : Head) → (5 ≤ k) ⊎ (length whole ≤ k) → IsHead (take k whole) head → IsHead whole head
head_of_all whole k head (inr all) h = subst (λ (l : List ℕ). IsHead l head) (take_all k whole all) h
head_of_all whole k End (inl five) h = nil_from_length whole (omega (arith, five, ap length h, length-take k whole))
head_of_all whole k Closed (inl five) h = record {
  gate = h.gate;
  rest = h.rest ++ drop k whole;
  shut = h.shut;
  is = sym (take-append-drop k whole) ∙ ap (λ (l : List ℕ). l ++ drop k whole) h.is;
}
head_of_all whole k Short (inl five) h =
    let all : length whole ≤ k = omega (arith, five, ap length h.1, h.2, length-take k whole) in
    subst (λ (l : List ℕ). IsHead l Short) (take_all k whole all) h
head_of_all whole k (Open n) (inl five) h =
    (h.0 ++ drop k whole, h.1, sym (take-append-drop k whole) ∙ ap (λ (l : List ℕ). l ++ drop k whole) h.2 ∙ ap (λ (l : List ℕ). 1 ∷ l) (append_assoc (u32_bytes n) h.0 (drop k whole)))

-- the bytes behind an open gate are a length, or too few for one
pub head_open : (from : List ℕ) (n end : ℕ) → AreBytes from → 0 < length from → get_or from 0 0 ≡ 1 → u32_at from 1 ≡ Ok (n, end) → IsHead from (Open n)
head_open from n end fits some one read =
    let found = u32_agrees.found from 1 n end fits read in
    (drop end from, found.0, drop_more from 0 0 some ∙ ap (λ (g : ℕ). g ∷ drop 1 from) one ∙ ap (λ (l : List ℕ). 1 ∷ l) found.1.here)

pub head_short : (from : List ℕ) (fault : FieldFault) → 0 < length from → get_or from 0 0 ≡ 1 → u32_at from 1 ≡ Err fault → IsHead from Short
unfolding number_at
head_short from fault some one read =
    pick (ltb (length from) 5) (Err (TooShort 1)) _ (Err fault) read
    (λ less is. (drop 1 from, drop_more from 0 0 some ∙ ap (λ (g : ℕ). g ∷ drop 1 from) one, omega (arith, ltb-true _ _ less, some, length-drop 1 from)))
    (λ less is. absurd cc)

-- two lengths that the same bytes begin with are one
pub u32_one : (a b : ℕ) (x y : List ℕ) → a < 2 ^ 32 → b < 2 ^ 32 → u32_bytes a ++ x ≡ u32_bytes b ++ y → a ≡ b
u32_one a b x y fits also e =
    let first : u32_at (u32_bytes a ++ x) 0 ≡ Ok (a, 4) = u32_agrees.again (u32_bytes a ++ x) 0 a 4 fits (Stands-append [] (u32_bytes a) x) in
    let second : u32_at (u32_bytes b ++ y) 0 ≡ Ok (b, 4) = u32_agrees.again (u32_bytes b ++ y) 0 b 4 also (Stands-append [] (u32_bytes b) y) in
    ok_then FieldFault (λ (p : ℕ × ℕ). a ≡ p.0) (a, 4) (b, 4) (sym first ∙ ap (λ (l : List ℕ). u32_at l 0) e ∙ second) refl

long_counted : (body : List ℕ) → length (counted body) ≡ 4 + length body
long_counted body = length-append (u32_bytes (length body)) body

-- an open gate with a length that fits is an entry
pub entry_here : (file : List ℕ) (at n : ℕ) → IsHead (drop at file) (Open n) → n ≤ most_entry_bytes → n + 5 < length file - at → IsEntry (drop at file) (n + 5)
entry_here file at n h short room =
    let long : n + 1 ≤ length h.0 = omega (arith, room, ap length h.2, length-drop at file, length-append (u32_bytes n) h.0) in
    let len : length (take n h.0) ≡ n = length-take-le n h.0 (omega (arith, long)) in
    let next : drop n h.0 ≡ get_or h.0 n 0 ∷ drop (n + 1) h.0 = drop_more h.0 n 0 (omega (arith, long)) in
    record {
      body = take n h.0;
      gate = get_or h.0 n 0;
      rest = drop (n + 1) h.0;
      short = subst (λ (k : ℕ). k ≤ most_entry_bytes) (sym len) short;
      is = h.2
          ∙ ap (λ (l : List ℕ). 1 ∷ (u32_bytes n ++ l)) (sym (take-append-drop n h.0) ∙ ap (λ (l : List ℕ). take n h.0 ++ l) next)
          ∙ ap (λ (k : ℕ). 1 ∷ (u32_bytes k ++ (take n h.0 ++ get_or h.0 n 0 ∷ drop (n + 1) h.0))) (sym len)
          ∙ ap (λ (l : List ℕ). 1 ∷ l) (sym (append_assoc (u32_bytes (length (take n h.0))) (take n h.0) (get_or h.0 n 0 ∷ drop (n + 1) h.0)));
      long = omega (arith, len, long_counted (take n h.0));
    }

-- an open gate with a length that doesn't fit is no entry
pub broken_here : (file : List ℕ) (at n : ℕ) → IsHead (drop at file) (Open n) → (n ≤ most_entry_bytes → n + 5 < length file - at → ⊥) → IsBroken (drop at file)
broken_here file at n h off = record {
  behind = u32_bytes n ++ h.0;
  is = h.2;
  broken = λ body rest gate short e.
      let same : n ≡ length body = u32_one n (length body) h.0 (body ++ gate ∷ rest) h.1 (omega (arith, short)) (e ∙ append_assoc (u32_bytes (length body)) body (gate ∷ rest)) in
      off (omega (arith, same, short)) (omega (arith, same, ap length e, ap length h.2, length-drop at file, length-append (u32_bytes n) h.0, length-append (counted body) (gate ∷ rest), long_counted body));
}

pub broken_short : (from : List ℕ) → IsHead from Short → IsBroken from
broken_short from h = record {
  behind = h.0;
  is = h.1;
  broken = λ body rest gate short e. omega (arith, h.2, ap length e, length-append (counted body) (gate ∷ rest), long_counted body);
}

-- from the header on, entry by entry
pub walked_first : (kind : ℕ) (file : List ℕ) → take 8 file ≡ header kind → IsWalked kind file [] 8 []
walked_first kind file begins = record {
  short = All-nil IsShort;
  is = sym (take-append-drop 8 file) ∙ ap (λ (l : List ℕ). l ++ drop 8 file) begins;
  here = refl;
  gates = refl;
}

pub walked_more : (kind : ℕ) (file places : List ℕ) (at far : ℕ) (bodies : List (List ℕ)) → IsWalked kind file places at bodies → (one : IsEntry (drop at file) far) → IsWalked kind file (places ++ at ∷ []) (at + far) (bodies ++ one.body ∷ [])
walked_more kind file places at far bodies so_far one =
    let here : at + far ≡ length (front kind (bodies ++ one.body ∷ [])) = omega (arith, so_far.here, one.long, ap length (front-push kind bodies one.body), length-append (front kind bodies) (entry one.body)) in
    let whole : file ≡ front kind (bodies ++ one.body ∷ []) ++ one.gate ∷ one.rest =
    so_far.is
    ∙ ap (λ (l : List ℕ). front kind bodies ++ l) one.is
    ∙ sym (append_assoc (front kind bodies) (entry one.body) (one.gate ∷ one.rest))
    ∙ ap (λ (l : List ℕ). l ++ one.gate ∷ one.rest) (sym (front-push kind bodies one.body)) in
    record {
      short = All-push IsShort bodies one.body so_far.short one.short;
      is = whole ∙ ap (λ (l : List ℕ). front kind (bodies ++ one.body ∷ []) ++ l)
          (sym (ap (λ (l : List ℕ). drop (at + far) l) whole ∙ drop_at (front kind (bodies ++ one.body ∷ [])) (one.gate ∷ one.rest) (at + far) (sym here)));
      here = here;
      gates = ap (λ (l : List ℕ). l ++ at ∷ []) so_far.gates ∙ ap (λ (n : ℕ). places_from 8 bodies ++ n ∷ []) so_far.here ∙ sym (places_more kind bodies one.body);
    }

-- up to a gate that isn't open
pub log_here : (kind : ℕ) (file places : List ℕ) (at : ℕ) (bodies : List (List ℕ)) → IsWalked kind file places at bodies → IsShut (drop at file) → IsLog kind bodies file
log_here kind file places at bodies walked last = record {
  gate = last.gate;
  behind = last.rest;
  short = walked.short;
  shut = last.shut;
  is = walked.is ∙ ap (λ (l : List ℕ). front kind bodies ++ l) last.is;
}

-- up to an entry that is cut short, or the end behind the header
pub no_log_here : (kind : ℕ) (file places : List ℕ) (at : ℕ) (bodies : List (List ℕ)) → IsWalked kind file places at bodies → (at ≡ 8) ⊎ (at < length file) → (drop at file ≡ []) ⊎ IsBroken (drop at file) → FitsNoLog kind file at
no_log_here kind file places at bodies walked gate (inl ends) = elim gate [
  | inl first ↦
      let none : flat_map entry bodies ≡ [] = nil_from_length (flat_map entry bodies) (omega (arith, first, walked.here, length-append (header kind) (flat_map entry bodies))) in
      inr (inl (first, walked.is ∙ ap (λ (l : List ℕ). (header kind ++ flat_map entry bodies) ++ l) ends ∙ ap (λ (l : List ℕ). (header kind ++ l) ++ []) none))
  | inr within ↦ absurd (omega (arith, within, ap length ends, length-drop at file))
]
no_log_here kind file places at bodies walked gate (inr last) = inr (inr (record {
  bodies = bodies;
  behind = last.behind;
  short = walked.short;
  is = walked.is ∙ ap (λ (l : List ℕ). front kind bodies ++ l) last.is;
  here = walked.here;
  broken = last.broken;
}))

-- a read of as much as fits shows what is wanted, or all that is there
pub enough_read : (wanted count size at : ℕ) (file : List ℕ) → wanted ≤ size → count ≡ min size (length file - at) → (wanted ≤ count) ⊎ (length (drop at file) ≤ count)
enough_read wanted count size at file fits is = elim (cases_lt (length file - at) size) [
  | inl less ↦ inr (omega (arith, is, less, length-drop at file))
  | inr le ↦ inl (omega (arith, is, le, fits))
]

-- the front of a file shows in more bytes of it, or in all that there are
pub shown_front : (count at : ℕ) (file : List ℕ) → (8 ≤ count) ⊎ (length file ≤ count) → at ≤ 8 → take at (take count file) ≡ take at file
shown_front count at file (inl eight) le = take-take at count file (omega (arith, eight, le))
shown_front count at file (inr all) le = ap (λ (l : List ℕ). take at l) (take_all count file all)

pub no_header : (kind count at : ℕ) (file : List ℕ) → (8 ≤ count) ⊎ (length file ≤ count)
    → at < 8 → take at (take count file) ≡ take at (header kind) → take (at + 1) (take count file) ≢ take (at + 1) (header kind) → IsNoHeader kind file at
no_header kind count at file enough early same differs = record {
  early = early;
  same = sym (shown_front count at file enough (omega (arith, early))) ∙ same;
  differs = λ e. differs (shown_front count (at + 1) file enough (omega (arith, early)) ∙ e);
}

-- where the gate of an entry stands
pub place_of : (at : ℕ) (bodies : List (List ℕ)) (n : ℕ) → n < length bodies → get_or (places_from at bodies) n 0 ≡ at + length (flat_map entry (take n bodies))
place_of at [] n lt = absurd (omega (arith, lt))
place_of at (b ∷ bodies) zero lt = omega arith
place_of at (b ∷ bodies) (suc n) lt = place_of (at + length (entry b)) bodies n (omega (arith, lt)) ∙ omega (arith, length-append (entry b) (flat_map entry (take n bodies)))

-- the place of a refusal, and the fault of a call
abbrev pub place_in : {T : Type 0} → Result T LogFault → ℕ
place_in (Ok x) = 0
place_in (Err Disk) = 0
place_in (Err NoMemory) = 0
place_in (Err (NotALog at)) = at
place_in (Err TooLong) = 0

pub same_place : (T : Type 0) (x : Result T LogFault) (at : ℕ) → x ≡ Err (NotALog at) → place_in x ≡ at
same_place T x at e = ap place_in e

abbrev fault_in : {T : Type 0} → LogFault → Result T LogFault → LogFault
fault_in other (Ok x) = other
fault_in other (Err fault) = fault

pub same_fault : (T : Type 0) (a b : LogFault) → ◌≡◌ {A = Result T LogFault} (Err a) (Err b) → a ≡ b
same_fault T a b e = ap (fault_in a) e
