-- A file is a log of one kind and list of entries and then fits no place of a fault, or it fits one such place.
use Rattle.std.proofs.Common.{◌≡◌, ◌≢◌, inl, inr, ℕ, ◌+◌, ◌<◌, List, [], ◌∷◌, ◌++◌, length, get_or, take, drop, refl, sym, ◌∙◌, ap, arith, append_assoc, length-append, append-nil, take-take, subst}
use Rattle.std.proofs.lemmas.Bool.{cases_lt}
use Rattle.std.proofs.lemmas.List.{take_at, drop_at, drop_more, take-append-le}
use Rattle.std.proofs.lemmas.List.Elements.{All-head, All-tail}
use Rattle.std.specs.List.{All, flat_map}
use Rattle.coco_bytes.specs.Fields.{u32_bytes}
use Rattle.coco_log.specs.Grammar.{header, counted, entry, front, IsShort, IsLog, IsNoHeader, IsCutShort, FitsNoLog}
use Rattle.coco_log.proofs.Walks.{u32_one}

-- entries that the same bytes begin with are one, and what stands behind them too
pub record AreSame (a b x y : List ℕ) : Type 0 where
  pub first : a ≡ b
  pub behind : x ≡ y

pub peel : (a b x y : List ℕ) → IsShort a → IsShort b → entry a ++ x ≡ entry b ++ y → AreSame a b x y
peel a b x y short also e =
    let lined : u32_bytes (length a) ++ (a ++ x) ≡ u32_bytes (length b) ++ (b ++ y) =
    sym (append_assoc (u32_bytes (length a)) a x) ∙ ap (λ (l : List ℕ). drop 1 l) e ∙ append_assoc (u32_bytes (length b)) b y in
    let same : length a ≡ length b = u32_one (length a) (length b) (a ++ x) (b ++ y) (omega (arith, short)) (omega (arith, also)) lined in
    let rests : a ++ x ≡ b ++ y = sym (drop_at (u32_bytes (length a)) (a ++ x) 4 refl) ∙ ap (λ (l : List ℕ). drop 4 l) lined ∙ drop_at (u32_bytes (length b)) (b ++ y) 4 refl in
    record {
      first = sym (take_at a x (length a) refl) ∙ ap (λ (l : List ℕ). take (length a) l) rests ∙ take_at b y (length a) (sym same);
      behind = sym (drop_at a x (length a) refl) ∙ ap (λ (l : List ℕ). drop (length a) l) rests ∙ drop_at b y (length a) (sym same);
    }

pub front_gate : (x y : List ℕ) → x ≡ y → get_or x 0 0 ≡ get_or y 0 0
front_gate x y e = ap (λ (l : List ℕ). get_or l 0 0) e

one_list : (xs ys : List (List ℕ)) (g h : ℕ) (r s : List ℕ) → All IsShort xs → All IsShort ys → g ≢ 1 → h ≢ 1 → flat_map entry xs ++ g ∷ r ≡ flat_map entry ys ++ h ∷ s → xs ≡ ys
one_list [] [] g h r s short also shut closed e = refl
one_list [] (b ∷ ys) g h r s short also shut closed e = absurd (shut (front_gate (g ∷ r) (flat_map entry (b ∷ ys) ++ h ∷ s) e))
one_list (a ∷ xs) [] g h r s short also shut closed e = absurd (closed (sym (front_gate (flat_map entry (a ∷ xs) ++ g ∷ r) (h ∷ s) e)))
one_list (a ∷ xs) (b ∷ ys) g h r s short also shut closed e =
    let two = peel a b (flat_map entry xs ++ g ∷ r) (flat_map entry ys ++ h ∷ s) (All-head IsShort a xs short) (All-head IsShort b ys also)
    (sym (append_assoc (entry a) (flat_map entry xs) (g ∷ r)) ∙ e ∙ append_assoc (entry b) (flat_map entry ys) (h ∷ s)) in
    let others : xs ≡ ys = one_list xs ys g h r s (All-tail IsShort a xs short) (All-tail IsShort b ys also) shut closed two.behind in
    ap (λ (x : List ℕ). x ∷ xs) two.first ∙ ap (λ (l : List (List ℕ)). b ∷ l) others

pub behind_header : (kind : ℕ) (x y : List ℕ) → header kind ++ x ≡ header kind ++ y → x ≡ y
behind_header kind x y e = ap (λ (l : List ℕ). drop 8 l) e

same_entries : (kind : ℕ) (file : List ℕ) (xs ys : List (List ℕ)) → IsLog kind xs file → IsLog kind ys file → xs ≡ ys
same_entries kind file xs ys one two =
    one_list xs ys one.gate two.gate one.behind two.behind one.short two.short one.shut two.shut
    (behind_header kind (flat_map entry xs ++ one.gate ∷ one.behind) (flat_map entry ys ++ two.gate ∷ two.behind)
    (sym (append_assoc (header kind) (flat_map entry xs) (one.gate ∷ one.behind)) ∙ sym one.is ∙ two.is ∙ append_assoc (header kind) (flat_map entry ys) (two.gate ∷ two.behind)))

pub one_log : (j k : ℕ) (file : List ℕ) (xs ys : List (List ℕ)) → IsLog j xs file → IsLog k ys file → (j ≡ k) × (xs ≡ ys)
one_log j k file xs ys one two =
    let kinds : j ≡ k = ap (λ (l : List ℕ). get_or l 7 0) (sym one.is ∙ two.is) in
    (kinds, same_entries j file xs ys one (subst (λ (n : ℕ). IsLog n ys file) (sym kinds) two))

some_gate : (l : List ℕ) → 0 < length l → l ≡ get_or l 0 0 ∷ drop 1 l
some_gate l some = drop_more l 0 0 some

-- behind an open gate no entry is broken off that goes on
goes_on_here : (a : List ℕ) (xs : List (List ℕ)) (g : ℕ) (r behind : List ℕ) → IsShort a → ((body rest : List ℕ) (gate : ℕ) → IsShort body → behind ≢ counted body ++ gate ∷ rest) → flat_map entry (a ∷ xs) ++ g ∷ r ≡ 1 ∷ behind → ⊥
goes_on_here a xs g r behind short broken e =
    broken a (drop 1 (flat_map entry xs ++ g ∷ r)) (get_or (flat_map entry xs ++ g ∷ r) 0 0) short
    (sym (ap (λ (l : List ℕ). drop 1 l) e) ∙ append_assoc (counted a) (flat_map entry xs) (g ∷ r)
    ∙ ap (λ (l : List ℕ). counted a ++ l) (some_gate (flat_map entry xs ++ g ∷ r) (omega (arith, length-append (flat_map entry xs) (g ∷ r)))))

no_cut : (xs ys : List (List ℕ)) (g : ℕ) (r behind : List ℕ) → All IsShort xs → All IsShort ys → g ≢ 1
    → ((body rest : List ℕ) (gate : ℕ) → IsShort body → behind ≢ counted body ++ gate ∷ rest) → flat_map entry xs ++ g ∷ r ≡ flat_map entry ys ++ 1 ∷ behind → ⊥
no_cut [] [] g r behind short also shut broken e = shut (front_gate (g ∷ r) (1 ∷ behind) e)
no_cut [] (b ∷ ys) g r behind short also shut broken e = shut (front_gate (g ∷ r) (flat_map entry (b ∷ ys) ++ 1 ∷ behind) e)
no_cut (a ∷ xs) [] g r behind short also shut broken e = goes_on_here a xs g r behind (All-head IsShort a xs short) broken e
no_cut (a ∷ xs) (b ∷ ys) g r behind short also shut broken e =
    let two = peel a b (flat_map entry xs ++ g ∷ r) (flat_map entry ys ++ 1 ∷ behind) (All-head IsShort a xs short) (All-head IsShort b ys also)
    (sym (append_assoc (entry a) (flat_map entry xs) (g ∷ r)) ∙ e ∙ append_assoc (entry b) (flat_map entry ys) (1 ∷ behind)) in
    no_cut xs ys g r behind (All-tail IsShort a xs short) (All-tail IsShort b ys also) shut broken two.behind

-- where the header is there, the file differs from it at no place
pub has_header : (kind : ℕ) (file rest : List ℕ) (at : ℕ) → file ≡ header kind ++ rest → IsNoHeader kind file at → ⊥
has_header kind file rest at begins off = off.differs (ap (λ (l : List ℕ). take (at + 1) l) begins ∙ take-append-le (at + 1) (header kind) rest (omega (arith, off.early)))

pub fits_or_not : (kind : ℕ) (file : List ℕ) (xs : List (List ℕ)) (at : ℕ) → IsLog kind xs file → FitsNoLog kind file at → ⊥
fits_or_not kind file xs at log (inl other) = has_header kind file (flat_map entry xs ++ log.gate ∷ log.behind) at (log.is ∙ append_assoc (header kind) (flat_map entry xs) (log.gate ∷ log.behind)) other
fits_or_not kind file xs at log (inr (inl ends)) =
    omega (arith, ap length ends.1, ap length log.is, length-append (header kind ++ flat_map entry xs) (log.gate ∷ log.behind), length-append (header kind) (flat_map entry xs))
fits_or_not kind file xs at log (inr (inr cut)) =
    no_cut xs cut.bodies log.gate log.behind cut.behind log.short cut.short log.shut cut.broken
    (behind_header kind (flat_map entry xs ++ log.gate ∷ log.behind) (flat_map entry cut.bodies ++ 1 ∷ cut.behind)
    (sym (append_assoc (header kind) (flat_map entry xs) (log.gate ∷ log.behind)) ∙ sym log.is ∙ cut.is ∙ append_assoc (header kind) (flat_map entry cut.bodies) (1 ∷ cut.behind)))

one_cut : (xs ys : List (List ℕ)) (r s : List ℕ) → All IsShort xs → All IsShort ys → ((body rest : List ℕ) (gate : ℕ) → IsShort body → r ≢ counted body ++ gate ∷ rest)
    → ((body rest : List ℕ) (gate : ℕ) → IsShort body → s ≢ counted body ++ gate ∷ rest) → flat_map entry xs ++ 1 ∷ r ≡ flat_map entry ys ++ 1 ∷ s → xs ≡ ys
one_cut [] [] r s short also broken off e = refl
one_cut [] (b ∷ ys) r s short also broken off e = absurd (goes_on_here b ys 1 s r (All-head IsShort b ys also) broken (sym e))
one_cut (a ∷ xs) [] r s short also broken off e = absurd (goes_on_here a xs 1 r s (All-head IsShort a xs short) off e)
one_cut (a ∷ xs) (b ∷ ys) r s short also broken off e =
    let two = peel a b (flat_map entry xs ++ 1 ∷ r) (flat_map entry ys ++ 1 ∷ s) (All-head IsShort a xs short) (All-head IsShort b ys also)
    (sym (append_assoc (entry a) (flat_map entry xs) (1 ∷ r)) ∙ e ∙ append_assoc (entry b) (flat_map entry ys) (1 ∷ s)) in
    let others : xs ≡ ys = one_cut xs ys r s (All-tail IsShort a xs short) (All-tail IsShort b ys also) broken off two.behind in
    ap (λ (x : List ℕ). x ∷ xs) two.first ∙ ap (λ (l : List (List ℕ)). b ∷ l) others

-- a file differs from the header first at one place
no_sooner : (kind : ℕ) (file : List ℕ) (at later : ℕ) → IsNoHeader kind file at → IsNoHeader kind file later → at < later → ⊥
no_sooner kind file at later one two lt =
    one.differs (sym (take-take (at + 1) later file (omega (arith, lt))) ∙ ap (λ (l : List ℕ). take (at + 1) l) two.same ∙ take-take (at + 1) later (header kind) (omega (arith, lt)))

cut_begins : (kind : ℕ) (file : List ℕ) (at : ℕ) (cut : IsCutShort kind file at) → file ≡ header kind ++ (flat_map entry cut.bodies ++ 1 ∷ cut.behind)
cut_begins kind file at cut = cut.is ∙ append_assoc (header kind) (flat_map entry cut.bodies) (1 ∷ cut.behind)

cut_longer : (kind : ℕ) (file : List ℕ) (at : ℕ) → IsCutShort kind file at → file ≡ header kind → ⊥
cut_longer kind file at cut ends = omega (arith, ap length ends, ap length (cut_begins kind file at cut), length-append (header kind) (flat_map entry cut.bodies ++ 1 ∷ cut.behind), length-append (flat_map entry cut.bodies) (1 ∷ cut.behind))

pub one_place : (kind : ℕ) (file : List ℕ) (at other : ℕ) → FitsNoLog kind file at → FitsNoLog kind file other → at ≡ other
one_place kind file at other (inl one) (inl two) = elim (cases_lt at other) [
  | inl less ↦ absurd (no_sooner kind file at other one two less)
  | inr le ↦ elim (cases_lt other at) [
    | inl more ↦ absurd (no_sooner kind file other at two one more)
    | inr also ↦ omega (arith, le, also)
  ]
]
one_place kind file at other (inl one) (inr (inl ends)) = absurd (has_header kind file [] at (ends.1 ∙ sym (append-nil (header kind))) one)
one_place kind file at other (inl one) (inr (inr cut)) = absurd (has_header kind file (flat_map entry cut.bodies ++ 1 ∷ cut.behind) at (cut_begins kind file other cut) one)
one_place kind file at other (inr (inl ends)) (inl two) = absurd (has_header kind file [] other (ends.1 ∙ sym (append-nil (header kind))) two)
one_place kind file at other (inr (inr cut)) (inl two) = absurd (has_header kind file (flat_map entry cut.bodies ++ 1 ∷ cut.behind) other (cut_begins kind file at cut) two)
one_place kind file at other (inr (inl ends)) (inr (inl also)) = ends.0 ∙ sym also.0
one_place kind file at other (inr (inl ends)) (inr (inr cut)) = absurd (cut_longer kind file other cut ends.1)
one_place kind file at other (inr (inr cut)) (inr (inl ends)) = absurd (cut_longer kind file at cut ends.1)
one_place kind file at other (inr (inr one)) (inr (inr two)) =
    let same : one.bodies ≡ two.bodies = one_cut one.bodies two.bodies one.behind two.behind one.short two.short one.broken two.broken
    (behind_header kind (flat_map entry one.bodies ++ 1 ∷ one.behind) (flat_map entry two.bodies ++ 1 ∷ two.behind) (sym (cut_begins kind file at one) ∙ cut_begins kind file other two)) in
    one.here ∙ ap (λ (l : List (List ℕ)). length (front kind l)) same ∙ sym two.here
