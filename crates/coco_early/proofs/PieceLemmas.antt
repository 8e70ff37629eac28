-- The pieces of Dones that are run one after another: of which Done each is, and what it has.
use Rattle.std.proofs.Common.{◌≡◌, inl, inr, ℕ, zero, suc, ◌+◌, ◌<◌, ◌≤◌, false, cond, nat_eq, List, [], ◌∷◌, ◌++◌, map, Some, refl, sym, ap, ◌∙◌, subst, arith}
use Rattle.std.specs.List.{AllByRecursion, IsDistinct, slice_get}
use Rattle.std.specs.List.Sorted.{IsPermutation}
use Rattle.std.specs.Cmp.{nat_eq_equiv}
use Rattle.std.proofs.lemmas.Bool.{cases_lt, eq-eqb, eqb-true}
use Rattle.std.proofs.lemmas.List.Sorted.{IsPermutation-map, IsPermutation-sym}
use Rattle.std.proofs.lemmas.Map.Keys.{IsDistinct-IsPermutation}
use Rattle.std.proofs.lemmas.Simd.{map-map}
use Rattle.coco_types.specs.declared.call.Done.{Done}
use Rattle.coco_types.specs.declared.call.Piece.{Piece}
use Rattle.coco_types.specs.declared.call.Request.{Request}
use Rattle.coco_types.specs.declared.call.Write.{Write}
use Rattle.coco_ast.specs.History.{IsBefore, IsRising, request_of, rows_after}
use Rattle.coco_ast.specs.Keyed.{Rows}
use Rattle.coco_ast.specs.Meaning.{run}
use Rattle.coco_ast.specs.Tree.{Procedures}
use Rattle.coco_tail.specs.Pieces.{pieces_of, place_of}
use Rattle.coco_order.specs.OneKey.{Among}
use Rattle.coco_pieces.specs.Pieces.{piece_of, pieces_from, request_pieces, writes_on}
use Rattle.coco_early.proofs.Members.{by_bool, either, left, mapped, moved, of_all, right, two_sides}

-- ---- of one request

module _ (count place time : ℕ) (ws : List Write) where
  -- one of so many partitions from this one on
  pub record IsFrom (p n : ℕ) (x : Piece) : Type 0 where
    pub place_is : x.place ≡ place
    pub time_is : x.time ≡ time
    pub from : p ≤ x.partition
    pub to : x.partition < p + n
    pub writes_are : x.writes ≡ writes_on count x.partition ws

  abbrev pub part : ℕ → Piece
  part q = record { place = place; partition = q; time = time; writes = writes_on count q ws }

  of_piece : (q n : ℕ) (vs : List Write) → vs ≡ writes_on count q ws → (x : Piece) → Among (piece_of place time q vs) x → IsFrom q (suc n) x
  of_piece q n [] is x h = absurd h
  of_piece q n (v ∷ vs) is x (inl same) = subst (IsFrom q (suc n)) same (record { place_is = refl; time_is = refl; from = omega arith; to = omega arith; writes_are = is })
  of_piece q n (v ∷ vs) is x (inr none) = absurd none

  of_from : (p n : ℕ) (x : Piece) → Among (pieces_from count place time ws p n) x → IsFrom p n x
  of_from p zero x h = absurd h
  of_from p (suc n) x h = elim (either (piece_of place time p (writes_on count p ws)) (pieces_from count place time ws (suc p) n) x h) [
    | inl here ↦ of_piece p n (writes_on count p ws) refl x here
    | inr later ↦
        let rest : IsFrom (suc p) n x = of_from (suc p) n x later in
        record { place_is = rest.place_is; time_is = rest.time_is; from = (let a : suc p ≤ x.partition = rest.from in omega (arith, a)); to = (let a : x.partition < suc p + n = rest.to in omega (arith, a)); writes_are = rest.writes_are }
  ]

  in_piece : (q : ℕ) (vs : List Write) (w : Write) → Among vs w → Among (piece_of place time q vs) (record { place = place; partition = q; time = time; writes = vs })
  in_piece q [] w h = absurd h
  in_piece q (v ∷ vs) w h = inl refl

  in_from : (p n q : ℕ) → p ≤ q → q < p + n → (w : Write) → Among (writes_on count q ws) w → Among (pieces_from count place time ws p n) (part q)
  in_from p zero q low high w h = absurd (omega (arith, low, high))
  in_from p (suc n) q low high w h = elim (cases_lt p q) [
    | inl lt ↦ right (piece_of place time p (writes_on count p ws)) (pieces_from count place time ws (suc p) n) (part q) (in_from (suc p) n q (omega (arith, lt)) (omega (arith, high)) w h)
    | inr le ↦ (
        let same : p ≡ q = omega (arith, low, le) in
        left (piece_of place time p (writes_on count p ws)) (pieces_from count place time ws (suc p) n) (part q)
        (subst (λ (z : ℕ). Among (piece_of place time z (writes_on count z ws)) (part q)) (sym same) (in_piece q (writes_on count q ws) w h)))
  ]

-- ---- of Dones

module _ (ps : Procedures) (count : ℕ) (requests : List Request) where
  -- the Done of a piece, at its place
  pub record IsOfDone (m : Rows) (dones : List Done) (x : Piece) : Type 0 where
    pub before : List Done
    pub behind : List Done
    pub d : Done
    pub split : dones ≡ before ++ d ∷ behind
    pub place_is : x.place ≡ place_of requests d.id
    pub time_is : x.time ≡ d.time
    pub within : x.partition < count
    pub writes_are : x.writes ≡ writes_on count x.partition (run ps d.call (rows_after ps m before)).writes

  pub of_done : (m : Rows) (dones : List Done) (x : Piece) → Among (pieces_of ps count requests m dones) x → IsOfDone m dones x
  of_done m [] x h = absurd h
  of_done m (d ∷ dones) x h =
      elim (either (request_pieces count (place_of requests d.id) d.time (run ps d.call m).writes) (pieces_of ps count requests (run ps d.call m).rows dones) x h) [
        | inl here ↦
            let f : IsFrom count (place_of requests d.id) d.time (run ps d.call m).writes 0 count x = of_from count (place_of requests d.id) d.time (run ps d.call m).writes 0 count x here in
            record { before = []; behind = dones; d = d; split = refl; place_is = f.place_is; time_is = f.time_is; within = (let a : x.partition < 0 + count = f.to in omega (arith, a)); writes_are = f.writes_are }
        | inr later ↦
            let rest : IsOfDone (run ps d.call m).rows dones x = of_done (run ps d.call m).rows dones x later in
            record { before = d ∷ rest.before; behind = rest.behind; d = rest.d; split = ap (λ (es : List Done). d ∷ es) rest.split; place_is = rest.place_is; time_is = rest.time_is; within = rest.within; writes_are = rest.writes_are }
      ]

  -- a write of a Done is in a piece of its partition
  pub in_pieces : (m : Rows) (dones before behind : List Done) (d : Done) → dones ≡ before ++ d ∷ behind → (q : ℕ) → q < count → (w : Write) → Among (writes_on count q (run ps d.call (rows_after ps m before)).writes) w
      → Among (pieces_of ps count requests m dones) (part count (place_of requests d.id) d.time (run ps d.call (rows_after ps m before)).writes q)
  in_pieces m dones [] behind d split q lt w h =
      subst (λ (ds : List Done). Among (pieces_of ps count requests m ds) (part count (place_of requests d.id) d.time (run ps d.call m).writes q)) (sym split)
      (left (request_pieces count (place_of requests d.id) d.time (run ps d.call m).writes) (pieces_of ps count requests (run ps d.call m).rows behind) (part count (place_of requests d.id) d.time (run ps d.call m).writes q)
      (in_from count (place_of requests d.id) d.time (run ps d.call m).writes 0 count q (omega arith) (omega (arith, lt)) w h))
  in_pieces m dones (e ∷ before) behind d split q lt w h =
      let x : Piece = part count (place_of requests d.id) d.time (run ps d.call (rows_after ps (run ps e.call m).rows before)).writes q in
      subst (λ (ds : List Done). Among (pieces_of ps count requests m ds) x) (sym split)
      (right (request_pieces count (place_of requests e.id) e.time (run ps e.call m).writes) (pieces_of ps count requests (run ps e.call m).rows (before ++ d ∷ behind)) x
      (in_pieces (run ps e.call m).rows (before ++ d ∷ behind) before behind d refl q lt w h))

-- ---- Dones of requests with ids of their own

pub own_ids : (requests : List Request) (dones : List Done) → IsPermutation requests (map request_of dones) → IsDistinct nat_eq (map (λ (r : Request). r.id) requests) → IsDistinct nat_eq (map (λ (d : Done). d.id) dones)
own_ids requests dones each distinct =
    subst (IsDistinct nat_eq) (map-map (λ (r : Request). r.id) request_of dones)
    (IsDistinct-IsPermutation nat_eq nat_eq_equiv.symm (map (λ (r : Request). r.id) requests) (map (λ (r : Request). r.id) (map request_of dones)) (IsPermutation-map (λ (r : Request). r.id) requests (map request_of dones) each) distinct)

others : (d : Done) (before behind : List Done) (e : Done) → AllByRecursion (λ id. nat_eq d.id id ≡ false) (map (λ (f : Done). f.id) (before ++ e ∷ behind)) → d.id ≡ e.id → ⊥
others d before behind e apart same =
    two_sides (sym (eq-eqb d.id e.id same) ∙ of_all (λ id. nat_eq d.id id ≡ false) (map (λ (f : Done). f.id) (before ++ e ∷ behind)) e.id apart (mapped (λ (f : Done). f.id) (before ++ e ∷ behind) e (right before (e ∷ behind) e (inl refl))))

-- where ids are distinct, a Done stands once
pub one_standing : (dones before behind front last : List Done) (d e : Done) → IsDistinct nat_eq (map (λ (f : Done). f.id) dones) → dones ≡ before ++ d ∷ behind → dones ≡ front ++ e ∷ last → d.id ≡ e.id → (before ≡ front) × (d ≡ e)
unfolding IsDistinct
one_standing [] [] behind front last d e distinct s t same = absurd (let h : [] ≡ d ∷ behind = s in cc)
one_standing [] (f ∷ before) behind front last d e distinct s t same = absurd (let h : [] ≡ f ∷ (before ++ d ∷ behind) = s in cc)
one_standing (f ∷ dones) [] behind [] last d e distinct s t same = (refl, (let h : d ∷ behind ≡ e ∷ last = sym s ∙ t in cc))
one_standing (f ∷ dones) [] behind (g ∷ front) last d e distinct s t same =
    let first : f ≡ d = cc in
    let rest : dones ≡ front ++ e ∷ last = cc in
    absurd (others f front last e (subst (λ (ds : List Done). AllByRecursion (λ id. nat_eq f.id id ≡ false) (map (λ (z : Done). z.id) ds)) rest distinct.0) (ap (λ (z : Done). z.id) first ∙ same))
one_standing (f ∷ dones) (g ∷ before) behind [] last d e distinct s t same =
    let first : f ≡ e = cc in
    let rest : dones ≡ before ++ d ∷ behind = cc in
    absurd (others f before behind d (subst (λ (ds : List Done). AllByRecursion (λ id. nat_eq f.id id ≡ false) (map (λ (z : Done). z.id) ds)) rest distinct.0) (ap (λ (z : Done). z.id) first ∙ sym same))
one_standing (f ∷ dones) (g ∷ before) behind (h ∷ front) last d e distinct s t same =
    let here : f ≡ g = cc in
    let there : f ≡ h = cc in
    let rest = one_standing dones before behind front last d e distinct.1 (let r : dones ≡ before ++ d ∷ behind = cc in r) (let r : dones ≡ front ++ e ∷ last = cc in r) same in
    (ap (λ (z : Done). z ∷ before) (sym here ∙ there) ∙ ap (λ (zs : List Done). h ∷ zs) rest.0, rest.1)

-- the id of a request stands at the place of the id
id_there : (rs : List Request) (id : ℕ) → Among (map (λ (r : Request). r.id) rs) id → (r : Request) × (slice_get rs (place_of rs id) ≡ Some r) × (r.id ≡ id)
id_there [] id h = absurd h
id_there (q ∷ rs) id h =
    by_bool (λ b. nat_eq id q.id ≡ b → (r : Request) × (slice_get (q ∷ rs) (cond b 0 (suc (place_of rs id))) ≡ Some r) × (r.id ≡ id)) (nat_eq id q.id)
    (λ _ t. (q, refl, sym (eqb-true id q.id t)))
    (λ _ f. elim h [
      | inl same ↦ absurd (two_sides (sym (eq-eqb id q.id (sym same)) ∙ f))
      | inr more ↦ id_there rs id more
    ]) refl

-- so requests at one place have one id
pub one_id : (rs : List Request) (id other : ℕ) → Among (map (λ (r : Request). r.id) rs) id → Among (map (λ (r : Request). r.id) rs) other → place_of rs id ≡ place_of rs other → id ≡ other
one_id rs id other in_id in_other same =
    let a = id_there rs id in_id in
    let c = id_there rs other in_other in
    let one : Some a.0 ≡ Some c.0 = sym a.1 ∙ ap (slice_get rs) same ∙ c.1 in
    sym a.2 ∙ (let h : a.0 ≡ c.0 = cc in ap (λ (r : Request). r.id) h) ∙ c.2

pub its_request : (requests : List Request) (dones : List Done) → IsPermutation requests (map request_of dones) → (d : Done) → Among dones d → Among (map (λ (r : Request). r.id) requests) d.id
its_request requests dones each d among =
    mapped (λ (r : Request). r.id) requests (request_of d)
    (moved (map request_of dones) requests (IsPermutation-sym requests (map request_of dones) each) (request_of d) (mapped request_of dones d among))

-- ---- in the order of times

abbrev pub RiseInTime : List Piece → Type 0
RiseInTime [] = Unit {0}
RiseInTime (x ∷ xs) = AllByRecursion (λ y. x.time ≤ y.time) xs × RiseInTime xs

all_append : (P : Piece → Type 0) (xs ys : List Piece) → AllByRecursion P xs → AllByRecursion P ys → AllByRecursion P (xs ++ ys)
all_append P [] ys all more = more
all_append P (x ∷ xs) ys all more = (all.0, all_append P xs ys all.1 more)

rise_append : (t : ℕ) (xs ys : List Piece) → AllByRecursion (λ x. x.time ≡ t) xs → AllByRecursion (λ y. t ≤ y.time) ys → RiseInTime ys → RiseInTime (xs ++ ys)
rise_append t [] ys at later rise = rise
rise_append t (x ∷ xs) ys at later rise = (all_append (λ y. x.time ≤ y.time) xs ys (here xs at.1) (behind ys later), rise_append t xs ys at.1 later rise)
  where
    here : (zs : List Piece) → AllByRecursion (λ z. z.time ≡ t) zs → AllByRecursion (λ y. x.time ≤ y.time) zs
    here [] all = tt
    here (z ∷ zs) all = ((let a : x.time ≡ t = at.0 in let c : z.time ≡ t = all.0 in omega (arith, a, c)), here zs all.1)

    behind : (zs : List Piece) → AllByRecursion (λ z. t ≤ z.time) zs → AllByRecursion (λ y. x.time ≤ y.time) zs
    behind [] all = tt
    behind (z ∷ zs) all = ((let a : x.time ≡ t = at.0 in let c : t ≤ z.time = all.0 in omega (arith, a, c)), behind zs all.1)

pub to_all : (P : Piece → Type 0) (xs : List Piece) → ((x : Piece) → Among xs x → P x) → AllByRecursion P xs
to_all P [] each = tt
to_all P (x ∷ xs) each = (each x (inl refl), to_all P xs (λ y among. each y (inr among)))

module _ (ps : Procedures) (count : ℕ) (requests : List Request) (epoch : ℕ) where
  no_earlier : (d e : Done) → d.epoch ≡ epoch → e.epoch ≡ epoch → IsBefore d e → d.time ≤ e.time
  no_earlier d e in_d in_e (inl lt) = absurd (omega (arith, in_d, in_e, lt))
  no_earlier d e in_d in_e (inr (same, inl lt)) = omega (arith, lt)
  no_earlier d e in_d in_e (inr (same, inr (at, lt))) = omega (arith, at)

  pub pieces_rise : (m : Rows) (dones : List Done) → AllByRecursion (λ d. d.epoch ≡ epoch) dones → IsRising dones → RiseInTime (pieces_of ps count requests m dones)
  pieces_rise m [] numbered rising = tt
  pieces_rise m (d ∷ dones) numbered rising =
      rise_append d.time (request_pieces count (place_of requests d.id) d.time (run ps d.call m).writes) (pieces_of ps count requests (run ps d.call m).rows dones)
      (to_all (λ x. x.time ≡ d.time) (request_pieces count (place_of requests d.id) d.time (run ps d.call m).writes) (λ x among. (of_from count (place_of requests d.id) d.time (run ps d.call m).writes 0 count x among).time_is))
      (to_all (λ y. d.time ≤ y.time) (pieces_of ps count requests (run ps d.call m).rows dones) later)
      (pieces_rise (run ps d.call m).rows dones numbered.1 rising.1)
    where
      later : (y : Piece) → Among (pieces_of ps count requests (run ps d.call m).rows dones) y → d.time ≤ y.time
      later y among =
          let o : IsOfDone ps count requests (run ps d.call m).rows dones y = of_done ps count requests (run ps d.call m).rows dones y among in
          let there : Among dones o.d = subst (λ (ds : List Done). Among ds o.d) (sym o.split) (right o.before (o.d ∷ o.behind) o.d (inl refl)) in
          let le : d.time ≤ o.d.time = no_earlier d o.d numbered.0 (of_all (λ (f : Done). f.epoch ≡ epoch) dones o.d numbered.1 there) (of_all (λ (f : Done). IsBefore d f) dones o.d rising.0 there) in
          let at : y.time ≡ o.d.time = o.time_is in
          omega (arith, le, at)
