-- The letters that wait at all nodes are those that a round gave.
use Rattle.std.proofs.Common.{◌≡◌, ℕ, zero, suc, ◌+◌, ◌*◌, ◌<◌, ◌≤◌, ◌==◌, true, false, cond, List, [], ◌∷◌, ◌++◌, length, drop, append-nil, refl, sym, ap, ◌∙◌, subst, arith, inl, inr}
use Rattle.std.specs.List.{Contains}
use Rattle.std.specs.List.Sorted.{IsPermutation}
use Rattle.std.proofs.lemmas.Bool.{cases_lt, eq-eqb, eqb-true}
use Rattle.std.proofs.lemmas.List.Elements.{Contains-append_cases, Contains-append_left, Contains-append_right}
use Rattle.std.proofs.lemmas.List.Sorted.{Contains-permutation, IsPermutation-sym}
use Rattle.coco_net.specs.declared.letter.Letter.{Letter}
use Rattle.coco_net.specs.declared.letter.Posted.{Posted}
use Rattle.coco_net.specs.Mail.{letters_to}
use Rattle.coco_msg.specs.declared.message.Message.TheVariants.{Total, Missing, All as Done}
use Rattle.coco_copy.specs.CopyState.{CopyState}
use Rattle.coco_ship.specs.declared.line.Line.{Line}
use Rattle.coco_ship.specs.declared.ring.Ring.{Ring}
use Rattle.coco_ship.specs.Placing.{holder_of, primary_of, IsRing}
use Rattle.coco_ship.specs.Letters.{letter_of, posted_of, ship_of, Gains}
use Rattle.coco_ship.specs.Sending.{reply_of}
use Rattle.coco_ship.specs.Shipping.{news}
use Rattle.coco_ship.specs.Taking.{at_node, waiting_below, Brings, Hears, OfBoth, OfTables}
use Rattle.coco_ship.proofs.HearLemmas.{posted}
use Rattle.coco_ship.proofs.ManyLemmas.{brings_both, hears_both}
use Rattle.coco_ship.proofs.WholeLemmas.{only_one}

-- ---- the letters to a node

pub in_letters : (h : ℕ) (ps : List Posted) (l : Letter) → Contains ps (posted h l) → Contains (letters_to h ps) l
in_letters h [] l has = absurd (omega (arith, has.1))
in_letters h (p ∷ ps) l has = elim (Contains-append_cases (p ∷ []) ps (posted h l) has) [
  | inl first ↦
      let same : p ≡ posted h l = only_one p (posted h l) first in
      let to : (p.to == h) ≡ true = eq-eqb p.to h (ap (λ (z : Posted). z.to) same) in
      subst (λ b. Contains (cond b (p.letter ∷ letters_to h ps) (letters_to h ps)) l) (sym to) (0, omega arith, ap (λ (z : Posted). z.letter) same)
  | inr later ↦ elim (p.to == h) as (λ b. Contains (cond b (p.letter ∷ letters_to h ps) (letters_to h ps)) l) [
    | true ↦ Contains-append_right (p.letter ∷ []) (letters_to h ps) l (in_letters h ps l later)
    | false ↦ in_letters h ps l later
  ]
]

pub out_letters : (h : ℕ) (ps : List Posted) (l : Letter) → Contains (letters_to h ps) l → Contains ps (posted h l)
out_letters h [] l has = absurd (omega (arith, has.1))
out_letters h (p ∷ ps) l has =
    elim (p.to == h) as (λ b. (p.to == h) ≡ b → Contains (cond b (p.letter ∷ letters_to h ps) (letters_to h ps)) l → Contains (p ∷ ps) (posted h l)) [
      | true ↦ λ e in'. elim (Contains-append_cases (p.letter ∷ []) (letters_to h ps) l in') [
        | inl first ↦ Contains-append_left (p ∷ []) ps (posted h l) (0, omega arith, whole p (eqb-true p.to h e) (only_one p.letter l first))
        | inr later ↦ Contains-append_right (p ∷ []) ps (posted h l) (out_letters h ps l later)
      ]
      | false ↦ λ e in'. Contains-append_right (p ∷ []) ps (posted h l) (out_letters h ps l in')
    ] refl has
  where
    whole : (p : Posted) → p.to ≡ h → p.letter ≡ l → p ≡ posted h l
    whole p to letter i = record { to = to i; letter = letter i }

at_in : (node : ℕ) (ls : List Letter) (s : Posted) → Contains (at_node node ls) s → (s.to ≡ node) × Contains ls s.letter
at_in node [] s has = absurd (omega (arith, has.1))
at_in node (l ∷ ls) s has = elim (Contains-append_cases (posted node l ∷ []) (at_node node ls) s has) [
  | inl first ↦
      let same : posted node l ≡ s = only_one (posted node l) s first in
      (sym (ap (λ (z : Posted). z.to) same), Contains-append_left (l ∷ []) ls s.letter (0, omega arith, ap (λ (z : Posted). z.letter) same))
  | inr later ↦ let rest = at_in node ls s later in (rest.0, Contains-append_right (l ∷ []) ls s.letter rest.1)
]

at_is : (node : ℕ) (ls : List Letter) (l : Letter) → Contains ls l → Contains (at_node node ls) (posted node l)
at_is node [] l has = absurd (omega (arith, has.1))
at_is node (k ∷ ls) l has = elim (Contains-append_cases (k ∷ []) ls l has) [
  | inl first ↦ Contains-append_left (posted node k ∷ []) (at_node node ls) (posted node l) (0, omega arith, ap (posted node) (only_one k l first))
  | inr later ↦ Contains-append_right (posted node k ∷ []) (at_node node ls) (posted node l) (at_is node ls l later)
]

below_in : (w : ℕ → List Letter) (n : ℕ) (s : Posted) → Contains (waiting_below w n) s → (s.to < n) × Contains (w s.to) s.letter
below_in w zero s has = absurd (omega (arith, has.1))
below_in w (suc n) s has = elim (Contains-append_cases (waiting_below w n) (at_node n (w n)) s has) [
  | inl early ↦ let rest = below_in w n s early in let less : s.to < n = rest.0 in (omega (arith, less), rest.1)
  | inr last ↦ let here = at_in n (w n) s last in let same : s.to ≡ n = here.0 in (omega (arith, same), subst (λ k. Contains (w k) s.letter) (sym same) here.1)
]

below_is : (w : ℕ → List Letter) (n k : ℕ) (l : Letter) → k < n → Contains (w k) l → Contains (waiting_below w n) (posted k l)
below_is w zero k l less has = absurd (omega (arith, less))
below_is w (suc n) k l less has = elim (cases_lt k n) [
  | inl early ↦ Contains-append_left (waiting_below w n) (at_node n (w n)) (posted k l) (below_is w n k l early has)
  | inr last ↦
      let same : n ≡ k = omega (arith, less, last) in
      Contains-append_right (waiting_below w n) (at_node n (w n)) (posted k l) (subst (λ k. Contains (w k) l → Contains (at_node n (w n)) (posted k l)) same (at_is n (w n) l) has)
]

pub below_grows : (w : ℕ → List Letter) (n m : ℕ) (s : Posted) → n ≤ m → Contains (waiting_below w n) s → Contains (waiting_below w m) s
below_grows w n m s most has = let of = below_in w n s has in let less : s.to < n = of.0 in below_is w m s.to s.letter (omega (arith, less, most)) of.1

pub below_more : (w : ℕ → List Letter) (n : ℕ) → waiting_below w (n + 1) ≡ waiting_below w n ++ at_node n (w n)
below_more w n = ap (waiting_below w) (one_more n)
  where
    one_more : (n : ℕ) → n + 1 ≡ suc n
    one_more n = omega arith

-- ---- the same letters

-- The letters are among the others, and of those to nodes they are all.
pub record AreOfNodes (nodes : ℕ) (xs ys : List Posted) : Type 0 where
  pub among : (s : Posted) → Contains xs s → Contains ys s
  pub all : (s : Posted) → s.to < nodes → Contains ys s → Contains xs s

pub waiting_all : (ring : Ring) (w : ℕ → List Letter) (these : List Posted) → IsRing ring → ((place : ℕ) → place ≤ 8 → IsPermutation (letters_to place these) (w place)) → AreOfNodes ring.nodes (waiting_below w ring.nodes) these
waiting_all ring w these fit wait = record {
  among = λ s has.
      let of = below_in w ring.nodes s has in
      let less : s.to < ring.nodes = of.0 in
      let most : ring.nodes ≤ 8 = fit.nodes in
      out_letters s.to these s.letter (Contains-permutation (w s.to) (letters_to s.to these) s.letter (IsPermutation-sym (letters_to s.to these) (w s.to) (wait s.to (omega (arith, less, most)))) of.1);
  all = λ s less has.
      let most : ring.nodes ≤ 8 = fit.nodes in
      below_is w ring.nodes s.to s.letter less (Contains-permutation (letters_to s.to these) (w s.to) s.letter (wait s.to (omega (arith, less, most))) (in_letters s.to these s.letter has));
}

pub holder_within : (ring : Ring) (p j : ℕ) → IsRing ring → holder_of ring p j < ring.nodes
holder_within ring p j fit = let some : 1 ≤ ring.nodes = fit.some_node in omega arith

pub primary_within : (ring : Ring) (p : ℕ) → IsRing ring → primary_of ring p < ring.nodes
primary_within ring p fit = let some : 1 ≤ ring.nodes = fit.some_node in omega arith

hears_of : (ring : Ring) (epoch : ℕ) (xs ys : List Posted) (p j : ℕ) (l : Line) (t : CopyState) (m : Line) (u : CopyState) → IsRing ring → AreOfNodes ring.nodes xs ys → Hears ring epoch xs p j l t m u → Hears ring epoch ys p j l t m u
hears_of ring epoch xs ys p j l t m u fit same hears = record {
  grows = hears.grows;
  all = hears.all;
  there_stays = hears.there_stays;
  there = λ q h. elim (hears.there q h) [
    | inl old ↦ inl old
    | inr by ↦ inr (by.0, by.1, same.among (posted_of by.0 (holder_of ring p j) (ship_of epoch by.1)) by.2, by.3, by.4, by.5, by.6)
  ];
  total = elim hears.total [
    | inl old ↦ inl old
    | inr by ↦ inr (by.0, by.1, same.among (posted_of by.0 (holder_of ring p j) (Total epoch p by.1)) by.2, by.3, by.4)
  ];
  lacking = λ q h. elim (hears.lacking q h) [
    | inl old ↦ inl old
    | inr by ↦ inr (by.0, same.among (reply_of ring p j (Missing epoch p by.0)) by.1, by.2, by.3)
  ];
  done = λ h. elim (hears.done h) [
    | inl old ↦ inl old
    | inr by ↦ inr (same.among (reply_of ring p j (Done epoch p)) by.0, by.1)
  ];
  lacking_falls = hears.lacking_falls;
  done_stays = hears.done_stays;
  asked_stays = hears.asked_stays;
  total_stays = hears.total_stays;
  ships = λ from x is of has. hears.ships from x is of (same.all (posted_of from (holder_of ring p j) (ship_of epoch x)) (holder_within ring p j fit) has);
  totals = λ from places is has. hears.totals from places is (same.all (posted_of from (holder_of ring p j) (Total epoch p places)) (holder_within ring p j fit) has);
  alls = λ is has. hears.alls is (same.all (reply_of ring p j (Done epoch p)) (primary_within ring p fit) has);
}

pub hears_all_given : (ring : Ring) (epoch : ℕ) (xs ys : List Posted) (ls : List Line) (ts : List CopyState) (ms : List Line) (us : List CopyState) → IsRing ring → AreOfNodes ring.nodes xs ys → OfBoth ring (Hears ring epoch xs) ls ts ms us → OfBoth ring (Hears ring epoch ys) ls ts ms us
hears_all_given ring epoch xs ys ls ts ms us fit same hears p j copy l t m u l_is t_is m_is u_is = hears_of ring epoch xs ys p j l t m u fit same (hears p j copy l t m u l_is t_is m_is u_is)

pub brings_among : (ring : Ring) (epoch : ℕ) (xs ys : List Posted) (ts us : List CopyState) → ((s : Posted) → Contains xs s → Contains ys s) → OfTables ring (Brings ring epoch xs) ts us → OfTables ring (Brings ring epoch ys) ts us
brings_among ring epoch xs ys ts us among brings p j copy t u t_is u_is =
    let gains : Gains epoch p (letters_to (holder_of ring p j) xs) t u = brings p j copy t u t_is u_is in
    record {
      epoch_stays = gains.epoch_stays;
      stable_stays = gains.stable_stays;
      pending = λ k. elim (gains.pending k) [
        | inl same ↦ inl same
        | inr by ↦ inr (by.0, by.1, by.2, in_letters (holder_of ring p j) ys (letter_of by.0 (ship_of epoch by.1)) (among (posted_of by.0 (holder_of ring p j) (ship_of epoch by.1)) (out_letters (holder_of ring p j) xs (letter_of by.0 (ship_of epoch by.1)) by.3)), by.4, by.5, by.6, by.7, by.8)
      ];
    }

-- ---- one node more

pub hears_more : (ring : Ring) (epoch : ℕ) (w : ℕ → List Letter) (n : ℕ) (letters : List Letter) (ls : List Line) (ts : List CopyState) (ms : List Line) (us : List CopyState) (ns : List Line) (vs : List CopyState) → letters ≡ w n
    → length ms ≡ ring.partitions * ring.copies → length us ≡ ring.partitions * ring.copies → OfBoth ring (Hears ring epoch (waiting_below w n)) ls ts ms us → OfBoth ring (Hears ring epoch (at_node n letters)) ms us ns vs
    → OfBoth ring (Hears ring epoch (waiting_below w (n + 1))) ls ts ns vs
hears_more ring epoch w n letters ls ts ms us ns vs is lines tables before here =
    subst (λ ps. OfBoth ring (Hears ring epoch ps) ls ts ns vs) (ap (λ k. waiting_below w n ++ at_node n k) is ∙ sym (below_more w n))
    (hears_both ring epoch (waiting_below w n) (at_node n letters) ls ts ms us ns vs lines tables before here)

pub brings_more : (ring : Ring) (epoch : ℕ) (w : ℕ → List Letter) (n : ℕ) (letters : List Letter) (ts us vs : List CopyState) → letters ≡ w n → length us ≡ ring.partitions * ring.copies
    → OfTables ring (Brings ring epoch (waiting_below w n)) ts us → OfTables ring (Brings ring epoch (at_node n letters)) us vs → OfTables ring (Brings ring epoch (waiting_below w (n + 1))) ts vs
brings_more ring epoch w n letters ts us vs is tables before here =
    subst (λ ps. OfTables ring (Brings ring epoch ps) ts vs) (ap (λ k. waiting_below w n ++ at_node n k) is ∙ sym (below_more w n))
    (brings_both ring epoch (waiting_below w n) (at_node n letters) ts us vs tables before here)

pub brings_below : (ring : Ring) (epoch : ℕ) (w : ℕ → List Letter) (n m : ℕ) (ts us : List CopyState) → n ≤ m → OfTables ring (Brings ring epoch (waiting_below w n)) ts us → OfTables ring (Brings ring epoch (waiting_below w m)) ts us
brings_below ring epoch w n m ts us most brings = brings_among ring epoch (waiting_below w n) (waiting_below w m) ts us (λ s. below_grows w n m s most) brings

-- ---- what a list has gained

pub drop_all : {X : Type 0} (xs ys : List X) → drop (length xs) (xs ++ ys) ≡ ys
drop_all [] ys = refl
drop_all (x ∷ xs) ys = drop_all xs ys

pub news_is : (old new these : List Posted) → new ≡ old ++ these → news old new ≡ these
news_is old new these is = ap (drop (length old)) is ∙ drop_all old these

pub news_none : (old new : List Posted) → new ≡ old → news old new ≡ []
news_none old new same = news_is old new [] (same ∙ sym (append-nil old))
