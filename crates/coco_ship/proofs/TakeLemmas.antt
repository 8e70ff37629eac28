-- A message and a letter on all lines and tables.
use Rattle.std.proofs.Common.{◌≡◌, ℕ, zero, suc, ◌+◌, ◌*◌, ◌<◌, cond, List, [], ◌∷◌, ◌++◌, length, take, drop, get_or, Option, Some, None, refl, sym, ap, ◌∙◌, subst, arith}
use Rattle.std.proofs.Math.ListN.{length-set, set}
use Rattle.std.specs.List.{slice_get}
use Rattle.std.specs.Option.{IfSome, MatchOption}
use Rattle.std.proofs.lemmas.Bool.{eq-eqb}
use Rattle.std.proofs.lemmas.List.Elements.{All-set}
use Rattle.coco_msg.specs.declared.message.Message.{Message}
use Rattle.coco_msg.specs.declared.message.Message.TheVariants.{Ship, Total, Missing, All}
use Rattle.coco_msg.specs.Bytes.{bytes_of, epoch_of, IsMessage}
use Rattle.coco_net.specs.declared.letter.Letter.{Letter}
use Rattle.coco_net.specs.declared.letter.Posted.{Posted}
use Rattle.coco_net.specs.Mail.{letters_to}
use Rattle.coco_net.proofs.MailLemmas.{letters_to-append}
use Rattle.coco_copy.specs.CopyState.{CopyState}
use Rattle.coco_ship.specs.declared.line.Line.{Line}
use Rattle.coco_ship.specs.declared.ring.Ring.{Ring}
use Rattle.coco_ship.specs.Placing.{holder_of, primary_of, table_of, IsCopy, IsRing}
use Rattle.coco_ship.specs.Letters.{letter_of, Gains}
use Rattle.coco_ship.specs.Rounds.{FitRing}
use Rattle.coco_ship.specs.Taking.{at_node, Brings, Hears, IsPut, OfBoth, OfTables, Speaks, Takes, TakesAt}
use Rattle.coco_ship.proofs.HearLemmas.{gains_none, gains_then, hears_at, hears_none, hears_stay, puts_gain}
use Rattle.coco_ship.proofs.ManyLemmas.{at_node_more, brings_both, hears_both}
use Rattle.coco_ship.proofs.NoteLemmas.{read_at}
use Rattle.coco_ship.proofs.Tables.{below_all, holders_apart, one_read, same_both, same_tables, set_both, set_table}

-- ---- the copy that a message speaks of

holders_once : (ring : Ring) (x node p j q i : ℕ) → IsRing ring → IsCopy ring p j → IsCopy ring q i → x ≡ p → x ≡ q → holder_of ring p j ≡ node → holder_of ring q i ≡ node → (p ≡ q) × (j ≡ i)
holders_once ring x node p j q i fit here there one other first second =
    let same : p ≡ q = sym one ∙ other in
    (same, holders_apart ring q j i fit here.copy there.copy (ap (λ p. holder_of ring p j) (sym same) ∙ first ∙ sym second))

pub speaks_once : (ring : Ring) (node from : ℕ) (m : Message) (p j q i : ℕ) → IsRing ring → IsCopy ring p j → IsCopy ring q i → Speaks ring node from m p j → Speaks ring node from m q i → (p ≡ q) × (j ≡ i)
speaks_once ring node from (Ship epoch x place time writes) p j q i fit here there a b = holders_once ring x node p j q i fit here there a.0 b.0 a.1 b.1
speaks_once ring node from (Total epoch x places) p j q i fit here there a b = holders_once ring x node p j q i fit here there a.0 b.0 a.1 b.1
speaks_once ring node from (Missing epoch x places) p j q i fit here there a b = holders_once ring x from p j q i fit here there a.0 b.0 a.2 b.2
speaks_once ring node from (All epoch x) p j q i fit here there a b = holders_once ring x from p j q i fit here there a.0 b.0 a.2 b.2
speaks_once ring node from m p j q i fit here there a b = absurd a

-- that line and its table are changed
pub takes_both : (ring : Ring) (node from : ℕ) (m : Message) (p j : ℕ) (ls : List Line) (ts : List CopyState) (l : Line) (t : CopyState) (n : Line) (v : CopyState) → IsRing ring → IsCopy ring p j → Speaks ring node from m p j
    → length ls ≡ ring.partitions * ring.copies → length ts ≡ ring.partitions * ring.copies → l ≡ get_or ls (table_of ring p j) l → t ≡ get_or ts (table_of ring p j) t → Takes m l t n v
    → OfBoth ring (TakesAt ring node from m) ls ts (set ls (table_of ring p j) n) (set ts (table_of ring p j) v)
takes_both ring node from m p j ls ts l t n v fit copy speaks lines tables l_is t_is takes =
    let inside : table_of ring p j < ring.partitions * ring.copies = below_all ring.partitions ring.copies p j copy.partition copy.copy in
    let l_at : slice_get ls (table_of ring p j) ≡ Some l = read_at ls (table_of ring p j) l (omega (arith, inside, lines)) l_is in
    let t_at : slice_get ts (table_of ring p j) ≡ Some t = read_at ts (table_of ring p j) t (omega (arith, inside, tables)) t_is in
    set_both ring (TakesAt ring node from m) ls ts p j n v copy lines tables
    (λ k u k_is u_is. record {
      here = λ s. subst (λ z. Takes m z u n v) (one_read (slice_get ls (table_of ring p j)) l k l_at k_is) (subst (λ z. Takes m l z n v) (one_read (slice_get ts (table_of ring p j)) t u t_at u_is) takes);
      stays = λ nay. absurd (nay speaks);
    })
    (λ q i other apart k u. record {
      here = λ s. let same : (q ≡ p) × (i ≡ j) = speaks_once ring node from m q i p j fit other copy s speaks in absurd (apart same.0 same.1);
      stays = λ nay. (refl, refl);
    })

-- or none is
pub takes_none : (ring : Ring) (node from : ℕ) (m : Message) (ls : List Line) (ts : List CopyState) → ((p j : ℕ) → IsCopy ring p j → Speaks ring node from m p j → ⊥) → OfBoth ring (TakesAt ring node from m) ls ts ls ts
takes_none ring node from m ls ts nay = same_both ring (TakesAt ring node from m) ls ts (λ p j copy l t. record { here = λ s. absurd (nay p j copy s); stays = λ _. (refl, refl) })

pub brings_none : (ring : Ring) (epoch : ℕ) (posts : List Posted) (ts : List CopyState) → OfTables ring (Brings ring epoch posts) ts ts
brings_none ring epoch posts ts = same_tables ring (Brings ring epoch posts) ts (λ p j copy t. gains_none epoch p (letters_to (holder_of ring p j) posts) t)

-- the letters to a node among one to it
to_itself : (node h : ℕ) (letter : Letter) → h ≡ node → letters_to h (at_node node (letter ∷ [])) ≡ letter ∷ []
to_itself node h letter same = ap (λ b. cond b (letter ∷ []) []) (eq-eqb node h (sym same))

brings_here : (ring : Ring) (node from : ℕ) (m : Message) (p j : ℕ) (t v : CopyState) → IsMessage m → Speaks ring node from m p j → IsPut m t v → Brings ring (epoch_of m) (at_node node (letter_of from m ∷ [])) p j t v
brings_here ring node from (Ship epoch q place time writes) p j t v is speaks puts =
    subst (λ ls. Gains epoch p ls t v) (sym (to_itself node (holder_of ring p j) (letter_of from (Ship epoch q place time writes)) speaks.1))
    (subst (λ q. Gains epoch p (letter_of from (Ship epoch q place time writes) ∷ []) t v) (sym speaks.0) (puts_gain epoch p from place time writes t v (subst (λ q. IsMessage (Ship epoch q place time writes)) speaks.0 is) puts))
brings_here ring node from (Total epoch q places) p j t v is speaks same = subst (λ z. Brings ring epoch (at_node node (letter_of from (Total epoch q places) ∷ [])) p j t z) (sym same) (gains_none epoch p _ t)
brings_here ring node from (Missing epoch q places) p j t v is speaks same = subst (λ z. Brings ring epoch (at_node node (letter_of from (Missing epoch q places) ∷ [])) p j t z) (sym same) (gains_none epoch p _ t)
brings_here ring node from (All epoch q) p j t v is speaks same = subst (λ z. Brings ring epoch (at_node node (letter_of from (All epoch q) ∷ [])) p j t z) (sym same) (gains_none epoch p _ t)
brings_here ring node from m p j t v is speaks same = absurd speaks

pub brings_set : (ring : Ring) (node from : ℕ) (m : Message) (p j : ℕ) (ts : List CopyState) (t v : CopyState) → IsMessage m → IsCopy ring p j → Speaks ring node from m p j → length ts ≡ ring.partitions * ring.copies → t ≡ get_or ts (table_of ring p j) t → IsPut m t v
    → OfTables ring (Brings ring (epoch_of m) (at_node node (letter_of from m ∷ []))) ts (set ts (table_of ring p j) v)
brings_set ring node from m p j ts t v is copy speaks tables t_is put =
    let inside : table_of ring p j < ring.partitions * ring.copies = below_all ring.partitions ring.copies p j copy.partition copy.copy in
    let t_at : slice_get ts (table_of ring p j) ≡ Some t = read_at ts (table_of ring p j) t (omega (arith, inside, tables)) t_is in
    set_table ring (Brings ring (epoch_of m) (at_node node (letter_of from m ∷ []))) ts p j v copy tables
    (λ u u_is. subst (λ z. Brings ring (epoch_of m) (at_node node (letter_of from m ∷ [])) p j z v) (one_read (slice_get ts (table_of ring p j)) t u t_at u_is) (brings_here ring node from m p j t v is speaks put))
    (λ q i other u. gains_none (epoch_of m) q (letters_to (holder_of ring q i) (at_node node (letter_of from m ∷ []))) u)

put_epoch : (m : Message) (t v : CopyState) → IsPut m t v → v.epoch ≡ t.epoch
put_epoch (Ship epoch q place time writes) t v puts = puts.epoch_stays
put_epoch (Total epoch q places) t v same = ap (λ (z : CopyState). z.epoch) same
put_epoch (Missing epoch q places) t v same = ap (λ (z : CopyState). z.epoch) same
put_epoch (All epoch q) t v same = ap (λ (z : CopyState). z.epoch) same
put_epoch m t v same = ap (λ (z : CopyState). z.epoch) same

-- one line and its table are changed
pub fit_set : {ring : Ring} {e : ℕ} {ls : List Line} {ts : List CopyState} (m : Message) (i : ℕ) (n : Line) (t v : CopyState) → FitRing ring e ls ts → i < length ts → t ≡ get_or ts i t → IsPut m t v → FitRing ring e (set ls i n) (set ts i v)
fit_set {ring} {e} {ls} {ts} m i n t v fit h is put = record {
  is_ring = fit.is_ring;
  line_count = length-set ls i n ∙ fit.line_count;
  table_count = length-set ts i v ∙ fit.table_count;
  begun = All-set (λ (z : CopyState). z.epoch ≡ e) ts i v (put_epoch m t v put ∙ ap (λ (z : CopyState). z.epoch) is ∙ fit.begun i t h) fit.begun;
}

-- the number of a copy is that of a line and of a table
pub copy_within : {ring : Ring} {e p j k : ℕ} {ls : List Line} {ts : List CopyState} → FitRing ring e ls ts → IsCopy ring p j → k ≡ table_of ring p j → (k < length ls) × (k < length ts)
copy_within {ring} {e} {p} {j} fit copy is =
    let inside : table_of ring p j < ring.partitions * ring.copies = below_all ring.partitions ring.copies p j copy.partition copy.copy in
    (omega (arith, inside, is, fit.line_count), omega (arith, inside, is, fit.table_count))

-- ---- the copy's number

pub to_holder : (ring : Ring) (node q : ℕ) (o : Option ℕ) → MatchOption o ((j : ℕ) → IsCopy ring q j → holder_of ring q j ≡ node → ⊥) (λ t. (j : ℕ) × IsCopy ring q j × (holder_of ring q j ≡ node) × (t ≡ table_of ring q j))
    → MatchOption o ((p j : ℕ) → IsCopy ring p j → ((q ≡ p) × (holder_of ring p j ≡ node)) → ⊥) (λ t. (p : ℕ) × (j : ℕ) × IsCopy ring p j × ((q ≡ p) × (holder_of ring p j ≡ node)) × (t ≡ table_of ring p j))
to_holder ring node q None none = λ p j copy s. none j (subst (λ p. IsCopy ring p j) (sym s.0) copy) (ap (λ p. holder_of ring p j) s.0 ∙ s.1)
to_holder ring node q (Some t) found = (q, found.0, found.1, (refl, found.2), found.3)

pub to_primary : (ring : Ring) (node from q : ℕ) (o : Option ℕ) → MatchOption o ((j : ℕ) → IsCopy ring q j → primary_of ring q ≡ node → holder_of ring q j ≡ from → ⊥) (λ t. (j : ℕ) × IsCopy ring q j × (primary_of ring q ≡ node) × (holder_of ring q j ≡ from) × (t ≡ table_of ring q j))
    → MatchOption o ((p j : ℕ) → IsCopy ring p j → ((q ≡ p) × (primary_of ring p ≡ node) × (holder_of ring p j ≡ from)) → ⊥) (λ t. (p : ℕ) × (j : ℕ) × IsCopy ring p j × ((q ≡ p) × (primary_of ring p ≡ node) × (holder_of ring p j ≡ from)) × (t ≡ table_of ring p j))
to_primary ring node from q None none = λ p j copy s. none j (subst (λ p. IsCopy ring p j) (sym s.0) copy) (ap (primary_of ring) s.0 ∙ s.1) (ap (λ p. holder_of ring p j) s.0 ∙ s.2)
to_primary ring node from q (Some t) found = (q, found.0, found.1, (refl, found.2, found.3), found.4)

-- ---- letters

pub hears_letter : (ring : Ring) (epoch node : ℕ) (letter : Letter) (m : Message) (ls : List Line) (ts : List CopyState) (ms : List Line) (us : List CopyState) → IsMessage m → letter.bytes ≡ bytes_of m → epoch_of m ≡ epoch
    → OfBoth ring (TakesAt ring node letter.from m) ls ts ms us → OfBoth ring (Hears ring epoch (at_node node (letter ∷ []))) ls ts ms us
hears_letter ring epoch node letter m ls ts ms us is bytes of takes p j copy l t n v l_is t_is n_is v_is =
    subst (λ (bs : List ℕ). Hears ring epoch (at_node node (record { from = letter.from; bytes = bs } ∷ [])) p j l t n v) (sym bytes)
    (hears_at ring epoch node letter.from m p j l t n v of is (takes p j copy l t n v l_is t_is n_is v_is))

pub brings_letter : (ring : Ring) (epoch node : ℕ) (letter : Letter) (m : Message) (ts us : List CopyState) → letter.bytes ≡ bytes_of m → epoch_of m ≡ epoch
    → OfTables ring (Brings ring (epoch_of m) (at_node node (letter_of letter.from m ∷ []))) ts us → OfTables ring (Brings ring epoch (at_node node (letter ∷ []))) ts us
brings_letter ring epoch node letter m ts us bytes of brings =
    subst (λ (bs : List ℕ). OfTables ring (Brings ring epoch (at_node node (record { from = letter.from; bytes = bs } ∷ []))) ts us) (sym bytes)
    (subst (λ e. OfTables ring (Brings ring e (at_node node (letter_of letter.from m ∷ []))) ts us) of brings)

-- no message of this epoch
pub unheard : (ring : Ring) (epoch node : ℕ) (letter : Letter) (ls : List Line) (ts : List CopyState) → ((m : Message) → IsMessage m → epoch_of m ≡ epoch → letter.bytes ≡ bytes_of m → ⊥)
    → OfBoth ring (Hears ring epoch (at_node node (letter ∷ []))) ls ts ls ts
unheard ring epoch node letter ls ts nay =
    same_both ring (Hears ring epoch (at_node node (letter ∷ []))) ls ts (λ p j copy l t. hears_stay ring epoch node letter p j l t l t refl refl (λ m is of bytes speaks. nay m is of bytes))

pub hears_nothing : (ring : Ring) (epoch : ℕ) (ls : List Line) (ts : List CopyState) → OfBoth ring (Hears ring epoch []) ls ts ls ts
hears_nothing ring epoch ls ts = same_both ring (Hears ring epoch []) ls ts (λ p j copy l t. hears_none ring epoch p j l t)

-- one letter more
pub hears_next : (ring : Ring) (epoch node : ℕ) (letters : List Letter) (i : ℕ) (letter : Letter) (ls : List Line) (ts : List CopyState) (ms : List Line) (us : List CopyState) (ns : List Line) (vs : List CopyState) → i < length letters → letter ≡ get_or letters i letter
    → length ms ≡ ring.partitions * ring.copies → length us ≡ ring.partitions * ring.copies → OfBoth ring (Hears ring epoch (at_node node (take i letters))) ls ts ms us → OfBoth ring (Hears ring epoch (at_node node (letter ∷ []))) ms us ns vs
    → OfBoth ring (Hears ring epoch (at_node node (take (i + 1) letters))) ls ts ns vs
hears_next ring epoch node letters i letter ls ts ms us ns vs h is lines tables before one =
    subst (λ ps. OfBoth ring (Hears ring epoch ps) ls ts ns vs) (sym (at_node_more node letters i letter h is))
    (hears_both ring epoch (at_node node (take i letters)) (at_node node (letter ∷ [])) ls ts ms us ns vs lines tables before one)

pub brings_next : (ring : Ring) (epoch node : ℕ) (letters : List Letter) (i : ℕ) (letter : Letter) (ts us vs : List CopyState) → i < length letters → letter ≡ get_or letters i letter → length us ≡ ring.partitions * ring.copies
    → OfTables ring (Brings ring epoch (at_node node (take i letters))) ts us → OfTables ring (Brings ring epoch (at_node node (letter ∷ []))) us vs → OfTables ring (Brings ring epoch (at_node node (take (i + 1) letters))) ts vs
brings_next ring epoch node letters i letter ts us vs h is tables before one =
    subst (λ ps. OfTables ring (Brings ring epoch ps) ts vs) (sym (at_node_more node letters i letter h is))
    (brings_both ring epoch (at_node node (take i letters)) (at_node node (letter ∷ [])) ts us vs tables before one)

-- what some letters brought is among what more bring
pub brings_wider : (ring : Ring) (epoch : ℕ) (xs ys : List Posted) (ts us : List CopyState) → OfTables ring (Brings ring epoch xs) ts us → OfTables ring (Brings ring epoch (xs ++ ys)) ts us
brings_wider ring epoch xs ys ts us brings p j copy t u t_is u_is =
    subst (λ ls. Gains epoch p ls t u) (sym (letters_to-append (holder_of ring p j) xs ys))
    (gains_then epoch p (letters_to (holder_of ring p j) xs) (letters_to (holder_of ring p j) ys) t u u (brings p j copy t u t_is u_is) (gains_none epoch p (letters_to (holder_of ring p j) ys) u))

pub brings_first : (ring : Ring) (epoch node : ℕ) (letters : List Letter) (i : ℕ) (ts us : List CopyState) → OfTables ring (Brings ring epoch (at_node node (take i letters))) ts us → OfTables ring (Brings ring epoch (at_node node letters)) ts us
brings_first ring epoch node letters i ts us brings =
    subst (λ ps. OfTables ring (Brings ring epoch ps) ts us) (sym (parted i letters)) (brings_wider ring epoch (at_node node (take i letters)) (at_node node (drop i letters)) ts us brings)
  where
    parted : (i : ℕ) (ls : List Letter) → at_node node ls ≡ at_node node (take i ls) ++ at_node node (drop i ls)
    parted zero ls = refl
    parted (suc i) [] = refl
    parted (suc i) (l ∷ ls) = ap (λ ps. record { to = node; letter = l } ∷ ps) (parted i ls)

-- what a letter is found to say
pub said : (epoch : ℕ) (bytes : List ℕ) (o : Option Message) (m : Message) → o ≡ Some m → IfSome o (λ m. IsMessage m × (bytes ≡ bytes_of m) × (epoch_of m ≡ epoch)) → IsMessage m × (bytes ≡ bytes_of m) × (epoch_of m ≡ epoch)
said epoch bytes o m is found = subst (λ o. IfSome o (λ m. IsMessage m × (bytes ≡ bytes_of m) × (epoch_of m ≡ epoch))) is found

pub not_said : (epoch : ℕ) (bytes : List ℕ) (o : Option Message) → o ≡ None → ((m : Message) → IsMessage m → bytes ≡ bytes_of m → epoch_of m ≡ epoch → o ≡ Some m) → (m : Message) → IsMessage m → epoch_of m ≡ epoch → bytes ≡ bytes_of m → ⊥
not_said epoch bytes o none only m is of same = apart (sym none ∙ only m is same of)
  where
    apart : ◌≡◌ {A = Option Message} None (Some m) → ⊥
    apart e = cc
