-- Letters of a node one after another, on all lines and tables.
use Rattle.std.proofs.Common.{◌≡◌, ℕ, zero, suc, ◌+◌, ◌*◌, ◌<◌, List, [], ◌∷◌, ◌++◌, length, take, get_or, Some, refl, sym, ap, ◌∙◌, subst, arith}
use Rattle.std.specs.List.{slice_get}
use Rattle.std.proofs.lemmas.List.{take_more}
use Rattle.coco_net.specs.declared.letter.Letter.{Letter}
use Rattle.coco_net.specs.declared.letter.Posted.{Posted}
use Rattle.coco_net.specs.Mail.{letters_to}
use Rattle.coco_net.proofs.MailLemmas.{letters_to-append}
use Rattle.coco_copy.specs.CopyState.{CopyState}
use Rattle.coco_ship.specs.declared.line.Line.{Line}
use Rattle.coco_ship.specs.declared.ring.Ring.{Ring}
use Rattle.coco_ship.specs.Letters.{Gains}
use Rattle.coco_ship.specs.Placing.{holder_of, table_of, IsCopy}
use Rattle.coco_ship.specs.Taking.{at_node, Brings, Hears, OfBoth, OfTables}
use Rattle.coco_ship.proofs.HearLemmas.{gains_then, hears_then}
use Rattle.coco_ship.proofs.Tables.{below_all}

-- a list of as many items as there are copies has one for each
pub item_at : {X : Type 0} (ring : Ring) (xs : List X) → length xs ≡ ring.partitions * ring.copies → (p j : ℕ) → IsCopy ring p j → (x : X) × (slice_get xs (table_of ring p j) ≡ Some x)
item_at ring xs count p j copy = read xs (table_of ring p j) (let inside : table_of ring p j < ring.partitions * ring.copies = below_all ring.partitions ring.copies p j copy.partition copy.copy in omega (arith, inside, count))
  where
    read : {X : Type 0} (xs : List X) (i : ℕ) → i < length xs → (x : X) × (slice_get xs i ≡ Some x)
    read [] i h = absurd (omega (arith, h))
    read (x ∷ xs) zero h = (x, refl)
    read (x ∷ xs) (suc i) h = read xs i (omega (arith, h))

pub both_then : (ring : Ring) (R S T : ℕ → ℕ → Line → CopyState → Line → CopyState → Type 0) → ((p j : ℕ) (l : Line) (t : CopyState) (m : Line) (u : CopyState) (n : Line) (v : CopyState) → R p j l t m u → S p j m u n v → T p j l t n v)
    → (ls : List Line) (ts : List CopyState) (ms : List Line) (us : List CopyState) (ns : List Line) (vs : List CopyState) → length ms ≡ ring.partitions * ring.copies → length us ≡ ring.partitions * ring.copies
    → OfBoth ring R ls ts ms us → OfBoth ring S ms us ns vs → OfBoth ring T ls ts ns vs
both_then ring R S T join ls ts ms us ns vs lines tables first second p j copy l t n v l_is t_is n_is v_is =
    let m = item_at ring ms lines p j copy in
    let u = item_at ring us tables p j copy in
    join p j l t m.0 u.0 n v (first p j copy l t m.0 u.0 l_is t_is m.1 u.1) (second p j copy m.0 u.0 n v m.1 u.1 n_is v_is)

pub tables_then : (ring : Ring) (R S T : ℕ → ℕ → CopyState → CopyState → Type 0) → ((p j : ℕ) (t u v : CopyState) → R p j t u → S p j u v → T p j t v)
    → (ts us vs : List CopyState) → length us ≡ ring.partitions * ring.copies → OfTables ring R ts us → OfTables ring S us vs → OfTables ring T ts vs
tables_then ring R S T join ts us vs tables first second p j copy t v t_is v_is =
    let u = item_at ring us tables p j copy in
    join p j t u.0 v (first p j copy t u.0 t_is u.1) (second p j copy u.0 v u.1 v_is)

pub hears_both : (ring : Ring) (epoch : ℕ) (xs ys : List Posted) (ls : List Line) (ts : List CopyState) (ms : List Line) (us : List CopyState) (ns : List Line) (vs : List CopyState) → length ms ≡ ring.partitions * ring.copies → length us ≡ ring.partitions * ring.copies
    → OfBoth ring (Hears ring epoch xs) ls ts ms us → OfBoth ring (Hears ring epoch ys) ms us ns vs → OfBoth ring (Hears ring epoch (xs ++ ys)) ls ts ns vs
hears_both ring epoch xs ys ls ts ms us ns vs lines tables first second =
    both_then ring (Hears ring epoch xs) (Hears ring epoch ys) (Hears ring epoch (xs ++ ys)) (hears_then ring epoch xs ys) ls ts ms us ns vs lines tables first second

pub brings_both : (ring : Ring) (epoch : ℕ) (xs ys : List Posted) (ts us vs : List CopyState) → length us ≡ ring.partitions * ring.copies
    → OfTables ring (Brings ring epoch xs) ts us → OfTables ring (Brings ring epoch ys) us vs → OfTables ring (Brings ring epoch (xs ++ ys)) ts vs
brings_both ring epoch xs ys ts us vs tables first second =
    tables_then ring (Brings ring epoch xs) (Brings ring epoch ys) (Brings ring epoch (xs ++ ys)) joined ts us vs tables first second
  where
    joined : (p j : ℕ) (t u v : CopyState) → Brings ring epoch xs p j t u → Brings ring epoch ys p j u v → Brings ring epoch (xs ++ ys) p j t v
    joined p j t u v first second =
        subst (λ ls. Gains epoch p ls t v) (sym (letters_to-append (holder_of ring p j) xs ys)) (gains_then epoch p (letters_to (holder_of ring p j) xs) (letters_to (holder_of ring p j) ys) t u v first second)

-- one letter more
pub at_node_more : (node : ℕ) (letters : List Letter) (i : ℕ) (letter : Letter) → i < length letters → letter ≡ get_or letters i letter → at_node node (take (i + 1) letters) ≡ at_node node (take i letters) ++ at_node node (letter ∷ [])
at_node_more node letters i letter h is =
    ap (at_node node) (take_more letters i letter h ∙ ap (λ l. take i letters ++ l ∷ []) (sym is)) ∙ joined (take i letters) (letter ∷ [])
  where
    joined : (xs ys : List Letter) → at_node node (xs ++ ys) ≡ at_node node xs ++ at_node node ys
    joined [] ys = refl
    joined (x ∷ xs) ys = ap (λ ps. record { to = node; letter = x } ∷ ps) (joined xs ys)
