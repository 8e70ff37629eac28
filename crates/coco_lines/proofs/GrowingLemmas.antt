-- Two histories that grew from one by the same batches know the same requests, and lines that come first have the same classes, whatever comes behind.
use Rattle.std.proofs.Common.{◌≡◌, refl, sym, ap, subst, ◌∙◌, append-nil, append_assoc, arith, ℕ, ◌+◌, ◌<◌, ◌≤◌, Bool, true, false, not, ◌||◌, nat_lt, nat_le, max, List, [], ◌∷◌, ◌++◌, length, map, filter, take, drop, Option, None, Some, IsPermutation, ⊎_elim}
use Rattle.std.specs.List.{AllByRecursion, list_any}
use Rattle.std.proofs.Math.Seq.{take-append-add}
use Rattle.std.proofs.lemmas.Bool.{cases_lt}
use Rattle.std.proofs.lemmas.Bool.Decides.{nat_tests}
use Rattle.std.proofs.lemmas.List.{length-append, length-drop, length-map, take_at, take-append-le, drop_at, drop-append-le}
use Rattle.std.proofs.lemmas.List.Sorted.{IsPermutation-trans, IsPermutation-sym, IsPermutation-append_right, length_permutation, list_any-IsPermutation}
use Rattle.coco_types.specs.declared.call.Done.{Done}
use Rattle.coco_types.specs.declared.call.Request.{Request}
use Rattle.coco_ast.specs.Growth.{GrowsBy, IsEpochOf}
use Rattle.coco_ast.specs.History.{History, Epoch, RisesAbove, all_dones, dones_in, epoch_dones, epochs_above, followed_by, greatest_with, ids_of, is_up_to, kept, kept_of, forgotten_of, floor, last_epoch, last_number, request_of}
use Rattle.coco_ast.specs.Tree.{Procedures}
use Rattle.coco_ast.proofs.Lists.{all_append}
use Rattle.coco_lines.specs.Batches.{AreBatches, Batch, joined}
use Rattle.coco_lines.specs.Classes.{known_in, AreClasses, new_of}
use Rattle.coco_lines.specs.Growing.{GrowsByBatches}
use Rattle.coco_lines.specs.Lines.{Line}
use Rattle.coco_lines.specs.declared.class.Class.{Class}
use Rattle.coco_lines.proofs.ClassLemmas.{AreAlike, classes_length, one_front, one_list}
use Rattle.coco_lines.proofs.RankLemmas.{AreEpochs, AreAlike as EpochsAreAlike, alike_length, selected, selected_alike, selected_behind}

-- ---- what a history knows behind so many epochs

-- the epochs that a history has grown by
abbrev behind : History → List Epoch → History
behind h es = record h { epochs = h.epochs ++ es }

dones_append : (es fs : List Epoch) → dones_in (es ++ fs) ≡ dones_in es ++ dones_in fs
dones_append [] fs = refl
dones_append (e ∷ es) fs = ap (λ l. e.dones ++ l) (dones_append es fs) ∙ sym (append_assoc e.dones (dones_in es) (dones_in fs))

all_behind : (h : History) (es : List Epoch) → all_dones (behind h es) ≡ all_dones h ++ dones_in es
all_behind h es = ap (λ l. h.base.kept ++ l) (dones_append h.epochs es) ∙ sym (append_assoc h.base.kept (epoch_dones h) (dones_in es))

-- the requests of the Dones that pass by the number of epochs behind theirs
abbrev passing : (ℕ → Bool) → List Done → List Request
passing q ds = map request_of (filter (λ d. q (epochs_above d.epoch ds)) ds)

passing_alike : (q : ℕ → Bool) (h : History) (es fs : List Epoch) → AllByRecursion (λ d. d.epoch ≤ last_epoch h) (all_dones h) → AreEpochs (last_epoch h) es → AreEpochs (last_epoch h) fs → EpochsAreAlike es fs
    → IsPermutation (passing q (all_dones (behind h es))) (passing q (all_dones (behind h fs)))
passing_alike q h es fs low first second alike =
    let old : ℕ → List Request = λ n. map request_of (filter (λ d. q (epochs_above d.epoch (all_dones h) + n)) (all_dones h)) in
    let one : passing q (all_dones (behind h es)) ≡ old (length es) ++ selected q es = ap (passing q) (all_behind h es) ∙ selected_behind q (last_epoch h) (all_dones h) es low first in
    let two : passing q (all_dones (behind h fs)) ≡ old (length es) ++ selected q fs =
    ap (passing q) (all_behind h fs) ∙ selected_behind q (last_epoch h) (all_dones h) fs low second ∙ ap (λ n. old n ++ selected q fs) (sym (alike_length es fs alike)) in
    subst (λ l. IsPermutation l (passing q (all_dones (behind h fs)))) (sym one)
    (subst (λ l. IsPermutation (old (length es) ++ selected q es) l) (sym two) (IsPermutation-append_right (old (length es)) (selected q es) (selected q fs) (selected_alike q es fs alike)))

-- whether so many epochs behind let a Done be kept
abbrev lets : Option ℕ → ℕ → Bool
lets None n = true
lets (Some k) n = nat_lt n k

kept_passing : (keep : Option ℕ) (ds : List Done) → map request_of (kept_of keep ds) ≡ passing (lets keep) ds
kept_passing None ds = refl
kept_passing (Some k) ds = refl

forgotten_passing : (keep : Option ℕ) (ds : List Done) → map request_of (forgotten_of keep ds) ≡ passing (λ n. not (lets keep n)) ds
forgotten_passing None ds = refl
forgotten_passing (Some k) ds = refl

-- ---- floors

or_false : (b : Bool) → b ≡ (b || false)
or_false true = refl
or_false false = refl

or_assoc : (a b c : Bool) → ((a || b) || c) ≡ (a || (b || c))
or_assoc true b c = refl
or_assoc false b c = refl

at_most_one : (n m k : ℕ) → nat_le k (max n m) ≡ (nat_le k n || nat_le k m)
at_most_one n m k = grind (arith, nat_tests)

abbrev reaches : Request → List Request → Bool
reaches r rs = list_any (λ (q : Request). nat_le r.id q.id) rs

old_by_any : (f : Option ℕ) (ds : List Done) (r : Request) → is_up_to (greatest_with f (ids_of ds)) r.id ≡ (is_up_to f r.id || reaches r (map request_of ds))
old_by_any f [] r = or_false (is_up_to f r.id)
old_by_any None (d ∷ ds) r = old_by_any (Some d.id) ds r
old_by_any (Some n) (d ∷ ds) r =
    old_by_any (Some (max n d.id)) ds r ∙ ap (λ b. b || reaches r (map request_of ds)) (at_most_one n d.id r.id) ∙ or_assoc (nat_le r.id n) (nat_le r.id d.id) (reaches r (map request_of ds))

-- ---- what is known

module _ (h : History) (es fs : List Epoch) (low : AllByRecursion (λ d. d.epoch ≤ last_epoch h) (all_dones h)) (first : AreEpochs (last_epoch h) es) (second : AreEpochs (last_epoch h) fs)
    (alike : EpochsAreAlike es fs) where
  kept_alike : IsPermutation (map request_of (kept (behind h es))) (map request_of (kept (behind h fs)))
  kept_alike =
      subst (λ l. IsPermutation l (map request_of (kept (behind h fs)))) (sym (kept_passing h.keep (all_dones (behind h es))))
      (subst (λ l. IsPermutation (passing (lets h.keep) (all_dones (behind h es))) l) (sym (kept_passing h.keep (all_dones (behind h fs)))) (passing_alike (lets h.keep) h es fs low first second alike))

  floors_alike : (r : Request) → is_up_to (floor (behind h es)) r.id ≡ is_up_to (floor (behind h fs)) r.id
  floors_alike r =
      let q : ℕ → Bool = λ n. not (lets h.keep n) in
      let gone : List Epoch → List Done = λ xs. forgotten_of h.keep (all_dones (behind h xs)) in
      let same : reaches r (map request_of (gone es)) ≡ reaches r (map request_of (gone fs)) =
      ap (reaches r) (forgotten_passing h.keep (all_dones (behind h es)))
      ∙ list_any-IsPermutation (λ (p : Request). nat_le r.id p.id) (passing q (all_dones (behind h es))) (passing q (all_dones (behind h fs))) (passing_alike q h es fs low first second alike)
      ∙ ap (reaches r) (sym (forgotten_passing h.keep (all_dones (behind h fs)))) in
      old_by_any h.base.floor (gone es) r ∙ ap (λ b. is_up_to h.base.floor r.id || b) same ∙ sym (old_by_any h.base.floor (gone fs) r)

  pub known_alike : AreAlike (known_in (behind h es)) (known_in (behind h fs))
  known_alike = record { requests = kept_alike; floors = floors_alike }

-- ---- growth by the same requests

last_append : (m : ℕ) (xs es : List Epoch) → last_number m (xs ++ es) ≡ last_number (last_number m xs) es
last_append m [] es = refl
last_append m (x ∷ xs) es = last_append x.number xs es

rises_push : (m : ℕ) (es : List Epoch) (e : Epoch) → RisesAbove m (map (λ x. x.number) es) → last_number m es < e.number → RisesAbove m (map (λ x. x.number) (es ++ e ∷ []))
rises_push m [] e rises less = (less, tt)
rises_push m (x ∷ es) e rises less = (rises.0, rises_push x.number es e rises.1 less)

some_dones : (r : Request) (rs : List Request) (ds : List Done) → IsPermutation (r ∷ rs) (map request_of ds) → 0 < length ds
some_dones r rs ds each = omega (arith, length_permutation (r ∷ rs) (map request_of ds) each, length-map ds request_of)

epochs_push : (h : History) (es : List Epoch) (r : Request) (rs : List Request) (e : Epoch) → AreEpochs (last_epoch h) es → last_epoch (behind h es) < e.number → IsEpochOf (r ∷ rs) e
    → AreEpochs (last_epoch h) (es ++ e ∷ [])
epochs_push h es r rs e are less is = record {
  rise = rises_push (last_epoch h) es e are.rise (subst (λ n. n < e.number) (last_append h.base.epoch h.epochs es) less);
  numbered = all_append (λ (x : Epoch). AllByRecursion (λ d. d.epoch ≡ x.number) x.dones) es (e ∷ []) are.numbered (is.numbered, tt);
  some = all_append (λ (x : Epoch). 0 < length x.dones) es (e ∷ []) are.some (some_dones r rs e.dones is.each, tt);
}

alike_push : (es fs : List Epoch) (e f : Epoch) → EpochsAreAlike es fs → IsPermutation (map request_of e.dones) (map request_of f.dones) → EpochsAreAlike (es ++ e ∷ []) (fs ++ f ∷ [])
alike_push [] fs e f a p = subst (λ l. EpochsAreAlike (e ∷ []) (l ++ f ∷ [])) (sym a) (p, refl)
alike_push (x ∷ es) [] e f a p = absurd a
alike_push (x ∷ es) (y ∷ fs) e f a p = (a.0, alike_push es fs e f a.1 p)

-- two histories, each one and the same with epochs of its own behind it, which are those of the same requests
pub record AreTwins (h g k : History) : Type 0 where
  pub es : List Epoch
  pub fs : List Epoch
  pub one : g ≡ behind h es
  pub two : k ≡ behind h fs
  pub first : AreEpochs (last_epoch h) es
  pub second : AreEpochs (last_epoch h) fs
  pub alike : EpochsAreAlike es fs

abbrev IsLow : History → Type 0
IsLow h = AllByRecursion (λ d. d.epoch ≤ last_epoch h) (all_dones h)

twins_known : (h g k : History) → IsLow h → AreTwins h g k → AreAlike (known_in g) (known_in k)
twins_known h g k low t =
    subst (λ x. AreAlike (known_in x) (known_in k)) (sym t.one) (subst (λ x. AreAlike (known_in (behind h t.es)) (known_in x)) (sym t.two) (known_alike h t.es t.fs low t.first t.second t.alike))

twins_grow : (h g k : History) (rs : List Request) (g' k' : History) → AreTwins h g k → GrowsBy g rs g' → GrowsBy k rs k' → AreTwins h g' k'
twins_grow h g k [] g' k' t one two = record { es = t.es; fs = t.fs; one = one ∙ t.one; two = two ∙ t.two; first = t.first; second = t.second; alike = t.alike }
twins_grow h g k (r ∷ rs) g' k' t one two =
    let e = one.0 in
    let f = two.0 in
    record {
      es = t.es ++ e ∷ [];
      fs = t.fs ++ f ∷ [];
      one = one.3 ∙ ap (λ x. followed_by x e) t.one ∙ ap (λ l. record h { epochs = l }) (append_assoc h.epochs t.es (e ∷ []));
      two = two.3 ∙ ap (λ x. followed_by x f) t.two ∙ ap (λ l. record h { epochs = l }) (append_assoc h.epochs t.fs (f ∷ []));
      first = epochs_push h t.es r rs e t.first (subst (λ x. last_epoch x < e.number) t.one one.1) one.2;
      second = epochs_push h t.fs r rs f t.second (subst (λ x. last_epoch x < f.number) t.two two.1) two.2;
      alike = alike_push t.es t.fs e f t.alike (IsPermutation-trans (map request_of e.dones) (r ∷ rs) (map request_of f.dones) (IsPermutation-sym (r ∷ rs) (map request_of e.dones) one.2.each) two.2.each);
    }

pub twins : (procs : Procedures) (h : History) → IsLow h → (bs : List Batch) (cs ds : List (List Class)) (g k g' k' : History) → AreTwins h g k
    → GrowsByBatches procs g bs cs g' → GrowsByBatches procs k bs ds k' → (cs ≡ ds) × AreTwins h g' k'
twins procs h low [] cs ds g k g' k' t one two =
    (one.0 ∙ sym two.0, subst (λ x. AreTwins h x k') (sym one.1) (subst (λ x. AreTwins h g x) (sym two.1) t))
twins procs h low (b ∷ bs) [] ds g k g' k' t one two = absurd one
twins procs h low (b ∷ bs) (c ∷ cs) [] g k g' k' t one two = absurd two
twins procs h low (b ∷ bs) (c ∷ cs) (d ∷ ds) g k g' k' t one two =
    let same : c ≡ d = one_list procs (known_in g) (known_in k) b c d (twins_known h g k low t) one.1.are two.1.are in
    let grown = twins_grow h g k (new_of c) one.0 two.0 t one.1.grows (subst (λ x. GrowsBy k (new_of x) two.0) (sym same) two.1.grows) in
    let rest = twins procs h low bs cs ds one.0 two.0 g' k' grown one.2 two.2 in
    (ap (λ x. x ∷ cs) same ∙ ap (λ l. d ∷ l) rest.0, rest.1)

pub itself : (h : History) → AreTwins h h h
itself h = record {
  es = [];
  fs = [];
  one = ap (λ l. record h { epochs = l }) (sym (append-nil h.epochs));
  two = ap (λ l. record h { epochs = l }) (sym (append-nil h.epochs));
  first = record { rise = tt; numbered = tt; some = tt };
  second = record { rise = tt; numbered = tt; some = tt };
  alike = refl;
}

-- the classes of the batches' lines, and those of whatever lines come next
pub one_list_of_all : (procs : Procedures) (h : History) → IsLow h → (bs : List Batch) (cs ds : List (List Class)) (g k : History) → GrowsByBatches procs h bs cs g → GrowsByBatches procs h bs ds k
    → (cs ≡ ds) × ((lines : List Line) (next other : List Class) → AreClasses procs (known_in g) lines next → AreClasses procs (known_in k) lines other → next ≡ other)
one_list_of_all procs h low bs cs ds g k one two =
    let t = twins procs h low bs cs ds h h g k (itself h) one two in
    (t.0, λ lines next other is also. one_list procs (known_in g) (known_in k) lines next other (twins_known h g k low t.1) is also)

-- ---- lines in front, however many lines come behind them

none_in_front : {X Y : Type 0} (front xs : List X) (cs ds : List Y) → [] ≡ front ++ xs → take (length front) cs ≡ take (length front) ds
none_in_front [] xs cs ds is = refl
none_in_front (x ∷ front) xs cs ds is = cc

-- one list in two ways
in_two_ways : {X : Type 0} (own rest front xs : List X) (n : ℕ) → own ++ rest ≡ front ++ xs → length own ≡ n → n ≤ length front → (own ≡ take n front) × (rest ≡ drop n front ++ xs)
in_two_ways own rest front xs n is long within =
    (sym (take_at own rest n long) ∙ ap (take n) is ∙ take-append-le n front xs within, sym (drop_at own rest n long) ∙ ap (drop n) is ∙ drop-append-le n front xs within)

take_both : {X : Type 0} (n m : ℕ) (front xs ys : List X) → n ≡ length front + m → take m xs ≡ take m ys → take n (front ++ xs) ≡ take n (front ++ ys)
take_both n m front xs ys is same =
    ap (λ i. take i (front ++ xs)) is ∙ take-append-add front xs m ∙ ap (λ l. front ++ l) same ∙ sym (take-append-add front ys m) ∙ ap (λ i. take i (front ++ ys)) (sym is)

cut_behind : (size : ℕ) (b : Batch) (bs : List Batch) → AreBatches size (b ∷ bs) → AreBatches size bs
cut_behind size b [] cut = tt
cut_behind size b (c ∷ bs) cut = cut.1

-- where so many lines fit in a batch, those in front are all in the first one
all_in_first : (size : ℕ) (b : Batch) (bs : List Batch) (front xs : List Line) → AreBatches size (b ∷ bs) → joined (b ∷ bs) ≡ front ++ xs → length front ≤ size → length front ≤ length b
all_in_first size b [] front xs cut is fit = omega (arith, ap length (sym (append-nil b) ∙ is), length-append front xs)
all_in_first size b (c ∷ bs) front xs cut is fit = let whole : length b ≡ size = cut.0 in omega arith

-- where they don't, the first one is whole
first_whole : (size : ℕ) (b : Batch) (bs : List Batch) (front xs : List Line) → AreBatches size (b ∷ bs) → joined (b ∷ bs) ≡ front ++ xs → size < length front → length b ≡ size
first_whole size b [] front xs cut is more =
    let most : length b ≤ size = cut.1 in
    omega (arith, ap length (sym (append-nil b) ∙ is), length-append front xs)
first_whole size b (c ∷ bs) front xs cut is more = cut.0

-- they have one list of classes: the whole batches of them are the same batches, and the one that ends them has the same first lines
module _ (procs : Procedures) (h : History) (low : IsLow h) (size : ℕ) where
  pub one_front_of_all : (bs es : List Batch) (front xs ys : List Line) (cs ds : List (List Class)) (g k g' k' : History) → AreTwins h g k → AreBatches size bs → AreBatches size es
      → joined bs ≡ front ++ xs → joined es ≡ front ++ ys → GrowsByBatches procs g bs cs g' → GrowsByBatches procs k es ds k' → take (length front) (joined cs) ≡ take (length front) (joined ds)
  one_front_of_all [] es front xs ys cs ds g k g' k' t cut recut is also one two = none_in_front front xs (joined cs) (joined ds) is
  one_front_of_all (b ∷ bs) [] front xs ys cs ds g k g' k' t cut recut is also one two = none_in_front front ys (joined cs) (joined ds) also
  one_front_of_all (b ∷ bs) (e ∷ es) front xs ys [] ds g k g' k' t cut recut is also one two = absurd one
  one_front_of_all (b ∷ bs) (e ∷ es) front xs ys (c ∷ cs) [] g k g' k' t cut recut is also one two = absurd two
  one_front_of_all (b ∷ bs) (e ∷ es) front xs ys (c ∷ cs) (d ∷ ds) g k g' k' t cut recut is also one two =
      let n = length front in
      let alike = twins_known h g k low t in
      let c_long = classes_length procs (known_in g) b c one.1.are in
      let d_long = classes_length procs (known_in k) e d two.1.are in
      ⊎_elim
      (λ more.
      let b_long = first_whole size b bs front xs cut is more in
      let e_long = first_whole size e es front ys recut also more in
      let left = in_two_ways b (joined bs) front xs size is b_long (omega arith) in
      let right = in_two_ways e (joined es) front ys size also e_long (omega arith) in
      let same : c ≡ d = one_list procs (known_in g) (known_in k) b c d alike one.1.are (subst (λ ls. AreClasses procs (known_in k) ls d) (right.0 ∙ sym left.0) two.1.are) in
      let grown = twins_grow h g k (new_of c) one.0 two.0 t one.1.grows (subst (λ x. GrowsBy k (new_of x) two.0) (sym same) two.1.grows) in
      let rest = one_front_of_all bs es (drop size front) xs ys cs ds one.0 two.0 g' k' grown (cut_behind size b bs cut) (cut_behind size e es recut) left.1 right.1 one.2 two.2 in
      take_both n (length (drop size front)) c (joined cs) (joined ds) (omega (arith, c_long, b_long, length-drop size front)) rest ∙ ap (λ x. take n (x ++ joined ds)) same)
      (λ fit.
      let b_holds = all_in_first size b bs front xs cut is fit in
      let e_holds = all_in_first size e es front ys recut also fit in
      let left = in_two_ways front xs b (joined bs) n (sym is) refl b_holds in
      let right = in_two_ways front ys e (joined es) n (sym also) refl e_holds in
      take-append-le n c (joined cs) (omega (arith, c_long)) ∙ one_front procs (known_in g) (known_in k) n b e c d alike (sym left.0 ∙ right.0) one.1.are two.1.are
      ∙ sym (take-append-le n d (joined ds) (omega (arith, d_long))))
      (cases_lt size n)
