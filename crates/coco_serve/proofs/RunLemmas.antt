-- A run over request lines, batch by batch. What stands in coco's lemmas too, for a history without files, is to be merged with them.
use Rattle.std.proofs.Common.{◌≡◌, false, ℕ, suc, ◌+◌, ◌-◌, ◌<◌, ◌≤◌, inl, inr, ⊎_elim, Result, Ok, Err, List, [], ◌∷◌, ◌++◌, length, map, take, Option, Some, refl, sym, ap, subst, ◌∙◌, arith, append_assoc, append-nil, length-append}
use Rattle.std.proofs.Math.Seq.{take-length, take_all}
use Rattle.std.proofs.lemmas.Bool.{cases_lt}
use Rattle.std.proofs.lemmas.List.{take-append-le}
use Rattle.std.specs.Io.KnownBytes.{append_known}
use Rattle.coco_types.specs.declared.call.Done.{Done}
use Rattle.coco_types.specs.declared.call.Request.{Request}
use Rattle.coco_append.specs.Gaining.{RestsOn}
use Rattle.coco_ast.specs.Growth.{GrowsInTurn}
use Rattle.coco_ast.specs.History.{History, IsPrefixOf, floor, kept, request_of}
use Rattle.coco_ast.specs.Tree.{Procedures}
use Rattle.coco_ast.proofs.Growths.{prefix_trans}
use Rattle.coco_ast.proofs.Lists.{all_append}
use Rattle.coco_batches.specs.Asking.{known_of}
use Rattle.coco_batches.specs.BatchReading.{TakesLines}
use Rattle.coco_cluster.specs.Around.{SkipsFew}
use Rattle.coco_cluster.specs.Standing.{StandsAt}
use Rattle.coco_cluster.specs.declared.cluster.Cluster.{Cluster}
use Rattle.coco_cluster.specs.Turning.{IsStoreOf, epochs_of}
use Rattle.coco_cluster.specs.Writing.{WritesLogs}
use Rattle.coco_cluster.proofs.BehindLemmas.{behind_later}
use Rattle.coco_cluster.proofs.WriteLemmas.{writes_none}
use Rattle.coco_host.specs.Files.{Files}
use Rattle.coco_store.specs.Rules.{Setting}
use Rattle.coco_host.specs.Moments.{Observation, SeesOnly}
use Rattle.coco_host.proofs.Sees.{started}
use Rattle.coco_host.specs.declared.host.Host.{Ghosts as HostGhosts}
use Rattle.coco_io.proofs.KnownLemmas.{append_known-nil}
use Rattle.coco_lines.specs.Answers.{answers_by, answer_by}
use Rattle.coco_lines.specs.Batches.{AreBatches, Batch as Lines, joined}
use Rattle.coco_lines.specs.Classes.{AreClasses, known_in, new_in, new_of}
use Rattle.coco_lines.specs.Growing.{GrowsByBatch, GrowsByBatches}
use Rattle.coco_lines.specs.Lines.{Line, ended_lines_of, lines_of}
use Rattle.coco_lines.specs.ReaderState.{ReaderState}
use Rattle.coco_lines.specs.Reads.{SourceMoment}
use Rattle.coco_lines.specs.declared.class.Class.{Class}
use Rattle.coco_store.specs.Contents.{Contents, history_of}
use Rattle.coco_serve.specs.Growth.{AddsWithin, AreFirstBatches, GrowsByExecution, HaveSize, IsGrown, Manner, answers_of, manner_of}
use Rattle.coco_cluster.specs.declared.stop.Stop.{Stop}
use Rattle.coco_cluster.specs.declared.stop.Stop.TheVariants as stop
use Rattle.coco_serve.specs.Seen.{IsServed, LeavesEither}
use Rattle.coco_serve.specs.Serving.{LeavesLast, ServedSoFar, RestsAt, RunEnds, SaysUpTo, Serves}
use Rattle.coco_serve.specs.declared.bounds.RunBounds.{RunBounds}
use Rattle.coco_serve.proofs.NumberLemmas.{adds_later, adds_none}

-- ---- lists of batches

pub joined-more : {A : Type 0} (xs : List (List A)) (ys : List A) → joined (xs ++ ys ∷ []) ≡ joined xs ++ ys
joined-more [] ys = append-nil ys
joined-more (x ∷ xs) ys = ap (λ l. x ++ l) (joined-more xs ys) ∙ sym (append_assoc x (joined xs) ys)

pub map-more : (xs : List (List Class)) (ys : List Class) → map new_of (xs ++ ys ∷ []) ≡ map new_of xs ++ new_of ys ∷ []
map-more [] ys = refl
map-more (x ∷ xs) ys = ap (λ l. new_of x ∷ l) (map-more xs ys)

pub batches_more : (procs : Procedures) (h : History) (bs : List Lines) (cs : List (List Class)) (g : History) (b : Lines) (c : List Class) (k : History) → GrowsByBatches procs h bs cs g
    → GrowsByBatch procs g b c k → GrowsByBatches procs h (bs ++ b ∷ []) (cs ++ c ∷ []) k
batches_more procs h [] cs g b c k all one =
    subst (λ l. GrowsByBatches procs h (b ∷ []) (l ++ c ∷ []) k) (sym all.0) (k, subst (λ x. GrowsByBatch procs x b c k) all.1 one, (refl, refl))
batches_more procs h (x ∷ bs) [] g b c k all one = absurd all
batches_more procs h (x ∷ bs) (y ∷ cs) g b c k all one = (all.0, all.1, batches_more procs all.0 bs cs g b c k all.2 one)

pub turns_more : (m : Manner) (h : History) (xs : List (List Request)) (g : History) (ys : List Request) (k : History) → GrowsInTurn (GrowsByExecution m) h xs g → GrowsByExecution m g ys k
    → GrowsInTurn (GrowsByExecution m) h (xs ++ ys ∷ []) k
turns_more m h [] g ys k all one = (k, subst (λ x. GrowsByExecution m x ys k) all one, refl)
turns_more m h (x ∷ xs) g ys k all one = (all.0, all.1, turns_more m all.0 xs g ys k all.2 one)

pub paired : (procs : Procedures) (h : History) (bs : List Lines) (cs : List (List Class)) (g : History) → GrowsByBatches procs h bs cs g → length cs ≡ length bs
paired procs h [] cs g all = ap (length {A = List Class}) all.0
paired procs h (b ∷ bs) [] g all = absurd all
paired procs h (b ∷ bs) (c ∷ cs) g all = ap suc (paired procs all.0 bs cs g all.2)

pub size_more : (size : ℕ) (bs : List Lines) (b : Lines) → HaveSize size bs → length b ≡ size → HaveSize size (bs ++ b ∷ [])
size_more size bs b all one = all_append (λ (x : Lines). length x ≡ size) bs (b ∷ []) all (one, tt)

pub cut_more : (size : ℕ) (bs : List Lines) (b : Lines) → HaveSize size bs → 0 < length b → length b ≤ size → AreBatches size (bs ++ b ∷ [])
cut_more size [] b full some fits = (some, fits)
cut_more size (x ∷ []) b full some fits = (full.0, (some, fits))
cut_more size (x ∷ y ∷ bs) b full some fits = (full.0, cut_more size (y ∷ bs) b full.1 some fits)

cut_full : (size : ℕ) (bs : List Lines) → HaveSize size bs → 0 < size → AreBatches size bs
cut_full size [] full some = tt
cut_full size (x ∷ []) full some = let e : length x ≡ size = full.0 in (omega arith, omega arith)
cut_full size (x ∷ y ∷ bs) full some = (full.0, cut_full size (y ∷ bs) full.1 some)

-- whole batches, and one more that is whole or the last
pub first_more : (size : ℕ) (bytes : List ℕ) (lines more others : List Line) (bs : List Lines) → lines ≡ joined bs → HaveSize size bs → 0 < length more → length more ≤ size → (length more < size → others ≡ [])
    → lines_of bytes ≡ (lines ++ more) ++ others → AreFirstBatches size bytes (bs ++ more ∷ [])
first_more size bytes lines more others bs are full some fits short all = record {
  others = others;
  lines = all ∙ ap (λ ls. ls ++ others) (ap (λ ls. ls ++ more) are ∙ sym (joined-more bs more));
  cut = ⊎_elim (λ less. inr (short less, cut_more size bs more full some fits)) (λ enough. inl (size_more size bs more full (omega (arith, fits, enough)))) (cases_lt (length more) size);
}

-- ---- answers

shifted : (dones : List Done) (n k : ℕ) (cs : List Class) → answers_by dones ((n + 1) + k) cs ≡ answers_by dones (n + suc k) cs
shifted dones n k cs = let e : (n + 1) + k ≡ n + suc k = omega arith in ap (λ m. answers_by dones m cs) e

pub answers-append : (dones : List Done) (n : ℕ) (xs ys : List Class) → answers_by dones n (xs ++ ys) ≡ answers_by dones n xs ++ answers_by dones (n + length xs) ys
answers-append dones n [] ys = let e : n ≡ n + 0 = omega arith in ap (λ m. answers_by dones m ys) e
answers-append dones n (x ∷ xs) ys =
    ap (λ t. answer_by dones n x ++ t) (answers-append dones (n + 1) xs ys ∙ ap (λ t. answers_by dones (n + 1) xs ++ t) (shifted dones n (length xs) ys))
    ∙ sym (append_assoc (answer_by dones n x) (answers_by dones (n + 1) xs) (answers_by dones (n + suc (length xs)) ys))

one_line : (c : Class) → length (new_in c) ≤ 1
one_line (Class.Refused e) = omega arith
one_line (Class.Same id) = omega arith
one_line (Class.New r) = omega arith

pub few_new : (cs : List Class) → length (new_of cs) ≤ length cs
few_new [] = omega arith
few_new (c ∷ cs) = (let one = one_line c in let rest = few_new cs in let both = length-append (new_in c) (new_of cs) in omega (arith, one, rest, both))

pub few_epochs : (rs : List Request) → epochs_of rs ≤ 1
few_epochs [] = omega arith
few_epochs (r ∷ rs) = omega arith

-- ---- what is known

pub known_at : (c : Contents) (k : Cluster) → StandsAt c k → known_of k.kept [] ≡ known_in (history_of c)
known_at c k s =
    let requests : map request_of k.kept.dones ++ [] ≡ map request_of (kept (history_of c)) = append-nil (map request_of k.kept.dones) ∙ ap (map request_of) s.belongs.dones in
    let low : k.kept.floor ≡ floor (history_of c) = s.belongs.floor in
    λ i. record { requests = requests i; floor = low i }

-- the classes of lines at a cluster are those in the history of a store that it stands at
pub classes_at : (c d : Contents) (k : Cluster) (lines : List Line) (cs : List Class) → StandsAt d k → d.setting ≡ c.setting → AreClasses k.procs (known_of k.kept []) lines cs
    → AreClasses c.setting.tree (known_in (history_of d)) lines cs
classes_at c d k lines cs stands same are =
    let procs_are : k.procs ≡ c.setting.tree = stands.belongs.procs ∙ ap (λ (s : Setting). s.tree) same in
    subst (λ kn. AreClasses c.setting.tree kn lines cs) (known_at d k stands) (subst (λ p. AreClasses p (known_of k.kept []) lines cs) procs_are are)

-- ---- what is seen

begins_itself : (h : History) → IsPrefixOf h h
begins_itself h = (refl, refl, ([], sym (append-nil h.epochs)))

-- the same store, its setting told otherwise, and in which no entry is of an epoch that comes later
pub moved : (s t : Setting) (h : History) (end later : ℕ) (files : Files) → s ≡ t → end ≤ later → IsStoreOf s h end files → IsStoreOf t h later files
moved s t h end later files same le store =
    record { contents = store.contents; setting = store.setting ∙ same; good = store.good; history = store.history; below = behind_later store.contents end later le store.below }

module _ (in_setting : Setting) (bounds : RunBounds) (opening : History) (next spare : ℕ) (batches : List Lines) (classes : List (List Class)) (whole : History) (said : Option (List ℕ)) where
  -- the whole history, and a front of all answers
  pub all_served : IsGrown (manner_of in_setting bounds) opening batches classes whole → (number : ℕ) → AddsWithin next number spare opening whole → (seen : Observation) → IsStoreOf in_setting whole (number + 1) seen.image
      → (part : ℕ) → Some seen.said ≡ append_known said (take part (answers_of whole classes)) → IsServed in_setting bounds opening next spare batches classes whole said seen
  all_served grown number numbers seen store part says =
      let all_batches : batches ≡ take (length batches) batches = sym (take-length batches) in
      let as_many : length classes ≡ length batches = paired in_setting.tree opening batches classes whole grown.grown in
      let all_classes : classes ≡ take (length batches) classes = sym (ap (λ n. take n classes) (sym as_many) ∙ take-length classes) in
      record {
        count = length batches;
        within = omega arith;
        history = whole;
        number = number;
        numbers = numbers;
        store = store;
        grown = subst (λ bs. IsGrown (manner_of in_setting bounds) opening bs (take (length batches) classes) whole) all_batches (subst (λ cs. IsGrown (manner_of in_setting bounds) opening batches cs whole) all_classes grown);
        begins = begins_itself whole;
        part = part;
        says = says ∙ ap (λ cs. append_known said (take part (answers_of whole cs))) all_classes;
      }

  -- where more may be skipped
  pub later_served : (more : ℕ) → spare ≤ more → (seen : Observation) → IsServed in_setting bounds opening next spare batches classes whole said seen → IsServed in_setting bounds opening next more batches classes whole said seen
  later_served more le seen s = record {
    count = s.count;
    within = s.within;
    history = s.history;
    number = s.number;
    numbers = adds_later next s.number spare more opening s.history le s.numbers;
    store = s.store;
    grown = s.grown;
    begins = s.begins;
    part = s.part;
    says = s.says;
  }

  -- with a batch more
  pub more_served : length classes ≡ length batches → (b : Lines) (c : List Class) (g : History) → IsPrefixOf whole g → (seen : Observation) → IsServed in_setting bounds opening next spare batches classes whole said seen
      → IsServed in_setting bounds opening next spare (batches ++ b ∷ []) (classes ++ c ∷ []) g said seen
  more_served as_many b c g begins seen s =
      let same_batches : take s.count batches ≡ take s.count (batches ++ b ∷ []) = sym (take-append-le s.count batches (b ∷ []) s.within) in
      let same_classes : take s.count classes ≡ take s.count (classes ++ c ∷ []) = (let w = s.within in sym (take-append-le s.count classes (c ∷ []) (omega (arith, w, as_many)))) in
      record {
        count = s.count;
        within = (let w = s.within in let l = length-append batches (b ∷ []) in omega (arith, w, l));
        history = s.history;
        number = s.number;
        numbers = s.numbers;
        store = s.store;
        grown = subst (λ bs. IsGrown (manner_of in_setting bounds) opening bs (take s.count (classes ++ c ∷ [])) s.history) same_batches
            (subst (λ cs. IsGrown (manner_of in_setting bounds) opening (take s.count batches) cs s.history) same_classes s.grown);
        begins = prefix_trans s.history whole g s.begins begins;
        part = s.part;
        says = s.says ∙ ap (λ cs. append_known said (take s.part (answers_of s.history cs))) same_classes;
      }

-- ---- between two batches

abbrev pub new_reader : ReaderState
new_reader = record { pending = []; ended = false; taken = 0; given = 0 }

-- the lines so far, and the numbers of epochs that they took at most, but for those that may be skipped
pub record AreTaken (next spare : ℕ) (reader : ReaderState) (before now : SourceMoment) (k : Cluster) : Type 0 where
  pub lines : List Line
  pub takes : TakesLines new_reader reader before now lines reader.pending
  pub given : reader.given ≡ length lines
  pub low : SkipsFew next k.next_epoch (length lines) spare

module _ {H : Type 0} (frame : HostGhosts H) where
  -- the lines so far are whole batches, a host rests on the store that they make, and all their answers are said
  pub record AreServed (c : Contents) (next spare : ℕ) (bounds : RunBounds) (lines : List Line) (k : Cluster) (first host : H) : Type 0 where
    pub batches : List Lines
    pub classes : List (List Class)
    pub d : Contents
    pub setting : d.setting ≡ c.setting
    pub lines_are : lines ≡ joined batches
    pub grown : IsGrown (manner_of c.setting bounds) (history_of c) batches classes (history_of d)
    pub whole : HaveSize bounds.size batches
    pub many : length (joined classes) ≡ length lines
    pub rests : RestsOn d (frame.reads host) (frame.may_leave host)
    pub stands : StandsAt d k
    pub says : frame.said host ≡ append_known (frame.said first) (answers_of (history_of d) classes)
    pub moments : SeesOnly frame.moment frame.observed first host (IsServed c.setting bounds (history_of c) next spare batches classes (history_of d) (frame.said first))
    pub numbers : AddsWithin next k.next_epoch spare (history_of c) (history_of d)
    pub others : WritesLogs c.setting (frame.reads first) (frame.reads host) (frame.may_leave first) (frame.may_leave host)

  abbrev pub OnlyNow : Type 0
  OnlyNow = (host : H) (seen : Observation) → frame.observed host (frame.moment host) seen → frame.may_leave host seen.image × (frame.said host ≡ Some seen.said)

  abbrev pub SeenNow : Type 0
  SeenNow = (host : H) (t : ℕ) (seen : Observation) → t ≤ frame.moment host → frame.may_leave host seen.image → frame.said host ≡ Some seen.said → frame.observed host t seen

  pub served_new : OnlyNow → (c : Contents) (spare : ℕ) (bounds : RunBounds) (k : Cluster) (host : H) → RestsOn c (frame.reads host) (frame.may_leave host) → StandsAt c k → AreServed c k.next_epoch spare bounds [] k host host
  served_new only_now c spare bounds k host rests stands = record {
    batches = [];
    classes = [];
    d = c;
    setting = refl;
    lines_are = refl;
    grown = record { grown = (refl, refl); executed = refl };
    whole = tt;
    many = refl;
    rests = rests;
    stands = stands;
    says = sym (append_known-nil (frame.said host));
    moments = started frame.moment frame.observed host (IsServed c.setting bounds (history_of c) k.next_epoch spare [] [] (history_of c) (frame.said host)) (λ seen since.
        let now = only_now host seen since in
        all_served c.setting bounds (history_of c) k.next_epoch spare [] [] (history_of c) (frame.said host) (record { grown = (refl, refl); executed = refl }) k.next_epoch none seen
        (record { contents = c; setting = refl; good = rests.left seen.image now.0; history = refl; below = behind_later c k.next_epoch (k.next_epoch + 1) (omega arith) stands.next }) 0 (sym now.1 ∙ sym (append_known-nil (frame.said host))));
    numbers = none;
    others = writes_none c.setting (frame.reads host) (frame.reads host) (frame.may_leave host) (frame.may_leave host) refl (λ image left. left);
  }
    where
      none : AddsWithin k.next_epoch k.next_epoch spare (history_of c) (history_of c)
      none = adds_none k.next_epoch k.next_epoch spare (history_of c) (record { low = omega arith; few = omega arith })

  -- what is left at exit was seen
  pub left_by : SeenNow → (first host : H) (P : Observation → Type 0) → SeesOnly frame.moment frame.observed first host P → (seen : Observation) → frame.said host ≡ Some seen.said → frame.may_leave host seen.image → P seen
  left_by seen_now first host P sees seen spoke leaves = sees.each seen (seen_now host (frame.moment first) seen sees.later leaves spoke)

  -- ---- where a run ends between two batches

  module _ (seen_now : SeenNow) (c : Contents) (next spare : ℕ) (bounds : RunBounds) (lines : List Line) (k : Cluster) (first host : H) (a : AreServed c next spare bounds lines k first host) (bytes : List ℕ) (others : List Line)
      (all : lines_of bytes ≡ lines ++ others) where
    abbrev tree : Procedures
    tree = c.setting.tree

    abbrev manner : Manner
    manner = manner_of c.setting bounds

    abbrev h : History
    h = history_of a.d

    abbrev still : ServedSoFar manner (history_of c) next spare bounds.size bytes
    still = record {
      batches = a.batches;
      classes = a.classes;
      history = h;
      grown = a.grown;
      end = k.next_epoch;
      numbers = a.numbers;
      first = record { others = others; lines = all ∙ ap (λ ls. ls ++ others) a.lines_are; cut = inl a.whole };
    }

    ended_so : (e : Result (Unit {0}) Stop) → RunEnds c next spare bounds bytes still (frame.said first) (frame.said host) (frame.reads host) (frame.may_leave host) e → Serves frame c next spare bounds bytes e first host
    ended_so e ends = record {
      progress = still;
      moments = a.moments;
      left = left_by seen_now first host (IsServed c.setting bounds (history_of c) next spare a.batches a.classes h (frame.said first)) a.moments;
      others = a.others;
      ends = ends;
    }

    rests_at : RestsAt c.setting h k.next_epoch (frame.reads host) (frame.may_leave host)
    rests_at = (a.d, a.setting, refl, a.stands.next, a.rests)

    leaves_one : LeavesEither c.setting h h (k.next_epoch + 1) (frame.said host) (frame.may_leave host)
    leaves_one bytes spoke image leaves =
        inl (record { contents = a.d; setting = a.setting; good = a.rests.left image leaves; history = refl; below = behind_later a.d k.next_epoch (k.next_epoch + 1) (omega arith) a.stands.next })

    all_batches : IsGrown manner (history_of c) (take (length a.batches) a.batches) (take (length a.batches) a.classes) h
    all_batches =
        let as_many : length a.classes ≡ length a.batches = paired tree (history_of c) a.batches a.classes h a.grown.grown in
        subst (λ bs. IsGrown manner (history_of c) bs (take (length a.batches) a.classes) h) (sym (take-length a.batches))
        (subst (λ cs. IsGrown manner (history_of c) a.batches cs h) (sym (ap (λ n. take n a.classes) (sym as_many) ∙ take-length a.classes)) a.grown)

    all_classes : take (length a.batches) a.classes ≡ a.classes
    all_classes = ap (λ n. take n a.classes) (sym (paired tree (history_of c) a.batches a.classes h a.grown.grown)) ∙ take-length a.classes

    leaves_by : (Says : History → List (List Class) → Type 0) → Says h a.classes → LeavesLast c.setting bounds (history_of c) next spare a.batches a.classes h Says (frame.said host) (frame.may_leave host)
    leaves_by Says says = record {
      count = length a.batches;
      last = inl refl;
      history = h;
      grown = all_batches;
      number = k.next_epoch;
      numbers = a.numbers;
      says = subst (Says h) (sym all_classes) says;
      left = leaves_one;
    }

    -- all that is said may be said to be a part
    says_whole : SaysUpTo (frame.said first) (frame.said host) h a.classes
    says_whole =
        let whole = answers_of h a.classes in
        let front = answers_of h (take (length a.classes - 1) a.classes) in
        record {
          part = length whole + length front;
          says = a.says ∙ ap (append_known (frame.said first)) (sym (take_all (length whole + length front) whole (omega arith)));
          most = omega arith;
        }

    pub memory_ran_out : Serves frame c next spare bounds bytes (Err stop.NoMemory) first host
    memory_ran_out = ended_so (Err stop.NoMemory) (leaves_by (SaysUpTo (frame.said first) (frame.said host)) says_whole)

    pub read_failed : (rest : List Line) → ended_lines_of bytes ≡ lines ++ rest → length rest < bounds.size → Serves frame c next spare bounds bytes (Err stop.Read) first host
    read_failed rest ended few = ended_so (Err stop.Read) (
      record { whole = a.whole; others = rest; lines = ended ∙ ap (λ ls. ls ++ rest) a.lines_are; few = few },
      rests_at,
      a.says,
    )

    pub finished : others ≡ [] → 0 < bounds.size → Serves frame c next spare bounds bytes (Ok tt) first host
    finished none some = ended_so (Ok tt) (
      (all ∙ ap (λ ls. lines ++ ls) none ∙ append-nil lines ∙ a.lines_are, cut_full bounds.size a.batches a.whole some),
      rests_at,
      a.says,
    )
