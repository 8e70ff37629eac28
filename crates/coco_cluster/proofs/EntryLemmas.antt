-- The entries that files and the worlds of nodes and coordinator have, from call to call.
use Rattle.std.proofs.Common.{append-nil, ◌≡◌, ◌≢◌, ⊎_elim, ℕ, ◌+◌, ◌<◌, ◌≤◌, max, Bool, true, false, ◌||◌, eqb, nat_eq, List, [], ◌∷◌, ◌++◌, length, Option, Some, None, Result, Ok, Err, refl, sym, ap, ◌∙◌, subst, arith}
use Rattle.std.specs.Global.{Vec}
use Rattle.std.specs.Set.{is_member}
use Rattle.std.proofs.lemmas.Bool.{eq-eqb, ne_eqb}
use Rattle.std.proofs.lemmas.List.{append_assoc, map-append}
use Rattle.coco_append.specs.Gaining.{RestsOn}
use Rattle.coco_chief.specs.Chief.{has}
use Rattle.coco_entry.specs.declared.commit.Commit.{Commit}
use Rattle.coco_entry.specs.declared.prepared.Prepared.{Prepared}
use Rattle.coco_host.specs.Files.{Files}
use Rattle.coco_letters.specs.Worlds.{Arrives, Commits, GoesBetween, IsWorld, SameEntries, Scene}
use Rattle.coco_letters.proofs.WorldLemmas.{goes_then}
use Rattle.coco_members.proofs.OpenedLemmas.{has_is}
use Rattle.coco_members.specs.AtRest.{scene_of}
use Rattle.coco_members.specs.Opened.{HasEntries}
use Rattle.coco_members.specs.declared.members.Members.{Members}
use Rattle.coco_net.specs.declared.letter.Posted.{Posted}
use Rattle.coco_node.specs.Node.{greatest}
use Rattle.coco_store.proofs.OneStore.{one_store}
use Rattle.coco_store.specs.Contents.{Contents, Holds, IsGoodStore}
use Rattle.coco_store.specs.Laws.{AreSame, with_commit}
use Rattle.coco_store.specs.Rules.{Setting, commit_epochs, prepared_epochs}
use Rattle.coco_types.specs.declared.call.Done.{Done}
use Rattle.coco_types.specs.declared.call.Piece.{Piece}
use Rattle.coco_types.specs.declared.call.Request.{Request}
use Rattle.coco_vote.proofs.PlaceLemmas.{durable_here}
use Rattle.coco_vote.specs.Beginning.{AreNew, GoesOnVoted, StartsVote}
use Rattle.coco_vote.specs.Preparing.{Ballot, HasPrepared, HavePrepared, durable_at, have_durable, prepared_of}
use Rattle.coco_vote.specs.Taking.{AreHeld, HaveLogs}
use Rattle.coco_vote.specs.Voting.{GainsNewest}
use Rattle.coco_world.specs.Steps.{IsAbove}
use Rattle.coco_world.specs.World.{World}
use Rattle.coco_cluster.specs.Entries.{DecidesEntries, ReachesOn, StepsOn, TriesEntries}
use Rattle.coco_cluster.specs.Faults.{CountsAttempt}
use Rattle.coco_cluster.specs.Standing.{StandsAt}
use Rattle.coco_cluster.specs.Stepping.{HasCommittedBy, HaveCommitted, OnEnd}
use Rattle.coco_cluster.specs.Trying.{commit_of}
use Rattle.coco_cluster.specs.declared.cluster.Cluster.{Cluster}
use Rattle.coco_cluster.specs.declared.stop.Stop.{Stop}
use Rattle.coco_cluster.specs.declared.stop.Stop.TheVariants as stop
use Rattle.coco_cluster.proofs.StepLemmas.{above_committed, above_later, above_same, above_voted, count_of, same_scene}

-- ---- an epoch more, in a world and in a file

or_swap : (a b c : Bool) → a || (b || c) ≡ b || (a || c)
or_swap true true c = refl
or_swap true false c = refl
or_swap false b c = refl

has_last : (xs : List ℕ) (n e : ℕ) → has (xs ++ n ∷ []) e ≡ has (n ∷ xs) e
has_last [] n e = refl
has_last (x ∷ xs) n e = ap (λ (b : Bool). eqb x e || b) (has_last xs n e) ∙ or_swap (eqb x e) (eqb n e) (has xs e)

more_is : (xs ys : List ℕ) (n e : ℕ) → has xs e ≡ is_member nat_eq ys e → has (n ∷ xs) e ≡ is_member nat_eq (ys ++ n ∷ []) e
more_is xs ys n e same = ap (λ (b : Bool). eqb n e || b) (same ∙ sym (has_is ys e)) ∙ sym (has_last ys n e) ∙ has_is (ys ++ n ∷ []) e

-- ---- the entries of contents

-- on whichever contents a host rests, they have the same entries
pub rests_entries : (c d : Contents) (reads : Option Files) (may_leave : Files → Type 0) → RestsOn c reads may_leave → RestsOn d reads may_leave → (w : World) → HasEntries c w → HasEntries d w
rests_entries c d reads may_leave one two w entries =
    let files : one.files ≡ two.files = cc (one.are, two.are) in
    let good : IsGoodStore one.files c = one.good in
    let also : IsGoodStore two.files d = two.good in
    let same : AreSame c d = one_store one.files c d good.holds (subst (λ (fs : Files). Holds fs d) (sym files) also.holds) in
    record {
      count = entries.count ∙ ap (λ (s : Setting). s.entry.layout.nodes) same.setting;
      commits = λ e. entries.commits e ∙ ap (λ (cs : List Commit). is_member nat_eq (commit_epochs cs) e) same.commits;
      prepared = λ n e within. entries.prepared n e within ∙ ap (λ (ps : List Prepared). is_member nat_eq (prepared_epochs ps) e) (same.prepared n (omega (arith, within, entries.count)));
    }

entries_same : (c : Contents) (w v : World) → v.count ≡ w.count → SameEntries w v → HasEntries c w → HasEntries c v
entries_same c w v count same entries = record {
  count = count ∙ entries.count;
  commits = λ e. ap (λ (xs : List ℕ). has xs e) same.commits ∙ entries.commits e;
  prepared = λ n e within. ap (λ (f : ℕ → List ℕ). has (f n) e) same.prepared ∙ entries.prepared n e (omega (arith, within, count));
}

entries_committed : (c : Contents) (n : ℕ) (dones : List Done) (w v : World) → v.count ≡ w.count → Commits n w v → HasEntries c w → HasEntries (with_commit (commit_of n dones) c) v
entries_committed c n dones w v count made entries = record {
  count = count ∙ entries.count;
  commits = λ e. ap (λ (xs : List ℕ). has xs e) made.commits ∙ more_is w.commits (commit_epochs c.commits) n e (entries.commits e)
      ∙ sym (ap (λ (xs : List ℕ). is_member nat_eq xs e) (map-append (λ (x : Commit). x.epoch) c.commits (commit_of n dones ∷ [])));
  prepared = λ k e within. ap (λ (f : ℕ → List ℕ). has (f k) e) made.prepared ∙ entries.prepared k e (omega (arith, within, count));
}

-- A vote: the node's core has the greatest epoch of its entries in the world, and just the nodes whose core has the epoch have its entry in their file.
module _ (c d : Contents) (ballot : Ballot) (a b : Scene) (new : AreNew ballot.epoch a.cores) (voted : HavePrepared c ballot (have_durable ballot.epoch b.cores) d) (w v : World) (count : v.count ≡ w.count)
    (is : IsWorld w a) (now : IsWorld v b) (starts : StartsVote ballot.epoch w v) (entries : HasEntries c w) where
  durable_is : (n : ℕ) → n < w.count → durable_at b.cores n ≡ greatest (v.prepared n)
  durable_is n within =
      let there : n < v.count = omega (arith, within, count) in
      durable_here b.cores n (v.cores n) (now.nodes n there) ∙ now.durable n there

  older : (n : ℕ) → n < w.count → greatest (w.prepared n) < ballot.epoch
  older n within =
      let was : (w.cores n).durable ≡ greatest (w.prepared n) = is.durable n within in
      let below : (w.cores n).durable < ballot.epoch = (new n (w.cores n) (is.nodes n within)).older in
      omega (arith, was, below)

  prepared_before : (n e : ℕ) → n < w.count → v.prepared n ≡ w.prepared n → has (v.prepared n) e ≡ is_member nat_eq (prepared_epochs (d.prepared n)) e
  prepared_before n e within same =
      let durable = durable_is n within in
      let below = older n within in
      let still : greatest (v.prepared n) ≡ greatest (w.prepared n) = ap greatest same in
      let none : have_durable ballot.epoch b.cores n ≡ false = ne_eqb (durable_at b.cores n) ballot.epoch (λ at. omega (arith, at, durable, still, below)) in
      ap (λ (xs : List ℕ). has xs e) same ∙ entries.prepared n e within ∙ sym (ap (λ (ps : List Prepared). is_member nat_eq (prepared_epochs ps) e) (voted.others n none))

  prepared_since : (n e : ℕ) → n < w.count → GainsNewest ballot.epoch (w.prepared n) (v.prepared n) → has (v.prepared n) e ≡ is_member nat_eq (prepared_epochs (d.prepared n)) e
  prepared_since n e within gains =
      let durable = durable_is n within in
      let below = older n within in
      let most : greatest (v.prepared n) ≡ max ballot.epoch (greatest (w.prepared n)) = ap greatest gains.gained in
      let one : have_durable ballot.epoch b.cores n ≡ true = eq-eqb (durable_at b.cores n) ballot.epoch (omega (arith, durable, most, below)) in
      let gained : HasPrepared ballot n (c.prepared n) (d.prepared n) = voted.prepared n one in
      let epochs : prepared_epochs (d.prepared n) ≡ prepared_epochs (c.prepared n) ++ ballot.epoch ∷ [] = ap prepared_epochs gained.entry ∙ map-append (λ (p : Prepared). p.epoch) (c.prepared n) (prepared_of ballot.epoch gained.rows ∷ []) in
      ap (λ (xs : List ℕ). has xs e) gains.gained ∙ more_is (w.prepared n) (prepared_epochs (c.prepared n)) ballot.epoch e (entries.prepared n e within) ∙ sym (ap (λ (xs : List ℕ). is_member nat_eq xs e) epochs)

  prepared_voted : (n e : ℕ) → n < w.count → has (v.prepared n) e ≡ is_member nat_eq (prepared_epochs (d.prepared n)) e
  prepared_voted n e within = ⊎_elim (prepared_before n e within) (prepared_since n e within) (starts.prepared n)

  entries_voted : HasEntries d v
  entries_voted = record {
    count = count ∙ entries.count ∙ sym (ap (λ (s : Setting). s.entry.layout.nodes) voted.setting);
    commits = λ e. ap (λ (xs : List ℕ). has xs e) starts.commits ∙ entries.commits e ∙ sym (ap (λ (cs : List Commit). is_member nat_eq (commit_epochs cs) e) voted.commits);
    prepared = λ n e within. prepared_voted n e (omega (arith, within, count));
  }

-- ---- the ways of a world that calls below tell

on_by : (Made : World → World → Type 0) (c d : Contents) (i j : ℕ → ℕ) (n m : ℕ) (cs : List ℕ) (a b : Scene) → length b.cores ≡ length a.cores → ((w : World) → IsWorld w a → IsAbove w n → Arrives i j Made a b w)
    → ((w v : World) → v.count ≡ w.count → IsWorld w a → IsWorld v b → Made w v → IsAbove w n → HasEntries c w → ReachesOn d m cs w v) → StepsOn c d i j n m cs a b
on_by Made c d i j n m cs a b same goes made w is above entries =
    let one = goes w is above in
    record { after = one.after; goes = one.goes; is = one.is; only = one.only; made = made w one.after (count_of w one.after a b same is one.is) is one.is one.made above entries }

pub on_same : (c : Contents) (i j : ℕ → ℕ) (n : ℕ) (a b : Scene) → length b.cores ≡ length a.cores → GoesBetween i j SameEntries a b → StepsOn c c i j n n [] a b
on_same c i j n a b same goes = on_by SameEntries c c i j n n [] a b same (λ w is above. goes w is)
    (λ w v count is now made above entries. record { reaches = record { above = above_same n w v count made above; commits = made.commits }; entries = entries_same c w v count made entries })

pub on_voted : (c d : Contents) (ballot : Ballot) (i j : ℕ → ℕ) (a b : Scene) → AreNew ballot.epoch a.cores → HavePrepared c ballot (have_durable ballot.epoch b.cores) d → length b.cores ≡ length a.cores
    → GoesOnVoted ballot.epoch i j a b → StepsOn c d i j ballot.epoch (ballot.epoch + 1) [] a b
on_voted c d ballot i j a b new voted same goes = on_by (StartsVote ballot.epoch) c d i j ballot.epoch (ballot.epoch + 1) [] a b same goes
    (λ w v count is now made above entries. record { reaches = record { above = above_voted ballot.epoch w v count made above; commits = made.commits }; entries = entries_voted c d ballot a b new voted w v count is now made entries })

pub on_commit : (c : Contents) (dones : List Done) (i j : ℕ → ℕ) (n : ℕ) (a b : Scene) → length b.cores ≡ length a.cores → GoesBetween i j (Commits n) a b → StepsOn c (with_commit (commit_of n dones) c) i j (n + 1) (n + 1) (n ∷ []) a b
on_commit c dones i j n a b same goes = on_by (Commits n) c (with_commit (commit_of n dones) c) i j (n + 1) (n + 1) (n ∷ []) a b same (λ w is above. goes w is)
    (λ w v count is now made above entries. record { reaches = record { above = above_committed n w v count made above; commits = made.commits }; entries = entries_committed c n dones w v count made entries })

-- ---- from call to call

-- where nothing has happened
pub on_none : (c : Contents) (i : ℕ → ℕ) (n : ℕ) (a : Scene) → StepsOn c c i i n n [] a a
on_none c i n a w is above entries = record {
  after = w;
  goes = record { events = []; can = tt; to = refl; told = tt; rises = λ k lt. omega arith };
  is = is;
  only = λ only. only;
  made = record { reaches = record { above = above; commits = refl }; entries = entries };
}

pub on_then : (c d e : Contents) (i j k : ℕ → ℕ) (n m o : ℕ) (cs ds : List ℕ) (x y z : Scene) → StepsOn c d i j n m cs x y → StepsOn d e j k m o ds y z → StepsOn c e i k n o (ds ++ cs) x z
on_then c d e i j k n m o cs ds x y z first next w is above entries =
    let one = first w is above entries in
    let two = next one.after one.is one.made.reaches.above one.made.entries in
    record {
      after = two.after;
      goes = goes_then i j k w one.after two.after one.goes two.goes;
      is = two.is;
      only = λ only. two.only (one.only only);
      made = record {
        reaches = record { above = two.made.reaches.above; commits = two.made.reaches.commits ∙ ap (λ (xs : List ℕ). ds ++ xs) one.made.reaches.commits ∙ sym (append_assoc ds cs w.commits) };
        entries = two.made.entries;
      };
    }

-- behind steps that committed nothing
pub on_after : (c d e : Contents) (i j k : ℕ → ℕ) (n m o : ℕ) (ds : List ℕ) (x y z : Scene) → StepsOn c d i j n m [] x y → StepsOn d e j k m o ds y z → StepsOn c e i k n o ds x z
on_after c d e i j k n m o ds x y z first next = subst (λ xs. StepsOn c e i k n o xs x z) (append-nil ds) (on_then c d e i j k n m o [] ds x y z first next)

pub on_later : (c d : Contents) (i j : ℕ → ℕ) (n m o : ℕ) (cs : List ℕ) (a b : Scene) → m ≤ o → StepsOn c d i j n m cs a b → StepsOn c d i j n o cs a b
on_later c d i j n m o cs a b le steps w is above entries =
    let one = steps w is above entries in
    record {
      after = one.after;
      goes = one.goes;
      is = one.is;
      only = one.only;
      made = record { reaches = record { above = above_later m o one.after le one.made.reaches.above; commits = one.made.reaches.commits }; entries = one.made.entries };
    }

-- under another name of the number
pub on_number : (c d : Contents) (i j : ℕ → ℕ) (n m o : ℕ) (cs : List ℕ) (a b : Scene) → m ≡ o → StepsOn c d i j n m cs a b → StepsOn c d i j n o cs a b
on_number c d i j n m o cs a b same steps = subst (λ x. StepsOn c d i j n x cs a b) same steps

-- to other contents on which the host rests
pub on_rests : (c d e : Contents) (i j : ℕ → ℕ) (n m : ℕ) (cs : List ℕ) (a b : Scene) (reads : Option Files) (may_leave : Files → Type 0) → RestsOn d reads may_leave → RestsOn e reads may_leave
    → StepsOn c d i j n m cs a b → StepsOn c e i j n m cs a b
on_rests c d e i j n m cs a b reads may_leave one two steps w is above entries =
    let way = steps w is above entries in
    record {
      after = way.after;
      goes = way.goes;
      is = way.is;
      only = way.only;
      made = record { reaches = way.made.reaches; entries = rests_entries d e reads may_leave one two way.after way.made.entries };
    }

-- ---- where no node has stopped before an epoch

module _ {H : Type 0} (reads : H → Option Files) (may_leave : H → Files → Type 0) (old new : H) (i j l : ℕ → ℕ) (s s_new : List Posted) where
  pub decides_on : (epoch : ℕ) (pieces : List Piece) (k m n : Members) → m ≡ k → length m.cores.items ≡ length k.cores.items → GoesBetween i j SameEntries (scene_of k s) (scene_of m s)
      → DecidesEntries reads may_leave epoch pieces j l m n s s_new old new → DecidesEntries reads may_leave epoch pieces i l k n s s_new old new
  decides_on epoch pieces k m n is same goes entries = λ c d hold held may nodes logs on behind.
      on_after c c d i j l epoch epoch (epoch + 1) [] (scene_of k s) (scene_of m s) (scene_of n s_new) (on_same c i j epoch (scene_of k s) (scene_of m s) same goes)
      (entries c d hold (subst (λ (y : Members). AreHeld hold y.voters.items) (sym is) held) may (nodes ∙ sym same) (subst (λ (y : Members). HaveLogs c y.voters.items) (sym is) logs) on behind)

  pub tries_on : (requests : List Request) (k : Cluster) (m : Members) (n : Cluster) → m ≡ k.members → length m.cores.items ≡ length k.members.cores.items → GoesBetween i j SameEntries (scene_of k.members s) (scene_of m s)
      → TriesEntries reads may_leave requests j l (record k { members = m }) n s s_new old new → TriesEntries reads may_leave requests i l k n s s_new old new
  tries_on requests k m n is same goes entries = λ c d on stands room behind.
      on_after c c d i j l k.next_epoch k.next_epoch (k.next_epoch + 1) [] (scene_of k.members s) (scene_of m s) (scene_of n.members s_new) (on_same c i j k.next_epoch (scene_of k.members s) (scene_of m s) same goes)
      (entries c d on (subst (λ (y : Members). StandsAt c (record k { members = y })) (sym is) stands) room behind)

-- ---- an attempt

-- where an epoch was tried, and given up
pub forgotten_on : (c d : Contents) (i j : ℕ → ℕ) (e : ℕ) (a r t v : Members) (s s_mid s_new : List Posted) → StepsOn c c i i e e [] (scene_of a s) (scene_of r s_mid) → StepsOn c d i j e (e + 1) [] (scene_of r s_mid) (scene_of t s_new)
    → v.cores ≡ t.cores → v.chief ≡ t.chief → StepsOn c d i j e (e + 1) [] (scene_of a s) (scene_of v s_new)
forgotten_on c d i j e a r t v s s_mid s_new first next cores chief =
    subst (λ (x : Scene). StepsOn c d i j e (e + 1) [] (scene_of a s) x) (sym (same_scene t v s_new cores chief))
    (on_after c c d i i j e e (e + 1) [] (scene_of a s) (scene_of r s_mid) (scene_of t s_new) first next)

-- or committed
pub committed_on : (c d : Contents) (dones : List Done) (i j k : ℕ → ℕ) (n e : ℕ) (a r t u v : Members) (s s_mid s_tried s_new : List Posted) → n ≡ e → StepsOn c c i i e e [] (scene_of a s) (scene_of r s_mid)
    → StepsOn c d i j e (e + 1) [] (scene_of r s_mid) (scene_of t s_tried) → length u.cores.items ≡ length t.cores.items → GoesBetween j k (Commits n) (scene_of t s_tried) (scene_of u s_new)
    → v.cores ≡ u.cores → v.chief ≡ u.chief → StepsOn c (with_commit (commit_of e dones) d) i k e (e + 1) (e ∷ []) (scene_of a s) (scene_of v s_new)
committed_on c d dones i j k n e a r t u v s s_mid s_tried s_new same first next nodes goes cores chief =
    subst (λ (x : Scene). StepsOn c (with_commit (commit_of e dones) d) i k e (e + 1) (e ∷ []) (scene_of a s) x) (sym (same_scene u v s_new cores chief))
    (on_after c d (with_commit (commit_of e dones) d) i j k e (e + 1) (e + 1) (e ∷ []) (scene_of a s) (scene_of t s_tried) (scene_of u s_new)
    (on_after c c d i i j e e (e + 1) [] (scene_of a s) (scene_of r s_mid) (scene_of t s_tried) first next)
    (on_commit d dones j k e (scene_of t s_tried) (scene_of u s_new) nodes (subst (λ x. GoesBetween j k (Commits x) (scene_of t s_tried) (scene_of u s_new)) same goes)))

-- no file is refused on which the host rested
pub unrefused : (S T : Type 0) (Fact : Type 0) (r : Result T Stop) (f : Stop) (old new : ℕ) → r ≡ Err f → CountsAttempt {T = S} (Err f) old new → ((file at : ℕ) → r ≢ Err (stop.NotAStore file at)) → OnEnd r Fact
unrefused S T Fact r f old new is counts never = subst (λ (x : Result T Stop). OnEnd x Fact) (sym is) (by f is counts)
  where
    by : (f : Stop) → r ≡ Err f → CountsAttempt {T = S} (Err f) old new → OnEnd {T = T} (Err f) Fact
    by stop.Read is counts = absurd counts
    by stop.Say is counts = absurd counts
    by stop.Disk is counts = tt
    by (stop.NotAStore file at) is counts = absurd (never file at is)
    by stop.NoMemory is counts = tt
    by stop.Unreachable is counts = absurd counts
    by stop.EpochsUsedUp is counts = absurd counts

-- ---- attempts in a turn

-- what an attempt has done by its answer
abbrev pub HasSteppedOn : Contents → Contents → Result (Option (Vec Request)) Stop → (ℕ → ℕ) → (ℕ → ℕ) → ℕ → ℕ → Scene → Scene → Type 0
HasSteppedOn c d r i j n m a b = (commits : List ℕ) × HaveCommitted r m commits × StepsOn c d i j n m commits a b

pub none_committed_on : (c d : Contents) (x : Option (Vec Request)) (again : Vec Request) (i j : ℕ → ℕ) (n m : ℕ) (a b : Scene) → x ≡ Some again → HasSteppedOn c d (Ok x) i j n m a b → StepsOn c d i j n m [] a b
none_committed_on c d x again i j n m a b is stepped =
    let so : HasSteppedOn c d (Ok (Some again)) i j n m a b = subst (λ (y : Option (Vec Request)). HasSteppedOn c d (Ok y) i j n m a b) is stepped in
    subst (λ cs. StepsOn c d i j n m cs a b) so.1 so.2

pub turn_committed_on : (c d e : Contents) (x : Option (Vec Request)) (requests : List Request) (i j k : ℕ → ℕ) (n m o : ℕ) (p q r : Scene) → 0 < length requests → x ≡ None → StepsOn c d i j n m [] p q → HasSteppedOn d e (Ok x) j k m o q r
    → (commits : List ℕ) × HasCommittedBy (Ok tt) requests o commits × StepsOn c e i k n o commits p r
turn_committed_on c d e x [] i j k n m o p q r some is first next = absurd (omega (arith, some))
turn_committed_on c d e x (y ∷ ys) i j k n m o p q r some is first next =
    let so : HasSteppedOn d e (Ok None) j k m o q r = subst (λ (z : Option (Vec Request)). HasSteppedOn d e (Ok z) j k m o q r) is next in
    (so.0, so.1, on_after c d e i j k n m o so.0 p q r first so.2)
