-- The steps of nodes and coordinator from call to call, and what a power was asked for.
use Rattle.std.proofs.Common.{append-nil, ◌≡◌, ◌⊎◌, inl, inr, ⊎_elim, ℕ, ◌+◌, ◌<◌, ◌≤◌, true, List, [], ◌∷◌, ◌++◌, length, min, Option, Some, None, Result, Ok, Err, refl, sym, ap, ◌∙◌, subst, arith}
use Rattle.std.specs.Global.{Vec}
use Rattle.std.proofs.lemmas.Bool.{cases_lt}
use Rattle.std.proofs.lemmas.List.{append_assoc}
use Rattle.coco_chief.specs.Chief.{has}
use Rattle.coco_chief.specs.Shown.{chief_of}
use Rattle.coco_entry.specs.declared.layout.Layout.{Layout}
use Rattle.coco_letters.specs.Worlds.{Commits, GoesBetween, GoesOn, IsWorld, SameEntries, Scene}
use Rattle.coco_letters.proofs.WorldLemmas.{goes_then}
use Rattle.coco_members.specs.AtRest.{AreMembers, scene_of}
use Rattle.coco_members.specs.declared.members.Members.{Members}
use Rattle.coco_net.specs.declared.letter.Posted.{Posted}
use Rattle.coco_types.specs.declared.call.Request.{Request}
use Rattle.coco_vote.specs.Beginning.{GoesOnVoted, StartsVote}
use Rattle.coco_vote.specs.Voting.{GainsNewest}
use Rattle.coco_world.proofs.Tools.{has-cases}
use Rattle.coco_world.specs.Steps.{IsAbove}
use Rattle.coco_world.specs.World.{World}
use Rattle.coco_cluster.specs.Faults.{CountsAttempt, CountsPart}
use Rattle.coco_cluster.specs.Stepping.{HasBegun, HasCommittedBy, HaveCommitted, OnEnd, StepsTo, most_begun}
use Rattle.coco_cluster.specs.declared.stop.Stop.{Stop}
use Rattle.coco_cluster.specs.declared.stop.Stop.TheVariants as stop

-- ---- which epochs are below a number

pub above_later : (n m : ℕ) (w : World) → n ≤ m → IsAbove w n → IsAbove w m
above_later n m w le above = record {
  begun = λ e is. (let lt = above.begun e is in omega (arith, lt, le));
  prepared = λ k e within is. (let lt = above.prepared k e within is in omega (arith, lt, le));
  committed = λ e is. (let lt = above.committed e is in omega (arith, lt, le));
}

-- one epoch more
above_more : (n : ℕ) (xs : List ℕ) → ((e : ℕ) → has xs e ≡ true → e < n) → (e : ℕ) → has (n ∷ xs) e ≡ true → e < n + 1
above_more n xs above e is = ⊎_elim (λ same. omega (arith, same)) (λ later. (let lt = above e later in omega (arith, lt))) (has-cases xs n e is)

pub above_same : (n : ℕ) (w v : World) → v.count ≡ w.count → SameEntries w v → IsAbove w n → IsAbove v n
above_same n w v count same above = record {
  begun = λ e is. above.begun e (ap (λ xs. has xs e) (sym same.begun) ∙ is);
  prepared = λ k e within is. above.prepared k e (omega (arith, within, count)) (ap (λ (f : ℕ → List ℕ). has (f k) e) (sym same.prepared) ∙ is);
  committed = λ e is. above.committed e (ap (λ xs. has xs e) (sym same.commits) ∙ is);
}

pub above_voted : (n : ℕ) (w v : World) → v.count ≡ w.count → StartsVote n w v → IsAbove w n → IsAbove v (n + 1)
above_voted n w v count starts above = record {
  begun = λ e is. above_more n w.begun above.begun e (ap (λ xs. has xs e) (sym starts.begun) ∙ is);
  prepared = λ k e within is. ⊎_elim
      (λ same. (let lt = above.prepared k e (omega (arith, within, count)) (ap (λ xs. has xs e) (sym same) ∙ is) in omega (arith, lt)))
      (λ gains. above_more n (w.prepared k) (λ f was. above.prepared k f (omega (arith, within, count)) was) e (ap (λ xs. has xs e) (sym (gained gains)) ∙ is))
      (starts.prepared k);
  committed = λ e is. (let lt = above.committed e (ap (λ xs. has xs e) (sym starts.commits) ∙ is) in omega (arith, lt));
}
  where
    gained : {before after : List ℕ} → GainsNewest n before after → after ≡ n ∷ before
    gained gains = gains.gained

pub above_committed : (n : ℕ) (w v : World) → v.count ≡ w.count → Commits n w v → IsAbove w (n + 1) → IsAbove v (n + 1)
above_committed n w v count commits above = record {
  begun = λ e is. above.begun e (ap (λ xs. has xs e) (sym commits.begun) ∙ is);
  prepared = λ k e within is. above.prepared k e (omega (arith, within, count)) (ap (λ (f : ℕ → List ℕ). has (f k) e) (sym commits.prepared) ∙ is);
  committed = λ e is. ⊎_elim (λ same. omega (arith, same)) (λ later. above.committed e later) (has-cases w.commits n e (ap (λ xs. has xs e) (sym commits.commits) ∙ is));
}

-- ---- from call to call

pub count_of : (w v : World) (a b : Scene) → length b.cores ≡ length a.cores → IsWorld w a → IsWorld v b → v.count ≡ w.count
count_of w v a b same one two = two.count ∙ same ∙ sym one.count

-- where nothing has happened
pub steps_none : (i : ℕ → ℕ) (n : ℕ) (a : Scene) → StepsTo i i n n [] a a
steps_none i n a w is above = record {
  after = w;
  goes = record { events = []; can = tt; to = refl; told = tt; rises = λ k lt. omega arith };
  is = is;
  only = λ only. only;
  made = record { above = above; commits = refl };
}

pub steps_then : (i j k : ℕ → ℕ) (n m o : ℕ) (cs ds : List ℕ) (a b c : Scene) → StepsTo i j n m cs a b → StepsTo j k m o ds b c → StepsTo i k n o (ds ++ cs) a c
steps_then i j k n m o cs ds a b c first next w is above =
    let one = first w is above in
    let two = next one.after one.is one.made.above in
    record {
      after = two.after;
      goes = goes_then i j k w one.after two.after one.goes two.goes;
      is = two.is;
      only = λ only. two.only (one.only only);
      made = record { above = two.made.above; commits = two.made.commits ∙ ap (λ xs. ds ++ xs) one.made.commits ∙ sym (append_assoc ds cs w.commits) };
    }

-- behind steps that committed nothing, or before such
pub steps_after : (i j k : ℕ → ℕ) (n m o : ℕ) (ds : List ℕ) (a b c : Scene) → StepsTo i j n m [] a b → StepsTo j k m o ds b c → StepsTo i k n o ds a c
steps_after i j k n m o ds a b c first next = subst (λ xs. StepsTo i k n o xs a c) (append-nil ds) (steps_then i j k n m o [] ds a b c first next)

pub steps_later : (i j : ℕ → ℕ) (n m o : ℕ) (cs : List ℕ) (a b : Scene) → m ≤ o → StepsTo i j n m cs a b → StepsTo i j n o cs a b
steps_later i j n m o cs a b le steps w is above =
    let one = steps w is above in
    record { after = one.after; goes = one.goes; is = one.is; only = one.only; made = record { above = above_later m o one.after le one.made.above; commits = one.made.commits } }

-- under another name of the number
pub steps_number : (i j : ℕ → ℕ) (n m o : ℕ) (cs : List ℕ) (a b : Scene) → m ≡ o → StepsTo i j n m cs a b → StepsTo i j n o cs a b
steps_number i j n m o cs a b same steps = subst (λ x. StepsTo i j n x cs a b) same steps

-- the ways of a world that calls below tell
pub steps_same : (i j : ℕ → ℕ) (n : ℕ) (a b : Scene) → length b.cores ≡ length a.cores → GoesBetween i j SameEntries a b → StepsTo i j n n [] a b
steps_same i j n a b same goes w is above =
    let one = goes w is in
    record { after = one.after; goes = one.goes; is = one.is; only = one.only; made = record { above = above_same n w one.after (count_of w one.after a b same is one.is) one.made above; commits = one.made.commits } }

pub steps_on : (i : ℕ → ℕ) (n : ℕ) (a b : Scene) → length b.cores ≡ length a.cores → GoesOn a b → StepsTo i i n n [] a b
steps_on i n a b same goes = steps_same i i n a b same (goes i)

pub steps_voted : (i j : ℕ → ℕ) (n : ℕ) (a b : Scene) → length b.cores ≡ length a.cores → GoesOnVoted n i j a b → StepsTo i j n (n + 1) [] a b
steps_voted i j n a b same goes w is above =
    let one = goes w is above in
    record { after = one.after; goes = one.goes; is = one.is; only = one.only; made = record { above = above_voted n w one.after (count_of w one.after a b same is one.is) one.made above; commits = one.made.commits } }

pub steps_commit : (i j : ℕ → ℕ) (n : ℕ) (a b : Scene) → length b.cores ≡ length a.cores → GoesBetween i j (Commits n) a b → StepsTo i j (n + 1) (n + 1) (n ∷ []) a b
steps_commit i j n a b same goes w is above =
    let one = goes w is in
    record { after = one.after; goes = one.goes; is = one.is; only = one.only; made = record { above = above_committed n w one.after (count_of w one.after a b same is one.is) one.made above; commits = one.made.commits } }

-- ---- the count of epochs begun

begun_so : (most old new : ℕ) → new ≡ min (old + 1) most → ((old < new) × (new < most)) ⊎ (new ≡ most)
begun_so most old new is = ⊎_elim (λ less. inl (omega (arith, is, less), less)) (λ high. inr (omega (arith, is, high))) (cases_lt new most)

pub has_begun : (old new : ℕ) → new ≡ min (old + 1) most_begun → HasBegun old new
has_begun old new is = begun_so most_begun old new is

pub one_begun : (old new : ℕ) → new ≡ min (old + 1) most_begun → new ≤ old + 1
one_begun old new is = omega (arith, is)

pub begun_then : (a b c : ℕ) → (b ≡ a) ⊎ HasBegun a b → HasBegun b c → HasBegun a c
begun_then a b c first next = then most_begun a b c first next
  where
    then : (most a b c : ℕ) → (b ≡ a) ⊎ (((a < b) × (b < most)) ⊎ (b ≡ most)) → ((b < c) × (c < most)) ⊎ (c ≡ most) → ((a < c) × (c < most)) ⊎ (c ≡ most)
    then most a b c first next = ⊎_elim
        (λ rose. ⊎_elim
        (λ same. inl (omega (arith, same, rose.0), rose.1))
        (λ was. ⊎_elim (λ before. inl ((let low = before.0 in let up = rose.0 in omega (arith, low, up)), rose.1)) (λ end. (let up = rose.0 in let high = rose.1 in absurd (omega (arith, end, up, high)))) was) first)
        (λ end. inr end) next

-- ---- by the answer

-- parts of an attempt end by themselves only where they succeed
pub part_ends : (S T : Type 0) (Fact : Type 0) (r : Result T Stop) (f : Stop) (old new : ℕ) → r ≡ Err f → CountsPart {T = S} (Err f) old new → OnEnd r Fact
part_ends S T Fact r f old new is counts = subst (λ (x : Result T Stop). OnEnd x Fact) (sym is) (by f counts)
  where
    by : (f : Stop) → CountsPart {T = S} (Err f) old new → OnEnd {T = T} (Err f) Fact
    by stop.Read counts = absurd counts
    by stop.Say counts = absurd counts
    by stop.Disk counts = tt
    by (stop.NotAStore file at) counts = absurd counts
    by stop.NoMemory counts = tt
    by stop.Unreachable counts = absurd counts
    by stop.EpochsUsedUp counts = absurd counts

-- what holds by itself holds at each end
pub on_end : {T : Type 0} (Fact : Type 0) (r : Result T Stop) → Fact → OnEnd r Fact
on_end Fact (Ok x) fact = fact
on_end Fact (Err stop.Read) fact = fact
on_end Fact (Err stop.Say) fact = fact
on_end Fact (Err stop.Disk) fact = tt
on_end Fact (Err (stop.NotAStore file at)) fact = fact
on_end Fact (Err stop.NoMemory) fact = tt
on_end Fact (Err stop.Unreachable) fact = fact
on_end Fact (Err stop.EpochsUsedUp) fact = fact

-- ---- an attempt

pub same_nodes : (a b : Members) → AreMembers a → AreMembers b → b.tables.layout ≡ a.tables.layout → length b.cores.items ≡ length a.cores.items
same_nodes a b one two same = sym two.layout ∙ ap (λ (l : Layout). l.nodes) same ∙ one.layout

pub same_scene : (a b : Members) (sent : List Posted) → b.cores ≡ a.cores → b.chief ≡ a.chief → scene_of b sent ≡ scene_of a sent
same_scene a b sent cores chief = λ i. record { cores = (cores i).items; chief = chief_of (chief i); sent = sent }

-- where nodes were reminded, and no more
pub reminded_steps : (i : ℕ → ℕ) (e : ℕ) (a r : Members) (s s_new : List Posted) → length r.cores.items ≡ length a.cores.items → GoesOn (scene_of a s) (scene_of r s_new) → StepsTo i i e e [] (scene_of a s) (scene_of r s_new)
reminded_steps i e a r s s_new nodes goes = steps_on i e (scene_of a s) (scene_of r s_new) nodes goes

-- where an epoch was tried behind that, and given up
pub forgotten_steps : (i j : ℕ → ℕ) (e : ℕ) (a r t v : Members) (s s_mid s_new : List Posted) → StepsTo i i e e [] (scene_of a s) (scene_of r s_mid) → StepsTo i j e (e + 1) [] (scene_of r s_mid) (scene_of t s_new)
    → v.cores ≡ t.cores → v.chief ≡ t.chief → StepsTo i j e (e + 1) [] (scene_of a s) (scene_of v s_new)
forgotten_steps i j e a r t v s s_mid s_new first next cores chief =
    subst (λ (x : Scene). StepsTo i j e (e + 1) [] (scene_of a s) x) (sym (same_scene t v s_new cores chief))
    (steps_after i i j e e (e + 1) [] (scene_of a s) (scene_of r s_mid) (scene_of t s_new) first next)

-- or committed
pub committed_steps : (i j k : ℕ → ℕ) (n e : ℕ) (a r t u v : Members) (s s_mid s_tried s_new : List Posted) → n ≡ e → StepsTo i i e e [] (scene_of a s) (scene_of r s_mid)
    → StepsTo i j e (e + 1) [] (scene_of r s_mid) (scene_of t s_tried) → length u.cores.items ≡ length t.cores.items → GoesBetween j k (Commits n) (scene_of t s_tried) (scene_of u s_new)
    → v.cores ≡ u.cores → v.chief ≡ u.chief → StepsTo i k e (e + 1) (e ∷ []) (scene_of a s) (scene_of v s_new)
committed_steps i j k n e a r t u v s s_mid s_tried s_new same first next nodes goes cores chief =
    subst (λ (x : Scene). StepsTo i k e (e + 1) (e ∷ []) (scene_of a s) x) (sym (same_scene u v s_new cores chief))
    (steps_after i j k e (e + 1) (e + 1) (e ∷ []) (scene_of a s) (scene_of t s_tried) (scene_of u s_new)
    (steps_after i i j e e (e + 1) [] (scene_of a s) (scene_of r s_mid) (scene_of t s_tried) first next)
    (steps_commit j k e (scene_of t s_tried) (scene_of u s_new) nodes (subst (λ x. GoesBetween j k (Commits x) (scene_of t s_tried) (scene_of u s_new)) same goes)))

-- ---- attempts in a turn

-- what an attempt has done by its answer
abbrev pub HasStepped : Result (Option (Vec Request)) Stop → (ℕ → ℕ) → (ℕ → ℕ) → ℕ → ℕ → Scene → Scene → Type 0
HasStepped r i j n m a b = (commits : List ℕ) × HaveCommitted r m commits × StepsTo i j n m commits a b

pub none_committed : (x : Option (Vec Request)) (again : Vec Request) {i j : ℕ → ℕ} {n : ℕ} (m : ℕ) (a b : Scene) → x ≡ Some again → HasStepped (Ok x) i j n m a b → StepsTo i j n m [] a b
none_committed x again {i} {j} {n} m a b is stepped =
    let so : HasStepped (Ok (Some again)) i j n m a b = subst (λ (y : Option (Vec Request)). HasStepped (Ok y) i j n m a b) is stepped in
    subst (λ cs. StepsTo i j n m cs a b) so.1 so.2

pub turn_committed : (x : Option (Vec Request)) (requests : List Request) (i j k : ℕ → ℕ) (n m o : ℕ) (a b c : Scene) → 0 < length requests → x ≡ None → StepsTo i j n m [] a b → HasStepped (Ok x) j k m o b c
    → (commits : List ℕ) × HasCommittedBy (Ok tt) requests o commits × StepsTo i k n o commits a c
turn_committed x [] i j k n m o a b c some is first next = absurd (omega (arith, some))
turn_committed x (r ∷ rs) i j k n m o a b c some is first next =
    let so : HasStepped (Ok None) j k m o b c = subst (λ (y : Option (Vec Request)). HasStepped (Ok y) j k m o b c) is next in
    (so.0, so.1, steps_after i j k n m o so.0 a b c first so.2)

pub attempt_failed : (r : Result (Unit {0}) Stop) (f : Stop) (requests : List Request) (i j k : ℕ → ℕ) (n m o : ℕ) (a b c : Scene) (old new : ℕ) → r ≡ Err f → StepsTo i j n m [] a b
    → CountsAttempt {T = Option (Vec Request)} (Err f) old new → OnEnd {T = Option (Vec Request)} (Err f) (HasStepped (Err f) j k m o b c)
    → OnEnd r ((commits : List ℕ) × HasCommittedBy r requests o commits × StepsTo i k n o commits a c)
attempt_failed r f requests i j k n m o a b c old new is first counts next =
    subst (λ (x : Result (Unit {0}) Stop). OnEnd x ((commits : List ℕ) × HasCommittedBy x requests o commits × StepsTo i k n o commits a c)) (sym is) (by f counts next)
  where
    by : (f : Stop) → CountsAttempt {T = Option (Vec Request)} (Err f) old new → OnEnd {T = Option (Vec Request)} (Err f) (HasStepped (Err f) j k m o b c)
        → OnEnd {T = Unit {0}} (Err f) ((commits : List ℕ) × HasCommittedBy (Err f) requests o commits × StepsTo i k n o commits a c)
    by stop.Read counts next = absurd counts
    by stop.Say counts next = absurd counts
    by stop.Disk counts next = tt
    by (stop.NotAStore file at) counts next = (next.0, next.1, steps_after i j k n m o next.0 a b c first next.2)
    by stop.NoMemory counts next = tt
    by stop.Unreachable counts next = absurd counts
    by stop.EpochsUsedUp counts next = absurd counts
