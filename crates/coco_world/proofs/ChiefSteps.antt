-- What holds is kept by every step of the coordinator.
use Rattle.std.proofs.Common.{◌≡◌, ◌⊎◌, inl, inr, ℕ, zero, suc, ◌+◌, ◌<◌, ◌≤◌, Bool, true, false, eqb, ltb, List, [], ◌∷◌, ◌++◌, length, get_or, set, refl, sym, ap, subst, ◌∙◌, arith}
use Rattle.std.specs.Prelude.{◌&&◌, ◌||◌, if◌then◌else◌, slice_set, slice_index_or, replicate}
use Rattle.std.specs.List.{AllByRecursion, list_all}
use Rattle.std.proofs.lemmas.Bool.{eq-eqb, eqb-true, eqb-false, and_parts, and_from, ltb-true, cases_lt, or_from}
use Rattle.std.proofs.Math.ListN.{length-set, length-replicate}
use Rattle.coco_msg.specs.declared.action.Action.{Action}
use Rattle.coco_msg.specs.declared.action.Action.TheVariants.{Send, Force, Promote, Revert}
use Rattle.coco_msg.specs.declared.message.Message.{Message}
use Rattle.coco_msg.specs.declared.message.Message.TheVariants.{Ship, Total, Missing, All, Prepare, Vote, Commit, Finished, Abort, Query, Tell}
use Rattle.coco_msg.specs.Bytes.{epoch_of}
use Rattle.coco_chief.specs.Chief.{Chief, has, last_of}
use Rattle.coco_chief.specs.declared.machine.Phase.{Phase}
use Rattle.coco_chief.specs.declared.machine.Phase.TheVariants.{Rest, Voting, Forcing}
use Rattle.coco_chief.specs.Table.{Turn, to_each, to_unfinished, is_voting, is_open, begun, aborted, forced, counts, on_vote, on_finished, on_query, on_message, handled, reminds}
use Rattle.coco_world.specs.World.{World, Letter, Among}
use Rattle.coco_world.specs.Steps.{IsAbove, after_chief}
use Rattle.coco_world.specs.Agreement.{IsKnown, IsDead, LetterHolds, ChiefHolds, Holds}
use Rattle.coco_world.proofs.Tools.{by_test, true_or_false, not_both, has-new, has-more, has-other, has-cases}
use Rattle.coco_world.proofs.Keeping.{SendHolds, with_chief, chief_keeps}

-- ---- phases and flags

voting_is : (p : Phase) → is_voting p ≡ true → p ≡ Voting
voting_is Rest h = absurd cc
voting_is Voting h = refl
voting_is Forcing h = absurd cc

pub voting_open : (p : Phase) → is_voting p ≡ true → is_open p ≡ true
voting_open Rest h = absurd cc
voting_open Voting h = refl
voting_open Forcing h = absurd cc

false_flags : (n k : ℕ) → get_or (replicate n false) k false ≡ false
false_flags zero k = refl
false_flags (suc n) zero = refl
false_flags (suc n) (suc k) = false_flags n k

pub none_up : {X : Type 0} (n k : ℕ) → get_or (replicate n false) k false ≡ true → X
none_up n k up = absurd (not_both (get_or (replicate n false) k false) up (false_flags n k))

flag_set : (flags : List Bool) (at k : ℕ) → get_or (set flags at true) k false ≡ true → (k ≡ at) ⊎ (get_or flags k false ≡ true)
flag_set [] at k up = inr up
flag_set (f ∷ fs) zero zero up = inl refl
flag_set (f ∷ fs) zero (suc k) up = inr up
flag_set (f ∷ fs) (suc at) zero up = inr up
flag_set (f ∷ fs) (suc at) (suc k) up = elim (flag_set fs at k up) [ inl same ↦ inl (ap suc same) | inr old ↦ inr old ]

all_flags : (flags : List Bool) (k : ℕ) → list_all (λ counted. counted) flags ≡ true → k < length flags → get_or flags k false ≡ true
all_flags [] k h lt = absurd (omega arith)
all_flags (true ∷ fs) zero h lt = refl
all_flags (true ∷ fs) (suc k) h lt = all_flags fs k h (omega arith)
all_flags (false ∷ fs) k h lt = absurd cc

-- ---- one message to each

All-append : {X : Type 0} (P : X → Type 0) (xs ys : List X) → AllByRecursion P xs → AllByRecursion P ys → AllByRecursion P (xs ++ ys)
All-append P [] ys h k = k
All-append P (x ∷ xs) ys h k = (h.0, All-append P xs ys h.1 k)

to_each_all : (P : Action → Type 0) (n : ℕ) (m : Message) → ((k : ℕ) → P (Send k m)) → AllByRecursion P (to_each n m)
to_each_all P zero m h = tt
to_each_all P (suc n) m h = All-append P (to_each n m) (Send n m ∷ []) (to_each_all P n m h) (h n, tt)

to_unfinished_all : (P : Action → Type 0) (n : ℕ) (finished : List Bool) (m : Message) → ((k : ℕ) → P (Send k m)) → AllByRecursion P (to_unfinished n finished m)
to_unfinished_all P zero finished m h = tt
to_unfinished_all P (suc n) finished m h =
    All-append P (to_unfinished n finished m) _ (to_unfinished_all P n finished m h) (by_test (AllByRecursion P) (get_or finished n false) [] (Send n m ∷ []) (λ _. tt) (λ _. (h n, tt)))

-- ---- steps

-- the coordinator gives up its epoch
pub aborts_keeps : (w : World) → Holds w → is_open w.chief.phase ≡ true → Holds (after_chief w (aborted w.chief))
aborts_keeps w holds is-open =
    let core = w.chief in
    let turn = aborted core in
    let after = with_chief w turn.1 w.commits w.begun turn.0 in
    let old = holds.chief in
    let dead : (e : ℕ) → IsDead w e → IsDead after e = λ e d. record { known = d.known; uncommitted = d.uncommitted; given_up = λ no same. absurd cc } in
    let given : IsDead after core.current = record { known = inl (old.begun-is is-open); uncommitted = old.undecided is-open; given_up = λ no same. absurd cc } in
    chief_keeps w turn.1 w.commits w.begun turn.0 holds
    (record {
      nodes = old.nodes;
      voters = old.voters;
      committed = old.committed;
      last = old.last;
      begun-is = λ no. absurd cc;
      undecided = λ no. absurd cc;
      counted = λ no n lt up. absurd cc;
      all-voted = λ no. absurd cc;
    })
    (λ e h. h) dead holds.entries holds.finishers
    (to_each_all (SendHolds after 8) core.nodes (Abort core.current) (λ k. given))

-- a yes is counted
pub counts_keeps : (w : World) (from : ℕ) → Holds w → is_voting w.chief.phase ≡ true → has (w.prepared from) w.chief.current ≡ true
    → Holds (after_chief w (counts (slice_set w.chief.voted from true) w.chief))
counts_keeps w from holds voting durable =
    let core = w.chief in
    let old = holds.chief in
    let voted = slice_set core.voted from true in
    let was-open : is_open core.phase ≡ true = voting_open core.phase voting in
    let up-is : (n : ℕ) → n < w.count → get_or voted n false ≡ true → has (w.prepared n) core.current ≡ true =
    λ n lt up. elim (flag_set core.voted from n up) [ inl same ↦ subst (λ (k : ℕ). has (w.prepared k) core.current ≡ true) (sym same) durable | inr before ↦ old.counted was-open n lt before ] in
    let many : length voted ≡ w.count = length-set core.voted from true ∙ old.voters in
    by_test (λ (turn : Turn). Holds (after_chief w turn)) (list_all (λ counted. counted) voted) _ _
    (λ all.
    chief_keeps w (record core { voted = voted; phase = Forcing }) w.commits w.begun (Force core.current ∷ []) holds
    (record {
      nodes = old.nodes;
      voters = many;
      committed = old.committed;
      last = old.last;
      begun-is = λ _. old.begun-is was-open;
      undecided = λ _. old.undecided was-open;
      counted = λ _. up-is;
      all-voted = λ _. all;
    })
    (λ e h. h) (λ e d. record { known = d.known; uncommitted = d.uncommitted; given_up = λ _. d.given_up was-open }) holds.entries holds.finishers (tt, tt))
    (λ some.
    chief_keeps w (record core { voted = voted }) w.commits w.begun [] holds
    (record {
      nodes = old.nodes;
      voters = many;
      committed = old.committed;
      last = old.last;
      begun-is = old.begun-is;
      undecided = old.undecided;
      counted = λ _. up-is;
      all-voted = λ is. absurd (let both : Voting ≡ Forcing = sym (voting_is core.phase voting) ∙ is in cc);
    })
    (λ e h. h) (λ e d. record { known = d.known; uncommitted = d.uncommitted; given_up = d.given_up }) holds.entries holds.finishers tt)

-- the coordinator hears a vote
vote_keeps : (w : World) (from e : ℕ) (vote : Bool) → Holds w → LetterHolds w from (Vote e vote) → Holds (after_chief w (on_vote from e vote w.chief))
vote_keeps w from e vote holds heard =
    by_test (λ (turn : Turn). Holds (after_chief w turn)) (eqb e w.chief.current && is_voting w.chief.phase) _ _
    (λ both.
    let parts = and_parts (eqb e w.chief.current) (is_voting w.chief.phase) both in
    voted vote parts.0 parts.1 heard)
    (λ _. holds)
  where
    voted : (vote : Bool) → eqb e w.chief.current ≡ true → is_voting w.chief.phase ≡ true → LetterHolds w from (Vote e vote)
        → Holds (after_chief w (if vote then counts (slice_set w.chief.voted from true) w.chief else aborted w.chief))
    voted true is voting heard = counts_keeps w from holds voting (subst (λ (k : ℕ). has (w.prepared from) k ≡ true) (eqb-true e w.chief.current is) heard)
    voted false is voting heard = aborts_keeps w holds (voting_open w.chief.phase voting)

-- that a node has finished
finished_keeps : (w : World) (from e : ℕ) → Holds w → Among w.letters (record { from = from; to = 8; message = Finished e }) → Holds (after_chief w (on_finished from e w.chief))
finished_keeps w from e holds here =
    let old = holds.chief in
    by_test (λ (turn : Turn). Holds (after_chief w turn)) (eqb e w.chief.last) _ _
    (λ is.
    let same : e ≡ w.chief.last = eqb-true e w.chief.last is in
    chief_keeps w (record w.chief { finished = slice_set w.chief.finished from true }) w.commits w.begun [] holds
    (record {
      nodes = old.nodes;
      voters = old.voters;
      committed = old.committed;
      last = old.last;
      begun-is = old.begun-is;
      undecided = old.undecided;
      counted = old.counted;
      all-voted = old.all-voted;
    })
    (λ x h. h) (λ x d. record { known = d.known; uncommitted = d.uncommitted; given_up = d.given_up }) holds.entries
    (λ n up. elim (flag_set w.chief.finished from n up) [
      | inl node ↦ subst (λ (l : Letter). Among w.letters l) (letter_is n node same) here
      | inr before ↦ holds.finishers n before
    ])
    tt)
    (λ _. holds)
  where
    letter_is : (n : ℕ) → n ≡ from → e ≡ w.chief.last → ◌≡◌ {A = Letter} (record { from = from; to = 8; message = Finished e }) (record { from = n; to = 8; message = Finished w.chief.last })
    letter_is n node same i = record { from = sym node i; to = 8; message = Finished (same i) }

-- a query
query_keeps : (w : World) (from e : ℕ) → Holds w → from < w.count → LetterHolds w from (Query e) → Holds (after_chief w (on_query from e w.chief))
query_keeps w from e holds lt heard =
    let core = w.chief in
    let old = holds.chief in
    let told : (c : Bool) → LetterHolds w from (Tell e c) → Holds (after_chief w (Send from (Tell e c) ∷ [], core)) = λ c is.
    chief_keeps w core w.commits w.begun (Send from (Tell e c) ∷ []) holds
    (record {
      nodes = old.nodes;
      voters = old.voters;
      committed = old.committed;
      last = old.last;
      begun-is = old.begun-is;
      undecided = old.undecided;
      counted = old.counted;
      all-voted = old.all-voted;
    })
    (λ x h. h) (λ x d. record { known = d.known; uncommitted = d.uncommitted; given_up = d.given_up }) holds.entries holds.finishers
    (tells c is, tt) in
    by_test (λ (turn : Turn). Holds (after_chief w turn)) (core.committed e) _ _
    (λ is. told true (sym (old.committed e) ∙ is))
    (λ not. by_test (λ (turn : Turn). Holds (after_chief w turn)) (eqb e core.current && is_open core.phase) _ _
    (λ _. holds)
    (λ closed. told false (record {
      known = inr (from, lt, heard);
      uncommitted = sym (old.committed e) ∙ not;
      given_up = λ is-open same. not_both (eqb e core.current && is_open core.phase) (and_from (eqb e core.current) (is_open core.phase) (eq-eqb e core.current (sym same)) is-open) closed;
    })))
  where
    tells : (c : Bool) → LetterHolds w from (Tell e c) → SendHolds (with_chief w w.chief w.commits w.begun (Send from (Tell e c) ∷ [])) 8 (Send from (Tell e c))
    tells true is = is
    tells false d = record { known = d.known; uncommitted = d.uncommitted; given_up = d.given_up }

message_keeps : (w : World) (from : ℕ) (m : Message) → Holds w → from < w.count → Among w.letters (record { from = from; to = 8; message = m }) → Holds (after_chief w (on_message from m w.chief))
message_keeps w from (Vote e vote) holds lt here = vote_keeps w from e vote holds (holds.letters _ here)
message_keeps w from (Finished e) holds lt here = finished_keeps w from e holds here
message_keeps w from (Query e) holds lt here = query_keeps w from e holds lt (holds.letters _ here)
message_keeps w from (Ship e partition place time writes) holds lt here = holds
message_keeps w from (Total e partition places) holds lt here = holds
message_keeps w from (Missing e partition places) holds lt here = holds
message_keeps w from (All e partition) holds lt here = holds
message_keeps w from (Prepare e) holds lt here = holds
message_keeps w from (Commit e) holds lt here = holds
message_keeps w from (Abort e) holds lt here = holds
message_keeps w from (Tell e committed) holds lt here = holds

-- the coordinator takes a letter
pub chief_takes_keeps : (w : World) (from : ℕ) (m : Message) → Holds w → Among w.letters (record { from = from; to = 8; message = m }) → Holds (after_chief w (handled from m w.chief))
chief_takes_keeps w from m holds here =
    by_test (λ (turn : Turn). Holds (after_chief w turn)) (ltb from w.chief.nodes && ltb 0 (epoch_of m)) _ _
    (λ both. message_keeps w from m holds (omega (arith, holds.chief.nodes, ltb-true from w.chief.nodes (and_parts (ltb from w.chief.nodes) (ltb 0 (epoch_of m)) both).0)) here)
    (λ _. holds)

-- the commit entry is durable
pub commits_keeps : (w : World) → Holds w → w.chief.phase ≡ Forcing → Holds (after_chief (record w { commits = w.chief.current ∷ w.commits }) (forced w.chief.current w.chief))
commits_keeps w holds phase =
    let core = w.chief in
    let e = core.current in
    let turn = forced e core in
    let commits = e ∷ w.commits in
    let after = with_chief w turn.1 commits w.begun turn.0 in
    let old = holds.chief in
    let was-open : is_open core.phase ≡ true = ap is_open phase in
    let all = old.all-voted phase in
    let prepared : (n : ℕ) → n < w.count → has (w.prepared n) e ≡ true = λ n lt. old.counted was-open n lt (all_flags core.voted n all (omega (arith, old.voters))) in
    chief_keeps w turn.1 commits w.begun turn.0 holds
    (record {
      nodes = old.nodes;
      voters = old.voters;
      committed = λ x. ap (λ (b : Bool). eqb e x || b) (old.committed x);
      last = λ _. has-new w.commits e;
      begun-is = λ no. absurd cc;
      undecided = λ no. absurd cc;
      counted = λ no n lt up. absurd cc;
      all-voted = λ no. absurd cc;
    })
    (λ x h. has-more w.commits e x h)
    (λ x d. record { known = d.known; uncommitted = has-other w.commits e x (d.given_up was-open) d.uncommitted; given_up = λ no same. absurd cc })
    (λ x n committed lt. elim (has-cases w.commits e x committed) [ inl same ↦ subst (λ (k : ℕ). has (w.prepared n) k ≡ true) same (prepared n lt) | inr before ↦ holds.entries x n before lt ])
    (λ n up. none_up core.nodes n up)
    (to_each_all (SendHolds after 8) core.nodes (Commit e) (λ k. has-new w.commits e))

-- an epoch is begun
pub begins_keeps : (w : World) (e : ℕ) → Holds w → IsAbove w e → Holds (after_chief (record w { begun = e ∷ w.begun }) (begun e w.chief))
begins_keeps w e holds above =
    let core = w.chief in
    let turn = begun e core in
    let after = with_chief w turn.1 w.commits (e ∷ w.begun) turn.0 in
    let old = holds.chief in
    let fresh : (x : ℕ) → IsKnown w x → e ≡ x → ⊥ = λ x known same. elim known [ inl b ↦ (let lt : x < e = above.begun x b in omega (arith, lt, same)) | inr p ↦ (let lt : x < e = above.prepared p.0 x p.1 p.2 in omega (arith, lt, same)) ] in
    let none : has w.commits e ≡ false = elim (true_or_false (has w.commits e)) [ inl t ↦ absurd (let lt : e < e = above.committed e t in omega (arith, lt)) | inr f ↦ f ] in
    chief_keeps w turn.1 w.commits (e ∷ w.begun) turn.0 holds
    (record {
      nodes = old.nodes;
      voters = length-replicate core.nodes false ∙ old.nodes;
      committed = old.committed;
      last = old.last;
      begun-is = λ _. has-new w.begun e;
      undecided = λ _. none;
      counted = λ _ n lt up. none_up core.nodes n up;
      all-voted = λ no. absurd cc;
    })
    (λ x h. h)
    (λ x d. record { known = elim d.known [ inl b ↦ inl (has-more w.begun e x b) | inr p ↦ inr p ]; uncommitted = d.uncommitted; given_up = λ _. fresh x d.known })
    holds.entries holds.finishers
    (to_each_all (SendHolds after 8) core.nodes (Prepare e) (λ k. tt))

-- nodes are reminded
pub reminds_keeps : (w : World) → Holds w → Holds (after_chief w (reminds w.chief, w.chief))
reminds_keeps w holds =
    let core = w.chief in
    let old = holds.chief in
    by_test (λ (actions : List Action). Holds (after_chief w (actions, core))) (eqb core.last 0) _ _
    (λ _. holds)
    (λ some.
    let actions = to_unfinished core.nodes core.finished (Commit core.last) in
    let after = with_chief w core w.commits w.begun actions in
    chief_keeps w core w.commits w.begun actions holds
    (record {
      nodes = old.nodes;
      voters = old.voters;
      committed = old.committed;
      last = old.last;
      begun-is = old.begun-is;
      undecided = old.undecided;
      counted = old.counted;
      all-voted = old.all-voted;
    })
    (λ x h. h) (λ x d. record { known = d.known; uncommitted = d.uncommitted; given_up = d.given_up }) holds.entries holds.finishers
    (to_unfinished_all (SendHolds after 8) core.nodes core.finished (Commit core.last) (λ k. old.last (omega (arith, eqb-false core.last 0 some)))))
