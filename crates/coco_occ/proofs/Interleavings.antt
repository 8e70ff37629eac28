-- One more turn of attempts that take turns.
use Rattle.std.proofs.Common.{◌≡◌, ℕ, zero, suc, ◌+◌, ◌<◌, inl, inr, Bool, true, false, cond, nat_eq, List, [], ◌∷◌, ◌++◌, map, length, take, drop, None, Some, refl, sym, ap, ◌∙◌, subst, append_assoc, slice_index_or, slice_set}
use Rattle.std.specs.List.{All, filter, slice_get}
use Rattle.std.proofs.lemmas.List.{map-append, append-nil, take_more, take-append-drop}
use Rattle.std.proofs.lemmas.List.Elements.{filter-append, filter_map-append}
use Rattle.std.proofs.lemmas.Option.{slice_get-get_or, get_or_from_slice_get}
use Rattle.std.proofs.lemmas.Bool.{eqb-true, eq-eqb}
use Rattle.coco_ast.specs.Tree.{Procedures}
use Rattle.coco_shard.specs.Law.{Entry, IsAnswered, after_asks, asks_of}
use Rattle.coco_shard.specs.RowState.{ShardState, stable_at}
use Rattle.coco_shard.specs.Table.{after_ask, answer_in}
use Rattle.coco_shard.specs.declared.ops.Ask.{Ask}
use Rattle.coco_shard.proofs.LawLemmas.{answers_lawful}
use Rattle.coco_occ.specs.Interleaving.{Act, Steps, Ends, Rests, Turn, acts_of, acts, told, end_move, move_in, moves_of, step_in, steps_in, standing_behind, standing_after, rests, RestOnceEnded, Plays, journal_at, Serves, IsServed, TakesTurn, BreaksOff, StopsShort, MayPlay, IsInterleaving}
use Rattle.coco_occ.specs.Steps.{at_shard, taken}
use Rattle.coco_occ.specs.Trying.{Standing, Trying, has_ended}
use Rattle.coco_occ.specs.declared.outcome.Move.{Move}
use Rattle.coco_occ.specs.declared.outcome.Move.TheVariants as move
use Rattle.coco_occ.specs.declared.script.Step.{Step}
use Rattle.coco_occ.proofs.OneTurn.{plays_on}

-- ---- a list's item after a write

get_set_same : {X : Type 0} (xs : List X) (i : ℕ) (x y : X) → slice_get xs i ≡ Some x → slice_get (slice_set xs i y) i ≡ Some y
get_set_same [] i x y is = absurd (let h : None ≡ Some x = is in cc)
get_set_same (z ∷ xs) zero x y is = refl
get_set_same (z ∷ xs) (suc i) x y is = get_set_same xs i x y is

get_set_other : {X : Type 0} (xs : List X) (i k : ℕ) (y : X) → (i ≡ k → ⊥) → slice_get (slice_set xs i y) k ≡ slice_get xs k
get_set_other [] i k y apart = refl
get_set_other (z ∷ xs) zero zero y apart = absurd (apart refl)
get_set_other (z ∷ xs) zero (suc k) y apart = refl
get_set_other (z ∷ xs) (suc i) zero y apart = refl
get_set_other (z ∷ xs) (suc i) (suc k) y apart = get_set_other xs i k y (λ e. apart (ap suc e))

two_numbers : (i k : ℕ) → nat_eq i k ≡ false → i ≡ k → ⊥
two_numbers i k is e = let h : true ≡ false = sym (eq-eqb i k e) ∙ is in cc

-- ---- one act more of an attempt

standing_more : (s : Standing) (done : List Act) (a : Act) → standing_after s (done ++ a ∷ []) ≡ standing_behind (standing_after s done) a
standing_more s [] a = refl
standing_more s (b ∷ done) a = standing_more (standing_behind s b) done a

rest_more : (s : Standing) (done : List Act) (a : Act) → RestOnceEnded s done → rests a ≡ has_ended (standing_after s done) → RestOnceEnded s (done ++ a ∷ [])
rest_more s [] a turns is = (is, tt)
rest_more s (b ∷ done) a turns is = (turns.0, rest_more (standing_behind s b) done a turns.1 is)

plays_more : (a b c : Trying) (done : List Act) (act : Act) → Plays a b done → Plays b c (act ∷ []) → Plays a c (done ++ act ∷ [])
plays_more a b c done act p q =
    let standing : b.standing ≡ standing_after a.standing done = ap (λ (t : Trying). t.standing) p.left in
    record {
      turns = rest_more a.standing done act p.turns (q.turns.0 ∙ ap has_ended standing);
      left = q.left
          ∙ ap (λ (t : Trying). record t { script = t.script ++ steps_in (act ∷ []); standing = standing_behind t.standing act }) p.left
          ∙ ap (λ (x : List Step). record a { script = x; standing = standing_behind (standing_after a.standing done) act }) (append_assoc a.script (steps_in done) (steps_in (act ∷ [])) ∙ ap (λ (x : List Step). a.script ++ x) (sym (filter_map-append step_in done (act ∷ []))))
          ∙ ap (λ (x : Standing). record a { script = a.script ++ steps_in (done ++ act ∷ []); standing = x }) (sym (standing_more a.standing done act));
      sound = λ s. q.sound (p.sound s);
    }

-- ---- one step more of a shard

after_more : (s : ShardState) (done : List Ask) (a : Ask) → after_asks s (done ++ a ∷ []) ≡ after_ask (after_asks s done) a
after_more s [] a = refl
after_more s (b ∷ done) a = after_more (after_ask s b) done a

answered_more : (s : ShardState) (journal : List Entry) (e : Entry) → IsAnswered s journal → e.answer ≡ answer_in (after_asks s (asks_of journal)) e.ask → IsAnswered s (journal ++ e ∷ [])
answered_more s [] e h is zero d here = subst (λ (x : Entry). x.answer ≡ answer_in s x.ask) (let h : Some e ≡ Some d = here in cc) is
answered_more s [] e h is (suc place) d here = absurd (let h : None ≡ Some d = here in cc)
answered_more s (x ∷ journal) e h is zero d here = h zero d here
answered_more s (x ∷ journal) e h is (suc place) d here = answered_more (after_ask s x.ask) journal e (λ p y at. h (suc p) y at) is place d here

served_by : (s t : ShardState) (journal : List Entry) → IsAnswered s journal → t ≡ after_asks s (asks_of journal) → Serves s t journal
served_by s t journal answered left = record {
  answered = answered;
  left = left;
  lawful = λ settled. answers_lawful (stable_at s) s journal settled answered;
}

pub serves_none : (s : ShardState) → Serves s s []
serves_none s = served_by s s [] (λ place e here. absurd (let h : None ≡ Some e = here in cc)) refl

serves_more : (s t : ShardState) (journal : List Entry) (e : Entry) → Serves s t journal → e.answer ≡ answer_in t e.ask → Serves s (after_ask t e.ask) (journal ++ e ∷ [])
serves_more s t journal e serves is =
    served_by s (after_ask t e.ask) (journal ++ e ∷ []) (answered_more s journal e serves.answered (is ∙ ap (λ (x : ShardState). answer_in x e.ask) serves.left))
    (ap (λ (x : ShardState). after_ask x e.ask) serves.left ∙ sym (after_more s (asks_of journal) e.ask) ∙ ap (after_asks s) (sym (map-append (λ (x : Entry). x.ask) journal (e ∷ []))))

-- ---- one turn more

acts_more : (who : ℕ) (turns : List Turn) (t : Turn) → acts_of who (turns ++ t ∷ []) ≡ acts_of who turns ++ cond (nat_eq t.who who) (t.act ∷ []) []
acts_more who turns t =
    ap (map (λ (t : Turn). t.act)) (filter-append (λ (t : Turn). nat_eq t.who who) turns (t ∷ []))
    ∙ map-append (λ (t : Turn). t.act) (filter (λ (t : Turn). nat_eq t.who who) turns) (filter (λ (t : Turn). nat_eq t.who who) (t ∷ []))
    ∙ ap (λ (x : List Act). acts_of who turns ++ x) (elim (nat_eq t.who who) as (λ b. map (λ (t : Turn). t.act) (cond b (t ∷ []) []) ≡ cond b (t.act ∷ []) []) [ true ↦ refl | false ↦ refl ])

journal_more : (shard : ℕ) (turns : List Turn) (t : Turn) → journal_at shard (turns ++ t ∷ []) ≡ journal_at shard turns ++ at_shard shard (steps_in (t.act ∷ []))
journal_more shard turns t =
    ap (λ (x : List Act). at_shard shard (steps_in x)) (map-append (λ (t : Turn). t.act) turns (t ∷ []))
    ∙ ap (at_shard shard) (filter_map-append step_in (acts turns) (t.act ∷ []))
    ∙ ap (map taken) (filter-append (λ (s : Step). nat_eq s.shard shard) (steps_in (acts turns)) (steps_in (t.act ∷ [])))
    ∙ map-append taken (filter (λ (s : Step). nat_eq s.shard shard) (steps_in (acts turns))) (filter (λ (s : Step). nat_eq s.shard shard) (steps_in (t.act ∷ [])))

-- what a turn leaves of a shard
abbrev Left : List ShardState → ℕ → ShardState → List Entry → Type 0
Left served shard s journal = (t : ShardState) × (slice_get served shard ≡ Some t) × Serves s t journal

same_left : (served later : List ShardState) (shard : ℕ) (s : ShardState) (journal : List Entry) → later ≡ served → Left served shard s journal → Left later shard s (journal ++ [])
same_left served later shard s journal same left = (left.0, ap (λ (x : List ShardState). slice_get x shard) same ∙ left.1, subst (Serves s left.0) (sym (append-nil journal)) left.2)

step_left : (served later : List ShardState) (shard : ℕ) (s : ShardState) (journal : List Entry) (step : Step) → IsServed served later (Steps step) → Left served shard s journal → Left later shard s (journal ++ at_shard shard (step ∷ []))
step_left served later shard s journal step is left = by_shard (nat_eq step.shard shard) refl
  where
    by_shard : (b : Bool) → nat_eq step.shard shard ≡ b → Left later shard s (journal ++ map taken (cond b (step ∷ []) []))
    by_shard true here =
        let same : step.shard ≡ shard = eqb-true step.shard shard here in
        let one : left.0 ≡ is.0 = (let h : Some left.0 ≡ Some is.0 = sym left.1 ∙ ap (slice_get served) (sym same) ∙ is.1 in cc) in (
          after_ask left.0 step.ask,
          ap (λ (x : List ShardState). slice_get x shard) is.3 ∙ ap (λ (n : ℕ). slice_get (slice_set served n (after_ask is.0 step.ask)) shard) same
              ∙ get_set_same served shard left.0 (after_ask is.0 step.ask) left.1 ∙ ap (λ (x : ShardState). Some (after_ask x step.ask)) (sym one),
          serves_more s left.0 journal (taken step) left.2 (is.2 ∙ ap (λ (x : ShardState). answer_in x step.ask) (sym one)),
        )
    by_shard false apart =
        (left.0, ap (λ (x : List ShardState). slice_get x shard) is.3 ∙ get_set_other served step.shard shard (after_ask is.0 step.ask) (two_numbers step.shard shard apart) ∙ left.1, subst (Serves s left.0) (sym (append-nil journal)) left.2)

act_left : (served later : List ShardState) (shard : ℕ) (s : ShardState) (journal : List Entry) (act : Act) → IsServed served later act → Left served shard s journal → Left later shard s (journal ++ at_shard shard (steps_in (act ∷ [])))
act_left served later shard s journal (Steps step) is left = step_left served later shard s journal step is left
act_left served later shard s journal (Ends outcome writes) is left = same_left served later shard s journal is left
act_left served later shard s journal Rests is left = same_left served later shard s journal is left

-- what a turn leaves of an attempt
abbrev Played : List Trying → ℕ → Trying → List Act → Type 0
Played played who a done = (b : Trying) × (slice_get played who ≡ Some b) × Plays a b done

act_played : (played : List Trying) (mover who : ℕ) (a b c : Trying) (done : List Act) (act : Act) → slice_get played mover ≡ Some b → Plays b c (act ∷ []) → Played played who a done
    → Played (slice_set played mover c) who a (done ++ cond (nat_eq mover who) (act ∷ []) [])
act_played played mover who a b c done act at plays was = by_who (nat_eq mover who) refl
  where
    by_who : (t : Bool) → nat_eq mover who ≡ t → Played (slice_set played mover c) who a (done ++ cond t (act ∷ []) [])
    by_who true here =
        let same : mover ≡ who = eqb-true mover who here in
        let one : was.0 ≡ b = (let h : Some was.0 ≡ Some b = sym was.1 ∙ ap (slice_get played) (sym same) ∙ at in cc) in
        (c, ap (λ (n : ℕ). slice_get (slice_set played n c) who) same ∙ get_set_same played who was.0 c was.1, plays_more a was.0 c done act was.2 (subst (λ (x : Trying). Plays x c (act ∷ [])) (sym one) plays))
    by_who false apart = (was.0, get_set_other played mover who c (two_numbers mover who apart) ∙ was.1, subst (Plays a was.0) (sym (append-nil done)) was.2)

pub one_turn_more : (order : List ℕ) (turns : List Turn) (shards served later : List ShardState) (attempts played : List Trying) (who : ℕ) (b c : Trying) (act : Act) →
    IsInterleaving order turns shards served attempts played → slice_get played who ≡ Some b → TakesTurn served later b c act →
    IsInterleaving (order ++ who ∷ []) (turns ++ record { who = who; act = act } ∷ []) shards later attempts (slice_set played who c)
one_turn_more order turns shards served later attempts played who b c act i at takes =
    let t : Turn = record { who = who; act = act } in
    record {
      numbers = map-append (λ (t : Turn). t.who) turns (t ∷ []) ∙ ap (λ (x : List ℕ). x ++ who ∷ []) i.numbers;
      serves = λ shard s here. subst (Left later shard s) (sym (journal_more shard turns t)) (act_left served later shard s (journal_at shard turns) act takes.is_served (i.serves shard s here));
      plays = λ other a here. subst (Played (slice_set played who c) other a) (sym (acts_more other turns t)) (act_played played who other a b c (acts_of other turns) act at takes.plays (i.plays other a here));
    }

pub no_turn : (shards : List ShardState) (attempts : List Trying) → IsInterleaving [] [] shards shards attempts attempts
no_turn shards attempts = record {
  numbers = refl;
  serves = λ shard s here. (s, here, serves_none s);
  plays = λ who a here. (a, here, record { turns = tt; left = ap (λ (x : List Step). record a { script = x }) (sym (append-nil a.script)); sound = λ s. s });
}

-- ---- a runner so far

pub record SoFar (order : List ℕ) (moves : List (ℕ × Move)) (shards served : List ShardState) (attempts played : List Trying) : Type 0 where
  pub turns : List Turn
  pub moves_are : moves ≡ moves_of turns
  pub interleaving : IsInterleaving order turns shards served attempts played

-- an attempt that may play still may
pub mover_may : (procs : Procedures) (count : ℕ) (order : List ℕ) (moves : List (ℕ × Move)) (shards served : List ShardState) (attempts played : List Trying) (who : ℕ) (d : Trying) → SoFar order moves shards served attempts played →
    All (MayPlay procs count) attempts → who < length attempts → MayPlay procs count (slice_index_or played who d)
mover_may procs count order moves shards served attempts played who d s may below =
    let was = s.interleaving.plays who (slice_index_or attempts who d) (slice_get-get_or attempts who d below) in
    subst (MayPlay procs count) (sym (get_or_from_slice_get played who was.0 d was.1)) (plays_on procs count (slice_index_or attempts who d) was.0 (acts_of who s.turns) (may who d below) was.2)

played_at : (order : List ℕ) (moves : List (ℕ × Move)) (shards served : List ShardState) (attempts played : List Trying) (who : ℕ) (d : Trying) → SoFar order moves shards served attempts played → who < length attempts → slice_get played who ≡ Some (slice_index_or played who d)
played_at order moves shards served attempts played who d s below =
    let was = s.interleaving.plays who (slice_index_or attempts who d) (slice_get-get_or attempts who d below) in
    was.1 ∙ ap (λ (x : Trying). Some x) (sym (get_or_from_slice_get played who was.0 d was.1))

-- one turn more, of the attempt at the next number
pub so_far_more : (order : List ℕ) (i : ℕ) (moves more : List (ℕ × Move)) (shards served later : List ShardState) (attempts played : List Trying) (d b : Trying) (act : Act) → i < length order → slice_index_or order i 0 < length attempts →
    SoFar (take i order) moves shards served attempts played → TakesTurn served later (slice_index_or played (slice_index_or order i 0) d) b act → more ≡ moves ++ moves_of (record { who = slice_index_or order i 0; act = act } ∷ []) →
    SoFar (take (i + 1) order) more shards later attempts (slice_set played (slice_index_or order i 0) b)
so_far_more order i moves more shards served later attempts played d b act within below s takes is =
    let who : ℕ = slice_index_or order i 0 in
    let t : Turn = record { who = who; act = act } in
    record {
      turns = s.turns ++ t ∷ [];
      moves_are = is ∙ ap (λ (x : List (ℕ × Move)). x ++ moves_of (t ∷ [])) s.moves_are ∙ sym (filter_map-append (λ (t : Turn). told t.who (move_in t.act)) s.turns (t ∷ []));
      interleaving = subst (λ (x : List ℕ). IsInterleaving x (s.turns ++ t ∷ []) shards later attempts (slice_set played who b)) (sym (take_more order i 0 within))
          (one_turn_more (take i order) s.turns shards served later attempts played who (slice_index_or played who d) b act s.interleaving (played_at (take i order) moves shards served attempts played who d s below) takes);
    }

-- the move of a turn
pub moved : (who : ℕ) (act : Act) (m : Move) → Some m ≡ move_in act → (who, m) ∷ [] ≡ moves_of (record { who = who; act = act } ∷ [])
moved who (Steps s) m is = let e : m ≡ move.Ask s.shard s.ask = cc in ap (λ (x : Move). (who, x) ∷ []) e
moved who (Ends outcome writes) m is = let e : m ≡ end_move outcome = cc in ap (λ (x : Move). (who, x) ∷ []) e
moved who Rests m is = absurd (let h : Some m ≡ None = is in cc)

pub not_moved : (who : ℕ) (act : Act) → None ≡ move_in act → [] ≡ moves_of (record { who = who; act = act } ∷ [])
not_moved who (Steps s) is = absurd (let h : None ≡ Some (move.Ask s.shard s.ask) = is in cc)
not_moved who (Ends outcome writes) is = absurd (let h : None ≡ Some (end_move outcome) = is in cc)
not_moved who Rests is = refl

pub stops_first : (order : List ℕ) (shards : List ShardState) (attempts : List Trying) → StopsShort order shards shards attempts attempts
stops_first order shards attempts = record {
  turns = [];
  first = [];
  unmoved = order;
  split = refl;
  shards_then = shards;
  attempts_then = attempts;
  so_far = no_turn shards attempts;
  rest = inl (refl, refl);
}

pub stops_later : (order : List ℕ) (i : ℕ) (moves : List (ℕ × Move)) (shards served later : List ShardState) (attempts played : List Trying) (d b : Trying) → slice_index_or order i 0 < length attempts → SoFar (take i order) moves shards served attempts played →
    BreaksOff served later (slice_index_or played (slice_index_or order i 0) d) b → StopsShort order shards later attempts (slice_set played (slice_index_or order i 0) b)
stops_later order i moves shards served later attempts played d b below s breaks =
    let who : ℕ = slice_index_or order i 0 in
    record {
      turns = s.turns;
      first = take i order;
      unmoved = drop i order;
      split = sym (take-append-drop i order);
      shards_then = served;
      attempts_then = played;
      so_far = s.interleaving;
      rest = inr (who, slice_index_or played who d, b, played_at (take i order) moves shards served attempts played who d s below, refl, breaks);
    }
