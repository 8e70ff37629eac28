-- Replies of readers on tables that hold a map.
use Rattle.std.proofs.Common.{◌≡◌, ℕ, zero, suc, ◌+◌, ◌%◌, ◌<◌, Bool, true, false, cond, eqb, All, List, [], ◌∷◌, map, length, Option, None, Some, slice_index_or, refl, sym, ap, ◌∙◌, arith}
use Rattle.std.specs.Prelude.{sum_by}
use Rattle.std.specs.List.{AllByRecursion, slice_get}
use Rattle.std.specs.Option.{option_map}
use Rattle.std.proofs.lemmas.Bool.{eq-eqb, eqb-true}
use Rattle.std.proofs.lemmas.List.{length-map, same_lists}
use Rattle.std.proofs.lemmas.List.Elements.{recursion_from_All}
use Rattle.std.proofs.lemmas.List.Sums.{sum_by-cons}
use Rattle.std.proofs.lemmas.Nat.{mod_below}
use Rattle.std.proofs.lemmas.Option.{get_or_from_slice_get, slice_get-map}
use Rattle.coco_types.specs.declared.call.Reply.{Reply}
use Rattle.coco_types.specs.declared.call.Request.{Request}
use Rattle.coco_types.specs.declared.value.Value.{Value}
use Rattle.coco_ast.specs.Keyed.{Rows, value_at}
use Rattle.coco_ast.specs.Meaning.{run}
use Rattle.coco_ast.specs.Tree.{Procedures}
use Rattle.coco_ast.proofs.KeyedLemmas.{value_on_partition}
use Rattle.coco_ast.proofs.Lists.{all_weaker}
use Rattle.coco_claim.specs.Numbers.{times}
use Rattle.coco_claim.proofs.Counts.{times-cons}
use Rattle.coco_eval.specs.declared.machine.Given.{Given}
use Rattle.coco_query.specs.Answers.{HaveRead, IsIn, IsReplied, RepliesAreRuns}
use Rattle.coco_query.specs.Frozen.{HoldsFrozen}
use Rattle.coco_query.specs.Readers.{had_by, places_of}
use Rattle.coco_query.specs.declared.answering.Answered.{Answered}
use Rattle.coco_query.specs.declared.frozen.Frozen.{Frozen}
use Rattle.coco_query.specs.declared.readers.Reading.{Reading}
use Rattle.coco_query.specs.declared.readers.Transcript.{Transcript}
use Rattle.coco_query.proofs.PlacingLemmas.{all_split}

-- ---- a reading of each place

module _ (P : Reading → Type 0) (place : ℕ) where
  abbrev Found : Type 0
  Found = (r : Reading) × (r.place ≡ place) × P r

  found : (rs : List Reading) → AllByRecursion P rs → 0 < times place (places_of rs) → Found
  found [] all some = absurd (omega (arith, some))
  found (r ∷ rs) all some = by_first (found rs all.1) (eqb r.place place) refl
    where
      by_first : (0 < times place (places_of rs) → Found) → (b : Bool) → eqb r.place place ≡ b → Found
      by_first rest true is = (r, eqb-true r.place place is, all.0)
      by_first rest false is =
          let cons : times place (places_of (r ∷ rs)) ≡ cond (eqb r.place place) 1 0 + times place (places_of rs) = times-cons place r.place (places_of rs) in
          let none : cond (eqb r.place place) 1 0 ≡ 0 = ap (λ (b : Bool). (let n : ℕ = cond b 1 0 in n)) is in
          rest (omega (arith, some, cons, none))

  found_in : (ts : List Transcript) → AllByRecursion (λ (t : Transcript). AllByRecursion P t.readings) ts → 0 < sum_by (λ (t : Transcript). times place (places_of t.readings)) ts → Found
  found_in [] all some = absurd (omega (arith, some))
  found_in (t ∷ ts) all some = by_count (found_in ts all.1) (times place (places_of t.readings)) refl
    where
      by_count : (0 < sum_by (λ (u : Transcript). times place (places_of u.readings)) ts → Found) → (n : ℕ) → times place (places_of t.readings) ≡ n → Found
      by_count rest zero is = let cons = sum_by-cons (λ (u : Transcript). times place (places_of u.readings)) t ts in rest (omega (arith, some, cons, is))
      by_count rest (suc n) is = found t.readings all.0 (omega (arith, is))

-- ---- readings on a map

module _ (m : Rows) (tables : List Frozen) (some : 0 < length tables) (hold : HoldsFrozen m tables) where
  is_given : (g : Given) → IsIn tables g → value_at m g.key ≡ g.value
  is_given g is =
      let p : ℕ = g.key.row % length tables in
      sym (is ∙ hold p g.key (mod_below g.key.row (length tables) some) ∙ value_on_partition (length tables) p m g.key ∙ ap (λ (b : Bool). let v : Option Value = cond b (value_at m g.key) None in v) (eq-eqb p p refl))

  -- the reply at the reading's place is that of its request's run
  abbrev IsRunAt : Procedures → List Request → List Reply → Reading → Type 0
  IsRunAt procs requests replies r = (q : Request) × (slice_get requests r.place ≡ Some q) × (slice_get replies r.place ≡ Some (run procs q.call m).reply)

  all_runs : (procs : Procedures) (requests : List Request) (replies : List Reply) (rs : List Reading) → AllByRecursion (IsReplied procs requests replies) rs → AllByRecursion (IsIn tables) (had_by rs) → AllByRecursion (IsRunAt procs requests replies) rs
  all_runs procs requests replies [] replied values = tt
  all_runs procs requests replies (r ∷ rs) replied values =
      let parts = all_split (IsIn tables) r.had (had_by rs) values in
      let is = replied.0 in
      let ends = is.2.ends m (all_weaker (IsIn tables) (λ (g : Given). value_at m g.key ≡ g.value) is_given r.had parts.0) in
      ((is.2.request, is.2.placed, is.1 ∙ ap (λ (a : Reply). Some a) (sym ends.0)), all_runs procs requests replies rs replied.1 parts.1)

  module _ (procs : Procedures) (requests : List Request) (gate readers : ℕ) (a : Answered) (read : HaveRead procs requests gate readers tables a) where
    abbrev replies : List Reply
    replies = a.replies.items

    abbrev reply_of : Request → Reply
    reply_of q = (run procs q.call m).reply

    abbrev IsRun : Reading → Type 0
    IsRun = IsRunAt procs requests replies

    each : All (λ (t : Transcript). AllByRecursion IsRun t.readings) a.transcripts.items
    each n d lt =
        let told = read.told n d (let c = read.count in omega (arith, c, lt)) in
        all_runs procs requests replies (slice_index_or a.transcripts.items n d).readings told.replied told.values

    same_at : (place : ℕ) (d : Reply) → place < length replies → slice_index_or replies place d ≡ slice_index_or (map reply_of requests) place d
    same_at place d lt =
        let within : place < length requests = (let n = read.replies in omega (arith, n, lt)) in
        let once = read.once place within in
        let at : Found IsRun place = found_in IsRun place a.transcripts.items (recursion_from_All (λ (t : Transcript). AllByRecursion IsRun t.readings) a.transcripts.items each) (omega (arith, once)) in
        let is : IsRun at.0 = at.2 in
        let here : slice_get replies place ≡ Some (reply_of is.0) = ap (slice_get replies) (sym at.1) ∙ is.2 in
        let there : slice_get (map reply_of requests) place ≡ Some (reply_of is.0) = slice_get-map reply_of requests place ∙ ap (option_map reply_of) (ap (slice_get requests) (sym at.1) ∙ is.1) in
        get_or_from_slice_get replies place (reply_of is.0) d here ∙ sym (get_or_from_slice_get (map reply_of requests) place (reply_of is.0) d there)

    runs : a.replies.items ≡ map reply_of requests
    runs = same_lists replies (map reply_of requests) (read.replies ∙ sym (length-map requests reply_of)) same_at

pub replies_are_runs : RepliesAreRuns
replies_are_runs procs requests gate readers tables a m some read hold = runs m tables some hold procs requests gate readers a read
