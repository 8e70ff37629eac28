-- Cores at places, and the epochs that they have durable.
use Rattle.std.proofs.Common.{◌≡◌, ◌≢◌, ℕ, zero, suc, ◌<◌, Bool, true, false, eqb, List, [], ◌∷◌, length, Option, Some, refl, sym, ap, ◌∙◌, arith}
use Rattle.std.specs.Prelude.{if◌then◌else◌, unwrap_or}
use Rattle.std.specs.List.{slice_get}
use Rattle.std.specs.Option.{option_map}
use Rattle.std.proofs.Math.ListN.{set}
use Rattle.std.proofs.lemmas.Bool.{eqb-true, eqb-false, eq-eqb, ne_eqb}
use Rattle.coco_node.specs.Node.{Node}
use Rattle.coco_letters.specs.declared.voter.Voter.{Voter}
use Rattle.coco_world.specs.World.{put}
use Rattle.coco_vote.specs.Preparing.{durable_at, have_durable}

module _ {X : Type 0} where
  pub get_set_same : (xs : List X) (i : ℕ) (w : X) → i < length xs → slice_get (set xs i w) i ≡ Some w
  get_set_same [] i w h = absurd (omega arith)
  get_set_same (x ∷ xs) zero w h = refl
  get_set_same (x ∷ xs) (suc i) w h = get_set_same xs i w (omega arith)

  pub get_set_other : (xs : List X) (i j : ℕ) (w : X) → j ≢ i → slice_get (set xs i w) j ≡ slice_get xs j
  get_set_other [] i j w h = refl
  get_set_other (x ∷ xs) zero zero w h = absurd (h refl)
  get_set_other (x ∷ xs) zero (suc j) w h = refl
  get_set_other (x ∷ xs) (suc i) zero w h = refl
  get_set_other (x ∷ xs) (suc i) (suc j) w h = get_set_other xs i j w (λ e. h (ap suc e))

  pub set_again : (xs : List X) (i : ℕ) (v w : X) → set (set xs i v) i w ≡ set xs i w
  set_again [] i v w = refl
  set_again (x ∷ xs) zero v w = refl
  set_again (x ∷ xs) (suc i) v w = ap (λ ys. x ∷ ys) (set_again xs i v w)

-- what a node has durable, by its core
pub durable_here : (cores : List Node) (n : ℕ) (core : Node) → slice_get cores n ≡ Some core → durable_at cores n ≡ core.durable
durable_here cores n core there = ap (λ (o : Option Node). unwrap_or (option_map (λ (c : Node). c.durable) o) 0) there

pub durable_set : (cores : List Node) (n : ℕ) (core : Node) → n < length cores → durable_at (set cores n core) n ≡ core.durable
durable_set cores n core within = durable_here (set cores n core) n core (get_set_same cores n core within)

pub durable_else : (cores : List Node) (n k : ℕ) (core : Node) → k ≢ n → durable_at (set cores n core) k ≡ durable_at cores k
durable_else cores n k core other = ap (λ (o : Option Node). unwrap_or (option_map (λ (c : Node). c.durable) o) 0) (get_set_other cores n k core other)

-- a node that has this epoch durable behind a step
pub have_one_more : (epoch : ℕ) (cores : List Node) (n : ℕ) (core : Node) → n < length cores → core.durable ≡ epoch → (k : ℕ) → have_durable epoch (set cores n core) k ≡ put (have_durable epoch cores) n true k
have_one_more epoch cores n core within is k = by_place (eqb k n) refl
  where
    by_place : (b : Bool) → eqb k n ≡ b → have_durable epoch (set cores n core) k ≡ (if b then true else have_durable epoch cores k)
    by_place true at = let same : k ≡ n = eqb-true k n at in
        eq-eqb (durable_at (set cores n core) k) epoch (ap (durable_at (set cores n core)) same ∙ durable_set cores n core within ∙ is)
    by_place false at = ap (λ (d : ℕ). eqb d epoch) (durable_else cores n k core (eqb-false k n at))

-- and one that has what it had
pub have_same : (epoch : ℕ) (cores : List Node) (n : ℕ) (old core : Node) → n < length cores → slice_get cores n ≡ Some old → core.durable ≡ old.durable → (k : ℕ) → have_durable epoch (set cores n core) k ≡ have_durable epoch cores k
have_same epoch cores n old core within there is k = by_place (eqb k n) refl
  where
    by_place : (b : Bool) → eqb k n ≡ b → have_durable epoch (set cores n core) k ≡ have_durable epoch cores k
    by_place true at = let same : k ≡ n = eqb-true k n at in
        ap (λ (d : ℕ). eqb d epoch) (ap (durable_at (set cores n core)) same ∙ durable_set cores n core within ∙ is ∙ sym (durable_here cores n old there) ∙ ap (durable_at cores) (sym same))
    by_place false at = ap (λ (d : ℕ). eqb d epoch) (durable_else cores n k core (eqb-false k n at))

-- one whose newest entry is older hasn't
pub has_older : (epoch : ℕ) (cores : List Node) (n : ℕ) (core : Node) → slice_get cores n ≡ Some core → core.durable < epoch → have_durable epoch cores n ≡ false
has_older epoch cores n core there older = ne_eqb (durable_at cores n) epoch (λ same. let is : durable_at cores n ≡ core.durable = durable_here cores n core there in omega (arith, is, same, older))

pub held_items : (a b : Voter) → a.held ≡ b.held → a.held.items ≡ b.held.items
held_items a b same = λ i. (same i).items
