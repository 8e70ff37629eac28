-- What is answered of an entry, and of a list in one, behind those that came before.
use Rattle.std.specs.Prelude.{◌≡◌, ℕ, List, ◌∷◌, ◌++◌, length, Option, None, Some}
use Rattle.coco_store.specs.Refusals.{IsFirst}
use Rattle.coco_store.specs.Rules.{EachBehind}

-- the entry keeps its rules and this is so behind it, or the least place is told at which it breaks one
abbrev pub Judges : Option ℕ → Type 0 → Type 0 → (ℕ → Type 0) → Type 0
Judges None Keeps After Breaks = Keeps × After
Judges (Some at) Keeps After Breaks = IsFirst Breaks at

-- so many items keep a rule, each behind all that come before it, and the next one breaks it
pub record IsFirstBroken {A : Type 0} (Rule : List A → A → Type 0) (before items : List A) (i : ℕ) : Type 0 where
  pub ahead : List A
  pub item : A
  pub behind : List A
  pub is : items ≡ ahead ++ item ∷ behind
  pub place : i ≡ length ahead
  pub each : EachBehind Rule before ahead
  pub broken : ¬ (Rule (before ++ ahead) item)

-- all items keep the rule and this is so behind them, or the first one is told that breaks it
abbrev pub FindsBroken : {A : Type 0} → Option ℕ → (List A → A → Type 0) → List A → List A → Type 0 → Type 0
FindsBroken None Rule before items After = EachBehind Rule before items × After
FindsBroken (Some i) Rule before items After = IsFirstBroken Rule before items i
