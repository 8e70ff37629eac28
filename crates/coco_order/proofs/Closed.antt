-- The journal that a journaled shard closes with, as the law of a shard has it.
use Rattle.std.proofs.Common.{◌≡◌, ℕ, List, [], ◌∷◌, map, Option, None, Some, refl, sym, ap, ◌∙◌, subst}
use Rattle.std.specs.Prelude.{take, slice_get}
use Rattle.std.specs.Option.{option_map}
use Rattle.std.proofs.lemmas.Option.{slice_get-map}
use Rattle.std.proofs.lemmas.List.{take-map}
use Rattle.coco_types.specs.RowKey.{RowKey}
use Rattle.coco_types.specs.declared.value.Value.{Value}
use Rattle.coco_shard.specs.declared.ops.Ask.{Ask}
use Rattle.coco_shard.specs.declared.ops.Answer.{Answer}
use Rattle.coco_shard.specs.Law.{Entry, IsAnswered, IsLawful, after_asks, asks_of, law_row}
use Rattle.coco_shard.specs.RowState.{Holds, ShardState, row_at}
use Rattle.coco_shard.specs.Table.{after_ask, answer_in, key_of}
use Rattle.coco_shard.proofs.LawLemmas.{answers_lawful, answers_rows}
use Rattle.coco_journaled.specs.declared.entry.Entry.{Entry as Logged}
use Rattle.coco_journaled.specs.Replay.{Replays, after}
use Rattle.coco_order.specs.Execution.{Journal, logged, steps_of}
use Rattle.coco_order.specs.Laws.{AnswersFit, ClosedIsLawful}

after_steps : (s : ShardState) (journal : Journal) → after after_ask s journal ≡ after_asks s (asks_of (steps_of journal))
after_steps s [] = refl
after_steps s (e ∷ es) = after_steps (after_ask s e.ask) es

same : {X : Type 0} {x y : X} → Some x ≡ Some y → x ≡ y
same is = cc

module _ (s : ShardState) (journal : Journal) (place : ℕ) where
  abbrev before : ShardState
  before = after after_ask s (take place journal)

  told_as : (e : Entry) (found : Option (Logged Ask Answer)) → option_map logged found ≡ Some e → ((l : Logged Ask Answer) → found ≡ Some l → l.answer ≡ answer_in before l.ask) → e.answer ≡ answer_in before e.ask
  told_as e None is told = absurd cc
  told_as e (Some l) is told = subst (λ (x : Entry). x.answer ≡ answer_in before x.ask) (same is) (told l refl)

is_answered : (s machine : ShardState) (journal : Journal) → Replays answer_in after_ask s journal machine → IsAnswered s (steps_of journal)
is_answered s machine journal replays place e at =
    told_as s journal place e (slice_get journal place) (sym (slice_get-map logged journal place) ∙ at) (replays.answered place)
    ∙ ap (λ state. answer_in state e.ask) (after_steps s (take place journal) ∙ ap (λ steps. after_asks s (asks_of steps)) (sym (take-map logged place journal)))

pub closed_is_lawful : ClosedIsLawful
closed_is_lawful opening root machine journal holds replays = (
  answers_lawful opening root (steps_of journal) holds (is_answered root machine journal replays),
  λ k. ap (λ state. row_at state k) (replays.machine_is ∙ after_steps root journal) ∙ answers_rows opening root (steps_of journal) holds (is_answered root machine journal replays) k,
)

pub answers_fit : AnswersFit
answers_fit opening journal lawful place e at = (law_row opening (key_of e.ask.op) (take place journal), lawful place e at)
