-- A layout is judged by its fields from left to right.
use Rattle.std.proofs.Common.{◌≡◌, ℕ, ◌+◌, ◌*◌, ◌<◌, ◌≤◌, List, length, Option, None, Some, sym, subst, ◌∙◌, arith}
use Rattle.std.specs.Prelude.{IfOk, MatchOption, Result, Ok, Err}
use Rattle.coco_types.specs.Limits.{most_nodes, most_partitions, most_procedure_bytes}
use Rattle.coco_ast.specs.Checks.{HasNoError, behind_builtins}
use Rattle.coco_ast.specs.Tree.{Procedures}
use Rattle.coco_lex.specs.Tokens.{AreTokens}
use Rattle.coco_lex.specs.declared.token.Token.{Token}
use Rattle.coco_parse.specs.Refusal.{IsTreeOf}
use Rattle.coco_parse.specs.Wording.{words_of}
use Rattle.coco_entry.specs.declared.layout.LayoutEntry.{LayoutEntry}
use Rattle.coco_store.specs.Refusals.{IsFirst, LayoutBreaks, bad_nodes, bad_partitions, bad_copies, bad_base_epoch, bad_text, bad_keep}
use Rattle.coco_store.specs.Rules.{IsKeep, IsWithinLimits}
use Rattle.coco_store.specs.Texts.{IsAcceptedText}
use Rattle.coco_rules.specs.Sizes.{AreFew, AreSizes, IsFirstSize, nodes, partitions, copies, base_epoch}

-- which places are left where the fields in front are good
text_at : (e : LayoutEntry) (b : ℕ) → AreSizes e.layout → LayoutBreaks e b → 17 + 4 * e.layout.nodes ≤ b
text_at e b sizes (bad_nodes broken) = absurd (broken sizes.nodes)
text_at e b sizes (bad_partitions broken) = absurd (broken sizes.partitions)
text_at e b sizes (bad_copies broken) = absurd (broken sizes.copies)
text_at e b sizes (bad_base_epoch broken) = absurd (broken sizes.base_epoch)
text_at e b sizes (bad_text broken) = omega arith
text_at e b sizes (bad_keep broken) = omega arith

keep_at : (e : LayoutEntry) (b : ℕ) (tree : Procedures) → AreSizes e.layout → IsAcceptedText e.layout.text tree → LayoutBreaks e b → 21 + (4 * e.layout.nodes + length e.layout.text) ≤ b
keep_at e b tree sizes text (bad_nodes broken) = absurd (broken sizes.nodes)
keep_at e b tree sizes text (bad_partitions broken) = absurd (broken sizes.partitions)
keep_at e b tree sizes text (bad_copies broken) = absurd (broken sizes.copies)
keep_at e b tree sizes text (bad_base_epoch broken) = absurd (broken sizes.base_epoch)
keep_at e b tree sizes text (bad_text broken) = absurd (broken tree text)
keep_at e b tree sizes text (bad_keep broken) = omega arith

nodes_at : (e : LayoutEntry) (b : ℕ) → LayoutBreaks e b → 2 ≤ b
nodes_at e b (bad_nodes broken) = omega arith
nodes_at e b (bad_partitions broken) = omega arith
nodes_at e b (bad_copies broken) = omega arith
nodes_at e b (bad_base_epoch broken) = omega arith
nodes_at e b (bad_text broken) = omega arith
nodes_at e b (bad_keep broken) = omega arith

partitions_at : (e : LayoutEntry) (b : ℕ) → AreFew most_nodes e.layout.nodes → LayoutBreaks e b → 3 ≤ b
partitions_at e b n (bad_nodes broken) = absurd (broken n)
partitions_at e b n (bad_partitions broken) = omega arith
partitions_at e b n (bad_copies broken) = omega arith
partitions_at e b n (bad_base_epoch broken) = omega arith
partitions_at e b n (bad_text broken) = omega arith
partitions_at e b n (bad_keep broken) = omega arith

copies_at : (e : LayoutEntry) (b : ℕ) → AreFew most_nodes e.layout.nodes → AreFew most_partitions e.layout.partitions → LayoutBreaks e b → 4 ≤ b
copies_at e b n p (bad_nodes broken) = absurd (broken n)
copies_at e b n p (bad_partitions broken) = absurd (broken p)
copies_at e b n p (bad_copies broken) = omega arith
copies_at e b n p (bad_base_epoch broken) = omega arith
copies_at e b n p (bad_text broken) = omega arith
copies_at e b n p (bad_keep broken) = omega arith

epoch_at : (e : LayoutEntry) (b : ℕ) → AreFew most_nodes e.layout.nodes → AreFew most_partitions e.layout.partitions → e.layout.copies < e.layout.nodes → LayoutBreaks e b → 9 + 4 * e.layout.nodes ≤ b
epoch_at e b n p c (bad_nodes broken) = absurd (broken n)
epoch_at e b n p c (bad_partitions broken) = absurd (broken p)
epoch_at e b n p c (bad_copies broken) = absurd (broken c)
epoch_at e b n p c (bad_base_epoch broken) = omega arith
epoch_at e b n p c (bad_text broken) = omega arith
epoch_at e b n p c (bad_keep broken) = omega arith

pub first_size : (e : LayoutEntry) (at : ℕ) → IsFirstSize e.layout at → IsFirst (LayoutBreaks e) at
first_size e at (nodes broken) = record { refused = bad_nodes broken; least = λ b h. nodes_at e b h }
first_size e at (partitions n broken) = record { refused = bad_partitions broken; least = λ b h. partitions_at e b n h }
first_size e at (copies n p broken) = record { refused = bad_copies broken; least = λ b h. copies_at e b n p h }
first_size e at (base_epoch n p c broken) = record { refused = bad_base_epoch broken; least = λ b h. epoch_at e b n p c h }

pub first_text : (e : LayoutEntry) → AreSizes e.layout → ((t : Procedures) → ¬ (IsAcceptedText e.layout.text t)) → IsFirst (LayoutBreaks e) (17 + 4 * e.layout.nodes)
first_text e sizes broken = record { refused = bad_text broken; least = λ b h. text_at e b sizes h }

pub first_keep : (e : LayoutEntry) (tree : Procedures) → AreSizes e.layout → IsAcceptedText e.layout.text tree → ¬ (IsKeep e.keep) → IsFirst (LayoutBreaks e) (21 + (4 * e.layout.nodes + length e.layout.text))
first_keep e tree sizes text broken = record { refused = bad_keep broken; least = λ b h. keep_at e b tree sizes text h }

pub within : (e : LayoutEntry) → AreSizes e.layout → IsKeep e.keep → IsWithinLimits e
within e sizes keep = record { nodes = sizes.nodes; partitions = sizes.partitions; copies = sizes.copies; base_epoch = sizes.base_epoch; keep = keep }

-- ---- texts

pub accepted_so : {E : Type 0} (text : List ℕ) (tokens items : List Token) (own : Procedures) (answer : Result (Option Procedures) E) → length text ≤ most_procedure_bytes → tokens ≡ items
    → AreTokens text items × ((ts : List Token) → AreTokens text ts → items ≡ ts)
    → IsTreeOf (words_of text tokens) own × ((t : Procedures) → IsTreeOf (words_of text tokens) t → own ≡ t)
    → IfOk answer (λ checked. MatchOption checked (¬ (HasNoError own)) (λ c. HasNoError own × (c ≡ behind_builtins own)))
    → IfOk answer (λ tree. MatchOption tree ((t : Procedures) → ¬ (IsAcceptedText text t)) (λ c. IsAcceptedText text c))
accepted_so text tokens items own (Err e) short same lexed parsed checked = tt
accepted_so text tokens items own (Ok None) short same lexed parsed checked = λ t is.
    let tokens_are : items ≡ is.tokens = lexed.1 is.tokens is.lexed in
    let own_is : own ≡ is.own = parsed.1 is.own (subst (λ (l : List Token). IsTreeOf (words_of text l) is.own) (sym tokens_are ∙ sym same) is.parsed) in
    checked (subst HasNoError (sym own_is) is.sound)
accepted_so text tokens items own (Ok (Some c)) short same lexed parsed checked =
    record { short = short; tokens = tokens; lexed = subst (AreTokens text) (sym same) lexed.0; own = own; parsed = parsed.0; sound = checked.0; whole = checked.1 }
