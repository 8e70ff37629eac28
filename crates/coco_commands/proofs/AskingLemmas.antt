-- What is carried from the opening of a store to the end of its query.
use Rattle.std.proofs.Common.{◌≡◌, ◌∙◌, ℕ, ◌≤◌, List, Option, None, Some, refl, sym, subst}
use Rattle.coco_asks.specs.Answering.{HasCause, SaysAnswers, Streams}
use Rattle.coco_asks.specs.Asking.{answers_from}
use Rattle.coco_asks.specs.declared.ending.Asked.{Asked}
use Rattle.coco_ast.specs.History.{last_epoch}
use Rattle.coco_ast.specs.Keyed.{Rows}
use Rattle.coco_ast.specs.Tree.{Procedures}
use Rattle.coco_lines.specs.Reads.{SourceMoment}
use Rattle.coco_ending.specs.declared.ending.Ending.{Ending}
use Rattle.coco_host.specs.Files.{Files}
use Rattle.coco_query.specs.Tables.{IsWithin, RangesAreHistories, first_in, last_in}
use Rattle.coco_query.specs.declared.tables.TablesFault.{TablesFault}
use Rattle.coco_query.specs.declared.tables.TablesFault.TheVariants as fault
use Rattle.coco_recover.specs.Opening.{Has}
use Rattle.coco_recover.specs.declared.opening.Opened.{Opened}
use Rattle.coco_store.specs.Contents.{Contents, Holds, history_of}
use Rattle.coco_commands.specs.Querying.{IsNotAsked, MayBeAsked, ending_of_tables}

-- a cause since the opening is one since entry, where no fault of saying was counted before
pub cause_since : (bytes : List ℕ) (source : SourceMoment) (faults say later : ℕ) (after : Streams) (a : Asked) → later ≡ say
    → HasCause bytes (record { source = source; source_faults = faults; say_faults = later }) after a → HasCause bytes (record { source = source; source_faults = faults; say_faults = say }) after a
cause_since bytes source faults say later after a same cause = subst (λ (n : ℕ). HasCause bytes (record { source = source; source_faults = faults; say_faults = n }) after a) same cause

-- what is said of a store's procedures since the opening is said so since entry
pub says_of : (given tree : Procedures) (m : Rows) (epoch : ℕ) (bytes : List ℕ) (opened old now : Option (List ℕ)) (a : Asked) → given ≡ tree → opened ≡ old
    → SaysAnswers (answers_from (record { procs = given; rows = m; epoch = epoch }) 1) bytes opened now a → SaysAnswers (answers_from (record { procs = tree; rows = m; epoch = epoch }) 1) bytes old now a
says_of given tree m epoch bytes opened old now a same quiet says =
    subst (λ (o : Option (List ℕ)). SaysAnswers (answers_from (record { procs = tree; rows = m; epoch = epoch }) 1) bytes o now a) quiet
    (subst (λ (procs : Procedures). SaysAnswers (answers_from (record { procs = procs; rows = m; epoch = epoch }) 1) bytes opened now a) same says)

-- an epoch that an opened store has no tables of isn't between its first and its last one
pub not_between : (store : Opened) (epoch first last : ℕ) → first ≡ first_in store → last ≡ last_in store → (IsWithin store epoch → ⊥) → ¬ ((first ≤ epoch) × (epoch ≤ last))
not_between store epoch first last first_is last_is outside between =
    outside (record { first = subst (λ (n : ℕ). n ≤ epoch) first_is between.0; last = subst (λ (n : ℕ). epoch ≤ n) last_is between.1 })

-- these are those that its contents say
module _ (ranges : RangesAreHistories) (c : Contents) (store : Opened) (has : Has None c store) where
  pub may_be_asked : (epoch : ℕ) → IsWithin store epoch → MayBeAsked (history_of c) epoch
  may_be_asked epoch within =
      (let are = ranges None c store has in let first = within.first in let last = within.last in
      (subst (λ (n : ℕ). n ≤ epoch) are.0 first, subst (λ (n : ℕ). epoch ≤ n) are.1 last))

  pub range_is : (first last : ℕ) → first ≡ first_in store → last ≡ last_in store → (first ≡ (history_of c).base.epoch) × (last ≡ last_epoch (history_of c))
  range_is first last first_is last_is = (let are = ranges None c store has in (first_is ∙ are.0, last_is ∙ are.1))

-- why it isn't asked
pub unasked : (ranges : RangesAreHistories) (store : Opened) (epoch : ℕ) (reads : Option Files) → ((files : Files) (c : Contents) → reads ≡ Some files → Holds files c → Has None c store)
    → (f : TablesFault) (how : Ending) → how ≡ ending_of_tables epoch f
    → ((first last : ℕ) → f ≡ fault.NotIn first last → (first ≡ first_in store) × (last ≡ last_in store) × (IsWithin store epoch → ⊥))
    → IsNotAsked epoch how reads
unasked ranges store epoch reads has (fault.NotIn first last) how ends outside =
    let range = outside first last refl in
    subst (λ (e : Ending). IsNotAsked epoch e reads) (sym ends) (
      refl,
      not_between store epoch first last range.0 range.1 range.2,
      λ files c are holds. range_is ranges c store (has files c are holds) first last range.0 range.1,
    )
unasked ranges store epoch reads has fault.NoMemory how ends outside = subst (λ (e : Ending). IsNotAsked epoch e reads) (sym ends) tt
