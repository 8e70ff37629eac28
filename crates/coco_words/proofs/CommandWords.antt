-- What `clap` makes of the words behind a command's name.
use Rattle.std.proofs.Common.{◌≡◌, ℕ, Bool, true, false, ◌||◌, List, [], ◌∷◌, map, fold, Option, Some, None, is_some, codes, refl, sym, ap, subst, ◌∙◌, true≢false}
use Rattle.std.specs.List.{list_any, AllByRecursion}
use Rattle.std.specs.Prelude.{if◌then◌else◌}
use Rattle.std.specs.Str.{bytes_eq}
use Rattle.clap.specs.Lexer.{long_of}
use Rattle.clap.specs.Words.{App, Text, fault_of, is_simple, is_simple_and_free, matches_of}
use Rattle.clap.specs.Simple.{entered}
use Rattle.clap.specs.Walk.{idle, nothing_held, stop_after, with_default}
use Rattle.clap.specs.Faults.{check_fault, defaults_fault, entered_fault, level_fault, walk_fault}
use Rattle.clap.specs.Kinds.{or_else}
use Rattle.clap.proofs.OnLiterals.{clap_on_literals}
use Rattle.clap.proofs.WalkLemmas.{first_value-rows}
use Rattle.clap.specs.Words.{first_of, first_value, found_of, rows_of}
use Rattle.clap.specs.declared.parser.matches.ArgMatches.{ArgMatches}
use Rattle.coco_words.specs.Commands.{Agree, IsCommand, IsOnlyCommand, kind_of, name_of, numbers_of, options_for, run_options}
use Rattle.coco_words.specs.Matches.{HasValuesOf, app_for}
use Rattle.coco_words.specs.Options.{AreNumbersOf, GivesNumbers, GivesOptions, names_in, value_of}
use Rattle.coco_words.specs.declared.Command.{Command}
use Rattle.coco_words.specs.declared.Command.TheVariants.{Init, Run, Dump, Verify, Migrate, Compact, Rebuild, Query, Try}
use Rattle.coco_words.specs.declared.Kind.{Kind}
use Rattle.coco_words.specs.declared.Kind.TheVariants as kind
use Rattle.coco_words.proofs.ClapOptions.{at, check-nil, dash, defaults-nil, finished-is, first_of-rows, or_else-nil, rows, rule, shape, spelled}
use Rattle.coco_words.proofs.ClapReads.{IsReadable, closing, ended, found, reads, taken, undashed-Gives}
use Rattle.coco_words.proofs.NumberLemmas.{contained, only_numbers, plain-options}

abbrev own : Text
own = codes "coco"

abbrev pub names_for : Kind → List Text
names_for k = names_in (options_for k)

-- ---- the parsers are simple ones

pub is_free : (k : Kind) → is_simple_and_free (app_for (names_for k)) ≡ true
unfolding clap_on_literals
is_free kind.Init = refl
is_free kind.Run = refl
is_free kind.Dump = refl
is_free kind.Verify = refl
is_free kind.Migrate = refl
is_free kind.Compact = refl
is_free kind.Rebuild = refl
is_free kind.Query = refl
is_free kind.Try = refl

pub is_plain_parser : (k : Kind) → is_simple (app_for (names_for k)) ≡ true
unfolding clap_on_literals
is_plain_parser kind.Init = refl
is_plain_parser kind.Run = refl
is_plain_parser kind.Dump = refl
is_plain_parser kind.Verify = refl
is_plain_parser kind.Migrate = refl
is_plain_parser kind.Compact = refl
is_plain_parser kind.Rebuild = refl
is_plain_parser kind.Query = refl
is_plain_parser kind.Try = refl

module _ (ns : List Text) where
  abbrev built : App
  built = record { top = shape own ns; subs = [] }

  none_entered : (stop : Option (Text × List Text)) → is_some (entered built stop) ≡ false
  none_entered None = refl
  none_entered (Some p) = refl

  no_entered_fault : (stop : Option (Text × List Text)) → entered_fault built stop ≡ []
  no_entered_fault None = refl
  no_entered_fault (Some p) = refl

  level-is : (words : List Text) → let stop = stop_after (shape own ns).rules [] words in
      level_fault (shape own ns) [] nothing_held words (is_some (entered built stop)) (entered_fault built stop) ≡ level_fault (shape own ns) [] nothing_held words false []
  level-is words =
      let stop = stop_after (shape own ns).rules [] words in
      λ i. level_fault (shape own ns) [] nothing_held words (none_entered stop i) (no_entered_fault stop i)

fault-is : (k : Kind) (words : List Text) → fault_of (app_for (names_for k)) words ≡ level_fault (shape own (names_for k)) [] nothing_held words false []
fault-is kind.Init words = level-is (names_for kind.Init) words
fault-is kind.Run words = level-is (names_for kind.Run) words
fault-is kind.Dump words = level-is (names_for kind.Dump) words
fault-is kind.Verify words = level-is (names_for kind.Verify) words
fault-is kind.Migrate words = level-is (names_for kind.Migrate) words
fault-is kind.Compact words = level-is (names_for kind.Compact) words
fault-is kind.Rebuild words = level-is (names_for kind.Rebuild) words
fault-is kind.Query words = level-is (names_for kind.Query) words
fault-is kind.Try words = level-is (names_for kind.Try) words

finished : (ns words : List Text) → fold with_default (found own ns (ended own ns (at [] None idle) words)) (map rule ns) ≡ found own ns (ended own ns (at [] None idle) words)
finished ns words = finished-is (found own ns (ended own ns (at [] None idle) words)) ns

matches-is : (k : Kind) (words : List Text) → matches_of (app_for (names_for k)) words ≡ found own (names_for k) (ended own (names_for k) (at [] None idle) words)
matches-is kind.Init words = finished (names_for kind.Init) words
matches-is kind.Run words = finished (names_for kind.Run) words
matches-is kind.Dump words = finished (names_for kind.Dump) words
matches-is kind.Verify words = finished (names_for kind.Verify) words
matches-is kind.Migrate words = finished (names_for kind.Migrate) words
matches-is kind.Compact words = finished (names_for kind.Compact) words
matches-is kind.Rebuild words = finished (names_for kind.Rebuild) words
matches-is kind.Query words = finished (names_for kind.Query) words
matches-is kind.Try words = finished (names_for kind.Try) words

-- what may be wrong with the words, in turn
level-parts : (k : Kind) (words : List Text) → let ns = names_for k in let end = found own ns (ended own ns (at [] None idle) words) in
    level_fault (shape own ns) [] nothing_held words false []
    ≡ or_else (walk_fault (shape own ns) [] (at [] None idle) words)
    (or_else (closing own ns (ended own ns (at [] None idle) words)) (or_else (defaults_fault end (map rule ns)) (check_fault (shape own ns) end false)))
level-parts kind.Init words = refl
level-parts kind.Run words = refl
level-parts kind.Dump words = refl
level-parts kind.Verify words = refl
level-parts kind.Migrate words = refl
level-parts kind.Compact words = refl
level-parts kind.Rebuild words = refl
level-parts kind.Query words = refl
level-parts kind.Try words = refl

-- ---- what is read

-- the words that `clap` takes give the options that it finds
words-read : (k : Kind) (words : List Text) → list_any (λ word. bytes_eq word dash) words ≡ false → fault_of (app_for (names_for k)) words ≡ []
    → (options : List (Text × Text)) × GivesOptions (names_for k) words options × (matches_of (app_for (names_for k)) words ≡ rows options)
words-read k words undashed none =
    let level = or_else-nil _ _ (sym (level-parts k words) ∙ sym (fault-is k words) ∙ none) in
    let close = or_else-nil _ _ level.1 in
    let r = reads own (names_for k) words undashed level.0 close.0 in
    (r.options, record { given = r.given; once = r.once }, matches-is k words ∙ r.final)

abbrev Spells : Text → Type 0
Spells n = (v : Option Text) → long_of (spelled n v) ≡ Some (n, v)

spells-nodes : Spells (codes "nodes")
spells-nodes None = refl
spells-nodes (Some v) = refl

spells-partitions : Spells (codes "partitions")
spells-partitions None = refl
spells-partitions (Some v) = refl

spells-copies : Spells (codes "copies")
spells-copies None = refl
spells-copies (Some v) = refl

spells-epoch : Spells (codes "epoch")
spells-epoch None = refl
spells-epoch (Some v) = refl

spells-workers : Spells (codes "workers")
spells-workers None = refl
spells-workers (Some v) = refl

spells-attempts : Spells (codes "attempts")
spells-attempts None = refl
spells-attempts (Some v) = refl

spells-keep : Spells (codes "keep")
spells-keep None = refl
spells-keep (Some v) = refl

spells-node : Spells (codes "node")
spells-node None = refl
spells-node (Some v) = refl

spells-at : Spells (codes "at")
spells-at None = refl
spells-at (Some v) = refl

spells-readers : Spells (codes "readers")
spells-readers None = refl
spells-readers (Some v) = refl

spells-disturb : Spells (codes "disturb")
spells-disturb None = refl
spells-disturb (Some v) = refl

spells-calls : Spells (codes "calls")
spells-calls None = refl
spells-calls (Some v) = refl

spells-seed : Spells (codes "seed")
spells-seed None = refl
spells-seed (Some v) = refl

spells-run : AllByRecursion Spells (names_in run_options)
spells-run = (spells-epoch, (spells-workers, (spells-attempts, (spells-disturb, tt))))

spells : (k : Kind) → AllByRecursion Spells (names_for k)
spells kind.Init = (spells-nodes, (spells-partitions, (spells-copies, tt)))
spells kind.Run = spells-run
spells kind.Dump = tt
spells kind.Verify = tt
spells kind.Migrate = (spells-keep, tt)
spells kind.Compact = tt
spells kind.Rebuild = (spells-node, tt)
spells kind.Query = (spells-at, (spells-readers, tt))
spells kind.Try = (spells-calls, (spells-seed, spells-run))

readable : (k : Kind) → IsReadable own (names_for k)
readable k = contained Spells (names_for k) (spells k)

-- ---- what is taken

-- `clap` takes words that give options with numbers
words-taken : (k : Kind) (words : List Text) (numbers : List (Option ℕ)) → (gives : GivesNumbers (options_for k) words numbers)
    → (fault_of (app_for (names_for k)) words ≡ []) × (matches_of (app_for (names_for k)) words ≡ rows gives.0) × (list_any (λ word. bytes_eq word dash) words ≡ false)
words-taken k words numbers gives =
    let ns = names_for k in
    let plain = plain-options own (options_for k) words numbers gives in
    let t = taken own ns (readable k) gives.0 words gives.1.given plain gives.1.once in
    let end = found own ns (ended own ns (at [] None idle) words) in (
      fault-is k words ∙ level-parts k words ∙ (λ i. or_else (t.0 i) (or_else (t.1 i) (or_else (defaults-nil end ns i) (check-nil own ns end i)))),
      matches-is k words ∙ t.2,
      undashed-Gives own ns (readable k) gives.0 words gives.1.given plain,
    )

-- words with a `--` alone give none
pub dashes-refused : (k : Kind) (words : List Text) → list_any (λ word. bytes_eq word dash) words ≡ true → (numbers : List (Option ℕ)) → GivesNumbers (options_for k) words numbers → ⊥
dashes-refused k words some numbers gives = true≢false (sym some ∙ (words-taken k words numbers gives).2)

pub fault-refused : (k : Kind) (words : List Text) (numbers : List (Option ℕ)) → GivesNumbers (options_for k) words numbers → fault_of (app_for (names_for k)) words ≡ []
fault-refused k words numbers gives = (words-taken k words numbers gives).0

values-found : (k : Kind) (m : ArgMatches) (words : List Text) (options : List (Text × Text)) → rows_of (found_of m) ≡ matches_of (app_for (names_for k)) words
    → matches_of (app_for (names_for k)) words ≡ rows options → HasValuesOf m options
values-found k m words options found taken n = first_value-rows (found_of m) n ∙ ap (first_of n) (found ∙ taken) ∙ first_of-rows n options

pub words-only : (k : Kind) (m : ArgMatches) (words : List Text) → rows_of (found_of m) ≡ matches_of (app_for (names_for k)) words → (numbers : List (Option ℕ)) (gives : GivesNumbers (options_for k) words numbers)
    → HasValuesOf m gives.0
words-only k m words found numbers gives = values-found k m words gives.0 found (words-taken k words numbers gives).1

pub words-found : (k : Kind) (m : ArgMatches) (words : List Text) → rows_of (found_of m) ≡ matches_of (app_for (names_for k)) words → list_any (λ word. bytes_eq word dash) words ≡ false
    → fault_of (app_for (names_for k)) words ≡ [] → (options : List (Text × Text)) × GivesOptions (names_for k) words options × HasValuesOf m options
words-found k m words found undashed none =
    let r = words-read k words undashed none in
    (r.0, r.1, values-found k m words r.0 found r.2)

module _ {W : Type 0} (text : W → Text) where
  pub any_text : (p : Text → Bool) (words : List W) → list_any (λ word. p (text word)) words ≡ list_any p (map text words)
  any_text p [] = refl
  any_text p (w ∷ ws) = ap (λ b. p (text w) || b) (any_text p ws)

-- ---- commands

-- the command of a kind with these numbers
made : Kind → List (Option ℕ) → Command
made kind.Init (Some n ∷ Some p ∷ Some c ∷ []) = Init n p c
made kind.Run (Some e ∷ Some w ∷ Some a ∷ d ∷ []) = Run (record { epoch = e; workers = w; attempts = a; disturb = d })
made kind.Dump ns = Dump
made kind.Verify ns = Verify
made kind.Migrate (Some n ∷ []) = Migrate n
made kind.Compact ns = Compact
made kind.Rebuild (Some n ∷ []) = Rebuild n
made kind.Query (Some e ∷ Some n ∷ []) = Query e n
made kind.Try (Some c ∷ Some s ∷ Some e ∷ Some w ∷ Some a ∷ d ∷ []) = Try c s (record { epoch = e; workers = w; attempts = a; disturb = d })
made k ns = Dump

made-is : (command : Command) → made (kind_of command) (numbers_of command) ≡ command
unfolding made
made-is (Init n p c) = refl
made-is (Run run) = refl
made-is Dump = refl
made-is Verify = refl
made-is (Migrate keep) = refl
made-is Compact = refl
made-is (Rebuild node) = refl
made-is (Query at readers) = refl
made-is (Try calls seed run) = refl

same_command : (c d : Command) → kind_of c ≡ kind_of d → numbers_of c ≡ numbers_of d → c ≡ d
same_command c d k n = sym (made-is c) ∙ (λ i. made (k i) (n i)) ∙ made-is d

-- the kind that a name has
kind_at : Text → Option Kind
kind_at name =
    if bytes_eq name (codes "init") then Some kind.Init
    else if bytes_eq name (codes "run") then Some kind.Run
    else if bytes_eq name (codes "dump") then Some kind.Dump
    else if bytes_eq name (codes "verify") then Some kind.Verify
    else if bytes_eq name (codes "migrate") then Some kind.Migrate
    else if bytes_eq name (codes "compact") then Some kind.Compact
    else if bytes_eq name (codes "rebuild") then Some kind.Rebuild
    else if bytes_eq name (codes "query") then Some kind.Query
    else if bytes_eq name (codes "try") then Some kind.Try
    else None

kind-at : (k : Kind) → kind_at (name_of k) ≡ Some k
unfolding kind_at
kind-at kind.Init = refl
kind-at kind.Run = refl
kind-at kind.Dump = refl
kind-at kind.Verify = refl
kind-at kind.Migrate = refl
kind-at kind.Compact = refl
kind-at kind.Rebuild = refl
kind-at kind.Query = refl
kind-at kind.Try = refl

same_kind : (j k : Kind) → name_of j ≡ name_of k → j ≡ k
same_kind j k e = let same : Some j ≡ Some k = sym (kind-at j) ∙ ap kind_at e ∙ kind-at k in cc

-- a command that these words are is of this kind, and the words behind its name give its numbers
gives_at : (words others : List Text) (k : Kind) → words ≡ name_of k ∷ others → (command : Command) → IsCommand words command
    → (kind_of command ≡ k) × GivesNumbers (options_for k) others (numbers_of command) × Agree k (numbers_of command)
gives_at words others k words_are command is =
    let both : name_of (kind_of command) ∷ is.0 ≡ name_of k ∷ others = sym is.1 ∙ words_are in
    let first : name_of (kind_of command) ≡ name_of k = cc in
    let rest : is.0 ≡ others = cc in
    let same = same_kind (kind_of command) k first in (
      same,
      subst (λ (ws : List Text). GivesNumbers (options_for k) ws (numbers_of command)) rest
          (subst (λ (j : Kind). GivesNumbers (options_for j) is.0 (numbers_of command)) same is.2),
      subst (λ (j : Kind). Agree j (numbers_of command)) same is.3,
    )

pub no_command : (words others : List Text) (k : Kind) → words ≡ name_of k ∷ others → ((numbers : List (Option ℕ)) → GivesNumbers (options_for k) others numbers → Agree k numbers → ⊥)
    → (command : Command) → IsCommand words command → ⊥
no_command words others k words_are none command is = let g = gives_at words others k words_are command is in none (numbers_of command) g.1 g.2

values-are : (m : ArgMatches) (options : List (Text × Text)) → HasValuesOf m options → first_value (found_of m) ≡ (λ (name : Text). value_of name options)
values-are m options has = λ i name. has name i

-- numbers that the words give are those that are found
numbers_found : (words : List Text) (k : Kind) (m : ArgMatches) → ((numbers : List (Option ℕ)) (gives : GivesNumbers (options_for k) words numbers) → HasValuesOf m gives.0)
    → (numbers : List (Option ℕ)) → GivesNumbers (options_for k) words numbers → AreNumbersOf (first_value (found_of m)) (options_for k) numbers
numbers_found words k m only numbers gives =
    subst (λ (values : Text → Option Text). AreNumbersOf values (options_for k) numbers) (sym (values-are m gives.0 (only numbers gives))) gives.2

pub none_found : (words : List Text) (k : Kind) (m : ArgMatches) → ((numbers : List (Option ℕ)) (gives : GivesNumbers (options_for k) words numbers) → HasValuesOf m gives.0)
    → ((numbers : List (Option ℕ)) → AreNumbersOf (first_value (found_of m)) (options_for k) numbers → Agree k numbers → ⊥)
    → (numbers : List (Option ℕ)) → GivesNumbers (options_for k) words numbers → Agree k numbers → ⊥
none_found words k m only none numbers gives agree = none numbers (numbers_found words k m only numbers gives) agree

pub only_command : (words others : List Text) (k : Kind) → words ≡ name_of k ∷ others → (m : ArgMatches)
    → (options : List (Text × Text)) × GivesOptions (names_for k) others options × HasValuesOf m options
    → ((numbers : List (Option ℕ)) (gives : GivesNumbers (options_for k) others numbers) → HasValuesOf m gives.0)
    → (command : Command) → kind_of command ≡ k → AreNumbersOf (first_value (found_of m)) (options_for k) (numbers_of command) → Agree k (numbers_of command) → IsOnlyCommand words command
only_command words others k words_are m read only command of_kind numbers agree =
    let given : GivesNumbers (options_for k) others (numbers_of command) =
    (read.0, read.1, subst (λ (values : Text → Option Text). AreNumbersOf values (options_for k) (numbers_of command)) (values-are m read.0 read.2) numbers) in
    record {
      is = (
        others,
        words_are ∙ ap (λ (j : Kind). name_of j ∷ others) (sym of_kind),
        subst (λ (j : Kind). GivesNumbers (options_for j) others (numbers_of command)) (sym of_kind) given,
        subst (λ (j : Kind). Agree j (numbers_of command)) (sym of_kind) agree,
      );
      only = λ other is.
          let g = gives_at words others k words_are other is in
          same_command other command (g.0 ∙ sym of_kind)
          (only_numbers (first_value (found_of m)) (options_for k) (numbers_of other) (numbers_of command) (numbers_found others k m only (numbers_of other) g.1) numbers);
    }
