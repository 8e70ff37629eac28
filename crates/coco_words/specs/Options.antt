-- Options among the words of a command line.
use Rattle.std.specs.Prelude.{◌≡◌, ⊤, ◌≤◌, ◌<◌, ◌⊎◌, ℕ, true, List, [], ◌∷◌, ◌++◌, length, codes, Option, Some, None, Contains}
use Rattle.std.specs.List.{list_all, IsDistinct}
use Rattle.std.specs.Map.{keys_of, lookup}
use Rattle.std.specs.Char.{is_ascii_digit}
use Rattle.std.specs.Str.{bytes_eq}
use Rattle.std.specs.Str.Parse.{digits_value}

abbrev pub Text : Type 0
Text = List ℕ

-- the first of the words gives the option, a name with its value, as `--name value` or as `--name=value`, and the others follow it
abbrev pub GivesFirst : List Text → Text × Text → List Text → Type 0
GivesFirst words option others =
    (words ≡ (codes "--" ++ option.0) ∷ option.1 ∷ others) ⊎ (words ≡ (codes "--" ++ option.0 ++ codes "=" ++ option.1) ∷ others)

-- the words give these options one after the other, each with one of the names, and nothing else
abbrev pub Gives : List Text → List Text → List (Text × Text) → Type 0
Gives names words [] = words ≡ []
Gives names words (option ∷ rest) = Contains names option.0 × ((others : List Text) × GivesFirst words option others × Gives names others rest)

-- the same, where no name comes twice
pub record GivesOptions (names : List Text) (words : List Text) (options : List (Text × Text)) : Type 0 where
  pub given : Gives names words options
  pub once : IsDistinct bytes_eq (keys_of options)

-- the value of the option with this name
abbrev pub value_of : Text → List (Text × Text) → Option Text
value_of name options = lookup (bytes_eq name) options

-- ---- numbers

-- the text is 1 to 19 ASCII digits, which write the number, and the number is in the range
pub record WritesNumber (least most : ℕ) (text : Text) (number : ℕ) : Type 0 where
  pub digits : list_all is_ascii_digit text ≡ true
  pub some : 0 < length text
  pub few : length text ≤ 19
  pub value : digits_value 10 text ≡ number
  pub above : least ≤ number
  pub below : number ≤ most

-- what an option is that isn't given: bad words, no number, or this one
pub data Missing : Type 0 where
  Refused : Missing
  Left : Missing
  Taken : ℕ → Missing

-- what an option is that isn't given, where it has this default or none
abbrev pub missing_of : Option ℕ → Missing
missing_of None = Refused
missing_of (Some number) = Taken number

-- an option whose value is a number: its name, what it is where it isn't given, and its range
pub record NumberOption : Type 0 where
  pub name : Text
  pub missing : Missing
  pub least : ℕ
  pub most : ℕ

-- the number of an option with this value, or with none
abbrev pub IsNumberOf : NumberOption → Option Text → Option ℕ → Type 0
IsNumberOf o None None = o.missing ≡ Left
IsNumberOf o None (Some number) = o.missing ≡ Taken number
IsNumberOf o (Some text) None = ⊥
IsNumberOf o (Some text) (Some number) = WritesNumber o.least o.most text number

-- each option has its number, where its value is that of its name
abbrev pub AreNumbersOf : (Text → Option Text) → List NumberOption → List (Option ℕ) → Type 0
AreNumbersOf values [] [] = ⊤
AreNumbersOf values [] (n ∷ ns) = ⊥
AreNumbersOf values (o ∷ os) [] = ⊥
AreNumbersOf values (o ∷ os) (n ∷ ns) = IsNumberOf o (values o.name) n × AreNumbersOf values os ns

-- each number is in its option's range, where there is one
abbrev pub AreInRange : List NumberOption → List (Option ℕ) → Type 0
AreInRange [] [] = ⊤
AreInRange [] (n ∷ ns) = ⊥
AreInRange (o ∷ os) [] = ⊥
AreInRange (o ∷ os) (None ∷ ns) = AreInRange os ns
AreInRange (o ∷ os) (Some n ∷ ns) = (o.least ≤ n) × (n ≤ o.most) × AreInRange os ns

abbrev pub names_in : List NumberOption → List Text
names_in [] = []
names_in (o ∷ os) = o.name ∷ names_in os

-- the words give these numbers of these options
abbrev pub GivesNumbers : List NumberOption → List Text → List (Option ℕ) → Type 0
GivesNumbers os words numbers = (options : List (Text × Text)) × GivesOptions (names_in os) words options × AreNumbersOf (λ name. value_of name options) os numbers
