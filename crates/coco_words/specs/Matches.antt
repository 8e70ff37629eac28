-- What `clap` is told of options, and the values that it found.
use Rattle.std.specs.Prelude.{◌≡◌, List, [], ◌∷◌, Some, true, codes}
use Rattle.clap.specs.Words.{App, first_value, found_of, new_app, new_rule, with_rule}
use Rattle.clap.specs.Simple.{new_shape}
use Rattle.clap.specs.declared.parser.matches.ArgMatches.{ArgMatches}
use Rattle.coco_words.specs.Options.{Text, value_of}

-- one option more, which is given by its name
abbrev pub with_named : App → Text → App
with_named app name = with_rule app (record (new_rule name) { long = Some name })

-- a command without options, whose own name isn't among the words
abbrev pub bare_app : App
bare_app = record (new_app (codes "coco")) { top = record (new_shape (codes "coco")) { no_binary_name = true; disable_help_flag = true } }

abbrev pub with_names : App → List Text → App
with_names app [] = app
with_names app (name ∷ names) = with_names (with_named app name) names

-- a command with an option for each of these names
abbrev pub app_for : List Text → App
app_for names = with_names bare_app names

-- what was found of each name is the value that the options have for it
abbrev pub HasValuesOf : ArgMatches → List (Text × Text) → Type 0
HasValuesOf matches options = (name : Text) → first_value (found_of matches) name ≡ value_of name options
