-- The command line, as `clap` takes it.
use Rattle.std.specs.Prelude.{ℕ, [], ◌∷◌, Some, true, codes}
use Rattle.clap.specs.Walk.{Rule, Text}
use Rattle.clap.specs.Simple.{App, new_rule, new_shape, with_rule}
use Rattle.clap.specs.declared.builder.action.ArgAction.TheVariants.{SetTrue}
use Rattle.clap.specs.declared.builder.value_parser.ValueParser.TheVariants as vp

-- a required word, by its place
abbrev pub required_word : Text → Rule
required_word id = record (new_rule id) { required = true }

-- an option with one number in a range, both ends included
abbrev pub number_option : Text → ℕ → ℕ → Rule
number_option id least most = record (new_rule id) { long = Some id; parser = Some (vp.Unsigned least most) }

-- an option without a value
abbrev pub flag : Text → Rule
flag id = record (new_rule id) { long = Some id; action = Some SetTrue }

-- `MODE QUERY [ARCHIVE]`, after the program's name, with no flag for help or for the version
abbrev pub words_line : App
words_line = record {
  top = record (new_shape (codes "cqlpgn")) {
    rules = required_word (codes "mode") ∷ required_word (codes "query") ∷ new_rule (codes "archive") ∷ [];
    no_binary_name = true;
    disable_help_flag = true;
    disable_version_flag = true;
  };
  subs = [];
}

-- the same and `[--workers N] [--seed S] [--games G] [--limit B] [--first]`
abbrev pub line : App
line =
    with_rule (with_rule (with_rule (with_rule (with_rule words_line (number_option (codes "workers") 1 64))
    (number_option (codes "seed") 0 4294967295)) (number_option (codes "games") 0 100000))
    (number_option (codes "limit") 1 1099511627776)) (flag (codes "first"))
