-- The command line, as `clap` takes it.
use Rattle.std.specs.Prelude.{ℕ, [], ◌∷◌, Some, true, codes}
use Rattle.clap.specs.Walk.{Rule, Text}
use Rattle.clap.specs.Simple.{App, new_rule, new_shape, with_rule}
use Rattle.clap.specs.declared.builder.value_parser.ValueParser.TheVariants as vp

-- an option with a text
abbrev pub text_option : Text → Rule
text_option id = record (new_rule id) { long = Some id }

-- an option with one number from 1 to another
abbrev pub number_option : Text → ℕ → Rule
number_option id most = record (new_rule id) { long = Some id; parser = Some (vp.Unsigned 1 most) }

-- `[ARCHIVE]`, after the program's name, with no flag for help or for the version
abbrev pub words_line : App
words_line = record {
  top = record (new_shape (codes "pgnjson")) {
    rules = new_rule (codes "archive") ∷ [];
    no_binary_name = true;
    disable_help_flag = true;
    disable_version_flag = true;
  };
  subs = [];
}

-- the same and `[--mark TEXT] [--workers N] [--limit B]`
abbrev pub line : App
line =
    with_rule (with_rule (with_rule words_line (text_option (codes "mark"))) (number_option (codes "workers") 64))
    (number_option (codes "limit") 1099511627776)
