-- The command line, as `clap` takes it.
use Rattle.std.specs.Prelude.{ℕ, [], ◌∷◌, Some, true, codes}
use Rattle.clap.specs.Walk.{Rule, Text}
use Rattle.clap.specs.Simple.{App, new_rule, new_shape}
use Rattle.clap.specs.declared.builder.value_parser.ValueParser.TheVariants as vp

-- a required word, by its place
abbrev pub word : Text → Rule
word id = record (new_rule id) { required = true }

-- the same with a number from 1 to another
abbrev pub number_word : Text → ℕ → Rule
number_word id most = record (new_rule id) { required = true; parser = Some (vp.Unsigned 1 most) }

-- `ARCHIVE BYTES`, after the program's name, with no flag for help or for the version
abbrev pub line : App
line = record {
  top = record (new_shape (codes "pgnpieces")) {
    rules = word (codes "archive") ∷ number_word (codes "bytes") 1099511627776 ∷ [];
    no_binary_name = true;
    disable_help_flag = true;
    disable_version_flag = true;
  };
  subs = [];
}
