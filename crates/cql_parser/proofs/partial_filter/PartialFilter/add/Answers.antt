use Rattle.std.proofs.Common.{◌∙◌, ap, sym}
use Rattle.cql_parser.specs.PartialFilters.{say, with_sign, with_word}
use Rattle.cql_parser.specs.Internal.Models.{partial_filter_model}
use Rattle.cql_parser.proofs.partial_filter.PartialFilter.add.Goals as goal

pub returns-in-Word : goal.returns-in-Word
returns-in-Word c =
    let d = partial_filter_model c.args.self.now in
    c.with_word.ensures ∙ ap (with_word d) c.word_of.ensures ∙ sym (ap (λ kind. say d kind c.args.place) c.in-Word.is)

pub returns-in_ok-with_sign-in-Mark : goal.returns-in_ok-with_sign-in-Mark
returns-in_ok-with_sign-in-Mark c =
    let d = partial_filter_model c.args.self.now in
    c.in_ok-with_sign-in-Mark.ensures ∙ ap (with_sign d) c.sign_of.ensures ∙ sym (ap (λ kind. say d kind c.args.place) c.in-Mark.is)

pub returns-in-Number : goal.returns-in-Number
returns-in-Number c = c.with_number.ensures ∙ sym (ap (λ kind. say (partial_filter_model c.args.self.now) kind c.args.place) c.in-Number.is)

pub returns-in-Outcome : goal.returns-in-Outcome
returns-in-Outcome c = sym (ap (λ kind. say (partial_filter_model c.args.self.now) kind c.args.place) c.in-Outcome.is)
