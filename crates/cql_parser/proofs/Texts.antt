-- Every text spells a query or has a fault, if the tokens of a text do.
use Rattle.std.proofs.Common.{◌≡◌, ◌⊎◌, inl, inr, ℕ, List, Result, Ok, Err, refl}
use Rattle.cql_syntax.specs.Trees.{QueryTree}
use Rattle.cql_syntax.specs.declared.fault.QueryFault.{QueryFault}
use Rattle.cql_syntax.specs.declared.token.QueryToken.{QueryToken}
use Rattle.cql_lexer.specs.Tokens.{tokens_of}
use Rattle.cql_parser.specs.Faults.{IsEnded}
use Rattle.cql_parser.specs.Texts.{TextSpells, IsTextFault}
use Rattle.cql_parser.proofs.Reading.{HasOutcome, has_outcome}

abbrev pub TextHasOutcome : List ℕ → Type 0
TextHasOutcome text = ((q : QueryTree) × TextSpells text q) ⊎ ((f : QueryFault) × IsTextFault text f)

of_tokens : (text : List ℕ) (tokens : List QueryToken) → tokens_of text ≡ Ok tokens → HasOutcome tokens → TextHasOutcome text
of_tokens text tokens is (inl spelled) = inl (spelled.0, (tokens, is, spelled.1))
of_tokens text tokens is (inr faulty) = inr (faulty.0, inr (tokens, is, faulty.1))

of_text : (text : List ℕ) (tokens : Result (List QueryToken) QueryFault)
    → ((ts : List QueryToken) → tokens_of text ≡ Ok ts → IsEnded ts) → tokens_of text ≡ tokens → TextHasOutcome text
of_text text (Ok tokens) ended is = of_tokens text tokens is (has_outcome tokens (ended tokens is))
of_text text (Err fault) ended is = inr (fault, inl is)

pub text_has_outcome : (text : List ℕ) → ((ts : List QueryToken) → tokens_of text ≡ Ok ts → IsEnded ts) → TextHasOutcome text
text_has_outcome text ended = of_text text (tokens_of text) ended refl
