-- The tokens of a query are proper ones, and then one end.
use Rattle.std.proofs.Common.{◌≡◌, ℕ, zero, suc, ◌+◌, ◌-◌, ◌<◌, ◌≤◌, Bool, true, false, cond, leb, ltb, List, [], ◌∷◌, length, take, drop, Option, None, Some, Result, Ok, Err, refl, ap, subst, arith}
use Rattle.std.specs.Prelude.{nat_eq, is_some, codes}
use Rattle.std.specs.Option.{option_map}
use Rattle.std.specs.List.{position, prefix_len, starts_with}
use Rattle.std.specs.Char.{is_ascii_digit}
use Rattle.std.specs.Str.Parse.{digits_value}
use Rattle.std.proofs.lemmas.Bool.{leb-true}
use Rattle.std.proofs.lemmas.List.Quantifiers.{position-Some}
use Rattle.cql_syntax.specs.Limits.{most_bytes, greatest_number}
use Rattle.cql_syntax.specs.Words.{words, marks, reserved_names, place_of}
use Rattle.cql_syntax.specs.declared.leaves.Designator.{Designator}
use Rattle.cql_syntax.specs.declared.leaves.Outcome.TheVariants as outcomes
use Rattle.cql_syntax.specs.declared.token.QueryToken.{QueryToken}
use Rattle.cql_syntax.specs.declared.token.QueryTokenKind.{QueryTokenKind}
use Rattle.cql_syntax.specs.declared.token.QueryTokenKind.TheVariants.{Word, Reserved, Name, Squares, Number, Text, FileName, Outcome, Mark, End}
use Rattle.cql_syntax.specs.declared.fault.QueryFault.{QueryFault}
use Rattle.cql_syntax.specs.declared.fault.QueryReason.{QueryReason}
use Rattle.cql_syntax.specs.declared.fault.QueryReason.TheVariants.{BadByte, UnclosedText, NumberTooLarge}
use Rattle.cql_lexer.specs.declared.expected.Expected.{Expected}
use Rattle.cql_lexer.specs.declared.expected.Expected.TheVariants as expectations
use Rattle.cql_lexer.specs.declared.lexeme.Lexeme.{Lexeme}
use Rattle.cql_lexer.specs.Characters.{is_name_byte, is_file_byte, is_quote, begins, begins_name_or_squares}
use Rattle.cql_lexer.specs.Designators.{designator}
use Rattle.cql_lexer.specs.Longest.{longest}
use Rattle.cql_lexer.specs.Lexemes.{of_len, file_name, outcome, quoted, number, named, named_or_squares, mark_number, mark, found_or, first_lexeme}
use Rattle.cql_lexer.specs.Tokens.{IsProper, IsProperDesignator, EndOnce, tokens_from, tokens_of, separator_len, token_at, with_front, expected_after, result_and_then}
use Rattle.cql_lexer.proofs.Designated.{designator_proper}
use Rattle.cql_lexer.proofs.Longest.{longest_parts}

-- a lexeme that is found is proper
abbrev Finds : Option Lexeme → Type 0
Finds None = Unit {0}
Finds (Some lexeme) = IsProper lexeme.kind

abbrev Reads : Result Lexeme QueryReason → Type 0
Reads (Ok lexeme) = IsProper lexeme.kind
Reads (Err reason) = Unit {0}

finds_if : (b : Bool) (one other : Option Lexeme) → Finds one → Finds other → Finds (cond b one other)
finds_if true one other p q = p
finds_if false one other p q = q

reads_if : (b : Bool) (one other : Result Lexeme QueryReason) → Reads one → Reads other → Reads (cond b one other)
reads_if true one other p q = p
reads_if false one other p q = q

reads_found : (found : Option Lexeme) (other : Result Lexeme QueryReason) → Finds found → Reads other → Reads (found_or found other)
reads_found None other p q = q
reads_found (Some lexeme) other p q = p

file_by : (b : Bool) (len : ℕ) (text : List ℕ) → Finds (cond b (Some (of_len len (FileName (take len text)))) None)
file_by true len text = tt
file_by false len text = tt

file_name_proper : (expected : Expected) (text : List ℕ) → Finds (file_name expected text)
unfolding file_name
file_name_proper expectations.Token text = tt
file_name_proper expectations.FileName text = file_by (ltb 0 (prefix_len is_file_byte text)) (prefix_len is_file_byte text) text
file_name_proper expectations.Outcome text = tt

outcome_by : (a b c d : Bool) → Finds (cond a (Some (of_len 7 (Outcome outcomes.Draw)))
    (cond b (Some (of_len 3 (Outcome outcomes.White))) (cond c (Some (of_len 3 (Outcome outcomes.Black))) (cond d (Some (of_len 1 (Outcome outcomes.Unfinished))) None))))
outcome_by true b c d = tt
outcome_by false true c d = tt
outcome_by false false true d = tt
outcome_by false false false true = tt
outcome_by false false false false = tt

outcome_proper : (expected : Expected) (text : List ℕ) → Finds (outcome expected text)
unfolding outcome
outcome_proper expectations.Token text = tt
outcome_proper expectations.FileName text = tt
outcome_proper expectations.Outcome text = outcome_by (starts_with nat_eq text (codes "1/2-1/2")) (starts_with nat_eq text (codes "1-0"))
    (starts_with nat_eq text (codes "0-1")) (starts_with nat_eq text (codes "*"))

quoted_by : (o : Option ℕ) (text : List ℕ) → Reads (elim o [ Some end ↦ Ok (of_len (end + 2) (Text (take end (drop 1 text)))) | None ↦ Err UnclosedText ])
quoted_by None text = tt
quoted_by (Some end) text = tt

quoted_proper : (text : List ℕ) → Reads (quoted text)
unfolding quoted
quoted_proper text = quoted_by (position is_quote (drop 1 text)) text

number_by : (b : Bool) (len value : ℕ) → (b ≡ true → value ≤ greatest_number) → Reads (cond b (Ok (of_len len (Number value))) (Err NumberTooLarge))
number_by true len value h = h refl
number_by false len value h = tt

number_proper : (text : List ℕ) → Reads (number text)
unfolding number
number_proper text =
    let value = digits_value 10 (take (prefix_len is_ascii_digit text) text) in
    number_by (leb value greatest_number) (prefix_len is_ascii_digit text) value (leb-true value greatest_number)

named_by : (o : Option ℕ) (b : Bool) (name : List ℕ) → ((k : ℕ) → o ≡ Some k → k < length words) → IsProper (elim o [ Some word ↦ Word word | None ↦ cond b (Reserved name) (Name name) ])
named_by None true name h = tt
named_by None false name h = tt
named_by (Some k) b name h = h k refl

place_below : (text : List ℕ) (table : List (List ℕ)) (k : ℕ) → place_of text table ≡ Some k → k < length table
place_below text table k e = (position-Some _ table k [] e).0

named_proper : (name : List ℕ) → IsProper (named name)
unfolding named
named_proper name = named_by (place_of name words) (is_some (place_of name reserved_names)) name (place_below name words)

name_by : (b : Bool) (run : ℕ) (kind : QueryTokenKind) → IsProper kind → Finds (cond b (Some (of_len run kind)) None)
name_by true run kind p = p
name_by false run kind p = tt

squares_by : (o : Option (Designator × ℕ)) (run : ℕ) (name : Option Lexeme) → ((d : Designator) (len : ℕ) → o ≡ Some (d, len) → IsProperDesignator d)
    → Finds name → Finds (elim o [ Some found ↦ cond (leb run found.1) (Some (of_len found.1 (Squares found.0))) name | None ↦ name ])
squares_by None run name h p = p
squares_by (Some found) run name h p = finds_if (leb run found.1) (Some (of_len found.1 (Squares found.0))) name (h found.0 found.1 refl) p

named_or_squares_proper : (text : List ℕ) → Finds (named_or_squares text)
unfolding named_or_squares
named_or_squares_proper text =
    let run = prefix_len is_name_byte text in
    let kind = named (take run text) in
    finds_if (begins begins_name_or_squares text) _ None (squares_by (longest designator text) run (cond (ltb 0 run) (Some (of_len run kind)) None)
    (λ d len e. designator_proper (take len text) d (longest_parts designator text d len e).reads) (name_by (ltb 0 run) run kind (named_proper (take run text)))) tt

mark_by : (o : Option (ℕ × ℕ)) → ((k len : ℕ) → o ≡ Some (k, len) → k < length marks) → Finds (option_map (λ found. of_len found.1 (Mark found.0)) o)
mark_by None h = tt
mark_by (Some x) h = h x.0 x.1 refl

mark_below : (text : List ℕ) (k : ℕ) → mark_number text ≡ Some k → k < length marks
unfolding mark_number
mark_below text k e = place_below text marks k e

mark_proper : (text : List ℕ) → Finds (mark text)
unfolding mark
mark_proper text = mark_by (longest mark_number text) (λ k len e. mark_below (take len text) k (longest_parts mark_number text k len e).reads)

first_proper : (expected : Expected) (text : List ℕ) → Reads (first_lexeme expected text)
unfolding first_lexeme
first_proper expected text =
    let last = found_or (mark text) (Err BadByte) in
    let names = found_or (named_or_squares text) last in
    let digits = cond (begins is_ascii_digit text) (number text) names in
    let quotes = cond (begins is_quote text) (quoted text) digits in
    reads_found (file_name expected text) (found_or (outcome expected text) quotes) (file_name_proper expected text)
    (reads_found (outcome expected text) quotes (outcome_proper expected text)
    (reads_if (begins is_quote text) (quoted text) digits (quoted_proper text)
    (reads_if (begins is_ascii_digit text) (number text) names (number_proper text)
    (reads_found (named_or_squares text) last (named_or_squares_proper text)
    (reads_found (mark text) (Err BadByte) (mark_proper text) tt)))))

-- the token at a place is proper
abbrev Found : Result (QueryToken × ℕ) QueryFault → Type 0
Found (Ok found) = IsProper found.0.kind
Found (Err fault) = Unit {0}

found_by : (r : Result Lexeme QueryReason) (at : ℕ) → Reads r
    → Found (elim r [ Ok found ↦ Ok (record { at = at; kind = found.kind }, found.len) | Err reason ↦ Err (record { byte = at; reason = reason }) ])
found_by (Ok found) at p = p
found_by (Err reason) at p = tt

token_proper : (expected : Expected) (at : ℕ) (text : List ℕ) → Found (token_at expected at text)
token_proper expected at text = found_by (first_lexeme expected text) at (first_proper expected text)

-- the tokens are proper ones, and then one end
abbrev Ends : ℕ → Result (List QueryToken) QueryFault → Type 0
Ends end (Ok tokens) = EndOnce end tokens
Ends end (Err fault) = Unit {0}

ends_front : (end : ℕ) (token : QueryToken) (r : Result (List QueryToken) QueryFault) → IsProper token.kind → Ends end r → Ends end (with_front (token ∷ []) r)
ends_front end token (Ok []) p q = absurd q
ends_front end token (Ok (next ∷ tokens)) p q = (p, q)
ends_front end token (Err fault) p q = tt

ends_then : (end : ℕ) (r : Result (QueryToken × ℕ) QueryFault) (f : QueryToken × ℕ → Result (List QueryToken) QueryFault) → Found r
    → ((x : QueryToken × ℕ) → Ends end (f x)) → Ends end (result_and_then (λ found. with_front (found.0 ∷ []) (f found)) r)
ends_then end (Ok found) f p q = ends_front end found.0 (f found) p (q found)
ends_then end (Err fault) f p q = tt

ends_if : (end : ℕ) (b : Bool) (one other : Result (List QueryToken) QueryFault) → Ends end one → Ends end other → Ends end (cond b one other)
ends_if end true one other p q = p
ends_if end false one other p q = q

ends_at : (m n : ℕ) (r : Result (List QueryToken) QueryFault) → m ≡ n → Ends m r → Ends n r
ends_at m n r e h = subst (λ k. Ends k r) e h

-- the end alone
end_alone : (at : ℕ) → Ends (at + 0) (Ok ((record { at = at; kind = End }) ∷ []))
end_alone at = let e : at ≡ at + 0 = omega arith in ap (λ k. record { at = k; kind = End }) e

ends : (passed at : ℕ) (expected : Expected) (text : List ℕ) → Ends (at + length text) (tokens_from passed at expected text)
unfolding tokens_from
ends zero at expected [] = end_alone at
ends (suc passed) at expected [] = end_alone at
ends (suc passed) at expected (b ∷ text) =
    ends_at (at + 1 + length text) (at + suc (length text)) _ (omega arith) (ends passed (at + 1) expected text)
ends zero at expected (b ∷ text) =
    let separator = separator_len (b ∷ text) in
    ends_at (at + 1 + length text) (at + suc (length text)) _ (omega arith)
    (ends_if (at + 1 + length text) (ltb 0 separator) (tokens_from (separator - 1) (at + 1) expected text) _
    (ends (separator - 1) (at + 1) expected text)
    (ends_then (at + 1 + length text) (token_at expected at (b ∷ text)) (λ found. tokens_from (found.1 - 1) (at + 1) (expected_after found.0.kind) text)
    (token_proper expected at (b ∷ text))
    (λ found. ends (found.1 - 1) (at + 1) (expected_after found.0.kind) text)))

whole : (query : List ℕ) → Ends (length query) (tokens_of query)
unfolding tokens_of
whole query = ends_if (length query) (ltb most_bytes (length query)) _ (tokens_from 0 0 expectations.Token query) tt
    (ends_at (0 + length query) (length query) _ (omega arith) (ends 0 0 expectations.Token query))

pub tokens_end : (query : List ℕ) (tokens : List QueryToken) → tokens_of query ≡ Ok tokens → EndOnce (length query) tokens
tokens_end query tokens e = subst (Ends (length query)) e (whole query)
