-- A query is read in one way, as its tokens.
use Rattle.std.proofs.Common.{◌≡◌, ℕ, zero, suc, ◌+◌, ◌-◌, ◌<◌, ◌≤◌, Bool, true, false, cond, leb, ltb, List, [], ◌∷◌, length, take, drop, Option, None, Some, Result, Ok, Err, inl, inr, refl, sym, ap, subst, ◌∙◌, arith, length-drop}
use Rattle.std.specs.Prelude.{◌↔◌, nat_eq, codes, unwrap_or}
use Rattle.std.specs.Char.{is_ascii_digit}
use Rattle.std.specs.List.{position, prefix_len, starts_with}
use Rattle.std.specs.Option.{option_map}
use Rattle.std.specs.Str.Parse.{digits_value}
use Rattle.std.proofs.lemmas.Bool.{and_parts, cond-false, le-ltb, ltb-true}
use Rattle.std.proofs.lemmas.List.Quantifiers.{position-Some}
use Rattle.std.proofs.lemmas.List.Sums.{prefix_len-le-length}
use Rattle.cql_syntax.specs.Limits.{most_bytes, greatest_number}
use Rattle.cq_common.specs.Text.{is_white}
use Rattle.cql_syntax.specs.declared.fault.QueryFault.{QueryFault}
use Rattle.cql_syntax.specs.declared.fault.QueryReason.{QueryReason}
use Rattle.cql_syntax.specs.declared.fault.QueryReason.TheVariants.{BadByte, UnclosedText, NumberTooLarge}
use Rattle.cql_syntax.specs.declared.leaves.Designator.{Designator}
use Rattle.cql_syntax.specs.declared.leaves.Outcome.TheVariants as outcomes
use Rattle.cql_syntax.specs.declared.token.QueryToken.{QueryToken}
use Rattle.cql_syntax.specs.declared.token.QueryTokenKind.{QueryTokenKind}
use Rattle.cql_syntax.specs.declared.token.QueryTokenKind.TheVariants.{Squares, Number, Text, FileName, Outcome, Mark}
use Rattle.cql_lexer.specs.declared.expected.Expected.{Expected}
use Rattle.cql_lexer.specs.declared.expected.Expected.TheVariants as expectations
use Rattle.cql_lexer.specs.declared.lexeme.Lexeme.{Lexeme}
use Rattle.cql_lexer.specs.Characters.{is_line_feed, is_name_byte, is_file_byte, is_quote, begins, begins_name_or_squares}
use Rattle.cql_lexer.specs.Designators.{designator}
use Rattle.cql_lexer.specs.Longest.{longest}
use Rattle.cql_lexer.specs.Lexemes.{IsFront, of_len, file_name, outcome, quoted, number, named, named_or_squares, mark_number, mark, found_or, first_lexeme}
use Rattle.cql_lexer.specs.Tokens.{Tokenizes, ended, separated, lexed, faulty, tokens_from, tokens_of, separator_len, token_at, with_front, expected_after}
use Rattle.cql_lexer.proofs.Longest.{longest_parts}
use Rattle.cql_lexer.proofs.Rectangles.{first_or_above}
use Rattle.cql_lexer.proofs.Steps.{pass_separator, pass_token, stop}

-- a lexeme that is found takes some bytes of the text, and no more than there are

abbrev Finds : List ℕ → Option Lexeme → Type 0
Finds text None = Unit {0}
Finds text (Some lexeme) = IsFront lexeme text

abbrev Reads : List ℕ → Result Lexeme QueryReason → Type 0
Reads text (Ok lexeme) = IsFront lexeme text
Reads text (Err reason) = Unit {0}

found_by : (text : List ℕ) (found : Option Lexeme) (other : Result Lexeme QueryReason) → Finds text found → Reads text other → Reads text (found_or found other)
found_by text None other p q = q
found_by text (Some lexeme) other p q = p

reads_if : (text : List ℕ) (b : Bool) (one other : Result Lexeme QueryReason) → (b ≡ true → Reads text one) → Reads text other → Reads text (cond b one other)
reads_if text true one other p q = p refl
reads_if text false one other p q = q

finds_if : (text : List ℕ) (b : Bool) (one other : Option Lexeme) → (b ≡ true → Finds text one) → Finds text other → Finds text (cond b one other)
finds_if text true one other p q = p refl
finds_if text false one other p q = q

run_front : (text : List ℕ) (test : ℕ → Bool) (kind : QueryTokenKind) → Finds text (cond (ltb 0 (prefix_len test text)) (Some (of_len (prefix_len test text) kind)) None)
run_front text test kind =
    finds_if text (ltb 0 (prefix_len test text)) (Some (of_len (prefix_len test text) kind)) None (λ e. (ltb-true 0 _ e, prefix_len-le-length test text)) tt

file_name_front : (expected : Expected) (text : List ℕ) → Finds text (file_name expected text)
unfolding file_name
file_name_front expectations.Token text = tt
file_name_front expectations.FileName text = run_front text is_file_byte (FileName (take (prefix_len is_file_byte text) text))
file_name_front expectations.Outcome text = tt

has_front : (needle text : List ℕ) → starts_with nat_eq text needle ≡ true → length needle ≤ length text
has_front [] text e = omega arith
has_front (x ∷ needle) [] e = absurd (cc)
has_front (x ∷ needle) (b ∷ text) e = let more = has_front needle text (and_parts (nat_eq x b) _ e).1 in omega (arith, more)

word_front : (text needle : List ℕ) (kind : QueryTokenKind) → 0 < length needle → starts_with nat_eq text needle ≡ true → IsFront (of_len (length needle) kind) text
word_front text needle kind some e = (some, has_front needle text e)

outcome_front : (expected : Expected) (text : List ℕ) → Finds text (outcome expected text)
unfolding outcome
outcome_front expectations.Token text = tt
outcome_front expectations.FileName text = tt
outcome_front expectations.Outcome text =
    finds_if text (starts_with nat_eq text (codes "1/2-1/2")) _ _ (word_front text (codes "1/2-1/2") (Outcome outcomes.Draw) (omega arith))
    (finds_if text (starts_with nat_eq text (codes "1-0")) _ _ (word_front text (codes "1-0") (Outcome outcomes.White) (omega arith))
    (finds_if text (starts_with nat_eq text (codes "0-1")) _ _ (word_front text (codes "0-1") (Outcome outcomes.Black) (omega arith))
    (finds_if text (starts_with nat_eq text (codes "*")) _ None (word_front text (codes "*") (Outcome outcomes.Unfinished) (omega arith)) tt)))

quoted_by : (text : List ℕ) (o : Option ℕ) → ((end : ℕ) → o ≡ Some end → end < length (drop 1 text))
    → Reads text (elim o [ Some end ↦ Ok (of_len (end + 2) (Text (take end (drop 1 text)))) | None ↦ Err UnclosedText ])
quoted_by text None h = tt
quoted_by text (Some end) h = let inside = h end refl in let rest = length-drop 1 text in (omega arith, omega (arith, inside, rest))

quoted_front : (text : List ℕ) → Reads text (quoted text)
unfolding quoted
quoted_front text = quoted_by text (position is_quote (drop 1 text)) (λ end e. (position-Some is_quote (drop 1 text) end 0 e).0)

run_goes_on : (b : Bool) (n : ℕ) → b ≡ true → 0 < cond b (1 + n) 0
run_goes_on true n e = omega arith
run_goes_on false n e = absurd (cc)

first_of_run : (test : ℕ → Bool) (text : List ℕ) → begins test text ≡ true → 0 < prefix_len test text
first_of_run test [] e = absurd (cc)
first_of_run test (b ∷ text) e = run_goes_on (test b) (prefix_len test text) e

number_front : (text : List ℕ) → begins is_ascii_digit text ≡ true → Reads text (number text)
unfolding number
number_front text e =
    let len = prefix_len is_ascii_digit text in
    let value = digits_value 10 (take len text) in
    reads_if text (leb value greatest_number) (Ok (of_len len (Number value))) (Err NumberTooLarge) (λ _. (first_of_run is_ascii_digit text e, prefix_len-le-length is_ascii_digit text)) tt

squares_front : (text : List ℕ) (o : Option (Designator × ℕ)) (run : ℕ) (name : Option Lexeme)
    → ((d : Designator) (len : ℕ) → o ≡ Some (d, len) → (0 < len) × (len ≤ length text)) → Finds text name
    → Finds text (elim o [ Some found ↦ cond (leb run found.1) (Some (of_len found.1 (Squares found.0))) name | None ↦ name ])
squares_front text None run name h p = p
squares_front text (Some found) run name h p = finds_if text (leb run found.1) (Some (of_len found.1 (Squares found.0))) name (λ _. h found.0 found.1 refl) p

named_or_squares_front : (text : List ℕ) → Finds text (named_or_squares text)
unfolding named_or_squares
named_or_squares_front text =
    let run = prefix_len is_name_byte text in
    let kind = named (take run text) in
    finds_if text (begins begins_name_or_squares text) _ None
    (λ _. squares_front text (longest designator text) run (cond (ltb 0 run) (Some (of_len run kind)) None)
    (λ d len e. let parts = longest_parts designator text d len e in (parts.positive, parts.fits)) (run_front text is_name_byte kind)) tt

mark_by : (text : List ℕ) (o : Option (ℕ × ℕ)) → ((k len : ℕ) → o ≡ Some (k, len) → (0 < len) × (len ≤ length text)) → Finds text (option_map (λ found. of_len found.1 (Mark found.0)) o)
mark_by text None h = tt
mark_by text (Some x) h = h x.0 x.1 refl

mark_front : (text : List ℕ) → Finds text (mark text)
unfolding mark
mark_front text = mark_by text (longest mark_number text) (λ k len e. let parts = longest_parts mark_number text k len e in (parts.positive, parts.fits))

first_front : (expected : Expected) (text : List ℕ) → Reads text (first_lexeme expected text)
unfolding first_lexeme
first_front expected text =
    let last = found_or (mark text) (Err BadByte) in
    let names = found_or (named_or_squares text) last in
    let digits = cond (begins is_ascii_digit text) (number text) names in
    let quotes = cond (begins is_quote text) (quoted text) digits in
    found_by text (file_name expected text) (found_or (outcome expected text) quotes) (file_name_front expected text)
    (found_by text (outcome expected text) quotes (outcome_front expected text)
    (reads_if text (begins is_quote text) (quoted text) digits (λ _. quoted_front text)
    (reads_if text (begins is_ascii_digit text) (number text) names (number_front text)
    (found_by text (named_or_squares text) last (named_or_squares_front text)
    (found_by text (mark text) (Err BadByte) (mark_front text) tt)))))

-- the token at a place takes some bytes, and no more than there are
abbrev Fronts : List ℕ → Result (QueryToken × ℕ) QueryFault → Type 0
Fronts text (Ok found) = (0 < found.1) × (found.1 ≤ length text)
Fronts text (Err fault) = Unit {0}

token_by : (text : List ℕ) (r : Result Lexeme QueryReason) (at : ℕ) → Reads text r
    → Fronts text (elim r [ Ok found ↦ Ok (record { at = at; kind = found.kind }, found.len) | Err reason ↦ Err (record { byte = at; reason = reason }) ])
token_by text (Ok found) at p = p
token_by text (Err reason) at p = tt

token_front : (expected : Expected) (at : ℕ) (text : List ℕ) (token : QueryToken) (len : ℕ) → token_at expected at text ≡ Ok (token, len) → (0 < len) × (len ≤ length text)
token_front expected at text token len e = subst (Fronts text) e (token_by text (first_lexeme expected text) at (first_front expected text))

-- a separator is no longer than the text

place_or_all : (text : List ℕ) (o : Option ℕ) → ((end : ℕ) → o ≡ Some end → end < length text) → unwrap_or o (length text) ≤ length text
place_or_all text None h = omega arith
place_or_all text (Some end) h = let inside = h end refl in omega (arith, inside)

le_if : (b : Bool) (m n k : ℕ) → m ≤ k → n ≤ k → cond b m n ≤ k
le_if true m n k p q = p
le_if false m n k p q = q

separator_fits : (text : List ℕ) → separator_len text ≤ length text
unfolding separator_len
separator_fits text =
    le_if (starts_with nat_eq text (codes "//")) _ _ _
    (place_or_all text (position is_line_feed text) (λ end e. (position-Some is_line_feed text end 0 e).0)) (prefix_len-le-length is_white text)

-- the tokens of a text are a reading of it

module _ (at : ℕ) (expected : Expected) (text : List ℕ) (some : 0 < length text)
    (more : (next : ℕ) (after : Expected) (rest : List ℕ) → length rest < length text → Tokenizes next after rest (tokens_from 0 next after rest)) where
  by_separator : 0 < separator_len text → Tokenizes at expected text (tokens_from 0 at expected text)
  by_separator positive =
      let len = length-drop (separator_len text) text in
      let fits = separator_fits text in
      subst (Tokenizes at expected text) (sym (pass_separator at expected text positive fits some))
      (separated at expected text _ positive (more (at + separator_len text) expected (drop (separator_len text) text) (omega (arith, len, fits, positive))))

  by_token : (r : Result (QueryToken × ℕ) QueryFault) → token_at expected at text ≡ r → separator_len text ≡ 0 → Tokenizes at expected text (tokens_from 0 at expected text)
  by_token (Ok found) is none =
      let front = token_front expected at text found.0 found.1 is in
      let positive = front.0 in let fits = front.1 in
      let len = length-drop found.1 text in
      subst (Tokenizes at expected text) (sym (pass_token at expected text found.0 found.1 some none is positive fits))
      (lexed at expected text found.0 found.1 _ some none is (more (at + found.1) (expected_after found.0.kind) (drop found.1 text) (omega (arith, len, fits, positive))))
  by_token (Err fault) is none =
      subst (Tokenizes at expected text) (sym (stop at expected text fault some none is)) (faulty at expected text fault some none is)

  by_both : Tokenizes at expected text (tokens_from 0 at expected text)
  by_both = elim (first_or_above 0 (separator_len text) (omega arith)) [
    | inl none ↦ by_token (token_at expected at text) refl none
    | inr above ↦ by_separator (omega (arith, above))
  ]

read_within : (n at : ℕ) (expected : Expected) (text : List ℕ) → length text ≤ n → Tokenizes at expected text (tokens_from 0 at expected text)
unfolding tokens_from
read_within n at expected [] h = ended at expected
read_within zero at expected (b ∷ text) h = absurd (omega arith)
read_within (suc n) at expected (b ∷ text) h =
    by_both at expected (b ∷ text) (omega arith) (λ next after rest less. read_within n next after rest (omega (arith, less, h)))

-- a reading is of the tokens
are_tokens : (at : ℕ) (expected : Expected) (text : List ℕ) (read : Result (List QueryToken) QueryFault) → Tokenizes at expected text read → tokens_from 0 at expected text ≡ read
unfolding tokens_from
are_tokens _ _ _ _ (ended at expected) = refl
are_tokens _ _ _ _ (separated at expected text read positive rest) =
    let fits = separator_fits text in
    pass_separator at expected text positive fits (omega (arith, fits, positive)) ∙ are_tokens (at + separator_len text) expected (drop (separator_len text) text) read rest
are_tokens _ _ _ _ (lexed at expected text token len read some none is rest) =
    let front = token_front expected at text token len is in
    pass_token at expected text token len some none is front.0 front.1 ∙ ap (with_front (token ∷ [])) (are_tokens (at + len) (expected_after token.kind) (drop len text) read rest)
are_tokens _ _ _ _ (faulty at expected text fault some none is) = stop at expected text fault some none is

short_enough : (query : List ℕ) → length query ≤ most_bytes → tokens_of query ≡ tokens_from 0 0 expectations.Token query
unfolding tokens_of
short_enough query h = cond-false (ltb most_bytes (length query)) _ _ (le-ltb _ _ h)

pub reads_tokens : (query : List ℕ) (read : Result (List QueryToken) QueryFault) → length query ≤ most_bytes → Tokenizes 0 expectations.Token query read ↔ (tokens_of query ≡ read)
reads_tokens query read h = (
  (λ is. short_enough query h ∙ are_tokens 0 expectations.Token query read is),
  (λ e. subst (Tokenizes 0 expectations.Token query) (sym (short_enough query h) ∙ e) (read_within (length query) 0 expectations.Token query (omega arith))),
)
