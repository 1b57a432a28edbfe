-- The tokens of the rest of a query, step by step.
use Rattle.std.proofs.Common.{◌≡◌, ℕ, zero, suc, ◌+◌, ◌-◌, ◌<◌, ◌≤◌, ltb, List, [], ◌∷◌, ◌++◌, length, take, drop, Result, Ok, Err, refl, sym, ap, ◌∙◌, arith, append_assoc, length-drop}
use Rattle.std.proofs.lemmas.Bool.{cond-true, cond-false, lt-ltb, le-ltb}
use Rattle.std.proofs.lemmas.List.{drop-drop, drop_all, take_rest}
use Rattle.cql_syntax.specs.Limits.{most_bytes}
use Rattle.cq_common.specs.declared.faults.Refusal.{Refusal}
use Rattle.cq_common.specs.declared.faults.Refusal.TheVariants.{Fault, NoMemory}
use Rattle.cq_common.specs.Refusals.{Refuses}
use Rattle.cql_syntax.specs.declared.token.QueryToken.{QueryToken}
use Rattle.cql_syntax.specs.declared.token.QueryTokenKind.TheVariants.{End}
use Rattle.cql_syntax.specs.declared.fault.QueryFault.{QueryFault}
use Rattle.cql_syntax.specs.declared.fault.QueryReason.TheVariants.{QueryTooLong}
use Rattle.cql_lexer.specs.declared.expected.Expected.{Expected}
use Rattle.cql_lexer.specs.declared.expected.Expected.TheVariants.{Token}
use Rattle.cql_lexer.specs.Tokens.{tokens_from, tokens_of, separator_len, token_at, with_front, expected_after, result_and_then}

-- bytes that belong to the token before are skipped
passes : (n at : ℕ) (expected : Expected) (text : List ℕ) → n ≤ length text → tokens_from n at expected text ≡ tokens_from 0 (at + n) expected (drop n text)
unfolding tokens_from
passes zero at expected text h = let e : at ≡ at + 0 = omega arith in ap (λ k. tokens_from 0 k expected text) e
passes (suc n) at expected [] h = absurd (omega arith)
passes (suc n) at expected (b ∷ text) h =
    let e : at + 1 + n ≡ at + suc n = omega arith in
    passes n (at + 1) expected text (omega arith) ∙ ap (λ k. tokens_from 0 k expected (drop n text)) e

-- the same after the first of them
passes_more : (n at : ℕ) (expected : Expected) (b : ℕ) (text : List ℕ) → 0 < n → n ≤ suc (length text)
    → tokens_from (n - 1) (at + 1) expected text ≡ tokens_from 0 (at + n) expected (drop n (b ∷ text))
passes_more n at expected b text positive h =
    let place : at + 1 + (n - 1) ≡ at + n = omega arith in
    let count : suc (n - 1) ≡ n = omega arith in
    passes (n - 1) (at + 1) expected text (omega arith)
    ∙ ap (λ k. tokens_from 0 k expected (drop (n - 1) text)) place
    ∙ ap (λ k. tokens_from 0 (at + n) expected (drop k (b ∷ text))) count

-- white space and comments are passed
pub pass_separator : (at : ℕ) (expected : Expected) (text : List ℕ) → 0 < separator_len text → separator_len text ≤ length text → 0 < length text
    → tokens_from 0 at expected text ≡ tokens_from 0 (at + separator_len text) expected (drop (separator_len text) text)
unfolding tokens_from
pass_separator at expected [] positive h some = absurd (omega arith)
pass_separator at expected (b ∷ text) positive h some =
    cond-true (ltb 0 (separator_len (b ∷ text))) _ _ (lt-ltb _ _ positive) ∙ passes_more (separator_len (b ∷ text)) at expected b text positive h

-- a token is read, and its bytes are passed
pub pass_token : (at : ℕ) (expected : Expected) (text : List ℕ) (token : QueryToken) (len : ℕ) → 0 < length text → separator_len text ≡ 0
    → token_at expected at text ≡ Ok (token, len) → 0 < len → len ≤ length text
    → tokens_from 0 at expected text ≡ with_front (token ∷ []) (tokens_from 0 (at + len) (expected_after token.kind) (drop len text))
unfolding tokens_from
pass_token at expected [] token len some none found positive h = absurd (omega arith)
pass_token at expected (b ∷ text) token len some none found positive h =
    cond-false (ltb 0 (separator_len (b ∷ text))) _ _ (le-ltb _ _ (omega (arith, none)))
    ∙ ap (result_and_then (λ found. with_front (found.0 ∷ []) (tokens_from (found.1 - 1) (at + 1) (expected_after found.0.kind) text))) found
    ∙ ap (with_front (token ∷ [])) (passes_more len at (expected_after token.kind) b text positive h)

-- a fault ends the reading
pub stop : (at : ℕ) (expected : Expected) (text : List ℕ) (fault : QueryFault) → 0 < length text → separator_len text ≡ 0
    → token_at expected at text ≡ Err fault → tokens_from 0 at expected text ≡ Err fault
unfolding tokens_from
stop at expected [] fault some none found = absurd (omega arith)
stop at expected (b ∷ text) fault some none found =
    cond-false (ltb 0 (separator_len (b ∷ text))) _ _ (le-ltb _ _ (omega (arith, none)))
    ∙ ap (result_and_then (λ found. with_front (found.0 ∷ []) (tokens_from (found.1 - 1) (at + 1) (expected_after found.0.kind) text))) found

with_front_twice : (a b : List QueryToken) (r : Result (List QueryToken) QueryFault) → with_front a (with_front b r) ≡ with_front (a ++ b) r
with_front_twice a b (Ok c) = ap (λ x. Ok x) (sym (append_assoc a b c))
with_front_twice a b (Err fault) = refl

with_no_front : (r : Result (List QueryToken) QueryFault) → with_front [] r ≡ r
with_no_front (Ok c) = refl
with_no_front (Err fault) = refl

-- these tokens are before byte `at`, and the rest gives the others
pub record TokensLeft (query : List ℕ) (tokens : List QueryToken) (expected : Expected) (at : ℕ) : Type 0 where
  pub within : at ≤ length query
  pub limit : length query ≤ most_bytes
  pub rest : with_front tokens (tokens_from 0 at expected (drop at query)) ≡ tokens_of query

pub at_start : (query : List ℕ) → length query ≤ most_bytes → TokensLeft query [] Token 0
unfolding tokens_of
at_start query h = record {
  within = omega arith;
  limit = h;
  rest = with_no_front _ ∙ sym (cond-false (ltb most_bytes (length query)) _ _ (le-ltb _ _ h));
}

pub too_long : (query : List ℕ) → most_bytes < length query → tokens_of query ≡ Err (record { byte = most_bytes; reason = QueryTooLong })
unfolding tokens_of
too_long query h = cond-true (ltb most_bytes (length query)) _ _ (lt-ltb _ _ h)

-- the rest of the query, as the code has it
left : (query : List ℕ) (at s : ℕ) → s ≡ separator_len (take (length query - at) (drop at query)) → separator_len (drop at query) ≡ s
left query at s e = sym (ap separator_len (take_rest query at)) ∙ sym e

pub after_separator : (query : List ℕ) (tokens : List QueryToken) (expected : Expected) (at s : ℕ) → TokensLeft query tokens expected at
    → at < length query → s ≡ separator_len (take (length query - at) (drop at query)) → 0 < s
    → s ≤ length (take (length query - at) (drop at query)) → TokensLeft query tokens expected (at + s)
after_separator query tokens expected at s before inside e positive fits =
    let is = left query at s e in
    let len = length-drop at query in
    let short = ap length (take_rest query at) in
    record {
      within = omega (arith, fits, len, short);
      limit = before.limit;
      rest =
          ap (λ t. with_front tokens (tokens_from 0 (at + s) expected t)) (sym (drop-drop s at query))
          ∙ ap (with_front tokens)
          (ap (λ k. tokens_from 0 (at + k) expected (drop k (drop at query))) (sym is)
          ∙ sym (pass_separator at expected (drop at query) (omega (arith, is)) (omega (arith, is, fits, short)) (omega (arith, len))))
          ∙ before.rest;
    }

pub after_token : (query : List ℕ) (tokens : List QueryToken) (expected : Expected) (at : ℕ) (token : QueryToken) (len : ℕ)
    → TokensLeft query tokens expected at → at < length query → separator_len (take (length query - at) (drop at query)) ≤ 0
    → token_at expected at (drop at query) ≡ Ok (token, len) → 0 < len → at + len ≤ length query
    → TokensLeft query (tokens ++ token ∷ []) (expected_after token.kind) (at + len)
after_token query tokens expected at token len before inside none found positive fits =
    let is = left query at (separator_len (take (length query - at) (drop at query))) refl in
    let rest = length-drop at query in
    record {
      within = fits;
      limit = before.limit;
      rest =
          ap (λ t. with_front (tokens ++ token ∷ []) (tokens_from 0 (at + len) (expected_after token.kind) t)) (sym (drop-drop len at query))
          ∙ sym (with_front_twice tokens (token ∷ []) _)
          ∙ ap (with_front tokens) (sym (pass_token at expected (drop at query) token len (omega (arith, rest)) (omega (arith, is, none)) found positive (omega (arith, rest))))
          ∙ before.rest;
    }

pub at_fault : (query : List ℕ) (tokens : List QueryToken) (expected : Expected) (at s : ℕ) (fault : QueryFault)
    → TokensLeft query tokens expected at → at < length query → s ≡ separator_len (take (length query - at) (drop at query)) → s ≤ 0
    → token_at expected at (drop at query) ≡ Err fault → tokens_of query ≡ Err fault
at_fault query tokens expected at s fault before inside e none found =
    let is = left query at s e in
    sym before.rest ∙ ap (with_front tokens) (stop at expected (drop at query) fault (omega (arith, length-drop at query)) (omega (arith, is)) found)

pub at_refusal : (query : List ℕ) (tokens : List QueryToken) (expected : Expected) (at s : ℕ) (refusal : Refusal QueryFault)
    → TokensLeft query tokens expected at → at < length query → s ≡ separator_len (take (length query - at) (drop at query)) → s ≤ 0
    → Refuses {Y = QueryToken × ℕ} refusal (token_at expected at (drop at query)) → Refuses {Y = List QueryToken} refusal (tokens_of query)
at_refusal query tokens expected at s (Fault fault) before inside e none found = at_fault query tokens expected at s fault before inside e none found
at_refusal query tokens expected at s NoMemory before inside e none found = tt

pub at_end : (query : List ℕ) (tokens : List QueryToken) (expected : Expected) (at : ℕ) → TokensLeft query tokens expected at → length query ≤ at
    → tokens_of query ≡ Ok (tokens ++ (record { at = at; kind = End }) ∷ [])
unfolding tokens_from
at_end query tokens expected at before h =
    sym before.rest ∙ ap (λ t. with_front tokens (tokens_from 0 at expected t)) (drop_all at query h)
