-- The loop over the tokens of a text, each of which is read off the text as it is needed.
use Rattle.std.proofs.Common.{◌≡◌, ◌≢◌, ℕ, ◌+◌, ◌-◌, ◌<◌, ◌≤◌, Bool, List, [], ◌∷◌, ◌++◌, length, take, drop, get_or, Some, None, Ok, Err, refl, sym, ap, ◌∙◌, subst, arith}
use Rattle.std.proofs.lemmas.List.{at_drop_more, length-drop}
use Rattle.std.proofs.lemmas.Option.{slice_get-get_or, slice_get_past}
use Rattle.cq_common.specs.declared.faults.Refusal.{Refusal}
use Rattle.cq_common.specs.declared.faults.Refusal.TheVariants.{Fault}
use Rattle.pgn_lexer.specs.declared.lexeme.Lexeme.{Lexeme}
use Rattle.pgn_lexer.specs.declared.token.LexemeKind.{LexemeKind}
use Rattle.pgn_lexer.specs.declared.token.LexemeKind.TheVariants.{EscapeLine, Token as IsToken}
use Rattle.pgn_lexer.specs.declared.token.Token.{Token}
use Rattle.pgn_lexer.specs.declared.token.TokenKind.{TokenKind}
use Rattle.pgn_lexer.specs.declared.token.TokenKind.TheVariants.{Open}
use Rattle.pgn_lexer.specs.Lexemes.{lexemes, lexemes_at, token_if, tokens_among, tokens_of}
use Rattle.pgn_lexer.specs.PlacedLexemes.{placed_lexeme as lexeme_shown}
use Rattle.pgn_reader.specs.declared.fault.Reason.{Reason}
use Rattle.pgn_reader.specs.declared.token_machine.Reader.{Reader}
use Rattle.pgn_reader.specs.Words.{Word, word_of, words_of}
use Rattle.pgn_reader.specs.ReadingPlace.{fault_at, fault_at_end}
use Rattle.pgn_reader.specs.Limits.{longest}
use Rattle.pgn_reader.specs.Internal.Machine.{State, feed, run, first as begin}
use Rattle.pgn_reader.specs.Internal.GameAssembly.{reading_place_of}
use Rattle.pgn_reader.specs.Internal.ReaderView.{state_of, moves_in, Steps, StepsOver, IsLow}
use Rattle.pgn_reader.specs.Internal.Reading.{IsWhole}
use Rattle.pgn_reader.specs.Verdict.{HasTokenFault, place_or}
use Rattle.pgn_reader.proofs.Tokens.{run_on, low_here, fault_in_loop, end_in_loop, whole_in_loop}

-- the reader has read the tokens before a place
pub record IsReadTo (start : ℕ) (first : Bool) (bytes : List ℕ) (place : ℕ) (s : State) : Type 0 where
  pub within : place ≤ length bytes
  pub index : ℕ
  pub left : drop index (tokens_of start first bytes) ≡ tokens_among (lexemes_at start first bytes place)
  pub stands : run begin (take index (words_of start first bytes)) ≡ s
  pub few : moves_in s ≤ 65535

nothing_there : Token
nothing_there = record { at = 0; len = 0; kind = Open }

heads : (t u : Token) (ts us : List Token) → t ∷ ts ≡ u ∷ us → t ≡ u
heads t u ts us is = cc

tails : (t u : Token) (ts us : List Token) → t ∷ ts ≡ u ∷ us → ts ≡ us
tails t u ts us is = cc

-- the next of some tokens
record IsNext (ts : List Token) (i : ℕ) (t : Token) (more : List Token) : Type 0 where
  low : i < length ts
  here : get_or ts i nothing_there ≡ t
  later : drop (i + 1) ts ≡ more

next_one : (ts : List Token) (i : ℕ) (t : Token) (more : List Token) → drop i ts ≡ t ∷ more → IsNext ts i t more
next_one ts i t more is =
    let low : i < length ts = (let count = ap length is in let len = length-drop i ts in omega (arith, count, len)) in
    let split : get_or ts i nothing_there ∷ drop (i + 1) ts ≡ t ∷ more = sym (at_drop_more (λ x. x) ts i nothing_there low) ∙ is in
    record {
      low = low;
      here = heads (get_or ts i nothing_there) t (drop (i + 1) ts) more split;
      later = tails (get_or ts i nothing_there) t (drop (i + 1) ts) more split;
    }

module _ (start : ℕ) (first : Bool) (bytes : List ℕ) (place : ℕ) (r : Reader) (l : Lexeme) where
  -- the lexeme is the next one
  abbrev IsFound : Type 0
  IsFound = lexemes_at start first bytes place ≡ lexeme_shown start l ∷ lexemes_at start first bytes (l.at + length l.text.now)

  abbrev token : TokenKind → Token
  token kind = record { at = start + l.at; len = length l.text.now; kind = kind }

  abbrev read : TokenKind → Word
  read kind = record { kind = kind; text = l.text.now }

  left_by : (kind : LexemeKind) → l.kind ≡ kind → IsFound → IsReadTo start first bytes place (state_of r) → (i : ℕ) → drop i (tokens_of start first bytes) ≡ tokens_among (lexemes_at start first bytes place)
      → drop i (tokens_of start first bytes) ≡ token_if (start + l.at) (length l.text.now) kind ++ tokens_among (lexemes_at start first bytes (l.at + length l.text.now))
  left_by kind is found so_far i left =
      left ∙ ap tokens_among found
      ∙ ap (λ k. token_if (start + l.at) (length l.text.now) k ++ tokens_among (lexemes_at start first bytes (l.at + length l.text.now))) is

  same_word : (kind : TokenKind) → l.text.now ≡ take (length l.text.now) (drop l.at bytes) → read kind ≡ word_of start bytes (token kind)
  same_word kind text_is =
      ap {B = Word} (λ t. record { kind = kind; text = t })
      (text_is ∙ ap (λ p. take (length l.text.now) (drop p bytes)) (let e : l.at ≡ start + l.at - start = omega arith in e))

  next_token : (kind : TokenKind) → l.kind ≡ IsToken kind → IsFound → (so_far : IsReadTo start first bytes place (state_of r))
      → IsNext (tokens_of start first bytes) so_far.index (token kind) (tokens_among (lexemes_at start first bytes (l.at + length l.text.now)))
  next_token kind is found so_far =
      next_one (tokens_of start first bytes) so_far.index (token kind) (tokens_among (lexemes_at start first bytes (l.at + length l.text.now)))
      (left_by (IsToken kind) is found so_far so_far.index so_far.left)

  same_here : (kind : TokenKind) → l.kind ≡ IsToken kind → IsFound → l.text.now ≡ take (length l.text.now) (drop l.at bytes) → (so_far : IsReadTo start first bytes place (state_of r))
      → read kind ≡ word_of start bytes (get_or (tokens_of start first bytes) so_far.index nothing_there)
  same_here kind is found text_is so_far = same_word kind text_is ∙ ap (word_of start bytes) (sym (next_token kind is found so_far).here)

  -- a lexeme was read
  on_by : (kind : LexemeKind) (s : State) (u : Unit {0}) → l.kind ≡ kind → IsFound → l.text.now ≡ take (length l.text.now) (drop l.at bytes) → l.at + length l.text.now ≤ length bytes
      → IsReadTo start first bytes place (state_of r) → StepsOver (state_of r) kind l.text.now s (Ok u) → IsReadTo start first bytes (l.at + length l.text.now) s
  on_by EscapeLine s u is found text_is within so_far steps = record {
    within = within;
    index = so_far.index;
    left = left_by EscapeLine is found so_far so_far.index so_far.left;
    stands = so_far.stands ∙ steps.0;
    few = steps.1;
  }
  on_by (IsToken kind) s u is found text_is within so_far steps =
      let next = next_token kind is found so_far in
      record {
        within = within;
        index = so_far.index + 1;
        left = next.later;
        stands = run_on (word_of start bytes) (tokens_of start first bytes) so_far.index nothing_there (state_of r) s next.low so_far.stands
            (ap (feed (state_of r)) (sym (same_here kind is found text_is so_far)) ∙ steps.0);
        few = steps.1;
      }

  pub read_on : (s : State) (u : Unit {0}) → IsFound → l.text.now ≡ take (length l.text.now) (drop l.at bytes) → l.at + length l.text.now ≤ length bytes
      → IsReadTo start first bytes place (state_of r) → StepsOver (state_of r) l.kind l.text.now s (Ok u) → IsReadTo start first bytes (l.at + length l.text.now) s
  read_on s u found text_is within so_far steps = on_by l.kind s u refl found text_is within so_far steps

  -- or it failed
  refused_by : (kind : LexemeKind) (s : State) (x : Refusal Reason) (reason : Reason) → l.kind ≡ kind → IsFound → l.text.now ≡ take (length l.text.now) (drop l.at bytes) → length bytes ≤ longest
      → IsReadTo start first bytes place (state_of r) → x ≡ Fault reason → StepsOver (state_of r) kind l.text.now s (Err x)
      → HasTokenFault start first bytes (record { byte = start + l.at; reason = reason })
  refused_by EscapeLine s x reason is found text_is short so_far fault steps = absurd steps
  refused_by (IsToken kind) s x reason is found text_is short so_far fault steps =
      let next = next_token kind is found so_far in
      let known : Steps (feed (state_of r) (read kind)) (fault_at (reading_place_of (state_of r)) (read kind)) s (Err (Fault reason)) =
      subst (λ y. Steps (feed (state_of r) (read kind)) (fault_at (reading_place_of (state_of r)) (read kind)) s (Err y)) fault steps in
      let word = word_of start bytes (get_or (tokens_of start first bytes) so_far.index nothing_there) in
      let here : Steps (feed (state_of r) word) (fault_at (reading_place_of (state_of r)) word) s (Err (Fault reason)) =
      subst (λ v. Steps (feed (state_of r) v) (fault_at (reading_place_of (state_of r)) v) s (Err (Fault reason))) (same_here kind is found text_is so_far) known in
      record {
        short = short;
        index = so_far.index;
        fault = fault_in_loop (word_of start bytes) (tokens_of start first bytes) so_far.index nothing_there r reason next.low so_far.stands so_far.few here.0 here.1;
        byte = sym (ap (place_or (start + length bytes)) (slice_get-get_or (tokens_of start first bytes) so_far.index nothing_there next.low)
            ∙ ap (λ t. t.at) next.here);
      }

  pub read_refused : (s : State) (x : Refusal Reason) (reason : Reason) → IsFound → l.text.now ≡ take (length l.text.now) (drop l.at bytes) → length bytes ≤ longest
      → IsReadTo start first bytes place (state_of r) → x ≡ Fault reason → StepsOver (state_of r) l.kind l.text.now s (Err x)
      → HasTokenFault start first bytes (record { byte = start + l.at; reason = reason })
  read_refused s x reason found text_is short so_far fault steps = refused_by l.kind s x reason refl found text_is short so_far fault steps

-- before the first
pub read_none : (start : ℕ) (first : Bool) (bytes : List ℕ) (s : State) → s ≡ begin → IsReadTo start first bytes 0 s
read_none start first bytes s is = record {
  within = omega arith;
  index = 0;
  left = ap (λ s. tokens_among (lexemes s first bytes)) (let e : start ≡ start + 0 = omega arith in e);
  stands = sym is;
  few = subst (λ t. moves_in t ≤ 65535) (sym is) (omega arith);
}

pub low_so_far : (start : ℕ) (first : Bool) (bytes : List ℕ) (place : ℕ) (s : State) → IsReadTo start first bytes place s → IsLow s
low_so_far start first bytes place s so_far = low_here (take so_far.index (words_of start first bytes)) s so_far.stands

-- after the last
nothing_left : (ts : List Token) (i : ℕ) → drop i ts ≡ [] → length ts ≤ i
nothing_left ts i is = let count = ap length is in let len = length-drop i ts in omega (arith, count, len)

module _ (start : ℕ) (first : Bool) (bytes : List ℕ) (place : ℕ) (r : Reader) (so_far : IsReadTo start first bytes place (state_of r)) (none : lexemes_at start first bytes place ≡ []) where
  past : length (tokens_of start first bytes) ≤ so_far.index
  past = nothing_left (tokens_of start first bytes) so_far.index (so_far.left ∙ ap tokens_among none)

  pub read_whole : fault_at_end (reading_place_of (state_of r)) ≡ None → IsWhole (words_of start first bytes) r
  read_whole ends = whole_in_loop (word_of start bytes) (tokens_of start first bytes) so_far.index r past so_far.stands so_far.few ends

  pub read_to_fault : (reason : Reason) → length bytes ≤ longest → fault_at_end (reading_place_of (state_of r)) ≡ Some reason
      → HasTokenFault start first bytes (record { byte = start + length bytes; reason = reason })
  read_to_fault reason short why = record {
    short = short;
    index = length (tokens_of start first bytes);
    fault = end_in_loop (word_of start bytes) (tokens_of start first bytes) so_far.index r reason past so_far.stands so_far.few why;
    byte = sym (ap (place_or (start + length bytes)) (slice_get_past (tokens_of start first bytes) (length (tokens_of start first bytes)) (omega arith)));
  }
