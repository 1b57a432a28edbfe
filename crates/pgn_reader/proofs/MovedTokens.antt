-- Outcomes of bytes at another place, and of the first bytes of a game.
use Rattle.std.proofs.Common.{◌≡◌, ◌⊎◌, ◌↔◌, ℕ, ◌+◌, ◌<◌, ◌≤◌, inl, inr, List, length, take, map, Option, Some, None, Result, Ok, Err, Bool, refl, sym, ap, ap₂, ◌∙◌, subst, arith}
use Rattle.std.specs.Prelude.{slice_get}
use Rattle.std.specs.Option.{option_map}
use Rattle.std.proofs.lemmas.List.{take_all, length-take-le}
use Rattle.std.proofs.lemmas.Option.{slice_get-map}
use Rattle.cq_position.specs.Games.{Game}
use Rattle.pgn_lexer.specs.declared.token.Token.{Token}
use Rattle.pgn_lexer.specs.Lexemes.{tokens_of}
use Rattle.pgn_reader.specs.declared.fault.GameFault.{GameFault}
use Rattle.pgn_reader.specs.declared.fault.Reason.TheVariants.{GameTooLong}
use Rattle.pgn_reader.specs.MovedTokens.{moved, AreSameTokens}
use Rattle.pgn_reader.specs.Faults.{IsFault}
use Rattle.pgn_reader.specs.Verdict.{IsOnlyGame, IsGameFault, IsReadResult, place_or}
use Rattle.pgn_reader.specs.Limits.{longest}
use Rattle.pgn_reader.proofs.OneOutcome.{one_outcome}
use Rattle.pgn_reader.proofs.Verdicts.{verdict, long_or_short}

-- the place of a token, or of the end
some_places : (x y : ℕ) → Some x ≡ Some y → x ≡ y
some_places x y e = cc

place_by : (n end : ℕ) (p o : Option Token) → option_map (λ t. t.at) p ≡ option_map (λ t. t.at + n) o → place_or (end + n) p ≡ place_or end o + n
place_by n end None None e = refl
place_by n end (Some s) (Some t) e = some_places s.at (t.at + n) e
place_by n end None (Some t) e = absurd cc
place_by n end (Some s) None e = absurd cc

place_moved : (n end : ℕ) (tokens others : List Token) (i : ℕ) → map (λ t. t.at) others ≡ map (λ t. t.at + n) tokens
    → place_or (end + n) (slice_get others i) ≡ place_or end (slice_get tokens i) + n
place_moved n end tokens others i is =
    place_by n end (slice_get others i) (slice_get tokens i)
    (sym (slice_get-map (λ t. t.at) others i) ∙ ap (λ l. slice_get l i) is ∙ slice_get-map (λ t. t.at + n) tokens i)

module _ (n start : ℕ) (first : Bool) (bytes : List ℕ) (other_first : Bool) (other : List ℕ) (same : AreSameTokens n start first bytes other_first other) where
  fewer : length bytes ≤ longest → length other ≤ longest
  fewer short = subst (λ k. k ≤ longest) (sym same.as_many) short

  fault_moved : (f : GameFault) → IsGameFault start first bytes f → IsGameFault (start + n) other_first other (record { byte = f.byte + n; reason = f.reason })
  fault_moved f (inl long) =
      inl (record {
        long = subst (λ k. longest < k) (sym same.as_many) long.long;
        fault = ap (λ x. record { byte = x.byte + n; reason = x.reason }) long.fault
            ∙ ap (λ b. record { byte = b; reason = GameTooLong }) (let e : start + longest + n ≡ start + n + longest = omega arith in e);
      })
  fault_moved f (inr fault) =
      let ends : start + length bytes + n ≡ start + n + length other = let e = same.as_many in omega (arith, e) in
      inr (record {
        short = fewer fault.short;
        index = fault.index;
        fault = subst (λ ws. IsFault ws fault.index f.reason) (sym same.words) fault.fault;
        byte = ap (λ b. b + n) fault.byte
            ∙ sym (place_moved n (start + length bytes) (tokens_of start first bytes) (tokens_of (start + n) other_first other) fault.index same.places)
            ∙ ap (λ e. place_or e (slice_get (tokens_of (start + n) other_first other) fault.index)) ends;
      })

  outcome_moved : (r : Result Game GameFault) → IsReadResult start first bytes r → IsReadResult (start + n) other_first other (moved n r)
  outcome_moved (Ok game) (short, only) = (fewer short, subst (λ ws. IsOnlyGame ws game) (sym same.words) only)
  outcome_moved (Err f) fault = fault_moved f fault

-- outcomes that are moved as far are the same ones
fault_is : (a b : GameFault) → ◌≡◌ {A = Result Game GameFault} (Err a) (Err b) → a ≡ b
fault_is a b e = cc

same_fault_by : (n : ℕ) (a b : GameFault) → a.byte + n ≡ b.byte + n → a.reason ≡ b.reason → a ≡ b
same_fault_by n a b bytes reasons = ap₂ (λ x y. record { byte = x; reason = y }) (let e : a.byte ≡ b.byte = omega (arith, bytes) in e) reasons

moved_once : (n : ℕ) (a b : Result Game GameFault) → moved n a ≡ moved n b → a ≡ b
moved_once n (Ok g) (Ok h) e = e
moved_once n (Ok g) (Err f) e = absurd cc
moved_once n (Err f) (Ok g) e = absurd cc
moved_once n (Err f) (Err g) e =
    let same = fault_is (record { byte = f.byte + n; reason = f.reason }) (record { byte = g.byte + n; reason = g.reason }) e in
    ap (λ x. Err x) (same_fault_by n f g (ap (λ x. x.byte) same) (ap (λ x. x.reason) same))

pub decided : (n start : ℕ) (first other_first : Bool) (bytes other : List ℕ) → AreSameTokens n start first bytes other_first other
    → (r : Result Game GameFault) → IsReadResult start first bytes r ↔ IsReadResult (start + n) other_first other (moved n r)
decided n start first other_first bytes other same r = (
  outcome_moved n start first bytes other_first other same r,
  λ there.
      let found = verdict start first bytes in
      let one = one_outcome (start + n) other_first other (moved n found.0) (moved n r) (outcome_moved n start first bytes other_first other same found.0 found.1) there in
      subst (IsReadResult start first bytes) (moved_once n found.0 r one) found.1,
)

-- the first bytes of a game that is too long are too long
too_long : (start : ℕ) (first : Bool) (a b : List ℕ) → longest < length a → longest < length b → (r : Result Game GameFault) → IsReadResult start first a r → IsReadResult start first b r
too_long start first a b long longer (Ok game) (short, only) = absurd (let e : length a ≤ longest = short in omega (arith, long, e))
too_long start first a b long longer (Err f) (inl fault) = inl (record { long = longer; fault = fault.fault })
too_long start first a b long longer (Err f) (inr fault) = absurd (let e : length a ≤ longest = fault.short in omega (arith, long, e))

some_bytes : (start : ℕ) (first : Bool) (bytes : List ℕ) (r : Result Game GameFault) → (longest < length bytes) ⊎ (length bytes ≤ longest)
    → IsReadResult start first (take (longest + 1) bytes) r ↔ IsReadResult start first bytes r
some_bytes start first bytes r (inl long) =
    let taken : length (take (longest + 1) bytes) ≡ longest + 1 = length-take-le (longest + 1) bytes (omega (arith, long)) in
    let more : longest < length (take (longest + 1) bytes) = omega (arith, taken) in
    (too_long start first (take (longest + 1) bytes) bytes more long r, too_long start first bytes (take (longest + 1) bytes) long more r)
some_bytes start first bytes r (inr short) =
    let all : take (longest + 1) bytes ≡ bytes = take_all (longest + 1) bytes (omega (arith, short)) in
    (subst (λ l. IsReadResult start first l r) all, subst (λ l. IsReadResult start first l r) (sym all))

pub first_bytes : (start : ℕ) (first : Bool) (bytes : List ℕ) (r : Result Game GameFault) → IsReadResult start first (take (longest + 1) bytes) r ↔ IsReadResult start first bytes r
first_bytes start first bytes r = some_bytes start first bytes r (long_or_short longest (length bytes))
