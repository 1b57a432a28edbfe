-- All bytes are read as a game, or have a fault.
use Rattle.std.proofs.Common.{◌≡◌, ◌≢◌, ℕ, ◌+◌, ◌<◌, ◌≤◌, ◌^◌, ◌⊎◌, inl, inr, List, [], ◌∷◌, ◌++◌, length, length-append, append_assoc, append-nil, take, Option, Some, None, Result, Ok, Err, Bool, true, false, refl, sym, ap, ◌∙◌, subst, arith}
use Rattle.std.specs.Prelude.{nat_lt, if◌then◌else◌, slice_get}
use Rattle.std.proofs.lemmas.Bool.{ltb-true}
use Rattle.std.proofs.Math.Seq.{take-append_seam, take-append-add}
use Rattle.cq_position.specs.declared.moves.Move.{Move}
use Rattle.cq_position.specs.declared.fen.FenFault.{FenFault}
use Rattle.cq_position.specs.declared.games.GameResult.{GameResult}
use Rattle.cq_position.specs.Board.{Board}
use Rattle.cq_position.specs.Games.{Game, with_tag}
use Rattle.cq_san.specs.declared.fault.SanFault.{SanFault}
use Rattle.cq_san.specs.San.{san}
use Rattle.pgn_lexer.specs.declared.token.TokenKind.{TokenKind}
use Rattle.pgn_lexer.specs.declared.token.TokenKind.TheVariants.{Open, Close, Text, Symbol, Nag}
use Rattle.pgn_lexer.specs.Lexemes.{tokens_of}
use Rattle.pgn_reader.specs.declared.fault.GameFault.{GameFault}
use Rattle.pgn_reader.specs.declared.fault.Reason.{Reason}
use Rattle.pgn_reader.specs.declared.fault.Reason.TheVariants.{BadTag, UnclosedVariation, TooDeep, TooManyPositions, GameTooLong}
use Rattle.pgn_reader.specs.Words.{Word, Sense, plays, annotates, remarks, ends, opens, closes, means_nothing, out_of_place, sense, words_of}
use Rattle.pgn_reader.specs.Tags.{Tags, start_of, value_of, result_of_tags}
use Rattle.pgn_reader.specs.ReadingPlace.{fault_at, fault_at_end, name_fault, value_fault, fen_fault, closing_fault, marker_fault, move_fault, variation_fault, end_of_variation_fault, misplaced_fault, movetext_fault}
use Rattle.pgn_reader.specs.Faults.{IsFault}
use Rattle.pgn_reader.specs.Internal.Frame.{Frame, place}
use Rattle.pgn_reader.specs.Internal.Machine.{Head, State, opened, named, valued, at, ended, stuck, on_name, on_start, on_value, on_closing, on_move, on_marker, on_opening, on_end, on_bracket, on_sense, feed, run, first}
use Rattle.pgn_reader.specs.Internal.GameAssembly.{reading_place_of, game_of_frame}
use Rattle.pgn_reader.specs.Internal.ReaderView.{moves_in}
use Rattle.pgn_reader.specs.Verdict.{IsOnlyGame, IsReadResult, place_or}
use Rattle.pgn_reader.proofs.Read.{run_append}
use Rattle.pgn_reader.proofs.Whole.{IsEnd}
use Rattle.pgn_reader.proofs.Answer.{fault_here, fault_of_end, read_iff}

-- a step continues within the limit of positions, or has a reason and is stuck, unless the limit is exceeded
abbrev pub Passes : State → Option Reason → Type 0
Passes next None = (next ≡ stuck → ⊥) × (moves_in next ≤ 65535)
Passes next (Some reason) = reason ≢ TooManyPositions → next ≡ stuck

name_passes : (tags : Tags) (kind : TokenKind) (text : List ℕ) → Passes (on_name tags kind text) (name_fault kind)
name_passes tags Symbol text = (λ e. cc, omega arith)
name_passes tags _ text = λ _. refl

start_passes : (tags : Tags) (r : Result Board FenFault) → Passes (on_start tags r) (fen_fault r)
start_passes tags (Ok p) = (λ e. cc, omega arith)
start_passes tags (Err e) = λ _. refl

value_passes : (tags : Tags) (kind : TokenKind) → Passes (on_value tags kind) (value_fault kind (start_of tags))
value_passes tags Text = start_passes tags (start_of tags)
value_passes tags _ = λ _. refl

closing_passes : (tags : Tags) (start : Board) (kind : TokenKind) → Passes (on_closing tags start kind) (closing_fault kind)
closing_passes tags start Close = (λ e. cc, omega arith)
closing_passes tags start _ = λ _. refl

room_passes : (h : Head) (f : Frame) (k : List Frame) (m : Move) (room : Bool) → nat_lt h.moves 65535 ≡ room
    → Passes (on_move h f k (Ok m)) (if room then None else Some TooManyPositions)
room_passes h f k m true e = let low = ltb-true h.moves 65535 e in (λ x. cc, omega (arith, low))
room_passes h f k m false e = λ other. absurd (other refl)

move_passes : (h : Head) (f : Frame) (k : List Frame) (r : Result Move SanFault) → Passes (on_move h f k r) (move_fault h.moves r)
move_passes h f k (Err fault) = λ _. refl
move_passes h f k (Ok m) = room_passes h f k m (nat_lt h.moves 65535) refl

result_passes : (h : Head) (f : Frame) (k : List Frame) (r : GameResult) → h.moves ≤ 65535 → Passes (on_marker h f k r) None
result_passes h f [] r few = (λ e. cc, few)
result_passes h f (g ∷ k) r few = (λ e. cc, few)

opened_passes : (h : Head) (f : Frame) (k : List Frame) (p : Board) (shallow : Bool) → h.moves ≤ 65535
    → Passes (on_opening h f k shallow (Some p)) (if shallow then None else Some TooDeep)
opened_passes h f k p true few = (λ e. cc, few)
opened_passes h f k p false few = λ _. refl

opening_passes : (h : Head) (f : Frame) (k : List Frame) (o : Option Board) → h.moves ≤ 65535
    → Passes (on_opening h f k (nat_lt (length k) 100) o) (variation_fault (length k) o)
opening_passes h f k None few = λ _. refl
opening_passes h f k (Some p) few = opened_passes h f k p (nat_lt (length k) 100) few

end_passes : (h : Head) (f : Frame) (k : List Frame) (o : Option Board) → h.moves ≤ 65535 → Passes (on_end h f k o) (end_of_variation_fault (length k) o)
end_passes h f [] None few = λ _. refl
end_passes h f (g ∷ k) None few = λ _. refl
end_passes h f [] (Some p) few = λ _. refl
end_passes h f (g ∷ k) (Some p) few = (λ e. cc, few)

bracket_passes : (may : Bool) (tags : Tags) (kind : TokenKind) (reason : Reason) → Passes (on_bracket may tags kind) (misplaced_fault may kind reason)
bracket_passes true tags Open reason = (λ e. cc, omega arith)
bracket_passes _ tags _ reason = λ _. refl

sense_passes : (h : Head) (f : Frame) (k : List Frame) (kind : TokenKind) (s : Sense) → h.moves ≤ 65535
    → Passes (on_sense h f k kind s) (movetext_fault h.heading (length k) h.moves (place f) kind s)
sense_passes h f k kind (plays m) few = move_passes h f k (san f.reached m)
sense_passes h f k kind (annotates n) few = (λ e. cc, few)
sense_passes h f k kind (remarks c) few = (λ e. cc, few)
sense_passes h f k kind (ends r) few = result_passes h f k r few
sense_passes h f k kind opens few = opening_passes h f k f.before few
sense_passes h f k kind closes few = end_passes h f k f.before few
sense_passes h f k kind means_nothing few = (λ e. cc, few)
sense_passes h f k kind (out_of_place reason) few = bracket_passes h.heading h.tags kind reason

marker_passes : (kind : TokenKind) → Passes stuck (marker_fault kind)
marker_passes (Nag n) = λ _. refl
marker_passes _ = λ _. refl

pub step_passes : (s : State) (w : Word) → (s ≡ stuck → ⊥) → moves_in s ≤ 65535 → Passes (feed s w) (fault_at (reading_place_of s) w)
unfolding feed
step_passes (opened tags) w live few = name_passes tags w.kind w.text
step_passes (named tags name) w live few = value_passes (with_tag tags name (value_of w.text)) w.kind
step_passes (valued tags start) w live few = closing_passes tags start w.kind
step_passes (at h f k) w live few = sense_passes h f k w.kind (sense w) few
step_passes (ended h f r) w live few = marker_passes w.kind
step_passes stuck w live few = absurd (live refl)

-- tokens spell one game alone, or have a fault
abbrev HasVerdict : List Word → Type 0
HasVerdict ts = ((game : Game) × IsOnlyGame ts game) ⊎ ((i : ℕ) × (reason : Reason) × IsFault ts i reason)

game_at_end : (ts : List Word) (h : Head) (f : Frame) (result : GameResult) → IsEnd (run first ts) h f result → h.moves ≤ 65535 → HasVerdict ts
game_at_end ts h f result is_end few =
    inl (
      game_of_frame h f result,
      record {
        spells = (read_iff ts h f result is_end few (game_of_frame h f result)).1 refl;
        alone = λ g spells. (read_iff ts h f result is_end few g).0 spells;
      },
    )

fault_in_end : (ts : List Word) (s : State) (reason : Reason) → run first ts ≡ s → (s ≡ stuck → ⊥) → moves_in s ≤ 65535 → fault_at_end (reading_place_of s) ≡ Some reason → HasVerdict ts
fault_in_end ts s reason is live few why = inr (length ts, reason, fault_of_end ts s reason is live why few)

at_end : (ts : List Word) (s : State) → run first ts ≡ s → (s ≡ stuck → ⊥) → moves_in s ≤ 65535 → HasVerdict ts
at_end ts (opened tags) is live few = fault_in_end ts (opened tags) BadTag is live few refl
at_end ts (named tags name) is live few = fault_in_end ts (named tags name) BadTag is live few refl
at_end ts (valued tags start) is live few = fault_in_end ts (valued tags start) BadTag is live few refl
at_end ts (at h f []) is live few = game_at_end ts h f (result_of_tags h.tags) (inl (is, refl)) few
at_end ts (at h f (g ∷ k)) is live few = fault_in_end ts (at h f (g ∷ k)) UnclosedVariation is live few refl
at_end ts (ended h f result) is live few = game_at_end ts h f result (inr is) few
at_end ts stuck is live few = absurd (live refl)

one_more_word : (before : List Word) (w : Word) (after : List Word) → take (length before + 1) (before ++ w ∷ after) ≡ take (length before) (before ++ w ∷ after) ++ w ∷ []
one_more_word before w after = take-append-add before (w ∷ after) 1 ∙ ap (λ l. l ++ w ∷ []) (sym (take-append_seam before (w ∷ after)))

fault_at_word : (before : List Word) (w : Word) (after : List Word) (s : State) (reason : Reason) → run first before ≡ s → (s ≡ stuck → ⊥) → moves_in s ≤ 65535
    → fault_at (reading_place_of s) w ≡ Some reason → Passes (feed s w) (Some reason) → HasVerdict (before ++ w ∷ after)
fault_at_word before w after s reason is live few why dead =
    inr (
      length before,
      reason,
      fault_here (before ++ w ∷ after) (length before) w s reason (ap (run first) (take-append_seam before (w ∷ after)) ∙ is) live
          (let e = length-append before (w ∷ after) in omega (arith, e)) (one_more_word before w after) why dead few,
    )

verdict_by : (w : Word) (after before : List Word) (s : State) → run first before ≡ s → (s ≡ stuck → ⊥) → moves_in s ≤ 65535 → (o : Option Reason) → fault_at (reading_place_of s) w ≡ o
    → (Passes (feed s w) None → HasVerdict (before ++ w ∷ after)) → HasVerdict (before ++ w ∷ after)
verdict_by w after before s is live few (Some reason) why goes_on =
    fault_at_word before w after s reason is live few why (subst (Passes (feed s w)) why (step_passes s w live few))
verdict_by w after before s is live few None why goes_on = goes_on (subst (Passes (feed s w)) why (step_passes s w live few))

verdict_after : (after before : List Word) (s : State) → run first before ≡ s → (s ≡ stuck → ⊥) → moves_in s ≤ 65535 → HasVerdict (before ++ after)
verdict_after [] before s is live few = subst HasVerdict (sym (append-nil before)) (at_end before s is live few)
verdict_after (w ∷ after) before s is live few =
    verdict_by w after before s is live few (fault_at (reading_place_of s) w) refl
    (λ passes. subst HasVerdict (append_assoc before (w ∷ []) after)
    (verdict_after after (before ++ w ∷ []) (feed s w) (run_append first before (w ∷ []) ∙ ap (λ x. feed x w) is) passes.0 passes.1))

verdict_of : (ts : List Word) → HasVerdict ts
verdict_of ts = verdict_after ts [] first refl (λ e. cc) (omega arith)

pub long_or_short : (limit n : ℕ) → (limit < n) ⊎ (n ≤ limit)
long_or_short limit n = grind arith

by_length : (start : ℕ) (first : Bool) (bytes : List ℕ) → (2 ^ 24 < length bytes) ⊎ (length bytes ≤ 2 ^ 24) → HasVerdict (words_of start first bytes)
    → (r : Result Game GameFault) × IsReadResult start first bytes r
by_length start first bytes (inl long) _ =
    (Err (record { byte = start + 2 ^ 24; reason = GameTooLong }), inl (record { long = long; fault = refl }))
by_length start first bytes (inr short) (inl (game, only)) = (Ok game, (short, only))
by_length start first bytes (inr short) (inr (i, reason, fault)) = (
  Err (record { byte = place_or (start + length bytes) (slice_get (tokens_of start first bytes) i); reason = reason }),
  inr (record { short = short; index = i; fault = fault; byte = refl }),
)

pub verdict : (start : ℕ) (first : Bool) (bytes : List ℕ) → (r : Result Game GameFault) × IsReadResult start first bytes r
verdict start first bytes = by_length start first bytes (long_or_short (2 ^ 24) (length bytes)) (verdict_of (words_of start first bytes))
