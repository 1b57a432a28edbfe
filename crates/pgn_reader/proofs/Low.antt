-- The levels of the lines that are open are no more than the moves.
use Rattle.std.proofs.Common.{ℕ, ◌+◌, List, [], ◌∷◌, length, Option, Some, None, Result, Ok, Err, Bool, true, false, arith}
use Rattle.std.specs.Prelude.{nat_lt}
use Rattle.cq_position.specs.declared.moves.Move.{Move}
use Rattle.cq_position.specs.declared.fen.FenFault.{FenFault}
use Rattle.cq_position.specs.declared.games.GameResult.{GameResult}
use Rattle.cq_position.specs.Board.{Board}
use Rattle.cq_position.specs.Games.{with_tag}
use Rattle.cq_san.specs.declared.fault.SanFault.{SanFault}
use Rattle.cq_san.specs.San.{san}
use Rattle.pgn_lexer.specs.declared.token.TokenKind.{TokenKind}
use Rattle.pgn_lexer.specs.declared.token.TokenKind.TheVariants.{Open, Close, Text, Symbol}
use Rattle.pgn_reader.specs.Words.{Word, Sense, plays, annotates, remarks, ends, opens, closes, means_nothing, out_of_place, sense}
use Rattle.pgn_reader.specs.Tags.{Tags, start_of, value_of}
use Rattle.pgn_reader.specs.Internal.Frame.{Frame}
use Rattle.pgn_reader.specs.Internal.Machine.{Head, State, opened, named, valued, at, ended, stuck, on_name, on_start, on_value, on_closing, on_move, on_marker, on_opening, on_end, on_bracket, on_sense, feed, run, first}
use Rattle.pgn_reader.specs.Internal.ReaderView.{AreLowLines, IsLow}

higher : (n : ℕ) (k : List Frame) → AreLowLines n k → AreLowLines (n + 1) k
higher n [] low = tt
higher n (f ∷ k) low = (record { level = let e = low.0.level in omega (arith, e); next = let e = low.0.next in omega (arith, e) }, higher n k low.1)

move_low : (h : Head) (f : Frame) (k : List Frame) → AreLowLines h.moves (f ∷ k) → (r : Result Move SanFault) → IsLow (on_move h f k r)
move_low h f k low (Err fault) = tt
move_low h f k low (Ok m) = (record { level = let e = low.0.next in omega (arith, e); next = let e = low.0.next in omega (arith, e) }, higher h.moves k low.1)

marker_low : (h : Head) (f : Frame) (k : List Frame) (r : GameResult) → AreLowLines h.moves (f ∷ k) → IsLow (on_marker h f k r)
marker_low h f [] r low = tt
marker_low h f (g ∷ k) r low = low

opening_low : (h : Head) (f : Frame) (k : List Frame) (deep : Bool) (o : Option Board) → AreLowLines h.moves (f ∷ k) → IsLow (on_opening h f k deep o)
opening_low h f k deep None low = tt
opening_low h f k false (Some p) low = tt
opening_low h f k true (Some p) low = (record { level = omega arith; next = low.0.level }, low)

end_low : (h : Head) (f : Frame) (k : List Frame) (o : Option Board) → AreLowLines h.moves (f ∷ k) → IsLow (on_end h f k o)
end_low h f k None low = tt
end_low h f [] (Some p) low = tt
end_low h f (g ∷ k) (Some p) low = (record { level = low.1.0.level; next = low.1.0.next }, low.1.1)

bracket_low : (may : Bool) (tags : Tags) (kind : TokenKind) → IsLow (on_bracket may tags kind)
bracket_low true tags Open = tt
bracket_low _ tags _ = tt

name_low : (tags : Tags) (kind : TokenKind) (text : List ℕ) → IsLow (on_name tags kind text)
name_low tags Symbol text = tt
name_low tags _ text = tt

start_low : (tags : Tags) (r : Result Board FenFault) → IsLow (on_start tags r)
start_low tags (Ok p) = tt
start_low tags (Err e) = tt

value_low : (tags : Tags) (kind : TokenKind) → IsLow (on_value tags kind)
value_low tags Text = start_low tags (start_of tags)
value_low tags _ = tt

closing_low : (tags : Tags) (start : Board) (kind : TokenKind) → IsLow (on_closing tags start kind)
closing_low tags start Close = (record { level = omega arith; next = omega arith }, tt)
closing_low tags start _ = tt

sense_low : (h : Head) (f : Frame) (k : List Frame) (kind : TokenKind) (s : Sense) → AreLowLines h.moves (f ∷ k) → IsLow (on_sense h f k kind s)
sense_low h f k kind (plays m) low = move_low h f k low (san f.reached m)
sense_low h f k kind (annotates n) low = (record { level = low.0.level; next = low.0.next }, low.1)
sense_low h f k kind (remarks c) low = (record { level = low.0.level; next = low.0.next }, low.1)
sense_low h f k kind (ends r) low = marker_low h f k r low
sense_low h f k kind opens low = opening_low h f k (nat_lt (length k) 100) f.before low
sense_low h f k kind closes low = end_low h f k f.before low
sense_low h f k kind means_nothing low = low
sense_low h f k kind (out_of_place r) low = bracket_low h.heading h.tags kind

step_low : (s : State) (w : Word) → IsLow s → IsLow (feed s w)
unfolding feed
step_low (opened tags) w low = name_low tags w.kind w.text
step_low (named tags name) w low = value_low (with_tag tags name (value_of w.text)) w.kind
step_low (valued tags start) w low = closing_low tags start w.kind
step_low (at h f k) w low = sense_low h f k w.kind (sense w) low
step_low (ended h f r) w low = tt
step_low stuck w low = tt

pub run_low : (ts : List Word) (s : State) → IsLow s → IsLow (run s ts)
run_low [] s low = low
run_low (w ∷ ts) s low = run_low ts (feed s w) (step_low s w low)

pub first_low : IsLow first
first_low = (record { level = omega arith; next = omega arith }, tt)
