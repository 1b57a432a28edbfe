-- Each move has one row, and the root another.
use Rattle.std.proofs.Common.{◌≡◌, ℕ, ◌+◌, List, [], ◌∷◌, ◌++◌, length, Option, Some, None, Result, Ok, Err, Bool, true, false, refl, ap, ◌∙◌, arith, length-append}
use Rattle.std.specs.Prelude.{nat_lt}
use Rattle.cq_position.specs.declared.moves.Move.{Move}
use Rattle.cq_position.specs.declared.fen.FenFault.{FenFault}
use Rattle.cq_position.specs.declared.games.GameResult.{GameResult}
use Rattle.cq_position.specs.Board.{Board}
use Rattle.cq_san.specs.declared.fault.SanFault.{SanFault}
use Rattle.cq_san.specs.San.{san}
use Rattle.pgn_lexer.specs.declared.token.TokenKind.{TokenKind}
use Rattle.pgn_lexer.specs.declared.token.TokenKind.TheVariants.{Open, Close, Text, Symbol}
use Rattle.pgn_reader.specs.Words.{Word, Sense, plays, annotates, remarks, ends, opens, closes, means_nothing, out_of_place, sense}
use Rattle.cq_position.specs.Games.{with_tag}
use Rattle.pgn_reader.specs.Tags.{Tags, start_of, value_of}
use Rattle.pgn_reader.specs.Line.{position_after}
use Rattle.pgn_reader.specs.Internal.Frame.{Frame, last_row_by, last_row, whole, advance, with_glyph, with_remark, with_variation}
use Rattle.pgn_reader.specs.Internal.Machine.{Head, State, opened, named, valued, at, ended, stuck, on_name, on_start, on_value, on_closing, on_move, on_marker, on_opening, on_end, on_bracket, on_sense, feed, run, first}

-- the number of rows of the lines that are open
abbrev pub rows_in : List Frame → ℕ
rows_in [] = 0
rows_in (g ∷ k) = length (whole g) + rows_in k

abbrev pub Counts : State → Type 0
Counts (at h f k) = length (whole f) + rows_in k ≡ h.moves + 1
Counts (ended h f result) = length (whole f) ≡ h.moves + 1
Counts _ = Unit {0}

last_length : (o : Option Move) (f g : Frame) → length (last_row_by o f) ≡ length (last_row_by o g)
last_length None f g = refl
last_length (Some m) f g = refl

pub whole_length : (f : Frame) → length (whole f) ≡ length f.moves + (length (last_row f) + (length f.here + length f.earlier))
whole_length f =
    length-append f.moves (last_row f ++ (f.here ++ f.earlier))
    ∙ ap (λ n. length f.moves + n) (length-append (last_row f) (f.here ++ f.earlier) ∙ ap (λ n. length (last_row f) + n) (length-append f.here f.earlier))

advance_length : (f : Frame) (m : Move) (q : Board) → length (whole (advance f m q)) ≡ length (whole f) + 1
advance_length f m q =
    let a = whole_length f in
    let b = whole_length (advance f m q) in
    let c = length-append f.moves (last_row f) in
    let d = length-append f.here f.earlier in
    omega (arith, a, b, c, d)

variation_length : (g f : Frame) → length (whole (with_variation g f)) ≡ length (whole g) + length (whole f)
variation_length g f =
    let a = whole_length g in
    let b = whole_length (with_variation g f) in
    let c = length-append g.here (whole f) in
    let d = last_length g.last (with_variation g f) g in
    omega (arith, a, b, c, d)

noted_length : (f g : Frame) → g.moves ≡ f.moves → g.last ≡ f.last → g.here ≡ f.here → g.earlier ≡ f.earlier → length (whole g) ≡ length (whole f)
noted_length f g moves last here earlier =
    let a = whole_length f in
    let b = whole_length g in
    let c = ap length moves in
    let d : length (last_row g) ≡ length (last_row f) = ap (λ o. length (last_row_by o g)) last ∙ last_length f.last g f in
    let e = ap length here in
    let i = ap length earlier in
    omega (arith, a, b, c, d, e, i)

move_counts : (h : Head) (f : Frame) (k : List Frame) → Counts (at h f k) → (r : Result Move SanFault) → Counts (on_move h f k r)
move_counts h f k counts (Err fault) = tt
move_counts h f k counts (Ok m) = let a = advance_length f m (position_after f.reached m) in omega (arith, a, counts)

marker_counts : (h : Head) (f : Frame) (k : List Frame) (r : GameResult) → Counts (at h f k) → Counts (on_marker h f k r)
marker_counts h f [] r counts = omega (arith, counts)
marker_counts h f (g ∷ k) r counts = counts

opening_counts : (h : Head) (f : Frame) (k : List Frame) (deep : Bool) (o : Option Board) → Counts (at h f k) → Counts (on_opening h f k deep o)
opening_counts h f k deep None counts = tt
opening_counts h f k false (Some p) counts = tt
opening_counts h f k true (Some p) counts = let e : length (whole f) + rows_in k ≡ h.moves + 1 = counts in omega (arith, e)

end_counts : (h : Head) (f : Frame) (k : List Frame) (o : Option Board) → Counts (at h f k) → Counts (on_end h f k o)
end_counts h f k None counts = tt
end_counts h f [] (Some p) counts = tt
end_counts h f (g ∷ k) (Some p) counts = let a = variation_length g f in let e : length (whole f) + (length (whole g) + rows_in k) ≡ h.moves + 1 = counts in omega (arith, a, e)

bracket_counts : (may : Bool) (tags : Tags) (kind : TokenKind) → Counts (on_bracket may tags kind)
bracket_counts true tags Open = tt
bracket_counts _ tags _ = tt

name_counts : (tags : Tags) (kind : TokenKind) (text : List ℕ) → Counts (on_name tags kind text)
name_counts tags Symbol text = tt
name_counts tags _ text = tt

start_counts : (tags : Tags) (r : Result Board FenFault) → Counts (on_start tags r)
start_counts tags (Ok p) = tt
start_counts tags (Err e) = tt

value_counts : (tags : Tags) (kind : TokenKind) → Counts (on_value tags kind)
value_counts tags Text = start_counts tags (start_of tags)
value_counts tags _ = tt

closing_counts : (tags : Tags) (start : Board) (kind : TokenKind) → Counts (on_closing tags start kind)
closing_counts tags start Close = refl
closing_counts tags start _ = tt

sense_counts : (h : Head) (f : Frame) (k : List Frame) (kind : TokenKind) (s : Sense) → Counts (at h f k) → Counts (on_sense h f k kind s)
sense_counts h f k kind (plays m) counts = move_counts h f k counts (san f.reached m)
sense_counts h f k kind (annotates n) counts = ap (λ x. x + rows_in k) (noted_length f (with_glyph f n) refl refl refl refl) ∙ counts
sense_counts h f k kind (remarks c) counts = ap (λ x. x + rows_in k) (noted_length f (with_remark f c) refl refl refl refl) ∙ counts
sense_counts h f k kind (ends r) counts = marker_counts h f k r counts
sense_counts h f k kind opens counts = opening_counts h f k (nat_lt (length k) 100) f.before counts
sense_counts h f k kind closes counts = end_counts h f k f.before counts
sense_counts h f k kind means_nothing counts = counts
sense_counts h f k kind (out_of_place r) counts = bracket_counts h.heading h.tags kind

step_counts : (s : State) (w : Word) → Counts s → Counts (feed s w)
unfolding feed
step_counts (opened tags) w counts = name_counts tags w.kind w.text
step_counts (named tags name) w counts = value_counts (with_tag tags name (value_of w.text)) w.kind
step_counts (valued tags start) w counts = closing_counts tags start w.kind
step_counts (at h f k) w counts = sense_counts h f k w.kind (sense w) counts
step_counts (ended h f r) w counts = tt
step_counts stuck w counts = tt

pub run_counts : (ts : List Word) (s : State) → Counts s → Counts (run s ts)
run_counts [] s counts = counts
run_counts (w ∷ ts) s counts = run_counts ts (feed s w) (step_counts s w counts)

pub first_counts : Counts first
first_counts = refl
