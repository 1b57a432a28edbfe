-- The largest number of bytes of a generated archive.
use Rattle.std.proofs.Common.{◌≡◌, ℕ, zero, suc, ◌+◌, ◌*◌, ◌<◌, ◌≤◌, Bool, true, false, List, [], ◌∷◌, ◌++◌, length, Option, Some, None, refl, sym, ap, subst, arith, add-one}
use Rattle.std.specs.Prelude.{◌==◌, ◌||◌, nat_le, if◌then◌else◌, codes, decimal}
use Rattle.std.specs.List.{AllByRecursion, flat_map}
use Rattle.std.proofs.lemmas.Fmt.{length-decimal-le}
use Rattle.std.proofs.lemmas.List.{length-append}
use Rattle.std.proofs.lemmas.List.Concat.{flat_map-cons}
use Rattle.cq_position.specs.declared.games.GameResult.{GameResult}
use Rattle.cq_position.specs.declared.games.GameResult.TheVariants.{White as WhiteWon, Black as BlackWon, Draw, Open as Undecided}
use Rattle.cq_position.specs.declared.men.Promotion.{Promotion}
use Rattle.cq_position.specs.declared.men.Promotion.TheVariants.{None as NoPromotion, Q as ToQueen, R as ToRook, B as ToBishop, N as ToKnight}
use Rattle.cq_position.specs.declared.men.Side.{Side}
use Rattle.cq_position.specs.declared.men.Side.TheVariants.{White, Black}
use Rattle.cq_position.specs.declared.moves.Move.{Move}
use Rattle.cq_position.specs.Board.{Board, start_board}
use Rattle.cq_position.specs.Continuations.{Played, none, played}
use Rattle.cq_position.specs.Legal.{after, next_move_number}
use Rattle.cq_position.proofs.Nested.{continuations_back}
use Rattle.cq_moves.specs.LegalMoves.{legal_list}
use Rattle.cq_position.specs.declared.men.Piece.{Piece}
use Rattle.cq_position.specs.declared.men.Piece.TheVariants.{King, Queen, Rook, Bishop, Knight, Pawn}
use Rattle.cq_san.specs.declared.parts.Parts.{Parts}
use Rattle.cq_san.specs.declared.parts.Parts.TheVariants.{Castling, Null, Moved}
use Rattle.cq_san.specs.Writing.{letter, coordinate, promotion_text, capture_sign, parts_text, check_sign, sign_of, san_text, san_parts, is_capture}
use Rattle.pgn_export.specs.Export.{export_text}
use Rattle.pgn_export.specs.Lines.{filled, lines}
use Rattle.pgn_export.specs.Movetext.{number_words, move_words, line_words, variation_words, movetext, is_due}
use Rattle.pgn_tree.specs.Results.{result_text}
use Rattle.pgn_export.specs.TagLines.{escaped, tag_line, written_tags, roster_tag, other_tags}
use Rattle.pgn_export.specs.Words.{with_prefix, with_suffix, in_parens}
use Rattle.cq_maker.specs.Draws.{next, drawn}
use Rattle.cq_maker.specs.Line.{is_over, move_drawn, ply_drawn, has_variation, variation_drawn, after_variation, line}
use Rattle.cq_maker.specs.GeneratedArchive.{generated_line, ending, generated_game, generated_games, generated_archive}
use Rattle.cq_maker.proofs.Drawn.{below, line_over, line_step}

-- the bytes of some words and one more for each
abbrev weight : List (List ℕ) → ℕ
weight [] = 0
weight (w ∷ ws) = 1 + length w + weight ws

weight_append : (us vs : List (List ℕ)) → weight (us ++ vs) ≡ weight us + weight vs
weight_append [] vs = omega arith
weight_append (u ∷ us) vs = let e = weight_append us vs in omega (arith, e)

filled_length : (start : List ℕ) (ws : List (List ℕ)) → length (filled start ws) ≡ length start + 1 + weight ws
unfolding filled
filled_length start [] = let e = length-append start (10 ∷ []) in omega (arith, e)
filled_length start (w ∷ ws) = by_room (filled_length (start ++ (32 ∷ w)) ws) (filled_length w ws) (nat_le (length start + 1 + length w) 79)
  where
    by_room : length (filled (start ++ (32 ∷ w)) ws) ≡ length (start ++ (32 ∷ w)) + 1 + weight ws → length (filled w ws) ≡ length w + 1 + weight ws
        → (b : Bool) → length (if b then filled (start ++ (32 ∷ w)) ws else start ++ (10 ∷ filled w ws)) ≡ length start + 1 + weight (w ∷ ws)
    by_room same next_line true = let d = length-append start (32 ∷ w) in omega (arith, same, d)
    by_room same next_line false = let d = length-append start (10 ∷ filled w ws) in omega (arith, next_line, d)

lines_length : (ws : List (List ℕ)) → length (lines ws) ≤ weight ws
lines_length [] = omega arith
lines_length (w ∷ ws) = let e = filled_length w ws in omega (arith, e)

opened_weight : (mark : List ℕ) (ws : List (List ℕ)) → weight (with_prefix mark ws) ≤ weight ws + length mark
opened_weight mark [] = omega arith
opened_weight mark (w ∷ ws) = let e = length-append mark w in omega (arith, e)

closed_weight : (mark : List ℕ) (ws : List (List ℕ)) → weight (with_suffix mark ws) ≤ weight ws + length mark
closed_weight mark [] = omega arith
closed_weight mark (w ∷ []) = let e = length-append w mark in omega (arith, e)
closed_weight mark (w ∷ v ∷ ws) = let e = closed_weight mark (v ∷ ws) in omega (arith, e)

parens_weight : (ws : List (List ℕ)) → weight (in_parens ws) ≤ weight ws + 2
parens_weight ws =
    let o : weight (with_prefix (codes "(") ws) ≤ weight ws + 1 = opened_weight (codes "(") ws in
    let c : weight (in_parens ws) ≤ weight (with_prefix (codes "(") ws) + 1 = closed_weight (codes ")") (with_prefix (codes "(") ws) in
    omega (arith, o, c)

letter_short : (p : Piece) → length (letter p) ≤ 1
letter_short King = omega arith
letter_short Queen = omega arith
letter_short Rook = omega arith
letter_short Bishop = omega arith
letter_short Knight = omega arith
letter_short Pawn = omega arith

coordinate_short : (first : ℕ) (o : Option ℕ) → length (coordinate first o) ≤ 1
coordinate_short first None = omega arith
coordinate_short first (Some n) = omega arith

capture_short : (b : Bool) → length (capture_sign b) ≤ 1
capture_short true = omega arith
capture_short false = omega arith

promotion_short : (p : Promotion) → length (promotion_text p) ≤ 2
promotion_short NoPromotion = omega arith
promotion_short ToQueen = omega arith
promotion_short ToRook = omega arith
promotion_short ToBishop = omega arith
promotion_short ToKnight = omega arith

check_short : (b : Bool) (moves : List Move) → length (check_sign b moves) ≤ 1
check_short false moves = omega arith
check_short true [] = omega arith
check_short true (m ∷ ms) = omega arith

both_short : (a b : List ℕ) (m n : ℕ) → length a ≤ m → length b ≤ n → length (a ++ b) ≤ m + n
both_short a b m n first second = omega (arith, first, second, length-append a b)

parts_short : (capture : Bool) (x : Parts) → length (parts_text capture x) ≤ 8
parts_short capture (Castling true) = omega arith
parts_short capture (Castling false) = omega arith
parts_short capture Null = omega arith
parts_short capture (Moved m) =
    both_short _ _ 6 2 (both_short _ _ 5 1 (both_short _ _ 4 1 (both_short _ _ 3 1 (both_short _ _ 2 1 (both_short _ _ 1 1 (letter_short m.piece) (coordinate_short 97 m.file))
    (coordinate_short 49 m.rank)) (capture_short capture)) (omega arith)) (omega arith)) (promotion_short m.promotion)

sign_short : (q : Board) → length (sign_of q) ≤ 1
sign_short q = check_short _ (legal_list q)

-- a move is written in at most nine bytes
san_short : (p : Board) (m : Move) → length (san_text p m) ≤ 9
unfolding san_text
san_short p m = by_null m.null
  where
    by_null : (b : Bool) → length (if b then codes "--" else parts_text (is_capture p m) (san_parts p m) ++ sign_of (after p m)) ≤ 9
    by_null true = omega arith
    by_null false =
        let q = after p m in
        let e = length-append (parts_text (is_capture p m) (san_parts p m)) (sign_of q) in
        let a = parts_short (is_capture p m) (san_parts p m) in
        let b = sign_short q in
        omega (arith, e, a, b)

number_short : (s : Side) (due : Bool) (n : ℕ) → n < 100 → weight (number_words s due n) ≤ 6
number_short White due n low =
    let d = length-decimal-le 2 n (omega arith) (omega (arith, low)) (omega (arith, low)) in
    let e = length-append (decimal n) (codes ".") in omega (arith, d, e)
number_short Black true n low =
    let d = length-decimal-le 2 n (omega arith) (omega (arith, low)) (omega (arith, low)) in
    let e = length-append (decimal n) (codes "...") in omega (arith, d, e)
number_short Black false n low = omega arith

abbrev bare : Move → Board → Played
bare m q = record { move = m; position = q; nags = []; comments = [] }

move_short : (p q : Board) (due : Bool) (m : Move) → p.number < 100 → weight (move_words p due (bare m q)) ≤ 16
move_short p q due m low =
    let e = weight_append (number_words p.side due p.number) (san_text p m ∷ []) in
    let a = number_short p.side due p.number low in
    let b = san_short p m in
    omega (arith, e, a, b)

raised_little : (s : Side) (n : ℕ) → next_move_number s n ≤ n + 1
raised_little White n = omega arith
raised_little Black n = omega arith

number_rises : (p : Board) (m : Move) → (after p m).number ≤ p.number + 1
unfolding after
number_rises p m = raised_little p.side p.number

variation_short : (p : Board) (x : ℕ) → p.number < 100 → (b : Bool) → has_variation x ≡ b → weight (variation_words p (variation_drawn p x)) ≤ 18
unfolding variation_drawn ply_drawn variation_words line_words
variation_short p x low true is =
    let m = move_drawn p (next x) in
    let q = after p m in
    let ws : List (List ℕ) = move_words p true (bare m q) ++ [] in
    let a = move_short p q true m low in
    let b = weight_append (move_words p true (bare m q)) [] in
    let c = parens_weight ws in
    let d = weight_append (in_parens ws) [] in
    subst (λ b. weight (variation_words p (if b then played (ply_drawn p (next x)) none none else none)) ≤ 18) (sym is) (omega (arith, a, b, c, d))
variation_short p x low false is =
    subst (λ b. weight (variation_words p (if b then played (ply_drawn p (next x)) none none else none)) ≤ 18) (sym is) (omega arith)

-- a line of n plies
line_short : (n : ℕ) (p : Board) (x : ℕ) (due : Bool) → p.number + n < 100 → weight (line_words p due (line n p x).moves) ≤ 34 * n
unfolding line line_words ply_drawn
line_short zero p x due low = omega arith
line_short (suc n) p x due low =
    let up = number_rises p (move_drawn p x) in
    by_end (λ d. line_short n (after p (move_drawn p x)) (after_variation (next x)) d (omega (arith, low, up))) (is_over p) refl
  where
    by_end : ((d : Bool) → weight (line_words (after p (move_drawn p x)) d (line n (after p (move_drawn p x)) (after_variation (next x))).moves) ≤ 34 * n)
        → (b : Bool) → is_over p ≡ b → weight (line_words p due (line (suc n) p x).moves) ≤ 34 * suc n
    by_end rest true over = subst (λ l. weight (line_words p due l.moves) ≤ 34 * suc n) (sym (line_over (suc n) p x over)) (omega arith)
    by_end rest false over =
        let m = move_drawn p x in
        let q = after p m in
        let more = line n q (after_variation (next x)) in
        let beside = variation_drawn p (next x) in
        let a = move_short p q due m (omega (arith, low)) in
        let b = variation_short p (next x) (omega (arith, low)) (has_variation (next x)) refl in
        let c = rest (is_due (bare m q) beside) in
        let d = weight_append (move_words p due (bare m q)) (variation_words p beside ++ line_words q (is_due (bare m q) beside) more.moves) in
        let e = weight_append (variation_words p beside) (line_words q (is_due (bare m q) beside) more.moves) in
        subst (λ l. weight (line_words p due l.moves) ≤ 34 * suc n) (sym (line_step (suc n) n p x over (sym (add-one n)))) (omega (arith, a, b, c, d, e))

-- the largest number of bytes of tag lines, as each byte of a value may have a backslash before it
abbrev tag_weight : List (List ℕ × List ℕ) → ℕ
tag_weight [] = 0
tag_weight (t ∷ ts) = 6 + length t.0 + (length t.1 + length t.1) + tag_weight ts

escaped_short : (text : List ℕ) → length (escaped text) ≤ length text + length text
escaped_short [] = omega arith
escaped_short (b ∷ bs) = by_sign (escaped_short bs) (b == 34 || b == 92)
  where
    by_sign : length (escaped bs) ≤ length bs + length bs → (s : Bool) → length ((if s then 92 ∷ b ∷ [] else b ∷ []) ++ escaped bs) ≤ length (b ∷ bs) + length (b ∷ bs)
    by_sign rest true = omega (arith, rest)
    by_sign rest false = omega (arith, rest)

tag_short : (t : List ℕ × List ℕ) → length (tag_line t) ≤ 6 + length t.0 + (length t.1 + length t.1)
unfolding tag_line
tag_short t =
    let s = escaped_short t.1 in
    let a = length-append (codes "[" ++ t.0 ++ codes " \"" ++ escaped t.1) (codes "\"]\n") in
    let b = length-append (codes "[" ++ t.0 ++ codes " \"") (escaped t.1) in
    let c = length-append (codes "[" ++ t.0) (codes " \"") in
    let d = length-append (codes "[") t.0 in
    omega (arith, s, a, b, c, d)

tags_short : (ts : List (List ℕ × List ℕ)) → length (flat_map tag_line ts) ≤ tag_weight ts
tags_short [] = omega arith
tags_short (t ∷ ts) =
    let a = tag_short t in
    let b = tags_short ts in
    let c = length-append (tag_line t) (flat_map tag_line ts) in
    let d : length (flat_map tag_line (t ∷ ts)) ≡ length (tag_line t ++ flat_map tag_line ts) = ap length (flat_map-cons tag_line t ts) in
    omega (arith, a, b, c, d)

-- the tags of a made game, as they are written
abbrev pub written_of : ℕ → GameResult → List (List ℕ × List ℕ)
written_of number r =
    (codes "Event", codes "Selfrun") ∷ (codes "Site", codes "?") ∷ (codes "Date", codes "????.??.??") ∷ (codes "Round", decimal number)
    ∷ (codes "White", codes "?") ∷ (codes "Black", codes "?") ∷ (codes "Result", result_text r) ∷ []

pub written_is : (number x : ℕ) → written_tags (generated_game number (generated_line x)) ≡ written_of number (ending (generated_line x).last)
unfolding generated_game roster_tag other_tags
written_is number x = refl

result_short : (r : GameResult) → length (result_text r) ≤ 7
result_short WhiteWon = omega arith
result_short BlackWon = omega arith
result_short Draw = omega arith
result_short Undecided = omega arith

weight_written : (number : ℕ) (r : GameResult) → tag_weight (written_of number r) ≡ 116 + (length (decimal number) + length (decimal number)) + (length (result_text r) + length (result_text r))
weight_written number r = omega arith

tags_of_made : (number x : ℕ) → number ≤ 100000 → length (flat_map tag_line (written_tags (generated_game number (generated_line x)))) ≤ 142
tags_of_made number x few =
    let r = ending (generated_line x).last in
    let a = tags_short (written_of number r) in
    let b = weight_written number r in
    let c = result_short r in
    let d = length-decimal-le 6 number (omega arith) (omega (arith, few)) (omega (arith, few)) in
    subst (λ ts. length (flat_map tag_line ts) ≤ 142) (sym (written_is number x)) (omega (arith, a, b, c, d))

pub movetext_is : (number x : ℕ) → movetext (generated_game number (generated_line x)) ≡ line_words start_board true (generated_line x).moves ++ (result_text (ending (generated_line x).last) ∷ [])
unfolding generated_game
movetext_is number x =
    ap (λ c. line_words start_board true c ++ (result_text (ending (generated_line x).last) ∷ [])) (continuations_back (generated_line x).moves)

line_made_short : (x : ℕ) → weight (line_words start_board true (generated_line x).moves) ≤ 2686
unfolding generated_line
line_made_short x =
    let n = drawn x 60 in
    let low = below x 60 (omega arith) in
    let a = line_short (20 + n) start_board (next x) true (omega (arith, low)) in
    omega (arith, a, low)

movetext_short : (number x : ℕ) → weight (movetext (generated_game number (generated_line x))) ≤ 2694
movetext_short number x =
    let r = ending (generated_line x).last in
    let a = line_made_short x in
    let b = weight_append (line_words start_board true (generated_line x).moves) (result_text r ∷ []) in
    let c = result_short r in
    subst (λ ws. weight ws ≤ 2694) (sym (movetext_is number x)) (omega (arith, a, b, c))

pub game_short : (number x : ℕ) → number ≤ 100000 → length (export_text (generated_game number (generated_line x))) ≤ 4096
game_short number x few =
    let g = generated_game number (generated_line x) in
    let a = tags_of_made number x few in
    let b = movetext_short number x in
    let c = lines_length (movetext g) in
    let d = length-append (flat_map tag_line (written_tags g) ++ codes "\n" ++ lines (movetext g)) (codes "\n") in
    let e = length-append (flat_map tag_line (written_tags g) ++ codes "\n") (lines (movetext g)) in
    let f = length-append (flat_map tag_line (written_tags g)) (codes "\n") in
    omega (arith, a, b, c, d, e, f)

games_short : (number games x : ℕ) → number + games ≤ 100001 → length (flat_map export_text (generated_games number games x)) ≤ 4096 * games
unfolding generated_games
games_short number zero x few = omega arith
games_short number (suc games) x few =
    let g = generated_game number (generated_line x) in
    let more = generated_games (number + 1) games (generated_line x).state in
    let a = game_short number x (omega (arith, few)) in
    let b = games_short (number + 1) games (generated_line x).state (omega (arith, few)) in
    let c = length-append (export_text g) (flat_map export_text more) in
    let d : length (flat_map export_text (g ∷ more)) ≡ length (export_text g ++ flat_map export_text more) = ap length (flat_map-cons export_text g more) in
    omega (arith, a, b, c, d)

each_from : (number games x : ℕ) → number + games ≤ 100001 → AllByRecursion (λ g. length (export_text g) ≤ 4096) (generated_games number games x)
unfolding generated_games
each_from number zero x few = tt
each_from number (suc games) x few = (game_short number x (omega (arith, few)), each_from (number + 1) games (generated_line x).state (omega (arith, few)))

-- each game of a made archive has at most 4,096 bytes
pub each_short : (seed games : ℕ) → games ≤ 100000 → AllByRecursion (λ g. length (export_text g) ≤ 4096) (generated_games 1 games seed)
each_short seed games few = each_from 1 games seed (omega (arith, few))

-- a made archive has at most 4,096 bytes a game
pub made_short : (seed games : ℕ) → games ≤ 100000 → length (generated_archive seed games) ≤ 4096 * games
unfolding generated_archive
made_short seed games few = games_short 1 games seed (omega (arith, few))
