-- Generated games are read back from their texts.
use Rattle.std.proofs.Common.{◌≡◌, ◌≢◌, ℕ, zero, suc, ◌+◌, ◌^◌, ◌≤◌, Bool, true, false, List, [], ◌∷◌, ◌++◌, length, None, Some, refl, sym, ap, ◌∙◌, subst, arith, true≢false, add-one}
use Rattle.std.specs.Prelude.{◌&&◌, ◌==◌, not, codes, decimal, if◌then◌else◌}
use Rattle.std.specs.List.{AllByRecursion, list_all, flat_map}
use Rattle.std.specs.Char.{is_ascii_alphanumeric, is_ascii_digit}
use Rattle.std.specs.Cmp.Lexicographic.{nat_list_cmp_total}
use Rattle.std.proofs.lemmas.Bool.{eq-eqb}
use Rattle.std.proofs.lemmas.Map.Keys.{sorted_from_all_adjacent}
use Rattle.cq_position.specs.declared.games.GameResult.{GameResult}
use Rattle.cq_position.specs.declared.games.GameResult.TheVariants.{White as WhiteWon, Black as BlackWon, Draw, Open as Undecided}
use Rattle.cq_position.specs.Board.{Board, start_board}
use Rattle.cq_position.specs.Continuations.{none, played, nodes_from}
use Rattle.cq_position.specs.Games.{Game, bare_node}
use Rattle.cq_position.specs.Legal.{after}
use Rattle.cq_position.proofs.Nested.{continuations_back}
use Rattle.pgn_lexer.specs.Bytes.{continues_symbol}
use Rattle.pgn_lexer.specs.Grammar.{Lacks}
use Rattle.pgn_reader.specs.Tags.{start_of}
use Rattle.pgn_reader.specs.Words.{result_of_text}
use Rattle.pgn_export.specs.Export.{export_text}
use Rattle.pgn_export.specs.Lines.{lines}
use Rattle.pgn_export.specs.Movetext.{movetext}
use Rattle.pgn_tree.specs.Results.{result_text}
use Rattle.pgn_export.specs.NormalGames.{levels, levels_beside, IsWritable, IsNormal}
use Rattle.pgn_export.specs.TagLines.{tag_line, written_tags, roster_tag, other_tags}
use Rattle.pgn_export.proofs.Symbols.{number_digits}
use Rattle.cq_maker.specs.Draws.{next, drawn}
use Rattle.cq_maker.specs.Line.{is_over, move_drawn, ply_drawn, has_variation, variation_drawn, after_variation, line}
use Rattle.cq_maker.specs.GeneratedArchive.{as_read, ending, generated_line, generated_game}
use Rattle.cq_maker.proofs.Drawn.{line_over, line_step}
use Rattle.cq_maker.proofs.Short.{written_of, written_is, game_short}

-- tests of bytes, one by one
first_of : (s t : Bool) → (s && t) ≡ true → s ≡ true
first_of true t e = refl
first_of false t e = e

second_of : (s t : Bool) → (s && t) ≡ true → t ≡ true
second_of true t e = e
second_of false t e = absurd (true≢false (sym e))

goes_by : (bs : List ℕ) → list_all continues_symbol bs ≡ true → AllByRecursion (λ c. continues_symbol c ≡ true) bs
goes_by [] e = tt
goes_by (b ∷ bs) e = (first_of (continues_symbol b) (list_all continues_symbol bs) e, goes_by bs (second_of (continues_symbol b) (list_all continues_symbol bs) e))

other_byte : (b : ℕ) → not (b == 10) ≡ true → b ≢ 10
other_byte b e is = true≢false (sym e ∙ ap not (eq-eqb b 10 is))

lacks_by : (bs : List ℕ) → list_all (λ b. not (b == 10)) bs ≡ true → Lacks 10 bs
lacks_by [] e = tt
lacks_by (b ∷ bs) e = (other_byte b (first_of (not (b == 10)) (list_all (λ b. not (b == 10)) bs) e), lacks_by bs (second_of (not (b == 10)) (list_all (λ b. not (b == 10)) bs) e))

no_end : (b : ℕ) → is_ascii_digit b ≡ true → b ≢ 10
no_end b digit is = true≢false (sym (subst (λ c. is_ascii_digit c ≡ true) is digit))

digits_lack : (bs : List ℕ) → AllByRecursion (λ d. is_ascii_digit d ≡ true) bs → Lacks 10 bs
digits_lack [] all = tt
digits_lack (b ∷ bs) all = (no_end b all.0, digits_lack bs all.1)

result_lacks : (r : GameResult) → Lacks 10 (result_text r)
result_lacks WhiteWon = lacks_by (codes "1-0") refl
result_lacks BlackWon = lacks_by (codes "0-1") refl
result_lacks Draw = lacks_by (codes "1/2-1/2") refl
result_lacks Undecided = lacks_by (codes "*") refl

writable_by : (b : ℕ) (bs value : List ℕ) → is_ascii_alphanumeric b ≡ true → list_all continues_symbol bs ≡ true → result_of_text (b ∷ bs) ≡ None → Lacks 10 value → IsWritable (b ∷ bs, value)
writable_by b bs value begins goes no_marker lacks = record { name = (b, bs, refl, begins, goes_by bs goes); no_marker = no_marker; value = lacks }

all_writable : (number : ℕ) (r : GameResult) → number ≤ 100000 → AllByRecursion IsWritable (written_of number r)
unfolding result_of_text
all_writable number r few = (
  writable_by 69 (codes "vent") (codes "Selfrun") refl refl refl (lacks_by (codes "Selfrun") refl),
  (
    writable_by 83 (codes "ite") (codes "?") refl refl refl (lacks_by (codes "?") refl),
    (
      writable_by 68 (codes "ate") (codes "????.??.??") refl refl refl (lacks_by (codes "????.??.??") refl),
      (
        writable_by 82 (codes "ound") (decimal number) refl refl refl (digits_lack (decimal number) (number_digits number (omega (arith, few))).all),
        (
          writable_by 87 (codes "hite") (codes "?") refl refl refl (lacks_by (codes "?") refl),
          (
            writable_by 66 (codes "lack") (codes "?") refl refl refl (lacks_by (codes "?") refl),
            (
              writable_by 82 (codes "esult") (result_text r) refl refl refl (result_lacks r),
              tt,
            ),
          ),
        ),
      ),
    ),
  ),
)

-- variations are on one level
variation_levels : (p : Board) (x : ℕ) → (b : Bool) → has_variation x ≡ b → levels_beside (variation_drawn p x) ≤ 1
unfolding variation_drawn levels
variation_levels p x true is = subst (λ b. levels_beside (if b then played (ply_drawn p (next x)) none none else none) ≤ 1) (sym is) (omega arith)
variation_levels p x false is = subst (λ b. levels_beside (if b then played (ply_drawn p (next x)) none none else none) ≤ 1) (sym is) (omega arith)

line_levels : (n : ℕ) (p : Board) (x : ℕ) → levels (line n p x).moves ≤ 1
unfolding line levels
line_levels zero p x = omega arith
line_levels (suc n) p x = by_end (line_levels n (after p (move_drawn p x)) (after_variation (next x))) (is_over p) refl
  where
    by_end : levels (line n (after p (move_drawn p x)) (after_variation (next x))).moves ≤ 1
        → (b : Bool) → is_over p ≡ b → levels (line (suc n) p x).moves ≤ 1
    by_end rest true over = subst (λ l. levels l.moves ≤ 1) (sym (line_over (suc n) p x over)) (omega arith)
    by_end rest false over =
        let few = variation_levels p (next x) (has_variation (next x)) refl in
        subst (λ l. levels l.moves ≤ 1) (sym (line_step (suc n) n p x over (sym (add-one n)))) (omega (arith, rest, few))

made_levels : (x : ℕ) → levels (generated_line x).moves ≤ 1
unfolding generated_line
made_levels x = line_levels (20 + drawn x 60) start_board (next x)

-- a made game with the tags that are written
abbrev pub whole : ℕ → ℕ → Game
whole number x = record {
  tags = written_of number (ending (generated_line x).last);
  result = ending (generated_line x).last;
  nodes = bare_node None None start_board ∷ nodes_from 0 1 (generated_line x).moves;
}

pub whole_is : (number x : ℕ) → as_read (generated_game number (generated_line x)) ≡ whole number x
unfolding generated_game roster_tag other_tags
whole_is number x = refl

whole_written : (number x : ℕ) → written_tags (whole number x) ≡ written_of number (ending (generated_line x).last)
unfolding roster_tag other_tags
whole_written number x = refl

pub whole_text : (number x : ℕ) → export_text (whole number x) ≡ export_text (generated_game number (generated_line x))
unfolding generated_game
whole_text number x =
    ap (λ ts. flat_map tag_line ts ++ codes "\n" ++ lines (movetext (whole number x)) ++ codes "\n") (whole_written number x ∙ sym (written_is number x))

pub whole_normal : (number x : ℕ) → number ≤ 100000 → IsNormal (whole number x)
unfolding start_of
whole_normal number x few = record {
  writable = all_writable number (ending (generated_line x).last) few;
  order = record { roster = refl; others = refl; sorted = sorted_from_all_adjacent nat_list_cmp_total [] [] (λ k h. absurd (omega (arith, h))) };
  result = refl;
  set_up = λ fen e. absurd (let f : None ≡ Some fen = e in cc);
  start = refl;
  few_levels = subst (λ c. levels c ≤ 100) (sym (continuations_back (generated_line x).moves)) (let m = made_levels x in omega (arith, m));
  no_glyph = refl;
  short = subst (λ t. length t ≤ 2 ^ 24) (sym (whole_text number x)) (let s = game_short number x few in omega (arith, s));
}
