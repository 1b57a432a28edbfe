-- Worked rows on normal games.
use Rattle.std.proofs.Common.{◌≡◌, ◌≢◌, ℕ, Bool, true, false, List, [], ◌∷◌, ◌++◌, None, Some, refl, sym, ap, ◌∙◌, arith, true≢false}
use Rattle.std.specs.Prelude.{◌&&◌, ◌==◌, not, length, codes}
use Rattle.std.specs.List.{AllByRecursion, list_all}
use Rattle.std.specs.Char.{is_ascii_alphanumeric}
use Rattle.std.specs.Cmp.Lexicographic.{nat_list_cmp_total}
use Rattle.std.proofs.lemmas.Bool.{eq-eqb}
use Rattle.std.proofs.lemmas.Map.Keys.{sorted_from_all_adjacent}
use Rattle.cq_position.specs.declared.games.GameResult.TheVariants.{Open as Undecided}
use Rattle.cq_position.specs.Board.{start_board}
use Rattle.cq_position.specs.Continuations.{Played, none, played, continuations}
use Rattle.cq_position.specs.Games.{Game, bare_node}
use Rattle.cq_position.specs.Moves.{null_move}
use Rattle.pgn_lexer.specs.Bytes.{continues_symbol}
use Rattle.pgn_lexer.specs.Grammar.{Lacks}
use Rattle.pgn_reader.specs.Tags.{start_of}
use Rattle.pgn_reader.specs.Words.{result_of_text}
use Rattle.pgn_export.specs.Export.{export_text}
use Rattle.pgn_export.specs.Lines.{filled}
use Rattle.pgn_export.specs.Movetext.{line_words, played_in}
use Rattle.pgn_export.specs.NormalGames.{levels, IsWritable, IsNormal}
use Rattle.pgn_export.specs.TagLines.{roster, roster_tag, other_tags, tag_line}

-- tests of bytes, one by one
first_of : (s t : Bool) → (s && t) ≡ true → s ≡ true
first_of true t e = refl
first_of false t e = e

second_of : (s t : Bool) → (s && t) ≡ true → t ≡ true
second_of true t e = e
second_of false t e = absurd (true≢false (sym e))

goes_by : (bs : List ℕ) → list_all continues_symbol bs ≡ true → AllByRecursion (λ c. continues_symbol c ≡ true) bs
goes_by [] e = tt
goes_by (b ∷ bs) e = (first_of (continues_symbol b) (list_all continues_symbol bs) e, goes_by bs (second_of (continues_symbol b) (list_all continues_symbol bs) e))

other_byte : (b : ℕ) → not (b == 10) ≡ true → b ≢ 10
other_byte b e is = true≢false (sym e ∙ ap not (eq-eqb b 10 is))

lacks_by : (bs : List ℕ) → list_all (λ b. not (b == 10)) bs ≡ true → Lacks 10 bs
lacks_by [] e = tt
lacks_by (b ∷ bs) e = (other_byte b (first_of (not (b == 10)) (list_all (λ b. not (b == 10)) bs) e), lacks_by bs (second_of (not (b == 10)) (list_all (λ b. not (b == 10)) bs) e))

writable_by : (b : ℕ) (bs value : List ℕ) → is_ascii_alphanumeric b ≡ true → list_all continues_symbol bs ≡ true → result_of_text (b ∷ bs) ≡ None
    → list_all (λ b. not (b == 10)) value ≡ true → IsWritable (b ∷ bs, value)
writable_by b bs value begins goes no_marker lacks = record { name = (b, bs, refl, begins, goes_by bs goes); no_marker = no_marker; value = lacks_by value lacks }

-- the game of the initial array without moves is normal
bare : Game
bare = record { tags = roster ++ (codes "Result", codes "*") ∷ []; result = Undecided; nodes = bare_node None None start_board ∷ [] }

bare_length : length (export_text bare) ≡ 96
unfolding bare tag_line roster_tag other_tags filled line_words continuations
bare_length = refl

bare_levels : levels (played_in bare) ≡ 0
unfolding bare levels continuations
bare_levels = refl

bare_is_normal : IsNormal bare
unfolding bare result_of_text start_of
bare_is_normal = record {
  writable = (
    writable_by 69 (codes "vent") (codes "?") refl refl refl refl,
    (
      writable_by 83 (codes "ite") (codes "?") refl refl refl refl,
      (
        writable_by 68 (codes "ate") (codes "????.??.??") refl refl refl refl,
        (
          writable_by 82 (codes "ound") (codes "?") refl refl refl refl,
          (
            writable_by 87 (codes "hite") (codes "?") refl refl refl refl,
            (
              writable_by 66 (codes "lack") (codes "?") refl refl refl refl,
              (
                writable_by 82 (codes "esult") (codes "*") refl refl refl refl,
                tt,
              ),
            ),
          ),
        ),
      ),
    ),
  );
  order = record { roster = refl; others = refl; sorted = sorted_from_all_adjacent nat_list_cmp_total [] [] (λ k h. absurd (omega (arith, h))) };
  result = refl;
  set_up = λ fen e. absurd (let f : None ≡ Some fen = e in cc);
  start = refl;
  few_levels = let e = bare_levels in omega arith;
  no_glyph = refl;
  short = let e = bare_length in omega arith;
}

-- each variation within a variation is a level more, and one beside another is not
abbrev any : Played
any = record { move = null_move; position = start_board; nags = []; comments = [] }

no_variation : levels (played any (played any none none) none) ≡ 0
unfolding levels
no_variation = refl

one_beside_another : levels (played any none (played any none (played any none none))) ≡ 1
unfolding levels
one_beside_another = refl

one_within_another : levels (played any none (played any (played any none (played any none none)) none)) ≡ 2
unfolding levels
one_within_another = refl
