-- A tag pair that has begun can end.
use Rattle.std.proofs.Common.{◌≡◌, ℕ, List, [], ◌∷◌, ◌++◌, Option, Some, None, Ok, Bool, true, false, cond, refl, sym, ap, ◌∙◌, subst}
use Rattle.std.specs.Prelude.{codes}
use Rattle.std.specs.Str.{bytes_eq}
use Rattle.std.specs.List.{find}
use Rattle.std.specs.Option.{option_map, option_or, is_some}
use Rattle.std.proofs.lemmas.List.Folds.{find-append}
use Rattle.cq_position.specs.Board.{Board, start_board}
use Rattle.cq_geometry.specs.Squares.{squares}
use Rattle.cq_geometry.specs.Lines.{between_squares}
use Rattle.cq_position.specs.Attacks.{attacks, is_attacked, in_check}
use Rattle.cq_position.specs.Fen.{fen_meaning, fields, is_placement, placed_men, position_or_fault}
use Rattle.pgn_lexer.specs.declared.token.TokenKind.TheVariants.{Close, Text, Symbol}
use Rattle.pgn_reader.specs.Words.{Word}
use Rattle.cq_position.specs.Games.{tag_value, with_tag}
use Rattle.pgn_reader.specs.Tags.{Tags, start_by, start_of, unescaped, value_of}
use Rattle.pgn_reader.specs.Internal.Frame.{begin_game}
use Rattle.pgn_reader.specs.Internal.Machine.{opened, named, valued, on_start, feed, run}
use Rattle.pgn_reader.proofs.Heading.{IsReadResult, value_stays}
use Rattle.pgn_reader.proofs.OpenLines.{Finish}

-- the tokens that are added: a name, the position of the initial array as a string, and the bracket
abbrev name_word : Word
name_word = record { kind = Symbol; text = codes "A" }

abbrev start_text : List ℕ
start_text = codes "rnbqkbnr/pppppppp/8/8/8/8/PPPPPPPP/RNBQKBNR w KQkq - 0 1"

abbrev value_word : Word
value_word = record { kind = Text; text = 34 ∷ start_text ++ 34 ∷ [] }

abbrev bracket_word : Word
bracket_word = record { kind = Close; text = codes "]" }

start_is_read : fen_meaning start_text ≡ Ok start_board
unfolding fen_meaning fields is_placement placed_men position_or_fault in_check is_attacked attacks squares between_squares
start_is_read = refl

value_is : value_of value_word.text ≡ start_text
unfolding value_of unescaped
value_is = refl

-- a name's value after a tag of it or of another name
value_after : (name other value : List ℕ) (ts : Tags) → tag_value name ts ≡ None → tag_value name (ts ++ (other, value) ∷ []) ≡ cond (bytes_eq name other) (Some value) None
value_after name other value ts is =
    ap (option_map (λ t. t.1)) (find-append (λ t. bytes_eq name t.0) ts ((other, value) ∷ [])) ∙ by_first (find (λ t. bytes_eq name t.0) ts) is (bytes_eq name other)
  where
    by_first : (o : Option (List ℕ × List ℕ)) → option_map (λ t. t.1) o ≡ None → (b : Bool)
        → option_map (λ t. t.1) (option_or o (cond {A = Option (List ℕ × List ℕ)} b (Some (other, value)) None)) ≡ cond b (Some value) None
    by_first None is true = refl
    by_first None is false = refl
    by_first (Some t) is b = absurd (let e : Some t.1 ≡ None = is in cc)

read_by_test : (b : Bool) (text : List ℕ) → fen_meaning text ≡ Ok start_board → IsReadResult (start_by (cond b (Some text) None))
read_by_test true text is = record { start = start_board; is = is }
read_by_test false text is = record { start = start_board; is = refl }

read_added : (ts : Tags) (name text : List ℕ) → fen_meaning text ≡ Ok start_board → (o : Option (List ℕ)) → tag_value (codes "FEN") ts ≡ o → IsReadResult (start_of ts)
    → IsReadResult (start_of (ts ++ (name, text) ∷ []))
unfolding start_of
read_added ts name text is None none before =
    subst (λ x. IsReadResult (start_by x)) (sym (value_after (codes "FEN") name text ts none)) (read_by_test (bytes_eq (codes "FEN") name) text is)
read_added ts name text is (Some v) there before =
    subst (λ x. IsReadResult (start_by x)) (there ∙ sym (value_stays (codes "FEN") ts ((name, text) ∷ []) v there)) before

read_with : (ts : Tags) (name text : List ℕ) → fen_meaning text ≡ Ok start_board → (b : Bool) → IsReadResult (start_of ts) → IsReadResult (start_of (cond b ts (ts ++ (name, text) ∷ [])))
read_with ts name text is false before = read_added ts name text is (tag_value (codes "FEN") ts) refl before
read_with ts name text is true before = before

value_can_come : (ts : Tags) (name : List ℕ) → IsReadResult (start_of ts) → IsReadResult (start_of (with_tag ts name (value_of value_word.text)))
value_can_come ts name before =
    subst (λ x. IsReadResult (start_of (with_tag ts name x))) (sym value_is) (read_with ts name start_text start_is_read (is_some (tag_value name ts)) before)

pub finishes_valued : (ts : Tags) (start : Board) → Finish (valued ts start)
unfolding feed
finishes_valued ts start = record {
  more = bracket_word ∷ [];
  head = record { tags = ts; start = start; heading = true; moves = 0 };
  frame = begin_game start;
  ends = refl;
}

value_read : (ts : Tags) (name : List ℕ) (start : Board) → start_of (with_tag ts name (value_of value_word.text)) ≡ Ok start
    → feed (named ts name) value_word ≡ valued (with_tag ts name (value_of value_word.text)) start
unfolding feed
value_read ts name start is = ap (on_start (with_tag ts name (value_of value_word.text))) is

pub finishes_named : (ts : Tags) (name : List ℕ) → IsReadResult (start_of ts) → Finish (named ts name)
finishes_named ts name before =
    let next : IsReadResult (start_of (with_tag ts name (value_of value_word.text))) = value_can_come ts name before in
    let finish : Finish (valued (with_tag ts name (value_of value_word.text)) next.start) = finishes_valued (with_tag ts name (value_of value_word.text)) next.start in
    record {
      more = value_word ∷ finish.more;
      head = finish.head;
      frame = finish.frame;
      ends = ap (λ x. run x finish.more) (value_read ts name next.start next.is) ∙ finish.ends;
    }

name_read : (ts : Tags) → feed (opened ts) name_word ≡ named ts (codes "A")
unfolding feed
name_read ts = refl

pub finishes_opened : (ts : Tags) → IsReadResult (start_of ts) → Finish (opened ts)
finishes_opened ts before =
    let finish : Finish (named ts (codes "A")) = finishes_named ts (codes "A") before in
    record {
      more = name_word ∷ finish.more;
      head = finish.head;
      frame = finish.frame;
      ends = ap (λ x. run x finish.more) (name_read ts) ∙ finish.ends;
    }
