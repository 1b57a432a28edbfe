-- The value of a text is the result by the grammar and the legal moves, and the text of a move is read as this move.
use Rattle.std.proofs.Common.{◌≡◌, ◌≢◌, ℕ, List, length, Bool, true, false, cond, Some, Ok, Err, Result, refl, sym, ap, subst, ◌∙◌, inl, inr}
use Rattle.cq_position.specs.declared.moves.Move.{Move}
use Rattle.cq_position.specs.Board.{Board}
use Rattle.cq_position.specs.Attacks.{in_check}
use Rattle.cq_position.specs.Legal.{Leads}
use Rattle.cq_position.specs.Moves.{null_move}
use Rattle.cq_position.specs.Position.{IsPosition}
use Rattle.cq_moves.specs.LegalMoves.{legal_list}
use Rattle.cq_moves.proofs.Order.{listed_is_legal, legal_is_listed, legal_in_order}
use Rattle.cq_san.specs.declared.parts.Parts.{Parts}
use Rattle.cq_san.specs.declared.parts.Parts.TheVariants.{Castling, Null, Moved}
use Rattle.cq_san.specs.declared.fault.SanFault.{SanFault}
use Rattle.cq_san.specs.declared.fault.SanFault.TheVariants.{IllegalMove}
use Rattle.cq_san.specs.ParseFromEnd.{parts_from_end}
use Rattle.cq_san.specs.Reading.{IsMeaningOfParts, IsMeaningOfText}
use Rattle.cq_san.specs.San.{parts_result, result_by, san, MeansExactly}
use Rattle.cq_san.specs.Writing.{san_parts, san_text}
use Rattle.cq_san.proofs.Alone.{meant}
use Rattle.cq_san.proofs.Grammar.{exactly_spelled, exactly_unspelled, spells_or_not}
use Rattle.cq_san.proofs.Meaning.{answer_from_list, same_answer, null_illegal, null_meant, exactly_meant, exactly_no_move, exactly_illegal, exactly_ambiguous}
use Rattle.cq_san.proofs.Room.{on_board}
use Rattle.cq_san.proofs.Writing.{text_spells}

null_by : (p : Board) (b : Bool) → in_check p.men p.side ≡ b → IsMeaningOfParts p Null (cond b (Err IllegalMove) (Ok null_move))
null_by p true is = null_illegal p is
null_by p false is = null_meant p null_move refl is

by_list : (p : Board) → length p.men ≡ 64 → (parts : Parts) → parts ≢ Null → IsMeaningOfParts p parts (parts_result p parts)
by_list p long Null other = absurd (other refl)
by_list p long (Castling kingside) other =
    answer_from_list p (Castling kingside) (legal_list p) (λ m. (listed_is_legal p m, legal_is_listed p m long)) (legal_in_order p) other
by_list p long (Moved parts) other =
    answer_from_list p (Moved parts) (legal_list p) (λ m. (listed_is_legal p m, legal_is_listed p m long)) (legal_in_order p) other

parts_answered : (p : Board) → length p.men ≡ 64 → (parts : Parts) → IsMeaningOfParts p parts (parts_result p parts)
parts_answered p long Null = null_by p (in_check p.men p.side) refl
parts_answered p long (Castling kingside) = by_list p long (Castling kingside) (λ e. cc)
parts_answered p long (Moved parts) = by_list p long (Moved parts) (λ e. cc)

pub san_read : (p : Board) (text : List ℕ) → length p.men ≡ 64 → IsMeaningOfText p text (san p text)
unfolding san
san_read p text long = record {
  spelled = λ parts spells.
      let is : parts_from_end text ≡ Some parts = (exactly_spelled text (parts_from_end text) refl parts).1 spells in
      subst (IsMeaningOfParts p parts) (sym (ap (result_by p) is)) (parts_answered p long parts);
  unspelled = λ none. ap (result_by p) ((exactly_unspelled text (parts_from_end text) refl).1 none);
}

-- any reading is this value
pub is_san : (p : Board) (text : List ℕ) (r : Result Move SanFault) → length p.men ≡ 64 → IsMeaningOfText p text r → r ≡ san p text
is_san p text r long reading =
    let value = san_read p text long in
    elim (spells_or_not text) [
      | inl k ↦ same_answer p k.0 r (san p text) (reading.spelled k.0 k.1) (value.spelled k.0 k.1)
      | inr none ↦ reading.unspelled none ∙ sym (value.unspelled none)
    ]

pub exact : (p : Board) (text : List ℕ) → length p.men ≡ 64 → MeansExactly p text (san p text)
exact p text long =
    let reading = san_read p text long in
    record {
      meant = λ m. exactly_meant p text (san p text) reading m;
      not_a_move = exactly_no_move p text (san p text) reading;
      illegal = exactly_illegal p text (san p text) reading;
      ambiguous = exactly_ambiguous p text (san p text) reading;
    }

-- the text of a move is read as that move
pub written_read : (p : Board) (m : Move) (q : Board) → IsPosition p → Leads p m q → san p (san_text p m) ≡ Ok m
written_read p m q kept leads =
    let board = on_board p m q kept leads in
    ((exact p (san_text p m) kept.whole).meant m).1 (san_parts p m, text_spells p m board.0 board.1, meant p m q kept leads)
