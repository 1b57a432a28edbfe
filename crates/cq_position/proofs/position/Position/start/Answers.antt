use Rattle.std.proofs.Common.{List, None, true, refl, sym, subst, arith}
use Rattle.cq_geometry.specs.Squares.{squares}
use Rattle.cq_geometry.specs.Lines.{between_squares}
use Rattle.cq_position.specs.declared.men.Man.{Man}
use Rattle.cq_position.specs.declared.men.Side.TheVariants.{White}
use Rattle.cq_position.specs.Attacks.{attacks, is_attacked, in_check}
use Rattle.cq_position.specs.Board.{Board, start_board}
use Rattle.cq_position.specs.Position.{IsPosition}
use Rattle.cq_position.proofs.position.Position.start.Goals as goal

start_stands : IsPosition start_board
unfolding in_check is_attacked attacks squares between_squares
start_stands = record {
  whole = refl;
  kings = refl;
  no_pawn_on_edge = refl;
  few_enough = refl;
  rights = refl;
  passed = refl;
  opponent_not_in_check = refl;
  numbered = omega arith;
  fits = omega arith;
}

abbrev begun_with : List Man → Board
begun_with men = record {
  men = men;
  side = White;
  rights = record { white_kingside = true; white_queenside = true; black_kingside = true; black_queenside = true };
  passant = None;
  number = 1;
}

pub invariant_of-result : goal.invariant_of-result
invariant_of-result c = subst (λ (men : List Man). IsPosition (begun_with men)) (sym c.of.ensures) start_stands
