-- The encoding of a board in a `Position`.
use Rattle.cq_position.specs.declared.position.Position.TheInside.{Inside}
use Rattle.cq_position.specs.Board.{Board}

abbrev pub board_inside : Inside → Board
board_inside p = record {
  men = p.men;
  side = p.side;
  rights = p.rights;
  passant = p.passant;
  number = p.number;
}

abbrev pub inside_of : Board → Inside
inside_of b = record {
  men = b.men;
  side = b.side;
  rights = b.rights;
  passant = b.passant;
  number = b.number;
}
