-- The squares of a played move, as the crate's own type.
use Rattle.std.specs.Prelude.{Option, option_map}
use Rattle.cq_position.specs.declared.moves.Move.{Move}
use Rattle.cq_position.specs.Board.{Board}
use Rattle.cq_position.specs.Led.{PlainLed, led}
use Rattle.cql_played.specs.declared.led.Led.{Led}

abbrev pub as_led : PlainLed → Led
as_led l = record { origin = l.origin; goal = l.goal; taken = l.taken; promoted = l.promoted }

-- the squares of a played move; none for a null move
abbrev pub led_as : Board → Move → Option Led
led_as p m = option_map as_led (led p m)
