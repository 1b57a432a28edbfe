use Rattle.std.proofs.Common.{rules, map}
use Rattle.std.specs.String.{string_bytes}
use Rattle.clap.specs.Words.{app_of}
use Rattle.pgn_pieces.proofs.Refusals.{has_matches}
use Rattle.pgn_pieces.proofs.Refusals.{refused_words}
use Rattle.pgn_pieces.proofs.words.matched.Goals as goal

pub returns : goal.returns
returns c = refused_words (app_of c.in_ok-line.field-0) (map string_bytes c.args.words.now) c.in-Err.error _ c.in_ok-line.ensures
    c.in-Err.ensures.kinds c.in-Err.ensures.passes (search rules)

pub returns-in-Ok : goal.returns-in-Ok
returns-in-Ok c = has_matches (app_of c.in_ok-line.field-0) (map string_bytes c.args.words.now) c.in-Ok.matches c.in_ok-line.ensures
    c.in-Ok.ensures.kinds c.in-Ok.ensures.matches
