use Rattle.std.proofs.Common.{refl}
use Rattle.std.specs.Prelude.{slice_index_or}
use Rattle.std.proofs.lemmas.List.Elements.{All-contains_itself}
use Rattle.pgn_cut.specs.Cut.{cut}
use Rattle.pgn_cut.proofs.OneGame.{games_uncut, tokens_ended}
use Rattle.pgn_cut.proofs.laws.games_end_once.Goals as goal

pub returns : goal.returns
returns c =
    let uncut = games_uncut c.lexemes_stand_apart.ensures.order c.lexemes_stand_apart.ensures.each c.lexemes_are_local.ensures in
    record {
      each = λ archive k d less. record { archive = archive; game = slice_index_or (cut archive) k d; among = All-contains_itself (cut archive) k d less; starts = refl; column = refl; has = refl };
      lexemes = uncut;
      tokens = λ start first bytes is. tokens_ended c.lexemes_are_spelled.ensures start first bytes (uncut start first bytes is);
    }
