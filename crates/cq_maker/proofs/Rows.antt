-- Numbers that are drawn, and an archive of no games.
use Rattle.std.proofs.Common.{◌≡◌, [], refl}
use Rattle.cq_maker.specs.Draws.{next, drawn}
use Rattle.cq_maker.specs.GeneratedArchive.{generated_games, generated_archive}

first_state : next 1 ≡ 7806831264735756412
unfolding next
first_state = refl

second_state : next 7806831264735756412 ≡ 9396908728118811419
unfolding next
second_state = refl

first_number : drawn 1 60 ≡ 14
unfolding next drawn
first_number = refl

second_number : drawn 7806831264735756412 60 ≡ 33
unfolding next drawn
second_number = refl

no_games : generated_archive 7 0 ≡ []
unfolding generated_games generated_archive
no_games = refl
