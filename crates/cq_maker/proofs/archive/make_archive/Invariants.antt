use Rattle.std.proofs.Common.{◌≡◌, ◌≤◌, ◌+◌, ◌-◌, ◌++◌}
use Rattle.std.specs.List.{flat_map}
use Rattle.pgn_export.specs.Export.{export_text}
use Rattle.cq_maker.specs.GeneratedArchive.{generated_archive, generated_games}
use Rattle.cq_maker.proofs.archive.make_archive.Given as goal

abbrev pub invariant-loop-before : goal.invariant-loop-before
invariant-loop-before l = record {
  few : l.before ≤ l.games;
  is : l.archive ++ flat_map export_text (generated_games (l.before + 1) (l.games - l.before) l.draws) ≡ generated_archive l.seed l.games;
}
