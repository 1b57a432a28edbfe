use Rattle.cq_tests.proofs.moves.+perft.Given as goal

abbrev pub decreases-perft : goal.decreases-perft
decreases-perft l = l.depth
