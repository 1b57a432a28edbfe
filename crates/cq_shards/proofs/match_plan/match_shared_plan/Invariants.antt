use Rattle.cq_shards.proofs.match_plan.match_shared_plan.Given as goal

abbrev pub ghosts-all_counted : goal.ghosts-all_counted
ghosts-all_counted a = record { name = a.blank.name; parts = a.blank.parts }
