use Rattle.std.proofs.Common.{◌≡◌, not, drop}
use Rattle.std.specs.List.{filter, fold}
use Rattle.pgn_export.specs.Internal.PlainTags.{plain}
use Rattle.pgn_export.specs.TagLines.{is_in_roster, put, sorted}
use Rattle.pgn_export.proofs.tag_lines.plain_tags.Given as goal

-- the tags so far, with those that are left put in their places, are all
abbrev pub invariant-loop-i : goal.invariant-loop-i
invariant-loop-i l =
    fold put (plain l.others.entries) (filter (λ t. not (is_in_roster t.0)) (drop l.i l.tags)) ≡ sorted (filter (λ t. not (is_in_roster t.0)) l.tags)
