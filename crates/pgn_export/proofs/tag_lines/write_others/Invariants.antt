use Rattle.std.proofs.Common.{◌≡◌, ◌++◌}
use Rattle.std.specs.List.{flat_map}
use Rattle.pgn_export.specs.Internal.PlainTags.{plain}
use Rattle.pgn_export.specs.TagLines.{tag_line, other_tags}
use Rattle.pgn_export.proofs.tag_lines.write_others.Given as goal

-- the written part and the lines of the tags that are left are all
abbrev pub invariant-loop-name : goal.invariant-loop-name
invariant-loop-name l = l.out.items ++ flat_map tag_line (plain l.name-iterator) ≡ l.fn.out.items ++ flat_map tag_line (other_tags l.fn.tags)
