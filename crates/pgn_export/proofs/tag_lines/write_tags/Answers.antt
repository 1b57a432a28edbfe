use Rattle.std.proofs.Common.{◌++◌, codes, map, ap, ◌∙◌}
use Rattle.std.specs.List.{flat_map}
use Rattle.pgn_tree.specs.Results.{result_text}
use Rattle.pgn_export.specs.TagLines.{tag_line, roster, roster_tag, other_tags}
use Rattle.pgn_export.proofs.Puts.{all_lines}
use Rattle.pgn_export.proofs.tag_lines.write_tags.Goals as goal

pub returns : goal.returns
returns c =
    let g = c.args.game.now in
    all_lines tag_line c.args.out.now.items c.write_roster.new.out.items c.write_tag.new.out.items c.write_others.new.out.items (map (roster_tag g.tags) roster) (other_tags g.tags)
    (codes "Result", result_text g.result)
    (c.in_ok-write_roster.ensures ∙ ap (λ t. c.args.out.now.items ++ flat_map tag_line (map (roster_tag t) roster)) c.tags-tags.ensures)
    (c.in_ok-write_tag.ensures ∙ ap (λ t. c.write_roster.new.out.items ++ tag_line (codes "Result", t)) (c.result_text.ensures ∙ ap result_text c.result.ensures))
    (c.in_ok-write_others.ensures ∙ ap (λ t. c.write_tag.new.out.items ++ flat_map tag_line (other_tags t)) c.tags-tags.ensures)
