use Rattle.pgn_export.proofs.Puts.{six}
use Rattle.pgn_export.proofs.tag_lines.write_roster.Goals as goal

pub returns : goal.returns
returns c =
    six c.args.out.now.items c.write_roster_tag.new.out.items c.write_roster_tag-2.new.out.items c.write_roster_tag-3.new.out.items
    c.write_roster_tag-4.new.out.items c.write_roster_tag-5.new.out.items
    c.write_roster_tag-6.new.out.items _ _ _ _ _ _
    c.in_ok-write_roster_tag.ensures c.in_ok-write_roster_tag-2.ensures c.in_ok-write_roster_tag-3.ensures c.in_ok-write_roster_tag-4.ensures
    c.in_ok-write_roster_tag-5.ensures c.in_ok-write_roster_tag-6.ensures
