-- The view of the tags, while they are read, in contracts.
use Rattle.pgn_reader.specs.declared.tag_section.TagSection.TheInside.{Inside}
use Rattle.pgn_reader.specs.Internal.TagSection.{TagSection}

abbrev pub tag_section_inside : Inside → TagSection
tag_section_inside p = record { tags = p.tags; start = p.start }
