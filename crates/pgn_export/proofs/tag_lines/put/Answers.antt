use Rattle.std.proofs.Common.{ap, ap₂, ◌∙◌}
use Rattle.std.specs.BTreeMap.{insert_entry}
use Rattle.std.specs.Cmp.Lexicographic.{slice_cmp}
use Rattle.std.specs.Ordering.{nat_cmp}
use Rattle.pgn_export.specs.Internal.PlainTags.{plain}
use Rattle.pgn_export.proofs.Puts.{plain_insert}
use Rattle.pgn_export.proofs.tag_lines.put.Goals as goal

pub returns : goal.returns
returns c =
    ap plain c.in_ok-insert.ensures.entries
    ∙ plain_insert c.args.others.now.entries c.in_ok-name.name c.in_ok-value.value
    ∙ ap₂ (λ n v. insert_entry (slice_cmp nat_cmp) (plain c.args.others.now.entries) n v) c.in_ok-name.ensures.items c.in_ok-value.ensures
