use Rattle.std.proofs.Common.{◌≡◌, ◌++◌, ◌≤◌, drop}
use Rattle.cq_position.specs.FenText.{rank_text}
use Rattle.cq_position.proofs.fen.writing.push_rank.Given as goal

abbrev pub invariant-loop-man : goal.invariant-loop-man
invariant-loop-man l = record {
  low : l.empty ≤ l.man-index;
  text : l.text ++ rank_text l.empty (drop l.man-index l.row) ≡ l.fn.text ++ rank_text 0 l.row;
}
