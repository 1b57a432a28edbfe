use Rattle.std.proofs.Common.{◌-◌, ◌++◌, List, ℕ, length, take, drop, ap, subst, ◌∙◌, arith, rules}
use Rattle.std.proofs.lemmas.List.{append_assoc, length-drop, take-append-drop, take_all}
use Rattle.pgn_batches.specs.Windows.{IsWindowOf}
use Rattle.pgn_batches.proofs.Streams.{on_one}
use Rattle.pgn_batches.proofs.Windows.{anew}
use Rattle.pgn_batches.proofs.state.Window.go_on.Goals as goal

pub returns-clause-shows : goal.returns-clause-shows
returns-clause-shows c =
    on_one c.grow-2.result c.grow-2.ensures.shows (λ shows. λ archive was long.
    let piece = c.args.piece.now in
    let k = c.min-passed.result in
    let grown = shows (archive ++ take k piece) (anew _ c.args.at k archive piece long (search rules) (search rules) (search rules)) in
    let rest = take_all (length piece - k) (drop k piece) (let l = length-drop k piece in omega (arith, l)) in
    subst (IsWindowOf c.grow-2.new.self) (append_assoc archive (take k piece) (drop k piece) ∙ ap (λ (l : List ℕ). archive ++ l) (take-append-drop k piece))
    (subst (λ (l : List ℕ). IsWindowOf c.grow-2.new.self ((archive ++ take k piece) ++ l)) rest grown))
