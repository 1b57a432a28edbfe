use Rattle.std.proofs.Common.{map, ◌∙◌, ap, arith, length}
use Rattle.std.specs.Prelude.{option_map, pos, get_or, None}
use Rattle.std.proofs.lemmas.List.FromFn.{length-map-range_with_len}
use Rattle.cql_syntax.specs.TreeOf.{parts_tree}
use Rattle.cql_syntax.specs.declared.tree.Line.{out-Line}
use Rattle.cql_columns.specs.Scopes.{tree_in}
use Rattle.cql_columns.specs.Costs.{searched_len}
use Rattle.cql_operators.specs.LineAtoms.{spot_at}
use Rattle.cql_operators.proofs.LineAtoms.{few_atoms, few_places, atoms_below}
use Rattle.cql_operators.proofs.LinesLaw.{ShapeOf, line_flat, line_spelled, numbers_are, wide_at, atoms_within, looks_within}
use Rattle.cql_lines.specs.PatternTrees.{pattern_tree}
use Rattle.cql_lines.specs.Tables.{atoms_of, holds_in}
use Rattle.cql_lines.specs.Trees.{tree_nodes_of}
use Rattle.cql_eval.proofs.evaluate.lines.spelled_column.Goals as goal

pub parts_pattern-requires : goal.parts_pattern-requires
parts_pattern-requires g c = omega (arith, few_atoms _ (line_flat c.args.line.now c.requires.flat).0)

pub build-requires : goal.build-requires
build-requires g c = record {
  places = few_places (parts_tree (out-Line c.args.line.now).parts) (pattern_tree c.in_ok-pattern.pattern) c.in_ok-pattern.ensures.pattern
      (line_flat c.args.line.now c.requires.flat).0;
}

pub line_values-requires-clause-atoms : goal.line_values-requires-clause-atoms
line_values-requires-clause-atoms g c =
    c.in_ok-automaton.ensures.atoms (atoms_of c.args.table.now)
    (atoms_below (parts_tree (out-Line c.args.line.now).parts) (pattern_tree c.in_ok-pattern.pattern) (atoms_of c.args.table.now) c.in_ok-pattern.ensures.pattern
    (omega (arith, c.requires.atoms, c.in_ok-pattern.ensures.next)))

pub line_values-requires-clause-nodes : goal.line_values-requires-clause-nodes
line_values-requires-clause-nodes g c =
    let spots = ap length c.in_ok-shape.ensures.spots in
    omega (
      arith,
      c.requires.nodes,
      spots,
      length-map-range_with_len (spot_at (tree_in c.args.scope.now)) 0 (length c.args.scope.now.game.now.nodes),
    )

pub returns-clause-value : goal.returns-clause-value
returns-clause-value g c = λ n asked.
    let spots = ap length c.in_ok-shape.ensures.spots in
    let shape : ShapeOf (tree_in c.args.scope.now) c.args.line.now = record {
      spots = tree_nodes_of c.in_ok-shape.shape;
      back = _;
      primary = _;
      limits = _;
      spots_are = c.in_ok-shape.ensures.spots;
      back_is = c.in_ok-shape.ensures.way.0;
      primary_is = c.in_ok-shape.ensures.way.1;
      limits_are = c.in_ok-shape.ensures.way.2;
    } in
    wide_at c.in_ok-numbers.numbers.items c.in_ok-values.values.items (c.in_ok-numbers.ensures ∙ ap (map (option_map pos)) c.as_slice.ensures.value) n
    ∙ numbers_are (tree_in c.args.scope.now) c.requires.tree c.args.scope.now.names.now c.args.line.now shape (holds_in c.args.table.now)
    (pattern_tree c.in_ok-pattern.pattern) n asked
    (line_spelled (tree_in c.args.scope.now) c.args.scope.now.names.now c.args.line.now c.args.table.now (pattern_tree c.in_ok-pattern.pattern)
    c.in_ok-pattern.ensures.pattern c.requires.tabled n asked)
    (get_or c.in_ok-values.values.items n None)
    (c.in_ok-values.ensures.values (pattern_tree c.in_ok-pattern.pattern) c.in_ok-automaton.ensures.automaton n
    (omega (arith, asked.1, spots, length-map-range_with_len (spot_at (tree_in c.args.scope.now)) 0 (length c.args.scope.now.game.now.nodes))))

pub returns-clause-cost : goal.returns-clause-cost
returns-clause-cost g c = λ before h.
    looks_within (tree_in c.args.scope.now) c.args.line.now before _ c.line_values.new.steps (atoms_of c.args.table.now) (tree_nodes_of c.in_ok-shape.shape)
    c.in_ok-shape.ensures.spots c.requires.atoms h c.line_values.ensures.cost

pub returns-in_err-numbers-clause-cost : goal.returns-in_err-numbers-clause-cost
returns-in_err-numbers-clause-cost g c = λ before h.
    looks_within (tree_in c.args.scope.now) c.args.line.now before _ c.line_values.new.steps (atoms_of c.args.table.now) (tree_nodes_of c.in_ok-shape.shape)
    c.in_ok-shape.ensures.spots c.requires.atoms h c.line_values.ensures.cost

pub returns-in_err-values-clause-cost : goal.returns-in_err-values-clause-cost
returns-in_err-values-clause-cost g c = λ before h.
    looks_within (tree_in c.args.scope.now) c.args.line.now before _ c.line_values.new.steps (atoms_of c.args.table.now) (tree_nodes_of c.in_ok-shape.shape)
    c.in_ok-shape.ensures.spots c.requires.atoms h c.line_values.ensures.cost

pub returns-in_err-shape-clause-cost : goal.returns-in_err-shape-clause-cost
returns-in_err-shape-clause-cost g c = λ before h. atoms_within (searched_len (tree_in c.args.scope.now)) c.args.line.now before _ h

pub returns-in_err-pattern-clause-cost : goal.returns-in_err-pattern-clause-cost
returns-in_err-pattern-clause-cost g c = λ before h. atoms_within (searched_len (tree_in c.args.scope.now)) c.args.line.now before _ h

pub returns-in_err-automaton-clause-cost : goal.returns-in_err-automaton-clause-cost
returns-in_err-automaton-clause-cost g c = λ before h. atoms_within (searched_len (tree_in c.args.scope.now)) c.args.line.now before _ h
