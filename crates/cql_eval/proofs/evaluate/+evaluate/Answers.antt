mod Forms
mod Flats
mod Chains
mod Moves
mod Lines
mod Squares
mod Goals
mod Covers
use Rattle.cql_eval.proofs.evaluate.+evaluate.Answers.Forms as forms
use Rattle.cql_eval.proofs.evaluate.+evaluate.Answers.Flats as flats
use Rattle.cql_eval.proofs.evaluate.+evaluate.Answers.Chains as chains
use Rattle.cql_eval.proofs.evaluate.+evaluate.Answers.Moves as moves
use Rattle.cql_eval.proofs.evaluate.+evaluate.Answers.Lines as lines
use Rattle.cql_eval.proofs.evaluate.+evaluate.Answers.Squares as squares
use Rattle.cql_eval.proofs.evaluate.+evaluate.Answers.Goals as goals
use Rattle.cql_eval.proofs.evaluate.+evaluate.Answers.Covers as covers
use Rattle.cql_eval.proofs.evaluate.+evaluate.Goals as goal

-- the values and costs of forms of filters
pub unary_column-returns-then-reads_other_nodes-clause-value : goal.unary_column-returns-then-reads_other_nodes-clause-value
unary_column-returns-then-reads_other_nodes-clause-value = forms.unary_column-returns-then-reads_other_nodes-clause-value

pub unary_column-returns-clause-value : goal.unary_column-returns-clause-value
unary_column-returns-clause-value = forms.unary_column-returns-clause-value

pub column_where-returns-clause-value : goal.column_where-returns-clause-value
column_where-returns-clause-value = forms.column_where-returns-clause-value

pub chain_column-returns-in-Or-clause-value : goal.chain_column-returns-in-Or-clause-value
chain_column-returns-in-Or-clause-value = forms.chain_column-returns-in-Or-clause-value

pub chain_column-returns-in_ok-columns-in_default-clause-value : goal.chain_column-returns-in_ok-columns-in_default-clause-value
chain_column-returns-in_ok-columns-in_default-clause-value = forms.chain_column-returns-in_ok-columns-in_default-clause-value

pub any_column-returns-in-Position-clause-value : goal.any_column-returns-in-Position-clause-value
any_column-returns-in-Position-clause-value = forms.any_column-returns-in-Position-clause-value

pub any_column-returns-in_ok-columns-in_default-clause-value : goal.any_column-returns-in_ok-columns-in_default-clause-value
any_column-returns-in_ok-columns-in_default-clause-value = forms.any_column-returns-in_ok-columns-in_default-clause-value

pub evaluate-returns-in-Unary : goal.evaluate-returns-in-Unary
evaluate-returns-in-Unary = forms.evaluate-returns-in-Unary

pub evaluate-returns-in_ok-truths-in-Square : goal.evaluate-returns-in_ok-truths-in-Square
evaluate-returns-in_ok-truths-in-Square = forms.evaluate-returns-in_ok-truths-in-Square

pub evaluate-returns-in-Squares : goal.evaluate-returns-in-Squares
evaluate-returns-in-Squares = forms.evaluate-returns-in-Squares

pub evaluate-returns-in-Plain : goal.evaluate-returns-in-Plain
evaluate-returns-in-Plain = forms.evaluate-returns-in-Plain

pub evaluate-returns-in-Played : goal.evaluate-returns-in-Played
evaluate-returns-in-Played = forms.evaluate-returns-in-Played

pub evaluate-returns-in-Line : goal.evaluate-returns-in-Line
evaluate-returns-in-Line = forms.evaluate-returns-in-Line

pub evaluate-returns-in_ok-column-in-Steps : goal.evaluate-returns-in_ok-column-in-Steps
evaluate-returns-in_ok-column-in-Steps = forms.evaluate-returns-in_ok-column-in-Steps

pub evaluate-returns-in_ok-columns-in-Sum : goal.evaluate-returns-in_ok-columns-in-Sum
evaluate-returns-in_ok-columns-in-Sum = forms.evaluate-returns-in_ok-columns-in-Sum

pub evaluate-returns-in_ok-column-in-Sort : goal.evaluate-returns-in_ok-column-in-Sort
evaluate-returns-in_ok-column-in-Sort = forms.evaluate-returns-in_ok-column-in-Sort

pub evaluate-returns-in_ok-third-in-If : goal.evaluate-returns-in_ok-third-in-If
evaluate-returns-in_ok-third-in-If = forms.evaluate-returns-in_ok-third-in-If

pub evaluate-returns-in-Number : goal.evaluate-returns-in-Number
evaluate-returns-in-Number = forms.evaluate-returns-in-Number

pub evaluate-returns-in-Comment : goal.evaluate-returns-in-Comment
evaluate-returns-in-Comment = forms.evaluate-returns-in-Comment

pub evaluate-returns-in-Elo : goal.evaluate-returns-in-Elo
evaluate-returns-in-Elo = forms.evaluate-returns-in-Elo

pub evaluate-returns-in_ok-second-in-Pair : goal.evaluate-returns-in_ok-second-in-Pair
evaluate-returns-in_ok-second-in-Pair = forms.evaluate-returns-in_ok-second-in-Pair

pub evaluate-returns-then-not-any_live : goal.evaluate-returns-then-not-any_live
evaluate-returns-then-not-any_live = forms.evaluate-returns-then-not-any_live

pub evaluate-returns-in-Transform : goal.evaluate-returns-in-Transform
evaluate-returns-in-Transform = forms.evaluate-returns-in-Transform

pub evaluate-returns-in-Chain : goal.evaluate-returns-in-Chain
evaluate-returns-in-Chain = forms.evaluate-returns-in-Chain

pub evaluate-returns-in-Any : goal.evaluate-returns-in-Any
evaluate-returns-in-Any = forms.evaluate-returns-in-Any

pub evaluate-returns-in_err-columns-in-Sum : goal.evaluate-returns-in_err-columns-in-Sum
evaluate-returns-in_err-columns-in-Sum = forms.evaluate-returns-in_err-columns-in-Sum

pub evaluate-returns-in_err-column-in-Steps : goal.evaluate-returns-in_err-column-in-Steps
evaluate-returns-in_err-column-in-Steps = forms.evaluate-returns-in_err-column-in-Steps

pub evaluate-returns-in_err-column-in-Sort : goal.evaluate-returns-in_err-column-in-Sort
evaluate-returns-in_err-column-in-Sort = forms.evaluate-returns-in_err-column-in-Sort

pub evaluate-returns-in_err-first-in-Pair : goal.evaluate-returns-in_err-first-in-Pair
evaluate-returns-in_err-first-in-Pair = forms.evaluate-returns-in_err-first-in-Pair

pub evaluate-returns-in_err-second-in-Pair : goal.evaluate-returns-in_err-second-in-Pair
evaluate-returns-in_err-second-in-Pair = forms.evaluate-returns-in_err-second-in-Pair

pub evaluate-returns-in_err-squares-in-Square : goal.evaluate-returns-in_err-squares-in-Square
evaluate-returns-in_err-squares-in-Square = forms.evaluate-returns-in_err-squares-in-Square

pub evaluate-returns-in_err-truths-in-Square : goal.evaluate-returns-in_err-truths-in-Square
evaluate-returns-in_err-truths-in-Square = forms.evaluate-returns-in_err-truths-in-Square

pub evaluate-returns-in_err-first-in-If : goal.evaluate-returns-in_err-first-in-If
evaluate-returns-in_err-first-in-If = forms.evaluate-returns-in_err-first-in-If

pub evaluate-returns-in_err-second-in-If : goal.evaluate-returns-in_err-second-in-If
evaluate-returns-in_err-second-in-If = forms.evaluate-returns-in_err-second-in-If

pub evaluate-returns-in_err-third-in-If : goal.evaluate-returns-in_err-third-in-If
evaluate-returns-in_err-third-in-If = forms.evaluate-returns-in_err-third-in-If

-- the conditions under which the parts of filters are evaluated
pub evaluate-unary_column-requires : goal.evaluate-unary_column-requires
evaluate-unary_column-requires = flats.evaluate-unary_column-requires

pub evaluate-evaluate-requires : goal.evaluate-evaluate-requires
evaluate-evaluate-requires = flats.evaluate-evaluate-requires

pub evaluate-chain_column-requires : goal.evaluate-chain_column-requires
evaluate-chain_column-requires = flats.evaluate-chain_column-requires

pub evaluate-terms_of-requires : goal.evaluate-terms_of-requires
evaluate-terms_of-requires = flats.evaluate-terms_of-requires

pub evaluate-evaluate-requires-in-Pair : goal.evaluate-evaluate-requires-in-Pair
evaluate-evaluate-requires-in-Pair = flats.evaluate-evaluate-requires-in-Pair

pub evaluate-evaluate-requires-in-Pair-2 : goal.evaluate-evaluate-requires-in-Pair-2
evaluate-evaluate-requires-in-Pair-2 = flats.evaluate-evaluate-requires-in-Pair-2

pub evaluate-evaluate-requires-in-If : goal.evaluate-evaluate-requires-in-If
evaluate-evaluate-requires-in-If = flats.evaluate-evaluate-requires-in-If

pub evaluate-column_where-requires : goal.evaluate-column_where-requires
evaluate-column_where-requires = flats.evaluate-column_where-requires

pub evaluate-column_where-requires-in-If : goal.evaluate-column_where-requires-in-If
evaluate-column_where-requires-in-If = flats.evaluate-column_where-requires-in-If

pub evaluate-evaluate-requires-in-Square : goal.evaluate-evaluate-requires-in-Square
evaluate-evaluate-requires-in-Square = flats.evaluate-evaluate-requires-in-Square

pub evaluate-square_filter_truths-truths-requires : goal.evaluate-square_filter_truths-truths-requires
evaluate-square_filter_truths-truths-requires = flats.evaluate-square_filter_truths-truths-requires

pub evaluate-played_column-requires : goal.evaluate-played_column-requires
evaluate-played_column-requires = flats.evaluate-played_column-requires

pub evaluate-evaluate-requires-in-Sort : goal.evaluate-evaluate-requires-in-Sort
evaluate-evaluate-requires-in-Sort = flats.evaluate-evaluate-requires-in-Sort

pub evaluate-any_column-requires : goal.evaluate-any_column-requires
evaluate-any_column-requires = flats.evaluate-any_column-requires

pub evaluate-line_column-requires : goal.evaluate-line_column-requires
evaluate-line_column-requires = flats.evaluate-line_column-requires

pub covers::cover-cover_some-requires : goal.covers::cover-cover_some-requires
covers::cover-cover_some-requires = flats.covers::cover-cover_some-requires

pub covers::cover-cover_all-requires : goal.covers::cover-cover_all-requires
covers::cover-cover_all-requires = flats.covers::cover-cover_all-requires

pub covers::cover-cover_other_nodes-requires : goal.covers::cover-cover_other_nodes-requires
covers::cover-cover_other_nodes-requires = flats.covers::cover-cover_other_nodes-requires

pub covers::cover-cover_played-requires : goal.covers::cover-cover_played-requires
covers::cover-cover_played-requires = flats.covers::cover-cover_played-requires

pub covers::cover-cover_related-requires : goal.covers::cover-cover_related-requires
covers::cover-cover_related-requires = flats.covers::cover-cover_related-requires

pub covers::cover_set-cover_each-requires : goal.covers::cover_set-cover_each-requires
covers::cover_set-cover_each-requires = flats.covers::cover_set-cover_each-requires

pub covers::cover_set-cover_set-requires : goal.covers::cover_set-cover_set-requires
covers::cover_set-cover_set-requires = flats.covers::cover_set-cover_set-requires

pub covers::cover_set-cover_related-requires : goal.covers::cover_set-cover_related-requires
covers::cover_set-cover_related-requires = flats.covers::cover_set-cover_related-requires

pub cover_squares::cover_square-cover_inner-requires : goal.cover_squares::cover_square-cover_inner-requires
cover_squares::cover_square-cover_inner-requires = flats.cover_squares::cover_square-cover_inner-requires

pub goals::goal_truths-goal_met-requires : goal.goals::goal_truths-goal_met-requires
goals::goal_truths-goal_met-requires = flats.goals::goal_truths-goal_met-requires

-- chains
pub chain_column-returns-in_ok-left-in-And-clause-value : goal.chain_column-returns-in_ok-left-in-And-clause-value
chain_column-returns-in_ok-left-in-And-clause-value = chains.chain_column-returns-in_ok-left-in-And-clause-value

pub chain_column-returns-in_ok-left-in-And-clause-cost : goal.chain_column-returns-in_ok-left-in-And-clause-cost
chain_column-returns-in_ok-left-in-And-clause-cost = chains.chain_column-returns-in_ok-left-in-And-clause-cost

pub chain_column-returns-in_err-left-in-And-clause-cost : goal.chain_column-returns-in_err-left-in-And-clause-cost
chain_column-returns-in_err-left-in-And-clause-cost = chains.chain_column-returns-in_err-left-in-And-clause-cost

pub chains::some_column-returns-clause-value : goal.chains::some_column-returns-clause-value
chains::some_column-returns-clause-value = chains.chains::some_column-returns-clause-value

pub chains::some_column-returns-clause-cost : goal.chains::some_column-returns-clause-cost
chains::some_column-returns-clause-cost = chains.chains::some_column-returns-clause-cost

pub chains::some_column-returns-in_err-fails-clause-cost : goal.chains::some_column-returns-in_err-fails-clause-cost
chains::some_column-returns-in_err-fails-clause-cost = chains.chains::some_column-returns-in_err-fails-clause-cost

pub chains::left_by-loop-class-init : goal.chains::left_by-loop-class-init
chains::left_by-loop-class-init = chains.chains::left_by-loop-class-init

pub chains::left_by-narrow_by_class-requires : goal.chains::left_by-narrow_by_class-requires
chains::left_by-narrow_by_class-requires = chains.chains::left_by-narrow_by_class-requires

pub chains::left_by-loop-class-preserved : goal.chains::left_by-loop-class-preserved
chains::left_by-loop-class-preserved = chains.chains::left_by-loop-class-preserved

pub chains::left_by-returns-clause-left : goal.chains::left_by-returns-clause-left
chains::left_by-returns-clause-left = chains.chains::left_by-returns-clause-left

pub chains::left_by-returns-clause-cost : goal.chains::left_by-returns-clause-cost
chains::left_by-returns-clause-cost = chains.chains::left_by-returns-clause-cost

pub chains::left_by-returns-in_err-narrow_by_class-clause-cost : goal.chains::left_by-returns-in_err-narrow_by_class-clause-cost
chains::left_by-returns-in_err-narrow_by_class-clause-cost = chains.chains::left_by-returns-in_err-narrow_by_class-clause-cost

pub chains::narrow_by_class-returns-then-not-may_have-clause-left : goal.chains::narrow_by_class-returns-then-not-may_have-clause-left
chains::narrow_by_class-returns-then-not-may_have-clause-left = chains.chains::narrow_by_class-returns-then-not-may_have-clause-left

pub chains::narrow_by_class-loop-filter-init : goal.chains::narrow_by_class-loop-filter-init
chains::narrow_by_class-loop-filter-init = chains.chains::narrow_by_class-loop-filter-init

pub chains::narrow_by_class-loop-filter-preserved : goal.chains::narrow_by_class-loop-filter-preserved
chains::narrow_by_class-loop-filter-preserved = chains.chains::narrow_by_class-loop-filter-preserved

pub chains::narrow_by_class-returns-clause-left : goal.chains::narrow_by_class-returns-clause-left
chains::narrow_by_class-returns-clause-left = chains.chains::narrow_by_class-returns-clause-left

pub chains::narrow_by_class-returns-in_err-narrow_if_of_class-clause-cost : goal.chains::narrow_by_class-returns-in_err-narrow_if_of_class-clause-cost
chains::narrow_by_class-returns-in_err-narrow_if_of_class-clause-cost = chains.chains::narrow_by_class-returns-in_err-narrow_if_of_class-clause-cost

pub chains::narrow_if_of_class-returns-then-not-is_of_class-clause-left : goal.chains::narrow_if_of_class-returns-then-not-is_of_class-clause-left
chains::narrow_if_of_class-returns-then-not-is_of_class-clause-left = chains.chains::narrow_if_of_class-returns-then-not-is_of_class-clause-left

pub chains::narrow_if_of_class-returns-then-fails_everywhere-clause-left : goal.chains::narrow_if_of_class-returns-then-fails_everywhere-clause-left
chains::narrow_if_of_class-returns-then-fails_everywhere-clause-left = chains.chains::narrow_if_of_class-returns-then-fails_everywhere-clause-left

pub chains::narrow_if_of_class-returns-in-Some-clause-left : goal.chains::narrow_if_of_class-returns-in-Some-clause-left
chains::narrow_if_of_class-returns-in-Some-clause-left = chains.chains::narrow_if_of_class-returns-in-Some-clause-left

pub chains::narrow_if_of_class-returns-clause-left : goal.chains::narrow_if_of_class-returns-clause-left
chains::narrow_if_of_class-returns-clause-left = chains.chains::narrow_if_of_class-returns-clause-left

pub chains::narrow_if_of_class-returns-clause-cost : goal.chains::narrow_if_of_class-returns-clause-cost
chains::narrow_if_of_class-returns-clause-cost = chains.chains::narrow_if_of_class-returns-clause-cost

pub chains::narrow_if_of_class-returns-in_err-column-clause-cost : goal.chains::narrow_if_of_class-returns-in_err-column-clause-cost
chains::narrow_if_of_class-returns-in_err-column-clause-cost = chains.chains::narrow_if_of_class-returns-in_err-column-clause-cost

pub chains::columns_of-loop-filter-init : goal.chains::columns_of-loop-filter-init
chains::columns_of-loop-filter-init = chains.chains::columns_of-loop-filter-init

pub chains::columns_of-loop-filter-preserved : goal.chains::columns_of-loop-filter-preserved
chains::columns_of-loop-filter-preserved = chains.chains::columns_of-loop-filter-preserved

pub chains::columns_of-returns-clause-value : goal.chains::columns_of-returns-clause-value
chains::columns_of-returns-clause-value = chains.chains::columns_of-returns-clause-value

pub chains::columns_of-returns-in_err-column-clause-cost : goal.chains::columns_of-returns-in_err-column-clause-cost
chains::columns_of-returns-in_err-column-clause-cost = chains.chains::columns_of-returns-in_err-column-clause-cost

pub chains::terms_of-loop-term-init : goal.chains::terms_of-loop-term-init
chains::terms_of-loop-term-init = chains.chains::terms_of-loop-term-init

pub chains::terms_of-loop-term-preserved : goal.chains::terms_of-loop-term-preserved
chains::terms_of-loop-term-preserved = chains.chains::terms_of-loop-term-preserved

pub chains::terms_of-returns-clause-value : goal.chains::terms_of-returns-clause-value
chains::terms_of-returns-clause-value = chains.chains::terms_of-returns-clause-value

pub chains::terms_of-returns-in_err-column-clause-cost : goal.chains::terms_of-returns-in_err-column-clause-cost
chains::terms_of-returns-in_err-column-clause-cost = chains.chains::terms_of-returns-in_err-column-clause-cost

pub chains::columns_of-returns-in_err-push-clause-cost : goal.chains::columns_of-returns-in_err-push-clause-cost
chains::columns_of-returns-in_err-push-clause-cost = chains.chains::columns_of-returns-in_err-push-clause-cost

pub chains::terms_of-returns-in_err-push-clause-cost : goal.chains::terms_of-returns-in_err-push-clause-cost
chains::terms_of-returns-in_err-push-clause-cost = chains.chains::terms_of-returns-in_err-push-clause-cost

-- the move filter
pub played::played_column-returns-clause-value : goal.played::played_column-returns-clause-value
played::played_column-returns-clause-value = moves.played::played_column-returns-clause-value

pub played::written_column-returns-in_err-column-in-Some-clause-cost : goal.played::written_column-returns-in_err-column-in-Some-clause-cost
played::written_column-returns-in_err-column-in-Some-clause-cost = moves.played::written_column-returns-in_err-column-in-Some-clause-cost

pub played::written_column-returns-in_ok-column-in-Some-clause-cost : goal.played::written_column-returns-in_ok-column-in-Some-clause-cost
played::written_column-returns-in_ok-column-in-Some-clause-cost = moves.played::written_column-returns-in_ok-column-in-Some-clause-cost

pub played::played_column-returns-in_err-parts-clause-cost : goal.played::played_column-returns-in_err-parts-clause-cost
played::played_column-returns-in_err-parts-clause-cost = moves.played::played_column-returns-in_err-parts-clause-cost

pub played::played_column-returns-in_err-goal-clause-cost : goal.played::played_column-returns-in_err-goal-clause-cost
played::played_column-returns-in_err-goal-clause-cost = moves.played::played_column-returns-in_err-goal-clause-cost

pub played::played_column-returns-clause-cost : goal.played::played_column-returns-clause-cost
played::played_column-returns-clause-cost = moves.played::played_column-returns-clause-cost

pub played::part_columns-returns-clause-value : goal.played::part_columns-returns-clause-value
played::part_columns-returns-clause-value = moves.played::part_columns-returns-clause-value

pub played::written_column-returns-in_ok-column-in-Some-clause-value : goal.played::written_column-returns-in_ok-column-in-Some-clause-value
played::written_column-returns-in_ok-column-in-Some-clause-value = moves.played::written_column-returns-in_ok-column-in-Some-clause-value

pub played::written_column-returns-in-None-clause-value : goal.played::written_column-returns-in-None-clause-value
played::written_column-returns-in-None-clause-value = moves.played::written_column-returns-in-None-clause-value

-- lines
pub lines::put_row-loop-part-init : goal.lines::put_row-loop-part-init
lines::put_row-loop-part-init = lines.lines::put_row-loop-part-init

pub lines::put_row-loop-part-preserved : goal.lines::put_row-loop-part-preserved
lines::put_row-loop-part-preserved = lines.lines::put_row-loop-part-preserved

pub lines::put_row-returns-clause-next : goal.lines::put_row-returns-clause-next
lines::put_row-returns-clause-next = lines.lines::put_row-returns-clause-next

pub lines::put_row-returns-clause-value : goal.lines::put_row-returns-clause-value
lines::put_row-returns-clause-value = lines.lines::put_row-returns-clause-value

pub lines::put_row-returns-clause-never : goal.lines::put_row-returns-clause-never
lines::put_row-returns-clause-never = lines.lines::put_row-returns-clause-never

pub lines::put_row-returns-clause-others : goal.lines::put_row-returns-clause-others
lines::put_row-returns-clause-others = lines.lines::put_row-returns-clause-others

pub lines::put_row-returns-in_err-at-clause-cost : goal.lines::put_row-returns-in_err-at-clause-cost
lines::put_row-returns-in_err-at-clause-cost = lines.lines::put_row-returns-in_err-at-clause-cost

pub lines::put_wherever-put_nodes-requires-clause-atom : goal.lines::put_wherever-put_nodes-requires-clause-atom
lines::put_wherever-put_nodes-requires-clause-atom = lines.lines::put_wherever-put_nodes-requires-clause-atom

pub lines::put_wherever-put_nodes-requires-clause-clear : goal.lines::put_wherever-put_nodes-requires-clause-clear
lines::put_wherever-put_nodes-requires-clause-clear = lines.lines::put_wherever-put_nodes-requires-clause-clear

pub lines::put_wherever-returns-in_ok-held-in-Atom-clause-value : goal.lines::put_wherever-returns-in_ok-held-in-Atom-clause-value
lines::put_wherever-returns-in_ok-held-in-Atom-clause-value = lines.lines::put_wherever-returns-in_ok-held-in-Atom-clause-value

pub lines::put_wherever-returns-in_ok-held-in-Atom-clause-never : goal.lines::put_wherever-returns-in_ok-held-in-Atom-clause-never
lines::put_wherever-returns-in_ok-held-in-Atom-clause-never = lines.lines::put_wherever-returns-in_ok-held-in-Atom-clause-never

pub lines::put_part-returns-clause-leads : goal.lines::put_part-returns-clause-leads
lines::put_part-returns-clause-leads = lines.lines::put_part-returns-clause-leads

pub lines::put_part-returns-clause-ends : goal.lines::put_part-returns-clause-ends
lines::put_part-returns-clause-ends = lines.lines::put_part-returns-clause-ends

pub lines::put_once-returns-in_ok-behind-in-Atom-clause-leads : goal.lines::put_once-returns-in_ok-behind-in-Atom-clause-leads
lines::put_once-returns-in_ok-behind-in-Atom-clause-leads = lines.lines::put_once-returns-in_ok-behind-in-Atom-clause-leads

pub lines::put_once-returns-in_ok-behind-in-Atom-clause-ends : goal.lines::put_once-returns-in_ok-behind-in-Atom-clause-ends
lines::put_once-returns-in_ok-behind-in-Atom-clause-ends = lines.lines::put_once-returns-in_ok-behind-in-Atom-clause-ends

pub lines::put_once-returns-in_ok-starts-in-Group-clause-leads : goal.lines::put_once-returns-in_ok-starts-in-Group-clause-leads
lines::put_once-returns-in_ok-starts-in-Group-clause-leads = lines.lines::put_once-returns-in_ok-starts-in-Group-clause-leads

pub lines::put_once-returns-in_ok-starts-in-Group-clause-ends : goal.lines::put_once-returns-in_ok-starts-in-Group-clause-ends
lines::put_once-returns-in_ok-starts-in-Group-clause-ends = lines.lines::put_once-returns-in_ok-starts-in-Group-clause-ends

pub lines::put_part-returns-in-Once-clause-ends : goal.lines::put_part-returns-in-Once-clause-ends
lines::put_part-returns-in-Once-clause-ends = lines.lines::put_part-returns-in-Once-clause-ends

pub lines::put_atom_once-returns-clause-leads : goal.lines::put_atom_once-returns-clause-leads
lines::put_atom_once-returns-clause-leads = lines.lines::put_atom_once-returns-clause-leads

pub lines::put_atom_once-put_nodes-requires-clause-atom : goal.lines::put_atom_once-put_nodes-requires-clause-atom
lines::put_atom_once-put_nodes-requires-clause-atom = lines.lines::put_atom_once-put_nodes-requires-clause-atom

pub lines::put_atom_once-put_nodes-requires-clause-clear : goal.lines::put_atom_once-put_nodes-requires-clause-clear
lines::put_atom_once-put_nodes-requires-clause-clear = lines.lines::put_atom_once-put_nodes-requires-clause-clear

pub lines::line_column-returns-then-not-met-clause-value : goal.lines::line_column-returns-then-not-met-clause-value
lines::line_column-returns-then-not-met-clause-value = lines.lines::line_column-returns-then-not-met-clause-value

pub lines::line_column-returns-then-not-met-clause-cost : goal.lines::line_column-returns-then-not-met-clause-cost
lines::line_column-returns-then-not-met-clause-cost = lines.lines::line_column-returns-then-not-met-clause-cost

pub lines::line_column-returns-clause-value : goal.lines::line_column-returns-clause-value
lines::line_column-returns-clause-value = lines.lines::line_column-returns-clause-value

pub lines::line_column-returns-clause-cost : goal.lines::line_column-returns-clause-cost
lines::line_column-returns-clause-cost = lines.lines::line_column-returns-clause-cost

pub lines::line_column-returns-in_err-put_row-clause-cost : goal.lines::line_column-returns-in_err-put_row-clause-cost
lines::line_column-returns-in_err-put_row-clause-cost = lines.lines::line_column-returns-in_err-put_row-clause-cost

pub lines::put_wherever-returns-in_err-column-in-Atom-clause-cost : goal.lines::put_wherever-returns-in_err-column-in-Atom-clause-cost
lines::put_wherever-returns-in_err-column-in-Atom-clause-cost = lines.lines::put_wherever-returns-in_err-column-in-Atom-clause-cost

pub lines::put_wherever-returns-in_err-held-in-Atom-clause-cost : goal.lines::put_wherever-returns-in_err-held-in-Atom-clause-cost
lines::put_wherever-returns-in_err-held-in-Atom-clause-cost = lines.lines::put_wherever-returns-in_err-held-in-Atom-clause-cost

pub lines::put_wherever-returns-in_ok-held-in-Atom-clause-cost : goal.lines::put_wherever-returns-in_ok-held-in-Atom-clause-cost
lines::put_wherever-returns-in_ok-held-in-Atom-clause-cost = lines.lines::put_wherever-returns-in_ok-held-in-Atom-clause-cost

pub lines::put_wherever-returns-in-Group-clause-cost : goal.lines::put_wherever-returns-in-Group-clause-cost
lines::put_wherever-returns-in-Group-clause-cost = lines.lines::put_wherever-returns-in-Group-clause-cost

pub lines::put_once-returns-in_err-behind-in-Atom-clause-cost : goal.lines::put_once-returns-in_err-behind-in-Atom-clause-cost
lines::put_once-returns-in_err-behind-in-Atom-clause-cost = lines.lines::put_once-returns-in_err-behind-in-Atom-clause-cost

pub lines::put_once-returns-in_ok-behind-in-Atom-clause-cost : goal.lines::put_once-returns-in_ok-behind-in-Atom-clause-cost
lines::put_once-returns-in_ok-behind-in-Atom-clause-cost = lines.lines::put_once-returns-in_ok-behind-in-Atom-clause-cost

pub lines::put_once-returns-in_err-next-in-Group-clause-cost : goal.lines::put_once-returns-in_err-next-in-Group-clause-cost
lines::put_once-returns-in_err-next-in-Group-clause-cost = lines.lines::put_once-returns-in_err-next-in-Group-clause-cost

pub lines::put_once-returns-in_err-starts-in-Group-clause-cost : goal.lines::put_once-returns-in_err-starts-in-Group-clause-cost
lines::put_once-returns-in_err-starts-in-Group-clause-cost = lines.lines::put_once-returns-in_err-starts-in-Group-clause-cost

pub lines::put_once-returns-in_ok-starts-in-Group-clause-cost : goal.lines::put_once-returns-in_ok-starts-in-Group-clause-cost
lines::put_once-returns-in_ok-starts-in-Group-clause-cost = lines.lines::put_once-returns-in_ok-starts-in-Group-clause-cost

-- squares that are tried
pub squares::square_truths-loop-number-init : goal.squares::square_truths-loop-number-init
squares::square_truths-loop-number-init = squares.squares::square_truths-loop-number-init

pub squares::square_truths-loop-number-preserved : goal.squares::square_truths-loop-number-preserved
squares::square_truths-loop-number-preserved = squares.squares::square_truths-loop-number-preserved

pub squares::square_truths-returns-clause-value : goal.squares::square_truths-returns-clause-value
squares::square_truths-returns-clause-value = squares.squares::square_truths-returns-clause-value

pub squares::square_truths-returns-in-Some-clause-value : goal.squares::square_truths-returns-in-Some-clause-value
squares::square_truths-returns-in-Some-clause-value = squares.squares::square_truths-returns-in-Some-clause-value

pub squares::square_turn-returns-clause-value : goal.squares::square_turn-returns-clause-value
squares::square_turn-returns-clause-value = squares.squares::square_turn-returns-clause-value

pub squares::square_turn-returns-then-not-any_live-clause-value : goal.squares::square_turn-returns-then-not-any_live-clause-value
squares::square_turn-returns-then-not-any_live-clause-value = squares.squares::square_turn-returns-then-not-any_live-clause-value

pub squares::square_turn-returns-then-not-has_square-clause-value : goal.squares::square_turn-returns-then-not-has_square-clause-value
squares::square_turn-returns-then-not-has_square-clause-value = squares.squares::square_turn-returns-then-not-has_square-clause-value

pub squares::covered_sets-returns-clause-worth : goal.squares::covered_sets-returns-clause-worth
squares::covered_sets-returns-clause-worth = squares.squares::covered_sets-returns-clause-worth

pub squares::square_filter_truths-returns-clause-value : goal.squares::square_filter_truths-returns-clause-value
squares::square_filter_truths-returns-clause-value = squares.squares::square_filter_truths-returns-clause-value

-- squares that are tried all at once
pub goals::goal_truths-returns-in-Played-clause-value : goal.goals::goal_truths-returns-in-Played-clause-value
goals::goal_truths-returns-in-Played-clause-value = goals.goals::goal_truths-returns-in-Played-clause-value

pub goals::goal_truths-loop-part-init : goal.goals::goal_truths-loop-part-init
goals::goal_truths-loop-part-init = goals.goals::goal_truths-loop-part-init

pub goals::goal_truths-returns-in-loop-part-clause-value : goal.goals::goal_truths-returns-in-loop-part-clause-value
goals::goal_truths-returns-in-loop-part-clause-value = goals.goals::goal_truths-returns-in-loop-part-clause-value

pub goals::goal_met-returns-clause-value : goal.goals::goal_met-returns-clause-value
goals::goal_met-returns-clause-value = goals.goals::goal_met-returns-clause-value

-- the squares that are worth trying
pub covers::cover-returns-then-gives_only_name-clause-cut : goal.covers::cover-returns-then-gives_only_name-clause-cut
covers::cover-returns-then-gives_only_name-clause-cut = covers.covers::cover-returns-then-gives_only_name-clause-cut

pub covers::cover-returns-then-is_disjunction-clause-cut : goal.covers::cover-returns-then-is_disjunction-clause-cut
covers::cover-returns-then-is_disjunction-clause-cut = covers.covers::cover-returns-then-is_disjunction-clause-cut

pub covers::cover-returns-else-not-is_conjunction-clause-cut : goal.covers::cover-returns-else-not-is_conjunction-clause-cut
covers::cover-returns-else-not-is_conjunction-clause-cut = covers.covers::cover-returns-else-not-is_conjunction-clause-cut

pub covers::cover_set-returns-else-not-is_intersection-clause-cut : goal.covers::cover_set-returns-else-not-is_intersection-clause-cut
covers::cover_set-returns-else-not-is_intersection-clause-cut = covers.covers::cover_set-returns-else-not-is_intersection-clause-cut

pub covers::cover-returns-in-Played-clause-cut : goal.covers::cover-returns-in-Played-clause-cut
covers::cover-returns-in-Played-clause-cut = covers.covers::cover-returns-in-Played-clause-cut

pub cover_moves::cover_played-returns-then-not-asks_without-clause-cut : goal.cover_moves::cover_played-returns-then-not-asks_without-clause-cut
cover_moves::cover_played-returns-then-not-asks_without-clause-cut = covers.cover_moves::cover_played-returns-then-not-asks_without-clause-cut

pub cover_moves::cover_played-returns-clause-cut : goal.cover_moves::cover_played-returns-clause-cut
cover_moves::cover_played-returns-clause-cut = covers.cover_moves::cover_played-returns-clause-cut

pub cover_moves::independent_columns-returns-clause-asks : goal.cover_moves::independent_columns-returns-clause-asks
cover_moves::independent_columns-returns-clause-asks = covers.cover_moves::independent_columns-returns-clause-asks

pub cover_moves::independent_column-returns-clause-asks : goal.cover_moves::independent_column-returns-clause-asks
cover_moves::independent_column-returns-clause-asks = covers.cover_moves::independent_column-returns-clause-asks

pub covers::cover_all-loop-class-init : goal.covers::cover_all-loop-class-init
covers::cover_all-loop-class-init = covers.covers::cover_all-loop-class-init

pub covers::cover_all-loop-class-preserved : goal.covers::cover_all-loop-class-preserved
covers::cover_all-loop-class-preserved = covers.covers::cover_all-loop-class-preserved

pub covers::cover_class-loop-part-init : goal.covers::cover_class-loop-part-init
covers::cover_class-loop-part-init = covers.covers::cover_class-loop-part-init

pub covers::cover_class-loop-part-preserved : goal.covers::cover_class-loop-part-preserved
covers::cover_class-loop-part-preserved = covers.covers::cover_class-loop-part-preserved

pub covers::cover_each-loop-part-init : goal.covers::cover_each-loop-part-init
covers::cover_each-loop-part-init = covers.covers::cover_each-loop-part-init

pub covers::cover_each-loop-part-preserved : goal.covers::cover_each-loop-part-preserved
covers::cover_each-loop-part-preserved = covers.covers::cover_each-loop-part-preserved

pub covers::cover_set-returns-in_ok-cover_set-in-Pair-clause-cut : goal.covers::cover_set-returns-in_ok-cover_set-in-Pair-clause-cut
covers::cover_set-returns-in_ok-cover_set-in-Pair-clause-cut = covers.covers::cover_set-returns-in_ok-cover_set-in-Pair-clause-cut

pub covers::cover-returns-else-not-gives_only_name-clause-cut : goal.covers::cover-returns-else-not-gives_only_name-clause-cut
covers::cover-returns-else-not-gives_only_name-clause-cut = covers.covers::cover-returns-else-not-gives_only_name-clause-cut

pub cover_squares::cover_square-returns-in_ok-cover_inner-in-Square-clause-cut : goal.cover_squares::cover_square-returns-in_ok-cover_inner-in-Square-clause-cut
cover_squares::cover_square-returns-in_ok-cover_inner-in-Square-clause-cut = covers.cover_squares::cover_square-returns-in_ok-cover_inner-in-Square-clause-cut

pub cover_squares::cover_inner-returns-clause-cut : goal.cover_squares::cover_inner-returns-clause-cut
cover_squares::cover_inner-returns-clause-cut = covers.cover_squares::cover_inner-returns-clause-cut

pub cover_squares::cover_pair-returns-clause-cut : goal.cover_squares::cover_pair-returns-clause-cut
cover_squares::cover_pair-returns-clause-cut = covers.cover_squares::cover_pair-returns-clause-cut

pub covers::cover_other_nodes-returns-clause-cut : goal.covers::cover_other_nodes-returns-clause-cut
covers::cover_other_nodes-returns-clause-cut = covers.covers::cover_other_nodes-returns-clause-cut

pub covers::cover-returns-in-Unary-clause-cut : goal.covers::cover-returns-in-Unary-clause-cut
covers::cover-returns-in-Unary-clause-cut = covers.covers::cover-returns-in-Unary-clause-cut

pub cover_some::cover_some-loop-part-init : goal.cover_some::cover_some-loop-part-init
cover_some::cover_some-loop-part-init = covers.cover_some::cover_some-loop-part-init

pub cover_some::cover_some-loop-part-preserved : goal.cover_some::cover_some-loop-part-preserved
cover_some::cover_some-loop-part-preserved = covers.cover_some::cover_some-loop-part-preserved

pub cover_some::cover_some-returns-clause-cut : goal.cover_some::cover_some-returns-clause-cut
cover_some::cover_some-returns-clause-cut = covers.cover_some::cover_some-returns-clause-cut

pub cover_some::add_covered-returns-clause-added : goal.cover_some::add_covered-returns-clause-added
cover_some::add_covered-returns-clause-added = covers.cover_some::add_covered-returns-clause-added

pub covers::cover_independent-returns : goal.covers::cover_independent-returns
covers::cover_independent-returns = covers.covers::cover_independent-returns

pub covers::cover_independent-returns-in_err-column-clause-cost : goal.covers::cover_independent-returns-in_err-column-clause-cost
covers::cover_independent-returns-in_err-column-clause-cost = covers.covers::cover_independent-returns-in_err-column-clause-cost

pub covers::cover_independent_set-returns : goal.covers::cover_independent_set-returns
covers::cover_independent_set-returns = covers.covers::cover_independent_set-returns

pub covers::cover_independent_set-returns-in_err-column-clause-cost : goal.covers::cover_independent_set-returns-in_err-column-clause-cost
covers::cover_independent_set-returns-in_err-column-clause-cost = covers.covers::cover_independent_set-returns-in_err-column-clause-cost

pub covers::cover_related-returns : goal.covers::cover_related-returns
covers::cover_related-returns = covers.covers::cover_related-returns

pub covers::cover_related-returns-in_err-column-clause-cost : goal.covers::cover_related-returns-in_err-column-clause-cost
covers::cover_related-returns-in_err-column-clause-cost = covers.covers::cover_related-returns-in_err-column-clause-cost
