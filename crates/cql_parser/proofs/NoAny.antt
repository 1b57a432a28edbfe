-- No filter of a query that tokens spell is an `Any`, which no text has.
use Rattle.std.proofs.Common.{◌≡◌, ℕ, ◌==◌, Bool, true, false, List, [], ◌∷◌, ◌++◌, Option, Some, None, refl, sym, ap, ◌∙◌, subst}
use Rattle.std.specs.Prelude.{◌||◌}
use Rattle.std.specs.List.{list_any}
use Rattle.cql_syntax.specs.Kinds.{chain_kind}
use Rattle.cql_syntax.specs.Occurrences.{TypingContext, Occurrence, occurrences, inner, all_of, of_terms, of_line, of_played, of_written, of_parts, of_body, of_items, top_item, sorts_with, all_occurrences, part_of, part_of_square, square_condition}
use Rattle.cql_syntax.specs.OperandKinds.{unary_operand_kind, pair_operand_kind}
use Rattle.cql_syntax.specs.TreeFaults.{is_any, has_any}
use Rattle.cql_syntax.specs.Trees.{FilterTree, filter_at, FormTree, designator, number, name, plain, tagged, outcome, elo, unary, direction, chain, sum_of, pair, if_, square, line, played, transform, sort, comment, any, FilterTrees, no_filters, more_filters, with_filter, TermTrees, no_terms, more_terms, with_term, PartTrees, no_parts, more_parts, with_part, BodyTree, atom, group, WrittenTree, left_out, written, QueryTree}
use Rattle.cql_syntax.specs.Words.{word_of, sign_of}
use Rattle.cql_syntax.specs.declared.leaves.Kind.TheVariants.{Position, Set, Number as NumberKind}
use Rattle.cql_syntax.specs.declared.leaves.Mark.{Mark}
use Rattle.cql_syntax.specs.declared.token.QueryToken.{QueryToken}
use Rattle.cql_syntax.specs.declared.token.QueryTokenKind.{QueryTokenKind}
use Rattle.cql_syntax.specs.declared.token.QueryTokenKind.TheVariants as tokens
use Rattle.cql_syntax.specs.declared.words.Sign.{Sign}
use Rattle.cql_syntax.specs.declared.words.Sign.TheVariants as signs
use Rattle.cql_syntax.specs.declared.words.Word.{Word}
use Rattle.cql_syntax.specs.declared.words.Word.TheVariants as meanings
use Rattle.cql_parser.specs.declared.production.Production.{Production}
use Rattle.cql_parser.specs.declared.production.Production.TheVariants as productions
use Rattle.cql_parser.specs.declared.rule_state.RuleState.{RuleState}
use Rattle.cql_parser.specs.declared.rule_state.RuleState.TheVariants as places
use Rattle.cql_parser.specs.declared.role.InfixOperator.{InfixOperator}
use Rattle.cql_parser.specs.declared.role.InfixOperator.TheVariants.{Chained, Added, Paired}
use Rattle.cql_parser.specs.RuleStates.{infix_level}
use Rattle.cql_parser.specs.Grammar.{Phrase, made, joined, Parts, first, add, put, end, level, Items, none, more}
use Rattle.cql_parser.specs.PartialFilters.{Node, a_filter, a_group, PartialFilter, partial_filter_of, with_body, with_word, with_sign, with_number, say, body_of, filter_of, take, need, form, form_of, node_by, node_of, new_infix, longer_infix, infix_of, infix_node, node, draft, trees, opening, Spells}

abbrev has : List Occurrence → Bool
has os = list_any (λ o. is_any o.form) os

neither : (a b : Bool) → a ≡ false → b ≡ false → (a || b) ≡ false
neither true b e f = cc
neither false b e f = f

not_first : (a b : Bool) → (a || b) ≡ false → a ≡ false
not_first true b e = cc
not_first false b e = refl

not_second : (a b : Bool) → (a || b) ≡ false → b ≡ false
not_second true b e = cc
not_second false b e = e

has_both : (os ps : List Occurrence) → has os ≡ false → has ps ≡ false → has (os ++ ps) ≡ false
has_both [] ps e f = f
has_both (o ∷ os) ps e f = neither (is_any o.form) (has (os ++ ps)) (not_first (is_any o.form) (has os) e) (has_both os ps (not_second (is_any o.form) (has os) e) f)

has_first : (os ps : List Occurrence) → has (os ++ ps) ≡ false → has os ≡ false
has_first [] ps e = refl
has_first (o ∷ os) ps e = neither (is_any o.form) (has os) (not_first (is_any o.form) (has (os ++ ps)) e) (has_first os ps (not_second (is_any o.form) (has (os ++ ps)) e))

has_second : (os ps : List Occurrence) → has (os ++ ps) ≡ false → has ps ≡ false
has_second [] ps e = e
has_second (o ∷ os) ps e = has_second os ps (not_second (is_any o.form) (has (os ++ ps)) e)

-- in no context has the filter an `Any`
abbrev Free : FilterTree → Type 0
Free f = (s : TypingContext) → has (occurrences s f) ≡ false

abbrev FreeForm : FormTree → Type 0
FreeForm f = (is_any f ≡ false) × ((s : TypingContext) → has (inner s f) ≡ false)

abbrev FreeRow : FilterTrees → Type 0
FreeRow fs = (s : TypingContext) → has (all_of s fs) ≡ false

abbrev FreeTerms : TermTrees → Type 0
FreeTerms ts = (s : TypingContext) → has (of_terms s ts) ≡ false

abbrev FreeParts : PartTrees → Type 0
FreeParts cs = (s : TypingContext) → has (of_parts s cs) ≡ false

abbrev FreeBody : BodyTree → Type 0
FreeBody b = (s : TypingContext) → has (of_body s b) ≡ false

abbrev FreeWritten : WrittenTree → Type 0
FreeWritten w = (s : TypingContext) → has (of_written s w) ≡ false

abbrev FreeOption : Option BodyTree → Type 0
FreeOption None = Unit {0}
FreeOption (Some b) = FreeBody b

abbrev FreeNode : Node → Type 0
FreeNode (a_filter f) = Free f
FreeNode (a_group cs) = FreeParts cs

free_at : (at : ℕ) (f : FormTree) → FreeForm f → Free (filter_at at f)
unfolding occurrences
free_at at f free s = neither (is_any f) (has (inner s f)) free.0 (free.1 s)

free_inside : (at : ℕ) (f : FormTree) → TypingContext → Free (filter_at at f) → FreeForm f
unfolding occurrences
free_inside at f t free = (not_first (is_any f) (has (inner t f)) (free t), λ s. not_second (is_any f) (has (inner s f)) (free s))

no_row : FreeRow no_filters
unfolding all_of
no_row s = refl

no_part : FreeParts no_parts
unfolding of_parts
no_part s = refl

none_written : FreeWritten left_out
unfolding of_written
none_written s = refl

is_written : (f : FilterTree) → Free f → FreeWritten (written f)
unfolding of_written
is_written f free s = free s

written_is : (f : FilterTree) → FreeWritten (written f) → Free f
unfolding of_written
written_is f free s = free s

-- rows in one context
abbrev RowAt : TypingContext → FilterTrees → Type 0
RowAt s fs = has (all_of s fs) ≡ false

one_row : (s : TypingContext) (f : FilterTree) (fs : FilterTrees) → has (occurrences s f) ≡ false → RowAt s fs → RowAt s (more_filters f fs)
unfolding all_of
one_row s f fs free frees = has_both (occurrences s f) (all_of s fs) free frees

row_on : (s : TypingContext) (fs : FilterTrees) (g : FilterTree) → RowAt s fs → has (occurrences s g) ≡ false → RowAt s (with_filter fs g)
unfolding all_of
row_on s no_filters g frees free = one_row s g no_filters free refl
row_on s (more_filters f fs) g frees free =
    one_row s f (with_filter fs g) (has_first (occurrences s f) (all_of s fs) frees) (row_on s fs g (has_second (occurrences s f) (all_of s fs) frees) free)

no_term : FreeTerms no_terms
unfolding of_terms
no_term s = refl

abbrev TermsAt : TypingContext → TermTrees → Type 0
TermsAt s ts = has (of_terms s ts) ≡ false

one_term : (s : TypingContext) (minus : Bool) (f : FilterTree) (ts : TermTrees) → has (occurrences s f) ≡ false → TermsAt s ts → TermsAt s (more_terms minus f ts)
unfolding of_terms
one_term s minus f ts free frees = has_both (occurrences s f) (of_terms s ts) free frees

terms_on : (s : TypingContext) (ts : TermTrees) (minus : Bool) (g : FilterTree) → TermsAt s ts → has (occurrences s g) ≡ false → TermsAt s (with_term ts minus g)
unfolding of_terms
terms_on s no_terms minus g frees free = one_term s minus g no_terms free refl
terms_on s (more_terms m f ts) minus g frees free =
    one_term s m f (with_term ts minus g) (has_first (occurrences s f) (of_terms s ts) frees) (terms_on s ts minus g (has_second (occurrences s f) (of_terms s ts) frees) free)

one_part : (b : BodyTree) (mark : Mark) (cs : PartTrees) → FreeBody b → FreeParts cs → FreeParts (more_parts b mark cs)
unfolding of_parts
one_part b mark cs free frees s = has_both (of_body s b) (of_parts s cs) (free s) (frees s)

part_first : (b : BodyTree) (mark : Mark) (cs : PartTrees) → FreeParts (more_parts b mark cs) → FreeBody b
unfolding of_parts
part_first b mark cs frees s = has_first (of_body s b) (of_parts s cs) (frees s)

part_rest : (b : BodyTree) (mark : Mark) (cs : PartTrees) → FreeParts (more_parts b mark cs) → FreeParts cs
unfolding of_parts
part_rest b mark cs frees s = has_second (of_body s b) (of_parts s cs) (frees s)

parts_on : (cs : PartTrees) (b : BodyTree) (mark : Mark) → FreeParts cs → FreeBody b → FreeParts (with_part cs b mark)
parts_on no_parts b mark frees free = one_part b mark no_parts free no_part
parts_on (more_parts a m cs) b mark frees free = one_part a m (with_part cs b mark) (part_first a m cs frees) (parts_on cs b mark (part_rest a m cs frees) free)

free_atom : (f : FilterTree) → Free f → FreeBody (atom f)
unfolding of_body
free_atom f free s = free s

free_group : (cs : PartTrees) → FreeParts cs → FreeBody (group cs)
unfolding of_body
free_group cs free s = free s

zero_free : Free (filter_at 0 (number 0))
unfolding occurrences inner
zero_free s = refl

-- the parts of a partial filter
record FreeDraft (d : PartialFilter) : Type 0 where
  one : FreeWritten d.one
  two : FreeWritten d.two
  three : FreeWritten d.three
  last : FreeWritten d.last
  row : FreeRow d.row
  parts : FreeParts d.parts
  body : FreeOption d.body

draft_free : (x : QueryToken) (place : RuleState) → FreeDraft (partial_filter_of x place)
draft_free x place = record { one = none_written; two = none_written; three = none_written; last = none_written; row = no_row; parts = no_part; body = tt }

bodies_free : (cs : PartTrees) (b : Option BodyTree) (mark : Mark) → FreeParts cs → FreeOption b → FreeParts (with_body cs b mark)
bodies_free cs None mark frees free = frees
bodies_free cs (Some b) mark frees free = parts_on cs b mark frees free

-- a partial filter with the same parts
same_free : (d e : PartialFilter) → FreeDraft d → e.one ≡ d.one → e.two ≡ d.two → e.three ≡ d.three → e.last ≡ d.last → e.row ≡ d.row → e.parts ≡ d.parts → e.body ≡ d.body → FreeDraft e
same_free d e f one two three last row parts body = record {
  one = subst FreeWritten (sym one) f.one;
  two = subst FreeWritten (sym two) f.two;
  three = subst FreeWritten (sym three) f.three;
  last = subst FreeWritten (sym last) f.last;
  row = subst FreeRow (sym row) f.row;
  parts = subst FreeParts (sym parts) f.parts;
  body = subst FreeOption (sym body) f.body;
}

kept_free : (d e : PartialFilter) → FreeDraft d → e.one ≡ d.one → e.two ≡ d.two → e.three ≡ d.three → e.last ≡ d.last → e.row ≡ d.row → FreeParts e.parts → FreeOption e.body → FreeDraft e
kept_free d e f one two three last row parts body = record {
  one = subst FreeWritten (sym one) f.one;
  two = subst FreeWritten (sym two) f.two;
  three = subst FreeWritten (sym three) f.three;
  last = subst FreeWritten (sym last) f.last;
  row = subst FreeRow (sym row) f.row;
  parts = parts;
  body = body;
}

word_free : (d : PartialFilter) (w : Option Word) → FreeDraft d → FreeDraft (with_word d w)
word_free d (Some meanings.White) f = same_free d _ f refl refl refl refl refl refl refl
word_free d (Some meanings.Black) f = same_free d _ f refl refl refl refl refl refl refl
word_free d (Some meanings.All) f = same_free d _ f refl refl refl refl refl refl refl
word_free d (Some meanings.Min) f = same_free d _ f refl refl refl refl refl refl refl
word_free d (Some meanings.Primary) f = same_free d _ f refl refl refl refl refl refl refl
word_free d _ f = f

sign_free : (d : PartialFilter) (s : Option Sign) → FreeDraft d → FreeDraft (with_sign d s)
sign_free d (Some signs.Arrow) f = kept_free d _ f refl refl refl refl refl (bodies_free d.parts d.body d.mark f.parts f.body) tt
sign_free d (Some signs.BackArrow) f = kept_free d _ f refl refl refl refl refl (bodies_free d.parts d.body d.mark f.parts f.body) tt
sign_free d (Some signs.Star) f = same_free d _ f refl refl refl refl refl refl refl
sign_free d (Some signs.Plus) f = same_free d _ f refl refl refl refl refl refl refl
sign_free d (Some signs.Question) f = same_free d _ f refl refl refl refl refl refl refl
sign_free d _ f = f

number_free : (d : PartialFilter) (n : ℕ) (place : RuleState) → FreeDraft d → FreeDraft (with_number d n place)
number_free d n places.OneNumber f = same_free d _ f refl refl refl refl refl refl refl
number_free d n places.LineMost f = same_free d _ f refl refl refl refl refl refl refl
number_free d n (places.Count g b) f = same_free d _ f refl refl refl refl refl refl refl
number_free d n (places.UpTo g b) f = same_free d _ f refl refl refl refl refl refl refl
number_free d n _ f = same_free d _ f refl refl refl refl refl refl refl

say_free : (d : PartialFilter) (kind : QueryTokenKind) (place : RuleState) → FreeDraft d → FreeDraft (say d kind place)
say_free d (tokens.Word w) place f = word_free d (word_of w) f
say_free d (tokens.Mark m) place f = sign_free d (sign_of m) f
say_free d (tokens.Number n) place f = number_free d n place f
say_free d (tokens.Text text) place f = same_free d _ f refl refl refl refl refl refl refl
say_free d (tokens.Name text) place f = same_free d _ f refl refl refl refl refl refl refl
say_free d (tokens.Outcome o) place f = same_free d _ f refl refl refl refl refl refl refl
say_free d _ place f = f

node_body_free : (n : Node) → FreeNode n → FreeBody (body_of n)
node_body_free (a_filter f) free = free_atom f free
node_body_free (a_group cs) free = free_group cs free

filter_free : (n : Node) → FreeNode n → Free (filter_of n)
filter_free (a_filter f) free = free
filter_free (a_group cs) free = zero_free

take_free : (d : PartialFilter) (n : Node) (place : RuleState) → FreeDraft d → FreeNode n → FreeDraft (take d n place)
take_free d n places.Condition f free = record { one = is_written (filter_of n) (filter_free n free); two = f.two; three = f.three; last = f.last; row = f.row; parts = f.parts; body = f.body }
take_free d n places.SquaresDue f free = record { one = is_written (filter_of n) (filter_free n free); two = f.two; three = f.three; last = f.last; row = f.row; parts = f.parts; body = f.body }
take_free d n places.BetweenFirst f free = record { one = is_written (filter_of n) (filter_free n free); two = f.two; three = f.three; last = f.last; row = f.row; parts = f.parts; body = f.body }
take_free d n places.Origin f free = record { one = is_written (filter_of n) (filter_free n free); two = f.two; three = f.three; last = f.last; row = f.row; parts = f.parts; body = f.body }
take_free d n places.Consequence f free = record { one = f.one; two = is_written (filter_of n) (filter_free n free); three = f.three; last = f.last; row = f.row; parts = f.parts; body = f.body }
take_free d n places.BetweenSecond f free = record { one = f.one; two = is_written (filter_of n) (filter_free n free); three = f.three; last = f.last; row = f.row; parts = f.parts; body = f.body }
take_free d n places.Goal f free = record { one = f.one; two = is_written (filter_of n) (filter_free n free); three = f.three; last = f.last; row = f.row; parts = f.parts; body = f.body }
take_free d n places.Taken f free = record { one = f.one; two = f.two; three = is_written (filter_of n) (filter_free n free); last = f.last; row = f.row; parts = f.parts; body = f.body }
take_free d n places.ListFirst f free = record {
  one = f.one;
  two = f.two;
  three = f.three;
  last = f.last;
  row = λ s. row_on s d.row (filter_of n)
      (f.row s) (filter_free n free s);
  parts = f.parts;
  body = f.body;
}
take_free d n places.ListSecond f free = record {
  one = f.one;
  two = f.two;
  three = f.three;
  last = f.last;
  row = λ s. row_on s d.row (filter_of n)
      (f.row s) (filter_free n free s);
  parts = f.parts;
  body = f.body;
}
take_free d n places.ListMore f free = record {
  one = f.one;
  two = f.two;
  three = f.three;
  last = f.last;
  row = λ s. row_on s d.row (filter_of n)
      (f.row s) (filter_free n free s);
  parts = f.parts;
  body = f.body;
}
take_free d n places.Braces f free = record {
  one = f.one;
  two = f.two;
  three = f.three;
  last = f.last;
  row = λ s. row_on s d.row (filter_of n)
      (f.row s) (filter_free n free s);
  parts = f.parts;
  body = f.body;
}
take_free d n places.BracesMore f free = record {
  one = f.one;
  two = f.two;
  three = f.three;
  last = f.last;
  row = λ s. row_on s d.row (filter_of n)
      (f.row s) (filter_free n free s);
  parts = f.parts;
  body = f.body;
}
take_free d n (places.Part g b) f free = record { one = f.one; two = f.two; three = f.three; last = f.last; row = f.row; parts = f.parts; body = node_body_free n free }
take_free d n _ f free = record { one = f.one; two = f.two; three = f.three; last = is_written (filter_of n) (filter_free n free); row = f.row; parts = f.parts; body = f.body }

need_free : (w : WrittenTree) → FreeWritten w → Free (need w)
need_free left_out free = zero_free
need_free (written f) free = written_is f free

form_inside : (f : FilterTree) → TypingContext → Free f → FreeForm (form f)
form_inside (filter_at at f) s free = free_inside at f s free

-- some context, to read the filters in a filter
abbrev anywhere : TypingContext
anywhere = top_item 0

form_free : (d : PartialFilter) (m : Production) → FreeDraft d → FreeForm (form_of d m)
unfolding inner of_line of_played
form_free d (productions.Designator squares) f = (refl, λ s. refl)
form_free d (productions.Number n) f = (refl, λ s. refl)
form_free d productions.Name f = (refl, λ s. refl)
form_free d (productions.Plain word) f = (refl, λ s. refl)
form_free d productions.Outcome f = (refl, λ s. refl)
form_free d (productions.Tagged field) f = (refl, λ s. refl)
form_free d productions.Elo f = (refl, λ s. refl)
form_free d productions.Comment f = (refl, λ s. refl)
form_free d (productions.Unary u) f = (refl, λ s. need_free d.last f.last (part_of s _))
form_free d (productions.Direction way) f = (refl, λ s. need_free d.last f.last (part_of s Set))
form_free d (productions.Family family) f = (refl, λ s. need_free d.last f.last (part_of s Position))
form_free d productions.If f = (
  refl,
  λ s. has_both (occurrences (part_of s Position) (need d.one)) _ (need_free d.one f.one (part_of s Position))
      (has_both (occurrences (part_of s Position) (need d.two)) (occurrences (part_of s Position) (need d.last))
      (need_free d.two f.two (part_of s Position)) (need_free d.last f.last (part_of s Position))),
)
form_free d productions.Square f = (
  refl,
  λ s. has_both (occurrences (part_of_square s Set) (need d.one)) (occurrences (square_condition s d.text) (need d.last))
      (need_free d.one f.one (part_of_square s Set)) (need_free d.last f.last (square_condition s d.text)),
)
form_free d productions.Sort f = (refl, λ s. need_free d.last f.last (part_of s NumberKind))
form_free d productions.Between f = (
  refl,
  λ s. has_both (occurrences (part_of s _) (need d.one)) (occurrences (part_of s _) (need d.two)) (need_free d.one f.one (part_of s _)) (need_free d.two f.two (part_of s _)),
)
form_free d (productions.List c) f = (refl, λ s. f.row (part_of s (chain_kind c)))
form_free d productions.Parens f = form_inside (need d.last) anywhere (need_free d.last f.last)
form_free d productions.Line f = (refl, λ s. bodies_free d.parts d.body d.mark f.parts f.body (part_of s Position))
form_free d productions.Group f = (refl, λ s. refl)
form_free d productions.Move f = (
  refl,
  λ s. has_both (of_written (part_of s Set) d.one) _ (f.one (part_of s Set))
      (has_both (of_written (part_of s Set) d.two) _ (f.two (part_of s Set))
      (has_both (of_written (part_of s Set) d.three) (of_written (part_of s Set) d.last) (f.three (part_of s Set)) (f.last (part_of s Set)))),
)

made_free : (d : PartialFilter) (m : Production) → FreeDraft d → FreeNode (node_by d m)
made_free d productions.Group f = bodies_free d.parts d.body d.mark f.parts f.body
made_free d m f = free_at d.at (form_of d m) (form_free d m f)

new_row_free : (f : FilterTree) (j : InfixOperator) (g : FilterTree) → Free f → Free g → FreeForm (new_infix f j g)
unfolding inner all_of of_terms
new_row_free f (Chained c) g free also =
    (refl, λ s. let t = part_of s (chain_kind c) in one_row t f (more_filters g no_filters) (free t) (one_row t g no_filters (also t) refl))
new_row_free f (Added minus) g free also =
    (refl, λ s. let t = part_of s NumberKind in one_term t false f (more_terms minus g no_terms) (free t) (one_term t minus g no_terms (also t) refl))
new_row_free f (Paired p) g free also =
    (refl, λ s. let t = part_of s (pair_operand_kind p) in has_both (occurrences t f) (occurrences t g) (free t) (also t))

longer_free : (h : FormTree) (f : FilterTree) (j : InfixOperator) (g : FilterTree) → FreeForm h → Free f → Free g → FreeForm (longer_infix h f j g)
unfolding inner
longer_free (chain c fs) f j g inside free also = (refl, λ s. row_on (part_of s (chain_kind c)) fs g (inside.1 s) (also (part_of s (chain_kind c))))
longer_free (sum_of ts) f j g inside free also = (refl, λ s. terms_on (part_of s NumberKind) ts _ g (inside.1 s) (also (part_of s NumberKind)))
longer_free _ f j g inside free also = new_row_free f j g free also

row_of_free : (long : Bool) (f : FilterTree) (j : InfixOperator) (g : FilterTree) → Free f → Free g → Free (infix_of long f j g)
row_of_free true f j g free also = free_at _ (longer_infix (form f) f j g) (longer_free (form f) f j g (form_inside f anywhere free) free also)
row_of_free false f j g free also = free_at _ (new_infix f j g) (new_row_free f j g free also)

joined_free : (l : ℕ) (p : Node) (j : InfixOperator) (q : Node) → FreeNode p → FreeNode q → FreeNode (infix_node l p j q)
joined_free l p j q free also = row_of_free (l == infix_level j) (filter_of p) j (filter_of q) (filter_free p free) (filter_free q also)

mutual
  node_free : (p : Phrase) → FreeNode (node p)
  node_free (made ps) = made_free (draft ps) (draft ps).production (parts_free ps)
  node_free (joined p x j q) = joined_free (level p) (node p) j (node q) (node_free p) (node_free q)

  parts_free : (ps : Parts) → FreeDraft (draft ps)
  parts_free (first x s) = draft_free x s
  parts_free (add ps x s) = say_free (draft ps) x.kind (end ps) (parts_free ps)
  parts_free (put ps p s) = take_free (draft ps) (node p) (end ps) (parts_free ps) (node_free p)

one_item : (sorts : ℕ) (f : FilterTree) (fs : FilterTrees) → Free f → has (of_items (sorts_with sorts f) fs) ≡ false → has (of_items sorts (more_filters f fs)) ≡ false
unfolding of_items
one_item sorts f fs free frees = has_both (occurrences (top_item sorts) f) (of_items (sorts_with sorts f) fs) (free (top_item sorts)) frees

no_item : (sorts : ℕ) → has (of_items sorts no_filters) ≡ false
unfolding of_items
no_item sorts = refl

first_item : (sorts : ℕ) (f : FilterTree) (fs : FilterTrees) → has (of_items sorts (more_filters f fs)) ≡ false → has (occurrences (top_item sorts) f) ≡ false
unfolding of_items
first_item sorts f fs e = has_first (occurrences (top_item sorts) f) (of_items (sorts_with sorts f) fs) e

rest_items : (sorts : ℕ) (f : FilterTree) (fs : FilterTrees) → has (of_items sorts (more_filters f fs)) ≡ false → has (of_items (sorts_with sorts f) fs) ≡ false
unfolding of_items
rest_items sorts f fs e = has_second (occurrences (top_item sorts) f) (of_items (sorts_with sorts f) fs) e

item_before : (sorts : ℕ) (f : FilterTree) (fs : FilterTrees) → has (occurrences (top_item sorts) f) ≡ false → has (of_items (sorts_with sorts f) fs) ≡ false
    → has (of_items sorts (more_filters f fs)) ≡ false
unfolding of_items
item_before sorts f fs free frees = has_both (occurrences (top_item sorts) f) (of_items (sorts_with sorts f) fs) free frees

items_on : (sorts : ℕ) (fs : FilterTrees) (g : FilterTree) → has (of_items sorts fs) ≡ false → Free g → has (of_items sorts (with_filter fs g)) ≡ false
items_on sorts no_filters g frees free = one_item sorts g no_filters free (no_item (sorts_with sorts g))
items_on sorts (more_filters f fs) g frees free =
    item_before sorts f (with_filter fs g) (first_item sorts f fs frees) (items_on (sorts_with sorts f) fs g (rest_items sorts f fs frees) free)

trees_free : (ps : Items) → has (of_items 0 (trees ps)) ≡ false
trees_free none = no_item 0
trees_free (more ps p) = items_on 0 (trees ps) (filter_of (node p)) (trees_free ps) (filter_free (node p) (node_free p))

pub spelled_without_any : (limit : ℕ) (ts : List QueryToken) (q : QueryTree) → Spells limit ts q → has_any q ≡ false
unfolding has_any
spelled_without_any limit ts q spells = ap (λ (r : QueryTree). has (of_items 0 r.items)) (sym spells.is) ∙ trees_free spells.as_written.items
