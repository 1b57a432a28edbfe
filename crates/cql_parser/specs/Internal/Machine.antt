-- The machine that reads token by token, for the contracts of private functions.
use Rattle.std.specs.Prelude.{ℕ, ◌+◌, Bool, true, false, List, [], ◌∷◌, ◌++◌, Option, Some, None, nat_le, fold}
use Rattle.cql_syntax.specs.declared.token.QueryToken.{QueryToken}
use Rattle.cql_parser.specs.declared.rule_state.OperandContext.{OperandContext}
use Rattle.cql_parser.specs.declared.rule_state.OperandContext.TheVariants.{Within}
use Rattle.cql_parser.specs.declared.rule_state.HeadState.{HeadState}
use Rattle.cql_parser.specs.declared.rule_state.HeadState.TheVariants.{Start, ListDue, Params, FileDue, MatchDue, Over}
use Rattle.cql_parser.specs.declared.rule_state.RuleState.{RuleState}
use Rattle.cql_parser.specs.declared.role.InfixOperator.{InfixOperator}
use Rattle.cql_parser.specs.declared.role.Role.{Role}
use Rattle.cql_parser.specs.declared.role.Role.TheVariants.{End}
use Rattle.cql_parser.specs.RuleStates.{role, heads, opens, goes, context, least, next, whole, level_of, depth_of, joint, infix_level, takes, joins}
use Rattle.cql_parser.specs.Grammar.{Phrase, made, joined, Parts, first, add, put, root, end, Items, none, more}

-- The values that are built while reading: an H for the head of a query, a D for a rule's parts, an A for a filter, a B for items.
pub record Builder (H D A B : Type 0) : Type 0 where
  pub no_head : H
  pub with_head_token : H → QueryToken → H
  pub first_of : QueryToken → RuleState → D
  pub add_of : D → QueryToken → RuleState → D
  pub put_of : D → A → RuleState → D
  pub root_of : D → RuleState
  pub end_of : D → RuleState
  pub made_of : D → A
  pub joined_of : ℕ → A → QueryToken → InfixOperator → A → A
  -- the part that is kept of a token between two filters
  pub kept : QueryToken → QueryToken
  pub none_of : B
  pub more_of : B → A → B

-- an open frame: the parts of a rule, or a filter of a level and the token after it
pub data Frame (D A : Type 0) : Type 0 where
  InRule : D → Frame D A
  Joining : ℕ → A → QueryToken → InfixOperator → Frame D A

-- The frames have the innermost one first. No query goes on from `Deep`, because of the depth alone, nor from `Stuck`, by the grammar.
pub data State (H D A B : Type 0) : Type 0 where
  Opening : H → HeadState → State H D A B
  Reading : H → B → List (Frame D A) → State H D A B
  Done : H → B → State H D A B
  Deep : State H D A B
  Stuck : State H D A B

-- the number of counted rules that are open
abbrev pub depth : {H D A B : Type 0} → Builder H D A B → List (Frame D A) → ℕ
depth m [] = 0
depth m (InRule d ∷ k) = depth m k + depth_of (m.root_of d)
depth m (Joining l a x j ∷ k) = depth m k

-- the least level of the filter that is due, and its context
abbrev pub due : {H D A B : Type 0} → Builder H D A B → List (Frame D A) → ℕ
due m [] = 0
due m (InRule d ∷ k) = least (m.end_of d)
due m (Joining l a x j ∷ k) = infix_level j + 1

abbrev pub around : {H D A B : Type 0} → Builder H D A B → List (Frame D A) → OperandContext
around m [] = Within
around m (InRule d ∷ k) = context (m.end_of d)
around m (Joining l a x j ∷ k) = Within

abbrev pub choose : {S : Type 0} → Bool → S → S → S
choose true s u = s
choose false s u = u

abbrev pub open_if : {H D A B : Type 0} → Bool → Bool → State H D A B → State H D A B
open_if true true s = s
open_if true false s = Deep
open_if false b s = Stuck

abbrev pub begin_at : {H D A B : Type 0} → Builder H D A B → ℕ → H → B → List (Frame D A) → QueryToken → Option RuleState
    → State H D A B
begin_at m limit h b k x None = Stuck
begin_at m limit h b k x (Some s) =
    open_if (nat_le (due m k) (level_of s)) (nat_le (depth m k + depth_of s) limit) (Reading h b (InRule (m.first_of x s) ∷ k))

-- a token at a point where a filter is due
abbrev pub start : {H D A B : Type 0} → Builder H D A B → ℕ → H → B → List (Frame D A) → QueryToken → Role → State H D A B
start m limit h b k x r = begin_at m limit h b k x (opens (around m k) r)

abbrev pub join : {H D A B : Type 0} → Builder H D A B → H → B → ℕ → A → List (Frame D A) → QueryToken → Option InfixOperator
    → State H D A B
join m h b l a k x None = Stuck
join m h b l a k x (Some j) = choose (takes j l) (Reading h b (Joining l a (m.kept x) j ∷ k)) Stuck

-- a token after an item
abbrev pub after_item : {H D A B : Type 0} → Builder H D A B → ℕ → H → B → QueryToken → Role → State H D A B
after_item m limit h b x End = Done h b
after_item m limit h b x r = start m limit h b [] x r

abbrev pub onward_by : {H D A B : Type 0} → Builder H D A B → ℕ → H → B → D → List (Frame D A) → QueryToken → Role
    → Option RuleState → Bool → State H D A B → State H D A B
onward_by m limit h b d k x r (Some s) is_whole ended = Reading h b (InRule (m.add_of d x s) ∷ k)
onward_by m limit h b d k x r None true ended = ended
onward_by m limit h b d k x r None false ended = start m limit h b (InRule d ∷ k) x r

-- a token after the parts of a rule; the state for a rule at its end is given
abbrev pub onward : {H D A B : Type 0} → Builder H D A B → ℕ → H → B → D → List (Frame D A) → QueryToken → Role
    → State H D A B → State H D A B
onward m limit h b d k x r ended = onward_by m limit h b d k x r (goes (m.end_of d) r) (whole (m.end_of d)) ended

-- a token after a filter of a level
unfoldable pub after : {H D A B : Type 0} → Builder H D A B → ℕ → H → B → ℕ → A → List (Frame D A) → QueryToken → Role
    → State H D A B
after m limit h b l a [] x r = choose (joins 0 r) (join m h b l a [] x (joint r)) (after_item m limit h (m.more_of b a) x r)
after m limit h b l a (Joining e f y j ∷ k) x r =
    choose (joins (infix_level j + 1) r) (join m h b l a (Joining e f y j ∷ k) x (joint r))
    (after m limit h b (infix_level j) (m.joined_of e f y j a) k x r)
after m limit h b l a (InRule d ∷ k) x r =
    choose (joins (least (m.end_of d)) r) (join m h b l a (InRule d ∷ k) x (joint r))
    (onward m limit h b (m.put_of d a (next (m.end_of d))) k x r
    (after m limit h b (level_of (m.root_of d)) (m.made_of (m.put_of d a (next (m.end_of d)))) k x r))

abbrev pub head_to : {H D A B : Type 0} → Builder H D A B → H → Option HeadState → State H D A B
head_to m h None = Stuck
head_to m h (Some Start) = Opening h Start
head_to m h (Some ListDue) = Opening h ListDue
head_to m h (Some Params) = Opening h Params
head_to m h (Some FileDue) = Opening h FileDue
head_to m h (Some MatchDue) = Opening h MatchDue
head_to m h (Some Over) = Reading h m.none_of []

unfoldable pub feed : {H D A B : Type 0} → Builder H D A B → ℕ → State H D A B → QueryToken → State H D A B
feed m limit (Opening h place) x = head_to m (m.with_head_token h x) (heads place (role x.kind))
feed m limit (Reading h b []) x = start m limit h b [] x (role x.kind)
feed m limit (Reading h b (Joining l a y j ∷ k)) x = start m limit h b (Joining l a y j ∷ k) x (role x.kind)
feed m limit (Reading h b (InRule d ∷ k)) x =
    onward m limit h b d k x (role x.kind) (after m limit h b (level_of (m.root_of d)) (m.made_of d) k x (role x.kind))
feed m limit (Done h b) x = Stuck
feed m limit Deep x = Deep
feed m limit Stuck x = Stuck

abbrev pub run : {H D A B : Type 0} → Builder H D A B → ℕ → State H D A B → List QueryToken → State H D A B
run m limit s ts = fold (feed m limit) s ts

abbrev pub begun : {H D A B : Type 0} → Builder H D A B → State H D A B
begun m = Opening m.no_head Start

-- phrases as they are read
abbrev pub written : Builder (List QueryToken) Parts Phrase Items
written = record {
  no_head = [];
  with_head_token = λ ts x. ts ++ (x ∷ []);
  first_of = first;
  add_of = add;
  put_of = put;
  root_of = root;
  end_of = end;
  made_of = made;
  joined_of = λ l p x j q. joined p x j q;
  kept = λ x. x;
  none_of = none;
  more_of = more;
}
