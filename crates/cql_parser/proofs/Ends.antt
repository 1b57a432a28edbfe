-- With the end of a query nothing goes on.
use Rattle.std.proofs.Common.{◌≡◌, ℕ, ◌+◌, List, [], ◌∷◌, ◌++◌, None, Bool, true, false, refl, sym, ap, ◌∙◌, subst}
use Rattle.cql_syntax.specs.declared.token.QueryToken.{QueryToken}
use Rattle.cql_syntax.specs.declared.token.QueryTokenKind.TheVariants as tokens
use Rattle.cql_parser.specs.declared.rule_state.OperandContext.{OperandContext}
use Rattle.cql_parser.specs.declared.rule_state.OperandContext.TheVariants.{Within, NoNumber, LinePart, NoOperand}
use Rattle.cql_parser.specs.declared.rule_state.HeadState.{HeadState}
use Rattle.cql_parser.specs.declared.rule_state.HeadState.TheVariants.{Start, ListDue, Params, FileDue, MatchDue, Over}
use Rattle.cql_parser.specs.declared.rule_state.RuleState.{RuleState}
use Rattle.cql_parser.specs.declared.rule_state.RuleState.TheVariants.{Leaf, ResultDue, PlayerDue, TextDue, EloDue, Pre, PreDone, FindDue, Condition, ThenDue, Consequence, ElseDue, AllDue, NameDue, InDue, SquaresDue, MinDue, SortText, Tight, TightDone, Direction, OneNumber, TwoNumbers, BetweenOpen, BetweenFirst, BetweenSecond, BetweenClose, ListOpen, ListFirst, ListSecond, ListMore, Parens, ParensClose, Braces, BracesMore, Closed, LineStart, LineExtent, LineMost, LineArrow, Move, Origin, MovedFrom, Goal, MovedTo, Taken, MovedTaking, Promoted, Part, Bare, Count, Counted, UpTo, UpEnd, Marked}
use Rattle.cql_parser.specs.declared.role.Role.TheVariants.{End}
use Rattle.cql_parser.specs.RuleStates.{role, heads, opens, goes, least, next, whole, level_of, joint, infix_level, joins}
use Rattle.cql_parser.specs.Grammar.{Phrase, made, joined, Parts, put, root, end, Items, more}
use Rattle.cql_parser.specs.Faults.{IsEnded}
use Rattle.cql_parser.specs.Internal.Machine.{InRule, Joining, Opening, Reading, Done, Deep, Stuck, around, choose, begin_at, start, join, after_item, onward_by, onward, after, head_to, feed, begun, written}
use Rattle.cql_parser.proofs.Begun.{Lives}
use Rattle.cql_parser.proofs.Exits.{q_end, quiet_joins}
use Rattle.cql_parser.proofs.Read.{Frames, St, go}

goes_end : (s : RuleState) → goes s End ≡ None
unfolding goes
goes_end Leaf = refl
goes_end ResultDue = refl
goes_end PlayerDue = refl
goes_end TextDue = refl
goes_end EloDue = refl
goes_end Pre = refl
goes_end PreDone = refl
goes_end FindDue = refl
goes_end Condition = refl
goes_end ThenDue = refl
goes_end Consequence = refl
goes_end ElseDue = refl
goes_end AllDue = refl
goes_end NameDue = refl
goes_end InDue = refl
goes_end SquaresDue = refl
goes_end MinDue = refl
goes_end SortText = refl
goes_end Tight = refl
goes_end TightDone = refl
goes_end Direction = refl
goes_end OneNumber = refl
goes_end TwoNumbers = refl
goes_end BetweenOpen = refl
goes_end BetweenFirst = refl
goes_end BetweenSecond = refl
goes_end BetweenClose = refl
goes_end ListOpen = refl
goes_end ListFirst = refl
goes_end ListSecond = refl
goes_end ListMore = refl
goes_end Parens = refl
goes_end ParensClose = refl
goes_end Braces = refl
goes_end BracesMore = refl
goes_end Closed = refl
goes_end LineStart = refl
goes_end LineExtent = refl
goes_end LineMost = refl
goes_end LineArrow = refl
goes_end Move = refl
goes_end Origin = refl
goes_end MovedFrom = refl
goes_end Goal = refl
goes_end MovedTo = refl
goes_end Taken = refl
goes_end MovedTaking = refl
goes_end Promoted = refl
goes_end (Part g b) = refl
goes_end (Bare true b) = refl
goes_end (Bare false b) = refl
goes_end (Count g b) = refl
goes_end (Counted g b) = refl
goes_end (UpTo g b) = refl
goes_end (UpEnd g b) = refl
goes_end (Marked true b) = refl
goes_end (Marked false b) = refl

opens_end : (c : OperandContext) → opens c End ≡ None
unfolding opens
opens_end NoOperand = refl
opens_end NoNumber = refl
opens_end (LinePart b) = refl
opens_end Within = refl

heads_end : (place : HeadState) → heads place End ≡ None
unfolding heads
heads_end Start = refl
heads_end ListDue = refl
heads_end Params = refl
heads_end FileDue = refl
heads_end MatchDue = refl
heads_end Over = refl

-- nothing is read any more
abbrev Halts : St → Type 0
Halts (Opening h place) = ⊥
Halts (Reading h b k) = ⊥
Halts (Done h b) = Unit {0}
Halts Deep = Unit {0}
Halts Stuck = Unit {0}

start_halts : (l : ℕ) (h : List QueryToken) (b : Items) (k : Frames) (x : QueryToken) → Halts (start written l h b k x End)
start_halts l h b k x = subst (λ o. Halts (begin_at written l h b k x o)) (sym (opens_end (around written k))) tt

passes : (n : ℕ) (s u : St) → Halts u → Halts (choose (joins n End) s u)
passes n s u halts = subst (λ t. Halts (choose t s u)) (sym (quiet_joins n q_end)) halts

ends : (l : ℕ) (h : List QueryToken) (b : Items) (d : Parts) (k : Frames) (x : QueryToken) (w : Bool) (s : St) → Halts s
    → Halts (onward_by written l h b d k x End None w s)
ends l h b d k x true s halts = halts
ends l h b d k x false s halts = start_halts l h b (InRule d ∷ k) x

onward_halts : (l : ℕ) (h : List QueryToken) (b : Items) (d : Parts) (k : Frames) (x : QueryToken) (s : St) → Halts s
    → Halts (onward written l h b d k x End s)
onward_halts l h b d k x s halts =
    subst (λ o. Halts (onward_by written l h b d k x End o (whole (end d)) s)) (sym (goes_end (end d)))
    (ends l h b d k x (whole (end d)) s halts)

after_halts : (l : ℕ) (h : List QueryToken) (b : Items) (v : ℕ) (p : Phrase) (k : Frames) (x : QueryToken)
    → Halts (after written l h b v p k x End)
unfolding after
after_halts l h b v p [] x = passes 0 (join written h b v p [] x (joint End)) (after_item written l h (more b p) x End) tt
after_halts l h b v p (Joining e f y j ∷ k) x =
    passes (infix_level j + 1) (join written h b v p (Joining e f y j ∷ k) x (joint End))
    (after written l h b (infix_level j) (joined f y j p) k x End)
    (after_halts l h b (infix_level j) (joined f y j p) k x)
after_halts l h b v p (InRule d ∷ k) x =
    let d' = put d p (next (end d)) in
    passes (least (end d)) (join written h b v p (InRule d ∷ k) x (joint End))
    (onward written l h b d' k x End (after written l h b (level_of (root d)) (made d') k x End))
    (onward_halts l h b d' k x (after written l h b (level_of (root d)) (made d') k x End)
    (after_halts l h b (level_of (root d)) (made d') k x))

end_halts : (l : ℕ) (s : St) (x : QueryToken) → role x.kind ≡ End → Halts (feed written l s x)
unfolding feed
end_halts l (Opening h place) x is =
    subst (λ r. Halts (head_to written (h ++ (x ∷ [])) (heads place r))) (sym is)
    (subst (λ o. Halts (head_to written (h ++ (x ∷ [])) o)) (sym (heads_end place)) tt)
end_halts l (Reading h b []) x is = subst (λ r. Halts (start written l h b [] x r)) (sym is) (start_halts l h b [] x)
end_halts l (Reading h b (Joining v p y j ∷ k)) x is =
    subst (λ r. Halts (start written l h b (Joining v p y j ∷ k) x r)) (sym is) (start_halts l h b (Joining v p y j ∷ k) x)
end_halts l (Reading h b (InRule d ∷ k)) x is =
    subst (λ r. Halts (onward written l h b d k x r (after written l h b (level_of (root d)) (made d) k x r))) (sym is)
    (onward_halts l h b d k x (after written l h b (level_of (root d)) (made d) k x End)
    (after_halts l h b (level_of (root d)) (made d) k x))
end_halts l (Done h b) x is = tt
end_halts l Deep x is = tt
end_halts l Stuck x is = tt

end_role : role tokens.End ≡ End
unfolding role
end_role = refl

halts_from : (l : ℕ) (ts : List QueryToken) (s : St) → IsEnded ts → Halts (go l s ts)
halts_from l [] s ended = absurd ended
halts_from l (x ∷ []) s ended = end_halts l s x (ap role ended ∙ end_role)
halts_from l (x ∷ y ∷ ts) s ended = halts_from l (y ∷ ts) (feed written l s x) ended

is_done : (s : St) → Lives s → Halts s → (h : List QueryToken) × (b : Items) × (s ≡ Done h b)
is_done (Opening h place) live halts = absurd halts
is_done (Reading h b k) live halts = absurd halts
is_done (Done h b) live halts = (h, b, refl)
is_done Deep live halts = absurd live
is_done Stuck live halts = absurd live

-- reading that comes to the end is done
pub end_is_done : (l : ℕ) (ts : List QueryToken) → IsEnded ts → Lives (go l (begun written) ts)
    → (h : List QueryToken) × (b : Items) × (go l (begun written) ts ≡ Done h b)
end_is_done l ts ended live = is_done (go l (begun written) ts) live (halts_from l ts (begun written) ended)
