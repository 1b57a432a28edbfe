-- A state in which reading goes on may be brought to an end, and one that is stuck may not.
use Rattle.std.proofs.Common.{◌≡◌, ℕ, ◌+◌, ◌<◌, ◌≤◌, zero, suc, List, [], ◌∷◌, ◌++◌, Option, Some, true, refl, sym, ap, ◌∙◌, subst, arith, append_assoc, append-nil}
use Rattle.std.specs.Prelude.{fold}
use Rattle.cql_syntax.specs.Words.{word_of, sign_of}
use Rattle.cql_syntax.specs.declared.token.QueryToken.{QueryToken}
use Rattle.cql_syntax.specs.declared.token.QueryTokenKind.{QueryTokenKind}
use Rattle.cql_syntax.specs.declared.token.QueryTokenKind.TheVariants as tokens
use Rattle.cql_parser.specs.declared.rule_state.OperandContext.{OperandContext}
use Rattle.cql_parser.specs.declared.rule_state.OperandContext.TheVariants.{Within}
use Rattle.cql_parser.specs.declared.rule_state.HeadState.{HeadState}
use Rattle.cql_parser.specs.declared.rule_state.HeadState.TheVariants.{Start, ListDue, Params, FileDue, MatchDue, Over}
use Rattle.cql_parser.specs.declared.rule_state.RuleState.{RuleState}
use Rattle.cql_parser.specs.declared.rule_state.RuleState.TheVariants.{Leaf}
use Rattle.cql_parser.specs.declared.role.InfixOperator.{InfixOperator}
use Rattle.cql_parser.specs.declared.role.InfixOperator.TheVariants.{Chained, Added, Paired}
use Rattle.cql_syntax.specs.declared.leaves.Chain.TheVariants as chains
use Rattle.cql_syntax.specs.declared.leaves.Pair.TheVariants as pairs
use Rattle.cql_parser.specs.declared.role.Role.TheVariants.{End}
use Rattle.cql_parser.specs.RuleStates.{role, heads, opens, goes, context, least, next, whole, level_of, depth_of, infix_level, takes, spot}
use Rattle.cql_parser.specs.Grammar.{Phrase, made, joined, Parts, first, add, put, root, end, Items, none, more, text, texts, items_text, head_of, level, IsOver, AreOver, Fits, Goes, AllFit, head_step, heading, IsGrammatical, IsGrammaticalPrefix}
use Rattle.cql_parser.specs.Internal.Machine.{InRule, Joining, Opening, Reading, Done, Deep, Stuck, depth, due, around, written}
use Rattle.cql_parser.proofs.Exits.{Exit, ended, by_token, by_check, exit, rank, check, IsExit, is_exit, Quiet, q_check, q_end, quiet_role, quiet_joins, quiet_goes, IsQuiet, quiet_exit}
use Rattle.cql_parser.proofs.Read.{Frames, St}
use Rattle.cql_parser.proofs.ReadIsWritten.{Stands, Good, Has, Under, stack_text, one_more, two_more, regroup, joined_text, end_text}

abbrev token : QueryTokenKind → QueryToken
token kind = record { at = 0; kind = kind }

-- the filter `check`
abbrev check_token : QueryToken
check_token = token (tokens.Word 5)

abbrev check_phrase : Phrase
check_phrase = made (first check_token Leaf)

check_role : role (tokens.Word 5) ≡ check
unfolding role word_of
check_role = refl

end_role : role tokens.End ≡ End
unfolding role
end_role = refl

-- quiet tokens belong to nothing that is whole
mutual
  pub over_quiet : (l n : ℕ) (c : OperandContext) (p : Phrase) (q : Quiet) → Fits l n c p → IsOver p (quiet_role q)
  over_quiet l n c (made ps) q fits = (are_quiet l n c ps q fits.0, quiet_goes (end ps) q fits.1)
  over_quiet l n c (joined p x j r) q fits = (over_quiet l n Within r q fits.5, quiet_joins (infix_level j + 1) q)

  pub are_quiet : (l n : ℕ) (c : OperandContext) (ps : Parts) (q : Quiet) → Goes l n c ps → AreOver ps (quiet_role q)
  are_quiet l n c (first x s) q goes_ = tt
  are_quiet l n c (add ps x s) q goes_ = tt
  are_quiet l n c (put ps p s) q goes_ =
      (over_quiet l (n + depth_of (root ps)) (context (end ps)) p q goes_.6, quiet_joins (least (end ps)) q)

few : (l n : ℕ) (c : OperandContext) (ps : Parts) → Goes l n c ps → n + depth_of (root ps) ≤ l
few l n c (first x s) goes_ = goes_.1
few l n c (add ps x s) goes_ = few l n c ps goes_.2
few l n c (put ps p s) goes_ = few l n c ps goes_.5

check_fits : (l n : ℕ) (c : OperandContext) → opens c check ≡ Some Leaf → n ≤ l → Fits l n c check_phrase
unfolding depth_of whole spot
check_fits l n c opens_ low = ((ap (opens c) check_role ∙ opens_, (let h : n ≤ l = low in omega arith)), refl)

check_level : level check_phrase ≡ 10
unfolding level_of spot
check_level = refl

-- a rule at its end that begins with given parts
pub record Ended (l n : ℕ) (c : OperandContext) (ps : Parts) : Type 0 where
  pub parts : Parts
  pub goes_ : Goes l n c parts
  pub is_whole : whole (end parts) ≡ true
  pub rest : List QueryToken
  pub longer : texts parts ≡ texts ps ++ rest
  pub same_root : root parts ≡ root ps
  pub same_head : head_of parts ≡ head_of ps

ended_after : (l n : ℕ) (c : OperandContext) (ps qs : Parts) (more_ : List QueryToken) → texts qs ≡ texts ps ++ more_ → root qs ≡ root ps
    → head_of qs ≡ head_of ps → Ended l n c qs → Ended l n c ps
ended_after l n c ps qs more_ longer root_ head_ e = record {
  parts = e.parts;
  goes_ = e.goes_;
  is_whole = e.is_whole;
  rest = more_ ++ e.rest;
  longer = e.longer ∙ ap (λ t. t ++ e.rest) longer ∙ append_assoc (texts ps) more_ e.rest;
  same_root = e.same_root ∙ root_;
  same_head = e.same_head ∙ head_;
}

-- the token by which a rule goes on belongs to nothing before
exit_over : (l n : ℕ) (c : OperandContext) (ps : Parts) (t : QueryTokenKind) (p : RuleState) → Goes l n c ps → exit (end ps) ≡ by_token t p
    → AreOver ps (role t)
exit_over l n c (first x s) t p goes_ is = tt
exit_over l n c (add ps x s) t p goes_ is = tt
exit_over l n c (put ps a s) t p goes_ is =
    let quiet : IsQuiet (by_token t p) = subst IsQuiet (ap exit goes_.0 ∙ is) (quiet_exit (end ps)) in
    subst (AreOver (put ps a s)) (sym quiet.1) (are_quiet l n c (put ps a s) quiet.0 goes_)

end_by : (fuel l n : ℕ) (c : OperandContext) (ps : Parts) (e : Exit) → Goes l n c ps → rank (end ps) ≤ fuel → exit (end ps) ≡ e
    → IsExit (end ps) e → Ended l n c ps
end_by fuel l n c ps ended goes_ low is ok = record {
  parts = ps;
  goes_ = goes_;
  is_whole = ok;
  rest = [];
  longer = sym (append-nil (texts ps));
  same_root = refl;
  same_head = refl;
}
end_by zero l n c ps (by_token t p) goes_ low is ok = absurd (let h : rank p < rank (end ps) = ok.1 in omega arith)
end_by zero l n c ps by_check goes_ low is ok = absurd (let h : rank (next (end ps)) < rank (end ps) = ok.4 in omega arith)
end_by (suc fuel) l n c ps (by_token t p) goes_ low is ok =
    let less : rank p ≤ fuel = (let h : rank p < rank (end ps) = ok.1 in omega arith) in
    let longer : Goes l n c (add ps (token t) p) = (ok.0, exit_over l n c ps t p goes_ is, goes_) in
    ended_after l n c ps (add ps (token t) p) (token t ∷ []) refl refl refl
    (end_by fuel l n c (add ps (token t) p) (exit p) longer less refl (is_exit p))
end_by (suc fuel) l n c ps by_check goes_ low is ok =
    let less : rank (next (end ps)) ≤ fuel = (let h : rank (next (end ps)) < rank (end ps) = ok.4 in omega arith) in
    let high : least (end ps) ≤ level check_phrase = subst (λ m. least (end ps) ≤ m) (sym check_level) ok.1 in
    let over : AreOver ps (role (tokens.Word 5)) = subst (AreOver ps) (sym check_role) (are_quiet l n c ps q_check goes_) in
    let longer : Goes l n c (put ps check_phrase (next (end ps))) = (
      refl,
      ok.2,
      ap (goes (end ps)) check_role
          ∙ ok.3,
      over,
      high,
      goes_,
      check_fits l (n + depth_of (root ps)) (context (end ps)) ok.0 (few l n c ps goes_),
    ) in
    ended_after l n c ps (put ps check_phrase (next (end ps))) (check_token ∷ []) refl refl refl
    (end_by fuel l n c (put ps check_phrase (next (end ps))) (exit (next (end ps))) longer less refl (is_exit (next (end ps))))

pub end_parts : (l n : ℕ) (c : OperandContext) (ps : Parts) → Goes l n c ps → Ended l n c ps
end_parts l n c ps goes_ = end_by (rank (end ps)) l n c ps (exit (end ps)) goes_ (omega arith) refl (is_exit (end ps))

pub begins_less : (l : ℕ) (ts more_ : List QueryToken) → IsGrammaticalPrefix l (ts ++ more_) → IsGrammaticalPrefix l ts
begins_less l ts more_ b = record { rest = more_ ++ b.rest; query = subst (IsGrammatical l) (append_assoc ts more_ b.rest) b.query }

-- the tokens that follow a rule at its end
rule_ends : (l : ℕ) (h : List QueryToken) (b : Items) (d : Parts) (k : Frames) (ts : List QueryToken) → heading h ≡ Some Over
    → AllFit l b → Good l b k → due written k ≤ level_of (root d) → Under b k (role (head_of d).kind)
    → h ++ (items_text b ++ (stack_text k ++ texts d)) ≡ ts → (e : Ended l (depth written k) (around written k) d)
    → Has l h b (level_of (root e.parts)) (made e.parts) k (ts ++ e.rest)
rule_ends l h b d k ts heads_ all good low under spelled e = record {
  heads_ = heads_;
  all = all;
  good = good;
  leveled = refl;
  fits = (e.goes_, e.is_whole);
  low = subst (λ s. due written k ≤ level_of s) (sym e.same_root) low;
  under = subst (λ x. Under b k (role x.kind)) (sym e.same_head) under;
  spelled = ap (λ t. h ++ (items_text b ++ (stack_text k ++ t))) e.longer
      ∙ two_more h (items_text b) (stack_text k) (texts d) ts e.rest spelled;
}

pub finish : (l : ℕ) (h : List QueryToken) (b : Items) (v : ℕ) (p : Phrase) (k : Frames) (ts : List QueryToken) → Has l h b v p k ts
    → IsGrammaticalPrefix l ts
finish l h b v p [] ts has = record {
  rest = token tokens.End ∷ [];
  query = record {
    opening = h;
    items = more b p;
    closing = token tokens.End;
    opens = has.heads_;
    some = tt;
    fits = (has.under, has.all, has.fits);
    over = (over_quiet l 0 Within p q_end has.fits, quiet_joins 0 q_end);
    closes = end_role;
    spelled = end_text h (items_text b) (text p) ts (token tokens.End ∷ []) has.spelled;
  };
}
finish l h b v p (Joining e f y j ∷ k) ts has =
    let g = has.good.0 in
    let upper : infix_level j < level p = (let u : infix_level j + 1 ≤ level p = has.low in omega arith) in
    finish l h b (infix_level j) (joined f y j p) k ts (record {
      heads_ = has.heads_;
      all = has.all;
      good = has.good.1;
      leveled = refl;
      fits = (g.is, subst (λ n. takes j n ≡ true) g.leveled g.takes_, upper, g.over, g.fits, has.fits);
      low = g.low;
      under = g.under;
      spelled = joined_text h (items_text b) (stack_text k) (text f) (text p) ts y has.spelled;
    })
finish l h b v p (InRule d ∷ k) ts has =
    let g = has.good.0 in
    let goes_ : Goes l (depth written k) (around written k) (put d p (next (end d))) =
    (refl, has.under.0, has.under.1, has.under.2, has.low, g.goes_, has.fits) in
    let spelled : h ++ (items_text b ++ (stack_text k ++ (texts d ++ text p))) ≡ ts =
    regroup h (items_text b) (stack_text k) (texts d) (text p) ts has.spelled in
    let e = end_parts l (depth written k) (around written k) (put d p (next (end d))) goes_ in
    begins_less l ts e.rest
    (finish l h b (level_of (root e.parts)) (made e.parts) k (ts ++ e.rest)
    (rule_ends l h b (put d p (next (end d))) k ts has.heads_ has.all has.good.1 g.low g.under spelled e))

check_opens : opens Within check ≡ Some Leaf
unfolding opens
check_opens = refl

head_append : (ts more_ : List QueryToken) (o : Option HeadState)
    → fold head_step o (ts ++ more_) ≡ fold head_step (fold head_step o ts) more_
head_append [] more_ o = refl
head_append (t ∷ ts) more_ o = head_append ts more_ (head_step o t)

abbrev head_rest : HeadState → List QueryToken
head_rest Start = token (tokens.Word 0) ∷ token (tokens.Mark 15) ∷ token (tokens.Mark 16) ∷ []
head_rest ListDue = token (tokens.Mark 15) ∷ token (tokens.Mark 16) ∷ []
head_rest Params = token (tokens.Mark 16) ∷ []
head_rest FileDue = token (tokens.Text []) ∷ token (tokens.Mark 16) ∷ []
head_rest MatchDue = token (tokens.Text []) ∷ token (tokens.Mark 16) ∷ []
head_rest Over = []

head_rest_over : (place : HeadState) → fold head_step (Some place) (head_rest place) ≡ Some Over
unfolding heads role word_of sign_of
head_rest_over Start = refl
head_rest_over ListDue = refl
head_rest_over Params = refl
head_rest_over FileDue = refl
head_rest_over MatchDue = refl
head_rest_over Over = refl

-- a state in which reading goes on
abbrev pub Lives : St → Type 0
Lives (Opening h place) = Unit {0}
Lives (Reading h b k) = Unit {0}
Lives (Done h b) = Unit {0}
Lives Deep = ⊥
Lives Stuck = ⊥

joint_few : (j : InfixOperator) → infix_level j + 1 ≤ 10
unfolding infix_level
joint_few (Chained chains.Or) = omega arith
joint_few (Chained chains.And) = omega arith
joint_few (Chained chains.All) = omega arith
joint_few (Chained chains.Union) = omega arith
joint_few (Chained chains.Intersect) = omega arith
joint_few (Chained chains.Product) = omega arith
joint_few (Chained chains.Max) = omega arith
joint_few (Chained chains.Min) = omega arith
joint_few (Added minus) = omega arith
joint_few (Paired pairs.Attacks) = omega arith
joint_few (Paired pairs.AttackedBy) = omega arith
joint_few (Paired pairs.Between) = omega arith
joint_few (Paired pairs.Less) = omega arith
joint_few (Paired pairs.AtMost) = omega arith
joint_few (Paired pairs.Equal) = omega arith
joint_few (Paired pairs.AtLeast) = omega arith
joint_few (Paired pairs.Greater) = omega arith

few_open : (l : ℕ) (b : Items) (k : Frames) → Good l b k → depth written k ≤ l
few_open l b [] good = omega arith
few_open l b (InRule d ∷ k) good = few l (depth written k) (around written k) d good.0.goes_
few_open l b (Joining v p x j ∷ k) good = few_open l b k good.1

-- `check` where a filter is due
check_has : (l : ℕ) (h : List QueryToken) (b : Items) (k : Frames) (ts : List QueryToken) → heading h ≡ Some Over → AllFit l b
    → Good l b k → around written k ≡ Within → due written k ≤ 10 → Under b k (role (tokens.Word 5))
    → h ++ (items_text b ++ stack_text k) ≡ ts → Has l h b (level check_phrase) check_phrase k (ts ++ (check_token ∷ []))
check_has l h b k ts heads_ all good within low under spelled = record {
  heads_ = heads_;
  all = all;
  good = good;
  leveled = refl;
  fits = check_fits l (depth written k) (around written k) (ap (λ c. opens c check) within ∙ check_opens) (few_open l b k good);
  low = subst (λ m. due written k ≤ m) (sym check_level) low;
  under = under;
  spelled = one_more h (items_text b) (stack_text k) ts (check_token ∷ []) spelled;
}

pub alive : (l : ℕ) (ts : List QueryToken) (s : St) → Stands l ts s → Lives s → IsGrammaticalPrefix l ts
alive l ts (Opening h place) good live =
    let over : heading (h ++ head_rest place) ≡ Some Over =
    head_append h (head_rest place) (Some Start) ∙ ap (λ o. fold head_step o (head_rest place)) good.1 ∙ head_rest_over place in
    let has = check_has l (h ++ head_rest place) none [] (ts ++ head_rest place) over tt tt refl (omega arith) tt
    (append-nil (h ++ head_rest place) ∙ ap (λ t. t ++ head_rest place) good.0) in
    begins_less l ts (head_rest place) (begins_less l (ts ++ head_rest place) (check_token ∷ [])
    (finish l (h ++ head_rest place) none (level check_phrase) check_phrase [] ((ts ++ head_rest place) ++ (check_token ∷ [])) has))
alive l ts (Reading h b []) good live =
    begins_less l ts (check_token ∷ []) (finish l h b (level check_phrase) check_phrase [] (ts ++ (check_token ∷ []))
    (check_has l h b [] ts good.heads_ good.fits good.good refl (omega arith) (good.fresh (role (tokens.Word 5))) good.spelled))
alive l ts (Reading h b (Joining v p x j ∷ k)) good live =
    begins_less l ts (check_token ∷ [])
    (finish l h b (level check_phrase) check_phrase (Joining v p x j ∷ k) (ts ++ (check_token ∷ []))
    (check_has l h b (Joining v p x j ∷ k) ts good.heads_ good.fits good.good refl (joint_few j) tt good.spelled))
alive l ts (Reading h b (InRule d ∷ k)) good live =
    let g = good.good.0 in
    let e = end_parts l (depth written k) (around written k) d g.goes_ in
    begins_less l ts e.rest
    (finish l h b (level_of (root e.parts)) (made e.parts) k (ts ++ e.rest)
    (rule_ends l h b d k ts good.heads_ good.fits good.good.1 g.low g.under good.spelled e))
alive l ts (Done h b) good live = record { rest = []; query = subst (IsGrammatical l) (sym (append-nil ts)) good.query }
alive l ts Deep good live = absurd live
alive l ts Stuck good live = absurd live
