-- The tags of an export are the game's, in order.
use Rattle.std.proofs.Common.{◌≡◌, ℕ, suc, Bool, true, false, cond, List, [], ◌∷◌, ◌++◌, take, Option, Some, None, refl, sym, ap, ap₂, ◌∙◌, arith, true≢false}
use Rattle.std.specs.Prelude.{◌&&◌, ◌||◌, not, codes, map, if◌then◌else◌}
use Rattle.std.specs.BTreeMap.{insert_entry}
use Rattle.std.specs.Ordering.{is_eq}
use Rattle.std.specs.Cmp.Lexicographic.{nat_list_cmp_total}
use Rattle.std.specs.List.{AllByRecursion, filter, find, fold, list_all, list_any}
use Rattle.std.specs.List.Sorted.{IsStrictlySortedBy}
use Rattle.std.specs.Option.{option_map, option_or, is_some, unwrap_or}
use Rattle.std.specs.Ordering.{match_ordering, ordering_reverse}
use Rattle.std.specs.Str.{bytes_eq}
use Rattle.std.specs.declared.cmp.Ordering.{Ordering}
use Rattle.std.specs.declared.cmp.Ordering.TheVariants.{Less, Equal, Greater}
use Rattle.std.proofs.lemmas.List.Folds.{find-append}
use Rattle.std.proofs.lemmas.Map.Text.{is_eq-slice_cmp}
use Rattle.std.proofs.lemmas.Slice.Eq.{bytes_eq-Decides}
use Rattle.cq_position.specs.Games.{Game, tag_value, HaveDistinctNames}
use Rattle.pgn_tree.specs.Results.{result_text}
use Rattle.pgn_export.specs.NormalGames.{roster_names}
use Rattle.pgn_export.specs.TagLines.{roster, is_in_roster, roster_tag, put, sorted, other_tags, written_tags}
use Rattle.pgn_export.specs.TagValues.{written_value, AreExportTags}
use Rattle.pgn_export.proofs.Ordered.{Tag, before, AreSorted, same_name, absent}

-- a property of each name holds after a tag is put
all_put : (P : List ℕ → Type 0) (ts : List Tag) (t : Tag) → AllByRecursion P (map (λ u. u.0) ts) → P t.0 → AllByRecursion P (map (λ u. u.0) (put ts t))
all_put P [] t all one = (one, tt)
all_put P (u ∷ us) t all one = by_order (before t.0 u.0) (all_put P us t all.1 one)
  where
    by_order : (o : Ordering) → AllByRecursion P (map (λ u. u.0) (put us t))
        → AllByRecursion P (map (λ u. u.0) (match_ordering o ((t.0, t.1) ∷ u ∷ us) ((u.0, t.1) ∷ us) (u ∷ insert_entry before us t.0 t.1)))
    by_order Less rest = (one, all)
    by_order Equal rest = all
    by_order Greater rest = (all.0, rest)

-- and names in order stay so
later_names : (a b : List ℕ) (names : List (List ℕ)) → before a b ≡ Less → AllByRecursion (λ y. before b y ≡ Less) names → AllByRecursion (λ y. before a y ≡ Less) names
later_names a b [] less all = tt
later_names a b (c ∷ names) less all = (nat_list_cmp_total.trans a b c less all.0, later_names a b names less all.1)

put_sorted : (ts : List Tag) (t : Tag) → AreSorted ts → AreSorted (put ts t)
unfolding IsStrictlySortedBy
put_sorted [] t all = (tt, tt)
put_sorted (u ∷ us) t all = by_order (before t.0 u.0) refl (put_sorted us t all.1)
  where
    by_order : (o : Ordering) → before t.0 u.0 ≡ o → AreSorted (put us t)
        → AreSorted (match_ordering o ((t.0, t.1) ∷ u ∷ us) ((u.0, t.1) ∷ us) (u ∷ insert_entry before us t.0 t.1))
    by_order Less is rest = ((is, later_names t.0 u.0 (map (λ u. u.0) us) is all.0), all)
    by_order Equal is rest = all
    by_order Greater is rest =
        let less : before u.0 t.0 ≡ Less = nat_list_cmp_total.antisymm u.0 t.0 ∙ ap ordering_reverse is in
        (all_put (λ y. before u.0 y ≡ Less) us t all.0 less, rest)

fold_sorted : (ts done : List Tag) → AreSorted done → AreSorted (fold put done ts)
fold_sorted [] done all = all
fold_sorted (t ∷ ts) done all = fold_sorted ts (put done t) (put_sorted done t all)

fold_all : (P : List ℕ → Type 0) (ts done : List Tag) → AllByRecursion P (map (λ u. u.0) ts) → AllByRecursion P (map (λ u. u.0) done) → AllByRecursion P (map (λ u. u.0) (fold put done ts))
fold_all P [] done all now = now
fold_all P (t ∷ ts) done all now = fold_all P ts (put done t) all.1 (all_put P done t now all.0)

-- names that are not of the roster
abbrev is_other : List ℕ → Bool
is_other name = not (is_in_roster name)

kept_names : (p : List ℕ → Bool) (ts : List Tag) → AllByRecursion (λ name. p name ≡ true) (map (λ u. u.0) (filter (λ t. p t.0) ts))
kept_names p [] = tt
kept_names p (t ∷ ts) = by_test (p t.0) refl (kept_names p ts)
  where
    by_test : (b : Bool) → p t.0 ≡ b → AllByRecursion (λ name. p name ≡ true) (map (λ u. u.0) (filter (λ t. p t.0) ts))
        → AllByRecursion (λ name. p name ≡ true) (map (λ u. u.0) (cond b (t ∷ filter (λ t. p t.0) ts) (filter (λ t. p t.0) ts)))
    by_test true is rest = (is, rest)
    by_test false is rest = rest

all_true : (p : List ℕ → Bool) (ts : List Tag) → AllByRecursion (λ name. p name ≡ true) (map (λ u. u.0) ts) → list_all (λ t. p t.0) ts ≡ true
all_true p [] all = refl
all_true p (t ∷ ts) all = ap₂ (λ a b. a && b) all.0 (all_true p ts all.1)

-- the value of a name after a tag is put
one_value : (b : Bool) (t : Tag) (rest : Option Tag) → option_map (λ t. t.1) (cond b (Some t) rest) ≡ cond b (Some t.1) (option_map (λ t. t.1) rest)
one_value true t rest = refl
one_value false t rest = refl

same_by : (a b : List ℕ) → before a b ≡ Equal → a ≡ b
same_by a b is = (bytes_eq-Decides a b).0 (sym (is_eq-slice_cmp a b) ∙ ap is_eq is)

not_after : (name a b : List ℕ) → before a b ≡ Greater → bytes_eq name b ≡ true → (s : Bool) → bytes_eq name a ≡ s → s ≡ false
not_after name a b is there false e = refl
not_after name a b is there true e =
    let same : a ≡ b = sym ((bytes_eq-Decides name a).0 e) ∙ (bytes_eq-Decides name b).0 there in
    absurd (let x : Greater ≡ Equal = sym is ∙ ap (λ y. before y b) same ∙ same_name b in cc)

at_same : (a b : Bool) (u : Tag) (value : List ℕ) (rest : Option Tag) → b ≡ a
    → option_map (λ t. t.1) (cond a (Some (u.0, value)) rest) ≡ cond b (Some value) (option_map (λ t. t.1) (cond a (Some u) rest))
at_same true true u value rest e = refl
at_same false false u value rest e = refl
at_same true false u value rest e = absurd (true≢false (sym e))
at_same false true u value rest e = absurd (true≢false e)

put_value : (name : List ℕ) (ts : List Tag) (t : Tag) → tag_value name (put ts t) ≡ cond (bytes_eq name t.0) (Some t.1) (tag_value name ts)
put_value name [] t = one_value (bytes_eq name t.0) (t.0, t.1) None
put_value name (u ∷ us) t = by_order (before t.0 u.0) refl (put_value name us t)
  where
    by_name : (a b : Bool) → bytes_eq name u.0 ≡ a → bytes_eq name t.0 ≡ b → before t.0 u.0 ≡ Greater → tag_value name (put us t) ≡ cond b (Some t.1) (tag_value name us)
        → option_map (λ t. t.1) (cond a (Some u) (find (λ t. bytes_eq name t.0) (put us t))) ≡ cond b (Some t.1) (option_map (λ t. t.1) (cond a (Some u) (find (λ t. bytes_eq name t.0) us)))
    by_name true true p q is rest = absurd (let x : true ≡ false = not_after name t.0 u.0 is p true q in cc)
    by_name true false p q is rest = refl
    by_name false true p q is rest = rest
    by_name false false p q is rest = rest

    by_order : (o : Ordering) → before t.0 u.0 ≡ o → tag_value name (put us t) ≡ cond (bytes_eq name t.0) (Some t.1) (tag_value name us)
        → tag_value name (match_ordering o ((t.0, t.1) ∷ u ∷ us) ((u.0, t.1) ∷ us) (u ∷ insert_entry before us t.0 t.1)) ≡ cond (bytes_eq name t.0) (Some t.1) (tag_value name (u ∷ us))
    by_order Less is rest = one_value (bytes_eq name t.0) (t.0, t.1) (find (λ t. bytes_eq name t.0) (u ∷ us))
    by_order Equal is rest =
        at_same (bytes_eq name u.0) (bytes_eq name t.0) u t.1 (find (λ t. bytes_eq name t.0) us) (ap (bytes_eq name) (same_by t.0 u.0 is))
    by_order Greater is rest = by_name (bytes_eq name u.0) (bytes_eq name t.0) refl refl is rest

-- names are distinct
abbrev AreDistinct : List Tag → Type 0
AreDistinct [] = Unit {0}
AreDistinct (t ∷ ts) = (is_some (tag_value t.0 ts) ≡ false) × AreDistinct ts

distinct_from : (ts : List Tag) → HaveDistinctNames ts → AreDistinct ts
distinct_from [] all = tt
distinct_from (t ∷ ts) all = (
  absent t.0 ts (λ i low same. all.differ 0 (suc i) (omega arith) (omega (arith, low)) (sym same)),
  distinct_from ts (record { differ = λ i j before_ low. all.differ (suc i) (suc j) (omega (arith, before_)) (omega (arith, low)) }),
)

-- the value of a name among the tags whose names pass a test
kept_by : (a b : Bool) (p q : Bool) (t : Tag) (ts kept : List Tag) (name : List ℕ) → bytes_eq name t.0 ≡ b → (b ≡ true → p ≡ q) → a ≡ q
    → tag_value name kept ≡ cond p (tag_value name ts) None
    → tag_value name (cond a (t ∷ kept) kept) ≡ cond p (option_map (λ t. t.1) (cond b (Some t) (find (λ t. bytes_eq name t.0) ts))) None
kept_by true true true q t ts kept name is same e rest = ap (λ x. option_map (λ t. t.1) (cond x (Some t) (find (λ t. bytes_eq name t.0) kept))) is
kept_by true true false q t ts kept name is same e rest = absurd (let x : false ≡ true = same refl ∙ sym e in cc)
kept_by true false p q t ts kept name is same e rest = ap (λ x. option_map (λ t. t.1) (cond x (Some t) (find (λ t. bytes_eq name t.0) kept))) is ∙ rest
kept_by false true true q t ts kept name is same e rest = absurd (let x : true ≡ false = same refl ∙ sym e in cc)
kept_by false true false q t ts kept name is same e rest = rest
kept_by false false p q t ts kept name is same e rest = rest

kept_value : (p : List ℕ → Bool) (name : List ℕ) (ts : List Tag) → tag_value name (filter (λ t. p t.0) ts) ≡ cond (p name) (tag_value name ts) None
kept_value p name [] = nothing (p name)
  where
    nothing : (b : Bool) → ◌≡◌ {A = Option (List ℕ)} None (cond b None None)
    nothing true = refl
    nothing false = refl
kept_value p name (t ∷ ts) =
    kept_by (p t.0) (bytes_eq name t.0) (p name) (p t.0) t ts (filter (λ t. p t.0) ts) name refl
    (λ e. ap p ((bytes_eq-Decides name t.0).0 e)) refl (kept_value p name ts)

still_none : (b : Bool) (o : Option (List ℕ)) → is_some o ≡ false → is_some (cond b o None) ≡ false
still_none true o e = e
still_none false o e = refl

distinct_kept : (p : List ℕ → Bool) (ts : List Tag) → AreDistinct ts → AreDistinct (filter (λ t. p t.0) ts)
distinct_kept p [] all = tt
distinct_kept p (t ∷ ts) all =
    by_test (p t.0) (ap is_some (kept_value p t.0 ts) ∙ still_none (p t.0) (tag_value t.0 ts) all.0) (distinct_kept p ts all.1)
  where
    by_test : (b : Bool) → is_some (tag_value t.0 (filter (λ t. p t.0) ts)) ≡ false → AreDistinct (filter (λ t. p t.0) ts) → AreDistinct (cond b (t ∷ filter (λ t. p t.0) ts) (filter (λ t. p t.0) ts))
    by_test true one rest = (one, rest)
    by_test false one rest = rest

-- the value of a name among tags that are put in order
value_first : (name : List ℕ) (t : Tag) (ts : List Tag) (there : Option (List ℕ)) (b : Bool) → bytes_eq name t.0 ≡ b → is_some (tag_value t.0 ts) ≡ false
    → option_or (tag_value name ts) (cond b (Some t.1) there) ≡ option_or (option_map (λ t. t.1) (cond b (Some t) (find (λ t. bytes_eq name t.0) ts))) there
value_first name t ts there false is none = refl
value_first name t ts there true is none =
    by_none (tag_value name ts) (ap (λ n. is_some (tag_value n ts)) ((bytes_eq-Decides name t.0).0 is) ∙ none)
  where
    by_none : (o : Option (List ℕ)) → is_some o ≡ false → option_or o (Some t.1) ≡ Some t.1
    by_none None e = refl
    by_none (Some v) e = absurd (true≢false e)

fold_value : (name : List ℕ) (ts done : List Tag) → AreDistinct ts → tag_value name (fold put done ts) ≡ option_or (tag_value name ts) (tag_value name done)
fold_value name [] done all = refl
fold_value name (t ∷ ts) done all =
    fold_value name ts (put done t) all.1
    ∙ ap (option_or (tag_value name ts)) (put_value name done t)
    ∙ value_first name t ts (tag_value name done) (bytes_eq name t.0) refl all.0

or_none : (o : Option (List ℕ)) → option_or o None ≡ o
or_none None = refl
or_none (Some v) = refl

sorted_value : (name : List ℕ) (tags : List Tag) → AreDistinct tags
    → tag_value name (sorted (filter (λ t. not (is_in_roster t.0)) tags)) ≡ cond (is_other name) (tag_value name tags) None
sorted_value name tags all =
    fold_value name (filter (λ t. not (is_in_roster t.0)) tags) [] (distinct_kept is_other tags all)
    ∙ or_none (tag_value name (filter (λ t. not (is_in_roster t.0)) tags))
    ∙ kept_value is_other name tags

others_value : (name : List ℕ) (tags : List Tag) → AreDistinct tags → (fen : Bool) → is_some (tag_value (codes "FEN") tags) ≡ fen
    → tag_value name (other_tags tags) ≡ cond fen (cond (bytes_eq name (codes "SetUp")) (Some (codes "1"))
    (cond (is_other name) (tag_value name tags) None)) (cond (is_other name) (tag_value name tags) None)
unfolding other_tags
others_value name tags all true is =
    ap (λ b. tag_value name (if b then put (sorted (filter (λ t. not (is_in_roster t.0)) tags)) (codes "SetUp", codes "1") else sorted (filter (λ t. not (is_in_roster t.0)) tags))) is
    ∙ put_value name (sorted (filter (λ t. not (is_in_roster t.0)) tags)) (codes "SetUp", codes "1")
    ∙ ap (cond (bytes_eq name (codes "SetUp")) (Some (codes "1"))) (sorted_value name tags all)
others_value name tags all false is =
    ap (λ b. tag_value name (if b then put (sorted (filter (λ t. not (is_in_roster t.0)) tags)) (codes "SetUp", codes "1") else sorted (filter (λ t. not (is_in_roster t.0)) tags))) is
    ∙ sorted_value name tags all

-- the value of a name in the roster
roster_by : (b : Bool) (name : List ℕ) (tags : List Tag) (t : Tag) (ts : List Tag) → bytes_eq name t.0 ≡ b
    → tag_value name (map (roster_tag tags) ts) ≡ option_map (unwrap_or (tag_value name tags)) (tag_value name ts)
    → option_map (λ t. t.1) (cond b (Some (t.0, unwrap_or (tag_value t.0 tags) t.1)) (find (λ t. bytes_eq name t.0) (map (roster_tag tags) ts)))
    ≡ option_map (unwrap_or (tag_value name tags)) (option_map (λ t. t.1) (cond b (Some t) (find (λ t. bytes_eq name t.0) ts)))
roster_by true name tags t ts is rest = ap (λ n. Some (unwrap_or (tag_value n tags) t.1)) (sym ((bytes_eq-Decides name t.0).0 is))
roster_by false name tags t ts is rest = rest

roster_value : (name : List ℕ) (tags ts : List Tag) → tag_value name (map (roster_tag tags) ts) ≡ option_map (unwrap_or (tag_value name tags)) (tag_value name ts)
unfolding roster_tag
roster_value name tags [] = refl
roster_value name tags (t ∷ ts) = roster_by (bytes_eq name t.0) name tags t ts refl (roster_value name tags ts)

-- the names of the roster
any_value : (name : List ℕ) (ts : List Tag) → list_any (λ t. bytes_eq name t.0) ts ≡ is_some (tag_value name ts)
any_value name [] = refl
any_value name (t ∷ ts) = by_test (bytes_eq name t.0) (any_value name ts)
  where
    by_test : (b : Bool) → list_any (λ t. bytes_eq name t.0) ts ≡ is_some (tag_value name ts)
        → (b || list_any (λ t. bytes_eq name t.0) ts) ≡ is_some (option_map (λ t. t.1) (cond b (Some t) (find (λ t. bytes_eq name t.0) ts)))
    by_test true rest = refl
    by_test false rest = rest

-- all together, by what the name is
in_all : (result : List ℕ) (v r : Option (List ℕ)) (is_result is_set_up fen : Bool) → (is_result ≡ true → r ≡ None) → (is_set_up ≡ true → r ≡ None)
    → let other = cond (not (is_some r || is_result)) v None in
    option_or (option_map (unwrap_or v) r) (cond is_result (Some result) (cond fen (cond is_set_up (Some (codes "1")) other) other))
    ≡ (if is_result then Some result else (if is_set_up && fen then Some (codes "1") else option_or v r))
in_all result v None true s f no_result no_set_up = refl
in_all result v (Some d) true s f no_result no_set_up = absurd (let x : Some d ≡ None = no_result refl in cc)
in_all result v (Some d) false true f no_result no_set_up = absurd (let x : Some d ≡ None = no_set_up refl in cc)
in_all result None (Some d) false false f no_result no_set_up = refl
in_all result (Some x) (Some d) false false f no_result no_set_up = refl
in_all result v None false true true no_result no_set_up = refl
in_all result None None false true false no_result no_set_up = refl
in_all result (Some x) None false true false no_result no_set_up = refl
in_all result None None false false true no_result no_set_up = refl
in_all result (Some x) None false false true no_result no_set_up = refl
in_all result None None false false false no_result no_set_up = refl
in_all result (Some x) None false false false no_result no_set_up = refl

values_joined : (name : List ℕ) (xs : List Tag) (t : Tag) (ys : List Tag) → tag_value name (xs ++ (t ∷ ys)) ≡ option_or (tag_value name xs) (cond (bytes_eq name t.0) (Some t.1) (tag_value name ys))
values_joined name xs t ys =
    ap (option_map (λ t. t.1)) (find-append (λ t. bytes_eq name t.0) xs (t ∷ ys)) ∙ by_first (find (λ t. bytes_eq name t.0) xs)
  where
    by_first : (o : Option Tag) → option_map (λ t. t.1) (option_or o (find (λ t. bytes_eq name t.0) (t ∷ ys)))
        ≡ option_or (option_map (λ t. t.1) o) (cond (bytes_eq name t.0) (Some t.1) (tag_value name ys))
    by_first (Some u) = refl
    by_first None = one_value (bytes_eq name t.0) t (find (λ t. bytes_eq name t.0) ys)

none_in_roster : (name text : List ℕ) → tag_value text roster ≡ None → bytes_eq name text ≡ true → tag_value name roster ≡ None
none_in_roster name text none same = ap (λ n. tag_value n roster) ((bytes_eq-Decides name text).0 same) ∙ none

values_are : (g : Game) (name : List ℕ) → AreDistinct g.tags → tag_value name (written_tags g) ≡ written_value g name
values_are g name all =
    let v = tag_value name g.tags in
    let r = tag_value name roster in
    let fen = is_some (tag_value (codes "FEN") g.tags) in
    values_joined name (map (roster_tag g.tags) roster) (codes "Result", result_text g.result) (other_tags g.tags)
    ∙ ap₂ (λ a b. option_or a (cond (bytes_eq name (codes "Result")) (Some (result_text g.result)) b)) (roster_value name g.tags roster) (others_value name g.tags all fen refl)
    ∙ ap (λ b. option_or (option_map (unwrap_or v) r) (cond (bytes_eq name (codes "Result")) (Some (result_text g.result))
    (cond fen (cond (bytes_eq name (codes "SetUp")) (Some (codes "1")) (cond (not (b || bytes_eq name (codes "Result"))) v None)) (cond (not (b || bytes_eq name (codes "Result"))) v None))))
    (any_value name roster)
    ∙ in_all (result_text g.result) v r (bytes_eq name (codes "Result")) (bytes_eq name (codes "SetUp")) fen
    (none_in_roster name (codes "Result") refl) (none_in_roster name (codes "SetUp") refl)

-- and their order
others_order : (tags : List Tag) (fen : Bool) → is_some (tag_value (codes "FEN") tags) ≡ fen
    → AreSorted (other_tags tags) × AllByRecursion (λ name. is_other name ≡ true) (map (λ u. u.0) (other_tags tags))
unfolding other_tags IsStrictlySortedBy
others_order tags fen is =
    let kept = filter (λ t. not (is_in_roster t.0)) tags in
    let one : AreSorted (sorted kept) = fold_sorted kept [] tt in
    let two : AllByRecursion (λ name. is_other name ≡ true) (map (λ u. u.0) (sorted kept)) = fold_all (λ name. is_other name ≡ true) kept [] (kept_names is_other tags) tt in
    by_fen (is_some (tag_value (codes "FEN") tags)) one two
  where
    by_fen : (b : Bool) → AreSorted (sorted (filter (λ t. not (is_in_roster t.0)) tags))
        → AllByRecursion (λ name. is_other name ≡ true) (map (λ u. u.0) (sorted (filter (λ t. not (is_in_roster t.0)) tags)))
        → AreSorted (if b then put (sorted (filter (λ t. not (is_in_roster t.0)) tags)) (codes "SetUp", codes "1") else sorted (filter (λ t. not (is_in_roster t.0)) tags))
        × AllByRecursion (λ name. is_other name ≡ true) (map (λ u. u.0)
        (if b then put (sorted (filter (λ t. not (is_in_roster t.0)) tags)) (codes "SetUp", codes "1") else sorted (filter (λ t. not (is_in_roster t.0)) tags)))
    by_fen true one two = (
      put_sorted (sorted (filter (λ t. not (is_in_roster t.0)) tags)) (codes "SetUp", codes "1") one,
      all_put (λ name. is_other name ≡ true) (sorted (filter (λ t. not (is_in_roster t.0)) tags)) (codes "SetUp", codes "1") two refl,
    )
    by_fen false one two = (one, two)

first_seven : (tags others : List Tag) (result : List ℕ) → map (λ t. t.0) (take 7 (map (roster_tag tags) roster ++ ((codes "Result", result) ∷ others))) ≡ roster_names
unfolding roster_tag
first_seven tags others result = refl

pub export_tags : (g : Game) → HaveDistinctNames g.tags → AreExportTags g
export_tags g distinct =
    let others = others_order g.tags (is_some (tag_value (codes "FEN") g.tags)) refl in
    record {
      order = record {
        roster = first_seven g.tags (other_tags g.tags) (result_text g.result);
        others = all_true is_other (other_tags g.tags) others.1;
        sorted = others.0;
      };
      values = λ name. values_are g name (distinct_from g.tags distinct);
    }
