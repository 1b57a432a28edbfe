-- The flat form of a query's items has no families, and breaks no rule where the query breaks none.
use Rattle.std.proofs.Common.{◌≡◌, ℕ, Bool, true, false, ◌&&◌, List, [], ◌∷◌, ◌++◌, Option, Some, None, refl, sym, ap, ap₂, ◌∙◌, map}
use Rattle.std.specs.Prelude.{not, nat_lt, ◌+◌, ◌*◌, if◌then◌else◌}
use Rattle.std.specs.List.{list_all}
use Rattle.std.proofs.lemmas.List.Folds.{list_all-append}
use Rattle.cq_symmetry.specs.Families.{members}
use Rattle.cq_symmetry.specs.Images.{changes_light}
use Rattle.cql_syntax.specs.Contexts.{Context, exchanged_word, exchanged_light, unary_image}
use Rattle.cql_syntax.specs.Flat.{without, distinct, flat, flat_form, flat_all, flat_terms, flat_line, flat_played, flat_written, flat_parts, flat_body}
use Rattle.cql_syntax.specs.FlatItems.{has_its_kind, breaks_none, is_empty}
use Rattle.cql_syntax.specs.Kinds.{plain_kind, unary_kind, chain_kind, filter_kind, form_kind}
use Rattle.cql_syntax.specs.Leaves.{same_kind, kind_number}
use Rattle.cql_syntax.specs.Meaning.{fitting}
use Rattle.cql_syntax.specs.Occurrences.{TypingContext, Occurrence, top_item, part_of, part_of_square, square_condition, occurrences, inner, all_of, of_terms, of_line, of_played, of_written, of_parts, of_body, sorts_with, of_items}
use Rattle.cql_syntax.specs.Places.{copies, places, parts_places, body_places}
use Rattle.cql_syntax.specs.Same.{same_filter}
use Rattle.cql_syntax.specs.TreeFaults.{where_it, wrong_kind, below_top, past_four_sorts, unbound_name, brace_in_comment, is_long_line, is_fifth_square, is_family, is_any}
use Rattle.cql_syntax.specs.TreeLists.{filters_of}
use Rattle.cql_syntax.specs.Trees.{FilterTree, filter_at, FormTree, designator, number, name, plain, tagged, outcome, elo, unary, direction, chain, sum_of, pair, if_, square, line, played, transform, sort, comment, any, FilterTrees, no_filters, more_filters, TermTrees, no_terms, more_terms, LineTree, path, PlayedTree, move_of, WrittenTree, left_out, written, PartTrees, no_parts, more_parts, BodyTree, atom, group}
use Rattle.cql_syntax.specs.OperandKinds.{accepts, unary_operand_kind, pair_operand_kind}
use Rattle.cql_syntax.specs.declared.fault.QueryReason.{QueryReason}
use Rattle.cql_syntax.specs.declared.leaves.Kind.{Kind}
use Rattle.cql_syntax.specs.declared.leaves.Kind.TheVariants.{Position, Set, Number}
use Rattle.cql_syntax.specs.declared.leaves.Unary.{Unary}
use Rattle.cql_syntax.specs.declared.leaves.Unary.TheVariants.{Not, Complement, Count, Power, Light, Dark, Find, FindUp, Child, Parent}
use Rattle.cq_common.proofs.SpellingLaw.{left, right, both_true as both}
use Rattle.cql_syntax.proofs.SameLeaves.{same_numbers}
use Rattle.cql_syntax.proofs.ValueKinds.{kept, word_kept, light_kept}

-- the facts known of a query's filters, and those shown of the filters of its flat form

abbrev pub sound : Occurrence → Bool
sound o = not (is_any o.form) && breaks_none o

abbrev pub good : Occurrence → Bool
good o = (not (is_family o.form) && has_its_kind o.form) && breaks_none o

-- a context in which another kind is required
abbrev wanting : Kind → TypingContext → TypingContext
wanting w s = record { wanted = w; names = s.names; squares = s.squares; item = s.item }

-- the rules other than that of kinds
abbrev rest : Option ℕ → List (List ℕ) → FormTree → List QueryReason
rest item names f = below_top item f ++ (past_four_sorts item f ++ (unbound_name names f ++ brace_in_comment f))

-- lists

split : {A : Type 0} (p : A → Bool) (xs ys : List A) → list_all p (xs ++ ys) ≡ true → (list_all p xs && list_all p ys) ≡ true
split p xs ys h = sym (list_all-append p xs ys) ∙ h

join : {A : Type 0} (p : A → Bool) (xs ys : List A) → list_all p xs ≡ true → list_all p ys ≡ true → list_all p (xs ++ ys) ≡ true
join p xs ys a b = list_all-append p xs ys ∙ both _ _ a b

pub rest_empty : (xs ys : List QueryReason) → (is_empty (xs ++ ys)) ≡ true → (is_empty ys) ≡ true
rest_empty [] ys h = h
rest_empty (x ∷ xs) ys h = cc

accepted_from : (b : Bool) (reason : QueryReason) (ys : List QueryReason) → (is_empty (where_it (not b) reason ++ ys)) ≡ true → b ≡ true
accepted_from true reason ys h = refl
accepted_from false reason ys h = cc

accepted_empty : (b : Bool) (reason : QueryReason) (ys : List QueryReason) → b ≡ true → (is_empty ys) ≡ true → (is_empty (where_it (not b) reason ++ ys)) ≡ true
accepted_empty true reason ys e h = h
accepted_empty false reason ys e h = cc

pub accepts_same : (k : Kind) → accepts k k ≡ true
accepts_same Position = refl
accepts_same Set = refl
accepts_same Number = refl

two : (xs ys xs' ys' : List Occurrence) → (list_all sound xs ≡ true → list_all good xs' ≡ true) → (list_all sound ys ≡ true → list_all good ys' ≡ true)
    → list_all sound (xs ++ ys) ≡ true → list_all good (xs' ++ ys') ≡ true
two xs ys xs' ys' f g h =
    let p = split sound xs ys h in
    join good xs' ys' (f (left (list_all sound xs) (list_all sound ys) p)) (g (right (list_all sound xs) (list_all sound ys) p))

kept_if : (p : FilterTree → Bool) (x : FilterTree) (b : Bool) (more fs : FilterTrees) → list_all p (filters_of more) ≡ true → p x ≡ true
    → list_all p (filters_of (if b then more else more_filters x more)) ≡ true
kept_if p x true more fs h e = h
kept_if p x false more fs h e = both _ _ e h

all_without : (p : FilterTree → Bool) (x : FilterTree) (fs : FilterTrees) → list_all p (filters_of fs) ≡ true → list_all p (filters_of (without x fs)) ≡ true
all_without p x no_filters h = refl
all_without p x (more_filters f fs) h = kept_if p f (same_filter x f) (without x fs) fs (all_without p x fs (right _ _ h)) (left _ _ h)

all_distinct : (p : FilterTree → Bool) (xs : List FilterTree) → list_all p xs ≡ true → list_all p (filters_of (distinct xs)) ≡ true
all_distinct p [] h = refl
all_distinct p (x ∷ xs) h = both _ _ (left _ _ h) (all_without p x (distinct xs) (all_distinct p xs (right _ _ h)))

all_mapped : (p : FilterTree → Bool) (a : Context → FilterTree) (gs : List Context) → ((g : Context) → p (a g) ≡ true) → list_all p (map a gs) ≡ true
all_mapped p a [] is = refl
all_mapped p a (g ∷ gs) is = both _ _ (is g) (all_mapped p a gs is)

each_good : (s : TypingContext) (fs : FilterTrees) → list_all (λ x. list_all good (occurrences s x)) (filters_of fs) ≡ true → list_all good (all_of s fs) ≡ true
unfolding occurrences
each_good s no_filters h = refl
each_good s (more_filters f fs) h =
    let p : FilterTree → Bool = λ x. list_all good (occurrences s x) in
    join good (occurrences s f) (all_of s fs) (left (p f) (list_all p (filters_of fs)) h) (each_good s fs (right (p f) (list_all p (filters_of fs)) h))

-- the properties of a filter that the flat form keeps

wants_light : (b : Bool) (u : Unary) → unary_operand_kind (if b then exchanged_light u else u) ≡ unary_operand_kind u
wants_light false u = refl
wants_light true Not = refl
wants_light true Complement = refl
wants_light true Count = refl
wants_light true Power = refl
wants_light true Light = refl
wants_light true Dark = refl
wants_light true Find = refl
wants_light true FindUp = refl
wants_light true Child = refl
wants_light true Parent = refl

wants_kept : (g : Context) (u : Unary) → unary_operand_kind (unary_image g u) ≡ unary_operand_kind u
wants_kept g u = kept unary_operand_kind (λ m x. if changes_light m then exchanged_light x else x) (λ m x. wants_light (changes_light m) x) g u

form_kind_kept : (g : Context) (f : FormTree) → form_kind (flat_form g f) ≡ form_kind f
unfolding flat
form_kind_kept g (designator d) = refl
form_kind_kept g (number k) = refl
form_kind_kept g (name text) = refl
form_kind_kept g (plain w) = kept plain_kind (λ m x. if m.exchange then exchanged_word x else x) (λ m x. word_kept m.exchange x) g w
form_kind_kept g (tagged field text) = refl
form_kind_kept g (outcome o) = refl
form_kind_kept g (elo whose) = refl
form_kind_kept g (unary u f) = kept unary_kind (λ m x. if changes_light m then exchanged_light x else x) (λ m x. light_kept (changes_light m) x) g u
form_kind_kept g (direction way m n f) = refl
form_kind_kept g (chain c fs) = refl
form_kind_kept g (sum_of ts) = refl
form_kind_kept g (pair c a b) = refl
form_kind_kept g (if_ a b c) = refl
form_kind_kept g (square every text a b) = refl
form_kind_kept g (line l) = refl
form_kind_kept g (played p) = refl
form_kind_kept g (transform t f) = refl
form_kind_kept g (sort least text f) = refl
form_kind_kept g (comment text) = refl
form_kind_kept g (any kind fs) = refl

past_kept : (g : Context) (item : Option ℕ) (f : FormTree) → past_four_sorts item (flat_form g f) ≡ past_four_sorts item f
unfolding flat
past_kept g None f = refl
past_kept g (Some k) (designator d) = refl
past_kept g (Some k) (number m) = refl
past_kept g (Some k) (name text) = refl
past_kept g (Some k) (plain w) = refl
past_kept g (Some k) (tagged field text) = refl
past_kept g (Some k) (outcome o) = refl
past_kept g (Some k) (elo whose) = refl
past_kept g (Some k) (unary u f) = refl
past_kept g (Some k) (direction way m n f) = refl
past_kept g (Some k) (chain c fs) = refl
past_kept g (Some k) (sum_of ts) = refl
past_kept g (Some k) (pair c a b) = refl
past_kept g (Some k) (if_ a b c) = refl
past_kept g (Some k) (square every text a b) = refl
past_kept g (Some k) (line l) = refl
past_kept g (Some k) (played p) = refl
past_kept g (Some k) (transform t f) = refl
past_kept g (Some k) (sort least text f) = refl
past_kept g (Some k) (comment text) = refl
past_kept g (Some k) (any kind fs) = refl

pub kind_kept : (g : Context) (f : FilterTree) → filter_kind (flat g f) ≡ filter_kind f
unfolding flat
kind_kept g (filter_at at f) = form_kind_kept g f

mutual
  unfolding flat

  places_kept : (g : Context) (l : LineTree) → places (flat_line g l) ≡ places l
  places_kept g (path back primary extent cs) = parts_places_kept g cs

  parts_places_kept : (g : Context) (cs : PartTrees) → parts_places (flat_parts g cs) ≡ parts_places cs
  parts_places_kept g no_parts = refl
  parts_places_kept g (more_parts body mark cs) = ap₂ (λ a b. copies mark * a + b) (body_places_kept g body) (parts_places_kept g cs)

  body_places_kept : (g : Context) (b : BodyTree) → body_places (flat_body g b) ≡ body_places b
  body_places_kept g (atom f) = refl
  body_places_kept g (group cs) = parts_places_kept g cs

sorts_kept : (sorts : ℕ) (f : FilterTree) → sorts_with sorts (flat [] f) ≡ sorts_with sorts f
unfolding flat
sorts_kept sorts (filter_at at (designator d)) = refl
sorts_kept sorts (filter_at at (number k)) = refl
sorts_kept sorts (filter_at at (name text)) = refl
sorts_kept sorts (filter_at at (plain w)) = refl
sorts_kept sorts (filter_at at (tagged field text)) = refl
sorts_kept sorts (filter_at at (outcome o)) = refl
sorts_kept sorts (filter_at at (elo whose)) = refl
sorts_kept sorts (filter_at at (unary u f)) = refl
sorts_kept sorts (filter_at at (direction way m n f)) = refl
sorts_kept sorts (filter_at at (chain c fs)) = refl
sorts_kept sorts (filter_at at (sum_of ts)) = refl
sorts_kept sorts (filter_at at (pair c a b)) = refl
sorts_kept sorts (filter_at at (if_ a b c)) = refl
sorts_kept sorts (filter_at at (square every text a b)) = refl
sorts_kept sorts (filter_at at (line l)) = refl
sorts_kept sorts (filter_at at (played p)) = refl
sorts_kept sorts (filter_at at (transform t f)) = refl
sorts_kept sorts (filter_at at (sort least text f)) = refl
sorts_kept sorts (filter_at at (comment text)) = refl
sorts_kept sorts (filter_at at (any kind fs)) = refl

-- A filter that is like another but for its parts breaks no rule if the other breaks none. This is so for any required kind that it has.
step : (g : Context) (s : TypingContext) (w : Kind) (i : ℕ) (f : FormTree) → (not (is_family (flat_form g f)) && has_its_kind (flat_form g f)) ≡ true
    → below_top s.item (flat_form g f) ≡ below_top s.item f
    → (unbound_name s.names (flat_form g f) ++ brace_in_comment (flat_form g f)) ≡ (unbound_name s.names f ++ brace_in_comment f)
    → is_long_line (flat_form g f) ≡ is_long_line f → is_fifth_square s.squares (flat_form g f) ≡ is_fifth_square s.squares f
    → accepts w (form_kind f) ≡ true → breaks_none (record { standing = s; at = i; form = f }) ≡ true
    → good (record { standing = wanting w s; at = i; form = flat_form g f }) ≡ true
step g s w i f own below last long fifth a h =
    let f' = flat_form g f in
    let others : rest s.item s.names f' ≡ rest s.item s.names f = ap₂ (λ x y. x ++ y) below (ap₂ (λ x y. x ++ y) (past_kept g s.item f) last) in
    both _ _ own (both _ _ (both _ _
    (accepted_empty (accepts w (form_kind f')) _ (rest s.item s.names f') (ap (accepts w) (form_kind_kept g f) ∙ a)
    (ap is_empty others ∙ rest_empty (wrong_kind s.wanted (form_kind f)) (rest s.item s.names f) (left _ _ (left _ _ h))))
    (ap not long ∙ right _ _ (left _ _ h)))
    (ap not fifth ∙ right _ _ h))

family_kinds : (f : FilterTree) (gs : List Context) → list_all (λ x. same_kind (filter_kind x) (filter_kind f)) (filters_of (distinct (map (λ h. flat h f) gs))) ≡ true
family_kinds f gs =
    all_distinct (λ x. same_kind (filter_kind x) (filter_kind f)) (map (λ h. flat h f) gs)
    (all_mapped (λ x. same_kind (filter_kind x) (filter_kind f)) (λ h. flat h f) gs (λ h. ap (λ k. same_kind k (filter_kind f)) (kind_kept h f) ∙ same_numbers (kind_number (filter_kind f))))

head : (g : Context) (s : TypingContext) (w : Kind) (i : ℕ) (f : FormTree) → accepts w (form_kind f) ≡ true → sound (record { standing = s; at = i; form = f }) ≡ true
    → good (record { standing = wanting w s; at = i; form = flat_form g f }) ≡ true
unfolding flat
head g s w i (designator d) a h = step g s w i (designator d) refl refl refl refl refl a h
head g s w i (number k) a h = step g s w i (number k) refl refl refl refl refl a h
head g s w i (name text) a h = step g s w i (name text) refl refl refl refl refl a h
head g s w i (plain v) a h = step g s w i (plain v) refl refl refl refl refl a h
head g s w i (tagged field text) a h = step g s w i (tagged field text) refl refl refl refl refl a h
head g s w i (outcome o) a h = step g s w i (outcome o) refl refl refl refl refl a h
head g s w i (elo whose) a h = step g s w i (elo whose) refl refl refl refl refl a h
head g s w i (unary u f) a h = step g s w i (unary u f) refl refl refl refl refl a h
head g s w i (direction way m n f) a h = step g s w i (direction way m n f) refl refl refl refl refl a h
head g s w i (chain c fs) a h = step g s w i (chain c fs) refl refl refl refl refl a h
head g s w i (sum_of ts) a h = step g s w i (sum_of ts) refl refl refl refl refl a h
head g s w i (pair c x y) a h = step g s w i (pair c x y) refl refl refl refl refl a h
head g s w i (if_ x y z) a h = step g s w i (if_ x y z) refl refl refl refl refl a h
head g s w i (square every text x y) a h = step g s w i (square every text x y) refl refl refl refl refl a h
head g s w i (line l) a h = step g s w i (line l) refl refl refl (ap (λ n. nat_lt 64 n) (places_kept g l)) refl a h
head g s w i (played p) a h = step g s w i (played p) refl refl refl refl refl a h
head g s w i (transform t f) a h = step g s w i (transform t f) (family_kinds f (fitting g (members t) f)) refl refl refl refl a h
head g s w i (sort least text f) a h = step g s w i (sort least text f) refl refl refl refl refl a h
head g s w i (comment text) a h = step g s w i (comment text) refl refl refl refl refl a h
head g s w i (any kind fs) a h = absurd (cc)

wanted_is : (s : TypingContext) (f : FilterTree) → list_all sound (occurrences s f) ≡ true → accepts s.wanted (filter_kind f) ≡ true
unfolding occurrences
wanted_is s (filter_at i f) h =
    accepted_from (accepts s.wanted (form_kind f)) _ (rest s.item s.names f) (left _ _ (left _ _ (right (not (is_any f)) _ (left _ _ h))))

mutual
  unfolding flat occurrences

  flat_good : (f : FilterTree) (g : Context) (s : TypingContext) (w : Kind) → accepts w (filter_kind f) ≡ true → list_all sound (occurrences s f) ≡ true
      → list_all good (occurrences (wanting w s) (flat g f)) ≡ true
  flat_good (filter_at i f) g s w a h =
      let here = sound (record { standing = s; at = i; form = f }) in
      let mine = good (record { standing = wanting w s; at = i; form = flat_form g f }) in
      both mine (list_all good (inner (wanting w s) (flat_form g f))) (head g s w i f a (left here (list_all sound (inner s f)) h)) (inner_good f g s w (right here (list_all sound (inner s f)) h))

  inner_good : (f : FormTree) (g : Context) (s : TypingContext) (w : Kind) → list_all sound (inner s f) ≡ true → list_all good (inner (wanting w s) (flat_form g f)) ≡ true
  inner_good (designator d) g s w h = refl
  inner_good (number k) g s w h = refl
  inner_good (name text) g s w h = refl
  inner_good (plain v) g s w h = refl
  inner_good (tagged field text) g s w h = refl
  inner_good (outcome o) g s w h = refl
  inner_good (elo whose) g s w h = refl
  inner_good (unary u f) g s w h =
      let at : TypingContext = part_of s (unary_operand_kind u) in
      ap (λ k. list_all good (occurrences (part_of s k) (flat g f))) (wants_kept g u) ∙ flat_good f g at at.wanted (wanted_is at f h) h
  inner_good (direction way m n f) g s w h = let at : TypingContext = part_of s Set in flat_good f g at at.wanted (wanted_is at f h) h
  inner_good (chain c fs) g s w h = all_good fs g (part_of s (chain_kind c)) h
  inner_good (sum_of ts) g s w h = terms_good ts g (part_of s Number) h
  inner_good (pair c x y) g s w h =
      let at : TypingContext = part_of s (pair_operand_kind c) in
      two (occurrences at x) (occurrences at y) (occurrences at (flat g x)) (occurrences at (flat g y))
      (λ k. flat_good x g at at.wanted (wanted_is at x k) k) (λ k. flat_good y g at at.wanted (wanted_is at y k) k) h
  inner_good (if_ x y z) g s w h =
      let at : TypingContext = part_of s Position in
      two (occurrences at x) (occurrences at y ++ occurrences at z) (occurrences at (flat g x))
      (occurrences at (flat g y) ++ occurrences at (flat g z)) (λ k. flat_good x g at at.wanted (wanted_is at x k) k)
      (two (occurrences at y) (occurrences at z) (occurrences at (flat g y)) (occurrences at (flat g z))
      (λ k. flat_good y g at at.wanted (wanted_is at y k) k) (λ k. flat_good z g at at.wanted (wanted_is at z k) k)) h
  inner_good (square every text x y) g s w h =
      let at : TypingContext = part_of_square s Set in
      let of_each : TypingContext = square_condition s text in
      two (occurrences at x) (occurrences of_each y) (occurrences at (flat g x)) (occurrences of_each (flat g y))
      (λ k. flat_good x g at at.wanted (wanted_is at x k) k) (λ k. flat_good y g of_each of_each.wanted (wanted_is of_each y k) k) h
  inner_good (line l) g s w h = line_good l g (part_of s Position) h
  inner_good (played p) g s w h = played_good p g (part_of s Set) h
  inner_good (transform t f) g s w h =
      let k : Kind = filter_kind f in
      let p : FilterTree → Bool = λ x. list_all good (occurrences (part_of s k) x) in
      let gs : List Context = fitting g (members t) f in
      each_good (part_of s k) (distinct (map (λ c. flat c f) gs))
      (all_distinct p (map (λ c. flat c f) gs) (all_mapped p (λ c. flat c f) gs (λ c. flat_good f c (part_of s Position) k (accepts_same k) h)))
  inner_good (sort least text f) g s w h = let at : TypingContext = part_of s Number in flat_good f g at at.wanted (wanted_is at f h) h
  inner_good (comment text) g s w h = refl
  inner_good (any kind fs) g s w h = all_good fs g (part_of s kind) h

  all_good : (fs : FilterTrees) (g : Context) (s : TypingContext) → list_all sound (all_of s fs) ≡ true → list_all good (all_of s (flat_all g fs)) ≡ true
  all_good no_filters g s h = refl
  all_good (more_filters f fs) g s h = two (occurrences s f) (all_of s fs) (occurrences s (flat g f)) (all_of s (flat_all g fs)) (λ k. flat_good f g s s.wanted (wanted_is s f k) k) (all_good fs g s) h

  terms_good : (ts : TermTrees) (g : Context) (s : TypingContext) → list_all sound (of_terms s ts) ≡ true → list_all good (of_terms s (flat_terms g ts)) ≡ true
  terms_good no_terms g s h = refl
  terms_good (more_terms minus f ts) g s h = two (occurrences s f) (of_terms s ts) (occurrences s (flat g f)) (of_terms s (flat_terms g ts))
      (λ k. flat_good f g s s.wanted (wanted_is s f k) k) (terms_good ts g s) h

  line_good : (l : LineTree) (g : Context) (s : TypingContext) → list_all sound (of_line s l) ≡ true → list_all good (of_line s (flat_line g l)) ≡ true
  line_good (path back primary extent cs) g s h = parts_good cs g s h

  played_good : (p : PlayedTree) (g : Context) (s : TypingContext) → list_all sound (of_played s p) ≡ true → list_all good (of_played s (flat_played g p)) ≡ true
  played_good (move_of a b c d) g s h =
      two (of_written s a) (of_written s b ++ (of_written s c ++ of_written s d)) (of_written s (flat_written g a))
      (of_written s (flat_written g b) ++ (of_written s (flat_written g c) ++ of_written s (flat_written g d))) (written_good a g s)
      (two (of_written s b) (of_written s c ++ of_written s d) (of_written s (flat_written g b)) (of_written s (flat_written g c) ++ of_written s (flat_written g d)) (written_good b g s)
      (two (of_written s c) (of_written s d) (of_written s (flat_written g c)) (of_written s (flat_written g d)) (written_good c g s) (written_good d g s))) h

  written_good : (a : WrittenTree) (g : Context) (s : TypingContext) → list_all sound (of_written s a) ≡ true → list_all good (of_written s (flat_written g a)) ≡ true
  written_good left_out g s h = refl
  written_good (written f) g s h = flat_good f g s s.wanted (wanted_is s f h) h

  parts_good : (cs : PartTrees) (g : Context) (s : TypingContext) → list_all sound (of_parts s cs) ≡ true → list_all good (of_parts s (flat_parts g cs)) ≡ true
  parts_good no_parts g s h = refl
  parts_good (more_parts body mark cs) g s h =
      two (of_body s body) (of_parts s cs) (of_body s (flat_body g body)) (of_parts s (flat_parts g cs)) (body_good body g s) (parts_good cs g s) h

  body_good : (b : BodyTree) (g : Context) (s : TypingContext) → list_all sound (of_body s b) ≡ true → list_all good (of_body s (flat_body g b)) ≡ true
  body_good (atom f) g s h = flat_good f g s s.wanted (wanted_is s f h) h
  body_good (group cs) g s h = parts_good cs g s h

part_good : (f : FilterTree) (g : Context) (s : TypingContext) → list_all sound (occurrences s f) ≡ true → list_all good (occurrences s (flat g f)) ≡ true
part_good f g s h = flat_good f g s s.wanted (wanted_is s f h) h

pub items_good : (fs : FilterTrees) (sorts : ℕ) → list_all sound (of_items sorts fs) ≡ true → list_all good (of_items sorts (flat_all [] fs)) ≡ true
unfolding flat of_items
items_good no_filters sorts h = refl
items_good (more_filters f fs) sorts h =
    two (occurrences (top_item sorts) f) (of_items (sorts_with sorts f) fs) (occurrences (top_item sorts) (flat [] f)) (of_items (sorts_with sorts (flat [] f)) (flat_all [] fs))
    (part_good f [] (top_item sorts))
    (λ k. ap (λ n. list_all good (of_items n (flat_all [] fs))) (sorts_kept sorts f) ∙ items_good fs (sorts_with sorts f) k) h
