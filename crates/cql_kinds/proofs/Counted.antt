-- A walk has the same result if `square` are counted up to one more than may be nested.
use Rattle.std.proofs.Common.{◌≡◌, ℕ, ◌+◌, Bool, true, false, cond, List, [], ◌∷◌, ◌++◌, map, filter, None, refl, sym, ◌∙◌, ap, ap₂, arith}
use Rattle.std.proofs.lemmas.List.{map-append}
use Rattle.std.specs.Prelude.{min, nat_eq}
use Rattle.std.specs.List.{flat_map}
use Rattle.cql_syntax.specs.Kinds.{chain_kind}
use Rattle.cql_syntax.specs.Occurrences.{Occurrence, TypingContext, part_of, part_of_square, square_condition, occurrences, inner, all_of, of_terms, of_line, of_played, of_written, of_parts, of_body}
use Rattle.cql_syntax.specs.Trees.{FilterTree, filter_at, FormTree, designator, number, name, plain, tagged, outcome, elo, unary, direction, chain, sum_of, pair, if_, square, line, played, transform, sort, comment, any, FilterTrees, no_filters, more_filters, TermTrees, no_terms, more_terms, LineTree, path, PartTrees, no_parts, more_parts, BodyTree, atom, group, PlayedTree, move_of, WrittenTree, left_out, written}
use Rattle.cql_syntax.specs.TreeFaults.{first, ok_unless, rule_faults, is_long_line, is_fifth_square, is_family, bytes_where}
use Rattle.cql_syntax.specs.OperandKinds.{unary_operand_kind, pair_operand_kind}
use Rattle.cql_syntax.specs.declared.leaves.Kind.{Kind}
use Rattle.cql_syntax.specs.declared.leaves.Kind.TheVariants.{Position, Set, Number}
use Rattle.cql_kinds.specs.declared.first_breaches.FirstBreaches.{FirstBreaches}
use Rattle.cql_kinds.specs.Internal.TypingContexts.{counted}
use Rattle.cql_kinds.specs.Internal.Walks.{with_breaches, walk_result}

abbrev seen : Occurrence → Occurrence
seen o = record { standing = counted o.standing; at = o.at; form = o.form }

faults_seen : (os : List Occurrence) → flat_map rule_faults (map seen os) ≡ flat_map rule_faults os
faults_seen [] = refl
faults_seen (o ∷ os) = ap (λ faults. rule_faults o ++ faults) (faults_seen os)

byte_seen : (a b : Bool) (o : Occurrence) (xs ys : List Occurrence) → a ≡ b → map (λ x. x.at) xs ≡ map (λ x. x.at) ys
    → map (λ x. x.at) (cond a (seen o ∷ xs) xs) ≡ map (λ x. x.at) (cond b (o ∷ ys) ys)
byte_seen true true o xs ys e is = ap (λ bytes. o.at ∷ bytes) is
byte_seen false false o xs ys e is = is
byte_seen true false o xs ys e is = cc
byte_seen false true o xs ys e is = cc

bytes_seen : (test : Occurrence → Bool) → ((o : Occurrence) → test (seen o) ≡ test o) → (os : List Occurrence)
    → bytes_where test (map seen os) ≡ bytes_where test os
bytes_seen test alike [] = refl
bytes_seen test alike (o ∷ os) =
    byte_seen (test (seen o)) (test o) o (filter test (map seen os)) (filter test os) (alike o) (bytes_seen test alike os)

fifth_number : (n : ℕ) → nat_eq (min n 5) 4 ≡ nat_eq n 4
fifth_number n = grind arith

fifth_seen : (n : ℕ) (f : FormTree) → is_fifth_square (min n 5) f ≡ is_fifth_square n f
fifth_seen n (square every text f g) = fifth_number n
fifth_seen n _ = refl

firsts_seen : (firsts : FirstBreaches) (os : List Occurrence) → with_breaches firsts (map seen os) ≡ with_breaches firsts os
firsts_seen firsts os =
    let line = bytes_seen (λ o. is_long_line o.form) (λ o. refl) os in
    let fifth = bytes_seen (λ o. is_fifth_square o.standing.squares o.form) (λ o. fifth_seen o.standing.squares o.form) os in
    let family = bytes_seen (λ o. is_family o.form) (λ o. refl) os in
    rw (line, fifth, family) refl

walked_seen : (firsts : FirstBreaches) (os : List Occurrence) → walk_result firsts (map seen os) ≡ walk_result firsts os
unfolding walk_result
walked_seen firsts os = ap₂ (λ found faults. ok_unless found (first faults)) (firsts_seen firsts os) (faults_seen os)

-- filters in two contexts that are counted alike have the same results

counted_more : (n : ℕ) → min (n + 1) 5 ≡ min (min n 5 + 1) 5
counted_more n = grind arith

counted_again : (n : ℕ) → min n 5 ≡ min (min n 5) 5
counted_again n = grind arith

abbrev more : Kind → List (List ℕ) → ℕ → TypingContext
more wanted names squares = record { wanted = wanted; names = names; squares = min (squares + 1) 5; item = None }

part_alike : (s t : TypingContext) (wanted : Kind) → counted s ≡ counted t → counted (part_of_square s wanted) ≡ counted (part_of_square t wanted)
part_alike s t wanted e =
    ap (λ n. record { wanted = wanted; names = s.names; squares = n; item = None }) (counted_more s.squares)
    ∙ ap (λ r. more wanted r.names r.squares) e
    ∙ ap (λ n. record { wanted = wanted; names = t.names; squares = n; item = None }) (sym (counted_more t.squares))

asked_alike : (s t : TypingContext) (text : List ℕ) → counted s ≡ counted t → counted (square_condition s text) ≡ counted (square_condition t text)
asked_alike s t text e =
    ap (λ n. record { wanted = Position; names = text ∷ s.names; squares = n; item = None }) (counted_more s.squares)
    ∙ ap (λ r. more Position (text ∷ r.names) r.squares) e
    ∙ ap (λ n. record { wanted = Position; names = text ∷ t.names; squares = n; item = None }) (sym (counted_more t.squares))

abbrev SeenAlike : List Occurrence → List Occurrence → Type 0
SeenAlike xs ys = map seen xs ≡ map seen ys

both : (xs xs' ys ys' : List Occurrence) → SeenAlike xs xs' → SeenAlike ys ys' → SeenAlike (xs ++ ys) (xs' ++ ys')
both xs xs' ys ys' p q = map-append seen xs ys ∙ ap₂ (λ a b. a ++ b) p q ∙ sym (map-append seen xs' ys')

part : (s t : TypingContext) (wanted : Kind) → counted s ≡ counted t → counted (part_of s wanted) ≡ counted (part_of t wanted)
part s t wanted e = ap (λ r. part_of r wanted) e

mutual
  unfolding occurrences

  filter_alike : (s t : TypingContext) (f : FilterTree) → counted s ≡ counted t → SeenAlike (occurrences s f) (occurrences t f)
  filter_alike s t (filter_at at f) e =
      ap₂ (λ r os. record { standing = r; at = at; form = f } ∷ os) e (inner_alike s t f e)

  inner_alike : (s t : TypingContext) (f : FormTree) → counted s ≡ counted t → SeenAlike (inner s f) (inner t f)
  inner_alike s t (designator d) e = refl
  inner_alike s t (number n) e = refl
  inner_alike s t (name text) e = refl
  inner_alike s t (plain word) e = refl
  inner_alike s t (tagged field text) e = refl
  inner_alike s t (outcome o) e = refl
  inner_alike s t (elo whose) e = refl
  inner_alike s t (unary u f) e = filter_alike (part_of s (unary_operand_kind u)) (part_of t (unary_operand_kind u)) f (part s t (unary_operand_kind u) e)
  inner_alike s t (direction way m n f) e = filter_alike (part_of s Set) (part_of t Set) f (part s t Set e)
  inner_alike s t (chain c fs) e = all_alike (part_of s (chain_kind c)) (part_of t (chain_kind c)) fs (part s t (chain_kind c) e)
  inner_alike s t (sum_of ts) e = terms_alike (part_of s Number) (part_of t Number) ts (part s t Number e)
  inner_alike s t (pair c f g) e =
      let inside = part s t (pair_operand_kind c) e in
      both _ _ _ _ (filter_alike (part_of s (pair_operand_kind c)) (part_of t (pair_operand_kind c)) f inside)
      (filter_alike (part_of s (pair_operand_kind c)) (part_of t (pair_operand_kind c)) g inside)
  inner_alike s t (if_ f g h) e =
      let inside = part s t Position e in
      both _ _ _ _ (filter_alike (part_of s Position) (part_of t Position) f inside)
      (both _ _ _ _ (filter_alike (part_of s Position) (part_of t Position) g inside)
      (filter_alike (part_of s Position) (part_of t Position) h inside))
  inner_alike s t (square every text f g) e =
      both _ _ _ _ (filter_alike (part_of_square s Set) (part_of_square t Set) f (part_alike s t Set e))
      (filter_alike (square_condition s text) (square_condition t text) g (asked_alike s t text e))
  inner_alike s t (line l) e = line_alike (part_of s Position) (part_of t Position) l (part s t Position e)
  inner_alike s t (played p) e = played_alike (part_of s Set) (part_of t Set) p (part s t Set e)
  inner_alike s t (transform c f) e = filter_alike (part_of s Position) (part_of t Position) f (part s t Position e)
  inner_alike s t (sort least text f) e = filter_alike (part_of s Number) (part_of t Number) f (part s t Number e)
  inner_alike s t (comment text) e = refl
  inner_alike s t (any kind fs) e = all_alike (part_of s kind) (part_of t kind) fs (part s t kind e)

  all_alike : (s t : TypingContext) (fs : FilterTrees) → counted s ≡ counted t → SeenAlike (all_of s fs) (all_of t fs)
  all_alike s t no_filters e = refl
  all_alike s t (more_filters f fs) e = both _ _ _ _ (filter_alike s t f e) (all_alike s t fs e)

  terms_alike : (s t : TypingContext) (ts : TermTrees) → counted s ≡ counted t → SeenAlike (of_terms s ts) (of_terms t ts)
  terms_alike s t no_terms e = refl
  terms_alike s t (more_terms minus f ts) e = both _ _ _ _ (filter_alike s t f e) (terms_alike s t ts e)

  line_alike : (s t : TypingContext) (l : LineTree) → counted s ≡ counted t → SeenAlike (of_line s l) (of_line t l)
  line_alike s t (path back primary extent cs) e = parts_alike s t cs e

  played_alike : (s t : TypingContext) (p : PlayedTree) → counted s ≡ counted t → SeenAlike (of_played s p) (of_played t p)
  played_alike s t (move_of origin goal taken promoted) e =
      both _ _ _ _ (written_alike s t origin e) (both _ _ _ _ (written_alike s t goal e)
      (both _ _ _ _ (written_alike s t taken e) (written_alike s t promoted e)))

  written_alike : (s t : TypingContext) (w : WrittenTree) → counted s ≡ counted t → SeenAlike (of_written s w) (of_written t w)
  written_alike s t left_out e = refl
  written_alike s t (written f) e = filter_alike s t f e

  parts_alike : (s t : TypingContext) (cs : PartTrees) → counted s ≡ counted t → SeenAlike (of_parts s cs) (of_parts t cs)
  parts_alike s t no_parts e = refl
  parts_alike s t (more_parts body mark cs) e = both _ _ _ _ (body_alike s t body e) (parts_alike s t cs e)

  body_alike : (s t : TypingContext) (b : BodyTree) → counted s ≡ counted t → SeenAlike (of_body s b) (of_body t b)
  body_alike s t (atom f) e = filter_alike s t f e
  body_alike s t (group cs) e = parts_alike s t cs e

again : (s : TypingContext) → counted s ≡ counted (counted s)
again s = ap (λ n. record { wanted = s.wanted; names = s.names; squares = n; item = s.item }) (counted_again s.squares)

-- two filters in a row
pub both_counted : (firsts : FirstBreaches) (s t : TypingContext) (f g : FilterTree) → walk_result firsts (occurrences s f ++ occurrences t g)
    ≡ walk_result firsts (occurrences (counted s) f ++ occurrences (counted t) g)
both_counted firsts s t f g =
    sym (walked_seen firsts (occurrences s f ++ occurrences t g))
    ∙ ap (walk_result firsts) (both _ _ _ _ (filter_alike s (counted s) f (again s)) (filter_alike t (counted t) g (again t)))
    ∙ walked_seen firsts (occurrences (counted s) f ++ occurrences (counted t) g)
