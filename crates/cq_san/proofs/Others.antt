-- The given coordinates of the origin, by those that others share.
use Rattle.std.proofs.Common.{◌≡◌, ℕ, Bool, true, false, cond, not, ◌&&◌, ◌||◌, List, [], ◌∷◌, Some, None, refl, sym, ap, ap₂, ◌∙◌}
use Rattle.std.specs.Prelude.{◌==◌, if◌then◌else◌}
use Rattle.std.specs.List.{filter, list_any}
use Rattle.cq_geometry.specs.Squares.{file_of, rank_of}
use Rattle.cq_position.specs.declared.moves.Move.{Move}
use Rattle.cq_position.specs.Board.{Board, man_at, is_pawn}
use Rattle.cq_moves.specs.LegalMoves.{legal_list}
use Rattle.cq_san.specs.Writing.{tells, file_among, rank_among, is_rival, rivals_of, is_capture, given_file, given_rank}
use Rattle.cq_san.specs.Internal.Rivals.{on_file, on_rank}

module _ (r : Move → Bool) where
  -- a part tells the man from the others where none shares it
  tells_by : (t u : Bool) (x : Bool) → cond t (not u && not x) (not x) ≡ not ((t && u) || x)
  tells_by true true x = refl
  tells_by true false x = refl
  tells_by false u x = refl

  choice : (t : Bool) (part : ℕ → ℕ) (n : Move) (ns : List Move) (m : Move) → tells part (cond t (n ∷ ns) ns) m ≡ cond t (not (part m.from == part n.from) && tells part ns m) (tells part ns m)
  choice true part n ns m = refl
  choice false part n ns m = refl

  pub told_by_others : (part : ℕ → ℕ) (ms : List Move) (m : Move) → tells part (filter r ms) m ≡ not (list_any (λ n. r n && (part m.from == part n.from)) ms)
  told_by_others part [] m = refl
  told_by_others part (n ∷ ns) m =
      let x = list_any (λ o. r o && (part m.from == part o.from)) ns in
      choice (r n) part n (filter r ns) m
      ∙ ap (λ t. cond (r n) (not (part m.from == part n.from) && t) t) (told_by_others part ns m)
      ∙ tells_by (r n) (part m.from == part n.from) x

  any_choice : (t : Bool) (n : Move) (ns : List Move) → list_any (λ (_ : Move). true) (cond t (n ∷ ns) ns) ≡ (t || list_any (λ (_ : Move). true) ns)
  any_choice true n ns = refl
  any_choice false n ns = refl

  pub any_by_others : (ms : List Move) → list_any (λ (_ : Move). true) (filter r ms) ≡ list_any r ms
  any_by_others [] = refl
  any_by_others (n ∷ ns) = any_choice (r n) n (filter r ns) ∙ ap (λ t. r n || t) (any_by_others ns)

-- the file and the rank among others, by the three tests
file_by_three : (others : List Move) (m : Move) (any file rank : Bool) → any ≡ list_any (λ (_ : Move). true) others → tells file_of others m ≡ not file → tells rank_of others m ≡ not rank
    → (if any && (not file || rank) then Some (file_of m.from) else None) ≡ file_among others m
file_by_three [] m true file rank a f g = absurd (cc)
file_by_three [] m false file rank a f g = refl
file_by_three (n ∷ ns) m false file rank a f g = absurd (cc)
file_by_three (n ∷ ns) m true true true a f g = ap₂ (λ x y. cond x (Some (file_of m.from)) (cond y None (Some (file_of m.from)))) (sym f) (sym g)
file_by_three (n ∷ ns) m true true false a f g = ap₂ (λ x y. cond x (Some (file_of m.from)) (cond y None (Some (file_of m.from)))) (sym f) (sym g)
file_by_three (n ∷ ns) m true false rank a f g = ap (λ x. cond x (Some (file_of m.from)) (cond (tells rank_of (n ∷ ns) m) None (Some (file_of m.from)))) (sym f)

rank_by_two : (others : List Move) (m : Move) (any file : Bool) → any ≡ list_any (λ (_ : Move). true) others → tells file_of others m ≡ not file
    → (if any && file then Some (rank_of m.from) else None) ≡ rank_among others m
rank_by_two [] m true file a f = absurd (cc)
rank_by_two [] m false file a f = refl
rank_by_two (n ∷ ns) m false file a f = absurd (cc)
rank_by_two (n ∷ ns) m true true a f = ap (λ x. cond x None (Some (rank_of m.from))) (sym f)
rank_by_two (n ∷ ns) m true false a f = ap (λ x. cond x None (Some (rank_of m.from))) (sym f)

pub file_by_others : (p : Board) (m : Move) (ms : List Move) (any file rank : Bool) → any ≡ list_any (is_rival p m) ms
    → file ≡ list_any (on_file p m) ms → rank ≡ list_any (on_rank p m) ms
    → (if any && (not file || rank) then Some (file_of m.from) else None) ≡ file_among (filter (is_rival p m) ms) m
file_by_others p m ms any file rank a f g =
    file_by_three (filter (is_rival p m) ms) m any file rank (a ∙ sym (any_by_others (is_rival p m) ms))
    (told_by_others (is_rival p m) file_of ms m ∙ ap not (sym f)) (told_by_others (is_rival p m) rank_of ms m ∙ ap not (sym g))

pub rank_by_others : (p : Board) (m : Move) (ms : List Move) (any file : Bool) → any ≡ list_any (is_rival p m) ms
    → file ≡ list_any (on_file p m) ms
    → (if any && file then Some (rank_of m.from) else None) ≡ rank_among (filter (is_rival p m) ms) m
rank_by_others p m ms any file a f =
    rank_by_two (filter (is_rival p m) ms) m any file (a ∙ sym (any_by_others (is_rival p m) ms)) (told_by_others (is_rival p m) file_of ms m ∙ ap not (sym f))

-- the given coordinates of the origin of a man that is no pawn
pub file_given : (p : Board) (m : Move) (any file rank : Bool) → is_pawn (man_at p.men m.from) ≡ false → any ≡ list_any (is_rival p m) (legal_list p)
    → file ≡ list_any (on_file p m) (legal_list p) → rank ≡ list_any (on_rank p m) (legal_list p)
    → (if any && (not file || rank) then Some (file_of m.from) else None) ≡ given_file p m
file_given p m any file rank piece a f g =
    file_by_others p m (legal_list p) any file rank a f g
    ∙ ap (λ t. if t then (if is_capture p m then Some (file_of m.from) else None) else file_among (rivals_of p m) m) (sym piece)

pub rank_given : (p : Board) (m : Move) (any file : Bool) → is_pawn (man_at p.men m.from) ≡ false → any ≡ list_any (is_rival p m) (legal_list p)
    → file ≡ list_any (on_file p m) (legal_list p) → (if any && file then Some (rank_of m.from) else None) ≡ given_rank p m
rank_given p m any file piece a f =
    rank_by_others p m (legal_list p) any file a f ∙ ap (λ t. if t then None else rank_among (rivals_of p m) m) (sym piece)
