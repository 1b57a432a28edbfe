-- The games of an archive that comes in pieces.
use Rattle.std.proofs.Common.{◌≡◌, ℕ, ◌+◌, ◌-◌, ◌≤◌, List, [], ◌∷◌, ◌++◌, length, take, drop, refl, sym, ap, ap₂, ◌∙◌, arith}
use Rattle.std.proofs.Math.Seq.{take-add, drop-append_seam}
use Rattle.pgn_cut.specs.Cut.{cut, closed}
use Rattle.pgn_cut.specs.declared.span.Span.{Span}
use Rattle.pgn_cut.proofs.Closed.{nothing_closes}

-- a list and what another has after it
pub grown : (front whole rest : List Span) → whole ≡ front ++ rest → front ++ drop (length front) whole ≡ whole
grown front whole rest is = ap (λ l. front ++ drop (length front) l) is ∙ ap (λ l. front ++ l) (drop-append_seam front rest) ∙ sym is

-- the bytes up to a place, by an earlier one
pub part : (archive : List ℕ) (at end : ℕ) → at ≤ end → take end archive ≡ take at archive ++ take (end - at) (drop at archive)
part archive at end less = let total : end ≡ at + (end - at) = omega (arith, less) in ap (λ n. take n archive) total ∙ take-add at (end - at) archive

-- the games of an archive that is fed whole
drop_none : (games : List Span) → drop 0 games ≡ games
drop_none [] = refl
drop_none (g ∷ games) = refl

pub whole_games : (archive : List ℕ) (none fed all : List Span) → none ≡ [] → fed ≡ none ++ drop (length (closed [])) (closed archive) → all ≡ fed ++ drop (length (closed archive)) (cut archive)
    → (last : List Span) → cut archive ≡ closed archive ++ last → all ≡ cut archive
whole_games archive none fed all none_is fed_is all_is last is =
    let front : fed ≡ closed archive = fed_is ∙ ap₂ (λ s c. s ++ drop (length c) (closed archive)) none_is nothing_closes ∙ drop_none (closed archive) in
    all_is ∙ ap (λ l. l ++ drop (length (closed archive)) (cut archive)) front ∙ grown (closed archive) (cut archive) last is
