-- The pieces of an archive, one after the other, are the archive.
use Rattle.std.proofs.Common.{◌≡◌, ◌⊎◌, ℕ, ◌-◌, ◌<◌, ◌≤◌, List, [], ◌∷◌, ◌++◌, length, take, drop, refl, sym, ap, ap₂, ◌∙◌, arith, append_assoc, inl, inr}
use Rattle.std.specs.List.{flat_map}
use Rattle.std.proofs.lemmas.Bool.{cases_lt, lt-ltb, le-ltb}
use Rattle.std.proofs.lemmas.List.{append-nil, drop-drop, take-append-drop, take_all, drop_all, length-drop}
use Rattle.std.proofs.lemmas.List.Concat.{flat_map-append}
use Rattle.pgn_cut.specs.Cut.{cut}
use Rattle.pgn_cut.specs.declared.span.Span.{Span}
use Rattle.pgn_pieces.specs.Pieces.{piece_bytes, last_piece, after, start, AreFull, ArePieces}
use Rattle.pgn_pieces.specs.declared.piece.Piece.{Piece}
use Rattle.pgn_pieces.specs.declared.piece.PieceStart.{PieceStart}
use Rattle.pgn_pieces.proofs.Streams.{Order, both_none, no_games}

-- a piece and the bytes after it
piece_and_rest : (archive : List ℕ) (p : Piece) → piece_bytes archive p ++ drop (after p).from archive ≡ drop p.offset archive
piece_and_rest archive p =
    ap (λ (l : List ℕ). piece_bytes archive p ++ l) (sym (drop-drop p.length p.offset archive)) ∙ take-append-drop p.length (drop p.offset archive)

-- full pieces are the bytes before the place at which they stop
full_cover : (least : ℕ) (archive : List ℕ) (here : PieceStart) (games : List Span) (ps : List Piece) (stop : PieceStart) → AreFull least here games ps stop
    → flat_map (piece_bytes archive) ps ++ drop stop.from archive ≡ drop here.from archive
unfolding AreFull
full_cover least archive here games [] stop full = ap (λ (p : PieceStart). drop p.from archive) (sym full.1)
full_cover least archive here games (p ∷ ps) stop full =
    append_assoc (piece_bytes archive p) (flat_map (piece_bytes archive) ps) (drop stop.from archive)
    ∙ ap (λ (l : List ℕ). piece_bytes archive p ++ l) (full_cover least archive (after p) full.1 ps stop full.5) ∙ piece_and_rest archive p
    ∙ ap (λ (q : Piece). drop q.offset archive) full.4

last_by : (archive : List ℕ) (stop : PieceStart) (games : ℕ) → (stop.from < length archive) ⊎ (length archive ≤ stop.from)
    → flat_map (piece_bytes archive) (last_piece stop (length archive) games) ≡ drop stop.from archive
last_by archive stop games (inl some) =
    let rest = drop stop.from archive in
    let long = length archive - stop.from in
    rw (lt-ltb stop.from (length archive) some) (append-nil (take long rest) ∙ take_all long rest (omega (arith, length-drop stop.from archive)))
last_by archive stop games (inr none) = rw (le-ltb stop.from (length archive) none) (sym (drop_all stop.from archive none))

pub pieces_cover : (least : ℕ) (archive : List ℕ) (pieces : List Piece) → ArePieces least archive pieces → flat_map (piece_bytes archive) pieces ≡ archive
pieces_cover least archive pieces are =
    let last = last_piece are.stop (length archive) (length are.fill.rest) in
    ap (flat_map (piece_bytes archive)) are.are ∙ flat_map-append (piece_bytes archive) are.full last
    ∙ ap (λ (l : List ℕ). flat_map (piece_bytes archive) are.full ++ l) (last_by archive are.stop (length are.fill.rest) (cases_lt are.stop.from (length archive)))
    ∙ full_cover least archive start are.fill.taken are.full are.stop are.fill.full

-- ---- no byte

not_none : (xs : List Span) (x : Span) → [] ≡ xs ++ x ∷ [] → ⊥
not_none [] x are = cc
not_none (y ∷ ys) x are = cc

none_full : (least : ℕ) (here : PieceStart) (games : List Span) (ps : List Piece) (stop : PieceStart) → games ≡ [] → AreFull least here games ps stop → (ps ≡ []) × (here ≡ stop)
unfolding AreFull
none_full least here games [] stop none full = (refl, full.1)
none_full least here games (p ∷ ps) stop none full =
    let mine : full.0 ≡ [] = both_none full.0 full.1 (sym none ∙ full.2) in
    absurd (not_none full.3.fewer full.3.last (sym mine ∙ full.3.are))

pub no_pieces : Order → (least : ℕ) (pieces : List Piece) → ArePieces least [] pieces → pieces ≡ []
no_pieces order least pieces are =
    let taken : are.fill.taken ≡ [] = both_none are.fill.taken are.fill.rest (sym (no_games (cut []) (order [])) ∙ are.fill.are) in
    let none = none_full least start are.fill.taken are.full are.stop taken are.fill.full in
    are.are ∙ ap₂ (λ (ps : List Piece) (stop : PieceStart). ps ++ last_piece stop 0 (length are.fill.rest)) none.0 (sym none.1)
