-- One read more, and its result.
use Rattle.std.proofs.Common.{◌≡◌, ℕ, ◌+◌, ◌<◌, ◌≤◌, ◌^◌, List, [], ◌++◌, length, take, drop, Option, None, Some, refl, sym, subst, ap, ◌∙◌, arith, append_assoc, inl, inr}
use Rattle.std.proofs.Math.Seq.{take-add, drop-append_seam}
use Rattle.std.proofs.lemmas.List.{append-nil, length-append, take_all, take_at}
use Rattle.std.proofs.lemmas.List.Concat.{flat_map-append}
use Rattle.std.specs.Io.KnownBytes.{Consumes, Keeps, IsAtEnd}
use Rattle.cq_outside.specs.Faults.{Rose}
use Rattle.cq_outside.specs.Flow.{Grew}
use Rattle.pgn_pieces.specs.Pieces.{ArePieces, ArePrefixPieces}
use Rattle.pgn_pieces.specs.State.{Stands, TakesBytes, ComesToEnd}
use Rattle.pgn_pieces.specs.Table.{line, table}
use Rattle.pgn_pieces.specs.declared.piece.Piece.{Piece}
use Rattle.pgn_pieces.specs.declared.state.Pieces.{Pieces}
use Rattle.pgn_pieces.specs.Cutting.{Pipe, HasCut, WritesFirst, Says}
use Rattle.cq_program.specs.declared.status.Status.TheVariants.{Done, ReadFault, WriteFault, NoMemory, ArchiveTooLong}

-- ---- reads and writes one after another

grew_on : (a b c : Option (List ℕ)) (xs ys : List ℕ) → Grew a b xs → Grew b c ys → Grew a c (xs ++ ys)
grew_on a b None xs ys f g = tt
grew_on a None (Some zs) xs ys f g = absurd g
grew_on None (Some bs) (Some zs) xs ys f g = absurd f
grew_on (Some os) (Some bs) (Some zs) xs ys f g = g ∙ ap (λ l. l ++ ys) f ∙ append_assoc os xs ys

grew_none : (a : Option (List ℕ)) → Grew a a []
grew_none None = tt
grew_none (Some xs) = sym (append-nil xs)

consumed_on : (a b c : Option (List ℕ)) (xs ys : List ℕ) → Consumes a b xs → Consumes b c ys → Consumes a c (xs ++ ys)
consumed_on None b c xs ys f g = tt
consumed_on (Some os) None c xs ys f g = absurd f
consumed_on (Some os) (Some bs) None xs ys f g = absurd g
consumed_on (Some os) (Some bs) (Some cs) xs ys f g = f ∙ ap (λ l. xs ++ l) g ∙ sym (append_assoc xs ys cs)

pub consumes_none : (a : Option (List ℕ)) → Consumes a a []
consumes_none None = tt
consumes_none (Some xs) = refl

pub kept : (a b : Option (List ℕ)) → Keeps a b → Consumes a b []
kept None b keeps = tt
kept (Some xs) None keeps = absurd keeps
kept (Some xs) (Some ys) keeps = sym keeps

-- a text, and a prefix of another after it
take_on : (xs ys : List ℕ) (k : ℕ) → take (length xs + k) (xs ++ ys) ≡ xs ++ take k ys
take_on xs ys k =
    take-add (length xs) k (xs ++ ys) ∙ ap (λ (l : List ℕ). l ++ take k (drop (length xs) (xs ++ ys))) (take_at xs ys (length xs) refl)
    ∙ ap (λ (l : List ℕ). xs ++ take k l) (drop-append_seam xs ys)

-- the lines of more pieces
lines_on : (pieces more : List Piece) → table (pieces ++ more) ≡ table pieces ++ table more
lines_on pieces more = flat_map-append line pieces more

rose_on : (a b c : ℕ) → b ≡ a → Rose b c → Rose a c
rose_on a b c same rose = subst (λ (k : ℕ). Rose k c) same rose

-- ---- one read

first_of : (least : ℕ) (p : Pieces) (front : List ℕ) (pieces : List Piece) → p.least ≡ least → Stands p front pieces → ArePrefixPieces least front pieces
first_of least p front pieces is stands =
    let first : ArePrefixPieces p.least front pieces = record { stop = p.open_piece.begin; fill = stands.shows.fill } in
    subst (λ (k : ℕ). ArePrefixPieces k front pieces) is first

pub starts : (least : ℕ) (was : Pipe) (p : Pieces) → Stands p [] [] → p.least ≡ least → HasCut least 0 was was p
starts least was p stands is = record {
  front = [];
  pieces = [];
  stands = stands;
  least_is = is;
  count_is = refl;
  moves = record { reads = consumes_none was.left; writes = grew_none was.taken };
  reads = refl;
  writes = refl;
}

writes_first : (least count : ℕ) (was now : Pipe) (p : Pieces) (cut : HasCut least count was now p) → WritesFirst least was now cut.front
writes_first least count was now p cut = record { pieces = cut.pieces; are = first_of least p cut.front cut.pieces cut.least_is cut.stands; moves = cut.moves }

pub read_failed : (least count : ℕ) (was mid now : Pipe) (p : Pieces) → HasCut least count was mid p → Keeps mid.left now.left → Rose mid.read_faults now.read_faults
    → now.taken ≡ mid.taken → now.write_faults ≡ mid.write_faults → Says ReadFault least was now
read_failed least count was mid now p cut keeps rose same writes =
    let all : Consumes was.left now.left cut.front =
    subst (Consumes was.left now.left) (append-nil cut.front) (consumed_on was.left mid.left now.left cut.front [] cut.moves.reads (kept mid.left now.left keeps)) in
    let text : Grew was.taken now.taken (table cut.pieces) = subst (λ (t : Option (List ℕ)). Grew was.taken t (table cut.pieces)) (sym same) cut.moves.writes in (
      (cut.front, record { pieces = cut.pieces; are = first_of least p cut.front cut.pieces cut.least_is cut.stands; moves = record { reads = all; writes = text } }),
      rose_on was.read_faults mid.read_faults now.read_faults cut.reads rose,
      writes ∙ cut.writes,
    )

-- out of memory for the bytes read
pub read_lost : (least count : ℕ) (was mid now : Pipe) (p : Pieces) (bytes : List ℕ) → length bytes ≤ 65536 → HasCut least count was mid p → Consumes mid.left now.left bytes
    → now.read_faults ≡ mid.read_faults → now.taken ≡ mid.taken → now.write_faults ≡ mid.write_faults → Says NoMemory least was now
read_lost least count was mid now p bytes few cut takes reads same writes = (
  (
    bytes,
    few,
    record {
      front = cut.front;
      pieces = cut.pieces;
      are = inl (first_of least p cut.front cut.pieces cut.least_is cut.stands);
      count = length (table cut.pieces);
      moves = record {
        reads = consumed_on was.left mid.left now.left cut.front bytes cut.moves.reads takes;
        writes = subst (λ (t : Option (List ℕ)). Grew was.taken t (take (length (table cut.pieces)) (table cut.pieces))) (sym same)
            (subst (Grew was.taken mid.taken) (sym (take_all (length (table cut.pieces)) (table cut.pieces) (omega arith))) cut.moves.writes);
      };
    },
  ),
  reads ∙ cut.reads,
  writes ∙ cut.writes,
)

pub read_more : (least count n : ℕ) (was mid now : Pipe) (p q : Pieces) (bytes text : List ℕ) → HasCut least count was mid p → Consumes mid.left now.left bytes
    → now.read_faults ≡ mid.read_faults → TakesBytes p q bytes [] text → q.least ≡ p.least → length bytes ≡ n → Grew mid.taken now.taken text
    → now.write_faults ≡ mid.write_faults → HasCut least (count + n) was now q
read_more least count n was mid now p q bytes text cut takes reads fed least_ long writes faults = record {
  front = cut.front ++ bytes;
  pieces = cut.pieces ++ fed.more;
  stands = fed.stands cut.front cut.pieces cut.stands;
  least_is = least_ ∙ cut.least_is;
  count_is = omega (arith, length-append cut.front bytes, cut.count_is, long);
  moves = record {
    reads = consumed_on was.left mid.left now.left cut.front bytes cut.moves.reads takes;
    writes = subst (Grew was.taken now.taken) (sym (lines_on cut.pieces fed.more)) (grew_on was.taken mid.taken now.taken (table cut.pieces) (table fed.more) cut.moves.writes
        (subst (Grew mid.taken now.taken) fed.lines writes));
  };
  reads = reads ∙ cut.reads;
  writes = faults ∙ cut.writes;
}

-- a prefix of the lines that were due was written
front_written : (was mid now : Option (List ℕ)) (pieces more : List Piece) (text : List ℕ) (k : ℕ) → Grew was mid (table pieces) → text ≡ table more → Grew mid now (take k text)
    → Grew was now (take (length (table pieces) + k) (table (pieces ++ more)))
front_written was mid now pieces more text k before is after =
    subst (Grew was now) (sym (ap (take (length (table pieces) + k)) (lines_on pieces more) ∙ take_on (table pieces) (table more) k))
    (grew_on was mid now (table pieces) (take k (table more)) before (subst (λ (t : List ℕ). Grew mid now (take k t)) is after))

pub write_failed : (least count : ℕ) (was mid now : Pipe) (p q : Pieces) (bytes text : List ℕ) → HasCut least count was mid p → Consumes mid.left now.left bytes
    → now.read_faults ≡ mid.read_faults → TakesBytes p q bytes [] text → q.least ≡ p.least → ((k : ℕ) × Grew mid.taken now.taken (take k text))
    → Rose mid.write_faults now.write_faults → Says WriteFault least was now
write_failed least count was mid now p q bytes text cut takes reads fed least_ part rose = (
  record {
    front = cut.front ++ bytes;
    pieces = cut.pieces ++ fed.more;
    are = inl (first_of least q (cut.front ++ bytes) (cut.pieces ++ fed.more) (least_ ∙ cut.least_is) (fed.stands cut.front cut.pieces cut.stands));
    count = length (table cut.pieces) + part.0;
    moves = record {
      reads = subst (Consumes was.left now.left) (sym (append-nil (cut.front ++ bytes))) (consumed_on was.left mid.left now.left cut.front bytes cut.moves.reads takes);
      writes = front_written was.taken mid.taken now.taken cut.pieces fed.more text part.0 cut.moves.writes fed.lines part.1;
    };
  },
  reads ∙ cut.reads,
  rose_on was.write_faults mid.write_faults now.write_faults cut.writes rose,
)

-- ---- the end

are_all : (least : ℕ) (p : Pieces) (front text : List ℕ) (pieces : List Piece) → p.least ≡ least → Stands p front pieces → (ends : ComesToEnd p [] text)
    → ArePieces least front (pieces ++ ends.more)
are_all least p front text pieces is stands ends = subst (λ (k : ℕ). ArePieces k front (pieces ++ ends.more)) is (ends.are front pieces stands)

pub table_written : (least count : ℕ) (was mid now : Pipe) (p : Pieces) (text : List ℕ) → IsAtEnd now.left → count ≤ 2 ^ 40 → HasCut least count was mid p
    → now.left ≡ mid.left → now.read_faults ≡ mid.read_faults → ComesToEnd p [] text → Grew mid.taken now.taken text → now.write_faults ≡ mid.write_faults
    → Says Done least was now
table_written least count was mid now p text at_end within cut left reads ends writes faults = (
  record {
    archive = cut.front;
    within = omega (arith, within, cut.count_is);
    pieces = cut.pieces ++ ends.more;
    are = are_all least p cut.front text cut.pieces cut.least_is cut.stands ends;
    moves = record {
      reads = subst (λ (l : Option (List ℕ)). Consumes was.left l cut.front) (sym left) cut.moves.reads;
      writes = subst (Grew was.taken now.taken) (sym (lines_on cut.pieces ends.more)) (grew_on was.taken mid.taken now.taken (table cut.pieces) (table ends.more) cut.moves.writes
          (subst (Grew mid.taken now.taken) ends.lines writes));
    };
    whole = at_end;
  },
  reads ∙ cut.reads,
  faults ∙ cut.writes,
)

pub table_failed : (least count : ℕ) (was mid now : Pipe) (p : Pieces) (text : List ℕ) → IsAtEnd now.left → HasCut least count was mid p → now.left ≡ mid.left
    → now.read_faults ≡ mid.read_faults → ComesToEnd p [] text → ((k : ℕ) × Grew mid.taken now.taken (take k text)) → Rose mid.write_faults now.write_faults
    → Says WriteFault least was now
table_failed least count was mid now p text at_end cut left reads ends part rose = (
  record {
    front = cut.front;
    pieces = cut.pieces ++ ends.more;
    are = inr (are_all least p cut.front text cut.pieces cut.least_is cut.stands ends, refl, at_end);
    count = length (table cut.pieces) + part.0;
    moves = record {
      reads = subst (λ (l : Option (List ℕ)). Consumes was.left l (cut.front ++ [])) (sym left)
          (subst (Consumes was.left mid.left) (sym (append-nil cut.front)) cut.moves.reads);
      writes = front_written was.taken mid.taken now.taken cut.pieces ends.more text part.0 cut.moves.writes ends.lines part.1;
    };
  },
  reads ∙ cut.reads,
  rose_on was.write_faults mid.write_faults now.write_faults cut.writes rose,
)

pub too_long : (least count : ℕ) (was now : Pipe) (p : Pieces) → HasCut least count was now p → 2 ^ 40 < count → count ≤ 2 ^ 40 + 65536
    → Says ArchiveTooLong least was now
too_long least count was now p cut over most =
    ((cut.front, omega (arith, over, cut.count_is), omega (arith, most, cut.count_is), writes_first least count was now p cut), cut.reads, cut.writes)
