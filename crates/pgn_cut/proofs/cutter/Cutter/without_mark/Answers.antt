use Rattle.std.proofs.Common.{◌∙◌, sym, subst, ap, None, [], ◌∷◌, arith}
use Rattle.pgn_cut.specs.Streams.{IsEnded}
use Rattle.pgn_cut.specs.declared.state.State.TheVariants.{AtStart, OneOfMark, TwoOfMark}
use Rattle.pgn_cut.proofs.Marks.{fed_none, fed_one, fed_two, start_ends, one_ends, two_end, Gains}
use Rattle.pgn_cut.proofs.cutter.Cutter.without_mark.Goals as goal

pub returns-in-AtStart-clause-ends : goal.returns-in-AtStart-clause-ends
returns-in-AtStart-clause-ends c = λ fed m.
    let ended = start_ends c.new.result c.new.ensures.value c.new.ensures.flat in
    subst (λ f. IsEnded c.between.result None c.args.self.state f) (sym (fed_none c.args.self fed m c.in-AtStart.is))
    (subst (λ s. IsEnded c.between.result None s []) (sym c.in-AtStart.is) (subst (λ n. IsEnded n None AtStart []) (sym c.between.ensures) ended))

pub returns-in-OneOfMark-clause-ends : goal.returns-in-OneOfMark-clause-ends
returns-in-OneOfMark-clause-ends c = λ fed m.
    let gains = subst (λ l. Gains c.new-in-OneOfMark.result l c.with.result) c.bad_byte.ensures c.with.ensures.value in
    let low = c.with.ensures.deeper in
    let flat = c.new-in-OneOfMark.ensures.flat in
    let ended = one_ends c.open_lexemes_settle.ensures.alone c.new-in-OneOfMark.result c.with.result c.new-in-OneOfMark.ensures.value (omega arith) gains in
    subst (λ f. IsEnded c.between-in-OneOfMark.result None c.args.self.state f) (sym (fed_one c.args.self fed m c.in-OneOfMark.is))
    (subst (λ s. IsEnded c.between-in-OneOfMark.result None s (239 ∷ [])) (sym c.in-OneOfMark.is) (subst (λ n. IsEnded n None OneOfMark (239 ∷ [])) (sym c.between-in-OneOfMark.ensures) ended))

pub returns-in_default : goal.returns-in_default
returns-in_default c =
    let flat = c.new-in_default.ensures.flat in
    let low = c.with-in_default.ensures.deeper in
    let next = c.with-in_default-2.ensures.deeper in
    let now = c.between-in_default.ensures in
    let depth = ap (λ n. n.game.depth) now in
    let at = ap (λ n. n.at) now in
    let place = ap (λ n. n.place) now in
    record {
      counts = (omega arith, omega arith, place ∙ sym at);
      ends = λ fed m.
          let two = fed_two c.args.self fed m c.in_default.not-AtStart c.in_default.not-OneOfMark in
          let gains = subst (λ l. Gains c.new-in_default.result l c.with-in_default.result) c.bad_byte-in_default.ensures c.with-in_default.ensures.value in
          let more = subst (λ l. Gains c.with-in_default.result l c.with-in_default-2.result) c.bad_byte-in_default-2.ensures c.with-in_default-2.ensures.value in
          let ended = two_end c.open_lexemes_settle.ensures.alone c.new-in_default.result c.with-in_default.result c.with-in_default-2.result c.new-in_default.ensures.value (omega arith) gains more in
          subst (λ f. IsEnded c.between-in_default.result None c.args.self.state f) (sym two.1)
          (subst (λ s. IsEnded c.between-in_default.result None s (239 ∷ 187 ∷ [])) (sym two.0) (subst (λ n. IsEnded n None TwoOfMark (239 ∷ 187 ∷ [])) (sym c.between-in_default.ensures) ended));
    }
