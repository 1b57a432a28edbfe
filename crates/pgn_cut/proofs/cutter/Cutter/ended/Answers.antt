use Rattle.std.proofs.Common.{◌≡◌, ◌-◌, ◌∙◌, sym, subst, ap, ⊎_elim, arith, length, true≢false}
use Rattle.pgn_cut.specs.States.{is_in_mark, kind_at_end, is_marker_at_end, EndsBefore, IsOneLexeme}
use Rattle.pgn_cut.proofs.Marks.{in_mark, fed_two}
use Rattle.pgn_cut.proofs.Streams.{ends_here, ends_between}
use Rattle.pgn_cut.proofs.cutter.Cutter.ended.Goals as goal

pub returns-in-Between-clause-ends : goal.returns-in-Between-clause-ends
returns-in-Between-clause-ends c = λ fed stands.
    ⊎_elim (λ mark. absurd (true≢false (sym (in_mark c.args.self fed mark) ∙ ap is_in_mark c.in-Between.is))) (λ t. ends_between c.args.self fed t c.in-Between.is) stands

pub returns-in_default : goal.returns-in_default
returns-in_default c =
    let deeper = c.after_lexeme.ensures.deeper in
    let between = c.after_lexeme.ensures.rest in
    let at = between.at in
    let place = between.place_ in
    let low = c.requires.depth in
    let small = c.requires.place in
    record {
      counts = (omega arith, omega arith, omega arith);
      ends = λ fed stands.
          ⊎_elim
          (λ mark. absurd (c.in_default.not-TwoOfMark (fed_two c.args.self fed mark c.in_default.not-AtStart c.in_default.not-OneOfMark).0))
          (λ t.
          let here = t.here in
          let total = t.place in
          let len : c.args.self.place - c.args.self.at ≡ length t.bytes = omega arith in
          let marker : is_marker_at_end c.args.self.state (length t.bytes) ≡ c.is_marker_at_end-marker.result = sym (c.is_marker_at_end-marker.ensures ∙ ap (is_marker_at_end c.args.self.state) len) in
          let one = (c.open_lexemes_settle.ensures.ends c.args.self.first c.args.self.state t.bytes t.opened c.in_default.not-Between).0 in
          ends_here c.args.self fed t c.kind_at_end-kind.result c.is_marker_at_end-marker.result
          (subst (λ k. IsOneLexeme c.args.self.first t.bytes k c.is_marker_at_end-marker.result (EndsBefore c.args.self.state)) (sym c.kind_at_end-kind.ensures)
          (subst (λ m. IsOneLexeme c.args.self.first t.bytes (kind_at_end c.args.self.state) m (EndsBefore c.args.self.state)) marker one))
          _ _ c.after_lexeme.ensures.rest c.after_lexeme.ensures.deeper c.after_lexeme.ensures.cuts)
          stands;
    }
