use Rattle.std.proofs.Common.{◌≡◌, ◌∙◌, sym, subst, ap, ap₂, [], ◌∷◌, ◌++◌, length, inl, inr, eqb-true}
use Rattle.pgn_cut.specs.Cut.{closed}
use Rattle.pgn_cut.specs.States.{takes}
use Rattle.pgn_cut.specs.Streams.{StandsWith}
use Rattle.pgn_cut.proofs.Closed.{one_closes_nothing, two_close_nothing, nothing_closes}
use Rattle.pgn_cut.proofs.Marks.{fed_none, fed_one, fed_two, mark_grows, mark_ends}
use Rattle.pgn_cut.proofs.cutter.Cutter.marked.Goals as goal

pub returns-in-AtStart : goal.returns-in-AtStart
returns-in-AtStart c = λ fed m takes_.
    let none = fed_none c.args.self fed m c.in-AtStart.is in
    let byte = eqb-true c.args.b 239 (sym (ap (λ s. takes s c.args.b) c.in-AtStart.is) ∙ takes_) in
    let more : fed ++ c.args.b ∷ [] ≡ 239 ∷ [] = ap₂ (λ f b. f ++ b ∷ []) none byte in
    let place = c.in_mark.ensures.place in
    mark_grows c.in_mark.result fed (fed ++ c.args.b ∷ []) (ap closed none ∙ nothing_closes) (ap closed more ∙ one_closes_nothing) (inl (place.0, more))
    c.in_mark.ensures.game c.in_mark.ensures.flat (place.2 ∙ sym (ap length more)) place.1

pub returns-in-OneOfMark : goal.returns-in-OneOfMark
returns-in-OneOfMark c = λ fed m takes_.
    let one = fed_one c.args.self fed m c.in-OneOfMark.is in
    let byte = eqb-true c.args.b 187 (sym (ap (λ s. takes s c.args.b) c.in-OneOfMark.is) ∙ takes_) in
    let more : fed ++ c.args.b ∷ [] ≡ 239 ∷ 187 ∷ [] = ap₂ (λ f b. f ++ b ∷ []) one byte in
    let place = c.in_mark-in-OneOfMark.ensures.place in
    mark_grows c.in_mark-in-OneOfMark.result fed (fed ++ c.args.b ∷ []) (ap closed one ∙ one_closes_nothing) (ap closed more ∙ two_close_nothing) (inr (place.0, more))
    c.in_mark-in-OneOfMark.ensures.game c.in_mark-in-OneOfMark.ensures.flat (place.2 ∙ sym (ap length more)) place.1

pub returns-in_default : goal.returns-in_default
returns-in_default c = λ fed m takes_.
    let two = fed_two c.args.self fed m c.in_default.not-AtStart c.in_default.not-OneOfMark in
    let byte = eqb-true c.args.b 191 (sym (ap (λ s. takes s c.args.b) two.0) ∙ takes_) in
    let more : fed ++ c.args.b ∷ [] ≡ 239 ∷ 187 ∷ 191 ∷ [] = ap₂ (λ f b. f ++ b ∷ []) two.1 byte in
    let whole = mark_ends c.open_lexemes_settle.ensures.closes c.new.result c.new.ensures.value c.new.ensures.flat in
    subst (λ g. StandsWith c.between.result (fed ++ c.args.b ∷ []) g) (sym (ap closed two.1 ∙ two_close_nothing))
    (subst (λ f. StandsWith c.between.result f []) (sym more) (subst (λ n. StandsWith n (239 ∷ 187 ∷ 191 ∷ []) []) (sym c.between.ensures) whole))
