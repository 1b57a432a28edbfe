use Rattle.std.proofs.Common.{◌≡◌, Some, option_map, refl, sym, ap, ◌∙◌, subst}
use Rattle.std.specs.Prelude.{IfSome}
use Rattle.cql_candidates.proofs.CoverLaw.{empty_cut}
use Rattle.cql_candidates.proofs.covers.move_one.Goals as goal

pub returns-in-Some : goal.returns-in-Some
returns-in-Some c = record {
  within = λ s h. c.cut_to-first.ensures.within s (c.cut_to-second.ensures.within s (c.cut_to.ensures.within s h));
  keeps = λ s asked moved h.
      let same = subst (λ l. IfSome l (λ led. c.in-Some.led ≡ led))
      (sym c.in-Some.is ∙ c.led_to.ensures ∙ ap (option_map _) moved.is) refl in
      c.cut_to.ensures.keeps s (λ wanted. ap (λ led. led.taken) same ∙ moved.at_taken wanted)
      (c.cut_to-second.ensures.keeps s (λ wanted. ap (λ led. Some led.goal) same ∙ ap Some (moved.at_goal wanted))
      (c.cut_to-first.ensures.keeps s (λ wanted. ap (λ led. Some led.origin) same ∙ ap Some (moved.at_origin wanted)) h));
}

pub returns-in-None : goal.returns-in-None
returns-in-None c = empty_cut c.args.asked _ c.args.set
    (λ s asked moved. let none = sym c.in-None.is ∙ c.led_to.ensures ∙ ap (option_map _) moved.is in cc)
