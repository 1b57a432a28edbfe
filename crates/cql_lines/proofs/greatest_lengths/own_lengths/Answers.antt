use Rattle.std.proofs.Common.{◌∙◌, length, arith, refl}
use Rattle.std.proofs.lemmas.Option.{slice_get_within, slice_get-get_or}
use Rattle.std.proofs.lemmas.List.{length-set}
use Rattle.cql_lines.specs.Internal.Lengths.{place_value, at}
use Rattle.cql_lines.proofs.Bits.{place_used}
use Rattle.cql_lines.proofs.RowsLaw.{zeros, here_more, past_more}
use Rattle.cql_lines.proofs.greatest_lengths.own_lengths.Goals as goal

pub loop-i-init : goal.loop-i-init
loop-i-init c = record {
  here = λ i r low e. absurd (omega (arith, low));
  past = λ i low. zeros 64 i;
  size = refl;
}

pub length_at-requires-clause-atom : goal.length_at-requires-clause-atom
length_at-requires-clause-atom c = c.requires.atoms c.loop-i.i _ (slice_get-get_or c.args.rules.now c.loop-i.i _ c.loop-i-test.true)

pub loop-i-preserved : goal.loop-i-preserved
loop-i-preserved c = record {
  here = here_more c.args.rules.now c.loop-i.own c.loop-i.i c.length_at.result
      (λ r. place_value r c.args.held (at c.args.below.now) (length c.args.rules.now)) _ c.loop-i.invariant.size
      (omega (arith, c.loop-i-test.true, c.requires.count))
      (c.length_at.ensures ∙ place_used _ c.args.held (at c.args.below.now) c.used_len-used.result
      (length c.args.rules.now) c.used_len-used.ensures.within c.used_len-used.ensures.past) c.loop-i.invariant.here;
  past = past_more c.loop-i.own c.loop-i.i c.length_at.result c.loop-i.invariant.past;
  size = length-set c.loop-i.own c.loop-i.i c.length_at.result ∙ c.loop-i.invariant.size;
}

pub returns-clause-here : goal.returns-clause-here
returns-clause-here c = λ i r e. c.loop-i.invariant.here i r (let w = slice_get_within c.args.rules.now i r e in let f = c.loop-i-test.false in omega arith) e
