use Rattle.std.proofs.Common.{ℕ, List, [], All, subst, arith}
use Rattle.std.proofs.lemmas.List.{take_all}
use Rattle.std.proofs.lemmas.List.Elements.{All-more}
use Rattle.pgn_json.specs.GameConditions.{AreBytes}
use Rattle.pgn_json.proofs.laws.tags_are_bytes.Goals as goal

abbrev IsBytesTag : List ℕ × List ℕ → Type 0
IsBytesTag t = AreBytes t.0 × AreBytes t.1

pub loop-i-preserved : goal.loop-i-preserved
loop-i-preserved c =
    All-more IsBytesTag c.args.tags.now c.loop-i.i ([], []) (omega (arith, c.loop-i-test.true, c.len-i-end.ensures.len)) c.loop-i.invariant (
      subst AreBytes c.name.ensures c.is_bytes.ensures.bytes,
      subst AreBytes c.value.ensures c.is_bytes-in-loop-i.ensures.bytes,
    )

pub returns-clause-bytes : goal.returns-clause-bytes
returns-clause-bytes c =
    subst (All IsBytesTag)
    (take_all c.loop-i.i c.args.tags.now (omega (arith, c.loop-i-test.false, c.loop-i.auto.i-end, c.len-i-end.ensures.len))) c.loop-i.invariant
