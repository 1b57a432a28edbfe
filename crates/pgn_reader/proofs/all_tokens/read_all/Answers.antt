use Rattle.std.proofs.Common.{◌+◌, sym, ◌∙◌, subst}
use Rattle.pgn_reader.specs.Internal.ReaderView.{state_of}
use Rattle.pgn_reader.specs.Verdict.{HasTokenFault}
use Rattle.pgn_reader.proofs.Streamed.{read_none, low_so_far, read_on, read_refused, read_whole, read_to_fault}
use Rattle.pgn_reader.proofs.all_tokens.read_all.Goals as goal

pub loop-lexeme-init : goal.loop-lexeme-init
loop-lexeme-init c = read_none c.args.start c.args.first c.args.bytes.now (state_of c.args.reader.now) c.requires.new

pub read_lexeme-requires-clause-low : goal.read_lexeme-requires-clause-low
read_lexeme-requires-clause-low c = low_so_far c.args.start c.args.first c.args.bytes.now c.loop-lexeme.at (state_of c.loop-lexeme.reader) c.loop-lexeme.invariant

pub loop-lexeme-preserved : goal.loop-lexeme-preserved
loop-lexeme-preserved c =
    read_on c.args.start c.args.first c.args.bytes.now c.loop-lexeme.at c.loop-lexeme.reader c.in-Some.lexeme (state_of c.read_lexeme.new.reader) c.in-Ok.field-0
    (c.in-Some.ensures.next c.args.start) c.in-Some.ensures.text c.in-Some.ensures.within.2 c.loop-lexeme.invariant c.in-Ok.ensures

pub returns-in-Err-Fault : goal.returns-in-Err-Fault
returns-in-Err-Fault c =
    subst (λ reason. HasTokenFault c.args.start c.args.first c.args.bytes.now (record { byte = c.args.start + c.in-Some.lexeme.at; reason = reason })) (sym c.in-Err-Fault.reason-is)
    (read_refused c.args.start c.args.first c.args.bytes.now c.loop-lexeme.at c.loop-lexeme.reader c.in-Some.lexeme (state_of c.read_lexeme.new.reader) c.in-Err-Fault.field-0 c.in-Err-Fault.reason
    (c.in-Some.ensures.next c.args.start) c.in-Some.ensures.text c.requires.size c.loop-lexeme.invariant c.in-Err-Fault.field-0-is c.in-Err-Fault.ensures)

pub returns-in-Some-fault_at_end : goal.returns-in-Some-fault_at_end
returns-in-Some-fault_at_end c =
    read_to_fault c.args.start c.args.first c.args.bytes.now c.loop-lexeme.at c.loop-lexeme.reader c.loop-lexeme.invariant (c.in_default.ensures.none c.args.start)
    c.in-Some-fault_at_end.reason c.requires.size (sym c.fault_at_end.ensures ∙ c.in-Some-fault_at_end.is)

pub returns-in-None : goal.returns-in-None
returns-in-None c =
    read_whole c.args.start c.args.first c.args.bytes.now c.loop-lexeme.at c.loop-lexeme.reader c.loop-lexeme.invariant (c.in_default.ensures.none c.args.start)
    (sym c.fault_at_end.ensures ∙ c.in-None.is)
