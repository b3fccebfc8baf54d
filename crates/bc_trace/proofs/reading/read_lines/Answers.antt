use Rattle.std.proofs.Common.{ap, sym, subst, ◌∙◌, arith}
use Rattle.bc_trace.specs.Drafts.{DraftLists, shown}
use Rattle.bc_trace.specs.Reading.{lines_of, reading, read_of}
use Rattle.bc_trace.specs.Said.{said}
use Rattle.bc_trace.specs.Answers.{Gives}
use Rattle.bc_trace.proofs.Runs.{read_of-is, went_on, small_on, stopped, at_end, small_start}
use Rattle.bc_trace.proofs.reading.read_lines.Goals as goal

pub loop-line-init : goal.loop-line-init
loop-line-init c = record {
  so_far = ap (λ (d : DraftLists). reading d 0 (lines_of c.args.bytes.now)) c.new-draft.ensures ∙ sym (read_of-is c.args.bytes.now);
  count = omega arith;
  small = small_start (shown c.new-draft.result) c.new-draft.ensures;
}

pub returns-in-Err : goal.returns-in-Err
returns-in-Err c = stopped (shown c.loop-line.draft) c.loop-line.lines c.in-Some.line.now c.loop-line.rest.now c.in-Some.after.now c.in-Err.cause (read_of c.args.bytes.now) c.in-Some.ensures.parts c.in-Err.ensures.reads c.loop-line.invariant.so_far

pub read_ahead-requires-clause-small : goal.read_ahead-requires-clause-small
read_ahead-requires-clause-small c = small_on (shown c.loop-line.draft) (shown c.put.new.self) c.loop-line.lines c.in-Some.line.now (said c.in-Ok.says c.line_at.new.operands) c.in-Ok.ensures.reads c.in_ok-put-in-Ok.ensures c.loop-line.invariant.small

pub loop-line-smaller : goal.loop-line-smaller
loop-line-smaller c = omega (arith, c.in-Some.ensures.shorter, c.in_ok-lines.ensures.count, c.in_ok-lines.ensures.more)

pub loop-line-preserved : goal.loop-line-preserved
loop-line-preserved c =
    let says = said c.in-Ok.says c.line_at.new.operands in
    record {
      so_far = c.in_ok-lines.ensures.reads ∙ went_on (shown c.loop-line.draft) (shown c.put.new.self) c.loop-line.lines c.in-Some.line.now c.loop-line.rest.now c.in-Some.after.now says (read_of c.args.bytes.now) c.in-Some.ensures.parts c.in-Ok.ensures.reads c.in_ok-put-in-Ok.ensures c.loop-line.invariant.so_far;
      count = omega (arith, c.in-Some.ensures.shorter, c.in_ok-lines.ensures.count);
      small = c.in_ok-lines.ensures.small;
    }

pub returns : goal.returns
returns c = subst (λ total. Gives c.end.result total) (at_end (shown c.loop-line.draft) c.loop-line.lines c.loop-line.rest.now (read_of c.args.bytes.now) c.in_default.ensures.parts c.loop-line.invariant.so_far) c.end.ensures
