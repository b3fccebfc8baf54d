use Rattle.std.proofs.Common.{◌+◌, [], ◌∙◌, arith}
use Rattle.bc_trace.specs.Drafts.{shown}
use Rattle.bc_trace.specs.Said.{said}
use Rattle.bc_trace.proofs.LinesAhead.{went_ahead, IsSmall-ahead, IsSmall-more}
use Rattle.bc_trace.proofs.reading.read_ahead.Goals as goal

pub loop-line-preserved-in-Turns : goal.loop-line-preserved-in-Turns
loop-line-preserved-in-Turns c =
    let says = said c.in-Some.line [] in
    let small = IsSmall-ahead (shown c.loop-line.draft) (shown c.put.new.self) c.loop-line.count c.loop-line.rest.now c.in-Some.after.now says c.in-Some.ensures.ahead c.in_ok-put.ensures c.loop-line.invariant.small in
    let more = c.in_ok-count-in-Turns in
    record {
      small = rw more.ensures.progress (IsSmall-more c.put.new.self.progress (c.loop-line.count + 1) more.field-0-0 more.ensures.more small);
      count = omega (arith, c.in-Some.ensures.shorter, more.ensures.count);
      more = omega (arith, more.ensures.more);
      reads = more.ensures.reads ∙ went_ahead (shown c.loop-line.draft) (shown c.put.new.self) c.loop-line.count c.loop-line.rest.now c.in-Some.after.now says c.in-Some.ensures.ahead c.in_ok-put.ensures ∙ c.loop-line.invariant.reads;
    }

pub loop-line-preserved-in-Ops : goal.loop-line-preserved-in-Ops
loop-line-preserved-in-Ops c =
    let says = said c.in-Some.line [] in
    let small = IsSmall-ahead (shown c.loop-line.draft) (shown c.put.new.self) c.loop-line.count c.loop-line.rest.now c.in-Some.after.now says c.in-Some.ensures.ahead c.in_ok-put.ensures c.loop-line.invariant.small in
    let more = c.in_ok-count-in-Ops in
    record {
      small = rw more.ensures.progress (IsSmall-more c.put.new.self.progress (c.loop-line.count + 1) more.field-0-0 more.ensures.more small);
      count = omega (arith, c.in-Some.ensures.shorter, more.ensures.count);
      more = omega (arith, more.ensures.more);
      reads = more.ensures.reads ∙ went_ahead (shown c.loop-line.draft) (shown c.put.new.self) c.loop-line.count c.loop-line.rest.now c.in-Some.after.now says c.in-Some.ensures.ahead c.in_ok-put.ensures ∙ c.loop-line.invariant.reads;
    }

pub loop-line-preserved : goal.loop-line-preserved
loop-line-preserved c =
    let says = said c.in-Some.line [] in
    record {
      small = IsSmall-ahead (shown c.loop-line.draft) (shown c.put.new.self) c.loop-line.count c.loop-line.rest.now c.in-Some.after.now says c.in-Some.ensures.ahead c.in_ok-put.ensures c.loop-line.invariant.small;
      count = omega (arith, c.in-Some.ensures.shorter);
      more = omega arith;
      reads = went_ahead (shown c.loop-line.draft) (shown c.put.new.self) c.loop-line.count c.loop-line.rest.now c.in-Some.after.now says c.in-Some.ensures.ahead c.in_ok-put.ensures ∙ c.loop-line.invariant.reads;
    }
