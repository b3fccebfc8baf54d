-- Page by page, going round from the start.
use Rattle.std.proofs.Common.{◌≡◌, ℕ, ◌<◌, subst, arith}
use Rattle.bc_pins.specs.Key.{pages_of}
use Rattle.bc_pins.specs.Calls.{key_of, view_of}
use Rattle.bc_pins.proofs.VisitLemmas.{same_after}
use Rattle.bc_evict.specs.Looking.{steps_behind}
use Rattle.bc_evict.proofs.VictimLemmas.{passed-more}
use Rattle.bc_evict.proofs.walking.take_any.Goals as goal

pub loop-steps-preserved : goal.loop-steps-preserved
loop-steps-preserved c =
    let k = key_of c.args.pins.now in
    let count : c.pages-count.result ≡ pages_of k = c.pages-count.ensures.pages in
    let more = c.loop-steps-test.true in
    let refused = c.in-Err.ensures.err in
    record {
      same = same_after c.args.seat.now c.loop-steps.seat c.take.new.seat c.loop-steps.invariant.same c.take.ensures.same;
      free = refused.0;
      passed = passed-more k c.start_at-start.result c.loop-steps.steps c.place_behind-page.result (view_of c.args.seat.now) (view_of c.loop-steps.seat) (view_of c.take.new.seat) c.in-Err._why
          (c.start_at-start.ensures.within (omega arith)) (subst (λ (n : ℕ). c.place_behind-page.result < n) count c.place_behind-page.ensures.within)
          (subst (λ (n : ℕ). steps_behind n c.start_at-start.result c.place_behind-page.result ≡ c.loop-steps.steps) count c.place_behind-page.ensures.steps)
          c.loop-steps.invariant.passed refused.1;
    }
