-- Page by page, going round from the start.
use Rattle.std.proofs.Common.{◌≡◌, ℕ, ◌<◌, ◌≤◌, subst, arith}
use Rattle.bc_pins.specs.Key.{pages_of}
use Rattle.bc_pins.specs.Calls.{key_of, view_of}
use Rattle.bc_pins.proofs.VisitLemmas.{same_after}
use Rattle.bc_evict.specs.Looking.{all_pages, steps_behind}
use Rattle.bc_evict.proofs.LookLemmas.{tried-more, first-taken}
use Rattle.bc_evict.proofs.walking.take_first.Goals as goal

pub returns-in-Some-clause-some : goal.returns-in-Some-clause-some
returns-in-Some-clause-some c =
    let k = key_of c.args.pins.now in
    let count : c.pages-pages.result ≡ pages_of k = c.pages-pages.ensures.pages in
    let within = c.facts.ensures.within in
    let few : pages_of k ≤ all_pages k = omega arith in
    let found = c.in-Some.ensures.some in
    first-taken k c.args.kind c.args.hint c.start_at-start.result c.loop-steps.steps c.place_behind-page.result (view_of c.args.seat.now) (view_of c.loop-steps.seat) c.take_page.new.seat c.in-Some.held
    c.start_at-start.ensures.start few (subst (λ (n : ℕ). c.place_behind-page.result < n) count c.place_behind-page.ensures.within)
    (subst (λ (n : ℕ). steps_behind n c.start_at-start.result c.place_behind-page.result ≡ c.loop-steps.steps) count c.place_behind-page.ensures.steps)
    c.loop-steps.invariant.tried found.0 found.1

pub loop-steps-preserved : goal.loop-steps-preserved
loop-steps-preserved c =
    let k = key_of c.args.pins.now in
    let count : c.pages-pages.result ≡ pages_of k = c.pages-pages.ensures.pages in
    let more = c.loop-steps-test.true in
    let refused = c.in_default.ensures.none in
    record {
      same = same_after c.args.seat.now c.loop-steps.seat c.take_page.new.seat c.loop-steps.invariant.same c.take_page.ensures.same;
      free = refused.0;
      tried = tried-more k c.args.kind c.start_at-start.result c.loop-steps.steps c.place_behind-page.result (view_of c.args.seat.now) (view_of c.loop-steps.seat) (view_of c.take_page.new.seat)
          (c.start_at-start.ensures.within (omega arith)) (subst (λ (n : ℕ). c.place_behind-page.result < n) count c.place_behind-page.ensures.within)
          (subst (λ (n : ℕ). steps_behind n c.start_at-start.result c.place_behind-page.result ≡ c.loop-steps.steps) count c.place_behind-page.ensures.steps)
          c.loop-steps.invariant.tried refused.1;
    }
