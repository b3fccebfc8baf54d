use Rattle.std.proofs.Common.{◌≡◌, ap, refl, sym, subst, ◌∙◌, arith}
use Rattle.bc_pins.specs.declared.views.View.{View}
use Rattle.bc_pins.specs.Key.{Key, counter_at}
use Rattle.bc_pins.specs.Tidy.{IsTidy}
use Rattle.bc_pins.specs.Steps.{Mine}
use Rattle.bc_pins.proofs.UncountSteps.{uncounts_from}
use Rattle.bc_pins.proofs.pins.Pins.counter_sub.Goals as goal

pub fetch_sub-requires : goal.fetch_sub-requires
fetch_sub-requires c =
    let self = c.args.self.now in
    let size = self.words in
    let many = self.counted in
    let entry = c.counter_entry-at.ensures in
    let lt = c.requires.superpage in
    let t = c.requires.counted in
    (c.requires.seat.table, omega arith, uncounts_from _ _ _ _ _ t.0 c.args.superpage _ (omega arith) lt c.requires.seat.about t.1 c.requires.seat.role t.2)

pub returns-clause-view : goal.returns-clause-view
returns-clause-view c = λ h has.
    let self = c.args.self.now in
    let many = self.counted in
    let entry = c.counter_entry-at.ensures in
    ap (λ (m : Mine). m.0) (c.fetch_sub.ensures.2.view h c.args.superpage has (let e : c.counter_entry-at.result ≡ counter_at self.table.shared.key c.args.superpage = omega arith in e ∙ ap (λ (k : Key). counter_at k c.args.superpage) (sym c.requires.seat.about)))

pub returns-clause-same : goal.returns-clause-same
returns-clause-same c =
    let self = c.args.self.now in
    let many = self.counted in
    let entry = c.counter_entry-at.ensures in
    let t = c.requires.counted in
    let me = c.fetch_sub.ensures.2.view t.0 c.args.superpage t.1 (let e : c.counter_entry-at.result ≡ counter_at self.table.shared.key c.args.superpage = omega arith in e ∙ ap (λ (k : Key). counter_at k c.args.superpage) (sym c.requires.seat.about)) in
    let view = ap (λ (m : Mine). m.0) me in
    record {
      table = c.fetch_sub.ensures.0;
      id = c.fetch_sub.ensures.1;
      role = refl;
      opens = refl;
      about = ap (λ (u : View). u.about) view;
      alive = ap (λ (u : View). u.alive) view;
      roles = ap (λ (u : View). u.roles) view;
      fetched = ap (λ (u : View). u.fetched) view;
    }

pub returns-clause-slots : goal.returns-clause-slots
returns-clause-slots c =
    let self = c.args.self.now in
    let many = self.counted in
    let entry = c.counter_entry-at.ensures in
    let t = c.requires.counted in
    ap (λ (m : Mine). m.1) (c.fetch_sub.ensures.2.view t.0 c.args.superpage t.1 (let e : c.counter_entry-at.result ≡ counter_at self.table.shared.key c.args.superpage = omega arith in e ∙ ap (λ (k : Key). counter_at k c.args.superpage) (sym c.requires.seat.about)))

pub invariant_of-seat : goal.invariant_of-seat
invariant_of-seat c =
    let self = c.args.self.now in
    let many = self.counted in
    let entry = c.counter_entry-at.ensures in
    let t = c.requires.counted in
    record { tidy = subst IsTidy (sym (ap (λ (m : Mine). m.0) (c.fetch_sub.ensures.2.view t.0 c.args.superpage t.1 (let e : c.counter_entry-at.result ≡ counter_at self.table.shared.key c.args.superpage = omega arith in e ∙ ap (λ (k : Key). counter_at k c.args.superpage) (sym c.requires.seat.about))))) c.args.seat.now.tidy }
