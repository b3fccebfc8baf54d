use Rattle.std.proofs.Common.{◌^◌, ◌+◌, ◌<◌, List, length, map, get_or, ap, sym, subst, refl, ◌∙◌, arith}
use Rattle.std.proofs.lemmas.List.{take_all}
use Rattle.bc_model.specs.declared.operations.Reply.{Reply}
use Rattle.bc_churn.specs.Counts.{phase_replies}
use Rattle.bc_churn.proofs.Counting.{at-most-sum, Counted, lanes-counted, room-for-lane, counts-phase, counts-length}
use Rattle.bc_churn.proofs.counts.Counts.add.Goals as goal

pub loop-lane-init : goal.loop-lane-init
loop-lane-init c = ((λ k. omega arith), refl)

pub add_lane-requires : goal.add_lane-requires
add_lane-requires c = λ k.
    let lists = ap (map (λ v. v.items)) c.deref-lane-items.ensures.value ∙ c.replies.view_is in
    let all = ap length (ap phase_replies (sym lists)) in
    let least = at-most-sum c.args.self.now k in
    let room : get_or c.args.self.now k 0 + length (phase_replies (map (λ v. v.items) c.deref-lane-items.result.now)) < 2 ^ 64 = omega (arith, all, least, c.requires) in
    let fits = room-for-lane (λ v. v.items) c.args.self.now c.loop-lane.self c.deref-lane-items.result.now c.loop-lane.lane-index c.lane-item.result k (2 ^ 64) c.loop-lane-test.true c.loop-lane.invariant.0 room in
    subst (λ (rs : List Reply). get_or c.loop-lane.self k 0 + length rs < 2 ^ 64) (sym (c.deref.ensures.value ∙ ap (λ v. v.items) c.lane-item.is)) fits

pub loop-lane-preserved : goal.loop-lane-preserved
loop-lane-preserved c =
    let more = subst (λ (rs : List Reply). Counted c.loop-lane.self c.add_lane.new.self rs) (c.deref.ensures.value ∙ ap (λ v. v.items) c.lane-item.is) c.add_lane.ensures.each in (
      lanes-counted (λ v. v.items) c.args.self.now c.loop-lane.self c.add_lane.new.self c.deref-lane-items.result.now c.loop-lane.lane-index c.lane-item.result c.loop-lane-test.true c.loop-lane.invariant.0 more,
      c.add_lane.ensures.kinds ∙ c.loop-lane.invariant.1,
    )

all : (c : goal.After-loop-lane) → Counted c.args.self.now c.loop-lane.self (phase_replies c.args.replies.now)
all c =
    let whole = take_all c.loop-lane.lane-index c.deref-lane-items.result.now c.loop-lane-test.false ∙ c.deref-lane-items.ensures.value in
    subst (λ (rs : List (List Reply)). Counted c.args.self.now c.loop-lane.self (phase_replies rs)) (ap (map (λ v. v.items)) whole ∙ c.replies.view_is) c.loop-lane.invariant.0

pub returns-clause-each : goal.returns-clause-each
returns-clause-each c = all c

pub returns-clause-phase : goal.returns-clause-phase
returns-clause-phase c = λ before e.
    counts-phase before c.args.replies.now c.args.self.now c.loop-lane.self (c.loop-lane.invariant.1 ∙ ap length e ∙ counts-length _) (all c) e
