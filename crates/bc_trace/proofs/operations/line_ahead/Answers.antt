use Rattle.std.proofs.Common.{sym, ◌∙◌}
use Rattle.bc_trace.proofs.LinesAhead.{phase_is_ahead, end_is_ahead, lane_is_ahead, give_is_ahead}
use Rattle.bc_trace.proofs.operations.line_ahead.Goals as goal

pub returns-in_ok-byte_ahead-in-Phase-clause-ahead : goal.returns-in_ok-byte_ahead-in-Phase-clause-ahead
returns-in_ok-byte_ahead-in-Phase-clause-ahead c =
    let stands = rw c.in-Phase.is at (sym c.may_stand.ensures ∙ c.if-not-may_stand.false) in
    let begins = rw c.in-Phase.is at c.in_ok-word.ensures in
    phase_is_ahead c.args.progress.now c.args.text.now c.in_ok-byte_ahead-in-Phase.field-0.now c.in_ok-word.rest.now stands begins c.in_ok-byte_ahead-in-Phase.ensures

pub returns-in_ok-byte_ahead-in-Lane-clause-ahead : goal.returns-in_ok-byte_ahead-in-Lane-clause-ahead
returns-in_ok-byte_ahead-in-Lane-clause-ahead c =
    let stands = rw c.in-Lane.is at (sym c.may_stand.ensures ∙ c.if-not-may_stand.false) in
    let begins = rw c.in-Lane.is at c.in_ok-word.ensures in
    let lane = c.in_ok-lane-in-Lane in
    lane_is_ahead c.args.progress.now c.args.text.now c.in_ok-byte_ahead-in-Lane.field-0.now lane.lane c.in_ok-word.rest.now lane.rest.now stands lane.ensures.number c.if-lane-progress.false begins lane.ensures.text c.in_ok-byte_ahead-in-Lane.ensures

pub returns-in_ok-byte_ahead-in-Give-clause-ahead : goal.returns-in_ok-byte_ahead-in-Give-clause-ahead
returns-in_ok-byte_ahead-in-Give-clause-ahead c =
    let stands = rw c.in-Give.is at (sym c.may_stand.ensures ∙ c.if-not-may_stand.false) in
    let begins = rw c.in-Give.is at c.in_ok-word.ensures in
    let domain = c.in_ok-domain-in-Give in
    let lane = c.in_ok-lane-in-Give in
    give_is_ahead c.args.progress.now c.args.text.now c.in_ok-byte_ahead-in-Give.field-0.now (record { domain = domain.domain; lane = lane.lane }) c.in_ok-word.rest.now domain.rest.now lane.rest.now stands (domain.ensures.below, lane.ensures.below) domain.ensures.number lane.ensures.number begins domain.ensures.text lane.ensures.text c.in_ok-byte_ahead-in-Give.ensures

pub returns-in_ok-byte_ahead-in-End-clause-ahead : goal.returns-in_ok-byte_ahead-in-End-clause-ahead
returns-in_ok-byte_ahead-in-End-clause-ahead c =
    let stands = rw c.in-End.is at (sym c.may_stand.ensures ∙ c.if-not-may_stand.false) in
    let begins = rw c.in-End.is at c.in_ok-word.ensures in
    end_is_ahead c.args.progress.now c.args.text.now c.in_ok-byte_ahead-in-End.field-0.now c.in_ok-word.rest.now stands begins c.in_ok-byte_ahead-in-End.ensures
