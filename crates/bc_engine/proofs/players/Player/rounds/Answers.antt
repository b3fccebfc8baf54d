use Rattle.std.proofs.Common.{◌≡◌, ℕ, ◌+◌, ◌*◌, Bool, List, length, refl, sym, ap, subst, ◌∙◌, arith}
use Rattle.std.proofs.lemmas.Result.{err_from_is_err_and}
use Rattle.std.specs.List.{AllByRecursion}
use Rattle.bc_marking.specs.Lines.{hints_at}
use Rattle.bc_model.specs.Rows.{lists_of}
use Rattle.bc_model.specs.TurnLines.{hints_in}
use Rattle.bc_model.specs.WellFormed.{FitsFrames}
use Rattle.bc_model.specs.declared.traces.Setup.{Setup}
use Rattle.bc_pager.specs.Serving.{told_with}
use Rattle.bc_pager.specs.declared.answers.Answer.{Answer}
use Rattle.bc_pager.specs.declared.notices.Notice.{Notice}
use Rattle.bc_engine.specs.EngineFacts.{CanRunLanes, with_turns}
use Rattle.bc_engine.specs.Inside.{out_of_heap, played}
use Rattle.bc_engine.specs.Lanes.{IsUnderway}
use Rattle.bc_engine.specs.Rounds.{CutRound, IsTooSmall, RanToCut, RanToWant, WantsRoom, longest_of}
use Rattle.bc_engine.specs.declared.opened.Opened.{Opened}
use Rattle.bc_engine.specs.declared.opened.TurnLog.{TurnLog}
use Rattle.bc_engine.specs.declared.players.Player.{Player}
use Rattle.bc_engine.proofs.RoundLemmas.{room-both, small-then, small-weaker}
use Rattle.bc_engine.proofs.RunLemmas.{runs-same, runs-then}
use Rattle.bc_engine.proofs.TurnLemmas.{turns-all, turns-begun, turns-cut, turns-more, turns-want}
use Rattle.bc_engine.proofs.players.Player.rounds.Goals as goal

pub rounds-init : goal.rounds-init
rounds-init g c = record {
  same = (refl, refl, refl);
  counted = λ sum. sum;
  births = λ j. omega arith;
  runs = runs-same (lists_of c.args.lanes.now) c.args.self.now.running c.args.self.now.running c.args.replies.now refl;
  underway = c.requires.underway;
  unrecorded = c.requires.unrecorded;
  budgets = c.requires.budgets;
  kept = c.requires.kept;
  room = c.requires.room;
  turns = turns-begun (lists_of c.args.lanes.now) c.args.lines.now (played c.args.self.now c.args.log.now) c.args.replies.now (g.N.Notices.taken c.args.live.now);
  feed = (refl, refl, refl);
  unasked = λ no. (refl, refl);
}

pub rounds-preserved : goal.rounds-preserved
rounds-preserved g c =
    let before = c.rounds.invariant in
    let round = c.round.ensures in
    record {
      same = (round.same.0 ∙ before.same.0, round.same.1 ∙ before.same.1, round.same.2 ∙ before.same.2);
      counted = λ sum. round.counted (before.counted sum);
      births = λ j. omega (arith, round.births j, before.births j);
      runs = runs-then before.runs c.in_ok-round.ensures.runs;
      underway = subst (λ (s : Setup). IsUnderway s (lists_of c.args.lanes.now) c.round.new.self.running c.round.new.replies) (sym round.same.1) (c.in_ok-round.ensures.runs.underway c.rounds.self.setup before.underway);
      unrecorded = c.in_ok-round.ensures.unrecorded;
      budgets = subst (λ (s : Setup). AllByRecursion (FitsFrames s) c.args.lines.now) (sym round.same.1) before.budgets;
      kept = c.in_ok-round.ensures.kept;
      room = c.in_ok-round.ensures.room c.if-branch.false;
      turns = turns-more (played c.round.new.self c.round.new.log) c.round.new.replies c.round.new.next (g.N.Notices.taken c.round.new.live) before.turns (c.in_ok-round.ensures.turn c.if-branch.false);
      feed = (round.feed.0 ∙ before.feed.0, round.feed.1 ∙ before.feed.1, round.feed.2 ∙ before.feed.2);
      unasked = λ no.
          let was = before.unasked no in
          let is = round.idle (ap (λ x. g.N.Notices.coming x) was.0 ∙ no) in
          (is.0 ∙ was.0, is.1 ∙ was.1);
    }

-- the feed is one whose notices nobody shares, and its hints and bounds stay
pub round-requires-clause-unshared : goal.round-requires-clause-unshared
round-requires-clause-unshared g c κs within = c.rounds.invariant.feed.0 ∙ c.requires.unshared

pub returns-then-branch-clause-feed : goal.returns-then-branch-clause-feed
returns-then-branch-clause-feed g c =
    let before = c.rounds.invariant.feed in
    let round = c.round.ensures.feed in
    (round.0 ∙ before.0, round.1 ∙ before.1, round.2 ∙ before.2)

pub returns-in_err-round-clause-feed : goal.returns-in_err-round-clause-feed
returns-in_err-round-clause-feed g c =
    let before = c.rounds.invariant.feed in
    let round = c.round.ensures.feed in
    (round.0 ∙ before.0, round.1 ∙ before.1, round.2 ∙ before.2)

-- one from which none may come isn't asked
pub returns-then-branch-clause-unasked : goal.returns-then-branch-clause-unasked
returns-then-branch-clause-unasked g c = λ no.
    let was = c.rounds.invariant.unasked no in
    let is = c.round.ensures.idle (ap (λ x. g.N.Notices.coming x) was.0 ∙ no) in
    (is.0 ∙ was.0, is.1 ∙ was.1)

pub returns-in_err-round-clause-unasked : goal.returns-in_err-round-clause-unasked
returns-in_err-round-clause-unasked g c = λ no.
    let was = c.rounds.invariant.unasked no in
    let is = c.round.ensures.idle (ap (λ x. g.N.Notices.coming x) was.0 ∙ no) in
    (is.0 ∙ was.0, is.1 ∙ was.1)

pub round-requires-clause-longest : goal.round-requires-clause-longest
round-requires-clause-longest g c κs within = c.longest_line-longest.ensures

pub returns-then-branch-clause-counted : goal.returns-then-branch-clause-counted
returns-then-branch-clause-counted g c = λ sum. c.round.ensures.counted (c.rounds.invariant.counted sum)

pub returns-then-branch-clause-births : goal.returns-then-branch-clause-births
returns-then-branch-clause-births g c = λ j. omega (arith, c.round.ensures.births j, c.rounds.invariant.births j)

pub returns-then-branch-clause-runs : goal.returns-then-branch-clause-runs
returns-then-branch-clause-runs g c = runs-then c.rounds.invariant.runs c.in_ok-round.ensures.runs

pub returns-then-branch-clause-idle : goal.returns-then-branch-clause-idle
returns-then-branch-clause-idle g c = (c.in_ok-round.ensures.unrecorded, c.in_ok-round.ensures.returned c.if-branch.true)

pub returns-in_err-round-clause-births : goal.returns-in_err-round-clause-births
returns-in_err-round-clause-births g c = λ j. omega (arith, c.round.ensures.births j, c.rounds.invariant.births j)

pub returns-in_err-round-clause-counted : goal.returns-in_err-round-clause-counted
returns-in_err-round-clause-counted g c = λ sum. c.round.ensures.counted (c.rounds.invariant.counted sum)

pub returns-then-branch-clause-turns : goal.returns-then-branch-clause-turns
returns-then-branch-clause-turns g c =
    turns-all (played c.round.new.self c.round.new.log) c.round.new.replies (g.N.Notices.taken c.round.new.live) c.rounds.invariant.turns (c.in_ok-round.ensures.last_turn c.if-branch.true)

pub returns-in_err-round-clause-ready : goal.returns-in_err-round-clause-ready
returns-in_err-round-clause-ready g c =
    let p = err_from_is_err_and c.from_residual.result c.from_residual.ensures.1 in
    let q = c.round.new.self in
    rw p.1
    (rw p.2
    (small-weaker Bool (Unit {0}) _ (λ need. CanRunLanes q.setup q.running) (λ need. CanRunLanes q.setup q.running) (λ need ready. ready) c.in_err-round.ensures.ready))

pub returns-in_err-round-clause-cut : goal.returns-in_err-round-clause-cut
returns-in_err-round-clause-cut g c =
    let p = err_from_is_err_and c.from_residual.result c.from_residual.ensures.1 in
    let lanes = lists_of c.args.lanes.now in
    let e = played c.args.self.now c.args.log.now in
    let m = played c.rounds.self c.rounds.log in
    let f = played c.round.new.self c.round.new.log in
    rw p.1
    (rw p.2
    (small-weaker Bool (Unit {0}) _ (λ need. IsTooSmall lanes m c.rounds.replies (out_of_heap need f) c.round.new.replies need) (λ need. IsTooSmall lanes e c.args.replies.now (out_of_heap need f) c.round.new.replies need)
    (λ need small. small-then {e = e} {f = m} (out_of_heap need f) c.round.new.replies need c.rounds.invariant.runs small) c.in_err-round.ensures.cut))

pub returns-in_err-round-clause-cut_turns : goal.returns-in_err-round-clause-cut_turns
returns-in_err-round-clause-cut_turns g c =
    let p = err_from_is_err_and c.from_residual.result c.from_residual.ensures.1 in
    let lanes = lists_of c.args.lanes.now in
    let lines = c.args.lines.now in
    let f = played c.round.new.self c.round.new.log in
    let now = g.N.Notices.taken c.round.new.live in
    rw p.1
    (rw p.2
    (small-weaker Bool (Unit {0}) _ (λ need. (fed : List Notice) × (now ≡ told_with (g.N.Notices.taken c.rounds.live) fed) × CutRound lanes lines (played c.rounds.self c.rounds.log) c.rounds.replies c.rounds.next (out_of_heap need f) c.round.new.replies fed)
    (λ need. (fed : List Notice) × (now ≡ told_with (g.N.Notices.taken c.args.live.now) fed) × (turns : ℕ) × RanToCut lanes lines (played c.args.self.now c.args.log.now) c.args.replies.now turns (out_of_heap need f) c.round.new.replies fed)
    (λ need cut. turns-cut (out_of_heap need f) c.round.new.replies now c.rounds.invariant.turns cut) c.in_err-round.ensures.cut_turn))

-- a player with lists that have the same items is played on as the same engine
played-same : {p q : Player} (a b : TurnLog) → p ≡ q → a.answers.items ≡ b.answers.items → a.opened.items ≡ b.opened.items → a.live.items ≡ b.live.items → played p a ≡ played q b
played-same {p} {q} a b same answers opened live =
    ap (λ (x : Player). played x a) same
    ∙ (ap (λ (x : List Answer). with_turns (played q a) x a.opened.items a.live.items) answers
    ∙ (ap (λ (x : List Opened). with_turns (played q a) b.answers.items x a.live.items) opened ∙ ap (λ (x : List Answer). with_turns (played q a) b.answers.items b.opened.items x) live))

pub returns-in_err-round-clause-want : goal.returns-in_err-round-clause-want
returns-in_err-round-clause-want g c =
    let p = err_from_is_err_and c.from_residual.result c.from_residual.ensures.1 in
    let lanes = lists_of c.args.lanes.now in
    let lines = c.args.lines.now in
    let f = played c.round.new.self c.round.new.log in
    let kept = c.round.new.log in
    let now = g.N.Notices.taken c.round.new.live in
    let coming = g.N.Notices.coming c.round.new.live in
    rw p.1
    (rw p.2
    (room-both Bool (Unit {0}) _ (WantsRoom kept.answers (length (hints_at (hints_in lines) c.rounds.next) + 2 * longest_of (hints_in lines)) kept.live coming)
    ((c.round.new.self ≡ c.rounds.self) × (c.round.new.replies ≡ c.rounds.replies) × (kept.answers.items ≡ c.rounds.log.answers.items) × (kept.opened.items ≡ c.rounds.log.opened.items) × (kept.live.items ≡ c.rounds.log.live.items) × (c.round.new.live ≡ c.rounds.live))
    ((fed : List Notice) × (now ≡ told_with (g.N.Notices.taken c.args.live.now) fed) × RanToWant lanes lines (played c.args.self.now c.args.log.now) c.args.replies.now f c.round.new.replies kept.answers fed kept.live coming)
    (λ wants same. turns-want f c.round.new.replies kept.answers kept.live coming now c.rounds.invariant.turns (played-same kept c.rounds.log same.0 same.2 same.3 same.4) same.1 (ap (λ x. g.N.Notices.taken x) same.5) wants)
    c.in_err-round.ensures.no_room c.in_err-round.ensures.undone))

pub rounds-smaller : goal.rounds-smaller
rounds-smaller g c = c.in_ok-round.ensures.fewer c.if-branch.false
