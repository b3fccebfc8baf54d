use Rattle.std.proofs.Common.{Option, inl, inr, ap, subst, arith}
use Rattle.bc_pager.specs.Claiming.{Sharing}
use Rattle.bc_pager.specs.Serving.{HasServed, KeptAnswers}
use Rattle.bc_pins.specs.Calls.{key_of, view_of}
use Rattle.bc_pager.proofs.FeedingLemmas.{served-live}
use Rattle.bc_pager.proofs.feeding.serve_live.Goals as goal

pub returns : goal.returns
returns g c =
    let room = c.left-room.ensures.left in
    let kept = c.serve.ensures.served.kept in
    let all = ap (λ (a : KeptAnswers). a.room) kept in
    let none = ap (λ (a : KeptAnswers). a.room) c.requires.ready.answers in
    record {
      served = served-live c.args.pins.now _ _ _ _ c.args.paging.now (record { seat = c.serve.new.seat; answers = c.serve.new.answers }) c.requires.ready c.serve.ensures.same c.serve.ensures.free c.serve.ensures.none
          (subst (λ (s : Option Sharing). HasServed (key_of c.args.pins.now) s (g.N.Notices.taken c.args.live.now) (g.N.Notices.taken c.serve.new.notices) (g.N.Notices.since c.args.live.now) (g.N.Notices.since c.serve.new.notices) c.args.paging.now.answers c.serve.new.answers (view_of c.args.paging.now.seat) (view_of c.serve.new.seat)) c.requires.unshared c.serve.ensures.served)
          (omega arith);
      ended = elim c.serve.ensures.ended [
        | inl none_left ↦ inl none_left.0
        | inr full ↦ inr (full.0, omega arith)
      ];
      feed = (c.serve.ensures.shared, c.serve.ensures.told, c.serve.ensures.most);
    }
