use Rattle.std.proofs.Common.{◌≡◌, ◌<◌, ℕ, [], ◌∷◌, true, inl, inr, refl, ap, sym, subst, ◌∙◌, arith}
use Rattle.bc_evict.specs.Evicting.{HasGiven}
use Rattle.bc_evict.specs.Reloading.{reload_word}
use Rattle.bc_lane.proofs.FrameLemmas.{claimed-frame, reloaded-holds, reloaded-lane, reloaded-reads, reloaded-shows_frozen}
use Rattle.bc_lane.proofs.FrozenLemmas.{other-word, refused-frame-changed, refused-frame-fetched, refused-frame-home, refused-frame-lane, refused-frame-passes, refused-frame-reads, refused-frame-shows, refused-frame-way, unclaimed-passes, unclaimed-reads, unclaimed-shows, unclaimed-way}
use Rattle.bc_lane.proofs.HandLemmas.{at-worker, nobodys-about, none-reloaded, one-reloaded, seat-lane}
use Rattle.bc_lane.proofs.PassLemmas.{fetched-passes}
use Rattle.bc_pins.specs.Calls.{view_of}
use Rattle.bc_pins.specs.Key.{Key, pages_of}
use Rattle.bc_pins.specs.Totals.{times}
use Rattle.bc_pins.specs.declared.views.View.{View}
use Rattle.bc_pins.proofs.TotalLemmas.{one_same}
use Rattle.bc_pins.proofs.VisitLemmas.{at_after}
use Rattle.bc_lane.proofs.hands.reload_frozen.Goals as goal

pub reload-requires-clause-seat : goal.reload-requires-clause-seat
reload-requires-clause-seat c = at_after c.args.pins.now c.args.seat.now c.claim_frame.new.seat c.requires.at c.claim_frame.ensures.same

pub reload-requires-clause-free : goal.reload-requires-clause-free
reload-requires-clause-free c = record {
  hand = ap (λ (v : View). v.hand) c.in-Some.ensures.some.view ∙ c.requires.free.hand;
  slots = c.claim_frame.ensures.slots ∙ c.requires.free.slots;
}

pub reload-requires-clause-may : goal.reload-requires-clause-may
reload-requires-clause-may c =
    let about = c.claim_frame.ensures.same.about in
    inr (subst (λ (k : Key). k.lanes ≡ true) (sym about) c.requires.lanes, (nobodys-about (view_of c.args.seat.now) (view_of c.claim_frame.new.seat) c.args.page about c.requires.frozen).0)

pub reload-requires-clause-right : goal.reload-requires-clause-right
reload-requires-clause-right c = ap (λ (v : View). v.rights) c.in-Some.ensures.some.view

pub returns-in-Ok-clause-same : goal.returns-in-Ok-clause-same
returns-in-Ok-clause-same c =
    reloaded-lane c.args.seat.now c.claim_frame.new.seat c.reload.new.seat c.args.page c.in-Some.right.frame c.in-Ok.fetched (claimed-frame (view_of c.args.seat.now) (view_of c.claim_frame.new.seat) c.in-Some.right.frame c.in-Some.ensures.some) c.in-Ok.ensures.ok.0 c.claim_frame.ensures.same c.reload.ensures.same c.in-Ok.ensures.ok.1

pub returns-in-Ok-clause-ok : goal.returns-in-Ok-clause-ok
returns-in-Ok-clause-ok c = (
  reloaded-holds (view_of c.args.seat.now) (view_of c.claim_frame.new.seat) c.reload.new.seat c.args.page c.in-Some.right.frame c.in-Ok.fetched (claimed-frame (view_of c.args.seat.now) (view_of c.claim_frame.new.seat) c.in-Some.right.frame c.in-Some.ensures.some) c.in-Ok.ensures.ok.0
      (subst (λ (k : Key). c.args.page < pages_of k) (sym c.requires.at.about) c.requires.page),
  c.in-Ok.ensures.ok.0.is,
)

pub returns-in-Ok-clause-shows : goal.returns-in-Ok-clause-shows
returns-in-Ok-clause-shows c = λ end s shown.
    reloaded-shows_frozen (view_of c.args.seat.now) (view_of c.claim_frame.new.seat) c.reload.new.seat c.args.page c.in-Some.right.frame c.in-Ok.fetched (claimed-frame (view_of c.args.seat.now) (view_of c.claim_frame.new.seat) c.in-Some.right.frame c.in-Some.ensures.some) c.in-Ok.ensures.ok.0 end s c.requires.frozen.0 shown

pub returns-in-Ok-clause-reads : goal.returns-in-Ok-clause-reads
returns-in-Ok-clause-reads c =
    reloaded-reads (view_of c.args.seat.now) (view_of c.claim_frame.new.seat) c.reload.new.seat c.args.page c.in-Some.right.frame c.in-Ok.fetched (claimed-frame (view_of c.args.seat.now) (view_of c.claim_frame.new.seat) c.in-Some.right.frame c.in-Some.ensures.some) c.in-Ok.ensures.ok.0 c.requires.rights (inr c.requires.frozen.0)
    (subst (λ (k : Key). c.args.page < pages_of k) (sym c.requires.at.about) c.requires.page)

pub returns-in-Ok-clause-passes : goal.returns-in-Ok-clause-passes
returns-in-Ok-clause-passes c = λ q near ne.
    fetched-passes (view_of c.args.seat.now) (view_of c.claim_frame.new.seat) c.reload.new.seat c.args.page c.in-Some.right.frame q c.in-Ok.fetched near (claimed-frame (view_of c.args.seat.now) (view_of c.claim_frame.new.seat) c.in-Some.right.frame c.in-Some.ensures.some) c.in-Ok.ensures.ok.0 ne

pub returns-in-Ok-clause-changed : goal.returns-in-Ok-clause-changed
returns-in-Ok-clause-changed c = ap (λ (v : View). v.changed) c.in-Ok.ensures.ok.0.view ∙ ap (λ (v : View). v.changed) c.in-Some.ensures.some.view

-- the page isn't Gone any more
pub give_frame-requires-clause-seat : goal.give_frame-requires-clause-seat
give_frame-requires-clause-seat c =
    at-worker c.args.pins.now c.claim_frame.new.seat c.reload.new.seat (at_after c.args.pins.now c.args.seat.now c.claim_frame.new.seat c.requires.at c.claim_frame.ensures.same) c.reload.ensures.same

pub give_frame-requires-clause-right : goal.give_frame-requires-clause-right
give_frame-requires-clause-right c =
    let claimed = c.in-Some.ensures.some in
    let view = c.in-Err.ensures.err.1.view in
    let had : (view_of c.reload.new.seat).rights ≡ c.in-Some.right.frame ∷ [] = ap (λ (v : View). v.rights) view ∙ ap (λ (v : View). v.rights) claimed.view in
    let is = c.in-Err.ensures.err.0 in
    record {
      has = subst (λ (f : ℕ). 0 < times f (view_of c.reload.new.seat).rights) (sym is) (let once = ap (times c.in-Some.right.frame) had in let one = one_same c.in-Some.right.frame in omega arith);
      within = subst (λ (k : Key). c.in-Err.unused.frame < k.frames) (sym (ap (λ (v : View). v.about) view ∙ ap (λ (v : View). v.about) claimed.view))
          (subst (λ (f : ℕ). f < (view_of c.args.seat.now).about.frames) (sym is) claimed.within);
    }

pub returns-in-Err-clause-same : goal.returns-in-Err-clause-same
returns-in-Err-clause-same c =
    refused-frame-lane c.args.seat.now c.claim_frame.new.seat c.reload.new.seat c.give_frame.new.seat c.claim_frame.ensures.same c.reload.ensures.same c.in-Err.ensures.err.2 c.give_frame.ensures.same
    (refused-frame-fetched (view_of c.args.seat.now) (view_of c.claim_frame.new.seat) (view_of c.reload.new.seat) (view_of c.give_frame.new.seat) c.args.page c.in-Some.right.frame (reload_word c.in-Err.refusal) c.in-Some.ensures.some c.in-Err.ensures.err.1.view (subst (λ (f : ℕ). HasGiven (view_of c.reload.new.seat) f (view_of c.give_frame.new.seat)) c.in-Err.ensures.err.0 c.give_frame.ensures.given) c.requires.rights)

pub returns-in-Err-clause-err : goal.returns-in-Err-clause-err
returns-in-Err-clause-err c = (
  record {
    hand = ap (λ (v : View). v.hand) c.give_frame.ensures.given.same ∙ c.in-Err.ensures.err.1.free.hand;
    slots = c.give_frame.ensures.slots ∙ c.in-Err.ensures.err.1.free.slots;
  },
  elim c.moved_or_gone.ensures.stop [
    | inl moved ↦ inr (
      moved.1,
      refused-frame-home (view_of c.args.seat.now) (view_of c.claim_frame.new.seat) (view_of c.reload.new.seat) (view_of c.give_frame.new.seat) c.args.page c.in-Some.right.frame (reload_word c.in-Err.refusal) c.in-Some.ensures.some c.in-Err.ensures.err.1.view (subst (λ (f : ℕ). HasGiven (view_of c.reload.new.seat) f (view_of c.give_frame.new.seat)) c.in-Err.ensures.err.0 c.give_frame.ensures.given) c.requires.rights (ap reload_word moved.0) (subst (λ (k : Key). c.args.page < pages_of k) (sym c.requires.at.about) c.requires.page),
    )
    | inr gone ↦ inl (
      gone.1,
      refused-frame-way (view_of c.args.seat.now) (view_of c.claim_frame.new.seat) (view_of c.reload.new.seat) (view_of c.give_frame.new.seat) c.args.page c.in-Some.right.frame (reload_word c.in-Err.refusal) c.in-Some.ensures.some c.in-Err.ensures.err.1.view (subst (λ (f : ℕ). HasGiven (view_of c.reload.new.seat) f (view_of c.give_frame.new.seat)) c.in-Err.ensures.err.0 c.give_frame.ensures.given) c.requires.rights (other-word c.in-Err.refusal gone.0).0 (other-word c.in-Err.refusal gone.0).1 (subst (λ (k : Key). c.args.page < pages_of k) (sym c.requires.at.about) c.requires.page),
    )
  ],
)

pub returns-in-Err-clause-still : goal.returns-in-Err-clause-still
returns-in-Err-clause-still c = λ end s shown. refused-frame-shows (view_of c.args.seat.now) (view_of c.claim_frame.new.seat) (view_of c.reload.new.seat) (view_of c.give_frame.new.seat) c.args.page c.in-Some.right.frame (reload_word c.in-Err.refusal) c.in-Some.ensures.some c.in-Err.ensures.err.1.view (subst (λ (f : ℕ). HasGiven (view_of c.reload.new.seat) f (view_of c.give_frame.new.seat)) c.in-Err.ensures.err.0 c.give_frame.ensures.given) c.requires.rights end s shown

pub returns-in-Err-clause-reads : goal.returns-in-Err-clause-reads
returns-in-Err-clause-reads c = refused-frame-reads (view_of c.args.seat.now) (view_of c.claim_frame.new.seat) (view_of c.reload.new.seat) (view_of c.give_frame.new.seat) c.args.page c.in-Some.right.frame (reload_word c.in-Err.refusal) c.in-Some.ensures.some c.in-Err.ensures.err.1.view (subst (λ (f : ℕ). HasGiven (view_of c.reload.new.seat) f (view_of c.give_frame.new.seat)) c.in-Err.ensures.err.0 c.give_frame.ensures.given) c.requires.rights (inr c.requires.frozen.0)

pub returns-in-Err-clause-passes : goal.returns-in-Err-clause-passes
returns-in-Err-clause-passes c = λ q near ne. refused-frame-passes (view_of c.args.seat.now) (view_of c.claim_frame.new.seat) (view_of c.reload.new.seat) (view_of c.give_frame.new.seat) c.args.page c.in-Some.right.frame (reload_word c.in-Err.refusal) c.in-Some.ensures.some c.in-Err.ensures.err.1.view (subst (λ (f : ℕ). HasGiven (view_of c.reload.new.seat) f (view_of c.give_frame.new.seat)) c.in-Err.ensures.err.0 c.give_frame.ensures.given) c.requires.rights q near ne

pub returns-in-Err-clause-changed : goal.returns-in-Err-clause-changed
returns-in-Err-clause-changed c = refused-frame-changed (view_of c.args.seat.now) (view_of c.claim_frame.new.seat) (view_of c.reload.new.seat) (view_of c.give_frame.new.seat) c.args.page c.in-Some.right.frame (reload_word c.in-Err.refusal) c.in-Some.ensures.some c.in-Err.ensures.err.1.view (subst (λ (f : ℕ). HasGiven (view_of c.reload.new.seat) f (view_of c.give_frame.new.seat)) c.in-Err.ensures.err.0 c.give_frame.ensures.given) c.requires.rights

-- no frame is free
pub returns-in-None-clause-same : goal.returns-in-None-clause-same
returns-in-None-clause-same c = seat-lane c.args.seat.now c.claim_frame.new.seat c.claim_frame.ensures.same (ap (λ (v : View). v.fetched) c.in-None.ensures.none.view)

pub returns-in-None-clause-err : goal.returns-in-None-clause-err
returns-in-None-clause-err c = (
  record {
    hand = ap (λ (v : View). v.hand) c.in-None.ensures.none.view ∙ c.requires.free.hand;
    slots = c.claim_frame.ensures.slots ∙ c.requires.free.slots;
  },
  inl (refl, unclaimed-way (view_of c.args.seat.now) (view_of c.claim_frame.new.seat) c.args.page c.in-None.ensures.none),
)

pub returns-in-None-clause-still : goal.returns-in-None-clause-still
returns-in-None-clause-still c = λ end s shown. unclaimed-shows (view_of c.args.seat.now) (view_of c.claim_frame.new.seat) end s c.in-None.ensures.none shown

pub returns-in-None-clause-reads : goal.returns-in-None-clause-reads
returns-in-None-clause-reads c = unclaimed-reads (view_of c.args.seat.now) (view_of c.claim_frame.new.seat) c.in-None.ensures.none

pub returns-in-None-clause-passes : goal.returns-in-None-clause-passes
returns-in-None-clause-passes c = λ q near ne. unclaimed-passes (view_of c.args.seat.now) (view_of c.claim_frame.new.seat) q near c.in-None.ensures.none

pub returns-in-None-clause-changed : goal.returns-in-None-clause-changed
returns-in-None-clause-changed c = ap (λ (v : View). v.changed) c.in-None.ensures.none.view

pub returns-in-Ok-clause-once : goal.returns-in-Ok-clause-once
returns-in-Ok-clause-once c =
    one-reloaded (view_of c.args.seat.now) (view_of c.reload.new.seat) c.args.page
    (ap (λ (v : View). v.fetched) c.in-Ok.ensures.ok.0.view ∙ ap (λ (v : View). c.args.page ∷ v.fetched) c.in-Some.ensures.some.view)

pub returns-in-Err-clause-once : goal.returns-in-Err-clause-once
returns-in-Err-clause-once c =
    none-reloaded (view_of c.args.seat.now) (view_of c.give_frame.new.seat) 1
    (refused-frame-fetched (view_of c.args.seat.now) (view_of c.claim_frame.new.seat) (view_of c.reload.new.seat) (view_of c.give_frame.new.seat) c.args.page c.in-Some.right.frame (reload_word c.in-Err.refusal) c.in-Some.ensures.some c.in-Err.ensures.err.1.view (subst (λ (f : ℕ). HasGiven (view_of c.reload.new.seat) f (view_of c.give_frame.new.seat)) c.in-Err.ensures.err.0 c.give_frame.ensures.given) c.requires.rights)

pub returns-in-Err-clause-refused : goal.returns-in-Err-clause-refused
returns-in-Err-clause-refused c =
    refused-frame-fetched (view_of c.args.seat.now) (view_of c.claim_frame.new.seat) (view_of c.reload.new.seat) (view_of c.give_frame.new.seat) c.args.page c.in-Some.right.frame (reload_word c.in-Err.refusal) c.in-Some.ensures.some c.in-Err.ensures.err.1.view (subst (λ (f : ℕ). HasGiven (view_of c.reload.new.seat) f (view_of c.give_frame.new.seat)) c.in-Err.ensures.err.0 c.give_frame.ensures.given) c.requires.rights

pub returns-in-None-clause-once : goal.returns-in-None-clause-once
returns-in-None-clause-once c = none-reloaded (view_of c.args.seat.now) (view_of c.claim_frame.new.seat) 1 (ap (λ (v : View). v.fetched) c.in-None.ensures.none.view)

pub returns-in-None-clause-refused : goal.returns-in-None-clause-refused
returns-in-None-clause-refused c = ap (λ (v : View). v.fetched) c.in-None.ensures.none.view
