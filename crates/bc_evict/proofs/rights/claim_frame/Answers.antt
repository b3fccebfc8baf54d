-- One frame word after another, going round.
use Rattle.std.proofs.Common.{◌≡◌, ℕ, ◌<◌, ap, sym, subst, ◌∙◌, arith}
use Rattle.bc_pins.specs.declared.views.View.{View}
use Rattle.bc_pins.specs.Key.{Key, frame_words}
use Rattle.bc_pins.specs.Steps.{claiming}
use Rattle.bc_pins.specs.Calls.{key_of, view_of}
use Rattle.bc_pins.proofs.VisitLemmas.{same_after}
use Rattle.bc_evict.specs.Looking.{steps_behind}
use Rattle.bc_evict.proofs.ClaimLemmas.{claimed-after, finds-more, finds-all}
use Rattle.bc_evict.proofs.rights.claim_frame.Goals as goal

pub returns-then-found-clause-some : goal.returns-then-found-clause-some
returns-then-found-clause-some c =
    let before = c.loop-steps.invariant.2 in
    claimed-after (view_of c.args.seat.now) (view_of c.loop-steps.seat) _ c.first_word-start.result c.loop-steps.steps _ before
    (c.keep_one.ensures.kept (view_of c.loop-steps.seat) (ap (λ (v : View). v.rights) before.view ∙ c.requires.none) c.frame_claim-found.ensures.view)

pub returns-clause-none : goal.returns-clause-none
returns-clause-none c =
    let words : c.frame_words-words.result ≡ frame_words (view_of c.args.seat.now).about = c.frame_words-words.ensures.words ∙ ap frame_words (sym c.requires.seat.about) in
    let done = c.loop-steps-test.false in
    finds-all (view_of c.args.seat.now) (view_of c.loop-steps.seat) c.first_word-start.result c.loop-steps.steps (omega arith)
    (subst (λ (n : ℕ). 0 < n → c.first_word-start.result < n) words c.first_word-start.ensures.within) c.loop-steps.invariant.2

pub loop-steps-preserved : goal.loop-steps-preserved
loop-steps-preserved c =
    let words : c.frame_words-words.result ≡ frame_words (view_of c.args.seat.now).about = c.frame_words-words.ensures.words ∙ ap frame_words (sym c.requires.seat.about) in
    let more = c.loop-steps-test.true in (
      same_after _ _ _ c.loop-steps.invariant.0 c.frame_claim-found.ensures.same,
      c.frame_claim-found.ensures.slots ∙ c.loop-steps.invariant.1,
      finds-more (view_of c.args.seat.now) (view_of c.loop-steps.seat) (view_of c.frame_claim-found.new.seat) c.first_word-start.result c.loop-steps.steps c.place_behind-word.result
          (subst (λ (n : ℕ). c.first_word-start.result < n) words (c.first_word-start.ensures.within (omega arith)))
          (subst (λ (n : ℕ). c.place_behind-word.result < n) words c.place_behind-word.ensures.within)
          (subst (λ (n : ℕ). steps_behind n c.first_word-start.result c.place_behind-word.result ≡ c.loop-steps.steps) words c.place_behind-word.ensures.steps)
          c.loop-steps.invariant.2
          (subst (λ (n : ℕ). view_of c.frame_claim-found.new.seat ≡ claiming (view_of c.loop-steps.seat) c.place_behind-word.result n) c.if-found.false c.frame_claim-found.ensures.view),
    )
