use Rattle.std.proofs.Common.{◌+◌, ◌∙◌, List, ℕ, refl, sym, subst, arith}
use Rattle.bc_superpages.specs.declared.headers.Header.{Header}
use Rattle.bc_pins.specs.Filling.{AddsQueues, QueuesGray, header_in}
use Rattle.bc_pins.proofs.FillLemmas.{adds_none, adds_more, same_header}
use Rattle.bc_pins.proofs.filling.push_queues.Goals as goal

pub loop-superpage-init : goal.loop-superpage-init
loop-superpage-init c = record { room = refl; added = adds_none _ _ }

pub loop-superpage-preserved : goal.loop-superpage-preserved
loop-superpage-preserved c =
    let inv = c.loop-superpage.invariant in
    let lt = c.loop-superpage-test.true in
    let within = c.requires.superpages in
    record {
      room = c.push_reserved.ensures.capacity ∙ inv.room;
      added = subst (λ (l : List ℕ). AddsQueues c.args.headers.now c.args.words.now.items l (c.loop-superpage.superpage + 1)) (sym c.push_reserved.ensures.items)
          (adds_more (λ q queue. QueuesGray (header_in c.args.headers.now q) queue) c.args.words.now.items c.loop-superpage.words.items c.loop-superpage.superpage c.queue_word.result inv.added
          (subst (λ (h : Header). QueuesGray h c.queue_word.result) (same_header c.args.headers.now c.loop-superpage.superpage _ (omega arith)) c.queue_word.ensures.gray));
    }
