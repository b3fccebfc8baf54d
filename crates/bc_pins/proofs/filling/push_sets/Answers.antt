use Rattle.std.proofs.Common.{◌≡◌, ℕ, List, ◌++◌, ◌+◌, ◌*◌, ◌/◌, ◌%◌, ◌<◌, length, length-append, get_or, ap, sym, subst, ◌∙◌, arith}
use Rattle.std.proofs.lemmas.List.{get_or_default}
use Rattle.bc_superpages.specs.declared.headers.Header.{Header}
use Rattle.bc_superpages.specs.Headers.{unused_header}
use Rattle.bc_pins.specs.Filling.{Extends, set_in}
use Rattle.bc_pins.proofs.FillLemmas.{extends_block}
use Rattle.bc_pins.proofs.filling.push_sets.Goals as goal

pub loop-superpage-preserved : goal.loop-superpage-preserved
loop-superpage-preserved c =
    let inv = c.loop-superpage.invariant in
    let added = c.push_block.ensures in
    let room = added.room in
    let kept = inv.room in
    let q : ℕ = c.loop-superpage.superpage in
    let block : List ℕ = c.set_words.result.now in
    let both = length-append c.loop-superpage.words.items block in
    let long : length (c.loop-superpage.words.items ++ block) ≡ length c.loop-superpage.words.items + 16 = ap length (sym added.items) ∙ added.long in
    let lt = c.loop-superpage-test.true in
    let few = c.requires.superpages in
    let within : q < length c.args.headers.now = omega arith in
    let f : ℕ → ℕ = λ w. get_or (set_in c.args.set (get_or c.args.headers.now (w / 16) unused_header)) (w % 16) 0 in
    record {
      room = omega arith;
      added = subst (λ (l : List ℕ). Extends c.args.words.now.items l (16 * (q + 1)) f) (sym added.items)
          (extends_block _ _ block q f inv.added (omega arith) (λ j less.
          let there : (16 * q + j) / 16 ≡ q = omega arith in
          let place : (16 * q + j) % 16 ≡ j = omega arith in
          ap (λ (l : List ℕ). get_or l j 0) c.set_words.ensures.words
          ∙ ap (λ (h : Header). get_or (set_in c.args.set h) j 0) (get_or_default c.args.headers.now q _ unused_header within)
          ∙ ap (λ (i : ℕ). get_or (set_in c.args.set (get_or c.args.headers.now i unused_header)) j 0) (sym there)
          ∙ ap (λ (i : ℕ). get_or (set_in c.args.set (get_or c.args.headers.now ((16 * q + j) / 16) unused_header)) i 0) (sym place)));
    }
