use Rattle.std.proofs.Common.{ℕ, List, length, replicate, Option, Some, None, IsSome, refl, ap, sym, ◌∙◌, subst}
use Rattle.std.proofs.lemmas.List.{length-replicate, get_or-replicate}
use Rattle.bc_frames.specs.Places.{StoreView, place_at}
use Rattle.word_tests.proofs.frames.pages_of_several_rows_are_used_one_after_another.Goals as goal

pub loop-page-init : goal.loop-page-init
loop-page-init g c =
    let zeros : Option (List ℕ) = Some (replicate {A = ℕ} 512 0) in
    let is = c.in_ok-store.ensures.zeros in (
      ap (λ (s : StoreView). length s.places) is ∙ length-replicate 130 zeros,
      λ p lt. subst (λ (o : Option (List ℕ)). IsSome o) (sym (ap (λ (s : StoreView). place_at s p) is ∙ get_or-replicate 130 p zeros None lt)) refl,
    )
