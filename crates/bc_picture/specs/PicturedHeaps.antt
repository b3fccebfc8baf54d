-- A heap with what its engine knows beside it, as a state.
use Rattle.std.specs.Prelude.{◌≡◌, ℕ, List, length, map}
use Rattle.bc_word.specs.Words.{word_of_bits}
use Rattle.bc_model.specs.State.{State, Object}
use Rattle.bc_model.specs.StateSizes.{HasSizes}
use Rattle.bc_model.specs.declared.traces.Setup.{Setup}
use Rattle.bc_model.specs.declared.values.Holder.{Holder}
use Rattle.bc_standing.specs.Standing.{StandsFor}
use Rattle.bc_superpages.specs.Layout.{Layout}
use Rattle.bc_superpages.specs.Memory.{memory}
use Rattle.bc_superpages.specs.RootWords.{RootWords}

-- the space and the root slots stand for the state, whose sizes, holders and births the engine knows
pub record StandsWith (setup : Setup) (holders : List Holder) (births : List ℕ) (r : RootWords) (s : Layout) (state : State) : Type 0 where
  pub stands : StandsFor (memory s) (map word_of_bits r.words) state
  pub sizes : HasSizes setup state
  pub held : holders ≡ state.holders
  pub born : births ≡ map (λ (made : List Object). length made) state.made
