-- A run whose notices come from outside: which of them its phases took, and what became of each.
use Rattle.std.specs.Prelude.{◌≡◌, ◌⊎◌, ℕ, zero, suc, ◌≤◌, Bool, List, [], ◌++◌, length, Option, Some, None, slice_index_or}
use Rattle.bc_engine.specs.Engines.{EngineView}
use Rattle.bc_engine.specs.PhaseTurns.{HadTurns, HadTurnsToCut, HadTurnsToWant}
use Rattle.bc_engine.specs.declared.engines.Ended.TheVariants.{NoMemory}
use Rattle.bc_model.specs.Lists.{PhaseLists}
use Rattle.bc_model.specs.Run.{no_phase}
use Rattle.bc_model.specs.declared.operations.Reply.{Reply}
use Rattle.bc_pager.specs.Serving.{told_with}
use Rattle.bc_pager.specs.declared.answers.Answer.{Answer}
use Rattle.bc_pager.specs.declared.notices.Notice.{Notice}

-- a phase was run, to its end, to its cut or until memory ran out, and took these notices. Where memory ran out before its first turn it took none
abbrev pub FedPhase : EngineView → PhaseLists → List Notice → EngineView → Type 0
FedPhase e p fed f =
    ((replies : List (List Reply)) × HadTurns e p f replies fed)
    ⊎ (((replies : List (List Reply)) × HadTurnsToCut e p f replies fed)
    ⊎ (((coming : Bool) × HadTurnsToWant e p f fed coming)
    ⊎ ((fed ≡ []) × (f ≡ record e { ended = Some NoMemory; live = [] }))))

-- The first phases, so many, were run one after another and took these notices. The answers are those that the engine had after each of them.
abbrev pub FedPhases : List PhaseLists → EngineView → ℕ → List Notice → List Answer → EngineView → Type 0
FedPhases phases e zero fed told f = (f ≡ e) × (fed ≡ []) × (told ≡ [])
FedPhases phases e (suc n) fed told f =
    (mid : EngineView) × (first : List Notice) × (more : List Notice) × (before : List Answer)
    × FedPhases phases e n first before mid
    × FedPhase mid (slice_index_or phases n no_phase) more f
    × (fed ≡ first ++ more)
    × (told ≡ before ++ f.live)

-- Some of the first phases were run. The notices that they took are those that were taken in this run, in order, and their answers stand after
-- those that were kept before.
pub record FedRun (phases : List PhaseLists) (e last : EngineView) (taken more : Option (List Notice)) (kept answers : List Answer) : Type 0 where
  pub count : ℕ
  pub within : count ≤ length phases
  pub notices : List Notice
  pub told : List Answer
  pub fed : FedPhases phases e count notices told last
  pub took : more ≡ told_with taken notices
  pub answered : answers ≡ kept ++ told

-- the notices that were taken are known, and there are as many answers
abbrev pub AreAnswersTo : Option (List Notice) → List Answer → Type 0
AreAnswersTo None answers = ⊥
AreAnswersTo (Some notices) answers = length answers ≡ length notices
