-- In the theorem.
-- How large a state is.
use Rattle.std.specs.Prelude.{◌≡◌, ℕ, ◌+◌, ◌^◌, ◌<◌, length}
use Rattle.bc_model.specs.State.{State, made_by}
use Rattle.bc_model.specs.declared.traces.Setup.{Setup}

-- the setup of a state: its lanes, its domains and the root slots of each, which is what operations and phases have to fit. A
-- state knows no more of the setup that it began with
abbrev pub sizes_of : State → Setup
sizes_of s = record {
  lanes = length s.made;
  domains = length s.holders;
  slots = s.width;
  superpages = 0;
  nursery = 0;
  buffer = 0;
  frames = 0;
}

-- the state has the lanes, the domains and the root slots of the setup
pub record HasSizes (setup : Setup) (s : State) : Type 0 where
  pub lanes : length s.made ≡ setup.lanes
  pub domains : length s.holders ≡ setup.domains
  pub slots : s.width ≡ setup.slots

-- every lane can make n objects more, all with serials below 2 ^ 32
pub record HasSerials (n : ℕ) (s : State) : Type 0 where
  pub below : (j : ℕ) → length (made_by s.made j) + n < 2 ^ 32
