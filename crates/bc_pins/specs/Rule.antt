-- The rule of a table: the turn facts of every page, seat and frame, the claims of notices, and what is owed of gray cells.
use Rattle.std.specs.Prelude.{◌≡◌, ℕ, ◌+◌, ◌*◌, ◌^◌, ◌<◌, false, List, length}
use mathlib.Core.Option.{some}
use lib.ListN.{get_elem?}
use Rattle.bc_pins.specs.declared.views.View.{View}
use Rattle.bc_pins.specs.Key.{Key, pages_of, owner, all_words}
use Rattle.bc_pins.specs.Totals.{times}
use Rattle.bc_pins.specs.Views.{opened_content}
use Rattle.bc_pins.specs.Facts.{Table, Place, Content, Standing, RecordsContent, Saw, Seated, Marking, MarksTargets, IsUnheld, Roles, Frames, Counters, Bits}
use Rattle.bc_pins.specs.Tracing.{Tracing, Knows}
use Rattle.bc_pins.specs.Claims.{Claims}
use Rattle.bc_pins.specs.Owing.{Owing}

-- what holds of one seat
pub record SeatFacts (k : Key) (s : Table) (rec : ℕ → List ℕ) (v : View) : Type 0 where
  pub seated : Seated k v
  pub records : RecordsContent k rec v
  pub saw : Saw k s v
  pub marking : Marking v
  pub targets : MarksTargets k s rec v
  pub knows : k.lanes ≡ false → Knows k s v

-- the turn facts of every page, seat and frame of a table, in a mark turn with the mark facts
pub record Rule (k : Key) (s : Table) : Type 0 where
  -- the record of each page
  pub rec : ℕ → List ℕ
  pub words : length s.words ≡ all_words k
  pub slots : length s.homes ≡ pages_of k + pages_of k
  pub few : pages_of k < 2 ^ 32
  pub place : (p : ℕ) → p < pages_of k → Place k s rec p
  pub content : (p : ℕ) → p < pages_of k → Content k s rec p
  pub standing : (p : ℕ) → p < pages_of k → Standing k s p
  pub seats : (id : ℕ) (v : View) → get_elem? s.views id ≡ some v → SeatFacts k s rec v
  pub roles : Roles k s
  pub unheld : IsUnheld k
  -- a page whose domain no lane holds has the opening's content
  pub unowned : (p : ℕ) → times (owner k p) k.roles ≡ 0 → rec p ≡ opened_content k p
  pub frames : (f : ℕ) → Frames k s f
  pub counters : (q : ℕ) → q < k.supers → Counters k s rec q
  pub bits : (w b : ℕ) → w < 16 * k.supers → b < 64 → Bits k s w b
  -- in a mark turn
  pub tracing : k.lanes ≡ false → Tracing k s

-- the rule of a table: the facts, that each notice's number was claimed once, and in a mark turn that each gray cell is answered for
pub record Ruled (k : Key) (s : Table) : Type 0 where
  pub facts : Rule k s
  pub claims : Claims k s
  pub owing : k.lanes ≡ false → Owing k s
