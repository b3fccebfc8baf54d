-- Boxes that went into slots, and came back.
use Rattle.std.proofs.Common.{◌≡◌, ℕ, ◌<◌, Bool, true, false, List, get_or, Option, Some, None, inl, inr, refl, ◌∙◌}
use Rattle.std.proofs.lemmas.Bool.{cases_lt}
use Rattle.std.proofs.lemmas.List.{ext_get_or}
use Rattle.bc_superpages.specs.declared.spaces.Homed.{Homed}
use Rattle.bc_superpages.specs.declared.parts.SpaceParts.{SpaceParts}
use Rattle.bc_superpages.specs.Contents.{LiesIn}
use Rattle.bc_superpages.specs.Parts.{AreParts, parts_layout}
use Rattle.bc_pins.specs.Lodging.{Replaced, LiesOnce, home_of, away_of, box_of, place_of}
use Rattle.bc_pins.specs.Opening.{SameParts}

-- replaced by a default, and then by what was there
pub back_again : {A : Type 0} (d : A) (o n m : List A) (k : ℕ) (f : ℕ → A) → Replaced d o n k (λ _. d) → Replaced d n m k f → ((i : ℕ) → i < k → f i ≡ get_or o i d) → m ≡ o
back_again d o n m k f out back same = ext_get_or d m o (back.long ∙ out.long) (λ i lt. elim (cases_lt i k) [
  | inl near ↦ back.near i near ∙ same i near
  | inr far ↦ back.far i far ∙ out.far i far
])

pub box_home : (b : Option Homed) → box_of (home_of b) ≡ b
box_home None = refl
box_home (Some h) = refl

pub place_away : (c : Option (List ℕ)) → place_of (away_of c) ≡ c
place_away None = refl
place_away (Some c) = refl

no_place : (c : List ℕ) → Some c ≡ None → ⊥
no_place c e = cc

pub lies_once : (r : Bool) (b : Option Homed) (c : Option (List ℕ)) → LiesIn r b c → LiesOnce (home_of b) c
lies_once true (Some h) None l = tt
lies_once true (Some h) (Some c) l = absurd (no_place c l.1)
lies_once true None c l = absurd l
lies_once false (Some h) c l = absurd l
lies_once false None (Some c) l = tt
lies_once false None None l = absurd l

-- the same parts make the same space
pub parts_same : (a b : SpaceParts) → SameParts a b → parts_layout b ≡ parts_layout a
parts_same a b s = rw (s.headers, s.pool, s.nursery, s.reads, s.boxes, s.places) refl

pub kept_same : (a b : SpaceParts) → SameParts a b → AreParts a → AreParts b
kept_same a b s k = record {
  kept = rw (s.headers, s.pool, s.nursery, s.boxes, s.places) k.kept;
  ends = rw (s.headers, s.end) k.ends;
  blank = rw (s.headers, s.end) k.blank;
  room = rw (s.pool, s.room) k.room;
}
