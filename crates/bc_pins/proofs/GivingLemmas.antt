-- A seat's slots while the box of the page in hand goes into its store slot.
use Rattle.std.proofs.Common.{◌≡◌, ℕ, List, [], ◌∷◌, ap, sym, ◌∙◌}
use Rattle.atomic_table.specs.Table.{rest, turned}
use Rattle.bc_pins.specs.declared.views.Lodged.{Lodged}
use Rattle.bc_pins.specs.declared.views.Lodged.TheVariants.{Nothing}
use Rattle.bc_pins.specs.declared.views.View.{View}
use Rattle.bc_pins.specs.Key.{Key, frame_slot, store_slot}
use Rattle.bc_pins.specs.Steps.{Mine, both_slots}
use Rattle.bc_pins.proofs.CallLemmas.{headed}

-- the store slot comes first
pub stored_at : (k : Key) (p i : ℕ) (me after : Mine) → i ≡ store_slot k p → me.1 ≡ both_slots k p Nothing Nothing → after ≡ (me.0, turned me.1) → after.1 ≡ (i, Nothing) ∷ rest after.1
stored_at k p i me after at is e =
    let l : after.1 ≡ (store_slot k p, Nothing) ∷ (frame_slot k p, Nothing) ∷ [] = ap (λ (m : Mine). m.1) e ∙ ap turned is in
    headed after.1 (i, Nothing) ((frame_slot k p, Nothing) ∷ []) (l ∙ ap (λ (j : ℕ). (j, Nothing) ∷ (frame_slot k p, Nothing) ∷ []) (sym at))

-- the same where something lies in it
pub lying_at : (k : Key) (p i : ℕ) (y : Lodged) (me after : Mine) → i ≡ store_slot k p → me.1 ≡ both_slots k p Nothing y → after ≡ (me.0, turned me.1) → after.1 ≡ (i, y) ∷ rest after.1
lying_at k p i y me after at is e =
    let l : after.1 ≡ (store_slot k p, y) ∷ (frame_slot k p, Nothing) ∷ [] = ap (λ (m : Mine). m.1) e ∙ ap turned is in
    headed after.1 (i, y) ((frame_slot k p, Nothing) ∷ []) (l ∙ ap (λ (j : ℕ). (j, y) ∷ (frame_slot k p, Nothing) ∷ []) (sym at))

pub lying_back : (k : Key) (p i : ℕ) (y x : Lodged) (me first second third : Mine) → i ≡ store_slot k p → me.1 ≡ both_slots k p Nothing y → first ≡ (me.0, turned me.1) → second ≡ (first.0, (i, x) ∷ rest first.1) → third ≡ (second.0, turned second.1)
    → third ≡ (me.0, both_slots k p Nothing x)
lying_back k p i y x me first second third at is a b c =
    let l : first.1 ≡ (store_slot k p, y) ∷ (frame_slot k p, Nothing) ∷ [] = ap (λ (m : Mine). m.1) a ∙ ap turned is in
    let m : second.1 ≡ (i, x) ∷ (frame_slot k p, Nothing) ∷ [] = ap (λ (m : Mine). m.1) b ∙ ap (λ (r : List (ℕ × Lodged)). (i, x) ∷ rest r) l in
    let v : second.0 ≡ me.0 = ap (λ (m : Mine). m.0) b ∙ ap (λ (m : Mine). m.0) a in
    c ∙ ap (λ (r : List (ℕ × Lodged)). (second.0, turned r)) m ∙ ap (λ (u : View). (u, (frame_slot k p, Nothing) ∷ (i, x) ∷ [])) v ∙ ap (λ (j : ℕ). (me.0, (frame_slot k p, Nothing) ∷ (j, x) ∷ [])) at

-- and goes back with what was put in
pub stored_back : (k : Key) (p i : ℕ) (x : Lodged) (me first second third : Mine) → i ≡ store_slot k p → me.1 ≡ both_slots k p Nothing Nothing → first ≡ (me.0, turned me.1) → second ≡ (first.0, (i, x) ∷ rest first.1) → third ≡ (second.0, turned second.1)
    → third ≡ (me.0, both_slots k p Nothing x)
stored_back k p i x me first second third at is a b c =
    let l : first.1 ≡ (store_slot k p, Nothing) ∷ (frame_slot k p, Nothing) ∷ [] = ap (λ (m : Mine). m.1) a ∙ ap turned is in
    let m : second.1 ≡ (i, x) ∷ (frame_slot k p, Nothing) ∷ [] = ap (λ (m : Mine). m.1) b ∙ ap (λ (r : List (ℕ × Lodged)). (i, x) ∷ rest r) l in
    let v : second.0 ≡ me.0 = ap (λ (m : Mine). m.0) b ∙ ap (λ (m : Mine). m.0) a in
    c ∙ ap (λ (r : List (ℕ × Lodged)). (second.0, turned r)) m ∙ ap (λ (u : View). (u, (frame_slot k p, Nothing) ∷ (i, x) ∷ [])) v ∙ ap (λ (j : ℕ). (me.0, (frame_slot k p, Nothing) ∷ (j, x) ∷ [])) at
