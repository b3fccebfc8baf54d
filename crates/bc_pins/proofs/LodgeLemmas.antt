-- Items that are replaced or added one by one.
use Rattle.std.proofs.Common.{◌≡◌, ℕ, ◌+◌, ◌*◌, ◌/◌, ◌%◌, ◌<◌, ◌≤◌, ◌≢◌, Bool, false, Option, None, List, [], ◌∷◌, ◌++◌, length, get_or, set, inl, inr, refl, ap, sym, ◌∙◌, arith, length-append, get_or-set_same, get_or-set_other}
use Prim.Native.Nat.{zero, suc}
use Rattle.std.proofs.lemmas.Bool.{cases_eq}
use Rattle.std.proofs.lemmas.List.{length-set}
use Rattle.bc_pins.specs.declared.views.Lodged.{Lodged}
use Rattle.bc_pins.specs.declared.views.Lodged.TheVariants.{Nothing}
use Rattle.bc_pins.specs.Lodging.{Replaced, AreOut, home_of, away_of}
use Rattle.bc_pins.specs.Key.{home_slot}
use Rattle.bc_superpages.specs.declared.spaces.Homed.{Homed}

pub replaced_none : {A : Type 0} (d : A) (o : List A) (f : ℕ → A) → Replaced d o o 0 f
replaced_none d o f = record { long = refl; near = λ i lt. absurd (omega arith); far = λ i le. refl }

pub replaced_more : {A : Type 0} (d : A) (o n : List A) (k : ℕ) (v : A) (f : ℕ → A) → Replaced d o n k f → k < length o → v ≡ f k → Replaced d o (set n k v) (k + 1) f
replaced_more d o n k v f r lt is =
    let size = r.long in
    record {
      long = length-set n k v ∙ r.long;
      near = λ i less. elim (cases_eq i k) [
        | inl e ↦ ap (λ (j : ℕ). get_or (set n k v) j d) e ∙ get_or-set_same n k v d (omega arith) ∙ is ∙ ap f (sym e)
        | inr ne ↦ get_or-set_other n k i v d ne ∙ r.near i (omega arith)
      ];
      far = λ i le. get_or-set_other n k i v d (λ e. omega arith) ∙ r.far i (omega arith);
    }

pub front_slot : (xs : List Lodged) (y : Lodged) (i : ℕ) → i < length xs → get_or (xs ++ y ∷ []) i Nothing ≡ get_or xs i Nothing
front_slot [] y i lt = absurd (omega arith)
front_slot (x ∷ xs) y zero lt = refl
front_slot (x ∷ xs) y (suc i) lt = front_slot xs y i (omega arith)

pub end_slot : (xs : List Lodged) (y : Lodged) (i : ℕ) → i ≡ length xs → get_or (xs ++ y ∷ []) i Nothing ≡ y
end_slot [] y zero e = refl
end_slot [] y (suc i) e = absurd (omega arith)
end_slot (x ∷ xs) y zero e = absurd (omega arith)
end_slot (x ∷ xs) y (suc i) e = end_slot xs y i (omega arith)

pub out_none : (bs : List (Option Homed)) (ps : List (Option (List ℕ))) → AreOut bs ps bs ps [] 0
out_none bs ps = record {
  long = refl;
  boxes_long = refl;
  places_long = refl;
  homes = λ p lt. absurd (omega arith);
  aways = λ p lt. absurd (omega arith);
  box_out = λ p lt. absurd (omega arith);
  box_left = λ p le. refl;
  place_out = λ p lt. absurd (omega arith);
  place_left = λ p le. refl;
}

module _ (bs cs : List (Option Homed)) (ps qs : List (Option (List ℕ))) (slots : List Lodged) (e page : ℕ) (o : AreOut bs ps cs qs slots e) (is : page ≡ 4 * (e / 8) + e % 4) where
  -- a box from its frame
  pub out_home : (v : Lodged) → e % 8 < 4 → page < length bs → v ≡ home_of (get_or cs page None) → AreOut bs ps (set cs page None) qs (slots ++ v ∷ []) (e + 1)
  out_home v front lt read =
      let long = o.long in
      let size = o.boxes_long in
      record {
        long = length-append slots (v ∷ []) ∙ omega arith;
        boxes_long = length-set cs page None ∙ o.boxes_long;
        places_long = o.places_long;
        homes = λ p less. elim (cases_eq p page) [
          | inl same ↦ end_slot slots v (home_slot p) (omega arith) ∙ read ∙ ap home_of (o.box_left page (omega arith) ∙ ap (λ (n : ℕ). get_or bs n None) (sym same))
          | inr ne ↦ front_slot slots v (home_slot p) (omega arith) ∙ o.homes p (omega arith)
        ];
        aways = λ p less. front_slot slots v (home_slot p + 4) (omega arith) ∙ o.aways p (omega arith);
        box_out = λ p less. elim (cases_eq p page) [
          | inl same ↦ ap (λ (n : ℕ). get_or (set cs page None) n None) same ∙ get_or-set_same cs page None None (omega arith)
          | inr ne ↦ get_or-set_other cs page p None None ne ∙ o.box_out p (omega arith)
        ];
        box_left = λ p le. get_or-set_other cs page p None None (λ z. omega arith) ∙ o.box_left p (omega arith);
        place_out = λ p less. o.place_out p (omega arith);
        place_left = λ p le. o.place_left p (omega arith);
      }

  -- and one from the store
  pub out_away : (v : Lodged) → 4 ≤ e % 8 → page < length ps → v ≡ away_of (get_or qs page None) → AreOut bs ps cs (set qs page None) (slots ++ v ∷ []) (e + 1)
  out_away v back lt read =
      let long = o.long in
      let size = o.places_long in
      record {
        long = length-append slots (v ∷ []) ∙ omega arith;
        boxes_long = o.boxes_long;
        places_long = length-set qs page None ∙ o.places_long;
        homes = λ p less. front_slot slots v (home_slot p) (omega arith) ∙ o.homes p (omega arith);
        aways = λ p less. elim (cases_eq p page) [
          | inl same ↦ end_slot slots v (home_slot p + 4) (omega arith) ∙ read ∙ ap away_of (o.place_left page (omega arith) ∙ ap (λ (n : ℕ). get_or ps n None) (sym same))
          | inr ne ↦ front_slot slots v (home_slot p + 4) (omega arith) ∙ o.aways p (omega arith)
        ];
        box_out = λ p less. o.box_out p (omega arith);
        box_left = λ p le. o.box_left p (omega arith);
        place_out = λ p less. elim (cases_eq p page) [
          | inl same ↦ ap (λ (n : ℕ). get_or (set qs page None) n None) same ∙ get_or-set_same qs page None None (omega arith)
          | inr ne ↦ get_or-set_other qs page p None None ne ∙ o.place_out p (omega arith)
        ];
        place_left = λ p le. get_or-set_other qs page p None None (λ z. omega arith) ∙ o.place_left p (omega arith);
      }

-- all of them
pub out_boxes : (bs cs : List (Option Homed)) (ps qs : List (Option (List ℕ))) (slots : List Lodged) (n : ℕ) → n % 4 ≡ 0 → AreOut bs ps cs qs slots (2 * n) → Replaced None bs cs n (λ p. None)
out_boxes bs cs ps qs slots n four o = record { long = o.boxes_long; near = λ p lt. o.box_out p (omega arith); far = λ p le. o.box_left p (omega arith) }

pub out_places : (bs cs : List (Option Homed)) (ps qs : List (Option (List ℕ))) (slots : List Lodged) (n : ℕ) → n % 4 ≡ 0 → AreOut bs ps cs qs slots (2 * n) → Replaced None ps qs n (λ p. None)
out_places bs cs ps qs slots n four o = record { long = o.places_long; near = λ p lt. o.place_out p (omega arith); far = λ p le. o.place_left p (omega arith) }

-- two slots of a list that are emptied, one after the other
module _ (was one two : List Bool) (i j : ℕ) (first : one ≡ set was i false) (second : two ≡ set one j false) where
  pub slot_else : (k : ℕ) → k ≢ i → k ≢ j → get_or two k false ≡ get_or was k false
  slot_else k a b = ap (λ (l : List Bool). get_or l k false) second ∙ get_or-set_other one j k false false b ∙ ap (λ (l : List Bool). get_or l k false) first ∙ get_or-set_other was i k false false a

  pub slot_one : i < length was → i ≢ j → get_or two i false ≡ false
  slot_one lt ne = ap (λ (l : List Bool). get_or l i false) second ∙ get_or-set_other one j i false false ne ∙ ap (λ (l : List Bool). get_or l i false) first ∙ get_or-set_same was i false false lt

  pub slot_two : j < length was → get_or two j false ≡ false
  slot_two lt =
      let same : length one ≡ length was = ap length first ∙ length-set was i false in
      ap (λ (l : List Bool). get_or l j false) second ∙ get_or-set_same one j false false (omega arith)
