-- Boxes that come out of slots: where they lie, and which frames they use.
use Rattle.std.proofs.Common.{◌≡◌, ℕ, ◌+◌, ◌-◌, ◌<◌, ◌≤◌, ◌≢◌, ◌==◌, true, false, List, [], ◌∷◌, length, map, get_or, Option, Some, None, is_some, count_by, inl, inr, refl, ap, sym, subst, ◌∙◌, arith, ◌*◌}
use Prim.Native.Nat.{zero, suc}
use mathlib.Core.Option.{some, some-injective}
use Rattle.std.proofs.lemmas.Bool.{cases_eq, cases_lt, eq-eqb}
use Rattle.bc_bits.specs.Counting.{one_if}
use Rattle.bc_superpages.specs.declared.headers.PageState.{PageState}
use Rattle.bc_superpages.specs.declared.headers.PageState.TheVariants as state
use Rattle.bc_superpages.specs.declared.spaces.Homed.{Homed}
use Rattle.bc_superpages.specs.Headers.{is_resident}
use Rattle.bc_superpages.specs.Contents.{content_of, uses_frame, LiesIn}
use Rattle.bc_pins.specs.declared.views.Lodged.{Lodged}
use Rattle.bc_pins.specs.declared.views.Lodged.TheVariants.{Nothing, Home, Away}
use Rattle.bc_pins.specs.Totals.{total, sum_to}
use Rattle.bc_pins.specs.Views.{state_word}
use Rattle.bc_pins.specs.Facts.{Lies, frame_of, frame_lodged}
use Rattle.bc_pins.specs.Lodging.{box_of, place_of}
use Rattle.bc_pins.proofs.TotalLemmas.{one_same, one_other}
use Rattle.bc_pins.proofs.SumLemmas.{sum_slots, sum_same, sum_none, sum_cut, total_sum, count_total, total_map}
use Rattle.bc_pins.specs.Key.{home_slot}

some_lodged : (a b : Lodged) → some (some a) ≡ some (some b) → a ≡ b
some_lodged a b e = some-injective a b (some-injective (some a) (some b) e)

-- a page's box lies in its lists as its state says
pub record BoxLies (st : PageState) (box : Option Homed) (place : Option (List ℕ)) (c : List ℕ) : Type 0 where
  pub lies : LiesIn (is_resident st) box place
  pub content : content_of box place ≡ c

away_lies : (a b : Lodged) (c : List ℕ) → length c ≡ 512 → a ≡ Nothing → b ≡ Away c → LiesIn false (box_of a) (place_of b) × (content_of (box_of a) (place_of b) ≡ c)
away_lies a b c long e f = subst (λ (x : Lodged). LiesIn false (box_of x) (place_of b) × (content_of (box_of x) (place_of b) ≡ c)) (sym e)
    (subst (λ (y : Lodged). LiesIn false None (place_of y) × (content_of None (place_of y) ≡ c)) (sym f) (long, refl))

home_lies : (a b : Lodged) (h : Homed) (c : List ℕ) → length c ≡ 512 → a ≡ Home h → b ≡ Nothing → h.page ≡ c → LiesIn true (box_of a) (place_of b) × (content_of (box_of a) (place_of b) ≡ c)
home_lies a b h c long e f g = subst (λ (x : Lodged). LiesIn true (box_of x) (place_of b) × (content_of (box_of x) (place_of b) ≡ c)) (sym e)
    (subst (λ (y : Lodged). LiesIn true (Some h) (place_of y) × (content_of (Some h) (place_of y) ≡ c)) (sym f) ((ap length g ∙ long, refl), g))

pub box_lies : (st : PageState) (a b : Lodged) (c : List ℕ) → state_word st ≢ 3 → length c ≡ 512 → Lies (state_word st) (some (some a)) (some (some b)) c → BoxLies st (box_of a) (place_of b) c
box_lies state.Absent a b c ne long l = let r = away_lies a b c long (some_lodged a Nothing l.0) (some_lodged b (Away c) l.1) in record { lies = r.0; content = r.1 }
box_lies state.Gone a b c ne long l = let r = away_lies a b c long (some_lodged a Nothing l.0) (some_lodged b (Away c) l.1) in record { lies = r.0; content = r.1 }
box_lies state.Home a b c ne long l = let r = home_lies a b l.0 c long (some_lodged a (Home l.0) l.1) (some_lodged b Nothing l.2) l.3 in record { lies = r.0; content = r.1 }
box_lies state.Remembered a b c ne long l = let r = home_lies a b l.0 c long (some_lodged a (Home l.0) l.1) (some_lodged b Nothing l.2) l.3 in record { lies = r.0; content = r.1 }
box_lies state.Held a b c ne long l = absurd (ne refl)

-- a store slot has no frame
pub no_frame : (st : PageState) (a b : Lodged) (c : List ℕ) (f : ℕ) → state_word st ≢ 3 → Lies (state_word st) (some (some a)) (some (some b)) c → frame_of b f ≡ 0
no_frame state.Absent a b c f ne l = ap (λ (x : Lodged). frame_of x f) (some_lodged b (Away c) l.1)
no_frame state.Gone a b c f ne l = ap (λ (x : Lodged). frame_of x f) (some_lodged b (Away c) l.1)
no_frame state.Home a b c f ne l = ap (λ (x : Lodged). frame_of x f) (some_lodged b Nothing l.2)
no_frame state.Remembered a b c f ne l = ap (λ (x : Lodged). frame_of x f) (some_lodged b Nothing l.2)
no_frame state.Held a b c f ne l = absurd (ne refl)

frame_box : (a : Lodged) (f : ℕ) → frame_of a f ≡ one_if (uses_frame f (box_of a))
frame_box Nothing f = refl
frame_box (Home h) f = refl
frame_box (Away c) f = refl

-- boxes that came out of slots use the frames that the slots did
pub frames_back : (bs : List (Option Homed)) (xs : List Lodged) (s n f : ℕ) → n ≡ 4 * s → n ≤ length bs → length xs ≡ n + n
    → ((i : ℕ) → i < n → get_or bs i None ≡ box_of (get_or xs (home_slot i) Nothing)) → ((i : ℕ) → n ≤ i → i < length bs → get_or bs i None ≡ None)
    → ((i : ℕ) → i < n → frame_of (get_or xs (home_slot i + 4) Nothing) f ≡ 0)
    → count_by (uses_frame f) bs ≡ total (frame_lodged f) (map some xs)
frames_back bs xs s n f four le size near past store =
    let g : ℕ → ℕ = λ i. frame_of (get_or xs i Nothing) f in
    let h : ℕ → ℕ = λ i. one_if (uses_frame f (get_or bs i None)) in
    let as_sum = total_map some (frame_lodged f) xs ∙ total_sum (λ x. frame_of x f) xs Nothing in
    let cut = sum_slots g s n (length xs) four (omega arith) in
    let front = sum_same h (λ i. g (home_slot i)) n (λ i lt. ap (λ (b : Option Homed). one_if (uses_frame f b)) (near i lt) ∙ sym (frame_box (get_or xs (home_slot i) Nothing) f)) in
    let back = sum_none (λ i. g (home_slot i + 4)) n store in
    let boxes = count_total (uses_frame f) bs None ∙ total_sum (λ x. one_if (uses_frame f x)) bs None in
    let rest : ℕ = length bs - n in
    let cut_boxes = sum_cut h n rest (length bs) (omega arith) in
    let none_past = sum_none (λ i. h (n + i)) rest (λ i lt. ap (λ (b : Option Homed). one_if (uses_frame f b)) (past (n + i) (omega arith) (omega arith))) in
    omega arith

-- how many boxes there are, by the frames that they use
pub sum_hit : (m n : ℕ) → m < n → sum_to (λ f. one_if (m == f)) n ≡ 1
sum_hit m zero lt = absurd (omega arith)
sum_hit m (suc n) lt = elim (cases_eq m n) [
  | inl e ↦
      let here : one_if (m == n) ≡ 1 = ap one_if (eq-eqb m n e) in
      let before = sum_none (λ f. one_if (m == f)) n (λ i less. one_other m i (λ z. omega arith)) in
      omega arith
  | inr ne ↦
      let here = one_other m n ne in
      let before = sum_hit m n (omega arith) in
      omega arith
]

pub sum_plus : (g h : ℕ → ℕ) (n : ℕ) → sum_to (λ i. g i + h i) n ≡ sum_to g n + sum_to h n
sum_plus g h zero = refl
sum_plus g h (suc n) = let t = sum_plus g h n in omega arith

pub boxes_sum : (bs : List (Option Homed)) (n : ℕ) → ((f : ℕ) → n ≤ f → total (λ b. one_if (uses_frame f b)) bs ≡ 0)
    → total (λ (b : Option Homed). one_if (is_some b)) bs ≡ sum_to (λ f. total (λ b. one_if (uses_frame f b)) bs) n
boxes_sum [] n past = sym (sum_none (λ f. 0) n (λ i lt. refl))
boxes_sum (None ∷ bs) n past =
    let rest = boxes_sum bs n (λ f le. let a = past f le in omega arith) in
    let same = sum_same (λ f. total (λ b. one_if (uses_frame f b)) (None ∷ bs)) (λ f. total (λ b. one_if (uses_frame f b)) bs) n (λ i lt. omega arith) in
    omega arith
boxes_sum (Some h ∷ bs) n past =
    let rest = boxes_sum bs n (λ f le. let a = past f le in omega arith) in
    let plus = sum_plus (λ f. one_if (h.frame == f)) (λ f. total (λ b. one_if (uses_frame f b)) bs) n in
    elim (cases_lt h.frame n) [
      | inl lt ↦ let one = sum_hit h.frame n lt in omega arith
      | inr le ↦ let a = past h.frame le in let b : one_if (h.frame == h.frame) ≡ 1 = one_same h.frame in absurd (omega arith)
    ]

-- two lists of boxes that use the same frames, all below a bound, have as many boxes
pub boxes_same : (bs cs : List (Option Homed)) (n : ℕ) → ((f : ℕ) → count_by (uses_frame f) bs ≡ count_by (uses_frame f) cs) → ((f : ℕ) → n ≤ f → count_by (uses_frame f) cs ≡ 0)
    → count_by (λ (b : Option Homed). is_some b) bs ≡ count_by (λ (b : Option Homed). is_some b) cs
boxes_same bs cs n same past =
    let each : (f : ℕ) → total (λ b. one_if (uses_frame f b)) bs ≡ total (λ b. one_if (uses_frame f b)) cs = λ f. sym (count_total (uses_frame f) bs None) ∙ same f ∙ count_total (uses_frame f) cs None in
    let none_past : (f : ℕ) → n ≤ f → total (λ b. one_if (uses_frame f b)) cs ≡ 0 = λ f le. sym (count_total (uses_frame f) cs None) ∙ past f le in
    count_total (λ (b : Option Homed). is_some b) bs None ∙ boxes_sum bs n (λ f le. each f ∙ none_past f le)
    ∙ sum_same (λ f. total (λ b. one_if (uses_frame f b)) bs) (λ f. total (λ b. one_if (uses_frame f b)) cs) n (λ i lt. each i)
    ∙ sym (boxes_sum cs n none_past) ∙ sym (count_total (λ (b : Option Homed). is_some b) cs None)
