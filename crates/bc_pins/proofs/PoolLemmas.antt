-- Which frames of the pool are free once a table's words were put into it, and the account of frames after it.
use Rattle.std.proofs.Common.{◌≡◌, ℕ, ◌+◌, ◌/◌, ◌%◌, ◌<◌, ◌≤◌, ◌*◌, ◌≢◌, ◌==◌, min, Bool, false, List, length, get_or, Option, None, is_some, count_by, nat_lt, inl, inr, refl, ap, sym, ◌∙◌, arith}
use Prim.Native.Nat.{zero, suc}
use Rattle.std.specs.Int.{bit_at}
use Rattle.std.proofs.lemmas.Bool.{cases_eq, lt-ltb}
use Rattle.std.proofs.lemmas.List.{get_or_past}
use Rattle.bc_bits.specs.Counting.{one_if}
use Rattle.bc_frames.specs.Pool.{is_free, free_count}
use Rattle.bc_superpages.specs.declared.spaces.Homed.{Homed}
use Rattle.bc_superpages.specs.Contents.{uses_frame, IsAccount}
use Rattle.bc_pins.specs.Totals.{total, sum_to}
use Rattle.bc_pins.specs.Closing.{PoolSet}
use Rattle.bc_pins.proofs.SumLemmas.{sum_same, count_total, total_sum}
use Rattle.bc_pins.proofs.BoxLemmas.{sum_plus, boxes_sum}
use Rattle.bc_pins.proofs.TallyLemmas.{ge-nat_lt}

pub pool_none : (o : List Bool) (start : ℕ) (ws : List ℕ) → PoolSet o o 0 start ws
pool_none o start ws = record { long = refl; near = λ f lt. absurd (omega arith); far = λ f _. refl }

-- the frames of one word more are known
pub pool_more : (o n m : List Bool) (w start bits : ℕ) (ws : List ℕ) → PoolSet o n (min (64 * w) (length o)) start ws → length m ≡ length n
    → ((f : ℕ) → f / 64 ≡ w → f < length n → is_free m f ≡ (bit_at bits (f % 64) == 0)) → ((f : ℕ) → f / 64 ≢ w → is_free m f ≡ is_free n f) → bits ≡ get_or ws (start + w) 0 → PoolSet o m (min (64 * (w + 1)) (length o)) start ws
pool_more o n m w start bits ws s long here others is =
    let size = s.long in
    record {
      long = long ∙ size;
      near = λ f lt. elim (cases_eq (f / 64) w) [
        | inl e ↦
            here f e (omega arith) ∙ ap (λ (x : ℕ). bit_at x (f % 64) == 0) (is ∙ ap (λ (i : ℕ). get_or ws (start + i) 0) (sym e))
        | inr ne ↦ others f ne ∙ s.near f (omega arith)
      ];
      far = λ f le. elim (cases_eq (f / 64) w) [
        | inl e ↦ let out : length o ≤ f = omega arith in get_or_past m f false (omega arith) ∙ sym (get_or_past o f false out)
        | inr ne ↦ others f ne ∙ s.far f (omega arith)
      ];
    }

ones : (g : ℕ → ℕ) (n : ℕ) → ((i : ℕ) → i < n → g i ≡ 1) → sum_to g n ≡ n
ones g zero each = refl
ones g (suc n) each = let a = ones g n (λ i lt. each i (omega arith)) in let b = each n (omega arith) in omega arith

count_boxes : (xs : List (Option Homed)) (n : ℕ) → ((f : ℕ) → n ≤ f → count_by (uses_frame f) xs ≡ 0) → count_by (λ (b : Option Homed). is_some b) xs ≡ sum_to (λ f. count_by (uses_frame f) xs) n
count_boxes xs n past =
    count_total (λ (b : Option Homed). is_some b) xs None ∙ boxes_sum xs n (λ f le. sym (count_total (uses_frame f) xs None) ∙ past f le)
    ∙ sum_same (λ f. total (λ b. one_if (uses_frame f b)) xs) (λ f. count_by (uses_frame f) xs) n (λ i lt. sym (count_total (uses_frame i) xs None))

free_sum : (q : List Bool) (n : ℕ) → length q ≡ n → free_count q ≡ sum_to (λ f. one_if (is_free q f)) n
free_sum q n e = count_total (λ (x : Bool). x) q false ∙ total_sum (λ (x : Bool). one_if x) q false ∙ ap (sum_to (λ f. one_if (is_free q f))) e

-- frames that are each in one place are as many as there are
all_placed : (xs : List (Option Homed)) (nursery : List ℕ) (q : List Bool) → ((f : ℕ) → count_by (uses_frame f) xs + count_by (λ g. g == f) nursery + one_if (is_free q f) ≡ one_if (nat_lt f (length q)))
    → count_by (λ (b : Option Homed). is_some b) xs + sum_to (λ f. count_by (λ g. g == f) nursery) (length q) + free_count q ≡ length q
all_placed xs nursery q each =
    let n : ℕ = length q in
    let boxes = count_boxes xs n (λ f le. let a = each f in let b : one_if (nat_lt f n) ≡ 0 = ap one_if (ge-nat_lt f n le) in omega arith) in
    let free = free_sum q n refl in
    let one = ones (λ f. count_by (uses_frame f) xs + count_by (λ g. g == f) nursery + one_if (is_free q f)) n (λ f lt. each f ∙ ap one_if (lt-ltb f n lt)) in
    let two = sum_plus (λ f. count_by (uses_frame f) xs + count_by (λ g. g == f) nursery) (λ f. one_if (is_free q f)) n in
    let three = sum_plus (λ f. count_by (uses_frame f) xs) (λ f. count_by (λ g. g == f) nursery) n in
    omega arith

-- also where boxes and pool are others than they were
pub account_all : (bs cs : List (Option Homed)) (nursery : List ℕ) (p q : List Bool) → length q ≡ length p → IsAccount cs nursery p
    → ((f : ℕ) → count_by (uses_frame f) bs + count_by (λ g. g == f) nursery + one_if (is_free q f) ≡ one_if (nat_lt f (length q)))
    → count_by (λ (b : Option Homed). is_some b) bs + length nursery + free_count q ≡ length q
account_all bs cs nursery p q long old each =
    let was = all_placed cs nursery p old.each in
    let now = all_placed bs nursery q each in
    let all = old.all in
    let same : sum_to (λ f. count_by (λ g. g == f) nursery) (length q) ≡ sum_to (λ f. count_by (λ g. g == f) nursery) (length p) = ap (sum_to (λ f. count_by (λ g. g == f) nursery)) long in
    omega arith
