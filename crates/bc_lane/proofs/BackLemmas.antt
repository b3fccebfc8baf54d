-- A space with every page back is summarised, since no page is Gone; and a whole heap with every page back is one on which lanes can
-- run, and stands for the same.
use Rattle.std.proofs.Common.{◌≡◌, ◌≢◌, ℕ, ◌+◌, ◌*◌, ◌/◌, ◌%◌, ◌&&◌, Bool, true, false, List, [], ◌∷◌, length, map, get_or, refl, ap, sym, ◌∙◌, arith}
use Prim.Native.Nat.{zero, suc}
use Rattle.std.proofs.lemmas.List.{length-map}
use Rattle.bc_bits.specs.Counting.{count_below, one_if}
use Rattle.bc_superpages.specs.declared.headers.PageState.{PageState}
use Rattle.bc_superpages.specs.declared.headers.PageState.TheVariants.{Absent, Home, Remembered, Held, Gone}
use Rattle.bc_superpages.specs.Calls.{resident_count}
use Rattle.bc_superpages.specs.Headers.{is_gone, is_resident}
use Rattle.bc_superpages.specs.Layout.{Layout, superpages}
use Rattle.bc_superpages.specs.LayoutAt.{header_of, states_of, state_at}
use Rattle.bc_superpages.specs.Memory.{memory}
use Rattle.bc_superpages.specs.Kept.{IsLayout}
use Rattle.bc_classes.specs.Classes.{cells_a_page}
use Rattle.bc_bookmarks.specs.Targets.{has_target_in}
use Rattle.bc_bookmarks.specs.Summarised.{IsSummarised, gone_in}
use Rattle.bc_bookmarks.specs.Moves.{MovesPages}
use Rattle.bc_lane.specs.Back.{back_state, no_count, all_back, heap_back}
use Rattle.bc_model.specs.State.{State}
use Rattle.bc_model.specs.declared.values.Holder.{Holder}
use Rattle.bc_mutator.specs.Objects.{MayOperate}
use Rattle.bc_whole_heap.specs.Heaps.{HeapView}
use Rattle.bc_whole_heap.specs.LaneStates.{StandsAs}
use Rattle.bc_whole_heap.specs.Running.{IsRunning}
use Rattle.bc_whole_heap.proofs.MovingLemmas.{running-moved, stands-moved}

state-in : (xs : List PageState) (k : ℕ) → get_or (map back_state xs) k Absent ≡ back_state (get_or xs k Absent)
state-in [] k = refl
state-in (x ∷ xs) zero = refl
state-in (x ∷ xs) (suc k) = state-in xs k

states-in : (xs : List (List PageState)) (k : ℕ) → get_or (map (map back_state) xs) k [] ≡ map back_state (get_or xs k [])
states-in [] k = refl
states-in (x ∷ xs) zero = refl
states-in (x ∷ xs) (suc k) = states-in xs k

none-in : (xs : List ℕ) (k : ℕ) → get_or (map no_count xs) k 0 ≡ 0
none-in [] k = refl
none-in (x ∷ xs) zero = refl
none-in (x ∷ xs) (suc k) = none-in xs k

pub back-state : (s : Layout) (p : ℕ) → state_at (all_back s).states p ≡ back_state (state_at s.states p)
back-state s p = ap (λ (xs : List PageState). get_or xs (p % 4) Absent) (states-in s.states (p / 4)) ∙ state-in (states_of s.states (p / 4)) (p % 4)

gone-none : (x : PageState) → is_gone (back_state x) ≡ false
gone-none Absent = refl
gone-none Home = refl
gone-none Remembered = refl
gone-none Held = refl
gone-none Gone = refl

pub back-gone : (s : Layout) (p : ℕ) → gone_in (all_back s) p ≡ false
back-gone s p = ap is_gone (back-state s p) ∙ gone-none (state_at s.states p)

pub remembered-to : (x : PageState) → back_state x ≡ Remembered → x ≡ Remembered
remembered-to Absent e = absurd (cc)
remembered-to Home e = absurd (cc)
remembered-to Remembered e = refl
remembered-to Held e = absurd (cc)
remembered-to Gone e = absurd (cc)

held-back : (x : PageState) → x ≢ Held → back_state x ≢ Held
held-back Absent is = λ e. cc
held-back Home is = λ e. cc
held-back Remembered is = λ e. cc
held-back Held is = is
held-back Gone is = λ e. cc

absent-back : (x : PageState) → x ≢ Absent → back_state x ≢ Absent
absent-back Absent is = is
absent-back Home is = λ e. cc
absent-back Remembered is = λ e. cc
absent-back Held is = λ e. cc
absent-back Gone is = λ e. cc

count-none : (f : ℕ → Bool) (n : ℕ) → ((p : ℕ) → f p ≡ false) → count_below f n ≡ 0
unfolding count_below
count-none f zero off = refl
count-none f (suc n) off = let a = count-none f n off in let b : one_if (f n) ≡ 0 = ap one_if (off n) in omega arith

and-off : (a b : Bool) → a ≡ false → (a && b) ≡ false
and-off a b off = ap (λ (x : Bool). x && b) off

clash : true ≡ false → ⊥
clash e = cc

pub back-summarised : (s : Layout) → IsSummarised s → IsSummarised (all_back s)
back-summarised s old = record {
  bits = old.bits;
  there = λ p lt gone. absurd (clash (sym gone ∙ back-gone s p));
  targets = λ p a lt gone. absurd (clash (sym gone ∙ back-gone s p));
  incoming = λ q lt. none-in s.incoming q ∙ sym (count-none (λ p. gone_in (all_back s) p && has_target_in (memory (all_back s)) p q) (4 * superpages s) (λ p. and-off (gone_in (all_back s) p) (has_target_in (memory (all_back s)) p q) (back-gone s p)));
}

pub back-moves : (s : Layout) → IsSummarised s → MovesPages s (all_back s)
back-moves s old = record {
  same = refl;
  remembered = λ p. (λ e. remembered-to (state_at s.states p) (sym (back-state s p) ∙ e), λ e. back-state s p ∙ ap back_state e);
  summarised = back-summarised s old;
}

pub back-layout : (s : Layout) → IsLayout s → IsLayout (all_back s)
back-layout s l =
    let long = l.long in
    record {
      few = l.few;
      long = record { domains = long.domains; classes = long.classes; cells = long.cells; promised = long.promised; marks = long.marks; finished = long.finished; bookmarks = long.bookmarks; incoming = length-map s.incoming no_count ∙ long.incoming; states = length-map s.states (map back_state) ∙ long.states };
      pages_long = l.pages_long;
      each_page = l.each_page;
      each = λ q lt.
          let old = l.each q lt in
          let tags = old.tags in
          record {
            class = old.class;
            domain = old.domain;
            sets_long = old.sets_long;
            sets_fit = old.sets_fit;
            tags = record { marks = tags.marks; finished = tags.finished; bookmarks = tags.bookmarks; incoming = (let z = none-in s.incoming q in omega arith) };
            states_long = ap length (states-in s.states q) ∙ length-map (states_of s.states q) back_state ∙ old.states_long;
            cells_used = old.cells_used;
            promised_used = old.promised_used;
            apart = old.apart;
            not_held = λ k e. held-back (get_or (states_of s.states q) k Absent) (old.not_held k) (sym (ap (λ (xs : List PageState). get_or xs k Absent) (states-in s.states q) ∙ state-in (states_of s.states q) k) ∙ e);
            not_absent = λ b on e. absent-back (get_or (states_of s.states q) (b / cells_a_page (header_of s q).class) Absent) (old.not_absent b on)
                (sym (ap (λ (xs : List PageState). get_or xs (b / cells_a_page (header_of s q).class) Absent) (states-in s.states q) ∙ state-in (states_of s.states q) (b / cells_a_page (header_of s q).class)) ∙ e);
            objects = old.objects;
          };
    }

-- how many pages are resident with every page back: those that were, and those that were Gone
resident-back : (x : PageState) → one_if (is_resident (back_state x)) ≡ one_if (is_resident x) + one_if (is_gone x)
resident-back Absent = refl
resident-back Home = refl
resident-back Remembered = refl
resident-back Held = refl
resident-back Gone = refl

count-back : (s : Layout) (n : ℕ) → count_below (λ p. is_resident (state_at (all_back s).states p)) n ≡ count_below (λ p. is_resident (state_at s.states p)) n + count_below (gone_in s) n
unfolding count_below
count-back s zero = refl
count-back s (suc n) =
    let rest = count-back s n in
    let here : one_if (is_resident (state_at (all_back s).states n)) ≡ one_if (is_resident (state_at s.states n)) + one_if (gone_in s n) = ap (λ (x : PageState). one_if (is_resident x)) (back-state s n) ∙ resident-back (state_at s.states n) in
    omega arith

-- so its account has a frame too few for each page that was Gone
pub back-account : (s : Layout) → s.free + (s.nursery + resident_count s) ≡ s.frames → s.free + (s.nursery + resident_count (all_back s)) ≡ s.frames + count_below (gone_in s) (4 * superpages s)
back-account s is = let more = count-back s (4 * superpages s) in omega arith

-- lanes can run on a heap with every page back
pub back-running : (h : HeapView) (hs : List Holder) → IsRunning h hs → IsRunning (heap_back h) hs
back-running h hs run = running-moved h (all_back h.space) hs (back-moves h.space run.summarised) run

-- it stands for the same
pub back-stands : (h : HeapView) (hs : List Holder) (serials : List ℕ) (state : State) → IsRunning h hs → StandsAs h hs serials state → StandsAs (heap_back h) hs serials state
back-stands h hs serials state run stands = stands-moved h (all_back h.space) hs serials state (back-moves h.space run.summarised) stands

-- and a lane may operate on it
pub back-operate : (h : HeapView) (hs : List Holder) (lane : ℕ) → MayOperate h hs lane → MayOperate (heap_back h) hs lane
back-operate h hs lane ready = record {
  running = back-running h hs ready.running;
  layout = back-layout h.space ready.layout;
  few_domains = ready.few_domains;
  lane_within = ready.lane_within;
  whole = ready.whole;
  apart = ready.apart;
  behind = ready.behind;
}
