-- A table may be opened with the words and slots that a space's parts give.
use Rattle.std.proofs.Common.{◌≡◌, ℕ, ◌+◌, ◌-◌, ◌*◌, ◌/◌, ◌%◌, ◌<◌, ◌≤◌, ◌≢◌, ◌==◌, ◌&&◌, not, Bool, true, false, if◌then◌else◌, List, length, map, get_or, slice_index, Option, Some, None, count_by, nat_lt, inl, inr, refl, ap, sym, subst, ◌∙◌, arith}
use mathlib.Core.Option.{some}
use lib.ListN.{get_elem?}
use Rattle.std.proofs.lemmas.List.{length-map, get_or_past}
use Rattle.bc_bits.specs.Counting.{one_if}
use Rattle.bc_frames.specs.Pool.{is_free, free_count}
use Rattle.bc_superpages.specs.declared.headers.Header.{Header}
use Rattle.bc_superpages.specs.declared.headers.PageState.{PageState}
use Rattle.bc_superpages.specs.declared.headers.PageState.TheVariants as state
use Rattle.bc_superpages.specs.declared.spaces.Homed.{Homed}
use Rattle.bc_superpages.specs.declared.parts.SpaceParts.{SpaceParts}
use Rattle.bc_superpages.specs.Headers.{unused_header, is_resident, is_gone}
use Rattle.std.specs.Int.{bit_at}
use Rattle.std.proofs.lemmas.Bool.{cases_lt, eq-eqb, lt-ltb}
use Rattle.bc_word.specs.Addresses.{superpage_of, page_of, cell_number}
use Rattle.bc_word.specs.CellAddresses.{cell_address}
use Rattle.bc_superpages.specs.Calls.{class_at}
use Rattle.bc_superpages.specs.Paging.{is_bookmarked}
use Rattle.bc_superpages.specs.Collecting.{is_marked, is_finished}
use Rattle.bc_reach.specs.Reach.{begin}
use Rattle.bc_superpages.proofs.CellLemmas.{cell-bit, is_cell-bit, is_cell-start}
use Rattle.bc_superpages.proofs.TagLemmas.{taken-few}
use Rattle.bc_bookmarks.specs.Summarised.{gone_in}
use Rattle.bc_bookmarks.proofs.SummaryLemmas.{targets-taken}
use Rattle.bc_superpages.specs.Layout.{Layout, superpages, set_of, content_at}
use Rattle.bc_superpages.specs.LayoutAt.{state_at, header_of, IsAllocated, IsPromised}
use Rattle.bc_superpages.specs.Contents.{contents, content_of, uses_frame, LiesIn}
use Rattle.bc_superpages.specs.Kept.{IsLayout}
use Rattle.bc_superpages.specs.Parts.{state_in, AreParts, parts_layout}
use Rattle.bc_superpages.proofs.LayoutLemmas.{header_of-layout}
use Rattle.bc_superpages.proofs.KeptLemmas.{get_or-contents, IsLayout-kept}
use Rattle.bc_superpages.proofs.HandLemmas.{state-header, allocated-page}
use Rattle.bc_superpages.proofs.BringLemmas.{allocated-not_absent}
use Rattle.bc_pins.specs.declared.views.Lodged.{Lodged}
use Rattle.bc_pins.specs.declared.views.Lodged.TheVariants.{Nothing}
use Rattle.bc_pins.specs.Key.{Key, pages_of, bookmark_at, mark_at, finished_at, queue_at, page_at, home_slot, frame_slot, store_slot}
use Rattle.bc_pins.specs.Totals.{total, times}
use Rattle.bc_pins.specs.Views.{state_word, opened_state, opened_word, opened_content}
use Rattle.bc_pins.specs.Facts.{frame_of, frame_lodged, IsUnheld}
use Rattle.bc_pins.specs.Lodging.{home_of, away_of}
use Rattle.bc_pins.specs.Opening.{IsReady, IsOpenable, IsMarkable, AreLodged}
use Rattle.bc_pins.specs.Facts.{Frames, frame_bit, is_clear, bookmark_bit, opened_bit, cell_bit, HasBookmarkBit, Summary, points, adds_to, Counters, Bits}
use Rattle.bc_pins.specs.Tracing.{word_of, place_of, finished_bit, opened_finished, HasMarkBit, IsFinishedIn, Tracing}
use Rattle.bc_pins.specs.Owing.{IsGrayCell, Owing}
use Rattle.bc_pins.specs.Filling.{HasGrayBit, QueuesGray, header_in, IsFilled}
use Rattle.bc_pins.specs.Opening.{opened, OpensPage, MayOpen}
use Rattle.bc_pins.proofs.SumLemmas.{sum_slots, sum_same, sum_none, sum_cut, total_sum, count_total, times_count, total_map}
use Rattle.bc_pins.proofs.PartsLemmas.{content_fixed, slots_lie, slot_there, word_states, word_absent}
use Rattle.bc_pins.proofs.TracingLemmas.{cell_is, is_set, there_is}
use Rattle.bc_pins.proofs.TallyLemmas.{ge-nat_lt, GoneBy, tally, target_in, set_bit, bit_in, in_bit, bit_few, gone_word}

clear_flag : (b : Bool) → (one_if (not b) == 0) ≡ b
clear_flag true = refl
clear_flag false = refl

clash : false ≡ true → ⊥
clash e = cc

frame_home : (b : Option Homed) (f : ℕ) → frame_of (home_of b) f ≡ one_if (uses_frame f b)
frame_home None f = refl
frame_home (Some h) f = refl

frame_away : (c : Option (List ℕ)) (f : ℕ) → frame_of (away_of c) f ≡ 0
frame_away None f = refl
frame_away (Some c) f = refl

none_there : (b : Option Homed) (c : Option (List ℕ)) → LiesIn false b c → b ≡ None
none_there None c l = refl
none_there (Some h) c l = absurd l

pub no_box : (st : PageState) (b : Option Homed) (c : Option (List ℕ)) → st ≡ state.Absent → LiesIn (is_resident st) b c → b ≡ None
no_box st b c e l = none_there b c (subst (λ (x : PageState). LiesIn (is_resident x) b c) e l)

-- the frames that slots use are those that boxes use
pub frames_same : (bs : List (Option Homed)) (ps : List (Option (List ℕ))) (slots : List Lodged) (s n f : ℕ) → n ≡ 4 * s → n ≤ length bs
    → ((i : ℕ) → n ≤ i → i < length bs → get_or bs i None ≡ None) → length slots ≡ n + n
    → ((p : ℕ) → p < n → get_or slots (home_slot p) Nothing ≡ home_of (get_or bs p None)) → ((p : ℕ) → p < n → get_or slots (home_slot p + 4) Nothing ≡ away_of (get_or ps p None))
    → total (frame_lodged f) (map some slots) ≡ count_by (uses_frame f) bs
frames_same bs ps slots s n f four le past long homes aways =
    let g : ℕ → ℕ = λ i. frame_of (get_or slots i Nothing) f in
    let h : ℕ → ℕ = λ i. one_if (uses_frame f (get_or bs i None)) in
    let as_sum = total_map some (frame_lodged f) slots ∙ total_sum (λ x. frame_of x f) slots Nothing in
    let cut = sum_slots g s n (length slots) four (omega arith) in
    let front = sum_same (λ i. g (home_slot i)) h n (λ i lt. ap (λ (x : Lodged). frame_of x f) (homes i lt) ∙ frame_home (get_or bs i None) f) in
    let back = sum_none (λ i. g (home_slot i + 4)) n (λ i lt. ap (λ (x : Lodged). frame_of x f) (aways i lt) ∙ frame_away (get_or ps i None) f) in
    let boxes = count_total (uses_frame f) bs None ∙ total_sum (λ x. one_if (uses_frame f x)) bs None in
    let rest : ℕ = length bs - n in
    let cut_boxes = sum_cut h n rest (length bs) (omega arith) in
    let none_past = sum_none (λ i. h (n + i)) rest (λ i lt. ap (λ (b : Option Homed). one_if (uses_frame f b)) (past (n + i) (omega arith) (omega arith))) in
    omega arith

module _ (k : Key) (whole : SpaceParts) (kept : AreParts whole) (layout : parts_layout whole ≡ k.opening) (pool : whole.pool ≡ k.pool) (nursery : whole.nursery.items ≡ k.nursery) (frames : k.frames ≡ length k.pool)
    (within : pages_of k ≤ 4 * length whole.headers.items) (behind : (p : ℕ) → pages_of k ≤ p → state_in whole.headers.items p ≡ state.Absent) (ready : IsReady k.opening) (openable : IsOpenable k.opening)
    (apart : (r : ℕ) → times r k.roles ≤ 1) (nobody : times 0 k.roles ≡ 0) (unheld : IsUnheld k) (markable : k.lanes ≡ false → IsMarkable k.opening)
    (words : List ℕ) (filled : IsFilled k whole.headers.items words) (slots : List Lodged) (lodged : AreLodged whole (pages_of k) slots) where
  long_boxes : length whole.boxes.items ≡ 4 * length whole.headers.items
  long_boxes = kept.kept.boxes_long

  whole_layout : IsLayout k.opening
  whole_layout = subst IsLayout layout (IsLayout-kept whole.headers.items whole.boxes.items whole.pool whole.nursery.items whole.store.places _ _ _ _ kept.kept)

  supers_are : superpages k.opening ≡ length whole.headers.items
  supers_are = ap superpages (sym layout) ∙ length-map whole.headers.items (λ (h : Header). h.used)

  state_is : (p : ℕ) → p < pages_of k → state_at k.opening.states p ≡ state_in whole.headers.items p
  state_is p lt = ap (λ (s : Layout). state_at s.states p) (sym layout) ∙ state-header whole.headers.items p (omega arith)

  content_is : (p : ℕ) → p < pages_of k → opened_content k p ≡ content_of (get_or whole.boxes.items p None) (get_or whole.store.places p None)
  content_is p lt =
      let a = kept.kept.boxes_long in
      let b = kept.kept.places_long in
      ap (λ (s : Layout). content_at s.pages p) (sym layout) ∙ get_or-contents whole.boxes.items whole.store.places p (omega arith) (omega arith)

  lies_in : (p : ℕ) → p < length whole.boxes.items → LiesIn (is_resident (state_in whole.headers.items p)) (get_or whole.boxes.items p None) (get_or whole.store.places p None)
  lies_in = kept.kept.lies

  not_held : (p : ℕ) → p < pages_of k → state_in whole.headers.items p ≢ state.Held
  not_held p lt = (kept.kept.whole (p / 4) (omega arith)).not_held (p % 4)

  header_is : (q : ℕ) → q < length whole.headers.items → header_of k.opening q ≡ get_or whole.headers.items q unused_header
  header_is q lt = ap (λ (s : Layout). header_of s q) (sym layout) ∙ header_of-layout whole.headers.items (contents whole.boxes.items whole.store.places) (length whole.pool) (length whole.nursery.items) (free_count whole.pool) whole.store.reads q lt

  -- an allocated cell lies on one of the table's pages
  cell_near : (a : ℕ) → IsAllocated k.opening a → page_of a < pages_of k
  cell_near a there = elim (cases_lt (page_of a) (pages_of k)) [
    | inl near ↦ near
    | inr far ↦
        let many = supers_are in
        let lt = allocated-page k.opening a whole_layout there in
        let is : state_at k.opening.states (page_of a) ≡ state_in whole.headers.items (page_of a) = ap (λ (s : Layout). state_at s.states (page_of a)) (sym layout) ∙ state-header whole.headers.items (page_of a) (omega arith) in
        absurd (allocated-not_absent k.opening a whole_layout there (is ∙ behind (page_of a) far))
  ]

  gone_by : GoneBy k k.opening.pages (gone_in k.opening) (opened_content k) words (4 * superpages k.opening)
  gone_by = record {
    few = (let many = supers_are in omega arith);
    near = λ p lt. gone_word (opened_state k p) ∙ ap (λ (n : ℕ). n == 4) (sym (filled.states p lt ∙ sym (ap state_word (state_is p lt))));
    behind = λ p le lt.
        let many = supers_are in
        ap is_gone (ap (λ (s : Layout). state_at s.states p) (sym layout) ∙ state-header whole.headers.items p (omega arith) ∙ behind p le);
    contents = λ p lt. refl;
  }

  bookmark_word : (w : ℕ) → w < 16 * k.supers → slice_index words (bookmark_at k w) ≡ slice_index (set_of k.opening.bookmarks (w / 16)) (w % 16)
  bookmark_word w lt = filled.bookmarks w lt ∙ sym (ap (λ (h : Header). slice_index h.bookmarks (w % 16)) (header_is (w / 16) (omega arith)))

  no_promise : (a : ℕ) → IsPromised k.opening a → ⊥
  no_promise a there = clash (sym (openable.promised a) ∙ there)

  -- a bookmarked cell of the space is one of the table's
  marked_open : (a : ℕ) → is_bookmarked k.opening a ≡ true → IsAllocated k.opening a → HasBookmarkBit k words a
  marked_open a on there =
      let page = cell_near a there in
      let within : superpage_of a < k.supers = omega arith in
      let n : ℕ = cell_number (class_at k.opening a) a in
      let few = taken-few k.opening a whole_layout (inl there) in
      let w : ℕ = 16 * superpage_of a + n / 64 in
      let at : w / 16 ≡ superpage_of a = omega arith in
      let place : w % 16 ≡ n / 64 = omega arith in
      record {
        within = within;
        few = few;
        starts = is_cell-start k.opening.classes k.opening.bookmarks a on;
        bit = ap (λ (x : ℕ). bit_at x (n % 64)) (bookmark_word w (omega arith)
            ∙ ap (λ (q : ℕ). slice_index (set_of k.opening.bookmarks q) (w % 16)) at ∙ ap (slice_index (set_of k.opening.bookmarks (superpage_of a))) place)
            ∙ set_bit (set_of k.opening.bookmarks (superpage_of a)) n (is_cell-bit k.opening.classes k.opening.bookmarks a on);
      }

  gone_open : (p : ℕ) → p < pages_of k → opened_word k p ≡ 4 → Summary k words p (opened_content k p)
  gone_open p lt e =
      let many = supers_are in
      let gone : gone_in k.opening p ≡ true = gone_word (opened_state k p) ∙ eq-eqb (opened_word k p) 4 e in
      record {
        there = openable.summarised.there p (omega arith) gone;
        targets = λ a target.
            let on = openable.summarised.targets p a (omega arith) gone (sym (target_in k.opening k.opening.pages p a (opened_content k p) refl) ∙ target) in
            marked_open a on (elim (targets-taken k.opening (gone_in k.opening) p a whole_layout openable.summarised (omega arith) gone (sym (target_in k.opening k.opening.pages p a (opened_content k p) refl) ∙ target)).0 [ inl there ↦ there | inr promised ↦ absurd (no_promise a promised) ]);
      }

  counters_open : (q : ℕ) → q < k.supers → Counters k (opened k words slots) (opened_content k) q
  counters_open q lt =
      let many = supers_are in
      filled.counters q lt ∙ sym (ap (λ (h : Header). h.incoming) (header_is q (omega arith)))
      ∙ openable.summarised.incoming q (omega arith) ∙ tally k k.opening.pages (gone_in k.opening) (opened_content k) words (4 * superpages k.opening) gone_by q
      ∙ sum_same (λ p. if slice_index words (page_at p) == 4 then points k p (opened_content k p) q else 0) (adds_to k (opened k words slots) (opened_content k) q) (pages_of k) (λ p _. omega arith)

  cell_of_bit : (w b : ℕ) → w < 16 * k.supers → b < 64 → opened_bit k w b ≡ 1 → cell_bit k w b ≡ 1
  cell_of_bit w b lt few one =
      let many = supers_are in
      elim (openable.summarised.bits (w / 16) (64 * (w % 16) + b) (omega arith) (bit_in (set_of k.opening.bookmarks (w / 16)) (w % 16) b few one)) [
        | inl there ↦ in_bit (set_of k.opening.cells (w / 16)) (w % 16) b few there
        | inr promised ↦
            let q : ℕ = w / 16 in
            let header = whole_layout.each q (omega arith) in
            let used = header.promised_used (64 * (w % 16) + b) promised in
            absurd (no_promise (cell_address q (slice_index k.opening.classes q) (64 * (w % 16) + b))
            (cell-bit k.opening.classes k.opening.promised q (64 * (w % 16) + b) header.class used.1 ∙ promised))
      ]

  bits_open : (w b : ℕ) → w < 16 * k.supers → b < 64 → Bits k (opened k words slots) w b
  bits_open w b lt few =
      let same : bookmark_bit k words w b ≡ opened_bit k w b = ap (λ (x : ℕ). bit_at x b) (bookmark_word w lt) in
      let small = bit_few (slice_index (set_of k.opening.bookmarks (w / 16)) (w % 16)) b in
      record {
        kept = λ on. omega arith;
        only = λ on. omega arith;
        cell = λ on. let a = cell_of_bit w b lt few (omega arith) in omega arith;
      }

  opens_page : (p : ℕ) → p < pages_of k → OpensPage k words slots p
  opens_page p lt =
      let st = state_is p lt in
      let long = lodged.long in
      let boxes = long_boxes in
      let supers = supers_are in
      let held = not_held p lt in
      let lies = slots_lie (state_in whole.headers.items p) (get_or whole.boxes.items p None) (get_or whole.store.places p None) (get_elem? (map some slots) (frame_slot k p)) (get_elem? (map some slots) (store_slot k p)) held (lies_in p (omega arith))
      (slot_there slots (frame_slot k p) (omega arith) ∙ ap (λ (x : Lodged). some (some x)) (lodged.homes p lt))
      (slot_there slots (store_slot k p) (omega arith) ∙ ap (λ (x : Lodged). some (some x)) (lodged.aways p lt)) in
      record {
        word = filled.states p lt ∙ sym (ap state_word st);
        not_held = λ e. held (sym st ∙ word_states (state_at k.opening.states p) e);
        lies = rw (ap state_word st, content_is p lt) lies;
        fixed = content_fixed k.opening p whole_layout ready (omega arith);
        young = λ y. ap state_word (ready.young p y);
        gone = λ e. gone_open p lt e;
        bare = λ z a there on. allocated-not_absent k.opening a whole_layout there (ap (state_at k.opening.states) on ∙ word_absent (state_at k.opening.states p) z);
      }

  -- a frame's bit is clear where the frame is free
  clear_pool : (f : ℕ) → is_clear k words f ≡ is_free k.pool f
  clear_pool f = elim (cases_lt f k.frames) [
    | inl lt ↦
        ap (λ (b : Bool). b && (frame_bit k words f == 0)) (lt-ltb f k.frames lt) ∙ ap (λ (n : ℕ). n == 0) (filled.frames f (omega arith)) ∙ clear_flag (is_free k.pool f)
    | inr le ↦ ap (λ (b : Bool). b && (frame_bit k words f == 0)) (ge-nat_lt f k.frames le) ∙ sym (get_or_past k.pool f false (omega arith))
  ]

  frames_open : (f : ℕ) → Frames k (opened k words slots) f
  frames_open f =
      let account = kept.kept.account.each f in
      let same = frames_same whole.boxes.items whole.store.places slots k.supers (pages_of k) f refl (let a = long_boxes in omega arith)
      (λ i le lt. no_box (state_in whole.headers.items i) _ _ (behind i le) (lies_in i lt)) lodged.long lodged.homes lodged.aways in
      let young = times_count f whole.nursery.items in
      let nursery_same : times f whole.nursery.items ≡ times f k.nursery = ap (times f) nursery in
      let free_same : one_if (is_free whole.pool f) ≡ one_if (is_free k.pool f) = ap (λ (l : List Bool). one_if (is_free l f)) pool in
      let all_same : one_if (nat_lt f (length whole.pool)) ≡ one_if (nat_lt f k.frames) = ap (λ (n : ℕ). one_if (nat_lt f n)) (ap length pool ∙ sym frames) in
      let clear : one_if (is_clear k words f) ≡ one_if (is_free k.pool f) = ap one_if (clear_pool f) in
      record { used = omega arith; past = λ le lt. filled.frames f lt ∙ ap (λ (b : Bool). one_if (not b)) (get_or_past k.pool f false (omega arith)) }

  mark_word : (w : ℕ) → k.lanes ≡ false → w < 16 * k.supers → slice_index words (mark_at k w) ≡ slice_index (set_of k.opening.marks (w / 16)) (w % 16)
  mark_word w turn lt = filled.marks w turn lt ∙ sym (ap (λ (h : Header). slice_index h.marks (w % 16)) (header_is (w / 16) (omega arith)))

  finished_word : (w : ℕ) → k.lanes ≡ false → w < 16 * k.supers → slice_index words (finished_at k w) ≡ slice_index (set_of k.opening.finished (w / 16)) (w % 16)
  finished_word w turn lt = filled.finished w turn lt ∙ sym (ap (λ (h : Header). slice_index h.finished (w % 16)) (header_is (w / 16) (omega arith)))

  -- a cell that is marked in the table is marked in the space, and back
  marked_then : k.lanes ≡ false → (a : ℕ) → HasMarkBit k words a → is_marked k.opening a ≡ true
  marked_then turn a is = cell_is k k.opening.marks a is.few is.starts
      (sym (ap (λ (n : ℕ). bit_at n (place_of k a)) (mark_word (word_of k a) turn (let lt = is.within in let few = is.few in omega arith))) ∙ is.bit)

  marked_now : k.lanes ≡ false → (a : ℕ) → IsAllocated k.opening a → is_marked k.opening a ≡ true → HasMarkBit k words a
  marked_now turn a there on =
      let page = cell_near a there in
      let few = taken-few k.opening a whole_layout (inl there) in
      let within : superpage_of a < k.supers = omega arith in
      record {
        within = within;
        few = few;
        starts = is_cell-start k.opening.classes k.opening.marks a on;
        bit = ap (λ (n : ℕ). bit_at n (place_of k a)) (mark_word (word_of k a) turn (omega arith)) ∙ is_set k k.opening.marks a few on;
      }

  finished_then : k.lanes ≡ false → (a : ℕ) → a % class_at k.opening a ≡ 0 → IsFinishedIn k words a → is_finished k.opening a ≡ true
  finished_then turn a starts is = cell_is k k.opening.finished a is.few starts
      (sym (ap (λ (n : ℕ). bit_at n (place_of k a)) (finished_word (word_of k a) turn (let lt = is.within in let few = is.few in omega arith))) ∙ is.bit)

  tracing_open : k.lanes ≡ false → Tracing k (opened k words slots)
  tracing_open turn = record {
    won = λ w b lt few. ap (λ (n : ℕ). bit_at n b) (mark_word w turn lt) ∙ (omega arith);
    cell = λ a is. (markable turn).cells a (marked_then turn a is);
    due = λ a is. begin a (inl (marked_then turn a is));
    ended = λ w b lt few on. let a : finished_bit k words w b ≡ opened_finished k w b = ap (λ (n : ℕ). bit_at n b) (finished_word w turn lt) in omega arith;
    stays = λ w b lt few on.
        let a : finished_bit k words w b ≡ opened_finished k w b = ap (λ (n : ℕ). bit_at n b) (finished_word w turn lt) in
        let c = bit_few (slice_index words (finished_at k w)) b in
        omega arith;
    closed = λ a b is l. marked_now turn b l.there ((markable turn).closed a b (finished_then turn a (is_cell-start k.opening.classes k.opening.cells a (there_is k.opening a l.object l.is)) is) l);
    gone = λ a b went l. absurd (went.2 (sym (opens_page (page_of a) went.0).word ∙ went.1));
  }

  cell_word : (w : ℕ) → w < 16 * k.supers → slice_index (header_in whole.headers.items (w / 16)).cells (w % 16) ≡ slice_index (set_of k.opening.cells (w / 16)) (w % 16)
  cell_word w lt = sym (ap (λ (h : Header). slice_index h.cells (w % 16)) (header_is (w / 16) (omega arith)))

  -- where a cell is gray its superpage's header says so, and so all pages of it are queued
  gray_word : k.lanes ≡ false → (a : ℕ) → IsGrayCell k (opened k words slots) a → HasGrayBit (header_in whole.headers.items (word_of k a / 16))
  gray_word turn a gray =
      let within = gray.marked.within in
      let few = gray.marked.few in
      let near : word_of k a < 16 * k.supers = omega arith in
      let b : ℕ = place_of k a in
      let there = (markable turn).cells a (marked_then turn a gray.marked) in
      record {
        word = word_of k a % 16;
        bit = b;
        near = omega arith;
        few = omega arith;
        allocated = ap (λ (n : ℕ). bit_at n b) (cell_word (word_of k a) near) ∙ is_set k k.opening.cells a few there;
        marked = ap (λ (n : ℕ). bit_at n b) (sym (filled.marks (word_of k a) turn near)) ∙ gray.marked.bit;
        unfinished = ap (λ (n : ℕ). bit_at n b) (sym (filled.finished (word_of k a) turn near)) ∙ gray.unfinished;
      }

  owing_open : k.lanes ≡ false → Owing k (opened k words slots)
  owing_open turn a gray resident =
      let within = gray.marked.within in
      let few = gray.marked.few in
      let here : word_of k a / 16 ≡ page_of a / 4 = omega arith in
      let queues = subst (λ (q : ℕ). QueuesGray (header_in whole.headers.items q) (slice_index words (queue_at k q))) here (filled.queues (word_of k a / 16) turn (omega arith)) in
      let set = queues (subst (λ (q : ℕ). HasGrayBit (header_in whole.headers.items q)) here (gray_word turn a gray)) (page_of a % 4) (omega arith) in
      omega arith

  pub may_open : MayOpen k words slots
  may_open = record {
    words_long = filled.long;
    slots_long = lodged.long;
    few = (let a = kept.kept.few in omega arith);
    pages = opens_page;
    apart = apart;
    nobody = nobody;
    unheld = unheld;
    frames = frames_open;
    counters = counters_open;
    bits = bits_open;
    notice = filled.notice;
    tracing = tracing_open;
    owing = owing_open;
  }
