-- The space that a closed table's words and boxes make.
use Rattle.std.proofs.Common.{◌≡◌, ℕ, ◌+◌, ◌*◌, ◌/◌, ◌%◌, ◌<◌, ◌≤◌, ◌==◌, ◌&&◌, if◌then◌else◌, Bool, true, false, List, [], ◌∷◌, length, map, get_or, slice_index, Option, None, count_by, nat_lt, inl, inr, refl, ap, sym, subst, ◌∙◌, arith}
use Prim.Native.Nat.{suc}
use mathlib.Core.Option.{some}
use Rattle.std.proofs.lemmas.Bool.{cases_lt}
use Rattle.std.proofs.lemmas.List.{length-map, get_or_past}
use Rattle.bc_bits.specs.Counting.{one_if}
use Rattle.bc_frames.specs.Pool.{is_free}
use Rattle.bc_word.specs.WordBits.{IsPacked}
use Rattle.bc_word.specs.Addresses.{page_of, offset_of}
use Rattle.bc_superpages.specs.declared.headers.Header.{Header}
use Rattle.bc_superpages.specs.declared.headers.PageState.{PageState}
use Rattle.bc_superpages.specs.declared.spaces.Homed.{Homed}
use Rattle.bc_superpages.specs.declared.parts.SpaceParts.{SpaceParts}
use Rattle.bc_superpages.specs.Headers.{unused_header, is_resident}
use Rattle.bc_superpages.specs.Layout.{Layout, superpages, content_at, is_cell}
use Rattle.bc_superpages.specs.LayoutAt.{word_at, state_at, IsAllocated, header_of}
use Rattle.bc_superpages.specs.Contents.{contents, content_of, uses_frame, LiesIn, IsAccount}
use Rattle.bc_superpages.specs.Calls.{fields_at}
use Rattle.bc_superpages.specs.Kept.{IsLayout, IsKept}
use Rattle.bc_superpages.specs.Parts.{state_in, parts_layout}
use Rattle.bc_superpages.proofs.LayoutLemmas.{header_of-layout}
use Rattle.bc_superpages.proofs.KeptLemmas.{get_or-contents, IsLayout-kept}
use Rattle.bc_superpages.proofs.HandLemmas.{state-header}
use Rattle.bc_superpages.proofs.BringLemmas.{allocated-not_absent}
use Rattle.bc_pins.specs.declared.views.Lodged.{Lodged}
use Rattle.bc_pins.specs.declared.views.Lodged.TheVariants.{Nothing}
use Rattle.bc_pins.specs.Key.{Key, pages_of, page_at, home_slot}
use Rattle.bc_pins.specs.Totals.{total, times}
use Rattle.bc_pins.specs.Views.{state_word, opened_word}
use Rattle.bc_pins.specs.Facts.{Lies, frame_lodged}
use Rattle.bc_bits.specs.Bits.{has}
use Rattle.bc_classes.specs.Classes.{cap, cells_a_page}
use Rattle.bc_classes.specs.ClassNumbers.{IsClass}
use Rattle.bc_frames.specs.Pool.{free_count}
use Rattle.bc_word.specs.CellAddresses.{cell_address}
use Rattle.bc_word.proofs.AddressLemmas.{page_of-cell_address, cell_page-within}
use Rattle.bc_superpages.specs.LayoutAt.{layout_of}
use Rattle.bc_superpages.specs.Kept.{IsObject, IsCellSet, IsSuperpage}
use Rattle.bc_pins.specs.Facts.{points}
use Rattle.bc_superpages.specs.Parts.{EndsAt}
use Rattle.bc_superpages.proofs.CellLemmas.{cell-bit}
use Rattle.bc_superpages.proofs.KeptLemmas.{length-contents}
use Rattle.bc_superpages.proofs.FieldLemmas.{field-offset}
use Rattle.bc_superpages.proofs.HandLemmas.{field-page, allocated-page}
use Rattle.bc_superpages.specs.declared.headers.PageState.TheVariants.{Absent, Held}
use Rattle.bc_word.specs.Heads.{fields_of_bits}
use Rattle.bc_pins.specs.declared.views.View.{View}
use Rattle.bc_pins.specs.Views.{frame_in_hand, record_of}
use Rattle.bc_pins.specs.Lodging.{Replaced, box_of, place_of}
use Rattle.bc_pins.specs.Opening.{HasClosed, IsRest}
use Rattle.bc_pins.specs.Closing.{HeadersSet, PoolSet}
use Rattle.std.specs.Int.{bit_at}
use Rattle.std.proofs.lemmas.Bool.{lt-ltb}
use Rattle.bc_pins.specs.Key.{frame_at}
use Rattle.bc_pins.specs.Facts.{frame_bit, is_clear}
use Rattle.bc_pins.proofs.TallyLemmas.{ge-nat_lt}
use Rattle.bc_pins.proofs.PoolLemmas.{account_all}
use Rattle.bc_pins.proofs.TotalLemmas.{one_is}
use Rattle.bc_pins.proofs.SumLemmas.{times_count, sum_few}
use Rattle.bc_pins.proofs.TotalLemmas.{one_few}
use Rattle.bc_pins.proofs.BoxLemmas.{BoxLies, box_lies, no_frame, frames_back}
use Rattle.bc_pins.proofs.PartsLemmas.{slot_there, word_absent}
use Rattle.bc_pins.proofs.MayOpenLemmas.{no_box}

point_few : (b c : Bool) → (if b then one_if c else 0) ≤ 1
point_few true c = one_few c
point_few false c = omega arith

absent_held : Absent ≡ Held → ⊥
absent_held e = cc

-- a part of the headers that stays
both_same : {X : Type 0} (a b : X) (l m : List X) → a ≡ b → l ≡ m → a ∷ l ≡ b ∷ m
both_same a b l m e f = cc

pub part_same : {X : Type 0} (g : Header → X) (hs ks : List Header) → length ks ≡ length hs → ((q : ℕ) → g (get_or ks q unused_header) ≡ g (get_or hs q unused_header)) → map g ks ≡ map g hs
part_same g [] [] size each = refl
part_same g [] (k ∷ ks) size each = absurd (omega arith)
part_same g (h ∷ hs) [] size each = absurd (omega arith)
part_same g (h ∷ hs) (k ∷ ks) size each = both_same (g k) (g h) (map g ks) (map g hs) (each 0) (part_same g hs ks (omega arith) (λ q. each (suc q)))

module _ (k : Key) (whole parts : SpaceParts) (rest : IsRest whole parts (pages_of k)) (layout : parts_layout whole ≡ k.opening) (pool : whole.pool ≡ k.pool) (nursery : whole.nursery.items ≡ k.nursery) (frames : k.frames ≡ length k.pool)
    (v : View) (nothing : v.hand ≡ None) (no_right : v.rights ≡ []) (words : List ℕ) (slots : List Lodged) (closed : HasClosed k v words slots)
    (headers : List Header) (set_states : HeadersSet k whole.headers.items headers words)
    (boxes : List (Option Homed)) (box : Replaced None parts.boxes.items boxes (pages_of k) (λ p. box_of (get_or slots (home_slot p) Nothing)))
    (places : List (Option (List ℕ))) (place : Replaced None parts.store.places places (pages_of k) (λ p. place_of (get_or slots (home_slot p + 4) Nothing)))
    (now : List Bool) (pool_set : PoolSet whole.pool now (length whole.pool) (frame_at k 0) words) where
  abbrev n : ℕ
  n = pages_of k

  kept : IsKept whole.headers.items whole.boxes.items whole.pool whole.nursery.items whole.store.places
  kept = rest.kept.kept

  whole_layout : IsLayout k.opening
  whole_layout = subst IsLayout layout (IsLayout-kept whole.headers.items whole.boxes.items whole.pool whole.nursery.items whole.store.places (length whole.pool) (length whole.nursery.items) (free_count whole.pool) whole.store.reads kept)

  boxes_long : length boxes ≡ 4 * length headers
  boxes_long = let a = box.long in let b = rest.emptied.boxes.long in let c = kept.boxes_long in let d = set_states.long in omega arith

  places_long : length places ≡ 4 * length headers
  places_long = let a = place.long in let b = rest.emptied.places.long in let c = kept.places_long in let d = set_states.long in omega arith

  inside : n ≤ length boxes
  inside = let a = boxes_long in let b = rest.within in let c = set_states.long in omega arith

  slot_lies : (p : ℕ) → p < n → Lies (get_or words (page_at p) 0) (some (some (get_or slots (home_slot p) Nothing))) (some (some (get_or slots (home_slot p + 4) Nothing))) (record_of v p)
  slot_lies p lt =
      let size = closed.slots_long in
      rw (← slot_there slots (home_slot p) (omega arith), ← slot_there slots (home_slot p + 4) (omega arith)) ((closed.pages p lt).lies)

  state_lies : (p : ℕ) → p < n → BoxLies (state_in headers p) (get_or boxes p None) (get_or places p None) (record_of v p)
  state_lies p lt =
      let page = closed.pages p lt in
      let word = set_states.near p lt in
      rw (box.near p lt, place.near p lt)
      (box_lies (state_in headers p) (get_or slots (home_slot p) Nothing) (get_or slots (home_slot p + 4) Nothing) (record_of v p) (λ e. page.not_held (sym word ∙ e)) page.fixed.long
      (subst (λ (w : ℕ). Lies w (some (some (get_or slots (home_slot p) Nothing))) (some (some (get_or slots (home_slot p + 4) Nothing))) (record_of v p)) (sym word) (slot_lies p lt)))

  far_box : (p : ℕ) → n ≤ p → get_or boxes p None ≡ get_or whole.boxes.items p None
  far_box p le = box.far p le ∙ rest.emptied.boxes.far p le

  far_place : (p : ℕ) → n ≤ p → get_or places p None ≡ get_or whole.store.places p None
  far_place p le = place.far p le ∙ rest.emptied.places.far p le

  lies : (p : ℕ) → p < length boxes → LiesIn (is_resident (state_in headers p)) (get_or boxes p None) (get_or places p None)
  lies p lt = elim (cases_lt p n) [
    | inl near ↦ (state_lies p near).lies
    | inr far ↦
        let a = boxes_long in
        let b = kept.boxes_long in
        let c = set_states.long in
        rw (set_states.far p far, far_box p far, far_place p far) (kept.lies p (omega arith))
  ]

  pub content_near : (p : ℕ) → p < n → content_at (contents boxes places) p ≡ record_of v p
  content_near p lt =
      let a = boxes_long in
      let b = places_long in
      let c = inside in
      get_or-contents boxes places p (omega arith) (omega arith) ∙ (state_lies p lt).content

  pub content_far : (p : ℕ) → n ≤ p → p < length boxes → content_at (contents boxes places) p ≡ content_at k.opening.pages p
  content_far p le lt =
      let a = boxes_long in
      let b = places_long in
      let c = kept.boxes_long in
      let d = kept.places_long in
      let e = set_states.long in
      get_or-contents boxes places p (omega arith) lt
      ∙ ap (λ (x : Option Homed). content_of x (get_or places p None)) (far_box p le) ∙ ap (content_of (get_or whole.boxes.items p None)) (far_place p le)
      ∙ sym (get_or-contents whole.boxes.items whole.store.places p (omega arith) (omega arith)) ∙ ap (λ (s : Layout). content_at s.pages p) layout

  none_past : (p : ℕ) → n ≤ p → p < length boxes → get_or boxes p None ≡ None
  none_past p le lt =
      let a = boxes_long in
      let b = kept.boxes_long in
      let c = set_states.long in
      far_box p le ∙ no_box (state_in whole.headers.items p) (get_or whole.boxes.items p None) (get_or whole.store.places p None) (rest.behind p le) (kept.lies p (omega arith))

  count_is : (f : ℕ) → count_by (uses_frame f) boxes ≡ total (frame_lodged f) (map some slots)
  count_is f = frames_back boxes slots k.supers n f refl inside closed.slots_long box.near none_past
      (λ p lt.
      let word = set_states.near p lt in
      no_frame (state_in headers p) (get_or slots (home_slot p) Nothing) (get_or slots (home_slot p + 4) Nothing) (record_of v p) f (λ e. (closed.pages p lt).not_held (sym word ∙ e))
      (subst (λ (w : ℕ). Lies w (some (some (get_or slots (home_slot p) Nothing))) (some (some (get_or slots (home_slot p + 4) Nothing))) (record_of v p)) (sym word) (slot_lies p lt)))

  -- a frame is free where its bit is clear
  free_now : (f : ℕ) → is_free now f ≡ is_clear k words f
  free_now f = elim (cases_lt f k.frames) [
    | inl lt ↦
        let at : frame_at k 0 + f / 64 ≡ frame_at k (f / 64) = omega arith in
        let size : length whole.pool ≡ length k.pool = ap length pool in
        pool_set.near f (omega arith) ∙ ap (λ (i : ℕ). bit_at (get_or words i 0) (f % 64) == 0) at
        ∙ sym (ap (λ (b : Bool). b && (frame_bit k words f == 0)) (lt-ltb f k.frames lt))
    | inr le ↦
        let size : length whole.pool ≡ length k.pool = ap length pool in
        pool_set.far f (omega arith) ∙ get_or_past whole.pool f false (omega arith) ∙ sym (ap (λ (b : Bool). b && (frame_bit k words f == 0)) (ge-nat_lt f k.frames le))
  ]

  account_each : (f : ℕ) → count_by (uses_frame f) boxes + count_by (λ g. g == f) whole.nursery.items + one_if (is_free now f) ≡ one_if (nat_lt f (length now))
  account_each f =
      let used = (closed.frames f).used in
      let same = count_is f in
      let hand : frame_in_hand f v.hand ≡ 0 = ap (frame_in_hand f) nothing in
      let right : times f v.rights ≡ 0 = ap (times f) no_right in
      let young = times_count f whole.nursery.items in
      let nursery_same : times f whole.nursery.items ≡ times f k.nursery = ap (times f) nursery in
      let free_same : one_if (is_free now f) ≡ one_if (is_clear k words f) = ap one_if (free_now f) in
      let all_same : one_if (nat_lt f (length now)) ≡ one_if (nat_lt f k.frames) = ap (λ (m : ℕ). one_if (nat_lt f m)) (pool_set.long ∙ ap length pool ∙ sym frames) in
      omega arith

  account : IsAccount boxes whole.nursery.items now
  account = record { each = account_each; all = account_all boxes whole.boxes.items whole.nursery.items whole.pool now pool_set.long kept.account account_each }

  header_is : (q : ℕ) → get_or headers q unused_header
      ≡ record (get_or whole.headers.items q unused_header) { pages = (get_or headers q unused_header).pages; bookmarks = (get_or headers q unused_header).bookmarks; incoming = (get_or headers q unused_header).incoming }
  header_is = set_states.else_same

  opening_header : (q : ℕ) → q < length whole.headers.items → header_of k.opening q ≡ get_or whole.headers.items q unused_header
  opening_header q lt = ap (λ (s : Layout). header_of s q) (sym layout) ∙ header_of-layout whole.headers.items (contents whole.boxes.items whole.store.places) (length whole.pool) (length whole.nursery.items) (free_count whole.pool) whole.store.reads q lt

  state_is : (p : ℕ) → p < 4 * length whole.headers.items → state_at k.opening.states p ≡ state_in whole.headers.items p
  state_is p lt = ap (λ (s : Layout). state_at s.states p) (sym layout) ∙ state-header whole.headers.items p lt

  -- an allocated cell lies on one of the table's pages
  pub cell_near : (a : ℕ) → IsAllocated k.opening a → page_of a < n
  cell_near a there = elim (cases_lt (page_of a) n) [
    | inl near ↦ near
    | inr far ↦
        let many : superpages k.opening ≡ length whole.headers.items = ap superpages (sym layout) ∙ length-map whole.headers.items (λ (h : Header). h.used) in
        let lt = allocated-page k.opening a whole_layout there in
        absurd (allocated-not_absent k.opening a whole_layout there (state_is (page_of a) (omega arith) ∙ rest.behind (page_of a) far))
  ]

  word_same : (a : ℕ) → IsAllocated k.opening a → word_at (contents boxes places) a ≡ word_at k.opening.pages a
  word_same a there =
      let near = cell_near a there in
      ap (λ (c : List ℕ). slice_index c (offset_of a)) (content_near (page_of a) near) ∙ (closed.pages (page_of a) near).fixed.heads a there refl

  object_kept : (a d c : ℕ) → IsAllocated k.opening a → IsObject k.opening.pages a d c → IsObject (contents boxes places) a d c
  object_kept a d c there old =
      let same = word_same a there in
      let near = cell_near a there in
      let fixed = (closed.pages (page_of a) near).fixed in
      record {
        packed = rw same old.packed;
        of_domain = rw same old.of_domain;
        of_class = rw same old.of_class;
        fields = λ i lt.
            let within : i < fields_at k.opening a = subst (λ (w : ℕ). i < fields_of_bits w) same lt in
            let page = field-page k.opening a i whole_layout there within in
            let offset = field-offset k.opening a i whole_layout there within in
            subst IsPacked (sym (ap (λ (p : ℕ). slice_index (content_at (contents boxes places) p) (offset_of (a + 1 + i))) page
            ∙ ap (λ (o : ℕ). slice_index (content_at (contents boxes places) (page_of a)) o) offset
            ∙ ap (λ (c : List ℕ). slice_index c (offset_of a + 1 + i)) (content_near (page_of a) near)))
            (fixed.packed a i (record { allocated = there; on = refl; within = within }));
      }

  -- the state of page j of superpage q
  page_of_superpage : (q j : ℕ) → j < 4 → (get_or (get_or headers q unused_header).pages j Absent) ≡ state_in headers (4 * q + j)
  page_of_superpage q j lt =
      let a : (4 * q + j) / 4 ≡ q = omega arith in
      let b : (4 * q + j) % 4 ≡ j = omega arith in
      sym (ap (λ (x : ℕ). get_or (get_or headers x unused_header).pages ((4 * q + j) % 4) Absent) a ∙ ap (λ (x : ℕ). get_or (get_or headers q unused_header).pages x Absent) b)

  old_page : (q j : ℕ) → j < 4 → (get_or (get_or whole.headers.items q unused_header).pages j Absent) ≡ state_in whole.headers.items (4 * q + j)
  old_page q j lt =
      let a : (4 * q + j) / 4 ≡ q = omega arith in
      let b : (4 * q + j) % 4 ≡ j = omega arith in
      sym (ap (λ (x : ℕ). get_or (get_or whole.headers.items x unused_header).pages ((4 * q + j) % 4) Absent) a ∙ ap (λ (x : ℕ). get_or (get_or whole.headers.items q unused_header).pages x Absent) b)

  superpage_kept : (q : ℕ) → q < length headers → IsSuperpage (contents boxes places) q (get_or headers q unused_header)
  superpage_kept q lt =
      let size = set_states.long in
      let old = kept.whole q (omega arith) in
      let h : Header = get_or whole.headers.items q unused_header in
      let ps : List PageState = (get_or headers q unused_header).pages in
      let allocated : (b : ℕ) → has h.cells b ≡ true → IsAllocated k.opening (cell_address q h.class b) = λ b on.
      (let e = opening_header q (omega arith) in
      subst (λ (x : Header). is_cell k.opening.classes k.opening.cells (cell_address q x.class b) ≡ true) e
      (cell-bit k.opening.classes k.opening.cells q b
      (subst (λ (x : Header). IsClass x.class) (sym e) old.class) (subst (λ (x : Header). b < cap x.class) (sym e) (old.cells_used b on).1)
      ∙ subst (λ (x : Header). has x.cells b ≡ true) (sym e) on)) in
      let same_contents : length (contents boxes places) ≡ length (contents whole.boxes.items whole.store.places) =
      (let a = boxes_long in let b = places_long in let c = kept.boxes_long in let d = kept.places_long in
      length-contents boxes places (omega arith) ∙ (let z : length boxes ≡ length whole.boxes.items = omega arith in z) ∙ sym (length-contents whole.boxes.items whole.store.places (omega arith))) in
      subst (IsSuperpage (contents boxes places) q) (sym (header_is q)) record {
        class = old.class;
        domain = old.domain;
        sets_long = old.sets_long;
        sets_fit = old.sets_fit;
        tags = record {
          marks = old.tags.marks;
          finished = old.tags.finished;
          bookmarks = elim (cases_lt q k.supers) [
            | inl here ↦ set_states.sets q here
            | inr past ↦ subst IsCellSet (sym (set_states.behind q past).0) old.tags.bookmarks
          ];
          incoming = elim (cases_lt q k.supers) [
            | inl here ↦
                let count = set_states.counters q here ∙ closed.counters q here in
                let few = sum_few (λ p. if get_or words (page_at p) 0 == 4 then points k p (record_of v p) q else 0) (pages_of k) (λ p. point_few (get_or words (page_at p) 0 == 4) _) in
                let all = length-contents boxes places (let a = boxes_long in let b = places_long in omega arith) in
                let room = inside in
                omega arith
            | inr past ↦ let same = (set_states.behind q past).1 in let few = old.tags.incoming in omega arith
          ];
        };
        states_long = set_states.states_long q ∙ old.states_long;
        cells_used = old.cells_used;
        promised_used = old.promised_used;
        apart = old.apart;
        not_held = λ j e. elim (cases_lt j 4) [
          | inl few ↦ elim (cases_lt (4 * q + j) n) [
            | inl near ↦ (closed.pages (4 * q + j) near).not_held (sym (set_states.near (4 * q + j) near) ∙ ap state_word (sym (page_of_superpage q j few) ∙ e))
            | inr far ↦ old.not_held j (old_page q j few ∙ sym (set_states.far (4 * q + j) far) ∙ sym (page_of_superpage q j few) ∙ e)
          ]
          | inr past ↦
              let long = set_states.states_long q in
              let four = old.states_long in
              absurd (absent_held (sym (get_or_past ps j Absent (omega arith)) ∙ e))
        ];
        not_absent = λ b on e.
            let used = old.cells_used b on in
            let few = cell_page-within q h.class b old.class used.1 in
            let there = allocated b on in
            let page = page_of-cell_address q h.class b old.class used.1 in
            let near = cell_near (cell_address q h.class b) there in
            let is : state_in headers (page_of (cell_address q h.class b)) ≡ Absent = ap (state_in headers) page ∙ sym (page_of_superpage q (b / cells_a_page h.class) few) ∙ e in
            (closed.pages (page_of (cell_address q h.class b)) near).bare (sym (set_states.near (page_of (cell_address q h.class b)) near) ∙ ap state_word is) (cell_address q h.class b) there refl;
        objects = λ b on. object_kept (cell_address q h.class b) h.domain h.class (allocated b on)
            (subst (λ (s : Layout). IsObject s.pages (cell_address q h.class b) h.domain h.class) layout (old.objects b on));
      }

  pub closed_kept : IsKept headers boxes now whole.nursery.items places
  closed_kept = record {
    few = (let a = kept.few in let b = set_states.long in omega arith);
    boxes_long = boxes_long;
    places_long = places_long;
    lies = lies;
    account = account;
    whole = superpage_kept;
  }

  pub closed_ends : EndsAt headers whole.end
  closed_ends = record {
    within = (let a = rest.kept.ends.within in let b = set_states.long in omega arith);
    absent = λ p le. elim (cases_lt p n) [
      | inl near ↦
          let page = closed.pages p near in
          let opened_absent : state_at k.opening.states p ≡ Absent = (let a = rest.within in state_is p (omega arith) ∙ rest.kept.ends.absent p le) in
          let one : one_if (opened_word k p == 0) ≡ 1 = ap (λ (st : PageState). one_if (state_word st == 0)) opened_absent in
          let eq = page.standing.absent in
          word_absent (state_in headers p) (set_states.near p near ∙ one_is (get_or words (page_at p) 0) 0 (omega arith))
      | inr far ↦ set_states.far p far ∙ rest.behind p far
    ];
  }

  -- but for states, contents and reads the space is as it was opened
  pub closed_layout : (reads : ℕ) → layout_of headers (contents boxes places) (length now) (length whole.nursery.items) (free_count now) reads
      ≡ record k.opening { free = free_count now; states = map (λ (h : Header). h.pages) headers; pages = contents boxes places; bookmarks = map (λ (h : Header). h.bookmarks) headers; incoming = map (λ (h : Header). h.incoming) headers; reads = reads }
  closed_layout reads =
      let size = set_states.long in
      let hs : List Header = whole.headers.items in
      rw (
        pool_set.long,
        part_same (λ (h : Header). h.used) hs headers size (λ q. ap (λ (h : Header). h.used) (header_is q)),
        part_same (λ (h : Header). h.domain) hs headers size (λ q. ap (λ (h : Header). h.domain) (header_is q)),
        part_same (λ (h : Header). h.class) hs headers size (λ q. ap (λ (h : Header). h.class) (header_is q)),
        part_same (λ (h : Header). h.cells) hs headers size (λ q. ap (λ (h : Header). h.cells) (header_is q)),
        part_same (λ (h : Header). h.promised) hs headers size (λ q. ap (λ (h : Header). h.promised) (header_is q)),
        part_same (λ (h : Header). h.marks) hs headers size (λ q. ap (λ (h : Header). h.marks) (header_is q)),
        part_same (λ (h : Header). h.finished) hs headers size (λ q. ap (λ (h : Header). h.finished) (header_is q)),
      )
      (ap (λ (s : Layout). record s { free = free_count now; states = map (λ (h : Header). h.pages) headers; pages = contents boxes places; bookmarks = map (λ (h : Header). h.bookmarks) headers; incoming = map (λ (h : Header). h.incoming) headers; reads = reads }) layout)
