-- What closing a table gives.
use Rattle.bc_reach.specs.Reach.{Reach}
use Rattle.bc_reach.proofs.Reaching.{Reach-mono}
use Rattle.bc_superpages.specs.Memory.{memory, cell_on}
use Rattle.bc_superpages.specs.Collecting.{is_marked, is_finished}
use Rattle.bc_superpages.specs.Paging.{is_bookmarked}
use Rattle.bc_superpages.proofs.CellLemmas.{is_cell-bit, is_cell-start}
use Rattle.bc_superpages.proofs.TagLemmas.{taken-few}
use Rattle.bc_bookmarks.specs.Targets.{is_target}
use Rattle.bc_bookmarks.proofs.TargetLemmas.{target-refers}
use Rattle.bc_pins.specs.Tracing.{RefersToCell, word_of, place_of as bit_place, HasMarkBit, IsFinishedIn, StartsMarks, LeadsHere, WentGone, Tracing}
use Rattle.bc_pins.specs.Opening.{IsMarkable}
use Rattle.bc_pins.specs.Closing.{ClosedMarks, LaidSpace}
use Rattle.bc_pins.proofs.TracingLemmas.{there_is, cell_is, is_set}
use Rattle.bc_pins.proofs.ShadeSteps.{same_address}
use Rattle.bc_pins.proofs.MarkSteps.{target_cell}
use Rattle.bc_pins.proofs.SpaceLemmas.{cell_near}
use Rattle.std.proofs.Common.{◌≡◌, ℕ, ◌+◌, ◌-◌, ◌*◌, ◌/◌, ◌%◌, ◌^◌, ◌<◌, ◌≤◌, ◌≢◌, ◌==◌, ◌⊎◌, nat_lt, List, [], length, vec_capacity, map, get_or, slice_index, min, Option, Some, None, refl, ap, sym, subst, ◌∙◌, arith, inl, inr, true, false, Bool, ◌&&◌, ◌∷◌, if◌then◌else◌}
use mathlib.Core.Option as maybe
use Rattle.std.proofs.lemmas.Bool.{cases_lt, cases_Bool, eqb-true, eq-eqb, and_from}
use Rattle.std.proofs.lemmas.List.{length-map, get_or-map, get_or_past}
use Rattle.atomic_table.specs.Table.{Final, Seen}
use Rattle.atomic_table.specs.declared.shared.Seat.{Seat as Worker}
use Rattle.atomic_table.specs.Seated.{TableId}
use Rattle.bc_bits.specs.Counting.{one_if}
use Rattle.bc_frames.specs.Places.{StoreView}
use Rattle.bc_superpages.specs.declared.headers.Header.{Header}
use Rattle.bc_superpages.specs.declared.headers.PageState.{PageState}
use Rattle.bc_superpages.specs.declared.headers.PageState.TheVariants as state
use Rattle.bc_superpages.specs.declared.spaces.Homed.{Homed}
use Rattle.bc_superpages.specs.declared.parts.SpaceParts.{SpaceParts}
use Rattle.bc_superpages.specs.Headers.{is_gone}
use Rattle.bc_superpages.specs.Kept.{IsLayout}
use Rattle.bc_superpages.specs.Layout.{Layout, superpages, set_of, content_at, is_cell}
use Rattle.std.specs.Int.{bit_at}
use Rattle.bc_bits.specs.Bits.{has}
use Rattle.bc_frames.specs.Pool.{free_count}
use Rattle.bc_word.specs.Addresses.{superpage_of, page_of, offset_of, cell_number}
use Rattle.bc_superpages.specs.Calls.{class_at}
use Rattle.bc_superpages.specs.Headers.{unused_header}
use Rattle.bc_superpages.proofs.LayoutLemmas.{header_of-layout}
use Rattle.bc_bookmarks.specs.Summarised.{IsSummarised}
use Rattle.bc_pins.specs.Facts.{bookmark_bit, opened_bit, cell_bit, HasBookmarkBit, IsBitOfTarget, IsUnheld, Table}
use Rattle.bc_pins.specs.Opening.{IsOpenable}
use Rattle.bc_superpages.specs.LayoutAt.{state_at, header_of, IsAllocated}
use Rattle.bc_superpages.specs.Contents.{contents}
use Rattle.bc_superpages.specs.Parts.{state_in, AreParts, parts_layout}
use Rattle.bc_superpages.proofs.HandLemmas.{state-header}
use Rattle.bc_superpages.proofs.KeptLemmas.{IsLayout-kept}
use Rattle.bc_pins.specs.declared.views.Lodged.{Lodged}
use Rattle.bc_pins.specs.declared.views.Lodged.TheVariants.{Nothing}
use Rattle.bc_pins.specs.declared.views.View.{View}
use Rattle.bc_pins.specs.declared.pins.Seat.{Seat}
use Rattle.bc_pins.specs.Key.{Key, pages_of, owner, frame_at, page_at, mark_at, finished_at, home_slot}
use Rattle.bc_pins.specs.Contents.{IsContent, RefersYoung, objects_in}
use Rattle.bc_pins.specs.Totals.{total, times}
use Rattle.bc_pins.specs.Views.{grips_remembered, state_word, opened_state, opened_word, opened_content, record_of, reads_as, sets_bit, sets_for}
use Rattle.bc_pins.specs.Rule.{Ruled}
use Rattle.bc_pins.specs.Lodging.{Replaced, box_of, place_of}
use Rattle.bc_pins.specs.Opening.{HasClosed, IsRest}
use Rattle.bc_pins.specs.Resting.{RestView}
use Rattle.bc_pins.specs.Calls.{view_of}
use Rattle.bc_pins.specs.Closing.{Gathered, HeadersBelow, MarksBelow, LaysMarks, HeadersSet, PoolSet, claims_of, fetches_of, HaveClaimed, ClosedState, ClosedBit, Closed, IsOfPageLeft}
use Rattle.bc_pins.proofs.TallyLemmas.{objects_at, GoneBy, gone_word, tally, none_behind, target_in, set_bit, bit_set, bit_in, in_bit, bit_few, few_bits, number_few}
use Rattle.bc_pins.proofs.TotalLemmas.{one_is, total_in}
use Rattle.bc_pins.proofs.WithholdLemmas.{foreign_none}
use Rattle.bc_pins.proofs.ReadLemmas.{lies_few}
use Rattle.bc_pins.proofs.JoinLemmas.{look_none}
use Rattle.bc_pins.proofs.CloseLemmas.{ends}
use Rattle.bc_pins.proofs.GatherLemmas.{entries_none}
use Rattle.bc_pins.proofs.OpenableLemmas.{opened_none, still_openable}
use Rattle.bc_pins.proofs.HeaderLemmas.{bare, headers_set}
use Rattle.bc_pins.proofs.LayLemmas.{laid}
use Rattle.bc_pins.proofs.SpaceLemmas.{content_near, content_far, closed_kept, closed_ends, closed_layout}
use Rattle.bc_pins.proofs.PageSteps.{sets_marked}

word_remembered : (st : PageState) → state_word st ≡ 2 → st ≡ state.Remembered
word_remembered state.Remembered e = refl
word_remembered state.Absent e = absurd (omega arith)
word_remembered state.Home e = absurd (omega arith)
word_remembered state.Held e = absurd (omega arith)
word_remembered state.Gone e = absurd (omega arith)

word_gone : (st : PageState) → state_word st ≡ 4 → st ≡ state.Gone
word_gone state.Gone e = refl
word_gone state.Absent e = absurd (omega arith)
word_gone state.Home e = absurd (omega arith)
word_gone state.Held e = absurd (omega arith)
word_gone state.Remembered e = absurd (omega arith)

-- a bit that was set was set for some page
pub set_for_some : (w b : ℕ) (l : List (ℕ × ℕ × ℕ)) → 0 < sets_bit w b l → (p : ℕ) × (0 < sets_for p w b l)
set_for_some w b [] lt = absurd (omega arith)
set_for_some w b (x ∷ l) lt = elim (cases_lt 0 (sets_bit w b l)) [
  | inl more ↦ let rest = set_for_some w b l more in (rest.0, let on = rest.1 in omega arith)
  | inr none_more ↦ (
    x.0,
    let here : (if (x.0 == x.0) && (x.1 == w) then bit_at x.2 b else 0) ≡ (if x.1 == w then bit_at x.2 b else 0) = ap (λ (y : Bool). if y && (x.1 == w) then bit_at x.2 b else 0) (eq-eqb x.0 x.0 refl) in
        omega arith,
  )
]

clash : false ≡ true → ⊥
clash e = cc

-- what a table leaves, where all its seats were joined into one
pub gathered_ends : (id : TableId) (k : Key) (all : List Seat) (root : Worker Lodged View) (ws : List ℕ) (xs : List Lodged) → Gathered id k all [] root → Final (Seen (Ruled k) root.id root.me.0) ws xs → HasClosed k root.me.0 ws xs
gathered_ends id k all root ws xs g f = ends k root.id root.me.0 ws xs g.about g.hand (λ r. let a = g.roles r in omega arith) f

-- so each number that the seats claimed was claimed once
pub gathered_claims : (id : TableId) (k : Key) (all : List Seat) (root : Worker Lodged View) (ws : List ℕ) (xs : List Lodged) → Gathered id k all [] root → HasClosed k root.me.0 ws xs → HaveClaimed all
gathered_claims id k all root ws xs g closed few n =
    let size = g.claimed in
    let each = g.notices n in
    let once = closed.claims (omega arith) n in
    let same : one_if (nat_lt n (length root.me.0.notices)) ≡ one_if (nat_lt n (claims_of all)) = (let e : length root.me.0.notices ≡ claims_of all = omega arith in ap (λ (m : ℕ). one_if (nat_lt n m)) e) in
    omega arith

pub words_few : (k : Key) (v : View) (ws : List ℕ) (xs : List Lodged) → HasClosed k v ws xs → (p : ℕ) → p < pages_of k → get_or ws (page_at p) 0 ≤ 4
words_few k v ws xs c p lt = lies_few _ _ _ _ (c.pages p lt).lies

-- everything that is known when the space is put together
pub record Ended (id : TableId) (k : Key) (all : List Seat) (root : Worker Lodged View) (whole parts : SpaceParts) (words : List ℕ) (slots : List Lodged) (headers : List Header) (boxes : List (Option Homed)) (places : List (Option (List ℕ))) (now : List Bool) : Type 0 where
  pub rest : IsRest whole parts (pages_of k)
  pub layout : parts_layout whole ≡ k.opening
  pub pool : whole.pool ≡ k.pool
  pub nursery : whole.nursery.items ≡ k.nursery
  pub frames : k.frames ≡ length k.pool
  pub gathered : Gathered id k all [] root
  pub closed : HasClosed k root.me.0 words slots
  pub states_are : HeadersSet k whole.headers.items headers words
  pub box : Replaced None parts.boxes.items boxes (pages_of k) (λ p. box_of (get_or slots (home_slot p) Nothing))
  pub place : Replaced None parts.store.places places (pages_of k) (λ p. place_of (get_or slots (home_slot p + 4) Nothing))
  pub pool_set : PoolSet whole.pool now (length whole.pool) (frame_at k 0) words

-- the parts of which the space is put together
pub record Together (whole : SpaceParts) (headers : List Header) (boxes : List (Option Homed)) (places : List (Option (List ℕ))) (now : List Bool) (reads : ℕ) (f : SpaceParts) : Type 0 where
  pub headers_are : f.headers.items ≡ headers
  pub boxes_are : f.boxes.items ≡ boxes
  pub places_are : f.store.places ≡ places
  pub reads_are : f.store.reads ≡ reads
  pub pool : f.pool ≡ now
  pub nursery : f.nursery.items ≡ whole.nursery.items
  pub room : vec_capacity f.nursery ≡ vec_capacity whole.nursery
  pub end : f.end ≡ whole.end

-- parts with other headers, as many
abbrev pub with_headers : (f : SpaceParts) (hs : List Header) → length hs ≡ length f.headers.items → SpaceParts
with_headers f hs size = record f { headers = record f.headers { items = hs; ok = (f.headers.ok.0 ∙ sym size, f.headers.ok.1) } }

pub together_same : (whole : SpaceParts) (headers hs : List Header) (boxes : List (Option Homed)) (places : List (Option (List ℕ))) (now : List Bool) (reads : ℕ) (f : SpaceParts) → headers ≡ hs
    → Together whole headers boxes places now reads f → Together whole hs boxes places now reads f
together_same whole headers hs boxes places now reads f same t = subst (λ (l : List Header). Together whole l boxes places now reads f) same t

pub together_with : (whole : SpaceParts) (headers hs : List Header) (boxes : List (Option Homed)) (places : List (Option (List ℕ))) (now : List Bool) (reads : ℕ) (f : SpaceParts) (size : length hs ≡ length f.headers.items)
    → Together whole headers boxes places now reads f → Together whole hs boxes places now reads (with_headers f hs size)
together_with whole headers hs boxes places now reads f size t = record {
  headers_are = refl;
  boxes_are = t.boxes_are;
  places_are = t.places_are;
  reads_are = t.reads_are;
  pool = t.pool;
  nursery = t.nursery;
  room = t.room;
  end = t.end;
}

module _ (id : TableId) (k : Key) (all : List Seat) (root : Worker Lodged View) (whole parts : SpaceParts) (words : List ℕ) (slots : List Lodged) (headers : List Header) (boxes : List (Option Homed)) (places : List (Option (List ℕ))) (now : List Bool)
    (e : Ended id k all root whole parts words slots headers boxes places now) where
  abbrev v : View
  v = root.me.0

  pub ended_parts : (reads : ℕ) (f : SpaceParts) → Together whole headers boxes places now reads f → AreParts f
  ended_parts reads f t = record {
    kept = rw (t.headers_are, t.boxes_are, t.pool, t.nursery, t.places_are) (closed_kept k whole parts e.rest e.layout e.pool e.nursery e.frames v e.gathered.hand e.gathered.rights words slots e.closed headers e.states_are boxes e.box places e.place now e.pool_set);
    ends = rw (t.headers_are, t.end) (closed_ends k whole parts e.rest e.layout e.pool e.nursery e.frames v e.gathered.hand e.gathered.rights words slots e.closed headers e.states_are boxes e.box places e.place now e.pool_set);
    blank = rw (t.headers_are, t.end) (λ q le. let near = e.rest.near in (e.states_are.behind q (omega arith)).0 ∙ e.rest.kept.blank q le);
    room = rw (t.pool, t.room, e.pool_set.long) e.rest.kept.room;
  }

  -- headers into which marks were written besides
  module _ (marked : List Header) (reads : ℕ) (f : SpaceParts) (sup from : ℕ) (told : List ℕ) (within : sup ≤ length headers) (size : length headers ≡ length f.headers.items) (t : Together whole marked boxes places now reads f) where
    pub ended_laid : MarksBelow headers marked sup sup from told → LaysMarks (with_headers f headers size) f sup from told
    ended_laid m =
        laid (with_headers f headers size) f (ended_parts reads (with_headers f headers size) (together_with whole marked headers boxes places now reads f size t)) sup from told within
        (subst (λ (hs : List Header). MarksBelow headers hs sup sup from told) (sym t.headers_are) m)
        refl refl refl refl refl refl refl

    pub ended_kept : (lanes : Bool) → (lanes ≡ true → marked ≡ headers) → (lanes ≡ false → MarksBelow headers marked sup sup from told) → AreParts f
    ended_kept lanes same m = elim (cases_Bool lanes) [
      | inl on ↦ ended_parts reads f (together_same whole marked headers boxes places now reads f (same on) t)
      | inr off ↦ (ended_laid (m off)).kept
    ]

  abbrev made : ℕ → Layout
  made reads = record k.opening {
    states = map (λ (h : Header). h.pages) headers;
    pages = contents boxes places;
    bookmarks = map (λ (h : Header). h.bookmarks) headers;
    incoming = map (λ (h : Header). h.incoming) headers;
    free = free_count now;
    reads = reads;
  }

  pub ended_layout : (reads : ℕ) (f : SpaceParts) → Together whole headers boxes places now reads f → parts_layout f ≡ made reads
  ended_layout reads f t =
      rw (t.headers_are, t.boxes_are, t.places_are, t.reads_are, t.pool, t.nursery)
      (closed_layout k whole parts e.rest e.layout e.pool e.nursery e.frames v e.gathered.hand e.gathered.rights words slots e.closed headers e.states_are boxes e.box places e.place now e.pool_set reads)

  supers_are : superpages k.opening ≡ length whole.headers.items
  supers_are = ap superpages (sym e.layout) ∙ length-map whole.headers.items (λ (h : Header). h.used)

  near : (p : ℕ) → p < pages_of k → content_at (contents boxes places) p ≡ record_of v p
  near = content_near k whole parts e.rest e.layout e.pool e.nursery e.frames v e.gathered.hand e.gathered.rights words slots e.closed headers e.states_are boxes e.box places e.place now e.pool_set

  long : length boxes ≡ 4 * length whole.headers.items
  long = e.box.long ∙ e.rest.emptied.boxes.long ∙ e.rest.kept.kept.boxes_long

  state_new : (p : ℕ) → p < 4 * length whole.headers.items → state_at (map (λ (h : Header). h.pages) headers) p ≡ state_in headers p
  state_new p lt = let a = e.states_are.long in state-header headers p (omega arith)

  state_old : (p : ℕ) → p < 4 * length whole.headers.items → opened_state k p ≡ state_in whole.headers.items p
  state_old p lt = ap (λ (s : Layout). state_at s.states p) (sym e.layout) ∙ state-header whole.headers.items p lt

  word_is : (p : ℕ) → p < pages_of k → state_word (state_at (map (λ (h : Header). h.pages) headers) p) ≡ get_or words (page_at p) 0
  word_is p lt = let a = e.rest.within in ap state_word (state_new p (omega arith)) ∙ e.states_are.near p lt

  held_once : (p : ℕ) → p < pages_of k → 0 < total (λ (s : Seat). reads_as p 3 (view_of s)) all → 0 < total (λ (s : Seat). reads_as p 1 (view_of s)) all + total (λ (s : Seat). reads_as p 2 (view_of s)) all + total (λ (s : Seat). times p (view_of s).fetched) all
  held_once p near lt =
      let one = e.gathered.read (page_at p) 1 in
      let two = e.gathered.read (page_at p) 2 in
      let three = e.gathered.read (page_at p) 3 in
      let got = e.gathered.fetched p in
      let a = (e.closed.pages p near).standing.held (omega arith) in
      omega arith

  away_once : (p : ℕ) → p < pages_of k → 0 < total (λ (s : Seat). reads_as p 0 (view_of s)) all + total (λ (s : Seat). reads_as p 2 (view_of s)) all + total (λ (s : Seat). reads_as p 4 (view_of s)) all
      → total (λ (s : Seat). times p (view_of s).fetched) all ≡ 0 → state_at (map (λ (h : Header). h.pages) headers) p ≢ state.Home
  away_once p near lt none_fetched home =
      let got = e.gathered.fetched p in
      let none_is = e.gathered.read (page_at p) 0 in
      let two = e.gathered.read (page_at p) 2 in
      let four = e.gathered.read (page_at p) 4 in
      let is : get_or words (page_at p) 0 ≡ 1 = sym (word_is p near) ∙ ap state_word home in
      let one : one_if (get_or words (page_at p) 0 == 2) ≡ 0 = ap (λ (n : ℕ). one_if (n == 2)) is in
      let hand : grips_remembered p v.hand ≡ 0 = ap (grips_remembered p) e.gathered.hand in
      elim ((e.closed.pages p near).standing.away (omega arith)) [
        | inl zero_is ↦ omega arith
        | inr other ↦ elim other [ inl four_is ↦ omega arith | inr lt ↦ omega arith ]
      ]

  states_closed : (p : ℕ) → p < pages_of k → ClosedState k all (state_at (map (λ (h : Header). h.pages) headers) p) p
  states_closed p near =
      let page = (e.closed.pages p near).standing in
      let g = e.gathered in
      let word = word_is p near in
      let r = g.recorded p in
      let f = g.fetched p in
      let l = g.left p in
      let m = g.emptied p in
      let back = g.returned p in
      let busy = g.busy p in
      let none_held = foreign_none k p v g.hand in
      let held = (e.closed.pages p near).not_held in
      let gone = page.gone in
      let absent = page.absent in
      let four : one_if (state_word (state_at (map (λ (h : Header). h.pages) headers) p) == 4) ≡ one_if (get_or words (page_at p) 0 == 4) = ap (λ (n : ℕ). one_if (n == 4)) word in
      let zeros : one_if (state_word (state_at (map (λ (h : Header). h.pages) headers) p) == 0) ≡ one_if (get_or words (page_at p) 0 == 0) = ap (λ (n : ℕ). one_if (n == 0)) word in
      let hand : grips_remembered p v.hand ≡ 0 = ap (grips_remembered p) g.hand in
      record {
        remembered = λ lt. let a = page.remembered (omega arith) in word_remembered _ (word ∙ one_is (get_or words (page_at p) 0) 2 (omega arith));
        as_opened = λ turn is.
            let two : one_if (get_or words (page_at p) 0 == 2) ≡ 1 = ap (λ (n : ℕ). one_if (n == 2)) (sym word ∙ ap state_word is) in
            page.as_opened turn (page.recorded (omega arith));
        recorded = λ is.
            let two : one_if (get_or words (page_at p) 0 == 2) ≡ 1 = ap (λ (n : ℕ). one_if (n == 2)) (sym word ∙ ap state_word is) in
            let a = page.recorded (omega arith) in
            omega arith;
        gone = omega arith;
        absent = omega arith;
        busy = λ lt. let a = page.busy (omega arith) in omega arith;
        held = held_once p near;
        away = away_once p near;
      }

  -- a page that a seat read as Gone is Gone for the root, into which it was joined
  read_gone : (j : ℕ) → j < length all → (d : Seat) (p : ℕ) → 0 < times p (view_of (get_or all j d)).gone → state_at (map (λ (h : Header). h.pages) headers) p ≡ state.Gone
  read_gone j lt d p some =
      let sum = e.gathered.gone p in
      let least = total_in (λ (s : Seat). times p (view_of s).gone) all j d lt in
      let gone = e.closed.gone p (omega arith) in
      word_gone _ (word_is p gone.0 ∙ gone.1)

  layout : IsLayout k.opening
  layout = subst IsLayout e.layout (IsLayout-kept whole.headers.items whole.boxes.items whole.pool whole.nursery.items whole.store.places _ _ _ _ e.rest.kept.kept)

  fixed_now : (p : ℕ) → p < pages_of k → IsContent k.opening p (content_at (contents boxes places) p)
  fixed_now p lt = subst (IsContent k.opening p) (sym (near p lt)) (e.closed.pages p lt).fixed

  young_now : (p : ℕ) → p < pages_of k → RefersYoung k.opening p (content_at (contents boxes places) p) → state_at (map (λ (h : Header). h.pages) headers) p ≡ state.Remembered
  young_now p lt y = word_remembered _ (word_is p lt ∙ (e.closed.pages p lt).young (subst (RefersYoung k.opening p) (near p lt) y))

  behind : (p : ℕ) → pages_of k ≤ p → p < 4 * superpages k.opening → opened_state k p ≡ state.Absent
  behind p le lt = let many = supers_are in state_old p (omega arith) ∙ e.rest.behind p le

  gone_by : GoneBy k (contents boxes places) (λ p. is_gone (state_at (map (λ (h : Header). h.pages) headers) p)) (record_of v) words (4 * superpages k.opening)
  gone_by = record {
    few = (let many = supers_are in let a = e.rest.within in omega arith);
    near = λ p lt. gone_word (state_at (map (λ (h : Header). h.pages) headers) p) ∙ ap (λ (n : ℕ). n == 4) (word_is p lt);
    behind = λ p le lt. let many = supers_are in ap is_gone (state_new p (omega arith) ∙ e.states_are.far p le ∙ e.rest.behind p le);
    contents = near;
  }

  -- the words of a set of the headers
  header_set : (q : ℕ) → q < length headers → set_of (map (λ (h : Header). h.bookmarks) headers) q ≡ (get_or headers q unused_header).bookmarks
  header_set q lt = get_or-map (λ (h : Header). h.bookmarks) headers q unused_header [] lt

  header_count : (q : ℕ) → q < length headers → slice_index (map (λ (h : Header). h.incoming) headers) q ≡ (get_or headers q unused_header).incoming
  header_count q lt = get_or-map (λ (h : Header). h.incoming) headers q unused_header 0 lt

  opening_header : (q : ℕ) → q < length whole.headers.items → header_of k.opening q ≡ get_or whole.headers.items q unused_header
  opening_header q lt = ap (λ (s : Layout). header_of s q) (sym e.layout) ∙ header_of-layout whole.headers.items (contents whole.boxes.items whole.store.places) (length whole.pool) (length whole.nursery.items) (free_count whole.pool) whole.store.reads q lt

  set_behind : (q : ℕ) → k.supers ≤ q → q < superpages k.opening → set_of (map (λ (h : Header). h.bookmarks) headers) q ≡ set_of k.opening.bookmarks q
  set_behind q le lt =
      let many = supers_are in
      let size = e.states_are.long in
      header_set q (omega arith) ∙ (e.states_are.behind q le).0 ∙ sym (ap (λ (h : Header). h.bookmarks) (opening_header q (omega arith)))

  -- a bit of the headers is that of the table
  bit_is : (q j b : ℕ) → q < k.supers → j < 16 → bit_at (slice_index (set_of (map (λ (h : Header). h.bookmarks) headers) q) j) b ≡ bookmark_bit k words (16 * q + j) b
  bit_is q j b lt few =
      let many = supers_are in
      let size = e.states_are.long in
      let within = e.rest.within in
      ap (λ (l : List ℕ). bit_at (slice_index l j) b) (header_set q (omega arith)) ∙ ap (λ (n : ℕ). bit_at n b) (e.states_are.bookmarks q j lt few)

  long_set : (q : ℕ) → q < k.supers → length (set_of (map (λ (h : Header). h.bookmarks) headers) q) ≡ 16
  long_set q lt =
      let many = supers_are in
      let size = e.states_are.long in
      let within = e.rest.within in
      ap length (header_set q (omega arith)) ∙ (e.states_are.sets q lt).0

  bits_now : (o : IsOpenable k.opening) (q b : ℕ) → q < superpages k.opening → has (set_of (map (λ (h : Header). h.bookmarks) headers) q) b ≡ true
      → (has (set_of k.opening.cells q) b ≡ true) ⊎ (has (set_of k.opening.promised q) b ≡ true)
  bits_now o q b lt on = elim (cases_lt q k.supers) [
    | inl here ↦
        let few : b < 1024 = few_bits (set_of (map (λ (h : Header). h.bookmarks) headers) q) b (long_set q here) on in
        let one = sym (bit_is q (b / 64) (b % 64) here (omega arith)) ∙ set_bit (set_of (map (λ (h : Header). h.bookmarks) headers) q) b on in
        let cell = (e.closed.bits (16 * q + b / 64) (b % 64) (omega arith) (omega arith)).cell (omega arith) in
        let at : (16 * q + b / 64) / 16 ≡ q = omega arith in
        let place : (16 * q + b / 64) % 16 ≡ b / 64 = omega arith in
        let is : cell_bit k (16 * q + b / 64) (b % 64) ≡ bit_at (slice_index (set_of k.opening.cells q) (b / 64)) (b % 64) =
        ap (λ (n : ℕ). bit_at (slice_index (set_of k.opening.cells n) ((16 * q + b / 64) % 16)) (b % 64)) at ∙ ap (λ (n : ℕ). bit_at (slice_index (set_of k.opening.cells q) n) (b % 64)) place in
        let small = bit_few (slice_index (set_of k.opening.cells q) (b / 64)) (b % 64) in
        inl (bit_set (set_of k.opening.cells q) b (omega arith))
    | inr past ↦ o.summarised.bits q b lt (sym (ap (λ (l : List ℕ). has l b) (set_behind q past lt)) ∙ on)
  ]

  marked_now : (a : ℕ) → HasBookmarkBit k words a → is_cell k.opening.classes (map (λ (h : Header). h.bookmarks) headers) a ≡ true
  marked_now a m =
      let many = supers_are in
      let within = e.rest.within in
      let here = m.within in
      let n : ℕ = cell_number (class_at k.opening a) a in
      let few : n < 1024 = number_few (class_at k.opening a) a (layout.each (superpage_of a) (omega arith)).class in
      and_from _ _
      (bit_set (set_of (map (λ (h : Header). h.bookmarks) headers) (superpage_of a)) n (bit_is (superpage_of a) (n / 64) (n % 64) here (omega arith) ∙ m.bit))
      (eq-eqb _ 0 m.starts)

  summarised_now : (reads : ℕ) → IsOpenable k.opening → IsSummarised (made reads)
  summarised_now reads o =
      let many = supers_are in
      let size = e.states_are.long in
      let summed = λ (p : ℕ) (lt : p < pages_of k) (four : get_or words (page_at p) 0 ≡ 4). (e.closed.pages p lt).gone four in
      let four : (p : ℕ) → p < 4 * superpages k.opening → is_gone (state_at (map (λ (h : Header). h.pages) headers) p) ≡ true → (p < pages_of k) × (get_or words (page_at p) 0 ≡ 4) = λ p lt gone.
      elim (cases_lt p (pages_of k)) [
        | inl less ↦ (less, eqb-true (get_or words (page_at p) 0) 4 (sym (gone_by.near p less) ∙ gone))
        | inr le ↦ absurd (clash (sym (gone_by.behind p le lt) ∙ gone))
      ] in
      record {
        bits = bits_now o;
        there = λ p lt gone. let f = four p lt gone in (summed p f.0 f.1).there;
        targets = λ p a lt gone target.
            let f = four p lt gone in
            marked_now a ((summed p f.0 f.1).targets a (target_in k.opening (contents boxes places) p a (record_of v p) (near p f.0) ∙ target));
        incoming = λ q lt. elim (cases_lt q k.supers) [
          | inl here ↦
              let within = e.rest.within in
              header_count q (omega arith) ∙ e.states_are.counters q here ∙ e.closed.counters q here
              ∙ sym (tally k (contents boxes places) (λ p. is_gone (state_at (map (λ (h : Header). h.pages) headers) p)) (record_of v) words (4 * superpages k.opening) gone_by q)
          | inr past ↦
              header_count q (omega arith) ∙ (e.states_are.behind q past).1 ∙ sym (ap (λ (h : Header). h.incoming) (opening_header q (omega arith)))
              ∙ opened_none k (map (λ (h : Header). h.pages) headers) (contents boxes places) (map (λ (h : Header). h.bookmarks) headers) (map (λ (h : Header). h.incoming) headers) (free_count now) reads layout o behind fixed_now young_now q past lt
              ∙ sym (none_behind k (contents boxes places) (λ p. is_gone (state_at (map (λ (h : Header). h.pages) headers) p)) (record_of v) words (4 * superpages k.opening) gone_by summed q past)
        ];
      }

  behind_all : (q : ℕ) → k.supers ≤ q → set_of (map (λ (h : Header). h.bookmarks) headers) q ≡ set_of k.opening.bookmarks q
  behind_all q le = elim (cases_lt q (superpages k.opening)) [
    | inl lt ↦ set_behind q le lt
    | inr past ↦
        let many = supers_are in
        let size = e.states_are.long in
        let a = length-map headers (λ (h : Header). h.bookmarks) in
        let b = layout.long.bookmarks in
        get_or_past (map (λ (h : Header). h.bookmarks) headers) q [] (omega arith) ∙ sym (get_or_past k.opening.bookmarks q [] (omega arith))
  ]

  bits_closed : (reads w b : ℕ) → w < 16 * k.supers → b < 64 → ClosedBit k all (made reads) w b
  bits_closed reads w b lt few =
      let old = e.closed.bits w b lt few in
      let sum = e.gathered.bookmarked w b in
      let back : 16 * (w / 16) + w % 16 ≡ w = omega arith in
      let is : bit_at (slice_index (set_of (map (λ (h : Header). h.bookmarks) headers) (w / 16)) (w % 16)) b ≡ bookmark_bit k words w b =
      bit_is (w / 16) (w % 16) b (omega arith) (omega arith) ∙ ap (λ (n : ℕ). bookmark_bit k words n b) back in
      record {
        kept = λ lt. bit_in (set_of (map (λ (h : Header). h.bookmarks) headers) (w / 16)) (w % 16) b few (is ∙ old.kept (omega arith));
        new = λ on none_opened.
            let one = sym is ∙ in_bit (set_of (map (λ (h : Header). h.bookmarks) headers) (w / 16)) (w % 16) b few on in
            let a = old.only (omega arith) in
            let entry = set_for_some w b v.bookmarked (omega arith) in
            let target = e.closed.targets.each entry.0 w b few entry.1 in
            let left = e.closed.marked entry.0 (sets_marked entry.0 w b v.bookmarked entry.1) in
            let l = e.gathered.left entry.0 in
            let standing = (e.closed.pages entry.0 target.0).standing.gone in
            let got = e.gathered.fetched entry.0 in
            record {
              page = entry.0;
              inside = target.0;
              left = omega arith;
              had = (let some = e.closed.targets.had entry.0 w b few entry.1 in let puts = e.gathered.put entry.0 w b in omega arith);
              still = λ z. (
                word_gone _ (word_is entry.0 target.0 ∙ one_is (get_or words (page_at entry.0) 0) 4 (omega arith)),
                subst (λ (c : List ℕ). IsBitOfTarget k entry.0 c w b) (sym (near entry.0 target.0)) (target.1 (omega arith)),
              );
            };
        only = λ on.
            let one = sym is ∙ in_bit (set_of (map (λ (h : Header). h.bookmarks) headers) (w / 16)) (w % 16) b few on in
            let a = old.only (omega arith) in
            omega arith;
      }

  pub ended_closed : (reads : ℕ) → reads ≡ min (k.opening.reads + fetches_of all) (2 ^ 64 - 1) → Closed k all (made reads)
  ended_closed reads is = record {
    same = refl;
    reads = is;
    mine = λ j lt d p less has. near p less ∙ (e.gathered.mine j (omega arith) lt d p has).1;
    unowned = λ p lt z.
        let all_roles = e.gathered.roles (owner k p) in
        near p lt ∙ look_none p v.changed (opened_content v.about p) (entries_none k v p e.gathered.tidy e.gathered.about (omega arith)) ∙ ap (λ (a : Key). opened_content a p) e.gathered.about;
    behind = λ p le lt.
        let many = supers_are in
        let size = long in (
          state_new p (omega arith) ∙ e.states_are.far p le ∙ sym (state_old p (omega arith)),
          content_far k whole parts e.rest e.layout e.pool e.nursery e.frames v e.gathered.hand e.gathered.rights words slots e.closed headers e.states_are boxes e.box places e.place now e.pool_set p le (omega arith),
        );
    states_are = states_closed;
    fixed = fixed_now;
    young = young_now;
    read_gone = read_gone;
    bits = bits_closed reads;
    bits_behind = λ q le. behind_all q le;
    openable = λ o. still_openable k _ _ _ _ (free_count now) reads layout o behind fixed_now young_now (summarised_now reads o);
  }

  -- marks and finished cells, in a mark turn
  module _ (turn : k.lanes ≡ false) (unheld : IsUnheld k) (markable : IsMarkable k.opening) (reads : ℕ) (c : Closed k all (made reads)) (s : Layout) (kept_s : IsLayout s)
      (same : s ≡ record (made reads) { marks = s.marks; finished = s.finished })
      (marks_are : (w : ℕ) → w < 16 * k.supers → slice_index (set_of s.marks (w / 16)) (w % 16) ≡ get_or words (mark_at k w) 0)
      (finished_are : (w : ℕ) → w < 16 * k.supers → slice_index (set_of s.finished (w / 16)) (w % 16) ≡ get_or words (finished_at k w) 0)
      (marks_behind : (q : ℕ) → k.supers ≤ q → (set_of s.marks q ≡ set_of k.opening.marks q) × (set_of s.finished q ≡ set_of k.opening.finished q)) where
    abbrev last : Table
    last = record { words = words; homes = map maybe.some slots; views = v ∷ [] }

    tracing : Tracing k last
    tracing = e.closed.tracing turn

    classes_same : s.classes ≡ k.opening.classes
    classes_same = ap (λ (x : Layout). x.classes) same

    there_back : (a : ℕ) → IsAllocated s a → IsAllocated k.opening a
    there_back a there = subst (λ (x : Layout). IsAllocated x a) same there

    there_out : (a : ℕ) → IsAllocated k.opening a → IsAllocated s a
    there_out a there = subst (λ (x : Layout). IsAllocated x a) (sym same) there

    inside : (a : ℕ) → IsAllocated k.opening a → page_of a < pages_of k
    inside = cell_near k whole parts e.rest e.layout e.pool e.nursery e.frames v e.gathered.hand e.gathered.rights words slots e.closed headers e.states_are boxes e.box places e.place now e.pool_set

    supers_s : superpages s ≡ superpages k.opening
    supers_s = ap superpages same

    within_all : k.supers ≤ superpages k.opening
    within_all = let many = supers_are in let a = e.rest.within in omega arith

    marked_in : (a : ℕ) → is_marked s a ≡ true → HasMarkBit k words a
    marked_in a marked =
        let on : is_cell k.opening.classes s.marks a ≡ true = subst (λ (cs : List ℕ). is_cell cs s.marks a ≡ true) classes_same marked in
        elim (cases_lt (superpage_of a) k.supers) [
          | inl near_it ↦
              let many = supers_s in
              let all_in = within_all in
              let few = few_bits (set_of s.marks (superpage_of a)) (cell_number (class_at k.opening a) a) (kept_s.each (superpage_of a) (omega arith)).tags.marks.0 (is_cell-bit k.opening.classes s.marks a on) in
              record {
                within = near_it;
                few = few;
                starts = is_cell-start k.opening.classes s.marks a on;
                bit = ap (λ (n : ℕ). bit_at n (bit_place k a)) (sym (marks_are (word_of k a) (omega arith))) ∙ is_set k s.marks a few on;
              }
          | inr past ↦ absurd (
              let was : is_marked k.opening a ≡ true = subst (λ (l : List ℕ). (has l (cell_number (class_at k.opening a) a) && (a % class_at k.opening a == 0)) ≡ true) (marks_behind (superpage_of a) past).0 on in
              let page = inside a (markable.cells a was) in
              omega arith)
        ]

    marked_out : (a : ℕ) → HasMarkBit k words a → is_marked s a ≡ true
    marked_out a m = subst (λ (cs : List ℕ). is_cell cs s.marks a ≡ true) (sym classes_same)
        (cell_is k s.marks a m.few m.starts (ap (λ (n : ℕ). bit_at n (bit_place k a)) (marks_are (word_of k a) (let lt = m.within in let few = m.few in omega arith)) ∙ m.bit))

    finished_in : (a : ℕ) → IsAllocated k.opening a → is_finished s a ≡ true → IsFinishedIn k words a
    finished_in a there done =
        let page = inside a there in
        let few = taken-few k.opening a layout (inl there) in
        let near_it : superpage_of a < k.supers = omega arith in
        record {
          within = near_it;
          few = few;
          bit = ap (λ (n : ℕ). bit_at n (bit_place k a)) (sym (finished_are (word_of k a) (omega arith))) ∙ is_set k s.finished a few (subst (λ (cs : List ℕ). is_cell cs s.finished a ≡ true) classes_same done);
        }

    memory_same : (a : ℕ) → IsAllocated k.opening a → memory s a ≡ memory k.opening a
    memory_same a there =
        ap (λ (x : Layout). memory x a) same
        ∙ ap (λ (l : List ℕ). if is_cell k.opening.classes k.opening.cells a then Some (cell_on l (offset_of a)) else None) (c.unowned (page_of a) (inside a there) (unheld turn (page_of a)))

    leads_back : (a b : ℕ) → RefersToCell s a b → RefersToCell k.opening a b
    leads_back a b l =
        let there = there_back a (there_is s a l.object l.is) in
        record { object = l.object; is = sym (memory_same a there) ∙ l.is; index = l.index; refers = l.refers; there = there_back b l.there }

    leads_out : (a b : ℕ) → RefersToCell k.opening a b → RefersToCell s a b
    leads_out a b l = record { object = l.object; is = memory_same a (there_is k.opening a l.object l.is) ∙ l.is; index = l.index; refers = l.refers; there = there_out b l.there }

    gone_is : (p : ℕ) → p < pages_of k → state_at s.states p ≡ state.Gone → get_or words (page_at p) 0 ≡ 4
    gone_is p lt gone = sym (word_is p lt) ∙ ap state_word (sym (ap (λ (x : Layout). state_at x.states p) same) ∙ gone)

    bookmark_is : (w b : ℕ) → w < 16 * k.supers → bit_at (slice_index (set_of s.bookmarks (w / 16)) (w % 16)) b ≡ bookmark_bit k words w b
    bookmark_is w b lt =
        let back : 16 * (w / 16) + w % 16 ≡ w = omega arith in
        ap (λ (x : Layout). bit_at (slice_index (set_of x.bookmarks (w / 16)) (w % 16)) b) same
        ∙ bit_is (w / 16) (w % 16) b (omega arith) (omega arith) ∙ ap (λ (n : ℕ). bookmark_bit k words n b) back

    bookmarked_out : (a : ℕ) → HasBookmarkBit k words a → is_bookmarked s a ≡ true
    bookmarked_out a m = subst (λ (cs : List ℕ). is_cell cs s.bookmarks a ≡ true) (sym classes_same)
        (cell_is k s.bookmarks a m.few m.starts (bookmark_is (word_of k a) (bit_place k a) (let lt = m.within in let few = m.few in omega arith) ∙ m.bit))

    due_s : (a : ℕ) → is_marked s a ≡ true → Reach (λ x. (is_marked k.opening x ≡ true) ⊎ (is_bookmarked s x ≡ true)) (λ x y. (state_at s.states (page_of x) ≢ state.Gone) × RefersToCell s x y) a
    due_s a marked = Reach-mono (StartsMarks k last) (λ x. (is_marked k.opening x ≡ true) ⊎ (is_bookmarked s x ≡ true)) (LeadsHere k last) (λ x y. (state_at s.states (page_of x) ≢ state.Gone) × RefersToCell s x y)
        (λ x start. elim start [ inl was ↦ inl was | inr set ↦ inr (bookmarked_out x set) ])
        (λ x y l. ((λ gone. l.1 (gone_is (page_of x) l.0 gone)), leads_out x y l.2))
        a (tracing.due a (marked_in a marked))

    -- what is bookmarked, and wasn't at the opening, is a target of a page that went, and so it is marked
    new_marked : (a : ℕ) → is_bookmarked s a ≡ true → is_bookmarked k.opening a ≡ false → is_marked s a ≡ true
    new_marked a set fresh_bit =
        let on : is_cell k.opening.classes s.bookmarks a ≡ true = subst (λ (cs : List ℕ). is_cell cs s.bookmarks a ≡ true) classes_same set in
        elim (cases_lt (superpage_of a) k.supers) [
          | inl near_it ↦
              let many = supers_s in
              let all_in = within_all in
              let starts = is_cell-start k.opening.classes s.bookmarks a on in
              let few = few_bits (set_of s.bookmarks (superpage_of a)) (cell_number (class_at k.opening a) a) (kept_s.each (superpage_of a) (omega arith)).tags.bookmarks.0 (is_cell-bit k.opening.classes s.bookmarks a on) in
              let w : ℕ = word_of k a in
              let b : ℕ = bit_place k a in
              let lt : w < 16 * k.supers = omega arith in
              let one : bit_at (slice_index (set_of s.bookmarks (w / 16)) (w % 16)) b ≡ 1 = is_set k s.bookmarks a few on in
              let made_one : bit_at (slice_index (set_of (made reads).bookmarks (w / 16)) (w % 16)) b ≡ 1 = sym (ap (λ (x : Layout). bit_at (slice_index (set_of x.bookmarks (w / 16)) (w % 16)) b) same) ∙ one in
              let zero_bit : opened_bit k w b ≡ 0 = elim (cases_lt 0 (opened_bit k w b)) [
                | inl was ↦ absurd (clash (sym fresh_bit ∙ cell_is k k.opening.bookmarks a few starts (let z = bit_few (slice_index (set_of k.opening.bookmarks (w / 16)) (w % 16)) b in omega arith)))
                | inr none_was ↦ omega arith
              ] in
              let left = (c.bits w b lt (omega arith)).new (bit_in (set_of (made reads).bookmarks (w / 16)) (w % 16) b (omega arith) made_one) zero_bit in
              marked_out a (target_marked a near_it few starts left)
          | inr past ↦ absurd (clash (sym fresh_bit ∙ subst (λ (l : List ℕ). (has l (cell_number (class_at k.opening a) a) && (a % class_at k.opening a == 0)) ≡ true)
              (ap (λ (x : Layout). set_of x.bookmarks (superpage_of a)) same ∙ c.bits_behind (superpage_of a) past) on))
        ]
      where
        target_marked : (a : ℕ) → superpage_of a < k.supers → cell_number (class_at k.opening a) a < 1024 → a % class_at k.opening a ≡ 0 → IsOfPageLeft k all (made reads) (word_of k a) (bit_place k a) → HasMarkBit k words a
        target_marked a near_it few starts left =
            let p : ℕ = left.page in
            let none_fetched : times p v.fetched ≡ 0 = e.closed.unfetched turn p in
            let still = left.still (let got = e.gathered.fetched p in omega arith) in
            let bit = still.1 in
            let x : ℕ = bit.address in
            let content = c.unowned p left.inside (unheld turn p) in
            let target : is_target (objects_in k.opening (opened_content k p)) p x ≡ true = subst (λ (l : List ℕ). is_target (objects_in k.opening l) p x ≡ true) content bit.target in
            let fixed : IsContent k.opening p (opened_content k p) = subst (IsContent k.opening p) content (c.fixed p left.inside) in
            let all_in = within_all in
            let there = target_cell k.opening p (opened_content k p) x fixed (let q_same = bit.superpage in let n_few = near_it in omega arith) target in
            let is : x ≡ a = same_address k (word_of k a) (bit_place k a) a x layout starts refl refl few (record { there = there; superpage = bit.superpage; number = bit.number }) in
            let r = target-refers (objects_in k.opening (opened_content k p)) p x target in
            let word : get_or words (page_at p) 0 ≡ 4 = sym (word_is p left.inside) ∙ ap state_word still.0 in
            let standing = (e.closed.pages p left.inside).standing.gone in
            let sum = e.gathered.left p in
            let some_left = left.left in
            let now_four : one_if (get_or words (page_at p) 0 == 4) ≡ 1 = ap (λ (n : ℕ). one_if (n == 4)) word in
            let new_gone : opened_word k p ≢ 4 = λ four. (let was : one_if (opened_word k p == 4) ≡ 1 = ap (λ (n : ℕ). one_if (n == 4)) four in omega arith) in
            let leads : RefersToCell k.opening r.address x = record { object = r.object; is = sym (objects_at k.opening k.opening.pages p (opened_content k p) refl r.address r.on) ∙ r.is; index = r.index; refers = r.refers; there = there } in
            subst (HasMarkBit k words) is (tracing.gone r.address x (subst (WentGone k last) (sym r.on) (left.inside, word, new_gone)) leads)

    pub marks_closed : ClosedMarks k all s
    marks_closed = record {
      bare = made reads;
      closed = c;
      same = same;
      won = λ w b lt few. ap (λ (n : ℕ). bit_at n b) (marks_are w lt) ∙ tracing.won w b lt few ∙ (let sum = e.gathered.won w b in omega arith);
      ended = λ w b lt few on. let sum = e.gathered.finished w b in let was = tracing.ended w b lt few (subst (λ (n : ℕ). 0 < bit_at n b) (finished_are w lt) on) in omega arith;
      stays = λ w b lt few on. ap (λ (n : ℕ). bit_at n b) (finished_are w lt) ∙ tracing.stays w b lt few (let sum = e.gathered.finished w b in omega arith);
      behind = marks_behind;
      markable = record {
        cells = λ a marked. there_out a (tracing.cell a (marked_in a marked));
        closed = λ a b done l.
            let back = leads_back a b l in
            marked_out b (tracing.closed a b (finished_in a (there_is k.opening a back.object back.is) done) back);
      };
      due = due_s;
      unfetched = λ p. let got = e.gathered.fetched p in let none_is = e.closed.unfetched turn p in omega arith;
      read_marks = λ w n b lt some few.
          let sum = e.gathered.read (mark_at k w) n in
          let between = (e.closed.knows turn).marks w lt n b (omega arith) few in
          (between.0, subst (λ (x : ℕ). bit_at n b ≤ bit_at x b) (sym (marks_are w lt)) between.1);
      read_finished = λ w n b lt some few.
          let sum = e.gathered.read (finished_at k w) n in
          let between = (e.closed.knows turn).finished w lt n b (omega arith) few in
          (between.0, subst (λ (x : ℕ). bit_at n b ≤ bit_at x b) (sym (finished_are w lt)) between.1);
      new = λ a set. elim (cases_Bool (is_bookmarked k.opening a)) [ inl was ↦ inl was | inr fresh_bit ↦ inr (new_marked a set fresh_bit) ];
    }

-- it is known from what each step of a closing says
pub ended_from : (id : TableId) (k : Key) (all : List Seat) (root : Worker Lodged View) (r : RestView) (whole parts : SpaceParts) (n : ℕ) (ws : List ℕ) (xs : List Lodged) (headers : List Header) (sup start from : ℕ) (lanes : Bool) (now : List Bool) (st : StoreView) (boxes : List (Option Homed)) (places : List (Option (List ℕ)))
    → whole ≡ r.whole → n ≡ r.pages → IsRest whole parts n → r.pages ≡ pages_of k → parts_layout r.whole ≡ k.opening → r.whole.pool ≡ k.pool → r.whole.nursery.items ≡ k.nursery → k.frames ≡ length k.pool
    → Gathered id k all [] root → Final (Seen (Ruled k) root.id root.me.0) ws xs → HeadersBelow parts.headers.items headers sup sup from lanes ws → sup ≡ k.supers → start ≡ frame_at k 0 → PoolSet parts.pool now (length parts.pool) start ws → st.places ≡ parts.store.places
    → Replaced None parts.boxes.items boxes n (λ p. box_of (get_or xs (home_slot p) Nothing)) → Replaced None st.places places n (λ p. place_of (get_or xs (home_slot p + 4) Nothing))
    → Ended id k all root whole parts ws xs (bare parts.headers.items headers) boxes places now
ended_from id k all root r whole parts n ws xs headers sup start from lanes now st boxes places is count rest paged layout pool nursery frames gathered final set supers starts freed stored box place =
    let size : n ≡ pages_of k = count ∙ paged in
    let rest_now : IsRest whole parts (pages_of k) = subst (IsRest whole parts) size rest in
    record {
      rest = rest_now;
      layout = ap parts_layout is ∙ layout;
      pool = ap (λ (p : SpaceParts). p.pool) is ∙ pool;
      nursery = ap (λ (p : SpaceParts). p.nursery.items) is ∙ nursery;
      frames = frames;
      gathered = gathered;
      closed = gathered_ends id k all root ws xs gathered final;
      states_are = subst (λ (hs : List Header). HeadersSet k hs (bare parts.headers.items headers) ws) rest_now.emptied.headers
          (headers_set parts.headers.items headers sup from lanes ws (let a = rest_now.within in let b = ap length rest_now.emptied.headers in omega arith) set k supers);
      pool_set = subst (λ (l : List Bool). PoolSet l now (length l) (frame_at k 0) ws) rest_now.emptied.pool
          (subst (λ (i : ℕ). PoolSet parts.pool now (length parts.pool) i ws) starts freed);
      box = subst (λ (m : ℕ). Replaced None parts.boxes.items boxes m (λ p. box_of (get_or xs (home_slot p) Nothing))) size box;
      place = subst (λ (m : ℕ). Replaced None parts.store.places places m (λ p. place_of (get_or xs (home_slot p + 4) Nothing))) size
          (subst (λ (o : List (Option (List ℕ))). Replaced None o places n (λ p. place_of (get_or xs (home_slot p + 4) Nothing))) stored place);
    }

-- and with marks
pub ended_marks : (id : TableId) (k : Key) (all : List Seat) (root : Worker Lodged View) (whole parts : SpaceParts) (words : List ℕ) (slots : List Lodged) (headers : List Header) (boxes : List (Option Homed)) (places : List (Option (List ℕ))) (now : List Bool)
    → (e : Ended id k all root whole parts words slots headers boxes places now) (united stored : StoreView) (f : SpaceParts) (s : Layout) (told : List ℕ) (supers start : ℕ)
    → united ≡ record parts.store { reads = min (parts.store.reads + fetches_of all) (2 ^ 64 - 1) } → stored ≡ record united { places = places }
    → Together whole headers boxes places now stored.reads f → k.lanes ≡ false → IsUnheld k → IsMarkable k.opening → told ≡ words → supers ≡ k.supers → start ≡ mark_at k 0 → LaidSpace (parts_layout f) s supers start told → ClosedMarks k all s
ended_marks id k all root whole parts words slots headers boxes places now e united stored f s told supers start counted put together turn unheld markable told_is supers_is start_is laid =
    let reads_put : stored.reads ≡ united.reads = ap (λ (x : StoreView). x.reads) put in
    let reads_counted : united.reads ≡ min (parts.store.reads + fetches_of all) (2 ^ 64 - 1) = ap (λ (x : StoreView). x.reads) counted in
    let reads_left : parts.store.reads ≡ whole.store.reads = e.rest.emptied.reads in
    let reads_whole : whole.store.reads ≡ k.opening.reads = ap (λ (x : Layout). x.reads) e.layout in
    let made_is = ended_layout id k all root whole parts words slots headers boxes places now e stored.reads f together in
    let l : LaidSpace (parts_layout f) s k.supers (mark_at k 0) words = subst (LaidSpace (parts_layout f) s k.supers (mark_at k 0)) told_is (subst (λ (i : ℕ). LaidSpace (parts_layout f) s k.supers i told) start_is (subst (λ (n : ℕ). LaidSpace (parts_layout f) s n start told) supers_is laid)) in
    marks_closed id k all root whole parts words slots headers boxes places now e turn unheld markable stored.reads
    (ended_closed id k all root whole parts words slots headers boxes places now e stored.reads (omega arith)) s l.layout
    (l.same ∙ ap (λ (x : Layout). record x { marks = s.marks; finished = s.finished }) made_is)
    (λ w lt. l.marks w lt ∙ (let z : mark_at k 0 + w ≡ mark_at k w = omega arith in ap (λ (i : ℕ). get_or words i 0) z))
    (λ w lt. l.finished w lt ∙ (let z : mark_at k 0 + (16 * k.supers + w) ≡ finished_at k w = omega arith in ap (λ (i : ℕ). get_or words i 0) z))
    (λ q le. let b = l.behind q le in (b.0 ∙ ap (λ (x : Layout). set_of x.marks q) made_is, b.1 ∙ ap (λ (x : Layout). set_of x.finished q) made_is))

-- the space that is put together of the parts
pub ended_space : (id : TableId) (k : Key) (all : List Seat) (root : Worker Lodged View) (whole parts : SpaceParts) (words : List ℕ) (slots : List Lodged) (headers : List Header) (boxes : List (Option Homed)) (places : List (Option (List ℕ))) (now : List Bool)
    → (e : Ended id k all root whole parts words slots headers boxes places now) (united stored : StoreView) (f : SpaceParts) (s : Layout)
    → united ≡ record parts.store { reads = min (parts.store.reads + fetches_of all) (2 ^ 64 - 1) } → stored ≡ record united { places = places }
    → Together whole headers boxes places now stored.reads f → s ≡ parts_layout f → Closed k all s
ended_space id k all root whole parts words slots headers boxes places now e united stored f s counted put together is =
    let reads_put : stored.reads ≡ united.reads = ap (λ (x : StoreView). x.reads) put in
    let reads_counted : united.reads ≡ min (parts.store.reads + fetches_of all) (2 ^ 64 - 1) = ap (λ (x : StoreView). x.reads) counted in
    let reads_left : parts.store.reads ≡ whole.store.reads = e.rest.emptied.reads in
    let reads_whole : whole.store.reads ≡ k.opening.reads = ap (λ (x : Layout). x.reads) e.layout in
    subst (Closed k all) (sym (is ∙ ended_layout id k all root whole parts words slots headers boxes places now e stored.reads f together))
    (ended_closed id k all root whole parts words slots headers boxes places now e stored.reads (omega arith))
