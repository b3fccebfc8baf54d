-- What a closed table gives back is what the lanes' operations made, one lane after another.
use Rattle.std.proofs.Common.{◌≡◌, ◌≢◌, ℕ, ◌+◌, ◌*◌, ◌/◌, ◌<◌, ◌≤◌, ◌==◌, List, [], ◌∷◌, ◌++◌, length, map, get_or, inl, inr, refl, ap, sym, subst, ◌∙◌, arith}
use Rattle.std.proofs.lemmas.Bool.{cases_lt}
use Prim.Native.Nat.{zero, suc}
use Rattle.std.proofs.lemmas.List.{ext_get_or, map-append}
use Rattle.bc_bits.specs.Counting.{one_if}
use Rattle.bc_lane.specs.Back.{back_state, heap_back}
use Rattle.bc_lane.specs.Shown.{IsOwnPage, ShowsPage}
use Rattle.bc_lane.proofs.BackLemmas.{back-state, remembered-to}
use Rattle.bc_lane.proofs.OpenLemmas.{remembered-word}
use Rattle.bc_model.specs.State.{holder_of}
use Rattle.bc_model.specs.declared.values.Holder.{Holder}
use Rattle.bc_model.specs.declared.values.Holder.TheVariants.{Frozen, Lane}
use Rattle.bc_pins.specs.Calls.{view_of}
use Rattle.bc_pins.specs.Closing.{Closed}
use Rattle.bc_pins.specs.Key.{Key, lane_role, owner, owner_role, pages_of, role_number}
use Rattle.bc_pins.specs.Opening.{IsOpenable}
use Rattle.bc_pins.specs.Totals.{times, total}
use Rattle.bc_pins.specs.Views.{entries, has_role, opened_content, opened_state, opened_word, record_of, state_word}
use Rattle.bc_pins.specs.declared.key.Role.TheVariants.{Pager}
use Rattle.bc_pins.specs.declared.pins.Seat.{Seat}
use Rattle.bc_pins.specs.declared.views.View.{View}
use Rattle.bc_pins.proofs.JoinLemmas.{look_none}
use Rattle.bc_pins.proofs.TotalLemmas.{one_other, one_same, times_append, total_in}
use Rattle.bc_reach.specs.Distinct.{Has}
use Rattle.bc_superpages.specs.declared.headers.PageState.{PageState}
use Rattle.bc_superpages.specs.declared.headers.PageState.TheVariants.{Absent, Remembered}
use Rattle.bc_superpages.specs.Kept.{IsLayout}
use Rattle.bc_superpages.specs.Layout.{Layout, content_at, superpages}
use Rattle.bc_superpages.specs.LayoutAt.{state_at}
use Rattle.bc_pager.specs.Paging.{pager_roles}
use Rattle.bc_pager.proofs.HomeLemmas.{state-behind}
use Rattle.bc_turn.proofs.HolderLemmas.{NoneHolds, find-holder, owner-of}
use Rattle.bc_turn.proofs.PassLemmas.{IsOthersPage, Passes}
use Rattle.bc_turn.specs.Beside.{LiesBack}
use Rattle.bc_turn.specs.Taking.{turn_roles}
use Rattle.bc_whole_heap.specs.Heaps.{HeapView}

-- the numbers of the roles of a turn: these lanes, and so many pagers
abbrev pub pager_numbers : ℕ → List ℕ
pager_numbers pagers = map role_number (pager_roles pagers)

abbrev pub turn_numbers : List ℕ → ℕ → List ℕ
turn_numbers busy pagers = map lane_role busy ++ pager_numbers pagers

pub role-numbers : (busy : List ℕ) (pagers : ℕ) → map role_number (turn_roles busy pagers) ≡ turn_numbers busy pagers
role-numbers [] pagers = refl
role-numbers (x ∷ xs) pagers = ap (λ (rs : List ℕ). lane_role x ∷ rs) (role-numbers xs pagers)

pub numbers-more : (n r : ℕ) → times r (pager_numbers (suc n)) ≡ times r (pager_numbers n) + one_if (role_number (Pager n) == r)
numbers-more n r =
    let split = ap (times r) (map-append role_number (pager_roles n) (Pager n ∷ [])) in
    let both = times_append r (pager_numbers n) (role_number (Pager n) ∷ []) in
    omega arith

-- the table is over this space, for lanes who hold the domains so, and has a role for each of these lanes and for so many pagers
pub record IsTurnTable (k : Key) (s : Layout) (hs : List Holder) (busy : List ℕ) (pagers : ℕ) : Type 0 where
  pub opening : k.opening ≡ s
  pub owners : k.owners ≡ map owner_role hs
  pub roles : k.roles ≡ turn_numbers busy pagers
  pub behind : (p : ℕ) → pages_of k ≤ p → state_at s.states p ≡ Absent

-- which pages the seats put back as Remembered: each page of a lane that has a seat was put back so by that seat alone, and no other
-- page was
pub record AreRecorded (k : Key) (busy : List ℕ) (seat : ℕ → Seat) (seats : List Seat) : Type 0 where
  pub mine : (i : ℕ) → i < length busy → (p : ℕ) → 0 < has_role (view_of (seat i)) (owner k p) → total (λ (s : Seat). times p (view_of s).recorded) seats ≡ times p (view_of (seat i)).recorded
  pub nobody : (p : ℕ) → times (owner k p) k.roles ≡ 0 → total (λ (s : Seat). times p (view_of s).recorded) seats ≡ 0

-- the seats when they are back, the lanes' first. What each lane's says of its pages is so in this heap
pub record AreSeatsBack (k : Key) (hs : List Holder) (busy : List ℕ) (m : HeapView) (seat : ℕ → Seat) (seats : List Seat) : Type 0 where
  pub long : length busy ≤ length seats
  pub same : (i : ℕ) → i < length busy → (d : Seat) → get_or seats i d ≡ seat i
  pub about : (i : ℕ) → i < length busy → (view_of (seat i)).about ≡ k
  pub roles : (i : ℕ) → i < length busy → (view_of (seat i)).roles ≡ lane_role (get_or busy i 0) ∷ []
  pub behind : (i : ℕ) → i < length busy → (p : ℕ) → pages_of k ≤ p → (entries p (view_of (seat i)).changed ≡ 0) × (times p (view_of (seat i)).recorded ≡ 0)
  pub shows : (i : ℕ) → i < length busy → (p : ℕ) → IsOwnPage (view_of (seat i)) p → ShowsPage (view_of (seat i)) m.space p
  pub recorded : AreRecorded k busy seat seats

absent-remembered : Absent ≡ Remembered → ⊥
absent-remembered e = cc

-- a role that was given to none of the lanes
pub no-role : (busy : List ℕ) (l : ℕ) → (Has busy l → ⊥) → times (lane_role l) (map lane_role busy) ≡ 0
no-role [] l none = refl
no-role (x ∷ xs) l none =
    let here = one_other (lane_role x) (lane_role l) (λ e. none (inl (omega arith))) in
    let rest = no-role xs l (λ has. none (inr has)) in
    omega arith

nobody-role : (busy : List ℕ) → times 0 (map lane_role busy) ≡ 0
nobody-role [] = refl
nobody-role (x ∷ xs) =
    let here = one_other (lane_role x) 0 (λ e. absurd (omega arith)) in
    let rest = nobody-role xs in
    omega arith

-- a number that no pager has
pub no-pager : (n r : ℕ) → ((i : ℕ) → i < n → role_number (Pager i) ≢ r) → times r (pager_numbers n) ≡ 0
no-pager zero r none = refl
no-pager (suc n) r none =
    let all = numbers-more n r in
    let here = one_other (role_number (Pager n)) r (none n (omega arith)) in
    let rest = no-pager n r (λ i lt. none i (omega arith)) in
    omega arith

-- nor was it a pager's, and a pager holds no domain
no-lane : (busy : List ℕ) (pagers l : ℕ) → (Has busy l → ⊥) → times (lane_role l) (turn_numbers busy pagers) ≡ 0
no-lane busy pagers l none =
    let both = times_append (lane_role l) (map lane_role busy) (pager_numbers pagers) in
    let lanes = no-role busy l none in
    let pager = no-pager pagers (lane_role l) (λ i lt e. absurd (omega arith)) in
    omega arith

pub no-owner : (busy : List ℕ) (pagers : ℕ) → times 0 (turn_numbers busy pagers) ≡ 0
no-owner busy pagers =
    let both = times_append 0 (map lane_role busy) (pager_numbers pagers) in
    let lanes = nobody-role busy in
    let pager = no-pager pagers 0 (λ i lt e. absurd (omega arith)) in
    omega arith

-- nobody is there whose is what none of the lanes holds
no-holder : (busy : List ℕ) (pagers : ℕ) (x : Holder) → NoneHolds (Has busy) x → times (owner_role x) (turn_numbers busy pagers) ≡ 0
no-holder busy pagers (Lane l) off = no-lane busy pagers l (off l refl)
no-holder busy pagers Frozen off = no-owner busy pagers

module _ (k : Key) (h m : HeapView) (hs : List Holder) (busy : List ℕ) (pagers : ℕ) (seat : ℕ → Seat) (seats : List Seat) (t : Layout)
    (table : IsTurnTable k h.space hs busy pagers) (back : AreSeatsBack k hs busy m seat seats) (passes : Passes hs (Has busy) (heap_back h) m) (closed : Closed k seats t) where
  abbrev view : ℕ → View
  view i = view_of (seat i)

  abbrev domain : ℕ → ℕ
  domain p = get_or k.opening.domains (p / 4) 0

  -- a page of one of the lanes, at the table
  module _ (p i : ℕ) (lt : i < length busy) (held : holder_of hs (domain p) ≡ Lane (get_or busy i 0)) where
    role-is : owner k p ≡ lane_role (get_or busy i 0)
    role-is = ap (λ (l : List ℕ). get_or l (domain p) 0) table.owners ∙ owner-of hs (domain p) ∙ ap owner_role held

    has : 0 < has_role (view i) (owner k p)
    has =
        let one = one_same (lane_role (get_or busy i 0)) in
        subst (λ (r : ℕ). 0 < has_role (view i) r) (sym role-is)
        (subst (λ (rs : List ℕ). 0 < times (lane_role (get_or busy i 0)) rs) (sym (back.roles i lt)) (omega arith))

    own : IsOwnPage (view i) p
    own = subst (λ (a : Key). 0 < has_role (view i) (owner a p)) (sym (back.about i lt)) has

    shown : ShowsPage (view i) m.space p
    shown = back.shows i lt p own

    mine-near : p < pages_of k → content_at t.pages p ≡ content_at m.space.pages p
    mine-near near =
        let in_seats : i < length seats = (let long = back.long in omega arith) in
        closed.mine i in_seats (seat i) p near (subst (λ (s : Seat). 0 < has_role (view_of s) (owner k p)) (sym (back.same i lt (seat i))) has)
        ∙ ap (λ (s : Seat). record_of (view_of s) p) (back.same i lt (seat i)) ∙ sym shown.content

    mine-far : pages_of k ≤ p → p < 4 * superpages k.opening → content_at t.pages p ≡ content_at m.space.pages p
    mine-far far inside =
        (closed.behind p far inside).1
        ∙ sym (shown.content ∙ look_none p (view i).changed (opened_content (view i).about p) (back.behind i lt p far).0 ∙ ap (λ (a : Key). opened_content a p) (back.about i lt))

    mine-remembered : p < pages_of k → state_at m.space.states p ≡ Remembered → state_at t.states p ≡ Remembered
    mine-remembered near is =
        let some = shown.remembered.0 is in
        let same = ap (λ (a : Key). one_if (opened_word a p == 2)) (back.about i lt) in
        let few = total_in (λ (s : Seat). times p (view_of s).recorded) seats i (seat i) (let long = back.long in omega arith) in
        let here = ap (λ (s : Seat). times p (view_of s).recorded) (back.same i lt (seat i)) in
        (closed.states_are p near).remembered (omega arith)

    mine-recorded : p < pages_of k → state_at t.states p ≡ Remembered → state_at m.space.states p ≡ Remembered
    mine-recorded near is =
        let some = (closed.states_are p near).recorded is in
        let all = back.recorded.mine i lt p has in
        let same = ap (λ (a : Key). one_if (opened_word a p == 2)) (back.about i lt) in
        shown.remembered.1 (omega arith)

    mine-behind : pages_of k ≤ p → state_at m.space.states p ≡ Remembered → ⊥
    mine-behind far is =
        let some = shown.remembered.0 is in
        let none = (back.behind i lt p far).1 in
        let absent : opened_state k p ≡ Absent = ap (λ (s : Layout). state_at s.states p) table.opening ∙ table.behind p far in
        let zero_is = ap (λ (st : PageState). one_if (state_word st == 2)) absent in
        let same = ap (λ (a : Key). one_if (opened_word a p == 2)) (back.about i lt) in
        omega arith

  -- and one of nobody who was there
  module _ (p : ℕ) (off : NoneHolds (Has busy) (holder_of hs (domain p))) where
    off-h : IsOthersPage h.space hs (Has busy) p
    off-h = subst (λ (s : Layout). IsOthersPage s hs (Has busy) p) table.opening off

    unowned : times (owner k p) k.roles ≡ 0
    unowned =
        subst (λ (rs : List ℕ). times (owner k p) rs ≡ 0) (sym table.roles)
        (subst (λ (r : ℕ). times r (turn_numbers busy pagers) ≡ 0) (sym (ap (λ (l : List ℕ). get_or l (domain p) 0) table.owners ∙ owner-of hs (domain p)))
        (no-holder busy pagers (holder_of hs (domain p)) off))

    opened-same : content_at m.space.pages p ≡ opened_content k p
    opened-same = (passes.pages p off-h).0 ∙ ap (λ (s : Layout). content_at s.pages p) (sym table.opening)

    opened-state : state_at m.space.states p ≡ back_state (opened_state k p)
    opened-state = (passes.pages p off-h).1 ∙ back-state h.space p ∙ ap (λ (s : Layout). back_state (state_at s.states p)) (sym table.opening)

    left-content : p < 4 * superpages k.opening → content_at t.pages p ≡ content_at m.space.pages p
    left-content inside = elim (cases_lt p (pages_of k)) [
      | inl near ↦ closed.unowned p near unowned ∙ sym opened-same
      | inr far ↦ (closed.behind p far inside).1 ∙ sym opened-same
    ]

    left-remembered : p < pages_of k → state_at m.space.states p ≡ Remembered → state_at t.states p ≡ Remembered
    left-remembered near is =
        let two = ap (λ (st : PageState). one_if (state_word st == 2)) (remembered-to (opened_state k p) (sym opened-state ∙ is)) in
        (closed.states_are p near).remembered (omega arith)

    left-recorded : p < pages_of k → state_at t.states p ≡ Remembered → state_at m.space.states p ≡ Remembered
    left-recorded near is =
        let some = (closed.states_are p near).recorded is in
        let none = back.recorded.nobody p unowned in
        opened-state ∙ ap back_state (remembered-word (opened_state k p) (omega arith))

    left-behind : pages_of k ≤ p → state_at m.space.states p ≡ Remembered → ⊥
    left-behind far is = absent-remembered (sym (opened-state ∙ ap back_state (ap (λ (s : Layout). state_at s.states p) table.opening ∙ table.behind p far)) ∙ is)

  -- every page
  content-same : (p : ℕ) → p < 4 * superpages k.opening → content_at t.pages p ≡ content_at m.space.pages p
  content-same p inside = elim (find-holder busy (holder_of hs (domain p))) [
    | inl r ↦ elim (cases_lt p (pages_of k)) [
      | inl near ↦ mine-near p r.0 r.1 r.2 near
      | inr far ↦ mine-far p r.0 r.1 r.2 far inside
    ]
    | inr none ↦ left-content p none inside
  ]

  remembered-still : (p : ℕ) → state_at m.space.states p ≡ Remembered → state_at t.states p ≡ Remembered
  remembered-still p is = elim (find-holder busy (holder_of hs (domain p))) [
    | inl r ↦ elim (cases_lt p (pages_of k)) [
      | inl near ↦ mine-remembered p r.0 r.1 r.2 near is
      | inr far ↦ absurd (mine-behind p r.0 r.1 r.2 far is)
    ]
    | inr none ↦ elim (cases_lt p (pages_of k)) [
      | inl near ↦ left-remembered p none near is
      | inr far ↦ absurd (left-behind p none far is)
    ]
  ]

  -- and no other page becomes Remembered
  absent-far : IsLayout t → (p : ℕ) → pages_of k ≤ p → state_at t.states p ≡ Absent
  absent-far layout p far = elim (cases_lt p (4 * superpages k.opening)) [
    | inl inside ↦ (closed.behind p far inside).0 ∙ ap (λ (s : Layout). state_at s.states p) table.opening ∙ table.behind p far
    | inr out ↦ let supers : superpages t ≡ superpages k.opening = ap superpages closed.same in state-behind t p layout.long.states (omega arith)
  ]

  remembered-before : IsLayout t → (p : ℕ) → state_at t.states p ≡ Remembered → state_at m.space.states p ≡ Remembered
  remembered-before layout p is = elim (cases_lt p (pages_of k)) [
    | inl near ↦ elim (find-holder busy (holder_of hs (domain p))) [
      | inl r ↦ mine-recorded p r.0 r.1 r.2 near is
      | inr none ↦ left-recorded p none near is
    ]
    | inr far ↦ absurd (absent-remembered (sym (absent-far layout p far) ∙ is))
  ]

  -- so the pages lie back
  pub lies-back : IsLayout t → IsLayout m.space → IsOpenable h.space → LiesBack m.space t
  lies-back layout made openable =
      let supers : superpages t ≡ superpages k.opening = ap superpages closed.same in
      let supers_m : superpages m.space ≡ superpages k.opening = ap superpages passes.space ∙ sym (ap superpages table.opening) in
      let long_t = layout.pages_long in
      let long_m = made.pages_long in
      let pages : t.pages ≡ m.space.pages = ext_get_or [] t.pages m.space.pages (omega arith) (λ p lt. content-same p (omega arith)) in
      record {
        same =
            closed.same
            ∙ ap (λ (s : Layout). record s { states = t.states; pages = t.pages; bookmarks = t.bookmarks; incoming = t.incoming; free = t.free; reads = t.reads }) table.opening
            ∙ ap (λ (ps : List (List ℕ)). record (h.space) { states = t.states; pages = ps; bookmarks = t.bookmarks; incoming = t.incoming; free = t.free; reads = t.reads }) pages
            ∙ ap (λ (s : Layout). record s { states = t.states; free = t.free; bookmarks = t.bookmarks; incoming = t.incoming; reads = t.reads }) (sym passes.space);
        remembered = λ p. (remembered-still p, remembered-before layout p);
        summarised = (closed.openable (subst IsOpenable (sym table.opening) openable)).summarised;
      }
