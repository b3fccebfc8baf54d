-- What a closed table makes of the pages that pagers' answers name, and of those that lanes moved.
use Rattle.std.proofs.Common.{◌≡◌, ℕ, ◌+◌, ◌-◌, ◌*◌, ◌^◌, ◌<◌, ◌≤◌, ◌==◌, true, min, List, [], ◌∷◌, ◌++◌, length, replicate, inl, inr, refl, ap, sym, subst, ◌∙◌, arith}
use Rattle.std.proofs.lemmas.Bool.{cases_lt}
use Rattle.std.proofs.lemmas.List.{length-replicate}
use Rattle.bc_bits.specs.Counting.{one_if}
use Rattle.bc_pager.specs.Answering.{says_declined, says_discarded, says_evicted}
use Rattle.bc_pager.specs.Placing.{AnsweredByPagers, Paged}
use Rattle.bc_pager.specs.declared.answers.Answer.{Answer}
use Rattle.bc_pager.specs.declared.notices.Notice.{Notice}
use Rattle.bc_pins.specs.Calls.{view_of}
use Rattle.bc_pins.specs.Closing.{Closed, fetches_of}
use Rattle.bc_pins.specs.Facts.{has_bit_of, puts_with}
use Rattle.bc_pins.specs.Key.{Key, pages_of}
use Rattle.bc_pins.specs.Steps.{no_key}
use Rattle.bc_pins.specs.Totals.{times, total}
use Rattle.bc_pins.specs.Views.{opened_state, state_word}
use Rattle.bc_pins.specs.declared.pins.Seat.{Seat}
use Rattle.bc_superpages.specs.declared.headers.PageState.{PageState}
use Rattle.bc_superpages.specs.declared.headers.PageState.TheVariants.{Absent, Gone, Held, Home, Remembered}
use Rattle.bc_superpages.specs.Kept.{IsLayout}
use Rattle.bc_superpages.specs.Layout.{Layout, superpages}
use Rattle.bc_superpages.specs.LayoutAt.{state_at}
use Rattle.bc_turn.proofs.NewBitLemmas.{bits-none, new-bits}
use Rattle.bc_pins.proofs.TallyLemmas.{ge-nat_lt}
use Rattle.bc_pager.proofs.HomeLemmas.{state-behind}
use Rattle.bc_pager.proofs.ToldLemmas.{told-none}
use Rattle.bc_pins.proofs.TotalLemmas.{total_append}
use Rattle.bc_turn.specs.Answered.{AnsweredBeside, AnsweredLive, is_in}
use Rattle.bc_turn.proofs.LiveLemmas.{live-absent, live-far}

-- a state by its word
pub is-gone : (st : PageState) → 0 < one_if (state_word st == 4) → st ≡ Gone
is-gone Absent lt = absurd (omega arith)
is-gone Home lt = absurd (omega arith)
is-gone Remembered lt = absurd (omega arith)
is-gone Held lt = absurd (omega arith)
is-gone Gone lt = refl

-- what the seats have between them of the pages that were made Gone, made Absent and taken from Gone is what the answers say and what lists
-- of the lanes have, none returned a page of another's, and the lanes made no more Gone and Absent than they took
pub record AreMoved (k : Key) (seats : List Seat) (told : List Answer) (fetched left emptied : List ℕ) : Type 0 where
  pub fetched_are : (p : ℕ) → total (λ (seat : Seat). times p (view_of seat).fetched) seats ≡ times p fetched
  pub left_are : (p : ℕ) → total (λ (seat : Seat). times p (view_of seat).left) seats ≡ total (says_evicted p) told + times p left
  pub emptied_are : (p : ℕ) → total (λ (seat : Seat). times p (view_of seat).emptied) seats ≡ total (says_discarded p) told + times p emptied
  pub counted : fetches_of seats ≡ length fetched
  pub few : length left + length emptied ≤ length fetched
  pub far : (p : ℕ) → pages_of k ≤ p → (times p left ≡ 0) × (times p emptied ≡ 0) × (times p fetched ≡ 0)

module _ (k : Key) (s t : Layout) (seats : List Seat) (opening : k.opening ≡ s) (closed : Closed k seats t) (before : IsLayout s) (after : IsLayout t) where
  opened-as : (p : ℕ) → state_at s.states p ≡ opened_state k p
  opened-as p = ap (λ (x : Layout). state_at x.states p) (sym opening)

  -- a page past the table
  pub far-same : (p : ℕ) → pages_of k ≤ p → state_at t.states p ≡ state_at s.states p
  far-same p far = elim (cases_lt p (4 * superpages k.opening)) [
    | inl inside ↦ (closed.behind p far inside).0 ∙ sym (opened-as p)
    | inr out ↦
        let supers : superpages t ≡ superpages k.opening = ap superpages closed.same in
        let supers_s : superpages s ≡ superpages k.opening = ap superpages (sym opening) in
        state-behind t p after.long.states (omega arith) ∙ sym (state-behind s p before.long.states (omega arith))
  ]

  module _ (told : List Answer) (fetched left emptied : List ℕ) (moved : AreMoved k seats told fetched left emptied)
      (none : (p : ℕ) → pages_of k ≤ p → (total (says_evicted p) told ≡ 0) × (total (says_discarded p) told ≡ 0)) where
    -- how often a page is Gone, or Absent
    pub gone-count : (p : ℕ) → is_in Gone t p + times p fetched ≡ is_in Gone s p + (total (says_evicted p) told + times p left)
    gone-count p = elim (cases_lt p (pages_of k)) [
      | inl near ↦
          let all = (closed.states_are p near).gone in
          let fetched_is = moved.fetched_are p in
          let left_is = moved.left_are p in
          let same = ap (λ (st : PageState). one_if (state_word st == 4)) (opened-as p) in
          omega arith
      | inr past ↦
          let same = ap (λ (st : PageState). one_if (state_word st == 4)) (far-same p past) in
          let no_answer = (none p past).0 in
          let no_left = (moved.far p past).0 in
          let no_fetched = (moved.far p past).2 in
          omega arith
    ]

    pub absent-count : (p : ℕ) → is_in Absent t p ≡ is_in Absent s p + (total (says_discarded p) told + times p emptied)
    absent-count p = elim (cases_lt p (pages_of k)) [
      | inl near ↦
          let all = (closed.states_are p near).absent in
          let emptied_is = moved.emptied_are p in
          let same = ap (λ (st : PageState). one_if (state_word st == 0)) (opened-as p) in
          omega arith
      | inr past ↦
          let same = ap (λ (st : PageState). one_if (state_word st == 0)) (far-same p past) in
          let no_answer = (none p past).1 in
          let no_emptied = (moved.far p past).1 in
          omega arith
    ]

-- the notices were answered beside the lanes
pub answered : (IsLooked : ℕ → Type 0) (Had : ℕ → List ℕ → Type 0) (most : ℕ) (k : Key) (s t : Layout) (seats : List Seat) (hints : List ℕ) (kept after : List Answer) (pagers : List Paged) (told : List Answer) (lived : List Answer) (fed : List Notice) (live : List Answer) (live_told : List Answer) (fetched left emptied : List ℕ)
    → k.opening ≡ s → k.frames ≡ s.frames → length k.nursery ≡ s.nursery → Closed k seats t → IsLayout s → IsLayout t
    → AreMoved k seats (told ++ live_told) fetched left emptied → after ≡ kept ++ told → AnsweredByPagers k hints pagers told → live ≡ lived ++ live_told → AnsweredLive k (length pagers) fed live_told
    → length fetched ≤ most → ((p : ℕ) → 0 < times p fetched → IsLooked p) → (0 < total says_declined (told ++ live_told) → (p : ℕ) → state_at t.states p ≡ Home → IsLooked p) → ((p w b : ℕ) → 0 < total (λ (seat : Seat). puts_with k p w b (view_of seat).changed) seats → (content : List ℕ) × Had p content × (has_bit_of k p content w b ≡ true)) → AnsweredBeside IsLooked Had most s hints kept after t lived fed live
answered IsLooked Had most k s t seats hints kept after pagers told lived fed live live_told fetched left emptied opening frames unused closed before layout moved is shared live_is lives once own declined put =
    let none : (p : ℕ) → pages_of k ≤ p → (total (says_evicted p) (told ++ live_told) ≡ 0) × (total (says_discarded p) (told ++ live_told) ≡ 0) =
    λ p far.
    let others = told-none k hints pagers told shared p far in
    let last = live-far k (length pagers) fed live_told lives p far in
    let gone = total_append (says_evicted p) told live_told in
    let absent = total_append (says_discarded p) told live_told in
    let a = others.0 in
    let b = others.1 in
    let c = last.0 in
    let d = last.1 in (omega arith, omega arith)
    in
    record {
      key = k;
      opening = opening;
      frames = frames;
      unused = unused;
      pagers = pagers;
      told = told;
      kept = is;
      shared = shared;
      live_told = live_told;
      live_kept = live_is;
      live_pager = lives;
      fetched = fetched;
      left = left;
      emptied = emptied;
      once = once;
      few = moved.few;
      own = own;
      gone = gone-count k s t seats opening closed before layout (told ++ live_told) fetched left emptied moved none;
      absent = absent-count k s t seats opening closed before layout (told ++ live_told) fetched left emptied moved none;
      declined = declined;
      bookmarks = new-bits k s t seats (told ++ live_told) left fetched opening closed before layout moved.fetched_are moved.left_are Had put;
      reads = (
          let all = closed.reads in
          let same = ap (λ (x : Layout). x.reads) opening in
          let count = moved.counted in
          let goal_is : t.reads ≡ min (s.reads + length fetched) (2 ^ 64 - 1) = omega arith in
          goal_is
          );
    }

append-nil : (xs : List Answer) → xs ≡ xs ++ []
append-nil [] = refl
append-nil (x ∷ xs) = ap (λ (list_left : List Answer). x ∷ list_left) (append-nil xs)

no-hints : (hints : List ℕ) → length hints ≡ 0 → hints ≡ []
no-hints [] none = refl
no-hints (h ∷ hints) none = absurd (omega arith)

-- where there are no notices and no more may come, none is answered
pub answered-none : (IsLooked : ℕ → Type 0) (Had : ℕ → List ℕ → Type 0) (s : Layout) (hints : List ℕ) (kept lived : List Answer) → s.reads < 2 ^ 64 → length hints ≡ 0 → AnsweredBeside IsLooked Had 0 s hints kept kept s lived [] lived
answered-none IsLooked Had s hints kept lived small none =
    let k : Key = record no_key { opening = s; frames = s.frames; nursery = replicate s.nursery 0 } in
    let lives = live-absent k 0 in
    record {
      key = k;
      opening = refl;
      frames = refl;
      unused = length-replicate s.nursery 0;
      pagers = [];
      told = [];
      kept = append-nil kept;
      shared = subst (λ (hs : List ℕ). AnsweredByPagers k hs [] []) (sym (no-hints hints none)) (record { few = refl; each = λ i lt. absurd (omega arith); once = λ n. sym (ap one_if (ge-nat_lt n 0 (omega arith))); long = refl; placed = tt });
      live_told = [];
      live_kept = append-nil lived;
      live_pager = lives;
      fetched = [];
      left = [];
      emptied = [];
      once = omega arith;
      few = omega arith;
      own = λ p some. absurd (omega arith);
      gone = λ p. omega arith;
      absent = λ p. omega arith;
      declined = λ some. absurd (omega arith);
      bookmarks = bits-none Had s;
      reads = (let goal_is : s.reads ≡ min (s.reads + 0) (2 ^ 64 - 1) = omega arith in goal_is);
    }

-- where no page is looked at, none had another content, and none was reloaded, it is so whatever is said of those that are and had, and were
pub answered-lanes : (IsLooked : ℕ → Type 0) (Had : ℕ → List ℕ → Type 0) (most : ℕ) (s : Layout) (hints : List ℕ) (kept after : List Answer) (t : Layout) (lived : List Answer) (fed : List Notice) (live : List Answer)
    → AnsweredBeside (λ p. ⊥) (λ p content. ⊥) 0 s hints kept after t lived fed live → AnsweredBeside IsLooked Had most s hints kept after t lived fed live
answered-lanes IsLooked Had most s hints kept after t lived fed live is = record {
  key = is.key;
  opening = is.opening;
  frames = is.frames;
  unused = is.unused;
  pagers = is.pagers;
  told = is.told;
  kept = is.kept;
  shared = is.shared;
  live_told = is.live_told;
  live_kept = is.live_kept;
  live_pager = is.live_pager;
  fetched = is.fetched;
  left = is.left;
  emptied = is.emptied;
  once = (let none = is.once in omega arith);
  few = is.few;
  own = λ p some. absurd (is.own p some);
  gone = is.gone;
  absent = is.absent;
  declined = λ some p home. absurd (is.declined some p home);
  bookmarks = record {
    stay = is.bookmarks.stay;
    only = λ q b on. elim (is.bookmarks.only q b on) [
      | inl was ↦ inl was
      | inr new ↦ inr (record {
        page = new.page;
        left_is = new.left_is;
        content = new.content;
        had = elim new.had [ inl first ↦ inl first | inr later ↦ absurd later ];
        target = new.target;
        still = new.still;
      })
    ];
  };
  reads = is.reads;
}
