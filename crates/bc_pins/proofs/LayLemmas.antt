-- Headers into which marks and finished words were written, and a space's parts that have such headers.
use Rattle.std.proofs.Common.{◌≡◌, ℕ, ◌+◌, ◌*◌, ◌/◌, ◌%◌, ◌^◌, ◌<◌, ◌≤◌, List, length, vec_capacity, map, get_or, set, slice_index, get_or-set_same, get_or-set_other, inl, inr, refl, ap, sym, subst, ◌∙◌, arith, []}
use Rattle.std.proofs.lemmas.Bool.{cases_lt, cases_eq}
use Rattle.std.proofs.lemmas.List.{length-set, length-map, get_or_past, get_or-map}
use Rattle.bc_bits.specs.BitChanges.{AreWords}
use Rattle.bc_superpages.specs.declared.headers.Header.{Header}
use Rattle.bc_superpages.specs.declared.headers.PageState.TheVariants.{Absent}
use Rattle.bc_superpages.specs.declared.parts.SpaceParts.{SpaceParts}
use Rattle.bc_superpages.specs.Headers.{unused_header}
use Rattle.bc_superpages.specs.Contents.{contents}
use Rattle.bc_superpages.specs.Kept.{IsCellSet, IsSuperpage, IsKept}
use Rattle.bc_superpages.specs.Layout.{Layout}
use Rattle.bc_superpages.proofs.KeptLemmas.{IsLayout-kept}
use Rattle.bc_superpages.specs.Parts.{state_in, AreParts, parts_layout}
use Rattle.bc_pins.specs.Closing.{MarksSet, MarksBelow, LaysMarks, LaidSpace}
use Rattle.bc_pins.proofs.SpaceLemmas.{part_same}

abbrev at : List Header → ℕ → Header
at hs q = get_or hs q unused_header

-- a list of words with one more written
fits_more : (ws : List ℕ) (j w : ℕ) → j < length ws → w < 2 ^ 64 → AreWords ws → AreWords (set ws j w)
fits_more ws j w lt small fits i = elim (cases_eq i j) [
  | inl e ↦ subst (λ (x : ℕ). x < 2 ^ 64) (sym (ap (λ (a : ℕ). get_or (set ws j w) a 0) e ∙ get_or-set_same ws j w 0 lt)) small
  | inr ne ↦ subst (λ (x : ℕ). x < 2 ^ 64) (sym (get_or-set_other ws j i w 0 ne)) (fits i)
]

told_more : (ws told : List ℕ) (j w n : ℕ) (f : ℕ → ℕ) → j < length ws → n ≡ j + 1 → w ≡ get_or told (f j) 0 → ((i : ℕ) → i < j → get_or ws i 0 ≡ get_or told (f i) 0) → (i : ℕ) → i < n → get_or (set ws j w) i 0 ≡ get_or told (f i) 0
told_more ws told j w n f lt more is old i less = elim (cases_eq i j) [
  | inl e ↦ ap (λ (a : ℕ). get_or (set ws j w) a 0) e ∙ get_or-set_same ws j w 0 lt ∙ is ∙ ap (λ (a : ℕ). get_or told (f a) 0) (sym e)
  | inr ne ↦ get_or-set_other ws j i w 0 ne ∙ old i (omega arith)
]

pub marks_start : (o : Header) (q sup start : ℕ) (ws : List ℕ) → IsCellSet o.marks → IsCellSet o.finished → MarksSet o o q sup start ws 0
marks_start o q sup start ws one two = record { same = refl; marks_set = one; finished_set = two; marks = λ j lt. absurd (omega arith); finished = λ j lt. absurd (omega arith) }

pub marks_step : (o n : Header) (q sup start j w f : ℕ) (ws : List ℕ) → MarksSet o n q sup start ws j → j < 16 → w ≡ get_or ws (start + (16 * q + j)) 0 → w < 2 ^ 64 → f ≡ get_or ws (start + (16 * sup + (16 * q + j))) 0 → f < 2 ^ 64
    → MarksSet o (record n { marks = set n.marks j w; finished = set n.finished j f }) q sup start ws (j + 1)
marks_step o n q sup start j w f ws s few is small is_f small_f =
    let long = s.marks_set.0 in
    let long_f = s.finished_set.0 in
    record {
      same = ap (λ (x : Header). record x { marks = set n.marks j w; finished = set n.finished j f }) s.same;
      marks_set = (length-set n.marks j w ∙ s.marks_set.0, fits_more n.marks j w (omega arith) small s.marks_set.1);
      finished_set = (length-set n.finished j f ∙ s.finished_set.0, fits_more n.finished j f (omega arith) small_f s.finished_set.1);
      marks = told_more n.marks ws j w (j + 1) (λ i. start + (16 * q + i)) (omega arith) refl is s.marks;
      finished = told_more n.finished ws j f (j + 1) (λ i. start + (16 * sup + (16 * q + i))) (omega arith) refl is_f s.finished;
    }

-- parts whose headers have these marks, and are else as they were
module _ (old new : SpaceParts) (kept : AreParts old) (sup start : ℕ) (ws : List ℕ) (within : sup ≤ length old.headers.items) (m : MarksBelow old.headers.items new.headers.items sup sup start ws)
    (boxes : new.boxes.items ≡ old.boxes.items) (pool : new.pool ≡ old.pool) (nursery : new.nursery.items ≡ old.nursery.items) (room : vec_capacity new.nursery ≡ vec_capacity old.nursery) (places : new.store.places ≡ old.store.places) (reads : new.store.reads ≡ old.store.reads) (end : new.end ≡ old.end) where
  abbrev o : List Header
  o = old.headers.items

  abbrev n : List Header
  n = new.headers.items

  header_is : (q : ℕ) → at n q ≡ record (at o q) { marks = (at n q).marks; finished = (at n q).finished }
  header_is q = elim (cases_lt q sup) [
    | inl lt ↦ (m.near q lt).same
    | inr le ↦ subst (λ (x : Header). at n q ≡ record x { marks = (at n q).marks; finished = (at n q).finished }) (m.far q le) refl
  ]

  state_same : (p : ℕ) → state_in n p ≡ state_in o p
  state_same p = ap (λ (h : Header). get_or h.pages (p % 4) Absent) (header_is (p / 4))

  sets_are : (q : ℕ) → q < length n → IsCellSet (at n q).marks × IsCellSet (at n q).finished
  sets_are q lt = elim (cases_lt q sup) [
    | inl near ↦ ((m.near q near).marks_set, (m.near q near).finished_set)
    | inr le ↦
        let size = m.long in
        let tags = (kept.kept.whole q (omega arith)).tags in
        (subst (λ (h : Header). IsCellSet h.marks) (sym (m.far q le)) tags.marks, subst (λ (h : Header). IsCellSet h.finished) (sym (m.far q le)) tags.finished)
  ]

  superpage_kept : (q : ℕ) → q < length n → IsSuperpage (contents old.boxes.items old.store.places) q (at n q)
  superpage_kept q lt =
      let size = m.long in
      let was = kept.kept.whole q (omega arith) in
      let sets = sets_are q lt in
      subst (IsSuperpage (contents old.boxes.items old.store.places) q) (sym (header_is q)) record {
        class = was.class;
        domain = was.domain;
        sets_long = was.sets_long;
        sets_fit = was.sets_fit;
        tags = record { marks = sets.0; finished = sets.1; bookmarks = was.tags.bookmarks; incoming = was.tags.incoming };
        states_long = was.states_long;
        cells_used = was.cells_used;
        promised_used = was.promised_used;
        apart = was.apart;
        not_held = was.not_held;
        not_absent = was.not_absent;
        objects = was.objects;
      }

  kept_now : IsKept n old.boxes.items old.pool old.nursery.items old.store.places
  kept_now = record {
    few = (let a = kept.kept.few in let b = m.long in omega arith);
    boxes_long = (let a = kept.kept.boxes_long in let b = m.long in omega arith);
    places_long = (let a = kept.kept.places_long in let b = m.long in omega arith);
    lies = λ p lt. rw (state_same p) (kept.kept.lies p lt);
    account = kept.kept.account;
    whole = superpage_kept;
  }

  pub laid : LaysMarks old new sup start ws
  laid =
      let size = m.long in
      record {
        kept = record {
          kept = rw (boxes, pool, nursery, places) kept_now;
          ends = record { within = (let a = kept.ends.within in omega arith); absent = λ p le. state_same p ∙ kept.ends.absent p (omega arith) };
          blank = λ q le. ap (λ (h : Header). h.bookmarks) (header_is q) ∙ kept.blank q (omega arith);
          room = rw (pool, room) kept.room;
        };
        same = rw (
          part_same (λ (h : Header). h.used) o n size (λ q. ap (λ (h : Header). h.used) (header_is q)),
          part_same (λ (h : Header). h.domain) o n size (λ q. ap (λ (h : Header). h.domain) (header_is q)),
          part_same (λ (h : Header). h.class) o n size (λ q. ap (λ (h : Header). h.class) (header_is q)),
          part_same (λ (h : Header). h.cells) o n size (λ q. ap (λ (h : Header). h.cells) (header_is q)),
          part_same (λ (h : Header). h.promised) o n size (λ q. ap (λ (h : Header). h.promised) (header_is q)),
          part_same (λ (h : Header). h.bookmarks) o n size (λ q. ap (λ (h : Header). h.bookmarks) (header_is q)),
          part_same (λ (h : Header). h.incoming) o n size (λ q. ap (λ (h : Header). h.incoming) (header_is q)),
          part_same (λ (h : Header). h.pages) o n size (λ q. ap (λ (h : Header). h.pages) (header_is q)),
          boxes,
          pool,
          nursery,
          places,
          reads,
        ) refl;
        marks = λ w lt.
            let back : 16 * (w / 16) + w % 16 ≡ w = omega arith in
            ap (λ (l : List ℕ). slice_index l (w % 16)) (get_or-map (λ (h : Header). h.marks) n (w / 16) unused_header [] (omega arith))
            ∙ (m.near (w / 16) (omega arith)).marks (w % 16) (omega arith) ∙ ap (λ (i : ℕ). get_or ws (start + i) 0) back;
        finished = λ w lt.
            let back : 16 * (w / 16) + w % 16 ≡ w = omega arith in
            ap (λ (l : List ℕ). slice_index l (w % 16)) (get_or-map (λ (h : Header). h.finished) n (w / 16) unused_header [] (omega arith))
            ∙ (m.near (w / 16) (omega arith)).finished (w % 16) (omega arith) ∙ ap (λ (i : ℕ). get_or ws (start + (16 * sup + i)) 0) back;
        behind = λ q le. elim (cases_lt q (length n)) [
          | inl lt ↦ (
            get_or-map (λ (h : Header). h.marks) n q unused_header [] lt ∙ ap (λ (h : Header). h.marks) (m.far q le) ∙ sym (get_or-map (λ (h : Header). h.marks) o q unused_header [] (omega arith)),
            get_or-map (λ (h : Header). h.finished) n q unused_header [] lt ∙ ap (λ (h : Header). h.finished) (m.far q le) ∙ sym (get_or-map (λ (h : Header). h.finished) o q unused_header [] (omega arith)),
          )
          | inr past ↦
              let a = length-map n (λ (h : Header). h.marks) in
              let b = length-map o (λ (h : Header). h.marks) in
              let c = length-map n (λ (h : Header). h.finished) in
              let d = length-map o (λ (h : Header). h.finished) in (
                get_or_past (map (λ (h : Header). h.marks) n) q [] (omega arith) ∙ sym (get_or_past (map (λ (h : Header). h.marks) o) q [] (omega arith)),
                get_or_past (map (λ (h : Header). h.finished) n) q [] (omega arith) ∙ sym (get_or_past (map (λ (h : Header). h.finished) o) q [] (omega arith)),
              )
        ];
      }

-- and the space that is put together of them
pub laid_space : (old new : SpaceParts) (sup start : ℕ) (ws : List ℕ) (s : Layout) → LaysMarks old new sup start ws → s ≡ parts_layout new → LaidSpace (parts_layout old) s sup start ws
laid_space old new sup start ws s l is = subst (λ (x : Layout). LaidSpace (parts_layout old) x sup start ws) (sym is) (record {
  layout = IsLayout-kept new.headers.items new.boxes.items new.pool new.nursery.items new.store.places _ _ _ _ l.kept.kept;
  same = l.same;
  marks = l.marks;
  finished = l.finished;
  behind = l.behind;
})
