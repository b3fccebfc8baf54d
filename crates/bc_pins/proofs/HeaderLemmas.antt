-- Headers into which states, counters and bookmarks were written, and in a mark turn marks and finished cells.
use Rattle.std.proofs.Common.{◌≡◌, ℕ, ◌+◌, ◌*◌, ◌/◌, ◌%◌, ◌^◌, ◌<◌, ◌≤◌, Bool, true, false, List, [], ◌∷◌, length, get_or, set, get_or-set_same, get_or-set_other, inl, inr, refl, ap, sym, subst, ◌∙◌, arith}
use Prim.Native.Nat.{zero, suc}
use Rattle.std.proofs.lemmas.Bool.{cases_lt, cases_eq, cases_Bool}
use Rattle.std.proofs.lemmas.List.{length-set, get_or_past, ext_get_or}
use Rattle.bc_superpages.specs.declared.headers.Header.{Header}
use Rattle.bc_superpages.specs.declared.headers.PageState.{PageState}
use Rattle.bc_superpages.specs.declared.headers.PageState.TheVariants.{Absent}
use Rattle.bc_superpages.specs.Headers.{unused_header}
use Rattle.bc_superpages.specs.declared.parts.SpaceParts.{SpaceParts}
use Rattle.bc_superpages.specs.Kept.{IsCellSet}
use Rattle.bc_pins.specs.Key.{Key, bookmark_at}
use Rattle.bc_pins.specs.Views.{state_word}
use Rattle.bc_pins.specs.Opening.{IsRest}
use Rattle.bc_pins.specs.Closing.{PagesSet, SummarySet, MarksSet, MarksBelow, HeaderSet, HeadersBelow, HeadersSet, IsWritable}

abbrev at : List Header → ℕ → Header
at hs q = get_or hs q unused_header

-- states that are written one by one
pub pages_start : (o : Header) (q : ℕ) (ws : List ℕ) → PagesSet o o q ws 0
pages_start o q ws = record { same = refl; long = refl; near = λ i lt. absurd (omega arith) }

pub pages_step : (o n : Header) (q j : ℕ) (st : PageState) (ws : List ℕ) → PagesSet o n q ws j → length o.pages ≡ 4 → j < 4 → state_word st ≡ get_or ws (16 * q + j) 0 → PagesSet o (record n { pages = set n.pages j st }) q ws (j + 1)
pages_step o n q j st ws s four few is =
    let long = s.long in
    record {
      same = ap (λ (x : Header). record x { pages = set n.pages j st }) s.same;
      long = length-set n.pages j st ∙ s.long;
      near = λ i lt. elim (cases_eq i j) [
        | inl e ↦ ap (λ (a : ℕ). state_word (get_or (set n.pages j st) a Absent)) e ∙ ap state_word (get_or-set_same n.pages j st Absent (omega arith)) ∙ is ∙ ap (λ (a : ℕ). get_or ws (16 * q + a) 0) (sym e)
        | inr ne ↦ ap state_word (get_or-set_other n.pages j i st Absent ne) ∙ s.near i (omega arith)
      ];
    }

-- bookmark words that are written one by one
pub summary_start : (o : Header) (q sup w : ℕ) (ws : List ℕ) → w ≡ get_or ws (16 * sup + q) 0 → IsCellSet o.bookmarks → SummarySet o (record o { incoming = w }) q sup ws 0
summary_start o q sup w ws is sixteen = record {
  same = ap (λ (n : ℕ). record o { incoming = n }) is;
  long = sixteen.0;
  fits = sixteen.1;
  bits = λ j lt. absurd (omega arith);
}

pub summary_step : (o n : Header) (q sup j w : ℕ) (ws : List ℕ) → SummarySet o n q sup ws j → j < 16 → w ≡ get_or ws (17 * sup + (16 * q + j)) 0 → w < 2 ^ 64 → SummarySet o (record n { bookmarks = set n.bookmarks j w }) q sup ws (j + 1)
summary_step o n q sup j w ws s few is small =
    let long = s.long in
    record {
      same = ap (λ (x : Header). record x { bookmarks = set n.bookmarks j w }) s.same;
      long = length-set n.bookmarks j w ∙ s.long;
      fits = λ i. elim (cases_eq i j) [
        | inl e ↦ subst (λ (x : ℕ). x < 2 ^ 64) (sym (ap (λ (a : ℕ). get_or (set n.bookmarks j w) a 0) e ∙ get_or-set_same n.bookmarks j w 0 (omega arith))) small
        | inr ne ↦ subst (λ (x : ℕ). x < 2 ^ 64) (sym (get_or-set_other n.bookmarks j i w 0 ne)) (s.fits i)
      ];
      bits = λ i lt. elim (cases_eq i j) [
        | inl e ↦ ap (λ (a : ℕ). get_or (set n.bookmarks j w) a 0) e ∙ get_or-set_same n.bookmarks j w 0 (omega arith) ∙ is ∙ ap (λ (a : ℕ). get_or ws (17 * sup + (16 * q + a)) 0) (sym e)
        | inr ne ↦ get_or-set_other n.bookmarks j i w 0 ne ∙ s.bits i (omega arith)
      ];
    }

-- headers that are written one by one
pub headers_none : (o : List Header) (sup start : ℕ) (lanes : Bool) (ws : List ℕ) → HeadersBelow o o 0 sup start lanes ws
headers_none o sup start lanes ws = record { long = refl; near = λ q lt. absurd (omega arith); far = λ q le. refl }

pub headers_more : (o n : List Header) (q : ℕ) (h x : Header) (ws : List ℕ) (sup start : ℕ) (lanes : Bool) → HeadersBelow o n q sup start lanes ws → q < length o → h ≡ at n q → HeaderSet h x q sup start lanes ws → HeadersBelow o (set n q x) (q + 1) sup start lanes ws
headers_more o n q h x ws sup start lanes s lt is one =
    let long = s.long in
    let within : q < length n = omega arith in
    record {
      long = length-set n q x ∙ s.long;
      near = λ i less. elim (cases_eq i q) [
        | inl e ↦
            let here : at (set n q x) i ≡ x = ap (λ (a : ℕ). at (set n q x) a) e ∙ get_or-set_same n q x unused_header within in
            let was : at o i ≡ h = sym (is ∙ s.far q (omega arith) ∙ ap (at o) (sym e)) in
            subst (λ (a : Header). HeaderSet a (at (set n q x) i) i sup start lanes ws) (sym was)
            (subst (λ (b : Header). HeaderSet h b i sup start lanes ws) (sym here) (subst (λ (a : ℕ). HeaderSet h x a sup start lanes ws) (sym e) one))
        | inr ne ↦ subst (λ (b : Header). HeaderSet (at o i) b i sup start lanes ws) (sym (get_or-set_other n q i x unused_header ne)) (s.near i (omega arith))
      ];
      far = λ i le. get_or-set_other n q i x unused_header (λ e. omega arith) ∙ s.far i (omega arith);
    }

-- the new headers with the marks and finished cells of the old ones
pub bare : List Header → List Header → List Header
bare [] ns = []
bare (o ∷ os) [] = []
bare (o ∷ os) (n ∷ ns) = record n { marks = o.marks; finished = o.finished } ∷ bare os ns

bare_long : (o n : List Header) → length n ≡ length o → length (bare o n) ≡ length o
unfolding bare
bare_long [] n e = refl
bare_long (o ∷ os) [] e = absurd (omega arith)
bare_long (o ∷ os) (n ∷ ns) e = ap suc (bare_long os ns (omega arith))

bare_at : (o n : List Header) (q : ℕ) → length n ≡ length o → q < length o → at (bare o n) q ≡ record (at n q) { marks = (at o q).marks; finished = (at o q).finished }
unfolding bare
bare_at [] n q e lt = absurd (omega arith)
bare_at (o ∷ os) [] q e lt = absurd (omega arith)
bare_at (o ∷ os) (n ∷ ns) zero e lt = refl
bare_at (o ∷ os) (n ∷ ns) (suc q) e lt = bare_at os ns q (omega arith) (omega arith)

refit : (h : Header) (m f : List ℕ) → h.marks ≡ m → h.finished ≡ f → record h { marks = m; finished = f } ≡ h
refit h m f a b = ap (λ (l : List ℕ). record h { marks = l; finished = f }) (sym a) ∙ ap (λ (l : List ℕ). record h { finished = l }) (sym b)

joined : (o n : Header) (ps : List PageState) (i : ℕ) (bs : List ℕ) → n ≡ record (record o { pages = ps }) { incoming = i; bookmarks = bs } → n ≡ record o { pages = n.pages; bookmarks = n.bookmarks; incoming = n.incoming }
joined o n ps i bs e = subst (λ (x : Header). x ≡ record o { pages = x.pages; bookmarks = x.bookmarks; incoming = x.incoming }) (sym e) refl

untouched : (o n : Header) → n ≡ o → n ≡ record o { pages = n.pages; bookmarks = n.bookmarks; incoming = n.incoming }
untouched o n e = subst (λ (x : Header). x ≡ record o { pages = x.pages; bookmarks = x.bookmarks; incoming = x.incoming }) (sym e) refl

module _ (o n : List Header) (sup start : ℕ) (lanes : Bool) (ws : List ℕ) (within : sup ≤ length o) (b : HeadersBelow o n sup sup start lanes ws) where
  pub bare_size : length (bare o n) ≡ length o
  bare_size = bare_long o n b.long

  bare_near : (q : ℕ) (lt : q < sup) → at (bare o n) q ≡ (b.near q lt).summed
  bare_near q lt =
      let x = b.near q lt in
      let m : x.summed.marks ≡ (at o q).marks = ap (λ (h : Header). h.marks) x.summary.same ∙ ap (λ (h : Header). h.marks) x.states.same in
      let f : x.summed.finished ≡ (at o q).finished = ap (λ (h : Header). h.finished) x.summary.same ∙ ap (λ (h : Header). h.finished) x.states.same in
      bare_at o n q b.long (omega arith)
      ∙ elim (cases_Bool lanes) [
        | inl on ↦ ap (λ (h : Header). record h { marks = (at o q).marks; finished = (at o q).finished }) (x.unmarked on)
        | inr off ↦ ap (λ (h : Header). record h { marks = (at o q).marks; finished = (at o q).finished }) (x.marked off).same
      ]
      ∙ refit x.summed (at o q).marks (at o q).finished m f

  bare_far : (q : ℕ) → sup ≤ q → at (bare o n) q ≡ at o q
  bare_far q le = elim (cases_lt q (length o)) [
    | inl lt ↦ bare_at o n q b.long lt ∙ ap (λ (h : Header). record h { marks = (at o q).marks; finished = (at o q).finished }) (b.far q le)
    | inr past ↦ let size = bare_size in get_or_past (bare o n) q unused_header (omega arith) ∙ sym (get_or_past o q unused_header past)
  ]

  -- in a turn of lanes these are the new ones
  pub bare_lanes : lanes ≡ true → n ≡ bare o n
  bare_lanes on = ext_get_or unused_header n (bare o n) (b.long ∙ sym bare_size) (λ q _. elim (cases_lt q sup) [
    | inl lt ↦ (b.near q lt).unmarked on ∙ sym (bare_near q lt)
    | inr le ↦ b.far q le ∙ sym (bare_far q le)
  ])

  -- and in a mark turn marks are written into them
  pub bare_marks : lanes ≡ false → MarksBelow (bare o n) n sup sup start ws
  bare_marks off = record {
    long = b.long ∙ sym bare_size;
    near = λ q lt. subst (λ (h : Header). MarksSet h (at n q) q sup start ws 16) (sym (bare_near q lt)) ((b.near q lt).marked off);
    far = λ q le. b.far q le ∙ sym (bare_far q le);
  }

  pub headers_set : (k : Key) → sup ≡ k.supers → HeadersSet k o (bare o n) ws
  headers_set k is = record {
    long = bare_size;
    near = λ p lt.
        let q_lt : p / 4 < sup = omega arith in
        let x = b.near (p / 4) q_lt in
        ap (λ (h : Header). state_word (get_or h.pages (p % 4) Absent)) (bare_near (p / 4) q_lt ∙ x.summary.same) ∙ x.states.near (p % 4) (omega arith);
    far = λ p le. ap (λ (h : Header). get_or h.pages (p % 4) Absent) (bare_far (p / 4) (omega arith));
    else_same = λ q. elim (cases_lt q sup) [
      | inl lt ↦
          let x = b.near q lt in
          joined (at o q) (at (bare o n) q) x.stated.pages _ _ (bare_near q lt ∙ x.summary.same ∙ ap (λ (h : Header). record h { incoming = get_or ws (16 * sup + q) 0; bookmarks = x.summed.bookmarks }) x.states.same)
      | inr le ↦ untouched (at o q) (at (bare o n) q) (bare_far q le)
    ];
    states_long = λ q. elim (cases_lt q sup) [
      | inl lt ↦ let x = b.near q lt in ap (λ (h : Header). length h.pages) (bare_near q lt ∙ x.summary.same) ∙ x.states.long
      | inr le ↦ ap (λ (h : Header). length h.pages) (bare_far q le)
    ];
    counters = λ q lt.
        let near_it : q < sup = omega arith in
        let x = b.near q near_it in
        ap (λ (h : Header). h.incoming) (bare_near q near_it ∙ x.summary.same) ∙ ap (λ (i : ℕ). get_or ws (16 * i + q) 0) is;
    sets = λ q lt.
        let near_it : q < sup = omega arith in
        let x = b.near q near_it in
        subst (λ (h : Header). IsCellSet h.bookmarks) (sym (bare_near q near_it)) (x.summary.long, x.summary.fits);
    bookmarks = λ q j lt few.
        let near_it : q < sup = omega arith in
        let x = b.near q near_it in
        ap (λ (h : Header). get_or h.bookmarks j 0) (bare_near q near_it) ∙ x.summary.bits j few
        ∙ (let z : 17 * sup + (16 * q + j) ≡ bookmark_at k (16 * q + j) = omega arith in ap (λ (i : ℕ). get_or ws i 0) z);
    behind = λ q le. (ap (λ (h : Header). h.bookmarks) (bare_far q (omega arith)), ap (λ (h : Header). h.incoming) (bare_far q (omega arith)));
  }

-- the headers of a space's parts can be written
pub writable : (whole parts : SpaceParts) (n sup : ℕ) → IsRest whole parts n → 4 * sup ≤ n → (q : ℕ) → q < sup → IsWritable (at parts.headers.items q)
writable whole parts n sup rest few q lt =
    let within = rest.within in
    let was = rest.kept.kept.whole q (omega arith) in
    subst (λ (hs : List Header). IsWritable (at hs q)) (sym rest.emptied.headers) (record { bookmarks = was.tags.bookmarks; marks = was.tags.marks; finished = was.tags.finished; states = was.states_long })
