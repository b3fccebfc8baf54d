-- A seat is joined into another, which takes over all that it kept.
use Rattle.std.proofs.Common.{◌≡◌, ℕ, ◌+◌, ◌<◌, ◌≤◌, ◌==◌, Bool, true, false, List, [], ◌∷◌, ◌++◌, length, set, None, if◌then◌else◌, inl, inr, refl, ap, sym, subst, ◌∙◌, arith, length-append}
use mathlib.Core.Option.{some}
use lib.ListN.{get_elem?}
use Rattle.std.proofs.lemmas.Bool.{cases_lt, cases_Bool}
use Rattle.atomic_table.specs.Table.{Joins}
use Rattle.atomic_table.proofs.Lists.{at_set, set_else}
use Rattle.bc_bits.specs.Counting.{one_if}
use Rattle.bc_word.specs.Addresses.{page_of}
use Rattle.bc_pins.specs.declared.views.View.{View}
use Rattle.bc_pins.specs.Key.{Key, owner, page_at}
use Rattle.bc_pins.specs.Totals.{total, times}
use Rattle.bc_pins.specs.Views.{grips, grips_remembered, frame_in_hand, counted_for, sets_bit, marked_for, has_role, withholds, reads_as, entries, look_up, opened_content, record_of, sets_for}
use Rattle.bc_pins.specs.Facts.{Table, has_bit_of, puts_with}
use Rattle.bc_pins.specs.Tracing.{tells}
use Rattle.bc_pins.specs.Rule.{SeatFacts, Rule, Ruled}
use Rattle.bc_pins.specs.Claims.{Claims}
use Rattle.bc_pins.specs.Owing.{covers, Owing}
use Rattle.bc_pins.specs.Steps.{united, nobody}
use Rattle.bc_pins.proofs.TotalLemmas.{total_set, total_two, times_append}
use Rattle.bc_pins.proofs.WithholdLemmas.{foreign_none}
use Rattle.bc_pins.proofs.LogLemmas.{times-reads}
use Rattle.bc_pins.proofs.NoticeLemmas.{claims_same}
use Rattle.bc_pins.proofs.OwingLemmas.{covers_none, covers_more, owing_views}
use Rattle.bc_pins.proofs.TracingLemmas.{tells_append, knows_none, knows_both}
use Rattle.bc_pins.proofs.SeatLemmas.{with_views, SameSums, now_same, same_words, views_step, seat_kept, no_hand, no_marking, no_targets}

-- a seat is joined into another
join_sum : (f : View → ℕ) (vs : List View) (id other : ℕ) (v w a b : View) → get_elem? vs id ≡ some v → get_elem? (set vs id a) other ≡ some w → f b ≡ 0 → f a ≡ f v + f w → total f (set (set vs id a) other b) ≡ total f vs
join_sum f vs id other v w a b at there z e =
    let one = total_set f vs id v a at in
    let two = total_set f (set vs id a) other w b there in
    omega arith

pub entries_append : (p : ℕ) (l m : List (ℕ × List ℕ)) → entries p (l ++ m) ≡ entries p l + entries p m
entries_append p [] m = omega arith
entries_append p (e ∷ l) m = let a = entries_append p l m in omega arith

pub puts_append : (k : Key) (p w b : ℕ) (l m : List (ℕ × List ℕ)) → puts_with k p w b (l ++ m) ≡ puts_with k p w b l + puts_with k p w b m
puts_append k p w b [] m = omega arith
puts_append k p w b (e ∷ l) m = let a = puts_append k p w b l m in omega arith

pub puts_none : (k : Key) (p w b : ℕ) (l : List (ℕ × List ℕ)) → entries p l ≡ 0 → puts_with k p w b l ≡ 0
puts_none k p w b [] none_is = refl
puts_none k p w b (e ∷ l) none_is = elim (cases_Bool (e.0 == p)) [
  | inl on ↦ let a : one_if (e.0 == p) ≡ 1 = ap one_if on in absurd (omega arith)
  | inr off ↦
      let a : (if e.0 == p then one_if (has_bit_of k p e.1 w b) else 0) ≡ 0 = ap (λ (t : Bool). if t then one_if (has_bit_of k p e.1 w b) else 0) off in
      let rest = puts_none k p w b l (omega arith) in
      omega arith
]

pub sets_append : (x b : ℕ) (l m : List (ℕ × ℕ × ℕ)) → sets_bit x b (l ++ m) ≡ sets_bit x b l + sets_bit x b m
sets_append x b [] m = omega arith
sets_append x b (e ∷ l) m = let a = sets_append x b l m in omega arith

marked_append : (p : ℕ) (l m : List (ℕ × ℕ × ℕ)) → marked_for p (l ++ m) ≡ marked_for p l + marked_for p m
marked_append p [] m = omega arith
marked_append p (e ∷ l) m = let a = marked_append p l m in omega arith

sets_for_append : (p x b : ℕ) (l m : List (ℕ × ℕ × ℕ)) → sets_for p x b (l ++ m) ≡ sets_for p x b l + sets_for p x b m
sets_for_append p x b [] m = omega arith
sets_for_append p x b (e ∷ l) m = let a = sets_for_append p x b l m in omega arith

pub look_skips : (p : ℕ) (l m : List (ℕ × List ℕ)) (d : List ℕ) → entries p l ≡ 0 → look_up p (l ++ m) d ≡ look_up p m d
look_skips p [] m d e = refl
look_skips p (x ∷ l) m d e = elim (cases_Bool (x.0 == p)) [
  | inl on ↦ let a : one_if (x.0 == p) ≡ 1 = ap one_if on in absurd (omega arith)
  | inr off ↦ ap (λ (b : Bool). if b then x.1 else look_up p (l ++ m) d) off ∙ look_skips p l m d (omega arith)
]

pub look_none : (p : ℕ) (m : List (ℕ × List ℕ)) (d : List ℕ) → entries p m ≡ 0 → look_up p m d ≡ d
look_none p [] d e = refl
look_none p (x ∷ m) d e = elim (cases_Bool (x.0 == p)) [
  | inl on ↦ let a : one_if (x.0 == p) ≡ 1 = ap one_if on in absurd (omega arith)
  | inr off ↦ ap (λ (b : Bool). if b then x.1 else look_up p m d) off ∙ look_none p m d (omega arith)
]

pub look_first : (p : ℕ) (l m : List (ℕ × List ℕ)) (d : List ℕ) → entries p m ≡ 0 → look_up p (l ++ m) d ≡ look_up p l d
look_first p [] m d e = look_none p m d e
look_first p (x ∷ l) m d e = ap (λ (r : List ℕ). if x.0 == p then x.1 else r) (look_first p l m d e)

clash : (x : ℕ) (l : List ℕ) → x ∷ l ≡ [] → ⊥
clash x l e = cc

not_alive : false ≡ true → ⊥
not_alive e = cc

none_of : (l m : List ℕ) → l ≡ [] → m ≡ [] → l ++ m ≡ []
none_of l m e f = ap (λ (x : List ℕ). x ++ m) e ∙ f

pub no_more : (l m : List ℕ) → l ++ m ≡ [] → (l ≡ []) × (m ≡ [])
no_more [] m e = (refl, e)
no_more (x ∷ l) m e = absurd (clash x (l ++ m) e)

module _ (k : Key) (s : Table) (r : Rule k s) (id other : ℕ) (v w : View) (at : get_elem? s.views id ≡ some v) (ne : other ≡ id → ⊥) (there : get_elem? (set s.views id (united v w)) other ≡ some w)
    (about : v.about ≡ k) (same_about : w.about ≡ k) (free : v.hand ≡ None) (nothing : w.hand ≡ None) where
  abbrev views : List View
  views = set (set s.views id (united v w)) other nobody

  there_was : get_elem? s.views other ≡ some w
  there_was = sym (set_else s.views id other (united v w) ne) ∙ there

  mine : SeatFacts k s r.rec v
  mine = r.seats id v at

  theirs : SeatFacts k s r.rec w
  theirs = r.seats other w there_was

  sum_of : (f : View → ℕ) → f nobody ≡ 0 → f (united v w) ≡ f v + f w → total f views ≡ total f s.views
  sum_of f z e = join_sum f s.views id other v w (united v w) nobody at there z e

  -- neither has a page in hand, nor had the one that nobody has
  foreign_nobody : (a : Key) (p : ℕ) → withholds a p nobody ≡ 0
  foreign_nobody a p = let z = foreign_none a p nobody refl in omega arith

  both_withhold : (a : Key) (p : ℕ) → withholds a p (united v w) ≡ withholds a p v + withholds a p w
  both_withhold a p =
      let one = foreign_none a p v free in
      let two = foreign_none a p w nothing in
      let both = foreign_none a p (united v w) free in
      let b = times_append p v.returned w.returned in
      omega arith

  sums : SameSums s.views views
  sums = record {
    grip = λ p. sum_of (λ u. grips p u.hand) refl (let a : grips p w.hand ≡ 0 = ap (grips p) nothing in omega arith);
    flag = λ p. sum_of (λ u. grips_remembered p u.hand) refl (let a : grips_remembered p w.hand ≡ 0 = ap (grips_remembered p) nothing in omega arith);
    recorded = λ p. sum_of (λ u. times p u.recorded) refl (times_append p v.recorded w.recorded);
    fetched = λ p. sum_of (λ u. times p u.fetched) refl (times_append p v.fetched w.fetched);
    put = λ a p x b. sum_of (λ u. puts_with a p x b u.changed) refl (puts_append a p x b v.changed w.changed);
    left = λ p. sum_of (λ u. times p u.left) refl (times_append p v.left w.left);
    emptied = λ p. sum_of (λ u. times p u.emptied) refl (times_append p v.emptied w.emptied);
    withheld = λ a p. sum_of (withholds a p) (foreign_nobody a p) (both_withhold a p);
    read = λ p n. sum_of (reads_as p n) refl (times-reads n (page_at p) v.read w.read);
    busy = λ p. sum_of (λ u. times p u.busy) refl (times_append p v.busy w.busy);
    roles = λ p. sum_of (λ u. times p u.roles) refl (times_append p v.roles w.roles);
    count = λ p q. sum_of (λ u. counted_for p q u.hand) refl (let a : counted_for p q w.hand ≡ 0 = ap (counted_for p q) nothing in omega arith);
    won = λ x b. sum_of (λ u. tells x b u.won) refl (tells_append x b v.won w.won);
    finished = λ x b. sum_of (λ u. tells x b u.finished) refl (tells_append x b v.finished w.finished);
    sets = λ x b. sum_of (λ u. sets_bit x b u.bookmarked) refl (sets_append x b v.bookmarked w.bookmarked);
    frame = λ p. sum_of (λ u. frame_in_hand p u.hand + times p u.rights) refl
        (let a : frame_in_hand p w.hand ≡ 0 = ap (frame_in_hand p) nothing in let b = times_append p v.rights w.rights in omega arith);
  }

  -- of two views with one role between them, one has it
  one_has : (n : ℕ) → has_role v n + has_role w n ≤ 1
  one_has n =
      let two = total_two (λ (z : View). times n z.roles) s.views other id w v ne there_was at in
      let each = r.roles.each n in
      let apart = r.roles.apart n in
      omega arith

  record_united : (p : ℕ) → 0 < has_role (united v w) (owner k p) → r.rec p ≡ record_of (united v w) p
  record_united p lt =
      let both = times_append (owner k p) v.roles w.roles in
      let one = one_has (owner k p) in
      elim (cases_lt 0 (has_role v (owner k p))) [
        | inl has ↦
            let none_w : has_role w (owner k p) ≡ 0 = omega arith in
            mine.records.mine p has ∙ sym (look_first p v.changed w.changed (opened_content v.about p) (theirs.records.others p none_w))
        | inr le ↦
            let none_v : has_role v (owner k p) ≡ 0 = omega arith in
            theirs.records.mine p (omega arith)
            ∙ ap (λ (a : Key). look_up p w.changed (opened_content a p)) (same_about ∙ sym about)
            ∙ sym (look_skips p v.changed w.changed (opened_content v.about p) (mine.records.others p none_v))
      ]

  -- what the other bookmarked it gave up, since it has nothing in hand
  given_up : (p : ℕ) → 0 < marked_for p w.bookmarked → 0 < times p w.left
  given_up p lt = elim (theirs.marking.whose p lt) [
    | inl held ↦ let z : grips p w.hand ≡ 0 = ap (grips p) nothing in absurd (omega arith)
    | inr gone ↦ gone
  ]

  seat_united : SeatFacts k (with_views s views) r.rec (united v w)
  seat_united = record {
    seated = record {
      about = mine.seated.about;
      idle = λ e.
          let both = no_more v.roles w.roles e in
          let a = mine.seated.idle both.0 in
          let b = theirs.seated.idle both.1 in
          record {
            hand = a.hand;
            rights = none_of v.rights w.rights a.rights b.rights;
            recorded = none_of v.recorded w.recorded a.recorded b.recorded;
            left = none_of v.left w.left a.left b.left;
            emptied = none_of v.emptied w.emptied a.emptied b.emptied;
            returned = none_of v.returned w.returned a.returned b.returned;
            fetched = none_of v.fetched w.fetched a.fetched b.fetched;
            bookmarked = ap (λ (l : List (ℕ × ℕ × ℕ)). l ++ w.bookmarked) a.bookmarked ∙ b.bookmarked;
            won = ap (λ (l : List (ℕ × ℕ)). l ++ w.won) a.won ∙ b.won;
            known = ap (λ (l : List (ℕ × ℕ)). l ++ w.known) a.known ∙ b.known;
            finished = ap (λ (l : List (ℕ × ℕ)). l ++ w.finished) a.finished ∙ b.finished;
            read = ap (λ (l : List (ℕ × ℕ)). l ++ w.read) a.read ∙ b.read;
            notices = none_of v.notices w.notices a.notices b.notices;
          };
    };
    records = record {
      mine = record_united;
      others = λ p z.
          let both = times_append (owner k p) v.roles w.roles in
          let a = mine.records.others p (omega arith) in
          let b = theirs.records.others p (omega arith) in
          let c = entries_append p v.changed w.changed in
          omega arith;
      unrecorded = λ p z.
          let both = times_append (owner k p) v.roles w.roles in
          let a = mine.records.unrecorded p (omega arith) in
          let b = theirs.records.unrecorded p (omega arith) in
          let c = times_append p v.recorded w.recorded in
          omega arith;
      unfetched = λ p z held.
          let both = times_append (owner k p) v.roles w.roles in
          let a = mine.records.unfetched p (omega arith) held in
          let b = theirs.records.unfetched p (omega arith) held in
          let c = times_append p v.fetched w.fetched in
          omega arith;
      in_hand = mine.records.in_hand;
    };
    saw = record {
      seen = λ p lt.
          let c = times_append p v.seen w.seen in
          let now = now_same s views sums p in
          elim (cases_lt 0 (times p v.seen)) [
            | inl has ↦ let a = mine.saw.seen p has in let b = a.1 in (a.0, omega arith)
            | inr le ↦ let a = theirs.saw.seen p (omega arith) in let b = a.1 in (a.0, omega arith)
          ];
      gone = λ p lt.
          let c = times_append p v.gone w.gone in
          let both = times_append (owner k p) v.roles w.roles in
          elim (cases_lt 0 (times p v.gone)) [
            | inl has ↦ let a = mine.saw.gone p has in let b = a.1 in (a.0, omega arith, a.2)
            | inr le ↦ let a = theirs.saw.gone p (omega arith) in let b = a.1 in (a.0, omega arith, a.2)
          ];
      busy = λ p lt.
          let c = times_append p v.busy w.busy in
          let both = times_append (owner k p) v.roles w.roles in
          elim (cases_lt 0 (times p v.busy)) [
            | inl has ↦ let a = mine.saw.busy p has in omega arith
            | inr le ↦ let a = theirs.saw.busy p (omega arith) in omega arith
          ];
      taken = λ p lt.
          let a = mine.saw.taken p lt in
          let one = times-reads 1 (page_at p) v.read w.read in
          let two = times-reads 2 (page_at p) v.read w.read in
          let got = times_append p v.fetched w.fetched in
          omega arith;
    };
    marking = record {
      once = mine.marking.once;
      whose = λ p lt.
          let c = marked_append p v.bookmarked w.bookmarked in
          let d = times_append p v.left w.left in
          elim (cases_lt 0 (marked_for p v.bookmarked)) [
            | inl has ↦ elim (mine.marking.whose p has) [ inl held ↦ inl held | inr gone ↦ inr (omega arith) ]
            | inr le ↦ let a = given_up p (omega arith) in inr (omega arith)
          ];
      unmarked = λ h e none_set lt.
          let c = marked_append h.page v.bookmarked w.bookmarked in
          let d = times_append h.page v.left w.left in
          elim (cases_lt 0 (marked_for h.page v.bookmarked)) [
            | inl has ↦ let a = mine.marking.unmarked h e none_set has in omega arith
            | inr le ↦ let a = given_up h.page (omega arith) in omega arith
          ];
    };
    targets = record {
      each = λ p x b few on.
          let c = sets_for_append p x b v.bookmarked w.bookmarked in
          elim (cases_lt 0 (sets_for p x b v.bookmarked)) [
            | inl has ↦ let a = mine.targets.each p x b few has in (a.0, λ z. a.1 (let d = sums.fetched p in omega arith))
            | inr le ↦ let a = theirs.targets.each p x b few (omega arith) in (a.0, λ z. a.1 (let d = sums.fetched p in omega arith))
          ];
      had = λ p x b few on.
          let c = sets_for_append p x b v.bookmarked w.bookmarked in
          let d = sums.put k p x b in
          elim (cases_lt 0 (sets_for p x b v.bookmarked)) [
            | inl has ↦ let a = mine.targets.had p x b few has in omega arith
            | inr le ↦ let a = theirs.targets.had p x b few (omega arith) in omega arith
          ];
    };
    knows = λ turn. knows_both k s (with_views s views) v w (same_words k s views) (mine.knows turn) (theirs.knows turn);
  }

  spent : SeatFacts k (with_views s views) r.rec nobody
  spent = record {
    seated = record { about = λ e. absurd (not_alive e); idle = λ _. record { hand = refl; rights = refl; recorded = refl; left = refl; emptied = refl; returned = refl; fetched = refl; bookmarked = refl; won = refl; known = refl; finished = refl; read = refl; notices = refl } };
    records = record { mine = λ p lt. absurd (omega arith); others = λ p _. refl; unrecorded = λ p _. refl; unfetched = λ p _ _. refl; in_hand = λ h e. absurd (no_hand h e) };
    saw = record { seen = λ p lt. absurd (omega arith); gone = λ p lt. absurd (omega arith); busy = λ p lt. absurd (omega arith); taken = λ p lt. absurd (omega arith) };
    marking = no_marking nobody refl refl;
    targets = no_targets k (with_views s views) r.rec nobody refl;
    knows = λ turn. knows_none k (with_views s views) nobody refl refl;
  }

  seat_each : (j : ℕ) (u : View) → get_elem? views j ≡ some u → SeatFacts k (with_views s views) r.rec u
  seat_each j u is = elim (at_set (set s.views id (united v w)) other j nobody u is) [
    | inl e ↦ subst (SeatFacts k (with_views s views) r.rec) e.1 spent
    | inr o ↦ elim (at_set s.views id j (united v w) u o.1) [
      | inl e ↦ subst (SeatFacts k (with_views s views) r.rec) e.1 seat_united
      | inr x ↦ seat_kept k s r.rec views sums u (r.seats j u x.1)
    ]
  ]

  pub join_rule : Rule k (with_views s views)
  join_rule = views_step k s r views sums seat_each

  pub join_claims : Claims k s → Claims k (with_views s views)
  join_claims old = claims_same k s (with_views s views) refl (sum_of (λ u. length u.notices) refl (length-append v.notices w.notices)) (λ n. sum_of (λ u. times n u.notices) refl (times_append n v.notices w.notices)) old

  -- the view answers for all for which either did
  pub join_owing : Owing k s → Owing k (with_views s views)
  join_owing = owing_views k s views (λ a lt.
      let one = total_set (covers k a) s.views id v (united v w) at in
      let two = total_set (covers k a) (set s.views id (united v w)) other w nobody there in
      let both = total_two (covers k a) s.views other id w v ne there_was at in
      let none_left = covers_none k a nobody refl in
      let long = times_append (page_of a) v.owed w.owed in
      let mine : 0 < covers k a v → 0 < covers k a (united v w) = covers_more k a v (united v w) (λ owes. omega arith) (λ _. omega arith) in
      let theirs : 0 < covers k a w → 0 < covers k a (united v w) = covers_more k a w (united v w) (λ owes. omega arith) (λ _. omega arith) in
      elim (cases_lt 0 (covers k a v)) [
        | inl has ↦ let now = mine has in omega arith
        | inr none ↦ elim (cases_lt 0 (covers k a w)) [
          | inl has ↦ let now = theirs has in omega arith
          | inr neither ↦ omega arith
        ]
      ])

pub unites : (k : Key) (id other : ℕ) (v w : View) → v.about ≡ k → w.about ≡ k → v.hand ≡ None → w.hand ≡ None → Joins (Ruled k) id v other w (united v w) nobody
unites k id other v w about same_about free nothing s r at ne there = record {
  facts = join_rule k s r.facts id other v w at ne there about same_about free nothing;
  claims = join_claims k s r.facts id other v w at ne there about same_about free nothing r.claims;
  owing = λ turn. join_owing k s r.facts id other v w at ne there about same_about free nothing (r.owing turn);
}
