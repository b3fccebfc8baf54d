-- Only views change: no word and no slot does, and what the views have together stays. So a seat is split off.
use Rattle.std.proofs.Common.{◌≡◌, ℕ, ◌+◌, ◌<◌, ◌⊎◌, List, [], ◌∷◌, ◌++◌, length, take, drop, set, Some, None, inl, inr, refl, ap, sym, subst, ◌∙◌, arith}
use mathlib.Core.Option.{some}
use lib.ListN.{get_elem?}
use Rattle.atomic_table.specs.Table.{Splits}
use Rattle.atomic_table.proofs.Lists.{at_set, at_snoc}
use Rattle.bc_pins.specs.declared.views.Hand.{Hand}
use Rattle.bc_pins.specs.declared.views.View.{View}
use Rattle.bc_pins.specs.Key.{Key, pages_of, owner}
use Rattle.bc_pins.specs.Totals.{total, times}
use Rattle.bc_pins.specs.Views.{grips, grips_remembered, frame_in_hand, counted_for, sets_bit, withholds, reads_as, marked_for, entries, look_up, opened_content, sets_for}
use Rattle.bc_pins.specs.Facts.{IsIdle, Table, page_word, remembered_now, adds_to, Marking, MarksTargets, fetched_ever, puts_with}
use Rattle.bc_pins.specs.Tracing.{tells}
use Rattle.bc_pins.specs.Owing.{covers}
use Rattle.bc_pins.specs.Rule.{SeatFacts, Rule, Ruled}
use Rattle.bc_pins.specs.Steps.{dealer, dealt}
use Rattle.bc_pins.proofs.TotalLemmas.{total_set, total_append}
use Rattle.bc_pins.proofs.MarkedLemmas.{targets_more}
use Rattle.bc_pins.proofs.SumLemmas.{sum_same}
use Rattle.bc_pins.proofs.WithholdLemmas.{foreign_none}
use Rattle.bc_pins.proofs.NoticeLemmas.{claims_same}
use Rattle.bc_pins.proofs.OwingLemmas.{covers_same, covers_none, owing_views}
use Rattle.bc_pins.proofs.TracingLemmas.{KeepsMarks, KeepsSet, tracing_kept, knows_stay, knows_read, knows_none}

-- the table with other views
abbrev pub with_views : Table → List View → Table
with_views s views = record { words = s.words; homes = s.homes; views = views }

-- the views have together what others have
pub record SameSums (old new : List View) : Type 0 where
  pub grip : (p : ℕ) → total (λ (v : View). grips p v.hand) new ≡ total (λ (v : View). grips p v.hand) old
  pub flag : (p : ℕ) → total (λ (v : View). grips_remembered p v.hand) new ≡ total (λ (v : View). grips_remembered p v.hand) old
  pub recorded : (p : ℕ) → total (λ (v : View). times p v.recorded) new ≡ total (λ (v : View). times p v.recorded) old
  pub fetched : (p : ℕ) → total (λ (v : View). times p v.fetched) new ≡ total (λ (v : View). times p v.fetched) old
  pub put : (k : Key) (p w b : ℕ) → total (λ (v : View). puts_with k p w b v.changed) new ≡ total (λ (v : View). puts_with k p w b v.changed) old
  pub left : (p : ℕ) → total (λ (v : View). times p v.left) new ≡ total (λ (v : View). times p v.left) old
  pub emptied : (p : ℕ) → total (λ (v : View). times p v.emptied) new ≡ total (λ (v : View). times p v.emptied) old
  pub withheld : (k : Key) (p : ℕ) → total (withholds k p) new ≡ total (withholds k p) old
  pub read : (p n : ℕ) → total (reads_as p n) new ≡ total (reads_as p n) old
  pub busy : (p : ℕ) → total (λ (v : View). times p v.busy) new ≡ total (λ (v : View). times p v.busy) old
  pub roles : (r : ℕ) → total (λ (v : View). times r v.roles) new ≡ total (λ (v : View). times r v.roles) old
  pub count : (p q : ℕ) → total (λ (v : View). counted_for p q v.hand) new ≡ total (λ (v : View). counted_for p q v.hand) old
  pub sets : (w b : ℕ) → total (λ (v : View). sets_bit w b v.bookmarked) new ≡ total (λ (v : View). sets_bit w b v.bookmarked) old
  pub won : (w b : ℕ) → total (λ (v : View). tells w b v.won) new ≡ total (λ (v : View). tells w b v.won) old
  pub finished : (w b : ℕ) → total (λ (v : View). tells w b v.finished) new ≡ total (λ (v : View). tells w b v.finished) old
  pub frame : (f : ℕ) → total (λ (v : View). frame_in_hand f v.hand + times f v.rights) new ≡ total (λ (v : View). frame_in_hand f v.hand + times f v.rights) old

keeps_views : (k : Key) (s : Table) (views : List View) → SameSums s.views views → KeepsMarks k s (with_views s views)
keeps_views k s views sums = record {
  marks = λ w lt. refl;
  ends = λ w lt. refl;
  won = sums.won;
  finished = sums.finished;
  set = λ w b lt one. one;
  pages = λ p lt four. inl four;
}

pub now_same : (s : Table) (views : List View) → SameSums s.views views → (p : ℕ) → remembered_now (with_views s views) p ≡ remembered_now s p
now_same s views sums p = let a = sums.flag p in omega arith

held_kept : (k : Key) (s : Table) (r : Rule k s) (views : List View) → SameSums s.views views → (p : ℕ) → p < pages_of k → 0 < total (reads_as p 3) views → 0 < total (reads_as p 1) views + total (reads_as p 2) views + fetched_ever (with_views s views) p
held_kept k s r views sums p near lt =
    let one = sums.read p 1 in
    let two = sums.read p 2 in
    let three = sums.read p 3 in
    let got = sums.fetched p in
    let a = (r.standing p near).held (omega arith) in
    omega arith

away_kept : (k : Key) (s : Table) (r : Rule k s) (views : List View) → SameSums s.views views → (p : ℕ) → p < pages_of k → 0 < total (reads_as p 0) views + total (reads_as p 2) views + total (reads_as p 4) views
    → (page_word s p ≡ 0) ⊎ ((page_word s p ≡ 4) ⊎ (0 < remembered_now (with_views s views) p + fetched_ever (with_views s views) p))
away_kept k s r views sums p near lt =
    let none_is = sums.read p 0 in
    let two = sums.read p 2 in
    let four = sums.read p 4 in
    let now = now_same s views sums p in
    let got = sums.fetched p in
    elim ((r.standing p near).away (omega arith)) [
      | inl e ↦ inl e
      | inr other ↦ elim other [ inl e ↦ inr (inl e) | inr was ↦ inr (inr (omega arith)) ]
    ]

pub views_step : (k : Key) (s : Table) (r : Rule k s) (views : List View) → SameSums s.views views
    → ((j : ℕ) (u : View) → get_elem? views j ≡ some u → SeatFacts k (with_views s views) r.rec u) → Rule k (with_views s views)
views_step k s r views sums each = record {
  rec = r.rec;
  words = r.words;
  slots = r.slots;
  few = r.few;
  place = λ p lt. let old = r.place p lt in record { lies = old.lies; held = sums.grip p ∙ old.held };
  content = λ p lt.
      let old = r.content p lt in
      let now = now_same s views sums p in
      record { fixed = old.fixed; young = λ y. let a = old.young y in omega arith; bare = old.bare; gone = old.gone; had = λ w b on. let was = old.had w b on in let a = sums.put k p w b in omega arith };
  standing = λ p near.
      let old = r.standing p near in
      let now = now_same s views sums p in
      let ever = sums.recorded p in
      let f = sums.fetched p in
      let l = sums.left p in
      let e = sums.emptied p in
      let busy = sums.busy p in
      let kept_from = sums.withheld k p in
      let gone = old.gone in
      let absent = old.absent in
      record {
        remembered = λ lt. let a = old.remembered (omega arith) in omega arith;
        recorded = λ lt. let a = old.recorded (omega arith) in omega arith;
        as_opened = λ turn lt. old.as_opened turn (omega arith);
        gone = omega arith;
        absent = omega arith;
        busy = λ lt. let a = old.busy (omega arith) in omega arith;
        held = held_kept k s r views sums p near;
        away = away_kept k s r views sums p near;
      };
  seats = each;
  roles = record { each = λ n. sums.roles n ∙ r.roles.each n; apart = r.roles.apart; nobody = r.roles.nobody };
  unheld = r.unheld;
  unowned = r.unowned;
  frames = λ f. let old = r.frames f in let used = old.used in let a = sums.frame f in record { used = omega arith; past = old.past };
  counters = λ q lt. r.counters q lt ∙ sym (sum_same (adds_to k (with_views s views) r.rec q) (adds_to k s r.rec q) (pages_of k) (λ j _. let a = sums.count j q in omega arith));
  bits = λ w b lt few.
      let old = r.bits w b lt few in
      let a = sums.sets w b in
      record { kept = λ lt. old.kept (omega arith); only = λ lt. let c = old.only lt in omega arith; cell = old.cell };
  tracing = λ turn. tracing_kept k s (with_views s views) (keeps_views k s views sums) (r.tracing turn);
}

-- the words are the same
pub same_words : (k : Key) (s : Table) (views : List View) → KeepsSet k s (with_views s views)
same_words k s views = record { marks = λ w b lt one. one; ends = λ w b lt one. one }

-- a seat that doesn't take part
pub seat_kept : (k : Key) (s : Table) (rec : ℕ → List ℕ) (views : List View) → SameSums s.views views → (u : View) → SeatFacts k s rec u → SeatFacts k (with_views s views) rec u
seat_kept k s rec views sums u old = record {
  seated = old.seated;
  records = old.records;
  saw = record {
    seen = λ p lt. let a = old.saw.seen p lt in let b = a.1 in let now = now_same s views sums p in (a.0, omega arith);
    gone = old.saw.gone;
    busy = old.saw.busy;
    taken = old.saw.taken;
  };
  marking = old.marking;
  targets = targets_more k s (with_views s views) rec u u (λ q. let a = sums.fetched q in omega arith) (λ q w b. let a = sums.put k q w b in omega arith) refl old.targets;
  knows = λ turn. knows_stay k s (with_views s views) u (same_words k s views) (old.knows turn);
}

pub no_hand : (z : Hand) → None ≡ Some z → ⊥
no_hand z e = cc

-- a view that has nothing in hand and bookmarked nothing
pub no_marking : (v : View) → v.hand ≡ None → v.bookmarked ≡ [] → Marking v
no_marking v nothing none_set = record {
  once = λ h e. absurd (no_hand h (sym nothing ∙ e));
  whose = λ p lt. let z : marked_for p v.bookmarked ≡ 0 = ap (marked_for p) none_set in absurd (omega arith);
  unmarked = λ h e. absurd (no_hand h (sym nothing ∙ e));
}

pub no_targets : (k : Key) (s : Table) (rec : ℕ → List ℕ) (v : View) → v.bookmarked ≡ [] → MarksTargets k s rec v
no_targets k s rec v none_set = record { each = λ p w b few on. let z : sets_for p w b v.bookmarked ≡ 0 = ap (sets_for p w b) none_set in absurd (omega arith); had = λ p w b few on. let z : sets_for p w b v.bookmarked ≡ 0 = ap (sets_for p w b) none_set in absurd (omega arith) }

-- roles cut in two
pub cut_times : (r : ℕ) (l : List ℕ) → times r (drop 1 l) + times r (take 1 l) ≡ times r l
cut_times r [] = refl
cut_times r (x ∷ xs) = omega arith

split_sum : (f : View → ℕ) (vs : List View) (id : ℕ) (v a b : View) → get_elem? vs id ≡ some v → f a + f b ≡ f v → total f (set vs id a ++ b ∷ []) ≡ total f vs
split_sum f vs id v a b at e =
    let one = total_append f (set vs id a) (b ∷ []) in
    let two = total_set f vs id v a at in
    let three : total f (b ∷ []) ≡ f b = omega arith in
    omega arith

module _ (k : Key) (s : Table) (r : Rule k s) (id : ℕ) (v : View) (at : get_elem? s.views id ≡ some v) (unused : IsIdle v) (no_change : v.changed ≡ []) (no_gone : v.gone ≡ []) (no_busy : v.busy ≡ []) where
  abbrev views : List View
  views = set s.views id (dealer v) ++ dealt v ∷ []

  facts : SeatFacts k s r.rec v
  facts = r.seats id v at

  split_withheld : (a : Key) (p : ℕ) → withholds a p (dealer v) + withholds a p (dealt v) ≡ withholds a p v
  split_withheld a p =
      let rest = foreign_none a p (dealer v) unused.hand in
      let first = foreign_none a p (dealt v) refl in
      let whole = foreign_none a p v unused.hand in
      omega arith

  sums : SameSums s.views views
  sums = record {
    grip = λ p. split_sum (λ u. grips p u.hand) s.views id v (dealer v) (dealt v) at (omega arith);
    flag = λ p. split_sum (λ u. grips_remembered p u.hand) s.views id v (dealer v) (dealt v) at (omega arith);
    recorded = λ p. split_sum (λ u. times p u.recorded) s.views id v (dealer v) (dealt v) at (omega arith);
    fetched = λ p. split_sum (λ u. times p u.fetched) s.views id v (dealer v) (dealt v) at (omega arith);
    put = λ a p w b. split_sum (λ u. puts_with a p w b u.changed) s.views id v (dealer v) (dealt v) at (omega arith);
    left = λ p. split_sum (λ u. times p u.left) s.views id v (dealer v) (dealt v) at (omega arith);
    emptied = λ p. split_sum (λ u. times p u.emptied) s.views id v (dealer v) (dealt v) at (omega arith);
    withheld = λ a p. split_sum (withholds a p) s.views id v (dealer v) (dealt v) at (split_withheld a p);
    read = λ p n. split_sum (reads_as p n) s.views id v (dealer v) (dealt v) at (omega arith);
    busy = λ p. split_sum (λ u. times p u.busy) s.views id v (dealer v) (dealt v) at (omega arith);
    roles = λ p. split_sum (λ u. times p u.roles) s.views id v (dealer v) (dealt v) at (cut_times p v.roles);
    count = λ p q. split_sum (λ u. counted_for p q u.hand) s.views id v (dealer v) (dealt v) at (omega arith);
    won = λ w b. split_sum (λ u. tells w b u.won) s.views id v (dealer v) (dealt v) at (omega arith);
    finished = λ w b. split_sum (λ u. tells w b u.finished) s.views id v (dealer v) (dealt v) at (omega arith);
    sets = λ w b. split_sum (λ u. sets_bit w b u.bookmarked) s.views id v (dealer v) (dealt v) at (omega arith);
    frame = λ p. split_sum (λ u. frame_in_hand p u.hand + times p u.rights) s.views id v (dealer v) (dealt v) at (omega arith);
  }

  idle_rest : IsIdle (dealer v)
  idle_rest = record { hand = unused.hand; rights = unused.rights; recorded = unused.recorded; left = unused.left; emptied = unused.emptied; returned = unused.returned; fetched = unused.fetched; bookmarked = unused.bookmarked; won = unused.won; known = unused.known; finished = unused.finished; read = unused.read; notices = unused.notices }

  keeps_rest : SeatFacts k (with_views s views) r.rec (dealer v)
  keeps_rest = record {
    seated = record { about = facts.seated.about; idle = λ _. idle_rest };
    records = record {
      mine = λ p lt. let c = cut_times (owner k p) v.roles in facts.records.mine p (omega arith);
      others = λ p _. ap (entries p) no_change;
      unrecorded = λ p _. ap (times p) unused.recorded;
      unfetched = λ p _ _. ap (times p) unused.fetched;
      in_hand = λ h e. absurd (no_hand h (sym unused.hand ∙ e));
    };
    saw = record {
      seen = λ p lt. let a = facts.saw.seen p lt in let b = a.1 in let now = now_same s views sums p in (a.0, omega arith);
      gone = λ p lt. let z : times p v.gone ≡ 0 = ap (times p) no_gone in absurd (omega arith);
      busy = λ p lt. let z : times p v.busy ≡ 0 = ap (times p) no_busy in absurd (omega arith);
      taken = facts.saw.taken;
    };
    marking = record { once = facts.marking.once; whose = facts.marking.whose; unmarked = facts.marking.unmarked };
    targets = targets_more k s (with_views s views) r.rec v (dealer v) (λ q. let a = sums.fetched q in omega arith) (λ q w b. let a = sums.put k q w b in omega arith) refl facts.targets;
    knows = λ turn. knows_read k s (with_views s views) v (dealer v) (same_words k s views) (facts.knows turn) refl (λ j less. refl);
  }

  has_first : SeatFacts k (with_views s views) r.rec (dealt v)
  has_first = record {
    seated = record { about = facts.seated.about; idle = λ _. record { hand = refl; rights = refl; recorded = refl; left = refl; emptied = refl; returned = refl; fetched = refl; bookmarked = refl; won = refl; known = refl; finished = refl; read = refl; notices = refl } };
    records = record {
      mine = λ p lt. let c = cut_times (owner k p) v.roles in facts.records.mine p (omega arith) ∙ ap (λ (l : List (ℕ × List ℕ)). look_up p l (opened_content v.about p)) no_change;
      others = λ p _. refl;
      unrecorded = λ p _. refl;
      unfetched = λ p _ _. refl;
      in_hand = λ h e. absurd (no_hand h e);
    };
    saw = record { seen = λ p lt. absurd (omega arith); gone = λ p lt. absurd (omega arith); busy = λ p lt. absurd (omega arith); taken = λ p lt. absurd (omega arith) };
    marking = no_marking (dealt v) refl refl;
    targets = no_targets k (with_views s views) r.rec (dealt v) refl;
    knows = λ turn. knows_none k (with_views s views) (dealt v) refl refl;
  }

  seat_each : (j : ℕ) (u : View) → get_elem? views j ≡ some u → SeatFacts k (with_views s views) r.rec u
  seat_each j u is = elim (at_snoc (set s.views id (dealer v)) (dealt v) u j is) [
    | inl old ↦ elim (at_set s.views id j (dealer v) u old) [
      | inl e ↦ subst (SeatFacts k (with_views s views) r.rec) e.1 keeps_rest
      | inr o ↦ seat_kept k s r.rec views sums u (r.seats j u o.1)
    ]
    | inr new ↦ subst (SeatFacts k (with_views s views) r.rec) new has_first
  ]

  pub split_rule : Rule k (with_views s views)
  split_rule = views_step k s r views sums seat_each

pub deals : (k : Key) (id : ℕ) (v : View) → IsIdle v → v.changed ≡ [] → v.gone ≡ [] → v.busy ≡ [] → Splits (Ruled k) id v (dealer v) (dealt v)
deals k id v unused no_change no_gone no_busy s r at = record {
  facts = split_rule k s r.facts id v at unused no_change no_gone no_busy;
  claims = claims_same k s (with_views s (set s.views id (dealer v) ++ dealt v ∷ [])) refl
      (split_sum (λ (u : View). length u.notices) s.views id v (dealer v) (dealt v) at (omega arith))
      (λ n. split_sum (λ (u : View). times n u.notices) s.views id v (dealer v) (dealt v) at (omega arith)) r.claims;
  owing = λ turn. owing_views k s (set s.views id (dealer v) ++ dealt v ∷ [])
      (λ a lt.
      let rest = covers_same k a v (dealer v) refl refl refl in
      let new = covers_none k a (dealt v) refl in
      let sum = split_sum (covers k a) s.views id v (dealer v) (dealt v) at (omega arith) in
      omega arith) (r.owing turn);
}
