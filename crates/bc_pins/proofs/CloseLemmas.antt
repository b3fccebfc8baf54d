-- What a table leaves when it is closed by a seat into which all others were joined.
use Rattle.std.proofs.Common.{◌≡◌, ℕ, ◌+◌, ◌<◌, ◌*◌, ◌≢◌, ◌==◌, ◌⊎◌, ◌^◌, nat_lt, if◌then◌else◌, List, [], ◌∷◌, length, map, None, inl, inr, refl, ap, sym, subst, ◌∙◌, arith, ◌/◌, ◌%◌}
use Prim.Native.Nat.{zero, suc}
use mathlib.Core.Option.{some, some-injective}
use mathlib.Core.Option as maybe
use lib.ListN.{get_elem?}
use Rattle.std.proofs.lemmas.Bool.{cases_lt}
use Rattle.atomic_table.specs.Table.{Final, Seen}
use Rattle.bc_bits.specs.Counting.{one_if}
use Rattle.bc_pins.specs.declared.views.Lodged.{Lodged}
use Rattle.bc_pins.specs.declared.views.Lodged.TheVariants.{Nothing, Home, Away}
use Rattle.bc_pins.specs.declared.views.View.{View}
use Rattle.bc_pins.specs.Key.{Key, pages_of, counter_at, owner, frame_slot, store_slot}
use Rattle.bc_pins.specs.Totals.{total, times, sum_to}
use Rattle.bc_pins.specs.Contents.{IsContent, RefersYoung}
use Rattle.bc_pins.specs.Views.{grips, grips_remembered, frame_in_hand, counted_for, sets_bit, has_role, withholds, reads_at, reads_as, opened_content, record_of}
use Rattle.bc_pins.specs.Facts.{Table, Slot, word, Lies, Summary, Frames, frame_lodged, points, adds_to, Bits, IsIdle, page_word, remembered_now, IsBitOfTarget, fetched_ever, puts_with}
use Rattle.bc_pins.specs.Tracing.{tells}
use Rattle.bc_pins.specs.Rule.{Rule, Ruled}
use Rattle.bc_pins.specs.Claims.{Claims}
use Rattle.bc_pins.specs.Opening.{ClosesPage, HasClosed}
use Rattle.bc_pins.proofs.TotalLemmas.{total_at, total_only}
use Rattle.bc_pins.proofs.WithholdLemmas.{foreign_none}
use Rattle.bc_pins.proofs.TracingLemmas.{KeepsMarks, keeps_set, knows_stay, tracing_kept}
use Rattle.bc_pins.proofs.ReadLemmas.{remembered_word}
use Rattle.bc_pins.proofs.AloneLemmas.{alone, no_role, none_held}
use Rattle.bc_pins.proofs.JoinLemmas.{look_none, puts_none}
use Rattle.bc_pins.proofs.SumLemmas.{sum_same}

-- a page that isn't Held has both of its slots at home
lies_home : (n : ℕ) (a b : Slot) (c : List ℕ) → n ≢ 3 → Lies n a b c → ((y : Lodged) × (a ≡ some (some y))) × ((z : Lodged) × (b ≡ some (some z)))
lies_home zero a b c ne l = ((Nothing, l.0), (Away c, l.1))
lies_home (suc zero) a b c ne l = ((Home l.0, l.1), (Nothing, l.2))
lies_home (suc (suc zero)) a b c ne l = ((Home l.0, l.1), (Nothing, l.2))
lies_home (suc (suc (suc zero))) a b c ne l = absurd (ne (omega arith))
lies_home (suc (suc (suc (suc zero)))) a b c ne l = ((Nothing, l.0), (Away c, l.1))
lies_home (suc (suc (suc (suc (suc n))))) a b c ne l = absurd l

-- slots that are all at home are the values that come out
all_home : (hs : List (maybe.Option Lodged)) (xs : List Lodged) → length hs ≡ length xs → ((i : ℕ) → i < length hs → (y : Lodged) × (get_elem? hs i ≡ some (some y)))
    → ((i : ℕ) (y : Lodged) → get_elem? hs i ≡ some (some y) → get_elem? xs i ≡ some y) → hs ≡ map some xs
all_home [] [] size home out = refl
all_home [] (x ∷ xs) size home out = absurd (omega arith)
all_home (h ∷ hs) [] size home out = absurd (omega arith)
all_home (h ∷ hs) (x ∷ xs) size home out =
    let first = home 0 (omega arith) in
    let is : h ≡ some first.0 = some-injective h (some first.0) first.1 in
    let same : x ≡ first.0 = some-injective x first.0 (out 0 first.0 first.1) in
    let rest = all_home hs xs (omega arith) (λ i lt. home (suc i) (omega arith)) (λ i. out (suc i)) in
    both_same h (some x) hs (map some xs) (is ∙ ap some (sym same)) rest
  where
    both_same : (a b : maybe.Option Lodged) (l m : List (maybe.Option Lodged)) → a ≡ b → l ≡ m → a ∷ l ≡ b ∷ m
    both_same a b l m e f = cc

module _ (k : Key) (s : Table) (r : Rule k s) (id : ℕ) (v : View) (at : get_elem? s.views id ≡ some v) (about : v.about ≡ k) (nothing : v.hand ≡ None) (all_roles : (n : ℕ) → times n v.roles ≡ times n k.roles)
    (claims : Claims k s) (xs : List Lodged) (size : length s.homes ≡ length xs) (out : (i : ℕ) (y : Lodged) → get_elem? s.homes i ≡ some (some y) → get_elem? xs i ≡ some y) where
  only_put : (p w b : ℕ) → total (λ (u : View). puts_with k p w b u.changed) s.views ≡ puts_with k p w b v.changed
  only_put p w b = total_only (λ (u : View). puts_with k p w b u.changed) s.views id v at (λ j u ne is. puts_none k p w b u.changed ((r.seats j u is).records.others p (no_role k s r id v at all_roles j u ne is (owner k p))))

  only : (f : View → ℕ) → ((u : View) → IsIdle u → f u ≡ 0) → total f s.views ≡ f v
  only = alone k s r id v at all_roles

  idle_withholds : (p : ℕ) (u : View) → IsIdle u → withholds k p u ≡ 0
  idle_withholds p u i =
      let a = foreign_none k p u i.hand in
      let b : times p u.returned ≡ 0 = ap (times p) i.returned in
      omega arith

  not_held : (p : ℕ) → p < pages_of k → page_word s p ≢ 3
  not_held = none_held k s r id v at all_roles nothing

  record_is : (p : ℕ) → r.rec p ≡ record_of v p
  record_is p =
      let facts = (r.seats id v at).records in
      elim (cases_lt 0 (has_role v (owner k p))) [
        | inl has ↦ facts.mine p has
        | inr le ↦
            let none_has : has_role v (owner k p) ≡ 0 = omega arith in
            r.unowned p (sym (all_roles (owner k p)) ∙ none_has)
            ∙ ap (λ (a : Key). opened_content a p) (sym about)
            ∙ sym (look_none p v.changed (opened_content v.about p) (facts.others p none_has))
      ]

  home_each : (i : ℕ) → i < length s.homes → (y : Lodged) × (get_elem? s.homes i ≡ some (some y))
  home_each i lt =
      let long = r.slots in
      let p : ℕ = 4 * (i / 8) + i % 4 in
      let near : p < pages_of k = omega arith in
      elim (cases_lt (i % 8) 4) [
        | inl front ↦
            let is : frame_slot k p ≡ i = omega arith in
            subst (λ (n : ℕ). (y : Lodged) × (get_elem? s.homes n ≡ some (some y))) is (lies_home (page_word s p) _ _ _ (not_held p near) (r.place p near).lies).0
        | inr back ↦
            let is : store_slot k p ≡ i = omega arith in
            subst (λ (n : ℕ). (y : Lodged) × (get_elem? s.homes n ≡ some (some y))) is (lies_home (page_word s p) _ _ _ (not_held p near) (r.place p near).lies).1
      ]

  homes_are : s.homes ≡ map some xs
  homes_are = all_home s.homes xs size home_each out

  abbrev last : Table
  last = record { words = s.words; homes = map some xs; views = v ∷ [] }

  -- what was read, this seat read
  only_read : (p n : ℕ) → total (reads_as p n) s.views ≡ reads_as p n v
  only_read p n = only (reads_as p n) (λ u i. ap (λ (l : List (ℕ × ℕ)). times n (reads_at p l)) i.read)

  only_fetched : (p : ℕ) → fetched_ever s p ≡ times p v.fetched
  only_fetched p = only (λ u. times p u.fetched) (λ u i. ap (times p) i.fetched)

  held_closed : (p : ℕ) → p < pages_of k → 0 < reads_as p 3 v → 0 < reads_as p 1 v + reads_as p 2 v + times p v.fetched
  held_closed p near lt =
      let one = only_read p 1 in
      let two = only_read p 2 in
      let three = only_read p 3 in
      let got = only_fetched p in
      let a = (r.standing p near).held (omega arith) in
      omega arith

  away_closed : (p : ℕ) → p < pages_of k → 0 < reads_as p 0 v + reads_as p 2 v + reads_as p 4 v → (page_word s p ≡ 0) ⊎ ((page_word s p ≡ 4) ⊎ (0 < remembered_now last p + fetched_ever last p))
  away_closed p near lt =
      let got = only_fetched p in
      let none_is = only_read p 0 in
      let two = only_read p 2 in
      let four = only_read p 4 in
      let grips_now = only (λ u. grips_remembered p u.hand) (λ u i. ap (grips_remembered p) i.hand) in
      elim ((r.standing p near).away (omega arith)) [
        | inl e ↦ inl e
        | inr other ↦ elim other [ inl e ↦ inr (inl e) | inr was ↦ inr (inr (omega arith)) ]
      ]

  page_closed : (p : ℕ) → p < pages_of k → ClosesPage k v s.words xs p
  page_closed p near =
      let content = r.content p near in
      let old = r.standing p near in
      let same = record_is p in
      let grips_now = only (λ u. grips_remembered p u.hand) (λ u i. ap (grips_remembered p) i.hand) in
      let recorded = only (λ u. times p u.recorded) (λ u i. ap (times p) i.recorded) in
      let fetched = only (λ u. times p u.fetched) (λ u i. ap (times p) i.fetched) in
      let left = only (λ u. times p u.left) (λ u i. ap (times p) i.left) in
      let emptied = only (λ u. times p u.emptied) (λ u i. ap (times p) i.emptied) in
      let kept_from = only (withholds k p) (λ u i. idle_withholds p u i) in
      let busy = total_at (λ (u : View). times p u.busy) s.views id v at in
      let gone = old.gone in
      let absent = old.absent in
      record {
        not_held = not_held p near;
        lies = subst (λ (c : List ℕ). Lies (page_word s p) (get_elem? (map some xs) (frame_slot k p)) (get_elem? (map some xs) (store_slot k p)) c) same
            (subst (λ (hs : List (maybe.Option Lodged)). Lies (page_word s p) (get_elem? hs (frame_slot k p)) (get_elem? hs (store_slot k p)) (r.rec p)) homes_are (r.place p near).lies);
        fixed = subst (IsContent k.opening p) same content.fixed;
        young = λ y. remembered_word k s r p near (not_held p near) (content.young (subst (RefersYoung k.opening p) (sym same) y));
        bare = content.bare;
        gone = λ e. subst (Summary k s.words p) same (content.gone e);
        standing = record {
          remembered = λ lt. let a = old.remembered (omega arith) in omega arith;
          recorded = λ lt. let a = old.recorded (omega arith) in omega arith;
          as_opened = λ turn lt. old.as_opened turn (omega arith);
          gone = omega arith;
          absent = omega arith;
          busy = λ lt. let a = old.busy (omega arith) in omega arith;
          held = λ lt. let a = held_closed p near (omega arith) in omega arith;
          away = λ lt. away_closed p near (omega arith);
        };
      }

  frames_closed : (f : ℕ) → Frames k last f
  frames_closed f =
      let old = r.frames f in
      let views = only (λ u. frame_in_hand f u.hand + times f u.rights) (λ u i. let a : frame_in_hand f u.hand ≡ 0 = ap (frame_in_hand f) i.hand in let b : times f u.rights ≡ 0 = ap (times f) i.rights in omega arith) in
      let homes : total (frame_lodged f) s.homes ≡ total (frame_lodged f) (map some xs) = ap (total (frame_lodged f)) homes_are in
      let used = old.used in
      record { used = omega arith; past = old.past }

  counters_closed : (q : ℕ) → q < k.supers → word s (counter_at k q) ≡ sum_to (λ p. if page_word s p == 4 then points k p (record_of v p) q else 0) (pages_of k)
  counters_closed q lt = r.counters q lt ∙ sum_same (adds_to k s r.rec q) (λ p. if page_word s p == 4 then points k p (record_of v p) q else 0) (pages_of k) (λ p _.
      let none_counted = only (λ u. counted_for p q u.hand) (λ u i. ap (counted_for p q) i.hand) in
      let mine : counted_for p q v.hand ≡ 0 = ap (counted_for p q) nothing in
      let same : (if page_word s p == 4 then points k p (r.rec p) q else 0) ≡ (if page_word s p == 4 then points k p (record_of v p) q else 0) = ap (λ (c : List ℕ). if page_word s p == 4 then points k p c q else 0) (record_is p) in
      omega arith)

  bits_closed : (w b : ℕ) → w < 16 * k.supers → b < 64 → Bits k last w b
  bits_closed w b lt few =
      let old = r.bits w b lt few in
      let set_by = only (λ u. sets_bit w b u.bookmarked) (λ u i. ap (sets_bit w b) i.bookmarked) in
      record { kept = λ lt. old.kept (omega arith); only = λ lt. let a = old.only lt in omega arith; cell = old.cell }

  last_kept : KeepsMarks k s last
  last_kept = record {
    marks = λ w lt. refl;
    ends = λ w lt. refl;
    won = λ w b. let a = only (λ u. tells w b u.won) (λ u i. ap (tells w b) i.won) in omega arith;
    finished = λ w b. let a = only (λ u. tells w b u.finished) (λ u i. ap (tells w b) i.finished) in omega arith;
    set = λ w b lt one. one;
    pages = λ p lt four. inl four;
  }

  claims_closed : length v.notices < 2 ^ 64 → (n : ℕ) → times n v.notices ≡ one_if (nat_lt n (length v.notices))
  claims_closed few n =
      let made = only (λ u. length u.notices) (λ u i. ap length i.notices) in
      let each = only (λ u. times n u.notices) (λ u i. ap (times n) i.notices) in
      sym each ∙ claims.once (omega arith) n ∙ ap (λ (m : ℕ). one_if (nat_lt n m)) (claims.next (omega arith) ∙ made)

  pub closed : HasClosed k v s.words xs
  closed = record {
    words_long = r.words;
    slots_long = sym size ∙ r.slots;
    pages = page_closed;
    frames = frames_closed;
    counters = counters_closed;
    bits = bits_closed;
    tracing = λ turn. tracing_kept k s last last_kept (r.tracing turn);
    knows = λ turn. knows_stay k s last v (keeps_set k s last last_kept) ((r.seats id v at).knows turn);
    marked = λ p lt. elim ((r.seats id v at).marking.whose p lt) [
      | inl held ↦ let z : grips p v.hand ≡ 0 = ap (grips p) nothing in absurd (omega arith)
      | inr gone ↦ gone
    ];
    targets = record {
      each = λ p w b few on. let was = (r.seats id v at).targets.each p w b few on in (was.0, λ z. subst (λ (c : List ℕ). IsBitOfTarget k p c w b) (record_is p) (was.1 (let a = only_fetched p in omega arith)));
      had = λ p w b few on. let was = (r.seats id v at).targets.had p w b few on in let a = only_put p w b in omega arith;
    };
    unfetched = λ turn p. let all = all_roles (owner k p) in let none = r.unheld turn p in (r.seats id v at).records.unfetched p (omega arith) (λ frozen. absurd (let e = sym turn ∙ frozen.0 in cc));
    gone = λ p lt. let saw = (r.seats id v at).saw.gone p lt in (saw.0, saw.2);
    claims = claims_closed;
  }

pub ends : (k : Key) (id : ℕ) (v : View) (ws : List ℕ) (xs : List Lodged) → v.about ≡ k → v.hand ≡ None → ((n : ℕ) → times n v.roles ≡ times n k.roles)
    → Final (Seen (Ruled k) id v) ws xs → HasClosed k v ws xs
ends k id v ws xs about nothing all_roles f =
    subst (λ (w : List ℕ). HasClosed k v w xs) f.2 (closed k f.0 f.1.0.facts id v f.1.1 about nothing all_roles f.1.0.claims xs f.3 f.4)
