-- The search: what a find leaves of it.
use Rattle.std.proofs.Common.{◌≡◌, ◌≢◌, ◌⊎◌, ℕ, ◌+◌, ◌<◌, ◌≤◌, ◌==◌, Bool, true, false, if◌then◌else◌, List, [], ◌∷◌, ◌++◌, length, get_or, set, Option, Some, None, refl, sym, ◌∙◌, ap, subst, inl, inr, arith, length-append, get_or-set_same, get_or-set_other}
use Rattle.std.proofs.lemmas.Bool.{cases_lt, cases_eq, cases_Bool, eq-eqb, ne_eqb}
use Prim.Native.Nat.{zero, suc}
use Rattle.std.proofs.Common.{option_map, replicate}
use Rattle.std.proofs.lemmas.List.{get_or_append_left, length_push, get_or_push, length-set, get_or_past, get_or-replicate, length-replicate}
use Rattle.std.proofs.lemmas.List.Sums.{sum_by-set, sum_by-cons}
use Rattle.bc_word.specs.Words.{word_of_bits}
use Rattle.bc_word.specs.declared.words.Word.{Word}
use Rattle.bc_word.specs.declared.words.Word.TheVariants.{Nil, Num, Ref}
use Rattle.bc_word.proofs.WordLemmas.{word_of_bits-nil}
use Rattle.bc_bits.specs.Counting.{one_if}
use Rattle.bc_image.specs.Cells.{CellList}
use Rattle.bc_heapview.specs.Ways.{Way, from_slot, by_field, Before, AtMost}
use Rattle.bc_image.specs.Memories.{cell_at, number_at}
use Rattle.bc_heapview.specs.Targets.{leads, field_target, target_of, word_target}
use Rattle.bc_heapview.specs.Searches.{AreNotedFinds, SlotsNoted, FieldsNoted, seen_count, is_seen, found_after, seen_after, no_find, find_at, HasOrigin, AreFinds, FoundBy, IsCovered, IsSearched}
use Rattle.bc_heapview.specs.declared.search.Found.{Found}
use Rattle.bc_heapview.specs.declared.search.Origin.{Origin}
use Rattle.bc_heapview.specs.declared.search.Origin.TheVariants.{Slot, Field}
use Rattle.bc_heapview.proofs.WayLemmas.{at_most-before, at_most-trans, at_most-field, slot-before_field, at_most-slot, at_most-next}

-- the ways with one more
abbrev pub extended : (ℕ → Way) → ℕ → Way → ℕ → Way
extended ways n w k = if k == n then w else ways k

pub extended-old : (ways : ℕ → Way) (n : ℕ) (w : Way) (k : ℕ) → k < n → extended ways n w k ≡ ways k
extended-old ways n w k lt = let ne : k ≢ n = omega arith in rw (ne_eqb k n ne) refl

pub extended-new : (ways : ℕ → Way) (n : ℕ) (w : Way) → extended ways n w n ≡ w
extended-new ways n w = rw (eq-eqb n n refl) refl

-- the finds so far stay, with their ways
pub record AreKept (found : List Found) (ways : ℕ → Way) (more : List Found) (new : ℕ → Way) : Type 0 where
  pub longer : length found ≤ length more
  pub finds : (k : ℕ) → k < length found → find_at more k ≡ find_at found k
  pub old_ways : (k : ℕ) → k < length found → new k ≡ ways k

pub kept-same : (found : List Found) (ways : ℕ → Way) → AreKept found ways found ways
kept-same found ways = record { longer = omega arith; finds = λ k lt. refl; old_ways = λ k lt. refl }

pub covered-kept : (roots : List ℕ) (cells : List CellList) (found : List Found) (ways : ℕ → Way) (more : List Found) (new : ℕ → Way) (v : Way) → AreKept found ways more new → IsCovered roots cells found ways v → IsCovered roots cells more new v
covered-kept roots cells found ways more new v kept covered n to =
    let by : FoundBy found ways n v = covered n to in
    record {
      entry = by.entry;
      within = let lt : by.entry < length found = by.within in let le : length found ≤ length more = kept.longer in omega arith;
      node_is = ap (λ (f : Found). f.node) (kept.finds by.entry by.within) ∙ by.node_is;
      least = subst (λ (w : Way). AtMost w v) (sym (kept.old_ways by.entry by.within)) by.least;
    }

-- where the origin of a way to come is found among the finds so far
abbrev pub ComesFrom : (ℕ → Way) → ℕ → Way → Origin → Type 0
ComesFrom ways count w (Slot r) = w ≡ from_slot r
ComesFrom ways count w (Field e i) = (e < count) × (w ≡ by_field (ways e) i)

-- a way was gone: where it leads to is found, and all finds are by ways that aren't after it
pub record WasGone (roots : List ℕ) (cells : List CellList) (found : List Found) (ways : ℕ → Way) (w : Way) (more : List Found) (seen : List Bool) : Type 0 where
  pub new : ℕ → Way
  pub noted : AreNotedFinds roots cells more seen new
  pub kept : AreKept found ways more new
  pub covered : IsCovered roots cells more new w
  pub at_most : (k : ℕ) → k < length more → AtMost (new k) w

-- it leads nowhere
pub gone-nowhere : (roots : List ℕ) (cells : List CellList) (found : List Found) (seen : List Bool) (ways : ℕ → Way) (w : Way) → AreNotedFinds roots cells found seen ways → ((k : ℕ) → k < length found → Before (ways k) w) → leads roots cells w ≡ None → WasGone roots cells found ways w found seen
gone-nowhere roots cells found seen ways w noted below nowhere = record {
  new = ways;
  noted = noted;
  kept = kept-same found ways;
  covered = λ n to. absurd (let e : None ≡ Some n = sym nowhere ∙ to in cc);
  at_most = λ k lt. inr (below k lt);
}

-- it leads to what was seen before
pub gone-seen : (roots : List ℕ) (cells : List CellList) (found : List Found) (seen : List Bool) (ways : ℕ → Way) (w : Way) (n : ℕ) → AreNotedFinds roots cells found seen ways → ((k : ℕ) → k < length found → Before (ways k) w) → leads roots cells w ≡ Some n → is_seen seen n ≡ true → WasGone roots cells found ways w found seen
gone-seen roots cells found seen ways w n noted below to is = record {
  new = ways;
  noted = noted;
  kept = kept-same found ways;
  covered = λ m also.
      let at = noted.seen_found n is in
      let same : n ≡ m = (let e : Some n ≡ Some m = sym to ∙ also in cc) in
      record { entry = at.0; within = at.1; node_is = at.2 ∙ same; least = inr (below at.0 at.1) };
  at_most = λ k lt. inr (below k lt);
}

find-old : (found : List Found) (f : Found) (k : ℕ) → k < length found → find_at (found ++ f ∷ []) k ≡ find_at found k
find-old found f k lt = get_or_append_left found (f ∷ []) no_find k lt

find-new : (found : List Found) (f : Found) → find_at (found ++ f ∷ []) (length found) ≡ f
find-new found f = get_or_push found f no_find (length found) refl

seen-old : (seen : List Bool) (n m : ℕ) → n < length seen → is_seen seen m ≡ true → is_seen (set seen n true) m ≡ true
seen-old seen n m lt is =
    elim (cases_eq m n) [
      | inl e ↦ rw e (get_or-set_same seen n true false lt)
      | inr ne ↦ get_or-set_other seen n m true false ne ∙ is
    ]

count-new : (found : List Found) (seen : List Bool) (f : Found) (n : ℕ) → n < length seen → is_seen seen n ≡ false → seen_count seen ≡ length found → seen_count (set seen n true) ≡ length (found ++ f ∷ [])
count-new found seen f n lt unseen counted =
    let step : seen_count (set seen n true) + one_if (is_seen seen n) ≡ seen_count seen + 1 = sum_by-set one_if seen n true false lt in
    let none : one_if (is_seen seen n) ≡ 0 = ap one_if unseen in
    omega (arith, step, none, counted, length_push found f)

-- it leads to a new object
pub gone-new : (roots : List ℕ) (cells : List CellList) (found : List Found) (seen : List Bool) (ways : ℕ → Way) (w : Way) (n : ℕ) (origin : Origin) → AreNotedFinds roots cells found seen ways → ((k : ℕ) → k < length found → Before (ways k) w) → leads roots cells w ≡ Some n → n < length cells → ComesFrom ways (length found) w origin → is_seen seen n ≡ false → WasGone roots cells found ways w (found ++ record { node = n; origin = origin } ∷ []) (set seen n true)
gone-new roots cells found seen ways w n origin noted below to lt from unseen =
    let f : Found = record { node = n; origin = origin } in
    let count : ℕ = length found in
    let more : List Found = found ++ f ∷ [] in
    let new : ℕ → Way = extended ways count w in
    let len : length more ≡ count + 1 = length_push found f in
    let old : (k : ℕ) → k < count → new k ≡ ways k = λ k less. extended-old ways count w k less in
    let last : new count ≡ w = extended-new ways count w in
    let cases : (k : ℕ) → k < length more → (k < count) ⊎ (k ≡ count) = λ k less. (elim (cases_lt k count) [ inl l ↦ inl l | inr g ↦ inr (let h : k < count + 1 = subst (λ z. k < z) len less in omega arith) ]) in
    let at_new : find_at more count ≡ f = find-new found f in
    let at_old : (k : ℕ) → k < count → find_at more k ≡ find_at found k = λ k less. find-old found f k less in
    let sized : n < length seen = (let s : length seen ≡ length cells = noted.sized in omega arith) in
    let other : (k : ℕ) → k < count → (find_at found k).node ≢ n = λ k less e. (let h : is_seen seen n ≡ true = subst (λ m. is_seen seen m ≡ true) e (noted.found_seen k less) in let h2 : true ≡ false = sym h ∙ unseen in cc) in
    record {
      new = new;
      noted = record {
        finds = record {
          leading = λ k less. elim (cases k less) [
            | inl l ↦ rw (old k l) (rw (at_old k l) (noted.finds.leading k l))
            | inr e ↦ rw e (rw last (rw at_new to))
          ];
          origin = λ k less. elim (cases k less) [
            | inl l ↦ rw (at_old k l) (origin-old ways count w k (find_at found k).origin l (noted.finds.origin k l))
            | inr e ↦ rw e (rw at_new (origin-new ways count w origin from))
          ];
          rising = λ j k less within. elim (cases k within) [
            | inl l ↦ rw (old j (omega arith)) (rw (old k l) (noted.finds.rising j k less l))
            | inr e ↦ rw e (let l : j < count = omega (arith, less, e) in rw last (rw (old j l) (below j l)))
          ];
          once = λ j k jin kin same. elim (cases j jin) [
            | inl jl ↦ elim (cases k kin) [
              | inl kl ↦ noted.finds.once j k jl kl (let a = at_old j jl in let b = at_old k kl in ap (λ (x : Found). x.node) (sym a) ∙ same ∙ ap (λ (x : Found). x.node) b)
              | inr ke ↦ absurd (other j jl (ap (λ (x : Found). x.node) (sym (at_old j jl)) ∙ same ∙ ap (λ (i : ℕ). (find_at more i).node) ke ∙ ap (λ (x : Found). x.node) at_new))
            ]
            | inr je ↦ elim (cases k kin) [
              | inl kl ↦ absurd (other k kl (ap (λ (x : Found). x.node) (sym (at_old k kl)) ∙ sym same ∙ ap (λ (i : ℕ). (find_at more i).node) je ∙ ap (λ (x : Found). x.node) at_new))
              | inr ke ↦ je ∙ sym ke
            ]
          ];
          within = λ k less. elim (cases k less) [
            | inl l ↦ rw (at_old k l) (noted.finds.within k l)
            | inr e ↦ rw e (rw at_new lt)
          ];
        };
        sized = length-set seen n true ∙ noted.sized;
        seen_found = λ m is. elim (cases_eq m n) [
          | inl e ↦ (count, omega (arith, len), ap (λ (x : Found). x.node) at_new ∙ sym e)
          | inr ne ↦
              let was : is_seen seen m ≡ true = sym (get_or-set_other seen n m true false ne) ∙ is in
              let at = noted.seen_found m was in
              (at.0, (let l : at.0 < count = at.1 in omega (arith, len)), ap (λ (x : Found). x.node) (at_old at.0 at.1) ∙ at.2)
        ];
        counted = count-new found seen f n sized unseen noted.counted;
        found_seen = λ k less. elim (cases k less) [
          | inl l ↦ rw (at_old k l) (seen-old seen n (find_at found k).node sized (noted.found_seen k l))
          | inr e ↦ rw e (rw at_new (get_or-set_same seen n true false sized))
        ];
      };
      kept = record { longer = omega (arith, len); finds = at_old; old_ways = old };
      covered = λ m also.
          let same : n ≡ m = (let e : Some n ≡ Some m = sym to ∙ also in cc) in
          record { entry = count; within = omega (arith, len); node_is = ap (λ (x : Found). x.node) at_new ∙ same; least = inl last };
      at_most = λ k less. elim (cases k less) [
        | inl l ↦ rw (old k l) (inr (below k l))
        | inr e ↦ rw e (inl last)
      ];
    }
  where
    origin-old : (ways : ℕ → Way) (count : ℕ) (w : Way) (k : ℕ) (o : Origin) → k < count → HasOrigin ways k o → HasOrigin (extended ways count w) k o
    origin-old ways count w k (Slot r) l h = extended-old ways count w k l ∙ h
    origin-old ways count w k (Field e i) l h =
        let less : e < k = h.0 in
        (less, extended-old ways count w k l ∙ h.1 ∙ ap (λ (x : Way). by_field x i) (sym (extended-old ways count w e (omega arith))))

    origin-new : (ways : ℕ → Way) (count : ℕ) (w : Way) (o : Origin) → ComesFrom ways count w o → HasOrigin (extended ways count w) count o
    origin-new ways count w (Slot r) h = extended-new ways count w ∙ h
    origin-new ways count w (Field e i) h =
        (h.0, extended-new ways count w ∙ h.1 ∙ ap (λ (x : Way). by_field x i) (sym (extended-old ways count w e h.0)))

pub slots-next : (roots : List ℕ) (cells : List CellList) (found : List Found) (seen : List Bool) (count : ℕ) (more : List Found) (after : List Bool) (s : SlotsNoted roots cells found seen count) → WasGone roots cells found s.ways (from_slot count) more after → SlotsNoted roots cells more after (count + 1)
slots-next roots cells found seen count more after s g = record {
  ways = g.new;
  noted = g.noted;
  covered = λ r lt. elim (cases_lt r count) [
    | inl l ↦ covered-kept roots cells found s.ways more g.new (from_slot r) g.kept (s.covered r l)
    | inr ge ↦ let e : r ≡ count = omega arith in subst (λ z. IsCovered roots cells more g.new (from_slot z)) (sym e) g.covered
  ];
  below = λ k lt. at_most-slot (g.new k) count (g.at_most k lt);
}

pub fields-next : (roots : List ℕ) (cells : List CellList) (found : List Found) (seen : List Bool) (entry field : ℕ) (more : List Found) (after : List Bool) (s : FieldsNoted roots cells found seen entry field) → entry < length found → WasGone roots cells found s.ways (by_field (s.ways entry) field) more after → FieldsNoted roots cells more after entry (field + 1)
fields-next roots cells found seen entry field more after s within g =
    let same : g.new entry ≡ s.ways entry = g.kept.old_ways entry within in
    record {
      ways = g.new;
      noted = g.noted;
      slots = λ r. covered-kept roots cells found s.ways more g.new (from_slot r) g.kept (s.slots r);
      before = λ e i less lt.
          let l : e < length found = omega arith in
          let was = covered-kept roots cells found s.ways more g.new (by_field (s.ways e) i) g.kept (s.before e i less l) in
          subst (λ (w : Way). IsCovered roots cells more g.new (by_field w i)) (sym (g.kept.old_ways e l)) was;
      here = λ i lt _. elim (cases_lt i field) [
        | inl l ↦
            let was = covered-kept roots cells found s.ways more g.new (by_field (s.ways entry) i) g.kept (s.here i l within) in
            subst (λ (w : Way). IsCovered roots cells more g.new (by_field w i)) (sym same) was
        | inr ge ↦
            let e : i ≡ field = omega arith in
            subst (λ z. IsCovered roots cells more g.new (by_field (g.new entry) z)) (sym e) (subst (λ (w : Way). IsCovered roots cells more g.new (by_field w field)) (sym same) g.covered)
      ];
      below = λ _ k lt. subst (λ (w : Way). Before (g.new k) (by_field w (field + 1))) (sym same) (at_most-next (g.new k) (s.ways entry) field (g.at_most k lt));
    }

-- all fields of a find were gone over: a field after them is nil
pub fields-last : (roots : List ℕ) (cells : List CellList) (found : List Found) (seen : List Bool) (entry field : ℕ) → entry < length found → ((i : ℕ) → field ≤ i → field_target cells (Some (find_at found entry).node) i ≡ None) → FieldsNoted roots cells found seen entry field → FieldsNoted roots cells found seen (entry + 1) 0
fields-last roots cells found seen entry field within nil s =
    let all : (i : ℕ) → IsCovered roots cells found s.ways (by_field (s.ways entry) i) = λ i. (elim (cases_lt i field) [
      | inl l ↦ s.here i l within
      | inr ge ↦ λ n to. absurd (let e : field_target cells (Some (find_at found entry).node) i ≡ Some n = subst (λ o. field_target cells o i ≡ Some n) (s.noted.finds.leading entry within) to in let e2 : None ≡ Some n = sym (nil i ge) ∙ e in cc)
    ]) in
    record {
      ways = s.ways;
      noted = s.noted;
      slots = s.slots;
      before = λ e i less lt. elim (cases_lt e entry) [
        | inl l ↦ s.before e i l lt
        | inr ge ↦ let same : e ≡ entry = omega arith in subst (λ z. IsCovered roots cells found s.ways (by_field (s.ways z) i)) (sym same) (all i)
      ];
      here = λ i lt _. absurd (omega arith);
      below = λ lt k kin. at_most-before (s.ways k) (by_field (s.ways entry) field) (by_field (s.ways (entry + 1)) 0) (inr (s.below within k kin)) (inl (s.noted.finds.rising entry (entry + 1) (omega arith) lt));
    }

pub slots-last : (roots : List ℕ) (cells : List CellList) (found : List Found) (seen : List Bool) (count : ℕ) → ((r : ℕ) → count ≤ r → leads roots cells (from_slot r) ≡ None) → SlotsNoted roots cells found seen count → FieldsNoted roots cells found seen 0 0
slots-last roots cells found seen count nil s = record {
  ways = s.ways;
  noted = s.noted;
  slots = λ r. elim (cases_lt r count) [
    | inl l ↦ s.covered r l
    | inr ge ↦ λ n to. absurd (let e : None ≡ Some n = sym (nil r ge) ∙ to in cc)
  ];
  before = λ e i less lt. absurd (omega arith);
  here = λ i lt _. absurd (omega arith);
  below = λ lt k kin. slot-before_field (s.ways k) (s.ways 0) count 0 (s.below k kin);
}

by-field : (roots : List ℕ) (cells : List CellList) (found : List Found) (seen : List Bool) (entry : ℕ) → length found ≤ entry → (s : FieldsNoted roots cells found seen entry 0) → (w : Way) (i n : ℕ) (o : Option ℕ) → leads roots cells w ≡ o → ((m : ℕ) → leads roots cells w ≡ Some m → FoundBy found s.ways m w) → field_target cells o i ≡ Some n → FoundBy found s.ways n (by_field w i)
by-field roots cells found seen entry done s w i n None e before h = absurd (let k : None ≡ Some n = h in cc)
by-field roots cells found seen entry done s w i n (Some m) e before h =
    let first : FoundBy found s.ways m w = before m e in
    let at : ℕ = first.entry in
    let lt : at < length found = first.within in
    let leads_there : field_target cells (leads roots cells (s.ways at)) i ≡ Some n = rw (s.noted.finds.leading at lt) (rw first.node_is h) in
    let next : FoundBy found s.ways n (by_field (s.ways at) i) = s.before at i (omega arith) lt n leads_there in
    record { entry = next.entry; within = next.within; node_is = next.node_is; least = at_most-trans (s.ways next.entry) (by_field (s.ways at) i) (by_field w i) next.least (at_most-field (s.ways at) w i first.least) }

-- where all finds were gone over, all that ways lead to is found
pub all-found : (roots : List ℕ) (cells : List CellList) (found : List Found) (seen : List Bool) (entry : ℕ) → length found ≤ entry → (s : FieldsNoted roots cells found seen entry 0) → (v : Way) → IsCovered roots cells found s.ways v
all-found roots cells found seen entry done s (from_slot r) n to = s.slots r n to
all-found roots cells found seen entry done s (by_field w i) n to = by-field roots cells found seen entry done s w i n (leads roots cells w) refl (λ m e. all-found roots cells found seen entry done s w m e) to

pub is-searched : (roots : List ℕ) (cells : List CellList) (found : List Found) (seen : List Bool) (entry : ℕ) → length found ≤ entry → FieldsNoted roots cells found seen entry 0 → IsSearched roots cells found
is-searched roots cells found seen entry done s = record { ways = s.ways; finds = s.noted.finds; all = all-found roots cells found seen entry done s }

-- there are no more finds than objects
seen_count-most : (seen : List Bool) → seen_count seen ≤ length seen
seen_count-most [] = omega arith
seen_count-most (b ∷ bs) =
    let rest = seen_count-most bs in
    let head : one_if b ≤ 1 = one_if-most b in
    omega (arith, rest, head, sum_by-cons one_if b bs)
  where
    one_if-most : (b : Bool) → one_if b ≤ 1
    one_if-most true = omega arith
    one_if-most false = omega arith

pub finds-few : (roots : List ℕ) (cells : List CellList) (found : List Found) (seen : List Bool) (ways : ℕ → Way) → AreNotedFinds roots cells found seen ways → length found ≤ length cells
finds-few roots cells found seen ways noted = omega (arith, seen_count-most seen, noted.counted, noted.sized)

-- what a word refers to is an object of the list
pub number_at-within : (cells : List CellList) (a n : ℕ) → number_at cells a ≡ Some n → n < length cells
number_at-within [] a n e = absurd (let k : None ≡ Some n = e in cc)
number_at-within (c ∷ cs) a n e = either (c.address == a) (number_at cs a) (λ m h. number_at-within cs a m h) e
  where
    shifted : (o : Option ℕ) → ((m : ℕ) → o ≡ Some m → m < length cs) → option_map (λ (m : ℕ). m + 1) o ≡ Some n → n < length (c ∷ cs)
    shifted None within h = absurd (let k : None ≡ Some n = h in cc)
    shifted (Some m) within h = let lt : m < length cs = within m refl in let same : m + 1 ≡ n = (let k : Some (m + 1) ≡ Some n = h in cc) in omega arith

    either : (b : Bool) (o : Option ℕ) → ((m : ℕ) → o ≡ Some m → m < length cs) → (if b then Some 0 else option_map (λ (m : ℕ). m + 1) o) ≡ Some n → n < length (c ∷ cs)
    either true o within h = let same : 0 ≡ n = (let k : Some 0 ≡ Some n = h in cc) in omega arith
    either false o within h = shifted o within h

word-within : (cells : List CellList) (w : Word) (n : ℕ) → word_target cells w ≡ Some n → n < length cells
word-within cells Nil n e = absurd (let k : None ≡ Some n = e in cc)
word-within cells (Num v) n e = absurd (let k : None ≡ Some n = e in cc)
word-within cells (Ref a) n e = number_at-within cells a.0 n e

pub target-within : (cells : List CellList) (bits n : ℕ) → target_of cells bits ≡ Some n → n < length cells
target-within cells bits n e = word-within cells (word_of_bits bits) n e

-- after the last field and the last slot there is nil
pub target-nil : (cells : List CellList) → target_of cells 0 ≡ None
target-nil cells = ap (word_target cells) word_of_bits-nil

pub target-past : (cells : List CellList) (bits : List ℕ) (i : ℕ) → length bits ≤ i → target_of cells (get_or bits i 0) ≡ None
target-past cells bits i le = rw (get_or_past bits i 0 le) (target-nil cells)

-- a slot that leads nowhere, or to an object
pub slot-nowhere : (roots : List ℕ) (cells : List CellList) (found : List Found) (seen : List Bool) (count : ℕ) → None ≡ target_of cells (get_or roots count 0) → SlotsNoted roots cells found seen count → SlotsNoted roots cells found seen (count + 1)
slot-nowhere roots cells found seen count to s = slots-next roots cells found seen count found seen s (gone-nowhere roots cells found seen s.ways (from_slot count) s.noted s.below (sym to))

pub slot-found : (roots : List ℕ) (cells : List CellList) (found : List Found) (seen : List Bool) (count n : ℕ) → Some n ≡ target_of cells (get_or roots count 0) → SlotsNoted roots cells found seen count → SlotsNoted roots cells (found_after found seen n (Slot count)) (seen_after seen n) (count + 1)
slot-found roots cells found seen count n to s = at (is_seen seen n) refl
  where
    at : (b : Bool) → is_seen seen n ≡ b → SlotsNoted roots cells (if b then found else found ++ record { node = n; origin = Slot count } ∷ []) (if b then seen else set seen n true) (count + 1)
    at true is = slots-next roots cells found seen count found seen s (gone-seen roots cells found seen s.ways (from_slot count) n s.noted s.below (sym to) is)
    at false is = slots-next roots cells found seen count (found ++ record { node = n; origin = Slot count } ∷ []) (set seen n true) s (gone-new roots cells found seen s.ways (from_slot count) n (Slot count) s.noted s.below (sym to) (target-within cells (get_or roots count 0) n (sym to)) refl is)

-- a field that leads nowhere, or to an object
pub field-nowhere : (roots : List ℕ) (cells : List CellList) (found : List Found) (seen : List Bool) (entry field : ℕ) → entry < length found → None ≡ target_of cells (get_or (cell_at cells (find_at found entry).node).fields field 0) → FieldsNoted roots cells found seen entry field → FieldsNoted roots cells found seen entry (field + 1)
field-nowhere roots cells found seen entry field within to s =
    let nowhere : leads roots cells (by_field (s.ways entry) field) ≡ None = rw (s.noted.finds.leading entry within) (sym to) in
    fields-next roots cells found seen entry field found seen s within (gone-nowhere roots cells found seen s.ways (by_field (s.ways entry) field) s.noted (s.below within) nowhere)

pub field-found : (roots : List ℕ) (cells : List CellList) (found : List Found) (seen : List Bool) (entry field n : ℕ) → entry < length found → Some n ≡ target_of cells (get_or (cell_at cells (find_at found entry).node).fields field 0) → FieldsNoted roots cells found seen entry field → FieldsNoted roots cells (found_after found seen n (Field entry field)) (seen_after seen n) entry (field + 1)
field-found roots cells found seen entry field n within to s = at (is_seen seen n) refl
  where
    at : (b : Bool) → is_seen seen n ≡ b → FieldsNoted roots cells (if b then found else found ++ record { node = n; origin = Field entry field } ∷ []) (if b then seen else set seen n true) entry (field + 1)
    at true is =
        let there : leads roots cells (by_field (s.ways entry) field) ≡ Some n = rw (s.noted.finds.leading entry within) (sym to) in
        fields-next roots cells found seen entry field found seen s within (gone-seen roots cells found seen s.ways (by_field (s.ways entry) field) n s.noted (s.below within) there is)
    at false is =
        let there : leads roots cells (by_field (s.ways entry) field) ≡ Some n = rw (s.noted.finds.leading entry within) (sym to) in
        fields-next roots cells found seen entry field (found ++ record { node = n; origin = Field entry field } ∷ []) (set seen n true) s within (gone-new roots cells found seen s.ways (by_field (s.ways entry) field) n (Field entry field) s.noted (s.below within) there (target-within cells (get_or (cell_at cells (find_at found entry).node).fields field 0) n (sym to)) (within, refl) is)

-- finds stay, and what is seen has its size
pub after-longer : (found : List Found) (seen : List Bool) (n : ℕ) (o : Origin) → length found ≤ length (found_after found seen n o)
after-longer found seen n o = at (is_seen seen n)
  where
    at : (b : Bool) → length found ≤ length (if b then found else found ++ record { node = n; origin = o } ∷ [])
    at true = omega arith
    at false = omega (arith, length_push found (record { node = n; origin = o }))

pub after-kept : (found : List Found) (seen : List Bool) (n : ℕ) (o : Origin) (k : ℕ) → k < length found → find_at (found_after found seen n o) k ≡ find_at found k
after-kept found seen n o k lt = at (is_seen seen n)
  where
    at : (b : Bool) → find_at (if b then found else found ++ record { node = n; origin = o } ∷ []) k ≡ find_at found k
    at true = refl
    at false = find-old found (record { node = n; origin = o }) k lt

pub after-sized : (seen : List Bool) (n : ℕ) → length (seen_after seen n) ≡ length seen
after-sized seen n = at (is_seen seen n)
  where
    at : (b : Bool) → length (if b then seen else set seen n true) ≡ length seen
    at true = refl
    at false = length-set seen n true

-- the search begins with no find
pub begun : (roots : List ℕ) (cells : List CellList) → SlotsNoted roots cells [] (replicate (length cells) false) 0
begun roots cells = record {
  ways = λ k. from_slot 0;
  noted = record {
    finds = record {
      leading = λ k lt. absurd (omega arith);
      origin = λ k lt. absurd (omega arith);
      rising = λ j k less lt. absurd (omega arith);
      once = λ j k jin kin same. absurd (omega arith);
      within = λ k lt. absurd (omega arith);
    };
    sized = length-replicate (length cells) false;
    counted = none (length cells);
    seen_found = λ n is. absurd (unseen n is);
    found_seen = λ k lt. absurd (omega arith);
  };
  covered = λ r lt. absurd (omega arith);
  below = λ k lt. absurd (omega arith);
}
  where
    none : (n : ℕ) → seen_count (replicate n false) ≡ 0
    none zero = refl
    none (suc n) = none n

    unseen : (n : ℕ) → is_seen (replicate (length cells) false) n ≡ true → ⊥
    unseen n is = elim (cases_lt n (length cells)) [
      | inl l ↦ let e : true ≡ false = sym is ∙ get_or-replicate (length cells) n false false l in cc
      | inr ge ↦ let len : length (replicate (length cells) false) ≡ length cells = length-replicate (length cells) false in let e : true ≡ false = sym is ∙ get_or_past (replicate (length cells) false) n false (omega arith) in cc
    ]
