-- Seats that are joined one by one.
use Rattle.std.proofs.Common.{◌≡◌, ℕ, ◌+◌, ◌-◌, ◌^◌, ◌<◌, ◌≤◌, List, [], ◌∷◌, ◌++◌, length, get_or, min, inl, inr, refl, ap, sym, subst, ◌∙◌, arith, length-append}
use Rattle.std.proofs.lemmas.Bool.{cases_eq}
use Rattle.atomic_table.specs.declared.shared.Seat.{Seat as Worker}
use Rattle.atomic_table.specs.Seated.{TableId}
use Rattle.bc_frames.specs.Places.{StoreView}
use Rattle.bc_pins.specs.declared.views.Lodged.{Lodged}
use Rattle.bc_pins.specs.declared.views.View.{View}
use Rattle.bc_pins.specs.declared.pins.Seat.{Seat}
use Rattle.bc_pins.specs.Key.{Key, owner}
use Rattle.bc_pins.specs.Totals.{total, times}
use Rattle.bc_pins.specs.Tidy.{IsTidy}
use Rattle.bc_pins.specs.Views.{has_role, sets_bit, reads_of, entries, look_up, opened_content, record_of}
use Rattle.bc_pins.specs.Steps.{Mine, united}
use Rattle.bc_pins.specs.Tracing.{tells}
use Rattle.bc_pins.specs.Calls.{view_of, CountsFetches}
use Rattle.bc_pins.specs.Closing.{IsBack, AreBack, Gathered, claims_of, fetches_of}
use Rattle.bc_pins.proofs.TotalLemmas.{total_append, times_append}
use Rattle.bc_pins.proofs.LogLemmas.{times-reads}
use Rattle.bc_pins.proofs.TracingLemmas.{tells_append}
use Rattle.bc_pins.proofs.JoinLemmas.{entries_append, puts_append, sets_append, look_skips, look_first}
use Rattle.bc_pins.specs.Facts.{puts_with}
use Rattle.bc_pins.proofs.DealLemmas.{front_of, end_of}

-- what moves from a seat to the root
moved : (f : View → List ℕ) (v : View) (front : List Seat) (seat : Seat) (p n : ℕ)
    → times p (f v) + total (λ (s : Seat). times p (f (view_of s))) (front ++ seat ∷ []) ≡ n
    → times p (f v ++ f (view_of seat)) + total (λ (s : Seat). times p (f (view_of s))) front ≡ n
moved f v front seat p n e =
    let a = times_append p (f v) (f (view_of seat)) in
    let b = total_append (λ (s : Seat). times p (f (view_of s))) front (seat ∷ []) in
    omega arith

first_moved : (f : View → List ℕ) (front : List Seat) (seat : Seat) (p : ℕ)
    → times p (f (view_of seat)) + total (λ (s : Seat). times p (f (view_of s))) front ≡ total (λ (s : Seat). times p (f (view_of s))) (front ++ seat ∷ [])
first_moved f front seat p = let b = total_append (λ (s : Seat). times p (f (view_of s))) front (seat ∷ []) in omega arith

-- the same of bits
set_moved : (v : View) (front : List Seat) (seat : Seat) (w b n : ℕ)
    → sets_bit w b v.bookmarked + total (λ (s : Seat). sets_bit w b (view_of s).bookmarked) (front ++ seat ∷ []) ≡ n
    → sets_bit w b (v.bookmarked ++ (view_of seat).bookmarked) + total (λ (s : Seat). sets_bit w b (view_of s).bookmarked) front ≡ n
set_moved v front seat w b n e =
    let a = sets_append w b v.bookmarked (view_of seat).bookmarked in
    let c = total_append (λ (s : Seat). sets_bit w b (view_of s).bookmarked) front (seat ∷ []) in
    omega arith

first_set : (front : List Seat) (seat : Seat) (w b : ℕ)
    → sets_bit w b (view_of seat).bookmarked + total (λ (s : Seat). sets_bit w b (view_of s).bookmarked) front ≡ total (λ (s : Seat). sets_bit w b (view_of s).bookmarked) (front ++ seat ∷ [])
first_set front seat w b = let c = total_append (λ (s : Seat). sets_bit w b (view_of s).bookmarked) front (seat ∷ []) in omega arith

-- and of what words and bits say
told_moved : (f : View → List (ℕ × ℕ)) (v : View) (front : List Seat) (seat : Seat) (w b n : ℕ)
    → tells w b (f v) + total (λ (s : Seat). tells w b (f (view_of s))) (front ++ seat ∷ []) ≡ n
    → tells w b (f v ++ f (view_of seat)) + total (λ (s : Seat). tells w b (f (view_of s))) front ≡ n
told_moved f v front seat w b n e =
    let a = tells_append w b (f v) (f (view_of seat)) in
    let c = total_append (λ (s : Seat). tells w b (f (view_of s))) front (seat ∷ []) in
    omega arith

first_told : (f : View → List (ℕ × ℕ)) (front : List Seat) (seat : Seat) (w b : ℕ)
    → tells w b (f (view_of seat)) + total (λ (s : Seat). tells w b (f (view_of s))) front ≡ total (λ (s : Seat). tells w b (f (view_of s))) (front ++ seat ∷ [])
first_told f front seat w b = let c = total_append (λ (s : Seat). tells w b (f (view_of s))) front (seat ∷ []) in omega arith

-- and of contents
put_moved : (k : Key) (v : View) (front : List Seat) (seat : Seat) (p w b n : ℕ)
    → puts_with k p w b v.changed + total (λ (s : Seat). puts_with k p w b (view_of s).changed) (front ++ seat ∷ []) ≡ n
    → puts_with k p w b (v.changed ++ (view_of seat).changed) + total (λ (s : Seat). puts_with k p w b (view_of s).changed) front ≡ n
put_moved k v front seat p w b n e =
    let a = puts_append k p w b v.changed (view_of seat).changed in
    let c = total_append (λ (s : Seat). puts_with k p w b (view_of s).changed) front (seat ∷ []) in
    omega arith

first_put : (k : Key) (front : List Seat) (seat : Seat) (p w b : ℕ)
    → puts_with k p w b (view_of seat).changed + total (λ (s : Seat). puts_with k p w b (view_of s).changed) front ≡ total (λ (s : Seat). puts_with k p w b (view_of s).changed) (front ++ seat ∷ [])
first_put k front seat p w b = let c = total_append (λ (s : Seat). puts_with k p w b (view_of s).changed) front (seat ∷ []) in omega arith

-- and of what was read of a word
read_moved : (v : View) (front : List Seat) (seat : Seat) (i n m : ℕ)
    → times n (reads_of i v.read) + total (λ (s : Seat). times n (reads_of i (view_of s).read)) (front ++ seat ∷ []) ≡ m
    → times n (reads_of i (v.read ++ (view_of seat).read)) + total (λ (s : Seat). times n (reads_of i (view_of s).read)) front ≡ m
read_moved v front seat i n m e =
    let a = times-reads n i v.read (view_of seat).read in
    let b = total_append (λ (s : Seat). times n (reads_of i (view_of s).read)) front (seat ∷ []) in
    omega arith

pub entries_none : (k : Key) (v : View) (p : ℕ) → IsTidy v → v.about ≡ k → has_role v (owner k p) ≡ 0 → entries p v.changed ≡ 0
entries_none k v p tidy about z = tidy p (subst (λ (a : Key). has_role v (owner a p) ≡ 0) (sym about) z)

pub tidy_united : (k : Key) (v w : View) → IsTidy v → IsTidy w → v.about ≡ k → w.about ≡ k → IsTidy (united v w)
tidy_united k v w a b e f p z =
    let both = times_append (owner v.about p) v.roles w.roles in
    let one = a p (omega arith) in
    let none_w : has_role w (owner v.about p) ≡ 0 = omega arith in
    let two = b p (subst (λ (x : Key). has_role w (owner x p) ≡ 0) (e ∙ sym f) none_w) in
    let c = entries_append p v.changed w.changed in
    omega arith

module _ (id : TableId) (k : Key) (apart : (r : ℕ) → times r k.roles ≤ 1) (all front : List Seat) (seat : Seat) (back : AreBack id k all) where
  pub gathered_first : (root : Worker Lodged View) → all ≡ front ++ seat ∷ [] → root ≡ seat.inner → Gathered id k all front root
  gathered_first root is same =
      let size : length all ≡ length front + 1 = ap length is ∙ length-append front (seat ∷ []) in
      let here : (d : Seat) → get_or all (length front) d ≡ seat = λ d. ap (λ (l : List Seat). get_or l (length front) d) is ∙ end_of d front seat (length front) refl in
      let b : IsBack id k seat = subst (IsBack id k) (here seat) (back.each (length front) (omega arith) seat) in
      subst (Gathered id k all front) (sym same) record {
        table = b.table;
        about = b.about;
        hand = b.hand;
        slots = b.slots;
        rights = b.rights;
        tidy = b.tidy;
        fewer = omega arith;
        same = λ j lt d. sym (ap (λ (l : List Seat). get_or l j d) is ∙ front_of d front seat j lt);
        roles = λ r. first_moved (λ v. v.roles) front seat r ∙ ap (total (λ (s : Seat). has_role (view_of s) r)) (sym is) ∙ back.roles r;
        recorded = λ p. first_moved (λ v. v.recorded) front seat p ∙ ap (total (λ (s : Seat). times p (view_of s).recorded)) (sym is);
        left = λ p. first_moved (λ v. v.left) front seat p ∙ ap (total (λ (s : Seat). times p (view_of s).left)) (sym is);
        emptied = λ p. first_moved (λ v. v.emptied) front seat p ∙ ap (total (λ (s : Seat). times p (view_of s).emptied)) (sym is);
        bookmarked = λ w b. first_set front seat w b ∙ ap (total (λ (s : Seat). sets_bit w b (view_of s).bookmarked)) (sym is);
        won = λ w b. first_told (λ v. v.won) front seat w b ∙ ap (total (λ (s : Seat). tells w b (view_of s).won)) (sym is);
        finished = λ w b. first_told (λ v. v.finished) front seat w b ∙ ap (total (λ (s : Seat). tells w b (view_of s).finished)) (sym is);
        fetched = λ p. first_moved (λ v. v.fetched) front seat p ∙ ap (total (λ (s : Seat). times p (view_of s).fetched)) (sym is);
        returned = λ p. first_moved (λ v. v.returned) front seat p ∙ ap (total (λ (s : Seat). times p (view_of s).returned)) (sym is);
        gone = λ p. first_moved (λ v. v.gone) front seat p ∙ ap (total (λ (s : Seat). times p (view_of s).gone)) (sym is);
        busy = λ p. first_moved (λ v. v.busy) front seat p ∙ ap (total (λ (s : Seat). times p (view_of s).busy)) (sym is);
        put = λ p w b. first_put k front seat p w b ∙ ap (total (λ (s : Seat). puts_with k p w b (view_of s).changed)) (sym is);
        read = λ i n. first_moved (λ v. reads_of i v.read) front seat n ∙ ap (total (λ (s : Seat). times n (reads_of i (view_of s).read))) (sym is);
        claimed = (let b = total_append (λ (s : Seat). length (view_of s).notices) front (seat ∷ []) in let c = ap claims_of is in omega arith);
        notices = λ n. first_moved (λ v. v.notices) front seat n ∙ ap (total (λ (s : Seat). times n (view_of s).notices)) (sym is);
        mine = λ j le lt d p has.
            let e : get_or all j d ≡ seat = (let z : j ≡ length front = omega arith in ap (λ (i : ℕ). get_or all i d) z ∙ here d) in
            (subst (λ (s : Seat). 0 < has_role (view_of s) (owner k p)) e has, sym (ap (λ (s : Seat). record_of (view_of s) p) e));
      }

  pub last_back : all ≡ front ++ seat ∷ [] → IsBack id k seat
  last_back is =
      let size : length all ≡ length front + 1 = ap length is ∙ length-append front (seat ∷ []) in
      subst (IsBack id k) (ap (λ (l : List Seat). get_or l (length front) seat) is ∙ end_of seat front seat (length front) refl) (back.each (length front) (omega arith) seat)

  seat_back : (root : Worker Lodged View) → Gathered id k all (front ++ seat ∷ []) root → ((d : Seat) → get_or all (length front) d ≡ seat) × IsBack id k seat
  seat_back root g =
      let size = length-append front (seat ∷ []) in
      let few = g.fewer in
      let here : (d : Seat) → get_or all (length front) d ≡ seat = λ d. sym (g.same (length front) (omega arith) d) ∙ end_of d front seat (length front) refl in
      (here, subst (IsBack id k) (here seat) (back.each (length front) (omega arith) seat))

  pub gathered_more : (root new : Worker Lodged View) → Gathered id k all (front ++ seat ∷ []) root → new.table_id ≡ root.table_id → new.me ≡ (united root.me.0 seat.inner.me.0, root.me.1)
      → Gathered id k all front new
  gathered_more root new g table me =
      let size = length-append front (seat ∷ []) in
      let few = g.fewer in
      let both = seat_back root g in
      let here = both.0 in
      let b = both.1 in
      let v : View = root.me.0 in
      let w : View = view_of seat in
      let view : new.me.0 ≡ united v w = ap (λ (m : Mine). m.0) me in
      let one_has : (r : ℕ) → has_role v r + has_role w r ≤ 1 = λ r.
      (let a = g.roles r in let c = total_append (λ (s : Seat). has_role (view_of s) r) front (seat ∷ []) in let d = apart r in omega arith) in
      record {
        table = table ∙ g.table;
        about = ap (λ (u : View). u.about) view ∙ g.about;
        hand = ap (λ (u : View). u.hand) view ∙ g.hand;
        slots = ap (λ (m : Mine). m.1) me ∙ g.slots;
        rights = ap (λ (u : View). u.rights) view ∙ ap (λ (l : List ℕ). l ++ w.rights) g.rights ∙ b.rights;
        tidy = subst IsTidy (sym view) (tidy_united k v w g.tidy b.tidy g.about b.about);
        fewer = omega arith;
        same = λ j lt d. sym (front_of d front seat j lt) ∙ g.same j (omega arith) d;
        roles = λ r. ap (λ (u : View). times r u.roles + total (λ (s : Seat). has_role (view_of s) r) front) view ∙ moved (λ u. u.roles) v front seat r _ (g.roles r);
        recorded = λ p. ap (λ (u : View). times p u.recorded + total (λ (s : Seat). times p (view_of s).recorded) front) view ∙ moved (λ u. u.recorded) v front seat p _ (g.recorded p);
        left = λ p. ap (λ (u : View). times p u.left + total (λ (s : Seat). times p (view_of s).left) front) view ∙ moved (λ u. u.left) v front seat p _ (g.left p);
        emptied = λ p. ap (λ (u : View). times p u.emptied + total (λ (s : Seat). times p (view_of s).emptied) front) view ∙ moved (λ u. u.emptied) v front seat p _ (g.emptied p);
        bookmarked = λ x b. ap (λ (u : View). sets_bit x b u.bookmarked + total (λ (s : Seat). sets_bit x b (view_of s).bookmarked) front) view ∙ set_moved v front seat x b _ (g.bookmarked x b);
        won = λ x b. ap (λ (u : View). tells x b u.won + total (λ (s : Seat). tells x b (view_of s).won) front) view ∙ told_moved (λ u. u.won) v front seat x b _ (g.won x b);
        finished = λ x b. ap (λ (u : View). tells x b u.finished + total (λ (s : Seat). tells x b (view_of s).finished) front) view ∙ told_moved (λ u. u.finished) v front seat x b _ (g.finished x b);
        fetched = λ p. ap (λ (u : View). times p u.fetched + total (λ (s : Seat). times p (view_of s).fetched) front) view ∙ moved (λ u. u.fetched) v front seat p _ (g.fetched p);
        returned = λ p. ap (λ (u : View). times p u.returned + total (λ (s : Seat). times p (view_of s).returned) front) view ∙ moved (λ u. u.returned) v front seat p _ (g.returned p);
        gone = λ p. ap (λ (u : View). times p u.gone + total (λ (s : Seat). times p (view_of s).gone) front) view ∙ moved (λ u. u.gone) v front seat p _ (g.gone p);
        busy = λ p. ap (λ (u : View). times p u.busy + total (λ (s : Seat). times p (view_of s).busy) front) view ∙ moved (λ u. u.busy) v front seat p _ (g.busy p);
        put = λ p x b. ap (λ (u : View). puts_with k p x b u.changed + total (λ (s : Seat). puts_with k p x b (view_of s).changed) front) view ∙ put_moved k v front seat p x b _ (g.put p x b);
        read = λ i n. ap (λ (u : View). times n (reads_of i u.read) + total (λ (s : Seat). times n (reads_of i (view_of s).read)) front) view ∙ read_moved v front seat i n _ (g.read i n);
        claimed =
            (let a = length-append v.notices w.notices in
            let c = total_append (λ (s : Seat). length (view_of s).notices) front (seat ∷ []) in
            let e : length new.me.0.notices ≡ length (v.notices ++ w.notices) = ap (λ (u : View). length u.notices) view in
            let old = g.claimed in
            omega arith);
        notices = λ n. ap (λ (u : View). times n u.notices + total (λ (s : Seat). times n (view_of s).notices) front) view ∙ moved (λ u. u.notices) v front seat n _ (g.notices n);
        mine = λ j le lt d p has.
            let sum = times_append (owner k p) v.roles w.roles in
            let one = one_has (owner k p) in
            let united_has : has_role new.me.0 (owner k p) ≡ has_role v (owner k p) + has_role w (owner k p) = ap (λ (u : View). has_role u (owner k p)) view ∙ sum in
            let record_is : record_of new.me.0 p ≡ record_of (united v w) p = ap (λ (u : View). record_of u p) view in
            elim (cases_eq j (length front)) [
              | inl e ↦
                  let is : get_or all j d ≡ seat = ap (λ (i : ℕ). get_or all i d) e ∙ here d in
                  let w_has : 0 < has_role w (owner k p) = subst (λ (s : Seat). 0 < has_role (view_of s) (owner k p)) is has in (
                    omega arith,
                    record_is ∙ look_skips p v.changed w.changed (opened_content v.about p) (entries_none k v p g.tidy g.about (omega arith))
                        ∙ ap (λ (a : Key). look_up p w.changed (opened_content a p)) (g.about ∙ sym b.about)
                        ∙ sym (ap (λ (s : Seat). record_of (view_of s) p) is),
                  )
              | inr ne ↦
                  let old = g.mine j (omega arith) lt d p has in
                  let v_has = old.0 in
                  (omega arith, record_is ∙ look_first p v.changed w.changed (opened_content v.about p) (entries_none k w p b.tidy b.about (omega arith)) ∙ old.1)
            ];
      }

  pub seat_is_back : (root : Worker Lodged View) → Gathered id k all (front ++ seat ∷ []) root → IsBack id k seat
  seat_is_back root g = (seat_back root g).1

-- reads, as they are counted
pub reads_first : (front : List Seat) (seat : Seat) (all : List Seat) (old new : ℕ) → all ≡ front ++ seat ∷ [] → CountsFetches seat → new ≡ min (old + seat.opens) (2 ^ 64 - 1)
    → min (new + fetches_of front) (2 ^ 64 - 1) ≡ min (old + fetches_of all) (2 ^ 64 - 1)
reads_first front seat all old new is counts e =
    let a : fetches_of all ≡ fetches_of (front ++ seat ∷ []) = ap fetches_of is in
    let b = total_append (λ (s : Seat). length (view_of s).fetched) front (seat ∷ []) in
    omega arith

pub store_is : (old new : StoreView) (n : ℕ) → new ≡ record old { reads = n } → new ≡ record old { reads = new.reads }
store_is old new n e = e ∙ ap (λ (m : ℕ). record old { reads = m }) (sym (ap (λ (s : StoreView). s.reads) e))
