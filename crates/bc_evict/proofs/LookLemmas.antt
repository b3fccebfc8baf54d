-- What was read of pages, and what a refused take says.
use Rattle.std.proofs.Common.{◌≡◌, ◌≢◌, ℕ, ◌+◌, ◌%◌, ◌<◌, ◌≤◌, ◌==◌, ◌&&◌, Bool, true, false, if◌then◌else◌, List, [], ◌∷◌, ◌++◌, inl, inr, refl, ap, sym, subst, ◌∙◌, arith, length, append_assoc, length-append}
use Rattle.std.proofs.lemmas.Bool.{cases_lt, eq-eqb, ne_eqb}
use Rattle.bc_bits.specs.Counting.{one_if}
use Rattle.bc_superpages.specs.declared.headers.PageState.{PageState}
use Rattle.bc_superpages.specs.declared.headers.PageState.TheVariants as state
use Rattle.bc_bookmarks.specs.Targets.{HasCell}
use Rattle.bc_pins.specs.declared.holding.Held.{Held}
use Rattle.bc_pins.specs.declared.pins.Seat.{Seat}
use Rattle.bc_pins.specs.declared.taking.Want.TheVariants.{Work, Victim}
use Rattle.bc_pins.specs.declared.taking.TakeError.{TakeError}
use Rattle.bc_pins.specs.declared.taking.TakeError.TheVariants as refusal
use Rattle.bc_pins.specs.declared.views.View.{View}
use Rattle.bc_pins.specs.Key.{Key, pages_of, page_at}
use Rattle.bc_pins.specs.Totals.{times}
use Rattle.bc_pins.specs.Contents.{IsBarePage}
use Rattle.bc_pins.specs.Views.{reads_of, reads_at, state_word}
use Rattle.bc_pins.specs.Steps.{having_read, owns}
use Rattle.bc_pins.specs.Calls.{refusal_word, IsTakeRefused}
use Rattle.bc_pins.proofs.TotalLemmas.{one_same}
use Rattle.bc_pins.proofs.LogLemmas.{times-reads, reads-append, reads-else}
use Rattle.bc_evict.specs.declared.walking.Kind.{Kind}
use Rattle.bc_evict.specs.declared.walking.Kind.TheVariants.{Bare, Filled}
use Rattle.bc_evict.specs.Looking.{MayStay, TookNone, WasFound, all_pages, steps_behind}
use Rattle.bc_evict.specs.Taking.{IsOfKind, MayStayAs, first_page, HasLooked, HasTried, HasTriedUpTo, IsTakenFor, HasTakenFirst}
use Rattle.bc_evict.proofs.RoundLemmas.{one_place, order_kept}

-- what was found is found among more
pub found-first : (a b : List (ℕ × ℕ)) (q : ℕ) (Where : PageState → Type 0) → WasFound a q Where → WasFound (a ++ b) q Where
found-first a b q Where f = record { place = f.place; among = f.among; read = let sum = times-reads (state_word f.place) (page_at q) a b in let some = f.read in omega arith }

pub found-last : (a b : List (ℕ × ℕ)) (q : ℕ) (Where : PageState → Type 0) → WasFound b q Where → WasFound (a ++ b) q Where
found-last a b q Where f = record { place = f.place; among = f.among; read = let sum = times-reads (state_word f.place) (page_at q) a b in let some = f.read in omega arith }

pub found-as : (a : List (ℕ × ℕ)) (q : ℕ) (One Other : PageState → Type 0) → ((st : PageState) → One st → Other st) → WasFound a q One → WasFound a q Other
found-as a q One Other to f = record { place = f.place; among = to f.place f.among; read = f.read }

-- a page that stays for its kind stays
pub stays-so : (kind : Kind) (st : PageState) → MayStayAs kind st → MayStay st
stays-so Bare state.Absent m = m
stays-so Bare state.Home m = m
stays-so Bare state.Remembered m = m
stays-so Bare state.Held m = m
stays-so Bare state.Gone m = absurd m
stays-so Filled state.Absent m = absurd m
stays-so Filled state.Home m = m
stays-so Filled state.Remembered m = m
stays-so Filled state.Held m = m
stays-so Filled state.Gone m = m

took-none : (k : Key) (a b : List (ℕ × ℕ)) → TookNone k a → TookNone k b → TookNone k (a ++ b)
took-none k a b x y page lt = let sum = times-reads 1 (page_at page) a b in let m = x page lt in let n = y page lt in omega arith

-- what was read of no page
no_more : (a b : List ℕ) → a ++ b ≡ b → a ≡ []
no_more [] b e = refl
no_more (x ∷ a) b e = let size = ap length e in let sum = length-append (x ∷ a) b in absurd (omega arith)

pub none_later : (i : ℕ) (later l : List (ℕ × ℕ)) → reads_of i (later ++ l) ≡ reads_of i l → reads_of i later ≡ []
none_later i later l e = no_more (reads_of i later) (reads_of i l) (sym (reads-append i later l) ∙ e)

pub none_both : (i : ℕ) (a b : List (ℕ × ℕ)) → reads_of i a ≡ [] → reads_of i b ≡ [] → reads_of i (a ++ b) ≡ []
none_both i a b x y = reads-append i a b ∙ ap (λ (l : List ℕ). l ++ reads_of i b) x ∙ y

-- no look, and some looks and then more
pub looked-none : (k : Key) (v : View) → HasLooked k v v []
looked-none k v = record { none = λ page lt. refl; words = λ i le. refl; gone = λ page. omega arith; view = refl }

pub looked-then : (k : Key) (v u w : View) (a b : List (ℕ × ℕ)) → HasLooked k v u a → HasLooked k u w b → HasLooked k v w (b ++ a)
looked-then k v u w a b first next = record {
  none = took-none k b a next.none first.none;
  words = λ i le. none_both i b a (next.words i le) (first.words i le);
  gone = λ page. let one = first.gone page in let two = next.gone page in omega arith;
  view = next.view
      ∙ ap (λ (x : View). record x { read = b ++ x.read; seen = w.seen; gone = w.gone; busy = w.busy }) first.view
      ∙ ap (λ (l : List (ℕ × ℕ)). record v { read = l; seen = w.seen; gone = w.gone; busy = w.busy }) (sym (append_assoc b a v.read));
}

-- one word that isn't Home's
no_one : (b : Bool) (n : ℕ) → n ≢ 1 → times 1 (if b then n ∷ [] else []) ≡ 0
no_one true n ne = let z : one_if (n == 1) ≡ 0 = ap one_if (ne_eqb n 1 ne) in omega arith
no_one false n ne = refl

-- a page that is noted may be one more
noted_more : (b : Bool) (page : ℕ) (p : ℕ) (l : List ℕ) → times p l ≤ times p (if b then page ∷ l else l)
noted_more true page p l = omega arith
noted_more false page p l = omega arith

pub looked-once : (k : Key) (v w : View) (page n : ℕ) → page < pages_of k → n ≢ 1 → w ≡ having_read v page n → HasLooked k v w ((page_at page, n) ∷ [])
looked-once k v w page n inside ne view = record {
  none = λ q lt. no_one (page_at page == page_at q) n ne;
  words = λ i le. reads-else i (page_at page) n [] (λ e. omega arith);
  gone = λ p. subst (λ (x : View). times p v.gone ≤ times p x.gone) (sym view) (noted_more ((n == 4) && owns v page) page p v.gone);
  view = subst (λ (x : View). x ≡ record v { read = (page_at page, n) ∷ v.read; seen = x.seen; gone = x.gone; busy = x.busy }) (sym view) refl;
}

pub found-once : (page n : ℕ) → 0 < times n (reads_at page ((page_at page, n) ∷ []))
found-once page n =
    let e : times n (reads_at page ((page_at page, n) ∷ [])) ≡ one_if (n == n) + 0 = ap (λ (b : Bool). times n (if b then n ∷ [] else [])) (eq-eqb (page_at page) (page_at page) refl) in
    let one = one_same n in
    omega arith

not_work : Victim ≡ Work → ⊥
not_work e = cc

pub never_one : (no : TakeError) → refusal_word no ≢ 1
never_one refusal.Absent e = absurd (omega arith)
never_one refusal.Remembered e = absurd (omega arith)
never_one refusal.Busy e = absurd (omega arith)
never_one refusal.Gone e = absurd (omega arith)

-- a page with an allocated cell isn't bare
pub not-both : (k : Key) (page : ℕ) → HasCell k.opening page → IsBarePage k.opening page → ⊥
not-both k page there bare = bare there.0 there.1 there.2

pub kinds-differ : (k : Key) (one other : Kind) (page : ℕ) → IsOfKind k one page → IsOfKind k other page → one ≡ other
kinds-differ k Bare Bare page a b = refl
kinds-differ k Bare Filled page a b = absurd (not-both k page b a)
kinds-differ k Filled Bare page a b = absurd (not-both k page a b)
kinds-differ k Filled Filled page a b = refl

-- where a page is that was refused
refused_at : (k : Key) (v w : View) (page : ℕ) (kind : Kind) (no : TakeError) → v.about ≡ k → IsTakeRefused v page Victim no w → IsOfKind k kind page → (st : PageState) × MayStayAs kind st × (state_word st ≡ refusal_word no)
refused_at k v w page Bare refusal.Absent about r is = (state.Absent, tt, refl)
refused_at k v w page Bare refusal.Remembered about r is = (state.Remembered, tt, refl)
refused_at k v w page Bare refusal.Busy about r is = (state.Held, tt, refl)
refused_at k v w page Bare refusal.Gone about r is = absurd (not-both k page (subst (λ (x : Key). HasCell x.opening page) about (r.there refl)) is)
refused_at k v w page Filled refusal.Absent about r is = absurd (not-both k page is (subst (λ (x : Key). IsBarePage x.opening page) about (r.bare refl)))
refused_at k v w page Filled refusal.Remembered about r is = (state.Remembered, tt, refl)
refused_at k v w page Filled refusal.Busy about r is = (state.Held, tt, refl)
refused_at k v w page Filled refusal.Gone about r is = (state.Gone, tt, refl)

pub refused_view : (v w : View) (page : ℕ) (why : TakeError) → IsTakeRefused v page Victim why w → w ≡ having_read v page (refusal_word why)
refused_view v w page why r = elim r.read [
  | inl e ↦ e
  | inr other ↦ absurd (not_work other.0)
]

-- a page that was tried and refused, and one that wasn't tried
pub tried-refused : (k : Key) (v w : View) (page : ℕ) (kind : Kind) (why : TakeError) → v.about ≡ k → page < pages_of k → IsTakeRefused v page Victim why w → HasTried k kind page v w
tried-refused k v w page kind why about inside r = record {
  looks = (page_at page, refusal_word why) ∷ [];
  looked = looked-once k v w page (refusal_word why) inside (never_one why) (refused_view v w page why r);
  found = λ is.
      let at = refused_at k v w page kind why about r is in
      record { place = at.0; among = at.1; read = subst (λ (n : ℕ). 0 < times n (reads_at page ((page_at page, refusal_word why) ∷ []))) (sym at.2) (found-once page (refusal_word why)) };
}

pub tried-other : (k : Key) (v : View) (page : ℕ) (kind other : Kind) → IsOfKind k other page → (other ≡ kind → ⊥) → HasTried k kind page v v
tried-other k v page kind other is ne = record { looks = []; looked = looked-none k v; found = λ has. absurd (ne (kinds-differ k other kind page is has)) }

-- one page more was tried, going round
pub tried-more : (k : Key) (kind : Kind) (start steps page : ℕ) (v u w : View) → start < pages_of k → page < pages_of k → steps_behind (pages_of k) start page ≡ steps → HasTriedUpTo k kind start steps v u → HasTried k kind page u w
    → HasTriedUpTo k kind start (steps + 1) v w
tried-more k kind start steps page v u w lt_start lt_page place up one = record {
  looks = one.looks ++ up.looks;
  looked = looked-then k v u w up.looks one.looks up.looked one.looked;
  found = λ q lt is less. elim (cases_lt (steps_behind (pages_of k) start q) steps) [
    | inl before ↦ found-last one.looks up.looks q (MayStayAs kind) (up.found q lt is before)
    | inr last ↦
        let here : page ≡ q = one_place (pages_of k) start page q lt_start lt_page lt (omega arith) in
        found-first one.looks up.looks q (MayStayAs kind) (subst (λ (n : ℕ). WasFound one.looks n (MayStayAs kind)) here (one.found (subst (IsOfKind k kind) (sym here) is)))
  ];
}

-- a page was taken, before which those were tried that come before it from the hint on
pub first-taken : (k : Key) (kind : Kind) (hint start steps page : ℕ) (v u : View) (seat : Seat) (held : Held) → start ≡ first_page k hint → pages_of k ≤ all_pages k → page < pages_of k → steps_behind (pages_of k) start page ≡ steps
    → HasTriedUpTo k kind start steps v u → held.page ≡ page → IsTakenFor k kind u seat held → HasTakenFirst k kind hint v seat held
first-taken k kind hint start steps page v u seat held is few lt place up same t = record {
  ready = u;
  looks = up.looks;
  looked = up.looked;
  before = λ q near of_kind comes.
      let less = order_kept (all_pages k) (pages_of k) (hint % all_pages k) start q held.page few near t.inside is comes in
      let at : steps_behind (pages_of k) start held.page ≡ steps = ap (steps_behind (pages_of k) start) same ∙ place in
      up.found q near of_kind (omega arith);
  taken = t;
}
