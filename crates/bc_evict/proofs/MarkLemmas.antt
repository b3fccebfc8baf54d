-- Bookmark bits that a walk sets, and superpages that it meets.
use Rattle.std.proofs.Common.{◌≡◌, ◌≢◌, ℕ, ◌+◌, ◌*◌, ◌/◌, ◌%◌, ◌^◌, ◌<◌, ◌≤◌, ◌==◌, ◌&&◌, ◌||◌, Bool, true, false, if◌then◌else◌, nat_lt, bit_and, inl, inr, List, [], ◌∷◌, ◌++◌, length, replicate, slice_index, Option, Some, refl, ap, sym, subst, ◌∙◌, arith, append_assoc}
use Rattle.std.specs.Int.{bit_at, bit_not, w64}
use Rattle.std.proofs.lemmas.Bool.{cases_eq, eq-eqb, ne_eqb, lt-ltb, ltb-true, or_left, and_from}
use Rattle.std.proofs.lemmas.Nat.{one_shl}
use Rattle.std.proofs.lemmas.Nat.Bits.{bit_at-pow_same, bit_at-pow_other}
use Rattle.std.proofs.lemmas.Option.{same_Some}
use Rattle.bc_bits.specs.Bits.{has}
use Rattle.bc_bits.specs.BitChanges.{with_bit}
use Rattle.bc_bits.specs.Counting.{one_if}
use Rattle.bc_bits.proofs.BitLemmas.{has-beyond, has-zeros}
use Rattle.bc_word.specs.declared.words.Word.{Word}
use Rattle.bc_word.specs.declared.addresses.Address.{Address}
use Rattle.bc_word.specs.declared.words.Word.TheVariants.{Nil, Num, Ref}
use Rattle.bc_word.specs.Addresses.{superpage_of, page_of, cell_number}
use Rattle.bc_superpages.specs.Layout.{Layout}
use Rattle.bc_superpages.specs.LayoutAt.{IsAllocated}
use Rattle.bc_superpages.specs.Kept.{IsLayout}
use Rattle.bc_superpages.specs.Calls.{class_at}
use Rattle.bc_superpages.proofs.CellLemmas.{is_cell-start}
use Rattle.bc_superpages.proofs.HandLemmas.{allocated-is_class, allocated-superpage}
use Rattle.bc_bookmarks.specs.Targets.{names_in, names_cell, is_target}
use Rattle.bc_bookmarks.proofs.ReadingLemmas.{meets-inserted, or_assoc_right}
use Rattle.bc_pins.specs.declared.views.Hand.{Hand}
use Rattle.bc_pins.specs.declared.views.View.{View}
use Rattle.bc_pins.specs.declared.pins.Seat.{Seat}
use Rattle.bc_pins.specs.Key.{Key, pages_of, page_at, bookmark_at, frame_at, mark_at, notice_at, queue_at}
use Rattle.bc_pins.specs.Totals.{times}
use Rattle.bc_pins.specs.Contents.{objects_in}
use Rattle.bc_pins.specs.Views.{sets_bit, reads_of}
use Rattle.bc_pins.specs.Steps.{bookmarking, shading, IsTargetBit, MayShade}
use Rattle.bc_pins.specs.Tracing.{tells}
use Rattle.bc_pins.specs.Calls.{view_of, slots_of, IsSameSeat, OnlyQueues}
use Rattle.bc_pins.proofs.TallyLemmas.{number_few}
use Rattle.bc_pins.proofs.LogLemmas.{reads-else, reads-append}
use Rattle.bc_pins.proofs.VisitLemmas.{same_after}
use Rattle.bc_evict.specs.Marking.{sets_cell, knows_cell, ReadsNoPage, IsSetCell, ShadesTarget, Marks}

pub same_seat : (a : Seat) → IsSameSeat a a
same_seat a = record { table = refl; id = refl; role = refl; opens = refl; about = refl; alive = refl; roles = refl; fetched = refl }

pub reads-then : (v w u : View) → w.about ≡ v.about → ReadsNoPage v w → ReadsNoPage w u → ReadsNoPage v u
reads-then v w u about first next = record {
  grows = (
    next.grows.0 ++ first.grows.0,
    next.grows.1 ∙ ap (λ (l : List (ℕ × ℕ)). next.grows.0 ++ l) first.grows.1 ∙ sym (append_assoc next.grows.0 first.grows.0 v.read),
  );
  pages = λ i lt. next.pages i (subst (λ (k : Key). i < pages_of k) (sym about) lt) ∙ first.pages i lt;
  frames = λ i le lt. next.frames i (subst (λ (k : Key). frame_at k 0 ≤ i) (sym about) le) (subst (λ (k : Key). i < notice_at k) (sym about) lt) ∙ first.frames i le lt;
}

-- a view with its hand as it is
pub hand-same : (v : View) (h : Hand) → v.hand ≡ Some h → v ≡ record v { hand = Some h }
hand-same v h has = ap (λ (o : Option Hand). record v { hand = o }) has

-- no word was gone over yet
pub Marks-none : (a : Seat) (met : List ℕ) (f : (Word → Bool) → Bool) → ((test : Word → Bool) → f test ≡ false) → Marks a met f a met
Marks-none a met f none = record {
  seat = same_seat a;
  slots = refl;
  same = λ h has. (h.marked, hand-same (view_of a) h has);
  bits = λ q b few. sym (ap (λ (x : Bool). x || sets_cell (view_of a) q b) (none (names_cell (view_of a).about.opening.classes q b)));
  knows = λ turn q b few. sym (ap (λ (x : Bool). x || knows_cell (view_of a) q b) (none (names_cell (view_of a).about.opening.classes q b)));
  unmarked = λ turn. (refl, refl, refl);
  less = λ p. omega arith;
  meets = λ q. sym (ap (λ (x : Bool). x || has met q) (none (names_in q)));
  reads = record { grows = ([], refl); pages = λ i lt. refl; frames = λ i le lt. refl };
}

-- words that are written otherwise
pub Marks-same : (a b : Seat) (met more : List ℕ) (f g : (Word → Bool) → Bool) → ((test : Word → Bool) → f test ≡ g test) → Marks a met f b more → Marks a met g b more
Marks-same a b met more f g is m = record {
  seat = m.seat;
  slots = m.slots;
  same = m.same;
  bits = λ q c few. m.bits q c few ∙ ap (λ (x : Bool). x || sets_cell (view_of a) q c) (is (names_cell (view_of a).about.opening.classes q c));
  knows = λ turn q c few. m.knows turn q c few ∙ ap (λ (x : Bool). x || knows_cell (view_of a) q c) (is (names_cell (view_of a).about.opening.classes q c));
  unmarked = m.unmarked;
  less = m.less;
  meets = λ q. m.meets q ∙ ap (λ (x : Bool). x || has met q) (is (names_in q));
  reads = m.reads;
}

-- some words, and then more
pub Marks-then : (a b c : Seat) (met now more : List ℕ) (f g : (Word → Bool) → Bool) → Marks a met f b now → Marks b now g c more → Marks a met (λ test. g test || f test) c more
Marks-then a b c met now more f g first next = record {
  seat = same_after a b c first.seat next.seat;
  slots = next.slots ∙ first.slots;
  same = λ h has.
      let one = first.same h has in
      let two = next.same (record h { marked = one.0 }) (ap (λ (v : View). v.hand) one.1) in
      (two.0, two.1 ∙ ap (λ (v : View). record v { hand = Some (record h { marked = two.0 }); bookmarked = (view_of c).bookmarked; known = (view_of c).known; won = (view_of c).won; owed = (view_of c).owed; read = (view_of c).read }) one.1);
  bits = λ q n few.
      next.bits q n few
      ∙ ap (λ (k : Key). g (names_cell k.opening.classes q n) || sets_cell (view_of b) q n) first.seat.about
      ∙ ap (λ (x : Bool). g (names_cell (view_of a).about.opening.classes q n) || x) (first.bits q n few)
      ∙ or_assoc_right (g (names_cell (view_of a).about.opening.classes q n)) (f (names_cell (view_of a).about.opening.classes q n)) (sets_cell (view_of a) q n);
  knows = λ turn q n few.
      next.knows (ap (λ (k : Key). k.lanes) first.seat.about ∙ turn) q n few
      ∙ ap (λ (k : Key). g (names_cell k.opening.classes q n) || knows_cell (view_of b) q n) first.seat.about
      ∙ ap (λ (x : Bool). g (names_cell (view_of a).about.opening.classes q n) || x) (first.knows turn q n few)
      ∙ or_assoc_right (g (names_cell (view_of a).about.opening.classes q n)) (f (names_cell (view_of a).about.opening.classes q n)) (knows_cell (view_of a) q n);
  unmarked = λ turn. let two = next.unmarked (ap (λ (k : Key). k.lanes) first.seat.about ∙ turn) in let one = first.unmarked turn in (two.0 ∙ one.0, two.1 ∙ one.1, two.2 ∙ one.2);
  less = λ p. let one = first.less p in let two = next.less p in omega arith;
  meets = λ q. next.meets q ∙ ap (λ (x : Bool). g (names_in q) || x) (first.meets q) ∙ or_assoc_right (g (names_in q)) (f (names_in q)) (has met q);
  reads = reads-then (view_of a) (view_of b) (view_of c) first.seat.about first.reads next.reads;
}

-- the bit of one cell, in the word that has it, is that of another only where both are one
if_one : (b : Bool) (n : ℕ) → b ≡ true → (if b then n else 0) ≡ n
if_one b n e = ap (λ (x : Bool). if x then n else 0) e

if_none : (b : Bool) (n : ℕ) → b ≡ false → (if b then n else 0) ≡ 0
if_none b n e = ap (λ (x : Bool). if x then n else 0) e

pub bit-of : (q n r b : ℕ) → n < 1024 → b < 1024
    → (if 16 * q + n / 64 == 16 * r + b / 64 then bit_at (1 * 2 ^ (n % 64) % 2 ^ 64) (b % 64) else 0) ≡ one_if ((q == r) && (n == b))
bit-of q n r b few small =
    let x : ℕ = bit_at (1 * 2 ^ (n % 64) % 2 ^ 64) (b % 64) in
    let shifted = one_shl (n % 64) 64 (omega arith) in
    elim (cases_eq (16 * q + n / 64) (16 * r + b / 64)) [
      | inl word ↦
          let same_q : q ≡ r = omega arith in
          let same_w : n / 64 ≡ b / 64 = omega arith in
          if_one (16 * q + n / 64 == 16 * r + b / 64) x (eq-eqb _ _ word)
          ∙ elim (cases_eq n b) [
            | inl same ↦
                let e : n % 64 ≡ b % 64 = omega arith in
                ap (λ (m : ℕ). bit_at m (b % 64)) shifted ∙ ap (λ (m : ℕ). bit_at (2 ^ m) (b % 64)) e ∙ bit_at-pow_same (b % 64)
                ∙ sym (ap (λ (c : Bool). one_if (c && (n == b))) (eq-eqb q r same_q) ∙ ap one_if (eq-eqb n b same))
            | inr other ↦
                let ne : b % 64 ≢ n % 64 = λ e. other (omega arith) in
                ap (λ (m : ℕ). bit_at m (b % 64)) shifted ∙ bit_at-pow_other (n % 64) (b % 64) ne
                ∙ sym (ap (λ (c : Bool). one_if (c && (n == b))) (eq-eqb q r same_q) ∙ ap one_if (ne_eqb n b other))
          ]
      | inr ne ↦
          if_none (16 * q + n / 64 == 16 * r + b / 64) x (ne_eqb _ _ ne)
          ∙ elim (cases_eq q r) [
            | inl same ↦ sym (ap (λ (c : Bool). one_if (c && (n == b))) (eq-eqb q r same) ∙ ap one_if (ne_eqb n b (λ e. ne (omega arith))))
            | inr other ↦ sym (ap (λ (c : Bool). one_if (c && (n == b))) (ne_eqb q r other))
          ]
    ]

some_more : (c : Bool) (y : ℕ) → nat_lt 0 (one_if c + y) ≡ (c || nat_lt 0 y)
some_more true y = lt-ltb 0 (1 + y) (omega arith)
some_more false y = ap (nat_lt 0) (let e : 0 + y ≡ y = omega arith in e)

class-same : (cs : List ℕ) (q r a n b : ℕ) → n ≡ cell_number (slice_index cs q) a → ((q == r) && (n == b)) ≡ ((q == r) && (cell_number (slice_index cs r) a == b))
class-same cs q r a n b is = elim (cases_eq q r) [
  | inl same ↦ ap (λ (m : ℕ). (q == r) && (m == b)) (is ∙ ap (λ (j : ℕ). cell_number (slice_index cs j) a) same)
  | inr other ↦ ap (λ (x : Bool). x && (n == b)) (ne_eqb q r other) ∙ sym (ap (λ (x : Bool). x && (cell_number (slice_index cs r) a == b)) (ne_eqb q r other))
]

-- the bits of a view that set one more
pub sets-more : (v : View) (page q n a : ℕ) (more : List (ℕ × ℕ × ℕ)) → q ≡ superpage_of a → n ≡ cell_number (slice_index v.about.opening.classes q) a → n < 1024
    → more ≡ (page, 16 * q + n / 64, 1 * 2 ^ (n % 64) % 2 ^ 64) ∷ v.bookmarked
    → (r b : ℕ) → b < 1024 → nat_lt 0 (sets_bit (16 * r + b / 64) (b % 64) more) ≡ (names_cell v.about.opening.classes r b (Ref (record { 0 = a })) || sets_cell v r b)
sets-more v page q n a more is_q is_n few is r b small =
    let y : ℕ = sets_bit (16 * r + b / 64) (b % 64) v.bookmarked in
    ap (λ (l : List (ℕ × ℕ × ℕ)). nat_lt 0 (sets_bit (16 * r + b / 64) (b % 64) l)) is
    ∙ ap (λ (m : ℕ). nat_lt 0 (m + y)) (bit-of q n r b few small)
    ∙ some_more ((q == r) && (n == b)) y
    ∙ ap (λ (x : Bool). x || nat_lt 0 y) (class-same v.about.opening.classes q r a n b is_n ∙ ap (λ (j : ℕ). (j == r) && (cell_number (slice_index v.about.opening.classes r) a == b)) is_q)

-- and what a view knows that marked one more
pub knows-more : (v : View) (q n a : ℕ) (more : List (ℕ × ℕ)) → q ≡ superpage_of a → n ≡ cell_number (slice_index v.about.opening.classes q) a → n < 1024
    → more ≡ (16 * q + n / 64, 1 * 2 ^ (n % 64) % 2 ^ 64) ∷ v.known
    → (r b : ℕ) → b < 1024 → nat_lt 0 (tells (16 * r + b / 64) (b % 64) more) ≡ (names_cell v.about.opening.classes r b (Ref (record { 0 = a })) || knows_cell v r b)
knows-more v q n a more is_q is_n few is r b small =
    let y : ℕ = tells (16 * r + b / 64) (b % 64) v.known in
    ap (λ (l : List (ℕ × ℕ)). nat_lt 0 (tells (16 * r + b / 64) (b % 64) l)) is
    ∙ ap (λ (m : ℕ). nat_lt 0 (m + y)) (bit-of q n r b few small)
    ∙ some_more ((q == r) && (n == b)) y
    ∙ ap (λ (x : Bool). x || nat_lt 0 y) (class-same v.about.opening.classes q r a n b is_n ∙ ap (λ (j : ℕ). (j == r) && (cell_number (slice_index v.about.opening.classes r) a == b)) is_q)

-- a word that is no reference
pub marks-other : (a : Seat) (met : List ℕ) (word : Word) → ((x : Address) → word ≡ Ref x → ⊥) → Marks a met (λ test. test word) a met
marks-other a met word none = record {
  seat = same_seat a;
  slots = refl;
  same = λ h has_h. (h.marked, hand-same (view_of a) h has_h);
  bits = λ q b few. ap (λ (x : Bool). x || sets_cell (view_of a) q b) (sym (no_cell (view_of a).about.opening.classes q b word none));
  knows = λ turn q b few. ap (λ (x : Bool). x || knows_cell (view_of a) q b) (sym (no_cell (view_of a).about.opening.classes q b word none));
  unmarked = λ turn. (refl, refl, refl);
  less = λ p. omega arith;
  meets = λ q. ap (λ (x : Bool). x || has met q) (sym (no_superpage q word none));
  reads = record { grows = ([], refl); pages = λ i lt. refl; frames = λ i le lt. refl };
}
  where
    no_cell : (cs : List ℕ) (q b : ℕ) (w : Word) → ((x : Address) → w ≡ Ref x → ⊥) → names_cell cs q b w ≡ false
    no_cell cs q b Nil none_w = refl
    no_cell cs q b (Num v) none_w = refl
    no_cell cs q b (Ref x) none_w = absurd (none_w x refl)

    no_superpage : (q : ℕ) (w : Word) → ((x : Address) → w ≡ Ref x → ⊥) → names_in q w ≡ false
    no_superpage q Nil none_w = refl
    no_superpage q (Num v) none_w = refl
    no_superpage q (Ref x) none_w = absurd (none_w x refl)

-- a reference is marked by the bit of its cell, and in a mark turn by its mark
pub marks-ref : (old mid new : Seat) (met more : List ℕ) (word : Word) (h : Hand) (q n w bits found a : ℕ) → IsSameSeat old mid → slots_of mid ≡ slots_of old
    → (view_of old).hand ≡ Some h → view_of mid ≡ bookmarking (view_of old) h w bits found → IsSameSeat mid new → slots_of new ≡ slots_of mid → ShadesTarget (view_of mid) q n (view_of new)
    → word ≡ Ref (record { 0 = a })
    → q ≡ superpage_of a → q < (view_of old).about.supers → n ≡ cell_number (slice_index (view_of old).about.opening.classes q) a → n < 1024 → w ≡ 16 * q + n / 64 → bits ≡ 1 * 2 ^ (n % 64) % 2 ^ 64
    → q < 64 * length met → more ≡ with_bit met q → Marks old met (λ test. test word) new more
marks-ref old mid new met more word h q n w bits found a seat slots has_h view seat_then slots_then shades is is_q near is_n few is_w is_bits lt inserted =
    let known : (view_of mid).known ≡ (view_of old).known = ap (λ (v : View). v.known) view in
    let won : (view_of mid).won ≡ (view_of old).won = ap (λ (v : View). v.won) view in
    let owed : (view_of mid).owed ≡ (view_of old).owed = ap (λ (v : View). v.owed) view in
    let set : (view_of new).bookmarked ≡ (h.page, w, bits) ∷ (view_of old).bookmarked = ap (λ (v : View). v.bookmarked) shades.same ∙ ap (λ (v : View). v.bookmarked) view in
    let lanes : (view_of mid).about.lanes ≡ (view_of old).about.lanes = ap (λ (k : Key). k.lanes) seat.about in
    record {
      seat = same_after old mid new seat seat_then;
      slots = slots_then ∙ slots;
      same = λ g has_g.
          subst (λ (z : Hand). (marked : List (ℕ × ℕ))
          × (view_of new ≡ record (view_of old) { hand = Some (record z { marked = marked }); bookmarked = (view_of new).bookmarked; known = (view_of new).known; won = (view_of new).won; owed = (view_of new).owed; read = (view_of new).read })) (same_Some h g (sym has_h ∙ has_g)) (
            (w, bits) ∷ h.marked,
            shades.same
                ∙ ap (λ (x : View). record x { known = (view_of new).known; won = (view_of new).won; owed = (view_of new).owed; read = (view_of new).read }) view
                ∙ ap (λ (l : List (ℕ × ℕ × ℕ)). record (view_of old) { hand = Some (record h { marked = (w, bits) ∷ h.marked }); bookmarked = l; known = (view_of new).known; won = (view_of new).won; owed = (view_of new).owed; read = (view_of new).read }) (sym set),
          );
      bits = λ r b small.
          sets-more (view_of old) h.page q n a (view_of new).bookmarked is_q is_n few
          (set ∙ ap (λ (j : ℕ). (h.page, j, bits) ∷ (view_of old).bookmarked) is_w ∙ ap (λ (j : ℕ). (h.page, 16 * q + n / 64, j) ∷ (view_of old).bookmarked) is_bits) r b small
          ∙ sym (ap (λ (v : Word). names_cell (view_of old).about.opening.classes r b v || sets_cell (view_of old) r b) is);
      knows = λ turn r b small.
          knows-more (view_of old) q n a (view_of new).known is_q is_n few
          (shades.known (lanes ∙ turn) ∙ ap (λ (l : List (ℕ × ℕ)). (16 * q + n / 64, 1 * 2 ^ (n % 64) % 2 ^ 64) ∷ l) known) r b small
          ∙ sym (ap (λ (v : Word). names_cell (view_of old).about.opening.classes r b v || knows_cell (view_of old) r b) is);
      unmarked = λ turn. let two = shades.unmarked (lanes ∙ turn) in (two.0 ∙ known, two.1 ∙ won, two.2 ∙ owed);
      less = λ p. let a = shades.less p in let e = ap (times p) owed in omega arith;
      meets = λ r. ap (λ (l : List ℕ). has l r) inserted ∙ meets-inserted met q r lt ∙ ap (λ (j : ℕ). (j == r) || has met r) is_q ∙ sym (ap (λ (v : Word). names_in r v || has met r) is);
      reads = reads-then (view_of old) (view_of mid) (view_of new) seat.about
          (record {
            grows = ((bookmark_at (view_of old).about w, found) ∷ [], ap (λ (v : View). v.read) view);
            pages = λ p lt. ap (λ (v : View). reads_of (page_at p) v.read) view ∙ reads-else (page_at p) (bookmark_at (view_of old).about w) found (view_of old).read (λ e. absurd (omega arith));
            frames = λ i le less. ap (λ (v : View). reads_of i v.read) view ∙ reads-else i (bookmark_at (view_of old).about w) found (view_of old).read (λ e. absurd (omega arith));
          }) shades.reads;
    }

-- in a mark turn a cell was marked
pub shades-cell : (old mid new : View) (q n w bits found : ℕ) → old.about.lanes ≡ false → w ≡ 16 * q + n / 64 → bits ≡ 1 * 2 ^ (n % 64) % 2 ^ 64 → mid ≡ shading old w bits found → OnlyQueues mid new
    → ((p : ℕ) → times p new.owed ≤ times p old.owed) → ShadesTarget old q n new
shades-cell old mid new q n w bits found turn is_w is_bits view queues less =
    let known : new.known ≡ (w, bits) ∷ old.known = ap (λ (v : View). v.known) queues.same ∙ ap (λ (v : View). v.known) view in
    let won : new.won ≡ (w, bit_and bits (bit_not w64 found)) ∷ old.won = ap (λ (v : View). v.won) queues.same ∙ ap (λ (v : View). v.won) view in
    let about : mid.about ≡ old.about = ap (λ (v : View). v.about) view in
    let none : (i : ℕ) → i < queue_at old.about 0 → reads_of i new.read ≡ reads_of i mid.read =
    λ i lt. ap (reads_of i) queues.grows ∙ reads-append i queues.later mid.read ∙ ap (λ (l : List ℕ). l ++ reads_of i mid.read) (queues.apart i (subst (λ (k : Key). i < queue_at k 0) (sym about) lt)) in
    record {
      same = queues.same
          ∙ ap (λ (x : View). record x { owed = new.owed; read = new.read }) view
          ∙ ap (λ (l : List (ℕ × ℕ)). record old { known = l; won = (w, bit_and bits (bit_not w64 found)) ∷ old.won; owed = new.owed; read = new.read }) (sym known)
          ∙ ap (λ (l : List (ℕ × ℕ)). record old { known = new.known; won = l; owed = new.owed; read = new.read }) (sym won);
      known = λ _. known ∙ ap (λ (j : ℕ). (j, bits) ∷ old.known) is_w ∙ ap (λ (j : ℕ). (16 * q + n / 64, j) ∷ old.known) is_bits;
      unmarked = λ lanes. absurd (clash (sym turn ∙ lanes));
      less = less;
      reads = record {
        grows = (
          queues.later ++ ((mark_at old.about w, found) ∷ []),
          queues.grows ∙ ap (λ (v : View). queues.later ++ v.read) view ∙ sym (append_assoc queues.later ((mark_at old.about w, found) ∷ []) old.read),
        );
        pages = λ p lt.
            none (page_at p) (omega arith) ∙ ap (λ (v : View). reads_of (page_at p) v.read) view ∙ reads-else (page_at p) (mark_at old.about w) found old.read (λ e. absurd (omega arith));
        frames = λ i le lt. none i (omega arith) ∙ ap (λ (v : View). reads_of i v.read) view ∙ reads-else i (mark_at old.about w) found old.read (λ e. absurd (omega arith));
      };
    }
  where
    clash : false ≡ true → ⊥
    clash e = cc

-- in a turn of lanes none is
pub shades-none : (v : View) (q n : ℕ) → v.about.lanes ≡ true → ShadesTarget v q n v
shades-none v q n turn = record {
  same = refl;
  known = λ mark. absurd (clash (sym mark ∙ turn));
  unmarked = λ _. (refl, refl, refl);
  less = λ p. omega arith;
  reads = record { grows = ([], refl); pages = λ i lt. refl; frames = λ i le lt. refl };
}
  where
    clash : false ≡ true → ⊥
    clash e = cc

-- the bit of a cell that was bookmarked may be set in its mark word
pub shade-bit : (k : Key) (v : View) (page q n b : ℕ) → IsSetCell k v page q n → b < 64 → 0 < bit_at (1 * 2 ^ (n % 64) % 2 ^ 64) b → MayShade k v (16 * q + n / 64) b
shade-bit k v page q n b c few set =
    let shifted = one_shl (n % 64) 64 (omega arith) in
    let bit : 0 < bit_at (2 ^ (n % 64)) b = subst (λ (m : ℕ). 0 < bit_at m b) shifted set in
    let here : b ≡ n % 64 = elim (cases_eq b (n % 64)) [ inl e ↦ e | inr ne ↦ let z = bit_at-pow_other (n % 64) b ne in absurd (omega arith) ] in
    let number = c.number in
    let most = c.bookmarked.few in
    let small : n < 1024 = omega arith in
    record {
      address = c.address;
      bit = record { there = c.there; superpage = sym c.superpage ∙ omega arith; number = sym c.number ∙ omega arith };
      why = inr c.bookmarked;
    }

-- a cell whose bit was set by the step is one whose bookmark bit the view set
pub set-cell : (k : Key) (old new : View) (h : Hand) (q n w bits found a : ℕ) → old.about ≡ k → IsLayout k.opening → IsAllocated k.opening a → page_of a < pages_of k
    → new ≡ bookmarking old h w bits found → q ≡ superpage_of a → n ≡ cell_number (slice_index k.opening.classes q) a → n < 1024 → w ≡ 16 * q + n / 64 → bits ≡ 1 * 2 ^ (n % 64) % 2 ^ 64
    → IsSetCell new.about new (page_of a) q n
set-cell k old new h q n w bits found a about layout there near view is_q is_n few is_w is_bits =
    let about_new : new.about ≡ k = ap (λ (v : View). v.about) view ∙ about in
    let number : n ≡ cell_number (class_at k.opening a) a = is_n ∙ ap (λ (j : ℕ). cell_number (slice_index k.opening.classes j) a) is_q in
    let few_a : cell_number (class_at k.opening a) a < 1024 = omega arith in
    subst (λ (x : Key). IsSetCell x new (page_of a) q n) (sym about_new) (record {
      address = a;
      there = there;
      on = refl;
      superpage = is_q;
      number = number;
      bookmarked = record {
        within = omega arith;
        few = few_a;
        starts = is_cell-start k.opening.classes k.opening.cells a there;
        bit = ltb-true 0 _ (
            sets-more old h.page q n a new.bookmarked is_q (is_n ∙ ap (λ (x : Key). cell_number (slice_index x.opening.classes q) a) (sym about)) few
            (ap (λ (v : View). v.bookmarked) view ∙ ap (λ (j : ℕ). (h.page, j, bits) ∷ old.bookmarked) is_w ∙ ap (λ (j : ℕ). (h.page, 16 * q + n / 64, j) ∷ old.bookmarked) is_bits) (superpage_of a) (cell_number (class_at k.opening a) a) few_a
            ∙ or_left _ _ (and_from (superpage_of a == superpage_of a) _ (eq-eqb (superpage_of a) (superpage_of a) refl)
            (eq-eqb (cell_number (slice_index old.about.opening.classes (superpage_of a)) a) (cell_number (class_at k.opening a) a) (ap (λ (x : Key). cell_number (slice_index x.opening.classes (superpage_of a)) a) about))));
      };
    })

-- nothing was gone over yet, and nothing met
pub Marks-start : (a : Seat) (more : List ℕ) (f : (Word → Bool) → Bool) → more ≡ replicate 64 0 → ((test : Word → Bool) → f test ≡ false) → Marks a [] f a more
Marks-start a more f is none = record {
  seat = same_seat a;
  slots = refl;
  same = λ h has_h. (h.marked, hand-same (view_of a) h has_h);
  bits = λ q b few. sym (ap (λ (x : Bool). x || sets_cell (view_of a) q b) (none (names_cell (view_of a).about.opening.classes q b)));
  knows = λ turn q b few. sym (ap (λ (x : Bool). x || knows_cell (view_of a) q b) (none (names_cell (view_of a).about.opening.classes q b)));
  unmarked = λ turn. (refl, refl, refl);
  less = λ p. omega arith;
  meets = λ q. ap (λ (l : List ℕ). has l q) is ∙ has-zeros 64 q ∙ sym (ap (λ (x : Bool). x || has [] q) (none (names_in q)) ∙ has-beyond [] q (omega arith));
  reads = record { grows = ([], refl); pages = λ i lt. refl; frames = λ i le lt. refl };
}

-- each bit of the word that is set for a reference is that of its target
pub target-bit : (k : Key) (v : View) (x : Hand) (q n a b class : ℕ) → v.about ≡ k → is_target (objects_in v.about.opening x.content) x.page a ≡ true → q ≡ superpage_of a → n ≡ cell_number class a → class ≡ slice_index k.opening.classes q → n < 1024
    → b < 64 → 0 < bit_at (1 * 2 ^ (n % 64) % 2 ^ 64) b → IsTargetBit k x (16 * q + n / 64) b
target-bit k v x q n a b class about on is_q is_n is_class few small set =
    let shifted = one_shl (n % 64) 64 (omega arith) in
    let bit : 0 < bit_at (2 ^ (n % 64)) b = subst (λ (m : ℕ). 0 < bit_at m b) shifted set in
    let here : b ≡ n % 64 = elim (cases_eq b (n % 64)) [ inl e ↦ e | inr ne ↦ let z = bit_at-pow_other (n % 64) b ne in absurd (omega arith) ] in
    let number : cell_number (slice_index k.opening.classes (superpage_of a)) a ≡ n = ap (λ (j : ℕ). cell_number (slice_index k.opening.classes j) a) (sym is_q) ∙ ap (λ (c : ℕ). cell_number c a) (sym is_class) ∙ sym is_n in
    record {
      address = a;
      target = subst (λ (j : Key). is_target (objects_in j.opening x.content) x.page a ≡ true) about on;
      superpage = sym is_q ∙ omega arith;
      number = number ∙ omega arith;
    }

-- where an allocated cell lies, by its superpage's header
pub number-few : (s : Layout) (class q n a : ℕ) → IsLayout s → IsAllocated s a → class ≡ slice_index s.classes q → q ≡ superpage_of a → n ≡ cell_number class a → n < 1024
number-few s class q n a layout on is_class is_q is_n =
    let few = number_few (class_at s a) a (allocated-is_class s a layout on) in
    let e : n ≡ cell_number (class_at s a) a = is_n ∙ ap (λ (c : ℕ). cell_number c a) (is_class ∙ ap (slice_index s.classes) is_q) in
    omega arith

pub target-near : (k : Key) (q a : ℕ) → q ≡ superpage_of a → page_of a < pages_of k → q < k.supers
target-near k q a is lt = omega arith

pub superpage-few : (s : Layout) (a : ℕ) → IsLayout s → IsAllocated s a → superpage_of a < 4096
superpage-few s a layout on = let few = layout.few in let lt = allocated-superpage s a layout on in omega arith
