-- Words that are added.
use Rattle.std.proofs.Common.{◌≡◌, ℕ, ◌+◌, ◌-◌, ◌*◌, ◌/◌, ◌%◌, ◌<◌, ◌≤◌, if◌then◌else◌, bit_and, min, Bool, false, List, [], ◌∷◌, ◌++◌, length, get_or, inl, inr, refl, ap, sym, subst, ◌∙◌, arith, length-append}
use Prim.Native.Nat.{zero, suc}
use Rattle.std.proofs.lemmas.Bool.{cases_eq, cases_lt}
use Rattle.std.proofs.lemmas.List.{get_or_append_left, get_or-append_right}
use Rattle.std.proofs.lemmas.Nat.Bits.{bit_at_and, bit_at_ones}
use Rattle.bc_superpages.specs.declared.headers.Header.{Header}
use Rattle.bc_superpages.specs.declared.headers.PageState.TheVariants.{Absent}
use Rattle.bc_superpages.specs.Headers.{unused_header}
use Rattle.bc_pins.specs.declared.key.Turn.{Turn}
use Rattle.bc_pins.specs.declared.key.Turn.TheVariants.{Lanes, Mark}
use Rattle.std.specs.Int.{bit_at}
use Rattle.bc_pins.specs.Key.{Key, page_at, counter_at, bookmark_at, frame_at, frame_words, notice_at, mark_at, finished_at, queue_at, all_words, table_words}
use Rattle.bc_pins.specs.Views.{state_word}
use Rattle.bc_pins.specs.declared.filling.CellSet.TheVariants.{Bookmarks, Marks, Finished}
use Rattle.bc_pins.specs.Filling.{Extends, Adds, AddsFrames, AddsStates, AddsQueues, HasGrayBit, HasMarkWords, IsFilled, QueuesGray, header_in, in_use, set_in, set_word}

pub front_same : (xs : List ℕ) (y i : ℕ) → i < length xs → get_or (xs ++ y ∷ []) i 0 ≡ get_or xs i 0
front_same [] y i lt = absurd (omega arith)
front_same (x ∷ xs) y zero lt = refl
front_same (x ∷ xs) y (suc i) lt = front_same xs y i (omega arith)

pub end_is : (xs : List ℕ) (y i : ℕ) → i ≡ length xs → get_or (xs ++ y ∷ []) i 0 ≡ y
end_is [] y zero e = refl
end_is [] y (suc i) e = absurd (omega arith)
end_is (x ∷ xs) y zero e = absurd (omega arith)
end_is (x ∷ xs) y (suc i) e = end_is xs y i (omega arith)

pub extends_none : (o : List ℕ) (f : ℕ → ℕ) → Extends o o 0 f
extends_none o f = record { long = omega arith; kept = λ i _. refl; added = λ i lt. absurd (omega arith) }

pub extends_more : (o n : List ℕ) (k v : ℕ) (f : ℕ → ℕ) → Extends o n k f → v ≡ f k → Extends o (n ++ v ∷ []) (k + 1) f
extends_more o n k v f e is =
    let size = e.long in
    record {
      long = length-append n (v ∷ []) ∙ omega arith;
      kept = λ i lt. front_same n v i (omega arith) ∙ e.kept i lt;
      added = λ i lt. elim (cases_eq i k) [
        | inl same ↦ end_is n v (length o + i) (omega arith) ∙ is ∙ ap f (sym same)
        | inr ne ↦ front_same n v (length o + i) (omega arith) ∙ e.added i (omega arith)
      ];
    }

pub words_at_least : (s f : ℕ) (t : Turn) → 33 * s + (f + 63) / 64 + 1 ≤ table_words s f t
words_at_least s f Lanes = omega arith
words_at_least s f Mark = omega arith

-- words that are added one by one, of which something is said
pub adds_none : (Said : ℕ → ℕ → Type 0) (o : List ℕ) → Adds Said o o 0
adds_none Said o = record { long = omega arith; kept = λ i _. refl; added = λ i lt. absurd (omega arith) }

pub adds_more : (Said : ℕ → ℕ → Type 0) (o n : List ℕ) (k v : ℕ) → Adds Said o n k → Said k v → Adds Said o (n ++ v ∷ []) (k + 1)
adds_more Said o n k v e is =
    let size = e.long in
    record {
      long = length-append n (v ∷ []) ∙ omega arith;
      kept = λ i lt. front_same n v i (omega arith) ∙ e.kept i lt;
      added = λ i lt. elim (cases_eq i k) [
        | inl same ↦ subst (Said i) (sym (end_is n v (length o + i) (omega arith))) (subst (λ (j : ℕ). Said j v) (sym same) is)
        | inr ne ↦ subst (Said i) (sym (front_same n v (length o + i) (omega arith))) (e.added i (omega arith))
      ];
    }

-- sixteen words that are added at once
pub extends_block : (o n xs : List ℕ) (q : ℕ) (f : ℕ → ℕ) → Extends o n (16 * q) f → length xs ≡ 16 → ((j : ℕ) → j < 16 → get_or xs j 0 ≡ f (16 * q + j)) → Extends o (n ++ xs) (16 * (q + 1)) f
extends_block o n xs q f e long is =
    let size = e.long in
    record {
      long = length-append n xs ∙ omega arith;
      kept = λ i lt. get_or_append_left n xs 0 i (omega arith) ∙ e.kept i lt;
      added = λ i lt. elim (cases_lt i (16 * q)) [
        | inl less ↦ get_or_append_left n xs 0 (length o + i) (omega arith) ∙ e.added i less
        | inr le ↦
            let back : 16 * q + (i - 16 * q) ≡ i = omega arith in
            get_or-append_right n xs (length n) (length o + i) 0 refl (omega arith)
            ∙ ap (λ (j : ℕ). get_or xs j 0) (let z : length o + i - length n ≡ i - 16 * q = omega arith in z) ∙ is (i - 16 * q) (omega arith) ∙ ap f back
      ];
    }

-- and those of pages
pub states_none : (hs : List Header) (o : List ℕ) → AddsStates hs o o 0
states_none hs o = record { long = omega arith; kept = λ i _. refl; states = λ p lt. absurd (omega arith) }

pub states_block : (hs : List Header) (o n xs : List ℕ) (q : ℕ) (h : Header) → AddsStates hs o n q → length xs ≡ 16 → h ≡ get_or hs q unused_header → ((i : ℕ) → i < 4 → get_or xs i 0 ≡ state_word (get_or h.pages i Absent)) → AddsStates hs o (n ++ xs) (q + 1)
states_block hs o n xs q h e long head is =
    let size = e.long in
    record {
      long = length-append n xs ∙ omega arith;
      kept = λ i lt. get_or_append_left n xs 0 i (omega arith) ∙ e.kept i lt;
      states = λ p lt. elim (cases_lt p (4 * q)) [
        | inl less ↦ get_or_append_left n xs 0 (length o + page_at p) (omega arith) ∙ e.states p less
        | inr le ↦
            let here : p / 4 ≡ q = omega arith in
            get_or-append_right n xs (length n) (length o + page_at p) 0 refl (omega arith)
            ∙ ap (λ (j : ℕ). get_or xs j 0) (let z : length o + page_at p - length n ≡ p % 4 = omega arith in z) ∙ is (p % 4) (omega arith)
            ∙ ap (λ (x : Header). state_word (get_or x.pages (p % 4) Absent)) (head ∙ ap (λ (j : ℕ). get_or hs j unused_header) (sym here))
      ];
    }

-- all words of the table of a mark turn
pub filled_marks : (k : Key) (hs : List Header) (sup fw : ℕ) (o a b d e f g : List ℕ) → length o ≡ 0 → k.supers ≡ sup → k.lanes ≡ false → fw ≡ frame_words k
    → AddsStates hs o a sup → Extends a b sup (λ q. (get_or hs q unused_header).incoming) → Extends b d (16 * sup) (λ w. get_or (set_in Bookmarks (get_or hs (w / 16) unused_header)) (w % 16) 0)
    → AddsFrames k.pool d e fw → Extends e f 1 (λ w. 0) → HasMarkWords hs sup f g → IsFilled k hs g
filled_marks k hs sup fw o a b d e f g none supers lanes framed one two three four five six =
    let la = one.long in
    let lb = two.long in
    let ld = three.long in
    let le = four.long in
    let lf = five.long in
    let told : all_words k ≡ notice_at k + 1 + 33 * k.supers = ap (λ (x : Bool). notice_at k + 1 + (if x then 0 else 33 * k.supers)) lanes in
    let at_f : (i : ℕ) → i < length f → get_or g i 0 ≡ get_or f i 0 = six.kept in
    let at_e : (i : ℕ) → i < length e → get_or g i 0 ≡ get_or e i 0 = λ i lt. at_f i (omega arith) ∙ five.kept i lt in
    let at_d : (i : ℕ) → i < length d → get_or g i 0 ≡ get_or d i 0 = λ i lt. at_e i (omega arith) ∙ four.kept i lt in
    let at_b : (i : ℕ) → i < length b → get_or g i 0 ≡ get_or b i 0 = λ i lt. at_d i (omega arith) ∙ three.kept i lt in
    let at_a : (i : ℕ) → i < length a → get_or g i 0 ≡ get_or a i 0 = λ i lt. at_b i (omega arith) ∙ two.kept i lt in
    record {
      long = six.long ∙ (let z : length f + 33 * sup ≡ notice_at k + 1 + 33 * k.supers = omega arith in z) ∙ sym told;
      states = λ p lt. at_a (page_at p) (omega arith) ∙ ap (λ (i : ℕ). get_or a i 0) (let z : page_at p ≡ length o + page_at p = omega arith in z) ∙ one.states p (omega arith);
      counters = λ q lt. at_b (counter_at k q) (omega arith) ∙ ap (λ (i : ℕ). get_or b i 0) (let z : counter_at k q ≡ length a + q = omega arith in z) ∙ two.added q (omega arith);
      bookmarks = λ w lt. at_d (bookmark_at k w) (omega arith) ∙ ap (λ (i : ℕ). get_or d i 0) (let z : bookmark_at k w ≡ length b + w = omega arith in z) ∙ three.added w (omega arith);
      frames = λ n lt.
          let same : 64 * (n / 64) + n % 64 ≡ n = omega arith in
          ap (λ (i : ℕ). bit_at i (n % 64)) (at_e (frame_at k (n / 64)) (omega arith) ∙ ap (λ (i : ℕ). get_or e i 0) (let z : frame_at k (n / 64) ≡ length d + n / 64 = omega arith in z))
          ∙ four.added (n / 64) (omega arith) (n % 64) (omega arith) ∙ ap (in_use k.pool) same;
      notice = at_f (notice_at k) (omega arith) ∙ ap (λ (i : ℕ). get_or f i 0) (let z : notice_at k ≡ length e + 0 = omega arith in z) ∙ five.added 0 (omega arith);
      marks = λ w _ lt. ap (λ (i : ℕ). get_or g i 0) (let z : mark_at k w ≡ length f + w = omega arith in z) ∙ six.marks w (omega arith);
      finished = λ w _ lt. ap (λ (i : ℕ). get_or g i 0) (let z : finished_at k w ≡ length f + (16 * sup + w) = omega arith in z) ∙ six.finished w (omega arith);
      queues = λ q _ lt. subst (λ (i : ℕ). QueuesGray (header_in hs q) (get_or g i 0)) (let z : length f + (32 * sup + q) ≡ queue_at k q = omega arith in z) (six.queues q (omega arith));
    }

-- in this word of the header each cell that is marked and allocated is finished
abbrev pub IsFinishedWord : Header → ℕ → Type 0
IsFinishedWord h j = bit_and (bit_and (get_or h.marks j 0) (get_or h.cells j 0)) (get_or h.finished j 0) ≡ bit_and (get_or h.marks j 0) (get_or h.cells j 0)

pub none_gray : (h : Header) → ((j : ℕ) → j < 16 → IsFinishedWord h j) → HasGrayBit h → ⊥
none_gray h each g =
    let m : ℕ = get_or h.marks g.word 0 in
    let c : ℕ = get_or h.cells g.word 0 in
    let f : ℕ = get_or h.finished g.word 0 in
    let one : bit_at (bit_and m c) g.bit ≡ 1 = bit_at_and m c g.bit ∙ ap (λ (n : ℕ). min n (bit_at c g.bit)) g.marked ∙ ap (λ (n : ℕ). min 1 n) g.allocated in
    let zero : bit_at (bit_and (bit_and m c) f) g.bit ≡ 0 = bit_at_and (bit_and m c) f g.bit ∙ ap (λ (n : ℕ). min n (bit_at f g.bit)) one ∙ ap (λ (n : ℕ). min 1 n) g.unfinished in
    let same : bit_at (bit_and (bit_and m c) f) g.bit ≡ bit_at (bit_and m c) g.bit = ap (λ (n : ℕ). bit_at n g.bit) (each g.word g.near) in
    omega arith

-- a queue word has the bits of all four pages
pub all_queued : (i : ℕ) → i < 4 → bit_at 15 i ≡ 1
all_queued i lt = bit_at_ones 4 i lt

-- a header that is read, by another default
pub same_header : (hs : List Header) (i : ℕ) (d : Header) → i < length hs → get_or hs i d ≡ get_or hs i unused_header
same_header [] i d lt = absurd (omega arith)
same_header (h ∷ hs) zero d lt = refl
same_header (h ∷ hs) (suc i) d lt = same_header hs i d (omega arith)

-- the sets and the queue words, one after another
pub mark_words : (hs : List Header) (n : ℕ) (o a b e : List ℕ) → Extends o a (16 * n) (set_word Marks hs) → Extends a b (16 * n) (set_word Finished hs) → AddsQueues hs b e n → HasMarkWords hs n o e
mark_words hs n o a b e marks finished queues =
    let one = marks.long in
    let two = finished.long in
    let three = queues.long in
    record {
      long = omega arith;
      kept = λ i lt. queues.kept i (omega arith) ∙ finished.kept i (omega arith) ∙ marks.kept i lt;
      marks = λ w lt. queues.kept (length o + w) (omega arith) ∙ finished.kept (length o + w) (omega arith) ∙ marks.added w lt;
      finished = λ w lt.
          let here : length o + (16 * n + w) ≡ length a + w = omega arith in
          queues.kept (length o + (16 * n + w)) (omega arith) ∙ ap (λ (i : ℕ). get_or b i 0) here ∙ finished.added w lt;
      queues = λ q lt.
          let here : length b + q ≡ length o + (32 * n + q) = omega arith in
          subst (λ (i : ℕ). QueuesGray (header_in hs q) (get_or e i 0)) here (queues.added q lt);
    }
