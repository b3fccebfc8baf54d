-- Frames that are claimed: all that are free of a word, and all but one given back.
use Rattle.std.proofs.Common.{◌≡◌, ◌≢◌, ℕ, ◌+◌, ◌-◌, ◌*◌, ◌/◌, ◌%◌, ◌^◌, ◌<◌, ◌≤◌, ◌==◌, ◌&&◌, Bool, true, false, if◌then◌else◌, inl, inr, List, [], ◌∷◌, ◌++◌, bit_or, refl, ap, sym, subst, ◌∙◌, arith}
use Prim.Native.Nat.{zero, suc}
use Rattle.std.specs.Int.{bit_at, trailing_ones, w64}
use Rattle.std.proofs.lemmas.Bool.{cases_eq, cases_Bool, eq-eqb, eqb-true, ne_eqb, and_from, and_right}
use Rattle.std.proofs.lemmas.Nat.Bits.{bit_at_ones, bit_at-zero, bit_at-trailing_ones, bit_at_not, bit_at_set_same, bit_at_set_other}
use Rattle.std.proofs.lemmas.Nat.{or_lt}
use Rattle.std.proofs.lemmas.List.{append_assoc}
use Rattle.bc_bits.specs.Counting.{one_if}
use Rattle.bc_pins.specs.declared.views.View.{View}
use Rattle.bc_pins.specs.Key.{pages_of, page_at, frame_at, frame_words}
use Rattle.bc_pins.specs.Views.{reads_of}
use Rattle.bc_pins.specs.Steps.{AreRights, clear_frames, claiming, given_back, giving}
use Rattle.bc_pins.specs.Totals.{times}
use Rattle.bc_pins.proofs.TotalLemmas.{one_same, times_append}
use Rattle.bc_pins.proofs.ClaimSteps.{claim_in}
use Rattle.bc_pins.proofs.LogLemmas.{reads-append, reads-else, reads-here, times-reads}
use Rattle.bc_evict.specs.Claiming.{all_bits, HasClaimed, FindsNoFrameUpTo, FindsNoFrame}
use Rattle.bc_evict.specs.Looking.{steps_behind}
use Rattle.bc_evict.proofs.RoundLemmas.{one_place, has_place}

-- no frame is claimed of a word all of whose bits are set
pub clear-none : (w n : ℕ) → n ≤ 64 → clear_frames w all_bits n ≡ []
unfolding clear_frames
clear-none w zero le = refl
clear-none w (suc n) le =
    let e : all_bits ≡ 2 ^ 64 - 1 = refl in
    let one : bit_at all_bits n ≡ 1 = ap (λ (m : ℕ). bit_at m n) e ∙ bit_at_ones 64 n (omega arith) in
    ap (λ (c : Bool). if c then (64 * w + n) ∷ clear_frames w all_bits n else clear_frames w all_bits n) (ne_eqb (bit_at all_bits n) 0 (λ z. omega arith))
    ∙ clear-none w n (omega arith)

-- of those of a word all but one are given back
abbrev hit : ℕ → ℕ → ℕ → Bool
hit w bits f = (f / 64 == w) && (bit_at bits (f % 64) == 1)

hit-here : (w bits n : ℕ) → n < 64 → bit_at bits n ≡ 1 → hit w bits (64 * w + n) ≡ true
hit-here w bits n few one =
    let q : (64 * w + n) / 64 ≡ w = omega arith in
    let r : (64 * w + n) % 64 ≡ n = omega arith in
    and_from _ _ (eq-eqb _ _ q) (eq-eqb _ 1 (ap (bit_at bits) r ∙ one))

hit-none : (w bits n : ℕ) → n < 64 → bit_at bits n ≡ 0 → hit w bits (64 * w + n) ≡ false
hit-none w bits n few none_set =
    let r : (64 * w + n) % 64 ≡ n = omega arith in
    let z : bit_at bits ((64 * w + n) % 64) ≡ 0 = ap (bit_at bits) r ∙ none_set in
    and_right ((64 * w + n) / 64 == w) (bit_at bits ((64 * w + n) % 64) == 1) (ne_eqb (bit_at bits ((64 * w + n) % 64)) 1 (λ one. omega arith))

abbrev Others : ℕ → ℕ → ℕ → Type 0
Others found others kept = (b : ℕ) → b < 64 → b ≢ kept → bit_at found b ≡ 0 → bit_at others b ≡ 1

abbrev more : ℕ → ℕ → ℕ → Bool → List ℕ
more w found n c = if c then (64 * w + n) ∷ clear_frames w found n else clear_frames w found n

clear-before : (w found others kept n : ℕ) → n ≤ 64 → n ≤ kept → Others found others kept → given_back w others (clear_frames w found n) ≡ []
unfolding clear_frames
clear-before w found others kept zero few le given = refl
clear-before w found others kept (suc n) few le given =
    let rest = clear-before w found others kept n (omega arith) (omega arith) given in
    elim (cases_Bool (bit_at found n == 0)) [
      | inl on ↦
          let one = given n (omega arith) (λ e. omega arith) (eqb-true (bit_at found n) 0 on) in
          ap (λ (c : Bool). given_back w others (more w found n c)) on
          ∙ ap (λ (c : Bool). if c then given_back w others (clear_frames w found n) else (64 * w + n) ∷ given_back w others (clear_frames w found n)) (hit-here w others n (omega arith) one)
          ∙ rest
      | inr off ↦ ap (λ (c : Bool). given_back w others (more w found n c)) off ∙ rest
    ]

pub clear-one : (w found others kept n : ℕ) → n ≤ 64 → kept < n → bit_at found kept ≡ 0 → Others found others kept → bit_at others kept ≡ 0
    → given_back w others (clear_frames w found n) ≡ (64 * w + kept) ∷ []
unfolding clear_frames
clear-one w found others kept zero few lt clear given stays = absurd (omega arith)
clear-one w found others kept (suc n) few lt clear given stays = elim (cases_eq n kept) [
  | inl e ↦
      let on : (bit_at found n == 0) ≡ true = eq-eqb (bit_at found n) 0 (ap (bit_at found) e ∙ clear) in
      let none_set : bit_at others n ≡ 0 = ap (bit_at others) e ∙ stays in
      ap (λ (c : Bool). given_back w others (more w found n c)) on
      ∙ ap (λ (c : Bool). if c then given_back w others (clear_frames w found n) else (64 * w + n) ∷ given_back w others (clear_frames w found n)) (hit-none w others n (omega arith) none_set)
      ∙ ap (λ (l : List ℕ). (64 * w + n) ∷ l) (clear-before w found others kept n (omega arith) (omega arith) given)
      ∙ ap (λ (m : ℕ). (64 * w + m) ∷ []) e
  | inr ne ↦
      let rest = clear-one w found others kept n (omega arith) (omega arith) clear given stays in
      elim (cases_Bool (bit_at found n == 0)) [
        | inl on ↦
            let one = given n (omega arith) ne (eqb-true (bit_at found n) 0 on) in
            ap (λ (c : Bool). given_back w others (more w found n c)) on
            ∙ ap (λ (c : Bool). if c then given_back w others (clear_frames w found n) else (64 * w + n) ∷ given_back w others (clear_frames w found n)) (hit-here w others n (omega arith) one)
            ∙ rest
        | inr off ↦ ap (λ (c : Bool). given_back w others (more w found n c)) off ∙ rest
      ]
]

-- none of the words so far had a clear bit
pub finds-none : (v : View) (start : ℕ) → FindsNoFrameUpTo start 0 v v
finds-none v start = record { looks = []; view = refl; each = λ w lt less. absurd (omega arith); unread = λ w lt le. refl; pages = λ p lt. refl }

pub finds-more : (v u w : View) (start steps word : ℕ) → start < frame_words v.about → word < frame_words v.about → steps_behind (frame_words v.about) start word ≡ steps → FindsNoFrameUpTo start steps v u → w ≡ claiming u word all_bits
    → FindsNoFrameUpTo start (steps + 1) v w
finds-more v u w start steps word lt_start lt_word place old is =
    let about : u.about ≡ v.about = ap (λ (x : View). x.about) old.view in
    let at : frame_at u.about word ≡ frame_at v.about word = ap (λ k. frame_at k word) about in
    record {
      looks = (frame_at u.about word, all_bits) ∷ old.looks;
      view = is ∙ ap (λ (l : List ℕ). record u { rights = l ++ u.rights; read = (frame_at u.about word, all_bits) ∷ u.read }) (clear-none word 64 (omega arith))
          ∙ ap (λ (x : View). record x { read = (frame_at u.about word, all_bits) ∷ x.read }) old.view;
      each = λ j lt less. elim (cases_eq j word) [
        | inl e ↦
            let same : frame_at u.about word ≡ frame_at v.about j = at ∙ ap (frame_at v.about) (sym e) in
            let behind : steps_behind (frame_words v.about) start j ≡ steps = ap (steps_behind (frame_words v.about) start) e ∙ place in
            ap (λ (b : Bool). if b then all_bits ∷ reads_of (frame_at v.about j) old.looks else reads_of (frame_at v.about j) old.looks) (eq-eqb (frame_at u.about word) (frame_at v.about j) same)
            ∙ ap (λ (l : List ℕ). all_bits ∷ l) (old.unread j lt (omega arith))
        | inr ne ↦
            reads-else (frame_at v.about j) (frame_at u.about word) all_bits old.looks (λ e. ne (omega arith))
            ∙ old.each j lt (before j lt ne less)
      ];
      unread = λ j lt le.
          reads-else (frame_at v.about j) (frame_at u.about word) all_bits old.looks
          (λ e. let same : j ≡ word = omega arith in let behind : steps_behind (frame_words v.about) start j ≡ steps = ap (steps_behind (frame_words v.about) start) same ∙ place in omega arith)
          ∙ old.unread j lt (omega arith);
      pages = λ p lt. reads-else (page_at p) (frame_at u.about word) all_bits old.looks (λ e. omega arith) ∙ old.pages p lt;
    }
  where
    -- a word that is another's place lies before it
    before : (j : ℕ) → j < frame_words v.about → j ≢ word → steps_behind (frame_words v.about) start j < steps + 1 → steps_behind (frame_words v.about) start j < steps
    before j lt ne less = elim (cases_eq (steps_behind (frame_words v.about) start j) steps) [
      | inl e ↦ absurd (ne (one_place (frame_words v.about) start j word lt_start lt lt_word (e ∙ sym place)))
      | inr other ↦ omega arith
    ]

-- so had all, once each was read
pub finds-all : (v w : View) (start steps : ℕ) → frame_words v.about ≤ steps → (0 < frame_words v.about → start < frame_words v.about) → FindsNoFrameUpTo start steps v w → FindsNoFrame v w
finds-all v w start steps all begins f = record {
  looks = f.looks;
  view = f.view;
  each = λ word lt. f.each word lt (let behind = has_place (frame_words v.about) start word (begins (omega arith)) lt in omega arith);
  pages = f.pages;
}

-- the frames that are given back: all whose bits are clear but the first
abbrev pub others_of : ℕ → ℕ → ℕ
others_of found kept = 18446744073709551615 - bit_or found (1 * 2 ^ kept % 2 ^ 64)

pub record Kept (found kept : ℕ) : Type 0 where
  pub near : kept < 64
  pub clear : bit_at found kept ≡ 0
  pub given : Others found (others_of found kept) kept
  pub stays : bit_at (others_of found kept) kept ≡ 0
  pub only : (b : ℕ) → b < 64 → 0 < bit_at (others_of found kept) b → (b ≢ kept) × (bit_at found b ≡ 0)

pub kept-at : (found kept : ℕ) → kept ≡ trailing_ones w64 found → found < 2 ^ 64 → found ≢ all_bits → Kept found kept
kept-at found kept is fits some =
    let first = bit_at-trailing_ones w64 found (omega arith) in
    let near : kept < 64 = subst (λ (k : ℕ). k < 64) (sym is) first.0 in
    let small : bit_or found (1 * 2 ^ kept % 2 ^ 64) < 2 ^ 64 = or_lt 64 found (1 * 2 ^ kept % 2 ^ 64) fits (omega arith) in
    let bit : (b : ℕ) → b < 64 → bit_at (others_of found kept) b ≡ 1 - bit_at (bit_or found (1 * 2 ^ kept % 2 ^ 64)) b = λ b few. bit_at_not w64 (bit_or found (1 * 2 ^ kept % 2 ^ 64)) b small few in
    let same : bit_at (bit_or found (1 * 2 ^ kept % 2 ^ 64)) kept ≡ 1 = bit_at_set_same w64 found kept near in
    let other : (b : ℕ) → b ≢ kept → bit_at (bit_or found (1 * 2 ^ kept % 2 ^ 64)) b ≡ bit_at found b = bit_at_set_other w64 found kept near in
    record {
      near = near;
      clear = ap (bit_at found) is ∙ first.1;
      given = λ b few ne off. let a = bit b few in let c = other b ne in omega arith;
      stays = (let a = bit kept near in omega arith);
      only = λ b few on.
          let a = bit b few in
          elim (cases_eq b kept) [
            | inl e ↦ absurd (let d : bit_at (bit_or found (1 * 2 ^ kept % 2 ^ 64)) b ≡ 1 = ap (bit_at (bit_or found (1 * 2 ^ kept % 2 ^ 64))) e ∙ same in omega arith)
            | inr ne ↦ (ne, let c = other b ne in omega arith)
          ];
    }

-- to each of them there is a right
pub claimed-rights : (v u : View) (w found kept : ℕ) → Kept found kept → u ≡ claiming v w found → AreRights u w (others_of found kept)
claimed-rights v u w found kept k is b few on =
    let off = (k.only b few on).1 in
    let all : times (64 * w + b) u.rights ≡ times (64 * w + b) (clear_frames w found 64 ++ v.rights) = ap (λ (x : View). times (64 * w + b) x.rights) is in
    let both = times_append (64 * w + b) (clear_frames w found 64) v.rights in
    let one : times (64 * w + b) (clear_frames w found 64) ≡ one_if (bit_at found b == 0) = claim_in w found 64 b (64 * w + b) few refl in
    let on_test : one_if (bit_at found b == 0) ≡ 1 = ap one_if (eq-eqb (bit_at found b) 0 off) in
    omega arith

append-none : (l : List ℕ) → l ++ [] ≡ l
append-none [] = refl
append-none (x ∷ l) = ap (λ (m : List ℕ). x ∷ m) (append-none l)

claimed-list : (v : View) (w found : ℕ) → v.rights ≡ [] → clear_frames w found 64 ++ v.rights ≡ clear_frames w found 64
claimed-list v w found none = ap (λ (l : List ℕ). clear_frames w found 64 ++ l) none ∙ append-none (clear_frames w found 64)

-- it was free, as its word was read
abbrev WasFree : View → ℕ → List (ℕ × ℕ) → Type 0
WasFree v frame looks = (found : ℕ) × (0 < times found (reads_of (frame_at v.about (frame / 64)) looks)) × (bit_at found (frame % 64) ≡ 0)

was-free : (v : View) (word found kept : ℕ) (looks : List (ℕ × ℕ)) → Kept found kept → 0 < times found (reads_of (frame_at v.about word) looks) → WasFree v (64 * word + kept) looks
was-free v word found kept looks k read =
    let near = k.near in
    let q : (64 * word + kept) / 64 ≡ word = omega arith in
    let r : (64 * word + kept) % 64 ≡ kept = omega arith in
    (found, subst (λ (w : ℕ). 0 < times found (reads_of (frame_at v.about w) looks)) (sym q) read, ap (bit_at found) r ∙ k.clear)

abbrev claims : View → ℕ → List (ℕ × ℕ) → View
claims v frame looks = record v { rights = frame ∷ []; read = looks ++ v.read }

-- the first is left
pub claimed-given : (v u w : View) (word found kept more_found : ℕ) → Kept found kept → v.rights ≡ [] → u ≡ claiming v word found → w ≡ giving u word (others_of found kept) more_found → 64 * word + kept < v.about.frames
    → HasClaimed v (64 * word + kept) w
claimed-given v u w word found kept more_found k none is given within =
    let one = clear-one word found (others_of found kept) kept 64 (omega arith) k.near k.clear k.given k.stays in
    let rights : given_back word (others_of found kept) (clear_frames word found 64 ++ v.rights) ≡ (64 * word + kept) ∷ [] = ap (given_back word (others_of found kept)) (claimed-list v word found none) ∙ one in
    record {
      looks = (frame_at v.about word, more_found) ∷ (frame_at v.about word, found) ∷ [];
      view = given ∙ ap (λ (x : View). giving x word (others_of found kept) more_found) is
          ∙ ap (λ (l : List ℕ). record v { rights = l; read = (frame_at v.about word, more_found) ∷ (frame_at v.about word, found) ∷ v.read }) rights;
      within = within;
      free = was-free v word found kept ((frame_at v.about word, more_found) ∷ (frame_at v.about word, found) ∷ []) k
          (let one = one_same found in let first = reads-here (frame_at v.about word) found found [] in
          let all = times-reads found (frame_at v.about word) ((frame_at v.about word, more_found) ∷ []) ((frame_at v.about word, found) ∷ []) in
          omega arith);
      pages = λ p lt. reads-else (page_at p) (frame_at v.about word) more_found ((frame_at v.about word, found) ∷ []) (λ e. omega arith) ∙ reads-else (page_at p) (frame_at v.about word) found [] (λ e. omega arith);
    }

given-all : (w : ℕ) (l : List ℕ) → given_back w 0 l ≡ l
given-all w [] = refl
given-all w (f ∷ l) =
    ap (λ (b : Bool). if b then given_back w 0 l else f ∷ given_back w 0 l) (and_right (f / 64 == w) (bit_at 0 (f % 64) == 1) (ne_eqb (bit_at 0 (f % 64)) 1 (λ one. let z = bit_at-zero (f % 64) in omega arith)))
    ∙ ap (λ (m : List ℕ). f ∷ m) (given-all w l)

-- also where it was alone
pub claimed-alone : (v u : View) (word found kept : ℕ) → Kept found kept → v.rights ≡ [] → u ≡ claiming v word found → others_of found kept ≡ 0 → 64 * word + kept < v.about.frames → HasClaimed v (64 * word + kept) u
claimed-alone v u word found kept k none is alone within =
    let one = clear-one word found (others_of found kept) kept 64 (omega arith) k.near k.clear k.given k.stays in
    let rights : clear_frames word found 64 ++ v.rights ≡ (64 * word + kept) ∷ [] =
    claimed-list v word found none ∙ sym (given-all word (clear_frames word found 64)) ∙ ap (λ (n : ℕ). given_back word n (clear_frames word found 64)) (sym alone) ∙ one in
    record {
      looks = (frame_at v.about word, found) ∷ [];
      view = is ∙ ap (λ (l : List ℕ). record v { rights = l; read = (frame_at v.about word, found) ∷ v.read }) rights;
      within = within;
      free = was-free v word found kept ((frame_at v.about word, found) ∷ []) k (let one = one_same found in let first = reads-here (frame_at v.about word) found found [] in omega arith);
      pages = λ p lt. reads-else (page_at p) (frame_at v.about word) found [] (λ e. omega arith);
    }

-- after words in which none was
pub claimed-after : (v u w : View) (start steps frame : ℕ) → FindsNoFrameUpTo start steps v u → HasClaimed u frame w → HasClaimed v frame w
claimed-after v u w start steps frame first then_one =
    let about : u.about ≡ v.about = ap (λ (x : View). x.about) first.view in
    let frames : u.about.frames ≡ v.about.frames = ap (λ k. k.frames) about in
    let within = then_one.within in
    record {
      looks = then_one.looks ++ first.looks;
      view = then_one.view ∙ ap (λ (x : View). record x { rights = frame ∷ []; read = then_one.looks ++ x.read }) first.view
          ∙ ap (λ (l : List (ℕ × ℕ)). record v { rights = frame ∷ []; read = l }) (sym (append_assoc then_one.looks first.looks v.read));
      within = omega arith;
      free = (let was = then_one.free in
          let at : frame_at u.about (frame / 64) ≡ frame_at v.about (frame / 64) = ap (λ k. frame_at k (frame / 64)) about in
          let read = subst (λ (i : ℕ). 0 < times was.0 (reads_of i then_one.looks)) at was.1 in
          let all = times-reads was.0 (frame_at v.about (frame / 64)) then_one.looks first.looks in
          (was.0, omega arith, was.2));
      pages = λ p lt.
          reads-append (page_at p) then_one.looks first.looks
          ∙ ap (λ (l : List ℕ). l ++ reads_of (page_at p) first.looks) (then_one.pages p (subst (λ k. p < pages_of k) (sym about) lt)) ∙ first.pages p lt;
    }
