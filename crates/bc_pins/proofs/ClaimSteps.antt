-- Claiming all free frames of a frame word: all its bits are set.
use Rattle.std.proofs.Common.{◌≡◌, ℕ, ◌+◌, ◌-◌, ◌*◌, ◌/◌, ◌%◌, ◌^◌, ◌<◌, ◌≢◌, ◌==◌, ◌&&◌, Bool, true, false, if◌then◌else◌, nat_lt, bit_or, ◌∷◌, set, inl, inr, refl, ap, sym, subst, ◌∙◌, arith, get_or-set_same, get_or-set_other}
use Prim.Native.Nat.{zero, suc}
use mathlib.Core.Option.{some}
use mathlib.Core.Option as maybe
use lib.ListN.{get_elem?}
use Rattle.std.specs.Int.{bit_at}
use Rattle.std.proofs.lemmas.Bool.{cases_eq, cases_lt, cases_Bool, eq-eqb, eqb-true, lt-ltb}
use Rattle.std.proofs.lemmas.Nat.Bits.{bit_at_or, bit_at_ones}
use Rattle.atomic_table.specs.Table.{Allows, step, keeps}
use Rattle.bc_bits.specs.Counting.{one_if}
use Rattle.bc_pins.specs.declared.views.View.{View}
use Rattle.bc_pins.specs.Key.{Key, bookmark_at, frame_at, frame_words}
use Rattle.bc_pins.specs.Totals.{times}
use Rattle.bc_pins.specs.Views.{frame_in_hand, has_role}
use Rattle.bc_pins.specs.Facts.{Table, word, frame_bit, is_clear, Frames}
use Rattle.bc_pins.specs.Rule.{Rule, Ruled}
use Rattle.bc_pins.specs.Steps.{Mine, clear_frames, claiming, Claimed}
use Rattle.bc_pins.proofs.NoticeLemmas.{claims_aside}
use Rattle.bc_pins.proofs.OwingLemmas.{owing_aside}
use Rattle.bc_pins.proofs.TotalLemmas.{total_set, times_append, one_other}
use Rattle.bc_pins.proofs.TallyLemmas.{bit_few}
use Rattle.bc_pins.proofs.MarkedLemmas.{targets_kept}
use Rattle.bc_pins.proofs.LogLemmas.{reads-else, reads-more}
use Rattle.bc_pins.proofs.TracingLemmas.{KeepsMarks, keeps_set, knows_read, tracing_kept}
use Rattle.bc_pins.proofs.SideSteps.{aside, SideStep, side_step, counters_same, bits_same, keeps_aside}

abbrev all_bits : ℕ
all_bits = 18446744073709551615

-- how often a frame is among those that are claimed
pub claim_out : (w found n f : ℕ) → ((b : ℕ) → b < n → 64 * w + b ≢ f) → times f (clear_frames w found n) ≡ 0
unfolding clear_frames
claim_out w found zero f out = refl
claim_out w found (suc n) f out =
    let rest = claim_out w found n f (λ b lt. out b (omega arith)) in
    elim (cases_Bool (bit_at found n == 0)) [
      | inl on ↦ ap (λ (c : Bool). times f (if c then (64 * w + n) ∷ clear_frames w found n else clear_frames w found n)) on ∙ (let a = one_other (64 * w + n) f (out n (omega arith)) in omega arith)
      | inr off ↦ ap (λ (c : Bool). times f (if c then (64 * w + n) ∷ clear_frames w found n else clear_frames w found n)) off ∙ rest
    ]

pub claim_in : (w found n b f : ℕ) → b < n → f ≡ 64 * w + b → times f (clear_frames w found n) ≡ one_if (bit_at found b == 0)
unfolding clear_frames
claim_in w found zero b f lt is = absurd (omega arith)
claim_in w found (suc n) b f lt is = elim (cases_eq n b) [
  | inl e ↦
      let out = claim_out w found n f (λ j less z. omega arith) in
      let same : one_if (bit_at found n == 0) ≡ one_if (bit_at found b == 0) = ap (λ (m : ℕ). one_if (bit_at found m == 0)) e in
      elim (cases_Bool (bit_at found n == 0)) [
        | inl on ↦
            ap (λ (c : Bool). times f (if c then (64 * w + n) ∷ clear_frames w found n else clear_frames w found n)) on
            ∙ (let a : one_if (64 * w + n == f) ≡ 1 = ap one_if (eq-eqb (64 * w + n) f (omega arith)) in let c : one_if (bit_at found n == 0) ≡ 1 = ap one_if on in omega arith)
        | inr off ↦
            ap (λ (c : Bool). times f (if c then (64 * w + n) ∷ clear_frames w found n else clear_frames w found n)) off
            ∙ (let c : one_if (bit_at found n == 0) ≡ 0 = ap one_if off in omega arith)
      ]
  | inr ne ↦
      let rest = claim_in w found n b f (omega arith) is in
      elim (cases_Bool (bit_at found n == 0)) [
        | inl on ↦ ap (λ (c : Bool). times f (if c then (64 * w + n) ∷ clear_frames w found n else clear_frames w found n)) on ∙ (let a = one_other (64 * w + n) f (λ z. ne (omega arith)) in omega arith)
        | inr off ↦ ap (λ (c : Bool). times f (if c then (64 * w + n) ∷ clear_frames w found n else clear_frames w found n)) off ∙ rest
      ]
]

module _ (k : Key) (s : Table) (r : Rule k s) (id role : ℕ) (v : View) (at : get_elem? s.views id ≡ some v) (about : v.about ≡ k) (some_role : 0 < has_role v role)
    (w : ℕ) (lt : w < frame_words k) where
  abbrev i : ℕ
  i = frame_at k w

  abbrev x : ℕ
  x = bit_or (word s i) all_bits

  abbrev u : View
  u = claiming v w (word s i)

  abbrev t : Table
  t = aside s i x id u

  here : word t i ≡ x
  here = let long = r.words in get_or-set_same s.words i x 0 (omega arith)

  bit_one : (b : ℕ) → b < 64 → bit_at all_bits b ≡ 1
  bit_one b few = let e : all_bits ≡ 2 ^ 64 - 1 = refl in ap (λ (n : ℕ). bit_at n b) e ∙ bit_at_ones 64 b few

  bit_here : (b : ℕ) → b < 64 → bit_at (word t i) b ≡ 1
  bit_here b few = ap (λ (n : ℕ). bit_at n b) here ∙ bit_at_or (word s i) all_bits b ∙ (let a = bit_one b few in let c = bit_few (word s i) b in omega arith)

  -- a frame whose bit is clear is one of the heap's
  pub frame_near : (b : ℕ) → b < 64 → bit_at (word s i) b ≡ 0 → 64 * w + b < k.frames
  frame_near b few off = elim (cases_lt (64 * w + b) k.frames) [
    | inl less ↦ less
    | inr le ↦ absurd (
        let f : ℕ = 64 * w + b in
        let one = (r.frames f).past le (omega arith) in
        let word_is : f / 64 ≡ w = omega arith in
        let bit_is : f % 64 ≡ b = omega arith in
        let same : frame_bit k s.words f ≡ bit_at (word s i) b = ap (λ (n : ℕ). bit_at (word s (frame_at k n)) (f % 64)) word_is ∙ ap (bit_at (word s i)) bit_is in
        omega arith)
  ]

  frames_now : (f : ℕ) → Frames k t f
  frames_now f =
      let old = r.frames f in
      let used = old.used in
      let sum = total_set (λ (z : View). frame_in_hand f z.hand + times f z.rights) s.views id v u at in
      let more = times_append f (clear_frames w (word s i) 64) v.rights in
      elim (cases_eq (f / 64) w) [
        | inl e ↦
            let claimed = claim_in w (word s i) 64 (f % 64) f (omega arith) (omega arith) in
            let now : frame_bit k t.words f ≡ 1 = ap (λ (n : ℕ). bit_at (word t (frame_at k n)) (f % 64)) e ∙ bit_here (f % 64) (omega arith) in
            let was : frame_bit k s.words f ≡ bit_at (word s i) (f % 64) = ap (λ (n : ℕ). bit_at (word s (frame_at k n)) (f % 64)) e in
            let not_clear : one_if (is_clear k t.words f) ≡ 0 = ap (λ (n : ℕ). one_if (nat_lt f k.frames && (n == 0))) now ∙ never (nat_lt f k.frames) in
            let clear : one_if (is_clear k s.words f) ≡ one_if (bit_at (word s i) (f % 64) == 0) = elim (cases_Bool (bit_at (word s i) (f % 64) == 0)) [
              | inl on ↦
                  let zero_is : bit_at (word s i) (f % 64) ≡ 0 = eqb-true (bit_at (word s i) (f % 64)) 0 on in
                  let near = frame_near (f % 64) (omega arith) zero_is in
                  let inside : f < k.frames = omega arith in
                  ap (λ (c : Bool). one_if (c && (frame_bit k s.words f == 0))) (lt-ltb f k.frames inside) ∙ ap (λ (n : ℕ). one_if (n == 0)) was
              | inr off ↦ ap (λ (n : ℕ). one_if (nat_lt f k.frames && (n == 0))) was ∙ ap (λ (c : Bool). one_if (nat_lt f k.frames && c)) off ∙ never (nat_lt f k.frames) ∙ sym (ap one_if off)
            ] in
            record { used = omega arith; past = λ le less. now }
        | inr ne ↦
            let claimed = claim_out w (word s i) 64 f (λ b less z. ne (omega arith)) in
            let bit : frame_bit k t.words f ≡ frame_bit k s.words f = ap (λ (n : ℕ). bit_at n (f % 64)) (get_or-set_other s.words i (frame_at k (f / 64)) x 0 (λ e. ne (omega arith))) in
            let clear : one_if (is_clear k t.words f) ≡ one_if (is_clear k s.words f) = ap (λ (n : ℕ). one_if (nat_lt f k.frames && (n == 0))) bit in
            record { used = omega arith; past = λ le less. bit ∙ old.past le less }
      ]
    where
      never : (b : Bool) → one_if (b && false) ≡ 0
      never true = refl
      never false = refl

  marks_kept : KeepsMarks k s t
  marks_kept = keeps_aside k s i x id v u at (omega arith) (omega arith) (λ j b less one. ap (λ (n : ℕ). bit_at n b) (get_or-set_other s.words i (bookmark_at k j) x 0 (λ e. omega arith)) ∙ one) refl refl

  claim_step : SideStep k s r.rec i x id v u
  claim_step =
      let facts = r.seats id v at in
      record {
        far = omega arith;
        stay = λ turn. keeps_set k s t marks_kept;
        knows = λ turn. knows_read k s t v u (keeps_set k s t marks_kept) (facts.knows turn) refl (λ j less. reads-else j (frame_at v.about w) (word s i) v.read (λ e. let f = ap (λ (a : Key). frame_at a w) about in omega arith));
        tracing = λ turn. tracing_kept k s t marks_kept (r.tracing turn);
        grip = λ p. refl;
        flag = λ p. refl;
        recorded = refl;
        left = refl;
        emptied = refl;
        fetched = refl;
        changed = refl;
        returned = refl;
        busy = refl;
        seen = refl;
        gone = refl;
        roles = refl;
        read = λ j ne. reads-else j (frame_at v.about w) (word s i) v.read (λ e. ne (sym e ∙ ap (λ (a : Key). frame_at a w) about));
        read_more = λ j n. reads-more j (frame_at v.about w) (word s i) n v.read;
        seated = record { about = facts.seated.about; idle = λ e. let z : has_role v role ≡ 0 = ap (times role) e in absurd (omega arith) };
        records = record { mine = facts.records.mine; others = facts.records.others; unrecorded = facts.records.unrecorded; unfetched = facts.records.unfetched; in_hand = facts.records.in_hand };
        marking = record { once = facts.marking.once; whose = facts.marking.whose; unmarked = facts.marking.unmarked };
        targets = targets_kept k s r.rec (set s.words i x) s.homes id v u at (λ q. omega arith) refl refl facts.targets;
        set = λ j b less one. ap (λ (n : ℕ). bit_at n b) (get_or-set_other s.words i (bookmark_at k j) x 0 (λ e. omega arith)) ∙ one;
        counters = λ q less. counters_same k s r i x id v u q at (omega arith) less (λ e. omega arith) (λ p. refl);
        bits = λ j b less few. bits_same k s r i x id v u j b at less few (λ e. omega arith) refl;
        frames = frames_now;
      }

  pub claim_rule : Rule k t
  claim_rule = side_step k s r i x id v u at claim_step

-- whatever the table is, a claim keeps the rule
pub claims_frames : (k : Key) (slots id role : ℕ) (me : Mine) (w i : ℕ) → i ≡ frame_at k w → w < frame_words k → me.0.about ≡ k → 0 < has_role me.0 role
    → Allows (Ruled k) slots id me i (λ m. bit_or m all_bits) (Claimed (step slots i all_bits 0 maybe.none) me)
claims_frames k slots id role me w i is lt about some_role s r size at fits = (
  claiming me.0 w (word s i),
  keeps,
  tt,
  record {
    facts = subst (λ (j : ℕ). Rule k (aside s j (bit_or (word s j) all_bits) id (claiming me.0 w (word s j)))) (sym is) (claim_rule k s r.facts id role me.0 at about some_role w lt);
    claims = claims_aside k s _ _ id _ _ _ at (λ e. omega arith) refl r.claims;
    owing = λ turn. owing_aside k s i _ id me.0 _ at (omega arith) (omega arith) refl refl refl (r.owing turn);
  },
  record {
    view = λ c e.
        let word_is : w ≡ c = (let a : frame_at me.0.about c ≡ frame_at k c = ap (λ (z : Key). frame_at z c) about in omega arith) in
        ap (λ (m : ℕ). (claiming me.0 m (word s i), me.1)) word_is;
    frames = λ c b e few off.
        let word_is : w ≡ c = (let a : frame_at me.0.about c ≡ frame_at k c = ap (λ (z : Key). frame_at z c) about in omega arith) in
        let near = frame_near k s r.facts id role me.0 at about some_role w lt b few (subst (λ (j : ℕ). bit_at (word s j) b ≡ 0) is off) in
        let same : me.0.about.frames ≡ k.frames = ap (λ (z : Key). z.frames) about in
        omega arith;
  },
)
