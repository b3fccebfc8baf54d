-- Rights to frames that are given back, and pages that are made Absent.
use Rattle.std.proofs.Common.{◌≡◌, ◌≢◌, ℕ, ◌+◌, ◌*◌, ◌/◌, ◌%◌, ◌^◌, ◌<◌, ◌==◌, ◌&&◌, Bool, true, false, if◌then◌else◌, inl, inr, List, [], ◌∷◌, Some, refl, ap, sym, subst, ◌∙◌, arith}
use Rattle.std.specs.Int.{bit_at}
use Rattle.std.proofs.lemmas.Bool.{cases_eq, cases_Bool, eq-eqb, ne_eqb, and_from, and_left, and_right}
use Rattle.std.proofs.lemmas.Nat.{one_shl}
use Rattle.std.proofs.lemmas.Nat.Bits.{bit_at-pow_same, bit_at-pow_other}
use Rattle.bc_bits.specs.Counting.{one_if}
use Rattle.bc_pins.specs.declared.views.Hand.{Hand}
use Rattle.bc_pins.specs.declared.views.View.{View}
use Rattle.bc_pins.specs.declared.views.Lodged.TheVariants.{Nothing, Away}
use Rattle.bc_pins.specs.declared.pins.Pins.{Pins}
use Rattle.bc_pins.specs.declared.pins.Seat.{Seat}
use Rattle.bc_pins.specs.declared.holding.Held.{Held}
use Rattle.bc_pins.specs.Key.{Key, frame_at}
use Rattle.bc_pins.specs.Totals.{times}
use Rattle.bc_pins.specs.Contents.{IsBarePage}
use Rattle.bc_pins.specs.Views.{reads_of}
use Rattle.bc_pins.specs.Steps.{given_back, giving, AreRights, MayVacate, both_slots}
use Rattle.bc_pins.specs.Calls.{key_of, view_of, slots_of, IsAt, HoldsPage}
use Rattle.bc_pins.proofs.TotalLemmas.{one_other}
use Rattle.bc_pins.proofs.LogLemmas.{reads-else}
use Rattle.bc_pins.proofs.AloneLemmas.{none_times}
use Rattle.bc_evict.specs.Evicting.{HasGiven, MayDiscard}

-- is the frame's bit one of these?
abbrev hits : ℕ → ℕ → ℕ → Bool
hits w bits f = (f / 64 == w) && (bit_at bits (f % 64) == 1)

clash : true ≡ false → ⊥
clash e = cc

zero_one : (n : ℕ) → n ≡ 0 → n ≡ 1 → ⊥
zero_one n z one = let e : n ≡ n + 1 = omega arith in omega arith

apart : (w bits f g : ℕ) → hits w bits f ≡ true → hits w bits g ≡ false → one_if (g == f) ≡ 0
apart w bits f g on off = ap one_if (ne_eqb g f (λ e. clash (sym on ∙ ap (hits w bits) (sym e) ∙ off)))

-- a right that was given back is none any more
given-none : (w bits f : ℕ) (l : List ℕ) → hits w bits f ≡ true → times f (given_back w bits l) ≡ 0
given-none w bits f [] on = refl
given-none w bits f (g ∷ l) on =
    let rest = given-none w bits f l on in
    elim (cases_Bool (hits w bits g)) [
      | inl yes_g ↦ ap (λ (b : Bool). times f (if b then given_back w bits l else g ∷ given_back w bits l)) yes_g ∙ rest
      | inr off ↦ ap (λ (b : Bool). times f (if b then given_back w bits l else g ∷ given_back w bits l)) off ∙ (let z = apart w bits f g on off in omega arith)
    ]

-- and all others are
given-same : (w bits f : ℕ) (l : List ℕ) → hits w bits f ≡ false → times f (given_back w bits l) ≡ times f l
given-same w bits f [] off = refl
given-same w bits f (g ∷ l) off =
    let rest = given-same w bits f l off in
    elim (cases_Bool (hits w bits g)) [
      | inl on ↦
          let z : one_if (g == f) ≡ 0 = ap one_if (ne_eqb g f (λ e. clash (sym on ∙ ap (hits w bits) e ∙ off))) in
          ap (λ (b : Bool). times f (if b then given_back w bits l else g ∷ given_back w bits l)) on ∙ omega arith
      | inr none_g ↦ ap (λ (b : Bool). times f (if b then given_back w bits l else g ∷ given_back w bits l)) none_g ∙ omega arith
    ]

hits-own : (f : ℕ) → hits (f / 64) (2 ^ (f % 64)) f ≡ true
hits-own f = and_from _ _ (eq-eqb (f / 64) (f / 64) refl) (eq-eqb _ 1 (bit_at-pow_same (f % 64)))

hits-other : (f g : ℕ) → g ≢ f → hits (f / 64) (2 ^ (f % 64)) g ≡ false
hits-other f g ne = elim (cases_eq (g / 64) (f / 64)) [
  | inl e ↦
      let z : bit_at (2 ^ (f % 64)) (g % 64) ≡ 0 = bit_at-pow_other (f % 64) (g % 64) (λ same. ne (omega arith)) in
      and_right (g / 64 == f / 64) (bit_at (2 ^ (f % 64)) (g % 64) == 1) (ne_eqb (bit_at (2 ^ (f % 64)) (g % 64)) 1 (λ one. zero_one _ z one))
  | inr other ↦ and_left _ _ (ne_eqb _ _ other)
]

-- the bit of a frame is that of a right in hand
pub are-rights : (v : View) (f : ℕ) → 0 < times f v.rights → AreRights v (f / 64) (1 * 2 ^ (f % 64) % 2 ^ 64)
are-rights v f has_it b few set =
    let shifted = one_shl (f % 64) 64 (omega arith) in
    let bit : 0 < bit_at (2 ^ (f % 64)) b = subst (λ (m : ℕ). 0 < bit_at m b) shifted set in
    let here : b ≡ f % 64 = elim (cases_eq b (f % 64)) [ inl e ↦ e | inr ne ↦ let z = bit_at-pow_other (f % 64) b ne in absurd (omega arith) ] in
    subst (λ (n : ℕ). 0 < times n v.rights) (let e : f ≡ 64 * (f / 64) + b = omega arith in e) has_it

pub has-given : (v w : View) (f n found : ℕ) → n ≡ f → w ≡ giving v (n / 64) (1 * 2 ^ (n % 64) % 2 ^ 64) found → HasGiven v f w
has-given v w f n found is step =
    let view : w ≡ giving v (f / 64) (2 ^ (f % 64)) found = step ∙ ap (λ (m : ℕ). giving v (n / 64) m found) (one_shl (n % 64) 64 (omega arith)) ∙ ap (λ (m : ℕ). giving v (m / 64) (2 ^ (m % 64)) found) is in
    let rights : w.rights ≡ given_back (f / 64) (2 ^ (f % 64)) v.rights = ap (λ (x : View). x.rights) view in
    record {
      same = subst (λ (x : View). x ≡ record v { rights = x.rights; read = x.read }) (sym view) refl;
      rights = rights;
      none = ap (times f) rights ∙ given-none (f / 64) (2 ^ (f % 64)) f v.rights (hits-own f);
      others = λ g ne. ap (times g) rights ∙ given-same (f / 64) (2 ^ (f % 64)) g v.rights (hits-other f g ne);
      grows = ((frame_at v.about (f / 64), found) ∷ [], ap (λ (x : View). x.read) view);
      reads = λ i ne. ap (λ (x : View). reads_of i x.read) view ∙ reads-else i (frame_at v.about (f / 64)) found v.read (λ e. ne (sym e));
    }

-- no right is left where each was given back
given-all : (f : ℕ) (l : List ℕ) → times f l ≡ 0 → ((g : ℕ) → g ≢ f → times g l ≡ times g (f ∷ [])) → l ≡ []
given-all f l none others = none_times l (λ g. elim (cases_eq g f) [
  | inl e ↦ ap (λ (i : ℕ). times i l) e ∙ none
  | inr ne ↦ let z = others g ne in let o = one-else f g (λ e. ne (sym e)) in omega arith
])
  where
    one-else : (a b : ℕ) → a ≢ b → times b (a ∷ []) ≡ 0
    one-else a b ne = let z = one_other a b ne in omega arith

-- the one right was given back
pub rights-gone : (v w : View) (f : ℕ) → HasGiven v f w → v.rights ≡ f ∷ [] → w.rights ≡ []
rights-gone v w f h e = given-all f w.rights h.none (λ g ne. h.others g ne ∙ ap (times g) e)

-- a page without an allocated cell may be made Absent
pub may-discard_raw : (pins : Pins) (a b : Seat) (held : Held) (page : ℕ) → IsAt pins a → HoldsPage a held → MayDiscard a held → page ≡ held.page → view_of b ≡ view_of a → slots_of b ≡ both_slots (key_of pins) held.page Nothing (Away held.homed.page)
    → (x : Hand) × ((view_of b).hand ≡ Some x) × (x.page ≡ page) × (slots_of b ≡ both_slots (key_of pins) page Nothing (Away x.content)) × MayVacate (key_of pins) x
may-discard_raw pins a b held page at holds may is view slots =
    let h : Hand = holds.hand in (
      h,
      ap (λ (v : View). v.hand) view ∙ holds.has,
      holds.page ∙ sym is,
      slots ∙ ap (λ (p : ℕ). both_slots (key_of pins) p Nothing (Away held.homed.page)) (sym is) ∙ ap (λ (c : List ℕ). both_slots (key_of pins) page Nothing (Away c)) (sym (may.as_taken.content h holds.has)),
      record {
        bare = subst (λ (k : Key). IsBarePage k.opening h.page) at.about (subst (λ (p : ℕ). IsBarePage (view_of a).about.opening p) (sym holds.page) may.bare);
        quiet = may.as_taken.taken h holds.has;
        uncounted = may.unmarked.counted h holds.has;
        unmarked = may.unmarked.marked h holds.has;
      },
    )
