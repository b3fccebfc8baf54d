-- What a caller needs to open a table and to close it: seats that were dealt come back, a space without cells is ready.
use Rattle.std.proofs.Common.{◌≡◌, ℕ, ◌<◌, ◌≤◌, ◌≢◌, ◌==◌, true, false, List, [], ◌∷◌, length, map, get_or, replicate, Some, None, inl, inr, refl, ap, sym, subst, ◌∙◌, arith}
use Prim.Native.Nat.{zero, suc}
use Rattle.std.proofs.lemmas.Bool.{cases_eq, cases_Bool}
use Rattle.atomic_table.specs.Seated.{TableId}
use Rattle.bc_bits.specs.Bits.{has}
use Rattle.bc_bits.specs.Counting.{one_if}
use Rattle.bc_bits.proofs.BitLemmas.{has-zeros, has-beyond}
use Rattle.bc_memory.specs.Memory.{Cell}
use Rattle.bc_superpages.specs.declared.headers.Header.{Header}
use Rattle.bc_superpages.specs.declared.headers.PageState.TheVariants.{Home, Remembered}
use Rattle.bc_superpages.specs.Headers.{unused_header}
use Rattle.bc_superpages.specs.Layout.{Layout, set_of, is_cell}
use Rattle.bc_superpages.specs.LayoutAt.{IsAllocated}
use Rattle.bc_superpages.specs.Memory.{memory}
use Rattle.bc_superpages.specs.Calls.{new_space}
use Rattle.bc_superpages.proofs.CellLemmas.{is_cell-bit}
use Rattle.bc_superpages.proofs.MemoryLemmas.{memory_of-none}
use Rattle.bc_bookmarks.proofs.SoundLemmas.{sound-opening}
use Rattle.bc_pins.specs.declared.key.Role.{Role}
use Rattle.bc_pins.specs.declared.key.Role.TheVariants.{Lane}
use Rattle.bc_pins.specs.declared.pins.Seat.{Seat}
use Rattle.bc_pins.specs.declared.views.View.{View}
use Rattle.bc_pins.specs.Key.{Key, role_number}
use Rattle.bc_pins.specs.Totals.{total, times, sum_to}
use Rattle.bc_pins.specs.Tidy.{IsTidy}
use Rattle.bc_pins.specs.Views.{has_role}
use Rattle.bc_pins.specs.Steps.{Mine, fresh}
use Rattle.bc_pins.specs.Opening.{IsOpenable, IsReady}
use Rattle.bc_pins.specs.Seating.{IsDealt, AreDealt}
use Rattle.bc_pins.specs.Calls.{view_of}
use Rattle.bc_pins.specs.Closing.{IsBack, AreBack}
use Rattle.bc_pins.proofs.TotalLemmas.{one_other, one_few}
use Rattle.bc_pins.proofs.SumLemmas.{sum_same, total_sum, times_total, total_map}

pub clash : false ≡ true → ⊥
clash e = cc

none_some : (c : Cell) → None ≡ Some c → ⊥
none_some c e = cc

dealt_is_back : (id : TableId) (k : Key) (role : Role) (seat : Seat) → IsDealt id k role seat → IsBack id k seat
dealt_is_back id k role seat d =
    let view : view_of seat ≡ fresh k (role_number role ∷ []) = ap (λ (m : Mine). m.0) d.me in
    record {
      table = d.table;
      about = ap (λ (v : View). v.about) view;
      hand = ap (λ (v : View). v.hand) view;
      slots = ap (λ (m : Mine). m.1) d.me;
      rights = ap (λ (v : View). v.rights) view;
      opens = (let none = ap (λ (v : View). length v.fetched) view in let were = d.opens in omega arith);
      tidy = subst IsTidy (sym view) (λ p _. refl);
    }

-- the seats of a table with which nothing was done may come back
pub dealt_back : (id : TableId) (k : Key) (roles : List Role) (seats : List Seat) → AreDealt id k roles (length roles) seats → 0 < length roles → k.roles ≡ map role_number roles → AreBack id k seats
dealt_back id k roles seats dealt some roles_are =
    let long = dealt.long in
    record {
      some = omega arith;
      each = λ j lt d. dealt_is_back id k _ _ (dealt.each j (omega arith) d);
      roles = λ r. sums r seats long dealt.each ∙ sym (ap (times r) roles_are);
    }
  where
    sums : (r : ℕ) (ss : List Seat) → length ss ≡ length roles → ((j : ℕ) → j < length roles → (d : Seat) → IsDealt id k (get_or roles j (Lane 0)) (get_or ss j d))
        → total (λ (s : Seat). has_role (view_of s) r) ss ≡ times r (map role_number roles)
    sums r [] size each = absurd (omega arith)
    sums r (s ∷ ss) size each =
        let f : Seat → ℕ = λ x. has_role (view_of x) r in
        let g : Role → ℕ = λ x. one_if (role_number x == r) in
        total_sum f (s ∷ ss) s
        ∙ ap (sum_to (λ i. f (get_or (s ∷ ss) i s))) size
        ∙ sum_same (λ i. f (get_or (s ∷ ss) i s)) (λ i. g (get_or roles i (Lane 0))) (length roles)
        (λ i lt. ap (λ (m : Mine). has_role m.0 r) (each i lt s).me ∙ omega arith)
        ∙ sym (total_sum g roles (Lane 0)) ∙ sym (total_map role_number (λ n. one_if (n == r)) roles) ∙ sym (times_total r (map role_number roles))

-- two roles that aren't the same
pub two_apart : (a b : ℕ) → a ≢ b → (r : ℕ) → times r (a ∷ b ∷ []) ≤ 1
two_apart a b ne r = elim (cases_eq a r) [
  | inl e ↦ let c = one_other b r (λ f. ne (e ∙ sym f)) in let d = one_few (a == r) in omega arith
  | inr other ↦ let c = one_other a r other in let d = one_few (b == r) in omega arith
]

-- a space without cells is ready
pub bare_ready : (s : Layout) → ((q b : ℕ) → has (set_of s.cells q) b ≡ false) → ((a : ℕ) → is_cell s.classes s.promised a ≡ false) → IsReady s
bare_ready s none_has promised =
    let bare : (a : ℕ) → IsAllocated s a → ⊥ = λ a there. clash (sym (none_has _ _) ∙ is_cell-bit s.classes s.cells a there) in
    record {
      closed = λ a c found k lt. absurd (no_object a c found);
      promised = promised;
      young = λ p y. absurd (bare y.cell y.is.allocated);
    }
  where
    no_object : (a : ℕ) (c : Cell) → memory s a ≡ Some c → ⊥
    no_object a c found = elim (cases_Bool (is_cell s.classes s.cells a)) [
      | inl there ↦ clash (sym (none_has _ _) ∙ is_cell-bit s.classes s.cells a there)
      | inr none_there ↦ none_some c (sym (memory_of-none s.classes s.cells s.pages a none_there) ∙ found)
    ]

pub set_bare : (f : Header → List ℕ) (n q b : ℕ) → f unused_header ≡ replicate 16 0 → has (set_of (map f (replicate n unused_header)) q) b ≡ false
set_bare f zero q b e = has-beyond [] b (omega arith)
set_bare f (suc n) zero b e = ap (λ (ws : List ℕ). has ws b) e ∙ has-zeros 16 b
set_bare f (suc n) (suc q) b e = set_bare f n q b e

-- a new space is ready
pub opening_ready : (n f y : ℕ) → IsReady (new_space n f y)
opening_ready n f y =
    let s : Layout = new_space n f y in
    bare_ready s (λ q b. set_bare (λ (h : Header). h.cells) n q b refl)
    (λ a. elim (cases_Bool (is_cell s.classes s.promised a)) [
      | inl there ↦ absurd (clash (sym (set_bare (λ (h : Header). h.promised) n _ _ refl) ∙ is_cell-bit s.classes s.promised a there))
      | inr none_there ↦ none_there
    ])

home_clash : Home ≡ Remembered → ⊥
home_clash e = cc

-- a table may be opened over a new space
pub opening_openable : (n f y : ℕ) → IsOpenable (new_space n f y)
opening_openable n f y =
    let ready = opening_ready n f y in
    let sound = (sound-opening n f).0 in
    record {
      summarised = record { bits = sound.bits; there = sound.there; targets = sound.targets; incoming = sound.incoming };
      closed = ready.closed;
      promised = ready.promised;
      home = λ p e young. home_clash (sym e ∙ ready.young p young);
    }
