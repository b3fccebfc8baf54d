-- What the tests' lane, pager and space need.
use Rattle.std.proofs.Common.{◌≡◌, ℕ, ◌+◌, ◌*◌, ◌/◌, ◌<◌, ◌≤◌, true, false, inl, inr, List, [], ◌∷◌, length, map, set, get_or, slice_index, refl, ap, sym, subst, ◌∙◌, arith, get_or-set_same, get_or-set_other}
use Rattle.std.proofs.lemmas.Bool.{cases_eq, cases_lt, and_left}
use Rattle.std.proofs.lemmas.List.{get_or_past}
use Rattle.bc_bits.specs.Bits.{has}
use Rattle.bc_bits.specs.BitChanges.{none_set}
use Rattle.bc_bits.proofs.BitLemmas.{has-beyond, has-none_set}
use Rattle.bc_word.specs.declared.words.Word.{Word}
use Rattle.bc_word.specs.declared.words.Word.TheVariants.{Nil, Num, Ref}
use Rattle.bc_word.specs.declared.addresses.Address.{Address}
use Rattle.bc_word.specs.Words.{word_of_bits}
use Rattle.bc_word.specs.Heads.{fields_of_bits}
use Rattle.bc_word.specs.Addresses.{superpage_of, page_of, offset_of, cell_number}
use Rattle.bc_superpages.specs.Layout.{Layout, superpages, set_of, content_at, is_cell}
use Rattle.bc_superpages.specs.LayoutAt.{IsAllocated, word_at}
use Rattle.bc_superpages.specs.Calls.{fields_at, new_space}
use Rattle.bc_superpages.specs.Kept.{IsLayout}
use Rattle.bc_bookmarks.specs.Targets.{is_target, HasCell}
use Rattle.bc_bookmarks.proofs.SoundLemmas.{IsSound, sound-opening}
use Rattle.bc_pins.specs.declared.views.View.{View}
use Rattle.bc_pins.specs.declared.pins.Pins.{Pins}
use Rattle.bc_pins.specs.declared.pins.Seat.{Seat}
use Rattle.bc_pins.specs.declared.holding.Held.{Held}
use Rattle.bc_pins.specs.declared.taking.Want.{Want}
use Rattle.bc_pins.specs.declared.taking.Want.TheVariants.{Work}
use Rattle.bc_pins.specs.Key.{Key, owner, pages_of}
use Rattle.bc_pins.specs.Totals.{times}
use Rattle.bc_pins.specs.Contents.{IsContent, RefersYoung, IsYoung, field_bits, objects_in}
use Rattle.bc_pins.specs.Views.{has_role}
use Rattle.bc_pins.specs.Steps.{Takes}
use Rattle.bc_pins.specs.Opening.{IsOpenable, IsMarkable}
use Rattle.bc_pins.specs.Calls.{key_of, view_of, IsAt, Grasps, HoldsPage, MayPut, tried}
use Rattle.bc_pins.proofs.CallerLemmas.{opening_openable}
use Rattle.bc_pins.proofs.TallyLemmas.{target_in}
use Rattle.bc_pins.proofs.VisitLemmas.{holds_taken, may_put_taken, tried_about, tried_roles, takes_tried}
use Rattle.bc_evict.specs.Objects.{HeldHasObject}
use Rattle.bc_evict.proofs.ContentLemmas.{word-target}

young-ref : (s : Layout) (w : Word) → IsYoung s w → (a : Address) × (w ≡ Ref a) × (2048 * superpages s ≤ a.0)
young-ref s Nil y = absurd y
young-ref s (Num v) y = absurd y
young-ref s (Ref a) y = (a, refl, y)

-- a page that refers to a nursery has a target there
young-target : (s : Layout) (page : ℕ) (c : List ℕ) → ((x : ℕ) → IsAllocated s x → page_of x ≡ page → slice_index c (offset_of x) ≡ word_at s.pages x) → RefersYoung s page c → (a : ℕ) × (is_target (objects_in s c) page a ≡ true) × (2048 * superpages s ≤ a)
young-target s page c heads y =
    let found = young-ref s (word_of_bits (field_bits c y.cell y.index)) y.young in
    let on = y.is.on in
    let few : fields_of_bits (slice_index c (offset_of y.cell)) ≡ fields_at s y.cell = ap fields_of_bits (heads y.cell y.is.allocated on) in
    let within = y.is.within in
    (found.0.0, word-target s page c y.cell y.index found.0.0 y.is.allocated on (omega arith) found.1, found.2)

-- a new space is one on which all calls' conditions hold, however many frames are the nurseries'
pub sound-new : (n f y : ℕ) → IsSound (new_space n f y)
sound-new n f y = let ready = opening_openable n f y in (ready.summarised, ready.closed, λ p t on. (sound-opening n f).2 p t on)

-- a space on which all calls' conditions hold is one over which a table may be opened
pub sound-openable : (s : Layout) → IsSound s → ((a : ℕ) → is_cell s.classes s.promised a ≡ false) → IsOpenable s
sound-openable s sound promised = record {
  summarised = sound.0;
  closed = sound.1;
  promised = promised;
  home = λ p _ y.
      let t = young-target s p (content_at s.pages p) (λ x _ on. ap (λ (q : ℕ). slice_index (content_at s.pages q) (offset_of x)) (sym on)) y in
      let lt = sound.2 p t.0 (sym (target_in s s.pages p t.0 (content_at s.pages p) refl) ∙ t.1) in
      let past = t.2 in
      absurd (omega arith);
}

-- sets without a bit have no cell
none-in : (s : Layout) (sets : List (List ℕ)) → length sets ≡ superpages s → ((q : ℕ) → q < superpages s → none_set (set_of sets q) ≡ true) → (a : ℕ) → is_cell s.classes sets a ≡ false
none-in s sets long none a =
    let n : ℕ = cell_number (slice_index s.classes (superpage_of a)) a in
    let off : has (set_of sets (superpage_of a)) n ≡ false = elim (cases_lt (superpage_of a) (superpages s)) [
      | inl lt ↦ has-none_set (set_of sets (superpage_of a)) n (none (superpage_of a) lt)
      | inr past ↦ ap (λ (x : List ℕ). has x n) (get_or_past sets (superpage_of a) [] (omega arith)) ∙ has-beyond [] n (omega arith)
    ] in
    and_left _ _ off

-- no cell of a superpage is promised, marked or finished
pub record IsPlainAt (s : Layout) (q : ℕ) : Type 0 where
  pub promised : none_set (set_of s.promised q) ≡ true
  pub marks : none_set (set_of s.marks q) ≡ true
  pub finished : none_set (set_of s.finished q) ≡ true

-- nor is one of the space
pub none-promised : (s : Layout) → IsLayout s → ((q : ℕ) → q < superpages s → IsPlainAt s q) → (a : ℕ) → is_cell s.classes s.promised a ≡ false
none-promised s l plain = none-in s s.promised l.long.promised (λ q lt. (plain q lt).promised)

-- a space in which nothing is marked or finished is one over which a mark turn may begin
pub none-marked : (s : Layout) → IsLayout s → ((q : ℕ) → q < superpages s → IsPlainAt s q) → IsMarkable s
none-marked s l plain = record {
  cells = λ a on. clash (sym (none-in s s.marks l.long.marks (λ q lt. (plain q lt).marks) a) ∙ on);
  closed = λ a b on leads. clash (sym (none-in s s.finished l.long.finished (λ q lt. (plain q lt).finished) a) ∙ on);
}
  where
    clash : {A : Type 0} → false ≡ true → A
    clash e = absurd cc

-- a field that became a number refers to no nursery
pub young-written : (s : Layout) (page o bits n : ℕ) (c : List ℕ) → o < length c → word_of_bits bits ≡ Num n → RefersYoung s page (set c o bits) → RefersYoung s page c
young-written s page o bits n c lt is y = record {
  cell = y.cell;
  index = y.index;
  is = y.is;
  young = elim (cases_eq (offset_of y.cell + 1 + y.index) o) [
    | inl e ↦ absurd (let z : IsYoung s (Num n) = subst (IsYoung s) (ap word_of_bits (ap (λ (i : ℕ). get_or (set c o bits) i 0) e ∙ get_or-set_same c o bits 0 lt) ∙ is) y.young in z)
    | inr ne ↦ subst (λ (i : ℕ). IsYoung s (word_of_bits i)) (get_or-set_other c o (offset_of y.cell + 1 + y.index) bits 0 ne) y.young
  ];
}

-- a page that was taken is in hand, whatever it was taken for, and may be put back as it is
module _ (pins : Pins) (old seat : Seat) (page : ℕ) (want : Want) (held : Held) (at : IsAt pins old) (g : Grasps (tried (view_of old) page want held.remembered) seat page held) where
  pub visited-held : page < pages_of (key_of pins) → HoldsPage seat held
  visited-held lt =
      holds_taken (tried (view_of old) page want held.remembered) seat page held g (subst (λ (k : Key). page < pages_of k) (sym (tried_about (view_of old) page want held.remembered ∙ at.about)) lt)

  pub visited-may-put : Takes (view_of old) page held.remembered held.homed → MayPut seat held
  visited-may-put t = may_put_taken (tried (view_of old) page want held.remembered) seat page held g (takes_tried (view_of old) page want held.remembered held.remembered held.homed t)

-- a page that a lane took and wrote may be put back
module _ (pins : Pins) (old seat : Seat) (page : ℕ) (held : Held) (c : List ℕ) (at : IsAt pins old) (g : Grasps (tried (view_of old) page Work held.remembered) seat page held) where
  abbrev v : View
  v = tried (view_of old) page Work held.remembered

  about : v.about ≡ key_of pins
  about = tried_about (view_of old) page Work held.remembered ∙ at.about

  pub may-put : Takes (view_of old) page held.remembered held.homed → IsContent (key_of pins).opening page c → (RefersYoung (key_of pins).opening page c → RefersYoung (key_of pins).opening page held.homed.page)
      → 0 < has_role (view_of old) (owner (key_of pins) page) → MayPut seat (record held { homed = record held.homed { page = c } })
  may-put t fixed young lane =
      let taken = takes_tried (view_of old) page Work held.remembered held.remembered held.homed t in
      let was = may_put_taken v seat page held g taken in
      let about_now : (view_of seat).about ≡ key_of pins = ap (λ (w : View). w.about) g.view ∙ about in
      let roles_now : (view_of seat).roles ≡ (view_of old).roles = ap (λ (w : View). w.roles) g.view ∙ tried_roles (view_of old) page Work held.remembered in
      record {
        fixed = subst (λ (k : Key). IsContent k.opening held.page c) (sym about_now) (subst (λ (p : ℕ). IsContent (key_of pins).opening p c) (sym g.is) fixed);
        young = λ y.
            let here : RefersYoung (key_of pins).opening page c = subst (λ (p : ℕ). RefersYoung (key_of pins).opening p c) g.is (subst (λ (k : Key). RefersYoung k.opening held.page c) about_now y) in
            taken.young (subst (λ (k : Key). RefersYoung k.opening page held.homed.page) (sym about) (young here));
        remembered = was.remembered;
        others = λ hand had z.
            let mine : 0 < has_role (view_of seat) (owner (view_of seat).about held.page) =
            subst (λ (l : List ℕ). 0 < times (owner (view_of seat).about held.page) l) (sym roles_now)
            (subst (λ (k : Key). 0 < has_role (view_of old) (owner k held.page)) (sym about_now) (subst (λ (p : ℕ). 0 < has_role (view_of old) (owner (key_of pins) p)) (sym g.is) lane)) in
            absurd (omega arith);
        counted = was.counted;
        marked = was.marked;
      }

-- an object on a page that was taken
pub object-in-hand : (pins : Pins) (old seat : Seat) (page cell : ℕ) (held : Held) (want : Want) → IsAt pins old → Grasps (tried (view_of old) page want held.remembered) seat page held → Takes (view_of old) page held.remembered held.homed
    → IsLayout (key_of pins).opening → IsAllocated (key_of pins).opening cell → page ≡ page_of cell → HeldHasObject (key_of pins).opening held cell
object-in-hand pins old seat page cell held want at g t kept on is = record {
  kept = kept;
  allocated = on;
  on = sym is ∙ sym g.is;
  fixed = subst (λ (p : ℕ). IsContent (key_of pins).opening p held.homed.page) (sym g.is) (subst (λ (k : Key). IsContent k.opening page held.homed.page) at.about t.fixed);
}

-- a page with an allocated cell
pub cell-there : (pins : Pins) (old : Seat) (page cell : ℕ) → IsAt pins old → IsAllocated (key_of pins).opening cell → page ≡ page_of cell → HasCell (view_of old).about.opening page
cell-there pins old page cell at on is = subst (λ (k : Key). HasCell k.opening page) (sym at.about) (cell, on, sym is)
