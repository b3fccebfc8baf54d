-- Pages that come back to be read: what stays of a space, and that room can be made.
use Rattle.std.proofs.Common.{◌≡◌, ◌≢◌, ℕ, ◌%◌, true, false, get_or, refl, sym, ap, subst, ◌∙◌, arith}
use Rattle.bc_superpages.specs.declared.headers.PageState.{PageState}
use Rattle.bc_superpages.specs.declared.headers.PageState.TheVariants.{Absent, Home, Remembered, Held, Gone}
use Rattle.bc_superpages.specs.Headers.{is_resident}
use Rattle.bc_superpages.specs.Kept.{IsLayout}
use Rattle.bc_superpages.specs.Layout.{Layout, superpages, is_cell}
use Rattle.bc_superpages.specs.LayoutAt.{state_at, states_of, word_at, IsAllocated}
use Rattle.bc_superpages.specs.Memory.{memory}
use Rattle.bc_superpages.specs.Calls.{class_at}
use Rattle.bc_superpages.proofs.CellLemmas.{is_cell-bit}
use Rattle.bc_superpages.proofs.HandLemmas.{allocated-object, allocated-is_class, allocated-superpage}
use Rattle.bc_word.specs.Addresses.{superpage_of, page_of, cell_number}
use Rattle.bc_word.specs.Heads.{head_of_bits}
use Rattle.bc_word.specs.HeadBits.{FitsHead}
use Rattle.bc_word.proofs.AddressLemmas.{page_of-number, page_of-superpage}
use Rattle.bc_word.proofs.HeadLemmas.{FitsHead-head_of_bits}
use Rattle.bc_bookmarks.specs.Targets.{NamesCells}
use Rattle.bc_bookmarks.specs.Moves.{MovesPages, CanMakeRoom}
use Rattle.bc_picture.specs.Readable.{CanBeRead}

-- pages moved: what is listed is the same, and it can be read still
pub moved-memory : (s t : Layout) → MovesPages s t → memory t ≡ memory s
moved-memory s t h = ap memory h.same

pub moved-superpages : (s t : Layout) → MovesPages s t → superpages t ≡ superpages s
moved-superpages s t h = ap superpages h.same

pub moved-read : (s t : Layout) → MovesPages s t → CanBeRead s → CanBeRead t
moved-read s t h k = record {
  calm = record {
    promised = λ x. ap (λ (l : Layout). is_cell l.classes l.promised x) h.same ∙ k.calm.promised x;
    remembered = λ p is. k.calm.remembered p ((h.remembered p).0 is);
  };
  summarised = h.summarised;
  frames = let n : t.nursery ≡ s.nursery = ap (λ (l : Layout). l.nursery) h.same in let f : t.frames ≡ s.frames = ap (λ (l : Layout). l.frames) h.same in let le = k.frames in omega arith;
  names = λ p. subst (λ (l : Layout). NamesCells l p) (sym h.same) (k.names p);
}

pub moved-then : (s t u : Layout) → MovesPages s t → MovesPages t u → MovesPages s u
moved-then s t u h k = record {
  same = k.same ∙ ap (λ (l : Layout). record l { states = u.states; free = u.free; bookmarks = u.bookmarks; incoming = u.incoming; reads = u.reads }) h.same;
  remembered = λ p. (λ e. (h.remembered p).0 ((k.remembered p).0 e), λ e. (k.remembered p).1 ((h.remembered p).1 e));
  summarised = k.summarised;
}

pub makes-room : (s : Layout) → CanBeRead s → CanMakeRoom s
makes-room s k = record {
  remembered = λ p _. k.calm.remembered p;
  promised = λ p _ _ x on. absurd (let off = k.calm.promised x in let bad : true ≡ false = sym on ∙ off in cc);
  frames = k.frames;
}

-- a page that is neither Absent nor Gone is resident
pub is-here : (x : PageState) → x ≢ Absent → x ≢ Held → x ≢ Remembered → x ≢ Gone → is_resident x ≡ true
is-here Absent absent held remembered gone = absurd (absent refl)
is-here Home absent held remembered gone = refl
is-here Remembered absent held remembered gone = refl
is-here Held absent held remembered gone = absurd (held refl)
is-here Gone absent held remembered gone = absurd (gone refl)

pub home-here : (x : PageState) → x ≡ Home → is_resident x ≡ true
home-here x is = ap is_resident is

-- the page of an allocated cell has content
pub allocated-there : (s : Layout) (a : ℕ) → IsLayout s → IsAllocated s a → state_at s.states (page_of a) ≢ Absent
allocated-there s a k on =
    let is_class = allocated-is_class s a k on in
    let there = (k.each (superpage_of a) (allocated-superpage s a k on)).not_absent (cell_number (class_at s a) a) (is_cell-bit s.classes s.cells a on) in
    λ e. there (ap (λ (i : ℕ). get_or (states_of s.states (superpage_of a)) i Absent) (page_of-number (class_at s a) a is_class) ∙ ap (λ (q : ℕ). get_or (states_of s.states q) (page_of a % 4) Absent) (page_of-superpage a) ∙ e)

-- an object's head fits
pub head-fits : (s : Layout) (a : ℕ) → IsLayout s → IsAllocated s a → FitsHead (head_of_bits (word_at s.pages a))
head-fits s a k on = FitsHead-head_of_bits (word_at s.pages a) (allocated-object s a k on).packed
