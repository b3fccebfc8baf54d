-- Notices that are answered where nobody works beside.
use Rattle.std.proofs.Common.{◌≡◌, ℕ, ◌+◌, ◌*◌, ◌<◌, ◌≤◌, true, false, List, [], ◌∷◌, ◌++◌, length, take, get_or, Some, inl, inr, refl, sym, ap, subst, ◌∙◌, arith, append_assoc, append-nil}
use Prim.Native.Nat.{suc}
use Rattle.std.proofs.lemmas.List.{take_all, take_more}
use Rattle.bc_bookmarks.specs.Choices.{EligibleNamesCells, GivenUp}
use Rattle.bc_bookmarks.specs.Moves.{Frees, MovesPages}
use Rattle.bc_bookmarks.specs.Summarised.{IsSummarised}
use Rattle.bc_bookmarks.specs.Targets.{RefersTo}
use Rattle.bc_bookmarks.proofs.MovingLemmas.{Frees-given, MovesPages-after, MovesPages-none}
use Rattle.bc_bookmarks.proofs.StateLemmas.{state-here}
use Rattle.bc_bookmarks.proofs.TargetLemmas.{target-refers}
use Rattle.bc_superpages.specs.Memory.{Cell, cell_at, memory}
use Rattle.bc_pager.proofs.LeavingLemmas.{leaves-none, leaves-then}
use Rattle.bc_pager.specs.Leaving.{LeavesNamed, SameObjects}
use Rattle.bc_pager.specs.Alone.{AnsweredAlone, AnsweredLeaving, ArePlainAnswers, GivesUpFor, IsPlainAnswer}
use Rattle.bc_pager.specs.declared.answers.Answer.{Answer}
use Rattle.bc_pager.specs.declared.answers.Answer.TheVariants.{Discarded, Evicted}
use Rattle.bc_pins.specs.Contents.{IsYoung, RefersYoung, field_bits}
use Rattle.bc_pins.specs.Opening.{IsOpenable}
use Rattle.bc_superpages.specs.Calls.{CanName, IsClosed, fields_at}
use Rattle.bc_superpages.specs.declared.headers.PageState.TheVariants.{Absent, Gone, Home}
use Rattle.bc_superpages.specs.Headers.{is_resident}
use Rattle.bc_superpages.specs.Kept.{IsLayout}
use Rattle.bc_superpages.specs.Layout.{Layout, content_at, is_cell, superpages}
use Rattle.bc_superpages.specs.LayoutAt.{IsAllocated, state_at}
use Rattle.bc_superpages.proofs.MemoryLemmas.{memory_of-cell}
use Rattle.bc_superpages.proofs.MoveLemmas.{memory-allocated}
use Rattle.bc_word.specs.Addresses.{offset_of, page_of}
use Rattle.bc_word.specs.declared.words.Word.{Word}
use Rattle.bc_word.specs.declared.words.Word.TheVariants.{Nil, Ref}
use Rattle.bc_word.specs.Words.{word_of_bits}
use Rattle.bc_word.proofs.WordsLemmas.{get_or-words_from, length-words_from}

-- the answer that names a page by where it is once it was given up
pub plain-given : (s t : Layout) (hint page : ℕ) (told : Answer) → IsLayout s → (page < 4 * superpages s) × GivenUp s hint page t → (state_at t.states page ≡ Gone → told ≡ Evicted page) → (state_at t.states page ≡ Absent → told ≡ Discarded page) → IsPlainAnswer s hint told t
plain-given s t hint page told k given evicted discarded = elim given.1 [
  | inl spare ↦
      let at : state_at t.states page ≡ Absent = ap (λ (x : Layout). state_at x.states page) spare.1.same ∙ state-here s page Absent k given.0 in
      subst (λ (x : Answer). IsPlainAnswer s hint x t) (sym (discarded at)) (given.0, spare.0, spare.1)
  | inr left ↦
      let at : state_at t.states page ≡ Gone = ap (λ (x : Layout). state_at x.states page) left.2.same ∙ state-here s page Gone k given.0 in
      subst (λ (x : Answer). IsPlainAnswer s hint x t) (sym (evicted at)) (given.0, left.0, left.1, left.2)
]

-- one notice more
plain-more : (s u t : Layout) (hints : List ℕ) (told : List Answer) (hint : ℕ) (answer : Answer) → ArePlainAnswers s hints told u → IsPlainAnswer u hint answer t → ArePlainAnswers s (hints ++ hint ∷ []) (told ++ answer ∷ []) t
plain-more s u t [] [] hint answer first more = (t, subst (λ (x : Layout). IsPlainAnswer x hint answer t) first more, refl)
plain-more s u t [] (a ∷ told) hint answer first more = absurd first
plain-more s u t (h ∷ hints) [] hint answer first more = absurd first
plain-more s u t (h ∷ hints) (a ∷ told) hint answer first more = (first.0, first.1, plain-more first.0 u t hints told hint answer first.2 more)

pub alone-none : (s : Layout) (hints : List ℕ) (before : List Answer) → AnsweredLeaving s (take 0 hints) before before s
alone-none s hints before = ([], sym (append-nil before), refl, leaves-none s s refl refl)

pub alone-more : (s u t : Layout) (hints : List ℕ) (n : ℕ) (before asked after : List Answer) (answer : Answer) → n < length hints → AnsweredLeaving s (take n hints) before asked u → SameObjects s u → IsPlainAnswer u (get_or hints n 0) answer t → LeavesNamed u (answer ∷ []) t → after ≡ asked ++ answer ∷ [] → AnsweredLeaving s (take (n + 1) hints) before after t
alone-more s u t hints n before asked after answer lt first same more leaves pushed =
    let told = first.0 in (
      told ++ answer ∷ [],
      pushed ∙ ap (λ (xs : List Answer). xs ++ answer ∷ []) first.1 ∙ append_assoc before told (answer ∷ []),
      subst (λ (hs : List ℕ). ArePlainAnswers s hs (told ++ answer ∷ []) t) (sym (take_more hints n 0 lt)) (plain-more s u t (take n hints) told (get_or hints n 0) answer first.2 more),
      leaves-then first.3 same leaves,
    )

pub alone-all : (s t : Layout) (hints : List ℕ) (n : ℕ) (before after : List Answer) → length hints ≤ n → AnsweredLeaving s (take n hints) before after t → AnsweredLeaving s hints before after t
alone-all s t hints n before after past first = subst (λ (hs : List ℕ). AnsweredLeaving s hs before after t) (take_all n hints past) first

pub alone-answered : (s t : Layout) (hints : List ℕ) (before after : List Answer) → AnsweredLeaving s hints before after t → AnsweredAlone s hints before after t
alone-answered s t hints before after a = (a.0, a.1, a.2)

-- as many answers as notices
pub plain-long : (s t : Layout) (hints : List ℕ) (told : List Answer) → ArePlainAnswers s hints told t → length told ≡ length hints
plain-long s t [] [] are = refl
plain-long s t [] (a ∷ told) are = absurd are
plain-long s t (h ∷ hints) [] are = absurd are
plain-long s t (h ∷ hints) (a ∷ told) are = ap suc (plain-long are.0 t hints told are.2)

-- pages move where one is given up for a hint
pub moves-given : (s t : Layout) (hint : ℕ) → IsLayout s → GivesUpFor s hint t → IsSummarised t → MovesPages s t
moves-given s t hint k (inl given) sum = MovesPages-after s t t (Frees-given s t hint given.0 k given.1 given.2) (MovesPages-none t sum)
moves-given s t hint k (inr none) sum = subst (λ (x : Layout). MovesPages s x) (sym none.1) (MovesPages-none s (subst IsSummarised none.1 sum))

pub moves-then : (s u t : Layout) → MovesPages s u → MovesPages u t → MovesPages s t
moves-then s u t h k = record {
  same = k.same ∙ ap (λ (l : Layout). record l { states = t.states; free = t.free; bookmarks = t.bookmarks; incoming = t.incoming; reads = t.reads }) h.same;
  remembered = λ p. (λ e. (h.remembered p).0 ((k.remembered p).0 e), λ e. (k.remembered p).1 ((h.remembered p).1 e));
  summarised = k.summarised;
}

-- a table may be opened over a space that pages left
openable-left : (s t : Layout) → t ≡ record s { states = t.states; free = t.free; bookmarks = t.bookmarks; incoming = t.incoming } → ((p : ℕ) → state_at t.states p ≡ Home → state_at s.states p ≡ Home) → IsSummarised t → IsClosed t → IsOpenable s → IsOpenable t
openable-left s t same home sum closed open_s = record {
  summarised = sum;
  closed = closed;
  promised = λ a. ap (λ (x : Layout). is_cell x.classes x.promised a) same ∙ open_s.promised a;
  home = λ p is young.
      let y = subst (λ (x : Layout). RefersYoung x p (content_at x.pages p)) same young in
      open_s.home p (home p is) (record { cell = y.cell; index = y.index; is = record { allocated = y.is.allocated; on = y.is.on; within = y.is.within }; young = y.young });
}

openable-freed : (s t : Layout) → Frees s t → IsSummarised t → IsClosed t → IsOpenable s → IsOpenable t
openable-freed s t frees sum closed open_s =
    openable-left s t frees.same
    (λ p home. elim (frees.pages p) [
      | inl same ↦ sym same ∙ home
      | inr left ↦ absurd (let bad : true ≡ false = sym (ap is_resident home) ∙ left.away in cc)
    ]) sum closed open_s

pub openable-given : (s t : Layout) (hint : ℕ) → IsLayout s → GivesUpFor s hint t → IsSummarised t → (IsClosed s → IsClosed t) → IsOpenable s → IsOpenable t
openable-given s t hint k (inl given) sum closed open_s = openable-freed s t (Frees-given s t hint given.0 k given.1 given.2) sum (closed open_s.closed) open_s
openable-given s t hint k (inr none) sum closed open_s = subst IsOpenable (sym none.1) open_s

-- a page that may be evicted then refers to cells alone
pub openable-named : (s : Layout) → IsOpenable s → EligibleNamesCells s
openable-named s open_s p lt can a on =
    let r = target-refers (memory s) p a on in
    elim (subst (λ (w : Word). CanName s w) r.refers (open_s.closed r.address r.object r.is r.index r.within)) [
      | inl cell ↦ inl cell
      | inr other ↦ elim other [
        | inl promised ↦ inr promised
        | inr past ↦ absurd (open_s.home p can.home (young p a r past))
      ]
    ]
  where
    young : (p a : ℕ) (r : RefersTo (memory s) p a) → 2048 * superpages s ≤ a → RefersYoung s p (content_at s.pages p)
    young p a r past =
        let allocated : IsAllocated s r.address = memory-allocated s r.address r.object r.is in
        let whole : Some r.object ≡ Some (cell_at s.pages r.address) = sym r.is ∙ memory_of-cell s.classes s.cells s.pages r.address allocated in
        let same : r.object ≡ cell_at s.pages r.address = cc in
        let long : length r.object.fields ≡ fields_at s r.address = ap (λ (c : Cell). length c.fields) same ∙ length-words_from (content_at s.pages (page_of r.address)) (offset_of r.address + 1) (fields_at s r.address) in
        let within : r.index < fields_at s r.address = let less = r.within in omega arith in
        let field : get_or r.object.fields r.index Nil ≡ word_of_bits (field_bits (content_at s.pages (page_of r.address)) r.address r.index) =
        ap (λ (c : Cell). get_or c.fields r.index Nil) same ∙ get_or-words_from (content_at s.pages (page_of r.address)) (offset_of r.address + 1) (fields_at s r.address) r.index Nil within in
        let refers : word_of_bits (field_bits (content_at s.pages p) r.address r.index) ≡ Ref (record { 0 = a }) =
        ap (λ (q : ℕ). word_of_bits (field_bits (content_at s.pages q) r.address r.index)) (sym r.on) ∙ sym field ∙ r.refers in
        record {
          cell = r.address;
          index = r.index;
          is = record { allocated = allocated; on = r.on; within = within };
          young = subst (IsYoung s) (sym refers) past;
        }
