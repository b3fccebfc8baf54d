-- What a lane has at the opening of a turn belongs to the whole heap with every page back.
use Rattle.std.proofs.Common.{◌≡◌, ℕ, ◌<◌, ◌==◌, List, get_or, None, refl, ap, sym, subst, ◌∙◌, arith}
use Rattle.bc_bits.specs.Counting.{one_if}
use Rattle.bc_lane.specs.Back.{all_back, back_state, heap_back}
use Rattle.bc_lane.specs.Shown.{ShowsPage}
use Rattle.bc_lane.specs.Turns.{IsWhole, SlotsOf}
use Rattle.bc_lane.specs.declared.parts.LanePart.{LanePart}
use Rattle.bc_model.specs.State.{State}
use Rattle.bc_mutator.specs.Objects.{MayOperate, own_chunk}
use Rattle.bc_pins.specs.Key.{Key}
use Rattle.bc_pins.specs.Steps.{fresh}
use Rattle.bc_pins.specs.Views.{opened_state, opened_word, state_word}
use Rattle.bc_superpages.specs.declared.headers.PageState.{PageState}
use Rattle.bc_superpages.specs.declared.headers.PageState.TheVariants.{Absent, Gone, Held, Home, Remembered}
use Rattle.bc_superpages.specs.Kept.{IsLayout}
use Rattle.bc_superpages.specs.Layout.{Layout, content_at}
use Rattle.bc_whole_heap.specs.Closed.{buffer_of}
use Rattle.bc_whole_heap.specs.Heaps.{HeapView, end_of}
use Rattle.bc_whole_heap.specs.LaneStates.{StandsAs}
use Rattle.bc_lane.proofs.BackLemmas.{back-gone, back-operate, back-stands, back-state, remembered-to}

pub remembered-word : (s : PageState) → 0 < one_if (state_word s == 2) → s ≡ Remembered
remembered-word Absent lt = absurd (omega arith)
remembered-word Home lt = absurd (omega arith)
remembered-word Remembered lt = refl
remembered-word Held lt = absurd (omega arith)
remembered-word Gone lt = absurd (omega arith)

-- a page is Remembered where it was so, with every page back
opened-page : (k : Key) (roles : List ℕ) (page : ℕ) → ShowsPage (fresh k roles) (all_back k.opening) page
opened-page k roles page = record {
  content = refl;
  remembered = (
    λ is.
        let two : opened_word k page ≡ 2 = ap state_word (remembered-to (opened_state k page) (sym (back-state k.opening page) ∙ is)) in
        let one : one_if (opened_word k page == 2) ≡ 1 = ap (λ (n : ℕ). one_if (n == 2)) two in
        omega arith,
    λ lt. back-state k.opening page ∙ ap back_state (remembered-word (opened_state k page) (omega arith)),
  );
  here = back-gone k.opening page;
}

pub opened-whole : (k : Key) (roles : List ℕ) (part : LanePart) (h : HeapView) → k.opening ≡ h.space → MayOperate h part.holders.items part.lane
    → ((serials : List ℕ) × (state : State) × StandsAs h part.holders.items serials state × (get_or serials part.lane 0 ≡ part.serial))
    → SlotsOf part h.roots → own_chunk h part.lane ≡ part.chunk → buffer_of h.buffers part.lane ≡ part.buffer → IsWhole part (fresh k roles) None (end_of h.space) (heap_back h)
opened-whole k roles part h e ready stands roots chunk buffer = record {
  ready = back-operate h part.holders.items part.lane ready;
  stands = (stands.0, stands.1, back-stands h part.holders.items stands.0 stands.1 ready.running stands.2, stands.3);
  belongs = record {
    space = record {
      same = ap (λ (s : Layout). record s { states = (all_back h.space).states; pages = h.space.pages; incoming = (all_back h.space).incoming }) (sym e);
      end_is = refl;
      opening = subst IsLayout (sym e) ready.layout;
      others = λ page own none. subst (λ (s : Layout). ShowsPage (fresh k roles) (all_back s) page) e (opened-page k roles page);
      frozen = λ page is none. ap (λ (o : Layout). content_at o.pages page) (sym e);
      in_hand = tt;
    };
    roots = roots;
    chunk_is = chunk;
    buffer_is = buffer;
  };
}
