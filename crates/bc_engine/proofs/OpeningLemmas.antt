-- The heap that an engine begins with is ready, and stands for the opening state.
use Rattle.std.proofs.Common.{◌≡◌, ℕ, ◌*◌, ◌/◌, ◌%◌, true, false, List, [], map, get_or, replicate, refl, sym, ap, subst, ◌∙◌, inl, inr, arith}
use Prim.Native.Nat.{zero, suc}
use Rattle.std.proofs.lemmas.Bool.{cases_lt}
use Rattle.std.proofs.lemmas.List.{get_or-map, get_or_past, get_or-replicate, length-map, length-replicate}
use Rattle.bc_cycle.proofs.OpeningLemmas.{chunk-at, chunk-none, chunks-long, supers-long, no_entries, opening-running}
use Rattle.bc_model.specs.Run.{opening}
use Rattle.bc_model.specs.WellFormed.{IsSetup}
use Rattle.bc_model.specs.declared.traces.Setup.{Setup}
use Rattle.bc_nursery.specs.Entries.{Entries}
use Rattle.bc_nursery.specs.Nurseries.{Nursery}
use Rattle.bc_standing.proofs.Reading.{replicate_default}
use Rattle.bc_promotion.specs.Promises.{HasDomainsBelow}
use Rattle.bc_superpages.specs.Calls as space
use Rattle.bc_superpages.specs.LayoutAt.{state_at}
use Rattle.bc_superpages.specs.declared.headers.PageState.{PageState}
use Rattle.bc_superpages.specs.declared.headers.PageState.TheVariants.{Absent, Remembered}
use Rattle.bc_superpages.specs.declared.headers.Header.{Header}
use Rattle.bc_superpages.specs.Headers.{unused_header}
use Rattle.bc_running.proofs.StartLemmas.{opening-stands}
use Rattle.bc_running.specs.Running.{RunningView, RunningStands}
use Rattle.bc_running.specs.RunningFacts.{new_running}
use Rattle.bc_engine.specs.Engines.{HasEmptyChunks}
use Rattle.bc_engine.specs.EngineFacts.{CanRunLanes, IsUnrecorded, NoneWithheld}

-- every page is absent
none-remembered : (n p : ℕ) → state_at (map (λ (h : Header). h.pages) (replicate n unused_header)) p ≡ Remembered → ⊥
none-remembered n p e = absent_remembered (sym absent ∙ e)
  where
    absent_remembered : Absent ≡ Remembered → ⊥
    absent_remembered f = cc

    absent : get_or (get_or (map (λ (h : Header). h.pages) (replicate n unused_header)) (p / 4) []) (p % 4) Absent ≡ Absent
    absent = elim (cases_lt (p / 4) n) [
      | inl lt ↦
          ap (λ (states : List PageState). get_or states (p % 4) Absent)
          (get_or-map (λ (h : Header). h.pages) (replicate n unused_header) (p / 4) unused_header [] (omega (arith, lt, length-replicate {A = Header} n unused_header)) ∙ ap (λ (h : Header). h.pages) (get_or-replicate n (p / 4) unused_header unused_header lt))
          ∙ replicate_default 4 (p % 4) Absent
      | inr past ↦
          ap (λ (states : List PageState). get_or states (p % 4) Absent)
          (get_or_past (map (λ (h : Header). h.pages) (replicate n unused_header)) (p / 4) [] (omega (arith, past, length-map (replicate n unused_header) (λ (h : Header). h.pages), length-replicate {A = Header} n unused_header)))
    ]

-- no superpage is in use
none-used : (n f k domains : ℕ) → HasDomainsBelow (space.new_space n f k) domains
none-used n f k domains q used = absurd (false_true (sym (unused n q) ∙ used))
  where
    false_true : false ≡ true → ⊥
    false_true e = cc

    unused : (m p : ℕ) → get_or (map (λ (h : Header). h.used) (replicate m unused_header)) p false ≡ false
    unused zero p = refl
    unused (suc m) zero = refl
    unused (suc m) (suc p) = unused m p

ready-opening : (s : Setup) → IsSetup s → CanRunLanes s (new_running s)
ready-opening s range =
    let n = s.superpages in
    let nursery = s.lanes * s.nursery in
    let frames = s.frames in
    record {
      range = range;
      order = opening-running s (omega (arith, range.lanes.0));
      fits = record {
        supers = supers-long n frames nursery;
        domains = refl;
        slots = refl;
        lanes = chunks-long s;
        words = λ l lt. ap (λ (c : Nursery). c.words) (chunk-at s l lt);
        entries = λ l lt. ap (λ (b : Entries). b.capacity) (get_or-replicate s.lanes l (record { capacity = s.buffer; entries = [] }) _ lt);
        nursery = omega arith;
        two = omega (arith, range.frames.0);
        frames = refl;
        used = none-used n frames nursery s.domains;
      };
      lanes = length-replicate s.lanes 0;
      meant = (opening s, opening-stands s range);
    }

-- what is true of the engine that begins with such a heap
pub record IsOpened (s : Setup) (r : RunningView) : Type 0 where
  pub ready : CanRunLanes s r
  pub stands : RunningStands r (opening s)
  pub chunks : HasEmptyChunks r.heap
  pub unrecorded : IsUnrecorded r.heap
  pub returned : NoneWithheld s r.heap

pub opened : (s : Setup) (r : RunningView) → IsSetup s → r ≡ new_running s → IsOpened s r
opened s r range new = subst (IsOpened s) (sym new) (record {
  ready = ready-opening s range;
  stands = opening-stands s range;
  chunks = chunk-none s;
  unrecorded = record { entries = no_entries s; remembered = λ p lt. none-remembered s.superpages p };
  returned = refl;
})
