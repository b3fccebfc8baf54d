-- A run that begins with no hint taken and no answer kept, and what is said of one by its status.
use Rattle.std.proofs.Common.{◌≡◌, ◌∙◌, ℕ, List, [], length, Option, Some, subst}
use Rattle.bc_engine.specs.Engines.{EngineView}
use Rattle.bc_feed.specs.Ends.{taken_of}
use Rattle.bc_feed.specs.declared.ends.Taker.{Taker}
use Rattle.bc_model.specs.Lists.{TraceLists}
use Rattle.bc_pager.specs.Serving.{numbered}
use Rattle.bc_pager.specs.declared.answers.Answer.{Answer}
use Rattle.bc_live.specs.Runs.{HasFed}
use Rattle.bc_replay.specs.Outcomes.{ReadAsTrace}
use Rattle.bc_live.specs.Feeds.{FedLive, FedTrace, RunsFed}
use Rattle.bc_live.specs.Statuses.{IfRan}
use Rattle.bc_live.specs.declared.status.LiveStatus.{LiveStatus}
use Rattle.bc_live.specs.declared.status.LiveStatus.TheVariants.{Done, BadWords, BadTrace, TooLong, ReadFault, WriteFault, OutOfHeap, NoMemory}
use Rattle.bc_live.specs.declared.words.LiveWords.{LiveWords}
use Rattle.bc_pager.proofs.NumberLemmas.{numbered-long}

-- what such a run took and answered, where there are as many answers as notices
pub fed_from_none : (t : TraceLists) (workers : ℕ) (before : List ℕ) (taker : Taker) (kept answers : List Answer) (heap : Option EngineView)
    → before ≡ [] → kept ≡ [] → length answers ≡ length (numbered 0 (taken_of taker))
    → RunsFed t workers (Some (numbered 0 before)) (Some (numbered 0 (taken_of taker))) kept answers heap → HasFed t workers taker answers heap
fed_from_none t workers before taker kept answers heap fresh none even fed = record {
  even = even ∙ numbered-long 0 (taken_of taker);
  fed = subst (λ k. RunsFed t workers (Some []) (Some (numbered 0 (taken_of taker))) k answers heap) none
      (subst (λ b. RunsFed t workers (Some (numbered 0 b)) (Some (numbered 0 (taken_of taker))) kept answers heap) fresh fed);
}

-- what holds anyway is said of a status
pub ran-so : (st : LiveStatus) (P : Type 0) → P → IfRan st P
ran-so Done P h = h
ran-so BadWords P h = tt
ran-so (BadTrace line cause) P h = tt
ran-so TooLong P h = tt
ran-so ReadFault P h = tt
ran-so WriteFault P h = h
ran-so (OutOfHeap need) P h = h
ran-so NoMemory P h = tt

-- what such a run took and answered, of a trace that was read
pub fed-live : (st : LiveStatus) (left left' : Option (List ℕ)) (t : TraceLists) (workers : ℕ) (taken : List ℕ) (answers : List Answer) (heap : Option EngineView)
    → ReadAsTrace left left' t → IfRan st (FedTrace t workers taken answers heap) → IfRan st (FedLive left left' workers taken answers heap)
fed-live Done left left' t workers taken answers heap read h = record { trace = t; read = read; fed = h }
fed-live BadWords left left' t workers taken answers heap read h = tt
fed-live (BadTrace line cause) left left' t workers taken answers heap read h = tt
fed-live TooLong left left' t workers taken answers heap read h = tt
fed-live ReadFault left left' t workers taken answers heap read h = tt
fed-live WriteFault left left' t workers taken answers heap read h = record { trace = t; read = read; fed = h }
fed-live (OutOfHeap need) left left' t workers taken answers heap read h = record { trace = t; read = read; fed = h }
fed-live NoMemory left left' t workers taken answers heap read h = tt

-- the same with the workers that were asked for
pub fed-asked : (st : LiveStatus) (left left' : Option (List ℕ)) (t : TraceLists) (found asked : LiveWords) (taken : List ℕ) (answers : List Answer) (heap : Option EngineView)
    → found ≡ asked → ReadAsTrace left left' t → IfRan st (FedTrace t found.workers taken answers heap) → IfRan st (FedLive left left' asked.workers taken answers heap)
fed-asked st left left' t found asked taken answers heap same read h =
    subst (λ (w : LiveWords). IfRan st (FedLive left left' w.workers taken answers heap)) same (fed-live st left left' t found.workers taken answers heap read h)
