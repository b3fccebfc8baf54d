-- An engine that was opened has made nothing, so each lane has all its births left.
use Rattle.std.proofs.Common.{◌≡◌, ℕ, ◌^◌, ◌<◌, inl, inr, List, [], length, map, replicate, get_or, sym, ap, ◌∙◌, arith}
use Rattle.std.proofs.lemmas.Bool.{cases_lt}
use Rattle.std.proofs.lemmas.List.{get_or-map, get_or_past, length-map, length-replicate}
use Rattle.bc_engine.specs.Engines.{EngineView, EngineStands}
use Rattle.bc_engine.specs.EngineFacts.{HasRoomForBirths}
use Rattle.bc_model.specs.Run.{opening}
use Rattle.bc_model.specs.State.{Object}
use Rattle.bc_model.specs.declared.traces.Setup.{Setup}
use Rattle.bc_model.proofs.Openings.{made_by-opening}

-- no lane has made anything
no_births : (lanes j : ℕ) → get_or (map length (replicate lanes (let none : List Object = [] in none))) j 0 ≡ 0
no_births lanes j =
    elim (cases_lt j lanes) [
      | inl within ↦ get_or-map length (replicate lanes []) j [] 0 (omega (arith, length-replicate {A = List Object} lanes [])) ∙ ap length (made_by-opening lanes j)
      | inr past ↦ get_or_past (map length (replicate lanes (let none : List Object = [] in none))) j 0
          (omega (arith, length-map (replicate lanes (let none : List Object = [] in none)) length, length-replicate {A = List Object} lanes []))
    ]

pub births-opened : (setup : Setup) (e : EngineView) (n : ℕ) → n < 2 ^ 32 → EngineStands e (opening setup) → HasRoomForBirths e n
births-opened setup e n small h = λ j.
    let none : get_or e.running.serials j 0 ≡ 0 = ap (λ (xs : List ℕ). get_or xs j 0) (sym h.births) ∙ no_births setup.lanes j in
    omega (arith, none)
