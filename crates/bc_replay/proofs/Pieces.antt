-- The texts of phases, one after another.
use Rattle.std.proofs.Common.{◌≡◌, ℕ, ◌+◌, suc, ◌<◌, ◌≤◌, List, [], ◌∷◌, ◌++◌, length, take, drop, get_or, refl, ap, ◌∙◌, append-nil, arith, take-append-drop, length-append, subst, Option}
use Rattle.std.proofs.lemmas.List.{take_more, length-take-le}
use Rattle.bc_io.specs.Faults.{Rose}
use Rattle.bc_io.specs.Told.{HasRoom, HeldGrows, IsPrefix}
use Rattle.bc_io.specs.Pieces.{RoomFalls, TakesFront}
use Rattle.bc_io.proofs.Telling.{HasRoom-less, HasRoom-rest, HeldGrows-more}
use Rattle.bc_replay.specs.Endings.{WritesFront, WritesFrontAfter}
use Rattle.bc_model.specs.Lists.{PhaseLists}
use Rattle.bc_model.specs.Run.{after_phase, after_phases, replies_of_phases, replies_to_lanes}
use Rattle.bc_model.specs.State.{State}
use Rattle.bc_trace.specs.Replies.{phase_text, phases_text}
use Rattle.bc_trace.proofs.Texts.{phases_text-append}
use Rattle.bc_churn.proofs.ChurnNeed.{after_phases-append}
use Rattle.bc_replay.specs.Output.{texts_from}

pub replies-append : (s : State) (ps qs : List PhaseLists) → replies_of_phases s (ps ++ qs) ≡ replies_of_phases s ps ++ replies_of_phases (after_phases s ps) qs
unfolding after_phases replies_of_phases
replies-append s [] qs = refl
replies-append s (p ∷ ps) qs = ap (λ rs. replies_to_lanes s 0 p.lanes ∷ rs) (replies-append (after_phase s p) ps qs)

pub length-replies : (s : State) (ps : List PhaseLists) → length (replies_of_phases s ps) ≡ length ps
unfolding replies_of_phases
length-replies s [] = refl
length-replies s (p ∷ ps) = ap suc (length-replies (after_phase s p) ps)

-- phases and then one more
pub texts-more : (m : ℕ) (s : State) (ps : List PhaseLists) (p : PhaseLists) (n : ℕ) → n ≡ m + length ps
    → texts_from m s (ps ++ p ∷ []) ≡ texts_from m s ps ++ phase_text n (replies_to_lanes (after_phases s ps) 0 p.lanes)
unfolding texts_from replies_of_phases phases_text
texts-more m s ps p n e =
    let r = replies_to_lanes (after_phases s ps) 0 p.lanes in
    ap (phases_text m) (replies-append s ps (p ∷ []))
    ∙ phases_text-append m (replies_of_phases s ps) (r ∷ [])
    ∙ ap (λ t. phases_text m (replies_of_phases s ps) ++ t) (append-nil (phase_text (m + length (replies_of_phases s ps)) r))
    ∙ ap (λ l. phases_text m (replies_of_phases s ps) ++ phase_text l r) (omega (arith, length-replies s ps, e))

-- the texts of some phases are a prefix of those of these phases and more
pub texts-front : (m : ℕ) (s : State) (ps qs : List PhaseLists) → IsPrefix (texts_from m s ps) (texts_from m s (ps ++ qs))
unfolding texts_from
texts-front m s ps qs = (
  phases_text (m + length (replies_of_phases s ps)) (replies_of_phases (after_phases s ps) qs),
  ap (phases_text m) (replies-append s ps qs) ∙ phases_text-append m (replies_of_phases s ps) (replies_of_phases (after_phases s ps) qs),
)

-- the texts of phases are those of the first ones, and then those of the others from the state after these
pub texts-split : (m : ℕ) (s : State) (ps : List PhaseLists) (k : ℕ) → k ≤ length ps
    → texts_from m s ps ≡ texts_from m s (take k ps) ++ texts_from (m + k) (after_phases s (take k ps)) (drop k ps)
unfolding texts_from
texts-split m s ps k few =
    let front : List PhaseLists = take k ps in
    let rest : List PhaseLists = drop k ps in
    subst (λ qs. texts_from m s qs ≡ texts_from m s front ++ texts_from (m + k) (after_phases s front) rest) (take-append-drop k ps)
    (ap (phases_text m) (replies-append s front rest)
    ∙ phases_text-append m (replies_of_phases s front) (replies_of_phases (after_phases s front) rest)
    ∙ ap (λ n. texts_from m s front ++ phases_text n (replies_of_phases (after_phases s front) rest)) (omega (arith, length-replies s front, length-take-le k ps few)))

pub texts-none : (m : ℕ) (s : State) → texts_from m s [] ≡ []
unfolding texts_from replies_of_phases phases_text
texts-none m s = refl

-- the step of a loop over phases: the texts so far, and then that of the phase at i
pub texts-step : (first : ℕ) (s : State) (ps : List PhaseLists) (i : ℕ) (d : PhaseLists) → i < length ps
    → texts_from (first + 1) s (take (i + 1) ps)
    ≡ texts_from (first + 1) s (take i ps) ++ phase_text (i + first + 1) (replies_to_lanes (after_phases s (take i ps)) 0 (get_or ps i d).lanes)
texts-step first s ps i d lt =
    let few : i ≤ length ps = omega arith in
    ap (texts_from (first + 1) s) (take_more ps i d lt) ∙ texts-more (first + 1) s (take i ps) (get_or ps i d) (i + first + 1) (omega (arith, length-take-le i ps few))

pub state-step : (s : State) (ps : List PhaseLists) (i : ℕ) (d : PhaseLists) → i < length ps
    → after_phases s (take (i + 1) ps) ≡ after_phase (after_phases s (take i ps)) (get_or ps i d)
unfolding after_phases
state-step s ps i d lt =
    ap (after_phases s) (take_more ps i d lt) ∙ after_phases-append s (take i ps) (get_or ps i d ∷ [])

-- the texts of the first phases are a prefix of those of all
pub texts_before-front : (m : ℕ) (s : State) (ps : List PhaseLists) (i : ℕ) → IsPrefix (texts_from m s (take i ps)) (texts_from m s ps)
texts_before-front m s ps i = subst (λ qs. IsPrefix (texts_from m s (take i ps)) (texts_from m s qs)) (take-append-drop i ps) (texts-front m s (take i ps) (drop i ps))

pub state-none : (s : State) → s ≡ after_phases s []
unfolding after_phases
state-none s = refl

pub IsPrefix-length : (xs ys : List ℕ) → IsPrefix xs ys → length xs ≤ length ys
IsPrefix-length xs ys p = omega (arith, ap length p.1, length-append xs p.0)

-- the room that is left holds the next text
pub room-for-next : (a b : Option ℕ) (xs ys whole : List ℕ) → HasRoom a (length whole) → RoomFalls a b (length xs) → IsPrefix (xs ++ ys) whole → HasRoom b (length ys)
room-for-next a b xs ys whole room falls p =
    let few : length xs + length ys ≤ length whole = omega (arith, IsPrefix-length (xs ++ ys) whole p, length-append xs ys) in
    HasRoom-rest a b (length xs) (length ys) (HasRoom-less a (length xs + length ys) (length whole) few room) falls

-- what was written, and then a prefix of the next text
pub front-behind : (a b c : Option (List ℕ)) (xs ys : List ℕ) → HeldGrows a b xs → WritesFront b c ys → WritesFrontAfter a c xs ys
front-behind a b c xs ys held w = record {
  front = w.front;
  is_front = w.is_front;
  not_all = w.not_all;
  written = HeldGrows-more a b c xs w.front held w.written;
}

-- a count rose, and nothing was counted before
pub Rose-since : (a b c : ℕ) → b ≡ a → Rose b c → Rose a c
Rose-since a b c same rose = subst (λ n. Rose n c) same rose

-- what a failed write took is a prefix, and not all
pub front-taken : (a b : Option (List ℕ)) (k l : Option ℕ) (xs : List ℕ) → TakesFront a b k l xs → WritesFront a b xs
front-taken a b k l xs t = record {
  front = t.taken;
  is_front = (t.rest, t.whole);
  not_all = omega (arith, ap length t.whole, length-append t.taken t.rest, t.not_all);
  written = t.grows;
}
