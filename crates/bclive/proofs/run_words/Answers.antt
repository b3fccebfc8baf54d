use Rattle.std.proofs.Common.{◌≡◌, ◌⊎◌, ◌∙◌, ℕ, [], List, None, ap, map, refl, subst, sym}
use mathlib.Core.List.{IsPrefix}
use Rattle.bc_feed.specs.Drawn.{hints_from}
use Rattle.bc_live.specs.declared.words.LiveWords.{LiveWords}
use Rattle.bc_live.specs.Feeds.{FedLive}
use Rattle.bc_live.specs.Words.{IsLiveWords}
use Rattle.bclive.proofs.run_words.Goals as goal

pub returns-in_default-clause-handed : goal.returns-in_default-clause-handed
returns-in_default-clause-handed g c = λ asked is.
    subst (λ (xs : List ℕ). IsPrefix xs (hints_from asked.start asked.count)) (sym c.unfed.ensures.none.0) (hints_from asked.start asked.count, refl)

pub returns-in_default-live_words_of-clause-handed : goal.returns-in_default-live_words_of-clause-handed
returns-in_default-live_words_of-clause-handed g c = λ asked is.
    subst (λ (xs : List ℕ). IsPrefix xs (hints_from asked.start asked.count)) (sym c.unfed-in_default-live_words_of.ensures.none.0) (hints_from asked.start asked.count, refl)

pub returns-clause-fed : goal.returns-clause-fed
returns-clause-fed g c =
    subst (λ (ws : List (List ℕ)). (c.live.result.answers.items ≡ []) ⊎ ((asked : LiveWords) × IsLiveWords ws asked × FedLive None None asked.workers c.live.result.taken.items c.live.result.answers.items c.live.result.heap))
    (ap (map (λ w. w.now)) c.deref-2.ensures.value ∙ c.in-Ok.ensures) c.live.ensures.fed
