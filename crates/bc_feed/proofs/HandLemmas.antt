-- What a feeder has in its hands.
use Rattle.std.proofs.Common.{◌≡◌, ℕ, ◌+◌, ◌≤◌, List, [], ◌∷◌, ◌++◌, Option, Some, length, ap, sym, ◌∙◌, append_assoc, arith}
use Rattle.std.proofs.lemmas.List.{length-append}
use Rattle.bc_feed.specs.Accounts.{listed}
use Rattle.bc_feed.specs.Ends.{HasHandedIn}

-- where a hint waits there is room for it among those that are pushed
pub room_for_waiting : (handed sent : List ℕ) (waiting : Option ℕ) (hint most all : ℕ) → handed ≡ sent ++ listed waiting → waiting ≡ Some hint → length handed ≤ most → most ≡ all → length sent + 1 ≤ all
room_for_waiting handed sent waiting hint most all given waits few same =
    let whole : length handed ≡ length (sent ++ hint ∷ []) = ap length (given ∙ ap (λ w. sent ++ listed w) waits) in
    let long = length-append sent (hint ∷ []) in
    omega arith

-- more is handed in, and then more
pub more_handed : (a b c coming between rest : List ℕ) → HasHandedIn a coming b between → HasHandedIn b between c rest → HasHandedIn a coming c rest
more_handed a b c coming between rest x y = record {
  more = x.more ++ y.more;
  given = x.given ∙ ap (λ l. x.more ++ l) y.given ∙ sym (append_assoc x.more y.more rest);
  kept = y.kept ∙ ap (λ l. l ++ y.more) x.kept ∙ append_assoc a x.more y.more;
}

-- what was handed in at first, and then beside a run, is the beginning of what the feed had at first
pub handed_whole : (a b coming between rest : List ℕ) → a ++ between ≡ coming → HasHandedIn a between b rest → b ++ rest ≡ coming
handed_whole a b coming between rest first x = ap (λ l. l ++ rest) x.kept ∙ append_assoc a x.more rest ∙ ap (λ l. a ++ l) (sym x.given) ∙ first

-- it only grows
pub handed_longer : (a b coming rest : List ℕ) → HasHandedIn a coming b rest → length a ≤ length b
handed_longer a b coming rest x =
    let same : length b ≡ length (a ++ x.more) = ap length x.kept in
    let long = length-append a x.more in
    omega arith
