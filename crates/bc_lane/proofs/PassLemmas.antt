-- A page that a seat left as it was: it read it as Home only where it made it Gone or Absent, and didn't reload it.
use Rattle.std.proofs.Common.{◌≡◌, ◌≢◌, ℕ, ◌<◌, Bool, true, false, List, ◌∷◌, if◌then◌else◌, Option, Some, ◌⊎◌, inl, inr, refl, ap, sym, subst, ◌∙◌, arith}
use Rattle.bc_evict.specs.Reloading.{HasReloaded}
use Rattle.bc_lane.proofs.FrameLemmas.{none-home}
use Rattle.bc_lane.specs.Turns.{FindsNoFrameAtAll, HasFrame, IsInHandAs, IsPutBack, PassesBy, PutsBack}
use Rattle.bc_pins.specs.declared.holding.Held.{Held}
use Rattle.bc_pins.specs.declared.pins.Seat.{Seat}
use Rattle.bc_pins.specs.declared.taking.TakeError.{TakeError}
use Rattle.bc_pins.specs.declared.taking.Want.{Want}
use Rattle.bc_pins.specs.declared.taking.Want.TheVariants.{Work}
use Rattle.bc_pins.specs.declared.views.View.{View}
use Rattle.bc_pins.specs.Calls.{Grasps, IsTakeRefused, put_back, refusal_word, tried, view_of}
use Rattle.bc_pins.specs.Key.{Key, page_at, pages_of}
use Rattle.bc_pins.specs.Steps.{gripping, having_read, owns}
use Rattle.bc_pins.specs.Totals.{times}
use Rattle.bc_pins.specs.Views.{reads_at}
use Rattle.bc_pins.proofs.LogLemmas.{pages-else, times-reads}
use Rattle.bc_pins.proofs.TotalLemmas.{one_other}
use Rattle.bc_superpages.specs.declared.spaces.Homed.{Homed}

pub none-passes : (v : View) (q : ℕ) → PassesBy v v q
none-passes v q = record { home = refl; fetched = refl }

pub passes-on : (u v w : View) (q : ℕ) → PassesBy u v q → PassesBy v w q → PassesBy u w q
passes-on u v w q x y = record { home = (let one = x.home in let two = y.home in omega arith); fetched = y.fetched ∙ x.fetched }

-- the word of another page was read
pub other-read : (v : View) (page found q : ℕ) → q ≢ page → PassesBy v (having_read v page found) q
other-read v page found q ne = record { home = (let other = pages-else page q found 1 v.read ne in omega arith); fetched = refl }

-- another page was taken
tried-passes : (v : View) (page q : ℕ) (b : Bool) → q ≢ page → PassesBy v (tried v page Work b) q
tried-passes v page q true ne = other-read v page 2 q ne
tried-passes v page q false ne = none-passes v q

gripping-passes : (v : View) (page q : ℕ) (remembered : Bool) (homed : Homed) → q ≢ page → PassesBy v (gripping v page remembered homed) q
gripping-passes v page q remembered homed ne = record { home = (let other = pages-else page q (if remembered then 2 else 1) 1 v.read ne in omega arith); fetched = refl }

pub taken-passes : (v : View) (seat : Seat) (page q : ℕ) (held : Held) → Grasps (tried v page Work held.remembered) seat page held → q ≢ page → PassesBy v (view_of seat) q
taken-passes v seat page q held g ne =
    let u : View = tried v page Work held.remembered in
    subst (λ (w : View). PassesBy v w q) (sym g.view)
    (passes-on v u (gripping u page held.remembered held.homed) q (tried-passes v page q held.remembered ne) (gripping-passes u page q held.remembered held.homed ne))

-- or it couldn't be
pub refused-passes : (v w : View) (page q : ℕ) (want : Want) (refusal : TakeError) → IsTakeRefused v page want refusal w → q ≢ page → PassesBy v w q
refused-passes v w page q want refusal r ne = elim r.read [
  | inl e ↦ subst (λ (x : View). PassesBy v x q) (sym e) (other-read v page (refusal_word refusal) q ne)
  | inr e ↦ subst (λ (x : View). PassesBy v x q) (sym e.1)
      (passes-on v (having_read v page 2) (having_read (having_read v page 2) page (refusal_word refusal)) q (other-read v page 2 q ne) (other-read (having_read v page 2) page (refusal_word refusal) q ne))
]

-- a page was put back
pub put-passes : (v w : View) (held : Held) (q : ℕ) → w ≡ put_back v held → PassesBy v w q
put-passes v w held q e = subst (λ (x : View). PassesBy v x q) (sym e) (record { home = refl; fetched = refl })

-- what was put back, of a seat that put back nothing, and of one after another
pub same-puts : (v w : View) (hand : Option Held) → w.changed ≡ v.changed → PutsBack v hand w
same-puts v w hand same page content put = inl (subst (λ (l : List (ℕ × List ℕ)). IsPutBack page content l) same put)

pub puts-on : (u v w : View) (hand : Option Held) → PutsBack u hand v → w.changed ≡ v.changed → PutsBack u hand w
puts-on u v w hand puts same page content put = puts page content (subst (λ (l : List (ℕ × List ℕ)). IsPutBack page content l) same put)

-- of one that put its page back
puts-one : (own : Bool) (page p : ℕ) (content c : List ℕ) (l : List (ℕ × List ℕ)) → IsPutBack page content (if own then (p, c) ∷ l else l) → IsPutBack page content l ⊎ ((p ≡ page) × (c ≡ content))
puts-one true page p content c l put = elim put [ inl here ↦ inr here | inr before ↦ inl before ]
puts-one false page p content c l put = inl put

pub put-puts : (v w : View) (hand : Option Held) (held : Held) → hand ≡ Some held → w ≡ put_back v held → PutsBack v hand w
put-puts v w hand held is e page content put =
    elim (puts-one (owns v held.page) page held.page content held.homed.page v.changed (subst (λ (x : View). IsPutBack page content x.changed) e put)) [
      | inl before ↦ inl before
      | inr here ↦ inr (subst (λ (x : Option Held). IsInHandAs x page content) (sym is) here)
    ]

-- no frame was found
pub none-found-passes : (v w : View) (q : ℕ) → q < pages_of v.about → FindsNoFrameAtAll v w → PassesBy v w q
none-found-passes v w q near a =
    let read = ap (λ (x : View). times 1 (reads_at q x.read)) a.view ∙ times-reads 1 (page_at q) a.looks v.read in
    let none = none-home v.about a.looks q a.none near in
    let left = ap (λ (x : View). times q x.left) a.view in
    let emptied = ap (λ (x : View). times q x.emptied) a.view in
    record { home = omega arith; fetched = ap (λ (x : View). times q x.fetched) a.view }

-- one was, and another page came back into it
pub frame-passes : (v w : View) (frame q : ℕ) → q < pages_of v.about → HasFrame v frame w → PassesBy v w q
frame-passes v w frame q near f =
    let read = ap (λ (x : View). times 1 (reads_at q x.read)) f.view ∙ times-reads 1 (page_at q) f.looks v.read in
    let given = f.given q near in
    record { home = omega arith; fetched = ap (λ (x : View). times q x.fetched) f.view }

reloaded-passes : (u : View) (seat : Seat) (page frame q : ℕ) (held : Held) → q < pages_of u.about → HasReloaded u page frame seat held → q ≢ page → PassesBy u (view_of seat) q
reloaded-passes u seat page frame q held near r ne =
    let read = ap (λ (x : View). times 1 (reads_at q x.read)) r.view ∙ times-reads 1 (page_at q) r.looks u.read in
    let none = ap (times 1) (r.others q near ne) in
    let left = ap (λ (x : View). times q x.left) r.view in
    let emptied = ap (λ (x : View). times q x.emptied) r.view in
    let fetched = ap (λ (x : View). times q x.fetched) r.view in
    let other = one_other page q (λ e. ne (sym e)) in
    record { home = omega arith; fetched = omega arith }

pub fetched-passes : (v u : View) (seat : Seat) (page frame q : ℕ) (held : Held) → q < pages_of v.about → HasFrame v frame u → HasReloaded u page frame seat held → q ≢ page → PassesBy v (view_of seat) q
fetched-passes v u seat page frame q held near f r ne =
    passes-on v u (view_of seat) q (frame-passes v u frame q near f)
    (reloaded-passes u seat page frame q held (subst (λ (k : Key). q < pages_of k) (sym (ap (λ (x : View). x.about) f.view)) near) r ne)

-- a page that was passed by, or looked at, and passed by since
pub looked-then : (u v w : View) (q : ℕ) (A : Type 0) → PassesBy u v q ⊎ A → PassesBy v w q → PassesBy u w q ⊎ A
looked-then u v w q A (inl passes) after = inl (passes-on u v w q passes after)
looked-then u v w q A (inr looks) after = inr looks
