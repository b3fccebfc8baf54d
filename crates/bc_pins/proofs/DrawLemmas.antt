-- A table that is drawn from a space's parts meets the rule, and is what it is said to be.
use Rattle.std.proofs.Common.{◌≡◌, ℕ, ◌*◌, ◌/◌, ◌<◌, slice_index, ◌≤◌, false, List, [], ◌∷◌, length, map, refl, ap, sym, subst, ◌∙◌, arith}
use Rattle.std.proofs.lemmas.List.{length-map}
use Rattle.bc_superpages.specs.declared.headers.Header.{Header}
use Rattle.bc_superpages.specs.declared.parts.SpaceParts.{SpaceParts}
use Rattle.bc_superpages.specs.Layout.{Layout, superpages}
use Rattle.bc_superpages.specs.Kept.{IsLayout}
use Rattle.bc_superpages.proofs.KeptLemmas.{IsLayout-kept}
use Rattle.bc_model.specs.declared.values.Holder.{Holder}
use Rattle.bc_pins.specs.declared.key.Turn.{Turn}
use Rattle.bc_pins.specs.declared.key.Role.{Role}
use Rattle.bc_pins.specs.declared.key.Role.TheVariants.{Lane, Marker, Pager}
use Rattle.bc_pins.specs.declared.pins.Pins.{Pins}
use Rattle.bc_pins.specs.declared.pins.Seat.{Seat}
use Rattle.bc_pins.specs.declared.views.Lodged.{Lodged}
use Rattle.bc_pins.specs.Key.{Key, pages_of, owner_role, role_number}
use Rattle.bc_pins.specs.Totals.{times}
use Rattle.bc_pins.specs.Rule.{Ruled}
use Rattle.bc_pins.specs.Filling.{IsSized, IsFilled}
use Rattle.bc_pins.specs.Opening.{opened, AreLodged, IsMarkable, MayOpen}
use Rattle.bc_pins.specs.Seating.{AreDealt}
use Rattle.bc_pins.specs.Opened.{IsKeyOf, Opened}
use Rattle.bc_pins.proofs.TotalLemmas.{one_other}
use Rattle.bc_pins.proofs.NoticeLemmas.{claims_opened}
use Rattle.bc_pins.proofs.OpenLemmas.{starts}
use Rattle.bc_pins.proofs.OpenableLemmas.{openable_ready}
use Rattle.bc_pins.proofs.MayOpenLemmas.{may_open}
use Rattle.bc_pins.specs.Facts.{IsUnheld}

number_some : (r : Role) → 0 < role_number r
number_some (Lane l) = omega arith
number_some (Marker m) = omega arith
number_some (Pager p) = omega arith

pub nobody_has : (roles : List Role) → times 0 (map role_number roles) ≡ 0
nobody_has [] = refl
nobody_has (r ∷ rs) =
    let a = nobody_has rs in
    let b = number_some r in
    let c = one_other (role_number r) 0 (λ e. omega arith) in
    omega arith

module _ (k : Key) (parts : SpaceParts) (supers : ℕ) (turn : Turn) (holders : List Holder) (roles : List Role) (drawn : IsKeyOf parts supers turn holders roles k) where
  supers_is : k.supers ≡ supers
  supers_is = ap (λ (a : Key). a.supers) drawn.key

  pool_is : k.pool ≡ parts.pool
  pool_is = ap (λ (a : Key). a.pool) drawn.key

  frames_are : k.frames ≡ length parts.pool
  frames_are = ap (λ (a : Key). a.frames) drawn.key

  roles_are : k.roles ≡ map role_number roles
  roles_are = ap (λ (a : Key). a.roles) drawn.key

  pub sized : IsSized k supers parts.pool turn
  sized = record { supers = supers_is; all = frames_are; lanes = ap (λ (a : Key). a.lanes) drawn.key; pool = pool_is }

  pub drawn_unheld : IsUnheld k
  drawn_unheld mark page =
      let none_holds : k.owners ≡ [] = ap (λ (a : Key). a.owners) drawn.key ∙ ap (map owner_role) (drawn.unheld (sym (ap (λ (a : Key). a.lanes) drawn.key) ∙ mark)) in
      ap (λ (l : List ℕ). times (slice_index l (slice_index k.opening.domains (page / 4))) k.roles) none_holds ∙ ap (times 0) roles_are ∙ nobody_has roles

  pub drawn_rule : (words : List ℕ) (slots : List Lodged) → IsFilled k parts.headers.items words → AreLodged parts (4 * supers) slots → Ruled k (opened k words slots)
  drawn_rule words slots filled lodged =
      let size = supers_is in
      let within = drawn.within in
      let layout : IsLayout k.opening = subst IsLayout drawn.layout (IsLayout-kept parts.headers.items parts.boxes.items parts.pool parts.nursery.items parts.store.places _ _ _ _ drawn.kept.kept) in
      let l : AreLodged parts (pages_of k) slots = subst (λ (n : ℕ). AreLodged parts (4 * n) slots) (sym supers_is) lodged in
      let may : MayOpen k words slots = may_open k parts drawn.kept drawn.layout (sym pool_is) (sym (ap (λ (a : Key). a.nursery) drawn.key)) (frames_are ∙ ap length (sym pool_is))
      (omega arith) (λ p le. drawn.behind p (omega arith)) (openable_ready k.opening layout drawn.openable) drawn.openable
      (λ r. subst (λ (rs : List ℕ). times r rs ≤ 1) (sym roles_are) (drawn.apart r))
      (ap (times 0) roles_are ∙ nobody_has roles) drawn_unheld (λ turn. drawn.markable (sym (ap (λ (a : Key). a.lanes) drawn.key) ∙ turn))
      words filled slots l in
      record { facts = starts k words slots may; claims = claims_opened k words slots may; owing = may.owing }

  pub drawn_markable : k.lanes ≡ false → IsMarkable k.opening
  drawn_markable mark = drawn.markable (sym (ap (λ (a : Key). a.lanes) drawn.key) ∙ mark)

  pub drawn_inside : k.supers ≤ superpages k.opening
  drawn_inside =
      let size = supers_is in
      let within = drawn.within in
      let many : superpages k.opening ≡ length parts.headers.items = ap superpages (sym drawn.layout) ∙ length-map parts.headers.items (λ (h : Header). h.used) in
      omega arith

  pub drawn_apart : (r : ℕ) → times r k.roles ≤ 1
  drawn_apart r = subst (λ (rs : List ℕ). times r rs ≤ 1) (sym roles_are) (drawn.apart r)

  pub drawn_opened : (pins : Pins) (seats : List Seat) → pins.table.shared.key ≡ k → AreDealt pins.table.shared.table_id pins.table.shared.key roles (length roles) seats → Opened k.opening turn holders roles pins seats
  drawn_opened pins seats e dealt =
      let size = supers_is in
      let within = drawn.within in
      let same : pins.table.shared.key.supers ≡ k.supers = ap (λ (a : Key). a.supers) e in
      let many : superpages k.opening ≡ length parts.headers.items = ap superpages (sym drawn.layout) ∙ length-map parts.headers.items (λ (h : Header). h.used) in
      record {
        opening = ap (λ (a : Key). a.opening) e;
        frames = ap (λ (a : Key). a.frames) e ∙ frames_are ∙ ap (λ (s : Layout). s.frames) drawn.layout;
        unused = ap (λ (a : Key). length a.nursery) (e ∙ drawn.key) ∙ ap (λ (s : Layout). s.nursery) drawn.layout;
        lanes = ap (λ (a : Key). a.lanes) (e ∙ drawn.key);
        owners = ap (λ (a : Key). a.owners) (e ∙ drawn.key);
        roles_are = ap (λ (a : Key). a.roles) e ∙ roles_are;
        within = omega arith;
        behind = λ p le. drawn.absent p (omega arith);
        seats_are = dealt;
      }
