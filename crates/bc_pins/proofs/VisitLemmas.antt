-- A seat that took pages and put them back: what it may put, and that the table takes it back.
use Rattle.std.proofs.Common.{◌≡◌, ℕ, ◌*◌, ◌/◌, ◌%◌, ◌<◌, ◌==◌, Bool, true, false, List, [], ◌∷◌, ◌++◌, length, map, get_or, replicate, slice_index, if◌then◌else◌, Some, refl, ap, sym, subst, ◌∙◌, arith, length-append}
use Prim.Native.Nat.{zero, suc}
use Rattle.atomic_table.specs.Seated.{TableId}
use Rattle.bc_bits.specs.Bits.{has}
use Rattle.bc_superpages.specs.declared.headers.Header.{Header}
use Rattle.bc_superpages.specs.declared.spaces.Homed.{Homed}
use Rattle.bc_superpages.specs.declared.headers.PageState.{PageState}
use Rattle.bc_superpages.specs.declared.headers.PageState.TheVariants.{Home as HomePage, Absent}
use Rattle.bc_superpages.specs.Headers.{unused_header, is_gone}
use Rattle.bc_superpages.specs.Layout.{Layout, superpages, set_of, is_cell}
use Rattle.bc_superpages.specs.LayoutAt.{IsAllocated, state_at}
use Rattle.bc_superpages.specs.Kept.{IsLayout}
use Rattle.bc_superpages.specs.Calls.{new_space, with_page, NoPromiseNamed}
use Rattle.bc_superpages.proofs.CellLemmas.{is_cell-bit}
use Rattle.bc_superpages.proofs.MoveLemmas.{memory-allocated}
use Rattle.bc_bookmarks.specs.Summarised.{gone_in, HasNoBookmarks}
use Rattle.bc_bookmarks.proofs.SummaryLemmas.{SummarisedOn-none}
use Rattle.bc_bookmarks.proofs.StateLemmas.{gone-put}
use Rattle.bc_pins.specs.declared.key.Role.{Role}
use Rattle.bc_pins.specs.declared.pins.Pins.{Pins}
use Rattle.bc_pins.specs.declared.pins.Seat.{Seat}
use Rattle.bc_pins.specs.declared.holding.Held.{Held}
use Rattle.bc_pins.specs.declared.taking.Want.{Want}
use Rattle.bc_pins.specs.declared.taking.Want.TheVariants.{Work, Victim}
use Rattle.bc_pins.specs.declared.views.Hand.{Hand}
use Rattle.bc_pins.specs.declared.views.View.{View}
use Rattle.bc_pins.specs.declared.views.Lodged.TheVariants.{Nothing}
use Rattle.bc_pins.specs.Key.{Key, pages_of, owner, role_number}
use Rattle.bc_pins.specs.Totals.{times}
use Rattle.bc_pins.specs.Tidy.{IsTidy}
use Rattle.bc_pins.specs.Contents.{IsContent, RefersYoung}
use Rattle.bc_pins.specs.Views.{has_role}
use Rattle.bc_pins.specs.Steps.{Mine, fresh, both_slots, Takes}
use Rattle.bc_pins.specs.Opening.{IsOpenable}
use Rattle.bc_pins.specs.Seating.{IsDealt, AreDealt}
use Rattle.bc_pins.specs.Calls.{key_of, view_of, IsAt, IsSameSeat, IsFree, HoldsPage, Grasps, MayPut, tried}
use Rattle.bc_pins.specs.Closing.{IsBack, AreBack}
use Rattle.bc_pins.proofs.TotalLemmas.{one_same}
use Rattle.bc_pins.proofs.TakeLemmas.{some_hand}
use Rattle.bc_pins.proofs.CallerLemmas.{clash, bare_ready, set_bare, opening_ready}

module _ (v : View) (seat : Seat) (page : ℕ) (held : Held) (g : Grasps v seat page held) where
  in_hand : (hand : Hand) → (view_of seat).hand ≡ Some hand
      → hand ≡ record { page = page; remembered = held.remembered; frame = held.homed.frame; content = held.homed.page; counted = []; marked = [] }
  in_hand hand has = some_hand hand _ (sym has ∙ ap (λ (w : View). w.hand) g.view)

  -- what was taken is in hand
  pub holds_taken : page < pages_of v.about → HoldsPage seat held
  holds_taken lt = record {
    hand = record { page = page; remembered = held.remembered; frame = held.homed.frame; content = held.homed.page; counted = []; marked = [] };
    has = ap (λ (w : View). w.hand) g.view;
    page = sym g.is;
    inside = subst (λ (w : View). held.page < pages_of w.about) (sym g.view) (subst (λ (p : ℕ). p < pages_of v.about) (sym g.is) lt);
    frame = refl;
    slots = g.slots ∙ ap (λ (p : ℕ). both_slots v.about p Nothing Nothing) (sym g.is) ∙ ap (λ (w : View). both_slots w.about held.page Nothing Nothing) (sym g.view);
  }

  -- and may be put back as it is
  pub may_put_taken : Takes v page held.remembered held.homed → MayPut seat held
  may_put_taken t = record {
    fixed = subst (λ (w : View). IsContent w.about.opening held.page held.homed.page) (sym g.view) (subst (λ (p : ℕ). IsContent v.about.opening p held.homed.page) (sym g.is) t.fixed);
    young = λ y. t.young (subst (λ (p : ℕ). RefersYoung v.about.opening p held.homed.page) g.is (subst (λ (w : View). RefersYoung w.about.opening held.page held.homed.page) g.view y));
    remembered = λ hand has r. sym (ap (λ (h : Hand). h.remembered) (in_hand hand has)) ∙ r;
    others = λ hand has z. (sym (ap (λ (h : Hand). h.content) (in_hand hand has)), sym (ap (λ (h : Hand). h.remembered) (in_hand hand has)));
    counted = λ hand has. ap (λ (h : Hand). h.counted) (in_hand hand has);
    marked = λ hand has. ap (λ (h : Hand). h.marked) (in_hand hand has);
  }

-- in a space without cells
no_cell : (s : Layout) (a : ℕ) → ((q b : ℕ) → has (set_of s.cells q) b ≡ false) → IsAllocated s a → ⊥
no_cell s a none_has there = clash (sym (none_has _ _) ∙ is_cell-bit s.classes s.cells a there)

-- a page that was taken, and of which a word was written in a space without cells, may be put back by its lane
module _ (v : View) (seat : Seat) (page : ℕ) (held : Held) (g : Grasps v seat page held) (c : List ℕ) where
  abbrev written : Held
  written = record held { homed = record held.homed { page = c } }

  pub holds_written : page < pages_of v.about → HoldsPage seat written
  holds_written lt = let h = holds_taken v seat page held g lt in record { hand = h.hand; has = h.has; page = h.page; inside = h.inside; frame = h.frame; slots = h.slots }

  pub may_put_written : Takes v page held.remembered held.homed → length c ≡ 512 → 0 < has_role v (owner v.about page) → ((q b : ℕ) → has (set_of v.about.opening.cells q) b ≡ false) → MayPut seat written
  may_put_written t long lane none_has =
      let was = may_put_taken v seat page held g t in
      let about : (view_of seat).about ≡ v.about = ap (λ (w : View). w.about) g.view in
      let bare : (a : ℕ) → IsAllocated (view_of seat).about.opening a → ⊥ = λ a there. no_cell v.about.opening a none_has (subst (λ (k : Key). IsAllocated k.opening a) about there) in
      let roles : (view_of seat).roles ≡ v.roles = ap (λ (w : View). w.roles) g.view in
      record {
        fixed = record { long = long; heads = λ a there on. absurd (bare a there); packed = λ a i f. absurd (bare a f.allocated); names = λ a i f. absurd (bare a f.allocated) };
        young = λ y. absurd (bare y.cell y.is.allocated);
        remembered = was.remembered;
        others = λ hand has z.
            let mine : 0 < has_role (view_of seat) (owner (view_of seat).about held.page) =
            subst (λ (w : View). 0 < has_role w (owner w.about held.page)) (sym g.view) (subst (λ (p : ℕ). 0 < has_role v (owner v.about p)) (sym g.is) lane) in
            absurd (omega arith);
        counted = was.counted;
        marked = was.marked;
      }

pub tried_about : (v : View) (page : ℕ) (want : Want) (remembered : Bool) → (tried v page want remembered).about ≡ v.about
tried_about v page Work true = refl
tried_about v page Work false = refl
tried_about v page Victim remembered = refl

-- what was read of a page holds of the view that tried first
pub takes_tried : (v : View) (page : ℕ) (want : Want) (remembered flag : Bool) (homed : Homed) → Takes v page flag homed → Takes (tried v page want remembered) page flag homed
takes_tried v page Work true flag homed t = record { mine = t.mine; unowned = t.unowned; plain = t.plain; fixed = t.fixed; young = t.young; recorded = t.recorded; found = t.found; here = t.here }
takes_tried v page Work false flag homed t = t
takes_tried v page Victim remembered flag homed t = t

pub tried_roles : (v : View) (page : ℕ) (want : Want) (remembered : Bool) → (tried v page want remembered).roles ≡ v.roles
tried_roles v page Work true = refl
tried_roles v page Work false = refl
tried_roles v page Victim remembered = refl

pub tried_rights : (v : View) (page : ℕ) (want : Want) (remembered : Bool) → (tried v page want remembered).rights ≡ v.rights
tried_rights v page Work true = refl
tried_rights v page Work false = refl
tried_rights v page Victim remembered = refl

pub same_after : (a b c : Seat) → IsSameSeat a b → IsSameSeat b c → IsSameSeat a c
same_after a b c x y = record {
  table = y.table ∙ x.table;
  id = y.id ∙ x.id;
  role = y.role ∙ x.role;
  opens = y.opens ∙ x.opens;
  about = y.about ∙ x.about;
  alive = y.alive ∙ x.alive;
  roles = y.roles ∙ x.roles;
  fetched = y.fetched ∙ x.fetched;
}

-- the same for a page that was taken to work on
module _ (pins : Pins) (old seat : Seat) (page : ℕ) (held : Held) (c : List ℕ) (at : IsAt pins old) (g : Grasps (tried (view_of old) page Work held.remembered) seat page held) where
  abbrev v : View
  v = tried (view_of old) page Work held.remembered

  about : v.about ≡ key_of pins
  about = tried_about (view_of old) page Work held.remembered ∙ at.about

  pub holds_worked : page < pages_of (key_of pins) → HoldsPage seat (record held { homed = record held.homed { page = c } })
  holds_worked lt = holds_written v seat page held g c (subst (λ (k : Key). page < pages_of k) (sym about) lt)

  pub may_put_worked : Takes (view_of old) page held.remembered held.homed → length c ≡ 512 → 0 < has_role (view_of old) (owner (key_of pins) page)
      → ((q b : ℕ) → has (set_of (key_of pins).opening.cells q) b ≡ false) → MayPut seat (record held { homed = record held.homed { page = c } })
  may_put_worked t long lane none_has =
      may_put_written v seat page held g c (takes_tried (view_of old) page Work held.remembered held.remembered held.homed t) long
      (subst (λ (k : Key). 0 < has_role v (owner k page)) (sym about) (subst (λ (l : List ℕ). 0 < times (owner (key_of pins) page) l) (sym (tried_roles (view_of old) page Work held.remembered)) lane))
      (λ q b. ap (λ (k : Key). has (set_of k.opening.cells q) b) about ∙ none_has q b)

-- a seat that stays at its table
pub at_after : (pins : Pins) (a b : Seat) → IsAt pins a → IsSameSeat a b → IsAt pins b
at_after pins a b at same = record {
  table = same.table ∙ at.table;
  about = same.about ∙ at.about;
  alive = same.alive ∙ at.alive;
  role = subst (λ (l : List ℕ). 0 < times (role_number b.role) l) (sym same.roles) (subst (λ (r : Role). 0 < has_role (view_of a) (role_number r)) (sym same.role) at.role);
}

-- a seat that was dealt is at its table, with nothing in hand
module _ (pins : Pins) (role : Role) (seat : Seat) (d : IsDealt pins.table.shared.table_id (key_of pins) role seat) where
  dealt_view : view_of seat ≡ fresh (key_of pins) (role_number role ∷ [])
  dealt_view = ap (λ (m : Mine). m.0) d.me

  pub dealt_at : IsAt pins seat
  dealt_at = record {
    table = d.table;
    about = ap (λ (v : View). v.about) dealt_view;
    alive = ap (λ (v : View). v.alive) dealt_view;
    role = subst (λ (v : View). 0 < has_role v (role_number seat.role)) (sym dealt_view)
        (subst (λ (r : Role). 0 < has_role (fresh (key_of pins) (role_number role ∷ [])) (role_number r)) (sym d.its_role)
        (let one = one_same (role_number role) in omega arith));
  }

  pub dealt_free : IsFree seat
  dealt_free = record { hand = ap (λ (v : View). v.hand) dealt_view; slots = ap (λ (m : Mine). m.1) d.me }

  -- after calls that left it that seat, it may come back
  pub visited_back : (new : Seat) → IsSameSeat seat new → IsFree new → (view_of new).rights ≡ (view_of seat).rights → IsTidy (view_of new)
      → IsBack pins.table.shared.table_id (key_of pins) new
  visited_back new same free rights tidy = record {
    table = same.table ∙ d.table;
    about = same.about ∙ ap (λ (v : View). v.about) dealt_view;
    hand = free.hand;
    slots = free.slots;
    rights = rights ∙ ap (λ (v : View). v.rights) dealt_view;
    opens = (let none = ap (λ (v : View). length v.fetched) dealt_view in let same_opens = same.opens in let were = d.opens in let fetches = ap length same.fetched in omega arith);
    tidy = tidy;
  }

  pub visited_roles : (new : Seat) → IsSameSeat seat new → (r : ℕ) → has_role (view_of new) r ≡ times r (role_number role ∷ [])
  visited_roles new same r = ap (times r) (same.roles ∙ ap (λ (v : View). v.roles) dealt_view)

-- the two seats of a table, which come back after their calls
pub two_back : (id : TableId) (k : Key) (one two : Role) (a b : Seat) → IsBack id k a → IsBack id k b
    → ((r : ℕ) → has_role (view_of a) r ≡ times r (role_number one ∷ [])) → ((r : ℕ) → has_role (view_of b) r ≡ times r (role_number two ∷ []))
    → k.roles ≡ map role_number (one ∷ two ∷ []) → AreBack id k (a ∷ b ∷ [])
two_back id k one two a b back_a back_b roles_a roles_b are = record {
  some = omega arith;
  each = each;
  roles = λ r. let x = roles_a r in let y = roles_b r in (omega arith) ∙ sym (ap (times r) are);
}
  where
    each : (j : ℕ) → j < 2 → (d : Seat) → IsBack id k (get_or (a ∷ b ∷ []) j d)
    each zero lt d = back_a
    each (suc zero) lt d = back_b
    each (suc (suc j)) lt d = absurd (omega arith)

-- a space without cells, Gone pages, bookmarks and counts is one over which a table may be opened
pub bare_openable : (s : Layout) → ((q b : ℕ) → has (set_of s.cells q) b ≡ false) → ((a : ℕ) → is_cell s.classes s.promised a ≡ false) → HasNoBookmarks s → IsOpenable s
bare_openable s none_has promised none =
    let ready = bare_ready s none_has promised in
    record {
      summarised = SummarisedOn-none s (gone_in s) none.gone none.bits none.counters;
      closed = ready.closed;
      promised = promised;
      home = λ p e young. clash (sym (none_has _ _) ∙ is_cell-bit s.classes s.cells young.cell young.is.allocated);
    }

-- two seats that were taken out of what a table dealt, the last first
pub popped_two : (id : TableId) (k : Key) (roles : List Role) (one two : Role) (seats middle last : List Seat) (a b : Seat) → roles ≡ one ∷ two ∷ []
    → AreDealt id k roles (length roles) seats → seats ≡ middle ++ b ∷ [] → middle ≡ last ++ a ∷ [] → (IsDealt id k one a × IsDealt id k two b) × (last ≡ [])
popped_two id k roles one two seats middle last a b is dealt first second =
    go last (subst (λ (ss : List Seat). AreDealt id k (one ∷ two ∷ []) 2 ss) (first ∙ ap (λ (m : List Seat). m ++ b ∷ []) second)
    (subst (λ (rs : List Role). AreDealt id k rs (length rs) seats) is dealt))
  where
    go : (l : List Seat) → AreDealt id k (one ∷ two ∷ []) 2 ((l ++ a ∷ []) ++ b ∷ []) → (IsDealt id k one a × IsDealt id k two b) × (l ≡ [])
    go [] d = ((d.each 0 (omega arith) a, d.each 1 (omega arith) a), refl)
    go (x ∷ l) d =
        let long : suc (length ((l ++ a ∷ []) ++ b ∷ [])) ≡ 2 = d.long in
        let e = length-append (l ++ a ∷ []) (b ∷ []) in
        let f = length-append l (a ∷ []) in
        absurd (omega arith)

abbrev brought : ℕ → ℕ → Layout
brought f y = with_page (new_space 1 f y) 0

four_gone : (f y p : ℕ) → p < 4 → gone_in (brought f y) p ≡ false
four_gone f y zero lt = refl
four_gone f y (suc zero) lt = refl
four_gone f y (suc (suc zero)) lt = refl
four_gone f y (suc (suc (suc zero))) lt = refl
four_gone f y (suc (suc (suc (suc p)))) lt = absurd (omega arith)

no_count : (f y q : ℕ) → q < 1 → slice_index (brought f y).incoming q ≡ 0
no_count f y zero lt = refl
no_count f y (suc q) lt = absurd (omega arith)

-- a new space of one superpage, whose first page was brought home
pub brought_openable : (f y : ℕ) → IsOpenable (with_page (new_space 1 f y) 0)
brought_openable f y =
    bare_openable (brought f y) (λ q b. set_bare (λ (h : Header). h.cells) 1 q b refl) (opening_ready 1 f y).promised
    record { gone = four_gone f y; bits = λ q b lt. set_bare (λ (h : Header). h.bookmarks) 1 q b refl; counters = no_count f y }

none_gone : (b x : Bool) → x ≡ false → (if b then false else x) ≡ false
none_gone true x e = refl
none_gone false x e = e

-- a page that is brought home leaves a space without bookmarks
pub brought_none : (s : Layout) (p : ℕ) → IsLayout s → p < 4 * superpages s → HasNoBookmarks s → HasNoBookmarks (with_page s p)
brought_none s p l lt old = record {
  gone = λ q less. gone-put s p HomePage q l lt ∙ none_gone (q == p) (gone_in s q) (old.gone q less);
  bits = old.bits;
  counters = old.counters;
}

-- a new space has none, and none of a cell
pub new_none : (n f y : ℕ) → HasNoBookmarks (new_space n f y)
new_none n f y = record { gone = λ p lt. absent n p; bits = λ q b lt. set_bare (λ (h : Header). h.bookmarks) n q b refl; counters = λ q lt. zeros n q }
  where
    zeros : (m q : ℕ) → slice_index (map (λ (h : Header). h.incoming) (replicate m unused_header)) q ≡ 0
    zeros zero q = refl
    zeros (suc m) zero = refl
    zeros (suc m) (suc q) = zeros m q

    four : (i : ℕ) → is_gone (get_or (replicate 4 Absent) i Absent) ≡ false
    four zero = refl
    four (suc zero) = refl
    four (suc (suc zero)) = refl
    four (suc (suc (suc zero))) = refl
    four (suc (suc (suc (suc i)))) = refl

    each : (m q i : ℕ) → is_gone (get_or (get_or (map (λ (h : Header). h.pages) (replicate m unused_header)) q []) i Absent) ≡ false
    each zero q i = refl
    each (suc m) zero i = four i
    each (suc m) (suc q) i = each m q i

    absent : (m p : ℕ) → gone_in (new_space m f y) p ≡ false
    absent m p = each m (p / 4) (p % 4)

pub new_cells : (n f y q b : ℕ) → has (set_of (new_space n f y).cells q) b ≡ false
new_cells n f y q b = set_bare (λ (h : Header). h.cells) n q b refl

-- in a space without cells no promise is named
pub nothing_named : (s : Layout) → ((q b : ℕ) → has (set_of s.cells q) b ≡ false) → NoPromiseNamed s
nothing_named s none_has a c found k lt = absurd (no_cell s a none_has (memory-allocated s a c found))

-- a space with the states, bookmarks and counters of a new one
pub none_like : (n f y : ℕ) (t : Layout) → t.states ≡ (new_space n f y).states → t.bookmarks ≡ (new_space n f y).bookmarks → t.incoming ≡ (new_space n f y).incoming → superpages t ≡ superpages (new_space n f y) → HasNoBookmarks t
none_like n f y t states bits counters long =
    let old = new_none n f y in
    record {
      gone = λ p lt. ap (λ (ss : List (List PageState)). is_gone (state_at ss p)) states ∙ old.gone p (omega arith);
      bits = λ q b lt. ap (λ (bs : List (List ℕ)). has (set_of bs q) b) bits ∙ old.bits q b (omega arith);
      counters = λ q lt. ap (λ (cs : List ℕ). slice_index cs q) counters ∙ old.counters q (omega arith);
    }
