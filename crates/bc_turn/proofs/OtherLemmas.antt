-- What a lane has belongs to the heap that another lane's operations make.
use Rattle.std.proofs.Common.{◌≡◌, ◌≢◌, ℕ, ◌*◌, ◌/◌, ◌<◌, List, [], ◌∷◌, length, map, get_or, None, ap, sym, subst, ◌∙◌}
use Rattle.bc_lane.specs.Shown.{IsFrozenPage, IsOwnPage, ShowsPage, ShowsPages}
use Rattle.bc_lane.specs.Turns.{IsWhole, SlotsOf}
use Rattle.bc_lane.specs.declared.parts.LanePart.{LanePart}
use Rattle.bc_model.proofs.Holders.{same-lane}
use Rattle.bc_model.specs.State.{State, holder_of}
use Rattle.bc_model.specs.declared.values.Holder.{Holder}
use Rattle.bc_model.specs.declared.values.Holder.TheVariants.{Frozen, Lane}
use Rattle.bc_mutator.specs.Objects.{MayOperate}
use Rattle.bc_pins.specs.Key.{lane_role, owner, owner_role}
use Rattle.bc_pins.specs.Totals.{times}
use Rattle.bc_pins.specs.Views.{has_role}
use Rattle.bc_pins.specs.declared.views.View.{View}
use Rattle.bc_superpages.specs.Headers.{is_gone}
use Rattle.bc_superpages.specs.Layout.{Layout}
use Rattle.bc_superpages.specs.RootWords.{RootWords}
use Rattle.bc_turn.proofs.HolderLemmas.{NoneHolds, no-owner-frozen, nobody-holds, owner-of, role-holder}
use Rattle.bc_turn.proofs.PassLemmas.{IsOthersPage, Passes}
use Rattle.bc_whole_heap.specs.Heaps.{HeapView, end_of}
use Rattle.bc_whole_heap.specs.LaneStates.{StandsAs}

-- what a lane's seat is at a table whose pages these lanes own
pub record IsSeatOf (hs : List Holder) (lane : ℕ) (v : View) : Type 0 where
  pub owners : v.about.owners ≡ map owner_role hs
  pub roles : v.roles ≡ lane_role lane ∷ []

-- who owns a page at such a table: the lane that holds its domain
pub seat-owner : (hs : List Holder) (lane page : ℕ) (v : View) → IsSeatOf hs lane v → owner v.about page ≡ owner_role (holder_of hs (get_or v.about.opening.domains (page / 4) 0))
seat-owner hs lane page v seat =
    let d : ℕ = get_or v.about.opening.domains (page / 4) 0 in
    ap (λ (l : List ℕ). get_or l d 0) seat.owners ∙ owner-of hs d

-- a page of its own is of a domain that the lane holds
pub own-holder : (hs : List Holder) (lane page : ℕ) (v : View) → IsSeatOf hs lane v → IsOwnPage v page → holder_of hs (get_or v.about.opening.domains (page / 4) 0) ≡ Lane lane
own-holder hs lane page v seat own =
    let x : Holder = holder_of hs (get_or v.about.opening.domains (page / 4) 0) in
    role-holder x lane (subst (λ (rs : List ℕ). 0 < times (owner_role x) rs) seat.roles (subst (λ (r : ℕ). 0 < has_role v r) (seat-owner hs lane page v seat) own))

-- a page that nobody owns is of a frozen domain
pub frozen-holder : (hs : List Holder) (lane page : ℕ) (v : View) → IsSeatOf hs lane v → IsFrozenPage v page → holder_of hs (get_or v.about.opening.domains (page / 4) 0) ≡ Frozen
frozen-holder hs lane page v seat frozen = no-owner-frozen (holder_of hs (get_or v.about.opening.domains (page / 4) 0)) (sym (seat-owner hs lane page v seat) ∙ frozen)

module _ (hs : List Holder) (lane : ℕ) (part : LanePart) (v : View) (end : ℕ) (h k : HeapView) (seat : IsSeatOf hs part.lane v) (holders : part.holders.items ≡ hs) (other : part.lane ≢ lane)
    (whole : IsWhole part v None end h) (passes : Passes hs (λ l. l ≡ lane) h k) (long : length k.roots.words ≡ k.roots.domains * k.roots.slots) where
  shown : ShowsPages v None end h.space
  shown = whole.belongs.space

  domains-are : h.space.domains ≡ v.about.opening.domains
  domains-are = ap (λ (s : Layout). s.domains) shown.same

  off : (page : ℕ) → IsOwnPage v page → IsOthersPage h.space hs (λ l. l ≡ lane) page
  off page own = subst (λ (ds : List ℕ). NoneHolds (λ l. l ≡ lane) (holder_of hs (get_or ds (page / 4) 0))) (sym domains-are)
      (λ l is e. other (same-lane part.lane l (sym (own-holder hs part.lane page v seat own) ∙ is) ∙ e))

  off-frozen : (page : ℕ) → IsFrozenPage v page → IsOthersPage h.space hs (λ l. l ≡ lane) page
  off-frozen page frozen = subst (λ (ds : List ℕ). NoneHolds (λ l. l ≡ lane) (holder_of hs (get_or ds (page / 4) 0))) (sym domains-are)
      (λ l is e. nobody-holds l (sym (frozen-holder hs part.lane page v seat frozen) ∙ is))

  page-stays : (page : ℕ) → IsOwnPage v page → ShowsPage v h.space page → ShowsPage v k.space page
  page-stays page own p =
      let same = passes.pages page (off page own) in
      record {
        content = same.0 ∙ p.content;
        remembered = (λ is. p.remembered.0 (sym same.1 ∙ is), λ lt. same.1 ∙ p.remembered.1 lt);
        here = ap is_gone same.1 ∙ p.here;
      }

  pages-stay : ShowsPages v None end k.space
  pages-stay = record {
    same =
        passes.space ∙ ap (λ (s : Layout). record s { states = k.space.states; pages = k.space.pages }) shown.same
        ∙ ap (λ (l : List ℕ). record v.about.opening { states = k.space.states; pages = k.space.pages; incoming = l }) (sym (ap (λ (s : Layout). s.incoming) passes.space));
    end_is = shown.end_is ∙ ap end_of (sym passes.space);
    opening = shown.opening;
    others = λ page own none. page-stays page own (shown.others page own none);
    frozen = λ page frozen none. (passes.pages page (off-frozen page frozen)).0 ∙ shown.frozen page frozen none;
    in_hand = tt;
  }

  slots-stay : SlotsOf part k.roots
  slots-stay =
      let r = whole.belongs.roots in
      let slots = ap (λ (x : RootWords). x.slots) passes.roots in
      record {
        domains_are = ap (λ (x : RootWords). x.domains) passes.roots ∙ r.domains_are;
        slots_are = λ d within held. slots ∙ r.slots_are d within held;
        long = long;
        starts_long = r.starts_long;
        within = r.within;
        apart = r.apart;
        same = λ d t within held less.
            passes.slots (record { domain = d; slot = t }) (λ l is e. other (same-lane part.lane l (sym held ∙ ap (λ (xs : List Holder). holder_of xs d) holders ∙ is) ∙ e)) (subst (λ (n : ℕ). t < n) (sym (r.slots_are d within held)) less)
            ∙ r.same d t within held less;
        packed = r.packed;
        shared_sizes = (ap (λ (x : RootWords). x.domains) passes.roots ∙ r.shared_sizes.0, slots ∙ r.shared_sizes.1);
        frozen = λ d t within frozen less.
            let near : t < h.roots.slots = subst (λ (n : ℕ). t < n) slots less in
            passes.slots (record { domain = d; slot = t }) (λ l is e. nobody-holds l (sym frozen ∙ ap (λ (xs : List Holder). holder_of xs d) holders ∙ is)) near ∙ r.frozen d t within frozen near;
      }

  -- what it belongs to stands for a state in which it has its number of births
  pub other-whole : MayOperate k hs part.lane → ((serials : List ℕ) × (state : State) × StandsAs k hs serials state × (get_or serials part.lane 0 ≡ part.serial)) → IsWhole part v None end k
  other-whole ready stands = record {
    ready = subst (λ (l : List Holder). MayOperate k l part.lane) (sym holders) ready;
    stands = subst (λ (l : List Holder). (serials : List ℕ) × (state : State) × StandsAs k l serials state × (get_or serials part.lane 0 ≡ part.serial)) (sym holders) stands;
    belongs = record {
      space = pages-stay;
      roots = slots-stay;
      chunk_is = passes.chunk part.lane other ∙ whole.belongs.chunk_is;
      buffer_is = passes.buffer part.lane other ∙ whole.belongs.buffer_is;
    };
  }
