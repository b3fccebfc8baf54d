use Rattle.std.proofs.Common.{◌≡◌, ◌+◌, ◌*◌, ◌≤◌, Bool, false, if◌then◌else◌, length, vec_capacity, ap, refl, sym, ◌∙◌, arith}
use Rattle.bc_frames.specs.Places.{StoreView}
use Rattle.bc_superpages.specs.declared.parts.SpaceParts.{SpaceParts}
use Rattle.bc_pins.specs.Key.{Key, pages_of, is_lanes, all_words, notice_at}
use Rattle.bc_pins.specs.Resting.{RestView}
use Rattle.bc_pins.proofs.HeaderLemmas.{writable, bare_size, bare_lanes, bare_marks}
use Rattle.bc_pins.proofs.LayLemmas.{laid_space}
use Rattle.bc_pins.proofs.ClosingLemmas.{Together, gathered_ends, gathered_claims, words_few, ended_from, ended_kept, ended_laid, ended_space, ended_marks, together_same, together_with}
use Rattle.bc_pins.proofs.pins.Pins.close.Goals as goal

pub set_headers-requires-clause-superpages : goal.set_headers-requires-clause-superpages
set_headers-requires-clause-superpages c =
    let self = c.args.self in
    let within = c.rest.invariant.within in
    let headers = ap length c.rest.invariant.emptied.headers in
    let count : c.rest.inside.pages ≡ pages_of self.table.shared.key = ap (λ (r : RestView). r.pages) c.rest.view_is ∙ self.paged in
    let many = self.counted in
    let few = c.rest.invariant.kept.kept.few in
    let entry = c.mark_entry-start.ensures in
    let framed = self.framed in
    (omega arith, omega arith, omega arith)

pub set_headers-requires-clause-words : goal.set_headers-requires-clause-words
set_headers-requires-clause-words c =
    let self = c.args.self in
    let full = c.close_with-closed.ensures.values.0 in
    let size = c.close_with-closed.ensures.counts.0 in
    let all = self.words in
    let many = self.counted in
    let framed = self.framed in
    let entry = c.mark_entry-start.ensures in (
      full,
      omega arith,
      λ mark.
          (let key : Key = self.table.shared.key in
          let turn : key.lanes ≡ false = sym self.turned ∙ mark in
          let told : all_words key ≡ notice_at key + 1 + 33 * key.supers = ap (λ (b : Bool). notice_at key + 1 + (if b then 0 else 33 * key.supers)) turn in
          omega arith),
    )

pub set_headers-requires-clause-few : goal.set_headers-requires-clause-few
set_headers-requires-clause-few c = λ p lt.
    let self = c.args.self in
    let final = c.close_with-closed.ensures.values in
    let many = self.counted in
    words_few self.table.shared.key _ _ _ (gathered_ends _ _ _ _ _ _ c.unite_all-root.ensures.gathered final.2) p (omega arith)

pub set_headers-requires-clause-writable : goal.set_headers-requires-clause-writable
set_headers-requires-clause-writable c =
    let self = c.args.self in
    let count : c.rest.inside.pages ≡ pages_of self.table.shared.key = ap (λ (r : RestView). r.pages) c.rest.view_is ∙ self.paged in
    let many = self.counted in
    writable _ _ _ _ c.rest.invariant (omega arith)

pub put_frames-requires-clause-words : goal.put_frames-requires-clause-words
put_frames-requires-clause-words c =
    let self = c.args.self in
    let full = c.close_with-closed.ensures.values.0 in
    let size = c.close_with-closed.ensures.counts.0 in
    let all = self.words in
    let many = self.counted in
    let pool : length c.rest.inside.parts.pool ≡ length self.table.shared.key.pool =
    ap length (c.rest.invariant.emptied.pool ∙ ap (λ (r : RestView). r.whole.pool) c.rest.view_is ∙ self.pooled) in
    let frames = self.frames in
    let start = c.frame_entry.ensures in
    (full, omega arith)

pub close_up-requires : goal.close_up-requires
close_up-requires c =
    let self = c.args.self in
    let inside = c.rest.inside in
    let unite = c.unite_all-root.ensures in
    let final = c.close_with-closed.ensures.values in
    let back = c.put_boxes_back.ensures in
    let out = c.rest.invariant.emptied in
    let set = c.set_headers.ensures.set in
    let count : inside.pages ≡ pages_of self.table.shared.key = ap (λ (r : RestView). r.pages) c.rest.view_is ∙ self.paged in
    let many = self.counted in
    let whole_within = c.rest.invariant.within in
    let headers_long = ap length out.headers in
    let within : self.superpages ≤ length inside.parts.headers.items = omega arith in
    let long = bare_size _ _ _ _ _ _ within set in
    let both = set.long in
    let ended = ended_from _ _ c.args.seats.items c.unite_all-root.result self.rest inside.whole.value inside.parts inside.pages _ _ c.set_headers.new.headers.items _ _ _ _ c.put_frames.new.pool c.unite_all-root.new.store c.put_boxes_back.new.parts.boxes.items c.put_boxes_back.new.parts.store.places
    (ap (λ (r : RestView). r.whole) c.rest.view_is) (ap (λ (r : RestView). r.pages) c.rest.view_is) c.rest.invariant self.paged self.opened self.pooled self.young self.frames unite.gathered final.2
    set self.counted (let start = c.frame_entry.ensures in omega arith) c.put_frames.ensures.set (ap (λ (s : StoreView). s.places) unite.store) back.boxes back.places in
    let together : Together inside.whole.value c.set_headers.new.headers.items c.put_boxes_back.new.parts.boxes.items c.put_boxes_back.new.parts.store.places c.put_frames.new.pool c.put_boxes_back.new.parts.store.reads c.put_boxes_back.new.parts = record {
      headers_are = ap (λ (p : SpaceParts). p.headers.items) back.same;
      boxes_are = refl;
      places_are = refl;
      reads_are = refl;
      pool = ap (λ (p : SpaceParts). p.pool) back.same;
      nursery = ap (λ (p : SpaceParts). p.nursery.items) back.same ∙ out.nursery;
      room = ap (λ (p : SpaceParts). vec_capacity p.nursery) back.same ∙ out.room;
      end = ap (λ (p : SpaceParts). p.end) back.same ∙ out.end;
    } in
    let size = long ∙ sym both ∙ ap length (sym together.headers_are) in
    record { kept = ended_kept _ _ _ _ _ _ _ _ _ _ _ _ ended _ _ _ self.superpages _ _ (omega arith) size together (is_lanes self.turn) (bare_lanes _ _ _ _ _ _ within set) (bare_marks _ _ _ _ _ _ within set) }

pub returns-clause-closed : goal.returns-clause-closed
returns-clause-closed c = λ turn.
    let self = c.args.self in
    let inside = c.rest.inside in
    let unite = c.unite_all-root.ensures in
    let final = c.close_with-closed.ensures.values in
    let back = c.put_boxes_back.ensures in
    let out = c.rest.invariant.emptied in
    let set = c.set_headers.ensures.set in
    let count : inside.pages ≡ pages_of self.table.shared.key = ap (λ (r : RestView). r.pages) c.rest.view_is ∙ self.paged in
    let many = self.counted in
    let whole_within = c.rest.invariant.within in
    let headers_long = ap length out.headers in
    let within : self.superpages ≤ length inside.parts.headers.items = omega arith in
    let long = bare_size _ _ _ _ _ _ within set in
    let both = set.long in
    let ended = ended_from _ _ c.args.seats.items c.unite_all-root.result self.rest inside.whole.value inside.parts inside.pages _ _ c.set_headers.new.headers.items _ _ _ _ c.put_frames.new.pool c.unite_all-root.new.store c.put_boxes_back.new.parts.boxes.items c.put_boxes_back.new.parts.store.places
    (ap (λ (r : RestView). r.whole) c.rest.view_is) (ap (λ (r : RestView). r.pages) c.rest.view_is) c.rest.invariant self.paged self.opened self.pooled self.young self.frames unite.gathered final.2
    set self.counted (let start = c.frame_entry.ensures in omega arith) c.put_frames.ensures.set (ap (λ (s : StoreView). s.places) unite.store) back.boxes back.places in
    let together : Together inside.whole.value c.set_headers.new.headers.items c.put_boxes_back.new.parts.boxes.items c.put_boxes_back.new.parts.store.places c.put_frames.new.pool c.put_boxes_back.new.parts.store.reads c.put_boxes_back.new.parts = record {
      headers_are = ap (λ (p : SpaceParts). p.headers.items) back.same;
      boxes_are = refl;
      places_are = refl;
      reads_are = refl;
      pool = ap (λ (p : SpaceParts). p.pool) back.same;
      nursery = ap (λ (p : SpaceParts). p.nursery.items) back.same ∙ out.nursery;
      room = ap (λ (p : SpaceParts). vec_capacity p.nursery) back.same ∙ out.room;
      end = ap (λ (p : SpaceParts). p.end) back.same ∙ out.end;
    } in
    let size = long ∙ sym both ∙ ap length (sym together.headers_are) in
    ended_space _ _ _ _ _ _ _ _ _ _ _ _ ended c.unite_all-root.new.store c.put_boxes_back.new.parts.store _ _ unite.store (ap (λ (p : SpaceParts). p.store) back.same)
    (together_same _ _ _ _ _ _ _ _ (bare_lanes _ _ _ _ _ _ within set (self.turned ∙ turn)) together) c.close_up.ensures.layout

pub returns-clause-marked : goal.returns-clause-marked
returns-clause-marked c = λ turn.
    let self = c.args.self in
    let inside = c.rest.inside in
    let unite = c.unite_all-root.ensures in
    let final = c.close_with-closed.ensures.values in
    let back = c.put_boxes_back.ensures in
    let out = c.rest.invariant.emptied in
    let set = c.set_headers.ensures.set in
    let count : inside.pages ≡ pages_of self.table.shared.key = ap (λ (r : RestView). r.pages) c.rest.view_is ∙ self.paged in
    let many = self.counted in
    let whole_within = c.rest.invariant.within in
    let headers_long = ap length out.headers in
    let within : self.superpages ≤ length inside.parts.headers.items = omega arith in
    let long = bare_size _ _ _ _ _ _ within set in
    let both = set.long in
    let ended = ended_from _ _ c.args.seats.items c.unite_all-root.result self.rest inside.whole.value inside.parts inside.pages _ _ c.set_headers.new.headers.items _ _ _ _ c.put_frames.new.pool c.unite_all-root.new.store c.put_boxes_back.new.parts.boxes.items c.put_boxes_back.new.parts.store.places
    (ap (λ (r : RestView). r.whole) c.rest.view_is) (ap (λ (r : RestView). r.pages) c.rest.view_is) c.rest.invariant self.paged self.opened self.pooled self.young self.frames unite.gathered final.2
    set self.counted (let start = c.frame_entry.ensures in omega arith) c.put_frames.ensures.set (ap (λ (s : StoreView). s.places) unite.store) back.boxes back.places in
    let together : Together inside.whole.value c.set_headers.new.headers.items c.put_boxes_back.new.parts.boxes.items c.put_boxes_back.new.parts.store.places c.put_frames.new.pool c.put_boxes_back.new.parts.store.reads c.put_boxes_back.new.parts = record {
      headers_are = ap (λ (p : SpaceParts). p.headers.items) back.same;
      boxes_are = refl;
      places_are = refl;
      reads_are = refl;
      pool = ap (λ (p : SpaceParts). p.pool) back.same;
      nursery = ap (λ (p : SpaceParts). p.nursery.items) back.same ∙ out.nursery;
      room = ap (λ (p : SpaceParts). vec_capacity p.nursery) back.same ∙ out.room;
      end = ap (λ (p : SpaceParts). p.end) back.same ∙ out.end;
    } in
    let size = long ∙ sym both ∙ ap length (sym together.headers_are) in
    ended_marks _ _ _ _ _ _ _ _ _ _ _ _ ended c.unite_all-root.new.store c.put_boxes_back.new.parts.store _ _ _ _ _ unite.store (ap (λ (p : SpaceParts). p.store) back.same) (together_with _ _ _ _ _ _ _ _ size together)
    turn self.unheld (self.markable turn) refl self.counted (let entry = c.mark_entry-start.ensures in let framed = self.framed in omega arith)
    (laid_space _ _ _ _ _ _ (ended_laid _ _ _ _ _ _ _ _ _ _ _ _ ended _ _ _ self.superpages _ _ (omega arith) size together (bare_marks _ _ _ _ _ _ within set (self.turned ∙ turn))) c.close_up.ensures.layout)

pub returns-clause-claims : goal.returns-clause-claims
returns-clause-claims c =
    let gathered = c.unite_all-root.ensures.gathered in
    gathered_claims _ _ _ _ _ _ gathered (gathered_ends _ _ _ _ _ _ gathered c.close_with-closed.ensures.values.2)
