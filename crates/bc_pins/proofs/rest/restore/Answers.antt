use Rattle.std.proofs.Common.{None, ap, ◌∙◌}
use Rattle.bc_frames.specs.Places.{StoreView}
use Rattle.bc_superpages.specs.declared.parts.SpaceParts.{SpaceParts}
use Rattle.bc_pins.specs.Lodging.{box_of, place_of}
use Rattle.bc_pins.proofs.RestLemmas.{back_again, box_home, place_away}
use Rattle.bc_pins.proofs.rest.restore.Goals as goal

pub returns : goal.returns
returns c =
    let out = c.requires.emptied in
    let slots = c.requires.slots in
    let whole : SpaceParts = c.args.whole.now.value in
    let back = c.put_all_back.ensures in
    record {
      same = record {
        headers = out.headers;
        pool = out.pool;
        nursery = out.nursery;
        room = out.room;
        reads = ap (λ (s : StoreView). s.reads) back.store ∙ out.reads;
        end = out.end;
        boxes = back_again None whole.boxes.items _ _ c.args.pages _ out.boxes back.boxes
            (λ p lt. ap box_of (slots.homes p lt) ∙ box_home _);
        places = back_again None whole.store.places _ _ c.args.pages _ out.places back.places
            (λ p lt. ap place_of (slots.aways p lt) ∙ place_away _);
      };
    }
