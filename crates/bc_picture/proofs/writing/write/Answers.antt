use Rattle.std.proofs.Common.{◌≡◌, ℕ, [], ◌∷◌, ◌++◌, map, refl, sym, ap, ◌∙◌, arith}
use Rattle.std.specs.List.{flat_map}
use Rattle.bc_bookmarks.proofs.MovingLemmas.{MovesPages-none}
use Rattle.bc_image.specs.Images.{holder_number, image_bytes, superpage_items}
use Rattle.bc_image.specs.Items.{magic}
use Rattle.bc_model.specs.State.{numbers_below}
use Rattle.bc_superpages.specs.Layout.{superpages}
use Rattle.bc_picture.specs.SpaceListing.{heap_listing, item_bytes, listed_cells}
use Rattle.bc_picture.proofs.Names.{listing-names}
use Rattle.bc_picture.proofs.StreamLemmas.{on-err, on-err-map, room-first, room-piece, puts-piece, breaks-first, breaks-piece}
use Rattle.bc_picture.proofs.WriteLemmas.{image-is, five, first-one, first-two, first-three, first-four, first-five, all-five, room-start, room-end, written, broken, broken-end, on-ok-both}
use Rattle.bc_picture.proofs.writing.write.Goals as goal

pub put_numbers-requires : goal.put_numbers-requires
put_numbers-requires g c =
    let n = magic ∷ c.args.version ∷ c.args.setup.now.lanes ∷ c.args.setup.now.domains ∷ c.args.setup.now.slots ∷ c.args.setup.now.superpages ∷ c.args.setup.now.nursery ∷ c.args.setup.now.buffer ∷ c.args.setup.now.frames ∷ c.args.phases ∷ [] in
    let h = map (holder_number c.args.setup.now.lanes) c.args.holders.now in
    let b = c.args.births.now in
    let r = c.args.roots.now.words in
    let s = flat_map (superpage_items (listed_cells c.args.space.now)) (numbers_below (superpages c.args.space.now)) in
    let is : image_bytes (heap_listing c.args.version c.args.setup.now c.args.phases c.args.holders.now c.args.births.now c.args.roots.now c.args.space.now) ≡ item_bytes (five n h b r s) =
    image-is (heap_listing c.args.version c.args.setup.now c.args.phases c.args.holders.now c.args.births.now c.args.roots.now c.args.space.now) ∙ ap (λ (m : ℕ). item_bytes (five n h b r (flat_map (superpage_items (listed_cells c.args.space.now)) (numbers_below m)))) (sym c.requires.superpages) in
    let room = room-start _ c.new-waiting.result (image_bytes (heap_listing c.args.version c.args.setup.now c.args.phases c.args.holders.now c.args.births.now c.args.roots.now c.args.space.now)) (item_bytes (five n h b r s)) c.new-waiting.ensures is c.requires.room in
    record { room = room-first _ _ (five n h b r s) n (first-one n h b r s) room }

pub put_holders-requires : goal.put_holders-requires
put_holders-requires g c =
    let n = magic ∷ c.args.version ∷ c.args.setup.now.lanes ∷ c.args.setup.now.domains ∷ c.args.setup.now.slots ∷ c.args.setup.now.superpages ∷ c.args.setup.now.nursery ∷ c.args.setup.now.buffer ∷ c.args.setup.now.frames ∷ c.args.phases ∷ [] in
    let h = map (holder_number c.args.setup.now.lanes) c.args.holders.now in
    let b = c.args.births.now in
    let r = c.args.roots.now.words in
    let s = flat_map (superpage_items (listed_cells c.args.space.now)) (numbers_below (superpages c.args.space.now)) in
    let is : image_bytes (heap_listing c.args.version c.args.setup.now c.args.phases c.args.holders.now c.args.births.now c.args.roots.now c.args.space.now) ≡ item_bytes (five n h b r s) =
    image-is (heap_listing c.args.version c.args.setup.now c.args.phases c.args.holders.now c.args.births.now c.args.roots.now c.args.space.now) ∙ ap (λ (m : ℕ). item_bytes (five n h b r (flat_map (superpage_items (listed_cells c.args.space.now)) (numbers_below m)))) (sym c.requires.superpages) in
    let room = room-start _ c.new-waiting.result (image_bytes (heap_listing c.args.version c.args.setup.now c.args.phases c.args.holders.now c.args.births.now c.args.roots.now c.args.space.now)) (item_bytes (five n h b r s)) c.new-waiting.ensures is c.requires.room in
    let h1 = c.in_ok-put_numbers.ensures.puts in
    record { room = room-piece _ _ (five n h b r s) n h (first-two n h b r s) room h1 }

pub put_births-requires : goal.put_births-requires
put_births-requires g c =
    let n = magic ∷ c.args.version ∷ c.args.setup.now.lanes ∷ c.args.setup.now.domains ∷ c.args.setup.now.slots ∷ c.args.setup.now.superpages ∷ c.args.setup.now.nursery ∷ c.args.setup.now.buffer ∷ c.args.setup.now.frames ∷ c.args.phases ∷ [] in
    let h = map (holder_number c.args.setup.now.lanes) c.args.holders.now in
    let b = c.args.births.now in
    let r = c.args.roots.now.words in
    let s = flat_map (superpage_items (listed_cells c.args.space.now)) (numbers_below (superpages c.args.space.now)) in
    let is : image_bytes (heap_listing c.args.version c.args.setup.now c.args.phases c.args.holders.now c.args.births.now c.args.roots.now c.args.space.now) ≡ item_bytes (five n h b r s) =
    image-is (heap_listing c.args.version c.args.setup.now c.args.phases c.args.holders.now c.args.births.now c.args.roots.now c.args.space.now) ∙ ap (λ (m : ℕ). item_bytes (five n h b r (flat_map (superpage_items (listed_cells c.args.space.now)) (numbers_below m)))) (sym c.requires.superpages) in
    let room = room-start _ c.new-waiting.result (image_bytes (heap_listing c.args.version c.args.setup.now c.args.phases c.args.holders.now c.args.births.now c.args.roots.now c.args.space.now)) (item_bytes (five n h b r s)) c.new-waiting.ensures is c.requires.room in
    let h1 = c.in_ok-put_numbers.ensures.puts in
    let h2 = puts-piece _ _ _ (n ++ h) n h refl h1 c.in_ok-put_holders.ensures.puts in
    record { room = room-piece _ _ (five n h b r s) (n ++ h) b (first-three n h b r s) room h2 }

pub put_all-requires : goal.put_all-requires
put_all-requires g c =
    let n = magic ∷ c.args.version ∷ c.args.setup.now.lanes ∷ c.args.setup.now.domains ∷ c.args.setup.now.slots ∷ c.args.setup.now.superpages ∷ c.args.setup.now.nursery ∷ c.args.setup.now.buffer ∷ c.args.setup.now.frames ∷ c.args.phases ∷ [] in
    let h = map (holder_number c.args.setup.now.lanes) c.args.holders.now in
    let b = c.args.births.now in
    let r = c.args.roots.now.words in
    let s = flat_map (superpage_items (listed_cells c.args.space.now)) (numbers_below (superpages c.args.space.now)) in
    let is : image_bytes (heap_listing c.args.version c.args.setup.now c.args.phases c.args.holders.now c.args.births.now c.args.roots.now c.args.space.now) ≡ item_bytes (five n h b r s) =
    image-is (heap_listing c.args.version c.args.setup.now c.args.phases c.args.holders.now c.args.births.now c.args.roots.now c.args.space.now) ∙ ap (λ (m : ℕ). item_bytes (five n h b r (flat_map (superpage_items (listed_cells c.args.space.now)) (numbers_below m)))) (sym c.requires.superpages) in
    let room = room-start _ c.new-waiting.result (image_bytes (heap_listing c.args.version c.args.setup.now c.args.phases c.args.holders.now c.args.births.now c.args.roots.now c.args.space.now)) (item_bytes (five n h b r s)) c.new-waiting.ensures is c.requires.room in
    let h1 = c.in_ok-put_numbers.ensures.puts in
    let h2 = puts-piece _ _ _ (n ++ h) n h refl h1 c.in_ok-put_holders.ensures.puts in
    let h3 = puts-piece _ _ _ ((n ++ h) ++ b) (n ++ h) b refl h2 c.in_ok-put_births.ensures.puts in
    record { room = rw c.words.ensures.words (room-piece _ _ (five n h b r s) ((n ++ h) ++ b) r (first-four n h b r s) room h3) }

pub put_superpages-requires-clause-readable : goal.put_superpages-requires-clause-readable
put_superpages-requires-clause-readable g c =
    record {
      calm = c.requires.calm;
      summarised = c.requires.summarised;
      frames = (let few = c.requires.image.setup.frames.0 in let a = c.requires.frames in let b = c.requires.nursery in omega arith);
      names = listing-names c.args.space.now (heap_listing c.args.version c.args.setup.now c.args.phases c.args.holders.now c.args.births.now c.args.roots.now c.args.space.now) c.facts.ensures.kept refl c.requires.image.cells;
    }

pub put_superpages-requires-clause-room : goal.put_superpages-requires-clause-room
put_superpages-requires-clause-room g c =
    let n = magic ∷ c.args.version ∷ c.args.setup.now.lanes ∷ c.args.setup.now.domains ∷ c.args.setup.now.slots ∷ c.args.setup.now.superpages ∷ c.args.setup.now.nursery ∷ c.args.setup.now.buffer ∷ c.args.setup.now.frames ∷ c.args.phases ∷ [] in
    let h = map (holder_number c.args.setup.now.lanes) c.args.holders.now in
    let b = c.args.births.now in
    let r = c.args.roots.now.words in
    let s = flat_map (superpage_items (listed_cells c.args.space.now)) (numbers_below (superpages c.args.space.now)) in
    let is : image_bytes (heap_listing c.args.version c.args.setup.now c.args.phases c.args.holders.now c.args.births.now c.args.roots.now c.args.space.now) ≡ item_bytes (five n h b r s) =
    image-is (heap_listing c.args.version c.args.setup.now c.args.phases c.args.holders.now c.args.births.now c.args.roots.now c.args.space.now) ∙ ap (λ (m : ℕ). item_bytes (five n h b r (flat_map (superpage_items (listed_cells c.args.space.now)) (numbers_below m)))) (sym c.requires.superpages) in
    let room = room-start _ c.new-waiting.result (image_bytes (heap_listing c.args.version c.args.setup.now c.args.phases c.args.holders.now c.args.births.now c.args.roots.now c.args.space.now)) (item_bytes (five n h b r s)) c.new-waiting.ensures is c.requires.room in
    let h1 = c.in_ok-put_numbers.ensures.puts in
    let h2 = puts-piece _ _ _ (n ++ h) n h refl h1 c.in_ok-put_holders.ensures.puts in
    let h3 = puts-piece _ _ _ ((n ++ h) ++ b) (n ++ h) b refl h2 c.in_ok-put_births.ensures.puts in
    let h4 = puts-piece _ _ _ (((n ++ h) ++ b) ++ r) ((n ++ h) ++ b) r refl h3 (rw c.words.ensures.words at c.in_ok-put_all.ensures.puts) in
    room-piece _ _ (five n h b r s) (((n ++ h) ++ b) ++ r) s (first-five n h b r s) room h4

pub flush-requires : goal.flush-requires
flush-requires g c =
    let n = magic ∷ c.args.version ∷ c.args.setup.now.lanes ∷ c.args.setup.now.domains ∷ c.args.setup.now.slots ∷ c.args.setup.now.superpages ∷ c.args.setup.now.nursery ∷ c.args.setup.now.buffer ∷ c.args.setup.now.frames ∷ c.args.phases ∷ [] in
    let h = map (holder_number c.args.setup.now.lanes) c.args.holders.now in
    let b = c.args.births.now in
    let r = c.args.roots.now.words in
    let s = flat_map (superpage_items (listed_cells c.args.space.now)) (numbers_below (superpages c.args.space.now)) in
    let is : image_bytes (heap_listing c.args.version c.args.setup.now c.args.phases c.args.holders.now c.args.births.now c.args.roots.now c.args.space.now) ≡ item_bytes (five n h b r s) =
    image-is (heap_listing c.args.version c.args.setup.now c.args.phases c.args.holders.now c.args.births.now c.args.roots.now c.args.space.now) ∙ ap (λ (m : ℕ). item_bytes (five n h b r (flat_map (superpage_items (listed_cells c.args.space.now)) (numbers_below m)))) (sym c.requires.superpages) in
    let room = room-start _ c.new-waiting.result (image_bytes (heap_listing c.args.version c.args.setup.now c.args.phases c.args.holders.now c.args.births.now c.args.roots.now c.args.space.now)) (item_bytes (five n h b r s)) c.new-waiting.ensures is c.requires.room in
    let h1 = c.in_ok-put_numbers.ensures.puts in
    let h2 = puts-piece _ _ _ (n ++ h) n h refl h1 c.in_ok-put_holders.ensures.puts in
    let h3 = puts-piece _ _ _ ((n ++ h) ++ b) (n ++ h) b refl h2 c.in_ok-put_births.ensures.puts in
    let h4 = puts-piece _ _ _ (((n ++ h) ++ b) ++ r) ((n ++ h) ++ b) r refl h3 (rw c.words.ensures.words at c.in_ok-put_all.ensures.puts) in
    let h5 = puts-piece _ _ _ ((((n ++ h) ++ b) ++ r) ++ s) (((n ++ h) ++ b) ++ r) s refl h4 c.in_ok-put_superpages.ensures.puts in
    record { room = room-end _ _ (five n h b r s) ((((n ++ h) ++ b) ++ r) ++ s) (all-five n h b r s) room h5 }

pub returns-in_err-put_numbers-clause-front : goal.returns-in_err-put_numbers-clause-front
returns-in_err-put_numbers-clause-front g c =
    let n = magic ∷ c.args.version ∷ c.args.setup.now.lanes ∷ c.args.setup.now.domains ∷ c.args.setup.now.slots ∷ c.args.setup.now.superpages ∷ c.args.setup.now.nursery ∷ c.args.setup.now.buffer ∷ c.args.setup.now.frames ∷ c.args.phases ∷ [] in
    let h = map (holder_number c.args.setup.now.lanes) c.args.holders.now in
    let b = c.args.births.now in
    let r = c.args.roots.now.words in
    let s = flat_map (superpage_items (listed_cells c.args.space.now)) (numbers_below (superpages c.args.space.now)) in
    let is : image_bytes (heap_listing c.args.version c.args.setup.now c.args.phases c.args.holders.now c.args.births.now c.args.roots.now c.args.space.now) ≡ item_bytes (five n h b r s) =
    image-is (heap_listing c.args.version c.args.setup.now c.args.phases c.args.holders.now c.args.births.now c.args.roots.now c.args.space.now) ∙ ap (λ (m : ℕ). item_bytes (five n h b r (flat_map (superpage_items (listed_cells c.args.space.now)) (numbers_below m)))) (sym c.requires.superpages) in
    on-err _ _ (broken _ _ (image_bytes (heap_listing c.args.version c.args.setup.now c.args.phases c.args.holders.now c.args.births.now c.args.roots.now c.args.space.now)) (five n h b r s) is c.new-waiting.ensures (breaks-first _ _ (five n h b r s) n (first-one n h b r s) c.in_err-put_numbers.ensures.breaks)).0

pub returns-in_err-put_numbers-clause-cause : goal.returns-in_err-put_numbers-clause-cause
returns-in_err-put_numbers-clause-cause g c =
    let n = magic ∷ c.args.version ∷ c.args.setup.now.lanes ∷ c.args.setup.now.domains ∷ c.args.setup.now.slots ∷ c.args.setup.now.superpages ∷ c.args.setup.now.nursery ∷ c.args.setup.now.buffer ∷ c.args.setup.now.frames ∷ c.args.phases ∷ [] in
    let h = map (holder_number c.args.setup.now.lanes) c.args.holders.now in
    let b = c.args.births.now in
    let r = c.args.roots.now.words in
    let s = flat_map (superpage_items (listed_cells c.args.space.now)) (numbers_below (superpages c.args.space.now)) in
    let is : image_bytes (heap_listing c.args.version c.args.setup.now c.args.phases c.args.holders.now c.args.births.now c.args.roots.now c.args.space.now) ≡ item_bytes (five n h b r s) =
    image-is (heap_listing c.args.version c.args.setup.now c.args.phases c.args.holders.now c.args.births.now c.args.roots.now c.args.space.now) ∙ ap (λ (m : ℕ). item_bytes (five n h b r (flat_map (superpage_items (listed_cells c.args.space.now)) (numbers_below m)))) (sym c.requires.superpages) in
    on-err _ _ (broken _ _ (image_bytes (heap_listing c.args.version c.args.setup.now c.args.phases c.args.holders.now c.args.births.now c.args.roots.now c.args.space.now)) (five n h b r s) is c.new-waiting.ensures (breaks-first _ _ (five n h b r s) n (first-one n h b r s) c.in_err-put_numbers.ensures.breaks)).1

pub returns-in_err-put_holders-clause-front : goal.returns-in_err-put_holders-clause-front
returns-in_err-put_holders-clause-front g c =
    let n = magic ∷ c.args.version ∷ c.args.setup.now.lanes ∷ c.args.setup.now.domains ∷ c.args.setup.now.slots ∷ c.args.setup.now.superpages ∷ c.args.setup.now.nursery ∷ c.args.setup.now.buffer ∷ c.args.setup.now.frames ∷ c.args.phases ∷ [] in
    let h = map (holder_number c.args.setup.now.lanes) c.args.holders.now in
    let b = c.args.births.now in
    let r = c.args.roots.now.words in
    let s = flat_map (superpage_items (listed_cells c.args.space.now)) (numbers_below (superpages c.args.space.now)) in
    let is : image_bytes (heap_listing c.args.version c.args.setup.now c.args.phases c.args.holders.now c.args.births.now c.args.roots.now c.args.space.now) ≡ item_bytes (five n h b r s) =
    image-is (heap_listing c.args.version c.args.setup.now c.args.phases c.args.holders.now c.args.births.now c.args.roots.now c.args.space.now) ∙ ap (λ (m : ℕ). item_bytes (five n h b r (flat_map (superpage_items (listed_cells c.args.space.now)) (numbers_below m)))) (sym c.requires.superpages) in
    let h1 = c.in_ok-put_numbers.ensures.puts in
    on-err _ _ (broken _ _ (image_bytes (heap_listing c.args.version c.args.setup.now c.args.phases c.args.holders.now c.args.births.now c.args.roots.now c.args.space.now)) (five n h b r s) is c.new-waiting.ensures (breaks-piece _ _ _ (five n h b r s) n h (first-two n h b r s) h1 c.in_err-put_holders.ensures.breaks)).0

pub returns-in_err-put_holders-clause-cause : goal.returns-in_err-put_holders-clause-cause
returns-in_err-put_holders-clause-cause g c =
    let n = magic ∷ c.args.version ∷ c.args.setup.now.lanes ∷ c.args.setup.now.domains ∷ c.args.setup.now.slots ∷ c.args.setup.now.superpages ∷ c.args.setup.now.nursery ∷ c.args.setup.now.buffer ∷ c.args.setup.now.frames ∷ c.args.phases ∷ [] in
    let h = map (holder_number c.args.setup.now.lanes) c.args.holders.now in
    let b = c.args.births.now in
    let r = c.args.roots.now.words in
    let s = flat_map (superpage_items (listed_cells c.args.space.now)) (numbers_below (superpages c.args.space.now)) in
    let is : image_bytes (heap_listing c.args.version c.args.setup.now c.args.phases c.args.holders.now c.args.births.now c.args.roots.now c.args.space.now) ≡ item_bytes (five n h b r s) =
    image-is (heap_listing c.args.version c.args.setup.now c.args.phases c.args.holders.now c.args.births.now c.args.roots.now c.args.space.now) ∙ ap (λ (m : ℕ). item_bytes (five n h b r (flat_map (superpage_items (listed_cells c.args.space.now)) (numbers_below m)))) (sym c.requires.superpages) in
    let h1 = c.in_ok-put_numbers.ensures.puts in
    on-err _ _ (broken _ _ (image_bytes (heap_listing c.args.version c.args.setup.now c.args.phases c.args.holders.now c.args.births.now c.args.roots.now c.args.space.now)) (five n h b r s) is c.new-waiting.ensures (breaks-piece _ _ _ (five n h b r s) n h (first-two n h b r s) h1 c.in_err-put_holders.ensures.breaks)).1

pub returns-in_err-put_births-clause-front : goal.returns-in_err-put_births-clause-front
returns-in_err-put_births-clause-front g c =
    let n = magic ∷ c.args.version ∷ c.args.setup.now.lanes ∷ c.args.setup.now.domains ∷ c.args.setup.now.slots ∷ c.args.setup.now.superpages ∷ c.args.setup.now.nursery ∷ c.args.setup.now.buffer ∷ c.args.setup.now.frames ∷ c.args.phases ∷ [] in
    let h = map (holder_number c.args.setup.now.lanes) c.args.holders.now in
    let b = c.args.births.now in
    let r = c.args.roots.now.words in
    let s = flat_map (superpage_items (listed_cells c.args.space.now)) (numbers_below (superpages c.args.space.now)) in
    let is : image_bytes (heap_listing c.args.version c.args.setup.now c.args.phases c.args.holders.now c.args.births.now c.args.roots.now c.args.space.now) ≡ item_bytes (five n h b r s) =
    image-is (heap_listing c.args.version c.args.setup.now c.args.phases c.args.holders.now c.args.births.now c.args.roots.now c.args.space.now) ∙ ap (λ (m : ℕ). item_bytes (five n h b r (flat_map (superpage_items (listed_cells c.args.space.now)) (numbers_below m)))) (sym c.requires.superpages) in
    let h1 = c.in_ok-put_numbers.ensures.puts in
    let h2 = puts-piece _ _ _ (n ++ h) n h refl h1 c.in_ok-put_holders.ensures.puts in
    on-err _ _ (broken _ _ (image_bytes (heap_listing c.args.version c.args.setup.now c.args.phases c.args.holders.now c.args.births.now c.args.roots.now c.args.space.now)) (five n h b r s) is c.new-waiting.ensures (breaks-piece _ _ _ (five n h b r s) (n ++ h) b (first-three n h b r s) h2 c.in_err-put_births.ensures.breaks)).0

pub returns-in_err-put_births-clause-cause : goal.returns-in_err-put_births-clause-cause
returns-in_err-put_births-clause-cause g c =
    let n = magic ∷ c.args.version ∷ c.args.setup.now.lanes ∷ c.args.setup.now.domains ∷ c.args.setup.now.slots ∷ c.args.setup.now.superpages ∷ c.args.setup.now.nursery ∷ c.args.setup.now.buffer ∷ c.args.setup.now.frames ∷ c.args.phases ∷ [] in
    let h = map (holder_number c.args.setup.now.lanes) c.args.holders.now in
    let b = c.args.births.now in
    let r = c.args.roots.now.words in
    let s = flat_map (superpage_items (listed_cells c.args.space.now)) (numbers_below (superpages c.args.space.now)) in
    let is : image_bytes (heap_listing c.args.version c.args.setup.now c.args.phases c.args.holders.now c.args.births.now c.args.roots.now c.args.space.now) ≡ item_bytes (five n h b r s) =
    image-is (heap_listing c.args.version c.args.setup.now c.args.phases c.args.holders.now c.args.births.now c.args.roots.now c.args.space.now) ∙ ap (λ (m : ℕ). item_bytes (five n h b r (flat_map (superpage_items (listed_cells c.args.space.now)) (numbers_below m)))) (sym c.requires.superpages) in
    let h1 = c.in_ok-put_numbers.ensures.puts in
    let h2 = puts-piece _ _ _ (n ++ h) n h refl h1 c.in_ok-put_holders.ensures.puts in
    on-err _ _ (broken _ _ (image_bytes (heap_listing c.args.version c.args.setup.now c.args.phases c.args.holders.now c.args.births.now c.args.roots.now c.args.space.now)) (five n h b r s) is c.new-waiting.ensures (breaks-piece _ _ _ (five n h b r s) (n ++ h) b (first-three n h b r s) h2 c.in_err-put_births.ensures.breaks)).1

pub returns-in_err-put_all-clause-front : goal.returns-in_err-put_all-clause-front
returns-in_err-put_all-clause-front g c =
    let n = magic ∷ c.args.version ∷ c.args.setup.now.lanes ∷ c.args.setup.now.domains ∷ c.args.setup.now.slots ∷ c.args.setup.now.superpages ∷ c.args.setup.now.nursery ∷ c.args.setup.now.buffer ∷ c.args.setup.now.frames ∷ c.args.phases ∷ [] in
    let h = map (holder_number c.args.setup.now.lanes) c.args.holders.now in
    let b = c.args.births.now in
    let r = c.args.roots.now.words in
    let s = flat_map (superpage_items (listed_cells c.args.space.now)) (numbers_below (superpages c.args.space.now)) in
    let is : image_bytes (heap_listing c.args.version c.args.setup.now c.args.phases c.args.holders.now c.args.births.now c.args.roots.now c.args.space.now) ≡ item_bytes (five n h b r s) =
    image-is (heap_listing c.args.version c.args.setup.now c.args.phases c.args.holders.now c.args.births.now c.args.roots.now c.args.space.now) ∙ ap (λ (m : ℕ). item_bytes (five n h b r (flat_map (superpage_items (listed_cells c.args.space.now)) (numbers_below m)))) (sym c.requires.superpages) in
    let h1 = c.in_ok-put_numbers.ensures.puts in
    let h2 = puts-piece _ _ _ (n ++ h) n h refl h1 c.in_ok-put_holders.ensures.puts in
    let h3 = puts-piece _ _ _ ((n ++ h) ++ b) (n ++ h) b refl h2 c.in_ok-put_births.ensures.puts in
    on-err _ _ (broken _ _ (image_bytes (heap_listing c.args.version c.args.setup.now c.args.phases c.args.holders.now c.args.births.now c.args.roots.now c.args.space.now)) (five n h b r s) is c.new-waiting.ensures (breaks-piece _ _ _ (five n h b r s) ((n ++ h) ++ b) r (first-four n h b r s) h3 (rw c.words.ensures.words at c.in_err-put_all.ensures.breaks))).0

pub returns-in_err-put_all-clause-cause : goal.returns-in_err-put_all-clause-cause
returns-in_err-put_all-clause-cause g c =
    let n = magic ∷ c.args.version ∷ c.args.setup.now.lanes ∷ c.args.setup.now.domains ∷ c.args.setup.now.slots ∷ c.args.setup.now.superpages ∷ c.args.setup.now.nursery ∷ c.args.setup.now.buffer ∷ c.args.setup.now.frames ∷ c.args.phases ∷ [] in
    let h = map (holder_number c.args.setup.now.lanes) c.args.holders.now in
    let b = c.args.births.now in
    let r = c.args.roots.now.words in
    let s = flat_map (superpage_items (listed_cells c.args.space.now)) (numbers_below (superpages c.args.space.now)) in
    let is : image_bytes (heap_listing c.args.version c.args.setup.now c.args.phases c.args.holders.now c.args.births.now c.args.roots.now c.args.space.now) ≡ item_bytes (five n h b r s) =
    image-is (heap_listing c.args.version c.args.setup.now c.args.phases c.args.holders.now c.args.births.now c.args.roots.now c.args.space.now) ∙ ap (λ (m : ℕ). item_bytes (five n h b r (flat_map (superpage_items (listed_cells c.args.space.now)) (numbers_below m)))) (sym c.requires.superpages) in
    let h1 = c.in_ok-put_numbers.ensures.puts in
    let h2 = puts-piece _ _ _ (n ++ h) n h refl h1 c.in_ok-put_holders.ensures.puts in
    let h3 = puts-piece _ _ _ ((n ++ h) ++ b) (n ++ h) b refl h2 c.in_ok-put_births.ensures.puts in
    on-err _ _ (broken _ _ (image_bytes (heap_listing c.args.version c.args.setup.now c.args.phases c.args.holders.now c.args.births.now c.args.roots.now c.args.space.now)) (five n h b r s) is c.new-waiting.ensures (breaks-piece _ _ _ (five n h b r s) ((n ++ h) ++ b) r (first-four n h b r s) h3 (rw c.words.ensures.words at c.in_err-put_all.ensures.breaks))).1

pub returns-in_err-put_superpages-clause-front : goal.returns-in_err-put_superpages-clause-front
returns-in_err-put_superpages-clause-front g c =
    let n = magic ∷ c.args.version ∷ c.args.setup.now.lanes ∷ c.args.setup.now.domains ∷ c.args.setup.now.slots ∷ c.args.setup.now.superpages ∷ c.args.setup.now.nursery ∷ c.args.setup.now.buffer ∷ c.args.setup.now.frames ∷ c.args.phases ∷ [] in
    let h = map (holder_number c.args.setup.now.lanes) c.args.holders.now in
    let b = c.args.births.now in
    let r = c.args.roots.now.words in
    let s = flat_map (superpage_items (listed_cells c.args.space.now)) (numbers_below (superpages c.args.space.now)) in
    let is : image_bytes (heap_listing c.args.version c.args.setup.now c.args.phases c.args.holders.now c.args.births.now c.args.roots.now c.args.space.now) ≡ item_bytes (five n h b r s) =
    image-is (heap_listing c.args.version c.args.setup.now c.args.phases c.args.holders.now c.args.births.now c.args.roots.now c.args.space.now) ∙ ap (λ (m : ℕ). item_bytes (five n h b r (flat_map (superpage_items (listed_cells c.args.space.now)) (numbers_below m)))) (sym c.requires.superpages) in
    let h1 = c.in_ok-put_numbers.ensures.puts in
    let h2 = puts-piece _ _ _ (n ++ h) n h refl h1 c.in_ok-put_holders.ensures.puts in
    let h3 = puts-piece _ _ _ ((n ++ h) ++ b) (n ++ h) b refl h2 c.in_ok-put_births.ensures.puts in
    let h4 = puts-piece _ _ _ (((n ++ h) ++ b) ++ r) ((n ++ h) ++ b) r refl h3 (rw c.words.ensures.words at c.in_ok-put_all.ensures.puts) in
    on-err _ _ (broken _ _ (image_bytes (heap_listing c.args.version c.args.setup.now c.args.phases c.args.holders.now c.args.births.now c.args.roots.now c.args.space.now)) (five n h b r s) is c.new-waiting.ensures (breaks-piece _ _ _ (five n h b r s) (((n ++ h) ++ b) ++ r) s (first-five n h b r s) h4 c.in_err-put_superpages.ensures.breaks)).0

pub returns-in_err-put_superpages-clause-cause : goal.returns-in_err-put_superpages-clause-cause
returns-in_err-put_superpages-clause-cause g c =
    let n = magic ∷ c.args.version ∷ c.args.setup.now.lanes ∷ c.args.setup.now.domains ∷ c.args.setup.now.slots ∷ c.args.setup.now.superpages ∷ c.args.setup.now.nursery ∷ c.args.setup.now.buffer ∷ c.args.setup.now.frames ∷ c.args.phases ∷ [] in
    let h = map (holder_number c.args.setup.now.lanes) c.args.holders.now in
    let b = c.args.births.now in
    let r = c.args.roots.now.words in
    let s = flat_map (superpage_items (listed_cells c.args.space.now)) (numbers_below (superpages c.args.space.now)) in
    let is : image_bytes (heap_listing c.args.version c.args.setup.now c.args.phases c.args.holders.now c.args.births.now c.args.roots.now c.args.space.now) ≡ item_bytes (five n h b r s) =
    image-is (heap_listing c.args.version c.args.setup.now c.args.phases c.args.holders.now c.args.births.now c.args.roots.now c.args.space.now) ∙ ap (λ (m : ℕ). item_bytes (five n h b r (flat_map (superpage_items (listed_cells c.args.space.now)) (numbers_below m)))) (sym c.requires.superpages) in
    let h1 = c.in_ok-put_numbers.ensures.puts in
    let h2 = puts-piece _ _ _ (n ++ h) n h refl h1 c.in_ok-put_holders.ensures.puts in
    let h3 = puts-piece _ _ _ ((n ++ h) ++ b) (n ++ h) b refl h2 c.in_ok-put_births.ensures.puts in
    let h4 = puts-piece _ _ _ (((n ++ h) ++ b) ++ r) ((n ++ h) ++ b) r refl h3 (rw c.words.ensures.words at c.in_ok-put_all.ensures.puts) in
    on-err _ _ (broken _ _ (image_bytes (heap_listing c.args.version c.args.setup.now c.args.phases c.args.holders.now c.args.births.now c.args.roots.now c.args.space.now)) (five n h b r s) is c.new-waiting.ensures (breaks-piece _ _ _ (five n h b r s) (((n ++ h) ++ b) ++ r) s (first-five n h b r s) h4 c.in_err-put_superpages.ensures.breaks)).1

pub returns-in_err-put_numbers-clause-moves : goal.returns-in_err-put_numbers-clause-moves
returns-in_err-put_numbers-clause-moves g c = MovesPages-none c.args.space.now c.requires.summarised

pub returns-in_err-put_holders-clause-moves : goal.returns-in_err-put_holders-clause-moves
returns-in_err-put_holders-clause-moves g c = MovesPages-none c.args.space.now c.requires.summarised

pub returns-in_err-put_births-clause-moves : goal.returns-in_err-put_births-clause-moves
returns-in_err-put_births-clause-moves g c = MovesPages-none c.args.space.now c.requires.summarised

pub returns-in_err-put_all-clause-moves : goal.returns-in_err-put_all-clause-moves
returns-in_err-put_all-clause-moves g c = MovesPages-none c.args.space.now c.requires.summarised

pub returns-clause-all : goal.returns-clause-all
returns-clause-all g c =
    let n = magic ∷ c.args.version ∷ c.args.setup.now.lanes ∷ c.args.setup.now.domains ∷ c.args.setup.now.slots ∷ c.args.setup.now.superpages ∷ c.args.setup.now.nursery ∷ c.args.setup.now.buffer ∷ c.args.setup.now.frames ∷ c.args.phases ∷ [] in
    let h = map (holder_number c.args.setup.now.lanes) c.args.holders.now in
    let b = c.args.births.now in
    let r = c.args.roots.now.words in
    let s = flat_map (superpage_items (listed_cells c.args.space.now)) (numbers_below (superpages c.args.space.now)) in
    let is : image_bytes (heap_listing c.args.version c.args.setup.now c.args.phases c.args.holders.now c.args.births.now c.args.roots.now c.args.space.now) ≡ item_bytes (five n h b r s) =
    image-is (heap_listing c.args.version c.args.setup.now c.args.phases c.args.holders.now c.args.births.now c.args.roots.now c.args.space.now) ∙ ap (λ (m : ℕ). item_bytes (five n h b r (flat_map (superpage_items (listed_cells c.args.space.now)) (numbers_below m)))) (sym c.requires.superpages) in
    let h1 = c.in_ok-put_numbers.ensures.puts in
    let h2 = puts-piece _ _ _ (n ++ h) n h refl h1 c.in_ok-put_holders.ensures.puts in
    let h3 = puts-piece _ _ _ ((n ++ h) ++ b) (n ++ h) b refl h2 c.in_ok-put_births.ensures.puts in
    let h4 = puts-piece _ _ _ (((n ++ h) ++ b) ++ r) ((n ++ h) ++ b) r refl h3 (rw c.words.ensures.words at c.in_ok-put_all.ensures.puts) in
    let h5 = puts-piece _ _ _ ((((n ++ h) ++ b) ++ r) ++ s) (((n ++ h) ++ b) ++ r) s refl h4 c.in_ok-put_superpages.ensures.puts in
    on-ok-both _ _ _ c.flush.result (λ k none. (written _ _ _ (image_bytes (heap_listing c.args.version c.args.setup.now c.args.phases c.args.holders.now c.args.births.now c.args.roots.now c.args.space.now)) (five n h b r s) ((((n ++ h) ++ b) ++ r) ++ s) is (all-five n h b r s) c.new-waiting.ensures h5 none k).grows) c.flush.ensures.puts c.flush.ensures.empty

pub returns-clause-filled : goal.returns-clause-filled
returns-clause-filled g c =
    let n = magic ∷ c.args.version ∷ c.args.setup.now.lanes ∷ c.args.setup.now.domains ∷ c.args.setup.now.slots ∷ c.args.setup.now.superpages ∷ c.args.setup.now.nursery ∷ c.args.setup.now.buffer ∷ c.args.setup.now.frames ∷ c.args.phases ∷ [] in
    let h = map (holder_number c.args.setup.now.lanes) c.args.holders.now in
    let b = c.args.births.now in
    let r = c.args.roots.now.words in
    let s = flat_map (superpage_items (listed_cells c.args.space.now)) (numbers_below (superpages c.args.space.now)) in
    let is : image_bytes (heap_listing c.args.version c.args.setup.now c.args.phases c.args.holders.now c.args.births.now c.args.roots.now c.args.space.now) ≡ item_bytes (five n h b r s) =
    image-is (heap_listing c.args.version c.args.setup.now c.args.phases c.args.holders.now c.args.births.now c.args.roots.now c.args.space.now) ∙ ap (λ (m : ℕ). item_bytes (five n h b r (flat_map (superpage_items (listed_cells c.args.space.now)) (numbers_below m)))) (sym c.requires.superpages) in
    let h1 = c.in_ok-put_numbers.ensures.puts in
    let h2 = puts-piece _ _ _ (n ++ h) n h refl h1 c.in_ok-put_holders.ensures.puts in
    let h3 = puts-piece _ _ _ ((n ++ h) ++ b) (n ++ h) b refl h2 c.in_ok-put_births.ensures.puts in
    let h4 = puts-piece _ _ _ (((n ++ h) ++ b) ++ r) ((n ++ h) ++ b) r refl h3 (rw c.words.ensures.words at c.in_ok-put_all.ensures.puts) in
    let h5 = puts-piece _ _ _ ((((n ++ h) ++ b) ++ r) ++ s) (((n ++ h) ++ b) ++ r) s refl h4 c.in_ok-put_superpages.ensures.puts in
    on-ok-both _ _ _ c.flush.result (λ k none. (written _ _ _ (image_bytes (heap_listing c.args.version c.args.setup.now c.args.phases c.args.holders.now c.args.births.now c.args.roots.now c.args.space.now)) (five n h b r s) ((((n ++ h) ++ b) ++ r) ++ s) is (all-five n h b r s) c.new-waiting.ensures h5 none k).falls) c.flush.ensures.puts c.flush.ensures.empty

pub returns-clause-firm : goal.returns-clause-firm
returns-clause-firm g c =
    let n = magic ∷ c.args.version ∷ c.args.setup.now.lanes ∷ c.args.setup.now.domains ∷ c.args.setup.now.slots ∷ c.args.setup.now.superpages ∷ c.args.setup.now.nursery ∷ c.args.setup.now.buffer ∷ c.args.setup.now.frames ∷ c.args.phases ∷ [] in
    let h = map (holder_number c.args.setup.now.lanes) c.args.holders.now in
    let b = c.args.births.now in
    let r = c.args.roots.now.words in
    let s = flat_map (superpage_items (listed_cells c.args.space.now)) (numbers_below (superpages c.args.space.now)) in
    let is : image_bytes (heap_listing c.args.version c.args.setup.now c.args.phases c.args.holders.now c.args.births.now c.args.roots.now c.args.space.now) ≡ item_bytes (five n h b r s) =
    image-is (heap_listing c.args.version c.args.setup.now c.args.phases c.args.holders.now c.args.births.now c.args.roots.now c.args.space.now) ∙ ap (λ (m : ℕ). item_bytes (five n h b r (flat_map (superpage_items (listed_cells c.args.space.now)) (numbers_below m)))) (sym c.requires.superpages) in
    let h1 = c.in_ok-put_numbers.ensures.puts in
    let h2 = puts-piece _ _ _ (n ++ h) n h refl h1 c.in_ok-put_holders.ensures.puts in
    let h3 = puts-piece _ _ _ ((n ++ h) ++ b) (n ++ h) b refl h2 c.in_ok-put_births.ensures.puts in
    let h4 = puts-piece _ _ _ (((n ++ h) ++ b) ++ r) ((n ++ h) ++ b) r refl h3 (rw c.words.ensures.words at c.in_ok-put_all.ensures.puts) in
    let h5 = puts-piece _ _ _ ((((n ++ h) ++ b) ++ r) ++ s) (((n ++ h) ++ b) ++ r) s refl h4 c.in_ok-put_superpages.ensures.puts in
    on-ok-both _ _ _ c.flush.result (λ k none. (written _ _ _ (image_bytes (heap_listing c.args.version c.args.setup.now c.args.phases c.args.holders.now c.args.births.now c.args.roots.now c.args.space.now)) (five n h b r s) ((((n ++ h) ++ b) ++ r) ++ s) is (all-five n h b r s) c.new-waiting.ensures h5 none k).firm) c.flush.ensures.puts c.flush.ensures.empty

pub returns-clause-front : goal.returns-clause-front
returns-clause-front g c =
    let n = magic ∷ c.args.version ∷ c.args.setup.now.lanes ∷ c.args.setup.now.domains ∷ c.args.setup.now.slots ∷ c.args.setup.now.superpages ∷ c.args.setup.now.nursery ∷ c.args.setup.now.buffer ∷ c.args.setup.now.frames ∷ c.args.phases ∷ [] in
    let h = map (holder_number c.args.setup.now.lanes) c.args.holders.now in
    let b = c.args.births.now in
    let r = c.args.roots.now.words in
    let s = flat_map (superpage_items (listed_cells c.args.space.now)) (numbers_below (superpages c.args.space.now)) in
    let is : image_bytes (heap_listing c.args.version c.args.setup.now c.args.phases c.args.holders.now c.args.births.now c.args.roots.now c.args.space.now) ≡ item_bytes (five n h b r s) =
    image-is (heap_listing c.args.version c.args.setup.now c.args.phases c.args.holders.now c.args.births.now c.args.roots.now c.args.space.now) ∙ ap (λ (m : ℕ). item_bytes (five n h b r (flat_map (superpage_items (listed_cells c.args.space.now)) (numbers_below m)))) (sym c.requires.superpages) in
    let h1 = c.in_ok-put_numbers.ensures.puts in
    let h2 = puts-piece _ _ _ (n ++ h) n h refl h1 c.in_ok-put_holders.ensures.puts in
    let h3 = puts-piece _ _ _ ((n ++ h) ++ b) (n ++ h) b refl h2 c.in_ok-put_births.ensures.puts in
    let h4 = puts-piece _ _ _ (((n ++ h) ++ b) ++ r) ((n ++ h) ++ b) r refl h3 (rw c.words.ensures.words at c.in_ok-put_all.ensures.puts) in
    let h5 = puts-piece _ _ _ ((((n ++ h) ++ b) ++ r) ++ s) (((n ++ h) ++ b) ++ r) s refl h4 c.in_ok-put_superpages.ensures.puts in
    on-err-map _ _ c.flush.result (λ k. (broken-end _ _ _ (image_bytes (heap_listing c.args.version c.args.setup.now c.args.phases c.args.holders.now c.args.births.now c.args.roots.now c.args.space.now)) (five n h b r s) ((((n ++ h) ++ b) ++ r) ++ s) is (all-five n h b r s) c.new-waiting.ensures h5 k).0) c.flush.ensures.breaks

pub returns-clause-cause : goal.returns-clause-cause
returns-clause-cause g c =
    let n = magic ∷ c.args.version ∷ c.args.setup.now.lanes ∷ c.args.setup.now.domains ∷ c.args.setup.now.slots ∷ c.args.setup.now.superpages ∷ c.args.setup.now.nursery ∷ c.args.setup.now.buffer ∷ c.args.setup.now.frames ∷ c.args.phases ∷ [] in
    let h = map (holder_number c.args.setup.now.lanes) c.args.holders.now in
    let b = c.args.births.now in
    let r = c.args.roots.now.words in
    let s = flat_map (superpage_items (listed_cells c.args.space.now)) (numbers_below (superpages c.args.space.now)) in
    let is : image_bytes (heap_listing c.args.version c.args.setup.now c.args.phases c.args.holders.now c.args.births.now c.args.roots.now c.args.space.now) ≡ item_bytes (five n h b r s) =
    image-is (heap_listing c.args.version c.args.setup.now c.args.phases c.args.holders.now c.args.births.now c.args.roots.now c.args.space.now) ∙ ap (λ (m : ℕ). item_bytes (five n h b r (flat_map (superpage_items (listed_cells c.args.space.now)) (numbers_below m)))) (sym c.requires.superpages) in
    let h1 = c.in_ok-put_numbers.ensures.puts in
    let h2 = puts-piece _ _ _ (n ++ h) n h refl h1 c.in_ok-put_holders.ensures.puts in
    let h3 = puts-piece _ _ _ ((n ++ h) ++ b) (n ++ h) b refl h2 c.in_ok-put_births.ensures.puts in
    let h4 = puts-piece _ _ _ (((n ++ h) ++ b) ++ r) ((n ++ h) ++ b) r refl h3 (rw c.words.ensures.words at c.in_ok-put_all.ensures.puts) in
    let h5 = puts-piece _ _ _ ((((n ++ h) ++ b) ++ r) ++ s) (((n ++ h) ++ b) ++ r) s refl h4 c.in_ok-put_superpages.ensures.puts in
    on-err-map _ _ c.flush.result (λ k. (broken-end _ _ _ (image_bytes (heap_listing c.args.version c.args.setup.now c.args.phases c.args.holders.now c.args.births.now c.args.roots.now c.args.space.now)) (five n h b r s) ((((n ++ h) ++ b) ++ r) ++ s) is (all-five n h b r s) c.new-waiting.ensures h5 k).1) c.flush.ensures.breaks
