-- An image that is put in five pieces, where nothing waits at either end.
use Rattle.std.proofs.Common.{◌≡◌, ℕ, List, [], ◌++◌, length, Option, Result, Ok, Err, refl, sym, ap, subst, ◌∙◌, append_assoc, append-nil}
use Rattle.std.specs.Result.{OnOk}
use Rattle.bc_io.specs.Faults.{Rose}
use Rattle.bc_io.specs.Told.{HasRoom, HeldGrows, IsPrefix}
use Rattle.bc_io.specs.Pieces.{RoomFalls, TakesFront}
use Rattle.bc_image.specs.Images.{image_bytes, image_items}
use Rattle.bc_image.specs.Listings.{ListingLists}
use Rattle.bc_picture.specs.SpaceListing.{item_bytes}
use Rattle.bc_picture.specs.Streams.{Stream, HasStreamRoom, Puts, Breaks}
use Rattle.bc_picture.proofs.StreamLemmas.{all-taken, front-taken, room-then, puts-then, breaks-then}

pub image-is : (l : ListingLists) → image_bytes l ≡ item_bytes (image_items l)
unfolding image_bytes item_bytes
image-is l = refl

-- five lists one after another, and what they begin with
abbrev pub five : (n h b r s : List ℕ) → List ℕ
five n h b r s = n ++ (((h ++ b) ++ r) ++ s)

pub all-five : (n h b r s : List ℕ) → five n h b r s ≡ (((n ++ h) ++ b) ++ r) ++ s
all-five n h b r s =
    sym (ap (λ (x : List ℕ). (x ++ r) ++ s) (append_assoc n h b) ∙ ap (λ (x : List ℕ). x ++ s) (append_assoc n (h ++ b) r) ∙ append_assoc n ((h ++ b) ++ r) s)

pub first-one : (n h b r s : List ℕ) → IsPrefix n (five n h b r s)
first-one n h b r s = (((h ++ b) ++ r) ++ s, refl)

pub first-two : (n h b r s : List ℕ) → IsPrefix (n ++ h) (five n h b r s)
first-two n h b r s = (b ++ (r ++ s), all-five n h b r s ∙ append_assoc ((n ++ h) ++ b) r s ∙ append_assoc (n ++ h) b (r ++ s))

pub first-three : (n h b r s : List ℕ) → IsPrefix ((n ++ h) ++ b) (five n h b r s)
first-three n h b r s = (r ++ s, all-five n h b r s ∙ append_assoc ((n ++ h) ++ b) r s)

pub first-four : (n h b r s : List ℕ) → IsPrefix (((n ++ h) ++ b) ++ r) (five n h b r s)
first-four n h b r s = (s, all-five n h b r s)

pub first-five : (n h b r s : List ℕ) → IsPrefix ((((n ++ h) ++ b) ++ r) ++ s) (five n h b r s)
first-five n h b r s = ([], all-five n h b r s ∙ sym (append-nil ((((n ++ h) ++ b) ++ r) ++ s)))

-- room at the start, and for what waits at the end
pub room-start : (room : Option ℕ) (ws image bs : List ℕ) → ws ≡ [] → image ≡ bs → HasRoom room (length image) → HasRoom room (length (ws ++ bs))
room-start room ws image bs empty is has = subst (λ (vs : List ℕ). HasRoom room (length (vs ++ bs))) (sym empty) (subst (λ (cs : List ℕ). HasRoom room (length cs)) is has)

pub room-end : (s t : Stream) (all xs : List ℕ) → all ≡ xs → HasStreamRoom s (item_bytes all) → Puts s t (item_bytes xs) → HasStreamRoom t []
room-end s t all xs is room h = room-then s t (item_bytes xs) [] (subst (HasStreamRoom s) (ap item_bytes is ∙ sym (append-nil (item_bytes xs))) room) h

-- all was written
pub record Written (s t : Stream) (image : List ℕ) : Type 0 where
  pub grows : HeldGrows s.held t.held image
  pub falls : RoomFalls s.room t.room (length image)
  pub firm : t.faults ≡ s.faults

pub written : (s t u : Stream) (image : List ℕ) (all xs : List ℕ) → image ≡ item_bytes all → all ≡ xs → s.waiting ≡ [] → Puts s t (item_bytes xs) → u.waiting ≡ [] → Puts t u [] → Written s u image
written s t u image all xs image_is is empty h none k =
    let whole = puts-then s t u (item_bytes xs) [] h k in
    let same : item_bytes xs ++ [] ≡ image = append-nil (item_bytes xs) ∙ sym (image_is ∙ ap item_bytes is) in
    let taken = all-taken s u (item_bytes xs ++ []) empty none whole in
    record {
      grows = subst (HeldGrows s.held u.held) same taken.0;
      falls = subst (λ (bs : List ℕ). RoomFalls s.room u.room (length bs)) same taken.1;
      firm = taken.2;
    }

pub broken : (s t : Stream) (image all : List ℕ) → image ≡ item_bytes all → s.waiting ≡ [] → Breaks s t (item_bytes all) → TakesFront s.held t.held s.room t.room image × Rose s.faults t.faults
broken s t image all is empty h = front-taken s t image empty (subst (Breaks s t) (sym is) h)

-- a fault as the last bytes are written
pub broken-end : (s t u : Stream) (image all xs : List ℕ) → image ≡ item_bytes all → all ≡ xs → s.waiting ≡ [] → Puts s t (item_bytes xs) → Breaks t u [] → TakesFront s.held u.held s.room u.room image × Rose s.faults u.faults
broken-end s t u image all xs image_is is empty h k =
    front-taken s u image empty (subst (Breaks s u) (append-nil (item_bytes xs) ∙ sym (image_is ∙ ap item_bytes is)) (breaks-then s t u (item_bytes xs) [] h k))

pub on-ok-both : {A E : Type 0} (X Y Z : Type 0) (r : Result A E) → (X → Y → Z) → OnOk r X → OnOk r Y → OnOk r Z
on-ok-both X Y Z (Ok a) f x y = f x y
on-ok-both X Y Z (Err e) f x y = tt
