-- Bytes that are put one after another.
use Rattle.std.proofs.Common.{◌≡◌, ℕ, None, Result, Ok, Err, ◌+◌, ◌≤◌, ◌<◌, List, [], ◌∷◌, ◌++◌, length, take, drop, get_or, Option, refl, sym, ap, subst, ◌∙◌, arith, append_assoc, append-nil, length-append}
use Rattle.std.proofs.lemmas.List.{take_more, take_all, take-append-drop}
use Rattle.std.specs.Int.{bytes_high_first}
use Rattle.std.specs.Result.{OnOk, OnErr}
use Rattle.bc_io.specs.Faults.{Rose}
use Rattle.bc_io.specs.Told.{HasRoom, HeldGrows, IsPrefix}
use Rattle.bc_io.specs.Pieces.{RoomFalls, TakesFront}
use Rattle.bc_io.proofs.Telling.{HeldGrows-nil, HeldGrows-more, RoomFalls-none, RoomFalls-more, HasRoom-less, HasRoom-rest, TakesFront-after, TakesFront-append}
use Rattle.bc_image.proofs.Running.{bytes_of-append}
use Rattle.bc_picture.specs.SpaceListing.{item_bytes}
use Rattle.bc_picture.specs.Streams.{Stream, stream_of, HasStreamRoom, Puts, Breaks}

-- what holds of an answer that is a fault, or that is none
pub on-err : {A E : Type 0} (X : Type 0) (r : Result A E) → X → OnErr r X
on-err X (Ok a) x = tt
on-err X (Err e) x = x

pub on-err-map : {A E : Type 0} (X Y : Type 0) (r : Result A E) → (X → Y) → OnErr r X → OnErr r Y
on-err-map X Y (Ok a) f x = tt
on-err-map X Y (Err e) f x = f x

pub on-ok-map : {A E : Type 0} (X Y : Type 0) (r : Result A E) → (X → Y) → OnOk r X → OnOk r Y
on-ok-map X Y (Ok a) f x = f x
on-ok-map X Y (Err e) f x = tt

pub item_bytes-append : (xs ys : List ℕ) → item_bytes (xs ++ ys) ≡ item_bytes xs ++ item_bytes ys
unfolding item_bytes
item_bytes-append xs ys = bytes_of-append xs ys

item_bytes-none : item_bytes [] ≡ []
unfolding item_bytes
item_bytes-none = refl

pub puts-none : (s : Stream) → Puts s s []
puts-none s = record { taken = []; whole = append-nil s.waiting; grows = HeldGrows-nil s.held; falls = RoomFalls-none s.room; firm = refl }

-- where the bytes go, with more after them
whole-more : (s t : Stream) (xs ys : List ℕ) (h : Puts s t xs) → s.waiting ++ (xs ++ ys) ≡ h.taken ++ (t.waiting ++ ys)
whole-more s t xs ys h = sym (append_assoc s.waiting xs ys) ∙ ap (λ (bs : List ℕ). bs ++ ys) h.whole ∙ append_assoc h.taken t.waiting ys

pub puts-then : (s t u : Stream) (xs ys : List ℕ) → Puts s t xs → Puts t u ys → Puts s u (xs ++ ys)
puts-then s t u xs ys h k = record {
  taken = h.taken ++ k.taken;
  whole = whole-more s t xs ys h ∙ ap (λ (bs : List ℕ). h.taken ++ bs) k.whole ∙ sym (append_assoc h.taken k.taken u.waiting);
  grows = HeldGrows-more s.held t.held u.held h.taken k.taken h.grows k.grows;
  falls = subst (RoomFalls s.room u.room) (sym (length-append h.taken k.taken)) (RoomFalls-more s.room t.room u.room (length h.taken) (length k.taken) h.falls k.falls);
  firm = k.firm ∙ h.firm;
}

pub breaks-then : (s t u : Stream) (xs ys : List ℕ) → Puts s t xs → Breaks t u ys → Breaks s u (xs ++ ys)
breaks-then s t u xs ys h k = record {
  front = subst (TakesFront s.held u.held s.room u.room) (sym (whole-more s t xs ys h)) (TakesFront-after s.held t.held u.held s.room t.room u.room h.taken (t.waiting ++ ys) h.grows h.falls k.front);
  rose = subst (λ (n : ℕ). Rose n u.faults) h.firm k.rose;
}

pub breaks-more : (s t : Stream) (xs ys : List ℕ) → Breaks s t xs → Breaks s t (xs ++ ys)
breaks-more s t xs ys h = record {
  front = subst (TakesFront s.held t.held s.room t.room) (append_assoc s.waiting xs ys) (TakesFront-append s.held t.held s.room t.room (s.waiting ++ xs) ys h.front);
  rose = h.rose;
}

pub room-then : (s t : Stream) (xs ys : List ℕ) → HasStreamRoom s (xs ++ ys) → Puts s t xs → HasStreamRoom t ys
room-then s t xs ys room h =
    HasRoom-rest s.room t.room (length h.taken) (length (t.waiting ++ ys))
    (subst (HasRoom s.room) (ap length (whole-more s t xs ys h) ∙ length-append h.taken (t.waiting ++ ys)) room) h.falls

pub room-less : (s : Stream) (xs ys : List ℕ) → HasStreamRoom s (xs ++ ys) → HasStreamRoom s xs
room-less s xs ys room =
    let longer : length (s.waiting ++ (xs ++ ys)) ≡ length (s.waiting ++ xs) + length ys = ap length (sym (append_assoc s.waiting xs ys)) ∙ length-append (s.waiting ++ xs) ys in
    HasRoom-less s.room (length (s.waiting ++ xs)) (length (s.waiting ++ (xs ++ ys))) (omega arith) room

-- what waits is written
pub puts-flushed : (held more : Option (List ℕ)) (room less : Option ℕ) (before after : ℕ) (ws vs : List ℕ) → vs ≡ [] → HeldGrows held more ws → RoomFalls room less (length ws) → after ≡ before → Puts (stream_of held room before ws) (stream_of more less after vs) []
puts-flushed held more room less before after ws vs empty grows falls firm =
    record { taken = ws; whole = ap (λ (bs : List ℕ). ws ++ bs) (sym empty); grows = grows; falls = falls; firm = firm }

pub breaks-flushed : (held more : Option (List ℕ)) (room less : Option ℕ) (before after : ℕ) (ws vs : List ℕ) → TakesFront held more room less ws → Rose before after → Breaks (stream_of held room before ws) (stream_of more less after vs) []
breaks-flushed held more room less before after ws vs front rose =
    record { front = subst (TakesFront held more room less) (sym (append-nil ws)) front; rose = rose }

-- an item waits after the others
pub puts-pushed : (s : Stream) (item : ℕ) (vs : List ℕ) → vs ≡ s.waiting ++ bytes_high_first 8 item → Puts s (record s { waiting = vs }) (item_bytes (item ∷ []))
unfolding item_bytes
puts-pushed s item vs pushed =
    record { taken = []; whole = ap (λ (bs : List ℕ). s.waiting ++ bs) (append-nil (bytes_high_first 8 item)) ∙ sym pushed; grows = HeldGrows-nil s.held; falls = RoomFalls-none s.room; firm = refl }

-- no item was put yet
pub puts-start : (s : Stream) → Puts s s (item_bytes [])
puts-start s = subst (Puts s s) (sym item_bytes-none) (puts-none s)

-- ---- pieces of a list of items

pub bytes-prefix : (xs ys : List ℕ) → IsPrefix xs ys → IsPrefix (item_bytes xs) (item_bytes ys)
bytes-prefix xs ys p = (item_bytes p.0, ap item_bytes p.1 ∙ item_bytes-append xs p.0)

-- there is room for the next piece
pub room-piece : (s t : Stream) (all xs ys : List ℕ) → IsPrefix (xs ++ ys) all → HasStreamRoom s (item_bytes all) → Puts s t (item_bytes xs) → HasStreamRoom t (item_bytes ys)
room-piece s t all xs ys p room h =
    let whole : item_bytes all ≡ (item_bytes xs ++ item_bytes ys) ++ item_bytes p.0 = ap item_bytes p.1 ∙ item_bytes-append (xs ++ ys) p.0 ∙ ap (λ (bs : List ℕ). bs ++ item_bytes p.0) (item_bytes-append xs ys) in
    room-then s t (item_bytes xs) (item_bytes ys) (room-less s (item_bytes xs ++ item_bytes ys) (item_bytes p.0) (subst (HasStreamRoom s) whole room)) h

-- a fault in the next piece is one in the whole
pub breaks-piece : (s t u : Stream) (all xs ys : List ℕ) → IsPrefix (xs ++ ys) all → Puts s t (item_bytes xs) → Breaks t u (item_bytes ys) → Breaks s u (item_bytes all)
breaks-piece s t u all xs ys p h k =
    let whole : item_bytes all ≡ (item_bytes xs ++ item_bytes ys) ++ item_bytes p.0 = ap item_bytes p.1 ∙ item_bytes-append (xs ++ ys) p.0 ∙ ap (λ (bs : List ℕ). bs ++ item_bytes p.0) (item_bytes-append xs ys) in
    subst (Breaks s u) (sym whole) (breaks-more s u (item_bytes xs ++ item_bytes ys) (item_bytes p.0) (breaks-then s t u (item_bytes xs) (item_bytes ys) h k))

pub puts-piece : (s t u : Stream) (all xs ys : List ℕ) → all ≡ xs ++ ys → Puts s t (item_bytes xs) → Puts t u (item_bytes ys) → Puts s u (item_bytes all)
puts-piece s t u all xs ys is h k =
    subst (Puts s u) (sym (ap item_bytes is ∙ item_bytes-append xs ys)) (puts-then s t u (item_bytes xs) (item_bytes ys) h k)

-- ---- a loop over a list, each of which gives one item

pub next-is : (xs : List ℕ) (i : ℕ) → i < length xs → take (i + 1) xs ≡ take i xs ++ get_or xs i 0 ∷ []
next-is xs i lt = take_more xs i 0 lt

pub next-prefix : (xs : List ℕ) (i : ℕ) → i < length xs → IsPrefix (take i xs ++ get_or xs i 0 ∷ []) xs
next-prefix xs i lt = (drop (i + 1) xs, sym (take-append-drop (i + 1) xs) ∙ ap (λ (ys : List ℕ). ys ++ drop (i + 1) xs) (take_more xs i 0 lt))

pub room-next : (s t : Stream) (xs : List ℕ) (i : ℕ) → i < length xs → HasStreamRoom s (item_bytes xs) → Puts s t (item_bytes (take i xs)) → HasStreamRoom t (item_bytes (get_or xs i 0 ∷ []))
room-next s t xs i lt room h = room-piece s t xs (take i xs) (get_or xs i 0 ∷ []) (next-prefix xs i lt) room h

pub breaks-next : (s t u : Stream) (xs : List ℕ) (i : ℕ) → i < length xs → Puts s t (item_bytes (take i xs)) → Breaks t u (item_bytes (get_or xs i 0 ∷ [])) → Breaks s u (item_bytes xs)
breaks-next s t u xs i lt h k = breaks-piece s t u xs (take i xs) (get_or xs i 0 ∷ []) (next-prefix xs i lt) h k

pub puts-next : (s t u : Stream) (xs : List ℕ) (i : ℕ) → i < length xs → Puts s t (item_bytes (take i xs)) → Puts t u (item_bytes (get_or xs i 0 ∷ [])) → Puts s u (item_bytes (take (i + 1) xs))
puts-next s t u xs i lt h k = puts-piece s t u (take (i + 1) xs) (take i xs) (get_or xs i 0 ∷ []) (next-is xs i lt) h k

pub puts-end : (s t : Stream) (xs : List ℕ) (i : ℕ) → length xs ≤ i → Puts s t (item_bytes (take i xs)) → Puts s t (item_bytes xs)
puts-end s t xs i le h = subst (λ (ys : List ℕ). Puts s t (item_bytes ys)) (take_all i xs le) h

-- the same items, said otherwise
pub puts-is : (s t : Stream) (xs ys : List ℕ) → xs ≡ ys → Puts s t (item_bytes ys) → Puts s t (item_bytes xs)
puts-is s t xs ys is h = subst (λ (zs : List ℕ). Puts s t (item_bytes zs)) (sym is) h

-- room for all is room for the first, and for none
pub room-first : (room : Option ℕ) (ws all ys : List ℕ) → IsPrefix ys all → HasRoom room (length (ws ++ item_bytes all)) → HasRoom room (length (ws ++ item_bytes ys))
room-first room ws all ys p has =
    room-less (stream_of (None) room 0 ws) (item_bytes ys) (item_bytes p.0) (subst (λ (bs : List ℕ). HasRoom room (length (ws ++ bs))) (ap item_bytes p.1 ∙ item_bytes-append ys p.0) has)

pub room-none : (room : Option ℕ) (ws bs : List ℕ) → HasRoom room (length (ws ++ bs)) → HasRoom room (length (ws ++ []))
room-none room ws bs has = room-less (stream_of (None) room 0 ws) [] bs has

-- a fault in the first piece
pub breaks-first : (s t : Stream) (all ys : List ℕ) → IsPrefix ys all → Breaks s t (item_bytes ys) → Breaks s t (item_bytes all)
breaks-first s t all ys p h = breaks-piece s s t all [] ys p (puts-start s) h

-- from nothing that waits to nothing that waits, all was taken
pub all-taken : (s t : Stream) (bs : List ℕ) → s.waiting ≡ [] → t.waiting ≡ [] → Puts s t bs → HeldGrows s.held t.held bs × RoomFalls s.room t.room (length bs) × (t.faults ≡ s.faults)
all-taken s t bs empty none h =
    let is : bs ≡ h.taken = ap (λ (ws : List ℕ). ws ++ bs) (sym empty) ∙ h.whole ∙ ap (λ (ws : List ℕ). h.taken ++ ws) none ∙ append-nil h.taken in
    (subst (HeldGrows s.held t.held) (sym is) h.grows, subst (λ (cs : List ℕ). RoomFalls s.room t.room (length cs)) (sym is) h.falls, h.firm)

pub front-taken : (s t : Stream) (bs : List ℕ) → s.waiting ≡ [] → Breaks s t bs → TakesFront s.held t.held s.room t.room bs × Rose s.faults t.faults
front-taken s t bs empty h = (subst (TakesFront s.held t.held s.room t.room) (ap (λ (ws : List ℕ). ws ++ bs) empty) h.front, h.rose)

pub breaks-is : (s t : Stream) (xs ys : List ℕ) → xs ≡ ys → Breaks s t (item_bytes ys) → Breaks s t (item_bytes xs)
breaks-is s t xs ys is h = subst (λ (zs : List ℕ). Breaks s t (item_bytes zs)) (sym is) h

pub room-is : (room : Option ℕ) (ws xs ys : List ℕ) → xs ≡ ys → HasRoom room (length (ws ++ item_bytes xs)) → HasRoom room (length (ws ++ item_bytes ys))
room-is room ws xs ys is has = subst (λ (zs : List ℕ). HasRoom room (length (ws ++ item_bytes zs))) is has
