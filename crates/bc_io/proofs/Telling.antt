-- Several reads, or several writes, are seen as one.
use Rattle.std.proofs.Common.{◌≡◌, ℕ, ◌+◌, ◌-◌, ◌≤◌, List, [], ◌++◌, length, take, drop, Option, None, Some, refl, sym, ap, ◌∙◌, subst, append_assoc, append-nil, arith, length-append}
use Rattle.std.proofs.Math.Seq.{take-append-add}
use Rattle.std.proofs.lemmas.List.{take_rest, take-append-le}
use lib.Seq.{take-take}
use Rattle.std.specs.Prelude.{option_map}
use Rattle.std.specs.Io.KnownBytes.{append_known, prepend_known}
use Rattle.bc_io.specs.Told.{LeftFalls, HeldGrows, HasRoom, IsPrefix, GivesAtMost, GivesExactly}
use Rattle.bc_io.specs.Pieces.{RoomFalls, TakesFront}

-- ---- what a sink holds

append_known-append : (a : Option (List ℕ)) (xs ys : List ℕ) → append_known (append_known a xs) ys ≡ append_known a (xs ++ ys)
append_known-append None xs ys = refl
append_known-append (Some held) xs ys = ap Some (append_assoc held xs ys)

append_known-nil : (a : Option (List ℕ)) → append_known a [] ≡ a
append_known-nil None = refl
append_known-nil (Some held) = ap Some (append-nil held)

-- nothing was taken
pub HeldGrows-nil : (a : Option (List ℕ)) → HeldGrows a a []
HeldGrows-nil a = sym (append_known-nil a)

-- these bytes were taken, and then those
pub HeldGrows-more : (a b c : Option (List ℕ)) (xs ys : List ℕ) → HeldGrows a b xs → HeldGrows b c ys → HeldGrows a c (xs ++ ys)
HeldGrows-more a b c xs ys p q = q ∙ ap (λ known. append_known known ys) p ∙ append_known-append a xs ys

-- ---- the room that a sink has

room_after_both : (a : Option ℕ) (m n : ℕ) → option_map (λ room. room - n) (option_map (λ room. room - m) a) ≡ option_map (λ room. room - (m + n)) a
room_after_both None m n = refl
room_after_both (Some room) m n = let e : room - m - n ≡ room - (m + n) = omega arith in ap Some e

-- no room was taken
pub RoomFalls-none : (a : Option ℕ) → RoomFalls a a 0
RoomFalls-none None = refl
RoomFalls-none (Some room) = let e : room ≡ room - 0 = omega arith in ap Some e

-- the room fell by m, and then by n
pub RoomFalls-more : (a b c : Option ℕ) (m n : ℕ) → RoomFalls a b m → RoomFalls b c n → RoomFalls a c (m + n)
RoomFalls-more a b c m n p q = q ∙ ap (λ told. option_map (λ room. room - n) told) p ∙ room_after_both a m n

-- room for more is room for less
pub HasRoom-less : (a : Option ℕ) (m n : ℕ) → m ≤ n → HasRoom a n → HasRoom a m
HasRoom-less None m n le room = tt
HasRoom-less (Some _) m n le room = omega arith

has_rest : (a : Option ℕ) (m n : ℕ) → HasRoom a (m + n) → HasRoom (option_map (λ room. room - m) a) n
has_rest None m n room = tt
has_rest (Some _) m n room = omega arith

-- where there was room for both, there is room for the second after the first
pub HasRoom-rest : (a b : Option ℕ) (m n : ℕ) → HasRoom a (m + n) → RoomFalls a b m → HasRoom b n
HasRoom-rest a b m n room falls = subst (λ told. HasRoom told n) (sym falls) (has_rest a m n room)

-- there is room for what comes after the bytes that were taken, where there was room for all
pub HasRoom-next : (a b : Option ℕ) (xs ys zs : List ℕ) → HasRoom a (length (xs ++ ys ++ zs)) → RoomFalls a b (length xs) → HasRoom b (length ys)
HasRoom-next a b xs ys zs room falls =
    let both = length-append (xs ++ ys) zs in
    let first = length-append xs ys in
    HasRoom-rest a b (length xs) (length ys) (HasRoom-less a (length xs + length ys) (length (xs ++ ys ++ zs)) (omega (arith, both, first)) room) falls

-- ---- what a source has left

prepend_known-append : (a : Option (List ℕ)) (xs ys : List ℕ) → prepend_known xs (prepend_known ys a) ≡ prepend_known (xs ++ ys) a
prepend_known-append None xs ys = refl
prepend_known-append (Some left) xs ys = ap Some (sym (append_assoc xs ys left))

-- nothing was given
pub LeftFalls-nil : (a : Option (List ℕ)) → LeftFalls a a []
LeftFalls-nil None = refl
LeftFalls-nil (Some left) = refl

-- these bytes were given, and then those
pub LeftFalls-more : (a b c : Option (List ℕ)) (xs ys : List ℕ) → LeftFalls a b xs → LeftFalls b c ys → LeftFalls a c (xs ++ ys)
LeftFalls-more a b c xs ys p q = p ∙ ap (λ known. prepend_known xs known) q ∙ prepend_known-append c xs ys

-- ---- prefixes

pub IsPrefix-refl : (xs : List ℕ) → IsPrefix xs xs
IsPrefix-refl xs = ([], sym (append-nil xs))

pub IsPrefix-nil : (xs : List ℕ) → IsPrefix [] xs
IsPrefix-nil xs = (xs, refl)

-- a prefix of a prefix is a prefix
pub IsPrefix-trans : (xs ys zs : List ℕ) → IsPrefix xs ys → IsPrefix ys zs → IsPrefix xs zs
IsPrefix-trans xs ys zs p q = (p.0 ++ q.0, q.1 ∙ ap (λ front. front ++ q.0) p.1 ∙ append_assoc xs p.0 q.0)

-- bytes are a prefix of themselves and more
pub IsPrefix-append : (xs ys : List ℕ) → IsPrefix xs (xs ++ ys)
IsPrefix-append xs ys = (ys, refl)

-- after the same bytes, a prefix stays a prefix
pub append-IsPrefix : (xs ys zs : List ℕ) → IsPrefix ys zs → IsPrefix (xs ++ ys) (xs ++ zs)
append-IsPrefix xs ys zs p = (p.0, ap (λ rest. xs ++ rest) p.1 ∙ sym (append_assoc xs ys p.0))

-- ---- a write that met a fault

-- whole bytes were taken, and then a prefix of others: a prefix of both
pub TakesFront-after : (a b c : Option (List ℕ)) (k l m : Option ℕ) (xs ys : List ℕ) → HeldGrows a b xs → RoomFalls k l (length xs)
    → TakesFront b c l m ys → TakesFront a c k m (xs ++ ys)
TakesFront-after a b c k l m xs ys grows falls front = record {
  taken = xs ++ front.taken;
  rest = front.rest;
  whole = ap (λ rest. xs ++ rest) front.whole ∙ sym (append_assoc xs front.taken front.rest);
  not_all = front.not_all;
  grows = HeldGrows-more a b c xs front.taken grows front.grows;
  falls = subst (λ n. RoomFalls k m n) (sym (length-append xs front.taken)) (RoomFalls-more k l m (length xs) (length front.taken) falls front.falls);
}

-- a prefix of these bytes is a prefix of them and more
pub TakesFront-append : (a b : Option (List ℕ)) (k l : Option ℕ) (xs ys : List ℕ) → TakesFront a b k l xs → TakesFront a b k l (xs ++ ys)
TakesFront-append a b k l xs ys front = record {
  taken = front.taken;
  rest = front.rest ++ ys;
  whole = ap (λ bytes. bytes ++ ys) front.whole ∙ append_assoc front.taken front.rest ys;
  not_all = let more : length (front.rest ++ ys) ≡ length front.rest + length ys = length-append front.rest ys in omega (arith, front.not_all);
  grows = front.grows;
  falls = front.falls;
}

-- what was taken is a prefix
pub TakesFront-IsPrefix : (a b : Option (List ℕ)) (k l : Option ℕ) (xs : List ℕ) (front : TakesFront a b k l xs) → IsPrefix front.taken xs
TakesFront-IsPrefix a b k l xs front = (front.rest, front.whole)

-- ---- a source that gave so many bytes at most

pub GivesAtMost-nil : (a : Option (List ℕ)) (most : ℕ) → GivesAtMost a a most
GivesAtMost-nil a most = record { given = []; count = omega arith; falls = LeftFalls-nil a }

-- more is allowed
pub GivesAtMost-more : (a b : Option (List ℕ)) (m n : ℕ) → m ≤ n → GivesAtMost a b m → GivesAtMost a b n
GivesAtMost-more a b m n le gives = record { given = gives.given; count = omega (arith, gives.count); falls = gives.falls }

-- just so many are at most so many
pub GivesAtMost-from_exactly : (a b : Option (List ℕ)) (n : ℕ) → GivesExactly a b n → GivesAtMost a b n
GivesAtMost-from_exactly a b n gives = record { given = gives.given; count = omega (arith, gives.counted); falls = gives.falls }

-- so many were given, and then these: their number is the sum
pub GivesExactly-more : (a b c : Option (List ℕ)) (xs ys : List ℕ) (n : ℕ) → LeftFalls a b xs → LeftFalls b c ys → length xs + length ys ≡ n → GivesExactly a c n
GivesExactly-more a b c xs ys n p q sum = record {
  given = xs ++ ys;
  counted = length-append xs ys ∙ sum;
  falls = LeftFalls-more a b c xs ys p q;
}

-- ---- parts of lists

-- the first m of the rest
pub take-take_rest : (xs : List ℕ) (i m : ℕ) → take m (take (length xs - i) (drop i xs)) ≡ take m (drop i xs)
take-take_rest xs i m = rw take_rest refl

-- bytes were written over those after `front`: they are what stands there
pub take-written : (front read behind rest : List ℕ) (len filled count : ℕ) → length front ≡ filled → count ≤ length read → filled + count ≤ len
    → take (filled + count) (take len (front ++ (read ++ behind) ++ rest)) ≡ front ++ take count read
take-written front read behind rest len filled count at within short =
    take-take (filled + count) len (front ++ (read ++ behind) ++ rest) short
    ∙ ap (λ bytes. take (filled + count) bytes) (append_assoc front (read ++ behind) rest ∙ ap (λ bytes. front ++ bytes) (append_assoc read behind rest))
    ∙ ap (λ n. take (n + count) (front ++ (read ++ (behind ++ rest)))) (sym at)
    ∙ take-append-add front (read ++ (behind ++ rest)) count
    ∙ ap (λ bytes. front ++ bytes) (take-append-le count read (behind ++ rest) within)
