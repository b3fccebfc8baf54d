-- A text shows the replies that it spells: each line is one reply's, and the lines of lanes, phases and the end are no reply's.
use Rattle.std.proofs.Common.{◌≡◌, ◌≢◌, ℕ, suc, ◌^◌, ◌<◌, ◌≤◌, true, false, ◌==◌, eqb, leb, if◌then◌else◌, List, [], ◌∷◌, ◌++◌, get_or, drop, refl, sym, ap, ap₂, ◌∙◌, append_assoc, inl, inr, arith}
use Rattle.std.specs.Prelude.{codes}
use Rattle.std.specs.List.{AllByRecursion, flat_map, list_all, slice_split}
use Rattle.std.specs.Char.{is_ascii_digit}
use Rattle.std.specs.Fmt.{decimal}
use Rattle.std.specs.Str.{all_ascii_digits}
use Rattle.std.proofs.lemmas.Bool.{and_parts, leb-true, ne_eqb}
use Rattle.std.proofs.lemmas.Fmt.{decimal_injective, digits_decimal, digits_value-decimal}
use Rattle.std.proofs.lemmas.List.{append_cancel_left, append_cancel_right}
use Rattle.std.proofs.lemmas.List.Elements.{All-from_recursion}
use Rattle.std.proofs.lemmas.List.Splits.{slice_split_at, slice_split_none}
use Rattle.bc_model.specs.declared.operations.Reply.{Reply}
use Rattle.bc_model.specs.declared.operations.Reply.TheVariants as replies
use Rattle.bc_model.specs.declared.values.Birth.{Birth}
use Rattle.bc_trace.specs.Reading.{read_on}
use Rattle.bc_trace.specs.Replies.{reply_word, reply_text, lane_text, lanes_text, phase_text, phases_text, done_text, out_of_heap_text}
use Rattle.bc_trace.specs.ReplyRanges.{FitsReply, FitsPhase, IsLastLine}
use Rattle.bc_trace.proofs.Meaning.{own}

-- ---- digits

-- a byte that isn't among the bytes
abbrev Lacks : ℕ → List ℕ → Type 0
Lacks c bytes = AllByRecursion (λ b. b ≢ c) bytes

Lacks-append : (c : ℕ) (xs ys : List ℕ) → Lacks c xs → Lacks c ys → Lacks c (xs ++ ys)
Lacks-append c [] ys h g = g
Lacks-append c (x ∷ xs) ys h g = (h.0, Lacks-append c xs ys h.1 g)

Lacks-digits : (c : ℕ) (bytes : List ℕ) → c < 48 → all_ascii_digits bytes ≡ true → Lacks c bytes
Lacks-digits c [] small e = tt
Lacks-digits c (b ∷ bs) small e =
    let both = and_parts (is_ascii_digit b) (all_ascii_digits bs) e in
    let low : 48 ≤ b = leb-true 48 b (and_parts (leb 48 b) (leb b 57) both.0).0 in
    (λ is. absurd (omega arith), Lacks-digits c bs small both.1)

Lacks-decimal : (c n : ℕ) → c < 48 → n < 2 ^ 64 → Lacks c (decimal n)
Lacks-decimal c n small h = Lacks-digits c (decimal n) small (digits_decimal own n h)

Lacks-tests : (c : ℕ) (bytes : List ℕ) → Lacks c bytes → AllByRecursion (λ b. eqb b c ≡ false) bytes
Lacks-tests c [] h = tt
Lacks-tests c (b ∷ bs) h = (ne_eqb b c h.0, Lacks-tests c bs h.1)

-- ---- a reply, read from its word

abbrev birth_in : List (List ℕ) → Birth
birth_in parts = record { lane = read_on 0 (get_or parts 0 []); serial = read_on 0 (get_or parts 1 []) }

-- by the first three bytes, and what stands after the fourth
abbrev reply_by : ℕ → ℕ → ℕ → List ℕ → Reply
reply_by a b c rest =
    if a == 111 then (if b == 98 then replies.Obj (birth_in (slice_split (λ x. eqb x 46) rest)) else replies.Done)
    else if a == 110 then (if b == 105 then replies.Nil else if b == 117 then replies.Num (read_on 0 rest) else if c == 116 then replies.NotObj else replies.No)
    else if a == 114 then (if b == 101 then replies.Ref else replies.Range)
    else if a == 108 then replies.Len (read_on 0 rest)
    else if a == 121 then replies.Yes
    else if c == 111 then replies.Frozen
    else replies.Foreign

abbrev reply_in : List ℕ → Reply
reply_in word = reply_by (get_or word 0 0) (get_or word 1 0) (get_or word 2 0) (drop 4 word)

-- the two numbers of a birth
split_birth : (l s : ℕ) → l < 2 ^ 64 → s < 2 ^ 64 → slice_split (λ x. eqb x 46) (decimal l ++ 46 ∷ decimal s) ≡ decimal l ∷ decimal s ∷ []
split_birth l s hl hs =
    slice_split_at (λ x. eqb x 46) (decimal l) 46 (decimal s) (All-from_recursion (λ x. eqb x 46 ≡ false) (decimal l) (Lacks-tests 46 (decimal l) (Lacks-decimal 46 l (omega arith) hl))) refl
    ∙ ap (λ (ps : List (List ℕ)). decimal l ∷ ps) (slice_split_none (λ x. eqb x 46) (decimal s) (All-from_recursion (λ x. eqb x 46 ≡ false) (decimal s) (Lacks-tests 46 (decimal s) (Lacks-decimal 46 s (omega arith) hs))))

reply_in-word : (r : Reply) → FitsReply r → reply_in (reply_word r) ≡ r
unfolding reply_word
reply_in-word (replies.Obj b) h =
    ap (λ (w : List ℕ). replies.Obj (birth_in (slice_split (λ x. eqb x 46) w))) (append_assoc (decimal b.lane) (46 ∷ []) (decimal b.serial))
    ∙ ap (λ (ps : List (List ℕ)). replies.Obj (birth_in ps)) (split_birth b.lane b.serial h.0 h.1)
    ∙ ap₂ (λ (l s : ℕ). let x : Birth = record { lane = l; serial = s } in replies.Obj x) (digits_value-decimal own b.lane h.0) (digits_value-decimal own b.serial h.1)
reply_in-word (replies.Num v) h = ap replies.Num (digits_value-decimal own v h)
reply_in-word (replies.Len n) h = ap replies.Len (digits_value-decimal own n h)
reply_in-word replies.Done h = refl
reply_in-word replies.Nil h = refl
reply_in-word replies.Ref h = refl
reply_in-word replies.Yes h = refl
reply_in-word replies.No h = refl
reply_in-word replies.NotObj h = refl
reply_in-word replies.Range h = refl
reply_in-word replies.Foreign h = refl
reply_in-word replies.Frozen h = refl

-- ---- a line

Lacks-known : (bytes : List ℕ) → list_all (λ b. leb 11 b) bytes ≡ true → Lacks 10 bytes
Lacks-known [] e = tt
Lacks-known (b ∷ bs) e =
    let both = and_parts (leb 11 b) (list_all (λ x. leb 11 x) bs) e in
    let low : 11 ≤ b = leb-true 11 b both.0 in
    (λ is. absurd (omega arith), Lacks-known bs both.1)

Lacks-word : (r : Reply) → FitsReply r → Lacks 10 (reply_word r)
unfolding reply_word
Lacks-word (replies.Obj b) h =
    Lacks-append 10 (codes "obj " ++ decimal b.lane ++ codes ".") (decimal b.serial)
    (Lacks-append 10 (codes "obj " ++ decimal b.lane) (codes ".")
    (Lacks-append 10 (codes "obj ") (decimal b.lane) (Lacks-known (codes "obj ") refl) (Lacks-decimal 10 b.lane (omega arith) h.0))
    (Lacks-known (codes ".") refl))
    (Lacks-decimal 10 b.serial (omega arith) h.1)
Lacks-word (replies.Num v) h = Lacks-append 10 (codes "num ") (decimal v) (Lacks-known (codes "num ") refl) (Lacks-decimal 10 v (omega arith) h)
Lacks-word (replies.Len n) h = Lacks-append 10 (codes "len ") (decimal n) (Lacks-known (codes "len ") refl) (Lacks-decimal 10 n (omega arith) h)
Lacks-word replies.Done h = Lacks-known (codes "ok") refl
Lacks-word replies.Nil h = Lacks-known (codes "nil") refl
Lacks-word replies.Ref h = Lacks-known (codes "ref") refl
Lacks-word replies.Yes h = Lacks-known (codes "yes") refl
Lacks-word replies.No h = Lacks-known (codes "no") refl
Lacks-word replies.NotObj h = Lacks-known (codes "notobj") refl
Lacks-word replies.Range h = Lacks-known (codes "range") refl
Lacks-word replies.Foreign h = Lacks-known (codes "foreign") refl
Lacks-word replies.Frozen h = Lacks-known (codes "frozen") refl

-- two texts are cut at their first line feed
cut_alike : (c : ℕ) (xs ys a b : List ℕ) → Lacks c xs → Lacks c ys → xs ++ c ∷ a ≡ ys ++ c ∷ b → (xs ≡ ys) × (a ≡ b)
cut_alike c [] [] a b h g e = (refl, cc)
cut_alike c [] (y ∷ ys) a b h g e = absurd (g.0 cc)
cut_alike c (x ∷ xs) [] a b h g e = absurd (h.0 cc)
cut_alike c (x ∷ xs) (y ∷ ys) a b h g e =
    let rest = cut_alike c xs ys a b h.1 g.1 cc in
    (cc, rest.1)

-- one reply before each
one_reply : (r q : Reply) (a b : List ℕ) → FitsReply r → FitsReply q → reply_text r ++ a ≡ reply_text q ++ b → (r ≡ q) × (a ≡ b)
one_reply r q a b h g e =
    let same = cut_alike 10 (reply_word r) (reply_word q) a b (Lacks-word r h) (Lacks-word q g)
    (sym (append_assoc (reply_word r) (10 ∷ []) a) ∙ e ∙ append_assoc (reply_word q) (10 ∷ []) b) in
    (sym (reply_in-word r h) ∙ ap reply_in same.0 ∙ reply_in-word q g, same.1)

pub same_line : (r q : Reply) → FitsReply r → FitsReply q → reply_text r ≡ reply_text q → r ≡ q
same_line r q h g e = (one_reply r q [] [] h g (ap (λ (t : List ℕ). t ++ []) e)).0

-- ---- what a text begins with

-- 0 a reply, 1 a lane, 2 a phase, 3 one of the last lines or nothing
abbrev sort_by : ℕ → ℕ → ℕ
sort_by a b =
    if a == 112 then 2
    else if a == 0 then 3
    else if a == 100 then 3
    else if a == 108 then (if b == 97 then 1 else 0)
    else if a == 111 then (if b == 117 then 3 else 0)
    else 0

abbrev sort_of : List ℕ → ℕ
sort_of text = sort_by (get_or text 0 0) (get_or text 1 0)

sort-reply : (r : Reply) (a : List ℕ) → sort_of (reply_text r ++ a) ≡ 0
unfolding reply_word
sort-reply (replies.Obj b) a = refl
sort-reply (replies.Num v) a = refl
sort-reply (replies.Len n) a = refl
sort-reply replies.Done a = refl
sort-reply replies.Nil a = refl
sort-reply replies.Ref a = refl
sort-reply replies.Yes a = refl
sort-reply replies.No a = refl
sort-reply replies.NotObj a = refl
sort-reply replies.Range a = refl
sort-reply replies.Foreign a = refl
sort-reply replies.Frozen a = refl

sort-lane : (j : ℕ) (rs : List Reply) (a : List ℕ) → sort_of (lane_text j rs ++ a) ≡ 1
unfolding lane_text
sort-lane j rs a = refl

sort-phase : (k : ℕ) (ps : List (List Reply)) (a : List ℕ) → sort_of (phase_text k ps ++ a) ≡ 2
unfolding phase_text
sort-phase k ps a = refl

sort-last_line : (x : List ℕ) → IsLastLine x → sort_of x ≡ 3
unfolding done_text out_of_heap_text
sort-last_line x (inl e) = ap sort_of e
sort-last_line x (inr (inl e)) = ap sort_of e
sort-last_line x (inr (inr h)) = ap sort_of h.1

sort-lanes : (j : ℕ) (ps : List (List Reply)) (a : List ℕ) → 2 ≤ sort_of a → 1 ≤ sort_of (lanes_text j ps ++ a)
sort-lanes j [] a h = omega arith
sort-lanes j (p ∷ ps) a h =
    omega (arith, ap sort_of (append_assoc (lane_text j p) (lanes_text (suc j) ps) a), sort-lane j p (lanes_text (suc j) ps ++ a))

sort-phases : (k : ℕ) (ps : List (List (List Reply))) (x : List ℕ) → IsLastLine x → 2 ≤ sort_of (phases_text k ps ++ x)
unfolding phases_text
sort-phases k [] x h = omega (arith, sort-last_line x h)
sort-phases k (p ∷ ps) x h =
    omega (arith, ap sort_of (append_assoc (phase_text k p) (phases_text (suc k) ps) x), sort-phase k p (phases_text (suc k) ps ++ x))

-- ---- replies, lanes and phases before what is none

same_replies : (rs qs : List Reply) (a b : List ℕ) → AllByRecursion FitsReply rs → AllByRecursion FitsReply qs → 1 ≤ sort_of a → 1 ≤ sort_of b → flat_map reply_text rs ++ a ≡ flat_map reply_text qs ++ b → (rs ≡ qs) × (a ≡ b)
same_replies [] [] a b h g ha hb e = (refl, e)
same_replies [] (q ∷ qs) a b h g ha hb e =
    absurd (omega (arith, ap sort_of (e ∙ append_assoc (reply_text q) (flat_map reply_text qs) b), sort-reply q (flat_map reply_text qs ++ b)))
same_replies (r ∷ rs) [] a b h g ha hb e =
    absurd (omega (arith, ap sort_of (sym e ∙ append_assoc (reply_text r) (flat_map reply_text rs) a), sort-reply r (flat_map reply_text rs ++ a)))
same_replies (r ∷ rs) (q ∷ qs) a b h g ha hb e =
    let first = one_reply r q (flat_map reply_text rs ++ a) (flat_map reply_text qs ++ b) h.0 g.0
    (sym (append_assoc (reply_text r) (flat_map reply_text rs) a) ∙ e ∙ append_assoc (reply_text q) (flat_map reply_text qs) b) in
    let rest = same_replies rs qs a b h.1 g.1 ha hb first.1 in
    (ap₂ (λ (x : Reply) (xs : List Reply). x ∷ xs) first.0 rest.0, rest.1)

-- one line before both
same_behind : (line s t a b : List ℕ) → (line ++ s) ++ a ≡ (line ++ t) ++ b → s ++ a ≡ t ++ b
same_behind line s t a b e = append_cancel_left line (s ++ a) (t ++ b) (sym (append_assoc line s a) ∙ e ∙ append_assoc line t b)

same_lanes : (j : ℕ) (ps qs : List (List Reply)) (a b : List ℕ) → FitsPhase ps → FitsPhase qs → 2 ≤ sort_of a → 2 ≤ sort_of b → lanes_text j ps ++ a ≡ lanes_text j qs ++ b → (ps ≡ qs) × (a ≡ b)
unfolding lane_text
same_lanes j [] [] a b h g ha hb e = (refl, e)
same_lanes j [] (q ∷ qs) a b h g ha hb e =
    absurd (omega (arith, ap sort_of (e ∙ append_assoc (lane_text j q) (lanes_text (suc j) qs) b), sort-lane j q (lanes_text (suc j) qs ++ b)))
same_lanes j (p ∷ ps) [] a b h g ha hb e =
    absurd (omega (arith, ap sort_of (sym e ∙ append_assoc (lane_text j p) (lanes_text (suc j) ps) a), sort-lane j p (lanes_text (suc j) ps ++ a)))
same_lanes j (p ∷ ps) (q ∷ qs) a b h g ha hb e =
    let behind : flat_map reply_text p ++ (lanes_text (suc j) ps ++ a) ≡ flat_map reply_text q ++ (lanes_text (suc j) qs ++ b) =
    same_behind (codes "lane " ++ decimal j ++ 10 ∷ []) (flat_map reply_text p) (flat_map reply_text q) _ _ (sym (append_assoc (lane_text j p) (lanes_text (suc j) ps) a) ∙ e ∙ append_assoc (lane_text j q) (lanes_text (suc j) qs) b) in
    let first = same_replies p q _ _ h.0 g.0 (sort-lanes (suc j) ps a ha) (sort-lanes (suc j) qs b hb) behind in
    let rest = same_lanes (suc j) ps qs a b h.1 g.1 ha hb first.1 in
    (ap₂ (λ (x : List Reply) (xs : List (List Reply)). x ∷ xs) first.0 rest.0, rest.1)

same_phase_before : (k : ℕ) (ps qs : List (List Reply)) (a b : List ℕ) → FitsPhase ps → FitsPhase qs → 2 ≤ sort_of a → 2 ≤ sort_of b → phase_text k ps ++ a ≡ phase_text k qs ++ b → (ps ≡ qs) × (a ≡ b)
unfolding phase_text
same_phase_before k ps qs a b h g ha hb e =
    same_lanes 0 ps qs a b h g ha hb (same_behind (codes "phase " ++ decimal k ++ 10 ∷ []) (lanes_text 0 ps) (lanes_text 0 qs) a b e)

pub same_phase : (k : ℕ) (ps qs : List (List Reply)) → FitsPhase ps → FitsPhase qs → phase_text k ps ≡ phase_text k qs → ps ≡ qs
same_phase k ps qs h g e = (same_phase_before k ps qs [] [] h g (omega arith) (omega arith) (ap (λ (t : List ℕ). t ++ []) e)).0

pub same_output : (k : ℕ) (ps qs : List (List (List Reply))) (x y : List ℕ) → AllByRecursion FitsPhase ps → AllByRecursion FitsPhase qs → IsLastLine x → IsLastLine y → phases_text k ps ++ x ≡ phases_text k qs ++ y → (ps ≡ qs) × (x ≡ y)
unfolding phases_text
same_output k [] [] x y h g hx hy e = (refl, e)
same_output k [] (q ∷ qs) x y h g hx hy e =
    absurd (omega (arith, sort-last_line x hx, ap sort_of (e ∙ append_assoc (phase_text k q) (phases_text (suc k) qs) y), sort-phase k q (phases_text (suc k) qs ++ y)))
same_output k (p ∷ ps) [] x y h g hx hy e =
    absurd (omega (arith, sort-last_line y hy, ap sort_of (sym e ∙ append_assoc (phase_text k p) (phases_text (suc k) ps) x), sort-phase k p (phases_text (suc k) ps ++ x)))
same_output k (p ∷ ps) (q ∷ qs) x y h g hx hy e =
    let first = same_phase_before k p q (phases_text (suc k) ps ++ x) (phases_text (suc k) qs ++ y) h.0 g.0 (sort-phases (suc k) ps x hx) (sort-phases (suc k) qs y hy)
    (sym (append_assoc (phase_text k p) (phases_text (suc k) ps) x) ∙ e ∙ append_assoc (phase_text k q) (phases_text (suc k) qs) y) in
    let rest = same_output (suc k) ps qs x y h.1 g.1 hx hy first.1 in
    (ap₂ (λ (z : List (List Reply)) (zs : List (List (List Reply))). z ∷ zs) first.0 rest.0, rest.1)

pub same_need : (m n : ℕ) → m < 2 ^ 64 → n < 2 ^ 64 → out_of_heap_text m ≡ out_of_heap_text n → m ≡ n
unfolding out_of_heap_text
same_need m n h g e =
    decimal_injective m n h g
    (append_cancel_left (codes "out of heap ") (decimal m) (decimal n)
    (append_cancel_right (codes "out of heap " ++ decimal m) (codes "out of heap " ++ decimal n) (10 ∷ []) e))
