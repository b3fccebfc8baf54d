-- Replies counted one at a time, and the lines of the counts.
use Rattle.std.proofs.Common.{◌≡◌, ℕ, ◌+◌, ◌-◌, ◌<◌, ◌≤◌, ◌==◌, if◌then◌else◌, List, [], ◌∷◌, ◌++◌, map, Bool, true, false, zero, suc, length, take, get_or, set, slice_index, refl, sym, ap, subst, ◌∙◌, inl, inr, append_assoc, arith}
use Rattle.std.specs.List.{sum}
use Rattle.std.proofs.lemmas.Bool.{cases_lt}
use Rattle.std.proofs.lemmas.Bool.Decides.{eqb_tells}
use Rattle.std.proofs.lemmas.Grind.{same_number_lists, flat_map-append}
use Rattle.std.proofs.lemmas.List.{get_or-set_same, get_or-set_other, get_or-map, get_or_append_left, get_or-append_right, get_or_past, length-take, map_more, append-nil}
use Rattle.std.proofs.lemmas.List.Folds.{flat_map-map, length-flat_map-take}
use Rattle.std.proofs.lemmas.List.Sums.{count_by_more_no, count_by_more_yes, count_by-le-length, get_or-le-sum_by, sum_by-append}
use Rattle.bc_model.specs.State.{numbers_below}
use Rattle.bc_model.specs.declared.operations.Reply.{Reply}
use Rattle.bc_model.proofs.Openings.{length-numbers_below}
use Rattle.std.specs.Prelude.{codes}
use Rattle.bc_churn.specs.Counts.{all_replies, count_line, count_lines, count_of_kind, counts, kind_names, kind_of_reply, phase_replies, run_counts}

-- kinds of which what was read so far has so many more than before
abbrev pub Counted : List ℕ → List ℕ → List Reply → Type 0
Counted old new rs = (k : ℕ) → get_or new k 0 ≡ get_or old k 0 + count_of_kind k rs

-- one more reply
pub counted-more : (old now new : List ℕ) (rs : List Reply) (i kind : ℕ) (d : Reply) → i < length rs → kind ≡ kind_of_reply (get_or rs i d) → kind < length now → new ≡ set now kind (get_or now kind 0 + 1) → Counted old now (take i rs) → Counted old new (take (i + 1) rs)
counted-more old now new rs i kind d within e inside written so_far k =
    let of : (b : Bool) → (kind == k) ≡ b → (kind_of_reply (get_or rs i d) == k) ≡ b = λ b h. subst (λ (x : ℕ). (x == k) ≡ b) e h in
    elim (eqb_tells kind k) [
      | inl same ↦
          let more = count_by_more_yes (λ (x : Reply). kind_of_reply x == k) rs i d within (of true same.0) in
          let put : get_or new k 0 ≡ get_or now k 0 + 1 =
          subst (λ (x : ℕ). get_or new x 0 ≡ get_or now x 0 + 1) same.1 (ap (λ (xs : List ℕ). get_or xs kind 0) written ∙ get_or-set_same now kind (get_or now kind 0 + 1) 0 inside) in
          omega (arith, more, put, so_far k)
      | inr other ↦
          let more = count_by_more_no (λ (x : Reply). kind_of_reply x == k) rs i d within (of false other.0) in
          let kept : get_or new k 0 ≡ get_or now k 0 =
          ap (λ (xs : List ℕ). get_or xs k 0) written ∙ get_or-set_other now kind k (get_or now kind 0 + 1) 0 (λ h. other.1 (sym h)) in
          omega (arith, more, kept, so_far k)
    ]

-- what is counted so far leaves room for one more
pub room-for-one : (old now : List ℕ) (rs : List Reply) (i k room : ℕ) → i < length rs → Counted old now (take i rs) → get_or old k 0 + length rs < room → get_or now k 0 + 1 < room
room-for-one old now rs i k room within so_far h =
    let few = count_by-le-length (λ (x : Reply). kind_of_reply x == k) (take i rs) in
    omega (arith, so_far k, few, h, within, length-take i rs)

-- ---- phases

count-append : (k : ℕ) (xs ys : List Reply) → count_of_kind k (xs ++ ys) ≡ count_of_kind k xs + count_of_kind k ys
count-append k xs ys = sum_by-append (λ (r : Reply). if kind_of_reply r == k then 1 else 0) xs ys

-- one more lane
pub lanes-counted : {V : Type 0} (f : V → List Reply) (old now new : List ℕ) (vs : List V) (i : ℕ) (d : V) → i < length vs → Counted old now (phase_replies (map f (take i vs))) → Counted now new (f (get_or vs i d)) → Counted old new (phase_replies (map f (take (i + 1) vs)))
lanes-counted f old now new vs i d within so_far more k =
    let one : phase_replies (map f (take (i + 1) vs)) ≡ phase_replies (map f (take i vs)) ++ f (get_or vs i d) =
    rw (map_more f vs i d within) (flat_map-append (λ (rs : List Reply). rs) (map f (take i vs)) (f (get_or vs i d) ∷ []) ∙ ap (λ rs. phase_replies (map f (take i vs)) ++ rs) (append-nil (f (get_or vs i d)))) in
    omega (arith, so_far k, more k, ap (count_of_kind k) one, count-append k (phase_replies (map f (take i vs))) (f (get_or vs i d)))

-- what is counted so far leaves room for a lane more
pub room-for-lane : {V : Type 0} (f : V → List Reply) (old now : List ℕ) (vs : List V) (i : ℕ) (d : V) (k room : ℕ) → i < length vs → Counted old now (phase_replies (map f (take i vs))) → get_or old k 0 + length (phase_replies (map f vs)) < room → get_or now k 0 + length (f (get_or vs i d)) < room
room-for-lane f old now vs i d k room within so_far h =
    let few = count_by-le-length (λ (x : Reply). kind_of_reply x == k) (phase_replies (map f (take i vs))) in
    let front = ap length (flat_map-map (λ (rs : List Reply). rs) f (take i vs)) in
    let whole = ap length (flat_map-map (λ (rs : List Reply). rs) f vs) in
    let less = length-flat_map-take f vs i d within in
    omega (arith, so_far k, few, front, whole, less, h)

pub at-most-sum : (xs : List ℕ) (k : ℕ) → get_or xs k 0 ≤ sum xs
at-most-sum xs k =
    elim (cases_lt k (length xs)) [
      | inl within ↦ get_or-le-sum_by (λ (x : ℕ). x) xs k 0 within
      | inr past ↦ (let e = get_or_past xs k 0 past in omega (arith, e))
    ]

-- ---- a list of the twelve counts

at-last : (n : ℕ) → get_or (n ∷ []) (n - n) 0 ≡ n
at-last n = let e : n - n ≡ 0 = omega arith in rw e refl

pub numbers_below-at : (n i : ℕ) → i < n → get_or (numbers_below n) i 0 ≡ i
numbers_below-at zero i h = absurd (omega (arith, h))
numbers_below-at (suc n) i h =
    elim (cases_lt i n) [
      | inl below ↦ get_or_append_left (numbers_below n) (n ∷ []) 0 i (omega (arith, below, length-numbers_below n)) ∙ numbers_below-at n i below
      | inr past ↦
          let last : i ≡ n = omega (arith, h, past) in
          get_or-append_right (numbers_below n) (n ∷ []) n i 0 (length-numbers_below n) past ∙ ap (λ (j : ℕ). get_or (n ∷ []) (j - n) 0) last ∙ at-last n ∙ sym last
    ]

pub counts-at : (rs : List Reply) (k : ℕ) → k < 12 → get_or (counts rs) k 0 ≡ count_of_kind k rs
unfolding counts
counts-at rs k h = get_or-map (λ (k : ℕ). count_of_kind k rs) (numbers_below 12) k 0 0 h ∙ ap (λ (i : ℕ). count_of_kind i rs) (numbers_below-at 12 k h)

pub counts-length : (rs : List Reply) → length (counts rs) ≡ 12
unfolding counts
counts-length rs = refl

pub counts-phase : (before : List (List (List Reply))) (p : List (List Reply)) (old new : List ℕ) → length new ≡ 12 → Counted old new (phase_replies p) → old ≡ run_counts before → new ≡ run_counts (before ++ p ∷ [])
counts-phase before p old new long more e =
    let joined : all_replies (before ++ p ∷ []) ≡ all_replies before ++ phase_replies p =
    flat_map-append phase_replies before (p ∷ []) ∙ ap (λ rs. all_replies before ++ rs) (append-nil (phase_replies p)) in
    same_number_lists new (run_counts (before ++ p ∷ [])) (long ∙ sym (counts-length _)) (λ k inside.
    let low : k < 12 = omega (arith, inside, long) in
    let now : get_or old k 0 ≡ count_of_kind k (all_replies before) = ap (λ (xs : List ℕ). get_or xs k 0) e ∙ counts-at (all_replies before) k low in
    let all : get_or new k 0 ≡ count_of_kind k (all_replies (before ++ p ∷ [])) = omega (arith, more k, now, ap (count_of_kind k) joined, count-append k (all_replies before) (phase_replies p)) in
    all ∙ sym (counts-at (all_replies (before ++ p ∷ [])) k low))

-- ---- the output

-- a piece at the end, and the rest after it
text-more : (t u a rest : List ℕ) → u ≡ t ++ a → t ++ (a ++ rest) ≡ u ++ rest
text-more t u a rest e = sym (append_assoc t a rest) ∙ ap (λ x. x ++ rest) (sym e)

pub lines-made : (cs t t0 t1 t2 t3 t4 t5 t6 t7 t8 t9 t10 : List ℕ) → t0 ≡ t ++ count_line (codes "obj") (slice_index cs 0) → t1 ≡ t0 ++ count_line (codes "ok") (slice_index cs 1) → t2 ≡ t1 ++ count_line (codes "nil") (slice_index cs 2) → t3 ≡ t2 ++ count_line (codes "num") (slice_index cs 3) → t4 ≡ t3 ++ count_line (codes "ref") (slice_index cs 4) → t5 ≡ t4 ++ count_line (codes "len") (slice_index cs 5) → t6 ≡ t5 ++ count_line (codes "yes") (slice_index cs 6) → t7 ≡ t6 ++ count_line (codes "no") (slice_index cs 7) → t8 ≡ t7 ++ count_line (codes "notobj") (slice_index cs 8) → t9 ≡ t8 ++ count_line (codes "range") (slice_index cs 9) → t10 ≡ t9 ++ count_line (codes "foreign") (slice_index cs 10) → t10 ≡ t ++ count_lines kind_names cs 0
lines-made cs t t0 t1 t2 t3 t4 t5 t6 t7 t8 t9 t10 e0 e1 e2 e3 e4 e5 e6 e7 e8 e9 e10 =
    sym (text-more t t0 (count_line (codes "obj") (slice_index cs 0)) (count_lines (codes "ok" ∷ codes "nil" ∷ codes "num" ∷ codes "ref" ∷ codes "len" ∷ codes "yes" ∷ codes "no" ∷ codes "notobj" ∷ codes "range" ∷ codes "foreign" ∷ []) cs 1) e0
    ∙ text-more t0 t1 (count_line (codes "ok") (slice_index cs 1)) (count_lines (codes "nil" ∷ codes "num" ∷ codes "ref" ∷ codes "len" ∷ codes "yes" ∷ codes "no" ∷ codes "notobj" ∷ codes "range" ∷ codes "foreign" ∷ []) cs 2) e1
    ∙ text-more t1 t2 (count_line (codes "nil") (slice_index cs 2)) (count_lines (codes "num" ∷ codes "ref" ∷ codes "len" ∷ codes "yes" ∷ codes "no" ∷ codes "notobj" ∷ codes "range" ∷ codes "foreign" ∷ []) cs 3) e2
    ∙ text-more t2 t3 (count_line (codes "num") (slice_index cs 3)) (count_lines (codes "ref" ∷ codes "len" ∷ codes "yes" ∷ codes "no" ∷ codes "notobj" ∷ codes "range" ∷ codes "foreign" ∷ []) cs 4) e3
    ∙ text-more t3 t4 (count_line (codes "ref") (slice_index cs 4)) (count_lines (codes "len" ∷ codes "yes" ∷ codes "no" ∷ codes "notobj" ∷ codes "range" ∷ codes "foreign" ∷ []) cs 5) e4
    ∙ text-more t4 t5 (count_line (codes "len") (slice_index cs 5)) (count_lines (codes "yes" ∷ codes "no" ∷ codes "notobj" ∷ codes "range" ∷ codes "foreign" ∷ []) cs 6) e5
    ∙ text-more t5 t6 (count_line (codes "yes") (slice_index cs 6)) (count_lines (codes "no" ∷ codes "notobj" ∷ codes "range" ∷ codes "foreign" ∷ []) cs 7) e6
    ∙ text-more t6 t7 (count_line (codes "no") (slice_index cs 7)) (count_lines (codes "notobj" ∷ codes "range" ∷ codes "foreign" ∷ []) cs 8) e7
    ∙ text-more t7 t8 (count_line (codes "notobj") (slice_index cs 8)) (count_lines (codes "range" ∷ codes "foreign" ∷ []) cs 9) e8
    ∙ text-more t8 t9 (count_line (codes "range") (slice_index cs 9)) (count_lines (codes "foreign" ∷ []) cs 10) e9
    ∙ text-more t9 t10 (count_line (codes "foreign") (slice_index cs 10)) (count_lines ([]) cs 11) e10
    ∙ append-nil t10)
