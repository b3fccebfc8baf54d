-- A lane's words are laid back into the root slots of its domains.
use Rattle.std.proofs.Common.{◌≡◌, ◌≢◌, ℕ, ◌+◌, ◌*◌, ◌<◌, ◌≤◌, List, length, set, get_or, inl, inr, refl, ap, sym, subst, ◌∙◌, arith, length-set, get_or-set_same, get_or-set_other}
use Rattle.std.proofs.Math.Nat.{mul-le-mul_right}
use Rattle.std.proofs.lemmas.Bool.{cases_eq}
use Rattle.std.proofs.lemmas.Nat.{mul-add-lt, same_from_place}
use Rattle.bc_lane.specs.declared.parts.LanePart.{LanePart}
use Rattle.bc_model.specs.State.{holder_of}
use Rattle.bc_model.specs.declared.values.Holder.{Holder}
use Rattle.bc_reach.specs.Distinct.{Has}
use Rattle.bc_superpages.specs.RootSlots.{root_at, root_place, with_note}
use Rattle.bc_superpages.specs.RootWords.{RootWords}
use Rattle.bc_superpages.proofs.NoteLemmas.{Has-with_note, Has-noted}
use Rattle.bc_turn.specs.Laying.{LaysWords}
use Rattle.bc_turn.specs.Taking.{LaysDomains, LaysSlots, LiesRight, MayLay}

pub lays-none : (r : RootWords) (d : ℕ) (ws : List ℕ) (start : ℕ) → LaysSlots r d ws start 0 r
lays-none r d ws start = record {
  same = refl;
  long = refl;
  own = λ t lt. absurd (omega arith);
  others = λ e t lt off. refl;
  kept = λ i h. h;
  written = λ i. inl refl;
}

-- a slot holds the word already
pub lays-same : (old new : RootWords) (d : ℕ) (ws : List ℕ) (start n : ℕ) → LaysSlots old d ws start n new → root_at new d n ≡ get_or ws (start + n) 0 → LaysSlots old d ws start (n + 1) new
lays-same old new d ws start n is word = record {
  same = is.same;
  long = is.long;
  own = λ t lt. elim (cases_eq t n) [
    | inl e ↦ ap (λ (x : ℕ). root_at new d x) e ∙ word ∙ ap (λ (x : ℕ). get_or ws (start + x) 0) (sym e)
    | inr ne ↦ is.own t (omega arith)
  ];
  others = λ e t lt off. is.others e t lt (elim off [ inl ne ↦ inl ne | inr le ↦ inr (omega arith) ]);
  kept = is.kept;
  written = is.written;
}

-- or it is written
module _ (old mid new : RootWords) (d : ℕ) (ws : List ℕ) (start n bits : ℕ) (is : LaysSlots old d ws start n mid) (within : d < old.domains) (less : n < old.slots) (full : length old.words ≡ old.domains * old.slots) (word : bits ≡ get_or ws (start + n) 0)
    (set-is : new ≡ record mid { words = set mid.words (root_place mid d n) bits; noted = with_note mid.noted (root_place mid d n) }) where
  abbrev place : ℕ
  place = root_place mid d n

  slots-are : mid.slots ≡ old.slots
  slots-are = ap (λ (r : RootWords). r.slots) is.same

  words-are : new.words ≡ set mid.words place bits
  words-are = ap (λ (r : RootWords). r.words) set-is

  noted-are : new.noted ≡ with_note mid.noted place
  noted-are = ap (λ (r : RootWords). r.noted) set-is

  slots-new : new.slots ≡ old.slots
  slots-new = ap (λ (r : RootWords). r.slots) set-is ∙ slots-are

  inside : place < length mid.words
  inside =
      let m = mul-add-lt d old.slots n old.domains within less in
      let long = is.long in
      let e : place ≡ d * old.slots + n = ap (λ (s : ℕ). d * s + n) slots-are in
      omega arith

  at-same : (e t : ℕ) → root_at new e t ≡ get_or (set mid.words place bits) (e * mid.slots + t) 0
  at-same e t = ap (λ (r : RootWords). root_at r e t) set-is

  at-other : (e t : ℕ) → t < old.slots → (e ≡ d → t ≢ n) → root_at new e t ≡ root_at mid e t
  at-other e t lt ne =
      let less_t : t < mid.slots = (let s = slots-are in omega arith) in
      let less_n : n < mid.slots = (let s = slots-are in omega arith) in
      at-same e t ∙ get_or-set_other mid.words place (e * mid.slots + t) bits 0 (λ q. let two = same_from_place e t d n mid.slots less_t less_n q in ne two.0 two.1)

  pub lays-more : LaysSlots old d ws start (n + 1) new
  lays-more = record {
    same = set-is ∙ grown;
    long = ap length words-are ∙ length-set mid.words place bits ∙ is.long;
    own = λ t lt. elim (cases_eq t n) [
      | inl e ↦
          ap (λ (x : ℕ). root_at new d x) e ∙ at-same d n ∙ get_or-set_same mid.words place bits 0 inside ∙ word ∙ ap (λ (x : ℕ). get_or ws (start + x) 0) (sym e)
      | inr ne ↦ at-other d t (omega arith) (λ _. ne) ∙ is.own t (omega arith)
    ];
    others = λ e t lt off. at-other e t lt (λ same q. elim off [ inl ne ↦ ne same | inr le ↦ absurd (omega arith) ])
        ∙ is.others e t lt (elim off [ inl ne ↦ inl ne | inr le ↦ inr (omega arith) ]);
    kept = λ i h. subst (λ (js : List ℕ). Has js i) (sym noted-are) (Has-with_note mid.noted place i (is.kept i h));
    written = λ i. elim (cases_eq i place) [
      | inl e ↦ inr (subst (λ (js : List ℕ). Has js i) (sym noted-are) (subst (λ (x : ℕ). Has (with_note mid.noted place) x) (sym e) (Has-noted mid.noted place)))
      | inr ne ↦
          let here : get_or new.words i 0 ≡ get_or mid.words i 0 = ap (λ (xs : List ℕ). get_or xs i 0) words-are ∙ get_or-set_other mid.words place i bits 0 ne in
          elim (is.written i) [
            | inl same ↦ inl (here ∙ same)
            | inr h ↦ inr (subst (λ (js : List ℕ). Has js i) (sym noted-are) (Has-with_note mid.noted place i h))
          ]
    ];
  }
    where
      grown : (record mid { words = set mid.words place bits; noted = with_note mid.noted place }) ≡ (record old { words = new.words; noted = new.noted })
      grown = ap (λ (r : RootWords). record r { words = set mid.words place bits; noted = with_note mid.noted place }) is.same
          ∙ ap (λ (r : RootWords). record old { words = r.words; noted = r.noted }) (sym set-is)

pub lays-domains-none : (r : RootWords) (ds ws : List ℕ) → LaysDomains r ds ws 0 r
lays-domains-none r ds ws = record {
  same = refl;
  long = refl;
  own = λ i t lt less. absurd (omega arith);
  others = λ e t lt off. refl;
  kept = λ i h. h;
  written = λ i. inl refl;
}

-- the words of one domain more
module _ (old mid new : RootWords) (ds ws : List ℕ) (n d start : ℕ) (is : LaysDomains old ds ws n mid) (may : MayLay old ds ws) (lt_n : n < length ds) (d_is : d ≡ get_or ds n 0) (start_is : start ≡ n * old.slots)
    (laid : LaysSlots mid d ws start mid.slots new) where
  slots-mid : mid.slots ≡ old.slots
  slots-mid = ap (λ (r : RootWords). r.slots) is.same

  earlier-apart : (i : ℕ) → i < n → get_or ds i 0 ≢ d
  earlier-apart i lt e = let less = may.rising i n lt lt_n in omega (arith, d_is, e)

  pub lays-domains-more : LaysDomains old ds ws (n + 1) new
  lays-domains-more = record {
    same = laid.same ∙ ap (λ (r : RootWords). record r { words = new.words; noted = new.noted }) is.same;
    long = laid.long ∙ is.long;
    own = λ i t lt less. (
        let less_mid : t < mid.slots = (let s = slots-mid in omega arith) in
        elim (cases_eq i n) [
          | inl e ↦
              ap (λ (x : ℕ). root_at new (get_or ds x 0) t) e ∙ ap (λ (x : ℕ). root_at new x t) (sym d_is) ∙ laid.own t less_mid
              ∙ ap (λ (x : ℕ). get_or ws (x + t) 0) start_is ∙ ap (λ (x : ℕ). get_or ws (x * old.slots + t) 0) (sym e)
          | inr ne ↦ laid.others (get_or ds i 0) t less_mid (inl (earlier-apart i (omega arith))) ∙ is.own i t (omega arith) less
        ]);
    others = λ e t lt off. (
        let less_mid : t < mid.slots = (let s = slots-mid in omega arith) in
        laid.others e t less_mid (inl (λ q. off n (omega arith) (sym d_is ∙ sym q))) ∙ is.others e t lt (λ i less. off i (omega arith)));
    kept = λ i h. laid.kept i (is.kept i h);
    written = λ i. elim (laid.written i) [
      | inl same ↦ elim (is.written i) [ inl before ↦ inl (same ∙ before) | inr h ↦ inr (laid.kept i h) ]
      | inr h ↦ inr h
    ];
  }

-- the words of all domains of the lane, by domain
pub lays-words : (hs : List Holder) (part : LanePart) (old new : RootWords) → LiesRight hs old part → LaysDomains old part.domains.items part.words.items (length part.domains.items) new → LaysWords hs part old new
lays-words hs part old new right is = record {
  same = is.same;
  long = is.long;
  own = λ d t lt own less. (
      let f = right.domains.all d lt own in
      let s : get_or part.starts.items (get_or part.domains.items f.0 0) 0 ≡ f.0 * part.slots = right.starts.1 right.domains.rising f.0 f.1 in
      ap (λ (x : ℕ). root_at new x t) (sym f.2) ∙ is.own f.0 t f.1 less
      ∙ ap (λ (x : ℕ). get_or part.words.items (f.0 * x + t) 0) (sym right.slots) ∙ ap (λ (x : ℕ). get_or part.words.items (x + t) 0) (sym s)
      ∙ ap (λ (x : ℕ). get_or part.words.items (get_or part.starts.items x 0 + t) 0) f.2);
  others = λ d t lt off less. is.others d t less (λ i within e. off (ap (λ (x : ℕ). holder_of hs x) (sym e) ∙ right.domains.held i within));
  kept = is.kept;
  written = is.written;
}

pub may-lay : (hs : List Holder) (part : LanePart) (r : RootWords) → LiesRight hs r part → MayLay r part.domains.items part.words.items
may-lay hs part r right = record {
  rising = right.domains.rising;
  within = λ i lt. let h = right.domains.within i lt in let e = right.holders_long in omega arith;
  enough = right.enough;
  packed = right.packed;
}

-- the words of a domain stand within the list
pub place-fits : (r : RootWords) (ds ws : List ℕ) (n slots : ℕ) → MayLay r ds ws → n < length ds → slots ≡ r.slots → n * slots + slots ≤ length ws
place-fits r ds ws n slots may lt e =
    let enough = may.enough in
    let le : (n + 1) * r.slots ≤ length ds * r.slots = mul-le-mul_right r.slots (omega arith) in
    let one : (n + 1) * r.slots ≡ n * r.slots + r.slots = grind arith in
    rw e (omega arith)
