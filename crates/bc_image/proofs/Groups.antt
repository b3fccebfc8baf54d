-- The objects of an image, superpage by superpage.
use Rattle.std.proofs.Common.{◌≡◌, ◌⊎◌, ℕ, ◌+◌, ◌-◌, ◌/◌, ◌%◌, ◌^◌, ◌<◌, ◌≤◌, ◌==◌, ◌&&◌, nat_eq, nat_lt, nat_le, Bool, true, false, if◌then◌else◌, List, [], ◌∷◌, ◌++◌, length, Some, None, slice_index, refl, sym, ◌∙◌, ap, ap₂, subst, inl, inr, arith}
use Prim.Native.Nat.{zero, suc}
use Rattle.std.specs.List.{AllByRecursion, list_any}
use Rattle.std.proofs.lemmas.Bool.{ne_eqb, and_parts, eqb-true}
use Rattle.std.proofs.lemmas.Bool.Decides.{nat_tests}
use Rattle.std.proofs.lemmas.List.{append_assoc}
use Rattle.bc_classes.specs.Classes.{class_of}
use Rattle.bc_word.specs.HeadBits.{head_bits, FitsHead}
use Rattle.bc_word.specs.Heads.{head_of_bits}
use Rattle.bc_word.specs.declared.heads.Head.{Head}
use Rattle.bc_word.proofs.HeadLemmas.{head_bits-head_of_bits, FitsHead-head_of_bits, head_of_bits-head_bits, head_bits-below, fields_of_bits-head_bits, domain_of_bits-head_bits, lane_of_bits-head_bits, serial_of_bits-head_bits}
use Rattle.bc_image.specs.Cells.{CellList}
use Rattle.bc_image.specs.Drafts.{ImageDraft, judged, put, birth_bits, with_progress, finished_object, is_twice_at}
use Rattle.bc_image.specs.Images.{cell_items}
use Rattle.bc_image.specs.Items.{is_finished, is_head, passes, cause_of, advanced, object_ended}
use Rattle.bc_image.specs.Listings.{ListingLists}
use Rattle.bc_image.specs.declared.fault.ImageCause.{ImageCause}
use Rattle.bc_image.specs.declared.fault.ImageCause.TheVariants as causes
use Rattle.bc_image.specs.declared.progress.Stage.{Stage}
use Rattle.bc_image.specs.declared.progress.Stage.TheVariants as stages
use Rattle.bc_image.proofs.ItemLemmas.{le_true, lt_true}
use Rattle.bc_image.proofs.ReadLemmas.{judged-passed, judged-ok}
use Rattle.bc_image.proofs.Running.{FitsLinked, Runs, next-item}

-- the listing's parts but its objects, and where the reader is among these
abbrev pub page_draft : ListingLists → Stage → ℕ → ℕ → ℕ → ℕ → ℕ → ℕ → ℕ → List ℕ → List CellList → Head → List ℕ → ImageDraft
page_draft l st q c dom left least a f born cs h fs = record {
  progress = record { stage = st; version = l.version; setup = l.setup; phases = l.phases; stood = 0; superpage = q; class = c; domain = dom; left = left; least = least; address = a; fields = f };
  holders = l.holders;
  births = l.births;
  roots = l.roots;
  born = born;
  cells = cs;
  head = h;
  fields = fs;
}

abbrev pub stage_at : ListingLists → ℕ → Stage
stage_at l q = if q == l.setup.superpages then stages.Finished else stages.Pair

-- after the last item of an object
abbrev pub object_done : ListingLists → ℕ → ℕ → ℕ → ℕ → ℕ → ℕ → List ℕ → List CellList → Head → List ℕ → ImageDraft
object_done l q c dom left a f born cs h fs =
    let d : ImageDraft = page_draft l stages.Field q c dom left 0 a f born cs h fs in
    with_progress (finished_object d) (object_ended d.progress)

pub done-last : (l : ListingLists) (q c dom a f : ℕ) (born : List ℕ) (cs : List CellList) (h : Head) (fs : List ℕ) → object_done l q c dom 1 a f born cs h fs ≡ page_draft l (stage_at l (q + 1)) (q + 1) c dom 0 (a + c) a f born (cs ++ record { address = a; head = h; fields = fs } ∷ []) h []
done-last l q c dom a f born cs h fs = refl

pub done-more : (l : ListingLists) (q c dom m a f : ℕ) (born : List ℕ) (cs : List CellList) (h : Head) (fs : List ℕ) → object_done l q c dom (suc (suc m)) a f born cs h fs ≡ page_draft l stages.Address q c dom (suc m) (a + c) a f born (cs ++ record { address = a; head = h; fields = fs } ∷ []) h []
done-more l q c dom m a f born cs h fs =
    let less : suc (suc m) - 1 ≡ suc m = omega arith in
    rw (less, ne_eqb (suc m) 0 (λ e. absurd (omega arith))) refl

-- ---- an object

module _ (cells : List CellList) (l : ListingLists) where
  abbrev pub born_of : CellList → ℕ
  born_of x = birth_bits (head_bits x.head)

  pub record IsObject (q c dom least : ℕ) (x : CellList) : Type 0 where
    pub page : x.address / 2048 ≡ q
    pub start : x.address % c ≡ 0
    pub least_is : least ≤ x.address
    pub head : FitsHead x.head
    pub lane : x.head.lane < l.setup.lanes
    pub positive : 0 < x.head.serial
    pub serial : x.head.serial ≤ slice_index l.births x.head.lane
    pub domain : x.head.domain ≡ dom
    pub class : class_of x.head.fields ≡ c
    pub count : length x.fields ≡ x.head.fields
    pub fields : AllByRecursion (FitsLinked cells stages.Field) x.fields

  -- fields
  pub record Fields (q c dom left a count : ℕ) (born : List ℕ) (cs : List CellList) (h : Head) (fs : List ℕ) (items : List ℕ) (e : ImageDraft) : Type 0 where
    pub front : List ℕ
    pub rest : List ℕ
    pub is : items ≡ front ++ rest
    pub counted : length front ≡ count
    pub fits : AllByRecursion (FitsLinked cells stages.Field) front
    pub last : ℕ
    pub runs : Runs cells (object_done l q c dom left a last born cs h (fs ++ front)) rest e

  field-last : (q c dom left least a : ℕ) (born : List ℕ) (cs : List CellList) (h : Head) (fs : List ℕ) (n : ℕ) → put (page_draft l stages.Field q c dom left least a 1 born cs h fs) n ≡ object_done l q c dom left a 0 born cs h (fs ++ n ∷ [])
  unfolding put advanced
  field-last q c dom left least a born cs h fs n = refl

  field-more : (q c dom left least a m : ℕ) (born : List ℕ) (cs : List CellList) (h : Head) (fs : List ℕ) (n : ℕ) → put (page_draft l stages.Field q c dom left least a (suc (suc m)) born cs h fs) n ≡ page_draft l stages.Field q c dom left least a (suc m) born cs h (fs ++ n ∷ [])
  unfolding put advanced
  field-more q c dom left least a m born cs h fs n =
      let less : suc (suc m) - 1 ≡ suc m = omega arith in
      rw (less, ne_eqb (suc (suc m)) 1 (λ e. absurd (omega arith)), ne_eqb (suc m) 0 (λ e. absurd (omega arith))) refl

  fields-in : (m q c dom left least a : ℕ) (born : List ℕ) (cs : List CellList) (h : Head) (fs : List ℕ) (items : List ℕ) (e : ImageDraft) → is_finished e.progress.stage ≡ true → Runs cells (page_draft l stages.Field q c dom left least a (suc m) born cs h fs) items e → Fields q c dom left a (suc m) born cs h fs items e
  fields-in zero q c dom left least a born cs h fs items e is run =
      let r = next-item cells (page_draft l stages.Field q c dom left least a 1 born cs h fs) items e refl is run in
      record { front = r.item ∷ []; rest = r.more; is = r.is; counted = refl; fits = (r.fits, tt); last = 0; runs = subst (λ d. Runs cells d r.more e) (field-last q c dom left least a born cs h fs r.item) r.runs }
  fields-in (suc m) q c dom left least a born cs h fs items e is run =
      let r = next-item cells (page_draft l stages.Field q c dom left least a (suc (suc m)) born cs h fs) items e refl is run in
      let f = fields-in m q c dom left least a born cs h (fs ++ r.item ∷ []) r.more e is (subst (λ d. Runs cells d r.more e) (field-more q c dom left least a m born cs h fs r.item) r.runs) in
      record {
        front = r.item ∷ f.front;
        rest = f.rest;
        is = r.is ∙ ap (λ (ns : List ℕ). r.item ∷ ns) f.is;
        counted = ap suc f.counted;
        fits = (r.fits, f.fits);
        last = f.last;
        runs = subst (λ (xs : List ℕ). Runs cells (object_done l q c dom left a f.last born cs h xs) f.rest e) (append_assoc fs (r.item ∷ []) f.front) f.runs;
      }

  field-judged : (q c dom left least a f : ℕ) (born : List ℕ) (cs : List CellList) (h : Head) (fs : List ℕ) (n : ℕ) → judged (page_draft l stages.Field q c dom left least a f born cs h fs) n ≡ None
  unfolding passes
  field-judged q c dom left least a f born cs h fs n = judged-ok (page_draft l stages.Field q c dom left least a f born cs h fs) n refl refl

  fields-out : (front : List ℕ) (m q c dom left least a : ℕ) (born : List ℕ) (cs : List CellList) (h : Head) (fs : List ℕ) → length front ≡ suc m → AllByRecursion (FitsLinked cells stages.Field) front → Runs cells (page_draft l stages.Field q c dom left least a (suc m) born cs h fs) front (object_done l q c dom left a 0 born cs h (fs ++ front))
  fields-out [] m q c dom left least a born cs h fs len fits = absurd (omega (arith, len))
  fields-out (n ∷ []) zero q c dom left least a born cs h fs len fits = (refl, field-judged q c dom left least a 1 born cs h fs n, fits.0, field-last q c dom left least a born cs h fs n)
  fields-out (n ∷ []) (suc m) q c dom left least a born cs h fs len fits = absurd (omega (arith, len))
  fields-out (n ∷ k ∷ ns) zero q c dom left least a born cs h fs len fits = absurd (omega (arith, len))
  fields-out (n ∷ k ∷ ns) (suc m) q c dom left least a born cs h fs len fits =
      let r = fields-out (k ∷ ns) m q c dom left least a born cs h (fs ++ n ∷ []) (let e : length (k ∷ ns) ≡ suc m = omega (arith, len) in e) fits.1 in
      let moved : Runs cells (page_draft l stages.Field q c dom left least a (suc m) born cs h (fs ++ n ∷ [])) (k ∷ ns) (object_done l q c dom left a 0 born cs h (fs ++ n ∷ k ∷ ns)) = subst (λ (xs : List ℕ). Runs cells (page_draft l stages.Field q c dom left least a (suc m) born cs h (fs ++ n ∷ [])) (k ∷ ns) (object_done l q c dom left a 0 born cs h xs)) (append_assoc fs (n ∷ []) (k ∷ ns)) r in
      (refl, field-judged q c dom left least a (suc (suc m)) born cs h fs n, fits.0, subst (λ d. Runs cells d (k ∷ ns) (object_done l q c dom left a 0 born cs h (fs ++ n ∷ k ∷ ns))) (sym (field-more q c dom left least a m born cs h fs n)) moved)

  -- the address and the head
  address-put : (q c dom left least a f : ℕ) (born : List ℕ) (cs : List CellList) (h : Head) (n : ℕ) → put (page_draft l stages.Address q c dom left least a f born cs h []) n ≡ page_draft l stages.Head q c dom left least n f born cs h []
  unfolding put advanced
  address-put q c dom left least a f born cs h n = refl

  head-bare : (q c dom left least a f : ℕ) (born : List ℕ) (cs : List CellList) (h : Head) (n : ℕ) → n % 128 ≡ 0 → put (page_draft l stages.Head q c dom left least a f born cs h []) n ≡ object_done l q c dom left a 0 (born ++ birth_bits n ∷ []) cs (head_of_bits n) []
  unfolding put advanced
  head-bare q c dom left least a f born cs h n z = rw z refl

  head-more : (q c dom left least a f m : ℕ) (born : List ℕ) (cs : List CellList) (h : Head) (n : ℕ) → n % 128 ≡ suc m → put (page_draft l stages.Head q c dom left least a f born cs h []) n ≡ page_draft l stages.Field q c dom left least a (suc m) (born ++ birth_bits n ∷ []) cs (head_of_bits n) []
  unfolding put advanced
  head-more q c dom left least a f m born cs h n z = rw (z, ne_eqb (suc m) 0 (λ e. absurd (omega arith))) refl

  not-twice : (t : Bool) (o : Bool) (c : ImageCause) → (if t then (if o then Some causes.Twice else None) else Some c) ≡ None → o ≡ false
  not-twice true true c h = absurd (let k : Some causes.Twice ≡ None = h in cc)
  not-twice true false c h = refl
  not-twice false o c h = absurd (let k : Some c ≡ None = h in cc)

  judged-once : (d : ImageDraft) (n : ℕ) → judged d n ≡ None → is_twice_at d.progress.stage d n ≡ false
  unfolding judged
  judged-once d n h = not-twice (passes d.progress d.births n) (is_twice_at d.progress.stage d n) (cause_of d.progress.stage) h

  pub record OneObject (q c dom left least : ℕ) (born : List ℕ) (cs : List CellList) (items : List ℕ) (e : ImageDraft) : Type 0 where
    pub object : CellList
    pub rest : List ℕ
    pub is : items ≡ cell_items object ++ rest
    pub ok : IsObject q c dom least object
    pub once : list_any (nat_eq (born_of object)) born ≡ false
    pub last : ℕ
    pub runs : Runs cells (object_done l q c dom left object.address last (born ++ born_of object ∷ []) cs object.head object.fields) rest e

  pred-of : (n : ℕ) → (n ≡ 0) ⊎ ((m : ℕ) × (n ≡ suc m))
  pred-of zero = inl refl
  pred-of (suc m) = inr (m, refl)

  pub object-in : (q c dom left least a f : ℕ) (born : List ℕ) (cs : List CellList) (h : Head) (items : List ℕ) (e : ImageDraft) → is_finished e.progress.stage ≡ true → Runs cells (page_draft l stages.Address q c dom left least a f born cs h []) items e → OneObject q c dom left least born cs items e
  object-in q c dom left least a f born cs h items e is run =
      let d0 : ImageDraft = page_draft l stages.Address q c dom left least a f born cs h [] in
      let r = next-item cells d0 items e refl is run in
      let at : ℕ = r.item in
      let d1 : ImageDraft = page_draft l stages.Head q c dom left least at f born cs h [] in
      let r2 = next-item cells d1 r.more e refl is (subst (λ d. Runs cells d r.more e) (address-put q c dom left least a f born cs h at) r.runs) in
      let n : ℕ = r2.item in
      let pa = and_parts (at / 2048 == q) ((at % c == 0) && nat_le least at) (judged-passed d0 at r.judgement) in
      let pb = and_parts (at % c == 0) (nat_le least at) pa.1 in
      let ph = and_parts (nat_lt n (2 ^ 49)) (is_head d1.progress l.births n) (judged-passed d1 n r2.judgement) in
      let hd : Head = head_of_bits n in
      let h1 = and_parts (nat_lt hd.lane l.setup.lanes) _ ph.1 in
      let h2 = and_parts (nat_le 1 hd.serial) _ h1.1 in
      let h3 = and_parts (nat_le hd.serial (slice_index l.births hd.lane)) _ h2.1 in
      let h4 = and_parts (hd.domain == dom) (class_of hd.fields == c) h3.1 in
      let same : head_bits hd ≡ n = head_bits-head_of_bits n in
      let ok : (fs : List ℕ) → length fs ≡ hd.fields → AllByRecursion (FitsLinked cells stages.Field) fs → IsObject q c dom least (record { address = at; head = hd; fields = fs }) = λ fs counted fits. record {
        page = eqb-true (at / 2048) q pa.0;
        start = eqb-true (at % c) 0 pb.0;
        least_is = le_true least at pb.1;
        head = FitsHead-head_of_bits n (lt_true n (2 ^ 49) ph.0);
        lane = lt_true hd.lane l.setup.lanes h1.0;
        positive = le_true 1 hd.serial h2.0;
        serial = le_true hd.serial (slice_index l.births hd.lane) h3.0;
        domain = eqb-true hd.domain dom h4.0;
        class = eqb-true (class_of hd.fields) c h4.1;
        count = counted;
        fields = fits;
      } in
      let once : list_any (nat_eq (birth_bits (head_bits hd))) born ≡ false = ap (λ (k : ℕ). list_any (nat_eq (birth_bits k)) born) same ∙ judged-once d1 n r2.judgement in
      elim (pred-of (n % 128)) [
        | inl z ↦ record {
          object = record { address = at; head = hd; fields = [] };
          rest = r2.more;
          is = r.is ∙ ap (λ (ns : List ℕ). at ∷ ns) (r2.is ∙ ap (λ (k : ℕ). k ∷ r2.more) (sym same));
          ok = ok [] (sym z) tt;
          once = once;
          last = 0;
          runs = subst (λ (k : ℕ). Runs cells (object_done l q c dom left at 0 (born ++ birth_bits k ∷ []) cs hd []) r2.more e) (sym same) (subst (λ d. Runs cells d r2.more e) (head-bare q c dom left least at f born cs h n z) r2.runs);
        }
        | inr more ↦
            let m = more.0 in
            let fl = fields-in m q c dom left least at (born ++ birth_bits n ∷ []) cs hd [] r2.more e is (subst (λ d. Runs cells d r2.more e) (head-more q c dom left least at f m born cs h n more.1) r2.runs) in
            record {
              object = record { address = at; head = hd; fields = fl.front };
              rest = fl.rest;
              is = r.is ∙ ap (λ (ns : List ℕ). at ∷ ns) (r2.is ∙ ap₂ (λ (k : ℕ) (ns : List ℕ). k ∷ ns) (sym same) fl.is);
              ok = ok fl.front (fl.counted ∙ sym more.1) fl.fits;
              once = once;
              last = fl.last;
              runs = subst (λ (k : ℕ). Runs cells (object_done l q c dom left at fl.last (born ++ birth_bits k ∷ []) cs hd fl.front) fl.rest e) (sym same) fl.runs;
            }
      ]

  -- and back
  head-judged : (q c dom left least f : ℕ) (born : List ℕ) (cs : List CellList) (h : Head) (x : CellList) → IsObject q c dom least x → list_any (nat_eq (born_of x)) born ≡ false → judged (page_draft l stages.Head q c dom left least x.address f born cs h []) (head_bits x.head) ≡ None
  unfolding passes
  head-judged q c dom left least f born cs h x ok once =
      let b : ℕ = head_bits x.head in
      let small = head_bits-below x.head ok.head in
      judged-ok (page_draft l stages.Head q c dom left least x.address f born cs h []) b
      (rw (lane_of_bits-head_bits x.head ok.head, serial_of_bits-head_bits x.head ok.head, domain_of_bits-head_bits x.head ok.head, fields_of_bits-head_bits x.head ok.head)
      (all-five b x.head.lane l.setup.lanes x.head.serial (slice_index l.births x.head.lane) x.head.domain dom (class_of x.head.fields) c small ok.lane ok.positive ok.serial ok.domain ok.class))
      once
    where
      all-five : (b la las se ses d dd cl cc' : ℕ) → b < 2 ^ 49 → la < las → 0 < se → se ≤ ses → d ≡ dd → cl ≡ cc' → (nat_lt b (2 ^ 49) && (nat_lt la las && (nat_le 1 se && (nat_le se ses && ((d == dd) && (cl == cc')))))) ≡ true
      all-five b la las se ses d dd cl cc' h0 h1 h2 h3 h4 h5 = grind (arith, nat_tests)

  address-judged : (q c dom left least a f : ℕ) (born : List ℕ) (cs : List CellList) (h : Head) (x : CellList) → IsObject q c dom least x → judged (page_draft l stages.Address q c dom left least a f born cs h []) x.address ≡ None
  unfolding passes
  address-judged q c dom left least a f born cs h x ok =
      judged-ok (page_draft l stages.Address q c dom left least a f born cs h []) x.address (three (x.address / 2048) q (x.address % c) least x.address ok.page ok.start ok.least_is) refl
    where
      three : (y z m le' n : ℕ) → y ≡ z → m ≡ 0 → le' ≤ n → ((y == z) && ((m == 0) && nat_le le' n)) ≡ true
      three y z m le' n h0 h1 h2 = grind (arith, nat_tests)

  pub object-out : (q c dom left least a f : ℕ) (born : List ℕ) (cs : List CellList) (h : Head) (x : CellList) → q < 4096 → IsObject q c dom least x → list_any (nat_eq (born_of x)) born ≡ false → (ended : ℕ) × Runs cells (page_draft l stages.Address q c dom left least a f born cs h []) (cell_items x) (object_done l q c dom left x.address ended (born ++ born_of x ∷ []) cs x.head x.fields)
  object-out q c dom left least a f born cs h x few ok once =
      let n : ℕ = head_bits x.head in
      let d1 : ImageDraft = page_draft l stages.Head q c dom left least x.address f born cs h [] in
      let goal : ImageDraft = object_done l q c dom left x.address 0 (born ++ born_of x ∷ []) cs x.head x.fields in
      let at_small : x.address < 2 ^ 64 = (let e : x.address / 2048 ≡ q = ok.page in omega arith) in
      let bits_small : n < 2 ^ 64 = (let e = head_bits-below x.head ok.head in omega arith) in
      let same : head_of_bits n ≡ x.head = head_of_bits-head_bits x.head ok.head in
      let tail : n % 128 ≡ x.head.fields = fields_of_bits-head_bits x.head ok.head in
      let after : Runs cells (put d1 n) x.fields goal =
      elim (pred-of x.head.fields) [
        | inl z ↦
            let none : x.fields ≡ [] = empty x.fields (ok.count ∙ z) in
            let start : put d1 n ≡ object_done l q c dom left x.address 0 (born ++ birth_bits n ∷ []) cs x.head [] = head-bare q c dom left least x.address f born cs h n (tail ∙ z) ∙ ap (λ (y : Head). object_done l q c dom left x.address 0 (born ++ birth_bits n ∷ []) cs y []) same in
            subst (λ (fs : List ℕ). Runs cells (put d1 n) fs (object_done l q c dom left x.address 0 (born ++ born_of x ∷ []) cs x.head fs)) (sym none) start
        | inr more ↦
            let start : put d1 n ≡ page_draft l stages.Field q c dom left least x.address (suc more.0) (born ++ birth_bits n ∷ []) cs x.head [] = head-more q c dom left least x.address f more.0 born cs h n (tail ∙ more.1) ∙ ap (λ (y : Head). page_draft l stages.Field q c dom left least x.address (suc more.0) (born ++ birth_bits n ∷ []) cs y []) same in
            subst (λ d. Runs cells d x.fields goal) (sym start) (fields-out x.fields more.0 q c dom left least x.address (born ++ birth_bits n ∷ []) cs x.head [] (ok.count ∙ more.1) ok.fields)
      ] in (
        0,
        (
          refl,
          address-judged q c dom left least a f born cs h x ok,
          record { small = at_small; leads = refl },
          subst (λ d. Runs cells d (n ∷ x.fields) goal) (sym (address-put q c dom left least a f born cs h x.address))
              (refl, head-judged q c dom left least f born cs h x ok once, record { small = bits_small; leads = refl }, after),
        ),
      )
    where
      empty : (fs : List ℕ) → length fs ≡ 0 → fs ≡ []
      empty [] e = refl
      empty (y ∷ ys) e = absurd (omega (arith, e))
