-- The objects of superpages, one after the other.
use Rattle.std.proofs.Common.{◌≡◌, ◌≢◌, ℕ, ◌+◌, ◌*◌, ◌/◌, ◌%◌, ◌<◌, ◌≤◌, ◌==◌, ◌&&◌, ◌||◌, nat_eq, nat_lt, Bool, true, false, List, [], ◌∷◌, ◌++◌, length, map, refl, sym, ◌∙◌, ap, ap₂, subst, inl, inr, arith}
use Prim.Native.Nat.{zero, suc}
use Rattle.std.specs.List.{list_any, flat_map}
use Rattle.std.proofs.lemmas.Bool.{ne_eqb, and_parts, cases_eq}
use Rattle.std.proofs.lemmas.Bool.Decides.{nat_tests}
use Rattle.std.proofs.lemmas.List.{append_assoc, append-nil}
use Rattle.std.proofs.Math.Nat.{div-le_self}
use Rattle.bc_classes.specs.Classes.{class_of}
use Rattle.bc_classes.specs.ClassNumbers.{IsClass}
use Rattle.bc_classes.proofs.ClassLemmas.{class_of-class, class-positive}
use Rattle.bc_word.specs.HeadBits.{head_bits}
use Rattle.bc_word.specs.declared.heads.Head.{Head}
use Rattle.bc_image.specs.Cells.{CellList}
use Rattle.bc_image.specs.Drafts.{ImageDraft, put, birth_bits}
use Rattle.bc_image.specs.Images.{cell_items, group_items}
use Rattle.bc_image.specs.Items.{is_finished, is_within, is_class, passes, advanced}
use Rattle.bc_image.specs.Listings.{ListingLists}
use Rattle.bc_image.specs.declared.progress.Stage.TheVariants as stages
use Rattle.bc_image.proofs.ItemLemmas.{at_least, lt_true}
use Rattle.bc_image.proofs.ReadLemmas.{judged-passed, judged-ok}
use Rattle.bc_image.proofs.Running.{Runs, next-item, runs-then}
use Rattle.bc_image.proofs.Groups.{page_draft, stage_at, object_done, done-last, done-more, IsObject, object-in, object-out}

abbrev pub number_of : CellList → ℕ
number_of x = birth_bits (head_bits x.head)

module _ (cells : List CellList) (l : ListingLists) where
  -- objects of one superpage, from a least address on, with births that are not among these
  abbrev pub AreObjects : ℕ → ℕ → ℕ → ℕ → List ℕ → List CellList → Type 0
  AreObjects q c dom least born [] = Unit {0}
  AreObjects q c dom least born (x ∷ xs) = IsObject cells l q c dom least x × (list_any (nat_eq (number_of x)) born ≡ false) × AreObjects q c dom (x.address + c) (born ++ number_of x ∷ []) xs

  -- what a superpage's objects leave
  pub record Ends (q : ℕ) (born : List ℕ) (cs : List CellList) (d : ImageDraft) : Type 0 where
    pub class : ℕ
    pub domain : ℕ
    pub left : ℕ
    pub least : ℕ
    pub address : ℕ
    pub fields : ℕ
    pub head : Head
    pub is : d ≡ page_draft l (stage_at l q) q class domain left least address fields born cs head []

  pub record Objects (q c dom count least : ℕ) (born : List ℕ) (cs : List CellList) (items : List ℕ) (e : ImageDraft) : Type 0 where
    pub group : List CellList
    pub rest : List ℕ
    pub is : items ≡ flat_map cell_items group ++ rest
    pub counted : length group ≡ count
    pub ok : AreObjects q c dom least born group
    pub now : ImageDraft
    pub ends : Ends (q + 1) (born ++ map number_of group) (cs ++ group) now
    pub runs : Runs cells now rest e

  pub objects-in : (m q c dom least a f : ℕ) (born : List ℕ) (cs : List CellList) (h : Head) (items : List ℕ) (e : ImageDraft) → is_finished e.progress.stage ≡ true → Runs cells (page_draft l stages.Address q c dom (suc m) least a f born cs h []) items e → Objects q c dom (suc m) least born cs items e
  objects-in zero q c dom least a f born cs h items e is run =
      let r = object-in cells l q c dom 1 least a f born cs h items e is run in
      let x : CellList = r.object in
      record {
        group = x ∷ [];
        rest = r.rest;
        is = r.is ∙ ap (λ (ns : List ℕ). ns ++ r.rest) (sym (append-nil (cell_items x)));
        counted = refl;
        ok = (r.ok, r.once, tt);
        now = object_done l q c dom 1 x.address r.last (born ++ number_of x ∷ []) cs x.head x.fields;
        ends = record { class = c; domain = dom; left = 0; least = x.address + c; address = x.address; fields = r.last; head = x.head; is = done-last l q c dom x.address r.last (born ++ number_of x ∷ []) cs x.head x.fields };
        runs = r.runs;
      }
  objects-in (suc m) q c dom least a f born cs h items e is run =
      let r = object-in cells l q c dom (suc (suc m)) least a f born cs h items e is run in
      let x : CellList = r.object in
      let o = objects-in m q c dom (x.address + c) x.address r.last (born ++ number_of x ∷ []) (cs ++ x ∷ []) x.head r.rest e is
      (subst (λ d. Runs cells d r.rest e) (done-more l q c dom m x.address r.last (born ++ number_of x ∷ []) cs x.head x.fields) r.runs) in
      record {
        group = x ∷ o.group;
        rest = o.rest;
        is = r.is ∙ ap (λ (ns : List ℕ). cell_items x ++ ns) o.is ∙ sym (append_assoc (cell_items x) (flat_map cell_items o.group) o.rest);
        counted = ap suc o.counted;
        ok = (r.ok, r.once, o.ok);
        now = o.now;
        ends = subst (λ (bs : List ℕ). Ends (q + 1) bs (cs ++ x ∷ o.group) o.now) (append_assoc born (number_of x ∷ []) (map number_of o.group)) (subst (λ (ys : List CellList). Ends (q + 1) ((born ++ number_of x ∷ []) ++ map number_of o.group) ys o.now) (append_assoc cs (x ∷ []) o.group) o.ends);
        runs = o.runs;
      }

  pub record Leads (q : ℕ) (born : List ℕ) (cs : List CellList) (d : ImageDraft) (items : List ℕ) : Type 0 where
    pub now : ImageDraft
    pub ends : Ends q born cs now
    pub runs : Runs cells d items now

  pub objects-out : (group : List CellList) (m q c dom least a f : ℕ) (born : List ℕ) (cs : List CellList) (h : Head) → q < 4096 → length group ≡ suc m → AreObjects q c dom least born group → Leads (q + 1) (born ++ map number_of group) (cs ++ group) (page_draft l stages.Address q c dom (suc m) least a f born cs h []) (flat_map cell_items group)
  objects-out [] m q c dom least a f born cs h few len ok = absurd (omega (arith, len))
  objects-out (x ∷ []) (suc m) q c dom least a f born cs h few len ok = absurd (omega (arith, len))
  objects-out (x ∷ []) zero q c dom least a f born cs h few len ok =
      let r = object-out cells l q c dom 1 least a f born cs h x few ok.0 ok.1 in
      record {
        now = object_done l q c dom 1 x.address r.0 (born ++ number_of x ∷ []) cs x.head x.fields;
        ends = record { class = c; domain = dom; left = 0; least = x.address + c; address = x.address; fields = r.0; head = x.head; is = done-last l q c dom x.address r.0 (born ++ number_of x ∷ []) cs x.head x.fields };
        runs = subst (λ (ns : List ℕ). Runs cells (page_draft l stages.Address q c dom 1 least a f born cs h []) ns (object_done l q c dom 1 x.address r.0 (born ++ number_of x ∷ []) cs x.head x.fields)) (sym (append-nil (cell_items x))) r.1;
      }
  objects-out (x ∷ y ∷ ys) zero q c dom least a f born cs h few len ok = absurd (omega (arith, len))
  objects-out (x ∷ y ∷ ys) (suc m) q c dom least a f born cs h few len ok =
      let r = object-out cells l q c dom (suc (suc m)) least a f born cs h x few ok.0 ok.1 in
      let o = objects-out (y ∷ ys) m q c dom (x.address + c) x.address r.0 (born ++ number_of x ∷ []) (cs ++ x ∷ []) x.head few (let e : length (y ∷ ys) ≡ suc m = omega (arith, len) in e) ok.2 in
      let done : ImageDraft = object_done l q c dom (suc (suc m)) x.address r.0 (born ++ number_of x ∷ []) cs x.head x.fields in
      record {
        now = o.now;
        ends = subst (λ (bs : List ℕ). Ends (q + 1) bs (cs ++ x ∷ y ∷ ys) o.now) (append_assoc born (number_of x ∷ []) (map number_of (y ∷ ys))) (subst (λ (zs : List CellList). Ends (q + 1) ((born ++ number_of x ∷ []) ++ map number_of (y ∷ ys)) zs o.now) (append_assoc cs (x ∷ []) (y ∷ ys)) o.ends);
        runs = runs-then cells (page_draft l stages.Address q c dom (suc (suc m)) least a f born cs h []) done o.now (cell_items x) (flat_map cell_items (y ∷ ys)) r.1
            (subst (λ d. Runs cells d (flat_map cell_items (y ∷ ys)) o.now) (sym (done-more l q c dom m x.address r.0 (born ++ number_of x ∷ []) cs x.head x.fields)) o.runs);
      }

  -- ---- a superpage

  abbrev pub IsGroup : ℕ → List ℕ → List CellList → Type 0
  IsGroup q born [] = Unit {0}
  IsGroup q born (x ∷ xs) = (x.head.domain < l.setup.domains) × AreObjects q (class_of x.head.fields) x.head.domain (2048 * q) born (x ∷ xs)

  pub record Page (q : ℕ) (born : List ℕ) (cs : List CellList) (items : List ℕ) (e : ImageDraft) : Type 0 where
    pub group : List CellList
    pub rest : List ℕ
    pub is : items ≡ group_items group ++ rest
    pub ok : IsGroup q born group
    pub now : ImageDraft
    pub ends : Ends (q + 1) (born ++ map number_of group) (cs ++ group) now
    pub runs : Runs cells now rest e

  pair-none : (q c dom left least a f : ℕ) (born : List ℕ) (cs : List CellList) (h : Head) → put (page_draft l stages.Pair q c dom left least a f born cs h []) 0 ≡ page_draft l (stage_at l (q + 1)) (q + 1) c dom left least a f born cs h []
  unfolding put advanced
  pair-none q c dom left least a f born cs h = refl

  pair-some : (q c dom left least a f : ℕ) (born : List ℕ) (cs : List CellList) (h : Head) (n : ℕ) → n ≢ 0 → put (page_draft l stages.Pair q c dom left least a f born cs h []) n ≡ page_draft l stages.Count q (n % 256) (n / 256) left least a f born cs h []
  unfolding put advanced
  pair-some q c dom left least a f born cs h n ne = rw (ne_eqb n 0 ne) refl

  count-put : (q c dom left least a f : ℕ) (born : List ℕ) (cs : List CellList) (h : Head) (n : ℕ) → put (page_draft l stages.Count q c dom left least a f born cs h []) n ≡ page_draft l stages.Address q c dom n (2048 * q) a f born cs h []
  unfolding put advanced
  count-put q c dom left least a f born cs h n = refl

  group-is : (group : List CellList) (n k q least : ℕ) (born : List ℕ) → length group ≡ suc k → AreObjects q (n % 256) (n / 256) least born group → n ∷ suc k ∷ flat_map cell_items group ≡ group_items group
  group-is [] n k q least born len ok = absurd (omega (arith, len))
  group-is (x ∷ xs) n k q least born len ok =
      let pair : n ≡ class_of x.head.fields + 256 * x.head.domain = (let c = ok.0.class in let d = ok.0.domain in omega arith) in
      ap₂ (λ (p c : ℕ). p ∷ c ∷ flat_map cell_items (x ∷ xs)) pair (sym len)

  group-ok : (group : List CellList) (c dom q : ℕ) (born : List ℕ) → dom < l.setup.domains → AreObjects q c dom (2048 * q) born group → IsGroup q born group
  group-ok [] c dom q born lt ok = tt
  group-ok (x ∷ xs) c dom q born lt ok =
      (subst (λ (d : ℕ). d < l.setup.domains) (sym ok.0.domain) lt, subst (λ (d : ℕ). AreObjects q (class_of x.head.fields) d (2048 * q) born (x ∷ xs)) (sym ok.0.domain) (subst (λ (k : ℕ). AreObjects q k dom (2048 * q) born (x ∷ xs)) (sym ok.0.class) ok))

  other-true : (x y : Bool) → (x || y) ≡ true → x ≡ false → y ≡ true
  other-true true y h z = absurd (let k : true ≡ false = z in cc)
  other-true false y h z = h

  positive-is : (n : ℕ) → 1 ≤ n → (m : ℕ) × (n ≡ suc m)
  positive-is zero h = absurd (omega arith)
  positive-is (suc m) h = (m, refl)

  pub superpage-in : (q c dom left least a f : ℕ) (born : List ℕ) (cs : List CellList) (h : Head) (items : List ℕ) (e : ImageDraft) → is_finished e.progress.stage ≡ true → Runs cells (page_draft l stages.Pair q c dom left least a f born cs h []) items e → Page q born cs items e
  superpage-in q c dom left least a f born cs h items e is run =
      let d0 : ImageDraft = page_draft l stages.Pair q c dom left least a f born cs h [] in
      let r = next-item cells d0 items e refl is run in
      let n : ℕ = r.item in
      elim (cases_eq n 0) [
        | inl z ↦
            let bare : ImageDraft = page_draft l (stage_at l (q + 1)) (q + 1) c dom left least a f born cs h [] in
            record {
              group = [];
              rest = r.more;
              is = r.is ∙ ap (λ (k : ℕ). k ∷ r.more) z;
              ok = tt;
              now = bare;
              ends = record { class = c; domain = dom; left = left; least = least; address = a; fields = f; head = h; is = ap₂ (λ (bs : List ℕ) (ys : List CellList). page_draft l (stage_at l (q + 1)) (q + 1) c dom left least a f bs ys h []) (sym (append-nil born)) (sym (append-nil cs)) };
              runs = subst (λ d. Runs cells d r.more e) (ap (put d0) z ∙ pair-none q c dom left least a f born cs h) r.runs;
            }
        | inr ne ↦
            let d1 : ImageDraft = page_draft l stages.Count q (n % 256) (n / 256) left least a f born cs h [] in
            let r2 = next-item cells d1 r.more e refl is (subst (λ d. Runs cells d r.more e) (pair-some q c dom left least a f born cs h n ne) r.runs) in
            let tests = and_parts (is_class (n % 256)) (nat_lt (n / 256) l.setup.domains) (other-true (n == 0) _ (judged-passed d0 n r.judgement) (ne_eqb n 0 ne)) in
            let k = positive-is r2.item (at_least 1 (2048 / (n % 256)) r2.item (judged-passed d1 r2.item r2.judgement)) in
            let begun : Runs cells (page_draft l stages.Address q (n % 256) (n / 256) (suc k.0) (2048 * q) a f born cs h []) r2.more e = subst (λ d. Runs cells d r2.more e) (count-put q (n % 256) (n / 256) left least a f born cs h r2.item ∙ ap (λ (j : ℕ). page_draft l stages.Address q (n % 256) (n / 256) j (2048 * q) a f born cs h []) k.1) r2.runs in
            let o = objects-in k.0 q (n % 256) (n / 256) (2048 * q) a f born cs h r2.more e is begun in
            record {
              group = o.group;
              rest = o.rest;
              is = r.is ∙ ap (λ (ns : List ℕ). n ∷ ns) (r2.is ∙ ap₂ (λ (j : ℕ) (ns : List ℕ). j ∷ ns) k.1 o.is) ∙ ap (λ (ns : List ℕ). ns ++ o.rest) (group-is o.group n k.0 q (2048 * q) born o.counted o.ok);
              ok = group-ok o.group (n % 256) (n / 256) q born (lt_true (n / 256) l.setup.domains tests.1) o.ok;
              now = o.now;
              ends = o.ends;
              runs = o.runs;
            }
      ]

  -- and back
  pub cell-ends : (a c q : ℕ) → IsClass c → a / 2048 ≡ q → a % c ≡ 0 → a + c ≤ 2048 * (q + 1)
  cell-ends a c q k page start = elim k [
    | inl e ↦ (let z : a % 2 ≡ 0 = subst (λ (x : ℕ). a % x ≡ 0) e start in omega arith)
    | inr k4 ↦ elim k4 [
      | inl e ↦ (let z : a % 4 ≡ 0 = subst (λ (x : ℕ). a % x ≡ 0) e start in omega arith)
      | inr k8 ↦ elim k8 [
        | inl e ↦ (let z : a % 8 ≡ 0 = subst (λ (x : ℕ). a % x ≡ 0) e start in omega arith)
        | inr k16 ↦ elim k16 [
          | inl e ↦ (let z : a % 16 ≡ 0 = subst (λ (x : ℕ). a % x ≡ 0) e start in omega arith)
          | inr k32 ↦ elim k32 [
            | inl e ↦ (let z : a % 32 ≡ 0 = subst (λ (x : ℕ). a % x ≡ 0) e start in omega arith)
            | inr k64 ↦ elim k64 [
              | inl e ↦ (let z : a % 64 ≡ 0 = subst (λ (x : ℕ). a % x ≡ 0) e start in omega arith)
              | inr e ↦ (let z : a % 128 ≡ 0 = subst (λ (x : ℕ). a % x ≡ 0) e start in omega arith)
            ]
          ]
        ]
      ]
    ]
  ]

  abbrev taken : ℕ → List CellList → ℕ
  taken c [] = 0
  taken c (x ∷ xs) = c + taken c xs

  objects-fit : (group : List CellList) (q c dom least : ℕ) (born : List ℕ) → IsClass c → least ≤ 2048 * (q + 1) → AreObjects q c dom least born group → least + taken c group ≤ 2048 * (q + 1)
  objects-fit [] q c dom least born k le ok = omega arith
  objects-fit (x ∷ xs) q c dom least born k le ok =
      let end = cell-ends x.address c q k ok.0.page ok.0.start in
      let rest = objects-fit xs q c dom (x.address + c) (born ++ number_of x ∷ []) k end ok.2 in
      let low = ok.0.least_is in
      omega arith

  taken-is : (c : ℕ) (xs : List CellList) → taken c xs ≡ c * length xs
  taken-is c [] = omega arith
  taken-is c (x ∷ xs) = let e = taken-is c xs in grind (arith, e)

  few-fit : (n c : ℕ) → IsClass c → c * n ≤ 2048 → n ≤ 2048 / c
  few-fit n c k h = grind arith

  class-true : (n : ℕ) → IsClass n → is_class n ≡ true
  class-true n k = grind (arith, nat_tests)

  pub superpage-out : (group : List CellList) (q c dom left least a f : ℕ) (born : List ℕ) (cs : List CellList) (h : Head) → q < 4096 → l.setup.domains ≤ 64 → IsGroup q born group → Leads (q + 1) (born ++ map number_of group) (cs ++ group) (page_draft l stages.Pair q c dom left least a f born cs h []) (group_items group)
  unfolding passes
  superpage-out [] q c dom left least a f born cs h few domains ok = record {
    now = page_draft l (stage_at l (q + 1)) (q + 1) c dom left least a f born cs h [];
    ends = record { class = c; domain = dom; left = left; least = least; address = a; fields = f; head = h; is = ap₂ (λ (bs : List ℕ) (ys : List CellList). page_draft l (stage_at l (q + 1)) (q + 1) c dom left least a f bs ys h []) (sym (append-nil born)) (sym (append-nil cs)) };
    runs = (refl, judged-ok (page_draft l stages.Pair q c dom left least a f born cs h []) 0 refl refl, record { small = omega arith; leads = refl }, pair-none q c dom left least a f born cs h);
  }
  superpage-out (x ∷ xs) q c dom left least a f born cs h few domains ok =
      let d0 : ImageDraft = page_draft l stages.Pair q c dom left least a f born cs h [] in
      let k : ℕ = class_of x.head.fields in
      let n : ℕ = k + 256 * x.head.domain in
      let cl = class_of-class x.head.fields in
      let small : k ≤ 128 = class-few k cl in
      let some = class-positive k cl in
      let rem : n % 256 ≡ k = omega arith in
      let quo : n / 256 ≡ x.head.domain = omega arith in
      let ne : n ≢ 0 = λ e. absurd (omega arith) in
      let d1 : ImageDraft = page_draft l stages.Count q k x.head.domain left least a f born cs h [] in
      let len : ℕ = length (x ∷ xs) in
      let fit = objects-fit (x ∷ xs) q k x.head.domain (2048 * q) born cl (omega arith) ok.1 in
      let all : k * len ≤ 2048 = (let e = taken-is k (x ∷ xs) in omega arith) in
      let within : len ≤ 2048 / k = few-fit len k cl all in
      let o = objects-out (x ∷ xs) (length xs) q k x.head.domain (2048 * q) a f born cs h few refl ok.1 in
      let second : put d0 n ≡ d1 = pair-some q c dom left least a f born cs h n ne ∙ ap₂ (λ (y z : ℕ). page_draft l stages.Count q y z left least a f born cs h []) rem quo in
      record {
        now = o.now;
        ends = o.ends;
        runs = (
          refl,
          judged-ok d0 n (pair-true n l.setup.domains (subst IsClass (sym rem) cl) (subst (λ (y : ℕ). y < l.setup.domains) (sym quo) ok.0)) refl,
          record { small = (let lt = ok.0 in omega arith); leads = refl },
          subst (λ d. Runs cells d (len ∷ flat_map cell_items (x ∷ xs)) o.now) (sym second) (
            refl,
            judged-ok d1 len (one-to len (2048 / k) (omega arith) within) refl,
            record { small = (let q2 : 2048 / k ≤ 2048 = div-le_self 2048 k in omega arith); leads = refl },
            subst (λ d. Runs cells d (flat_map cell_items (x ∷ xs)) o.now) (sym (count-put q k x.head.domain left least a f born cs h len)) o.runs,
          ),
        );
      }
    where
      pair-true : (n domains : ℕ) → IsClass (n % 256) → n / 256 < domains → ((n == 0) || (is_class (n % 256) && nat_lt (n / 256) domains)) ≡ true
      pair-true n domains k lt = rw (class-true (n % 256) k) (grind (arith, nat_tests))

      one-to : (n most : ℕ) → 1 ≤ n → n ≤ most → is_within 1 most n ≡ true
      one-to n most a b = grind (arith, nat_tests)

      class-few : (c : ℕ) → IsClass c → c ≤ 128
      class-few c k = grind arith
