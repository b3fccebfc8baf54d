-- Going round pages: each has its own place after the start, and the table's pages come in the order of the heap's.
use Rattle.std.proofs.Common.{◌≡◌, ℕ, ◌+◌, ◌-◌, ◌<◌, ◌≤◌, if◌then◌else◌, nat_lt, Bool, inl, inr, ap, sym, subst, ◌∙◌, arith}
use Rattle.std.proofs.lemmas.Bool.{cases_lt, lt-ltb, le-ltb}
use Rattle.bc_evict.specs.Looking.{steps_behind}

pub behind_before : (pages start page : ℕ) → page < start → steps_behind pages start page ≡ pages + page - start
behind_before pages start page lt = ap (λ (b : Bool). if b then pages + page - start else page - start) (lt-ltb page start lt)

pub behind_after : (pages start page : ℕ) → start ≤ page → steps_behind pages start page ≡ page - start
behind_after pages start page le = ap (λ (b : Bool). if b then pages + page - start else page - start) (le-ltb page start le)

-- two pages don't lie as many steps after
pub one_place : (pages start p q : ℕ) → start < pages → p < pages → q < pages → steps_behind pages start p ≡ steps_behind pages start q → p ≡ q
one_place pages start p q some lt_p lt_q same = elim (cases_lt p start) [
  | inl a ↦ elim (cases_lt q start) [
    | inl b ↦ let x = behind_before pages start p a in let y = behind_before pages start q b in omega arith
    | inr b ↦ let x = behind_before pages start p a in let y = behind_after pages start q b in absurd (omega arith)
  ]
  | inr a ↦ elim (cases_lt q start) [
    | inl b ↦ let x = behind_after pages start p a in let y = behind_before pages start q b in absurd (omega arith)
    | inr b ↦ let x = behind_after pages start p a in let y = behind_after pages start q b in omega arith
  ]
]

-- each page has its place
pub has_place : (pages start page : ℕ) → start < pages → page < pages → steps_behind pages start page < pages
has_place pages start page some lt = elim (cases_lt page start) [
  | inl a ↦ let x = behind_before pages start page a in omega arith
  | inr a ↦ let x = behind_after pages start page a in omega arith
]

-- what comes before in the heap does so in the table
pub order_kept : (all pages start first q p : ℕ) → pages ≤ all → q < pages → p < pages → first ≡ (if nat_lt start pages then start else 0) → steps_behind all start q < steps_behind all start p
    → steps_behind pages first q < steps_behind pages first p
order_kept all pages start first q p few lt_q lt_p is before = elim (cases_lt start pages) [
  | inl near ↦
      let e : first ≡ start = is ∙ ap (λ (b : Bool). if b then start else 0) (lt-ltb start pages near) in
      subst (λ (n : ℕ). steps_behind pages n q < steps_behind pages n p) (sym e) (elim (cases_lt q start) [
        | inl a ↦
            let x = behind_before pages start q a in
            let y = behind_before all start q a in
            elim (cases_lt p start) [
              | inl b ↦ let z = behind_before pages start p b in let w = behind_before all start p b in omega arith
              | inr b ↦ let w = behind_after all start p b in absurd (omega arith)
            ]
        | inr a ↦
            let x = behind_after pages start q a in
            let y = behind_after all start q a in
            elim (cases_lt p start) [
              | inl b ↦ let z = behind_before pages start p b in omega arith
              | inr b ↦ let z = behind_after pages start p b in let w = behind_after all start p b in omega arith
            ]
      ])
  | inr far ↦
      let e : first ≡ 0 = is ∙ ap (λ (b : Bool). if b then start else 0) (le-ltb start pages far) in
      let x = behind_before all start q (omega arith) in
      let y = behind_before all start p (omega arith) in
      let z = behind_after pages 0 q (omega arith) in
      let w = behind_after pages 0 p (omega arith) in
      subst (λ (n : ℕ). steps_behind pages n q < steps_behind pages n p) (sym e) (omega arith)
]
