-- What is kept of the words: a row for the workers, if they were given, and one for the plain values, if there are any.
use Rattle.std.proofs.Common.{◌≡◌, ◌∙◌, ap, refl, Bool, true, false, List, [], ◌∷◌, ◌++◌, Option, Some, None, option_map, is_some, cond, inl, inr}
use Rattle.std.specs.Prelude.{find}
use Rattle.std.specs.Str.{bytes_eq}
use Rattle.std.proofs.lemmas.Bool.{cases_Bool}
use Rattle.std.proofs.lemmas.Slice.Eq.{bytes_eq-Decides}
use Rattle.clap.specs.Walk.{Row, Text, has_row, stronger, with_values, without, used}
use Rattle.clap.specs.declared.builder.value_parser.Reading.TheVariants.{AsWritten}
use Rattle.clap.specs.declared.parser.matches.ValueSource.TheVariants.{CommandLine}
use Rattle.bc_words.proofs.App.{workers_rule, values_rule, workers-used, values-used, workers_id, values_id}

abbrev pub row_at : Text → List Row → Option Row
row_at id rows = find (λ r. bytes_eq r.id id) rows

abbrev row : Text → List Text → Row
row id vs = record { id = id; values = vs; count = None; source = Some CommandLine; reading = AsWritten }

abbrev pub given_row : Option Text → Option Row
given_row = option_map (λ v. row workers_id (v ∷ []))

abbrev pub listed_row : List Text → Option Row
listed_row [] = None
listed_row (p ∷ ps) = Some (row values_id (p ∷ ps))

-- the rows say that these workers were given, and these plain values
pub record Kept (rows : List Row) (given : Option Text) (plain : List Text) : Type 0 where
  pub workers : row_at workers_id rows ≡ given_row given
  pub listed : row_at values_id rows ≡ listed_row plain

pub has_row-at : (id : Text) (rows : List Row) → has_row id rows ≡ is_some (row_at id rows)
has_row-at id [] = refl
has_row-at id (r ∷ rs) = elim (cases_Bool (bytes_eq r.id id)) [
  | inl its ↦ rw its refl
  | inr other ↦ rw other (has_row-at id rs)
]

without-none : (id : Text) (rows : List Row) → row_at id rows ≡ None → without id rows ≡ rows
without-none id [] none = refl
without-none id (r ∷ rs) none = elim (cases_Bool (bytes_eq r.id id)) [
  | inl its ↦ let bad : Some r ≡ None = rw its at none in absurd cc
  | inr other ↦ let rest : row_at id rs ≡ None = rw other at none in rw other (ap (λ xs. r ∷ xs) (without-none id rs rest))
]

-- a change of one row leaves the others
other_row : (id other : Text) (vs : List Text) (rows : List Row) → bytes_eq id other ≡ false
    → row_at other (with_values id AsWritten CommandLine vs rows) ≡ row_at other rows
other_row id other vs [] apart = rw apart refl
other_row id other vs (r ∷ rs) apart = elim (cases_Bool (bytes_eq r.id id)) [
  | inl its ↦
      let same : r.id ≡ id = (bytes_eq-Decides r.id id).0 its in
      let not_it : bytes_eq r.id other ≡ false = ap (λ t. bytes_eq t other) same ∙ apart in
      rw (its, not_it) refl
  | inr no_it ↦ rw no_it (rest_of (bytes_eq r.id other) (other_row id other vs rs apart))
] where
  rest_of : (b : Bool) {x y : Option Row} → x ≡ y → ◌≡◌ {A = Option Row} (cond b (Some r) x) (cond b (Some r) y)
  rest_of true e = refl
  rest_of false e = e

new_row : (v : Text) (rows : List Row) → row_at workers_id rows ≡ None
    → row_at workers_id (with_values workers_id AsWritten CommandLine (v ∷ []) rows) ≡ given_row (Some v)
new_row v [] none = refl
new_row v (r ∷ rs) none = elim (cases_Bool (bytes_eq r.id workers_id)) [
  | inl its ↦ let bad : Some r ≡ None = rw its at none in absurd cc
  | inr no_it ↦ let rest : row_at workers_id rs ≡ None = rw no_it at none in rw no_it (rw no_it (new_row v rs rest))
]

first_value : (v : Text) (ps : List Text) → None ≡ listed_row ps → ◌≡◌ {A = Option Row} (Some (row values_id (v ∷ []))) (listed_row (ps ++ v ∷ []))
first_value v [] e = refl
first_value v (p ∷ ps) e = absurd cc

more_of : (r : Row) (v : Text) (ps : List Text) → Some r ≡ listed_row ps
    → ◌≡◌ {A = Option Row} (Some (record r { values = r.values ++ v ∷ []; source = Some (stronger r.source CommandLine) })) (listed_row (ps ++ v ∷ []))
more_of r v [] e = absurd cc
more_of r v (p ∷ ps) e =
    let is : r ≡ row values_id (p ∷ ps) = cc in
    rw is refl

more_values-row : (v : Text) (ps : List Text) (rows : List Row) → row_at values_id rows ≡ listed_row ps
    → row_at values_id (with_values values_id AsWritten CommandLine (v ∷ []) rows) ≡ listed_row (ps ++ v ∷ [])
more_values-row v ps [] e = first_value v ps e
more_values-row v ps (r ∷ rs) e = elim (cases_Bool (bytes_eq r.id values_id)) [
  | inl its ↦ let here : Some r ≡ listed_row ps = rw its at e in rw its (rw its (more_of r v ps here))
  | inr no_it ↦ let rest : row_at values_id rs ≡ listed_row ps = rw no_it at e in rw no_it (rw no_it (more_values-row v ps rs rest))
]

-- ---- a use of the option, and one more plain value

pub kept-given : (v : Text) (rows : List Row) (plain : List Text) → Kept rows None plain → Kept (used workers_rule (v ∷ []) rows) (Some v) plain
kept-given v rows plain k = rw (workers-used v rows, without-none workers_id rows k.workers) (record {
  workers = new_row v rows k.workers;
  listed = other_row workers_id values_id (v ∷ []) rows refl ∙ k.listed;
})

pub kept-plain : (v : Text) (rows : List Row) (given : Option Text) (plain : List Text) → Kept rows given plain → Kept (used values_rule (v ∷ []) rows) given (plain ++ v ∷ [])
kept-plain v rows given plain k = rw (values-used v rows) (record {
  workers = other_row values_id workers_id (v ∷ []) rows refl ∙ k.workers;
  listed = more_values-row v plain rows k.listed;
})
