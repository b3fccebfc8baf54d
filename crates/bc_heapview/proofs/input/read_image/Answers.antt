use Rattle.std.proofs.Common.{◌≡◌, ◌<◌, ◌≤◌, ℕ, List, [], length, sym, ap, ◌∙◌, subst, Err, inl, inr, rules, arith}
use Rattle.std.proofs.lemmas.Result.{err_from_is_err_and}
use Rattle.bc_image.specs.Faults.{IsFault}
use Rattle.bc_image.specs.Images.{ImageOf}
use Rattle.bc_heapview.specs.ViewStatuses.{image_refusal}
use Rattle.bc_heapview.proofs.InputLemmas.{faulty_rest, not_longer, read_as_image, read_is, refused_so, rest_less, rest_told, tells_fault, unread-firm, unread-short, whole_image}
use Rattle.bc_heapview.proofs.input.read_image.Goals as goal

pub returns-in_err-bytes-clause-spelled : goal.returns-in_err-bytes-clause-spelled
returns-in_err-bytes-clause-spelled g c = λ bytes l told short image firm.
    let p = err_from_is_err_and c.from_residual.result c.from_residual.ensures.1 in
    rw (p.1, p.2) (unread-short _ (λ e. not_longer _ bytes (c.in_err-bytes.ensures.too_long (ap Err e)) told short) (λ e. firm (c.in_err-bytes.ensures.read_fault (ap Err e))))

pub returns-in_err-bytes-clause-faulty : goal.returns-in_err-bytes-clause-faulty
returns-in_err-bytes-clause-faulty g c = λ bytes f told short fault firm.
    let p = err_from_is_err_and c.from_residual.result c.from_residual.ensures.1 in
    rw (p.1, p.2) (inr (unread-short _ (λ e. not_longer _ bytes (c.in_err-bytes.ensures.too_long (ap Err e)) told short) (λ e. firm (c.in_err-bytes.ensures.read_fault (ap Err e)))))

pub returns-in_err-bytes-clause-longer : goal.returns-in_err-bytes-clause-longer
returns-in_err-bytes-clause-longer g c = λ bytes told long firm.
    let p = err_from_is_err_and c.from_residual.result c.from_residual.ensures.1 in
    rw (p.1, p.2) (unread-firm _ (λ e. firm (c.in_err-bytes.ensures.read_fault (ap Err e))))

pub returns-in_err-listing-clause-bad_image : goal.returns-in_err-listing-clause-bad_image
returns-in_err-listing-clause-bad_image g c =
    let p = err_from_is_err_and c.from_residual-in_err-listing.result c.from_residual-in_err-listing.ensures.1 in
    rw p.1 (tells_fault _ _ c.deref.result.now c.in_ok-bytes.bytes.items _ _ c.deref.ensures.value
    (record { falls = c.in_ok-bytes.ensures.given; end = c.in_ok-bytes.ensures.at_end; short = search rules }) p.2 c.in_err-listing.ensures.fault)

pub returns-in_err-listing-clause-spelled : goal.returns-in_err-listing-clause-spelled
returns-in_err-listing-clause-spelled g c = λ bytes l told short image firm.
    let p = err_from_is_err_and c.from_residual-in_err-listing.result c.from_residual-in_err-listing.ensures.1 in
    let read = c.deref.ensures.value ∙ read_is _ _ bytes c.in_ok-bytes.ensures.all told in
    rw p.1 (p.2 ∙ ap image_refusal (c.in_err-listing.ensures.listed l [] (subst (λ (b : List ℕ). ImageOf b l []) (sym read) image)))

pub returns-in_err-listing-clause-faulty : goal.returns-in_err-listing-clause-faulty
returns-in_err-listing-clause-faulty g c = λ bytes f told short fault firm.
    let p = err_from_is_err_and c.from_residual-in_err-listing.result c.from_residual-in_err-listing.ensures.1 in
    let read = c.deref.ensures.value ∙ read_is _ _ bytes c.in_ok-bytes.ensures.all told in
    rw p.1 (elim fault [
      | inl is ↦ refused_so f _ _ p.2 (c.in_err-listing.ensures.faulty f (subst (λ (b : List ℕ). IsFault b f) (sym read) is))
      | inr r ↦ inr (p.2 ∙ ap image_refusal (c.in_err-listing.ensures.listed r.listing r.rest (subst (λ (b : List ℕ). ImageOf b r.listing r.rest) (sym read) r.image)))
    ])

pub returns-then-used-len-clause-bad_image : goal.returns-then-used-len-clause-bad_image
returns-then-used-len-clause-bad_image g c =
    faulty_rest _ _ c.deref.result.now c.in_ok-bytes.bytes.items c.in_ok-listing.listing c.in_ok-listing.used c.deref.ensures.value
    (record { falls = c.in_ok-bytes.ensures.given; end = c.in_ok-bytes.ensures.at_end; short = search rules })
    (omega (arith, c.if-used-len.true)) c.in_ok-listing.ensures.found.1

pub returns-then-used-len-clause-spelled : goal.returns-then-used-len-clause-spelled
returns-then-used-len-clause-spelled g c = λ bytes l told short image firm.
    let all = read_is _ _ bytes c.in_ok-bytes.ensures.all told in
    let read = c.deref.ensures.value ∙ all in
    let at = (c.in_ok-listing.ensures.listed l [] (subst (λ (b : List ℕ). ImageOf b l []) (sym read) image)).1 in
    absurd (omega (arith, at, whole_image bytes l image, ap length all, c.if-used-len.true))

pub returns-then-used-len-clause-faulty : goal.returns-then-used-len-clause-faulty
returns-then-used-len-clause-faulty g c = λ bytes f told short fault firm.
    let read = c.deref.ensures.value ∙ read_is _ _ bytes c.in_ok-bytes.ensures.all told in
    elim fault [
      | inl is ↦ absurd (c.in_ok-listing.ensures.faulty f (subst (λ (b : List ℕ). IsFault b f) (sym read) is))
      | inr r ↦ rest_told c.in_ok-listing.used f bytes r (c.in_ok-listing.ensures.listed r.listing r.rest (subst (λ (b : List ℕ). ImageOf b r.listing r.rest) (sym read) r.image)).1
    ]

pub returns-clause-found : goal.returns-clause-found
returns-clause-found g c =
    read_as_image _ _ c.deref.result.now c.in_ok-bytes.bytes.items c.in_ok-listing.listing c.in_ok-listing.used c.deref.ensures.value
    (record { falls = c.in_ok-bytes.ensures.given; end = c.in_ok-bytes.ensures.at_end; short = search rules })
    (omega (arith, c.if-used-len.false)) c.in_ok-listing.ensures.found.1

pub returns-clause-spelled : goal.returns-clause-spelled
returns-clause-spelled g c = λ bytes l told short image firm.
    let read = c.deref.ensures.value ∙ read_is _ _ bytes c.in_ok-bytes.ensures.all told in
    (c.in_ok-listing.ensures.listed l [] (subst (λ (b : List ℕ). ImageOf b l []) (sym read) image)).0

pub returns-clause-faulty : goal.returns-clause-faulty
returns-clause-faulty g c = λ bytes f told short fault firm.
    let all = read_is _ _ bytes c.in_ok-bytes.ensures.all told in
    let read = c.deref.ensures.value ∙ all in
    elim fault [
      | inl is ↦ absurd (c.in_ok-listing.ensures.faulty f (subst (λ (b : List ℕ). IsFault b f) (sym read) is))
      | inr r ↦
          let at = (c.in_ok-listing.ensures.listed r.listing r.rest (subst (λ (b : List ℕ). ImageOf b r.listing r.rest) (sym read) r.image)).1 in
          absurd (omega (arith, at, rest_less bytes f r, ap length all, c.if-used-len.false))
    ]
