-- Goals of `signed_parts::first_field`: both headers are those of a first field, or there is none.
use Rattle.std.proofs.Common.{drop, refl, arith}
use Rattle.std.proofs.lemmas.List.{take_rest}
use Rattle.pki_signers.proofs.FirstFields.{first_of, one_first, no_outer, outer_of, no_inner, inner_fits, first_here}
use Rattle.pki_signers.proofs.signed_parts.first_field.Goals as goal

pub returns-in_default-clause-none : goal.returns-in_default-clause-none
returns-in_default-clause-none c = no_outer _ _ c.in_default.ensures.exact

pub returns-in_default-clause-field : goal.returns-in_default-clause-field
returns-in_default-clause-field c = λ s b v e spelled. returns-in_default-clause-none c _ (first_of s b v _ e spelled)

pub returns-in_default-tag-clause-none : goal.returns-in_default-tag-clause-none
returns-in_default-tag-clause-none c = λ part f.
    let w = c.args.octets.now in
    c.in_default-tag.not-Sequence (outer_of w _ c.in-Ok.start c.in-Ok.ensures.exact.0 (drop c.in-Ok.start w) refl part f).tag_is

pub returns-in_default-tag-clause-field : goal.returns-in_default-tag-clause-field
returns-in_default-tag-clause-field c = λ s b v e spelled. returns-in_default-tag-clause-none c _ (first_of s b v _ e spelled)

pub returns-then-outer-content-clause-none : goal.returns-then-outer-content-clause-none
returns-then-outer-content-clause-none c = λ part f.
    let w = c.args.octets.now in
    absurd (c.if-outer-content.true (outer_of w _ c.in-Ok.start c.in-Ok.ensures.exact.0 _ (take_rest w c.in-Ok.start) part f).len_is)

pub returns-then-outer-content-clause-field : goal.returns-then-outer-content-clause-field
returns-then-outer-content-clause-field c = λ s b v e spelled. returns-then-outer-content-clause-none c _ (first_of s b v _ e spelled)

pub returns-in_default-header_of-clause-none : goal.returns-in_default-header_of-clause-none
returns-in_default-header_of-clause-none c =
    let w = c.args.octets.now in
    no_inner w _ c.in-Ok.start c.in-Ok.ensures.exact.0 _ (take_rest w c.in-Ok.start) _ c.in_default-header_of.ensures.exact

pub returns-in_default-header_of-clause-field : goal.returns-in_default-header_of-clause-field
returns-in_default-header_of-clause-field c = λ s b v e spelled. returns-in_default-header_of-clause-none c _ (first_of s b v _ e spelled)

pub returns-then-len-content-clause-none : goal.returns-then-len-content-clause-none
returns-then-len-content-clause-none c = λ part f.
    let w = c.args.octets.now in
    let inner = c.in-Ok-header_of in
    let fits = inner_fits w _ c.in-Ok.start c.in-Ok.ensures.exact.0 _ (take_rest w c.in-Ok.start) _ inner.start inner.ensures.exact.0 part f in
    omega (arith, fits, c.if-len-content.true)

pub returns-then-len-content-clause-field : goal.returns-then-len-content-clause-field
returns-then-len-content-clause-field c = λ s b v e spelled. returns-then-len-content-clause-none c _ (first_of s b v _ e spelled)

pub returns-clause-first : goal.returns-clause-first
returns-clause-first c =
    let w = c.args.octets.now in
    let inner = c.in-Ok-header_of in
    first_here w _ c.in-Ok.start c.in-Ok.ensures.exact.0 _ (take_rest w c.in-Ok.start) _ inner.start inner.ensures.exact.0
    (λ i. omega (arith, c.type_inv.octets i)) c.in-Sequence.is c.if-outer-content.false inner.ensures.exact.1 (omega (arith, c.if-len-content.false))

pub returns-clause-field : goal.returns-clause-field
returns-clause-field c = λ s b v e spelled. one_first c.args.octets.now _ _ (returns-clause-first c) (first_of s b v _ e spelled)
