-- Goals of `pieces::split_member` that the checker doesn't prove by itself.
use Rattle.std.proofs.Common.{◌==◌, get_or, sym, ap, ◌∙◌, arith, position}
use Rattle.std.proofs.lemmas.List.Quantifiers.{position-Some}
use Rattle.std.proofs.lemmas.Str.{IsCharBoundary-before_ascii}
use Rattle.x509_cert_name_texts.proofs.PieceSteps.{is_equal}
use Rattle.x509_cert_name_texts.proofs.pieces.split_member.Goals as goal

pub range-requires-clause-end_boundary : goal.range-requires-clause-end_boundary
range-requires-clause-end_boundary c =
    let w = c.args.text.now in
    let i = c.in_ok-i.i in
    let found = position-Some (λ o. o == 61) w i 0 (ap (position (λ o. o == 61)) (sym c.as_bytes-octets.ensures.value) ∙ sym c.place_of_equals.ensures ∙ c.in_ok-i.was) in
    IsCharBoundary-before_ascii w i found.0 (omega (arith, is_equal (get_or w i 0) 61 found.1))
