-- Goals of `pieces::first_piece` that the checker doesn't prove by itself.
use Rattle.std.proofs.Common.{◌≡◌, ◌<◌, sym, ap, ◌∙◌, get_or, arith}
use Rattle.std.proofs.lemmas.Str.{lead_after_ascii}
use Rattle.x509_cert_name_texts.proofs.pieces.first_piece.Goals as goal

pub range_from-requires : goal.range_from-requires
range_from-requires c =
    let at = c.in-Some.ensures in
    let separator : get_or c.args.text.now c.in-Some.i 0 ≡ c.args.separator = ap (λ w. get_or w c.in-Some.i 0) (sym c.as_bytes.ensures.value) ∙ at.1 in
    let here : get_or c.args.text.now c.in-Some.i 0 < 128 = omega (arith, separator, c.requires) in
    λ p. (omega (arith, at.0), λ l high. lead_after_ascii c.args.text.now c.in-Some.i c.utf8.text here l high)
