-- Goals of `bmp_string::BmpStringPartialEq::eq` that the checker doesn't prove by itself.
use Rattle.der_types_text.proofs.BmpTexts.{pointwise-bmp_octets}
use Rattle.der_types_text.proofs.bmp_string.BmpStringPartialEq.eq.Goals as goal

pub returns : goal.returns
returns c =
    let same = pointwise-bmp_octets c.args.self.now c.args.other.now in
    cc (same, c.eq.ensures, c.as_bytes.ensures, c.as_bytes-2.ensures)
