-- The certificate with which bytes begin, or the error that decoding it gives.
use Rattle.std.specs.Prelude.{ℕ, List, Result, Err, length, nat_lt, if◌then◌else◌}
use Rattle.x509_cert_certificates.specs.Oid.Bound.{Bound}
use Rattle.x509_cert_certificates.specs.Der.ErrorTypes.ErrorKind.{ErrorKind}
use Rattle.x509_cert_certificates.specs.Der.ErrorTypes.ErrorKind.TheVariants as kinds
use Rattle.x509_cert_certificates.specs.Der.Grammar.{read}
use Rattle.x509_cert_certificates.specs.Der.Limits.{length_max, levels_max}
use Rattle.x509_cert_certificates.specs.Certificates.{PlainCertificate, raw_certificate}

-- The result of decoding a certificate at the beginning of bytes, and the bytes after it.
abbrev pub first_certificate : List ℕ → Result (PlainCertificate × List ℕ) ErrorKind
first_certificate octets = if nat_lt length_max (length octets) then Err kinds.Overflow
    else read (raw_certificate Bound) levels_max octets
