-- Decoding bytes that are exactly one timestamp.
use Rattle.std.specs.Prelude.{◌≡◌, ◌⊎◌, ℕ, List}
use Rattle.x509_cert_policies.specs.declared.timestamp_error.Error.{Error}
use Rattle.x509_cert_policies.specs.declared.tls_error.TlsError.TheVariants.{OutOfMemory}
use Rattle.x509_cert_policies.specs.Forms.{RefusesWhole}
use Rattle.x509_cert_policies.specs.Lists.{OfTls}
use Rattle.x509_cert_policies.specs.Timestamps.{timestamp_form}

-- The error of decoding a member of a list as a timestamp.
abbrev pub ReadsNoTimestamp : List ℕ → Error → Type 0
ReadsNoTimestamp input e = OfTls e (λ t. (t ≡ OutOfMemory) ⊎ RefusesWhole timestamp_form input t)
