-- The result of reading an input: values of a shape, or the certificates of a bundle.
use Rattle.std.specs.Prelude.{ℕ, List, length}
use Rattle.x509_cert_certificates.specs.Der.Shapes.{Shape, Value}
use Rattle.x509_cert_certificates.specs.Certificates.{PlainCertificate, raw_certificate}
use Rattle.cert_desk_bundle.specs.declared.fault_kind.FaultKind.TheVariants as kinds
use Rattle.cert_desk_bundle.specs.declared.standing.Standing.{Standing}
use Rattle.cert_desk_bundle.specs.declared.standing.Standing.TheVariants as standings
use Rattle.cert_desk_bundle.specs.Series.{Series, SeriesSplit, encodings}
use Rattle.cert_desk_bundle.specs.Faults.{SeriesFault, NoneBefore}

-- A reader in this state, with these values and this remainder, has read exactly this input. After
-- memory ran out or a read failed, this holds for no input.
abbrev pub ReadsSeries : (s : Shape) → ℕ → Standing → List (Value s) → List ℕ → List ℕ → Type 0
ReadsSeries s limit standings.Open vs rest stream = SeriesSplit s limit stream vs rest
    × NoneBefore s limit (length (encodings s vs)) kinds.Truncated rest
ReadsSeries s limit standings.Ended vs rest stream = Series s limit vs stream
ReadsSeries s limit (standings.Faulted kind) vs rest stream = SeriesFault s limit stream vs kind
ReadsSeries s limit _ vs rest stream = ⊥

-- The contents of a bundle, as contracts see it.
pub record Kept : Type 0 where
  pub limit : ℕ
  pub certificates : List PlainCertificate
  pub rest : List ℕ  -- the bytes of an incomplete certificate
  pub standing : Standing

-- The bundle is the result of reading this input.
abbrev pub Reads : ℕ → Kept → List ℕ → Type 0
Reads bound b stream =
    ReadsSeries (raw_certificate bound) b.limit b.standing b.certificates b.rest stream
