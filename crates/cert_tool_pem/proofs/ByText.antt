-- The bytes that a file which isn't DER is decoded to.
use Rattle.std.proofs.Common.{◌≡◌, ◌≢◌, ℕ, false, List, Result, refl}
use Rattle.cert_tool_pem.specs.declared.pem_fault.PemFault.{PemFault}
use Rattle.cert_tool_pem.specs.declared.wanted.Wanted.{Wanted}
use Rattle.cert_tool_pem.specs.declared.wanted.Wanted.TheVariants as kinds
use Rattle.cert_tool_pem.specs.Pem.{text_octets}
use Rattle.cert_tool_pem.specs.DecodedFiles.{file_octets, is_der}

pub by_text : (wanted : Wanted) (octets : List ℕ) (read : Result (List ℕ) (ℕ × PemFault)) → wanted ≢ kinds.Lines → is_der octets ≡ false → text_octets wanted octets ≡ read → file_octets wanted octets ≡ read
by_text kinds.Certificates octets read other e is = rw e is
by_text kinds.LeafFirst octets read other e is = rw e is
by_text kinds.Anchors octets read other e is = rw e is
by_text kinds.List octets read other e is = rw e is
by_text kinds.Request octets read other e is = rw e is
by_text kinds.OcspRequest octets read other e is = rw e is
by_text kinds.OcspResponse octets read other e is = rw e is
by_text kinds.Message octets read other e is = rw e is
by_text kinds.Key octets read other e is = rw e is
by_text kinds.Timestamp octets read other e is = rw e is
by_text kinds.Lines octets read other e is = absurd (other refl)
