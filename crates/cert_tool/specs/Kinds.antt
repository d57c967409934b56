-- The kinds of files.
use Rattle.std.specs.Prelude.{ℕ, List}
use Rattle.cert_tool_explain.specs.ToolDescribe.Files.{IsCertificate, IsList, IsRequest}
use Rattle.cert_tool_messages.specs.Files.{IsKey, IsMessage, IsOcspRequest, IsOcspResponse}
use Rattle.cert_tool_messages.specs.Files.{IsTimestamp}
use Rattle.cert_tool_pem.specs.declared.wanted.Wanted.{Wanted}
use Rattle.cert_tool_pem.specs.declared.wanted.Wanted.TheVariants as wanted
use Rattle.cert_tool.specs.declared.kinds.Kind.{Kind}
use Rattle.cert_tool.specs.declared.kinds.Kind.TheVariants as kinds

-- The bytes are the encoding of a value of this kind.
abbrev pub IsOfKind : Kind → List ℕ → Type 0
IsOfKind kinds.Certificate octets = IsCertificate octets
IsOfKind kinds.List octets = IsList octets
IsOfKind kinds.Request octets = IsRequest octets
IsOfKind kinds.OcspRequest octets = IsOcspRequest octets
IsOfKind kinds.OcspResponse octets = IsOcspResponse octets
IsOfKind kinds.Message octets = IsMessage octets
IsOfKind kinds.Key octets = IsKey octets
IsOfKind kinds.Timestamp octets = IsTimestamp octets

-- What a file of a kind must contain.
abbrev pub wanted_of_kind : Kind → Wanted
wanted_of_kind kinds.Certificate = wanted.Certificates
wanted_of_kind kinds.List = wanted.List
wanted_of_kind kinds.Request = wanted.Request
wanted_of_kind kinds.OcspRequest = wanted.OcspRequest
wanted_of_kind kinds.OcspResponse = wanted.OcspResponse
wanted_of_kind kinds.Message = wanted.Message
wanted_of_kind kinds.Key = wanted.Key
wanted_of_kind kinds.Timestamp = wanted.Timestamp
