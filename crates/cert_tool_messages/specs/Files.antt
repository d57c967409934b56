-- The files that the program decodes, and the parts of them that are kept as bytes.
use Rattle.std.specs.Prelude.{ℕ, List, ◌⊎◌}
use Rattle.cert_tool_describe.specs.Oid.Bound.{Bound}
use Rattle.cert_tool_describe.specs.Der.Shapes.{Body, BodyValue, Spells, sequence}
use Rattle.cert_tool_describe.specs.MessageGrammar.{ocsp_request_fields, ocsp_response_fields}
use Rattle.cert_tool_describe.specs.MessageGrammar.{content_info_fields, time_stamp_resp_fields}
use Rattle.cert_tool_describe.specs.MessageGrammar.{basic_response_fields, signed_data_fields}
use Rattle.cert_tool_describe.specs.MessageGrammar.{tst_info_fields}
use Rattle.cert_tool_describe.specs.MessageGrammar.{one_asymmetric_key_fields}
use Rattle.cert_tool_describe.specs.MessageGrammar.{encrypted_private_key_info_fields}

-- The bytes are the encoding of a SEQUENCE with these fields.
abbrev pub IsSequence : Body → List ℕ → Type 0
IsSequence b octets = (v : BodyValue b) × Spells (sequence b) v octets

-- The bytes are the encoding of an OCSP request (RFC 6960 4.1.1).
abbrev pub IsOcspRequest : List ℕ → Type 0
IsOcspRequest octets = IsSequence (ocsp_request_fields Bound) octets

-- The bytes are the encoding of an OCSP response (RFC 6960 4.2.1).
abbrev pub IsOcspResponse : List ℕ → Type 0
IsOcspResponse octets = IsSequence (ocsp_response_fields Bound) octets

-- The bytes are the encoding of a basic OCSP response (RFC 6960 4.2.1).
abbrev pub IsBasicResponse : List ℕ → Type 0
IsBasicResponse octets = IsSequence (basic_response_fields Bound) octets

-- The bytes are the encoding of a message (RFC 5652 3).
abbrev pub IsMessage : List ℕ → Type 0
IsMessage octets = IsSequence (content_info_fields Bound) octets

-- The bytes are the encoding of a SignedData (RFC 5652 5.1).
abbrev pub IsSignedData : List ℕ → Type 0
IsSignedData octets = IsSequence (signed_data_fields Bound) octets

-- The bytes are the encoding of a private key that isn't encrypted (RFC 5958 2).
abbrev pub IsPlainKey : List ℕ → Type 0
IsPlainKey octets = IsSequence (one_asymmetric_key_fields Bound) octets

-- The bytes are the encoding of an encrypted private key (RFC 5958 3).
abbrev pub IsEncryptedKey : List ℕ → Type 0
IsEncryptedKey octets = IsSequence (encrypted_private_key_info_fields Bound) octets

-- The bytes are the encoding of a private key, encrypted or not.
abbrev pub IsKey : List ℕ → Type 0
IsKey octets = IsPlainKey octets ⊎ IsEncryptedKey octets

-- The bytes are the encoding of the response of a timestamping authority (RFC 3161 2.4.2).
abbrev pub IsTimestamp : List ℕ → Type 0
IsTimestamp octets = IsSequence (time_stamp_resp_fields Bound) octets

-- The bytes are the encoding of a TSTInfo (RFC 3161 2.4.2).
abbrev pub IsTimestampInfo : List ℕ → Type 0
IsTimestampInfo octets = IsSequence (tst_info_fields Bound) octets
