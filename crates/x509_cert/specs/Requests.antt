-- The signed part of a CSR that a builder makes (RFC 2986 4.1).
use Rattle.std.specs.Prelude.{◌≡◌, ◌⊎◌, List, pos, true, Result, Ok, Err, IsOk}
use Rattle.x509_cert_anchors.specs.Oid.Bound.{Bound}
use Rattle.x509_cert_anchors.specs.Der.Placed.{placed, stands_among}
use Rattle.x509_cert_anchors.specs.Der.ErrorTypes.ErrorKind.{ErrorKind}
use Rattle.x509_cert_anchors.specs.Der.ErrorTypes.ErrorKind.TheVariants as kinds
use Rattle.x509_cert_anchors.specs.Der.Shapes.{Shape, BodyValue, IsValid, sequence}
use Rattle.x509_cert_lists.specs.ListGrammar.{cert_req_info_fields, extension_req_attribute}
use Rattle.x509_cert_builders.specs.Refusals.{IsOfKind, IsUnwritten}
use Rattle.x509_cert_builders.specs.declared.build_error.Error.{Error}
use Rattle.x509_cert_lists.specs.CertNames.Names.{PlainAttribute, PlainName, attribute}
use Rattle.x509_cert_lists.specs.CertParts.Grammar.{PlainExtension, PublicKey}

-- The abstract value of the signed part of a CSR.
abbrev pub PlainInfo : Type 0
PlainInfo = BodyValue (cert_req_info_fields 0)

-- CertificationRequestInfo (RFC 2986 4.1).
abbrev pub request_part : Shape
request_part = sequence (cert_req_info_fields Bound)

-- The error if an attribute isn't added: it can't be made, it has no encoding, or the CSR already
-- contains it.
abbrev pub IsNotAdded : Result PlainAttribute ErrorKind → List PlainAttribute → Error → Type 0
IsNotAdded (Err kind) others e = IsOfKind kind e
IsNotAdded (Ok a) others e =
    IsUnwritten (attribute Bound) a e
    ⊎ (IsOfKind kinds.SetDuplicate e × (stands_among (attribute Bound) a others ≡ true))

-- The other attributes and the attribute extensionRequest, if its encoding has fewer than 2^32
-- bytes (RFC 2985 5.4.2).
abbrev pub with_request : Result PlainAttribute ErrorKind → List PlainAttribute
    → List PlainAttribute
with_request (Ok a) others = placed (attribute Bound) a others
with_request (Err e) others = others

-- The part that a signer with this key signs: version 1, with extensionRequest among the
-- attributes.
abbrev pub request_of : PlainName → List PlainExtension → List PlainAttribute → PublicKey
    → PlainInfo
request_of subject extensions attributes key = (
  pos 0,
  (subject, (key, (with_request (extension_req_attribute Bound extensions) attributes, tt))),
)

-- The attribute extensionRequest can be made, and the part with it has an encoding.
abbrev pub IsRequested : PlainName → List PlainExtension → List PlainAttribute → PublicKey → Type 0
IsRequested subject extensions attributes key = IsOk (extension_req_attribute Bound extensions)
    × IsValid request_part (request_of subject extensions attributes key)

-- The error if an attribute can't be made or has no encoding, for example because it would have
-- 2^32 bytes or more.
abbrev pub HasNoAttribute : Result PlainAttribute ErrorKind → Error → Type 0
HasNoAttribute (Err kind) e = IsOfKind kind e
HasNoAttribute (Ok a) e = IsUnwritten (attribute Bound) a e
