-- The values that bytes encode, and the results of the calls about them.
use Rattle.std.specs.Prelude.{◌≡◌, ℕ, ◌⊎◌, List, [], ◌∷◌, if◌then◌else◌, Option, Some, None, Ok}
use Rattle.std.specs.Prelude.{Err, IsNone, IsSome, IsUtf8, false}
use Rattle.cert_tool_describe.specs.Oid.Bound.{Bound}
use Rattle.cert_tool_describe.specs.Oid.Comparing.{owned_eq}
use Rattle.cert_tool_describe.specs.Oid.DottedText.{dotted}
use Rattle.cert_tool_describe.specs.Oid.TextFaults.{IsDottedText}
use Rattle.cert_tool_describe.specs.Der.ErrorTypes.ErrorKind.{ErrorKind}
use Rattle.cert_tool_describe.specs.Der.Grammar.{plain_list}
use Rattle.cert_tool_describe.specs.Der.Shapes.{Spells}
use Rattle.cert_tool_describe.specs.Der.Writing.{Out, write}
use Rattle.cert_tool_describe.specs.CertNames.Names.{PlainName, name}
use Rattle.cert_tool_describe.specs.CertNames.NameTexts.{ReadsEncoding, ReadsName}
use Rattle.cert_tool_describe.specs.CertNames.Pairs.{relative_plain}
use Rattle.cert_tool_describe.specs.CertNames.PlainTexts.{SpellsName, name_text}
use Rattle.cert_tool_describe.specs.CertParts.Grammar.{PlainExtension, extension_arcs}
use Rattle.cert_tool_describe.specs.CertCertificates.Certificates.{PlainCertificate}
use Rattle.cert_tool_describe.specs.CertCertificates.Certificates.{raw_certificate}
use Rattle.cert_tool_describe.specs.CertCertificates.Certificates.{extensions_of, issuer, subject}
use Rattle.cert_tool_describe.specs.CertLists.ListGrammar.{cert_req}
use Rattle.cert_desk_listing.specs.DeskIo.declared.exit_status.ExitStatus.{ExitStatus}
use Rattle.cert_desk_listing.specs.DeskIo.declared.exit_status.ExitStatus.TheVariants as statuses
use Rattle.cert_desk_answers.specs.DeskRules.Identifiers.{IsNoIdentifier, IsSomeIdentifier}
use Rattle.cert_desk_answers.specs.DeskRules.Identifiers.{SpellsIdentifier}
use Rattle.cert_desk_listing.specs.Parts.{PlainList, PlainRequest, raw_certificate_list}

-- The bytes aren't the encoding of a certificate (or of a CRL, a CSR, a name).
abbrev pub IsNoCertificate : List ℕ → Type 0
IsNoCertificate octets = (c : PlainCertificate) → Spells (raw_certificate Bound) c octets → ⊥

abbrev pub IsNoList : List ℕ → Type 0
IsNoList octets = (l : PlainList) → Spells (raw_certificate_list Bound) l octets → ⊥

abbrev pub IsNoRequest : List ℕ → Type 0
IsNoRequest octets = (r : PlainRequest) → Spells (cert_req Bound) r octets → ⊥

abbrev pub IsNoName : List ℕ → Type 0
IsNoName octets = (n : PlainName) → Spells (name Bound) n octets → ⊥

-- The bytes are the encoding of a certificate for which `Is` holds.
abbrev pub IsOfCertificate : List ℕ → (PlainCertificate → Type 0) → Type 0
IsOfCertificate octets Is =
    (c : PlainCertificate) × Spells (raw_certificate Bound) c octets × Is c

-- The bytes are the encoding of a certificate, and the text is that of its subject's name (or of
-- its issuer's).
abbrev pub IsSubjectText : List ℕ → List ℕ → Type 0
IsSubjectText octets text = IsOfCertificate octets (λ c. text ≡ name_text (subject c))

abbrev pub IsIssuerText : List ℕ → List ℕ → Type 0
IsIssuerText octets text = IsOfCertificate octets (λ c. text ≡ name_text (issuer c))

-- The first extension with this OID (RFC 5280 4.2).
abbrev pub first_extension : List ℕ → List PlainExtension → Option PlainExtension
first_extension arcs [] = None
first_extension arcs (e ∷ left) = if owned_eq (extension_arcs e) arcs then Some e
    else first_extension arcs left

-- The bytes are the encoding of a name, and this is its text (RFC 4514 2).
abbrev pub IsNameText : List ℕ → List ℕ → Type 0
IsNameText octets text = (n : PlainName) × Spells (name Bound) n octets × (text ≡ name_text n)

-- The state of a writer without a bound that has written these bytes.
abbrev pub written_octets : List ℕ → Out
written_octets octets = record { written = octets; room = None; failed = false }

-- The text is in UTF-8 and is that of a name (RFC 4514 3), whose encoding these bytes are.
abbrev pub IsEncodedName : List ℕ → List ℕ → Type 0
IsEncodedName text octets =
    IsUtf8 text × ((n : PlainName) × SpellsName Bound text n
    × (write (name Bound) n (written_octets []) ≡ Ok (written_octets octets)))

-- The text isn't UTF-8, or isn't that of a name that has an encoding.
abbrev pub IsNoNameText : List ℕ → Type 0
IsNoNameText text = (IsUtf8 text → ⊥)
    ⊎ ((kind : ErrorKind)
    × ReadsEncoding (name Bound) (plain_list relative_plain) (ReadsName Bound text) (Err kind))

-- The bytes are the content of an OID, and this is its dotted text.
abbrev pub IsDottedTextOf : List ℕ → List ℕ → Type 0
IsDottedTextOf octets text =
    (arcs : List ℕ) × SpellsIdentifier octets arcs × (text ≡ dotted arcs)

-- The text is in UTF-8 and is the dotted text of an OID, whose content these bytes are.
abbrev pub IsIdentifierOf : List ℕ → List ℕ → Type 0
IsIdentifierOf text octets =
    IsUtf8 text × ((arcs : List ℕ) × IsDottedText arcs text × SpellsIdentifier octets arcs)

-- The text isn't the dotted text of an OID.
abbrev pub IsNoDottedText : List ℕ → Type 0
IsNoDottedText text = (octets : List ℕ) → IsIdentifierOf text octets → ⊥

-- The bytes are a certificate and the content of an OID, and `Is` holds for the certificate's first
-- extension with that OID, or for `None` if it has none.
abbrev pub IsOfExtension : List ℕ → List ℕ → (Option PlainExtension → Type 0) → Type 0
IsOfExtension octets identifier Is =
    (arcs : List ℕ) × SpellsIdentifier identifier arcs
    × IsOfCertificate octets (λ c. Is (first_extension arcs (extensions_of c)))

-- The status of a call that looks for the extension: there is one; the bytes aren't a certificate;
-- the certificate has no such extension; or the OID is wrong.
abbrev pub IsExtensionStatus : List ℕ → List ℕ → ExitStatus → Type 0
IsExtensionStatus octets identifier statuses.Done = IsOfExtension octets identifier IsSome
IsExtensionStatus octets identifier statuses.Faulty =
    IsSomeIdentifier identifier × IsNoCertificate octets
IsExtensionStatus octets identifier statuses.Empty = IsOfExtension octets identifier IsNone
IsExtensionStatus octets identifier statuses.Arguments = IsNoIdentifier identifier
IsExtensionStatus octets identifier _ = ⊥
