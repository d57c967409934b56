-- Listings of certificates, CRLs and CSRs, line by line.
use Rattle.std.specs.Prelude.{ℕ, List, [], ◌++◌, codes, Option, Some, None, Result, Ok, Err}
use Rattle.std.specs.Prelude.{if◌then◌else◌}
use Rattle.std.specs.List.{flat_map}
use Rattle.x509_cert_lists.specs.Oid.Bound.{Bound}
use Rattle.x509_cert_lists.specs.Oid.Comparing.{owned_eq}
use Rattle.x509_cert_lists.specs.Oid.DottedText.{dotted}
use Rattle.x509_cert_lists.specs.Der.ErrorTypes.ErrorKind.{ErrorKind}
use Rattle.x509_cert_lists.specs.Der.TagTypes.Tag.TheVariants as tags
use Rattle.x509_cert_lists.specs.Der.Shapes.{AnyValue}
use Rattle.x509_cert_certificates.specs.Certificates.{PlainCertificate, issuer, subject}
use Rattle.x509_cert_lists.specs.ListGrammar.{extension_req_arcs, extension_req_content}
use Rattle.x509_cert_lists.specs.CertNames.Names.{PlainAttribute}
use Rattle.x509_cert_lists.specs.CertParts.Grammar.{PlainExtension, extension_arcs, is_critical}
use Rattle.x509_cert_lists.specs.Types.Contents.{content_as}
use Rattle.x509_cert_lists.specs.CertNames.PlainTexts.{name_text}
use Rattle.x509_cert_lists.specs.CertParts.Texts.{serial_text, time_text}
use Rattle.cert_desk_listing.specs.Parts.{serial, not_before, not_after, extensions_of, PlainTime}
use Rattle.cert_desk_listing.specs.Parts.{PlainList, PlainRevoked, list_issuer, this_update}
use Rattle.cert_desk_listing.specs.Parts.{next_update, revoked, list_extensions, revoked_serial}
use Rattle.cert_desk_listing.specs.Parts.{revoked_date, PlainRequest, request_subject}
use Rattle.cert_desk_listing.specs.Parts.{request_attributes, attribute_arcs, attribute_values}

-- A line with only a label.
abbrev pub alone : List ℕ → List ℕ
alone label = label ++ codes "\n"

-- A line with a label, a space and a text.
abbrev pub labelled : List ℕ → List ℕ → List ℕ
labelled label text = label ++ codes " " ++ text ++ codes "\n"

-- The line of an extension: its OID, and whether it is critical.
abbrev pub extension_line : PlainExtension → List ℕ
extension_line e =
    labelled (codes "extension") (if is_critical e then dotted (extension_arcs e)
    ++ codes " critical" else dotted (extension_arcs e))

-- The lines of several extensions.
abbrev pub extension_lines : List PlainExtension → List ℕ
extension_lines es = flat_map extension_line es

-- The lines of a certificate (RFC 5280 4.1.2).
unfoldable pub certificate_lines : PlainCertificate → List ℕ
certificate_lines c =
    alone (codes "certificate")
    ++ labelled (codes "serial") (serial_text (serial c))
    ++ labelled (codes "issuer") (name_text (issuer c))
    ++ labelled (codes "not-before") (time_text (not_before c))
    ++ labelled (codes "not-after") (time_text (not_after c))
    ++ labelled (codes "subject") (name_text (subject c))
    ++ extension_lines (extensions_of c)

-- The line with the date of the next CRL, if there is one (RFC 5280 5.1.2.5).
abbrev pub next_update_line : Option PlainTime → List ℕ
next_update_line None = []
next_update_line (Some date) = labelled (codes "next-update") (time_text date)

-- The line of a CRL entry: the serial number and the revocation date (RFC 5280 5.1.2.6).
abbrev pub revoked_line : PlainRevoked → List ℕ
revoked_line r =
    labelled (codes "revoked") (serial_text (revoked_serial r) ++ codes " "
    ++ time_text (revoked_date r))

-- The lines of several CRL entries.
abbrev pub revoked_lines : List PlainRevoked → List ℕ
revoked_lines rs = flat_map revoked_line rs

-- The lines of a CRL (RFC 5280 5.1.2).
unfoldable pub list_lines : PlainList → List ℕ
list_lines l =
    alone (codes "list")
    ++ labelled (codes "issuer") (name_text (list_issuer l))
    ++ labelled (codes "this-update") (time_text (this_update l))
    ++ next_update_line (next_update l)
    ++ revoked_lines (revoked l)
    ++ extension_lines (list_extensions l)

-- The lines of a value that was decoded as extensions, or none.
abbrev pub lines_of_read : Result (List PlainExtension) ErrorKind → List ℕ
lines_of_read (Ok es) = extension_lines es
lines_of_read (Err e) = []

-- The lines of the extensions that a value of an attribute requests, if it can be decoded.
abbrev pub value_lines : AnyValue → List ℕ
value_lines v = lines_of_read (content_as tags.Sequence (extension_req_content Bound) v)

-- The lines of an attribute: its OID and, for an extensionRequest (RFC 2985 5.4.2), the extensions
-- of its values.
abbrev pub attribute_lines : PlainAttribute → List ℕ
attribute_lines a =
    labelled (codes "attribute") (dotted (attribute_arcs a))
    ++ (if owned_eq (attribute_arcs a) extension_req_arcs
    then flat_map value_lines (attribute_values a) else [])

-- The lines of a CSR (RFC 2986 4.1).
unfoldable pub request_lines : PlainRequest → List ℕ
request_lines r =
    alone (codes "request")
    ++ labelled (codes "subject") (name_text (request_subject r))
    ++ flat_map attribute_lines (request_attributes r)
