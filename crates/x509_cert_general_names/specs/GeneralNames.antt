-- The grammar of general names and of the types that contain them (RFC 5280 4.2, 5.2). Shapes with
-- an OID depend on a bound on its arcs.
use Rattle.std.specs.Prelude.{ℕ, ◌+◌, [], ◌∷◌, true}
use Rattle.der_core.specs.Oid.Bound.{max_size}
use Rattle.der_core.specs.Integers.{within}
use Rattle.der_core.specs.Leaves.{Leaf, boolean, integer, octets, identifier, text, named}
use Rattle.der_core.specs.Shapes.{Shape, Body, tagged, any, either, optional, defaulted}
use Rattle.der_core.specs.Shapes.{field, done, many, rising, nested, sequence, sequence_of}
use Rattle.der_core.specs.Shapes.{explicit}
use Rattle.der_core.specs.Tags.{context}
use Rattle.der_core.specs.Texts.{ascii}
use Rattle.x509_cert_names.specs.Names.{name, type_and_value, directory_string}
use Rattle.x509_cert_parts.specs.Grammar.{object_identifier, octet_string}
use Rattle.x509_cert_parts.specs.Grammar.{implicit_leaf, whole_number}
use Rattle.x509_cert_parts.specs.SerialNumbers.{serial_octets_max}

-- [n] IMPLICIT on a SEQUENCE or SET (X.690 8.14.3).
abbrev pub inside : ℕ → Body → Shape
inside n b = tagged (context true n) (nested b)

-- [n] IMPLICIT BOOLEAN DEFAULT FALSE.
abbrev pub false_behind : ℕ → Shape
false_behind n = defaulted (implicit_leaf n boolean) ((128 + n) ∷ 1 ∷ 0 ∷ [])

-- OtherName ::= SEQUENCE { type-id OBJECT IDENTIFIER, value [0] EXPLICIT ANY DEFINED BY type-id }
-- (4.2.1.6).
abbrev pub other_name_fields : ℕ → Body
other_name_fields bound = field (object_identifier bound) (field (explicit 0 any) done)

-- EDIPartyName ::= SEQUENCE { nameAssigner [0] DirectoryString OPTIONAL, partyName [1]
-- DirectoryString } (4.2.1.6).
abbrev pub edi_party_name_fields : Body
edi_party_name_fields =
    field (optional (explicit 0 directory_string)) (field (explicit 1 directory_string) done)

-- GeneralName ::= CHOICE { otherName [0], rfc822Name [1], dNSName [2], directoryName [4],
-- ediPartyName [5], uniformResourceIdentifier [6], iPAddress [7], registeredID [8] } (4.2.1.6).
-- x400Address [3] is rejected.
abbrev pub general_name : ℕ → Shape
general_name bound =
    either (inside 0 (other_name_fields bound))
    (either (implicit_leaf 1 (text ascii))
    (either (implicit_leaf 2 (text ascii))
    (either (explicit 4 (name bound))
    (either (inside 5 edi_party_name_fields)
    (either (implicit_leaf 6 (text ascii))
    (either (implicit_leaf 7 octets) (implicit_leaf 8 (identifier bound max_size))))))))

-- GeneralNames ::= SEQUENCE OF GeneralName (4.2.1.6). An empty sequence is accepted, too.
abbrev pub general_names : ℕ → Shape
general_names bound = sequence_of (general_name bound)

-- AuthorityKeyIdentifier ::= SEQUENCE { keyIdentifier [0] OCTET STRING OPTIONAL,
-- authorityCertIssuer [1] GeneralNames OPTIONAL, authorityCertSerialNumber [2]
-- CertificateSerialNumber OPTIONAL } (4.2.1.1).
abbrev pub authority_key_identifier_fields : ℕ → Body
authority_key_identifier_fields bound =
    field (optional (implicit_leaf 0 octets))
    (field (optional (inside 1 (many (general_name bound))))
    (field (optional (implicit_leaf 2 (integer (within serial_octets_max)))) done))

-- GeneralSubtree ::= SEQUENCE { base GeneralName, minimum [0] INTEGER DEFAULT 0, maximum [1]
-- INTEGER OPTIONAL } (4.2.1.10), with numbers below 2^32.
abbrev pub general_subtree_fields : ℕ → Body
general_subtree_fields bound =
    field (general_name bound)
    (field (defaulted (implicit_leaf 0 (whole_number 32)) (128 ∷ 1 ∷ 0 ∷ []))
    (field (optional (implicit_leaf 1 (whole_number 32))) done))

-- NameConstraints ::= SEQUENCE { permittedSubtrees [0] GeneralSubtrees OPTIONAL, excludedSubtrees
-- [1] GeneralSubtrees OPTIONAL } (4.2.1.10).
abbrev pub name_constraints_fields : ℕ → Body
name_constraints_fields bound =
    field (optional (inside 0 (many (sequence (general_subtree_fields bound)))))
    (field (optional (inside 1 (many (sequence (general_subtree_fields bound))))) done)

-- DistributionPointName ::= CHOICE { fullName [0] GeneralNames, nameRelativeToCRLIssuer [1]
-- RelativeDistinguishedName } (4.2.1.13).
abbrev pub distribution_point_name : ℕ → Shape
distribution_point_name bound =
    either (inside 0 (many (general_name bound))) (inside 1 (rising (type_and_value bound)))

-- ReasonFlags ::= BIT STRING { unused (0), .. aACompromise (8) } (4.2.1.13).
abbrev pub reasons : Leaf
reasons = named 9

-- DistributionPoint ::= SEQUENCE { distributionPoint [0] DistributionPointName OPTIONAL, reasons
-- [1] ReasonFlags OPTIONAL, cRLIssuer [2] GeneralNames OPTIONAL } (4.2.1.13).
abbrev pub distribution_point_fields : ℕ → Body
distribution_point_fields bound =
    field (optional (explicit 0 (distribution_point_name bound)))
    (field (optional (implicit_leaf 1 reasons))
    (field (optional (inside 2 (many (general_name bound)))) done))

-- IssuingDistributionPoint ::= SEQUENCE { distributionPoint [0] DistributionPointName OPTIONAL,
-- onlyContainsUserCerts [1] BOOLEAN DEFAULT FALSE, onlyContainsCACerts [2] BOOLEAN DEFAULT FALSE,
-- onlySomeReasons [3] ReasonFlags OPTIONAL, indirectCRL [4] BOOLEAN DEFAULT FALSE,
-- onlyContainsAttributeCerts [5] BOOLEAN DEFAULT FALSE } (5.2.5).
abbrev pub issuing_distribution_point_fields : ℕ → Body
issuing_distribution_point_fields bound =
    field (optional (explicit 0 (distribution_point_name bound)))
    (field (false_behind 1)
    (field (false_behind 2)
    (field (optional (implicit_leaf 3 reasons))
    (field (false_behind 4) (field (false_behind 5) done)))))

-- AccessDescription ::= SEQUENCE { accessMethod OBJECT IDENTIFIER, accessLocation GeneralName }
-- (4.2.2.1).
abbrev pub access_description_fields : ℕ → Body
access_description_fields bound = field (object_identifier bound) (field (general_name bound) done)

-- HardwareModuleName ::= SEQUENCE { hwType OBJECT IDENTIFIER, hwSerialNum OCTET STRING } (RFC 4108
-- 5).
abbrev pub hardware_module_name_fields : ℕ → Body
hardware_module_name_fields bound = field (object_identifier bound) (field octet_string done)
