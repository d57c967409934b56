-- The lines of the questions about a chain.
use Rattle.std.specs.Prelude.{ℕ, zero, suc, ◌+◌, List, [], ◌∷◌, ◌++◌, length, codes, decimal, map}
use Rattle.std.specs.Prelude.{flat_map, if◌then◌else◌, Option, Some, None, slice_get}
use Rattle.std.specs.Option.{option_map_or}
use Rattle.x509_cert_anchors.specs.Der.Shapes.{Shape, Value, octets_of}
use Rattle.hex.specs.Hex.{encode_lower}
use Rattle.x509_cert_anchors.specs.Oid.Bound.{Bound}
use Rattle.x509_cert_anchors.specs.CertCertificates.Certificates.{PlainCertificate, public_key}
use Rattle.x509_cert_anchors.specs.CertParts.Grammar.{algorithm_identifier, bit_string}
use Rattle.x509_cert_anchors.specs.CertParts.Grammar.{public_key_info}
use Rattle.cert_desk_rules.specs.Judging.{PlainAnchor, is_named}
use Rattle.cert_desk_rules.specs.Questions.{Question, question}

-- The content of a line: the index of the certificate, the index of the trust anchor if the key is
-- one's, and the question.
pub record QuestionLine : Type 0 where
  pub place : ℕ
  pub anchor : Option ℕ
  pub question : Question

-- The encoding of a value in base 16.
abbrev pub hex_encoding : (s : Shape) → Value s → List ℕ
hex_encoding s v = encode_lower (octets_of s v)

-- A word, a space, and the text after it.
abbrev pub spaced : List ℕ → List ℕ → List ℕ
spaced word rest = word ++ (codes " " ++ rest)

-- The index of a trust anchor in decimal, or `-`.
abbrev pub anchor_word : Option ℕ → List ℕ
anchor_word None = codes "-"
anchor_word (Some number) = decimal number

-- The text of a line: six words, and LF.
abbrev pub line_octets : QuestionLine → List ℕ
line_octets l =
    spaced (decimal l.place)
    (spaced (anchor_word l.anchor)
    (spaced (hex_encoding (public_key_info Bound) l.question.key)
    (spaced (hex_encoding (algorithm_identifier Bound) l.question.algorithm)
    (spaced (encode_lower l.question.signed)
    (hex_encoding bit_string l.question.bits ++ codes "\n")))))

-- The text of several lines.
abbrev pub lines_octets : List QuestionLine → List ℕ
lines_octets lines = flat_map line_octets lines

-- The questions of several lines.
abbrev pub questions_of_lines : List QuestionLine → List Question
questions_of_lines lines = map (λ l. l.question) lines

-- The lines about the first certificate c, where `number` is the index of the first of these trust
-- anchors.
abbrev pub anchor_lines : List PlainCertificate → List ℕ → PlainCertificate → ℕ → List PlainAnchor
    → List QuestionLine
anchor_lines cs stream c number [] = []
anchor_lines cs stream c number (a ∷ more) =
    if is_named Bound c a
    then record {
      place = 0;
      anchor = Some number;
      question = question Bound cs stream 0 c a.key;
    } ∷ anchor_lines cs stream c (number + 1) more
    else anchor_lines cs stream c (number + 1) more

-- The lines about the certificate c at an index.
abbrev pub lines_of : List PlainAnchor → List PlainCertificate → List ℕ → ℕ → PlainCertificate
    → List QuestionLine
lines_of anchors cs stream zero c = anchor_lines cs stream c 0 anchors
lines_of anchors cs stream (suc before) c =
    option_map_or
    (λ b. record {
      place = suc before;
      anchor = None;
      question = question Bound cs stream (suc before) c (public_key b);
    } ∷ []) (slice_get cs before) []

-- The lines about the certificate at an index, or none if there is no such certificate.
abbrev pub lines_at : List PlainAnchor → List PlainCertificate → List ℕ → ℕ → List QuestionLine
lines_at anchors cs stream place =
    option_map_or (lines_of anchors cs stream place) (slice_get cs place) []

-- The lines about the first certificates, in order.
abbrev pub lines_below : List PlainAnchor → List PlainCertificate → List ℕ → ℕ → List QuestionLine
lines_below anchors cs stream zero = []
lines_below anchors cs stream (suc place) = lines_below anchors cs stream place
    ++ lines_at anchors cs stream place

-- The lines about all certificates of a chain, in order.
abbrev pub chain_lines : List PlainAnchor → List PlainCertificate → List ℕ → List QuestionLine
chain_lines anchors cs stream = lines_below anchors cs stream (length cs)
