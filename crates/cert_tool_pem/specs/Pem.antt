-- The decoding of a text with PEM blocks (RFC 7468): base64 between two boundary lines.
use Rattle.std.specs.Prelude.{ℕ, ◌+◌, ◌-◌, List, [], ◌∷◌, ◌++◌, length, take, drop, reverse, Bool}
use Rattle.std.specs.Prelude.{true, false, ◌||◌, ◌==◌, nat_eq, bytes_eq, codes, if◌then◌else◌, is_some}
use Rattle.std.specs.Prelude.{Option, Some, None, Result, Ok, Err}
use Rattle.std.specs.List.{concat, ends_with, list_any, slice_split, starts_with}
use Rattle.base64.specs.Engines.{standard}
use Rattle.base64.specs.GeneralPurpose.{decode_of}
use Rattle.base64.specs.declared.decode.DecodeError.{DecodeError}
use Rattle.cert_tool_pem.specs.declared.pem_fault.PemFault.{PemFault}
use Rattle.cert_tool_pem.specs.declared.pem_fault.PemFault.TheVariants as faults
use Rattle.cert_tool_pem.specs.declared.wanted.Wanted.{Wanted}
use Rattle.cert_tool_pem.specs.declared.wanted.Wanted.TheVariants as kinds

-- The byte that ends a line: LF, or CR in a text without LF (RFC 7468 3: eol).
abbrev pub eol_of : List ℕ → ℕ
eol_of text = if list_any (λ octet. octet == 10) text then 10 else 13

-- The text split at this byte.
abbrev pub parts_of : ℕ → List ℕ → List (List ℕ)
parts_of eol text = slice_split (λ octet. octet == eol) text

-- The lines of a text.
abbrev pub lines_of : List ℕ → List (List ℕ)
lines_of text = parts_of (eol_of text) text

-- White space: a space, a tab, or the CR before an LF.
abbrev pub is_blank : ℕ → Bool
is_blank octet = octet == 32 || (octet == 9 || octet == 13)

-- The line without the white space at its start.
abbrev pub after_blanks : List ℕ → List ℕ
after_blanks [] = []
after_blanks (x ∷ xs) = if is_blank x then after_blanks xs else x ∷ xs

-- A byte before a line whose trailing white space was removed.
abbrev pub before_rest : ℕ → List ℕ → List ℕ
before_rest x [] = if is_blank x then [] else x ∷ []
before_rest x (y ∷ ys) = x ∷ y ∷ ys

-- The line without the white space at its end.
abbrev pub before_blanks : List ℕ → List ℕ
before_blanks [] = []
before_blanks (x ∷ xs) = before_rest x (before_blanks xs)

-- The line without the white space at either end.
unfoldable pub trimmed : List ℕ → List ℕ
trimmed line = before_blanks (after_blanks line)

-- The text before the five dashes at its end.
abbrev pub closed : List ℕ → Option (List ℕ)
closed text =
    if ends_with nat_eq text (codes "-----") then Some (take (length text - 5) text) else None

-- The label of a boundary line that begins with `start`.
abbrev pub label_after : List ℕ → List ℕ → Option (List ℕ)
label_after start line =
    if starts_with nat_eq line start then closed (drop (length start) line) else None

-- The line without the byte order mark of UTF-8 (RFC 3629 6) at its start.
abbrev pub after_mark : List ℕ → List ℕ
after_mark line =
    if starts_with nat_eq line (239 ∷ 187 ∷ 191 ∷ []) then drop 3 line else line

-- The label of the block that a line begins (RFC 7468 3: preeb). A byte order mark may come before
-- it, as some editors write one at the start of a file.
unfoldable pub begun_by : List ℕ → Option (List ℕ)
begun_by line = label_after (codes "-----BEGIN ") (after_mark (trimmed line))

-- The label of the block that a line ends (RFC 7468 3: posteb).
unfoldable pub ended_by : List ℕ → Option (List ℕ)
ended_by line = label_after (codes "-----END ") (trimmed line)

-- The line begins or ends a block.
abbrev pub is_boundary : List ℕ → Bool
is_boundary line = is_some (begun_by line) || is_some (ended_by line)

-- The labels of a certificate (RFC 7468 5.1).
abbrev pub is_certificate : List ℕ → Bool
is_certificate label =
    bytes_eq label (codes "CERTIFICATE") || bytes_eq label (codes "X509 CERTIFICATE")

-- The labels of what a file must contain (RFC 7468 5.1 and 6 to 11). The labels for OCSP are
-- OpenSSL's, and a timestamp response has none.
abbrev pub wants : Wanted → List ℕ → Bool
wants kinds.Certificates label = is_certificate label
wants kinds.LeafFirst label = is_certificate label
wants kinds.Anchors label = is_certificate label
wants kinds.List label = bytes_eq label (codes "X509 CRL")
wants kinds.Request label =
    bytes_eq label (codes "CERTIFICATE REQUEST")
    || bytes_eq label (codes "NEW CERTIFICATE REQUEST")
wants kinds.OcspRequest label = bytes_eq label (codes "OCSP REQUEST")
wants kinds.OcspResponse label = bytes_eq label (codes "OCSP RESPONSE")
wants kinds.Message label = bytes_eq label (codes "CMS") || bytes_eq label (codes "PKCS7")
wants kinds.Key label =
    bytes_eq label (codes "PRIVATE KEY") || bytes_eq label (codes "ENCRYPTED PRIVATE KEY")
wants kinds.Timestamp label = false
wants kinds.Lines label = false

-- The state after some lines: the values of the blocks before them, and, inside of a block, its
-- label, the number of its BEGIN line, and its base64 so far.
pub record PlainReading : Type 0 where
  pub values : List (List ℕ)
  pub label : Option (List ℕ)
  pub start : ℕ
  pub text : List ℕ

-- The state before the first line.
abbrev pub nothing_read : PlainReading
nothing_read = record { values = []; label = None; start = 0; text = [] }

-- The state after one more line, or the number of the line with an error and the error.
abbrev pub Next : Type 0
Next = Result PlainReading (ℕ × PemFault)

-- A BEGIN line begins a block. It must be outside of another block, and its label must be expected.
abbrev pub begin_in : Wanted → ℕ → List ℕ → PlainReading → Option (List ℕ) → Next
begin_in wanted number label r (Some begun) = Err (r.start, faults.NoEnd)
begin_in wanted number label r None =
    if wants wanted label then Ok (record r { label = Some label; start = number })
    else Err (number, faults.OtherKind)

-- The state after a BEGIN line.
abbrev pub begin_block : Wanted → ℕ → List ℕ → PlainReading → Next
begin_block wanted number label r = begin_in wanted number label r r.label

-- The decoded base64 of the block that begins at this line, or the error.
abbrev pub octets_or : ℕ → Result (List ℕ) DecodeError → Result (List ℕ) (ℕ × PemFault)
octets_or start (Ok octets) = Ok octets
octets_or start (Err error) = Err (start, faults.NotBase64)

-- The base64 (RFC 4648 4) of the block that begins at this line, decoded.
unfoldable pub decoded : List ℕ → ℕ → Result (List ℕ) (ℕ × PemFault)
decoded text start = octets_or start (decode_of standard text)

-- The state after the end of a block with these decoded bytes.
abbrev pub with_block : Result (List ℕ) (ℕ × PemFault) → PlainReading → Next
with_block (Ok octets) r =
    Ok (record r { values = r.values ++ octets ∷ []; label = None; text = [] })
with_block (Err fault) r = Err fault

-- An END line with the same label ends the block.
abbrev pub end_in : ℕ → List ℕ → PlainReading → Option (List ℕ) → Next
end_in number label r None = Err (number, faults.NoBegin)
end_in number label r (Some begun) =
    if bytes_eq begun label then with_block (decoded r.text r.start) r
    else Err (number, faults.OtherEnd)

-- The state after an END line.
abbrev pub end_block : ℕ → List ℕ → PlainReading → Next
end_block number label r = end_in number label r r.label

-- Any other line is base64 of the block that it is in; outside of a block it is ignored.
abbrev pub add_in : List ℕ → PlainReading → Option (List ℕ) → PlainReading
add_in line r None = r
add_in line r (Some begun) = record r { text = r.text ++ trimmed line }

-- The state after a line that isn't a boundary.
abbrev pub add_text : List ℕ → PlainReading → Next
add_text line r = Ok (add_in line r r.label)

-- The state after a line that is a BEGIN line, an END line, or neither.
abbrev pub step_by : Wanted → ℕ → List ℕ → PlainReading → Option (List ℕ) → Option (List ℕ)
    → Next
step_by wanted number line r (Some label) ended = begin_block wanted number label r
step_by wanted number line r None (Some label) = end_block number label r
step_by wanted number line r None None = add_text line r

-- The state after one more line.
abbrev pub step : Wanted → ℕ → List ℕ → PlainReading → Next
step wanted number line r = step_by wanted number line r (begun_by line) (ended_by line)

-- The values of the blocks, or the number of the first line with an error and the error.
abbrev pub Values : Type 0
Values = Result (List (List ℕ)) (ℕ × PemFault)

-- At the end of the text, the last block must have an END line.
abbrev pub ended_in : PlainReading → Option (List ℕ) → Values
ended_in r None = Ok r.values
ended_in r (Some begun) = Err (r.start, faults.NoEnd)

-- The values of the blocks at the end of the text.
abbrev pub ended : PlainReading → Values
ended r = ended_in r r.label

-- The values of all blocks, where `before` lines led to the first state, and these lines follow.
abbrev pub read_on : Wanted → ℕ → Next → List (List ℕ) → Values
read_on wanted before (Err fault) lines = Err fault
read_on wanted before (Ok r) [] = ended r
read_on wanted before (Ok r) (line ∷ lines) =
    read_on wanted (before + 1) (step wanted (before + 1) line r) lines

-- The order of the values is to be reversed.
abbrev pub is_reversed : Wanted → Bool
is_reversed kinds.LeafFirst = true
is_reversed _ = false

-- The concatenated values, the last one first if the order is to be reversed.
abbrev pub in_order : Wanted → List (List ℕ) → List ℕ
in_order wanted values =
    if is_reversed wanted then concat (reverse values) else concat values

-- The concatenated values, or the error.
abbrev pub octets_of : Wanted → Values → Result (List ℕ) (ℕ × PemFault)
octets_of wanted (Ok values) = Ok (in_order wanted values)
octets_of wanted (Err fault) = Err fault

-- The values of the blocks in these lines, or the error.
abbrev pub values_of : Wanted → List (List ℕ) → Values
values_of wanted lines = read_on wanted 0 (Ok nothing_read) lines

-- The decoded text, or the number of the first line with an error and the error. A text without
-- boundary lines is returned as it is.
unfoldable pub text_octets : Wanted → List ℕ → Result (List ℕ) (ℕ × PemFault)
text_octets wanted text =
    if list_any is_boundary (lines_of text) then octets_of wanted (values_of wanted (lines_of text))
    else Ok text
