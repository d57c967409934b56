-- The abstract value and the text of a DirectoryString.
use Rattle.std.specs.Prelude.{ℕ, List, [], string_bytes, encode_utf8_all, Result, Ok, Err}
use Rattle.std.proofs.Common.{inl, inr}
use Rattle.der_core.specs.ErrorTypes.ErrorKind.{ErrorKind}
use Rattle.der_core.specs.ErrorTypes.ErrorKind.TheVariants as kinds
use Rattle.der_core.specs.TagTypes.Tag.{Tag}
use Rattle.der_core.specs.TagTypes.Tag.TheVariants as tags
use Rattle.der_core.specs.Octets.{◌>>=◌}
use Rattle.der_core.specs.Leaves.{text, utf8, bmp}
use Rattle.der_core.specs.Texts.{printable, ascii}
use Rattle.der_core.specs.Shapes.{Value, AnyValue, leaf}
use Rattle.der_types.specs.Contents.{content_as}
use Rattle.x509_cert_names.specs.Names.{directory_string}
use Rattle.x509_cert_names.specs.declared.directory_string.DirectoryString.{DirectoryString}
use Rattle.x509_cert_names.specs.declared.directory_string.DirectoryString.TheVariants as strings

-- The abstract value of a DirectoryString.
abbrev pub directory_plain : DirectoryString → Value directory_string
directory_plain (strings.PrintableString t) = inl t
directory_plain (strings.TeletexString t) = inr (inl t)
directory_plain (strings.Utf8String t) = inr (inr (inl (string_bytes t)))
directory_plain (strings.BmpString t) = inr (inr (inr t))

-- The bytes of the text, or none for a BMPString, which isn't stored in UTF-8.
abbrev pub directory_text : DirectoryString → List ℕ
directory_text (strings.PrintableString t) = t
directory_text (strings.TeletexString t) = t
directory_text (strings.Utf8String t) = string_bytes t
directory_text (strings.BmpString t) = []

-- The bytes of the text in UTF-8.
abbrev pub directory_utf8 : DirectoryString → List ℕ
directory_utf8 (strings.PrintableString t) = t
directory_utf8 (strings.TeletexString t) = t
directory_utf8 (strings.Utf8String t) = string_bytes t
directory_utf8 (strings.BmpString t) = encode_utf8_all t

-- The result of decoding a value as a DirectoryString, by its tag.
abbrev pub directory_as : Tag → AnyValue → Result (Value directory_string) ErrorKind
directory_as tags.PrintableString a = content_as tags.PrintableString (leaf (text printable)) a
    >>= λ t. Ok (inl t)
directory_as tags.TeletexString a = content_as tags.TeletexString (leaf (text ascii)) a
    >>= λ t. Ok (inr (inl t))
directory_as tags.Utf8String a = content_as tags.Utf8String (leaf utf8) a
    >>= λ t. Ok (inr (inr (inl t)))
directory_as tags.BmpString a = content_as tags.BmpString (leaf bmp) a
    >>= λ t. Ok (inr (inr (inr t)))
directory_as _ a = Err kinds.TagUnexpected

-- The result of decoding a value as a DirectoryString.
abbrev pub directory_from : AnyValue → Result (Value directory_string) ErrorKind
directory_from a = directory_as a.tag a
