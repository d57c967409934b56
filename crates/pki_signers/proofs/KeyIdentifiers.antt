-- Lemmas about subjectKeyIdentifier extensions.
use Rattle.std.proofs.Common.{◌≡◌, ℕ, ◌+◌, ◌<◌, Bool, true, false, ◌||◌, List, ◌++◌, length, drop, get_or, bytes_eq, Ok, Err, sym, ap, ◌∙◌, arith, length-append}
use Rattle.std.specs.List.{list_any}
use Rattle.std.proofs.lemmas.List.{at_drop_more}
use Rattle.std.proofs.lemmas.Bool.Decides.{same_from_decides}
use Rattle.std.proofs.lemmas.Slice.Eq.{bytes_eq-Decides}
use Rattle.cert_desk_checking.specs.CertParts.Grammar.{PlainExtension}
use Rattle.cert_desk_checking.specs.CertParts.Views.{extension_plain, extensions_plain}
use Rattle.x509_cert_certificates.specs.CertParts.declared.extension.Extension.{Extension}
use Rattle.der_core.specs.ErrorTypes.ErrorKind.{ErrorKind}
use Rattle.der_core.specs.TagTypes.Tag.{Tag}
use Rattle.der_core.specs.TagTypes.Tag.TheVariants as tags
use Rattle.der_core.specs.Heads.{Head, Fits, head_at, head_octets, tlv}
use Rattle.der_core.proofs.HeadLaws.{head_again}
use Rattle.der_core.proofs.Results.{ok_is}

-- One of the remaining extensions passes a test, or doesn't.

pub any_here : (p : PlainExtension → Bool) (xs : List Extension) (i : ℕ) (d : Extension) → i < length xs → p (extension_plain (get_or xs i d)) ≡ true
    → list_any p (extensions_plain (drop i xs)) ≡ true
any_here p xs i d h e = at_drop_more (λ (ys : List Extension). list_any p (extensions_plain ys)) xs i d h ∙ ap (λ b. b || list_any p (extensions_plain (drop (i + 1) xs))) e

pub any_later : (p : PlainExtension → Bool) (xs : List Extension) (i : ℕ) (d : Extension) → i < length xs → p (extension_plain (get_or xs i d)) ≡ false
    → list_any p (extensions_plain (drop (i + 1) xs)) ≡ list_any p (extensions_plain (drop i xs))
any_later p xs i d h e = sym (at_drop_more (λ (ys : List Extension). list_any p (extensions_plain ys)) xs i d h ∙ ap (λ b. b || list_any p (extensions_plain (drop (i + 1) xs))) e)

-- The encoding of an OCTET STRING

-- The bytes are a header and this content.
content_fits : (w c : List ℕ) → Fits w → w ≡ tlv tags.OctetString c → Fits c
unfolding tlv
content_fits w c f e = omega (arith, ap length e, length-append (head_octets tags.OctetString (length c)) c)

-- The header of the encoding of an OCTET STRING
string_head : (w c : List ℕ) → Fits w → w ≡ tlv tags.OctetString c → head_at w ≡ Ok (record { tag = tags.OctetString; len = length c }, c)
unfolding tlv
string_head w c f e = ap head_at e ∙ head_again tags.OctetString (length c) c (omega arith) (content_fits w c f e)

pub no_header : (w c : List ℕ) (e : ErrorKind) → Fits w → head_at w ≡ Err e → false ≡ bytes_eq w (tlv tags.OctetString c)
no_header w c e f h =
    same_from_decides false (bytes_eq w (tlv tags.OctetString c)) (λ t. absurd (cc t), λ q. absurd (cc (h, string_head w c f q))) (bytes_eq-Decides w (tlv tags.OctetString c))

-- Another header was decoded.
pub other_header : (w c : List ℕ) (t : Tag) (n : ℕ) (r : List ℕ) → Fits w → head_at w ≡ Ok (record { tag = t; len = n }, r) → (t ≡ tags.OctetString → n ≡ length c → ⊥)
    → false ≡ bytes_eq w (tlv tags.OctetString c)
other_header w c t n r f h differ =
    same_from_decides false (bytes_eq w (tlv tags.OctetString c)) (
      λ t. absurd (cc t),
      λ q. absurd (let same = ok_is (record { tag = t; len = n }, r) (record { tag = tags.OctetString; len = length c }, c) (sym h ∙ string_head w c f q) in
          differ (ap (λ (x : Head × List ℕ). x.0.tag) same) (ap (λ (x : Head × List ℕ). x.0.len) same)),
    )
    (bytes_eq-Decides w (tlv tags.OctetString c))

here : (w c r : List ℕ) → Fits w → w ≡ head_octets tags.OctetString (length c) ++ r → head_at w ≡ Ok (record { tag = tags.OctetString; len = length c }, r)
    → bytes_eq r c ≡ bytes_eq w (tlv tags.OctetString c)
unfolding tlv
here w c r f octets h =
    same_from_decides (bytes_eq r c) (bytes_eq w (tlv tags.OctetString c)) (bytes_eq-Decides r c) (
      (λ e. ap (λ (x : Head × List ℕ). x.1) (ok_is (record { tag = tags.OctetString; len = length c }, r) (record { tag = tags.OctetString; len = length c }, c) (sym h ∙ string_head w c f ((bytes_eq-Decides w (tlv tags.OctetString c)).0 e)))),
      (λ e. (bytes_eq-Decides w (tlv tags.OctetString c)).1 (octets ∙ ap (λ x. head_octets tags.OctetString (length c) ++ x) e)),
    )

-- The header is that of this content, so the content decides.
pub same_header : (w c r : List ℕ) (t : Tag) (n : ℕ) → Fits w → t ≡ tags.OctetString → n ≡ length c → w ≡ head_octets t n ++ r → head_at w ≡ Ok (record { tag = t; len = n }, r)
    → bytes_eq r c ≡ bytes_eq w (tlv tags.OctetString c)
same_header w c r t n f e i octets h =
    here w c r f (octets ∙ ap (λ (u : Tag). head_octets u n ++ r) e ∙ ap (λ (k : ℕ). head_octets tags.OctetString k ++ r) i)
    (h ∙ ap (λ (u : Tag). Ok (record { tag = u; len = n }, r)) e ∙ ap (λ (k : ℕ). Ok (record { tag = tags.OctetString; len = k }, r)) i)
