-- Lemmas for `ExtensionKind::of`: the encodings of the OIDs of all kinds (X.690 8.19).
use Rattle.std.proofs.Common.{◌≡◌, ◌≢◌, ◌↔◌, ℕ, List, [], ◌∷◌, Option, Some, None, IfSome, IfNone, length, true, false, slice_index_or, refl, sym, ap, ◌∙◌, arith}
use Rattle.std.specs.Cmp.Lexicographic.{bytes_decides}
use Rattle.std.proofs.lemmas.Bool.{false_from_ne_true}
use Rattle.x509_cert_parts.specs.Oid.Comparing.{owned_eq}
use Rattle.x509_cert_parts.specs.Oid.Digits.{digits, digits_within, marked}
use Rattle.x509_cert_parts.specs.Oid.IdentifierOctets.{arc_octets, identifier_octets}
use Rattle.x509_cert_parts.specs.ExtensionTypes.{id_ce, id_pe}
use Rattle.x509_cert_kinds.specs.declared.extension_kind.ExtensionKind.{ExtensionKind}
use Rattle.x509_cert_kinds.specs.declared.extension_kind.ExtensionKind.TheVariants as kinds
use Rattle.x509_cert_kinds.specs.Kinds.{arcs_of}

abbrev pub octets_of : ExtensionKind → List ℕ
octets_of kind = identifier_octets (arcs_of kind)

pub is_kind : (arcs : List ℕ) (kind : ExtensionKind) → identifier_octets arcs ≡ octets_of kind → owned_eq arcs (arcs_of kind) ≡ true
is_kind arcs kind e = (bytes_decides (identifier_octets arcs) (octets_of kind)).1 e

pub is_no_kind : (arcs : List ℕ) (kind : ExtensionKind) → identifier_octets arcs ≢ octets_of kind → owned_eq arcs (arcs_of kind) ≡ false
is_no_kind arcs kind other = false_from_ne_true (owned_eq arcs (arcs_of kind)) (λ e. other ((bytes_decides (identifier_octets arcs) (octets_of kind)).0 e))

apart : {A : Type 0} (a b : List ℕ) → length a ≢ length b → a ≡ b → A
apart a b other e = absurd (other (ap (λ (w : List ℕ). length w) e))

-- The encodings of OIDs below id-ce and below id-pe.
abbrev pub ce_octets : ℕ → List ℕ
ce_octets n = 0x55 ∷ 0x1d ∷ n ∷ []

abbrev pub pe_octets : ℕ → List ℕ
pe_octets n = 0x2b ∷ 6 ∷ 1 ∷ 5 ∷ 5 ∷ 7 ∷ 1 ∷ n ∷ []

pub spelled_ce : (kind : ExtensionKind) (n : ℕ) → (arcs_of kind ≡ id_ce n) ↔ (octets_of kind ≡ ce_octets n)
unfolding identifier_octets arc_octets digits digits_within marked
spelled_ce kinds.AuthorityInfoAccess n = (apart _ _ (omega arith), apart _ _ (omega arith))
spelled_ce kinds.SubjectInfoAccess n = (apart _ _ (omega arith), apart _ _ (omega arith))
spelled_ce kinds.TlsFeature n = (apart _ _ (omega arith), apart _ _ (omega arith))
spelled_ce kinds.SignedCertificateTimestamps n = (apart _ _ (omega arith), apart _ _ (omega arith))
spelled_ce _ n = (ap (λ (w : List ℕ). ce_octets (slice_index_or w 3 0)), ap (λ (w : List ℕ). id_ce (slice_index_or w 2 0)))

pub spelled_pe : (kind : ExtensionKind) (n : ℕ) → (arcs_of kind ≡ id_pe n) ↔ (octets_of kind ≡ pe_octets n)
unfolding identifier_octets arc_octets digits digits_within marked
spelled_pe kinds.AuthorityInfoAccess n = (ap (λ (w : List ℕ). pe_octets (slice_index_or w 8 0)), ap (λ (w : List ℕ). id_pe (slice_index_or w 7 0)))
spelled_pe kinds.SubjectInfoAccess n = (ap (λ (w : List ℕ). pe_octets (slice_index_or w 8 0)), ap (λ (w : List ℕ). id_pe (slice_index_or w 7 0)))
spelled_pe kinds.TlsFeature n = (ap (λ (w : List ℕ). pe_octets (slice_index_or w 8 0)), ap (λ (w : List ℕ). id_pe (slice_index_or w 7 0)))
spelled_pe _ n = (apart _ _ (omega arith), apart _ _ (omega arith))

pub timestamps_octets : octets_of kinds.SignedCertificateTimestamps ≡ 0x2b ∷ 6 ∷ 1 ∷ 4 ∷ 1 ∷ 0xd6 ∷ 0x79 ∷ 2 ∷ 4 ∷ 2 ∷ []
unfolding identifier_octets arc_octets digits digits_within marked
timestamps_octets = refl

-- A fact about an arc below one of them is a fact about the OID.
module _ (below octets : ℕ → List ℕ) (spelled : (kind : ExtensionKind) (n : ℕ) → (arcs_of kind ≡ below n) ↔ (octets_of kind ≡ octets n)) (arcs : List ℕ) (n : ℕ) (e : identifier_octets arcs ≡ octets n) where
  pub known_below : (found : Option ExtensionKind) → IfSome found (λ kind. arcs_of kind ≡ below n) → IfSome found (λ kind. owned_eq arcs (arcs_of kind) ≡ true)
  known_below (Some kind) known = is_kind arcs kind (e ∙ sym ((spelled kind n).0 known))
  known_below None known = known

  pub unknown_below : (found : Option ExtensionKind) → IfNone found ((kind : ExtensionKind) → arcs_of kind ≢ below n) → IfNone found ((kind : ExtensionKind) → owned_eq arcs (arcs_of kind) ≡ false)
  unknown_below (Some kind) unknown = unknown
  unknown_below None unknown = λ kind. is_no_kind arcs kind (λ same. unknown kind ((spelled kind n).1 (sym same ∙ e)))

-- The encoding of a kind's OID is below id-ce, below id-pe, or that of the signed certificate
-- timestamps.
pub none_of : (w : List ℕ) → ((n : ℕ) → w ≢ ce_octets n) → ((n : ℕ) → w ≢ pe_octets n) → w ≢ octets_of kinds.SignedCertificateTimestamps → (kind : ExtensionKind) → w ≢ octets_of kind
unfolding identifier_octets arc_octets digits digits_within marked
none_of w ce pe timestamps kinds.AuthorityInfoAccess = pe 1
none_of w ce pe timestamps kinds.SubjectInfoAccess = pe 11
none_of w ce pe timestamps kinds.TlsFeature = pe 24
none_of w ce pe timestamps kinds.SignedCertificateTimestamps = timestamps
none_of w ce pe timestamps _ = λ e. ce _ e
