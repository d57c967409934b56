-- Lists of timestamps (RFC 6962 3.3): a vector of vectors.
use Rattle.std.specs.Prelude.{◌≡◌, ◌≢◌, ◌⊎◌, ℕ, List, [], ◌∷◌, ◌++◌, flat_map, All}
use Rattle.x509_cert_policies.specs.declared.timestamp_error.Error.{Error}
use Rattle.x509_cert_policies.specs.declared.timestamp_error.Error.TheVariants.{Der, Tls}
use Rattle.x509_cert_policies.specs.declared.serialized_sct.SerializedSct.{SerializedSct}
use Rattle.x509_cert_policies.specs.declared.tls_error.TlsError.{TlsError}
use Rattle.x509_cert_policies.specs.declared.tls_error.TlsError.TheVariants.{InvalidVectorLength}
use Rattle.x509_cert_policies.specs.declared.tls_error.TlsError.TheVariants.{OutOfMemory}
use Rattle.x509_cert_policies.specs.Forms.{vector, octets, IsValue, Spells, Refuses, RefusesWhole}

-- The OID of the extension that contains a list of timestamps (RFC 6962 3.3).
abbrev pub list_arcs : List ℕ
list_arcs = 1 ∷ 3 ∷ 6 ∷ 1 ∷ 4 ∷ 1 ∷ 11129 ∷ 2 ∷ 4 ∷ 2 ∷ []

-- The content of a member.
abbrev pub sct_data : SerializedSct → List ℕ
sct_data s = s.data.items

-- The member isn't too long for a list.
abbrev pub IsMember : SerializedSct → Type 0
IsMember s = IsValue vector s.data.items

-- The encoding of a member.
abbrev pub sct_octets : SerializedSct → List ℕ
sct_octets s = octets vector s.data.items

-- The members can form a list: none of them is too long, and all together fit a vector.
pub record AreListed (scts : List SerializedSct) : Type 0 where
  pub each : All IsMember scts
  pub together : IsValue vector (flat_map sct_octets scts)

-- The bytes are the encoding of the list with these members.
pub record SpellsList (scts : List SerializedSct) (input : List ℕ) : Type 0 where
  pub listed : AreListed scts
  pub spelled : input ≡ octets vector (flat_map sct_octets scts)

-- After some members, the bytes don't begin with a member; this is the error.
pub record RefusesAfter (body : List ℕ) (e : TlsError) : Type 0 where
  pub scts : List SerializedSct
  pub more : List ℕ
  pub each : All IsMember scts
  pub parts : body ≡ flat_map sct_octets scts ++ more
  pub is_more : more ≢ []
  pub refused : Refuses vector more e

-- The bytes aren't the encoding of a list, and this is the first error from the left.
abbrev pub RefusesList : List ℕ → TlsError → Type 0
RefusesList input e = RefusesWhole vector input e
    ⊎ ((body : List ℕ) × Spells vector body input [] × RefusesAfter body e)

-- The error is one of the bytes inside the extension, and satisfies the predicate.
abbrev pub OfTls : Error → (TlsError → Type 0) → Type 0
OfTls (Tls e) P = P e
OfTls (Der e) P = ⊥

-- The error of decoding a list from the content of the extension.
abbrev pub ReadsNoList : List ℕ → Error → Type 0
ReadsNoList input e = OfTls e (λ t. (t ≡ OutOfMemory) ⊎ RefusesList input t)

-- The error of building a list from these members.
abbrev pub MakesNoList : List SerializedSct → Error → Type 0
MakesNoList scts e =
    OfTls e (λ t. (t ≡ OutOfMemory) ⊎ ((t ≡ InvalidVectorLength) × (¬ AreListed scts)))

-- The error of decoding members up to the end of the bytes.
abbrev pub ReadsNoMembers : List ℕ → TlsError → Type 0
ReadsNoMembers body e = (e ≡ OutOfMemory) ⊎ RefusesAfter body e

-- The error of encoding these members.
abbrev pub MakesNoMembers : List SerializedSct → TlsError → Type 0
MakesNoMembers scts e = (e ≡ OutOfMemory) ⊎ ((e ≡ InvalidVectorLength) × (¬ All IsMember scts))
