-- Lemmas for the builders of CSRs and CRLs: the signed part of a CSR and its attributes, and the
-- extensions and entries of a CRL.
use Rattle.std.proofs.Common.{◌≡◌, ◌⊎◌, ℕ, Bool, List, [], ◌∷◌, Result, Ok, Err, refl, sym, ap, ◌∙◌, subst, inl, inr, true, false, pos, if◌then◌else◌, ◌++◌, Some}
use Rattle.std.specs.List.{AllByRecursion, insert}
use Rattle.x509_cert_anchors.specs.Oid.Bound.{Bound}
use Rattle.x509_cert_anchors.specs.Der.ErrorTypes.Error.{Error as DerError}
use Rattle.x509_cert_anchors.specs.Der.ErrorTypes.ErrorKind.{ErrorKind}
use Rattle.x509_cert_anchors.specs.Der.Grammar.{plain_list}
use Rattle.x509_cert_anchors.specs.Der.Reading.{Fails}
use Rattle.x509_cert_anchors.specs.Der.Shapes.{IsValid}
use Rattle.x509_cert_anchors.proofs.Der.Results.{or_memory}
use Rattle.x509_cert_anchors.specs.Der.Placed.{IsNotPlaced, is_below, placed, put_in_front, stands_among}
use Rattle.x509_cert_lists.specs.ListGrammar.{extension_req_attribute}
use Rattle.x509_cert_lists.specs.CertNames.Names.{PlainAttribute, PlainName, attribute}
use Rattle.x509_cert_lists.specs.CertParts.Grammar.{PlainExtension, PublicKey}
use Rattle.x509_cert.specs.Requests.{HasNoAttribute, IsNotAdded, PlainInfo, request_of, with_request}
use Rattle.x509_cert_builders.specs.Refusals.{IsWantOfMemory, HasNoEncoding}
use Rattle.x509_cert_builders.specs.declared.build_error.Error.{Error}
use Rattle.x509_cert_builders.specs.declared.build_error.Error.TheVariants as errors
use Rattle.x509_cert_builders.proofs.Faults.{not_made}
use Rattle.x509_cert_builders.proofs.Subjects.{all_plain}
use Rattle.x509_cert_anchors.specs.Der.ErrorTypes.ErrorKind.TheVariants as kinds
use Rattle.x509_cert_builders.specs.CertExtensions.Making.{IsNotMade}
use Rattle.x509_cert.specs.Lists.{HasNoExtensions, PlainAuthority, authority_key, crl_number, PlainEntry, entries}
use Rattle.x509_cert.specs.States.{ListState}

-- An attribute that has an encoding, and a list of such attributes.
abbrev pub IsValidAttribute : PlainAttribute → Type 0
IsValidAttribute a = IsValid (attribute Bound) a

abbrev pub AllAttributes : {A : Type 0} → (A → PlainAttribute) → List A → Type 0
AllAttributes f xs = AllByRecursion (λ x. IsValidAttribute (f x)) xs

-- The signed part with these attributes and version 1.
abbrev pub part : PlainName → PublicKey → List PlainAttribute → PlainInfo
part n k xs = (pos 0, (n, (k, (xs, tt))))

same_parts : {n m : PlainName} {k l : PublicKey} {xs ys : List PlainAttribute} → n ≡ m → k ≡ l → xs ≡ ys → part n k xs ≡ part m l ys
same_parts e d h = λ i. part (e i) (d i) (h i)

-- A property of all members is a property of their abstract values.
plain_all : {A P : Type 0} (f : A → P) (V : P → Type 0) (xs : List A) → AllByRecursion (λ x. V (f x)) xs → AllByRecursion V (plain_list f xs)
plain_all f V [] h = tt
plain_all f V (x ∷ xs) h = (h.0, plain_all f V xs h.1)

-- Copies of attributes that have encodings have encodings.
pub same_valid : {A : Type 0} (f : A → PlainAttribute) (xs ys : List A) → plain_list f xs ≡ plain_list f ys → AllAttributes f ys → AllAttributes f xs
same_valid f xs ys same all = all_plain f IsValidAttribute xs (subst (AllByRecursion IsValidAttribute) (sym same) (plain_all f IsValidAttribute ys all))

-- A position has the same meaning in an equal list.
pub placed_same : {A : Type 0} (f : A → PlainAttribute) (xs ys : List A) (i : ℕ) (x : A) → xs ≡ ys
    → (AllAttributes f xs → IsValidAttribute (f x) → plain_list f (insert xs i x) ≡ placed (attribute Bound) (f x) (plain_list f xs))
    → AllAttributes f ys → IsValidAttribute (f x) → plain_list f (insert ys i x) ≡ placed (attribute Bound) (f x) (plain_list f ys)
placed_same {A} f xs ys i x same h =
    subst (λ (zs : List A). AllAttributes f zs → IsValidAttribute (f x) → plain_list f (insert zs i x) ≡ placed (attribute Bound) (f x) (plain_list f zs)) same h

-- The part that was made is the expected one.
pub one_part : {A : Type 0} (f : A → PlainAttribute) (n m : PlainName) (es : List PlainExtension) (k l : PublicKey) (others new : List A) (attributes : List PlainAttribute) (i : ℕ) (request : A)
    → n ≡ m → k ≡ l → plain_list f others ≡ attributes → new ≡ insert others i request → extension_req_attribute Bound es ≡ Ok (f request)
    → plain_list f (insert others i request) ≡ placed (attribute Bound) (f request) (plain_list f others)
    → part n k (plain_list f new) ≡ request_of m es attributes l
one_part f n m es k l others new attributes i request names keys same placing asked place =
    same_parts names keys
    (ap (plain_list f) placing ∙ place ∙ ap (placed (attribute Bound) (f request)) same ∙ sym (ap (λ (q : Result PlainAttribute ErrorKind). with_request q attributes) asked))

-- If the search finds no equal attribute, the attribute isn't in the list.
pub answered_same : {A : Type 0} (f : A → PlainAttribute) (xs ys : List A) (x : A) → xs ≡ ys → (AllAttributes f xs → IsValidAttribute (f x) → false ≡ true) → AllAttributes f ys → IsValidAttribute (f x) → ⊥
answered_same f xs ys x same h all valid = absurd (cc (h (subst (AllAttributes f) (sym same) all) valid))

abbrev held : Result PlainAttribute ErrorKind → PlainAttribute → PlainAttribute
held (Ok a) b = a
held (Err e) b = b

-- The attribute that a search found is in the list.
pub stands_for : (r : Result PlainAttribute ErrorKind) (b a : PlainAttribute) (others : List PlainAttribute) (c : Bool) → r ≡ Ok b → stands_among (attribute Bound) b others ≡ c
    → r ≡ Ok a → stands_among (attribute Bound) a others ≡ c
stands_for r b a others c made is e =
    ap (λ (z : PlainAttribute). stands_among (attribute Bound) z others) (ap (λ (q : Result PlainAttribute ErrorKind). held q a) (sym e ∙ made)) ∙ is

-- Inserting a value that has an encoding into a list of such values.
put_valid : {P : Type 0} (V : P → Type 0) (g : P → P → Bool) (x : P) (ys : List P) → V x → AllByRecursion V ys → AllByRecursion V (put_in_front g x ys)
put_valid V g x [] v all = (v, all)
put_valid V g x (y ∷ ys) v all =
    elim (g x y) as (λ b. AllByRecursion V (if b then x ∷ y ∷ ys else y ∷ put_in_front g x ys)) [ true ↦ (v, all) | false ↦ (all.0, put_valid V g x ys v all.1) ]

pub added_valid : {A : Type 0} (f : A → PlainAttribute) (xs new : List A) (x : A) → AllAttributes f xs → IsValidAttribute (f x)
    → plain_list f new ≡ placed (attribute Bound) (f x) (plain_list f xs) → AllAttributes f new
added_valid f xs new x all valid place =
    all_plain f IsValidAttribute new (subst (AllByRecursion IsValidAttribute) (sym place) (put_valid IsValidAttribute (is_below (attribute Bound)) (f x) (plain_list f xs) valid (plain_all f IsValidAttribute xs all)))

pub not_placed : {A : Type 0} (f : A → PlainAttribute) (r : Result PlainAttribute ErrorKind) (xs : List A) (x : A) (e : DerError) → r ≡ Ok (f x) → AllAttributes f xs → IsValidAttribute (f x)
    → IsNotPlaced (attribute Bound) f x xs e → IsWantOfMemory (errors.Asn1 e) ⊎ IsNotAdded r (plain_list f xs) (errors.Asn1 e)
not_placed f r xs x e made all valid (inl memory) = inl memory
not_placed f r xs x e made all valid (inr (inl twice)) =
    inr (subst (λ (q : Result PlainAttribute ErrorKind). IsNotAdded q (plain_list f xs) (errors.Asn1 e)) (sym made) (inr (twice.0, twice.1 all valid)))
not_placed f r xs x e made all valid (inr (inr long)) = absurd (long.1 all valid)

-- The error if the attribute that asks for extensions can't be made.
pub not_asked : (r : Result PlainAttribute ErrorKind) (e : DerError) → Fails e.kind r → IsWantOfMemory (errors.Asn1 e) ⊎ HasNoAttribute r (errors.Asn1 e)
not_asked r e h = or_memory e.kind (λ enough. subst (λ (q : Result PlainAttribute ErrorKind). HasNoAttribute q (errors.Asn1 e)) (sym (h enough)) refl)

pub same_reason : (r q : Result PlainAttribute ErrorKind) (e : Error) → r ≡ q → IsWantOfMemory e ⊎ HasNoAttribute r e → IsWantOfMemory e ⊎ HasNoAttribute q e
same_reason r q e same h = subst (λ (s : Result PlainAttribute ErrorKind). IsWantOfMemory e ⊎ HasNoAttribute s e) same h

-- The error if a CRL's extensions can't be made.

-- The issuer's authority key identifier is rejected, or memory ran out.
pub no_key : (n : ℕ) (r : Result PlainAuthority ErrorKind) (kind : ErrorKind) → Fails kind r → (kind ≡ kinds.OutOfMemory) ⊎ HasNoExtensions n r kind
no_key n r kind h = or_memory kind (λ enough. subst (λ (q : Result PlainAuthority ErrorKind). HasNoExtensions n q kind) (sym (h enough)) refl)

with_key : (n : ℕ) (r : Result PlainAuthority ErrorKind) (key : PlainAuthority) (kind : ErrorKind) → r ≡ Ok key → (kind ≡ kinds.OutOfMemory) ⊎ HasNoExtensions n (Ok key) kind
    → (kind ≡ kinds.OutOfMemory) ⊎ HasNoExtensions n r kind
with_key n r key kind same h = subst (λ (q : Result PlainAuthority ErrorKind). (kind ≡ kinds.OutOfMemory) ⊎ HasNoExtensions n q kind) (sym same) h

-- The CRL number has no encoding.
number_left : (n : ℕ) (key : PlainAuthority) (kind : ErrorKind) → (kind ≡ kinds.OutOfMemory) ⊎ HasNoEncoding crl_number (pos n) kind → (kind ≡ kinds.OutOfMemory) ⊎ HasNoExtensions n (Ok key) kind
number_left n key kind (inl memory) = inl memory
number_left n key kind (inr none) = inr (inl none)

pub no_number : (n : ℕ) (r : Result PlainAuthority ErrorKind) (key : PlainAuthority) (kind : ErrorKind) → r ≡ Ok key → IsNotMade crl_number (pos n) kind → (kind ≡ kinds.OutOfMemory) ⊎ HasNoExtensions n r kind
no_number n r key kind same h = with_key n r key kind same (number_left n key kind (not_made crl_number (pos n) kind h))

-- The authority key identifier has no encoding.
key_left : (n : ℕ) (key : PlainAuthority) (kind : ErrorKind) → (kind ≡ kinds.OutOfMemory) ⊎ HasNoEncoding authority_key key kind → (kind ≡ kinds.OutOfMemory) ⊎ HasNoExtensions n (Ok key) kind
key_left n key kind (inl memory) = inl memory
key_left n key kind (inr none) = inr (inr none)

pub no_authority : (n : ℕ) (r : Result PlainAuthority ErrorKind) (key : PlainAuthority) (kind : ErrorKind) → r ≡ Ok key → IsNotMade authority_key key kind → (kind ≡ kinds.OutOfMemory) ⊎ HasNoExtensions n r kind
no_authority n r key kind same h = with_key n r key kind same (key_left n key kind (not_made authority_key key kind h))

-- Entries that are added to a CRL.

-- Equal entries that are added yield equal states.
pub added_same : {R : Type 0} (f : R → PlainEntry) (old new : ListState) (xs ys : List R) → new ≡ record old { revoked = Some (entries old.revoked ++ plain_list f xs) } → xs ≡ ys
    → new ≡ record old { revoked = Some (entries old.revoked ++ plain_list f ys) }
added_same {R} f old new xs ys added same = added ∙ ap (λ (rs : List R). record old { revoked = Some (entries old.revoked ++ plain_list f rs) }) same
