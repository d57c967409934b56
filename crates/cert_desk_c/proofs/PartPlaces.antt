-- The positions of the parts of a certificate in its bytes.
use Rattle.std.proofs.Common.{◌≡◌, ◌≢◌, ℕ, ◌+◌, ◌-◌, ◌<◌, ◌≤◌, Bool, true, false, List, [], ◌∷◌, ◌++◌, length, take, drop, get_or, None, Ok, Err, refl, sym, ap, ◌∙◌, arith, append_assoc, append-nil, length-append, length-drop, take-append-drop}
use Rattle.std.specs.Prelude.{bytes_eq}
use Rattle.std.proofs.lemmas.List.{drop_at, take_rest}
use Rattle.cert_tool_describe.specs.Oid.Bound.{Bound}
use Rattle.cert_tool_describe.specs.Der.ErrorTypes.ErrorKind.{ErrorKind}
use Rattle.cert_tool_describe.specs.Der.TagTypes.Tag.{Tag}
use Rattle.cert_tool_describe.specs.Der.TagTypes.Tag.TheVariants as tags
use Rattle.cert_tool_describe.specs.Der.Heads.{Head, head_octets, head_at, tlv}
use Rattle.cert_tool_describe.specs.Der.Integers.{integer_octets}
use Rattle.cert_tool_describe.specs.Der.Leaves.{integer}
use Rattle.cert_tool_describe.specs.Der.Limits.{IsLength}
use Rattle.cert_tool_describe.specs.Der.Shapes.{Shape, Content, Body, Value, BodyValue, ContentValue, Spells, tagged, field, done, leaf, nested, many, explicit, octets_of, contents, body_octets, unless, IsValid, IsContent, IsBody}
use Rattle.cert_tool_describe.specs.Der.Tags.{IsTag, tag_octets}
use Rattle.cert_tool_describe.proofs.Der.HeadLaws.{head_again}
use Rattle.cert_tool_describe.proofs.Der.Results.{ok_is}
use Rattle.cert_tool_describe.specs.Der.HeaderTypes.Header.{Header}
use Rattle.cert_tool_describe.specs.Der.Headers.{head_of}
use Rattle.cert_tool_describe.specs.CertNames.Names.{name, relative_name}
use Rattle.cert_tool_describe.specs.CertParts.Grammar.{algorithm_identifier, algorithm_fields, bit_string, public_key_info, public_key_fields, version, version_field, serial_number, numbers_within, validity, validity_fields}
use Rattle.cert_tool_describe.specs.CertCertificates.Certificates.{PlainCertificate, Tbs, raw_certificate, raw_certificate_fields, raw_tbs_certificate, raw_tbs_fields, from_validity, optional_fields, tbs, tbs_serial, issuer, subject, public_key}
use Rattle.cert_desk_c.specs.Places.{IsRest, Enters, Passes, PassesVersion, numbered_fields, behind_key, IsBehindKey}

-- A header at the beginning.

abbrev pub HasHeader : List ℕ → ℕ → ℕ → Type 0
HasHeader octets header content = (t : Tag) (n : ℕ) (w : List ℕ) → IsTag t → IsLength n → octets ≡ head_octets t n ++ w → (header ≡ length (head_octets t n)) × (content ≡ n)

module _ (octets w : List ℕ) (t : Tag) (n : ℕ) (tag : IsTag t) (fits : IsLength n) (e : octets ≡ head_octets t n ++ w) where
  there : head_at octets ≡ Ok (record { tag = t; len = n }, w)
  there = ap head_at e ∙ head_again t n w tag fits

  pub header_is : (h : Header) (count : ℕ) → head_at octets ≡ Ok (head_of h, drop count octets) → count ≤ length octets → (count ≡ length (head_octets t n)) × (h.length.value ≡ n)
  header_is h count read within =
      let both = ok_is (head_of h, drop count octets) (record { tag = t; len = n }, w) (sym read ∙ there) in
      let number : h.length.value ≡ n = ap (λ (q : Head × List ℕ). q.0.len) both in
      let left : drop count octets ≡ w = ap (λ (q : Head × List ℕ). q.1) both in
      let all : count ≡ length (head_octets t n) = omega (arith, within, length-drop count octets, ap length left, ap length e, length-append (head_octets t n) w) in
      (all, number)

  pub not_refused : (k : ErrorKind) → head_at octets ≡ Err k → ⊥
  not_refused k h = cc (h, there)

-- Fields.

pub valid_first : (s : Shape) (b : Body) (v : BodyValue (field s b)) → IsBody (field s b) v → IsValid s v.0
unfolding IsBody
valid_first s b v valid = valid.0

pub valid_behind : (s : Shape) (b : Body) (v : BodyValue (field s b)) → IsBody (field s b) v → IsBody b v.1
unfolding IsBody
valid_behind s b v valid = valid.1

pub valid_nested : (t : Tag) (b : Body) (v : BodyValue b) → IsValid (tagged t (nested b)) v → IsBody b v
unfolding IsValid IsContent
valid_nested t b v valid = valid.0

pub nested_is : (b : Body) (v : BodyValue b) (w octets : List ℕ) → octets ≡ contents (nested b) v ++ w → octets ≡ body_octets b v ++ w
unfolding contents
nested_is b v w octets e = e

pub first_field : (s : Shape) (b : Body) (v : BodyValue (field s b)) (w octets : List ℕ) → octets ≡ body_octets (field s b) v ++ w → octets ≡ octets_of s v.0 ++ (body_octets b v.1 ++ w)
unfolding body_octets
first_field s b v w octets e = e ∙ append_assoc (octets_of s v.0) (body_octets b v.1) w

-- The bytes from one field up to the next.
pub between : (s : Shape) (b : Body) (v : BodyValue (field s b)) (w from to : List ℕ) → from ≡ body_octets (field s b) v ++ w → to ≡ body_octets b v.1 ++ w → from ≡ octets_of s v.0 ++ to
between s b v w from to e f = first_field s b v w from e ∙ ap (λ (x : List ℕ). octets_of s v.0 ++ x) (sym f)

-- A value at the beginning.

pub value_at : (octets w : List ℕ) (t : Tag) (k : Content) (v : ContentValue k) → IsValid (tagged t k) v → octets ≡ octets_of (tagged t k) v ++ w
    → IsTag t × IsLength (length (contents k v)) × (octets ≡ head_octets t (length (contents k v)) ++ (contents k v ++ w))
unfolding octets_of IsValid tlv
value_at octets w t k v valid e = (
  valid.1,
  omega (arith, valid.2, length-append (head_octets t (length (contents k v))) (contents k v)),
  e ∙ append_assoc (head_octets t (length (contents k v))) (contents k v) w,
)

value_split : (octets w : List ℕ) (t : Tag) (k : Content) (v : ContentValue k) → octets ≡ octets_of (tagged t k) v ++ w → octets ≡ (head_octets t (length (contents k v)) ++ contents k v) ++ w
unfolding octets_of tlv
value_split octets w t k v e = e

-- The bytes from an index on are a suffix.
pub is_rest : (octets : List ℕ) (n : ℕ) → IsRest octets (take (length octets - n) (drop n octets))
is_rest octets n = (take n octets, sym (take-append-drop n octets) ∙ ap (λ (x : List ℕ). take n octets ++ x) (sym (take_rest octets n)))

module _ (octets : List ℕ) (header content : ℕ) (is : HasHeader octets header content) where
  pub entered : (t : Tag) (k : Content) (v : ContentValue k) (w : List ℕ) → IsValid (tagged t k) v → octets ≡ octets_of (tagged t k) v ++ w → take (length octets - header) (drop header octets) ≡ contents k v ++ w
  entered t k v w valid e =
      let at = value_at octets w t k v valid e in
      let h = is t (length (contents k v)) (contents k v ++ w) at.0 at.1 at.2 in
      let head = head_octets t (length (contents k v)) in
      take_rest octets header ∙ ap (λ (x : List ℕ). drop header x) at.2 ∙ drop_at head (contents k v ++ w) header (sym h.0)

  module _ (t : Tag) (k : Content) (b : Body) (v : BodyValue (field (tagged t k) b)) (w : List ℕ) (valid : IsBody (field (tagged t k) b) v) (e : octets ≡ body_octets (field (tagged t k) b) v ++ w) where
    at : octets ≡ octets_of (tagged t k) v.0 ++ (body_octets b v.1 ++ w)
    at = first_field (tagged t k) b v w octets e

    head : List ℕ
    head = head_octets t (length (contents k v.0)) ++ contents k v.0

    split : octets ≡ (head_octets t (length (contents k v.0)) ++ contents k v.0) ++ (body_octets b v.1 ++ w)
    split = value_split octets (body_octets b v.1 ++ w) t k v.0 at

    size : length (head_octets t (length (contents k v.0)) ++ contents k v.0) ≡ header + content
    size =
        let it = value_at octets (body_octets b v.1 ++ w) t k v.0 (valid_first (tagged t k) b v valid) at in
        let h = is t (length (contents k v.0)) (contents k v.0 ++ (body_octets b v.1 ++ w)) it.0 it.1 it.2 in
        omega (arith, h.0, h.1, length-append (head_octets t (length (contents k v.0))) (contents k v.0))

    pub passed_within : header + content ≤ length octets
    passed_within = omega (arith, size, ap length split, length-append (head_octets t (length (contents k v.0)) ++ contents k v.0) (body_octets b v.1 ++ w))

    pub passed : take (length octets - (header + content)) (drop (header + content) octets) ≡ body_octets b v.1 ++ w
    passed =
        take_rest octets (header + content) ∙ ap (λ (x : List ℕ). drop (header + content) x) split
        ∙ drop_at (head_octets t (length (contents k v.0)) ++ contents k v.0) (body_octets b v.1 ++ w) (header + content) size

-- A version.

first_of_explicit : (v : Value version) (r : List ℕ) → get_or (octets_of (explicit 0 version) v ++ r) 0 0 ≡ 160
unfolding octets_of tlv head_octets tag_octets
first_of_explicit v r = refl

first_of_number : (v : Value (serial_number None)) (r : List ℕ) → get_or (octets_of (serial_number None) v ++ r) 0 0 ≡ 2
unfolding octets_of tlv head_octets tag_octets
first_of_number v r = refl

versions : (b : Bool) (x y w octets : List ℕ) → octets ≡ (unless b x ++ y) ++ w → get_or ((x ++ y) ++ w) 0 0 ≡ 160 → get_or (y ++ w) 0 0 ≡ 2
    → (get_or octets 0 0 ≡ 160 → octets ≡ (x ++ y) ++ w) × (get_or octets 0 0 ≢ 160 → octets ≡ y ++ w)
unfolding unless
versions true x y w octets e f g = (λ is. absurd (omega (arith, is, ap (λ (z : List ℕ). get_or z 0 0) e, g)), λ other. e)
versions false x y w octets e f g = (λ is. e, λ other. absurd (other (ap (λ (z : List ℕ). get_or z 0 0) e ∙ f)))

first_of_numbered : (t : Tbs) (w : List ℕ) → get_or (body_octets numbered_fields t.1 ++ w) 0 0 ≡ 2
first_of_numbered t w =
    ap (λ (z : List ℕ). get_or z 0 0) (first_field (serial_number None) (field (algorithm_identifier Bound) (field (name Bound) (from_validity Bound))) t.1 w (body_octets numbered_fields t.1 ++ w) refl)
    ∙ first_of_number t.1.0 (body_octets (field (algorithm_identifier Bound) (field (name Bound) (from_validity Bound))) t.1.1 ++ w)

first_of_versioned : (t : Tbs) (w : List ℕ) → get_or (body_octets (field (explicit 0 version) numbered_fields) t ++ w) 0 0 ≡ 160
first_of_versioned t w =
    ap (λ (z : List ℕ). get_or z 0 0) (first_field (explicit 0 version) numbered_fields t w (body_octets (field (explicit 0 version) numbered_fields) t ++ w) refl)
    ∙ first_of_explicit t.0 (body_octets numbered_fields t.1 ++ w)

-- The fields of a TBSCertificate begin with a version, after its tag, or with the serial number.
pub versioned : (t : Tbs) (w octets : List ℕ) → octets ≡ body_octets (raw_tbs_fields Bound) t ++ w
    → (get_or octets 0 0 ≡ 160 → octets ≡ body_octets (field (explicit 0 version) numbered_fields) t ++ w) × (get_or octets 0 0 ≢ 160 → octets ≡ body_octets numbered_fields t.1 ++ w)
unfolding body_octets octets_of
versioned t w octets e =
    versions (bytes_eq (octets_of (explicit 0 version) t.0) (160 ∷ 3 ∷ 2 ∷ 1 ∷ 0 ∷ [])) (octets_of (explicit 0 version) t.0) (body_octets numbered_fields t.1) w octets e (first_of_versioned t w) (first_of_numbered t w)

pub valid_versioned : (t : Tbs) → IsBody (raw_tbs_fields Bound) t → IsBody (field (explicit 0 version) numbered_fields) t
unfolding IsBody IsValid
valid_versioned t valid = valid

-- The fields of a TBSCertificate aren't empty.
pub some_fields : (t : Tbs) (w octets : List ℕ) → octets ≡ body_octets (raw_tbs_fields Bound) t ++ w → length octets < 1 → ⊥
some_fields t w [] e few =
    let both = versioned t w [] e in
    let none : [] ≡ body_octets numbered_fields t.1 ++ w = both.1 (λ is. omega (arith, is)) in
    omega (arith, ap (λ (z : List ℕ). get_or z 0 0) none, first_of_numbered t w)
some_fields t w (x ∷ more) e few = absurd (omega arith)

-- The parts, one after another.

pub rests : (a b c : List ℕ) → IsRest a b → IsRest b c → IsRest a c
rests a b c p q = (p.0 ++ q.0, p.1 ∙ ap (λ (x : List ℕ). p.0 ++ x) q.1 ∙ sym (append_assoc p.0 q.0 c))

-- The bytes after each part, and inside some, from the bytes of the certificate on.
pub record Walk (octets : List ℕ) : Type 0 where
  pub signed : List ℕ
  pub signed_in : Enters octets signed
  pub outer : List ℕ
  pub outer_behind : Passes signed outer
  pub fields : List ℕ
  pub fields_in : Enters signed fields
  pub serial : List ℕ
  pub serial_behind : PassesVersion fields serial
  pub number : List ℕ
  pub number_in : Enters serial number
  pub algorithm : List ℕ
  pub algorithm_behind : Passes serial algorithm
  pub issued : List ℕ
  pub issued_behind : Passes algorithm issued
  pub valid_at : List ℕ
  pub valid_at_behind : Passes issued valid_at
  pub named : List ℕ
  pub named_behind : Passes valid_at named
  pub key : List ℕ
  pub key_behind : Passes named key
  pub rest : List ℕ
  pub rest_behind : Passes key rest

abbrev outer_fields : Body
outer_fields = field (algorithm_identifier Bound) (field bit_string done)

abbrev issued_fields : Body
issued_fields = field (name Bound) (from_validity Bound)

abbrev named_fields : Body
named_fields = field (name Bound) (field (public_key_info Bound) (optional_fields Bound))

abbrev key_fields : Body
key_fields = field (public_key_info Bound) (optional_fields Bound)

-- The values of the fields.

module _ (c : PlainCertificate) (valid : IsValid (raw_certificate Bound) c) where
  v_certificate : IsBody (raw_certificate_fields Bound) c
  v_certificate = valid_nested tags.Sequence (raw_certificate_fields Bound) c valid

  v_tbs : IsBody (raw_tbs_fields Bound) (tbs c)
  v_tbs = valid_nested tags.Sequence (raw_tbs_fields Bound) (tbs c) (valid_first (raw_tbs_certificate Bound) outer_fields c v_certificate)

  v_numbered : IsBody numbered_fields (tbs c).1
  v_numbered = valid_behind version_field numbered_fields (tbs c) v_tbs

  v_algorithm : IsBody (field (algorithm_identifier Bound) issued_fields) (tbs c).1.1
  v_algorithm = valid_behind (serial_number None) (field (algorithm_identifier Bound) issued_fields) (tbs c).1 v_numbered

  v_issuer : IsBody issued_fields (tbs c).1.1.1
  v_issuer = valid_behind (algorithm_identifier Bound) issued_fields (tbs c).1.1 v_algorithm

  v_validity : IsBody (from_validity Bound) (tbs c).1.1.1.1
  v_validity = valid_behind (name Bound) (from_validity Bound) (tbs c).1.1.1 v_issuer

  v_subject : IsBody named_fields (tbs c).1.1.1.1.1
  v_subject = valid_behind validity named_fields (tbs c).1.1.1.1 v_validity

  v_key : IsBody key_fields (tbs c).1.1.1.1.1.1
  v_key = valid_behind (name Bound) key_fields (tbs c).1.1.1.1.1 v_subject

  pub v_rest : IsBody (optional_fields Bound) (behind_key (tbs c))
  v_rest = valid_behind (public_key_info Bound) (optional_fields Bound) (tbs c).1.1.1.1.1.1 v_key

-- The positions of the fields.

module _ (octets : List ℕ) (walk : Walk octets) (c : PlainCertificate) (s : Spells (raw_certificate Bound) c octets) where
  abbrev more : List ℕ
  more = body_octets outer_fields c.1 ++ []

  at_signed : walk.signed ≡ body_octets (raw_certificate_fields Bound) c ++ []
  at_signed = nested_is (raw_certificate_fields Bound) c [] walk.signed (walk.signed_in.1 tags.Sequence (nested (raw_certificate_fields Bound)) c [] s.valid (s.octets ∙ sym (append-nil (octets_of (raw_certificate Bound) c))))

  at_outer : walk.outer ≡ more
  at_outer = walk.outer_behind.1 tags.Sequence (nested (raw_tbs_fields Bound)) outer_fields c [] (v_certificate c s.valid) at_signed

  at_fields : walk.fields ≡ body_octets (raw_tbs_fields Bound) (tbs c) ++ more
  at_fields = nested_is (raw_tbs_fields Bound) (tbs c) more walk.fields (walk.fields_in.1 tags.Sequence (nested (raw_tbs_fields Bound)) (tbs c) more (valid_first (raw_tbs_certificate Bound) outer_fields c (v_certificate c s.valid)) (first_field (raw_tbs_certificate Bound) outer_fields c [] walk.signed at_signed))

  at_serial : walk.serial ≡ body_octets numbered_fields (tbs c).1 ++ more
  at_serial = walk.serial_behind.1 (tbs c) more (v_tbs c s.valid) at_fields

  at_algorithm : walk.algorithm ≡ body_octets (field (algorithm_identifier Bound) issued_fields) (tbs c).1.1 ++ more
  at_algorithm = walk.algorithm_behind.1 tags.Integer (leaf (integer (numbers_within None))) (field (algorithm_identifier Bound) issued_fields) (tbs c).1 more (v_numbered c s.valid) at_serial

  at_issuer : walk.issued ≡ body_octets issued_fields (tbs c).1.1.1 ++ more
  at_issuer = walk.issued_behind.1 tags.Sequence (nested (algorithm_fields Bound)) issued_fields (tbs c).1.1 more (v_algorithm c s.valid) at_algorithm

  at_validity : walk.valid_at ≡ body_octets (from_validity Bound) (tbs c).1.1.1.1 ++ more
  at_validity = walk.valid_at_behind.1 tags.Sequence (nested (many (relative_name Bound))) (from_validity Bound) (tbs c).1.1.1 more (v_issuer c s.valid) at_issuer

  at_subject : walk.named ≡ body_octets named_fields (tbs c).1.1.1.1.1 ++ more
  at_subject = walk.named_behind.1 tags.Sequence (nested validity_fields) named_fields (tbs c).1.1.1.1 more (v_validity c s.valid) at_validity

  at_key : walk.key ≡ body_octets key_fields (tbs c).1.1.1.1.1.1 ++ more
  at_key = walk.key_behind.1 tags.Sequence (nested (many (relative_name Bound))) key_fields (tbs c).1.1.1.1.1 more (v_subject c s.valid) at_subject

  at_rest : walk.rest ≡ body_octets (optional_fields Bound) (behind_key (tbs c)) ++ more
  at_rest = walk.rest_behind.1 tags.Sequence (nested (public_key_fields Bound)) (optional_fields Bound) (tbs c).1.1.1.1.1.1 more (v_key c s.valid) at_key

  -- Each part ends where the bytes after it begin.
  pub signed_is : walk.signed ≡ octets_of (raw_tbs_certificate Bound) (tbs c) ++ walk.outer
  signed_is = between (raw_tbs_certificate Bound) outer_fields c [] walk.signed walk.outer at_signed at_outer

  pub number_is : walk.number ≡ integer_octets (tbs_serial (tbs c)) ++ walk.algorithm
  unfolding contents
  number_is =
      walk.number_in.1 tags.Integer (leaf (integer (numbers_within None))) (tbs c).1.0 (body_octets (field (algorithm_identifier Bound) issued_fields) (tbs c).1.1 ++ more) (valid_first (serial_number None) (field (algorithm_identifier Bound) issued_fields) (tbs c).1 (v_numbered c s.valid))
      (first_field (serial_number None) (field (algorithm_identifier Bound) issued_fields) (tbs c).1 more walk.serial at_serial)
      ∙ ap (λ (x : List ℕ). integer_octets (tbs_serial (tbs c)) ++ x) (sym at_algorithm)

  pub issuer_is : walk.issued ≡ octets_of (name Bound) (issuer c) ++ walk.valid_at
  issuer_is = between (name Bound) (from_validity Bound) (tbs c).1.1.1 more walk.issued walk.valid_at at_issuer at_validity

  pub subject_is : walk.named ≡ octets_of (name Bound) (subject c) ++ walk.key
  subject_is = between (name Bound) key_fields (tbs c).1.1.1.1.1 more walk.named walk.key at_subject at_key

  pub key_is : walk.key ≡ octets_of (public_key_info Bound) (public_key c) ++ walk.rest
  key_is = between (public_key_info Bound) (optional_fields Bound) (tbs c).1.1.1.1.1.1 more walk.key walk.rest at_key at_rest

  -- The bytes from each part on are a suffix of the certificate's bytes.
  before_serial : IsRest octets walk.serial
  before_serial = rests octets walk.fields walk.serial (rests octets walk.signed walk.fields walk.signed_in.0 walk.fields_in.0) walk.serial_behind.0

  pub before_number : IsRest octets walk.number
  before_number = rests octets walk.serial walk.number before_serial walk.number_in.0

  pub before_issuer : IsRest octets walk.issued
  before_issuer = rests octets walk.algorithm walk.issued (rests octets walk.serial walk.algorithm before_serial walk.algorithm_behind.0) walk.issued_behind.0

  pub before_subject : IsRest octets walk.named
  before_subject = rests octets walk.valid_at walk.named (rests octets walk.issued walk.valid_at before_issuer walk.valid_at_behind.0) walk.named_behind.0

  pub before_key : IsRest octets walk.key
  before_key = rests octets walk.named walk.key before_subject walk.key_behind.0

  pub behind_is : IsBehindKey octets c walk.rest
  behind_is = (rests octets walk.key walk.rest before_key walk.rest_behind.0, (more, at_rest))
