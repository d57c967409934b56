-- The positions of the contents of extensions in a certificate's bytes.
use Rattle.std.proofs.Common.{◌≡◌, ℕ, ◌-◌, ◌<◌, ◌≤◌, Bool, true, false, cond, List, [], ◌∷◌, ◌++◌, length, take, drop, get_or, Option, Some, None, is_some, refl, sym, ap, subst, ◌∙◌, arith, append-nil}
use Rattle.std.proofs.lemmas.List.{take_rest}
use Rattle.std.specs.Option.{option_map_or}
use Rattle.cert_tool_describe.specs.Oid.Bound.{Bound, max_size}
use Rattle.cert_tool_describe.specs.Oid.Comparing.{owned_eq}
use Rattle.cert_tool_describe.specs.Der.TagTypes.Tag.{Tag}
use Rattle.cert_tool_describe.specs.Der.TagTypes.Tag.TheVariants as tags
use Rattle.cert_tool_describe.specs.Der.Heads.{head_octets, length_octets, tlv}
use Rattle.cert_tool_describe.specs.Der.Leaves as leaves
use Rattle.cert_tool_describe.specs.Der.Shapes.{Shape, Content, Body, Value, BodyValue, ContentValue, Spells, tagged, field, optional, done, leaf, nested, many, only, explicit, octets_of, contents, body_octets, unless, IsValid, IsBody}
use Rattle.cert_tool_describe.specs.Der.Tags.{context, tag_octets}
use Rattle.cert_tool_describe.specs.CertParts.declared.extension.Extension.{Extension}
use Rattle.cert_tool_describe.specs.CertParts.Grammar.{PlainExtension, extension, extension_fields, extension_octets, extensions, false_by_default, implicit_leaf, is_critical, object_identifier, octet_string}
use Rattle.cert_tool_describe.specs.CertParts.Views.{extension_plain, extensions_plain}
use Rattle.cert_tool_describe.specs.CertCertificates.Certificates.{PlainCertificate, extensions_of, optional_fields, raw_certificate, tbs, tbs_extensions, tbs_issuer_unique_id, tbs_subject_unique_id}
use Rattle.cert_desk_c.specs.declared.places.WdSpan.{WdSpan}
use Rattle.cert_desk_c.specs.Places.{Enters, IsBehindKey, IsFound, IsRest, Passes, StandsAt, behind_key}
use Rattle.cert_desk_c.specs.Values.{first_extension}
use Rattle.cert_desk_c.proofs.PartPlaces.{valid_first, valid_behind, valid_nested, nested_is, first_field, rests, v_rest}

-- A value that may be absent.

optional_cases : (t : Tag) (k : Content) (b : Body) (o : Option (ContentValue k)) (u : BodyValue b) (w from to : List ℕ) (there : Bool) → there ≡ is_some o → IsBody (field (optional (tagged t k)) b) (o, u) → from ≡ body_octets (field (optional (tagged t k)) b) (o, u) ++ w
    → (there ≡ true → Passes from to) → (there ≡ false → to ≡ from) → to ≡ body_octets b u ++ w
unfolding body_octets octets_of IsBody IsValid
optional_cases t k b None u w from to there is valid e goes stays = stays is ∙ e
optional_cases t k b (Some x) u w from to there is valid e goes stays = (goes is).1 t k b (x, u) w valid e

pub optional_passed : (t : Tag) (k : Content) (b : Body) (v : BodyValue (field (optional (tagged t k)) b)) (w from to : List ℕ) (there : Bool) → there ≡ is_some v.0 → IsBody (field (optional (tagged t k)) b) v → from ≡ body_octets (field (optional (tagged t k)) b) v ++ w
    → (there ≡ true → Passes from to) → (there ≡ false → to ≡ from) → to ≡ body_octets b v.1 ++ w
unfolding body_octets IsBody
optional_passed t k b v w from to there is valid e goes stays = optional_cases t k b v.0 v.1 w from to there is valid e goes stays

-- A flag, which isn't encoded if it is false.

marked_cases : (b : Body) (m : Bool) (u : BodyValue b) (w from to : List ℕ) (critical : Bool) → critical ≡ m → IsBody (field false_by_default b) (m, u) → from ≡ body_octets (field false_by_default b) (m, u) ++ w
    → (critical ≡ true → Passes from to) → (critical ≡ false → to ≡ from) → to ≡ body_octets b u ++ w
unfolding body_octets octets_of contents tlv head_octets length_octets tag_octets unless IsBody IsValid
marked_cases b true u w from to critical is valid e goes stays = (goes is).1 tags.Boolean (leaf leaves.boolean) b (true, u) w valid e
marked_cases b false u w from to critical is valid e goes stays = stays is ∙ e

marked_passed : (b : Body) (v : BodyValue (field false_by_default b)) (w from to : List ℕ) (critical : Bool) → critical ≡ v.0 → IsBody (field false_by_default b) v → from ≡ body_octets (field false_by_default b) v ++ w
    → (critical ≡ true → Passes from to) → (critical ≡ false → to ≡ from) → to ≡ body_octets b v.1 ++ w
unfolding body_octets IsBody
marked_passed b v w from to critical is valid e goes stays = marked_cases b v.0 v.1 w from to critical is valid e goes stays

-- One extension.

abbrev valued : Body
valued = field octet_string done

abbrev marked : Body
marked = field false_by_default valued

pub record Inside (rest : List ℕ) (critical : Bool) : Type 0 where
  pub fields : List ℕ
  pub fields_in : Enters rest fields
  pub marking : List ℕ
  pub marking_behind : Passes fields marking
  pub value : List ℕ
  pub value_rest : IsRest marking value
  pub value_there : critical ≡ true → Passes marking value
  pub value_alone : critical ≡ false → value ≡ marking
  pub content : List ℕ
  pub content_in : Enters value content
  pub end : List ℕ
  pub end_behind : Passes value end

module _ (whole rest : List ℕ) (critical : Bool) (i : Inside rest critical) (e : PlainExtension) (w : List ℕ) (before : IsRest whole rest) (valid : IsValid (extension Bound) e) (is : rest ≡ octets_of (extension Bound) e ++ w) (same : critical ≡ is_critical e) where
  v_fields : IsBody (extension_fields Bound) e
  v_fields = valid_nested tags.Sequence (extension_fields Bound) e valid

  at_fields : i.fields ≡ body_octets (extension_fields Bound) e ++ w
  at_fields = nested_is (extension_fields Bound) e w i.fields (i.fields_in.1 tags.Sequence (nested (extension_fields Bound)) e w valid is)

  at_marking : i.marking ≡ body_octets marked e.1 ++ w
  at_marking = i.marking_behind.1 tags.ObjectIdentifier (leaf (leaves.identifier Bound max_size)) marked e w v_fields at_fields

  v_marking : IsBody marked e.1
  v_marking = valid_behind (object_identifier Bound) marked e v_fields

  at_value : i.value ≡ body_octets valued e.1.1 ++ w
  at_value = marked_passed valued e.1 w i.marking i.value critical same v_marking at_marking i.value_there i.value_alone

  v_value : IsBody valued e.1.1
  v_value = valid_behind false_by_default valued e.1 v_marking

  at_end : i.end ≡ body_octets done e.1.1.1 ++ w
  at_end = i.end_behind.1 tags.OctetString (leaf leaves.octets) done e.1.1 w v_value at_value

  pub content_is : i.content ≡ extension_octets e ++ i.end
  unfolding contents
  content_is =
      i.content_in.1 tags.OctetString (leaf leaves.octets) e.1.1.0 (body_octets done e.1.1.1 ++ w) (valid_first octet_string done e.1.1 v_value) (first_field octet_string done e.1.1 w i.value at_value)
      ∙ ap (λ (x : List ℕ). extension_octets e ++ x) (sym at_end)

  pub before_content : IsRest whole i.content
  before_content =
      rests whole i.value i.content (rests whole i.marking i.value (rests whole i.fields i.marking (rests whole rest i.fields before i.fields_in.0) i.marking_behind.0) i.value_rest) i.content_in.0

-- Several extensions, one after another.

many_first : (s : Shape) (x : Value s) (xs : List (Value s)) (w from : List ℕ) → from ≡ body_octets (many s) (x ∷ xs) ++ w → from ≡ body_octets (field s (many s)) (x, xs) ++ w
unfolding body_octets
many_first s x xs w from e = e

many_valid : (s : Shape) (x : Value s) (xs : List (Value s)) → IsBody (many s) (x ∷ xs) → IsBody (field s (many s)) (x, xs)
unfolding IsBody
many_valid s x xs valid = valid

module _ (es : List Extension) (x : Extension) (left : List Extension) (e : es ≡ x ∷ left) (w rest : List ℕ) (valid : IsBody (many (extension Bound)) (extensions_plain es)) (is : rest ≡ body_octets (many (extension Bound)) (extensions_plain es) ++ w) where
  v_both : IsBody (field (extension Bound) (many (extension Bound))) (extension_plain x, extensions_plain left)
  v_both = many_valid (extension Bound) (extension_plain x) (extensions_plain left) (subst (λ (l : List Extension). IsBody (many (extension Bound)) (extensions_plain l)) e valid)

  at_both : rest ≡ body_octets (field (extension Bound) (many (extension Bound))) (extension_plain x, extensions_plain left) ++ w
  at_both = many_first (extension Bound) (extension_plain x) (extensions_plain left) w rest (is ∙ ap (λ (l : List Extension). body_octets (many (extension Bound)) (extensions_plain l) ++ w) e)

  pub this_valid : IsValid (extension Bound) (extension_plain x)
  this_valid = valid_first (extension Bound) (many (extension Bound)) (extension_plain x, extensions_plain left) v_both

  pub this_is : rest ≡ octets_of (extension Bound) (extension_plain x) ++ (body_octets (many (extension Bound)) (extensions_plain left) ++ w)
  this_is = first_field (extension Bound) (many (extension Bound)) (extension_plain x, extensions_plain left) w rest at_both

  pub left_valid : IsBody (many (extension Bound)) (extensions_plain left)
  left_valid = valid_behind (extension Bound) (many (extension Bound)) (extension_plain x, extensions_plain left) v_both

  pub left_is : (to : List ℕ) → Passes rest to → to ≡ body_octets (many (extension Bound)) (extensions_plain left) ++ w
  left_is to p = p.1 tags.Sequence (nested (extension_fields Bound)) (many (extension Bound)) (extension_plain x, extensions_plain left) w v_both at_both

cons_drop : (es : List Extension) (x : Extension) → 1 ≤ length es → x ≡ get_or es 0 x → es ≡ x ∷ drop 1 es
cons_drop [] x some is = absurd (omega arith)
cons_drop (y ∷ es) x some is = ap (λ (z : Extension). z ∷ es) (sym is)

pub cons_is : (es : List Extension) (x : Extension) → 1 ≤ length es → x ≡ get_or es 0 x → es ≡ x ∷ take (length es - 1) (drop 1 es)
cons_is es x some is = cons_drop es x some is ∙ ap (λ (l : List Extension). x ∷ l) (sym (take_rest es 1))

pub found_none : (whole arcs : List ℕ) (es : List Extension) → length es < 1 → IsFound whole (first_extension arcs (extensions_plain es)) None
found_none whole arcs [] few = tt
found_none whole arcs (x ∷ es) few = absurd (omega arith)

pub found_here : (whole arcs : List ℕ) (es : List Extension) (x : Extension) (left : List Extension) (span : WdSpan) → es ≡ x ∷ left → owned_eq x.extn_id arcs ≡ true → StandsAt whole span (extension_octets (extension_plain x))
    → IsFound whole (first_extension arcs (extensions_plain es)) (Some (span, x.critical))
found_here whole arcs es x left span e same stands =
    let found : first_extension arcs (extensions_plain es) ≡ Some (extension_plain x) =
    ap (λ (l : List Extension). first_extension arcs (extensions_plain l)) e ∙ ap (λ (b : Bool). cond b (Some (extension_plain x)) (first_extension arcs (extensions_plain left))) same in
    subst (λ (r : Option PlainExtension). IsFound whole r (Some (span, x.critical))) (sym found) (stands, refl)

pub found_later : (whole arcs : List ℕ) (es : List Extension) (x : Extension) (left : List Extension) (found : Option (WdSpan × Bool)) → es ≡ x ∷ left → owned_eq x.extn_id arcs ≡ false → IsFound whole (first_extension arcs (extensions_plain left)) found
    → IsFound whole (first_extension arcs (extensions_plain es)) found
found_later whole arcs es x left found e other is =
    let later : first_extension arcs (extensions_plain es) ≡ first_extension arcs (extensions_plain left) =
    ap (λ (l : List Extension). first_extension arcs (extensions_plain l)) e ∙ ap (λ (b : Bool). cond b (Some (extension_plain x)) (first_extension arcs (extensions_plain left))) other in
    subst (λ (r : Option PlainExtension). IsFound whole r found) (sym later) is

pub is_found : (whole : List ℕ) (o : Option PlainExtension) (found : WdSpan × Bool) → IsFound whole o (Some found) → (e : PlainExtension) × (o ≡ Some e) × StandsAt whole found.0 (extension_octets e) × (found.1 ≡ is_critical e)
is_found whole None found is = absurd is
is_found whole (Some e) found is = (e, refl, is.0, is.1)

pub is_absent : (whole : List ℕ) (o : Option PlainExtension) → IsFound whole o None → o ≡ None
is_absent whole None is = refl
is_absent whole (Some e) is = absurd is

-- The extensions of a certificate.

pub none_found : (whole arcs : List ℕ) (c : PlainCertificate) → tbs_extensions (tbs c) ≡ None → IsFound whole (first_extension arcs (extensions_of c)) None
none_found whole arcs c none =
    subst (λ (o : Option (List PlainExtension)). IsFound whole (first_extension arcs (option_map_or (λ es. es) o [])) None) (sym none) tt

pub some_found : (whole arcs : List ℕ) (c : PlainCertificate) (es : List PlainExtension) (found : Option (WdSpan × Bool)) → tbs_extensions (tbs c) ≡ Some es → IsFound whole (first_extension arcs es) found → IsFound whole (first_extension arcs (extensions_of c)) found
some_found whole arcs c es found some is =
    subst (λ (o : Option (List PlainExtension)). IsFound whole (first_extension arcs (option_map_or (λ es. es) o [])) found) (sym some) is

abbrev last_fields : Body
last_fields = field (optional (explicit 3 (extensions Bound))) done

abbrev second_fields : Body
second_fields = field (optional (implicit_leaf 2 leaves.bits)) last_fields

last_is : (o : Option (List PlainExtension)) (u : Unit {0}) (es : List PlainExtension) (w from : List ℕ) → o ≡ Some es → from ≡ body_octets last_fields (o, u) ++ w → from ≡ octets_of (explicit 3 (extensions Bound)) es ++ w
unfolding body_octets octets_of
last_is None u es w from some e = absurd (cc)
last_is (Some xs) u es w from some e =
    let same : xs ≡ es = cc in
    e ∙ ap (λ (x : List ℕ). x ++ w) (append-nil (octets_of (explicit 3 (extensions Bound)) xs)) ∙ ap (λ (l : List PlainExtension). octets_of (explicit 3 (extensions Bound)) l ++ w) same

last_valid : (o : Option (List PlainExtension)) (u : Unit {0}) (es : List PlainExtension) → o ≡ Some es → IsBody last_fields (o, u) → IsValid (explicit 3 (extensions Bound)) es
unfolding IsBody IsValid
last_valid None u es some valid = absurd (cc)
last_valid (Some xs) u es some valid =
    let same : xs ≡ es = cc in
    subst (λ (l : List PlainExtension). IsValid (explicit 3 (extensions Bound)) l) same valid.0

only_is : (es : List PlainExtension) (w from : List ℕ) → from ≡ contents (nested (only (extensions Bound))) es ++ w → from ≡ octets_of (extensions Bound) es ++ w
unfolding contents body_octets
only_is es w from e = e

only_valid : (es : List PlainExtension) → IsBody (only (extensions Bound)) es → IsValid (extensions Bound) es
unfolding IsBody
only_valid es valid = valid

pub record Behind (ids : List ℕ) (c : PlainCertificate) : Type 0 where
  pub first_there : Bool
  pub first_is : first_there ≡ is_some (tbs_issuer_unique_id (tbs c))
  pub second : List ℕ
  pub second_rest : IsRest ids second
  pub second_behind : first_there ≡ true → Passes ids second
  pub second_alone : first_there ≡ false → second ≡ ids
  pub second_there : Bool
  pub second_is : second_there ≡ is_some (tbs_subject_unique_id (tbs c))
  pub last : List ℕ
  pub last_rest : IsRest second last
  pub last_behind : second_there ≡ true → Passes second last
  pub last_alone : second_there ≡ false → last ≡ second
  pub list : List ℕ
  pub list_in : Enters last list
  pub rest : List ℕ
  pub rest_in : Enters list rest

module _ (whole ids : List ℕ) (c : PlainCertificate) (s : Spells (raw_certificate Bound) c whole) (behind : IsBehindKey whole c ids) (p : Behind ids c) (es : List PlainExtension) (some : tbs_extensions (tbs c) ≡ Some es) where
  abbrev more : List ℕ
  more = behind.1.0

  v_ids : IsBody (optional_fields Bound) (behind_key (tbs c))
  v_ids = v_rest c s.valid

  at_second : p.second ≡ body_octets second_fields (behind_key (tbs c)).1 ++ more
  at_second = optional_passed (context false 1) (leaf leaves.bits) second_fields (behind_key (tbs c)) more ids p.second p.first_there p.first_is v_ids behind.1.1 p.second_behind p.second_alone

  v_second : IsBody second_fields (behind_key (tbs c)).1
  v_second = valid_behind (optional (implicit_leaf 1 leaves.bits)) second_fields (behind_key (tbs c)) v_ids

  at_last : p.last ≡ body_octets last_fields (behind_key (tbs c)).1.1 ++ more
  at_last = optional_passed (context false 2) (leaf leaves.bits) last_fields (behind_key (tbs c)).1 more p.second p.last p.second_there p.second_is v_second at_second p.last_behind p.last_alone

  v_last : IsValid (explicit 3 (extensions Bound)) es
  v_last = last_valid (tbs_extensions (tbs c)) tt es some (valid_behind (optional (implicit_leaf 2 leaves.bits)) last_fields (behind_key (tbs c)).1 v_second)

  at_list : p.list ≡ octets_of (extensions Bound) es ++ more
  at_list = only_is es more p.list (p.list_in.1 (context true 3) (nested (only (extensions Bound))) es more v_last (last_is (tbs_extensions (tbs c)) tt es more p.last some at_last))

  v_list : IsValid (extensions Bound) es
  v_list = only_valid es (valid_nested (context true 3) (only (extensions Bound)) es v_last)

  pub list_is : p.rest ≡ body_octets (many (extension Bound)) es ++ more
  list_is = nested_is (many (extension Bound)) es more p.rest (p.rest_in.1 tags.Sequence (nested (many (extension Bound))) es more v_list at_list)

  pub list_valid : IsBody (many (extension Bound)) es
  list_valid = valid_nested tags.Sequence (many (extension Bound)) es v_list

  pub before_list : IsRest whole p.rest
  before_list =
      rests whole p.list p.rest (rests whole p.last p.list (rests whole p.second p.last (rests whole ids p.second behind.0 p.second_rest) p.last_rest) p.list_in.0) p.rest_in.0
