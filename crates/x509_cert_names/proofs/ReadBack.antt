-- Lemmas for `printed_names_are_read`: the printed form of a name parses again.
use Rattle.std.proofs.Common.{◌≡◌, ◌≢◌, ℕ, ◌+◌, ◌<◌, ◌≤◌, List, [], ◌∷◌, ◌++◌, length, reverse, Bool, true, false, Option, Some, None, Result, Ok, Err, refl, sym, ap, ◌∙◌, subst, arith, append-nil, length-append, map, flat_map, chars, IsUtf8, IsPermutation, if◌then◌else◌}
use Rattle.std.specs.Prelude.{⊤}
use Rattle.std.specs.List.{AllByRecursion, list_all}
use Rattle.std.specs.Result.{result_ok}
use Rattle.std.proofs.lemmas.Bool.Decides.{nat_tests}
use Rattle.std.proofs.lemmas.List.{length-reverse, reverse-append, reverse-reverse}
use Rattle.std.proofs.lemmas.List.Sorted.{IsPermutation-map, IsPermutation-refl, IsPermutation-sym}
use Rattle.std.proofs.lemmas.Bool.{eqb-false, ltb-true}
use Rattle.std.proofs.lemmas.Str.{IsUtf8-from_is_utf8, IsUtf8-from_ascii}
use Rattle.std.specs.Str.{is_utf8}
use Rattle.der_core.specs.Oid.Bound.{Bound}
use Rattle.der_core.specs.Oid.DottedText.{dotted}
use Rattle.der_core.specs.Oid.IdentifierOctets.{IsIdentifier, identifier_octets}
use Rattle.der_core.specs.ErrorTypes.ErrorKind.{ErrorKind}
use Rattle.der_core.specs.ErrorTypes.ErrorKind.TheVariants as kinds
use Rattle.der_core.specs.TagTypes.Tag.{Tag}
use Rattle.der_core.specs.TagTypes.Tag.TheVariants as tags
use Rattle.der_core.specs.Grammar.{plain_list, read_whole}
use Rattle.der_core.specs.Heads.{Fits}
use Rattle.der_core.specs.Leaves.{Leaf, LeafValue, leaf_read, text, utf8}
use Rattle.der_core.specs.Octets.{◌>>=◌, IsOctets}
use Rattle.der_core.specs.Shapes.{AnyValue, AllRising, IsValid, IsContent, IsBody, Spells, any, octets_of}
use Rattle.der_core.specs.Tags.{same_tag}
use Rattle.der_core.specs.Texts.{Repertoire, printable, ascii, is_within, text_read, utf8_read}
use Rattle.der_core.proofs.HeadLaws.{fits_contents}
use Rattle.der_core.proofs.OneEncoding.{octets_below, whole_again}
use Rattle.der_core.proofs.TextLaws.{all_ascii, printable_below}
use Rattle.der_core.specs.Placed.{AllValid}
use Rattle.der_types.specs.Contents.{leaf_as}
use Rattle.der_types.proofs.Arranged.{valid_moved}
use Rattle.der_types.proofs.AscendingSteps.{rising-ascends}
use Rattle.x509_cert_name_texts.specs.Escapes.{escaped, in_hex}
use Rattle.x509_cert_name_texts.specs.Keys.{key_of}
use Rattle.x509_cert_name_texts.specs.Pieces.{HasNone, Counts, ReadsPieces}
use Rattle.x509_cert_name_texts.proofs.KeySteps.{key_plain, split_at_equals, named_read, dotted_key, dotted_key_read}
use Rattle.x509_cert_name_texts.proofs.PrintSteps.{is_paired, Calm, calm, calm-append, calm_plain, calm_from, stands_text, no_hash, hex_read, hex_plain}
use Rattle.x509_cert_names.specs.Names.{PlainName, RelativeName, TypeAndValue, type_and_value, relative_name, name, type_of, value_of}
use Rattle.x509_cert_names.specs.NameTexts.{ReadsAttribute, ReadsName, ReadsRelative, printed_behind, joined_by, relative_printed, name_printed}
use Rattle.x509_cert_names.specs.Pairs.{pair_plain, relative_plain}
use Rattle.x509_cert_names.specs.PlainTexts.{SpellsName, attribute_of, name_text, read_by, as_read, IsAsRead, IsReadBack}
use Rattle.x509_cert_names.specs.ValueTexts.{ReadsValue, tag_for, of_content, encoded_value, encoding_of, text_by, text_of, printed_by, attribute_printed}
use Rattle.x509_cert_names.specs.declared.attribute_type_and_value.AttributeTypeAndValue.{AttributeTypeAndValue}
use Rattle.x509_cert_names.proofs.EncodedValues.{encoded_is}
use Rattle.x509_cert_names.proofs.Lists.{all_turned}
use Rattle.x509_cert_names.proofs.OneName.{one_spelled}
use Rattle.x509_cert_names.proofs.SameOctets.{rising_distinct}

-- Joined pieces parse one after another.

module _ {A B E : Type 0} (s : ℕ) (reads : List ℕ → Result B E → Type 0) (print : A → List ℕ) where
  -- The printed form of the first value parses to the second and contains no unescaped separator.
  abbrev pub IsPiece : A → B → Type 0
  IsPiece x y = reads (print x) (Ok y) × HasNone s (print x) × Counts (print x)

  abbrev pub ArePieces : List A → List B → Type 0
  ArePieces [] [] = ⊤
  ArePieces (x ∷ xs) (y ∷ ys) = IsPiece x y × ArePieces xs ys
  ArePieces _ _ = ⊥

  pub pieces_read : (x : A) (xs : List A) (y : B) (ys : List B) → ArePieces (x ∷ xs) (y ∷ ys) → ReadsPieces s reads (joined_by s print (x ∷ xs)) (Ok (y ∷ ys))
  pieces_read x [] y [] h = ReadsPieces.last (print x ++ []) (print x) y (append-nil (print x), h.0.1) h.0.0
  pieces_read x [] y (z ∷ ys) h = absurd h.1
  pieces_read x (w ∷ xs) y [] h = absurd h.1
  pieces_read x (w ∷ xs) y (z ∷ ys) h =
      ReadsPieces.more (joined_by s print (x ∷ w ∷ xs)) (print x) (joined_by s print (w ∷ xs)) y (Ok (z ∷ ys)) (refl, h.0.1, h.0.2) h.0.0 (pieces_read w xs z ys h.1)

  pieces-push : (xs : List A) (ys : List B) (x : A) (y : B) → ArePieces xs ys → IsPiece x y → ArePieces (xs ++ (x ∷ [])) (ys ++ (y ∷ []))
  pieces-push [] [] x y h p = (p, tt)
  pieces-push (w ∷ xs) (z ∷ ys) x y h p = (h.0, pieces-push xs ys x y h.1 p)
  pieces-push xs ys x y h p = absurd h

  pub pieces_turned : (xs : List A) (ys : List B) → ArePieces xs ys → ArePieces (reverse xs) (reverse ys)
  pieces_turned [] [] h = tt
  pieces_turned (x ∷ xs) (y ∷ ys) h =
      let push = pieces-push (reverse xs) (reverse ys) x y (pieces_turned xs ys h.1) h.0 in
      subst (λ (v : List A). ArePieces v (reverse (y ∷ ys))) (sym (reverse-append (x ∷ []) xs))
      (subst (λ (v : List B). ArePieces (reverse xs ++ (x ∷ [])) v) (sym (reverse-append (y ∷ []) ys)) push)
  pieces_turned xs ys h = absurd h

  pub all_read : (xs : List A) (ys : List B) → 0 < length xs → ArePieces xs ys → ReadsPieces s reads (joined_by s print xs) (Ok ys)
  all_read [] ys l h = absurd (omega (arith, l))
  all_read (x ∷ xs) [] l h = absurd h
  all_read (x ∷ xs) (y ∷ ys) l h = pieces_read x xs y ys h

-- Values joined by another separator contain no unescaped separator.
joined_calm : {A : Type 0} (s t : ℕ) (print : A → List ℕ) → t ≢ 92 → t ≢ s → (xs : List A) → AllByRecursion (λ x. Calm s (print x)) xs → Calm s (flat_map (printed_behind t print) xs)
joined_calm s t print n m [] h = Calm.end
joined_calm s t print n m (x ∷ xs) h = Calm.plain t _ n m (calm-append s (flat_map (printed_behind t print) xs) h.0 (joined_calm s t print n m xs h.1))

-- A printed text is UTF-8.

ok_from : {A E : Type 0} (r : Result A E) (x : A) → result_ok r ≡ Some x → r ≡ Ok x
ok_from (Ok y) x e = let same : y ≡ x = cc e in ap (λ z. Ok z) same
ok_from (Err k) x e = absurd (cc e)

ascii_text : (r : Repertoire) → ((b : ℕ) → is_within r b ≡ true → b < 128) → (t : Tag) (w v : List ℕ) → text_read r t w ≡ Ok v → IsUtf8 v
unfolding text_read
ascii_text r below t w v e = by (list_all (is_within r) w) refl e
  where
    by : (b : Bool) → list_all (is_within r) w ≡ b → (if b then Ok w else Err (kinds.Value t)) ≡ Ok v → IsUtf8 v
    by true f g = let same : w ≡ v = cc g in subst IsUtf8 same (IsUtf8-from_ascii w (all_ascii (is_within r) w below f))
    by false f g = absurd (cc g)

utf8_text : (w v : List ℕ) → utf8_read w ≡ Ok v → IsUtf8 v
unfolding utf8_read
utf8_text w v e = by (is_utf8 w) refl e
  where
    by : (b : Bool) → is_utf8 w ≡ b → (if b then Ok w else Err kinds.Utf8) ≡ Ok v → IsUtf8 v
    by true f g = let same : w ≡ v = cc g in subst IsUtf8 same (IsUtf8-from_is_utf8 w f)
    by false f g = absurd (cc g)

leaf_given : (t : Tag) (l : Leaf) (a : AnyValue) (v : LeafValue l) → leaf_as t l a ≡ Ok v → leaf_read l a.tag a.contents ≡ Ok v
unfolding leaf_as
leaf_given t l a v e = by (same_tag a.tag t) e
  where
    by : (b : Bool) → (if b then leaf_read l a.tag a.contents else Err kinds.TagUnexpected) ≡ Ok v → leaf_read l a.tag a.contents ≡ Ok v
    by true g = g
    by false g = absurd (cc g)

ascii_below : (b : ℕ) → is_within ascii b ≡ true → b < 128
ascii_below b e = ltb-true b 128 e

is_text : (t : Tag) (a : AnyValue) (w : List ℕ) → text_by t a ≡ Some w → IsUtf8 w
is_text tags.PrintableString a w e = ascii_text printable printable_below a.tag a.contents w (leaf_given tags.PrintableString (text printable) a w (ok_from _ w e))
is_text tags.Utf8String a w e = utf8_text a.contents w (leaf_given tags.Utf8String utf8 a w (ok_from _ w e))
is_text tags.Ia5String a w e = ascii_text ascii ascii_below a.tag a.contents w (leaf_given tags.Ia5String (text ascii) a w (ok_from _ w e))
is_text tags.TeletexString a w e = ascii_text ascii ascii_below a.tag a.contents w (leaf_given tags.TeletexString (text ascii) a w (ok_from _ w e))
is_text t a w e = absurd (cc e)

text_utf8 : (a : AnyValue) (w : List ℕ) → text_of a ≡ Some w → IsUtf8 w
unfolding text_of
text_utf8 a w e = is_text a.tag a w e

-- A printed attribute parses again.

content_is : (t : Tag) (w : List ℕ) → Fits w → of_content t w ≡ Ok (record { tag = t; contents = w })
content_is t w f = grind (arith, nat_tests)

type_valid : (bound : ℕ) (a : TypeAndValue) → IsValid (type_and_value bound) a → IsIdentifier bound (type_of a) × (length (identifier_octets (type_of a)) ≤ 39)
unfolding IsValid IsContent IsBody
type_valid bound a v = v.0.0.0

value_valid : (bound : ℕ) (a : TypeAndValue) → IsValid (type_and_value bound) a → IsValid any (value_of a)
unfolding IsValid IsContent IsBody
value_valid bound a v = v.0.1.0

value_fits : (a : AnyValue) → IsValid any a → Fits a.contents
unfolding IsValid
value_fits a v = fits_contents a.tag a.contents v.2

encoding_spelled : (a : AnyValue) → IsValid any a → Spells any a (encoding_of a)
unfolding encoding_of octets_of
encoding_spelled a v = record { valid = v; octets = refl }

encoding_octets : (a : AnyValue) → IsValid any a → IsOctets (encoding_of a)
unfolding encoding_of octets_of
encoding_octets a v = octets_below any a v

encoding_read : (a : AnyValue) → IsValid any a → encoded_value (in_hex (encoding_of a)) ≡ Ok a
encoding_read a v =
    encoded_is (in_hex (encoding_of a))
    ∙ ap (λ (r : Result (List ℕ) ErrorKind). r >>= read_whole any >>= λ x. Ok x.0) (hex_read (encoding_of a) (encoding_octets a v))
    ∙ ap (λ (r : Result (AnyValue × List ℕ) ErrorKind). r >>= λ x. Ok x.0) (whole_again any a (encoding_of a) refl refl (encoding_spelled a v))

-- The attributes of an RDN, and the RDNs of a name.

abbrev attributes : RelativeName → List AttributeTypeAndValue
attributes r = map attribute_of r

abbrev relatives : PlainName → List (List AttributeTypeAndValue)
relatives n = map attributes n

attributes_plain : (r : RelativeName) → plain_list pair_plain (attributes r) ≡ r
attributes_plain [] = refl
attributes_plain (a ∷ r) = ap (λ (x : RelativeName). a ∷ x) (attributes_plain r)

relatives_plain : (n : PlainName) → n ≡ plain_list relative_plain (relatives n)
relatives_plain [] = refl
relatives_plain (r ∷ n) = λ i. sym (attributes_plain r) i ∷ relatives_plain n i

members_valid : (bound : ℕ) (r : RelativeName) → IsValid (relative_name bound) r → AllByRecursion (λ a. IsValid (type_and_value bound) a) r
unfolding IsValid IsContent IsBody
members_valid bound r v = v.0.0

members_rise : (bound : ℕ) (r : RelativeName) → IsValid (relative_name bound) r → AllRising (octets_of (type_and_value bound)) r
unfolding IsValid IsContent IsBody
members_rise bound r v = v.0.1

relatives_valid : (bound : ℕ) (n : PlainName) → IsValid (name bound) n → AllByRecursion (λ r. IsValid (relative_name bound) r) n
unfolding IsValid IsContent IsBody
relatives_valid bound n v = v.0

rise_alike : (bound : ℕ) (xs : List TypeAndValue) → AllRising (octets_of (type_and_value bound)) xs → AllRising (octets_of (type_and_value Bound)) xs
unfolding octets_of
rise_alike bound xs h = h

attributes_valid : (bound : ℕ) (r : RelativeName) → AllByRecursion (λ a. IsValid (type_and_value bound) a) r → AllValid (type_and_value bound) pair_plain (attributes r)
attributes_valid bound [] h = tt
attributes_valid bound (a ∷ r) h = (h.0, attributes_valid bound r h.1)

attribute_some : (a : AttributeTypeAndValue) → 0 < length (attribute_printed a)
unfolding attribute_printed
attribute_some a = by (key_of a.oid) (text_of a.value)
  where
    by : (k t : Option (List ℕ)) → 0 < length (printed_by k t a)
    by (Some key) (Some w) = omega (arith, length-append key (61 ∷ escaped (chars w)))
    by (Some key) None = omega (arith, length-append (dotted a.oid) (61 ∷ 35 ∷ in_hex (encoding_of a.value)))
    by None t = omega (arith, length-append (dotted a.oid) (61 ∷ 35 ∷ in_hex (encoding_of a.value)))

joined_some : {A : Type 0} (s : ℕ) (print : A → List ℕ) (xs : List A) → 0 < length xs → AllByRecursion (λ x. 0 < length (print x)) xs → 0 < length (joined_by s print xs)
joined_some s print [] l h = l
joined_some s print (x ∷ xs) l h = omega (arith, h.0, length-append (print x) (flat_map (printed_behind s print) xs))

each_some : (r : List AttributeTypeAndValue) → AllByRecursion (λ a. 0 < length (attribute_printed a)) r
each_some [] = tt
each_some (a ∷ r) = (attribute_some a, each_some r)

some_of : (r : RelativeName) → r ≢ [] → 0 < length (attributes r)
some_of [] n = absurd (n refl)
some_of (a ∷ r) n = omega arith

all_some : (n m : PlainName) → IsReadBack n m → AllByRecursion (λ r. 0 < length (relative_printed r)) (relatives n)
all_some [] [] h = tt
all_some (r ∷ n) (s ∷ m) h = (joined_some 43 attribute_printed (attributes r) (some_of r h.0) (each_some (attributes r)), all_some n m h.2)
all_some n m h = absurd h

module _ (bound : ℕ) (root : 40 ≤ bound) where
  by_hex : (a : TypeAndValue) → IsValid (type_and_value bound) a → ReadsAttribute bound (dotted (type_of a) ++ (61 ∷ 35 ∷ in_hex (encoding_of (value_of a)))) (Ok (attribute_of a))
  by_hex a v =
      let digits = in_hex (encoding_of (value_of a)) in
      let id = type_valid bound a v in
      ReadsAttribute.member (dotted (type_of a)) (35 ∷ digits) (attribute_of a) (split_at_equals (dotted (type_of a)) (35 ∷ digits) (dotted_key (type_of a)))
      (dotted_key_read bound (type_of a) root id.0 id.1) (ReadsValue.hexstring digits refl (sym (encoding_read (value_of a) (value_valid bound a v))))

  by_text : (a : TypeAndValue) (key w : List ℕ) → key_of (type_of a) ≡ Some key → text_of (value_of a) ≡ Some w → IsValid (type_and_value bound) (read_by (Some key) (Some w) a)
      → ReadsAttribute bound (key ++ (61 ∷ escaped (chars w))) (Ok (attribute_of (read_by (Some key) (Some w) a)))
  by_text a key w e f v =
      let b = read_by (Some key) (Some w) a in
      let k = named_read bound (type_of a) key (type_valid bound b v).0 e in
      let fits = value_fits (value_of b) (value_valid bound b v) in
      ReadsAttribute.member key (escaped (chars w)) (attribute_of b) (split_at_equals key (escaped (chars w)) k.0) k.1
      (ReadsValue.string (no_hash (chars w)) (Ok w, stands_text w (text_utf8 (value_of a) w f), sym (content_is (tag_for (type_of a)) w fits)))

  attribute_back : (a : TypeAndValue) → IsValid (type_and_value bound) (as_read a) → ReadsAttribute bound (attribute_printed (attribute_of a)) (Ok (attribute_of (as_read a)))
  unfolding attribute_printed as_read
  attribute_back a v = by (key_of (type_of a)) (text_of (value_of a)) refl refl v
    where
      by : (k t : Option (List ℕ)) → key_of (type_of a) ≡ k → text_of (value_of a) ≡ t → IsValid (type_and_value bound) (read_by k t a) → ReadsAttribute bound (printed_by k t (attribute_of a)) (Ok (attribute_of (read_by k t a)))
      by (Some key) (Some w) e f h = by_text a key w e f h
      by (Some key) None e f h = by_hex a h
      by None t e f h = by_hex a h

  -- A printed attribute contains no unescaped separator.
  attribute_calm : (s : ℕ) → is_paired s ≡ true → (a : TypeAndValue) → IsValid (type_and_value bound) (as_read a) → Calm s (attribute_printed (attribute_of a))
  unfolding attribute_printed as_read
  attribute_calm s sign a v = by (key_of (type_of a)) (text_of (value_of a)) refl v
    where
      hex : IsValid (type_and_value bound) a → Calm s (dotted (type_of a) ++ (61 ∷ 35 ∷ in_hex (encoding_of (value_of a))))
      hex h =
          let digits = in_hex (encoding_of (value_of a)) in
          let value = calm_plain s sign (61 ∷ 35 ∷ digits) (refl, (refl, hex_plain (encoding_of (value_of a)) (encoding_octets (value_of a) (value_valid bound a h)))) in
          calm-append s (61 ∷ 35 ∷ digits) (calm_plain s sign (dotted (type_of a)) (key_plain (dotted (type_of a)) (dotted_key (type_of a)))) value

      by : (k t : Option (List ℕ)) → key_of (type_of a) ≡ k → IsValid (type_and_value bound) (read_by k t a) → Calm s (printed_by k t (attribute_of a))
      by (Some key) (Some w) e h =
          let k = named_read bound (type_of a) key (type_valid bound (read_by (Some key) (Some w) a) h).0 e in
          let value = calm-append s (escaped (chars w)) (calm_plain s sign (61 ∷ []) (refl, tt)) (calm_from s sign true (chars w)) in
          calm-append s (61 ∷ escaped (chars w)) (calm_plain s sign key (key_plain key k.0)) value
      by (Some key) None e h = hex h
      by None t e h = hex h

  -- Printed RDNs parse again.

  relative_pieces : (r : RelativeName) → AllByRecursion (λ a. IsValid (type_and_value bound) a) (map as_read r)
      → ArePieces 43 (ReadsAttribute bound) attribute_printed (attributes r) (attributes (map as_read r))
  relative_pieces [] h = tt
  relative_pieces (a ∷ r) h =
      let c = calm 43 (eqb-false 43 92 refl) (attribute_printed (attribute_of a)) (attribute_calm 43 refl a h.0) in
      ((attribute_back a h.0, c.0, c.1), relative_pieces r h.1)

  relative_back : (r s : RelativeName) → r ≢ [] → IsPermutation (map as_read r) s → IsValid (relative_name bound) s → ReadsRelative bound (relative_printed (attributes r)) (Ok (attributes s))
  relative_back r s some same v =
      let valid = valid_moved (type_and_value bound) (λ a. a) s (map as_read r) (IsPermutation-sym (map as_read r) s same) (members_valid bound s v) in
      let rise = subst (λ (xs : List TypeAndValue). AllRising (octets_of (type_and_value bound)) xs) (sym (attributes_plain s)) (members_rise bound s v) in
      let read = all_read 43 (ReadsAttribute bound) attribute_printed (attributes r) (attributes (map as_read r)) (some_of r some) (relative_pieces r valid) in
      ReadsRelative.set (attributes (map as_read r)) (attributes s) read (IsPermutation-map attribute_of (map as_read r) s same)
      (rising-ascends (type_and_value bound) pair_plain (attributes s) rise) (rising_distinct (attributes s) (rise_alike bound (plain_list pair_plain (attributes s)) rise))
      (attributes_valid bound s (members_valid bound s v))

  attributes_calm : (r : RelativeName) → AllByRecursion (λ a. IsValid (type_and_value bound) a) (map as_read r) → AllByRecursion (λ a. Calm 44 (attribute_printed a)) (attributes r)
  attributes_calm [] h = tt
  attributes_calm (a ∷ r) h = (attribute_calm 44 refl a h.0, attributes_calm r h.1)

  relative_calm : (r : RelativeName) → AllByRecursion (λ a. IsValid (type_and_value bound) a) (map as_read r) → Calm 44 (relative_printed (attributes r))
  relative_calm [] h = Calm.end
  relative_calm (a ∷ r) h =
      let c = attributes_calm (a ∷ r) h in
      calm-append 44 (flat_map (printed_behind 43 attribute_printed) (attributes r)) c.0 (joined_calm 44 43 attribute_printed (eqb-false 43 92 refl) (eqb-false 43 44 refl) (attributes r) c.1)

  -- Printed names parse again.

  name_pieces : (n m : PlainName) → IsReadBack n m → AllByRecursion (λ r. IsValid (relative_name bound) r) m → ArePieces 44 (ReadsRelative bound) relative_printed (relatives n) (relatives m)
  name_pieces [] [] h v = tt
  name_pieces (r ∷ n) (s ∷ m) h v =
      let valid = valid_moved (type_and_value bound) (λ a. a) s (map as_read r) (IsPermutation-sym (map as_read r) s h.1) (members_valid bound s v.0) in
      let c = calm 44 (eqb-false 44 92 refl) (relative_printed (attributes r)) (relative_calm r valid) in
      ((relative_back r s h.0 h.1 v.0, c.0, c.1), name_pieces n m h.2 v.1)
  name_pieces n m h v = absurd h

  name_read : (n m : PlainName) → IsReadBack n m → IsValid (name bound) m → ReadsName bound (name_printed (relatives n)) (Ok (relatives m))
  name_read [] [] h v = ReadsName.empty refl
  name_read (r ∷ n) (s ∷ m) h v =
      let turned = reverse (relatives (r ∷ n)) in
      let others = reverse (relatives (s ∷ m)) in
      let long : 0 < length turned = omega (arith, length-reverse (relatives (r ∷ n))) in
      let some = joined_some 44 relative_printed turned long (all_turned (λ (x : List AttributeTypeAndValue). 0 < length (relative_printed x)) (relatives (r ∷ n)) (all_some (r ∷ n) (s ∷ m) h)) in
      let pieces = pieces_turned 44 (ReadsRelative bound) relative_printed (relatives (r ∷ n)) (relatives (s ∷ m)) (name_pieces (r ∷ n) (s ∷ m) h (relatives_valid bound (s ∷ m) v)) in
      let read = ReadsName.pieces others (λ e. omega (arith, some, ap length e)) (all_read 44 (ReadsRelative bound) relative_printed turned others long pieces) in
      subst (λ (x : List (List AttributeTypeAndValue)). ReadsName bound (name_printed (relatives (r ∷ n))) (Ok x)) (reverse-reverse (relatives (s ∷ m))) read
  name_read n m h v = absurd h

pub name_back : (bound : ℕ) (n m : PlainName) → 40 ≤ bound → IsValid (name bound) m → IsReadBack n m → SpellsName bound (name_text n) m
unfolding name_text
name_back bound n m root v h = (relatives m, name_read bound root n m h v, relatives_plain m)

-- If each attribute is as the parser builds it, a name parses to itself.

attributes_same : (r : RelativeName) → AllByRecursion (λ a. as_read a ≡ a) r → map as_read r ≡ r
attributes_same [] h = refl
attributes_same (a ∷ r) h = λ i. h.0 i ∷ attributes_same r h.1 i

itself : (n : PlainName) → IsAsRead n → IsReadBack n n
itself [] h = tt
itself (r ∷ n) h = (h.0.0, subst (λ (x : RelativeName). IsPermutation x r) (sym (attributes_same r h.0.1)) (IsPermutation-refl r), itself n h.1)

pub name_itself : (bound : ℕ) (n : PlainName) → 40 ≤ bound → IsValid (name bound) n → IsAsRead n → SpellsName bound (name_text n) n
name_itself bound n root v h = name_back bound n n root v (itself n h)

pub one_text : (bound : ℕ) (n m : PlainName) → 40 ≤ bound → IsValid (name bound) n → IsValid (name bound) m → IsAsRead n → IsAsRead m → name_text n ≡ name_text m → n ≡ m
one_text bound n m root v w h k e =
    one_spelled bound (name_text n) n m (name_itself bound n root v h) (subst (λ (x : List ℕ). SpellsName bound x m) (sym e) (name_itself bound m root w k))
