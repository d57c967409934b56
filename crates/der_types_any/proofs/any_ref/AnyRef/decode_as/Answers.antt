-- Goals of `any_ref::AnyRef::decode_as` that the checker doesn't prove by itself.
use Rattle.der_types_any.specs.Anys.{any_lent}
use Rattle.std.proofs.Common.{◌≡◌, ℕ, List, [], length, Bool, true, false, Result, Ok, Err, refl, sym, ap, ◌∙◌, arith, IfOk, le-ltb}
use Rattle.der_types_text.specs.Der.Limits.{length_max, levels_max}
use Rattle.der_types_text.specs.Der.ErrorTypes.Error.{Error}
use Rattle.der_types_text.specs.Der.ErrorTypes.ErrorKind.{ErrorKind}
use Rattle.der_types_text.specs.Der.TagTypes.Tag.{Tag}
use Rattle.der_types_text.specs.Der.Octets.{◌>>=◌}
use Rattle.der_types_text.specs.Der.Tags.{IsTag, same_tag}
use Rattle.der_types_text.specs.Der.Heads.{tlv, Fits}
use Rattle.der_types_text.specs.Der.Shapes.{AnyValue, Content, ContentValue, tagged, any, IsValid, octets_of, Spells}
use Rattle.der_types_text.specs.Der.Spelling.{is_apart, are_enough}
use Rattle.der_types_text.specs.Der.Grammar.{read, read_content, whole, read_whole, value_at, tlv_at, kept}
use Rattle.der_types_text.specs.Der.Reading.{Gives}
use Rattle.der_types_text.specs.Der.Fronts.{alone}
use Rattle.der_types_text.proofs.Der.HeadLaws.{fits_contents, head_again}
use Rattle.der_types_text.proofs.Der.TagLaws.{same_tags}
use Rattle.der_types_text.proofs.Der.OneEncoding.{bytes_are, octets_below, is_spelled, is_read}
use Rattle.der_types_any.specs.Contents.{content_as, content_by}
use Rattle.der_types_any.proofs.AnyLaws.{value_whole}
use Rattle.der_types_any.proofs.any_ref.AnyRef.decode_as.Goals as goal

-- Decoding the content gives what decoding the encoding gives.
end_alone : {P : Type 0} (o : Result (P × List ℕ) ErrorKind) → (o >>= λ x. kept [] x.0) ≡ (alone o >>= kept [])
end_alone (Ok x) = refl
end_alone (Err e) = refl

end_whole : {P : Type 0} (o : Result P ErrorKind) → ((o >>= kept []) >>= whole) ≡ (o >>= kept [])
end_whole (Ok x) = refl
end_whole (Err e) = refl

tlv_read : (t : Tag) (c : Content) (a : AnyValue) → IsTag a.tag → Fits a.contents → read (tagged t c) 64 (tlv a.tag a.contents) ≡ (content_as t c a >>= kept [])
unfolding tlv tlv_at content_by
tlv_read t c a tag few = by (same_tag a.tag t) refl
  where
    by : (b : Bool) → same_tag a.tag t ≡ b → read (tagged t c) 64 (tlv a.tag a.contents) ≡ (content_as t c a >>= kept [])
    by false e = rw (head_again a.tag (length a.contents) a.contents tag few, e) refl
    by true e =
        let same : t ≡ a.tag = sym (same_tags a.tag t e) in
        rw (head_again a.tag (length a.contents) a.contents tag few, e)
        (ap (λ (u : Tag). value_at (read_content c u 64) (length a.contents) a.contents) same
        ∙ value_whole (read_content c a.tag 64) a.contents ∙ end_alone (read_content c a.tag 64 a.contents >>= whole))

whole_read : (t : Tag) (c : Content) (a : AnyValue) → IsValid any a → read_whole (tagged t c) (octets_of any a) ≡ (content_as t c a >>= kept [])
unfolding read_whole octets_of IsValid
whole_read t c a h =
    rw (le-ltb length_max (length (tlv a.tag a.contents)) (omega (arith, h.2)), tlv_read t c a h.1 (fits_contents a.tag a.contents h.2)) (end_whole (content_as t c a))

gives_whole : {T : Type 0} (t : Tag) (c : Content) (plain : T → ContentValue c) (a : AnyValue) (r : Result T Error) → IsValid any a → Gives plain r (content_as t c a) → Gives (λ v. (plain v, [])) r (read_whole (tagged t c) (octets_of any a))
gives_whole t c plain a (Ok v) h e = whole_read t c a h ∙ ap (λ o. o >>= kept []) e
gives_whole t c plain a (Err k) h e = λ memory. whole_read t c a h ∙ ap (λ o. o >>= kept []) (e memory)

as_spelled : {T : Type 0} (t : Tag) (c : Content) (plain : T → ContentValue c) (a : AnyValue) (r : Result T Error) → IsValid any a → is_apart (tagged t c) ≡ true
    → Gives plain r (content_as t c a) → IfOk r (λ v. Spells (tagged t c) (plain v) (octets_of any a))
as_spelled t c plain a r h apart e = is_spelled (tagged t c) plain (octets_of any a) r apart (bytes_are (octets_of any a) (octets_below any a h)) (gives_whole t c plain a r h e)

as_only : {T : Type 0} (t : Tag) (c : Content) (plain : T → ContentValue c) (a : AnyValue) (r : Result T Error) (v : ContentValue c) → IsValid any a → is_apart (tagged t c) ≡ true → are_enough (tagged t c) levels_max ≡ true
    → Spells (tagged t c) v (octets_of any a) → Gives plain r (content_as t c a) → Gives plain r (Ok v)
as_only t c plain a r v h apart enough spells e = is_read (tagged t c) plain v (octets_of any a) r apart enough spells (gives_whole t c plain a r h e)

pub returns-clause-spelled : goal.returns-clause-spelled
returns-clause-spelled g c = λ valid apart. as_spelled g.T.FixedTag.fixed_tag g.T.ShapedValue.content g.T.ShapedValue.value_plain (any_lent c.args.self.now) c.decode_as_encoding.result valid apart c.decode_as_encoding.ensures

pub returns-clause-only : goal.returns-clause-only
returns-clause-only g c = λ v valid apart enough spells. as_only g.T.FixedTag.fixed_tag g.T.ShapedValue.content g.T.ShapedValue.value_plain (any_lent c.args.self.now) c.decode_as_encoding.result v valid apart enough spells c.decode_as_encoding.ensures
