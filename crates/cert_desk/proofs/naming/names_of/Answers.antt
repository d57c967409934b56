-- Goals of `naming::names_of` that the checker doesn't prove by itself.
use Rattle.std.proofs.Common.{◌≡◌, ℕ, zero, suc, List, [], ◌∷◌, length, false, Result, Some, Ok, Err, refl, arith, slice_get, string_bytes, sym, ap, ◌∙◌, subst}
use Rattle.std.proofs.lemmas.Bool.{le-ltb}
use Rattle.std.proofs.lemmas.Option.{same_Some, slice_get_read}
use Rattle.std.proofs.lemmas.Result.{err_from_is_err_and}
use Rattle.std.specs.List.{AllByRecursion}
use Rattle.std.specs.Prelude.{nat_lt, if◌then◌else◌}
use Rattle.cert_desk_listing.specs.Oid.Bound.{Bound}
use Rattle.cert_desk_listing.proofs.Der.HeadLaws.{fits_contents}
use Rattle.cert_desk_listing.specs.Der.Grammar.{plain_list}
use Rattle.cert_desk_listing.specs.Der.Heads.{Fits}
use Rattle.cert_desk_listing.specs.Der.Limits.{length_max}
use Rattle.cert_desk_listing.specs.Der.Shapes.{IsBody, IsContent, IsValid, contents}
use Rattle.cert_desk_listing.specs.Der.Tags.{context}
use Rattle.cert_desk_listing.specs.Der.Texts.{ascii, text_read}
use Rattle.cert_desk_listing.specs.Der.ErrorTypes.Error.{Error}
use Rattle.cert_desk_listing.specs.Der.ErrorTypes.ErrorKind.{ErrorKind}
use Rattle.cert_desk_listing.specs.Der.ErrorTypes.ErrorKind.TheVariants.{OutOfMemory}
use Rattle.cert_desk_checking.specs.CertGeneralNames.GeneralNames.{general_name, general_names}
use Rattle.cert_desk.specs.Ordered.{dns_name, dns_names}
use Rattle.cert_desk.proofs.AcceptedFronts.{plain_at}
use Rattle.cert_desk_listing.proofs.Der.Results.{only_memory}
use Rattle.cert_desk_listing.specs.Der.ErrorTypes.ErrorKind.TheVariants as kinds
use Rattle.cert_desk_listing.specs.Der.TagTypes.Tag.TheVariants as tags
use Rattle.cert_desk.proofs.naming.names_of.Goals as goal

-- DNS names that have an encoding can be decoded as names.

-- The result of decoding the bytes as ASCII text, if their length fits.
abbrev read_within : List ℕ → Result (List ℕ) ErrorKind
read_within w = if nat_lt length_max (length w) then Err kinds.Overflow else text_read ascii tags.Ia5String w

text_valid : (text : List ℕ) → IsValid (general_name Bound) (dns_name text) → read_within text ≡ Ok text
unfolding IsValid IsContent contents text_read
text_valid text v =
    let fits : Fits text = fits_contents (context false 2) text v.2 in
    rw (le-ltb length_max (length text) (omega (arith, fits)), v.0.within) refl

valid_at : (texts : List (List ℕ)) (i : ℕ) (text : List ℕ) → slice_get texts i ≡ Some text → AllByRecursion (λ n. IsValid (general_name Bound) n) (dns_names texts) → IsValid (general_name Bound) (dns_name text)
valid_at [] i text e h = absurd cc
valid_at (t ∷ more) zero text e h = rw (← same_Some t text e) h.0
valid_at (t ∷ more) (suc i) text e h = valid_at more i text e h.1

name_read : (texts : List (List ℕ)) (i : ℕ) (text : List ℕ) → slice_get texts i ≡ Some text → IsValid (general_names Bound) (dns_names texts) → read_within text ≡ Ok text
unfolding IsValid IsContent IsBody
name_read texts i text e v = text_valid text (valid_at texts i text e v.0)

pub returns-in_err-name-clause-refused : goal.returns-in_err-name-clause-refused
returns-in_err-name-clause-refused c = λ valid.
    let texts = c.args.texts.now in
    let here = slice_get_read texts (length texts) c.loop-text.text-index c.text-item.result refl c.loop-text-test.true c.text-item.is in
    let read = name_read (plain_list string_bytes texts) c.loop-text.text-index (string_bytes c.text-item.result) (plain_at string_bytes texts c.loop-text.text-index c.text-item.result here) valid in
    let kind = c.in_err-name.field-0.0.kind in
    let given = only_memory kind (string_bytes c.text-item.result) (read_within c.as_bytes.result.now) (ap read_within c.as_bytes.ensures.value ∙ read) c.in_err-name.ensures.exact in
    let p = err_from_is_err_and c.from_residual.result c.from_residual.ensures.1 in
    rw p.1 (subst (λ (e : Error). e.kind ≡ OutOfMemory) (sym p.2) given)
