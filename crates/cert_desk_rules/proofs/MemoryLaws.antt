-- Laws about extensions whose check may allocate.
use Rattle.std.proofs.Common.{◌≡◌, ℕ, ◌<◌, List, [], ◌∷◌, Bool, true, false, ◌||◌, Some, Result, Ok, Err, OnErr, length, get_or, slice_get, refl, sym, ap, ◌∙◌, arith}
use Rattle.std.proofs.lemmas.List.Folds.{list_any_at}
use Rattle.std.specs.Option.{option_map_or}
use Rattle.std.proofs.lemmas.Bool.{or_left}
use Rattle.cert_desk_bundle.specs.Der.Grammar.{plain_list}
use Rattle.cert_desk_bundle.specs.CertCertificates.Certificates.{PlainCertificate, extensions_of}
use Rattle.cert_desk_bundle.specs.CertParts.Grammar.{PlainExtension}
use Rattle.cert_desk_rules.specs.Paths.{extensions_at}
use Rattle.cert_desk_rules.specs.Reasons.{SomeMayTakeMemory}
use Rattle.cert_desk_rules.specs.Weighing.{is_ce, may_take_memory}
use Rattle.cert_desk_rules.proofs.ExtensionLaws.{any_of_list}

-- The value of the extension is a list.
abbrev has_list : PlainExtension → Bool
has_list e = is_ce 17 e || is_ce 37 e

first_of : (b : Bool) → ((b || false) || false) ≡ true → b ≡ true
first_of true h = refl
first_of false h = h

-- One of the extensions has a list.
pub one_takes : {A : Type 0} (plain : A → PlainExtension) (xs : List A) (i : ℕ) (x : A) → i < length xs → x ≡ get_or xs i x → has_list (plain x) ≡ true → may_take_memory (plain_list plain xs) ≡ true
one_takes plain xs i x lt is h =
    or_left _ _ (sym (any_of_list plain has_list xs) ∙ list_any_at (λ y. has_list (plain y)) xs i x lt (ap (λ y. has_list (plain y)) (sym is) ∙ h))

-- A single extension.
pub alone_takes : (e : PlainExtension) → may_take_memory (e ∷ []) ≡ true → has_list e ≡ true
alone_takes e h = first_of _ h

-- The extensions of the certificate at an index.
pub takes_at : (cs : List PlainCertificate) (place : ℕ) (c : PlainCertificate) (es : List PlainExtension) → slice_get cs place ≡ Some c → es ≡ extensions_of c
    → may_take_memory es ≡ true → may_take_memory (extensions_at cs place) ≡ true
takes_at cs place c es at is h = ap (λ o. may_take_memory (option_map_or extensions_of o [])) at ∙ ap may_take_memory (sym is) ∙ h

pub wanted_at : {T E : Type 0} (r : Result T E) (cs : List PlainCertificate) (place : ℕ) (c : PlainCertificate) (es : List PlainExtension) → slice_get cs place ≡ Some c
    → es ≡ extensions_of c → OnErr r (may_take_memory es ≡ true) → OnErr r (SomeMayTakeMemory cs place)
wanted_at (Ok x) cs place c es at is h = tt
wanted_at (Err e) cs place c es at is h = (place, omega arith, takes_at cs place c es at is h)
