-- Goals of `reasons::twins_in` that the checker doesn't prove by itself.
use Rattle.std.proofs.Common.{◌≡◌, ◌<◌, ◌+◌, ◌-◌, ◌∙◌, ℕ, IfSome, true, false, not, length, drop, take, refl, subst, sym, ap}
use Rattle.std.proofs.lemmas.List.{take_rest}
use Rattle.std.specs.Option.{is_some}
use Rattle.x509_cert_anchors.specs.CertParts.Views.{extension_plain, extensions_plain}
use Rattle.cert_desk_rules.specs.Judging.{are_distinct, has_twin}
use Rattle.cert_desk_rules.specs.Reasons.{IsFirstAt, have_one_identifier}
use Rattle.cert_desk_rules.proofs.ExtensionLaws.{twin_at}
use Rattle.cert_desk_checking.proofs.ReasonLaws.{first-twins, is-some-by}
use Rattle.cert_desk_checking.proofs.reasons.twins_in.Goals as goal

pub unwrap-number-requires : goal.unwrap-number-requires
unwrap-number-requires c =
    let xs = c.args.extensions.now in
    let within = subst (λ o. IfSome o (λ place. place < length xs)) c.in-Some.is c.in_ok-first.ensures.within in
    let has = subst (λ o. IfSome o (λ place. has_twin (extensions_plain xs) place ≡ true)) c.in-Some.is c.in_ok-first.ensures.twin in
    is-some-by _ (c.twin_of.ensures.told ∙ sym (twin_at extension_plain xs c.in-Some.first c.index-extensions-first.result within c.index-extensions-first.is) ∙ has)

pub returns-clause-told : goal.returns-clause-told
returns-clause-told c =
    let distinct = subst (λ o. not (is_some o) ≡ are_distinct (extensions_plain c.args.extensions.now)) c.in-Some.is c.in_ok-first.ensures.distinct in
    ap not distinct

pub returns-clause-first : goal.returns-clause-first
returns-clause-first c =
    let xs = c.args.extensions.now in
    let first = c.in-Some.first in
    let x = c.index-extensions-first.result in
    let within = subst (λ o. IfSome o (λ place. place < length xs)) c.in-Some.is c.in_ok-first.ensures.within in
    let none = subst (λ o. IfSome o (λ place. (other : ℕ) → other < place → has_twin (extensions_plain xs) other ≡ false)) c.in-Some.is c.in_ok-first.ensures.first in
    let others = take (length xs - (first + 1)) (drop (first + 1) xs) in
    let told = subst (λ o. IfSome o (λ number. IsFirstAt (have_one_identifier (extension_plain x)) (extensions_plain others) number)) c.unwrap-number.ensures c.twin_of.ensures.first in
    let twin = subst (λ ys. IsFirstAt (have_one_identifier (extension_plain x)) (extensions_plain ys) c.unwrap-number.result) (take_rest xs (first + 1)) told in
    (first, first + 1 + c.unwrap-number.result, refl, first-twins extension_plain xs first c.unwrap-number.result x within c.index-extensions-first.is none twin)
