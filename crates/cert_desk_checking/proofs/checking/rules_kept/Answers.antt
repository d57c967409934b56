-- Goals of `checking::rules_kept` that the checker doesn't prove by itself.
use Rattle.std.proofs.Common.{◌≡◌, ℕ, ◌+◌, ◌<◌, ◌&&◌, ◌||◌, not, List, refl, subst, sym, ◌∙◌, ap, arith}
use Rattle.std.specs.Option.{is_some}
use Rattle.x509_cert_anchors.specs.Oid.Bound.{Bound}
use Rattle.x509_cert_anchors.specs.CertParts.Grammar.{PlainExtension}
use Rattle.x509_cert_anchors.specs.CertCertificates.Certificates.{PlainCertificate}
use Rattle.x509_cert_anchors.specs.CertCertificates.Views.{certificate_plain}
use Rattle.cert_desk_rules.specs.declared.kept_rules.KeptRules.{KeptRules}
use Rattle.cert_desk_rules.specs.declared.rule.Rule.{Rule}
use Rattle.cert_desk_rules.specs.declared.rule.Rule.TheVariants as rules
use Rattle.cert_desk_checking.specs.Anchors.{terms_of}
use Rattle.cert_desk_rules.specs.Findings.{IsRoom, add_place, found}
use Rattle.cert_desk_rules.specs.Judging.{Terms, are_distinct, keeps_at, number}
use Rattle.cert_desk_rules.specs.KeptRules.{kept_by}
use Rattle.cert_desk_rules.specs.Paths.{counts, is_self_issued, is_within}
use Rattle.cert_desk_rules.specs.Weighing.{may_take_memory}
use Rattle.cert_desk_rules.proofs.Folds.{not_twice}
use Rattle.cert_desk_checking.proofs.KeptLaws.{counts-is, keeps_issuing, keeps_known, keeps_serving, keeps_well_formed, keeps_within}
use Rattle.cert_desk_rules.proofs.DeskIo.Given.{OnErr-by}
use Rattle.cert_desk_rules.proofs.PathLaws.{IsRoom-more, add_place_any, admits_any}
use Rattle.cert_desk_checking.proofs.PlaceLaws.{keeps_at-is, linked_at}
use Rattle.cert_desk_checking.proofs.checking.rules_kept.Goals as goal

-- The results agree with the rules. A new rule adds a line.
tests_say : (k : KeptRules) (t : Terms) (cs : List PlainCertificate) (stream : List ℕ) (place : ℕ)
    → k.one_algorithm ≡ keeps_at rules.AlgorithmsDiffer t cs stream place → k.distinct ≡ keeps_at rules.DuplicateExtension t cs stream place
    → k.well_formed ≡ keeps_at rules.MalformedExtension t cs stream place → k.known ≡ keeps_at rules.UnweighedCritical t cs stream place
    → k.linked ≡ keeps_at rules.WrongIssuer t cs stream place → k.begun ≡ keeps_at rules.NotYetValid t cs stream place
    → k.lasting ≡ keeps_at rules.Expired t cs stream place → k.serving ≡ keeps_at rules.AgainstPurpose t cs stream place
    → k.issuing ≡ keeps_at rules.NotAuthority t cs stream place → k.within_lengths ≡ keeps_at rules.PathTooLong t cs stream place
    → (rule : Rule) → number rule < number rules.WrongSignature → kept_by k rule ≡ keeps_at rule t cs stream place
tests_say k t cs stream place one two three four five six seven eight nine ten rules.AlgorithmsDiffer before = one
tests_say k t cs stream place one two three four five six seven eight nine ten rules.DuplicateExtension before = two
tests_say k t cs stream place one two three four five six seven eight nine ten rules.MalformedExtension before = three
tests_say k t cs stream place one two three four five six seven eight nine ten rules.UnweighedCritical before = four
tests_say k t cs stream place one two three four five six seven eight nine ten rules.WrongIssuer before = five
tests_say k t cs stream place one two three four five six seven eight nine ten rules.NotYetValid before = six
tests_say k t cs stream place one two three four five six seven eight nine ten rules.Expired before = seven
tests_say k t cs stream place one two three four five six seven eight nine ten rules.AgainstPurpose before = eight
tests_say k t cs stream place one two three four five six seven eight nine ten rules.NotAuthority before = nine
tests_say k t cs stream place one two three four five six seven eight nine ten rules.PathTooLong before = ten
tests_say k t cs stream place one two three four five six seven eight nine ten rules.WrongSignature before = absurd (omega (arith, before))

pub returns-clause-judged : goal.returns-clause-judged
returns-clause-judged c = λ cs anchors place answers stream at.
    let t = terms_of anchors c.args.moment c.args.purpose.now answers in
    let this = certificate_plain c.args.certificate.now in
    let gathered = c.in_ok-findings.ensures.found ∙ ap (λ (es : List PlainExtension). found Bound c.args.purpose.now es) c.extensions_of-extensions.ensures in
    let below = c.args.room.now.below in
    let known = ap (λ b. not b && not (is_self_issued Bound this)) at.last_is ∙ sym (counts-is Bound cs place this at.certificate) in
    let takes = c.takes_room-counts.ensures ∙ ap (λ b. is_some below && b) known in
    tests_say _ t cs stream place
    (c.has_one_algorithm.ensures ∙ sym (keeps_at-is rules.AlgorithmsDiffer t cs stream place this at.certificate))
    (not_twice c.is_none.result ∙ ap not (sym c.is_none.ensures) ∙ c.in_ok-twin.ensures.distinct ∙ ap are_distinct c.extensions_of-extensions.ensures ∙ sym (keeps_at-is rules.DuplicateExtension t cs stream place this at.certificate))
    (keeps_well_formed t cs stream place this at.certificate _ gathered)
    (keeps_known t cs stream place this at.certificate _ gathered)
    (c.is_linked.ensures ∙ linked_at anchors c.args.moment c.args.purpose.now answers cs stream this place c.args.issuer.now at.issuer at.certificate)
    (c.has_begun.ensures ∙ sym (keeps_at-is rules.NotYetValid t cs stream place this at.certificate))
    (c.lasts.ensures ∙ sym (keeps_at-is rules.Expired t cs stream place this at.certificate))
    (keeps_serving t cs stream place this at.certificate _ gathered)
    (c.may_issue.ensures ∙ ap (λ b. b || (c.in_ok-findings.findings.ca && c.in_ok-findings.findings.certifies)) at.last_is ∙ keeps_issuing t cs stream place this at.certificate _ gathered)
    (c.admits.ensures ∙ ap (λ b. not b || is_within 2 below) takes ∙ admits_any below (counts Bound cs place)
    ∙ keeps_within t cs stream place this at.certificate _ gathered c.args.room.now (counts Bound cs place) refl at.room)

pub returns-clause-room : goal.returns-clause-room
returns-clause-room c = λ cs anchors place at.
    let this = certificate_plain c.args.certificate.now in
    let gathered = c.in_ok-findings.ensures.found ∙ ap (λ (es : List PlainExtension). found Bound c.args.purpose.now es) c.extensions_of-extensions.ensures in
    let known = ap (λ b. not b && not (is_self_issued Bound this)) at.last_is ∙ sym (counts-is Bound cs place this at.certificate) in
    let takes = c.takes_room-counts.ensures ∙ ap (λ b. is_some c.args.room.now.below && b) known in
    let behind = c.add.ensures ∙ ap (λ b. add_place c.args.room.now b c.in_ok-findings.findings.path_len) takes ∙ add_place_any c.args.room.now (counts Bound cs place) c.in_ok-findings.findings.path_len in
    subst (λ r. IsRoom Bound cs (place + 1) r) (sym behind)
    (IsRoom-more Bound c.args.purpose.now cs place this c.args.room.now (counts Bound cs place) c.in_ok-findings.findings.path_len at.certificate refl at.room (ap (λ f. f.path_len) gathered))

pub returns-in_err-findings-clause-memory : goal.returns-in_err-findings-clause-memory
returns-in_err-findings-clause-memory c = OnErr-by _ _ (ap may_take_memory (sym c.extensions_of-extensions.ensures) ∙ c.in_err-findings.ensures.memory)

pub returns-in_err-twin-clause-memory : goal.returns-in_err-twin-clause-memory
returns-in_err-twin-clause-memory c = OnErr-by _ _ (ap may_take_memory (sym c.extensions_of-extensions.ensures) ∙ c.in_err-twin.ensures.memory)
