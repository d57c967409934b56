-- Goals of `extensions::wd_extension` that the checker doesn't prove by itself.
use Rattle.std.proofs.Common.{Option, inl, is_some, sym, ap, ◌∙◌}
use Rattle.cert_tool_describe.specs.CertCertificates.Certificates.{extensions_of}
use Rattle.cert_tool_describe.specs.CertCertificates.Views.{certificate_plain}
use Rattle.cert_tool_describe.specs.CertParts.Grammar.{PlainExtension}
use Rattle.cert_desk_c.specs.Values.{first_extension}
use Rattle.cert_desk_c.proofs.Extended.{extended, no_certificate, no_identifier, unextended}
use Rattle.cert_desk_c.proofs.ExtensionPlaces.{is_found, is_absent}
use Rattle.cert_desk_c.proofs.extensions.wd_extension.Goals as goal

pub returns-in_default-clause-statuses : goal.returns-in_default-clause-statuses
returns-in_default-clause-statuses c =
    inl (no_identifier c.args.octets.now c.args.identifier.now c.code.result c.code.ensures (λ arcs h. (let clash = sym (c.from_bytes.ensures.spelled arcs h.2 h.0 h.1) ∙ c.in_default.is in absurd cc)))

pub returns-in-Err-clause-statuses : goal.returns-in-Err-clause-statuses
returns-in-Err-clause-statuses c =
    no_certificate c.args.octets.now c.args.identifier.now c.in-Ok.identifier c.in-Ok.ensures.ok c.in-Err.status c.code-in-Err.result c.code-in-Err.ensures c.in-Err.ensures.refused

pub returns-clause-done : goal.returns-clause-done
returns-clause-done c = λ done.
    let it = certificate_plain c.in-Ok-certificate_of.certificate in
    let f = is_found c.args.octets.now (first_extension c.in-Ok.identifier (extensions_of it)) (c.in-Some.content, c.in-Some.is_critical) (c.in-Some.ensures c.in-Ok-certificate_of.ensures.spelled) in
    (c.in-Ok.identifier, c.in-Ok.ensures.ok, (it, c.in-Ok-certificate_of.ensures.spelled, f))

pub returns-clause-statuses : goal.returns-clause-statuses
returns-clause-statuses c =
    let it = certificate_plain c.in-Ok-certificate_of.certificate in
    let f = is_found c.args.octets.now (first_extension c.in-Ok.identifier (extensions_of it)) (c.in-Some.content, c.in-Some.is_critical) (c.in-Some.ensures c.in-Ok-certificate_of.ensures.spelled) in
    inl (extended c.args.octets.now c.args.identifier.now c.in-Ok.identifier c.in-Ok.ensures.ok it c.in-Ok-certificate_of.ensures.spelled c.code-2.result c.code-2.ensures (ap (λ (o : Option PlainExtension). is_some o) f.1))

pub returns-in_default-extension_of-clause-absent : goal.returns-in_default-extension_of-clause-absent
returns-in_default-extension_of-clause-absent c = λ absent.
    let it = certificate_plain c.in-Ok-certificate_of.certificate in
    let none = is_absent c.args.octets.now (first_extension c.in-Ok.identifier (extensions_of it)) (c.in_default-extension_of.ensures c.in-Ok-certificate_of.ensures.spelled) in
    (c.in-Ok.identifier, c.in-Ok.ensures.ok, (it, c.in-Ok-certificate_of.ensures.spelled, none))

pub returns-in_default-extension_of-clause-statuses : goal.returns-in_default-extension_of-clause-statuses
returns-in_default-extension_of-clause-statuses c =
    let it = certificate_plain c.in-Ok-certificate_of.certificate in
    let none = is_absent c.args.octets.now (first_extension c.in-Ok.identifier (extensions_of it)) (c.in_default-extension_of.ensures c.in-Ok-certificate_of.ensures.spelled) in
    inl (unextended c.args.octets.now c.args.identifier.now c.in-Ok.identifier c.in-Ok.ensures.ok it c.in-Ok-certificate_of.ensures.spelled c.code-in_default-extension_of.result c.code-in_default-extension_of.ensures
    (ap (λ (o : Option PlainExtension). is_some o) none))
