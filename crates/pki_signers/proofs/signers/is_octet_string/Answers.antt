-- Goals of `signers::is_octet_string`: the header is that of the content, or it isn't.
use Rattle.std.proofs.Common.{ap, bytes_eq, ◌∙◌}
use Rattle.std.proofs.lemmas.List.{take_rest}
use Rattle.pki_signers.proofs.KeyIdentifiers.{no_header, other_header, same_header}
use Rattle.pki_signers.proofs.signers.is_octet_string.Goals as goal

pub returns-in_default : goal.returns-in_default
returns-in_default c = no_header c.args.octets.now c.args.content.now _ c.requires c.in_default.ensures.exact

pub returns-in_default-tag : goal.returns-in_default-tag
returns-in_default-tag c = other_header c.args.octets.now c.args.content.now _ _ _ c.requires c.in-Ok.ensures.exact.0 (λ t n. c.in_default-tag.not-OctetString t)

pub returns-then-header-content : goal.returns-then-header-content
returns-then-header-content c = other_header c.args.octets.now c.args.content.now _ _ _ c.requires c.in-Ok.ensures.exact.0 (λ t n. c.if-header-content.true n)

pub returns : goal.returns
returns c =
    c.eq.ensures ∙ ap (λ x. bytes_eq x c.args.content.now) (take_rest c.args.octets.now c.in-Ok.start)
    ∙ same_header c.args.octets.now c.args.content.now _ _ _ c.requires c.in-OctetString.is c.if-header-content.false c.in-Ok.ensures.spelled.1 c.in-Ok.ensures.exact.0
