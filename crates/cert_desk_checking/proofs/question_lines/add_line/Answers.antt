-- Goals of `question_lines::add_line` that the checker doesn't prove by itself.
use Rattle.std.proofs.Common.{◌++◌, string_bytes, ap, ◌∙◌}
use Rattle.x509_cert_anchors.specs.Oid.Bound.{Bound}
use Rattle.x509_cert_anchors.specs.CertParts.Grammar.{algorithm_identifier, bit_string}
use Rattle.x509_cert_anchors.specs.CertParts.Views.{key_plain}
use Rattle.cert_desk_checking.specs.QuestionLines.{hex_encoding}
use Rattle.cert_desk_checking.specs.Questioning.{entry_question}
use Rattle.cert_desk_checking.proofs.QuestionLaws.{line_is}
use Rattle.cert_desk_checking.proofs.question_lines.add_line.Goals as goal

pub returns : goal.returns
returns c =
    c.in_ok-writeln.ensures.bytes
    ∙ ap (λ w. string_bytes c.args.text.now ++ w)
    (line_is c.args.place c.args.anchor (entry_question c.args.entry.now (key_plain c.args.key.now)) _ _ _ _ _ c.in_ok-anchor.ensures c.in_ok-key.ensures
    (c.in_ok-algorithm.ensures ∙ ap (hex_encoding (algorithm_identifier Bound)) c.signature_algorithm.ensures) c.in_ok-signed.ensures
    (c.in_ok-bits.ensures ∙ ap (hex_encoding bit_string) c.signature.ensures))
