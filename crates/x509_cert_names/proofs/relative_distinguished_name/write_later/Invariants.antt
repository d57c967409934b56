-- The loop invariants of `relative_distinguished_name::write_later`.
use Rattle.std.specs.Prelude.{take, flat_map}
use Rattle.std.specs.Fmt.{HasWritten, IsPlainFormatter}
use Rattle.x509_cert_names.specs.NameTexts.{printed_behind}
use Rattle.x509_cert_names.specs.ValueTexts.{attribute_printed}
use Rattle.x509_cert_names.proofs.relative_distinguished_name.write_later.Given as goal

-- The attributes written so far.
abbrev pub invariant-loop-attribute : goal.invariant-loop-attribute
invariant-loop-attribute g l =
    IsPlainFormatter l.initial.f
    → HasWritten g.W.Write.write_str_gives l.initial.f (flat_map (printed_behind 43 attribute_printed) (take l.attribute-index l.attributes)) l.f
