-- Goals of `extensions_of::ExtensionsOfIterator::next` that the checker doesn't prove by itself.
use Rattle.std.proofs.Common.{rules}
use Rattle.x509_cert_parts.specs.Views.{extension_plain}
use Rattle.x509_cert_parts.proofs.extensions_of.ExtensionsOfIterator.next.Goals as goal

pub returns-in-Ok-clause-steps : goal.returns-in-Ok-clause-steps
returns-in-Ok-clause-steps g c = (extension_plain c.in-Some.extension.now, search rules, search rules)

pub returns-in-Err-clause-steps : goal.returns-in-Err-clause-steps
returns-in-Err-clause-steps g c = (extension_plain c.in-Some.extension.now, search rules, search rules)
