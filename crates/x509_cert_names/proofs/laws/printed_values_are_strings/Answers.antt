-- Goals of `laws::printed_values_are_strings` that the checker doesn't prove by itself.
use Rattle.std.proofs.Common.{chars}
use Rattle.x509_cert_name_texts.proofs.EscapeSteps.{stands_for_one}
use Rattle.x509_cert_name_texts.proofs.PrintSteps.{printed_string, stands_text}
use Rattle.x509_cert_names.proofs.laws.printed_values_are_strings.Goals as goal

pub returns : goal.returns
returns c = record { one = stands_for_one; stands = stands_text; string = λ w. printed_string (chars w) }
