-- The messages for the errors of a line of answers.
use Rattle.std.specs.Prelude.{ℕ, List, codes}
use Rattle.cert_desk_answers.specs.declared.line_fault.LineFault.{LineFault}
use Rattle.cert_desk_answers.specs.declared.line_fault.LineFault.TheVariants as faults

-- The message for each error.
abbrev pub line_fault_text : LineFault → List ℕ
line_fault_text faults.NotSixWords = codes "not six words with one blank between them"
line_fault_text faults.NoPlace = codes "PLACE isn't decimal digits"
line_fault_text faults.NoAnchor = codes "ANCHOR is neither decimal digits nor -"
line_fault_text faults.KeyNotBase16 = codes "KEY isn't in base 16"
line_fault_text faults.NoKey = codes "KEY is no SubjectPublicKeyInfo in DER"
line_fault_text faults.AlgorithmNotBase16 = codes "ALGORITHM isn't in base 16"
line_fault_text faults.NoAlgorithm = codes "ALGORITHM is no AlgorithmIdentifier in DER"
line_fault_text faults.SignedNotBase16 = codes "SIGNED isn't in base 16"
line_fault_text faults.BitsNotBase16 = codes "BITS isn't in base 16"
line_fault_text faults.NoBits = codes "BITS is no BIT STRING in DER"
