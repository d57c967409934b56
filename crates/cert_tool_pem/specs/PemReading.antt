-- The abstract state while blocks are decoded.
use Rattle.std.specs.Prelude.{◌≡◌, ℕ, map, option_map, Result, Err}
use Rattle.cert_tool_pem.specs.declared.blocks.Reading.{Reading}
use Rattle.cert_tool_pem.specs.declared.pem_error.PemError.{PemError}
use Rattle.cert_tool_pem.specs.declared.pem_error.PemError.TheVariants as errors
use Rattle.cert_tool_pem.specs.declared.pem_fault.PemFault.{PemFault}
use Rattle.cert_tool_pem.specs.Pem.{PlainReading}

-- The abstract value of `Reading`.
abbrev pub reading_plain : Reading → PlainReading
reading_plain r = record {
  values = map (λ value. value.items) r.values.items;
  label = option_map (λ label. label.now) r.label;
  start = r.start;
  text = r.text.items;
}

-- The definition fails with the same error as the code, unless memory ran out.
abbrev pub FailsBy : {A : Type 0} → Result A (ℕ × PemFault) → PemError → Type 0
FailsBy read (errors.Line number fault) = read ≡ Err (number, fault)
FailsBy read errors.OutOfMemory = Unit {0}
