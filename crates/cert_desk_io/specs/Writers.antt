-- Writers as outputs, as contracts see them.
use Rattle.std.specs.Prelude.{ℕ}
use Rattle.cert_desk_io.specs.declared.writers.ToWrite.{ToWrite}

-- The writer inside an output.
abbrev pub writer_of : {W : Type 0} → ToWrite W → W
writer_of output = output.writer

-- The number of failed writes.
abbrev pub write_failures : {W : Type 0} → ToWrite W → ℕ
write_failures output = output.failures
