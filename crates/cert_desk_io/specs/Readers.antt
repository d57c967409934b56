-- Readers as inputs, as contracts see them.
use Rattle.std.specs.Prelude.{ℕ, List, Option, IsTrue}
use Rattle.std.specs.Io.KnownBytes.{IsAtEnd}
use Rattle.cert_desk_io.specs.declared.readers.FromRead.{FromRead}

-- The reader inside an input.
abbrev pub reader_of : {R : Type 0} → FromRead R → R
reader_of input = input.reader

-- The number of failed reads.
abbrev pub read_failures : {R : Type 0} → FromRead R → ℕ
read_failures input = input.failures

-- The last read met the end. If the reader's bytes are known, none is left.
abbrev pub HasEnded : {R : Type 0} → (R → Option (List ℕ)) → FromRead R → Type 0
HasEnded remaining input = IsTrue input.has_ended × IsAtEnd (remaining input.reader)
