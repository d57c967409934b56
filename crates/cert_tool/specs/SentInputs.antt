-- The inputs of a request.
use Rattle.std.specs.Prelude.{◌≡◌, ◌≢◌, ℕ, ◌<◌, ◌^◌, List, ◌++◌, length}
use Rattle.cert_tool_explain.specs.DeskIo.declared.named_inputs.OpenError.{OpenError}
use Rattle.cert_tool_explain.specs.DeskIo.declared.named_inputs.OpenError.TheVariants as errors
use Rattle.cert_tool_explain.specs.DeskIo.Frames.{frame}

-- The request's frames are names and contents, in turn, each with fewer than 2^32 bytes. The first
-- frame that is this name is followed by this content.
pub data IsInputOf (name octets : List ℕ) : List ℕ → Type 0 where
  here : (parts rest : List ℕ) → length name < 2 ^ 32 → length octets < 2 ^ 32
      → parts ≡ frame name ++ (frame octets ++ rest) → IsInputOf name octets parts
  after : (parts other more rest : List ℕ) → other ≢ name → length other < 2 ^ 32
      → length more < 2 ^ 32 → parts ≡ frame other ++ (frame more ++ rest)
      → IsInputOf name octets rest → IsInputOf name octets parts

-- No input of the request has this name.
abbrev pub HasNoInput : List ℕ → List ℕ → OpenError → Type 0
HasNoInput name parts errors.Device = (octets : List ℕ) → IsInputOf name octets parts → ⊥
HasNoInput name parts errors.OutOfMemory = ⊥
