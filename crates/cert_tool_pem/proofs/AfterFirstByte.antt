-- A file whose first byte was read, followed by the remaining bytes.
use Rattle.std.proofs.Common.{◌≡◌, ℕ, List, [], ◌∷◌, ◌++◌, ◌∙◌, arith}
use Rattle.cert_desk_io.specs.Devices.{Fails, source}
use Rattle.cert_desk_io.specs.declared.read_all_error.ReadAllError.{ReadAllError}
use Rattle.cert_desk_io.specs.declared.read_all_error.ReadAllError.TheVariants as errors
use Rattle.cert_desk_io.specs.Whole.{IsUnread, IsWhole}
use Rattle.cert_tool_pem.specs.FileReading.{most_after_first}
use Rattle.cert_tool_pem.specs.DecodedFiles.{most_text}

module _ {State : Type 0} (takes : State → List ℕ → State → Type 0) (is_ended : State → Type 0) (failures : State → ℕ)
    (in_turn : (a b c : State) (first second : List ℕ) → takes a first b → takes b second c → takes a (first ++ second) c)
    (a b c : State) (first : ℕ) (moved : takes a (first ∷ []) b) (sound : failures b ≡ failures a) where
  pub whole_behind : (rest : List ℕ) → IsWhole (source takes is_ended failures b c) most_after_first rest → IsWhole (source takes is_ended failures a c) most_text (first ∷ rest)
  whole_behind rest is = (in_turn a b c (first ∷ []) rest moved is.0, omega (arith, is.1), is.2, is.3 ∙ sound)

  pub unread_behind : (error : ReadAllError) → IsUnread (source takes is_ended failures b c) most_after_first error → IsUnread (source takes is_ended failures a c) most_text error
  unread_behind errors.TooMuch is = (first ∷ is.0, in_turn a b c (first ∷ []) is.0 moved is.1, omega (arith, is.2), is.3 ∙ sound)
  unread_behind errors.Device is =
      let f : Fails (source takes is_ended failures b c) is.0 = is.2 in (
        first ∷ is.0,
        omega (arith, is.1),
        record {
          before = f.before;
          moved = in_turn a b f.before (first ∷ []) is.0 moved f.moved;
          sound = f.sound ∙ sound;
          stopped = f.stopped;
          not_ended = f.not_ended;
          once = f.once;
        },
      )
  unread_behind errors.OutOfMemory is = (first ∷ is.0, in_turn a b c (first ∷ []) is.0 moved is.1, omega (arith, is.2), is.3 ∙ sound)
