-- The requests of `serve`, and their answers.
use Rattle.std.specs.Prelude.{◌≡◌, ℕ, ◌*◌, ◌<◌, ◌≤◌, ◌^◌, ◌==◌, ◌⊎◌, List, [], ◌∷◌, ◌++◌, length}
use Rattle.std.specs.Prelude.{codes}
use Rattle.std.specs.Prelude.{Bool, true, false, Some, None, IsUtf8}
use Rattle.std.specs.Global.{Vec}
use Rattle.std.specs.List.{slice_split}
use Rattle.cert_tool_explain.specs.DeskIo.declared.exit_status.ExitStatus.{ExitStatus}
use Rattle.cert_tool_explain.specs.DeskIo.declared.exit_status.ExitStatus.TheVariants as statuses
use Rattle.cert_tool_explain.specs.DeskIo.declared.writers.ToWrite.{ToWrite}
use Rattle.cert_tool_explain.specs.DeskIo.Devices.{Device, IsCut, IsWritten, Moved, Sound}
use Rattle.cert_tool_explain.specs.DeskIo.Devices.{Untouched, sink}
use Rattle.cert_tool_explain.specs.DeskIo.Memory.{HasEnded, octets_left, read_failures}
use Rattle.cert_tool_explain.specs.DeskIo.NamedInputs.{Inputs, inputs}
use Rattle.cert_tool_explain.specs.DeskIo.Telling.{IsComplaint, IsDeviceTold, IsMemoryTold}
use Rattle.cert_tool_explain.specs.DeskIo.Writers.{write_failures, writer_of}
use Rattle.cert_tool_explain.specs.DeskIo.declared.frame_error.FrameError.{FrameError}
use Rattle.cert_tool_explain.specs.DeskIo.declared.frame_error.FrameError.TheVariants as errors
use Rattle.cert_tool_explain.specs.DeskIo.Frames.{IsNext, IsUnread, frame}
use Rattle.cert_tool.specs.declared.status.Status.{Status}
use Rattle.cert_tool.specs.declared.status.Status.TheVariants as forms
use Rattle.cert_tool.specs.EarlyEnds.{IsWriteTried}
use Rattle.cert_tool.specs.Statuses.{status_code}
use Rattle.cert_tool.specs.SeveralFiles.{AreWordsRun}
use Rattle.cert_tool.specs.TaskRuns.{Clock}
use Rattle.cert_tool.specs.SentInputs.{HasNoInput, IsInputOf}

-- A request has at most 64 MiB.
abbrev pub request_limit : ℕ
request_limit = 64 * 2 ^ 20

-- The inputs that these frames of names and contents are.
abbrev pub request_inputs : List ℕ → Inputs
request_inputs parts =
    inputs (λ a octets b. octets_left a ≡ octets ++ octets_left b) HasEnded read_failures
    (λ name input. IsInputOf name (octets_left input) parts)
    (λ name error. HasNoInput name parts error)

-- The lines of a text, which are the arguments of a request.
abbrev pub argument_lines : List ℕ → List (List ℕ)
argument_lines text = slice_split (λ octet. octet == 10) text

-- A request is a frame with a text in UTF-8, whose lines are the arguments, followed by the inputs.
abbrev pub IsRequest : List ℕ → List ℕ → List ℕ → Type 0
IsRequest octets text parts =
    (octets ≡ frame text ++ parts) × (length text < 2 ^ 32) × IsUtf8 text

-- The message for bytes that aren't a request.
abbrev pub no_request_line : List ℕ
no_request_line = codes "the request doesn't begin with a frame of arguments in UTF-8\n"

-- Bytes are run as a request: if they are one, its command runs on its inputs; else that is
-- reported, nothing is written to the output, and the status is `Arguments`.
abbrev pub IsRequestRun : Clock → Device → Device → List ℕ → Status → Type 0
IsRequestRun tells out err octets status =
    ((text : List ℕ) × (parts : List ℕ) × IsRequest octets text parts
    × AreWordsRun tells (request_inputs parts) out err (argument_lines text) status)
    ⊎ (((text : List ℕ) → (parts : List ℕ) → IsRequest octets text parts → ⊥)
    × Untouched out × IsWriteTried err no_request_line × (status ≡ forms.Exit statuses.Arguments))

-- A writer that appends to a vector.
abbrev pub VecOutput : Type 0
VecOutput = ToWrite (Vec ℕ)

-- The bytes of the vector.
abbrev pub vec_octets : VecOutput → List ℕ
vec_octets output = (writer_of output).items

-- The writer as a device, over a run that began in one state and ended in another.
abbrev pub vec_sink : VecOutput → VecOutput → Device
vec_sink old new =
    sink (λ a octets b. vec_octets b ≡ vec_octets a ++ octets) write_failures old new

-- Bytes are run as a request, with outputs that are empty at first. These are the status, the
-- output and the error output of the run, in which no write failed.
pub record HasOutcome (tells : Clock) (octets : List ℕ) (status : Status)
    (output errors : List ℕ) : Type 0 where
  pub old_output : VecOutput
  pub new_output : VecOutput
  pub old_errors : VecOutput
  pub new_errors : VecOutput
  pub empty : (vec_octets old_output ≡ []) × (vec_octets old_errors ≡ [])
  pub is_obeyed : IsRequestRun tells (vec_sink old_output new_output)
      (vec_sink old_errors new_errors) octets status
  pub written : (vec_octets new_output ≡ output) × (vec_octets new_errors ≡ errors)
  pub whole : (write_failures new_output ≡ 0) × (write_failures new_errors ≡ 0)

-- The answer to a request: frames of its status, its output and its error output.
abbrev pub reply_frames : Status → List ℕ → List ℕ → List ℕ
reply_frames status output errors =
    frame (status_code status ∷ []) ++ (frame output ++ frame errors)

-- This is the answer to these bytes.
abbrev pub IsReply : Clock → List ℕ → List ℕ → Type 0
IsReply tells octets reply =
    (status : Status) × (output : List ℕ) × (errors : List ℕ)
    × HasOutcome tells octets status output errors × (reply ≡ reply_frames status output errors)

-- The reason why a request has no answer: one of its outputs has 2^32 bytes or more, or memory ran
-- out.
abbrev pub HasNoReply : Clock → List ℕ → FrameError → Type 0
HasNoReply tells octets errors.TooLong =
    (status : Status) × (output : List ℕ) × (errors : List ℕ)
    × HasOutcome tells octets status output errors
    × ((2 ^ 32 ≤ length output) ⊎ (2 ^ 32 ≤ length errors))
HasNoReply tells octets errors.OutOfMemory = Unit {0}
HasNoReply tells octets errors.Cut = ⊥
HasNoReply tells octets errors.Device = ⊥

-- The next frame was read and its answer was written (`true`), or the input ended before another
-- frame (`false`).
abbrev pub IsNextServed : Clock → Device → Device → Bool → Type 0
IsNextServed tells input output true =
    (octets : List ℕ) × (reply : List ℕ) × IsNext input request_limit (Some octets)
    × IsReply tells octets reply × IsWritten output reply
IsNextServed tells input output false = IsNext input request_limit None × Untouched output

-- The reason why the next frame isn't answered: it can't be read, it has no answer, or a write
-- fails.
abbrev pub IsNextFailed : Clock → Device → Device → FrameError → Type 0
IsNextFailed tells input output error =
    (IsUnread input request_limit error × Untouched output)
    ⊎ ((octets : List ℕ) × IsNext input request_limit (Some octets) × HasNoReply tells octets error
    × Untouched output)
    ⊎ ((octets : List ℕ) × (reply : List ℕ) × IsNext input request_limit (Some octets)
    × IsReply tells octets reply × IsCut output reply × (error ≡ errors.Device))

-- The error output says why a frame isn't answered, and the status is that of the error.
abbrev pub IsServingErrorReported : Device → FrameError → ExitStatus → Type 0
IsServingErrorReported err errors.TooLong status =
    IsComplaint err (codes "too long\n") statuses.Faulty status
IsServingErrorReported err errors.Cut status =
    IsComplaint err (codes "cut\n") statuses.Faulty status
IsServingErrorReported err errors.Device status = IsDeviceTold err status
IsServingErrorReported err errors.OutOfMemory status = IsMemoryTold err status

-- The first bytes are a sequence of frames, and the second ones are the answers to their contents,
-- in the same order.
pub data AreReplies (tells : Clock) : List ℕ → List ℕ → Type 0 where
  none : AreReplies tells [] []
  more : (asked replied octets reply : List ℕ) → AreReplies tells asked replied
      → IsReply tells octets reply → AreReplies tells (asked ++ frame octets) (replied ++ reply)

-- The beginning of the input is a sequence of frames, and their answers were written in order. Then
-- the input ended, and the status is `Done`; or the next frame can't be answered, and the reason is
-- reported.
abbrev pub IsServed : Clock → Device → Device → Device → ExitStatus → Type 0
IsServed tells input output err status =
    (asked : List ℕ) × (replied : List ℕ) × AreReplies tells asked replied
    × (read : input.State) × (written : output.State)
    × Moved (record input { new = read }) asked × Sound (record input { new = read })
    × IsWritten (record output { new = written }) replied
    × ((IsNextServed tells (record input { old = read }) (record output { old = written }) false
    × Untouched err × (status ≡ statuses.Done))
    ⊎ ((error : FrameError)
    × IsNextFailed tells (record input { old = read }) (record output { old = written }) error
    × IsServingErrorReported err error status))
