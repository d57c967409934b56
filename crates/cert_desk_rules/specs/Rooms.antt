-- Texts in the caller's buffers, and the reasons why a call has no text to write.
use Rattle.std.specs.Prelude.{◌≡◌, ◌≢◌, ℕ, ◌≤◌, ◌<◌, ◌⊎◌, List, drop, length}
use Rattle.cert_desk_bundle.specs.DeskIo.declared.exit_status.ExitStatus.{ExitStatus}
use Rattle.cert_desk_bundle.specs.DeskIo.declared.exit_status.ExitStatus.TheVariants as statuses
use Rattle.cert_desk_bundle.specs.DeskIo.Statuses.{code_of}

-- A text of this kind exists, and the buffer is large enough for it.
abbrev pub Fits : (List ℕ → Type 0) → List ℕ → Type 0
Fits Says room = (text : List ℕ) × Says text × (length text ≤ length room)

-- A text of this kind exists, and the buffer is too small for it.
abbrev pub Exceeds : (List ℕ → Type 0) → List ℕ → Type 0
Exceeds Says room = (text : List ℕ) × Says text × (length room < length text)

-- A text of this kind exists, the buffer is too small for it, and `wanted` is its length.
abbrev pub Wants : (List ℕ → Type 0) → List ℕ → ℕ → Type 0
Wants Says room wanted =
    (text : List ℕ) × Says text × (wanted ≡ length text) × (length room < length text)

-- Only the first `count` bytes of the buffer change.
abbrev pub ChangesFront : ℕ → List ℕ → List ℕ → Type 0
ChangesFront count old new = (count ≤ length old) × (drop count new ≡ drop count old)

-- A call that neither wrote a text nor found the buffer too small reports the length 0.
abbrev pub IsUnsized : ℕ → ℕ → Type 0
IsUnsized returned size =
    returned ≢ code_of statuses.Done → returned ≢ code_of statuses.Device → size ≡ 0

-- The reason why there is no value: the bytes aren't the encoding of one, or an allocation failed.
abbrev pub IsLack : Type 0 → ExitStatus → Type 0
IsLack None status = ((status ≡ statuses.Faulty) × None) ⊎ (status ≡ statuses.Memory)
