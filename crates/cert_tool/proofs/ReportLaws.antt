-- Reports that come before others, and texts that are written in two parts.
use Rattle.std.proofs.Common.{◌≡◌, ℕ, ◌+◌, Bool, List, ◌++◌, length, take, Result, Ok, Err, OnErr, OnOk, inl, inr, refl, sym, subst, arith, length-append}
use Rattle.std.proofs.Math.Seq.{take-append-add}
use Rattle.std.specs.Prelude.{codes}
use Rattle.cert_tool_explain.specs.DeskIo.declared.exit_status.ExitStatus.{ExitStatus}
use Rattle.cert_tool_explain.specs.DeskIo.Devices.{Device, Fails, IsCut, IsWritten}
use Rattle.cert_tool_explain.specs.DeskIo.Telling.{IsMemoryTold, memory_line}
use Rattle.cert_tool.specs.EarlyEnds.{IsReasonReported, IsWriteTried}
use Rattle.cert_tool.specs.Explaining.{IsStatusBy}
use Rattle.cert_tool.proofs.DescribedStreamLaws.{failed_on}

pub tried : {T E : Type 0} (err : Device) (text : List ℕ) (r : Result T E) → OnOk r (IsWritten err text) → OnErr r (IsCut err text) → IsWriteTried err text
tried err text (Ok x) written cut = inl written
tried err text (Err e) written cut = inr cut

pub memory_reason : (err : Device) (answer : ExitStatus) → IsMemoryTold err answer → IsReasonReported err
memory_reason err answer (inl h) = let len : length memory_line ≡ 7 = refl in (err.new, memory_line, omega (arith, len), inl h.0)
memory_reason err answer (inr h) = let len : length memory_line ≡ 7 = refl in (h.0, memory_line, omega (arith, len), inr h.1)

-- The line that is written where memory runs out for another.
abbrev no_memory_line : List ℕ
no_memory_line = codes "(no memory for this message)\n"

-- That line was tried.
pub reason_without_memory : {T E : Type 0} (err : Device) (r : Result T E) → OnOk r (IsWritten err no_memory_line) → OnErr r (IsCut err no_memory_line) → IsReasonReported err
reason_without_memory err r written cut = let len : length no_memory_line ≡ 29 = refl in (err.new, no_memory_line, omega (arith, len), tried err no_memory_line r written cut)

-- A fact about an error implies another.
pub OnErr-so : {T E : Type 0} (r : Result T E) (P Q : Type 0) → (P → Q) → OnErr r P → OnErr r Q
OnErr-so (Ok x) P Q so p = tt
OnErr-so (Err e) P Q so p = so p

-- A text was written, and the write of the next one failed.
pub second_cut : (out : Device) (in_turn : (a b c : out.State) (x y : List ℕ) → out.moves a x b → out.moves b y c → out.moves a (x ++ y) c) (first second : List ℕ) (end : out.State) → IsWritten out first
    → IsCut (record out { old = out.new; new = end }) second → IsCut (record out { new = end }) (first ++ second)
second_cut out in_turn first second end written h = (
  length first + h.0,
  omega (arith, h.1, length-append first second),
  subst (λ (x : List ℕ). Fails (record out { new = end }) x) (sym (take-append-add first second h.0)) (failed_on out in_turn (first, written.0, written.1) end (take h.0 second) h.2),
)

-- The status of an explanation, where the input is valid for another reason.
pub status_so : {A B : Type 0} (fails : Bool) (status : ExitStatus) → (A → B) → IsStatusBy fails A status → IsStatusBy fails B status
status_so fails status so (inl h) = inl (h.0, λ failing. so (h.1 failing))
status_so fails status so (inr h) = inr h
