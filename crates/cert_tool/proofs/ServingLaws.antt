-- Requests, their arguments, and the answers that were written so far.
use Rattle.std.proofs.Common.{◌≡◌, ℕ, ◌<◌, ◌^◌, ◌≤◌, ◌⊎◌, inl, inr, Bool, true, false, List, ◌++◌, length, sym, subst, ◌∙◌}
use Rattle.std.proofs.lemmas.Bool.{false≢true}
use Rattle.std.specs.Prelude.{IsUtf8}
use Rattle.cert_tool.specs.declared.status.Status.{Status}
use Rattle.cert_tool_explain.specs.DeskIo.Devices.{sink, source}
use Rattle.cert_tool_explain.specs.DeskIo.declared.frame_error.FrameError.{FrameError}
use Rattle.cert_tool_explain.specs.DeskIo.declared.frame_error.FrameError.TheVariants as errors
use Rattle.cert_tool_explain.specs.DeskIo.Frames.{frame}
use Rattle.cert_tool.proofs.SentInputLaws.{same_content}
use Rattle.cert_tool.specs.TaskRuns.{Clock}
use Rattle.cert_tool.specs.Serving.{AreReplies, HasOutcome, HasNoReply, IsNextServed, IsRequest, more}

-- Bytes whose text isn't UTF-8 aren't a request.
pub no_request : (octets text parts : List ℕ) → octets ≡ frame text ++ parts → length text < 2 ^ 32 → (IsUtf8 text → ⊥) → (other : List ℕ) → (behind : List ℕ) → IsRequest octets other behind → ⊥
no_request octets text parts begins short faulty other behind is =
    faulty (subst IsUtf8 (same_content other text behind parts is.1 short (sym is.0 ∙ begins)) is.2)

-- If an output of the run is too long for a frame, there is no answer.
pub no_reply : (tells : Clock) (octets : List ℕ) (status : Status) (output others : List ℕ) → HasOutcome tells octets status output others → (error : FrameError) → ((error ≡ errors.TooLong) × ((2 ^ 32 ≤ length output) ⊎ (2 ^ 32 ≤ length others))) ⊎ (error ≡ errors.OutOfMemory) → HasNoReply tells octets error
no_reply tells octets status output others comes error (inl is) = subst (HasNoReply tells octets) (sym is.0) (status, output, others, comes, is.1)
no_reply tells octets status output others comes error (inr is) = subst (HasNoReply tells octets) (sym is) tt

module _ {S T : Type 0} (tells : Clock) (takes : S → List ℕ → S → Type 0) (is_ended : S → Type 0) (failures : S → ℕ) (gives : T → List ℕ → T → Type 0) (lost : T → ℕ) where
  -- The answers to the frames that were read were written in order.
  abbrev pub SoFar : S → S → T → T → Type 0
  SoFar a b x y = (asked : List ℕ) × (answered : List ℕ) × AreReplies tells asked answered × takes a asked b × (failures b ≡ failures a) × gives x answered y × (lost y ≡ lost x)

  -- One more frame is answered.
  pub one_more : ((a b c : S) (first second : List ℕ) → takes a first b → takes b second c → takes a (first ++ second) c) → ((a b c : T) (first second : List ℕ) → gives a first b → gives b second c → gives a (first ++ second) c)
      → (a b c : S) (x y z : T) (goes_on : Bool) → SoFar a b x y → IsNextServed tells (source takes is_ended failures b c) (sink gives lost y z) goes_on → goes_on ≡ true → SoFar a c x z
  one_more in_turn out_in_turn a b c x y z true so_far next is = (
    so_far.0 ++ frame next.0,
    so_far.1 ++ next.1,
    more so_far.0 so_far.1 next.0 next.1 so_far.2 next.3,
    in_turn a b c so_far.0 (frame next.0) so_far.3 next.2.0,
    next.2.2 ∙ so_far.4,
    out_in_turn x y z so_far.1 next.1 so_far.5 next.4.0,
    next.4.1 ∙ so_far.6,
  )
  one_more in_turn out_in_turn a b c x y z false so_far next is = absurd (false≢true is)

  -- The input ended before another frame.
  pub ended : (b c : S) (y z : T) (goes_on : Bool) → IsNextServed tells (source takes is_ended failures b c) (sink gives lost y z) goes_on → goes_on ≡ false → IsNextServed tells (source takes is_ended failures b c) (sink gives lost y z) false
  ended b c y z false next is = next
  ended b c y z true next is = absurd (false≢true (sym is))
