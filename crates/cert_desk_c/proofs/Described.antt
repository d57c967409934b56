-- The statuses of a call that describes a value.
use Rattle.std.proofs.Common.{◌≡◌, ◌≢◌, ◌⊎◌, inl, inr, ℕ, List, length, Option, Some, None, IfNone, IfSome, refl}
use Rattle.cert_tool_describe.specs.Der.ErrorTypes.ErrorKind.{ErrorKind}
use Rattle.cert_tool_describe.specs.Der.ErrorTypes.ErrorKind.TheVariants.{OutOfMemory}
use Rattle.cert_desk_listing.specs.DeskIo.declared.exit_status.ExitStatus.{ExitStatus}
use Rattle.cert_desk_listing.specs.DeskIo.declared.exit_status.ExitStatus.TheVariants as statuses
use Rattle.cert_desk_listing.specs.DeskIo.Statuses.{code_of}
use Rattle.cert_desk_answers.specs.DeskRules.Returned.{IsExact, IsExactWithMemory, IsFaultyStatus, IsTextStatus}
use Rattle.cert_desk_answers.proofs.DeskRules.Returning.{unspelled}

-- The text has `size` bytes.
abbrev Counted : ℕ → List ℕ → Type 0
Counted size text = size ≡ length text

module _ (Is Lacks : Type 0) (size : ℕ) (room : List ℕ) where
  abbrev Says : List ℕ → Type 0
  Says text = Is × (size ≡ length text)

  of_value : (n : ℕ) → Is → (Lacks → ⊥) → IsExact (IsTextStatus (Counted size) (λ _. ⊥) room) n → IsExact (IsTextStatus Says (IsFaultyStatus Lacks) room) n
  of_value n is never told = record { known = told.known; exact = exact }
    where
      exact : (status : ExitStatus) → (n ≡ code_of status → IsTextStatus Says (IsFaultyStatus Lacks) room status) × (IsTextStatus Says (IsFaultyStatus Lacks) room status → n ≡ code_of status)
      exact statuses.Done = (
        (λ e. (let h = (told.exact statuses.Done).0 e in (h.0, (is, h.1), h.2))),
        (λ h. (told.exact statuses.Done).1 (h.0, h.1.1, h.2)),
      )
      exact statuses.Device = (
        (λ e. (let h = (told.exact statuses.Device).0 e in (h.0, (is, h.1), h.2))),
        (λ h. (told.exact statuses.Device).1 (h.0, h.1.1, h.2)),
      )
      exact statuses.Faulty = ((λ e. absurd ((told.exact statuses.Faulty).0 e)), (λ h. absurd (never h)))
      exact status = ((λ e. (told.exact status).0 e), (λ h. absurd h))

  pub described : (fault : Option ErrorKind) (n : ℕ) → (Is → Lacks → ⊥) → ((Is → ⊥) → Lacks) → IfNone fault Is → IfSome fault (λ kind. kind ≢ OutOfMemory → Is → ⊥)
      → (fault ≡ None → IsExactWithMemory (IsTextStatus (Counted size) (λ _. ⊥) room) n) → IfSome fault (λ kind. ((kind ≢ OutOfMemory) × (n ≡ code_of statuses.Faulty)) ⊎ (n ≡ code_of statuses.Memory))
      → IsExactWithMemory (IsTextStatus Says (IsFaultyStatus Lacks) room) n
  described None n never lacks is none given refused = of_none (given refl)
    where
      of_none : IsExactWithMemory (IsTextStatus (Counted size) (λ _. ⊥) room) n → IsExactWithMemory (IsTextStatus Says (IsFaultyStatus Lacks) room) n
      of_none (inl told) = inl (of_value n is (never is) told)
      of_none (inr memory) = inr memory
  described (Some kind) n never lacks is none given (inl refused) = unspelled Says Lacks room statuses.Faulty n refused.1 (λ text h. never h.0) (inl (refl, lacks (none refused.0)))
  described (Some kind) n never lacks is none given (inr memory) = inr memory
