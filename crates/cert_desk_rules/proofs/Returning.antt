-- A call that returns the only status that holds returns its statuses exactly.
use Rattle.std.proofs.Common.{◌≡◌, ◌⊎◌, inl, inr, ℕ, zero, suc, ◌≤◌, ◌<◌, List, length, refl, sym, ap, subst, ◌∙◌, arith}
use Rattle.cert_desk_bundle.specs.DeskIo.declared.exit_status.ExitStatus.{ExitStatus}
use Rattle.cert_desk_bundle.specs.DeskIo.declared.exit_status.ExitStatus.TheVariants as statuses
use Rattle.cert_desk_bundle.specs.DeskIo.Statuses.{code_of}
use Rattle.cert_desk_rules.specs.Returned.{IsExact, IsExactWithMemory, IsFaultyStatus, IsTextStatus, IsValueStatus}
use Rattle.cert_desk_rules.specs.Rooms.{IsLack}

-- No two statuses have the same number.
status_at : ℕ → ExitStatus
status_at zero = statuses.Done
status_at (suc zero) = statuses.Refused
status_at (suc (suc zero)) = statuses.Faulty
status_at (suc (suc (suc zero))) = statuses.Empty
status_at (suc (suc (suc (suc zero)))) = statuses.Arguments
status_at (suc (suc (suc (suc (suc zero))))) = statuses.Device
status_at (suc (suc (suc (suc (suc (suc n)))))) = statuses.Memory

status_back : (status : ExitStatus) → status_at (code_of status) ≡ status
unfolding status_at
status_back statuses.Done = refl
status_back statuses.Refused = refl
status_back statuses.Faulty = refl
status_back statuses.Empty = refl
status_back statuses.Arguments = refl
status_back statuses.Device = refl
status_back statuses.Memory = refl

same_status : (a b : ExitStatus) → code_of a ≡ code_of b → a ≡ b
same_status a b e = sym (status_back a) ∙ ap status_at e ∙ status_back b

-- The only status that holds is returned.
pub is_exact : (IsSo : ExitStatus → Type 0) (status : ExitStatus) (n : ℕ) → n ≡ code_of status → IsSo status → ((other : ExitStatus) → IsSo other → other ≡ status) → IsExact IsSo n
is_exact IsSo status n e so only = record {
  known = (status, e);
  exact = λ other. (
    (λ f. subst (λ (s : ExitStatus). IsSo s) (same_status status other (sym e ∙ f)) so),
    (λ h. e ∙ ap code_of (sym (only other h))),
  );
}

module _ (Some None : Type 0) where
  -- There is a value.
  pub found : (n : ℕ) → n ≡ code_of statuses.Done → Some → (None → ⊥) → IsExact (IsValueStatus Some None) n
  found n e some never = is_exact (IsValueStatus Some None) statuses.Done n e some only
    where
      only : (other : ExitStatus) → IsValueStatus Some None other → other ≡ statuses.Done
      only statuses.Done h = refl
      only statuses.Faulty h = absurd (never h)
      only _ h = absurd h

  -- There is no value.
  pub lacking : (status : ExitStatus) (n : ℕ) → n ≡ code_of status → (Some → None → ⊥) → IsLack None status → IsExactWithMemory (IsValueStatus Some None) n
  lacking status n e never (inr memory) = inr (e ∙ ap code_of memory)
  lacking status n e never (inl none) = inl (is_exact (IsValueStatus Some None) statuses.Faulty n (e ∙ ap code_of none.0) none.1 only)
    where
      only : (other : ExitStatus) → IsValueStatus Some None other → other ≡ statuses.Faulty
      only statuses.Faulty h = refl
      only statuses.Done h = absurd (never h none.1)
      only _ h = absurd h

module _ (Says : List ℕ → Type 0) (Lacks : ExitStatus → Type 0) (room : List ℕ) where
  -- There is a text, and all such texts have the same length.
  pub given : (text : List ℕ) (n : ℕ) → Says text → ((other : List ℕ) → Says other → length other ≡ length text) → ((status : ExitStatus) → Lacks status → ⊥) → (n ≡ code_of statuses.Done) ⊎ (n ≡ code_of statuses.Device)
      → (n ≡ code_of statuses.Done → length text ≤ length room) → (n ≡ code_of statuses.Device → length room < length text) → IsExact (IsTextStatus Says Lacks room) n
  given text n says one never (inl done) fits exceeds = is_exact (IsTextStatus Says Lacks room) statuses.Done n done (text, says, fits done) only
    where
      only : (other : ExitStatus) → IsTextStatus Says Lacks room other → other ≡ statuses.Done
      only statuses.Done h = refl
      only statuses.Device h = let fit = fits done in absurd (omega (arith, fit, one h.0 h.1, h.2))
      only status h = absurd (never status h)
  given text n says one never (inr no_room) fits exceeds = is_exact (IsTextStatus Says Lacks room) statuses.Device n no_room (text, says, exceeds no_room) only
    where
      only : (other : ExitStatus) → IsTextStatus Says Lacks room other → other ≡ statuses.Device
      only statuses.Device h = refl
      only statuses.Done h = let long = exceeds no_room in absurd (omega (arith, long, one h.0 h.1, h.2))
      only status h = absurd (never status h)

  -- There is no text.
  pub withheld : (status : ExitStatus) (n : ℕ) → n ≡ code_of status → ((text : List ℕ) → Says text → ⊥) → (Lacks statuses.Done → ⊥) → (Lacks statuses.Device → ⊥) → Lacks status → ((other : ExitStatus) → Lacks other → other ≡ status)
      → IsExact (IsTextStatus Says Lacks room) n
  withheld status n e never not_done not_device why one = is_exact (IsTextStatus Says Lacks room) status n e (so status why) only
    where
      so : (status : ExitStatus) → Lacks status → IsTextStatus Says Lacks room status
      so statuses.Done h = absurd (not_done h)
      so statuses.Device h = absurd (not_device h)
      so status h = h

      only : (other : ExitStatus) → IsTextStatus Says Lacks room other → other ≡ status
      only statuses.Done h = absurd (never h.0 h.1)
      only statuses.Device h = absurd (never h.0 h.1)
      only other h = one other h

-- The bytes are the encoding of a value, or of none.
module _ (Says : List ℕ → Type 0) (None : Type 0) (room : List ℕ) where
  abbrev pub Told : ℕ → Type 0
  Told n = IsExact (IsTextStatus Says (IsFaultyStatus None) room) n

  pub spelled : (text : List ℕ) (n : ℕ) → Says text → ((other : List ℕ) → Says other → length other ≡ length text) → (None → ⊥) → (n ≡ code_of statuses.Done) ⊎ (n ≡ code_of statuses.Device)
      → (n ≡ code_of statuses.Done → length text ≤ length room) → (n ≡ code_of statuses.Device → length room < length text) → Told n
  spelled text n says one never which fits exceeds = given Says (IsFaultyStatus None) room text n says one not_faulty which fits exceeds
    where
      not_faulty : (status : ExitStatus) → IsFaultyStatus None status → ⊥
      not_faulty statuses.Faulty h = never h
      not_faulty _ h = h

  pub unspelled : (status : ExitStatus) (n : ℕ) → n ≡ code_of status → ((text : List ℕ) → Says text → None → ⊥) → IsLack None status → Told n ⊎ (n ≡ code_of statuses.Memory)
  unspelled status n e never (inr memory) = inr (e ∙ ap code_of memory)
  unspelled status n e never (inl none) =
      inl (withheld Says (IsFaultyStatus None) room statuses.Faulty n (e ∙ ap code_of none.0) (λ text h. never text h none.1) (λ h. h) (λ h. h) none.1 only)
    where
      only : (other : ExitStatus) → IsFaultyStatus None other → other ≡ statuses.Faulty
      only statuses.Faulty h = refl
      only _ h = absurd h
