-- The text of a CRL entry.
use Rattle.std.proofs.Common.{◌≡◌, ℕ, List, [], ◌∷◌, ◌++◌, sym, ◌∙◌, append_assoc}

-- A number, a space, a date and LF.
pub entry_text : (number date : List ℕ) → number ++ (32 ∷ (date ++ (10 ∷ []))) ≡ ((number ++ (32 ∷ [])) ++ date) ++ (10 ∷ [])
entry_text number date = sym (append_assoc (number ++ (32 ∷ [])) date (10 ∷ []) ∙ append_assoc number (32 ∷ []) (date ++ (10 ∷ [])))
