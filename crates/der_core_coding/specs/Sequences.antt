-- Errors of encoding a SEQUENCE whose content a closure writes.
use Rattle.std.specs.Prelude.{◌≡◌, ◌≢◌, ◌+◌, ◌⊎◌, ℕ, length, true, Result, Ok, Err}
use Rattle.std.specs.Borrow.{MutBor}
use Rattle.std.specs.Fn.{Once, FnOnceReturnsAtMut}
use Rattle.der_core_values.specs.CoreHead.declared.error.Error.{Error}
use Rattle.der_core_values.specs.CoreHead.declared.error.ErrorKind.TheVariants as kinds
use Rattle.der_core_values.specs.CoreHead.declared.tag.Tag.TheVariants as tags
use Rattle.der_core_values.specs.CoreHead.Writing.{Out, put_head}
use Rattle.der_core_values.specs.CoreOctets.Outputs.{Continues}

-- The closure `f` was called after the header of a SEQUENCE with `n` content bytes, returned `r`,
-- and left the writer `outer`.
abbrev pub Called : {W F : Type 0} → (W → Out)
    → Once F (MutBor W × Unit {0}) (Result (Unit {0}) Error × (MutBor W × Unit {0})) → F → ℕ → Out
    → Result (Unit {0}) Error → W → W → Type 0
Called out g f n old r inner outer = (put_head tags.Sequence n old ≡ Ok (out inner))
    × FnOnceReturnsAtMut g f inner r outer

-- The state of the writer after a failure.
abbrev pub failing : Out → Out
failing o = record o { failed = true }

-- The possible errors, and the states after them: the header couldn't be written, `f` returned an
-- error, or `f` wrote another number of bytes.
abbrev pub RefusesEnclosed : {W F : Type 0} → (W → Out)
    → Once F (MutBor W × Unit {0}) (Result (Unit {0}) Error × (MutBor W × Unit {0})) → F → ℕ → Out
    → Out → Error → Type 0
RefusesEnclosed {W} out g f n old new e =
    ((put_head tags.Sequence n old ≡ Err e.kind) × Continues old new)
    ⊎ (((inner outer : W) × Called out g f n old (Err e) inner outer × (new ≡ failing (out outer)))
    ⊎ ((inner outer : W) × Called out g f n old (Ok tt) inner outer × (new ≡ failing (out outer))
    × (length (out outer).written ≢ length (out inner).written + n)
    × (e.kind ≡ kinds.Length tags.Sequence)))
