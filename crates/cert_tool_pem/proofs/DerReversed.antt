-- The order of the certificates is to be reversed, but the file is DER.
use Rattle.std.proofs.Common.{◌≡◌, ◌⊎◌, inl, inr, true, [], ◌∷◌, subst, sym}
use Rattle.cert_desk_io.specs.Devices.{Device, Moved, Sound}
use Rattle.cert_tool_pem.specs.declared.file_error.FileError.{FileError}
use Rattle.cert_tool_pem.specs.declared.file_error.FileError.TheVariants as errors
use Rattle.cert_tool_pem.specs.declared.wanted.Wanted.{Wanted}
use Rattle.cert_tool_pem.specs.DecodedFiles.{IsFileError}
use Rattle.cert_tool_pem.specs.Pem.{is_reversed}

pub der_unmeant : (wanted : Wanted) (d : Device) (error : FileError) → ((error ≡ errors.NotText) × (is_reversed wanted ≡ true)) ⊎ (error ≡ errors.OutOfMemory) → Moved d (48 ∷ []) × Sound d → IsFileError wanted d error
der_unmeant wanted d error (inl why) begun = subst (IsFileError wanted d) (sym why.0) (why.1, begun.0, begun.1)
der_unmeant wanted d error (inr memory) begun = subst (IsFileError wanted d) (sym memory) tt
