-- The names of the kinds of files.
use Rattle.std.specs.Prelude.{ℕ, List, codes}
use Rattle.cert_desk_listing.specs.declared.file_kind.FileKind.{FileKind}
use Rattle.cert_desk_listing.specs.declared.file_kind.FileKind.TheVariants as kinds

-- The name of each kind.
abbrev pub kind_word : FileKind → List ℕ
kind_word kinds.Certificate = codes "certificate"
kind_word kinds.List = codes "list"
kind_word kinds.Request = codes "request"
