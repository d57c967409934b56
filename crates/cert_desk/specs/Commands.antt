-- The command line of the program.
use Rattle.std.specs.Prelude.{◌≡◌, ℕ, ◌≤◌, ◌<◌, ◌^◌, List, [], ◌∷◌, length, codes}
use Rattle.cert_desk_checking.specs.Arguments.{IsNumber}
use Rattle.cert_desk_checking.specs.Oid.Bound.{Bound, max_size}
use Rattle.cert_desk_checking.specs.Oid.IdentifierOctets.{identifier_octets, IsIdentifier}
use Rattle.cert_desk_checking.specs.Oid.TextFaults.{IsDottedText}
use Rattle.cert_desk_listing.specs.declared.file_kind.FileKind.{FileKind}
use Rattle.cert_desk_listing.specs.Kinds.{kind_word}
use Rattle.cert_desk.specs.declared.command.Command.{Command}
use Rattle.cert_desk.specs.declared.command.Command.TheVariants as commands

-- The words after the program's name ask for a check of this chain under these trust anchors. The
-- validation time is below 2^64, the key purpose is an OID in dotted form, and the size limit is
-- from 6 to 2^32 - 1.
pub record AskCheck (words : List (List ℕ)) (anchors stream : List ℕ) (moment : ℕ)
    (purpose : List ℕ) (limit : ℕ) : Type 0 where
  pub name : List ℕ
  pub moment_text : List ℕ
  pub purpose_text : List ℕ
  pub limit_text : List ℕ
  pub are : words ≡ name ∷ codes "check" ∷ anchors ∷ stream ∷ moment_text ∷ purpose_text
      ∷ limit_text ∷ []
  pub moment_is : IsNumber moment moment_text
  pub moment_fits : moment < 2 ^ 64
  pub purpose_is : IsDottedText purpose purpose_text
  pub purpose_valid : IsIdentifier Bound purpose
  pub purpose_fits : length (identifier_octets purpose) ≤ max_size
  pub limit_is : IsNumber limit limit_text
  pub limit_least : 6 ≤ limit
  pub limit_fits : limit < 2 ^ 32

-- The words after the program's name ask for the listing of a file of this kind.
pub record AskShow (words : List (List ℕ)) (kind : FileKind) (file : List ℕ) : Type 0 where
  pub name : List ℕ
  pub are : words ≡ name ∷ codes "show" ∷ kind_word kind ∷ file ∷ []

-- The words after the program's name ask for the chain of an orders file.
pub record AskIssue (words : List (List ℕ)) (orders : List ℕ) : Type 0 where
  pub name : List ℕ
  pub are : words ≡ name ∷ codes "issue" ∷ orders ∷ []

-- The words don't ask for a check.
abbrev pub AskNoCheck : List (List ℕ) → Type 0
AskNoCheck words =
    (anchors stream : List ℕ) (moment : ℕ) (purpose : List ℕ) (limit : ℕ)
    → AskCheck words anchors stream moment purpose limit → ⊥

-- The words don't ask for a listing.
abbrev pub AskNoListing : List (List ℕ) → Type 0
AskNoListing words = (kind : FileKind) (file : List ℕ) → AskShow words kind file → ⊥

-- The words don't ask for a chain.
abbrev pub AskNoChain : List (List ℕ) → Type 0
AskNoChain words = (orders : List ℕ) → AskIssue words orders → ⊥

-- The words ask for this command.
abbrev pub AsksFor : List (List ℕ) → Command → Type 0
AsksFor words (commands.Check a) =
    AskCheck words a.anchors.now a.stream.now a.moment a.purpose a.limit
AsksFor words (commands.Show kind file) = AskShow words kind file.now
AsksFor words (commands.Issue orders) = AskIssue words orders.now

-- The size limit of a check is large enough for a certificate.
abbrev pub HasLimit : Command → Type 0
HasLimit (commands.Check a) = 6 ≤ a.limit
HasLimit (commands.Show kind file) = Unit {0}
HasLimit (commands.Issue orders) = Unit {0}
