-- The results of a call on bytes that encode one value, or none.
use Rattle.std.proofs.Common.{◌≡◌, ◌⊎◌, ℕ, ◌≤◌, ◌<◌, List, length, true, ap, sym, ◌∙◌, append-nil, ◌++◌, []}
use Rattle.cert_tool_describe.specs.Oid.Bound.{Bound}
use Rattle.cert_tool_describe.proofs.Oid.PrefixLaws.{same_octets}
use Rattle.cert_tool_describe.specs.Der.Shapes.{Shape, Spells, Value, octets_of}
use Rattle.cert_tool_describe.specs.Der.Spelling.{is_apart, is_element}
use Rattle.cert_tool_describe.proofs.Der.OneEncoding.{one_value}
use Rattle.cert_desk_listing.specs.DeskIo.declared.exit_status.ExitStatus.{ExitStatus}
use Rattle.cert_desk_listing.specs.DeskIo.declared.exit_status.ExitStatus.TheVariants as statuses
use Rattle.cert_desk_listing.specs.DeskIo.Statuses.{code_of}
use Rattle.cert_desk_answers.specs.DeskRules.Identifiers.{SpellsIdentifier}
use Rattle.cert_desk_answers.specs.DeskRules.Rooms.{IsLack}
use Rattle.cert_desk_answers.proofs.DeskRules.Returning.{Told, spelled, unspelled}

pub one_identifier : (octets arcs other : List ℕ) → SpellsIdentifier octets arcs → SpellsIdentifier octets other → arcs ≡ other
one_identifier octets arcs other p q = same_octets Bound arcs other p.0 q.0 (sym p.2 ∙ q.2)

module _ (s : Shape) (element : is_element s ≡ true) (apart : is_apart s ≡ true) where
  pub one_spelled : (v w : Value s) (octets : List ℕ) → Spells s v octets → Spells s w octets → v ≡ w
  one_spelled v w octets p q =
      let e : octets_of s v ++ [] ≡ octets_of s w ++ [] = append-nil (octets_of s v) ∙ sym p.octets ∙ q.octets ∙ sym (append-nil (octets_of s w)) in
      (one_value s v w [] [] element apart p.valid q.valid e).0

  -- A text of the value.
  module _ (print : Value s → List ℕ) (octets room : List ℕ) where
    abbrev pub Prints : List ℕ → Type 0
    Prints text = (v : Value s) × Spells s v octets × (text ≡ print v)

    abbrev pub SpellsNone : Type 0
    SpellsNone = (v : Value s) → Spells s v octets → ⊥

    pub printed : (v : Value s) (text : List ℕ) (n : ℕ) → Spells s v octets → text ≡ print v → (n ≡ code_of statuses.Done) ⊎ (n ≡ code_of statuses.Device) → (n ≡ code_of statuses.Done → length text ≤ length room)
        → (n ≡ code_of statuses.Device → length room < length text) → Told Prints SpellsNone room n
    printed v text n p e = spelled Prints SpellsNone room text n (v, p, e)
        (λ other h. ap length (h.2 ∙ ap print (one_spelled h.0 v octets h.1 p) ∙ sym e)) (λ none. none v p)

    pub unprinted : (status : ExitStatus) (n : ℕ) → n ≡ code_of status → IsLack SpellsNone status → Told Prints SpellsNone room n ⊎ (n ≡ code_of statuses.Memory)
    unprinted status n e lack = unspelled Prints SpellsNone room status n e (λ text h none. none h.0 h.1) lack
