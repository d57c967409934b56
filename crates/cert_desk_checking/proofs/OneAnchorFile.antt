-- A file of trust anchors has at most one meaning.
use Rattle.std.proofs.Common.{◌≡◌, ℕ, List, [], Result, Ok, Err, refl, ap, ◌∙◌}
use Rattle.x509_cert_anchors.specs.Der.Limits.{levels_max}
use Rattle.cert_desk_checking.specs.declared.anchor_error.AnchorError.TheVariants as errors
use Rattle.cert_desk_checking.specs.declared.anchor_fault.AnchorFault.{AnchorFault}
use Rattle.cert_desk_checking.specs.declared.anchor_fault.AnchorFault.TheVariants as faults
use Rattle.cert_desk_checking.specs.Anchors.{given_by}
use Rattle.cert_desk_checking.specs.AnchorFiles.{raw_choice, IsAnchorFile, IsFaulty, HasFirstFault, SaysAsFile}
use Rattle.cert_desk_rules.specs.Judging.{PlainAnchor}
use Rattle.cert_desk_rules.specs.DeskBundle.Series.{IsUnambiguous}
use Rattle.cert_desk_checking.proofs.FileLaws.{Ends, ends_none, ends_refused, one_reason, refused_some, one_file, not_both, one_place}

pub choices_told : IsUnambiguous raw_choice
choices_told = record { room = levels_max; element = refl; apart = refl; enough = refl }

-- Wrong bytes give no trust anchor.
faulty_ends : (fault : AnchorFault) (rest : List ℕ) → IsFaulty fault rest → Ends raw_choice choices_told given_by rest
faulty_ends faults.Malformed rest f = ends_none raw_choice choices_told given_by rest f
faulty_ends faults.NoName rest f = ends_refused raw_choice choices_told given_by errors.NoName rest f
faulty_ends faults.PathControls rest f = ends_refused raw_choice choices_told given_by errors.PathControls rest f

no_fault_at_end : (fault : AnchorFault) → IsFaulty fault [] → ⊥
no_fault_at_end faults.Malformed p = p.0 refl
no_fault_at_end faults.NoName p = refused_some raw_choice choices_told given_by errors.NoName p
no_fault_at_end faults.PathControls p = refused_some raw_choice choices_told given_by errors.PathControls p

-- Bytes have at most one error.
fault_there : (rest : List ℕ) (f g : AnchorFault) → IsFaulty f rest → IsFaulty g rest → f ≡ g
fault_there rest faults.Malformed faults.Malformed p q = refl
fault_there rest faults.Malformed faults.NoName p q = absurd (p.1 q.value q.begins)
fault_there rest faults.Malformed faults.PathControls p q = absurd (p.1 q.value q.begins)
fault_there rest faults.NoName faults.Malformed p q = absurd (q.1 p.value p.begins)
fault_there rest faults.NoName faults.NoName p q = refl
fault_there rest faults.NoName faults.PathControls p q = let wrong = one_reason raw_choice choices_told given_by errors.NoName errors.PathControls rest p q in absurd cc
fault_there rest faults.PathControls faults.Malformed p q = absurd (q.1 p.value p.begins)
fault_there rest faults.PathControls faults.NoName p q = let wrong = one_reason raw_choice choices_told given_by errors.PathControls errors.NoName rest p q in absurd cc
fault_there rest faults.PathControls faults.PathControls p q = refl

pub not_whole : (octets : List ℕ) (anchors : List PlainAnchor) (offset : ℕ) (fault : AnchorFault) → IsAnchorFile octets anchors → HasFirstFault octets offset fault → ⊥
not_whole octets anchors offset fault p q = not_both raw_choice choices_told given_by octets anchors (IsFaulty fault) offset (faulty_ends fault) (no_fault_at_end fault) p q

pub one_anchor_file : (octets : List ℕ) (said other : Result (List PlainAnchor) (ℕ × AnchorFault)) → SaysAsFile octets said → SaysAsFile octets other → said ≡ other
one_anchor_file octets (Ok anchors) (Ok others) p q = ap (λ (xs : List PlainAnchor). Ok xs) (one_file raw_choice choices_told given_by octets anchors others p q)
one_anchor_file octets (Ok anchors) (Err (offset, fault)) p q = absurd (not_whole octets anchors offset fault p q)
one_anchor_file octets (Err (offset, fault)) (Ok others) p q = absurd (not_whole octets others offset fault q p)
one_anchor_file octets (Err (offset, fault)) (Err (place, kind)) p q =
    let same = one_place raw_choice choices_told given_by octets (IsFaulty fault) (IsFaulty kind) offset place (faulty_ends fault) (faulty_ends kind) p q in
    ap (λ (n : ℕ). Err (n, fault)) same.0 ∙ ap (λ (f : AnchorFault). Err (place, f)) (fault_there same.1.0 fault kind same.1.1 same.1.2)
