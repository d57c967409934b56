-- Laws about the verdict on a chain, and on an input with an error.
use Rattle.std.proofs.Common.{◌≡◌, ℕ, ◌+◌, ◌-◌, ◌<◌, ◌^◌, min, max, List, [], ◌∷◌, ◌++◌, length, true, refl, sym, ap, ◌∙◌, subst, arith}
use Rattle.std.proofs.lemmas.Bool.{both_ways}
use Rattle.x509_cert_anchors.specs.CertCertificates.Certificates.{PlainCertificate, certificate_octets}
use Rattle.cert_desk_rules.specs.declared.checked.Checked.{Checked}
use Rattle.cert_desk_rules.specs.DeskBundle.declared.standing.Standing.TheVariants as standings
use Rattle.cert_desk_rules.specs.declared.checked.Verdict.{Verdict}
use Rattle.cert_desk_rules.specs.declared.checked.Verdict.TheVariants as verdicts
use Rattle.cert_desk_rules.specs.DeskBundle.declared.fault_kind.FaultKind.{FaultKind}
use Rattle.cert_desk_rules.specs.DeskBundle.Chains.{Chain, joined}
use Rattle.cert_desk_rules.specs.DeskBundle.Faults.{StreamFault}
use Rattle.cert_desk_rules.specs.Judging.{Terms, in_order, keeps_at}
use Rattle.cert_desk_rules.specs.Verdicts.{IsVerdict, Trusted, Asks, IsCounted, asked}
use Rattle.cert_desk_rules.specs.DeskBundle.Streams.{Kept, Reads}
use Rattle.cert_desk_checking.specs.Places.{Rises}
use Rattle.cert_desk_rules.proofs.DeskBundle.OneChain.{one_chain, fault_no_chain}
use Rattle.cert_desk_checking.proofs.Encodings.{certificate_octets-first}
use Rattle.cert_desk_rules.proofs.DeskBundle.Readings.{ReadsUnder}
use Rattle.cert_desk_rules.proofs.RuleList.{broken_is}

-- An encoding isn't empty.
pub encoding_is_some : (bound : ℕ) (c : PlainCertificate) (w : List ℕ) → [] ≡ certificate_octets bound c ++ w → ⊥
encoding_is_some bound c w e =
    let first = certificate_octets-first bound c in
    let longer : [] ≡ 0x30 ∷ (first.0 ++ w) = e ∙ ap (λ x. x ++ w) first.1 in
    absurd cc

pub chain_is_some : (bound : ℕ) (cs : List PlainCertificate) → 0 < length cs → [] ≡ joined bound cs → ⊥
chain_is_some bound [] h e = absurd (omega arith)
chain_is_some bound (c ∷ cs) h e = encoding_is_some bound c (joined bound cs) e

-- A trusted input has no other verdict.
pub only_trusted : (t : Terms) (limit : ℕ) (stream : List ℕ) (verdict : Verdict) → IsVerdict t limit stream verdict → Trusted t limit stream → verdict ≡ verdicts.Trusted
only_trusted t limit stream (verdicts.StreamFault place offset kind) v k = absurd (fault_no_chain t.bound limit v.certificates k.certificates kind stream v.found k.chain)
only_trusted t limit stream verdicts.Empty v k = absurd (chain_is_some t.bound k.certificates k.some (sym v ∙ k.chain.joins))
only_trusted t limit stream verdicts.Trusted v k = refl
only_trusted t limit stream (verdicts.Refused place rule) v k =
    let same = one_chain t.bound limit v.certificates k.certificates stream v.chain k.chain in
    let within = subst (λ cs. place < length cs) same v.within in
    let broken = broken_is (λ other. keeps_at other t v.certificates stream place) in_order rule v.first in
    absurd (both_ways _ broken (subst (λ cs. keeps_at rule t cs stream place ≡ true) (sym same) (k.kept place rule within)))

-- The questions about a chain, and about an input with an error.
pub Asks-chain : (t : Terms) (limit : ℕ) (cs : List PlainCertificate) (stream : List ℕ) → Chain t.bound limit cs stream → Asks t limit stream (asked t cs stream)
unfolding asked
Asks-chain t limit cs stream h = record {
  chain = λ ds k. ap (λ xs. asked t xs stream) (one_chain t.bound limit cs ds stream h k);
  fault = λ none. absurd (none cs h);
}

pub Asks-fault : (t : Terms) (limit : ℕ) (cs : List PlainCertificate) (stream : List ℕ) (kind : FaultKind) → StreamFault t.bound limit stream cs kind → Asks t limit stream 0
Asks-fault t limit cs stream kind h = record {
  chain = λ ds k. absurd (fault_no_chain t.bound limit cs ds kind stream h k);
  fault = λ _. refl;
}

-- The input that an ended bundle, and one with an error, has read.
pub reads_chain : (bound : ℕ) (b : Kept) (stream : List ℕ) → standings.Ended ≡ b.standing → Reads bound b stream → Chain bound b.limit b.certificates stream
reads_chain bound b stream e h = subst (λ s. ReadsUnder bound s b stream) (sym e) h

pub reads_fault : (bound : ℕ) (b : Kept) (stream : List ℕ) (kind : FaultKind) → standings.Faulted kind ≡ b.standing → Reads bound b stream → StreamFault bound b.limit stream b.certificates kind
reads_fault bound b stream kind e h = subst (λ s. ReadsUnder bound s b stream) (sym e) h

capped_from_none : (cap n : ℕ) → max 0 (min (0 + n) cap) ≡ min n cap
capped_from_none cap n = omega arith

pub counted_by : (t : Terms) (limit : ℕ) (stream : List ℕ) (checked : Checked) (n q r : ℕ) → Asks t limit stream n → Rises n q 0 r checked.calls
    → IsCounted t limit stream checked q r
counted_by t limit stream checked n q r asks rises = record {
  number_asked = n;
  asks = asks;
  calls = rises.calls ∙ capped_from_none (2 ^ 64 - 1) n;
  questions = rises.questions;
}
