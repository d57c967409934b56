-- Goals of `set_of::read_rising` that the checker doesn't prove by itself.
use Rattle.std.proofs.Common.{Global, subst, Vec, ◌≡◌, ℕ, List, drop, Result, Ok, Err, refl, sym, ap, ◌∙◌}
use Rattle.der_core_values.specs.CoreHead.Shapes.{in_order}
use Rattle.der_core_values.specs.CoreHead.Grammar.{plain_list}
use Rattle.der_core_values.specs.CoreHead.Reading.{State, Reads, read_body_at, Source, ruled}
use Rattle.der_core_values.specs.CoreHead.declared.encoding_rules.EncodingRules.{EncodingRules}
use Rattle.der_core_values.specs.CoreHead.declared.error.Error.{Error}
use Rattle.der_core_values.specs.CoreHead.Octets.{Readings}
use Rattle.der_core_values.specs.CoreHead.declared.encoding_rules.EncodingRules.TheVariants as encodings
use Rattle.der_core_coding.specs.Steps.{step_of}
use Rattle.der_core_coding.proofs.set_of.read_members.Goals as goal

-- A call between two changes of the encoding rules leaves a reader with its own rules again.
ruled_back : {X P : Type 0} (view : X → P) (old mid end new : State) (r : Result X Error) (f : Readings P) (within rules : EncodingRules)
    → mid ≡ ruled within old → new ≡ ruled rules end → rules ≡ old.source.encoding → Reads view mid end r f → Reads view old new r f
ruled_back view old mid end new (Ok v) f within rules m n same h =
    let size : end.source.size ≡ old.source.size = ap (λ (s : State). s.source.size) h.1 ∙ ap (λ (s : State). s.source.size) m in
    let source : new.source ≡ old.source =
    ap (λ (s : State). s.source) n ∙ ap (λ (e : EncodingRules). record { encoding = e; size = end.source.size }) same ∙ ap (λ (k : ℕ). record { encoding = old.source.encoding; size = k }) size in
    let behind : new.behind ≡ old.behind = ap (λ (s : State). s.behind) n ∙ ap (λ (s : State). s.behind) h.1 ∙ ap (λ (s : State). s.behind) m in
    let room : new.room ≡ old.room = ap (λ (s : State). s.room) n ∙ ap (λ (s : State). s.room) h.1 ∙ ap (λ (s : State). s.room) m in
    let failed : new.failed ≡ old.failed = ap (λ (s : State). s.failed) n ∙ ap (λ (s : State). s.failed) h.1 ∙ ap (λ (s : State). s.failed) m in
    let before : mid.rest ≡ old.rest = ap (λ (s : State). s.rest) m in
    let after : new.rest ≡ end.rest = ap (λ (s : State). s.rest) n in
    (ap f (sym before) ∙ h.0 ∙ ap (λ (w : List ℕ). Ok (view v, w)) (sym after), rw (← behind, ← room, ← failed, ← source) refl, sym (ap (λ (s : State). s.failed) m) ∙ h.2, (h.3.0, after ∙ h.3.1 ∙ ap (drop h.3.0) before))
ruled_back view old mid end new (Err e) f within rules m n same h =
    let kept = h.1 in
    let size : end.source.size ≡ old.source.size = ap (λ (s : Source). s.size) kept.source ∙ ap (λ (s : State). s.source.size) m in
    let before : mid.rest ≡ old.rest = ap (λ (s : State). s.rest) m in
    let after : new.rest ≡ end.rest = ap (λ (s : State). s.rest) n in (
      λ ready memory. ap f (sym before) ∙ h.0 (ap (λ (s : State). s.failed) m ∙ ready) memory,
      record {
        rest = (kept.rest.0, after ∙ kept.rest.1 ∙ ap (drop kept.rest.0) before);
        behind = ap (λ (s : State). s.behind) n ∙ kept.behind ∙ ap (λ (s : State). s.behind) m;
        room = ap (λ (s : State). s.room) n ∙ kept.room ∙ ap (λ (s : State). s.room) m;
        source = ap (λ (s : State). s.source) n ∙ ap (λ (e : EncodingRules). record { encoding = e; size = end.source.size }) same ∙ ap (λ (k : ℕ). record { encoding = old.source.encoding; size = k }) size;
        failed = λ o. ap (λ (s : State). s.failed) n ∙ kept.failed (ap (λ (s : State). s.failed) m ∙ o);
      },
      λ o. h.2 (ap (λ (s : State). s.failed) m ∙ o),
      ap (λ (s : State). s.failed) n ∙ h.3,
    )

-- Members are decoded under DER, and afterwards the reader has its own rules again.
pub returns : goal.returns
returns g c =
    let state = g.R.Reader.state in
    let old = state c.args.reader.now in
    let mid = state c.set_encoding_rules.new.self in
    let end = state c.read_members_by_der-values.new.reader in
    let new = state c.set_encoding_rules-2.new.self in
    let b = in_order (step_of c.args.equal) g.T.Shaped.shape in
    let view = λ (v : Vec g.row.T.Denot Global). plain_list g.T.Shaped.plain v.items in
    let P : State → Type 0 = λ x. Reads view mid end c.read_members_by_der-values.result (read_body_at x b) in
    ruled_back view old mid end new c.read_members_by_der-values.result (read_body_at old b) encodings.Der c.encoding_rules-rules.result
    c.set_encoding_rules.ensures c.set_encoding_rules-2.ensures c.encoding_rules-rules.ensures (subst P c.set_encoding_rules.ensures c.read_members_by_der-values.ensures)
