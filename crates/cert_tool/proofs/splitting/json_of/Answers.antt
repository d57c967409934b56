-- Goals of `splitting::json_of` that the checker doesn't prove by itself.
use Rattle.std.proofs.Common.{◌≡◌, ℕ, suc, ◌+◌, List, ◌++◌, string_bytes, ap, sym, ◌∙◌, add-one, append_assoc}
use Rattle.cert_tool_explain.specs.CertCertificates.Certificates.{PlainCertificate}
use Rattle.cert_tool.specs.Splitting.{comma_before, json_at, json_places_below}
use Rattle.cert_tool.proofs.splitting.json_of.Goals as goal

-- One more object is appended.
json_more : (cs : List PlainCertificate) (place : ℕ) (before after comma object : List ℕ) → before ≡ json_places_below cs place → comma ≡ comma_before place → object ≡ json_at cs place
    → after ≡ before ++ (comma ++ object) → after ≡ json_places_below cs (place + 1)
json_more cs place before after comma object so_far first one e =
    let joined : after ≡ json_places_below cs (suc place) = e ∙ ap (λ (t : List ℕ). t ++ (comma ++ object)) so_far
    ∙ ap (λ (t : List ℕ). json_places_below cs place ++ t) (ap (λ (t : List ℕ). t ++ object) first ∙ ap (λ (t : List ℕ). comma_before place ++ t) one)
    ∙ sym (append_assoc (json_places_below cs place) (comma_before place) (json_at cs place)) in
    joined ∙ sym (ap (json_places_below cs) (add-one place))

pub loop-place-preserved : goal.loop-place-preserved
loop-place-preserved c =
    json_more c.args.bundle.now.certificates c.loop-place.place (string_bytes c.loop-place.text) (string_bytes c.write.new.self) c.comma_before-comma.result.now c.as_str-object.result.now
    c.loop-place.invariant c.comma_before-comma.ensures (c.as_str-object.ensures.value ∙ c.in_ok-object.ensures) c.in_ok-write.ensures.bytes
