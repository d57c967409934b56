-- The reports on a trusted chain that must meet demands beyond the rules of path validation.
use Rattle.std.specs.Prelude.{◌≡◌, ℕ, ◌⊎◌, List, ◌++◌, codes, decimal, Bool, true, false, Option, Some}
use Rattle.std.specs.Prelude.{None, [], slice_get}
use Rattle.std.specs.Option.{option_map_or}
use Rattle.cert_tool_explain.specs.DeskIo.declared.exit_status.ExitStatus.{ExitStatus}
use Rattle.cert_tool_explain.specs.DeskIo.declared.exit_status.ExitStatus.TheVariants as statuses
use Rattle.cert_tool_explain.specs.DeskIo.Devices.{Device, Untouched}
use Rattle.cert_tool_explain.specs.DeskIo.Telling.{IsAnswer, IsMemoryTold}
use Rattle.cert_tool_explain.specs.DeskRules.declared.checked.Checked.{Checked}
use Rattle.cert_tool_explain.specs.DeskRules.declared.checked.Verdict.{Verdict}
use Rattle.cert_tool_explain.specs.DeskRules.declared.checked.Verdict.TheVariants as verdicts
use Rattle.cert_tool_explain.specs.DeskRules.Judging.{Answers}
use Rattle.cert_tool_explain.specs.CertCertificates.Certificates.{PlainCertificate, not_after}
use Rattle.cert_tool_explain.specs.Types.DateTexts.{date_text}
use Rattle.cert_tool_limits.specs.declared.demands.Demands.{Demands}
use Rattle.cert_tool_limits.specs.declared.demands.DemandResult.{DemandResult}
use Rattle.cert_tool_limits.specs.declared.demands.DemandResult.TheVariants as outcomes
use Rattle.cert_tool_limits.specs.declared.demands.Unmet.{Unmet}
use Rattle.cert_tool_limits.specs.DemandChecks.{IsDemandResult, are_made}
use Rattle.cert_tool_limits.specs.Limits.{limit_name}
use Rattle.cert_tool.specs.declared.option_values.Terms.{Terms}
use Rattle.cert_tool.specs.declared.status.Status.{Status}
use Rattle.cert_tool.specs.Statuses.{Exits, warned}
use Rattle.cert_tool.specs.Verifying.{IsUnjudgedIf, IsVerdictReported, refused_json}
use Rattle.cert_tool.specs.EndEntities.{trusted_text, end_entity_text}

-- The demands are checked: the chain is trusted, and there are demands.
abbrev pub has_checked_demands : Demands → Verdict → Bool
has_checked_demands demands verdicts.Trusted = are_made demands
has_checked_demands demands (verdicts.Refused place rule) = false
has_checked_demands demands (verdicts.StreamFault place offset kind) = false
has_checked_demands demands verdicts.Empty = false

-- The report on a demand that isn't met. It has the form of the report on a broken rule.
abbrev pub unmet_text : Bool → List ℕ → Unmet → ℕ → List ℕ
unmet_text true unjudged unmet calls =
    refused_json unmet.place (limit_name unmet.limit) calls unjudged
unmet_text false unjudged unmet calls =
    codes "refused " ++ decimal unmet.place ++ codes " " ++ limit_name unmet.limit
    ++ codes " calls=" ++ decimal calls ++ codes "\n"

-- The notAfter of the certificate at this index.
abbrev pub end_date : List PlainCertificate → ℕ → List ℕ
end_date cs place = option_map_or (λ c. date_text (not_after c)) (slice_get cs place) []

-- The report on a trusted chain of which the certificate at this index ends soon, on this date.
abbrev pub ends_at_text : Bool → List ℕ → ℕ → List ℕ → ℕ → List ℕ
ends_at_text true whom place date calls =
    codes "{\"verdict\":\"trusted\",\"calls\":" ++ decimal calls ++ whom ++ codes ",\"ends\":"
    ++ decimal place ++ codes ",\"notAfter\":\"" ++ date ++ codes "\"}\n"
ends_at_text false whom place date calls =
    codes "trusted calls=" ++ decimal calls ++ whom ++ codes "\nends " ++ decimal place ++ codes " "
    ++ date ++ codes "\n"

-- The report on a trusted chain whose trust anchor ends soon.
abbrev pub anchor_ends_text : Bool → List ℕ → ℕ → List ℕ
anchor_ends_text true whom calls =
    codes "{\"verdict\":\"trusted\",\"calls\":" ++ decimal calls ++ whom
    ++ codes ",\"ends\":\"anchor\"}\n"
anchor_ends_text false whom calls =
    codes "trusted calls=" ++ decimal calls ++ whom ++ codes "\nends anchor\n"

-- The report on a trusted chain that ends soon. It has the index and the notAfter of the
-- certificate that ends, or `anchor`.
abbrev pub ends_text : Bool → List ℕ → List PlainCertificate → Option ℕ → ℕ → List ℕ
ends_text json whom cs (Some place) calls =
    ends_at_text json whom place (end_date cs place) calls
ends_text json whom cs None calls = anchor_ends_text json whom calls

-- The report on a trusted chain, by the result of checking the demands.
abbrev pub demand_result_text : Bool → List ℕ → List PlainCertificate → DemandResult → ℕ → List ℕ
demand_result_text json unjudged cs outcomes.Met calls =
    trusted_text json (end_entity_text json cs ++ unjudged) calls
demand_result_text json unjudged cs (outcomes.Unmet unmet) calls =
    unmet_text json unjudged unmet calls
demand_result_text json unjudged cs (outcomes.Ends place) calls =
    ends_text json (end_entity_text json cs ++ unjudged) cs place calls

-- The text is written to the output, and the status is that of the result.
abbrev pub IsDemandResultReported : Device → Device → List ℕ → DemandResult → Status → Type 0
IsDemandResultReported out err text outcomes.Met answer =
    Exits (IsAnswer out err text statuses.Done) answer
IsDemandResultReported out err text (outcomes.Unmet unmet) answer =
    Exits (IsAnswer out err text statuses.Refused) answer
IsDemandResultReported out err text (outcomes.Ends place) answer =
    (status : ExitStatus) × IsAnswer out err text statuses.Done status × (answer ≡ warned status)

-- The demands on a trusted chain are checked, and the result is reported; or memory runs out, which
-- is reported.
abbrev pub AreDemandsReported : Terms → Answers → List ℕ → List ℕ → List PlainCertificate → Device
    → Device → ℕ → Status → Type 0
AreDemandsReported terms answers octets unjudged cs out err calls answer =
    ((held : DemandResult)
    × IsDemandResult terms.demands answers terms.moment terms.purpose cs octets held
    × IsDemandResultReported out err (demand_result_text terms.is_json unjudged cs held calls) held
    answer)
    ⊎ (Untouched out × Exits (IsMemoryTold err) answer)

-- The report on a chain with this member `unjudged`: if the demands are checked, their result, else
-- the verdict.
abbrev pub IsReportedWith : List ℕ → Terms → Answers → List ℕ → List PlainCertificate → Device
    → Device → Checked → Status → Type 0
IsReportedWith unjudged terms answers octets cs out err checked answer =
    ((has_checked_demands terms.demands checked.verdict ≡ true)
    × AreDemandsReported terms answers octets unjudged cs out err checked.calls answer)
    ⊎ ((has_checked_demands terms.demands checked.verdict ≡ false)
    × Exits (IsVerdictReported terms.is_json unjudged cs out err checked) answer)

-- The report on a chain. If memory runs out for what no rule checks, that is reported.
abbrev pub IsChainReported : Terms → Answers → List ℕ → List PlainCertificate → Device → Device
    → Checked → Status → Type 0
IsChainReported terms answers octets cs out err checked answer =
    ((unjudged : List ℕ)
    × IsUnjudgedIf terms.is_json terms.demands.is_strict terms.purpose octets cs unjudged
    × IsReportedWith unjudged terms answers octets cs out err checked answer)
    ⊎ (Untouched out × Exits (IsMemoryTold err) answer)
