-- Reports on a file that should be one value.
use Rattle.std.specs.Prelude.{◌≡◌, true, false}
use Rattle.cert_tool_explain.specs.declared.report.Report.{Report}

-- The report on a file says whether the file is valid, that is, the encoding of a value of its kind
-- (`Valid`). If it isn't, the report has remarks.
abbrev pub IsReportOn : Type 0 → Report → Type 0
IsReportOn Valid report =
    (report.is_valid ≡ true → Valid) × (report.is_valid ≡ false → Valid → ⊥)
    × (report.has_remarks ≡ false → report.is_valid ≡ true)
