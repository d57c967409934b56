-- The names in the report on a trusted chain: the subject and the issuer of the end-entity
-- certificate, which is the last one of a chain.
use Rattle.std.specs.Prelude.{ℕ, List, [], ◌∷◌, ◌++◌, length, codes, decimal, Bool, true, false}
use Rattle.std.specs.Prelude.{slice_get}
use Rattle.std.specs.Option.{option_map_or}
use Rattle.cert_tool_explain.specs.CertCertificates.Certificates.{PlainCertificate, issuer, subject}
use Rattle.cert_tool_explain.specs.CertNames.PlainTexts.{name_text}
use Rattle.cert_tool.specs.JsonTexts.{escaped_text}

-- The member `endEntity` of a JSON object (RFC 8259), with these names.
abbrev pub names_object : ℕ → List ℕ → List ℕ → List ℕ
names_object place subject issuer =
    codes ",\"endEntity\":{\"place\":" ++ decimal place ++ codes ",\"subject\":\"" ++ subject
    ++ codes "\",\"issuer\":\"" ++ issuer ++ codes "\"}"

-- The index and the names of a certificate, as they are printed after the number of calls.
abbrev pub names_of_entry : Bool → ℕ → PlainCertificate → List ℕ
names_of_entry true place c =
    names_object place (escaped_text (name_text (subject c))) (escaped_text (name_text (issuer c)))
names_of_entry false place c = codes " \"" ++ escaped_text (name_text (subject c)) ++ codes "\""

-- The index and the names of the certificate at an index, as they are printed.
abbrev pub names_of_entry_at : Bool → List PlainCertificate → ℕ → List ℕ
names_of_entry_at json cs place = option_map_or (names_of_entry json place) (slice_get cs place) []

-- The names of the last certificate of a chain, as they are printed after the number of calls.
abbrev pub end_entity_text : Bool → List PlainCertificate → List ℕ
end_entity_text json [] = []
end_entity_text json (c ∷ cs) = names_of_entry_at json (c ∷ cs) (length cs)

-- The report on a trusted chain, as JSON (RFC 8259) or as a line.
abbrev pub trusted_text : Bool → List ℕ → ℕ → List ℕ
trusted_text true whom calls =
    codes "{\"verdict\":\"trusted\",\"calls\":" ++ decimal calls ++ whom ++ codes "}\n"
trusted_text false whom calls = codes "trusted calls=" ++ decimal calls ++ whom ++ codes "\n"
