-- Goals of `log_id::LogIdTlsValue::tls_deserialize_bytes` that the checker doesn't prove by itself.
use Rattle.x509_cert_policies.proofs.Readings.{exactly_spelled}
use Rattle.x509_cert_policies.proofs.log_id.LogIdTlsValue.tls_deserialize_bytes.Goals as goal

pub returns-clause-ok : goal.returns-clause-ok
returns-clause-ok c = exactly_spelled 32 c.args.input.now c.in-Some.key_id.now c.in-Some.rest.now c.in-Some.ensures.cases.0 c.in-Some.ensures.cases.1 c.in-Some.ensures.cases.2
