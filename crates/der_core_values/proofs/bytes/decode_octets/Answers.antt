-- Goals of `bytes::decode_octets` that the checker doesn't prove by itself.
use Rattle.der_core_values.proofs.Headed.{content_reads}
use Rattle.der_core_values.proofs.bytes.decode_octets.Goals as goal

pub returns-clause-content : goal.returns-clause-content
returns-clause-content g c = content_reads c.args.header.tag c.args.header.length.value (λ b. b) (g.R.Reader.state c.args.reader.now) (g.R.Reader.state c.copy_content.new.reader) c.copy_content.result c.copy_content.ensures
