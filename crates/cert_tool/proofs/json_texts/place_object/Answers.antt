-- Goals of `json_texts::place_object` that the checker doesn't prove by itself.
use Rattle.std.proofs.Common.{rules, append_assoc}
use Rattle.cert_tool.proofs.json_texts.place_object.Goals as goal

pub returns : goal.returns
returns c = search (rules, append_assoc)
