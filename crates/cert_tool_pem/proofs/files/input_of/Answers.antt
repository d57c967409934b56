-- Goals of `files::input_of` that the checker doesn't prove by itself.
use Rattle.std.proofs.Common.{inl, refl, ◌∙◌}
use Rattle.cert_tool_pem.proofs.files.input_of.Goals as goal

pub returns-in-Lines-clause-stands : goal.returns-in-Lines-clause-stands
returns-in-Lines-clause-stands g c = (
  c.args.input,
  inl (inl (c.in-Lines.is, c.new-in-Lines.ensures.front ∙ c.new.ensures.items, refl), c.new-in-Lines.ensures.rest),
)
