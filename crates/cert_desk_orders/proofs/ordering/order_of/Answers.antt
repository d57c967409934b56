-- Goals of `ordering::order_of` that the checker doesn't prove by itself.
use Rattle.cert_desk_orders.proofs.SoundOrders.{HasValues-lines}
use Rattle.cert_desk_orders.proofs.ordering.order_of.Goals as goal

pub text_of-requires : goal.text_of-requires
text_of-requires c = (HasValues-lines c.args.lines.now c.requires.some c.requires.sound).name

pub text_of-requires-2 : goal.text_of-requires-2
text_of-requires-2 c = (HasValues-lines c.args.lines.now c.requires.some c.requires.sound).from

pub text_of-requires-3 : goal.text_of-requires-3
text_of-requires-3 c = (HasValues-lines c.args.lines.now c.requires.some c.requires.sound).until

pub serial_of-requires : goal.serial_of-requires
serial_of-requires c = (HasValues-lines c.args.lines.now c.requires.some c.requires.sound).serial

pub key_of-requires : goal.key_of-requires
key_of-requires c = (HasValues-lines c.args.lines.now c.requires.some c.requires.sound).key
