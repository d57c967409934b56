-- Goals of `attribute_type_and_value::write_four` that the checker doesn't prove by itself.
use Rattle.std.proofs.Common.{◌++◌, refl}
use Rattle.der_core.proofs.Added.{put_then_added, refused_adds, write_adds}
use Rattle.x509_cert_names.proofs.attribute_type_and_value.write_four.Goals as goal

pub returns-in_err-write-2-clause-front : goal.returns-in_err-write-2-clause-front
returns-in_err-write-2-clause-front g c = put_then_added _ (c.args.second.now ++ (c.args.third.now ++ c.args.fourth.now)) _ _ _ c.in_ok-write.ensures.exact (refused_adds _ _ _ _ c.in_err-write-2.ensures.refused)

pub returns-in_err-write-3-clause-front : goal.returns-in_err-write-3-clause-front
returns-in_err-write-3-clause-front g c =
    put_then_added _ _ _ _ _ c.in_ok-write.ensures.exact (put_then_added _ (c.args.third.now ++ c.args.fourth.now) _ _ _ c.in_ok-write-2.ensures.exact (refused_adds _ _ _ _ c.in_err-write-3.ensures.refused))

pub returns-clause-front : goal.returns-clause-front
returns-clause-front g c =
    put_then_added _ _ _ _ _ c.in_ok-write.ensures.exact (put_then_added _ _ _ _ _ c.in_ok-write-2.ensures.exact (put_then_added _ c.args.fourth.now _ _ _ c.in_ok-write-3.ensures.exact
    (write_adds _ _ _ _ _ _ c.write-4.ensures.exact c.write-4.ensures.refused refl)))
