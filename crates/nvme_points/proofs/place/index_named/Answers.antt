use Rattle.std.proofs.Common.{rules, arith, refl}
use Rattle.std.specs.Str.Parse.{without_leading_plus}
use Rattle.nvme_points.proofs.Digits.{number_none, number_some}
use Rattle.nvme_points.proofs.place.index_named.Goals as goal

pub returns-in-Ok : goal.returns-in-Ok
returns-in-Ok c =
    let ds = without_leading_plus c.args.name.now in
    let read = c.in-Ok.ensures.value.0 in
    rw (number_some 0x1_0000_0000_0000_0000 ds read.0.0 read.0.1, ← read.1) (search (rules, arith))

pub returns-in-Err : goal.returns-in-Err
returns-in-Err c = rw (number_none 0x1_0000_0000_0000_0000 (without_leading_plus c.args.name.now) c.in-Err.ensures.value.0) refl
