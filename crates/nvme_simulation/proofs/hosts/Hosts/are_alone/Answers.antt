use Rattle.std.proofs.Common.{arith}
use Rattle.nvme_simulation.proofs.Beginnings.{left_out_more}
use Rattle.nvme_simulation.proofs.hosts.Hosts.are_alone.Goals as goal

pub loop-qid-init : goal.loop-qid-init
loop-qid-init c k l = absurd (omega (arith, l))

pub loop-qid-preserved : goal.loop-qid-preserved
loop-qid-preserved c = left_out_more c.args.front.now _ c.loop-qid.qid c.loop-qid.invariant (c.is_left_out.ensures (grind (arith, c.if-not-is_left_out.false)))

pub returns : goal.returns
returns c t = record {
  admin = c.shows_admin.ensures (grind (arith, c.if-not-shows_admin.false));
  none = λ qid count limit. c.loop-qid.invariant qid (omega (arith, limit, c.loop-qid-test.false)) count;
}
