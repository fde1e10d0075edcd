use Rattle.std.proofs.Common.{◌∙◌, length, ap, arith, rules}
use Rattle.std.proofs.lemmas.Grind.{common_steps}
use Rattle.std.specs.Prelude.{slice_set}
use Rattle.std.proofs.lemmas.List.{length-map}
use Rattle.nvme_channels.specs.Channel.{is_idle}
use Rattle.nvme_channels.specs.inside.Marks.{marks_of}
use Rattle.nvme_channels.proofs.Bits.{idle_put}
use Rattle.nvme_channels.proofs.channels.Channels.put.Goals as goal

pub put-requires : goal.put-requires
put-requires c =
    let self = c.args.self.now in
    record { within = omega (arith, ap length self.marked ∙ length-map self.channels.items is_idle) }

pub invariant_of-self : goal.invariant_of-self
invariant_of-self c =
    let self = c.args.self.now in
    record {
      some = search rules;
      worked = grind (arith, common_steps);
      counted = grind (arith, common_steps);
      marked = idle_put self.channels.items c.args.channel c.args.becomes (marks_of self.idle) (marks_of c.put.new.self) self.marked
          (c.put.ensures ∙ ap (slice_set (marks_of self.idle) c.args.channel) c.is_idle.ensures);
      reserved = search rules;
    }
