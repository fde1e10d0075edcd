use Rattle.std.proofs.Common.{◌≡◌, ◌∙◌, replicate, sym, arith, rules}
use Rattle.std.proofs.lemmas.Grind.{common_steps}
use Rattle.nvme_channels.specs.Devices.{idle}
use Rattle.nvme_channels.proofs.Bits.{none_busy}
use Rattle.nvme_channels.proofs.channels.Channels.new.Goals as goal

pub invariant_of-result : goal.invariant_of-result
invariant_of-result c =
    let items : c.in-Ok.channels.items ≡ replicate c.args.count idle = c.in-Ok.ensures.items_if_clones_equal (λ y e. e) in
    record {
      some = search rules;
      worked = grind (arith, common_steps);
      counted = grind (arith, common_steps);
      marked = c.in-Ok-new.ensures ∙ sym (rw items (none_busy c.args.count idle));
      reserved = search rules;
    }
