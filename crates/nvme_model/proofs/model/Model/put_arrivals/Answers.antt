use Rattle.std.proofs.Common.{rules, ◌≡◌, ◌<◌, ◌+◌, ℕ, List, length, refl}
use Rattle.std.proofs.lemmas.List.{get_or-set_other, length-set}
use Rattle.nvme_model.specs.declared.queue.Queue.{Queue}
use Rattle.nvme_model.proofs.Arrivals.{in_place}
use Rattle.nvme_model.proofs.model.Model.put_arrivals.Goals as goal

-- src/model.rt:133:5
pub returns-then-place-len-clause-queues : goal.returns-then-place-len-clause-queues
returns-then-place-len-clause-queues c =
    let queues : List Queue = c.args.self.now.queues.items in
    let place : ℕ = c.in-Some.place in
    let number : c.args.number ≡ place + 1 = search rules in
    let within : place < length queues = search rules in
    record {
      count = length-set queues place _;
      this = λ i q at inside.
          in_place c.args.arrivals queues place i q c.index_mut.result.now _ (search rules) within c.index_mut.ensures.value
          (record { arrivals = refl; class = refl; slots = refl; mix = refl; places = refl; services = refl });
      others = λ i q other. get_or-set_other queues place i _ q (search rules);
    }
