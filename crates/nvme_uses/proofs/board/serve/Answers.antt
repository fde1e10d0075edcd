use Rattle.std.proofs.Common.{◌≡◌, ◌+◌, [], ◌∷◌, ◌++◌, length, ap, ◌∙◌, arith, rules}
use Rattle.std.proofs.lemmas.List.{length-append}
use Rattle.nvme_uses.proofs.Boards.{served_one}
use Rattle.nvme_uses.proofs.board.serve.Goals as goal

pub loop-preserved : goal.loop-preserved
loop-preserved c =
    let more : c.push_reserved.new.self.items ≡ c.loop.picks.items ++ c.in-Some.pick ∷ [] = search rules in
    let longer : length c.push_reserved.new.self.items ≡ length c.loop.picks.items + 1 = ap length more ∙ length-append c.loop.picks.items (c.in-Some.pick ∷ []) in
    let before = c.loop.invariant.number in
    record {
      served = λ mechanism first came served.
          served_one mechanism first came c.loop.picks.items c.push_reserved.new.self.items c.in-Some.pick c.loop.board c.pick.new.self
          (λ past stands. c.in-Some.ensures.lawful mechanism first past stands)
          (λ past stands. c.in-Some.ensures.stands mechanism first past stands)
          c.in-Some.ensures.queues
          more
          (c.loop.invariant.served mechanism first came served);
      number = omega (arith, longer, before);
    }
