use Rattle.std.proofs.Common.{◌≡◌, rules}
use Rattle.nvme_arbiter.specs.Observation.{class_in}
use Rattle.nvme_judge.specs.Turns.{turns_of}
use Rattle.nvme_judge.specs.inside.Steps.{turn_class, some_has_waited}
use Rattle.nvme_judge.proofs.JudgeLemmas.{in_turn_by}
use Rattle.nvme_judge.proofs.judge.RuleJudge.is_in_turn.Goals as goal

pub returns : goal.returns
returns c = λ m first prior past stands.
    let class : c.turn_class-class.result ≡ turn_class c.args.self.now.mechanism (class_in c.args.seen.now c.args.pick.now.qid) = search rules in
    let waits : c.some_has_waited.result ≡ some_has_waited c.turn_class-class.result (turns_of c.args.self.now.turns c.turn_class-class.result) c.args.pick.now.qid c.args.seen.now = search rules in
    in_turn_by m first prior past c.args.seen.now c.args.pick.now c.args.self.now c.turn_class-class.result c.some_has_waited.result stands c.requires.observed c.requires.there class waits
