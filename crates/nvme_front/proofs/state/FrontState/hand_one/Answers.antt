-- What a job that is handed leaves; where none was handed nothing changed.
use Rattle.nvme_front.proofs.GainOne.{same_jobs, hand-goes, hand-balanced, hand-ends, hand-in_hand, hand-kept, handed-fewer, handed-more, jobs_have_room}
use Rattle.nvme_front.proofs.state.FrontState.hand_one.Goals as goal

pub returns-clause-consistent : goal.returns-clause-consistent
returns-clause-consistent g c = hand-kept c.args.self.now _ c.hand.new.self c.hand.result c.hand.ensures.none c.hand.ensures.one c.requires.consistent c.requires.admin

pub returns-clause-goes : goal.returns-clause-goes
returns-clause-goes g c = hand-goes c.args.self.now _ c.hand.new.self c.hand.result c.hand.ensures.none c.hand.ensures.one

pub returns-clause-still : goal.returns-clause-still
returns-clause-still g c = λ no. same_jobs c.args.self.now _ c.hand.new.self (c.hand.ensures.none no)

pub hand-requires-clause-room : goal.hand-requires-clause-room
hand-requires-clause-room g c = jobs_have_room c.args.self.now c.requires.consistent c.requires.admin

pub returns-clause-balanced : goal.returns-clause-balanced
returns-clause-balanced g c = hand-balanced c.args.self.now c.args.self.now.config.few_events c.hand.new.self c.hand.result c.hand.ensures.none c.hand.ensures.one

pub returns-clause-in_hand : goal.returns-clause-in_hand
returns-clause-in_hand g c = hand-in_hand c.args.self.now c.args.self.now.config.few_events c.hand.new.self c.hand.result c.hand.ensures.none c.hand.ensures.one

pub returns-clause-fewer : goal.returns-clause-fewer
returns-clause-fewer g c = λ was. handed-fewer c.args.self.now.config.spaces c.args.self.now.jobs c.hand.new.self (c.hand.ensures.one was)

pub returns-clause-more : goal.returns-clause-more
returns-clause-more g c = λ was. handed-more c.args.self.now.config.spaces c.args.self.now.jobs c.hand.new.self (c.hand.ensures.one was)

pub returns-clause-ends : goal.returns-clause-ends
returns-clause-ends g c = hand-ends c.args.self.now c.args.self.now.config.few_events c.hand.new.self c.hand.result c.hand.ensures.none c.hand.ensures.one
