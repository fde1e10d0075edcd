-- The deletion that can be finished is the pending one; its end is logged. Where there is none the deletion waits.
use Rattle.std.proofs.Common.{◌∙◌, refl, sym, ap}
use Rattle.nvme_log.proofs.PickCounts.{picks-noted}
use Rattle.nvme_log.specs.Queues.{Deletion, pending}
use Rattle.nvme_front.specs.declared.state.FrontState.{FrontState}
use Rattle.nvme_front.specs.inside.Room.{IsRunning}
use Rattle.nvme_front.proofs.States.{IsSame-refl, kept_same, Goes-same, noted}
use Rattle.nvme_front.proofs.PostOne.{room_alone, engine_stands}
use Rattle.nvme_front.proofs.CloseOne.{IsClosed, waits_for, closed-goes, closed-kept}
use Rattle.nvme_front.proofs.state.FrontState.finish.Goals as goal

pub returns-in_default-clause-still : goal.returns-in_default-clause-still
returns-in_default-clause-still c = λ _.
    let s = c.args.self.now in
    let k : IsRunning s = c.requires.consistent.running c.requires.admin in
    (IsSame-refl s, waits_for s k (c.finishing.ensures.none _ _ k.notes k.stands c.in_default.is))

pub returns-in_err-make_room-clause-consistent : goal.returns-in_err-make_room-clause-consistent
returns-in_err-make_room-clause-consistent c = kept_same c.args.self.now _ (room_alone c.args.self.now _ refl c.make_room.ensures.same refl) c.requires.consistent

pub returns-in_err-make_room-clause-goes : goal.returns-in_err-make_room-clause-goes
returns-in_err-make_room-clause-goes c = Goes-same c.args.self.now _ (room_alone c.args.self.now _ refl c.make_room.ensures.same refl)

pub finish-requires : goal.finish-requires
finish-requires c = record { engine = engine_stands c.args.self.now (c.requires.consistent.running c.requires.admin) }

abbrev running : (c : goal.After-note) → IsRunning c.args.self.now
running c = c.requires.consistent.running c.requires.admin

abbrev deletion : goal.After-note → Deletion
deletion c = record { qid = c.in-Some.deletion.qid; region = c.in-Some.deletion.region }

-- the front at the end
abbrev after : goal.After-note → FrontState
after c = record c.args.self.now { engine = c.finish.new.self; log = c.note.new.log }

closed : (c : goal.After-note) → IsClosed c.args.self.now (after c) (running c) (deletion c)
closed c =
    let k = running c in
    let some = c.in-Some.ensures.some _ _ k.notes k.stands in
    record {
      finished = c.finish.ensures.stands _ _ k.notes (deletion c) k.stands some.0 some.1;
      log = noted _ _ _ _ c.make_room.ensures.same c.note.ensures.items;
      room = c.in_ok-make_room.ensures.within;
      sqs = refl;
      cqs = refl;
      jobs = refl;
      late = refl;
      config = refl;
      alloc = refl;
    }

pub returns-clause-consistent : goal.returns-clause-consistent
returns-clause-consistent c = closed-kept c.args.self.now (after c) (running c) (deletion c) (closed c) c.requires.consistent c.requires.admin

pub returns-clause-goes : goal.returns-clause-goes
returns-clause-goes c = closed-goes c.args.self.now (after c) (running c) (deletion c) (closed c)

pub returns-clause-picks : goal.returns-clause-picks
returns-clause-picks c = picks-noted _ _ _ _ c.make_room.ensures.same c.note.ensures.items refl

pub returns-clause-closed : goal.returns-clause-closed
returns-clause-closed c = λ _.
    let k = running c in
    record {
      deletion = deletion c;
      was_pending = ap pending (sym k.past_is) ∙ (c.in-Some.ensures.some _ _ k.notes k.stands).0;
      log_is = noted _ _ _ _ c.make_room.ensures.same c.note.ensures.items;
    }
