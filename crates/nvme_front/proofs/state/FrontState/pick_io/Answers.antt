use Rattle.std.proofs.Common.{◌≡◌, ◌∙◌, [], ◌∷◌, Some, None, refl, ap, sym}
use Rattle.nvme_log.specs.declared.event.Event.TheVariants as event
use Rattle.nvme_log.specs.Histories.{picks_in}
use Rattle.nvme_log.proofs.PickCounts.{picks_in-append}
use Rattle.nvme_front.specs.declared.state.FrontState.{FrontState}
use Rattle.nvme_front.specs.inside.State.{past_of}
use Rattle.nvme_front.proofs.States.{Goes-same, kept_same, noted}
use Rattle.nvme_front.proofs.RunningFacts.{due, none_open, opened, told_region, told_seen, has_engine, jobs_fit, few_tickets}
use Rattle.nvme_front.proofs.PickedQueue.{PickedIo, middle_engine, io-kept, io-goes, io-seat, io-running, io-picks_of}
use Rattle.nvme_front.proofs.state.FrontState.pick_io.Goals as goal

-- where only room in the log was made
pub returns-in_err-make_room-clause-consistent : goal.returns-in_err-make_room-clause-consistent
returns-in_err-make_room-clause-consistent c =
    kept_same c.args.self.now (record c.args.self.now { log = c.make_room.new.log })
    (record { log = c.make_room.ensures.same; sqs = refl; cqs = refl; engine = refl; jobs = refl; late = refl; config = refl; alloc = refl }) c.requires.consistent

pub returns-in_err-make_room-clause-goes : goal.returns-in_err-make_room-clause-goes
returns-in_err-make_room-clause-goes c =
    Goes-same c.args.self.now (record c.args.self.now { log = c.make_room.new.log })
    (record { log = c.make_room.ensures.same; sqs = refl; cqs = refl; engine = refl; jobs = refl; late = refl; config = refl; alloc = refl })

pub returns-in_err-seen-clause-consistent : goal.returns-in_err-seen-clause-consistent
returns-in_err-seen-clause-consistent c =
    kept_same c.args.self.now (record c.args.self.now { log = c.make_room.new.log })
    (record { log = c.make_room.ensures.same; sqs = refl; cqs = refl; engine = refl; jobs = refl; late = refl; config = refl; alloc = refl }) c.requires.consistent

pub returns-in_err-seen-clause-goes : goal.returns-in_err-seen-clause-goes
returns-in_err-seen-clause-goes c =
    Goes-same c.args.self.now (record c.args.self.now { log = c.make_room.new.log })
    (record { log = c.make_room.ensures.same; sqs = refl; cqs = refl; engine = refl; jobs = refl; late = refl; config = refl; alloc = refl })

pub unreachable-requires : goal.unreachable-requires
unreachable-requires c =
    let s = c.args.self.now in
    let k = c.requires.consistent.running c.requires.admin in
    let is = due s k c.args.pick c.requires.next in
    let none = none_open (past_of s) c.args.pick.qid (sym c.in_default.is ∙ told_region s k c.args.pick.qid c.sq_region.result c.sq_region.ensures) in
    let both : None ≡ Some is.queue = sym none ∙ is.is_open in
    cc both

pub pick_io-requires : goal.pick_io-requires
pick_io-requires c = record { engine = has_engine c.args.self.now (c.requires.consistent.running c.requires.admin) }

pub dispatch-requires-clause-engine : goal.dispatch-requires-clause-engine
dispatch-requires-clause-engine c =
    let s = c.args.self.now in
    let k = c.requires.consistent.running c.requires.admin in
    let on = opened s k c.args.pick.qid c.in-Some.region c.in-Some.region c.sq_region.result c.sq_region.ensures c.in-Some.is refl in
    middle_engine s k c.args.pick c.requires.next c.requires.none_pending c.requires.io c.requires.places c.in-Some.region on c.pick_io.new.self
    (λ rules late notes stands may io. c.pick_io.ensures.stands rules late notes c.args.pick stands may io)

pub dispatch-requires-clause-room : goal.dispatch-requires-clause-room
dispatch-requires-clause-room c =
    jobs_fit c.args.self.now (c.requires.consistent.running c.requires.admin) c.args.pick c.requires.io c.requires.places c.requires.consistent.roomy c.requires.admin

pub dispatch-requires-clause-few : goal.dispatch-requires-clause-few
dispatch-requires-clause-few c =
    few_tickets c.args.self.now (c.requires.consistent.running c.requires.admin) c.args.pick c.requires.io c.requires.places c.requires.consistent.roomy

-- ---- the pick
abbrev with_pick : (c : goal.After-note) → FrontState
with_pick c = record c.args.self.now { engine = c.dispatch.new.engine; jobs = c.dispatch.new.jobs; log = c.note.new.log }

is_picked : (c : goal.After-note) → PickedIo c.args.self.now (with_pick c) c.args.pick c.in_ok-seen.seen c.in-Some.region
is_picked c =
    let s = c.args.self.now in
    let k = c.requires.consistent.running c.requires.admin in
    record {
      middle = c.pick_io.new.self;
      picked = λ rules late notes stands may io. c.pick_io.ensures.stands rules late notes c.args.pick stands may io;
      dispatched = c.dispatch.ensures.dispatched;
      on = opened s k c.args.pick.qid c.in-Some.region c.in-Some.region c.sq_region.result c.sq_region.ensures c.in-Some.is refl;
      seen_is = told_seen s k c.in_ok-seen.seen (λ rules late notes stands. c.in_ok-seen.ensures.seen ∙ c.as_slice.ensures.value ∙ c.observed.ensures rules late notes stands);
      log = noted _ _ _ _ c.make_room.ensures.same c.note.ensures.items;
      within = c.in_ok-make_room.ensures.within;
      sqs = refl;
      cqs = refl;
      late = refl;
      config = refl;
      alloc = refl;
    }

pub returns-clause-consistent : goal.returns-clause-consistent
returns-clause-consistent c =
    io-kept c.args.self.now (with_pick c) c.args.pick c.in_ok-seen.seen c.in-Some.region (is_picked c) c.requires.consistent c.requires.admin c.requires.next
    c.requires.none_pending c.requires.io c.requires.places

pub returns-clause-goes : goal.returns-clause-goes
returns-clause-goes c =
    io-goes c.args.self.now (with_pick c) c.args.pick c.in_ok-seen.seen c.in-Some.region (is_picked c) c.requires.consistent c.requires.admin c.requires.next
    c.requires.none_pending c.requires.io c.requires.places

pub returns-clause-seat : goal.returns-clause-seat
returns-clause-seat c =
    io-seat c.args.self.now (with_pick c) c.args.pick c.in_ok-seen.seen c.in-Some.region (is_picked c) c.requires.consistent c.requires.admin c.requires.next
    c.requires.none_pending c.requires.io c.requires.places

pub returns-clause-running : goal.returns-clause-running
returns-clause-running c =
    io-running c.args.self.now (with_pick c) c.args.pick c.in_ok-seen.seen c.in-Some.region (is_picked c) c.requires.consistent c.requires.admin c.requires.next
    c.requires.none_pending c.requires.io c.requires.places

pub returns-clause-picks_of : goal.returns-clause-picks_of
returns-clause-picks_of c =
    io-picks_of c.args.self.now (with_pick c) c.args.pick c.in_ok-seen.seen c.in-Some.region (is_picked c) c.requires.consistent c.requires.admin c.requires.next
    c.requires.none_pending c.requires.io c.requires.places

pub returns-clause-picked : goal.returns-clause-picked
returns-clause-picked c =
    ap picks_in (noted _ _ _ _ c.make_room.ensures.same c.note.ensures.items) ∙ picks_in-append c.args.self.now.log.items (event.Pick c.in_ok-seen.seen c.args.pick ∷ [])
