use Rattle.std.proofs.Common.{◌∙◌, List, length, refl, ap, subst, arith}
use Rattle.std.proofs.lemmas.List.{length_push}
use Rattle.nvme_log.specs.declared.event.Event.{Event}
use Rattle.nvme_log.specs.declared.event.Event.TheVariants as event
use Rattle.nvme_engine.specs.Calls.{HasCarriedOut}
use Rattle.nvme_front.specs.declared.state.FrontState.{FrontState}
use Rattle.nvme_front.proofs.States.{Goes-same, kept_same, noted}
use Rattle.nvme_front.proofs.RunningFacts.{told_seen, has_engine}
use Rattle.nvme_front.proofs.PickedAdmin.{PickedAdmin, admin-kept, admin-goes_on, admin-picked, admin-picks_of}
use Rattle.nvme_front.proofs.state.FrontState.pick_admin.Goals as goal

-- where only room in the log was made
pub returns-in_err-make_room-clause-consistent : goal.returns-in_err-make_room-clause-consistent
returns-in_err-make_room-clause-consistent c =
    kept_same c.args.self.now (record c.args.self.now { log = c.make_room.new.log })
    (record { log = c.make_room.ensures.same; sqs = refl; cqs = refl; engine = refl; jobs = refl; late = refl; config = refl; alloc = refl }) c.requires.consistent

pub returns-in_err-make_room-clause-goes : goal.returns-in_err-make_room-clause-goes
returns-in_err-make_room-clause-goes c =
    Goes-same c.args.self.now (record c.args.self.now { log = c.make_room.new.log })
    (record { log = c.make_room.ensures.same; sqs = refl; cqs = refl; engine = refl; jobs = refl; late = refl; config = refl; alloc = refl })

pub returns-in_err-seen-clause-consistent : goal.returns-in_err-seen-clause-consistent
returns-in_err-seen-clause-consistent c =
    kept_same c.args.self.now (record c.args.self.now { log = c.make_room.new.log })
    (record { log = c.make_room.ensures.same; sqs = refl; cqs = refl; engine = refl; jobs = refl; late = refl; config = refl; alloc = refl }) c.requires.consistent

pub returns-in_err-seen-clause-goes : goal.returns-in_err-seen-clause-goes
returns-in_err-seen-clause-goes c =
    Goes-same c.args.self.now (record c.args.self.now { log = c.make_room.new.log })
    (record { log = c.make_room.ensures.same; sqs = refl; cqs = refl; engine = refl; jobs = refl; late = refl; config = refl; alloc = refl })

pub pick_admin-requires-clause-engine : goal.pick_admin-requires-clause-engine
pick_admin-requires-clause-engine c = has_engine c.args.self.now (c.requires.consistent.running c.requires.admin)

pub pick_admin-requires-clause-room : goal.pick_admin-requires-clause-room
pick_admin-requires-clause-room c =
    omega (
      arith,
      c.in_ok-make_room.ensures.room,
      c.note.ensures.room,
      ap (λ (xs : List Event). length xs) (noted _ _ _ _ c.make_room.ensures.same c.note.ensures.items),
      length_push c.args.self.now.log.items (event.Pick c.in_ok-seen.seen c.args.pick),
    )

-- ---- the pick
abbrev with_pick : (c : goal.After-pick_admin) → FrontState
with_pick c = record c.args.self.now { engine = c.pick_admin.new.self; log = c.pick_admin.new.log }

is_picked : (c : goal.After-pick_admin) → PickedAdmin c.args.self.now (with_pick c) c.args.pick c.in_ok-seen.seen
is_picked c =
    let s = c.args.self.now in
    let k = c.requires.consistent.running c.requires.admin in
    record {
      carried = λ rules late notes stands may zero.
          subst (λ (xs : List Event). HasCarriedOut rules late notes c.args.pick xs c.pick_admin.new.log.items c.pick_admin.new.self)
          (noted _ _ _ _ c.make_room.ensures.same c.note.ensures.items)
          (c.pick_admin.ensures.stands rules late notes c.args.pick stands may zero);
      seen_is = told_seen s k c.in_ok-seen.seen (λ rules late notes stands. c.in_ok-seen.ensures.seen ∙ c.as_slice.ensures.value ∙ c.observed.ensures rules late notes stands);
      within = c.in_ok-make_room.ensures.within;
      sqs = refl;
      cqs = refl;
      jobs = refl;
      late = refl;
      config = refl;
      alloc = refl;
    }

pub returns-clause-consistent : goal.returns-clause-consistent
returns-clause-consistent c =
    admin-kept c.args.self.now (with_pick c) c.args.pick c.in_ok-seen.seen (is_picked c) c.requires.consistent c.requires.admin c.requires.next c.requires.none_pending
    c.requires.of_admin c.requires.places

pub returns-clause-goes : goal.returns-clause-goes
returns-clause-goes c =
    admin-goes_on c.args.self.now (with_pick c) c.args.pick c.in_ok-seen.seen (is_picked c) c.requires.consistent c.requires.admin c.requires.next c.requires.none_pending
    c.requires.of_admin c.requires.places

pub returns-clause-picked : goal.returns-clause-picked
returns-clause-picked c =
    admin-picked c.args.self.now (with_pick c) c.args.pick c.in_ok-seen.seen (is_picked c) c.requires.consistent c.requires.admin c.requires.next c.requires.none_pending
    c.requires.of_admin c.requires.places

pub returns-clause-picks_of : goal.returns-clause-picks_of
returns-clause-picks_of c =
    admin-picks_of c.args.self.now (with_pick c) c.args.pick c.in_ok-seen.seen (is_picked c) c.requires.consistent c.requires.admin c.requires.next c.requires.none_pending
    c.requires.of_admin c.requires.places
