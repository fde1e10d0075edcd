use Rattle.std.proofs.Common.{◌≡◌, ◌<◌, length, refl, sym, subst}
use Rattle.nvme_log.specs.Limits.{max_outstanding}
use Rattle.nvme_engine.specs.Standing.{HasPool}
use Rattle.nvme_engine.specs.declared.engine.Engine.{Engine}
use Rattle.nvme_jobs.specs.inside.Jobs.{JobsView}
use Rattle.nvme_front.specs.declared.state.FrontState.{FrontState}
use Rattle.nvme_front.specs.inside.Room.{IsConsistent}
use Rattle.nvme_front.proofs.Newly.{room_or_none, consistent_with_room}
use Rattle.nvme_front.proofs.States.{kept_same}
use Rattle.nvme_front.proofs.state.FrontState.make_room.Goals as goal
use Rattle.nvme_front.proofs.state.FrontState.make_room.Goals.{then-make_room, else-make_room}

-- a state with room made for its jobs, and maybe for its engine
roomier : (s u : FrontState) → IsConsistent s → (j : JobsView) (e : Engine) → u ≡ record s { jobs = j; engine = e } → j ≡ record s.jobs { room = j.room }
    → (s.jobs.room ≡ max_outstanding → j.room ≡ max_outstanding) → (HasPool s.engine → e ≡ s.engine)
    → (length s.engine.slots.items < 65536 → length e.slots.items < 65536) → IsConsistent u
roomier s u k j e is same kept engine few =
    subst IsConsistent (sym is) (consistent_with_room s (record s { jobs = j; engine = e }) k refl refl refl refl refl refl same kept engine few)

pub make_room-requires : goal.make_room-requires
make_room-requires c = room_or_none c.args.self.now c.requires.consistent

pub returns-then-make_room-2-clause-consistent : goal.returns-then-make_room-2-clause-consistent
returns-then-make_room-2-clause-consistent c =
    let s : FrontState = c.args.self.now in
    let u : FrontState = c.if-make_room.self in
    let kept : IsConsistent u = elim c.if-make_room.branch [
      | then-make_room w ↦ roomier s u c.requires.consistent _ _ w.self-is c.make_room.ensures.same c.make_room.ensures.kept (λ pool. (w.make_room-then-make_room.ensures.same pool).1) w.make_room-then-make_room.ensures.few
      | else-make_room w ↦ roomier s u c.requires.consistent _ s.engine w.self-is c.make_room.ensures.same c.make_room.ensures.kept (λ pool. refl) (λ few. few)
    ] in
    kept_same u _ (record { log = refl; sqs = c.reserve.ensures.items; cqs = refl; engine = refl; jobs = refl; late = refl; config = refl; alloc = refl }) kept

pub returns-else-make_room-2-clause-consistent : goal.returns-else-make_room-2-clause-consistent
returns-else-make_room-2-clause-consistent c =
    let s : FrontState = c.args.self.now in
    let u : FrontState = c.if-make_room.self in
    elim c.if-make_room.branch [
      | then-make_room w ↦ roomier s u c.requires.consistent _ _ w.self-is c.make_room.ensures.same c.make_room.ensures.kept (λ pool. (w.make_room-then-make_room.ensures.same pool).1) w.make_room-then-make_room.ensures.few
      | else-make_room w ↦ roomier s u c.requires.consistent _ s.engine w.self-is c.make_room.ensures.same c.make_room.ensures.kept (λ pool. refl) (λ few. few)
    ]
