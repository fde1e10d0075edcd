-- The region of an open completion queue is there, with its slots. A post changes that region, and nothing changes where its ring is full.
use Rattle.std.proofs.Common.{◌≡◌, ◌∙◌, ap, arith, refl, set, get_or, sym}
use Rattle.std.specs.Prelude.{IsSome}
use Rattle.std.specs.Vec.{with_item}
use Rattle.nvme_log.proofs.PickCounts.{picks-noted}
use Rattle.nvme_front.specs.declared.state.FrontState.{FrontState}
use Rattle.nvme_front.specs.inside.Goes.{IsSame}
use Rattle.nvme_front.specs.inside.Room.{IsRunning}
use Rattle.nvme_front.proofs.Drained.{all_posted_drains, full_drains}
use Rattle.nvme_front.proofs.States.{IsSame-refl, kept_same, Goes-same, noted}
use Rattle.nvme_front.proofs.PostOne.{IsPosted, room_alone, engine_stands, open_there, open_region, open_slots, free_read, put_back, posted-goes, posted-kept, others_drained, not_missing}
use Rattle.nvme_front.proofs.state.FrontState.post_one.Goals as goal

pub returns-in_default-clause-still : goal.returns-in_default-clause-still
returns-in_default-clause-still c = λ _.
    let s = c.args.self.now in
    let k : IsRunning s = c.requires.consistent.running c.requires.admin in
    (IsSame-refl s, all_posted_drains s k c.args.c (c.next_post.ensures.none _ _ k.notes c.args.c k.stands (open_there s k c.args.cqid c.args.c c.requires.is_open) c.in_default.is))

pub returns-in_err-make_room-clause-consistent : goal.returns-in_err-make_room-clause-consistent
returns-in_err-make_room-clause-consistent c = kept_same c.args.self.now _ (room_alone c.args.self.now _ refl c.make_room.ensures.same refl) c.requires.consistent

pub returns-in_err-make_room-clause-goes : goal.returns-in_err-make_room-clause-goes
returns-in_err-make_room-clause-goes c = Goes-same c.args.self.now _ (room_alone c.args.self.now _ refl c.make_room.ensures.same refl)

pub index_mut-requires : goal.index_mut-requires
index_mut-requires c =
    let s = c.args.self.now in
    let there = open_region s (c.requires.consistent.running c.requires.admin) c.args.cqid c.args.c c.requires.is_open in
    omega (arith, there, s.cqs.ok.0, c.from.ensures)

-- ---- the ring is full
pub returns-in_default-put-clause-consistent : goal.returns-in_default-put-clause-consistent
returns-in_default-put-clause-consistent c =
    let s = c.args.self.now in
    kept_same s _ (room_alone s _ refl c.make_room.ensures.same
    (put_back s.cqs.items c.from.result c.index_mut.result.now c.put.new.end c.index_mut.ensures.value c.in_default-put.ensures.full.0)) c.requires.consistent

pub returns-in_default-put-clause-goes : goal.returns-in_default-put-clause-goes
returns-in_default-put-clause-goes c =
    let s = c.args.self.now in
    Goes-same s _ (room_alone s _ refl c.make_room.ensures.same
    (put_back s.cqs.items c.from.result c.index_mut.result.now c.put.new.end c.index_mut.ensures.value c.in_default-put.ensures.full.0))

pub returns-in_default-put-clause-still : goal.returns-in_default-put-clause-still
returns-in_default-put-clause-still c = λ _.
    let s = c.args.self.now in
    let k : IsRunning s = c.requires.consistent.running c.requires.admin in
    let there = open_region s k c.args.cqid c.args.c c.requires.is_open in
    let same : IsSame s (record s { cqs = with_item s.cqs c.from.result c.put.new.end; log = c.make_room.new.log }) =
    room_alone s _ refl c.make_room.ensures.same
    (put_back s.cqs.items c.from.result c.index_mut.result.now c.put.new.end c.index_mut.ensures.value c.in_default-put.ensures.full.0) in (
      same,
      full_drains s c.args.c
          (free_read s c.args.c c.index_mut.result.now there (rw c.from.ensures at c.index_mut.ensures.value) ∙ c.in_default-put.ensures.full.1),
    )

-- ---- a post
pub post-requires-clause-engine : goal.post-requires-clause-engine
post-requires-clause-engine c = engine_stands c.args.self.now (c.requires.consistent.running c.requires.admin)

pub unreachable-requires : goal.unreachable-requires
unreachable-requires c =
    let s = c.args.self.now in
    let k : IsRunning s = c.requires.consistent.running c.requires.admin in
    let some : IsSome c.post.result =
    c.post.ensures.posted _ _ k.notes c.args.c c.in-Some.cqe k.stands (open_there s k c.args.cqid c.args.c c.requires.is_open)
    (c.in-Some-put.ensures.slots.0 ∙ c.in-Some-put.ensures.ring.2
    ∙ sym (open_slots s k c.args.cqid c.args.c c.requires.is_open c.index_mut.result.now (rw c.from.ensures at c.index_mut.ensures.value)))
    (sym c.next_post.ensures.value ∙ c.in-Some.is) in
    not_missing c.post.result some c.in_default-post.is

-- the front at the end
abbrev after : goal.After-note → FrontState
after c = record c.args.self.now {
  engine = c.post.new.self;
  cqs = with_item c.args.self.now.cqs c.from.result c.put.new.end;
  log = c.note.new.log;
}

abbrev running : (c : goal.After-note) → IsRunning c.args.self.now
running c = c.requires.consistent.running c.requires.admin

posted : (c : goal.After-note) → IsPosted c.args.self.now (after c) (running c) c.args.c c.in-Some.cqe c.in-Some-post.place
posted c =
    let s = c.args.self.now in
    let read : c.index_mut.result.now ≡ get_or s.cqs.items c.args.c c.index_mut.result.now = rw c.from.ensures at c.index_mut.ensures.value in
    record {
      d = c.index_mut.result.now;
      g = c.put.new.end;
      there = open_region s (running c) c.args.cqid c.args.c c.requires.is_open;
      read = read;
      ring = c.in-Some-put.ensures.ring;
      sent = c.in-Some-put.ensures.sent;
      posted = c.in-Some-post.ensures.stands _ _ (running c).notes c.args.c c.in-Some.cqe (running c).stands (open_there s (running c) c.args.cqid c.args.c c.requires.is_open)
          (c.in-Some-put.ensures.slots.0 ∙ c.in-Some-put.ensures.ring.2 ∙ sym (open_slots s (running c) c.args.cqid c.args.c c.requires.is_open c.index_mut.result.now read))
          (sym c.next_post.ensures.value ∙ c.in-Some.is);
      sqs = refl;
      cqs = ap (λ z. set s.cqs.items z c.put.new.end) c.from.ensures;
      log = noted _ _ _ _ c.make_room.ensures.same c.note.ensures.items;
      room = c.in_ok-make_room.ensures.within;
      jobs = refl;
      late = refl;
      config = refl;
      alloc = refl;
    }

pub returns-clause-consistent : goal.returns-clause-consistent
returns-clause-consistent c =
    posted-kept c.args.self.now (after c) (running c) c.args.c c.in-Some.cqe c.in-Some-post.place (posted c) c.requires.consistent c.requires.admin

pub returns-clause-goes : goal.returns-clause-goes
returns-clause-goes c = posted-goes c.args.self.now (after c) (running c) c.args.c c.in-Some.cqe c.in-Some-post.place (posted c)

pub returns-clause-picks : goal.returns-clause-picks
returns-clause-picks c = picks-noted _ _ _ _ c.make_room.ensures.same c.note.ensures.items refl

pub returns-clause-others : goal.returns-clause-others
returns-clause-others c = others_drained c.args.self.now (after c) (running c) c.args.c c.in-Some.cqe c.in-Some-post.place (posted c)
