use Rattle.std.proofs.Common.{◌≡◌, ◌∙◌, ℕ, ◌+◌, ◌%◌, ◌<◌, List, ◌∷◌, [], ◌++◌, length, ap, sym, refl, subst, arith}
use Rattle.std.specs.Vec.{with_item}
use Rattle.nvme_entry.specs.declared.submission.Sqe.{Sqe}
use Rattle.nvme_lane.specs.View.{GetView}
use Rattle.nvme_log.specs.declared.event.Event.TheVariants.{Fetch}
use Rattle.nvme_log.specs.Limits.{window_of}
use Rattle.nvme_log.specs.Places.{waiting}
use Rattle.nvme_log.proofs.PickCounts.{picks-noted}
use Rattle.nvme_engine.specs.Calls.{MayFetch, HasFetched}
use Rattle.nvme_front.specs.declared.region.SqRegion.{SqRegion}
use Rattle.nvme_front.specs.declared.state.FrontState.{FrontState}
use Rattle.nvme_front.specs.inside.Goes.{IsSame}
use Rattle.nvme_front.specs.inside.State.{past_of}
use Rattle.nvme_front.proofs.States.{Goes-same, IsSame-refl, kept_same, noted}
use Rattle.nvme_front.proofs.RunningFacts.{IsOpenOn, none_open, opened, told_region, told_waiting, has_engine}
use Rattle.nvme_front.proofs.Fetches.{Fetched, same_read, region_there, index_fits, put_back, fetch_goes, fetch_kept, fetch_posted}
use Rattle.nvme_front.proofs.Scans.{scanned_none, scanned_full, scanned_empty, scanned_on, posted_same, others_scanned}
use Rattle.nvme_front.proofs.Loading.{posts-by, posts-load}
use Rattle.nvme_front.proofs.LoadedFetch.{fetch-load}
use Rattle.nvme_front.proofs.state.FrontState.fetch_one.Goals as goal

pub index-requires : goal.index-requires
index-requires c =
    let a = c.args.self.now in
    let k = c.requires.consistent.running c.requires.admin in
    let there = region_there a c.requires.consistent c.requires.admin c.args.qid c.from-r.result
    (opened a k c.args.qid c.in-Some.region c.from-r.result c.sq_region.result c.sq_region.ensures c.in-Some.is c.from-r.ensures) in
    omega (arith, there, a.sqs.ok.0)

pub returns-in_default-clause-still : goal.returns-in_default-clause-still
returns-in_default-clause-still c = λ _.
    let a = c.args.self.now in
    let k = c.requires.consistent.running c.requires.admin in
    (IsSame-refl a, scanned_none a c.args.qid (none_open (past_of a) c.args.qid (sym c.in_default.is ∙ told_region a k c.args.qid c.sq_region.result c.sq_region.ensures)))

pub returns-then-waiting-window_of-clause-still : goal.returns-then-waiting-window_of-clause-still
returns-then-waiting-window_of-clause-still c = λ _.
    let a = c.args.self.now in
    let k = c.requires.consistent.running c.requires.admin in
    let o : IsOpenOn (past_of a) c.args.qid c.from-r.result =
    opened a k c.args.qid c.in-Some.region c.from-r.result c.sq_region.result c.sq_region.ensures c.in-Some.is c.from-r.ensures in
    let slots = c.slots-slots.ensures in
    let waits = told_waiting a k c.args.qid c.waiting.result c.waiting.ensures c.from-r.result o in
    let window : c.window_of.result ≡ window_of c.index.result.now.end.slots = c.window_of.ensures ∙ ap window_of slots.value in
    let full = c.if-waiting-window_of.true in (
      IsSame-refl a,
      scanned_full a c.requires.consistent c.requires.admin c.args.qid c.from-r.result o c.index.result.now c.index.ensures
          (omega (arith, slots.least, slots.value)) (omega (arith, window, full, waits)),
    )

-- only room in the log was made
abbrev with_room : (c : goal.After-from_residual) → FrontState
with_room c = record c.args.self.now { log = c.make_room.new.log }

same_room : (c : goal.After-from_residual) → IsSame c.args.self.now (with_room c)
same_room c = record { log = c.make_room.ensures.same; sqs = refl; cqs = refl; engine = refl; jobs = refl; late = refl; config = refl; alloc = refl }

pub returns-in_err-make_room-clause-consistent : goal.returns-in_err-make_room-clause-consistent
returns-in_err-make_room-clause-consistent c = kept_same c.args.self.now (with_room c) (same_room c) c.requires.consistent

pub returns-in_err-make_room-clause-goes : goal.returns-in_err-make_room-clause-goes
returns-in_err-make_room-clause-goes c = Goes-same c.args.self.now (with_room c) (same_room c)

pub returns-in_err-make_room-clause-others : goal.returns-in_err-make_room-clause-others
returns-in_err-make_room-clause-others c = λ q other was. scanned_on c.args.self.now (with_room c) (same_room c) q was

pub returns-in_err-make_room-clause-loads : goal.returns-in_err-make_room-clause-loads
returns-in_err-make_room-clause-loads c = λ lower.
    posts-load c.args.self.now (with_room c) (Goes-same c.args.self.now (with_room c) (same_room c)) (posts-by c.args.self.now (with_room c) c.make_room.ensures.same refl)

pub returns-in_err-make_room-clause-posted : goal.returns-in_err-make_room-clause-posted
returns-in_err-make_room-clause-posted c = posted_same c.args.self.now (with_room c) (same_room c)

pub index_mut-sq-requires : goal.index_mut-sq-requires
index_mut-sq-requires c =
    let a = c.args.self.now in
    let k = c.requires.consistent.running c.requires.admin in
    let there = region_there a c.requires.consistent c.requires.admin c.args.qid c.from-r.result
    (opened a k c.args.qid c.in-Some.region c.from-r.result c.sq_region.result c.sq_region.ensures c.in-Some.is c.from-r.ensures) in
    omega (arith, there, a.sqs.ok.0)

-- its ring gives none
abbrev with_same : (c : goal.After-self-1) → FrontState
with_same c = record c.args.self.now { sqs = with_item c.args.self.now.sqs c.from-r.result (record c.index_mut-sq.result.now { end = c.is_empty.new.self }); log = c.make_room.new.log }

same_ring : (c : goal.After-self-1) → IsSame c.args.self.now (with_same c)
same_ring c = record {
  log = c.make_room.ensures.same;
  sqs = put_back c.args.self.now.sqs.items c.from-r.result c.index_mut-sq.result.now (record c.index_mut-sq.result.now { end = c.is_empty.new.self }) c.index_mut-sq.ensures.value
      (ap (λ (e : GetView Sqe). record c.index_mut-sq.result.now { end = e }) (c.is_empty.ensures.unchanged c.if-is_empty.true));
  cqs = refl;
  engine = refl;
  jobs = refl;
  late = refl;
  config = refl;
  alloc = refl;
}

pub returns-then-is_empty-clause-consistent : goal.returns-then-is_empty-clause-consistent
returns-then-is_empty-clause-consistent c = kept_same c.args.self.now (with_same c) (same_ring c) c.requires.consistent

pub returns-then-is_empty-clause-goes : goal.returns-then-is_empty-clause-goes
returns-then-is_empty-clause-goes c = Goes-same c.args.self.now (with_same c) (same_ring c)

pub returns-then-is_empty-clause-others : goal.returns-then-is_empty-clause-others
returns-then-is_empty-clause-others c = λ q other was. scanned_on c.args.self.now (with_same c) (same_ring c) q was

pub returns-then-is_empty-clause-loads : goal.returns-then-is_empty-clause-loads
returns-then-is_empty-clause-loads c = λ lower.
    posts-load c.args.self.now (with_same c) (Goes-same c.args.self.now (with_same c) (same_ring c)) (posts-by c.args.self.now (with_same c) c.make_room.ensures.same (same_ring c).sqs)

pub returns-then-is_empty-clause-posted : goal.returns-then-is_empty-clause-posted
returns-then-is_empty-clause-posted c = posted_same c.args.self.now (with_same c) (same_ring c)

pub returns-then-is_empty-clause-still : goal.returns-then-is_empty-clause-still
returns-then-is_empty-clause-still c = λ _.
    let a = c.args.self.now in
    let k = c.requires.consistent.running c.requires.admin in (
      same_ring c,
      scanned_empty a c.requires.consistent c.requires.admin c.args.qid c.from-r.result
          (opened a k c.args.qid c.in-Some.region c.from-r.result c.sq_region.result c.sq_region.ensures c.in-Some.is c.from-r.ensures)
          c.index_mut-sq.result.now c.index_mut-sq.ensures.value (c.is_empty.ensures.none_known c.if-is_empty.true),
    )

pub fetch-requires-clause-few : goal.fetch-requires-clause-few
fetch-requires-clause-few c =
    let a = c.args.self.now in
    let k = c.requires.consistent.running c.requires.admin in
    index_fits a c.requires.consistent c.requires.admin c.args.qid c.from-r.result
    (opened a k c.args.qid c.in-Some.region c.from-r.result c.sq_region.result c.sq_region.ensures c.in-Some.is c.from-r.ensures) c.index_mut-sq.result.now c.index_mut-sq.ensures.value

pub fetch-requires-clause-engine : goal.fetch-requires-clause-engine
fetch-requires-clause-engine c = has_engine c.args.self.now (c.requires.consistent.running c.requires.admin)

-- ---- a command was fetched
abbrev with_fetch : (c : goal.After-self-2-1) → FrontState
with_fetch c = record c.args.self.now { engine = c.fetch.new.engine; sqs = with_item c.args.self.now.sqs c.from-r.result c.fetch.new.sq; log = c.fetch.new.log }

from : (c : goal.After-self-2-1) → IsOpenOn (past_of c.args.self.now) c.args.qid c.from-r.result
from c =
    opened c.args.self.now (c.requires.consistent.running c.requires.admin) c.args.qid c.in-Some.region c.from-r.result c.sq_region.result c.sq_region.ensures c.in-Some.is c.from-r.ensures

-- the slots of its ring
slots_are : (c : goal.After-self-2-1) → c.slots-slots.result ≡ c.index_mut-sq.result.now.end.slots
slots_are c =
    let there = region_there c.args.self.now c.requires.consistent c.requires.admin c.args.qid c.from-r.result (from c) in
    c.slots-slots.ensures.value
    ∙ ap (λ (d : SqRegion). d.end.slots) (same_read c.args.self.now.sqs.items c.from-r.result c.index.result.now c.index_mut-sq.result.now there c.index.ensures c.index_mut-sq.ensures.value)

is_fetched : (c : goal.After-self-2-1) → Fetched c.args.self.now (with_fetch c) c.args.qid c.from-r.result c.index_mut-sq.result.now c.fetch.new.sq c.fetch.ensures.entry
is_fetched c =
    let d = c.index_mut-sq.result.now in
    let l = c.is_empty.ensures in
    let f = c.fetch.ensures in
    record {
      read = c.index_mut-sq.ensures.value;
      sqs = refl;
      end = (f.end.0 ∙ l.ring.0, f.end.1 ∙ l.ring.1, f.end.2 ∙ l.ring.2);
      got = f.got ∙ ap (λ (xs : List Sqe). xs ++ f.entry ∷ []) l.got;
      next = λ some. sym (ap (λ (e : GetView Sqe). e.known) (l.known some)) ∙ f.known;
      counted = f.counted;
      slot = (d.fetched + 1) % d.end.slots;
      engine = λ rules late notes s m.
          subst (λ (n : ℕ). HasFetched rules late notes c.args.qid ((d.fetched + 1) % n) d.fetched f.entry c.fetch.new.engine) l.ring.2
          (f.engine rules late notes s (subst (λ (n : ℕ). MayFetch rules notes c.args.qid n d.fetched) (sym l.ring.2) m));
      log = noted _ _ _ _ c.make_room.ensures.same f.noted
          ∙ ap (λ (r : ℕ). c.args.self.now.log.items ++ Fetch r d.fetched f.entry ∷ []) (sym c.from-r.ensures);
      within = c.in_ok-make_room.ensures.within;
      cqs = refl;
      jobs = refl;
      late = refl;
      config = refl;
      alloc = refl;
    }

-- its window had room
has_room : (c : goal.After-self-2-1) → length (waiting (past_of c.args.self.now) c.from-r.result) < window_of c.index_mut-sq.result.now.end.slots
has_room c =
    let waits = told_waiting c.args.self.now (c.requires.consistent.running c.requires.admin) c.args.qid c.waiting.result c.waiting.ensures c.from-r.result (from c) in
    let window : c.window_of.result ≡ window_of c.index_mut-sq.result.now.end.slots = c.window_of.ensures ∙ ap window_of (slots_are c) in
    let some = c.if-waiting-window_of.false in
    omega (arith, waits, window, some)

pub returns-clause-consistent : goal.returns-clause-consistent
returns-clause-consistent c =
    fetch_kept c.args.self.now (with_fetch c) c.args.qid c.from-r.result c.index_mut-sq.result.now c.fetch.new.sq c.fetch.ensures.entry (is_fetched c)
    c.requires.consistent c.requires.admin (from c) c.requires.none_pending (has_room c)

pub returns-clause-goes : goal.returns-clause-goes
returns-clause-goes c =
    fetch_goes c.args.self.now (with_fetch c) c.args.qid c.from-r.result c.index_mut-sq.result.now c.fetch.new.sq c.fetch.ensures.entry (is_fetched c)

pub returns-clause-posted : goal.returns-clause-posted
returns-clause-posted c =
    fetch_posted c.args.self.now (with_fetch c) c.args.qid c.from-r.result c.index_mut-sq.result.now c.fetch.new.sq c.fetch.ensures.entry (is_fetched c)
    c.requires.consistent c.requires.admin (from c) c.requires.none_pending (has_room c)

pub returns-clause-picks : goal.returns-clause-picks
returns-clause-picks c = picks-noted _ _ _ _ c.make_room.ensures.same c.fetch.ensures.noted refl

pub returns-clause-others : goal.returns-clause-others
returns-clause-others c =
    others_scanned c.args.self.now (with_fetch c) c.args.qid c.from-r.result c.index_mut-sq.result.now c.fetch.new.sq c.fetch.ensures.entry (is_fetched c)
    c.requires.consistent c.requires.admin (from c)

pub returns-clause-loads : goal.returns-clause-loads
returns-clause-loads c = λ lower.
    fetch-load c.args.self.now (with_fetch c) c.args.qid c.from-r.result c.index_mut-sq.result.now c.fetch.new.sq c.fetch.ensures.entry (is_fetched c)
    c.requires.consistent c.requires.admin (from c) (returns-clause-consistent c)
    (λ q below. returns-clause-others c q (λ same. omega (arith, below, same)) (lower q below))
