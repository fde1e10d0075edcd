use Rattle.std.proofs.Common.{◌≡◌, ℕ, ◌+◌, ◌<◌, ◌%◌, Some, Bool, List, ◌∷◌, length, refl, sym, ap, ◌∙◌, subst, arith}
use Rattle.std.specs.Prelude.{◌==◌, if◌then◌else◌, slice_set, IsSomeAnd, IfSome}
use Rattle.nvme_arbiter.specs.Layout.{board_of}
use Rattle.nvme_arbiter.specs.Limits.{highest_count}
use Rattle.nvme_arbiter.specs.Queues.{queue_at}
use Rattle.nvme_arbiter.specs.declared.board_fields.BoardFields.{BoardFields}
use Rattle.nvme_arbiter.specs.declared.pick.OpenQueue.{OpenQueue}
use Rattle.nvme_log.specs.declared.event.Event.TheVariants.{Fetch}
use Rattle.nvme_log.specs.Places.{fetched}
use Rattle.nvme_log.specs.Rules.{FrontRules}
use Rattle.nvme_ctrl_log.specs.Notes.{Notes, Logged, Kept, logged}
use Rattle.nvme_slots.specs.Rings.{HasCounts}
use Rattle.nvme_ctrl.specs.Calls.{HasFetched}
use Rattle.nvme_ctrl.specs.Standing.{Stands, IsController}
use Rattle.nvme_slots.specs.declared.chain.Chain.{Chain}
use Rattle.nvme_slots.specs.declared.ring.Ring.{Ring}
use Rattle.nvme_slots.specs.declared.slot.Slot.{Slot}
use Rattle.nvme_ctrl.specs.declared.state.SqState.{SqState}
use Rattle.nvme_ctrl.specs.declared.state.Controller.{Controller}
use Rattle.nvme_slots.specs.Pool.{slot_at, put_item, longer}
use Rattle.nvme_slots.proofs.Chains.{IsPushed, is_pushed}
use Rattle.nvme_ctrl.specs.kept.State.{sq_at}
use Rattle.std.proofs.lemmas.Bool.{false≢true}
use Rattle.nvme_ctrl.proofs.FetchCalls.{Fetches, fetched_state, rung_left, has_fetched, may_come, few_queues, told_fetchable}
use Rattle.nvme_slots.proofs.Generations.{left_both, put_left, items_left}
use Rattle.nvme_ctrl.proofs.FetchTold.{is_fetchable, some_popped}
use Rattle.nvme_ctrl.proofs.state.Controller.fetched.Goals as goal

pub returns-in_default-clause-front : goal.returns-in_default-clause-front
returns-in_default-clause-front c front =
    subst (λ (free : Chain). IsController (record c.args.self.now { free = free }) c.args.slots.now) (sym (c.in_default.ensures.none refl)) front

pub returns-in_default-clause-refused : goal.returns-in_default-clause-refused
returns-in_default-clause-refused c refused = (ap (λ (free : Chain). record c.args.self.now { free = free }) (c.in_default.ensures.none refl), refl)

pub returns-then-not-is_fetchable-clause-told : goal.returns-then-not-is_fetchable-clause-told
returns-then-not-is_fetchable-clause-told c rules late notes s slot m =
    absurd (false≢true (sym c.if-not-is_fetchable.true ∙ c.is_fetchable.ensures.no (is_fetchable rules late notes c.args.self.now c.args.slots.now s c.args.qid slot m)))

pub returns-in_default-clause-told : goal.returns-in_default-clause-told
returns-in_default-clause-told c rules late notes s slot m =
    absurd (some_popped c.args.slots.now c.args.self.now.free s.items.free c.pop.result s.has.free.chain
    (c.is_fetchable.ensures.yes c.if-not-is_fetchable.false).some_free c.pop.ensures.some c.in_default.is)

-- the command's slot
abbrev waiting : goal.After-came → Slot
waiting c = record (slot_at c.args.slots.now c.in-Some.tag) { entry = c.args.entry.now; cookie = c.args.cookie; sqid = c.args.qid % 256; state = 1 }

-- the board is left so far
shown : (c : goal.After-came) → c.note_fetched.new.self.board ≡ c.args.self.now.board
shown c = ap (λ (self : Controller). self.board) c.note_fetched.ensures ∙ ap (λ (self : Controller). self.board) c.push_fetched.ensures.put

-- the window's chain has that slot behind the others
abbrev window : goal.After-came → Chain
window c = longer (sq_at c.args.self.now.sqs c.args.qid).window c.in-Some.tag

its_chain : (c : goal.After-came) → IsPushed (put_item c.args.slots.now c.in-Some.tag (waiting c)) (sq_at c.args.self.now.sqs c.args.qid).window c.in-Some.tag c.push_fetched.new.slots (window c)
its_chain c =
    subst (λ (slots : List Slot). IsPushed slots (sq_at c.args.self.now.sqs c.args.qid).window c.in-Some.tag c.push_fetched.new.slots (window c)) c.put_waiting.ensures
    (is_pushed c.put_waiting.new.slots c.push_fetched.new.slots (sq_at c.args.self.now.sqs c.args.qid).window c.in-Some.tag c.push_fetched.ensures.slots c.push_fetched.ensures.items)

fetches : (c : goal.After-came) (rules : FrontRules) (late : Bool) (notes : Notes) → Stands rules late notes c.args.self.now c.args.slots.now → Fetches c.args.self.now c.args.slots.now c.args.qid c.args.entry.now c.args.cookie c.in-Some.tag (waiting c) c.pop.new.self
    (window c) c.read.new.self c.came.new.board c.push_fetched.new.slots
fetches c rules late notes s =
    let it = told_fetchable rules late notes c.args.self.now c.args.slots.now s c.args.qid (c.is_fetchable.ensures.yes c.if-not-is_fetchable.false) in
    let few : c.args.qid < 65 = few_queues rules late notes c.args.self.now c.args.slots.now s c.args.qid it.entry it.can in
    record {
      held = c.sq-sq.result.held == 1;
      held_is = ap (λ (state : SqState). state.held == 1) c.sq-sq.ensures;
      is_first = c.in-Some.ensures.some;
      free_left = c.in-Some.ensures.rest;
      counts = subst (λ (state : SqState). (read written : ℕ) → HasCounts state.ring read written → read < written → HasCounts c.read.new.self (read + 1) written)
          c.sq-sq.ensures c.read.ensures.counts;
      same_slots = subst (λ (state : SqState). c.read.new.self.slots ≡ state.ring.slots) c.sq-sq.ensures c.read.ensures.slots;
      state = refl;
      queue = (let low = few in omega (arith, low));
      has = refl;
      keeps = refl;
      chain = (its_chain c).chain;
      items = (its_chain c).items;
      links = (its_chain c).links;
      came = subst (λ (board : BoardFields). IfSome (queue_at (board_of board).queues c.args.qid) (λ (queue : OpenQueue). board_of c.came.new.board ≡ record (board_of board) {
        queues = slice_set (board_of board).queues c.args.qid (Some (record queue { count = if c.sq-sq.result.held == 1 then queue.count else queue.count + 1 }));
      })) (shown c)
          (c.came.ensures.came (subst (λ (board : BoardFields). IsSomeAnd (queue_at (board_of board).queues c.args.qid) (λ (queue : OpenQueue). queue.count < highest_count))
          (sym (shown c))
          (may_come rules late notes c.args.self.now c.args.slots.now s c.args.qid it.entry it.can)));
      arbiter = subst (λ (board : BoardFields). c.came.new.board.arbiter ≡ board.arbiter) (shown c) c.came.ensures.arbiter;
    }

pub returns-clause-stands : goal.returns-clause-stands
returns-clause-stands c rules late notes s told =
    let self : Controller = c.args.self.now in
    let it = told_fetchable rules late notes self c.args.slots.now s c.args.qid (c.is_fetchable.ensures.yes c.if-not-is_fetchable.false) in
    let old : SqState = sq_at self.sqs c.args.qid in
    let tail : c.read.new.self.tail ≡ old.ring.tail = c.read.ensures.tail ∙ ap (λ (state : SqState). state.ring.tail) c.sq-sq.ensures in
    let slots : c.read.new.self.slots ≡ old.ring.slots = c.read.ensures.slots ∙ ap (λ (state : SqState). state.ring.slots) c.sq-sq.ensures in
    let ring : c.read.new.self ≡ record old.ring { head = c.read.new.self.head } = λ j. record c.read.new.self { tail = tail j; slots = slots j } in
    let put : c.push_fetched.new.self ≡ record self { free = c.pop.new.self; sqs = slice_set self.sqs c.args.qid (fetched_state old (window c) c.read.new.self) } =
    c.push_fetched.ensures.put ∙ sym (ap (λ (r : Ring). record self { free = c.pop.new.self; sqs = slice_set self.sqs c.args.qid (fetched_state old (window c) r) }) ring) in
    subst (λ (after : Controller). HasFetched rules late notes c.args.qid c.args.entry.now c.args.cookie (record after { board = c.came.new.board }) c.push_fetched.new.slots)
    (sym (c.note_fetched.ensures ∙ ap (λ (after : Controller). record after { rung = rung_left after.rung c.args.qid c.read.new.self }) put))
    (has_fetched rules late notes self c.args.slots.now s c.args.qid it.entry it.can c.args.entry.now c.args.cookie c.in-Some.tag (waiting c) c.pop.new.self
    (window c) c.read.new.self c.came.new.board c.push_fetched.new.slots (fetches c rules late notes s))

pub returns-clause-front : goal.returns-clause-front
returns-clause-front c front =
    let here = returns-clause-stands c front.rules front.late front.notes front.stands refl in
    record {
      rules = front.rules;
      late = front.late;
      notes = Kept here.may.queue.region (length (fetched (logged front.notes) here.may.queue.region)) c.args.cookie
          ∷ Logged (Fetch here.may.queue.region (length (fetched (logged front.notes) here.may.queue.region)) c.args.entry.now) ∷ front.notes;
      stands = here.stands;
    }

pub returns-clause-generations : goal.returns-clause-generations
returns-clause-generations c =
    left_both c.args.slots.now c.put_waiting.new.slots c.push_fetched.new.slots
    (put_left c.args.slots.now c.put_waiting.new.slots c.in-Some.tag _ c.put_waiting.ensures refl)
    (items_left c.put_waiting.new.slots c.push_fetched.new.slots c.push_fetched.ensures.items)
