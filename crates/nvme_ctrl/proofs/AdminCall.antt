-- A pick of the admin queue: its command is applied to the table.
use Rattle.std.proofs.Common.{◌≡◌, ℕ, suc, ◌+◌, ◌<◌, ◌≤◌, ◌==◌, Bool, true, false, if◌then◌else◌, List, [], ◌∷◌, length, map, drop, Option, Some, None, is_some, option_map, refl, sym, ap, ◌∙◌, subst, arith, true≢false}
use Rattle.std.specs.Prelude.{slice_get, slice_set, min, IsTrue}
use Rattle.std.specs.List.{All}
use Rattle.std.proofs.lemmas.Option.{same_Some, none-some}
use Rattle.std.proofs.lemmas.List.Elements.{All-head, All-tail}
use Rattle.nvme_arbiter.specs.Settings.{ArbitrationFields}
use Rattle.nvme_arbiter.specs.History.{History, Picked}
use Rattle.nvme_arbiter.specs.Limits.{highest_qid}
use Rattle.nvme_arbiter.specs.declared.settings.Class.{Class}
use Rattle.nvme_arbiter.specs.Lawful.{IsLimitedPick}
use Rattle.nvme_arbiter.specs.Queues.{seen_of, queue_at}
use Rattle.nvme_arbiter.specs.Layout.{is_arbiter, board_of}
use Rattle.nvme_arbiter.specs.Board.{BoardStandsAt, queues_after}
use Rattle.nvme_arbiter.specs.declared.settings.Mechanism.{Mechanism}
use Rattle.nvme_arbiter.specs.declared.pick.Pick.{Pick}
use Rattle.nvme_arbiter.specs.declared.pick.OpenQueue.{OpenQueue}
use Rattle.nvme_arbiter.specs.declared.board_fields.BoardFields.{BoardFields}
use Rattle.nvme_admin.specs.History.{Start, TableHistory, EntryApplied, Placing, Kind, Submission, Completion}
use Rattle.nvme_admin.specs.Accepted.{queue_table, verdict_of}
use Rattle.nvme_admin.specs.QueueTable.{QueueTable}
use Rattle.nvme_admin.specs.Standing.{sq_of}
use Rattle.nvme_admin.specs.declared.effect.Effect.{Effect}
use Rattle.nvme_admin.specs.declared.verdict.SqEntry.{SqEntry}
use Rattle.nvme_admin.specs.declared.verdict.Verdict.{Verdict}
use Rattle.nvme_admin.specs.declared.verdict.Verdict.TheVariants as verdict
use Rattle.nvme_admin.specs.Effects.{verdict_in}
use Rattle.nvme_admin.proofs.Slots.{within}
use Rattle.nvme_placing.specs.Telling.{IsTold, IsToldBy, Tells, content_of, unplaced}
use Rattle.nvme_placing.specs.declared.table.PlacedTable.{PlacedTable}
use Rattle.nvme_entry.specs.AdminCommand.{admin_command_of}
use Rattle.nvme_entry.specs.declared.submission.Sqe.{Sqe}
use Rattle.nvme_log.specs.Rules.{FrontRules, sq_regions_of, cq_regions_of}
use Rattle.nvme_log.specs.Places.{entry_at, waiting}
use Rattle.nvme_log.specs.Queues.{Queue, admin_queue, open_sq}
use Rattle.nvme_ctrl_log.specs.Account.{IsAccount}
use Rattle.nvme_ctrl_log.specs.Making.{with_region, slots_asked, placing_in, placed, placed_by}
use Rattle.nvme_ctrl_log.specs.Notes.{Notes, logged}
use Rattle.nvme_ctrl_log.specs.Tags.{answer_of, cookie_of}
use Rattle.nvme_slots.specs.declared.slot.Slot.{Slot}
use Rattle.nvme_slots.specs.declared.chain.Chain.{Chain}
use Rattle.nvme_ctrl.specs.declared.state.SqState.{SqState}
use Rattle.nvme_ctrl.specs.declared.state.Controller.{Controller}
use Rattle.nvme_ctrl_content.specs.Content.{Candidate, Content}
use Rattle.nvme_ctrl_content.specs.Standing.{Holds, FewQueues}
use Rattle.nvme_ctrl_content.specs.Steps.{HasNextRegion, CanPick, CanApply, verdict_at, picked_sq, applied_to}
use Rattle.nvme_ctrl.specs.kept.Kept.{Item, Items, IsWaitingIn, IsUnanswered, HasCookie, StandsAt, tags_of, candidate_of, shown_in}
use Rattle.nvme_ctrl_content.specs.Shown.{HoldsShown, HasRegionsMade}
use Rattle.nvme_ctrl_content.specs.Order.{HoldsOrder}
use Rattle.nvme_ctrl.specs.inside.Loose.{IsLoose, Keeps}
use Rattle.nvme_ctrl.specs.inside.Carrying.{IsApplied}
use Rattle.nvme_slots.specs.Pool.{slot_at, IsChain}
use Rattle.nvme_ctrl.specs.kept.State.{sq_at}
use Rattle.nvme_ctrl.proofs.CarriedOut.{none_picked_of}
use Rattle.nvme_ctrl.proofs.ComingRegions.{Comes, with_next, region_comes}
use Rattle.nvme_ctrl_log.proofs.CountedCreates.{IsCounted, OpensNext, sqs_with, cqs_with, counted}
use Rattle.nvme_ctrl.proofs.Dropping.{loose_waited}
use Rattle.nvme_ctrl_content.proofs.LifeLaws.{applied_stays}
use Rattle.nvme_ctrl.proofs.PoolBounds.{unposted_held, window_held}
use Rattle.nvme_ctrl_content.proofs.OpenQueues.{admin_is_open}
use Rattle.nvme_ctrl.proofs.PickCall.{due, can}
use Rattle.nvme_ctrl.proofs.Standable.{keeps_standing}
use Rattle.nvme_ctrl.proofs.QueueStates.{shown_picked}
use Rattle.nvme_ctrl.proofs.Windowed.{with_window, keeps_windowed, keeps_outstanding, keeps_table}

-- ---- the oldest command
-- a list with something in it
pub record IsSplit (its : List Item) : Type 0 where
  pub first : Item
  pub rest : List Item
  pub is : its ≡ first ∷ rest

pub split : (its : List Item) → 1 ≤ length its → IsSplit its
split [] some = absurd (omega arith)
split (x ∷ xs) some = record { first = x; rest = xs; is = refl }

-- as many candidates as items
pub length-candidates : (its : List Item) → length (map candidate_of its) ≡ length its
length-candidates [] = refl
length-candidates (it ∷ its) = let rest = length-candidates its in omega arith

module _ (rules : FrontRules) (late : Bool) (notes : Notes) (c : Controller) (slots : List Slot) (s : StandsAt rules late notes c slots)
    (none : c.picked ≡ 0) (pick : Pick) (board : BoardFields)
    (lawful : (m : Mechanism) (first : ArbitrationFields) (h : History) → BoardStandsAt m first h (board_of c.board) → IsLimitedPick m first h (seen_of (board_of c.board).queues) pick)
    (stands : (m : Mechanism) (first : ArbitrationFields) (h : History) → BoardStandsAt m first h (board_of c.board) → BoardStandsAt m first (Picked (seen_of (board_of c.board).queues) pick ∷ h) (board_of board))
    (queues : (board_of board).queues ≡ queues_after (board_of c.board).queues pick)
    (arbiter : IsTrue (is_arbiter board.arbiter))
    (first_is : pick.qid ≡ 0) where
  abbrev k : Content
  k = s.content

  abbrev g : Items
  g = s.items

  keeps : Keeps rules notes c slots k g
  keeps = keeps_standing rules late notes c slots s

  abbrev queue : Queue
  queue = (due rules late notes c slots s none pick board lawful stands queues arbiter).queue

  is_open : open_sq (logged notes) pick.qid ≡ Some queue
  is_open = (due rules late notes c slots s none pick board lawful stands queues arbiter).is_open

  -- its queue is the admin queue
  pub queue_is : queue ≡ admin_queue
  queue_is =
      let attached = s.holds.queues.attached pick.qid queue is_open in
      let below = s.holds.queues.sq_there queue.region (record { qid = pick.qid; cq_region = attached.cq_region }) attached.attached in
      let some : 0 < k.nsq = omega (arith, below) in
      same_Some queue admin_queue (sym is_open ∙ ap (open_sq (logged notes)) first_is ∙ admin_is_open rules late (logged notes) k s.holds some)

  pub one : pick.n ≡ 1
  one = (due rules late notes c slots s none pick board lawful stands queues arbiter).one_of_admin first_is

  pub can_admin : CanPick rules (logged notes) k admin_queue pick (board_of board)
  can_admin = subst (λ (q : Queue). CanPick rules (logged notes) k q pick (board_of board)) queue_is (can rules late notes c slots s none pick board lawful stands queues arbiter)

-- ---- the table of an applied command
-- the identifiers of the queues of a table that is told are within their limit
pub few_told : (p : PlacedTable) (t : QueueTable) → Tells p t → FewQueues t
few_told p t tells q entry is = by (sq_of (content_of p) q) refl (tells.sq q ∙ ap (option_map unplaced) is) where
  by : (o : Option SqEntry) → sq_of (content_of p) q ≡ o → option_map unplaced o ≡ Some (unplaced entry) → q ≤ highest_qid
  by None there e = absurd (none-some (unplaced entry) e)
  by (Some x) there e = let below = within (content_of p).sqs q x there in omega (arith, below, tells.sized.sqs)

-- where a queue that a verdict opens lies on a region as before, nothing is asked of the regions
no_next : (rules : FrontRules) (t : QueueTable) (candidate : Candidate) (v : Verdict) → t.placing ≡ None → HasNextRegion rules t candidate v
no_next rules t candidate (verdict.Done status dw0) none = tt
no_next rules t candidate (verdict.OpenSq qid region cqid class) none = λ some. absurd (true≢false (sym some ∙ ap (λ (o : Option Placing). is_some o) none))
no_next rules t candidate (verdict.OpenCq qid region) none = λ some. absurd (true≢false (sym some ∙ ap (λ (o : Option Placing). is_some o) none))
no_next rules t candidate (verdict.BeginDelete qid) none = tt
no_next rules t candidate (verdict.CloseCq qid) none = tt
no_next rules t candidate (verdict.Abort sqid cid) none = tt
no_next rules t candidate (verdict.SetArbitration settings) none = tt

-- ---- a command is applied to what a controller keeps, at rules that have the region of a queue that it creates anywhere
-- an entry as a candidate
abbrev pub as_candidate : ℕ → Sqe → Candidate
as_candidate i entry = record { index = i; entry = entry }

module _ (rules : FrontRules) (late : Bool) (notes : Notes) (c : Controller) (slots : List Slot) (k : Content) (g : Items) (holds : Holds rules late (logged notes) k)
    (shown : HoldsShown notes k) (ordered : HoldsOrder notes k) (account : late ≡ false → IsAccount rules notes) (keeps : Keeps rules notes c slots k g)
    (none : c.picked ≡ 0) (pick : Pick) (board : BoardFields) (can_admin : CanPick rules (logged notes) k admin_queue pick (board_of board))
    (arbiter : IsTrue (is_arbiter board.arbiter)) (first_is : pick.qid ≡ 0) (one : pick.n ≡ 1) where
  pub admin_life : k.sq_life 0 ≡ Some 0
  admin_life = keeps.numbers.sqs.ids.admin

  window_all : (k.sq 0).window ≡ map candidate_of (g.windows 0)
  window_all = keeps.has.windows.are 0 ∙ ap (λ (n : ℕ). map candidate_of (drop n (g.windows 0))) (none_picked_of c (k.sq_id 0) none)

  -- its oldest command
  pub oldest : IsSplit (g.windows 0)
  oldest = split (g.windows 0) (let enough = can_admin.enough in let all = ap (λ (w : List Candidate). length w) window_all in let same = length-candidates (g.windows 0) in omega (arith, one))

  abbrev x : Item
  x = oldest.first

  abbrev rest : List Item
  rest = oldest.rest

  pub linked : IsChain slots (sq_at c.sqs 0).window (x.tag ∷ tags_of rest)
  linked = subst (λ (its : List Item). IsChain slots (sq_at c.sqs 0).window (tags_of its)) oldest.is (keeps.has.windows.chain 0 0 admin_life)

  pub waits : All (IsWaitingIn slots 0 0) (x ∷ rest)
  waits = subst (All (IsWaitingIn slots 0 0)) oldest.is (keeps.has.windows.items 0 0 admin_life)

  pub first : IsWaitingIn slots 0 0 x
  first = All-head (IsWaitingIn slots 0 0) x rest waits

  pub unanswered_all : All (λ (it : Item). IsUnanswered notes it.place) (x ∷ rest)
  unanswered_all = subst (All (λ (it : Item). IsUnanswered notes it.place)) oldest.is (keeps.tags.unanswered.windows 0)

  cookies_all : All (HasCookie notes slots) (x ∷ rest)
  cookies_all = subst (All (HasCookie notes slots)) oldest.is (keeps.tags.cookies.windows 0)

  pub window_is : (k.sq 0).window ≡ candidate_of x ∷ map candidate_of rest
  window_is = window_all ∙ ap (λ (its : List Item). map candidate_of its) oldest.is

  below : 0 < k.nsq
  below =
      let attached = holds.queues.attached pick.qid admin_queue can_admin.is_open in
      holds.queues.sq_there 0 (record { qid = pick.qid; cq_region = attached.cq_region }) attached.attached

  some_waits : 1 ≤ length (k.sq 0).window
  some_waits = omega (arith, can_admin.enough, one)

  -- the counts aren't capped
  pub unposted_capped : (sq : SqState) → sq ≡ sq_at c.sqs 0 → min (sq.unposted + 1) 65535 ≡ sq.unposted + 1
  unposted_capped sq sq_is =
      let as_many = ap (λ (z : SqState). z.unposted) sq_is in
      let held = unposted_held rules late (logged notes) k holds 0 below in
      let same = (keeps.numbers.sqs.each 0 0 admin_life).unposted in
      omega (arith, as_many, held, same, some_waits, keeps.tags.free_count, keeps.has.few)

  pub outstanding_capped : min (c.outstanding + 1) 65535 ≡ c.outstanding + 1
  outstanding_capped =
      let held = window_held rules late (logged notes) k holds 0 below in
      omega (arith, held, some_waits, keeps.numbers.outstanding_is, keeps.tags.free_count, keeps.has.few)

  -- the command is applied
  module _ (sq : SqState) (chain : Chain) (tag n o : ℕ) (entry : Sqe) (table : PlacedTable) (m : Controller) (did : Effect)
      (sq_is : sq ≡ sq_at c.sqs 0) (popped : IsChain slots chain (tags_of rest)) (tag_is : tag ≡ x.tag) (n_is : n ≡ sq.unposted + 1) (o_is : o ≡ c.outstanding + 1)
      (entry_is : entry ≡ (slot_at slots tag).entry)
      (m_is : m ≡ record c { board = board; sqs = slice_set c.sqs 0 (record sq { window = chain; unposted = n }); outstanding = o; table = table })
      (verdict : (start : Start) (h : TableHistory) → Tells c.table (queue_table start h) → IsTold c.table (verdict_in did) (verdict_of start h entry))
      (applies : (start : Start) (h : TableHistory) → Tells c.table (queue_table start h) → Tells table (queue_table start (EntryApplied entry ∷ h))) where
    abbrev picked_state : SqState
    picked_state = record (sq_at c.sqs 0) { window = chain; unposted = n }

    pub entry_of : entry ≡ x.entry
    entry_of = entry_is ∙ ap (λ (z : ℕ). (slot_at slots z).entry) tag_is ∙ first.entry

    abbrev history : TableHistory
    history = holds.tabled.history

    -- the verdict of the model, and its table afterwards
    abbrev pub v : Verdict
    v = verdict_of rules.start history entry

    abbrev pub after : QueueTable
    after = queue_table rules.start (EntryApplied entry ∷ history)

    stood : Tells c.table (queue_table rules.start history)
    stood = subst (Tells c.table) holds.tabled.table_is keeps.numbers.tells

    tells : Tells table after
    tells = applies rules.start history stood

    -- the effect tells the verdict
    pub told_now : IsToldBy k.table.placing (verdict_in did) v
    told_now = subst (λ (p : Option Placing). IsToldBy p (verdict_in did) v) (sym keeps.numbers.tells.placing) (verdict rules.start history stood)

    module _ (placed : (i : ℕ) → HasNextRegion rules k.table (as_candidate i entry) v) (made : HasRegionsMade (applied_to k (board_of board) after)) where
      verdict_is : v ≡ verdict_at rules history (candidate_of x)
      verdict_is = ap (verdict_of rules.start history) entry_of

      placed_now : HasNextRegion rules k.table (candidate_of x) v
      placed_now = subst (λ (e : Sqe). HasNextRegion rules k.table (as_candidate x.place.index e) v) entry_of (placed x.place.index)

      can_apply : CanApply rules (logged notes) k history (candidate_of x) (map candidate_of rest) after
      can_apply = record {
        oldest = window_is;
        table_is = ap (λ (e : Sqe). queue_table rules.start (EntryApplied e ∷ history)) entry_of;
        few_queues = few_told table after tells;
        placed = subst (HasNextRegion rules k.table (candidate_of x)) verdict_is placed_now;
      }

      windowed : Keeps rules notes (record c { sqs = slice_set c.sqs 0 picked_state }) slots (record k { sq = λ r. if r == 0 then picked_sq (k.sq 0) 1 else k.sq r }) (with_window g 0 rest)
      windowed =
          keeps_windowed rules notes c slots k g keeps none 0 0 admin_life picked_state (picked_sq (k.sq 0) 1) rest slots k.held k.classed (keeps.numbers.sqs.each 0 0 admin_life).held (λ z other. refl)
          (record { size = refl; items = λ z. refl }) (λ z new. refl) refl refl refl refl refl
          (n_is ∙ ap (λ (z : SqState). z.unposted + 1) sq_is ∙ ap (λ (z : ℕ). z + 1) (keeps.numbers.sqs.each 0 0 admin_life).unposted) refl popped (All-tail (IsWaitingIn slots 0 0) x rest waits)
          (ap (λ (w : List Candidate). drop 1 w) window_is) (All-tail (λ (it : Item). IsUnanswered notes it.place) x rest unanswered_all)
          (All-tail (HasCookie notes slots) x rest cookies_all)

      -- the same queues are shown
      still_shown : (q : ℕ) → shown_in (board_of board) q ≡ shown_in k.board q
      still_shown q = ap (λ (qs : List (Option OpenQueue)). is_some (queue_at qs q)) can_admin.board_queues ∙ shown_picked k.board.queues pick q

      keeps_applied : Keeps rules notes m slots (applied_to k (board_of board) after) (with_window g 0 rest)
      keeps_applied =
          subst (λ (z : Controller). Keeps rules notes z slots (applied_to k (board_of board) after) (with_window g 0 rest))
          (sym (m_is ∙ ap (λ (z : SqState). record c { board = board; sqs = slice_set c.sqs 0 (record z { window = chain; unposted = n }); outstanding = o; table = table }) sq_is))
          (keeps_table rules notes (record c { board = board; sqs = slice_set c.sqs 0 picked_state; outstanding = o }) slots
          (record k { sq = λ r. if r == 0 then picked_sq (k.sq 0) 1 else k.sq r; board = board_of board; outstanding = k.outstanding + 1 }) (with_window g 0 rest) table after
          (keeps_outstanding rules notes (record c { sqs = slice_set c.sqs 0 picked_state }) slots (record k { sq = λ r. if r == 0 then picked_sq (k.sq 0) 1 else k.sq r }) (with_window g 0 rest)
          board (board_of board) o (k.outstanding + 1) windowed refl arbiter (λ q r is. still_shown q) (o_is ∙ ap (λ (z : ℕ). z + 1) keeps.numbers.outstanding_is))
          tells (λ q r e life is. applied_stays rules late (logged notes) k (candidate_of x) (map candidate_of rest) after holds can_apply q e is))

      pub is_applied : IsApplied rules late notes m slots tag did v
      is_applied = record {
        before = k;
        holds = holds;
        shown = shown;
        ordered = ordered;
        account = account;
        pick = pick;
        picked = board_of board;
        can_pick = can_admin;
        of_admin = first_is;
        one = one;
        candidate = candidate_of x;
        rest = map candidate_of rest;
        table = after;
        can_apply = can_apply;
        verdict_is = verdict_is;
        told = told_now;
        placed = placed_now;
        made = made;
        items = with_window g 0 rest;
        keeps = keeps_applied;
        none_picked = ap (λ (z : Controller). z.picked) m_is ∙ none;
        loose = subst (IsLoose slots (with_window g 0 rest)) (sym tag_is)
            (loose_waited rules notes c slots k g keeps 0 0 admin_life x first (All-head (λ (z : ℕ). z < length slots) x.tag (tags_of rest) linked.inside) rest linked.apart.0);
        queue = ap (λ (z : ℕ). (slot_at slots z).sqid) tag_is ∙ first.queue;
        entry = ap (λ (z : ℕ). (slot_at slots z).entry) tag_is ∙ first.entry;
        unanswered = subst (λ (r : ℕ). answer_of notes r x.place.index ≡ None) first.place (All-head (λ (it : Item). IsUnanswered notes it.place) x rest unanswered_all);
        cookie = subst (λ (z : ℕ). cookie_of notes 0 x.place.index ≡ Some (slot_at slots z).cookie) (sym tag_is)
            (subst (λ (r : ℕ). cookie_of notes r x.place.index ≡ Some (slot_at slots x.tag).cookie) first.place (All-head (HasCookie notes slots) x rest cookies_all));
      }

-- ---- as it is picked
-- the rules that an applied command stands at: they have the region of a queue that it creates anywhere
pub record IsPlacedApplied (rules : FrontRules) (late : Bool) (notes : Notes) (m : Controller) (slots : List Slot) (tag : ℕ) (did : Effect) (entry : Sqe) : Type 0 where
  pub verdict : Verdict
  pub told : IsToldBy (placing_in rules) (verdict_in did) verdict
  pub applied : IsApplied (placed verdict entry rules) late notes m slots tag did verdict
  pub its_entry : (i : ℕ) → slice_get (waiting (logged notes) 0) 0 ≡ Some i → entry_at (logged notes) 0 i ≡ Some entry

module _ (rules : FrontRules) (late : Bool) (notes : Notes) (c : Controller) (slots : List Slot) (s : StandsAt rules late notes c slots)
    (none : c.picked ≡ 0) (pick : Pick) (board : BoardFields)
    (lawful : (m : Mechanism) (first : ArbitrationFields) (h : History) → BoardStandsAt m first h (board_of c.board) → IsLimitedPick m first h (seen_of (board_of c.board).queues) pick)
    (stands : (m : Mechanism) (first : ArbitrationFields) (h : History) → BoardStandsAt m first h (board_of c.board) → BoardStandsAt m first (Picked (seen_of (board_of c.board).queues) pick ∷ h) (board_of board))
    (queues : (board_of board).queues ≡ queues_after (board_of c.board).queues pick)
    (arbiter : IsTrue (is_arbiter board.arbiter))
    (first_is : pick.qid ≡ 0)
    (sq : SqState) (chain : Chain) (popped : Option ℕ) (tag n o : ℕ) (entry : Sqe) (table : PlacedTable) (m : Controller) (did : Effect) (sq_is : sq ≡ sq_at c.sqs 0)
    (some : (x : ℕ) (rest : List ℕ) → IsChain slots sq.window (x ∷ rest) → popped ≡ Some x) (left : (x : ℕ) (rest : List ℕ) → IsChain slots sq.window (x ∷ rest) → IsChain slots chain rest)
    (unwrap : (x : ℕ) → popped ≡ Some x → tag ≡ x) (n_is : n ≡ min (sq.unposted + 1) 65535) (o_is : o ≡ min (c.outstanding + 1) 65535) (entry_is : entry ≡ (slot_at slots tag).entry)
    (m_is : m ≡ record c { board = board; sqs = slice_set c.sqs 0 (record sq { window = chain; unposted = n }); outstanding = o; table = table })
    (told : (start : Start) (h : TableHistory) → Tells c.table (queue_table start h) → IsTold c.table (verdict_in did) (verdict_of start h entry))
    (applies : (start : Start) (h : TableHistory) → Tells c.table (queue_table start h) → Tells table (queue_table start (EntryApplied entry ∷ h))) where
  one_then : pick.n ≡ 1
  one_then = one rules late notes c slots s none pick board lawful stands queues arbiter first_is

  abbrev content : Content
  content = s.content

  can_then : CanPick rules (logged notes) content admin_queue pick (board_of board)
  can_then = can_admin rules late notes c slots s none pick board lawful stands queues arbiter first_is

  keeps_then : Keeps rules notes c slots content s.items
  keeps_then = keeps_standing rules late notes c slots s

  -- the verdict, and the table afterwards
  abbrev answer : Verdict
  answer = verdict_of rules.start s.holds.tabled.history entry

  abbrev now : QueueTable
  now = queue_table rules.start (EntryApplied entry ∷ s.holds.tabled.history)

  counts : IsCounted answer content.table now
  counts = subst (λ (t : QueueTable). IsCounted answer t now) (sym s.holds.tabled.table_is) (counted rules.start s.holds.tabled.history entry)

  place_is : content.table.placing ≡ placing_in rules
  place_is = s.holds.tabled.placing

  -- ---- at some rules
  module _ (others : FrontRules) (k : Content) (holds : Holds others late (logged notes) k) (shown : HoldsShown notes k) (ordered : HoldsOrder notes k) (account : late ≡ false → IsAccount others notes)
      (keeps : Keeps others notes c slots k s.items) (can_pick : CanPick others (logged notes) k admin_queue pick (board_of board)) where
    abbrev it : IsSplit (s.items.windows 0)
    it = oldest others late notes c slots k s.items holds shown ordered account keeps none pick board can_pick arbiter first_is one_then

    there : IsChain slots sq.window (it.first.tag ∷ tags_of it.rest)
    there = subst (λ (z : SqState). IsChain slots z.window (it.first.tag ∷ tags_of it.rest)) (sym sq_is)
        (linked others late notes c slots k s.items holds shown ordered account keeps none pick board can_pick arbiter first_is one_then)

    told_at : IsToldBy k.table.placing (verdict_in did) (verdict_of others.start holds.tabled.history entry)
    told_at =
        told_now others late notes c slots k s.items holds shown ordered account keeps none pick board can_pick arbiter first_is one_then sq chain tag n o entry table m did
        sq_is (left it.first.tag (tags_of it.rest) there) (unwrap it.first.tag (some it.first.tag (tags_of it.rest) there))
        (n_is ∙ unposted_capped others late notes c slots k s.items holds shown ordered account keeps none pick board can_pick arbiter first_is one_then sq sq_is)
        (o_is ∙ outstanding_capped others late notes c slots k s.items holds shown ordered account keeps none pick board can_pick arbiter first_is one_then)
        entry_is m_is told applies

    applied_at : (w : Verdict) → verdict_of others.start holds.tabled.history entry ≡ w → ((i : ℕ) → HasNextRegion others k.table (as_candidate i entry) w)
        → HasRegionsMade (applied_to k (board_of board) (queue_table others.start (EntryApplied entry ∷ holds.tabled.history))) → IsApplied others late notes m slots tag did w
    applied_at w is next made =
        subst (IsApplied others late notes m slots tag did) is
        (is_applied others late notes c slots k s.items holds shown ordered account keeps none pick board can_pick arbiter first_is one_then sq chain tag n o entry table m did
        sq_is (left it.first.tag (tags_of it.rest) there) (unwrap it.first.tag (some it.first.tag (tags_of it.rest) there))
        (n_is ∙ unposted_capped others late notes c slots k s.items holds shown ordered account keeps none pick board can_pick arbiter first_is one_then sq sq_is)
        (o_is ∙ outstanding_capped others late notes c slots k s.items holds shown ordered account keeps none pick board can_pick arbiter first_is one_then)
        entry_is m_is told applies (λ i. subst (HasNextRegion others k.table (as_candidate i entry)) (sym is) (next i)) made)

  -- ---- at the rules as they are
  applied_here : (w : Verdict) → answer ≡ w → ((i : ℕ) → HasNextRegion rules content.table (as_candidate i entry) w) → HasRegionsMade (applied_to content (board_of board) now)
      → IsApplied rules late notes m slots tag did w
  applied_here = applied_at rules content s.holds s.shown s.ordered s.account keeps_then can_then

  -- which have the regions of the queues that were made, where the command makes none
  made_none : (w : Verdict) → answer ≡ w → sqs_with w content.table.sqs_made ≡ content.table.sqs_made → cqs_with w content.table.cqs_made ≡ content.table.cqs_made
      → HasRegionsMade (applied_to content (board_of board) now)
  made_none w is no_sq no_cq = record {
    sqs = λ anywhere. s.regions.sqs (ap (λ (p : Option Placing). is_some p) (sym counts.placing) ∙ anywhere)
        ∙ ap suc (sym (counts.sqs ∙ ap (λ (z : Verdict). sqs_with z content.table.sqs_made) is ∙ no_sq));
    cqs = λ anywhere. s.regions.cqs (ap (λ (p : Option Placing). is_some p) (sym counts.placing) ∙ anywhere)
        ∙ ap suc (sym (counts.cqs ∙ ap (λ (z : Verdict). cqs_with z content.table.cqs_made) is ∙ no_cq));
  }

  -- or where queues lie on regions
  made_on_regions : content.table.placing ≡ None → HasRegionsMade (applied_to content (board_of board) now)
  made_on_regions on = record {
    sqs = λ anywhere. absurd (true≢false (sym anywhere ∙ ap (λ (p : Option Placing). is_some p) (counts.placing ∙ on)));
    cqs = λ anywhere. absurd (true≢false (sym anywhere ∙ ap (λ (p : Option Placing). is_some p) (counts.placing ∙ on)));
  }

  plain : (w : Verdict) → answer ≡ w → ((i : ℕ) → HasNextRegion rules content.table (as_candidate i entry) w) → sqs_with w content.table.sqs_made ≡ content.table.sqs_made
      → cqs_with w content.table.cqs_made ≡ content.table.cqs_made → IsApplied rules late notes m slots tag did w
  plain w is next no_sq no_cq = applied_here w is next (made_none w is no_sq no_cq)

  -- ---- at the rules with the region of the queue
  abbrev address : ℕ
  address = entry.prp1

  abbrev asked : ℕ
  asked = slots_asked (admin_command_of entry)

  module _ (anywhere : is_some content.table.placing ≡ true) (kind : Kind) where
    comes : Comes rules late notes c slots content s.items s.holds kind address asked
    comes = region_comes kind address asked rules late notes content s.holds s.account anywhere c slots s.items s.numbers s.has s.doorbells s.tags s.shown s.ordered

    abbrev more : FrontRules
    more = with_region kind address asked rules

    abbrev grew : Content
    grew = with_next rules notes kind address asked content

    keeps_grown : Keeps more notes c slots grew s.items
    keeps_grown = record { numbers = comes.numbers; has = comes.has; doorbells = comes.doorbells; tags = comes.tags; apart = keeps_then.apart }

    can_grown : CanPick more (logged notes) grew admin_queue pick (board_of board)
    can_grown = record {
      is_open = can_then.is_open;
      enough = can_then.enough;
      lawful = can_then.lawful;
      board_queues = can_then.board_queues;
      board_stands = can_then.board_stands;
    }

    abbrev later : QueueTable
    later = queue_table rules.start (EntryApplied entry ∷ comes.holds.tabled.history)

    -- the table counts the same queues
    counts_grown : (w : Verdict) → answer ≡ w → IsCounted w grew.table later
    counts_grown w is =
        subst (λ (z : Verdict). IsCounted z grew.table later) (comes.verdicts entry ∙ is)
        (subst (λ (t : QueueTable). IsCounted (verdict_of rules.start comes.holds.tabled.history entry) t later) (sym comes.holds.tabled.table_is)
        (counted rules.start comes.holds.tabled.history entry))

    applied_grown : (w : Verdict) → answer ≡ w → ((i : ℕ) → HasNextRegion more grew.table (as_candidate i entry) w) → HasRegionsMade (applied_to grew (board_of board) later)
        → IsApplied more late notes m slots tag did w
    applied_grown w is = applied_at more grew comes.holds comes.shown comes.ordered comes.account keeps_grown can_grown w (comes.verdicts entry ∙ is)

  module _ (anywhere : is_some content.table.placing ≡ true) (qid region cqid : ℕ) (class : Class) (is : answer ≡ verdict.OpenSq qid region cqid class) where
    -- the region is the next
    next_sq : region ≡ content.nsq
    next_sq = subst (λ (z : Verdict). OpensNext z content.table) is (counts.next anywhere) ∙ sym (s.regions.sqs anywhere)

    made_sq : HasRegionsMade (applied_to (grew anywhere Submission) (board_of board) (later anywhere Submission))
    made_sq =
        let counts : IsCounted (verdict.OpenSq qid region cqid class) (grew anywhere Submission).table (later anywhere Submission) =
        counts_grown anywhere Submission (verdict.OpenSq qid region cqid class) is in
        let same = (comes anywhere Submission).table_is in
        record {
          sqs = λ some. ap suc (s.regions.sqs anywhere ∙ ap suc (sym (ap (λ (t : QueueTable). t.sqs_made) same)) ∙ sym counts.sqs);
          cqs = λ some. s.regions.cqs anywhere ∙ ap suc (sym (counts.cqs ∙ ap (λ (t : QueueTable). t.cqs_made) same));
        }

    applied_sq : IsApplied (with_region Submission address asked rules) late notes m slots tag did (verdict.OpenSq qid region cqid class)
    applied_sq =
        applied_grown anywhere Submission (verdict.OpenSq qid region cqid class) is
        (λ i some. ap (λ (r : ℕ). slice_get (sq_regions_of (more anywhere Submission)) r) next_sq ∙ (comes anywhere Submission).next) made_sq

  module _ (anywhere : is_some content.table.placing ≡ true) (qid region : ℕ) (is : answer ≡ verdict.OpenCq qid region) where
    next_cq : region ≡ content.ncq
    next_cq = subst (λ (z : Verdict). OpensNext z content.table) is (counts.next anywhere) ∙ sym (s.regions.cqs anywhere)

    made_cq : HasRegionsMade (applied_to (grew anywhere Completion) (board_of board) (later anywhere Completion))
    made_cq =
        let counts : IsCounted (verdict.OpenCq qid region) (grew anywhere Completion).table (later anywhere Completion) =
        counts_grown anywhere Completion (verdict.OpenCq qid region) is in
        let same = (comes anywhere Completion).table_is in
        record {
          sqs = λ some. s.regions.sqs anywhere ∙ ap suc (sym (counts.sqs ∙ ap (λ (t : QueueTable). t.sqs_made) same));
          cqs = λ some. ap suc (s.regions.cqs anywhere ∙ ap suc (sym (ap (λ (t : QueueTable). t.cqs_made) same)) ∙ sym counts.cqs);
        }

    applied_cq : IsApplied (with_region Completion address asked rules) late notes m slots tag did (verdict.OpenCq qid region)
    applied_cq =
        applied_grown anywhere Completion (verdict.OpenCq qid region) is
        (λ i some. ap (λ (r : ℕ). slice_get (cq_regions_of (more anywhere Completion)) r) next_cq ∙ (comes anywhere Completion).next) made_cq

  -- ---- by the verdict
  by_verdict : (p : Option Placing) → placing_in rules ≡ p → (w : Verdict) → answer ≡ w → IsApplied (placed_by p w entry rules) late notes m slots tag did w
  by_verdict None on w is = applied_here w is (λ i. no_next rules content.table (as_candidate i entry) w (place_is ∙ on)) (made_on_regions (place_is ∙ on))
  by_verdict (Some p) on (verdict.Done status dw0) is = plain (verdict.Done status dw0) is (λ i. tt) refl refl
  by_verdict (Some p) on (verdict.OpenSq qid region cqid class) is = applied_sq (ap (λ (x : Option Placing). is_some x) (place_is ∙ on)) qid region cqid class is
  by_verdict (Some p) on (verdict.OpenCq qid region) is = applied_cq (ap (λ (x : Option Placing). is_some x) (place_is ∙ on)) qid region is
  by_verdict (Some p) on (verdict.BeginDelete qid) is = plain (verdict.BeginDelete qid) is (λ i. tt) refl refl
  by_verdict (Some p) on (verdict.CloseCq qid) is = plain (verdict.CloseCq qid) is (λ i. tt) refl refl
  by_verdict (Some p) on (verdict.Abort sqid cid) is = plain (verdict.Abort sqid cid) is (λ i. tt) refl refl
  by_verdict (Some p) on (verdict.SetArbitration settings) is = plain (verdict.SetArbitration settings) is (λ i. tt) refl refl

  -- the entry is that of the oldest place that waits
  entry_of_oldest : (i : ℕ) → slice_get (waiting (logged notes) 0) 0 ≡ Some i → entry_at (logged notes) 0 i ≡ Some entry
  entry_of_oldest i oldest_is =
      let x : Item = (it rules content s.holds s.shown s.ordered s.account keeps_then can_then).first in
      let window = window_is rules late notes c slots content s.items s.holds s.shown s.ordered s.account keeps_then none pick board can_then arbiter first_is one_then in
      let index : x.place.index ≡ i = same_Some x.place.index i
      (ap (λ (cs : List Candidate). slice_get (map (λ (y : Candidate). y.index) cs) 0) (sym window) ∙ ap (λ (is : List ℕ). slice_get is 0) (sym (s.holds.regions 0).waiting_is) ∙ oldest_is) in
      let at : entry_at (logged notes) 0 x.place.index ≡ Some x.entry =
      All-head (λ (y : Candidate). entry_at (logged notes) 0 y.index ≡ Some y.entry) (candidate_of x) _
      (subst (All (λ (y : Candidate). entry_at (logged notes) 0 y.index ≡ Some y.entry)) window (s.holds.regions 0).entries) in
      let its : tag ≡ x.tag = unwrap x.tag (some x.tag (tags_of (it rules content s.holds s.shown s.ordered s.account keeps_then can_then).rest) (there rules content s.holds s.shown s.ordered s.account keeps_then can_then)) in
      ap (entry_at (logged notes) 0) (sym index) ∙ at
      ∙ ap (λ (e : Sqe). Some e) (sym (entry_is ∙ ap (λ (z : ℕ). (slot_at slots z).entry) its
      ∙ (first rules late notes c slots content s.items s.holds s.shown s.ordered s.account keeps_then none pick board can_then arbiter first_is one_then).entry))

  pub admin_call : IsPlacedApplied rules late notes m slots tag did entry
  admin_call = record {
    verdict = answer;
    told = subst (λ (p : Option Placing). IsToldBy p (verdict_in did) answer) place_is (told_at rules content s.holds s.shown s.ordered s.account keeps_then can_then);
    applied = by_verdict (placing_in rules) refl answer refl;
    its_entry = entry_of_oldest;
  }
