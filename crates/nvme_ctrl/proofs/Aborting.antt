-- An Abort command takes the oldest candidate that it names out of a window: its completion is ready.
use Rattle.std.specs.Prelude.{option_map, slice_set, min, IsTrue, IsSome, IsSomeAnd, IfSome}
use Rattle.std.proofs.Common.{◌≡◌, ◌≢◌, ℕ, ◌+◌, ◌-◌, ◌<◌, ◌==◌, Bool, true, false, if◌then◌else◌, List, [], ◌∷◌, ◌++◌, length, map, drop, Option, Some, None, refl, sym, ap, ◌∙◌, subst, arith, inl, is_some}
use Rattle.std.specs.List.{All}
use Rattle.std.proofs.lemmas.List.{map-append}
use Rattle.std.proofs.lemmas.List.Elements.{All-head, All-tail, All-append}
use Rattle.std.proofs.lemmas.Option.{same_Some}
use Rattle.nvme_arbiter.specs.Settings.{ArbitrationFields}
use Rattle.nvme_arbiter.specs.History.{History}
use Rattle.nvme_arbiter.specs.Board.{BoardView, BoardStandsAt}
use Rattle.nvme_arbiter.specs.Layout.{is_arbiter, board_of}
use Rattle.nvme_arbiter.specs.Queues.{queue_at}
use Rattle.nvme_arbiter.specs.declared.pick.OpenQueue.{OpenQueue}
use Rattle.nvme_arbiter.specs.declared.board_fields.BoardFields.{BoardFields}
use Rattle.nvme_arbiter.specs.declared.arbiter_fields.ArbiterFields.{ArbiterFields}
use Rattle.nvme_arbiter.specs.declared.settings.Mechanism.{Mechanism}
use Rattle.nvme_admin.specs.QueueTable.{QueueTable}
use Rattle.nvme_placing.specs.Telling.{Tells, content_of, unplaced}
use Rattle.nvme_placing.specs.declared.table.PlacedTable.{PlacedTable}
use Rattle.nvme_admin.specs.Standing.{sq_of}
use Rattle.nvme_admin.specs.declared.verdict.SqEntry.{SqEntry}
use Rattle.nvme_entry.specs.Status.{abort_requested}
use Rattle.nvme_entry.specs.declared.submission.Sqe.{Sqe}
use Rattle.nvme_log.specs.Rules.{FrontRules}
use Rattle.nvme_ctrl.proofs.Cookies.{cookie_left, same_cookies}
use Rattle.nvme_ctrl_log.specs.Tags.{answer_of, cookie_of}
use Rattle.nvme_ctrl_log.specs.Notes.{Notes}
use Rattle.nvme_slots.specs.declared.slot.Slot.{Slot}
use Rattle.nvme_slots.specs.declared.chain.Chain.{Chain}
use Rattle.nvme_ctrl.specs.declared.state.SqState.{SqState}
use Rattle.nvme_ctrl.specs.declared.state.Controller.{Controller}
use Rattle.nvme_ctrl_content.specs.Content.{Candidate, Ready, SqContent, Content, with_sq, with_ready}
use Rattle.nvme_ctrl_content.specs.Steps.{requested, oldest_named, without_oldest}
use Rattle.nvme_ctrl.specs.kept.Kept.{is_passed_at, Item, Items, IsWaitingIn, IsUnanswered, IsThrough, tags_of, candidate_of, IsCookie, HasCookie, IsUnflagged, shown_in}
use Rattle.nvme_ctrl.specs.inside.Loose.{IsLoose, Keeps, MakesReady, ended, with_item}
use Rattle.nvme_ctrl_content.specs.Carrying.{queue_in, IsAbortableIn}
use Rattle.nvme_ctrl.specs.inside.Carrying.{HasRequested}
use Rattle.nvme_ctrl_content.specs.Standing.{counted_on, on_board}
use Rattle.nvme_slots.specs.Pool.{slot_at, item_at, IsChain, IsNew, SameItems, SameLinks, named_in, without_named}
use Rattle.nvme_ctrl.specs.kept.State.{sq_at}
use Rattle.nvme_ctrl.proofs.CarriedOut.{none_picked_of}
use Rattle.nvme_ctrl.proofs.Dropping.{posts_to, loose_waited, loose_windowed}
use Rattle.nvme_ctrl.proofs.Ending.{loose_ended}
use Rattle.nvme_ctrl_content.proofs.Named.{found_one}
use Rattle.nvme_slots.proofs.Pools.{IsNew-others, IsNew-left, IsNew-right, IsNew-append}
use Rattle.nvme_ctrl.proofs.SlotItems.{All-parts}
use Rattle.nvme_ctrl.proofs.QueueStates.{shown_put}
use Rattle.nvme_ctrl.proofs.Windowed.{with_window, keeps_windowed, keeps_outstanding}

-- ---- items with a name
-- the oldest item with a command identifier, among others
record Among (cid : ℕ) (its : List Item) (x : Item) : Type 0 where
  before : List Item
  behind : List Item
  whole : its ≡ before ++ x ∷ behind
  oldest : oldest_named cid (map candidate_of its) ≡ Some (candidate_of x)
  left : without_oldest cid (map candidate_of its) ≡ map candidate_of (before ++ behind)

-- the slots of items have the identifiers that the candidates have
record Finds (slots : List Slot) (cid tag : ℕ) (its : List Item) : Type 0 where
  item : Item
  tag_is : item.tag ≡ tag
  among : Among cid its item
  without : without_named slots cid (tags_of its) ≡ tags_of (among.before ++ among.behind)

finds : (slots : List Slot) (q r cid tag : ℕ) (its : List Item) → All (IsWaitingIn slots q r) its → named_in slots cid (tags_of its) ≡ Some tag → Finds slots cid tag its
finds slots q r cid tag [] waits h = absurd (cc h)
finds slots q r cid tag (it ∷ its) waits h =
    by (it.entry.cid == cid) same refl (subst (λ (b : Bool). (if b then Some it.tag else named_in slots cid (tags_of its)) ≡ Some tag) same h)
    (finds slots q r cid tag its (All-tail (IsWaitingIn slots q r) it its waits)) where
      same : ((slot_at slots it.tag).entry.cid == cid) ≡ (it.entry.cid == cid)
      same = ap (λ (e : Sqe). e.cid == cid) (All-head (IsWaitingIn slots q r) it its waits).entry

      by : (b : Bool) → ((slot_at slots it.tag).entry.cid == cid) ≡ b → (it.entry.cid == cid) ≡ b → (if b then Some it.tag else named_in slots cid (tags_of its)) ≡ Some tag
          → (named_in slots cid (tags_of its) ≡ Some tag → Finds slots cid tag its) → Finds slots cid tag (it ∷ its)
      by true e f here later = record {
        item = it;
        tag_is = same_Some it.tag tag here;
        among = record { before = []; behind = its; whole = refl; oldest = rw f refl; left = rw f refl };
        without = rw e refl;
      }
      by false e f there later =
          let rest = later there in
          record {
            item = rest.item;
            tag_is = rest.tag_is;
            among = record {
              before = it ∷ rest.among.before;
              behind = rest.among.behind;
              whole = ap (λ (xs : List Item). it ∷ xs) rest.among.whole;
              oldest = rw f rest.among.oldest;
              left = rw f (ap (λ (xs : List Candidate). candidate_of it ∷ xs) rest.among.left);
            };
            without = rw e (ap (λ (xs : List ℕ). it.tag ∷ xs) rest.without);
          }

-- where none has the name, no candidate has it
pub none_finds : (slots : List Slot) (q r cid : ℕ) (its : List Item) → All (IsWaitingIn slots q r) its → named_in slots cid (tags_of its) ≡ None → oldest_named cid (map candidate_of its) ≡ None
none_finds slots q r cid [] waits h = refl
none_finds slots q r cid (it ∷ its) waits h =
    by ((slot_at slots it.tag).entry.cid == cid) (it.entry.cid == cid) (ap (λ (e : Sqe). e.cid == cid) (All-head (IsWaitingIn slots q r) it its waits).entry) h
    (none_finds slots q r cid its (All-tail (IsWaitingIn slots q r) it its waits)) where
      by : (b c : Bool) → b ≡ c → (if b then Some it.tag else named_in slots cid (tags_of its)) ≡ None → (named_in slots cid (tags_of its) ≡ None → oldest_named cid (map candidate_of its) ≡ None)
          → (if c then Some (candidate_of it) else oldest_named cid (map candidate_of its)) ≡ None
      by true c e h later = absurd (cc h)
      by false true e h later = absurd (cc e)
      by false false e h later = later h

-- ---- the candidate
-- a slot in no list is in none where links changed alone
loose_same : (slots mid : List Slot) (g : Items) (y : ℕ) → SameItems slots mid → IsLoose slots g y → IsLoose mid g y
loose_same slots mid g y same h = let state = ap (λ (s : Slot). s.state) (same.items y) in record {
  inside = subst (λ (n : ℕ). y < n) (sym same.size) h.inside;
  windows = h.windows;
  outs = h.outs;
  readies = h.readies;
  deletes = h.deletes;
  free = h.free;
  not_out = λ e. h.not_out (sym state ∙ e);
  not_answered = λ e. h.not_answered (sym state ∙ e);
}

-- a command that ends as an Abort command asked
abbrev pub KeepsRequest : (a : Controller) (slots : List Slot) (tag cqid : ℕ) (b : Controller) (pool : List Slot) → Type 0
KeepsRequest a slots tag cqid b pool =
    (rules : FrontRules) (notes : Notes) (k : Content) (g : Items) (t : Ready) → Keeps rules notes a slots k g → IsLoose slots g tag → MakesReady slots tag 4 abort_requested 0 t → IsThrough notes t
    → IsCookie notes slots tag t.place → t.passed ≡ is_passed_at notes t.place → IsUnflagged notes t.place
    → (x : ℕ) → k.cq_life cqid ≡ Some x → k.sq_id t.place.region ≡ Some t.sqid → Keeps rules notes b pool (with_ready k x t) (with_item g x (ended tag t))

-- the board with a candidate less
abbrev pub WentBoard : (old new : BoardFields) (sqid : ℕ) (held : Bool) → Type 0
WentBoard old new sqid held =
    IfSome (queue_at (board_of old).queues sqid) (λ (queue : OpenQueue). board_of new ≡ record (board_of old) { queues = slice_set (board_of old).queues sqid (Some (record queue { count = if held then queue.count else queue.count - 1 })) })

-- one command less counts, unless its queue is held
went_on : (held kept : Bool) (n m : ℕ) → held ≡ kept → m + 1 ≡ n → (if held then (if kept then 0 else n) else (if kept then 0 else n) - 1) ≡ (if kept then 0 else m)
went_on true true n m e less = refl
went_on false false n m e less = omega (arith, less)
went_on true false n m e less = absurd (cc e)
went_on false true n m e less = absurd (cc e)

some_on : (b : Bool) (n : ℕ) → b ≡ false → 0 < n → 0 < (if b then 0 else n)
some_on true n off some = absurd (cc off)
some_on false n off some = some

module _ (rules : FrontRules) (notes : Notes) (a : Controller) (slots : List Slot) (k : Content) (g : Items) (sqid cid : ℕ) (h : Keeps rules notes a slots k g) (none : a.picked ≡ 0)
    (entry : SqEntry) (ab : IsAbortableIn notes k sqid cid entry) (tag : ℕ) (named : named_in slots cid (tags_of (g.windows entry.region)) ≡ Some tag) where
  abbrev region : ℕ
  region = entry.region

  abbrev f : Finds slots cid tag (g.windows region)
  f = finds slots sqid region cid tag (g.windows region) (h.has.windows.items sqid region ab.there) named

  abbrev x : Item
  x = f.item

  abbrev rest : List Item
  rest = f.among.before ++ f.among.behind

  window_is : (k.sq region).window ≡ map candidate_of (g.windows region)
  window_is = h.has.windows.are region ∙ ap (λ (n : ℕ). map candidate_of (drop n (g.windows region))) (none_picked_of a (k.sq_id region) none)

  oldest : oldest_named cid (k.sq region).window ≡ Some (candidate_of x)
  oldest = ap (oldest_named cid) window_is ∙ f.among.oldest

  fewer : length (without_oldest cid (k.sq region).window) + 1 ≡ length (k.sq region).window
  fewer = found_one cid (k.sq region).window (candidate_of x) oldest

  -- the queue is on the board
  pub went_there : IsSome (queue_at (board_of a.board).queues sqid)
  went_there = subst (λ (o : Option OpenQueue). IsSome o) (sym (ap (λ (v : BoardView). queue_at v.queues sqid) h.numbers.board_is ∙ ab.on_board)) refl

  -- with a candidate, unless it is held
  pub went_some : (sq : SqState) → sq ≡ sq_at a.sqs sqid → (sq.held == 1) ≡ false → IsSomeAnd (queue_at (board_of a.board).queues sqid) (λ (queue : OpenQueue). 0 < queue.count)
  went_some sq sq_is off =
      let not_held : k.held region ≡ false = sym (ap (λ (z : SqState). z.held == 1) sq_is ∙ (h.numbers.sqs.each sqid region ab.there).held) ∙ off in
      subst (λ (o : Option OpenQueue). IsSomeAnd o (λ (queue : OpenQueue). 0 < queue.count))
      (sym (ap (λ (v : BoardView). queue_at v.queues sqid) h.numbers.board_is ∙ ab.on_board))
      (let some : 0 < length (k.sq region).window = omega (arith, fewer) in some_on (k.held region) _ not_held some)

  waits : All (IsWaitingIn slots sqid region) (f.among.before ++ x ∷ f.among.behind)
  waits = subst (All (IsWaitingIn slots sqid region)) f.among.whole (h.has.windows.items sqid region ab.there)

  first : IsWaitingIn slots sqid region x
  first = All-head (IsWaitingIn slots sqid region) x f.among.behind (All-parts (IsWaitingIn slots sqid region) f.among.before (x ∷ f.among.behind) waits).1

  -- what holds of all holds of the others
  others_hold : (P : Item → Type 0) → All P (g.windows region) → All P rest
  others_hold P each =
      let parts = All-parts P f.among.before (x ∷ f.among.behind) (subst (All P) f.among.whole each) in
      All-append P f.among.before f.among.behind parts.0 (All-tail P x f.among.behind parts.1)

  linked : IsChain slots (sq_at a.sqs sqid).window (tags_of f.among.before ++ x.tag ∷ tags_of f.among.behind)
  linked = subst (IsChain slots (sq_at a.sqs sqid).window) (ap tags_of f.among.whole ∙ map-append (λ (it : Item). it.tag) f.among.before (x ∷ f.among.behind)) (h.has.windows.chain sqid region ab.there)

  inside : x.tag < length slots
  inside = All-head (λ (z : ℕ). z < length slots) x.tag (tags_of f.among.behind) (All-parts (λ (z : ℕ). z < length slots) (tags_of f.among.before) (x.tag ∷ tags_of f.among.behind) linked.inside).1

  rest_tags : tags_of f.among.before ++ tags_of f.among.behind ≡ tags_of rest
  rest_tags = sym (map-append (λ (it : Item). it.tag) f.among.before f.among.behind)

  loose : IsLoose slots (with_window g region rest) x.tag
  loose = loose_waited rules notes a slots k g h sqid region ab.there x first inside rest (subst (IsNew x.tag) rest_tags (IsNew-others (tags_of f.among.before) x.tag (tags_of f.among.behind) linked.apart))

  -- another slot in no list is none of them
  module _ (y : ℕ) (other : IsLoose slots g y) where
    among : IsNew y (tags_of f.among.before ++ x.tag ∷ tags_of f.among.behind)
    among = subst (IsNew y) (ap tags_of f.among.whole ∙ map-append (λ (it : Item). it.tag) f.among.before (x ∷ f.among.behind)) (other.windows region)

    behind : IsNew y (x.tag ∷ tags_of f.among.behind)
    behind = IsNew-right y (tags_of f.among.before) (x.tag ∷ tags_of f.among.behind) among

    another : y ≢ x.tag
    another e = All-head (λ (z : ℕ). z ≢ y) x.tag (tags_of f.among.behind) behind (sym e)

    left_loose : IsNew y (tags_of rest)
    left_loose =
        subst (IsNew y) rest_tags
        (IsNew-append y (tags_of f.among.before) (tags_of f.among.behind) (IsNew-left y (tags_of f.among.before) (x.tag ∷ tags_of f.among.behind) among)
        (All-tail (λ (z : ℕ). z ≢ y) x.tag (tags_of f.among.behind) behind))

  -- it is aborted
  pub requested_one : (io : sqid ≢ 0) (in_table : k.table.sq sqid ≡ Some entry) (not_closing : entry.closing ≡ false) (y : ℕ) → IsLoose slots g y
      → (sq : SqState) (chain : Chain) (mid : List Slot) (n o : ℕ) (board : BoardFields) (m b : Controller) (pool : List Slot) → sq ≡ sq_at a.sqs sqid
      → IsChain mid chain (without_named slots cid (tags_of (g.windows region))) → SameItems slots mid → SameLinks (tags_of (g.windows region)) slots mid
      → n ≡ sq.unposted + 1 → o ≡ a.outstanding + 1 → WentBoard a.board board sqid (sq.held == 1) → board.arbiter ≡ a.board.arbiter
      → ((mechanism : Mechanism) (first : ArbitrationFields) (past : History) → BoardStandsAt mechanism first past (board_of a.board) → BoardStandsAt mechanism first past (board_of board))
      → m ≡ record a { sqs = slice_set a.sqs sqid (record sq { window = chain; unposted = n }); board = board; outstanding = o } → KeepsRequest m mid tag sq.cqid b pool
      → length pool ≡ length mid → ((z : ℕ) → z ≢ tag → item_at pool z ≡ item_at mid z)
      → HasRequested rules notes k sqid cid slots y b pool
  requested_one io in_table not_closing y other sq chain mid n o board m b pool sq_is without same links unposted outstanding went arbiter stands m_is request size others = record {
    io = io;
    entry = entry;
    in_table = in_table;
    not_closing = not_closing;
    c = ab.c;
    attached = ab.attached;
    found = candidate_of x;
    oldest = oldest;
    board = board_of board;
    queues = queues;
    stands = λ mechanism first past s. stands mechanism first past (subst (λ (v : BoardView). BoardStandsAt mechanism first past v) (sym h.numbers.board_is) s);
    items = with_item (with_window g region rest) ab.c (ended x.tag t);
    keeps = subst (λ (z : ℕ). KeepsRequest m mid z sq.cqid b pool) (sym f.tag_is) request rules notes later (with_window g region rest) t keeps (loose_same slots mid (with_window g region rest) x.tag same loose) made
        (inl (ab.is_aborted (candidate_of x) oldest)) cookie (sym (rw ab.io refl)) unflagged ab.c to (h.numbers.sqs.ids.ids_are sqid region ab.there);
    loose = loose_ended mid pool (with_window g region rest) x.tag ab.c t y size (λ z differ. others z (λ e. differ (e ∙ sym f.tag_is))) (another y other)
        (loose_same slots mid (with_window g region rest) y same (loose_windowed slots g region rest y other (left_loose y other)));
    slot = others y (λ e. another y other (e ∙ sym f.tag_is)) ∙ same.items y;
  } where
    t : Ready
    t = requested sqid region (candidate_of x)

    s : SqState
    s = record (sq_at a.sqs sqid) { window = chain; unposted = n }

    c : SqContent
    c = record (k.sq region) { window = without_oldest cid (k.sq region).window; unposted = (k.sq region).unposted + 1 }

    later : Content
    later = record (with_sq k region c) { board = board_of board; outstanding = k.outstanding + 1 }

    to : k.cq_life sq.cqid ≡ Some ab.c
    to = ap (λ (z : SqState). k.cq_life z.cqid) sq_is ∙ posts_to rules notes a slots k g sqid region ab.c h ab.there ab.attached

    unposted_is : n ≡ (k.sq region).unposted + 1
    unposted_is = unposted ∙ ap (λ (z : SqState). z.unposted + 1) sq_is ∙ ap (λ (z : ℕ). z + 1) (h.numbers.sqs.each sqid region ab.there).unposted

    went_is : board_of board ≡ record (board_of a.board) { queues = slice_set (board_of a.board).queues sqid (Some (counted_on k (queue_in entry) (length (without_oldest cid (k.sq region).window)))) }
    went_is =
        subst (λ (q : Option OpenQueue). IfSome q (λ (queue : OpenQueue). board_of board ≡ record (board_of a.board) { queues = slice_set (board_of a.board).queues sqid (Some (record queue { count = if sq.held == 1 then queue.count else queue.count - 1 })) }))
        (ap (λ (v : BoardView). queue_at v.queues sqid) h.numbers.board_is ∙ ab.on_board) went
        ∙ ap (λ (z : ℕ). record (board_of a.board) { queues = slice_set (board_of a.board).queues sqid (Some (record (on_board k (queue_in entry)) { count = z })) })
        (went_on (sq.held == 1) (k.held region) (length (k.sq region).window) (length (without_oldest cid (k.sq region).window)) (ap (λ (z : SqState). z.held == 1) sq_is ∙ (h.numbers.sqs.each sqid region ab.there).held) fewer)

    queues : (board_of board).queues ≡ slice_set k.board.queues sqid (Some (counted_on k (queue_in entry) (length (without_oldest cid (k.sq region).window))))
    queues =
        ap (λ (v : BoardView). v.queues) went_is
        ∙ ap (λ (v : BoardView). slice_set v.queues sqid (Some (counted_on k (queue_in entry) (length (without_oldest cid (k.sq region).window))))) h.numbers.board_is

    -- the queue was shown, and so the same are
    still_shown : (q : ℕ) → shown_in (board_of board) q ≡ shown_in k.board q
    still_shown q = ap (λ (qs : List (Option OpenQueue)). is_some (queue_at qs q)) queues
        ∙ shown_put k.board.queues sqid (Some (counted_on k (queue_in entry) (length (without_oldest cid (k.sq region).window)))) (sym (ap (λ (o : Option OpenQueue). is_some o) ab.on_board)) q

    windowed : Keeps rules notes (record a { sqs = slice_set a.sqs sqid s }) mid (with_sq k region c) (with_window g region rest)
    windowed =
        keeps_windowed rules notes a slots k g h none sqid region ab.there s c rest mid k.held k.classed (h.numbers.sqs.each sqid region ab.there).held (λ r other. refl) same links refl refl refl refl refl unposted_is refl
        (subst (IsChain mid chain) f.without without) (others_hold (IsWaitingIn slots sqid region) (h.has.windows.items sqid region ab.there)) (ap (without_oldest cid) window_is ∙ f.among.left)
        (others_hold (λ (it : Item). IsUnanswered notes it.place) (h.tags.unanswered.windows region)) (others_hold (HasCookie notes slots) (h.tags.cookies.windows region))

    keeps : Keeps rules notes m mid later (with_window g region rest)
    keeps =
        subst (λ (z : Controller). Keeps rules notes z mid later (with_window g region rest))
        (sym (m_is ∙ ap (λ (z : SqState). record a { sqs = slice_set a.sqs sqid (record z { window = chain; unposted = n }); board = board; outstanding = o }) sq_is))
        (keeps_outstanding rules notes (record a { sqs = slice_set a.sqs sqid s }) mid (with_sq k region c) (with_window g region rest) board (board_of board) o (k.outstanding + 1) windowed refl
        (subst (λ (z : ArbiterFields). IsTrue (is_arbiter z)) (sym arbiter) h.numbers.is_arbiter) (λ q r is. still_shown q) (outstanding ∙ ap (λ (z : ℕ). z + 1) h.numbers.outstanding_is))

    cookie : IsCookie notes mid x.tag t.place
    cookie = cookie_left notes slots mid (same_cookies slots mid same) x.tag t.place
        (subst (λ (r : ℕ). cookie_of notes r x.place.index ≡ Some (slot_at slots x.tag).cookie) first.place
        (All-head (HasCookie notes slots) x f.among.behind
        (All-parts (HasCookie notes slots) f.among.before (x ∷ f.among.behind) (subst (All (HasCookie notes slots)) f.among.whole (h.tags.cookies.windows region))).1))

    unflagged : IsUnflagged notes t.place
    unflagged = h.tags.flagged.none region x.place.index
        (subst (λ (r : ℕ). answer_of notes r x.place.index ≡ None) first.place
        (All-head (λ (it : Item). IsUnanswered notes it.place) x f.among.behind
        (All-parts (λ (it : Item). IsUnanswered notes it.place) f.among.before (x ∷ f.among.behind)
        (subst (All (λ (it : Item). IsUnanswered notes it.place)) f.among.whole (h.tags.unanswered.windows region))).1))

    made : MakesReady mid x.tag 4 abort_requested 0 t
    made = let same_slot = same.items x.tag in record {
      state_is = refl;
      sqid = ap (λ (z : Slot). z.sqid) same_slot ∙ first.queue;
      cid = ap (λ (z : Slot). z.entry.cid) same_slot ∙ ap (λ (z : Sqe). z.cid) first.entry;
      status_is = refl;
      dw0_is = refl;
    }

-- ---- the queue in the table

-- a queue of the code's table is one of the table that it tells, wherever it lies
pub record IsToldOf (queue : SqEntry) (o : Option SqEntry) : Type 0 where
  pub entry : SqEntry
  pub there : o ≡ Some entry
  pub same : unplaced queue ≡ unplaced entry

pub told_queue : (p : PlacedTable) (t : QueueTable) → Tells p t → (q : ℕ) (queue : SqEntry) → sq_of (content_of p) q ≡ Some queue → IsToldOf queue (t.sq q)
told_queue p t tells q queue is = by (t.sq q) (ap (option_map unplaced) (sym is) ∙ tells.sq q) where
  by : (o : Option SqEntry) → Some (unplaced queue) ≡ option_map unplaced o → IsToldOf queue o
  by None e = absurd (cc e)
  by (Some entry) e = record { entry = entry; there = refl; same = same_Some (unplaced queue) (unplaced entry) e }

-- one unposted place more in a region is counted
pub few_unposted_more : (rules : FrontRules) (notes : Notes) (a : Controller) (slots : List Slot) (k : Content) (g : Items) (sqid cid : ℕ) (entry : SqEntry) (sq : SqState) → Keeps rules notes a slots k g
    → IsAbortableIn notes k sqid cid entry → sq ≡ sq_at a.sqs sqid → min (sq.unposted + 1) 65535 ≡ sq.unposted + 1
few_unposted_more rules notes a slots k g sqid cid entry sq h ab sq_is =
    let same = ap (λ (z : SqState). z.unposted) sq_is in
    let is = (h.numbers.sqs.each sqid entry.region ab.there).unposted in
    let few = ab.few_unposted in
    omega arith

-- and with the outstanding places
pub few_outstanding_more : (rules : FrontRules) (notes : Notes) (a m : Controller) (slots : List Slot) (k : Content) (g : Items) (sqid cid : ℕ) (entry : SqEntry) → Keeps rules notes a slots k g
    → a.picked ≡ 0 → IsAbortableIn notes k sqid cid entry → (tag : ℕ) → named_in slots cid (tags_of (g.windows entry.region)) ≡ Some tag → m.outstanding ≡ a.outstanding
    → min (m.outstanding + 1) 65535 ≡ a.outstanding + 1
few_outstanding_more rules notes a m slots k g sqid cid entry h none ab tag named same =
    let is = h.numbers.outstanding_is in
    let few = ab.few_outstanding _ (oldest rules notes a slots k g sqid cid h none entry ab tag named) in
    omega (arith, is, few, same)

-- the chain of a queue's window
pub chain_there : (rules : FrontRules) (notes : Notes) (a : Controller) (slots : List Slot) (k : Content) (g : Items) (qid region : ℕ) (sq : SqState) → Keeps rules notes a slots k g
    → k.sq_life qid ≡ Some region → sq ≡ sq_at a.sqs qid → IsChain slots sq.window (tags_of (g.windows region))
chain_there rules notes a slots k g qid region sq h life is = subst (λ (s : SqState). IsChain slots s.window (tags_of (g.windows region))) (sym is) (h.has.windows.chain qid region life)

-- where no slot has the name, no candidate has it
pub none_left : (rules : FrontRules) (notes : Notes) (a : Controller) (slots : List Slot) (k : Content) (g : Items) (cid qid region : ℕ) → Keeps rules notes a slots k g → a.picked ≡ 0 → k.sq_life qid ≡ Some region
    → named_in slots cid (tags_of (g.windows region)) ≡ None → oldest_named cid (k.sq region).window ≡ None
none_left rules notes a slots k g cid qid region h none life named =
    ap (oldest_named cid) (h.has.windows.are region ∙ ap (λ (n : ℕ). map candidate_of (drop n (g.windows region))) (none_picked_of a (k.sq_id region) none))
    ∙ none_finds slots qid region cid (g.windows region) (h.has.windows.items qid region life) named
