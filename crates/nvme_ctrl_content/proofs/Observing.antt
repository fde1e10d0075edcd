-- What the board shows is what arbitration sees, and what a pick says of its queue.
use Rattle.std.proofs.Common.{◌≡◌, ℕ, zero, suc, ◌+◌, ◌≤◌, Bool, false, true, List, [], ◌∷◌, ◌++◌, length, map, take, Option, Some, None, refl, sym, ap, subst, ◌∙◌, arith}
use Rattle.std.specs.Prelude.{option_map, unwrap_or, if◌then◌else◌}
use Rattle.std.specs.List.{flat_map}
use Rattle.std.proofs.lemmas.List.{append-nil, length-map, map-append}
use Rattle.std.proofs.lemmas.List.Concat.{flat_map-append}
use Rattle.nvme_arbiter.specs.Settings.{ArbitrationFields}
use Rattle.nvme_arbiter.specs.Limits.{queue_limit}
use Rattle.nvme_arbiter.specs.Observation.{IsObservation}
use Rattle.nvme_arbiter.specs.History.{History}
use Rattle.nvme_arbiter.specs.Lawful.{IsLimitedPick}
use Rattle.nvme_arbiter.specs.Queues.{seen_of, queue_at}
use Rattle.nvme_arbiter.specs.Queues as board
use Rattle.nvme_arbiter.specs.declared.pick.OpenQueue.{OpenQueue}
use Rattle.nvme_arbiter.specs.declared.pick.Pick.{Pick}
use Rattle.nvme_arbiter.specs.declared.pick.Seen.{Seen}
use Rattle.nvme_arbiter.specs.declared.settings.Mechanism.{Mechanism}
use Rattle.nvme_arbiter.proofs.MaskLemmas.{find_qid, seen-some, seen-none, seen-all}
use Rattle.nvme_arbiter.proofs.PickLaws.{limited_are_measured}
use Rattle.nvme_ctrl_content.specs.Content.{Candidate, Content}
use Rattle.nvme_log.specs.Rules.{Past, upto}
use Rattle.nvme_log.specs.Queues.{Queue, open_sq}
use Rattle.nvme_log.specs.Places.{waiting, seen_as}
use Rattle.nvme_log.proofs.AdminPicks.{one_of_admin}
use Rattle.nvme_ctrl_log.specs.Notes.{Notes, logged}
use Rattle.nvme_ctrl_log.specs.Observation.{is_held, class_set, shown, observed_of}
use Rattle.nvme_ctrl_content.specs.Standing.{HoldsSq, HoldsQueues, on_board}
use Rattle.nvme_ctrl_content.specs.Shown.{HoldsShown}

-- ---- the observation
-- the window of a region is as long as the list of its places that wait
pub waiting_length : (past : Past) (k : Content) (r : ℕ) → HoldsSq past r (k.sq r) → length (waiting past r) ≡ length (k.sq r).window
waiting_length past k r h = ap length h.waiting_is ∙ length-map (k.sq r).window (λ (c : Candidate). c.index)

module _ (notes : Notes) (k : Content) (h : (r : ℕ) → HoldsSq (logged notes) r (k.sq r)) (shows : HoldsShown notes k) where
  abbrev past : Past
  past = logged notes

  -- an open queue is seen on the board as it is shown
  seen_one : (q : ℕ) (queue : Queue) → open_sq past q ≡ Some queue → map (shown notes) (seen_as past q (Some queue)) ≡ board.seen_as q (on_board k queue) ∷ []
  seen_one q queue is =
      let held : is_held notes q ≡ k.held queue.region = sym (shows.held q queue is) in
      let classed : class_set notes q ≡ k.classed queue.region = sym (shows.classed q queue is) in
      let counted : length (waiting past queue.region) ≡ length (k.sq queue.region).window = waiting_length past k queue.region (h queue.region) in
      λ t. record { qid = q; class = unwrap_or (classed t) queue.class; count = if held t then 0 else counted t } ∷ []

  -- one queue more of the board
  seen_more : (n : ℕ) (xs : List Seen) (o : Option Queue) → open_sq past n ≡ o
      → queue_at k.board.queues n ≡ option_map (on_board k) o → xs ≡ seen_of (take n k.board.queues)
      → xs ++ map (shown notes) (seen_as past n o) ≡ seen_of (take (n + 1) k.board.queues)
  seen_more n xs None there e is = append-nil xs ∙ seen-none k.board.queues n xs e is
  seen_more n xs (Some queue) there e is = rw (seen_one n queue there) (seen-some k.board.queues n (on_board k queue) xs e is)

  -- the queues of the board below an identifier are seen as the open queues below it are shown
  seen_below : ((q : ℕ) → queue_at k.board.queues q ≡ option_map (on_board k) (open_sq past q)) → (n : ℕ)
      → map (shown notes) (flat_map (λ (q : ℕ). seen_as past q (open_sq past q)) (upto n)) ≡ seen_of (take n k.board.queues)
  seen_below b zero = refl
  seen_below b (suc n) =
      let more : suc n ≡ n + 1 = omega arith in
      let below : List Seen = flat_map (λ (q : ℕ). seen_as past q (open_sq past q)) (upto n) in
      ap (λ (xs : List Seen). map (shown notes) xs)
      (flat_map-append (λ (q : ℕ). seen_as past q (open_sq past q)) (upto n) (n ∷ [])
      ∙ ap (λ (ys : List Seen). below ++ ys) (append-nil (seen_as past n (open_sq past n))))
      ∙ map-append (shown notes) below (seen_as past n (open_sq past n))
      ∙ seen_more n (map (shown notes) below) (open_sq past n) refl (b n) (seen_below b n)
      ∙ ap (λ (m : ℕ). seen_of (take m k.board.queues)) (sym more)

  -- what arbitration sees of the board, where it has this many places
  seen_all : ((q : ℕ) → queue_at k.board.queues q ≡ option_map (on_board k) (open_sq past q)) → (n : ℕ) → length k.board.queues ≡ n
      → map (shown notes) (flat_map (λ (q : ℕ). seen_as past q (open_sq past q)) (upto n)) ≡ seen_of k.board.queues
  seen_all b n size = seen-all k.board.queues n (map (shown notes) (flat_map (λ (q : ℕ). seen_as past q (open_sq past q)) (upto n))) (omega arith) (seen_below b n)

-- what the board shows is what arbitration sees
pub seen_is_observed : (notes : Notes) (k : Content) → ((r : ℕ) → HoldsSq (logged notes) r (k.sq r)) → HoldsQueues (logged notes) k → HoldsShown notes k
    → seen_of k.board.queues ≡ observed_of notes
seen_is_observed notes k h q shows = sym (seen_all notes k h shows q.board queue_limit q.board_size)

-- ---- a pick
-- what a pick says of its queue: it is open on the board, with as many commands as are taken; of the admin queue one is taken
pub record IsPeeked (queues : List (Option OpenQueue)) (pick : Pick) : Type 0 where
  pub queue : OpenQueue
  pub is_open : queue_at queues pick.qid ≡ Some queue
  pub at_least_one : 1 ≤ pick.n
  pub enough : pick.n ≤ queue.count
  pub one_of_admin : pick.qid ≡ 0 → pick.n ≡ 1

-- the queue of a pick on the board, where it was seen with enough commands
peeked_at : (queues : List (Option OpenQueue)) (pick : Pick) (s : Seen) (o : Option OpenQueue) → queue_at queues pick.qid ≡ o
    → option_map (board.seen_as pick.qid) o ≡ Some s → 1 ≤ pick.n → pick.n ≤ s.count → (pick.qid ≡ 0 → pick.n ≡ 1) → IsPeeked queues pick
peeked_at queues pick s None e f one few admin = absurd (cc)
peeked_at queues pick s (Some queue) e f one few admin =
    let same : board.seen_as pick.qid queue ≡ s = cc in
    record { queue = queue; is_open = e; at_least_one = one; enough = subst (λ (x : Seen). pick.n ≤ x.count) (sym same) few; one_of_admin = admin }

-- the pick of a board: its queue is open there, with enough commands that wait
pub peeked : (m : Mechanism) (first : ArbitrationFields) (past : History) (queues : List (Option OpenQueue)) (pick : Pick)
    → IsObservation (seen_of queues) → IsLimitedPick m first past (seen_of queues) pick → IsPeeked queues pick
peeked m first past queues pick o h =
    let is = limited_are_measured m first past (seen_of queues) pick o h in
    peeked_at queues pick is.queue (queue_at queues pick.qid) refl (sym (find_qid queues pick.qid) ∙ is.was_seen) is.at_least_one is.within_count
    (one_of_admin m first past (seen_of queues) pick o h)

-- ---- the same, in the log
-- the queue of a pick is open in the log, with as many candidates as are taken; of the admin queue one is taken
pub record IsPickable (past : Past) (k : Content) (pick : Pick) : Type 0 where
  pub queue : Queue
  pub is_open : open_sq past pick.qid ≡ Some queue
  pub at_least_one : 1 ≤ pick.n
  pub enough : pick.n ≤ length (k.sq queue.region).window
  pub one_of_admin : pick.qid ≡ 0 → pick.n ≡ 1

-- a count that is as many, of a queue that isn't held
enough_on : (b : Bool) (n m : ℕ) → n ≤ (if b then 0 else m) → n ≤ m
enough_on true n m le = omega (arith, le)
enough_on false n m le = le

-- the queue of a pick in the log, where the board has the queues of the log
pickable_at : (past : Past) (k : Content) (pick : Pick) (o : Option Queue) → open_sq past pick.qid ≡ o
    → queue_at k.board.queues pick.qid ≡ option_map (on_board k) o → IsPeeked k.board.queues pick → IsPickable past k pick
pickable_at past k pick None e b is = let both : None ≡ Some is.queue = sym b ∙ is.is_open in absurd (cc)
pickable_at past k pick (Some queue) e b is =
    let both : Some (on_board k queue) ≡ Some is.queue = sym b ∙ is.is_open in
    let same : on_board k queue ≡ is.queue = cc in
    record {
      queue = queue;
      is_open = e;
      at_least_one = is.at_least_one;
      enough = enough_on (k.held queue.region) pick.n (length (k.sq queue.region).window) (subst (λ (x : OpenQueue). pick.n ≤ x.count) (sym same) is.enough);
      one_of_admin = is.one_of_admin;
    }

-- the pick of a board is of a queue that is open in the log
pub pickable : (m : Mechanism) (first : ArbitrationFields) (history : History) (past : Past) (k : Content) (pick : Pick)
    → HoldsQueues past k → IsObservation (seen_of k.board.queues) → IsLimitedPick m first history (seen_of k.board.queues) pick
    → IsPickable past k pick
pickable m first history past k pick q o h =
    pickable_at past k pick (open_sq past pick.qid) refl (q.board pick.qid) (peeked m first history k.board.queues pick o h)
