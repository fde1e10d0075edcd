-- The queues of a log and of what is kept, without the table.
use Rattle.std.proofs.Common.{◌≡◌, ℕ, ◌≤◌, ◌<◌, Bool, true, false, if◌then◌else◌, List, [], length, Option, Some, None, refl, sym, ◌∙◌, ap, subst, inl, inr}
use Rattle.std.specs.Prelude.{option_map, slice_set, unwrap_or}
use Rattle.std.proofs.lemmas.Bool.{cases_eq, ne_eqb}
use Rattle.std.proofs.lemmas.List.{get_or-set_same, get_or-set_other}
use Rattle.nvme_arbiter.specs.Limits.{highest_qid, queue_limit}
use Rattle.nvme_arbiter.specs.Queues.{queue_at}
use Rattle.nvme_arbiter.specs.declared.pick.OpenQueue.{OpenQueue}
use Rattle.nvme_arbiter.specs.declared.settings.Class.{Class}
use Rattle.nvme_ctrl_content.specs.Content.{Candidate, PendingDelete, Attachment, SqContent, Content, put_sq, put_held, put_class}
use Rattle.nvme_log.specs.Rules.{Past}
use Rattle.nvme_log.specs.Queues.{Queue, open_sq, open_cq, is_closed_region, qid_of_region, cq_region_of}
use Rattle.nvme_ctrl_content.specs.Standing.{IsGone, IsOpenedFor}
use Rattle.nvme_ctrl_log.proofs.QueueWords.{at_same, at_other}

-- what a log says of queues: the open ones, the closed regions, and what each region was opened for
pub record LogQueues : Type 0 where
  pub sqs : ℕ → Option Queue
  pub cqs : ℕ → Option ℕ
  pub closed : ℕ → Bool
  pub qids : ℕ → Option ℕ
  pub cq_regions : ℕ → Option ℕ

abbrev pub in_log : Past → LogQueues
in_log past = record { sqs = open_sq past; cqs = open_cq past; closed = is_closed_region past; qids = qid_of_region past; cq_regions = cq_region_of past }

-- what is kept of queues
pub record QueueContent : Type 0 where
  pub sq : ℕ → SqContent
  pub nsq : ℕ
  pub ncq : ℕ
  pub board : List (Option OpenQueue)
  pub deletion : ℕ → Option PendingDelete
  pub held : ℕ → Bool
  pub classed : ℕ → Option Class

abbrev pub in_content : Content → QueueContent
in_content k = record { sq = k.sq; nsq = k.nsq; ncq = k.ncq; board = k.board.queues; deletion = k.deletion; held = k.held; classed = k.classed }

-- an open queue as the board has it, where it has so many candidates, and with its number of candidates
abbrev pub with_count : (ℕ → Bool) → (ℕ → Option Class) → Queue → ℕ → OpenQueue
with_count held classed queue n = record { class = unwrap_or (classed queue.region) queue.class; count = if held queue.region then 0 else n }

abbrev pub counted : (ℕ → Bool) → (ℕ → Option Class) → (ℕ → SqContent) → Queue → OpenQueue
counted held classed sq queue = with_count held classed queue (length (sq queue.region).window)

-- a region was opened for a queue
pub record OpenedFor (s : SqContent) (q : ℕ) : Type 0 where
  pub cq_region : ℕ
  pub opened : s.queue ≡ Some (record { qid = q; cq_region = cq_region })

-- nothing happened to a region
pub record IsBlank (closed : ℕ → Bool) (r : ℕ) (s : SqContent) : Type 0 where
  pub nothing_got : s.got ≡ []
  pub none_waits : s.window ≡ []
  pub not_closed : closed r ≡ false

-- the queues of a log are those that are kept, and those of the board
pub record Agree (l : LogQueues) (k : QueueContent) : Type 0 where
  pub board : (q : ℕ) → queue_at k.board q ≡ option_map (counted k.held k.classed k.sq) (l.sqs q)
  pub board_size : length k.board ≡ queue_limit
  pub few : (q : ℕ) (queue : Queue) → l.sqs q ≡ Some queue → q ≤ highest_qid
  pub cq_there : (q c : ℕ) → l.cqs q ≡ Some c → c < k.ncq
  pub qid_is : (r : ℕ) → l.qids r ≡ option_map (λ (a : Attachment). a.qid) (k.sq r).queue
  pub cq_region_is : (r : ℕ) → l.cq_regions r ≡ option_map (λ (a : Attachment). a.cq_region) (k.sq r).queue
  pub attached : (q : ℕ) (queue : Queue) → l.sqs q ≡ Some queue → OpenedFor (k.sq queue.region) q
  pub sq_there : (r : ℕ) (a : Attachment) → (k.sq r).queue ≡ Some a → r < k.nsq
  pub posts_there : (r : ℕ) (a : Attachment) → (k.sq r).queue ≡ Some a → a.cq_region < k.ncq
  pub unopened : (r : ℕ) → (k.sq r).queue ≡ None → IsBlank l.closed r (k.sq r)
  pub gone : (r : ℕ) → l.closed r ≡ true → IsGone (k.sq r)
  pub closed : (q r : ℕ) (queue : Queue) → l.closed r ≡ true → l.sqs q ≡ Some queue → queue.region ≡ r → ⊥
  pub deleting : (r : ℕ) (d : PendingDelete) → k.deletion r ≡ Some d → IsOpenedFor k.sq d

-- a region in whose place the same queue's region is put was opened for what it was
pub put-queue : (sq : ℕ → SqContent) (r : ℕ) (s : SqContent) → s.queue ≡ (sq r).queue → (x : ℕ) → (put_sq sq r s x).queue ≡ (sq x).queue
put-queue sq r s e x = elim (cases_eq x r) [
  | inl p ↦ ap (λ (z : SqContent). z.queue) (at_same x r s (sq x) p) ∙ e ∙ ap (λ (z : ℕ). (sq z).queue) (sym p)
  | inr n ↦ ap (λ (z : SqContent). z.queue) (at_other x r s (sq x) n)
]

-- so are its candidates what they were, where they are those of what is put
pub put-window : (sq : ℕ → SqContent) (r : ℕ) (s : SqContent) → s.window ≡ (sq r).window → (x : ℕ) → (put_sq sq r s x).window ≡ (sq x).window
put-window sq r s e x = elim (cases_eq x r) [
  | inl p ↦ ap (λ (z : SqContent). z.window) (at_same x r s (sq x) p) ∙ e ∙ ap (λ (z : ℕ). (sq z).window) (sym p)
  | inr n ↦ ap (λ (z : SqContent). z.window) (at_other x r s (sq x) n)
]

-- one region, opened for two queues, is opened for one
pub one_queue : (s : SqContent) (p q : ℕ) → OpenedFor s p → OpenedFor s q → p ≡ q
one_queue s p q a b = ap (λ (o : Option Attachment). qid_in o) (sym a.opened ∙ b.opened) where
  qid_in : Option Attachment → ℕ
  qid_in None = 0
  qid_in (Some a) = a.qid

-- ---- the board
-- a queue whose region is another has on the board what it had
pub on_others : (held : ℕ → Bool) (classed : ℕ → Option Class) (sq : ℕ → SqContent) (r : ℕ) (s : SqContent) (o : Option Queue)
    → ((queue : Queue) → o ≡ Some queue → queue.region ≡ r → ⊥)
    → option_map (counted held classed sq) o ≡ option_map (counted held classed (put_sq sq r s)) o
on_others held classed sq r s None apart = refl
on_others held classed sq r s (Some queue) apart = rw (at_other queue.region r s (sq queue.region) (apart queue refl)) refl

-- so it has where that of a region is held or not, and is in another class
pub as_others : (held : ℕ → Bool) (classed : ℕ → Option Class) (sq : ℕ → SqContent) (r : ℕ) (on : Bool) (class : Option Class) (o : Option Queue)
    → ((queue : Queue) → o ≡ Some queue → queue.region ≡ r → ⊥)
    → option_map (counted held classed sq) o ≡ option_map (counted (put_held held r on) (put_class classed r class) sq) o
as_others held classed sq r on class None apart = refl
as_others held classed sq r on class (Some queue) apart = rw (ne_eqb queue.region r (apart queue refl)) refl

-- where the candidates of a region stay, every queue has what it had
pub on_same : (held : ℕ → Bool) (classed : ℕ → Option Class) (sq : ℕ → SqContent) (r : ℕ) (s : SqContent) (o : Option Queue) → s.window ≡ (sq r).window
    → option_map (counted held classed sq) o ≡ option_map (counted held classed (put_sq sq r s)) o
on_same held classed sq r s None e = refl
on_same held classed sq r s (Some queue) e = ap (λ (w : List Candidate). Some (with_count held classed queue (length w))) (sym (put-window sq r s e queue.region))

-- the board after the queue of one identifier changes
pub on_board-set : (board : List (Option OpenQueue)) (q : ℕ) (x : Option OpenQueue) (now : ℕ → Option OpenQueue) → q < length board
    → x ≡ now q → ((p : ℕ) → (p ≡ q → ⊥) → queue_at board p ≡ now p) → (p : ℕ) → queue_at (slice_set board q x) p ≡ now p
on_board-set board q x now within here others p = elim (cases_eq p q) [
  | inl e ↦ subst (λ (z : ℕ). queue_at (slice_set board q x) z ≡ now z) (sym e) (get_or-set_same board q x None within ∙ here)
  | inr n ↦ get_or-set_other board q p x None n ∙ others p n
]
