-- What a controller keeps stands at its log after a region was added.
use Rattle.std.proofs.Common.{◌≡◌, ℕ, zero, suc, ◌<◌, ◌≤◌, ◌&&◌, Bool, true, false, not, List, [], ◌++◌, filter, length, Option, Some, None, is_some, refl, sym, ap, ◌∙◌, subst, arith, inl, inr, sum_by}
use Rattle.std.proofs.lemmas.Bool.{cases_lt}
use Rattle.std.proofs.lemmas.List.{append-nil}
use Rattle.nvme_entry.specs.declared.submission.Sqe.{Sqe}
use Rattle.nvme_admin.specs.History.{TableHistory}
use Rattle.nvme_admin.specs.QueueTable.{QueueTable}
use Rattle.nvme_admin.specs.Accepted.{queue_table}
use Rattle.nvme_log.specs.Histories.{table_history}
use Rattle.nvme_log.specs.Rules.{FrontRules, Past, upto, sq_regions_of, cq_regions_of, slots_at}
use Rattle.nvme_log.specs.Places.{fetched}
use Rattle.nvme_log.specs.Completions.{is_posted, takes_place}
use Rattle.nvme_log.specs.Laws.{as_open}
use Rattle.nvme_log.specs.declared.place.Place.{Place}
use Rattle.nvme_ctrl_content.specs.Content.{Attachment, PendingDelete, Ready, Content}
use Rattle.nvme_ctrl_log.specs.Making.{placing_in}
use Rattle.nvme_ctrl_content.specs.Standing.{HoldsSq, HoldsReady, HoldsHand, HoldsCounts, HoldsPosts, HoldsQueues, HoldsDeletion, HoldsLives, HoldsTable, HoldsOwn, IsPending, Holds, hand_of, held_by, held_upto, times_in, is_on}
use Rattle.nvme_ctrl_content.proofs.DeletedQueues.{deletion_within}
use Rattle.nvme_ctrl_log.proofs.Growing.{sum_by-further, over_further, outstanding_in}

-- more regions, of which nothing is kept but their slots, and a table with the same queues
abbrev pub grown : Content → (sq_slots cq_slots : ℕ → ℕ) → (nsq ncq : ℕ) → QueueTable → Content
grown k sq_slots cq_slots nsq ncq table = record k {
  sq = λ (r : ℕ). record (k.sq r) { slots = sq_slots r };
  cq = λ (c : ℕ). record (k.cq c) { slots = cq_slots c };
  nsq = nsq;
  ncq = ncq;
  table = table;
}

-- the regions that there are then, the table with them, and what holds of answers at the rules with them
pub record Grows (rules : FrontRules) (late : Bool) (past : Past) (regions : TableHistory) (k : Content) (sq_slots cq_slots : ℕ → ℕ) (nsq ncq : ℕ) (table : QueueTable) : Type 0 where
  pub sqs : k.nsq ≤ nsq
  pub cqs : k.ncq ≤ ncq
  pub same_sq : (q : ℕ) → table.sq q ≡ k.table.sq q
  pub same_cq : (q : ℕ) → table.cq q ≡ k.table.cq q
  pub same_used : (r : ℕ) → table.sq_region_used r ≡ k.table.sq_region_used r
  pub same_cq_used : (r : ℕ) → table.cq_region_used r ≡ k.table.cq_region_used r
  pub history : TableHistory
  pub table_is : table ≡ queue_table rules.start history
  pub placing_is : table.placing ≡ placing_in (record rules { regions = regions })
  pub in_time : is_some table.placing ≡ true → late ≡ false
  pub history_is : late ≡ false → history ≡ table_history (record rules { regions = regions }) past
  pub own : late ≡ false → HoldsOwn (record rules { regions = regions }) past k
  pub sq_count : length table.sq_regions ≡ nsq
  pub cq_count : length table.cq_regions ≡ ncq
  pub sq_number : length (sq_regions_of (record rules { regions = regions })) ≡ nsq
  pub cq_number : length (cq_regions_of (record rules { regions = regions })) ≡ ncq
  pub sq_slots_are : (r : ℕ) → slots_at (sq_regions_of (record rules { regions = regions })) r ≡ sq_slots r
  pub cq_slots_are : (c : ℕ) → slots_at (cq_regions_of (record rules { regions = regions })) c ≡ cq_slots c
  pub sq_regions_are : table.sq_regions ≡ sq_regions_of (record rules { regions = regions })
  pub cq_regions_are : table.cq_regions ≡ cq_regions_of (record rules { regions = regions })

-- and of the deletions of regions
held_further : (deletion : ℕ → Option PendingDelete) (m n : ℕ) → m ≤ n → ((r : ℕ) → m ≤ r → deletion r ≡ None) → held_upto deletion n ≡ held_upto deletion m
unfolding held_upto
held_further deletion m zero le none = let same : m ≡ 0 = omega arith in ap (held_upto deletion) (sym same)
held_further deletion m (suc n) le none = elim (cases_lt m (suc n)) [
  | inl below ↦
      ap (λ (o : Option PendingDelete). held_upto deletion n ++ held_by o) (none n (omega arith)) ∙ append-nil (held_upto deletion n)
      ∙ held_further deletion m n (omega arith) none
  | inr from ↦ let same : m ≡ suc n = omega arith in ap (held_upto deletion) (sym same)
]

module _ (rules : FrontRules) (late later : Bool) (past : Past) (k : Content) (s : Holds rules late past k)
    (regions : TableHistory) (sq_slots cq_slots : ℕ → ℕ) (nsq ncq : ℕ) (table : QueueTable)
    (g : Grows rules later past regions k sq_slots cq_slots nsq ncq table) where
  -- nothing was got from a region that isn't there
  none_opened : (r : ℕ) → k.nsq ≤ r → (o : Option Attachment) → (k.sq r).queue ≡ o → (k.sq r).got ≡ []
  none_opened r past_end None is = (s.queues.unopened r is).nothing_got
  none_opened r past_end (Some a) is = let there : r < k.nsq = s.queues.sq_there r a is in absurd (omega arith)

  -- nothing was fetched from a region that isn't there
  pub none_fetched : (r : ℕ) → k.nsq ≤ r → fetched past r ≡ []
  none_fetched r past_end = (s.regions r).fetched_is ∙ none_opened r past_end (k.sq r).queue refl

  -- the places of each region stay
  grown_sq : (r : ℕ) → HoldsSq past r (record (k.sq r) { slots = sq_slots r })
  grown_sq r =
      let h = s.regions r in
      record {
        fetched_is = h.fetched_is;
        counted = h.counted;
        waiting_is = h.waiting_is;
        entries = h.entries;
        few_waiting = h.few_waiting;
        few_picked = h.few_picked;
        none_aborted = h.none_aborted;
        none_posted = h.none_posted;
      }

  -- a region that isn't there has no deletion
  none_deleted : (r : ℕ) → k.nsq ≤ r → k.deletion r ≡ None
  none_deleted r past_end = by (k.deletion r) refl where
    by : (o : Option PendingDelete) → k.deletion r ≡ o → o ≡ None
    by None is = refl
    by (Some d) is = let there = deletion_within rules late past k s r d is in absurd (omega (arith, there, past_end))

  -- the places in hand stay
  same_hand : hand_of (grown k sq_slots cq_slots nsq ncq table) ≡ hand_of k
  same_hand = ap (λ (ps : List Place). k.hand ++ ps) (held_further k.deletion k.nsq nsq g.sqs none_deleted)

  -- what is ready stays: nothing is ready in a new region
  grown_ready : HoldsReady past (grown k sq_slots cq_slots nsq ncq table) (hand_of (grown k sq_slots cq_slots nsq ncq table))
  grown_ready = subst (λ (hand : List Place). HoldsReady past (grown k sq_slots cq_slots nsq ncq table) hand) (sym same_hand) (record {
    once = λ r i.
        omega (
          arith,
          s.ready.once r i,
          over_further (λ (c : ℕ). times_in r i (k.cq c).ready) k.ncq ncq g.cqs (λ c beyond. ap (λ (ts : List Ready). times_in r i ts) (s.ready.none_beyond c beyond)),
        );
    each = s.ready.each;
    taken =
        omega (
          arith,
          s.ready.taken,
          over_further (λ (c : ℕ). length (filter (λ (t : Ready). not t.with_queue) (k.cq c).ready)) k.ncq ncq g.cqs
              (λ c beyond. ap (λ (ts : List Ready). length (filter (λ (t : Ready). not t.with_queue) ts)) (s.ready.none_beyond c beyond)),
        );
    none_beyond = λ c beyond. s.ready.none_beyond c (let more = g.cqs in omega (arith, beyond, more));
    admin_qid = s.ready.admin_qid;
    admin_region = s.ready.admin_region;
  })

  -- so does what is in hand
  grown_hand : HoldsHand past (grown k sq_slots cq_slots nsq ncq table)
  grown_hand = record { each = s.hand.each }

  -- the counts stay, since nothing is outstanding in a new region
  grown_counts : HoldsCounts (record rules { regions = regions }) past (grown k sq_slots cq_slots nsq ncq table)
  grown_counts = record {
    unposted = s.counts.unposted;
    outstanding_is =
        s.counts.outstanding_is ∙ ap (λ (n : ℕ). sum_by (outstanding_in past) (upto n)) s.tabled.sq_number
        ∙ sym (ap (λ (n : ℕ). sum_by (outstanding_in past) (upto n)) g.sq_number
        ∙ sum_by-further (outstanding_in past) k.nsq nsq g.sqs (λ r past_end. ap (λ (xs : List Sqe). length (filter (λ (i : ℕ). takes_place past r i && not (is_posted past r i)) (upto (length xs)))) (none_fetched r past_end)));
  }

  -- what was posted stays
  grown_posts : HoldsPosts past (grown k sq_slots cq_slots nsq ncq table)
  grown_posts = record { posted_is = s.posts.posted_is; counted = s.posts.counted }

  -- the queues stay
  grown_queues : HoldsQueues past (grown k sq_slots cq_slots nsq ncq table)
  grown_queues = record {
    sqs = λ q. s.queues.sqs q ∙ ap as_open (sym (g.same_sq q));
    cqs = λ q. s.queues.cqs q ∙ sym (g.same_cq q);
    board = s.queues.board;
    board_size = s.queues.board_size;
    few = s.queues.few;
    cq_there = λ q c h. let before = s.queues.cq_there q c h in let more = g.cqs in omega arith;
    qid_is = s.queues.qid_is;
    cq_region_is = s.queues.cq_region_is;
    attached = λ q queue h. let a = s.queues.attached q queue h in record { cq_region = a.cq_region; attached = a.attached };
    sq_there = λ r a h. let before = s.queues.sq_there r a h in let more = g.sqs in omega arith;
    posts_there = λ r a h. let before = s.queues.posts_there r a h in let more = g.cqs in omega arith;
    unused = λ r h. s.queues.unused r (sym (g.same_used r) ∙ h);
    unopened = λ r h. let u = s.queues.unopened r h in record { nothing_got = u.nothing_got; not_closed = u.not_closed };
    gone = λ r h. let u = s.queues.gone r h in record { all_posted = u.all_posted; none_waits = u.none_waits };
    closed = s.queues.closed;
    deleting = λ r d h. let o = s.queues.deleting r d h in record { cq_region = o.cq_region; opened = o.opened };
  }

  -- the pending deletions stay
  grown_pending : (r : ℕ) (d : PendingDelete) → IsPending past k r d → IsPending past (grown k sq_slots cq_slots nsq ncq table) r d
  grown_pending r d p = record {
    at = p.at;
    closing = p.closing;
    in_table = g.same_sq d.qid ∙ p.in_table;
    is_closing = p.is_closing;
    region = p.region;
    of_admin = p.of_admin;
    entry = p.entry;
    is_there = p.is_there;
    cid = p.cid;
    not_aborted = p.not_aborted;
    none_waits = p.none_waits;
    not_closed = p.not_closed;
    not_admin = p.not_admin;
    attached = p.attached;
  }

  -- and what is said of deletions
  grown_deletion : HoldsDeletion past (grown k sq_slots cq_slots nsq ncq table)
  grown_deletion = record {
    place_is = s.deletion.place_is;
    stands = λ r d h. grown_pending r d (s.deletion.stands r d h);
  }

  -- and the queues whose state is kept
  grown_lives : HoldsLives past (grown k sq_slots cq_slots nsq ncq table)
  grown_lives = record {
    sqs = s.lives.sqs;
    deleted = s.lives.deleted;
    cqs = s.lives.cqs;
    not_closed = s.lives.not_closed;
    named = s.lives.named;
    in_table = λ q r h. ap (is_on r) (g.same_sq q) ∙ s.lives.in_table q r h;
    there = s.lives.there;
    unopened = λ x h. s.lives.unopened x (sym (g.same_cq_used x) ∙ h);
  }

  -- the table stands at a history with the new region
  grown_table : HoldsTable (record rules { regions = regions }) later past (grown k sq_slots cq_slots nsq ncq table)
  grown_table = record {
    history = g.history;
    table_is = g.table_is;
    few_queues = λ q entry e. s.tabled.few_queues q entry (sym (g.same_sq q) ∙ e);
    placing = g.placing_is;
    in_time = g.in_time;
    history_is = g.history_is;
    sq_count = g.sq_count;
    cq_count = g.cq_count;
    sq_number = g.sq_number;
    cq_number = g.cq_number;
    sq_slots = g.sq_slots_are;
    cq_slots = g.cq_slots_are;
    sq_regions_are = g.sq_regions_are;
    cq_regions_are = g.cq_regions_are;
  }

  -- the answers stay
  grown_own : later ≡ false → HoldsOwn (record rules { regions = regions }) past (grown k sq_slots cq_slots nsq ncq table)
  grown_own on_time =
      let o = g.own on_time in
      record { effects_whole = o.effects_whole; own_statuses = o.own_statuses; own_deletion = o.own_deletion }

  -- more regions leave standing what is kept
  pub holds_when_grown : Holds (record rules { regions = regions }) later past (grown k sq_slots cq_slots nsq ncq table)
  holds_when_grown = record {
    regions = grown_sq;
    ready = grown_ready;
    hand = grown_hand;
    counts = grown_counts;
    posts = grown_posts;
    queues = grown_queues;
    deletion = grown_deletion;
    lives = grown_lives;
    arbitration = record { stands = s.arbitration.stands; lawful = s.arbitration.lawful };
    tabled = grown_table;
    own = grown_own;
  }
