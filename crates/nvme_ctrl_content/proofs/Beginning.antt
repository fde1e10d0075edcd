-- What a controller with its admin regions alone keeps holds at the empty log.
use Rattle.std.proofs.Common.{◌≡◌, ℕ, zero, suc, ◌+◌, ◌<◌, ◌==◌, ◌||◌, ◌&&◌, nat_lt, Bool, true, false, not, if◌then◌else◌, List, [], ◌∷◌, length, replicate, Option, Some, None, refl, sym, ap, ◌∙◌, subst, arith, inl, inr, option_map, eqb-true, ne_eqb, get_or-set_same, get_or-set_other, ◌++◌}
use Rattle.std.specs.Prelude.{slice_set, get_or}
use Rattle.std.proofs.lemmas.Bool.{cases_Bool, cases_eq, cases_lt, or_parts, le-ltb}
use Rattle.std.proofs.lemmas.List.{get_or-replicate, get_or_past, length-replicate, length-set}
use Rattle.std.proofs.lemmas.List.Elements.{All-nil}
use Rattle.nvme_arbiter.specs.Limits.{queue_limit}
use Rattle.nvme_arbiter.specs.Board.{BoardView, BoardStandsAt}
use Rattle.nvme_arbiter.specs.Queues.{queue_at}
use Rattle.nvme_arbiter.specs.declared.settings.Class.TheVariants.{Admin}
use Rattle.nvme_arbiter.specs.declared.pick.OpenQueue.{OpenQueue}
use Rattle.nvme_admin.specs.Accepted.{effects_of, queue_table}
use Rattle.nvme_admin.specs.Changes.{admin_queue as admin_entry}
use Rattle.nvme_admin.specs.QueueTable.{QueueTable}
use Rattle.nvme_admin.specs.History.{Start, Placing, TableHistory, RegionAdded, Submission, Completion}
use Rattle.nvme_admin.specs.declared.region.Region.{Region}
use Rattle.nvme_admin.specs.declared.verdict.SqEntry.{SqEntry}
use Rattle.nvme_log.specs.Rules.{FrontRules, upto, sq_regions_of, cq_regions_of, slots_at}
use Rattle.nvme_log.specs.Queues.{Queue, admin_queue}
use Rattle.nvme_log.specs.Places.{entry_at, fate_of, is_waiting, one_if}
use Rattle.nvme_log.specs.Laws.{as_open}
use Rattle.nvme_ctrl_log.specs.First.{first_steps}
use Rattle.nvme_ctrl_content.specs.Shown.{HasRegionsMade}
use Rattle.nvme_ctrl_content.specs.Content.{Candidate, Attachment, Content}
use Rattle.nvme_ctrl_content.specs.Standing.{HoldsSq, HoldsReady, HoldsCounts, HoldsQueues, HoldsDeletion, HoldsLives, HoldsTable, HasOwnStatus, IsReady, IsInHand, Holds, on_board, is_on, first_queue, hand_of, held_upto, times_held}
use Rattle.nvme_ctrl_log.specs.Regions.{over_regions}
use Rattle.nvme_ctrl_content.proofs.Readying.{sum_by-none}
use Rattle.nvme_log.specs.declared.place.Place.{Place}

-- a sum over completion regions of which none has something
over_regions-none : (n : ℕ) → over_regions (λ (c : ℕ). 0) n ≡ 0
unfolding over_regions
over_regions-none zero = refl
over_regions-none (suc n) = omega (arith, over_regions-none n)

-- the admin queues of the empty log are those of the table
as_first : (b : Bool) → (if b then Some admin_queue else None) ≡ as_open (if b then Some admin_entry else None)
as_first true = refl
as_first false = refl

-- what stands only for 0
only_zero : {A : Type 0} (q : ℕ) (x y : A) → (if q == 0 then Some x else None) ≡ Some y → (q ≡ 0) × (x ≡ y)
only_zero q x y h = elim (cases_Bool (q == 0)) [
  | inl z ↦ let e = sym (λ j. if z j then Some x else None) ∙ h in (eqb-true q 0 z, cc)
  | inr n ↦ let e = sym (λ j. if n j then Some x else None) ∙ h in cc
]

-- a choice, on both sides
choice : {A B : Type 0} (g : A → B) (b : Bool) (x : A) (y : B) → y ≡ g x → (if b then Some y else None) ≡ option_map g (if b then Some x else None)
choice g true x y e = ap Some e
choice g false x y e = refl

-- no number is below 0
none_served : (i : ℕ) (b : Bool) → one_if (nat_lt i 0 && b) ≡ 0
none_served i b = ap (λ (x : Bool). one_if (x && b)) (le-ltb i 0 (omega arith))

-- each element of a list of one thing is that thing, also past its end
pub same_each : {A : Type 0} (n i : ℕ) (a : A) → get_or (replicate n a) i a ≡ a
same_each n i a = elim (cases_lt i n) [
  | inl below ↦ get_or-replicate n i a a below
  | inr past ↦ get_or_past (replicate n a) i a (omega (arith, past, length-replicate n a))
]

-- region 0 is the admin queue's, and posts to completion region 0
abbrev first_attachment : Attachment
first_attachment = record { qid = 0; cq_region = 0 }

-- the admin queue, on region 0, is kept alone
abbrev pub first_life : ℕ → Option ℕ
first_life q = if q == 0 then Some 0 else None

-- ---- the table of a controller with its admin regions alone
abbrev pub first_history : Option Placing → (sq_address sq_slots cq_address cq_slots : ℕ) → TableHistory
first_history placing sq_address sq_slots cq_address cq_slots = RegionAdded Completion cq_address cq_slots ∷ RegionAdded Submission sq_address sq_slots ∷ first_steps placing

-- it has the admin queues alone
pub record HasFirst (t : QueueTable) (sq_address sq_slots cq_address cq_slots : ℕ) : Type 0 where
  pub sq : (q : ℕ) → t.sq q ≡ (if q == 0 then Some admin_entry else None)
  pub cq : (q : ℕ) → t.cq q ≡ (if q == 0 then Some 0 else None)
  pub used : (r : ℕ) → t.sq_region_used r ≡ (r == 0 || false)
  pub cq_used : (r : ℕ) → t.cq_region_used r ≡ (r == 0 || false)
  pub sq_regions : t.sq_regions ≡ record { address = sq_address; slots = sq_slots } ∷ []
  pub cq_regions : t.cq_regions ≡ record { address = cq_address; slots = cq_slots } ∷ []
  pub sqs_made : t.sqs_made ≡ 0
  pub cqs_made : t.cqs_made ≡ 0

has_first : (start : Start) (placing : Option Placing) (sq_address sq_slots cq_address cq_slots : ℕ)
    → HasFirst (queue_table start (first_history placing sq_address sq_slots cq_address cq_slots)) sq_address sq_slots cq_address cq_slots
unfolding effects_of queue_table
has_first start None sq_address sq_slots cq_address cq_slots = record {
  sq = λ q. refl;
  cq = λ q. refl;
  used = λ r. refl;
  cq_used = λ r. refl;
  sq_regions = refl;
  cq_regions = refl;
  sqs_made = refl;
  cqs_made = refl;
}
has_first start (Some p) sq_address sq_slots cq_address cq_slots = record {
  sq = λ q. refl;
  cq = λ q. refl;
  used = λ r. refl;
  cq_used = λ r. refl;
  sq_regions = refl;
  cq_regions = refl;
  sqs_made = refl;
  cqs_made = refl;
}

-- the content of a controller with its admin regions alone
abbrev pub first_content : FrontRules → BoardView → Content
first_content rules board = record {
  sq = λ (r : ℕ). record { got = []; window = []; fetched = 0; unposted = 0; queue = first_queue r; slots = slots_at (sq_regions_of rules) r };
  cq = λ (c : ℕ). record { sent = []; posted = 0; ready = []; slots = slots_at (cq_regions_of rules) c };
  nsq = 1;
  ncq = 1;
  board = board;
  table = queue_table rules.start rules.regions;
  outstanding = 0;
  deletion = λ (r : ℕ). None;
  hand = [];
  held = λ r. false;
  classed = λ r. None;
  sq_life = first_life;
  sq_id = first_life;
  cq_life = first_life;
  cq_id = first_life;
}

module _ (rules : FrontRules) (placing : Option Placing) (sq_address sq_slots cq_address cq_slots : ℕ)
    (regions_are : rules.regions ≡ first_history placing sq_address sq_slots cq_address cq_slots) where
  pub first_table : HasFirst (queue_table rules.start rules.regions) sq_address sq_slots cq_address cq_slots
  first_table =
      subst (λ (h : TableHistory). HasFirst (queue_table rules.start h) sq_address sq_slots cq_address cq_slots) (sym regions_are)
      (has_first rules.start placing sq_address sq_slots cq_address cq_slots)

  -- the admin regions are the first ones
  pub first_sq_regions : sq_regions_of rules ≡ record { address = sq_address; slots = sq_slots } ∷ []
  first_sq_regions = first_table.sq_regions

  pub first_cq_regions : cq_regions_of rules ≡ record { address = cq_address; slots = cq_slots } ∷ []
  first_cq_regions = first_table.cq_regions

module _ (rules : FrontRules) (placing : Option Placing) (sq_address sq_slots cq_address cq_slots : ℕ)
    (regions_are : rules.regions ≡ first_history placing sq_address sq_slots cq_address cq_slots) (board : BoardView)
    (stands : BoardStandsAt rules.mechanism rules.start.settings [] board)
    (queues : board.queues ≡ slice_set (replicate queue_limit None) 0 (Some (record { class = Admin; count = 0 }))) where
  abbrev k : Content
  k = first_content rules board

  -- the table has the admin queues alone
  shown : HasFirst k.table sq_address sq_slots cq_address cq_slots
  shown = first_table rules placing sq_address sq_slots cq_address cq_slots regions_are

  table_sqs : length k.table.sq_regions ≡ 1
  table_sqs = ap (λ (rs : List Region). length rs) shown.sq_regions

  table_cqs : length k.table.cq_regions ≡ 1
  table_cqs = ap (λ (rs : List Region). length rs) shown.cq_regions

  -- the board has the admin queue alone
  board_has : (q : ℕ) → queue_at board.queues q ≡ (if q == 0 then Some (record { class = Admin; count = 0 }) else None)
  board_has q =
      let one : Option OpenQueue = Some (record { class = Admin; count = 0 }) in
      let closed : Option OpenQueue = None in
      let none : List (Option OpenQueue) = replicate queue_limit closed in
      ap (λ (qs : List (Option OpenQueue)). queue_at qs q) queues ∙ elim (cases_eq q 0) [
        | inl z ↦ ap (λ (x : ℕ). queue_at (slice_set none 0 one) x) z
            ∙ get_or-set_same none 0 one None (omega (arith, length-replicate queue_limit closed))
            ∙ sym (ap (λ (x : ℕ). (if x == 0 then one else None)) z)
        | inr other ↦ get_or-set_other none 0 q one None other ∙ same_each queue_limit q None
            ∙ sym (λ j. if (ne_eqb q 0 other) j then one else None)
      ]

  -- no place is held
  first_sq : (r : ℕ) → HoldsSq [] r (k.sq r)
  first_sq r = record {
    fetched_is = refl;
    counted = refl;
    waiting_is = refl;
    entries = All-nil (λ (c : Candidate). entry_at [] r c.index ≡ Some c.entry);
    few_waiting = omega arith;
    few_picked = omega arith;
    none_aborted = λ i le. refl;
    none_posted = λ i le. refl;
  }

  -- and none is in hand
  none_held : (n : ℕ) → held_upto (λ r. None) n ≡ []
  unfolding held_upto
  none_held zero = refl
  none_held (suc n) = ap (λ (ps : List Place). ps ++ []) (none_held n)

  -- nothing is ready
  first_ready : HoldsReady [] k (hand_of k)
  first_ready = record {
    once = λ r i. (λ j. over_regions-none 1 j + 0 + times_held r i (none_held 1 j)) ∙ sym (none_served i (not (is_waiting (fate_of [] r i))));
    each = λ c. All-nil (IsReady [] (λ r. None) c);
    taken = (λ j. over_regions-none 1 j + length (none_held 1 j));
    none_beyond = λ c le. refl;
    admin_qid = refl;
    admin_region = refl;
  }

  -- nothing is outstanding
  first_counts : HoldsCounts rules [] k
  first_counts = record {
    unposted = λ r. refl;
    outstanding_is = sym (sum_by-none (upto (length (sq_regions_of rules))));
  }

  -- the admin queues alone are open
  first_queues : HoldsQueues [] k
  first_queues = record {
    sqs = λ q. as_first (q == 0) ∙ ap as_open (sym (shown.sq q));
    cqs = λ q. sym (shown.cq q);
    board = λ q. board_has q ∙ choice (on_board k) (q == 0) admin_queue (record { class = Admin; count = 0 }) refl;
    board_size =
        let closed : Option OpenQueue = None in
        ap (λ (qs : List (Option OpenQueue)). length qs) queues ∙ length-set (replicate queue_limit closed) 0 (Some (record { class = Admin; count = 0 })) ∙ length-replicate queue_limit closed;
    few = λ q queue h. let z : q ≡ 0 = (only_zero q admin_queue queue h).0 in omega arith;
    cq_there = λ q c h. let z : 0 ≡ c = (only_zero q 0 c h).1 in omega arith;
    qid_is = λ r. choice (λ (a : Attachment). a.qid) (r == 0) first_attachment 0 refl;
    cq_region_is = λ r. choice (λ (a : Attachment). a.cq_region) (r == 0) first_attachment 0 refl;
    attached = λ q queue h.
        let only = only_zero q admin_queue queue h in
        record {
          cq_region = 0;
          attached = subst (λ (x : Queue). first_queue x.region ≡ Some (record { qid = q; cq_region = 0 })) only.1
              (ap (λ (n : ℕ). Some (record { qid = n; cq_region = 0 })) (sym only.0));
        };
    sq_there = λ r a h. let z : r ≡ 0 = (only_zero r first_attachment a h).0 in omega arith;
    posts_there = λ r a h. subst (λ (x : Attachment). x.cq_region < 1) (only_zero r first_attachment a h).1 (omega arith);
    unused = λ r h.
        let other : (r == 0) ≡ false = (or_parts (r == 0) false (sym (shown.used r) ∙ h)).0 in
        (λ j. if other j then Some first_attachment else None);
    unopened = λ r h. record { nothing_got = refl; not_closed = refl };
    gone = λ r h. cc;
    deleting = λ r d h. cc;
    closed = λ q r queue h. cc;
  }

  -- no deletion is pending
  first_deletion : HoldsDeletion [] k
  first_deletion = record {
    place_is = λ r. refl;
    stands = λ r d h. cc;
  }

  -- the admin queues alone are kept
  first_lives : HoldsLives [] k
  first_lives = record {
    sqs = λ q queue h.
        let only = only_zero q admin_queue queue h in
        ap first_life only.0 ∙ ap (λ (x : Queue). Some x.region) only.1;
    deleted = λ r d h. cc;
    cqs = λ q. refl;
    not_closed = λ q r h. refl;
    named = λ q r h.
        let only = only_zero q 0 r h in
        ap first_life (sym only.1) ∙ ap (λ (x : ℕ). Some x) (sym only.0);
    in_table = λ q r h.
        let only = only_zero q 0 r h in
        ap (λ (o : Option SqEntry). is_on r o) (shown.sq q ∙ ap (λ (x : ℕ). if x == 0 then Some admin_entry else None) only.0) ∙ ap (λ (x : ℕ). 0 == x) (sym only.1);
    there = λ r q h fresh.
        let only = only_zero r 0 q h in
        ap first_life (sym only.1) ∙ ap (λ (x : ℕ). Some x) (sym only.0);
    unopened = λ x h. (or_parts (x == 0) false (sym (shown.cq_used x) ∙ h)).0;
  }

  -- the table is that of the regions
  first_tabled : HoldsTable rules false [] k
  first_tabled = record {
    history = rules.regions;
    table_is = refl;
    few_queues = λ q entry h. let z : q ≡ 0 = (only_zero q admin_entry entry (sym (shown.sq q) ∙ h)).0 in omega arith;
    placing = refl;
    in_time = λ h. refl;
    history_is = λ h. refl;
    sq_count = table_sqs;
    cq_count = table_cqs;
    sq_number = table_sqs;
    cq_number = table_cqs;
    sq_slots = λ r. refl;
    cq_slots = λ c. refl;
    sq_regions_are = refl;
    cq_regions_are = refl;
  }

  -- no queue was created
  pub first_made : HasRegionsMade k
  first_made = record {
    sqs = λ some. ap (λ (n : ℕ). suc n) (sym shown.sqs_made);
    cqs = λ some. ap (λ (n : ℕ). suc n) (sym shown.cqs_made);
  }

  -- all of it
  pub first_holds : Holds rules false [] k
  first_holds = record {
    regions = first_sq;
    ready = first_ready;
    hand = record { each = All-nil (IsInHand []) };
    counts = first_counts;
    posts = record { posted_is = λ c. refl; counted = λ c. refl };
    queues = first_queues;
    deletion = first_deletion;
    lives = first_lives;
    arbitration = record { stands = stands; lawful = tt };
    tabled = first_tabled;
    own = λ on_time. record { effects_whole = refl; own_statuses = λ c. All-nil (HasOwnStatus rules []); own_deletion = λ r d h. cc };
  }
